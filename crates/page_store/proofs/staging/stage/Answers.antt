use Rattle.std.proofs.Common.{◌+◌, ◌-◌, ◌*◌, ℕ, List, length, take, length-take, drop, length-drop, subst, refl, sym, ◌∙◌, ap, arith}
use Rattle.std.proofs.lemmas.List.{take_rest}
use Rattle.disk_io.specs.Disk.{splice}
use Rattle.page_store.specs.Image.{map_byte}
use Rattle.page_store.specs.Kept.{IsOld, Staged}
use Rattle.page_store.proofs.Free.{area_free, body_free}
use Rattle.page_store.proofs.Runs.{ok_of, keeps_then, keeps_less}
use Rattle.page_store.proofs.Laid.{staged, map_behind, map_is}
use Rattle.page_store.proofs.staging.stage.Goals as goal

pub returns-in_err-write_apart-clause-crash : goal.returns-in_err-write_apart-clause-crash
returns-in_err-write_apart-clause-crash g c s beside other guards =
    let a = c.args in
    let n = length a.stored.now in
    let area = area_free a.room n a.kept s beside.names c.area_place.result a.facts.now.area (length a.first_block.now) c.area_place.ensures c.requires.area (other a.kept) c.requires.block in
    let one = c.write_pages.ensures.crash a.kept s beside guards in
    keeps_then g.D.Disk.moment g.D.Disk.left_since g.D.Disk.may_leave a.room n a.kept s a.disk.now c.write_pages.new.disk c.write_apart.new.disk one (c.write_apart.ensures.crash a.room n a.kept s area one.guards)

pub returns-in_err-write_apart-2-clause-crash : goal.returns-in_err-write_apart-2-clause-crash
returns-in_err-write_apart-2-clause-crash g c s beside other guards =
    let a = c.args in
    let n = length a.stored.now in
    let area = area_free a.room n a.kept s beside.names c.area_place.result a.facts.now.area (length a.first_block.now) c.area_place.ensures c.requires.area (other a.kept) c.requires.block in
    let one = c.write_pages.ensures.crash a.kept s beside guards in
    let two = keeps_then g.D.Disk.moment g.D.Disk.left_since g.D.Disk.may_leave a.room n a.kept s a.disk.now c.write_pages.new.disk c.write_apart.new.disk one (c.write_apart.ensures.crash a.room n a.kept s area one.guards) in
    let body = take (length c.set_fields.new.header - 1) (drop 1 c.set_fields.new.header) in
    let free = body_free a.room n a.kept s beside.names ((1 - a.kept) * 139264 + 1) (length body) refl (omega (arith, length-drop 1 c.set_fields.new.header, length-take (length c.set_fields.new.header - 1) (drop 1 c.set_fields.new.header))) in
    keeps_then g.D.Disk.moment g.D.Disk.left_since g.D.Disk.may_leave a.room n a.kept s a.disk.now c.write_apart.new.disk c.write_apart-2.new.disk two (c.write_apart-2.ensures.crash a.room n a.kept s free two.guards)

pub returns-clause-crash : goal.returns-clause-crash
returns-clause-crash g c s beside other guards =
    let laws = g.met.D.Disk in
    let a = c.args in
    let n = length a.stored.now in
    let area = area_free a.room n a.kept s beside.names c.area_place.result a.facts.now.area (length a.first_block.now) c.area_place.ensures c.requires.area (other a.kept) c.requires.block in
    let one = c.write_pages.ensures.crash a.kept s beside guards in
    let two = keeps_then g.D.Disk.moment g.D.Disk.left_since g.D.Disk.may_leave a.room n a.kept s a.disk.now c.write_pages.new.disk c.write_apart.new.disk one (c.write_apart.ensures.crash a.room n a.kept s area one.guards) in
    let body = take (length c.set_fields.new.header - 1) (drop 1 c.set_fields.new.header) in
    let free = body_free a.room n a.kept s beside.names ((1 - a.kept) * 139264 + 1) (length body) refl (omega (arith, length-drop 1 c.set_fields.new.header, length-take (length c.set_fields.new.header - 1) (drop 1 c.set_fields.new.header))) in
    let three = keeps_then g.D.Disk.moment g.D.Disk.left_since g.D.Disk.may_leave a.room n a.kept s a.disk.now c.write_apart.new.disk c.write_apart-2.new.disk two (c.write_apart-2.ensures.crash a.room n a.kept s free two.guards) in
    keeps_then g.D.Disk.moment g.D.Disk.left_since g.D.Disk.may_leave a.room n a.kept s a.disk.now c.write_apart-2.new.disk c.sync.new.self three
    (keeps_less g.D.Disk.moment g.D.Disk.left_since g.D.Disk.may_leave a.room n a.kept s laws.only_now c.write_apart-2.new.disk c.sync.new.self three.guards c.sync.ensures.crash c.sync.ensures.time)

pub returns-clause-old : goal.returns-clause-old
returns-clause-old g c told s beside other old =
    let laws = g.met.D.Disk in
    let a = c.args in
    let n = length a.stored.now in
    let area = area_free a.room n a.kept s beside.names c.area_place.result a.facts.now.area (length a.first_block.now) c.area_place.ensures c.requires.area (other a.kept) c.requires.block in
    let body = take (length c.set_fields.new.header - 1) (drop 1 c.set_fields.new.header) in
    let free = body_free a.room n a.kept s beside.names ((1 - a.kept) * 139264 + 1) (length body) refl (omega (arith, length-drop 1 c.set_fields.new.header, length-take (length c.set_fields.new.header - 1) (drop 1 c.set_fields.new.header))) in
    let old1 = c.in_ok-write_pages.ensures.old told a.kept s beside old in
    let old2 = c.in_ok-write_apart.ensures.old told a.room n a.kept s area old1 in
    let old3 = c.in_ok-write_apart-2.ensures.old told a.room n a.kept s free old2 in
    ok_of _ c.sync.result (subst (IsOld a.room n a.kept s) (sym (c.sync.ensures.seen told)) old3)

pub returns-clause-staged : goal.returns-clause-staged
returns-clause-staged g c told low tracks =
    let laws = g.met.D.Disk in
    let a = c.args in
    let f = a.facts.now in
    let block = a.first_block.now in
    let n = length a.stored.now in
    let d1 = g.D.Disk.seen c.write_pages.new.disk in
    let map = c.write_pages.new.header in
    let header = c.set_fields.new.header in
    let body_at = (1 - a.kept) * 139264 + 1 in
    let is = c.sync.ensures.seen told ∙ c.in_ok-write_apart-2.ensures.written told ∙ ap (λ (l : List ℕ). splice body_at l (g.D.Disk.seen c.write_apart.new.disk)) (take_rest header 1)
    ∙ ap (splice body_at (drop 1 header)) (c.in_ok-write_apart.ensures.written told ∙ ap (λ at. splice at block d1) c.area_place.ensures) in
    let size = laws.has_size told c.write_pages.new.disk ∙ c.write_pages.ensures.size ∙ c.requires.disk in
    let bytes = c.set_fields.ensures.bytes in
    let all = staged a.room a.kept f block map header d1 a.stored.now a.bytes.now c.requires.kept size c.requires.few c.requires.area c.requires.block (omega arith)
    bytes c.set_fields.ensures.in_range (map_behind f n a.room (length block - 1) map header bytes) (c.in_ok-write_pages.ensures.pages told low tracks) in
    ok_of _ c.sync.result (subst (Staged a.room a.kept f block a.stored.now a.bytes.now) (sym is) all)

pub returns-clause-unchanged : goal.returns-clause-unchanged
returns-clause-unchanged g c told low =
    let laws = g.met.D.Disk in
    let a = c.args in
    let f = a.facts.now in
    let block = a.first_block.now in
    let n = length a.stored.now in
    let d1 = g.D.Disk.seen c.write_pages.new.disk in
    let map = c.write_pages.new.header in
    let header = c.set_fields.new.header in
    let body_at = (1 - a.kept) * 139264 + 1 in
    let is = c.sync.ensures.seen told ∙ c.in_ok-write_apart-2.ensures.written told ∙ ap (λ (l : List ℕ). splice body_at l (g.D.Disk.seen c.write_apart.new.disk)) (take_rest header 1)
    ∙ ap (splice body_at (drop 1 header)) (c.in_ok-write_apart.ensures.written told ∙ ap (λ at. splice at block d1) c.area_place.ensures) in
    let size = laws.has_size told c.write_pages.new.disk ∙ c.write_pages.ensures.size ∙ c.requires.disk in
    let bytes = c.set_fields.ensures.bytes in
    let here = map_is a.room a.kept f block map header d1 a.stored.now a.bytes.now c.requires.kept size c.requires.few c.requires.area c.requires.block (omega arith) in
    ok_of _ c.sync.result (λ p lt same. ap (map_byte (1 - a.kept) p) is ∙ here p lt ∙ map_behind f n a.room (length block - 1) map header bytes p ∙ c.in_ok-write_pages.ensures.unchanged told low p lt same)
