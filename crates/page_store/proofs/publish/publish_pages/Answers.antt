use Rattle.std.proofs.Common.{ℕ, List, length, subst, refl, sym, ◌∙◌}
use Rattle.disk_io.proofs.Moments.{weaker_on, then_on}
use Rattle.page_store.specs.Image.{live}
use Rattle.page_store.specs.Kept.{kept_side, IsOld}
use Rattle.page_store.specs.Publish.{OldOrNew}
use Rattle.page_store.proofs.Old.{outside_torn}
use Rattle.page_store.proofs.Begin.{side_low, names_of, begun}
use Rattle.page_store.proofs.Runs.{ok_map}
use Rattle.page_store.proofs.Unchanged.{tracks_map, unchanged_of}
use Rattle.page_store.proofs.Whole.{at_close, at_stage, at_open, at_end}
use Rattle.page_store.proofs.publish.publish_pages.Goals as goal

pub returns-in_err-kept-clause-any_moment : goal.returns-in_err-kept-clause-any_moment
returns-in_err-kept-clause-any_moment g c told only =
    let laws = g.met.D.Disk in
    let a = c.args in
    let n = length a.stored.now in
    let d = a.disk.now in
    let s = g.D.Disk.seen d in
    let size = laws.has_size told d ∙ c.requires.disk in
    let next = c.requires.number told in
    let fits = c.requires.live_fits told in
    let P = OldOrNew a.room a.facts.now a.first_block.now a.stored.now a.bytes.now s in
    let first = kept_side (live s) in
    let standing = names_of a.room n first (g.D.Disk.size_of d) s size c.requires.few (side_low s) refl fits in
    let one = weaker_on g.D.Disk.moment g.D.Disk.left_since d c.begin.new.disk P _ (c.begin.ensures.any_moment told only)
    (at_close a.room first a.facts.now a.first_block.now a.stored.now a.bytes.now s standing next c.requires.area c.requires.block c.requires.some c.requires.room) in
    one

pub returns-in_err-stage-clause-any_moment : goal.returns-in_err-stage-clause-any_moment
returns-in_err-stage-clause-any_moment g c told only =
    let laws = g.met.D.Disk in
    let a = c.args in
    let n = length a.stored.now in
    let d = a.disk.now in
    let s = g.D.Disk.seen d in
    let size = laws.has_size told d ∙ c.requires.disk in
    let next = c.requires.number told in
    let fits = c.requires.live_fits told in
    let P = OldOrNew a.room a.facts.now a.first_block.now a.stored.now a.bytes.now s in
    let first = kept_side (live s) in
    let standing = names_of a.room n first (g.D.Disk.size_of d) s size c.requires.few (side_low s) refl fits in
    let one = weaker_on g.D.Disk.moment g.D.Disk.left_since d c.begin.new.disk P _ (c.begin.ensures.any_moment told only)
    (at_close a.room first a.facts.now a.first_block.now a.stored.now a.bytes.now s standing next c.requires.area c.requires.block c.requires.some c.requires.room) in
    let k = c.in_ok-kept.kept in
    let s1 = g.D.Disk.seen c.begin.new.disk in
    let closed = c.in_ok-kept.ensures.closed told in
    let b = begun a.room n k (g.D.Disk.size_of d) c.begin.new.header s s1 size c.requires.few c.in_ok-kept.ensures.low (c.in_ok-kept.ensures.kept told) fits (c.in_ok-kept.ensures.map told) closed in
    let other = c.requires.other_area told in
    let guards = λ (f : List ℕ) (left : g.D.Disk.may_leave c.begin.new.disk f). subst (IsOld a.room n k s) (sym (c.in_ok-kept.ensures.durable told f left)) b.old in
    let two = then_on g.D.Disk.moment g.D.Disk.left_since d c.begin.new.disk c.stage.new.disk P _ one (c.stage.ensures.crash s b.beside other guards).moments
    (at_stage a.room k a.facts.now a.first_block.now a.stored.now a.bytes.now s b.names next c.requires.area c.requires.block c.requires.some c.requires.room) in
    two

pub returns-clause-any_moment : goal.returns-clause-any_moment
returns-clause-any_moment g c told only =
    let laws = g.met.D.Disk in
    let a = c.args in
    let n = length a.stored.now in
    let d = a.disk.now in
    let s = g.D.Disk.seen d in
    let size = laws.has_size told d ∙ c.requires.disk in
    let next = c.requires.number told in
    let fits = c.requires.live_fits told in
    let P = OldOrNew a.room a.facts.now a.first_block.now a.stored.now a.bytes.now s in
    let first = kept_side (live s) in
    let standing = names_of a.room n first (g.D.Disk.size_of d) s size c.requires.few (side_low s) refl fits in
    let one = weaker_on g.D.Disk.moment g.D.Disk.left_since d c.begin.new.disk P _ (c.begin.ensures.any_moment told only)
    (at_close a.room first a.facts.now a.first_block.now a.stored.now a.bytes.now s standing next c.requires.area c.requires.block c.requires.some c.requires.room) in
    let k = c.in_ok-kept.kept in
    let s1 = g.D.Disk.seen c.begin.new.disk in
    let closed = c.in_ok-kept.ensures.closed told in
    let b = begun a.room n k (g.D.Disk.size_of d) c.begin.new.header s s1 size c.requires.few c.in_ok-kept.ensures.low (c.in_ok-kept.ensures.kept told) fits (c.in_ok-kept.ensures.map told) closed in
    let other = c.requires.other_area told in
    let guards = λ (f : List ℕ) (left : g.D.Disk.may_leave c.begin.new.disk f). subst (IsOld a.room n k s) (sym (c.in_ok-kept.ensures.durable told f left)) b.old in
    let two = then_on g.D.Disk.moment g.D.Disk.left_since d c.begin.new.disk c.stage.new.disk P _ one (c.stage.ensures.crash s b.beside other guards).moments
    (at_stage a.room k a.facts.now a.first_block.now a.stored.now a.bytes.now s b.names next c.requires.area c.requires.block c.requires.some c.requires.room) in
    let s2 = g.D.Disk.seen c.stage.new.disk in
    let old2 = c.in_ok-stage.ensures.old told s b.beside other b.old in
    let st = c.in_ok-stage.ensures.staged told b.low (tracks_map a.room k a.stored.now c.begin.new.header s s1 b.beside closed a.changed.now a.bytes.now (c.requires.tracked told)) in
    then_on g.D.Disk.moment g.D.Disk.left_since d c.stage.new.disk c.write_through.new.disk P _ two (c.write_through.ensures.any_moment told (c.in_ok-stage.ensures.durable told))
    (λ f torn. at_open a.room k a.facts.now a.first_block.now a.stored.now a.bytes.now s b.names next c.requires.area c.requires.block c.requires.some c.requires.room s2 old2 st f (outside_torn _ _ _ _ torn))

pub returns-clause-published : goal.returns-clause-published
returns-clause-published g c told =
    let laws = g.met.D.Disk in
    let a = c.args in
    let n = length a.stored.now in
    let d = a.disk.now in
    let s = g.D.Disk.seen d in
    let size = laws.has_size told d ∙ c.requires.disk in
    let next = c.requires.number told in
    let fits = c.requires.live_fits told in
    let k = c.in_ok-kept.kept in
    let s1 = g.D.Disk.seen c.begin.new.disk in
    let closed = c.in_ok-kept.ensures.closed told in
    let b = begun a.room n k (g.D.Disk.size_of d) c.begin.new.header s s1 size c.requires.few c.in_ok-kept.ensures.low (c.in_ok-kept.ensures.kept told) fits (c.in_ok-kept.ensures.map told) closed in
    let other = c.requires.other_area told in
    let s2 = g.D.Disk.seen c.stage.new.disk in
    let old2 = c.in_ok-stage.ensures.old told s b.beside other b.old in
    let st = c.in_ok-stage.ensures.staged told b.low (tracks_map a.room k a.stored.now c.begin.new.header s s1 b.beside closed a.changed.now a.bytes.now (c.requires.tracked told)) in
    ok_map _ _ c.write_through.result
    (at_end a.room k a.facts.now a.first_block.now a.stored.now a.bytes.now s b.names next c.requires.area c.requires.block c.requires.some c.requires.room s2 old2 st (g.D.Disk.seen c.write_through.new.disk))
    (c.write_through.ensures.written told)

pub returns-clause-unchanged : goal.returns-clause-unchanged
returns-clause-unchanged g c told =
    let laws = g.met.D.Disk in
    let a = c.args in
    let n = length a.stored.now in
    let d = a.disk.now in
    let s = g.D.Disk.seen d in
    let size = laws.has_size told d ∙ c.requires.disk in
    let next = c.requires.number told in
    let fits = c.requires.live_fits told in
    let k = c.in_ok-kept.kept in
    let s1 = g.D.Disk.seen c.begin.new.disk in
    let closed = c.in_ok-kept.ensures.closed told in
    let b = begun a.room n k (g.D.Disk.size_of d) c.begin.new.header s s1 size c.requires.few c.in_ok-kept.ensures.low (c.in_ok-kept.ensures.kept told) fits (c.in_ok-kept.ensures.map told) closed in
    let other = c.requires.other_area told in
    let s2 = g.D.Disk.seen c.stage.new.disk in
    let old2 = c.in_ok-stage.ensures.old told s b.beside other b.old in
    let st = c.in_ok-stage.ensures.staged told b.low (tracks_map a.room k a.stored.now c.begin.new.header s s1 b.beside closed a.changed.now a.bytes.now (c.requires.tracked told)) in
    let sizes = laws.has_size told c.stage.new.disk ∙ c.stage.ensures.size ∙ c.begin.ensures.size ∙ sym (laws.has_size told d) in
    ok_map _ _ c.write_through.result
    (unchanged_of a.room k a.stored.now a.bytes.now c.begin.new.header s s1 s2 (g.D.Disk.seen c.write_through.new.disk) c.in_ok-kept.ensures.low (c.in_ok-kept.ensures.kept told) b.beside closed sizes (c.in_ok-stage.ensures.unchanged told b.low))
    (c.write_through.ensures.written told)
