use Rattle.std.proofs.Common.{◌≡◌, ◌≢◌, ℕ, ◌-◌, List, ◌++◌, get_or, sym, ◌∙◌, ap, subst}
use Rattle.std.specs.Prelude.{OnOk}
use Rattle.std.proofs.lemmas.List.{append-nil}
use Rattle.std.proofs.lemmas.Result.{err_from_is_err_and}
use Rattle.page_store.specs.Image.{slot_at}
use Rattle.txn_log.specs.Damaged.{Found}
use Rattle.image_finding.specs.Faults.{IfBad, FindFaults}
use Rattle.image_entries.specs.Entries.{Gathers, TellsTwice}
use Rattle.image_entries.proofs.Apart.{on_page, leaf_on, no_page}
use Rattle.image_entries.proofs.gather.take_next.Goals as goal

pub returns-then-byte-eq0-clause-taken : goal.returns-then-byte-eq0-clause-taken
returns-then-byte-eq0-clause-taken g c = λ told fs gathers.
    let s = g.D.Disk.seen c.args.disk.now in
    let image = c.args.image.now in
    let zero_byte : get_or image.map c.args.n 0 ≡ 0 = ap (λ (bs : List ℕ). get_or bs c.args.n 0) (sym c.as_slice.ensures) ∙ c.if-byte-eq0.true in
    subst (λ (gs : List Found). Gathers c.args.entries.now.entries (fs ++ gs)) (sym (no_page image.header.area_bytes c.args.n (get_or image.map c.args.n 0) s zero_byte))
    (subst (Gathers c.args.entries.now.entries) (sym (append-nil fs)) gathers)

pub returns-in_err-read_page-clause-taken : goal.returns-in_err-read_page-clause-taken
returns-in_err-read_page-clause-taken g c = λ told fs gathers. let p = err_from_is_err_and c.from_residual.result c.from_residual.ensures.1 in rw p.1 tt

pub returns-in_err-read_page-clause-twice : goal.returns-in_err-read_page-clause-twice
returns-in_err-read_page-clause-twice g c = λ told has fs rest gathers. let p = err_from_is_err_and c.from_residual.result c.from_residual.ensures.1 in rw (p.1, p.2) tt

pub returns-clause-taken : goal.returns-clause-taken
returns-clause-taken g c = λ told fs gathers.
    let s = g.D.Disk.seen c.args.disk.now in
    let image = c.args.image.now in
    let byte : get_or c.as_slice.result.now c.args.n 0 ≡ get_or image.map c.args.n 0 = ap (λ (bs : List ℕ). get_or bs c.args.n 0) c.as_slice.ensures in
    let some : get_or image.map c.args.n 0 ≢ 0 = λ e. c.if-byte-eq0.false (byte ∙ e) in
    let page = on_page c.in_ok-read_page.field-0 image.header.area_bytes c.args.n (get_or image.map c.args.n 0) c.slot_place.result s c.read_page.new.into some
    (c.slot_place.ensures ∙ ap (λ b. slot_at image.header.area_bytes c.args.n (b - 1)) byte) (c.in_ok-read_page.ensures.page told) in
    subst (λ (gs : List Found). OnOk c.take_stored.result (Gathers c.take_stored.new.entries.entries (fs ++ gs))) page (c.take_stored.ensures.taken fs gathers)

pub returns-clause-twice : goal.returns-clause-twice
returns-clause-twice g c = λ told has fs rest gathers.
    let s = g.D.Disk.seen c.args.disk.now in
    let image = c.args.image.now in
    let byte : get_or c.as_slice.result.now c.args.n 0 ≡ get_or image.map c.args.n 0 = ap (λ (bs : List ℕ). get_or bs c.args.n 0) c.as_slice.ensures in
    let some : get_or image.map c.args.n 0 ≢ 0 = λ e. c.if-byte-eq0.false (byte ∙ e) in
    let named = c.in_ok-read_page.ensures.page told in
    let leaf = leaf_on c.in_ok-read_page.field-0 image.header.area_bytes c.args.n (get_or image.map c.args.n 0) s c.read_page.new.into some named (c.in_ok-read_page.ensures.leaf told has) in
    let page = on_page c.in_ok-read_page.field-0 image.header.area_bytes c.args.n (get_or image.map c.args.n 0) c.slot_place.result s c.read_page.new.into some
    (c.slot_place.ensures ∙ ap (λ b. slot_at image.header.area_bytes c.args.n (b - 1)) byte) named in
    subst (λ (gs : List Found). IfBad c.take_stored.result (λ bad. TellsTwice (fs ++ (gs ++ rest)) bad)) page (c.take_stored.ensures.twice leaf fs rest gathers)

pub returns-clause-cause : goal.returns-clause-cause
returns-clause-cause g c =
    let old = g.D.Disk.faults c.args.disk.now in
    let same : g.D.Disk.faults c.read_page.new.disk ≡ old = c.in_ok-read_page.ensures.cause in
    subst (λ n. FindFaults c.take_stored.result old n) (sym same) (c.take_stored.ensures.no_disk old)
