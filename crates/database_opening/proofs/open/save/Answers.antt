use Rattle.std.proofs.Common.{◌+◌, [], refl, sym, ap, subst, ◌∙◌, arith}
use Rattle.std.proofs.lemmas.Result.{IfOk-weaker}
use Rattle.std.specs.FinMap.{empty}
use Rattle.txn_machine.specs.Log.{block_bytes}
use Rattle.wal_log.specs.Log.{LogState}
use Rattle.ordered_index.specs.Tree.{map_of, limit_of}
use Rattle.core_journal.specs.Records.{Records, begun, restarted}
use Rattle.disk_io.specs.Disk.{LeavesOnly}
use Rattle.txn_log.specs.Damaged.{FitsDevice}
use Rattle.image_finding.specs.Headers.{as_header}
use Rattle.log_journal.specs.Standing.{maps_limit, disk_of}
use Rattle.database_opening.specs.Crashes.{IsAsBefore}
use Rattle.database_opening.proofs.Beginning.{same_entries}
use Rattle.database_opening.proofs.Leaving.{area_is, pages_are, disk_in_is, saved_leaves}
use Rattle.database_opening.proofs.open.save.Goals as goal

pub save-requires : goal.save-requires
save-requires g c =
    let rs : Records = begun (maps_limit c.restarting-journal.result) (record { maps = λ index. empty; definitions = []; commits = 0; next = 0; carried = [] }) 0 in
    (rs, c.args.next, [], block_bytes + 1, c.restarting-journal.ensures.carries rs refl, ap limit_of c.maps_mut.ensures.value ∙ (c.requires.limit ∙ sym c.restarting-journal.ensures.maps_limit))

pub begin-requires-clause-has : goal.begin-requires-clause-has
begin-requires-clause-has g c =
    let rs : Records = begun (maps_limit c.restarting-journal.result) (record { maps = λ index. empty; definitions = []; commits = 0; next = 0; carried = [] }) 0 in
    record {
      records = restarted rs (record { maps = map_of c.maps_mut.result.now; definitions = c.args.store.catalog; commits = c.args.commits; next = c.args.next; carried = [] }) (block_bytes + 1);
      has = c.in-Ok.ensures.ok.0 rs c.args.next [] (block_bytes + 1) (c.restarting-journal.ensures.carries rs refl);
      saved = ap (λ ms. record { maps = ms; definitions = c.args.store.catalog; commits = c.args.commits; next = c.args.next; carried = [] }) (sym c.in-Ok.ensures.maps);
      flushed = refl;
      waiting = refl;
      used = refl;
      saves = omega arith;
      image_limit = c.restarting-journal.ensures.maps_limit;
      limit = c.in-Ok.ensures.limit ∙ (c.restarting-journal.ensures.limit ∙ ap (λ (l : LogState). Rattle.std.proofs.Common.Some l.size) c.requires.log);
    }

pub begin-requires-clause-can : goal.begin-requires-clause-can
begin-requires-clause-can g c =
    let can = c.requires.can in
    (can.0, same_entries c.args.store c.save.new.maps c.args.header.now c.args.commits c.args.next can.0 (c.in-Ok.ensures.maps ∙ ap map_of c.maps_mut.ensures.value) (c.in-Ok.ensures.data_limit ∙ ap limit_of c.maps_mut.ensures.value) can.1)

pub returns-in-Ok-clause-opened : goal.returns-in-Ok-clause-opened
returns-in-Ok-clause-opened g c =
    IfOk-weaker c.begin.result _ _ (λ core f p can.
    f p (same_entries c.args.store c.save.new.maps c.args.header.now c.args.commits c.args.next p (c.in-Ok.ensures.maps ∙ ap map_of c.maps_mut.ensures.value) (c.in-Ok.ensures.data_limit ∙ ap limit_of c.maps_mut.ensures.value) can)) c.begin.ensures.opened

pub returns-in-Ok-clause-crash : goal.returns-in-Ok-clause-crash
returns-in-Ok-clause-crash g c = λ told p can.
    let rs : Records = begun (maps_limit c.restarting-journal.result) (record { maps = λ index. empty; definitions = []; commits = 0; next = 0; carried = [] }) 0 in
    let journal = c.restarting-journal.result in
    let carries = c.restarting-journal.ensures.carries rs refl in
    let area = area_is journal.log.size c.args.log.size c.args.header.now.area_bytes c.restarting-journal.ensures.limit (ap (λ (l : LogState). l.size) c.requires.log) in
    let pages = pages_are (as_header c.args.header.now) (g.D.Disk.size_of (disk_of journal)) journal.log.size journal.pages (subst (λ d. FitsDevice (as_header c.args.header.now) (g.D.Disk.size_of d)) (sym c.restarting-journal.ensures.disk) c.requires.fits) carries.kept.parts area in
    subst (λ d. LeavesOnly g.D.Disk.moment g.D.Disk.left_since c.args.disk d (IsAsBefore (as_header c.args.header.now) p.db (g.D.Disk.seen c.args.disk))) (sym (disk_in_is c.begin.result (disk_of c.save.new.self) c.begin.ensures.disk))
    (saved_leaves c.args.header.now c.args.store c.args.commits c.args.next p can (record { maps = map_of c.maps_mut.result.now; definitions = c.args.store.catalog; commits = c.args.commits; next = c.args.next; carried = [] })
    (ap (λ ms. record { maps = ms; definitions = c.args.store.catalog; commits = c.args.commits; next = c.args.next; carried = [] }) (ap map_of c.maps_mut.ensures.value)) journal.log.size journal.pages area pages
    g.D.Disk.moment g.D.Disk.left_since g.D.Disk.seen (disk_of journal) (disk_of c.save.new.self) c.args.disk c.restarting-journal.ensures.disk (c.save.ensures.image told rs c.args.next [] (block_bytes + 1) carries))

pub returns-in-Err-clause-crash : goal.returns-in-Err-clause-crash
returns-in-Err-clause-crash g c = λ told p can.
    let rs : Records = begun (maps_limit c.restarting-journal.result) (record { maps = λ index. empty; definitions = []; commits = 0; next = 0; carried = [] }) 0 in
    let journal = c.restarting-journal.result in
    let carries = c.restarting-journal.ensures.carries rs refl in
    let area = area_is journal.log.size c.args.log.size c.args.header.now.area_bytes c.restarting-journal.ensures.limit (ap (λ (l : LogState). l.size) c.requires.log) in
    let pages = pages_are (as_header c.args.header.now) (g.D.Disk.size_of (disk_of journal)) journal.log.size journal.pages (subst (λ d. FitsDevice (as_header c.args.header.now) (g.D.Disk.size_of d)) (sym c.restarting-journal.ensures.disk) c.requires.fits) carries.kept.parts area in
    subst (λ d. LeavesOnly g.D.Disk.moment g.D.Disk.left_since c.args.disk d (IsAsBefore (as_header c.args.header.now) p.db (g.D.Disk.seen c.args.disk))) (sym c.into_disk.ensures)
    (saved_leaves c.args.header.now c.args.store c.args.commits c.args.next p can (record { maps = map_of c.maps_mut.result.now; definitions = c.args.store.catalog; commits = c.args.commits; next = c.args.next; carried = [] })
    (ap (λ ms. record { maps = ms; definitions = c.args.store.catalog; commits = c.args.commits; next = c.args.next; carried = [] }) (ap map_of c.maps_mut.ensures.value)) journal.log.size journal.pages area pages
    g.D.Disk.moment g.D.Disk.left_since g.D.Disk.seen (disk_of journal) (disk_of c.save.new.self) c.args.disk c.restarting-journal.ensures.disk (c.save.ensures.image told rs c.args.next [] (block_bytes + 1) carries))
