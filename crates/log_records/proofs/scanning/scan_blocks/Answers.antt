use Rattle.std.proofs.Common.{length, map, sym, ◌∙◌, ap}
use Rattle.log_records.specs.Scan.{frames, framed, all_records, of_frames, scanned}
use Rattle.log_records.proofs.AllSteps.{answers_along, scanned_is}
use Rattle.log_records.proofs.RecordSteps.{fails_along}
use Rattle.log_records.proofs.scanning.scan_blocks.Goals as goal

pub returns-in-Ok : goal.returns-in-Ok
returns-in-Ok c =
    let area = c.args.area.now in
    let same = ap (map (framed area)) (sym c.deref.ensures.value) in
    answers_along _ c.read_all.result _ (scanned area) (scanned_is area ∙ ap of_frames c.in-Ok.ensures.all ∙ ap all_records same) c.read_all.ensures

pub returns-in-Err : goal.returns-in-Err
returns-in-Err c =
    let area = c.args.area.now in
    fails_along c.in-Err.fault (frames (length area) 0 area) (scanned area) (λ f bad. scanned_is area ∙ ap of_frames bad) c.in-Err.ensures.all
