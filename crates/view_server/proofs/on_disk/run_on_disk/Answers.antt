use Rattle.std.proofs.Common.{◌≡◌, ◌⊎◌, ◌∙◌, List, ℕ, sym, subst}
use Rattle.image_opening.specs.Images.{IsImageIn}
use Rattle.database_opening.specs.Crashes.{KeepsImage}
use Rattle.database_opening.proofs.Leaving.{safe_then}
use Rattle.image_opening.specs.Telling.{Refuses}
use Rattle.database_opening.specs.Opened.{OpensAs}
use Rattle.view_server.proofs.OnDisk.{counted_so, ends_with, exact_so, closed_well, ran_lines, ran_told}
use Rattle.view_server.proofs.on_disk.run_on_disk.Goals as goal

pub returns-in-Ok-clause-ran : goal.returns-in-Ok-clause-ran
returns-in-Ok-clause-ran g c = λ name input before opened e w.
    ran_lines g.O.Disk.Disk.is_told g.O.Disk.Disk.size_of g.O.Disk.Disk.seen g.O.Disk.Disk.may_leave g.O.Disk.Disk.moment g.O.Disk.Disk.left_since g.O.Disk.Disk.faults c.in-Ok.core
    (λ bytes. g.O.Disk.Disk.is_told × (g.O.Disk.Disk.seen c.args.disk ≡ bytes)) _ _ _ _ _
    (λ bytes there. subst (λ (x : List ℕ). OpensAs g.O.Disk.Disk.is_told g.O.Disk.Disk.size_of g.O.Disk.Disk.seen g.O.Disk.Disk.may_leave g.O.Disk.Disk.moment g.O.Disk.Disk.left_since g.O.Disk.Disk.faults x c.in-Ok.core) there.1 (c.in-Ok.ensures.recovered there.0))
    c.in-Ok.ensures.opened.0 c.in-Ok.ensures.opened.1 c.run_core-lines.result.0 c.ended.result (ends_with c.run_core-lines.result.0 c.close_disk.result c.ended.result c.ended.ensures)
    input before _ _ (c.run_core-lines.ensures.taken input e) (λ q here. c.run_core-lines.ensures.output q here input before e w)
    (λ q here told tells. record { disk = _; there = c.close_disk.ensures.closed told name (opened told); sound = closed_well c.run_core-lines.result.0 c.close_disk.result c.ended.result c.ended.ensures _ c.close_disk.ensures.sound; kept = c.run_core-lines.ensures.kept tells q here input before e w })

pub returns-in-Err-clause-ran : goal.returns-in-Err-clause-ran
returns-in-Err-clause-ran g c = λ name input before opened e w.
    ran_told (λ bytes. g.O.Disk.Disk.is_told × (g.O.Disk.Disk.seen c.args.disk ≡ bytes)) _ _ _ _ _ c.in-Err.refused.fault
    (λ bytes there. subst (λ (x : List ℕ). Refuses x c.in-Err.refused.fault) there.1 (c.in-Err.ensures.refused there.0))
    (λ bytes is there told. record { disk = _; there = c.close_disk-in-Err.ensures.closed told name (opened told); reads = c.in-Err.ensures.untouched there.0 is ∙ there.1 })
    (λ bytes there i im told. record {
      disk = _;
      there = c.close_disk-in-Err.ensures.closed told name (opened told);
      safe = subst (λ (s : List ℕ). (left : List ℕ) → g.O.Disk.Disk.may_leave c.in-Err.refused.disk left → g.O.Disk.Disk.may_leave c.args.disk left ⊎ KeepsImage s i left) there.1
          (safe_then g.O.Disk.Disk.is_told g.O.Disk.Disk.size_of g.O.Disk.Disk.seen g.O.Disk.Disk.may_leave g.O.Disk.Disk.moment g.O.Disk.Disk.left_since g.met.O.Disk.Disk.only_now g.met.O.Disk.Disk.counts_now (g.O.Disk.Disk.seen c.args.disk) i c.args.disk c.in-Err.refused.disk
          (c.in-Err.ensures.crash there.0 i (subst (λ (s : List ℕ). IsImageIn s i) (sym there.1) im)));
    })
    c.tell_refusal-status.result (c.tell_refusal-status.ensures.counts (g.O.Disk.Disk.faults c.in-Err.refused.disk) _ _ (counted_so c.in-Err.refused.fault _ _ c.requires.sound c.in-Err.ensures.cause) c.close_disk-in-Err.ensures.cause) input before _ _ e (c.tell_refusal-status.ensures.told before w)

pub returns-in-Err-clause-disk_faults : goal.returns-in-Err-clause-disk_faults
returns-in-Err-clause-disk_faults g c =
    exact_so c.tell_refusal-status.result _ _ (c.tell_refusal-status.ensures.counts (g.O.Disk.Disk.faults c.in-Err.refused.disk) _ _ (counted_so c.in-Err.refused.fault _ _ c.requires.sound c.in-Err.ensures.cause) c.close_disk-in-Err.ensures.cause)
