use Rattle.std.proofs.Common.{◌∙◌}
use Rattle.view_server.proofs.OnDisk.{counts_on, ran_more, reads_so, safe_so}
use Rattle.view_server.proofs.on_disk.script_on_disk.Goals as goal

pub returns-in-Ok-clause-ran : goal.returns-in-Ok-clause-ran
returns-in-Ok-clause-ran g c = λ input before e w.
    ran_more _ _ _ _ _ _ _ _ _ _ _ _ (reads_so g.O.Outside.is_told g.O.Disk.Disk.is_told g.O.Disk.Disk.size_of g.O.Disk.Disk.seen g.O.Disk.Disk.may_leave (g.O.Outside.lies c.args.outside.now c.args.file.now) c.in-Ok.disk c.in-Ok.ensures.opened) (λ bytes stays. stays)
    (λ bytes there. safe_so g.O.Outside.is_told g.O.Disk.Disk.size_of g.O.Disk.Disk.seen g.O.Disk.Disk.may_leave (g.O.Outside.lies c.args.outside.now c.args.file.now) _ c.in-Ok.disk c.in-Ok.ensures.opened bytes) (λ no. absurd no) (λ of db kept. kept)
    c.run_on_disk.result (counts_on c.run_on_disk.result _ _ _ c.in-Ok.ensures.cause) input before _ _ (c.run_on_disk.ensures.ran c.args.file.now input before (λ told. c.in-Ok.ensures.opened_as told) e w)

pub returns-in-Ok-clause-others : goal.returns-in-Ok-clause-others
returns-in-Ok-clause-others g c = λ told other apart. c.run_on_disk.ensures.others told c.args.file.now (c.in-Ok.ensures.opened_as told) other apart ∙ c.in-Ok.ensures.others told other apart
