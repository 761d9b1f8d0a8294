use Rattle.std.proofs.Common.{◌≡◌, take, sym, subst, ap, ◌∙◌}
use Rattle.std.proofs.lemmas.Result.{IfOk-weaker}
use Rattle.disk_io.specs.Events.{MayLeave, fits_take}
use Rattle.disk_io.specs.Images.{image_of}
use Rattle.disk_io.specs.Memory.{first_of, record_of, bytes_of}
use Rattle.disk_io.proofs.Crashes.{image_left}
use Rattle.disk_io.proofs.memory.MemoryDisk.image.Goals as goal

pub returns-clause-crash : goal.returns-clause-crash
returns-clause-crash c =
    let disk = c.args.self.now in
    let first = first_of disk in
    let calls = take c.args.moment (record_of disk) in
    IfOk-weaker c.over.result _ (λ d. MayLeave calls first (λ b. b ≡ first) (bytes_of d))
    (λ d is. subst (MayLeave calls first (λ b. b ≡ first)) (sym (is.holds ∙ c.in_ok-bytes.ensures ∙ ap (image_of c.args.torn calls) c.deref.ensures.value)) (image_left c.args.torn calls first (fits_take c.args.moment _ (record_of disk) disk.fits) disk.of_bytes))
    c.over.ensures
