use Rattle.std.proofs.Common.{[], sym, subst}
use Rattle.std.proofs.lemmas.Result.{err_from_is_err_and}
use Rattle.image_entries.specs.Entries.{Gathers}
use Rattle.image_entries.proofs.Gathering.{gathers_none}
use Rattle.image_entries.proofs.Taking.{told_so}
use Rattle.image_entries.proofs.Apart.{keys_fail, keys_stand}
use Rattle.image_entries.proofs.gather.gather_entries.Goals as goal

pub returns-in_err-page-clause-found : goal.returns-in_err-page-clause-found
returns-in_err-page-clause-found g c = λ told has. let p = err_from_is_err_and c.from_residual.result c.from_residual.ensures.1 in rw p.1 tt

pub returns-in_err-page-clause-stands : goal.returns-in_err-page-clause-stands
returns-in_err-page-clause-stands g c = λ told has. let p = err_from_is_err_and c.from_residual.result c.from_residual.ensures.1 in rw p.1 tt

pub returns-in_err-page-clause-refused : goal.returns-in_err-page-clause-refused
returns-in_err-page-clause-refused g c = λ told has. let p = err_from_is_err_and c.from_residual.result c.from_residual.ensures.1 in rw (p.1, p.2) tt

pub returns-in-Ok-clause-found : goal.returns-in-Ok-clause-found
returns-in-Ok-clause-found g c = λ told has.
    c.in-Ok.ensures.taken told (subst (λ m. Gathers m []) (sym c.new-entries.ensures.entries) gathers_none)

pub returns-in-Ok-clause-stands : goal.returns-in-Ok-clause-stands
returns-in-Ok-clause-stands g c = λ told has.
    keys_stand (g.D.Disk.seen c.args.disk.now) c.args.image.now has c.take_pages.new.entries.entries
    (c.in-Ok.ensures.taken told (subst (λ m. Gathers m []) (sym c.new-entries.ensures.entries) gathers_none))

pub returns-clause-refused : goal.returns-clause-refused
returns-clause-refused g c = λ told has.
    told_so c.in-Err.fault _ _ (λ bad tells. keys_fail (g.D.Disk.seen c.args.disk.now) c.args.image.now has bad tells)
    (c.in-Err.ensures.twice told has (subst (λ m. Gathers m []) (sym c.new-entries.ensures.entries) gathers_none))
