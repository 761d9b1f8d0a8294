use Rattle.std.proofs.Common.{sym, subst}
use Rattle.std.specs.Prelude.{List}
use Rattle.std.proofs.lemmas.Int.{to_z-of_z}
use Rattle.iv_meaning.specs.Escrow as meaning
use Rattle.escrow_bounds.specs.declared.part.Part.{Part}
use Rattle.escrow_bounds.specs.Column.{Stands}
use Rattle.escrow_bounds.specs.Parts.{Keeps, parts_of}
use Rattle.escrow_bounds.proofs.KeepLemmas.{keeps_untouched, stands_untouched}
use Rattle.escrow_bounds.proofs.escrow.Escrow.new.Goals as goal

pub invariant_of-result : goal.invariant_of-result
invariant_of-result c =
    let fits = c.ranges.committed in
    simp to_z-of_z (subst (λ (ps : List Part). Keeps (record { committed = c.args.committed; parts = parts_of ps }) c.args.committed c.args.committed) (sym c.new.ensures.items) (keeps_untouched c.args.committed c.requires))

pub returns-clause-account : goal.returns-clause-account
returns-clause-account c =
    let fits = c.ranges.committed in
    simp to_z-of_z (subst (λ (ps : List Part). Stands (record { committed = c.args.committed; parts = parts_of ps }) (meaning.untouched c.args.committed)) (sym c.new.ensures.items) (stands_untouched c.args.committed))
