use Rattle.std.proofs.Common.{sym, subst, ◌∙◌}
use Rattle.std.proofs.lemmas.Int.{to_z-of_z}
use Rattle.std.specs.Prelude.{◌≤ℤ◌}
use Rattle.iv_meaning.specs.Escrow.{value}
use Rattle.escrow_bounds.specs.Column.{Column, Stands}
use Rattle.escrow_bounds.proofs.KeepLemmas.{least-account}
use Rattle.escrow_bounds.proofs.LawLemmas.{lies_between}
use Rattle.escrow_bounds.proofs.escrow.Escrow.inf.Goals as goal

pub returns-clause-account : goal.returns-clause-account
returns-clause-account c =
    let fits = c.self.invariant.inf_huge.0 in
    λ a st. simp to_z-of_z (c.self.invariant.inf_is ∙ least-account _ a (subst (λ (v : Column). Stands v a) (sym c.self.view_is) st))

pub returns-clause-law : goal.returns-clause-law
returns-clause-law c = λ a left st h. subst (λ n. n ≤ℤ value left) (sym (returns-clause-account c a st)) (lies_between a left h).0
