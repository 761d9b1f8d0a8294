use Rattle.std.proofs.Common.{Option, Some, None, List, ℕ, subst, ◌≡◌}
use Rattle.std.proofs.lemmas.Result.{IfOk-weaker}
use Rattle.std.specs.Option.{option_copied}
use Rattle.image_views.specs.declared.wrong.WrongRow.{WrongRow}
use Rattle.image_views.specs.Rows.{Between, IsToldOf}
use Rattle.image_views.proofs.Merging.{first_up_to, told_up_to}
use Rattle.image_views.proofs.compare.wrong_up_to.Goals as goal

pub wrong_at-requires-clause-stored : goal.wrong_at-requires-clause-stored
wrong_at-requires-clause-stored g c κs within = (c.requires.stored.0, c.requires.stored.1 c.args.row.now.group, c.requires.stored.2 c.args.row.now.group)

pub returns-in-Some : goal.returns-in-Some
returns-in-Some g c = λ width stored fresh are behind f counted none.
    let last = option_copied c.args.last in
    let k = c.args.row.now.group in
    let told = subst (λ (x : List ℕ). ((group : List ℕ) → Between last (Some x) group → fresh group ≡ None) → IsToldOf (Between last (Some x)) c.args.view stored fresh c.in_ok-wrong.field-0) c.as_slice.ensures (c.in_ok-wrong.ensures width stored fresh are) none in
    first_up_to last k c.args.view stored fresh c.in-Some.wrong (subst (IsToldOf (Between last (Some k)) c.args.view stored fresh) c.in-Some.is told)

pub returns-in-None : goal.returns-in-None
returns-in-None g c = IfOk-weaker c.wrong_at.result _ _ (λ found h width stored fresh are behind f counted none.
    let last = option_copied c.args.last in
    let k = c.args.row.now.group in
    let told = subst (λ (x : List ℕ). ((group : List ℕ) → Between last (Some x) group → fresh group ≡ None) → IsToldOf (Between last (Some x)) c.args.view stored fresh c.in_ok-wrong.field-0) c.as_slice.ensures (c.in_ok-wrong.ensures width stored fresh are) none in
    let no_row : IsToldOf (Between last (Some k)) c.args.view stored fresh None = subst (λ (o : Option WrongRow). IsToldOf (Between last (Some k)) c.args.view stored fresh o) c.in-None.is told in
    told_up_to last k behind c.args.view stored fresh no_row found (h width stored fresh (are k) f counted)) c.wrong_at.ensures
