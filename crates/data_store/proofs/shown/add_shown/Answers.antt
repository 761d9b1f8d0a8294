use Rattle.std.proofs.Common.{◌≡◌, List, ℤ, true, false, [], ◌∷◌, ◌++◌, sym, ap, refl, ◌∙◌, append_assoc}
use Rattle.std.proofs.lemmas.Result.{on_ok_weaker}
use Rattle.iv_meaning.specs.Database.{Row}
use Rattle.data_store.specs.Shown.{stands}
use Rattle.data_store.proofs.ShownRows.{ghost_shown, row_shown}
use Rattle.data_store.proofs.shown.add_shown.Goals as goal

pub returns-then-not-stands : goal.returns-then-not-stands
returns-then-not-stands c = λ es rest s.
    let numbers : List ℤ = c.requires.count ∷ c.requires.sums in
    let is : c.stands.result ≡ stands numbers = c.stands.ensures numbers c.requires.in_range c.requires.value_is in
    let ghost : stands numbers ≡ false = cc in
    (rest, refl, ghost_shown c.args.kinds.now c.args.key.now c.args.value.now numbers es rest c.requires.in_range c.requires.value_is ghost s)

pub returns : goal.returns
returns c =
    let numbers : List ℤ = c.requires.count ∷ c.requires.sums in
    let is : c.stands.result ≡ stands numbers = c.stands.ensures numbers c.requires.in_range c.requires.value_is in
    let counts : stands numbers ≡ true = cc in
    let row : Row = c.in_ok-row_of.field-0 in
    let rows : List Row = c.args.rows.now in
    on_ok_weaker c.push.result (λ e es rest s. (
      row ∷ rest,
      sym (ap (λ (l : List Row). l ++ rest) e ∙ append_assoc rows (row ∷ []) rest),
      row_shown c.args.kinds.now c.args.key.now c.args.value.now numbers row es rest c.requires.in_range c.requires.value_is counts (c.in_ok-row_of.ensures numbers c.requires.in_range c.requires.value_is) s,
    )) c.push.ensures.ok
