use Rattle.std.proofs.Common.{◌≡◌, ℕ, List, ◌++◌, ◌∷◌, sym, subst, ◌∙◌}
use Rattle.std.proofs.lemmas.Result.{on_ok_weaker}
use Rattle.std.specs.FinMap.{get}
use Rattle.iv_meaning.specs.Database.{Row}
use Rattle.data_store.specs.Shown.{Shows}
use Rattle.data_store.specs.ViewPast.{past_value}
use Rattle.data_store.proofs.PastEntries.{some_value}
use Rattle.data_store.proofs.store.DataStore.add_shown_at.Goals as goal

pub returns : goal.returns
returns g c = on_ok_weaker c.add_shown.result (λ told past were es rest s.
    let is : c.as_slice.result.now ≡ past_value past (c.args.view, c.args.key.now) =
    c.as_slice.ensures ∙ some_value (get past (c.args.view, c.args.key.now)) c.in-Some.value (sym c.in-Some.is ∙ c.in_ok-value.ensures past were) in
    subst (λ (v : List ℕ). (all : List Row) × (c.args.rows.now ++ all ≡ c.add_shown.new.rows ++ rest) × Shows c.args.kinds.now ((c.args.key.now, v) ∷ es) all) is (told es rest s)) c.add_shown.ensures
