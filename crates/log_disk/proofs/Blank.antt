-- Pages of which none is stored are those of a database that defines nothing.
use Rattle.std.proofs.Common.{◌≡◌, inl, inr, ℕ, ℤ, pos, List, [], ◌∷◌, get_or, Option, Some, None, refl, sym, subst, ◌∙◌, arith}
use Rattle.std.specs.FinMap.{get-empty, empty}
use Rattle.std.specs.List.{Contains, AllByRecursion}
use Rattle.std.specs.Option.{option_map_or}
use Rattle.std.proofs.lemmas.Option.{none-some}
use Rattle.std.proofs.lemmas.List.Elements.{All-from_recursion}
use Rattle.iv_types.specs.Encoding.{IsHuge}
use Rattle.table_laws.specs.Place.{Place, place_cmp}
use Rattle.iv_meaning.specs.Database.{created}
use Rattle.txn_machine.specs.Stored.{stored_number}
use Rattle.txn_machine.proofs.Basics.{contains_none}
use Rattle.txn_machine.proofs.Ranging.{huge_zero}
use Rattle.txn_log.specs.Replay.{Pages}
use Rattle.txn_log.specs.Stored.{PageEntry, AreParts}
use Rattle.log_disk.specs.Bears.{all_entries, AreLeaves, StandOnce, AreStoredAs}
use Rattle.log_disk.proofs.Building.{none_sound}

abbrev pub AreNone : List (Option (List ℕ)) → Type 0
AreNone stored = AllByRecursion (λ page. page ≡ None) stored

pub none_leaves : (stored : List (Option (List ℕ))) → AreNone stored → AreLeaves stored
none_leaves [] none = tt
none_leaves (None ∷ pages) none = none_leaves pages none.1
none_leaves (Some page ∷ pages) none = absurd (none-some page (sym none.0))

pub none_entries : (stored : List (Option (List ℕ))) → AreNone stored → all_entries stored ≡ []
none_entries [] none = refl
none_entries (None ∷ pages) none = none_entries pages none.1
none_entries (Some page ∷ pages) none = absurd (none-some page (sym none.0))

abbrev pub bare : Pages
bare = record { db = created; view = empty }

pub in_range : (place : Place) (column : ℕ) → IsHuge (stored_number bare.view place column)
in_range place column = subst (λ (o : Option (List ℤ)). IsHuge (option_map_or (λ ns. get_or ns column (pos 0)) o (pos 0))) (sym (get-empty place_cmp place)) huge_zero

unfoldable pub none_stored : (stored : List (Option (List ℕ))) → AreNone stored → AreStoredAs stored bare
none_stored stored none = record {
  proper = record { sound = none_sound; stored = λ place ns got. absurd (none-some ns (sym (get-empty place_cmp place) ∙ got)); in_range = in_range };
  leaves = none_leaves stored none;
  apart = subst StandOnce (sym (none_entries stored none)) tt;
  texts = [];
  few = omega arith;
  short = tt;
  define = (All-from_recursion AreParts [] tt, refl);
  stand = λ e. (
    (λ c. absurd (contains_none e (subst (λ (es : List PageEntry). Contains es e) (none_entries stored none) c))),
    (λ is. absurd (elim is [
      | inl (inl row) ↦ none-some row.0 (sym (get-empty place_cmp e.0) ∙ row.1)
      | inl (inr total) ↦ none-some total.0 (sym (get-empty place_cmp e.0) ∙ total.1)
      | inr part ↦ none-some part.parts part.parts_are
    ])),
  );
}
