-- Places among the candidates.
use Rattle.std.specs.Prelude.{◌≡◌, ◌≢◌, Bool, true, Option, is_some, Some, None, IsSome, IfSome}
use mathlib.Core.Path.{refl, sym, ap, subst, ◌∙◌}
use Rattle.std.specs.Option.{option_map, option_copied}
use Rattle.std.proofs.Common.{Bor}
use Rattle.std.proofs.lemmas.Bool.{true≢false}
use Rattle.std.specs.FinMap.{get, insert, remove, entries, get-entries, entries_sorted}
use Rattle.table_laws.specs.Place.{Place}
use Rattle.table_laws.proofs.Place.{place_cmp_total, place_cmp-IsAntisymmetric}
use Rattle.table_laws.proofs.Tables.{get-write_same, get-write_other, write_there}
use Rattle.spare_map.specs.Trees.{first_where, is_from}
use Rattle.spare_map.proofs.Firsts.{some_where, none_where}
use Rattle.ghost_rows.specs.Candidates.{Places, IsAmong, IsFirstFrom}

pub added_here : (places : Places) (place : Place) → IsAmong (insert places place tt) place
added_here places place = subst IsSome (sym (get-write_same place_cmp_total place_cmp-IsAntisymmetric places place (Some tt))) refl

pub added_other : (places : Places) (place q : Place) → q ≢ place → get (insert places place tt) q ≡ get places q
added_other places place q n = get-write_other place_cmp_total place_cmp-IsAntisymmetric places place (Some tt) q n

pub added_again : (places : Places) (place : Place) → get places place ≡ Some tt → insert places place tt ≡ places
added_again places place there = write_there place_cmp_total place_cmp-IsAntisymmetric places place (Some tt) there

pub forgotten_other : (places : Places) (place q : Place) → q ≢ place → get (remove places place) q ≡ get places q
forgotten_other places place q n = get-write_other place_cmp_total place_cmp-IsAntisymmetric places place None q n

pub unit_there : (o : Option (Bor (Unit {0}))) → is_some o ≡ true → option_copied o ≡ Some tt
unit_there None e = absurd (true≢false (sym e))
unit_there (Some u) e = refl

-- ---- the first from a place on

module _ {A : Type 0} (past : Bool) (from : Place) (places : Places) (found : Option A) (place_of : A → Place)
    (is : option_map place_of found ≡ option_map (λ e. e.0) (first_where (is_from past from) (entries places))) where
  none_of : (w : Option (Place × Unit {0})) → None ≡ option_map (λ e. e.0) w → w ≡ None
  none_of None e = refl
  none_of (Some x) e = absurd (let no : Some x.0 ≡ None = sym e in cc)

  pub first_none : found ≡ None → (q : Place) → is_from past from q ≡ true → get places q ≡ None
  first_none none q h =
      let nothing : first_where (is_from past from) (entries places) ≡ None = none_of (first_where (is_from past from) (entries places)) (sym (ap (option_map place_of) none) ∙ is) in
      get-entries places q ∙ none_where (is_from past from) (entries places) nothing q h

  first_some : (a : A) → found ≡ Some a → IsFirstFrom past from places (place_of a)
  first_some a e = by_entry (first_where (is_from past from) (entries places)) refl (sym (ap (option_map place_of) e) ∙ is)
    where
      by_entry : (w : Option (Place × Unit {0})) → first_where (is_from past from) (entries places) ≡ w → Some (place_of a) ≡ option_map (λ x. x.0) w → IsFirstFrom past from places (place_of a)
      by_entry None here same = absurd (let no : Some (place_of a) ≡ None = same in cc)
      by_entry (Some x) here same =
          let at : x.0 ≡ place_of a = let k : Some (place_of a) ≡ Some x.0 = same in cc in
          let first = some_where (is_from past from) (entries places) x (entries_sorted places) here in
          subst (IsFirstFrom past from places) at (record {
            among = subst IsSome (sym (get-entries places x.0 ∙ first.there)) refl;
            behind = first.passes;
            first = λ q has h. first.first q (subst IsSome (get-entries places q) has) h;
          })

  pub first_found : IfSome found (λ a. IsFirstFrom past from places (place_of a))
  first_found = by_found found refl
    where
      by_found : (o : Option A) → found ≡ o → IfSome o (λ a. IsFirstFrom past from places (place_of a))
      by_found None e = tt
      by_found (Some a) e = first_some a e
