-- The parts that a map has are the definitions that are found.
use Rattle.std.proofs.Common.{◌≡◌, ℕ, zero, suc, List, [], ◌∷◌, map, refl, sym, ap, subst, ◌∙◌, arith}
use Rattle.std.specs.Prelude.{T}
use Rattle.std.specs.List.{Contains}
use Rattle.std.specs.declared.cmp.Ordering.TheVariants.{Less, Greater}
use Rattle.std.specs.Ordering.{is_lt, ordering_reverse, ordering_then, nat_cmp}
use Rattle.std.specs.Cmp.Lexicographic.{slice_cmp}
use Rattle.std.specs.FinMap.{FinMap, entries, is_sorted, entries_sorted}
use Rattle.std.specs.FinMap.Entries.{below_all}
use Rattle.row_codec.proofs.Orders.{cmp_greater}
use Rattle.table_laws.specs.Place.{Place, place_cmp}
use Rattle.table_laws.proofs.Place.{place_cmp_total, place_cmp-IsAntisymmetric}
use Rattle.table_laws.proofs.Tables.{Contains-entries}
use Rattle.txn_machine.proofs.Basics.{contains_none}
use Rattle.txn_machine.proofs.Holding.{contains_here, contains_next, contains_map}
use Rattle.txn_log.specs.Stored.{PageEntry}
use Rattle.txn_log.specs.Damaged.{Found, Device, all_found, DefinitionFails, definitions_read}
use Rattle.txn_log.proofs.Placing.{in_rest}
use Rattle.log_disk.specs.Bears.{StandOnce}
use Rattle.log_disk.specs.Found.{IsFound, IsFoundIn, IsFoundBy, AreByKey, AreDefinitions}
use Rattle.image_finding.specs.declared.fault.BadImage.{BadImage}
use Rattle.image_finding.specs.declared.image.FoundImage.{FoundImage}
use Rattle.image_finding.specs.Rules.{IsRefused}
use Rattle.image_finding.specs.Headers.{as_header, StandsUpTo}
use Rattle.image_finding.specs.Images.{HasImage}
use Rattle.image_finding.proofs.Passing.{refused_next}
use Rattle.image_entries.specs.declared.stored.StoredEntry.{StoredEntry}
use Rattle.image_entries.specs.Entries.{found_at, found_entries, IsTwice, NoneBad, Gathers}
use Rattle.image_entries.specs.Parts.{definitions_in, with_definition, TellsDefinition}
use Rattle.image_entries.proofs.Firsts.{of_one}
use Rattle.image_entries.proofs.Pages.{all_are}
use Rattle.image_entries.proofs.Walks.{and_first, and_second, lt_less}

-- ---- entries that stand once

apart_from : (earlier fs : List Found) → NoneBad IsTwice earlier fs → (y : Found) → Contains earlier y → (k : Place) → Contains (map (λ (e : PageEntry). e.0) (map (λ (f : Found). f.entry) fs)) k → y.entry.0 ≡ k → ⊥
apart_from earlier [] h y c k d same = contains_none k d
apart_from earlier (f ∷ fs) h y c k d same = in_rest f.entry.0 k (map (λ (e : PageEntry). e.0) (map (λ (g : Found). g.entry) fs)) d
    (λ e. h.0 (subst (Contains (map (λ (g : Found). g.entry.0) earlier)) (same ∙ sym e) (contains_map (λ (g : Found). g.entry.0) earlier y c)))
    (λ more. apart_from (f ∷ earlier) fs h.1 y (contains_next f earlier y c) k more same)

stand_once : (earlier fs : List Found) → NoneBad IsTwice earlier fs → StandOnce (map (λ (f : Found). f.entry) fs)
stand_once earlier [] h = tt
stand_once earlier (f ∷ fs) h = ((λ c. apart_from (f ∷ earlier) fs h.1 f (contains_here f earlier) f.entry.0 c refl), stand_once (f ∷ earlier) fs h.1)

-- ---- the definitions of a map

in_definitions : (es : List (Place × StoredEntry)) (f : Found) → Contains (definitions_in es) f → (e : Place × StoredEntry) × Contains es e × (found_at e.0 e.1 ≡ f) × (e.0.0 ≡ 0)
in_definitions [] f c = absurd (contains_none f c)
in_definitions (e ∷ es) f c = by (in_definitions es f) e.0.0 refl c
  where
    by : (Contains (definitions_in es) f → (x : Place × StoredEntry) × Contains es x × (found_at x.0 x.1 ≡ f) × (x.0.0 ≡ 0)) → (n : ℕ) → e.0.0 ≡ n → Contains (with_definition n e.0 e.1 (definitions_in es)) f
        → (x : Place × StoredEntry) × Contains (e ∷ es) x × (found_at x.0 x.1 ≡ f) × (x.0.0 ≡ 0)
    by more zero is d = in_rest (found_at e.0 e.1) f (definitions_in es) d
        (λ same. (e, contains_here e es, same, is))
        (λ rest. let one = more rest in (one.0, contains_next e es one.0 one.1, one.2, one.3))
    by more (suc n) is d = absurd (contains_none f d)

below : (p : Place) (es : List (Place × StoredEntry)) → T (below_all place_cmp p es) → (e : Place × StoredEntry) → Contains es e → place_cmp p e.0 ≡ Less
below p [] h e c = absurd (contains_none e c)
below p (x ∷ xs) h e c = in_rest x e xs c
    (λ same. subst (λ (y : Place × StoredEntry). place_cmp p y.0 ≡ Less) same (lt_less (place_cmp p x.0) (and_first (is_lt (place_cmp p x.0)) (below_all place_cmp p xs) h)))
    (λ d. below p xs (and_second (is_lt (place_cmp p x.0)) (below_all place_cmp p xs) h) e d)

-- no place of index 0 is behind one of another index
first_index : (p q : Place) (n : ℕ) → p.0 ≡ suc n → q.0 ≡ 0 → place_cmp p q ≡ Less → ⊥
first_index p q n e f less =
    let greater : nat_cmp p.0 q.0 ≡ Greater = cmp_greater p.0 q.0 (omega (arith, e, f)) in
    let other : Greater ≡ Less = sym (ap (λ o. ordering_then o (slice_cmp nat_cmp p.1 q.1)) greater) ∙ less in
    absurd (cc)

definitions_have : (es : List (Place × StoredEntry)) → T (is_sorted place_cmp es) → (e : Place × StoredEntry) → Contains es e → e.0.0 ≡ 0 → Contains (definitions_in es) (found_at e.0 e.1)
definitions_have [] sorted e c is = absurd (contains_none e c)
definitions_have (x ∷ xs) sorted e c is = by (definitions_have xs (and_second (below_all place_cmp x.0 xs) (is_sorted place_cmp xs) sorted) e) x.0.0 refl
  where
    by : (Contains xs e → e.0.0 ≡ 0 → Contains (definitions_in xs) (found_at e.0 e.1)) → (n : ℕ) → x.0.0 ≡ n → Contains (with_definition n x.0 x.1 (definitions_in xs)) (found_at e.0 e.1)
    by more zero at = in_rest x e xs c
        (λ same. subst (λ (y : Place × StoredEntry). Contains (found_at x.0 x.1 ∷ definitions_in xs) (found_at y.0 y.1)) same (contains_here (found_at x.0 x.1) (definitions_in xs)))
        (λ d. contains_next (found_at x.0 x.1) (definitions_in xs) (found_at e.0 e.1) (more d is))
    by more (suc n) at = absurd (in_rest x e xs c
        (λ same. let zero_index : x.0.0 ≡ 0 = ap (λ (y : Place × StoredEntry). y.0.0) same ∙ is in omega (arith, at, zero_index))
        (λ d. first_index x.0 e.0 n at is (below x.0 xs (and_first (below_all place_cmp x.0 xs) (is_sorted place_cmp xs) sorted) e d)))

by_key : (es : List (Place × StoredEntry)) → T (is_sorted place_cmp es) → AreByKey (map (λ (f : Found). f.entry) (definitions_in es))
by_key [] sorted = tt
by_key (x ∷ xs) sorted = by (by_key xs (and_second (below_all place_cmp x.0 xs) (is_sorted place_cmp xs) sorted)) x.0.0
  where
    by : AreByKey (map (λ (f : Found). f.entry) (definitions_in xs)) → (n : ℕ) → AreByKey (map (λ (f : Found). f.entry) (with_definition n x.0 x.1 (definitions_in xs)))
    by more zero = (
      (λ e c.
          let one = of_one (λ (f : Found). f.entry) (definitions_in xs) e c in
          let there = in_definitions xs one.0 one.1 in
          let less = below x.0 xs (and_first (below_all place_cmp x.0 xs) (is_sorted place_cmp xs) sorted) there.0 there.1 in
          subst (λ (k : Place). place_cmp x.0 k ≡ Less) (ap (λ (f : Found). f.entry.0) there.2 ∙ ap (λ (y : PageEntry). y.0) one.2) less),
      more,
    )
    by more (suc n) = tt

-- ---- one list in order

less_apart : {P : Type 0} (x y : Place) → place_cmp x y ≡ Less → place_cmp y x ≡ Less → P
less_apart x y h k = absurd (let e : Less ≡ Greater = sym h ∙ (place_cmp_total.antisymm x y ∙ ap ordering_reverse k) in cc)

found_once : (xs ys : List Found) → AreByKey (map (λ (f : Found). f.entry) xs) → AreByKey (map (λ (f : Found). f.entry) ys) → ((f : Found) → Contains xs f → Contains ys f) → ((f : Found) → Contains ys f → Contains xs f) → xs ≡ ys
found_once [] [] h k f g = refl
found_once [] (y ∷ ys) h k f g = absurd (contains_none y (g y (contains_here y ys)))
found_once (x ∷ xs) [] h k f g = absurd (contains_none x (f x (contains_here x xs)))
found_once (x ∷ xs) (y ∷ ys) h k f g =
    let behind_x : (z : Found) → Contains xs z → place_cmp x.entry.0 z.entry.0 ≡ Less = λ z c. h.0 z.entry (contains_map (λ (e : Found). e.entry) xs z c) in
    let behind_y : (z : Found) → Contains ys z → place_cmp y.entry.0 z.entry.0 ≡ Less = λ z c. k.0 z.entry (contains_map (λ (e : Found). e.entry) ys z c) in
    let same : y ≡ x = in_rest y x ys (f x (contains_here x xs)) (λ e. e) (λ later. in_rest x y xs (g y (contains_here y ys)) (λ e. sym e)
    (λ after. less_apart x.entry.0 y.entry.0 (behind_x y after) (behind_y x later))) in
    let rest : xs ≡ ys = found_once xs ys h.1 k.1
    (λ e c. in_rest y e ys (f e (contains_next x xs e c)) (λ s. less_apart x.entry.0 e.entry.0 (behind_x e c)
    (subst (λ (z : Found). place_cmp z.entry.0 x.entry.0 ≡ Less) (sym same ∙ s) (subst (λ (z : Found). place_cmp x.entry.0 z.entry.0 ≡ Less) (sym (sym same ∙ s)) (behind_x e c)))) (λ d. d))
    (λ e c. in_rest x e xs (g e (contains_next y ys e c)) (λ s. less_apart y.entry.0 e.entry.0 (behind_y e c)
    (subst (λ (z : Found). place_cmp z.entry.0 y.entry.0 ≡ Less) (same ∙ s) (subst (λ (z : Found). place_cmp y.entry.0 z.entry.0 ≡ Less) (sym (same ∙ s)) (behind_y e c)))) (λ d. d)) in
    λ t. sym same t ∷ rest t

-- ---- those that are found

module _ (c : List ℕ) (image : FoundImage) (has : HasImage c image) (m : FinMap place_cmp StoredEntry) (gathers : Gathers m (found_entries image c)) where
  pub definitions_are : (d : Device) → IsFound c d → definitions_in (entries m) ≡ d.definitions
  definitions_are d found =
      let live = has.header.live in
      let by : IsFoundBy live.side c d = subst (λ o. IsFoundIn o c d) live.lives found.by in
      let list = all_are c image has d found in
      let once : StandOnce (map (λ (f : Found). f.entry) (all_found d.stored)) = subst (λ (fs : List Found). StandOnce (map (λ (f : Found). f.entry) fs)) (sym list) (stand_once [] (found_entries image c) gathers.apart) in
      let are : AreDefinitions (all_found d.stored) d.definitions = by.definitions once in
      found_once (definitions_in (entries m)) d.definitions (by_key (entries m) (entries_sorted m)) are.in_order
      (λ f x.
      let one = in_definitions (entries m) f x in
      let there = gathers.has.only one.0.0 one.0.1 ((Contains-entries place_cmp_total place_cmp-IsAntisymmetric m one.0.0 one.0.1).0 one.1) in
      (are.among f).1 (subst (λ (fs : List Found). Contains fs f) (sym list) (subst (Contains (found_entries image c)) one.2 there), ap (λ (g : Found). g.entry.0.0) (sym one.2) ∙ one.3))
      (λ f x.
      let one = (are.among f).0 x in
      let kept = gathers.has.held f (subst (λ (fs : List Found). Contains fs f) list one.0) in
      definitions_have (entries m) (entries_sorted m) (f.entry.0, record { page = f.page; value = f.entry.1 }) ((Contains-entries place_cmp_total place_cmp-IsAntisymmetric m f.entry.0 (record { page = f.page; value = f.entry.1 })).1 kept) one.1)

  pub definition_refused : StandsUpTo 10 c (as_header image.header) → (bad : BadImage) → TellsDefinition (definitions_in (entries m)) bad → IsRefused c bad
  definition_refused stands bad tells = refused_next 10 c bad definitions_read refl tells.rule stands.passes (λ d found.
      subst (λ (fs : List Found). DefinitionFails fs bad.place) (definitions_are d found) tells.fails)
