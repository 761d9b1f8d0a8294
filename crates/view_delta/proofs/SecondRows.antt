-- Views of two tables: what a row of the first contributes is told by the one row of the second with which it is combined.
use Rattle.std.specs.Prelude.{◌≡◌, ◌≢◌, zero, suc, ◌==◌, Bool, true, false, cond, T, ◌&&◌, List, [], ◌∷◌, ◌++◌, map, take, Option, Some, None}
use Rattle.std.specs.List.{AllByRecursion, Contains, flat_map}
use mathlib.Core.Path.{refl, sym, ap, ◌∙◌}
use Rattle.std.proofs.Common.{arith, append-nil, eq-eqb}
use Rattle.std.proofs.lemmas.Bool.{true≢false}
use Rattle.std.specs.FinMap.{get, entries, find, is_sorted}
use Rattle.std.specs.FinMap.Entries.{same_entries}
use Rattle.iv_types.specs.declared.catalog.Second.{Second}
use Rattle.iv_types.specs.declared.lock.GroupDelta.{GroupDelta}
use Rattle.table_laws.specs.Place.{Place, place_cmp}
use Rattle.table_laws.specs.Table.{rows_where}
use Rattle.table_laws.specs.Sums.{passing}
use Rattle.table_laws.proofs.Place.{place_cmp_total, place_cmp-IsAntisymmetric}
use Rattle.table_laws.proofs.Tables.{by_key, same_key, other_key, rows_where_sorted, find-rows_where, passing_some}
use Rattle.iv_meaning.specs.Schema.{Schema, ViewTree}
use Rattle.iv_meaning.specs.Database.{Row, Rows}
use Rattle.txn_machine.specs.Deltas.{contribution, contributions}
use Rattle.txn_machine.specs.ViewLaws.{AreSound, IsJoin}
use Rattle.txn_machine.proofs.Looking.{counted, joined_place, of_row, found_at}
use Rattle.view_delta.specs.Parts.{contributed, first_contributed, with_second}
use Rattle.view_delta.proofs.Combined.{counted_is}

-- ---- the entry at one place

abbrev pub entry_of : Place → Option Row → List (Place × Row)
entry_of k None = []
entry_of k (Some r) = (k, r) ∷ []

entry_sorted : (k : Place) (o : Option Row) → T (is_sorted place_cmp (entry_of k o))
entry_sorted k None = tt
entry_sorted k (Some r) = tt

find_same : (k q : Place) (o : Option Row) → q ≡ k → find place_cmp q (entry_of k o) ≡ o
find_same k q None e = refl
find_same k q (Some r) e = ap (λ b. cond b (Some r) None) (same_key place_cmp_total place_cmp-IsAntisymmetric q k e)

find_other : (k q : Place) (o : Option Row) → q ≢ k → find place_cmp q (entry_of k o) ≡ None
find_other k q None e = refl
find_other k q (Some r) e = ap (λ b. cond b (Some r) None) (other_key place_cmp_total place_cmp-IsAntisymmetric q k e)

none_if : (o : Option Row) → ((r : Row) → o ≡ Some r → ⊥) → o ≡ None
none_if None h = refl
none_if (Some r) h = absurd (h r refl)

-- where a test passes at one place alone
pub one_where : (test : Place → Row → Bool) (m : Rows) (k : Place) → ((q : Place) (r : Row) → get m q ≡ Some r → test q r ≡ true → q ≡ k) → rows_where test (entries m) ≡ entry_of k (passing (test k) (get m k))
one_where test m k alone =
    same_entries place_cmp place_cmp_total place_cmp-IsAntisymmetric (rows_where test (entries m)) (entry_of k (passing (test k) (get m k)))
    (rows_where_sorted test m) (entry_sorted k (passing (test k) (get m k)))
    (λ q. find-rows_where place_cmp_total place_cmp-IsAntisymmetric test m q
    ∙ by_key place_cmp_total place_cmp-IsAntisymmetric q k
    (λ same. ap (λ p. passing (test p) (get m p)) same ∙ sym (find_same k q (passing (test k) (get m k)) same))
    (λ other. none_if (passing (test q) (get m q)) (λ r e. let h = passing_some (test q) (get m q) r e in other (alone q r h.0 h.1)) ∙ sym (find_other k q (passing (test k) (get m k)) other)))

-- ---- rows of the second table

module _ (objects : Schema) (v : ViewTree) (second : Second) (is_second : v.second ≡ Some second) (j : IsJoin objects v second) where
  abbrev at_second : Row → Place → Row → Bool
  at_second r place s = (place.0 == second.table) && counted objects v second is_second j r s

  abbrev key_of_row : Row → Place
  key_of_row r = joined_place objects v second is_second j r

  here : (r s : Row) → (at_second r (key_of_row r) s) ≡ counted objects v second is_second j r s
  here r s = ap (λ b. b && counted objects v second is_second j r s) (eq-eqb second.table second.table refl)

  told : (r : Row) (o : Option Row) → map (contribution objects v) (map (λ s. r ∷ s ∷ []) (map (λ (e : Place × Row). e.1) (entry_of (key_of_row r) (passing (at_second r (key_of_row r)) o)))) ≡ with_second objects v r o
  told r None = refl
  told r (Some s) =
      ap (λ b. map (contribution objects v) (map (λ t. r ∷ t ∷ []) (map (λ (e : Place × Row). e.1) (entry_of (key_of_row r) (cond b (Some s) None))))) (here r s)
      ∙ (either_way (counted objects v second is_second j r s) ∙ sym (append-nil (contributed objects v (r ∷ s ∷ [])) ∙ counted_is objects v (r ∷ s ∷ []) (counted objects v second is_second j r s) refl))
    where
      either_way : (b : Bool) → map (contribution objects v) (map (λ t. r ∷ t ∷ []) (map (λ (e : Place × Row). e.1) (entry_of (key_of_row r) (cond b (Some s) None)))) ≡ cond b (contribution objects v (r ∷ s ∷ []) ∷ []) []
      either_way true = refl
      either_way false = refl

  -- a row of the first table contributes with the row under its joined key
  pub contributed_second : (m : Rows) → AreSound objects m → (r : Row) → contributions objects v m (Some r) ≡ with_second objects v r (get m (key_of_row r))
  contributed_second m sound r =
      of_row objects v second is_second j m r
      ∙ (ap (λ (es : List (Place × Row)). map (contribution objects v) (map (λ s. r ∷ s ∷ []) (map (λ (e : Place × Row). e.1) es)))
      (one_where (at_second r) m (key_of_row r) (λ q s e t. found_at objects v second is_second j m sound r q s e t))
      ∙ told r (get m (key_of_row r)))

  -- a row of the second table that is counted with a row of the first stands under its joined key
  counted_there : (m : Rows) → AreSound objects m → (r : Row) (q : Place) (s : Row) → get m q ≡ Some s → q.0 ≡ second.table → counted objects v second is_second j r s ≡ true → get m (key_of_row r) ≡ Some s
  counted_there m sound r q s e n t =
      ap (get m) (sym (found_at objects v second is_second j m sound r q s e (ap (λ b. b && counted objects v second is_second j r s) (eq-eqb q.0 second.table n) ∙ t))) ∙ e

  -- a row of the second table under another key contributes nothing
  pub none_elsewhere : (m : Rows) → AreSound objects m → (r : Row) (q : Place) → q.0 ≡ second.table → q ≢ key_of_row r → with_second objects v r (get m q) ≡ []
  none_elsewhere m sound r q n other = go (get m q) refl
    where
      go : (o : Option Row) → get m q ≡ o → with_second objects v r o ≡ []
      go None e = refl
      go (Some s) e = elim (counted objects v second is_second j r s) as (λ b. counted objects v second is_second j r s ≡ b → with_second objects v r (Some s) ≡ []) [
        | true ↦ λ t. absurd (other (found_at objects v second is_second j m sound r q s e (ap (λ b. b && counted objects v second is_second j r s) (eq-eqb q.0 second.table n) ∙ t)))
        | false ↦ λ t. append-nil (contributed objects v (r ∷ s ∷ [])) ∙ counted_is objects v (r ∷ s ∷ []) false (sym t)
      ] refl

  -- ---- the first of some rows with which a row is counted

  module _ (r : Row) where
    abbrev with : Row → List GroupDelta
    with s = contributed objects v (r ∷ s ∷ [])

    not_counted : (s : Row) → counted objects v second is_second j r s ≡ false → with s ≡ []
    not_counted s e = counted_is objects v (r ∷ s ∷ []) false (sym e)

    none_counted : (xs : List Row) → AllByRecursion (λ s. counted objects v second is_second j r s ≡ true → ⊥) xs → flat_map with xs ≡ []
    none_counted [] h = refl
    none_counted (s ∷ xs) h =
        elim (counted objects v second is_second j r s) as (λ b. counted objects v second is_second j r s ≡ b → with s ++ flat_map with xs ≡ []) [
          | true ↦ λ t. absurd (h.0 t)
          | false ↦ λ t. ap (λ l. l ++ flat_map with xs) (not_counted s t) ∙ none_counted xs h.1
        ] refl

    one_counted : (s : Row) (xs : List Row) (s0 : Row) → (counted objects v second is_second j r s ≡ true → s ≡ s0) → (counted objects v second is_second j r s ≡ false → take 1 (flat_map with xs) ≡ with s0)
        → take 1 (with s ++ flat_map with xs) ≡ with s0
    one_counted s xs s0 h rest =
        elim (counted objects v second is_second j r s) as (λ b. counted objects v second is_second j r s ≡ b → take 1 (with s ++ flat_map with xs) ≡ with s0) [
          | true ↦ λ u. ap (λ l. take 1 (l ++ flat_map with xs)) (counted_is objects v (r ∷ s ∷ []) true (sym u)) ∙ (sym (counted_is objects v (r ∷ s ∷ []) true (sym u)) ∙ ap with (h u))
          | false ↦ λ u. ap (λ l. take 1 (l ++ flat_map with xs)) (not_counted s u) ∙ rest u
        ] refl

    first_counted : (xs : List Row) (s0 : Row) → AllByRecursion (λ s. counted objects v second is_second j r s ≡ true → s ≡ s0) xs → counted objects v second is_second j r s0 ≡ true → Contains xs s0
        → take 1 (flat_map with xs) ≡ with s0
    first_counted [] s0 h t c = absurd (omega (arith, c.1))
    first_counted (s ∷ xs) s0 h t (zero, lt, is) = one_counted s xs s0 h.0 (λ u. absurd (true≢false (sym t ∙ (ap (counted objects v second is_second j r) (sym is) ∙ u))))
    first_counted (s ∷ xs) s0 h t (suc k, lt, is) = one_counted s xs s0 h.0 (λ u. first_counted xs s0 h.1 t (k, omega (arith, lt), is))

    -- rows of the second table, among which is the one under the joined key if there is one
    pub first_is : (m : Rows) → AreSound objects m → (xs : List Row) → AllByRecursion (λ s. (q : Place) × (get m q ≡ Some s) × (q.0 ≡ second.table)) xs
        → ((s : Row) → get m (key_of_row r) ≡ Some s → Contains xs s) → first_contributed objects v r xs ≡ with_second objects v r (get m (key_of_row r))
    first_is m sound xs stand has = go (get m (key_of_row r)) refl
      where
        all : (P : Row → Type 0) (ys : List Row) → AllByRecursion (λ s. (q : Place) × (get m q ≡ Some s) × (q.0 ≡ second.table)) ys
            → ((s : Row) → counted objects v second is_second j r s ≡ true → get m (key_of_row r) ≡ Some s → P s) → AllByRecursion (λ s. counted objects v second is_second j r s ≡ true → P s) ys
        all P [] h f = tt
        all P (s ∷ ys) h f = (λ t. f s t (counted_there m sound r h.0.0 s h.0.1 h.0.2 t), all P ys h.1 f)

        go : (o : Option Row) → get m (key_of_row r) ≡ o → take 1 (flat_map with xs) ≡ with_second objects v r o
        go None e = ap (take 1) (none_counted xs (all (λ s. ⊥) xs stand (λ s t f. cc (sym e ∙ f))))
        go (Some s0) e = elim (counted objects v second is_second j r s0) as (λ b. counted objects v second is_second j r s0 ≡ b → take 1 (flat_map with xs) ≡ with s0 ++ []) [
          | true ↦ λ t. first_counted xs s0 (all (λ s. s ≡ s0) xs stand (λ s u f. let x = sym f ∙ e in cc)) t (has s0 e) ∙ sym (append-nil (with s0))
          | false ↦ λ t. ap (take 1) (none_counted xs (all (λ s. ⊥) xs stand (λ s u f. let same : s ≡ s0 = some_same s s0 (sym f ∙ e) in true≢false (sym u ∙ (ap (counted objects v second is_second j r) same ∙ t))))) ∙ sym (append-nil (with s0) ∙ not_counted s0 t)
        ] refl
          where
            some_same : (a b : Row) → Some a ≡ Some b → a ≡ b
            some_same a b i = cc
