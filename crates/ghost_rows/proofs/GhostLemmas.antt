-- The committed count of a row.
use Rattle.std.specs.Prelude.{◌≡◌, ℕ, zero, suc, ◌+◌, ◌*◌, ◌<◌, ◌≤◌, map, replicate, IfSome, ℤ, pos, ◌+ℤ◌, List, [], ◌∷◌, length, get_or, slice_get, Option, Some, None, IsSome}
use mathlib.Core.Path.{refl, sym, ap, subst, ◌∙◌}
use Rattle.std.proofs.Common.{arith}
use Rattle.std.proofs.lemmas.List.{length-map}
use Rattle.std.proofs.lemmas.Int.{ints, to_z-of_z}
use Rattle.std.proofs.Common.{rules, nat_eq, of_z, to_z, true}
use Rattle.std.specs.Int.{w128}
use Rattle.std.specs.Prelude.{FitsSigned}
use Rattle.iv_meaning.specs.Escrow.{value}
use Rattle.escrow_bounds.specs.Column.{Column}
use Rattle.row_codec.proofs.Numbers.{signed_split}
use Rattle.ghost_rows.specs.Numbers.{numbers_bytes, Fits128}
use Rattle.ghost_rows.specs.Ghosts.{IsGhostRow}
use Rattle.ghost_rows.specs.Rows.{OpenRow}
use Rattle.ghost_rows.specs.Kept.{Pays, no_pays, account, RowStands, HasNumbers, StandsFor}
use Rattle.ghost_rows.proofs.ColumnLemmas.{no_pays_value}
use Rattle.ghost_rows.proofs.StateLemmas.{some_of, not_both, has_bytes, has_length, all_zeros}
use Rattle.ghost_rows.proofs.RowLemmas.{huge_fit}
use Rattle.std.proofs.lemmas.Option.{get_or_from_slice_get}
use Rattle.ghost_rows.proofs.Steps.{slice_get-map}
use Rattle.ghost_rows.proofs.NumberSteps.{long}
use Rattle.txn_machine.specs.Stored.{zeros}
use Rattle.std.specs.List.{AllByRecursion}
use Rattle.std.specs.Option.{option_map}

pub column_at : (l : List Column) (at : ℕ) → at < length l → (c : Column) × (slice_get l at ≡ Some c)
column_at [] at h = absurd (omega (arith, h))
column_at (c ∷ cs) zero h = (c, refl)
column_at (c ∷ cs) (suc at) h = column_at cs at (omega (arith, h))

zero_fits : FitsSigned w128 (pos 0)
zero_fits = omega arith

first_there : (l : List Column) → 1 ≤ length l → (c : Column) × (slice_get l 0 ≡ Some c)
first_there [] h = absurd (omega (arith, h))
first_there (c ∷ cs) h = (c, refl)

same_count : (a b rest n : ℤ) → a +ℤ rest ≡ n → b +ℤ rest ≡ n → a ≡ b
same_count a b rest n x y = omega (arith, ints)

-- of a row in memory
pub counted : (row : OpenRow) (numbers : List ℤ) (pays : Pays) (count : ℤ) → 1 ≤ length numbers → RowStands row numbers pays → value (account count 0 pays) ≡ get_or numbers 0 (pos 0)
    → row.committed ≡ count
counted row numbers pays count many st v =
    let there = first_there row.columns (omega (arith, many, st.many)) in
    st.committed there.0 there.1 ∙ same_count there.0.committed count _ (get_or numbers 0 (pos 0)) (st.columns 0 there.0 there.1).value_is v

-- the committed count of a row in memory, with its kept pays, is what is stored
pub committed_value : (row : OpenRow) (numbers : List ℤ) (pays : Pays) → 1 ≤ length numbers → RowStands row numbers pays → value (account row.committed 0 pays) ≡ get_or numbers 0 (pos 0)
committed_value row numbers pays many st =
    let there = first_there row.columns (omega (arith, many, st.many)) in
    ap (λ z. value (account z 0 pays)) (st.committed there.0 there.1) ∙ (st.columns 0 there.0 there.1).value_is

-- of a stored row on which there is no pay
pub counted_closed : (pays : Pays) (count n : ℤ) → ((s : ℕ) → pays s ≡ []) → value (account count 0 pays) ≡ n → n ≡ count
counted_closed pays count n none v =
    let nothing : pays ≡ no_pays = λ i s. none s i in
    sym v ∙ (ap (λ (p : Pays). value (account count 0 p)) nothing ∙ no_pays_value count)

-- the committed number of a column with the kept pays is what is stored, so that it is one alone
pub same_value : (at : ℕ) (a b : ℤ) (pays : Pays) (n : ℤ) → value (account a at pays) ≡ n → value (account b at pays) ≡ n → a ≡ b
same_value at a b pays n x y = same_count a b _ n x y

pub room_for_one : (stored : Option (List ℕ)) (b : List ℕ) (many : ℕ) (numbers : List ℤ) → Some b ≡ stored → HasNumbers stored (suc many) numbers → 16 ≤ length b
room_for_one stored b many numbers e has = let l : length b ≡ 16 * suc many = has_length stored b (suc many) numbers e has in omega (arith, l)

pub zero_is : (r : ℤ) → FitsSigned w128 r → nat_eq (of_z w128 r) 0 ≡ true → r ≡ pos 0
zero_is r f e = let z : of_z w128 r ≡ 0 = search rules in sym (to_z-of_z w128 r f) ∙ ap (to_z w128) z

pub is_zero : (r : ℤ) → r ≡ pos 0 → nat_eq (of_z w128 r) 0 ≡ true
is_zero r e = ap (λ z. nat_eq (of_z w128 z) 0) e

pub count_is : (o : Option OpenRow) (stored : Option (List ℕ)) (b : List ℕ) (many : ℕ) (pays : Pays) (r count : ℤ) → (kept : StandsFor o stored (suc many) pays) → Some b ≡ stored
    → ((row : OpenRow) → o ≡ Some row → r ≡ row.committed) → (o ≡ None → (n : ℤ) (ns : List ℤ) → FitsSigned w128 n → b ≡ numbers_bytes (n ∷ ns) → r ≡ n)
    → value (account count 0 pays) ≡ get_or kept.numbers 0 (pos 0) → r ≡ count
count_is (Some row) stored b many pays r count kept e here closed v = here row refl ∙ counted row kept.numbers pays count (let l : length kept.numbers ≡ suc many = kept.has.many in omega (arith, l)) kept.row v
count_is None stored b many pays r count kept e here closed v = by_numbers kept.numbers kept.has v
  where
    by_numbers : (numbers : List ℤ) → HasNumbers stored (suc many) numbers → value (account count 0 pays) ≡ get_or numbers 0 (pos 0) → r ≡ count
    by_numbers [] has w = absurd (let l : 0 ≡ suc many = has.many in omega (arith, l))
    by_numbers (n ∷ ns) has w = closed refl n ns (huge_fit (n ∷ ns) has.huge).0 (has_bytes stored b (suc many) (n ∷ ns) e has) ∙ counted_closed pays count n (kept.closed refl) w

-- what was read as the committed count is it
pub count_stands : (o : Option OpenRow) (stored : Option (List ℕ)) (b : List ℕ) (many : ℕ) (pays : Pays) (r : ℤ) → (kept : StandsFor o stored (suc many) pays) → Some b ≡ stored
    → ((row : OpenRow) → o ≡ Some row → r ≡ row.committed) → (o ≡ None → (n : ℤ) (ns : List ℤ) → FitsSigned w128 n → b ≡ numbers_bytes (n ∷ ns) → r ≡ n)
    → value (account r 0 pays) ≡ get_or kept.numbers 0 (pos 0)
count_stands (Some row) stored b many pays r kept e here closed =
    ap (λ z. value (account z 0 pays)) (here row refl) ∙ committed_value row kept.numbers pays (let l : length kept.numbers ≡ suc many = kept.has.many in omega (arith, l)) kept.row
count_stands None stored b many pays r kept e here closed = by_numbers kept.numbers kept.has
  where
    by_numbers : (numbers : List ℤ) → HasNumbers stored (suc many) numbers → value (account r 0 pays) ≡ get_or numbers 0 (pos 0)
    by_numbers [] has = absurd (let l : 0 ≡ suc many = has.many in omega (arith, l))
    by_numbers (n ∷ ns) has =
        let nothing : pays ≡ no_pays = λ i s. kept.closed refl s i in
        ap (λ (p : Pays). value (account r 0 p)) nothing ∙ (no_pays_value r ∙ closed refl n ns (huge_fit (n ∷ ns) has.huge).0 (has_bytes stored b (suc many) (n ∷ ns) e has))

-- the committed numbers of a row are those that were read
pub are_committed : (o : Option OpenRow) (stored : Option (List ℕ)) (b : List ℕ) (found : List ℤ) → Some b ≡ stored → ((row : OpenRow) → o ≡ Some row → found ≡ map (λ c. c.committed) row.columns)
    → (o ≡ None → (numbers : List ℤ) → Fits128 numbers → b ≡ numbers_bytes numbers → found ≡ numbers) → (many : ℕ) (pays : Pays) (kept : StandsFor o stored (suc many) pays)
    → (length found ≡ suc many) × ((at : ℕ) → at < suc many → value (account (get_or found at (pos 0)) at pays) ≡ get_or kept.numbers at (pos 0))
are_committed (Some row) stored b found e here closed many pays kept =
    let is = here row refl in
    let st : RowStands row kept.numbers pays = kept.row in
    let long : length row.columns ≡ suc many = st.many ∙ kept.has.many in (
      ap length is ∙ (length-map row.columns (λ c. c.committed) ∙ long),
      λ at lt.
          let there = column_at row.columns at (omega (arith, lt, long)) in
          let read : get_or found at (pos 0) ≡ there.0.committed = ap (λ l. get_or l at (pos 0)) is ∙ get_or_from_slice_get (map (λ c. c.committed) row.columns) at there.0.committed (pos 0) (slice_get-map (λ c. c.committed) row.columns at ∙ ap (option_map (λ c. c.committed)) there.1) in
          ap (λ z. value (account z at pays)) read ∙ (st.columns at there.0 there.1).value_is,
    )
are_committed None stored b found e here closed many pays kept =
    let nothing : pays ≡ no_pays = λ i s. kept.closed refl s i in
    let is : found ≡ kept.numbers = closed refl kept.numbers (huge_fit kept.numbers kept.has.huge) (has_bytes stored b (suc many) kept.numbers e kept.has) in (
      ap length is ∙ kept.has.many,
      λ at lt. ap (λ (p : Pays). value (account (get_or found at (pos 0)) at p)) nothing ∙ (no_pays_value (get_or found at (pos 0)) ∙ ap (λ l. get_or l at (pos 0)) is),
    )

-- ---- rows of zeros

pub zeros_are : (n : ℕ) → replicate n (pos 0) ≡ zeros n
zeros_are zero = refl
zeros_are (suc n) = ap (λ l. pos 0 ∷ l) (zeros_are n)

pub zeros_long : (n : ℕ) → length (zeros n) ≡ n
zeros_long zero = refl
zeros_long (suc n) = ap suc (zeros_long n)

-- numbers with the bytes of zeros
are_zeros : (numbers : List ℤ) (n : ℕ) → Fits128 numbers → numbers_bytes numbers ≡ numbers_bytes (zeros n) → AllByRecursion (λ z. z ≡ pos 0) numbers
are_zeros [] n f e = tt
are_zeros (x ∷ xs) zero f e = absurd (let l : 16 + length (numbers_bytes xs) ≡ 0 = sym (long x (numbers_bytes xs)) ∙ ap length e in omega (arith, l))
are_zeros (x ∷ xs) (suc n) f e =
    let both = signed_split w128 refl x (pos 0) (numbers_bytes xs) (numbers_bytes (zeros n)) f.0 zero_fits e in
    (both.0, are_zeros xs n f.1 both.1)

-- zeros are stored where nothing was
pub zeros_made : (o : Option OpenRow) (stored next : Option (List ℕ)) (w : ℕ) (pays : Pays) → stored ≡ None → next ≡ Some (numbers_bytes (zeros w)) → StandsFor o stored w pays → StandsFor o next w pays
zeros_made o stored next w pays none is kept =
    let same : zeros w ≡ kept.numbers = sym (zeros_are w) ∙ all_zeros kept.numbers w kept.has.many (kept.has.zeros none) in
    record {
      numbers = kept.numbers;
      has = record {
        many = kept.has.many;
        huge = kept.has.huge;
        bytes = subst (λ p. IfSome p (λ b. b ≡ numbers_bytes kept.numbers)) (sym is) (ap numbers_bytes same);
        zeros = λ e. absurd (not_both next (numbers_bytes (zeros w)) is e);
      };
      row = kept.row;
      closed = kept.closed;
      absent = λ e. absurd (not_both next (numbers_bytes (zeros w)) is e);
    }

-- and taken away, where no pay is kept
pub zeros_gone : (o : Option OpenRow) (stored next : Option (List ℕ)) (n w : ℕ) → stored ≡ Some (numbers_bytes (zeros n)) → next ≡ None → StandsFor o stored w no_pays → StandsFor o next w no_pays
zeros_gone o stored next n w is none kept = record {
  numbers = kept.numbers;
  has = record {
    many = kept.has.many;
    huge = kept.has.huge;
    bytes = subst (λ p. IfSome p (λ b. b ≡ numbers_bytes kept.numbers)) (sym none) tt;
    zeros = λ e. are_zeros kept.numbers n (huge_fit kept.numbers kept.has.huge) (sym (has_bytes stored (numbers_bytes (zeros n)) w kept.numbers (sym is) kept.has));
  };
  row = kept.row;
  closed = kept.closed;
  absent = λ e s. refl;
}

-- ---- ghosts

-- two lists of numbers of one stored row begin alike
pub heads : (stored : Option (List ℕ)) (w v : ℕ) (a b : List ℤ) → HasNumbers stored (suc w) a → HasNumbers stored (suc v) b → IsSome stored → get_or a 0 (pos 0) ≡ get_or b 0 (pos 0)
heads stored w v [] b ha hb there = absurd (let l : 0 ≡ suc w = ha.many in omega (arith, l))
heads stored w v (n ∷ ns) [] ha hb there = absurd (let l : 0 ≡ suc v = hb.many in omega (arith, l))
heads stored w v (n ∷ ns) (m ∷ ms) ha hb there =
    let here = some_of stored there in
    (signed_split w128 refl n m (numbers_bytes ns) (numbers_bytes ms) (huge_fit (n ∷ ns) ha.huge).0 (huge_fit (m ∷ ms) hb.huge).0
    (sym (has_bytes stored here.0 (suc w) (n ∷ ns) (sym here.1) ha) ∙ has_bytes stored here.0 (suc v) (m ∷ ms) (sym here.1) hb)).0

-- each of the kept pays for which a ghost may stand leaves a count of 0
pub ghost_all : (o : Option OpenRow) (stored : Option (List ℕ)) → IsGhostRow o stored → (many : ℕ) (pays : Pays) (kept : StandsFor o stored (suc many) pays) → value (account (pos 0) 0 pays) ≡ get_or kept.numbers 0 (pos 0)
ghost_all (Some row) stored g many pays kept =
    let zero : row.committed ≡ pos 0 = counted row g.kept.numbers g.pays (pos 0) (let l : length g.kept.numbers ≡ suc g.many = g.kept.has.many in omega (arith, l)) g.kept.row g.count in
    ap (λ z. value (account z 0 pays)) (sym zero) ∙ committed_value row kept.numbers pays (let l : length kept.numbers ≡ suc many = kept.has.many in omega (arith, l)) kept.row
ghost_all None stored g many pays kept =
    let none : pays ≡ no_pays = λ i s. kept.closed refl s i in
    let zero : get_or g.kept.numbers 0 (pos 0) ≡ pos 0 = counted_closed g.pays (pos 0) (get_or g.kept.numbers 0 (pos 0)) (g.kept.closed refl) g.count in
    ap (λ (p : Pays). value (account (pos 0) 0 p)) none ∙ (no_pays_value (pos 0) ∙ (sym zero ∙ heads stored g.many many g.kept.numbers kept.numbers g.kept.has kept.has g.there))

-- a row that stands for the same kept pays as another one at its place
pub same_ghost : (o p : Option OpenRow) (stored : Option (List ℕ)) (many : ℕ) (pays : Pays) → StandsFor o stored (suc many) pays → StandsFor p stored (suc many) pays → IsGhostRow p stored → IsGhostRow o stored
same_ghost o p stored many pays kept other g = record {
  many = many;
  pays = pays;
  kept = kept;
  there = g.there;
  count = ghost_all p stored g many pays other ∙ heads stored many many other.numbers kept.numbers other.has kept.has g.there;
}

-- a row whose committed count is as it was
pub moved_ghost : (o p : Option OpenRow) (stored next : Option (List ℕ)) (row after : OpenRow) (many : ℕ) (pays : Pays) → o ≡ Some row → p ≡ Some after → after.committed ≡ row.committed → IsSome stored
    → StandsFor o stored (suc many) pays → IsGhostRow p next → IsGhostRow o stored
moved_ghost o p stored next row after many pays there is same some kept ghost =
    let g : IsGhostRow (Some after) next = subst (λ x. IsGhostRow x next) is ghost in
    let here : StandsFor (Some row) stored (suc many) pays = subst (λ x. StandsFor x stored (suc many) pays) there kept in
    let zero : after.committed ≡ pos 0 = counted after g.kept.numbers g.pays (pos 0) (let l : length g.kept.numbers ≡ suc g.many = g.kept.has.many in omega (arith, l)) g.kept.row g.count in
    subst (λ x. IsGhostRow x stored) (sym there) (record {
      many = many;
      pays = pays;
      kept = here;
      there = some;
      count = ap (λ z. value (account z 0 pays)) (sym zero ∙ same) ∙ committed_value row here.numbers pays (let l : length here.numbers ≡ suc many = here.has.many in omega (arith, l)) here.row;
    })
