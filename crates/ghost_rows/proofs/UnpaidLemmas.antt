-- Whether a row has kept pays, by the bounds of its count.
use Rattle.std.specs.Prelude.{◌≡◌, ◌≢◌, ◌↔◌, ℕ, suc, ◌≤◌, ℤ, pos, ◌+ℤ◌, ◌≤ℤ◌, Bool, true, false, List, [], ◌∷◌, length, slice_get, Option, Some, None}
use mathlib.Core.Path.{refl, sym, ap, ◌∙◌}
use Rattle.std.proofs.Common.{arith}
use Rattle.std.proofs.lemmas.Bool.{true≢false}
use Rattle.std.proofs.lemmas.Int.{ints, clamps}
use Rattle.std.specs.Int.{int_min, int_max}
use Rattle.std.specs.List.{AllByRecursion}
use Rattle.iv_types.specs.declared.lock.GroupDelta.{GroupDelta}
use Rattle.iv_meaning.specs.Escrow.{paid, lo, hi, inf, sup, over_sessions}
use Rattle.table_laws.proofs.Sums.{sum_to_same}
use Rattle.escrow_bounds.specs.Column.{Column, least, greatest}
use Rattle.escrow_bounds.proofs.ColumnLemmas.{sessions-below, sessions-above}
use Rattle.escrow_bounds.proofs.KeepLemmas.{least-account, greatest-account}
use Rattle.ghost_rows.specs.Rows.{OpenRow}
use Rattle.ghost_rows.specs.Kept.{Pays, increments, account, AllCount, IsUnpaid, RowStands, StandsFor}

low_at_most : (ds : List ℤ) → lo ds ≤ℤ pos 0
low_at_most [] = omega (arith, ints)
low_at_most (d ∷ ds) = let rest : lo ds ≤ℤ pos 0 = low_at_most ds in omega (arith, ints, clamps, rest)

high_at_least : (ds : List ℤ) → pos 0 ≤ℤ hi ds
high_at_least [] = omega (arith, ints)
high_at_least (d ∷ ds) = let rest : pos 0 ≤ℤ hi ds = high_at_least ds in omega (arith, ints, clamps, rest)

low_rest : (l x : ℤ) → l ≤ℤ pos 0 → int_min l x ≡ pos 0 → l ≡ pos 0
low_rest l x h e = omega (arith, ints, clamps, h, e)

high_rest : (u x : ℤ) → pos 0 ≤ℤ u → int_max u x ≡ pos 0 → u ≡ pos 0
high_rest u x h e = omega (arith, ints, clamps, h, e)

no_step : (l u p d : ℤ) → int_min l (p +ℤ d) ≡ pos 0 → int_max u (p +ℤ d) ≡ pos 0 → p ≡ pos 0 → d ≡ pos 0
no_step l u p d a b z = omega (arith, ints, clamps, a, b, z)

-- pays that count and lead nowhere on the way are none
still : (ds : List GroupDelta) → AllByRecursion (λ (d : GroupDelta). d.count ≢ pos 0) ds → lo (increments 0 ds) ≡ pos 0 → hi (increments 0 ds) ≡ pos 0 → ds ≡ []
still [] h a b = refl
still (d ∷ ds) h a b =
    let low : lo (increments 0 ds) ≡ pos 0 = low_rest (lo (increments 0 ds)) (paid (increments 0 ds) +ℤ d.count) (low_at_most (increments 0 ds)) a in
    let high : hi (increments 0 ds) ≡ pos 0 = high_rest (hi (increments 0 ds)) (paid (increments 0 ds) +ℤ d.count) (high_at_least (increments 0 ds)) b in
    let none : ds ≡ [] = still ds h.1 low high in
    absurd (h.0 (no_step (lo (increments 0 ds)) (hi (increments 0 ds)) (paid (increments 0 ds)) d.count a b (ap (λ x. paid (increments 0 x)) none)))

between_is : (x y f g n : ℤ) → n +ℤ x ≡ n +ℤ y → x ≤ℤ f → f ≤ℤ pos 0 → pos 0 ≤ℤ g → g ≤ℤ y → f ≡ pos 0
between_is x y f g n e a b c d = omega (arith, ints, e, a, b, c, d)

between_high : (x y f g n : ℤ) → n +ℤ x ≡ n +ℤ y → x ≤ℤ f → f ≤ℤ pos 0 → pos 0 ≤ℤ g → g ≤ℤ y → g ≡ pos 0
between_high x y f g n e a b c d = omega (arith, ints, e, a, b, c, d)

one_value : (n : ℤ) (pays : Pays) → AllCount pays → inf (account n 0 pays) ≡ sup (account n 0 pays) → IsUnpaid pays
one_value n pays counts same s is =
    let f : ℕ → ℤ = λ k. lo (increments 0 (pays k)) in
    let g : ℕ → ℤ = λ k. hi (increments 0 (pays k)) in
    let low : over_sessions f ≤ℤ f s = sessions-below f s is (λ k. low_at_most (increments 0 (pays k))) in
    let high : g s ≤ℤ over_sessions g = sessions-above g s is (λ k. high_at_least (increments 0 (pays k))) in
    still (pays s) (counts s is)
    (between_is (over_sessions f) (over_sessions g) (f s) (g s) n same low (low_at_most (increments 0 (pays s))) (high_at_least (increments 0 (pays s))) high)
    (between_high (over_sessions f) (over_sessions g) (f s) (g s) n same low (low_at_most (increments 0 (pays s))) (high_at_least (increments 0 (pays s))) high)

one_bound : (n : ℤ) (pays : Pays) → IsUnpaid pays → inf (account n 0 pays) ≡ sup (account n 0 pays)
unfolding over_sessions
one_bound n pays none = ap (λ z. n +ℤ z) (sum_to_same 64 (λ s. lo (increments 0 (pays s))) (λ s. hi (increments 0 (pays s)))
    (λ s a b. ap (λ ds. lo (increments 0 ds)) (none s (a, b)) ∙ sym (ap (λ ds. hi (increments 0 ds)) (none s (a, b)))))

-- of a row in memory
pub unpaid_by : (row : OpenRow) (numbers : List ℤ) (pays : Pays) (c : Column) (r : Bool) → slice_get row.columns 0 ≡ Some c → (r ≡ true) ↔ (least c ≡ greatest c) → RowStands row numbers pays → AllCount pays
    → (r ≡ true) ↔ IsUnpaid pays
unpaid_by row numbers pays c r there is st counts =
    let a = account c.committed 0 pays in
    let stands = (st.columns 0 c there).stands in (
      λ e. one_value c.committed pays counts (sym (least-account c a stands) ∙ (is.0 e ∙ greatest-account c a stands)),
      λ none. is.1 (least-account c a stands ∙ (one_bound c.committed pays none ∙ sym (greatest-account c a stands))),
    )

-- of a row that may be in memory
pub unpaid_at : (o : Option OpenRow) (stored : Option (List ℕ)) (many : ℕ) (pays : Pays) (r : Bool) → StandsFor o stored (suc many) pays → AllCount pays
    → ((row : OpenRow) → o ≡ Some row → (ns : List ℤ) (ps : Pays) → 1 ≤ length ns → RowStands row ns ps → AllCount ps → (r ≡ true) ↔ IsUnpaid ps) → (o ≡ None → r ≡ true) → (r ≡ true) ↔ IsUnpaid pays
unpaid_at None stored many pays r kept counts some none = (λ e s is. kept.closed refl s, λ e. none refl)
unpaid_at (Some row) stored many pays r kept counts some none =
    some row refl kept.numbers pays (let l : length kept.numbers ≡ suc many = kept.has.many in omega (arith, l)) kept.row counts

pub other_row : (o : Option OpenRow) (a b : OpenRow) → o ≡ Some a → o ≡ Some b → a ≡ b
other_row o a b e f = let both : Some a ≡ Some b = sym e ∙ f in cc

-- ---- a ghost without pays

pub not_clean : (unpaid : Bool) (A : Type 0) (pays : Pays) → unpaid ≡ false → (unpaid ≡ true) ↔ IsUnpaid pays → (false ≡ true) ↔ (A × IsUnpaid pays)
not_clean unpaid A pays none is = (λ e. absurd (true≢false (sym e)), λ both. absurd (true≢false (sym (is.1 both.1) ∙ none)))

pub clean : (unpaid r : Bool) (A : Type 0) (pays : Pays) → unpaid ≡ true → (unpaid ≡ true) ↔ IsUnpaid pays → (r ≡ true) ↔ A → (r ≡ true) ↔ (A × IsUnpaid pays)
clean unpaid r A pays all is counted = (λ e. (counted.0 e, is.0 all), λ both. counted.1 both.0)
