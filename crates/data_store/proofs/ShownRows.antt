-- Rows that entries of a view show, entry by entry.
use Rattle.std.specs.Prelude.{◌≡◌, ℕ, zero, suc, ◌+◌, ◌*◌, ◌<◌, ◌≤◌, ℤ, Bool, true, false, cond, List, [], ◌∷◌, ◌++◌, map, filter, length, FitsSigned}
use Rattle.std.specs.List.{AllByRecursion, AllZip}
use Rattle.std.proofs.Common.{arith, append_assoc, append-nil}
use mathlib.Core.Path.{refl, sym, ap, subst, ◌∙◌}
use Rattle.std.specs.Int.{w128}
use Rattle.iv_types.specs.declared.value.Kind.{Kind}
use Rattle.iv_types.specs.declared.value.Kind.TheVariants.{Huge}
use Rattle.iv_types.specs.declared.value.Value.TheVariants.{Number}
use Rattle.iv_types.specs.Encoding.{value_bytes}
use Rattle.iv_types.specs.Maps.{Entry}
use Rattle.iv_meaning.specs.Database.{Row}
use Rattle.row_codec.proofs.Numbers.{signed_split}
use Rattle.ghost_rows.specs.Numbers.{numbers_bytes, Fits128}
use Rattle.ghost_rows.proofs.NumberSteps.{none_left, long}
use Rattle.data_store.specs.Shown.{StoredRow, entries_of, stands, IsShownAs, Shows}

-- ---- one spelling

pub one_numbers : (a b : List ℤ) → Fits128 a → Fits128 b → numbers_bytes a ≡ numbers_bytes b → a ≡ b
one_numbers [] [] f g e = refl
one_numbers [] (n ∷ ns) f g e = sym (none_left (n ∷ ns) (sym e))
one_numbers (n ∷ ns) [] f g e = none_left (n ∷ ns) e
one_numbers (n ∷ ns) (m ∷ ms) f g e =
    let both = signed_split w128 refl n m (numbers_bytes ns) (numbers_bytes ms) f.0 g.0 e in
    let here : n ≡ m = both.0 in
    let rest : ns ≡ ms = one_numbers ns ms f.1 g.1 both.1 in
    λ i. here i ∷ rest i

abbrev pub AllFit : List StoredRow → Type 0
AllFit stored = AllByRecursion (λ r. Fits128 r.1) stored

pub one_stored : (a b : List StoredRow) → AllFit a → AllFit b → entries_of a ≡ entries_of b → a ≡ b
one_stored [] [] f g e = refl
one_stored [] (r ∷ rs) f g e = absurd (cc)
one_stored (r ∷ rs) [] f g e = absurd (cc)
one_stored (r ∷ rs) (s ∷ ss) f g e =
    let here : (r.0, numbers_bytes r.1) ≡ (s.0, numbers_bytes s.1) = cc in
    let later : entries_of rs ≡ entries_of ss = cc in
    let key : r.0 ≡ s.0 = ap (λ (x : Entry). x.0) here in
    let numbers : r.1 ≡ s.1 = one_numbers r.1 s.1 f.0 g.0 (ap (λ (x : Entry). x.1) here) in
    let rest : rs ≡ ss = one_stored rs ss f.1 g.1 later in
    λ i. (key i, numbers i) ∷ rest i

-- ---- one entry more

module _ (kinds : List Kind) where
  abbrev counted : List StoredRow → List StoredRow
  counted stored = filter (λ r. stands r.1) stored

  pub none_shown : Shows kinds [] []
  none_shown = record { stored = []; in_range = tt; bytes = refl; shown = tt }

  -- a ghost shows no row
  pub ghost_shown : (key value : List ℕ) (numbers : List ℤ) (es : List Entry) (rows : List Row) → Fits128 numbers → value ≡ numbers_bytes numbers → stands numbers ≡ false
      → Shows kinds es rows → Shows kinds ((key, value) ∷ es) rows
  ghost_shown key value numbers es rows fits is ghost s = record {
    stored = (key, numbers) ∷ s.stored;
    in_range = (fits, s.in_range);
    bytes = λ i. (key, is i) ∷ s.bytes i;
    shown = subst (λ (b : Bool). AllZip (IsShownAs kinds) (cond b ((key, numbers) ∷ counted s.stored) (counted s.stored)) rows) (sym ghost) s.shown;
  }

  pub row_shown : (key value : List ℕ) (numbers : List ℤ) (row : Row) (es : List Entry) (rows : List Row) → Fits128 numbers → value ≡ numbers_bytes numbers → stands numbers ≡ true
      → IsShownAs kinds (key, numbers) row → Shows kinds es rows → Shows kinds ((key, value) ∷ es) (row ∷ rows)
  row_shown key value numbers row es rows fits is counts shown s = record {
    stored = (key, numbers) ∷ s.stored;
    in_range = (fits, s.in_range);
    bytes = λ i. (key, is i) ∷ s.bytes i;
    shown = subst (λ (b : Bool). AllZip (IsShownAs kinds) (cond b ((key, numbers) ∷ counted s.stored) (counted s.stored)) (row ∷ rows)) (sym counts) (shown, s.shown);
  }

-- ---- numbers of a stored row, pushed one after the other

abbrev one : ℤ → List ℕ
one n = value_bytes Huge (Number n)

-- the numbers whose bytes are left complete the row
pub record IsLeft (row : Row) (rest : List ℕ) (whole : Row) : Type 0 where
  pub later : List ℤ
  pub fits : Fits128 later
  pub bytes : rest ≡ numbers_bytes later
  pub told : row ++ map Number later ≡ whole

pub left_more : (row after : Row) (rest behind : List ℕ) (whole : Row) (n : ℤ) → FitsSigned w128 n → rest ≡ one n ++ behind → after ≡ row ++ Number n ∷ []
    → IsLeft row rest whole → IsLeft after behind whole
left_more row after rest behind whole n f b a left = by_later left.later left.fits left.bytes left.told
  where
    by_later : (later : List ℤ) → Fits128 later → rest ≡ numbers_bytes later → row ++ map Number later ≡ whole → IsLeft after behind whole
    by_later [] g r t = absurd (let l : 16 + length behind ≡ 0 = sym (long n behind) ∙ ap length (sym b ∙ r) in omega (arith, l))
    by_later (m ∷ ms) g r t =
        let both = signed_split w128 refl n m behind (numbers_bytes ms) f g.0 (sym b ∙ r) in
        record {
          later = ms;
          fits = g.1;
          bytes = both.1;
          told = ap (λ (l : Row). l ++ map Number ms) a
              ∙ (append_assoc row (Number n ∷ []) (map Number ms) ∙ (ap (λ (k : ℤ). row ++ Number k ∷ map Number ms) both.0 ∙ t));
        }

pub left_none : (row : Row) (rest : List ℕ) (whole : Row) → rest ≡ [] → IsLeft row rest whole → row ≡ whole
left_none row rest whole e left =
    sym (append-nil row) ∙ (ap (λ (later : List ℤ). row ++ map Number later) (sym (none_left left.later (sym left.bytes ∙ e))) ∙ left.told)

-- as many bytes are left as some numbers have
pub fewer : (rest behind k : ℕ) → rest ≡ 16 * k → rest ≡ 16 + behind → (j : ℕ) × (behind ≡ 16 * j)
fewer rest behind zero a b = absurd (omega (arith, a, b))
fewer rest behind (suc k) a b = (k, omega (arith, a, b))

pub enough : (bytes k : ℕ) → bytes ≡ 16 * k → 0 < bytes → 16 ≤ bytes
enough bytes zero a b = absurd (omega (arith, a, b))
enough bytes (suc k) a b = omega (arith, a)
