-- What rows of a view count in a note.
use Rattle.std.specs.Prelude.{◌≡◌, ℕ, ◌+◌, ◌-◌, ◌^◌, ◌<◌, min, ℤ, Bool, true, false, cond, List, [], ◌∷◌, ◌++◌, map, filter, length, drop}
use Rattle.std.specs.List.{AllByRecursion, AllZip}
use Rattle.std.proofs.Common.{arith, append_assoc, length-append}
use Rattle.std.proofs.lemmas.List.Sums.{sum_by-cons}
use mathlib.Core.Path.{refl, sym, ap, subst, ◌∙◌}
use Rattle.iv_types.specs.declared.value.Kind.{Kind}
use Rattle.iv_types.specs.declared.value.Kind.TheVariants.{Huge}
use Rattle.iv_types.specs.declared.value.Value.{Value}
use Rattle.iv_types.specs.declared.value.Value.TheVariants.{Number}
use Rattle.iv_types.specs.Encoding.{FitAll, value_bytes, key_value_bytes, row_bytes, key_bytes}
use Rattle.iv_types.specs.Maps.{Entry}
use Rattle.iv_meaning.specs.Database.{Row}
use Rattle.row_codec.specs.Laws.{OneSpelling}
use Rattle.ghost_rows.specs.Numbers.{numbers_bytes, Fits128}
use Rattle.data_store.specs.Shown.{StoredRow, entries_of, stands, IsShownAs, Shows, wide, noted_row, noted_rows, Counts}

-- ---- the bytes of one row

bytes_append : (ks ls : List Kind) (vs ws : List Value) → FitAll ks vs → row_bytes (ks ++ ls) (vs ++ ws) ≡ row_bytes ks vs ++ row_bytes ls ws
bytes_append [] ls [] ws f = refl
bytes_append [] ls (v ∷ vs) ws f = absurd f
bytes_append (k ∷ ks) ls [] ws f = absurd f
bytes_append (k ∷ ks) ls (v ∷ vs) ws f =
    ap (λ (l : List ℕ). value_bytes k v ++ l) (bytes_append ks ls vs ws f.1) ∙ sym (append_assoc (value_bytes k v) (row_bytes ks vs) (row_bytes ls ws))

bytes_numbers : (ns : List ℤ) → row_bytes (map (λ (value : Value). Huge) (map Number ns)) (map Number ns) ≡ numbers_bytes ns
bytes_numbers [] = refl
bytes_numbers (n ∷ ns) = ap (λ (l : List ℕ). value_bytes Huge (Number n) ++ l) (bytes_numbers ns)

pub behind : (ks : List Kind) (vs ws : List Value) → FitAll ks vs → drop (length ks) (vs ++ ws) ≡ ws
behind [] [] ws f = refl
behind [] (v ∷ vs) ws f = absurd f
behind (k ∷ ks) [] ws f = absurd f
behind (k ∷ ks) (v ∷ vs) ws f = behind ks vs ws f.1

pub noted_is : (kinds : List Kind) (group : Row) (ns : List ℤ) → FitAll kinds group → noted_row kinds (group ++ map Number ns) ≡ length (row_bytes kinds group) + length (numbers_bytes ns) + 16
noted_is kinds group ns f =
    let row : Row = group ++ map Number ns in
    let is : row_bytes (wide kinds row) row ≡ row_bytes kinds group ++ numbers_bytes ns =
    ap (λ (ws : List Value). row_bytes (kinds ++ map (λ (value : Value). Huge) ws) row) (behind kinds group (map Number ns) f)
    ∙ (bytes_append kinds (map (λ (value : Value). Huge) (map Number ns)) group (map Number ns) f ∙ ap (λ (l : List ℕ). row_bytes kinds group ++ l) (bytes_numbers ns)) in
    ap (λ (l : List ℕ). length l + 16) is ∙ ap (λ (n : ℕ). n + 16) (length-append (row_bytes kinds group) (numbers_bytes ns))

-- ---- the first entry

zip_first : {A B : Type 0} (R : A → B → Type 0) (x : A) (xs : List A) (ys : List B) → AllZip R (x ∷ xs) ys → (y : B) × (rest : List B) × (ys ≡ y ∷ rest) × R x y × AllZip R xs rest
zip_first R x xs [] h = absurd h
zip_first R x xs (y ∷ ys) h = (y, ys, refl, h.0, h.1)

module _ (kinds : List Kind) where
  abbrev counted : List StoredRow → List StoredRow
  counted stored = filter (λ r. stands r.1) stored

  -- what the first of some entries shows, and the others
  pub record First (key value : List ℕ) (es : List Entry) (rows : List Row) : Type 0 where
    pub numbers : List ℤ
    pub fits : Fits128 numbers
    pub is : value ≡ numbers_bytes numbers
    pub ghost : stands numbers ≡ false → Shows kinds es rows
    pub row : stands numbers ≡ true → (row : Row) × (rest : List Row) × (rows ≡ row ∷ rest) × IsShownAs kinds (key, numbers) row × Shows kinds es rest

  pub first_shown : (key value : List ℕ) (es : List Entry) (rows : List Row) → Shows kinds ((key, value) ∷ es) rows → First key value es rows
  first_shown key value es rows s = by_stored s.stored s.in_range s.bytes s.shown
    where
      by_stored : (stored : List StoredRow) → AllByRecursion (λ r. Fits128 r.1) stored → (key, value) ∷ es ≡ entries_of stored → AllZip (IsShownAs kinds) (counted stored) rows → First key value es rows
      by_stored [] f b z = absurd (cc)
      by_stored (r ∷ rs) f b z =
          let here : (key, value) ≡ (r.0, numbers_bytes r.1) = cc in
          let later : es ≡ entries_of rs = cc in
          let same : r.0 ≡ key = sym (ap (λ (x : Entry). x.0) here) in
          record {
            numbers = r.1;
            fits = f.0;
            is = ap (λ (x : Entry). x.1) here;
            ghost = λ e. record { stored = rs; in_range = f.1; bytes = later; shown = subst (λ (b : Bool). AllZip (IsShownAs kinds) (cond b (r ∷ counted rs) (counted rs)) rows) e z };
            row = λ e.
                let first = zip_first (IsShownAs kinds) r (counted rs) rows (subst (λ (b : Bool). AllZip (IsShownAs kinds) (cond b (r ∷ counted rs) (counted rs)) rows) e z) in
                (first.0, first.1, first.2, subst (λ (k : List ℕ). IsShownAs kinds (k, r.1) first.0) same first.3, record { stored = rs; in_range = f.1; bytes = later; shown = first.4 });
          }

  -- ---- one entry more in a sum

  pub counts_ghost : (key value : List ℕ) (es : List Entry) (rows : List Row) → ((numbers : List ℤ) → Fits128 numbers → value ≡ numbers_bytes numbers → stands numbers ≡ false)
      → Shows kinds ((key, value) ∷ es) rows → Counts kinds es 0 rows
  counts_ghost key value es rows ghost s =
      let first = first_shown key value es rows s in
      record { others = rows; shows = first.ghost (ghost first.numbers first.fits first.is); size_is = ap (λ (n : ℕ). min n (2 ^ 64 - 1)) (let e : 0 + noted_rows kinds rows ≡ noted_rows kinds rows = omega arith in e) }

  capped : (size one rest whole : ℕ) → size ≡ min one (2 ^ 64 - 1) → whole ≡ one + rest → min (size + rest) (2 ^ 64 - 1) ≡ min whole (2 ^ 64 - 1)
  capped size one rest whole a b = omega (arith, a, b)

  pub counts_row : OneSpelling key_value_bytes → (key value : List ℕ) (group : Row) (size : ℕ) (es : List Entry) (rows : List Row) → FitAll kinds group → key ≡ key_bytes kinds group
      → size ≡ min (length (row_bytes kinds group) + length value + 16) (2 ^ 64 - 1)
      → ((numbers : List ℤ) → Fits128 numbers → value ≡ numbers_bytes numbers → stands numbers ≡ true)
      → Shows kinds ((key, value) ∷ es) rows → Counts kinds es size rows
  counts_row one key value group size es rows fits key_is size_is stood s =
      let first = first_shown key value es rows s in
      let found = first.row (stood first.numbers first.fits first.is) in
      let row : Row = found.0 in
      let rest : List Row = found.1 in
      let shown : IsShownAs kinds (key, first.numbers) row = found.3 in
      let same : shown.group ≡ group = one kinds shown.group group shown.fits fits (shown.key ∙ key_is) in
      let noted : noted_row kinds row ≡ length (row_bytes kinds group) + length value + 16 =
      ap (noted_row kinds) (shown.row_is ∙ ap (λ (g : Row). g ++ map Number first.numbers) same)
      ∙ (noted_is kinds group first.numbers fits ∙ ap (λ (b : List ℕ). length (row_bytes kinds group) + length b + 16) (sym first.is)) in
      let whole : noted_rows kinds rows ≡ (length (row_bytes kinds group) + length value + 16) + noted_rows kinds rest =
      ap (noted_rows kinds) found.2 ∙ (sum_by-cons (λ n. n) (noted_row kinds row) (map (noted_row kinds) rest) ∙ ap (λ (n : ℕ). n + noted_rows kinds rest) noted) in
      record { others = rest; shows = found.4; size_is = capped size (length (row_bytes kinds group) + length value + 16) (noted_rows kinds rest) (noted_rows kinds rows) size_is whole }

  pub no_rows : (rows : List Row) → Shows kinds [] rows → noted_rows kinds rows ≡ 0
  no_rows rows s = by_stored s.stored s.bytes s.shown
    where
      by_stored : (stored : List StoredRow) → [] ≡ entries_of stored → AllZip (IsShownAs kinds) (counted stored) rows → noted_rows kinds rows ≡ 0
      by_stored (r ∷ rs) b z = absurd (cc)
      by_stored [] b z = none rows z
        where
          none : (rows : List Row) → AllZip (IsShownAs kinds) [] rows → noted_rows kinds rows ≡ 0
          none [] z = refl
          none (row ∷ rows) z = absurd z

  -- ---- the sum so far

  pub counts_all : (es : List Entry) (rows : List Row) → Shows kinds es rows → Counts kinds es 0 rows
  counts_all es rows s = record { others = rows; shows = s; size_is = ap (λ (n : ℕ). min n (2 ^ 64 - 1)) (let e : 0 + noted_rows kinds rows ≡ noted_rows kinds rows = omega arith in e) }

  more : (size one rest others whole next : ℕ) → size < 2 ^ 64 → next ≡ min (size + one) (2 ^ 64 - 1) → min (size + others) (2 ^ 64 - 1) ≡ min whole (2 ^ 64 - 1)
      → min (one + rest) (2 ^ 64 - 1) ≡ min others (2 ^ 64 - 1) → min (next + rest) (2 ^ 64 - 1) ≡ min whole (2 ^ 64 - 1)
  more size one rest others whole next fits n a b = omega (arith, n, a, b)

  pub counts_more : (e : Entry) (es : List Entry) (size one next : ℕ) (rows : List Row) → size < 2 ^ 64 → next ≡ min (size + one) (2 ^ 64 - 1)
      → (whole : Counts kinds (e ∷ es) size rows) → Counts kinds es one whole.others → Counts kinds es next rows
  counts_more e es size one next rows fits is whole one_more = record {
    others = one_more.others;
    shows = one_more.shows;
    size_is = more size one (noted_rows kinds one_more.others) (noted_rows kinds whole.others) (noted_rows kinds rows) next fits is whole.size_is one_more.size_is;
  }

  ends : (size none whole : ℕ) → size < 2 ^ 64 → none ≡ 0 → min (size + none) (2 ^ 64 - 1) ≡ min whole (2 ^ 64 - 1) → size ≡ min whole (2 ^ 64 - 1)
  ends size none whole fits n e = omega (arith, n, e)

  pub counts_none : (es : List Entry) (size : ℕ) (rows : List Row) → size < 2 ^ 64 → es ≡ [] → Counts kinds es size rows → size ≡ min (noted_rows kinds rows) (2 ^ 64 - 1)
  counts_none es size rows fits none counts =
      ends size (noted_rows kinds counts.others) (noted_rows kinds rows) fits (no_rows counts.others (subst (λ (l : List Entry). Shows kinds l counts.others) none counts.shows)) counts.size_is
