-- Columns of view rows: what deltas add to them, and what kept steps do.
use Rattle.std.specs.Prelude.{◌≡◌, ◌≢◌, ℕ, zero, suc, ◌==◌, ◌&&◌, Bool, true, false, cond, List, [], ◌∷◌, ℤ, pos, ◌+ℤ◌, neg_ℤ, get_or, map, Option, Some, None}
use Rattle.std.specs.Option.{option_map_or, unwrap_or}
use mathlib.Core.Path.{refl, sym, ap, ◌∙◌}
use Rattle.std.proofs.Common.{arith, eq-eqb, eqb-true}
use Rattle.std.proofs.lemmas.Bool.{false≢true}
use Rattle.std.proofs.lemmas.Int.{ints}
use Rattle.std.proofs.lemmas.Option.{none-some}
use Rattle.std.proofs.lemmas.Slice.Eq.{bytes_eq-Decides}
use Rattle.std.specs.FinMap.{get}
use Rattle.std.specs.Str.{bytes_eq}
use Rattle.iv_types.specs.declared.lock.GroupDelta.{GroupDelta}
use Rattle.table_laws.specs.Place.{Place}
use Rattle.iv_meaning.specs.Escrow.{paid}
use Rattle.txn_machine.specs.Deltas.{negated, columns_of, worth, place_of, is_for, due}
use Rattle.txn_machine.specs.Keeping.{KeptStep, Put, Pay, increments, IsSettled}
use Rattle.txn_machine.specs.Stored.{ViewRows, stored_number, plus, add_to, add_all, zeros}
use Rattle.txn_machine.proofs.Agreeing.{by_place, written_at, written_other}

-- ---- which deltas are for a place

pub and_true : (a b : Bool) → a ≡ true → b ≡ true → (a && b) ≡ true
and_true a b e f = λ i. e i && f i

pub first_true : (a b : Bool) → (a && b) ≡ true → a ≡ true
first_true true b e = refl
first_true false b e = e

second_true : (a b : Bool) → (a && b) ≡ true → b ≡ true
second_true true b e = e
second_true false b e = absurd (false≢true e)

bytes_same : (xs ys : List ℕ) → bytes_eq xs ys ≡ true → xs ≡ ys
bytes_same xs ys e = (bytes_eq-Decides xs ys).0 e

pub is_for_here : (p : Place) (d : GroupDelta) → p ≡ place_of d → is_for p d ≡ true
is_for_here p d e = and_true (d.view == p.0) (bytes_eq d.group p.1) (eq-eqb d.view p.0 (sym (ap (λ (x : Place). x.0) e))) ((bytes_eq-Decides d.group p.1).1 (sym (ap (λ (x : Place). x.1) e)))

pub is_for_place : (p : Place) (d : GroupDelta) → is_for p d ≡ true → p ≡ place_of d
is_for_place p d e = λ i. (sym (eqb-true d.view p.0 (first_true (d.view == p.0) (bytes_eq d.group p.1) e)) i, sym (bytes_same d.group p.1 (second_true (d.view == p.0) (bytes_eq d.group p.1) e)) i)

pub is_for_other : (p : Place) (d : GroupDelta) → p ≢ place_of d → is_for p d ≡ false
is_for_other p d n = elim (is_for p d) as (λ b. is_for p d ≡ b → is_for p d ≡ false) [ true ↦ λ e. absurd (n (is_for_place p d e)) | false ↦ λ e. e ] refl

-- what one delta adds to a column of a place
abbrev pub adds : Place → ℕ → GroupDelta → ℤ
adds p column d = cond (is_for p d) (worth column d) (pos 0)

-- ---- lists of numbers

pub get_or-plus : (xs ys : List ℤ) (i : ℕ) → get_or (plus xs ys) i (pos 0) ≡ get_or xs i (pos 0) +ℤ get_or ys i (pos 0)
get_or-plus [] ys i = omega (arith, ints)
get_or-plus (x ∷ xs) [] i = omega (arith, ints)
get_or-plus (x ∷ xs) (y ∷ ys) zero = refl
get_or-plus (x ∷ xs) (y ∷ ys) (suc i) = get_or-plus xs ys i

pub get_or-zeros : (n i : ℕ) → get_or (zeros n) i (pos 0) ≡ pos 0
get_or-zeros zero i = refl
get_or-zeros (suc n) zero = refl
get_or-zeros (suc n) (suc i) = get_or-zeros n i

-- ---- stored rows

abbrev pub number_in_row : ℕ → Option (List ℤ) → ℤ
number_in_row column o = option_map_or (λ numbers. get_or numbers column (pos 0)) o (pos 0)

row_or_none : (column : ℕ) (o : Option (List ℤ)) → get_or (unwrap_or o []) column (pos 0) ≡ number_in_row column o
row_or_none column None = refl
row_or_none column (Some xs) = refl

pub stored_at : (view view' : ViewRows) (p : Place) (column : ℕ) → get view p ≡ get view' p → stored_number view p column ≡ stored_number view' p column
stored_at view view' p column e = ap (number_in_row column) e

pub stored_add : (view : ViewRows) (d : GroupDelta) (p : Place) (column : ℕ) → stored_number (add_to view d) p column ≡ stored_number view p column +ℤ adds p column d
stored_add view d p column =
    let row : List ℤ = unwrap_or (get view (place_of d)) [] in
    by_place p (place_of d)
    (λ e.
    let there : stored_number (add_to view d) p column ≡ get_or (plus row (columns_of d)) column (pos 0) = ap (number_in_row column) (written_at view (place_of d) (Some (plus row (columns_of d))) p e) in
    let sum : get_or (plus row (columns_of d)) column (pos 0) ≡ get_or row column (pos 0) +ℤ worth column d = get_or-plus row (columns_of d) column in
    let was : get_or row column (pos 0) ≡ stored_number view p column = row_or_none column (get view (place_of d)) ∙ ap (λ x. number_in_row column (get view x)) (sym e) in
    let here : adds p column d ≡ worth column d = ap (λ b. cond b (worth column d) (pos 0)) (is_for_here p d e) in
    omega (arith, ints))
    (λ n.
    let there : stored_number (add_to view d) p column ≡ stored_number view p column = ap (number_in_row column) (written_other view (place_of d) (Some (plus row (columns_of d))) p n) in
    let none : adds p column d ≡ pos 0 = ap (λ b. cond b (worth column d) (pos 0)) (is_for_other p d n) in
    omega (arith, ints))

pub stored_add_all : (view : ViewRows) (ds : List GroupDelta) (p : Place) (column : ℕ) → stored_number (add_all view ds) p column ≡ stored_number view p column +ℤ due p column ds
stored_add_all view [] p column = omega (arith, ints)
stored_add_all view (d ∷ ds) p column =
    let rest : stored_number (add_all (add_to view d) ds) p column ≡ stored_number (add_to view d) p column +ℤ due p column ds = stored_add_all (add_to view d) ds p column in
    let one : stored_number (add_to view d) p column ≡ stored_number view p column +ℤ adds p column d = stored_add view d p column in
    omega (arith, ints)

get_or-negated : (xs : List ℤ) (i : ℕ) → get_or (map neg_ℤ xs) i (pos 0) ≡ neg_ℤ (get_or xs i (pos 0))
get_or-negated [] i = refl
get_or-negated (x ∷ xs) zero = refl
get_or-negated (x ∷ xs) (suc i) = get_or-negated xs i

worth-negated : (column : ℕ) (d : GroupDelta) → worth column (negated d) ≡ neg_ℤ (worth column d)
worth-negated column d = get_or-negated (columns_of d) column

pub adds-negated : (p : Place) (column : ℕ) (d : GroupDelta) → adds p column (negated d) ≡ neg_ℤ (adds p column d)
adds-negated p column d = elim (is_for p d) as (λ b. cond b (worth column (negated d)) (pos 0) ≡ neg_ℤ (cond b (worth column d) (pos 0))) [ true ↦ worth-negated column d | false ↦ refl ]

-- a place that is there after a delta was added was there before, or is the delta's
pub added_there : (view : ViewRows) (d : GroupDelta) (p : Place) → get (add_to view d) p ≡ None → (get view p ≡ None) × (p ≢ place_of d)
added_there view d p e =
    let row : List ℤ = plus (unwrap_or (get view (place_of d)) []) (columns_of d) in
    let apart : p ≢ place_of d = λ i. none-some row (sym e ∙ written_at view (place_of d) (Some row) p i) in
    (sym (written_other view (place_of d) (Some row) p apart) ∙ e, apart)

-- ---- kept steps

-- what some kept steps paid to a column of a place
abbrev pub paid_in : Place → ℕ → List KeptStep → ℤ
paid_in p column ks = paid (increments p column ks)

-- what their changes owed
abbrev pub owes_in : Place → ℕ → List KeptStep → ℤ
owes_in p column [] = pos 0
owes_in p column (Put c ds ∷ ks) = owes_in p column ks +ℤ due p column ds
owes_in p column (Pay d ∷ ks) = owes_in p column ks

pub paid_in_pay : (p : Place) (column : ℕ) (d : GroupDelta) (ks : List KeptStep) → paid_in p column (Pay d ∷ ks) ≡ paid_in p column ks +ℤ adds p column d
paid_in_pay p column d ks = elim (is_for p d) as (λ b. paid (cond b (worth column d ∷ increments p column ks) (increments p column ks)) ≡ paid (increments p column ks) +ℤ cond b (worth column d) (pos 0)) [
  | true ↦ refl
  | false ↦ omega (arith, ints)
]

-- what is paid and what is owed make up what the changes owed
pub settled_sum : (p : Place) (column : ℕ) (ks : List KeptStep) (owed : List GroupDelta) → IsSettled ks owed → paid_in p column ks +ℤ due p column owed ≡ owes_in p column ks
settled_sum p column [] owed s = ap (λ xs. pos 0 +ℤ due p column xs) s
settled_sum p column (Pay d ∷ ks) owed s =
    let rest : paid_in p column ks +ℤ due p column (d ∷ owed) ≡ owes_in p column ks = settled_sum p column ks (d ∷ owed) s in
    let one : paid_in p column (Pay d ∷ ks) ≡ paid_in p column ks +ℤ adds p column d = paid_in_pay p column d ks in
    omega (arith, ints)
settled_sum p column (Put c ds ∷ ks) owed s =
    let rest : paid_in p column ks +ℤ due p column [] ≡ owes_in p column ks = settled_sum p column ks [] s.1 in
    let owes : due p column owed ≡ due p column ds = ap (due p column) s.0 in
    omega (arith, ints)
