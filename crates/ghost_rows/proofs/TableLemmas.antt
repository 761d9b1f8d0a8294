-- Rows at their places.
use Rattle.std.specs.Prelude.{◌≡◌, ◌≢◌, ℕ, true, false, cond, Option, Some, None, IsSome, Result, Ok, Err, IfOk}
use mathlib.Core.Path.{refl, sym, ap, subst, ◌∙◌}
use Rattle.std.specs.FinMap.{insert, remove}
use Rattle.table_laws.specs.Place.{Place}
use Rattle.table_laws.proofs.Place.{place_cmp_total, place_cmp-IsAntisymmetric}
use Rattle.table_laws.proofs.Tables.{get-write_same, get-write_other, by_key}
use Rattle.ghost_rows.specs.Rows.{OpenRow, OpenRows, row_at, ChangesRow, settled_row, settled_at, is_open, left_open}

pub by_place : {P : Type 0} (q place : Place) → (q ≡ place → P) → (q ≢ place → P) → P
by_place q place f g = by_key place_cmp_total place_cmp-IsAntisymmetric q place f g

pub some_same : {A : Type 0} (x y : A) → Some x ≡ Some y → x ≡ y
some_same x y q = cc

pub not_some : {A : Type 0} (o : Option A) → (IsSome o → ⊥) → o ≡ None
not_some None f = refl
not_some (Some x) f = absurd (f refl)

pub is_some_of : {A : Type 0} (o : Option A) (x : A) → o ≡ Some x → IsSome o
is_some_of o x e = subst IsSome (sym e) refl

-- ---- a row is put at a place

-- behind changes of that place alone
pub put_again : (rows between : OpenRows) (place : Place) (row : OpenRow) → ((q : Place) → q ≢ place → row_at between q ≡ row_at rows q) → ChangesRow place row rows (insert between place row)
put_again rows between place row same = record {
  here = get-write_same place_cmp_total place_cmp-IsAntisymmetric between place (Some row);
  others = λ q n. get-write_other place_cmp_total place_cmp-IsAntisymmetric between place (Some row) q n ∙ same q n;
}

pub put_changes : (rows : OpenRows) (place : Place) (row : OpenRow) → ChangesRow place row rows (insert rows place row)
put_changes rows place row = put_again rows rows place row (λ q n. refl)

-- a row that was lifted, and what was laid in its stead
pub laid : (old between new : OpenRows) (place : Place) (lifted row after : OpenRow) → row_at old place ≡ Some lifted → ((q : Place) → q ≢ place → row_at between q ≡ row_at old q) → new ≡ insert between place after
    → row_at old place ≡ Some row → (row ≡ lifted) × ChangesRow place after old new
laid old between new place lifted row after there same is here = (
  some_same row lifted (sym here ∙ there),
  subst (λ (l : OpenRows). ChangesRow place after old l) (sym is) (put_again old between place after same),
)

-- the same row was laid again
pub laid_same : (old between new : OpenRows) (place : Place) (lifted after : OpenRow) → row_at old place ≡ Some lifted → ((q : Place) → q ≢ place → row_at between q ≡ row_at old q) → new ≡ insert between place after
    → after ≡ lifted → (q : Place) → row_at new q ≡ row_at old q
laid_same old between new place lifted after there same is e q =
    let changes = (laid old between new place lifted lifted after there same is there).1 in
    by_place q place
    (λ k. ap (row_at new) k ∙ (changes.here ∙ (ap Some e ∙ (sym there ∙ ap (row_at old) (sym k)))))
    (λ n. changes.others q n)

pub removed_here : (between : OpenRows) (place : Place) → row_at (remove between place) place ≡ None
removed_here between place = get-write_same place_cmp_total place_cmp-IsAntisymmetric between place None

pub removed_other : (between : OpenRows) (place q : Place) → q ≢ place → row_at (remove between place) q ≡ row_at between q
removed_other between place q n = get-write_other place_cmp_total place_cmp-IsAntisymmetric between place None q n

-- ---- a session ends

pub left_open_row : (row : OpenRow) → is_open row ≡ true → left_open (Some row) ≡ Some row
left_open_row row e = ap (λ b. cond b (Some row) None) e

pub left_shut_row : (row : OpenRow) → is_open row ≡ false → left_open (Some row) ≡ None
left_shut_row row e = ap (λ b. cond b (Some row) None) e

pub settled_here : (s : ℕ) (o : Option OpenRow) (row : OpenRow) → o ≡ Some row → settled_at s o ≡ left_open (Some (settled_row s row))
settled_here s o row e = ap (settled_at s) e

pub three_ok : {X E : Type 0} (r : Result X E) (P Q R S : X → Type 0) → ((x : X) → P x → Q x → R x → S x) → IfOk r P → IfOk r Q → IfOk r R → IfOk r S
three_ok (Ok x) P Q R S f p q t = f x p q t
three_ok (Err e) P Q R S f p q t = p
