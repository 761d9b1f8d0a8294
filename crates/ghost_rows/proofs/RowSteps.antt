-- What calls do to the columns of a row.
use Rattle.std.specs.Prelude.{◌≡◌, ℕ, ◌+◌, ◌<◌, List, length, slice_get, slice_set, Some, IfSome}
use mathlib.Core.Path.{sym, ap, subst, ◌∙◌}
use Rattle.std.proofs.Common.{arith}
use Rattle.iv_types.specs.declared.lock.Prefix.{Prefix}
use Rattle.table_laws.proofs.Stored.{by_session}
use Rattle.escrow_bounds.specs.Column.{Column, part, with_part}
use Rattle.escrow_bounds.proofs.KeepLemmas.{part-reserved, room_with_part}
use Rattle.ghost_rows.specs.Rows.{EachColumn, Widens}
use Rattle.table_laws.proofs.SetPlaces.{set_here, set_elsewhere}

-- one more prefix that was answered
pub prefixes_more : (columns : List Column) (before : List Prefix) (i s : ℕ) (c : Column) (p : Prefix) → slice_get columns i ≡ Some c → i < length before → p ≡ part c s
    → EachColumn (λ j d. j < i → slice_get before j ≡ Some (part d s)) columns → EachColumn (λ j d. j < i + 1 → slice_get (slice_set before i p) j ≡ Some (part d s)) columns
prefixes_more columns before i s c p at few is told j d there lt = by_session j i
    (λ e.
    let same : Some c ≡ Some d = sym at ∙ (ap (slice_get columns) (sym e) ∙ there) in
    let one : c ≡ d = cc in
    ap (slice_get (slice_set before i p)) e ∙ (set_here before i p few ∙ ap Some (is ∙ ap (λ x. part x s) one)))
    (λ n. set_elsewhere before i j p n ∙ told j d there (omega (arith, n)))

widened : (c mid new : Column) (s : ℕ) → Widens c mid → new ≡ with_part mid s (part mid s) → Widens c new
widened c mid new s w e = subst (Widens c) (sym e) (record {
  committed = w.committed;
  parts = λ k. part-reserved mid s k ∙ w.parts k;
  room = λ k r. room_with_part mid s (part mid s) k (w.room k r);
})

-- one more column has room
pub widens_set : (old columns : List Column) (i s : ℕ) (c new : Column) → i < length columns → slice_get columns i ≡ Some c → new ≡ with_part c s (part c s)
    → EachColumn (λ j d. IfSome (slice_get columns j) (Widens d)) old → EachColumn (λ j d. IfSome (slice_get (slice_set columns i new) j) (Widens d)) old
widens_set old columns i s c new lt at is told j d there = by_session j i
    (λ e.
    let here : Widens d c = subst (λ o. IfSome o (Widens d)) (ap (slice_get columns) e ∙ at) (told j d there) in
    subst (λ o. IfSome o (Widens d)) (sym (ap (slice_get (slice_set columns i new)) e ∙ set_here columns i new lt)) (widened d c new s here is))
    (λ n. subst (λ o. IfSome o (Widens d)) (sym (set_elsewhere columns i j new n)) (told j d there))
