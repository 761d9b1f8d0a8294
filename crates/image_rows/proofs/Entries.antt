-- When an entry of a view's index stands.
use Rattle.std.proofs.Common.{◌≡◌, inl, inr, ℕ, Bool, List, Some, length, sym, ap, subst, ◌∙◌}
use Rattle.std.specs.Prelude.{IsTrue, ◌↔◌}
use Rattle.iv_meaning.specs.Schema.{Schema, ViewTree, table, view, numbered}
use Rattle.txn_log.specs.Damaged.{EntryStands}
use Rattle.record_reading.specs.Groups.{IsGroupOf}
use Rattle.image_rows.specs.Rows.{AreNumbers, IsGroupEntry}

same_view : (v w : ViewTree) → Some (view v) ≡ Some (view w) → v ≡ w
same_view v w e = cc

module _ (objects : Schema) (n : ℕ) (key value : List ℕ) where
  -- the numbers are as many as a group of the view has
  pub numbers_entry : (b : Bool) (sums : ℕ) → IsGroupOf objects (n, key) sums → (IsTrue b ↔ AreNumbers (ℕ.suc sums) value) → IsTrue b ↔ IsGroupEntry objects (n, key) value
  numbers_entry b sums g are = (
    (λ t. record { group = g.0; numbers = subst (λ many. AreNumbers (ℕ.suc many) value) g.1 (are.0 t) }),
    (λ h.
        let same : length h.group.of.sums ≡ sums = ap (λ (w : ViewTree). length w.sums) (same_view h.group.of g.0.of (sym h.group.view_is ∙ g.0.view_is)) ∙ sym g.1 in
        are.1 (subst (λ many. AreNumbers (ℕ.suc many) value) same h.numbers)),
  )

  module _ (some : n ≡ 0 → ⊥) (v : ViewTree) where
    group_entry : IsGroupEntry objects (n, key) value → EntryStands objects ((n, key), value)
    group_entry g = let ns = g.numbers in inr (inr (g.group, ns.numbers, ns.count, ns.in_range, ns.bytes))

    entry_group : numbered objects n ≡ Some (view v) → EntryStands objects ((n, key), value) → IsGroupEntry objects (n, key) value
    entry_group is (inl zero_index) = absurd (some zero_index)
    entry_group is (inr (inl r)) = absurd (let wrong : Some (view v) ≡ Some (table r.0) = sym is ∙ r.2 in cc)
    entry_group is (inr (inr g)) = record { group = g.0; numbers = record { numbers = g.1; count = g.2; in_range = g.3; bytes = g.4 } }

    pub view_entry : (b : Bool) → numbered objects n ≡ Some (view v) → (IsTrue b ↔ IsGroupEntry objects (n, key) value) → IsTrue b ↔ EntryStands objects ((n, key), value)
    view_entry b is h = ((λ e. group_entry (h.0 e)), (λ s. h.1 (entry_group is s)))
