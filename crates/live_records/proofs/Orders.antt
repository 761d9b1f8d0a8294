-- Records that go one by one from their transactions' keys to their numbers.
use Rattle.std.proofs.Common.{◌≡◌, ℕ, Bool, true, false, Option, Some, None, cond, ◌⊎◌, inl, inr, refl, sym, ap, ◌∙◌}
use Rattle.std.specs.Prelude.{IsSome, is_some}
use Rattle.std.specs.Ordering.{nat_cmp, is_eq}
use Rattle.std.specs.BTreeMap as tree
use Rattle.std.specs.BTreeMap.{BTreeMap}
use Rattle.live_records.specs.declared.record.LiveRecord.{LiveRecord}
use Rattle.live_records.specs.Keyed.{key_cmp, AreKeyed}
use Rattle.live_records.proofs.Keys.{same_key, same_number, number_itself, same_record}

some_by : (o : Option LiveRecord) (r : LiveRecord) → o ≡ Some r → IsSome o
some_by o r e = ap is_some e

no_record : {A : Type 0} (r : LiveRecord) → None ≡ Some r → A
no_record r e = absurd (cc e)

true_not_false : {A : Type 0} → true ≡ false → A
true_not_false e = absurd (cc e)

module _ (first : BTreeMap (ℕ × ℕ) LiveRecord) (keyed : AreKeyed first) (apart : (t u n : ℕ) → IsSome (tree.get key_cmp first (t, n)) → IsSome (tree.get key_cmp first (u, n)) → t ≡ u) where
  module _ (left rest : BTreeMap (ℕ × ℕ) LiveRecord) (all more : BTreeMap ℕ LiveRecord) (key : ℕ × ℕ) (own : LiveRecord) (among : (t n : ℕ) (r : LiveRecord) → tree.get key_cmp left (t, n) ≡ Some r → tree.get key_cmp first (t, n) ≡ Some r) where
    pub moved_left : ((q : ℕ × ℕ) → tree.get key_cmp rest q ≡ cond (is_eq (key_cmp key q)) None (tree.get key_cmp left q)) → (t n : ℕ) (r : LiveRecord) → tree.get key_cmp rest (t, n) ≡ Some r → tree.get key_cmp first (t, n) ≡ Some r
    moved_left taken t n r is = by (is_eq (key_cmp key (t, n))) refl
      where
        by : (b : Bool) → is_eq (key_cmp key (t, n)) ≡ b → tree.get key_cmp first (t, n) ≡ Some r
        by true e = no_record r (sym (taken (t, n) ∙ ap (λ x. cond x None (tree.get key_cmp left (t, n))) e) ∙ is)
        by false e = among t n r (sym (taken (t, n) ∙ ap (λ x. cond x None (tree.get key_cmp left (t, n))) e) ∙ is)

    module _ (held : tree.get key_cmp left key ≡ Some own) where
      its_key : (own.transaction ≡ key.0) × (own.number ≡ key.1)
      its_key = let at = keyed key.0 key.1 own (among key.0 key.1 own held) in (at.0, at.1)

      pub moved_all : ((n : ℕ) (r : LiveRecord) → tree.get nat_cmp all n ≡ Some r → tree.get key_cmp first (r.transaction, n) ≡ Some r)
          → ((n : ℕ) → tree.get nat_cmp more n ≡ cond (is_eq (nat_cmp own.number n)) (Some own) (tree.get nat_cmp all n)) → (n : ℕ) (r : LiveRecord) → tree.get nat_cmp more n ≡ Some r → tree.get key_cmp first (r.transaction, n) ≡ Some r
      moved_all before put n r is = by (is_eq (nat_cmp own.number n)) refl
        where
          by : (b : Bool) → is_eq (nat_cmp own.number n) ≡ b → tree.get key_cmp first (r.transaction, n) ≡ Some r
          by true e =
              let same : own ≡ r = same_record own r (sym (put n ∙ ap (λ x. cond x (Some own) (tree.get nat_cmp all n)) e) ∙ is) in
              let at : n ≡ key.1 = sym (same_number own.number n e) ∙ its_key.1 in
              let of : r.transaction ≡ key.0 = ap (λ (x : LiveRecord). x.transaction) (sym same) ∙ its_key.0 in
              ap (λ (k : ℕ × ℕ). tree.get key_cmp first k) (λ i. (of i, at i)) ∙ (among key.0 key.1 own held ∙ ap Some same)
          by false e = before n r (sym (put n ∙ ap (λ x. cond x (Some own) (tree.get nat_cmp all n)) e) ∙ is)

      pub moved_each : ((t n : ℕ) (r : LiveRecord) → tree.get key_cmp first (t, n) ≡ Some r → (tree.get key_cmp left (t, n) ≡ Some r) ⊎ (tree.get nat_cmp all n ≡ Some r))
          → ((q : ℕ × ℕ) → tree.get key_cmp rest q ≡ cond (is_eq (key_cmp key q)) None (tree.get key_cmp left q)) → ((n : ℕ) → tree.get nat_cmp more n ≡ cond (is_eq (nat_cmp own.number n)) (Some own) (tree.get nat_cmp all n))
          → (t n : ℕ) (r : LiveRecord) → tree.get key_cmp first (t, n) ≡ Some r → (tree.get key_cmp rest (t, n) ≡ Some r) ⊎ (tree.get nat_cmp more n ≡ Some r)
      moved_each before taken put t n r is = by (is_eq (nat_cmp own.number n)) refl
        where
          by : (b : Bool) → is_eq (nat_cmp own.number n) ≡ b → (tree.get key_cmp rest (t, n) ≡ Some r) ⊎ (tree.get nat_cmp more n ≡ Some r)
          by true e =
              let at : n ≡ key.1 = sym (same_number own.number n e) ∙ its_key.1 in
              let there : tree.get key_cmp first (key.0, n) ≡ Some own = ap (λ (m : ℕ). tree.get key_cmp first (key.0, m)) at ∙ among key.0 key.1 own held in
              let one : t ≡ key.0 = apart t key.0 n (some_by (tree.get key_cmp first (t, n)) r is) (some_by (tree.get key_cmp first (key.0, n)) own there) in
              let same : own ≡ r = same_record own r (sym there ∙ (ap (λ (u : ℕ). tree.get key_cmp first (u, n)) (sym one) ∙ is)) in
              inr (put n ∙ (ap (λ x. cond x (Some own) (tree.get nat_cmp all n)) e ∙ ap Some same))
          by false e = elim (before t n r is) [
            | inl l ↦ inl (at (is_eq (key_cmp key (t, n))) refl l)
            | inr a ↦ inr (put n ∙ (ap (λ x. cond x (Some own) (tree.get nat_cmp all n)) e ∙ a))
          ]
            where
              at : (b : Bool) → is_eq (key_cmp key (t, n)) ≡ b → tree.get key_cmp left (t, n) ≡ Some r → tree.get key_cmp rest (t, n) ≡ Some r
              at true k l =
                  let number : own.number ≡ n = its_key.1 ∙ ap (λ (q : ℕ × ℕ). q.1) (same_key key (t, n) k) in
                  true_not_false (sym (ap (λ (m : ℕ). is_eq (nat_cmp own.number m)) (sym number) ∙ number_itself own.number) ∙ e)
              at false k l = taken (t, n) ∙ (ap (λ x. cond x None (tree.get key_cmp left (t, n))) k ∙ l)
