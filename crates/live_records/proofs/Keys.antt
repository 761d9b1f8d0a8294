-- Keys of two numbers.
use Rattle.std.proofs.Common.{◌≡◌, ℕ, ◌<◌, ◌≤◌, Bool, true, false, ◌^◌, Some, None, cond, refl, sym, ap, subst, ◌∙◌, arith}
use Rattle.std.specs.declared.cmp.Ordering.{Ordering}
use Rattle.std.specs.declared.cmp.Ordering.TheVariants.{Less, Equal, Greater}
use Rattle.std.specs.Ordering.{nat_cmp, is_eq, is_lt, is_gt}
use Rattle.std.specs.Prelude.{Result, Ok, Err, OnOk, OnErr, Option, IsSome, is_some}
use Rattle.std.specs.Map.{lookup}
use Rattle.std.specs.BTreeMap as tree
use Rattle.std.specs.BTreeMap.{BTreeMap}
use Rattle.std.specs.Cmp.{IsTotalOrder}
use Rattle.std.proofs.lemmas.Bool.Decides.{nat_tests}
use Rattle.std.proofs.lemmas.Cmp.{nat_cmp_total, then_total, on_total, tied_itself}
use Rattle.std.proofs.lemmas.Map.Lookups.{CmpEqualImpliesEq, exact_pairs, exact_unsigned}
use Rattle.live_records.specs.declared.record.LiveRecord.{LiveRecord}
use Rattle.live_records.specs.Keyed.{key_cmp, AreKeyed}

pub exact_keys : CmpEqualImpliesEq key_cmp
exact_keys = exact_pairs nat_cmp nat_cmp exact_unsigned exact_unsigned

pub key_total : IsTotalOrder key_cmp
key_total = then_total (on_total (λ (k : ℕ × ℕ). k.0) nat_cmp_total) (on_total (λ (k : ℕ × ℕ). k.1) nat_cmp_total)

equal_by : (o : Ordering) → is_eq o ≡ true → o ≡ Equal
equal_by Less e = absurd (cc e)
equal_by Equal e = refl
equal_by Greater e = absurd (cc e)

pub same_key : (k q : ℕ × ℕ) → is_eq (key_cmp k q) ≡ true → k ≡ q
same_key k q e = exact_keys k q (equal_by (key_cmp k q) e)

pub same_number : (n m : ℕ) → is_eq (nat_cmp n m) ≡ true → n ≡ m
same_number n m e = exact_unsigned n m (equal_by (nat_cmp n m) e)

pub key_itself : (k : ℕ × ℕ) → is_eq (key_cmp k k) ≡ true
key_itself k = ap is_eq (tied_itself key_total k)

pub number_itself : (n : ℕ) → is_eq (nat_cmp n n) ≡ true
number_itself n = ap is_eq (tied_itself nat_cmp_total n)

-- at most, by the first numbers
pub first_at_most : (t n u m : ℕ) → is_gt (key_cmp (t, n) (u, m)) ≡ false → t ≤ u
first_at_most t n u m h = grind (arith, nat_tests, h)

-- and by the second ones, where the first are the same
pub second_from : (t n m : ℕ) → n ≤ m → is_gt (key_cmp (t, n) (t, m)) ≡ false
second_from t n m h = grind (arith, nat_tests, h)

pub second_at_most : (t n m : ℕ) → is_lt (key_cmp (t, n) (t, m)) ≡ false → m ≤ n
second_at_most t n m h = grind (arith, nat_tests, h)

-- ---- one transaction's

pub entry_of : (t : ℕ) (start end key : ℕ × ℕ) → start ≡ (t, 0) → end ≡ (t, 18446744073709551615) → is_gt (key_cmp start key) ≡ false → is_gt (key_cmp key end) ≡ false → key.0 ≡ t
entry_of t start end key s e from to =
    let least : t ≤ key.0 = first_at_most t 0 key.0 key.1 (subst (λ (k : ℕ × ℕ). is_gt (key_cmp k key) ≡ false) s from) in
    let most : key.0 ≤ t = first_at_most key.0 key.1 t 18446744073709551615 (subst (λ (k : ℕ × ℕ). is_gt (key_cmp key k) ≡ false) e to) in
    omega (arith, least, most)

pub in_bounds : (t n : ℕ) (start end : ℕ × ℕ) → start ≡ (t, 0) → end ≡ (t, 18446744073709551615) → n < 2 ^ 64 → (is_gt (key_cmp start (t, n)) ≡ false) × (is_gt (key_cmp (t, n) end) ≡ false)
in_bounds t n start end s e lt = (
  subst (λ (k : ℕ × ℕ). is_gt (key_cmp k (t, n)) ≡ false) (sym s) (second_from t 0 n (omega arith)),
  subst (λ (k : ℕ × ℕ). is_gt (key_cmp (t, n) k) ≡ false) (sym e) (second_from t n 18446744073709551615 (omega (arith, lt))),
)

-- a number under which a record stands is a `u64`
pub small_number : (records : BTreeMap (ℕ × ℕ) LiveRecord) → AreKeyed records → (t n : ℕ) → IsSome (tree.get key_cmp records (t, n)) → n < 2 ^ 64
small_number records keyed t n some = by (tree.get key_cmp records (t, n)) refl
  where
    by : (o : Option LiveRecord) → tree.get key_cmp records (t, n) ≡ o → n < 2 ^ 64
    by None e = let none : false ≡ true = sym (ap is_some e) ∙ some in absurd (cc none)
    by (Some r) e = (keyed t n r e).2

pub none_under : (records : BTreeMap (ℕ × ℕ) LiveRecord) → AreKeyed records → (t n : ℕ) → (n < 2 ^ 64 → tree.get key_cmp records (t, n) ≡ None) → tree.get key_cmp records (t, n) ≡ None
none_under records keyed t n none = by (tree.get key_cmp records (t, n)) refl
  where
    by : (o : Option LiveRecord) → tree.get key_cmp records (t, n) ≡ o → tree.get key_cmp records (t, n) ≡ None
    by None e = e
    by (Some r) e = none (keyed t n r e).2

-- ---- a record is put under its key, or taken from one

pub same_record : (x y : LiveRecord) → Some x ≡ Some y → x ≡ y
same_record x y e = cc

module _ (old new : BTreeMap (ℕ × ℕ) LiveRecord) (key : ℕ × ℕ) where
  pub keyed_with : (own : LiveRecord) → key ≡ (own.transaction, own.number) → own.number < 2 ^ 64 → AreKeyed old → ((q : ℕ × ℕ) → tree.get key_cmp new q ≡ cond (is_eq (key_cmp key q)) (Some own) (tree.get key_cmp old q)) → AreKeyed new
  keyed_with own is small keyed put t n r there = by (is_eq (key_cmp key (t, n))) refl
    where
      by : (b : Bool) → is_eq (key_cmp key (t, n)) ≡ b → (r.transaction ≡ t) × (r.number ≡ n) × (n < 2 ^ 64)
      by true e =
          let same : own ≡ r = same_record own r (sym (put (t, n) ∙ ap (λ x. cond x (Some own) (tree.get key_cmp old (t, n))) e) ∙ there) in
          let at : (own.transaction, own.number) ≡ (t, n) = sym is ∙ same_key key (t, n) e in
          (ap (λ (x : LiveRecord). x.transaction) (sym same) ∙ ap (λ (k : ℕ × ℕ). k.0) at, ap (λ (x : LiveRecord). x.number) (sym same) ∙ ap (λ (k : ℕ × ℕ). k.1) at, subst (λ (m : ℕ). m < 2 ^ 64) (ap (λ (k : ℕ × ℕ). k.1) at) small)
      by false e = keyed t n r (sym (put (t, n) ∙ ap (λ x. cond x (Some own) (tree.get key_cmp old (t, n))) e) ∙ there)

  pub keyed_without : AreKeyed old → ((q : ℕ × ℕ) → tree.get key_cmp new q ≡ cond (is_eq (key_cmp key q)) None (tree.get key_cmp old q)) → AreKeyed new
  keyed_without keyed taken t n r there = by (is_eq (key_cmp key (t, n))) refl
    where
      by : (b : Bool) → is_eq (key_cmp key (t, n)) ≡ b → (r.transaction ≡ t) × (r.number ≡ n) × (n < 2 ^ 64)
      by true e = let none : None ≡ Some r = sym (taken (t, n) ∙ ap (λ x. cond x None (tree.get key_cmp old (t, n))) e) ∙ there in absurd (cc none)
      by false e = keyed t n r (sym (taken (t, n) ∙ ap (λ x. cond x None (tree.get key_cmp old (t, n))) e) ∙ there)

-- a record is put where there is memory for it, and else nothing is changed
pub keyed_put : {E X : Type 0} (old new : BTreeMap (ℕ × ℕ) LiveRecord) (own : LiveRecord) → own.number < 2 ^ 64 → AreKeyed old → (result : Result X E) → OnOk result (tree.Updates key_cmp old new (own.transaction, own.number) (Some own)) → OnErr result (tree.IsUnchanged old new) → AreKeyed new
keyed_put old new own small keyed (Ok x) put stays t n r is = keyed_with old new (own.transaction, own.number) own refl small keyed put.0 t n r is
keyed_put old new own small keyed (Err e) put stays t n r is = keyed t n r (ap (λ es. lookup (tree.is_at (key_cmp (t, n))) es) (sym stays) ∙ is)
