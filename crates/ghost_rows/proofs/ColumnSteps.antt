-- What calls do to one column.
use Rattle.std.specs.Prelude.{◌≡◌, ℕ, ℤ, Bool, true, false, cond, ◌==◌, Some}
use mathlib.Core.Path.{refl, sym, ap, ◌∙◌}
use Rattle.std.specs.FinMap.{get, insert}
use Rattle.iv_types.specs.declared.lock.Prefix.{Prefix}
use Rattle.escrow_bounds.specs.Column.{Column, IsReserved, part, with_part, added}
use Rattle.escrow_bounds.proofs.PartLemmas.{get-inserted, same}
use Rattle.escrow_bounds.proofs.KeepLemmas.{with_part-same}

twice : {A : Type 0} (b : Bool) (x y z : A) → cond b x (cond b y z) ≡ cond b x z
twice true x y z = refl
twice false x y z = refl

pub with_part_twice : (c : Column) (s : ℕ) (p q : Prefix) → with_part (with_part c s p) s q ≡ with_part c s q
with_part_twice c s p q =
    ap (λ m. record { committed = c.committed; parts = m })
    (same (insert (insert c.parts s p) s q) (insert c.parts s q) (λ k.
    get-inserted (insert c.parts s p) s q k ∙ (ap (cond (k == s) (Some q)) (get-inserted c.parts s p k)
    ∙ (twice (k == s) (Some q) (Some p) (get c.parts k) ∙ sym (get-inserted c.parts s q k)))))

-- an increment that was added and taken back leaves the column
pub put_back : (old mid new : Column) (s : ℕ) (d : ℤ) (p : Prefix) → IsReserved old s → mid ≡ added old s d → p ≡ part old s → new ≡ with_part mid s p → new ≡ old
put_back old mid new s d p r m b n =
    n ∙ (ap (λ c. with_part c s p) m ∙ (ap (with_part (added old s d) s) b ∙ (with_part_twice old s _ (part old s) ∙ sym (with_part-same old s r))))
