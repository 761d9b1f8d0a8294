-- The bounds of a column after a change of one session's prefix.
use Rattle.std.proofs.Common.{◌≡◌, ℕ, Bool, true, false, cond, ap, ◌∙◌, arith}
use Rattle.std.specs.Prelude.{◌==◌, ◌≢◌, ℤ, pos, ◌+ℤ◌, ◌-ℤ◌, ◌≤ℤ◌, Some, None, unwrap_or}
use Rattle.std.specs.FinMap.{get, remove}
use Rattle.std.proofs.lemmas.Int.{ints}
use Rattle.iv_types.specs.declared.lock.Prefix.{Prefix}
use Rattle.iv_meaning.specs.Escrow.{over_sessions, IsSession}
use Rattle.escrow_bounds.specs.Column.{Column, none, part, least, greatest, with_part, without}
use Rattle.escrow_bounds.proofs.SumLemmas.{sessions-le, sessions-zero, sessions-change}
use Rattle.escrow_bounds.proofs.PartLemmas.{get-inserted, get-removed, self_tie, untied}

pub part-with_same : (c : Column) (s : ℕ) (p : Prefix) → part (with_part c s p) s ≡ p
part-with_same c s p = ap (λ o. unwrap_or o none) (get-inserted c.parts s p s ∙ ap (λ b. cond b (Some p) (get c.parts s)) (self_tie s))

pub part-with_other : (c : Column) (s : ℕ) (p : Prefix) (k : ℕ) → k ≢ s → part (with_part c s p) k ≡ part c k
part-with_other c s p k h = ap (λ o. unwrap_or o none) (get-inserted c.parts s p k ∙ ap (λ b. cond b (Some p) (get c.parts k)) (untied k s h))

pub part-without_same : (c : Column) (s : ℕ) → part (without c s) s ≡ none
part-without_same c s = ap (λ o. unwrap_or o none) (get-removed c.parts s s ∙ ap (λ b. cond b None (get c.parts s)) (self_tie s))

pub part-without_other : (c : Column) (s : ℕ) (k : ℕ) → k ≢ s → part (without c s) k ≡ part c k
part-without_other c s k h = ap (λ o. unwrap_or o none) (get-removed c.parts s k ∙ ap (λ b. cond b None (get c.parts k)) (untied k s h))

-- ---- a column in which one session's prefix differs

-- the second column has this prefix at the session, and else the first's
pub record Differs (c d : Column) (s : ℕ) (p : Prefix) : Type 0 where
  pub here : part d s ≡ p
  pub others : (k : ℕ) → k ≢ s → part d k ≡ part c k

pub Differs-with_part : (c : Column) (s : ℕ) (p : Prefix) → Differs c (with_part c s p) s p
Differs-with_part c s p = record { here = part-with_same c s p; others = part-with_other c s p }

pub Differs-without : (c : Column) (s : ℕ) (n : ℤ) → Differs c (record { committed = n; parts = remove c.parts s }) s none
Differs-without c s n = record { here = part-without_same c s; others = part-without_other c s }

pub lo-change : (c d : Column) (s : ℕ) (p : Prefix) → IsSession s → Differs c d s p → (least d -ℤ d.committed +ℤ (part c s).lo) ≡ (least c -ℤ c.committed +ℤ p.lo)
lo-change c d s p is h =
    let e = sessions-change s (λ k. (part c k).lo) (λ k. (part d k).lo) is (λ k ne. ap (λ (q : Prefix). q.lo) (h.others k ne)) in
    let here : (part d s).lo ≡ p.lo = ap (λ (q : Prefix). q.lo) h.here in
    omega (arith, ints, e, here)

pub hi-change : (c d : Column) (s : ℕ) (p : Prefix) → IsSession s → Differs c d s p → (greatest d -ℤ d.committed +ℤ (part c s).hi) ≡ (greatest c -ℤ c.committed +ℤ p.hi)
hi-change c d s p is h =
    let e = sessions-change s (λ k. (part c k).hi) (λ k. (part d k).hi) is (λ k ne. ap (λ (q : Prefix). q.hi) (h.others k ne)) in
    let here : (part d s).hi ≡ p.hi = ap (λ (q : Prefix). q.hi) h.here in
    omega (arith, ints, e, here)

-- ---- bounds of one session's part

at_most : (b : Bool) (x : ℤ) → x ≤ℤ pos 0 → cond b (pos 0) x ≤ℤ pos 0
at_most true x h = omega (arith, ints)
at_most false x h = h

at_least : (b : Bool) (x : ℤ) → pos 0 ≤ℤ x → pos 0 ≤ℤ cond b (pos 0) x
at_least true x h = omega (arith, ints)
at_least false x h = h

pub sessions-below : (f : ℕ → ℤ) (s : ℕ) → IsSession s → ((k : ℕ) → f k ≤ℤ pos 0) → over_sessions f ≤ℤ f s
sessions-below f s is h =
    let g : ℕ → ℤ = λ k. cond (k == s) (pos 0) (f k) in
    let low : over_sessions g ≤ℤ over_sessions (λ k. pos 0) = sessions-le g (λ k. pos 0) (λ k. at_most (k == s) (f k) (h k)) in
    let e : (over_sessions g +ℤ f s) ≡ (over_sessions f +ℤ g s) = sessions-change s f g is (λ k ne. ap (λ b. cond b (pos 0) (f k)) (untied k s ne)) in
    let here : g s ≡ pos 0 = ap (λ b. cond b (pos 0) (f s)) (self_tie s) in
    omega (arith, ints, low, e, here, sessions-zero)

pub sessions-above : (f : ℕ → ℤ) (s : ℕ) → IsSession s → ((k : ℕ) → pos 0 ≤ℤ f k) → f s ≤ℤ over_sessions f
sessions-above f s is h =
    let g : ℕ → ℤ = λ k. cond (k == s) (pos 0) (f k) in
    let high : over_sessions (λ k. pos 0) ≤ℤ over_sessions g = sessions-le (λ k. pos 0) g (λ k. at_least (k == s) (f k) (h k)) in
    let e : (over_sessions g +ℤ f s) ≡ (over_sessions f +ℤ g s) = sessions-change s f g is (λ k ne. ap (λ b. cond b (pos 0) (f k)) (untied k s ne)) in
    let here : g s ≡ pos 0 = ap (λ b. cond b (pos 0) (f s)) (self_tie s) in
    omega (arith, ints, high, e, here, sessions-zero)
