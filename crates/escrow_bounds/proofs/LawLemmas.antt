-- The escrow law.
use Rattle.std.proofs.Common.{◌≡◌, ℕ, cond, List, [], ◌∷◌, ◌++◌, refl, ap, sym, subst, inl, inr, arith}
use Rattle.std.specs.Prelude.{◌==◌, ℤ, pos, ◌≤ℤ◌}
use Rattle.std.proofs.lemmas.Bool.Decides.{eqb_tells}
use Rattle.std.proofs.lemmas.Int.{ints, clamps}
use Rattle.iv_meaning.specs.Escrow.{Account, over_sessions, paid, lo, hi, Undo, Commit, earlier, ended, value, untouched}
use Rattle.escrow_bounds.specs.Law.{LiesBetween, EndingNarrows, StaysBetween, CallsStayBetween, Call, Reserve, Add, TakeBack, Settle, DropTxn, called, meant, IsMet, AreMet, called_all, meant_all}
use Rattle.escrow_bounds.specs.Column as column
use Rattle.escrow_bounds.specs.Column.{Column, Stands}
use Rattle.escrow_bounds.proofs.SumLemmas.{sessions-le, sessions-change}
use Rattle.escrow_bounds.proofs.PartLemmas.{untied, self_tie}
use Rattle.escrow_bounds.proofs.KeepLemmas.{prefix_signs, reserved_follows, follows-added, follows-with_part, follows-settled, follows-without, stands_untouched, least-account, greatest-account}

-- what is left after the latest are taken back lies between the least and the greatest sum on the way
left_low : (us ds : List ℤ) → lo (us ++ ds) ≤ℤ paid ds
left_low [] ds = (prefix_signs ds).1
left_low (u ∷ us) ds = let h = left_low us ds in omega (arith, ints, clamps, h)

left_high : (us ds : List ℤ) → paid ds ≤ℤ hi (us ++ ds)
left_high [] ds = (prefix_signs ds).3
left_high (u ∷ us) ds = let h = left_high us ds in omega (arith, ints, clamps, h)

pub lies_between : LiesBetween
lies_between a left h =
    let low : over_sessions (λ s. lo (a.kept s)) ≤ℤ over_sessions (λ s. paid (left.kept s)) =
    sessions-le _ _ (λ s. subst (λ ds. lo ds ≤ℤ paid (left.kept s)) (sym (h.kept s)) (left_low (h.undone s) (left.kept s))) in
    let high : over_sessions (λ s. paid (left.kept s)) ≤ℤ over_sessions (λ s. hi (a.kept s)) =
    sessions-le _ _ (λ s. subst (λ ds. paid (left.kept s) ≤ℤ hi ds) (sym (h.kept s)) (left_high (h.undone s) (left.kept s))) in
    let e = h.committed in
    (omega (arith, ints, low, e), omega (arith, ints, high, e))

-- ---- one step of an ending

earlier_low : (ds : List ℤ) → lo ds ≤ℤ lo (earlier ds)
earlier_low [] = omega (arith, ints)
earlier_low (d ∷ ds) = omega (arith, ints, clamps)

earlier_high : (ds : List ℤ) → hi (earlier ds) ≤ℤ hi ds
earlier_high [] = omega (arith, ints)
earlier_high (d ∷ ds) = omega (arith, ints, clamps)

same_number : (n : ℤ) → n ≤ℤ n
same_number n = omega (arith, ints)

undone_low : (a : Account) (s k : ℕ) → lo (a.kept k) ≤ℤ lo (cond (k == s) (earlier (a.kept s)) (a.kept k))
undone_low a s k = elim (eqb_tells k s) [
  | inl e ↦ subst (λ b. lo (a.kept k) ≤ℤ lo (cond b (earlier (a.kept s)) (a.kept k))) (sym e.0) (subst (λ n. lo (a.kept n) ≤ℤ lo (earlier (a.kept s))) (sym e.1) (earlier_low (a.kept s)))
  | inr e ↦ subst (λ b. lo (a.kept k) ≤ℤ lo (cond b (earlier (a.kept s)) (a.kept k))) (sym e.0) (same_number _)
]

undone_high : (a : Account) (s k : ℕ) → hi (cond (k == s) (earlier (a.kept s)) (a.kept k)) ≤ℤ hi (a.kept k)
undone_high a s k = elim (eqb_tells k s) [
  | inl e ↦ subst (λ b. hi (cond b (earlier (a.kept s)) (a.kept k)) ≤ℤ hi (a.kept k)) (sym e.0) (subst (λ n. hi (earlier (a.kept s)) ≤ℤ hi (a.kept n)) (sym e.1) (earlier_high (a.kept s)))
  | inr e ↦ subst (λ b. hi (cond b (earlier (a.kept s)) (a.kept k)) ≤ℤ hi (a.kept k)) (sym e.0) (same_number _)
]

pub ending_narrows : EndingNarrows
ending_narrows a (Undo s) is =
    let low : over_sessions (λ k. lo (a.kept k)) ≤ℤ over_sessions (λ k. lo (cond (k == s) (earlier (a.kept s)) (a.kept k))) = sessions-le _ _ (undone_low a s) in
    let high : over_sessions (λ k. hi (cond (k == s) (earlier (a.kept s)) (a.kept k))) ≤ℤ over_sessions (λ k. hi (a.kept k)) = sessions-le _ _ (undone_high a s) in
    (omega (arith, ints, low), omega (arith, ints, high))
ending_narrows a (Commit s) is =
    let signs = prefix_signs (a.kept s) in
    let low = sessions-change s (λ k. lo (a.kept k)) (λ k. lo (cond (k == s) [] (a.kept k))) is (λ k ne. ap (λ b. lo (cond b [] (a.kept k))) (untied k s ne)) in
    let high = sessions-change s (λ k. hi (a.kept k)) (λ k. hi (cond (k == s) [] (a.kept k))) is (λ k ne. ap (λ b. hi (cond b [] (a.kept k))) (untied k s ne)) in
    let e0 : lo (cond (s == s) [] (a.kept s)) ≡ pos 0 = ap (λ b. lo (cond b [] (a.kept s))) (self_tie s) in
    let e1 : hi (cond (s == s) [] (a.kept s)) ≡ pos 0 = ap (λ b. hi (cond b [] (a.kept s))) (self_tie s) in
    (omega (arith, ints, low, e0, signs.1), omega (arith, ints, high, e1, signs.3))

pub stays_between : StaysBetween
stays_between a [] h = lies_between a a (record { committed = refl; undone = λ s. []; kept = λ s. refl })
stays_between a (e ∷ es) h =
    let step = ending_narrows a e h.0 in
    let rest = stays_between (ended a e) es h.1 in
    (omega (arith, ints, step.0, rest.0), omega (arith, ints, step.1, rest.1))

-- ---- lists of calls

call_stands : (c : Column) (a : Account) (x : Call) → Stands c a → IsMet a x → Stands (called c x) (meant a x)
call_stands c a (Reserve s) st h = reserved_follows c s a st
call_stands c a (Add s d) st h = follows-added c s d a st
call_stands c a (TakeBack s p) st h = follows-with_part c s p (earlier (a.kept s)) h a st
call_stands c a (Settle s) st h = follows-settled c s a st
call_stands c a (DropTxn s) st h = follows-without c s a st

calls_stand : (c : Column) (a : Account) (xs : List Call) → Stands c a → AreMet a xs → Stands (called_all c xs) (meant_all a xs)
calls_stand c a [] st h = st
calls_stand c a (x ∷ xs) st h = calls_stand (called c x) (meant a x) xs (call_stands c a x st h.0) h.1

pub calls_stay_between : CallsStayBetween
calls_stay_between n xs h left is =
    let st = calls_stand (column.untouched n) (untouched n) xs (stands_untouched n) h in
    let between = lies_between (meant_all (untouched n) xs) left is in
    (subst (λ m. m ≤ℤ value left) (sym (least-account _ _ st)) between.0, subst (λ m. value left ≤ℤ m) (sym (greatest-account _ _ st)) between.1)
