-- Pending rows after one more change or one less.
use Rattle.std.specs.Prelude.{◌≡◌, ◌≤◌, ◌<◌, ◌+◌, ◌-◌, ℕ, zero, suc, Bool, true, false, cond, List, [], ◌∷◌, ◌++◌, length, drop, get_or, Option, Some, None, IsSome}
use mathlib.Core.Path.{refl, sym, ap, subst, ◌∙◌}
use Rattle.std.proofs.Common.{arith}
use Rattle.std.proofs.lemmas.List.{at_drop_more}
use Rattle.std.specs.FinMap.{get, insert, remove, get-insert, get-remove}
use Rattle.std.specs.Ordering.{eq_by_cmp}
use Rattle.std.specs.Option.{option_to_list}
use Rattle.iv_types.specs.declared.lock.KeptStep.{KeptStep}
use Rattle.iv_types.proofs.Walks.{cons_is}
use Rattle.table_laws.specs.Place.{Place, place_cmp}
use Rattle.table_laws.proofs.Place.{place_cmp_total, place_cmp-IsAntisymmetric}
use Rattle.table_laws.proofs.Tables.{same_key}
use Rattle.txn_machine.specs.Deltas.{RowChange}
use Rattle.version_chain.proofs.LawLemmas.{same_place}
use Rattle.data_store.specs.Past.{Pendings}
use Rattle.data_store.specs.Machine.{changes_on, pending_of}
use Rattle.data_store.specs.declared.store.Pending.{Pending}
use Rattle.data_past.specs.Moves.{one_more, with_fewer, one_less, fewer, ChangesAt, HasChange, CanForget, put_in, puts_in}

-- ---- counts

pub more_pending : (n : ℕ) (bytes : Option (List ℕ)) → one_more bytes (pending_of n bytes) ≡ pending_of (suc n) bytes
more_pending zero bytes = refl
more_pending (suc n) bytes = refl

pub less_pending : (n : ℕ) (bytes : Option (List ℕ)) → one_less (pending_of (suc n) bytes) ≡ pending_of n bytes
less_pending zero bytes = refl
less_pending (suc n) bytes = refl

pub fewer_pending : (k n : ℕ) (bytes : Option (List ℕ)) → fewer k (pending_of (n + k) bytes) ≡ pending_of n bytes
fewer_pending zero n bytes = ap (λ m. pending_of m bytes) (let e : n + 0 ≡ n = omega arith in e)
fewer_pending (suc k) n bytes =
    ap (λ m. fewer k (one_less (pending_of m bytes))) (let e : n + suc k ≡ suc (n + k) = omega arith in e) ∙ (ap (fewer k) (less_pending (n + k) bytes) ∙ fewer_pending k n bytes)

fewer_last : (k : ℕ) (o : Option Pending) → fewer (suc k) o ≡ one_less (fewer k o)
fewer_last zero o = refl
fewer_last (suc k) o = fewer_last k (one_less o)

fewer_both : (k l : ℕ) (o : Option Pending) → fewer (k + l) o ≡ fewer l (fewer k o)
fewer_both zero l o = ap (λ n. fewer n o) (let e : 0 + l ≡ l = omega arith in e)
fewer_both (suc k) l o = ap (λ n. fewer n o) (let e : suc k + l ≡ suc (k + l) = omega arith in e) ∙ fewer_both k l (one_less o)

-- ---- one more

pub noted : (old mid new : Pendings) (key : Place) (v : Pending) (bytes : Option (List ℕ)) → mid ≡ remove old key → new ≡ insert mid key v → one_more bytes (get old key) ≡ Some v → ChangesAt key (one_more bytes) old new
noted old mid new key v bytes taken put more p =
    ap (λ (m : Pendings). get m p) (put ∙ ap (λ (m : Pendings). insert m key v) taken) ∙ (get-insert place_cmp_total (remove old key) key v p ∙ by (eq_by_cmp place_cmp p key) refl)
  where
    by : (b : Bool) → eq_by_cmp place_cmp p key ≡ b → cond b (Some v) (get (remove old key) p) ≡ cond b (one_more bytes (get old p)) (get old p)
    by true is = sym more ∙ ap (λ (q : Place). one_more bytes (get old q)) (sym (same_place p key is))
    by false is = get-remove place_cmp_total old key p ∙ ap (λ b. cond b None (get old p)) is

pub is_taken : (old mid : Pendings) (key : Place) → mid ≡ remove old key → get mid key ≡ None
is_taken old mid key taken =
    ap (λ (m : Pendings). get m key) taken ∙ (get-remove place_cmp_total old key key ∙ ap (λ b. cond b None (get old key)) (same_key place_cmp_total place_cmp-IsAntisymmetric key key refl))

-- ---- one less

pub gone_last : (old new : Pendings) (key : Place) (p : Pending) → get old key ≡ Some p → p.changes ≡ 1 → new ≡ remove old key → ChangesAt key one_less old new
gone_last old new key p there one taken q =
    ap (λ (m : Pendings). get m q) taken ∙ (get-remove place_cmp_total old key q ∙ by (eq_by_cmp place_cmp q key) refl)
  where
    by : (b : Bool) → eq_by_cmp place_cmp q key ≡ b → cond b None (get old q) ≡ cond b (one_less (get old q)) (get old q)
    by true is = sym (ap (λ (k : Place). one_less (get old k)) (same_place q key is) ∙ (ap one_less there ∙ ap (with_fewer p) one))
    by false is = refl

fewer_left : (p : Pending) (n : ℕ) → 2 ≤ n → with_fewer p n ≡ Some (record p { changes = n - 1 })
fewer_left p zero le = absurd (omega (arith, le))
fewer_left p (suc zero) le = absurd (omega (arith, le))
fewer_left p (suc (suc n)) le = ap (λ k. Some (record p { changes = k })) (let e : suc n ≡ suc (suc n) - 1 = omega arith in e)

pub one_gone : (old mid new : Pendings) (key : Place) (p blank v : Pending) → get old key ≡ Some p → 2 ≤ p.changes → mid ≡ insert old key blank → new ≡ insert mid key v → v ≡ record p { changes = p.changes - 1 } → ChangesAt key one_less old new
one_gone old mid new key p blank v there more put again is q =
    ap (λ (m : Pendings). get m q) (again ∙ ap (λ (m : Pendings). insert m key v) put) ∙ (get-insert place_cmp_total (insert old key blank) key v q ∙ by (eq_by_cmp place_cmp q key) refl)
  where
    by : (b : Bool) → eq_by_cmp place_cmp q key ≡ b → cond b (Some v) (get (insert old key blank) q) ≡ cond b (one_less (get old q)) (get old q)
    by true at = ap (λ (x : Pending). Some x) is ∙ sym (ap (λ (k : Place). one_less (get old k)) (same_place q key at) ∙ (ap one_less there ∙ fewer_left p p.changes more))
    by false at = get-insert place_cmp_total old key blank q ∙ ap (λ b. cond b (Some blank) (get old q)) at

pub put_there : (old mid : Pendings) (key : Place) (v : Pending) → mid ≡ insert old key v → IsSome (get mid key)
put_there old mid key v put =
    subst (λ (o : Option Pending). IsSome o) (sym (ap (λ (m : Pendings). get m key) put ∙ (get-insert place_cmp_total old key v key ∙ ap (λ b. cond b (Some v) (get old key)) (same_key place_cmp_total place_cmp-IsAntisymmetric key key refl)))) refl

-- ---- the changes of kept steps

pub on_both : (p : Place) (xs ys : List RowChange) → changes_on p (xs ++ ys) ≡ changes_on p xs + changes_on p ys
on_both p [] ys = omega arith
on_both p (x ∷ xs) ys = let rest = on_both p xs ys in omega (arith, rest)

-- one change is less by one at its key
pub one_change : (old new : Pendings) (c : RowChange) → ChangesAt c.key one_less old new → (p : Place) → get new p ≡ fewer (changes_on p (c ∷ [])) (get old p)
one_change old new c changes p = changes p ∙ by (eq_by_cmp place_cmp p c.key)
  where
    by : (b : Bool) → cond b (one_less (get old p)) (get old p) ≡ fewer (cond b 1 0 + 0) (get old p)
    by true = refl
    by false = refl

pub pending_has : (n : ℕ) (bytes : Option (List ℕ)) → 1 ≤ n → (p : Pending) × (pending_of n bytes ≡ Some p) × (1 ≤ p.changes)
pending_has zero bytes le = absurd (omega (arith, le))
pending_has (suc n) bytes le = (record { changes = suc n; committed = bytes }, refl, le)

pub has_change : (pending : Pendings) (c : RowChange) → CanForget pending (c ∷ []) → HasChange pending c.key
has_change pending c can =
    let here = can c.key in
    let one : ◌≡◌ {A = ℕ} (cond (eq_by_cmp place_cmp c.key c.key) 1 0) 1 = ap (λ b. cond b 1 0) (same_key place_cmp_total place_cmp-IsAntisymmetric c.key c.key refl) in
    let some = here.3 in
    let found = pending_has here.0 here.1 (omega (arith, one, some)) in
    (found.0, here.2 ∙ found.1, found.2)

-- some changes and then others
pub forget_first : (pending : Pendings) (xs ys : List RowChange) → CanForget pending (xs ++ ys) → CanForget pending xs
forget_first pending xs ys can p = let here = can p in let sum = on_both p xs ys in let le = here.3 in (here.0, here.1, here.2, omega (arith, sum, le))

pub forget_rest : (old new : Pendings) (xs ys : List RowChange) → CanForget old (xs ++ ys) → ((p : Place) → get new p ≡ fewer (changes_on p xs) (get old p)) → CanForget new ys
forget_rest old new xs ys can moved p =
    let here = can p in
    let sum = on_both p xs ys in
    let le = here.3 in
    let left : ℕ = here.0 - changes_on p xs in
    let count : left + changes_on p xs ≡ here.0 = omega (arith, sum, le) in
    (left, here.1, moved p ∙ (ap (fewer (changes_on p xs)) (here.2 ∙ ap (λ n. pending_of n here.1) (sym count)) ∙ fewer_pending (changes_on p xs) left here.1), omega (arith, sum, le))

-- the kept steps from one on are that one and the others
pub step_first : (ks : List KeptStep) (i : ℕ) (k : KeptStep) → i < length ks → k ≡ get_or ks i k → puts_in (drop i ks) ≡ option_to_list (put_in k) ++ puts_in (drop (i + 1) ks)
step_first ks i k lt is = at_drop_more puts_in ks i k lt ∙ (ap (λ (x : KeptStep). puts_in (x ∷ drop (i + 1) ks)) (sym is) ∙ cons_is (put_in k) (puts_in (drop (i + 1) ks)))

-- what is left to forget behind some changes
pub forget_next : (mid new : Pendings) (xs ys all : List RowChange) → all ≡ xs ++ ys → ((p : Place) → get new p ≡ fewer (changes_on p xs) (get mid p)) → (p : Place) → fewer (changes_on p ys) (get new p) ≡ fewer (changes_on p all) (get mid p)
forget_next mid new xs ys all is moved p =
    ap (fewer (changes_on p ys)) (moved p) ∙ (sym (fewer_both (changes_on p xs) (changes_on p ys) (get mid p)) ∙ ap (λ n. fewer n (get mid p)) (sym (ap (changes_on p) is ∙ on_both p xs ys)))
