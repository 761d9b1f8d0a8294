-- The bytes of so many steps of each session's transaction.
use Rattle.std.specs.Prelude.{◌≡◌, ◌≢◌, ℕ, zero, suc, replicate, set, ◌+◌, ◌-◌, ◌<◌, ◌≤◌, ◌^◌, min, List, [], ◌∷◌, ◌++◌, map, take, drop, length, slice_get, Option, None, Some, refl}
use Rattle.std.specs.List.{All, sum}
use mathlib.Core.Path.{sym, ap, subst, ◌∙◌}
use mathlib.Core.Logic.{inl, inr}
use Rattle.std.proofs.Common.{arith}
use Rattle.std.proofs.Math.Seq.{take-suc}
use Rattle.std.proofs.lemmas.Bool.{cases_lt}
use Rattle.std.proofs.lemmas.List.{take_all, take-append-drop, get_or-replicate, get_or_past, get_or-set_same, get_or-set_other, length-replicate}
use Rattle.std.proofs.lemmas.List.Elements.{All-get_or}
use Rattle.std.proofs.lemmas.Option.{slice_get_cases, slice_get_within, get_or_from_slice_get}
use Rattle.iv_types.specs.declared.lock.KeptStep.{KeptStep}
use Rattle.iv_types.specs.declared.lock.KeptStep.TheVariants as step
use Rattle.iv_meaning.specs.Escrow.{IsSession}
use Rattle.iv_meaning.specs.Schema.{Schema}
use Rattle.txn_machine.specs.Counts.{told_need, sum_over}
use Rattle.txn_machine.specs.Records.{record_bytes}
use Rattle.txn_machine.proofs.LogSums.{sum_first, sum_none, sum_one, sum_same}
use Rattle.txn_log.proofs.Defining.{sum_append}
use Rattle.txn_book.specs.declared.open_table.Open.{Open}
use Rattle.record_lending.specs.Steps.{record_of}
use Rattle.core_recording.specs.Carrying.{steps_at, steps_bytes, all_bytes, done_at}

-- ---- sums

sum_most : (n : ℕ) (f g : ℕ → ℕ) → ((j : ℕ) → f j ≤ g j) → sum_over n f ≤ sum_over n g
sum_most zero f g h = omega arith
sum_most (suc n) f g h = let below = sum_most n f g h in let here = h (suc n) in omega (arith, below, here)

-- ---- the steps of one session

-- a record takes as much whatever its transaction's number
same_bytes : (objects : Schema) (id : ℕ) (k : KeptStep) → record_bytes objects (record_of id k) ≡ record_bytes objects (record_of 0 k)
same_bytes objects id (step.Put kept txn_bytes history_bytes number) = refl
same_bytes objects id (step.Pay d before number) = refl

-- one more
taken_more : (objects : Schema) (xs : List KeptStep) (n : ℕ) (k : KeptStep) → slice_get xs n ≡ Some k → steps_bytes objects (take (n + 1) xs) ≡ steps_bytes objects (take n xs) + record_bytes objects (record_of 0 k)
taken_more objects xs n k e =
    let lt = slice_get_within xs n k e in
    let one : n + 1 ≡ suc n = omega arith in
    let f : KeptStep → ℕ = λ x. record_bytes objects (record_of 0 x) in
    let list : take (n + 1) xs ≡ take n xs ++ k ∷ [] = ap (λ m. take m xs) one ∙ (take-suc xs n k lt ∙ ap (λ (x : KeptStep). take n xs ++ x ∷ []) (get_or_from_slice_get xs n k k e)) in
    let parts : sum (map f (take n xs ++ k ∷ [])) ≡ sum (map f (take n xs)) + sum (map f (k ∷ [])) = sum_append f (take n xs) (k ∷ []) in
    let alone : sum (map f (k ∷ [])) ≡ f k + sum (map f []) = sum_first (f k) [] in
    let all : steps_bytes objects (take (n + 1) xs) ≡ sum (map f (take n xs ++ k ∷ [])) = ap (λ (l : List KeptStep). sum (map f l)) list in
    omega (arith, parts, alone, all)

-- no more than all
taken_less : (objects : Schema) (xs : List KeptStep) (n : ℕ) → steps_bytes objects (take n xs) ≤ steps_bytes objects xs
taken_less objects xs n =
    let f : KeptStep → ℕ = λ x. record_bytes objects (record_of 0 x) in
    let parts : sum (map f (take n xs ++ drop n xs)) ≡ sum (map f (take n xs)) + sum (map f (drop n xs)) = sum_append f (take n xs) (drop n xs) in
    let all : sum (map f (take n xs ++ drop n xs)) ≡ sum (map f xs) = ap (λ (l : List KeptStep). sum (map f l)) (take-append-drop n xs) in
    omega (arith, parts, all)

past_end : (xs : List KeptStep) (n : ℕ) → slice_get xs n ≡ None → length xs ≤ n
past_end xs n e = elim (slice_get_cases xs n).1 [
  | inl some ↦ absurd (let bad : Some some.0 ≡ None = sym some.2 ∙ e in cc)
  | inr past ↦ past.0
]

-- ---- all sessions

module _ (objects : Schema) (opens : List (Option Open)) where
  abbrev pub part_of : (ℕ → ℕ) → ℕ → ℕ
  part_of done j = steps_bytes objects (take (done j) (steps_at opens j))

  -- the bytes of so many steps of each
  unfoldable pub part : (ℕ → ℕ) → ℕ
  part done = sum_over 64 (part_of done)

  pub part_none : (done : ℕ → ℕ) → ((j : ℕ) → done j ≡ 0) → part done ≡ 0
  unfolding part
  part_none done h = sum_none 64 (part_of done) (λ j low high. ap (λ n. steps_bytes objects (take n (steps_at opens j))) (h j))

  pub part_more : (done after : ℕ → ℕ) (j id : ℕ) (k : KeptStep) → IsSession j → slice_get (steps_at opens j) (done j) ≡ Some k → after j ≡ done j + 1 → ((i : ℕ) → i ≢ j → after i ≡ done i)
      → part after ≡ part done + record_bytes objects (record_of id k)
  unfolding part
  part_more done after j id k js e more others =
      let moved = sum_one 64 (part_of done) (part_of after) j js.0 js.1 (λ i n. ap (λ m. steps_bytes objects (take m (steps_at opens i))) (others i n)) in
      let here : part_of after j ≡ part_of done j + record_bytes objects (record_of 0 k) = ap (λ m. steps_bytes objects (take m (steps_at opens j))) more ∙ taken_more objects (steps_at opens j) (done j) k e in
      let same = same_bytes objects id k in
      omega (arith, moved, here, same)

  pub part_less : (done : ℕ → ℕ) → part done ≤ all_bytes objects opens
  unfolding part all_bytes
  part_less done = sum_most 64 (part_of done) (λ j. steps_bytes objects (steps_at opens j)) (λ j. taken_less objects (steps_at opens j) (done j))

  pub part_all : (done : ℕ → ℕ) → ((j : ℕ) → IsSession j → slice_get (steps_at opens j) (done j) ≡ None) → part done ≡ all_bytes objects opens
  unfolding part all_bytes
  part_all done h = sum_same 64 (λ j. steps_bytes objects (steps_at opens j)) (part_of done)
      (λ j low high. ap (steps_bytes objects) (take_all (done j) (steps_at opens j) (past_end (steps_at opens j) (done j) (h j (low, high)))))

-- ---- what is left

abbrev pub left_of : List (Option Open) → (ℕ → ℕ) → ℕ → ℕ
left_of opens done j = length (steps_at opens j) - done j

unfoldable pub left : List (Option Open) → (ℕ → ℕ) → ℕ
left opens done = sum_over 64 (left_of opens done)

pub left_less : (opens : List (Option Open)) (done after : ℕ → ℕ) (j : ℕ) (k : KeptStep) → IsSession j → slice_get (steps_at opens j) (done j) ≡ Some k → after j ≡ done j + 1 → ((i : ℕ) → i ≢ j → after i ≡ done i)
    → left opens after < left opens done
unfolding left
left_less opens done after j k js e more others =
    let moved = sum_one 64 (left_of opens done) (left_of opens after) j js.0 js.1 (λ i n. ap (λ m. length (steps_at opens i) - m) (others i n)) in
    let lt = slice_get_within (steps_at opens j) (done j) k e in
    omega (arith, moved, more, lt)

-- ---- numbers that stand still

pub told_sum : (bytes more sum whole one all : ℕ) → bytes ≡ told_need whole → more ≡ told_need one → sum ≡ min (bytes + more) (2 ^ 64 - 1) → all ≡ whole + one → sum ≡ told_need all
told_sum bytes more sum whole one all is other both adds = omega (arith, is, other, both, adds)

-- ---- each session's count

-- of none
pub none_done : (n session : ℕ) → done_at (replicate n 0) session ≡ 0
none_done n session = elim (cases_lt session n) [
  | inl lt ↦ get_or-replicate n session 0 0 lt
  | inr past ↦ get_or_past (replicate n 0) session 0 (let long = length-replicate {A = ℕ} n 0 in omega (arith, past, long))
]

-- one more of one session
module _ (done : List ℕ) (session : ℕ) (inside : session < length done) where
  abbrev pub one_more : List ℕ
  one_more = set done session (done_at done session + 1)

  pub more_here : done_at one_more session ≡ done_at done session + 1
  more_here = get_or-set_same done session (done_at done session + 1) 0 inside

  pub others_still : (other : ℕ) → other ≢ session → done_at one_more other ≡ done_at done other
  others_still other n = get_or-set_other done session other (done_at done session + 1) 0 n

pub all_there : {X : Type 0} (P : X → Type 0) (xs : List X) (i : ℕ) (k : X) → slice_get xs i ≡ Some k → All P xs → P k
all_there P xs i k e all = subst P (get_or_from_slice_get xs i k k e) (All-get_or P xs i k (slice_get_within xs i k e) all)
