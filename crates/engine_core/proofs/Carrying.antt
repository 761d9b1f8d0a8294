-- What a checkpoint carries is what open transactions keep, as the machine has it.
use Rattle.std.specs.Prelude.{slice_get, Option}
use Rattle.std.proofs.Common.{◌≡◌, ◌≢◌, ℕ, zero, suc, ◌+◌, ◌<◌, ◌≤◌, List, [], ◌∷◌, map, Some, None, refl, sym, ◌∙◌, ap, arith}
use Rattle.iv_types.specs.declared.lock.KeptStep.{KeptStep}
use Rattle.iv_types.specs.declared.lock.KeptStep.TheVariants.{Put, Pay}
use Rattle.iv_meaning.specs.Escrow.{IsSession}
use Rattle.iv_meaning.specs.Schema.{Schema}
use Rattle.txn_machine.specs.RowChanges.{row_change}
use Rattle.txn_book.specs.Opens.{open_at}
use Rattle.txn_book.specs.declared.open_table.Open.{Open}
use Rattle.txn_log.specs.Replay.{What, Wrote, Added, Deed, own}
use Rattle.txn_log.specs.Fitting.{DoNumbersFall, CarriedBelow}
use Rattle.txn_log.specs.Appended.{written}
use Rattle.txn_log.proofs.Finding.{by_number}
use Rattle.txn_log.proofs.Owning.{own_this, own_other}
use Rattle.log_records.specs.Area.{Entry}
use Rattle.log_disk.specs.Spelled.{spelled}
use Rattle.record_lending.specs.Steps.{number_of}
use Rattle.core_recording.specs.Carrying.{steps_at, id_of, entry_of}
use Rattle.core_recording.specs.Carried.{AreCarried, none, more}

-- ---- the deeds of carried steps

abbrev pub what_in : KeptStep → What
what_in (Put k txn_bytes history_bytes number) = Wrote (row_change k.change)
what_in (Pay d before number) = Added d

abbrev pub deed_of : ℕ → KeptStep → Deed
deed_of t k = record { number = number_of k; transaction = t; what = what_in k }

entry_is : (objects : Schema) (t : ℕ) (k : KeptStep) → entry_of objects t k ≡ spelled objects (written (deed_of t k))
entry_is objects t (Put k txn_bytes history_bytes number) = refl
entry_is objects t (Pay d before number) = refl

abbrev pub push : ℕ → Option KeptStep → List Deed → List Deed
push t None ds = ds
push t (Some k) ds = deed_of t k ∷ ds

-- so many of a transaction's, the latest first
abbrev pub firsts_of : ℕ → List KeptStep → ℕ → List Deed
firsts_of t ks zero = []
firsts_of t ks (suc n) = push t (slice_get ks n) (firsts_of t ks n)

below_weaker : (m n : ℕ) (xs : List Deed) → m ≤ n → CarriedBelow m xs → CarriedBelow n xs
below_weaker m n [] le h = tt
below_weaker m n (x ∷ xs) le h = (omega (arith, le, h.0), below_weaker m n xs le h.1)

module _ (objects : Schema) (opens : List (Option Open)) where
  abbrev id_at : ℕ → ℕ
  id_at session = id_of (open_at opens session)

  abbrev pub firsts : ℕ → ℕ → List Deed
  firsts session n = firsts_of (id_at session) (steps_at opens session) n

  abbrev pub deeds_of : (done : ℕ → ℕ) (es : List Entry) → AreCarried objects opens done es → List Deed
  deeds_of done es (none d z) = []
  deeds_of done es (more before after others session k c earliest there one same) = deed_of (id_at session) k ∷ deeds_of before others c

  pub spelled_so : (done : ℕ → ℕ) (es : List Entry) (c : AreCarried objects opens done es) → es ≡ map (λ d. spelled objects (written d)) (deeds_of done es c)
  spelled_so done es (none d z) = refl
  spelled_so done es (more before after others session k c earliest there one same) = λ t. entry_is objects (id_at session) k t ∷ spelled_so before others c t

  -- of a transaction that is no session's there is none
  pub none_other : (t : ℕ) → ((session : ℕ) (n : ℕ) (k : KeptStep) → IsSession session → slice_get (steps_at opens session) n ≡ Some k → id_at session ≢ t) → (done : ℕ → ℕ) (es : List Entry) (c : AreCarried objects opens done es)
      → own t (deeds_of done es c) ≡ []
  none_other t apart done es (none d z) = refl
  none_other t apart done es (more before after others session k c earliest there one same) =
      own_other t (deed_of (id_at session) k) (deeds_of before others c) (apart session (before session) k earliest.least.of_session there) ∙ none_other t apart before others c

  -- each session's stand in their order, where no two sessions have one transaction
  module _ (apart : (s t n : ℕ) (k : KeptStep) → IsSession s → IsSession t → slice_get (steps_at opens t) n ≡ Some k → id_at t ≡ id_at s → t ≡ s) where
    pub own_firsts : (done : ℕ → ℕ) (es : List Entry) (c : AreCarried objects opens done es) (s : ℕ) → IsSession s → own (id_at s) (deeds_of done es c) ≡ firsts s (done s)
    own_firsts done es (none d z) s is = ap (firsts s) (sym (z s))
    own_firsts done es (more before after others session k c earliest there one same) s is =
        by_number s session
        (λ e.
        let counts : after s ≡ suc (before s) = ap after e ∙ (one ∙ ((let step : before session + 1 ≡ suc (before session) = omega arith in step) ∙ ap (λ n. suc (before n)) (sym e))) in
        let step : slice_get (steps_at opens s) (before s) ≡ Some k = ap (λ n. slice_get (steps_at opens n) (before n)) e ∙ there in
        own_this (id_at s) (deed_of (id_at session) k) (deeds_of before others c) (ap id_at (sym e))
        ∙ ((λ x. deed_of (id_at (sym e x)) k ∷ own_firsts before others c s is x)
        ∙ (ap (λ o. push (id_at s) o (firsts s (before s))) (sym step) ∙ ap (firsts s) (sym counts))))
        (λ differs.
        own_other (id_at s) (deed_of (id_at session) k) (deeds_of before others c) (λ e. differs (sym (apart s session (before session) k is earliest.least.of_session there e)))
        ∙ (own_firsts before others c s is ∙ ap (firsts s) (sym (same s differs))))

  -- their numbers fall, where those of a session rise and no two sessions have one number
  module _ (rise : (s n : ℕ) (j k : KeptStep) → IsSession s → slice_get (steps_at opens s) n ≡ Some j → slice_get (steps_at opens s) (suc n) ≡ Some k → number_of j < number_of k)
      (distinct : (s t m n : ℕ) (j k : KeptStep) → IsSession s → IsSession t → s ≢ t → slice_get (steps_at opens s) m ≡ Some j → slice_get (steps_at opens t) n ≡ Some k → number_of j ≢ number_of k) where
    -- from below the next step of each session
    below_next : (done : ℕ → ℕ) (es : List Entry) (c : AreCarried objects opens done es) (s : ℕ) (k : KeptStep) → IsSession s → slice_get (steps_at opens s) (done s) ≡ Some k → CarriedBelow (number_of k) (deeds_of done es c)
    below_next done es (none d z) s k is next = tt
    below_next done es (more before after others session j c earliest there one same) s k is next =
        by_number s session
        (λ e.
        let counts : after s ≡ suc (before s) = ap after e ∙ (one ∙ ((let step : before session + 1 ≡ suc (before session) = omega arith in step) ∙ ap (λ n. suc (before n)) (sym e))) in
        let first : slice_get (steps_at opens s) (before s) ≡ Some j = ap (λ n. slice_get (steps_at opens n) (before n)) e ∙ there in
        let second : slice_get (steps_at opens s) (suc (before s)) ≡ Some k = ap (slice_get (steps_at opens s)) (sym counts) ∙ next in
        let less = rise s (before s) j k is first second in
        (less, below_weaker (number_of j) (number_of k) (deeds_of before others c) (omega (arith, less)) (below_next before others c s j is first)))
        (λ differs.
        let still : slice_get (steps_at opens s) (before s) ≡ Some k = ap (slice_get (steps_at opens s)) (sym (same s differs)) ∙ next in
        let l = earliest.least in
        let some : Some l.step ≡ Some j = sym l.there ∙ there in
        let number : earliest.number ≡ number_of j = l.number_is ∙ ap number_of (the_same l.step j some) in
        let most : earliest.number ≤ number_of k = l.first s k is.0 is.1 still in
        let apart = distinct session s (before session) (before s) j k l.of_session is (λ e. differs (sym e)) there still in
        (strictly (number_of j) (number_of k) (omega (arith, number, most)) apart, below_next before others c s k is still))
      where
        the_same : (a b : KeptStep) → Some a ≡ Some b → a ≡ b
        the_same a b e = cc

        strictly : (m n : ℕ) → m ≤ n → m ≢ n → m < n
        strictly m n le differs = by_number m n (λ e. absurd (differs e)) (λ d. omega (arith, le, d))

    pub numbers_fall : (done : ℕ → ℕ) (es : List Entry) (c : AreCarried objects opens done es) → DoNumbersFall (deeds_of done es c)
    numbers_fall done es (none d z) = tt
    numbers_fall done es (more before after others session k c earliest there one same) = (below_next before others c session k earliest.least.of_session there, numbers_fall before others c)
