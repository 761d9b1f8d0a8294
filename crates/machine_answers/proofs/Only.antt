-- Steps that ask for no lock have one answer.
use Rattle.std.specs.Prelude.{◌≡◌, ◌≢◌, ℕ, zero, suc, ◌+◌, ◌≤◌, ◌<◌, List, [], ◌∷◌, length, Option, Some, None}
use mathlib.Core.Path.{refl, sym, subst, ◌∙◌}
use mathlib.Core.Logic.{inl, inr}
use Rattle.std.proofs.Common.{arith}
use Rattle.std.specs.Ordering.{ordering_reverse}
use Rattle.std.specs.Cmp.{IsTotalOrder}
use Rattle.std.specs.declared.cmp.Ordering.{Ordering}
use Rattle.std.specs.declared.cmp.Ordering.TheVariants.{Less, Equal, Greater}
use Rattle.iv_types.specs.declared.statement.Mode.TheVariants.{Serial}
use Rattle.iv_types.specs.declared.refusal.EngineRefusal.TheVariants as refusal
use Rattle.table_laws.specs.Place.{Place, place_cmp}
use Rattle.table_laws.proofs.Place.{place_cmp_total, place_cmp-IsAntisymmetric}
use Rattle.txn_machine.specs.Acts as act
use Rattle.txn_machine.specs.Acts.{Act}
use Rattle.txn_machine.specs.Answers as answer
use Rattle.txn_machine.specs.Answers.{Answer}
use Rattle.txn_machine.specs.Store.{committed, schema_of, Effect, Opens, Cleans}
use Rattle.txn_machine.specs.Ghosts.{IsCleanable, IsFirstCleanable}
use Rattle.txn_machine.specs.Records.{group_bytes}
use Rattle.txn_machine.specs.Counts.{entry_size, most_of_history}
use Rattle.txn_machine.specs.Log.{Within, Above, reserved, end_bytes}
use Rattle.txn_machine.specs.State.{State}
use Rattle.txn_machine.specs.Steps.{Says, FitsLog, FitsHistory, history_bytes}
use Rattle.machine_answers.specs.Answered.{IsOfState}
use Rattle.machine_answers.proofs.Choosing.{at_most_or_more}

-- ---- two of which neither comes after the other

tied : (a b : Ordering) → a ≡ ordering_reverse b → a ≢ Greater → b ≢ Greater → a ≡ Equal
tied Less Less e m n = cc
tied Less Equal e m n = cc
tied Less Greater e m n = absurd (n refl)
tied Equal b e m n = refl
tied Greater b e m n = absurd (m refl)

pub tied_both : {K : Type 0} (R : K → K → Ordering) → IsTotalOrder R → (x y : K) → R x y ≢ Greater → R y x ≢ Greater → R x y ≡ Equal
tied_both R total x y m n = tied (R x y) (R y x) (total.antisymm x y) m n

-- ---- the first test that fails decides

module _ (Test : ℕ → Type 0) (last : ℕ) (Is : ℕ → Answer → List Effect → Type 0) where
  abbrev pub AllBefore : ℕ → Type 0
  AllBefore zero = Unit {0}
  AllBefore (suc n) = AllBefore n × Test n

  before : (n j : ℕ) → AllBefore n → j < n → Test j
  before zero j all less = absurd (omega (arith, less))
  before (suc n) j all less = elim (at_most_or_more n j) [
    | inl at ↦ let e : n ≡ j = omega (arith, less, at) in subst Test e all.1
    | inr under ↦ before n j all.0 under
  ]

  -- the answer is that of the first test that fails, or of none
  pub record IsChosen (said : Answer) (es : List Effect) : Type 0 where
    pub number : ℕ
    pub most : number ≤ last
    pub passed : AllBefore number
    pub failed : number < last → Test number → ⊥
    pub is : Is number said es

  same_number : (one other : Answer) (es fs : List Effect) → (c : IsChosen one es) → (d : IsChosen other fs) → c.number ≡ d.number
  same_number one other es fs c d =
      let most_one = c.most in
      let most_other = d.most in
      elim (at_most_or_more c.number d.number) [
        | inr more ↦ absurd (d.failed (omega (arith, more, most_one)) (before c.number d.number c.passed more))
        | inl up ↦ elim (at_most_or_more d.number c.number) [
          | inr more ↦ absurd (c.failed (omega (arith, more, most_other)) (before d.number c.number d.passed more))
          | inl down ↦ omega (arith, up, down)
        ]
      ]

  pub one_chosen : ((n : ℕ) (one other : Answer) (es fs : List Effect) → Is n one es → Is n other fs → (one ≡ other) × (es ≡ fs))
      → (one other : Answer) (es fs : List Effect) → IsChosen one es → IsChosen other fs → (one ≡ other) × (es ≡ fs)
  one_chosen same one other es fs c d = same c.number one other es fs c.is (subst (λ n. Is n other fs) (sym (same_number one other es fs c d)) d.is)

pub not_both : (limit : Option ℕ) (bytes : ℕ) → Within limit bytes → Above limit bytes → ⊥
not_both None bytes fits full = full
not_both (Some most) bytes fits full = omega (arith, fits, full)

-- it is of the state, and nobody is waited for
abbrev pub IsPlain : Answer → Type 0
IsPlain (answer.Blocked sessions) = ⊥
IsPlain (answer.Refused (refusal.Deadlock cycle)) = ⊥
IsPlain said = IsOfState said

-- an answer and its effects
abbrev pub Both : Answer → List Effect → Answer → List Effect → Type 0
Both wanted effects said es = (said ≡ wanted) × (es ≡ effects)

pub both_same : (wanted : Answer) (effects : List Effect) (one other : Answer) (es fs : List Effect) → Both wanted effects one es → Both wanted effects other fs → (one ≡ other) × (es ≡ fs)
both_same wanted effects one other es fs h k = (h.0 ∙ sym k.0, h.1 ∙ sym k.1)

module _ (s : State) (session : ℕ) where
  -- ---- Begin

  abbrev pub BeginTest : ℕ → Type 0
  BeginTest zero = FitsLog s end_bytes
  BeginTest (suc n) = FitsHistory s entry_size

  abbrev pub IsBegin : ℕ → Answer → List Effect → Type 0
  IsBegin zero said es = Both (answer.Refused (refusal.LogFull s.log.used (reserved s.store s.log) end_bytes)) [] said es
  IsBegin (suc zero) said es = Both (answer.Refused (refusal.HistoryFull (history_bytes s) entry_size)) [] said es
  IsBegin (suc (suc n)) said es = Both (answer.Begun (committed s.store).number (length (schema_of s.store))) (Opens Serial ∷ []) said es

  pub serial_says : (said : Answer) (es : List Effect) → IsOfState said → Says s session (act.Begin Serial) said es → IsChosen BeginTest 2 IsBegin said es
  serial_says (answer.Blocked x) es of h = absurd h.0
  serial_says (answer.Refused (refusal.Deadlock c)) es of h = absurd h.0
  serial_says (answer.Refused refusal.NoMemory) es of h = absurd of
  serial_says (answer.Begun number defs) es of h = record {
    number = 2;
    most = omega arith;
    passed = ((tt, h.room.0), h.room.1);
    failed = λ less. absurd (omega (arith, less));
    is = ((λ i. answer.Begun (h.number_is i) (h.defs_are i)), h.effects);
  }
  serial_says (answer.Refused (refusal.LogFull used reserved_bytes need)) es of h =
      let f = h.3 in record {
        number = 0;
        most = omega arith;
        passed = tt;
        failed = λ less fits. not_both s.opening.log_limit _ fits (subst (λ n. Above s.opening.log_limit n) (λ i. f.used_is i + f.reserved_is i + h.2 i) f.full);
        is = ((λ i. answer.Refused (refusal.LogFull (f.used_is i) (f.reserved_is i) (h.2 i))), h.0);
      }
  serial_says (answer.Refused (refusal.HistoryFull kept need)) es of h =
      let f = h.2 in record {
        number = 1;
        most = omega arith;
        passed = (tt, h.4);
        failed = λ less fits.
            let full : most_of_history < kept + need = f.full in
            let kept_is : kept ≡ history_bytes s = f.kept_is in
            let need_is : need ≡ entry_size = h.1 in
            omega (arith, fits, full, kept_is, need_is);
        is = ((λ i. answer.Refused (refusal.HistoryFull (f.kept_is i) (h.1 i))), h.3);
      }
  serial_says _ es of h = absurd h

  pub is_begin : (n : ℕ) (one other : Answer) (es fs : List Effect) → IsBegin n one es → IsBegin n other fs → (one ≡ other) × (es ≡ fs)
  is_begin zero one other es fs h k = both_same _ _ one other es fs h k
  is_begin (suc zero) one other es fs h k = both_same _ _ one other es fs h k
  is_begin (suc (suc n)) one other es fs h k = both_same _ _ one other es fs h k

  -- ---- Clean

  abbrev pub CleanTest : ℕ → Type 0
  CleanTest zero = ((place : Place) → IsCleanable s.store place → ⊥) → ⊥
  CleanTest (suc n) = (place : Place) × IsFirstCleanable s.store place × FitsLog s (group_bytes place)

  abbrev pub IsClean : ℕ → Answer → List Effect → Type 0
  IsClean zero said es = Both (answer.Cleaned 0) [] said es
  IsClean (suc zero) said es = (place : Place) × IsFirstCleanable s.store place × Both (answer.Refused (refusal.LogFull s.log.used (reserved s.store s.log) (group_bytes place))) [] said es
  IsClean (suc (suc n)) said es = (place : Place) × IsFirstCleanable s.store place × Both (answer.Cleaned 1) (Cleans place ∷ []) said es

  one_first : (p q : Place) → IsFirstCleanable s.store p → IsFirstCleanable s.store q → p ≡ q
  one_first p q h k = place_cmp-IsAntisymmetric p q (tied_both place_cmp place_cmp_total p q (h.first q k.is) (k.first p h.is))

  pub clean_says : (said : Answer) (es : List Effect) → IsOfState said → Says s session act.Clean said es → IsChosen CleanTest 2 IsClean said es
  clean_says (answer.Blocked x) es of h = absurd h.0
  clean_says (answer.Refused (refusal.Deadlock c)) es of h = absurd h.0
  clean_says (answer.Refused refusal.NoMemory) es of h = absurd of
  clean_says (answer.Cleaned zero) es of h = record { number = 0; most = omega arith; passed = tt; failed = λ less some. some h.0; is = (refl, h.1) }
  clean_says (answer.Cleaned (suc zero)) es of h = record {
    number = 2;
    most = omega arith;
    passed = ((tt, λ none. none h.0 h.1.is), (h.0, h.1, h.3));
    failed = λ less. absurd (omega (arith, less));
    is = (h.0, h.1, (refl, h.2));
  }
  clean_says (answer.Refused (refusal.LogFull used reserved_bytes need)) es of h =
      let f = h.4 in record {
        number = 1;
        most = omega arith;
        passed = (tt, λ none. none h.1 h.2.is);
        failed = λ less fits. not_both s.opening.log_limit _ (subst (λ p. FitsLog s (group_bytes p)) (one_first fits.0 h.1 fits.1 h.2) fits.2)
            (subst (λ n. Above s.opening.log_limit n) (λ i. f.used_is i + f.reserved_is i + h.3 i) f.full);
        is = (h.1, h.2, ((λ i. answer.Refused (refusal.LogFull (f.used_is i) (f.reserved_is i) (h.3 i))), h.0));
      }
  clean_says _ es of h = absurd h

  pub is_clean : (n : ℕ) (one other : Answer) (es fs : List Effect) → IsClean n one es → IsClean n other fs → (one ≡ other) × (es ≡ fs)
  is_clean zero one other es fs h k = both_same _ _ one other es fs h k
  is_clean (suc zero) one other es fs h k =
      let same : h.0 ≡ k.0 = one_first h.0 k.0 h.1 k.1 in
      (h.2.0 ∙ (λ i. answer.Refused (refusal.LogFull s.log.used (reserved s.store s.log) (group_bytes (same i)))) ∙ sym k.2.0, h.2.1 ∙ sym k.2.1)
  is_clean (suc (suc n)) one other es fs h k =
      let same : h.0 ≡ k.0 = one_first h.0 k.0 h.1 k.1 in
      (h.2.0 ∙ sym k.2.0, h.2.1 ∙ (λ i. Cleans (same i) ∷ []) ∙ sym k.2.1)
