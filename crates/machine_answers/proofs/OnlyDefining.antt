-- A CREATE statement has one answer.
use Rattle.std.specs.Prelude.{◌≡◌, ℕ, zero, suc, ◌+◌, ◌<◌, List, [], ◌∷◌, Option, Some, None, IsSome, Ok, Err}
use mathlib.Core.Path.{refl, sym, ap, subst, ◌∙◌}
use mathlib.Core.Logic.{inl, inr}
use Rattle.std.proofs.Common.{arith}
use Rattle.iv_types.specs.declared.refusal.Refusal.{Refusal}
use Rattle.iv_types.specs.declared.refusal.EngineRefusal.TheVariants as refusal
use Rattle.iv_types.specs.Syntax.{StatementTree}
use Rattle.iv_meaning.specs.Schema.{Object}
use Rattle.iv_meaning.specs.Statement.{Kept, Meaning, BoundTree, create, bound_meaning, Refused, Accepted}
use Rattle.iv_meaning.specs.Binding.{bind}
use Rattle.txn_machine.specs.Acts as act
use Rattle.txn_machine.specs.Answers as answer
use Rattle.txn_machine.specs.Answers.{Answer}
use Rattle.txn_machine.specs.Keeping.{Open}
use Rattle.txn_machine.specs.Store.{committed, schema_of, Effect, Defines}
use Rattle.txn_machine.specs.Counts.{entry_size, definition_size, most_of_history, told_need}
use Rattle.txn_machine.specs.Log.{Above, reserved, definition_need}
use Rattle.txn_machine.specs.State.{State}
use Rattle.txn_machine.specs.Steps.{Says, FitsLog, FitsData, FitsHistory, history_bytes, used_data, NoneIsOpen, IsBusy, Makes, made_need, unbound, refused}
use Rattle.machine_answers.specs.Answered.{IsOfState}
use Rattle.machine_answers.proofs.Choosing.{at_most_or_more}
use Rattle.machine_answers.proofs.Only.{IsChosen, Both, both_same, not_both}

nothing_open : (o : Option Open) → o ≡ None → IsSome o → ⊥
nothing_open None e some = cc
nothing_open (Some t) e some = cc

unlike : (count : ℕ) (kept : List Kept) (why : Refusal) (m : Meaning) → m ≡ Accepted [] count kept → m ≡ Refused why → ⊥
unlike count kept why m e f = cc (sym e ∙ f)

same_refused : (why more : Refusal) → Refused why ≡ Refused more → why ≡ more
same_refused why more e = cc

module _ (s : State) (session : ℕ) (statement : StatementTree) where
  abbrev IsAccepted : Object → Type 0
  IsAccepted o = (count : ℕ) × (kept : List Kept) × (bound_meaning (create o) (committed s.store) ≡ Accepted [] count kept)

  abbrev pub DefiningTest : ℕ → Type 0
  DefiningTest zero = (what : BoundTree) × (bind (schema_of s.store) statement ≡ Ok what)
  DefiningTest (suc zero) = NoneIsOpen s.store
  DefiningTest (suc (suc zero)) = (o : Object) × Makes s.store statement o × IsAccepted o
  DefiningTest (suc (suc (suc zero))) = FitsLog s (definition_need statement)
  DefiningTest (suc (suc (suc (suc zero)))) = (o : Object) × Makes s.store statement o × FitsData s (made_need s.store statement o)
  DefiningTest (suc (suc (suc (suc (suc n))))) = FitsHistory s (entry_size + definition_size statement)

  abbrev pub IsDefining : ℕ → Answer → List Effect → Type 0
  IsDefining zero said es = (why : Refusal) × (bind (schema_of s.store) statement ≡ Err why) × Both (answer.Denied why) [] said es
  IsDefining (suc zero) said es = (busy : ℕ) × IsBusy s.store busy × Both (answer.Refused (refusal.SchemaBusy busy)) [] said es
  IsDefining (suc (suc zero)) said es =
      (o : Object) × Makes s.store statement o × (why : Refusal) × (bound_meaning (create o) (committed s.store) ≡ Refused why) × Both (answer.Denied why) [] said es
  IsDefining (suc (suc (suc zero))) said es = Both (answer.Refused (refusal.LogFull s.log.used (reserved s.store s.log) (told_need (definition_need statement)))) [] said es
  IsDefining (suc (suc (suc (suc zero)))) said es =
      (o : Object) × Makes s.store statement o × Both (answer.Refused (refusal.DataFull (used_data s) (told_need (made_need s.store statement o)))) [] said es
  IsDefining (suc (suc (suc (suc (suc zero))))) said es = Both (answer.Refused (refusal.HistoryFull (history_bytes s) (told_need (entry_size + definition_size statement)))) [] said es
  IsDefining (suc (suc (suc (suc (suc (suc n)))))) said es =
      (o : Object) × Makes s.store statement o × Both (answer.Committed ((committed s.store).number + 1)) (Defines o ∷ []) said es

  same_object : (o p : Object) → Makes s.store statement o → Makes s.store statement p → o ≡ p
  same_object o p h k = let e : Ok (create o) ≡ Ok (create p) = sym h.bound ∙ k.bound in cc

  same_why : (why more : Refusal) → bind (schema_of s.store) statement ≡ Err why → bind (schema_of s.store) statement ≡ Err more → why ≡ more
  same_why why more e f = cc (sym e ∙ f)

  one_busy : (a b : ℕ) → IsBusy s.store a → IsBusy s.store b → a ≡ b
  one_busy a b h k = elim (at_most_or_more a b) [
    | inr less ↦ absurd (nothing_open (s.store.open_of b) (h.least b k.of_session less) k.is_open)
    | inl up ↦ elim (at_most_or_more b a) [
      | inr less ↦ absurd (nothing_open (s.store.open_of a) (k.least a h.of_session less) h.is_open)
      | inl down ↦ omega (arith, up, down)
    ]
  ]

  pub defining_says : (said : Answer) (es : List Effect) → IsOfState said → Says s session (act.Schema statement) said es → IsChosen DefiningTest 6 IsDefining said es
  defining_says (answer.Blocked x) es of h = absurd h.0
  defining_says (answer.Refused (refusal.Deadlock c)) es of h = absurd h.0
  defining_says (answer.Refused refusal.NoMemory) es of h = absurd of
  defining_says (answer.Refused refusal.DiskFault) es of h = absurd of
  defining_says (answer.Denied why) es of (unbound e, none) = record {
    number = 0;
    most = omega arith;
    passed = tt;
    failed = λ less bound. cc (sym e ∙ bound.1);
    is = (why, e, (refl, none));
  }
  defining_says (answer.Denied why) es of (refused o makes free e, none) = record {
    number = 2;
    most = omega arith;
    passed = ((tt, (create o, makes.bound)), free);
    failed = λ less h. unlike h.2.0 h.2.1 why _ h.2.2 (subst (λ p. bound_meaning (create p) (committed s.store) ≡ Refused why) (same_object o h.0 makes h.1) e);
    is = (o, makes, why, e, (refl, none));
  }
  defining_says (answer.Refused (refusal.SchemaBusy busy)) es of h = record {
    number = 1;
    most = omega arith;
    passed = (tt, (create h.0.object, h.0.makes.bound));
    failed = λ less free. nothing_open (s.store.open_of busy) (free busy h.0.least.of_session) h.0.least.is_open;
    is = (busy, h.0.least, (refl, h.1));
  }
  defining_says (answer.Refused (refusal.LogFull used reserved_bytes need)) es of h =
      let f = h.0.full in record {
        number = 3;
        most = omega arith;
        passed = (((tt, (create h.0.object, h.0.makes.bound)), h.0.none_open), (h.0.object, h.0.makes, h.0.accepted));
        failed = λ less fits. not_both s.opening.log_limit _ fits (subst (λ n. Above s.opening.log_limit n) (λ i. f.used_is i + f.reserved_is i + definition_need statement) f.full);
        is = ((λ i. answer.Refused (refusal.LogFull (f.used_is i) (f.reserved_is i) (h.0.need_is i))), h.1);
      }
  defining_says (answer.Refused (refusal.DataFull used need)) es of h =
      let f = h.0.full in record {
        number = 4;
        most = omega arith;
        passed = ((((tt, (create h.0.object, h.0.makes.bound)), h.0.none_open), (h.0.object, h.0.makes, h.0.accepted)), h.0.log_room);
        failed = λ less fits. not_both s.opening.data_limit _ (subst (λ o. FitsData s (made_need s.store statement o)) (same_object fits.0 h.0.object fits.1 h.0.makes) fits.2)
            (subst (λ n. Above s.opening.data_limit n) (λ i. f.used_is i + made_need s.store statement h.0.object) f.full);
        is = (h.0.object, h.0.makes, ((λ i. answer.Refused (refusal.DataFull (f.used_is i) (h.0.need_is i))), h.1));
      }
  defining_says (answer.Refused (refusal.HistoryFull kept need)) es of h =
      let f = h.0.full in record {
        number = 5;
        most = omega arith;
        passed = (((((tt, (create h.0.object, h.0.makes.bound)), h.0.none_open), (h.0.object, h.0.makes, h.0.accepted)), h.0.log_room), (h.0.object, h.0.makes, h.0.data_room));
        failed = λ less fits.
            let full : most_of_history < kept + (entry_size + definition_size statement) = f.full in
            let kept_is : kept ≡ history_bytes s = f.kept_is in
            omega (arith, fits, full, kept_is);
        is = ((λ i. answer.Refused (refusal.HistoryFull (f.kept_is i) (h.0.need_is i))), h.1);
      }
  defining_says (answer.Committed number) es of h = record {
    number = 6;
    most = omega arith;
    passed = ((((((tt, (create h.object, h.makes.bound)), h.none_open), (h.object, h.makes, h.accepted)), h.log_room), (h.object, h.makes, h.data_room)), h.room);
    failed = λ less. absurd (omega (arith, less));
    is = (h.object, h.makes, (ap answer.Committed h.number_is, h.effects));
  }
  defining_says _ es of h = absurd h

  pub is_defining : (n : ℕ) (one other : Answer) (es fs : List Effect) → IsDefining n one es → IsDefining n other fs → (one ≡ other) × (es ≡ fs)
  is_defining zero one other es fs h k = (h.2.0 ∙ ap answer.Denied (same_why h.0 k.0 h.1 k.1) ∙ sym k.2.0, h.2.1 ∙ sym k.2.1)
  is_defining (suc zero) one other es fs h k = (h.2.0 ∙ ap (λ b. answer.Refused (refusal.SchemaBusy b)) (one_busy h.0 k.0 h.1 k.1) ∙ sym k.2.0, h.2.1 ∙ sym k.2.1)
  is_defining (suc (suc zero)) one other es fs h k =
      let e : bound_meaning (create h.0) (committed s.store) ≡ Refused k.2 = subst (λ o. bound_meaning (create o) (committed s.store) ≡ Refused k.2) (same_object k.0 h.0 k.1 h.1) k.3 in
      let why : Refused h.2 ≡ Refused k.2 = sym h.3 ∙ e in
      (h.4.0 ∙ ap answer.Denied (same_refused h.2 k.2 why) ∙ sym k.4.0, h.4.1 ∙ sym k.4.1)
  is_defining (suc (suc (suc zero))) one other es fs h k = both_same _ _ one other es fs h k
  is_defining (suc (suc (suc (suc zero)))) one other es fs h k =
      (h.2.0 ∙ ap (λ o. answer.Refused (refusal.DataFull (used_data s) (told_need (made_need s.store statement o)))) (same_object h.0 k.0 h.1 k.1) ∙ sym k.2.0, h.2.1 ∙ sym k.2.1)
  is_defining (suc (suc (suc (suc (suc zero))))) one other es fs h k = both_same _ _ one other es fs h k
  is_defining (suc (suc (suc (suc (suc (suc n)))))) one other es fs h k = (h.2.0 ∙ sym k.2.0, h.2.1 ∙ (λ i. Defines (same_object h.0 k.0 h.1 k.1 i) ∷ []) ∙ sym k.2.1)
