-- What may come of a session, after a step of its own or of another.
use Rattle.std.specs.Prelude.{◌≡◌, ◌≢◌, ◌⊎◌, ℕ, Bool, List, Some, None}
use mathlib.Core.Path.{refl, sym, ap, subst, ◌∙◌}
use mathlib.Core.Logic.{inl, inr}
use Rattle.iv_types.specs.declared.reply.Reply.{Reply}
use Rattle.iv_types.specs.Syntax.{StatementTree}
use Rattle.txn_machine.specs.Acts.{Act}
use Rattle.txn_machine.specs.Answers.{Answer}
use Rattle.txn_machine.specs.May.{IsWritten}
use Rattle.txn_machine.specs.Alone.{Story}
use Rattle.script_law.specs.Seen.{Event, Waits, event}
use Rattle.script_law.specs.Programs.{Standing, Todo, says}
use Rattle.script_law.specs.RunLines.{act_of, next_of, IsNotBlocked}
use Rattle.script_law.specs.Machine.{DoesOf}
use Rattle.session_asks.specs.Askable.{the_programs, left_after, ComesTo, is_there, begins, steps, others_step, IsAskable}

pub free_left : (e : Event) (stay next : Todo) → IsNotBlocked e → left_after e stay next ≡ next
free_left (Waits sessions) stay next h = absurd h
free_left _ stay next h = refl

module _ (session : ℕ) (todo : Todo) (s : Story) (h : IsAskable session todo s) where
  -- after a step of its own
  pub askable_next : (a : Act) (said : Answer) (memory : Bool) (mid : Story) → act_of todo ≡ Some a → DoesOf s session a said mid → IsNotBlocked (event a said)
      → IsAskable session (next_of todo said memory) mid
  askable_next a said memory mid asks does free = subst (λ t. IsAskable session t mid) (free_left (event a said) todo (next_of todo said memory) free) (record {
    may = λ last after b comes. h.may last after b (steps todo a said memory last s mid after asks does comes);
    stops = λ last after b step m comes. h.stops last after b step m (steps todo a said memory last s mid after asks does comes);
  })

  pub askable_blocked : (a : Act) (said : Answer) (memory : Bool) (mid : Story) (sessions : _) → act_of todo ≡ Some a → DoesOf s session a said mid → event a said ≡ Waits sessions
      → IsAskable session todo mid
  askable_blocked a said memory mid sessions asks does is =
      let same : left_after (event a said) todo (next_of todo said memory) ≡ todo = ap (λ e. left_after e todo (next_of todo said memory)) is in
      subst (λ t. IsAskable session t mid) same (record {
        may = λ last after b comes. h.may last after b (steps todo a said memory last s mid after asks does comes);
        stops = λ last after b step m comes. h.stops last after b step m (steps todo a said memory last s mid after asks does comes);
      })

  -- and of another
  pub askable_other : (other : ℕ) (a : Act) (said : Answer) (mid : Story) → other ≢ session → DoesOf s other a said mid → IsAskable session todo mid
  askable_other other a said mid differs does = record {
    may = λ last after b comes. h.may last after b (others_step other todo a said last s mid after differs does comes);
    stops = λ last after b step m comes. h.stops last after b step m (others_step other todo a said last s mid after differs does comes);
  }

-- where a statement begins
pub askable_start : (session : ℕ) (replies : List Reply) (standing : Standing) (statement : StatementTree) (s : Story) → IsAskable session (says replies standing) s → IsWritten statement
    → the_programs.refuses standing statement ≡ None → IsAskable session (the_programs.start standing statement) s
askable_start session replies standing statement s h written goes = record {
  may = λ last after b comes. h.may last after b (begins replies standing statement last s after written goes comes);
  stops = λ last after b step m comes. h.stops last after b step m (begins replies standing statement last s after written goes comes);
}

-- what was told does not matter
other_replies : (session : ℕ) (replies : List Reply) (standing : Standing) (todo : Todo) (s : Story) (last : Todo) (after : Story) → (told : List Reply) → todo ≡ says told standing
    → ComesTo session todo s last after → ComesTo session (says replies standing) s last after ⊎ (act_of last ≡ None)
other_replies session replies standing _ _ _ _ told e (is_there todo s) = inr (ap act_of e)
other_replies session replies standing _ _ _ _ told e (begins r other statement last s after written goes comes) =
    let same : other ≡ standing = cc in
    inl (begins replies standing statement last s after written (subst (λ z. the_programs.refuses z statement ≡ None) same goes) (subst (λ z. ComesTo session (the_programs.start z statement) s last after) same comes))
other_replies session replies standing _ _ _ _ told e (steps todo a said memory last s mid after asks does comes) = let no : None ≡ Some a = sym (ap act_of e) ∙ asks in absurd (cc)
other_replies session replies standing _ _ _ _ told e (others_step other todo a said last s mid after differs does comes) = elim (other_replies session replies standing todo mid last after told e comes) [
  | inl c ↦ inl (others_step other (says replies standing) a said last s mid after differs does c)
  | inr n ↦ inr n
]

pub askable_told : (session : ℕ) (told replies : List Reply) (standing : Standing) (s : Story) → IsAskable session (says replies standing) s → IsAskable session (says told standing) s
askable_told session told replies standing s h = record {
  may = λ last after b comes asks. elim (other_replies session replies standing (says told standing) s last after told refl comes) [
    | inl c ↦ h.may last after b c asks
    | inr n ↦ let no : None ≡ Some b = sym n ∙ asks in absurd (cc)
  ];
  stops = λ last after b step m comes asks. elim (other_replies session replies standing (says told standing) s last after told refl comes) [
    | inl c ↦ h.stops last after b step m c asks
    | inr n ↦ let no : None ≡ Some b = sym n ∙ asks in absurd (cc)
  ];
}
