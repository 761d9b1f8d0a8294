-- Steps that no session asks for.
use Rattle.std.specs.Prelude.{◌≡◌, ◌≢◌, ◌≤◌, ◌<◌, ◌+◌, ◌++◌, ℕ, zero, suc, codes, Bool, true, false, List, [], ◌∷◌, Result, Ok, Err}
use mathlib.Core.Path.{refl, sym, ap, subst, ◌∙◌}
use mathlib.Core.Logic.{inl, inr}
use Rattle.std.proofs.Common.{arith}
use Rattle.iv_types.specs.declared.refusal.EngineRefusal.{EngineRefusal}
use Rattle.iv_types.specs.declared.refusal.EngineRefusal.TheVariants as engine
use Rattle.iv_types.specs.declared.reply.Reply.TheVariants as reply
use Rattle.iv_meaning.specs.Reply.{reply_lines}
use Rattle.iv_meaning.specs.Said.{cleans, checkpoints}
use Rattle.txn_machine.specs.Acts as act
use Rattle.txn_machine.specs.Acts.{Act}
use Rattle.txn_machine.specs.Answers as answer
use Rattle.txn_machine.specs.Answers.{Answer}
use Rattle.txn_machine.specs.State.{State, most_steps}
use Rattle.txn_machine.specs.Store.{Effect}
use Rattle.txn_machine.specs.Steps as machine
use Rattle.txn_machine.specs.Alone.{Story, story_after}
use Rattle.txn_machine.specs.Laws.{IsReachedStory}
use Rattle.txn_machine.specs.May.{May}
use Rattle.txn_book.specs.declared.step.Step.{Step}
use Rattle.txn_book.specs.declared.step.Answer.{Answer as BookAnswer}
use Rattle.txn_book.specs.Acts as book
use Rattle.txn_book.specs.Moves.{IsAskable as CanAsk, Moves}
use Rattle.script_law.specs.Seen.{event, CanCome}
use Rattle.script_law.specs.RunLines.{Cleaned, all_removed, removal_refused, cleaned_text, counted_line, Cleans, cleaned_all, cleaned_one, clean_fails, CleansLine, pruned, prune_fails, SavesLine, saved, save_fails}
use Rattle.script_law.specs.Machine.{DoesOf}
use Rattle.script_law.proofs.OverMachine.{machine_laws}
use Rattle.txn_sessions.specs.declared.session.Session.{Session}
use Rattle.session_asks.specs.Askable.{the_programs}
use Rattle.session_table.specs.Going.{StandsIn, MayGo, the_tell}
use Rattle.session_table.specs.Requests.{EngineDid}
use Rattle.session_table.specs.Cleaning.{IsEngines, IsPruned, IsCleaned, IsSaved, cleaned_as, cleaned_by, CleansBy, CleansLineBy}
use Rattle.session_table.proofs.Knowing.{then, so}
use Rattle.session_table.proofs.Counting.{steps_most}
use Rattle.session_table.proofs.Others.{other_step}

-- ---- one is asked for

pub may_ask : (s : State) (a : Act) → IsEngines a → May s 0 a
may_ask s act.Clean h = (omega arith, inr refl)
may_ask s act.Prune h = (omega arith, inr refl)
may_ask s act.Checkpoint h = (omega arith, inr refl)
may_ask s _ h = absurd h

pub own_needs : {St : State → Type 0} (b : Step) → b.session ≡ 0 → IsEngines (book.act_of b.act) → StandsIn St IsReachedStory → CanAsk St b
own_needs b e is h = record { state = h.story.state; stands = h.stands; asked = subst (λ i. May h.story.state i (book.act_of b.act)) (sym e) (may_ask h.story.state (book.act_of b.act) is) }

pub own_answers : {St : State → Type 0} {MayRecover : _} (s : Story) (b : Step) (said : BookAnswer) → b.session ≡ 0 → Moves St MayRecover s.state b said
    → StandsIn St (DoesOf s 0 (book.act_of b.act) (book.answer_of said))
own_answers s b said e m =
    let did : machine.Did = record { session = 0; act = book.act_of b.act; said = book.answer_of said } in
    record {
      story = story_after s did m.after;
      stands = m.stands;
      holds = (m.after, subst (λ i. machine.Step s.state i (book.act_of b.act) (book.answer_of said) m.after) e m.does, refl);
    }

-- as it is taken apart
pub as_told : {St : State → Type 0} (s : Story) (a : Act) (said told : Answer) → said ≡ told → StandsIn St (DoesOf s 0 a said) → StandsIn St (DoesOf s 0 a told)
as_told {St = St} s a said told e h = subst (λ y. StandsIn St (DoesOf s 0 a y)) e h

-- ---- which answers come

module _ (s after : Story) (said : Answer) (reached : IsReachedStory s) where
  prune_came : (y : Answer) → CanCome act.Prune (event act.Prune y) → IsPruned y
  prune_came answer.Pruned h = tt
  prune_came (answer.Refused why) h = tt
  prune_came _ h = absurd h

  save_came : (y : Answer) → CanCome act.Checkpoint (event act.Checkpoint y) → IsSaved y
  save_came (answer.Saved number) h = tt
  save_came (answer.Refused why) h = tt
  save_came _ h = absurd h

  clean_came : (y : Answer) (es : List Effect) → machine.Says s.state 0 act.Clean y es → CanCome act.Clean (event act.Clean y) → IsCleaned y
  clean_came (answer.Cleaned zero) es says h = tt
  clean_came (answer.Cleaned (suc zero)) es says h = tt
  clean_came (answer.Cleaned (suc (suc n))) es says h = absurd says
  clean_came (answer.Refused why) es says h = tt
  clean_came _ es says h = absurd h

  can_come : (a : Act) → DoesOf s 0 a said after → CanCome a (event a said)
  can_come a does = machine_laws.answers s after 0 a said reached does

  prune_said : DoesOf s 0 act.Prune said after → IsPruned said
  prune_said does = prune_came said (can_come act.Prune does)

  save_said : DoesOf s 0 act.Checkpoint said after → IsSaved said
  save_said does = save_came said (can_come act.Checkpoint does)

  clean_said : DoesOf s 0 act.Clean said after → IsCleaned said
  clean_said does = elim does.1.does [
    | inl d ↦ clean_came said d.effects d.says (can_come act.Clean does)
    | inr d ↦ subst IsCleaned (sym d.says) tt
  ]

module _ {St0 St1 : State → Type 0} (said : Answer) (h : StandsIn St0 IsReachedStory) where
  pub prune_fits : ((s : Story) → St0 s.state → StandsIn St1 (DoesOf s 0 act.Prune said)) → IsPruned said
  prune_fits did = let d : StandsIn St1 (DoesOf h.story 0 act.Prune said) = did h.story h.stands in prune_said h.story d.story said h.holds d.holds

  pub save_fits : ((s : Story) → St0 s.state → StandsIn St1 (DoesOf s 0 act.Checkpoint said)) → IsSaved said
  save_fits did = let d : StandsIn St1 (DoesOf h.story 0 act.Checkpoint said) = did h.story h.stands in save_said h.story d.story said h.holds d.holds

  pub clean_fits : ((s : Story) → St0 s.state → StandsIn St1 (DoesOf s 0 act.Clean said)) → IsCleaned said
  clean_fits did = let d : StandsIn St1 (DoesOf h.story 0 act.Clean said) = did h.story h.stands in clean_said h.story d.story said h.holds d.holds

-- ---- ghosts are removed one by one

-- So many were: what is removed from here on is removed from there.
pub record Removed (s : Story) (many : ℕ) (after : Story) : Type 0 where
  pub joins : (end : Cleaned) (last : Story) → Cleans DoesOf the_programs the_tell many after end last → Cleans DoesOf the_programs the_tell 0 s end last
  pub counts : many ≤ after.state.steps
  pub reached : IsReachedStory after

removed_none : (s : Story) → IsReachedStory s → Removed s 0 s
removed_none s r = record { joins = λ end last h. h; counts = omega arith; reached = r }

does_reach : (s mid : Story) (a : Act) (said : Answer) → IsReachedStory s → DoesOf s 0 a said mid → IsReachedStory mid
does_reach s mid a said r does = machine_laws.stands s mid 0 a said r does

-- one more
removed_more : (s mid after : Story) (many : ℕ) → Removed s many mid → DoesOf mid 0 act.Clean (answer.Cleaned 1) after → Removed s (many + 1) after
removed_more s mid after many h does = record {
  joins = λ end last more. h.joins end last (cleaned_one many mid after last end does more);
  counts = elim does.1.does [
    | inl d ↦ let e : after.state.steps ≡ mid.state.steps + 1 = ap (λ (z : Story). z.state.steps) does.2 ∙ ap (λ (z : State). z.steps) d.left in omega (arith, h.counts, e)
    | inr d ↦ let no : answer.Cleaned 1 ≡ answer.Refused (engine.Stopped d.stop.step) = d.says in absurd (cc)
  ];
  reached = does_reach mid after act.Clean (answer.Cleaned 1) h.reached does;
}

module _ (St0 : State → Type 0) where
  abbrev pub RemovedKnown : (State → Type 0) → ℕ → Type 0
  RemovedKnown St many = (s : Story) → St0 s.state → IsReachedStory s → StandsIn St (Removed s many)

  pub known_none : RemovedKnown St0 0
  known_none s st r = record { story = s; stands = st; holds = removed_none s r }

  pub known_needs : {St : State → Type 0} (many : ℕ) → StandsIn St0 IsReachedStory → RemovedKnown St many → StandsIn St IsReachedStory
  known_needs many h known = then h (λ s st r. so (known s st r) (λ t d. d.reached))

  module _ {St St' : State → Type 0} (many : ℕ) (known : RemovedKnown St many) where
    pub known_more : (more : Bool) → more ≡ true → ((s : Story) → St s.state → StandsIn St' (DoesOf s 0 act.Clean (cleaned_as (Ok more)))) → RemovedKnown St' (many + 1)
    known_more more is did s st r = then (known s st r) (λ t st' d. so (did t st') (λ u does.
        removed_more s t u many d (subst (λ b. DoesOf t 0 act.Clean (cleaned_as (Ok b)) u) is does)))

    pub known_all : (more : Bool) → more ≡ false → ((s : Story) → St s.state → StandsIn St' (DoesOf s 0 act.Clean (cleaned_as (Ok more)))) → (s : Story) → St0 s.state → IsReachedStory s → StandsIn St' (CleansBy s (Ok many))
    known_all more is did s st r = then (known s st r) (λ t st' d. so (did t st') (λ u does.
        d.joins (all_removed many) u (cleaned_all many t u (subst (λ b. DoesOf t 0 act.Clean (cleaned_as (Ok b)) u) is does))))

    pub known_fails : (why : EngineRefusal) → ((s : Story) → St s.state → StandsIn St' (DoesOf s 0 act.Clean (cleaned_as (Err why)))) → (s : Story) → St0 s.state → IsReachedStory s → StandsIn St' (CleansBy s (Err why))
    known_fails why did s st r = then (known s st r) (λ t st' d. so (did t st') (λ u does. d.joins (removal_refused why) u (clean_fails many t u why does)))

  -- no engine counts so many steps
  pub known_never : {St : State → Type 0} (many : ℕ) → most_steps < many → StandsIn St0 IsReachedStory → RemovedKnown St many → ⊥
  known_never {St = St} many over h known =
      let d : StandsIn St (Removed h.story many) = known h.story h.stands h.holds in
      let most : d.story.state.steps ≤ most_steps = steps_most d.story d.holds.reached in
      let counts : many ≤ d.story.state.steps = d.holds.counts in
      omega (arith, most, counts, over)

-- ---- the line

pub prunes_first : (St0 : State → Type 0) {St1 St2 : State → Type 0} (result : Result ℕ EngineRefusal) → ((s : Story) → St0 s.state → StandsIn St1 (DoesOf s 0 act.Prune answer.Pruned))
    → ((s : Story) → St1 s.state → IsReachedStory s → StandsIn St2 (CleansBy s result)) → (s : Story) → St0 s.state → IsReachedStory s → StandsIn St2 (CleansLineBy s result)
prunes_first St0 result did more_done s st r = then (did s st) (λ t st' does. so (more_done t st' (does_reach s t act.Prune answer.Pruned r does)) (λ u more. pruned s t u (cleaned_by result) does more))

pub prune_stops : (St0 : State → Type 0) {St1 : State → Type 0} (why : EngineRefusal) → ((s : Story) → St0 s.state → StandsIn St1 (DoesOf s 0 act.Prune (answer.Refused why)))
    → (s : Story) → St0 s.state → IsReachedStory s → StandsIn St1 (CleansLineBy s (Err why))
prune_stops St0 why did s st r = so (did s st) (λ t does. prune_fails s t why does)

pub pruned_needs : {St0 St1 : State → Type 0} → StandsIn St0 IsReachedStory → ((s : Story) → St0 s.state → StandsIn St1 (DoesOf s 0 act.Prune answer.Pruned)) → StandsIn St1 IsReachedStory
pruned_needs h did = then h (λ s st r. so (did s st) (λ t does. does_reach s t act.Prune answer.Pruned r does))

-- ---- other sessions go on

module _ (x : Session) (differs : 0 ≢ x.number) where
  other_cleans : (removed : ℕ) (s : Story) (end : Cleaned) (after : Story) → Cleans DoesOf the_programs the_tell removed s end after → MayGo x s → MayGo x after
  other_cleans _ _ _ _ (cleaned_all removed s after does) go = other_step s after 0 act.Clean (answer.Cleaned 0) x differs does go
  other_cleans _ _ _ _ (cleaned_one removed s mid after end does more) go = other_cleans (removed + 1) mid end after more (other_step s mid 0 act.Clean (answer.Cleaned 1) x differs does go)
  other_cleans _ _ _ _ (clean_fails removed s after why does) go = other_step s after 0 act.Clean (answer.Refused why) x differs does go

  other_line : (s : Story) (end : Cleaned) (after : Story) → CleansLine DoesOf the_programs the_tell s end after → MayGo x s → MayGo x after
  other_line _ _ _ (pruned s mid after end does more) go = other_cleans 0 mid end after more (other_step s mid 0 act.Prune answer.Pruned x differs does go)
  other_line _ _ _ (prune_fails s after why does) go = other_step s after 0 act.Prune (answer.Refused why) x differs does go

  other_saves : (s : Story) (piece : List ℕ) (after : Story) → SavesLine DoesOf the_programs the_tell s piece after → MayGo x s → MayGo x after
  other_saves _ _ _ (saved s after number does) go = other_step s after 0 act.Checkpoint (answer.Saved number) x differs does go
  other_saves _ _ _ (save_fails s after why does) go = other_step s after 0 act.Checkpoint (answer.Refused why) x differs does go

-- ---- what is told

pub clean_told : (St0 : State → Type 0) {St1 : State → Type 0} (result : Result ℕ EngineRefusal) (out out' : List ℕ) → out' ≡ out ++ cleaned_text DoesOf the_programs the_tell (cleaned_by result)
    → ((s : Story) → St0 s.state → IsReachedStory s → StandsIn St1 (CleansLineBy s result)) → (s : Story) → St0 s.state → IsReachedStory s → StandsIn St1 (EngineDid cleans s out out')
clean_told St0 result out out' told did s st r = so (did s st r) (λ t line. record {
  piece = cleaned_text DoesOf the_programs the_tell (cleaned_by result);
  told = told;
  own = λ table. (refl, (cleaned_by result, refl, line));
  others = λ x differs go. other_line x differs s (cleaned_by result) t line go;
})

pub save_told : (St0 : State → Type 0) {St1 : State → Type 0} (number : ℕ) (out out' : List ℕ) → out' ≡ out ++ counted_line (codes "CHECKPOINT") number
    → ((s : Story) → St0 s.state → StandsIn St1 (DoesOf s 0 act.Checkpoint (answer.Saved number))) → (s : Story) → St0 s.state → IsReachedStory s → StandsIn St1 (EngineDid checkpoints s out out')
save_told St0 number out out' told did s st r = so (did s st) (λ t does. record {
  piece = counted_line (codes "CHECKPOINT") number;
  told = told;
  own = λ table. (refl, saved s t number does);
  others = λ x differs go. other_saves x differs s (counted_line (codes "CHECKPOINT") number) t (saved s t number does) go;
})

pub save_refused : (St0 : State → Type 0) {St1 : State → Type 0} (why : EngineRefusal) (out out' : List ℕ) → out' ≡ out ++ reply_lines 0 (reply.Error (the_tell why) ∷ [])
    → ((s : Story) → St0 s.state → StandsIn St1 (DoesOf s 0 act.Checkpoint (answer.Refused why))) → (s : Story) → St0 s.state → IsReachedStory s → StandsIn St1 (EngineDid checkpoints s out out')
save_refused St0 why out out' told did s st r = so (did s st) (λ t does. record {
  piece = reply_lines 0 (reply.Error (the_tell why) ∷ []);
  told = told;
  own = λ table. (refl, save_fails s t why does);
  others = λ x differs go. other_saves x differs s (reply_lines 0 (reply.Error (the_tell why) ∷ [])) t (save_fails s t why does) go;
})
