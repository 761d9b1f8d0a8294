-- Lines that `make` has run, each with the piece that it printed.
use Rattle.std.specs.Prelude.{◌≡◌, ◌⊎◌, ◌+◌, ◌≤◌, ◌%◌, ◌==◌, ℕ, suc, List, [], ◌∷◌, ◌++◌, None, Bool, true, false, length, map, String, string_bytes}
use Rattle.std.proofs.Common.{arith, cond, codes}
use Rattle.std.proofs.lemmas.List.{length-map}
use Rattle.std.specs.List.{AllByRecursion}
use mathlib.Core.Path.{refl, sym, ap, subst, ◌∙◌}
use mathlib.Core.Logic.{inl, inr}
use Rattle.iv_meaning.specs.Said.{Said, Says}
use Rattle.iv_meaning.specs.Database.{Database}
use Rattle.iv_meaning.specs.Serial.{World, opened_with, latest, Answers, IsEnd}
use Rattle.iv_meaning.specs.History.{fold}
use Rattle.iv_types.specs.declared.refusal.Refusal.{Refusal}
use Rattle.iv_types.specs.declared.refusal.EngineRefusal.{EngineRefusal}
use Rattle.txn_machine.specs.Store as store
use Rattle.txn_machine.specs.Store.{committed}
use Rattle.txn_machine.specs.State.{State, opened_state}
use Rattle.txn_machine.specs.Alone.{Story, begun_story}
use Rattle.txn_machine.specs.Laws.{IsReachedStory}
use Rattle.script_law.specs.Laws.{AreEngines, IsNew}
use Rattle.script_law.specs.Machine.{DoesOf, seen_of, IsStopped}
use Rattle.script_law.specs.Programs.{Programs, ProgramLaws}
use Rattle.script_law.specs.RunLines.{Table, RunsLine, new_table, all_sessions}
use Rattle.script_law.proofs.Agreeing.{Agrees}
use Rattle.script_law.proofs.OverMachine.{machine_laws}
use Rattle.script_law.proofs.Running as running
use Rattle.script_law.proofs.Running.{begun_agrees}
use Rattle.script_law.proofs.Right.{programs_law}
use Rattle.statement_law.specs.Statements.{the_works}
use Rattle.statement_law.proofs.Works.{works_law}
use Rattle.statement_law.proofs.Telling.{told_engines}
use Rattle.session_asks.specs.Askable.{the_programs}
use Rattle.session_table.specs.declared.slot.Slot.{Slot}
use Rattle.session_table.specs.Going.{the_tell, StandsIn}
use Rattle.session_table.specs.Slots.{table_of, GoFirst}
use Rattle.made_script.specs.Made.{lines_before_last, made_lines, round_lines}
use Rattle.script_run.specs.Lines.{WasOpened, RanOneMore}
use Rattle.script_run.specs.Making.{RunsEach, HasMade, HasMadeLines}
use Rattle.script_run.proofs.Ran.{beginning, no_lines}
use Rattle.script_run.specs.Summary.{AnswersEach, IsRolledBack, RollsBack, LacksMemory, IsSummary, summary_text}

-- one more line, with its piece
pub answers_more : (lines pieces : List (List ℕ)) (line piece : List ℕ) (w mid after : World) (said : Said) → AnswersEach w lines pieces mid → Says line said → Answers said mid piece after
    → AnswersEach w (lines ++ line ∷ []) (pieces ++ piece ∷ []) after
answers_more [] [] line piece w mid after said h says one = (said, after, says, subst (λ (x : World). Answers said x piece after) h one, refl)
answers_more [] (p ∷ pieces) line piece w mid after said h says one = absurd h
answers_more (l ∷ lines) [] line piece w mid after said h says one = absurd h
answers_more (l ∷ lines) (p ∷ pieces) line piece w mid after said h says one = (h.0, h.1, h.2, h.3, answers_more lines pieces line piece h.1 mid after said h.4 says one)

-- how the count goes on
abbrev pub CountsOn : List ℕ → List ℕ → ℕ → ℕ → Type 0
CountsOn line piece count now = (IsRolledBack line piece × (now ≡ count + 1)) ⊎ ((IsRolledBack line piece → ⊥) × (now ≡ count))

pub rolls_back_more : (lines pieces : List (List ℕ)) (line piece : List ℕ) (count now : ℕ) → RollsBack lines pieces count → CountsOn line piece count now → RollsBack (lines ++ line ∷ []) (pieces ++ piece ∷ []) now
rolls_back_more [] [] line piece count now h (inl one) = inl (0, one.0, one.1 ∙ ap (λ (n : ℕ). n + 1) h, refl)
rolls_back_more [] [] line piece count now h (inr one) = inr (one.0, one.1 ∙ h)
rolls_back_more [] (p ∷ pieces) line piece count now h one = absurd h
rolls_back_more (l ∷ lines) [] line piece count now h one = absurd h
rolls_back_more (l ∷ lines) (p ∷ pieces) line piece count now (inl h) (inl one) =
    inl (h.0 + 1, h.1, one.1 ∙ ap (λ (n : ℕ). n + 1) h.2, rolls_back_more lines pieces line piece h.0 (h.0 + 1) h.3 (inl (one.0, refl)))
rolls_back_more (l ∷ lines) (p ∷ pieces) line piece count now (inl h) (inr one) = inl (h.0, h.1, one.1 ∙ h.2, rolls_back_more lines pieces line piece h.0 h.0 h.3 (inr (one.0, refl)))
rolls_back_more (l ∷ lines) (p ∷ pieces) line piece count now (inr h) one = inr (h.0, rolls_back_more lines pieces line piece count now h.1 one)

pub all_more : {A : Type 0} (P : A → Type 0) (xs : List A) (x : A) → AllByRecursion P xs → P x → AllByRecursion P (xs ++ x ∷ [])
all_more P [] x h p = (p, tt)
all_more P (y ∷ xs) x h p = (h.0, all_more P xs x h.1 p)

-- ---- lines that were run

module _ (programs : Programs) (tell : EngineRefusal → Refusal) where
  pub each_more : (lines pieces : List (List ℕ)) (line piece : List ℕ) (t : Table) (s : Story) (t' : Table) (s' : Story) (t'' : Table) (s'' : Story) (said : Said) → RunsEach programs tell lines pieces t s t' s' → Says line said
      → RunsLine DoesOf programs tell all_sessions said t' s' piece t'' s'' → RunsEach programs tell (lines ++ line ∷ []) (pieces ++ piece ∷ []) t s t'' s''
  each_more [] [] line piece t s t' s' t'' s'' said h says one = (said, t'', s'', says, subst (λ x. x) (λ k. RunsLine DoesOf programs tell all_sessions said (h.0 k) (h.1 k) piece t'' s'') one, (refl, refl))
  each_more [] (p ∷ pieces) line piece t s t' s' t'' s'' said h says one = absurd h
  each_more (l ∷ lines) [] line piece t s t' s' t'' s'' said h says one = absurd h
  each_more (l ∷ lines) (p ∷ pieces) line piece t s t' s' t'' s'' said h says one = (h.0, h.1, h.2, h.3, h.4, each_more lines pieces line piece h.1 h.2 t' s' t'' s'' said h.5 says one)

  module _ (program_laws : ProgramLaws programs) (engines : AreEngines tell) where
    -- the world that they left
    pub record Left (w : World) (lines pieces : List (List ℕ)) (s : Story) : Type 0 where
      pub world : World
      pub answered : AnswersEach w lines pieces world
      pub ended : IsEnd world
      pub number : (latest world).number ≡ (committed s.state.store).number

    pub left_by : (lines pieces : List (List ℕ)) (w : World) (t : Table) (s : Story) (t' : Table) (s' : Story) → IsReachedStory s → Agrees w t (seen_of s) (IsStopped s) → RunsEach programs tell lines pieces t s t' s' → Left w lines pieces s'
    left_by [] [] w t s t' s' reached agrees r =
        subst (λ (x : Story). Left w [] [] x) (sym r.1) (record {
          world = w;
          answered = refl;
          ended = (running.lines seen_of DoesOf IsReachedStory IsStopped machine_laws programs program_laws tell engines all_sessions [] w t s [] t s reached agrees (refl, refl, refl)).1;
          number = λ k. (fold (agrees.history k) (agrees.origin k)).number;
        })
    left_by [] (p ∷ pieces) w t s t' s' reached agrees r = absurd r
    left_by (l ∷ lines) [] w t s t' s' reached agrees r = absurd r
    left_by (l ∷ lines) (p ∷ pieces) w t s t' s' reached agrees r =
        let x = running.one_line seen_of DoesOf IsReachedStory IsStopped machine_laws programs program_laws tell engines all_sessions r.0 w t s p r.1 r.2 reached agrees r.4 in
        let more = left_by lines pieces x.1.0 r.1 r.2 t' s' x.0 x.1.2 r.5 in
        record { world = more.world; answered = (r.0, x.1.0, r.3, x.1.1, more.answered); ended = more.ended; number = more.number }

-- ---- the run of `make`

-- a line more was run: its text is its piece
pub made_more : (Now : State → Type 0) (db : Database) (lines pieces : List (List ℕ)) (count now : ℕ) (slots slots' : List Slot) (line : List ℕ) (s : Story) (empty text : List ℕ) → empty ≡ [] → (h : HasMade db lines pieces count slots s)
    → (LacksMemory text → ⊥) → CountsOn line text count now → StandsIn Now (RanOneMore db h.said h.out (Says line) slots s empty text slots') → StandsIn Now (HasMade db (lines ++ line ∷ []) (pieces ++ text ∷ []) now slots')
made_more Now db lines pieces count now slots slots' line s empty text none h remembers counts i =
    let r = i.holds in
    let same : text ≡ r.piece = r.told ∙ ap (λ (xs : List ℕ). xs ++ r.piece) none in
    record {
      story = i.story;
      stands = i.stands;
      holds = record {
        stored = h.stored;
        opening = h.opening;
        is_opened = h.is_opened;
        each = each_more the_programs the_tell lines pieces line text new_table (begun_story (opened_state h.opening (store.opened db h.stored))) (table_of slots) s (table_of slots') i.story r.said h.each r.says
            (subst (λ (piece : List ℕ). RunsLine DoesOf the_programs the_tell all_sessions r.said (table_of slots) s piece (table_of slots') i.story) (sym same) r.run);
        counted = rolls_back_more lines pieces line text count now h.counted counts;
        remembered = all_more (λ piece. LacksMemory piece → ⊥) pieces text h.remembered remembers;
        said = _;
        out = _;
        ran = r.ran;
      };
    }

-- no line was run yet
pub none_made : (Stands : State → Type 0) (o : WasOpened Stands) (slots : List Slot) → table_of slots ≡ new_table → GoFirst slots → HasMadeLines o.db [] 0 slots (beginning o)
none_made Stands o slots table go = (
  [],
  record { stored = o.stored; opening = o.opening; is_opened = o.is_opened; each = (table, refl); counted = refl; remembered = tt; said = []; out = []; ran = no_lines Stands o slots table go },
)

-- all were run
pub summed : (db : Database) (number commit count : ℕ) (pieces : List (List ℕ)) (last text : List ℕ) (slots : List Slot) (s : Story) → HasMade db (made_lines number) (pieces ++ last ∷ []) count slots s
    → commit ≡ (committed s.state.store).number → text ≡ summary_text number commit count last → IsSummary db number text
summed db number commit count pieces last text slots s h is told =
    let begun : Story = begun_story (opened_state h.opening (store.opened db h.stored)) in
    let reached : IsReachedStory begun = record { db = db; view = h.stored; opening = h.opening; was_opened = h.is_opened; steps = []; tells = refl } in
    let new : IsNew db (seen_of begun) = record { origin_is = refl; none_committed = refl; none_open = λ session. refl } in
    let left = left_by the_programs the_tell (programs_law the_works works_law) (λ why. (told_engines [] None why).0) (made_lines number) (pieces ++ last ∷ []) (opened_with db) new_table begun (table_of slots) s reached
    (begun_agrees seen_of IsStopped db begun new) h.each in
    record {
      pieces = pieces;
      last = last;
      world = left.world;
      count = count;
      answered = left.answered;
      ended = left.ended;
      counted = h.counted;
      remembered = h.remembered;
      told = told ∙ ap (λ (n : ℕ). summary_text number n count last) (is ∙ sym left.number);
    }

-- the same lines
pub made_as : (db : Database) (lines lines' : List (List ℕ)) (count : ℕ) (slots : List Slot) (s : Story) → lines ≡ lines' → HasMadeLines db lines count slots s → HasMadeLines db lines' count slots s
made_as db lines lines' count slots s e h = subst (λ (ls : List (List ℕ)). HasMadeLines db ls count slots s) e h

pub stands_as : (Now : State → Type 0) (db : Database) (lines lines' : List (List ℕ)) (count : ℕ) (slots : List Slot) → lines ≡ lines' → StandsIn Now (HasMadeLines db lines count slots) → StandsIn Now (HasMadeLines db lines' count slots)
stands_as Now db lines lines' count slots e i = record { story = i.story; stands = i.stands; holds = made_as db lines lines' count slots i.story e i.holds }

upkeep_few : (t : Bool) → length (cond t (codes "clean" ∷ codes "checkpoint" ∷ []) []) ≤ 2
upkeep_few true = omega arith
upkeep_few false = omega arith

pub few_lines : (round : ℕ) → length (round_lines round) ≤ 26
few_lines round = omega (arith, upkeep_few (round % 500 == 0))

pub few_texts : {A : Type 0} (texts : List (String A)) (lines : List (List ℕ)) (most : ℕ) → map string_bytes texts ≡ lines → length lines ≤ most → length texts ≤ most
few_texts texts lines most e few = omega (arith, few, sym (length-map texts string_bytes) ∙ ap length e)

pub round_more : (rounds : ℕ) → lines_before_last rounds ++ round_lines (rounds + 1) ≡ lines_before_last (rounds + 1)
round_more rounds =
    let e : suc rounds ≡ rounds + 1 = omega arith in
    subst (λ (n : ℕ). lines_before_last rounds ++ round_lines n ≡ lines_before_last n) e refl
