-- The record of a definition: that there is room for it, and what is given.
use Rattle.std.specs.Prelude.{◌≡◌, ◌≤◌, ◌^◌, ℕ, ◌+◌, true, false, List, [], ◌∷◌, Option, Some, None}
use mathlib.Core.Path.{refl, sym, ap, subst, ◌∙◌}
use mathlib.Core.Logic.{inl, inr}
use Rattle.std.proofs.Common.{arith}
use Rattle.iv_types.specs.Maps.{Map}
use Rattle.iv_types.specs.Printing.{statement_text}
use Rattle.iv_types.specs.Syntax.{StatementTree}
use Rattle.iv_types.specs.declared.catalog.Definition.{Definition as AnyDefinition}
use Rattle.iv_types.specs.declared.lock.Change.{Change}
use Rattle.iv_types.specs.declared.lock.IndexEntry.{IndexEntry}
use Rattle.iv_types.specs.declared.refusal.EngineRefusal.TheVariants as refusal
use Rattle.iv_meaning.specs.Objects.{object_of}
use Rattle.txn_machine.specs.Acts as act
use Rattle.txn_machine.specs.Acts.{Act}
use Rattle.txn_machine.specs.Answers as answer
use Rattle.txn_machine.specs.Answers.{Answer}
use Rattle.txn_machine.specs.Log.{Within, block_bytes, reserved, definition_need}
use Rattle.txn_machine.specs.Records.{Record, Definition, record_bytes}
use Rattle.txn_machine.specs.State.{State, is_fault}
use Rattle.txn_machine.specs.Steps.{Says, DefinesIt}
use Rattle.txn_machine.specs.Store.{Effect, Defines, committed, schema_of}
use Rattle.core_journal.specs.Records.{Records, with_one, flushed_all, recorded_all, records_after}
use Rattle.core_journal.specs.Cuts.{Cut, cut_of}
use Rattle.core_state.specs.Stands.{Began, Told}
use Rattle.core_state.specs.declared.state.CoreState.{CoreState}
use Rattle.core_state.proofs.Logged.{log_limit_of}
use Rattle.core_recording.specs.Appending.{CanAppend}
use Rattle.core_recording.specs.Giving.{IsBehind, LeavesOne, Gave, GaveUp, Did}
use Rattle.core_recording.proofs.Used.{small_next}
use Rattle.core_schema.specs.Making.{MayEnter, IsReady}
use Rattle.core_schema.proofs.Entered.{defines_it}
use Rattle.core_schema.proofs.Needs.{text_few}

-- ---- nothing is given

abbrev IsLeft : Answer → Type 0
IsLeft (answer.Committed number) = ⊥
IsLeft _ = Unit {0}

no_effects : (s : State) (i : ℕ) (statement : StatementTree) (said : Answer) (es : List Effect) → IsLeft said → Says s i (act.Schema statement) said es → es ≡ []
no_effects s i statement (answer.Blocked sessions) es left says = absurd says.0
no_effects s i statement (answer.Committed number) es left says = absurd left
no_effects s i statement (answer.Denied why) es left says = says.1
no_effects s i statement (answer.Refused (refusal.Deadlock cycle)) es left says = absurd says.0
no_effects s i statement (answer.Refused refusal.NoMemory) es left says = says.1
no_effects s i statement (answer.Refused refusal.DiskFault) es left says = says.0
no_effects s i statement (answer.Refused (refusal.SchemaBusy busy)) es left says = says.1
no_effects s i statement (answer.Refused (refusal.LogFull used reserved_bytes need)) es left says = says.1
no_effects s i statement (answer.Refused (refusal.DataFull used need)) es left says = says.1
no_effects s i statement (answer.Refused (refusal.HistoryFull kept need)) es left says = says.1
no_effects s i statement said es left says = absurd says

no_records : (s : State) (i : ℕ) (statement : StatementTree) (rs : Records) (said : Answer) (es : List Effect) → IsLeft said → is_fault said ≡ false → Says s i (act.Schema statement) said es → records_after s i (act.Schema statement) said es rs ≡ rs
no_records s i statement rs (answer.Refused refusal.DiskFault) es left fine says = absurd (let bad : true ≡ false = fine in cc)
no_records s i statement rs said es left fine says = ap (λ xs. recorded_all s.store i (act.Schema statement) xs s.log rs) (no_effects s i statement said es left says)

-- it is ready under the number that its definition has
pub at_number : {M : Type 0} (maps : M → ℕ → Map) (spare : M → ℕ → ℕ) (limit : M → Option ℕ) {s : State} {core : CoreState M} {i : ℕ} {statement : StatementTree} {n number : ℕ} {first parts : List IndexEntry} {changes : List Change} {need : ℕ}
    → number ≡ n → IsReady maps spare limit s core i statement n first parts changes need → IsReady maps spare limit s core i statement number first parts changes need
at_number maps spare limit {s = s} {core = core} {i = i} {statement = statement} {first = first} {parts = parts} {changes = changes} {need = need} e r = subst (λ k. IsReady maps spare limit s core i statement k first parts changes need) (sym e) r

module _ {M J : Type 0} (maps : M → ℕ → Map) (spare : M → ℕ → ℕ) (limit : M → Option ℕ) (has : J → Records → Type 0) (area : J → Option ℕ) (core : CoreState M) (journal : J) (s : State) (i : ℕ) (statement : StatementTree) where
  abbrev pub its_record : Record
  its_record = Definition ((committed s.store).number + 1) i (statement_text statement)

  module _ (d : AnyDefinition) (first : List IndexEntry) (text : List ℕ) (need : ℕ) (m : MayEnter maps spare limit s core i statement d first text need) where
    -- its record and the end of its block take no more than what it needs of the log
    room_left : (n : ℕ) → n ≤ definition_need statement → (rs : Records) → IsBehind maps spare limit has area core journal s.log rs → Within (area journal) (rs.used + n)
    room_left n few rs behind =
        subst (λ o. Within o (rs.used + n)) (sym behind.same_limit) (subst (λ u. Within core.log_room.limit (u + n)) (sym behind.used)
        (fewer core.log_room.limit (subst (λ o. Within o (s.log.used + reserved s.store s.log + definition_need statement)) (log_limit_of maps spare limit core s i m.may.began) m.log_room)))
      where
        fewer : (most : Option ℕ) → Within most (s.log.used + reserved s.store s.log + definition_need statement) → Within most (s.log.used + n)
        fewer None fits = tt
        fewer (Some most) fits = omega (arith, fits, few)

    pub can_record : (rs : Records) → IsBehind maps spare limit has area core journal s.log rs → CanAppend (area journal) (schema_of s.store) core.next its_record rs
    can_record rs behind = record {
      short = text_few maps spare limit core s i statement d m.may m.data_small;
      numbered = subst (λ n. n ≤ 2 ^ 63) (sym m.may.began.holds.next) (small_next maps spare limit core s i m.may.began);
      room = room_left (record_bytes (schema_of s.store) its_record) (omega arith) rs behind;
    }

    pub can_flush : (rs : Records) → IsBehind maps spare limit has area core journal s.log rs → Within (area journal) (rs.used + record_bytes (schema_of s.store) its_record + block_bytes)
    can_flush rs behind =
        let one : rs.used + (record_bytes (schema_of s.store) its_record + block_bytes) ≡ rs.used + record_bytes (schema_of s.store) its_record + block_bytes = omega arith in
        subst (Within (area journal)) one (room_left (record_bytes (schema_of s.store) its_record + block_bytes) (omega arith) rs behind)

module _ {M J X : Type 0} (maps : M → ℕ → Map) (spare : M → ℕ → ℕ) (limit : M → Option ℕ) (has : J → Records → Type 0) (area : J → Option ℕ) (medium : J → X) (leaves : X → X → Cut → Cut → Type 0) (core : CoreState M) (journal : J) (s : State) (i : ℕ)
    (statement : StatementTree) where
  -- what was told where nothing was defined gives nothing
  pub left_alone : (said : Answer) → IsLeft said → Told maps spare limit s i (act.Schema statement) said core → Did maps spare limit has area medium leaves s i (act.Schema statement) said core journal core journal
  left_alone said left told = inl (record {
    told = told;
    gave = λ rs behind. (subst (has journal) (sym (no_records s i statement rs said told.effects left told.no_fault told.says)) behind.has_them, inl refl);
    same_limit = refl;
  })

  -- ---- a definition

  -- its record under this number, on the disk with those that wait
  abbrev with_it : ℕ → Records → Records
  with_it number rs = flushed_all (with_one (schema_of s.store) (record { number = number; of = Definition ((committed s.store).number + 1) i (statement_text statement) }) rs)

  -- a crash leaves what the medium had, or that
  abbrev pub Left : J → Type 0
  Left after = (rs : Records) → has journal rs → leaves (medium journal) (medium after) (cut_of rs) (cut_of (with_it core.next rs))

  module _ (d : AnyDefinition) (first : List IndexEntry) (text : List ℕ) (need : ℕ) (m : MayEnter maps spare limit s core i statement d first text need) where
    -- it is flushed, and then entered
    pub gave_definition : (number : ℕ) (then : CoreState M) (after : J) → (told : Told maps spare limit s i (act.Schema statement) (answer.Committed number) then) → ((rs : Records) → has journal rs → has after (with_it core.next rs)) → Left after → area after ≡ area journal
        → Gave maps spare limit has area medium leaves s i (act.Schema statement) (answer.Committed number) core journal then after
    gave_definition number then after told given left_one same =
        let says : DefinesIt s statement number told.effects = told.says in
        record {
          told = told;
          gave = λ rs behind.
              subst (λ xs. has after xs × LeavesOne medium leaves journal after (cut_of rs) (cut_of xs)) ((λ x. with_it (m.may.began.holds.next x) rs) ∙ sym (ap (λ (xs : List Effect). recorded_all s.store i (act.Schema statement) xs s.log rs) says.effects))
              (given rs behind.has_them, inr (left_one rs behind.has_them));
          same_limit = same;
        }

    -- or the disk failed, and nothing is defined
    pub gave_up : (then : CoreState M) (after : J) → Began maps spare limit then s i → Left after → area after ≡ area journal
        → GaveUp maps spare limit has area medium leaves s i (act.Schema statement) (answer.Refused refusal.DiskFault) core journal then after
    gave_up then after began left_one same = record {
      said_is = refl;
      failed = record { began = began; says = (refl, (committed s.store).number + 1, Defines (object_of d) ∷ [], defines_it maps spare limit s i statement d first text need core m ((committed s.store).number + 1) refl); appends = refl };
      left = λ rs behind. inr (subst (λ n. leaves (medium journal) (medium after) (cut_of rs) (cut_of (with_it n rs))) m.may.began.holds.next (left_one rs behind.has_them));
      same_limit = same;
    }
