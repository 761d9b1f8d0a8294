-- Whether the log, the data and the history have room for a definition.
use Rattle.std.specs.Prelude.{◌≡◌, ℕ, ◌+◌, ◌-◌, ◌^◌, ◌<◌, ◌≤◌, min, List, Option}
use mathlib.Core.Path.{sym, subst, ◌∙◌}
use Rattle.std.proofs.Common.{arith}
use Rattle.iv_types.specs.Maps.{Map, IsWithin, used}
use Rattle.iv_types.specs.Syntax.{StatementTree}
use Rattle.iv_types.specs.declared.catalog.Definition.{Definition}
use Rattle.iv_types.specs.declared.lock.IndexEntry.{IndexEntry}
use Rattle.iv_types.specs.declared.refusal.EngineRefusal.{EngineRefusal}
use Rattle.iv_types.specs.declared.refusal.EngineRefusal.TheVariants.{LogFull, DataFull, HistoryFull}
use Rattle.txn_machine.specs.Acts as act
use Rattle.txn_machine.specs.Answers as answer
use Rattle.iv_meaning.specs.Objects.{object_of}
use Rattle.table_store.specs.Changes.{sizes}
use Rattle.txn_machine.specs.Counts.{entry_size, definition_size, text_size, most_of_history, told_need}
use Rattle.txn_machine.specs.Log.{Within, Above, block_bytes, reserved, definition_entries, definition_need}
use Rattle.txn_machine.specs.State.{State}
use Rattle.txn_machine.specs.Records.{definition_bytes}
use Rattle.txn_machine.specs.Steps.{history_bytes, made_need}
use Rattle.txn_book.specs.Books.{IsBook, total_bytes}
use Rattle.data_room.specs.Reserved.{Where}
use Rattle.core_state.specs.Stands.{Told}
use Rattle.core_state.specs.declared.state.CoreState.{CoreState}
use Rattle.core_state.proofs.Data.{tested_room, tested_few, full_of_data}
use Rattle.core_state.proofs.Counted.{counted}
use Rattle.core_state.proofs.Logged.{log_fits, log_full}
use Rattle.core_schema.specs.Making.{MayFit, MayLog, MayKeep, MayEnter}
use Rattle.core_schema.proofs.Made.{full_told, data_full_told, log_full_told}
use Rattle.core_schema.proofs.Needs as needs

-- whether the log has room for it
module _ {M : Type 0} (maps : M → ℕ → Map) (spare : M → ℕ → ℕ) (limit : M → Option ℕ) (s : State) (core : CoreState M) (i : ℕ) (statement : StatementTree) (d : Definition) (first : List IndexEntry) (text : List ℕ)
    (f : MayFit maps spare limit s core i statement d first text) (need : ℕ) (bytes : List ℕ) (bytes_are : bytes ≡ text) (need_is : need ≡ min (definition_bytes bytes + block_bytes) (2 ^ 64 - 1)) where
  told_log : need ≡ told_need (definition_need statement)
  told_log = subst (λ t. need ≡ min (definition_bytes t + block_bytes) (2 ^ 64 - 1)) (bytes_are ∙ f.text_is) need_is

  pub may_log : Within core.log_room.limit (s.log.used + reserved s.store s.log + need) → MayLog maps spare limit s core i statement d first text
  may_log fits = record { fits = f; log_room = log_fits maps spare limit core s i f.may.began need (definition_need statement) told_log fits }

  pub no_log : (why : EngineRefusal) → why ≡ LogFull s.log.used (reserved s.store s.log) need → Above core.log_room.limit (s.log.used + reserved s.store s.log + need) → Told maps spare limit s i (act.Schema statement) (answer.Refused why) core
  no_log why is passes =
      subst (λ x. Told maps spare limit s i (act.Schema statement) (answer.Refused x) core) (sym is)
      (log_full_told maps spare limit core s i statement d f.may first f.first_are s.log.used (reserved s.store s.log) need told_log (log_full maps spare limit core s i f.may.began need (definition_need statement) told_log passes))

-- whether the data have room for it
module _ {M : Type 0} (maps : M → ℕ → Map) (spare : M → ℕ → ℕ) (limit : M → Option ℕ) (s : State) (core : CoreState M) (i : ℕ) (statement : StatementTree) (d : Definition) (first : List IndexEntry) (text : List ℕ)
    (l : MayLog maps spare limit s core i statement d first text) (need : ℕ) (bytes : List ℕ) (seen : List IndexEntry) (bytes_are : bytes ≡ text) (seen_is : seen ≡ first) (need_is : need ≡ min (definition_entries bytes + sizes seen) (2 ^ 64 - 1)) where
  abbrev f : MayFit maps spare limit s core i statement d first text
  f = l.fits

  told_data : need ≡ told_need (made_need s.store statement (object_of d))
  told_data = needs.need_is maps spare limit core s i statement d f.may first f.first_are bytes (bytes_are ∙ f.text_is) need (subst (λ es. need ≡ min (definition_entries bytes + sizes es) (2 ^ 64 - 1)) seen_is need_is)

  pub may_keep : IsWithin core.data_room.limit (used (maps core.store.tables) + core.data_room.total + need) → Where core.data_room.limit (used (maps core.store.tables) + core.data_room.total + need < 2 ^ 32) → MayKeep maps spare limit s core i statement d first text
  may_keep fits small = record {
    may = f.may;
    first_are = f.first_are;
    text_is = f.text_is;
    log_room = l.log_room;
    data_room = tested_room maps spare limit core s i f.may.began need (made_need s.store statement (object_of d)) told_data fits small;
    data_small = tested_few maps spare limit core s i f.may.began need (made_need s.store statement (object_of d)) told_data fits small;
  }

  pub no_data : (all : ℕ) → Where core.data_room.limit (all ≡ used (maps core.store.tables) + core.data_room.total) → Above core.data_room.limit (all + need) → Told maps spare limit s i (act.Schema statement) (answer.Refused (DataFull all need)) core
  no_data all counted passes =
      data_full_told maps spare limit core s i statement d f.may first f.first_are l.log_room all need told_data
      (full_of_data maps spare limit core s i f.may.began all need (made_need s.store statement (object_of d)) told_data counted passes)

-- and the history
module _ {M : Type 0} (maps : M → ℕ → Map) (spare : M → ℕ → ℕ) (limit : M → Option ℕ) (s : State) (core : CoreState M) (i : ℕ) (statement : StatementTree) (d : Definition) (first : List IndexEntry) (text : List ℕ)
    (f : MayKeep maps spare limit s core i statement d first text) (good : IsBook core.book) (kept need : ℕ) (bytes : List ℕ) (kept_is : kept ≡ total_bytes core.book) (bytes_are : bytes ≡ text) (need_is : need ≡ min (entry_size + text_size bytes) (2 ^ 64 - 1)) where
  told_is : need ≡ min (entry_size + definition_size statement) (2 ^ 64 - 1)
  told_is = subst (λ t. need ≡ min (entry_size + text_size t) (2 ^ 64 - 1)) (bytes_are ∙ f.text_is) need_is

  counts : total_bytes core.book ≡ history_bytes s
  counts = counted maps spare limit core s i f.may.began good

  pub may_enter : kept + need ≤ most_of_history → MayEnter maps spare limit s core i statement d first text need
  may_enter fits = record {
    may = f.may;
    first_are = f.first_are;
    text_is = f.text_is;
    log_room = f.log_room;
    data_room = f.data_room;
    data_small = f.data_small;
    need_is = (let told = told_is in omega (arith, told, fits));
    room = (let same = counts in omega (arith, same, kept_is, fits));
  }

  pub too_full : (kept + need ≤ most_of_history → ⊥) → Told maps spare limit s i (act.Schema statement) (answer.Refused (HistoryFull kept need)) core
  too_full full = full_told maps spare limit core s i statement d f.may first f.first_are f.log_room f.data_room good kept need kept_is told_is full
