-- A Put that is refused because it counts too much, and one that is not.
use Rattle.std.specs.Prelude.{◌≡◌, ℕ, ◌+◌, ◌≤◌, List, Option, Some, refl}
use mathlib.Core.Path.{sym, ap, subst, ◌∙◌}
use Rattle.std.proofs.Common.{arith}
use Rattle.iv_types.specs.Maps.{Map}
use Rattle.iv_types.specs.declared.lock.Change.{Change}
use Rattle.iv_types.specs.declared.lock.GroupDelta.{GroupDelta}
use Rattle.iv_types.specs.declared.lock.Want.{Want}
use Rattle.iv_types.specs.declared.refusal.EngineRefusal.{EngineRefusal}
use Rattle.iv_types.specs.declared.refusal.EngineRefusal.TheVariants.{TxnFull, LogFull, DataFull, HistoryFull}
use Rattle.txn_machine.specs.Acts as act
use Rattle.txn_machine.specs.Answers as answer
use Rattle.txn_machine.specs.Counts.{put_size, kept_change_size, transaction_size, told_need}
use Rattle.txn_machine.specs.Deltas.{RowChange, owed}
use Rattle.txn_machine.specs.Log.{write_need, change_need}
use Rattle.txn_machine.specs.ViewLaws.{IsRight}
use Rattle.iv_meaning.specs.Objects as defined
use Rattle.data_store.specs.Contents.{Contents, contents_of}
use Rattle.data_store.specs.Held.{IsHeld}
use Rattle.view_delta.specs.Owing.{RowsFit}
use Rattle.view_delta.proofs.Readable.{found_fit}
use Rattle.txn_machine.specs.RowChanges.{row_change}
use Rattle.txn_machine.specs.State.{State}
use Rattle.txn_machine.specs.Steps.{IsFree, FitsLog, IsLogFull, FitsData, put_owed, put_need, log_need, data_need, history_bytes}
use Rattle.txn_machine.specs.Store.{change_at, schema_of, now}
use Rattle.txn_book.specs.Books.{IsBook, OfOpen, total_bytes}
use Rattle.txn_book.specs.Opens.{open_at}
use Rattle.txn_book.specs.declared.open_table.Open.{Open as BookOpen}
use Rattle.core_state.specs.Stands.{Told}
use Rattle.core_state.specs.declared.limits.TheConstants.{MOST_OF_TRANSACTION, MOST_OF_HISTORY}
use Rattle.core_state.specs.declared.state.CoreState.{CoreState}
use Rattle.core_state.proofs.Data.{tested_room, tested_few, full_of_data}
use Rattle.core_state.proofs.Counted.{counted}
use Rattle.core_state.proofs.Logged.{log_fits, log_full}
use Rattle.core_state.proofs.Unchanged.{unchanged_told}
use Rattle.core_effects.proofs.Opened.{Has}
use Rattle.core_changes.specs.Putting.{IsFreePut, CanPut, LogFits, DataFits, IsFull}
use Rattle.core_changes.proofs.Making.{mine}
use Rattle.core_changes.proofs.Puts.{open_here, right}

-- its rows fit
pub rows_here : {M : Type 0} (maps : M → ℕ → Map) (spare : M → ℕ → ℕ) (limit : M → Option ℕ) (core : CoreState M) (s : State) (i : ℕ) (change : Change) (wants : List Want) → IsFreePut maps spare limit s core i change wants → RowsFit (defined.schema_of core.store.catalog) change
rows_here maps spare limit core s i change wants p = found_fit core.store.catalog (maps core.store.tables) change s.store.rows (record {
  holds = p.began.holds.stored.tables;
  right = subst (λ o. IsRight o s.store.rows (row_change change)) (sym p.began.holds.stored.objects) (right maps spare limit core s i change wants p);
})

module _ {M : Type 0} (maps : M → ℕ → Map) (spare : M → ℕ → ℕ) (limit : M → Option ℕ) (core : CoreState M) (s : State) (i : ℕ) (change : Change) (wants : List Want) (p : IsFreePut maps spare limit s core i change wants) (good : IsBook core.book)
    (deltas : List GroupDelta) (gives : (x : Contents) → IsHeld core.store.catalog (maps core.store.tables) core.store.views x → IsRight x.objects x.rows (row_change change) → deltas ≡ owed x.objects x.rows (row_change change)) (seen : List GroupDelta) (seen_is : seen ≡ deltas) (seen_then : List GroupDelta) (seen_then_is : seen_then ≡ deltas)
    (seen_too : List GroupDelta) (seen_too_is : seen_too ≡ deltas) (bytes log_bytes data_bytes entry_bytes : ℕ) (counts_bytes : bytes ≡ told_need (put_size (defined.schema_of core.store.catalog) (row_change change) seen))
    (counts_log : log_bytes ≡ told_need (write_need (defined.schema_of core.store.catalog) (row_change change) seen_then)) (counts_data : data_bytes ≡ told_need (change_need (defined.schema_of core.store.catalog) (row_change change) seen_too)) (counts_entry : entry_bytes ≡ told_need (kept_change_size (defined.schema_of core.store.catalog) (row_change change))) where
  abbrev made : RowChange
  made = change_at s.store (change.table, change.key) change.after

  abbrev its_act : act.Act
  its_act = act.Put change.table change.key change.after

  owed_is : deltas ≡ put_owed s.store (row_change change)
  owed_is = gives (contents_of s.store) p.began.holds.stored (right maps spare limit core s i change wants p)

  bytes_are : bytes ≡ told_need (put_size (schema_of s.store) (row_change change) deltas)
  bytes_are = counts_bytes ∙ (ap (λ ds. told_need (put_size (defined.schema_of core.store.catalog) (row_change change) ds)) seen_is ∙ ap (λ o. told_need (put_size o (row_change change) deltas)) p.began.holds.stored.objects)

  entry_are : entry_bytes ≡ told_need (kept_change_size (schema_of s.store) (row_change change))
  entry_are = counts_entry ∙ ap (λ o. told_need (kept_change_size o (row_change change))) p.began.holds.stored.objects

  data_are : data_bytes ≡ told_need (data_need s.store (row_change change))
  data_are =
      counts_data ∙ (ap (λ ds. told_need (change_need (defined.schema_of core.store.catalog) (row_change change) ds)) (seen_too_is ∙ owed_is) ∙ ap (λ o. told_need (change_need o (row_change change) (put_owed s.store (row_change change)))) p.began.holds.stored.objects)

  log_are : log_bytes ≡ told_need (log_need s.store (row_change change))
  log_are =
      counts_log ∙ (ap (λ ds. told_need (write_need (defined.schema_of core.store.catalog) (row_change change) ds)) (seen_then_is ∙ owed_is) ∙ ap (λ o. told_need (write_need o (row_change change) (put_owed s.store (row_change change)))) p.began.holds.stored.objects)

  fits_log : LogFits core.log_room log_bytes → FitsLog s (log_need s.store (row_change change))
  fits_log fits = log_fits maps spare limit core s i p.began log_bytes (log_need s.store (row_change change)) log_are (fits s.store s.log p.began.reserves.log_room)

  own_txn : Has (schema_of s.store) (open_at core.book.opens i) (now s.store i) (s.log.logged i)
  own_txn = mine maps spare limit core s i p.began (open_here maps spare limit core s i change wants p)

  counts : own_txn.txn.txn_bytes ≡ transaction_size (schema_of s.store) (now s.store i)
  counts = own_txn.is.txn_bytes

  all_counted : total_bytes core.book ≡ history_bytes s
  all_counted = counted maps spare limit core s i p.began good

  needs : put_size (schema_of s.store) (row_change change) deltas ≡ put_need s.store made
  needs = ap (put_size (schema_of s.store) (row_change change)) owed_is ∙ ap (put_need s.store) p.is

  needs_entry : kept_change_size (schema_of s.store) (row_change change) ≡ kept_change_size (schema_of s.store) made
  needs_entry = ap (kept_change_size (schema_of s.store)) p.is

  -- within the limits
  pub can_put : OfOpen core.book i (λ o. o.txn_bytes + bytes ≤ MOST_OF_TRANSACTION) → LogFits core.log_room log_bytes → DataFits maps core data_bytes → total_bytes core.book + entry_bytes ≤ MOST_OF_HISTORY → CanPut maps spare limit s core i change wants deltas bytes entry_bytes
  can_put room log_room data_room history_room =
      let within = room own_txn.txn own_txn.there in
      record {
        puts = p;
        owed_is = owed_is;
        bytes_are = (let e : bytes ≡ put_size (schema_of s.store) (row_change change) deltas = omega (arith, within, bytes_are) in e) ∙ ap (put_size (schema_of s.store) (row_change change)) owed_is;
        entry_bytes_are = omega (arith, history_room, entry_are);
        room = let c = counts in omega (arith, within, c);
        log_room = fits_log log_room;
        data_room = tested_room maps spare limit core s i p.began data_bytes (data_need s.store (row_change change)) data_are data_room.0 data_room.1;
        data_small = tested_few maps spare limit core s i p.began data_bytes (data_need s.store (row_change change)) data_are data_room.0 data_room.1;
        history_room = let c = all_counted in omega (arith, history_room, c);
      }

  -- what is told otherwise
  pub full_told : (why : EngineRefusal) → IsFull maps core i bytes log_bytes data_bytes entry_bytes why → Told maps spare limit s i its_act (answer.Refused why) core
  full_told (TxnFull kept need) (need_is, (o, there, (kept_is, full))) =
      let one : Some o ≡ Some own_txn.txn = sym there ∙ own_txn.there in
      let same : o ≡ own_txn.txn = cc in
      let all : kept ≡ transaction_size (schema_of s.store) (now s.store i) = kept_is ∙ (ap (λ (x : BookOpen). x.txn_bytes) same ∙ counts) in
      let n = needs in
      unchanged_told maps spare limit core s i its_act (answer.Refused (TxnFull kept need)) p.began (
        record {
          free = subst (IsFree s.store i) p.wants_are p.free;
          need_is = need_is ∙ (bytes_are ∙ ap told_need needs);
          full = record { kept_is = all; full = omega (arith, full, need_is, bytes_are, n) };
        },
        refl,
      ) refl refl refl refl
  full_told (LogFull used_bytes reserved_bytes need) (need_is, room, full) =
      let within = room own_txn.txn own_txn.there in
      let c = counts in
      let n = needs in
      let told = full s.store s.log p.began.reserves.log_room in
      let exact : need ≡ told_need (log_need s.store made) = need_is ∙ (log_are ∙ ap (λ x. told_need (log_need s.store x)) p.is) in
      unchanged_told maps spare limit core s i its_act (answer.Refused (LogFull used_bytes reserved_bytes need)) p.began (
        record {
          free = subst (IsFree s.store i) p.wants_are p.free;
          room = omega (arith, within, bytes_are, n, c);
          need_is = exact;
          full = subst (λ u. IsLogFull s (log_need s.store made) u reserved_bytes) (sym told.0)
              (subst (λ r. IsLogFull s (log_need s.store made) s.log.used r) (sym told.1) (log_full maps spare limit core s i p.began need (log_need s.store made) exact told.2));
        },
        refl,
      ) refl refl refl refl
  full_told (DataFull all need) (need_is, room, log_room, all_is, full) =
      let within = room own_txn.txn own_txn.there in
      let c = counts in
      let n = needs in
      let exact : need ≡ told_need (data_need s.store made) = need_is ∙ (data_are ∙ ap (λ x. told_need (data_need s.store x)) p.is) in
      unchanged_told maps spare limit core s i its_act (answer.Refused (DataFull all need)) p.began (
        record {
          free = subst (IsFree s.store i) p.wants_are p.free;
          room = omega (arith, within, bytes_are, n, c);
          log_room = subst (λ x. FitsLog s (log_need s.store x)) p.is (fits_log log_room);
          need_is = exact;
          full = full_of_data maps spare limit core s i p.began all need (data_need s.store made) exact all_is full;
        },
        refl,
      ) refl refl refl refl
  full_told (HistoryFull kept need) (need_is, room, log_room, data_room, kept_is, full) =
      let within = room own_txn.txn own_txn.there in
      let c = counts in
      let n = needs in
      let e = needs_entry in
      unchanged_told maps spare limit core s i its_act (answer.Refused (HistoryFull kept need)) p.began (
        record {
          free = subst (IsFree s.store i) p.wants_are p.free;
          room = omega (arith, within, bytes_are, n, c);
          log_room = subst (λ x. FitsLog s (log_need s.store x)) p.is (fits_log log_room);
          data_room = subst (λ x. FitsData s (data_need s.store x)) p.is (tested_room maps spare limit core s i p.began data_bytes (data_need s.store (row_change change)) data_are data_room.0 data_room.1);
          need_is = need_is ∙ (entry_are ∙ ap told_need needs_entry);
          full = record { kept_is = kept_is ∙ all_counted; full = omega (arith, full, need_is, entry_are, e) };
        },
        refl,
      ) refl refl refl refl
  full_told _ none = absurd none
