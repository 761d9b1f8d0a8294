-- What is read of a store at the number of an open snapshot is what a Peek is answered.
use Rattle.std.specs.Prelude.{◌≡◌, ℕ, List, Option, Some, None}
use mathlib.Core.Path.{refl, sym, ap, subst, ◌∙◌}
use Rattle.iv_types.specs.declared.statement.Mode.TheVariants.{Snapshot}
use Rattle.iv_types.specs.declared.value.Interval.{Interval}
use Rattle.iv_types.specs.Definitions.{Definitions}
use Rattle.iv_types.specs.Maps.{Map}
use Rattle.iv_meaning.specs.Schema.{Schema, Object, table, index, view, numbered}
use Rattle.iv_meaning.specs.Database.{Row, Database}
use Rattle.iv_meaning.specs.View.{read, object_rows}
use Rattle.iv_meaning.specs.History.{state_at}
use Rattle.txn_machine.specs.Keeping.{Open}
use Rattle.txn_machine.specs.Store.{schema_of}
use Rattle.txn_machine.specs.State.{State}
use Rattle.txn_machine.specs.May.{IsOpen, MayPeek}
use Rattle.txn_machine.specs.Steps.{FindsIn, Peeks}
use Rattle.txn_machine.specs.Laws.{IsReached}
use Rattle.txn_machine.proofs.Looking.{view_laws}
use Rattle.txn_machine.proofs.Listing.{view_read}
use Rattle.txn_machine.proofs.Marks.{snap_of}
use Rattle.txn_machine.proofs.Peeking.{snapshot_readable_law}
use Rattle.txn_machine.proofs.Shapes.{stored_row_law}
use Rattle.txn_machine.proofs.Stepping.{now_is}
use Rattle.ghost_rows.specs.State as views
use Rattle.data_store.specs.Contents.{Contents, contents_of}
use Rattle.data_store.specs.Held.{IsHeld}
use Rattle.data_store.specs.Reading.{CanBeRead}
use Rattle.data_store.specs.Past.{Pendings, RowVersions}
use Rattle.data_store.specs.ViewPast.{DeltaVersions}
use Rattle.data_store.specs.Machine.{IsPast}
use Rattle.data_store.specs.Peeking.{WereAll, CanPeek}
use Rattle.data_store.proofs.RowsThen.{were_rows}
use Rattle.data_store.proofs.ViewsThen.{view_then, numbers_then, stored_then, were_views}

module _ (ds : Definitions) (maps : ℕ → Map) (state : views.State) (s : State) (r : IsReached s) (held : IsHeld ds maps state (contents_of s.store))
    (rows : RowVersions) (deltas : DeltaVersions) (pending : Pendings) (past : IsPast rows deltas pending s.store) (i : ℕ) (o : IsOpen s.store i) (snap : o.transaction.mode ≡ Snapshot) where
  abbrev then_ : Database
  then_ = state_at s.store.origin s.store.history o.transaction.number

  pub readable_now : CanBeRead ds maps state (contents_of s.store)
  readable_now = record { held = held; stored = stored_row_law s r }

  -- what there was at its number
  pub were_all : WereAll o.transaction.number rows deltas pending ds maps state (contents_of s.store) (state_at s.store.origin s.store.history o.transaction.number).rows (view_then s r rows deltas pending past i o snap)
  were_all =
      let ok = snap_of s r i o snap in record {
        tables = λ t is. were_rows ds maps state s r held rows deltas pending past t is o.transaction.number ok.marked ok.since ok.below;
        views = λ k v is. were_views s r rows deltas pending past i o snap ds maps state held k v is;
        stored = stored_then s r rows deltas pending past i o snap;
      }

  pub can_peek : (number : ℕ) → MayPeek (numbered (schema_of s.store) number) → CanPeek o.transaction.number rows deltas pending ds maps state number
  can_peek number may = record {
    contents = contents_of s.store;
    readable = readable_now;
    rows = (state_at s.store.origin s.store.history o.transaction.number).rows;
    past = view_then s r rows deltas pending past i o snap;
    were = were_all;
    may = may;
  }

  read_by : (number : ℕ) (interval : Interval) (answered : List Row) (x : Option Object) → numbered (schema_of s.store) number ≡ x → MayPeek x
      → FindsIn (state_at s.store.origin s.store.history o.transaction.number) (view_then s r rows deltas pending past i o snap) x number interval answered
      → read (state_at s.store.origin s.store.history o.transaction.number) number interval ≡ answered
  read_by number interval answered None is may found = absurd may
  read_by number interval answered (Some (index x)) is may found = absurd may
  read_by number interval answered (Some (table t)) is may found = found
  read_by number interval answered (Some (view v)) is may found =
      let readable = (snapshot_readable_law s r).1 i o snap in
      let of : numbered (state_at s.store.origin s.store.history o.transaction.number).schema number ≡ Some (view v) = ap (λ (x : Schema). numbered x number) readable.1 ∙ is in
      ap (λ x. object_rows (state_at s.store.origin s.store.history o.transaction.number) x interval) of
      ∙ view_read (state_at s.store.origin s.store.history o.transaction.number) readable.0.sound number v of interval (view_then s r rows deltas pending past i o snap)
      (λ k lies column. numbers_then s r rows deltas pending past i o snap (v.number, k) column) answered found

  -- what is found by what there was then is what a Peek is answered
  pub peeked_by : (number : ℕ) (interval : Interval) (answered : List Row) → MayPeek (numbered (schema_of s.store) number)
      → FindsIn (state_at s.store.origin s.store.history o.transaction.number) (view_then s r rows deltas pending past i o snap) (numbered (schema_of s.store) number) number interval answered → Peeks s.store i number interval answered
  peeked_by number interval answered may found =
      subst (λ (t : Open). read (state_at s.store.origin s.store.history t.number) number interval ≡ answered) (sym (now_is view_laws s.store i o.transaction o.is_open))
      (read_by number interval answered (numbered (schema_of s.store) number) refl may found)

  -- a Peek is answered so
  pub peeked : (number : ℕ) (interval : Interval) (answered : List Row) → MayPeek (numbered (schema_of s.store) number)
      → ((c : Contents) (db : Database) (before : _) → CanBeRead ds maps state c → db.schema ≡ c.objects → WereAll o.transaction.number rows deltas pending ds maps state c db.rows before → FindsIn db before (numbered c.objects number) number interval answered)
      → Peeks s.store i number interval answered
  peeked number interval answered may found =
      peeked_by number interval answered may
      (found (contents_of s.store) (state_at s.store.origin s.store.history o.transaction.number) (view_then s r rows deltas pending past i o snap) readable_now ((snapshot_readable_law s r).1 i o snap).1 were_all)
