-- Effects one after another keep what holds, and the state that is opened begins with it.
use Rattle.std.specs.Prelude.{◌≡◌, ◌≢◌, ℕ, true, ◌+◌, ◌<◌, List, [], ◌∷◌, ◌++◌, length, ℤ, pos, ◌+ℤ◌, Option, Some, None}
use mathlib.Core.Path.{refl, sym, ap, subst, ◌∙◌}
use Rattle.std.proofs.Common.{arith}
use Rattle.std.proofs.lemmas.Int.{ints}
use Rattle.std.specs.FinMap.{get}
use Rattle.iv_types.specs.declared.lock.GroupDelta.{GroupDelta}
use Rattle.iv_types.specs.declared.lock.LockMode.TheVariants.{Increment}
use Rattle.iv_types.specs.Encoding.{IsHuge}
use Rattle.table_laws.specs.Place.{Place}
use Rattle.table_laws.specs.Kept.{redo, Touches}
use Rattle.table_laws.proofs.Place.{place_cmp_total, place_cmp-IsAntisymmetric}
use Rattle.table_laws.proofs.Tables.{same_table}
use Rattle.table_laws.proofs.Stored.{stored_at_first}
use Rattle.iv_meaning.specs.Schema.{Schema, Object}
use Rattle.iv_meaning.specs.Database.{Rows, Database}
use Rattle.iv_meaning.specs.Statement.{defines}
use Rattle.iv_meaning.specs.History.{Entry}
use Rattle.iv_meaning.specs.Escrow.{IsSession, IsAllowed, lo, hi}
use Rattle.txn_machine.specs.Locks.{IsInTheWay}
use Rattle.txn_machine.specs.Deltas.{due, place_of, worth, columns_of}
use Rattle.txn_machine.specs.Keeping.{KeptStep, Put, Pay, changes_of, increments, Open, begun, idle}
use Rattle.txn_machine.specs.Stored.{ViewRows, stored_number, add_all}
use Rattle.txn_machine.specs.Ghosts.{Holds}
use Rattle.txn_machine.specs.Store.{Store, Views, opened, committed, schema_of, now, changes_by, locks_of, account, change_at, with_txn, with_entry, paid_first, undone, entry_changes, least_snapshot, Effect, Opens, Takes, Notes, Writes, Pays, Ghosts, Undoes, Loses, Ends, Commits, Defines, Cleans, Prunes, does, run}
use Rattle.txn_machine.specs.Steps.{NoneIsOpen}
use Rattle.txn_machine.specs.ViewLaws.{AreSound, ViewLaws}
use Rattle.txn_machine.proofs.Basics.{meet_none}
use Rattle.txn_machine.proofs.Columns.{paid_in, stored_add_all}
use Rattle.txn_machine.proofs.Bounds.{over_zero}
use Rattle.txn_machine.proofs.Entered.{IsProper, IsHistoryOf, fold_push, history_push, keep_changes, entry_changes_right}
use Rattle.txn_machine.proofs.Good.{HoldsFor, the_open, PaysOn, TxnGood, all_paid, all_lo, all_hi, Good, base_sound}
use Rattle.txn_machine.proofs.Keeps.{shift, leaves, stays, takes, writes, pays, undoes, commits, ghosts, cleans, prunes}
use Rattle.std.specs.List.{Contains}

module _ (views : Views) (value : Schema → Rows → Place → ℕ → ℤ) (laws : ViewLaws views value) where
  abbrev pub IsGood : Store → Type 0
  IsGood s = Good views value laws (committed s) s

  abbrev pub CanPay : Store → ℕ → List GroupDelta → Type 0
  CanPay s i [] = Unit {0}
  CanPay s i (d ∷ ds) = (get s.view (place_of d) ≢ None) × Holds (locks_of s i) Increment d.view d.group
      × ((column : ℕ) → column < length (columns_of d) → IsAllowed (account s (value (schema_of s) (committed s).rows) (place_of d) column) i (worth column d))

  -- the definition may come
  pub record CanDefine (s : Store) (o : Object) : Type 0 where
    pub none_open : NoneIsOpen s
    pub sound : AreSound (schema_of s ++ o ∷ []) (committed s).rows
    pub in_range : (p : Place) (column : ℕ) → IsHuge (value (schema_of s ++ o ∷ []) (committed s).rows p column)

  -- when an effect may come
  abbrev pub Can : Store → ℕ → Effect → Type 0
  Can s i (Opens mode) = IsSession i × (s.open_of i ≡ None)
  Can s i (Takes wants) = IsSession i × ((j : ℕ) → IsInTheWay (locks_of s) i wants j → ⊥)
  Can s i (Notes n) = IsSession i
  Can s i (Writes key new) = IsSession i × ((now s i).owed ≡ []) × HoldsFor (schema_of s) (locks_of s i) (change_at s key new) × IsProper (schema_of s) (change_at s key new)
  Can s i Pays = IsSession i × CanPay s i (now s i).owed
  Can s i (Ghosts p n) = (get s.view p ≡ None) × IsSession i × ((d : GroupDelta) × Contains (now s i).owed d × (p ≡ place_of d) × (n ≡ length (columns_of d)))
  Can s i Undoes = IsSession i
  Can s i Loses = IsSession i
  Can s i Ends = IsSession i × ((now s i).kept ≡ [])
  Can s i Commits = IsSession i × ((now s i).owed ≡ [])
  Can s i (Defines o) = CanDefine s o
  Can s i (Cleans p) = (value (schema_of s) (committed s).rows p 0 ≡ pos 0) × ((j : ℕ) → IsSession j → Holds (locks_of s j) Increment p.0 p.1 → ⊥)
  Can s i Prunes = Unit {0}

  pub none_kept : (s : Store) (i : ℕ) → s.open_of i ≡ None → (now s i).kept ≡ []
  none_kept s i e = ap (λ (o : Option Open). (the_open o).kept) e

  pays_first : (s : Store) (i : ℕ) → IsGood s → IsSession i → (owed : List GroupDelta) → (now s i).owed ≡ owed → CanPay s i owed → IsGood (paid_first s i (now s i) owed)
  pays_first s i g is [] e can = g
  pays_first s i g is (d ∷ ds) e can = pays views value laws (committed s) s g i is d ds e can.0 can.1 can.2

  undoes_kept : (s : Store) (i : ℕ) → IsGood s → IsSession i → (ks : List KeptStep) → (now s i).kept ≡ ks → IsGood (undone s i (now s i) ks)
  undoes_kept s i g is [] e = g
  undoes_kept s i g is (Put c ds ∷ ks) e = undoes views value laws (committed s) s g i is (Put c ds ∷ ks) e
  undoes_kept s i g is (Pay d ∷ ks) e = undoes views value laws (committed s) s g i is (Pay d ∷ ks) e

  pub committed_after : (s : Store) (i : ℕ) → committed (with_txn (with_entry s i (entry_changes (now s i).kept)) i None) ≡ record (committed s) { number = (committed s).number + 1; rows = redo (changes_by s i) (committed s).rows }
  committed_after s i =
      let e : Entry = record { number = (committed s).number + 1; session = i; kept = entry_changes (now s i).kept } in
      fold_push s.history e s.origin ∙ ap (λ (d : Database). record d { number = (committed s).number + 1 }) (keep_changes (changes_by s i) (committed s))

  pub defined : (s : Store) (i : ℕ) (o : Object) → committed (with_entry s i (defines o ∷ [])) ≡ record (committed s) { number = (committed s).number + 1; schema = schema_of s ++ o ∷ [] }
  defined s i o = fold_push s.history (record { number = (committed s).number + 1; session = i; kept = defines o ∷ [] }) s.origin

  module _ (s : Store) (g : IsGood s) (o : Object) (can : CanDefine s o) where
    abbrev base : Database
    base = committed s

    abbrev objects : Schema
    objects = base.schema ++ o ∷ []

    abbrev new_base : Database
    new_base = record base { number = base.number + 1; schema = objects }

    -- no transaction changed a row
    pub rows_are : s.rows ≡ base.rows
    rows_are = same_table place_cmp_total place_cmp-IsAntisymmetric s.rows base.rows (λ q. g.stored.others q (λ j js t. subst (λ (ks : List KeptStep). Touches q (changes_of ks)) (none_kept s j (can.none_open j js)) t))

    define : (i : ℕ) (view : ViewRows) → view ≡ add_all s.view (views.made_of objects s.rows o) → (history : List Entry) → IsHistoryOf s.origin history
        → Good views value laws new_base (record s { history = history; view = view })
    define i view is history entered =
        let idle_at : (j : ℕ) → IsSession j → the_open (s.open_of j) ≡ idle = λ j js. ap the_open (can.none_open j js) in
        let none_paid : (p : Place) (column : ℕ) → all_paid views value laws s.open_of p column ≡ pos 0 = λ p column. over_zero (λ j. paid_in p column (now s j).kept) (λ j js. ap (λ (t : Open). paid_in p column t.kept) (idle_at j js)) in
        let none_lo : (p : Place) (column : ℕ) → all_lo views value laws s.open_of p column ≡ pos 0 = λ p column. over_zero (λ j. lo (increments p column (now s j).kept)) (λ j js. ap (λ (t : Open). lo (increments p column t.kept)) (idle_at j js)) in
        let none_hi : (p : Place) (column : ℕ) → all_hi views value laws s.open_of p column ≡ pos 0 = λ p column. over_zero (λ j. hi (increments p column (now s j).kept)) (λ j js. ap (λ (t : Open). hi (increments p column t.kept)) (idle_at j js)) in
        record {
          sound = can.sound;
          apart = g.apart;
          stored = g.stored;
          each = λ j js. subst (λ (t : Open). TxnGood views value laws new_base t) (sym (idle_at j js)) (record { held = tt; proper = tt; told = tt; settled = refl });
          view = λ p column.
              let old : stored_number s.view p column ≡ value base.schema base.rows p column +ℤ all_paid views value laws s.open_of p column = g.view p column in
              let added : stored_number (add_all s.view (views.made_of objects s.rows o)) p column ≡ stored_number s.view p column +ℤ due p column (views.made_of objects s.rows o) = stored_add_all s.view (views.made_of objects s.rows o) p column in
              let made : value objects base.rows p column ≡ value base.schema base.rows p column +ℤ due p column (views.made_of objects base.rows o) = laws.made base.schema base.rows o (base_sound views value laws base s g) can.sound p column in
              let same : due p column (views.made_of objects s.rows o) ≡ due p column (views.made_of objects base.rows o) = ap (λ (m : Rows). due p column (views.made_of objects m o)) rows_are in
              let now_ : stored_number view p column ≡ stored_number (add_all s.view (views.made_of objects s.rows o)) p column = ap (λ (v : ViewRows). stored_number v p column) is in
              omega (arith, ints);
          present = λ p a j js h. subst (λ (t : Open). PaysOn p t.kept) (idle_at j js) h;
          low = λ p column. let z = none_lo p column in shift (value objects base.rows p column) (value objects base.rows p column +ℤ all_lo views value laws s.open_of p column) (can.in_range p column) (omega (arith, ints, z));
          high = λ p column. let z = none_hi p column in shift (value objects base.rows p column) (value objects base.rows p column +ℤ all_hi views value laws s.open_of p column) (can.in_range p column) (omega (arith, ints, z));
          history = entered;
        }

  pub keeps : (s : Store) (i : ℕ) (e : Effect) → IsGood s → Can s i e → IsGood (does views s i e)
  keeps s i (Opens mode) g can = leaves views value laws (committed s) s g i can.0 (Some (begun mode (committed s).number)) refl refl refl (none_kept s i can.1)
  keeps s i (Takes wants) g can = takes views value laws (committed s) s g i can.0 wants can.1
  keeps s i (Notes n) g can = stays views value laws (committed s) s g i can (record (now s i) { notes = n ∷ (now s i).notes }) refl refl refl
  keeps s i (Writes key new) g can = writes views value laws (committed s) s g i can.0 key new can.1 can.2 can.3
  keeps s i Pays g can = pays_first s i g can.0 (now s i).owed refl can.1
  keeps s i (Ghosts p n) g can = ghosts views value laws (committed s) s g p n can.0
  keeps s i Undoes g can = undoes_kept s i g can (now s i).kept refl
  keeps s i Loses g can = stays views value laws (committed s) s g i can (record (now s i) { is_lost = true }) refl refl refl
  keeps s i Ends g can = leaves views value laws (committed s) s g i can.0 None refl refl refl can.1
  keeps s i Commits g can =
      let base : Database = committed s in
      let t = g.each i can.0 in
      let history : IsHistoryOf s.origin (s.history ++ record { number = base.number + 1; session = i; kept = entry_changes (now s i).kept } ∷ []) =
      history_push s.history (record { number = base.number + 1; session = i; kept = entry_changes (now s i).kept }) s.origin g.history refl
      (entry_changes_right (changes_by s i) base (base_sound views value laws base s g) t.proper (g.stored.told i can.0)) in
      subst (λ (b : Database). Good views value laws b (with_txn (with_entry s i (entry_changes (now s i).kept)) i None)) (sym (committed_after s i))
      (commits views value laws base s g i can.0 can.1 history)
  keeps s i (Defines o) g can =
      let base : Database = committed s in
      let e : Entry = record { number = base.number + 1; session = i; kept = defines o ∷ [] } in
      let view : ViewRows = add_all s.view (views.made_of (committed (with_entry s i (defines o ∷ []))).schema s.rows o) in
      let is : view ≡ add_all s.view (views.made_of (base.schema ++ o ∷ []) s.rows o) = ap (λ (d : Database). add_all s.view (views.made_of d.schema s.rows o)) (defined s i o) in
      subst (λ (b : Database). Good views value laws b (record s { history = s.history ++ e ∷ []; view = view })) (sym (defined s i o))
      (define s g o can i view is (s.history ++ e ∷ [])
      (history_push s.history e s.origin g.history refl ((base_sound views value laws base s g, can.sound), tt)))
  keeps s i (Cleans p) g can = cleans views value laws (committed s) s g p can.0 can.1
  keeps s i Prunes g can = prunes views value laws (committed s) s g (least_snapshot s.open_of 64 (committed s).number)

  -- effects of one session one after another
  abbrev pub CanAll : Store → ℕ → List Effect → Type 0
  CanAll s i [] = Unit {0}
  CanAll s i (e ∷ es) = Can s i e × CanAll (does views s i e) i es

  pub keeps_all : (s : Store) (i : ℕ) (es : List Effect) → IsGood s → CanAll s i es → IsGood (run views s i es)
  keeps_all s i [] g can = g
  keeps_all s i (e ∷ es) g can = keeps_all (does views s i e) i es (keeps s i e g can.0) can.1

  -- ---- the opened state

  pub opened_good : (db : Database) (view : ViewRows) → AreSound db.schema db.rows → ((p : Place) (column : ℕ) → stored_number view p column ≡ value db.schema db.rows p column)
      → ((p : Place) (column : ℕ) → IsHuge (value db.schema db.rows p column)) → IsGood (opened db view)
  opened_good db view sound fresh in_range =
      let none : ℕ → Option Open = λ j. None in
      let zero_paid : (p : Place) (column : ℕ) → all_paid views value laws none p column ≡ pos 0 = λ p column. over_zero (λ j. pos 0) (λ j js. refl) in
      let zero_lo : (p : Place) (column : ℕ) → all_lo views value laws none p column ≡ pos 0 = λ p column. over_zero (λ j. pos 0) (λ j js. refl) in
      let zero_hi : (p : Place) (column : ℕ) → all_hi views value laws none p column ≡ pos 0 = λ p column. over_zero (λ j. pos 0) (λ j js. refl) in
      record {
        sound = sound;
        apart = λ i j is js n m. meet_none [] m;
        stored = stored_at_first 64 db.rows;
        each = λ i is. record { held = tt; proper = tt; told = tt; settled = refl };
        view = λ p column. let f = fresh p column in let z = zero_paid p column in omega (arith, ints, f, z);
        present = λ p a i is h. h;
        low = λ p column. let z = zero_lo p column in shift (value db.schema db.rows p column) (value db.schema db.rows p column +ℤ all_lo views value laws none p column) (in_range p column) (omega (arith, ints, z));
        high = λ p column. let z = zero_hi p column in shift (value db.schema db.rows p column) (value db.schema db.rows p column +ℤ all_hi views value laws none p column) (in_range p column) (omega (arith, ints, z));
        history = tt;
      }
