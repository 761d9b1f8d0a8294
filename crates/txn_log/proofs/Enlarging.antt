-- The bytes of data: each effect takes no more than it releases, or what was asked for before.
use Rattle.std.specs.Prelude.{◌≡◌, ◌≢◌, ℕ, zero, suc, ◌+◌, ◌≤◌, ℤ, Bool, true, false, List, [], ◌∷◌, ◌++◌, map, length, drop, Option, Some, None, IsSome, is_some}
use Rattle.std.specs.List.{sum}
use Rattle.std.specs.Option.{option_map_or}
use Rattle.std.specs.FinMap.{get}
use mathlib.Core.Path.{refl, sym, ap, subst, ◌∙◌}
use Rattle.std.proofs.Common.{arith}
use Rattle.iv_types.specs.declared.statement.Mode.{Mode}
use Rattle.iv_types.specs.declared.statement.Mode.TheVariants.{Serial, Snapshot}
use Rattle.iv_types.specs.declared.lock.GroupDelta.{GroupDelta}
use Rattle.iv_types.specs.declared.lock.LockMode.TheVariants.{Increment}
use Rattle.iv_types.specs.declared.lock.Want.{Want}
use Rattle.table_laws.specs.Place.{Place}
use Rattle.table_laws.specs.Table.{write}
use Rattle.table_laws.proofs.Stored.{by_session}
use Rattle.iv_meaning.specs.Schema.{Schema}
use Rattle.iv_meaning.specs.Database.{Row}
use Rattle.iv_meaning.specs.Escrow.{IsSession}
use Rattle.txn_machine.specs.Acts.{Act}
use Rattle.txn_machine.specs.Locks.{with_one}
use Rattle.txn_machine.specs.Deltas.{RowChange, negated, place_of, columns_of, owed}
use Rattle.txn_machine.specs.Keeping.{KeptStep, Put, Pay, Open, begun, Note}
use Rattle.txn_machine.specs.Stored.{AreStored, zeros}
use Rattle.txn_machine.specs.Ghosts.{Holds, the_views}
use Rattle.txn_machine.specs.Counts.{sum_over}
use Rattle.txn_machine.specs.KeptLaws.{IsDelta}
use Rattle.txn_machine.specs.Log.{Within, Logged, Log, logs, still_owed, unghosted, row_entries, perhaps_entries, delta_entry, view_entry, view_entries, room_kept, data_bytes, change_need, logged_after, rest, undoes}
use Rattle.txn_machine.specs.Steps.{with_ghost}
use Rattle.txn_machine.specs.Store.{Store, committed, schema_of, now, change_at, notes_before, paid_first, undone, Effect, Opens, Takes, Notes, Writes, Pays, Ghosts, Undoes, Loses, Ends, Commits, does}
use Rattle.txn_machine.proofs.Agreeing.{written_at}
use Rattle.txn_machine.proofs.Basics.{one_same, one_other, holds_more}
use Rattle.txn_machine.proofs.Good.{the_open}
use Rattle.txn_machine.proofs.Rings.{other_opens}
use Rattle.txn_machine.proofs.LogSums.{sum_one, sum_first}
use Rattle.txn_machine.proofs.LogRoom.{within_less, IsThere, stay_there, logs_logged}
use Rattle.txn_machine.proofs.Parting.{Leaves, stays_there}
use Rattle.txn_machine.proofs.Shapes.{negated_is}
use Rattle.txn_machine.proofs.Stepping.{some_not_none}
use Rattle.txn_log.specs.Room.{rows_bytes}
use Rattle.txn_log.proofs.Rooming.{wrote_total, added_entries}

-- what owed deltas keep
abbrev pub owed_room : Bool → List GroupDelta → ℕ
owed_room ghosted ds = sum (map delta_entry (unghosted ghosted ds))

abbrev pub stored_bytes : Schema → Store → ℕ
stored_bytes objects s = rows_bytes objects s.rows + view_entries s.view

-- the row of an owed delta that had its Ghost is stored, and what is used lies within the limit
pub record Ample (limit : Option ℕ) (texts : List (List ℕ)) (s : Store) (l : Log) : Type 0 where
  pub there : (j : ℕ) → IsSession j → IsThere s.view (s.open_of j) (l.logged j)
  pub fits : Within limit (data_bytes s l texts)

-- what one session did
pub record Moved (limit : Option ℕ) (texts : List (List ℕ)) (s : Store) (l : Log) (i : ℕ) (t : Store) (m : Log) : Type 0 where
  pub others_open : (j : ℕ) → j ≢ i → t.open_of j ≡ s.open_of j
  pub others_logged : (j : ℕ) → j ≢ i → m.logged j ≡ l.logged j
  pub objects : schema_of t ≡ schema_of s
  pub stays : (j : ℕ) → IsSession j → j ≢ i → (p : Place) → Holds (the_open (s.open_of j)).locks Increment p.0 p.1 → IsSome (get s.view p) → IsSome (get t.view p)
  pub there : IsThere t.view (t.open_of i) (m.logged i)
  pub need : ℕ
  pub room : Within limit (data_bytes s l texts + need)
  pub takes : stored_bytes (schema_of s) t + room_kept (schema_of s) (t.open_of i) (m.logged i).ghosted ≤ stored_bytes (schema_of s) s + room_kept (schema_of s) (s.open_of i) (l.logged i).ghosted + need

pub moved_ample : (limit : Option ℕ) (texts : List (List ℕ)) (s : Store) (l : Log) (i : ℕ) (t : Store) (m : Log) → IsSession i → Ample limit texts s l → Moved limit texts s l i t m → Ample limit texts t m
moved_ample limit texts s l i t m is r d = record {
  there = λ j js. by_session j i
      (λ e. subst (λ k. IsThere t.view (t.open_of k) (m.logged k)) (sym e) d.there)
      (λ n. subst (λ (x : Option Open × Logged). IsThere t.view x.0 x.1) (λ x. (sym (d.others_open j n) x, sym (d.others_logged j n) x))
      (stay_there s.view t.view (s.open_of j) (l.logged j) (d.stays j js n) (r.there j js)));
  fits =
      let objects : Schema = schema_of s in
      let rows = ap (λ (x : Schema). rows_bytes x t.rows) d.objects in
      let same = ap (λ (x : Schema). sum_over 64 (λ j. room_kept x (t.open_of j) (m.logged j).ghosted)) d.objects in
      let one = sum_one 64 (λ j. room_kept objects (s.open_of j) (l.logged j).ghosted) (λ j. room_kept objects (t.open_of j) (m.logged j).ghosted) i is.0 is.1
      (λ j n. λ x. room_kept objects (d.others_open j n x) (d.others_logged j n x).ghosted) in
      let takes = d.takes in
      within_less limit (data_bytes s l texts + d.need) (data_bytes t m texts) d.room (omega (arith, rows, same, one, takes));
}

first_room : (ghosted : Bool) (d : GroupDelta) (ds : List GroupDelta) → owed_room false ds ≤ owed_room ghosted (d ∷ ds)
first_room true d ds = omega arith
first_room false d ds = (let one : sum (map delta_entry (d ∷ ds)) ≡ delta_entry d + sum (map delta_entry ds) = sum_first (delta_entry d) (map delta_entry ds) in omega (arith, one))

-- a Ghost gives back what its row takes
ghost_room : (d : GroupDelta) (ds : List GroupDelta) → delta_entry d + owed_room true (d ∷ ds) ≡ owed_room false (d ∷ ds)
ghost_room d ds = (let one : sum (map delta_entry (d ∷ ds)) ≡ delta_entry d + sum (map delta_entry ds) = sum_first (delta_entry d) (map delta_entry ds) in omega (arith, one))

ghosted_room : (ghosted : Bool) (d : GroupDelta) (ds : List GroupDelta) → owed_room true (d ∷ ds) ≤ owed_room ghosted (d ∷ ds)
ghosted_room true d ds = omega arith
ghosted_room false d ds = (let one = ghost_room d ds in omega (arith, one))

zeros_length : (n : ℕ) → length (zeros n) ≡ n
zeros_length zero = refl
zeros_length (suc n) = ap suc (zeros_length n)

drop_more : (n : ℕ) (d : GroupDelta) (ds : List GroupDelta) → drop (n + 1) (d ∷ ds) ≡ drop n ds
drop_more n d ds = ap (λ m. drop m (d ∷ ds)) (plus_one n)
  where
    plus_one : (n : ℕ) → n + 1 ≡ suc n
    plus_one n = omega arith

abbrev pub first_or : GroupDelta → List GroupDelta → GroupDelta
first_or d [] = d
first_or d (x ∷ xs) = x

-- what is known of transactions stays where an effect says nothing of them
pub same_logged : (s : Store) (i : ℕ) (a : Act) (e : Effect) (l : Log) → ◌≡◌ {A = ℕ → Logged} (logs s i a e l).logged (with_one l.logged i (l.logged i)) → (j : ℕ) → (logs s i a e l).logged j ≡ l.logged j
same_logged s i a e l is j = ap (λ (f : ℕ → Logged). f j) is ∙ by_session j i (λ h. one_same l.logged i (l.logged i) j h ∙ ap l.logged (sym h)) (λ n. one_other l.logged i (l.logged i) j n)

-- ---- effects of a session's transaction

module _ (limit : Option ℕ) (texts : List (List ℕ)) (s : Store) (l : Log) (i : ℕ) (a : Act) (is : IsSession i) (r : Ample limit texts s l) where
  abbrev objects : Schema
  objects = schema_of s

  -- with this transaction and no other change of what is asked
  moved_as : (e : Effect) (o : Option Open) → (does the_views s i e).open_of i ≡ o → schema_of (does the_views s i e) ≡ schema_of s → ((p : Place) → Leaves p e)
      → IsThere (does the_views s i e).view o (logged_after s i l e)
      → (need : ℕ) → Within limit (data_bytes s l texts + need)
      → stored_bytes objects (does the_views s i e) + room_kept objects o (logged_after s i l e).ghosted ≤ stored_bytes objects s + room_kept objects (s.open_of i) (l.logged i).ghosted + need
      → Ample limit texts (does the_views s i e) (logs s i a e l)
  moved_as e o open_is same_objects leaves there need room takes =
      let t : Store = does the_views s i e in
      let m : Log = logs s i a e l in
      let own : m.logged i ≡ logged_after s i l e = ap (λ (f : ℕ → Logged). f i) (logs_logged s i a e l) ∙ one_same l.logged i (logged_after s i l e) i refl in
      let both : ◌≡◌ {A = Option Open × Logged} (o, logged_after s i l e) (t.open_of i, m.logged i) = λ x. (sym open_is x, sym own x) in
      moved_ample limit texts s l i t m is r (record {
        others_open = λ j n. other_opens s i (e ∷ []) j n;
        others_logged = λ j n. ap (λ (f : ℕ → Logged). f j) (logs_logged s i a e l) ∙ one_other l.logged i (logged_after s i l e) j n;
        objects = same_objects;
        stays = λ j js n p h there. stays_there s i e p (leaves p) there;
        there = subst (λ (x : Option Open × Logged). IsThere t.view x.0 x.1) both there;
        need = need;
        room = room;
        takes = subst (λ (x : Option Open × Logged). stored_bytes objects t + room_kept objects x.0 x.1.ghosted ≤ stored_bytes objects s + room_kept objects (s.open_of i) (l.logged i).ghosted + need) both takes;
      })

  no_need : Within limit (data_bytes s l texts + 0)
  no_need = within_less limit (data_bytes s l texts) (data_bytes s l texts + 0) r.fits (omega arith)

  pub opens : (mode : Mode) → Ample limit texts (does the_views s i (Opens mode)) (logs s i a (Opens mode) l)
  opens Serial = moved_as (Opens Serial) (Some (begun Serial (committed s).number)) (one_same s.open_of i (Some (begun Serial (committed s).number)) i refl) refl (λ p. tt)
      (λ e. absurd (cc e)) 0 no_need (omega arith)
  opens Snapshot = moved_as (Opens Snapshot) (Some (begun Snapshot (committed s).number)) (one_same s.open_of i (Some (begun Snapshot (committed s).number)) i refl) refl (λ p. tt)
      (λ e. absurd (cc e)) 0 no_need (omega arith)

  pub ends_it : Ample limit texts (does the_views s i Ends) (logs s i a Ends l)
  ends_it = moved_as Ends None (one_same s.open_of i None i refl) refl (λ q. tt) tt 0 no_need (omega arith)

  pub commits_it : schema_of (does the_views s i Commits) ≡ schema_of s → Ample limit texts (does the_views s i Commits) (logs s i a Commits l)
  commits_it same = moved_as Commits None (one_same s.open_of i None i refl) same (λ q. tt) tt 0 no_need (omega arith)

  module _ (open_now : s.open_of i ≡ Some (now s i)) where
    was_room : room_kept objects (s.open_of i) (l.logged i).ghosted ≡ room_kept objects (Some (now s i)) (l.logged i).ghosted
    was_room = ap (λ (o : Option Open). room_kept objects o (l.logged i).ghosted) open_now

    was_there : IsThere s.view (Some (now s i)) (l.logged i)
    was_there = subst (λ (o : Option Open). IsThere s.view o (l.logged i)) open_now (r.there i is)

    pub takes_wants : (wants : List Want) → Ample limit texts (does the_views s i (Takes wants)) (logs s i a (Takes wants) l)
    takes_wants wants =
        let u : Open = record (now s i) { locks = wants ++ (now s i).locks } in
        moved_as (Takes wants) (Some u) (one_same s.open_of i (Some u) i refl) refl (λ p. tt)
        (λ g d ds e. let old = was_there g d ds e in (holds_more Increment wants (now s i).locks d.view d.group old.0, old.1)) 0 no_need
        (let x = was_room in omega (arith, x))

    pub notes_it : (n : Note) → Ample limit texts (does the_views s i (Notes n)) (logs s i a (Notes n) l)
    notes_it n =
        let u : Open = record (now s i) { notes = n ∷ (now s i).notes } in
        moved_as (Notes n) (Some u) (one_same s.open_of i (Some u) i refl) refl (λ p. tt) was_there 0 no_need
        (let x = was_room in omega (arith, x))

    pub loses : Ample limit texts (does the_views s i Loses) (logs s i a Loses l)
    loses =
        let u : Open = record (now s i) { is_lost = true } in
        moved_as Loses (Some u) (one_same s.open_of i (Some u) i refl) refl (λ p. tt) was_there 0 no_need
        (let x = was_room in omega (arith, x))

    pub writes : (p : Place) (new : Option Row) →
        let c : RowChange = change_at s p new in
        Within limit (data_bytes s l texts + change_need objects c (owed objects s.rows c)) → Ample limit texts (does the_views s i (Writes p new)) (logs s i a (Writes p new) l)
    writes p new room =
        let c : RowChange = change_at s p new in
        let ds : List GroupDelta = owed objects s.rows c in
        let u : Open = record (now s i) { kept = Put c ds ∷ (now s i).kept; owed = ds; back = 0 } in
        let x = was_room in
        let moved = wrote_total (row_entries objects) s.rows p new in
        moved_as (Writes p new) (Some u) (one_same s.open_of i (Some u) i refl) refl (λ q. tt) (λ e. absurd (cc e)) (change_need objects c ds) room
        (omega (arith, x, moved))

    pub pays : (d : GroupDelta) (ds : List GroupDelta) → (now s i).owed ≡ d ∷ ds → (now s i).back ≡ 0 → IsDelta objects d → AreStored objects s.view → IsSome (get s.view (place_of d))
        → Ample limit texts (does the_views s i Pays) (logs s i a Pays l)
    pays d ds e back delta are there =
        let u : Open = record (now s i) { kept = Pay d ∷ (now s i).kept; owed = ds } in
        let open_is : (does the_views s i Pays).open_of i ≡ Some u = ap (λ (x : List GroupDelta). (paid_first s i (now s i) x).open_of i) e ∙ one_same s.open_of i (Some u) i refl in
        let objects_are : schema_of (does the_views s i Pays) ≡ schema_of s = ap (λ (x : List GroupDelta). schema_of (paid_first s i (now s i) x)) e in
        let rows : rows_bytes objects (does the_views s i Pays).rows ≡ rows_bytes objects s.rows = ap (λ (x : List GroupDelta). rows_bytes objects (paid_first s i (now s i) x).rows) e in
        let view : view_entries (does the_views s i Pays).view ≡ view_entries s.view =
        ap (λ (x : List GroupDelta). view_entries (paid_first s i (now s i) x).view) e ∙ added_entries objects s.view d delta are there in
        let before : owed_room (l.logged i).ghosted (still_owed (now s i)) ≡ owed_room (l.logged i).ghosted (d ∷ ds) = ap (owed_room (l.logged i).ghosted) ((λ x. drop (back x) (e x))) in
        let after : owed_room false (still_owed u) ≡ owed_room false ds = ap (λ n. owed_room false (drop n ds)) back in
        let less = first_room (l.logged i).ghosted d ds in
        let x = was_room in
        moved_as Pays (Some u) open_is objects_are (λ q. tt) (λ m. absurd (cc m)) 0 no_need
        (omega (arith, rows, view, before, after, less, x))

    -- ---- what is taken back

    pub undoes_put : (c : RowChange) (ds : List GroupDelta) (ks : List KeptStep) → (now s i).kept ≡ Put c ds ∷ ks → get s.rows c.key ≡ c.after
        → Ample limit texts (does the_views s i Undoes) (logs s i a Undoes l)
    undoes_put c ds ks e fits =
        let u : Open = record (now s i) { kept = ks; owed = []; back = 0; notes = notes_before (length ks) (now s i).notes } in
        let lg : Logged = record (l.logged i) { kept = rest (l.logged i).kept; ghosted = false } in
        let open_is : (does the_views s i Undoes).open_of i ≡ Some u = ap (λ (x : List KeptStep). (undone s i (now s i) x).open_of i) e ∙ one_same s.open_of i (Some u) i refl in
        let lg_is : logged_after s i l Undoes ≡ lg = ap (undoes (l.logged i)) e in
        let objects_are : schema_of (does the_views s i Undoes) ≡ schema_of s = ap (λ (x : List KeptStep). schema_of (undone s i (now s i) x)) e in
        let rows : rows_bytes objects (does the_views s i Undoes).rows ≡ rows_bytes objects (write s.rows c.key c.before) = ap (λ (x : List KeptStep). rows_bytes objects (undone s i (now s i) x).rows) e in
        let view : view_entries (does the_views s i Undoes).view ≡ view_entries s.view = ap (λ (x : List KeptStep). view_entries (undone s i (now s i) x).view) e in
        let moved = wrote_total (row_entries objects) s.rows c.key c.before in
        let after = ap (perhaps_entries objects c.key) fits in
        let x = was_room in
        let before : room_kept objects (Some (now s i)) (l.logged i).ghosted ≡ room_kept objects (Some (record (now s i) { kept = Put c ds ∷ ks })) (l.logged i).ghosted =
        ap (λ (y : List KeptStep). room_kept objects (Some (record (now s i) { kept = y })) (l.logged i).ghosted) e in
        moved_as Undoes (Some u) open_is objects_are (λ q. tt)
        (λ m. absurd (cc (sym (ap (λ (y : Logged). y.ghosted) lg_is) ∙ m))) 0 no_need
        (subst (λ (y : Logged). stored_bytes objects (does the_views s i Undoes) + room_kept objects (Some u) y.ghosted ≤ stored_bytes objects s + room_kept objects (s.open_of i) (l.logged i).ghosted + 0) (sym lg_is)
        (omega (arith, rows, view, moved, after, x, before)))

    pub undoes_pay : (d : GroupDelta) (ks : List KeptStep) → (now s i).kept ≡ Pay d ∷ ks → IsDelta objects d → AreStored objects s.view → IsSome (get s.view (place_of d))
        → Ample limit texts (does the_views s i Undoes) (logs s i a Undoes l)
    undoes_pay d ks e delta are there =
        let u : Open = record (now s i) { kept = ks; owed = d ∷ (now s i).owed; back = (now s i).back + 1 } in
        let lg : Logged = record (l.logged i) { kept = rest (l.logged i).kept } in
        let open_is : (does the_views s i Undoes).open_of i ≡ Some u = ap (λ (x : List KeptStep). (undone s i (now s i) x).open_of i) e ∙ one_same s.open_of i (Some u) i refl in
        let lg_is : logged_after s i l Undoes ≡ lg = ap (undoes (l.logged i)) e in
        let objects_are : schema_of (does the_views s i Undoes) ≡ schema_of s = ap (λ (x : List KeptStep). schema_of (undone s i (now s i) x)) e in
        let rows : rows_bytes objects (does the_views s i Undoes).rows ≡ rows_bytes objects s.rows = ap (λ (x : List KeptStep). rows_bytes objects (undone s i (now s i) x).rows) e in
        let view : view_entries (does the_views s i Undoes).view ≡ view_entries s.view =
        ap (λ (x : List KeptStep). view_entries (undone s i (now s i) x).view) e ∙ added_entries objects s.view (negated d) (negated_is objects d delta) are there in
        let same : still_owed u ≡ still_owed (now s i) = drop_more (now s i).back d (now s i).owed in
        let owes : owed_room (l.logged i).ghosted (still_owed u) ≡ owed_room (l.logged i).ghosted (still_owed (now s i)) = ap (owed_room (l.logged i).ghosted) same in
        let x = was_room in
        let before : room_kept objects (Some (now s i)) (l.logged i).ghosted ≡ room_kept objects (Some (record (now s i) { kept = Pay d ∷ ks })) (l.logged i).ghosted =
        ap (λ (y : List KeptStep). room_kept objects (Some (record (now s i) { kept = y })) (l.logged i).ghosted) e in
        moved_as Undoes (Some u) open_is objects_are (λ q. tt)
        (λ m y ys o. let old = was_there (sym (ap (λ (z : Logged). z.ghosted) lg_is) ∙ m) y ys (sym same ∙ o) in (old.0, stays_there s i Undoes (place_of y) tt old.1)) 0 no_need
        (subst (λ (y : Logged). stored_bytes objects (does the_views s i Undoes) + room_kept objects (Some u) y.ghosted ≤ stored_bytes objects s + room_kept objects (s.open_of i) (l.logged i).ghosted + 0) (sym lg_is)
        (omega (arith, rows, view, owes, x, before)))

    -- ---- a Ghost

    module _ (d : GroupDelta) (ds : List GroupDelta) (owes : still_owed (now s i) ≡ d ∷ ds) (holds : Holds (now s i).locks Increment d.view d.group) where
      -- the row is stored then
      ghost_done : (t : Store) (m : Log) → ((j : ℕ) → t.open_of j ≡ s.open_of j) → schema_of t ≡ schema_of s → ((p : Place) → IsSome (get s.view p) → IsSome (get t.view p)) → IsSome (get t.view (place_of d))
          → ((j : ℕ) → m.logged j ≡ l.logged j) → stored_bytes objects t + owed_room true (d ∷ ds) ≤ stored_bytes objects s + owed_room (l.logged i).ghosted (d ∷ ds) → Ample limit texts t (with_ghost m i)
      ghost_done t m opens_same same_objects stays there logged_same takes =
          let lg : Logged = record (m.logged i) { ghosted = true } in
          let own : (with_ghost m i).logged i ≡ lg = one_same m.logged i lg i refl in
          let both : ◌≡◌ {A = Option Open × Logged} (Some (now s i), lg) (t.open_of i, (with_ghost m i).logged i) = λ x. (sym (opens_same i ∙ open_now) x, sym own x) in
          let x = was_room in
          let before : owed_room (l.logged i).ghosted (still_owed (now s i)) ≡ owed_room (l.logged i).ghosted (d ∷ ds) = ap (owed_room (l.logged i).ghosted) owes in
          let after : owed_room true (still_owed (now s i)) ≡ owed_room true (d ∷ ds) = ap (owed_room true) owes in
          moved_ample limit texts s l i t (with_ghost m i) is r (record {
            others_open = λ j n. opens_same j;
            others_logged = λ j n. one_other m.logged i lg j n ∙ logged_same j;
            objects = same_objects;
            stays = λ j js n p h y. stays p y;
            there = subst (λ (y : Option Open × Logged). IsThere t.view y.0 y.1) both (λ g y ys e.
                let same : d ≡ y = ap (first_or d) (sym owes ∙ e) in
                (subst (λ (z : GroupDelta). Holds (now s i).locks Increment z.view z.group) same holds, subst (λ (z : GroupDelta). IsSome (get t.view (place_of z))) same there));
            need = 0;
            room = no_need;
            takes = subst (λ (y : Option Open × Logged). stored_bytes objects t + room_kept objects y.0 y.1.ghosted ≤ stored_bytes objects s + room_kept objects (s.open_of i) (l.logged i).ghosted + 0) both (omega (arith, x, before, after, takes));
          })

      -- it was absent, so that it had no Ghost before
      pub ghost_absent : get s.view (place_of d) ≡ None → Ample limit texts (does the_views s i (Ghosts (place_of d) (length (columns_of d)))) (with_ghost (logs s i a (Ghosts (place_of d) (length (columns_of d))) l) i)
      ghost_absent absent =
          let e : Effect = Ghosts (place_of d) (length (columns_of d)) in
          let p : Place = place_of d in
          let row : List ℤ = zeros (length (columns_of d)) in
          let never : (l.logged i).ghosted ≡ true → ⊥ = λ g. some_not_none (get s.view p) (was_there g d ds owes).1 absent in
          let moved = wrote_total (λ (q : Place) (xs : List ℤ). view_entry q (length xs)) s.view p (Some row) in
          let before = ap (λ (o : Option (List ℤ)). option_map_or (λ xs. view_entry p (length xs)) o 0) absent in
          let long = ap (view_entry p) (zeros_length (length (columns_of d))) in
          let free = go (l.logged i).ghosted never in
          ghost_done (does the_views s i e) (logs s i a e l) (λ j. refl) refl (λ q x. stays_there s i e q tt x)
          (ap is_some (written_at s.view p (Some row) p refl))
          (same_logged s i a e l (logs_logged s i a e l))
          (omega (arith, moved, before, long, free))
        where
          go : (g : Bool) → (g ≡ true → ⊥) → delta_entry d + owed_room true (d ∷ ds) ≤ owed_room g (d ∷ ds)
          go true n = absurd (n refl)
          go false n = (let one = ghost_room d ds in omega (arith, one))

      pub ghost_present : IsSome (get s.view (place_of d)) → Ample limit texts s (with_ghost l i)
      ghost_present there = ghost_done s l (λ j. refl) refl (λ p x. x) there (λ j. refl)
          (let less = ghosted_room (l.logged i).ghosted d ds in omega (arith, less))
