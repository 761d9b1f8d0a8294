-- The log's room: each effect uses no more than it releases, or what was asked for before.
use Rattle.std.specs.Prelude.{◌≡◌, ◌≢◌, ℕ, ◌+◌, ◌*◌, ◌≤◌, Bool, true, false, List, [], ◌∷◌, ◌++◌, map, length, drop, Option, Some, None, IsSome, zero, suc, cond}
use Rattle.std.specs.List.{sum}
use Rattle.std.specs.FinMap.{get}
use mathlib.Core.Path.{refl, sym, ap, subst, ◌∙◌}
use Rattle.std.proofs.Common.{arith}
use Rattle.iv_types.specs.declared.statement.Mode.{Mode}
use Rattle.iv_types.specs.declared.statement.Mode.TheVariants.{Serial, Snapshot}
use Rattle.iv_types.specs.declared.lock.GroupDelta.{GroupDelta}
use Rattle.iv_types.specs.declared.lock.LockMode.TheVariants.{Increment}
use Rattle.iv_types.specs.declared.lock.Want.{Want}
use Rattle.table_laws.specs.Place.{Place}
use Rattle.table_laws.proofs.Stored.{by_session}
use Rattle.iv_meaning.specs.Schema.{Schema}
use Rattle.iv_meaning.specs.Escrow.{IsSession}
use Rattle.txn_machine.specs.Acts.{Act}
use Rattle.txn_machine.specs.Deltas.{RowChange, place_of, owed}
use Rattle.txn_machine.specs.Keeping.{KeptStep, Put, Pay, Open, begun, Note}
use Rattle.txn_machine.specs.Stored.{ViewRows}
use Rattle.txn_machine.specs.Ghosts.{Holds, the_views}
use Rattle.txn_machine.specs.Counts.{sum_over}
use Rattle.txn_machine.specs.Records.{write_bytes, delta_bytes, undo_bytes, step_bytes, Record, record_bytes, abort_bytes, Abort}
use Rattle.txn_machine.specs.Log.{Within, Logged, Log, logs, with_logged, still_owed, pay_bytes, ghost_bytes, owed_bytes, end_bytes, block_bytes, reserved_by, reserved, carried, write_need, appended, flushed_after, logged_after, begun_after, record_of, pay_record, keeps, rest, undoes, undo_record, not_logged}
use Rattle.txn_machine.specs.Store.{Store, committed, schema_of, now, change_at, notes_before, paid_first, undone, Effect, Opens, Takes, Notes, Writes, Pays, Ghosts, Undoes, Loses, Ends, Commits, does, Defines, Cleans, Prunes}
use Rattle.txn_machine.proofs.Basics.{one_same, one_other, holds_more}
use Rattle.txn_machine.proofs.Good.{the_open}
use Rattle.txn_machine.proofs.Rings.{other_opens}
use Rattle.txn_machine.proofs.LogSums.{sum_one, sum_first}
use Rattle.txn_machine.specs.Locks.{with_one}
use Rattle.txn_machine.proofs.Parting.{Leaves, stays_there}
use Rattle.std.specs.Option.{option_map_or}
use Rattle.iv_meaning.specs.Database.{Row}

some_kept : (k : KeptStep) (ks : List KeptStep) → k ∷ ks ≡ [] → ⊥
some_kept k ks e = cc

by_mode : {P : Type 0} (m : Mode) → (m ≡ Serial → P) → (m ≡ Snapshot → P) → P
by_mode Serial f g = f refl
by_mode Snapshot f g = g refl

pub within_less : (limit : Option ℕ) (a b : ℕ) → Within limit a → b ≤ a → Within limit b
within_less None a b h l = tt
within_less (Some most) a b h l = omega (arith, h, l)

-- ---- what is known of a session

-- a snapshot keeps nothing and has appended nothing
abbrev pub IsBare : Option Open → Logged → Type 0
IsBare None l = Unit {0}
IsBare (Some t) l = t.mode ≡ Snapshot → (t.kept ≡ []) × (l.wrote ≡ false)

-- the row of an owed delta that had its Ghost is stored, and the session holds its lock
abbrev pub IsThere : ViewRows → Option Open → Logged → Type 0
IsThere view None l = Unit {0}
IsThere view (Some t) l = l.ghosted ≡ true → (d : GroupDelta) (ds : List GroupDelta) → still_owed t ≡ d ∷ ds
    → Holds t.locks Increment d.view d.group × IsSome (get view (place_of d))

abbrev pub kept_bytes : Schema → Option Open → ℕ
kept_bytes objects o = sum (map (step_bytes objects) (the_open o).kept)

pub record Roomy (limit : Option ℕ) (s : Store) (l : Log) : Type 0 where
  pub bare : (j : ℕ) → IsSession j → IsBare (s.open_of j) (l.logged j)
  pub there : (j : ℕ) → IsSession j → IsThere s.view (s.open_of j) (l.logged j)
  pub carries : block_bytes + 1 + carried s ≤ l.used
  pub fits : Within limit (l.used + reserved s l)

-- what one session did
pub record Did (limit : Option ℕ) (s : Store) (l : Log) (i : ℕ) (t : Store) (m : Log) : Type 0 where
  pub others_open : (j : ℕ) → j ≢ i → t.open_of j ≡ s.open_of j
  pub others_logged : (j : ℕ) → j ≢ i → m.logged j ≡ l.logged j
  pub objects : schema_of t ≡ schema_of s
  pub stays : (j : ℕ) → IsSession j → j ≢ i → (p : Place) → Holds (the_open (s.open_of j)).locks Increment p.0 p.1 → IsSome (get s.view p) → IsSome (get t.view p)
  pub bare : IsBare (t.open_of i) (m.logged i)
  pub there : IsThere t.view (t.open_of i) (m.logged i)
  pub need : ℕ
  pub room : Within limit (l.used + reserved s l + need)
  pub takes : m.used + reserved_by (t.open_of i) (m.logged i).ghosted ≤ l.used + reserved_by (s.open_of i) (l.logged i).ghosted + need
  pub keeps : l.used + kept_bytes (schema_of s) (t.open_of i) ≤ m.used + kept_bytes (schema_of s) (s.open_of i)

pub stay_there : (old new : ViewRows) (o : Option Open) (l : Logged) → ((p : Place) → Holds (the_open o).locks Increment p.0 p.1 → IsSome (get old p) → IsSome (get new p)) → IsThere old o l → IsThere new o l
stay_there old new None l h k = tt
stay_there old new (Some t) l h k = λ g d ds e. let was = k g d ds e in (was.0, h (place_of d) was.0 was.1)

pub did_roomy : (limit : Option ℕ) (s : Store) (l : Log) (i : ℕ) (t : Store) (m : Log) → IsSession i → Roomy limit s l → Did limit s l i t m → Roomy limit t m
did_roomy limit s l i t m is r d = record {
  bare = λ j js. by_session j i
      (λ e. subst (λ k. IsBare (t.open_of k) (m.logged k)) (sym e) d.bare)
      (λ n. subst (λ (x : Option Open × Logged). IsBare x.0 x.1) (λ x. (sym (d.others_open j n) x, sym (d.others_logged j n) x)) (r.bare j js));
  there = λ j js. by_session j i
      (λ e. subst (λ k. IsThere t.view (t.open_of k) (m.logged k)) (sym e) d.there)
      (λ n. subst (λ (x : Option Open × Logged). IsThere t.view x.0 x.1) (λ x. (sym (d.others_open j n) x, sym (d.others_logged j n) x))
      (stay_there s.view t.view (s.open_of j) (l.logged j) (d.stays j js n) (r.there j js)));
  carries =
      let same : carried t ≡ sum_carried = ap (λ (objects : Schema). sum_over 64 (λ j. kept_bytes objects (t.open_of j))) d.objects in
      let one = sum_one 64 (λ j. kept_bytes (schema_of s) (s.open_of j)) (λ j. kept_bytes (schema_of s) (t.open_of j)) i is.0 is.1 (λ j n. ap (kept_bytes (schema_of s)) (d.others_open j n)) in
      let old = r.carries in
      let keeps = d.keeps in
      omega (arith, same, one, old, keeps);
  fits =
      let one = sum_one 64 (λ j. reserved_by (s.open_of j) (l.logged j).ghosted) (λ j. reserved_by (t.open_of j) (m.logged j).ghosted) i is.0 is.1
      (λ j n. λ x. reserved_by (d.others_open j n x) (d.others_logged j n x).ghosted) in
      let takes = d.takes in
      within_less limit (l.used + reserved s l + d.need) (m.used + reserved t m) d.room (omega (arith, one, takes));
}
  where
    sum_carried : ℕ
    sum_carried = sum_over 64 (λ j. kept_bytes (schema_of s) (t.open_of j))

-- ---- what an effect leaves in the log

appended_logged : (objects : Schema) (r : Option Record) (l : Log) → (appended objects r l).logged ≡ l.logged
appended_logged objects None l = refl
appended_logged objects (Some r) l = refl

flushed_logged : (e : Effect) (l : Log) → (flushed_after e l).logged ≡ l.logged
flushed_logged Commits l = refl
flushed_logged (Defines o) l = refl
flushed_logged (Opens mode) l = refl
flushed_logged (Takes wants) l = refl
flushed_logged (Notes n) l = refl
flushed_logged (Writes p new) l = refl
flushed_logged Pays l = refl
flushed_logged (Ghosts p n) l = refl
flushed_logged Undoes l = refl
flushed_logged Loses l = refl
flushed_logged Ends l = refl
flushed_logged (Cleans p) l = refl
flushed_logged Prunes l = refl

pub logs_logged : (s : Store) (i : ℕ) (a : Act) (e : Effect) (l : Log) → (logs s i a e l).logged ≡ with_one l.logged i (logged_after s i l e)
logs_logged s i a e l =
    flushed_logged e (record (appended (schema_of s) (record_of s i a l e) (with_logged l i (logged_after s i l e))) { begun = begun_after e l.begun })
    ∙ appended_logged (schema_of s) (record_of s i a l e) (with_logged l i (logged_after s i l e))

-- what a record takes, if there is one
abbrev perhaps_bytes : Schema → Option Record → ℕ
perhaps_bytes objects r = option_map_or (record_bytes objects) r 0

appended_used : (objects : Schema) (r : Option Record) (l : Log) → (appended objects r l).used ≡ l.used + perhaps_bytes objects r
appended_used objects None l = omega arith
appended_used objects (Some r) l = refl

owed_none : (g : Bool) → owed_bytes g [] ≡ 0
owed_none true = refl
owed_none false = refl

owes_nothing : (g : Bool) (back : ℕ) → owed_bytes g (drop back []) ≡ 0
owes_nothing g zero = owed_none g
owes_nothing g (suc back) = owed_none g

first_owed : (g : Bool) (d : GroupDelta) (ds : List GroupDelta) → owed_bytes false ds + pay_bytes d ≤ owed_bytes g (d ∷ ds)
first_owed true d ds = let one : sum (map pay_bytes (d ∷ ds)) ≡ pay_bytes d + sum (map pay_bytes ds) = sum_first (pay_bytes d) (map pay_bytes ds) in omega (arith, one)
first_owed false d ds =
    let one : sum (map pay_bytes (d ∷ ds)) ≡ pay_bytes d + sum (map pay_bytes ds) = sum_first (pay_bytes d) (map pay_bytes ds) in
    let other : sum (map ghost_bytes (d ∷ ds)) ≡ ghost_bytes d + sum (map ghost_bytes ds) = sum_first (ghost_bytes d) (map ghost_bytes ds) in
    omega (arith, one, other)

-- a Ghost gives back what its record takes
pub ghost_owed : (d : GroupDelta) (ds : List GroupDelta) → ghost_bytes d + owed_bytes true (d ∷ ds) ≡ owed_bytes false (d ∷ ds)
ghost_owed d ds = let other : sum (map ghost_bytes (d ∷ ds)) ≡ ghost_bytes d + sum (map ghost_bytes ds) = sum_first (ghost_bytes d) (map ghost_bytes ds) in omega (arith, other)

pub ghosted_less : (g : Bool) (ds : List GroupDelta) → owed_bytes true ds ≤ owed_bytes g ds
ghosted_less true ds = omega arith
ghosted_less false [] = omega arith
ghosted_less false (d ∷ ds) = let one = ghost_owed d ds in omega (arith, one)

drop_more : (n : ℕ) (d : GroupDelta) (ds : List GroupDelta) → drop (n + 1) (d ∷ ds) ≡ drop n ds
drop_more n d ds = ap (λ m. drop m (d ∷ ds)) (plus_one n)
  where
    plus_one : (n : ℕ) → n + 1 ≡ suc n
    plus_one n = omega arith

-- ---- effects of a session's transaction

module _ (limit : Option ℕ) (s : Store) (l : Log) (i : ℕ) (a : Act) (is : IsSession i) (r : Roomy limit s l) where
  -- with this transaction and no other change of what is asked
  did_as : (e : Effect) (o : Option Open) → (does the_views s i e).open_of i ≡ o → schema_of (does the_views s i e) ≡ schema_of s → ((p : Place) → Leaves p e)
      → IsBare o (logged_after s i l e) → IsThere (does the_views s i e).view o (logged_after s i l e)
      → (need : ℕ) → Within limit (l.used + reserved s l + need)
      → (logs s i a e l).used + reserved_by o (logged_after s i l e).ghosted ≤ l.used + reserved_by (s.open_of i) (l.logged i).ghosted + need
      → l.used + kept_bytes (schema_of s) o ≤ (logs s i a e l).used + kept_bytes (schema_of s) (s.open_of i)
      → Roomy limit (does the_views s i e) (logs s i a e l)
  did_as e o open_is objects leaves bare there need room takes keeps =
      let t : Store = does the_views s i e in
      let m : Log = logs s i a e l in
      let own : m.logged i ≡ logged_after s i l e = ap (λ (f : ℕ → Logged). f i) (logs_logged s i a e l) ∙ one_same l.logged i (logged_after s i l e) i refl in
      let both : ◌≡◌ {A = Option Open × Logged} (o, logged_after s i l e) (t.open_of i, m.logged i) = λ x. (sym open_is x, sym own x) in
      did_roomy limit s l i t m is r (record {
        others_open = λ j n. other_opens s i (e ∷ []) j n;
        others_logged = λ j n. ap (λ (f : ℕ → Logged). f j) (logs_logged s i a e l) ∙ one_other l.logged i (logged_after s i l e) j n;
        objects = objects;
        stays = λ j js n p h there. stays_there s i e p (leaves p) there;
        bare = subst (λ (x : Option Open × Logged). IsBare x.0 x.1) both bare;
        there = subst (λ (x : Option Open × Logged). IsThere t.view x.0 x.1) both there;
        need = need;
        room = room;
        takes = subst (λ (x : Option Open × Logged). m.used + reserved_by x.0 x.1.ghosted ≤ l.used + reserved_by (s.open_of i) (l.logged i).ghosted + need) both takes;
        keeps = subst (λ (x : Option Open × Logged). l.used + kept_bytes (schema_of s) x.0 ≤ m.used + kept_bytes (schema_of s) (s.open_of i)) both keeps;
      })

  no_need : Within limit (l.used + reserved s l + 0)
  no_need = within_less limit (l.used + reserved s l) (l.used + reserved s l + 0) r.fits (omega arith)

  pub opens : (mode : Mode) → s.open_of i ≡ None → (mode ≡ Serial → Within limit (l.used + reserved s l + end_bytes)) → Roomy limit (does the_views s i (Opens mode)) (logs s i a (Opens mode) l)
  opens Serial none room = did_as (Opens Serial) (Some (begun Serial (committed s).number)) (one_same s.open_of i (Some (begun Serial (committed s).number)) i refl) refl (λ p. tt)
      (λ e. absurd (cc e)) (λ e. absurd (cc e)) end_bytes (room refl)
      (let none_reserved : reserved_by (s.open_of i) (l.logged i).ghosted ≡ 0 = ap (λ (o : Option Open). reserved_by o (l.logged i).ghosted) none in omega (arith, none_reserved))
      (omega arith)
  opens Snapshot none room = did_as (Opens Snapshot) (Some (begun Snapshot (committed s).number)) (one_same s.open_of i (Some (begun Snapshot (committed s).number)) i refl) refl (λ p. tt)
      (λ e. (refl, refl)) (λ e. absurd (cc e)) 0 no_need
      (omega arith)
      (omega arith)

  module _ (open_now : s.open_of i ≡ Some (now s i)) where
    was_reserved : reserved_by (s.open_of i) (l.logged i).ghosted ≡ reserved_by (Some (now s i)) (l.logged i).ghosted
    was_reserved = ap (λ (o : Option Open). reserved_by o (l.logged i).ghosted) open_now

    was_kept : kept_bytes (schema_of s) (s.open_of i) ≡ kept_bytes (schema_of s) (Some (now s i))
    was_kept = ap (kept_bytes (schema_of s)) open_now

    pub was_bare : IsBare (Some (now s i)) (l.logged i)
    was_bare = subst (λ (o : Option Open). IsBare o (l.logged i)) open_now (r.bare i is)

    pub was_there : IsThere s.view (Some (now s i)) (l.logged i)
    was_there = subst (λ (o : Option Open). IsThere s.view o (l.logged i)) open_now (r.there i is)

    pub takes_wants : (wants : List Want) → Roomy limit (does the_views s i (Takes wants)) (logs s i a (Takes wants) l)
    takes_wants wants =
        let u : Open = record (now s i) { locks = wants ++ (now s i).locks } in
        did_as (Takes wants) (Some u) (one_same s.open_of i (Some u) i refl) refl (λ p. tt)
        was_bare (λ g d ds e. let old = was_there g d ds e in (holds_more Increment wants (now s i).locks d.view d.group old.0, old.1)) 0 no_need
        (let x = was_reserved in omega (arith, x)) (let x = was_kept in omega (arith, x))

    pub notes_it : (n : Note) → Roomy limit (does the_views s i (Notes n)) (logs s i a (Notes n) l)
    notes_it n =
        let u : Open = record (now s i) { notes = n ∷ (now s i).notes } in
        did_as (Notes n) (Some u) (one_same s.open_of i (Some u) i refl) refl (λ p. tt)
        was_bare was_there 0 no_need
        (let x = was_reserved in omega (arith, x)) (let x = was_kept in omega (arith, x))

    pub loses : Roomy limit (does the_views s i Loses) (logs s i a Loses l)
    loses =
        let u : Open = record (now s i) { is_lost = true } in
        did_as Loses (Some u) (one_same s.open_of i (Some u) i refl) refl (λ p. tt)
        was_bare was_there 0 no_need
        (let x = was_reserved in omega (arith, x)) (let x = was_kept in omega (arith, x))

    -- no more than an undo's record, and no less than before
    undo_used : (l.used ≤ (logs s i a Undoes l).used) × ((logs s i a Undoes l).used ≤ l.used + undo_bytes)
    undo_used = go (l.logged i).kept
      where
        go : (numbers : List ℕ) → (l.used ≤ (appended (schema_of s) (undo_record (l.logged i) numbers) (with_logged l i (logged_after s i l Undoes))).used)
            × ((appended (schema_of s) (undo_record (l.logged i) numbers) (with_logged l i (logged_after s i l Undoes))).used ≤ l.used + undo_bytes)
        go [] = (omega arith, omega arith)
        go (n ∷ numbers) = (omega arith, omega arith)

    abort_used : (l.used ≤ (logs s i a Ends l).used) × ((logs s i a Ends l).used ≤ l.used + abort_bytes)
    abort_used = go (l.logged i).wrote
      where
        go : (wrote : Bool) → (l.used ≤ (appended (schema_of s) (cond wrote (Some (Abort (l.logged i).transaction)) None) (with_logged l i not_logged)).used)
            × ((appended (schema_of s) (cond wrote (Some (Abort (l.logged i).transaction)) None) (with_logged l i not_logged)).used ≤ l.used + abort_bytes)
        go true = (omega arith, omega arith)
        go false = (omega arith, omega arith)

    -- ---- of a serial transaction

    module _ (serial : (now s i).mode ≡ Serial) where
      not_bare : {P : Type 0} → (now s i).mode ≡ Snapshot → P
      not_bare e = absurd (cc (sym serial ∙ e))

      pub serial_reserved : (u : Open) (ghosted : Bool) → u.mode ≡ (now s i).mode → reserved_by (Some u) ghosted ≡ end_bytes + undo_bytes * length u.kept + owed_bytes ghosted (still_owed u)
      serial_reserved u ghosted e = ap (λ (m : Mode). elim m [ Serial ↦ end_bytes + undo_bytes * length u.kept + owed_bytes ghosted (still_owed u) | Snapshot ↦ 0 ]) (e ∙ serial)

      pub was_serial : reserved_by (s.open_of i) (l.logged i).ghosted ≡ end_bytes + undo_bytes * length (now s i).kept + owed_bytes (l.logged i).ghosted (still_owed (now s i))
      was_serial = was_reserved ∙ serial_reserved (now s i) (l.logged i).ghosted refl

      pub writes : (p : Place) (new : Option Row) → (now s i).owed ≡ [] →
          let c : RowChange = change_at s p new in
          Within limit (l.used + reserved s l + write_need (schema_of s) c (owed (schema_of s) s.rows c)) → Roomy limit (does the_views s i (Writes p new)) (logs s i a (Writes p new) l)
      writes p new none room =
          let c : RowChange = change_at s p new in
          let ds : List GroupDelta = owed (schema_of s) s.rows c in
          let u : Open = record (now s i) { kept = Put c ds ∷ (now s i).kept; owed = ds; back = 0 } in
          let after : reserved_by (Some u) false ≡ end_bytes + undo_bytes * length u.kept + owed_bytes false (still_owed u) = serial_reserved u false refl in
          let x = was_serial in
          let k = was_kept in
          let one : kept_bytes (schema_of s) (Some u) ≡ write_bytes (schema_of s) c + kept_bytes (schema_of s) (Some (now s i)) = sum_first (write_bytes (schema_of s) c) (map (step_bytes (schema_of s)) (now s i).kept) in
          let nothing : owed_bytes (l.logged i).ghosted (still_owed (now s i)) ≡ 0 = ap (λ (y : List GroupDelta). owed_bytes (l.logged i).ghosted (drop (now s i).back y)) none ∙ owes_nothing (l.logged i).ghosted (now s i).back in
          did_as (Writes p new) (Some u) (one_same s.open_of i (Some u) i refl) refl (λ q. tt)
          (λ e. not_bare e) (λ e. absurd (cc e)) (write_need (schema_of s) c ds) room
          (omega (arith, after, x))
          (omega (arith, k, one))

      pub pays : (d : GroupDelta) (ds : List GroupDelta) → (now s i).owed ≡ d ∷ ds → (now s i).back ≡ 0 → Roomy limit (does the_views s i Pays) (logs s i a Pays l)
      pays d ds e back =
          let u : Open = record (now s i) { kept = Pay d ∷ (now s i).kept; owed = ds } in
          let open_is : (does the_views s i Pays).open_of i ≡ Some u = ap (λ (x : List GroupDelta). (paid_first s i (now s i) x).open_of i) e ∙ one_same s.open_of i (Some u) i refl in
          let objects_are : schema_of (does the_views s i Pays) ≡ schema_of s = ap (λ (x : List GroupDelta). schema_of (paid_first s i (now s i) x)) e in
          let used : (logs s i a Pays l).used ≡ l.used + delta_bytes d =
          ap (λ (x : List GroupDelta). (appended (schema_of s) (pay_record (l.logged i) x) (with_logged l i (keeps (l.logged i) l.next))).used) e in
          let before : owed_bytes (l.logged i).ghosted (still_owed (now s i)) ≡ owed_bytes (l.logged i).ghosted (d ∷ ds) = ap (owed_bytes (l.logged i).ghosted) ((λ x. drop (back x) (e x))) in
          let after_owed : owed_bytes false (still_owed u) ≡ owed_bytes false ds = ap (λ n. owed_bytes false (drop n ds)) back in
          let after : reserved_by (Some u) false ≡ end_bytes + undo_bytes * length u.kept + owed_bytes false (still_owed u) = serial_reserved u false refl in
          let less : owed_bytes false ds + pay_bytes d ≤ owed_bytes (l.logged i).ghosted (d ∷ ds) = first_owed (l.logged i).ghosted d ds in
          let x = was_serial in
          let k = was_kept in
          let one : kept_bytes (schema_of s) (Some u) ≡ delta_bytes d + kept_bytes (schema_of s) (Some (now s i)) = sum_first (delta_bytes d) (map (step_bytes (schema_of s)) (now s i).kept) in
          did_as Pays (Some u) open_is objects_are (λ q. tt)
          (λ m. not_bare m) (λ m. absurd (cc m)) 0 no_need
          (omega (arith, used, before, after_owed, after, less, x))
          (omega (arith, used, k, one))

    -- ---- what is taken back, and the end

    undoes_put : (c : RowChange) (ds : List GroupDelta) (ks : List KeptStep) → (now s i).kept ≡ Put c ds ∷ ks → Roomy limit (does the_views s i Undoes) (logs s i a Undoes l)
    undoes_put c ds ks e =
        let u : Open = record (now s i) { kept = ks; owed = []; back = 0; notes = notes_before (length ks) (now s i).notes } in
        let lg : Logged = record (l.logged i) { kept = rest (l.logged i).kept; ghosted = false } in
        let open_is : (does the_views s i Undoes).open_of i ≡ Some u = ap (λ (x : List KeptStep). (undone s i (now s i) x).open_of i) e ∙ one_same s.open_of i (Some u) i refl in
        let lg_is : logged_after s i l Undoes ≡ lg = ap (undoes (l.logged i)) e in
        let objects_are : schema_of (does the_views s i Undoes) ≡ schema_of s = ap (λ (x : List KeptStep). schema_of (undone s i (now s i) x)) e in
        let used = undo_used in
        let x = was_reserved in
        let k : kept_bytes (schema_of s) (s.open_of i) ≡ kept_bytes (schema_of s) (Some (now s i)) = was_kept in
        let before : kept_bytes (schema_of s) (Some (now s i)) ≡ write_bytes (schema_of s) c + kept_bytes (schema_of s) (Some u) =
        ap (λ (y : List KeptStep). sum (map (step_bytes (schema_of s)) y)) e ∙ sum_first (write_bytes (schema_of s) c) (map (step_bytes (schema_of s)) ks) in
        let long : length (now s i).kept ≡ length ks + 1 = ap length e ∙ omega arith in
        did_as Undoes (Some u) open_is objects_are (λ q. tt)
        (λ m. absurd (some_kept (Put c ds) ks (sym e ∙ (was_bare m).0)))
        (λ m. absurd (cc (sym (ap (λ (y : Logged). y.ghosted) lg_is) ∙ m))) 0 no_need
        (subst (λ (y : Logged). (logs s i a Undoes l).used + reserved_by (Some u) y.ghosted ≤ l.used + reserved_by (s.open_of i) (l.logged i).ghosted + 0) (sym lg_is)
        (by_mode (now s i).mode
        (λ m.
        let after : reserved_by (Some u) false ≡ end_bytes + undo_bytes * length u.kept + owed_bytes false (still_owed u) = serial_reserved m u false refl in
        let was : reserved_by (s.open_of i) (l.logged i).ghosted ≡ end_bytes + undo_bytes * length (now s i).kept + owed_bytes (l.logged i).ghosted (still_owed (now s i)) = was_serial m in
        omega (arith, used, after, was, long))
        (λ m. absurd (some_kept (Put c ds) ks (sym e ∙ (was_bare m).0)))))
        (omega (arith, used, k, before))

    undoes_pay : (d : GroupDelta) (ks : List KeptStep) → (now s i).kept ≡ Pay d ∷ ks → Roomy limit (does the_views s i Undoes) (logs s i a Undoes l)
    undoes_pay d ks e =
        let u : Open = record (now s i) { kept = ks; owed = d ∷ (now s i).owed; back = (now s i).back + 1 } in
        let lg : Logged = record (l.logged i) { kept = rest (l.logged i).kept } in
        let open_is : (does the_views s i Undoes).open_of i ≡ Some u = ap (λ (x : List KeptStep). (undone s i (now s i) x).open_of i) e ∙ one_same s.open_of i (Some u) i refl in
        let lg_is : logged_after s i l Undoes ≡ lg = ap (undoes (l.logged i)) e in
        let objects_are : schema_of (does the_views s i Undoes) ≡ schema_of s = ap (λ (x : List KeptStep). schema_of (undone s i (now s i) x)) e in
        let used = undo_used in
        let k : kept_bytes (schema_of s) (s.open_of i) ≡ kept_bytes (schema_of s) (Some (now s i)) = was_kept in
        let before : kept_bytes (schema_of s) (Some (now s i)) ≡ delta_bytes d + kept_bytes (schema_of s) (Some u) =
        ap (λ (y : List KeptStep). sum (map (step_bytes (schema_of s)) y)) e ∙ sum_first (delta_bytes d) (map (step_bytes (schema_of s)) ks) in
        let long : length (now s i).kept ≡ length ks + 1 = ap length e ∙ omega arith in
        let same : still_owed u ≡ still_owed (now s i) = drop_more (now s i).back d (now s i).owed in
        did_as Undoes (Some u) open_is objects_are (λ q. tt)
        (λ m. absurd (some_kept (Pay d) ks (sym e ∙ (was_bare m).0)))
        (λ m x xs o. let old = was_there (sym (ap (λ (y : Logged). y.ghosted) lg_is) ∙ m) x xs (sym same ∙ o) in (old.0, stays_there s i Undoes (place_of x) tt old.1)) 0 no_need
        (subst (λ (y : Logged). (logs s i a Undoes l).used + reserved_by (Some u) y.ghosted ≤ l.used + reserved_by (s.open_of i) (l.logged i).ghosted + 0) (sym lg_is)
        (by_mode (now s i).mode
        (λ m.
        let after : reserved_by (Some u) (l.logged i).ghosted ≡ end_bytes + undo_bytes * length u.kept + owed_bytes (l.logged i).ghosted (still_owed u) = serial_reserved m u (l.logged i).ghosted refl in
        let owes : owed_bytes (l.logged i).ghosted (still_owed u) ≡ owed_bytes (l.logged i).ghosted (still_owed (now s i)) = ap (owed_bytes (l.logged i).ghosted) same in
        let was : reserved_by (s.open_of i) (l.logged i).ghosted ≡ end_bytes + undo_bytes * length (now s i).kept + owed_bytes (l.logged i).ghosted (still_owed (now s i)) = was_serial m in
        omega (arith, used, after, was, long, owes))
        (λ m. absurd (some_kept (Pay d) ks (sym e ∙ (was_bare m).0)))))
        (omega (arith, used, k, before))

    pub undoes_latest : (k : KeptStep) (ks : List KeptStep) → (now s i).kept ≡ k ∷ ks → Roomy limit (does the_views s i Undoes) (logs s i a Undoes l)
    undoes_latest (Put c ds) ks e = undoes_put c ds ks e
    undoes_latest (Pay d) ks e = undoes_pay d ks e

    pub ends_it : Roomy limit (does the_views s i Ends) (logs s i a Ends l)
    ends_it = did_as Ends None (one_same s.open_of i None i refl) refl (λ q. tt) tt tt 0 no_need
        (by_mode (now s i).mode
        (λ m.
        let used = abort_used in
        let was : reserved_by (s.open_of i) (l.logged i).ghosted ≡ end_bytes + undo_bytes * length (now s i).kept + owed_bytes (l.logged i).ghosted (still_owed (now s i)) = was_serial m in
        omega (arith, used, was))
        (λ m.
        let used : (logs s i a Ends l).used ≡ l.used =
        ap (λ b. (appended (schema_of s) (cond b (Some (Abort (l.logged i).transaction)) None) (with_logged l i not_logged)).used) (was_bare m).1 in
        omega (arith, used)))
        (let used = abort_used in omega (arith, used))

    pub commits_it : (k : KeptStep) (ks : List KeptStep) → (now s i).kept ≡ k ∷ ks → schema_of (does the_views s i Commits) ≡ schema_of s → Roomy limit (does the_views s i Commits) (logs s i a Commits l)
    commits_it k ks e objects = did_as Commits None (one_same s.open_of i None i refl) objects (λ q. tt) tt tt 0 no_need
        (by_mode (now s i).mode
        (λ m.
        let was : reserved_by (s.open_of i) (l.logged i).ghosted ≡ end_bytes + undo_bytes * length (now s i).kept + owed_bytes (l.logged i).ghosted (still_owed (now s i)) = was_serial m in
        omega (arith, was))
        (λ m. absurd (some_kept k ks (sym e ∙ (was_bare m).0))))
        (omega arith)
