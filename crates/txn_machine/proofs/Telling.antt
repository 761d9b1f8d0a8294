-- What open transactions were told stays true, whatever other sessions do.
use Rattle.std.specs.Prelude.{◌≡◌, ◌≢◌, ℕ, suc, ◌+◌, ◌≤◌, nat_le, cond, true, false, filter, length, List, [], ◌∷◌, ◌++◌, Option, Some, None}
use Rattle.std.specs.List.{AllByRecursion}
use mathlib.Core.Path.{refl, sym, ap, subst, ◌∙◌}
use mathlib.Core.Logic.{inl, inr}
use Rattle.std.proofs.Common.{arith, append-nil}
use Rattle.std.proofs.lemmas.Bool.Decides.{leb_tells}
use Rattle.std.proofs.lemmas.List.Elements.{filter-append}
use Rattle.std.specs.FinMap.{get}
use Rattle.iv_types.specs.declared.statement.Mode.TheVariants.{Serial, Snapshot}
use Rattle.iv_types.specs.declared.lock.GroupDelta.{GroupDelta}
use Rattle.iv_types.specs.declared.lock.LockMode.TheVariants.{Exclusive}
use Rattle.iv_types.specs.declared.lock.Want.{Want}
use Rattle.iv_types.specs.declared.value.Interval.{Interval}
use Rattle.table_laws.specs.Place.{Place}
use Rattle.table_laws.specs.Kept.{redo, AreTrue}
use Rattle.iv_meaning.specs.Schema.{Schema}
use Rattle.iv_meaning.specs.View.{read}
use Rattle.iv_meaning.specs.Database.{Row, Rows, Database}
use Rattle.iv_meaning.specs.Statement.{defines}
use Rattle.iv_meaning.specs.History.{Entry, fold, state_at}
use Rattle.iv_meaning.specs.Escrow.{IsSession}
use Rattle.txn_machine.specs.Locks.{with_one}
use Rattle.txn_machine.specs.Deltas.{RowChange, owed}
use Rattle.txn_machine.specs.Keeping.{KeptStep, Put, Pay, changes_of, Open, begun, idle}
use Rattle.txn_machine.specs.Fresh.{fresh}
use Rattle.txn_machine.specs.Ghosts.{Holds, MayReadIn, the_views}
use Rattle.txn_machine.specs.Store.{Store, committed, schema_of, now, changes_by, locks_of, change_at, notes_before, paid_first, undone, entry_changes, Effect, Opens, Takes, Notes, Writes, Pays, Ghosts, Undoes, Loses, Ends, Commits, Defines, Cleans, Prunes, does, run}
use Rattle.txn_machine.specs.Alone.{Fact, Found, WasThere, TookBack, told_of_undo, with_changes, IsTrueIn, without_latest}
use Rattle.txn_machine.specs.ViewLaws.{AreSound}
pub use Rattle.txn_machine.specs.KeptLaws.{kept_after}
use Rattle.txn_machine.proofs.Basics.{one_same, one_other, holds_more, read_more}
use Rattle.txn_machine.proofs.Agreeing.{agree_first}
use Rattle.txn_machine.proofs.Entered.{AreProper, sound_redo}
use Rattle.txn_machine.proofs.Good.{the_open, own_sound, read_at}
use Rattle.txn_machine.proofs.Keeps.{for_more}
use Rattle.txn_machine.proofs.Runs.{IsGood, Can, CanAll, keeps, committed_after}
use Rattle.txn_machine.proofs.Looking.{view_laws}
use Rattle.txn_machine.proofs.Framing.{Framed, framed_commit, HoldsAll, holds_changes, framed_redo, reads_framed}

abbrev pub Good' : Store → Type 0
Good' = IsGood the_views fresh view_laws

abbrev pub Can' : Store → ℕ → Effect → Type 0
Can' = Can the_views fresh view_laws

-- ---- one thing that was told

pub record FoundGood (base : Database) (locks : List Want) (n : ℕ) (interval : Interval) (rows : List Row) (cs : List RowChange) : Type 0 where
  pub holds : HoldsAll base.schema locks cs
  pub proper : AreProper base.schema cs
  pub is_true : AreTrue base.rows cs
  pub may : MayReadIn locks n interval
  pub so : read (with_changes cs base) n interval ≡ rows

pub record WasGood (base : Database) (locks : List Want) (p : Place) (before : Option Row) (cs : List RowChange) : Type 0 where
  pub holds : HoldsAll base.schema locks cs
  pub proper : AreProper base.schema cs
  pub is_true : AreTrue base.rows cs
  pub key : Holds locks Exclusive p.0 p.1
  pub so : before ≡ get (redo cs base.rows) p

abbrev pub NoteGood : Database → List Want → Fact → Type 0
NoteGood base locks (Found n interval rows cs) = FoundGood base locks n interval rows cs
NoteGood base locks (WasThere p new before cs) = WasGood base locks p before cs
NoteGood base locks (TookBack cs) = Unit {0}

holds_all_more : (objects : Schema) (ls ms : List Want) (cs : List RowChange) → HoldsAll objects ms cs → HoldsAll objects (ls ++ ms) cs
holds_all_more objects ls ms [] h = tt
holds_all_more objects ls ms (c ∷ cs) h = (for_more objects ls ms c h.0, holds_all_more objects ls ms cs h.1)

notes_more : (base : Database) (ls ms : List Want) (told : List Fact) → AllByRecursion (NoteGood base ms) told → AllByRecursion (NoteGood base (ls ++ ms)) told
notes_more base ls ms [] h = tt
notes_more base ls ms (Found n interval rows cs ∷ told) h =
    (record { holds = holds_all_more base.schema ls ms cs h.0.holds; proper = h.0.proper; is_true = h.0.is_true; may = λ k l. read_more ls ms n k (h.0.may k l); so = h.0.so }, notes_more base ls ms told h.1)
notes_more base ls ms (WasThere p new before cs ∷ told) h =
    (record { holds = holds_all_more base.schema ls ms cs h.0.holds; proper = h.0.proper; is_true = h.0.is_true; key = holds_more Exclusive ls ms p.0 p.1 h.0.key; so = h.0.so }, notes_more base ls ms told h.1)
notes_more base ls ms (TookBack cs ∷ told) h = (tt, notes_more base ls ms told h.1)

notes_framed : (base : Database) (number : ℕ) (rows : Rows) (locks : List Want) → Framed base.schema locks base.rows rows → AreSound base.schema base.rows → AreSound base.schema rows
    → (told : List Fact) → AllByRecursion (NoteGood base locks) told → AllByRecursion (NoteGood (record { number = number; schema = base.schema; rows = rows }) locks) told
notes_framed base number rows locks f so ss [] h = tt
notes_framed base number rows locks f so ss (Found n interval found cs ∷ told) h =
    let r = framed_redo base.schema locks base.rows rows f so ss cs h.0.holds h.0.proper h.0.is_true in (
      record {
        holds = h.0.holds;
        proper = h.0.proper;
        is_true = r.1;
        may = h.0.may;
        so = sym (reads_framed base.schema base.number number locks (redo cs base.rows) (redo cs rows) r.0 (sound_redo base.schema base.rows cs so h.0.proper) (sound_redo base.schema rows cs ss h.0.proper) n interval h.0.may) ∙ h.0.so;
      },
      notes_framed base number rows locks f so ss told h.1,
    )
notes_framed base number rows locks f so ss (WasThere p new before cs ∷ told) h =
    let r = framed_redo base.schema locks base.rows rows f so ss cs h.0.holds h.0.proper h.0.is_true in (
      record {
        holds = h.0.holds;
        proper = h.0.proper;
        is_true = r.1;
        key = h.0.key;
        so = h.0.so ∙ agree_first base.schema (redo cs base.rows) (redo cs rows) p (r.0.agree p.0 p.1 (inr h.0.key));
      },
      notes_framed base number rows locks f so ss told h.1,
    )
notes_framed base number rows locks f so ss (TookBack cs ∷ told) h = (tt, notes_framed base number rows locks f so ss told h.1)

-- ---- what a transaction was told

pub record SerialTold (base : Database) (t : Open) (told : List Fact) : Type 0 where
  pub notes : AllByRecursion (NoteGood base t.locks) told
  pub trace : kept_after told ≡ changes_of t.kept

pub record SnapshotTold (origin : Database) (history : List Entry) (t : Open) (told : List Fact) : Type 0 where
  pub number : t.number ≤ (fold history origin).number
  pub nothing : t.kept ≡ []
  pub notes : AllByRecursion (IsTrueIn (state_at origin history t.number)) told

pub record NoteFor (origin : Database) (history : List Entry) (t : Open) (told : List Fact) : Type 0 where
  pub serial : t.mode ≡ Serial → SerialTold (fold history origin) t told
  pub snapshot : t.mode ≡ Snapshot → SnapshotTold origin history t told

abbrev pub NoteOf : Database → List Entry → Option Open → List Fact → Type 0
NoteOf origin history None told = told ≡ []
NoteOf origin history (Some t) told = NoteFor origin history t told

not_snapshot : Serial ≡ Snapshot → ⊥
not_snapshot e = cc

-- where none is open, what stands for a transaction was told nothing
note_now : (s : Store) (i : ℕ) (told : List Fact) → NoteOf s.origin s.history (s.open_of i) told → ((now s i).mode ≡ Serial → SerialTold (committed s) (now s i) told)
note_now s i told h = go (s.open_of i) h
  where
    go : (o : Option Open) → NoteOf s.origin s.history o told → ((the_open o).mode ≡ Serial → SerialTold (committed s) (the_open o) told)
    go None e m = subst (λ l. SerialTold (committed s) idle l) (sym e) (record { notes = tt; trace = refl })
    go (Some t) h m = h.serial m

snap_now : (s : Store) (i : ℕ) (told : List Fact) → NoteOf s.origin s.history (s.open_of i) told → ((now s i).mode ≡ Snapshot → SnapshotTold s.origin s.history (now s i) told)
snap_now s i told h = go (s.open_of i) h
  where
    go : (o : Option Open) → NoteOf s.origin s.history o told → ((the_open o).mode ≡ Snapshot → SnapshotTold s.origin s.history (the_open o) told)
    go None e m = absurd (not_snapshot m)
    go (Some t) h m = h.snapshot m

-- ---- effects

abbrev pub tell : Store → ℕ → Effect → List Fact → List Fact
tell s i (Opens mode) told = []
tell s i (Notes n) told = Found n.index n.interval n.rows (changes_by s i) ∷ told
tell s i (Writes p new) told = WasThere p new (get s.rows p) (changes_by s i) ∷ told
tell s i Undoes told = told_of_undo (now s i).kept told
tell s i Ends told = []
tell s i Commits told = []
tell s i _ told = told

-- what is noted is read from the session's own database
abbrev pub CanTell : Store → ℕ → Effect → Type 0
CanTell s i (Notes n) = MayReadIn (locks_of s i) n.index n.interval × (read (with_changes (changes_by s i) (committed s)) n.index n.interval ≡ n.rows)
CanTell s i (Defines o) = s.open_of i ≡ None
CanTell s i _ = Unit {0}

-- the transaction is this one now, of the same mode and number, and no commit came
set_note : (s : Store) (i : ℕ) (u : Open) (told : List Fact) → u.mode ≡ (now s i).mode → u.number ≡ (now s i).number → (told' : List Fact)
    → NoteOf s.origin s.history (s.open_of i) told → (SerialTold (committed s) (now s i) told → SerialTold (committed s) u told')
    → ((now s i).mode ≡ Snapshot → (told' ≡ told) × (u.kept ≡ (now s i).kept))
    → NoteOf s.origin s.history (with_one s.open_of i (Some u) i) told'
set_note s i u told mode number told' h serial snapshot = subst (λ (o : Option Open). NoteOf s.origin s.history o told') (sym (one_same s.open_of i (Some u) i refl)) (record {
  serial = λ m. serial (note_now s i told h (sym mode ∙ m));
  snapshot = λ m.
      let was = snap_now s i told h (sym mode ∙ m) in
      let stays = snapshot (sym mode ∙ m) in
      subst (λ l. SnapshotTold s.origin s.history u l) (sym stays.0) (record {
        nothing = stays.1 ∙ was.nothing;
        number = subst (λ n. n ≤ (committed s).number) (sym number) was.number;
        notes = subst (λ n. AllByRecursion (IsTrueIn (state_at s.origin s.history n)) told) (sym number) was.notes;
      });
})

-- a serial transaction alone writes, notes and takes back
abbrev IsSerial : Store → ℕ → Effect → Type 0
IsSerial s i (Notes n) = (now s i).mode ≡ Serial
IsSerial s i (Writes p new) = (now s i).mode ≡ Serial
IsSerial s i (Opens mode) = Unit {0}
IsSerial s i Pays = (now s i).mode ≡ Serial
IsSerial s i _ = Unit {0}

never : (s : Store) (i : ℕ) {P : Type 0} → (now s i).mode ≡ Serial → (now s i).mode ≡ Snapshot → P
never s i a b = absurd (not_snapshot (sym a ∙ b))

not_nothing : (k : KeptStep) (ks : List KeptStep) → k ∷ ks ≡ [] → ⊥
not_nothing k ks e = cc

own_pays : (s : Store) (i : ℕ) (told : List Fact) (owes : List GroupDelta) → (now s i).mode ≡ Serial → NoteOf s.origin s.history (s.open_of i) told
    → NoteOf (paid_first s i (now s i) owes).origin (paid_first s i (now s i) owes).history ((paid_first s i (now s i) owes).open_of i) told
own_pays s i told [] m h = h
own_pays s i told (d ∷ ds) m h = set_note s i (record (now s i) { kept = Pay d ∷ (now s i).kept; owed = ds }) told refl refl told h (λ g. record { notes = g.notes; trace = g.trace }) (never s i m)

own_undoes : (s : Store) (i : ℕ) (told : List Fact) (ks : List KeptStep) → (now s i).kept ≡ ks → NoteOf s.origin s.history (s.open_of i) told
    → NoteOf (undone s i (now s i) ks).origin (undone s i (now s i) ks).history ((undone s i (now s i) ks).open_of i) (told_of_undo ks told)
own_undoes s i told [] e h = h
own_undoes s i told (Put c ds ∷ ks) e h = set_note s i (record (now s i) { kept = ks; owed = []; back = 0; notes = notes_before (length ks) (now s i).notes }) told refl refl (told_of_undo (Put c ds ∷ ks) told) h
    (λ g. record { notes = (tt, g.notes); trace = ap without_latest (g.trace ∙ ap changes_of e) }) (λ x. absurd (not_nothing (Put c ds) ks (sym e ∙ (snap_now s i told h x).nothing)))
own_undoes s i told (Pay d ∷ ks) e h = set_note s i (record (now s i) { kept = ks; owed = d ∷ (now s i).owed; back = (now s i).back + 1 }) told refl refl told h
    (λ g. record { notes = g.notes; trace = g.trace ∙ ap changes_of e }) (λ x. absurd (not_nothing (Pay d) ks (sym e ∙ (snap_now s i told h x).nothing)))

pub own_effect : (s : Store) (i : ℕ) (e : Effect) → Good' s → Can' s i e → CanTell s i e → IsSerial s i e → (told : List Fact) → NoteOf s.origin s.history (s.open_of i) told
    → NoteOf (does the_views s i e).origin (does the_views s i e).history ((does the_views s i e).open_of i) (tell s i e told)
own_effect s i (Opens mode) g can ct m told h = subst (λ (o : Option Open). NoteOf s.origin s.history o []) (sym (one_same s.open_of i (Some (begun mode (committed s).number)) i refl)) (record {
  serial = λ x. record { notes = tt; trace = refl };
  snapshot = λ x. record { number = omega arith; nothing = refl; notes = tt };
})
own_effect s i (Takes wants) g can ct m told h = set_note s i (record (now s i) { locks = wants ++ (now s i).locks }) told refl refl told h
    (λ n. record { notes = notes_more (committed s) wants (now s i).locks told n.notes; trace = n.trace }) (λ x. (refl, refl))
own_effect s i (Notes n) g can ct m told h =
    let t = g.each i can in
    set_note s i (record (now s i) { notes = n ∷ (now s i).notes }) told refl refl (Found n.index n.interval n.rows (changes_by s i) ∷ told) h
    (λ x. record {
      notes = (record { holds = holds_changes (schema_of s) (locks_of s i) (now s i).kept t.held; proper = t.proper; is_true = g.stored.told i can; may = ct.0; so = ct.1 }, x.notes);
      trace = x.trace;
    }) (never s i m)
own_effect s i (Writes p new) g can ct m told h =
    let t = g.each i can.0 in
    let c : RowChange = change_at s p new in
    let ds : List GroupDelta = owed (schema_of s) s.rows c in
    set_note s i (record (now s i) { kept = Put c ds ∷ (now s i).kept; owed = ds; back = 0 }) told refl refl (WasThere p new (get s.rows p) (changes_by s i) ∷ told) h
    (λ x. record {
      notes = (
        record {
          holds = holds_changes (schema_of s) (locks_of s i) (now s i).kept t.held;
          proper = t.proper;
          is_true = g.stored.told i can.0;
          key = can.2.key;
          so = agree_first (schema_of s) s.rows (redo (changes_by s i) (committed s).rows) p (read_at the_views fresh view_laws (committed s) s g i can.0 p.0 p.1 (inr can.2.key));
        },
        x.notes,
      );
      trace = ap (λ l. c ∷ l) x.trace;
    }) (never s i m)
own_effect s i Pays g can ct m told h = own_pays s i told (now s i).owed m h
own_effect s i (Ghosts p n) g can ct m told h = h
own_effect s i Undoes g can ct m told h = own_undoes s i told (now s i).kept refl h
own_effect s i Loses g can ct m told h = set_note s i (record (now s i) { is_lost = true }) told refl refl told h (λ x. record { notes = x.notes; trace = x.trace }) (λ x. (refl, refl))
own_effect s i Ends g can ct m told h = subst (λ (o : Option Open). NoteOf s.origin s.history o []) (sym (one_same s.open_of i None i refl)) refl
own_effect s i Commits g can ct m told h = subst (λ (o : Option Open). NoteOf s.origin (s.history ++ record { number = (committed s).number + 1; session = i; kept = entry_changes (now s i).kept } ∷ []) o []) (sym (one_same s.open_of i None i refl)) refl
own_effect s i (Defines o) g can ct m told h =
    subst (λ (x : Option Open). NoteOf s.origin (s.history ++ record { number = (committed s).number + 1; session = i; kept = defines o ∷ [] } ∷ []) x told) (sym ct)
    (subst (λ (x : Option Open). NoteOf s.origin s.history x told) ct h)
own_effect s i (Cleans p) g can ct m told h = h
own_effect s i Prunes g can ct m told h = h

-- ---- the other sessions

pub above : (x n : ℕ) → suc n ≤ x → nat_le x n ≡ false
above x n h = elim (leb_tells x n) [ inl t ↦ absurd (let l = t.1 in omega arith) | inr f ↦ f.0 ]

-- an entry of a greater number does not change the state at this one
pub state_at_push : (origin : Database) (es : List Entry) (e : Entry) (n : ℕ) → suc n ≤ e.number → state_at origin (es ++ e ∷ []) n ≡ state_at origin es n
state_at_push origin es e n h =
    ap (λ l. fold l origin) (filter-append (λ (x : Entry). nat_le x.number n) es (e ∷ [])
    ∙ (ap (λ b. filter (λ (x : Entry). nat_le x.number n) es ++ cond b (e ∷ []) []) (above e.number n h) ∙ append-nil (filter (λ (x : Entry). nat_le x.number n) es)))

other_pays : (s : Store) (i j : ℕ) → j ≢ i → (told : List Fact) (owes : List GroupDelta) → NoteOf s.origin s.history (s.open_of j) told
    → NoteOf (paid_first s i (now s i) owes).origin (paid_first s i (now s i) owes).history ((paid_first s i (now s i) owes).open_of j) told
other_pays s i j n told [] h = h
other_pays s i j n told (d ∷ ds) h = subst (λ (o : Option Open). NoteOf s.origin s.history o told) (sym (one_other s.open_of i (Some (record (now s i) { kept = Pay d ∷ (now s i).kept; owed = ds })) j n)) h

other_undoes : (s : Store) (i j : ℕ) → j ≢ i → (told : List Fact) (ks : List KeptStep) → NoteOf s.origin s.history (s.open_of j) told
    → NoteOf (undone s i (now s i) ks).origin (undone s i (now s i) ks).history ((undone s i (now s i) ks).open_of j) told
other_undoes s i j n told [] h = h
other_undoes s i j n told (Put c ds ∷ ks) h = subst (λ (o : Option Open). NoteOf s.origin s.history o told) (sym (one_other s.open_of i (Some (record (now s i) { kept = ks; owed = []; back = 0; notes = notes_before (length ks) (now s i).notes })) j n)) h
other_undoes s i j n told (Pay d ∷ ks) h = subst (λ (o : Option Open). NoteOf s.origin s.history o told) (sym (one_other s.open_of i (Some (record (now s i) { kept = ks; owed = d ∷ (now s i).owed; back = (now s i).back + 1 })) j n)) h

module _ (s : Store) (i : ℕ) (g : Good' s) (is : IsSession i) (owes : (now s i).owed ≡ []) where
  abbrev made : Entry
  made = record { number = (committed s).number + 1; session = i; kept = entry_changes (now s i).kept }

  other_commits : (j : ℕ) → IsSession j → j ≢ i → (told : List Fact) (o : Option Open) → s.open_of j ≡ o → NoteOf s.origin s.history o told → NoteOf s.origin (s.history ++ made ∷ []) o told
  other_commits j js n told None e h = h
  other_commits j js n told (Some t) e h =
      let base : Database = committed s in
      let is_now : fold (s.history ++ made ∷ []) s.origin ≡ record { number = base.number + 1; schema = base.schema; rows = redo (changes_by s i) base.rows } = committed_after the_views fresh view_laws s i in
      let locks_are : locks_of s j ≡ t.locks = ap (λ (x : Option Open). (the_open x).locks) e in
      record {
        serial = λ m.
            let was = h.serial m in
            subst (λ (d : Database). SerialTold d t told) (sym is_now) (record {
              notes = notes_framed base (base.number + 1) (redo (changes_by s i) base.rows) t.locks (subst (λ l. Framed base.schema l base.rows (redo (changes_by s i) base.rows)) locks_are (framed_commit base s g i j is js n owes))
                  g.sound (own_sound the_views fresh view_laws base s g i is) told was.notes;
              trace = was.trace;
            });
        snapshot = λ m.
            let was = h.snapshot m in
            let number_is : (fold (s.history ++ made ∷ []) s.origin).number ≡ base.number + 1 = ap (λ (d : Database). d.number) is_now in
            let below : t.number ≤ base.number = was.number in
            record {
              number = subst (λ x. t.number ≤ x) (sym number_is) (omega (arith, below));
              nothing = was.nothing;
              notes = subst (λ (d : Database). AllByRecursion (IsTrueIn d) told) (sym (state_at_push s.origin s.history made t.number (omega (arith, below)))) was.notes;
            };
      }

pub other_effect : (s : Store) (i : ℕ) (e : Effect) → Good' s → Can' s i e → (j : ℕ) → IsSession j → j ≢ i → (told : List Fact) → NoteOf s.origin s.history (s.open_of j) told
    → NoteOf (does the_views s i e).origin (does the_views s i e).history ((does the_views s i e).open_of j) told
other_effect s i (Opens mode) g can j js n told h = subst (λ (o : Option Open). NoteOf s.origin s.history o told) (sym (one_other s.open_of i (Some (begun mode (committed s).number)) j n)) h
other_effect s i (Takes wants) g can j js n told h = subst (λ (o : Option Open). NoteOf s.origin s.history o told) (sym (one_other s.open_of i (Some (record (now s i) { locks = wants ++ (now s i).locks })) j n)) h
other_effect s i (Notes x) g can j js n told h = subst (λ (o : Option Open). NoteOf s.origin s.history o told) (sym (one_other s.open_of i (Some (record (now s i) { notes = x ∷ (now s i).notes })) j n)) h
other_effect s i (Writes p new) g can j js n told h =
    let ds : List GroupDelta = owed (schema_of s) s.rows (change_at s p new) in
    subst (λ (o : Option Open). NoteOf s.origin s.history o told) (sym (one_other s.open_of i (Some (record (now s i) { kept = Put (change_at s p new) ds ∷ (now s i).kept; owed = ds; back = 0 })) j n)) h
other_effect s i Pays g can j js n told h = other_pays s i j n told (now s i).owed h
other_effect s i (Ghosts p x) g can j js n told h = h
other_effect s i Undoes g can j js n told h = other_undoes s i j n told (now s i).kept h
other_effect s i Loses g can j js n told h = subst (λ (o : Option Open). NoteOf s.origin s.history o told) (sym (one_other s.open_of i (Some (record (now s i) { is_lost = true })) j n)) h
other_effect s i Ends g can j js n told h = subst (λ (o : Option Open). NoteOf s.origin s.history o told) (sym (one_other s.open_of i None j n)) h
other_effect s i Commits g can j js n told h =
    subst (λ (o : Option Open). NoteOf s.origin (s.history ++ made s i g can.0 can.1 ∷ []) o told) (sym (one_other s.open_of i None j n)) (other_commits s i g can.0 can.1 j js n told (s.open_of j) refl h)
other_effect s i (Defines o) g can j js n told h =
    subst (λ (x : Option Open). NoteOf s.origin (s.history ++ record { number = (committed s).number + 1; session = i; kept = defines o ∷ [] } ∷ []) x told) (sym (can.none_open j js))
    (subst (λ (x : Option Open). NoteOf s.origin s.history x told) (can.none_open j js) h)
other_effect s i (Cleans p) g can j js n told h = h
other_effect s i Prunes g can j js n told h = h

-- ---- effects one after another

abbrev pub TellAll : Store → ℕ → List Effect → Type 0
TellAll s i [] = Unit {0}
TellAll s i (e ∷ es) = (CanTell s i e × IsSerial s i e) × TellAll (does the_views s i e) i es

abbrev pub tell_all : Store → ℕ → List Effect → List Fact → List Fact
tell_all s i [] told = told
tell_all s i (e ∷ es) told = tell_all (does the_views s i e) i es (tell s i e told)

pub own_run : (s : Store) (i : ℕ) (es : List Effect) → Good' s → CanAll the_views fresh view_laws s i es → TellAll s i es → (told : List Fact) → NoteOf s.origin s.history (s.open_of i) told
    → NoteOf (run the_views s i es).origin (run the_views s i es).history ((run the_views s i es).open_of i) (tell_all s i es told)
own_run s i [] g can t told h = h
own_run s i (e ∷ es) g can t told h =
    own_run (does the_views s i e) i es (keeps the_views fresh view_laws s i e g can.0) can.1 t.1 (tell s i e told) (own_effect s i e g can.0 t.0.0 t.0.1 told h)

pub other_run : (s : Store) (i : ℕ) (es : List Effect) → Good' s → CanAll the_views fresh view_laws s i es → (j : ℕ) → IsSession j → j ≢ i → (told : List Fact) → NoteOf s.origin s.history (s.open_of j) told
    → NoteOf (run the_views s i es).origin (run the_views s i es).history ((run the_views s i es).open_of j) told
other_run s i [] g can j js n told h = h
other_run s i (e ∷ es) g can j js n told h =
    other_run (does the_views s i e) i es (keeps the_views fresh view_laws s i e g can.0) can.1 j js n told (other_effect s i e g can.0 j js n told h)
