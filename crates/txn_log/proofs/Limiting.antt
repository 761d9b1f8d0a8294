-- Over every run of the machine, the bytes of data stay within the limit.
use Rattle.std.specs.Prelude.{◌≡◌, ℕ, zero, suc, ◌+◌, ◌≤◌, ℤ, List, [], ◌∷◌, ◌++◌, map, length, drop, Option, Some, None, IsSome}
use Rattle.std.specs.List.{Contains, sum}
use Rattle.std.specs.FinMap.{get}
use mathlib.Core.Path.{refl, sym, ap, subst, ◌∙◌}
use mathlib.Core.Logic.{inl, inr}
use Rattle.std.proofs.Common.{arith}
use Rattle.iv_types.specs.declared.session.Sessions.{Sessions}
use Rattle.iv_types.specs.declared.session.Cycle.{Cycle}
use Rattle.iv_types.specs.declared.statement.Mode.{Mode}
use Rattle.iv_types.specs.declared.statement.Mode.TheVariants.{Serial}
use Rattle.iv_types.specs.declared.lock.GroupDelta.{GroupDelta}
use Rattle.iv_types.specs.declared.lock.LockMode.TheVariants.{Increment}
use Rattle.iv_types.specs.declared.lock.Want.{Want}
use Rattle.iv_types.specs.declared.refusal.EngineRefusal.TheVariants as refusal
use Rattle.iv_types.specs.Printing.{statement_text}
use Rattle.table_laws.specs.Place.{Place}
use Rattle.table_laws.specs.Kept.{Touches, redo}
use Rattle.table_laws.proofs.Stored.{by_session}
use Rattle.iv_meaning.specs.Schema.{Schema, Object}
use Rattle.iv_meaning.specs.Database.{Row, Rows, Database}
use Rattle.iv_meaning.specs.Escrow.{IsSession}
use Rattle.txn_machine.specs.Acts as act
use Rattle.txn_machine.specs.Acts.{Act}
use Rattle.txn_machine.specs.Answers as answer
use Rattle.txn_machine.specs.Answers.{Answer}
use Rattle.txn_machine.specs.Deltas.{RowChange, place_of}
use Rattle.txn_machine.specs.Keeping.{KeptStep, Put, Pay, changes_of, Note, Open}
use Rattle.txn_machine.specs.Stored.{add_all}
use Rattle.txn_machine.specs.Counts.{sum_over}
use Rattle.txn_machine.specs.Fresh.{fresh, made_of}
use Rattle.txn_machine.specs.Ghosts.{Holds, the_views}
use Rattle.txn_machine.specs.KeptLaws.{IsDelta}
use Rattle.txn_machine.specs.ViewLaws.{AreSound}
use Rattle.txn_machine.specs.Log.{Within, Logged, Log, logs, log_all, still_owed, view_entry, view_entries, definition_entries, made_entries, room_kept, data_bytes}
use Rattle.txn_machine.specs.Store.{Store, committed, schema_of, now, changes_by, locks_of, change_at, Effect, Opens, Takes, Notes, Writes, Pays, Undoes, Loses, Ends, Commits, Defines, Cleans, Prunes, does, run}
use Rattle.txn_machine.specs.State.{State}
use Rattle.txn_machine.specs.May.{IsOpenIn, MayAct, Owes}
use Rattle.txn_machine.specs.Steps.{NoneIsOpen, CommitsAs, Says, Does, with_ghost, log_after, definitions_after, texts_of, MayWait, MakesGhost, data_need}
use Rattle.txn_machine.proofs.Basics.{one_same, one_other}
use Rattle.txn_machine.proofs.Agreeing.{written_at}
use Rattle.txn_machine.proofs.Good.{PaysOn, stored_sound}
use Rattle.txn_machine.proofs.Holding.{contains_here}
use Rattle.txn_machine.proofs.Looking.{view_laws}
use Rattle.txn_machine.proofs.LogRoom.{within_less, IsThere, stay_there, logs_logged}
use Rattle.txn_machine.proofs.LogSums.{sum_same, sum_none}
use Rattle.txn_machine.proofs.Parting.{stays_there}
use Rattle.txn_machine.proofs.Reached.{may_define}
use Rattle.txn_machine.proofs.Runs.{CanDefine, committed_after, defined, rows_are}
use Rattle.txn_machine.proofs.Shapes.{Stored', all_are, owes_deltas}
use Rattle.txn_machine.proofs.Stepping.{now_is, now_locked}
use Rattle.txn_machine.proofs.Telling.{Good'}
use Rattle.txn_log.specs.Room.{rows_bytes}
use Rattle.txn_log.proofs.Rooming.{wrote_total}
use Rattle.txn_log.proofs.Defining.{sum_append, made_more}
use Rattle.txn_log.proofs.Enlarging.{Ample, first_or, same_logged, opens, takes_wants, notes_it, loses, writes, pays, undoes_put, undoes_pay, ends_it, commits_it, ghost_absent, ghost_present}
use Rattle.txn_log.proofs.Tying.{some_of}

-- the same is known of transactions
same_ample : (limit : Option ℕ) (texts : List (List ℕ)) (s : Store) (l m : Log) → ((j : ℕ) → m.logged j ≡ l.logged j) → Ample limit texts s l → Ample limit texts s m
same_ample limit texts s l m same r = record {
  there = λ j js. subst (λ (x : Logged). IsThere s.view (s.open_of j) x) (sym (same j)) (r.there j js);
  fits =
      let rooms = sum_same 64 (λ j. room_kept (schema_of s) (s.open_of j) (l.logged j).ghosted) (λ j. room_kept (schema_of s) (s.open_of j) (m.logged j).ghosted)
      (λ j lo hi. ap (λ (x : Logged). room_kept (schema_of s) (s.open_of j) x.ghosted) (same j)) in
      within_less limit (data_bytes s l texts) (data_bytes s m texts) r.fits (omega (arith, rooms));
}

-- ---- effects that no transaction makes

module _ (limit : Option ℕ) (texts : List (List ℕ)) (s : Store) (l : Log) (i : ℕ) (a : Act) (r : Ample limit texts s l) where
  -- no transaction and no row changes, and view rows take no more
  still_ample : (t : Store) (m : Log) → ((j : ℕ) → t.open_of j ≡ s.open_of j) → ((j : ℕ) → m.logged j ≡ l.logged j) → schema_of t ≡ schema_of s → t.rows ≡ s.rows
      → ((j : ℕ) → IsSession j → (p : Place) → Holds (locks_of s j) Increment p.0 p.1 → IsSome (get s.view p) → IsSome (get t.view p))
      → view_entries t.view ≤ view_entries s.view → Ample limit texts t m
  still_ample t m open_same logged_same objects rows stays less = record {
    there = λ j js. subst (λ (x : Option Open × Logged). IsThere t.view x.0 x.1) (λ x. (sym (open_same j) x, sym (logged_same j) x)) (stay_there s.view t.view (s.open_of j) (l.logged j) (stays j js) (r.there j js));
    fits =
        let bytes : rows_bytes (schema_of t) t.rows ≡ rows_bytes (schema_of s) s.rows = λ x. rows_bytes (objects x) (rows x) in
        let rooms = sum_same 64 (λ j. room_kept (schema_of s) (s.open_of j) (l.logged j).ghosted) (λ j. room_kept (schema_of t) (t.open_of j) (m.logged j).ghosted)
        (λ j lo hi x. room_kept (objects x) (open_same j x) (logged_same j x).ghosted) in
        within_less limit (data_bytes s l texts) (data_bytes t m texts) r.fits (omega (arith, bytes, rooms, less));
  }

  prunes_it : Ample limit texts (does the_views s i Prunes) (logs s i a Prunes l)
  prunes_it = still_ample (does the_views s i Prunes) (logs s i a Prunes l) (λ j. refl) (same_logged s i a Prunes l (logs_logged s i a Prunes l)) refl refl (λ j js p h there. there) (omega arith)

  cleans_it : (q : Place) → ((j : ℕ) → IsSession j → Holds (locks_of s j) Increment q.0 q.1 → ⊥) → Ample limit texts (does the_views s i (Cleans q)) (logs s i a (Cleans q) l)
  cleans_it q free = still_ample (does the_views s i (Cleans q)) (logs s i a (Cleans q) l) (λ j. refl) (same_logged s i a (Cleans q) l (logs_logged s i a (Cleans q) l)) refl refl
      (λ j js p h there. stays_there s i (Cleans q) p (λ e. free j js (subst (λ (x : Place). Holds (locks_of s j) Increment x.0 x.1) e h)) there)
      (let moved = wrote_total (λ (p : Place) (xs : List ℤ). view_entry p (length xs)) s.view q None in omega (arith, moved))

  -- a definition, with its text
  pub defines_it : Good' s → Stored' s → (o : Object) → CanDefine the_views fresh view_laws s o → (later : List (List ℕ)) (text : ℕ) → sum (map definition_entries later) ≡ sum (map definition_entries texts) + text
      → Within limit (data_bytes s l texts + (text + made_entries (schema_of s) (committed s).rows o)) → Ample limit later (does the_views s i (Defines o)) (logs s i a (Defines o) l)
  defines_it g shape o can later text more room =
      let t : Store = does the_views s i (Defines o) in
      let m : Log = logs s i a (Defines o) l in
      let objects : Schema = schema_of s ++ o ∷ [] in
      let base : Rows = (committed s).rows in
      let none : NoneIsOpen s = can.none_open in
      let objects_are : schema_of t ≡ objects = ap (λ (db : Database). db.schema) (defined the_views fresh view_laws s i o) in
      let rows_same : s.rows ≡ base = rows_are the_views fresh view_laws s g o can in record {
        there = λ j js. subst (λ (x : Option Open). IsThere t.view x (m.logged j)) (sym (none j js)) tt;
        fits =
            let rows : rows_bytes (schema_of t) t.rows ≡ rows_bytes objects s.rows = ap (λ (x : Schema). rows_bytes x s.rows) objects_are in
            let view : view_entries t.view ≡ view_entries (add_all s.view (made_of objects s.rows o)) = ap (λ (x : Schema). view_entries (add_all s.view (made_of x s.rows o))) objects_are in
            let made = made_more (schema_of s) o s.rows s.view (stored_sound the_views fresh view_laws (committed s) s g) shape (subst (AreSound objects) (sym rows_same) can.sound) in
            let same = ap (λ (x : Rows). made_entries (schema_of s) x o) rows_same in
            let rooms : sum_over 64 (λ j. room_kept (schema_of t) (t.open_of j) (m.logged j).ghosted) ≡ 0 =
            sum_none 64 (λ j. room_kept (schema_of t) (t.open_of j) (m.logged j).ghosted) (λ j lo hi. ap (λ (x : Option Open). room_kept (schema_of t) x (m.logged j).ghosted) (none j (lo, hi))) in
            within_less limit (data_bytes s l texts + (text + made_entries (schema_of s) base o)) (data_bytes t m later) room (omega (arith, rows, view, made, same, rooms, more));
      }

-- ---- the latest kept step is taken back

module _ (s : Store) (g : Good' s) (shape : Stored' s) (i : ℕ) (is : IsSession i) where
  -- a change that is kept last stands
  stands : (c : RowChange) (ds : List GroupDelta) (ks : List KeptStep) → (now s i).kept ≡ Put c ds ∷ ks → get s.rows c.key ≡ c.after
  stands c ds ks e =
      let base : Rows = (committed s).rows in
      let changes : changes_by s i ≡ c ∷ changes_of ks = ap changes_of e in
      g.stored.own i c.key is (subst (Touches c.key) (sym changes) (inl refl))
      ∙ (ap (λ cs. get (redo cs base) c.key) changes ∙ written_at (redo (changes_of ks) base) c.key c.after c.key refl)

  paid_there : (d : GroupDelta) (ks : List KeptStep) → (now s i).kept ≡ Pay d ∷ ks → IsSome (get s.view (place_of d))
  paid_there d ks e = some_of (get s.view (place_of d)) (λ none. g.present (place_of d) none i is (subst (PaysOn (place_of d)) (sym e) (inl refl)))

  undoes_latest : (limit : Option ℕ) (texts : List (List ℕ)) (l : Log) (a : Act) → Ample limit texts s l → s.open_of i ≡ Some (now s i) → (k : KeptStep) (ks : List KeptStep) → (now s i).kept ≡ k ∷ ks
      → Ample limit texts (does the_views s i Undoes) (logs s i a Undoes l)
  undoes_latest limit texts l a r open_is (Put c ds) ks e = undoes_put limit texts s l i a is r open_is c ds ks e (stands c ds ks e)
  undoes_latest limit texts l a r open_is (Pay d) ks e = undoes_pay limit texts s l i a is r open_is d ks e
      ((all_are s g i is).1 d (subst (λ (x : List KeptStep). Contains x (Pay d)) (sym e) (contains_here (Pay d) ks))) shape (paid_there d ks e)

-- ---- answers

-- a transaction that goes on stands for its session
pub open_now : (s : Store) (i : ℕ) (t : Open) → s.open_of i ≡ Some t → s.open_of i ≡ Some (now s i)
open_now s i t e = e ∙ ap Some (sym (now_is view_laws s i t e))

module _ (s : State) (i : ℕ) (g : Good' s.store) (shape : Stored' s.store) (r : Ample s.opening.data_limit (texts_of s) s.store s.log) where
  abbrev limit : Option ℕ
  limit = s.opening.data_limit

  abbrev texts : List (List ℕ)
  texts = texts_of s

  abbrev After : Act → List Effect → Type 0
  After a es = Ample limit texts (run the_views s.store i es) (log_all s.store i a es s.log)

  nothing : (a : Act) (es : List Effect) → es ≡ [] → After a es
  nothing a es e = subst (After a) (sym e) r

  one : (a : Act) (es : List Effect) (e : Effect) → es ≡ e ∷ [] → Ample limit texts (does the_views s.store i e) (logs s.store i a e s.log) → After a es
  one a es e is h = subst (After a) (sym is) h

  two : (a : Act) (es : List Effect) (wants : List Want) (f : Effect) → es ≡ Takes wants ∷ f ∷ []
      → Ample limit texts (does the_views (does the_views s.store i (Takes wants)) i f) (logs (does the_views s.store i (Takes wants)) i a f (logs s.store i a (Takes wants) s.log)) → After a es
  two a es wants f is h = subst (After a) (sym is) h

  -- a record that waits after a fault says nothing of transactions
  faulted : (m : Log) (es : List Effect) → es ≡ [] → ((j : ℕ) → m.logged j ≡ s.log.logged j) → Ample limit texts (run the_views s.store i es) m
  faulted m es e same = subst (λ fs. Ample limit texts (run the_views s.store i fs) m) (sym e) (same_ample limit texts s.store s.log m same r)

  going : (mode : Mode) → IsOpenIn s.store i mode → s.store.open_of i ≡ Some (now s.store i)
  going mode h = open_now s.store i h.transaction h.is_open

  none_back : (o : Owes s.store i) → (now s.store i).back ≡ 0
  none_back o = ap (λ (t : Open). t.back) (now_is view_laws s.store i o.goes_on.transaction o.goes_on.is_open) ∙ o.none_back

  module _ (a : Act) (wants : List Want) (is : IsSession i) (open_is : s.store.open_of i ≡ Some (now s.store i)) where
    abbrev t : Store
    t = does the_views s.store i (Takes wants)

    abbrev m : Log
    m = logs s.store i a (Takes wants) s.log

    abbrev u : Open
    u = record (now s.store i) { locks = wants ++ (now s.store i).locks }

    locked : Ample limit texts t m
    locked = takes_wants limit texts s.store s.log i a is r open_is wants

    open_again : t.open_of i ≡ Some (now t i)
    open_again = open_now t i u (one_same s.store.open_of i (Some u) i refl)

    -- of the transaction with new locks
    still : {X : Type 0} (f : Open → X) → f u ≡ f (now s.store i) → f (now t i) ≡ f (now s.store i)
    still f e = ap f (now_locked view_laws s.store i wants) ∙ e

    -- new locks take no bytes
    same_bytes : data_bytes t m texts ≡ data_bytes s.store s.log texts
    same_bytes =
        let part : (j : ℕ) → m.logged j ≡ s.log.logged j = same_logged s.store i a (Takes wants) s.log (logs_logged s.store i a (Takes wants) s.log) in
        let rooms = sum_same 64 (λ j. room_kept (schema_of s.store) (s.store.open_of j) (s.log.logged j).ghosted) (λ j. room_kept (schema_of s.store) (t.open_of j) (m.logged j).ghosted)
        (λ j lo hi. ap (λ (x : Logged). room_kept (schema_of s.store) (t.open_of j) x.ghosted) (part j)
        ∙ by_session j i
        (λ e. ap (λ (o : Option Open). room_kept (schema_of s.store) o (s.log.logged j).ghosted) (one_same s.store.open_of i (Some u) j e)
        ∙ sym (ap (λ (o : Option Open). room_kept (schema_of s.store) o (s.log.logged j).ghosted) (ap s.store.open_of e ∙ open_is)))
        (λ n. ap (λ (o : Option Open). room_kept (schema_of s.store) o (s.log.logged j).ghosted) (one_other s.store.open_of i (Some u) j n))) in
        omega (arith, rooms)

    fetched : (es : List Effect) (n : Note) → es ≡ Takes wants ∷ Notes n ∷ [] → After a es
    fetched es n e = two a es wants (Notes n) e (notes_it limit texts t m i a is locked open_again n)

    taken : (es : List Effect) → es ≡ Takes wants ∷ [] → After a es
    taken es e = one a es (Takes wants) e locked

    put : (es : List Effect) (p : Place) (new : Option Row) → es ≡ Takes wants ∷ Writes p new ∷ [] → Within limit (data_bytes s.store s.log texts + data_need s.store (change_at s.store p new)) → After a es
    put es p new e room = two a es wants (Writes p new) e
        (writes limit texts t m i a is locked open_again p new
        (let same = same_bytes in
        within_less limit (data_bytes s.store s.log texts + data_need s.store (change_at s.store p new)) (data_bytes t m texts + data_need s.store (change_at s.store p new)) room (omega (arith, same))))

    paid : (es : List Effect) (d : GroupDelta) (ds : List GroupDelta) → es ≡ Takes wants ∷ Pays ∷ [] → (now s.store i).owed ≡ d ∷ ds → (now s.store i).back ≡ 0 → IsSome (get s.store.view (place_of d)) → After a es
    paid es d ds e owes back there =
        let delta : IsDelta (schema_of s.store) d = owes_deltas s.store g i is d (subst (λ (x : List GroupDelta). Contains x d) (sym owes) (contains_here d ds)) in
        two a es wants Pays e (pays limit texts t m i a is locked open_again d ds (still (λ (x : Open). x.owed) refl ∙ owes) (still (λ (x : Open). x.back) refl ∙ back) delta shape there)

  committed_it : (es : List Effect) (number : ℕ) → IsSession i → (cs : List RowChange) → CommitsAs s.store i cs number es → After act.Commit es
  committed_it es number is [] h = one act.Commit es Ends h.1 (ends_it limit texts s.store s.log i act.Commit is r)
  committed_it es number is (c ∷ cs) h = one act.Commit es Commits h.1
      (commits_it limit texts s.store s.log i act.Commit is r (ap (λ (db : Database). db.schema) (committed_after the_views fresh view_laws s.store i)))

  -- after a blocked step and one without memory the log and the texts are as they were
  abbrev Unchanged : Act → Answer → List Effect → Type 0
  Unchanged a said es = (log_after s i a said es ≡ log_all s.store i a es s.log) × (definitions_after s.definitions a said ≡ s.definitions)

  blocked : (a : Act) (x : Sessions) (es : List Effect) → Unchanged a (answer.Blocked x) es
  blocked act.Ghost x es = (refl, refl)
  blocked act.Checkpoint x es = (refl, refl)
  blocked act.Commit x es = (refl, refl)
  blocked (act.Schema statement) x es = (refl, refl)
  blocked _ x es = (refl, refl)

  unable : (a : Act) (es : List Effect) → Unchanged a (answer.Refused refusal.NoMemory) es
  unable act.Ghost es = (refl, refl)
  unable act.Checkpoint es = (refl, refl)
  unable act.Commit es = (refl, refl)
  unable (act.Schema statement) es = (refl, refl)
  unable _ es = (refl, refl)

  abbrev Leaves : Act → Answer → List Effect → Type 0
  Leaves a said es = Ample limit (s.opening.definitions ++ definitions_after s.definitions a said) (run the_views s.store i es) (log_after s i a said es)

  unchanged : (a : Act) (said : Answer) (es : List Effect) → Unchanged a said es → es ≡ [] → Leaves a said es
  unchanged a said es same none = subst (λ (x : List (List ℕ) × Log). Ample limit (s.opening.definitions ++ x.0) (run the_views s.store i es) x.1) (λ y. (sym same.1 y, sym same.0 y)) (nothing a es none)

  -- a step that may wait, of a transaction that goes on
  lost : (a : Act) (cycle : Cycle) (es : List Effect) → MayWait a → MayAct s.store i a → es ≡ Loses ∷ [] → Leaves a (answer.Refused (refusal.Deadlock cycle)) es
  lost (act.Fetch number interval mode) cycle es w may e = one (act.Fetch number interval mode) es Loses e (loses limit texts s.store s.log i (act.Fetch number interval mode) may.0.goes_on.of_session r (going Serial may.0.goes_on))
  lost (act.Put number key new) cycle es w may e = one (act.Put number key new) es Loses e (loses limit texts s.store s.log i (act.Put number key new) may.0.goes_on.of_session r (going Serial may.0.goes_on))
  lost act.Pay cycle es w may e = one act.Pay es Loses e (loses limit texts s.store s.log i act.Pay may.goes_on.of_session r (going Serial may.goes_on))
  lost _ cycle es w may e = absurd w

  -- the first owed delta, of which none is coming back
  still_owes : (o : Owes s.store i) (d : GroupDelta) (ds : List GroupDelta) → (now s.store i).owed ≡ d ∷ ds → still_owed (now s.store i) ≡ d ∷ ds
  still_owes o d ds e = λ x. drop (none_back o x) (e x)

  ghosted : (o : Owes s.store i) → Holds (locks_of s.store i) Increment o.first.view o.first.group → (es : List Effect) → MakesGhost s.store i es
      → Ample limit texts (run the_views s.store i es) (with_ghost (log_all s.store i act.Ghost es s.log) i)
  ghosted o holds es h =
      let same : o.first ≡ h.first = ap (first_or o.first) (sym o.owed_is ∙ (sym (ap (λ (t : Open). t.owed) (now_is view_laws s.store i o.goes_on.transaction o.goes_on.is_open)) ∙ h.owed_is)) in
      let held : Holds (now s.store i).locks Increment h.first.view h.first.group = subst (λ (d : GroupDelta). Holds (now s.store i).locks Increment d.view d.group) same holds in
      elim h.effects [
        | inl m ↦ subst (λ (l : List Effect). Ample limit texts (run the_views s.store i l) (with_ghost (log_all s.store i act.Ghost l s.log) i)) (sym m.1)
            (ghost_absent limit texts s.store s.log i act.Ghost o.goes_on.of_session r (going Serial o.goes_on) h.first h.others (still_owes o h.first h.others h.owed_is) held m.0)
        | inr m ↦ subst (λ (l : List Effect). Ample limit texts (run the_views s.store i l) (with_ghost (log_all s.store i act.Ghost l s.log) i)) (sym m.1)
            (ghost_present limit texts s.store s.log i act.Ghost o.goes_on.of_session r (going Serial o.goes_on) h.first h.others (still_owes o h.first h.others h.owed_is) held m.0)
      ]

  -- one text more
  text_more : (text : List ℕ) → sum (map definition_entries (s.opening.definitions ++ (s.definitions ++ text ∷ []))) ≡ sum (map definition_entries texts) + definition_entries text
  text_more text =
      let all = sum_append definition_entries s.opening.definitions (s.definitions ++ text ∷ []) in
      let new = sum_append definition_entries s.definitions (text ∷ []) in
      let old = sum_append definition_entries s.opening.definitions s.definitions in
      omega (arith, all, new, old)

  says : (a : Act) (said : Answer) (es : List Effect) → MayAct s.store i a → Says s i a said es → Leaves a said es
  says a (answer.Blocked sessions) es may h = unchanged a (answer.Blocked sessions) es (blocked a sessions es) h.2
  says a (answer.Refused (refusal.Deadlock cycle)) es may h = lost a cycle es h.0 may h.2
  says a (answer.Refused refusal.NoMemory) es may h = unchanged a (answer.Refused refusal.NoMemory) es (unable a es) h.1
  says (act.Begin mode) (answer.Begun number defs) es may h = one (act.Begin mode) es (Opens mode) h.effects (opens limit texts s.store s.log i (act.Begin mode) may.0 r mode)
  says (act.Begin mode) (answer.Refused (refusal.LogFull used reserved need)) es may h = nothing (act.Begin mode) es h.0
  says (act.Begin mode) (answer.Refused (refusal.HistoryFull kept need)) es may h = nothing (act.Begin mode) es h.3
  says act.Defs (answer.Defs objects) es may h = nothing act.Defs es h.1
  says (act.Fetch number interval mode) (answer.Rows rows) es may h =
      fetched (act.Fetch number interval mode) _ may.0.goes_on.of_session (going Serial may.0.goes_on) es _ h.effects
  says (act.Fetch number interval mode) (answer.Refused (refusal.TxnFull kept need)) es may h = nothing (act.Fetch number interval mode) es h.1
  says (act.Peek number interval) (answer.Rows rows) es may h = nothing (act.Peek number interval) es h.1
  says (act.Put number key new) (answer.Changed before deltas) es may h =
      put (act.Put number key new) _ may.0.goes_on.of_session (going Serial may.0.goes_on) es (number, key) new h.effects h.data_room
  says (act.Put number key new) (answer.Refused (refusal.TxnFull kept need)) es may h = nothing (act.Put number key new) es h.1
  says (act.Put number key new) (answer.Refused (refusal.LogFull used reserved need)) es may h = nothing (act.Put number key new) es h.1
  says (act.Put number key new) (answer.Refused (refusal.DataFull used need)) es may h = nothing (act.Put number key new) es h.1
  says (act.Put number key new) (answer.Refused (refusal.HistoryFull kept need)) es may h = nothing (act.Put number key new) es h.1
  says act.Pay (answer.Paid left) es may h =
      paid act.Pay _ may.goes_on.of_session (going Serial may.goes_on) es h.pays.first h.pays.others h.effects h.pays.owed_is (none_back may) h.there
  says act.Pay answer.NeedsGhost es may h = taken act.Pay _ may.goes_on.of_session (going Serial may.goes_on) es h.effects
  says act.Pay (answer.Refused (refusal.Escrow column low high)) es may h = taken act.Pay _ may.goes_on.of_session (going Serial may.goes_on) es h.effects
  says act.Ghost answer.Ghosted es may h = ghosted may.0 may.1 es h
  says act.UndoOne (answer.Undone left) es may h =
      one act.UndoOne es Undoes h.effects (undoes_latest s.store g shape i may.0.of_session limit texts s.log act.UndoOne r (open_now s.store i may.0.transaction may.0.is_open) h.latest h.earlier h.kept_is)
  says act.End answer.Ended es may h = one act.End es Ends h (ends_it limit texts s.store s.log i act.End may.0.of_session r)
  says act.Commit (answer.Committed number) es may h = elim may [
    | inl x ↦ committed_it es number x.goes_on.of_session (changes_by s.store i) h
    | inr x ↦ committed_it es number x.goes_on.of_session (changes_by s.store i) h
  ]
  says act.Commit (answer.Refused refusal.DiskFault) es may h = faulted (log_after s i act.Commit (answer.Refused refusal.DiskFault) es) es h.0 (λ j. refl)
  says (act.Schema statement) (answer.Committed number) es may h =
      subst (λ fs. Leaves (act.Schema statement) (answer.Committed number) fs) (sym h.effects)
      (defines_it limit texts s.store s.log i (act.Schema statement) r g shape h.object
      (may_define s.store statement h.object g h.makes h.none_open h.accepted.0 h.accepted.1 h.accepted.2)
      (s.opening.definitions ++ (s.definitions ++ statement_text statement ∷ [])) (definition_entries (statement_text statement)) (text_more (statement_text statement)) h.data_room)
  says (act.Schema statement) (answer.Denied why) es may h = nothing (act.Schema statement) es h.1
  says (act.Schema statement) (answer.Refused (refusal.SchemaBusy busy)) es may h = nothing (act.Schema statement) es h.1
  says (act.Schema statement) (answer.Refused (refusal.LogFull used reserved need)) es may h = nothing (act.Schema statement) es h.1
  says (act.Schema statement) (answer.Refused (refusal.DataFull used need)) es may h = nothing (act.Schema statement) es h.1
  says (act.Schema statement) (answer.Refused (refusal.HistoryFull kept need)) es may h = nothing (act.Schema statement) es h.1
  says (act.Schema statement) (answer.Refused refusal.DiskFault) es may h = faulted (log_after s i (act.Schema statement) (answer.Refused refusal.DiskFault) es) es h.0 (λ j. refl)
  says act.Clean (answer.Cleaned zero) es may h = nothing act.Clean es h.1
  says act.Clean (answer.Cleaned (suc zero)) es may h = one act.Clean es (Cleans h.0) h.2 (cleans_it limit texts s.store s.log i act.Clean r h.0 h.1.is.not_locked)
  says act.Clean (answer.Refused (refusal.LogFull used reserved need)) es may h = nothing act.Clean es h.0
  says act.Prune answer.Pruned es may h = one act.Prune es Prunes h (prunes_it limit texts s.store s.log i act.Prune r)
  says act.Checkpoint (answer.Saved greatest) es may h = faulted (log_after s i act.Checkpoint (answer.Saved greatest) es) es h.0 (λ j. refl)
  says act.Checkpoint (answer.Refused refusal.DiskFault) es may h = nothing act.Checkpoint es h
  says act.Cancel answer.Cancelled es may h = nothing act.Cancel es h
  says _ _ es may h = absurd h

-- ---- runs

abbrev pub IsAmple : State → Type 0
IsAmple s = Ample s.opening.data_limit (texts_of s) s.store s.log

pub ample_does : (s : State) (i : ℕ) (a : Act) (said : Answer) (after : State) → Good' s.store → Stored' s.store → MayAct s.store i a → Does s i a said after → IsAmple s → IsAmple after
ample_does s i a said after g shape may d r = subst IsAmple (sym d.left) (says s i g shape r a said d.effects may d.says)
