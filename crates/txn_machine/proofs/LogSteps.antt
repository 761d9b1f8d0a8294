-- The log's room over steps.
use Rattle.std.specs.Prelude.{◌≡◌, ℕ, zero, suc, ◌+◌, ◌*◌, ◌≤◌, Bool, true, false, List, [], ◌∷◌, ◌++◌, length, Option, Some, None, IsSome, is_some, drop, cond, ◌==◌}
use Rattle.std.specs.FinMap.{get}
use mathlib.Core.Path.{refl, sym, ap, subst, ◌∙◌}
use mathlib.Core.Logic.{inl, inr}
use Rattle.std.proofs.Common.{arith}
use Rattle.std.proofs.lemmas.Option.{none-some}
use Rattle.iv_types.specs.declared.statement.Mode.{Mode}
use Rattle.iv_types.specs.declared.statement.Mode.TheVariants.{Serial, Snapshot}
use Rattle.iv_types.specs.declared.lock.GroupDelta.{GroupDelta}
use Rattle.iv_types.specs.declared.lock.LockMode.TheVariants.{Increment}
use Rattle.iv_types.specs.declared.lock.Want.{Want}
use Rattle.iv_types.specs.declared.refusal.EngineRefusal.TheVariants as refusal
use Rattle.table_laws.specs.Place.{Place}
use Rattle.table_laws.proofs.Stored.{by_session}
use Rattle.iv_meaning.specs.Schema.{Object}
use Rattle.iv_meaning.specs.Database.{Row, Database}
use Rattle.iv_meaning.specs.Escrow.{IsSession}
use Rattle.txn_machine.specs.Acts as act
use Rattle.txn_machine.specs.Acts.{Act}
use Rattle.txn_machine.specs.Answers as answer
use Rattle.txn_machine.specs.Answers.{Answer}
use Rattle.txn_machine.specs.Locks.{with_one}
use Rattle.txn_machine.specs.Deltas.{RowChange, place_of, columns_of}
use Rattle.txn_machine.specs.Keeping.{KeptStep, changes_of, Note, Open}
use Rattle.txn_machine.specs.Stored.{ViewRows, zeros}
use Rattle.txn_machine.specs.Fresh.{fresh}
use Rattle.txn_machine.specs.Ghosts.{Holds, the_views}
use Rattle.txn_machine.specs.Records.{group_bytes, undo_bytes}
use Rattle.txn_machine.specs.Log.{Within, Logged, Log, Opening, logs, log_all, still_owed, ghost_bytes, owed_bytes, end_bytes, block_bytes, reserved_by, reserved, carried, definition_need}
use Rattle.txn_machine.specs.Store.{Store, opened, schema_of, now, changes_by, locks_of, change_at, Effect, Opens, Takes, Notes, Writes, Pays, Ghosts, Undoes, Loses, Ends, Commits, Defines, Cleans, Prunes, does, run}
use Rattle.txn_machine.specs.State.{State, Stop, is_fault, stop_after, opened_state, most_steps}
use Rattle.txn_machine.specs.May.{IsOpenIn, MayAct, Owes}
use Rattle.txn_machine.specs.Steps.{NoneIsOpen, log_need, CommitsAs, Says, Step, Did, Run, with_ghost, log_after, MayWait, MayBegin, MakesGhost}
use Rattle.txn_machine.specs.Laws.{IsReached}
use Rattle.txn_machine.specs.LogLaws.{LogRoomLaw}
use Rattle.txn_machine.proofs.Basics.{one_same, one_other}
use Rattle.txn_machine.proofs.Agreeing.{written_at}
use Rattle.txn_machine.proofs.Runs.{committed_after, opened_good}
use Rattle.txn_machine.proofs.Stepping.{some_not_none, now_is, now_locked, ready_owes, step_good}
use Rattle.txn_machine.proofs.Looking.{view_laws}
use Rattle.txn_machine.proofs.Telling.{Good'}
use Rattle.txn_machine.proofs.Reached.{may_define}
use Rattle.txn_machine.proofs.Moving.{may_of}
use Rattle.txn_machine.proofs.Parting.{stays_there}
use Rattle.txn_machine.proofs.LogSums.{sum_same, sum_none}
use Rattle.txn_machine.proofs.LogRoom.{within_less, IsBare, IsThere, kept_bytes, Roomy, did_roomy, stay_there, logs_logged, ghost_owed, ghosted_less, opens, takes_wants, notes_it, loses, writes, pays, undoes_latest, ends_it, commits_it, serial_reserved, was_serial, was_bare, was_there}
use Rattle.iv_types.specs.declared.session.Sessions.{Sessions}
use Rattle.iv_types.specs.declared.session.Cycle.{Cycle}

abbrev first_or : GroupDelta → List GroupDelta → GroupDelta
first_or d [] = d
first_or d (x ∷ xs) = x

some_changed : (c : RowChange) (cs : List RowChange) → c ∷ cs ≡ [] → ⊥
some_changed c cs e = cc

-- ---- effects that no transaction makes

-- no transaction changes
pub record Still (limit : Option ℕ) (s : Store) (l : Log) (t : Store) (m : Log) : Type 0 where
  pub open_same : (j : ℕ) → IsSession j → t.open_of j ≡ s.open_of j
  pub logged_same : (j : ℕ) → m.logged j ≡ l.logged j
  pub stays : (j : ℕ) → IsSession j → (p : Place) → Holds (locks_of s j) Increment p.0 p.1 → IsSome (get s.view p) → IsSome (get t.view p)
  pub carried_same : carried t ≡ carried s
  pub more : l.used ≤ m.used
  pub need : ℕ
  pub room : Within limit (l.used + reserved s l + need)
  pub takes : m.used ≤ l.used + need

still_roomy : (limit : Option ℕ) (s : Store) (l : Log) (t : Store) (m : Log) → Roomy limit s l → Still limit s l t m → Roomy limit t m
still_roomy limit s l t m r d = record {
  bare = λ j js. subst (λ (x : Option Open × Logged). IsBare x.0 x.1) (λ x. (sym (d.open_same j js) x, sym (d.logged_same j) x)) (r.bare j js);
  there = λ j js. subst (λ (x : Option Open × Logged). IsThere t.view x.0 x.1) (λ x. (sym (d.open_same j js) x, sym (d.logged_same j) x))
      (stay_there s.view t.view (s.open_of j) (l.logged j) (d.stays j js) (r.there j js));
  carries = let same = d.carried_same in let more = d.more in let old = r.carries in omega (arith, same, more, old);
  fits =
      let same : reserved t m ≡ reserved s l = sum_same 64 (λ j. reserved_by (s.open_of j) (l.logged j).ghosted) (λ j. reserved_by (t.open_of j) (m.logged j).ghosted)
      (λ j lo hi x. reserved_by (d.open_same j (lo, hi) x) (d.logged_same j x).ghosted) in
      let takes = d.takes in
      within_less limit (l.used + reserved s l + d.need) (m.used + reserved t m) d.room (omega (arith, same, takes));
}

same_logged : (l : Log) (i : ℕ) (f : ℕ → Logged) → ◌≡◌ {A = ℕ → Logged} f (with_one l.logged i (l.logged i)) → (j : ℕ) → f j ≡ l.logged j
same_logged l i f e j = ap (λ (g : ℕ → Logged). g j) e ∙ by_session j i (λ h. one_same l.logged i (l.logged i) j h ∙ ap l.logged (sym h)) (λ n. one_other l.logged i (l.logged i) j n)

none_carried : (s : Store) → NoneIsOpen s → carried s ≡ 0
none_carried s none = sum_none 64 (λ j. kept_bytes (schema_of s) (s.open_of j)) (λ j lo hi. ap (kept_bytes (schema_of s)) (none j (lo, hi)))

module _ (limit : Option ℕ) (s : Store) (l : Log) (i : ℕ) (a : Act) (r : Roomy limit s l) where
  prunes_it : Roomy limit (does the_views s i Prunes) (logs s i a Prunes l)
  prunes_it = still_roomy limit s l (does the_views s i Prunes) (logs s i a Prunes l) r (record {
    open_same = λ j js. refl;
    logged_same = same_logged l i (logs s i a Prunes l).logged (logs_logged s i a Prunes l);
    stays = λ j js p h there. there;
    carried_same = refl;
    more = omega arith;
    need = 0;
    room = within_less limit (l.used + reserved s l) (l.used + reserved s l + 0) r.fits (omega arith);
    takes = omega arith;
  })

  cleans_it : (q : Place) → ((j : ℕ) → IsSession j → Holds (locks_of s j) Increment q.0 q.1 → ⊥) → Within limit (l.used + reserved s l + group_bytes q)
      → Roomy limit (does the_views s i (Cleans q)) (logs s i a (Cleans q) l)
  cleans_it q free room = still_roomy limit s l (does the_views s i (Cleans q)) (logs s i a (Cleans q) l) r (record {
    open_same = λ j js. refl;
    logged_same = same_logged l i (logs s i a (Cleans q) l).logged (logs_logged s i a (Cleans q) l);
    stays = λ j js p h there. stays_there s i (Cleans q) p (λ e. free j js (subst (λ (x : Place). Holds (locks_of s j) Increment x.0 x.1) e h)) there;
    carried_same = refl;
    more = omega arith;
    need = group_bytes q;
    room = room;
    takes = omega arith;
  })

  defines_it : (o : Object) (need : ℕ) → NoneIsOpen s → (logs s i a (Defines o) l).used ≡ l.used + need → Within limit (l.used + reserved s l + need)
      → Roomy limit (does the_views s i (Defines o)) (logs s i a (Defines o) l)
  defines_it o need none used room = still_roomy limit s l (does the_views s i (Defines o)) (logs s i a (Defines o) l) r (record {
    open_same = λ j js. refl;
    logged_same = same_logged l i (logs s i a (Defines o) l).logged (logs_logged s i a (Defines o) l);
    stays = λ j js p h there. stays_there s i (Defines o) p tt there;
    carried_same = none_carried (does the_views s i (Defines o)) none ∙ sym (none_carried s none);
    more = omega (arith, used);
    need = need;
    room = room;
    takes = omega (arith, used);
  })

  -- ---- a Ghost

  module _ (is : IsSession i) (open_now : s.open_of i ≡ Some (now s i)) (serial : (now s i).mode ≡ Serial) (d : GroupDelta) (ds : List GroupDelta) (owes : still_owed (now s i) ≡ d ∷ ds)
      (holds : Holds (now s i).locks Increment d.view d.group) where
    -- the row is stored then, and the log has this part besides
    ghost_done : (t : Store) (m : Log) → ((j : ℕ) → t.open_of j ≡ s.open_of j) → schema_of t ≡ schema_of s → ((p : Place) → IsSome (get s.view p) → IsSome (get t.view p)) → IsSome (get t.view (place_of d))
        → ((j : ℕ) → m.logged j ≡ l.logged j) → l.used ≤ m.used
        → m.used + owed_bytes true (d ∷ ds) ≤ l.used + owed_bytes (l.logged i).ghosted (d ∷ ds) → Roomy limit t (with_ghost m i)
    ghost_done t m opens_same objects stays there logged_same more takes =
        let lg : Logged = record (m.logged i) { ghosted = true } in
        let own : (with_ghost m i).logged i ≡ lg = one_same m.logged i lg i refl in
        let both : ◌≡◌ {A = Option Open × Logged} (Some (now s i), lg) (t.open_of i, (with_ghost m i).logged i) = λ x. (sym (opens_same i ∙ open_now) x, sym own x) in
        let was : reserved_by (s.open_of i) (l.logged i).ghosted ≡ end_bytes + undo_bytes * length (now s i).kept + owed_bytes (l.logged i).ghosted (still_owed (now s i)) = was_serial limit s l i a is r open_now serial in
        let before : owed_bytes (l.logged i).ghosted (still_owed (now s i)) ≡ owed_bytes (l.logged i).ghosted (d ∷ ds) = ap (owed_bytes (l.logged i).ghosted) owes in
        let after : reserved_by (Some (now s i)) true ≡ end_bytes + undo_bytes * length (now s i).kept + owed_bytes true (still_owed (now s i)) = serial_reserved limit s l i a is r open_now serial (now s i) true refl in
        let after_owed : owed_bytes true (still_owed (now s i)) ≡ owed_bytes true (d ∷ ds) = ap (owed_bytes true) owes in
        did_roomy limit s l i t (with_ghost m i) is r (record {
          others_open = λ j n. opens_same j;
          others_logged = λ j n. one_other m.logged i lg j n ∙ logged_same j;
          objects = objects;
          stays = λ j js n p h x. stays p x;
          bare = subst (λ (x : Option Open × Logged). IsBare x.0 x.1) both (λ e. let old = was_bare limit s l i a is r open_now e in (old.0, ap (λ (y : Logged). y.wrote) (logged_same i) ∙ old.1));
          there = subst (λ (x : Option Open × Logged). IsThere t.view x.0 x.1) both (λ g x xs e.
              let same : d ≡ x = ap (first_or d) (sym owes ∙ e) in
              (subst (λ (y : GroupDelta). Holds (now s i).locks Increment y.view y.group) same holds, subst (λ (y : GroupDelta). IsSome (get t.view (place_of y))) same there));
          need = 0;
          room = within_less limit (l.used + reserved s l) (l.used + reserved s l + 0) r.fits (omega arith);
          takes = subst (λ (x : Option Open × Logged). m.used + reserved_by x.0 x.1.ghosted ≤ l.used + reserved_by (s.open_of i) (l.logged i).ghosted + 0) both (omega (arith, was, before, after, after_owed, takes));
          keeps = let k : kept_bytes (schema_of s) (t.open_of i) ≡ kept_bytes (schema_of s) (s.open_of i) = ap (kept_bytes (schema_of s)) (opens_same i) in omega (arith, k, more);
        })

    -- it was absent, so that it had no Ghost before
    ghost_absent : get s.view (place_of d) ≡ None → Roomy limit (does the_views s i (Ghosts (place_of d) (length (columns_of d)))) (with_ghost (logs s i a (Ghosts (place_of d) (length (columns_of d))) l) i)
    ghost_absent absent =
        let e : Effect = Ghosts (place_of d) (length (columns_of d)) in
        let never : (l.logged i).ghosted ≡ true → ⊥ = λ g. some_not_none (get s.view (place_of d)) (was_there limit s l i a is r open_now g d ds owes).1 absent in
        ghost_done (does the_views s i e) (logs s i a e l) (λ j. refl) refl (λ p x. stays_there s i e p tt x)
        (ap is_some (written_at s.view (place_of d) (Some (zeros (length (columns_of d)))) (place_of d) refl))
        (same_logged l i (logs s i a e l).logged (logs_logged s i a e l)) (omega arith)
        (go (l.logged i).ghosted never)
      where
        go : (g : Bool) → (g ≡ true → ⊥) → l.used + group_bytes (place_of d) + owed_bytes true (d ∷ ds) ≤ l.used + owed_bytes g (d ∷ ds)
        go true n = absurd (n refl)
        go false n = let one : ghost_bytes d + owed_bytes true (d ∷ ds) ≡ owed_bytes false (d ∷ ds) = ghost_owed d ds in omega (arith, one)

    ghost_present : IsSome (get s.view (place_of d)) → Roomy limit s (with_ghost l i)
    ghost_present there = ghost_done s l (λ j. refl) refl (λ p x. x) there (λ j. refl) (omega arith)
        (let less : owed_bytes true (d ∷ ds) ≤ owed_bytes (l.logged i).ghosted (d ∷ ds) = ghosted_less (l.logged i).ghosted (d ∷ ds) in omega (arith, less))

-- ---- answers

-- a transaction that goes on stands for its session
open_now : (s : Store) (i : ℕ) (t : Open) → s.open_of i ≡ Some t → s.open_of i ≡ Some (now s i)
open_now s i t e = e ∙ ap Some (sym (now_is view_laws s i t e))

-- also with new locks
open_again : (s : Store) (i : ℕ) (wants : List Want) → (does the_views s i (Takes wants)).open_of i ≡ Some (now (does the_views s i (Takes wants)) i)
open_again s i wants =
    let u : Open = record (now s i) { locks = wants ++ (now s i).locks } in
    open_now (does the_views s i (Takes wants)) i u (one_same s.open_of i (Some u) i refl)

-- new locks reserve nothing
same_reserved : (s : Store) (l : Log) (i : ℕ) (a : Act) (wants : List Want) → s.open_of i ≡ Some (now s i) → reserved (does the_views s i (Takes wants)) (logs s i a (Takes wants) l) ≡ reserved s l
same_reserved s l i a wants open_is =
    let m : Log = logs s i a (Takes wants) l in
    let t : Store = does the_views s i (Takes wants) in
    let u : Open = record (now s i) { locks = wants ++ (now s i).locks } in
    let part : (j : ℕ) → m.logged j ≡ l.logged j = same_logged l i m.logged (logs_logged s i a (Takes wants) l) in
    sum_same 64 (λ j. reserved_by (s.open_of j) (l.logged j).ghosted) (λ j. reserved_by (t.open_of j) (m.logged j).ghosted)
    (λ j lo hi. ap (λ (x : Logged). reserved_by (t.open_of j) x.ghosted) (part j)
    ∙ by_session j i
    (λ e. ap (λ (o : Option Open). reserved_by o (l.logged j).ghosted) (one_same s.open_of i (Some u) j e) ∙ sym (ap (λ (o : Option Open). reserved_by o (l.logged j).ghosted) (ap s.open_of e ∙ open_is)))
    (λ n. ap (λ (o : Option Open). reserved_by o (l.logged j).ghosted) (one_other s.open_of i (Some u) j n)))

module _ (s : State) (i : ℕ) (g : Good' s.store) (r : Roomy s.opening.log_limit s.store s.log) where
  abbrev limit : Option ℕ
  limit = s.opening.log_limit

  abbrev After : Act → List Effect → Type 0
  After a es = Roomy limit (run the_views s.store i es) (log_all s.store i a es s.log)

  nothing : (a : Act) (es : List Effect) → es ≡ [] → After a es
  nothing a es e = subst (After a) (sym e) r

  one : (a : Act) (es : List Effect) (e : Effect) → es ≡ e ∷ [] → Roomy limit (does the_views s.store i e) (logs s.store i a e s.log) → After a es
  one a es e is h = subst (After a) (sym is) h

  two : (a : Act) (es : List Effect) (wants : List Want) (f : Effect) → es ≡ Takes wants ∷ f ∷ []
      → Roomy limit (does the_views (does the_views s.store i (Takes wants)) i f) (logs (does the_views s.store i (Takes wants)) i a f (logs s.store i a (Takes wants) s.log)) → After a es
  two a es wants f is h = subst (After a) (sym is) h

  going : (mode : Mode) → IsOpenIn s.store i mode → s.store.open_of i ≡ Some (now s.store i)
  going mode h = open_now s.store i h.transaction h.is_open

  mode_now : (mode : Mode) → (h : IsOpenIn s.store i mode) → (now s.store i).mode ≡ mode
  mode_now mode h = ap (λ (t : Open). t.mode) (now_is view_laws s.store i h.transaction h.is_open) ∙ h.mode_is

  module _ (a : Act) (wants : List Want) (is : IsSession i) (open_is : s.store.open_of i ≡ Some (now s.store i)) where
    abbrev t : Store
    t = does the_views s.store i (Takes wants)

    abbrev m : Log
    m = logs s.store i a (Takes wants) s.log

    locked : Roomy limit t m
    locked = takes_wants limit s.store s.log i a is r open_is wants

    -- of the transaction with new locks
    still : {X : Type 0} (f : Open → X) → f (record (now s.store i) { locks = wants ++ (now s.store i).locks }) ≡ f (now s.store i) → f (now t i) ≡ f (now s.store i)
    still f e = ap f (now_locked view_laws s.store i wants) ∙ e

    room_still : (need : ℕ) → Within limit (s.log.used + reserved s.store s.log + need) → Within limit (m.used + reserved t m + need)
    room_still need room =
        let same : reserved t m ≡ reserved s.store s.log = same_reserved s.store s.log i a wants open_is in
        within_less limit (s.log.used + reserved s.store s.log + need) (m.used + reserved t m + need) room (omega (arith, same))

    fetched : (es : List Effect) (n : Note) → es ≡ Takes wants ∷ Notes n ∷ [] → After a es
    fetched es n e = two a es wants (Notes n) e (notes_it limit t m i a is locked (open_again s.store i wants) n)

    taken : (es : List Effect) → es ≡ Takes wants ∷ [] → After a es
    taken es e = one a es (Takes wants) e locked

    put : (es : List Effect) (p : Place) (new : Option Row) → es ≡ Takes wants ∷ Writes p new ∷ [] → (now s.store i).mode ≡ Serial → (now s.store i).owed ≡ []
        → Within limit (s.log.used + reserved s.store s.log + log_need s.store (change_at s.store p new)) → After a es
    put es p new e serial owes room = two a es wants (Writes p new) e
        (writes limit t m i a is locked (open_again s.store i wants) (still (λ (x : Open). x.mode) refl ∙ serial) p new (still (λ (x : Open). x.owed) refl ∙ owes)
        (room_still (log_need s.store (change_at s.store p new)) room))

    paid : (es : List Effect) (d : GroupDelta) (ds : List GroupDelta) → es ≡ Takes wants ∷ Pays ∷ [] → (now s.store i).mode ≡ Serial → (now s.store i).owed ≡ d ∷ ds → (now s.store i).back ≡ 0 → After a es
    paid es d ds e serial owes back = two a es wants Pays e
        (pays limit t m i a is locked (open_again s.store i wants) (still (λ (x : Open). x.mode) refl ∙ serial) d ds (still (λ (x : Open). x.owed) refl ∙ owes) (still (λ (x : Open). x.back) refl ∙ back))

  committed_it : (es : List Effect) (number : ℕ) → IsSession i → s.store.open_of i ≡ Some (now s.store i) → (cs : List RowChange) → changes_by s.store i ≡ cs → CommitsAs s.store i cs number es → After act.Commit es
  committed_it es number is open_is [] e h = one act.Commit es Ends h.1 (ends_it limit s.store s.log i act.Commit is r open_is)
  committed_it es number is open_is (c ∷ cs) e h = one act.Commit es Commits h.1 (go (now s.store i).kept refl)
    where
      go : (ks : List KeptStep) → (now s.store i).kept ≡ ks → Roomy limit (does the_views s.store i Commits) (logs s.store i act.Commit Commits s.log)
      go [] k = absurd (some_changed c cs (sym e ∙ ap changes_of k))
      go (x ∷ ks) k = commits_it limit s.store s.log i act.Commit is r open_is x ks k (ap (λ (db : Database). db.schema) (committed_after the_views fresh view_laws s.store i))

  -- a blocked step and one without memory log as their effects do
  log_blocked : (a : Act) (x : Sessions) (es : List Effect) → log_after s i a (answer.Blocked x) es ≡ log_all s.store i a es s.log
  log_blocked act.Ghost x es = refl
  log_blocked act.Checkpoint x es = refl
  log_blocked act.Commit x es = refl
  log_blocked (act.Schema statement) x es = refl
  log_blocked _ x es = refl

  log_unable : (a : Act) (es : List Effect) → log_after s i a (answer.Refused refusal.NoMemory) es ≡ log_all s.store i a es s.log
  log_unable act.Ghost es = refl
  log_unable act.Checkpoint es = refl
  log_unable act.Commit es = refl
  log_unable (act.Schema statement) es = refl
  log_unable _ es = refl

  -- a step that may wait, of a transaction that goes on
  lost : (a : Act) (cycle : Cycle) (es : List Effect) → MayWait a → MayAct s.store i a → es ≡ Loses ∷ []
      → Roomy limit (run the_views s.store i es) (log_after s i a (answer.Refused (refusal.Deadlock cycle)) es)
  lost (act.Fetch number interval mode) cycle es w may e = one (act.Fetch number interval mode) es Loses e (loses limit s.store s.log i (act.Fetch number interval mode) may.0.goes_on.of_session r (going Serial may.0.goes_on))
  lost (act.Put number key new) cycle es w may e = one (act.Put number key new) es Loses e (loses limit s.store s.log i (act.Put number key new) may.0.goes_on.of_session r (going Serial may.0.goes_on))
  lost act.Pay cycle es w may e = one act.Pay es Loses e (loses limit s.store s.log i act.Pay may.goes_on.of_session r (going Serial may.goes_on))
  lost _ cycle es w may e = absurd w

  -- the first owed delta, of which none is coming back
  still_owes : (o : Owes s.store i) (d : GroupDelta) (ds : List GroupDelta) → (now s.store i).owed ≡ d ∷ ds → still_owed (now s.store i) ≡ d ∷ ds
  still_owes o d ds e = λ x. drop (none_back o x) (e x)
    where
      none_back : (o : Owes s.store i) → (now s.store i).back ≡ 0
      none_back o = ap (λ (t : Open). t.back) (now_is view_laws s.store i o.goes_on.transaction o.goes_on.is_open) ∙ o.none_back

  ghosted : (o : Owes s.store i) → Holds (locks_of s.store i) Increment o.first.view o.first.group → (es : List Effect) → MakesGhost s.store i es
      → Roomy limit (run the_views s.store i es) (with_ghost (log_all s.store i act.Ghost es s.log) i)
  ghosted o holds es h =
      let same : o.first ≡ h.first = ap (first_or o.first) (sym o.owed_is ∙ (sym (ap (λ (t : Open). t.owed) (now_is view_laws s.store i o.goes_on.transaction o.goes_on.is_open)) ∙ h.owed_is)) in
      let held : Holds (now s.store i).locks Increment h.first.view h.first.group = subst (λ (d : GroupDelta). Holds (now s.store i).locks Increment d.view d.group) same holds in
      elim h.effects [
        | inl m ↦ subst (λ (l : List Effect). Roomy limit (run the_views s.store i l) (with_ghost (log_all s.store i act.Ghost l s.log) i)) (sym m.1)
            (ghost_absent limit s.store s.log i act.Ghost r o.goes_on.of_session (going Serial o.goes_on) (mode_now Serial o.goes_on) h.first h.others (still_owes o h.first h.others h.owed_is) held m.0)
        | inr m ↦ subst (λ (l : List Effect). Roomy limit (run the_views s.store i l) (with_ghost (log_all s.store i act.Ghost l s.log) i)) (sym m.1)
            (ghost_present limit s.store s.log i act.Ghost r o.goes_on.of_session (going Serial o.goes_on) (mode_now Serial o.goes_on) h.first h.others (still_owes o h.first h.others h.owed_is) held m.0)
      ]

  -- a checkpoint leaves what it carries
  saved : (es : List Effect) → es ≡ [] → Roomy limit (run the_views s.store i es) (record s.log { used = block_bytes + 1 + carried s.store })
  saved es e = subst (λ (l : List Effect). Roomy limit (run the_views s.store i l) (record s.log { used = block_bytes + 1 + carried s.store })) (sym e) (record {
    bare = r.bare;
    there = r.there;
    carries = omega arith;
    fits = let less = r.carries in within_less limit (s.log.used + reserved s.store s.log) (block_bytes + 1 + carried s.store + reserved s.store s.log) r.fits (omega (arith, less));
  })

  says : (a : Act) (said : Answer) (es : List Effect) → MayAct s.store i a → Says s i a said es → is_fault said ≡ false → Roomy limit (run the_views s.store i es) (log_after s i a said es)
  says a (answer.Blocked sessions) es may h ok = subst (Roomy limit (run the_views s.store i es)) (sym (log_blocked a sessions es)) (nothing a es h.2)
  says a (answer.Refused (refusal.Deadlock cycle)) es may h ok = lost a cycle es h.0 may h.2
  says a (answer.Refused refusal.NoMemory) es may h ok = subst (Roomy limit (run the_views s.store i es)) (sym (log_unable a es)) (nothing a es h.1)
  says (act.Begin mode) (answer.Begun number defs) es may h ok =
      one (act.Begin mode) es (Opens mode) h.effects (opens limit s.store s.log i (act.Begin mode) may.0 r mode may.1 (λ e. (subst (MayBegin s) e h.room).0))
  says (act.Begin mode) (answer.Refused (refusal.LogFull used reserved need)) es may h ok = nothing (act.Begin mode) es h.0
  says (act.Begin mode) (answer.Refused (refusal.HistoryFull kept need)) es may h ok = nothing (act.Begin mode) es h.3
  says act.Defs (answer.Defs objects) es may h ok = nothing act.Defs es h.1
  says (act.Fetch number interval mode) (answer.Rows rows) es may h ok =
      fetched (act.Fetch number interval mode) _ may.0.goes_on.of_session (going Serial may.0.goes_on) es _ h.effects
  says (act.Fetch number interval mode) (answer.Refused (refusal.TxnFull kept need)) es may h ok = nothing (act.Fetch number interval mode) es h.1
  says (act.Peek number interval) (answer.Rows rows) es may h ok = nothing (act.Peek number interval) es h.1
  says (act.Put number key new) (answer.Changed before deltas) es may h ok =
      put (act.Put number key new) _ may.0.goes_on.of_session (going Serial may.0.goes_on) es (number, key) new h.effects (mode_now Serial may.0.goes_on) (ready_owes view_laws s.store i Serial may.0) h.log_room
  says (act.Put number key new) (answer.Refused (refusal.TxnFull kept need)) es may h ok = nothing (act.Put number key new) es h.1
  says (act.Put number key new) (answer.Refused (refusal.LogFull used reserved need)) es may h ok = nothing (act.Put number key new) es h.1
  says (act.Put number key new) (answer.Refused (refusal.DataFull used need)) es may h ok = nothing (act.Put number key new) es h.1
  says (act.Put number key new) (answer.Refused (refusal.HistoryFull kept need)) es may h ok = nothing (act.Put number key new) es h.1
  says act.Pay (answer.Paid left) es may h ok =
      paid act.Pay _ may.goes_on.of_session (going Serial may.goes_on) es h.pays.first h.pays.others h.effects (mode_now Serial may.goes_on) h.pays.owed_is
      (ap (λ (t : Open). t.back) (now_is view_laws s.store i may.goes_on.transaction may.goes_on.is_open) ∙ may.none_back)
  says act.Pay answer.NeedsGhost es may h ok = taken act.Pay _ may.goes_on.of_session (going Serial may.goes_on) es h.effects
  says act.Pay (answer.Refused (refusal.Escrow column low high)) es may h ok = taken act.Pay _ may.goes_on.of_session (going Serial may.goes_on) es h.effects
  says act.Ghost answer.Ghosted es may h ok = ghosted may.0 may.1 es h
  says act.UndoOne (answer.Undone left) es may h ok =
      one act.UndoOne es Undoes h.effects (undoes_latest limit s.store s.log i act.UndoOne may.0.of_session r (open_now s.store i may.0.transaction may.0.is_open) h.latest h.earlier h.kept_is)
  says act.End answer.Ended es may h ok = one act.End es Ends h (ends_it limit s.store s.log i act.End may.0.of_session r (open_now s.store i may.0.transaction may.0.is_open))
  says act.Commit (answer.Committed number) es may h ok = elim may [
    | inl x ↦ committed_it es number x.goes_on.of_session (going Serial x.goes_on) (changes_by s.store i) refl h
    | inr x ↦ committed_it es number x.goes_on.of_session (going Snapshot x.goes_on) (changes_by s.store i) refl h
  ]
  says act.Commit (answer.Refused refusal.DiskFault) es may h ok = absurd (cc ok)
  says (act.Schema statement) (answer.Committed number) es may h ok =
      one (act.Schema statement) es (Defines h.object) h.effects (defines_it limit s.store s.log i (act.Schema statement) r h.object (definition_need statement) h.none_open (omega arith) h.log_room)
  says (act.Schema statement) (answer.Denied why) es may h ok = nothing (act.Schema statement) es h.1
  says (act.Schema statement) (answer.Refused (refusal.SchemaBusy busy)) es may h ok = nothing (act.Schema statement) es h.1
  says (act.Schema statement) (answer.Refused (refusal.LogFull used reserved need)) es may h ok = nothing (act.Schema statement) es h.1
  says (act.Schema statement) (answer.Refused (refusal.DataFull used need)) es may h ok = nothing (act.Schema statement) es h.1
  says (act.Schema statement) (answer.Refused (refusal.HistoryFull kept need)) es may h ok = nothing (act.Schema statement) es h.1
  says (act.Schema statement) (answer.Refused refusal.DiskFault) es may h ok = absurd (cc ok)
  says act.Clean (answer.Cleaned zero) es may h ok = nothing act.Clean es h.1
  says act.Clean (answer.Cleaned (suc zero)) es may h ok = one act.Clean es (Cleans h.0) h.2 (cleans_it limit s.store s.log i act.Clean r h.0 h.1.is.not_locked h.3)
  says act.Clean (answer.Refused (refusal.LogFull used reserved need)) es may h ok = nothing act.Clean es h.0
  says act.Prune answer.Pruned es may h ok = one act.Prune es Prunes h (prunes_it limit s.store s.log i act.Prune r)
  says act.Checkpoint (answer.Saved greatest) es may h ok = saved es h.0
  says act.Checkpoint (answer.Refused refusal.DiskFault) es may h ok = absurd (cc ok)
  says act.Cancel answer.Cancelled es may h ok = nothing act.Cancel es h
  says _ _ es may h ok = absurd h

-- ---- runs

abbrev IsRoomy : State → Type 0
IsRoomy s = Within s.opening.log_limit (block_bytes + 1) → s.stop ≡ None → Roomy s.opening.log_limit s.store s.log

no_fault : (former : Option Stop) (number : ℕ) (a : Act) (said : Answer) → stop_after former number a said ≡ None → is_fault said ≡ false
no_fault former number a said e = go (is_fault said) refl
  where
    go : (b : Bool) → is_fault said ≡ b → is_fault said ≡ false
    go false h = h
    go true h = absurd (none-some _ (sym e ∙ ap (λ b. cond b (Some (record { step = number; act = a })) (cond (number == most_steps) (Some (record { step = number; act = a })) former)) h))

roomy_step : (s : State) (d : Did) (after : State) → Good' s.store → IsRoomy s → Step s d.session d.act d.said after → IsRoomy after
roomy_step s d after g r step = elim step.does [
  | inl x ↦ subst IsRoomy (sym x.left) (λ below runs.
      says s d.session g (r below x.runs) d.act d.said x.effects (may_of s d.session d.act x.runs step.may.1) x.says (no_fault s.stop (s.steps + 1) d.act d.said runs))
  | inr x ↦ subst IsRoomy (sym x.left) (λ below runs. r below runs)
]

roomy_run : (s : State) (ds : List Did) (after : State) → Good' s.store → IsRoomy s → Run s ds after → IsRoomy after
roomy_run s [] after g h r = subst IsRoomy (sym r) h
roomy_run s (d ∷ ds) after g h r = roomy_run r.0 ds after (step_good view_laws may_define s d.session d.act d.said r.0 g r.1) (roomy_step s d r.0 g h r.1) r.2

opened_roomy : (opening : Opening) (db : Database) (view : ViewRows) → IsRoomy (opened_state opening (opened db view))
opened_roomy opening db view below runs =
    let s : State = opened_state opening (opened db view) in
    let nothing_carried : carried s.store ≡ 0 = sum_none 64 (λ j. 0) (λ j lo hi. refl) in
    let nothing_reserved : reserved s.store s.log ≡ 0 = sum_none 64 (λ j. 0) (λ j lo hi. refl) in
    record {
      bare = λ j js. tt;
      there = λ j js. tt;
      carries = omega (arith, nothing_carried);
      fits = within_less opening.log_limit (block_bytes + 1) (s.log.used + reserved s.store s.log) below (omega (arith, nothing_reserved));
    }

-- while an engine runs
pub roomy_reached : (s : State) → IsReached s → Within s.opening.log_limit (block_bytes + 1) → s.stop ≡ None → Roomy s.opening.log_limit s.store s.log
roomy_reached s r below runs =
    let g = opened_good the_views fresh view_laws r.db r.view r.was_opened.sound r.was_opened.rows r.was_opened.in_range in
    roomy_run _ r.steps s g (opened_roomy r.opening r.db r.view) r.run below runs

pub log_room_law : LogRoomLaw
log_room_law s r below runs = let roomy = roomy_reached s r below runs in (roomy.fits, roomy.carries)
