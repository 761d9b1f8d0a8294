-- The machine keeps the laws that scripts stand on.
use Rattle.std.specs.Prelude.{◌≡◌, ◌≢◌, ℕ, ◌+◌, ◌==◌, is_some, cond, true, false, IsTrue, List, [], ◌∷◌, ◌++◌, reverse, length, Option, Some, None, IsSome, if◌then◌else◌}
use Rattle.std.specs.Option.{option_map}
use Rattle.std.proofs.lemmas.List.Elements.{recursion_from_All, All-from_recursion}
use mathlib.Core.Path.{refl, sym, ap, subst, ◌∙◌}
use mathlib.Core.Logic.{inl, inr}
use Rattle.std.proofs.Common.{append-nil}
use Rattle.std.proofs.lemmas.Option.{none-some}
use Rattle.iv_types.specs.declared.statement.Mode.{Mode}
use Rattle.iv_types.specs.declared.statement.Mode.TheVariants.{Serial, Snapshot}
use Rattle.iv_types.specs.declared.session.Cycle.{Cycle}
use Rattle.iv_types.specs.declared.refusal.Refusal.{Refusal}
use Rattle.iv_types.specs.declared.refusal.Refusal.TheVariants.{NumberRange}
use Rattle.iv_types.specs.declared.refusal.EngineRefusal.{EngineRefusal}
use Rattle.iv_types.specs.declared.refusal.EngineRefusal.TheVariants as refusal
use Rattle.iv_types.specs.declared.reply.Reply.TheVariants as reply
use Rattle.iv_types.specs.Syntax.{StatementTree, create_table, create_index, create_view}
use Rattle.table_laws.proofs.Stored.{by_session}
use Rattle.iv_meaning.specs.Schema.{Object, table, index, view}
use Rattle.iv_meaning.specs.Database.{Database}
use Rattle.iv_meaning.specs.View.{whole_view}
use Rattle.iv_meaning.specs.Statement.{Kept, defines, keep_all, Refused, Accepted, Meaning, create_meaning}
use Rattle.iv_meaning.specs.Transaction.{Transaction, outside, ended_by, refused_outside, bound_or_refused, means, next_number}
use Rattle.iv_meaning.specs.History.{fold, state_at}
use Rattle.iv_meaning.specs.Escrow.{IsSession}
use Rattle.txn_machine.specs.Acts as act
use Rattle.txn_machine.specs.Acts.{Act}
use Rattle.txn_machine.specs.Answers as answer
use Rattle.txn_machine.specs.Answers.{Answer}
use Rattle.txn_machine.specs.Deltas.{RowChange}
use Rattle.txn_machine.specs.Keeping.{Open, changes_of}
use Rattle.txn_machine.specs.Ghosts.{the_views}
use Rattle.txn_machine.specs.Store.{Store, schema_of, now, changes_by, Effect, Defines, run}
use Rattle.txn_machine.specs.Store as store
use Rattle.txn_machine.specs.State.{State, opened_state, stop_after}
use Rattle.txn_machine.specs.May.{MayAct, IsOpen, IsCreate}
use Rattle.txn_machine.specs.Steps.{Says, MayWait, Does, Step, Did, Run, NoneIsOpen, CommitsAs, IsDenied, unbound, refused, DefinesIt, number_unchanged}
use Rattle.txn_machine.specs.Locks.{with_one}
use Rattle.txn_machine.specs.Alone.{Fact, Story, told_after, story_after, Unfolds, begun_story, IsTrueIn}
use Rattle.txn_machine.specs.Laws.{IsReached, IsReachedStory}
use Rattle.txn_machine.specs.ViewLaws.{AreSound}
use Rattle.txn_machine.proofs.Basics.{one_same, one_other}
use Rattle.txn_machine.proofs.Rings.{other_opens}
use Rattle.txn_machine.proofs.Moving.{may_of}
use Rattle.txn_machine.proofs.Stepping.{now_is, some_not_none}
use Rattle.txn_machine.proofs.Looking.{view_laws}
use Rattle.txn_machine.proofs.Seats.{session_or, nobody_open}
use Rattle.txn_machine.proofs.Stories.{told_refused}
use Rattle.txn_machine.proofs.Reached.{sound_law}
use Rattle.txn_machine.proofs.Peeking.{snapshot_readable_law}
use Rattle.txn_machine.proofs.OwnRows.{told_law}
use Rattle.script_law.specs.Seen.{Event, Fails, Begins, Learns, Commits, Creates, Denies, event, is_stop, CanFail, CanCome, changes, in_order, kept_of, kept_by, Txn, IsTruthful, Visible, committed, base, open_after, history_after, entries, visible_after, StepLaws}
use Rattle.script_law.specs.Machine.{txn_seen, seen_of, DoesOf, IsStopped, MachineLaw}
use Rattle.script_law.proofs.Basics.{if_same, if_other}
use Rattle.script_law.proofs.Agreeing.{objects_in}
use Rattle.script_law.proofs.Showing.{changes_seen, in_order_is, ends_some, fold_push, sets_keep, IsMaking, Making, is_making, makes_none, making, Shown, shown}
use Rattle.script_law.specs.Laws.{IsNew}
use Rattle.script_law.proofs.Running.{transcript_law}
use Rattle.script_law.proofs.Leaving.{end_law}

-- ---- stories

tells_more : (story : Story) (ds : List Did) (mid : Story) (d : Did) (s : State) → Unfolds story ds mid → Step mid.state d.session d.act d.said s → Unfolds story (ds ++ d ∷ []) (story_after mid d s)
tells_more story [] mid d s h step = (s, subst (λ (x : Story). Step x.state d.session d.act d.said s) h step, λ k. story_after (h k) d s)
tells_more story (x ∷ ds) mid d s h step = (h.0, h.1, tells_more (story_after story x h.0) ds mid d s h.2 step)

tells_run : (story : Story) (ds : List Did) (after : Story) → Unfolds story ds after → Run story.state ds after.state
tells_run story [] after h = ap (λ (x : Story). x.state) h
tells_run story (d ∷ ds) after h = (h.0, h.1, tells_run (story_after story d h.0) ds after h.2)

pub reached_of : (story : Story) → IsReachedStory story → IsReached story.state
reached_of story r = record {
  db = r.db;
  view = r.view;
  opening = r.opening;
  was_opened = r.was_opened;
  steps = r.steps;
  run = tells_run _ r.steps story r.tells;
}

did : ℕ → Act → Answer → Did
did i a said = record { session = i; act = a; said = said }

stands : (story after : Story) (i : ℕ) (a : Act) (said : Answer) → IsReachedStory story → DoesOf story i a said after → IsReachedStory after
stands story after i a said r h = subst IsReachedStory (sym h.2) (record {
  db = r.db;
  view = r.view;
  opening = r.opening;
  was_opened = r.was_opened;
  steps = r.steps ++ record { session = i; act = a; said = said } ∷ [];
  tells = tells_more _ r.steps story (record { session = i; act = a; said = said }) h.0 r.tells h.1;
})

-- ---- which answers come

deadlock_can : (a : Act) (cycle : Cycle) → MayWait a → CanFail a (refusal.Deadlock cycle)
deadlock_can (act.Fetch number interval mode) cycle w = tt
deadlock_can (act.Put number key new) cycle w = tt
deadlock_can act.Pay cycle w = tt
deadlock_can _ cycle w = absurd w

says_fails : (s : State) (i : ℕ) (a : Act) (why : EngineRefusal) (es : List Effect) → Says s i a (answer.Refused why) es → CanFail a why
says_fails s i a (refusal.Deadlock cycle) es h = deadlock_can a cycle h.0
says_fails s i act.UndoOne refusal.NoMemory es h = absurd h.0
says_fails s i act.End refusal.NoMemory es h = absurd h.0
says_fails s i act.Commit refusal.NoMemory es h = absurd h.0
says_fails s i act.Commit refusal.DiskFault es h = refl
says_fails s i act.UndoOne _ es h = absurd h
says_fails s i act.End _ es h = absurd h
says_fails s i act.Commit _ es h = absurd h
says_fails s i (act.Fetch number interval mode) _ es h = tt
says_fails s i (act.Put number key new) _ es h = tt
says_fails s i act.Pay _ es h = tt
says_fails s i _ _ es h = refl

says_can : (s : State) (i : ℕ) (a : Act) (said : Answer) (es : List Effect) → Says s i a said es → CanCome a (event a said)
says_can s i a (answer.Refused why) es h = says_fails s i a why es h
says_can s i (act.Fetch number interval mode) (answer.Blocked sessions) es h = tt
says_can s i (act.Put number key new) (answer.Blocked sessions) es h = tt
says_can s i act.Pay (answer.Blocked sessions) es h = tt
says_can s i _ (answer.Blocked sessions) es h = absurd h.0
says_can s i (act.Begin mode) (answer.Begun number defs) es h = tt
says_can s i act.Defs (answer.Defs all) es h = tt
says_can s i (act.Fetch number interval mode) (answer.Rows rows) es h = tt
says_can s i (act.Peek number interval) (answer.Rows rows) es h = tt
says_can s i (act.Put number key new) (answer.Changed before owed) es h = tt
says_can s i act.Pay (answer.Paid left) es h = tt
says_can s i act.Pay answer.NeedsGhost es h = tt
says_can s i act.Ghost answer.Ghosted es h = tt
says_can s i act.UndoOne (answer.Undone left) es h = tt
says_can s i act.End answer.Ended es h = tt
says_can s i act.Commit (answer.Committed number) es h = tt
says_can s i (act.Schema statement) (answer.Committed number) es h = tt
says_can s i (act.Schema statement) (answer.Denied why) es h = tt
says_can s i act.Clean (answer.Cleaned count) es h = tt
says_can s i act.Prune answer.Pruned es h = tt
says_can s i act.Checkpoint (answer.Saved number) es h = tt
says_can s i act.Cancel answer.Cancelled es h = tt
says_can s i _ _ es h = absurd h

stopped_can : (a : Act) (n : ℕ) → CanFail a (refusal.Stopped n)
stopped_can act.UndoOne n = refl
stopped_can act.End n = refl
stopped_can act.Commit n = refl
stopped_can (act.Fetch number interval mode) n = tt
stopped_can (act.Put number key new) n = tt
stopped_can act.Pay n = tt
stopped_can _ n = refl

answers : (story after : Story) (i : ℕ) (a : Act) (said : Answer) → IsReachedStory story → DoesOf story i a said after → CanCome a (event a said)
answers story after i a said r h = elim h.1.does [
  | inl x ↦ says_can story.state i a said x.effects x.says
  | inr x ↦ subst (λ y. CanCome a (event a y)) (sym x.says) (stopped_can a x.stop.step)
]

-- ---- a stopped engine

never_stopped : (s : State) (i : ℕ) (a : Act) (n : ℕ) (es : List Effect) → Says s i a (answer.Refused (refusal.Stopped n)) es → ⊥
never_stopped s i (act.Begin mode) n es h = h
never_stopped s i act.Commit n es h = h
never_stopped s i _ n es h = h

stop_says : (s : State) (i : ℕ) (a : Act) (said : Answer) (es : List Effect) → Says s i a said es → IsTrue (is_stop (event a said)) → said ≡ answer.Refused refusal.DiskFault
stop_says s i a (answer.Refused refusal.DiskFault) es h stop = refl
stop_says s i a (answer.Refused (refusal.Stopped n)) es h stop = absurd (never_stopped s i a n es h)
stop_says s i a (answer.Refused _) es h stop = absurd (cc)
stop_says s i (act.Begin mode) _ es h stop = absurd (cc)
stop_says s i _ _ es h stop = absurd (cc)

halts : (story after : Story) (i : ℕ) (a : Act) (said : Answer) → DoesOf story i a said after → IsTrue (is_stop (event a said)) → IsStopped after
halts story after i a said h stop = elim h.1.does [
  | inl x ↦ subst IsStopped (sym h.2) (subst (λ (z : State). IsSome z.stop) (sym x.left)
      (subst (λ y. IsSome (stop_after story.state.stop (story.state.steps + 1) a y)) (sym (stop_says story.state i a said x.effects x.says stop)) refl))
  | inr x ↦ subst IsStopped (sym h.2) (subst (λ (z : State). IsSome z.stop) (sym x.left) (ap is_some x.stopped))
]

stays : (story after : Story) (i : ℕ) (a : Act) (said : Answer) → DoesOf story i a said after → IsStopped story → IsStopped after × IsTrue (is_stop (event a said))
stays story after i a said h stopped = elim h.1.does [
  | inl x ↦ absurd (some_not_none story.state.stop stopped x.runs)
  | inr x ↦ (subst IsStopped (sym h.2) (subst (λ (z : State). IsSome z.stop) (sym x.left) (ap is_some x.stopped)), subst (λ y. IsTrue (is_stop (event a y))) (sym x.says) refl)
]

-- ---- open transactions

-- the machine's transaction of what is seen
record Behind (story : Story) (i : ℕ) (t : Txn) : Type 0 where
  pub of_machine : IsOpen story.state.store i
  pub is : t ≡ txn_seen (schema_of story.state.store) (story.told i) of_machine.transaction

behind : (story : Story) (i : ℕ) (t : Txn) → IsReachedStory story → (seen_of story).open_of i ≡ Some t → Behind story i t
behind story i t r e = by (story.state.store.open_of i) refl e
  where
    by : (o : Option Open) → story.state.store.open_of i ≡ o → option_map (txn_seen (schema_of story.state.store) (story.told i)) o ≡ Some t → Behind story i t
    by None is e = absurd (none-some t e)
    by (Some o) is e = elim (session_or i) [
      | inl of_session ↦ record { of_machine = record { of_session = of_session; transaction = o; is_open = is }; is = cc (sym e) }
      | inr nobody ↦ absurd (none-some o (sym (nobody_open story.state (reached_of story r) i nobody) ∙ is))
    ]

sound_now : (story : Story) → IsReachedStory story → AreSound (schema_of story.state.store) (store.committed story.state.store).rows
sound_now story r = sound_law story.state (reached_of story r) [] (All-from_recursion IsSession [] tt)

truth : (story : Story) (i : ℕ) (t : Txn) → IsReachedStory story → (seen_of story).open_of i ≡ Some t → IsTruthful (base (seen_of story) t) t
truth story i t r e = subst (λ (x : Txn). IsTruthful (base (seen_of story) x) x) (sym b.is) (by b.of_machine.transaction.mode refl)
  where
    b : Behind story i t
    b = behind story i t r e

    o : Open
    o = b.of_machine.transaction

    s : Store
    s = story.state.store

    seen : Txn
    seen = txn_seen (schema_of s) (story.told i) b.of_machine.transaction

    by : (m : Mode) → b.of_machine.transaction.mode ≡ m → IsTruthful (base (seen_of story) (txn_seen (schema_of story.state.store) (story.told i) b.of_machine.transaction)) (txn_seen (schema_of story.state.store) (story.told i) b.of_machine.transaction)
    by Serial is = subst (λ db. IsTruthful db (txn_seen (schema_of story.state.store) (story.told i) b.of_machine.transaction)) (λ k. elim (sym is k) [ Serial ↦ committed (seen_of story) | Snapshot ↦ state_at story.state.store.origin story.state.store.history b.of_machine.transaction.number ]) (record {
      sound = sound_now story r;
      schema = refl;
      told = recursion_from_All (IsTrueIn (committed (seen_of story))) (story.told i) ((told_law story r i b.of_machine).0 is).0;
    })
    by Snapshot is =
        let at = (snapshot_readable_law story.state (reached_of story r)).1 i b.of_machine is in
        subst (λ db. IsTruthful db (txn_seen (schema_of story.state.store) (story.told i) b.of_machine.transaction)) (λ k. elim (sym is k) [ Serial ↦ committed (seen_of story) | Snapshot ↦ state_at story.state.store.origin story.state.store.history b.of_machine.transaction.number ]) (record {
          sound = at.0.sound;
          schema = at.1;
          told = recursion_from_All (IsTrueIn (state_at story.state.store.origin story.state.store.history b.of_machine.transaction.number)) (story.told i) ((told_law story r i b.of_machine).1 is).0;
        })

defined : (story : Story) (i : ℕ) (t : Txn) → IsReachedStory story → (seen_of story).open_of i ≡ Some t → t.objects ≡ (committed (seen_of story)).schema
defined story i t r e = ap (λ (x : Txn). x.objects) (behind story i t r e).is

-- ---- CREATE statements

create_outside : (statement : StatementTree) → IsCreate statement → refused_outside statement ≡ None
create_outside (create_table name columns primary) c = refl
create_outside (create_index name of columns) c = refl
create_outside (create_view name query) c = refl
create_outside _ c = absurd c

outside_means : (statement : StatementTree) (db : Database) (m : Meaning) → IsCreate statement → means statement db ≡ m → outside statement db ≡ ended_by m db
outside_means statement db m c is = λ k. elim (create_outside statement c k) [ Some refusal ↦ ended_by (Refused refusal) db | None ↦ ended_by (is k) db ]

create_makes : (o : Object) (db : Database) (count : ℕ) (kept : List Kept) → create_meaning o db ≡ Accepted [] count kept → (count ≡ 0) × (kept ≡ defines o ∷ [])
create_makes (table t) db count kept e = (cc, cc)
create_makes (index x) db count kept e = (cc, cc)
create_makes (view w) db count kept e = by (is_some (whole_view db.schema db.rows w)) e
  where
    by : (b : _) → cond b (Accepted [] 0 (defines (view w) ∷ [])) (Refused NumberRange) ≡ Accepted [] count kept → (count ≡ 0) × (kept ≡ defines (view w) ∷ [])
    by true e = (cc, cc)
    by false e = absurd (cc)

module _ (s : State) (statement : StatementTree) (is_create : IsCreate statement) where
  abbrev now_db : Database
  now_db = store.committed s.store

  defined_outside : (number : ℕ) (es : List Effect) → (h : DefinesIt s statement number es) → outside statement now_db ≡ ended_by (Accepted [] 0 (defines h.object ∷ [])) now_db
  defined_outside number es h =
      let made = create_makes h.object now_db h.accepted.0 h.accepted.1 h.accepted.2 in
      outside_means statement now_db (Accepted [] 0 (defines h.object ∷ [])) is_create
      (ap (λ b. bound_or_refused b now_db) h.makes.bound ∙ h.accepted.2 ∙ (λ k. Accepted [] (made.0 k) (made.1 k)))

  denied_outside : (why : Refusal) → IsDenied s.store statement why → outside statement now_db ≡ ended_by (Refused why) now_db
  denied_outside why (unbound bound) = outside_means statement now_db (Refused why) is_create (ap (λ b. bound_or_refused b now_db) bound)
  denied_outside why (refused object makes none refuses) = outside_means statement now_db (Refused why) is_create (ap (λ b. bound_or_refused b now_db) makes.bound ∙ refuses)

-- ---- what a step changes

seen_with : Store → (ℕ → List Fact) → Visible
seen_with s told = record { origin = s.origin; history = s.history; open_of = λ j. option_map (txn_seen (schema_of s) (told j)) (s.open_of j) }

abbrev DefinesNothing : Event → Type 0
DefinesNothing (Creates statement number) = ⊥
DefinesNothing e = Unit {0}

push_schema : (v : Visible) (i m : ℕ) (ks : List Kept) → (keep_all ks (committed v)).schema ≡ objects_in v → (fold (v.history ++ entries m i ks) v.origin).schema ≡ objects_in v
push_schema v i m [] e = ap (λ l. (fold l v.origin).schema) (append-nil v.history)
push_schema v i m (k ∷ ks) e = ap (λ (db : Database). db.schema) (fold_push v.history v.origin (record { number = m + 1; session = i; kept = k ∷ ks })) ∙ e

kept_schema : (v : Visible) (t : Option Txn) → (keep_all (kept_by t) (committed v)).schema ≡ objects_in v
kept_schema v None = refl
kept_schema v (Some t) = ap (λ l. (keep_all l (committed v)).schema) (in_order_is (changes t.kept)) ∙ sets_keep (reverse (changes t.kept)) (committed v)

same_schema : (v : Visible) (i : ℕ) (e : Event) → DefinesNothing e → (fold (history_after v i e) v.origin).schema ≡ objects_in v
same_schema v i (Commits number) q = push_schema v i (committed v).number (kept_by (v.open_of i)) (kept_schema v (v.open_of i))
same_schema v i (Creates statement number) q = absurd q
same_schema v i _ q = refl

defines_nothing : (a : Act) (said : Answer) → (IsMaking a said → ⊥) → DefinesNothing (event a said)
defines_nothing (act.Schema statement) (answer.Committed number) n = absurd (n tt)
defines_nothing (act.Schema statement) (answer.Refused why) n = tt
defines_nothing _ (answer.Refused why) n = tt
defines_nothing _ _ n = tt

module _ (story : Story) (r : IsReachedStory story) (i : ℕ) where
  abbrev s : Store
  s = story.state.store

  abbrev v : Visible
  v = seen_of story

  shown_moves : (e : Event) (l : List Fact) (es : List Effect) → DefinesNothing e → Shown story i e l (run the_views s i es)
      → seen_with (run the_views s i es) (with_one story.told i l) ≡ visible_after v i e
  unfolding seen_with
  shown_moves e l es q sh = λ k. record { origin = sh.origin k; history = sh.history k; open_of = λ j. own j k }
    where
      same : schema_of (run the_views s i es) ≡ schema_of s
      same = (λ k. (fold (sh.history k) (sh.origin k)).schema) ∙ same_schema v i e q

      at_own : option_map (txn_seen (schema_of (run the_views s i es)) (with_one story.told i l i)) ((run the_views s i es).open_of i) ≡ open_after v (v.open_of i) e
      at_own = (λ k. option_map (txn_seen (same k) (one_same story.told i l i refl k)) ((run the_views s i es).open_of i)) ∙ sh.own_is

      own : (j : ℕ) → option_map (txn_seen (schema_of (run the_views s i es)) (with_one story.told i l j)) ((run the_views s i es).open_of j) ≡ (if j == i then open_after v (v.open_of i) e else v.open_of j)
      own j = by_session j i
          (λ is. subst (λ (m : ℕ). option_map (txn_seen (schema_of (run the_views s i es)) (with_one story.told i l m)) ((run the_views s i es).open_of m) ≡ (if m == i then open_after v (v.open_of i) e else v.open_of m)) (sym is)
          (at_own ∙ sym (if_same i (open_after v (v.open_of i) e) (v.open_of i))))
          (λ n. (λ k. option_map (txn_seen (same k) (one_other story.told i l j n k)) (other_opens s i es j n k)) ∙ sym (if_other j i (open_after v (v.open_of i) e) (v.open_of j) n))

  -- nobody's transaction is open
  none_open_all : NoneIsOpen s → (j : ℕ) → s.open_of j ≡ None
  none_open_all none j = elim (session_or j) [ inl is ↦ none j is | inr n ↦ nobody_open story.state (reached_of story r) j n ]

  made_moves : (statement : StatementTree) (number : ℕ) (es : List Effect) (l : List Fact) → IsCreate statement → DefinesIt story.state statement number es
      → seen_with (run the_views s i es) (with_one story.told i l) ≡ visible_after v i (Creates statement number)
  unfolding seen_with
  made_moves statement number es l is_create h = ap (λ es. seen_with (run the_views s i es) (with_one story.told i l)) h.effects ∙ (λ k. record {
    origin = s.origin;
    history = s.history ++ entries (store.committed s).number i (sym kept_is k);
    open_of = λ j. own j k;
  })
    where
      kept_is : (outside statement (store.committed s)).kept ≡ defines h.object ∷ []
      kept_is = ap (λ (x : Transaction). x.kept) (defined_outside story.state statement is_create number es h)

      seen_none : (j : ℕ) → v.open_of j ≡ None
      seen_none j = ap (option_map (txn_seen (schema_of s) (story.told j))) (none_open_all h.none_open j)

      own : (j : ℕ) → option_map (txn_seen (schema_of (run the_views s i (Defines h.object ∷ []))) (with_one story.told i l j)) (s.open_of j) ≡ (if j == i then open_after v (v.open_of i) (Creates statement number) else v.open_of j)
      own j = ap (option_map (txn_seen (schema_of (run the_views s i (Defines h.object ∷ []))) (with_one story.told i l j))) (none_open_all h.none_open j)
          ∙ by_session j i
          (λ is. sym (subst (λ (m : ℕ). (if m == i then open_after v (v.open_of i) (Creates statement number) else v.open_of m) ≡ None) (sym is)
          (if_same i (open_after v (v.open_of i) (Creates statement number)) (v.open_of i) ∙ ap (λ x. open_after v x (Creates statement number)) (seen_none i))))
          (λ n. sym (if_other j i (open_after v (v.open_of i) (Creates statement number)) (v.open_of j) n ∙ seen_none j))

moves_by : (story : Story) → IsReachedStory story → (i : ℕ) (a : Act) (said : Answer) (after : State) (x : Does story.state i a said after) → MayAct story.state.store i a → Making a said
    → seen_with (run the_views story.state.store i x.effects) (with_one story.told i (told_after story.state.store i a said (story.told i))) ≡ visible_after (seen_of story) i (event a said)
moves_by story r i _ _ after x may (is_making statement number) = made_moves story r i statement number x.effects (story.told i) may.2 x.says
moves_by story r i _ _ after x may (makes_none a said n) =
    shown_moves story r i (event a said) (told_after story.state.store i a said (story.told i)) x.effects (defines_nothing a said n) (shown story i a said x.effects may x.says n)

told_moves : (story : Story) (i : ℕ) (a : Act) (n : ℕ) → seen_with story.state.store (with_one story.told i (told_after story.state.store i a (answer.Refused (refusal.Stopped n)) (story.told i))) ≡ visible_after (seen_of story) i (Fails (refusal.Stopped n))
unfolding seen_with
told_moves story i a n = λ k. record {
  origin = story.state.store.origin;
  history = story.state.store.history;
  open_of = λ j. own j k;
}
  where
    told_is : told_after story.state.store i a (answer.Refused (refusal.Stopped n)) (story.told i) ≡ story.told i
    told_is = told_refused story.state.store i a (refusal.Stopped n) (story.told i)

    same_txn : (t : Option Txn) → t ≡ open_after (seen_of story) t (Fails (refusal.Stopped n))
    same_txn None = refl
    same_txn (Some t) = refl

    own : (j : ℕ) → option_map (txn_seen (schema_of story.state.store) (with_one story.told i (told_after story.state.store i a (answer.Refused (refusal.Stopped n)) (story.told i)) j)) (story.state.store.open_of j)
        ≡ (if j == i then open_after (seen_of story) ((seen_of story).open_of i) (Fails (refusal.Stopped n)) else (seen_of story).open_of j)
    own j = by_session j i
        (λ is. subst (λ (m : ℕ). option_map (txn_seen (schema_of story.state.store) (with_one story.told i (told_after story.state.store i a (answer.Refused (refusal.Stopped n)) (story.told i)) m)) (story.state.store.open_of m)
        ≡ (if m == i then open_after (seen_of story) ((seen_of story).open_of i) (Fails (refusal.Stopped n)) else (seen_of story).open_of m)) (sym is)
        (ap (λ l. option_map (txn_seen (schema_of story.state.store) l) (story.state.store.open_of i)) (one_same story.told i _ i refl ∙ told_is) ∙ same_txn ((seen_of story).open_of i)
        ∙ sym (if_same i (open_after (seen_of story) ((seen_of story).open_of i) (Fails (refusal.Stopped n))) ((seen_of story).open_of i))))
        (λ n'. ap (λ l. option_map (txn_seen (schema_of story.state.store) l) (story.state.store.open_of j)) (one_other story.told i _ j n')
        ∙ sym (if_other j i (open_after (seen_of story) ((seen_of story).open_of i) (Fails (refusal.Stopped n))) ((seen_of story).open_of j) n'))

moves : (story after : Story) (i : ℕ) (a : Act) (said : Answer) → IsReachedStory story → DoesOf story i a said after → seen_of after ≡ visible_after (seen_of story) i (event a said)
unfolding seen_with
moves story after i a said r h = ap seen_of h.2 ∙ elim h.1.does [
  | inl x ↦ ap (λ (z : State). seen_with z.store (with_one story.told i (told_after story.state.store i a said (story.told i)))) x.left
      ∙ moves_by story r i a said h.0 x (may_of story.state i a x.runs h.1.may.1) (making a said)
  | inr x ↦ ap (λ (z : State). seen_with z.store (with_one story.told i (told_after story.state.store i a said (story.told i)))) x.left
      ∙ subst (λ y. seen_with story.state.store (with_one story.told i (told_after story.state.store i a y (story.told i))) ≡ visible_after (seen_of story) i (event a y)) (sym x.says)
      (told_moves story i a x.stop.step)
]

-- ---- what answers tell

-- what is so of the machine where a step came so
abbrev FactOf : Story → ℕ → Event → Type 0
FactOf story i (Begins mode number defs) = (number ≡ (committed (seen_of story)).number) × (defs ≡ length (objects_in (seen_of story)))
FactOf story i (Learns all) = all ≡ objects_in (seen_of story)
FactOf story i (Commits number) = (t : Txn) → (seen_of story).open_of i ≡ Some t → number ≡ next_number (kept_of t) (base (seen_of story) t).number
FactOf story i (Creates statement number) = (outside statement (committed (seen_of story))).replies ≡ reply.Done 0 ∷ reply.Commit number ∷ []
FactOf story i (Denies statement why) =
    ((outside statement (committed (seen_of story))).replies ≡ reply.Error why ∷ []) × ((outside statement (committed (seen_of story))).kept ≡ [])
FactOf story i e = Unit {0}

next_some : (ks : List Kept) (n : ℕ) → ks ≢ [] → next_number ks n ≡ n + 1
next_some [] n e = absurd (e refl)
next_some (k ∷ ks) n e = refl

commit_fact : (story : Story) → IsReachedStory story → (i number : ℕ) (es : List Effect) → CommitsAs story.state.store i (changes_by story.state.store i) number es → FactOf story i (Commits number)
commit_fact story r i number es h t e = subst (λ (x : Txn). number ≡ next_number (kept_of x) (base (seen_of story) x).number) (sym b.is) (by (changes_by s i) refl h b.of_machine.transaction.mode refl)
  where
    s : Store
    s = story.state.store

    b : Behind story i t
    b = behind story i t r e

    o : Open
    o = b.of_machine.transaction

    now_o : now story.state.store i ≡ b.of_machine.transaction
    now_o = now_is view_laws story.state.store i b.of_machine.transaction b.of_machine.is_open

    -- what the transaction keeps
    kept_of_o : (cs : List RowChange) → changes_by story.state.store i ≡ cs → kept_of (txn_seen (schema_of story.state.store) (story.told i) b.of_machine.transaction) ≡ in_order cs
    kept_of_o cs is = ap in_order (changes_seen b.of_machine.transaction.kept ∙ ap (λ (x : Open). changes_of x.kept) (sym now_o) ∙ is)

    base_at : (m : Mode) → b.of_machine.transaction.mode ≡ m
        → base (seen_of story) (txn_seen (schema_of story.state.store) (story.told i) b.of_machine.transaction)
        ≡ elim m [ Serial ↦ committed (seen_of story) | Snapshot ↦ state_at story.state.store.origin story.state.store.history b.of_machine.transaction.number ]
    base_at m is = λ k. elim (is k) [ Serial ↦ committed (seen_of story) | Snapshot ↦ state_at story.state.store.origin story.state.store.history b.of_machine.transaction.number ]

    unchanged_at : (m : Mode) → b.of_machine.transaction.mode ≡ m → number_unchanged story.state.store (now story.state.store i)
        ≡ elim m [ Serial ↦ (store.committed story.state.store).number | Snapshot ↦ b.of_machine.transaction.number ]
    unchanged_at m is = ap (number_unchanged story.state.store) now_o
        ∙ (λ k. elim (is k) [ Serial ↦ (store.committed story.state.store).number | Snapshot ↦ b.of_machine.transaction.number ])

    by : (cs : List RowChange) → changes_by story.state.store i ≡ cs → CommitsAs story.state.store i cs number es → (m : Mode) → b.of_machine.transaction.mode ≡ m
        → number ≡ next_number (kept_of (txn_seen (schema_of story.state.store) (story.told i) b.of_machine.transaction)) (base (seen_of story) (txn_seen (schema_of story.state.store) (story.told i) b.of_machine.transaction)).number
    by [] is c Serial m = c.0 ∙ unchanged_at Serial m ∙ sym (λ k. next_number (kept_of_o [] is k) (base_at Serial m k).number)
    by [] is c Snapshot m =
        c.0 ∙ unchanged_at Snapshot m ∙ sym ((snapshot_readable_law story.state (reached_of story r)).1 i b.of_machine m).0.number_is
        ∙ sym (λ k. next_number (kept_of_o [] is k) (base_at Snapshot m k).number)
    by (x ∷ cs) is c Serial m =
        c.0 ∙ sym (next_some (in_order (x ∷ cs)) (store.committed story.state.store).number (ends_some cs x)) ∙ sym (λ k. next_number (kept_of_o (x ∷ cs) is k) (base_at Serial m k).number)
    by (x ∷ cs) is c Snapshot m = absurd (let none_kept = sym is ∙ ((told_law story r i b.of_machine).1 m).1 in cc)

fact_of : (story : Story) → IsReachedStory story → (i : ℕ) (a : Act) (said : Answer) (es : List Effect) → MayAct story.state.store i a → Says story.state i a said es → FactOf story i (event a said)
fact_of story r i a (answer.Refused why) es may h = tt
fact_of story r i (act.Begin mode) (answer.Begun number defs) es may h = (h.number_is, h.defs_are)
fact_of story r i act.Defs (answer.Defs all) es may h = h.0
fact_of story r i act.Commit (answer.Committed number) es may h = commit_fact story r i number es h
fact_of story r i (act.Schema statement) (answer.Committed number) es may h =
    ap (λ (x : Transaction). x.replies) (defined_outside story.state statement may.2 number es h) ∙ ap (λ n. reply.Done 0 ∷ reply.Commit n ∷ []) (sym h.number_is)
fact_of story r i (act.Schema statement) (answer.Denied why) es may h =
    let x = denied_outside story.state statement may.2 why h.0 in (ap (λ (x : Transaction). x.replies) x, ap (λ (x : Transaction). x.kept) x)
fact_of story r i act.Pay (answer.Blocked sessions) es may h = tt
fact_of story r i (act.Fetch number interval mode) (answer.Blocked sessions) es may h = tt
fact_of story r i (act.Put number key new) (answer.Blocked sessions) es may h = tt
fact_of story r i (act.Fetch number interval mode) (answer.Rows rows) es may h = tt
fact_of story r i (act.Peek number interval) (answer.Rows rows) es may h = tt
fact_of story r i (act.Put number key new) (answer.Changed before owed) es may h = tt
fact_of story r i act.Pay (answer.Paid left) es may h = tt
fact_of story r i act.Pay answer.NeedsGhost es may h = tt
fact_of story r i act.Ghost answer.Ghosted es may h = tt
fact_of story r i act.UndoOne (answer.Undone left) es may h = tt
fact_of story r i act.End answer.Ended es may h = tt
fact_of story r i act.Clean (answer.Cleaned count) es may h = tt
fact_of story r i act.Prune answer.Pruned es may h = tt
fact_of story r i act.Checkpoint (answer.Saved number) es may h = tt
fact_of story r i act.Cancel answer.Cancelled es may h = tt
fact_of story r i _ _ es may h = tt

fact : (story after : Story) (i : ℕ) (a : Act) (said : Answer) → IsReachedStory story → DoesOf story i a said after → FactOf story i (event a said)
fact story after i a said r h = elim h.1.does [
  | inl x ↦ fact_of story r i a said x.effects (may_of story.state i a x.runs h.1.may.1) x.says
  | inr x ↦ subst (λ y. FactOf story i (event a y)) (sym x.says) tt
]

pub machine_laws : StepLaws seen_of DoesOf IsReachedStory IsStopped
machine_laws = record {
  stands = stands;
  answers = answers;
  moves = moves;
  halts = halts;
  stays = stays;
  truth = truth;
  defined = defined;
  begins = λ s after i a said mode number defs r h e. subst (FactOf s i) e (fact s after i a said r h);
  learns = λ s after i a said all r h e. subst (FactOf s i) e (fact s after i a said r h);
  numbers = λ s after i a said number t r h e is. subst (FactOf s i) e (fact s after i a said r h) t is;
  creates = λ s after i a said statement number r h e. subst (FactOf s i) e (fact s after i a said r h);
  denies = λ s after i a said statement why r h e. subst (FactOf s i) e (fact s after i a said r h);
  saves = λ s after i number r h. elim h.1.does [
    | inl x ↦ x.says.1
    | inr x ↦ absurd (cc)
  ];
}

pub machine_law : MachineLaw
machine_law programs tell program_laws engines db stored opening was_opened lines out after r =
    let reached : IsReachedStory (begun_story (opened_state opening (store.opened db stored))) = record { db = db; view = stored; opening = opening; was_opened = was_opened; steps = []; tells = refl } in
    let new : IsNew db (seen_of (begun_story (opened_state opening (store.opened db stored)))) = record { origin_is = refl; none_committed = refl; none_open = λ session. refl } in (
      transcript_law seen_of DoesOf IsReachedStory IsStopped programs tell machine_laws program_laws engines db lines (begun_story (opened_state opening (store.opened db stored))) after out reached new r,
      end_law seen_of DoesOf IsReachedStory IsStopped programs tell machine_laws program_laws engines db lines (begun_story (opened_state opening (store.opened db stored))) after out reached new r,
    )
