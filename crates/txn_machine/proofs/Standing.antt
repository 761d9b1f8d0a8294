-- Notes that stand.
use Rattle.std.specs.Prelude.{◌≡◌, ◌≢◌, ℕ, zero, suc, ◌+◌, ◌-◌, ◌≤◌, nat_le, cond, true, false, List, [], ◌∷◌, ◌++◌, drop, length, Option, Some, None}
use Rattle.std.specs.List.{All, AllByRecursion, Contains}
use mathlib.Core.Path.{refl, sym, ap, subst, ◌∙◌}
use mathlib.Core.Logic.{inl, inr}
use Rattle.std.proofs.Common.{arith, leb-true, le-leb}
use Rattle.std.proofs.lemmas.Bool.{cases_lt}
use Rattle.std.proofs.lemmas.List.Elements.{All-from_recursion, recursion_from_All}
use Rattle.iv_types.specs.declared.statement.Mode.TheVariants.{Serial}
use Rattle.iv_types.specs.declared.lock.GroupDelta.{GroupDelta}
use Rattle.iv_types.specs.declared.lock.Want.{Want}
use Rattle.iv_types.specs.declared.refusal.EngineRefusal.TheVariants as refusal
use Rattle.table_laws.proofs.Stored.{by_session}
use Rattle.txn_machine.specs.Acts as act
use Rattle.txn_machine.specs.Acts.{Act}
use Rattle.txn_machine.specs.Answers as answer
use Rattle.txn_machine.specs.Answers.{Answer}
use Rattle.txn_machine.specs.Locks.{with_one}
use Rattle.txn_machine.specs.Deltas.{RowChange}
use Rattle.txn_machine.specs.Keeping.{KeptStep, Put, Pay, changes_of, Note, Open, begun, idle}
use Rattle.txn_machine.specs.Ghosts.{the_views}
use Rattle.txn_machine.specs.Store.{Store, committed, now, changes_by, change_at, notes_before, paid_first, undone, Effect, Opens, Takes, Notes, Writes, Pays, Ghosts, Undoes, Loses, Ends, Commits, Defines, Cleans, Prunes, does, run}
use Rattle.txn_machine.specs.State.{State}
use Rattle.txn_machine.specs.May.{MayAct}
use Rattle.txn_machine.specs.Steps.{asked, CommitsAs, Says, Step, Did, Run}
use Rattle.iv_meaning.specs.View.{read}
use Rattle.txn_machine.specs.Alone.{Fact, Found, WasThere, told_of_undo, told_after, Story, story_after, begun_story, Unfolds, IsTrueIn, with_changes}
use Rattle.txn_machine.specs.Laws.{IsReached, IsReachedStory}
use Rattle.txn_machine.specs.KeptLaws.{oldest, NotesLaw}
use Rattle.txn_machine.proofs.Basics.{one_same, one_other}
use Rattle.txn_machine.proofs.Good.{the_open}
use Rattle.txn_machine.proofs.Holding.{contains_here, contains_next}
use Rattle.txn_machine.proofs.Stepping.{now_is, now_locked, ready_owes}
use Rattle.txn_machine.proofs.Looking.{view_laws}
use Rattle.txn_machine.proofs.Telling.{tell, tell_all}
use Rattle.txn_machine.proofs.Rings.{other_opens}
use Rattle.txn_machine.proofs.Moving.{may_of}
use Rattle.txn_machine.proofs.Ranging.{all_contains}
use Rattle.txn_machine.proofs.Stories.{told_blocked, told_refused}
use Rattle.txn_machine.proofs.OwnRows.{told_law}

-- ---- the oldest kept steps

oldest_all : (ks : List KeptStep) → oldest (length ks) ks ≡ ks
oldest_all ks = ap (λ n. drop n ks) (let e : length ks - length ks ≡ 0 = omega arith in e)

oldest_more : (many : ℕ) (k : KeptStep) (ks : List KeptStep) → many ≤ length ks → oldest many (k ∷ ks) ≡ oldest many ks
oldest_more many k ks h = ap (λ n. drop n (k ∷ ks)) (let e : suc (length ks) - many ≡ suc (length ks - many) = omega (arith, h) in e)

oldest_whole : (many : ℕ) (ks : List KeptStep) → length ks ≤ many → oldest many ks ≡ ks
oldest_whole many ks h = ap (λ n. drop n ks) (let e : length ks - many ≡ 0 = omega (arith, h) in e)

-- a pay more or less leaves the changes
oldest_pay : (many : ℕ) (d : GroupDelta) (ks : List KeptStep) → changes_of (oldest many (Pay d ∷ ks)) ≡ changes_of (oldest many ks)
oldest_pay many d ks = elim (cases_lt (length ks) many) [
  | inl more ↦ ap changes_of (oldest_whole many (Pay d ∷ ks) (omega (arith, more))) ∙ sym (ap changes_of (oldest_whole many ks (omega (arith, more))))
  | inr few ↦ ap changes_of (oldest_more many (Pay d) ks few)
]

-- ---- what is known of a transaction's notes

abbrev found : Note → List KeptStep → Fact
found n ks = Found n.index n.interval n.rows (changes_of (oldest n.kept ks))

pub record NotesGood (t : Open) (told : List Fact) : Type 0 where
  pub each : AllByRecursion (λ n. Contains told (found n t.kept)) t.notes
  pub below : t.back ≡ 0 → AllByRecursion (λ n. n.kept ≤ length t.kept) t.notes
  pub back : t.back ≤ length t.owed

none_good : (t : Open) (told : List Fact) → t.notes ≡ [] → t.back ≡ 0 → NotesGood t told
none_good t told e b = record {
  each = subst (AllByRecursion (λ n. Contains told (found n t.kept))) (sym e) tt;
  below = λ x. subst (AllByRecursion (λ n. n.kept ≤ length t.kept)) (sym e) tt;
  back = omega (arith, b);
}

-- each note goes over
each_note : (P Q R : Note → Type 0) (ns : List Note) → ((n : Note) → P n → Q n → R n) → AllByRecursion P ns → AllByRecursion Q ns → AllByRecursion R ns
each_note P Q R [] f h k = tt
each_note P Q R (n ∷ ns) f h k = (f n h.0 k.0, each_note P Q R ns f h.1 k.1)

each_filtered : (P R : Note → Type 0) (many : ℕ) (ns : List Note) → ((n : Note) → P n → n.kept ≤ many → R n) → AllByRecursion P ns → AllByRecursion R (notes_before many ns)
each_filtered P R many [] f h = tt
each_filtered P R many (n ∷ ns) f h =
    let rest = each_filtered P R many ns f h.1 in
    elim (nat_le n.kept many) as (λ b. nat_le n.kept many ≡ b → AllByRecursion R (cond b (n ∷ notes_before many ns) (notes_before many ns))) [
      | true ↦ λ e. (f n h.0 (leb-true n.kept many e), rest)
      | false ↦ λ e. rest
    ] refl

-- one more step that is kept, and perhaps one more thing that was told
kept_more : (ks : List KeptStep) (k : KeptStep) (told more : List Fact) (ns : List Note) → ((t : Fact) → Contains told t → Contains more t) → AllByRecursion (λ n. Contains told (found n ks)) ns → AllByRecursion (λ n. n.kept ≤ length ks) ns
    → AllByRecursion (λ n. Contains more (found n (k ∷ ks))) ns
kept_more ks k told more ns f h l = each_note (λ n. Contains told (found n ks)) (λ n. n.kept ≤ length ks) (λ n. Contains more (found n (k ∷ ks))) ns
    (λ n c less. subst (λ (x : List KeptStep). Contains more (Found n.index n.interval n.rows (changes_of x))) (sym (oldest_more n.kept k ks less)) (f (found n ks) c)) h l

below_more : (many : ℕ) (ns : List Note) → AllByRecursion (λ n. n.kept ≤ many) ns → AllByRecursion (λ n. n.kept ≤ suc many) ns
below_more many ns h = each_note (λ n. n.kept ≤ many) (λ n. n.kept ≤ many) (λ n. n.kept ≤ suc many) ns (λ n l m. omega (arith, l)) h h

one_more : (t : Open) (told : List Fact) (x : Fact) → NotesGood t told → NotesGood t (x ∷ told)
one_more t told x g = record {
  each = each_note (λ n. Contains told (found n t.kept)) (λ n. Contains told (found n t.kept)) (λ n. Contains (x ∷ told) (found n t.kept)) t.notes (λ n c d. contains_next x told (found n t.kept) c) g.each g.each;
  below = g.below;
  back = g.back;
}

no_back : (t : Open) (told : List Fact) → NotesGood t told → t.owed ≡ [] → t.back ≡ 0
no_back t told g e = let b = g.back in let none : length t.owed ≡ 0 = ap length e in omega (arith, b, none)

-- ---- effects

abbrev Cond : Store → ℕ → Effect → Type 0
Cond s i (Notes n) = n.kept ≡ length (now s i).kept
Cond s i (Writes p new) = (now s i).owed ≡ []
Cond s i Pays = (now s i).back ≡ 0
Cond s i _ = Unit {0}

module _ (s : Store) (i : ℕ) (told : List Fact) (g : NotesGood (now s i) told) where
  abbrev t : Open
  t = now s i

  -- the transaction is this one now
  set_to : (u : Open) (more : List Fact) → NotesGood u more → NotesGood (the_open (with_one s.open_of i (Some u) i)) more
  set_to u more h = subst (λ (o : Option Open). NotesGood (the_open o) more) (sym (one_same s.open_of i (Some u) i refl)) h

  set_none : NotesGood (the_open (with_one s.open_of i None i)) []
  set_none = subst (λ (o : Option Open). NotesGood (the_open o) []) (sym (one_same s.open_of i None i refl)) (none_good idle [] refl refl)

  own_pays : (ds : List GroupDelta) → t.owed ≡ ds → t.back ≡ 0 → NotesGood (the_open ((paid_first s i t ds).open_of i)) told
  own_pays [] e b = g
  own_pays (d ∷ ds) e b = set_to (record t { kept = Pay d ∷ t.kept; owed = ds }) told (record {
    each = kept_more t.kept (Pay d) told told t.notes (λ x c. c) g.each (g.below b);
    below = λ x. below_more (length t.kept) t.notes (g.below b);
    back = omega (arith, b);
  })

  own_undoes : (ks : List KeptStep) → t.kept ≡ ks → NotesGood (the_open ((undone s i t ks).open_of i)) (told_of_undo ks told)
  own_undoes [] e = g
  own_undoes (Put c ds ∷ ks) e = set_to (record t { kept = ks; owed = []; back = 0; notes = notes_before (length ks) t.notes }) (told_of_undo (Put c ds ∷ ks) told) (record {
    each = each_filtered (λ n. Contains told (found n t.kept)) (λ n. Contains (told_of_undo (Put c ds ∷ ks) told) (found n ks)) (length ks) t.notes
        (λ n h l. contains_next _ told (found n ks) (subst (λ (x : List KeptStep). Contains told (Found n.index n.interval n.rows (changes_of x))) (ap (oldest n.kept) e ∙ oldest_more n.kept (Put c ds) ks l) h)) g.each;
    below = λ x. each_filtered (λ n. Contains told (found n t.kept)) (λ n. n.kept ≤ length ks) (length ks) t.notes (λ n h l. l) g.each;
    back = omega arith;
  })
  own_undoes (Pay d ∷ ks) e = set_to (record t { kept = ks; owed = d ∷ t.owed; back = t.back + 1 }) told (record {
    each = each_note (λ n. Contains told (found n t.kept)) (λ n. Contains told (found n t.kept)) (λ n. Contains told (found n ks)) t.notes
        (λ n h k. subst (λ (x : List RowChange). Contains told (Found n.index n.interval n.rows x)) (ap (λ (x : List KeptStep). changes_of (oldest n.kept x)) e ∙ oldest_pay n.kept d ks) h) g.each g.each;
    below = λ x. absurd (omega (arith, x));
    back = let b = g.back in omega (arith, b);
  })

  own_effect : (e : Effect) → Cond s i e → NotesGood (now (does the_views s i e) i) (tell s i e told)
  own_effect (Opens mode) c = set_to (begun mode (committed s).number) [] (none_good (begun mode (committed s).number) [] refl refl)
  own_effect (Takes wants) c = set_to (record t { locks = wants ++ t.locks }) told (record { each = g.each; below = g.below; back = g.back })
  own_effect (Notes n) c =
      let first : Fact = Found n.index n.interval n.rows (changes_by s i) in
      let is : found n t.kept ≡ first = ap (λ (x : List KeptStep). Found n.index n.interval n.rows (changes_of x)) (ap (λ m. oldest m t.kept) c ∙ oldest_all t.kept) in
      set_to (record t { notes = n ∷ t.notes }) (first ∷ told) (record {
        each = (
          subst (Contains (first ∷ told)) (sym is) (contains_here first told),
          each_note (λ x. Contains told (found x t.kept)) (λ x. Contains told (found x t.kept)) (λ x. Contains (first ∷ told) (found x t.kept)) t.notes (λ x h k. contains_next first told (found x t.kept) h) g.each g.each,
        );
        below = λ b. (omega (arith, c), g.below b);
        back = g.back;
      })
  own_effect (Writes p new) c =
      let none : t.back ≡ 0 = no_back t told g c in
      set_to (record t { kept = Put (change_at s p new) _ ∷ t.kept; owed = _; back = 0 }) (tell s i (Writes p new) told) (record {
        each = kept_more t.kept (Put (change_at s p new) _) told (tell s i (Writes p new) told) t.notes (λ x h. contains_next _ told x h) g.each (g.below none);
        below = λ b. below_more (length t.kept) t.notes (g.below none);
        back = omega arith;
      })
  own_effect Pays c = own_pays t.owed refl c
  own_effect (Ghosts p n) c = g
  own_effect Undoes c = own_undoes t.kept refl
  own_effect Loses c = set_to (record t { is_lost = true }) told (record { each = g.each; below = g.below; back = g.back })
  own_effect Ends c = set_none
  own_effect Commits c = set_none
  own_effect (Defines o) c = g
  own_effect (Cleans p) c = g
  own_effect Prunes c = g

abbrev CondAll : Store → ℕ → List Effect → Type 0
CondAll s i [] = Unit {0}
CondAll s i (e ∷ es) = Cond s i e × CondAll (does the_views s i e) i es

own_run : (s : Store) (i : ℕ) (es : List Effect) (told : List Fact) → CondAll s i es → NotesGood (now s i) told → NotesGood (now (run the_views s i es) i) (tell_all s i es told)
own_run s i [] told c g = g
own_run s i (e ∷ es) told c g = own_run (does the_views s i e) i es (tell s i e told) c.1 (own_effect s i told g e c.0)

own_by : (s : Store) (i : ℕ) (es fs : List Effect) → es ≡ fs → CondAll s i fs → (told told' : List Fact) → told' ≡ tell_all s i fs told → NotesGood (now s i) told → NotesGood (now (run the_views s i es) i) told'
own_by s i es fs e c told told' is g =
    subst (λ (l : List Effect). NotesGood (now (run the_views s i l) i) told') (sym e) (subst (NotesGood (now (run the_views s i fs) i)) (sym is) (own_run s i fs told c g))

still : (s : Store) (i : ℕ) (wants : List Want) {X : Type 0} (f : Open → X) → f (record (now s i) { locks = wants ++ (now s i).locks }) ≡ f (now s i) → f (now (does the_views s i (Takes wants)) i) ≡ f (now s i)
still s i wants f e = ap f (now_locked view_laws s i wants) ∙ e

own_commits : (s : State) (i number : ℕ) (es : List Effect) (cs : List RowChange) → CommitsAs s.store i cs number es → (told : List Fact) → NotesGood (now s.store i) told → NotesGood (now (run the_views s.store i es) i) []
own_commits s i number es [] h told g = own_by s.store i es (Ends ∷ []) h.1 (tt, tt) told [] refl g
own_commits s i number es (c ∷ cs) h told g = own_by s.store i es (Commits ∷ []) h.1 (tt, tt) told [] refl g

own_says : (s : State) (i : ℕ) (a : Act) (said : Answer) (es : List Effect) → MayAct s.store i a → Says s i a said es → (told : List Fact) → NotesGood (now s.store i) told → NotesGood (now (run the_views s.store i es) i) (told_after s.store i a said told)
own_says s i a (answer.Blocked sessions) es may h told g = own_by s.store i es [] h.2 tt told _ (told_blocked s.store i a sessions told) g
own_says s i a (answer.Refused (refusal.Deadlock cycle)) es may h told g = own_by s.store i es (Loses ∷ []) h.2 (tt, tt) told _ (told_refused s.store i a (refusal.Deadlock cycle) told) g
own_says s i a (answer.Refused refusal.NoMemory) es may h told g = own_by s.store i es [] h.1 tt told _ (told_refused s.store i a refusal.NoMemory told) g
own_says s i (act.Begin mode) (answer.Begun number defs) es may h told g = own_by s.store i es (Opens mode ∷ []) h.effects (tt, tt) told [] refl g
own_says s i (act.Begin mode) (answer.Refused (refusal.LogFull used reserved need)) es may h told g = own_by s.store i es [] h.0 tt told told refl g
own_says s i (act.Begin mode) (answer.Refused (refusal.HistoryFull kept need)) es may h told g = own_by s.store i es [] h.3 tt told told refl g
own_says s i act.Defs (answer.Defs objects) es may h told g = own_by s.store i es [] h.1 tt told told refl g
own_says s i (act.Fetch number interval mode) (answer.Rows rows) es may h told g =
    let wants : List Want = asked s.store i (act.Fetch number interval mode) in
    own_by s.store i es (Takes wants ∷ Notes _ ∷ []) h.effects (tt, (sym (still s.store i wants (λ (x : Open). length x.kept) refl), tt)) told _
    (ap (λ (cs : List RowChange). Found number interval rows cs ∷ told) (sym (still s.store i wants (λ (x : Open). changes_of x.kept) refl))) g
own_says s i (act.Fetch number interval mode) (answer.Refused (refusal.TxnFull kept need)) es may h told g = own_by s.store i es [] h.1 tt told told refl g
own_says s i (act.Peek number interval) (answer.Rows rows) es may h told g =
    one_more (now (run the_views s.store i es) i) told (Found number interval rows []) (own_by s.store i es [] h.1 tt told told refl g)
own_says s i (act.Put number key new) (answer.Changed before deltas) es may h told g =
    let wants : List Want = asked s.store i (act.Put number key new) in
    own_by s.store i es (Takes wants ∷ Writes (number, key) new ∷ []) h.effects (tt, (still s.store i wants (λ (x : Open). x.owed) refl ∙ ready_owes view_laws s.store i Serial may.0, tt)) told _
    (λ x. WasThere (number, key) new (h.before_is x) (sym (still s.store i wants (λ (y : Open). changes_of y.kept) refl) x) ∷ told) g
own_says s i (act.Put number key new) (answer.Refused (refusal.TxnFull kept need)) es may h told g = own_by s.store i es [] h.1 tt told told refl g
own_says s i (act.Put number key new) (answer.Refused (refusal.LogFull used reserved need)) es may h told g = own_by s.store i es [] h.1 tt told told refl g
own_says s i (act.Put number key new) (answer.Refused (refusal.DataFull used need)) es may h told g = own_by s.store i es [] h.1 tt told told refl g
own_says s i (act.Put number key new) (answer.Refused (refusal.HistoryFull kept need)) es may h told g = own_by s.store i es [] h.1 tt told told refl g
own_says s i act.Pay (answer.Paid left) es may h told g =
    let wants : List Want = asked s.store i act.Pay in
    own_by s.store i es (Takes wants ∷ Pays ∷ []) h.effects
    (tt, (still s.store i wants (λ (x : Open). x.back) refl ∙ (ap (λ (x : Open). x.back) (now_is view_laws s.store i may.goes_on.transaction may.goes_on.is_open) ∙ may.none_back), tt)) told told refl g
own_says s i act.Pay answer.NeedsGhost es may h told g = own_by s.store i es (Takes _ ∷ []) h.effects (tt, tt) told told refl g
own_says s i act.Pay (answer.Refused (refusal.Escrow column low high)) es may h told g = own_by s.store i es (Takes _ ∷ []) h.effects (tt, tt) told told refl g
own_says s i act.Ghost answer.Ghosted es may h told g = elim h.effects [
  | inl m ↦ own_by s.store i es (Ghosts _ _ ∷ []) m.1 (tt, tt) told told refl g
  | inr m ↦ own_by s.store i es [] m.1 tt told told refl g
]
own_says s i act.UndoOne (answer.Undone left) es may h told g = own_by s.store i es (Undoes ∷ []) h.effects (tt, tt) told _ refl g
own_says s i act.End answer.Ended es may h told g = own_by s.store i es (Ends ∷ []) h (tt, tt) told [] refl g
own_says s i act.Commit (answer.Committed number) es may h told g = own_commits s i number es (changes_by s.store i) h told g
own_says s i act.Commit (answer.Refused refusal.DiskFault) es may h told g = own_by s.store i es [] h.0 tt told told refl g
own_says s i (act.Schema statement) (answer.Committed number) es may h told g = own_by s.store i es (Defines h.object ∷ []) h.effects (tt, tt) told told refl g
own_says s i (act.Schema statement) (answer.Denied why) es may h told g = own_by s.store i es [] h.1 tt told told refl g
own_says s i (act.Schema statement) (answer.Refused (refusal.SchemaBusy busy)) es may h told g = own_by s.store i es [] h.1 tt told told refl g
own_says s i (act.Schema statement) (answer.Refused (refusal.LogFull used reserved need)) es may h told g = own_by s.store i es [] h.1 tt told told refl g
own_says s i (act.Schema statement) (answer.Refused (refusal.DataFull used need)) es may h told g = own_by s.store i es [] h.1 tt told told refl g
own_says s i (act.Schema statement) (answer.Refused (refusal.HistoryFull kept need)) es may h told g = own_by s.store i es [] h.1 tt told told refl g
own_says s i (act.Schema statement) (answer.Refused refusal.DiskFault) es may h told g = own_by s.store i es [] h.0 tt told told refl g
own_says s i act.Clean (answer.Cleaned zero) es may h told g = own_by s.store i es [] h.1 tt told told refl g
own_says s i act.Clean (answer.Cleaned (suc zero)) es may h told g = own_by s.store i es (Cleans _ ∷ []) h.2 (tt, tt) told told refl g
own_says s i act.Clean (answer.Refused (refusal.LogFull used reserved need)) es may h told g = own_by s.store i es [] h.0 tt told told refl g
own_says s i act.Prune answer.Pruned es may h told g = own_by s.store i es (Prunes ∷ []) h (tt, tt) told told refl g
own_says s i act.Checkpoint (answer.Saved greatest) es may h told g = own_by s.store i es [] h.0 tt told told refl g
own_says s i act.Checkpoint (answer.Refused refusal.DiskFault) es may h told g = own_by s.store i es [] h tt told told refl g
own_says s i act.Cancel answer.Cancelled es may h told g = own_by s.store i es [] h tt told told refl g
own_says s i _ _ es may h told g = absurd h

-- ---- stories

abbrev StoryNotes : Story → Type 0
StoryNotes story = (j : ℕ) → NotesGood (now story.state.store j) (story.told j)

story_step : (story : Story) (d : Did) (after : State) → StoryNotes story → Step story.state d.session d.act d.said after → StoryNotes (story_after story d after)
story_step story d after g step j = by_session j d.session
    (λ e. subst (λ k. NotesGood (now after.store k) (with_one story.told d.session new_told k)) (sym e)
    (subst (NotesGood (now after.store d.session)) (sym (one_same story.told d.session new_told d.session refl)) own))
    (λ n. subst (NotesGood (now after.store j)) (sym (one_other story.told d.session new_told j n))
    (subst (λ (o : Option Open). NotesGood (the_open o) (story.told j)) (sym (other n)) (g j)))
  where
    new_told : List Fact
    new_told = told_after story.state.store d.session d.act d.said (story.told d.session)

    own : NotesGood (now after.store d.session) (told_after story.state.store d.session d.act d.said (story.told d.session))
    own = elim step.does [
      | inl x ↦ subst (λ (z : State). NotesGood (now z.store d.session) (told_after story.state.store d.session d.act d.said (story.told d.session))) (sym x.left)
          (own_says story.state d.session d.act d.said x.effects (may_of story.state d.session d.act x.runs step.may.1) x.says (story.told d.session) (g d.session))
      | inr x ↦
          let same : told_after story.state.store d.session d.act d.said (story.told d.session) ≡ story.told d.session =
          ap (λ y. told_after story.state.store d.session d.act y (story.told d.session)) x.says ∙ told_refused story.state.store d.session d.act (refusal.Stopped x.stop.step) (story.told d.session) in
          subst (λ (z : State). NotesGood (now z.store d.session) (told_after story.state.store d.session d.act d.said (story.told d.session))) (sym x.left)
          (subst (NotesGood (now story.state.store d.session)) (sym same) (g d.session))
    ]

    other : j ≢ d.session → after.store.open_of j ≡ story.state.store.open_of j
    other n = elim step.does [
      | inl x ↦ ap (λ (z : State). z.store.open_of j) x.left ∙ other_opens story.state.store d.session x.effects j n
      | inr x ↦ ap (λ (z : State). z.store.open_of j) x.left
    ]

-- what was told along steps
story_of : (story : Story) (ds : List Did) (after : State) → StoryNotes story → Run story.state ds after → (last : Story) × (last.state ≡ after) × Unfolds story ds last × StoryNotes last
story_of story [] after g r = (story, sym r, refl, g)
story_of story (d ∷ ds) after g r =
    let rest = story_of (story_after story d r.0) ds after (story_step story d r.0 g r.1) r.2 in
    (rest.0, rest.1, (r.0, r.1, rest.2), rest.3)

pub notes_law : NotesLaw
notes_law s r i o serial =
    let story = story_of (begun_story _) r.steps s (λ j. none_good idle [] refl refl) r.run in
    let reached : IsReachedStory story.0 = record { db = r.db; view = r.view; opening = r.opening; was_opened = r.was_opened; steps = r.steps; tells = story.2 } in
    let good : NotesGood (now story.0.state.store i) (story.0.told i) = story.3 i in
    let own : now story.0.state.store i ≡ o.transaction = ap (λ (z : State). now z.store i) story.1 ∙ ap the_open o.is_open in
    let is_open : story.0.state.store.open_of i ≡ Some o.transaction = ap (λ (z : State). z.store.open_of i) story.1 ∙ o.is_open in
    let told = (told_law story.0 reached i (record { of_session = o.of_session; transaction = o.transaction; is_open = is_open })).0 serial in
    let each : AllByRecursion (λ n. Contains (story.0.told i) (found n o.transaction.kept)) o.transaction.notes = subst (λ (t : Open). AllByRecursion (λ n. Contains (story.0.told i) (found n t.kept)) t.notes) own good.each in
    subst (λ (z : State). All (λ n. read (with_changes (changes_of (oldest n.kept o.transaction.kept)) (committed z.store)) n.index n.interval ≡ n.rows) o.transaction.notes) story.1
    (All-from_recursion _ o.transaction.notes
    (each_note (λ n. Contains (story.0.told i) (found n o.transaction.kept)) (λ n. Contains (story.0.told i) (found n o.transaction.kept))
    (λ n. read (with_changes (changes_of (oldest n.kept o.transaction.kept)) (committed story.0.state.store)) n.index n.interval ≡ n.rows) o.transaction.notes
    (λ n c d. all_contains (IsTrueIn (committed story.0.state.store)) (story.0.told i) (found n o.transaction.kept) (recursion_from_All (IsTrueIn (committed story.0.state.store)) (story.0.told i) told.0) c) each each))

-- no note was taken behind a step that is kept no more
all_before : (many : ℕ) (ns : List Note) → AllByRecursion (λ n. n.kept ≤ many) ns → notes_before many ns ≡ ns
all_before many [] h = refl
all_before many (n ∷ ns) h = ap (λ b. cond b (n ∷ notes_before many ns) (notes_before many ns)) (le-leb n.kept many h.0) ∙ ap (λ ms. n ∷ ms) (all_before many ns h.1)

-- of a session that takes nothing back all notes stand
pub notes_stand : (s : State) → IsReached s → (i : ℕ) → (now s.store i).back ≡ 0 → notes_before (length (now s.store i).kept) (now s.store i).notes ≡ (now s.store i).notes
notes_stand s r i none =
    let story = story_of (begun_story _) r.steps s (λ j. none_good idle [] refl refl) r.run in
    let own : now story.0.state.store i ≡ now s.store i = ap (λ (z : State). now z.store i) story.1 in
    let good : NotesGood (now s.store i) (story.0.told i) = subst (λ t. NotesGood t (story.0.told i)) own (story.3 i) in
    all_before (length (now s.store i).kept) (now s.store i).notes (good.below none)
