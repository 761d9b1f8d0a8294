-- What a step of the machine changes of what its session sees.
use Rattle.std.specs.Prelude.{◌≡◌, ◌≢◌, ℕ, ◌+◌, ◌-◌, ◌==◌, not, true, false, zero, suc, List, [], ◌∷◌, ◌++◌, map, reverse, length, Option, Some, None}
use Rattle.std.specs.Option.{option_map}
use mathlib.Core.Path.{refl, sym, ap, subst, ◌∙◌}
use mathlib.Core.Logic.{inl, inr}
use mathlib.Core.List.{reverse_aux}
use Rattle.std.proofs.Common.{arith, append-nil}
use Rattle.std.proofs.lemmas.List.{append_assoc}
use Rattle.std.proofs.lemmas.Bool.{ne_eqb}
use Rattle.iv_types.specs.declared.statement.Mode.{Mode}
use Rattle.iv_types.specs.declared.session.Sessions.{Sessions}
use Rattle.iv_types.specs.declared.refusal.EngineRefusal.{EngineRefusal}
use Rattle.iv_types.specs.declared.refusal.EngineRefusal.TheVariants as refusal
use Rattle.iv_types.specs.declared.lock.GroupDelta.{GroupDelta}
use Rattle.iv_types.specs.declared.lock.Want.{Want}
use Rattle.iv_types.specs.Syntax.{StatementTree}
use Rattle.table_laws.specs.Place.{Place}
use Rattle.iv_meaning.specs.Schema.{Schema}
use Rattle.iv_meaning.specs.Database.{Row, Database}
use Rattle.iv_meaning.specs.Statement.{Kept, sets, keep, keep_all}
use Rattle.iv_meaning.specs.History.{Entry, fold}
use Rattle.txn_machine.specs.Acts as act
use Rattle.txn_machine.specs.Acts.{Act}
use Rattle.txn_machine.specs.Answers as answer
use Rattle.txn_machine.specs.Answers.{Answer}
use Rattle.txn_machine.specs.Deltas.{RowChange}
use Rattle.txn_machine.specs.Keeping.{KeptStep, Put, Pay, changes_of, Open, begun}
use Rattle.txn_machine.specs.Ghosts.{the_views}
use Rattle.txn_machine.specs.Store.{Store, schema_of, now, changes_by, change_at, paid_first, undone, entry_changes, Effect, Opens, Takes, Notes, Writes, Pays as PaysEffect, Ghosts, Undoes, Loses, Ends as EndsEffect, Commits as CommitsEffect, Defines, Cleans, Prunes, does, run}
use Rattle.txn_machine.specs.Store as store
use Rattle.txn_machine.specs.May.{MayAct}
use Rattle.txn_machine.specs.Steps.{Says, MayWait, asked, note_of, CommitsAs}
use Rattle.txn_machine.specs.Alone.{Fact, Found, WasThere, TookBack, Story, told_after, told_of_undo}
use Rattle.txn_machine.proofs.Basics.{one_same}
use Rattle.txn_machine.proofs.Stepping.{now_is, now_locked}
use Rattle.txn_machine.proofs.Looking.{view_laws}
use Rattle.txn_machine.proofs.Stories.{told_blocked, told_refused}
use Rattle.script_law.specs.Seen.{Event, LacksRow, Fails, Begins, Learns, Finds, FindsThen, Changes, Pays, TakesBack, Ends, Commits, Creates, Denies, Idles, event, changes, in_order, taken_back, but_latest, owed_again, is_pay, Txn, Visible, committed, open_after, history_after, entries, kept_by}
use Rattle.script_law.specs.Machine.{kept_seen, txn_seen, seen_of}

-- ---- kept steps

pub changes_seen : (ks : List KeptStep) → changes (kept_seen ks) ≡ changes_of ks
changes_seen [] = refl
changes_seen (Put c ds ∷ ks) = ap (λ l. c ∷ l) (changes_seen ks)
changes_seen (Pay d ∷ ks) = changes_seen ks

map_end : (cs : List RowChange) (c : RowChange) → map sets (cs ++ c ∷ []) ≡ map sets cs ++ sets c ∷ []
map_end [] c = refl
map_end (x ∷ xs) c = ap (λ l. sets x ∷ l) (map_end xs c)

pub ends_some : (cs : List RowChange) (c : RowChange) → in_order (c ∷ cs) ≢ []
ends_some cs c e = not_end (in_order cs) e
  where
    not_end : (xs : List Kept) → xs ++ sets c ∷ [] ≡ [] → ⊥
    not_end [] e = cc
    not_end (x ∷ xs) e = cc

reverse_onto : (cs ds : List RowChange) → reverse_aux cs ds ≡ reverse_aux cs [] ++ ds
reverse_onto [] ds = refl
reverse_onto (c ∷ cs) ds = reverse_onto cs (c ∷ ds) ∙ sym (append_assoc (reverse_aux cs []) (c ∷ []) ds) ∙ ap (λ l. l ++ ds) (sym (reverse_onto cs (c ∷ [])))

pub in_order_is : (cs : List RowChange) → in_order cs ≡ map sets (reverse cs)
in_order_is [] = refl
in_order_is (c ∷ cs) = ap (λ l. l ++ sets c ∷ []) (in_order_is cs) ∙ sym (map_end (reverse cs) c) ∙ ap (map sets) (sym (reverse_onto cs (c ∷ [])))

pub kept_is : (ks : List KeptStep) → in_order (changes (kept_seen ks)) ≡ entry_changes ks
kept_is ks = ap in_order (changes_seen ks) ∙ in_order_is (changes_of ks)

back_seen : (ks : List KeptStep) (told : List Fact) → taken_back (kept_seen ks) told ≡ told_of_undo ks told
back_seen [] told = refl
back_seen (Put c ds ∷ ks) told = ap (λ l. TookBack (c ∷ l) ∷ told) (changes_seen ks)
back_seen (Pay d ∷ ks) told = refl

-- ---- what is committed

pub fold_push : (es : List Entry) (db : Database) (e : Entry) → fold (es ++ e ∷ []) db ≡ record (keep_all e.kept (fold es db)) { number = e.number }
fold_push [] db e = refl
fold_push (x ∷ es) db e = fold_push es (record (keep_all x.kept db) { number = x.number }) e

pub sets_keep : (cs : List RowChange) (db : Database) → (keep_all (map sets cs) db).schema ≡ db.schema
sets_keep [] db = refl
sets_keep (c ∷ cs) db = sets_keep cs (keep (sets c) db)

-- ---- CREATE statements that are accepted

abbrev pub IsMaking : Act → Answer → Type 0
IsMaking (act.Schema statement) (answer.Committed number) = Unit {0}
IsMaking a said = ⊥

pub data Making : Act → Answer → Type 0 where
  is_making : (statement : StatementTree) (number : ℕ) → Making (act.Schema statement) (answer.Committed number)
  makes_none : (a : Act) (said : Answer) → (IsMaking a said → ⊥) → Making a said

pub making : (a : Act) (said : Answer) → Making a said
making (act.Schema statement) (answer.Committed number) = is_making statement number
making (act.Schema statement) said = makes_none (act.Schema statement) said (λ n. n)
making a said = makes_none a said (λ n. n)

-- ---- events by which nothing is seen to change

abbrev IsStill : Event → Type 0
IsStill (Begins mode number defs) = ⊥
IsStill (Finds index interval rows) = ⊥
IsStill (FindsThen index interval rows) = ⊥
IsStill (Changes place new before owed) = ⊥
IsStill Pays = ⊥
IsStill TakesBack = ⊥
IsStill Ends = ⊥
IsStill (Commits number) = ⊥
IsStill (Creates statement number) = ⊥
IsStill e = Unit {0}

still_open : (v : Visible) (t : Option Txn) (e : Event) → IsStill e → open_after v t e ≡ t
still_open v None (Begins mode number defs) q = absurd q
still_open v None _ q = refl
still_open v (Some t) (Finds index interval rows) q = absurd q
still_open v (Some t) (FindsThen index interval rows) q = absurd q
still_open v (Some t) (Changes place new before owed) q = absurd q
still_open v (Some t) Pays q = absurd q
still_open v (Some t) TakesBack q = absurd q
still_open v (Some t) Ends q = absurd q
still_open v (Some t) (Commits number) q = absurd q
still_open v (Some t) _ q = refl

still_history : (v : Visible) (i : ℕ) (e : Event) → IsStill e → history_after v i e ≡ v.history
still_history v i (Commits number) q = absurd q
still_history v i (Creates statement number) q = absurd q
still_history v i _ q = refl

pub ended_open : (v : Visible) (t : Option Txn) → open_after v t Ends ≡ None
ended_open v None = refl
ended_open v (Some t) = refl

pub committed_open : (v : Visible) (t : Option Txn) (number : ℕ) → open_after v t (Commits number) ≡ None
committed_open v None number = refl
committed_open v (Some t) number = refl

one_less : (n : ℕ) → n ≡ suc n - 1
one_less n = omega (arith)

one_more : (n : ℕ) → suc n ≡ n + 1
one_more n = omega (arith)

is_some_back : (n : ℕ) → not (n + 1 == 0) ≡ true
is_some_back n = ap not (ne_eqb (n + 1) 0 (λ e. omega (arith, e)))

module _ (story : Story) (i : ℕ) where
  abbrev s : Store
  s = story.state.store

  abbrev v : Visible
  v = seen_of story

  abbrev told : List Fact
  told = story.told i

  abbrev objects : Schema
  objects = schema_of s

  -- the session's transaction as it is seen
  abbrev pub own : List Fact → Store → Option Txn
  own l after = option_map (txn_seen objects l) (after.open_of i)

  pub record Shown (e : Event) (l : List Fact) (after : Store) : Type 0 where
    pub origin : after.origin ≡ s.origin
    pub history : after.history ≡ history_after v i e
    pub own_is : own l after ≡ open_after v (own told s) e

  still_shown : (e : Event) → IsStill e → (after : Store) → after.origin ≡ s.origin → after.history ≡ s.history → own told after ≡ own told s → Shown e told after
  still_shown e q after origin history same = record {
    origin = origin;
    history = history ∙ sym (still_history v i e q);
    own_is = same ∙ sym (still_open v (own told s) e q);
  }

  -- ---- steps of an open transaction

  module _ (o : Open) (is_open : s.open_of i ≡ Some o) where
    the_own : own told s ≡ Some (txn_seen objects told (now s i))
    the_own = ap (option_map (txn_seen objects told)) (is_open ∙ ap Some (sym (now_is view_laws s i o is_open)))

    abbrev locked : List Want → Store
    locked wants = does the_views s i (Takes wants)

    takes_own : (wants : List Want) (l : List Fact) → own l (does the_views s i (Takes wants)) ≡ Some (txn_seen objects l (now s i))
    takes_own wants l = ap (option_map (txn_seen objects l)) (one_same s.open_of i (Some (record (now s i) { locks = wants ++ (now s i).locks })) i refl)

    loses_own : own told (does the_views s i Loses) ≡ own told s
    loses_own = ap (option_map (txn_seen objects told)) (one_same s.open_of i (Some (record (now s i) { is_lost = true })) i refl) ∙ sym the_own

    pub finds : (wants : List Want) (number : ℕ) (interval : _) (rows : List Row) (n : _)
        → Shown (Finds number interval rows) (Found number interval rows (changes_by s i) ∷ told) (run the_views s i (Takes wants ∷ Notes n ∷ []))
    finds wants number interval rows n = record {
      origin = refl;
      history = refl;
      own_is = ap (option_map (txn_seen objects l)) (one_same (does the_views s i (Takes wants)).open_of i (Some (record (now (does the_views s i (Takes wants)) i) { notes = n ∷ (now (does the_views s i (Takes wants)) i).notes })) i refl)
          ∙ ap (λ t. Some (txn_seen objects l t)) (now_locked view_laws s i wants)
          ∙ (λ k. Some (record (txn_seen objects told (now s i)) { told = Found number interval rows (sym (changes_seen (now s i).kept) k) ∷ told }))
          ∙ sym (ap (λ x. open_after v x (Finds number interval rows)) the_own);
    }
      where
        l : List Fact
        l = Found number interval rows (changes_by s i) ∷ told

    pub finds_then : (number : ℕ) (interval : _) (rows : List Row) → Shown (FindsThen number interval rows) (Found number interval rows [] ∷ told) s
    finds_then number interval rows = record {
      origin = refl;
      history = refl;
      own_is = ap (option_map (txn_seen objects (Found number interval rows [] ∷ told))) (is_open ∙ ap Some (sym (now_is view_laws s i o is_open)))
          ∙ sym (ap (λ x. open_after v x (FindsThen number interval rows)) the_own);
    }

    pub changes_row : (wants : List Want) (place : Place) (new before : Option Row) (many : ℕ) → before ≡ (change_at s place new).before → many ≡ length (the_views.owed objects s.rows (change_at s place new))
        → Shown (Changes place new before many) (WasThere place new before (changes_by s i) ∷ told) (run the_views s i (Takes wants ∷ Writes place new ∷ []))
    changes_row wants place new before many is so_many = record {
      origin = refl;
      history = refl;
      own_is = ap (option_map (txn_seen objects l)) (one_same (does the_views s i (Takes wants)).open_of i _ i refl)
          ∙ ap (λ (t : Open). Some (record (txn_seen objects l t) {
            kept = Some (change_at s place new) ∷ kept_seen t.kept;
            owed = length (the_views.owed objects s.rows (change_at s place new));
            is_back = false;
          })) (now_locked view_laws s i wants)
          ∙ (λ k. Some (record (txn_seen objects told (now s i)) {
            told = WasThere place new before (sym (changes_seen (now s i).kept) k) ∷ told;
            kept = Some (record { key = place; before = sym is k; after = new }) ∷ kept_seen (now s i).kept;
            owed = sym so_many k;
            is_back = false;
          }))
          ∙ sym (ap (λ x. open_after v x (Changes place new before many)) the_own);
    }
      where
        l : List Fact
        l = WasThere place new before (changes_by s i) ∷ told

    pub pays : (wants : List Want) (first : GroupDelta) (others : List GroupDelta) → (now s i).owed ≡ first ∷ others → Shown Pays told (run the_views s i (Takes wants ∷ PaysEffect ∷ []))
    pays wants first others owed_is = subst (Shown Pays told) (sym (ap (paid_first (locked wants) i (now (locked wants) i)) owed_now)) (record {
      origin = refl;
      history = refl;
      own_is = ap (option_map (txn_seen objects told)) (one_same (locked wants).open_of i _ i refl)
          ∙ ap (λ (t : Open). Some (record (txn_seen objects told t) { kept = None ∷ kept_seen t.kept; owed = length others })) (now_locked view_laws s i wants)
          ∙ (λ k. Some (record (txn_seen objects told (now s i)) { kept = None ∷ kept_seen (now s i).kept; owed = fewer k }))
          ∙ sym (ap (λ x. open_after v x Pays) the_own);
    })
      where
        owed_now : (now (locked wants) i).owed ≡ first ∷ others
        owed_now = ap (λ (t : Open). t.owed) (now_locked view_laws s i wants) ∙ owed_is

        fewer : length others ≡ length (now s i).owed - 1
        fewer = one_less (length others) ∙ sym (ap (λ (ds : List GroupDelta). length ds - 1) owed_is)

    pub takes_back : (latest : KeptStep) (earlier : List KeptStep) → (now s i).kept ≡ latest ∷ earlier → Shown TakesBack (told_of_undo (now s i).kept told) (run the_views s i (Undoes ∷ []))
    takes_back latest earlier is = subst (λ ks. Shown TakesBack (told_of_undo ks told) (undone s i (now s i) ks)) (sym is) (record {
      origin = (fields_are latest).0;
      history = (fields_are latest).1;
      own_is = own_kept latest
          ∙ (λ k. Some (record (txn_seen objects told (now s i)) {
            told = sym (back_seen (latest ∷ earlier) told) k;
            kept = but_latest (kept_seen (latest ∷ earlier));
            owed = owed_again (kept_seen (latest ∷ earlier)) (length (now s i).owed);
            is_back = is_pay (kept_seen (latest ∷ earlier));
          }))
          ∙ (λ k. Some (record (txn_seen objects told (now s i)) {
            told = taken_back (kept_seen (sym is k)) told;
            kept = but_latest (kept_seen (sym is k));
            owed = owed_again (kept_seen (sym is k)) (length (now s i).owed);
            is_back = is_pay (kept_seen (sym is k));
          }))
          ∙ sym (ap (λ x. open_after v x TakesBack) the_own);
    })
      where
        fields_are : (x : KeptStep) → ((undone s i (now s i) (x ∷ earlier)).origin ≡ s.origin) × ((undone s i (now s i) (x ∷ earlier)).history ≡ s.history)
        fields_are (Put c ds) = (refl, refl)
        fields_are (Pay d) = (refl, refl)

        own_kept : (x : KeptStep) → own (told_of_undo (x ∷ earlier) told) (undone s i (now s i) (x ∷ earlier))
            ≡ Some (record (txn_seen objects told (now s i)) {
              told = told_of_undo (x ∷ earlier) told;
              kept = but_latest (kept_seen (x ∷ earlier));
              owed = owed_again (kept_seen (x ∷ earlier)) (length (now s i).owed);
              is_back = is_pay (kept_seen (x ∷ earlier));
            })
        own_kept (Put c ds) = ap (option_map (txn_seen objects (told_of_undo (Put c ds ∷ earlier) told))) (one_same s.open_of i _ i refl)
        own_kept (Pay d) = ap (option_map (txn_seen objects (told_of_undo (Pay d ∷ earlier) told))) (one_same s.open_of i _ i refl)
            ∙ (λ k. Some (record (txn_seen objects told (now s i)) {
              told = told_of_undo (Pay d ∷ earlier) told;
              kept = kept_seen earlier;
              owed = one_more (length (now s i).owed) k;
              is_back = is_some_back (now s i).back k;
            }))

  -- ---- a step of any other kind

  opens : (mode : Mode) (number defs : ℕ) → number ≡ (committed v).number → s.open_of i ≡ None → Shown (Begins mode number defs) [] (run the_views s i (Opens mode ∷ []))
  opens mode number defs is none_open = record {
    origin = refl;
    history = refl;
    own_is = ap (option_map (txn_seen objects [])) (one_same s.open_of i (Some (begun mode (store.committed s).number)) i refl)
        ∙ (λ k. Some (record (txn_seen objects [] (begun mode (store.committed s).number)) { number = sym is k }))
        ∙ sym (ap (λ x. open_after v (option_map (txn_seen objects told) x) (Begins mode number defs)) none_open);
  }

  ends : Shown Ends [] (run the_views s i (EndsEffect ∷ []))
  ends = record {
    origin = refl;
    history = refl;
    own_is = ap (option_map (txn_seen objects [])) (one_same s.open_of i None i refl) ∙ sym (ended_open v (own told s));
  }

  -- nothing is entered where nothing is kept
  entries_none : (ks : List Kept) (n : ℕ) → ks ≡ [] → entries n i ks ≡ []
  entries_none ks n e = ap (entries n i) e

  entries_some : (ks : List Kept) (n : ℕ) → ks ≢ [] → entries n i ks ≡ record { number = n + 1; session = i; kept = ks } ∷ []
  entries_some [] n e = absurd (e refl)
  entries_some (k ∷ ks) n e = refl

  commits : (o : Open) → s.open_of i ≡ Some o → (number : ℕ) (es : List Effect) → CommitsAs s i (changes_by s i) number es → Shown (Commits number) [] (run the_views s i es)
  commits o is_open number es h = by (changes_by s i) refl h
    where
      kept_now : List Kept
      kept_now = in_order (changes (kept_seen (now s i).kept))

      history_seen : history_after v i (Commits number) ≡ s.history ++ entries (store.committed s).number i (in_order (changes (kept_seen (now s i).kept)))
      history_seen = ap (λ (x : Option Txn). s.history ++ entries (store.committed s).number i (kept_by x)) (the_own o is_open)

      by : (cs : List RowChange) → changes_by s i ≡ cs → CommitsAs s i cs number es → Shown (Commits number) [] (run the_views s i es)
      by [] is c = subst (λ l. Shown (Commits number) [] (run the_views s i l)) (sym c.1) (record {
        origin = refl;
        history = sym (history_seen ∙ ap (λ ks. s.history ++ entries (store.committed s).number i (in_order ks)) (changes_seen (now s i).kept ∙ is) ∙ append-nil s.history);
        own_is = ap (option_map (txn_seen objects [])) (one_same s.open_of i None i refl) ∙ sym (committed_open v (own told s) number);
      })
      by (x ∷ cs) is c = subst (λ l. Shown (Commits number) [] (run the_views s i l)) (sym c.1) (record {
        origin = refl;
        history = sym (history_seen
            ∙ ap (λ es. s.history ++ es) (entries_some (in_order (changes (kept_seen (now s i).kept))) (store.committed s).number
            (λ e. ends_some cs x (sym (ap in_order (changes_seen (now s i).kept ∙ is)) ∙ e)))
            ∙ (λ k. s.history ++ record { number = (store.committed s).number + 1; session = i; kept = kept_is (now s i).kept k } ∷ []));
        own_is = ap (option_map (txn_seen objects [])) (one_same s.open_of i None i refl) ∙ sym (committed_open v (own told s) number);
      })

  -- ---- refusals

  data IsOpenNow : Type 0 where
    open_now : (o : Open) → s.open_of i ≡ Some o → IsOpenNow

  -- a step that locks is one of an open transaction
  locks_open : (a : Act) → MayAct s i a → MayWait a → IsOpenNow
  locks_open (act.Fetch number interval mode) may w = open_now may.0.goes_on.transaction may.0.goes_on.is_open
  locks_open (act.Put number key new) may w = open_now may.0.goes_on.transaction may.0.goes_on.is_open
  locks_open act.Pay may w = open_now may.goes_on.transaction may.goes_on.is_open
  locks_open _ may w = absurd w

  nothing : (e : Event) → IsStill e → (es : List Effect) → es ≡ [] → Shown e told (run the_views s i es)
  nothing e q es is = subst (λ l. Shown e told (run the_views s i l)) (sym is) (still_shown e q s refl refl refl)

  takes : (e : Event) → IsStill e → (wants : List Want) (es : List Effect) → es ≡ Takes wants ∷ [] → IsOpenNow → Shown e told (run the_views s i es)
  takes e q wants es is (open_now o is_open) =
      subst (λ l. Shown e told (run the_views s i l)) (sym is) (still_shown e q (does the_views s i (Takes wants)) refl refl (takes_own o is_open wants told ∙ sym (the_own o is_open)))

  loses : (e : Event) → IsStill e → (es : List Effect) → es ≡ Loses ∷ [] → IsOpenNow → Shown e told (run the_views s i es)
  loses e q es is (open_now o is_open) =
      subst (λ l. Shown e told (run the_views s i l)) (sym is) (still_shown e q (does the_views s i Loses) refl refl (loses_own o is_open))

  refused : (a : Act) (why : EngineRefusal) (es : List Effect) → MayAct s i a → Says story.state i a (answer.Refused why) es → Shown (Fails why) told (run the_views s i es)
  refused a (refusal.Deadlock cycle) es may h = loses (Fails (refusal.Deadlock cycle)) tt es h.2 (locks_open a may h.0)
  refused a refusal.NoMemory es may h = nothing (Fails refusal.NoMemory) tt es h.1
  refused (act.Begin mode) (refusal.LogFull used reserved need) es may h = nothing (Fails (refusal.LogFull used reserved need)) tt es h.0
  refused (act.Begin mode) (refusal.HistoryFull kept need) es may h = nothing (Fails (refusal.HistoryFull kept need)) tt es h.3
  refused (act.Fetch number interval mode) (refusal.TxnFull kept need) es may h = nothing (Fails (refusal.TxnFull kept need)) tt es h.1
  refused (act.Put number key new) (refusal.TxnFull kept need) es may h = nothing (Fails (refusal.TxnFull kept need)) tt es h.1
  refused (act.Put number key new) (refusal.LogFull used reserved need) es may h = nothing (Fails (refusal.LogFull used reserved need)) tt es h.1
  refused (act.Put number key new) (refusal.DataFull used need) es may h = nothing (Fails (refusal.DataFull used need)) tt es h.1
  refused (act.Put number key new) (refusal.HistoryFull kept need) es may h = nothing (Fails (refusal.HistoryFull kept need)) tt es h.1
  refused act.Pay (refusal.Escrow column low high) es may h = takes (Fails (refusal.Escrow column low high)) tt (asked s i act.Pay) es h.effects (open_now may.goes_on.transaction may.goes_on.is_open)
  refused act.Commit refusal.DiskFault es may h = nothing (Fails refusal.DiskFault) tt es h.0
  refused (act.Schema statement) (refusal.SchemaBusy busy) es may h = nothing (Fails (refusal.SchemaBusy busy)) tt es h.1
  refused (act.Schema statement) (refusal.LogFull used reserved need) es may h = nothing (Fails (refusal.LogFull used reserved need)) tt es h.1
  refused (act.Schema statement) (refusal.DataFull used need) es may h = nothing (Fails (refusal.DataFull used need)) tt es h.1
  refused (act.Schema statement) (refusal.HistoryFull kept need) es may h = nothing (Fails (refusal.HistoryFull kept need)) tt es h.1
  refused (act.Schema statement) refusal.DiskFault es may h = nothing (Fails refusal.DiskFault) tt es h.0
  refused act.Clean (refusal.LogFull used reserved need) es may h = nothing (Fails (refusal.LogFull used reserved need)) tt es h.0
  refused act.Checkpoint refusal.DiskFault es may h = nothing (Fails refusal.DiskFault) tt es h
  refused _ _ es may h = absurd h

  -- ---- blocked steps

  blocked_event : (a : Act) (sessions : Sessions) → MayWait a → IsStill (event a (answer.Blocked sessions))
  blocked_event (act.Fetch number interval mode) sessions w = tt
  blocked_event (act.Put number key new) sessions w = tt
  blocked_event act.Pay sessions w = tt
  blocked_event _ sessions w = absurd w

  -- ---- ghosts

  ghosts : (es : List Effect) (place : Place) (columns : ℕ) → es ≡ Ghosts place columns ∷ [] → Shown Idles told (run the_views s i es)
  ghosts es place columns is = subst (λ l. Shown Idles told (run the_views s i l)) (sym is) (still_shown Idles tt (does the_views s i (Ghosts place columns)) refl refl refl)

  cleans : (es : List Effect) (place : Place) → es ≡ Cleans place ∷ [] → Shown Idles told (run the_views s i es)
  cleans es place is = subst (λ l. Shown Idles told (run the_views s i l)) (sym is) (still_shown Idles tt (does the_views s i (Cleans place)) refl refl refl)

  -- ---- all of them but the CREATE statements that are accepted

  pub shown : (a : Act) (said : Answer) (es : List Effect) → MayAct s i a → Says story.state i a said es → (IsMaking a said → ⊥)
      → Shown (event a said) (told_after s i a said told) (run the_views s i es)
  shown a (answer.Refused why) es may h c = subst (λ l. Shown (Fails why) l (run the_views s i es)) (sym (told_refused s i a why told)) (refused a why es may h)
  shown a (answer.Blocked sessions) es may h c =
      subst (λ l. Shown (event a (answer.Blocked sessions)) l (run the_views s i es)) (sym (told_blocked s i a sessions told)) (nothing (event a (answer.Blocked sessions)) (blocked_event a sessions h.0) es h.2)
  shown (act.Begin mode) (answer.Begun number defs) es may h c = subst (λ l. Shown (Begins mode number defs) [] (run the_views s i l)) (sym h.effects) (opens mode number defs h.number_is may.1)
  shown act.Defs (answer.Defs all) es may h c = nothing (Learns all) tt es h.1
  shown (act.Fetch number interval mode) (answer.Rows rows) es may h c =
      subst (λ l. Shown (Finds number interval rows) (Found number interval rows (changes_by s i) ∷ told) (run the_views s i l)) (sym h.effects)
      (finds may.0.goes_on.transaction may.0.goes_on.is_open (asked s i (act.Fetch number interval mode)) number interval rows (note_of s i number interval rows))
  shown (act.Peek number interval) (answer.Rows rows) es may h c =
      subst (λ l. Shown (FindsThen number interval rows) (Found number interval rows [] ∷ told) (run the_views s i l)) (sym h.1) (finds_then may.0.transaction may.0.is_open number interval rows)
  shown (act.Put number key new) (answer.Changed before owed) es may h c =
      subst (λ l. Shown (Changes (number, key) new before (length owed)) (WasThere (number, key) new before (changes_by s i) ∷ told) (run the_views s i l)) (sym h.effects)
      (changes_row may.0.goes_on.transaction may.0.goes_on.is_open (asked s i (act.Put number key new)) (number, key) new before (length owed) h.before_is (ap length h.owed_is))
  shown act.Pay (answer.Paid left) es may h c =
      subst (λ l. Shown Pays told (run the_views s i l)) (sym h.effects) (pays may.goes_on.transaction may.goes_on.is_open (asked s i act.Pay) h.pays.first h.pays.others h.pays.owed_is)
  shown act.Pay answer.NeedsGhost es may h c = takes LacksRow tt (asked s i act.Pay) es h.effects (open_now may.goes_on.transaction may.goes_on.is_open)
  shown act.Ghost answer.Ghosted es may h c = elim h.effects [ inl x ↦ ghosts es _ _ x.1 | inr x ↦ nothing Idles tt es x.1 ]
  shown act.UndoOne (answer.Undone left) es may h c =
      subst (λ l. Shown TakesBack (told_of_undo (now s i).kept told) (run the_views s i l)) (sym h.effects) (takes_back may.0.transaction may.0.is_open h.latest h.earlier h.kept_is)
  shown act.End answer.Ended es may h c = subst (λ l. Shown Ends [] (run the_views s i l)) (sym h) ends
  shown act.Commit (answer.Committed number) es may h c = by may
    where
      by : MayAct s i act.Commit → Shown (Commits number) [] (run the_views s i es)
      by (inl r) = commits r.goes_on.transaction r.goes_on.is_open number es h
      by (inr r) = commits r.goes_on.transaction r.goes_on.is_open number es h
  shown (act.Schema statement) (answer.Committed number) es may h c = absurd (c tt)
  shown (act.Schema statement) (answer.Denied why) es may h c = nothing (Denies statement why) tt es h.1
  shown act.Clean (answer.Cleaned zero) es may h c = nothing Idles tt es h.1
  shown act.Clean (answer.Cleaned (suc zero)) es may h c = cleans es h.0 h.2
  shown act.Prune answer.Pruned es may h c = subst (λ l. Shown Idles told (run the_views s i l)) (sym h) (still_shown Idles tt (does the_views s i Prunes) refl refl refl)
  shown act.Checkpoint (answer.Saved number) es may h c = nothing Idles tt es h.0
  shown act.Cancel answer.Cancelled es may h c = nothing Idles tt es h
  shown _ _ es may h c = absurd h
