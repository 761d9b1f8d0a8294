-- A session's latest pay is taken back.
use Rattle.std.specs.Prelude.{◌≡◌, ℕ, suc, ◌+◌, ◌≤◌, cond, List, [], ◌∷◌, ◌++◌, drop, length, reverse, Option, Some, refl}
use Rattle.std.specs.List.{Contains}
use mathlib.Core.Path.{sym, ap, subst, ◌∙◌}
use mathlib.Core.Logic.{inl, inr}
use Rattle.std.proofs.Common.{arith}
use Rattle.std.proofs.lemmas.List.Elements.{Contains-append_left, Contains-append_right, Contains-append_cases}
use Rattle.iv_types.specs.Maps.{Map}
use Rattle.iv_types.specs.declared.lock.GroupDelta.{GroupDelta}
use Rattle.iv_types.specs.declared.lock.KeptStep.{KeptStep as BookStep}
use Rattle.iv_types.specs.declared.lock.KeptStep.TheVariants as step
use Rattle.iv_types.specs.declared.lock.Prefix.{Prefix}
use Rattle.query_laws.specs.Limited.{IsLimited}
use Rattle.table_laws.specs.Place.{Place}
use Rattle.ghost_rows.specs.Kept.{width, ArePrefixes, IsPaidLast}
use Rattle.ghost_rows.specs.State.{State as ViewState, HasSeat, MovesRoom, room_of}
use Rattle.lock_desk.specs.Asking.{HasLocks}
use Rattle.lock_desk.specs.PayWants.{wants_at}
use Rattle.lock_manager.specs.Table as table
use Rattle.txn_machine.specs.Acts.{Act}
use Rattle.txn_machine.specs.Counts.{definition_sizes}
use Rattle.txn_machine.specs.Deltas.{place_of, negated}
use Rattle.txn_machine.specs.Ghosts.{the_views}
use Rattle.txn_machine.specs.Keeping.{KeptStep, Pay, Open}
use Rattle.txn_machine.specs.Locks.{with_one}
use Rattle.txn_machine.specs.Log.{Log, Logged, logs, undoes, undo_record, appended, with_logged, rest}
use Rattle.txn_machine.specs.Records.{Undo}
use Rattle.txn_machine.specs.Stored.{add_to}
use Rattle.txn_machine.specs.Store.{Store, now, schema_of, committed, does, Undoes, undone}
use Rattle.txn_machine.proofs.Basics.{one_same, one_other}
use Rattle.txn_machine.proofs.Columns.{is_for_here}
use Rattle.txn_book.specs.Books.{Books, IsBook, Changes}
use Rattle.txn_book.specs.Opens.{open_at}
use Rattle.txn_book.specs.Txns.{Txn, txn_of, without_step}
use Rattle.txn_book.specs.Holding as book
use Rattle.txn_book.specs.Holding.{AreKept}
use Rattle.txn_book.specs.declared.open_table.Open.{Open as BookOpen}
use Rattle.txn_book.proofs.Holding.{changed_holds, pay_undone}
use Rattle.data_store.specs.Contents.{contents_of, pays_on}
use Rattle.data_store.proofs.Told.{untold_held}
use Rattle.data_store.specs.Held.{IsHeld}
use Rattle.data_store.specs.Machine.{IsPast}
use Rattle.data_changes.specs.Effects.{without_pay}
use Rattle.data_changes.specs.Paying.{HasFor}
use Rattle.data_past.specs.Ahead.{IsAhead}
use Rattle.data_past.proofs.Aheads.{ahead_unpaid}
use Rattle.data_past.proofs.Effects.{past_unpaid}
use Rattle.core_state.specs.Rooms.{AreWanted, IsCovered, CanBeTakenBack, gone_if, gone_of, still_owed, paid}
use Rattle.core_state.specs.Stands.{Holds, told, Texts, all_texts}
use Rattle.definition_parts.proofs.Staying.{texts_now}
use Rattle.core_state.proofs.Texts.{told_stored}
use Rattle.core_state.specs.declared.state.CoreState.{CoreState}
use Rattle.core_state.proofs.Rooms.{rooms_changed}
use Rattle.core_state.proofs.Sessions.{contents_as, kept_of, locks_same}
use Rattle.core_effects.specs.Undoing.{KeepsPay}
use Rattle.core_effects.proofs.Opened.{Has, own}
use Rattle.core_effects.proofs.Deltas.{paid_as}

-- the book's latest step is that pay
pub record IsLatest (bs : List BookStep) (d : GroupDelta) (ks : List KeptStep) (ns : List ℕ) : Type 0 where
  pub before : List Prefix
  pub number : ℕ
  pub steps : List BookStep
  pub numbers : List ℕ
  pub is : bs ≡ step.Pay d before number ∷ steps
  pub logged : ns ≡ number ∷ numbers
  pub kept : AreKept steps ks numbers

latest : (bs : List BookStep) (d : GroupDelta) (ks : List KeptStep) (ns : List ℕ) → AreKept bs (Pay d ∷ ks) ns → IsLatest bs d ks ns
latest [] d ks ns h = absurd h
latest (step.Put k a b m ∷ bs) d ks ns h = absurd h
latest (step.Pay e before m ∷ bs) d ks [] h = absurd h
latest (step.Pay e before m ∷ bs) d ks (n ∷ ns) h = record { before = before; number = m; steps = bs; numbers = ns; is = λ x. step.Pay (h.0 x) before m ∷ bs; logged = ap (λ x. x ∷ ns) (sym h.1); kept = h.2 }

drop_more : {X : Type 0} (n m : ℕ) (x : X) (xs : List X) → m ≡ n + 1 → drop m (x ∷ xs) ≡ drop n xs
drop_more {X} n m x xs e = let more : m ≡ suc n = omega (arith, e) in ap (λ k. drop k (x ∷ xs)) more

pay_in : (d x : GroupDelta) (ds ps : List GroupDelta) → Contains (ds ++ ps) x → Contains (ds ++ d ∷ ps) x
pay_in d x ds ps c = elim (Contains-append_cases ds ps x c) [ inl a ↦ Contains-append_left ds (d ∷ ps) x a | inr b ↦ Contains-append_right ds (d ∷ ps) x (Contains-append_right (d ∷ []) ps x b) ]

module _ {M : Type 0} (maps : M → ℕ → Map) (spare : M → ℕ → ℕ) (limit : M → Option ℕ) (core : CoreState M) (s : Store) (l : Log) (texts : Texts) (i : ℕ) (h : Holds maps spare limit core s l texts) (o : KeepsPay s i) where
  abbrev pub mine : Has (schema_of s) (open_at core.book.opens i) (now s i) (l.logged i)
  mine = own maps spare limit core s l texts i h o.is_open

  abbrev pub d : GroupDelta
  d = o.latest

  pub last : IsLatest (txn_of mine.txn).kept d o.earlier (l.logged i).kept
  last = latest (txn_of mine.txn).kept d o.earlier (l.logged i).kept (subst (λ ks. AreKept (txn_of mine.txn).kept ks (l.logged i).kept) o.kept_is mine.is.kept)

  covered : IsCovered core.store.catalog core.store.views core.locks (wants_at core.wants i) i (txn_of mine.txn)
  covered = h.rooms.each i o.is_open.of_session mine.txn mine.there

  back_of : CanBeTakenBack core.store.catalog (step.Pay d last.before last.number ∷ last.steps)
  back_of = subst (CanBeTakenBack core.store.catalog) last.is covered.kept

  pub prefixes : ArePrefixes last.before (width d) (pays_on (place_of d) o.earlier)
  prefixes = subst (ArePrefixes last.before (width d)) (paid_as (place_of d) last.steps o.earlier last.numbers last.kept) back_of.0

  pub paid_last : IsPaidLast (λ j. pays_on (place_of d) ((contents_of s).kept j)) i d last.before
  paid_last = record {
    earlier = pays_on (place_of d) o.earlier;
    latest = ap (pays_on (place_of d)) o.kept_is ∙ ap (λ b. cond b (d ∷ pays_on (place_of d) o.earlier) (pays_on (place_of d) o.earlier)) (is_for_here (place_of d) d refl);
    prefixes = prefixes;
  }

  pub for_it : HasFor core.store.catalog (maps core.store.tables) core.store.views d (told s texts)
  for_it = record { held = told_stored maps spare limit core s l texts h; of_view = record { of = o.delta.of; is = o.delta.view_is; sums = o.delta.sums } }

  pub limited_here : IsLimited (schema_of s)
  limited_here = subst IsLimited h.stored.objects h.rooms.limited

  many_paid : length (paid (txn_of mine.txn).kept) ≡ suc (length (paid last.steps))
  many_paid = ap (λ ks. length (paid ks)) last.is

  pub has_room : 1 ≤ room_of core.store.views i
  has_room = let c = covered in let had = c.buffers in let many = many_paid in omega (arith, had, many)

  -- the book has it as the latest of the open transaction there
  pub there_latest : (t : BookOpen) → open_at core.book.opens i ≡ Some t → reverse t.kept.items ≡ step.Pay d last.before last.number ∷ last.steps
  there_latest t there =
      let one : Some t ≡ Some mine.txn = sym there ∙ mine.there in
      let same : t ≡ mine.txn = cc in
      ap (λ (x : BookOpen). reverse x.kept.items) same ∙ last.is

  module _ (tables : M) (views : ViewState) (after : Books) (same_limit : limit tables ≡ limit core.store.tables) (seats : (j : ℕ) (place : Place) → HasSeat core.store.views place j → HasSeat views place j) (good : IsBook core.book) where
    abbrev t_after : Txn
    t_after = without_step (txn_of mine.txn) (step.Pay d last.before last.number) last.steps

    abbrev undone_one : Open
    undone_one = record (now s i) { kept = o.earlier; owed = d ∷ (now s i).owed; back = (now s i).back + 1 }

    abbrev store_after : Store
    store_after = record s { view = add_to s.view (negated d); open_of = with_one s.open_of i (Some undone_one) }

    does_is : does the_views s i Undoes ≡ store_after
    does_is = ap (undone s i (now s i)) o.kept_is

    abbrev logged_after : Logged
    logged_after = record (l.logged i) { kept = rest (l.logged i).kept }

    abbrev log_after : Log
    log_after = record (appended (schema_of s) (Some (Undo (l.logged i).transaction last.number)) (with_logged l i logged_after)) { begun = l.begun }

    logs_is : (a : Act) → logs s i a Undoes l ≡ log_after
    logs_is a = λ x. record (appended (schema_of s) (undo_record (l.logged i) (last.logged x)) (with_logged l i (undoes (l.logged i) (o.kept_is x)))) { begun = l.begun }

    same_still : still_owed t_after ≡ still_owed (txn_of mine.txn)
    same_still = drop_more mine.txn.back (mine.txn.back + 1) d (txn_of mine.txn).owed refl

    covered_after : MovesRoom i core.store.views views → IsCovered core.store.catalog views core.locks (wants_at core.wants i) i t_after
    covered_after moves =
        let c = covered in
        record {
          wanted = subst (AreWanted (table.room_of core.locks i) (table.locks_of core.locks i) (table.waiting_of core.locks i) (wants_at core.wants i)) (sym same_still) c.wanted;
          buffers = let had = c.buffers in let many = many_paid in let left = moves.used in let still : length (still_owed t_after) ≡ length (still_owed (txn_of mine.txn)) = ap length same_still in omega (arith, had, many, left, still);
          seats = λ x has. seats i (place_of x) (c.seats x (subst (λ ps. Contains (still_owed (txn_of mine.txn) ++ ps) x) (sym (ap paid last.is)) (pay_in d x (still_owed (txn_of mine.txn)) (paid last.steps) (subst (λ ds. Contains (ds ++ paid last.steps) x) same_still has))));
          kept = back_of.1;
          small = c.small;
        }

    pub undone_holds : (a : Act) → MovesRoom i core.store.views views → ((index : ℕ) → spare core.store.tables index ≤ spare tables index) → IsHeld core.store.catalog (maps tables) views (without_pay (told s texts) i d o.earlier) → Changes core.book after i t_after
        → Holds maps spare limit (record core { store = record core.store { tables = tables; views = views }; book = after; next = core.next + 1 }) (does the_views s i Undoes) (logs s i a Undoes l) texts
    undone_holds a moves spares stored changes =
        subst (λ u. Holds maps spare limit (record core { store = record core.store { tables = tables; views = views }; book = after; next = core.next + 1 }) u (logs s i a Undoes l) texts) (sym does_is)
        (subst (λ m. Holds maps spare limit (record core { store = record core.store { tables = tables; views = views }; book = after; next = core.next + 1 }) store_after m texts) (sym (logs_is a))
        (record {
          stored = untold_held core.store.catalog (maps tables) views (told store_after texts)
              (subst (IsHeld core.store.catalog (maps tables) views) (contents_as (without_pay (told s texts) i d o.earlier) (contents_of store_after) refl refl refl (λ j. sym (kept_of s.open_of i (Some undone_one) j))) stored);
          book = changed_holds core.book (schema_of s) s.open_of l.logged s.history (committed s).number (definition_sizes texts.since) h.book good i o.is_open.of_session after (with_one s.open_of i (Some undone_one)) (with_one l.logged i logged_after)
              (λ j n. (one_other s.open_of i (Some undone_one) j n, one_other l.logged i logged_after j n)) t_after undone_one changes (one_same s.open_of i (Some undone_one) i refl)
              (subst (book.IsTxn (schema_of s) t_after undone_one) (sym (one_same l.logged i logged_after i refl))
              (pay_undone (schema_of s) (txn_of mine.txn) (now s i) (l.logged i) mine.is d last.before last.number last.steps d o.earlier last.is o.kept_is));
          locks = λ j js. subst (HasLocks (table.locks_of core.locks j)) (sym (locks_same s.open_of i (Some undone_one) refl j)) (h.locks j js);
          begun = h.begun;
          next = ap (λ n. n + 1) h.next;
          texts = texts_now (maps core.store.tables 0) (maps tables 0) core.store.catalog (all_texts texts) h.texts stored.texts;
          row_mark = h.row_mark;
          delta_mark = h.delta_mark;
          most = same_limit ∙ h.most;
          past = subst (IsPast core.store.row_versions.versions core.store.delta_versions.versions core.store.pending.entries) does_is (past_unpaid core.store.row_versions.versions core.store.delta_versions.versions core.store.pending.entries s h.past i o.is_open.of_session d o.earlier o.kept_is);
          ahead = subst (IsAhead core.ahead core.store.row_versions.room core.store.delta_versions.room) does_is (ahead_unpaid core.ahead core.store.row_versions.room core.store.delta_versions.room s h.ahead i d o.earlier o.kept_is);
          rooms = rooms_changed (spare core.store.tables) (spare tables) core.store.catalog core.store.views views core.book after core.locks core.locks core.wants core.wants i
              t_after good o.is_open.of_session h.rooms changes
              (λ index. let same : gone_if index (open_at core.book.opens i) ≡ gone_of index last.steps = ap (gone_if index) mine.there ∙ ap (gone_of index) last.is in let more = spares index in omega (arith, same, more))
              (record { of_locks = λ j n. refl; of_wants = λ j n. refl; of_buffers = λ j n. let same = moves.others j n in omega (arith, same); of_seats = λ j place n has. seats j place has })
              (covered_after moves);
        }))
