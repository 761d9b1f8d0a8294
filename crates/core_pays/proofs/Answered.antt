-- How a Pay is answered whose lock is held.
use Rattle.std.specs.Prelude.{◌≡◌, ◌≢◌, ℕ, suc, ◌+◌, ◌-◌, ◌*◌, ◌<◌, ◌≤◌, ◌^◌, min, [], ◌∷◌, ◌++◌, map, length, Option, None, Some, IsSome, refl}
use Rattle.std.specs.Option.{unwrap_or}
use Rattle.std.specs.List.{sum}
use Rattle.std.specs.FinMap.{get}
use mathlib.Core.Path.{sym, ap, subst, ◌∙◌}
use Rattle.std.proofs.Common.{arith}
use Rattle.std.proofs.lemmas.List.{length-reverse}
use Rattle.iv_types.specs.Maps.{Map}
use Rattle.iv_types.specs.declared.refusal.EngineRefusal.TheVariants as refusal
use Rattle.iv_meaning.specs.Schema.{Schema}
use Rattle.ghost_rows.specs.declared.view_rows.PayRefusal.{PayRefusal}
use Rattle.ghost_rows.specs.declared.view_rows.PayRefusal.TheVariants.{Absent, Escrow}
use Rattle.txn_machine.specs.Acts as act
use Rattle.txn_machine.specs.Answers as answer
use Rattle.txn_machine.specs.Counts.{most_of_transaction, kept_size, note_size}
use Rattle.txn_machine.specs.Deltas.{place_of}
use Rattle.iv_meaning.specs.Escrow.{IsSession, value}
use Rattle.txn_machine.specs.Ghosts.{the_views, account_of}
use Rattle.txn_machine.specs.Stored.{stored_number}
use Rattle.txn_machine.specs.Keeping.{Open, Pay, idle}
use Rattle.txn_machine.specs.Locks.{with_one}
use Rattle.txn_machine.specs.Stored.{add_to}
use Rattle.txn_machine.specs.Log.{Log, Logged, logs, keeps, appended}
use Rattle.txn_machine.specs.Records.{Record}
use Rattle.txn_machine.specs.State.{State}
use Rattle.txn_machine.specs.Steps.{PaysFirst, asked}
use Rattle.txn_machine.specs.Store.{Store, Takes, Pays, does, now, schema_of, paid_first}
use Rattle.txn_machine.proofs.Basics.{one_same}
use Rattle.txn_machine.proofs.LogRoom.{logs_logged}
use Rattle.txn_machine.proofs.Reached.{reached, stored_law}
use Rattle.txn_book.specs.Opens.{open_at}
use Rattle.txn_book.specs.declared.open_table.Open.{Open as BookOpen}
use Rattle.data_store.specs.Contents.{contents_of}
use Rattle.ghost_rows.specs.Kept.{width}
use Rattle.ghost_rows.specs.State.{CanStore}
use Rattle.data_room.specs.Reserved.{share_at, first_bytes, IsReserved}
use Rattle.data_room.specs.declared.room.DataRoom.{DataRoom}
use Rattle.data_room.proofs.Kept.{reserved_one, reserved_back}
use Rattle.data_room.proofs.Transactions.{now_room, paid_room}
use Rattle.log_room.specs.Rooms as log
use Rattle.log_room.specs.Rooms.{IsRoomOf, SameRoomLaw}
use Rattle.core_state.specs.Stands.{Told, Holds, Reserves, its_texts}
use Rattle.core_state.specs.declared.state.CoreState.{CoreState}
use Rattle.core_state.proofs.Sessions.{kept_same}
use Rattle.core_effects.specs.Owing.{OwesFirst, Allows, IsUnpaid}
use Rattle.core_effects.specs.Underway.{IsUnderway}
use Rattle.core_effects.proofs.Done.{told_by}
use Rattle.core_effects.proofs.Opened.{Has, own}
use Rattle.core_pays.specs.Holding.{IsHolding, unpaid_as}
use Rattle.core_pays.proofs.Reserving.{can_store_it, first_fits}
use Rattle.data_changes.proofs.Accounts.{committed_here, all_allow, refused_by, fresh_at}
use Rattle.core_state.proofs.Few.{kept_few}

pub next_few : (objects : Schema) (r : Option Record) (l : Log) → (appended objects r l).next ≤ l.next + 1
next_few objects None l = omega arith
next_few objects (Some r) l = omega arith

present : {X : Type 0} (o : Option X) → (o ≡ None → ⊥) → IsSome o
present None no_one = absurd (no_one refl)
present (Some x) no_one = refl

module _ {M : Type 0} (maps : M → ℕ → Map) (spare : M → ℕ → ℕ) (limit : M → Option ℕ) (core : CoreState M) (s : State) (i : ℕ) (h : IsHolding maps spare limit s i core) where
  abbrev pub between : Store
  between = does the_views s.store i (Takes (asked s.store i act.Pay))

  abbrev pub log_between : Log
  log_between = logs s.store i act.Pay (Takes (asked s.store i act.Pay)) s.log

  abbrev pub with_lock : Open
  with_lock = record (now s.store i) { locks = asked s.store i act.Pay ++ (now s.store i).locks }

  pub owed_now : (now s.store i).owed ≡ h.owes.first ∷ h.owes.others
  owed_now = ap (λ x. (unwrap_or x idle).owed) h.owes.goes_on.is_open ∙ h.owes.owed_is

  pub back_now : (now s.store i).back ≡ 0
  back_now = ap (λ x. (unwrap_or x idle).back) h.owes.goes_on.is_open ∙ h.owes.none_back

  -- the transaction with its lock
  pub same_now : now between i ≡ with_lock
  same_now = ap (λ x. unwrap_or x idle) (one_same s.store.open_of i (Some with_lock) i refl)

  abbrev pub owes_between : Rattle.txn_machine.specs.KeptLaws.IsDelta (schema_of s.store) h.owes.first → OwesFirst between i
  owes_between delta = record {
    is_open = record { of_session = h.owes.goes_on.of_session; transaction = with_lock; is_open = one_same s.store.open_of i (Some with_lock) i refl };
    first = h.owes.first;
    others = h.owes.others;
    owed_is = ap (λ (x : Open). x.owed) same_now ∙ owed_now;
    none_back = ap (λ (x : Open). x.back) same_now ∙ back_now;
    delta = delta;
  }

  pub first_delta : Rattle.txn_machine.specs.KeptLaws.IsDelta (schema_of s.store) h.owes.first
  first_delta = (subst (Rattle.std.specs.List.All (Rattle.txn_machine.specs.KeptLaws.IsDelta (schema_of s.store))) owed_now (Rattle.txn_machine.proofs.Shapes.delta_law s h.underway.reached i h.owes.goes_on.of_session).0) 0 h.owes.first (omega arith)

  abbrev pub the_first : OwesFirst between i
  the_first = owes_between first_delta

  kept_between : (j : ℕ) → (contents_of between).kept j ≡ (now s.store j).kept
  kept_between j = kept_same s.store.open_of i (Some with_lock) refl j

  abbrev pub pays_it : PaysFirst s.store i (asked s.store i act.Pay)
  pays_it = record { free = h.free; first = h.owes.first; others = h.owes.others; owed_is = owed_now }

  law_here : (column : ℕ) → stored_number s.store.view (place_of h.owes.first) column ≡ value (account_of s.store (place_of h.owes.first) column)
  law_here column = stored_law s h.underway.reached (place_of h.owes.first) column

  module _ (new : CoreState M) (u : IsUnderway maps spare limit s i new) where
    pub paid_told : (left : ℕ) → left ≡ length h.owes.others → Allows between i the_first → (get s.store.view (place_of h.owes.first) ≡ None → ⊥)
        → Holds maps spare limit new (does the_views between i Pays) (logs between i act.Pay Pays log_between) (its_texts s) → Reserves maps spare limit new (does the_views between i Pays) (logs between i act.Pay Pays log_between) → Told maps spare limit s i act.Pay (answer.Paid left) new
    paid_told left left_is allowed there holds reserves =
        told_by maps spare limit new s i u act.Pay (answer.Paid left) (Takes (asked s.store i act.Pay) ∷ Pays ∷ [])
        (record {
          pays = pays_it;
          there = present (get s.store.view (place_of h.owes.first)) there;
          allowed = all_allow s.store (contents_of between) kept_between refl h.owes.first i (allowed (fresh_at s.store (place_of h.owes.first)) (committed_here s.store (contents_of between) kept_between refl h.owes.first law_here));
          left_is = left_is;
          effects = refl;
        }) holds reserves refl refl (omega arith) (next_few (schema_of between) _ _)

    pub unpaid_told : (why : PayRefusal) → IsUnpaid between i the_first why → Holds maps spare limit new between log_between (its_texts s) → Reserves maps spare limit new between log_between → Told maps spare limit s i act.Pay (unpaid_as why) new
    unpaid_told Absent absent holds reserves =
        told_by maps spare limit new s i u act.Pay answer.NeedsGhost (Takes (asked s.store i act.Pay) ∷ []) (record { pays = pays_it; absent = absent; effects = refl }) holds reserves refl refl (omega arith) (omega arith)
    unpaid_told (Escrow column low high) refused holds reserves =
        told_by maps spare limit new s i u act.Pay (answer.Refused (refusal.Escrow column low high)) (Takes (asked s.store i act.Pay) ∷ [])
        (record {
          pays = pays_it;
          there = present (get s.store.view (place_of h.owes.first)) refused.0;
          refused = refused_by s.store (contents_of between) kept_between refl h.owes.first i column low high
              (refused.1 (fresh_at s.store (place_of h.owes.first)) (committed_here s.store (contents_of between) kept_between refl h.owes.first law_here));
          effects = refl;
        }) holds reserves refl refl (omega arith) (omega arith)

  -- ---- what is kept of the data

  session : IsSession i
  session = h.owes.goes_on.of_session

  -- the lock moves nothing
  pub between_reserves : IsReserved core.data_room (schema_of s.store) between.open_of log_between.logged
  between_reserves =
      reserved_one (schema_of s.store) s.store.open_of s.log.logged log_between.logged i (Some with_lock) (s.log.logged i) (λ j. ap (λ (f : ℕ → Logged). f j) (logs_logged s.store i act.Pay (Takes (asked s.store i act.Pay)) s.log))
      core.data_room (now_room (schema_of s.store) (s.store.open_of i) (s.log.logged i).ghosted) h.reserves.data_room

  -- nor does it in the log
  pub between_logged : SameRoomLaw → IsRoomOf core.log_room between log_between
  between_logged law =
      law.locks core.log_room s.store s.log i act.Pay (asked s.store i act.Pay) session (h.owes.goes_on.is_open ∙ ap Some (sym (ap (λ x. unwrap_or x idle) h.owes.goes_on.is_open))) h.reserves.log_room

  -- the delta in the words of the log
  pub owes_logged : log.OwesFirst between log_between i h.owes.first (log_between.logged i).ghosted
  owes_logged = record {
    serial = record {
      of_session = session;
      is_open = one_same s.store.open_of i (Some with_lock) i refl ∙ ap Some (sym same_now);
      mode_is = ap (λ (x : Open). x.mode) same_now ∙ (ap (λ x. (unwrap_or x idle).mode) h.owes.goes_on.is_open ∙ h.owes.goes_on.mode_is);
    };
    others = h.owes.others;
    owed_is = the_first.owed_is;
    none_back = the_first.none_back;
    ghosted_is = refl;
  }

  -- the row of the delta can be stored
  pub can_store_first : CanStore (maps core.store.tables) (limit core.store.tables) (place_of h.owes.first) (width h.owes.first)
  can_store_first =
      can_store_it maps spare limit core s i h.underway h.reserves between log_between h.holds refl refl refl h.owes.first first_delta
      (first_fits maps spare limit core s i h.underway h.reserves session h.owes.goes_on.transaction h.owes.goes_on.is_open h.owes.first h.owes.others h.owes.owed_is h.owes.none_back)

  -- ---- how many are left

  pub few_left : length h.owes.others < 2 ^ 32
  few_left =
      let mine : Has (schema_of between) (open_at core.book.opens i) (now between i) (log_between.logged i) = own maps spare limit core between log_between (its_texts s) i h.holds the_first.is_open in
      let small : mine.txn.txn_bytes ≤ most_of_transaction = (h.holds.rooms.each i h.owes.goes_on.of_session mine.txn mine.there).small in
      let bytes : mine.txn.txn_bytes ≡ sum (map (note_size (schema_of between)) (now between i).notes) + sum (map (kept_size (schema_of between)) (now between i).kept) = mine.is.txn_bytes in
      let same : sum (map (kept_size (schema_of between)) (now between i).kept) ≡ sum (map (kept_size (schema_of s.store)) (now s.store i).kept) = ap (λ (x : Open). sum (map (kept_size (schema_of s.store)) x.kept)) same_now in
      let few : 128 * (length (now s.store i).kept + length (now s.store i).owed) ≤ sum (map (kept_size (schema_of s.store)) (now s.store i).kept) = kept_few (schema_of s.store) (now s.store i).kept (now s.store i).owed ((reached s h.underway.reached).each i h.owes.goes_on.of_session).settled in
      let many : length (now s.store i).owed ≡ suc (length h.owes.others) = ap length owed_now in
      omega (arith, small, bytes, same, few, many)

  -- ---- after it is paid

  abbrev paid_one : Open
  paid_one = record (now between i) { kept = Pay h.owes.first ∷ (now between i).kept; owed = h.owes.others }

  abbrev store_after : Store
  store_after = record between { view = add_to between.view h.owes.first; open_of = with_one between.open_of i (Some paid_one) }

  after_is : does the_views between i Pays ≡ store_after
  after_is = ap (paid_first between i (now between i)) the_first.owed_is

  pub paid_reserved : (room was : DataRoom) (bytes : ℕ) → was ≡ core.data_room → room.limit ≡ was.limit → bytes ≡ min (first_bytes (log_between.logged i).ghosted h.owes.first) (2 ^ 64 - 1)
      → share_at was.shares i < 2 ^ 64 → share_at room.shares i ≡ share_at was.shares i - bytes → ((j : ℕ) → j ≢ i → share_at room.shares j ≡ share_at was.shares j) → room.total ≡ was.total - (share_at was.shares i - share_at room.shares i)
      → IsReserved room (schema_of (does the_views between i Pays)) (does the_views between i Pays).open_of (logs between i act.Pay Pays log_between).logged
  paid_reserved room was bytes same same_limit bytes_are small mine others total =
      subst (λ (u : Store). IsReserved room (schema_of u) u.open_of (logs between i act.Pay Pays log_between).logged) (sym after_is)
      (reserved_back (schema_of s.store) between.open_of log_between.logged (logs between i act.Pay Pays log_between).logged i (Some paid_one) (keeps (log_between.logged i) log_between.next) (λ j. ap (λ (f : ℕ → Logged). f j) (logs_logged between i act.Pay Pays log_between))
      core.data_room was room session between_reserves same same_limit bytes (first_bytes (log_between.logged i).ghosted h.owes.first) bytes_are
      (paid_room (schema_of s.store) (now between i) (log_between.logged i).ghosted h.owes.first h.owes.others the_first.owed_is the_first.none_back ∙ now_room (schema_of s.store) (between.open_of i) (log_between.logged i).ghosted)
      small mine others total)

  mine_after : (new : CoreState M) (l : Log) → Holds maps spare limit new (does the_views between i Pays) l (its_texts s) → Has (schema_of store_after) (open_at new.book.opens i) (now store_after i) (l.logged i)
  mine_after new l holds =
      own maps spare limit new store_after l (its_texts s) i (subst (λ u. Holds maps spare limit new u l (its_texts s)) after_is holds)
      (record { of_session = h.owes.goes_on.of_session; transaction = paid_one; is_open = one_same between.open_of i (Some paid_one) i refl })

  pub is_there : (new : CoreState M) (l : Log) → Holds maps spare limit new (does the_views between i Pays) l (its_texts s) → IsSome (open_at new.book.opens i)
  is_there new l holds = subst IsSome (sym (mine_after new l holds).there) refl

  pub left_is : (new : CoreState M) (l : Log) → Holds maps spare limit new (does the_views between i Pays) l (its_texts s) → (t : BookOpen) → open_at new.book.opens i ≡ Some t → length t.owed.items ≡ length h.owes.others
  left_is new l holds t there =
      let mine = mine_after new l holds in
      let one : Some t ≡ Some mine.txn = sym there ∙ mine.there in
      let same : t ≡ mine.txn = cc in
      ap (λ (x : BookOpen). length x.owed.items) same
      ∙ (sym (length-reverse mine.txn.owed.items) ∙ (ap length mine.is.owed ∙ ap (λ x. length (unwrap_or x idle).owed) (one_same between.open_of i (Some paid_one) i refl)))
