-- What is used and reserved of the log as a transaction ends.
use Rattle.std.specs.Prelude.{◌≡◌, ◌⊎◌, ℕ, Bool, List, [], ◌∷◌, length, Option, Some, refl}
use Rattle.std.specs.Option.{unwrap_or}
use mathlib.Core.Path.{sym, ap, subst, ◌∙◌}
use mathlib.Core.Logic.{inl, inr}
use Rattle.std.proofs.lemmas.List.{length-reverse}
use Rattle.iv_types.specs.Maps.{Map}
use Rattle.iv_types.specs.declared.lock.GroupDelta.{GroupDelta}
use Rattle.iv_types.specs.declared.lock.KeptStep.{KeptStep as BookStep}
use Rattle.iv_types.specs.declared.lock.KeptStep.TheVariants as step
use Rattle.iv_types.specs.declared.statement.Mode.TheVariants.{Serial, Snapshot}
use Rattle.txn_machine.specs.Keeping.{KeptStep, Put, Pay, Open, changes_of, idle, IsSettled}
use Rattle.txn_machine.specs.Log.{Log}
use Rattle.txn_machine.specs.May.{IsOpen, IsReady}
use Rattle.txn_machine.specs.State.{State}
use Rattle.txn_machine.specs.Store.{Store, changes_by, now}
use Rattle.txn_machine.proofs.LogRoom.{IsBare}
use Rattle.txn_machine.proofs.Reached.{reached}
use Rattle.txn_book.specs.Opens.{open_at}
use Rattle.txn_book.specs.Txns.{txn_of}
use Rattle.txn_book.specs.Holding.{AreKept}
use Rattle.txn_book.specs.declared.open_table.Open.{Open as BookOpen}
use Rattle.log_room.specs.Rooms.{OwesNothing, IsBareSnapshot}
use Rattle.core_state.specs.Stands.{Began}
use Rattle.core_state.specs.declared.state.CoreState.{CoreState}
use Rattle.core_state.proofs.Sessions.{own_txn, now_is, of_ready, bare, wrote_is}
use Rattle.core_ends.specs.Ends.{IsEmpty, EndsAs}

-- without changes nothing is owed, and nothing is paid
never_owes : (ks : List KeptStep) (d : GroupDelta) (ds : List GroupDelta) → IsSettled ks (d ∷ ds) → changes_of ks ≡ [] → ⊥
never_owes [] d ds h e = cc
never_owes (Put c es ∷ ks) d ds h e = cc
never_owes (Pay f ∷ ks) d ds h e = never_owes ks f (d ∷ ds) h e

nothing_kept : (ks : List KeptStep) → IsSettled ks [] → changes_of ks ≡ [] → ks ≡ []
nothing_kept [] h e = refl
nothing_kept (Put c ds ∷ ks) h e = absurd (cc)
nothing_kept (Pay d ∷ ks) h e = absurd (never_owes ks d [] h e)

-- the book keeps as many steps
as_many : (bs : List BookStep) (ks : List KeptStep) (ns : List ℕ) → AreKept bs ks ns → length bs ≡ length ks
as_many [] [] ns h = refl
as_many (step.Put k a b n ∷ bs) (Put c owed ∷ ks) (m ∷ ns) h = ap ℕ.suc (as_many bs ks ns h.2)
as_many (step.Pay d before n ∷ bs) (Pay e ∷ ks) (m ∷ ns) h = ap ℕ.suc (as_many bs ks ns h.2)
as_many [] (k ∷ ks) ns h = absurd h
as_many (step.Put k a b n ∷ bs) (Put c owed ∷ ks) [] h = absurd h
as_many (step.Pay d before n ∷ bs) (Pay e ∷ ks) [] h = absurd h
as_many (step.Put k a b n ∷ bs) (Pay e ∷ ks) ns h = absurd h
as_many (step.Pay d before n ∷ bs) (Put c owed ∷ ks) ns h = absurd h
as_many (step.Put k a b n ∷ bs) [] ns h = absurd h
as_many (step.Pay d before n ∷ bs) [] ns h = absurd h

module _ {M : Type 0} (maps : M → ℕ → Map) (spare : M → ℕ → ℕ) (limit : M → Option ℕ) (core : CoreState M) (s : State) (i : ℕ) (h : Began maps spare limit core s i) where
  settled : IsOpen s.store i → IsSettled (now s.store i).kept (now s.store i).owed
  settled o = ((reached s h.reached).each i o.of_session).settled

  -- where it keeps nothing it owes nothing
  pub empty_kept : (o : IsOpen s.store i) → o.transaction.kept ≡ [] → IsEmpty s.store i
  empty_kept o none =
      let kept : (now s.store i).kept ≡ [] = ap (λ (t : Open). t.kept) (now_is maps spare limit core s i h o) ∙ none in
      record { opened = o; kept_is = kept; owed_is = subst (λ ks. IsSettled ks (now s.store i).owed) kept (settled o) }

  -- where it owes nothing and keeps no change it keeps nothing
  pub empty_ready : IsReady s.store i Serial ⊎ IsReady s.store i Snapshot → changes_by s.store i ≡ [] → IsEmpty s.store i
  empty_ready (inl r) none =
      let owed : (now s.store i).owed ≡ [] = ap (λ (t : Open). t.owed) (now_is maps spare limit core s i h (of_ready maps spare limit core s i h r)) ∙ r.owes_nothing in
      record { opened = of_ready maps spare limit core s i h r; kept_is = nothing_kept (now s.store i).kept (subst (IsSettled (now s.store i).kept) owed (settled (of_ready maps spare limit core s i h r))) none; owed_is = owed }
  empty_ready (inr r) none =
      let owed : (now s.store i).owed ≡ [] = ap (λ (t : Open). t.owed) (now_is maps spare limit core s i h (of_ready maps spare limit core s i h r)) ∙ r.owes_nothing in
      record { opened = of_ready maps spare limit core s i h r; kept_is = nothing_kept (now s.store i).kept (subst (IsSettled (now s.store i).kept) owed (settled (of_ready maps spare limit core s i h r))) none; owed_is = owed }

  module _ (b : BookOpen) (there : open_at core.book.opens i ≡ Some b) where
    -- the book has it as it ends
    pub ends_as : IsEmpty s.store i → EndsAs s.store s.log i b.mode b.has_written
    ends_as empty =
        let o = empty.opened in
        let own = own_txn maps spare limit core s i h o in
        let one : Some b ≡ Some own.txn = sym there ∙ own.there in
        let same : b ≡ own.txn = cc in
        let mode : b.mode ≡ o.transaction.mode = ap (λ (x : BookOpen). x.mode) same ∙ own.is.mode in
        let wrote : b.has_written ≡ (s.log.logged i).wrote = wrote_is maps spare limit core s i h o b there in
        record {
          empty = empty;
          mode_is = ap (λ (t : Open). t.mode) (now_is maps spare limit core s i h o) ∙ sym mode;
          wrote_is = sym wrote;
          bare = λ e. wrote ∙ ((subst (λ x. IsBare x (s.log.logged i)) o.is_open (bare maps spare limit core s i h i o.of_session)) (sym mode ∙ e)).1;
        }

    -- and with its steps
    pub keeps_many : IsOpen s.store i → length b.kept.items ≡ length (now s.store i).kept
    keeps_many o =
        let own = own_txn maps spare limit core s i h o in
        let one : Some b ≡ Some own.txn = sym there ∙ own.there in
        let same : b ≡ own.txn = cc in
        ap (λ (x : BookOpen). length x.kept.items) same ∙ (sym (length-reverse own.txn.kept.items) ∙ (as_many (txn_of own.txn).kept o.transaction.kept (s.log.logged i).kept own.is.kept ∙ ap (λ (t : Open). length t.kept) (sym (now_is maps spare limit core s i h o))))

  -- a commit owes nothing
  pub owes_nothing : IsReady s.store i Serial → OwesNothing s.store i
  owes_nothing r =
      let is : now s.store i ≡ r.goes_on.transaction = now_is maps spare limit core s i h (of_ready maps spare limit core s i h r) in
      record {
        serial = record { of_session = r.goes_on.of_session; is_open = r.goes_on.is_open ∙ ap Some (sym is); mode_is = ap (λ (t : Open). t.mode) is ∙ r.goes_on.mode_is };
        owed_is = ap (λ (t : Open). t.owed) is ∙ r.owes_nothing;
      }

-- ---- as the log's room asks for it

now_open : (s : Store) (i : ℕ) → (o : IsOpen s i) → s.open_of i ≡ Some (now s i)
now_open s i o = o.is_open ∙ ap Some (sym (ap (λ x. unwrap_or x idle) o.is_open))

pub serial_ends : (s : Store) (l : Log) (i : ℕ) (wrote : Bool) → EndsAs s l i Serial wrote → OwesNothing s i
serial_ends s l i wrote h = record {
  serial = record { of_session = h.empty.opened.of_session; is_open = now_open s i h.empty.opened; mode_is = h.mode_is };
  owed_is = h.empty.owed_is;
}

pub snapshot_ends : (s : Store) (l : Log) (i : ℕ) (wrote : Bool) → EndsAs s l i Snapshot wrote → IsBareSnapshot s l i
snapshot_ends s l i wrote h = record {
  of_session = h.empty.opened.of_session;
  is_open = now_open s i h.empty.opened;
  mode_is = h.mode_is;
  wrote_nothing = h.wrote_is ∙ h.bare refl;
}
