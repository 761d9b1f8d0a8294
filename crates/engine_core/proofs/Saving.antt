-- What a checkpoint saves is what the machine's log publishes.
use Rattle.std.specs.Prelude.{slice_get, Option}
use Rattle.std.specs.List.{Contains}
use Rattle.std.proofs.Common.{◌≡◌, ◌≢◌, ◌⊎◌, inl, inr, ⊎_elim, ℕ, ◌≤◌, List, [], ◌∷◌, map, Some, None, refl, sym, ◌∙◌, ap, subst, arith}
use Rattle.std.specs.Option.{unwrap_or}
use Rattle.iv_types.specs.declared.lock.KeptStep.{KeptStep}
use Rattle.iv_meaning.specs.Escrow.{IsSession}
use Rattle.txn_machine.specs.Keeping as machine
use Rattle.txn_machine.specs.Keeping.{idle}
use Rattle.txn_machine.specs.Laws.{IsOpened}
use Rattle.txn_machine.specs.Log.{Logged, Opening}
use Rattle.txn_machine.specs.State.{State}
use Rattle.txn_machine.specs.Steps.{texts_of}
use Rattle.txn_machine.specs.Store.{Store, schema_of}
use Rattle.txn_book.specs.Holding.{IsSame}
use Rattle.txn_book.specs.Opens.{open_at}
use Rattle.txn_book.specs.declared.open_table.Open.{Open}
use Rattle.txn_machine.proofs.Holding.{contains_none}
use Rattle.txn_log.specs.Replay.{Deed, Pages, own}
use Rattle.txn_log.specs.Fitting.{DoNumbersFall}
use Rattle.txn_log.specs.Appended.{written}
use Rattle.txn_log.specs.Stored.{AllCreate}
use Rattle.txn_log.specs.Moments.{Txn, txn_at, kept_deeds, AreCarried, World, At, then_move, publishes, opened_world, left_by, published, pages_now}
use Rattle.txn_log.proofs.Finding.{by_number}
use Rattle.txn_log.proofs.Happening.{IsFollowed, good_run, good_opened, crash, proper}
use Rattle.txn_log.proofs.Lifting.{carries}
use Rattle.txn_log.proofs.Owning.{AreApart, IsKept}
use Rattle.txn_log.proofs.Printed.{prints_again}
use Rattle.log_disk.specs.Spelled.{AreSpellable}
use Rattle.log_disk.proofs.Spelling.{right_carried}
use Rattle.core_journal.specs.Records.{Saved, Records}
use Rattle.core_recording.specs.Carrying.{steps_at, steps_of, id_of}
use Rattle.core_recording.specs.Giving.{IsSaved}
use Rattle.record_worlds.specs.Pages.{HoldsPages}
use Rattle.record_worlds.specs.Tied.{IsTied, SavesAll}
use Rattle.engine_core.proofs.Carrying as carrying
use Rattle.engine_core.proofs.Carrying.{deed_of, deeds_of}
use Rattle.engine_core.proofs.Keeping.{backs, kept_so, firsts_all, among, rise_at, the_deed, owned_among}

module _ (p : Pages) (was : IsOpened p.db p.view) (opening : Opening) (s : State) (rs : Records) (tied : IsTied HoldsPages p opening s rs) (saved : Saved) (is : IsSaved s saved) where
  abbrev store : Store
  store = s.store

  abbrev here : World
  here = At s tied.disk

  followed : IsFollowed store s.log tied.disk
  followed = good_run prints_again (opened_world opening p) here tied.run (good_opened prints_again opening p was)

  abbrev txns : ℕ → Txn
  txns = txn_at store s.log

  apart : AreApart txns followed.memory.begun followed.memory.next
  apart = subst (λ (f : ℕ → Txn). AreApart f followed.memory.begun followed.memory.next) (λ x j. followed.follows.txns j x) followed.sound.tied.apart

  -- what some checkpoint carries
  others : (xs : List Deed) × AreCarried txns xs × DoNumbersFall xs
  others = carries prints_again p was opening here tied.run tt

  abbrev steps : ℕ → List KeptStep
  steps = steps_at is.opens

  abbrev id_at : ℕ → ℕ
  id_at session = id_of (open_at is.opens session)

  -- ---- each session

  module _ (session : ℕ) (of_session : IsSession session) where
    -- what its transaction keeps, and under which number, if it has one
    abbrev IsOne : Option Open → Type 0
    IsOne o = (txns session).kept ≡ backs (id_of o) (steps_of o)

    none_kept : (l : Logged) → kept_deeds l.transaction l.kept [] ≡ []
    none_kept l = by l.kept
      where
        by : (ns : List ℕ) → kept_deeds l.transaction ns [] ≡ []
        by [] = refl
        by (n ∷ ns) = refl

    kept_by : (o : Option Open) (m : Option machine.Open) → store.open_of session ≡ m → IsSame (schema_of store) o m (s.log.logged session) → IsOne o
    kept_by None None e h = ap (λ (x : Option machine.Open). kept_deeds (s.log.logged session).transaction (s.log.logged session).kept (unwrap_or x idle).kept) e ∙ none_kept (s.log.logged session)
    kept_by None (Some m) e h = absurd h
    kept_by (Some o) None e h = absurd h
    kept_by (Some o) (Some m) e h =
        ap (λ (x : Option machine.Open). kept_deeds (s.log.logged session).transaction (s.log.logged session).kept (unwrap_or x idle).kept) e
        ∙ (kept_so (s.log.logged session).transaction o.kept.items m.kept (s.log.logged session).kept h.kept ∙ ap (λ (n : ℕ). backs n o.kept.items) (sym h.id))

    kept_is : (txns session).kept ≡ backs (id_at session) (steps session)
    kept_is = kept_by (open_at is.opens session) (store.open_of session) refl (is.same session of_session)

    id_by : (o : Option Open) (m : Option machine.Open) → IsSame (schema_of store) o m (s.log.logged session) → (n : ℕ) (k : KeptStep) → slice_get (steps_of o) n ≡ Some k → (txns session).id ≡ id_of o
    id_by None m h n k e = absurd (let bad : None ≡ Some k = e in cc)
    id_by (Some o) None h n k e = absurd h
    id_by (Some o) (Some m) h n k e = sym h.id

    id_is : (n : ℕ) (k : KeptStep) → slice_get (steps session) n ≡ Some k → (txns session).id ≡ id_at session
    id_is = id_by (open_at is.opens session) (store.open_of session) (is.same session of_session)

    or_by : (o : Option Open) (m : Option machine.Open) → IsSame (schema_of store) o m (s.log.logged session) → (id_of o ≡ 0) ⊎ ((txns session).id ≡ id_of o)
    or_by None m h = inl refl
    or_by (Some o) None h = absurd h
    or_by (Some o) (Some m) h = inr (sym h.id)

    id_or : (id_at session ≡ 0) ⊎ ((txns session).id ≡ id_at session)
    id_or = or_by (open_at is.opens session) (store.open_of session) (is.same session of_session)

    among_others : (n : ℕ) (k : KeptStep) → slice_get (steps session) n ≡ Some k → Contains others.0 (deed_of (id_at session) k)
    among_others n k e =
        owned_among (txns session).id others.0 (deed_of (id_at session) k)
        (subst (λ (ds : List Deed). Contains ds (deed_of (id_at session) k)) (sym (others.1.each session of_session ∙ kept_is)) (among (id_at session) (steps session) n k e))

    some_id : (n : ℕ) (k : KeptStep) → slice_get (steps session) n ≡ Some k → 1 ≤ (txns session).id
    some_id n k e = by_number (txns session).id 0
        (λ none. absurd (contains_nothing (deed_of (id_at session) k)
        (subst (λ (ds : List Deed). Contains ds (deed_of (id_at session) k)) (sym kept_is ∙ (sym (others.1.each session of_session) ∙ (ap (λ (t : ℕ). own t others.0) none ∙ others.1.of_none))) (among (id_at session) (steps session) n k e))))
        (λ some. omega (arith, some))
      where
        contains_nothing : (d : Deed) → Contains [] d → ⊥
        contains_nothing d c = contains_none d c

  -- no two sessions have one transaction
  one_session : (r t n : ℕ) (k : KeptStep) → IsSession r → IsSession t → slice_get (steps t) n ≡ Some k → (txns t).id ≡ (txns r).id → t ≡ r
  one_session r t n k of_r of_t e same = by_number t r (λ is. is) (λ differs. absurd (apart.apart t r of_t of_r differs (some_id t of_t n k e) same))

  -- ---- all of them

  same_session : (a b n : ℕ) (k : KeptStep) → IsSession a → IsSession b → slice_get (steps b) n ≡ Some k → id_at b ≡ id_at a → b ≡ a
  same_session a b n k of_a of_b e same = ⊎_elim
      (λ none. let some = some_id b of_b n k e in let id = id_is b of_b n k e in absurd (omega (arith, some, id, same, none)))
      (λ id. one_session a b n k of_a of_b e (id_is b of_b n k e ∙ (same ∙ sym id)))
      (id_or a of_a)

  abbrev deeds : List Deed
  deeds = deeds_of (schema_of store) is.opens is.records.done saved.carried is.records.carried

  none_of : (t : ℕ) → ((session n : ℕ) (k : KeptStep) → IsSession session → slice_get (steps session) n ≡ Some k → (txns session).id ≢ t) → own t deeds ≡ []
  none_of t apart_from = carrying.none_other (schema_of store) is.opens t (λ session n k of_session e same. apart_from session n k of_session e (id_is session of_session n k e ∙ same)) is.records.done saved.carried is.records.carried

  own_of : (r : ℕ) → IsSession r → own (id_at r) deeds ≡ (txns r).kept
  own_of r of_r =
      carrying.own_firsts (schema_of store) is.opens same_session is.records.done saved.carried is.records.carried r of_r
      ∙ (firsts_all (id_at r) (steps r) (is.records.done r) (is.records.all r of_r) ∙ sym (kept_is r of_r))

  -- where a session keeps nothing none is of its transaction
  own_each : (r : ℕ) → IsSession r → own (txns r).id deeds ≡ (txns r).kept
  own_each r of_r = by (steps r) refl
    where
      by : (ks : List KeptStep) → steps r ≡ ks → own (txns r).id deeds ≡ (txns r).kept
      by [] e =
          none_of (txns r).id (λ session n k of_session there same.
          let is_r = one_session r session n k of_r of_session there same in
          nothing n k (subst (λ (ks : List KeptStep). slice_get ks n ≡ Some k) e (subst (λ (x : ℕ). slice_get (steps x) n ≡ Some k) is_r there)))
          ∙ sym (kept_is r of_r ∙ ap (backs (id_at r)) e)
        where
          nothing : (n : ℕ) (k : KeptStep) → slice_get [] n ≡ Some k → ⊥
          nothing n k f = let bad : None ≡ Some k = f in cc
      by (k ∷ ks) e =
          let id = id_is r of_r 0 k (ap (λ (xs : List KeptStep). slice_get xs 0) e) in
          ap (λ (t : ℕ). own t deeds) id ∙ own_of r of_r

  are_carried : AreCarried txns deeds
  are_carried = record {
    each = own_each;
    of_none = none_of 0 (λ session n k of_session there same. let some = some_id session of_session n k there in absurd (omega (arith, some, same)));
    others = λ t none. none_of t (λ session n k of_session there same. none session of_session same);
  }

  numbers_fall : DoNumbersFall deeds
  numbers_fall =
      carrying.numbers_fall (schema_of store) is.opens
      (λ r n j k of_r one two. rise_at (txns r).id followed.memory.next (steps r) (kept_apart r of_r) n j k one two)
      (λ r t m n j k of_r of_t differs one two same.
      let a = among_others r of_r m j one in
      let b = among_others t of_t n k two in
      let deed = the_deed others.0 others.2 (deed_of (id_at r) j) (deed_of (id_at t) k) a b same in
      differs (sym (one_session r t n k of_r of_t two (id_is t of_t n k two ∙ (sym (ap (λ (d : Deed). d.transaction) deed) ∙ sym (id_is r of_r m j one))))))
      is.records.done saved.carried is.records.carried
    where
      kept_apart : (r : ℕ) → IsSession r → IsKept (txns r).id followed.memory.next (backs (txns r).id (steps r))
      kept_apart r of_r = by (steps r) refl
        where
          by : (ks : List KeptStep) → steps r ≡ ks → IsKept (txns r).id followed.memory.next (backs (txns r).id ks)
          by [] e = tt
          by (k ∷ ks) e =
              let id = id_is r of_r 0 k (ap (λ (xs : List KeptStep). slice_get xs 0) e) in
              subst (IsKept (txns r).id followed.memory.next) (kept_is r of_r ∙ (ap (λ (t : ℕ). backs t (steps r)) (sym id) ∙ ap (backs (txns r).id) e)) (apart.kept r of_r)

  -- ---- the checkpoint

  abbrev saved_world : World
  saved_world = At s (published (pages_now store) deeds tied.disk)

  fit : AreSpellable (schema_of store) (map written deeds)
  fit = right_carried store (left_by saved_world 0) tied.disk.acknowledged
      (crash prints_again p was opening saved_world (then_move (opened_world opening p) here saved_world tied.run (publishes here deeds are_carried numbers_fall)) 0)

  pub saves_all : AllCreate [] (texts_of s) (schema_of store) → SavesAll HoldsPages s saved
  saves_all creates = record {
    pages = record {
      objects = is.held.objects;
      tables = is.held.tables;
      views = is.held.views;
      texts = texts_of s;
      has_texts = is.texts;
      create = creates;
      proper = proper prints_again p was opening here tied.run;
      number = is.number;
    };
    carried = deeds;
    are = are_carried;
    fall = numbers_fall;
    spelled_so = carrying.spelled_so (schema_of store) is.opens is.records.done saved.carried is.records.carried;
    fit = fit;
  }
