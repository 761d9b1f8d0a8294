-- The record of a row that a Ghost has made.
use Rattle.std.specs.Prelude.{◌≡◌, ◌≢◌, ◌⊎◌, ℕ, Bool, true, false, is_some, List, [], ◌∷◌, length, reverse, Option, Some, None, IsSome}
use Rattle.std.specs.FinMap.{get}
use Rattle.std.specs.List.{AllByRecursion}
use mathlib.Core.Path.{refl, sym, ap, subst, ◌∙◌}
use mathlib.Core.Logic.{inl, inr}
use Rattle.iv_types.specs.Maps.{Map}
use Rattle.iv_types.specs.declared.lock.GroupDelta.{GroupDelta}
use Rattle.iv_types.specs.declared.refusal.EngineRefusal.TheVariants as refusal
use Rattle.query_laws.specs.Limited.{IsLimited}
use Rattle.txn_machine.specs.Acts as act
use Rattle.txn_machine.specs.Answers as answer
use Rattle.txn_machine.specs.Answers.{Answer}
use Rattle.txn_machine.specs.Deltas.{place_of}
use Rattle.txn_machine.specs.Ghosts.{the_views}
use Rattle.txn_machine.specs.Keeping.{Open}
use Rattle.txn_machine.specs.Log.{Within}
use Rattle.txn_machine.specs.May.{Owes}
use Rattle.txn_machine.specs.Records.{Ghost}
use Rattle.txn_machine.specs.State.{State}
use Rattle.txn_machine.specs.Steps.{Says, log_after}
use Rattle.txn_machine.specs.Store.{Effect, Ghosts, now, run, schema_of}
use Rattle.txn_machine.proofs.Reached.{reached}
use Rattle.txn_book.specs.Opens.{open_at}
use Rattle.txn_book.specs.Txns.{txn_of}
use Rattle.txn_book.specs.declared.open_table.Open.{Open as BookOpen}
use Rattle.txn_log.specs.Replay.{Added}
use Rattle.txn_log.specs.Fitting.{IsKnown}
use Rattle.txn_log.proofs.Knowing.{all_owed}
use Rattle.record_lending.specs.Known.{ShortLaw}
use Rattle.core_journal.specs.Records.{Records, with_one, recorded_all, records_after}
use Rattle.core_state.specs.Stands.{Told, texts_after}
use Rattle.core_state.specs.declared.state.CoreState.{CoreState}
use Rattle.core_effects.proofs.Opened.{Has, own}
use Rattle.core_recording.specs.Appending.{CanAppend}
use Rattle.core_recording.specs.Kept.{is_made}
use Rattle.core_recording.proofs.Given.{ghost_gives}
use Rattle.core_recording.proofs.Used.{told_within, next_small}

some_is : {X : Type 0} (o : Option X) → IsSome o → is_some o ≡ true
some_is None there = absurd (cc)
some_is (Some x) there = refl

module _ (s : State) (i : ℕ) (o : Owes s.store i) where
  owed_now : (now s.store i).owed ≡ o.first ∷ o.others
  owed_now = ap (λ x. (Rattle.std.specs.Option.unwrap_or x Rattle.txn_machine.specs.Keeping.idle).owed) o.goes_on.is_open ∙ o.owed_is

  its_first : (d : GroupDelta) (ds : List GroupDelta) → (now s.store i).owed ≡ d ∷ ds → d ≡ o.first
  its_first d ds e = let both : d ∷ ds ≡ o.first ∷ o.others = sym e ∙ owed_now in cc

  -- ---- none is made

  pub unmade_told : (was : Bool) → was ≡ is_some (get s.store.view (place_of o.first)) → (said : Answer) (es : List Effect) → is_made was said ≡ false → Says s i act.Ghost said es → (rs : Records) → records_after s i act.Ghost said es rs ≡ rs
  unmade_told was was_is answer.Ghosted es e says rs = by says.effects
    where
      by : ((get s.store.view (place_of says.first) ≡ None) × (es ≡ Ghosts (place_of says.first) (length (Rattle.txn_machine.specs.Deltas.columns_of says.first)) ∷ [])) ⊎ (IsSome (get s.store.view (place_of says.first)) × (es ≡ []))
          → records_after s i act.Ghost answer.Ghosted es rs ≡ rs
      by (inl made) =
          let absent : was ≡ false = was_is ∙ ap (λ (d : GroupDelta). is_some (get s.store.view (place_of d))) (sym (its_first says.first says.others says.owed_is)) ∙ ap is_some made.0 in
          let bad : true ≡ false = ap (λ b. is_made b answer.Ghosted) (sym absent) ∙ e in
          absurd (cc)
      by (inr there) = ap (λ xs. recorded_all s.store i act.Ghost xs s.log rs) there.1
  unmade_told was was_is (answer.Refused refusal.NoMemory) es e says rs = ap (λ xs. recorded_all s.store i act.Ghost xs s.log rs) says.1
  unmade_told was was_is (answer.Blocked sessions) es e says rs = absurd says.0
  unmade_told was was_is (answer.Refused (refusal.Deadlock cycle)) es e says rs = absurd says.0
  unmade_told was was_is said es e says rs = absurd says

  -- ---- one is made

  pub record HasMade (said : Answer) (es : List Effect) : Type 0 where
    pub gives : (rs : Records) → records_after s i act.Ghost said es rs ≡ with_one (schema_of s.store) (record { number = s.log.next; of = Ghost (place_of o.first) }) rs
    -- it is still owed
    pub open_is : (run the_views s.store i es).open_of i ≡ Some o.goes_on.transaction
    pub objects : schema_of (run the_views s.store i es) ≡ schema_of s.store

  pub made_told : (was : Bool) → was ≡ is_some (get s.store.view (place_of o.first)) → (said : Answer) (es : List Effect) → is_made was said ≡ true → Says s i act.Ghost said es → HasMade said es
  made_told was was_is answer.Ghosted es e says = by says.effects
    where
      by : ((get s.store.view (place_of says.first) ≡ None) × (es ≡ Ghosts (place_of says.first) (length (Rattle.txn_machine.specs.Deltas.columns_of says.first)) ∷ [])) ⊎ (IsSome (get s.store.view (place_of says.first)) × (es ≡ []))
          → HasMade answer.Ghosted es
      by (inl made) =
          let columns : ℕ = length (Rattle.txn_machine.specs.Deltas.columns_of says.first) in
          let is : es ≡ Ghosts (place_of o.first) columns ∷ [] = made.1 ∙ ap (λ (d : GroupDelta). Ghosts (place_of d) columns ∷ []) (its_first says.first says.others says.owed_is) in
          record {
            gives = λ rs. ghost_gives s i rs es (place_of o.first) columns is;
            open_is = ap (λ xs. (run the_views s.store i xs).open_of i) is ∙ o.goes_on.is_open;
            objects = ap (λ xs. schema_of (run the_views s.store i xs)) is;
          }
      by (inr there) =
          let present : was ≡ true = was_is ∙ ap (λ (d : GroupDelta). is_some (get s.store.view (place_of d))) (sym (its_first says.first says.others says.owed_is)) ∙ some_is (get s.store.view (place_of says.first)) there.0 in
          let bad : false ≡ true = ap (λ b. is_made b answer.Ghosted) (sym present) ∙ e in
          absurd (cc)
  made_told was was_is (answer.Refused refusal.NoMemory) es e says = absurd (not_made was e)
    where
      not_made : (b : Bool) → is_made b (answer.Refused refusal.NoMemory) ≡ true → ⊥
      not_made true bad = cc
      not_made false bad = cc
  made_told was was_is (answer.Blocked sessions) es e says = absurd says.0
  made_told was was_is (answer.Refused (refusal.Deadlock cycle)) es e says = absurd says.0
  made_told was was_is said es e says = absurd says

-- ---- it can be given

module _ {M : Type 0} (maps : M → ℕ → Map) (spare : M → ℕ → ℕ) (limit : M → Option ℕ) (s : State) (i : ℕ) (o : Owes s.store i) (said : Answer) (core : CoreState M) (told : Told maps spare limit s i act.Ghost said core) (it : HasMade s i o said told.effects) where
  mine : Has (schema_of (run the_views s.store i told.effects)) (open_at core.book.opens i) (now (run the_views s.store i told.effects) i) ((log_after s i act.Ghost said told.effects).logged i)
  mine = own maps spare limit core (run the_views s.store i told.effects) (log_after s i act.Ghost said told.effects) (texts_after s act.Ghost said) i told.holds
      (record { of_session = o.goes_on.of_session; transaction = o.goes_on.transaction; is_open = it.open_is })

  pub is_open : IsSome (open_at core.book.opens i)
  is_open = subst IsSome (sym mine.there) refl

  owed_is : (now (run the_views s.store i told.effects) i).owed ≡ o.first ∷ o.others
  owed_is = ap (λ x. (Rattle.std.specs.Option.unwrap_or x Rattle.txn_machine.specs.Keeping.idle).owed) it.open_is ∙ o.owed_is

  module _ (t : BookOpen) (there : open_at core.book.opens i ≡ Some t) where
    pub its_owed : reverse t.owed.items ≡ o.first ∷ o.others
    its_owed =
        let one : Some t ≡ Some mine.txn = sym there ∙ mine.there in
        let same : t ≡ mine.txn = cc in
        ap (λ (x : BookOpen). (txn_of x).owed) same ∙ (mine.is.owed ∙ owed_is)

    pub some_owed : t.owed.items ≢ []
    some_owed none = let bad : [] ≡ o.first ∷ o.others = ap reverse (sym none) ∙ its_owed in absurd (cc)

  pub can_give : ShortLaw → (most : Option ℕ) → most ≡ core.log_room.limit → (rs : Records) → rs.used ≡ s.log.used → CanAppend most (schema_of s.store) s.log.next (Ghost (place_of o.first)) rs
  can_give law most same rs used =
      let within = told_within maps spare limit s i act.Ghost said core told most same rs used in
      let limited : IsLimited (schema_of s.store) = subst IsLimited (told.holds.stored.objects ∙ it.objects) told.holds.rooms.limited in
      let known : AllByRecursion (λ x. IsKnown (schema_of s.store) (Added x)) (o.first ∷ o.others) =
      subst (AllByRecursion (λ x. IsKnown (schema_of s.store) (Added x))) (owed_now s i o) (all_owed s.store (reached s told.reached) i o.goes_on.of_session) in
      record {
        short = law (schema_of s.store) limited (Ghost (place_of o.first)) known.0.0;
        numbered = next_small maps spare limit s i act.Ghost said core told;
        room = subst (λ (xs : Records). Within most xs.used) (it.gives rs) within;
      }
