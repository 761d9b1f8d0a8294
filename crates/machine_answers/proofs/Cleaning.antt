-- Whether a stored row may be removed is decided, and so is which is the first.
use Rattle.std.specs.Prelude.{◌≡◌, ◌≢◌, ◌⊎◌, ℕ, zero, suc, ◌+◌, ℤ, pos, negsuc, true, T, List, [], ◌∷◌, Option, Some, None, IsSome}
use Rattle.std.specs.List.{Contains}
use Rattle.std.specs.FinMap.{get, entries, entries_sorted, is_sorted}
use Rattle.std.specs.FinMap.Entries.{below_all}
use Rattle.std.specs.Ordering.{is_lt}
use Rattle.std.specs.declared.cmp.Ordering.{Ordering}
use Rattle.std.specs.declared.cmp.Ordering.TheVariants.{Less, Equal, Greater}
use Rattle.std.proofs.lemmas.Cmp.{tied_itself}
use mathlib.Core.Path.{refl, sym, subst}
use mathlib.Core.Logic.{inl, inr}
use Rattle.iv_types.specs.declared.lock.GroupDelta.{GroupDelta}
use Rattle.iv_types.specs.declared.lock.LockMode.{LockMode}
use Rattle.iv_types.specs.declared.lock.LockMode.TheVariants.{Share, Exclusive, Increment}
use Rattle.iv_types.specs.declared.lock.Want.{Want}
use Rattle.iv_types.specs.declared.refusal.EngineRefusal.TheVariants as refusal
use Rattle.iv_types.specs.Intervals.{LiesIn}
use Rattle.table_laws.specs.Place.{Place, place_cmp}
use Rattle.table_laws.proofs.Place.{place_cmp_total, place_cmp-IsAntisymmetric}
use Rattle.table_laws.proofs.Tables.{Contains-entries}
use Rattle.iv_meaning.specs.Escrow.{IsSession}
use Rattle.iv_types.specs.Encoding.{lies_in}
use Rattle.txn_machine.specs.Acts as act
use Rattle.txn_machine.specs.Answers as answer
use Rattle.txn_machine.specs.Deltas.{is_for}
use Rattle.txn_machine.specs.Keeping.{increments}
use Rattle.txn_machine.specs.Fresh.{fresh}
use Rattle.txn_machine.specs.Store.{Store, committed, schema_of, now, locks_of, Cleans}
use Rattle.txn_machine.specs.Ghosts.{Holds, versions, IsCleanable, IsFirstCleanable}
use Rattle.txn_machine.specs.Records.{group_bytes}
use Rattle.txn_machine.specs.Log.{Within, Above, reserved}
use Rattle.txn_machine.specs.State.{State}
use Rattle.txn_machine.proofs.Holding.{by_contains, contains_here, contains_next, contains_none}
use Rattle.txn_machine.proofs.PlainStates.{some_of}
use Rattle.txn_machine.proofs.Testing.{is_true, holds, left_one, right_one, some_in, some_is}
use Rattle.machine_answers.proofs.Saying.{HasAnswer}
use Rattle.machine_answers.proofs.Choosing.{so_or_not, same_or_not, there_or_not, within_or_above, each_session_or_not}

-- ---- one of a list

among_or_none : {X : Type 0} (P : X → Type 0) → ((x : X) → P x ⊎ (P x → ⊥)) → (xs : List X) → ((x : X) × Contains xs x × P x) ⊎ ((x : X) → Contains xs x → P x → ⊥)
among_or_none P decide [] = inr (λ x c p. contains_none x c)
among_or_none P decide (x ∷ xs) = by (decide x) (among_or_none P decide xs)
  where
    by : P x ⊎ (P x → ⊥) → ((y : _) × Contains xs y × P y) ⊎ ((y : _) → Contains xs y → P y → ⊥) → ((y : _) × Contains (x ∷ xs) y × P y) ⊎ ((y : _) → Contains (x ∷ xs) y → P y → ⊥)
    by (inl p) rest = inl (x, contains_here x xs, p)
    by (inr lacks) (inl found) = inl (found.0, contains_next x xs found.0 found.1, found.2)
    by (inr lacks) (inr none) = inr (λ y c p. by_contains x xs y c (λ e. lacks (subst P (sym e) p)) (λ d. none y d p))

-- ---- what a stored row is cleanable by

zero_or_not : (n : ℤ) → (n ≡ pos 0) ⊎ (n ≡ pos 0 → ⊥)
zero_or_not (pos zero) = inl refl
zero_or_not (pos (suc n)) = inr (λ e. cc)
zero_or_not (negsuc n) = inr (λ e. cc)

nil_or_not : {X : Type 0} (xs : List X) → (xs ≡ []) ⊎ (xs ≡ [] → ⊥)
nil_or_not [] = inl refl
nil_or_not (x ∷ xs) = inr (λ e. cc)

increment_or_not : (mode : LockMode) → (mode ≡ Increment) ⊎ (mode ≡ Increment → ⊥)
increment_or_not Increment = inl refl
increment_or_not Share = inr (λ e. cc)
increment_or_not Exclusive = inr (λ e. cc)

lies_or_not : (key : List ℕ) (lock : Want) → LiesIn key lock.interval ⊎ (LiesIn key lock.interval → ⊥)
lies_or_not key lock = elim (so_or_not (lies_in key lock.interval)) [ inl so ↦ inl (is_true (lies_in key lock.interval) so) | inr lacks ↦ inr (λ l. lacks (holds (lies_in key lock.interval) l)) ]

abbrev Covers : Place → Want → Type 0
Covers place lock = (lock.mode ≡ Increment) × (lock.index ≡ place.0) × LiesIn place.1 lock.interval

covers_or_not : (place : Place) (lock : Want) → Covers place lock ⊎ (Covers place lock → ⊥)
covers_or_not place lock = by (increment_or_not lock.mode) (same_or_not lock.index place.0) (lies_or_not place.1 lock)
  where
    by : (lock.mode ≡ Increment) ⊎ (lock.mode ≡ Increment → ⊥) → (lock.index ≡ place.0) ⊎ (lock.index ≡ place.0 → ⊥) → LiesIn place.1 lock.interval ⊎ (LiesIn place.1 lock.interval → ⊥)
        → Covers place lock ⊎ (Covers place lock → ⊥)
    by (inr lacks) index lies = inr (λ c. lacks c.0)
    by (inl mode) (inr lacks) lies = inr (λ c. lacks c.1)
    by (inl mode) (inl index) (inr lacks) = inr (λ c. lacks c.2)
    by (inl mode) (inl index) (inl lies) = inl (mode, index, lies)

module _ (s : Store) (place : Place) where
  abbrev HasNoPays : Type 0
  HasNoPays = (session : ℕ) → IsSession session → increments place 0 (now s session).kept ≡ []

  abbrev HasNoVersions : Type 0
  HasNoVersions = (d : GroupDelta) → Contains (versions s) d → is_for place d ≡ true → ⊥

  abbrev IsNotLocked : Type 0
  IsNotLocked = (session : ℕ) → IsSession session → Holds (locks_of s session) Increment place.0 place.1 → ⊥

  no_pays_or_not : HasNoPays ⊎ (HasNoPays → ⊥)
  no_pays_or_not = each_session_or_not (λ session. increments place 0 (now s session).kept ≡ []) (λ session. nil_or_not (increments place 0 (now s session).kept))

  no_versions_or_not : HasNoVersions ⊎ (HasNoVersions → ⊥)
  no_versions_or_not = elim (so_or_not (some_of (is_for place) (versions s))) [
    | inl so ↦ let one = some_is (is_for place) (versions s) so in inr (λ none. none one.one one.there (is_true (is_for place one.one) one.so))
    | inr lacks ↦ inl (λ d c e. lacks (some_in (is_for place) (versions s) d c (holds (is_for place d) e)))
  ]

  free_or_not : (session : ℕ) → (Holds (locks_of s session) Increment place.0 place.1 → ⊥) ⊎ ((Holds (locks_of s session) Increment place.0 place.1 → ⊥) → ⊥)
  free_or_not session = elim (among_or_none (Covers place) (covers_or_not place) (locks_of s session)) [
    | inl (lock, held, covers) ↦ inr (λ free. free (record { lock = lock; held = held; mode_is = covers.0; index_is = covers.1; covers = covers.2 }))
    | inr none ↦ inl (λ h. none h.lock h.held (h.mode_is, h.index_is, h.covers))
  ]

  not_locked_or_not : IsNotLocked ⊎ (IsNotLocked → ⊥)
  not_locked_or_not = each_session_or_not (λ session. Holds (locks_of s session) Increment place.0 place.1 → ⊥) free_or_not

  by_parts : IsSome (get s.view place) ⊎ (IsSome (get s.view place) → ⊥) → (fresh (schema_of s) (committed s).rows place 0 ≡ pos 0) ⊎ (fresh (schema_of s) (committed s).rows place 0 ≡ pos 0 → ⊥)
      → HasNoPays ⊎ (HasNoPays → ⊥) → HasNoVersions ⊎ (HasNoVersions → ⊥) → IsNotLocked ⊎ (IsNotLocked → ⊥) → IsCleanable s place ⊎ (IsCleanable s place → ⊥)
  by_parts (inr lacks) count pays none free = inr (λ c. lacks c.ghost.stored)
  by_parts (inl there) (inr lacks) pays none free = inr (λ c. lacks c.ghost.count)
  by_parts (inl there) (inl count) (inr lacks) none free = inr (λ c. lacks c.no_pays)
  by_parts (inl there) (inl count) (inl pays) (inr lacks) free = inr (λ c. lacks c.no_versions)
  by_parts (inl there) (inl count) (inl pays) (inl none) (inr lacks) = inr (λ c. lacks c.not_locked)
  by_parts (inl there) (inl count) (inl pays) (inl none) (inl free) = inl (record { ghost = record { stored = there; count = count }; no_pays = pays; no_versions = none; not_locked = free })

  cleanable_or_not : IsCleanable s place ⊎ (IsCleanable s place → ⊥)
  cleanable_or_not = by_parts (there_or_not (get s.view place)) (zero_or_not (fresh (schema_of s) (committed s).rows place 0)) no_pays_or_not no_versions_or_not not_locked_or_not

-- ---- the first of them

abbrev Stored : Type 0
Stored = Place × List ℤ

less : (o : Ordering) → T (is_lt o) → o ≡ Less
less Less h = refl
less Equal h = absurd h
less Greater h = absurd h

below_each : (place : Place) (es : List Stored) → T (below_all place_cmp place es) → (e : Stored) → Contains es e → place_cmp place e.0 ≡ Less
below_each place [] below e c = absurd (contains_none e c)
below_each place (d ∷ es) below e c = by_contains d es e c
    (λ same. subst (λ (x : Stored). place_cmp place x.0 ≡ Less) same (less (place_cmp place d.0) (left_one (is_lt (place_cmp place d.0)) (below_all place_cmp place es) below)))
    (λ later. below_each place es (right_one (is_lt (place_cmp place d.0)) (below_all place_cmp place es) below) e later)

module _ (s : Store) where
  -- of some entries the first that may be removed, or none may
  pub record FirstOf (es : List Stored) : Type 0 where
    pub place : Place
    pub is : IsCleanable s place
    pub first : (e : Stored) → Contains es e → IsCleanable s e.0 → place_cmp place e.0 ≢ Greater

  abbrev NoneOf : List Stored → Type 0
  NoneOf es = (e : Stored) → Contains es e → IsCleanable s e.0 → ⊥

  first_or_none : (es : List Stored) → T (is_sorted place_cmp es) → FirstOf es ⊎ NoneOf es
  first_or_none [] sorted = inr (λ e c is. contains_none e c)
  first_or_none (d ∷ es) sorted = by (cleanable_or_not s d.0) (first_or_none es (right_one (below_all place_cmp d.0 es) (is_sorted place_cmp es) sorted))
    where
      by : IsCleanable s d.0 ⊎ (IsCleanable s d.0 → ⊥) → FirstOf es ⊎ NoneOf es → FirstOf (d ∷ es) ⊎ NoneOf (d ∷ es)
      by (inl is) rest = inl (record {
        place = d.0;
        is = is;
        first = λ e c also. by_contains d es e c
            (λ same greater. let tied : place_cmp d.0 e.0 ≡ Equal = subst (λ (x : Stored). place_cmp d.0 x.0 ≡ Equal) same (tied_itself place_cmp_total d.0) in cc)
            (λ later greater. let up = below_each d.0 es (left_one (below_all place_cmp d.0 es) (is_sorted place_cmp es) sorted) e later in cc);
      })
      by (inr lacks) (inl f) = inl (record {
        place = f.place;
        is = f.is;
        first = λ e c also. by_contains d es e c (λ same. absurd (lacks (subst (λ (x : Stored). IsCleanable s x.0) (sym same) also))) (λ later. f.first e later also);
      })
      by (inr lacks) (inr none) = inr (λ e c is. by_contains d es e c (λ same. lacks (subst (λ (x : Stored). IsCleanable s x.0) (sym same) is)) (λ later. none e later is))

  -- a place whose row may be removed is that of an entry
  entry_of : (place : Place) → IsCleanable s place → (numbers : List ℤ) × Contains (entries s.view) (place, numbers)
  entry_of place c = go (get s.view place) refl c.ghost.stored
    where
      go : (o : Option (List ℤ)) → get s.view place ≡ o → IsSome o → (numbers : List ℤ) × Contains (entries s.view) (place, numbers)
      go None e there = absurd (cc)
      go (Some numbers) e there = (numbers, (Contains-entries place_cmp_total place_cmp-IsAntisymmetric s.view place numbers).1 e)

  pub first_cleanable_or_none : ((place : Place) × IsFirstCleanable s place) ⊎ ((place : Place) → IsCleanable s place → ⊥)
  first_cleanable_or_none = elim (first_or_none (entries s.view) (entries_sorted s.view)) [
    | inl f ↦ inl (f.place, record { is = f.is; first = λ other c. let e = entry_of other c in f.first (other, e.0) e.1 c })
    | inr none ↦ inr (λ place c. let e = entry_of place c in none (place, e.0) e.1 c)
  ]

-- ---- Clean

pub cleans : (s : State) (session : ℕ) → HasAnswer s session act.Clean
cleans s session = by (first_cleanable_or_none s.store)
  where
    with_room : (place : Place) → IsFirstCleanable s.store place → Within s.opening.log_limit (s.log.used + reserved s.store s.log + group_bytes place) ⊎ Above s.opening.log_limit (s.log.used + reserved s.store s.log + group_bytes place)
        → HasAnswer s session act.Clean
    with_room place first (inl fits) = record { said = answer.Cleaned 1; effects = Cleans place ∷ []; of_state = tt; says = (place, first, refl, fits) }
    with_room place first (inr full) = record {
      said = answer.Refused (refusal.LogFull s.log.used (reserved s.store s.log) (group_bytes place));
      effects = [];
      of_state = tt;
      says = (refl, place, first, refl, record { used_is = refl; reserved_is = refl; full = full });
    }

    by : ((place : Place) × IsFirstCleanable s.store place) ⊎ ((place : Place) → IsCleanable s.store place → ⊥) → HasAnswer s session act.Clean
    by (inl (place, first)) = with_room place first (within_or_above s.opening.log_limit (s.log.used + reserved s.store s.log + group_bytes place))
    by (inr none) = record { said = answer.Cleaned 0; effects = []; of_state = tt; says = (none, refl) }
