-- What a checkpoint carries, as the machine counts it, and that it can be carried.
use Rattle.std.specs.Prelude.{◌≡◌, ℕ, ◌+◌, List, [], ◌∷◌, ◌++◌, map, reverse, Option, None, Some, refl}
use Rattle.std.specs.Option.{unwrap_or}
use Rattle.std.specs.List.{All, AllByRecursion, sum}
use mathlib.Core.Path.{sym, ap, subst, ◌∙◌}
use Rattle.std.proofs.Common.{arith}
use Rattle.std.proofs.lemmas.List.{reverse-append}
use Rattle.std.proofs.lemmas.List.Elements.{All-from_recursion}
use Rattle.iv_types.specs.Definitions.{Definitions}
use Rattle.iv_types.specs.Maps.{Map}
use Rattle.iv_types.specs.declared.lock.GroupDelta.{GroupDelta}
use Rattle.iv_types.specs.declared.lock.KeptStep.{KeptStep as BookStep}
use Rattle.iv_types.specs.declared.lock.KeptStep.TheVariants as step
use Rattle.iv_meaning.specs.Objects as defined
use Rattle.iv_meaning.specs.Schema.{Schema}
use Rattle.txn_machine.specs.Keeping.{KeptStep, Put, Pay, Open, idle}
use Rattle.txn_machine.specs.Log.{Logged, carried}
use Rattle.txn_machine.specs.Records.{record_bytes, step_bytes, write_bytes, delta_bytes}
use Rattle.txn_machine.specs.State.{State}
use Rattle.txn_machine.specs.Store.{now, schema_of}
use Rattle.txn_machine.proofs.Good.{the_open}
use Rattle.txn_machine.proofs.LogSums.{sum_first, sum_same}
use Rattle.txn_log.specs.Replay.{Added}
use Rattle.txn_log.specs.Fitting.{IsChange, IsKnown}
use Rattle.txn_log.proofs.Defining.{sum_append}
use Rattle.txn_log.proofs.Tying.{whats_in, AllWhats}
use Rattle.txn_book.specs.Holding.{AreKept, IsSame}
use Rattle.txn_book.specs.Opens.{open_at}
use Rattle.txn_book.specs.Txns.{txn_of}
use Rattle.txn_book.specs.declared.open_table.Open.{Open as BookOpen}
use Rattle.record_lending.specs.Known.{IsOf}
use Rattle.record_lending.specs.Steps.{HasItsEntries, record_of}
use Rattle.core_state.specs.Rooms.{CanBeTakenBack}
use Rattle.core_state.specs.Stands.{Began}
use Rattle.core_state.specs.declared.state.CoreState.{CoreState}
use Rattle.core_recording.specs.Carrying.{steps_of, id_of, steps_at, steps_bytes, all_bytes, CanCarry, CanCarryAll}
use Rattle.core_checkpoints.proofs.KeptKnown.{kept_known}

-- ---- lists in the other order

sum_reversed : {X : Type 0} (f : X → ℕ) (xs : List X) → sum (map f (reverse xs)) ≡ sum (map f xs)
sum_reversed f [] = refl
sum_reversed {X} f (x ∷ xs) =
    let turned : sum (map f (reverse (x ∷ xs))) ≡ sum (map f (reverse xs ++ x ∷ [])) = ap (λ (l : List X). sum (map f l)) (reverse-append (x ∷ []) xs) in
    let parts : sum (map f (reverse xs ++ x ∷ [])) ≡ sum (map f (reverse xs)) + sum (map f (x ∷ [])) = sum_append f (reverse xs) (x ∷ []) in
    let rest : sum (map f (reverse xs)) ≡ sum (map f xs) = sum_reversed f xs in
    let one : sum (map f (x ∷ xs)) ≡ f x + sum (map f xs) = sum_first (f x) (map f xs) in
    let alone : sum (map f (x ∷ [])) ≡ f x + sum (map f []) = sum_first (f x) [] in
    omega (arith, turned, parts, rest, one, alone)

all_parts : {X : Type 0} (P : X → Type 0) (xs ys : List X) → AllByRecursion P (xs ++ ys) → AllByRecursion P xs × AllByRecursion P ys
all_parts P [] ys h = (tt, h)
all_parts P (x ∷ xs) ys h = let rest = all_parts P xs ys h.1 in ((h.0, rest.0), rest.1)

all_reversed : {X : Type 0} (P : X → Type 0) (xs : List X) → AllByRecursion P (reverse xs) → AllByRecursion P xs
all_reversed P [] h = tt
all_reversed P (x ∷ xs) h = let parts = all_parts P (reverse xs) (x ∷ []) (subst (AllByRecursion P) (reverse-append (x ∷ []) xs) h) in (parts.1.0, all_reversed P xs parts.0)

-- ---- the steps of one transaction

steps_as : (objects : Schema) (bs : List BookStep) (ks : List KeptStep) (ns : List ℕ) → AreKept bs ks ns → steps_bytes objects bs ≡ sum (map (step_bytes objects) ks)
steps_as objects [] [] [] h = refl
steps_as objects (step.Put k a b m ∷ bs) (Put c owed ∷ ks) (n ∷ ns) h =
    let one = sum_first (write_bytes objects (Rattle.txn_machine.specs.RowChanges.row_change k.change)) (map (λ x. record_bytes objects (record_of 0 x)) bs) in
    let other = sum_first (write_bytes objects c) (map (step_bytes objects) ks) in
    let same = ap (write_bytes objects) h.0 in
    let rest = steps_as objects bs ks ns h.2 in
    omega (arith, one, other, same, rest)
steps_as objects (step.Pay d before m ∷ bs) (Pay e ∷ ks) (n ∷ ns) h =
    let one = sum_first (delta_bytes d) (map (λ x. record_bytes objects (record_of 0 x)) bs) in
    let other = sum_first (delta_bytes e) (map (step_bytes objects) ks) in
    let same = ap delta_bytes h.0 in
    let rest = steps_as objects bs ks ns h.2 in
    omega (arith, one, other, same, rest)
steps_as objects [] (k ∷ ks) ns h = absurd h
steps_as objects [] [] (n ∷ ns) h = absurd h
steps_as objects (step.Put k a b m ∷ bs) [] ns h = absurd h
steps_as objects (step.Put k a b m ∷ bs) (Pay e ∷ ks) ns h = absurd h
steps_as objects (step.Put k a b m ∷ bs) (Put c owed ∷ ks) [] h = absurd h
steps_as objects (step.Pay d before m ∷ bs) [] ns h = absurd h
steps_as objects (step.Pay d before m ∷ bs) (Put c owed ∷ ks) ns h = absurd h
steps_as objects (step.Pay d before m ∷ bs) (Pay e ∷ ks) [] h = absurd h

entries_in : (definitions : Definitions) (bs : List BookStep) → CanBeTakenBack definitions bs → AllByRecursion (HasItsEntries definitions) bs
entries_in definitions [] h = tt
entries_in definitions (step.Put k a b m ∷ bs) h = (h.0, entries_in definitions bs h.2)
entries_in definitions (step.Pay d before m ∷ bs) h = (tt, entries_in definitions bs h.1)

kept_as : (objects : Schema) (b : Option BookOpen) (o : Option Open) (l : Logged) → IsSame objects b o l → steps_bytes objects (steps_of b) ≡ sum (map (step_bytes objects) (unwrap_or o idle).kept)
kept_as objects None None l h = refl
kept_as objects None (Some t) l h = absurd h
kept_as objects (Some b) None l h = absurd h
kept_as objects (Some b) (Some t) l h = sym (sum_reversed (λ k. record_bytes objects (record_of 0 k)) b.kept.items) ∙ steps_as objects (txn_of b).kept t.kept l.kept h.kept

-- definitions know what they say
known_as : (objects : Schema) (id : ℕ) (bs : List BookStep) (ks : List KeptStep) (ns : List ℕ) → AreKept bs ks ns → AllWhats (IsKnown objects) (whats_in ks) → AllByRecursion (λ b. IsOf objects (record_of id b)) bs
known_as objects id [] [] [] h k = tt
known_as objects id (step.Put x a b m ∷ bs) (Put c owed ∷ ks) (n ∷ ns) h k = (subst (IsChange objects) (sym h.0) k.0, known_as objects id bs ks ns h.2 k.1)
known_as objects id (step.Pay d before m ∷ bs) (Pay e ∷ ks) (n ∷ ns) h k = (subst (λ (x : GroupDelta). IsKnown objects (Added x)) (sym h.0) k.0, known_as objects id bs ks ns h.2 k.1)
known_as objects id [] (x ∷ ks) ns h k = absurd h
known_as objects id [] [] (n ∷ ns) h k = absurd h
known_as objects id (step.Put x a b m ∷ bs) [] ns h k = absurd h
known_as objects id (step.Put x a b m ∷ bs) (Pay e ∷ ks) ns h k = absurd h
known_as objects id (step.Put x a b m ∷ bs) (Put c owed ∷ ks) [] h k = absurd h
known_as objects id (step.Pay d before m ∷ bs) [] ns h k = absurd h
known_as objects id (step.Pay d before m ∷ bs) (Put c owed ∷ ks) ns h k = absurd h
known_as objects id (step.Pay d before m ∷ bs) (Pay e ∷ ks) [] h k = absurd h

both_of : (definitions : Definitions) (objects : Schema) (id : ℕ) (bs : List BookStep) → defined.schema_of definitions ≡ objects → AllByRecursion (HasItsEntries definitions) bs → AllByRecursion (λ b. IsOf objects (record_of id b)) bs
    → AllByRecursion (CanCarry definitions id) bs
both_of definitions objects id [] e h k = tt
both_of definitions objects id (b ∷ bs) e h k = ((h.0, subst (λ os. IsOf os (record_of id b)) (sym e) k.0), both_of definitions objects id bs e h.1 k.1)

known_all : (objects : Schema) (b : BookOpen) (o : Option Open) (l : Logged) → IsSame objects (Some b) o l → AllWhats (IsKnown objects) (whats_in (the_open o).kept) → AllByRecursion (λ x. IsOf objects (record_of b.id x)) (txn_of b).kept
known_all objects b None l h k = absurd h
known_all objects b (Some t) l h k = known_as objects b.id (txn_of b).kept t.kept l.kept h.kept k

-- ---- those of all sessions

module _ {M : Type 0} (maps : M → ℕ → Map) (spare : M → ℕ → ℕ) (limit : M → Option ℕ) (core : CoreState M) (s : State) (h : Began maps spare limit core s 0) where
  abbrev opens : List (Option BookOpen)
  opens = core.book.opens

  pub can_carry : CanCarryAll core.store.catalog opens
  can_carry j js = by (open_at opens j) refl
    where
      by : (b : Option BookOpen) → open_at opens j ≡ b → All (CanCarry core.store.catalog (id_of b)) (steps_of b)
      by None e = All-from_recursion (CanCarry core.store.catalog 0) [] tt
      by (Some b) e =
          All-from_recursion (CanCarry core.store.catalog b.id) b.kept.items
          (all_reversed (CanCarry core.store.catalog b.id) b.kept.items
          (both_of core.store.catalog (schema_of s.store) b.id (txn_of b).kept h.holds.stored.objects (entries_in core.store.catalog (txn_of b).kept (h.holds.rooms.each j js b e).kept)
          (known_all (schema_of s.store) b (s.store.open_of j) (s.log.logged j)
          (subst (λ (x : Option BookOpen). IsSame (schema_of s.store) x (s.store.open_of j) (s.log.logged j)) e (h.holds.book.txns j js)) (kept_known s h.reached j js))))

  pub carried_here : all_bytes (defined.schema_of core.store.catalog) opens ≡ carried s.store
  unfolding all_bytes
  carried_here =
      ap (λ (os : Schema). all_bytes os opens) h.holds.stored.objects
      ∙ sum_same 64 (λ j. sum (map (step_bytes (schema_of s.store)) (now s.store j).kept)) (λ j. steps_bytes (schema_of s.store) (steps_at opens j))
      (λ j low high. kept_as (schema_of s.store) (open_at opens j) (s.store.open_of j) (s.log.logged j) (h.holds.book.txns j (low, high)))
