-- Moves of snapshots and of the cleaner: a read at a number, the removal of a ghost, and the drop of versions.
use Rattle.std.specs.Prelude.{◌≡◌, ℕ, zero, suc, ◌≤◌, ◌==◌, nat_le, cond, Bool, true, false, not, ◌&&◌, ◌||◌, T, List, [], ◌∷◌, ◌++◌, ℤ, pos, negsuc, Option, Some, None, is_some, IsSome}
use Rattle.std.specs.List.{Contains}
use mathlib.Core.Path.{refl, sym, ap, subst, ◌∙◌}
use mathlib.Core.Logic.{inl, inr}
use Rattle.std.proofs.Common.{arith, eq-eqb}
use Rattle.std.specs.declared.cmp.Ordering.{Ordering}
use Rattle.std.specs.declared.cmp.Ordering.TheVariants.{Less, Equal, Greater}
use Rattle.std.specs.FinMap.{get, find}
use Rattle.std.specs.Ordering.{eq_by_cmp, is_eq}
use Rattle.iv_types.specs.declared.statement.Mode.{Mode}
use Rattle.iv_types.specs.declared.statement.Mode.TheVariants.{Serial, Snapshot}
use Rattle.iv_types.specs.declared.lock.GroupDelta.{GroupDelta}
use Rattle.iv_types.specs.declared.lock.LockMode.{LockMode}
use Rattle.iv_types.specs.declared.lock.LockMode.TheVariants.{Increment}
use Rattle.iv_types.specs.declared.lock.Want.{Want}
use Rattle.iv_types.specs.declared.value.Interval.{Interval}
use Rattle.table_laws.specs.Place.{Place, place_cmp}
use Rattle.table_laws.proofs.Place.{place_cmp-IsAntisymmetric}
use Rattle.iv_meaning.specs.Schema.{Schema, Object, table, index, view, numbered}
use Rattle.iv_meaning.specs.Database.{Row, Rows, Database}
use Rattle.iv_meaning.specs.History.{Entry, fold, state_at}
use Rattle.iv_meaning.specs.Statement.{Kept, sets, defines}
use Rattle.iv_types.specs.Encoding.{lies_in}
use Rattle.iv_meaning.specs.View.{read}
use Rattle.txn_machine.specs.Acts as act
use Rattle.txn_machine.specs.Answers as answer
use Rattle.txn_machine.specs.Deltas.{is_for}
use Rattle.txn_machine.specs.Keeping.{increments}
use Rattle.txn_machine.specs.Fresh.{fresh}
use Rattle.txn_machine.specs.Stored.{ViewRows}
use Rattle.txn_machine.specs.Store.{Store, committed, least_snapshot, entry_deltas, deltas_above, Cleans, Prunes}
use Rattle.txn_machine.specs.Ghosts.{the_views, Holds, IsCleanable, versions}
use Rattle.txn_machine.specs.State.{counted}
use Rattle.txn_machine.specs.May.{MayPeek}
use Rattle.txn_machine.specs.Steps.{Step, log_after}
use Rattle.txn_machine.proofs.Holding.{contains_here, contains_next}
use Rattle.txn_machine.proofs.PlainStates.{set_in, bare, Plain, state_of, kept_in, kept_objects, rows_after, objects_after, base, schema, number_after, number_of, txn, fresh_in, each_to, each_of, is_serial, is_nil, is_zero, is_increment, goes_on, holds_in, history_by, kept_deltas, deltas_in, versions_in, is_cleanable}
use Rattle.txn_machine.proofs.Playing.{may_peek, said_of, test, after, peeks, cleans_none, cleans, prunes, saves}
use Rattle.txn_machine.proofs.Tabled.{InOrder, get_is, write_is, set_sorted, kept_sorted, rows_sorted, with_rows, keeps_is, fold_is, origin_is, base_sorted, committed_is, read_is, owed_is, fresh_is}
use Rattle.txn_machine.proofs.Testing.{is_true, holds, left_one, right_one, both, either, not_so, not_that, equal, nil_is, each_so, each_in, some_in}
use Rattle.txn_machine.proofs.MovesAlone.{Sorted, step, of_db, number_is, log_room, going, holds_so}

-- ---- tests of the cleaner

each_all : (n : ℕ) (f : ℕ → Bool) → ((i : ℕ) → 1 ≤ i → i ≤ n → T (f i)) → T (each_to n f)
each_all zero f h = tt
each_all (suc n) f h = both (f (suc n)) (each_to n f) (h (suc n) (omega arith) (omega arith)) (each_all n f (λ i l m. h i l (omega (arith, m))))

each_there : {X : Type 0} (f : X → Bool) (xs : List X) → ((x : X) → Contains xs x → T (f x)) → T (each_of f xs)
each_there f [] h = tt
each_there f (x ∷ xs) h = both (f x) (each_of f xs) (h x (contains_here x xs)) (each_there f xs (λ y c. h y (contains_next x xs y c)))

equal_is : (o : Ordering) → T (is_eq o) → o ≡ Equal
equal_is Less h = absurd h
equal_is Equal h = refl
equal_is Greater h = absurd h

-- what holds of each stored place
stored_each : {X : Type 0} (f : Place → Bool) (k : Place) (l : List (Place × X)) → T (each_of (λ e. f e.0) l) → T (is_some (find place_cmp k l)) → T (f k)
stored_each f k [] h s = absurd s
stored_each f k (e ∷ es) h s =
    elim (eq_by_cmp place_cmp k e.0) as (λ b. eq_by_cmp place_cmp k e.0 ≡ b → T (is_some (cond b (Some e.1) (find place_cmp k es))) → T (f k)) [
      | true ↦ λ t u. subst (λ (x : Place). T (f x)) (sym (place_cmp-IsAntisymmetric k e.0 (equal_is (place_cmp k e.0) (holds (eq_by_cmp place_cmp k e.0) t)))) (left_one (f e.0) (each_of (λ e. f e.0) es) h)
      | false ↦ λ t u. stored_each f k es (right_one (f e.0) (each_of (λ e. f e.0) es) h) u
    ] refl s

zero_is : (z : ℤ) → T (is_zero z) → z ≡ pos 0
zero_is (pos zero) h = refl
zero_is (pos (suc n)) h = absurd h
zero_is (negsuc n) h = absurd h

zero_so : (z : ℤ) → z ≡ pos 0 → T (is_zero z)
zero_so z e = subst (λ x. T (is_zero x)) (sym e) tt

nil_so : {X : Type 0} (xs : List X) → xs ≡ [] → T (is_nil xs)
nil_so xs e = subst (λ l. T (is_nil l)) (sym e) tt

increment_so : (m : LockMode) → m ≡ Increment → T (is_increment m)
increment_so m e = subst (λ x. T (is_increment x)) (sym e) tt

holds_back : (locks : List Want) (k : Place) → Holds locks Increment k.0 k.1 → T (holds_in locks k)
holds_back locks k h =
    some_in (λ l. is_increment l.mode && ((l.index == k.0) && lies_in k.1 l.interval)) locks h.lock h.held
    (both (is_increment h.lock.mode) ((h.lock.index == k.0) && lies_in k.1 h.lock.interval) (increment_so h.lock.mode h.mode_is)
    (both (h.lock.index == k.0) (lies_in k.1 h.lock.interval) (holds (h.lock.index == k.0) (eq-eqb h.lock.index k.0 h.index_is)) (holds (lies_in k.1 h.lock.interval) h.covers)))

-- ---- versions

kept_deltas_are : (ks : List Kept) (n : ℕ) (objects : Schema) (l : List (Place × Row)) → InOrder l → entry_deltas the_views (with_rows n objects l) ks ≡ kept_deltas objects l ks
kept_deltas_are [] n objects l h = refl
kept_deltas_are (sets c ∷ ks) n objects l h = λ j.
    owed_is objects l c h j ++ (ap (λ (m : Rows). entry_deltas the_views (record { number = n; schema = objects; rows = m }) ks) (write_is c.key c.after l h)
    ∙ kept_deltas_are ks n objects (set_in c.key c.after l) (set_sorted c.key c.after l h)) j
kept_deltas_are (defines o ∷ ks) n objects l h = kept_deltas_are ks n (objects ++ o ∷ []) l h

deltas_are : (mark : ℕ) (es : List Entry) (n : ℕ) (objects : Schema) (l : List (Place × Row)) → InOrder l → deltas_above the_views mark (with_rows n objects l) es ≡ deltas_in mark objects l es
deltas_are mark [] n objects l h = refl
deltas_are mark (e ∷ es) n objects l h =
    let later = ap (λ (db : Database). deltas_above the_views mark (record db { number = e.number }) es) (keeps_is e.kept n objects l h)
    ∙ deltas_are mark es e.number (kept_objects e.kept objects) (kept_in e.kept l) (kept_sorted e.kept l h) in
    λ j. cond (nat_le e.number mark) (later j) (kept_deltas_are e.kept n objects l h j ++ later j)

-- ---- the database at a number

at_is : (p : Plain) (n : ℕ) → state_at (bare p.number p.objects) p.history n ≡ with_rows (number_after (history_by p n) p.number) (objects_after (history_by p n) p.objects) (rows_after (history_by p n) [])
at_is p n = ap (fold (history_by p n)) (origin_is p.number p.objects) ∙ fold_is (history_by p n) p.number p.objects [] tt

snapshot_is : (m : Mode) → T (not (is_serial m)) → m ≡ Snapshot
snapshot_is Serial h = absurd h
snapshot_is Snapshot h = refl

may_peek_so : (o : Option Object) → T (may_peek o) → MayPeek o
may_peek_so None h = absurd h
may_peek_so (Some (table t)) h = tt
may_peek_so (Some (index i)) h = absurd h
may_peek_so (Some (view v)) h = tt

module _ (p : Plain) (i : ℕ) (sorted : Sorted p) (session : i ≤ 64) where
  pub peeks_so : (number : ℕ) (interval : Interval) → T (test p i (peeks number interval)) → Step (state_of p) i (act.Peek number interval) (said_of p i (peeks number interval)) (state_of (after p i (peeks number interval)))
  peeks_so number interval h =
      let n : ℕ = (txn p i).number in
      let old : Bool = not (is_serial (txn p i).mode) in
      let may : Bool = may_peek (numbered (schema p) number) in
      let more = right_one (goes_on p i) (old && may) h in
      step p i sorted session (act.Peek number interval) (said_of p i (peeks number interval)) [] (state_of (after p i (peeks number interval))) (
        going p i sorted session Snapshot (left_one (goes_on p i) (old && may) h) (snapshot_is (txn p i).mode (left_one old may more)),
        of_db p i sorted session (λ db. MayPeek (numbered db.schema number)) (may_peek_so (numbered (schema p) number) (right_one old may more)),
      ) (
        ap (λ (db : Database). read db number interval) (at_is p n)
            ∙ read_is (number_after (history_by p n) p.number) (objects_after (history_by p n) p.objects) (rows_after (history_by p n) []) number interval (rows_sorted (history_by p n) [] tt),
        refl,
      )
      refl

  -- ---- Clean and Prune

  abbrev s : Store
  s = (state_of p).store

  abbrev counts : Place → Bool
  counts k = is_zero (fresh_in (schema p) (base p) k 0)

  abbrev unpaid : Place → Bool
  unpaid k = each_to 64 (λ j. is_nil (increments k 0 (txn p j).kept))

  abbrev unkept : Place → Bool
  unkept k = each_of (λ d. not (is_for k d)) (versions_in p)

  abbrev unlocked : Place → Bool
  unlocked k = each_to 64 (λ j. not (holds_in (txn p j).locks k))

  count_is : (k : Place) → fresh (committed s).schema (committed s).rows k 0 ≡ fresh_in (schema p) (base p) k 0
  count_is k = ap (λ (db : Database). fresh db.schema db.rows k 0) (committed_is p) ∙ fresh_is (schema p) (base p) k 0 (base_sorted p)

  versions_are : versions s ≡ versions_in p
  versions_are = ap (λ (db : Database). deltas_above the_views p.of.store.mark db p.history) (origin_is p.number p.objects) ∙ deltas_are p.of.store.mark p.history p.number p.objects [] tt

  -- what is stored has its place in the list
  stored_there : (k : Place) → IsSome (get s.view k) → T (is_some (find place_cmp k p.view))
  stored_there k h = holds (is_some (find place_cmp k p.view)) (ap is_some (sym (get_is p.view k sorted.view)) ∙ h)

  cleanable_so : (k : Place) → IsCleanable s k → T (is_cleanable p k)
  cleanable_so k c =
      both (counts k) (unpaid k && (unkept k && unlocked k)) (zero_so (fresh_in (schema p) (base p) k 0) (sym (count_is k) ∙ c.ghost.count))
      (both (unpaid k) (unkept k && unlocked k) (each_all 64 (λ j. is_nil (increments k 0 (txn p j).kept)) (λ j l m. nil_so (increments k 0 (txn p j).kept) (c.no_pays j (l, m))))
      (both (unkept k) (unlocked k)
      (each_there (λ d. not (is_for k d)) (versions_in p) (λ d there. not_that (is_for k d) (λ t. c.no_versions d (subst (λ (l : List GroupDelta). Contains l d) (sym versions_are) there) (is_true (is_for k d) t))))
      (each_all 64 (λ j. not (holds_in (txn p j).locks k)) (λ j l m. not_that (holds_in (txn p j).locks k) (λ t. c.not_locked j (l, m) (holds_so p i sorted session (txn p j).locks k t))))))

  cleanable_is : (k : Place) → T (is_some (find place_cmp k p.view)) → T (is_cleanable p k) → IsCleanable s k
  cleanable_is k stored h =
      let h1 = right_one (counts k) (unpaid k && (unkept k && unlocked k)) h in
      let h2 = right_one (unpaid k) (unkept k && unlocked k) h1 in
      record {
        ghost = record {
          stored = ap is_some (get_is p.view k sorted.view) ∙ is_true (is_some (find place_cmp k p.view)) stored;
          count = count_is k ∙ zero_is (fresh_in (schema p) (base p) k 0) (left_one (counts k) (unpaid k && (unkept k && unlocked k)) h);
        };
        no_pays = λ j is. nil_is (increments k 0 (txn p j).kept) (each_so 64 (λ j. is_nil (increments k 0 (txn p j).kept)) j (left_one (unpaid k) (unkept k && unlocked k) h1) is.0 is.1);
        no_versions = λ d there t. not_so (is_for k d) (each_in (λ d. not (is_for k d)) (versions_in p) d (left_one (unkept k) (unlocked k) h2) (subst (λ (l : List GroupDelta). Contains l d) versions_are there)) (holds (is_for k d) t);
        not_locked = λ j is held. not_so (holds_in (txn p j).locks k) (each_so 64 (λ j. not (holds_in (txn p j).locks k)) j (right_one (unkept k) (unlocked k) h2) is.0 is.1) (holds_back (txn p j).locks k held);
      }

  pub none_cleanable : T (each_of (λ e. not (is_cleanable p e.0)) p.view) → (k : Place) → IsCleanable s k → ⊥
  none_cleanable h k c = not_so (is_cleanable p k) (stored_each (λ x. not (is_cleanable p x)) k p.view h (stored_there k c.ghost.stored)) (cleanable_so k c)

  pub cleans_none_so : T (test p i cleans_none) → Step (state_of p) i act.Clean (answer.Cleaned 0) (state_of (after p i cleans_none))
  cleans_none_so h =
      let none : Bool = each_of (λ e. not (is_cleanable p e.0)) p.view in
      step p i sorted session act.Clean (answer.Cleaned 0) [] (state_of (after p i cleans_none))
      (equal i 0 (left_one (i == 0) none h))
      (none_cleanable (right_one (i == 0) none h), refl)
      refl

  pub cleans_so : (k : Place) → T (test p i (cleans k)) → Step (state_of p) i act.Clean (answer.Cleaned 1) (state_of (after p i (cleans k)))
  cleans_so k h =
      let is_stored : Bool = is_some (find place_cmp k p.view) in
      let alone : Bool = each_of (λ e. not (is_cleanable p e.0) || eq_by_cmp place_cmp k e.0) p.view in
      let h1 = right_one (i == 0) (is_stored && (is_cleanable p k && alone)) h in
      let h2 = right_one is_stored (is_cleanable p k && alone) h1 in
      step p i sorted session act.Clean (answer.Cleaned 1) (Cleans k ∷ []) (state_of (after p i (cleans k)))
      (equal i 0 (left_one (i == 0) (is_stored && (is_cleanable p k && alone)) h)) (
        k,
        record {
          is = cleanable_is k (left_one is_stored (is_cleanable p k && alone) h1) (left_one (is_cleanable p k) alone h2);
          first = λ other c greater. elim (either (not (is_cleanable p other)) (eq_by_cmp place_cmp k other) (stored_each (λ x. not (is_cleanable p x) || eq_by_cmp place_cmp k x) other p.view (right_one (is_cleanable p k) alone h2) (stored_there other c.ghost.stored))) [
            | inl n ↦ not_so (is_cleanable p other) n (cleanable_so other c)
            | inr e ↦ absurd (cc (sym greater ∙ equal_is (place_cmp k other) e))
          ];
        },
        refl,
        log_room p i sorted session _,
      )
      (ap (λ (v : ViewRows). counted (state_of p) i act.Clean (answer.Cleaned 1) (record s { view = v }) [] (state_of p).definitions (log_after (state_of p) i act.Clean (answer.Cleaned 1) (Cleans k ∷ []))) (sym (write_is k None p.view sorted.view)))

  pub prunes_so : T (test p i prunes) → Step (state_of p) i act.Prune answer.Pruned (state_of (after p i prunes))
  prunes_so h = step p i sorted session act.Prune answer.Pruned (Prunes ∷ []) (state_of (after p i prunes)) (equal i 0 h) refl
      (ap (λ (n : ℕ). counted (state_of p) i act.Prune answer.Pruned (record s { mark = least_snapshot s.open_of 64 n }) [] (state_of p).definitions (log_after (state_of p) i act.Prune answer.Pruned (Prunes ∷ []))) (number_is p i sorted session))

  pub saves_so : T (test p i saves) → Step (state_of p) i act.Checkpoint (answer.Saved (number_of p)) (state_of (after p i saves))
  saves_so h = step p i sorted session act.Checkpoint (answer.Saved (number_of p)) [] (state_of (after p i saves)) (equal i 0 h) (refl, number_is p i sorted session) refl
