-- How many changes a session's transaction keeps.
use Rattle.std.specs.Prelude.{◌≡◌, ℕ, ◌+◌, ◌*◌, ◌≤◌, List, [], ◌∷◌, map, length, Option, None, Some, refl}
use Rattle.std.specs.Option.{unwrap_or}
use Rattle.std.specs.List.{sum}
use mathlib.Core.Path.{ap}
use Rattle.std.proofs.Common.{arith}
use Rattle.std.proofs.lemmas.List.Sums.{sum_by-cons}
use Rattle.iv_types.specs.Maps.{Map}
use Rattle.iv_types.specs.declared.lock.GroupDelta.{GroupDelta}
use Rattle.iv_meaning.specs.Schema.{Schema}
use Rattle.iv_meaning.specs.Escrow.{IsSession}
use Rattle.txn_machine.specs.Counts.{kept_size, put_size, delta_size, note_size, most_of_transaction}
use Rattle.txn_machine.specs.Keeping.{KeptStep, Put, Pay, changes_of, Open, idle, IsSettled}
use Rattle.txn_machine.specs.Log.{Log}
use Rattle.txn_machine.specs.Store.{Store, schema_of, now, changes_by}
use Rattle.txn_book.specs.Holding.{IsSame}
use Rattle.txn_book.specs.Opens.{open_at}
use Rattle.txn_book.specs.declared.open_table.Open.{Open as BookOpen}
use Rattle.core_state.specs.Stands.{Holds, Texts}
use Rattle.core_state.specs.declared.state.CoreState.{CoreState}

pub many_deltas : (ds : List GroupDelta) → 128 * length ds ≤ sum (map delta_size ds)
many_deltas [] = omega arith
many_deltas (d ∷ ds) = omega (arith, many_deltas ds, sum_by-cons (λ n. n) (delta_size d) (map delta_size ds))

-- each counts
pub changes_few : (objects : Schema) (ks : List KeptStep) → 128 * length (changes_of ks) ≤ sum (map (kept_size objects) ks)
changes_few objects [] = omega arith
changes_few objects (Put c ds ∷ ks) = omega (arith, changes_few objects ks, sum_by-cons (λ n. n) (put_size objects c ds) (map (kept_size objects) ks))
changes_few objects (Pay d ∷ ks) = omega (arith, changes_few objects ks, sum_by-cons (λ n. n) 0 (map (kept_size objects) ks))

-- and so does each delta that is owed
pub kept_few : (objects : Schema) (ks : List KeptStep) (owed : List GroupDelta) → IsSettled ks owed → 128 * (length ks + length owed) ≤ sum (map (kept_size objects) ks)
kept_few objects [] owed h = let none : length owed ≡ 0 = ap length h in omega (arith, none)
kept_few objects (Pay d ∷ ks) owed h = let rest : 128 * (length ks + length (d ∷ owed)) ≤ sum (map (kept_size objects) ks) = kept_few objects ks (d ∷ owed) h in omega (arith, rest, sum_by-cons (λ n. n) 0 (map (kept_size objects) ks))
kept_few objects (Put c ds ∷ ks) owed h =
    let same : length owed ≡ length ds = ap length h.0 in
    let rest : 128 * (length ks + 0) ≤ sum (map (kept_size objects) ks) = kept_few objects ks [] h.1 in
    omega (arith, same, rest, many_deltas ds, sum_by-cons (λ n. n) (put_size objects c ds) (map (kept_size objects) ks))

module _ {M : Type 0} (maps : M → ℕ → Map) (spare : M → ℕ → ℕ) (limit : M → Option ℕ) (core : CoreState M) (s : Store) (l : Log) (texts : Texts) (h : Holds maps spare limit core s l texts) where
  -- what it keeps and owes
  pub steps_few : (j : ℕ) → IsSession j → IsSettled (now s j).kept (now s j).owed → length (now s j).kept + length (now s j).owed ≤ 524288
  steps_few j js = by (open_at core.book.opens j) (s.open_of j) refl (h.book.txns j js)
    where
      by : (o : Option BookOpen) (m : Option Open) → open_at core.book.opens j ≡ o → IsSame (schema_of s) o m (l.logged j) → IsSettled (unwrap_or m idle).kept (unwrap_or m idle).owed → length (unwrap_or m idle).kept + length (unwrap_or m idle).owed ≤ 524288
      by None None there same settled = omega arith
      by None (Some u) there same settled = absurd same
      by (Some o) None there same settled = absurd same
      by (Some o) (Some u) there same settled =
          let small : o.txn_bytes ≤ most_of_transaction = (h.rooms.each j js o there).small in
          let bytes : o.txn_bytes ≡ sum (map (note_size (schema_of s)) u.notes) + sum (map (kept_size (schema_of s)) u.kept) = same.txn_bytes in
          let few = kept_few (schema_of s) u.kept u.owed settled in
          omega (arith, small, bytes, few)

  -- its changes
  pub session_few : (j : ℕ) → IsSession j → length (changes_by s j) ≤ 524288
  session_few j js = by (open_at core.book.opens j) (s.open_of j) refl (h.book.txns j js)
    where
      by : (o : Option BookOpen) (m : Option Open) → open_at core.book.opens j ≡ o → IsSame (schema_of s) o m (l.logged j) → length (changes_of (unwrap_or m idle).kept) ≤ 524288
      by None None there same = omega arith
      by None (Some u) there same = absurd same
      by (Some o) None there same = absurd same
      by (Some o) (Some u) there same =
          let small : o.txn_bytes ≤ most_of_transaction = (h.rooms.each j js o there).small in
          let bytes : o.txn_bytes ≡ sum (map (note_size (schema_of s)) u.notes) + sum (map (kept_size (schema_of s)) u.kept) = same.txn_bytes in
          let few = changes_few (schema_of s) u.kept in
          omega (arith, small, bytes, few)
