-- What a Fetch is answered is what is read of the meaning: its numbers are in range, so that it is refused nowhere.
use Rattle.std.specs.Prelude.{◌≡◌, ℕ, List, [], ℤ, pos, ◌+ℤ◌, ◌≤ℤ◌}
use mathlib.Core.Path.{refl, sym, ap, subst, ◌∙◌}
use Rattle.std.proofs.Common.{arith}
use Rattle.std.proofs.lemmas.Int.{ints}
use Rattle.iv_types.specs.Encoding.{IsHuge}
use Rattle.table_laws.specs.Place.{Place}
use Rattle.table_laws.specs.Kept.{redo}
use Rattle.table_laws.proofs.Stored.{by_session}
use Rattle.iv_meaning.specs.Escrow.{IsSession, over_sessions, paid, lo, hi}
use Rattle.txn_machine.specs.Deltas.{due}
use Rattle.txn_machine.specs.Keeping.{increments, IsSettled}
use Rattle.txn_machine.specs.Fresh.{fresh}
use Rattle.txn_machine.specs.Locks.{with_one}
use Rattle.txn_machine.specs.Store.{Store, committed, schema_of, now, changes_by}
use Rattle.txn_machine.specs.Ghosts.{the_views}
use Rattle.txn_machine.specs.Laws.{InRangeLaw, FetchLaw}
use Rattle.txn_machine.proofs.Basics.{one_same, one_other}
use Rattle.txn_machine.proofs.Columns.{paid_in, owes_in, settled_sum}
use Rattle.txn_machine.proofs.Bounds.{over_at_most, signs, all_low, all_high, huge_inside}
use Rattle.txn_machine.proofs.Good.{value-redo, base_sound}
use Rattle.txn_machine.proofs.Looking.{view_laws}
use Rattle.txn_machine.proofs.Framing.{over_one}
use Rattle.txn_machine.proofs.Reached.{Holds', reached}
use Rattle.txn_machine.proofs.Stories.{fetched}

-- ---- numbers in range

module _ (s : Store) (g : Holds' s) (p : Place) (column : ℕ) where
  abbrev base : ℤ
  base = fresh (schema_of s) (committed s).rows p column

  abbrev kept_by : ℕ → List ℤ
  kept_by j = increments p column (now s j).kept

  pub committed_huge : IsHuge base
  committed_huge =
      let low : over_sessions (λ j. lo (kept_by j)) ≤ℤ pos 0 = all_low kept_by in
      let high : pos 0 ≤ℤ over_sessions (λ j. hi (kept_by j)) = all_high kept_by in
      huge_inside (base +ℤ over_sessions (λ j. lo (kept_by j))) base (base +ℤ over_sessions (λ j. hi (kept_by j))) (g.low p column) (omega (arith, ints, low)) (omega (arith, ints, high)) (g.high p column)

  module _ (i : ℕ) (is : IsSession i) (none : (now s i).owed ≡ []) where
    -- what the session paid, and 0 for the others
    abbrev own_alone : ℕ → ℤ
    own_alone j = with_one (λ (k : ℕ). pos 0) i (paid (kept_by i)) j

    alone_is : over_sessions own_alone ≡ paid (kept_by i)
    alone_is = over_one own_alone i is (λ j js n. one_other (λ (k : ℕ). pos 0) i (paid (kept_by i)) j n) ∙ one_same (λ (k : ℕ). pos 0) i (paid (kept_by i)) i refl

    own_huge : IsHuge (fresh (schema_of s) (redo (changes_by s i) (committed s).rows) p column)
    own_huge =
        let t = g.each i is in
        let own : ℤ = fresh (schema_of s) (redo (changes_by s i) (committed s).rows) p column in
        let redone : own ≡ base +ℤ owes_in p column (now s i).kept =
        value-redo the_views fresh view_laws (schema_of s) (committed s).rows (now s i).kept p column (base_sound the_views fresh view_laws (committed s) s g) t.proper (g.stored.told i is) t.told in
        let settled : paid_in p column (now s i).kept +ℤ due p column [] ≡ owes_in p column (now s i).kept = settled_sum p column (now s i).kept [] (subst (IsSettled (now s i).kept) none t.settled) in
        let low : over_sessions (λ j. lo (kept_by j)) ≤ℤ over_sessions own_alone = over_at_most (λ j. lo (kept_by j)) own_alone (λ j. by_session j i
        (λ e. subst (λ x. lo (kept_by j) ≤ℤ x) (ap (λ k. paid (kept_by k)) e ∙ sym (one_same (λ (k : ℕ). pos 0) i (paid (kept_by i)) j e)) (signs (kept_by j)).1)
        (λ n. subst (λ x. lo (kept_by j) ≤ℤ x) (sym (one_other (λ (k : ℕ). pos 0) i (paid (kept_by i)) j n)) (signs (kept_by j)).0)) in
        let high : over_sessions own_alone ≤ℤ over_sessions (λ j. hi (kept_by j)) = over_at_most own_alone (λ j. hi (kept_by j)) (λ j. by_session j i
        (λ e. subst (λ x. x ≤ℤ hi (kept_by j)) (ap (λ k. paid (kept_by k)) e ∙ sym (one_same (λ (k : ℕ). pos 0) i (paid (kept_by i)) j e)) (signs (kept_by j)).3)
        (λ n. subst (λ x. x ≤ℤ hi (kept_by j)) (sym (one_other (λ (k : ℕ). pos 0) i (paid (kept_by i)) j n)) (signs (kept_by j)).2)) in
        let alone : over_sessions own_alone ≡ paid_in p column (now s i).kept = alone_is in
        huge_inside (base +ℤ over_sessions (λ j. lo (kept_by j))) own (base +ℤ over_sessions (λ j. hi (kept_by j))) (g.low p column)
        (omega (arith, ints, redone, settled, low, alone)) (omega (arith, ints, redone, settled, high, alone)) (g.high p column)

pub in_range_law : InRangeLaw
in_range_law s r = (
  λ p column. committed_huge s.store (reached s r) p column,
  λ i is none p column. own_huge s.store (reached s r) p column i is none,
)

-- ---- what is read

pub fetch_law : FetchLaw
fetch_law s r i number interval mode rows after step = fetched s r i number interval mode rows after step
