-- The sums on the way of what a transaction paid to a column stay in range.
use Rattle.std.specs.Prelude.{◌≡◌, ℕ, ◌<◌, ◌+◌, cond, true, false, List, [], ◌∷◌, ℤ, pos, ◌+ℤ◌, length, int_lt, Option, Some, None}
use mathlib.Core.Path.{refl, sym, subst}
use Rattle.std.proofs.Common.{arith}
use Rattle.std.proofs.lemmas.Int.{ints}
use Rattle.std.proofs.lemmas.List.{get_or_past}
use Rattle.iv_types.specs.declared.lock.GroupDelta.{GroupDelta}
use Rattle.iv_types.specs.Encoding.{IsHuge}
use Rattle.table_laws.specs.Place.{Place}
use Rattle.iv_meaning.specs.Escrow.{paid, lo, hi}
use Rattle.txn_machine.specs.Locks.{with_one}
use Rattle.txn_machine.specs.Deltas.{place_of, is_for, worth, columns_of}
use Rattle.txn_machine.specs.Keeping.{KeptStep, Put, Pay, increments, Open, begun}
use Rattle.txn_machine.specs.Fresh.{fresh}
use Rattle.txn_machine.specs.Ghosts.{the_views}
use Rattle.txn_machine.specs.Store.{Store, committed, now, notes_before, paid_first, undone, Effect, Opens, Takes, Notes, Writes, Pays, Ghosts, Undoes, Loses, Ends, Commits, Defines, Cleans, Prunes, does}
use Rattle.txn_machine.specs.KeptLaws.{PrefixLaw}
use Rattle.txn_machine.proofs.Basics.{after_all}
use Rattle.txn_machine.proofs.Bounds.{signs, lo_more, hi_more, lo_zero, hi_zero, huge_inside}
use Rattle.txn_machine.proofs.Columns.{is_for_place}
use Rattle.txn_machine.proofs.Good.{the_open}
use Rattle.txn_machine.proofs.Keeps.{by_less, shift}
use Rattle.txn_machine.proofs.Runs.{CanPay}
use Rattle.txn_machine.proofs.Looking.{view_laws}
use Rattle.txn_machine.proofs.Telling.{Good', Can'}
use Rattle.txn_machine.proofs.Always.{always}

abbrev IsIn : List ℤ → Type 0
IsIn ds = IsHuge (lo ds) × IsHuge (hi ds)

abbrev AreIn : List KeptStep → Type 0
AreIn ks = (p : Place) (column : ℕ) → IsIn (increments p column ks)

none_in : IsIn []
none_in = let zero : IsHuge (pos 0) = (omega (arith, ints), λ e. absurd (cc)) in (zero, zero)

-- with one increment more, which leaves its sum in range
more_in : (d : ℤ) (ds : List ℤ) → IsHuge (paid (d ∷ ds)) → IsIn ds → IsIn (d ∷ ds)
more_in d ds h i = (
  elim (int_lt (paid ds +ℤ d) (lo ds)) as (λ b. IsHuge (cond b (paid ds +ℤ d) (lo ds))) [ true ↦ h | false ↦ i.0 ],
  elim (int_lt (paid ds +ℤ d) (hi ds)) as (λ b. IsHuge (cond b (hi ds) (paid ds +ℤ d))) [ true ↦ i.1 | false ↦ h ],
)

-- with the latest taken back
less_in : (d : ℤ) (ds : List ℤ) → IsIn (d ∷ ds) → IsIn ds
less_in d ds i =
    let s = signs ds in (
      huge_inside (lo (d ∷ ds)) (lo ds) (hi (d ∷ ds)) i.0 (lo_more d ds) (let more = hi_more d ds in let low = s.0 in let high = s.2 in omega (arith, ints)) i.1,
      huge_inside (lo (d ∷ ds)) (hi ds) (hi (d ∷ ds)) i.0 (let more = lo_more d ds in let low = s.0 in let high = s.2 in omega (arith, ints)) (hi_more d ds) i.1,
    )

pay_in : (d : GroupDelta) (ks : List KeptStep) → ((column : ℕ) → column < length (columns_of d) → IsHuge (paid (worth column d ∷ increments (place_of d) column ks))) → AreIn ks → AreIn (Pay d ∷ ks)
pay_in d ks allowed h p column = elim (is_for p d) as (λ b. is_for p d ≡ b → IsIn (cond b (worth column d ∷ increments p column ks) (increments p column ks))) [
  | true ↦ λ e. subst (λ (q : Place). IsIn (worth column d ∷ increments q column ks)) (sym (is_for_place p d e))
      (by_less column (length (columns_of d))
      (λ l. more_in (worth column d) (increments (place_of d) column ks) (allowed column l) (h (place_of d) column))
      (λ m.
      let zero : worth column d ≡ pos 0 = get_or_past (columns_of d) column (pos 0) m in
      let i = h (place_of d) column in (
        shift (lo (increments (place_of d) column ks)) (lo (worth column d ∷ increments (place_of d) column ks)) i.0 (sym (lo_zero (worth column d) (increments (place_of d) column ks) zero)),
        shift (hi (increments (place_of d) column ks)) (hi (worth column d ∷ increments (place_of d) column ks)) i.1 (sym (hi_zero (worth column d) (increments (place_of d) column ks) zero)),
      )))
  | false ↦ λ e. h p column
] refl

unpay_in : (d : GroupDelta) (ks : List KeptStep) → AreIn (Pay d ∷ ks) → AreIn ks
unpay_in d ks h p column = elim (is_for p d) as (λ b. IsIn (cond b (worth column d ∷ increments p column ks) (increments p column ks)) → IsIn (increments p column ks)) [
  | true ↦ less_in (worth column d) (increments p column ks)
  | false ↦ λ i. i
] (h p column)

abbrev All : Store → Type 0
All s = (j : ℕ) → AreIn (now s j).kept

set_in : (s : Store) (i : ℕ) (o : Option Open) → All s → AreIn (the_open o).kept → (j : ℕ) → AreIn (the_open (with_one s.open_of i o j)).kept
set_in s i o h new j = after_all s.open_of i o (λ (x : Option Open). AreIn (the_open x).kept) j new (λ n. h j)

pays_in : (s : Store) (i : ℕ) (ds : List GroupDelta) → CanPay the_views fresh view_laws s i ds → All s → All (paid_first s i (now s i) ds)
pays_in s i [] can h = h
pays_in s i (d ∷ ds) can h = set_in s i (Some (record (now s i) { kept = Pay d ∷ (now s i).kept; owed = ds })) h (pay_in d (now s i).kept (λ column l. (can.2 column l).sum) (h i))

undoes_in : (s : Store) (i : ℕ) (ks : List KeptStep) → AreIn ks → All s → All (undone s i (now s i) ks)
undoes_in s i [] kept h = h
undoes_in s i (Put c ds ∷ ks) kept h = set_in s i (Some (record (now s i) { kept = ks; owed = []; back = 0; notes = notes_before (length ks) (now s i).notes })) h kept
undoes_in s i (Pay d ∷ ks) kept h = set_in s i (Some (record (now s i) { kept = ks; owed = d ∷ (now s i).owed; back = (now s i).back + 1 })) h (unpay_in d ks kept)

each_in : (s : Store) (i : ℕ) (e : Effect) → Good' s → Can' s i e → All s → All (does the_views s i e)
each_in s i (Opens mode) g can h = set_in s i (Some (begun mode (committed s).number)) h (λ p column. none_in)
each_in s i (Takes wants) g can h = set_in s i _ h (h i)
each_in s i (Notes n) g can h = set_in s i _ h (h i)
each_in s i (Writes p new) g can h = set_in s i _ h (h i)
each_in s i Pays g can h = pays_in s i (now s i).owed can.1 h
each_in s i (Ghosts p n) g can h = h
each_in s i Undoes g can h = undoes_in s i (now s i).kept (h i) h
each_in s i Loses g can h = set_in s i _ h (h i)
each_in s i Ends g can h = set_in s i None h (λ p column. none_in)
each_in s i Commits g can h = set_in s i None h (λ p column. none_in)
each_in s i (Defines o) g can h = h
each_in s i (Cleans p) g can h = h
each_in s i Prunes g can h = h

pub prefix_law : PrefixLaw
prefix_law s r i is p column = always All each_in s r (λ j q c. none_in) i p column
