-- What is answered of a delta beside the row of its group.
use Rattle.std.specs.Prelude.{◌≡◌, ℕ, suc, ℤ, Bool, true, false, List, [], length, Option, Some, None, IsSome, IfSome, IfNone}
use Rattle.std.specs.Option.{unwrap_or}
use Rattle.std.specs.FinMap.{get}
use Rattle.std.specs.List.{AllByRecursion}
use mathlib.Core.Path.{refl, sym, ap, subst, ◌∙◌}
use Rattle.iv_types.specs.Maps.{Map}
use Rattle.iv_types.specs.Definitions.{Definitions}
use Rattle.iv_types.specs.Encoding.{IsHuge}
use Rattle.iv_types.specs.declared.lock.GroupDelta.{GroupDelta}
use Rattle.table_laws.specs.Place.{Place}
use Rattle.table_laws.specs.Table.{write}
use Rattle.table_laws.proofs.Place.{place_cmp_total, place_cmp-IsAntisymmetric}
use Rattle.table_laws.proofs.Tables.{get-write_same}
use Rattle.iv_meaning.specs.Objects.{schema_of}
use Rattle.txn_machine.specs.Deltas.{negated, place_of, columns_of}
use Rattle.txn_machine.specs.Stored.{ViewRows, plus, add_to}
use Rattle.txn_machine.proofs.Ranging.{huge_zero}
use Rattle.txn_log.specs.Replay.{Added}
use Rattle.txn_log.specs.Fitting.{IsKnown}
use Rattle.ghost_rows.specs.Numbers.{moved}
use Rattle.ghost_rows.specs.Kept.{width}
use Rattle.ghost_rows.specs.State.{State}
use Rattle.ghost_rows.proofs.RowLemmas.{moved_many}
use Rattle.data_store.specs.Contents.{Contents}
use Rattle.data_changes.proofs.Pays.{paid_numbers, taken_numbers}
use Rattle.group_replay.specs.Closed.{IsClosed}
use Rattle.group_replay.specs.Adding.{amount, Tells, CanReplace}
use Rattle.group_replay.specs.declared.adding.AddedDelta.TheVariants as answer
use Rattle.group_replay.proofs.Rows.{IsRow, each_stored}

-- what is told of a value that was found, and of none
pub some_told : (found : Option (List ℕ)) (value : List ℕ) (P : List ℕ → Type 0) → found ≡ Some value → IfSome found P → P value
some_told found value P is told = subst (λ o. IfSome o P) is told

pub none_told : (found : Option (List ℕ)) (P : Type 0) → found ≡ None → IfNone found P → P
none_told found P is told = subst (λ o. IfNone o P) is told

-- what is taken back stood at the same place
pub same_place : (d : GroupDelta) (back : Bool) → place_of (amount d back) ≡ place_of d
same_place d true = refl
same_place d false = refl

-- the row with the numbers of the delta added to them, or taken back
pub added_is : (back : Bool) (d : GroupDelta) (view : ViewRows) (ns : List ℤ) → get view (place_of d) ≡ Some ns → length ns ≡ width d → write view (place_of d) (Some (moved back 0 ns d)) ≡ add_to view (amount d back)
added_is true d view ns there many =
    ap (λ (ms : List ℤ). write view (place_of d) (Some ms)) (taken_numbers d ns many ∙ ap (λ o. plus (unwrap_or o []) (columns_of (negated d))) (sym there))
added_is false d view ns there many =
    ap (λ (ms : List ℤ). write view (place_of d) (Some ms)) (paid_numbers d ns many ∙ ap (λ o. plus (unwrap_or o []) (columns_of d)) (sym there))

-- a row as wide as the delta
module _ (back : Bool) (d : GroupDelta) (view : ViewRows) (sums : ℕ) (b : List ℕ) (many : length d.sums ≡ sums) (row : IsRow view (place_of d) sums b) where
  row_many : length row.numbers ≡ width d
  row_many = row.many ∙ ap suc (sym many)

  pub row_added : write view (place_of d) (Some (moved back 0 row.numbers d)) ≡ add_to view (amount d back)
  row_added = added_is back d view row.numbers row.there row_many

  pub row_there : IsSome (get view (place_of (amount d back)))
  row_there = subst (λ (p : Place). IsSome (get view p)) (sym (same_place d back)) (subst IsSome (sym row.there) refl)

  -- its number in each column
  after_there : get (add_to view (amount d back)) (place_of (amount d back)) ≡ Some (moved back 0 row.numbers d)
  after_there =
      ap (get (add_to view (amount d back))) (same_place d back)
      ∙ (ap (λ (v : ViewRows). get v (place_of d)) (sym row_added) ∙ get-write_same place_cmp_total place_cmp-IsAntisymmetric view (place_of d) (Some (moved back 0 row.numbers d)))

  pub tells_added : AllByRecursion IsHuge (moved back 0 row.numbers d) → Tells view (amount d back) answer.Added
  tells_added huge = (row_there, (each_stored IsHuge huge_zero (add_to view (amount d back)) (place_of (amount d back)) (moved back 0 row.numbers d) after_there).0 huge)

  pub tells_out : (AllByRecursion IsHuge (moved back 0 row.numbers d) → ⊥) → Tells view (amount d back) answer.OutOfRange
  tells_out out = (row_there, λ inside. out ((each_stored IsHuge huge_zero (add_to view (amount d back)) (place_of (amount d back)) (moved back 0 row.numbers d) after_there).1 inside))

-- the numbers can replace those of the row
pub can_replace : (ds : Definitions) (maps : ℕ → Map) (state : State) (c : Contents) (back : Bool) (d : GroupDelta) (b : List ℕ) (known : IsKnown (schema_of ds) (Added d)) → IsClosed ds maps state c
    → (row : IsRow c.view (place_of d) (length known.0.of.sums) b) → AllByRecursion IsHuge (moved back 0 row.numbers d) → CanReplace ds maps state (place_of d) (moved back 0 row.numbers d) c
can_replace ds maps state c back d b known closed row huge = record {
  closed = closed;
  group = known.0;
  width = moved_many back 0 row.numbers d ∙ row.many;
  in_range = huge;
  there = subst IsSome (sym row.there) refl;
}

pub tells_none : (d : GroupDelta) (back : Bool) (view : ViewRows) → get view (place_of d) ≡ None → Tells view (amount d back) answer.NoRow
tells_none d back view none = ap (get view) (same_place d back) ∙ none
