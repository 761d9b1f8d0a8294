-- Lists of entries that an index can hold, through an edit.
use Rattle.std.specs.Prelude.{◌≡◌, ℕ, ◌^◌, ◌≤◌, List, length, sum_by}
use mathlib.Core.Path.{ap}
use Rattle.std.proofs.Common.{arith, set}
use Rattle.std.specs.List as list
use Rattle.std.specs.List.{All}
use Rattle.std.specs.FinMap.{entries-from_sorted}
use Rattle.std.proofs.lemmas.List.Elements.{All-append, All-cons, All-take, All-drop, All-set}
use Rattle.std.proofs.lemmas.List.Sums.{sum_by-le}
use Rattle.iv_types.specs.Maps.{Entry, entry_size, map_size}
use Rattle.table_store.specs.Lists.{IsKept, largest_entry, most_of_list}
use Rattle.table_store.proofs.Maps.{by_bytes, made}

abbrev pub IsSmall : Entry → Type 0
IsSmall e = entry_size e ≤ largest_entry

pub small_inserted : (e : Entry) (es : List Entry) (i : ℕ) → IsSmall e → All IsSmall es → All IsSmall (list.insert es i e)
small_inserted e es i h all = All-append IsSmall _ _ (All-take IsSmall i es all) (All-cons IsSmall e _ h (All-drop IsSmall i es all))

pub small_removed : (es : List Entry) (i : ℕ) → All IsSmall es → All IsSmall (list.remove es i)
small_removed es i all = All-append IsSmall _ _ (All-take IsSmall i es all) (All-drop IsSmall (ℕ.suc i) es all)

pub small_set : (es : List Entry) (i : ℕ) (e : Entry) → IsSmall e → All IsSmall es → All IsSmall (set es i e)
small_set es i e h all = All-set IsSmall es i e h all

-- what the map of such a list counts
pub kept_most : (es : List Entry) → IsKept es → length es ≤ 2 ^ 64 → map_size (made es) ≤ most_of_list
kept_most es k few =
    let sums : map_size (made es) ≡ sum_by entry_size es = ap (sum_by entry_size) (entries-from_sorted by_bytes es k.sorted) in
    omega (arith, sums, sum_by-le entry_size largest_entry es k.sizes)
