-- A walk over sorted entries, from one to the next.
use Rattle.std.specs.Prelude.{◌≡◌, ℕ, Bool, true, false, cond, not, T, ◌&&◌, List, [], ◌∷◌, filter, Option, Some, None, if◌then◌else◌}
use mathlib.Core.Path.{refl, sym, ap, subst, ◌∙◌}
use Rattle.std.proofs.Common.{option_map, Bor}
use Rattle.std.specs.FinMap.{find, is_sorted, get, entries, get-entries, entries_sorted}
use Rattle.std.specs.FinMap.Entries.{below_all}
use Rattle.std.specs.declared.cmp.Ordering.{Ordering}
use Rattle.std.specs.declared.cmp.Ordering.TheVariants.{Less, Equal, Greater}
use Rattle.std.specs.Ordering.{is_eq, is_lt, is_ge, is_gt, ordering_reverse}
use Rattle.std.specs.Cmp.{tied_itself}
use Rattle.std.specs.Cmp.Lexicographic.{nat_list_cmp_total}
use Rattle.iv_types.specs.declared.value.Interval.{Interval}
use Rattle.iv_types.specs.Maps.{Map, Entry, first_where, entry_at, entry_after}
use Rattle.iv_types.specs.Encoding.{lies_in}
use Rattle.table_store.specs.Stored.{before, between}
use Rattle.table_store.proofs.Places.{first_below, rest_sorted, first, second, both, less, less_true, below_less}
use Rattle.table_store.proofs.Maps.{by_bytes, bytes_same}

-- the entries from the first on that passes
abbrev pub rest_from : (List ℕ → Bool) → List Entry → List Entry
rest_from test [] = []
rest_from test (e ∷ es) = if test e.0 then e ∷ es else rest_from test es

abbrev pub past : List ℕ → List ℕ → Bool
past k x = is_gt (by_bytes x k)

abbrev pub from : List ℕ → List ℕ → Bool
from k x = is_ge (by_bytes x k)

-- what is left of a walk that stands at an entry, or has ended
abbrev pub todo : List Entry → Option Entry → List Entry
todo es None = []
todo es (Some e) = e ∷ rest_from (past e.0) es

-- the entry at which a walk stands
abbrev pub place : Option (Bor (List ℕ) × Bor (List ℕ)) → Option Entry
place next = option_map (λ e. (e.0.now, e.1.now)) next

turn : (x y : List ℕ) (r : Ordering) → by_bytes x y ≡ r → by_bytes y x ≡ ordering_reverse r
turn x y r e = nat_list_cmp_total.antisymm y x ∙ ap ordering_reverse e

not_past_itself : (k : List ℕ) → past k k ≡ false
not_past_itself k = ap is_gt (tied_itself nat_list_cmp_total k)

-- entries after k are all past it
all_past : (k : List ℕ) (es : List Entry) → T (below_all by_bytes k es) → rest_from (past k) es ≡ es
all_past k [] h = refl
all_past k (e ∷ es) h = ap (λ b. cond b (e ∷ es) (rest_from (past k) es)) (ap is_gt (turn k e.0 Less (less _ (first _ _ h))))

-- the first that passes is one of them
below_first : (k : List ℕ) (test : List ℕ → Bool) (es : List Entry) (e : Entry) → T (below_all by_bytes k es) → first_where test es ≡ Some e → by_bytes k e.0 ≡ Less
below_first k test [] e h is = absurd (cc)
below_first k test (x ∷ es) e h is = elim (test x.0) as (λ b. cond b (Some x) (first_where test es) ≡ Some e → by_bytes k e.0 ≡ Less) [
  | true ↦ λ is. let same : x ≡ e = cc in subst (λ (y : Entry). by_bytes k y.0 ≡ Less) same (less _ (first _ _ h))
  | false ↦ λ is. below_first k test es e (second _ _ h) is
] is

todo_under : (x : Entry) (test : List ℕ → Bool) (es : List Entry) (f : Option Entry) → T (below_all by_bytes x.0 es) → first_where test es ≡ f → todo (x ∷ es) f ≡ todo es f
todo_under x test es None h is = refl
todo_under x test es (Some e) h is =
    let fails : past e.0 x.0 ≡ false = ap is_gt (below_first x.0 test es e h is) in
    ap (λ (b : Bool). e ∷ cond b (x ∷ es) (rest_from (past e.0) es)) fails

-- the walk from the first entry that passes
pub todo_first : (test : List ℕ → Bool) (es : List Entry) → T (is_sorted by_bytes es) → todo es (first_where test es) ≡ rest_from test es
todo_first test [] s = refl
todo_first test (x ∷ es) s = elim (test x.0) as (λ b. todo (x ∷ es) (cond b (Some x) (first_where test es)) ≡ cond b (x ∷ es) (rest_from test es)) [
  | true ↦ ap (λ (b : Bool). x ∷ cond b (x ∷ es) (rest_from (past x.0) es)) (not_past_itself x.0) ∙ ap (λ (l : List Entry). x ∷ l) (all_past x.0 es (first_below by_bytes x es s))
  | false ↦ todo_under x test es _ (first_below by_bytes x es s) refl ∙ todo_first test es (rest_sorted by_bytes x es s)
]

-- an entry that is found first is in the map
found_in : (test : List ℕ → Bool) (es : List Entry) (e : Entry) → T (is_sorted by_bytes es) → first_where test es ≡ Some e → find by_bytes e.0 es ≡ Some e.1
found_in test [] e s is = absurd (cc)
found_in test (x ∷ es) e s is = elim (test x.0) as (λ b. cond b (Some x) (first_where test es) ≡ Some e → find by_bytes e.0 (x ∷ es) ≡ Some e.1) [
  | true ↦ λ is. let same : x ≡ e = cc in subst (λ (y : Entry). find by_bytes y.0 (x ∷ es) ≡ Some y.1) same (ap (λ r. cond (is_eq r) (Some x.1) (find by_bytes x.0 es)) (tied_itself nat_list_cmp_total x.0))
  | false ↦ λ is. ap (λ r. cond (is_eq r) (Some x.1) (find by_bytes e.0 es)) (turn x.0 e.0 Less (below_first x.0 test es e (first_below by_bytes x es s) is))
      ∙ found_in test es e (rest_sorted by_bytes x es s) is
] is

pub at_held : (m : Map) (k : List ℕ) (e : Entry) → Some e ≡ entry_at m k → get m e.0 ≡ Some e.1
at_held m k e is = get-entries m e.0 ∙ found_in _ (entries m) e (entries_sorted m) (sym is)

pub after_held : (m : Map) (k : List ℕ) (e : Entry) → Some e ≡ entry_after m k → get m e.0 ≡ Some e.1
after_held m k e is = get-entries m e.0 ∙ found_in _ (entries m) e (entries_sorted m) (sym is)

-- ---- the high end

abbrev pub low_part : Option (List ℕ) → List Entry → List Entry
low_part high es = filter (λ e. before high e.0) es

less_before : (a b end : List ℕ) → by_bytes a b ≡ Less → is_lt (by_bytes a end) ≡ false → is_lt (by_bytes b end) ≡ false
less_before a b end lt fails = elim (is_lt (by_bytes b end)) as (λ r. is_lt (by_bytes b end) ≡ r → r ≡ false) [
  | true ↦ λ is. let passes : is_lt (by_bytes a end) ≡ true = ap is_lt (nat_list_cmp_total.trans a b end lt (less_true _ is)) in cc
  | false ↦ λ is. refl
] refl

not_before : (high : Option (List ℕ)) (a b : List ℕ) → by_bytes a b ≡ Less → before high a ≡ false → before high b ≡ false
not_before None a b lt fails = fails
not_before (Some end) a b lt fails = less_before a b end lt fails

none_before : (high : Option (List ℕ)) (k : List ℕ) (es : List Entry) → T (below_all by_bytes k es) → before high k ≡ false → low_part high es ≡ []
none_before high k [] h fails = refl
none_before high k (e ∷ es) h fails = ap (λ b. cond b (e ∷ low_part high es) (low_part high es)) (not_before high k e.0 (less _ (first _ _ h)) fails) ∙ none_before high k es (second _ _ h) fails

rest_below : (k : List ℕ) (es : List Entry) → T (is_sorted by_bytes es) → T (below_all by_bytes k (rest_from (past k) es))
rest_below k [] s = tt
rest_below k (e ∷ es) s = elim (by_bytes e.0 k) as (λ r. by_bytes e.0 k ≡ r → T (below_all by_bytes k (cond (is_gt r) (e ∷ es) (rest_from (past k) es)))) [
  | Less ↦ λ is. rest_below k es (rest_sorted by_bytes e es s)
  | Equal ↦ λ is. rest_below k es (rest_sorted by_bytes e es s)
  | Greater ↦ λ is. let lt : by_bytes k e.0 ≡ Less = turn e.0 k Greater is in
      both _ _ (subst (λ r. T (is_lt r)) (sym lt) tt) (below_less nat_list_cmp_total bytes_same k e.0 es lt (first_below by_bytes e es s))
] refl

-- where one entry is not before the end, none that is left is
pub ended : (m : Map) (high : Option (List ℕ)) (e : Entry) → before high e.0 ≡ false → low_part high (todo (entries m) (Some e)) ≡ []
ended m high e fails = ap (λ b. cond b (e ∷ low_part high (rest_from (past e.0) (entries m))) (low_part high (rest_from (past e.0) (entries m)))) fails
    ∙ none_before high e.0 (rest_from (past e.0) (entries m)) (rest_below e.0 (entries m) (entries_sorted m)) fails

pub goes_on : (m : Map) (high : Option (List ℕ)) (e : Entry) → before high e.0 ≡ true → low_part high (todo (entries m) (Some e)) ≡ e ∷ low_part high (rest_from (past e.0) (entries m))
goes_on m high e passes = ap (λ b. cond b (e ∷ low_part high (rest_from (past e.0) (entries m))) (low_part high (rest_from (past e.0) (entries m)))) passes

-- ---- the low end

from_low : (k x : List ℕ) → from k x ≡ not (is_gt (by_bytes k x))
from_low k x = elim (by_bytes k x) as (λ r. by_bytes k x ≡ r → is_ge (by_bytes x k) ≡ not (is_gt r)) [
  | Less ↦ λ is. ap is_ge (turn k x Less is)
  | Equal ↦ λ is. ap is_ge (turn k x Equal is)
  | Greater ↦ λ is. ap is_ge (turn k x Greater is)
] refl

lies : (interval : Interval) (x : List ℕ) → lies_in x interval ≡ (from interval.low x && before interval.high x)
lies interval x = ap (λ b. b && before interval.high x) (sym (from_low interval.low x))

higher : (k x y : List ℕ) → by_bytes x y ≡ Less → from k x ≡ true → from k y ≡ true
higher k x y lt p = elim (by_bytes y k) as (λ r. by_bytes y k ≡ r → is_ge r ≡ true) [
  | Less ↦ λ is. let fails : is_ge (by_bytes x k) ≡ false = ap is_ge (nat_list_cmp_total.trans x y k lt is) in cc
  | Equal ↦ λ is. refl
  | Greater ↦ λ is. refl
] refl

all_from : (interval : Interval) (k : List ℕ) (es : List Entry) → T (below_all by_bytes k es) → from interval.low k ≡ true → between interval es ≡ low_part interval.high es
all_from interval k [] h p = refl
all_from interval k (e ∷ es) h p =
    let here : lies_in e.0 interval ≡ before interval.high e.0 = lies interval e.0 ∙ ap (λ b. b && before interval.high e.0) (higher interval.low k e.0 (less _ (first _ _ h)) p) in
    ap (λ b. cond b (e ∷ between interval es) (between interval es)) here
    ∙ ap (λ (l : List Entry). cond (before interval.high e.0) (e ∷ l) l) (all_from interval k es (second _ _ h) p)

between_rest : (interval : Interval) (es : List Entry) → T (is_sorted by_bytes es) → between interval es ≡ low_part interval.high (rest_from (from interval.low) es)
between_rest interval [] s = refl
between_rest interval (e ∷ es) s = elim (from interval.low e.0) as (λ b. from interval.low e.0 ≡ b → between interval (e ∷ es) ≡ low_part interval.high (cond b (e ∷ es) (rest_from (from interval.low) es))) [
  | true ↦ λ is.
      let here : lies_in e.0 interval ≡ before interval.high e.0 = lies interval e.0 ∙ ap (λ b. b && before interval.high e.0) is in
      ap (λ b. cond b (e ∷ between interval es) (between interval es)) here
      ∙ ap (λ (l : List Entry). cond (before interval.high e.0) (e ∷ l) l) (all_from interval e.0 es (first_below by_bytes e es s) is)
  | false ↦ λ is.
      let here : lies_in e.0 interval ≡ false = lies interval e.0 ∙ ap (λ b. b && before interval.high e.0) is in
      ap (λ b. cond b (e ∷ between interval es) (between interval es)) here ∙ between_rest interval es (rest_sorted by_bytes e es s)
] refl

-- the walk from the low end, as far as the high end
pub walk_begins : (m : Map) (interval : Interval) (n : Option Entry) → n ≡ entry_at m interval.low → low_part interval.high (todo (entries m) n) ≡ between interval (entries m)
walk_begins m interval n is = ap (λ f. low_part interval.high (todo (entries m) f)) is
    ∙ (ap (low_part interval.high) (todo_first (from interval.low) (entries m) (entries_sorted m)) ∙ sym (between_rest interval (entries m) (entries_sorted m)))

pub walk_goes_on : (m : Map) (k : List ℕ) (n : Option Entry) → n ≡ entry_after m k → todo (entries m) n ≡ rest_from (past k) (entries m)
walk_goes_on m k n is = ap (todo (entries m)) is ∙ todo_first (past k) (entries m) (entries_sorted m)
