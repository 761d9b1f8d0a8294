-- What the tests of moves tell.
use Rattle.std.specs.Prelude.{◌≡◌, ◌≢◌, ◌⊎◌, ℕ, zero, suc, ◌≤◌, ◌<◌, ◌==◌, nat_le, cond, Bool, true, false, not, ◌&&◌, ◌||◌, T, List, [], ◌∷◌, length, ℤ, Option, Some, None, is_some, IfSome}
use Rattle.std.specs.List.{AllZip, Contains}
use Rattle.std.specs.Option.{unwrap_or}
use mathlib.Core.Path.{refl, sym, ap, subst, ◌∙◌}
use mathlib.Core.Logic.{inl, inr}
use Rattle.std.proofs.Common.{arith, leb-true, le-leb, eqb-true, eq-eqb}
use Rattle.std.proofs.lemmas.Option.{none-some}
use Rattle.std.proofs.lemmas.Slice.Eq.{bytes_eq-Decides}
use Rattle.std.specs.declared.cmp.Ordering.{Ordering}
use Rattle.std.specs.declared.cmp.Ordering.TheVariants.{Less, Equal, Greater}
use Rattle.std.specs.Ordering.{nat_cmp, ordering_reverse, is_eq, is_lt}
use Rattle.std.specs.Cmp.Lexicographic.{slice_cmp}
use Rattle.std.specs.Str.{bytes_eq}
use Rattle.iv_types.specs.declared.statement.Mode.{Mode}
use Rattle.iv_types.specs.declared.statement.Mode.TheVariants.{Serial, Snapshot}
use Rattle.iv_types.specs.declared.lock.LockMode.{LockMode}
use Rattle.iv_types.specs.declared.lock.LockMode.TheVariants.{Share, Exclusive, Increment}
use Rattle.iv_types.specs.declared.lock.Want.{Want}
use Rattle.iv_types.specs.declared.catalog.TableDef.{TableDef}
use Rattle.iv_types.specs.declared.value.Interval.{Interval}
use Rattle.iv_types.specs.declared.value.Kind.{Kind}
use Rattle.iv_types.specs.declared.value.Value.{Value}
use Rattle.iv_types.specs.Encoding.{FitAll, IsHuge, is_huge, key_bytes, row_cmp, kinds_of, fits}
use Rattle.iv_types.specs.Intervals.{IsBelow, HaveCommonKey}
use Rattle.iv_types.proofs.Fitting.{huge_is}
use Rattle.iv_types.proofs.Orders.{row_cmp_total}
use Rattle.row_codec.specs.Ranges.{IsGreater}
use Rattle.row_codec.proofs.RangeLaws.{greater_is_a, greater_is_b, common_key, common_before_a, common_before_b}
use Rattle.table_laws.specs.Place.{Place}
use Rattle.table_laws.proofs.Stored.{by_session}
use Rattle.iv_meaning.specs.Schema.{Schema, Object, table, index, view, ViewTree, group_kinds}
use Rattle.iv_meaning.specs.Database.{Row, Database, key_of}
use Rattle.iv_meaning.specs.Escrow.{IsSession}
use Rattle.iv_meaning.specs.View.{read}
use Rattle.txn_machine.specs.Locks.{Agree, Conflict, Meet, IsInTheWay}
use Rattle.txn_machine.specs.May.{FitsUnder, MayLock}
use Rattle.txn_machine.specs.Steps.{FindsIn}
use Rattle.txn_machine.specs.Stored.{ViewRows, IsShown}
use Rattle.txn_machine.proofs.Holding.{by_contains, contains_here, contains_next, contains_none}
use Rattle.txn_machine.proofs.PlainStates.{shown_in, fit_all, are_shown, is_session, each_to, each_of, some_of, is_serial, is_nil, is_increment, agree, greater_low, is_below, have_common, clash, clash_any, in_way, all_below, fits_under, differ}
use Rattle.txn_machine.proofs.Playing.{may_lock, is_scanned}

-- ---- two tests

pub is_true : (b : Bool) → T b → b ≡ true
is_true true h = refl
is_true false h = absurd h

pub holds : (b : Bool) → b ≡ true → T b
holds b e = subst T (sym e) tt

pub left_one : (a b : Bool) → T (a && b) → T a
left_one true b h = tt
left_one false b h = h

pub right_one : (a b : Bool) → T (a && b) → T b
right_one true b h = h
right_one false b h = absurd h

pub both : (a b : Bool) → T a → T b → T (a && b)
both true b h k = k
both false b h k = h

pub either : (a b : Bool) → T (a || b) → T a ⊎ T b
either true b h = inl tt
either false b h = inr h

pub or_left : (a b : Bool) → T a → T (a || b)
or_left true b h = tt
or_left false b h = absurd h

pub or_right : (a b : Bool) → T b → T (a || b)
or_right true b h = tt
or_right false b h = h

pub not_so : (b : Bool) → T (not b) → T b → ⊥
not_so true h k = h
not_so false h k = k

pub not_that : (b : Bool) → (T b → ⊥) → T (not b)
not_that true h = h tt
not_that false h = tt

pub at_most : (a b : ℕ) → T (nat_le a b) → a ≤ b
at_most a b h = leb-true a b (is_true (nat_le a b) h)

pub equal : (a b : ℕ) → T (a == b) → a ≡ b
equal a b h = eqb-true a b (is_true (a == b) h)

pub not_equal : (a b : ℕ) → T (not (a == b)) → a ≢ b
not_equal a b h e = not_so (a == b) h (holds (a == b) (eq-eqb a b e))

pub differ_so : (a b : ℕ) → a ≢ b → T (not (a == b))
differ_so a b n = not_that (a == b) (λ h. n (equal a b h))

pub there_is : {X : Type 0} (o : Option X) (x : X) → T (is_some o) → o ≡ Some (unwrap_or o x)
there_is None x h = absurd h
there_is (Some y) x h = refl

pub none_is_there : {X : Type 0} (o : Option X) → T (not (is_some o)) → o ≡ None
none_is_there None h = refl
none_is_there (Some y) h = absurd h

pub serial_is : (m : Mode) → T (is_serial m) → m ≡ Serial
serial_is Serial h = refl
serial_is Snapshot h = absurd h

pub nil_is : {X : Type 0} (xs : List X) → T (is_nil xs) → xs ≡ []
nil_is [] h = refl
nil_is (x ∷ xs) h = absurd h

pub not_nil : {X : Type 0} (xs : List X) → T (not (is_nil xs)) → xs ≢ []
not_nil [] h e = h
not_nil (x ∷ xs) h e = absurd (cc)

pub false_is : (b : Bool) → T (not b) → b ≡ false
false_is true h = absurd h
false_is false h = refl

pub session_is : (i : ℕ) → T (is_session i) → IsSession i
session_is i h = (at_most 1 i (left_one (nat_le 1 i) (nat_le i 64) h), at_most i 64 (right_one (nat_le 1 i) (nat_le i 64) h))

pub session_so : (i : ℕ) → IsSession i → T (is_session i)
session_so i is = both (nat_le 1 i) (nat_le i 64) (holds (nat_le 1 i) (le-leb 1 i is.0)) (holds (nat_le i 64) (le-leb i 64 is.1))

-- ---- each and some

pub each_so : (n : ℕ) (f : ℕ → Bool) (i : ℕ) → T (each_to n f) → 1 ≤ i → i ≤ n → T (f i)
each_so zero f i h l m = absurd (omega (arith, l, m))
each_so (suc n) f i h l m = by_session i (suc n)
    (λ e. subst (λ x. T (f x)) (sym e) (left_one (f (suc n)) (each_to n f) h))
    (λ differ. each_so n f i (right_one (f (suc n)) (each_to n f) h) l (omega (arith, m, differ)))

pub below_so : (n : ℕ) (f : ℕ → Bool) (i : ℕ) → T (all_below n f) → i < n → T (f i)
below_so zero f i h l = absurd (omega (arith, l))
below_so (suc n) f i h l = by_session i n
    (λ e. subst (λ x. T (f x)) (sym e) (left_one (f n) (all_below n f) h))
    (λ differ. below_so n f i (right_one (f n) (all_below n f) h) (omega (arith, l, differ)))

pub each_in : {X : Type 0} (f : X → Bool) (xs : List X) (x : X) → T (each_of f xs) → Contains xs x → T (f x)
each_in f [] x h c = absurd (contains_none x c)
each_in f (y ∷ xs) x h c = by_contains y xs x c (λ e. subst (λ z. T (f z)) e (left_one (f y) (each_of f xs) h)) (λ d. each_in f xs x (right_one (f y) (each_of f xs) h) d)

pub some_in : {X : Type 0} (f : X → Bool) (xs : List X) (x : X) → Contains xs x → T (f x) → T (some_of f xs)
some_in f [] x c h = absurd (contains_none x c)
some_in f (y ∷ xs) x c h = by_contains y xs x c (λ e. or_left (f y) (some_of f xs) (subst (λ z. T (f z)) (sym e) h)) (λ d. or_right (f y) (some_of f xs) (some_in f xs x d h))

pub record Among {X : Type 0} (f : X → Bool) (xs : List X) : Type 0 where
  pub one : X
  pub there : Contains xs one
  pub so : T (f one)

pub some_is : {X : Type 0} (f : X → Bool) (xs : List X) → T (some_of f xs) → Among f xs
some_is f [] h = absurd h
some_is f (x ∷ xs) h = elim (either (f x) (some_of f xs) h) [
  | inl k ↦ record { one = x; there = contains_here x xs; so = k }
  | inr k ↦ let a = some_is f xs k in record { one = a.one; there = contains_next x xs a.one a.there; so = a.so }
]

-- ---- numbers in range

pub in_range : (n : ℤ) → T (is_huge n) → IsHuge n
in_range n h = huge_is n (is_true (is_huge n) h)

-- ---- keys and intervals

less_is : (o : Ordering) → T (is_lt o) → o ≡ Less
less_is Less h = refl
less_is Equal h = absurd h
less_is Greater h = absurd h

less_so : (o : Ordering) → o ≡ Less → T (is_lt o)
less_so o e = subst (λ x. T (is_lt x)) (sym e) tt

below_is : (low : List ℕ) (high : Option (List ℕ)) → T (is_below low high) → IfSome high (λ end. IsBelow low end)
below_is low None h = tt
below_is low (Some end) h = less_is (slice_cmp nat_cmp low end) h

below_holds : (low : List ℕ) (high : Option (List ℕ)) → IfSome high (λ end. IsBelow low end) → T (is_below low high)
below_holds low None h = tt
below_holds low (Some end) h = less_so (slice_cmp nat_cmp low end) h

greater_is : (a b : List ℕ) → IsGreater a b (greater_low a b)
greater_is a b = go (is_lt (slice_cmp nat_cmp a b)) refl
  where
    go : (t : Bool) → is_lt (slice_cmp nat_cmp a b) ≡ t → IsGreater a b (cond t b a)
    go true e = greater_is_b a b (less_is (slice_cmp nat_cmp a b) (holds (is_lt (slice_cmp nat_cmp a b)) e))
    go false e = greater_is_a a b (λ l. subst T e (less_so (slice_cmp nat_cmp a b) l))

pub common_is : (a b : Interval) → T (have_common a b) → HaveCommonKey a b
common_is a b h =
    let low : List ℕ = greater_low a.low b.low in
    common_key a b low (greater_is a.low b.low) (below_is low a.high (left_one (is_below low a.high) (is_below low b.high) h)) (below_is low b.high (right_one (is_below low a.high) (is_below low b.high) h))

pub common_so : (a b : Interval) → HaveCommonKey a b → T (have_common a b)
common_so a b k =
    let low : List ℕ = greater_low a.low b.low in
    both (is_below low a.high) (is_below low b.high)
    (below_holds low a.high (common_before_a a b low (greater_is a.low b.low) k))
    (below_holds low b.high (common_before_b a b low (greater_is a.low b.low) k))

-- ---- locks

agree_is : (a b : LockMode) → T (not (agree a b)) → Agree a b → ⊥
agree_is Share Share h g = h
agree_is Share Exclusive h g = g
agree_is Share Increment h g = g
agree_is Exclusive Share h g = g
agree_is Exclusive Exclusive h g = g
agree_is Exclusive Increment h g = g
agree_is Increment Share h g = g
agree_is Increment Exclusive h g = g
agree_is Increment Increment h g = h

agree_so : (a b : LockMode) → (Agree a b → ⊥) → T (not (agree a b))
agree_so Share Share h = h tt
agree_so Share Exclusive h = tt
agree_so Share Increment h = tt
agree_so Exclusive Share h = tt
agree_so Exclusive Exclusive h = tt
agree_so Exclusive Increment h = tt
agree_so Increment Share h = tt
agree_so Increment Exclusive h = tt
agree_so Increment Increment h = h tt

clash_is : (l w : Want) → T (clash l w) → Conflict l w
clash_is l w h =
    let more = right_one (l.index == w.index) (have_common l.interval w.interval && not (agree l.mode w.mode)) h in
    record {
      one_index = equal l.index w.index (left_one (l.index == w.index) (have_common l.interval w.interval && not (agree l.mode w.mode)) h);
      common_key = common_is l.interval w.interval (left_one (have_common l.interval w.interval) (not (agree l.mode w.mode)) more);
      modes = agree_is l.mode w.mode (right_one (have_common l.interval w.interval) (not (agree l.mode w.mode)) more);
    }

clash_so : (l w : Want) → Conflict l w → T (clash l w)
clash_so l w c =
    both (l.index == w.index) (have_common l.interval w.interval && not (agree l.mode w.mode))
    (holds (l.index == w.index) (eq-eqb l.index w.index c.one_index))
    (both (have_common l.interval w.interval) (not (agree l.mode w.mode)) (common_so l.interval w.interval c.common_key) (agree_so l.mode w.mode c.modes))

pub meet_is : (locks wants : List Want) → T (clash_any locks wants) → Meet locks wants
meet_is locks wants h =
    let a = some_is (λ l. some_of (clash l) wants) locks h in
    let b = some_is (clash a.one) wants a.so in
    record { lock = a.one; held = a.there; want = b.one; wanted = b.there; conflict = clash_is a.one b.one b.so }

pub meet_so : (locks wants : List Want) → Meet locks wants → T (clash_any locks wants)
meet_so locks wants m = some_in (λ l. some_of (clash l) wants) locks m.lock m.held (some_in (clash m.lock) wants m.want m.wanted (clash_so m.lock m.want m.conflict))

pub in_way_is : (locks : ℕ → List Want) (i : ℕ) (wants : List Want) (j : ℕ) → IsSession j → T (in_way locks i wants j) → IsInTheWay locks i wants j
in_way_is locks i wants j is h = record {
  of_session = is;
  not_itself = not_equal j i (left_one (not (j == i)) (clash_any (locks j) wants) h);
  meet = meet_is (locks j) wants (right_one (not (j == i)) (clash_any (locks j) wants) h);
}

pub in_way_so : (locks : ℕ → List Want) (i : ℕ) (wants : List Want) (j : ℕ) → IsInTheWay locks i wants j → T (in_way locks i wants j)
in_way_so locks i wants j w = both (not (j == i)) (clash_any (locks j) wants) (differ_so j i w.not_itself) (meet_so (locks j) wants w.meet)

-- nobody is in the way
pub free_is : (locks : ℕ → List Want) (i : ℕ) (wants : List Want) → T (each_to 64 (λ j. not (in_way locks i wants j))) → (j : ℕ) → IsInTheWay locks i wants j → ⊥
free_is locks i wants h j w = not_so (in_way locks i wants j) (each_so 64 (λ j. not (in_way locks i wants j)) j h w.of_session.0 w.of_session.1) (in_way_so locks i wants j w)

-- ---- rows and reads

pub bytes_same : (xs ys : List ℕ) → T (bytes_eq xs ys) → xs ≡ ys
bytes_same xs ys h = (bytes_eq-Decides xs ys).0 (is_true (bytes_eq xs ys) h)

pub increment_is : (m : LockMode) → T (is_increment m) → m ≡ Increment
increment_is Increment h = refl
increment_is Share h = absurd h
increment_is Exclusive h = absurd h

fit_all_is : (kinds : List Kind) (values : List Value) → T (fit_all kinds values) → FitAll kinds values
fit_all_is [] [] h = tt
fit_all_is [] (v ∷ vs) h = absurd h
fit_all_is (k ∷ ks) [] h = absurd h
fit_all_is (k ∷ ks) (v ∷ vs) h = (is_true (fits k v) (left_one (fits k v) (fit_all ks vs) h), fit_all_is ks vs (right_one (fits k v) (fit_all ks vs) h))

pub under_is : (t : TableDef) (key : List ℕ) (new : Option Row) → T (fits_under t key new) → FitsUnder t key new
under_is t key None h = tt
under_is t key (Some row) h =
    let same : Bool = bytes_eq key (key_of t row) in
    let fits : Bool = fit_all (kinds_of t) row in
    (bytes_same key (key_of t row) (left_one same fits h), fit_all_is (kinds_of t) row (right_one same fits h))

-- a row is equal to itself
self_equal : (o : Ordering) → o ≡ ordering_reverse o → is_eq o ≡ true
self_equal Less e = absurd (cc)
self_equal Equal e = refl
self_equal Greater e = absurd (cc)

row_out : Row → Option Row → Row
row_out row None = row
row_out row (Some r) = r

same_row : (old new : Row) → Some old ≡ Some new → old ≡ new
unfolding row_out
same_row old new e = ap (row_out old) e

pub differ_is : (old new : Option Row) → T (differ old new) → old ≢ new
differ_is None None h e = h
differ_is None (Some new) h e = none-some new e
differ_is (Some old) None h e = none-some old (sym e)
differ_is (Some old) (Some new) h e =
    subst T (ap not (ap (λ r. is_eq (row_cmp old r)) (sym (same_row old new e)) ∙ self_equal (row_cmp old old) (row_cmp_total.antisymm old old))) h

-- the rows of stored groups
pub shown_lists : (objects : Schema) (v : ViewTree) (es : List (Place × List ℤ)) (groups : List Row) → T (are_shown (group_kinds objects v) es groups)
    → AllZip (IsShown objects v) es (shown_in (suc (length v.sums)) es groups)
shown_lists objects v [] [] h = tt
shown_lists objects v [] (g ∷ gs) h = absurd h
shown_lists objects v (e ∷ es) [] h = absurd h
shown_lists objects v (e ∷ es) (g ∷ gs) h =
    let kinds : List Kind = group_kinds objects v in
    let same : Bool = bytes_eq (key_bytes kinds g) e.0.1 in
    let more = right_one (fit_all kinds g) (same && are_shown kinds es gs) h in (
      record {
        group = g;
        fits = fit_all_is kinds g (left_one (fit_all kinds g) (same && are_shown kinds es gs) h);
        key = bytes_same (key_bytes kinds g) e.0.1 (left_one same (are_shown kinds es gs) more);
        row_is = refl;
      },
      shown_lists objects v es gs (right_one same (are_shown kinds es gs) more),
    )

pub may_lock_so : (lock : LockMode) (o : Option Object) → T (may_lock lock o) → MayLock lock o
may_lock_so Share o h = is_true (is_some o) h
may_lock_so Exclusive None h = absurd h
may_lock_so Exclusive (Some (table t)) h = tt
may_lock_so Exclusive (Some (index i)) h = tt
may_lock_so Exclusive (Some (view v)) h = absurd h
may_lock_so Increment o h = absurd h

-- what is no view is read as it is stored
pub finds_stored : (db : Database) (stored : ViewRows) (o : Option Object) (number : ℕ) (interval : Interval) (rows : List Row) → T (is_scanned o) → read db number interval ≡ rows → FindsIn db stored o number interval rows
finds_stored db stored None number interval rows h e = e
finds_stored db stored (Some (table t)) number interval rows h e = e
finds_stored db stored (Some (index i)) number interval rows h e = e
finds_stored db stored (Some (view v)) number interval rows h e = absurd h
