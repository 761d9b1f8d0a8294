-- The stored rows of views at the number of an open snapshot, by what is stored, what is paid and what is left of the deltas.
use Rattle.std.specs.Prelude.{◌≡◌, ◌≤◌, ◌<◌, ◌+◌, ◌&&◌, ℕ, zero, suc, nat_le, nat_lt, ℤ, pos, ◌+ℤ◌, ◌-ℤ◌, Bool, true, false, cond, T, List, [], ◌∷◌, ◌++◌, map, length, get_or, Option, Some, None, IsSome, IfSome}
use Rattle.std.specs.List.{AllByRecursion, Contains}
use Rattle.std.specs.Option.{option_map, option_map_or}
use mathlib.Core.Path.{refl, sym, ap, subst, ◌∙◌}
use mathlib.Core.Logic.{inl, inr}
use Rattle.std.proofs.Common.{arith}
use Rattle.std.proofs.lemmas.Bool.Decides.{leb_tells}
use Rattle.std.proofs.lemmas.Int.{ints}
use Rattle.std.proofs.lemmas.List.{length-map, get_or_past}
use Rattle.std.specs.FinMap.{find, is_sorted, get, entries, get-entries, entries_sorted, from_sorted, get-from_sorted}
use Rattle.std.specs.FinMap.Entries.{below_all}
use Rattle.std.specs.declared.cmp.Ordering.{Ordering}
use Rattle.std.specs.Ordering.{eq_by_cmp}
use Rattle.iv_types.specs.declared.lock.GroupDelta.{GroupDelta}
use Rattle.iv_types.specs.declared.statement.Mode.TheVariants.{Snapshot}
use Rattle.iv_types.specs.Encoding.{IsHuge, FitAll, key_bytes}
use Rattle.iv_types.specs.Definitions.{Definitions}
use Rattle.iv_types.specs.Maps.{Map}
use Rattle.table_laws.specs.Place.{Place, place_cmp}
use Rattle.table_laws.proofs.Place.{place_cmp_total, place_cmp-IsAntisymmetric}
use Rattle.table_laws.proofs.Tables.{same_key, other_key}
use Rattle.table_store.proofs.Places.{first, second, both, first_below, rest_sorted, equal}
use Rattle.iv_meaning.specs.Schema.{Schema, view, ViewTree, numbered, group_kinds}
use Rattle.iv_meaning.specs.Database.{Database}
use Rattle.iv_meaning.specs.View.{share}
use Rattle.iv_meaning.specs.History.{Entry, fold, state_at}
use Rattle.iv_meaning.specs.Escrow.{over_sessions, paid, value}
use Rattle.txn_machine.specs.Deltas as machine
use Rattle.txn_machine.specs.Deltas.{place_of, is_for}
use Rattle.txn_machine.specs.Fresh.{fresh}
use Rattle.txn_machine.specs.Ghosts.{the_views}
use Rattle.txn_machine.specs.Keeping.{KeptStep, Put, Pay, increments}
use Rattle.txn_machine.specs.Stored.{ViewRows, stored_number, IsStoredRow, AreStored}
use Rattle.txn_machine.specs.Store.{committed, schema_of, now, entry_deltas, deltas_above}
use Rattle.txn_machine.specs.State.{State}
use Rattle.txn_machine.specs.May.{IsOpen}
use Rattle.txn_machine.specs.Laws.{IsReached, IsReadableAt}
use Rattle.txn_machine.proofs.Columns.{is_for_here, is_for_place}
use Rattle.txn_machine.proofs.Bounds.{over_zero}
use Rattle.txn_machine.proofs.Sharing.{fresh_law}
use Rattle.txn_machine.proofs.Summing.{due_append as machine_append}
use Rattle.txn_machine.proofs.Marks.{snapshot_law, prune_law, snap_of}
use Rattle.txn_machine.proofs.Peeking.{snapshot_readable_law}
use Rattle.txn_machine.proofs.Reached.{reached, absent_law}
use Rattle.txn_machine.proofs.Fetching.{in_range_law}
use Rattle.txn_machine.proofs.Shapes.{stored_row_law}
use Rattle.ghost_rows.specs.Numbers.{numbers_bytes, Fits128}
use Rattle.ghost_rows.specs.Kept as kept
use Rattle.ghost_rows.specs.State as views
use Rattle.ghost_rows.specs.State.{stored_at, AreKept}
use Rattle.ghost_rows.specs.Ghosts.{AreCommitted}
use Rattle.ghost_rows.proofs.NumberSteps.{numbers_same}
use Rattle.version_chain.specs.Chains.{is_of}
use Rattle.version_chain.specs.Deltas.{due, less, worth}
use Rattle.version_chain.specs.Law.{AreRising}
use Rattle.version_chain.proofs.Dues.{due_law, due_append}
use Rattle.data_store.specs.Contents.{contents_of, pays_on}
use Rattle.data_store.specs.Held.{IsHeld}
use Rattle.data_store.specs.Past.{Pendings, RowVersions}
use Rattle.data_store.specs.ViewPast.{DeltaVersions, WereViewRows}
use Rattle.data_store.specs.Machine.{delta_by, deltas_by, IsPast}
use Rattle.data_store.proofs.Listing.{huge_fit}
use Rattle.data_store.proofs.Left.{deltas_rise}

-- ---- values by their keys

module _ {K X Y : Type 0} (R : K → K → Ordering) (same : (x y : K) → R x y ≡ Ordering.Equal → x ≡ y) (f : K → X → Y) where
  abbrev pub told : List (K × X) → List (K × Y)
  told es = map (λ e. (e.0, f e.0 e.1)) es

  told_below : (k : K) (es : List (K × X)) → T (below_all R k es) → T (below_all R k (told es))
  told_below k [] h = tt
  told_below k (e ∷ es) h = both _ _ (first _ _ h) (told_below k es (second _ _ h))

  pub told_sorted : (es : List (K × X)) → T (is_sorted R es) → T (is_sorted R (told es))
  told_sorted [] s = tt
  told_sorted (e ∷ es) s = both _ _ (told_below e.0 es (first_below R e es s)) (told_sorted es (rest_sorted R e es s))

  pub find_told : (q : K) (es : List (K × X)) → find R q (told es) ≡ option_map (f q) (find R q es)
  find_told q [] = refl
  find_told q (e ∷ es) = elim (eq_by_cmp R q e.0) as (λ b. eq_by_cmp R q e.0 ≡ b → cond b (Some (f e.0 e.1)) (find R q (told es)) ≡ option_map (f q) (cond b (Some e.1) (find R q es))) [
    | true ↦ λ is. ap (λ (k : K). Some (f k e.1)) (sym (same q e.0 (equal _ is)))
    | false ↦ λ is. find_told q es
  ] refl

-- ---- numbers lessened

less_long : (f : ℕ → ℤ) (c : ℕ) (ns : List ℤ) → length (less f c ns) ≡ length ns
less_long f c [] = refl
less_long f c (n ∷ ns) = ap suc (less_long f (suc c) ns)

less_at : (f : ℕ → ℤ) (c : ℕ) (ns : List ℤ) (i : ℕ) → i < length ns → get_or (less f c ns) i (pos 0) ≡ get_or ns i (pos 0) -ℤ f (c + i)
less_at f c [] i lt = absurd (omega (arith, lt))
less_at f c (n ∷ ns) zero lt = ap (λ k. n -ℤ f k) (let e : c ≡ c + 0 = omega arith in e)
less_at f c (n ∷ ns) (suc i) lt = less_at f (suc c) ns i (omega (arith, lt)) ∙ ap (λ k. get_or ns i (pos 0) -ℤ f k) (let e : suc c + i ≡ c + suc i = omega arith in e)

-- numbers that are alike column by column
by_column : (ns ms : List ℤ) → length ns ≡ length ms → ((i : ℕ) → i < length ns → get_or ns i (pos 0) ≡ get_or ms i (pos 0)) → ns ≡ ms
by_column [] [] e h = refl
by_column [] (m ∷ ms) e h = absurd (omega (arith, e))
by_column (n ∷ ns) [] e h = absurd (omega (arith, e))
by_column (n ∷ ns) (m ∷ ms) e h = let here = h 0 (omega arith) in let rest = by_column ns ms (omega (arith, e)) (λ i lt. h (suc i) (omega (arith, lt))) in λ i. here i ∷ rest i

all_columns : (P : ℤ → Type 0) (ns : List ℤ) → ((i : ℕ) → i < length ns → P (get_or ns i (pos 0))) → AllByRecursion P ns
all_columns P [] h = tt
all_columns P (n ∷ ns) h = (h 0 (omega arith), all_columns P ns (λ i lt. h (suc i) (omega (arith, lt))))

-- ---- deltas above a number

pub of_place : (p : Place) (n : ℕ) (d : GroupDelta) → is_of p (delta_by n d) ≡ is_for p d
of_place p n d = by (is_for p d) refl
  where
    by : (b : Bool) → is_for p d ≡ b → eq_by_cmp place_cmp p (place_of d) ≡ b
    by true is = same_key place_cmp_total place_cmp-IsAntisymmetric p (place_of d) (is_for_place p d is)
    by false is = other_key place_cmp_total place_cmp-IsAntisymmetric p (place_of d) (λ e. let bad : true ≡ false = sym (is_for_here p d e) ∙ is in cc)

entry_above : (n m : ℕ) (p : Place) (column : ℕ) (ds : List GroupDelta) → nat_lt n m ≡ true → due n p column (map (delta_by m) ds) ≡ machine.due p column ds
entry_above n m p column [] is = refl
entry_above n m p column (d ∷ ds) is =
    let rest : due n p column (map (delta_by m) ds) ≡ machine.due p column ds = entry_above n m p column ds is in
    let here : (is_of p (delta_by m d) && nat_lt n m) ≡ is_for p d = (λ i. of_place p m d i && is i) ∙ and_true (is_for p d) in
    let one : due n p column (map (delta_by m) (d ∷ ds)) ≡ cond (is_for p d) (machine.worth column d) (pos 0) +ℤ due n p column (map (delta_by m) ds) = ap (λ b. cond b (worth column (record { count = d.count; sums = d.sums })) (pos 0) +ℤ due n p column (map (delta_by m) ds)) here in
    one ∙ ap (λ z. cond (is_for p d) (machine.worth column d) (pos 0) +ℤ z) rest
  where
    and_true : (b : Bool) → (b && true) ≡ b
    and_true true = refl
    and_true false = refl

entry_below : (n m : ℕ) (p : Place) (column : ℕ) (ds : List GroupDelta) → nat_lt n m ≡ false → due n p column (map (delta_by m) ds) ≡ pos 0
entry_below n m p column [] is = refl
entry_below n m p column (d ∷ ds) is =
    let rest : due n p column (map (delta_by m) ds) ≡ pos 0 = entry_below n m p column ds is in
    let none : (is_of p (delta_by m d) && nat_lt n m) ≡ false = ap (λ b. is_of p (delta_by m d) && b) is ∙ and_false (is_of p (delta_by m d)) in
    let one : due n p column (map (delta_by m) (d ∷ ds)) ≡ pos 0 +ℤ due n p column (map (delta_by m) ds) = ap (λ b. cond b (worth column (record { count = d.count; sums = d.sums })) (pos 0) +ℤ due n p column (map (delta_by m) ds)) none in
    omega (arith, ints, rest, one)
  where
    and_false : (b : Bool) → (b && false) ≡ false
    and_false true = refl
    and_false false = refl

pub not_below : (n m : ℕ) → nat_le m n ≡ true → nat_lt n m ≡ false
not_below n m is = grind (arith, is)

pub is_above : (n m : ℕ) → nat_le m n ≡ false → nat_lt n m ≡ true
is_above n m is = grind (arith, is)

-- the deltas of a history above a number add up to the machine's
pub history_due : (n : ℕ) (p : Place) (column : ℕ) (es : List Entry) (db : Database) → due n p column (deltas_by db es) ≡ machine.due p column (deltas_above the_views n db es)
history_due n p column [] db = refl
history_due n p column (e ∷ es) db =
    let next : Database = fold (e ∷ []) db in
    let here : List GroupDelta = entry_deltas the_views db e.kept in
    let later : List GroupDelta = deltas_above the_views n next es in
    let rest : due n p column (deltas_by next es) ≡ machine.due p column later = history_due n p column es next in
    let sum : due n p column (deltas_by db (e ∷ es)) ≡ due n p column (map (delta_by e.number) here) +ℤ due n p column (deltas_by next es) = due_append n p column (map (delta_by e.number) here) (deltas_by next es) in
    by (nat_le e.number n) refl here later rest sum
  where
    by : (b : Bool) → nat_le e.number n ≡ b → (here later : List GroupDelta) → due n p column (deltas_by (fold (e ∷ []) db) es) ≡ machine.due p column later
        → due n p column (deltas_by db (e ∷ es)) ≡ due n p column (map (delta_by e.number) here) +ℤ due n p column (deltas_by (fold (e ∷ []) db) es)
        → due n p column (deltas_by db (e ∷ es)) ≡ machine.due p column (cond (nat_le e.number n) later (here ++ later))
    by true is here later rest sum =
        let none : due n p column (map (delta_by e.number) here) ≡ pos 0 = entry_below n e.number p column here (not_below n e.number is) in
        let whole : due n p column (deltas_by db (e ∷ es)) ≡ machine.due p column later = omega (arith, ints, none, rest, sum) in
        whole ∙ ap (λ b. machine.due p column (cond b later (here ++ later))) (sym is)
    by false is here later rest sum =
        let own : due n p column (map (delta_by e.number) here) ≡ machine.due p column here = entry_above n e.number p column here (is_above n e.number is) in
        let both : machine.due p column (here ++ later) ≡ machine.due p column here +ℤ machine.due p column later = machine_append p column here later in
        let whole : due n p column (deltas_by db (e ∷ es)) ≡ machine.due p column (here ++ later) = omega (arith, ints, own, rest, sum, both) in
        whole ∙ ap (λ b. machine.due p column (cond b later (here ++ later))) (sym is)

none_due : (p : Place) (column : ℕ) (ds : List GroupDelta) → ((d : GroupDelta) → Contains ds d → is_for p d ≡ true → ⊥) → machine.due p column ds ≡ pos 0
none_due p column [] h = refl
none_due p column (d ∷ ds) h =
    let rest : machine.due p column ds ≡ pos 0 = none_due p column ds (λ x c. h x (suc c.0, omega (arith, c.1), c.2)) in
    let none : is_for p d ≡ false = by (is_for p d) refl in
    let one : machine.due p column (d ∷ ds) ≡ pos 0 +ℤ machine.due p column ds = ap (λ b. cond b (machine.worth column d) (pos 0) +ℤ machine.due p column ds) none in
    omega (arith, ints, rest, one)
  where
    by : (b : Bool) → is_for p d ≡ b → is_for p d ≡ false
    by true is = absurd (h d (0, omega arith, refl) is)
    by false is = is

-- ---- pays on a place

kept_increments : (p : Place) (column : ℕ) (ks : List KeptStep) → kept.increments column (pays_on p ks) ≡ increments p column ks
kept_increments p column [] = refl
kept_increments p column (Put c ds ∷ ks) = kept_increments p column ks
kept_increments p column (Pay d ∷ ks) = elim (is_for p d) as (λ b. kept.increments column (cond b (d ∷ pays_on p ks) (pays_on p ks)) ≡ cond b (machine.worth column d ∷ increments p column ks) (increments p column ks)) [
  | true ↦ ap (λ (l : List ℤ). machine.worth column d ∷ l) (kept_increments p column ks)
  | false ↦ kept_increments p column ks
]

-- ---- the views of an open snapshot

module _ (s : State) (r : IsReached s) (rows : RowVersions) (deltas : DeltaVersions) (pending : Pendings) (past : IsPast rows deltas pending s.store) (i : ℕ) (o : IsOpen s.store i) (snap : o.transaction.mode ≡ Snapshot) where
  abbrev n : ℕ
  n = o.transaction.number

  abbrev then_ : Database
  then_ = state_at s.store.origin s.store.history o.transaction.number

  marked : s.store.mark ≤ o.transaction.number
  marked = (snap_of s r i o snap).marked

  is_readable : IsReadableAt o.transaction.number (state_at s.store.origin s.store.history o.transaction.number) × ((state_at s.store.origin s.store.history o.transaction.number).schema ≡ schema_of s.store)
  is_readable = (snapshot_readable_law s r).1 i o snap

  -- what is paid to a column, and what was committed of it later
  abbrev paid_on : Place → ℕ → ℤ
  paid_on p column = over_sessions (λ t. paid (increments p column (now s.store t).kept))

  abbrev since : Place → ℕ → ℤ
  since p column = machine.due p column (deltas_above the_views o.transaction.number s.store.origin s.store.history)

  abbrev now_at : Place → ℕ → ℤ
  now_at p column = stored_number s.store.view p column

  abbrev then_at : Place → ℕ → ℤ
  then_at p column = fresh (state_at s.store.origin s.store.history o.transaction.number).schema (state_at s.store.origin s.store.history o.transaction.number).rows p column

  number_then : (p : Place) (column : ℕ) → now_at p column -ℤ (paid_on p column +ℤ since p column) ≡ then_at p column
  number_then p column = let law : now_at p column ≡ (then_at p column +ℤ since p column) +ℤ paid_on p column = snapshot_law s r i o snap p column in omega (arith, ints, law)

  -- the kept deltas tell what was committed later
  left_due : (p : Place) (column : ℕ) → due o.transaction.number p column deltas ≡ since p column
  left_due p column =
      let left = past.deltas in
      let rising : AreRising (deltas_by s.store.origin s.store.history) = deltas_rise s.store.history s.store.origin (reached s r).history in
      ap (λ (c : DeltaVersions × ℕ). due o.transaction.number p column c.0) (sym left.left)
      ∙ (due_law left.calls (subst AreRising (sym left.pushed) rising) o.transaction.number (subst (λ (c : DeltaVersions × ℕ). c.1 ≤ o.transaction.number) (sym left.left) marked) p column
      ∙ (ap (due o.transaction.number p column) left.pushed ∙ history_due o.transaction.number p column s.store.history s.store.origin))

  abbrev lessened : Place → List ℤ → List ℤ
  lessened p numbers = less (λ column. paid_on p column +ℤ since p column) 0 numbers

  -- the stored rows of views then
  pub view_then : ViewRows
  view_then = from_sorted (told place_cmp place_cmp-IsAntisymmetric lessened (entries s.store.view))

  pub get_then : (p : Place) → get view_then p ≡ option_map (lessened p) (get s.store.view p)
  unfolding view_then
  get_then p =
      get-from_sorted place_cmp (told place_cmp place_cmp-IsAntisymmetric lessened (entries s.store.view)) p (told_sorted place_cmp place_cmp-IsAntisymmetric lessened (entries s.store.view) (entries_sorted s.store.view))
      ∙ (find_told place_cmp place_cmp-IsAntisymmetric lessened p (entries s.store.view) ∙ ap (option_map (lessened p)) (sym (get-entries s.store.view p)))

  in_place : (p : Place) (numbers : List ℤ) → get s.store.view p ≡ Some numbers → (column : ℕ) → now_at p column ≡ get_or numbers column (pos 0)
  in_place p numbers there column = ap (λ (o : Option (List ℤ)). option_map_or (λ ns. get_or ns column (pos 0)) o (pos 0)) there

  lessened_at : (p : Place) (numbers : List ℤ) → get s.store.view p ≡ Some numbers → (column : ℕ) → column < length numbers → get_or (lessened p numbers) column (pos 0) ≡ then_at p column
  lessened_at p numbers there column lt =
      less_at (λ column. paid_on p column +ℤ since p column) 0 numbers column lt
      ∙ ((λ j. sym (in_place p numbers there column) j -ℤ (paid_on p (zero_plus column j) +ℤ since p (zero_plus column j))) ∙ number_then p column)
    where
      zero_plus : (k : ℕ) → 0 + k ≡ k
      zero_plus k = omega arith

  -- beside the columns of a stored row its group has nothing
  past_width : (p : Place) (numbers : List ℤ) → get s.store.view p ≡ Some numbers → (column : ℕ) → length numbers ≤ column → then_at p column ≡ pos 0
  past_width p numbers there column le =
      let row = stored_row_law s r p numbers there in
      let readable = is_readable.0 in
      let same = is_readable.1 in
      let is : numbered (state_at s.store.origin s.store.history o.transaction.number).schema p.0 ≡ Some (view row.of) = ap (λ (x : Schema). numbered x p.0) same ∙ row.view_is in
      let number : row.of.number ≡ p.0 = (readable.sound.objects p.0 (view row.of) is).0 in
      let fits : FitAll (group_kinds (state_at s.store.origin s.store.history o.transaction.number).schema row.of) row.group = subst (λ (x : Schema). FitAll (group_kinds x row.of) row.group) (sym same) row.fits in
      let key : key_bytes (group_kinds (state_at s.store.origin s.store.history o.transaction.number).schema row.of) row.group ≡ p.1 = ap (λ (x : Schema). key_bytes (group_kinds x row.of) row.group) same ∙ sym row.key in
      let width = row.width in
      (λ j. fresh (state_at s.store.origin s.store.history o.transaction.number).schema (state_at s.store.origin s.store.history o.transaction.number).rows (sym number j, sym key j) column)
      ∙ (fresh_law (state_at s.store.origin s.store.history o.transaction.number) readable.sound p.0 row.of is row.group fits column
      ∙ get_or_past (share (state_at s.store.origin s.store.history o.transaction.number).schema (state_at s.store.origin s.store.history o.transaction.number).rows row.of row.group) column (pos 0)
      (let long : length (share (state_at s.store.origin s.store.history o.transaction.number).schema (state_at s.store.origin s.store.history o.transaction.number).rows row.of row.group) ≡ suc (length row.of.sums) = ap suc (length-map row.of.sums _) in omega (arith, long, width, le)))

  absent_then : (p : Place) → get s.store.view p ≡ None → (column : ℕ) → then_at p column ≡ pos 0
  absent_then p none column =
      let zero_now : now_at p column ≡ pos 0 = ap (λ (o : Option (List ℤ)). option_map_or (λ ns. get_or ns column (pos 0)) o (pos 0)) none in
      let zero_paid : paid_on p column ≡ pos 0 = over_zero (λ t. paid (increments p column (now s.store t).kept)) (λ t is. ap paid ((absent_law s r p none).0 t is column)) in
      let zero_since : since p column ≡ pos 0 = none_due p column (deltas_above the_views o.transaction.number s.store.origin s.store.history) (λ d c. past.absent p none d (prune_law s.store o.transaction.number marked d c)) in
      let law : now_at p column -ℤ (paid_on p column +ℤ since p column) ≡ then_at p column = number_then p column in
      omega (arith, ints, zero_now, zero_paid, zero_since, law)

  -- their numbers are those of the views evaluated afresh
  pub numbers_then : (p : Place) (column : ℕ) → stored_number view_then p column ≡ then_at p column
  numbers_then p column = by (get s.store.view p) refl
    where
      by : (found : Option (List ℤ)) → get s.store.view p ≡ found → stored_number view_then p column ≡ then_at p column
      by None is = ap (λ (o : Option (List ℤ)). option_map_or (λ ns. get_or ns column (pos 0)) o (pos 0)) (get_then p ∙ ap (option_map (lessened p)) is) ∙ sym (absent_then p is column)
      by (Some numbers) is =
          ap (λ (o : Option (List ℤ)). option_map_or (λ ns. get_or ns column (pos 0)) o (pos 0)) (get_then p ∙ ap (option_map (lessened p)) is)
          ∙ elim (leb_tells (suc column) (length numbers)) [
            | inl t ↦ lessened_at p numbers is column t.1
            | inr f ↦
                let long = less_long (λ column. paid_on p column +ℤ since p column) 0 numbers in
                let past_end = f.1 in
                get_or_past (lessened p numbers) column (pos 0) (omega (arith, long, past_end)) ∙ sym (past_width p numbers is column (omega (arith, past_end)))
          ]

  pub stored_then : AreStored (schema_of s.store) view_then
  stored_then p numbers there = by (get s.store.view p) refl
    where
      by : (found : Option (List ℤ)) → get s.store.view p ≡ found → IsStoredRow (schema_of s.store) p numbers
      by None is = let bad : None ≡ Some numbers = sym (get_then p ∙ ap (option_map (lessened p)) is) ∙ there in absurd (cc)
      by (Some stored) is =
          let row = stored_row_law s r p stored is in
          let here : Some (lessened p stored) ≡ Some numbers = sym (get_then p ∙ ap (option_map (lessened p)) is) ∙ there in
          let same : lessened p stored ≡ numbers = cc in
          record { of = row.of; view_is = row.view_is; group = row.group; fits = row.fits; key = row.key; width = ap (λ (l : List ℤ). length l) (sym same) ∙ (less_long (λ column. paid_on p column +ℤ since p column) 0 stored ∙ row.width) }

  ranged_then : (p : Place) (numbers : List ℤ) → get view_then p ≡ Some numbers → AllByRecursion IsHuge numbers
  ranged_then p numbers there = all_columns IsHuge numbers (λ column lt.
      let is : stored_number view_then p column ≡ get_or numbers column (pos 0) = ap (λ (o : Option (List ℤ)). option_map_or (λ ns. get_or ns column (pos 0)) o (pos 0)) there in
      subst IsHuge (sym (numbers_then p column) ∙ is) (is_readable.0.in_range p column))

  module _ (ds : Definitions) (maps : ℕ → Map) (state : views.State) (held : IsHeld ds maps state (contents_of s.store)) (k : ℕ) (v : ViewTree) (is : numbered (schema_of s.store) k ≡ Some (view v)) where
    stored_is : (group : List ℕ) (numbers : List ℤ) → get s.store.view (k, group) ≡ Some numbers → stored_at maps (k, group) ≡ Some (numbers_bytes numbers)
    stored_is group numbers there = held.views k v is group ∙ ap (option_map numbers_bytes) there

    module _ (group : List ℕ) (numbers committed_ : List ℤ) (there : get s.store.view (k, group) ≡ Some numbers) (are : AreCommitted state maps (k, group) committed_) where
      keeps : AreKept state maps (k, group) (suc (length v.sums)) (λ session. pays_on (k, group) (now s.store session).kept)
      keeps = held.pays k v is group

      same_numbers : keeps.numbers ≡ numbers
      same_numbers =
          let bytes : numbers_bytes numbers ≡ numbers_bytes keeps.numbers = subst (λ (o : Option (List ℕ)). IfSome o (λ b. b ≡ numbers_bytes keeps.numbers)) (stored_is group numbers there) keeps.has.bytes in
          sym (numbers_same numbers keeps.numbers (huge_fit numbers (held.in_range k v is group numbers there)) (huge_fit keeps.numbers keeps.has.huge) bytes)

      long_numbers : length numbers ≡ suc (length v.sums)
      long_numbers = ap (λ (l : List ℤ). length l) (sym same_numbers) ∙ keeps.has.many

      are_for : (length committed_ ≡ suc (length v.sums)) × ((at : ℕ) → at < suc (length v.sums) → value (kept.account (get_or committed_ at (pos 0)) at (λ session. pays_on (k, group) (now s.store session).kept)) ≡ get_or keeps.numbers at (pos 0))
      are_for = are (length v.sums) (λ session. pays_on (k, group) (now s.store session).kept) keeps

      committed_at : (at : ℕ) → at < length committed_ → get_or committed_ at (pos 0) +ℤ paid_on (k, group) at ≡ get_or numbers at (pos 0)
      committed_at at lt =
          let long = are_for.0 in
          (λ j. get_or committed_ at (pos 0) +ℤ over_sessions (λ t. paid (sym (kept_increments (k, group) at (now s.store t).kept) j)))
          ∙ (are_for.1 at (omega (arith, long, lt)) ∙ ap (λ (l : List ℤ). get_or l at (pos 0)) same_numbers)

      fits_committed : Fits128 committed_
      fits_committed = huge_fit committed_ (all_columns IsHuge committed_ (λ at lt.
          let own : get_or committed_ at (pos 0) +ℤ paid_on (k, group) at ≡ get_or numbers at (pos 0) = committed_at at lt in
          let here : now_at (k, group) at ≡ get_or numbers at (pos 0) = in_place (k, group) numbers there at in
          let whole : now_at (k, group) at ≡ fresh (schema_of s.store) (committed s.store).rows (k, group) at +ℤ paid_on (k, group) at = (reached s r).view (k, group) at in
          let same : fresh (schema_of s.store) (committed s.store).rows (k, group) at ≡ get_or committed_ at (pos 0) = omega (arith, ints, own, here, whole) in
          subst IsHuge same ((in_range_law s r).0 (k, group) at)))

      same_less : lessened (k, group) numbers ≡ less (λ column. due o.transaction.number (k, group) column deltas) 0 committed_
      same_less =
          let long = are_for.0 in
          let one_long = less_long (λ column. paid_on (k, group) column +ℤ since (k, group) column) 0 numbers in
          let other_long = less_long (λ column. due o.transaction.number (k, group) column deltas) 0 committed_ in
          let width = long_numbers in
          by_column (lessened (k, group) numbers) (less (λ column. due o.transaction.number (k, group) column deltas) 0 committed_) (omega (arith, one_long, other_long, width, long))
          (λ at lt.
          let under : at < length committed_ = omega (arith, lt, one_long, width, long) in
          let one : get_or (lessened (k, group) numbers) at (pos 0) ≡ get_or numbers at (pos 0) -ℤ (paid_on (k, group) (0 + at) +ℤ since (k, group) (0 + at)) = less_at (λ column. paid_on (k, group) column +ℤ since (k, group) column) 0 numbers at (omega (arith, lt, one_long)) in
          let other : get_or (less (λ column. due o.transaction.number (k, group) column deltas) 0 committed_) at (pos 0) ≡ get_or committed_ at (pos 0) -ℤ due o.transaction.number (k, group) (0 + at) deltas = less_at (λ column. due o.transaction.number (k, group) column deltas) 0 committed_ at under in
          let own : get_or committed_ at (pos 0) +ℤ paid_on (k, group) at ≡ get_or numbers at (pos 0) = committed_at at under in
          let same : due o.transaction.number (k, group) (0 + at) deltas ≡ since (k, group) (0 + at) = left_due (k, group) (0 + at) in
          let paid_same : paid_on (k, group) (0 + at) ≡ paid_on (k, group) at = ap (paid_on (k, group)) (let e : 0 + at ≡ at = omega arith in e) in
          omega (arith, ints, one, other, own, same, paid_same))

    -- the rows of the view were these
    pub were_views : WereViewRows o.transaction.number deltas state maps k view_then
    were_views = record {
      absent = λ group none. get_then (k, group) ∙ ap (option_map (lessened (k, group))) (no_row (get s.store.view (k, group)) (sym (held.views k v is group) ∙ none));
      there = λ group some. by group (get s.store.view (k, group)) refl (subst (λ (o : Option (List ℕ)). IsSome o) (held.views k v is group) some);
      in_range = λ group numbers there. ranged_then (k, group) numbers there;
    }
      where
        no_row : (found : Option (List ℤ)) → option_map numbers_bytes found ≡ None → found ≡ None
        no_row None e = refl
        no_row (Some numbers) e = absurd (cc)

        by : (group : List ℕ) (found : Option (List ℤ)) → get s.store.view (k, group) ≡ found → IsSome (option_map numbers_bytes (get s.store.view (k, group)))
            → (numbers : List ℤ) × (get view_then (k, group) ≡ Some numbers)
            × ((committed_ : List ℤ) → AreCommitted state maps (k, group) committed_ → Fits128 committed_ × (numbers ≡ less (λ column. due o.transaction.number (k, group) column deltas) 0 committed_))
        by group None is some = let bad : IsSome {T = List ℕ} None = subst (λ (o : Option (List ℤ)). IsSome (option_map numbers_bytes o)) is some in absurd (cc)
        by group (Some numbers) is some = (
          lessened (k, group) numbers,
          get_then (k, group) ∙ ap (option_map (lessened (k, group))) is,
          λ committed_ are. (fits_committed group numbers committed_ is are, same_less group numbers committed_ is are),
        )
