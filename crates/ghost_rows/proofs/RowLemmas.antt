-- What calls on a row do to the kept pays that it stands for.
use Rattle.std.specs.Prelude.{◌≡◌, ◌≢◌, ℕ, zero, suc, ◌+◌, ◌<◌, ℤ, pos, ◌+ℤ◌, Bool, true, false, cond, List, [], ◌∷◌, ◌++◌, map, length, get_or, slice_get, Option, Some, None, IsSome, IfSome, is_some, Vec}
use mathlib.Core.Path.{refl, sym, ap, subst, ◌∙◌}
use Rattle.std.proofs.Common.{arith, rules}
use Rattle.std.proofs.lemmas.List.{length-map, with_items_is}
use Rattle.std.proofs.lemmas.Int.{wrapping_add_is, int_wrap_fits}
use Rattle.std.specs.Vec.{with_items}
use Rattle.std.specs.Prelude.{FitsSigned}
use Rattle.std.specs.Int.{w128, int_wrapping_add}
use Rattle.std.proofs.lemmas.Bool.{true≢false}
use Rattle.std.proofs.lemmas.Option.{slice_get_within, slice_get-get_or, get_or_from_slice_get}
use Rattle.std.specs.Option.{option_map, option_map_or}
use Rattle.std.specs.List.{AllByRecursion}
use Rattle.iv_types.specs.declared.lock.GroupDelta.{GroupDelta}
use Rattle.iv_types.specs.declared.lock.Prefix.{Prefix}
use Rattle.iv_types.specs.Encoding.{IsHuge}
use Rattle.txn_machine.specs.Deltas.{worth}
use Rattle.iv_meaning.specs.Escrow as meaning
use Rattle.iv_meaning.specs.Escrow.{IsSession, paid, prefix_of, inf, sup}
use Rattle.escrow_bounds.specs.Column.{Column, IsReserved, IsBeforeLatest, part, with_part, added, settled, untouched, none}
use Rattle.escrow_bounds.specs.declared.escrow.Range.{Range}
use Rattle.escrow_bounds.proofs.PartLemmas.{self_tie, untied}
use Rattle.escrow_bounds.proofs.KeepLemmas.{room_with_part, room_without, allowed_account, least-account, greatest-account}
use Rattle.table_laws.proofs.Stored.{by_session}
use Rattle.ghost_rows.specs.declared.shares.Share.{Share}
use Rattle.ghost_rows.specs.Shares.{sum_at, updated}
use Rattle.ghost_rows.specs.Numbers.{step, moved}
use Rattle.ghost_rows.specs.Rows.{OpenRow, EachMoved, EachColumn, AreAllowed, AreReserved, IsFirstRefused, Widens, HasRoom, settled_row}
use Rattle.ghost_rows.specs.Kept.{Pays, no_pays, with_pays, increments, account, width, ColumnStands, RowStands, IsRefusedAt, ArePrefixes, IsAsBefore, committed_at}
use Rattle.ghost_rows.proofs.Steps.{same_items, moved_from, moved_length, slice_get-map, all_at}
use Rattle.ghost_rows.proofs.ShareLemmas.{others, set_same, set_other, set_none, remove_same, remove_other, push_same, push_other}
use Rattle.ghost_rows.proofs.ColumnLemmas.{paid_column, taken_column, settled_column, widened_column, new_column, number_huge, committed_huge}

abbrev pub record_of : List Column → ℤ → List Share → OpenRow
record_of columns committed shares = record { columns = columns; committed = committed; shares = shares }

-- a row where a session ends that has this sum or none
abbrev settled_as : ℕ → OpenRow → Option ℤ → OpenRow
settled_as s row o = elim o [ None ↦ row | Some sum ↦ record_of (map (λ c. settled c s) row.columns) (int_wrapping_add w128 row.committed sum) (others s row.shares) ]

-- ---- numbers that are moved

pub moved_many : (back : Bool) (k : ℕ) (ns : List ℤ) (d : GroupDelta) → length (moved back k ns d) ≡ length ns
moved_many back k [] d = refl
moved_many back k (n ∷ ns) d = ap suc (moved_many back (suc k) ns d)

pub moved_at : (back : Bool) (k : ℕ) (ns : List ℤ) (d : GroupDelta) (i : ℕ) → i < length ns → get_or (moved back k ns d) i (pos 0) ≡ get_or ns i (pos 0) +ℤ step back (i + k) d
moved_at back k [] d i h = absurd (omega (arith, h))
moved_at back k (n ∷ ns) d zero h = let e : k ≡ 0 + k = omega arith in ap (λ j. n +ℤ step back j d) e
moved_at back k (n ∷ ns) d (suc i) h =
    let e : i + suc k ≡ suc i + k = omega arith in
    moved_at back (suc k) ns d i (omega (arith, h)) ∙ ap (λ j. get_or ns i (pos 0) +ℤ step back j d) e

pub first_moved : (back : Bool) (ns : List ℤ) (d : GroupDelta) (i : ℕ) → i < length ns → get_or (moved back 0 ns d) i (pos 0) ≡ get_or ns i (pos 0) +ℤ step back i d
first_moved back ns d i h = let e : i + 0 ≡ i = omega arith in moved_at back 0 ns d i h ∙ ap (λ j. get_or ns i (pos 0) +ℤ step back j d) e

-- ---- pays of sessions

pub pays_here : (pays : Pays) (s : ℕ) (ds : List GroupDelta) → with_pays pays s ds s ≡ ds
pays_here pays s ds = ap (λ b. cond b ds (pays s)) (self_tie s)

pub pays_other : (pays : Pays) (s : ℕ) (ds : List GroupDelta) (q : ℕ) → q ≢ s → with_pays pays s ds q ≡ pays q
pays_other pays s ds q n = ap (λ b. cond b ds (pays q)) (untied q s n)

zero_fits : FitsSigned w128 (pos 0)
zero_fits = search rules

no_some : IsSome {T = ℤ} None → ⊥
no_some e = true≢false (sym e)

pub is_it : {A : Type 0} (o : Option A) (x : A) → o ≡ Some x → IsSome o
is_it o x e = ap is_some e

some_same : {A : Type 0} (x y : A) → Some x ≡ Some y → x ≡ y
some_same x y e = cc

-- ---- a row whose columns move, and in which a session's share is set

module _ (row : OpenRow) (numbers : List ℤ) (pays : Pays) (st : RowStands row numbers pays) where
  within : (i : ℕ) (c : Column) → slice_get row.columns i ≡ Some c → i < length numbers
  within i c e = let l : i < length row.columns = slice_get_within row.columns i c e in omega (arith, l, st.many)

  -- each column as by its kept pays, and the sum of the session's share
  pub moved_row : (F : ℕ → Column → Column) (columns : List Column) (after : List ℤ) (s : ℕ) (sum : ℤ) (ds : List GroupDelta) → EachMoved F row.columns columns → length after ≡ length numbers
      → HasRoom s row → FitsSigned w128 sum → sum ≡ paid (increments 0 ds)
      → ((i : ℕ) (c : Column) → slice_get row.columns i ≡ Some c → ColumnStands (F i c) i (get_or after i (pos 0)) (with_pays pays s ds))
      → ((i : ℕ) (c : Column) → (F i c).committed ≡ c.committed) → ((i : ℕ) (c : Column) (q : ℕ) → IsReserved c q → IsReserved (F i c) q)
      → RowStands (record { columns = columns; committed = row.committed; shares = map (updated s sum) row.shares }) after (with_pays pays s ds)
  moved_row F columns after s sum ds moves many room fit is each keeps reserves = record {
    many = moved_length F row.columns columns moves ∙ (st.many ∙ sym many);
    columns = λ i c at. let from = moved_from (F i) (slice_get row.columns i) c (sym (moves i) ∙ at) in
        subst (λ x. ColumnStands x i (get_or after i (pos 0)) (with_pays pays s ds)) (sym from.2) (each i from.0 from.1);
    committed = λ c at. let from = moved_from (F 0) (slice_get row.columns 0) c (sym (moves 0) ∙ at) in
        st.committed from.0 from.1 ∙ (sym (keeps 0 from.0) ∙ ap (λ (x : Column). x.committed) (sym from.2));
    reserved = λ q has i c at. let from = moved_from (F i) (slice_get row.columns i) c (sym (moves i) ∙ at) in
        subst (λ x. IsReserved x q) (sym from.2) (reserves i from.0 q (st.reserved q (had q has) i from.0 from.1));
    sums = λ q z e. by_session q s
        (λ same.
        let mine : Some z ≡ Some sum = sym e ∙ (ap (sum_at (map (updated s sum) row.shares)) same ∙ set_same row.shares s sum room) in
        some_same z sum mine ∙ (is ∙ ap (λ ps. paid (increments 0 ps)) (sym (ap (with_pays pays s ds) same ∙ pays_here pays s ds))))
        (λ other. st.sums q z (sym (set_other row.shares s sum q other) ∙ e) ∙ ap (λ ps. paid (increments 0 ps)) (sym (pays_other pays s ds q other)));
    fits = λ q z e. by_session q s
        (λ same.
        let mine : Some z ≡ Some sum = sym e ∙ (ap (sum_at (map (updated s sum) row.shares)) same ∙ set_same row.shares s sum room) in
        subst (FitsSigned w128) (sym (some_same z sum mine)) fit)
        (λ other. st.fits q z (sym (set_other row.shares s sum q other) ∙ e));
    unpaid = λ q e. by_session q s
        (λ same. absurd (no_some (subst IsSome e (is_it _ sum (ap (sum_at (map (updated s sum) row.shares)) same ∙ set_same row.shares s sum room)))))
        (λ other. pays_other pays s ds q other ∙ st.unpaid q (sym (set_other row.shares s sum q other) ∙ e));
  }
    where
      had : (q : ℕ) → IsSome (sum_at (map (updated s sum) row.shares) q) → IsSome (sum_at row.shares q)
      had q has = by_session q s (λ same. subst (λ k. IsSome (sum_at row.shares k)) (sym same) room) (λ other. subst IsSome (set_other row.shares s sum q other) has)

  -- a session pays
  pub paid_row : (columns : List Column) (s : ℕ) (sum : ℤ) (d : GroupDelta) → IsSession s → HasRoom s row → AreAllowed s d row.columns
      → EachMoved (λ i c. added c s (worth i d)) row.columns columns → FitsSigned w128 sum → sum ≡ paid (increments 0 (d ∷ pays s))
      → RowStands (record { columns = columns; committed = row.committed; shares = map (updated s sum) row.shares }) (moved false 0 numbers d) (with_pays pays s (d ∷ pays s))
  paid_row columns s sum d session room allowed moves fit is =
      moved_row (λ i c. added c s (worth i d)) columns (moved false 0 numbers d) s sum (d ∷ pays s) moves (moved_many false 0 numbers d) room fit is
      (λ i c at. subst (λ n. ColumnStands (added c s (worth i d)) i n (with_pays pays s (d ∷ pays s))) (sym (first_moved false numbers d i (within i c at)))
      (paid_column c i (get_or numbers i (pos 0)) pays s d session (st.columns i c at) (allowed i c at)))
      (λ i c. refl) (λ i c q r. room_with_part c s _ q r)

  -- a session takes its latest pay back
  pub taken_row : (columns : List Column) (s : ℕ) (sum : ℤ) (d : GroupDelta) (earlier : List GroupDelta) (before : List Prefix) → IsSession s → HasRoom s row → pays s ≡ d ∷ earlier
      → ArePrefixes before (length numbers) earlier → EachMoved (λ i c. with_part c s (get_or before i none)) row.columns columns → FitsSigned w128 sum → sum ≡ paid (increments 0 earlier)
      → RowStands (record { columns = columns; committed = row.committed; shares = map (updated s sum) row.shares }) (moved true 0 numbers d) (with_pays pays s earlier)
  taken_row columns s sum d earlier before session room latest prefixes moves fit is =
      moved_row (λ i c. with_part c s (get_or before i none)) columns (moved true 0 numbers d) s sum earlier moves (moved_many true 0 numbers d) room fit is
      (λ i c at. subst (λ n. ColumnStands (with_part c s (get_or before i none)) i n (with_pays pays s earlier)) (sym (first_moved true numbers d i (within i c at)))
      (taken_column c i (get_or numbers i (pos 0)) pays s d earlier (get_or before i none) session (st.columns i c at) latest
      (get_or_from_slice_get before i (prefix_of (increments i earlier)) none (prefixes i (within i c at)))))
      (λ i c. refl) (λ i c q r. room_with_part c s _ q r)

  -- what is asked of the prefixes that are handed back
  pub latest_row : (s : ℕ) (d : GroupDelta) (earlier : List GroupDelta) (before : List Prefix) → pays s ≡ d ∷ earlier → ArePrefixes before (length numbers) earlier
      → EachColumn (λ i c. IsBeforeLatest (get_or before i none) (part c s)) row.columns
  latest_row s d earlier before latest prefixes i c at = record {
    latest = worth i d;
    earlier = increments i earlier;
    before = get_or_from_slice_get before i (prefix_of (increments i earlier)) none (prefixes i (within i c at));
    after = (st.columns i c at).stands.parts s ∙ ap (λ ps. prefix_of (increments i ps)) latest;
  }

  -- the prefixes that are answered
  pub prefixes_row : (s : ℕ) (before : List Prefix) → EachColumn (λ i c. slice_get before i ≡ Some (part c s)) row.columns → ArePrefixes before (length numbers) (pays s)
  prefixes_row s before each i lt =
      let inside : i < length row.columns = omega (arith, lt, st.many) in
      let c : Column = get_or row.columns i (untouched (pos 0)) in
      let at : slice_get row.columns i ≡ Some c = slice_get-get_or row.columns i (untouched (pos 0)) inside in
      each i c at ∙ ap Some ((st.columns i c at).stands.parts s)

  -- the first column that refuses a delta does so by the meaning
  pub refused_row : (s : ℕ) (d : GroupDelta) (at : ℕ) (range : Range) → length numbers ≡ width d → IsFirstRefused s d row.columns at range
      → IsRefusedAt (committed_at row) pays s d at range.inf range.sup
  refused_row s d at range many first =
      let here = st.columns at first.here first.is_here in
      let k : committed_at row at ≡ first.here.committed = ap (λ o. option_map_or (λ (c : Column). c.committed) o (pos 0)) first.is_here in
      let inside : at < length numbers = within at first.here first.is_here in
      record {
        within = omega (arith, inside, many);
        refused = λ allowed. first.refused ((allowed_account first.here s (worth at d) (account first.here.committed at pays) here.stands).1
            (subst (λ n. meaning.IsAllowed (account n at pays) s (worth at d)) k allowed));
        earlier = λ i lt.
            let before : i < length row.columns = omega (arith, lt, inside, st.many) in
            let c : Column = get_or row.columns i (untouched (pos 0)) in
            let is : slice_get row.columns i ≡ Some c = slice_get-get_or row.columns i (untouched (pos 0)) before in
            let j : committed_at row i ≡ c.committed = ap (λ o. option_map_or (λ (x : Column). x.committed) o (pos 0)) is in
            subst (λ n. meaning.IsAllowed (account n i pays) s (worth i d)) (sym j)
            ((allowed_account c s (worth i d) (account c.committed i pays) (st.columns i c is).stands).0 (first.earlier i c is lt));
        inf_is = ap (λ (r : Range). r.inf) first.range_is ∙ (least-account first.here (account first.here.committed at pays) here.stands ∙ ap (λ n. inf (account n at pays)) (sym k));
        sup_is = ap (λ (r : Range). r.sup) first.range_is ∙ (greatest-account first.here (account first.here.committed at pays) here.stands ∙ ap (λ n. sup (account n at pays)) (sym k));
      }

  -- columns that allow a delta do so by the meaning
  pub allowed_row : (s : ℕ) (d : GroupDelta) → AreAllowed s d row.columns → (i : ℕ) → i < length numbers → meaning.IsAllowed (account (committed_at row i) i pays) s (worth i d)
  allowed_row s d allowed i lt =
      let before : i < length row.columns = omega (arith, lt, st.many) in
      let c : Column = get_or row.columns i (untouched (pos 0)) in
      let is : slice_get row.columns i ≡ Some c = slice_get-get_or row.columns i (untouched (pos 0)) before in
      let j : committed_at row i ≡ c.committed = ap (λ o. option_map_or (λ (x : Column). x.committed) o (pos 0)) is in
      subst (λ n. meaning.IsAllowed (account n i pays) s (worth i d)) (sym j)
      ((allowed_account c s (worth i d) (account c.committed i pays) (st.columns i c is).stands).0 (allowed i c is))

  -- a session's share after a delta
  pub share_sum : (s : ℕ) (d : GroupDelta) (before : List Prefix) (sum : ℤ) → EachColumn (λ i c. slice_get before i ≡ Some (part c s)) row.columns → AreAllowed s d row.columns
      → 0 < length row.columns → (FitsSigned w128 ((get_or before 0 none).sum +ℤ worth 0 d) → sum ≡ (get_or before 0 none).sum +ℤ worth 0 d) → sum ≡ paid (increments 0 (d ∷ pays s))
  share_sum s d before sum each allowed some is =
      let c : Column = get_or row.columns 0 (untouched (pos 0)) in
      let at : slice_get row.columns 0 ≡ Some c = slice_get-get_or row.columns 0 (untouched (pos 0)) some in
      let first : get_or before 0 none ≡ part c s = get_or_from_slice_get before 0 (part c s) none (each 0 c at) in
      let fits : FitsSigned w128 ((get_or before 0 none).sum +ℤ worth 0 d) = subst (λ (p : Prefix). FitsSigned w128 (p.sum +ℤ worth 0 d)) (sym first) ((allowed 0 c at).sum).0 in
      is fits ∙ ap (λ (p : Prefix). p.sum +ℤ worth 0 d) (first ∙ (st.columns 0 c at).stands.parts s)

  -- ---- room is made

  pub widened_row : (columns : List Column) (shares : List Share) → EachColumn (λ i c. IfSome (slice_get columns i) (Widens c)) row.columns → length columns ≡ length row.columns
      → ((q : ℕ) → IsSome (sum_at shares q) → EachColumn (λ i c. IsReserved c q) columns)
      → ((q : ℕ) (sum : ℤ) → sum_at shares q ≡ Some sum → sum ≡ paid (increments 0 (pays q))) → ((q : ℕ) (sum : ℤ) → sum_at shares q ≡ Some sum → FitsSigned w128 sum) → ((q : ℕ) → sum_at shares q ≡ None → pays q ≡ [])
      → RowStands (record { columns = columns; committed = row.committed; shares = shares }) numbers pays
  widened_row columns shares widens same reserved sums fits unpaid = record {
    many = same ∙ st.many;
    columns = λ i c at. let w = wide i c at in widened_column w.0 c i (get_or numbers i (pos 0)) pays w.2 (st.columns i w.0 w.1);
    committed = λ c at. let w = wide 0 c at in st.committed w.0 w.1 ∙ sym w.2.committed;
    reserved = reserved;
    sums = sums;
    fits = fits;
    unpaid = unpaid;
  }
    where
      wide : (i : ℕ) (c : Column) → slice_get columns i ≡ Some c → (o : Column) × (slice_get row.columns i ≡ Some o) × Widens o c
      wide i c at =
          let l : i < length columns = slice_get_within columns i c at in
          let inside : i < length row.columns = omega (arith, l, same) in
          let o : Column = get_or row.columns i (untouched (pos 0)) in
          let there : slice_get row.columns i ≡ Some o = slice_get-get_or row.columns i (untouched (pos 0)) inside in
          (o, there, subst (λ x. IfSome x (Widens o)) at (widens i o there))

  wide_reserved : (columns : List Column) → EachColumn (λ i c. IfSome (slice_get columns i) (Widens c)) row.columns → length columns ≡ length row.columns
      → (q : ℕ) → IsSome (sum_at row.shares q) → EachColumn (λ i c. IsReserved c q) columns
  wide_reserved columns widens same q has i c at =
      let l : i < length columns = slice_get_within columns i c at in
      let inside : i < length row.columns = omega (arith, l, same) in
      let o : Column = get_or row.columns i (untouched (pos 0)) in
      let there : slice_get row.columns i ≡ Some o = slice_get-get_or row.columns i (untouched (pos 0)) inside in
      let w : Widens o c = subst (λ x. IfSome x (Widens o)) at (widens i o there) in
      w.room q (st.reserved q has i o there)

  -- with the shares that there were
  pub same_shares : (columns : List Column) → EachColumn (λ i c. IfSome (slice_get columns i) (Widens c)) row.columns → length columns ≡ length row.columns
      → RowStands (record { columns = columns; committed = row.committed; shares = row.shares }) numbers pays
  same_shares columns widens same = widened_row columns row.shares widens same (wide_reserved columns widens same) st.sums st.fits st.unpaid

  -- and with one more
  pub more_shares : (columns : List Column) (s : ℕ) → EachColumn (λ i c. IfSome (slice_get columns i) (Widens c)) row.columns → length columns ≡ length row.columns
      → EachColumn (λ i c. IsReserved c s) columns → sum_at row.shares s ≡ None
      → RowStands (record { columns = columns; committed = row.committed; shares = row.shares ++ record { session = s; sum = pos 0 } ∷ [] }) numbers pays
  more_shares columns s widens same reserved none =
      widened_row columns (row.shares ++ record { session = s; sum = pos 0 } ∷ []) widens same
      (λ q has. by_session q s
      (λ e. subst (λ k. EachColumn (λ i c. IsReserved c k) columns) (sym e) reserved)
      (λ n. wide_reserved columns widens same q (subst IsSome (push_other row.shares s (pos 0) q n) has)))
      (λ q sum is. by_session q s
      (λ e.
      let mine : Some sum ≡ Some (pos 0) = sym is ∙ (ap (sum_at (row.shares ++ record { session = s; sum = pos 0 } ∷ [])) e ∙ push_same row.shares s (pos 0) none) in
      some_same sum (pos 0) mine ∙ ap (λ ds. paid (increments 0 ds)) (sym (ap pays e ∙ st.unpaid s none)))
      (λ n. st.sums q sum (sym (push_other row.shares s (pos 0) q n) ∙ is)))
      (λ q sum is. by_session q s
      (λ e.
      let mine : Some sum ≡ Some (pos 0) = sym is ∙ (ap (sum_at (row.shares ++ record { session = s; sum = pos 0 } ∷ [])) e ∙ push_same row.shares s (pos 0) none) in
      subst (FitsSigned w128) (sym (some_same sum (pos 0) mine)) zero_fits)
      (λ n. st.fits q sum (sym (push_other row.shares s (pos 0) q n) ∙ is)))
      (λ q is. by_session q s
      (λ e. ap pays e ∙ st.unpaid s none)
      (λ n. st.unpaid q (sym (push_other row.shares s (pos 0) q n) ∙ is)))

  -- ---- a session ends

  pub ended_row : (columns : List Column) (s : ℕ) (sum committed : ℤ) → IsSession s → EachMoved (λ i c. settled c s) row.columns columns → sum_at row.shares s ≡ Some sum
      → (FitsSigned w128 (row.committed +ℤ sum) → committed ≡ row.committed +ℤ sum)
      → RowStands (record { columns = columns; committed = committed; shares = others s row.shares }) numbers (with_pays pays s [])
  ended_row columns s sum committed session moves share is = record {
    many = moved_length (λ i c. settled c s) row.columns columns moves ∙ st.many;
    columns = λ i c at. let from = moved_from (λ x. settled x s) (slice_get row.columns i) c (sym (moves i) ∙ at) in
        subst (λ x. ColumnStands x i (get_or numbers i (pos 0)) (with_pays pays s [])) (sym from.2) (settled_column from.0 i (get_or numbers i (pos 0)) pays s session (st.columns i from.0 from.1));
    committed = λ c at. let from = moved_from (λ x. settled x s) (slice_get row.columns 0) c (sym (moves 0) ∙ at) in
        let old = st.columns 0 from.0 from.1 in
        let whole : row.committed +ℤ sum ≡ (settled from.0 s).committed =
        ap (λ k. k +ℤ sum) (st.committed from.0 from.1) ∙ ap (λ z. from.0.committed +ℤ z) (st.sums s sum share ∙ ap (λ (p : Prefix). p.sum) (sym (old.stands.parts s))) in
        let huge = committed_huge (settled from.0 s) 0 (get_or numbers 0 (pos 0)) (with_pays pays s []) (settled_column from.0 0 (get_or numbers 0 (pos 0)) pays s session old) in
        is (subst (FitsSigned w128) (sym whole) huge.0) ∙ (whole ∙ ap (λ (x : Column). x.committed) (sym from.2));
    reserved = λ q has i c at. let from = moved_from (λ x. settled x s) (slice_get row.columns i) c (sym (moves i) ∙ at) in
        subst (λ x. IsReserved x q) (sym from.2) (by_session q s
        (λ e. absurd (no_some (subst IsSome (ap (sum_at (others s row.shares)) e ∙ remove_same row.shares s) has)))
        (λ n. room_without from.0 s (from.0.committed +ℤ (part from.0 s).sum) q n (st.reserved q (subst IsSome (remove_other row.shares s q n) has) i from.0 from.1)));
    sums = λ q z e. by_session q s
        (λ same. absurd (no_some (subst IsSome (ap (sum_at (others s row.shares)) same ∙ remove_same row.shares s) (is_it _ z e))))
        (λ n. st.sums q z (sym (remove_other row.shares s q n) ∙ e) ∙ ap (λ ps. paid (increments 0 ps)) (sym (pays_other pays s [] q n)));
    fits = λ q z e. by_session q s
        (λ same. absurd (no_some (subst IsSome (ap (sum_at (others s row.shares)) same ∙ remove_same row.shares s) (is_it _ z e))))
        (λ n. st.fits q z (sym (remove_other row.shares s q n) ∙ e));
    unpaid = λ q e. by_session q s
        (λ same. ap (with_pays pays s []) same ∙ pays_here pays s [])
        (λ n. pays_other pays s [] q n ∙ st.unpaid q (sym (remove_other row.shares s q n) ∙ e));
  }

  -- a session without room
  pub unpaid_row : (s : ℕ) → sum_at row.shares s ≡ None → RowStands row numbers (with_pays pays s [])
  unpaid_row s none = subst (RowStands row numbers) (λ i q. same q i) st
    where
      same : (q : ℕ) → pays q ≡ with_pays pays s [] q
      same q = by_session q s (λ e. (ap pays e ∙ st.unpaid s none) ∙ sym (ap (with_pays pays s []) e ∙ pays_here pays s [])) (λ n. sym (pays_other pays s [] q n))

-- room that was there is there
pub has_set : (xs : List Share) (s : ℕ) (v : ℤ) (q : ℕ) → IsSome (sum_at xs q) → IsSome (sum_at (map (updated s v) xs) q)
has_set xs s v q has = by_session q s
    (λ e. subst (λ k. IsSome (sum_at (map (updated s v) xs) k)) (sym e) (is_it _ v (set_same xs s v (subst (λ k. IsSome (sum_at xs k)) e has))))
    (λ n. subst IsSome (sym (set_other xs s v q n)) has)

pub has_unset : (xs : List Share) (s : ℕ) (v : ℤ) (q : ℕ) → IsSome (sum_at (map (updated s v) xs) q) → IsSome (sum_at xs q)
has_unset xs s v q has = by_some (sum_at xs q) (λ none. subst IsSome (none_set none) has)
  where
    none_set : sum_at xs q ≡ None → sum_at (map (updated s v) xs) q ≡ None
    none_set none = by_session q s
        (λ e. ap (λ k. sum_at (map (updated s v) xs) k) e ∙ set_none xs s v (ap (sum_at xs) (sym e) ∙ none))
        (λ n. set_other xs s v q n ∙ none)

    by_some : (o : Option ℤ) → (o ≡ None → IsSome {T = ℤ} None) → IsSome o
    by_some None f = f refl
    by_some (Some x) f = refl

-- a row whose shares were set
pub set_as_before : (old new : OpenRow) (s : ℕ) (v : ℤ) → new.shares ≡ map (updated s v) old.shares → new.committed ≡ old.committed → IsAsBefore old new
set_as_before old new s v e c = record {
  room = λ other has. subst (λ (l : List Share). IsSome (sum_at l other)) (sym e) (has_set old.shares s v other has);
  only = λ other has. has_unset old.shares s v other (subst (λ (l : List Share). IsSome (sum_at l other)) e has);
  committed = c;
}

pub as_before : (old new : OpenRow) → new ≡ old → IsAsBefore old new
as_before old new e = subst (λ r. IsAsBefore old r) (sym e) (record { room = λ other has. has; only = λ other has. has; committed = refl })

pub has_push : (xs : List Share) (s : ℕ) (v : ℤ) (q : ℕ) → sum_at xs s ≡ None → IsSome (sum_at xs q) → IsSome (sum_at (xs ++ record { session = s; sum = v } ∷ []) q)
has_push xs s v q none has = by_session q s
    (λ e. subst (λ k. IsSome (sum_at (xs ++ record { session = s; sum = v } ∷ []) k)) (sym e) (is_it _ v (push_same xs s v none)))
    (λ n. subst IsSome (sym (push_other xs s v q n)) has)

pub has_left : (xs : List Share) (s q : ℕ) → q ≢ s → IsSome (sum_at xs q) → IsSome (sum_at (others s xs) q)
has_left xs s q n has = subst IsSome (sym (remove_other xs s q n)) has

-- a new row
pub new_row : (numbers : List ℤ) (committed : ℤ) → AllByRecursion IsHuge numbers → ((n : ℤ) → slice_get numbers 0 ≡ Some n → committed ≡ n)
    → RowStands (record { columns = map untouched numbers; committed = committed; shares = [] }) numbers no_pays
new_row numbers committed huge is = record {
  many = length-map numbers untouched;
  columns = λ i c at. let from = from_number (slice_get numbers i) c (sym (slice_get-map untouched numbers i) ∙ at) in
      let l : i < length numbers = slice_get_within numbers i from.0 from.1 in
      subst (λ x. ColumnStands x i (get_or numbers i (pos 0)) no_pays) (sym (from.2 ∙ ap untouched (sym (get_or_from_slice_get numbers i from.0 (pos 0) from.1))))
      (new_column (get_or numbers i (pos 0)) i (all_at IsHuge numbers i (pos 0) l huge));
  committed = λ c at. let from = from_number (slice_get numbers 0) c (sym (slice_get-map untouched numbers 0) ∙ at) in
      is from.0 from.1 ∙ ap (λ (x : Column). x.committed) (sym from.2);
  reserved = λ q has. absurd (no_some has);
  sums = λ q z e. absurd (cc);
  fits = λ q z e. absurd (cc);
  unpaid = λ q e. refl;
}
  where
    from_number : (o : Option ℤ) (c : Column) → option_map untouched o ≡ Some c → (n : ℤ) × (o ≡ Some n) × (c ≡ untouched n)
    from_number None c e = absurd (cc)
    from_number (Some n) c e = (n, refl, let same : untouched n ≡ c = cc in sym same)

-- the same of lists that are those
pub row_as : (X A : List Column) (k j : ℤ) (Y B : List Share) (numbers : List ℤ) (pays : Pays) → X ≡ A → k ≡ j → Y ≡ B
    → RowStands (record { columns = A; committed = j; shares = B }) numbers pays → RowStands (record { columns = X; committed = k; shares = Y }) numbers pays
row_as X A k j Y B numbers pays x e y st =
    subst (λ (l : List Column). RowStands (record { columns = l; committed = k; shares = Y }) numbers pays) (sym x)
    (subst (λ n. RowStands (record { columns = A; committed = n; shares = Y }) numbers pays) (sym e)
    (subst (λ (l : List Share). RowStands (record { columns = A; committed = j; shares = l }) numbers pays) (sym y) st))

-- the columns of a row as a slice that was written
pub columns_as : {Z : Type 0} (v : Vec Column Z) (old new : List Column) → old ≡ v.items → length new ≡ length old → (with_items v new).items ≡ new
columns_as v old new o l = with_items_is v new (l ∙ (ap length o ∙ sym v.ok.0))

pub reserved_same : {Z : Type 0} (v : Vec Column Z) (committed : ℤ) (shares : List Share) (old new : List Column) (numbers : List ℤ) (pays : Pays) → old ≡ v.items → length new ≡ length old
    → EachColumn (λ i c. IfSome (slice_get new i) (Widens c)) old → RowStands (record { columns = v.items; committed = committed; shares = shares }) numbers pays
    → RowStands (record { columns = (with_items v new).items; committed = committed; shares = shares }) numbers pays
reserved_same v committed shares old new numbers pays o l widens st =
    row_as _ new committed committed shares shares numbers pays (columns_as v old new o l) refl refl
    (same_shares (record { columns = v.items; committed = committed; shares = shares }) numbers pays st new (subst (EachColumn (λ i c. IfSome (slice_get new i) (Widens c))) o widens) (l ∙ ap length o))

pub pushed_same : {Z : Type 0} (v : Vec Column Z) (committed : ℤ) (shares pushed : List Share) (s : ℕ) (old new : List Column) (numbers : List ℤ) (pays : Pays) → old ≡ v.items → length new ≡ length old
    → EachColumn (λ i c. IfSome (slice_get new i) (Widens c)) old → AreReserved s new → sum_at shares s ≡ None → pushed ≡ shares ++ record { session = s; sum = pos 0 } ∷ []
    → RowStands (record { columns = v.items; committed = committed; shares = shares }) numbers pays
    → RowStands (record { columns = (with_items v new).items; committed = committed; shares = pushed }) numbers pays
pushed_same v committed shares pushed s old new numbers pays o l widens reserved none is st =
    row_as _ new committed committed pushed (shares ++ record { session = s; sum = pos 0 } ∷ []) numbers pays (columns_as v old new o l) refl is
    (more_shares (record { columns = v.items; committed = committed; shares = shares }) numbers pays st new s (subst (EachColumn (λ i c. IfSome (slice_get new i) (Widens c))) o widens) (l ∙ ap length o) reserved none)

pub none_is : {A : Type 0} (o : Option A) → is_some o ≡ false → o ≡ None
none_is None e = refl
none_is (Some x) e = absurd (true≢false e)

-- a session with kept pays has room
pub paid_has_room : (row : OpenRow) (numbers : List ℤ) (pays : Pays) (s : ℕ) (d : GroupDelta) (earlier : List GroupDelta) → RowStands row numbers pays → pays s ≡ d ∷ earlier → IsSome (sum_at row.shares s)
paid_has_room row numbers pays s d earlier st latest = by_option (sum_at row.shares s) refl
  where
    by_option : (o : Option ℤ) → sum_at row.shares s ≡ o → IsSome o
    by_option None e = absurd (let no : d ∷ earlier ≡ [] = sym latest ∙ st.unpaid s e in cc)
    by_option (Some x) e = refl

pub pushed_none : {Z : Type 0} (v : Vec Column Z) (committed : ℤ) (shares pushed : List Share) (old new : List Column) (numbers : List ℤ) (pays : Pays) → old ≡ v.items → length new ≡ length old
    → EachColumn (λ i c. IfSome (slice_get new i) (Widens c)) old → pushed ≡ shares → RowStands (record { columns = v.items; committed = committed; shares = shares }) numbers pays
    → RowStands (record { columns = (with_items v new).items; committed = committed; shares = pushed }) numbers pays
pushed_none v committed shares pushed old new numbers pays o l widens is st =
    row_as _ new committed committed pushed shares numbers pays (columns_as v old new o l) refl is
    (same_shares (record { columns = v.items; committed = committed; shares = shares }) numbers pays st new (subst (EachColumn (λ i c. IfSome (slice_get new i) (Widens c))) o widens) (l ∙ ap length o))

-- the shares of a row as a slice that was written
pub shares_as : {Z : Type 0} (v : Vec Share Z) (old new : List Share) (a b : Share) (s : ℕ) → old ≡ v.items → length new ≡ length old → new ≡ map (updated a.session a.sum) old → a.session ≡ s
    → (with_items v new).items ≡ map (updated s a.sum) v.items
shares_as v old new a b s o l is e =
    with_items_is v new (l ∙ (ap length o ∙ sym v.ok.0)) ∙ (is ∙ (ap (λ k. map (updated k a.sum) old) e ∙ ap (map (updated s a.sum)) o))

-- a row that was paid to
pub paid_end : {Z W : Type 0} (v : Vec Column Z) (w : Vec Share W) (committed : ℤ) (refused between new : List Column) (olds shares : List Share) (a : Share) (s : ℕ) (d : GroupDelta) (before : List Prefix)
    (numbers : List ℤ) (pays : Pays) → IsSession s → IsSome (sum_at w.items s) → refused ≡ v.items → between ≡ (with_items v refused).items → length new ≡ length between
    → AreAllowed s d v.items → EachMoved (λ i c. added c s (worth i d)) between new → EachColumn (λ i c. slice_get before i ≡ Some (part c s)) between → 0 < length v.items
    → olds ≡ w.items → length shares ≡ length olds → shares ≡ map (updated a.session a.sum) olds → a.session ≡ s
    → (FitsSigned w128 ((get_or before 0 none).sum +ℤ worth 0 d) → a.sum ≡ (get_or before 0 none).sum +ℤ worth 0 d) → FitsSigned w128 a.sum
    → RowStands (record { columns = v.items; committed = committed; shares = w.items }) numbers pays
    → RowStands (record { columns = (with_items (with_items v refused) new).items; committed = committed; shares = (with_items w shares).items }) (moved false 0 numbers d) (with_pays pays s (d ∷ pays s))
paid_end v w committed refused between new olds shares a s d before numbers pays session room r b l allowed moves each some o ls is e sum fit st =
    let first : (with_items v refused).items ≡ v.items = columns_as v v.items refused refl (ap length r) ∙ r in
    let from : between ≡ v.items = b ∙ first in
    let row : OpenRow = record { columns = v.items; committed = committed; shares = w.items } in
    row_as _ new committed committed _ (map (updated s a.sum) w.items) (moved false 0 numbers d) (with_pays pays s (d ∷ pays s))
    (columns_as (with_items v refused) between new b l) refl (shares_as w olds shares a a s o ls is e)
    (paid_row row numbers pays st new s a.sum d session room allowed (subst (λ k. EachMoved (λ i c. added c s (worth i d)) k new) from moves) fit
    (share_sum row numbers pays st s d before a.sum (subst (EachColumn (λ i c. slice_get before i ≡ Some (part c s))) from each) allowed some sum))

pub taken_end : {Z W : Type 0} (v : Vec Column Z) (w : Vec Share W) (committed : ℤ) (olds new : List Column) (oldt shares : List Share) (a : Share) (s : ℕ) (d : GroupDelta) (earlier : List GroupDelta) (before : List Prefix)
    (numbers : List ℤ) (pays : Pays) → IsSession s → IsSome (sum_at w.items s) → olds ≡ v.items → length new ≡ length olds
    → EachMoved (λ i c. with_part c s (get_or before i none)) olds new → oldt ≡ w.items → length shares ≡ length oldt → shares ≡ map (updated a.session a.sum) oldt → a.session ≡ s
    → a.sum ≡ (get_or before 0 none).sum → pays s ≡ d ∷ earlier → ArePrefixes before (length numbers) earlier → 0 < length v.items → FitsSigned w128 a.sum
    → RowStands (record { columns = v.items; committed = committed; shares = w.items }) numbers pays
    → RowStands (record { columns = (with_items v new).items; committed = committed; shares = (with_items w shares).items }) (moved true 0 numbers d) (with_pays pays s earlier)
taken_end v w committed olds new oldt shares a s d earlier before numbers pays session room o l moves ot ls is e sum latest prefixes some fit st =
    let row : OpenRow = record { columns = v.items; committed = committed; shares = w.items } in
    let many : 0 < length numbers = omega (arith, some, st.many) in
    row_as _ new committed committed _ (map (updated s a.sum) w.items) (moved true 0 numbers d) (with_pays pays s earlier) (columns_as v olds new o l) refl (shares_as w oldt shares a a s ot ls is e)
    (taken_row row numbers pays st new s a.sum d earlier before session room latest prefixes (subst (λ k. EachMoved (λ i c. with_part c s (get_or before i none)) k new) o moves) fit
    (sum ∙ ap (λ (p : Prefix). p.sum) (get_or_from_slice_get before 0 (prefix_of (increments 0 earlier)) none (prefixes 0 many))))

pub settled_end : {Z W : Type 0} (v : Vec Column Z) (w : Vec Share W) (committed after sum : ℤ) (olds new : List Column) (shares : List Share) (s : ℕ) (numbers : List ℤ) (pays : Pays) → IsSession s
    → olds ≡ v.items → length new ≡ length olds → EachMoved (λ i c. settled c s) olds new → sum_at w.items s ≡ Some sum → shares ≡ others s w.items
    → (FitsSigned w128 (committed +ℤ sum) → after ≡ committed +ℤ sum)
    → RowStands (record { columns = v.items; committed = committed; shares = w.items }) numbers pays
    → RowStands (record { columns = (with_items v new).items; committed = after; shares = shares }) numbers (with_pays pays s [])
settled_end v w committed after sum olds new shares s numbers pays session o l moves share is whole st =
    row_as _ new after after shares (others s w.items) numbers (with_pays pays s []) (columns_as v olds new o l) refl is
    (ended_row (record { columns = v.items; committed = committed; shares = w.items }) numbers pays st new s sum after session (subst (λ k. EachMoved (λ i c. settled c s) k new) o moves) share whole)

pub settled_columns : (columns new : List Column) (s : ℕ) → EachMoved (λ i c. settled c s) columns new → new ≡ map (λ c. settled c s) columns
settled_columns columns new s moves = same_items new (map (λ c. settled c s) columns) (λ i. moves i ∙ sym (slice_get-map (λ c. settled c s) columns i))

pub row_is : (X A : List Column) (k j : ℤ) (Y B : List Share) → X ≡ A → k ≡ j → Y ≡ B → record_of X k Y ≡ record_of A j B
row_is X A k j Y B x e y = λ i. record_of (x i) (e i) (y i)

pub settled_some : (s : ℕ) (row : OpenRow) (sum : ℤ) → sum_at row.shares s ≡ Some sum
    → settled_row s row ≡ record_of (map (λ c. settled c s) row.columns) (int_wrapping_add w128 row.committed sum) (others s row.shares)
settled_some s row sum e = ap (settled_as s row) e

pub settled_none : (s : ℕ) (row : OpenRow) → sum_at row.shares s ≡ None → settled_row s row ≡ row
settled_none s row e = ap (settled_as s row) e

-- the numbers of a row that stands for kept pays lie in the HUGE range
pub numbers_huge : (row : OpenRow) (numbers : List ℤ) (pays : Pays) → RowStands row numbers pays → AllByRecursion IsHuge numbers
numbers_huge row numbers pays st = from_each numbers (λ i lt.
    let before : i < length row.columns = omega (arith, lt, st.many) in
    let c : Column = get_or row.columns i (untouched (pos 0)) in
    number_huge c i (get_or numbers i (pos 0)) pays (st.columns i c (slice_get-get_or row.columns i (untouched (pos 0)) before)))
  where
    from_each : (ns : List ℤ) → ((i : ℕ) → i < length ns → IsHuge (get_or ns i (pos 0))) → AllByRecursion IsHuge ns
    from_each [] f = tt
    from_each (n ∷ ns) f = (f 0 (omega arith), from_each ns (λ i lt. f (suc i) (omega (arith, lt))))

pub huge_fit : (ns : List ℤ) → AllByRecursion IsHuge ns → AllByRecursion (λ n. FitsSigned w128 n) ns
huge_fit [] h = tt
huge_fit (n ∷ ns) h = (h.0.0, huge_fit ns h.1)

-- what becomes of a row where a session ends
pub settled_stands : (s : ℕ) (row : OpenRow) (numbers : List ℤ) (pays : Pays) → IsSession s → FitsSigned w128 row.committed → RowStands row numbers pays → RowStands (settled_row s row) numbers (with_pays pays s [])
settled_stands s row numbers pays session fit st = by_sum (sum_at row.shares s) refl
  where
    by_sum : (o : Option ℤ) → sum_at row.shares s ≡ o → RowStands (settled_row s row) numbers (with_pays pays s [])
    by_sum None e = subst (λ r. RowStands r numbers (with_pays pays s [])) (sym (settled_none s row e)) (unpaid_row row numbers pays st s e)
    by_sum (Some sum) e =
        subst (λ r. RowStands r numbers (with_pays pays s [])) (sym (settled_some s row sum e))
        (ended_row row numbers pays st (map (λ c. settled c s) row.columns) s sum (int_wrapping_add w128 row.committed sum) session (slice_get-map (λ c. settled c s) row.columns) e
        (λ f. wrapping_add_is w128 row.committed sum fit (st.fits s sum e) ∙ int_wrap_fits w128 (row.committed +ℤ sum) f))

pub committed_fits : (row : OpenRow) (numbers : List ℤ) (pays : Pays) → RowStands row numbers pays → 0 < length numbers → FitsSigned w128 row.committed
committed_fits row numbers pays st lt =
    let before : 0 < length row.columns = omega (arith, lt, st.many) in
    let c : Column = get_or row.columns 0 (untouched (pos 0)) in
    let at : slice_get row.columns 0 ≡ Some c = slice_get-get_or row.columns 0 (untouched (pos 0)) before in
    subst (FitsSigned w128) (sym (st.committed c at)) ((committed_huge c 0 (get_or numbers 0 (pos 0)) pays (st.columns 0 c at)).0)
