-- A row of which nothing that the conditions say is false has its key in the interval of a part.
use Rattle.std.specs.Prelude.{◌≡◌, ℕ, ◌==◌, ◌||◌, not, Bool, true, false, cond, List, [], ◌∷◌, ◌++◌, map, filter, take, Option, Some, None}
use Rattle.std.specs.List.{AllByRecursion, flat_map, filter_map, list_any, cons_option}
use Rattle.std.specs.Option.{option_map_or}
use mathlib.Core.Path.{refl, sym, ap, subst, ◌∙◌}
use Rattle.std.proofs.Common.{eqb-true, append_assoc}
use Rattle.std.proofs.lemmas.List.Elements.{filter_map-append}
use Rattle.std.specs.declared.cmp.Ordering.{Ordering}
use Rattle.std.specs.declared.cmp.Ordering.TheVariants.{Less, Equal, Greater}
use Rattle.std.specs.Ordering.{is_lt, is_gt}
use Rattle.iv_types.specs.declared.value.Kind.{Kind}
use Rattle.iv_types.specs.declared.value.Value.{Value}
use Rattle.iv_types.specs.declared.value.Interval.{Interval}
use Rattle.iv_types.specs.declared.expression.Op.{Op}
use Rattle.iv_types.specs.declared.expression.Op.TheVariants as op
use Rattle.iv_types.specs.Encoding.{Fits, FitAll, key_bytes, key_value_bytes, value_cmp, lies_in}
use Rattle.iv_types.specs.Intervals.{next}
use Rattle.row_codec.specs.Ranges.{AreBytes}
use Rattle.iv_meaning.specs.Database.{Row}
use Rattle.iv_meaning.specs.Schema.{items_at}
use Rattle.iv_meaning.specs.Query.{Combination}
use Rattle.iv_meaning.specs.Values.{holds, lies_outside}
use Rattle.iv_meaning.specs.Plan.{Equal as TermEqual, Range, Term, equals, ranges, ColumnTerm, equals_of, ranges_of, on_column, first_equal, Part, part_by, greater, lesser, equal_value, low_end, high_end, low_of, high_of, interval_behind, all_keys, interval_of}
use Rattle.query_laws.proofs.Each.{each_append}
use Rattle.query_laws.proofs.Rising.{key_cmp, less_is}
use Rattle.query_laws.proofs.Keys.{IsFrom, IsUpTo, lies, from_prefix, key_are_bytes, key_split, key_front, key_next, from_at_least, from_greater, up_to_less, up_to_at_most}
use Rattle.query_laws.proofs.Fitting.{Column, HaveColumns, columns_fit, items_next, items_append}
use Rattle.query_laws.proofs.TermLemmas.{RowsAreOf, IsEqualTo, IsInside, IsWithin, IsSaidOf, IsSaid}

-- ---- ends

greater_from : (a b key : List ℕ) → IsFrom a key → IsFrom b key → IsFrom (greater a b) key
greater_from a b key f g = elim (is_lt (key_cmp a b)) as (λ t. IsFrom (cond t b a) key) [ true ↦ g | false ↦ f ]

lesser_up_to : (a b : Option (List ℕ)) (key : List ℕ) → IsUpTo key a → IsUpTo key b → IsUpTo key (lesser a b)
lesser_up_to None b key f g = g
lesser_up_to (Some a) None key f g = f
lesser_up_to (Some a) (Some b) key f g = elim (is_gt (key_cmp a b)) as (λ t. IsUpTo key (cond t (Some b) (Some a))) [ true ↦ g | false ↦ f ]

greater_is : (o : Ordering) → is_gt o ≡ true → o ≡ Greater
greater_is Less e = absurd (cc)
greater_is Equal e = absurd (cc)
greater_is Greater e = refl

not_negated : (b : Bool) → not b ≡ true → b ≡ false
not_negated true e = absurd (cc)
not_negated false e = refl

module _ (before : List (List Kind)) (ks : List Kind) (after : List (List Kind)) (rows : Combination) (row : Row) (before_are : RowsAreOf before rows) where
  abbrev Said : ColumnTerm → Type 0
  Said = IsSaid before ks after rows row before_are

  abbrev SaidOf : ℕ → Term → Type 0
  SaidOf = IsSaidOf before ks after rows row before_are

  abbrev EqualTo : ℕ → TermEqual → Type 0
  EqualTo = IsEqualTo before ks after rows row before_are

  -- its value does not lie outside the HUGE range
  abbrev Inside : TermEqual → Type 0
  Inside = IsInside before ks after rows row before_are

  abbrev Within : ℕ → Range → Type 0
  Within = IsWithin before ks after rows row before_are

  -- the key of the row's columns at some places
  abbrev pub key_at : List ℕ → List ℕ
  key_at places = key_bytes (items_at ks places) (items_at row places)

  -- ---- what is said of one column

  said_on : (place : ℕ) (ts : List ColumnTerm) → AllByRecursion Said ts → AllByRecursion (SaidOf place) (on_column place ts)
  said_on place [] h = tt
  said_on place (t ∷ ts) h =
      let rest = said_on place ts h.1 in
      elim (t.column == place) as (λ b. (t.column == place) ≡ b → AllByRecursion (SaidOf place) (map (λ (t : ColumnTerm). t.term) (cond b (t ∷ filter (λ (t : ColumnTerm). t.column == place) ts) (filter (λ (t : ColumnTerm). t.column == place) ts)))) [
        | true ↦ λ e. (subst (λ p. SaidOf p t.term) (eqb-true t.column place e) h.0, rest)
        | false ↦ λ e. rest
      ] refl

  -- where its value is inside, the column has it
  abbrev EqualInside : ℕ → TermEqual → Type 0
  EqualInside place e = Inside e → EqualTo place e

  equals_said : (place : ℕ) → Column ks row place → (ts : List Term) → AllByRecursion (SaidOf place) ts → AllByRecursion (EqualInside place) (flat_map equals_of ts)
  equals_said place c [] h = tt
  equals_said place c (equals e ∷ ts) h = (h.0 c, equals_said place c ts h.1)
  equals_said place c (ranges r ∷ ts) h = equals_said place c ts h.1

  ranges_said : (place : ℕ) → Column ks row place → (ts : List Term) → AllByRecursion (SaidOf place) ts → AllByRecursion (Within place) (flat_map ranges_of ts)
  ranges_said place c [] h = tt
  ranges_said place c (equals e ∷ ts) h = ranges_said place c ts h.1
  ranges_said place c (ranges r ∷ ts) h = (h.0 c, ranges_said place c ts h.1)

  first_said : (place : ℕ) (es fs : List TermEqual) (e : TermEqual) → AllByRecursion (EqualInside place) es → take 1 es ≡ e ∷ fs → EqualInside place e
  first_said place [] fs e h is = absurd (cc)
  first_said place (f ∷ es) fs e h is = subst (EqualInside place) (heads is) h.0
    where
      heads : f ∷ take 0 es ≡ e ∷ fs → f ≡ e
      heads is = cc

  -- ---- the ends of ranges on a column behind the leading ones

  module _ (prefix : List ℕ) (prefix_bytes : AreBytes prefix) (place : ℕ) (c : Column ks row place) (rest : List ℕ) (rest_bytes : AreBytes rest) (bytes : Value → List ℕ)
      (bytes_is : (v : Value) → bytes v ≡ prefix ++ key_value_bytes c.kind v) where
    abbrev key : List ℕ
    key = prefix ++ (key_value_bytes c.kind c.value ++ rest)

    same_column : (d : Column ks row place) → (d.kind ≡ c.kind) × (d.value ≡ c.value)
    same_column d =
        let kinds : Some d.kind ≡ Some c.kind = sym d.kind_is ∙ c.kind_is in
        let values : Some d.value ≡ Some c.value = sym d.value_is ∙ c.value_is in
        (cc, cc)

    within : (r : Range) → Within place r → Fits c.kind r.value × (holds r.op (value_cmp c.value r.value) ≡ true)
    within r w =
        let same = same_column w.0 in
        (subst (λ k. Fits k r.value) same.0 w.1, subst (λ v. holds r.op (value_cmp v r.value) ≡ true) same.1 w.2)

    low_by : (o : Op) (v : Value) (low : List ℕ) → Fits c.kind v → holds o (value_cmp c.value v) ≡ true → IsFrom low key
        → IsFrom (low_end bytes (record { op = o; value = v }) low) key
    low_by op.AtLeast v low f h l = greater_from low (bytes v) key l
        (subst (λ b. IsFrom b key) (sym (bytes_is v)) (from_at_least prefix prefix_bytes c.kind c.value v c.fits f rest rest_bytes (not_negated _ h)))
    low_by op.Greater v low f h l = greater_from low (option_map_or (λ b. b) (next (bytes v)) (bytes v)) key l
        (subst (λ (b : List ℕ). IsFrom (option_map_or (λ (x : List ℕ). x) (next b) b) key) (sym (bytes_is v)) (from_greater prefix prefix_bytes c.kind c.value v c.fits f rest rest_bytes (greater_is _ h)))
    low_by op.Or v low f h l = l
    low_by op.And v low f h l = l
    low_by op.Equal v low f h l = l
    low_by op.NotEqual v low f h l = l
    low_by op.Less v low f h l = l
    low_by op.AtMost v low f h l = l
    low_by op.Add v low f h l = l
    low_by op.Subtract v low f h l = l
    low_by op.Multiply v low f h l = l

    high_by : (o : Op) (v : Value) (high : Option (List ℕ)) → Fits c.kind v → holds o (value_cmp c.value v) ≡ true → IsUpTo key high
        → IsUpTo key (high_end bytes (record { op = o; value = v }) high)
    high_by op.Less v high f h u = lesser_up_to high (Some (bytes v)) key u
        (subst (λ b. IsUpTo key (Some b)) (sym (bytes_is v)) (up_to_less prefix prefix_bytes c.kind c.value v c.fits f rest rest_bytes (less_is _ h)))
    high_by op.AtMost v high f h u = lesser_up_to high (next (bytes v)) key u
        (subst (λ b. IsUpTo key (next b)) (sym (bytes_is v)) (up_to_at_most prefix prefix_bytes c.kind c.value v c.fits f rest rest_bytes (not_negated _ h)))
    high_by op.Or v high f h u = u
    high_by op.And v high f h u = u
    high_by op.Equal v high f h u = u
    high_by op.NotEqual v high f h u = u
    high_by op.Greater v high f h u = u
    high_by op.AtLeast v high f h u = u
    high_by op.Add v high f h u = u
    high_by op.Subtract v high f h u = u
    high_by op.Multiply v high f h u = u

    lows : (rs : List Range) (low : List ℕ) → AllByRecursion (Within place) rs → IsFrom low key → IsFrom (low_of bytes rs low) key
    lows [] low w l = l
    lows (r ∷ rs) low w l = let h = within r w.0 in lows rs (low_end bytes r low) w.1 (low_by r.op r.value low h.0 h.1 l)

    highs : (rs : List Range) (high : Option (List ℕ)) → AllByRecursion (Within place) rs → IsUpTo key high → IsUpTo key (high_of bytes rs high)
    highs [] high w u = u
    highs (r ∷ rs) high w u = let h = within r w.0 in highs rs (high_end bytes r high) w.1 (high_by r.op r.value high h.0 h.1 u)

  -- ---- equalities with a number outside the range

  in_all_keys : (k : List ℕ) → lies_in k all_keys ≡ true
  in_all_keys [] = refl
  in_all_keys (x ∷ k) = refl

  or_all : (b : Bool) (k : List ℕ) (interval : Interval) → lies_in k interval ≡ true → lies_in k (cond b all_keys interval) ≡ true
  or_all true k interval h = in_all_keys k
  or_all false k interval h = h

  any_append : (xs ys : List Value) → list_any lies_outside (xs ++ ys) ≡ list_any lies_outside xs || list_any lies_outside ys
  any_append [] ys = refl
  any_append (x ∷ xs) ys = ap (λ b. lies_outside x || b) (any_append xs ys) ∙ grouped (lies_outside x) (list_any lies_outside xs) (list_any lies_outside ys)
    where
      grouped : (a b c : Bool) → a || (b || c) ≡ (a || b) || c
      grouped true b c = refl
      grouped false b c = refl

  either_true : (a b : Bool) → a ≡ true → a || b ≡ true
  either_true true b h = refl
  either_true false b h = absurd (cc)

  neither_true : (a b : Bool) → a || b ≡ false → b ≡ false
  neither_true true b h = absurd (cc)
  neither_true false b h = h

  -- it stays one of the part's
  outside_stays : (ts : List ColumnTerm) (number : ℕ) (places : List ℕ) (equal : List TermEqual) → list_any lies_outside (filter_map (equal_value rows) equal) ≡ true
      → list_any lies_outside (filter_map (equal_value rows) (part_by ts number places equal).equal) ≡ true
  outside_stays ts number [] equal h = h
  outside_stays ts number (place ∷ places) equal h = go (first_equal ts place) (λ e. outside_stays ts number places (equal ++ e ∷ [])
      (ap (list_any lies_outside) (filter_map-append (equal_value rows) equal (e ∷ [])) ∙ (any_append (filter_map (equal_value rows) equal) (filter_map (equal_value rows) (e ∷ [])) ∙ either_true _ _ h)))
    where
      go : (es : List TermEqual) → ((e : TermEqual) → list_any lies_outside (filter_map (equal_value rows) (part_by ts number places (equal ++ e ∷ [])).equal) ≡ true)
          → list_any lies_outside (filter_map (equal_value rows) (elim es as (λ (l : List TermEqual). Part) [ [] ↦ record { index = number; equal = equal; ranges = flat_map ranges_of (on_column place ts) } | e ∷ fs ↦ part_by ts number places (equal ++ e ∷ []) ]).equal) ≡ true
      go [] f = h
      go (e ∷ fs) f = f e

  -- then the whole index is read
  in_all : (ts : List ColumnTerm) (number : ℕ) (places : List ℕ) (equal : List TermEqual) → list_any lies_outside (filter_map (equal_value rows) equal) ≡ true
      → (kinds : List Kind) (k : List ℕ) → lies_in k (interval_of kinds (part_by ts number places equal) rows) ≡ true
  in_all ts number places equal h kinds k =
      let part : Part = part_by ts number places equal in
      ap (λ b. lies_in k (cond b all_keys (interval_behind kinds (filter_map (equal_value rows) part.equal) part.ranges))) (outside_stays ts number places equal h) ∙ in_all_keys k

  last_inside : (equal : List TermEqual) (e : TermEqual) → list_any lies_outside (filter_map (equal_value rows) (equal ++ e ∷ [])) ≡ false → Inside e
  last_inside equal e h x is =
      let last : list_any lies_outside (filter_map (equal_value rows) (e ∷ [])) ≡ false =
      neither_true (list_any lies_outside (filter_map (equal_value rows) equal)) _ (sym (any_append (filter_map (equal_value rows) equal) (filter_map (equal_value rows) (e ∷ []))) ∙ (sym (ap (list_any lies_outside) (filter_map-append (equal_value rows) equal (e ∷ []))) ∙ h)) in
      left_false (lies_outside x) (sym (ap (λ (o : Option Value). list_any lies_outside (cons_option o [])) is) ∙ last)
    where
      left_false : (b : Bool) → b || false ≡ false → b ≡ false
      left_false true h = absurd (cc)
      left_false false h = refl

  -- ---- the interval of a part

  -- the leading columns, which have the values of the equalities, and the places that are left
  module _ (done places : List ℕ) (equal : List TermEqual) (done_in : HaveColumns ks row done) (told : filter_map (equal_value rows) equal ≡ items_at row done) where
    abbrev prefix : List ℕ
    prefix = key_at done

    done_fit : FitAll (items_at ks done) (items_at row done)
    done_fit = columns_fit ks row done done_in

    prefix_is : key_bytes (items_at ks (done ++ places)) (filter_map (equal_value rows) equal) ≡ prefix
    prefix_is =
        ap (key_bytes (items_at ks (done ++ places))) told
        ∙ (ap (λ (l : List Kind). key_bytes l (items_at row done)) (items_append ks done places)
        ∙ key_front (items_at ks done) (items_at ks places) (items_at row done) done_fit)

    key_is : (more : List ℕ) → key_at (done ++ more) ≡ prefix ++ key_at more
    key_is more =
        ap (λ (l : List Kind). key_bytes l (items_at row (done ++ more))) (items_append ks done more)
        ∙ (ap (key_bytes (items_at ks done ++ items_at ks more)) (items_append row done more)
        ∙ key_split (items_at ks done) (items_at ks more) (items_at row done) (items_at row more) done_fit)

    prefix_bytes : AreBytes prefix
    prefix_bytes = key_are_bytes (items_at ks done) (items_at row done) done_fit

    in_prefix : (more : List ℕ) → HaveColumns ks row more → IsFrom prefix (key_at (done ++ more)) × IsUpTo (key_at (done ++ more)) (next prefix)
    in_prefix more more_in =
        let all_fit = columns_fit ks row (done ++ more) (each_append (Column ks row) done more done_in more_in) in
        from_prefix prefix (key_at (done ++ more)) (key_are_bytes (items_at ks (done ++ more)) (items_at row (done ++ more)) all_fit) (key_at more, key_is more)

    inside_equal : (number : ℕ) (more : List ℕ) → HaveColumns ks row more → lies_in (key_at (done ++ more)) (interval_of (items_at ks (done ++ places)) (record { index = number; equal = equal; ranges = [] }) rows) ≡ true
    inside_equal number more more_in =
        let h = in_prefix more more_in in
        let low = key_bytes (items_at ks (done ++ places)) (filter_map (equal_value rows) equal) in
        or_all (list_any lies_outside (filter_map (equal_value rows) equal)) (key_at (done ++ more)) (record { low = low; high = next low })
        (lies (key_at (done ++ more)) (record { low = low; high = next low })
        (subst (λ b. IsFrom b (key_at (done ++ more))) (sym prefix_is) h.0)
        (subst (λ b. IsUpTo (key_at (done ++ more)) (next b)) (sym prefix_is) h.1))

  key_column : (place : ℕ) (c : Column ks row place) (more : List ℕ) → key_at (place ∷ more) ≡ key_value_bytes c.kind c.value ++ key_at more
  key_column place c more =
      ap (λ (l : List Kind). key_bytes l (items_at row (place ∷ more))) (items_next ks place more c.kind c.kind_is)
      ∙ ap (key_bytes (c.kind ∷ items_at ks more)) (items_next row place more c.value c.value_is)

  inside_ranges : (done : List ℕ) (place : ℕ) (tail : List ℕ) (equal : List TermEqual) → HaveColumns ks row done → filter_map (equal_value rows) equal ≡ items_at row done
      → Column ks row place → (rs : List Range) → AllByRecursion (Within place) rs → (number : ℕ) (more : List ℕ) → HaveColumns ks row more
      → lies_in (key_at (done ++ place ∷ more)) (interval_of (items_at ks (done ++ place ∷ tail)) (record { index = number; equal = equal; ranges = rs }) rows) ≡ true
  inside_ranges done place tail equal done_in told c rs w number more more_in =
      let kinds : List Kind = items_at ks (done ++ place ∷ tail) in
      let values : List Value = filter_map (equal_value rows) equal in
      let front : List ℕ = key_at done in
      let fits_done = columns_fit ks row done done_in in
      let fits_more = columns_fit ks row more more_in in
      let bytes : Value → List ℕ = λ (v : Value). key_bytes kinds (values ++ v ∷ []) in
      let bytes_are : (v : Value) → bytes v ≡ front ++ key_value_bytes c.kind v = λ (v : Value).
      ap (λ (l : List Value). key_bytes kinds (l ++ v ∷ [])) told
      ∙ (ap (λ (l : List Kind). key_bytes l (items_at row done ++ v ∷ [])) (items_append ks done (place ∷ tail) ∙ ap (λ (l : List Kind). items_at ks done ++ l) (items_next ks place tail c.kind c.kind_is))
      ∙ key_next (items_at ks done) (items_at ks tail) (items_at row done) c.kind v fits_done) in
      let whole_is : key_at (done ++ place ∷ more) ≡ front ++ (key_value_bytes c.kind c.value ++ key_at more) =
      key_is done (place ∷ tail) equal done_in told (place ∷ more) ∙ ap (λ (l : List ℕ). front ++ l) (key_column place c more) in
      let front_bytes = key_are_bytes (items_at ks done) (items_at row done) fits_done in
      let more_bytes = key_are_bytes (items_at ks more) (items_at row more) fits_more in
      let low : List ℕ = key_bytes kinds values in
      let start = in_prefix done (place ∷ tail) equal done_in told (place ∷ more) (c, more_in) in
      let low_is : low ≡ front = prefix_is done (place ∷ tail) equal done_in told in
      let from = lows front front_bytes place c (key_at more) more_bytes bytes bytes_are rs low w
      (subst (λ b. IsFrom b (front ++ (key_value_bytes c.kind c.value ++ key_at more))) (sym low_is) (subst (IsFrom front) whole_is start.0)) in
      let up_to = highs front front_bytes place c (key_at more) more_bytes bytes bytes_are rs (next low) w
      (subst (λ b. IsUpTo (front ++ (key_value_bytes c.kind c.value ++ key_at more)) (next b)) (sym low_is) (subst (λ k. IsUpTo k (next front)) whole_is start.1)) in
      or_all (list_any lies_outside values) (key_at (done ++ place ∷ more)) (record { low = low_of bytes rs low; high = high_of bytes rs (next low) })
      (subst (λ k. lies_in k (record { low = low_of bytes rs low; high = high_of bytes rs (next low) }) ≡ true) (sym whole_is)
      (lies (front ++ (key_value_bytes c.kind c.value ++ key_at more)) (record { low = low_of bytes rs low; high = high_of bytes rs (next low) }) from up_to))

  -- a further column, by what the terms hold equal to it
  next_column : (ts : List ColumnTerm) → AllByRecursion Said ts → (number place : ℕ) (places done : List ℕ) (equal : List TermEqual) (more : List ℕ)
      → HaveColumns ks row done → HaveColumns ks row (place ∷ places) → HaveColumns ks row more → filter_map (equal_value rows) equal ≡ items_at row done
      → ((e : TermEqual) → filter_map (equal_value rows) (equal ++ e ∷ []) ≡ items_at row (done ++ place ∷ [])
      → lies_in (key_at ((done ++ place ∷ []) ++ (places ++ more))) (interval_of (items_at ks ((done ++ place ∷ []) ++ places)) (part_by ts number places (equal ++ e ∷ [])) rows) ≡ true)
      → (es : List TermEqual) → first_equal ts place ≡ es
      → lies_in (key_at (done ++ (place ∷ places ++ more))) (interval_of (items_at ks (done ++ place ∷ places)) (elim es [ [] ↦ record { index = number; equal = equal; ranges = flat_map ranges_of (on_column place ts) } | e ∷ fs ↦ part_by ts number places (equal ++ e ∷ []) ]) rows) ≡ true
  next_column ts said number place places done equal more done_in places_in more_in told rest [] is =
      inside_ranges done place places equal done_in told places_in.0 (flat_map ranges_of (on_column place ts)) (ranges_said place places_in.0 (on_column place ts) (said_on place ts said)) number (places ++ more)
      (each_append (Column ks row) places more places_in.1 more_in)
  next_column ts said number place places done equal more done_in places_in more_in told rest (e ∷ fs) is =
      let said_e : EqualInside place e = first_said place (flat_map equals_of (on_column place ts)) fs e (equals_said place places_in.0 (on_column place ts) (said_on place ts said)) is in
      elim (list_any lies_outside (filter_map (equal_value rows) (equal ++ e ∷ []))) as (λ b. list_any lies_outside (filter_map (equal_value rows) (equal ++ e ∷ [])) ≡ b
      → lies_in (key_at (done ++ (place ∷ places ++ more))) (interval_of (items_at ks (done ++ place ∷ places)) (part_by ts number places (equal ++ e ∷ [])) rows) ≡ true) [
        | true ↦ λ out. in_all ts number places (equal ++ e ∷ []) out (items_at ks (done ++ place ∷ places)) (key_at (done ++ (place ∷ places ++ more)))
        | false ↦ λ none. next_equal (said_e (last_inside equal e none))
      ] refl
    where
      next_equal : EqualTo place e → lies_in (key_at (done ++ (place ∷ places ++ more))) (interval_of (items_at ks (done ++ place ∷ places)) (part_by ts number places (equal ++ e ∷ [])) rows) ≡ true
      next_equal h =
          let one_more : filter_map (equal_value rows) (equal ++ e ∷ []) ≡ items_at row (done ++ place ∷ []) =
          filter_map-append (equal_value rows) equal (e ∷ [])
          ∙ (ap (λ (l : List Value). l ++ cons_option (equal_value rows e) []) told
          ∙ (ap (λ (o : Option Value). items_at row done ++ cons_option o []) (h.2 ∙ sym h.1) ∙ sym (items_append row done (place ∷ [])))) in
          subst (λ (l : List ℕ). lies_in (key_at l) (interval_of (items_at ks (done ++ place ∷ places)) (part_by ts number places (equal ++ e ∷ [])) rows) ≡ true) (append_assoc done (place ∷ []) (places ++ more))
          (subst (λ (l : List ℕ). lies_in (key_at ((done ++ place ∷ []) ++ (places ++ more))) (interval_of (items_at ks l) (part_by ts number places (equal ++ e ∷ [])) rows) ≡ true) (append_assoc done (place ∷ []) places) (rest e one_more))

  -- the key lies in the interval of the part that the terms make of an index
  pub inside_part : (ts : List ColumnTerm) → AllByRecursion Said ts → (number : ℕ) (places done : List ℕ) (equal : List TermEqual) (more : List ℕ)
      → HaveColumns ks row done → HaveColumns ks row places → HaveColumns ks row more → filter_map (equal_value rows) equal ≡ items_at row done
      → lies_in (key_at (done ++ (places ++ more))) (interval_of (items_at ks (done ++ places)) (part_by ts number places equal) rows) ≡ true
  inside_part ts said number [] done equal more done_in places_in more_in told = inside_equal done [] equal done_in told number more more_in
  inside_part ts said number (place ∷ places) done equal more done_in places_in more_in told =
      next_column ts said number place places done equal more done_in places_in more_in told
      (λ e one_more. inside_part ts said number places (done ++ place ∷ []) (equal ++ e ∷ []) more
      (each_append (Column ks row) done (place ∷ []) done_in (places_in.0, tt)) places_in.1 more_in one_more)
      (first_equal ts place) refl
