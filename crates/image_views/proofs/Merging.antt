-- The rows of a view beside its stored rows: what is told of some groups and of those behind them.
use Rattle.std.specs.Prelude.{◌≡◌, ◌≢◌, ℕ, zero, suc, ◌+◌, ◌<◌, ◌≤◌, ℤ, true, false, cond, T, List, [], ◌∷◌, map, drop, length, get_or, Option, Some, None}
use Rattle.std.proofs.Common.{arith, add-one}
use Rattle.std.proofs.Math.Seq.{drop-cons}
use mathlib.Core.Path.{refl, sym, ap, subst, ◌∙◌}
use Rattle.std.proofs.lemmas.Bool.{true≢false}
use Rattle.std.specs.FinMap.{find, is_sorted, get}
use Rattle.std.specs.FinMap.Entries.{below_all}
use Rattle.std.specs.declared.cmp.Ordering.TheVariants.{Less}
use Rattle.std.specs.Ordering.{is_eq, is_lt}
use Rattle.std.specs.Cmp.{tied_itself}
use Rattle.std.specs.Cmp.Lexicographic.{nat_list_cmp_total}
use Rattle.iv_types.specs.Maps.{Map, Entry}
use Rattle.iv_types.specs.declared.lock.ViewRow.{ViewRow}
use Rattle.table_laws.proofs.Tables.{other_key, by_bool}
use Rattle.table_store.proofs.Places.{first_below, rest_sorted, first, both, less, less_true, below_less}
use Rattle.table_store.proofs.Maps.{by_bytes, bytes_same}
use Rattle.image_views.specs.declared.wrong.WrongRow.{WrongRow}
use Rattle.image_views.specs.Rows.{ByGroup, AreAlike, Differ, IsCounted, IsBytesOf, AreBytesOf, is_behind, Between, UpTo, Any, Stands, IsStandingIn, IsToldOf, AreBeside, entry_of}
use Rattle.image_views.proofs.Alike.{has_none, same_bytes_alike, other_bytes_differ}
use Rattle.image_views.proofs.Gaps.{by_order, not_below_itself, behind_later, absent_below}

-- what a wrong row says of a side
abbrev pub Says : Option (List ℕ) → Option (List ℤ) → Type 0
Says bytes told = (width : ℕ) (row : Option (List ℤ)) → IsBytesOf width bytes row → told ≡ row

none_bytes : IsBytesOf 0 None None
none_bytes = record { bytes_are = refl; fits = λ ns e. absurd (cc e); long = λ ns e. absurd (cc e) }

-- ---- between two groups

pub none_between : (Of : List ℕ → Type 0) (view : ℕ) (m : Map) (stored fresh : ByGroup) → IsStandingIn Of m stored None → ((g : List ℕ) → Of g → fresh g ≡ None) → IsToldOf Of view stored fresh None
none_between Of view m stored fresh h none g of = subst (AreAlike (stored g)) (sym (none g of)) (h g of)

pub wrong_between : (Of : List ℕ → Type 0) (view : ℕ) (m : Map) (width : ℕ) (stored fresh : ByGroup) → AreBytesOf width (get m) stored → (e : Entry) → Stands Of m stored e → ((g : List ℕ) → Of g → fresh g ≡ None)
    → (w : WrongRow) → w.view ≡ view → w.group ≡ e.0 → Says (Some e.1) w.stored → Says None w.fresh → IsToldOf Of view stored fresh (Some w)
wrong_between Of view m width stored fresh are e s none w of_view at says_stored says_fresh = record {
  view_is = of_view;
  of = subst Of (sym at) s.of;
  stored_is = says_stored width (stored e.0) (subst (λ o. IsBytesOf width o (stored e.0)) s.there (are e.0)) ∙ ap stored (sym at);
  fresh_is = says_fresh 0 None none_bytes ∙ sym (none w.group (subst Of (sym at) s.of));
  differ = subst (λ x. Differ (stored x) (fresh x)) (sym at) (subst (Differ (stored e.0)) (sym (none e.0 s.of)) s.differ);
  first = λ g of lt. subst (AreAlike (stored g)) (sym (none g of)) (s.first g of (subst (λ x. by_bytes g x ≡ Less) at lt));
}

-- ---- at a group

abbrev pub Only : List ℕ → List ℕ → Type 0
Only k group = group ≡ k

pub same_at : (view : ℕ) (k : List ℕ) (width : ℕ) (o : Option (List ℕ)) (bytes : List ℕ) (stored fresh : ByGroup) → o ≡ Some bytes → IsBytesOf width o (stored k) → IsBytesOf width (Some bytes) (fresh k) → IsToldOf (Only k) view stored fresh None
same_at view k width o bytes stored fresh same s f g at =
    subst (λ x. AreAlike (stored x) (fresh x)) (sym at) (same_bytes_alike width width bytes (stored k) (fresh k) (subst (λ b. IsBytesOf width b (stored k)) same s) f)

pub wrong_at : (view : ℕ) (k : List ℕ) (width : ℕ) (o : Option (List ℕ)) (bytes : List ℕ) (stored fresh : ByGroup) → o ≢ Some bytes → IsBytesOf width o (stored k) → IsBytesOf width (Some bytes) (fresh k) → IsCounted (fresh k)
    → (w : WrongRow) → w.view ≡ view → w.group ≡ k → Says o w.stored → Says (Some bytes) w.fresh → IsToldOf (Only k) view stored fresh (Some w)
wrong_at view k width o bytes stored fresh other s f counted w of_view at says_stored says_fresh = record {
  view_is = of_view;
  of = at;
  stored_is = says_stored width (stored k) s ∙ ap stored (sym at);
  fresh_is = says_fresh width (fresh k) f ∙ ap fresh (sym at);
  differ = subst (λ x. Differ (stored x) (fresh x)) (sym at) (other_bytes_differ width o bytes (stored k) (fresh k) other s f counted);
  first = λ g here lt. absurd (not_below_itself k (subst (λ x. by_bytes k x ≡ Less) at (subst (λ x. by_bytes x w.group ≡ Less) here lt)));
}

-- ---- up to a group

not_behind : (k g : List ℕ) → by_bytes g k ≡ Less → is_behind (Some k) g ≡ false
not_behind k g lt = by_bool (is_behind (Some k) g)
    (λ t. absurd (not_below_itself g (nat_list_cmp_total.trans g k g lt (less_true _ t))))
    (λ f. f)

between_up_to : (last : Option (List ℕ)) (k g : List ℕ) → Between last (Some k) g → UpTo last k g
between_up_to last k g h = (h.0, not_behind k g (less_true _ h.1))

pub first_up_to : (last : Option (List ℕ)) (k : List ℕ) (view : ℕ) (stored fresh : ByGroup) (w : WrongRow) → IsToldOf (Between last (Some k)) view stored fresh (Some w) → IsToldOf (UpTo last k) view stored fresh (Some w)
first_up_to last k view stored fresh w h = record {
  view_is = h.view_is;
  of = between_up_to last k w.group h.of;
  stored_is = h.stored_is;
  fresh_is = h.fresh_is;
  differ = h.differ;
  first = λ g of lt. h.first g (of.0, ap is_lt (nat_list_cmp_total.trans g w.group k lt (less_true _ h.of.1))) lt;
}

itself_up_to : (k g : List ℕ) → g ≡ k → is_behind (Some k) g ≡ false
itself_up_to k g same = by_bool (is_behind (Some k) g) (λ t. absurd (not_below_itself k (subst (λ x. by_bytes k x ≡ Less) same (less_true _ t)))) (λ f. f)

pub told_up_to : (last : Option (List ℕ)) (k : List ℕ) → is_behind last k ≡ true → (view : ℕ) (stored fresh : ByGroup) → IsToldOf (Between last (Some k)) view stored fresh None
    → (found : Option WrongRow) → IsToldOf (Only k) view stored fresh found → IsToldOf (UpTo last k) view stored fresh found
told_up_to last k behind view stored fresh none None h = λ g of. by_order g k
    (λ lt. none g (of.0, ap is_lt lt))
    (λ same. h g same)
    (λ lt. absurd (true≢false (sym (ap is_lt lt) ∙ of.1)))
told_up_to last k behind view stored fresh none (Some w) h = record {
  view_is = h.view_is;
  of = (subst (λ x. is_behind last x ≡ true) (sym h.of) behind, itself_up_to k w.group h.of);
  stored_is = h.stored_is;
  fresh_is = h.fresh_is;
  differ = h.differ;
  first = λ g of lt. none g (of.0, ap is_lt (subst (λ x. by_bytes g x ≡ Less) h.of lt));
}

-- ---- a walk over the view's rows

-- the rows that are left are those behind a group
abbrev pub AllBehind : Option (List ℕ) → List Entry → Type 0
AllBehind None left = Unit {0}
AllBehind (Some k) left = T (below_all by_bytes k left)

pub record IsRest (all left : List Entry) (last : Option (List ℕ)) : Type 0 where
  pub found : (g : List ℕ) → is_behind last g ≡ true → find by_bytes g all ≡ find by_bytes g left
  pub sorted : T (is_sorted by_bytes left)
  pub ahead : AllBehind last left

module _ (all left : List Entry) (e : Entry) where
  first_ahead : (last : Option (List ℕ)) → AllBehind last (e ∷ left) → is_behind last e.0 ≡ true
  first_ahead None h = refl
  first_ahead (Some k) h = ap is_lt (less _ (first _ _ h))

  pub rest_behind : (last : Option (List ℕ)) → IsRest all (e ∷ left) last → is_behind last e.0 ≡ true
  rest_behind last r = first_ahead last r.ahead

  pub rest_here : (last : Option (List ℕ)) → IsRest all (e ∷ left) last → find by_bytes e.0 all ≡ Some e.1
  rest_here last r = r.found e.0 (rest_behind last r) ∙ ap (λ w. cond (is_eq w) (Some e.1) (find by_bytes e.0 left)) (tied_itself nat_list_cmp_total e.0)

  pub rest_none : (last : Option (List ℕ)) → IsRest all (e ∷ left) last → (g : List ℕ) → Between last (Some e.0) g → find by_bytes g all ≡ None
  rest_none last r g h =
      let lt : by_bytes g e.0 ≡ Less = less_true _ h.1 in
      r.found g h.0 ∙ absent_below g (e ∷ left) (both _ _ (subst (λ w. T (is_lt w)) (sym lt) tt) (below_less nat_list_cmp_total bytes_same g e.0 left lt (first_below by_bytes e left r.sorted)))

  pub rest_next : (last : Option (List ℕ)) → IsRest all (e ∷ left) last → IsRest all left (Some e.0)
  rest_next last r = record {
    found = λ g h. r.found g (behind_later last e.0 g (rest_behind last r) (less_true _ h))
        ∙ ap (λ b. cond b (Some e.1) (find by_bytes g left)) (other_key nat_list_cmp_total bytes_same g e.0 (λ same. not_below_itself e.0 (subst (λ x. by_bytes e.0 x ≡ Less) same (less_true _ h))));
    sorted = rest_sorted by_bytes e left r.sorted;
    ahead = first_below by_bytes e left r.sorted;
  }

pub record IsWalkedTo (rows : List ViewRow) (stored fresh : ByGroup) (at : ℕ) (last : Option (List ℕ)) : Type 0 where
  pub passed : (g : List ℕ) → is_behind last g ≡ false → AreAlike (stored g) (fresh g)
  pub rest : IsRest (map entry_of rows) (map entry_of (drop at rows)) last

-- the stored rows and the view's rows, as far as they are walked
abbrev pub AreWalked : Map → List ViewRow → ℕ → Option (List ℕ) → Type 0
AreWalked m rows at last = (width : ℕ) (stored fresh : ByGroup) → AreBeside width m rows stored fresh → IsWalkedTo rows stored fresh at last

pub walk_begins : (m : Map) (rows : List ViewRow) → AreWalked m rows 0 None
walk_begins m rows width stored fresh b = record {
  passed = λ g h. absurd (true≢false h);
  rest = record { found = λ g h. refl; sorted = b.in_order; ahead = tt };
}

-- one more row is walked
module _ (m : Map) (rows : List ViewRow) (at next : ℕ) (last : Option (List ℕ)) (row : ViewRow) (left_is : drop at rows ≡ row ∷ drop next rows) where
  abbrev Here : List Entry → Type 0
  Here left = IsRest (map entry_of rows) left last

  rest_with : (stored fresh : ByGroup) → IsWalkedTo rows stored fresh at last → Here (entry_of row ∷ map entry_of (drop next rows))
  rest_with stored fresh w = subst (λ (l : List ViewRow). Here (map entry_of l)) left_is w.rest

  pub its_bytes : (width : ℕ) (stored fresh : ByGroup) → AreBeside width m rows stored fresh → IsWalkedTo rows stored fresh at last → IsBytesOf width (Some (entry_of row).1) (fresh row.group)
  its_bytes width stored fresh b w = subst (λ o. IsBytesOf width o (fresh row.group)) (rest_here (map entry_of rows) (map entry_of (drop next rows)) (entry_of row) last (rest_with stored fresh w)) (b.fresh_are row.group)

  pub its_place : (stored fresh : ByGroup) → IsWalkedTo rows stored fresh at last → is_behind last row.group ≡ true
  its_place stored fresh w = rest_behind (map entry_of rows) (map entry_of (drop next rows)) (entry_of row) last (rest_with stored fresh w)

  pub none_before : (width : ℕ) (stored fresh : ByGroup) → AreBeside width m rows stored fresh → IsWalkedTo rows stored fresh at last → (g : List ℕ) → Between last (Some row.group) g → fresh g ≡ None
  none_before width stored fresh b w g h = has_none width (fresh g)
      (subst (λ o. IsBytesOf width o (fresh g)) (rest_none (map entry_of rows) (map entry_of (drop next rows)) (entry_of row) last (rest_with stored fresh w) g h) (b.fresh_are g))

  pub walk_goes_on : (stored fresh : ByGroup) (view : ℕ) → IsWalkedTo rows stored fresh at last → IsToldOf (UpTo last row.group) view stored fresh None → IsWalkedTo rows stored fresh next (Some row.group)
  walk_goes_on stored fresh view w told = record {
    passed = λ g h. by_bool (is_behind last g) (λ t. told g (t, h)) (λ f. w.passed g f);
    rest = rest_next (map entry_of rows) (map entry_of (drop next rows)) (entry_of row) last (rest_with stored fresh w);
  }

  pub walk_stops : (stored fresh : ByGroup) (view : ℕ) → IsWalkedTo rows stored fresh at last → (w : WrongRow) → IsToldOf (UpTo last row.group) view stored fresh (Some w) → IsToldOf Any view stored fresh (Some w)
  walk_stops stored fresh view walked w h = record {
    view_is = h.view_is;
    of = tt;
    stored_is = h.stored_is;
    fresh_is = h.fresh_is;
    differ = h.differ;
    first = λ g of lt. by_bool (is_behind last g) (λ t. h.first g (t, before_most g lt) lt) (λ f. walked.passed g f);
  }
    where
      before_most : (g : List ℕ) → by_bytes g w.group ≡ Less → is_behind (Some row.group) g ≡ false
      before_most g lt = by_bool (is_behind (Some row.group) g)
          (λ t. absurd (true≢false (sym (ap is_lt (nat_list_cmp_total.trans row.group g w.group (less_true _ t) lt)) ∙ h.of.1)))
          (λ f. f)

pub none_behind : (m : Map) (rows : List ViewRow) (at : ℕ) (last : Option (List ℕ)) (width : ℕ) (stored fresh : ByGroup) → AreBeside width m rows stored fresh → IsWalkedTo rows stored fresh at last → drop at rows ≡ []
    → (g : List ℕ) → Between last None g → fresh g ≡ None
none_behind m rows at last width stored fresh b w none g h = has_none width (fresh g)
    (subst (λ o. IsBytesOf width o (fresh g)) (w.rest.found g h.0 ∙ ap (λ (l : List ViewRow). find by_bytes g (map entry_of l)) none) (b.fresh_are g))

pub walk_ends : (rows : List ViewRow) (at : ℕ) (last : Option (List ℕ)) (view : ℕ) (stored fresh : ByGroup) → IsWalkedTo rows stored fresh at last → (found : Option WrongRow) → IsToldOf (Between last None) view stored fresh found → IsToldOf Any view stored fresh found
walk_ends rows at last view stored fresh walked None h = λ g of. by_bool (is_behind last g) (λ t. h g (t, refl)) (λ f. walked.passed g f)
walk_ends rows at last view stored fresh walked (Some w) h = record {
  view_is = h.view_is;
  of = tt;
  stored_is = h.stored_is;
  fresh_is = h.fresh_is;
  differ = h.differ;
  first = λ g of lt. by_bool (is_behind last g) (λ t. h.first g (t, refl) lt) (λ f. walked.passed g f);
}

-- ---- places in a list

next_in : (rows : List ViewRow) (i : ℕ) (row : ViewRow) → i < length rows → row ≡ get_or rows i row → drop i rows ≡ row ∷ drop (i + 1) rows
next_in rows i row lt is = drop-cons rows i row lt ∙ (λ j. sym is j ∷ drop (sym (add-one i) j) rows)

pub next_left : (slice rows : List ViewRow) → slice ≡ rows → (i : ℕ) (row : ViewRow) → i < length slice → row ≡ get_or slice i row → drop i rows ≡ row ∷ drop (i + 1) rows
next_left slice rows same i row lt is = subst (λ (l : List ViewRow). drop i l ≡ row ∷ drop (i + 1) l) same (next_in slice i row lt is)

pub none_left : (rows : List ViewRow) (i : ℕ) → length rows ≤ i → drop i rows ≡ []
none_left [] zero le = refl
none_left [] (suc i) le = refl
none_left (row ∷ rows) zero le = absurd (omega (arith, le))
none_left (row ∷ rows) (suc i) le = none_left rows i (omega (arith, le))
