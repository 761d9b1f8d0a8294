-- What is found of the views below an object number.
use Rattle.std.specs.Prelude.{◌≡◌, ◌≢◌, ◌⊎◌, ℕ, zero, suc, ◌<◌, ◌≤◌, List, [], ◌∷◌, ◌++◌, length, slice_get, ℤ, pos, ◌+ℤ◌, get_or, Option, Some, None}
use Rattle.std.specs.List.{flat_map, filter_map}
use Rattle.std.specs.Option.{option_map_or}
use mathlib.Core.Path.{refl, sym, ap, subst, ◌∙◌}
use mathlib.Core.Logic.{inl, inr}
use Rattle.std.proofs.Common.{arith, rules}
use Rattle.std.proofs.lemmas.Int.{ints}
use Rattle.std.proofs.lemmas.List.{length-map}
use Rattle.std.specs.FinMap.{get}
use Rattle.std.specs.declared.cmp.Ordering.{Ordering}
use Rattle.std.specs.declared.cmp.Ordering.TheVariants.{Less, Equal, Greater}
use Rattle.std.specs.Ordering.{nat_cmp, ordering_then}
use Rattle.std.specs.FinMap.{nat_cmp-IsAntisymmetric}
use Rattle.std.proofs.lemmas.Bool.{cases_lt}
use Rattle.iv_types.specs.Encoding.{IsHuge}
use Rattle.iv_types.specs.Maps.{Map}
use Rattle.iv_types.specs.Definitions.{Definitions}
use Rattle.iv_types.specs.declared.lock.ViewRow.{ViewRow}
use Rattle.table_laws.specs.Place.{Place, place_cmp}
use Rattle.table_store.proofs.Maps.{by_bytes}
use Rattle.iv_meaning.specs.Objects.{object_of, schema_of}
use Rattle.iv_meaning.specs.Schema.{Schema, Object, table, index, view, ViewTree, numbered, as_view}
use Rattle.iv_meaning.specs.Database.{Rows}
use Rattle.txn_machine.specs.Deltas.{due}
use Rattle.txn_machine.specs.Stored.{ViewRows, AreStored, IsStoredRow, stored_number}
use Rattle.txn_machine.specs.Fresh.{fresh, all_contributions}
use Rattle.txn_machine.specs.Laws.{AreInRange}
use Rattle.txn_machine.specs.ViewLaws.{AreSound}
use Rattle.txn_machine.proofs.Ranging.{huge_zero}
use Rattle.txn_machine.proofs.Sharing.{apart_due}
use Rattle.txn_machine.proofs.Summing.{all_ones, due_append}
use Rattle.txn_log.specs.Refused.{IsFreshAt}
use Rattle.ghost_rows.specs.State.{State}
use Rattle.data_store.specs.Contents.{Contents}
use Rattle.image_views.specs.declared.wrong.WrongRow.{WrongRow}
use Rattle.image_views.specs.declared.wrong.ViewsFound.{ViewsFound}
use Rattle.image_views.specs.declared.wrong.ViewsFound.TheVariants.{Same, OutOfRange, Differs}
use Rattle.image_views.specs.Rows.{ByGroup, column_of, Any, IsToldOf}
use Rattle.image_views.specs.Compared.{CanCompare, CanEvaluate, pages_of, IsFreshRow, IsInRange, AreFreshRows, IsNoView, IsWrong, IsFound, AreInRangeBelow, IsFoundBelow}

-- ---- a number of no view

module _ (objects : Schema) (rows : Rows) (p : Place) (column : ℕ) where
  none_due : (os : List Object) → ((i : ℕ) (w : ViewTree) → slice_get os i ≡ Some (view w) → w.number ≢ p.0) → due p column (flat_map (all_contributions objects rows) (filter_map as_view os)) ≡ pos 0
  none_due [] h = refl
  none_due (table t ∷ os) h = none_due os (λ i w e. h (suc i) w e)
  none_due (index x ∷ os) h = none_due os (λ i w e. h (suc i) w e)
  none_due (view w ∷ os) h =
      let rest : due p column (flat_map (all_contributions objects rows) (filter_map as_view os)) ≡ pos 0 = none_due os (λ i x e. h (suc i) x e) in
      let here : due p column (all_contributions objects rows w) ≡ pos 0 = apart_due p column w.number (all_contributions objects rows w) (all_ones objects w rows) (h 0 w refl) in
      let whole : due p column (all_contributions objects rows w ++ flat_map (all_contributions objects rows) (filter_map as_view os)) ≡ due p column (all_contributions objects rows w) +ℤ due p column (flat_map (all_contributions objects rows) (filter_map as_view os)) =
      due_append p column (all_contributions objects rows w) (flat_map (all_contributions objects rows) (filter_map as_view os)) in
      omega (arith, ints)

  none_fresh : AreSound objects rows → IsNoView objects p.0 → fresh objects rows p column ≡ pos 0
  none_fresh sound unseen = none_due objects (λ i w e same.
      let number : w.number ≡ suc i = (sound.objects (suc i) (view w) e).0 in
      unseen w (ap (numbered objects) (sym same ∙ number) ∙ e))

none_stored : (objects : Schema) (stored : ViewRows) → AreStored objects stored → (p : Place) → IsNoView objects p.0 → (column : ℕ) → stored_number stored p column ≡ pos 0
none_stored objects stored are p unseen column = go (get stored p) refl
  where
    go : (o : Option (List ℤ)) → get stored p ≡ o → option_map_or (λ ns. get_or ns column (pos 0)) o (pos 0) ≡ pos 0
    go None e = refl
    go (Some ns) e = let r : IsStoredRow objects p ns = are p ns e in absurd (unseen r.of r.view_is)

-- ---- one number more

last_or_less : (n m : ℕ) → n < suc m → (n < m) ⊎ (n ≡ m)
last_or_less n m lt = elim (cases_lt n m) [
  | inl less ↦ inl less
  | inr le ↦ inr (omega (arith, lt, le))
]

pub range_more : (c : Contents) (n : ℕ) → AreInRangeBelow c n → IsInRange c n → AreInRangeBelow c (suc n)
range_more c n below here number lt = elim (last_or_less number n lt) [
  | inl less ↦ below number less
  | inr same ↦ subst (IsInRange c) (sym same) here
]

fresh_more : (c : Contents) (n : ℕ) → ((p : Place) → p.0 < n → IsFreshAt (pages_of 0 c) p) → ((g : List ℕ) → IsFreshAt (pages_of 0 c) (n, g)) → (p : Place) → p.0 < suc n → IsFreshAt (pages_of 0 c) p
fresh_more c n below here p lt = elim (last_or_less p.0 n lt) [
  | inl less ↦ below p less
  | inr same ↦ subst (λ k. IsFreshAt (pages_of 0 c) (k, p.1)) (sym same) (here p.1)
]

module _ (ds : Definitions) (maps : ℕ → Map) (state : State) (c : Contents) (can : CanCompare ds maps state c) where
  -- the view of a number has it, and can be evaluated
  pub own_number : (n : ℕ) (v : ViewTree) → numbered (schema_of ds) n ≡ Some (view v) → v.number ≡ n
  own_number n v e = (can.sound.objects n (view v) (ap (λ os. numbered os n) (sym can.readable.held.objects) ∙ e)).0

  pub evaluable : (n : ℕ) (v : ViewTree) → numbered (schema_of ds) n ≡ Some (view v) → CanEvaluate ds maps state v c
  evaluable n v e = record {
    comparable = can;
    is_there = ap (numbered c.objects) (own_number n v e) ∙ (ap (λ os. numbered os n) (sym can.readable.held.objects) ∙ e);
  }

  pub unseen_view : (n : ℕ) → IsNoView (schema_of ds) n → IsNoView c.objects n
  unseen_view n unseen v e = unseen v (ap (λ os. numbered os n) can.readable.held.objects ∙ e)

  no_range : (n : ℕ) → IsNoView c.objects n → IsInRange c n
  no_range n unseen g column = subst IsHuge (sym (none_fresh c.objects c.rows (n, g) column can.sound unseen)) huge_zero

  no_row : (n : ℕ) → IsNoView c.objects n → (g : List ℕ) → IsFreshAt (pages_of 0 c) (n, g)
  no_row n unseen g column = none_stored c.objects c.view can.readable.stored (n, g) unseen column ∙ sym (none_fresh c.objects c.rows (n, g) column can.sound unseen)

  pub found_more : (n : ℕ) → IsNoView c.objects n → (found : ViewsFound) → IsFoundBelow c n found → IsFoundBelow c (suc n) found
  found_more n unseen Same h = (range_more c n h.0 (no_range n unseen), fresh_more c n h.1 (no_row n unseen))
  found_more n unseen OutOfRange h = h
  found_more n unseen (Differs w) h = (range_more c n h.0 (no_range n unseen), h.1)

  pub found_first : IsFoundBelow c 1 Same
  found_first = found_more 0 (λ v e. absurd (cc e)) Same ((λ number lt. absurd (omega (arith, lt))), (λ p lt. absurd (omega (arith, lt))))

  beyond : (os : List Object) (i : ℕ) → length os ≤ i → slice_get os i ≡ None
  beyond [] i le = refl
  beyond (o ∷ os) zero le = absurd (omega (arith, le))
  beyond (o ∷ os) (suc i) le = beyond os i (omega (arith, le))

  objects_long : length c.objects ≡ length ds
  objects_long = ap length (sym can.readable.held.objects) ∙ length-map ds object_of

  none_beyond : (n : ℕ) → length ds < n → IsNoView c.objects n
  none_beyond zero lt v e = absurd (omega (arith, lt))
  none_beyond (suc i) lt v e = let none : slice_get c.objects i ≡ None = beyond c.objects i (omega (arith, lt, objects_long)) in absurd (cc (sym none ∙ e))

  all_in_range : AreInRangeBelow c (suc (length ds)) → AreInRange c.objects c.rows
  all_in_range below p column = elim (cases_lt p.0 (suc (length ds))) [
    | inl less ↦ below p.0 less p.1 column
    | inr le ↦ no_range p.0 (none_beyond p.0 (omega (arith, le))) p.1 column
  ]

  pub found_all : (found : ViewsFound) → IsFoundBelow c (suc (length ds)) found → IsFound c found
  found_all Same h = (
    all_in_range h.0,
    λ commit p. elim (cases_lt p.0 (suc (length ds))) [
      | inl less ↦ h.1 p less
      | inr le ↦ no_row p.0 (none_beyond p.0 (omega (arith, le))) p.1
    ],
  )
  found_all OutOfRange h = h
  found_all (Differs w) h = (all_in_range h.0, h.1)

-- ---- a view more

earlier_place : (p q : Place) → place_cmp p q ≡ Less → (p.0 < q.0) ⊎ ((p.0 ≡ q.0) × (by_bytes p.1 q.1 ≡ Less))
earlier_place p q e = go (nat_cmp p.0 q.0) refl e
  where
    go : (r : Ordering) → nat_cmp p.0 q.0 ≡ r → ordering_then r (by_bytes p.1 q.1) ≡ Less → (p.0 < q.0) ⊎ ((p.0 ≡ q.0) × (by_bytes p.1 q.1 ≡ Less))
    go Less is e = inl (search rules)
    go Equal is e = inr (nat_cmp-IsAntisymmetric p.0 q.0 is, e)
    go Greater is e = absurd (cc e)

module _ (c : Contents) (v : ViewTree) (rows : List ViewRow) (f : AreFreshRows c v rows) where
  abbrev stored : ByGroup
  stored g = get c.view (v.number, g)

  alike_fresh : (g : List ℕ) → ((column : ℕ) → column_of (stored g) column ≡ column_of (f.by_group g) column) → IsFreshAt (pages_of 0 c) (v.number, g)
  alike_fresh g h column = h column ∙ (f.rows_are g).columns column

  pub same_more : IsToldOf Any v.number stored f.by_group None → IsFoundBelow c v.number Same → IsFoundBelow c (suc v.number) Same
  same_more told h = (range_more c v.number h.0 f.in_range, fresh_more c v.number h.1 (λ g. alike_fresh g (told g tt)))

  wrong_here : (w : WrongRow) → IsToldOf Any v.number stored f.by_group (Some w) → ((p : Place) → p.0 < v.number → IsFreshAt (pages_of 0 c) p) → IsWrong c w
  wrong_here w told below = record {
    first = λ commit. record {
      column = told.differ.0;
      wrong = λ same. told.differ.1 (ap (λ n. stored_number c.view (n, w.group) told.differ.0) (sym told.view_is) ∙ (same ∙ (ap (λ n. fresh c.objects c.rows (n, w.group) told.differ.0) told.view_is ∙ sym ((f.rows_are w.group).columns told.differ.0))));
      first = λ p lt. elim (earlier_place p (w.view, w.group) lt) [
        | inl less ↦ below p (subst (λ n. p.0 < n) told.view_is less)
        | inr here ↦ subst (λ n. IsFreshAt (pages_of 0 c) (n, p.1)) (sym (here.0 ∙ told.view_is)) (alike_fresh p.1 (told.first p.1 tt here.1))
      ];
    };
    stored_is = told.stored_is ∙ ap (λ n. get c.view (n, w.group)) (sym told.view_is);
    fresh_is = subst (λ n. IsFreshRow c.objects c.rows (n, w.group) w.fresh) (sym told.view_is) (subst (IsFreshRow c.objects c.rows (v.number, w.group)) (sym told.fresh_is) (f.rows_are w.group));
  }

  pub differs_more : (w : WrongRow) → IsToldOf Any v.number stored f.by_group (Some w) → IsFoundBelow c v.number Same → IsFoundBelow c (suc v.number) (Differs w)
  differs_more w told h = (range_more c v.number h.0 f.in_range, wrong_here w told h.1)

  pub others_more : (w : WrongRow) → IsFoundBelow c v.number (Differs w) → IsFoundBelow c (suc v.number) (Differs w)
  others_more w h = (range_more c v.number h.0 f.in_range, h.1)
