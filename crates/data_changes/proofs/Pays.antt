-- A store after a pay, and after one is taken back.
use Rattle.std.specs.Prelude.{◌≡◌, ◌≢◌, ◌↔◌, ℕ, suc, ◌+◌, ◌==◌, cond, Bool, true, false, ℤ, pos, ◌+ℤ◌, neg_ℤ, List, [], ◌∷◌, map, length, get_or, Option, Some, None, IfSome}
use Rattle.std.specs.Option.{option_map, unwrap_or}
use Rattle.std.specs.FinMap.{get}
use mathlib.Core.Path.{refl, sym, ap, subst, ◌∙◌}
use Rattle.std.proofs.Common.{arith}
use Rattle.std.proofs.lemmas.List.{length-map}
use Rattle.iv_types.specs.Maps.{Map}
use Rattle.iv_types.specs.Definitions.{Definitions}
use Rattle.iv_types.specs.declared.lock.GroupDelta.{GroupDelta}
use Rattle.iv_types.specs.declared.lock.Prefix.{Prefix}
use Rattle.iv_meaning.specs.Schema as schema
use Rattle.iv_meaning.specs.Schema.{ViewTree}
use Rattle.table_laws.specs.Place.{Place}
use Rattle.table_laws.specs.Table.{write}
use Rattle.txn_machine.specs.Deltas.{place_of, worth, columns_of, negated}
use Rattle.txn_machine.specs.Keeping.{KeptStep, Pay}
use Rattle.txn_machine.specs.Locks.{with_one}
use Rattle.txn_machine.specs.Stored.{plus}
use Rattle.txn_machine.proofs.Columns.{is_for_here, is_for_other}
use Rattle.ghost_rows.specs.Numbers.{numbers_bytes, Fits128, step, moved}
use Rattle.ghost_rows.specs.Kept.{Pays, StandsFor, with_pays, width, ArePrefixes}
use Rattle.ghost_rows.specs.State.{State, stored_at, AreKept, Stores, StoresOnlyAt, OnlyAt}
use Rattle.ghost_rows.specs.Ghosts.{StayListed}
use Rattle.ghost_rows.proofs.NumberSteps.{numbers_same}
use Rattle.ghost_rows.proofs.RowLemmas.{huge_fit}
use Rattle.data_store.specs.Contents.{Contents, pays_on}
use Rattle.data_store.specs.Held.{IsHeld}
use Rattle.data_changes.specs.Effects.{keeping, with_pay, without_pay}
use Rattle.data_changes.specs.Paying.{HasFor}
use Rattle.ghost_rows.proofs.TableLemmas.{by_place}
use Rattle.data_changes.proofs.Frames.{row_changed, pays_else}

-- ---- kept pays

-- those of one session are others
pays_one : (place : Place) (kept : ℕ → List KeptStep) (session : ℕ) (ks : List KeptStep) (s : ℕ) → pays_on place (with_one kept session ks s) ≡ with_pays (λ t. pays_on place (kept t)) session (pays_on place ks) s
pays_one place kept session ks s = elim (s == session) as (λ b. pays_on place (cond b ks (kept s)) ≡ cond b (pays_on place ks) (pays_on place (kept s))) [ true ↦ refl | false ↦ refl ]

pub pays_kept : (place : Place) (kept : ℕ → List KeptStep) (session : ℕ) (ks : List KeptStep) → (λ s. pays_on place (with_one kept session ks s)) ≡ with_pays (λ t. pays_on place (kept t)) session (pays_on place ks)
pays_kept place kept session ks = λ i. λ s. pays_one place kept session ks s i

-- a pay stands on its row, and on no other
pub paid_here : (d : GroupDelta) (ks : List KeptStep) → pays_on (place_of d) (Pay d ∷ ks) ≡ d ∷ pays_on (place_of d) ks
paid_here d ks = ap (λ b. cond b (d ∷ pays_on (place_of d) ks) (pays_on (place_of d) ks)) (is_for_here (place_of d) d refl)

pub paid_elsewhere : (q : Place) (d : GroupDelta) (ks : List KeptStep) → q ≢ place_of d → pays_on q (Pay d ∷ ks) ≡ pays_on q ks
paid_elsewhere q d ks n = ap (λ b. cond b (d ∷ pays_on q ks) (pays_on q ks)) (is_for_other q d n)

-- ---- numbers

-- a delta that is added or taken back column by column is a list of numbers that is added
moved_plus : (back : Bool) (k : ℕ) (ns cs : List ℤ) (d : GroupDelta) → ((i : ℕ) → step back (k + i) d ≡ get_or cs i (pos 0)) → length ns ≡ length cs → moved back k ns d ≡ plus ns cs
moved_plus back k [] [] d h many = refl
moved_plus back k [] (c ∷ cs) d h many = absurd (omega (arith, many))
moved_plus back k (n ∷ ns) [] d h many = absurd (omega (arith, many))
moved_plus back k (n ∷ ns) (c ∷ cs) d h many =
    let here : step back k d ≡ c = ap (λ j. step back j d) (let e : k ≡ k + 0 = omega arith in e) ∙ h 0 in
    let first : (n +ℤ step back k d) ≡ (n +ℤ c) = ap (λ x. n +ℤ x) here in
    let rest : moved back (suc k) ns d ≡ plus ns cs = moved_plus back (suc k) ns cs d (λ i. ap (λ j. step back j d) (let e : suc k + i ≡ k + suc i = omega arith in e) ∙ h (suc i)) (let e : length ns ≡ length cs = omega (arith, many) in e) in
    λ i. first i ∷ rest i

negated_at : (cs : List ℤ) (i : ℕ) → neg_ℤ (get_or cs i (pos 0)) ≡ get_or (map neg_ℤ cs) i (pos 0)
negated_at [] i = refl
negated_at (c ∷ cs) ℕ.zero = refl
negated_at (c ∷ cs) (suc i) = negated_at cs i

pub paid_numbers : (d : GroupDelta) (ns : List ℤ) → length ns ≡ width d → moved false 0 ns d ≡ plus ns (columns_of d)
paid_numbers d ns many = moved_plus false 0 ns (columns_of d) d (λ i. ap (λ j. worth j d) (let e : 0 + i ≡ i = omega arith in e)) many

pub taken_numbers : (d : GroupDelta) (ns : List ℤ) → length ns ≡ width d → moved true 0 ns d ≡ plus ns (columns_of (negated d))
taken_numbers d ns many = moved_plus true 0 ns (columns_of (negated d)) d (λ i. ap (λ j. neg_ℤ (worth j d)) (let e : 0 + i ≡ i = omega arith in e) ∙ negated_at (columns_of d) i) (many ∙ ap suc (sym (length-map d.sums neg_ℤ)))

-- ---- the row of a delta

module _ (ds : Definitions) (maps : ℕ → Map) (state : State) (c : Contents) (d : GroupDelta) (h : HasFor ds maps state d c) where
  -- the pays that are kept on it
  pub kept_here : AreKept state maps (place_of d) (width d) (λ s. pays_on (place_of d) (c.kept s))
  kept_here = subst (λ n. AreKept state maps (place_of d) (suc n) (λ s. pays_on (place_of d) (c.kept s))) (sym h.of_view.sums) (h.held.pays d.view h.of_view.of h.of_view.is d.group)

  -- its numbers are those that are kept
  pub numbers_here : (k : AreKept state maps (place_of d) (width d) (λ s. pays_on (place_of d) (c.kept s))) (numbers : List ℤ) → get c.view (place_of d) ≡ Some numbers → k.numbers ≡ numbers
  numbers_here k numbers there = numbers_same k.numbers numbers (huge_fit k.numbers k.has.huge) (huge_fit numbers (h.held.in_range d.view h.of_view.of h.of_view.is d.group numbers there))
      (let stored : stored_at maps (place_of d) ≡ Some (numbers_bytes numbers) = h.held.views d.view h.of_view.of h.of_view.is d.group ∙ ap (option_map numbers_bytes) there in
      sym (subst (λ o. IfSome o (λ bytes. bytes ≡ numbers_bytes k.numbers)) stored k.has.bytes))

  -- it is stored where the maps have it
  pub row_here : (stored_at maps (place_of d) ≡ None → ⊥) → (numbers : List ℤ) × (get c.view (place_of d) ≡ Some numbers)
  row_here some = elim (get c.view (place_of d)) as (λ o. get c.view (place_of d) ≡ o → (numbers : List ℤ) × (get c.view (place_of d) ≡ Some numbers)) [
    | None ↦ λ e. absurd (some (h.held.views d.view h.of_view.of h.of_view.is d.group ∙ ap (option_map numbers_bytes) e))
    | Some numbers ↦ λ e. (numbers, e)
  ] refl

  -- it is absent in both
  pub absent_here : (stored_at maps (place_of d) ≡ None) ↔ (get c.view (place_of d) ≡ None)
  absent_here = (
    λ e. none_of (get c.view (place_of d)) (sym (h.held.views d.view h.of_view.of h.of_view.is d.group) ∙ e),
    λ e. h.held.views d.view h.of_view.of h.of_view.is d.group ∙ ap (option_map numbers_bytes) e,
  )
    where
      none_of : (o : Option (List ℤ)) → option_map numbers_bytes o ≡ None → o ≡ None
      none_of None e = refl
      none_of (Some x) e = absurd (cc)

  module _ (new : ℕ → Map) (after : State) (session : ℕ) (some : stored_at maps (place_of d) ≡ None → ⊥) (others : OnlyAt (place_of d) state after) (only : StoresOnlyAt (place_of d) maps new) (listed : StayListed state maps after new) where
    row_moved : (back : Bool) (cs : List ℤ) (ks : List KeptStep) → ((ns : List ℤ) → length ns ≡ width d → moved back 0 ns d ≡ plus ns cs)
        → ((k : AreKept state maps (place_of d) (width d) (λ s. pays_on (place_of d) (c.kept s))) → Stores new (place_of d) (moved back 0 k.numbers d))
        → AreKept after new (place_of d) (width d) (with_pays (λ s. pays_on (place_of d) (c.kept s)) session (pays_on (place_of d) ks))
        → ((q : Place) → q ≢ place_of d → pays_on q ks ≡ pays_on q (c.kept session))
        → IsHeld ds new after (record (keeping c session ks) { view = write c.view (place_of d) (Some (plus (unwrap_or (get c.view (place_of d)) []) cs)) })
    row_moved back cs ks adds value keeps elsewhere =
        let here = row_here some in
        let same : kept_here.numbers ≡ here.0 = numbers_here kept_here here.0 here.1 in
        let stores : Stores new (place_of d) (moved back 0 kept_here.numbers d) = value kept_here in
        let sum : moved back 0 kept_here.numbers d ≡ plus (unwrap_or (get c.view (place_of d)) []) cs =
        adds kept_here.numbers kept_here.has.many ∙ ap (λ ns. plus ns cs) (same ∙ sym (ap (λ o. unwrap_or o []) here.1)) in
        let is : Stores new (place_of d) (plus (unwrap_or (get c.view (place_of d)) []) cs) = subst (Stores new (place_of d)) sum stores in
        row_changed ds maps new state after c (place_of d) h.of_view.of (Some (plus (unwrap_or (get c.view (place_of d)) []) cs)) (with_one c.kept session ks) h.held h.of_view.is only others listed
        (record { bytes = is.bytes; fit = λ numbers e. subst Fits128 (let f : plus (unwrap_or (get c.view (place_of d)) []) cs ≡ numbers = cc in f) is.fit })
        (subst (λ ps. AreKept after new (place_of d) (suc (length h.of_view.of.sums)) ps) (sym (pays_kept (place_of d) c.kept session ks))
        (subst (λ n. AreKept after new (place_of d) (suc n) (with_pays (λ s. pays_on (place_of d) (c.kept s)) session (pays_on (place_of d) ks))) h.of_view.sums keeps))
        (λ q ne s. pays_else q c.kept session ks (elsewhere q ne) s)

    -- after a pay
    pub paid_held : ((k : AreKept state maps (place_of d) (width d) (λ s. pays_on (place_of d) (c.kept s))) → Stores new (place_of d) (moved false 0 k.numbers d))
        → AreKept after new (place_of d) (width d) (with_pays (λ s. pays_on (place_of d) (c.kept s)) session (d ∷ pays_on (place_of d) (c.kept session)))
        → IsHeld ds new after (with_pay c session d)
    paid_held value keeps = row_moved false (columns_of d) (Pay d ∷ c.kept session) (paid_numbers d) value
        (subst (λ ps. AreKept after new (place_of d) (width d) (with_pays (λ s. pays_on (place_of d) (c.kept s)) session ps)) (sym (paid_here d (c.kept session))) keeps)
        (λ q ne. paid_elsewhere q d (c.kept session) ne)

    -- after one is taken back that stood before these steps
    pub taken_held : (ks : List KeptStep) → c.kept session ≡ Pay d ∷ ks
        → ((k : AreKept state maps (place_of d) (width d) (λ s. pays_on (place_of d) (c.kept s))) → Stores new (place_of d) (moved true 0 k.numbers d))
        → AreKept after new (place_of d) (width d) (with_pays (λ s. pays_on (place_of d) (c.kept s)) session (pays_on (place_of d) ks))
        → IsHeld ds new after (without_pay c session d ks)
    taken_held ks latest value keeps = row_moved true (columns_of (negated d)) ks (taken_numbers d) value keeps
        (λ q ne. sym (ap (pays_on q) latest ∙ paid_elsewhere q d ks ne))

  -- as taking back tells it
  pub taken_as : (new : ℕ → Map) (after : State) (session : ℕ) (ks : List KeptStep) → c.kept session ≡ Pay d ∷ ks → (before : List Prefix) → ArePrefixes before (width d) (pays_on (place_of d) ks)
      → OnlyAt (place_of d) state after → StoresOnlyAt (place_of d) maps new → StayListed state maps after new
      → ((pays : Pays) (earlier : List GroupDelta) → AreKept state maps (place_of d) (width d) pays → pays session ≡ d ∷ earlier → ArePrefixes before (width d) earlier → AreKept after new (place_of d) (width d) (with_pays pays session earlier))
      → ((pays : Pays) (earlier : List GroupDelta) (k : AreKept state maps (place_of d) (width d) pays) → pays session ≡ d ∷ earlier → ArePrefixes before (width d) earlier → Stores new (place_of d) (moved true 0 k.numbers d))
      → IsHeld ds new after (without_pay c session d ks)
  taken_as new after session ks latest before prefixes others only listed taken value =
      let on_row : pays_on (place_of d) (c.kept session) ≡ d ∷ pays_on (place_of d) ks = ap (pays_on (place_of d)) latest ∙ paid_here d ks in
      taken_held new after session (λ none. let e : d ∷ pays_on (place_of d) ks ≡ [] = sym on_row ∙ kept_here.absent none session in absurd (cc)) others only listed ks latest
      (λ k. value (λ s. pays_on (place_of d) (c.kept s)) (pays_on (place_of d) ks) k on_row prefixes)
      (taken (λ s. pays_on (place_of d) (c.kept s)) (pays_on (place_of d) ks) kept_here on_row prefixes)

-- where nothing but room in its row was made
pub reserved_held : (ds : Definitions) (maps : ℕ → Map) (state after : State) (c : Contents) (d : GroupDelta) → HasFor ds maps state d c → OnlyAt (place_of d) state after → StayListed state maps after maps
    → ((pays : Pays) → AreKept state maps (place_of d) (width d) pays → AreKept after maps (place_of d) (width d) pays) → IsHeld ds maps after c
reserved_held ds maps state after c d has only listed keeps = record {
  objects = has.held.objects;
  tables = has.held.tables;
  views = has.held.views;
  in_range = has.held.in_range;
  pays = λ n u at group. by_place (n, group) (place_of d)
      (λ e.
      let one : n ≡ d.view = ap (λ (q : Place). q.0) e in
      let views : Some (schema.view has.of_view.of) ≡ Some (schema.view u) = sym has.of_view.is ∙ (ap (schema.numbered c.objects) (sym one) ∙ at) in
      let same : has.of_view.of ≡ u = cc in
      let wide : width d ≡ suc (length u.sums) = ap suc (has.of_view.sums ∙ ap (λ (v : ViewTree). length v.sums) same) in
      subst (λ q. AreKept after maps q (suc (length u.sums)) (λ s. pays_on q (c.kept s))) (sym e)
      (subst (λ w. AreKept after maps (place_of d) w (λ s. pays_on (place_of d) (c.kept s))) wide (keeps (λ s. pays_on (place_of d) (c.kept s)) (kept_here ds maps state c d has))))
      (λ ne. subst (λ o. StandsFor o (stored_at maps (n, group)) (suc (length u.sums)) (λ s. pays_on (n, group) (c.kept s))) (sym (only (n, group) ne)) (has.held.pays n u at group));
  ghosts = λ n u at group. listed (n, group) (has.held.ghosts n u at group);
  texts = has.held.texts;
  unused = has.held.unused;
}
