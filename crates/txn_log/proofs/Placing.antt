-- Where records stand, and which reversal fails first.
use Rattle.std.specs.Prelude.{◌≡◌, ℕ, ◌<◌, ◌==◌, Bool, true, false, cond, List, [], ◌∷◌, ◌++◌, Some}
use Rattle.std.specs.List.{Contains}
use mathlib.Core.Path.{refl, sym, ap, subst, ◌∙◌}
use mathlib.Core.Logic.{inl, inr}
use Rattle.std.proofs.Common.{arith, eq-eqb}
use Rattle.std.proofs.lemmas.Bool.{ne_eqb}
use Rattle.std.proofs.lemmas.List.Elements.{Contains-append_right, Contains-append_cases, Contains-push_cases}
use Rattle.table_laws.proofs.Tables.{by_bool}
use Rattle.iv_meaning.specs.Schema.{Schema}
use Rattle.iv_meaning.specs.Database.{Rows}
use Rattle.txn_machine.specs.Stored.{ViewRows}
use Rattle.txn_machine.proofs.Basics.{contains_none}
use Rattle.txn_machine.proofs.Holding.{contains_here}
use Rattle.txn_log.specs.Replay.{Deed, Event, Kept, Ghost, Clean, Undo, Commit, Abort, Defined, Pages, Reading, survives, deeds, keep_where, own, Stored, replay, on_pages, replayed, all_rows_back, all_view_back, rows_without, view_without}
use Rattle.txn_log.specs.Fitting.{AllBack, AllFit, CarriedBelow, AreBelow, number_of}
use Rattle.txn_log.specs.Meaning.{definitions}
use Rattle.txn_log.specs.Appended.{Numbered, written}
use Rattle.txn_log.specs.Refused.{Placed, PlacedImage, place_by, has_number, CarriedAs, SaidAs, PassesAs, BackBreaks}
use Rattle.txn_log.specs.Reversals.{IsRecordAt, BreaksBack, FirstBreaks, ReversalLaw, UndoLaw}
use Rattle.txn_log.proofs.Finding.{keep_true, keep_false}
use Rattle.txn_log.proofs.Meaning.{meant}
use Rattle.txn_log.proofs.Refusing.{same_entry, says_number}

-- ---- numbers of records fall

-- each of these is a record, with a number below this one
abbrev EntriesBelow : ℕ → List Placed → Type 0
EntriesBelow b [] = Unit {0}
EntriesBelow b (r ∷ rs) = ((n : Numbered) × (r.entry ≡ Some n) × (n.number < b)) × EntriesBelow b rs

abbrev Fall : List Placed → Type 0
Fall [] = Unit {0}
Fall (r ∷ rs) = ((n : Numbered) × (r.entry ≡ Some n) × EntriesBelow n.number rs) × Fall rs

pub in_rest : {X : Type 0} {P : Type 0} (x y : X) (xs : List X) → Contains (x ∷ xs) y → (x ≡ y → P) → (Contains xs y → P) → P
in_rest x y xs c f g = elim (Contains-append_cases (x ∷ []) xs y c) [
  | inl this ↦ elim (Contains-push_cases [] x y this) [ inl never ↦ absurd (contains_none y never) | inr same ↦ f same ]
  | inr rest ↦ g rest
]

below_in : (b : ℕ) (rs : List Placed) → EntriesBelow b rs → (y : Placed) → Contains rs y → (n : Numbered) → y.entry ≡ Some n → n.number < b
below_in b [] h y c n e = absurd (contains_none y c)
below_in b (r ∷ rs) h y c n e = in_rest r y rs c
    (λ same. subst (λ (m : Numbered). m.number < b) (same_entry h.0.0 n (sym h.0.1 ∙ (ap (λ (x : Placed). x.entry) same ∙ e))) h.0.2)
    (λ rest. below_in b rs h.1 y rest n e)

-- so a record is found by its number
place_found : (rs : List Placed) → Fall rs → (y : Placed) → Contains rs y → (n : Numbered) → y.entry ≡ Some n → place_by n.number rs ≡ y.place
place_found [] h y c n e = absurd (contains_none y c)
place_found (r ∷ rs) h y c n e = in_rest r y rs c
    (λ same.
    let own_number : has_number n.number r.entry ≡ true = ap (has_number n.number) (ap (λ (x : Placed). x.entry) same ∙ e) ∙ eq-eqb n.number n.number refl in
    ap (λ b. cond b r.place (place_by n.number rs)) own_number ∙ ap (λ (x : Placed). x.place) same)
    (λ rest.
    let less : n.number < h.0.0.number = below_in h.0.0.number rs h.0.2 y rest n e in
    let other : has_number n.number r.entry ≡ false = ap (has_number n.number) h.0.1 ∙ ne_eqb h.0.0.number n.number (λ same. absurd (omega (arith, less, same))) in
    ap (λ b. cond b r.place (place_by n.number rs)) other ∙ place_found rs h.1 y rest n e)

carried_below : (objects : Schema) (b : ℕ) (rs : List Placed) (ds : List Deed) → CarriedAs objects rs ds → CarriedBelow b ds → EntriesBelow b rs
carried_below objects b [] [] h k = tt
carried_below objects b [] (d ∷ ds) h k = absurd h
carried_below objects b (r ∷ rs) [] h k = absurd h
carried_below objects b (r ∷ rs) (d ∷ ds) h k = ((written d, h.0.0, k.0), carried_below objects b rs ds h.1 k.1)

carried_fall : (objects : Schema) (rs : List Placed) (ds : List Deed) → CarriedAs objects rs ds → Fall rs
carried_fall objects [] [] h = tt
carried_fall objects [] (d ∷ ds) h = absurd h
carried_fall objects (r ∷ rs) [] h = absurd h
carried_fall objects (r ∷ rs) (d ∷ ds) h = ((written d, h.0.0, carried_below objects d.number rs ds h.1 h.0.2), carried_fall objects rs ds h.1)

module _ (p : Pages) (first : List Placed) (ds : List Deed) (carried : CarriedAs p.db.schema first ds) where
  said_below : (b : ℕ) (rs : List Placed) (es : List Event) → SaidAs p first ds rs es → AreBelow b ds es → EntriesBelow b (rs ++ first)
  said_below b [] [] h k = carried_below p.db.schema b first ds carried k
  said_below b [] (e ∷ es) h k = absurd h
  said_below b (r ∷ rs) [] h k = absurd h
  said_below b (r ∷ rs) (e ∷ es) h k = (
    (h.0.0, h.0.1, subst (λ n. n < b) (says_number (definitions p.db.schema es) h.0.0 e h.0.2) k.0),
    said_below b rs es h.1 k.1,
  )

  said_fall : (rs : List Placed) (es : List Event) → SaidAs p first ds rs es → Fall (rs ++ first)
  said_fall [] [] h = carried_fall p.db.schema first ds carried
  said_fall [] (e ∷ es) h = absurd h
  said_fall (r ∷ rs) [] h = absurd h
  said_fall (r ∷ rs) (e ∷ es) h = (
    (
      h.0.0,
      h.0.1,
      subst (λ n. EntriesBelow n (rs ++ first)) (says_number (definitions p.db.schema es) h.0.0 e h.0.2) (said_below (number_of e) rs es h.1 h.0.4),
    ),
    said_fall rs es h.1,
  )

  said_fit : (rs : List Placed) (es : List Event) → SaidAs p first ds rs es → AllFit (on_pages p ds) es
  said_fit [] [] h = tt
  said_fit [] (e ∷ es) h = absurd h
  said_fit (r ∷ rs) [] h = absurd h
  said_fit (r ∷ rs) (e ∷ es) h = (h.0.3, h.0.4, said_fit rs es h.1)

-- ---- a Write or a Delta is one of the records

carried_among : (objects : Schema) (rs : List Placed) (ds : List Deed) → CarriedAs objects rs ds → (x : Deed) → Contains ds x → (y : Placed) × Contains rs y × (y.entry ≡ Some (written x))
carried_among objects [] [] h x c = absurd (contains_none x c)
carried_among objects [] (d ∷ ds) h x c = absurd h
carried_among objects (r ∷ rs) [] h x c = absurd h
carried_among objects (r ∷ rs) (d ∷ ds) h x c = in_rest d x ds c
    (λ same. (r, contains_here r rs, h.0.0 ∙ ap (λ (z : Deed). Some (written z)) same))
    (λ rest. let y = carried_among objects rs ds h.1 x rest in (y.0, Contains-append_right (r ∷ []) rs y.0 y.1, y.2))

module _ (p : Pages) (first : List Placed) (ds : List Deed) (carried : CarriedAs p.db.schema first ds) where
  abbrev Among : List Placed → Deed → Type 0
  Among rs x = (y : Placed) × Contains (rs ++ first) y × (y.entry ≡ Some (written x))

  more : (r : Placed) (rs : List Placed) (x : Deed) → Among rs x → Among (r ∷ rs) x
  more r rs x y = (y.0, Contains-append_right (r ∷ []) (rs ++ first) y.0 y.1, y.2)

  deed_among : (rs : List Placed) (es : List Event) → SaidAs p first ds rs es → (x : Deed) → Contains (deeds ds es) x → Among rs x
  deed_among [] [] h x c = carried_among p.db.schema first ds carried x c
  deed_among [] (e ∷ es) h x c = absurd h
  deed_among (r ∷ rs) [] h x c = absurd h
  deed_among (r ∷ rs) (Kept z ∷ es) h x c = in_rest z x (deeds ds es) c
      (λ same. (r, contains_here r (rs ++ first), h.0.1 ∙ (ap (λ (n : Numbered). Some n) h.0.2 ∙ ap (λ (y : Deed). Some (written y)) same)))
      (λ rest. more r rs x (deed_among rs es h.1 x rest))
  deed_among (r ∷ rs) (Ghost n g k ∷ es) h x c = more r rs x (deed_among rs es h.1 x c)
  deed_among (r ∷ rs) (Clean n g ∷ es) h x c = more r rs x (deed_among rs es h.1 x c)
  deed_among (r ∷ rs) (Undo n t m ∷ es) h x c = more r rs x (deed_among rs es h.1 x c)
  deed_among (r ∷ rs) (Commit n t k ∷ es) h x c = more r rs x (deed_among rs es h.1 x c)
  deed_among (r ∷ rs) (Abort n t ∷ es) h x c = more r rs x (deed_among rs es h.1 x c)
  deed_among (r ∷ rs) (Defined n k o ∷ es) h x c = more r rs x (deed_among rs es h.1 x c)

kept_in : (f : ℕ → ℕ → Bool) (xs : List Deed) (x : Deed) → Contains (keep_where f xs) x → Contains xs x
kept_in f [] x c = c
kept_in f (z ∷ zs) x c = by_bool (f z.transaction z.number)
    (λ b. in_rest z x (keep_where f zs) (subst (λ (ys : List Deed). Contains ys x) (keep_true f z zs b) c)
    (λ same. subst (Contains (z ∷ zs)) same (contains_here z zs))
    (λ rest. Contains-append_right (z ∷ []) zs x (kept_in f zs x rest)))
    (λ b. Contains-append_right (z ∷ []) zs x (kept_in f zs x (subst (λ (ys : List Deed). Contains ys x) (keep_false f z zs b) c)))

module _ (p : Pages) (first : List Placed) (ds : List Deed) (rs : List Placed) (es : List Event) (carried : CarriedAs p.db.schema first ds) (said : SaidAs p first ds rs es) where
  abbrev live : List Deed
  live = (replay (on_pages p ds) es).live

  -- what a transaction keeps stands where its number says
  live_stands : (x : Deed) → Contains live x → IsRecordAt (rs ++ first) x (place_by x.number (rs ++ first))
  live_stands x c =
      let in_deeds : Contains (deeds ds es) x = kept_in (survives es) (deeds ds es) x (subst (λ (ys : List Deed). Contains ys x) (meant p ds es (said_fit p first ds carried rs es said)).live c) in
      let y = deed_among p first ds carried rs es said x in_deeds in
      record { at = y.0; among = y.1; says = y.2; place_is = place_found (rs ++ first) (said_fall p first ds carried rs es said) y.0 y.1 (written x) y.2 }

  same_place : (x : Deed) (place : ℕ) → IsRecordAt (rs ++ first) x place → place ≡ place_by x.number (rs ++ first)
  same_place x place s = s.place_is ∙ sym (place_found (rs ++ first) (said_fall p first ds carried rs es said) s.at s.among (written x) s.says)

-- ---- the first that fails

module _ (at : ℕ → ℕ) where
  breaks_first : (xs : List Deed) (rows : Rows) (stored : ViewRows) (rule place : ℕ) → BackBreaks at xs rows stored rule place → (x : Deed) × FirstBreaks xs rows stored rule x × (place ≡ at x.number)
  breaks_first [] rows stored rule place b = absurd b
  breaks_first (x ∷ xs) rows stored rule place (inl b) = (x, record { reversed = []; others = xs; split = refl; back = tt; breaks = b.1 }, b.0)
  breaks_first (x ∷ xs) rows stored rule place (inr b) =
      let f = breaks_first xs (rows_without x.what rows) (view_without x.what stored) rule place b.1 in
      (f.0, record { reversed = x ∷ f.1.reversed; others = f.1.others; split = ap (λ (ys : List Deed). x ∷ ys) f.1.split; back = (b.0, f.1.back); breaks = f.1.breaks }, f.2)

  first_breaks : (reversed others : List Deed) (x : Deed) (rows : Rows) (stored : ViewRows) (rule : ℕ) → AllBack reversed rows stored
      → BreaksBack rule (all_rows_back reversed rows) (all_view_back reversed stored) x.what → BackBreaks at (reversed ++ x ∷ others) rows stored rule (at x.number)
  first_breaks [] others x rows stored rule back b = inl (refl, b)
  first_breaks (y ∷ ys) others x rows stored rule back b = inr (back.0, first_breaks ys others x (rows_without y.what rows) (view_without y.what stored) rule back.1 b)

module _ (i : PlacedImage) (r : Reading) (passes : PassesAs i r) (rule place : ℕ) where
  abbrev records : List Placed
  records = i.after ++ i.carried

  abbrev s : Stored
  s = replayed r

  abbrev Broken : Type 0
  Broken = BackBreaks (λ n. place_by n records) s.live s.db.rows s.view rule place

  abbrev First : Type 0
  First = (x : Deed) × FirstBreaks s.live s.db.rows s.view rule x × IsRecordAt records x place

  same_live : s.live ≡ live i.pages i.carried r.carried i.after r.after passes.carried passes.after
  same_live = ap (λ (q : Pages). (replay (on_pages q r.carried) r.after).live) passes.pages

  forth : Broken → First
  forth b =
      let f = breaks_first (λ n. place_by n records) s.live s.db.rows s.view rule place b in
      let among : Contains s.live f.0 = subst (λ (ys : List Deed). Contains ys f.0) (sym f.1.split) (Contains-append_right f.1.reversed (f.0 ∷ f.1.others) f.0 (contains_here f.0 f.1.others)) in
      let stands = live_stands i.pages i.carried r.carried i.after r.after passes.carried passes.after f.0 (subst (λ (ys : List Deed). Contains ys f.0) same_live among) in
      (f.0, f.1, record { at = stands.at; among = stands.among; says = stands.says; place_is = f.2 ∙ stands.place_is })

  back : First → Broken
  back f =
      subst (λ n. BackBreaks (λ n. place_by n records) s.live s.db.rows s.view rule n) (sym (same_place i.pages i.carried r.carried i.after r.after passes.carried passes.after f.0 place f.2))
      (subst (λ (ys : List Deed). BackBreaks (λ n. place_by n records) ys s.db.rows s.view rule (place_by f.0.number records)) (sym f.1.split)
      (first_breaks (λ n. place_by n records) f.1.reversed f.1.others f.0 s.db.rows s.view rule f.1.back f.1.breaks))

pub reversal_place : ReversalLaw
reversal_place i r passes rule place = (forth i r passes rule place, back i r passes rule place)

pub undo_place : UndoLaw
undo_place p first ds rs es carried said r n t m passes =
    let u = passes.3 in
    let among : Contains (own t (replay (on_pages p ds) es).live) u.latest = subst (λ (ys : List Deed). Contains ys u.latest) (sym u.is_latest) (contains_here u.latest u.earlier) in
    let stands = live_stands p first ds rs es carried said u.latest (kept_in (λ v k. t == v) (replay (on_pages p ds) es).live u.latest among) in (
      u.latest,
      u.earlier,
      u.is_latest,
      u.number,
      record { at = stands.at; among = stands.among; says = stands.says; place_is = ap (λ k. place_by k (rs ++ first)) (sym u.number) ∙ stands.place_is },
    )
