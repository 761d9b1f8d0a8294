-- An image is refused for one cause at one place or not at all, and none that a crash may leave is.
use Rattle.std.specs.Prelude.{◌≡◌, ◌⊎◌, ℕ, ◌≤◌, List, [], ◌∷◌, ◌++◌, map, Option, Some, None}
use Rattle.std.specs.declared.cmp.Ordering.{Ordering}
use Rattle.std.specs.declared.cmp.Ordering.TheVariants.{Less, Equal, Greater}
use Rattle.std.specs.Ordering.{ordering_reverse}
use Rattle.std.proofs.lemmas.Bool.Decides.{leb_tells}
use Rattle.table_laws.proofs.Place.{place_cmp_total, place_cmp-IsAntisymmetric}
use mathlib.Core.Path.{refl, sym, ap, subst, ◌∙◌}
use mathlib.Core.Logic.{inl, inr}
use Rattle.std.proofs.Common.{arith}
use Rattle.iv_types.specs.Grammar.{OneStatement}
use Rattle.table_laws.specs.Place.{Place, place_cmp}
use Rattle.iv_meaning.specs.Schema.{Schema}
use Rattle.iv_meaning.specs.Database.{Rows}
use Rattle.txn_machine.specs.Stored.{ViewRows}
use Rattle.txn_machine.specs.Log.{Within, Above}
use Rattle.txn_machine.specs.Laws.{AreInRange}
use Rattle.txn_log.specs.Replay.{What, Wrote, Added, Deed, Event, Kept, Ghost, Clean, Undo, Commit, Abort, Defined, Pages, Reading, Stored, replay, on_pages, replayed, recovered, rows_without, view_without}
use Rattle.txn_log.specs.Fitting.{InRange, WhatStands, BackFits, Stands, IsKnown, AllDeeds, DoNumbersFall, number_of, AllFit, AllBack}
use Rattle.txn_log.specs.Meaning.{definitions}
use Rattle.txn_log.specs.Appended.{Numbered, written, Image, Says, AllSay, IsRead}
use Rattle.txn_log.specs.Refused.{BackAnyhow, Untried, fails_at, Placed, PlacedImage, data_left, most_number, Anyhow, IsPlaced, place_by, CarriedStands, CarriedAs, CarriedBreaks, Passes, SaidAs, BreaksBy, RecordBreaks, BackBreaks, PassesAs, ReversesAs, IsFreshAt, IsFirstWrong, ImageFault, BadImage, BadView, IsRefused, carried, further, reversal, sums, entries, view, IsFine, EitherLaw, AreSmall}
use Rattle.txn_machine.specs.Store.{Store}
use Rattle.txn_log.specs.Moments.{IsRight}
use Rattle.txn_log.proofs.Once.{same_deed, says_once}

pub same_entry : (m n : Numbered) → Some m ≡ Some n → m ≡ n
same_entry m n e = cc

-- ---- carried records

carried_once : (objects : Schema) (rs : List Placed) (ds es : List Deed) → CarriedAs objects rs ds → CarriedAs objects rs es → ds ≡ es
carried_once objects [] [] [] h k = refl
carried_once objects [] [] (e ∷ es) h k = absurd k
carried_once objects [] (d ∷ ds) es h k = absurd h
carried_once objects (r ∷ rs) [] es h k = absurd h
carried_once objects (r ∷ rs) (d ∷ ds) [] h k = absurd k
carried_once objects (r ∷ rs) (d ∷ ds) (e ∷ es) h k =
    let first : d ≡ e = same_deed d e (same_entry (written d) (written e) (sym h.0.0 ∙ k.0.0)) in
    let rest : ds ≡ es = carried_once objects rs ds es h.1 k.1 in
    λ x. first x ∷ rest x

carried_never : (objects : Schema) (rs : List Placed) (ds : List Deed) → CarriedAs objects rs ds → (place : ℕ) → CarriedBreaks objects rs place → ⊥
carried_never objects [] ds h place b = b
carried_never objects (r ∷ rs) [] h place b = h
carried_never objects (r ∷ rs) (d ∷ ds) h place (inl b) = carried_never objects rs ds h.1 place b
carried_never objects (r ∷ rs) (d ∷ ds) h place (inr b) =
    b.3 d (subst (λ es. CarriedStands objects es r d) (carried_once objects rs ds b.1 h.1 b.2) h.0)

carried_place : (objects : Schema) (rs : List Placed) (p q : ℕ) → CarriedBreaks objects rs p → CarriedBreaks objects rs q → p ≡ q
carried_place objects [] p q b c = absurd b
carried_place objects (r ∷ rs) p q (inl b) (inl c) = carried_place objects rs p q b c
carried_place objects (r ∷ rs) p q (inl b) (inr c) = absurd (carried_never objects rs c.1 c.2 p b)
carried_place objects (r ∷ rs) p q (inr b) (inl c) = absurd (carried_never objects rs b.1 b.2 q c)
carried_place objects (r ∷ rs) p q (inr b) (inr c) = b.0 ∙ sym c.0

carried_total : (objects : Schema) (rs : List Placed) → ((place : ℕ) → CarriedBreaks objects rs place → ⊥) → ((ds : List Deed) → CarriedAs objects rs ds → ⊥) → ⊥
carried_total objects [] clear k = k [] tt
carried_total objects (r ∷ rs) clear k = carried_total objects rs (λ place b. clear place (inl b))
    (λ ds said. clear r.place (inr (refl, ds, said, λ d stands. k (d ∷ ds) (stands, said))))

-- ---- further records

back_anyhow : (rows : Rows) (stored : ViewRows) (w : What) → BackFits rows stored w → BackAnyhow rows stored w
back_anyhow rows stored (Wrote c) h = h
back_anyhow rows stored (Added d) h = (h.0, tt)

what_anyhow : (s : Stored) (w : What) → WhatStands InRange s w → WhatStands Anyhow s w
what_anyhow s (Wrote c) h = h
what_anyhow s (Added d) h = (h.0, tt)

-- with weaker conditions
stands_so : (Range Least : ViewRows → Place → Type 0) (Back Slack : Rows → ViewRows → What → Type 0) → ((s : Stored) (w : What) → WhatStands Range s w → WhatStands Least s w)
    → ((rows : Rows) (stored : ViewRows) (w : What) → Back rows stored w → Slack rows stored w) → (s : Stored) (es : List Event) (e : Event) → Stands Range Back s es e → Stands Least Slack s es e
stands_so Range Least Back Slack f g s es (Kept x) h = (h.0, h.1, f s x.what h.2)
stands_so Range Least Back Slack f g s es (Ghost n p columns) h = h
stands_so Range Least Back Slack f g s es (Clean n p) h = h
stands_so Range Least Back Slack f g s es (Undo n t m) h = record { latest = h.latest; earlier = h.earlier; is_latest = h.is_latest; number = h.number; back = g s.db.rows s.view h.latest.what h.back }
stands_so Range Least Back Slack f g s es (Commit n t k) h = h
stands_so Range Least Back Slack f g s es (Abort n t) h = h
stands_so Range Least Back Slack f g s es (Defined n k o) h = h

-- a record says one thing
one_event : OneStatement → (objects : Schema) (r : Placed) (e f : Event) (m n : Numbered) → r.entry ≡ Some m → r.entry ≡ Some n → Says objects m e → Says objects n f → e ≡ f
one_event alone objects r e f m n a b h k = says_once alone objects n e f (subst (λ x. Says objects x e) (same_entry m n (sym a ∙ b)) h) k

module _ (p : Pages) (first : List Placed) (ds : List Deed) where
  anyhow : (es : List Event) (r : Placed) (e : Event) → Passes p first ds InRange BackFits es r e → Passes p first ds Anyhow BackAnyhow es r e
  anyhow es r e h = (h.0, h.1, h.2, stands_so InRange Anyhow BackFits BackAnyhow what_anyhow back_anyhow (replay (on_pages p ds) es) es e h.3, h.4, h.5)

  untried : (es : List Event) (r : Placed) (e : Event) → Passes p first ds Anyhow BackAnyhow es r e → Passes p first ds Anyhow Untried es r e
  untried es r e h = (h.0, h.1, h.2, stands_so Anyhow Anyhow BackAnyhow Untried (λ s w k. k) (λ rows stored w k. tt) (replay (on_pages p ds) es) es e h.3, h.4, h.5)

  record_total : (rs : List Placed) → ((rule place : ℕ) → RecordBreaks p first ds rs rule place → ⊥) → ((es : List Event) → SaidAs p first ds rs es → ⊥) → ⊥
  record_total [] clear k = k [] tt
  record_total (r ∷ rs) clear k = record_total rs (λ rule place b. clear rule place (inl b))
      (λ es said. clear 13 r.place (inr (
        es,
        said,
        inl (
          refl,
          refl,
          λ e some.
              clear 13 (fails_at (rs ++ first) r e) (inr (
                es,
                said,
                inr (inl (
                  refl,
                  e,
                  refl,
                  some,
                  λ back.
                      clear 14 (fails_at (rs ++ first) r e) (inr (es, said, inr (inr (refl, e, refl, back, λ full. k (e ∷ es) (full, said))))),
                )),
              )),
        ),
      )))

  module _ (alone : OneStatement) where
    said_once : (rs : List Placed) (es fs : List Event) → SaidAs p first ds rs es → SaidAs p first ds rs fs → es ≡ fs
    said_once [] [] [] h k = refl
    said_once [] [] (f ∷ fs) h k = absurd k
    said_once [] (e ∷ es) fs h k = absurd h
    said_once (r ∷ rs) [] fs h k = absurd h
    said_once (r ∷ rs) (e ∷ es) [] h k = absurd k
    said_once (r ∷ rs) (e ∷ es) (f ∷ fs) h k =
        let rest : es ≡ fs = said_once rs es fs h.1 k.1 in
        let one : e ≡ f = one_event alone (definitions p.db.schema fs) r e f h.0.0 k.0.0 h.0.1 k.0.1 (subst (λ gs. Says (definitions p.db.schema gs) h.0.0 e) rest h.0.2) k.0.2 in
        λ x. one x ∷ rest x

    -- whatever the conditions
    passes_one : (Range Least : ViewRows → Place → Type 0) (Back Slack : Rows → ViewRows → What → Type 0) (es : List Event) (r : Placed) (e f : Event)
        → Passes p first ds Range Back es r e → Passes p first ds Least Slack es r f → e ≡ f
    passes_one Range Least Back Slack es r e f h k = one_event alone (definitions p.db.schema es) r e f h.0 k.0 h.1 k.1 h.2 k.2

    record_never : (rs : List Placed) (es : List Event) → SaidAs p first ds rs es → (rule place : ℕ) → RecordBreaks p first ds rs rule place → ⊥
    record_never [] es h rule place b = b
    record_never (r ∷ rs) [] h rule place b = h
    record_never (r ∷ rs) (e ∷ es) h rule place (inl b) = record_never rs es h.1 rule place b
    record_never (r ∷ rs) (e ∷ es) h rule place (inr b) =
        let full : Passes p first ds InRange BackFits b.0 r e = subst (λ gs. Passes p first ds InRange BackFits gs r e) (said_once rs es b.0 h.1 b.1) h.0 in
        let some : Passes p first ds Anyhow BackAnyhow b.0 r e = anyhow b.0 r e full in
        elim b.2 [
          | inl c ↦ c.2 e (untried b.0 r e some)
          | inr c ↦ elim c [
            | inl d ↦ d.4 (subst (Passes p first ds Anyhow BackAnyhow b.0 r) (passes_one Anyhow Anyhow BackAnyhow Untried b.0 r e d.1 some d.3) some)
            | inr d ↦ d.4 (subst (Passes p first ds InRange BackFits b.0 r) (passes_one InRange Anyhow BackFits BackAnyhow b.0 r e d.1 full d.3) full)
          ]
        ]

    breaks_once : (m n a b : ℕ) (rs : List Placed) (es : List Event) (r : Placed) → BreaksBy p first ds m a rs es r → BreaksBy p first ds n b rs es r → (m ≡ n) × (a ≡ b)
    breaks_once m n a b rs es r (inl c) (inl d) = (c.0 ∙ sym d.0, c.1 ∙ sym d.1)
    breaks_once m n a b rs es r (inl c) (inr (inl d)) = absurd (c.2 d.1 d.3)
    breaks_once m n a b rs es r (inl c) (inr (inr d)) = absurd (c.2 d.1 (untried es r d.1 d.3))
    breaks_once m n a b rs es r (inr (inl c)) (inl d) = absurd (d.2 c.1 c.3)
    breaks_once m n a b rs es r (inr (inr c)) (inl d) = absurd (d.2 c.1 (untried es r c.1 c.3))
    breaks_once m n a b rs es r (inr (inl c)) (inr (inl d)) =
        (c.0 ∙ sym d.0, c.2 ∙ (ap (fails_at (rs ++ first) r) (passes_one Anyhow Anyhow Untried Untried es r c.1 d.1 c.3 d.3) ∙ sym d.2))
    breaks_once m n a b rs es r (inr (inl c)) (inr (inr d)) = absurd (c.4 (subst (Passes p first ds Anyhow BackAnyhow es r) (passes_one Anyhow Anyhow BackAnyhow Untried es r d.1 c.1 d.3 c.3) d.3))
    breaks_once m n a b rs es r (inr (inr c)) (inr (inl d)) = absurd (d.4 (subst (Passes p first ds Anyhow BackAnyhow es r) (passes_one Anyhow Anyhow BackAnyhow Untried es r c.1 d.1 c.3 d.3) c.3))
    breaks_once m n a b rs es r (inr (inr c)) (inr (inr d)) =
        (c.0 ∙ sym d.0, c.2 ∙ (ap (fails_at (rs ++ first) r) (passes_one Anyhow Anyhow BackAnyhow BackAnyhow es r c.1 d.1 c.3 d.3) ∙ sym d.2))

    record_once : (rs : List Placed) (m n a b : ℕ) → RecordBreaks p first ds rs m a → RecordBreaks p first ds rs n b → (m ≡ n) × (a ≡ b)
    record_once [] m n a b h k = absurd h
    record_once (r ∷ rs) m n a b (inl h) (inl k) = record_once rs m n a b h k
    record_once (r ∷ rs) m n a b (inl h) (inr k) = absurd (record_never rs k.0 k.1 m a h)
    record_once (r ∷ rs) m n a b (inr h) (inl k) = absurd (record_never rs h.0 h.1 n b k)
    record_once (r ∷ rs) m n a b (inr h) (inr k) =
        breaks_once m n a b rs h.0 r h.2 (subst (λ gs. BreaksBy p first ds n b rs gs r) (sym (said_once rs h.0 k.0 h.1 k.1)) k.2)

-- ---- reversals

module _ (at : ℕ → ℕ) where
  back_never : (xs : List Deed) (rows : Rows) (stored : ViewRows) → AllBack xs rows stored → (rule place : ℕ) → BackBreaks at xs rows stored rule place → ⊥
  back_never [] rows stored h rule place b = b
  back_never (x ∷ xs) rows stored h rule place (inl b) = elim b.1 [
    | inl c ↦ c.1 (back_anyhow rows stored x.what h.0)
    | inr c ↦ c.2 h.0
  ]
  back_never (x ∷ xs) rows stored h rule place (inr b) = back_never xs (rows_without x.what rows) (view_without x.what stored) h.1 rule place b.1

  -- a record that breaks here does not fit
  breaks_not : (x : Deed) (rows : Rows) (stored : ViewRows) (rule : ℕ)
      → ((rule ≡ 13) × (BackAnyhow rows stored x.what → ⊥)) ⊎ ((rule ≡ 14) × BackAnyhow rows stored x.what × (BackFits rows stored x.what → ⊥))
      → BackFits rows stored x.what → ⊥
  breaks_not x rows stored rule (inl c) h = c.1 (back_anyhow rows stored x.what h)
  breaks_not x rows stored rule (inr c) h = c.2 h

  back_once : (xs : List Deed) (rows : Rows) (stored : ViewRows) (m n a b : ℕ) → BackBreaks at xs rows stored m a → BackBreaks at xs rows stored n b → (m ≡ n) × (a ≡ b)
  back_once [] rows stored m n a b h k = absurd h
  back_once (x ∷ xs) rows stored m n a b (inl h) (inl k) = (rules h.1 k.1, h.0 ∙ sym k.0)
    where
      rules : ((m ≡ 13) × (BackAnyhow rows stored x.what → ⊥)) ⊎ ((m ≡ 14) × BackAnyhow rows stored x.what × (BackFits rows stored x.what → ⊥))
          → ((n ≡ 13) × (BackAnyhow rows stored x.what → ⊥)) ⊎ ((n ≡ 14) × BackAnyhow rows stored x.what × (BackFits rows stored x.what → ⊥)) → m ≡ n
      rules (inl c) (inl d) = c.0 ∙ sym d.0
      rules (inl c) (inr d) = absurd (c.1 d.1)
      rules (inr c) (inl d) = absurd (d.1 c.1)
      rules (inr c) (inr d) = c.0 ∙ sym d.0
  back_once (x ∷ xs) rows stored m n a b (inl h) (inr k) = absurd (breaks_not x rows stored m h.1 k.0)
  back_once (x ∷ xs) rows stored m n a b (inr h) (inl k) = absurd (breaks_not x rows stored n k.1 h.0)
  back_once (x ∷ xs) rows stored m n a b (inr h) (inr k) = back_once xs (rows_without x.what rows) (view_without x.what stored) m n a b h.1 k.1

  back_total : (xs : List Deed) (rows : Rows) (stored : ViewRows) → ((rule place : ℕ) → BackBreaks at xs rows stored rule place → ⊥) → (AllBack xs rows stored → ⊥) → ⊥
  back_total [] rows stored clear k = k tt
  back_total (x ∷ xs) rows stored clear k = clear 13 (at x.number) (inl (
    refl,
    inl (
      refl,
      λ some. clear 14 (at x.number) (inl (
        refl,
        inr (
          refl,
          some,
          λ full.
              back_total xs (rows_without x.what rows) (view_without x.what stored) (λ rule place b. clear rule place (inr (full, b))) (λ rest. k (full, rest)),
        ),
      )),
    ),
  ))

-- ---- all of it

module _ (alone : OneStatement) (i : PlacedImage) where
  passes_once : (r q : Reading) → PassesAs i r → PassesAs i q → r ≡ q
  passes_once r q h k =
      let ds : r.carried ≡ q.carried = carried_once i.pages.db.schema i.carried r.carried q.carried h.carried k.carried in
      let es : r.after ≡ q.after = said_once i.pages i.carried q.carried alone i.after r.after q.after (subst (λ xs. SaidAs i.pages i.carried xs i.after r.after) ds h.after) k.after in
      λ x. record { pages = (h.pages ∙ sym k.pages) x; carried = ds x; after = es x }

  -- what was tried before it passes
  no_carried : (r : Reading) → PassesAs i r → (place : ℕ) → CarriedBreaks i.pages.db.schema i.carried place → ⊥
  no_carried r h place = carried_never i.pages.db.schema i.carried r.carried h.carried place

  no_record : (r : Reading) → PassesAs i r → (ds : List Deed) → CarriedAs i.pages.db.schema i.carried ds → (rule place : ℕ) → RecordBreaks i.pages i.carried ds i.after rule place → ⊥
  no_record r h ds k rule place b =
      record_never i.pages i.carried r.carried alone i.after r.after h.after rule place
      (subst (λ xs. RecordBreaks i.pages i.carried xs i.after rule place) (carried_once i.pages.db.schema i.carried ds r.carried k h.carried) b)

  no_back : (r : Reading) → ReversesAs i r → (q : Reading) → PassesAs i q → (rule place : ℕ)
      → BackBreaks (λ n. place_by n (i.after ++ i.carried)) (replayed q).live (replayed q).db.rows (replayed q).view rule place → ⊥
  no_back r h q k rule place b =
      back_never (λ n. place_by n (i.after ++ i.carried)) (replayed r).live (replayed r).db.rows (replayed r).view h.back rule place
      (subst (λ (x : Reading). BackBreaks (λ n. place_by n (i.after ++ i.carried)) (replayed x).live (replayed x).db.rows (replayed x).view rule place) (passes_once q r k h.passes) b)

  same_range : (r q : Reading) → PassesAs i r → PassesAs i q → AreInRange (recovered r).db.schema (recovered r).db.rows → AreInRange (recovered q).db.schema (recovered q).db.rows
  same_range r q h k = subst (λ (x : Reading). AreInRange (recovered x).db.schema (recovered x).db.rows) (passes_once r q h k)

  not_both : (limit : Option ℕ) (bytes : ℕ) → Within limit bytes → Above limit bytes → ⊥
  not_both None bytes h k = k
  not_both (Some most) bytes h k = omega arith

  one_bad : (m n a b : ℕ) → (m ≡ n) × (a ≡ b) → BadImage m a ≡ BadImage n b
  one_bad m n a b e = λ x. BadImage (e.0 x) (e.1 x)

  -- the group that is first
  one_view : (p : Pages) (a b : Place) → IsFirstWrong p a → IsFirstWrong p b → a ≡ b
  one_view p a b h k = by_order (place_cmp a b) refl
    where
      by_order : (o : Ordering) → place_cmp a b ≡ o → a ≡ b
      by_order Less e = absurd (h.wrong (k.first a e h.column))
      by_order Equal e = place_cmp-IsAntisymmetric a b e
      by_order Greater e = absurd (k.wrong (h.first b (place_cmp_total.antisymm b a ∙ ap ordering_reverse e) k.column))

  -- causes in the order in which they are tried
  pub ordered : (one other : ImageFault) → IsRefused i one → IsRefused i other → one ≡ other
  ordered one other (carried a h) (carried b k) = ap (BadImage 13) (carried_place i.pages.db.schema i.carried a b h k)
  ordered one other (carried a h) (further ds said rule place k) = absurd (carried_never i.pages.db.schema i.carried ds said a h)
  ordered one other (carried a h) (reversal r p rule place k) = absurd (no_carried r p a h)
  ordered one other (carried a h) (sums r p k) = absurd (no_carried r p.passes a h)
  ordered one other (carried a h) (entries r p g k) = absurd (no_carried r p.passes a h)
  ordered one other (carried a h) (view r p g w place k) = absurd (no_carried r p.passes a h)
  ordered one other (further ds said m a h) (carried b k) = absurd (carried_never i.pages.db.schema i.carried ds said b k)
  ordered one other (further ds said m a h) (further es told n b k) =
      one_bad m n a b (record_once i.pages i.carried es alone i.after m n a b (subst (λ xs. RecordBreaks i.pages i.carried xs i.after m a) (carried_once i.pages.db.schema i.carried ds es said told) h) k)
  ordered one other (further ds said m a h) (reversal r p rule place k) = absurd (no_record r p ds said m a h)
  ordered one other (further ds said m a h) (sums r p k) = absurd (no_record r p.passes ds said m a h)
  ordered one other (further ds said m a h) (entries r p g k) = absurd (no_record r p.passes ds said m a h)
  ordered one other (further ds said m a h) (view r p g w place k) = absurd (no_record r p.passes ds said m a h)
  ordered one other (reversal r p m a h) (carried b k) = absurd (no_carried r p b k)
  ordered one other (reversal r p m a h) (further ds said n b k) = absurd (no_record r p ds said n b k)
  ordered one other (reversal r p m a h) (reversal q o n b k) =
      one_bad m n a b (back_once (λ n. place_by n (i.after ++ i.carried)) (replayed q).live (replayed q).db.rows (replayed q).view m n a b
      (subst (λ (x : Reading). BackBreaks (λ n. place_by n (i.after ++ i.carried)) (replayed x).live (replayed x).db.rows (replayed x).view m a) (passes_once r q p o) h) k)
  ordered one other (reversal r p m a h) (sums q o k) = absurd (no_back q o r p m a h)
  ordered one other (reversal r p m a h) (entries q o g k) = absurd (no_back q o r p m a h)
  ordered one other (reversal r p m a h) (view q o g w place k) = absurd (no_back q o r p m a h)
  ordered one other (sums r p h) (carried b k) = absurd (no_carried r p.passes b k)
  ordered one other (sums r p h) (further ds said n b k) = absurd (no_record r p.passes ds said n b k)
  ordered one other (sums r p h) (reversal q o n b k) = absurd (no_back r p q o n b k)
  ordered one other (sums r p h) (sums q o k) = refl
  ordered one other (sums r p h) (entries q o g k) = absurd (h (same_range q r o.passes p.passes g))
  ordered one other (sums r p h) (view q o g w place k) = absurd (h (same_range q r o.passes p.passes g))
  ordered one other (entries r p g h) (carried b k) = absurd (no_carried r p.passes b k)
  ordered one other (entries r p g h) (further ds said n b k) = absurd (no_record r p.passes ds said n b k)
  ordered one other (entries r p g h) (reversal q o n b k) = absurd (no_back r p q o n b k)
  ordered one other (entries r p g h) (sums q o k) = absurd (k (same_range r q p.passes o.passes g))
  ordered one other (entries r p g h) (entries q o f k) = refl
  ordered one other (entries r p g h) (view q o f w place k) =
      absurd (not_both i.data_limit (data_left i (recovered q)) w (subst (λ (x : Reading). Above i.data_limit (data_left i (recovered x))) (passes_once r q p.passes o.passes) h))
  ordered one other (view r p g v place h) (carried b k) = absurd (no_carried r p.passes b k)
  ordered one other (view r p g v place h) (further ds said n b k) = absurd (no_record r p.passes ds said n b k)
  ordered one other (view r p g v place h) (reversal q o n b k) = absurd (no_back r p q o n b k)
  ordered one other (view r p g v place h) (sums q o k) = absurd (k (same_range r q p.passes o.passes g))
  ordered one other (view r p g v place h) (entries q o f k) =
      absurd (not_both i.data_limit (data_left i (recovered q)) (subst (λ (x : Reading). Within i.data_limit (data_left i (recovered x))) (passes_once r q p.passes o.passes) v) k)
  ordered one other (view r p g v a h) (view q o f w b k) =
      ap BadView (one_view (recovered q) a b (subst (λ (x : Reading). IsFirstWrong (recovered x) a) (passes_once r q p.passes o.passes) h) k)

  pub fine_never : (why : ImageFault) → IsFine i → IsRefused i why → ⊥
  fine_never why f (carried a h) = no_carried f.reading f.sound.reverses.passes a h
  fine_never why f (further ds said m a h) = no_record f.reading f.sound.reverses.passes ds said m a h
  fine_never why f (reversal r p m a h) = no_back f.reading f.sound.reverses r p m a h
  fine_never why f (sums r p h) = h (same_range f.reading r f.sound.reverses.passes p.passes f.sound.in_range)
  fine_never why f (entries r p g h) =
      not_both i.data_limit (data_left i (recovered r)) (subst (λ (x : Reading). Within i.data_limit (data_left i (recovered x))) (passes_once f.reading r f.sound.reverses.passes p.passes) f.sound.within) h
  fine_never why f (view r p g w a h) =
      h.wrong (subst (λ (x : Reading). IsFreshAt (recovered x) a) (passes_once f.reading r f.sound.reverses.passes p.passes) (f.fresh_at a) h.column)

pub either : EitherLaw
either i clear none =
    carried_total i.pages.db.schema i.carried (λ place b. clear 13 place (carried place b)) (λ ds said.
    record_total i.pages i.carried ds i.after (λ rule place b. clear rule place (further ds said rule place b)) (λ es told.
    let r : Reading = record { pages = i.pages; carried = ds; after = es } in
    let passes : PassesAs i r = record { pages = refl; carried = said; after = told } in
    back_total (λ n. place_by n (i.after ++ i.carried)) (replayed r).live (replayed r).db.rows (replayed r).view (λ rule place b. clear rule place (reversal r passes rule place b)) (λ back.
    let reverses : ReversesAs i r = record { passes = passes; back = back } in
    clear 14 0 (sums r reverses (λ in_range.
    by_limit i.data_limit (data_left i (recovered r))
    (λ within. none r (record { reverses = reverses; in_range = in_range; within = within }))
    (λ above. clear 15 0 (entries r reverses in_range above)))))))
  where
    by_limit : (limit : Option ℕ) (bytes : ℕ) → (Within limit bytes → ⊥) → (Above limit bytes → ⊥) → ⊥
    by_limit None bytes f g = f tt
    by_limit (Some most) bytes f g = elim (leb_tells bytes most) [ inl h ↦ f h.1 | inr h ↦ g h.1 ]

-- ---- what a crash leaves

pub says_number : (objects : Schema) (r : Numbered) (e : Event) → Says objects r e → number_of e ≡ r.number
says_number objects r (Kept x) h = sym (ap (λ (q : Numbered). q.number) h)
says_number objects r (Ghost n p columns) h = sym (ap (λ (q : Numbered). q.number) h.0)
says_number objects r (Clean n p) h = sym (ap (λ (q : Numbered). q.number) h)
says_number objects r (Undo n t m) h = sym (ap (λ (q : Numbered). q.number) h)
says_number objects r (Commit n t k) h = sym (ap (λ (q : Numbered). q.number) h.1)
says_number objects r (Abort n t) h = sym (ap (λ (q : Numbered). q.number) h)
says_number objects r (Defined n k o) h = sym (ap (λ (q : Numbered). q.number) h.2)

carried_fit : (objects : Schema) (rs : List Placed) (ds : List Deed) → map (λ r. r.entry) rs ≡ map Some (map written ds) → AllDeeds (IsKnown objects) ds → DoNumbersFall ds → AreSmall (map written ds) → CarriedAs objects rs ds
carried_fit objects [] [] e known fall small = tt
carried_fit objects [] (d ∷ ds) e known fall small = absurd (cc)
carried_fit objects (r ∷ rs) [] e known fall small = absurd (cc)
carried_fit objects (r ∷ rs) (d ∷ ds) e known fall small = ((cc, known.0, fall.0, small.0), carried_fit objects rs ds (cc) known.1 fall.1 small.1)

records_fit : (p : Pages) (first : List Placed) (ds : List Deed) (rs : List Placed) (ns : List Numbered) (es : List Event) → map (λ r. r.entry) rs ≡ map Some ns → AllSay p.db.schema ns es → AllFit (on_pages p ds) es → AreSmall ns
    → SaidAs p first ds rs es
records_fit p first ds [] [] [] e say fit small = tt
records_fit p first ds [] [] (x ∷ es) e say fit small = absurd say
records_fit p first ds [] (n ∷ ns) es e say fit small = absurd (cc)
records_fit p first ds (r ∷ rs) [] es e say fit small = absurd (cc)
records_fit p first ds (r ∷ rs) (n ∷ ns) [] e say fit small = absurd say
records_fit p first ds (r ∷ rs) (n ∷ ns) (x ∷ es) e say fit small = (
  (n, cc, say.0, fit.0, fit.1, subst (λ m. m ≤ most_number) (sym (says_number (definitions p.db.schema es) n x say.0)) small.0),
  records_fit p first ds rs ns es (cc) say.1 fit.2 small.1,
)

pub right_fine : (s : Store) (left : Image) (acknowledged : ℕ) (right : IsRight s left acknowledged) (i : PlacedImage) → IsPlaced i left → Within i.data_limit (data_left i (recovered right.reading)) → AreSmall left.carried → AreSmall left.after → IsFine i
right_fine s left acknowledged right i same within few many =
    let r : Reading = right.reading in
    let read : IsRead left r = right.is_read in
    let pages : r.pages ≡ i.pages = read.pages ∙ sym same.pages in
    let say : AllSay i.pages.db.schema left.after r.after = subst (λ (p : Pages). AllSay p.db.schema left.after r.after) (sym same.pages) read.after in
    let known : AllDeeds (IsKnown i.pages.db.schema) r.carried = subst (λ (p : Pages). AllDeeds (IsKnown p.db.schema) r.carried) pages right.fits.known in
    let records : AllFit (on_pages i.pages r.carried) r.after = subst (λ (p : Pages). AllFit (on_pages p r.carried) r.after) pages right.fits.records in record {
      reading = r;
      sound = record {
        reverses = record {
          passes = record {
            pages = pages;
            carried = carried_fit i.pages.db.schema i.carried r.carried (same.carried ∙ ap (map Some) read.carried) known right.fits.fall (subst AreSmall read.carried few);
            after = records_fit i.pages i.carried r.carried i.after left.after r.after same.after say records many;
          };
          back = right.fits.back;
        };
        in_range = right.opens.in_range;
        within = within;
      };
      fresh_at = λ place column. right.opens.rows place column;
    }
