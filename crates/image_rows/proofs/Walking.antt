-- A walk over the places of a map of entries, and the least page of those that fail.
use Rattle.std.proofs.Common.{◌≡◌, ◌≢◌, ◌⊎◌, inl, inr, ℕ, suc, ◌<◌, ◌≤◌, Bool, true, false, cond, [], ◌∷◌, Option, Some, None, IsSome, option_map, refl, sym, ap, subst, ◌∙◌, arith}
use Rattle.std.specs.Prelude.{not, if◌then◌else◌}
use Rattle.std.specs.declared.cmp.Ordering.{Ordering}
use Rattle.std.specs.declared.cmp.Ordering.TheVariants.{Less, Equal, Greater}
use Rattle.std.specs.Ordering.{is_eq, is_lt, is_gt, ordering_reverse}
use Rattle.std.specs.FinMap.{FinMap, find, get, entries, get-entries, entries_sorted}
use Rattle.std.proofs.lemmas.Bool.{true≢false, false≢true, cases_lt}
use Rattle.table_laws.specs.Place.{Place, place_cmp}
use Rattle.table_laws.proofs.Place.{place_cmp_total, place_cmp-IsAntisymmetric}
use Rattle.table_laws.proofs.Tables.{by_bool, other_key, same_key}
use Rattle.spare_map.specs.Trees.{first_where, is_from}
use Rattle.spare_map.proofs.Firsts.{none_where, some_where}
use Rattle.txn_machine.proofs.Agreeing.{by_place}
use Rattle.iv_meaning.specs.Schema.{Schema}
use Rattle.txn_log.specs.Damaged.{EntryStands}
use Rattle.txn_log.proofs.Standing.{by_option}
use Rattle.image_entries.specs.declared.stored.StoredEntry.{StoredEntry}
use Rattle.image_entries.proofs.Gathering.{same_some}
use Rattle.image_entries.proofs.Walks.{Held, first_place, from_least}
use Rattle.image_rows.specs.Rows.{lesser, LeastWith, StandsOrBehind, AreTold}

-- ---- places

not_from : (k x : Place) → is_from false k x ≡ false → place_cmp k x ≡ Greater
not_from k x h = by (place_cmp k x) h
  where
    by : (w : Ordering) → not (is_gt w) ≡ false → w ≡ Greater
    by Less e = absurd (true≢false e)
    by Equal e = absurd (true≢false e)
    by Greater e = refl

-- what is at or behind a later place is behind an earlier one
from_later : (p q x : Place) → place_cmp p q ≡ Less → is_from false q x ≡ true → is_from false p x ≡ true
from_later p q x lt h = by_bool (is_from false p x) (λ e. e) (λ e.
    let before : place_cmp x p ≡ Less = place_cmp_total.antisymm x p ∙ ap ordering_reverse (not_from p x e) in
    let turned : place_cmp q x ≡ Greater = place_cmp_total.antisymm q x ∙ ap ordering_reverse (place_cmp_total.trans x p q before lt) in
    absurd (true≢false (sym h ∙ ap (λ w. not (is_gt w)) turned)))

past_less : (p q : Place) → is_from true p q ≡ true → place_cmp p q ≡ Less
past_less p q h = by (place_cmp p q) h
  where
    by : (w : Ordering) → is_lt w ≡ true → w ≡ Less
    by Less e = refl
    by Equal e = absurd (false≢true e)
    by Greater e = absurd (false≢true e)

-- a place that is neither behind another nor that other is before it
past_neither : (p q : Place) → is_from true p q ≡ false → q ≢ p → is_from false p q ≡ false
past_neither p q h other = by (place_cmp p q) h (other_key place_cmp_total place_cmp-IsAntisymmetric p q (λ e. other (sym e)))
  where
    by : (w : Ordering) → is_lt w ≡ false → is_eq w ≡ false → not (is_gt w) ≡ false
    by Less e f = absurd (true≢false e)
    by Equal e f = absurd (true≢false f)
    by Greater e f = refl

-- ---- how many are left

abbrev so_many : (Place → Bool) → Held → ℕ
so_many test [] = 0
so_many test (e ∷ es) = if test e.0 then suc (so_many test es) else so_many test es

-- of a walk that stands at a place, or has ended
abbrev pub left : Held → Option Place → ℕ
left es None = 0
left es (Some p) = so_many (is_from false p) es

module _ (f g : Place → Bool) (so : (x : Place) → f x ≡ true → g x ≡ true) where
  step : (es : Held) (a b : Bool) → (a ≡ true → b ≡ true) → so_many f es ≤ so_many g es → cond a (suc (so_many f es)) (so_many f es) ≤ cond b (suc (so_many g es)) (so_many g es)
  step es true true i le = omega (arith, le)
  step es true false i le = absurd (false≢true (i refl))
  step es false true i le = omega (arith, le)
  step es false false i le = le

  step_less : (es : Held) (a b : Bool) → (a ≡ true → b ≡ true) → so_many f es < so_many g es → cond a (suc (so_many f es)) (so_many f es) < cond b (suc (so_many g es)) (so_many g es)
  step_less es true true i lt = omega (arith, lt)
  step_less es true false i lt = absurd (false≢true (i refl))
  step_less es false true i lt = omega (arith, lt)
  step_less es false false i lt = lt

  no_more : (es : Held) → so_many f es ≤ so_many g es
  no_more [] = omega arith
  no_more (e ∷ es) = step es (f e.0) (g e.0) (so e.0) (no_more es)

  fewer : (p : Place) → f p ≡ false → g p ≡ true → (es : Held) → IsSome (find place_cmp p es) → so_many f es < so_many g es
  fewer p out within [] has = absurd (false≢true has)
  fewer p out within (e ∷ es) has = by_place p e.0
      (λ same.
      let one : so_many f (e ∷ es) ≡ so_many f es = ap (λ b. cond b (suc (so_many f es)) (so_many f es)) (ap f (sym same) ∙ out) in
      let two : so_many g (e ∷ es) ≡ suc (so_many g es) = ap (λ b. cond b (suc (so_many g es)) (so_many g es)) (ap g (sym same) ∙ within) in
      let le = no_more es in
      omega (arith, one, two, le))
      (λ other. step_less es (f e.0) (g e.0) (so e.0) (fewer p out within es
      (subst IsSome (ap (λ b. cond b (Some e.1) (find place_cmp p es)) (other_key place_cmp_total place_cmp-IsAntisymmetric p e.0 other)) has)))

-- ---- the place that is found next

abbrev Entries : Type 0
Entries = FinMap place_cmp StoredEntry

-- a walk that stands at a place, or has ended, is past this one
abbrev pub IsPast : Option Place → Place → Type 0
IsPast None p = Unit {0}
IsPast (Some k) p = is_from false k p ≡ false

of_entry : (o : Option (Place × StoredEntry)) (q : Place) → option_map (λ e. e.0) o ≡ Some q → (e : Place × StoredEntry) × (o ≡ Some e) × (e.0 ≡ q)
of_entry None q is = absurd (cc is)
of_entry (Some e) q is = (e, refl, cc is)

of_none : (o : Option (Place × StoredEntry)) → option_map (λ e. e.0) o ≡ None → o ≡ None
of_none None is = refl
of_none (Some e) is = absurd (cc is)

module _ (m : Entries) (test : Place → Bool) where
  next_there : (q : Place) → first_place test (entries m) ≡ Some q → IsSome (get m q)
  next_there q is =
      let one = of_entry (first_where test (entries m)) q is in
      let there = (some_where test (entries m) one.0 (entries_sorted m) one.1).there in
      subst IsSome (sym (get-entries m q ∙ (ap (λ (k : Place). find place_cmp k (entries m)) (sym one.2) ∙ there))) refl

  next_passes : (q : Place) → first_place test (entries m) ≡ Some q → test q ≡ true
  next_passes q is =
      let one = of_entry (first_where test (entries m)) q is in
      subst (λ (k : Place). test k ≡ true) one.2 (some_where test (entries m) one.0 (entries_sorted m) one.1).passes

  -- what it is past does not pass
  next_least : (next : Option Place) → next ≡ first_place test (entries m) → (p : Place) (s : StoredEntry) → get m p ≡ Some s → IsPast next p → test p ≡ false
  next_least None is p s held past = by_bool (test p)
      (λ h. absurd (let wrong : Some s ≡ None = sym held ∙ (get-entries m p ∙ none_where test (entries m) (of_none (first_where test (entries m)) (sym is)) p h) in cc))
      (λ h. h)
  next_least (Some k) is p s held past = by_bool (test p)
      (λ h.
      let one = of_entry (first_where test (entries m)) k (sym is) in
      let first = (some_where test (entries m) one.0 (entries_sorted m) one.1).first in
      let there : IsSome (find place_cmp p (entries m)) = subst IsSome (sym held ∙ get-entries m p) refl in
      absurd (first p there h (ap (λ (q : Place). place_cmp q p) one.2 ∙ not_from k p past)))
      (λ h. h)

-- ---- what is known of the entries that a walk is past

-- an entry of this page fails
pub record IsOne (objects : Schema) (m : Entries) (page : ℕ) : Type 0 where
  pub at : Place
  pub held : StoredEntry
  pub there : get m at ≡ Some held
  pub fails : EntryStands objects (at, held.value) → ⊥
  pub page_is : page ≡ held.page

abbrev pub IsKnown : Schema → Option ℕ → Place → StoredEntry → Type 0
IsKnown objects None p s = EntryStands objects (p, s.value)
IsKnown objects (Some page) p s = StandsOrBehind objects page p s

pub record IsTelling (objects : Schema) (m : Entries) (least : Option ℕ) (next : Option Place) : Type 0 where
  pub there : (p : Place) → next ≡ Some p → IsSome (get m p)
  pub one : (page : ℕ) → least ≡ Some page → IsOne objects m page
  pub each : (p : Place) (s : StoredEntry) → get m p ≡ Some s → IsPast next p → IsKnown objects least p s

pub telling_begins : (objects : Schema) (m : Entries) (next : Option Place) → next ≡ first_place (is_from false (0, [])) (entries m) → IsTelling objects m None next
telling_begins objects m next is = record {
  there = λ p e. next_there m (is_from false (0, [])) p (sym is ∙ e);
  one = λ page e. absurd (cc e);
  each = λ p s held past. absurd (true≢false (sym (from_least p) ∙ next_least m (is_from false (0, [])) next is p s held past));
}

lesser_le : (page : ℕ) (other : ℕ) → (lesser page (Some other) ≤ other) × (lesser page (Some other) ≤ page)
lesser_le page other = (omega arith, omega arith)

lesser_is : (page other : ℕ) → (lesser page (Some other) ≡ other) ⊎ (lesser page (Some other) ≡ page)
lesser_is page other = by (cases_lt other page)
  where
    by : (other < page) ⊎ (page ≤ other) → (lesser page (Some other) ≡ other) ⊎ (lesser page (Some other) ≡ page)
    by (inl lt) = inl (omega (arith, lt))
    by (inr le) = inr (omega (arith, le))

module _ (objects : Schema) (m : Entries) (p : Place) (s : StoredEntry) (held : get m p ≡ Some s) where
  -- a lesser page is behind what was behind
  known_still : (page : ℕ) (least : Option ℕ) (q : Place) (t : StoredEntry) → IsKnown objects least q t → StandsOrBehind objects (lesser page least) q t
  known_still page None q t h = inl h
  known_still page (Some other) q t (inl h) = inl h
  known_still page (Some other) q t (inr h) = let le = (lesser_le page other).0 in let more = h.1 in inr (h.0, omega (arith, le, more))

  known_here : (least : Option ℕ) → (EntryStands objects (p, s.value) → ⊥) → StandsOrBehind objects (lesser s.page least) p s
  known_here None fails = inr (fails, omega arith)
  known_here (Some other) fails = inr (fails, (lesser_le s.page other).1)

  one_here : (least : Option ℕ) → (EntryStands objects (p, s.value) → ⊥) → ((page : ℕ) → least ≡ Some page → IsOne objects m page) → IsOne objects m (lesser s.page least)
  one_here None fails one = record { at = p; held = s; there = held; fails = fails; page_is = refl }
  one_here (Some other) fails one = elim (lesser_is s.page other) [
    | inl e ↦ subst (IsOne objects m) (sym e) (one other refl)
    | inr e ↦ record { at = p; held = s; there = held; fails = fails; page_is = e }
  ]

  with_stands : (least found : Option ℕ) (next : Option Place) → found ≡ least → EntryStands objects (p, s.value) → IsTelling objects m least (Some p) → next ≡ first_place (is_from true p) (entries m) → IsTelling objects m found next
  with_stands least found next same stands at is = subst (λ (o : Option ℕ). IsTelling objects m o next) (sym same) (record {
    there = λ q e. next_there m (is_from true p) q (sym is ∙ e);
    one = at.one;
    each = λ q t kept past. by_place q p
        (λ here. known least q t (subst (λ (x : Place × StoredEntry). EntryStands objects (x.0, x.1.value)) (λ i. (sym here i, same_some s t (sym held ∙ (ap (get m) (sym here) ∙ kept)) i)) stands))
        (λ other. at.each q t kept (past_neither p q (next_least m (is_from true p) next is q t kept past) other));
  })
    where
      known : (o : Option ℕ) (q : Place) (t : StoredEntry) → EntryStands objects (q, t.value) → IsKnown objects o q t
      known None q t h = h
      known (Some page) q t h = inl h

  with_fails : (least found : Option ℕ) (next : Option Place) → found ≡ Some (lesser s.page least) → (EntryStands objects (p, s.value) → ⊥) → IsTelling objects m least (Some p) → next ≡ first_place (is_from true p) (entries m) → IsTelling objects m found next
  with_fails least found next same fails at is = subst (λ (o : Option ℕ). IsTelling objects m o next) (sym same) (record {
    there = λ q e. next_there m (is_from true p) q (sym is ∙ e);
    one = λ page e. subst (IsOne objects m) (same_some (lesser s.page least) page e) (one_here least fails at.one);
    each = λ q t kept past. by_place q p
        (λ here. subst (λ (x : Place × StoredEntry). StandsOrBehind objects (lesser s.page least) x.0 x.1) (λ i. (sym here i, same_some s t (sym held ∙ (ap (get m) (sym here) ∙ kept)) i)) (known_here least fails))
        (λ other. known_still s.page least q t (at.each q t kept (past_neither p q (next_least m (is_from true p) next is q t kept past) other)));
  })

  telling_on : (least found : Option ℕ) (next : Option Place) → LeastWith objects p s least found → IsTelling objects m least (Some p) → next ≡ first_place (is_from true p) (entries m) → IsTelling objects m found next
  telling_on least found next (inl h) at is = with_stands least found next h.1 h.0 at is
  telling_on least found next (inr h) at is = with_fails least found next h.1 h.0 at is

module _ (objects : Schema) (m : Entries) (least : Option ℕ) (p : Place) (at : IsTelling objects m least (Some p)) (next : Option Place) (is : next ≡ first_place (is_from true p) (entries m)) where
  pub telling_goes_on : (found : Option ℕ) → ((s : StoredEntry) → get m p ≡ Some s → LeastWith objects p s least found) → IsTelling objects m found next
  telling_goes_on found told = by_option (get m p)
      (λ none. absurd (true≢false (sym (subst IsSome none (at.there p refl)))))
      (λ s held. telling_on objects m p s held least found next (told s held) at is)

  pub telling_smaller : left (entries m) next < left (entries m) (Some p)
  telling_smaller = by next is
    where
      here : IsSome (find place_cmp p (entries m))
      here = subst IsSome (get-entries m p) (at.there p refl)

      itself : is_from false p p ≡ true
      itself = by_bool (is_from false p p) (λ e. e) (λ e. absurd (let same = same_key place_cmp_total place_cmp-IsAntisymmetric p p refl in true≢false (sym same ∙ ap is_eq (not_from p p e))))

      by : (o : Option Place) → o ≡ first_place (is_from true p) (entries m) → left (entries m) o < left (entries m) (Some p)
      by None e = let some = fewer (λ x. false) (is_from false p) (λ x is. absurd (false≢true is)) p refl itself (entries m) here in omega (arith, some)
      by (Some q) e =
          let less = past_less p q (next_passes m (is_from true p) q (sym e)) in
          let later : is_from false q p ≡ false = ap (λ w. not (is_gt w)) (place_cmp_total.antisymm q p ∙ ap ordering_reverse less) in
          fewer (is_from false q) (is_from false p) (λ x. from_later p q x less) p later itself (entries m) here

-- ---- the end

pub telling_done : (objects : Schema) (m : Entries) (least : Option ℕ) → IsTelling objects m least None → AreTold objects m least
telling_done objects m None at = λ p s held. at.each p s held tt
telling_done objects m (Some page) at =
    let one = at.one page refl in
    record { at = one.at; held = one.held; there = one.there; fails = one.fails; page_is = one.page_is; others = λ p s held. at.each p s held tt }
