-- All seats have come into the first: the value is at home, and agrees with each of them.
use Rattle.std.proofs.Common.{◌≡◌, ◌≢◌, ◌⊎◌, ℕ, zero, suc, ◌^◌, ◌<◌, ◌≤◌, true, List, [], ◌∷◌, ◌++◌, length, get_or, refl, sym, ap, ◌∙◌, subst, ⊎_elim, inl, inr, arith, Option, Some, None, Contains, All, map}
use mathlib.Core.Option.{some, none, some-ne-none, some-injective}
use mathlib.Core.Option as maybe
use mathlib.Core.Logic.{dite}
use native.Mathlib.Decide.{ℕ_discrete}
use lib.ListN.{get_elem?}
use Rattle.std.proofs.lemmas.Option.{none-some, same_Some}
use Rattle.atomic_table.specs.Table.{State, Me, Final, Seen}
use Rattle.atomic_table.proofs.Lists.{at_longer, at_last}
use Rattle.turn_latch.specs.declared.view.View.{View}
use Rattle.turn_latch.specs.declared.view.Retired.{Retired}
use Rattle.turn_latch.specs.declared.view.Exchange.{Exchange}
use Rattle.turn_latch.specs.Histories.{of}
use Rattle.turn_latch.specs.Exchanges.{maker, Saw, Leads, Run}
use Rattle.turn_latch.specs.Views.{retired_of}
use Rattle.turn_latch.specs.Latched.{Lies, Fits, Latched, Ends, Rest}

module _ {T : Type 0} where
  -- a seat with this number was taken in
  abbrev pub InRetired : ℕ → List (Retired T) → Type 0
  InRetired n d = (k : ℕ) × (q : Retired T) × (get_elem? d k ≡ some q) × (q.number ≡ n)

pub none_left : {A T : Type 0} (f : A → ℕ) (xs : List A) (n : ℕ) (d : List (Retired T)) → xs ≡ [] → Contains (map f xs) n ⊎ InRetired n d → InRetired n d
none_left {A = A} f xs n d e = subst (λ (ys : List A). Contains (map f ys) n ⊎ InRetired n d → InRetired n d) (sym e) (λ t. ⊎_elim (λ (h : Contains [] n). absurd (let lt = h.1 in omega arith)) (λ h. h) t)

pub all_none : {A : Type 0} (P : A → Type 0) (xs : List A) → xs ≡ [] → All P xs
all_none P xs e = subst (All P) (sym e) (λ k d lt. absurd (omega arith))

last_or : (xs : List ℕ) (y n i : ℕ) → i < length (xs ++ y ∷ []) → get_or (xs ++ y ∷ []) i n ≡ n → Contains xs n ⊎ (y ≡ n)
last_or [] y n zero h e = inr e
last_or [] y n (suc i) h e = absurd (omega arith)
last_or (x ∷ xs) y n zero h e = inl (0, omega arith, e)
last_or (x ∷ xs) y n (suc i) h e = ⊎_elim (λ (t : Contains xs n). inl (suc t.0, (let lt = t.1 in omega arith), t.2)) (λ t. inr t) (last_or xs y n i (omega arith) e)

module _ {T : Type 0} where
  -- a seat goes from the row to those that were taken in
  pub moves_over : (n : ℕ) (ns : List ℕ) (w : View T) (d : List (Retired T)) → Contains (ns ++ w.number ∷ []) n ⊎ InRetired n d → Contains ns n ⊎ InRetired n (d ++ retired_of w ∷ [])
  moves_over n ns w d = ⊎_elim
      (λ (h : Contains (ns ++ w.number ∷ []) n). ⊎_elim (λ t. inl t) (λ (e : w.number ≡ n). inr (length d, retired_of w, at_last d (retired_of w) (length d) refl, e)) (last_or ns w.number n h.0 h.1 h.2))
      (λ (h : InRetired n d). inr (h.0, h.1, at_longer d (retired_of w ∷ []) h.0 h.1 h.2, h.3))

module _ {T E Q : Type 0} (history : T → List E) (by : E → ℕ) (part : T → ℕ → Q) where
  abbrev V : Type 0
  V = View T

  -- the value agrees with what a seat knows, and so do all exchanges
  abbrev pub EndsIn : T → List (Exchange T) → V → Type 0
  EndsIn x log v = Ends history by part x v × Saw log v.number v.log

  abbrev pub AllFit : T → List (Exchange T) → List (Retired T) → Type 0
  AllFit x log d = (k : ℕ) (q : Retired T) → get_elem? d k ≡ some q → Fits history by part x q.number q.seen q.knew × Saw log q.number q.log

  pub fit_before : (x : T) (log : List (Exchange T)) (w : V) (d : List (Retired T)) → AllFit x log (d ++ retired_of w ∷ []) → AllFit x log d
  fit_before x log w d all k q e = all k q (at_longer d (retired_of w ∷ []) k q e)

  pub fit_last : (x : T) (log : List (Exchange T)) (w : V) (d : List (Retired T)) → AllFit x log (d ++ retired_of w ∷ []) → EndsIn x log w
  fit_last x log w d all = all (length d) (retired_of w) (at_last d (retired_of w) (length d) refl)

  -- what is known of the value x, and of all exchanges, as the latch ends
  abbrev pub Known : T → List (Exchange T) → V → List (Retired T) → Type 0
  Known x log v d = EndsIn x log v × AllFit x log d × Rest history by part x v × (length (history x) ≤ 2 ^ 62) × Run history v.origin log x None × ((k : ℕ) → v.made < k → of maker k log ≡ [])

  abbrev pub Found : Option T → V → Type 0
  Found r v = (x : T) × (log : List (Exchange T)) × (r ≡ Some x) × Known x log v v.retired

  module _ (id : ℕ) (v : V) (ws : List ℕ) (xs : List (Option T)) (r : Option T) (numbered : v.numbered ≡ true) (zeroth : v.number ≡ 0) (free : v.held ≡ None)
      (each : (n : ℕ) → 0 < n → n ≤ v.made → InRetired n v.retired) (there : get_elem? xs 0 ≡ some r) where
    ends_by : (s : State (Option T) V) (l : Latched history by part s) → get_elem? s.views id ≡ some v → ((k : ℕ) (y : Option T) → get_elem? s.homes k ≡ some (some y) → get_elem? xs k ≡ some y)
        → (t : Option ℕ) → l.turn ≡ t → Found r v
    ends_by s l at home None is =
        let x = l.value in let mine = l.each id v at in let f = mine.first numbered zeroth in
        let lies : Lies history s.words s.homes x None = subst (Lies history s.words s.homes x) is l.lies in (
          x,
          l.log,
          some-injective r (Some x) (sym there ∙ home 0 (Some x) (ap (λ (hs : List (maybe.Option (Option T))). get_elem? hs 0) lies.1)),
          (
            (let t = mine.fits numbered in (t.0, t.2)),
            (λ k q e. let t = mine.retired k q e in (t.0, t.2)),
            (λ k more. let u = l.unmade k (let same : v.made ≡ l.made = f in omega arith) in ((l.origin, mine.put_in numbered, u.0), u.1)),
            l.short,
            (l.origin, mine.put_in numbered, subst (Leads history l.origin None l.log x) (l.idle is) l.leads),
            (λ k more. (l.unmade k (let same : v.made ≡ l.made = f in omega arith)).2),
          ),
        )
    ends_by s l at home (Some j) is =
        let h = l.holder j is in let w = h.0 in let le = ((l.each j w h.1).fits h.2).1 in let same : v.made ≡ l.made = (l.each id v at).first numbered zeroth in
        dite (ℕ_discrete w.number 0)
        (λ (z : w.number ≡ 0). let one : j ≡ id = l.apart j id w v h.1 at h.2 numbered (z ∙ sym zeroth) in
        let it : w ≡ v = some-injective w v (sym h.1 ∙ (ap (get_elem? s.views) one ∙ at)) in absurd (none-some l.value (sym free ∙ (ap (λ (u : V). u.held) (sym it) ∙ h.3))))
        (λ (z : w.number ≢ 0). let q = each w.number (omega arith) (omega arith) in absurd (l.gone id j q.0 v w q.1 at q.2 h.1 h.2 (sym q.3)))

    pub closes : Final (Seen (Latched history by part) id v) ws xs → Found r v
    closes f = ends_by f.0 f.1.0 f.1.1 f.4 f.1.0.turn refl

  -- what was found of the view as it was before the others came in
  pub found_first : (m m0 : Me (Option T) V) (r : Option T) (value : T) → m ≡ (record (m0.0) { retired = m.0.retired }, []) → r ≡ Some value → Found r m.0 → (log : List (Exchange T)) × Known value log m0.0 m.0.retired
  found_first m m0 r value is some_value f =
      let same : f.0 ≡ value = same_Some f.0 value (sym f.2 ∙ some_value) in
      (f.1, subst (λ (x : T). Known x f.1 m0.0 m.0.retired) same (subst (λ (z : Me (Option T) V). Known f.0 f.1 z.0 m.0.retired) is f.3))
