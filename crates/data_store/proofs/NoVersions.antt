-- Which view rows have versions.
use Rattle.std.specs.Prelude.{◌≡◌, ◌&&◌, ℕ, zero, suc, nat_le, nat_lt, not, Bool, true, false, cond, List, [], ◌∷◌, ◌++◌, map}
use Rattle.std.specs.List.{Contains}
use Rattle.std.proofs.lemmas.List.Elements.{filter-append, Contains-append_cases, Contains-append_left, Contains-append_right}
use mathlib.Core.Path.{refl, sym, ap, subst, ◌∙◌}
use mathlib.Core.Logic.{inl, inr}
use Rattle.std.proofs.Common.{arith}
use Rattle.iv_types.specs.declared.lock.GroupDelta.{GroupDelta}
use Rattle.table_laws.specs.Place.{Place}
use Rattle.iv_meaning.specs.Database.{Database}
use Rattle.iv_meaning.specs.History.{Entry, fold}
use Rattle.txn_machine.specs.Deltas.{is_for}
use Rattle.txn_machine.specs.Ghosts.{the_views}
use Rattle.txn_machine.specs.Store.{entry_deltas, deltas_above}
use Rattle.txn_machine.proofs.Reached.{reached}
use Rattle.version_chain.specs.Versions.{number, above}
use Rattle.version_chain.specs.Chains.{is_of, is_empty}
use Rattle.version_chain.specs.Law.{AreRising}
use Rattle.version_chain.proofs.LawLemmas.{empty_law}
use Rattle.data_store.specs.ViewPast.{DeltaVersions}
use Rattle.data_store.specs.Machine.{delta_by, deltas_by}
use Rattle.data_store.specs.Laws.{NoVersionLaw}
use Rattle.data_store.proofs.Left.{deltas_rise}
use Rattle.data_store.proofs.ViewsThen.{of_place, not_below, is_above}

-- none of some deltas is for a place
abbrev NoneFor : Place → List GroupDelta → Type 0
NoneFor p ds = (d : GroupDelta) → Contains ds d → is_for p d ≡ true → ⊥

empty_both : (p : Place) (vs ws : DeltaVersions) → is_empty p (vs ++ ws) ≡ (is_empty p vs && is_empty p ws)
empty_both p [] ws = refl
empty_both p (v ∷ vs) ws = ap (λ b. not (is_of p v) && b) (empty_both p vs ws) ∙ assoc (not (is_of p v)) (is_empty p vs) (is_empty p ws)
  where
    assoc : (a b c : Bool) → (a && (b && c)) ≡ ((a && b) && c)
    assoc true b c = refl
    assoc false b c = refl

above_both : (n : ℕ) (vs ws : DeltaVersions) → above n (vs ++ ws) ≡ above n vs ++ above n ws
above_both n vs ws = filter-append (λ v. nat_lt n (number v)) vs ws

-- of one entry
none_of : (p : Place) (m : ℕ) (ds : List GroupDelta) → is_empty p (map (delta_by m) ds) ≡ true → NoneFor p ds
none_of p m [] e d c for = absurd (omega (arith, c.1))
none_of p m (x ∷ ds) e d (zero, lt, is) for =
    let here : is_of p (delta_by m x) ≡ true = of_place p m x ∙ (ap (is_for p) is ∙ for) in
    absurd (let bad : false ≡ true = subst (λ b. (not b && is_empty p (map (delta_by m) ds)) ≡ true) here e in cc)
none_of p m (x ∷ ds) e d (suc k, lt, is) for = none_of p m ds (rest (not (is_of p (delta_by m x))) (is_empty p (map (delta_by m) ds)) e) d (k, omega (arith, lt), is) for
  where
    rest : (a b : Bool) → (a && b) ≡ true → b ≡ true
    rest true b e = e
    rest false b e = absurd (cc)

all_of : (p : Place) (m : ℕ) (ds : List GroupDelta) → NoneFor p ds → is_empty p (map (delta_by m) ds) ≡ true
all_of p m [] h = refl
all_of p m (x ∷ ds) h = by (is_for p x) refl (all_of p m ds (λ d c. h d (suc c.0, omega (arith, c.1), c.2)))
  where
    by : (b : Bool) → is_for p x ≡ b → is_empty p (map (delta_by m) ds) ≡ true → is_empty p (map (delta_by m) (x ∷ ds)) ≡ true
    by true is rest = absurd (h x (0, omega arith, refl) is)
    by false is rest = rw (of_place p m x ∙ is) rest

all_above : (n m : ℕ) (ds : List GroupDelta) → nat_lt n m ≡ true → above n (map (delta_by m) ds) ≡ map (delta_by m) ds
all_above n m [] is = refl
all_above n m (d ∷ ds) is = rw is (ap (λ (l : DeltaVersions). delta_by m d ∷ l) (all_above n m ds is))

none_above : (n m : ℕ) (ds : List GroupDelta) → nat_lt n m ≡ false → above n (map (delta_by m) ds) ≡ []
none_above n m [] is = refl
none_above n m (d ∷ ds) is = rw is (none_above n m ds is)

-- of a history
both_true : (a b : Bool) → (a && b) ≡ true → (a ≡ true) × (b ≡ true)
both_true true b e = (refl, e)
both_true false b e = absurd (cc)

module _ (p : Place) (n : ℕ) where
  entry_first : (e : Entry) (es : List Entry) (db : Database) → nat_le e.number n ≡ true → is_empty p (above n (deltas_by db (e ∷ es))) ≡ is_empty p (above n (deltas_by (fold (e ∷ []) db) es))
  entry_first e es db is =
      ap (is_empty p) (above_both n (map (delta_by e.number) (entry_deltas the_views db e.kept)) (deltas_by (fold (e ∷ []) db) es)
      ∙ ap (λ (l : DeltaVersions). l ++ above n (deltas_by (fold (e ∷ []) db) es)) (none_above n e.number (entry_deltas the_views db e.kept) (not_below n e.number is)))

  entry_later : (e : Entry) (es : List Entry) (db : Database) → nat_le e.number n ≡ false
      → is_empty p (above n (deltas_by db (e ∷ es))) ≡ (is_empty p (map (delta_by e.number) (entry_deltas the_views db e.kept)) && is_empty p (above n (deltas_by (fold (e ∷ []) db) es)))
  entry_later e es db is =
      ap (is_empty p) (above_both n (map (delta_by e.number) (entry_deltas the_views db e.kept)) (deltas_by (fold (e ∷ []) db) es)
      ∙ ap (λ (l : DeltaVersions). l ++ above n (deltas_by (fold (e ∷ []) db) es)) (all_above n e.number (entry_deltas the_views db e.kept) (is_above n e.number is)))
      ∙ empty_both p (map (delta_by e.number) (entry_deltas the_views db e.kept)) (above n (deltas_by (fold (e ∷ []) db) es))

  none_left : (es : List Entry) (db : Database) → is_empty p (above n (deltas_by db es)) ≡ true → NoneFor p (deltas_above the_views n db es)
  none_left [] db h = λ d c for. absurd (omega (arith, c.1))
  none_left (e ∷ es) db h = by (nat_le e.number n) refl (none_left es (fold (e ∷ []) db))
    where
      by : (b : Bool) → nat_le e.number n ≡ b → (is_empty p (above n (deltas_by (fold (e ∷ []) db) es)) ≡ true → NoneFor p (deltas_above the_views n (fold (e ∷ []) db) es))
          → NoneFor p (cond b (deltas_above the_views n (fold (e ∷ []) db) es) (entry_deltas the_views db e.kept ++ deltas_above the_views n (fold (e ∷ []) db) es))
      by true is rest = rest (sym (entry_first e es db is) ∙ h)
      by false is rest =
          let parts = both_true _ _ (sym (entry_later e es db is) ∙ h) in
          λ d c for. elim (Contains-append_cases (entry_deltas the_views db e.kept) (deltas_above the_views n (fold (e ∷ []) db) es) d c) [
            | inl here ↦ none_of p e.number (entry_deltas the_views db e.kept) parts.0 d here for
            | inr later ↦ rest parts.1 d later for
          ]

  all_left : (es : List Entry) (db : Database) → NoneFor p (deltas_above the_views n db es) → is_empty p (above n (deltas_by db es)) ≡ true
  all_left [] db h = refl
  all_left (e ∷ es) db h = by (nat_le e.number n) refl h (all_left es (fold (e ∷ []) db))
    where
      by : (b : Bool) → nat_le e.number n ≡ b → NoneFor p (cond b (deltas_above the_views n (fold (e ∷ []) db) es) (entry_deltas the_views db e.kept ++ deltas_above the_views n (fold (e ∷ []) db) es))
          → (NoneFor p (deltas_above the_views n (fold (e ∷ []) db) es) → is_empty p (above n (deltas_by (fold (e ∷ []) db) es)) ≡ true) → is_empty p (above n (deltas_by db (e ∷ es))) ≡ true
      by true is none rest = entry_first e es db is ∙ rest none
      by false is none rest =
          entry_later e es db is
          ∙ ((λ i. all_of p e.number (entry_deltas the_views db e.kept) (λ d c. none d (Contains-append_left (entry_deltas the_views db e.kept) (deltas_above the_views n (fold (e ∷ []) db) es) d c)) i
          && rest (λ d c. none d (Contains-append_right (entry_deltas the_views db e.kept) (deltas_above the_views n (fold (e ∷ []) db) es) d c)) i))

pub no_version_law : NoVersionLaw
no_version_law s r rows deltas pending past p =
    let left = past.deltas in
    let rising : AreRising (deltas_by s.store.origin s.store.history) = deltas_rise s.store.history s.store.origin (reached s r).history in
    let same : is_empty p deltas ≡ is_empty p (above s.store.mark (deltas_by s.store.origin s.store.history)) =
    ap (λ (c : DeltaVersions × ℕ). is_empty p c.0) (sym left.left) ∙ (empty_law left.calls (subst AreRising (sym left.pushed) rising) p ∙ (λ i. is_empty p (above (left.left i).1 (left.pushed i)))) in (
      λ e. none_left p s.store.mark s.store.history s.store.origin (sym same ∙ e),
      λ none. same ∙ all_left p s.store.mark s.store.history s.store.origin none,
    )
