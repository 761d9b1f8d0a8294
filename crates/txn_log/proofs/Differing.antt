-- Where stored rows of views are not as evaluated afresh, one of them is the first.
use Rattle.std.specs.Prelude.{◌≡◌, ◌≢◌, ◌⊎◌, ℕ, ℤ, pos, cond, List, [], ◌∷◌, ◌++◌, map}
use Rattle.std.specs.List.{Contains, flat_map}
use Rattle.std.specs.FinMap.{get, entries}
use Rattle.std.specs.Ordering.{int_eq}
use Rattle.std.specs.Cmp.{tied_itself}
use Rattle.std.specs.declared.cmp.Ordering.{Ordering}
use Rattle.std.specs.declared.cmp.Ordering.TheVariants.{Less, Equal, Greater}
use mathlib.Core.Path.{refl, sym, ap, subst, ◌∙◌}
use mathlib.Core.Logic.{inl, inr}
use Rattle.std.proofs.Common.{arith}
use Rattle.std.proofs.lemmas.Int.{ints}
use Rattle.std.proofs.lemmas.Bool.{false≢true}
use Rattle.std.proofs.lemmas.Bool.Decides.{Decides-int_eq}
use Rattle.iv_types.specs.declared.lock.GroupDelta.{GroupDelta}
use Rattle.table_laws.specs.Place.{Place, place_cmp}
use Rattle.table_laws.proofs.Place.{place_cmp_total, place_cmp-IsAntisymmetric}
use Rattle.table_laws.proofs.Tables.{by_bool, Contains-entries}
use Rattle.txn_machine.specs.Deltas.{worth, place_of, due, views_of}
use Rattle.txn_machine.specs.Fresh.{all_contributions, fresh}
use Rattle.txn_machine.specs.Stored.{ViewRows, stored_number}
use Rattle.txn_machine.proofs.Columns.{adds, is_for_other, number_in_row}
use Rattle.txn_machine.proofs.Holding.{by_contains, contains_none}
use Rattle.txn_log.specs.Replay.{Pages, recovered}
use Rattle.txn_log.specs.Refused.{IsFreshAt, IsFirstWrong, view, WrongViewLaw}
use Rattle.txn_log.proofs.Standing.{by_option}

-- ---- the places at which a number may be other than 0

abbrev Among : List Place → Place → Type 0
Among [] q = ⊥
Among (x ∷ xs) q = (q ≡ x) ⊎ Among xs q

among_left : (xs ys : List Place) (q : Place) → Among xs q → Among (xs ++ ys) q
among_left [] ys q a = absurd a
among_left (x ∷ xs) ys q (inl e) = inl e
among_left (x ∷ xs) ys q (inr a) = inr (among_left xs ys q a)

among_right : (xs ys : List Place) (q : Place) → Among ys q → Among (xs ++ ys) q
among_right [] ys q a = a
among_right (x ∷ xs) ys q a = inr (among_right xs ys q a)

entry_among : (es : List (Place × List ℤ)) (e : Place × List ℤ) → Contains es e → Among (map (λ x. x.0) es) e.0
entry_among [] e c = absurd (contains_none e c)
entry_among (x ∷ es) e c = by_contains x es e c (λ same. inl (ap (λ (y : Place × List ℤ). y.0) (sym same))) (λ d. inr (entry_among es e d))

abbrev stored_places : ViewRows → List Place
stored_places stored = map (λ e. e.0) (entries stored)

stored_none : (stored : ViewRows) (q : Place) (column : ℕ) → (Among (stored_places stored) q → ⊥) → stored_number stored q column ≡ pos 0
stored_none stored q column none = by_option (get stored q) (λ e. ap (number_in_row column) e)
    (λ x e. absurd (none (entry_among (entries stored) (q, x) ((Contains-entries place_cmp_total place_cmp-IsAntisymmetric stored q x).1 e))))

due_none : (q : Place) (column : ℕ) (ds : List GroupDelta) → (Among (map place_of ds) q → ⊥) → due q column ds ≡ pos 0
due_none q column [] none = refl
due_none q column (d ∷ ds) none =
    let rest : due q column ds ≡ pos 0 = due_none q column ds (λ a. none (inr a)) in
    let here : adds q column d ≡ pos 0 = ap (λ b. cond b (worth column d) (pos 0)) (is_for_other q d (λ e. none (inl e))) in
    omega (arith, ints)

abbrev all_deltas : Pages → List GroupDelta
all_deltas p = flat_map (all_contributions p.db.schema p.db.rows) (views_of p.db.schema)

abbrev places_of : Pages → List Place
places_of p = stored_places p.view ++ map place_of (all_deltas p)

fresh_elsewhere : (p : Pages) (q : Place) → (Among (places_of p) q → ⊥) → IsFreshAt p q
fresh_elsewhere p q none column =
    stored_none p.view q column (λ a. none (among_left (stored_places p.view) (map place_of (all_deltas p)) q a))
    ∙ sym (due_none q column (all_deltas p) (λ a. none (among_right (stored_places p.view) (map place_of (all_deltas p)) q a)))

-- ---- numbers are equal or not

not_apart : (a b : ℤ) → (a ≢ b → ⊥) → a ≡ b
not_apart a b h = by_bool (int_eq a b) (λ t. (Decides-int_eq a b).0 t) (λ f. absurd (h (λ e. false≢true (sym f ∙ (Decides-int_eq a b).1 e))))

not_unlike : (p : Pages) (q : Place) → ((IsFreshAt p q → ⊥) → ⊥) → IsFreshAt p q
not_unlike p q h column = not_apart (stored_number p.view q column) (fresh p.db.schema p.db.rows q column) (λ n. h (λ f. n (f column)))

-- ---- the first of some places

not_before_itself : (q : Place) → place_cmp q q ≡ Less → ⊥
not_before_itself q l = absurd (let e : place_cmp q q ≡ Equal = tied_itself place_cmp_total q in let both : Less ≡ Equal = sym l ∙ e in cc)

module _ (p : Pages) where
  abbrev AreFreshBefore : List Place → Place → Type 0
  AreFreshBefore xs m = (x : Place) → Among xs x → place_cmp x m ≡ Less → IsFreshAt p x

  -- one more, which is not before it or not wrong
  goes_on : (y : Place) (ys : List Place) (m : Place) → AreFreshBefore ys m → (place_cmp y m ≡ Less → IsFreshAt p y) → AreFreshBefore (y ∷ ys) m
  goes_on y ys m below here x (inl e) l = subst (IsFreshAt p) (sym e) (here (subst (λ z. place_cmp z m ≡ Less) e l))
  goes_on y ys m below here x (inr a) l = below x a l

  one_more : (y : Place) (ys : List Place) (m : Place) → (IsFreshAt p m → ⊥) → AreFreshBefore ys m
      → ((n : Place) → (IsFreshAt p n → ⊥) → AreFreshBefore (y ∷ ys) n → ⊥) → (o : Ordering) → place_cmp y m ≡ o → ⊥
  one_more y ys m wrong below k Less e =
      let differs : IsFreshAt p y → ⊥ = λ is. k m wrong (goes_on y ys m below (λ l. is)) in
      k y differs (goes_on y ys y (λ x a l. below x a (place_cmp_total.trans x y m l e)) (λ l. absurd (not_before_itself y l)))
  one_more y ys m wrong below k Equal e = k m wrong (goes_on y ys m below (λ l. absurd (let both : Less ≡ Equal = sym l ∙ e in cc)))
  one_more y ys m wrong below k Greater e = k m wrong (goes_on y ys m below (λ l. absurd (let both : Less ≡ Greater = sym l ∙ e in cc)))

  first_of : (ys : List Place) (q : Place) → (IsFreshAt p q → ⊥) → ((m : Place) → (IsFreshAt p m → ⊥) → AreFreshBefore ys m → ⊥) → ⊥
  first_of [] q wrong k = k q wrong (λ x a l. absurd a)
  first_of (y ∷ ys) q wrong k = first_of ys q wrong (λ m differs below. one_more y ys m differs below k (place_cmp y m) refl)

  first_wrong : (q : Place) → (IsFreshAt p q → ⊥) → ((m : Place) → IsFirstWrong p m → ⊥) → ⊥
  first_wrong q wrong k = first_of (places_of p) q wrong (λ m differs below. differs (λ column.
      not_apart (stored_number p.view m column) (fresh p.db.schema p.db.rows m column) (λ apart. k m (record {
        column = column;
        wrong = apart;
        first = λ earlier l. not_unlike p earlier (λ differs_there. differs_there (fresh_elsewhere p earlier (λ a. differs_there (below earlier a l))));
      }))))

pub wrong_view : WrongViewLaw
wrong_view i r sound place wrong k = first_wrong (recovered r) place wrong (λ m is. k m (view r sound.reverses sound.in_range sound.within m is))
