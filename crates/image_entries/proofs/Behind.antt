-- Parts by their places among the others.
use Rattle.std.proofs.Common.{◌≡◌, ◌⊎◌, Bool, true, false, inl, inr, ℕ, zero, suc, ◌+◌, ◌-◌, ◌<◌, ◌≤◌, List, [], ◌∷◌, length, get_or, take, Option, Some, None, refl, sym, ◌∙◌, ap, subst, arith}
use Rattle.std.specs.Prelude.{not, Result, Ok, Err, IfErr, OnOk}
use Rattle.std.proofs.lemmas.Bool.{cases_lt, false≢true}
use Rattle.std.proofs.lemmas.List.{take_all}
use Rattle.txn_log.specs.Damaged.{Found, key_in, IsNextKey, IsFurther, HasSize, with_next}
use Rattle.image_finding.specs.declared.fault.BadImage.{BadImage}
use Rattle.image_entries.specs.declared.parts.Part.{Part}
use Rattle.image_entries.specs.Entries.{NoneBad}
use Rattle.image_entries.specs.Parts.{part_found, parts_found, no_found, HasKey, AreFurther, ComeNext, before, pair_at, HasNextKey, IsFollowed, HasItsSize, KeyFails, TellsKey, TellsSize, TellsDefinition, KeysStand}
use Rattle.image_entries.proofs.Firsts.{before_next, none_first}

-- ---- elements

pub part_got : (ps : List Part) (i : ℕ) (p : Part) → i < length ps → get_or (parts_found ps) i no_found ≡ part_found (get_or ps i p)
part_got [] i p inside = absurd (omega (arith, inside))
part_got (q ∷ ps) zero p inside = refl
part_got (q ∷ ps) (suc i) p inside = part_got ps i p (omega (arith, inside))

pub parts_long : (ps : List Part) → length (parts_found ps) ≡ length ps
parts_long [] = refl
parts_long (p ∷ ps) = let e = parts_long ps in omega (arith, e)

pub pairs_long : (fs : List Found) → length (with_next fs) ≡ length fs
pairs_long [] = refl
pairs_long (f ∷ []) = refl
pairs_long (f ∷ g ∷ fs) = let e = pairs_long (g ∷ fs) in omega (arith, e)

pub pair_there : (fs : List Found) (i : ℕ) → i + 1 < length fs → pair_at i fs ≡ (get_or fs i no_found, Some (get_or fs (i + 1) no_found))
pair_there [] i inside = absurd (omega (arith, inside))
pair_there (f ∷ []) i inside = absurd (omega (arith, inside))
pair_there (f ∷ g ∷ fs) zero inside = refl
pair_there (f ∷ g ∷ fs) (suc i) inside = pair_there (g ∷ fs) i (omega (arith, inside)) ∙ ap (λ n. (get_or (g ∷ fs) i no_found, Some (get_or (f ∷ g ∷ fs) n no_found))) (let e : suc (i + 1) ≡ suc i + 1 = omega arith in e)

pub pair_last : (fs : List Found) (i : ℕ) → i + 1 ≡ length fs → pair_at i fs ≡ (get_or fs i no_found, None)
pair_last [] i is = absurd (omega (arith, is))
pair_last (f ∷ []) zero is = refl
pair_last (f ∷ []) (suc i) is = absurd (omega (arith, is))
pair_last (f ∷ g ∷ fs) zero is = absurd (omega (arith, is))
pair_last (f ∷ g ∷ fs) (suc i) is = pair_last (g ∷ fs) i (omega (arith, is))

pub pair_first : (fs : List Found) (i : ℕ) → i < length fs → (pair_at i fs).0 ≡ get_or fs i no_found
pair_first fs i inside = by (cases_lt (i + 1) (length fs))
  where
    by : (i + 1 < length fs) ⊎ (length fs ≤ i + 1) → (pair_at i fs).0 ≡ get_or fs i no_found
    by (inl less) = ap (λ (p : Found × Option Found). p.0) (pair_there fs i less)
    by (inr le) = ap (λ (p : Found × Option Found). p.0) (pair_last fs i (omega (arith, le, inside)))

pub whole_taken : {X : Type 0} (bad : List X → X → Type 0) (xs : List X) (i : ℕ) → length xs ≤ i → NoneBad bad [] (take i xs) → NoneBad bad [] xs
whole_taken {X} bad xs i all h = subst (λ (ys : List X). NoneBad bad [] ys) (take_all i xs all) h

pub not_so : (b : Bool) → (b ≡ true → ⊥) → not b ≡ true
not_so true never = absurd (never refl)
not_so false never = refl

pub never_so : (b : Bool) → not b ≡ true → b ≡ true → ⊥
never_so true h e = false≢true h
never_so false h e = false≢true e

-- ---- keys

module _ (fs : List Found) where
  pub first_key : (i : ℕ) → i ≡ 0 → HasKey (key_in (get_or fs i no_found)) 1 0 → HasNextKey i fs
  first_key zero e has = record { is = has.is }
  first_key (suc i) e has = absurd (omega (arith, e))

  pub first_so : (i : ℕ) → i ≡ 0 → HasNextKey i fs → HasKey (key_in (get_or fs i no_found)) 1 0
  first_so zero e has = record { is = has.is }
  first_so (suc i) e has = absurd (omega (arith, e))

  -- the list before part i, by the one before it
  behind : (i : ℕ) → 0 < i → i < length fs → before i fs ≡ get_or fs (i - 1) no_found ∷ before (i - 1) fs
  behind i some inside = ap (λ n. before n fs) (let e : i ≡ i - 1 + 1 = omega (arith, some) in e) ∙ before_next fs (i - 1) no_found (omega (arith, inside))

  pub next_key_there : (i : ℕ) → 0 < i → i < length fs → ComeNext (key_in (get_or fs (i - 1) no_found)) (key_in (get_or fs i no_found)) → HasNextKey i fs
  next_key_there i some inside come = record {
    is = subst (λ (ds : List Found). IsNextKey ds (get_or fs i no_found)) (sym (behind i some inside)) (elim come [
      | inl far ↦ inl (far.object, far.part, far.first.is, far.second.is)
      | inr begins ↦ inr (begins.object, begins.part, begins.first.is, begins.second.is)
    ]);
  }

  pub next_key_so : (i : ℕ) → 0 < i → i < length fs → HasNextKey i fs → ComeNext (key_in (get_or fs (i - 1) no_found)) (key_in (get_or fs i no_found))
  next_key_so i some inside has =
      elim (subst (λ (ds : List Found). IsNextKey ds (get_or fs i no_found)) (behind i some inside) has.is) [
        | inl far ↦ inl (record { object = far.0; part = far.1; first = record { is = far.2 }; second = record { is = far.3 } })
        | inr begins ↦ inr (record { object = begins.0; part = begins.1; first = record { is = begins.2 }; second = record { is = begins.3 } })
      ]

  -- ---- sizes

  further_so : (f g : Found) → IsFurther f g → AreFurther (key_in f) (key_in g)
  further_so f g far = record { object = far.0; part = far.1; first = record { is = far.2 }; second = record { is = far.3 } }

  further_back : (f g : Found) → AreFurther (key_in f) (key_in g) → IsFurther f g
  further_back f g far = (far.object, far.part, far.first.is, far.second.is)

  pub size_most : (i : ℕ) → i < length fs → HasItsSize i fs → length (get_or fs i no_found).entry.1 ≤ 1024
  size_most i inside has = by (cases_lt (i + 1) (length fs))
    where
      by : (i + 1 < length fs) ⊎ (length fs ≤ i + 1) → length (get_or fs i no_found).entry.1 ≤ 1024
      by (inl less) = (subst (λ (p : Found × Option Found). HasSize p.0 p.1) (pair_there fs i less) has.is).1
      by (inr le) = subst (λ (p : Found × Option Found). HasSize p.0 p.1) (pair_last fs i (omega (arith, le, inside))) has.is

  pub size_full : (i : ℕ) → i < length fs → length (get_or fs i no_found).entry.1 ≡ 1024 → HasItsSize i fs
  size_full i inside full = by (cases_lt (i + 1) (length fs))
    where
      by : (i + 1 < length fs) ⊎ (length fs ≤ i + 1) → HasItsSize i fs
      by (inl less) = record { is = subst (λ (p : Found × Option Found). HasSize p.0 p.1) (sym (pair_there fs i less)) ((λ far. full), omega (arith, full)) }
      by (inr le) = record { is = subst (λ (p : Found × Option Found). HasSize p.0 p.1) (sym (pair_last fs i (omega (arith, le, inside)))) (omega (arith, full)) }

  pub size_fewer : (i : ℕ) → i < length fs → length (get_or fs i no_found).entry.1 ≤ 1024 → (IsFollowed i fs → ⊥) → HasItsSize i fs
  size_fewer i inside most alone = by (cases_lt (i + 1) (length fs))
    where
      by : (i + 1 < length fs) ⊎ (length fs ≤ i + 1) → HasItsSize i fs
      by (inl less) = record {
        is = subst (λ (p : Found × Option Found). HasSize p.0 p.1) (sym (pair_there fs i less))
            ((λ far. absurd (alone (record { inside = less; further = further_so (get_or fs i no_found) (get_or fs (i + 1) no_found) far }))), most);
      }
      by (inr le) = record { is = subst (λ (p : Found × Option Found). HasSize p.0 p.1) (sym (pair_last fs i (omega (arith, le, inside)))) most }

  pub size_followed : (i : ℕ) → IsFollowed i fs → HasItsSize i fs → length (get_or fs i no_found).entry.1 ≡ 1024
  size_followed i followed has =
      (subst (λ (p : Found × Option Found). HasSize p.0 p.1) (pair_there fs i followed.inside) has.is).0 (further_back (get_or fs i no_found) (get_or fs (i + 1) no_found) followed.further)

-- ---- rule 11

pub key_told : (fs : List Found) (bad : BadImage) → TellsKey fs bad → TellsDefinition fs bad
key_told fs bad tells = record { rule = tells.rule; fails = inl (tells.part, tells.place, tells.first) }

pub size_told : (fs : List Found) (bad : BadImage) → KeysStand fs → TellsSize fs bad → TellsDefinition fs bad
size_told fs bad keys tells = record { rule = tells.rule; fails = inr (inl ((λ f first. none_first KeyFails [] fs f keys first), tells.part, tells.place, tells.first)) }

pub so_told : {T : Type 0} (r : Result T BadImage) (P Q : BadImage → Type 0) → ((bad : BadImage) → P bad → Q bad) → IfErr r P → IfErr r Q
so_told (Ok x) P Q so h = tt
so_told (Err bad) P Q so h = so bad h

pub all_so : {T : Type 0} (r : Result T BadImage) (P : Type 0) → P → OnOk r P
all_so (Ok x) P h = h
all_so (Err bad) P h = tt
