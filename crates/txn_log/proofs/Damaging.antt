-- An image is refused by one rule before its records are replayed, at one place.
use Rattle.std.specs.Prelude.{◌≡◌, ℕ, ◌+◌, ◌<◌, List, [], ◌∷◌, slice_get, Option, Some, None}
use mathlib.Core.Path.{refl, sym, ap, subst, ◌∙◌}
use mathlib.Core.Logic.{inl, inr}
use Rattle.std.proofs.Common.{arith}
use Rattle.iv_types.specs.Grammar.{OneStatement}
use Rattle.std.proofs.lemmas.Bool.Decides.{leb_tells}
use Rattle.txn_log.specs.Damaged.{Header, Page, Found, Device, FirstBad, placed_from, all_found, IsNextKey, with_next, HasSize, in_texts, texts_found, MakesNext, EntryStands, DefinitionFails, Rule, rule_number, header_lives, format_known, sizes_fit, area_named, first_block_ends, blocks_lie, records_read, map_read, pages_formed, keys_apart, definitions_read, entries_read, FailsAt, OneDamageLaw}
use Rattle.txn_log.proofs.Standing.{creates_once}

first_once : {X : Type 0} (bad : List X → X → Type 0) (earlier xs : List X) (x y : X) → FirstBad bad earlier xs x → FirstBad bad earlier xs y → x ≡ y
first_once bad earlier [] x y h k = absurd h
first_once bad earlier (z ∷ zs) x y (inl h) (inl k) = h.0 ∙ sym k.0
first_once bad earlier (z ∷ zs) x y (inl h) (inr k) = absurd (k.0 h.1)
first_once bad earlier (z ∷ zs) x y (inr h) (inl k) = absurd (h.0 k.1)
first_once bad earlier (z ∷ zs) x y (inr h) (inr k) = first_once bad (z ∷ earlier) zs x y h.1 k.1

same_header : (g h : Header) → Some g ≡ Some h → g ≡ h
same_header g h e = cc

place_in : ℕ → Option (ℕ × ℕ) → ℕ
place_in n None = n
place_in n (Some f) = f.1

same_scan : (rule a b : ℕ) → ◌≡◌ {A = Option (ℕ × ℕ)} (Some (rule, a)) (Some (rule, b)) → a ≡ b
unfolding place_in
same_scan rule a b e = ap (place_in a) e

-- of a header, at so many bytes from where it begins
one_header : (d : Device) (at a b : ℕ) (g h : Header) → d.header ≡ Some g → d.header ≡ Some h → a ≡ g.place + at → b ≡ h.place + at → a ≡ b
one_header d at a b g h one other e f = e ∙ (ap (λ (x : Header). x.place + at) (same_header g h (sym one ∙ other)) ∙ sym f)

definition_once : (fs : List Found) (a b : ℕ) → DefinitionFails fs a → DefinitionFails fs b → a ≡ b
definition_once fs a b (inl h) (inl k) = h.1 ∙ (ap (λ (f : Found). f.page) (first_once (λ earlier g. IsNextKey earlier g → ⊥) [] fs h.0 k.0 h.2 k.2) ∙ sym k.1)
definition_once fs a b (inl h) (inr (inl k)) = absurd (k.0 h.0 h.2)
definition_once fs a b (inl h) (inr (inr k)) = absurd (k.0 h.0 h.2)
definition_once fs a b (inr (inl h)) (inl k) = absurd (h.0 k.0 k.2)
definition_once fs a b (inr (inl h)) (inr (inl k)) =
    h.2 ∙ (ap (λ (f : Found × Option Found). f.0.page) (first_once (λ earlier g. HasSize g.0 g.1 → ⊥) [] (with_next fs) h.1 k.1 h.3 k.3) ∙ sym k.2)
definition_once fs a b (inr (inl h)) (inr (inr k)) = absurd (k.1 h.1 h.3)
definition_once fs a b (inr (inr h)) (inl k) = absurd (h.0 k.0 k.2)
definition_once fs a b (inr (inr h)) (inr (inl k)) = absurd (h.1 k.1 k.3)
definition_once fs a b (inr (inr h)) (inr (inr k)) =
    h.3 ∙ (ap (λ (t : ℕ × List ℕ). t.0) (first_once (λ earlier u. MakesNext earlier u → ⊥) [] (in_texts fs).1 h.2 k.2 h.4 k.4) ∙ sym k.3)

module _ (alone : OneStatement) (d : Device) where
  place_once : (rule : Rule) (a b : ℕ) → FailsAt d rule a → FailsAt d rule b → a ≡ b
  place_once header_lives a b h k = h.1 ∙ sym k.1
  place_once format_known a b h k = one_header d 8 a b h.0 k.0 h.1 k.1 h.2 k.2
  place_once sizes_fit a b h k = one_header d 12 a b h.0 k.0 h.1 k.1 h.2 k.2
  place_once area_named a b h k = one_header d 48 a b h.0 k.0 h.1 k.1 h.2 k.2
  place_once first_block_ends a b h k = one_header d 56 a b h.0 k.0 h.1 k.1 h.2 k.2
  place_once blocks_lie a b h k = same_scan 6 a b (sym h ∙ k)
  place_once records_read a b h k = same_scan 7 a b (sym h ∙ k)
  place_once map_read a b h k =
      let same : h.0 ≡ k.0 = same_header h.0 k.0 (sym h.1 ∙ k.1) in
      h.3 ∙ (ap (λ (x : ℕ × ℕ). x.0) (first_once _ [] _ h.2 k.2 (subst (λ (x : Header). FirstBad (λ earlier c. 2 < c.1) [] (placed_from (x.place + 64) d.map) h.2) same h.4) k.4) ∙ sym k.3)
  place_once pages_formed a b h k = h.1 ∙ (ap (λ (p : Page). p.place) (first_once _ [] d.stored h.0 k.0 h.2 k.2) ∙ sym k.1)
  place_once keys_apart a b h k = h.1 ∙ (ap (λ (f : Found). f.page) (first_once _ [] _ h.0 k.0 h.2 k.2) ∙ sym k.1)
  place_once definitions_read a b h k = definition_once d.definitions a b h k
  place_once entries_read a b h k =
      let same : h.0 ≡ k.0 = creates_once alone [] (texts_found (in_texts d.definitions).1) h.0 k.0 h.1 k.1 in
      h.3 ∙ (ap (λ (f : Found). f.page) (first_once (λ earlier g. EntryStands k.0 g.entry → ⊥) [] (all_found d.stored) h.2 k.2
      (subst (λ objects. FirstBad (λ earlier g. EntryStands objects g.entry → ⊥) [] (all_found d.stored) h.2) same h.4) k.4) ∙ sym k.3)

-- the rules by their numbers
rules : List Rule
rules = header_lives ∷ header_lives ∷ format_known ∷ sizes_fit ∷ area_named ∷ first_block_ends ∷ blocks_lie ∷ records_read ∷ map_read ∷ pages_formed ∷ keys_apart ∷ definitions_read ∷ entries_read ∷ []

rule_at : (r : Rule) → slice_get rules (rule_number r) ≡ Some r
unfolding rules
rule_at header_lives = refl
rule_at format_known = refl
rule_at sizes_fit = refl
rule_at area_named = refl
rule_at first_block_ends = refl
rule_at blocks_lie = refl
rule_at records_read = refl
rule_at map_read = refl
rule_at pages_formed = refl
rule_at keys_apart = refl
rule_at definitions_read = refl
rule_at entries_read = refl

same_some : (r s : Rule) → Some r ≡ Some s → r ≡ s
same_some r s e = cc

pub same_rule : (r s : Rule) → rule_number r ≡ rule_number s → r ≡ s
same_rule r s e = same_some r s (sym (rule_at r) ∙ (ap (slice_get rules) e ∙ rule_at s))

pub one_damage : OneStatement → OneDamageLaw
one_damage alone d rule other place there h k = elim (leb_tells (rule_number rule) (rule_number other)) [
  | inl less ↦ elim (leb_tells (rule_number other) (rule_number rule)) [
    | inl more ↦
        let same : rule ≡ other = same_rule rule other (let l = less.1 in let m = more.1 in omega arith) in
        (same, place_once alone d other place there (subst (λ r. FailsAt d r place) same h.0) k.0)
    | inr more ↦ absurd (k.1 rule more.1 place h.0)
  ]
  | inr less ↦ absurd (h.1 other less.1 there k.0)
]
