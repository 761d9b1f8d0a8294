-- Combinations that are dropped early: those of which a front makes a term false are never chosen.
use Rattle.std.specs.Prelude.{◌≡◌, ◌&&◌, ◌||◌, not, Bool, true, false, cond, List, [], ◌∷◌, ◌++◌, length, map, filter, slice_get, Option, None}
use Rattle.std.specs.List.{AllByRecursion, flat_map, list_all}
use Rattle.std.specs.Option.{option_map, option_and_then}
use mathlib.Core.Path.{refl, sym, ap, ◌∙◌}
use Rattle.std.proofs.Common.{ltb-true, append_assoc}
use Rattle.std.proofs.lemmas.List.{map-append}
use Rattle.std.proofs.lemmas.List.Concat.{flat_map-append}
use Rattle.std.proofs.lemmas.List.Elements.{filter-append}
use Rattle.iv_types.specs.declared.expression.Op.TheVariants as op
use Rattle.iv_types.specs.Syntax as s
use Rattle.iv_types.specs.Syntax.{Tree}
use Rattle.iv_meaning.specs.Database.{Row}
use Rattle.iv_meaning.specs.Values.{Outcome, number, word, truth, refused, combined, negated, opposite, both, is_true, is_false, meaning, outcome_of}
use Rattle.iv_meaning.specs.Query.{Combination, combinations, conjunction, chosen}
use Rattle.iv_meaning.specs.Shape.{terms}
use Rattle.iv_meaning.specs.Plan.{lies_within, goes_on}
use Rattle.iv_meaning.specs.Reading.{extended}
use Rattle.iv_types.proofs.Fitting.{first_true as first, second_true as second}
use Rattle.query_laws.proofs.TermLemmas.{get_front}

-- ---- what is false is not chosen

module _ {X : Type 0} (test : X → Outcome) where
  -- those of which the test is not false
  abbrev pub live : List X → List X
  live xs = filter (λ x. not (is_false (test x))) xs

  pub chosen_live : (xs : List X) → chosen test xs ≡ chosen test (live xs)
  chosen_live [] = refl
  chosen_live (x ∷ xs) =
      let rest : chosen test xs ≡ chosen test (live xs) = chosen_live xs in
      let kept : chosen test (x ∷ xs) ≡ chosen test (x ∷ live xs) =
      ap (λ (r : Option (List X)). cond (is_true (test x)) (option_map (λ more. x ∷ more) r) (cond (is_false (test x)) r None)) rest in
      elim (test x) as (λ o. test x ≡ o → chosen test (x ∷ xs) ≡ chosen test (cond (not (is_false o)) (x ∷ live xs) (live xs))) [
        | number n ↦ λ e. kept
        | word w ↦ λ e. kept
        | truth b ↦ by_truth xs x kept rest b
        | refused ↦ λ e. kept
      ] refl
    where
      by_truth : (xs : List X) (x : X) → chosen test (x ∷ xs) ≡ chosen test (x ∷ live xs) → chosen test xs ≡ chosen test (live xs)
          → (b : Bool) → test x ≡ truth b → chosen test (x ∷ xs) ≡ chosen test (cond (not (not b)) (x ∷ live xs) (live xs))
      by_truth xs x kept rest true e = kept
      by_truth xs x kept rest false e = ap (λ (o : Outcome). cond (is_true o) (option_map (λ more. x ∷ more) (chosen test xs)) (cond (is_false o) (chosen test xs) None)) e ∙ rest

  pub live_append : (xs ys : List X) → live (xs ++ ys) ≡ live xs ++ live ys
  live_append xs ys = filter-append (λ x. not (is_false (test x))) xs ys

  pub live_none : {Y : Type 0} (f : Y → X) (ys : List Y) → ((y : Y) → is_false (test (f y)) ≡ true) → live (map f ys) ≡ []
  live_none f [] h = refl
  live_none f (y ∷ ys) h = ap (λ b. cond (not b) (f y ∷ live (map f ys)) (live (map f ys))) (h y) ∙ live_none f ys h

-- ---- the value of an expression on a front

or_true : (a b : Bool) → a ≡ true → a || b ≡ true
or_true true b e = refl
or_true false b e = absurd (cc)

or_other : (a b : Bool) → b ≡ true → a || b ≡ true
or_other true b e = refl
or_other false b e = e

module _ (front rest : Combination) where
  pub meaning_front : (e : Tree) → lies_within (length front) e ≡ true → meaning e (front ++ rest) ≡ meaning e front
  meaning_front (s.number n) w = refl
  meaning_front (s.word b) w = refl
  meaning_front (s.named r) w = refl
  meaning_front (s.at p) w =
      ap (λ o. outcome_of (option_and_then (λ (r : Row). slice_get r p.column) o)) (get_front front rest p.source (ltb-true p.source (length front) w))
  meaning_front (s.not e) w = ap negated (meaning_front e w)
  meaning_front (s.minus e) w = ap opposite (meaning_front e w)
  meaning_front (s.pair o a b) w =
      ap (λ m. combined o m (meaning b (front ++ rest))) (meaning_front a (first (lies_within (length front) a) (lies_within (length front) b) w))
      ∙ ap (combined o (meaning a front)) (meaning_front b (second (lies_within (length front) a) (lies_within (length front) b) w))

  -- the test of one term
  abbrev pub term_goes_on : Tree → Bool
  term_goes_on e = not (lies_within (length front) e && is_false (meaning e front))

  stops : (a b : Bool) → not (a && b) ≡ false → (a ≡ true) × (b ≡ true)
  stops true true e = (refl, refl)
  stops true false e = absurd (cc)
  stops false b e = absurd (cc)

  left_true : (b : Bool) → b && true ≡ b
  left_true true = refl
  left_true false = refl

  one_false : (e : Tree) → list_all term_goes_on (e ∷ []) ≡ false → is_false (meaning e (front ++ rest)) ≡ true
  one_false e h =
      let parts = stops (lies_within (length front) e) (is_false (meaning e front)) (sym (left_true (term_goes_on e)) ∙ h) in
      ap is_false (meaning_front e parts.0) ∙ parts.1

  all_append : (xs ys : List Tree) → list_all term_goes_on (xs ++ ys) ≡ list_all term_goes_on xs && list_all term_goes_on ys
  all_append [] ys = refl
  all_append (x ∷ xs) ys = ap (λ b. term_goes_on x && b) (all_append xs ys) ∙ grouped (term_goes_on x) (list_all term_goes_on xs) (list_all term_goes_on ys)
    where
      grouped : (a b c : Bool) → a && (b && c) ≡ (a && b) && c
      grouped true b c = refl
      grouped false b c = refl

  -- one of two is false
  pub either_false : (a b : Bool) (m n : Outcome) → a && b ≡ false → (a ≡ false → is_false m ≡ true) → (b ≡ false → is_false n ≡ true) → is_false (both m n) ≡ true
  either_false true b m n e f g = ap (λ t. is_false (cond t (truth false) (cond (is_true m && is_true n) (truth true) refused))) (or_other (is_false m) (is_false n) (g e))
  either_false false b m n e f g = ap (λ t. is_false (cond t (truth false) (cond (is_true m && is_true n) (truth true) refused))) (or_true (is_false m) (is_false n) (f refl))

  terms_false : (e : Tree) → list_all term_goes_on (terms e) ≡ false → is_false (meaning e (front ++ rest)) ≡ true
  terms_false (s.number n) h = one_false (s.number n) h
  terms_false (s.word w) h = one_false (s.word w) h
  terms_false (s.named r) h = one_false (s.named r) h
  terms_false (s.at p) h = one_false (s.at p) h
  terms_false (s.not e) h = one_false (s.not e) h
  terms_false (s.minus e) h = one_false (s.minus e) h
  terms_false (s.pair op.And a b) h =
      either_false (list_all term_goes_on (terms a)) (list_all term_goes_on (terms b)) (meaning a (front ++ rest)) (meaning b (front ++ rest)) (sym (all_append (terms a) (terms b)) ∙ h) (terms_false a) (terms_false b)
  terms_false (s.pair op.Or a b) h = one_false (s.pair op.Or a b) h
  terms_false (s.pair op.Equal a b) h = one_false (s.pair op.Equal a b) h
  terms_false (s.pair op.NotEqual a b) h = one_false (s.pair op.NotEqual a b) h
  terms_false (s.pair op.Less a b) h = one_false (s.pair op.Less a b) h
  terms_false (s.pair op.AtMost a b) h = one_false (s.pair op.AtMost a b) h
  terms_false (s.pair op.Greater a b) h = one_false (s.pair op.Greater a b) h
  terms_false (s.pair op.AtLeast a b) h = one_false (s.pair op.AtLeast a b) h
  terms_false (s.pair op.Add a b) h = one_false (s.pair op.Add a b) h
  terms_false (s.pair op.Subtract a b) h = one_false (s.pair op.Subtract a b) h
  terms_false (s.pair op.Multiply a b) h = one_false (s.pair op.Multiply a b) h

  -- a front that does not go on makes the conditions false, whatever follows it
  pub conditions_false : (es : List Tree) → goes_on es front ≡ false → is_false (conjunction es (front ++ rest)) ≡ true
  conditions_false [] h = absurd (cc)
  conditions_false (e ∷ es) h =
      either_false (list_all term_goes_on (terms e)) (list_all term_goes_on (flat_map terms es)) (meaning e (front ++ rest)) (conjunction es (front ++ rest)) (sym (all_append (terms e) (flat_map terms es)) ∙ h) (terms_false e) (conditions_false es)

-- ---- combinations that a front begins

abbrev pub begun_with : Combination → List (List Row) → List Combination
begun_with front sources = map (λ rest. front ++ rest) (combinations sources)

abbrev pub all_begun : List Combination → List (List Row) → List Combination
all_begun fronts sources = flat_map (λ front. begun_with front sources) fronts

-- the rows that a front goes on by
abbrev pub begun_by : Combination → List Row → List (List Row) → List Combination
begun_by front rows sources = map (λ rest. front ++ rest) (flat_map (λ row. map (λ rest. row ∷ rest) (combinations sources)) rows)

moved : (front : Combination) (row : Row) (rests : List Combination) → map (λ rest. front ++ rest) (map (λ (rest : Combination). row ∷ rest) rests) ≡ map (λ rest. (front ++ row ∷ []) ++ rest) rests
moved front row [] = refl
moved front row (rest ∷ rests) = λ i. sym (append_assoc front (row ∷ []) rest) i ∷ moved front row rests i

module _ (conditions : List Tree) where
  abbrev pub alive : List Combination → List Combination
  alive = live (conjunction conditions)

  gone : (front : Combination) (sources : List (List Row)) → goes_on conditions front ≡ false → alive (begun_with front sources) ≡ []
  gone front sources h = live_none (conjunction conditions) (λ rest. front ++ rest) (combinations sources) (λ rest. conditions_false front rest conditions h)

  -- the test passes each row by which the front goes on
  abbrev pub Passes : Combination → (Row → Bool) → Row → Type 0
  Passes front test row = test row ≡ false → goes_on conditions (front ++ row ∷ []) ≡ false

  kept_rows : (front : Combination) (test : Row → Bool) (rows : List Row) (sources : List (List Row)) → AllByRecursion (Passes front test) rows
      → alive (all_begun (extended front (filter test rows)) sources) ≡ alive (begun_by front rows sources)
  kept_rows front test [] sources h = refl
  kept_rows front test (row ∷ rows) sources h =
      let rest = kept_rows front test rows sources h.1 in
      let here : List Combination = begun_with (front ++ row ∷ []) sources in
      let behind : List Combination = begun_by front rows sources in
      let parts : alive (begun_by front (row ∷ rows) sources) ≡ alive here ++ alive behind =
      ap alive (map-append (λ rest. front ++ rest) (map (λ (rest : Combination). row ∷ rest) (combinations sources)) (flat_map (λ row. map (λ (rest : Combination). row ∷ rest) (combinations sources)) rows)
      ∙ ap (λ (l : List Combination). l ++ behind) (moved front row (combinations sources)))
      ∙ live_append (conjunction conditions) here behind in
      elim (test row) as (λ b. test row ≡ b → alive (all_begun (extended front (cond b (row ∷ filter test rows) (filter test rows))) sources) ≡ alive (begun_by front (row ∷ rows) sources)) [
        | true ↦ λ e.
            live_append (conjunction conditions) here (all_begun (extended front (filter test rows)) sources)
            ∙ (ap (λ (l : List Combination). alive here ++ l) rest ∙ sym parts)
        | false ↦ λ e. rest ∙ sym (parts ∙ ap (λ (l : List Combination). l ++ alive behind) (gone (front ++ row ∷ []) sources (h.0 e)))
      ] refl

  -- the rows that are listed for a front are those of a relation that pass a test, which each row passes by which it goes on
  abbrev pub AreListed : List Row → (Combination → List Row) → Combination → Type 0
  AreListed rows list front = (test : Row → Bool) × (list front ≡ filter test rows) × AllByRecursion (Passes front test) rows

  -- one level more
  pub next_level : (rows : List Row) (list : Combination → List Row) (sources : List (List Row)) (found : List Combination) → AllByRecursion (AreListed rows list) found
      → alive (all_begun (flat_map (λ front. extended front (list front)) (filter (goes_on conditions) found)) sources) ≡ alive (all_begun found (rows ∷ sources))
  next_level rows list sources [] h = refl
  next_level rows list sources (front ∷ found) h =
      let rest = next_level rows list sources found h.1 in
      let others : List Combination = flat_map (λ front. extended front (list front)) (filter (goes_on conditions) found) in
      let parts : alive (all_begun (front ∷ found) (rows ∷ sources)) ≡ alive (begun_with front (rows ∷ sources)) ++ alive (all_begun found (rows ∷ sources)) =
      live_append (conjunction conditions) (begun_with front (rows ∷ sources)) (all_begun found (rows ∷ sources)) in
      elim (goes_on conditions front) as (λ b. goes_on conditions front ≡ b → alive (all_begun (flat_map (λ front. extended front (list front)) (cond b (front ∷ filter (goes_on conditions) found) (filter (goes_on conditions) found))) sources) ≡ alive (all_begun (front ∷ found) (rows ∷ sources))) [
        | true ↦ λ e.
            let listed : alive (all_begun (extended front (list front)) sources) ≡ alive (begun_with front (rows ∷ sources)) =
            ap (λ (l : List Row). alive (all_begun (extended front l) sources)) h.0.1 ∙ kept_rows front h.0.0 rows sources h.0.2 in
            ap alive (flat_map-append (λ c. begun_with c sources) (extended front (list front)) others)
            ∙ (live_append (conjunction conditions) (all_begun (extended front (list front)) sources) (all_begun others sources)
            ∙ (ap (λ (l : List Combination). l ++ alive (all_begun others sources)) listed
            ∙ (ap (λ (l : List Combination). alive (begun_with front (rows ∷ sources)) ++ l) rest ∙ sym parts)))
        | false ↦ λ e. rest ∙ sym (parts ∙ ap (λ (l : List Combination). l ++ alive (all_begun found (rows ∷ sources))) (gone front (rows ∷ sources) e))
      ] refl
