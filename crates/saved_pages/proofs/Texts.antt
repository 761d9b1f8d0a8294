-- Texts in parts.
use Rattle.std.proofs.Common.{◌≡◌, ℕ, zero, suc, ◌+◌, ◌-◌, ◌*◌, ◌/◌, ◌<◌, ◌≤◌, ◌^◌, List, [], ◌∷◌, ◌++◌, map, length, take, drop, Option, refl, sym, ap, subst, ◌∙◌, inl, inr, arith, length-take, length-drop}
use Rattle.std.specs.List.{AllByRecursion, concat}
use Rattle.std.proofs.lemmas.List.{take-append-drop}
use Rattle.std.proofs.lemmas.List.Elements.{All-from_recursion}
use Rattle.text_grammar.specs.Languages.{Lang, Behind, One}
use Rattle.iv_types.specs.Tokens.{Symbol, tokens, symbols, tokens_from}
use Rattle.iv_types.specs.Limits.{Limits, the_limits}
use Rattle.iv_types.specs.Syntax.{QueryTree, StatementTree}
use Rattle.iv_types.specs.Grammar.{AStatement, ACreation, AnInsertion, AnUpdate, ADeletion, ASelection, AQuery, AControl, ALine, Spells}
use Rattle.iv_meaning.specs.Schema.{Schema}
use Rattle.txn_machine.specs.Log.{part_bytes}
use Rattle.txn_log.specs.Stored.{first_parts, in_parts, AreParts, AllCreate, Define}
use Rattle.definition_parts.specs.Parts.{IsShort}

-- ---- a text in parts

full_parts : (c : ℕ) (text : List ℕ) → c * part_bytes < length text → length text ≤ (c + 1) * part_bytes → AreParts (first_parts (suc c) text)
full_parts zero text more most = omega (arith, length-take part_bytes text)
full_parts (suc c) text more most =
    let taken : length (take 1024 text) ≡ 1024 = omega (arith, length-take 1024 text, more) in
    let left = length-drop 1024 text in
    (taken, full_parts c (drop part_bytes text) (omega (arith, left, more)) (omega (arith, left, most)))

parts_by : (n : ℕ) (text : List ℕ) → n ≡ (length text + (part_bytes - 1)) / part_bytes → 0 < length text → AreParts (first_parts n text)
parts_by zero text is some = absurd (omega (arith, is, some))
parts_by (suc c) text is some = full_parts c text (omega (arith, is, some)) (omega (arith, is, some))

are_parts : (text : List ℕ) → 0 < length text → AreParts (in_parts text)
are_parts text some = parts_by ((length text + (part_bytes - 1)) / part_bytes) text refl some

no_bytes : (text : List ℕ) → length text ≤ 0 → [] ≡ text
no_bytes [] none = refl
no_bytes (b ∷ text) none = absurd (omega (arith, none))

joined : (c : ℕ) (text : List ℕ) → length text ≤ c * part_bytes → concat (first_parts c text) ≡ text
joined zero text few = no_bytes text (omega (arith, few))
joined (suc c) text few =
    ap (λ (rest : List ℕ). take part_bytes text ++ rest) (joined c (drop part_bytes text) (let left = length-drop part_bytes text in omega (arith, left, few)))
    ∙ take-append-drop part_bytes text

joined_again : (text : List ℕ) → concat (in_parts text) ≡ text
joined_again text = joined ((length text + (part_bytes - 1)) / part_bytes) text (omega arith)

all_joined : (texts : List (List ℕ)) → map concat (map in_parts texts) ≡ texts
all_joined [] = refl
all_joined (text ∷ texts) = λ t. joined_again text t ∷ all_joined texts t

-- ---- no statement is spelled by no text

no_behind : {T A B : Type 0} (pick : T → Option A) (q : Lang T B) (b : B) → Behind pick q [] b → ⊥
no_behind pick q b h = absurd (cc h.text)

no_one : {T A : Type 0} (pick : T → Option A) (a : A) → One pick [] a → ⊥
no_one pick a h = absurd (cc h.text)

front_empty : {X : Type 0} (front back : List X) → [] ≡ front ++ back → front ≡ []
front_empty [] back is = refl
front_empty (x ∷ front) back is = absurd (cc is)

module _ (l : Limits) where
  no_creation : (s : StatementTree) → ACreation l [] s → ⊥
  unfolding ACreation
  no_creation s h = no_behind _ _ s h

  no_insertion : (s : StatementTree) → AnInsertion l [] s → ⊥
  unfolding AnInsertion
  no_insertion s h = no_behind _ _ s h

  no_update : (s : StatementTree) → AnUpdate l [] s → ⊥
  unfolding AnUpdate
  no_update s h = no_behind _ _ s h

  no_deletion : (s : StatementTree) → ADeletion l [] s → ⊥
  unfolding ADeletion
  no_deletion s h = no_behind _ _ s h

  no_query : (q : QueryTree) → AQuery l [] q → ⊥
  unfolding AQuery
  no_query q h = no_behind _ _ q h

  no_selection : (s : StatementTree) → ASelection l [] s → ⊥
  unfolding ASelection
  no_selection s h = no_query h.value.0 (subst (λ (ts : List Symbol). AQuery l ts h.value.0) (front_empty h.spelled.front h.spelled.back h.spelled.text) h.spelled.first)

  no_control : (s : StatementTree) → AControl l [] s → ⊥
  unfolding AControl
  no_control s h = elim h [
    | inl begins ↦ no_behind _ _ s begins
    | inr (inl commits) ↦ no_one _ commits.value commits.spelled
    | inr (inr (inl rolls)) ↦ no_behind _ _ s rolls
    | inr (inr (inr saves)) ↦ no_behind _ _ s saves
  ]

  no_statement : (s : StatementTree) → AStatement l [] s → ⊥
  unfolding AStatement
  no_statement s h = elim h [
    | inl creation ↦ no_creation s creation
    | inr (inl insertion) ↦ no_insertion s insertion
    | inr (inr (inl update)) ↦ no_update s update
    | inr (inr (inr (inl deletion))) ↦ no_deletion s deletion
    | inr (inr (inr (inr (inl selection)))) ↦ no_selection s selection
    | inr (inr (inr (inr (inr control)))) ↦ no_control s control
  ]

  no_line : (s : StatementTree) → ALine l [] s → ⊥
  unfolding ALine
  no_line s h = no_statement h.value.0 (subst (λ (ts : List Symbol). AStatement l ts h.value.0) (front_empty h.spelled.front h.spelled.back h.spelled.text) h.spelled.first)

no_symbols : symbols (tokens []) ≡ []
unfolding tokens_from
no_symbols = refl

spelled_some : (text : List ℕ) (s : StatementTree) → Spells text s → 0 < length text
spelled_some [] s h = absurd (no_line the_limits s (subst (λ (ts : List Symbol). ALine the_limits ts s) no_symbols h))
spelled_some (b ∷ text) s h = omega arith

-- ---- texts that make objects

all_parts : (objects : Schema) (texts : List (List ℕ)) (all : Schema) → AllCreate objects texts all → AllByRecursion AreParts (map in_parts texts)
all_parts objects [] all h = tt
all_parts objects (text ∷ texts) all h = (are_parts text (spelled_some text h.1.0 h.1.1), all_parts (objects ++ h.0 ∷ []) texts all h.2)

-- in parts they define what they make
pub parts_define : (texts : List (List ℕ)) (all : Schema) → AllCreate [] texts all → Define (map in_parts texts) all
parts_define texts all h = (All-from_recursion AreParts (map in_parts texts) (all_parts [] texts all h), subst (λ (ts : List (List ℕ)). AllCreate [] ts all) (sym (all_joined texts)) h)

pub parts_short : (texts : List (List ℕ)) → AllByRecursion IsShort texts → AllByRecursion (λ (parts : List (List ℕ)). length parts ≤ 2 ^ 16) (map in_parts texts)
parts_short [] short = tt
parts_short (text ∷ texts) short = (short.0, parts_short texts short.1)
