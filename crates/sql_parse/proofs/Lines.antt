-- Texts: what the parser answers for one, and that there is one answer.
use Rattle.std.proofs.Common.{◌≡◌, ℕ, zero, suc, ◌-◌, ◌<◌, ◌≤◌, true, false, List, [], ◌∷◌, length, map, Some, None, Result, Ok, Err, refl, sym, ap, subst, ◌∙◌, arith, inl, inr}
use Rattle.std.specs.Prelude.{◌==◌, slice_get, get_or}
use Rattle.std.proofs.lemmas.List.{length-map}
use Rattle.text_grammar.specs.declared.fault.Cause.{Cause}
use Rattle.text_grammar.specs.declared.fault.Cause.TheVariants as cause
use Rattle.text_grammar.specs.declared.fault.Fault.{Fault}
use Rattle.text_grammar.proofs.Exactness.{the_test}
use Rattle.text_grammar.proofs.Lines.{line_complete, line_sound, line_fault}
use Rattle.text_grammar.proofs.Once.{one_fault, no_fault}
use Rattle.iv_types.specs.declared.refusal.Refusal.{Refusal}
use Rattle.iv_types.specs.declared.refusal.Refusal.TheVariants as refusal
use Rattle.iv_types.specs.Tokens.{Symbol, Placed, tokens, symbols, place_of_last}
use Rattle.iv_types.specs.declared.limit.Limit.{Limit}
use Rattle.iv_types.specs.Limits.{Limits, Agree, the_limits, limit_of}
use Rattle.iv_types.specs.Syntax.{StatementTree}
use Rattle.iv_types.specs.Grammar.{ALine, Spells}
use Rattle.iv_types.specs.Refusing.{GoesWrong, Refuses}
use Rattle.sql_tokens.specs.declared.token.Token.{Token}
use Rattle.sql_tokens.specs.View.{placed, symbol_at, symbols_at}
use Rattle.sql_readers.specs.Statements.{line, whole_line}
use Rattle.sql_parse.specs.Parsing.{refusal_by, refusal_of}
use Rattle.sql_readers.proofs.GoingOn.{on_line}
use Rattle.sql_readers.proofs.Whole.{line-exact}
use Rattle.sql_readers.proofs.Larger.{Raised}
use Rattle.sql_readers.proofs.Raising.{family}

symbols_placed : (text : List ℕ) (ts : List Token) → symbols (map (placed text) ts) ≡ symbols_at text ts
symbols_placed text [] = refl
symbols_placed text (t ∷ ts) = ap (λ (z : List Symbol). symbol_at text t ∷ z) (symbols_placed text ts)

same_symbols : (text : List ℕ) (ts : List Token) → map (placed text) ts ≡ tokens text → symbols_at text ts ≡ symbols (tokens text)
same_symbols text ts e = sym (symbols_placed text ts) ∙ ap symbols e

pub found_by : (text : List ℕ) (ts : List Token) (s : StatementTree) → map (placed text) ts ≡ tokens text → whole_line the_limits (symbols_at text ts) ≡ Ok s → Spells text s
unfolding whole_line
found_by text ts s e h = subst (λ (z : List Symbol). ALine the_limits z s) (same_symbols text ts e) (line_sound (ALine the_limits) on_line (line the_limits) (line-exact the_limits) (symbols_at text ts) s h)

read_by : (text : List ℕ) (ts : List Token) (s : StatementTree) → map (placed text) ts ≡ tokens text → Spells text s → whole_line the_limits (symbols_at text ts) ≡ Ok s
unfolding whole_line
read_by text ts s e d = line_complete (ALine the_limits) on_line (line the_limits) (line-exact the_limits) (symbols_at text ts) s (subst (λ (z : List Symbol). ALine the_limits z s) (sym (same_symbols text ts e)) d)

pub only_by : (text : List ℕ) (ts : List Token) (a s : StatementTree) → map (placed text) ts ≡ tokens text → whole_line the_limits (symbols_at text ts) ≡ Ok a → Spells text s → a ≡ s
only_by text ts a s e h d = let both : Result.Ok a ≡ Ok s = sym h ∙ read_by text ts s e d in cc

pub none_by : (text : List ℕ) (ts : List Token) (f : Fault) (s : StatementTree) → map (placed text) ts ≡ tokens text → whole_line the_limits (symbols_at text ts) ≡ Err f → Spells text s → ⊥
none_by text ts f s e h d = let both : Result.Err f ≡ Ok s = sym h ∙ read_by text ts s e d in absurd cc

refused_for : (text : List ℕ) (c : Cause) (left : ℕ) → GoesWrong text c left → Refuses text (refusal_by c left (tokens text) (length text))
refused_for text cause.Syntax left w = (left, w, refl)
refused_for text (cause.Limit which) left w = (left, which, w, refl)

pub refused_by : (text : List ℕ) (ts : List Token) (f : Fault) → map (placed text) ts ≡ tokens text → whole_line the_limits (symbols_at text ts) ≡ Err f → Refuses text (refusal_of f (tokens text) (length text))
unfolding whole_line
refused_by text ts f e h =
    let same = same_symbols text ts e in
    refused_for text f.cause f.left (line_fault ALine Agree Raised on_line line family the_limits (symbols (tokens text)) f (subst (λ (z : List Symbol). whole_line the_limits z ≡ Err f) same h))

-- ---- places

pub place_over : (left : ℕ) (ts : List Placed) (end : ℕ) → length ts < left → place_of_last left ts end ≡ end
place_over left [] end h = refl
place_over left (t ∷ ts) end h = let differ : (left == length (t ∷ ts)) ≡ false = grind arith in rw differ (place_over left ts end (omega arith))

pub place_some : (left : ℕ) (text : List ℕ) (ts : List Token) (t : Token) (end : ℕ) → left ≤ length ts → slice_get ts (length ts - left) ≡ Some t → place_of_last left (map (placed text) ts) end ≡ t.start
place_some left text [] t end le h = absurd cc
place_some left text (s ∷ ts) t end le h =
    let size = length-map ts (placed text) in
    elim (the_test (left == length (s ∷ ts))) [
      | inl yes_all ↦
          let here : (left == length (map (placed text) (s ∷ ts))) ≡ true = ap (λ (n : ℕ). left == suc n) size ∙ yes_all in
          let zero_at : length (s ∷ ts) - left ≡ 0 = (let e : left ≡ length (s ∷ ts) = grind arith in omega (arith, e)) in
          let same : Some s ≡ Some t = ap (slice_get (s ∷ ts)) (sym zero_at) ∙ h in
          rw here (let z : s ≡ t = cc in ap (λ (u : Token). u.start) z)
      | inr not_all ↦
          let there : (left == length (map (placed text) (s ∷ ts))) ≡ false = ap (λ (n : ℕ). left == suc n) size ∙ not_all in
          let less : left ≤ length ts = grind arith in
          let one_on : length (s ∷ ts) - left ≡ suc (length ts - left) = omega (arith, less) in
          rw there (place_some left text ts t end less (ap (slice_get (s ∷ ts)) (sym one_on) ∙ h))
    ]

pub place_none : (left : ℕ) (text : List ℕ) (ts : List Token) (end : ℕ) → left ≤ length ts → slice_get ts (length ts - left) ≡ None → place_of_last left (map (placed text) ts) end ≡ end
place_none left text [] end le h = refl
place_none left text (s ∷ ts) end le h =
    let size = length-map ts (placed text) in
    elim (the_test (left == length (s ∷ ts))) [
      | inl yes_all ↦
          let zero_at : length (s ∷ ts) - left ≡ 0 = (let e : left ≡ length (s ∷ ts) = grind arith in omega (arith, e)) in
          absurd (let bad : Some s ≡ None = ap (slice_get (s ∷ ts)) (sym zero_at) ∙ h in cc)
      | inr not_all ↦
          let there : (left == length (map (placed text) (s ∷ ts))) ≡ false = ap (λ (n : ℕ). left == suc n) size ∙ not_all in
          let less : left ≤ length ts = grind arith in
          let one_on : length (s ∷ ts) - left ≡ suc (length ts - left) = omega (arith, less) in
          rw there (place_none left text ts end less (ap (slice_get (s ∷ ts)) (sym one_on) ∙ h))
    ]

pub got : (ts : List Token) (i : ℕ) (d : Token) → i < length ts → slice_get ts i ≡ Some (get_or ts i d)
got [] i d lt = absurd (omega arith)
got (t ∷ ts) zero d lt = refl
got (t ∷ ts) (suc i) d lt = got ts i d (omega arith)

pub got_none : (ts : List Token) (i : ℕ) → length ts ≤ i → slice_get ts i ≡ None
got_none [] i le = refl
got_none (t ∷ ts) zero le = absurd (omega arith)
got_none (t ∷ ts) (suc i) le = got_none ts i (omega arith)

-- ---- one answer

pub unique : (text : List ℕ) (a b : StatementTree) → Spells text a → Spells text b → a ≡ b
unique text a b h k =
    let e : Result.Ok a ≡ Ok b = sym (line_complete (ALine the_limits) on_line (line the_limits) (line-exact the_limits) (symbols (tokens text)) a h) ∙ line_complete (ALine the_limits) on_line (line the_limits) (line-exact the_limits) (symbols (tokens text)) b k in
    cc

-- limits that agree below a number agree below a lower one
weaken : (w v : ℕ) (l m : Limits) → w ≤ v → Agree v l m → Agree w l m
weaken w v l m le a = record {
  name_bytes = λ lt. a.name_bytes (omega (arith, lt, le));
  number_value = λ lt. a.number_value (omega (arith, lt, le));
  text_bytes = λ lt. a.text_bytes (omega (arith, lt, le));
  nesting = λ lt. a.nesting (omega (arith, lt, le));
  rows = λ lt. a.rows (omega (arith, lt, le));
  relations = λ lt. a.relations (omega (arith, lt, le));
  items = λ lt. a.items (omega (arith, lt, le));
  operations = λ lt. a.operations (omega (arith, lt, le));
}

abbrev fault : Cause → ℕ → Fault
fault c left = record { cause = c; left = left }

one_wrong : (text : List ℕ) (c d : Cause) (n m : ℕ) → GoesWrong text c n → GoesWrong text d m → (c ≡ d) × (n ≡ m)
one_wrong text c d n m a b = one_fault ALine Agree the_limits weaken (symbols (tokens text)) (fault c n) (fault d m) a b

pub not_stated : (text : List ℕ) (r : Refusal) (s : StatementTree) → Refuses text r → Spells text s → ⊥
not_stated text (refusal.Syntax place) s h d = no_fault ALine Agree the_limits (symbols (tokens text)) (fault cause.Syntax h.0) s h.1 d
not_stated text (refusal.Limit limit) s h d = no_fault ALine Agree the_limits (symbols (tokens text)) (fault (cause.Limit h.1) h.0) s h.2 d
not_stated text _ s h d = absurd h

pub refused_once : (text : List ℕ) (r q : Refusal) → Refuses text r → Refuses text q → r ≡ q
refused_once text (refusal.Syntax a) (refusal.Syntax b) h k = ap (λ (n : ℕ). Refusal.Syntax n) (h.2 ∙ ap (λ (n : ℕ). place_of_last n (tokens text) (length text)) (one_wrong text cause.Syntax cause.Syntax h.0 k.0 h.1 k.1).1 ∙ sym k.2)
refused_once text (refusal.Syntax a) (refusal.Limit m) h k = absurd (let bad = (one_wrong text cause.Syntax (cause.Limit k.1) h.0 k.0 h.1 k.2).0 in cc)
refused_once text (refusal.Syntax a) _ h k = absurd k
refused_once text (refusal.Limit n) (refusal.Syntax b) h k = absurd (let bad = (one_wrong text (cause.Limit h.1) cause.Syntax h.0 k.0 h.2 k.1).0 in cc)
refused_once text (refusal.Limit n) (refusal.Limit m) h k =
    let same : h.1 ≡ k.1 = (let e = (one_wrong text (cause.Limit h.1) (cause.Limit k.1) h.0 k.0 h.2 k.2).0 in cc) in
    ap (λ (l : Limit). Refusal.Limit l) (h.3 ∙ ap limit_of same ∙ sym k.3)
refused_once text (refusal.Limit n) _ h k = absurd k
refused_once text _ q h k = absurd h
