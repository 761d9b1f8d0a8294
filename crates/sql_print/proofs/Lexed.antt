-- The tokens of what was written are those of its pieces.
use Rattle.std.proofs.Common.{◌≡◌, ℕ, ◌+◌, ◌^◌, ◌-◌, ◌<◌, ◌≤◌, ◌==◌, ◌||◌, Bool, true, false, List, [], ◌∷◌, ◌++◌, length, Option, Some, None, inl, inr, ◌⊎◌, rules, refl, sym, ap, subst, ◌∙◌, append_assoc, length-append, arith}
use Rattle.std.specs.Prelude.{nat_le, decimal, if◌then◌else◌}
use Rattle.std.specs.Char.{is_ascii_digit}
use Rattle.std.specs.List.{flat_map, list_all}
use Rattle.std.proofs.lemmas.Bool.Decides.{nat_tests}
use Rattle.std.proofs.lemmas.Fmt.{decimal_is_IsNumeral_wide}
use Rattle.std.proofs.lemmas.List.{append-nil}
use Rattle.std.proofs.lemmas.List.Concat.{flat_map-cons}
use Rattle.std.proofs.lemmas.Str.Parse.{IsNumeralModel, numerals_by_fold}
use Rattle.iv_types.specs.declared.terminal.Terminal.{Terminal}
use Rattle.iv_types.specs.declared.terminal.Terminal.TheVariants as t
use Rattle.iv_types.specs.Terminals.{same, spelling}
use Rattle.iv_types.specs.Tokens.{Symbol, fixed, number, text, is_in_name, value_of, value_onto, tokens_from, tokens, symbols}
use Rattle.iv_types.specs.Limits.{the_limits}
use Rattle.iv_types.specs.Printing as p
use Rattle.iv_types.specs.Printing.{Piece, quoted_byte, quoted_text, piece_text, is_mark, is_spaced, Written, nothing_written, gap, put, write}
use Rattle.sql_tokens.specs.Printing.{goes_on_with, doubled, in_quotes, lengthens, IsName}
use Rattle.sql_tokens.proofs.Quotes.{the_test}
use Rattle.sql_tokens.proofs.Steps.{from_nothing}
use Rattle.sql_tokens.proofs.Printing.{digit_no_minus, and_parts, blank_before, digits_before, text_before, terminal_before}
use Rattle.sql_tokens.proofs.Names.{name_before}
use Rattle.sql_print.proofs.Printed.{piece_symbols, symbols_of_pieces}
use Rattle.sql_print.proofs.Fine.{Fine, AllFine}

-- what is written of pieces behind one that was written last
abbrev text_from : Option Piece → List Piece → List ℕ
text_from last [] = []
text_from last (q ∷ qs) = gap last q ++ (piece_text q ++ text_from (Some q) qs)

written : (w : Written) (ps : List Piece) → (write w ps).text ≡ w.text ++ text_from w.last ps
written w [] = sym (append-nil w.text)
written w (q ∷ qs) =
    written (put w q) qs
    ∙ append_assoc w.text (gap w.last q ++ piece_text q) (text_from (Some q) qs)
    ∙ ap (λ (l : List ℕ). w.text ++ l) (append_assoc (gap w.last q) (piece_text q) (text_from (Some q) qs))

-- ---- what follows a piece

-- the bytes that make a longer token of a piece
abbrev longer : Piece → ℕ → Bool
longer (p.fixed k) = lengthens k
longer (p.name w) = is_in_name
longer (p.number n) = is_ascii_digit
longer (p.negative n) = is_ascii_digit
longer (p.text w) = λ b. b == 39

-- a space, a closing parenthesis, a comma and a point make none
abbrev Quiet : (ℕ → Bool) → Type 0
Quiet test = (test 32 ≡ false) × (test 41 ≡ false) × (test 44 ≡ false) × (test 46 ≡ false)

quiet_mark : (k : Terminal) → Quiet (lengthens k)
quiet_mark t.And = (refl, refl, refl, refl)
quiet_mark _ = (refl, refl, refl, refl)

quiet : (q : Piece) → Quiet (longer q)
quiet (p.fixed k) = quiet_mark k
quiet (p.name w) = (refl, refl, refl, refl)
quiet (p.number n) = (refl, refl, refl, refl)
quiet (p.negative n) = (refl, refl, refl, refl)
quiet (p.text w) = (refl, refl, refl, refl)

never : (bytes : List ℕ) → goes_on_with (λ (b : ℕ). false) bytes ≡ false
never [] = refl
never (b ∷ bytes) = refl

-- nothing makes a longer token of an opening parenthesis or a point
none_longer : (k : Terminal) (bytes : List ℕ) → (same k t.Open || same k t.Point) ≡ true → goes_on_with (lengthens k) bytes ≡ false
unfolding same
none_longer t.Open bytes h = never bytes
none_longer t.Point bytes h = never bytes
none_longer _ bytes h = absurd cc

-- what stands tight behind a piece makes no longer token of it
tight_mark : (q : Piece) (k : Terminal) (more : List ℕ) → ((same k t.Close || same k t.Comma) || same k t.Point) ≡ true → goes_on_with (longer q) (spelling k ++ more) ≡ false
unfolding same
tight_mark q t.Close more h = (quiet q).1
tight_mark q t.Comma more h = (quiet q).2
tight_mark q t.Point more h = (quiet q).3
tight_mark q _ more h = absurd cc

tight_behind : (q r : Piece) (more : List ℕ) → ((is_mark t.Close r || is_mark t.Comma r) || is_mark t.Point r) ≡ true → goes_on_with (longer q) (piece_text r ++ more) ≡ false
tight_behind q (p.fixed k) more h = tight_mark q k more h
tight_behind q (p.name w) more h = absurd cc
tight_behind q (p.number n) more h = absurd cc
tight_behind q (p.negative n) more h = absurd cc
tight_behind q (p.text w) more h = absurd cc

tight_before : (q : Piece) (more : List ℕ) → (is_mark t.Open q || is_mark t.Point q) ≡ true → goes_on_with (longer q) more ≡ false
tight_before (p.fixed k) more h = none_longer k more h
tight_before (p.name w) more h = absurd cc
tight_before (p.number n) more h = absurd cc
tight_before (p.negative n) more h = absurd cc
tight_before (p.text w) more h = absurd cc

either_tight : (a b : Bool) → (if a || b then false else true) ≡ false → (a ≡ true) ⊎ (b ≡ true)
either_tight true b h = inl refl
either_tight false true h = inr refl
either_tight false false h = absurd cc

tight : (q r : Piece) (more : List ℕ) → is_spaced q r ≡ false → goes_on_with (longer q) (piece_text r ++ more) ≡ false
tight q r more h = elim (either_tight (is_mark t.Open q || is_mark t.Point q) ((is_mark t.Close r || is_mark t.Comma r) || is_mark t.Point r) h) [
  | inl before ↦ tight_before q (piece_text r ++ more) before
  | inr behind ↦ tight_behind q r more behind
]

-- nothing that is written behind a piece makes a longer token of it
ends : (q : Piece) (qs : List Piece) → goes_on_with (longer q) (text_from (Some q) qs) ≡ false
ends q [] = refl
ends q (r ∷ qs) = elim (the_test (is_spaced q r)) [
  | inl spaced ↦ rw spaced (quiet q).0
  | inr close ↦ rw close (tight q r (text_from (Some r) qs) close)
]

-- ---- one piece

own : IsNumeralModel (λ ds. list_all is_ascii_digit ds ≡ true) value_of
own = numerals_by_fold _ (search rules) value_onto (search rules)

small : (n : ℕ) → nat_le n (2 ^ 127 - 1) ≡ true → n < 10 ^ 64
small n h = grind (arith, nat_tests)

digits_lexed : (n place v : ℕ) (ds more : List ℕ) → list_all is_ascii_digit ds ≡ true → 0 < length ds → value_of ds ≡ v → goes_on_with is_ascii_digit more ≡ false → length (ds ++ more) ≤ n → symbols (tokens_from n place (ds ++ more)) ≡ number v ∷ symbols (tokens_from n (place + length ds) more)
digits_lexed n place v [] more all some is ends h = absurd (omega arith)
digits_lexed n place v (b ∷ w) more all some is ends h =
    ap symbols (digits_before n n place b w more all ends h (omega (arith, length-append (b ∷ w) more)))
    ∙ ap (λ (m : ℕ). number m ∷ symbols (tokens_from n (place + length (b ∷ w)) more)) is

-- a number that was written is read
number_lexed : (n place v : ℕ) (more : List ℕ) → nat_le v (2 ^ 127 - 1) ≡ true → goes_on_with is_ascii_digit more ≡ false → length (decimal v ++ more) ≤ n → symbols (tokens_from n place (decimal v ++ more)) ≡ number v ∷ symbols (tokens_from n (place + length (decimal v)) more)
number_lexed n place v more fine ends h =
    let told = decimal_is_IsNumeral_wide v (small v fine) in
    digits_lexed n place v (decimal v) more (own.from (decimal v) told.0.1) told.0.0 (own.same (decimal v) told.0.1 ∙ told.1) ends h

no_comment : (ds more : List ℕ) → list_all is_ascii_digit ds ≡ true → 0 < length ds → goes_on_with (λ (b : ℕ). b == 45) (ds ++ more) ≡ false
no_comment [] more all some = absurd (omega arith)
no_comment (b ∷ w) more all some = digit_no_minus b (and_parts (is_ascii_digit b) (list_all is_ascii_digit w) all).0

doubled_is : (content : List ℕ) → flat_map quoted_byte content ≡ doubled content
doubled_is [] = refl
doubled_is (b ∷ content) = elim (the_test (b == 39)) [
  | inl quote ↦ flat_map-cons quoted_byte b content ∙ rw quote (ap (λ (l : List ℕ). 39 ∷ 39 ∷ l) (doubled_is content))
  | inr other ↦ flat_map-cons quoted_byte b content ∙ rw other (ap (λ (l : List ℕ). b ∷ l) (doubled_is content))
]

quoted_is : (content : List ℕ) → quoted_text content ≡ in_quotes content
quoted_is content = ap (λ (l : List ℕ). 39 ∷ (l ++ 39 ∷ [])) (doubled_is content)

-- the rest is no longer than the whole
rest_fits : (n : ℕ) (w more : List ℕ) → length (w ++ more) ≤ n → length more ≤ n
rest_fits n w more h = omega (arith, length-append w more)

piece_lexed : (n place : ℕ) (q : Piece) (more : List ℕ) → Fine IsName the_limits q → goes_on_with (longer q) more ≡ false → length (piece_text q ++ more) ≤ n → symbols (tokens_from n place (piece_text q ++ more)) ≡ piece_symbols q ++ symbols (tokens_from n (place + length (piece_text q)) more)
piece_lexed n place (p.fixed k) more fine ends h = ap symbols (terminal_before n n place k more ends h (rest_fits n (spelling k) more h))
piece_lexed n place (p.name w) more fine ends h = ap symbols (name_before n n place w more fine ends h (rest_fits n w more h))
piece_lexed n place (p.number v) more fine ends h = number_lexed n place v more fine ends h
piece_lexed n place (p.negative v) more fine ends h =
    let told = decimal_is_IsNumeral_wide v (small v fine) in
    let rest = rest_fits n (45 ∷ []) (decimal v ++ more) h in
    ap symbols (terminal_before n n place t.Minus (decimal v ++ more) (no_comment (decimal v) more (own.from (decimal v) told.0.1) told.0.0) h rest)
    ∙ ap (λ (l : List Symbol). fixed t.Minus ∷ l) (number_lexed n (place + 1) v more fine ends rest)
    ∙ ap (λ (m : ℕ). fixed t.Minus ∷ number v ∷ symbols (tokens_from n m more)) (omega arith)
piece_lexed n place (p.text w) more fine ends h =
    let same = quoted_is w in
    subst (λ (l : List ℕ). symbols (tokens_from n place (l ++ more)) ≡ text w ∷ symbols (tokens_from n (place + length l) more)) (sym same)
    (ap symbols (text_before n n place w more ends (subst (λ (l : List ℕ). length (l ++ more) ≤ n) same h) (rest_fits n (quoted_text w) more h)))

-- ---- all pieces

gap_some : (last : Option Piece) (q : Piece) → (gap last q ≡ []) ⊎ (gap last q ≡ 32 ∷ [])
gap_some None q = inl refl
gap_some (Some r) q = elim (the_test (is_spaced r q)) [
  | inl spaced ↦ inr (rw spaced refl)
  | inr close ↦ inl (rw close refl)
]

pub lexed : (n place : ℕ) (last : Option Piece) (ps : List Piece) → AllFine IsName the_limits ps → length (text_from last ps) ≤ n → symbols (tokens_from n place (text_from last ps)) ≡ symbols_of_pieces ps
lexed n place last [] fine h = ap symbols (from_nothing n place)
lexed n place last (q ∷ qs) fine h =
    let more = text_from (Some q) qs in
    let behind : (place : ℕ) → length (piece_text q ++ more) ≤ n → symbols (tokens_from n place (piece_text q ++ more)) ≡ symbols_of_pieces (q ∷ qs) = λ at fits.
    piece_lexed n at q more fine.0 (ends q qs) fits ∙ ap (λ (l : List Symbol). piece_symbols q ++ l) (lexed n (at + length (piece_text q)) (Some q) qs fine.1 (rest_fits n (piece_text q) more fits)) in
    elim (gap_some last q) [
      | inl close ↦ ap (λ (l : List ℕ). symbols (tokens_from n place (l ++ (piece_text q ++ more)))) close ∙ behind place (subst (λ (l : List ℕ). length (l ++ (piece_text q ++ more)) ≤ n) close h)
      | inr spaced ↦
          let fits = subst (λ (l : List ℕ). length (l ++ (piece_text q ++ more)) ≤ n) spaced h in
          let rest = rest_fits n (32 ∷ []) (piece_text q ++ more) fits in
          ap (λ (l : List ℕ). symbols (tokens_from n place (l ++ (piece_text q ++ more)))) spaced
          ∙ ap symbols (blank_before n n place (piece_text q ++ more) fits rest)
          ∙ behind (place + 1) rest
    ]

-- The symbols of a text that was written are those of its pieces.
pub written_lexed : (ps : List Piece) → AllFine IsName the_limits ps → symbols (tokens (write nothing_written ps).text) ≡ symbols_of_pieces ps
written_lexed ps fine = ap (λ (l : List ℕ). symbols (tokens l)) (written nothing_written ps) ∙ lexed (length (text_from None ps)) 0 None ps fine (omega arith)
