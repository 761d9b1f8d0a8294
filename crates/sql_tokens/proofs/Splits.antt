-- The steps of the loop that splits a text.
use Rattle.std.proofs.Common.{◌≡◌, ℕ, ◌+◌, ◌-◌, ◌<◌, ◌≤◌, true, false, List, [], ◌∷◌, ◌++◌, length, take, drop, get_or, map, refl, sym, ap, ◌∙◌, arith, length-drop, append_assoc}
use Rattle.std.proofs.lemmas.List.{drop_more, drop_all, append-nil, map_push, drop-drop}
use Rattle.iv_types.specs.Tokens.{Symbol, Placed, unread, is_blank, begins_comment, first_token, before_others, tokens_from, tokens}
use Rattle.sql_tokens.specs.declared.token.TokenKind.{TokenKind}
use Rattle.sql_tokens.specs.declared.token.TokenKind.TheVariants as kind
use Rattle.sql_tokens.specs.declared.token.Token.{Token}
use Rattle.std.specs.List.{AllByRecursion}
use Rattle.sql_tokens.specs.View.{placed, symbol_of, Spans}
use Rattle.sql_tokens.specs.Scan.{spelled}
use Rattle.sql_tokens.proofs.Steps.{from_nothing, before_blank, before_comment, before_token}

left_length : (bytes : List ℕ) (at : ℕ) → length (drop at bytes) ≤ length bytes
left_length bytes at = omega (arith, length-drop at bytes)

pub over_blank : (bytes : List ℕ) (ts : List Token) (at : ℕ) → at < length bytes → is_blank (get_or bytes at 0) ≡ true → map (placed bytes) ts ++ tokens_from (length bytes) at (drop at bytes) ≡ tokens bytes → map (placed bytes) ts ++ tokens_from (length bytes) (at + 1) (drop (at + 1) bytes) ≡ tokens bytes
over_blank bytes ts at lt blank same =
    let n = length bytes in
    let cons = drop_more bytes at 0 lt in
    let long : length (get_or bytes at 0 ∷ drop (at + 1) bytes) ≤ n = omega (arith, length-drop (at + 1) bytes) in
    ap (λ (l : List Placed). map (placed bytes) ts ++ l) (sym (ap (tokens_from n at) cons ∙ before_blank n n at (get_or bytes at 0) (drop (at + 1) bytes) blank long (left_length bytes (at + 1))))
    ∙ same

pub at_comment : (bytes : List ℕ) (ts : List Token) (at : ℕ) → at < length bytes → is_blank (get_or bytes at 0) ≡ false → begins_comment (drop at bytes) ≡ true → map (placed bytes) ts ++ tokens_from (length bytes) at (drop at bytes) ≡ tokens bytes → map (placed bytes) ts ≡ tokens bytes
at_comment bytes ts at lt other comment same =
    let n = length bytes in
    let cons = drop_more bytes at 0 lt in
    let long : length (get_or bytes at 0 ∷ drop (at + 1) bytes) ≤ n = omega (arith, length-drop (at + 1) bytes) in
    let none : tokens_from n at (drop at bytes) ≡ [] = ap (tokens_from n at) cons ∙ before_comment n at (get_or bytes at 0) (drop (at + 1) bytes) other (sym (ap begins_comment cons) ∙ comment) long in
    sym (append-nil (map (placed bytes) ts)) ∙ ap (λ (l : List Placed). map (placed bytes) ts ++ l) (sym none) ∙ same

pub at_end : (bytes : List ℕ) (ts : List Token) (at : ℕ) → length bytes ≤ at → map (placed bytes) ts ++ tokens_from (length bytes) at (drop at bytes) ≡ tokens bytes → map (placed bytes) ts ≡ tokens bytes
at_end bytes ts at past same =
    let none : tokens_from (length bytes) at (drop at bytes) ≡ [] = ap (tokens_from (length bytes) at) (drop_all at bytes past) ∙ from_nothing (length bytes) at in
    sym (append-nil (map (placed bytes) ts)) ∙ ap (λ (l : List Placed). map (placed bytes) ts ++ l) (sym none) ∙ same

-- the token that was found at a place
abbrev token_at : ℕ → TokenKind × ℕ → Token
token_at at found = record { kind = found.0; start = at; end = at + found.1 }

placed_at : (bytes : List ℕ) (at : ℕ) (found : TokenKind × ℕ) → placed bytes (token_at at found) ≡ record { symbol = (spelled (drop at bytes) found).0; place = at }
placed_at bytes at found =
    let size : at + found.1 - at ≡ found.1 = omega arith in
    ap (λ (n : ℕ). record { symbol = symbol_of found.0 (take n (drop at bytes)); place = at }) size

-- what the definition says of the tokens from there
found_at : (bytes : List ℕ) (at : ℕ) (found : TokenKind × ℕ) → at < length bytes → is_blank (get_or bytes at 0) ≡ false → begins_comment (drop at bytes) ≡ false → spelled (drop at bytes) found ≡ first_token (drop at bytes) → tokens_from (length bytes) at (drop at bytes) ≡ before_others at (spelled (drop at bytes) found).0 (tokens_from (length bytes) (at + found.1) (drop (at + found.1) bytes))
found_at bytes at found lt other no_comment is =
    let n = length bytes in
    let b = get_or bytes at 0 in
    let rest = drop (at + 1) bytes in
    let cons = drop_more bytes at 0 lt in
    let long : length (b ∷ rest) ≤ n = omega (arith, length-drop (at + 1) bytes) in
    let left : drop found.1 (b ∷ rest) ≡ drop (at + found.1) bytes = ap (drop found.1) (sym cons) ∙ drop-drop found.1 at bytes in
    let short : length (drop found.1 (b ∷ rest)) ≤ n = omega (arith, length-drop found.1 (b ∷ rest)) in
    ap (tokens_from n at) cons
    ∙ before_token n n at b rest (spelled (drop at bytes) found).0 found.1 other (sym (ap begins_comment cons) ∙ no_comment) (ap first_token (sym cons) ∙ sym is) long short
    ∙ ap (λ (l : List ℕ). before_others at (spelled (drop at bytes) found).0 (tokens_from n (at + found.1) l)) left

goes_on : (k : TokenKind) (bytes : List ℕ) (at : ℕ) (others : List Placed) → (k ≡ kind.Unread → ⊥) → before_others at (symbol_of k bytes) others ≡ record { symbol = symbol_of k bytes; place = at } ∷ others
goes_on (kind.Fixed t) bytes at others h = refl
goes_on kind.Name bytes at others h = refl
goes_on kind.Number bytes at others h = refl
goes_on kind.Text bytes at others h = refl
goes_on kind.Unread bytes at others h = absurd (h refl)

pub over_token : (bytes : List ℕ) (ts us : List Token) (at : ℕ) (found : TokenKind × ℕ) → at < length bytes → is_blank (get_or bytes at 0) ≡ false → begins_comment (drop at bytes) ≡ false → spelled (drop at bytes) found ≡ first_token (drop at bytes) → (found.0 ≡ kind.Unread → ⊥) → us ≡ ts ++ record { kind = found.0; start = at; end = at + found.1 } ∷ [] → map (placed bytes) ts ++ tokens_from (length bytes) at (drop at bytes) ≡ tokens bytes → map (placed bytes) us ++ tokens_from (length bytes) (at + found.1) (drop (at + found.1) bytes) ≡ tokens bytes
over_token bytes ts us at found lt other no_comment is readable pushed same =
    let t = token_at at found in
    let others = tokens_from (length bytes) (at + found.1) (drop (at + found.1) bytes) in
    let made : Placed = record { symbol = (spelled (drop at bytes) found).0; place = at } in
    let whole : tokens_from (length bytes) at (drop at bytes) ≡ placed bytes t ∷ others = found_at bytes at found lt other no_comment is ∙ goes_on found.0 (take found.1 (drop at bytes)) at others readable ∙ ap (λ (p : Placed). p ∷ others) (sym (placed_at bytes at found)) in
    ap (λ (l : List Token). map (placed bytes) l ++ others) pushed
    ∙ ap (λ (l : List Placed). l ++ others) (map_push (placed bytes) ts t)
    ∙ append_assoc (map (placed bytes) ts) (placed bytes t ∷ []) others
    ∙ ap (λ (l : List Placed). map (placed bytes) ts ++ l) (sym whole)
    ∙ same

pub at_unread : (bytes : List ℕ) (ts us : List Token) (at : ℕ) (found : TokenKind × ℕ) → at < length bytes → is_blank (get_or bytes at 0) ≡ false → begins_comment (drop at bytes) ≡ false → spelled (drop at bytes) found ≡ first_token (drop at bytes) → found.0 ≡ kind.Unread → us ≡ ts ++ record { kind = found.0; start = at; end = at + found.1 } ∷ [] → map (placed bytes) ts ++ tokens_from (length bytes) at (drop at bytes) ≡ tokens bytes → map (placed bytes) us ≡ tokens bytes
at_unread bytes ts us at found lt other no_comment is unreadable pushed same =
    let t = token_at at found in
    let others = tokens_from (length bytes) (at + found.1) (drop (at + found.1) bytes) in
    let symbol : (spelled (drop at bytes) found).0 ≡ unread = ap (λ (k : TokenKind). symbol_of k (take found.1 (drop at bytes))) unreadable in
    let whole : tokens_from (length bytes) at (drop at bytes) ≡ placed bytes t ∷ [] =
    found_at bytes at found lt other no_comment is
    ∙ ap (λ (s : Symbol). before_others at s others) symbol
    ∙ ap (λ (s : Symbol). record { symbol = s; place = at } ∷ []) (sym symbol)
    ∙ ap (λ (p : Placed). p ∷ []) (sym (placed_at bytes at found)) in
    ap (map (placed bytes)) pushed
    ∙ map_push (placed bytes) ts t
    ∙ ap (λ (l : List Placed). map (placed bytes) ts ++ l) (sym whole)
    ∙ same

-- one more token that ends where it should
pub spans_more : (text : List ℕ) (ts : List Token) (token : Token) → AllByRecursion (Spans text) ts → Spans text token → AllByRecursion (Spans text) (ts ++ token ∷ [])
spans_more text [] token all one = (one, tt)
spans_more text (t ∷ ts) token all one = (all.0, spans_more text ts token all.1 one)
