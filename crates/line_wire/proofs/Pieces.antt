-- The bytes that are held of a chunk, and the piece of a line at their front.
use Rattle.std.proofs.Common.{◌≡◌, ◌≤◌, ◌+◌, ◌-◌, ℕ, List, [], ◌∷◌, ◌++◌, length, take, drop, ap, sym, ◌∙◌, arith, append_assoc, length-append}
use Rattle.std.proofs.lemmas.List.{drop-take, take_at, drop-drop}
use Rattle.std.proofs.lemmas.List.Prefix.{front_rest}
use Rattle.iv_meaning.specs.Lines.{after_line}
use Rattle.line_wire.specs.Reading.{before_lf}

held_is : (at end : ℕ) (xs : List ℕ) → at ≤ end → take (end - at) (drop at xs) ≡ drop at (take end xs)
held_is at end xs le = sym (drop-take at (end - at) xs) ∙ ap (λ (n : ℕ). drop at (take n xs)) (let e : at + (end - at) ≡ end = omega arith in e)

-- the slice is what is held
pub slice_held : (at end : ℕ) (chunk items held : List ℕ) → at ≤ end → chunk ≡ items → drop at (take end items) ≡ held → take (end - at) (drop at chunk) ≡ held
slice_held at end chunk items held le e is = ap (λ (xs : List ℕ). take (end - at) (drop at xs)) e ∙ held_is at end items le ∙ is

-- a line that ends within what is held
abbrev pub EndsAt : ℕ → List ℕ → Type 0
EndsAt place held = (held ≡ before_lf held ++ 10 ∷ after_line held) × (place ≡ length (before_lf held))

pub piece_is : (place : ℕ) (held : List ℕ) → EndsAt place held → take place held ≡ before_lf held
piece_is place held e = ap (take place) e.0 ∙ take_at _ _ _ (sym e.1)

pub behind_is : (place : ℕ) (held : List ℕ) → EndsAt place held → drop (place + 1) held ≡ after_line held
behind_is place held e =
    let front : List ℕ = before_lf held ++ 10 ∷ [] in
    let size : length front ≡ place + 1 = omega (arith, length-append (before_lf held) (10 ∷ []), e.1) in
    ap (λ (n : ℕ). drop n held) (sym size) ∙ front_rest held front (after_line held) (e.0 ∙ sym (append_assoc (before_lf held) (10 ∷ []) (after_line held)))

pub rest_is : (at end place : ℕ) (chunk held : List ℕ) → drop at (take end chunk) ≡ held → EndsAt place held → held ≡ before_lf held ++ 10 ∷ drop (at + (place + 1)) (take end chunk)
rest_is at end place chunk held is e =
    let behind : drop (at + (place + 1)) (take end chunk) ≡ after_line held = sym (drop-drop (place + 1) at (take end chunk)) ∙ ap (drop (place + 1)) is ∙ behind_is place held e in
    e.0 ∙ ap (λ (ys : List ℕ). before_lf held ++ 10 ∷ ys) (sym behind)

pub none_held : (end : ℕ) (chunk : List ℕ) → drop end (take end chunk) ≡ []
none_held end chunk = ap (λ (n : ℕ). drop end (take n chunk)) (let c : end ≡ end + 0 = omega arith in c) ∙ drop-take end 0 chunk
