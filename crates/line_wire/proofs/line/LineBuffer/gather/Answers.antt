use Rattle.std.proofs.Common.{◌≡◌, ◌∙◌, ◌<◌, ◌≤◌, ◌+◌, ℕ, List, ◌∷◌, ◌++◌, length, take, drop, ap, sym, subst}
use Rattle.std.specs.Prelude.{◌⊎◌}
use Rattle.iv_meaning.specs.Lines.{after_line}
use Rattle.line_wire.specs.Reading.{Reading, before_lf, most_kept}
use Rattle.line_wire.proofs.Pieces.{slice_held, EndsAt, piece_is, rest_is, none_held}
use Rattle.line_wire.proofs.line.LineBuffer.gather.Goals as goal

ends : (place : ℕ) (slice held : List ℕ) → slice ≡ held → (slice ≡ before_lf slice ++ 10 ∷ after_line slice) × (place ≡ length (before_lf slice)) → EndsAt place held
ends place slice held e h = subst (EndsAt place) e h

piece : (place : ℕ) (slice held : List ℕ) → slice ≡ held → EndsAt place held → take place slice ≡ before_lf held
piece place slice held e h = ap (take place) e ∙ piece_is place held h

all : (slice held : List ℕ) → slice ≡ held → before_lf slice ≡ slice → before_lf held ≡ held
all slice held e h = subst (λ (xs : List ℕ). before_lf xs ≡ xs) e h

-- the text, with a piece that is the line's front
text_is : {L B : Type 0} (old old' new piece piece' : List ℕ) → old ≡ old' → piece ≡ piece' → (L → B × (new ≡ old ++ piece)) → L → B × (new ≡ old' ++ piece')
text_is old old' new piece piece' e h f l = ((f l).0, (f l).1 ∙ ap (λ (xs : List ℕ). xs ++ piece) e ∙ ap (λ (xs : List ℕ). old' ++ xs) h)

long_is : {L B : Type 0} (old old' piece piece' : List ℕ) → old ≡ old' → piece ≡ piece' → (L → B ⊎ (most_kept < length old + length piece)) → L → B ⊎ (most_kept < length old' + length piece')
long_is {B = B} old old' piece piece' e h f l = subst (λ (xs : List ℕ). B ⊎ (most_kept < length xs + length piece')) e (subst (λ (xs : List ℕ). B ⊎ (most_kept < length old + length xs)) h (f l))

grows_by : (old old' new piece piece' : List ℕ) → old ≡ old' → piece ≡ piece' → length new ≤ length old + length piece → length new ≤ length old' + length piece'
grows_by old old' new piece piece' e h f = subst (λ (xs : List ℕ). length new ≤ length xs + length piece') e (subst (λ (xs : List ℕ). length new ≤ length old + length xs) h f)

pub returns-in-Some-clause-end : goal.returns-in-Some-clause-end
returns-in-Some-clause-end c =
    let b = c.self.inside in
    let held : drop b.at (take b.end b.chunk.items) ≡ c.args.self.now.held = ap (λ (r : Reading). r.held) c.self.view_is in
    let slice = slice_held b.at b.end c.deref.result.now b.chunk.items c.args.self.now.held c.self.invariant.behind c.deref.ensures.value held in
    rest_is b.at b.end c.in-Some.place b.chunk.items c.args.self.now.held held (ends c.in-Some.place _ _ slice c.in-Some.ensures.some)

pub returns-in-Some-clause-text : goal.returns-in-Some-clause-text
returns-in-Some-clause-text c =
    let b = c.self.inside in
    let held : drop b.at (take b.end b.chunk.items) ≡ c.args.self.now.held = ap (λ (r : Reading). r.held) c.self.view_is in
    let text : b.text.items ≡ c.args.self.now.text = ap (λ (r : Reading). r.text) c.self.view_is in
    let slice = slice_held b.at b.end c.deref.result.now b.chunk.items c.args.self.now.held c.self.invariant.behind c.deref.ensures.value held in
    text_is _ _ _ _ _ text (piece c.in-Some.place _ _ slice (ends c.in-Some.place _ _ slice c.in-Some.ensures.some)) c.append.ensures.text

pub returns-in-Some-clause-long : goal.returns-in-Some-clause-long
returns-in-Some-clause-long c =
    let b = c.self.inside in
    let held : drop b.at (take b.end b.chunk.items) ≡ c.args.self.now.held = ap (λ (r : Reading). r.held) c.self.view_is in
    let text : b.text.items ≡ c.args.self.now.text = ap (λ (r : Reading). r.text) c.self.view_is in
    let slice = slice_held b.at b.end c.deref.result.now b.chunk.items c.args.self.now.held c.self.invariant.behind c.deref.ensures.value held in
    long_is _ _ _ _ text (piece c.in-Some.place _ _ slice (ends c.in-Some.place _ _ slice c.in-Some.ensures.some)) c.append.ensures.long

pub returns-in-Some-clause-grows : goal.returns-in-Some-clause-grows
returns-in-Some-clause-grows c =
    let b = c.self.inside in
    let held : drop b.at (take b.end b.chunk.items) ≡ c.args.self.now.held = ap (λ (r : Reading). r.held) c.self.view_is in
    let text : b.text.items ≡ c.args.self.now.text = ap (λ (r : Reading). r.text) c.self.view_is in
    let slice = slice_held b.at b.end c.deref.result.now b.chunk.items c.args.self.now.held c.self.invariant.behind c.deref.ensures.value held in
    grows_by _ _ _ _ _ text (piece c.in-Some.place _ _ slice (ends c.in-Some.place _ _ slice c.in-Some.ensures.some)) c.append.ensures.grows

pub returns-in-None-clause-end : goal.returns-in-None-clause-end
returns-in-None-clause-end c =
    let b = c.self.inside in
    let held : drop b.at (take b.end b.chunk.items) ≡ c.args.self.now.held = ap (λ (r : Reading). r.held) c.self.view_is in
    let slice = slice_held b.at b.end c.deref.result.now b.chunk.items c.args.self.now.held c.self.invariant.behind c.deref.ensures.value held in
    (all _ _ slice c.in-None.ensures.none, none_held b.end b.chunk.items)

pub returns-in-None-clause-text : goal.returns-in-None-clause-text
returns-in-None-clause-text c =
    let b = c.self.inside in
    let held : drop b.at (take b.end b.chunk.items) ≡ c.args.self.now.held = ap (λ (r : Reading). r.held) c.self.view_is in
    let text : b.text.items ≡ c.args.self.now.text = ap (λ (r : Reading). r.text) c.self.view_is in
    let slice = slice_held b.at b.end c.deref.result.now b.chunk.items c.args.self.now.held c.self.invariant.behind c.deref.ensures.value held in
    text_is _ _ _ _ _ text (slice ∙ sym (all _ _ slice c.in-None.ensures.none)) c.append-in-None.ensures.text

pub returns-in-None-clause-long : goal.returns-in-None-clause-long
returns-in-None-clause-long c =
    let b = c.self.inside in
    let held : drop b.at (take b.end b.chunk.items) ≡ c.args.self.now.held = ap (λ (r : Reading). r.held) c.self.view_is in
    let text : b.text.items ≡ c.args.self.now.text = ap (λ (r : Reading). r.text) c.self.view_is in
    let slice = slice_held b.at b.end c.deref.result.now b.chunk.items c.args.self.now.held c.self.invariant.behind c.deref.ensures.value held in
    long_is _ _ _ _ text (slice ∙ sym (all _ _ slice c.in-None.ensures.none)) c.append-in-None.ensures.long

pub returns-in-None-clause-grows : goal.returns-in-None-clause-grows
returns-in-None-clause-grows c =
    let b = c.self.inside in
    let held : drop b.at (take b.end b.chunk.items) ≡ c.args.self.now.held = ap (λ (r : Reading). r.held) c.self.view_is in
    let text : b.text.items ≡ c.args.self.now.text = ap (λ (r : Reading). r.text) c.self.view_is in
    let slice = slice_held b.at b.end c.deref.result.now b.chunk.items c.args.self.now.held c.self.invariant.behind c.deref.ensures.value held in
    grows_by _ _ _ _ _ text (slice ∙ sym (all _ _ slice c.in-None.ensures.none)) c.append-in-None.ensures.grows
