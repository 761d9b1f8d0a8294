use Rattle.std.proofs.Common.{◌≡◌, ◌≢◌, ◌<◌, ◌∙◌, ◌∷◌, ℕ, List, length, take, drop, get_or, ap, sym, arith, length-drop}
use Rattle.std.specs.List.{All}
use Rattle.std.proofs.lemmas.List.{take_rest, take-append-drop}
use Rattle.line_requests.specs.Parts.{IsBehindSpaces}
use Rattle.line_requests.proofs.Digits.{next_is}
use Rattle.line_requests.proofs.texts.behind_spaces.Goals as goal
use Rattle.line_requests.proofs.texts.behind_spaces.Goals.{then-loop-at-test+else-text-at-eq32, else-loop-at-test}

unspaced : (text : List ℕ) (at : ℕ) → (at < length text → get_or text at 0 ≢ 32) → (more : List ℕ) → drop at text ≢ 32 ∷ more
unspaced text at stops more e =
    let lt : at < length text = omega (arith, ap length e, length-drop at text) in
    stops lt (ap (λ (xs : List ℕ). get_or xs 0 0) (sym (next_is text at lt) ∙ e))

behind : (text : List ℕ) (at : ℕ) → All (λ b. b ≡ 32) (take at text) → (at < length text → get_or text at 0 ≢ 32) → IsBehindSpaces text (drop at text)
behind text at spaces stops = record {
  spaces = take at text;
  only_spaces = spaces;
  whole = sym (take-append-drop at text);
  unspaced = unspaced text at stops;
}

pub returns : goal.returns
returns c =
    let stops : c.loop-at.at < length c.args.text.now → get_or c.args.text.now c.loop-at.at 0 ≢ 32 = elim c.loop-at-test.branch [
      | then-loop-at-test+else-text-at-eq32 w ↦ λ lt e. omega (arith, w.if-text-at-eq32.false, e)
      | else-loop-at-test w ↦ λ lt e. omega (arith, w.loop-at-test.false)
    ] in
    rw take_rest (behind c.args.text.now c.loop-at.at c.loop-at.invariant.spaces stops)
