use Rattle.std.proofs.Common.{◌≡◌, ◌∙◌, ◌++◌, ◌∷◌, [], ◌+◌, arith, ap, map, rules, take, get_or, List, ℕ, sym}
use Rattle.std.specs.Prelude.{string_bytes}
use Rattle.std.proofs.lemmas.List.{append_assoc, map_more, take_all}
use Rattle.script_run.proofs.Pieces.{stands_as}
use Rattle.script_run.proofs.made.answer_all.Goals as goal

pub loop-line-preserved : goal.loop-line-preserved
loop-line-preserved g c = record {
  running = c.in_ok-answer.ensures.running;
  ran = λ s db before st h.
      let i = c.loop-line.invariant.ran s db before st h in
      let one = c.in_ok-answer.ensures.ran i.story db _ i.holds.0 i.stands i.holds.1 in
      let item : string_bytes (get_or c.args.lines.now c.loop-line.line-index c.line-item.result) ≡ c.as_bytes.result.now = search rules in
      let more : map string_bytes (take (c.loop-line.line-index + 1) c.args.lines.now) ≡ map string_bytes (take c.loop-line.line-index c.args.lines.now) ++ c.as_bytes.result.now ∷ [] =
      map_more string_bytes c.args.lines.now c.loop-line.line-index c.line-item.result (omega (arith, c.loop-line-test.true))
      ∙ ap (λ (b : List ℕ). map string_bytes (take c.loop-line.line-index c.args.lines.now) ++ b ∷ []) item in
      stands_as _ db _ _ _ _ (append_assoc before (map string_bytes (take c.loop-line.line-index c.args.lines.now)) (c.as_bytes.result.now ∷ []) ∙ ap (λ (ls : List (List ℕ)). before ++ ls) (sym more))
      (record { story = one.story; stands = one.stands; holds = (_, one.holds) });
  few = omega (arith, c.loop-line.invariant.few, c.answer.ensures.few);
}

pub returns-clause-ran : goal.returns-clause-ran
returns-clause-ran g c = λ s db before st h.
    let all : take c.loop-line.line-index c.args.lines.now ≡ c.args.lines.now = take_all c.loop-line.line-index c.args.lines.now (omega (arith, c.loop-line-test.false)) in
    stands_as _ db _ _ _ _ (ap (λ xs. before ++ map string_bytes xs) all) (c.loop-line.invariant.ran s db before st h)
