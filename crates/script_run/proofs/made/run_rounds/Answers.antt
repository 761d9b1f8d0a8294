use Rattle.std.proofs.Common.{◌≡◌, ◌+◌, ◌∙◌, ◌++◌, [], ap, arith, map, List, ℕ, rules, subst, sym}
use Rattle.std.specs.Prelude.{string_bytes}
use Rattle.made_script.specs.Made.{lines_before_last, round_lines}
use Rattle.script_run.specs.Making.{HasMadeLines}
use Rattle.script_run.proofs.Pieces.{few_lines, few_texts, round_more, stands_as}
use Rattle.script_run.proofs.made.run_rounds.Goals as goal

pub loop-round-init : goal.loop-round-init
loop-round-init g c = record {
  running = c.in_ok-answer_all.ensures.running;
  ran = λ s db st h.
      stands_as _ db _ _ _ _ (ap (map string_bytes) c.deref.ensures.value ∙ c.in_ok-lines.ensures)
      (c.in_ok-answer_all.ensures.ran s db [] st (subst (λ (n : ℕ). HasMadeLines db [] n c.args.table.now s) (sym c.requires.none) h));
  few = omega (arith, c.requires.none, c.answer_all.ensures.few, few_texts c.deref.result.now (lines_before_last 0) 2 (ap (map string_bytes) c.deref.ensures.value ∙ c.in_ok-lines.ensures) (omega arith));
}

pub loop-round-preserved : goal.loop-round-preserved
loop-round-preserved g c = record {
  running = c.in_ok-answer_all-2.ensures.running;
  ran = λ s db st h.
      let i = c.loop-round.invariant.ran s db st h in
      stands_as _ db _ _ _ _ (ap (λ (ls : List (List ℕ)). lines_before_last c.loop-round.round ++ ls) (ap (map string_bytes) c.deref-in-loop-round.ensures.value ∙ c.in_ok-lines-2.ensures) ∙ round_more c.loop-round.round)
      (c.in_ok-answer_all-2.ensures.ran i.story db (lines_before_last c.loop-round.round) i.stands i.holds);
  few = omega (arith, c.loop-round.invariant.few, c.answer_all-in-loop-round.ensures.few, few_texts c.deref-in-loop-round.result.now (round_lines (c.loop-round.round + 1)) 26 (ap (map string_bytes) c.deref-in-loop-round.ensures.value ∙ c.in_ok-lines-2.ensures) (few_lines (c.loop-round.round + 1)));
}

pub returns-clause-ran : goal.returns-clause-ran
returns-clause-ran g c = λ s db st h.
    let all : c.loop-round.round ≡ c.args.number = search rules in
    stands_as _ db _ _ _ _ (ap lines_before_last all) (c.loop-round.invariant.ran s db st h)
