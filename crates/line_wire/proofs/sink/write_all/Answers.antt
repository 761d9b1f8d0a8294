use Rattle.std.proofs.Common.{◌≡◌, ℕ, ◌+◌, ◌-◌, List, ◌++◌, length, take, drop, Some, ap, ◌∙◌, sym, arith, append_assoc, length-drop}
use Rattle.std.proofs.lemmas.List.{take_rest}
use Rattle.std.proofs.Math.Seq.{take-add}
use Rattle.line_wire.proofs.sink.write_all.Goals as goal

appended : (before from : List ℕ) (at n : ℕ) → (before ++ take at from) ++ take n (take (length from - at) (drop at from)) ≡ before ++ take (at + n) from
appended before from at n = rw take_rest (append_assoc before (take at from) (take n (drop at from)) ∙ ap (λ (xs : List ℕ). before ++ xs) (sym (take-add at n from)))

pub loop-at-preserved : goal.loop-at-preserved
loop-at-preserved g c = record {
  within = omega (arith, length-drop c.loop-at.at c.args.bytes.now, c.in-Ok.ensures.within);
  same = λ before e. c.in-Ok.ensures.bytes (before ++ take c.loop-at.at c.args.bytes.now) (c.loop-at.invariant.same before e)
      ∙ ap Some (appended before c.args.bytes.now c.loop-at.at c.in-Ok.count);
  quiet = c.in-Ok.ensures.fault ∙ c.loop-at.invariant.quiet;
}
