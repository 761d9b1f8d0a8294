use Rattle.std.proofs.Common.{rules, ◌++◌, ◌∷◌, ◌∙◌, sym, ap, ◌<◌, ℤ, pos, List, drop, add-one, FitsSigned, length}
use Rattle.std.specs.Prelude.{get_or}
use Rattle.std.proofs.Math.Seq.{drop-cons}
use Rattle.std.proofs.lemmas.Int.{to_z-of_z}
use Rattle.std.specs.Int.{w128}
use Rattle.iv_types.specs.declared.value.Kind.TheVariants.{Huge}
use Rattle.iv_types.specs.declared.value.Value.TheVariants.{Number}
use Rattle.iv_types.specs.Encoding.{value_bytes}
use Rattle.ghost_rows.proofs.NumberSteps.{pushed_bytes}
use Rattle.ghost_rows.proofs.numbers.bytes_of.Goals as goal

pub loop-index-preserved : goal.loop-index-preserved
loop-index-preserved c =
    let n = c.loop-index.index in
    let numbers : List ℤ = c.args.numbers.now in
    let lt : n < length numbers = c.loop-index-test.true in
    let x : ℤ = get_or numbers n (pos 0) in
    let fits : FitsSigned w128 x = search rules in
    pushed_bytes c.loop-index.out.items c.push.new.out.items numbers n x (drop-cons numbers n (pos 0) lt ∙ ap (λ m. x ∷ drop m numbers) (sym (add-one n)))
    (c.in_ok-push.ensures ∙ ap (λ (z : ℤ). c.loop-index.out.items ++ value_bytes Huge (Number z)) (to_z-of_z w128 x fits)) c.loop-index.invariant
