use Rattle.std.proofs.Common.{◌≤◌, ℕ, List, length, ◌++◌, Option, Ok, Err, Result, ◌∙◌}
use Rattle.std.specs.Prelude.{IfOk}
use Rattle.std.proofs.lemmas.List.{take-append-le}
use Rattle.iv_types.specs.declared.fault.Failed.{Failed}
use Rattle.line_wire.specs.Wire.{Gives}
use Rattle.line_wire.proofs.line.take_front.Goals as goal

-- what is behind the piece does not matter
gives_more : (r : Result ℕ Failed) (bytes piece more : List ℕ) (left : Option (List ℕ)) → IfOk r (λ n. n ≤ length piece) → IfOk r (λ n. Gives bytes n piece left) → IfOk r (λ n. Gives bytes n (piece ++ more) left)
gives_more (Ok n) bytes piece more left few given = record { few = given.few; same = take-append-le n piece more few ∙ given.same; rest = given.rest; end = given.end }
gives_more (Err e) bytes piece more left few given = tt

pub returns-clause-bytes : goal.returns-clause-bytes
returns-clause-bytes g c = λ bytes e. gives_more _ bytes c.take.new.into _ _ c.take.ensures.within (c.take.ensures.bytes bytes e)
