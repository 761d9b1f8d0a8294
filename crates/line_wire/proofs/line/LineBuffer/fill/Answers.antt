use Rattle.std.proofs.Common.{◌≡◌, ℕ, List, length, take, drop, ◌++◌, rules, arith, length-drop, ap, ◌∙◌}
use Rattle.std.proofs.lemmas.List.{take-append-drop, take_at}
use Rattle.line_wire.specs.Wire.{Gives}
use Rattle.line_wire.specs.Reading.{Reading}
use Rattle.line_wire.proofs.line.LineBuffer.fill.Goals as goal

pub returns-clause-filled : goal.returns-clause-filled
returns-clause-filled g c = λ bytes e.
    let given : Gives bytes c.in_ok-count.count c.take_front.new.chunk (g.S.Source.left c.take_front.new.source) = c.in_ok-count.ensures.bytes bytes e in
    let n = c.in_ok-count.count in
    let taken : c.self.inside.taken ≡ c.args.self.now.taken = ap (λ (r : Reading). r.taken) c.self.view_is in
    let whole : take c.self.inside.chunk.len (c.take_front.new.chunk ++ drop (length c.take_front.new.chunk) c.self.inside.chunk.items) ≡ c.take_front.new.chunk = take_at _ _ _ (search rules) in
    record {
      rest = drop n bytes;
      tells = given.rest;
      same = ap (λ (xs : List ℕ). take n xs ++ drop n bytes) whole ∙ ap (λ (xs : List ℕ). xs ++ drop n bytes) given.same ∙ take-append-drop n bytes;
      count_is = omega (arith, length-drop n bytes, given.few, taken);
      end = given.end;
    }
