use Rattle.std.proofs.Common.{◌≡◌, ◌+◌, [], ◌∷◌, ◌++◌, length, true, sym, ap, ◌∙◌, arith}
use Rattle.std.specs.List.{Contains}
use Rattle.std.proofs.lemmas.List.{length_push, nil_from_length}
use Rattle.lock_manager.proofs.Keys.{true_false}
use Rattle.lock_manager.proofs.Counts.{added_first, added_held, added_new, added_last, room_held, room_first, room_new}
use Rattle.lock_manager.proofs.held.Held.add_all.Goals as goal

pub loop-want-init : goal.loop-want-init
loop-want-init c = record { added = added_first c.args.self.now.locks c.args.wants.items; room = c.requires; spare = omega arith; few = omega arith }

pub add-requires : goal.add-requires
add-requires c =
    let out : ¬ Contains c.loop-want.self.locks c.in-Some.want = λ h. let t : c.has.result ≡ true = c.has.ensures.1 h in true_false (sym t ∙ c.if-not-has.true) in
    room_first c.loop-want.self.spare c.loop-want.self.locks c.loop-want.left.items c.pop.new.self.items c.in-Some.want c.in-Some.ensures.items out c.loop-want.invariant.room

pub loop-want-preserved-then-not-has : goal.loop-want-preserved-then-not-has
loop-want-preserved-then-not-has c =
    let before = c.loop-want.invariant in
    let locks = c.loop-want.self.locks in
    let left = c.loop-want.left.items in
    let rest = c.pop.new.self.items in
    let x = c.in-Some.want in
    let is : left ≡ rest ++ x ∷ [] = c.in-Some.ensures.items in
    let long : length left ≡ length rest + 1 = ap length is ∙ length_push rest x in
    let out : ¬ Contains locks x = λ h. let t : c.has.result ≡ true = c.has.ensures.1 h in true_false (sym t ∙ c.if-not-has.true) in
    record {
      added = added_new c.args.self.now.locks c.args.wants.items locks left c.add.new.self.locks rest x c.loop-want.used is out c.add.ensures.locks before.added;
      room = room_new c.loop-want.self.spare c.add.new.self.spare locks c.add.new.self.locks left rest x is out c.add.ensures.locks c.add.ensures.spare before.room;
      spare = omega (arith, c.add.ensures.spare, before.spare);
      few = omega (arith, long, before.few);
    }

pub loop-want-preserved-else-not-has : goal.loop-want-preserved-else-not-has
loop-want-preserved-else-not-has c =
    let before = c.loop-want.invariant in
    let locks = c.loop-want.self.locks in
    let left = c.loop-want.left.items in
    let rest = c.pop.new.self.items in
    let x = c.in-Some.want in
    let is : left ≡ rest ++ x ∷ [] = c.in-Some.ensures.items in
    let long : length left ≡ length rest + 1 = ap length is ∙ length_push rest x in
    record {
      added = added_held c.args.self.now.locks c.args.wants.items locks left rest x c.loop-want.used is (c.has.ensures.0 c.if-not-has.false) before.added;
      room = room_held c.loop-want.self.spare locks left rest x is before.room;
      spare = before.spare;
      few = omega (arith, long, before.few);
    }

pub loop-want-preserved : goal.loop-want-preserved
loop-want-preserved c =
    let before = c.loop-want.invariant in
    let locks = c.loop-want.self.locks in
    let left = c.loop-want.left.items in
    let rest = c.pop.new.self.items in
    let x = c.in-Some.want in
    let is : left ≡ rest ++ x ∷ [] = c.in-Some.ensures.items in
    let long : length left ≡ length rest + 1 = ap length is ∙ length_push rest x in
    record {
      added = added_held c.args.self.now.locks c.args.wants.items locks left rest x c.loop-want.used is (c.has.ensures.0 c.if-not-has.false) before.added;
      room = room_held c.loop-want.self.spare locks left rest x is before.room;
      spare = before.spare;
      few = omega (arith, long, before.few);
    }

pub returns-clause-locks : goal.returns-clause-locks
returns-clause-locks c =
    let left = c.loop-want.left.items in
    let none : length left ≡ 0 = omega (arith, c.in_default.ensures.cases, c.loop-want.left.ok) in
    (added_last c.args.self.now.locks c.args.wants.items c.loop-want.self.locks left c.loop-want.used (nil_from_length left none) c.loop-want.invariant.added).0

pub returns-clause-new : goal.returns-clause-new
returns-clause-new c =
    let left = c.loop-want.left.items in
    let none : length left ≡ 0 = omega (arith, c.in_default.ensures.cases, c.loop-want.left.ok) in
    (added_last c.args.self.now.locks c.args.wants.items c.loop-want.self.locks left c.loop-want.used (nil_from_length left none) c.loop-want.invariant.added).1
