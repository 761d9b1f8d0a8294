use Rattle.std.proofs.Common.{rules, ◌≡◌, ℕ, None, ◌∙◌, subst}
use Rattle.live_records.specs.Live.{what_of, record_at}
use Rattle.record_replay.specs.Past.{pages_in}
use Rattle.record_replay.specs.Telling.{TellsBack}
use Rattle.record_replay.specs.declared.answer.Replayed.{Replayed}
use Rattle.record_replay.specs.declared.answer.Replayed.TheVariants.{Passed}
use Rattle.record_replay.proofs.Changed.{known_here}
use Rattle.record_replay.proofs.Orders.{its_known, one_back, one_told, goes_on, all_back, rest_on}
use Rattle.record_replay.proofs.reversing.reverse_each.Goals as goal

pub reverse_one-requires-clause-has : goal.reverse_one-requires-clause-has
reverse_one-requires-clause-has g c κs within =
    let q = c.requires in
    let on = c.loop-own.invariant.goes_on q.0 q.1 q.2 in
    (on.state, on.can.has)

pub reverse_one-requires-clause-known : goal.reverse_one-requires-clause-known
reverse_one-requires-clause-known g c κs within =
    let maps = g.M.SortedMaps.maps in
    let limit = g.M.SortedMaps.limit in
    let q = c.requires in
    let on = c.loop-own.invariant.goes_on q.0 q.1 q.2 in
    let own = c.in-Some.own in
    let store = c.loop-own.store in
    known_here maps limit store (pages_in on.state) (what_of own.change) on.can.has
    (its_known maps limit store store c.loop-own.left c.pop.new.self q.0 on.state on.can own c.in-Some.ensures.latest c.in-Some.ensures.was c.in-Some.ensures.taken)

pub returns-then-ne-clause-told : goal.returns-then-ne-clause-told
returns-then-ne-clause-told g c = λ rs s can.
    let maps = g.M.SortedMaps.maps in
    let limit = g.M.SortedMaps.limit in
    let on = c.loop-own.invariant.goes_on rs s can in
    let own = c.in-Some.own in
    let differs : c.in_ok-answer.answer ≡ Passed → ⊥ = search rules in
    on.tells c.reverse_one.new.store c.in_ok-answer.answer
    (one_told maps limit c.loop-own.store c.reverse_one.new.store c.loop-own.left c.pop.new.self rs on.state on.can own c.in-Some.ensures.latest c.in-Some.ensures.was c.in-Some.ensures.taken
    c.in_ok-answer.answer differs (c.in_ok-answer.ensures.told on.state on.can.has))

pub loop-own-preserved : goal.loop-own-preserved
loop-own-preserved g c =
    let maps = g.M.SortedMaps.maps in
    let limit = g.M.SortedMaps.limit in
    let own = c.in-Some.own in
    let after = c.reverse_one.new.store in
    let passed : c.in_ok-answer.answer ≡ Passed = search rules in record {
      goes_on = λ rs s can.
          let on = c.loop-own.invariant.goes_on rs s can in
          goes_on maps limit c.loop-own.store after c.loop-own.left c.pop.new.self rs s on
          (one_back maps limit c.loop-own.store after c.loop-own.left c.pop.new.self rs on.state on.can own c.in-Some.ensures.latest c.in-Some.ensures.was c.in-Some.ensures.taken
          (subst (λ (answer : Replayed). TellsBack maps limit after own on.state answer) passed (c.in_ok-answer.ensures.told on.state on.can.has)));
      texts = c.in_ok-answer.ensures.texts ∙ c.loop-own.invariant.texts;
      rest = rest_on c.args.store.now c.loop-own.store after c.loop-own.invariant.rest c.reverse_one.ensures.rest;
    }

pub returns-clause-told : goal.returns-clause-told
returns-clause-told g c = λ rs s can.
    let maps = g.M.SortedMaps.maps in
    let limit = g.M.SortedMaps.limit in
    let on = c.loop-own.invariant.goes_on rs s can in
    let none : (n : ℕ) → record_at c.loop-own.left n ≡ None = search rules in
    on.tells c.loop-own.store Passed (all_back maps limit c.loop-own.store c.loop-own.left rs on.state on.can none)
