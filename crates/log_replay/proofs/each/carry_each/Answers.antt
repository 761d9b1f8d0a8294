use Rattle.std.proofs.Common.{rules, ◌≡◌, ◌+◌, List, drop, ◌∙◌, subst}
use Rattle.log_records.specs.declared.record.Scanned.{Scanned}
use Rattle.record_replay.specs.Telling.{TellsCarried}
use Rattle.record_replay.specs.declared.answer.Replayed.{Replayed}
use Rattle.record_replay.specs.declared.answer.Replayed.TheVariants.{Passed}
use Rattle.log_replay.proofs.Going.{CarriesOn, carried_comes, carry_more, carry_breaks, carry_some, rest_on, next_of}
use Rattle.log_replay.proofs.each.carry_each.Goals as goal

pub carry-requires-after_bounds : goal.carry-requires-after_bounds
carry-requires-after_bounds g c κs within = c.loop-scanned.invariant.some

pub returns-then-ne-clause-told : goal.returns-then-ne-clause-told
returns-then-ne-clause-told g c = λ p h all to.
    let maps = g.M.SortedMaps.maps in
    let limit = g.M.SortedMaps.limit in
    let at = c.args.area in
    let records = c.args.records.now in
    let i = c.loop-scanned.scanned-index in
    let s = c.scanned-item.result in
    let old = c.loop-scanned.replay in
    let now = c.carry.new.self in
    let on = subst (λ (ss : List Scanned). CarriesOn maps limit old at p ss all) (next_of records i s (search rules) c.scanned-item.is) (c.loop-scanned.invariant.on p h all to) in
    let differs : c.in_ok-answer.answer ≡ Passed → ⊥ = search rules in
    carry_breaks maps limit at p all old now s (drop (i + 1) records) on c.in_ok-answer.answer differs
    (c.in_ok-answer.ensures.told p on.rs on.ds on.replayed on.rest.0 (carried_comes at p.db.schema s on.rest.0 c.head_of.result c.head_of.ensures.place c.head_of.ensures.number on.rest.1))

pub loop-scanned-preserved : goal.loop-scanned-preserved
loop-scanned-preserved g c =
    let maps = g.M.SortedMaps.maps in
    let limit = g.M.SortedMaps.limit in
    let at = c.args.area in
    let records = c.args.records.now in
    let i = c.loop-scanned.scanned-index in
    let s = c.scanned-item.result in
    let old = c.loop-scanned.replay in
    let now = c.carry.new.self in
    let passed : c.in_ok-answer.answer ≡ Passed = search rules in
    let some = c.loop-scanned.invariant.some in record {
      on = λ p h all to.
          let on = subst (λ (ss : List Scanned). CarriesOn maps limit old at p ss all) (next_of records i s (search rules) c.scanned-item.is) (c.loop-scanned.invariant.on p h all to) in
          carry_more maps limit at p all old now s (drop (i + 1) records) on
          (subst (λ (answer : Replayed). TellsCarried maps limit now p on.rs on.ds on.rest.0 answer) passed
          (c.in_ok-answer.ensures.told p on.rs on.ds on.replayed on.rest.0 (carried_comes at p.db.schema s on.rest.0 c.head_of.result c.head_of.ensures.place c.head_of.ensures.number on.rest.1)));
      some = carry_some maps limit old now c.head_of.result s.entry some.0 some.1 some.2 some.3 (c.in_ok-answer.ensures.reads passed)
          (λ r comes. subst (λ (answer : Replayed). TellsCarried maps limit now some.0 some.1 some.2 r answer) passed (c.in_ok-answer.ensures.told some.0 some.1 some.2 some.3 r comes));
      texts = c.in_ok-answer.ensures.texts ∙ c.loop-scanned.invariant.texts;
      commits = c.carry.ensures.commits ∙ c.loop-scanned.invariant.commits;
      rest = rest_on c.args.replay.now.store old.store now.store c.loop-scanned.invariant.rest c.carry.ensures.rest;
    }
