use Rattle.std.proofs.Common.{rules, ◌≡◌, ◌+◌, List, drop, ap, subst, arith}
use Rattle.log_records.specs.declared.record.Scanned.{Scanned}
use Rattle.record_replay.specs.Telling.{Tells}
use Rattle.record_replay.specs.Texts.{texts_entries}
use Rattle.record_replay.specs.declared.answer.Replayed.{Replayed}
use Rattle.record_replay.specs.declared.answer.Replayed.TheVariants.{Passed}
use Rattle.log_replay.proofs.Going.{GoesOn, going, further_comes, go_more, go_breaks, go_some, gone_all, rest_on, next_of}
use Rattle.log_replay.proofs.Recovering.{drop_past}
use Rattle.log_replay.proofs.each.follow_each.Goals as goal

pub follow-requires-after_bounds : goal.follow-requires-after_bounds
follow-requires-after_bounds g c κs within = c.loop-scanned.invariant.some

pub returns-then-ne-clause-told : goal.returns-then-ne-clause-told
returns-then-ne-clause-told g c = λ p first ds h all to.
    let maps = g.M.SortedMaps.maps in
    let limit = g.M.SortedMaps.limit in
    let at = c.args.area in
    let records = c.args.records.now in
    let i = c.loop-scanned.scanned-index in
    let s = c.scanned-item.result in
    let old = c.loop-scanned.replay in
    let now = c.follow.new.self in
    let on = subst (λ (ss : List Scanned). GoesOn maps limit old at p first ds ss all) (next_of records i s (search rules) c.scanned-item.is) (c.loop-scanned.invariant.on p first ds h all to) in
    let differs : c.in_ok-answer.answer ≡ Passed → ⊥ = search rules in
    go_breaks maps limit at p first ds all old now s (drop (i + 1) records) on c.in_ok-answer.answer differs
    (c.in_ok-answer.ensures.told (going maps limit p first ds on.rs on.es) on.replayed on.rest.0 (further_comes maps limit at p first ds all old now s (drop (i + 1) records) on c.head_of.result c.head_of.ensures.place c.head_of.ensures.number))

pub loop-scanned-preserved : goal.loop-scanned-preserved
loop-scanned-preserved g c =
    let maps = g.M.SortedMaps.maps in
    let limit = g.M.SortedMaps.limit in
    let at = c.args.area in
    let records = c.args.records.now in
    let i = c.loop-scanned.scanned-index in
    let s = c.scanned-item.result in
    let old = c.loop-scanned.replay in
    let now = c.follow.new.self in
    let passed : c.in_ok-answer.answer ≡ Passed = search rules in
    let some = c.loop-scanned.invariant.some in record {
      on = λ p first ds h all to.
          let on = subst (λ (ss : List Scanned). GoesOn maps limit old at p first ds ss all) (next_of records i s (search rules) c.scanned-item.is) (c.loop-scanned.invariant.on p first ds h all to) in
          go_more maps limit at p first ds all old now s (drop (i + 1) records) on
          (subst (λ (answer : Replayed). Tells maps limit now (going maps limit p first ds on.rs on.es) on.rest.0 answer) passed
          (c.in_ok-answer.ensures.told (going maps limit p first ds on.rs on.es) on.replayed on.rest.0 (further_comes maps limit at p first ds all old now s (drop (i + 1) records) on c.head_of.result c.head_of.ensures.place c.head_of.ensures.number)));
      some = go_some maps limit old now c.head_of.result s.entry some.0 some.1 (c.in_ok-answer.ensures.reads passed)
          (λ r comes. subst (λ (answer : Replayed). Tells maps limit now some.0 r answer) passed (c.in_ok-answer.ensures.told some.0 some.1 r comes));
      texts = (let left = ap texts_entries (next_of records i s (search rules) c.scanned-item.is) in let more = c.in_ok-answer.ensures.texts in let before = c.loop-scanned.invariant.texts in omega (arith, left, more, before));
      commits = (let more = c.follow.ensures.commits in let before = c.loop-scanned.invariant.commits in omega (arith, more, before));
      rest = rest_on c.args.replay.now.store old.store now.store c.loop-scanned.invariant.rest c.follow.ensures.rest;
    }

pub returns-clause-told : goal.returns-clause-told
returns-clause-told g c = λ p first ds h all to.
    let maps = g.M.SortedMaps.maps in
    let limit = g.M.SortedMaps.limit in
    let at = c.args.area in
    let records = c.args.records.now in
    let now = c.loop-scanned.replay in
    gone_all maps limit at p first ds all now
    (subst (λ (ss : List Scanned). GoesOn maps limit now at p first ds ss all) (drop_past c.loop-scanned.scanned-index records c.loop-scanned-test.false) (c.loop-scanned.invariant.on p first ds h all to))

pub returns-then-ne-clause-texts : goal.returns-then-ne-clause-texts
returns-then-ne-clause-texts g c =
    let left = ap texts_entries (next_of c.args.records.now c.loop-scanned.scanned-index c.scanned-item.result (search rules) c.scanned-item.is) in
    let more = c.in_ok-answer.ensures.texts in
    let before = c.loop-scanned.invariant.texts in
    omega (arith, left, more, before)
