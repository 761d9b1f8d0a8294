use Rattle.std.proofs.Common.{refl}
use Rattle.log_records.specs.Lent.{stands_for}
use Rattle.table_laws.specs.Place.{Place}
use Rattle.txn_machine.specs.Acts as act
use Rattle.txn_machine.specs.Answers.{Cleaned, Refused}
use Rattle.txn_machine.specs.Records.{Clean}
use Rattle.txn_machine.specs.Store.{schema_of}
use Rattle.core_recording.proofs.Ones.{can_one, gave_one}
use Rattle.core_upkeep.proofs.Cleaned.{clean_gives, refused_gives, gave_none}
use Rattle.core_upkeep.proofs.Removed.{clean_short}
use Rattle.core_upkeep.proofs.cleaning.clean_at.Goals as goal

pub remove_first-requires-after_bounds : goal.remove_first-requires-after_bounds
remove_first-requires-after_bounds g c κs within = (c.requires.0.state, c.requires.0.began, c.requires.1)

pub give-requires : goal.give-requires
give-requires g c =
    let q = c.requires.0 in
    let s = q.state in
    let core = c.args.core.now in
    let place : Place = (c.args.view, c.args.group.now) in
    let done = c.in-Ok.ensures.ok s q.began c.requires.1 in (
      schema_of s.store,
      Clean place,
      q.records,
      c.clean_of.ensures (schema_of s.store),
      q.behind.has_them,
      can_one g.M.SortedMaps.maps g.M.SortedMaps.spare g.M.SortedMaps.limit g.J.Journal.has g.J.Journal.limit core c.args.journal.now s 0 act.Clean (Cleaned 1) c.remove_first.new.core
          q.began done.0 (Clean place) q.records (clean_gives s q.records place done.0.effects done.1)
          (clean_short g.M.SortedMaps.maps g.M.SortedMaps.spare g.M.SortedMaps.limit core s q.began place c.requires.1.is c.short_law.ensures) q.behind,
    )

pub returns-in-Ok-clause-gives : goal.returns-in-Ok-clause-gives
returns-in-Ok-clause-gives g c = λ s h first.
    let place : Place = (c.args.view, c.args.group.now) in
    let done = c.in-Ok.ensures.ok s h first in
    gave_one g.M.SortedMaps.maps g.M.SortedMaps.spare g.M.SortedMaps.limit g.J.Journal.has g.J.Journal.limit g.J.Journal.medium g.J.Journal.leaves c.args.core.now c.args.journal.now s 0 act.Clean (Cleaned 1) c.remove_first.new.core
    h done.0 (Clean place) (stands_for c.clean_of.result) c.give.new.journal
    (λ rs. clean_gives s rs place done.0.effects done.1) (c.clean_of.ensures (schema_of s.store)) c.give.ensures.has c.give.ensures.limit c.give.ensures.medium tt

pub returns-in-Ok-clause-medium : goal.returns-in-Ok-clause-medium
returns-in-Ok-clause-medium g c = c.give.ensures.medium

pub returns-in-Err-clause-gives : goal.returns-in-Err-clause-gives
returns-in-Err-clause-gives g c = λ s h first.
    let told = c.in-Err.ensures.err s h first in
    gave_none g.M.SortedMaps.maps g.M.SortedMaps.spare g.M.SortedMaps.limit g.J.Journal.has g.J.Journal.limit g.J.Journal.medium g.J.Journal.leaves c.args.core.now c.args.journal.now s (Refused c.in-Err.why) c.remove_first.new.core
    h told (λ rs. refused_gives s rs c.in-Err.why told.effects told.says)

pub returns-in-Err-clause-medium : goal.returns-in-Err-clause-medium
returns-in-Err-clause-medium g c = refl
