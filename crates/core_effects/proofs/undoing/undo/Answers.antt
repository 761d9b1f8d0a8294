use Rattle.core_effects.proofs.Latest.{some_open, has_latest, a_pay, a_put, pay_room, put_room}
use Rattle.core_effects.proofs.undoing.undo.Goals as goal

pub open_of-requires-after_bounds : goal.open_of-requires-after_bounds
open_of-requires-after_bounds g c κs within = some_open g.M.SortedMaps.maps g.M.SortedMaps.spare g.M.SortedMaps.limit c.args.core.now c.requires.keeps.0 c.requires.keeps.1 c.requires.keeps.2 c.args.session c.requires.keeps.3 c.requires.keeps.4

pub is_pay-requires : goal.is_pay-requires
is_pay-requires g c = has_latest g.M.SortedMaps.maps g.M.SortedMaps.spare g.M.SortedMaps.limit c.args.core.now c.requires.keeps.0 c.requires.keeps.1 c.requires.keeps.2 c.args.session c.requires.keeps.3 c.open_of.result.now c.open_of.ensures c.requires.keeps.4

pub undo_pay-requires-clause-keeps : goal.undo_pay-requires-clause-keeps
undo_pay-requires-clause-keeps g c κs within = (
  c.requires.keeps.0,
  c.requires.keeps.1,
  c.requires.keeps.2,
  c.requires.keeps.3,
  (pay_room g.M.SortedMaps.maps g.M.SortedMaps.spare g.M.SortedMaps.limit c.args.core.now c.requires.keeps.0 c.requires.keeps.1 c.requires.keeps.2 c.args.session c.requires.keeps.3 c.open_of.result.now c.open_of.ensures c.is_pay.result c.is_pay.ensures (g.M.SortedMaps.maps c.args.core.now.store.tables) (g.M.SortedMaps.limit c.args.core.now.store.tables) c.if-is_pay.true c.requires.keeps.4 c.requires.keeps.5).0,
  (pay_room g.M.SortedMaps.maps g.M.SortedMaps.spare g.M.SortedMaps.limit c.args.core.now c.requires.keeps.0 c.requires.keeps.1 c.requires.keeps.2 c.args.session c.requires.keeps.3 c.open_of.result.now c.open_of.ensures c.is_pay.result c.is_pay.ensures (g.M.SortedMaps.maps c.args.core.now.store.tables) (g.M.SortedMaps.limit c.args.core.now.store.tables) c.if-is_pay.true c.requires.keeps.4 c.requires.keeps.5).1,
)

pub undo_put-requires-clause-keeps : goal.undo_put-requires-clause-keeps
undo_put-requires-clause-keeps g c κs within = (
  c.requires.keeps.0,
  c.requires.keeps.1,
  c.requires.keeps.2,
  c.requires.keeps.3,
  (put_room g.M.SortedMaps.maps g.M.SortedMaps.spare g.M.SortedMaps.limit c.args.core.now c.requires.keeps.0 c.requires.keeps.1 c.requires.keeps.2 c.args.session c.requires.keeps.3 c.open_of.result.now c.open_of.ensures c.is_pay.result c.is_pay.ensures (g.M.SortedMaps.maps c.args.core.now.store.tables) (g.M.SortedMaps.limit c.args.core.now.store.tables) c.if-is_pay.false c.requires.keeps.4 c.requires.keeps.5).0,
  (put_room g.M.SortedMaps.maps g.M.SortedMaps.spare g.M.SortedMaps.limit c.args.core.now c.requires.keeps.0 c.requires.keeps.1 c.requires.keeps.2 c.args.session c.requires.keeps.3 c.open_of.result.now c.open_of.ensures c.is_pay.result c.is_pay.ensures (g.M.SortedMaps.maps c.args.core.now.store.tables) (g.M.SortedMaps.limit c.args.core.now.store.tables) c.if-is_pay.false c.requires.keeps.4 c.requires.keeps.5).1,
)

pub returns-then-is_pay-clause-holds : goal.returns-then-is_pay-clause-holds
returns-then-is_pay-clause-holds g c = λ s l texts a h one.
    c.undo_pay.ensures.holds s l texts a h (a_pay g.M.SortedMaps.maps g.M.SortedMaps.spare g.M.SortedMaps.limit c.args.core.now s l texts c.args.session h c.open_of.result.now c.open_of.ensures c.is_pay.result c.is_pay.ensures c.if-is_pay.true one)

pub returns-else-is_pay-clause-holds : goal.returns-else-is_pay-clause-holds
returns-else-is_pay-clause-holds g c = λ s l texts a h one.
    c.undo_put.ensures.holds s l texts a h (a_put g.M.SortedMaps.maps g.M.SortedMaps.spare g.M.SortedMaps.limit c.args.core.now s l texts c.args.session h c.open_of.result.now c.open_of.ensures c.is_pay.result c.is_pay.ensures c.if-is_pay.false one)
