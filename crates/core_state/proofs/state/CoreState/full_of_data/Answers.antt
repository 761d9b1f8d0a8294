use Rattle.std.proofs.Common.{◌≡◌, ◌-◌, ◌^◌, ap, ◌∙◌}
use Rattle.std.specs.Prelude.{min}
use Rattle.iv_types.specs.Maps.{used}
use Rattle.core_state.proofs.Data.{tested_fits, tested_small, tested_used, tested_within}
use Rattle.core_state.proofs.state.CoreState.full_of_data.Goals as goal

pub full-requires : goal.full-requires
full-requires g c = tested_within c.args.self.now.data_room.limit (used (g.M.SortedMaps.maps c.args.self.now.store.tables)) c.used.result c.args.self.now.data_room.total (c.used.ensures ∙ ap (λ m. min (used (g.M.SortedMaps.maps m)) (2 ^ 64 - 1)) c.maps.ensures) c.requires

pub returns-clause-fits : goal.returns-clause-fits
returns-clause-fits g c = tested_fits c.args.self.now.data_room.limit (used (g.M.SortedMaps.maps c.args.self.now.store.tables)) c.used.result c.args.self.now.data_room.total (c.used.ensures ∙ ap (λ m. min (used (g.M.SortedMaps.maps m)) (2 ^ 64 - 1)) c.maps.ensures) c.full.ensures.few c.args.need c.full.result c.full.ensures.fits

pub returns-clause-small : goal.returns-clause-small
returns-clause-small g c = tested_small c.args.self.now.data_room.limit (used (g.M.SortedMaps.maps c.args.self.now.store.tables)) c.used.result c.args.self.now.data_room.total (c.used.ensures ∙ ap (λ m. min (used (g.M.SortedMaps.maps m)) (2 ^ 64 - 1)) c.maps.ensures) c.full.ensures.few c.args.need c.full.result c.full.ensures.small

pub returns-clause-used : goal.returns-clause-used
returns-clause-used g c = tested_used c.args.self.now.data_room.limit (used (g.M.SortedMaps.maps c.args.self.now.store.tables)) c.used.result c.args.self.now.data_room.total (c.used.ensures ∙ ap (λ m. min (used (g.M.SortedMaps.maps m)) (2 ^ 64 - 1)) c.maps.ensures) c.full.ensures.few c.full.result c.full.ensures.used
