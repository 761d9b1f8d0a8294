use Rattle.std.proofs.Common.{◌<◌, ◌^◌, Some, ap, arith}
use Rattle.log_disk.specs.Placed.{data_limit}
use Rattle.database_opening.proofs.pages.in_pages.Goals as goal

pub copy_maps-requires-clause-held : goal.copy_maps-requires-clause-held
copy_maps-requires-clause-held c κs index key value within there = c.maps_law.ensures.held index key value there

pub copy_maps-requires-clause-limit : goal.copy_maps-requires-clause-limit
copy_maps-requires-clause-limit c κs =
    let pages = c.requires.pages.1 in
    let few : data_limit c.args.pages < 2 ^ 32 = omega (arith, pages) in
    (data_limit c.args.pages, ap (λ n. Some (data_limit n)) c.in_ok-copy.ensures.pages, few, c.requires.within)
