use Rattle.std.proofs.Common.{◌+◌, ap, arith, ◌∙◌}
use Rattle.core_recording.proofs.Commits.{number_few, number_is}
use Rattle.core_recording.proofs.ending.next_commit.Goals as goal

pub overflow_add-result : goal.overflow_add-result
overflow_add-result g c =
    let few = number_few g.M.SortedMaps.maps g.M.SortedMaps.spare g.M.SortedMaps.limit c.args.core.now c.requires.0 c.requires.1 c.requires.2 c.book_law.ensures in
    let is = c.number-number.ensures in
    omega (arith, few, is)

pub returns : goal.returns
returns g c = λ s i h. ap (λ n. n + 1) (c.number-number.ensures ∙ number_is g.M.SortedMaps.maps g.M.SortedMaps.spare g.M.SortedMaps.limit c.args.core.now s i h)
