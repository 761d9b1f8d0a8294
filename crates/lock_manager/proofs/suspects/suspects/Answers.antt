use Rattle.std.proofs.Common.{◌≡◌, ℕ, ap, subst, ◌∙◌, ◌↔◌}
use Rattle.iv_types.specs.SessionSets.{Has}
use Rattle.lock_manager.specs.Suspects.{IsApart, digest, holders_at}
use Rattle.lock_manager.proofs.Marks.{by_key, by_all}
use Rattle.lock_manager.proofs.suspects.suspects.Goals as goal

pub returns-then-is_point : goal.returns-then-is_point
returns-then-is_point c =
    let slots = c.args.slots.now in
    let want = c.args.want.now in
    let place : c.digest_of-place.result ≡ digest want.index want.interval.low = c.digest_of-place.ensures ∙ ap (digest want.index) c.as_slice.ensures in
    by_key slots want c.either.result c.apart_from.result c.apart_from-then-is_point.result (c.is_point.ensures.0 c.if-is_point.true)
    (λ s. subst (λ (k : ℕ). Has c.apart_from.result s ↔ IsApart (holders_at slots k) want.mode s) place (c.apart_from.ensures s)) c.apart_from-then-is_point.ensures c.either.ensures

pub returns-else-is_point : goal.returns-else-is_point
returns-else-is_point c = by_all c.args.slots.now c.args.want.now c.apart_from-else-is_point.result c.apart_from-else-is_point.ensures
