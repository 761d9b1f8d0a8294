use Rattle.std.proofs.Common.{refl}
use Rattle.iv_meaning.specs.Resolving.{fresh}
use Rattle.bind_resolve.specs.Seen.{names_in}
use Rattle.bind_resolve.proofs.Steps.{exits_gives}
use Rattle.bind_resolve.proofs.Walks.{all_done, all_joined, halted, joined_on, moved, not_fresh, one_fresh}
use Rattle.bind_resolve.proofs.names.fresh.Goals as goal

pub loop-index-preserved : goal.loop-index-preserved
loop-index-preserved c = (
  moved (λ zs. fresh (names_in c.loop-index.others.keys) (names_in zs)) (λ zs. fresh (names_in c.new_name.new.others.keys) (names_in zs)) _ _ _ c.index-names-index.result c.loop-index-test.true c.index-names-index.is
      (one_fresh _ _ _ c.index-names-index.result.now c.in_ok-new_name.ensures.joined c.in_ok-new_name.ensures.free) c.loop-index.invariant.0,
  joined_on _ _ c.index-names-index.result (names_in c.loop-index.others.keys) (names_in c.new_name.new.others.keys) _ c.loop-index-test.true c.index-names-index.is c.in_ok-new_name.ensures.joined c.loop-index.invariant.1,
)

pub returns-in_err-new_name-clause-free : goal.returns-in_err-new_name-clause-free
returns-in_err-new_name-clause-free c =
    exits_gives _ c.from_residual.result c.in_err-new_name.field-0.0 _ c.from_residual.ensures.1
    (halted (λ zs. fresh (names_in c.loop-index.others.keys) (names_in zs)) _ _ _ _ c.index-names-index.result c.loop-index-test.true c.index-names-index.is (not_fresh _ _ c.index-names-index.result.now _ c.in_err-new_name.ensures.free) c.loop-index.invariant.0)

pub returns-clause-free : goal.returns-clause-free
returns-clause-free c = all_done (λ zs. fresh (names_in c.loop-index.others.keys) (names_in zs)) _ _ _ _ c.loop-index-test.false refl c.loop-index.invariant.0

pub returns-clause-joined : goal.returns-clause-joined
returns-clause-joined c = all_joined _ _ (names_in c.loop-index.others.keys) _ c.loop-index-test.false c.loop-index.invariant.1
