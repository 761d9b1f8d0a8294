use Rattle.std.proofs.Common.{◌+◌, refl}
use Rattle.iv_meaning.specs.Objects.{schema_of}
use Rattle.iv_meaning.specs.Resolving.{columns_seen}
use Rattle.iv_types.proofs.Walks.{all_gathered}
use Rattle.bind_resolve.proofs.ScopeLemmas.{called_in, relations_in, seen_is}
use Rattle.bind_resolve.proofs.scope.scope_from.Goals as goal

pub returns : goal.returns
returns c =
    seen_is (schema_of c.args.catalog.now) c.args.query.now.first _ _ _ _
    (all_gathered called_in _ _ _ _ c.loop-join-test.false refl c.loop-join.invariant.0)
    (all_gathered (λ zs. columns_seen (schema_of c.args.catalog.now) (c.loop-join.join-index + 1) (relations_in zs)) _ _ _ _ c.loop-join-test.false refl c.loop-join.invariant.1)
    c.as_slice-join-items.ensures
