use Rattle.std.proofs.Common.{◌≡◌, ◌<◌, List, Some, length, arith, ap, ◌∙◌}
use Rattle.std.specs.Prelude.{slice_get}
use Rattle.iv_types.specs.declared.catalog.Definition.{Definition}
use Rattle.iv_types.specs.declared.catalog.Definition.TheVariants.{Index}
use Rattle.table_store.proofs.TableIndexes.{stands_at}
use Rattle.table_store.proofs.exchange.make_room.Goals as goal

pub returns-clause-secondary : goal.returns-clause-secondary
returns-clause-secondary g c = λ i index.
    let ds = c.args.catalog.now in
    let items = c.definitions-definition-items.result.now in
    let s = stands_at ds c.args.table.now i index in
    let same : items ≡ ds = c.definitions-definition-items.ensures in
    let there : slice_get items s.at ≡ Some (Index i) = ap (λ (l : List Definition). slice_get l s.at) same ∙ s.is in
    let long : length items ≡ length ds = ap length same in
    let below : s.at < c.loop-definition.definition-index = omega (arith, s.within, long, c.loop-definition-test.false) in
    c.loop-definition.invariant.secondary s.at below i there index.of_table
