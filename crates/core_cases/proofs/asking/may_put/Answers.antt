use Rattle.std.proofs.Common.{rules, ◌≡◌, Some, subst}
use Rattle.std.specs.FinMap.{get}
use Rattle.iv_types.specs.declared.catalog.Definition.TheVariants.{Table}
use Rattle.iv_types.specs.Definitions as definitions
use Rattle.data_store.specs.Contents.{contents_of}
use Rattle.core_cases.proofs.Asked.{on_ok, puts, table_there}
use Rattle.core_cases.proofs.asking.may_put.Goals as goal

pub row-requires-after_bounds : goal.row-requires-after_bounds
row-requires-after_bounds c κs =
    let s = c.requires.0 in
    let h = c.requires.1 in
    let there : definitions.numbered c.args.core.now.store.catalog c.args.number ≡ Some (Table c.in-Some-Table.table) = search rules in
    (contents_of s.store, h.holds.stored, (c.in-Some-Table.table, table_there c.args.core.now s c.args.number c.in-Some-Table.table h there))

pub returns : goal.returns
returns c = on_ok c.differ.result _ _ (λ differ s h.
    let there : definitions.numbered c.args.core.now.store.catalog c.args.number ≡ Some (Table c.in-Some-Table.table) = search rules in
    puts c.args.core.now s c.args.number c.in-Some-Table.table c.args.key.now c.args.new.now c.in_ok-before.before h there c.in_ok-fits_under.ensures (subst (λ k. get s.store.rows (c.args.number, k) ≡ c.in_ok-before.before) c.as_slice.ensures (c.in_ok-before.ensures (contents_of s.store) h.holds.stored)) differ) c.differ.ensures
