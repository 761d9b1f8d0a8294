use Rattle.std.proofs.Common.{◌≡◌, Some, sym, subst}
use Rattle.std.specs.FinMap.{get, empty}
use Rattle.table_laws.specs.Place.{Place}
use Rattle.iv_meaning.specs.Objects.{schema_of}
use Rattle.query_laws.specs.Limited.{IsLimited}
use Rattle.table_store.specs.Lists.{map_at}
use Rattle.txn_log.specs.Damaged.{EntryStands}
use Rattle.image_entries.specs.declared.stored.StoredEntry.{StoredEntry}
use Rattle.image_catalog.proofs.Making.{made_so}
use Rattle.image_store.specs.Filled.{IsFilled}
use Rattle.image_store.proofs.Putting.{empty_filled}
use Rattle.image_store.proofs.fill.fill_store.Goals as goal

pub filled-requires-clause-stand : goal.filled-requires-clause-stand
filled-requires-clause-stand c =
    subst (λ x. (p : Place) (s : StoredEntry) → get c.args.entries.entries p ≡ Some s → EntryStands (schema_of x.catalog) (p, s.value)) (sym c.with_catalog.ensures) c.requires.stand

pub filled-requires-clause-empty : goal.filled-requires-clause-empty
filled-requires-clause-empty c =
    subst (λ x. IsFilled empty x.catalog (map_at x.tables) x.views) (sym c.with_catalog.ensures)
    (empty_filled c.args.catalog (map_at c.in-Ok.store.tables) c.in-Ok.store.views c.in-Ok.ensures.maps c.in-Ok.ensures.rows (made_so (schema_of c.args.catalog) c.requires.made).sound)

pub filled-requires-clause-limited : goal.filled-requires-clause-limited
filled-requires-clause-limited c =
    subst (λ x. IsLimited (schema_of x.catalog)) (sym c.with_catalog.ensures) (made_so (schema_of c.args.catalog) c.requires.made).limited
