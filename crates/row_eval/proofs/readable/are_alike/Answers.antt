use Rattle.iv_meaning.specs.Schema.{numbered, kinds_of_table}
use Rattle.iv_meaning.specs.Objects.{schema_of}
use Rattle.row_eval.proofs.Reading.{not_as_many}
use Rattle.row_eval.proofs.readable.are_alike.Goals as goal

pub returns-then-columns-places : goal.returns-then-columns-places
returns-then-columns-places c =
    not_as_many (kinds_of_table (numbered (schema_of c.args.catalog.now) c.args.one)) (kinds_of_table (numbered (schema_of c.args.catalog.now) c.args.other))
    c.args.columns.now c.args.places.now c.if-columns-places.true
