use Rattle.std.proofs.Common.{refl}
use Rattle.iv_types.specs.Encoding.{value_bytes, columns_bytes}
use Rattle.row_codec.proofs.Formats.{one_spelling, never_both, one_fault}
use Rattle.row_codec.proofs.RowFormat.{row_format}
use Rattle.row_codec.proofs.laws.row_law.Goals as goal

pub returns-clause-spelling : goal.returns-clause-spelling
returns-clause-spelling c = one_spelling row_format

pub returns-clause-apart : goal.returns-clause-apart
returns-clause-apart c kinds values number place fits bad = never_both row_format kinds values (columns_bytes value_bytes kinds values) number place fits refl bad

pub returns-clause-fault : goal.returns-clause-fault
returns-clause-fault c = one_fault row_format
