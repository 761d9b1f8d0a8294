use Rattle.std.proofs.Common.{refl}
use Rattle.iv_types.specs.Encoding.{key_value_bytes, columns_bytes}
use Rattle.row_codec.proofs.Formats.{one_spelling, never_both, one_fault}
use Rattle.row_codec.proofs.KeyFormat.{key_format}
use Rattle.row_codec.proofs.laws.key_law.Goals as goal

pub returns-clause-spelling : goal.returns-clause-spelling
returns-clause-spelling c = one_spelling key_format

pub returns-clause-apart : goal.returns-clause-apart
returns-clause-apart c kinds values number place fits bad = never_both key_format kinds values (columns_bytes key_value_bytes kinds values) number place fits refl bad

pub returns-clause-fault : goal.returns-clause-fault
returns-clause-fault c = one_fault key_format
