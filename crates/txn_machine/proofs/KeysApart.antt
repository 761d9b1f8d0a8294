-- Values that fit are told by their keys.
use Rattle.row_codec.proofs.Formats.{one_spelling}
use Rattle.row_codec.proofs.KeyFormat.{key_format}
use Rattle.txn_machine.specs.Laws.{KeysTell}

pub keys_tell : KeysTell
keys_tell = one_spelling key_format
