use Rattle.std.proofs.lemmas.Result.{IfOk-weaker}
use Rattle.record_reading.proofs.Completing.{fits_completed, key_completed}
use Rattle.record_reading.proofs.key.is_completed.Goals as goal

pub is_key_of-requires : goal.is_key_of-requires
is_key_of-requires c =
    fits_completed c.args.table.now c.args.kinds.now c.as_slice.result.now c.args.values.now c.in_ok-row.row c.requires.kinds c.as_slice.ensures c.requires.fit c.in_ok-row.ensures

pub returns : goal.returns
returns c =
    IfOk-weaker c.is_key_of.result _ _ (λ b h.
    key_completed c.args.table.now c.args.kinds.now c.as_slice.result.now c.args.values.now c.in_ok-row.row c.requires.kinds c.as_slice.ensures c.requires.fit c.in_ok-row.ensures
    c.args.key.now c.requires.key b h) c.is_key_of.ensures
