use Rattle.std.proofs.Common.{◌≡◌, ◌∷◌, [], length, sym, arith}
use Rattle.table_store.specs.Stored.{key_at}
use Rattle.table_store.proofs.LengthLemmas.{no_place, this_place, place_short}
use Rattle.table_store.proofs.lengths.place_len.Goals as goal

pub returns-in-Some-clause-len : goal.returns-in-Some-clause-len
returns-in-Some-clause-len c =
    this_place c.args.table.now c.args.place c.args.row.now c.in-Some.kind c.value_len_at.result (sym c.in-Some.ensures) (record { here = c.value_len_at.ensures.here; none = c.value_len_at.ensures.none })

pub returns-in-Some-clause-most : goal.returns-in-Some-clause-most
returns-in-Some-clause-most c =
    let is : c.value_len_at.result ≡ length (key_at c.args.table.now (c.args.place ∷ []) c.args.row.now) =
    this_place c.args.table.now c.args.place c.args.row.now c.in-Some.kind c.value_len_at.result (sym c.in-Some.ensures) (record { here = c.value_len_at.ensures.here; none = c.value_len_at.ensures.none }) in
    omega (arith, is, place_short c.args.table.now c.args.place c.args.row.now c.requires)

pub returns-in-None-clause-len : goal.returns-in-None-clause-len
returns-in-None-clause-len c = sym (no_place c.args.table.now c.args.place c.args.row.now (sym c.in-None.ensures))
