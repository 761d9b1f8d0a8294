use Rattle.std.proofs.Common.{length, ap, sym, ◌∙◌, arith}
use Rattle.std.proofs.lemmas.List.{with_items_is, take_all}
use Rattle.log_records.proofs.writing.entry_bytes.Goals as goal

pub put_entry-requires-clause-room : goal.put_entry-requires-clause-room
put_entry-requires-clause-room c = omega (arith, c.entry_size.ensures.size, ap length c.deref_mut.ensures.value, c.in_ok-bytes.ensures.len)

pub returns : goal.returns
returns c =
    let size = c.entry_size.ensures.size in
    let now = c.put_entry.new.buffer in
    c.from_vec.ensures ∙ with_items_is c.in_ok-bytes.bytes now (omega (arith, ap length c.deref_mut.ensures.value, c.in_ok-bytes.ensures.len))
    ∙ sym (take_all c.put_entry.result now (omega (arith, ap length c.deref_mut.ensures.value, c.in_ok-bytes.ensures.len))) ∙ c.put_entry.ensures.filled.bytes
