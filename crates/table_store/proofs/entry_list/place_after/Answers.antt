use Rattle.std.proofs.Common.{rules}
use Rattle.std.proofs.lemmas.List.Sorted.{IsPartitionPoint-from_clause}
use Rattle.std.specs.Cmp.Lexicographic.{slice_cmp, nat_list_cmp_total}
use Rattle.std.specs.Ordering.{nat_cmp, is_le}
use Rattle.table_store.proofs.Places.{place_from, parted_le}
use Rattle.table_store.proofs.Maps.{bytes_same}
use Rattle.table_store.proofs.entry_list.place_after.Goals as goal

pub returns : goal.returns
returns c =
    let facts = c.partition_point.ensures in
    let key = c.args.key.now in
    place_from (λ k. is_le (slice_cmp nat_cmp k key)) c.args.entries.now c.partition_point.result facts.bound
    (IsPartitionPoint-from_clause (λ e. is_le (slice_cmp nat_cmp e.0 key)) c.args.entries.now c.partition_point.result facts.partitioned
    (parted_le nat_list_cmp_total bytes_same key c.args.entries.now c.requires) (λ a r g called. search rules))
