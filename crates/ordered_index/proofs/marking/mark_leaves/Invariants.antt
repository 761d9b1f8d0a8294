use Rattle.std.proofs.Common.{◌≡◌}
use Rattle.page_store.specs.Store.{page_bytes, stored_flags, change_marks, pages_in}
use Rattle.ordered_index.specs.Row.{pages_of}
use Rattle.ordered_index.specs.Drawn.{Flagged, Marked}
use Rattle.ordered_index.proofs.marking.mark_leaves.Given as goal

abbrev pub invariant-loop-k : goal.invariant-loop-k
invariant-loop-k l = record {
  bytes : page_bytes l.store ≡ page_bytes l.fn.store;
  count : pages_in l.store ≡ pages_in l.fn.store;
  flags : Flagged (pages_of l.fn.store) l.order l.kept l.k (stored_flags l.store);
  marks : Marked (change_marks l.store) (pages_in l.fn.store);
}
