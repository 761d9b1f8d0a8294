use Rattle.std.proofs.Common.{ℕ, ◌≡◌, ◌<◌, get_or, false}
use Rattle.page_store.specs.Store.{page_bytes, stored_flags, change_marks, pages_in}
use Rattle.ordered_index.specs.Drawn.{Marked}
use Rattle.ordered_index.proofs.marking.clear_all.Given as goal

abbrev pub invariant-loop-n : goal.invariant-loop-n
invariant-loop-n l = record {
  bytes : page_bytes l.store ≡ page_bytes l.fn.store;
  count : pages_in l.store ≡ pages_in l.fn.store;
  flags : (p : ℕ) → p < l.n → get_or (stored_flags l.store) p false ≡ false;
  marks : Marked (change_marks l.store) l.n;
}
