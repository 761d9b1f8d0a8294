use Rattle.std.proofs.Common.{◌≡◌, ◌++◌}
use Rattle.std.specs.List.{between}
use Rattle.slot_page.specs.Bytes.{Shows}
use Rattle.slot_page.specs.Page.{IsPage, entries, heap, index_of}
use Rattle.slot_page.proofs.append_from.Given as goal

abbrev pub invariant-loop-i : goal.invariant-loop-i
invariant-loop-i l = record {
  page : IsPage l.page;
  grown : entries l.page ≡ entries l.fn.page ++ between l.from l.i (entries l.other);
  same : index_of l.page ≡ index_of l.fn.page;
  ahead : Shows l.page l.at (heap (between l.from l.to (entries l.other)));
}
