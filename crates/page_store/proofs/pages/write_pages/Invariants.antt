use Rattle.std.proofs.Common.{◌≡◌, ◌+◌, ◌≤◌, ◌<◌, ℕ, List, length, get_or}
use Rattle.page_store.specs.Image.{slot_at, named}
use Rattle.page_store.specs.Publish.{page_if}
use Rattle.page_store.specs.Kept.{IsOld, Guards, KeepsOld, Beside, LowMap, TracksMap}
use Rattle.page_store.proofs.pages.write_pages.Given as goal

abbrev pub invariant-loop-p : goal.invariant-loop-p
invariant-loop-p g l = record {
  done : g.D.Disk.is_told → LowMap (length l.stored) l.fn.header → TracksMap l.room l.stored l.changed l.bytes l.fn.header (g.D.Disk.seen l.fn.disk) → (q : ℕ) → q < l.p → (get_or l.header (64 + q) 0 ≤ 2) × (named l.room q (get_or l.header (64 + q) 0) (g.D.Disk.seen l.disk) ≡ page_if l.stored l.bytes q);
  same : g.D.Disk.is_told → LowMap (length l.stored) l.fn.header → (q : ℕ) → q < l.p → named l.room q (get_or l.fn.header (64 + q) 0) (g.D.Disk.seen l.fn.disk) ≡ page_if l.stored l.bytes q → get_or l.header (64 + q) 0 ≡ get_or l.fn.header (64 + q) 0;
  rest : (q : ℕ) → l.p ≤ q → get_or l.header (64 + q) 0 ≡ get_or l.fn.header (64 + q) 0;
  ahead : g.D.Disk.is_told → (i : ℕ) → slot_at l.room l.p 0 ≤ i → get_or (g.D.Disk.seen l.disk) i 0 ≡ get_or (g.D.Disk.seen l.fn.disk) i 0;
  slot : length l.slot ≡ 8192;
  size : g.D.Disk.size_of l.disk ≡ g.D.Disk.size_of l.fn.disk;
  old : g.D.Disk.is_told → (k : ℕ) → (s : List ℕ) → Beside l.room (length l.stored) k l.fn.header s → IsOld l.room (length l.stored) k s (g.D.Disk.seen l.fn.disk) → IsOld l.room (length l.stored) k s (g.D.Disk.seen l.disk);
  crash : (k : ℕ) → (s : List ℕ) → Beside l.room (length l.stored) k l.fn.header s → Guards g.D.Disk.may_leave l.room (length l.stored) k s l.fn.disk
      → KeepsOld g.D.Disk.moment g.D.Disk.left_since g.D.Disk.may_leave l.room (length l.stored) k s l.fn.disk l.disk;
  faults : g.D.Disk.faults l.disk ≡ g.D.Disk.faults l.fn.disk;
}
