use Rattle.std.proofs.Common.{◌≡◌, ◌≢◌, ◌-◌, ◌≤◌, ℕ, length}
use Rattle.image_entries.specs.Parts.{parts_found}
use Rattle.image_catalog.proofs.Putting.{IsPut}
use Rattle.image_catalog.proofs.storing.put_texts.Given as goal

abbrev pub invariant-loop-at : goal.invariant-loop-at
invariant-loop-at g l = record {
  put : IsPut (parts_found l.parts) l.at l.number (g.M.SortedMaps.maps l.maps 0);
  within : l.at ≤ length l.parts;
  others : (i : ℕ) → i ≢ 0 → g.M.SortedMaps.maps l.maps i ≡ g.M.SortedMaps.maps l.fn.maps i;
  other_rooms : (i : ℕ) → i ≢ 0 → g.M.SortedMaps.spare l.fn.maps i ≤ g.M.SortedMaps.spare l.maps i;
  limit : g.M.SortedMaps.limit l.maps ≡ g.M.SortedMaps.limit l.fn.maps;
}

abbrev pub decreases-loop-at : goal.decreases-loop-at
decreases-loop-at g l = length l.parts - l.at
