use Rattle.std.proofs.Common.{◌≡◌, ℕ, ◌+◌, ◌<◌, false, get_or, length}
use Rattle.iv_types.specs.Maps.{last_index}
use Rattle.log_journal.specs.Saved.{is_saved}
use Rattle.log_journal.proofs.marking.mark_saved.Given as goal

-- the indexes so far are marked, and nothing else has changed
abbrev pub invariant-loop-index : goal.invariant-loop-index
invariant-loop-index l = record {
  many : 0 < l.index → length l.maps.kept ≡ last_index + 1;
  marked : (index : ℕ) → index < l.index → get_or l.maps.kept index false ≡ is_saved l.catalog index;
  same : l.maps ≡ record l.initial.maps { kept = l.maps.kept };
}
