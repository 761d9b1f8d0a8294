-- Which indexes are stored is no matter of what the maps have.
use Rattle.std.proofs.Common.{◌≡◌, ◌+◌, ◌-◌, ◌^◌, Bool, List, length, refl, ◌∙◌, ap}
use Rattle.std.specs.FinMap.{entries}
use Rattle.ordered_index.specs.Tree.{Tree, map_of, spare_of, limit_of, data_limit}

marked_maps : (t : Tree) (kept : List Bool) → map_of (record t { kept = kept }) ≡ map_of t
unfolding map_of
marked_maps t kept = refl

module _ (t u : Tree) (same : u ≡ record t { kept = u.kept }) where
  pub same_maps : map_of u ≡ map_of t
  same_maps = ap map_of same ∙ marked_maps t u.kept

  pub same_limit : limit_of u ≡ limit_of t
  same_limit = ap limit_of same

  pub same_spare : spare_of u ≡ spare_of t
  same_spare = ap spare_of same ∙ (λ i index. 2 ^ 32 - 1 + (data_limit t.pages - length (entries (marked_maps t u.kept i index))))
