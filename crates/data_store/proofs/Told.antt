-- The entries of index 0 as they are told.
use Rattle.std.specs.Prelude.{◌≡◌, ℕ, Option, None, Some}
use Rattle.std.specs.Option.{IfSome}
use mathlib.Core.Path.{◌∙◌}
use Rattle.iv_types.specs.Definitions.{Definitions}
use Rattle.iv_types.specs.Maps.{Map}
use Rattle.ghost_rows.specs.State.{State}
use Rattle.data_store.specs.Contents.{Contents, with_texts}
use Rattle.data_store.specs.Held.{IsHeld}

-- they stay so where they are the same
pub texts_stay : (told : Option Map) (old new : Map) → new ≡ old → IfSome told (λ entries. old ≡ entries) → IfSome told (λ entries. new ≡ entries)
texts_stay None old new same h = tt
texts_stay (Some entries) old new same h = same ∙ h

-- or need not be
pub untold_held : (ds : Definitions) (maps : ℕ → Map) (state : State) (c : Contents) → IsHeld ds maps state c → IsHeld ds maps state (with_texts None c)
untold_held ds maps state c h = record {
  objects = h.objects;
  tables = h.tables;
  views = h.views;
  in_range = h.in_range;
  pays = h.pays;
  ghosts = h.ghosts;
  texts = tt;
  unused = h.unused;
}

-- they may be told
pub told_held : (ds : Definitions) (maps : ℕ → Map) (state : State) (c : Contents) (entries : Map) → maps 0 ≡ entries → IsHeld ds maps state c → IsHeld ds maps state (with_texts (Some entries) c)
told_held ds maps state c entries are h = record {
  objects = h.objects;
  tables = h.tables;
  views = h.views;
  in_range = h.in_range;
  pays = h.pays;
  ghosts = h.ghosts;
  texts = are;
  unused = h.unused;
}
