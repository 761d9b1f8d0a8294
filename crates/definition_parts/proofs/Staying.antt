-- Texts stay where their entries do.
use Rattle.std.specs.Prelude.{◌≡◌, ℕ, List}
use mathlib.Core.Path.{◌∙◌}
use Rattle.iv_types.specs.Definitions.{Definitions}
use Rattle.iv_types.specs.Maps.{Map}
use Rattle.definition_parts.specs.Parts.{parts_map, HasTexts}

pub texts_now : (old new : Map) (ds : Definitions) (texts : List (List ℕ)) → HasTexts old ds texts → new ≡ parts_map texts → HasTexts new ds texts
texts_now old new ds texts h are = record { are = are; many = h.many; short = h.short; few = h.few }

pub same_texts : (old new : Map) (ds : Definitions) (texts : List (List ℕ)) → HasTexts old ds texts → new ≡ old → HasTexts new ds texts
same_texts old new ds texts h same = texts_now old new ds texts h (same ∙ h.are)
