-- Views of one table.
use Rattle.std.specs.Prelude.{◌≡◌, false, Option, Some, None, is_some}
use mathlib.Core.Path.{refl, sym}
use Rattle.std.proofs.lemmas.Bool.{true≢false}
use Rattle.iv_meaning.specs.Schema.{ViewTree}

abbrev pub with_none : ViewTree → ViewTree
with_none v = record v { second = None }

pub is_alone : (v : ViewTree) → v.second ≡ None → v ≡ with_none v
is_alone v e = λ i. record v { second = e i }

pub no_second : {X : Type 0} (o : Option X) → false ≡ is_some o → o ≡ None
no_second None e = refl
no_second (Some x) e = absurd (true≢false (sym e))
