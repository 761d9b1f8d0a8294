-- Groups of views, and deltas that fit them.
use Rattle.std.proofs.Common.{◌≡◌, ℕ, ℤ, List, length, Option, Some, None, sym, subst, ◌∙◌}
use Rattle.std.specs.Prelude.{IfSome}
use Rattle.iv_types.specs.declared.lock.GroupDelta.{GroupDelta}
use Rattle.iv_meaning.specs.Schema.{Schema, ViewTree, view, numbered, group_kinds}
use Rattle.txn_log.specs.Replay.{Added}
use Rattle.txn_log.specs.Fitting.{IsKnown}
use Rattle.record_reading.specs.Groups.{IsKeyIn, IsGroupOf, delta}

group_of : (objects : Schema) (n : ℕ) (key : List ℕ) (v : ViewTree) → numbered objects n ≡ Some (view v) → (sums : ℕ) → IsKeyIn (group_kinds objects v) key × (sums ≡ length v.sums) → IsGroupOf objects (n, key) sums
group_of objects n key v is sums h = (record { of = v; view_is = is; group = h.0.values; fits = h.0.fits; key = h.0.is }, h.1)

pub known : (objects : Schema) (n : ℕ) (group : List ℕ) (count : ℤ) (sums : List ℤ) (many : ℕ) → IsGroupOf objects (n, group) many → many ≡ length sums
    → (d : GroupDelta) → d ≡ delta n group count sums → (d ≡ delta n group count sums) × IsKnown objects (Added d)
known objects n group count sums many g same d is =
    (is, subst (λ (x : GroupDelta). IsKnown objects (Added x)) (sym is) (g.0, sym same ∙ g.1))

pub groups_of : (objects : Schema) (n : ℕ) (key : List ℕ) (v : ViewTree) → numbered objects n ≡ Some (view v) → (found : Option ℕ)
    → IfSome found (λ sums. IsKeyIn (group_kinds objects v) key × (sums ≡ length v.sums)) → IfSome found (λ sums. IsGroupOf objects (n, key) sums)
groups_of objects n key v is None h = tt
groups_of objects n key v is (Some sums) h = group_of objects n key v is sums h
