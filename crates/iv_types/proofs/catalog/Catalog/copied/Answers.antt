use Rattle.std.proofs.Common.{◌≡◌, ◌+◌, ◌++◌, ◌∷◌, [], suc, length, slice_get, take, Some, sym, subst, refl, ◌∙◌, arith}
use Rattle.std.proofs.lemmas.List.{take_all}
use Rattle.std.proofs.lemmas.Option.{slice_get_read}
use Rattle.iv_types.specs.Definitions.{AreNumbered, AreNamed, AreFew, AreCopies}
use Rattle.iv_types.proofs.Copies.{can_add_copy, copies_more}
use Rattle.iv_types.proofs.catalog.Catalog.copied.Goals as goal

pub add-requires : goal.add-requires
add-requires c =
    let ds = c.definitions-definition-items.result.now in
    let is = c.definitions-definition-items.ensures in
    let at : slice_get ds c.loop-definition.definition-index ≡ Some c.definition-item.result = slice_get_read ds (length ds) c.loop-definition.definition-index c.definition-item.result refl c.loop-definition-test.true c.definition-item.is in
    can_add_copy ds c.loop-definition.definition-index c.definition-item.result c.in_ok-copied.field-0 c.loop-definition.copy
    (subst AreNumbered (sym is) c.number_law.ensures) (subst AreNamed (sym is) c.name_law.ensures) (subst AreFew (sym is) c.few_law.ensures.few)
    at c.loop-definition.invariant c.in_ok-copied.ensures

pub loop-definition-preserved : goal.loop-definition-preserved
loop-definition-preserved c =
    let ds = c.definitions-definition-items.result.now in
    let at : slice_get ds c.loop-definition.definition-index ≡ Some c.definition-item.result = slice_get_read ds (length ds) c.loop-definition.definition-index c.definition-item.result refl c.loop-definition-test.true c.definition-item.is in
    let more : AreCopies (c.loop-definition.copy ++ c.in_ok-copied.field-0 ∷ []) (take (suc c.loop-definition.definition-index) ds) =
    copies_more ds c.loop-definition.definition-index c.definition-item.result c.in_ok-copied.field-0 c.loop-definition.copy at c.loop-definition.invariant c.in_ok-copied.ensures in
    let next : suc c.loop-definition.definition-index ≡ c.loop-definition.definition-index + 1 = omega arith in
    subst (λ cs. AreCopies cs (take (c.loop-definition.definition-index + 1) ds)) (sym c.in_ok-add.ensures.ok) (subst (λ n. AreCopies (c.loop-definition.copy ++ c.in_ok-copied.field-0 ∷ []) (take n ds)) next more)

pub returns : goal.returns
returns c =
    let ds = c.definitions-definition-items.result.now in
    subst (AreCopies c.loop-definition.copy) (take_all c.loop-definition.definition-index ds c.loop-definition-test.false ∙ c.definitions-definition-items.ensures) c.loop-definition.invariant
