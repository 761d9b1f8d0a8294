use Rattle.std.proofs.Common.{List, Some, T, IsSome, length, ap, ◌∙◌, sym, subst, arith}
use Rattle.std.specs.List.{All}
use Rattle.std.proofs.lemmas.List.Edits.{length-remove}
use Rattle.std.specs.FinMap as map
use Rattle.std.specs.FinMap.{is_sorted}
use Rattle.iv_types.specs.Maps.{Entry}
use Rattle.table_store.specs.Lists.{Listed}
use Rattle.table_store.proofs.KeptLists.{IsSmall, small_removed, kept_most}
use Rattle.table_store.proofs.Maps.{by_bytes, made, IsPlaceOf, within, removed, get_present}
use Rattle.table_store.proofs.entry_list.EntryList.remove.Goals as goal

pub remove-value-requires : goal.remove-value-requires
remove-value-requires c =
    let es = c.self.inside.entries.items in
    let at = c.place_at-at.result in
    let key = c.args.key.now in
    let place = subst (λ (l : List Entry). IsPlaceOf key l at) c.deref.ensures.value c.place_at-at.ensures in
    let some = subst (λ (l : Listed). IsSome (map.get l.map key)) (sym c.self.view_is) c.requires in
    omega (arith, within es c.self.invariant.sorted key at place some, c.deref.ensures.len, ap length c.deref.ensures.value)

pub invariant_of-self : goal.invariant_of-self
invariant_of-self c =
    let es = c.self.inside.entries.items in
    let at = c.place_at-at.result in
    let key = c.args.key.now in
    let place = subst (λ (l : List Entry). IsPlaceOf key l at) c.deref.ensures.value c.place_at-at.ensures in
    let some = subst (λ (l : Listed). IsSome (map.get l.map key)) (sym c.self.view_is) c.requires in
    record {
      sorted = subst (λ (l : List Entry). T (is_sorted by_bytes l)) (sym c.remove-value.ensures.items) (removed es c.self.invariant.sorted key at place some).0;
      sizes = subst (λ (l : List Entry). All IsSmall l) (sym c.remove-value.ensures.items) (small_removed es at c.self.invariant.sizes);
    }

pub returns-clause-entry : goal.returns-clause-entry
returns-clause-entry c =
    let es = c.self.inside.entries.items in
    let at = c.place_at-at.result in
    let key = c.args.key.now in
    let place = subst (λ (l : List Entry). IsPlaceOf key l at) c.deref.ensures.value c.place_at-at.ensures in
    let some = subst (λ (l : Listed). IsSome (map.get l.map key)) (sym c.self.view_is) c.requires in
    ap made c.remove-value.ensures.items ∙ ((removed es c.self.invariant.sorted key at place some).1 ∙ ap (λ (l : Listed). map.remove l.map key) c.self.view_is)

pub returns-clause-most : goal.returns-clause-most
returns-clause-most c =
    let es = c.self.inside.entries.items in
    let at = c.place_at-at.result in
    let key = c.args.key.now in
    let place = subst (λ (l : List Entry). IsPlaceOf key l at) c.deref.ensures.value c.place_at-at.ensures in
    let some = subst (λ (l : Listed). IsSome (map.get l.map key)) (sym c.self.view_is) c.requires in
    kept_most c.remove-value.new.self.items (record {
      sorted = subst (λ (l : List Entry). T (is_sorted by_bytes l)) (sym c.remove-value.ensures.items) (removed es c.self.invariant.sorted key at place some).0;
      sizes = subst (λ (l : List Entry). All IsSmall l) (sym c.remove-value.ensures.items) (small_removed es at c.self.invariant.sizes);
    })
    (omega (arith, ap length c.remove-value.ensures.items, length-remove es at (within es c.self.invariant.sorted key at place some), ap length c.deref.ensures.value, c.deref.ensures.len, c.len-count.ensures, c.len-count.type_inv))

pub returns-clause-was : goal.returns-clause-was
returns-clause-was c =
    let es = c.self.inside.entries.items in
    let at = c.place_at-at.result in
    let key = c.args.key.now in
    let place = subst (λ (l : List Entry). IsPlaceOf key l at) c.deref.ensures.value c.place_at-at.ensures in
    let some = subst (λ (l : Listed). IsSome (map.get l.map key)) (sym c.self.view_is) c.requires in
    sym (ap (λ (l : Listed). map.get l.map key) c.self.view_is) ∙ (get_present es c.self.invariant.sorted key at place some c.remove-value.result ∙ ap (λ (e : Entry). Some e.1) (sym c.remove-value.ensures.value))
