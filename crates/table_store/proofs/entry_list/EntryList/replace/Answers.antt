use Rattle.std.proofs.Common.{List, ℕ, Some, T, IsSome, length, ap, ◌∙◌, sym, subst, set, length-set, arith}
use Rattle.std.specs.FinMap as map
use Rattle.std.specs.FinMap.{is_sorted}
use Rattle.iv_types.specs.Maps.{Entry}
use Rattle.table_store.specs.Lists.{Listed}
use Rattle.table_store.proofs.KeptLists.{IsSmall, small_set, kept_most}
use Rattle.table_store.proofs.Maps.{by_bytes, made, IsPlaceOf, within, replaced, get_present, key_here}
use Rattle.table_store.proofs.entry_list.EntryList.replace.Goals as goal

pub index_mut-requires : goal.index_mut-requires
index_mut-requires c =
    let es = c.self.inside.entries.items in
    let at = c.place_at-at.result in
    let key = c.args.key.now in
    let place = subst (λ (l : List Entry). IsPlaceOf key l at) c.deref.ensures.value c.place_at-at.ensures in
    let some = subst (λ (l : Listed). IsSome (map.get l.map key)) (sym c.self.view_is) c.requires.there in
    omega (arith, within es c.self.invariant.sorted key at place some, c.deref.ensures.len, ap length c.deref.ensures.value)

pub invariant_of-self : goal.invariant_of-self
invariant_of-self c =
    let es = c.self.inside.entries.items in
    let at = c.place_at-at.result in
    let key = c.args.key.now in
    let place = subst (λ (l : List Entry). IsPlaceOf key l at) c.deref.ensures.value c.place_at-at.ensures in
    let some = subst (λ (l : Listed). IsSome (map.get l.map key)) (sym c.self.view_is) c.requires.there in
    let old = c.index_mut.result.now in
    let value = c.replace.new.dest in
    record {
      sorted = subst (λ (x : Entry). T (is_sorted by_bytes (set es at (x.0, value)))) (sym c.index_mut.ensures.value) (replaced es c.self.invariant.sorted key at place some value old).0;
      sizes = small_set es at (old.0, value) (subst (λ (k : List ℕ). IsSmall (k, value)) (sym (ap (λ (e : Entry). e.0) c.index_mut.ensures.value ∙ key_here es c.self.invariant.sorted key at place some old))
          (subst (λ (v : List ℕ). IsSmall (key, v)) (sym c.replace.ensures.after) c.requires.size)) c.self.invariant.sizes;
    }

pub returns-clause-entry : goal.returns-clause-entry
returns-clause-entry c =
    let es = c.self.inside.entries.items in
    let at = c.place_at-at.result in
    let key = c.args.key.now in
    let place = subst (λ (l : List Entry). IsPlaceOf key l at) c.deref.ensures.value c.place_at-at.ensures in
    let some = subst (λ (l : Listed). IsSome (map.get l.map key)) (sym c.self.view_is) c.requires.there in
    let old = c.index_mut.result.now in
    let value = c.args.value in
    ap (λ (v : List ℕ). made (set es at (old.0, v))) c.replace.ensures.after
    ∙ (ap (λ (x : Entry). made (set es at (x.0, value))) c.index_mut.ensures.value
    ∙ ((replaced es c.self.invariant.sorted key at place some value old).1 ∙ ap (λ (l : Listed). map.insert l.map key value) c.self.view_is))

pub returns-clause-most : goal.returns-clause-most
returns-clause-most c =
    let es = c.self.inside.entries.items in
    let at = c.place_at-at.result in
    let key = c.args.key.now in
    let place = subst (λ (l : List Entry). IsPlaceOf key l at) c.deref.ensures.value c.place_at-at.ensures in
    let some = subst (λ (l : Listed). IsSome (map.get l.map key)) (sym c.self.view_is) c.requires.there in
    let old = c.index_mut.result.now in
    let value = c.replace.new.dest in
    kept_most (set es at (old.0, value)) (record {
      sorted = subst (λ (x : Entry). T (is_sorted by_bytes (set es at (x.0, value)))) (sym c.index_mut.ensures.value) (replaced es c.self.invariant.sorted key at place some value old).0;
      sizes = small_set es at (old.0, value) (subst (λ (k : List ℕ). IsSmall (k, value)) (sym (ap (λ (e : Entry). e.0) c.index_mut.ensures.value ∙ key_here es c.self.invariant.sorted key at place some old))
          (subst (λ (v : List ℕ). IsSmall (key, v)) (sym c.replace.ensures.after) c.requires.size)) c.self.invariant.sizes;
    })
    (omega (arith, length-set es at (old.0, value), ap length c.deref.ensures.value, c.deref.ensures.len, c.len-count.ensures, c.len-count.type_inv))

pub returns-clause-was : goal.returns-clause-was
returns-clause-was c =
    let es = c.self.inside.entries.items in
    let at = c.place_at-at.result in
    let key = c.args.key.now in
    let place = subst (λ (l : List Entry). IsPlaceOf key l at) c.deref.ensures.value c.place_at-at.ensures in
    let some = subst (λ (l : Listed). IsSome (map.get l.map key)) (sym c.self.view_is) c.requires.there in
    let old = c.index_mut.result.now in
    sym (ap (λ (l : Listed). map.get l.map key) c.self.view_is)
    ∙ (get_present es c.self.invariant.sorted key at place some old ∙ (ap (λ (e : Entry). Some e.1) (sym c.index_mut.ensures.value) ∙ ap Some (sym c.replace.ensures.value)))
