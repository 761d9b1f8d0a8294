use Rattle.std.proofs.Common.{List, length, ◌≡◌, T, None, ap, ◌∙◌, sym, subst, arith}
use Rattle.std.specs.List.{All}
use Rattle.std.proofs.lemmas.List.Edits.{length-insert}
use Rattle.std.specs.FinMap as map
use Rattle.std.specs.FinMap.{is_sorted}
use Rattle.iv_types.specs.Maps.{Entry}
use Rattle.table_store.specs.Lists.{Listed}
use Rattle.table_store.proofs.Maps.{by_bytes, made, IsPlaceOf, inserted}
use Rattle.table_store.proofs.KeptLists.{IsSmall, small_inserted, kept_most}
use Rattle.table_store.proofs.Places.{place_within}
use Rattle.table_store.proofs.entry_list.EntryList.insert.Goals as goal

pub insert-requires : goal.insert-requires
insert-requires c = omega (arith, place_within _ c.deref.result.now c.place_at-at.result c.place_at-at.ensures, c.deref.ensures.len)

pub invariant_of-self : goal.invariant_of-self
invariant_of-self c =
    let es = c.self.inside.entries.items in
    let at = c.place_at-at.result in
    let place : IsPlaceOf c.args.key es at = rw (c.as_slice.ensures, c.deref.ensures.value) at c.place_at-at.ensures in
    let absent : map.get (made es) c.args.key ≡ None = ap (λ (l : Listed). map.get l.map c.args.key) c.self.view_is ∙ c.requires.absent in
    let both = inserted es c.self.invariant.sorted c.args.key at place absent c.args.value in
    record {
      sorted = subst (λ (l : List Entry). T (is_sorted by_bytes l)) (sym c.in-Ok.ensures.items) both.0;
      sizes = subst (λ (l : List Entry). All IsSmall l) (sym c.in-Ok.ensures.items) (small_inserted (c.args.key, c.args.value) es at c.requires.size c.self.invariant.sizes);
    }

pub returns-clause-entry : goal.returns-clause-entry
returns-clause-entry c =
    let es = c.self.inside.entries.items in
    let at = c.place_at-at.result in
    let place : IsPlaceOf c.args.key es at = rw (c.as_slice.ensures, c.deref.ensures.value) at c.place_at-at.ensures in
    let absent : map.get (made es) c.args.key ≡ None = ap (λ (l : Listed). map.get l.map c.args.key) c.self.view_is ∙ c.requires.absent in
    let both = inserted es c.self.invariant.sorted c.args.key at place absent c.args.value in
    ap made c.in-Ok.ensures.items ∙ (both.1 ∙ ap (λ (l : Listed). map.insert l.map c.args.key c.args.value) c.self.view_is)

pub returns-clause-most : goal.returns-clause-most
returns-clause-most c =
    let es = c.self.inside.entries.items in
    let at = c.place_at-at.result in
    let place : IsPlaceOf c.args.key es at = rw (c.as_slice.ensures, c.deref.ensures.value) at c.place_at-at.ensures in
    let absent : map.get (made es) c.args.key ≡ None = ap (λ (l : Listed). map.get l.map c.args.key) c.self.view_is ∙ c.requires.absent in
    let both = inserted es c.self.invariant.sorted c.args.key at place absent c.args.value in
    kept_most c.insert.new.self.items (record {
      sorted = subst (λ (l : List Entry). T (is_sorted by_bytes l)) (sym c.in-Ok.ensures.items) both.0;
      sizes = subst (λ (l : List Entry). All IsSmall l) (sym c.in-Ok.ensures.items) (small_inserted (c.args.key, c.args.value) es at c.requires.size c.self.invariant.sizes);
    })
    (omega (arith, ap length c.in-Ok.ensures.items, length-insert es at (c.args.key, c.args.value) (place_within _ es at place), ap length c.deref.ensures.value, c.deref.ensures.len, c.len-count.ensures, c.len-count.type_inv))
