use Rattle.std.proofs.Common.{List, sym, ap, ◌∙◌, subst, slice_get, is_le}
use Rattle.iv_types.specs.Maps.{Entry, entry_after}
use Rattle.table_store.specs.Lists.{IsPlace, Listed}
use Rattle.table_store.proofs.Maps.{by_bytes, entry_after_place}
use Rattle.table_store.proofs.entry_list.EntryList.first_after.Goals as goal

pub returns : goal.returns
returns c =
    let es = c.self.inside.entries.items in
    let key = c.args.key.now in
    let at = c.place_after.result in
    let place = subst (λ (l : List Entry). IsPlace (λ k. is_le (by_bytes k key)) l at) c.deref-2.ensures.value c.place_after.ensures in
    c.entry.ensures ∙ (ap (λ (l : List Entry). slice_get l at) c.deref.ensures.value
    ∙ (sym (entry_after_place es c.self.invariant.sorted key at place) ∙ ap (λ (l : Listed). entry_after l.map key) c.self.view_is))
