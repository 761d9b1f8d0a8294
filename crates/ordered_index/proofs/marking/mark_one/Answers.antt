use Rattle.std.proofs.Common.{ℕ, ◌≡◌, ◌∙◌, List, [], Bool, false, get_or, sym, ap, subst}
use Rattle.std.proofs.lemmas.List.{get_or-set_same}
use Rattle.slot_page.specs.Page.{IsPage, index_of}
use Rattle.slot_page.proofs.Pages.{page_size}
use Rattle.ordered_index.specs.Row.{pages_of}
use Rattle.ordered_index.proofs.StorePages.{page_at}
use Rattle.ordered_index.proofs.marking.mark_one.Goals as goal

pub index-of-requires : goal.index-of-requires
index-of-requires c = page_size _ (subst IsPage (page_at c.args.store.now c.args.p c.requires.inside ∙ sym c.page.ensures) c.requires.held)

pub returns-clause-here : goal.returns-clause-here
returns-clause-here c =
    let of : c.index-of.result ≡ index_of (get_or (pages_of c.args.store.now) c.args.p []) = c.index-of.ensures ∙ ap index_of (c.page.ensures ∙ sym (page_at c.args.store.now c.args.p c.requires.inside)) in
    ap (λ (flags : List Bool). get_or flags c.args.p false) c.set_stored.ensures.stored ∙ get_or-set_same _ c.args.p _ false c.requires.inside
    ∙ c.is_kept.ensures ∙ ap (λ (i : ℕ). get_or c.args.kept.now i false) of
