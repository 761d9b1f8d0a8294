use Rattle.std.proofs.Common.{ℕ, List, [], length, get_or, sym, subst}
use Rattle.page_store.specs.Store.{stored_flags}
use Rattle.slot_page.specs.Page.{IsPage}
use Rattle.ordered_index.specs.Drawn.{Flagged}
use Rattle.ordered_index.proofs.StorePages.{same_pages}
use Rattle.ordered_index.proofs.marking.mark_stored.Goals as goal

pub mark_leaves-requires-clause-held : goal.mark_leaves-requires-clause-held
mark_leaves-requires-clause-held c = λ k lt.
    subst (λ (pages : List (List ℕ)). IsPage (get_or pages (get_or c.args.order.now k 0) [])) (sym (same_pages c.args.store.now c.clear_all.new.store c.clear_all.ensures.bytes c.clear_all.ensures.count)) (c.requires.held k lt)

pub returns-clause-flags : goal.returns-clause-flags
returns-clause-flags c =
    subst (λ (pages : List (List ℕ)). Flagged pages c.args.order.now c.args.kept.now (length c.args.order.now) (stored_flags c.mark_leaves.new.store)) (same_pages c.args.store.now c.clear_all.new.store c.clear_all.ensures.bytes c.clear_all.ensures.count) c.mark_leaves.ensures.flags
