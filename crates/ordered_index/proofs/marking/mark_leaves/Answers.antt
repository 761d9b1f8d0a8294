use Rattle.std.proofs.Common.{ℕ, ◌≡◌, ◌≢◌, ◌+◌, ◌∙◌, List, [], Bool, false, get_or, sym, ap, subst, arith}
use Rattle.page_store.specs.declared.store.PageStore.{PageStore}
use Rattle.page_store.specs.Store.{stored_flags, pages_in}
use Rattle.slot_page.specs.Page.{IsPage, index_of}
use Rattle.ordered_index.specs.Row.{pages_of}
use Rattle.ordered_index.specs.Drawn.{Flagged}
use Rattle.ordered_index.proofs.StorePages.{same_pages}
use Rattle.ordered_index.proofs.Marks.{flagged_next}
use Rattle.ordered_index.proofs.marking.mark_leaves.Goals as goal

pub mark_one-requires-clause-inside : goal.mark_one-requires-clause-inside
mark_one-requires-clause-inside c = omega (arith, c.requires.inside c.loop-k.k (omega arith), c.loop-k.invariant.count)

pub mark_one-requires-clause-held : goal.mark_one-requires-clause-held
mark_one-requires-clause-held c =
    let v = c.loop-k.invariant in
    subst (λ (pages : List (List ℕ)). IsPage (get_or pages (get_or c.args.order.now c.loop-k.k 0) [])) (sym (same_pages c.args.store.now c.loop-k.store v.bytes v.count)) (c.requires.held c.loop-k.k (omega arith))

next : (s t : PageStore) (order : List ℕ) (kept flags new : List Bool) (k : ℕ) → pages_of t ≡ pages_of s → Flagged (pages_of s) order kept k flags → get_or new (get_or order k 0) false ≡ get_or kept (index_of (get_or (pages_of t) (get_or order k 0) [])) false
    → ((q : ℕ) → q ≢ get_or order k 0 → get_or new q false ≡ get_or flags q false) → Flagged (pages_of s) order kept (k + 1) new
next s t order kept flags new k e f h o = flagged_next (pages_of s) order kept k flags new f (h ∙ ap (λ (pages : List (List ℕ)). get_or kept (index_of (get_or pages (get_or order k 0) [])) false) e) o

pub loop-k-preserved : goal.loop-k-preserved
loop-k-preserved c =
    let v = c.loop-k.invariant in
    let m = c.mark_one.ensures in
    record {
      bytes = m.bytes ∙ v.bytes;
      count = m.count ∙ v.count;
      flags = next c.args.store.now c.loop-k.store c.args.order.now c.args.kept.now (stored_flags c.loop-k.store) (stored_flags c.mark_one.new.store) c.loop-k.k (same_pages c.args.store.now c.loop-k.store v.bytes v.count) v.flags m.here m.others;
      marks = m.marks (pages_in c.args.store.now) v.marks (omega (arith, v.count));
    }
