use Rattle.std.proofs.Common.{ℕ, ◌≡◌, ◌<◌, List, Some, length, get_or, slice_get, refl, sym, ap, ◌∙◌, subst, arith}
use Rattle.slot_page.specs.Page.{Entry, no_entry, entries, index_of}
use Rattle.slot_page.proofs.Pages.{packed_lies}
use Rattle.ordered_index.specs.Row.{Leaf, no_leaf}
use Rattle.ordered_index.proofs.Indexes.{front_other, front_here}
use Rattle.ordered_index.proofs.finding.front.Goals as goal

pub returns-then-index-of : goal.returns-then-index-of
returns-then-index-of c =
    let ls = c.args.leaves.now.leaves in
    let k = c.args.k in
    let inside : k < length ls = omega (arith, c.requires.place) in
    let is : c.index.result ≡ (get_or ls k no_leaf).0 = c.index.ensures ∙ ap (λ (l : Leaf). l.0) c.page-page.ensures.leaf in
    let low = c.requires.above inside in
    sym (ap (λ (z : List Entry). slice_get z 0) (front_other c.args.of k ls c.requires.forest inside (omega arith)))

pub entry-requires-clause-lies : goal.entry-requires-clause-lies
entry-requires-clause-lies c =
    let ls = c.args.leaves.now.leaves in
    let inside : c.args.k < length ls = omega (arith, c.requires.place) in
    packed_lies _ _ c.page-page.ensures.page (subst (λ (l : Leaf). 0 < length l.1) (sym c.page-page.ensures.leaf) (c.requires.forest.some c.args.k inside))

pub returns : goal.returns
returns c =
    let ls = c.args.leaves.now.leaves in
    let k = c.args.k in
    let es = entries c.page-page.result.now in
    let inside : k < length ls = omega (arith, c.requires.place) in
    let same : index_of c.page-page.result.now ≡ c.args.of = sym c.index.ensures ∙ omega arith in
    let is : get_or ls k no_leaf ≡ (c.args.of, es) = sym c.page-page.ensures.leaf ∙ ap (λ (x : ℕ). let y : Leaf = (x, es) in y) same in
    let e : (c.entry.result.0.now, c.entry.result.1.now) ≡ get_or es 0 no_entry = rw (c.entry.ensures.key, c.entry.ensures.value) refl in
    ap (λ (x : Entry). Some x) e ∙ sym (front_here c.args.of k ls es c.requires.forest inside is)
