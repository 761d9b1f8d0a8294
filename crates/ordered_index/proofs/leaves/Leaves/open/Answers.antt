use Rattle.std.proofs.Common.{ℕ, ◌≡◌, ◌-◌, ◌<◌, ◌≤◌, List, [], length, get_or, set, refl, sym, ap, ◌∙◌, subst, arith}
use Rattle.std.specs.List.{insert}
use Rattle.std.proofs.lemmas.List.{get_or_read, length-set}
use Rattle.ordered_index.specs.Row.{Row, Leaf, leaf_of, leaves_of, pages_of, IsRow}
use Rattle.ordered_index.proofs.Rows.{row_open, leaves_open, length-leaves_of, free_in_range, row_is, page_size}
use Rattle.page_store.specs.declared.store.PageStore.{PageStore}
use Rattle.page_store.specs.Store.{pages_in, with_page}
use Rattle.ordered_index.proofs.StorePages.{length-pages_of, page_at, page_sized, pages-with_page}
use Rattle.ordered_index.proofs.leaves.Leaves.open.Goals as goal

-- the page that is taken
pub record Taken (pages : List (List ℕ)) (order free : List ℕ) (k j p : ℕ) : Type 0 where
  pub some : j < length free
  pub at : p ≡ get_or free j 0
  pub low : k ≤ length order
  pub inside : p < length pages

taken : (pages : List (List ℕ)) (order free : List ℕ) (r : Row) (k n p : ℕ) → IsRow pages order free → row_is pages order ≡ r → k ≤ length r.leaves → length r.leaves < r.pages → n ≡ length free → p ≡ get_or free (n - 1) p → Taken pages order free k (n - 1) p
taken pages order free r k n p sound is place room ne read =
    let low : k ≤ length (leaves_of pages order) = subst (λ (x : Row). k ≤ length x.leaves) (sym is) place in
    let few : length (leaves_of pages order) < length pages = subst (λ (x : Row). length x.leaves < x.pages) (sym is) room in
    let some : n - 1 < length free = omega (arith, length-leaves_of pages order, sound.number) in
    let at : p ≡ get_or free (n - 1) 0 = get_or_read free (n - 1) p some read 0 in
    record { some = some; at = at; low = omega (arith, length-leaves_of pages order); inside = subst (λ x. x < length pages) (sym at) (free_in_range pages order free (n - 1) sound some) }

store_taken : (s : PageStore) (order free : List ℕ) (r : Row) (k n p : ℕ) → IsRow (pages_of s) order free → row_is (pages_of s) order ≡ r → k ≤ length r.leaves → length r.leaves < r.pages → n ≡ length free → p ≡ get_or free (n - 1) p → p < pages_in s
store_taken s order free r k n p sound is place room ne read = let t = taken (pages_of s) order free r k n p sound is place room ne read in omega (arith, t.inside, length-pages_of s)

pub change-requires : goal.change-requires
change-requires c =
    let a = c.self.inside in
    store_taken a.store a.order.items a.free.items c.args.self.now c.args.k c.len-last.result _ c.self.invariant.row c.self.view_is c.requires.place c.requires.room (c.len-last.ensures ∙ a.free.ok.0) c.remove-p.ensures.value

pub empty-requires : goal.empty-requires
empty-requires c =
    let a = c.self.inside in
    let low = store_taken a.store a.order.items a.free.items c.args.self.now c.args.k c.len-last.result _ c.self.invariant.row c.self.view_is c.requires.place c.requires.room (c.len-last.ensures ∙ a.free.ok.0) c.remove-p.ensures.value in
    ap length (c.change.ensures.page ∙ sym (page_at a.store c.remove-p.result low)) ∙ page_sized a.store c.remove-p.result (omega (arith, length-pages_of a.store))

pub invariant_of-self : goal.invariant_of-self
invariant_of-self c =
    let a = c.self.inside in
    let t = taken (pages_of a.store) a.order.items a.free.items c.args.self.now c.args.k c.len-last.result _ c.self.invariant.row c.self.view_is c.requires.place c.requires.room (c.len-last.ensures ∙ a.free.ok.0) c.remove-p.ensures.value in
    let order : c.insert.new.self.items ≡ insert a.order.items c.args.k c.remove-p.result = rw c.unwrap.ensures at c.insert.ensures.items in
    let now : pages_of (with_page a.store c.remove-p.result c.empty.new.page) ≡ set (pages_of a.store) c.remove-p.result c.empty.new.page = pages-with_page a.store c.remove-p.result c.empty.new.page (omega (arith, t.inside, length-pages_of a.store)) (page_size _ c.empty.ensures.page) in
    let n = length-set (pages_of a.store) c.remove-p.result c.empty.new.page in
    record {
      row = rw (order, c.remove-p.ensures.items, now) (row_open (pages_of a.store) a.order.items a.free.items c.args.k (c.len-last.result - 1) c.remove-p.result c.empty.new.page c.self.invariant.row t.low t.some t.at c.empty.ensures.page);
      order_room = omega (arith, ap length now, c.self.invariant.order_room, c.insert.ensures.capacity);
      free_room = omega (arith, ap length now, c.self.invariant.free_room, c.remove-p.ensures.capacity);
    }

pub returns : goal.returns
returns c =
    let a = c.self.inside in
    let t = taken (pages_of a.store) a.order.items a.free.items c.args.self.now c.args.k c.len-last.result _ c.self.invariant.row c.self.view_is c.requires.place c.requires.room (c.len-last.ensures ∙ a.free.ok.0) c.remove-p.ensures.value in
    let order : c.insert.new.self.items ≡ insert a.order.items c.args.k c.remove-p.result = rw c.unwrap.ensures at c.insert.ensures.items in
    let now : pages_of (with_page a.store c.remove-p.result c.empty.new.page) ≡ set (pages_of a.store) c.remove-p.result c.empty.new.page = pages-with_page a.store c.remove-p.result c.empty.new.page (omega (arith, t.inside, length-pages_of a.store)) (page_size _ c.empty.ensures.page) in
    let n : length (set (pages_of a.store) c.remove-p.result c.empty.new.page) ≡ c.args.self.now.pages = length-set (pages_of a.store) c.remove-p.result c.empty.new.page ∙ ap (λ (r : Row). r.pages) c.self.view_is in
    let leaf : leaf_of c.empty.new.page ≡ (c.args.of, []) = rw (c.empty.ensures.entries, c.empty.ensures.index) refl in
    let leaves : leaves_of (set (pages_of a.store) c.remove-p.result c.empty.new.page) c.insert.new.self.items ≡ insert c.args.self.now.leaves c.args.k (c.args.of, []) =
    ap (leaves_of (set (pages_of a.store) c.remove-p.result c.empty.new.page)) order
    ∙ leaves_open (pages_of a.store) a.order.items a.free.items c.args.k (c.len-last.result - 1) c.remove-p.result c.empty.new.page c.self.invariant.row t.some t.at
    ∙ ap (λ (x : Leaf). insert (leaves_of (pages_of a.store) a.order.items) c.args.k x) leaf
    ∙ ap (λ (r : Row). insert r.leaves c.args.k (let y : Leaf = (c.args.of, []) in y)) c.self.view_is in
    ap (λ (x : List (List ℕ)). row_is x c.insert.new.self.items) now
    ∙ ap (λ (m : ℕ). let y : Row = record { pages = m; leaves = leaves_of (set (pages_of a.store) c.remove-p.result c.empty.new.page) c.insert.new.self.items } in y) n
    ∙ ap (λ (ls : List Leaf). let y : Row = record { pages = c.args.self.now.pages; leaves = ls } in y) leaves
