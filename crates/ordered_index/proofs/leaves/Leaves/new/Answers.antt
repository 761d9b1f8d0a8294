use Rattle.std.proofs.Common.{ℕ, ◌≡◌, ◌+◌, ◌<◌, ◌≤◌, List, [], length, ap, ◌∙◌, arith}
use Rattle.std.proofs.lemmas.List.{length_push, length-replicate}
use Rattle.page_store.specs.declared.store.PageStore.{PageStore}
use Rattle.page_store.specs.Store.{pages_in}
use Rattle.ordered_index.specs.Row.{pages_of, leaves_of, times, IsRow}
use Rattle.ordered_index.proofs.StorePages.{length-pages_of, page_sized}
use Rattle.ordered_index.proofs.Rows.{once_pushed, beyond_pushed}
use Rattle.ordered_index.proofs.leaves.Leaves.new.Goals as goal

pub loop-i-preserved : goal.loop-i-preserved
loop-i-preserved c =
    let v = c.loop-i.invariant in
    let fs = c.in_ok-push.ensures.items in
    record {
      free = ap length fs ∙ length_push c.loop-i.free.items c.loop-i.i ∙ ap (λ n. n + 1) v.free;
      once = λ p lt. ap (times p) fs ∙ once_pushed c.loop-i.free.items c.loop-i.i v.once v.beyond p lt;
      beyond = λ p le. ap (times p) fs ∙ beyond_pushed c.loop-i.free.items c.loop-i.i v.beyond p le;
      room = omega (arith, v.room, c.in_ok-push.ensures.capacity);
    }

all_free : (s : PageStore) (order free : List ℕ) (n : ℕ) → order ≡ [] → length free ≡ n → pages_in s ≡ n → ((p : ℕ) → p < n → times p free ≡ 1) → ((p : ℕ) → n ≤ p → times p free ≡ 0) → IsRow (pages_of s) order free
all_free s order free n none f p once beyond =
    let m : length (pages_of s) ≡ n = length-pages_of s ∙ p in
    let o : (q : ℕ) → times q order ≡ 0 = λ q. ap (times q) none in
    record {
      number = omega (arith, ap length none);
      once = λ q lt. omega (arith, o q, once q (omega arith));
      beyond = λ q le. omega (arith, o q, beyond q (omega arith));
      sized = λ q lt. page_sized s q lt;
      held = λ k lt. absurd (omega (arith, ap length none));
    }

pub invariant_of-result : goal.invariant_of-result
invariant_of-result c =
    let v = c.loop-i.invariant in
    let n : pages_in c.in_ok-store.store ≡ c.args.count = ap length c.in_ok-store.ensures.stored ∙ length-replicate c.args.count _ in
    let m = length-pages_of c.in_ok-store.store in
    record {
      row = all_free c.in_ok-store.store c.in_ok-order.order.items c.loop-i.free.items c.args.count c.in_ok-order.ensures.items (omega arith) n (λ p lt. v.once p (omega arith)) (λ p le. v.beyond p (omega arith));
      order_room = omega (arith, c.in_ok-order.ensures.capacity);
      free_room = omega (arith, v.room);
    }

pub returns : goal.returns
returns c =
    let n : pages_in c.in_ok-store.store ≡ c.args.count = ap length c.in_ok-store.ensures.stored ∙ length-replicate c.args.count _ in
    (length-pages_of c.in_ok-store.store ∙ n, ap (λ (o : List ℕ). leaves_of (pages_of c.in_ok-store.store) o) c.in_ok-order.ensures.items)
