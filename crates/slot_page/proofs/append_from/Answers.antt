use Rattle.std.proofs.Common.{ℕ, ◌≡◌, ◌+◌, ◌-◌, ◌*◌, ◌<◌, ◌≤◌, ◌∙◌, List, [], ◌∷◌, ◌++◌, length, take, get_or, sym, ap, subst, arith, append_assoc, length-append}
use Rattle.std.specs.List.{between}
use Rattle.std.proofs.lemmas.List.Edits.{between_more, length-between, between_none}
use Rattle.slot_page.specs.Bytes.{Shows, Wrote, number_at}
use Rattle.slot_page.specs.Page.{Entry, no_entry, cell, heap, entries, index_of, IsPage}
use Rattle.slot_page.proofs.Bytes.{shows_written}
use Rattle.slot_page.proofs.Pages.{next_fits, page_size, page_fits, held, holds_kept, page_held, entries_held, place_shown, heap_to, heap-append, next_ahead, stands_on}
use Rattle.slot_page.proofs.append_from.Goals as goal

pub count-n-requires : goal.count-n-requires
count-n-requires c = page_size _ c.requires.page

pub put_heap-requires-clause-room : goal.put_heap-requires-clause-room
put_heap-requires-clause-room c =
    let room : length (heap (entries c.args.page.now)) + 2 * length (entries c.args.page.now) + (length (heap (between c.args.from c.args.to (entries c.args.other.now))) + 2 * length (between c.args.from c.args.to (entries c.args.other.now))) ≤ 8176 = c.requires.room in
    omega (arith, c.end-at.ensures, page_size _ c.requires.page)

pub loop-i-init : goal.loop-i-init
loop-i-init c =
    let es = entries c.args.page.now in
    let part = between c.args.from c.args.to (entries c.args.other.now) in
    let room : length (heap es) + 2 * length es + (length (heap part) + 2 * length part) ≤ 8176 = c.requires.room in
    let w : Wrote (16 + length (heap es)) (heap part) c.args.page.now c.put_heap.new.page = subst (λ a. Wrote a (heap part) c.args.page.now c.put_heap.new.page) c.end-at.ensures c.put_heap.ensures in
    let h = holds_kept _ _ _ es (heap part) (held _ c.requires.page) (omega arith) w in
    record {
      page = page_held _ _ _ h;
      grown = entries_held _ _ _ h ∙ sym (ap (λ (x : List Entry). es ++ x) (between_none (entries c.args.other.now) c.args.from) ∙ Rattle.std.proofs.lemmas.List.append-nil es);
      same = h.of_index;
      ahead = shows_written _ _ c.end-at.result (heap part) c.put_heap.ensures;
    }

pub overflow_mul-i : goal.overflow_mul-i
overflow_mul-i c = let f = page_fits _ c.requires.other in omega (arith, c.requires.inside)

pub overflow_sub-i : goal.overflow_sub-i
overflow_sub-i c = let f = page_fits _ c.requires.other in omega (arith, c.requires.inside)

pub number_at-place-requires : goal.number_at-place-requires
number_at-place-requires c = let f = page_fits _ c.requires.other in let s = page_size _ c.requires.other in omega (arith, c.requires.inside)

-- how far behind the first entry another begins
apart : (other : List ℕ) (from i first place : ℕ) → IsPage other → from ≤ i → i < length (entries other) → first ≡ 16 + length (heap (take from (entries other))) → place ≡ number_at other (8192 - 2 - 2 * i) → place ≡ first + length (heap (between from i (entries other)))
apart other from i first place h le lt f p =
    let es = entries other in
    let there : place ≡ 16 + length (heap (take i es)) = p ∙ ap (number_at other) (let e : 8192 - 2 - 2 * i ≡ 8190 - 2 * i = omega arith in e) ∙ place_shown other (index_of other) es i (held other h) lt in
    omega (arith, ap length (heap_to es from i le), length-append (heap (take from es)) (heap (between from i es)))

pub overflow_sub-place : goal.overflow_sub-place
overflow_sub-place c =
    let a = apart c.args.other.now c.args.from c.loop-i.i _ _ c.requires.other (omega arith) (omega (arith, c.requires.inside)) c.place_in-first.ensures c.number_at-place.ensures in
    omega arith

pub add_place-requires-clause-place : goal.add_place-requires-clause-place
add_place-requires-clause-place c =
    let es = entries c.args.page.now in
    let part = between c.args.from c.loop-i.i (entries c.args.other.now) in
    let a = apart c.args.other.now c.args.from c.loop-i.i _ _ c.requires.other (omega arith) (omega (arith, c.requires.inside)) c.place_in-first.ensures c.number_at-place.ensures in
    omega (arith, c.end-at.ensures, ap (λ (x : List Entry). length (heap x)) c.loop-i.invariant.grown, ap length (heap-append es part), length-append (heap es) (heap part))

pub add_place-requires-clause-room : goal.add_place-requires-clause-room
add_place-requires-clause-room c =
    let fs = entries c.args.other.now in
    let f = next_fits (entries c.args.page.now) fs (entries c.loop-i.page) c.args.from c.loop-i.i c.args.to c.requires.room c.loop-i.invariant.grown (omega arith) (omega arith) c.requires.inside in
    omega arith

pub loop-i-preserved : goal.loop-i-preserved
loop-i-preserved c =
    let es = entries c.args.page.now in
    let fs = entries c.args.other.now in
    let e = get_or fs c.loop-i.i no_entry in
    let v = c.loop-i.invariant in
    let part = between c.args.from c.args.to fs in
    let inside : c.args.to ≤ length fs = c.requires.inside in
    let long : length part ≡ c.args.to - c.args.from = length-between fs c.args.from c.args.to inside in
    let room : length (heap es) + 2 * length es + (length (heap part) + 2 * length part) ≤ 8176 = c.requires.room in
    let fits = next_fits es fs (entries c.loop-i.page) c.args.from c.loop-i.i c.args.to c.requires.room v.grown (omega arith) (omega arith) c.requires.inside in
    let a = apart c.args.other.now c.args.from c.loop-i.i _ _ c.requires.other (omega arith) (omega (arith, c.requires.inside)) c.place_in-first.ensures c.number_at-place.ensures in
    let at : c.end-at.result + length (heap (between c.args.from c.loop-i.i fs)) ≡ c.end-at.result + (c.number_at-place.result - c.place_in-first.result) = omega arith in
    let shown = subst (λ n. Shows c.loop-i.page n (cell e)) at (next_ahead c.loop-i.page c.end-at.result fs c.args.from c.loop-i.i c.args.to (omega arith) (omega arith) inside v.ahead) in
    let added = c.add_place.ensures.added e shown fits in
    let more = between_more fs c.args.from c.loop-i.i no_entry (omega arith) (omega arith) in
    record {
      page = added.0;
      grown = added.1 ∙ ap (λ (x : List Entry). x ++ e ∷ []) v.grown ∙ append_assoc es (between c.args.from c.loop-i.i fs) (e ∷ []) ∙ ap (λ (x : List Entry). es ++ x) (sym more);
      same = added.2 ∙ v.same;
      ahead = stands_on c.loop-i.page c.add_place.new.page c.end-at.result (heap part) (c.count-n.result + (c.loop-i.i - c.args.from)) (omega (arith, c.end-at.ensures)) (omega (arith, c.end-at.ensures, c.count-n.ensures)) c.add_place.ensures.kept v.ahead;
    }
