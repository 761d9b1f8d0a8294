use Rattle.std.proofs.Common.{◌≡◌, ◌+◌, ◌-◌, ◌*◌, ◌<◌, ◌∙◌, List, length, take, sym, ap, arith}
use Rattle.std.proofs.lemmas.List.{take_all}
use Rattle.slot_page.specs.Bytes.{number_at}
use Rattle.slot_page.specs.Page.{Entry, heap, entries, index_of}
use Rattle.slot_page.proofs.Pages.{page_size, page_fits, held, place_shown}
use Rattle.slot_page.proofs.place_in.Goals as goal

pub count-requires : goal.count-requires
count-requires c = page_size _ c.requires.page

pub returns-then-i-count : goal.returns-then-i-count
returns-then-i-count c =
    let whole : take c.args.i (entries c.args.page.now) ≡ entries c.args.page.now = take_all c.args.i (entries c.args.page.now) (omega (arith, c.count.ensures)) in
    c.end.ensures ∙ ap (λ (x : List Entry). 16 + length (heap x)) (sym whole)

pub overflow_mul-i : goal.overflow_mul-i
overflow_mul-i c = let f = page_fits _ c.requires.page in omega (arith, c.requires.inside)

pub overflow_sub-i : goal.overflow_sub-i
overflow_sub-i c = let f = page_fits _ c.requires.page in omega (arith, c.requires.inside)

pub number_at-requires : goal.number_at-requires
number_at-requires c = let f = page_fits _ c.requires.page in let s = page_size _ c.requires.page in omega (arith, c.requires.inside)

pub returns : goal.returns
returns c =
    let lt : c.args.i < length (entries c.args.page.now) = omega (arith, c.requires.inside, c.count.ensures) in
    c.number_at.ensures ∙ ap (number_at c.args.page.now) (let e : 8192 - 2 - 2 * c.args.i ≡ 8190 - 2 * c.args.i = omega arith in e)
    ∙ place_shown c.args.page.now (index_of c.args.page.now) (entries c.args.page.now) c.args.i (held _ c.requires.page) lt
