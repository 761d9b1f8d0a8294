use Rattle.std.proofs.Common.{ℕ, ◌≡◌, ◌+◌, ◌-◌, ◌*◌, List, length, refl, ap, ◌∙◌, arith}
use Rattle.slot_page.specs.Bytes.{number_at}
use Rattle.slot_page.specs.Page.{entries, IsPage}
use Rattle.slot_page.proofs.Pages.{page_size, page_fits, Read, read_entry, last_ends}
use Rattle.slot_page.proofs.end.Goals as goal

pub count-n-requires : goal.count-n-requires
count-n-requires c = page_size _ c.requires

pub overflow_mul-n : goal.overflow_mul-n
overflow_mul-n c = let f = page_fits _ c.requires in omega arith

pub overflow_sub-n : goal.overflow_sub-n
overflow_sub-n c = let f = page_fits _ c.requires in omega arith

pub number_at-at-requires : goal.number_at-at-requires
number_at-at-requires c = let f = page_fits _ c.requires in let s = page_size _ c.requires in omega arith

last_at : (page : List ℕ) (n at : ℕ) → IsPage page → n ≡ length (entries page) → (n ≡ 0 → ⊥) → at ≡ number_at page (8192 - 2 * n) → Read page (n - 1) at (number_at page at) (number_at page (at + 2))
last_at page n at h n_is some at_is =
    let f = page_fits _ h in
    let place : 8192 - 2 * n ≡ 8190 - 2 * (n - 1) = omega arith in
    read_entry page (n - 1) at _ _ h (omega arith) (at_is ∙ ap (number_at page) place) refl refl

pub number_at-requires : goal.number_at-requires
number_at-requires c =
    let r = last_at _ _ _ c.requires c.count-n.ensures c.if-n-eq0.false c.number_at-at.ensures in
    let s = page_size _ c.requires in omega arith

pub number_at-requires-2 : goal.number_at-requires-2
number_at-requires-2 c =
    let r = last_at _ _ _ c.requires c.count-n.ensures c.if-n-eq0.false c.number_at-at.ensures in
    let s = page_size _ c.requires in omega arith

pub returns : goal.returns
returns c =
    let r = last_at _ _ _ c.requires c.count-n.ensures c.if-n-eq0.false c.number_at-at.ensures in
    let l = last_ends (entries c.args.page.now) (c.count-n.result - 1) (omega arith) in
    let k = c.number_at.ensures in
    let v = c.number_at-2.ensures in
    omega (arith, r.ends)
