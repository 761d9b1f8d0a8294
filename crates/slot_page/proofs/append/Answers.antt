use Rattle.std.proofs.Common.{ℕ, ◌≡◌, ◌+◌, ◌-◌, ◌*◌, ◌≤◌, List, [], ◌∷◌, ◌++◌, length, subst, arith}
use Rattle.slot_page.specs.Bytes.{number, Wrote}
use Rattle.slot_page.specs.Page.{cell, heap, space, index_of, entries, IsPage, Holds}
use Rattle.slot_page.proofs.Pages.{page_size, appended, held, entries_held, page_held}
use Rattle.slot_page.proofs.append.Goals as goal

pub count-n-requires : goal.count-n-requires
count-n-requires c = page_size _ c.requires.page

pub put_cell-requires-clause-inside : goal.put_cell-requires-clause-inside
put_cell-requires-clause-inside c = let s = page_size _ c.requires.page in let r : length (heap (entries c.args.page.now)) + 2 * length (entries c.args.page.now) + 6 + length c.args.key.now + length c.args.value.now ≤ 8176 = c.requires.room in omega arith

pub put_number-requires-clause-inside : goal.put_number-requires-clause-inside
put_number-requires-clause-inside c = let s = page_size _ c.requires.page in let r : length (heap (entries c.args.page.now)) + 2 * length (entries c.args.page.now) + 6 + length c.args.key.now + length c.args.value.now ≤ 8176 = c.requires.room in omega (arith, c.put_cell.ensures.size)

pub put_number-requires-2-clause-inside : goal.put_number-requires-2-clause-inside
put_number-requires-2-clause-inside c = let s = page_size _ c.requires.page in omega (arith, c.put_cell.ensures.size, c.put_number.ensures.size)

done : (p0 p1 p2 p3 key value : List ℕ) (n at : ℕ) → IsPage p0 → n ≡ length (entries p0) → at ≡ 16 + length (heap (entries p0)) → space (entries p0) + 6 + length key + length value ≤ 8176
    → Wrote at (cell (key, value)) p0 p1 → Wrote (8190 - 2 * n) (number at) p1 p2 → Wrote 2 (number (n + 1)) p2 p3 → Holds p3 (index_of p0) (entries p0 ++ (key, value) ∷ [])
done p0 p1 p2 p3 key value n at h ni ai room w1 w2 w3 =
    appended p0 p1 p2 p3 (index_of p0) (entries p0) (key, value) (held p0 h) room
    (subst (λ a. Wrote a (cell (key, value)) p0 p1) ai w1)
    (subst (λ a. Wrote (8190 - 2 * length (entries p0)) (number a) p1 p2) ai (subst (λ m. Wrote (8190 - 2 * m) (number at) p1 p2) ni w2))
    (subst (λ m. Wrote 2 (number (m + 1)) p2 p3) ni w3)

pub returns : goal.returns
returns c =
    let h = done _ _ _ _ c.args.key.now c.args.value.now c.count-n.result c.end-at.result c.requires.page c.count-n.ensures c.end-at.ensures c.requires.room c.put_cell.ensures c.put_number.ensures c.put_number-2.ensures in
    record { page = page_held _ _ _ h; entries = entries_held _ _ _ h; index = h.of_index }
