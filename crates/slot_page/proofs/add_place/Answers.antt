use Rattle.std.proofs.Common.{ℕ, ◌≡◌, ◌+◌, ◌-◌, ◌*◌, ◌≤◌, ◌∙◌, List, [], ◌∷◌, ◌++◌, length, subst, arith}
use Rattle.slot_page.specs.Bytes.{number, Shows, Wrote}
use Rattle.slot_page.specs.Page.{Entry, cell, heap, space, entries, index_of, IsPage, Holds}
use Rattle.slot_page.proofs.Pages.{page_size, held, placed, entries_held, page_held}
use Rattle.slot_page.proofs.add_place.Goals as goal

pub put_number-requires-clause-inside : goal.put_number-requires-clause-inside
put_number-requires-clause-inside c = let s = page_size _ c.requires.page in let r : length (heap (entries c.args.page.now)) + 2 * length (entries c.args.page.now) + 6 ≤ 8176 = c.requires.room in omega (arith, c.requires.number)

pub put_number-requires-2-clause-inside : goal.put_number-requires-2-clause-inside
put_number-requires-2-clause-inside c = let s = page_size _ c.requires.page in omega (arith, c.put_number.ensures.size)

done : (p1 p2 p3 : List ℕ) (e : Entry) (n at : ℕ) → IsPage p1 → n ≡ length (entries p1) → at ≡ 16 + length (heap (entries p1)) → space (entries p1) + 6 + length e.0 + length e.1 ≤ 8176
    → Shows p1 at (cell e) → Wrote (8190 - 2 * n) (number at) p1 p2 → Wrote 2 (number (n + 1)) p2 p3 → Holds p3 (index_of p1) (entries p1 ++ e ∷ [])
done p1 p2 p3 e n at h ni ai room s w2 w3 =
    placed p1 p2 p3 (index_of p1) (entries p1) e (held p1 h) room (subst (λ a. Shows p1 a (cell e)) ai s)
    (subst (λ a. Wrote (8190 - 2 * length (entries p1)) (number a) p1 p2) ai (subst (λ m. Wrote (8190 - 2 * m) (number at) p1 p2) ni w2))
    (subst (λ m. Wrote 2 (number (m + 1)) p2 p3) ni w3)

pub returns-clause-added : goal.returns-clause-added
returns-clause-added c = λ e shown room.
    let h = done _ _ _ e c.args.n c.args.at c.requires.page c.requires.number c.requires.place room shown c.put_number.ensures c.put_number-2.ensures in
    (page_held _ _ _ h, entries_held _ _ _ h, h.of_index)

pub returns-clause-kept : goal.returns-clause-kept
returns-clause-kept c = λ j low high. c.put_number-2.ensures.above j (omega arith) ∙ c.put_number.ensures.below j (omega arith)
