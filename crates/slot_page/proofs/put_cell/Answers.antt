use Rattle.std.proofs.Common.{ℕ, ◌≡◌, ◌+◌, List, ◌++◌, length, subst, arith}
use Rattle.slot_page.specs.Bytes.{number, Wrote}
use Rattle.slot_page.proofs.Bytes.{wrote_both}
use Rattle.slot_page.proofs.put_cell.Goals as goal

two : (p q : List ℕ) (a : ℕ) (xs : List ℕ) → Wrote (a + 4) xs p q → Wrote (a + 2 + 2) xs p q
two p q a xs w = let e : a + 4 ≡ a + 2 + 2 = omega arith in subst (λ x. Wrote x xs p q) e w

pub returns : goal.returns
returns c =
    let key = c.args.key.now in
    let value = c.args.value.now in
    wrote_both _ _ _ c.args.at (number (length key)) _ c.put_number.ensures
    (wrote_both _ _ _ (c.args.at + 2) (number (length value)) (key ++ value) c.put_number-2.ensures
    (two _ _ c.args.at (key ++ value) (wrote_both _ _ _ (c.args.at + 4) key value c.put_bytes.ensures c.put_bytes-2.ensures)))
