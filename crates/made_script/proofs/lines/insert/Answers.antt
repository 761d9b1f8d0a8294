use Rattle.std.proofs.Common.{◌≡◌, ◌∙◌, ◌++◌, ◌*◌, ◌%◌, ap, rules, codes, decimal, to_z, of_z, w64}
use Rattle.std.specs.Fmt.{signed_decimal}
use Rattle.made_script.specs.Made.{amount_of}
use Rattle.made_script.proofs.lines.insert.Goals as goal

pub returns : goal.returns
returns c =
    let sale_is = c.sale-sale.ensures in
    let amount_is : to_z w64 (of_z w64 c.amount-amount.result) ≡ c.amount-amount.result = search rules in
    c.in_ok-line.ensures.ok ∙ (λ k.
    decimal c.args.session
    ++ (codes ": INSERT INTO sale VALUES (" ++ (decimal (sale_is k) ++ (codes ", " ++ (decimal (5 * sale_is k % 16) ++ (codes ", " ++ (signed_decimal ((amount_is ∙ c.amount-amount.ensures ∙ ap amount_of sale_is) k) ++ codes ")")))))))
