use Rattle.std.proofs.Common.{◌≡◌, List, ℕ, Some, subst}
use Rattle.std.proofs.lemmas.List.{take_rest}
use Rattle.iv_types.specs.Tokens.{quoted}
use Rattle.sql_tokens.specs.Scan.{measure_of}
use Rattle.sql_tokens.proofs.Quotes.{text_spelled}
use Rattle.sql_tokens.proofs.scan.quoted.Goals as goal

pub returns-in-Some-clause-read : goal.returns-in-Some-clause-read
returns-in-Some-clause-read c =
    let bytes = c.args.bytes.now in
    text_spelled bytes _ c.in-Some.size c.requires (subst (λ (l : List ℕ). Some (c.in-Some.field-0-0, c.in-Some.size) ≡ measure_of (quoted l)) (take_rest bytes 1) c.in-Some.ensures.value)
