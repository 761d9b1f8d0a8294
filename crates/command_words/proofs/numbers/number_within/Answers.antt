use Rattle.std.proofs.Common.{◌≡◌, ◌∙◌, ℕ, ap, arith, sym}
use Rattle.std.specs.Prelude.{Result, Ok, Err, decimal}
use Rattle.std.proofs.lemmas.Fmt.{parse-decimal}
use Rattle.std.proofs.lemmas.Bool.{false≢true}
use Rattle.command_words.proofs.Parsing.{same_bytes}
use Rattle.command_words.proofs.numbers.number_within.Goals as goal
use Rattle.command_words.proofs.numbers.number_within.Goals.{then-number-least-via-then-number-least, then-number-least-via-else-number-least+then-number-most}

abbrev value_of : {E : Type 0} → Result ℕ E → ℕ
value_of (Ok n) = n
value_of (Err e) = 0

pub returns-in_default : goal.returns-in_default
returns-in_default c = λ number least most is.
    let e : c.parse.result ≡ Ok number = parse-decimal 32 number c.args.word.now c.parse.result (omega (arith, most)) (omega (arith, most)) is c.parse.ensures.value.0 in
    absurd (cc)

pub returns-then-number-least : goal.returns-then-number-least
returns-then-number-least c = λ number least most is.
    let e : c.parse.result ≡ Ok number = parse-decimal 32 number c.args.word.now c.parse.result (omega (arith, most)) (omega (arith, most)) is c.parse.ensures.value.0 in
    let same : number ≡ c.in-Ok.number = ap value_of (sym e ∙ c.in-Ok.is) in
    elim c.then-number-least.branch [
      | then-number-least-via-then-number-least w ↦ absurd (omega (arith, same, least, w.if-number-least.true))
      | then-number-least-via-else-number-least+then-number-most w ↦ absurd (omega (arith, same, most, w.if-number-most.true))
    ]

pub returns-else-eq : goal.returns-else-eq
returns-else-eq c = λ number least most is.
    let e : c.parse.result ≡ Ok number = parse-decimal 32 number c.args.word.now c.parse.result (omega (arith, most)) (omega (arith, most)) is c.parse.ensures.value.0 in
    let same : number ≡ c.in-Ok.number = ap value_of (sym e ∙ c.in-Ok.is) in
    let printed : c.format.result.now ≡ c.args.word.now = c.format.ensures.text ∙ ap decimal (sym same) ∙ sym is in
    absurd (false≢true (sym c.if-eq.false ∙ c.eq.ensures ∙ same_bytes _ _ printed))
