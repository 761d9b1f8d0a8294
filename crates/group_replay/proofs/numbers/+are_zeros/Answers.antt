use Rattle.std.proofs.Common.{◌≡◌, ◌∙◌, ℤ, pos, List, length, refl, sym, ap, arith, to_z, of_z}
use Rattle.std.proofs.lemmas.Int.{to_z-of_z}
use Rattle.std.specs.Int.{w128}
use Rattle.std.specs.List.{AllByRecursion}
use Rattle.group_replay.proofs.Walking.{first_left, of_none, of_first, not_first, fewer_left, shorter}
use Rattle.ghost_rows.proofs.NumberSteps.{empty_is}
use Rattle.group_replay.proofs.numbers.+are_zeros.Goals as goal

abbrev AreZeros : List ℤ → Type 0
AreZeros numbers = AllByRecursion (λ n. n ≡ pos 0) numbers

pub returns-then-is_empty : goal.returns-then-is_empty
returns-then-is_empty t c = λ numbers fits is. (λ h. of_none AreZeros c.args.stored.now numbers tt (empty_is c.args.stored.now c.if-is_empty.ensures) is, λ h. refl)

pub returns-then-number-ne0 : goal.returns-then-number-ne0
returns-then-number-ne0 t c = λ numbers fits is.
    let n = c.front-number.result.0 in
    let after = c.front-number.result.1.now in
    let left = first_left c.args.stored.now after n numbers c.front-number.ensures.fits c.front-number.ensures.bytes fits is in
    (λ h. absurd (cc h), λ all. absurd (not_first AreZeros numbers n after left (λ later q. c.if-number-ne0.true (ap (of_z w128) q.0)) all))

pub are_zeros-requires : goal.are_zeros-requires
are_zeros-requires t c =
    let n = c.front-number.result.0 in
    let after = c.front-number.result.1.now in
    let short : length c.args.stored.now ≡ _ = shorter c.args.stored.now after n c.front-number.ensures.bytes in
    (omega (arith, short), fewer_left c.args.stored.now after n c.requires.0 c.front-number.ensures.bytes c.requires.1)

pub returns : goal.returns
returns t c = λ numbers fits is.
    let n = c.front-number.result.0 in
    let after = c.front-number.result.1.now in
    let left = first_left c.args.stored.now after n numbers c.front-number.ensures.fits c.front-number.ensures.bytes fits is in
    let zero : n ≡ pos 0 = sym (to_z-of_z w128 n c.front-number.ensures.fits) ∙ ap (to_z w128) c.if-number-ne0.false in
    of_first AreZeros AreZeros numbers n after c.are_zeros.result left (λ later. (λ h. h.1, λ h. (zero, h))) c.are_zeros.ensures
