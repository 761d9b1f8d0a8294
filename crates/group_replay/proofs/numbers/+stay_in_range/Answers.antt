use Rattle.std.proofs.Common.{rules, ◌≡◌, ◌+◌, ◌∙◌, ◌+ℤ◌, length, refl, arith, FitsSigned}
use Rattle.std.proofs.lemmas.Int.{to_z-of_z}
use Rattle.std.specs.Int.{w128}
use Rattle.std.specs.Prelude.{IsTrue, ◌↔◌}
use Rattle.iv_types.specs.Encoding.{IsHuge}
use Rattle.ghost_rows.specs.Numbers.{step}
use Rattle.ghost_rows.proofs.NumberSteps.{empty_is}
use Rattle.txn_machine.specs.Deltas.{worth}
use Rattle.group_replay.proofs.Walking.{StayHuge, first_left, of_none, of_first, not_first, fewer_left, shorter, told_as, huge_first}
use Rattle.group_replay.proofs.numbers.+stay_in_range.Goals as goal

pub returns-then-is_empty : goal.returns-then-is_empty
returns-then-is_empty t c = λ numbers fits is. (λ h. of_none (StayHuge c.args.back c.args.column c.args.delta.now) c.args.stored.now numbers tt (empty_is c.args.stored.now c.if-is_empty.ensures) is, λ h. refl)

pub returns-then-not-is_huge_sum : goal.returns-then-not-is_huge_sum
returns-then-not-is_huge_sum t c = λ numbers fits is.
    let n = c.front-number.result.0 in
    let after = c.front-number.result.1.now in
    let fit_w : FitsSigned w128 c.worth.result = search rules in
    let left = first_left c.args.stored.now after n numbers c.front-number.ensures.fits c.front-number.ensures.bytes fits is in
    let huge : IsTrue c.is_huge_sum.result ↔ IsHuge (n +ℤ step c.args.back c.args.column c.args.delta.now) =
    told_as c.args.back c.is_huge_sum.result n _ (worth c.args.column c.args.delta.now) _ (to_z-of_z w128 n c.front-number.ensures.fits) (to_z-of_z w128 c.worth.result fit_w ∙ c.worth.ensures.value) c.is_huge_sum.ensures in
    (λ h. absurd (cc h), λ all. absurd (not_first (StayHuge c.args.back c.args.column c.args.delta.now) numbers n after left (λ later q. let yes : IsTrue c.is_huge_sum.result = huge.1 q.0 in search (rules, yes)) all))

pub stay_in_range-requires : goal.stay_in_range-requires
stay_in_range-requires t c =
    let n = c.front-number.result.0 in
    let after = c.front-number.result.1.now in
    let short : length c.args.stored.now ≡ _ = shorter c.args.stored.now after n c.front-number.ensures.bytes in
    let few = c.requires.columns in
    (omega (arith, short), (fewer_left c.args.stored.now after n c.requires.numbers.0 c.front-number.ensures.bytes c.requires.numbers.1, omega (arith, short, few)))

pub returns : goal.returns
returns t c = λ numbers fits is.
    let n = c.front-number.result.0 in
    let after = c.front-number.result.1.now in
    let fit_w : FitsSigned w128 c.worth.result = search rules in
    let left = first_left c.args.stored.now after n numbers c.front-number.ensures.fits c.front-number.ensures.bytes fits is in
    let huge : IsTrue c.is_huge_sum.result ↔ IsHuge (n +ℤ step c.args.back c.args.column c.args.delta.now) =
    told_as c.args.back c.is_huge_sum.result n _ (worth c.args.column c.args.delta.now) _ (to_z-of_z w128 n c.front-number.ensures.fits) (to_z-of_z w128 c.worth.result fit_w ∙ c.worth.ensures.value) c.is_huge_sum.ensures in
    of_first (StayHuge c.args.back c.args.column c.args.delta.now) (StayHuge c.args.back (c.args.column + 1) c.args.delta.now) numbers n after c.stay_in_range.result left
    (huge_first c.args.back c.args.column c.args.delta.now n (huge.0 (search rules))) c.stay_in_range.ensures
