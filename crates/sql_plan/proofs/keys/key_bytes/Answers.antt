use Rattle.std.proofs.Common.{◌≡◌, ◌≤◌, ◌⊎◌, [], ◌++◌, length, drop, append-nil, arith, inl, inr, sym, ap, ◌∙◌}
use Rattle.std.proofs.lemmas.Bool.{cases_lt}
use Rattle.iv_types.specs.Encoding.{key_bytes}
use Rattle.sql_plan.proofs.IntervalLemmas.{nothing_left}
use Rattle.sql_plan.proofs.keys.key_bytes.Goals as goal

pub returns : goal.returns
returns c =
    let done : (length c.args.kinds.now ≤ c.loop-place.place) ⊎ (length c.args.values.now ≤ c.loop-place.place) =
    elim (cases_lt (length c.args.kinds.now) (length c.args.values.now)) [ inl h ↦ inl (omega (arith, h)) | inr h ↦ inr (omega (arith, h)) ] in
    c.from_vec.ensures
    ∙ (sym (append-nil c.loop-place.bytes.items)
    ∙ (ap (λ b. c.loop-place.bytes.items ++ b) (sym (nothing_left c.args.kinds.now c.args.values.now c.loop-place.place done))
    ∙ c.loop-place.invariant))
