use Rattle.std.proofs.Common.{◌≡◌, ◌∙◌}
use Rattle.iv_meaning.specs.Schema.{items_at, key_kinds}
use Rattle.record_reading.proofs.Completing.{no_key}
use Rattle.record_reading.proofs.key.is_some_key.Goals as goal

pub returns : goal.returns
returns c =
    let t = c.args.table.now in
    let kinds : c.as_slice-3.result.now ≡ key_kinds t =
    c.as_slice-3.ensures ∙ (c.in_ok-primary.ensures ∙ (λ i. items_at ((c.as_slice.ensures ∙ c.in_ok-kinds.ensures) i) (c.as_slice-2.ensures i))) in
    no_key t c.as_slice-3.result.now c.args.key.now kinds (λ values f e. let wrong = c.in-Err-BadRow.ensures.again values f e in cc)
