use Rattle.std.proofs.Common.{◌≡◌, ◌*◌, ◌/◌, ◌+◌, ◌≤◌, ◌^◌, ◌++◌, ◌∷◌, [], length, arith}
use mathlib.Core.Path.{sym, ap, ◌∙◌}
use Rattle.txn_log.specs.Stored.{in_parts}
use Rattle.definition_parts.specs.Parts.{part_entry}
use Rattle.definition_parts.proofs.Entries.{parts_many}
use Rattle.definition_parts.proofs.Parting.{one_part, is_cut}
use Rattle.definition_parts.proofs.parts.parts_of.Goals as goal

pub overflow_cast-part : goal.overflow_cast-part
overflow_cast-part c =
    let text = c.args.text.now in
    let few : length (in_parts text) ≤ 2 ^ 16 = c.requires.short in
    let many : length (in_parts text) ≡ (length text + 1023) / 1024 = parts_many ((length text + 1023) / 1024) text in
    let end = c.div_ceil-part-end.ensures in
    let within = c.loop-part-test.true in
    omega (arith, few, many, end, within)

pub loop-part-preserved : goal.loop-part-preserved
loop-part-preserved c =
    let text = c.args.text.now in
    let part = c.loop-part.part in
    let bytes = is_cut text (part * 1024) c.min-to.result c.min-to.ensures in
    c.in_ok-push.ensures.ok
    ∙ ((λ i. c.loop-part.invariant i ++ (c.in_ok-part_entry.ensures ∙ ap (part_entry c.args.number part) bytes) i ∷ [])
    ∙ sym (one_part c.args.number part text))
