use Rattle.std.proofs.Common.{◌≡◌, true, false, ℕ, ◌+◌, ◌<◌, List, ◌++◌, length, get_or, sym, ◌∙◌, ap, subst, arith}
use Rattle.txn_log.specs.Damaged.{Found}
use Rattle.image_entries.specs.declared.parts.Part.{Part}
use Rattle.image_entries.specs.Parts.{part_found, parts_found, no_found}
use Rattle.image_entries.proofs.Behind.{part_got, parts_long}
use Rattle.image_catalog.specs.Texts.{is_first}
use Rattle.image_catalog.proofs.Joining.{IsJoined, joined_next, joined_before}
use Rattle.image_catalog.proofs.texts.text_at.Goals as goal

pub returns-then-is_first-clause-text : goal.returns-then-is_first-clause-text
returns-then-is_first-clause-text c =
    let ps = c.args.parts.now in
    let fs = parts_found ps in
    let there : c.loop-end.end < length ps = c.loop-end-test.true in
    let inside : c.loop-end.end < length fs = omega (arith, parts_long ps, there) in
    let same : get_or ps c.loop-end.end c.index-parts-end.result ≡ c.index-parts-end.result = cc (c.index-parts-end.is) in
    let first : is_first (get_or fs c.loop-end.end no_found) ≡ true = ap is_first (part_got ps c.loop-end.end c.index-parts-end.result there) ∙ (ap (λ (p : Part). is_first (part_found p)) same ∙ (sym c.is_first.ensures ∙ c.if-is_first.true)) in
    record {
      texts = joined_before fs c.loop-end.end inside c.args.first _ c.loop-end.bytes.items first c.loop-end.invariant;
      further = c.loop-end.invariant.further;
      begins = λ within. first;
    }

pub loop-end-preserved : goal.loop-end-preserved
loop-end-preserved c =
    let ps = c.args.parts.now in
    let fs = parts_found ps in
    let there : c.loop-end.end < length ps = c.loop-end-test.true in
    let inside : c.loop-end.end < length fs = omega (arith, parts_long ps, there) in
    let same : get_or ps c.loop-end.end c.index-parts-end.result ≡ c.index-parts-end.result = cc (c.index-parts-end.is) in
    let first : is_first (get_or fs c.loop-end.end no_found) ≡ false = ap is_first (part_got ps c.loop-end.end c.index-parts-end.result there) ∙ (ap (λ (p : Part). is_first (part_found p)) same ∙ (sym c.is_first.ensures ∙ c.if-is_first.false)) in
    let value : c.as_slice-in-loop-end.result.now ≡ (get_or fs c.loop-end.end no_found).entry.1 =
    c.as_slice-in-loop-end.ensures ∙ sym (ap (λ (f : Found). f.entry.1) (part_got ps c.loop-end.end c.index-parts-end-in-loop-end.result there)) in
    let more : c.extend_from_slice.new.self.items ≡ c.loop-end.bytes.items ++ (get_or fs c.loop-end.end no_found).entry.1 =
    c.in_ok-extend_from_slice.ensures.items ∙ ap (λ (bs : List ℕ). c.loop-end.bytes.items ++ bs) value in
    subst (λ (bs : List ℕ). IsJoined c.args.first (c.loop-end.end + 1) fs (get_or ps c.args.first c.index-parts-first.result).page bs) (sym more)
    (joined_next fs c.loop-end.end inside c.args.first _ c.loop-end.bytes.items first c.loop-end.invariant)
