use Rattle.std.proofs.Common.{◌≡◌, ◌<◌, ◌≤◌, length, get_or, refl, sym, ◌∙◌, ap, arith}
use Rattle.std.proofs.lemmas.Bool.{false≢true}
use Rattle.txn_log.specs.Damaged.{Found}
use Rattle.image_entries.specs.Parts.{parts_found, no_found}
use Rattle.image_entries.proofs.Behind.{part_got, parts_long, size_most, size_full, size_fewer, size_followed, not_so, never_so}
use Rattle.image_entries.proofs.keys.has_size.Goals as goal

pub returns-then-bytes-gt-PART_BYTES : goal.returns-then-bytes-gt-PART_BYTES
returns-then-bytes-gt-PART_BYTES c =
    let ps = c.args.parts.now in
    let fs = parts_found ps in
    let inside : c.args.i < length fs = omega (arith, parts_long ps, c.requires) in
    let len : length c.as_slice-bytes.result.now ≡ length (get_or fs c.args.i no_found).entry.1 =
    ap length (c.as_slice-bytes.ensures ∙ sym (ap (λ (f : Found). f.entry.1) (part_got ps c.args.i c.index-parts-i.result c.requires))) in (
      (λ t. absurd (false≢true t)),
      (λ has. let most = size_most fs c.args.i inside has in absurd (omega (arith, most, len, c.if-bytes-gt-PART_BYTES.true))),
    )

pub returns-then-bytes-eq-PART_BYTES : goal.returns-then-bytes-eq-PART_BYTES
returns-then-bytes-eq-PART_BYTES c =
    let ps = c.args.parts.now in
    let fs = parts_found ps in
    let inside : c.args.i < length fs = omega (arith, parts_long ps, c.requires) in
    let len : length c.as_slice-bytes.result.now ≡ length (get_or fs c.args.i no_found).entry.1 =
    ap length (c.as_slice-bytes.ensures ∙ sym (ap (λ (f : Found). f.entry.1) (part_got ps c.args.i c.index-parts-i.result c.requires))) in (
      (λ t. size_full fs c.args.i inside (sym len ∙ c.if-bytes-eq-PART_BYTES.true)),
      (λ has. refl),
    )

pub returns : goal.returns
returns c =
    let ps = c.args.parts.now in
    let fs = parts_found ps in
    let inside : c.args.i < length fs = omega (arith, parts_long ps, c.requires) in
    let len : length c.as_slice-bytes.result.now ≡ length (get_or fs c.args.i no_found).entry.1 =
    ap length (c.as_slice-bytes.ensures ∙ sym (ap (λ (f : Found). f.entry.1) (part_got ps c.args.i c.index-parts-i.result c.requires))) in
    let most : length (get_or fs c.args.i no_found).entry.1 ≤ 1024 = omega (arith, len, c.if-bytes-gt-PART_BYTES.false) in (
      (λ t. size_fewer fs c.args.i inside most (λ followed. never_so c.is_followed.result t (c.is_followed.ensures.1 followed))),
      (λ has. not_so c.is_followed.result (λ yes. c.if-bytes-eq-PART_BYTES.false (len ∙ size_followed fs c.args.i (c.is_followed.ensures.0 yes) has))),
    )
