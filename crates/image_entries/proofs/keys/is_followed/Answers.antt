use Rattle.std.proofs.Common.{◌≡◌, ℕ, ◌+◌, ◌<◌, List, length, get_or, sym, ◌∙◌, ap, subst, arith}
use Rattle.std.proofs.lemmas.Bool.{false≢true}
use Rattle.txn_log.specs.Damaged.{key_in}
use Rattle.image_entries.specs.Parts.{parts_found, no_found, AreFurther}
use Rattle.image_entries.proofs.Behind.{part_got, parts_long}
use Rattle.image_entries.proofs.keys.is_followed.Goals as goal

pub returns-then-i-parts : goal.returns-then-i-parts
returns-then-i-parts c = (
  (λ t. absurd (false≢true t)),
  (λ followed. let inside = followed.inside in absurd (omega (arith, inside, parts_long c.args.parts.now, c.if-i-parts.true))),
)

pub returns : goal.returns
returns c =
    let ps = c.args.parts.now in
    let fs = parts_found ps in
    let next : c.args.i + 1 < length ps = omega (arith, c.requires, c.if-i-parts.false) in
    let inside : c.args.i + 1 < length fs = omega (arith, parts_long ps, next) in
    let key : c.as_slice.result.now ≡ key_in (get_or fs c.args.i no_found) =
    c.as_slice.ensures ∙ sym (ap key_in (part_got ps c.args.i c.index-parts-i.result c.requires)) in
    let other : c.as_slice-2.result.now ≡ key_in (get_or fs (c.args.i + 1) no_found) =
    c.as_slice-2.ensures ∙ sym (ap key_in (part_got ps (c.args.i + 1) c.index-parts-i-2.result next)) in (
      (λ t. record { inside = inside; further = subst (λ (k : List ℕ × List ℕ). AreFurther k.0 k.1) (λ j. (key j, other j)) (c.is_further.ensures.0 t) }),
      (λ followed. c.is_further.ensures.1 (subst (λ (k : List ℕ × List ℕ). AreFurther k.0 k.1) (λ j. (sym key j, sym other j)) followed.further)),
    )
