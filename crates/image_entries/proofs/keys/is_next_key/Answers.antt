use Rattle.std.proofs.Common.{◌≡◌, ℕ, ◌-◌, ◌<◌, List, length, get_or, sym, ◌∙◌, ap, subst, arith}
use Rattle.txn_log.specs.Damaged.{key_in}
use Rattle.image_entries.specs.Parts.{parts_found, no_found, HasKey, ComeNext}
use Rattle.image_entries.proofs.Behind.{part_got, parts_long, first_key, first_so, next_key_there, next_key_so}
use Rattle.image_entries.proofs.keys.is_next_key.Goals as goal

pub returns-then-i-eq0 : goal.returns-then-i-eq0
returns-then-i-eq0 c =
    let ps = c.args.parts.now in
    let fs = parts_found ps in
    let key : c.as_slice-key.result.now ≡ key_in (get_or fs c.args.i no_found) =
    c.as_slice-key.ensures ∙ sym (ap key_in (part_got ps c.args.i c.index-parts-i.result c.requires)) in (
      (λ t. first_key fs c.args.i c.if-i-eq0.true (subst (λ (k : List ℕ). HasKey k 1 0) key (c.is_key.ensures.0 t))),
      (λ has. c.is_key.ensures.1 (subst (λ (k : List ℕ). HasKey k 1 0) (sym key) (first_so fs c.args.i c.if-i-eq0.true has))),
    )

pub returns : goal.returns
returns c =
    let ps = c.args.parts.now in
    let fs = parts_found ps in
    let some : 0 < c.args.i = omega arith in
    let inside : c.args.i < length fs = omega (arith, parts_long ps, c.requires) in
    let key : c.as_slice-key.result.now ≡ key_in (get_or fs c.args.i no_found) =
    c.as_slice-key.ensures ∙ sym (ap key_in (part_got ps c.args.i c.index-parts-i.result c.requires)) in
    let last : c.as_slice.result.now ≡ key_in (get_or fs (c.args.i - 1) no_found) =
    c.as_slice.ensures ∙ sym (ap key_in (part_got ps (c.args.i - 1) c.index-parts-i-2.result (omega (arith, c.requires)))) in (
      (λ t. next_key_there fs c.args.i some inside (subst (λ (k : List ℕ × List ℕ). ComeNext k.0 k.1) (λ j. (last j, key j)) (c.comes_next.ensures.0 t))),
      (λ has. c.comes_next.ensures.1 (subst (λ (k : List ℕ × List ℕ). ComeNext k.0 k.1) (λ j. (sym last j, sym key j)) (next_key_so fs c.args.i some inside has))),
    )
