use Rattle.std.proofs.Common.{◌≡◌, ◌+◌, ◌%◌, ◌^◌, ℕ, drop, sym, ◌∙◌, subst}
use Rattle.std.proofs.lemmas.Bool.{false≢true}
use Rattle.byteorder.specs.Endian.{big_number}
use Rattle.image_entries.specs.Parts.{HasKey}
use Rattle.image_entries.proofs.KeyNumbers.{no_key, tail_number, further_there, further_so}
use Rattle.image_entries.proofs.keys.is_further.Goals as goal

pub returns-then-one-ne-PART_KEY : goal.returns-then-one-ne-PART_KEY
returns-then-one-ne-PART_KEY c = ((λ t. absurd (false≢true t)), (λ far. absurd (no_key c.args.one.now far.object far.part c.if-one-ne-PART_KEY.true far.first)))

pub returns : goal.returns
returns c =
    let one = c.args.one.now in
    let next = c.args.next.now in
    let object : c.read_u32-object.result ≡ big_number 4 one = c.read_u32-object.ensures in
    let part : c.read_u16-part.result ≡ big_number 2 (drop 4 one) = c.read_u16-part.ensures ∙ tail_number 2 4 one in (
      (λ t. further_there one (λ i. (c.type_inv.one i).fits) c.if-one-ne-PART_KEY.false next
          (subst (λ (x : ℕ × ℕ). HasKey next x.0 ((x.1 + 1) % 2 ^ 16)) (λ j. (object j, part j)) (c.is_key.ensures.0 t))),
      (λ far. c.is_key.ensures.1 (subst (λ (x : ℕ × ℕ). HasKey next x.0 ((x.1 + 1) % 2 ^ 16)) (λ j. (sym object j, sym part j))
          (further_so one (λ i. (c.type_inv.one i).fits) c.if-one-ne-PART_KEY.false next far))),
    )
