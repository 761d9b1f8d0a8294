use Rattle.std.proofs.Common.{◌≡◌, drop, sym, ◌∙◌, refl}
use Rattle.std.proofs.lemmas.Bool.{false≢true}
use Rattle.byteorder.specs.Endian.{big_number}
use Rattle.image_entries.proofs.KeyNumbers.{no_key, tail_number, key_there, numbers_of}
use Rattle.image_entries.proofs.keys.is_key.Goals as goal

pub returns-then-key-ne-PART_KEY : goal.returns-then-key-ne-PART_KEY
returns-then-key-ne-PART_KEY c = ((λ t. absurd (false≢true t)), (λ has. absurd (no_key c.args.key.now c.args.object c.args.part c.if-key-ne-PART_KEY.true has)))

pub returns-then-read_u32-object : goal.returns-then-read_u32-object
returns-then-read_u32-object c =
    let object : c.read_u32.result ≡ big_number 4 c.args.key.now = c.read_u32.ensures in (
      (λ t. absurd (false≢true t)),
      (λ has. absurd (c.if-read_u32-object.true (object ∙ (numbers_of c.args.key.now c.args.object c.args.part c.ranges.object.fits c.ranges.part.fits has).0))),
    )

pub returns-then-read_u16-part : goal.returns-then-read_u16-part
returns-then-read_u16-part c =
    let part : c.read_u16.result ≡ big_number 2 (drop 4 c.args.key.now) = c.read_u16.ensures ∙ tail_number 2 4 c.args.key.now in (
      (λ t. absurd (false≢true t)),
      (λ has. absurd (c.if-read_u16-part.true (part ∙ (numbers_of c.args.key.now c.args.object c.args.part c.ranges.object.fits c.ranges.part.fits has).1))),
    )

pub returns : goal.returns
returns c =
    let object : c.read_u32.result ≡ big_number 4 c.args.key.now = c.read_u32.ensures in
    let part : c.read_u16.result ≡ big_number 2 (drop 4 c.args.key.now) = c.read_u16.ensures ∙ tail_number 2 4 c.args.key.now in (
      (λ t. key_there c.args.key.now (λ i. (c.type_inv.key i).fits) c.if-key-ne-PART_KEY.false c.args.object c.args.part (sym object ∙ c.if-read_u32-object.false) (sym part ∙ c.if-read_u16-part.false)),
      (λ has. refl),
    )
