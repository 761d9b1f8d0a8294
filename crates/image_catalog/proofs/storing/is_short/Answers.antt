use Rattle.std.proofs.Common.{length, arith}
use Rattle.std.proofs.lemmas.Bool.{leb-true, le-leb}
use Rattle.image_catalog.proofs.Kept.{short_by_length}
use Rattle.image_catalog.proofs.storing.is_short.Goals as goal

pub returns : goal.returns
returns c =
    let text = c.args.text.now in
    let by = short_by_length text in (
      λ e. by.0 (let few = leb-true (length text) 67108864 e in omega (arith, few)),
      λ short. le-leb (length text) 67108864 (let few = by.1 short in omega (arith, few)),
    )
