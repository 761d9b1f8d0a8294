use Rattle.std.proofs.Common.{◌≡◌, ◌*◌, length, subst, arith}
use Rattle.std.specs.Option.{option_copied}
use Rattle.image_views.specs.Rows.{AreBytes}
use Rattle.image_views.proofs.Alike.{bytes_long}
use Rattle.image_views.proofs.numbers.numbers_in.Goals as goal

pub numbers_of-requires : goal.numbers_of-requires
numbers_of-requires c =
    let many = bytes_long c.in-Some.bytes.now (subst (λ o. AreBytes (option_copied o)) c.in-Some.is c.requires) in
    let long : length c.in-Some.bytes.now ≡ 16 * many.0 = many.1 in
    omega (arith, long)
