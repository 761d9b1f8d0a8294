use Rattle.std.proofs.Common.{◌≡◌, ◌+◌, ◌≤◌, suc, length, subst, arith}
use Rattle.image_views.specs.Compared.{IsFoundBelow}
use Rattle.image_views.proofs.Places.{found_first, found_all}
use Rattle.image_views.proofs.check.check_views.Goals as goal

pub loop-number-init : goal.loop-number-init
loop-number-init g c = record {
  told = λ x can. found_first c.args.store.now.catalog (g.M.SortedMaps.maps c.args.store.now.tables) c.args.store.now.views x can;
  within = (let most : c.next_number-number-end.result ≡ length c.args.store.now.catalog + 1 = c.next_number-number-end.ensures in omega (arith, most));
}

pub returns : goal.returns
returns g c = λ x can.
    let ds = c.args.store.now.catalog in
    let most : c.next_number-number-end.result ≡ length ds + 1 = c.next_number-number-end.ensures in
    let within : c.loop-number.number ≤ c.next_number-number-end.result = c.loop-number.invariant.within in
    let ended : c.loop-number.number ≡ suc (length ds) = omega (arith, c.loop-number-test.false, most, within) in
    found_all ds (g.M.SortedMaps.maps c.args.store.now.tables) c.args.store.now.views x can c.loop-number.found (subst (λ k. IsFoundBelow x k c.loop-number.found) ended (c.loop-number.invariant.told x can))
