use Rattle.std.proofs.Common.{◌<◌, ◌≤◌, length, None, refl, sym, ◌∙◌, ap, arith}
use Rattle.std.proofs.lemmas.Bool.{false≢true}
use Rattle.txn_log.specs.Damaged.{Found, with_next}
use Rattle.image_entries.specs.Parts.{parts_found, no_found, pair_at, SizeFails}
use Rattle.image_entries.proofs.Firsts.{none_next, first_here}
use Rattle.image_entries.proofs.Behind.{part_got, parts_long, pairs_long, pair_first, whole_taken}
use Rattle.image_entries.proofs.keys.check_sizes.Goals as goal

pub returns-then-not-has_size-clause-told : goal.returns-then-not-has_size-clause-told
returns-then-not-has_size-clause-told c =
    let ps = c.args.parts.now in
    let fs = parts_found ps in
    let i = c.loop-i.i in
    let there : i < length fs = omega (arith, parts_long ps, c.loop-i-test.true) in
    let inside : i < length (with_next fs) = omega (arith, pairs_long fs, there) in
    record {
      part = pair_at i fs;
      first = first_here SizeFails (with_next fs) i (no_found, None) inside c.loop-i.invariant (λ is. false≢true (c.if-not-has_size.ensures.1 (record { is = is })));
      rule = refl;
      place = sym (ap (λ (f : Found). f.page) (pair_first fs i there ∙ part_got ps i c.index-parts-i.result c.loop-i-test.true));
    }

pub loop-i-preserved : goal.loop-i-preserved
loop-i-preserved c =
    let fs = parts_found c.args.parts.now in
    let inside : c.loop-i.i < length (with_next fs) = omega (arith, pairs_long fs, parts_long c.args.parts.now, c.loop-i-test.true) in
    none_next SizeFails (with_next fs) c.loop-i.i (no_found, None) inside c.loop-i.invariant (λ fails. fails (c.if-not-has_size.ensures.0 refl).is)

pub returns-clause-stands : goal.returns-clause-stands
returns-clause-stands c =
    let fs = parts_found c.args.parts.now in
    let all : length (with_next fs) ≤ c.loop-i.i = omega (arith, pairs_long fs, parts_long c.args.parts.now, c.loop-i-test.false) in
    whole_taken SizeFails (with_next fs) c.loop-i.i all c.loop-i.invariant
