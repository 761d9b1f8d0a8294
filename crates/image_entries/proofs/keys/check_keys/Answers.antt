use Rattle.std.proofs.Common.{◌<◌, ◌≤◌, length, get_or, refl, sym, ap, arith}
use Rattle.std.proofs.lemmas.Bool.{false≢true}
use Rattle.txn_log.specs.Damaged.{Found}
use Rattle.image_entries.specs.Parts.{parts_found, no_found, KeyFails}
use Rattle.image_entries.proofs.Firsts.{none_next, first_here}
use Rattle.image_entries.proofs.Behind.{part_got, parts_long, whole_taken}
use Rattle.image_entries.proofs.keys.check_keys.Goals as goal

pub returns-then-not-is_next_key-clause-told : goal.returns-then-not-is_next_key-clause-told
returns-then-not-is_next_key-clause-told c =
    let ps = c.args.parts.now in
    let fs = parts_found ps in
    let i = c.loop-i.i in
    let inside : i < length fs = omega (arith, parts_long ps, c.loop-i-test.true) in
    record {
      part = get_or fs i no_found;
      first = first_here KeyFails fs i no_found inside c.loop-i.invariant (λ is. false≢true (c.if-not-is_next_key.ensures.1 (record { is = is })));
      rule = refl;
      place = sym (ap (λ (f : Found). f.page) (part_got ps i c.index-parts-i.result c.loop-i-test.true));
    }

pub loop-i-preserved : goal.loop-i-preserved
loop-i-preserved c =
    let fs = parts_found c.args.parts.now in
    let inside : c.loop-i.i < length fs = omega (arith, parts_long c.args.parts.now, c.loop-i-test.true) in
    none_next KeyFails fs c.loop-i.i no_found inside c.loop-i.invariant (λ fails. fails (c.if-not-is_next_key.ensures.0 refl).is)

pub returns-clause-stands : goal.returns-clause-stands
returns-clause-stands c =
    let fs = parts_found c.args.parts.now in
    let all : length fs ≤ c.loop-i.i = omega (arith, parts_long c.args.parts.now, c.loop-i-test.false) in
    whole_taken KeyFails fs c.loop-i.i all c.loop-i.invariant
