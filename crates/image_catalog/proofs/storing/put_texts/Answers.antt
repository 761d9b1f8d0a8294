use Rattle.std.proofs.Common.{◌∙◌, refl, arith}
use Rattle.txn_log.specs.Damaged.{in_texts, texts_found}
use Rattle.image_entries.specs.Parts.{parts_found}
use Rattle.image_catalog.proofs.Short.{all_short}
use Rattle.image_catalog.proofs.Putting.{few_texts, one_each, put_none, put_next, number_few, rest_short}
use Rattle.image_catalog.proofs.storing.put_texts.Goals as goal

pub loop-at-init : goal.loop-at-init
loop-at-init g c = record {
  put = put_none (parts_found c.args.parts.now) (g.M.SortedMaps.maps c.args.maps.now 0) c.requires.keys c.requires.empty;
  within = omega arith;
  others = λ i other. refl;
  other_rooms = λ i other. omega arith;
  limit = refl;
}

pub put_text_at-requires-clause-short : goal.put_text_at-requires-clause-short
put_text_at-requires-clause-short g c κs within =
    let fs = parts_found c.args.parts.now in
    rest_short fs c.loop-at.at c.loop-at.number (g.M.SortedMaps.maps c.loop-at.maps 0) c.loop-at.invariant.put (all_short fs c.requires.keys c.requires.sizes)

pub overflow_add-number : goal.overflow_add-number
overflow_add-number g c =
    let fs = parts_found c.args.parts.now in
    let made = c.requires.made in
    let few = number_few fs c.loop-at.at c.loop-at.number (g.M.SortedMaps.maps c.loop-at.maps 0) c.loop-at.invariant.put (few_texts (texts_found (in_texts fs).1) made.0 made.1) in
    record { fits = omega (arith, few) }

pub loop-at-preserved : goal.loop-at-preserved
loop-at-preserved g c =
    let fs = parts_found c.args.parts.now in
    let put = c.loop-at.invariant.put in
    record {
      put = put_next fs c.loop-at.at c.loop-at.number (g.M.SortedMaps.maps c.loop-at.maps 0) put c.in_ok-at.at (g.M.SortedMaps.maps c.put_text_at.new.maps 0)
          (c.in_ok-at.ensures.stored (texts_found put.done) put.has);
      within = c.in_ok-at.ensures.within;
      others = λ i other. c.put_text_at.ensures.others i other ∙ c.loop-at.invariant.others i other;
      other_rooms = λ i other. let now = c.put_text_at.ensures.other_rooms i other in let before = c.loop-at.invariant.other_rooms i other in omega (arith, now, before);
      limit = c.put_text_at.ensures.limit ∙ c.loop-at.invariant.limit;
    }

pub returns-in_err-at-clause-short : goal.returns-in_err-at-clause-short
returns-in_err-at-clause-short g c = all_short (parts_found c.args.parts.now) c.requires.keys c.requires.sizes

pub returns-in_err-at-clause-few : goal.returns-in_err-at-clause-few
returns-in_err-at-clause-few g c =
    let texts = texts_found (in_texts (parts_found c.args.parts.now)).1 in
    let made = c.requires.made in
    let few = few_texts texts made.0 made.1 in
    omega (arith, few)

pub returns-in_err-at-clause-many : goal.returns-in_err-at-clause-many
returns-in_err-at-clause-many g c = λ definitions made. one_each (texts_found (in_texts (parts_found c.args.parts.now)).1) definitions made

pub returns-clause-short : goal.returns-clause-short
returns-clause-short g c = all_short (parts_found c.args.parts.now) c.requires.keys c.requires.sizes

pub returns-clause-many : goal.returns-clause-many
returns-clause-many g c = λ definitions made. one_each (texts_found (in_texts (parts_found c.args.parts.now)).1) definitions made
