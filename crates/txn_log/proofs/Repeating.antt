-- What an opening publishes is opened again.
use Rattle.std.specs.Prelude.{◌≡◌, ℕ, zero, suc, ◌+◌, ◌-◌, ◌*◌, ◌/◌, ◌≤◌, List, [], ◌∷◌, ◌++◌, map, length, take, drop, min}
use Rattle.std.specs.List.{sum}
use Rattle.std.specs.FinMap as maps
use mathlib.Core.Path.{refl, sym, subst}
use Rattle.std.proofs.Common.{arith}
use Rattle.std.proofs.lemmas.List.{length-take, length-drop}
use Rattle.std.proofs.lemmas.List.Sums.{sum_by-cons}
use Rattle.txn_machine.specs.Log.{Within, row_entries, view_entries, definition_entries, part_bytes, entry_bytes}
use Rattle.txn_log.specs.Replay.{Pages, Reading, recovered}
use Rattle.txn_log.specs.Laws.{RepeatLaw}
use Rattle.txn_log.specs.Stored.{parts_entries, first_parts, in_parts}
use Rattle.txn_log.specs.Refused.{Placed, PlacedImage, IsFine, texts_in}

-- ---- the bytes of definitions

-- enough parts have the text's bytes and those of their keys
parts_cost : (n : ℕ) (text : List ℕ) → length text ≤ n * part_bytes → parts_entries (first_parts n text) ≡ length text + entry_bytes 6 0 * n
parts_cost zero text h = omega arith
parts_cost (suc n) text h =
    let taken : length (take part_bytes text) ≡ min part_bytes (length text) = length-take part_bytes text in
    let left : length (drop part_bytes text) ≡ length text - part_bytes = length-drop part_bytes text in
    let rest : parts_entries (first_parts n (drop part_bytes text)) ≡ length (drop part_bytes text) + entry_bytes 6 0 * n =
    parts_cost n (drop part_bytes text) (omega (arith, left, h)) in
    let both : parts_entries (first_parts (suc n) text) ≡ entry_bytes 6 (length (take part_bytes text)) + parts_entries (first_parts n (drop part_bytes text)) =
    sum_by-cons (λ n. n) (entry_bytes 6 (length (take part_bytes text))) (map (λ part. entry_bytes 6 (length part)) (first_parts n (drop part_bytes text))) in
    omega (arith, taken, left, rest, both)

text_cost : (text : List ℕ) → parts_entries (in_parts text) ≡ definition_entries text
text_cost text = parts_cost ((length text + (part_bytes - 1)) / part_bytes) text (omega arith)

both_cost : (texts : List (List (List ℕ))) (more : List (List ℕ)) → sum (map parts_entries (texts ++ map in_parts more)) ≡ sum (map parts_entries texts) + sum (map definition_entries more)
both_cost [] [] = refl
both_cost [] (text ∷ more) =
    let here : parts_entries (in_parts text) ≡ definition_entries text = text_cost text in
    let rest : sum (map parts_entries (map in_parts more)) ≡ 0 + sum (map definition_entries more) = both_cost [] more in
    let one : sum (map parts_entries (map in_parts (text ∷ more))) ≡ parts_entries (in_parts text) + sum (map parts_entries (map in_parts more)) =
    sum_by-cons (λ n. n) (parts_entries (in_parts text)) (map parts_entries (map in_parts more)) in
    let other : sum (map definition_entries (text ∷ more)) ≡ definition_entries text + sum (map definition_entries more) = sum_by-cons (λ n. n) (definition_entries text) (map definition_entries more) in
    omega (arith, here, rest, one, other)
both_cost (parts ∷ texts) more =
    let rest : sum (map parts_entries (texts ++ map in_parts more)) ≡ sum (map parts_entries texts) + sum (map definition_entries more) = both_cost texts more in
    let one : sum (map parts_entries (parts ∷ texts ++ map in_parts more)) ≡ parts_entries parts + sum (map parts_entries (texts ++ map in_parts more)) =
    sum_by-cons (λ n. n) (parts_entries parts) (map parts_entries (texts ++ map in_parts more)) in
    let other : sum (map parts_entries (parts ∷ texts)) ≡ parts_entries parts + sum (map parts_entries texts) = sum_by-cons (λ n. n) (parts_entries parts) (map parts_entries texts) in
    omega (arith, rest, one, other)

-- ---- an image without records

none_placed : (rs : List Placed) → map (λ r. r.entry) rs ≡ [] → rs ≡ []
none_placed [] e = refl
none_placed (r ∷ rs) e = absurd (cc)

bare : PlacedImage → Reading → PlacedImage
bare i r = record { pages = recovered r; carried = []; after = []; texts = i.texts ++ map in_parts (texts_in i.after); data_limit = i.data_limit }

bare_fine : (i : PlacedImage) (f : IsFine i) → (g : IsFine (bare i f.reading)) × (recovered g.reading ≡ recovered f.reading)
unfolding bare
bare_fine i f =
    let p : Pages = recovered f.reading in
    let rows : ℕ = sum (map (λ e. row_entries p.db.schema e.0 e.1) (maps.entries p.db.rows)) + view_entries p.view in
    let same : rows + sum (map parts_entries i.texts) + sum (map definition_entries (texts_in i.after)) ≡ rows + sum (map parts_entries (i.texts ++ map in_parts (texts_in i.after))) + 0 =
    (let both = both_cost i.texts (texts_in i.after) in omega (arith, both)) in (
      record {
        reading = record { pages = p; carried = []; after = [] };
        sound = record {
          reverses = record { passes = record { pages = refl; carried = tt; after = tt }; back = tt };
          in_range = f.sound.in_range;
          within = subst (Within i.data_limit) same f.sound.within;
        };
        fresh_at = f.fresh_at;
      },
      refl,
    )

pub repeats : RepeatLaw
unfolding bare
repeats i j f same limit texts =
    let pages : j.pages ≡ recovered f.reading = same.pages in
    let carried : j.carried ≡ [] = none_placed j.carried same.carried in
    let after : j.after ≡ [] = none_placed j.after same.after in
    let is : j ≡ bare i f.reading = λ x. record { pages = pages x; carried = carried x; after = after x; texts = texts x; data_limit = limit x } in
    subst (λ (k : PlacedImage). (g : IsFine k) × (recovered g.reading ≡ recovered f.reading)) (sym is) (bare_fine i f)
