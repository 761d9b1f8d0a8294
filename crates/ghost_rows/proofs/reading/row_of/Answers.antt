use Rattle.std.proofs.Common.{◌≡◌, ◌*◌, length, List, ◌∷◌, drop, slice_index_or, ℤ, sym, ap, ◌∙◌, arith, to_z, of_z}
use Rattle.std.specs.Int.{w128}
use Rattle.std.proofs.lemmas.Int.{to_z-of_z}
use Rattle.ghost_rows.specs.Numbers.{numbers_bytes}
use Rattle.ghost_rows.proofs.NumberSteps.{length_numbers}
use Rattle.ghost_rows.proofs.reading.row_of.Goals as goal

pub numbers_of-requires : goal.numbers_of-requires
numbers_of-requires c =
    let l : length c.args.value.now ≡ 16 * length (c.requires.count ∷ c.requires.sums) = ap length c.requires.bytes ∙ length_numbers (c.requires.count ∷ c.requires.sums) in
    omega (arith, l)

pub returns : goal.returns
returns c =
    let n : ℤ = c.requires.count in
    let sums : List ℤ = c.requires.sums in
    let r : ℤ = c.remove-count.result in
    let found : c.in_ok-sums.sums.items ≡ n ∷ sums = c.in_ok-sums.ensures.value (n ∷ sums) c.requires.fits c.requires.bytes in
    let first : r ≡ n = c.remove-count.ensures.value ∙ ap (λ (l : List ℤ). slice_index_or l 0 r) found in
    let count : to_z w128 (of_z w128 r) ≡ n = ap (λ (z : ℤ). to_z w128 (of_z w128 z)) first ∙ to_z-of_z w128 n c.requires.fits.0 in
    let rest : c.from_vec.result ≡ sums = c.from_vec.ensures ∙ (c.remove-count.ensures.items ∙ ap (λ (l : List ℤ). drop 1 l) found) in
    record {
      group = c.from_vec-group.ensures ∙ c.in_ok-from_slice.ensures.items;
      bytes = c.requires.bytes ∙ sym (ap (λ (z : ℤ). numbers_bytes (z ∷ c.from_vec.result)) count ∙ ap (λ (l : List ℤ). numbers_bytes (n ∷ l)) rest);
    }
