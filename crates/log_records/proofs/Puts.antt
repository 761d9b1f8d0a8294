-- Pieces that are put one behind the other.
use Rattle.std.proofs.Common.{◌≡◌, ◌<◌, ℕ, ℤ, pos, ◌+◌, ◌*◌, List, [], ◌∷◌, ◌++◌, length, take, get_or, refl, sym, ap, subst, ◌∙◌, append_assoc, length-append, arith}
use Rattle.std.proofs.lemmas.List.{take_more, append-nil}
use Rattle.std.proofs.lemmas.List.Concat.{flat_map-cons}
use Rattle.std.proofs.lemmas.Grind.{flat_map-append}
use Rattle.std.specs.List.{flat_map, AllByRecursion}
use Rattle.std.specs.Int.RustNames.{FitsSigned}
use Rattle.std.specs.Int.{w128}
use Rattle.log_records.specs.Buffer.{Filled}
use Rattle.log_records.specs.Spelling.{signed}

pub behind : {a b c : ℕ} {l m n x y : List ℕ} → Filled a l b m x → Filled b m c n y → Filled a l c n (x ++ y)
behind {a = a} {l = l} {x = x} {y = y} p q = record {
  place = omega (arith, p.place, q.place, length-append x y);
  bytes = q.bytes ∙ ap (λ (t : List ℕ). t ++ y) p.bytes ∙ append_assoc (take a l) x y;
}

pub nothing : (a : ℕ) (l : List ℕ) → Filled a l a l []
nothing a l = record { place = omega arith; bytes = sym (append-nil (take a l)) }

pub length-sums : (zs : List ℤ) → length (flat_map (signed w128) zs) ≡ 16 * length zs
length-sums [] = refl
length-sums (z ∷ zs) = omega (arith, length-sums zs, ap length (flat_map-cons (signed w128) z zs), length-append (signed w128 z) (flat_map (signed w128) zs))

pub one_more : {a b : ℕ} {l m : List ℕ} (zs : List ℤ) (i : ℕ) (z : ℤ) → i < length zs → z ≡ get_or zs i (pos 0) → Filled a l b m (flat_map (signed w128) (take i zs) ++ signed w128 z) → Filled a l b m (flat_map (signed w128) (take (i + 1) zs))
one_more {a = a} {b = b} {l = l} {m = m} zs i z lt is filled =
    let last : flat_map (signed w128) (z ∷ []) ≡ signed w128 z = flat_map-cons (signed w128) z [] ∙ append-nil (signed w128 z) in
    let more : take (i + 1) zs ≡ take i zs ++ z ∷ [] = take_more zs i (pos 0) lt ∙ ap (λ (k : ℤ). take i zs ++ k ∷ []) (sym is) in
    subst (Filled a l b m) (sym (ap (flat_map (signed w128)) more ∙ flat_map-append (signed w128) (take i zs) (z ∷ []) ∙ ap (λ (t : List ℕ). flat_map (signed w128) (take i zs) ++ t) last)) filled

all_push : (P : ℤ → Type 0) (zs : List ℤ) (z : ℤ) → AllByRecursion P zs → P z → AllByRecursion P (zs ++ z ∷ [])
all_push P [] z all pz = (pz, tt)
all_push P (y ∷ zs) z all pz = (all.0, all_push P zs z all.1 pz)

pub one_more_fits : (zs : List ℤ) (i : ℕ) (z : ℤ) → i < length zs → z ≡ get_or zs i (pos 0) → AllByRecursion (FitsSigned w128) (take i zs) → FitsSigned w128 z → AllByRecursion (FitsSigned w128) (take (i + 1) zs)
one_more_fits zs i z lt is all fits =
    let more : take (i + 1) zs ≡ take i zs ++ z ∷ [] = take_more zs i (pos 0) lt ∙ ap (λ (k : ℤ). take i zs ++ k ∷ []) (sym is) in
    subst (AllByRecursion (FitsSigned w128)) (sym more) (all_push (FitsSigned w128) (take i zs) z all fits)
