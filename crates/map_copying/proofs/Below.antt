-- Maps of which the indexes below a number are copied.
use Rattle.std.specs.Prelude.{◌≡◌, ℕ, zero, suc, ◌+◌, ◌-◌, ◌<◌, ◌≤◌, refl}
use Rattle.std.specs.FinMap.{empty}
use mathlib.Core.Path.{sym, ap, ◌∙◌}
use Rattle.std.proofs.Common.{arith}
use Rattle.iv_types.specs.Maps.{Map, last_index, map_size, size_below, used}
use Rattle.iv_types.proofs.MapSizes.{size-more, size_same}
use Rattle.table_store.proofs.Counting.{size_of_empty}

-- those from n on are empty: up to any further one the entries count no more
size_past : (maps : ℕ → Map) (n k : ℕ) → ((i : ℕ) → n ≤ i → maps i ≡ empty) → size_below maps (n + k) ≡ size_below maps n
size_past maps n zero h = let same : n + 0 ≡ n = omega arith in ap (size_below maps) same
size_past maps n (suc k) h =
    let next : n + suc k ≡ suc (n + k) = omega arith in
    let more = size-more maps (n + k) in
    let rest = size_past maps n k h in
    let none : map_size (maps (n + k)) ≡ 0 = ap map_size (h (n + k) (omega arith)) ∙ size_of_empty in
    let all : size_below maps (n + suc k) ≡ size_below maps (suc (n + k)) = ap (size_below maps) next in
    omega (arith, more, rest, none, all)

size_grows : (maps : ℕ → Map) (n k : ℕ) → size_below maps n ≤ size_below maps (n + k)
size_grows maps n zero = let same : size_below maps (n + 0) ≡ size_below maps n = ap (size_below maps) (let e : n + 0 ≡ n = omega arith in e) in omega (arith, same)
size_grows maps n (suc k) =
    let next : n + suc k ≡ suc (n + k) = omega arith in
    let more = size-more maps (n + k) in
    let rest = size_grows maps n k in
    let all : size_below maps (n + suc k) ≡ size_below maps (suc (n + k)) = ap (size_below maps) next in
    omega (arith, more, rest, all)

-- with the next index all is within what the whole counts
pub next_fits : (from to : ℕ → Map) (n most : ℕ) → n ≤ last_index → ((i : ℕ) → i < n → to i ≡ from i) → ((i : ℕ) → n ≤ i → to i ≡ empty) → used from ≤ most → used to + map_size (from n) ≤ most
next_fits from to n most low done rest fits = by (193 - n) refl
  where
    by : (k : ℕ) → k ≡ 193 - n → used to + map_size (from n) ≤ most
    by k is =
        let all : n + k ≡ 193 = omega (arith, low, is) in
        let here : used to ≡ size_below to n = ap (size_below to) (sym all) ∙ size_past to n k rest in
        let same : size_below to n ≡ size_below from n = size_same to from n done in
        let more = size-more from n in
        let grows : size_below from (suc n) ≤ size_below from (suc n + (k - 1)) = size_grows from (suc n) (k - 1) in
        let end : suc n + (k - 1) ≡ 193 = omega (arith, low, is) in
        let whole : size_below from (suc n + (k - 1)) ≡ used from = ap (size_below from) end in
        omega (arith, here, same, more, grows, whole, fits)
