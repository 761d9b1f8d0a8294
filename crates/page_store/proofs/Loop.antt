-- One page more in the loop over the pages.
use Rattle.std.proofs.Common.{◌≡◌, ◌⊎◌, inl, inr, Bool, ℕ, zero, suc, ◌+◌, ◌*◌, ◌<◌, ◌≤◌, List, length, get_or, set, Some, refl, sym, ◌∙◌, ap, subst, arith, get_or-set_same, get_or-set_other}
use Rattle.std.proofs.lemmas.Bool.{cases_lt}
use Rattle.disk_io.specs.Bytes.{part_same}
use Rattle.page_store.specs.Image.{slot_at, named}
use Rattle.page_store.specs.Publish.{page_if}
use Rattle.page_store.specs.Kept.{Outside}

-- a page by its slot, where another page's slots changed
other_page : (room p q m : ℕ) (d c : List ℕ) → (q < p) ⊎ (p < q) → m ≤ 2 → slot_at room q 0 + 16384 ≤ length d → Outside (slot_at room p 0) 16384 d c → named room q m c ≡ named room q m d
other_page room p q zero d c other low fits out = refl
other_page room p q (suc j) d c other low fits out = ap Some (part_same (slot_at room q j) 8192 c d out.size (omega (arith, fits, low)) (λ i lo hi. out.same i (elim other [
  | inl below ↦ inl (omega arith)
  | inr above ↦ inr (omega arith)
])))

-- the page at hand, as it was at first
pub as_first : (room p count : ℕ) (d first : List ℕ) → length d ≡ 278528 + 2 * room + 16384 * count → p < count → length d ≡ length first
    → ((i : ℕ) → slot_at room p 0 ≤ i → get_or d i 0 ≡ get_or first i 0) → (m : ℕ) → m ≤ 2 → named room p m d ≡ named room p m first
as_first room p count d first size inside sizes ahead zero le = refl
as_first room p count d first size inside sizes ahead (suc j) le = ap Some (part_same (slot_at room p j) 8192 d first sizes (omega (arith, size, sizes, inside)) (λ i lo hi. ahead i (omega arith)))

pub rest_step : (p b : ℕ) (header fn : List ℕ) → ((q : ℕ) → p ≤ q → get_or header (64 + q) 0 ≡ get_or fn (64 + q) 0) → (q : ℕ) → p + 1 ≤ q → get_or (set header (64 + p) b) (64 + q) 0 ≡ get_or fn (64 + q) 0
rest_step p b header fn rest q le = get_or-set_other header (64 + p) (64 + q) b 0 (λ e. omega (arith, e, le)) ∙ rest q (omega arith)

module _ (room p b count : ℕ) (header fn bytes d d' : List ℕ) (stored : List Bool) (size : length d ≡ 278528 + 2 * room + 16384 * count) (inside : p < count) (long : 64 + p < length header)
    (out : Outside (slot_at room p 0) 16384 d d') where
  pub done_step : (b ≤ 2) × (named room p b d' ≡ page_if stored bytes p)
      → ((q : ℕ) → q < p → (get_or header (64 + q) 0 ≤ 2) × (named room q (get_or header (64 + q) 0) d ≡ page_if stored bytes q))
      → (q : ℕ) → q < p + 1 → (get_or (set header (64 + p) b) (64 + q) 0 ≤ 2) × (named room q (get_or (set header (64 + p) b) (64 + q) 0) d' ≡ page_if stored bytes q)
  done_step here done q lt = elim (cases_lt q p) [
    | inl below ↦
        let same : get_or (set header (64 + p) b) (64 + q) 0 ≡ get_or header (64 + q) 0 = get_or-set_other header (64 + p) (64 + q) b 0 (λ e. omega (arith, e, below)) in
        let low = (done q below).0 in
        subst (λ m. (m ≤ 2) × (named room q m d' ≡ page_if stored bytes q)) (sym same)
        (low, other_page room p q (get_or header (64 + q) 0) d d' (inl below) low (omega (arith, size)) out ∙ (done q below).1)
    | inr above ↦
        let at : q ≡ p = omega arith in
        subst (λ n. (get_or (set header (64 + p) b) (64 + n) 0 ≤ 2) × (named room n (get_or (set header (64 + p) b) (64 + n) 0) d' ≡ page_if stored bytes n)) (sym at)
        (subst (λ m. (m ≤ 2) × (named room p m d' ≡ page_if stored bytes p)) (sym (get_or-set_same header (64 + p) b 0 long)) here)
  ]

  -- what lies behind is as it was at first
  pub ahead_step : (first : List ℕ) → ((i : ℕ) → slot_at room p 0 ≤ i → get_or d i 0 ≡ get_or first i 0) → (i : ℕ) → slot_at room (p + 1) 0 ≤ i → get_or d' i 0 ≡ get_or first i 0
  ahead_step first ahead i le = out.same i (inr (omega arith)) ∙ ahead i (omega arith)

  pub same_step : (first : List ℕ) → length d ≡ length first → ((i : ℕ) → slot_at room p 0 ≤ i → get_or d i 0 ≡ get_or first i 0) → get_or fn (64 + p) 0 ≤ 2
      → (named room p (get_or fn (64 + p) 0) d ≡ page_if stored bytes p → b ≡ get_or fn (64 + p) 0)
      → ((q : ℕ) → q < p → named room q (get_or fn (64 + q) 0) first ≡ page_if stored bytes q → get_or header (64 + q) 0 ≡ get_or fn (64 + q) 0)
      → (q : ℕ) → q < p + 1 → named room q (get_or fn (64 + q) 0) first ≡ page_if stored bytes q → get_or (set header (64 + p) b) (64 + q) 0 ≡ get_or fn (64 + q) 0
  same_step first sizes ahead low here same q lt is = elim (cases_lt q p) [
    | inl below ↦ get_or-set_other header (64 + p) (64 + q) b 0 (λ e. omega (arith, e, below)) ∙ same q below is
    | inr above ↦
        let at : q ≡ p = omega arith in
        let is_p : named room p (get_or fn (64 + p) 0) first ≡ page_if stored bytes p = subst (λ n. named room n (get_or fn (64 + n) 0) first ≡ page_if stored bytes n) at is in
        subst (λ n. get_or (set header (64 + p) b) (64 + n) 0 ≡ get_or fn (64 + n) 0) (sym at)
        (get_or-set_same header (64 + p) b 0 long ∙ here (as_first room p count d first size inside sizes ahead (get_or fn (64 + p) 0) low ∙ is_p))
  ]
