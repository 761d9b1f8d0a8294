-- What reads leave of a disk, one after another.
use Rattle.std.proofs.Common.{◌≡◌, inl, ⊎_elim, ℕ, ◌≤◌, List, refl, ◌∙◌, arith}
use Rattle.disk_io.specs.Disk.{Elapses}
use Rattle.image_finding.specs.Reads.{IsOnlyRead}

-- none
pub no_read : {D : Type 0} {is_told : Type 0} {size_of : D → ℕ} {seen : D → List ℕ} {may_leave : D → List ℕ → Type 0} {moment : D → ℕ} {left_since : D → ℕ → List ℕ → Type 0} {disk : D}
    → IsOnlyRead is_told size_of seen may_leave moment left_since disk disk
no_read = record {
  same_size = refl;
  same_bytes = λ told. refl;
  crash = λ c left. left;
  time = record { later = omega arith; nothing_else = λ t c le left. inl left; keeps = λ t c le left. left };
  nothing_new = λ t c le left. left;
}

-- one
pub one_read : {D : Type 0} {is_told : Type 0} {size_of : D → ℕ} {seen : D → List ℕ} {may_leave : D → List ℕ → Type 0} {moment : D → ℕ} {left_since : D → ℕ → List ℕ → Type 0} {old new : D}
    → ((disk : D) (t : ℕ) (c : List ℕ) → t ≤ moment disk → may_leave disk c → left_since disk t c)
    → size_of new ≡ size_of old → (is_told → seen new ≡ seen old) → ((c : List ℕ) → may_leave new c → may_leave old c)
    → Elapses (moment old) (moment new) (left_since old) (left_since new) (may_leave new)
    → IsOnlyRead is_told size_of seen may_leave moment left_since old new
one_read {old = old} counts_now size same crash time = record {
  same_size = size;
  same_bytes = same;
  crash = crash;
  time = time;
  nothing_new = λ t c le left. ⊎_elim (λ past. past) (λ now. counts_now old t c le (crash c now)) (time.nothing_else t c le left);
}

-- one more
pub read_on : {D : Type 0} {is_told : Type 0} {size_of : D → ℕ} {seen : D → List ℕ} {may_leave : D → List ℕ → Type 0} {moment : D → ℕ} {left_since : D → ℕ → List ℕ → Type 0} {old mid new : D}
    → IsOnlyRead is_told size_of seen may_leave moment left_since old mid → IsOnlyRead is_told size_of seen may_leave moment left_since mid new
    → IsOnlyRead is_told size_of seen may_leave moment left_since old new
read_on one two = record {
  same_size = two.same_size ∙ one.same_size;
  same_bytes = λ told. two.same_bytes told ∙ one.same_bytes told;
  crash = λ c left. one.crash c (two.crash c left);
  time = record {
    later = omega (arith, one.time.later, two.time.later);
    nothing_else = λ t c le left. inl (one.nothing_new t c le (two.nothing_new t c (omega (arith, le, one.time.later)) left));
    keeps = λ t c le left. two.time.keeps t c (omega (arith, le, one.time.later)) (one.time.keeps t c le left);
  };
  nothing_new = λ t c le left. one.nothing_new t c le (two.nothing_new t c (omega (arith, le, one.time.later)) left);
}
