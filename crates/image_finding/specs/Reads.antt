-- No clause of `run` rests on this module: it serves contracts between crates.
--
-- What reads leave of a disk.
use Rattle.std.specs.Prelude.{◌≡◌, ℕ, ◌≤◌, List}
use Rattle.disk_io.specs.Disk.{Elapses}

-- A disk that was only read reads as before. A crash now, or at a moment since one that was before the reads, leaves nothing that it
-- could not leave without them.
pub record IsOnlyRead {D : Type 0} (is_told : Type 0) (size_of : D → ℕ) (seen : D → List ℕ) (may_leave : D → List ℕ → Type 0) (moment : D → ℕ) (left_since : D → ℕ → List ℕ → Type 0) (old new : D) : Type 0 where
  pub same_size : size_of new ≡ size_of old
  pub same_bytes : is_told → seen new ≡ seen old
  pub crash : (c : List ℕ) → may_leave new c → may_leave old c
  pub time : Elapses (moment old) (moment new) (left_since old) (left_since new) (may_leave new)
  pub nothing_new : (t : ℕ) (c : List ℕ) → t ≤ moment old → left_since new t c → left_since old t c
