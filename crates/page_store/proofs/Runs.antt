-- Runs that keep the old image, and results.
use Rattle.std.proofs.Common.{ℕ, List, Result, Ok, Err}
use Rattle.std.specs.Result.{OnOk}
use Rattle.disk_io.specs.Disk.{Elapses}
use Rattle.disk_io.proofs.Moments.{started, goes_on, then_on}
use Rattle.page_store.specs.Kept.{IsOld, Guards, KeepsOld}

pub ok_of : {T E : Type 0} (P : Type 0) (r : Result T E) → P → OnOk r P
ok_of P (Ok x) p = p
ok_of P (Err e) p = tt

pub ok_map : {T E : Type 0} (P Q : Type 0) (r : Result T E) → (P → Q) → OnOk r P → OnOk r Q
ok_map P Q (Ok x) f p = f p
ok_map P Q (Err e) f p = tt

module _ {D : Type 0} (moment : D → ℕ) (left_since : D → ℕ → List ℕ → Type 0) (may_leave : D → List ℕ → Type 0) (room pages k : ℕ) (s : List ℕ) where
  abbrev Keeps : D → D → Type 0
  Keeps = KeepsOld moment left_since may_leave room pages k s

  pub keeps_then : (old mid new : D) → Keeps old mid → Keeps mid new → Keeps old new
  keeps_then old mid new one two = record {
    guards = two.guards;
    moments = then_on moment left_since old mid new (IsOld room pages k s) (IsOld room pages k s) one.moments two.moments (λ c is. is);
  }

  -- no call
  pub keeps_none : ((disk : D) (c : List ℕ) → left_since disk (moment disk) c → may_leave disk c) → (old : D) → Guards may_leave room pages k s old → Keeps old old
  keeps_none only_now old guards = record { guards = guards; moments = started moment left_since old (IsOld room pages k s) (λ c left. guards c (only_now old c left)) }

  -- a call after which a crash leaves no more than before
  pub keeps_less : ((disk : D) (c : List ℕ) → left_since disk (moment disk) c → may_leave disk c) → (old new : D) → Guards may_leave room pages k s old
      → ((c : List ℕ) → may_leave new c → may_leave old c) → Elapses (moment old) (moment new) (left_since old) (left_since new) (may_leave new) → Keeps old new
  keeps_less only_now old new guards less time = record {
    guards = λ c left. guards c (less c left);
    moments = goes_on moment left_since old old new (IsOld room pages k s) (may_leave new)
        (started moment left_since old (IsOld room pages k s) (λ c left. guards c (only_now old c left))) time (λ c left. guards c (less c left));
  }
