-- How a header begins, by its first bytes.
use Rattle.std.proofs.Common.{◌≡◌, ◌==◌, ◌&&◌, ℕ, ◌+◌, ◌<◌, ◌≤◌, List, length, get_or, take, drop, sym, ◌∙◌, ap, arith}
use Rattle.std.proofs.lemmas.List.{get_or-drop, get_or-take}
use Rattle.std.specs.Str.{bytes_eq}
use Rattle.byteorder.specs.Endian.{big_number}
use Rattle.disk_io.specs.Disk.{part, Only, Elapses, LeavesOnly}
use Rattle.disk_io.specs.Bytes.{part-part, byte-part}
use Rattle.disk_io.proofs.Moments.{started, goes_on}
use Rattle.page_store.specs.Image.{magic, number_at}
use Rattle.page_store.proofs.Old.{from_same}

module _ (at : ℕ) (s into : List ℕ) (is : into ≡ part at 32 s) (fits : at + 32 ≤ length s) where
  byte : (i : ℕ) → i < 32 → get_or into i 0 ≡ get_or s (at + i) 0
  byte i lt = ap (λ l. get_or l i 0) is ∙ byte-part at 32 s i lt

  pub gate_is : get_or into 0 0 ≡ get_or s at 0
  gate_is = byte 0 (omega arith) ∙ ap (λ j. get_or s j 0) (let e : at + 0 ≡ at = omega arith in e)

  pub open_is : ((get_or into 0 0 == 165) && bytes_eq (part 1 7 into) magic) ≡ ((get_or s at 0 == 165) && bytes_eq (part (at + 1) 7 s) magic)
  open_is =
      let name : part 1 7 into ≡ part (at + 1) 7 s = ap (part 1 7) is ∙ part-part at 32 1 7 s (omega arith) fits in
      λ t. (gate_is t == 165) && bytes_eq (name t) magic

  pub number_is : (n : ℕ) → 24 + n ≤ 32 → big_number n (take n (drop 24 into)) ≡ number_at n (at + 24) s
  number_is n inside = from_same 0 n (take n (drop 24 into)) (drop (at + 24) s) (λ k lo hi.
      get_or-take n (drop 24 into) k 0 (omega arith) ∙ get_or-drop 24 into k 0 ∙ byte (24 + k) (omega arith)
      ∙ ap (λ j. get_or s j 0) (let e : at + (24 + k) ≡ at + 24 + k = omega arith in e) ∙ sym (get_or-drop (at + 24) s k 0))

module _ {D : Type 0} (moment : D → ℕ) (left_since : D → ℕ → List ℕ → Type 0) (may_leave : D → List ℕ → Type 0) (only_now : (disk : D) (c : List ℕ) → left_since disk (moment disk) c → may_leave disk c) (s : List ℕ) where
  -- no call
  pub reads_none : (old : D) → Only s (may_leave old) → LeavesOnly moment left_since old old (λ c. c ≡ s)
  reads_none old only = started moment left_since old (λ c. c ≡ s) (λ c left. only c (only_now old c left))

  -- one read more
  pub reads_on : (old mid new : D) → LeavesOnly moment left_since old mid (λ c. c ≡ s) → Only s (may_leave mid) → ((c : List ℕ) → may_leave new c → may_leave mid c)
      → Elapses (moment mid) (moment new) (left_since mid) (left_since new) (may_leave new) → LeavesOnly moment left_since old new (λ c. c ≡ s)
  reads_on old mid new run only less time = goes_on moment left_since old mid new (λ c. c ≡ s) (may_leave new) run time (λ c left. only c (less c left))
