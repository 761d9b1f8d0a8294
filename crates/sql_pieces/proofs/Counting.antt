-- Counting the bytes of a text.
use Rattle.std.proofs.Common.{◌≡◌, ℕ, ◌+◌, ◌/◌, ◌<◌, ◌≤◌, ◌^◌, ◌++◌, ◌||◌, Bool, true, false, ℤ, pos, negsuc, nat_abs, List, [], length, Option, Some, None, Result, Ok, Err, ap, ◌∙◌, length-append, add-one, arith, min, refl, sym, suc}
use Rattle.std.specs.Prelude.{if◌then◌else◌, codes}
use lib.Signed.{lt_z}
use lib.Dec.{ltb}
use Rattle.std.proofs.lemmas.Bool.Decides.{nat_tests}
use Rattle.std.specs.Fmt.{decimal}
use Rattle.std.proofs.lemmas.Fmt.{decimal_digit, decimal_step_wide, length-decimal-le_wide}
use Rattle.iv_types.specs.declared.fault.NoMemory.{NoMemory}
use Rattle.sql_pieces.specs.declared.writing.Counting.{Counting}
use Rattle.iv_types.specs.declared.terminal.Terminal.{Terminal}
use Rattle.iv_types.specs.declared.terminal.Terminal.TheVariants as t
use Rattle.iv_types.specs.Terminals.{spelling}
use Rattle.iv_types.specs.Printing.{Piece, fixed, is_mark, Written, nothing_written, gap, put, write, most_counted, piece_text}
use Rattle.sql_pieces.specs.Sinks.{Wrote, Counts, number_piece, is_tight, is_close, gap_size}

pub length_digit : (n : ℕ) → n < 10 → length (decimal n) ≡ 1
length_digit n h = ap length (decimal_digit n h)

pub length_wide : (n : ℕ) → n < 2 ^ 128 → length (decimal n) ≤ 39
length_wide n h = length-decimal-le_wide 39 n (omega arith) (omega arith) (omega arith)

pub length_step_wide : (n : ℕ) → 10 ≤ n → n < 2 ^ 128 → length (decimal n) ≡ length (decimal (n / 10)) + 1
length_step_wide n lo hi = ap length (decimal_step_wide n lo (omega arith)) ∙ length-append _ _

pub counted : (r : Result (Unit {0}) NoMemory) (old new : Counting) (ps : List Piece) → old.bytes ≡ 0 → old.tight ≡ true → Wrote (λ (c : Counting) w. Counts c.bytes c.tight w) false old r new ps → new.bytes ≡ min most_counted (length (write nothing_written ps).text)
counted (Ok u) old new ps none first h = (h.adds nothing_written (record { count = none; gap = first })).count
counted (Err e) old new ps none first h = let no : false ≡ true = h.wants in cc

below_none : (n : ℕ) → ltb n 0 ≡ true → ⊥
below_none n h = grind (arith, nat_tests)

pub size_negative : (y z : ℤ) → y ≡ z → lt_z y (pos 0) ≡ true → length (decimal (nat_abs y)) + 1 ≡ length (piece_text (number_piece z))
size_negative y (pos n) e h = absurd (below_none n (rw e at h))
size_negative y (negsuc n) e h = rw e (add-one (length (decimal (suc n))))

pub size_positive : (y z : ℤ) → y ≡ z → lt_z y (pos 0) ≡ false → length (decimal (nat_abs y)) ≡ length (piece_text (number_piece z))
size_positive y (pos n) e h = rw e refl
size_positive y (negsuc n) e h = let no : true ≡ false = rw e at h in cc

-- a space stands where neither side is without one
spaced_long : (tight close : Bool) → length (if (if tight || close then false else true) then codes " " else []) ≡ gap_size tight close
spaced_long true close = refl
spaced_long false true = refl
spaced_long false false = refl

gap_long : (last : Option Piece) (q : Piece) → length (gap last q) ≡ gap_size (is_tight last) (is_close q)
gap_long None q = refl
gap_long (Some p) q = spaced_long (is_mark t.Open p || is_mark t.Point p) (is_close q)

-- a mark or a keyword more
pub counts_more : (bytes more : ℕ) (tight last close : Bool) (size : ℕ) (k : Terminal) (w : Written) → close ≡ is_close (fixed k) → last ≡ is_tight (Some (fixed k)) → size ≡ length (spelling k) → more ≡ min most_counted (bytes + (gap_size tight close + size)) → Counts bytes tight w → Counts more last (put w (fixed k))
counts_more bytes more tight last close size k w is_so ends long sum c =
    let space : gap_size tight close ≡ length (gap w.last (fixed k)) = ap (gap_size tight) is_so ∙ (ap (λ (b : Bool). gap_size b (is_close (fixed k))) c.gap ∙ sym (gap_long w.last (fixed k))) in
    record {
      count = omega (arith, sum, space, long, c.count, length-append w.text (gap w.last (fixed k) ++ spelling k), length-append (gap w.last (fixed k)) (spelling k));
      gap = ends;
    }
