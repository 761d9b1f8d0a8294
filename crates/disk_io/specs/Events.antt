-- No clause of `run` rests on this module: it serves contracts between crates.
--
-- What a record of calls leaves, and what a crash after them may leave.
use Rattle.std.specs.Prelude.{◌≡◌, ℕ, ◌+◌, ◌≤◌, List, [], ◌∷◌, ◌++◌, length, take, refl}
use Rattle.std.proofs.Common.{suc, zero, sym, ◌∙◌, ap, subst, arith}
use Rattle.std.proofs.lemmas.List.{take_all, take-append-le, length_push}
use Rattle.std.proofs.lemmas.Bool.{cases_lt}
use mathlib.Core.Logic.{inl, inr}
use Rattle.std.proofs.Props.{props}
use Rattle.disk_io.specs.Disk.{splice, AreBytes, Torn, Elapses}
use Rattle.disk_io.specs.Bytes.{length-splice, bytes-splice, torn_splice}

pub data Event : Type 0 where
  Wrote : (at : ℕ) (bytes : List ℕ) → Event
  Synced : Event

-- what a read gives after these calls
abbrev pub after : List Event → List ℕ → List ℕ
after [] bytes = bytes
after (Wrote at w ∷ es) bytes = after es (splice at w bytes)
after (Synced ∷ es) bytes = after es bytes

-- what a crash after these calls may leave, where it might leave old before them
abbrev pub MayLeave : List Event → List ℕ → (List ℕ → Type 0) → List ℕ → Type 0
MayLeave [] seen old = old
MayLeave (Wrote at w ∷ es) seen old = MayLeave es (splice at w seen) (λ c. (d : List ℕ) × old d × Torn at (length w) d c)
MayLeave (Synced ∷ es) seen old = MayLeave es seen (λ c. c ≡ seen)

-- a call of a disk of that size: it wrote bytes, within the disk
abbrev pub Fits : ℕ → Event → Type 0
Fits size (Wrote at w) = (at + length w ≤ size) × AreBytes w
Fits size Synced = Unit {0}

abbrev pub AllFit : ℕ → List Event → Type 0
AllFit size [] = Unit {0}
AllFit size (e ∷ es) = Fits size e × AllFit size es

-- a crash at some moment from t on
abbrev pub LeftSince : List Event → List ℕ → ℕ → List ℕ → Type 0
LeftSince es first t c = (k : ℕ) × (t ≤ k) × (k ≤ length es) × MayLeave (take k es) first (λ d. d ≡ first) c

pub counts_last : (es : List Event) (first : List ℕ) (t : ℕ) (c : List ℕ) → t ≤ length es → MayLeave es first (λ d. d ≡ first) c → LeftSince es first t c
counts_last es first t c le left = (length es, le, omega arith, subst (λ l. MayLeave l first (λ d. d ≡ first) c) (sym (take_all (length es) es (omega arith))) left)

pub only_last : (es : List Event) (first : List ℕ) (c : List ℕ) → LeftSince es first (length es) c → MayLeave es first (λ d. d ≡ first) c
only_last es first c left = subst (λ l. MayLeave l first (λ d. d ≡ first) c) (take_all left.0 es left.1) left.3

-- one call more
pub after_last : (es : List Event) (e : Event) (s : List ℕ) → after (es ++ e ∷ []) s ≡ after (e ∷ []) (after es s)
after_last [] e s = refl
after_last (Wrote at w ∷ es) e s = after_last es e (splice at w s)
after_last (Synced ∷ es) e s = after_last es e s

pub left_last : (es : List Event) (at : ℕ) (w s : List ℕ) (o : List ℕ → Type 0) (c : List ℕ) → MayLeave (es ++ Wrote at w ∷ []) s o c → (d : List ℕ) × MayLeave es s o d × Torn at (length w) d c
left_last [] at w s o c left = left
left_last (Wrote at' w' ∷ es) at w s o c left = left_last es at w (splice at' w' s) (λ c. (d : List ℕ) × o d × Torn at' (length w') d c) c left
left_last (Synced ∷ es) at w s o c left = left_last es at w s (λ c. c ≡ s) c left

pub left_synced : (es : List Event) (s : List ℕ) (o : List ℕ → Type 0) (c : List ℕ) → MayLeave (es ++ Synced ∷ []) s o c → c ≡ after es s
left_synced [] s o c left = left
left_synced (Wrote at w ∷ es) s o c left = left_synced es (splice at w s) (λ c. (d : List ℕ) × o d × Torn at (length w) d c) c left
left_synced (Synced ∷ es) s o c left = left_synced es s (λ c. c ≡ s) c left

pub fits_last : (n : ℕ) (es : List Event) (e : Event) → AllFit n es → Fits n e → AllFit n (es ++ e ∷ [])
fits_last n [] e all fits = (fits, tt)
fits_last n (x ∷ es) e all fits = (all.0, fits_last n es e all.1 fits)

-- what a read gives has the size, and is one of the images
pub after_size : (es : List Event) (s : List ℕ) → AllFit (length s) es → length (after es s) ≡ length s
after_size [] s all = refl
after_size (Wrote at w ∷ es) s all =
    let same = length-splice at w s all.0.0 in
    after_size es (splice at w s) (subst (λ n. AllFit n es) (sym same) all.1) ∙ same
after_size (Synced ∷ es) s all = after_size es s all.1

pub after_bytes : (es : List Event) (s : List ℕ) → AllFit (length s) es → AreBytes s → AreBytes (after es s)
after_bytes [] s all here = here
after_bytes (Wrote at w ∷ es) s all here =
    after_bytes es (splice at w s) (subst (λ n. AllFit n es) (sym (length-splice at w s all.0.0)) all.1) (bytes-splice at w s (omega (arith, all.0.0)) here all.0.1)
after_bytes (Synced ∷ es) s all here = after_bytes es s all.1 here

pub reads_last : (es : List Event) (s : List ℕ) (o : List ℕ → Type 0) → AllFit (length s) es → AreBytes s → o s → MayLeave es s o (after es s)
reads_last [] s o all bytes here = here
reads_last (Wrote at w ∷ es) s o all bytes here =
    reads_last es (splice at w s) (λ c. (d : List ℕ) × o d × Torn at (length w) d c) (subst (λ n. AllFit n es) (sym (length-splice at w s all.0.0)) all.1)
    (bytes-splice at w s (omega (arith, all.0.0)) bytes all.0.1) (s, here, torn_splice at w s all.0.0 bytes all.0.1)
reads_last (Synced ∷ es) s o all bytes here = reads_last es s (λ c. c ≡ s) all.1 bytes refl

-- what a crash may leave has the size, and is bytes
record IsImage (n : ℕ) (c : List ℕ) : Type 0 where
  size : length c ≡ n
  bytes : AreBytes c

left_image : (es : List Event) (s : List ℕ) (o : List ℕ → Type 0) (n : ℕ) → length s ≡ n → AllFit n es → AreBytes s → ((d : List ℕ) → o d → IsImage n d) → (c : List ℕ) → MayLeave es s o c → IsImage n c
left_image [] s o n size all bytes old c left = old c left
left_image (Wrote at w ∷ es) s o n size all bytes old c left =
    left_image es (splice at w s) (λ c. (d : List ℕ) × o d × Torn at (length w) d c) n (length-splice at w s (omega (arith, all.0.0, size)) ∙ size) all.1 (bytes-splice at w s (omega (arith, all.0.0, size)) bytes all.0.1)
    (λ d torn. record { size = torn.2.size ∙ (old torn.0 torn.1).size; bytes = torn.2.bytes }) c left
left_image (Synced ∷ es) s o n size all bytes old c left =
    left_image es s (λ c. c ≡ s) n size all.1 bytes (λ d is. record { size = ap length is ∙ size; bytes = subst AreBytes (sym is) bytes }) c left

pub fits_take : (k n : ℕ) (es : List Event) → AllFit n es → AllFit n (take k es)
fits_take zero n es all = tt
fits_take (suc k) n [] all = tt
fits_take (suc k) n (e ∷ es) all = (all.0, fits_take k n es all.1)

left_whole : (es : List Event) (first : List ℕ) → AllFit (length first) es → AreBytes first → (c : List ℕ) → MayLeave es first (λ d. d ≡ first) c → IsImage (length first) c
left_whole es first all bytes c left =
    left_image es first (λ d. d ≡ first) (length first) refl all bytes (λ d is. record { size = ap length is; bytes = subst AreBytes (sym is) bytes }) c left

pub left_bytes : (es : List Event) (first : List ℕ) → AllFit (length first) es → AreBytes first → (c : List ℕ) → MayLeave es first (λ d. d ≡ first) c → AreBytes c
left_bytes es first all bytes c left = (left_whole es first all bytes c left).bytes

pub since_size : (es : List Event) (first : List ℕ) → AllFit (length first) es → AreBytes first → (t : ℕ) (c : List ℕ) → LeftSince es first t c → length c ≡ length first
since_size es first all bytes t c left = (left_whole (take left.0 es) first (fits_take left.0 (length first) es all) bytes c left.3).size

pub since_bytes : (es : List Event) (first : List ℕ) → AllFit (length first) es → AreBytes first → (t : ℕ) (c : List ℕ) → LeftSince es first t c → AreBytes c
since_bytes es first all bytes t c left = (left_whole (take left.0 es) first (fits_take left.0 (length first) es all) bytes c left.3).bytes

-- time goes on by one call
pub elapses_by : (es : List Event) (e : Event) (first : List ℕ) → Elapses (length es) (length (es ++ e ∷ [])) (LeftSince es first) (LeftSince (es ++ e ∷ []) first) (MayLeave (es ++ e ∷ []) first (λ d. d ≡ first))
elapses_by es e first =
    let longer : length (es ++ e ∷ []) ≡ length es + 1 = length_push es e in
    record {
      later = omega arith;
      nothing_else = λ t c le left. elim (cases_lt (length es) left.0) [
        | inl past ↦ inr (subst (λ l. MayLeave l first (λ d. d ≡ first) c) (take_all left.0 (es ++ e ∷ []) (omega arith)) left.3)
        | inr within ↦ inl (left.0, left.1, within, subst (λ l. MayLeave l first (λ d. d ≡ first) c) (take-append-le left.0 es (e ∷ []) within) left.3)
      ];
      keeps = λ t c le left. (left.0, left.1, omega (arith, left.2), subst (λ l. MayLeave l first (λ d. d ≡ first) c) (sym (take-append-le left.0 es (e ∷ []) left.2)) left.3);
    }

-- no call
pub elapses_none : (es : List Event) (first : List ℕ) → Elapses (length es) (length es) (LeftSince es first) (LeftSince es first) (MayLeave es first (λ d. d ≡ first))
elapses_none es first = record { later = omega arith; nothing_else = λ t c le left. inl left; keeps = λ t c le left. left }

fits_prop : (n : ℕ) (e : Event) → IsProp (Fits n e)
fits_prop n (Wrote at w) = hlevel props
fits_prop n Synced = hlevel props

pub all_fit_prop : (n : ℕ) (es : List Event) → IsProp (AllFit n es)
all_fit_prop n [] = hlevel props
all_fit_prop n (e ∷ es) = hlevel (props, fits_prop n e, all_fit_prop n es)
