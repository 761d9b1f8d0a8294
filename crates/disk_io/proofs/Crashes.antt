-- The three images that a disk in memory makes are images of a crash.
use Rattle.std.proofs.Common.{◌≡◌, ◌≤◌, ◌+◌, ℕ, suc, zero, List, [], ◌∷◌, ◌++◌, length, map, drop, replicate, refl, sym, subst, arith}
use Rattle.std.proofs.lemmas.Bool.{cases_lt}
use Rattle.std.proofs.lemmas.List.{take-append-drop, length-replicate, get_or-replicate, get_or_past}
use mathlib.Core.Logic.{inl, inr}
use Rattle.disk_io.specs.declared.torn.Torn.{Torn}
use Rattle.disk_io.specs.declared.torn.Torn.TheVariants as torn
use Rattle.disk_io.specs.Bytes.{length-splice, bytes-splice, torn_splice, torn_none}
use Rattle.disk_io.specs.Disk.{splice, AreBytes}
use Rattle.disk_io.specs.Disk as disk
use Rattle.disk_io.specs.Events.{Event, Wrote, Synced, after, AllFit, MayLeave, fits_take, after_size, after_bytes, reads_last}
use Rattle.disk_io.specs.Images.{one_more, up_to_last, is_sync, settled, unsettled, zeroed, image_of}

abbrev OnlyWrites : List Event → Type 0
OnlyWrites [] = Unit {0}
OnlyWrites (Wrote at w ∷ es) = OnlyWrites es
OnlyWrites (Synced ∷ es) = ⊥

one_since : (e : Event) (es : List Event) (k : ℕ) → OnlyWrites (drop k es) → OnlyWrites (drop (one_more (is_sync e) k) (e ∷ es))
one_since e es (suc n) only = only
one_since (Wrote at w) es zero only = only
one_since Synced es zero only = only

only_since : (es : List Event) → OnlyWrites (unsettled es)
only_since [] = tt
only_since (e ∷ es) = one_since e es (up_to_last is_sync es) (only_since es)

-- calls, and then others
left_join : (es fs : List Event) (s : List ℕ) (o : List ℕ → Type 0) (c : List ℕ) → MayLeave fs (after es s) (MayLeave es s o) c → MayLeave (es ++ fs) s o c
left_join [] fs s o c left = left
left_join (Wrote at w ∷ es) fs s o c left = left_join es fs (splice at w s) (λ c. (d : List ℕ) × o d × disk.Torn at (length w) d c) c left
left_join (Synced ∷ es) fs s o c left = left_join es fs s (λ c. c ≡ s) c left

fits_drop : (k n : ℕ) (es : List Event) → AllFit n es → AllFit n (drop k es)
fits_drop zero n es all = all
fits_drop (suc k) n [] all = tt
fits_drop (suc k) n (e ∷ es) all = fits_drop k n es all.1

-- nothing of these writes reached the disk
none_left : (es : List Event) (seen s : List ℕ) (o : List ℕ → Type 0) → OnlyWrites es → AreBytes s → o s → MayLeave es seen o s
none_left [] seen s o only bytes here = here
none_left (Wrote at w ∷ es) seen s o only bytes here =
    none_left es (splice at w seen) s (λ c. (d : List ℕ) × o d × disk.Torn at (length w) d c) only bytes (s, here, torn_none at (length w) s bytes)
none_left (Synced ∷ es) seen s o only bytes here = absurd only

-- they left zeros
are_zeros : (n : ℕ) → AreBytes (replicate n 0)
are_zeros n i = elim (cases_lt i n) [
  | inl inside ↦ omega (arith, get_or-replicate {A = ℕ} n i 0 0 inside)
  | inr past ↦ omega (arith, get_or_past {X = ℕ} (replicate n 0) i 0 (omega (arith, length-replicate {A = ℕ} n 0, past)))
]

zeros_left : (es : List Event) (seen s : List ℕ) (o : List ℕ → Type 0) → OnlyWrites es → AllFit (length s) es → AreBytes s → o s → MayLeave es seen o (after (map zeroed es) s)
zeros_left [] seen s o only fits bytes here = here
zeros_left (Wrote at w ∷ es) seen s o only fits bytes here =
    let long : length (replicate (length w) 0) ≡ length w = length-replicate {A = ℕ} (length w) 0 in
    let inside : at + length (replicate (length w) 0) ≤ length s = omega (arith, long, fits.0.0) in
    let size = length-splice at (replicate (length w) 0) s inside in
    zeros_left es (splice at w seen) (splice at (replicate (length w) 0) s) (λ c. (d : List ℕ) × o d × disk.Torn at (length w) d c) only
    (subst (λ n. AllFit n es) (sym size) fits.1)
    (bytes-splice at (replicate (length w) 0) s (omega (arith, inside)) bytes (are_zeros (length w)))
    (s, here, subst (λ n. disk.Torn at n s (splice at (replicate (length w) 0) s)) long (torn_splice at (replicate (length w) 0) s inside bytes (are_zeros (length w))))
zeros_left (Synced ∷ es) seen s o only fits bytes here = absurd only

pub image_left : (t : Torn) (es : List Event) (first : List ℕ) → AllFit (length first) es → AreBytes first → MayLeave es first (λ c. c ≡ first) (image_of t es first)
image_left torn.After es first fits bytes = reads_last es first (λ c. c ≡ first) fits bytes refl
image_left torn.Before es first fits bytes =
    let at_sync = fits_take (up_to_last is_sync es) (length first) es fits in
    subst (λ l. MayLeave l first (λ c. c ≡ first) (after (settled es) first)) (take-append-drop (up_to_last is_sync es) es)
    (left_join (settled es) (unsettled es) first (λ c. c ≡ first) (after (settled es) first)
    (none_left (unsettled es) (after (settled es) first) (after (settled es) first) (MayLeave (settled es) first (λ c. c ≡ first)) (only_since es)
    (after_bytes (settled es) first at_sync bytes) (reads_last (settled es) first (λ c. c ≡ first) at_sync bytes refl)))
image_left torn.Zeros es first fits bytes =
    let at_sync = fits_take (up_to_last is_sync es) (length first) es fits in
    let base = after (settled es) first in
    subst (λ l. MayLeave l first (λ c. c ≡ first) (after (map zeroed (unsettled es)) base)) (take-append-drop (up_to_last is_sync es) es)
    (left_join (settled es) (unsettled es) first (λ c. c ≡ first) (after (map zeroed (unsettled es)) base)
    (zeros_left (unsettled es) base base (MayLeave (settled es) first (λ c. c ≡ first)) (only_since es)
    (subst (λ n. AllFit n (unsettled es)) (sym (after_size (settled es) first at_sync)) (fits_drop (up_to_last is_sync es) (length first) es fits))
    (after_bytes (settled es) first at_sync bytes) (reads_last (settled es) first (λ c. c ≡ first) at_sync bytes refl)))
