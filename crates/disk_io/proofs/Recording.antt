-- What one more recorded call does to the record.
use Rattle.std.proofs.Common.{◌≡◌, ◌≤◌, ◌+◌, ℕ, suc, List, [], ◌∷◌, ◌++◌, length, All, take, drop, refl, ◌∙◌, ap, arith, length-drop}
use Rattle.std.proofs.lemmas.List.{take-append-le, drop-append-le, take_all, map-append}
use Rattle.std.proofs.Math.Seq.{drop-append_seam}
use Rattle.disk_io.specs.Disk.{part}
use Rattle.disk_io.specs.declared.call.Call.{Call}
use Rattle.disk_io.specs.declared.call.Call.TheVariants as call
use Rattle.disk_io.specs.Events.{Wrote}
use Rattle.disk_io.specs.Record.{event_in, events, IsWithin}

-- more bytes behind leave a part as it is
part_front : (start n : ℕ) (b w : List ℕ) → start + n ≤ length b → part start n (b ++ w) ≡ part start n b
part_front start n b w fits =
    ap (take n) (drop-append-le start b w (omega arith))
    ∙ take-append-le n (drop start b) w (omega (arith, length-drop start b))

event_kept : (b w : List ℕ) (c : Call) → IsWithin (length b) c → event_in (b ++ w) c ≡ event_in b c
event_kept b w (call.Wrote at start n) fits = ap (Wrote at) (part_front start n b w fits)
event_kept b w call.Synced fits = refl

pub events_kept : (b w : List ℕ) (calls : List Call) → All (IsWithin (length b)) calls → events (b ++ w) calls ≡ events b calls
events_kept b w [] all = refl
events_kept b w (c ∷ calls) all =
    ap (λ e. e ∷ events (b ++ w) calls) (event_kept b w c (all 0 c (omega arith)))
    ∙ ap (λ es. event_in b c ∷ es) (events_kept b w calls (λ k d lt. all (suc k) d (omega (arith, lt))))

pub events_write : (b w : List ℕ) (calls : List Call) (at start n : ℕ) → All (IsWithin (length b)) calls → start ≡ length b → n ≡ length w
    → events (b ++ w) (calls ++ call.Wrote at start n ∷ []) ≡ events b calls ++ Wrote at w ∷ []
events_write b w calls at start n all is long =
    map-append (event_in (b ++ w)) calls (call.Wrote at start n ∷ [])
    ∙ ap (λ es. es ++ Wrote at (part start n (b ++ w)) ∷ []) (events_kept b w calls all)
    ∙ ap (λ l. events b calls ++ Wrote at l ∷ [])
    (ap (λ k. part k n (b ++ w)) is ∙ ap (take n) (drop-append_seam b w) ∙ take_all n w (omega (arith, long)))
