-- A page that the live header names as the store has it keeps its byte.
use Rattle.std.proofs.Common.{◌≡◌, inr, Bool, ℕ, zero, suc, ◌+◌, ◌-◌, ◌*◌, ◌<◌, ◌≤◌, [], ◌∷◌, List, length, get_or, Some, refl, sym, ◌∙◌, ap, subst, arith}
use Rattle.disk_io.specs.Disk.{splice}
use Rattle.disk_io.specs.Bytes.{part_same}
use Rattle.page_store.specs.Image.{header_at, slot_at, live, named, map_byte}
use Rattle.page_store.specs.Publish.{old_byte, Tracks, KeepsUnchanged}
use Rattle.page_store.specs.Kept.{kept_side, Outside, Beside, Closed, TracksMap, KeepsSlots}
use Rattle.page_store.proofs.Old.{outside_splice}

module _ (room k : ℕ) (stored : List Bool) (map s s1 : List ℕ) (beside : Beside room (length stored) k map s) (closed : Closed k s s1) where
  -- a slot as it was before the other gate was closed
  slot_is : (p m : ℕ) → p < length stored → m ≤ 2 → named room p m s1 ≡ named room p m s
  slot_is p zero lt le = refl
  slot_is p (suc j) lt le = ap Some (part_same (slot_at room p j) 8192 s1 s closed.elsewhere.size (omega (arith, beside.names.fits)) (λ i lo hi. closed.elsewhere.same i (inr (omega arith))))

  low_byte : (p : ℕ) → p < length stored → get_or map (64 + p) 0 ≤ 2
  low_byte p lt = subst (λ m. m ≤ 2) (sym (beside.map p lt)) (beside.names.map p lt)

  pub tracks_map : (changed : List Bool) (bytes : List ℕ) → Tracks room stored changed bytes s → TracksMap room stored changed bytes map s1
  tracks_map changed bytes tracks p lt is unmarked = slot_is p (get_or map (64 + p) 0) lt (low_byte p lt) ∙ ap (λ m. named room p m s) (beside.map p lt) ∙ tracks p lt is unmarked

module _ (room k : ℕ) (stored : List Bool) (bytes map s s1 s2 s3 : List ℕ) (low : k ≤ 1) (is_k : k ≡ kept_side (live s)) (beside : Beside room (length stored) k map s)
    (closed : Closed k s s1) (size : length s2 ≡ length s) (keeps : KeepsSlots room (1 - k) stored bytes map s1 s2) (last : s3 ≡ splice ((1 - k) * 139264) (165 ∷ []) s2) where
  out : Outside ((1 - k) * 139264) 1 s2 s3
  out = subst (Outside ((1 - k) * 139264) 1 s2) (sym last) (outside_splice ((1 - k) * 139264) (165 ∷ []) s2 (omega (arith, size, beside.names.fits)))

  pub unchanged_of : KeepsUnchanged room stored bytes s s3
  unchanged_of j p is lt same =
      let is_j : k ≡ j = is_k ∙ ap kept_side is in
      let byte : get_or map (64 + p) 0 ≡ map_byte j p s = beside.map p lt ∙ ap (λ o. old_byte o p s) is in
      ap (λ n. map_byte (1 - n) p s3) (sym is_j)
      ∙ out.same (header_at (1 - k) + (64 + p)) (inr (omega arith))
      ∙ keeps p lt (slot_is room k stored map s s1 beside closed p (get_or map (64 + p) 0) lt (low_byte room k stored map s s1 beside closed p lt) ∙ ap (λ m. named room p m s) byte ∙ same)
      ∙ byte
