-- Publishing, from the old image to the new one.
use Rattle.std.proofs.Common.{◌≡◌, ◌⊎◌, inl, inr, ⊎_elim, Bool, true, ◌==◌, ◌&&◌, ℕ, zero, suc, ◌+◌, ◌-◌, ◌*◌, ◌^◌, ◌<◌, ◌≤◌, [], ◌∷◌, ◌++◌, List, length, get_or, drop, Some, map, refl, sym, ◌∙◌, ap, subst, arith}
use Rattle.std.proofs.lemmas.Bool.{cases_eq}
use Rattle.std.proofs.lemmas.List.{get_or_append_left}
use Rattle.std.specs.List.{range_with_len}
use Rattle.std.specs.Str.{bytes_eq}
use Rattle.byteorder.specs.Endian.{big_bytes, big_number}
use Rattle.byteorder.specs.Numbers.{big_number-reads_back}
use Rattle.disk_io.specs.Disk.{part, splice}
use Rattle.disk_io.specs.Bytes.{part-part, part_same, same_bytes, length-part, byte-part, byte-splice_in}
use Rattle.page_store.specs.declared.facts.HeaderFacts.{HeaderFacts}
use Rattle.page_store.specs.Image.{header_at, area_at, slot_at, magic, number_at, is_open, format_of, number_of, live, named, map_byte, area_of, image_at, image_by, image}
use Rattle.page_store.specs.Publish.{next_number, header_bytes, field_bytes, page_if, stored_pages, IsNew, OldOrNew}
use Rattle.page_store.specs.Kept.{Names, HeldStays, IsOld, Outside, Staged}
use Rattle.page_store.proofs.Old.{number_same, map_range_same, area_bound, old_means, outside_splice}
use Rattle.page_store.proofs.Gates.{kept_gate, closing, shut_means, new_live}

module _ (room k : ℕ) (facts : HeaderFacts) (block : List ℕ) (stored : List Bool) (bytes s : List ℕ)
    (h : Names room (length stored) k s) (next : facts.number ≡ next_number (live s) s) (low : facts.area ≤ 1) (small : length block ≤ room) (some : 1 ≤ length block) (few : room < 2 ^ 32) where
  abbrev count : ℕ
  count = length stored

  module _ (s2 : List ℕ) (old : IsOld room count k s s2) (st : Staged room k facts block stored bytes s2) (c : List ℕ) (out : Outside (header_at (1 - k)) 1 s2 c) (shows : get_or c (header_at (1 - k)) 0 ≡ 165) where
    size : length c ≡ 278528 + 2 * room + 16384 * count
    size = out.size ∙ old.kept.size ∙ h.fits

    abbrev fixed : List ℕ
    fixed = header_bytes facts count room (length block - 1) st.header

    kept : HeldStays room count k s c
    kept = kept_gate room count k s h s2 c old.kept out

    byte : (i : ℕ) → 1 ≤ i → i < 64 → get_or c (header_at (1 - k) + i) 0 ≡ get_or fixed i 0
    byte i lo hi = out.same (header_at (1 - k) + i) (inr (omega arith)) ∙ st.fields i lo hi

    field : (n at x : ℕ) (rest : List ℕ) → 1 ≤ at → at + n ≤ 64 → drop at fixed ≡ big_bytes n x ++ rest → x < 256 ^ n → number_at n (header_at (1 - k) + at) c ≡ x
    field n at x rest lo hi is fits =
        number_same n (header_at (1 - k) + at) at c fixed (λ i lt. ap (λ j. get_or c j 0) (let e : header_at (1 - k) + at + i ≡ header_at (1 - k) + (at + i) = omega arith in e) ∙ byte (at + i) (omega arith) (omega arith))
        ∙ ap (big_number n) is ∙ big_number-reads_back n x rest fits

    format : format_of (1 - k) c ≡ facts.format
    format = field 4 8 facts.format _ (omega arith) (omega arith) refl st.in_range.format

    number : number_of (1 - k) c ≡ facts.number
    number = field 8 24 facts.number _ (omega arith) (omega arith) refl st.in_range.number

    name : part (header_at (1 - k) + 1) 7 c ≡ magic
    name =
        let l : length (part (header_at (1 - k) + 1) 7 c) ≡ 7 = length-part (header_at (1 - k) + 1) 7 c (omega (arith, size)) in
        same_bytes (part (header_at (1 - k) + 1) 7 c) magic l (λ i lt.
        byte-part (header_at (1 - k) + 1) 7 c i (omega arith)
        ∙ ap (λ j. get_or c j 0) (let e : header_at (1 - k) + 1 + i ≡ header_at (1 - k) + (1 + i) = omega arith in e)
        ∙ byte (1 + i) (omega arith) (omega arith)
        ∙ get_or_append_left (0 ∷ magic) (field_bytes facts count room (length block - 1) st.header) 0 (1 + i) (omega arith)
        ∙ ap (λ j. get_or (0 ∷ magic) j 0) (let e : 1 + i ≡ suc i = omega arith in e))

    opens : is_open (1 - k) c ≡ true
    opens = λ t. (shows t == 165) && bytes_eq (name t) magic

    is_live : live c ≡ Some (1 - k)
    is_live = new_live room count k s h c kept opens (λ l. omega (arith, number, next ∙ ap (λ o. next_number o s) l))

    area : area_of (1 - k) c ≡ facts.area
    area = byte 48 (omega arith) (omega arith)

    byte_map : (p : ℕ) → map_byte (1 - k) p c ≡ map_byte (1 - k) p s2
    byte_map p = out.same (header_at (1 - k) + (64 + p)) (inr (omega arith))

    page : (p : ℕ) → p < count → named room p (map_byte (1 - k) p c) c ≡ page_if stored bytes p
    page p lt =
        ap (λ m. named room p m c) (byte_map p)
        ∙ of_byte (map_byte (1 - k) p s2) (st.map p lt) ∙ st.pages p lt
      where
        of_byte : (m : ℕ) → m ≤ 2 → named room p m c ≡ named room p m s2
        of_byte zero le = refl
        of_byte (suc j) le = ap Some (part_same (slot_at room p j) 8192 c s2 out.size (omega (arith, size, out.size)) (λ i lo hi. out.same i (inr (omega arith))))

    pub is_new : IsNew room facts block stored bytes c
    unfolding image_at
    is_new = record {
      log = part (area_at room facts.area) room c;
      begins = part-part (area_at room facts.area) room 0 (length block) c (omega (arith, small)) inside
          ∙ ap (λ j. part j (length block) c) (let e : area_at room facts.area + 0 ≡ area_at room facts.area = omega arith in e)
          ∙ part_same (area_at room facts.area) (length block) c s2 out.size (omega (arith, inside, small, out.size)) (λ i lo hi. out.same i (inr (omega (arith, from))))
          ∙ st.block_is;
      map = part (header_at (1 - k) + 64) count c;
      low = λ p lt. subst (λ m. m ≤ 2) (sym (byte-part (header_at (1 - k) + 64) count c p lt ∙ ap (λ j. get_or c j 0) (let e : header_at (1 - k) + 64 + p ≡ header_at (1 - k) + (64 + p) = omega arith in e) ∙ byte_map p)) (st.map p lt);
      means = ap (λ o. image_by room count o c) is_live ∙ ap Some fields;
    }
      where
        inside : area_at room facts.area + room ≤ length c
        inside = ⊎_elim (λ e. omega (arith, e, size)) (λ e. omega (arith, e, size)) (area_bound room facts.area low)

        from : 278528 ≤ area_at room facts.area
        from = ⊎_elim (λ e. omega (arith, e)) (λ e. omega (arith, e)) (area_bound room facts.area low)

        all : map (λ p. named room p (map_byte (1 - k) p c) c) (range_with_len 0 count) ≡ stored_pages stored bytes
        all = map_range_same _ _ count page

        fields : image_at room count (1 - k) c ≡ record {
          format = facts.format;
          pages = count;
          area_size = room;
          number = facts.number;
          commits = facts.commits;
          next_entry = facts.next_entry;
          area = facts.area;
          redo = length block - 1;
          map = part (header_at (1 - k) + 64) count c;
          log = part (area_at room facts.area) room c;
          stored = stored_pages stored bytes;
        }
        fields = λ t. record {
          format = format t;
          pages = field 4 12 count _ (omega arith) (omega arith) refl (omega (arith, h.few)) t;
          area_size = field 8 16 room _ (omega arith) (omega arith) refl (omega (arith, few)) t;
          number = number t;
          commits = field 8 32 facts.commits _ (omega arith) (omega arith) refl st.in_range.commits t;
          next_entry = field 8 40 facts.next_entry _ (omega arith) (omega arith) refl st.in_range.next_entry t;
          area = area t;
          redo = field 8 56 (length block - 1) _ (omega arith) (omega arith) refl (omega (arith, few, small)) t;
          map = part (header_at (1 - k) + 64) count c;
          log = part (area_at room (area t)) room c;
          stored = all t;
        }

  -- while the other gate is closed
  pub at_close : (c : List ℕ) → (c ≡ s) ⊎ ((get_or s (header_at (1 - k)) 0 ≡ 165) × Outside (header_at (1 - k)) 1 s c) → OldOrNew room facts block stored bytes s c
  at_close c (inl same) = inl (ap (image room count) same)
  at_close c (inr torn) = inl (closing room count k s h c torn.1 torn.0)

  pub at_stage : (c : List ℕ) → IsOld room count k s c → OldOrNew room facts block stored bytes s c
  at_stage c old = inl (old_means room count k s h c old)

  module _ (s2 : List ℕ) (old : IsOld room count k s s2) (st : Staged room k facts block stored bytes s2) where
    -- while the new gate is opened
    pub at_open : (c : List ℕ) → Outside (header_at (1 - k)) 1 s2 c → OldOrNew room facts block stored bytes s c
    at_open c out = elim (cases_eq (get_or c (header_at (1 - k)) 0) 165) [
      | inl shows ↦ inr (is_new s2 old st c out shows)
      | inr shuts ↦ inl (shut_means room count k s h s2 c old.kept out shuts)
    ]

    -- and then
    pub at_end : (s3 : List ℕ) → s3 ≡ splice ((1 - k) * 139264) (165 ∷ []) s2 → IsNew room facts block stored bytes s3
    at_end s3 is = subst (IsNew room facts block stored bytes) (sym is) (is_new s2 old st last (outside_splice ((1 - k) * 139264) (165 ∷ []) s2 fits)
        (ap (λ j. get_or last j 0) (let e : (1 - k) * 139264 ≡ (1 - k) * 139264 + 0 = omega arith in e) ∙ byte-splice_in ((1 - k) * 139264) (165 ∷ []) s2 0 (omega (arith, fits)) (omega arith)))
      where
        fits : (1 - k) * 139264 + 1 ≤ length s2
        fits = omega (arith, old.kept.size, h.fits)

        last : List ℕ
        last = splice ((1 - k) * 139264) (165 ∷ []) s2
