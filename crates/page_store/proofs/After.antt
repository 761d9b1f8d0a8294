-- For callers: what the next publish asks, from the image that the last one left.
use Rattle.std.proofs.Common.{◌≡◌, ◌≢◌, ℕ, ◌+◌, ◌*◌, ◌<◌, ◌≤◌, Bool, List, length, get_or, Option, Some, None, refl, sym, ◌∙◌, ap, subst, arith}
use Rattle.std.proofs.lemmas.List.FromFn.{get_or-map-range_with_len}
use Rattle.disk_io.specs.Bytes.{byte-part}
use Rattle.page_store.specs.declared.facts.HeaderFacts.{HeaderFacts}
use Rattle.page_store.specs.Image.{header_at, live, Image, image_at, image_by, area_of, map_byte, named}
use Rattle.page_store.specs.Publish.{next_number, OtherArea, Fits, LiveFits, page_if, old_byte, new_image, IsNew}

some_same : {x y : Image} → Some x ≡ Some y → x ≡ y
some_same h = cc

k_same : {x y : ℕ} → Some x ≡ Some y → x ≡ y
k_same h = cc

-- an image is that of the live header
image_live : (room count : ℕ) (o : Option ℕ) (c : List ℕ) (i : Image) → image_by room count o c ≡ Some i → (k : ℕ) × (o ≡ Some k) × (image_at room count k c ≡ i)
image_live room count None c i h = absurd (cc)
image_live room count (Some k) c i h = (k, refl, some_same h)

module _ (room : ℕ) (facts : HeaderFacts) (block : List ℕ) (stored : List Bool) (bytes c : List ℕ) (new : IsNew room facts block stored bytes c) where
  found : (k : ℕ) × (live c ≡ Some k) × (image_at room (length stored) k c ≡ new_image room facts block stored bytes new.map new.log)
  found = image_live room (length stored) (live c) c (new_image room facts block stored bytes new.map new.log) new.means

  pub number_after : next_number (live c) c ≡ facts.number + 1
  unfolding image_at
  number_after = ap (λ o. next_number o c) found.1 ∙ ap (λ (i : Image). i.number + 1) found.2

  pub area_after : (area : ℕ) → area ≢ facts.area → OtherArea area c
  unfolding image_at
  area_after area other k is same = other (same ∙ ap (λ n. area_of n c) (k_same (sym is ∙ found.1)) ∙ ap (λ (i : Image). i.area) found.2)

  pub pages_after : (p : ℕ) → p < length stored → named room p (old_byte (live c) p c) c ≡ page_if stored bytes p
  unfolding image_at
  pages_after p lt =
      ap (λ o. named room p (old_byte o p c) c) found.1
      ∙ sym (get_or-map-range_with_len (λ q. named room q (map_byte found.0 q c) c) 0 (length stored) p p None lt (omega arith))
      ∙ ap (λ (i : Image). get_or i.stored p None) found.2
      ∙ get_or-map-range_with_len (page_if stored bytes) 0 (length stored) p p None lt (omega arith)

  pub fits_after : (size : ℕ) → 278528 + 2 * room + 16384 * length stored ≡ size → facts.area ≤ 1 → LiveFits size (length stored) c
  unfolding image_at
  fits_after size sizes low k is = subst (λ n. Fits size (length stored) n c) (k_same (sym found.1 ∙ is)) (record {
    count = ap (λ (i : Image). i.pages) found.2;
    areas = ap (λ (i : Image). 278528 + 2 * i.area_size + 16384 * length stored) found.2 ∙ sizes;
    low_area = subst (λ n. n ≤ 1) (sym (ap (λ (i : Image). i.area) found.2)) low;
    low_map = λ p lt. subst (λ m. m ≤ 2) (sym (map_is p lt)) (new.low p lt);
  })
    where
      map_is : (p : ℕ) → p < length stored → map_byte found.0 p c ≡ get_or new.map p 0
      map_is p lt =
          ap (λ j. get_or c j 0) (let e : header_at found.0 + (64 + p) ≡ header_at found.0 + 64 + p = omega arith in e)
          ∙ sym (byte-part (header_at found.0 + 64) (length stored) c p lt)
          ∙ ap (λ (i : Image). get_or i.map p 0) found.2
