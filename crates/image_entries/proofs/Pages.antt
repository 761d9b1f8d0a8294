-- The entries of pages, one after another, and those that are found in the bytes.
use Rattle.std.proofs.Common.{◌≡◌, ℕ, zero, suc, ◌+◌, ◌-◌, ◌<◌, List, [], ◌∷◌, ◌++◌, map, length, get_or, take, drop, refl, sym, ◌∙◌, ap, subst, arith, append_assoc}
use Rattle.std.proofs.Math.Seq.{take-suc, drop-cons}
use Rattle.std.proofs.lemmas.List.{append-nil, take-append-drop}
use Rattle.std.specs.List.{range_with_len}
use Rattle.disk_io.specs.Bytes.{byte-part}
use Rattle.page_store.specs.Image.{header_at, map_byte}
use Rattle.slot_page.specs.Page.{Entry, no_entry, entries, index_of}
use Rattle.txn_log.specs.Stored.{PageEntry}
use Rattle.txn_log.specs.Damaged.{Header, Page, Found, Device, found_in, all_found}
use Rattle.log_disk.specs.Bears.{page_entries}
use Rattle.log_disk.specs.Found.{IsFound, IsFoundIn, IsFoundBy, StandsFirst, ArePagesOf}
use Rattle.image_finding.specs.declared.image.FoundImage.{FoundImage}
use Rattle.image_finding.specs.Headers.{as_header, IsLiveHeader, map_in}
use Rattle.image_finding.specs.Images.{HasImage}
use Rattle.image_entries.specs.Entries.{found_on, found_before, found_entries}

-- ---- a page

abbrev pub as_entry : ℕ → Entry → PageEntry
as_entry of e = ((of, e.0), e.1)

abbrev pub found_as : ℕ → ℕ → Entry → Found
found_as place of e = record { page = place; entry = as_entry of e }

-- so many entries of a page
abbrev pub found_first : ℕ → List ℕ → ℕ → List Found
found_first place page n = found_in place (map (as_entry (index_of page)) (take n (entries page)))

module _ (place of : ℕ) where
  abbrev found_list : List Entry → List Found
  found_list es = found_in place (map (as_entry of) es)

  found_both : (xs ys : List Entry) → found_list (xs ++ ys) ≡ found_list xs ++ found_list ys
  found_both [] ys = refl
  found_both (x ∷ xs) ys = ap (λ (fs : List Found). found_as place of x ∷ fs) (found_both xs ys)

  found_next : (es : List Entry) (i : ℕ) → i < length es → found_list (take (i + 1) es) ≡ found_list (take i es) ++ found_as place of (get_or es i no_entry) ∷ []
  found_next es i inside =
      let one : i + 1 ≡ suc i = omega arith in
      ap (λ n. found_list (take n es)) one ∙ (ap found_list (take-suc es i no_entry inside) ∙ found_both (take i es) (get_or es i no_entry ∷ []))

  found_split : (es : List Entry) (i : ℕ) → i < length es → found_list es ≡ found_list (take i es) ++ found_as place of (get_or es i no_entry) ∷ found_list (drop (suc i) es)
  found_split es i inside =
      ap found_list (sym (take-append-drop i es)) ∙ (found_both (take i es) (drop i es) ∙ ap (λ (xs : List Entry). found_list (take i es) ++ found_list xs) (drop-cons es i no_entry inside))

pub first_more : (place : ℕ) (page : List ℕ) (i : ℕ) → i < length (entries page) → found_first place page (i + 1) ≡ found_first place page i ++ found_as place (index_of page) (get_or (entries page) i no_entry) ∷ []
first_more place page i inside = found_next place (index_of page) (entries page) i inside

pub first_split : (place : ℕ) (page : List ℕ) (i : ℕ) → i < length (entries page)
    → found_in place (page_entries page) ≡ found_first place page i ++ found_as place (index_of page) (get_or (entries page) i no_entry) ∷ found_in place (map (as_entry (index_of page)) (drop (suc i) (entries page)))
first_split place page i inside = found_split place (index_of page) (entries page) i inside

pub first_all : (place : ℕ) (page : List ℕ) (n : ℕ) → n ≡ length (entries page) → found_first place page n ≡ found_in place (page_entries page)
first_all place page n is = ap (λ (es : List Entry). found_in place (map (as_entry (index_of page)) es)) (all_taken (entries page) n is)
  where
    all_taken : (es : List Entry) (k : ℕ) → k ≡ length es → take k es ≡ es
    all_taken [] k e = ap (λ j. take j []) e
    all_taken (x ∷ es) zero e = absurd (omega (arith, e))
    all_taken (x ∷ es) (suc k) e = ap (λ (l : List Entry). x ∷ l) (all_taken es k (omega (arith, e)))

-- ---- all pages

-- those of the pages behind
pub pages_rest : (room : ℕ) (map : List ℕ) (c : List ℕ) (n k : ℕ) → (rest : List Found) × (found_before room map (n + k) c ≡ found_before room map n c ++ rest)
pages_rest room map c n zero = ([], ap (λ m. found_before room map m c) (let e : n + 0 ≡ n = omega arith in e) ∙ sym (append-nil (found_before room map n c)))
pages_rest room map c n (suc k) =
    let one = pages_rest room map c n k in
    let next : n + suc k ≡ suc (n + k) = omega arith in (
      one.0 ++ found_on room (n + k) (get_or map (n + k) 0) c,
      ap (λ m. found_before room map m c) next ∙ (ap (λ (fs : List Found). fs ++ found_on room (n + k) (get_or map (n + k) 0) c) one.1 ∙ append_assoc (found_before room map n c) one.0 (found_on room (n + k) (get_or map (n + k) 0) c)),
    )

-- a page and those behind it
pub pages_split : (room : ℕ) (map : List ℕ) (c : List ℕ) (n pages : ℕ) → n < pages
    → (rest : List Found) × (found_before room map pages c ≡ found_before room map n c ++ (found_on room n (get_or map n 0) c ++ rest))
pages_split room map c n pages inside =
    let one = pages_rest room map c (suc n) (pages - suc n) in
    let whole : pages ≡ suc n + (pages - suc n) = omega (arith, inside) in
    (one.0, ap (λ m. found_before room map m c) whole ∙ (one.1 ∙ append_assoc (found_before room map n c) (found_on room n (get_or map n 0) c) one.0))

-- ---- those that are found

module _ (room k : ℕ) (c : List ℕ) where
  abbrev found_from : ℕ → ℕ → List Found
  found_from from zero = []
  found_from from (suc len) = found_on room from (map_byte k from c) c ++ found_from (from + 1) len

  one_page : (n m : ℕ) (Others : List Page → Type 0) (rest : List Found) → ((fs : List Page) → Others fs → all_found fs ≡ rest)
      → (found : List Page) → StandsFirst room n m c Others found → all_found found ≡ found_on room n m c ++ rest
  one_page n zero Others rest next found h = next found h
  one_page n (suc j) Others rest next [] h = absurd h
  one_page n (suc j) Others rest next (f ∷ found) h = λ t. found_in (h.0.at t) (h.0.entries t) ++ next found h.1 t

  all_from : (len from : ℕ) (found : List Page) → ArePagesOf room k c (range_with_len from len) found → all_found found ≡ found_from from len
  all_from zero from found h = ap all_found h
  all_from (suc len) from found h = one_page from (map_byte k from c) (ArePagesOf room k c (range_with_len (from + 1) len)) (found_from (from + 1) len) (all_from len (from + 1)) found h

  from_more : (len from : ℕ) → found_from from (suc len) ≡ found_from from len ++ found_on room (from + len) (map_byte k (from + len) c) c
  from_more zero from =
      append-nil (found_on room from (map_byte k from c) c) ∙ ap (λ n. found_on room n (map_byte k n c) c) (let e : from ≡ from + 0 = omega arith in e)
  from_more (suc len) from =
      ap (λ (fs : List Found). found_on room from (map_byte k from c) c ++ fs) (from_more len (from + 1))
      ∙ (sym (append_assoc (found_on room from (map_byte k from c) c) (found_from (from + 1) len) (found_on room (from + 1 + len) (map_byte k (from + 1 + len) c) c))
      ∙ ap (λ n. found_from from (suc len) ++ found_on room n (map_byte k n c) c) (let e : from + 1 + len ≡ from + suc len = omega arith in e))

  before_from : (map : List ℕ) (n : ℕ) → ((m : ℕ) → m < n → get_or map m 0 ≡ map_byte k m c) → found_before room map n c ≡ found_from 0 n
  before_from map zero same = refl
  before_from map (suc n) same =
      (λ t. before_from map n (λ m lt. same m (omega (arith, lt))) t ++ found_on room n (same n (omega arith) t) c)
      ∙ (ap (λ m. found_from 0 n ++ found_on room m (map_byte k m c) c) (let e : n ≡ 0 + n = omega arith in e) ∙ sym (from_more n 0))

pub pages_are : (c : List ℕ) (h : Header) (live : IsLiveHeader c h) (d : Device) → IsFound c d → ArePagesOf h.area_bytes live.side c (range_with_len 0 h.pages) d.stored
pages_are c h live d found =
    let by : IsFoundBy live.side c d = subst (λ o. IsFoundIn o c d) live.lives found.by in
    subst (λ (x : Header). ArePagesOf x.area_bytes live.side c (range_with_len 0 x.pages) d.stored) (sym live.fields) by.stored

byte_is : (c : List ℕ) (h : Header) (live : IsLiveHeader c h) (map : List ℕ) → map ≡ map_in h c → (n : ℕ) → n < h.pages → get_or map n 0 ≡ map_byte live.side n c
byte_is c h live map is n inside =
    let place : h.place ≡ header_at live.side = ap (λ (x : Header). x.place) live.fields in
    ap (λ (bs : List ℕ). get_or bs n 0) is ∙ byte-part (h.place + 64) h.pages c n inside
    ∙ ap (λ i. get_or c i 0) (let e : h.place + 64 + n ≡ header_at live.side + (64 + n) = omega (arith, place) in e)

-- the entries of an image are those that are found
pub all_are : (c : List ℕ) (image : FoundImage) → HasImage c image → (d : Device) → IsFound c d → all_found d.stored ≡ found_entries image c
all_are c image has d found =
    let h = as_header image.header in
    let live = has.header.live in
    all_from h.area_bytes live.side c h.pages 0 d.stored (pages_are c h live d found)
    ∙ sym (before_from h.area_bytes live.side c image.map h.pages (λ m lt. byte_is c h live image.map has.map m lt))
