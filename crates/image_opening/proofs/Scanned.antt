-- The records of an image as they were scanned are those that are placed.
use Rattle.std.proofs.Common.{◌≡◌, ℕ, ◌+◌, ◌≤◌, ◌<◌, ◌^◌, List, [], ◌∷◌, ◌++◌, length, drop, Some, Ok, sym, ap, subst, ◌∙◌, arith, length-append, length-take, length-drop}
use Rattle.std.specs.Prelude.{Result, reverse}
use Rattle.std.specs.List.{AllByRecursion}
use Rattle.std.proofs.lemmas.List.Elements.{All-from_recursion}
use Rattle.disk_io.specs.Disk.{part, AreBytes}
use Rattle.page_store.specs.Image as page
use Rattle.page_store.specs.Image.{area_at, area_of, image_at}
use Rattle.log_records.specs.declared.record.Scanned.{Scanned}
use Rattle.log_records.specs.Area.{Entry, group, at_places, laid}
use Rattle.log_records.specs.Scan.{Fault, scanned}
use Rattle.log_records.specs.Spelling.{spelling}
use Rattle.iv_meaning.specs.Schema.{Schema}
use Rattle.txn_log.specs.Damaged.{Header}
use Rattle.txn_log.specs.Refused.{Placed, PlacedImage}
use Rattle.log_disk.specs.Found.{header_of}
use Rattle.log_disk.specs.Placed.{AreCarriedAt, AreFurtherAt, ArePlacedIn, BeginsAt, Fill, LieBetween}
use Rattle.log_disk.proofs.Areas.{image_live, block_long}
use Rattle.log_disk.proofs.Living.{live_same}
use Rattle.log_disk.proofs.Lying.{records_lie}
use Rattle.table_store.specs.Lists.{Listed, map_at}
use Rattle.record_replay.specs.Past.{carrying}
use Rattle.record_replay.specs.Standing.{HasReplayed}
use Rattle.record_replay.specs.declared.replay.Replay.{Replay}
use Rattle.image_finding.specs.declared.image.FoundImage.{FoundImage}
use Rattle.image_finding.specs.Headers.{as_header, area_in}
use Rattle.image_finding.specs.Images.{HasImage}
use Rattle.log_replay.specs.Through.{AreOnDevice}
use Rattle.log_replay.specs.Told.{AreScanned, IsImageOf}
use Rattle.image_pages.specs.Pages.{no_limit}
use Rattle.image_opening.specs.Images.{IsImageIn}

some_same : (m n : ℕ) → Some m ≡ Some n → m ≡ n
some_same m n e = cc

same_records : (xs ys : List Scanned) → ◌≡◌ {A = Result (List Scanned) Fault} (Ok xs) (Ok ys) → xs ≡ ys
same_records xs ys e = cc

-- ---- places in an area

-- a record takes bytes
takes_bytes : (e : Entry) → 0 < length (spelling e.number e.entry)
takes_bytes e = omega arith

before_end : (end place : ℕ) (es : List Entry) → place + length (group es) ≤ end → AllByRecursion (λ s. s.place < end) (at_places place es)
before_end end place [] le = tt
before_end end place (e ∷ es) le =
    let both = length-append (spelling e.number e.entry) (group es) in
    let some = takes_bytes e in
    (omega (arith, le, both, some), before_end end (place + length (spelling e.number e.entry)) es (omega (arith, le, both)))

both_hold : (P : Scanned → Type 0) (xs ys : List Scanned) → AllByRecursion P xs → AllByRecursion P ys → AllByRecursion P (xs ++ ys)
both_hold P [] ys h k = k
both_hold P (x ∷ xs) ys h k = (h.0, both_hold P xs ys h.1 k)

behind_places : (begin place : ℕ) (es : List Entry) → begin ≤ place → AllByRecursion (λ s. begin ≤ s.place) (at_places place es)
behind_places begin place [] le = tt
behind_places begin place (e ∷ es) le = (le, behind_places begin (place + length (spelling e.number e.entry)) es (omega (arith, le)))

behind_laid : (begin place : ℕ) (groups : List (List Entry)) → begin ≤ place → AllByRecursion (λ s. begin ≤ s.place) (laid place groups)
behind_laid begin place [] le = tt
behind_laid begin place (es ∷ groups) le =
    both_hold (λ s. begin ≤ s.place) (at_places (place + 5) es) (laid (place + (5 + length (group es))) groups)
    (behind_places begin (place + 5) es (omega (arith, le))) (behind_laid begin (place + (5 + length (group es))) groups (omega (arith, le)))

-- ---- on the device

module _ (c : List ℕ) (small : length c < 2 ^ 64) where
  place_on : (place : ℕ) (e : Entry) → BeginsAt c place e → place < 2 ^ 64
  place_on place e h =
      let n = length (spelling e.number e.entry) in
      let some = takes_bytes e in
      omega (arith, ap length h, length-take n (drop place c), length-drop place c, some, small)

  filled_on : (from to : ℕ) (objects : Schema) (rs : List Placed) → Fill c from to objects rs → AreOnDevice rs
  filled_on from to objects [] h = tt
  filled_on from to objects (r ∷ rs) h = (place_on r.place h.0 h.2, filled_on from r.place objects rs h.4)

  lying_on : (from to : ℕ) (objects : Schema) (rs : List Placed) → LieBetween c from to objects rs → AreOnDevice rs
  lying_on from to objects [] h = tt
  lying_on from to objects (r ∷ rs) h = (place_on r.place h.0 h.2, lying_on from r.place objects rs h.5)

-- ---- the image

module _ (c : List ℕ) (bytes : AreBytes c) (image : FoundImage) (has : HasImage c image) (i : PlacedImage) (im : IsImageIn c i) where
  abbrev here : page.Image
  here = im.here

  abbrev placed : ArePlacedIn im.here i
  placed = im.placed

  abbrev k : ℕ
  k = (image_live im.room im.count c here im.whole.means).0

  is : image_at im.room im.count k c ≡ here
  is = (image_live im.room im.count c here im.whole.means).3

  header_is : as_header image.header ≡ header_of k c
  header_is =
      let size = im.whole.limited.size in
      let same : k ≡ has.header.live.side = some_same k has.header.live.side (sym (live_same c (omega (arith, size)) ∙ (image_live im.room im.count c here im.whole.means).1) ∙ has.header.live.lives) in
      has.header.live.fields ∙ ap (λ n. header_of n c) (sym same)

  area_there : image.header.area ≡ area_of k c
  area_there = ap (λ (h : Header). h.area) header_is

  area_is : image.header.area ≡ here.area
  unfolding image_at
  area_is = area_there ∙ ap (λ (x : page.Image). x.area) is

  size_is : image.header.area_bytes ≡ here.area_size
  unfolding image_at
  size_is = ap (λ (h : Header). h.area_bytes) header_is ∙ ap (λ (x : page.Image). x.area_size) is

  redo_is : image.header.redo ≡ here.redo
  unfolding image_at
  redo_is = ap (λ (h : Header). h.redo) header_is ∙ ap (λ (x : page.Image). x.redo) is

  pub pages_are : image.header.pages ≡ here.pages
  unfolding image_at
  pages_are = ap (λ (h : Header). h.pages) header_is ∙ ap (λ (x : page.Image). x.pages) is

  pub commits_are : image.header.commits ≡ here.commits
  unfolding image_at
  commits_are = ap (λ (h : Header). h.commits) header_is ∙ ap (λ (x : page.Image). x.commits) is

  log_there : part (area_at im.room (area_of k c)) im.room c ≡ here.log
  unfolding image_at
  log_there = ap (λ (x : page.Image). x.log) is

  log_is : area_in (as_header image.header) c ≡ here.log
  log_is =
      let size : image.header.area_bytes ≡ im.room = size_is ∙ im.whole.areas in
      (λ t. part (area_at (size t) (area_there t)) (size t) c) ∙ log_there

  records_are : image.records ≡ laid 0 (placed.first ∷ placed.others)
  records_are = same_records image.records (laid 0 (placed.first ∷ placed.others)) (sym has.records ∙ (ap scanned log_is ∙ placed.scan))

  pub low_area : image.header.area ≤ 1
  low_area = let low = im.whole.area in let same = area_is in omega (arith, low, same)

  ends : here.redo ≡ 5 + length (group placed.first)
  ends = placed.redo ∙ block_long (group placed.first)

  small : length c < 2 ^ 64
  small =
      let size = im.whole.limited.size in
      let pages = im.whole.limited.pages.1 in
      let areas = im.whole.limited.areas.1 in
      omega (arith, size, pages, areas)

  pub are_scanned : AreScanned (area_at image.header.area_bytes image.header.area) image.header.redo image.records i
  are_scanned =
      let lie = records_lie im.room im.count c here bytes im.whole.means im.whole.areas i placed in
      let at : area_at here.area_size here.area ≡ area_at image.header.area_bytes image.header.area = (λ t. area_at (sym size_is t) (sym area_is t)) in
      let begin = ends in
      let redo : image.header.redo ≡ 5 + length (group placed.first) = redo_is ∙ ends in record {
        first = at_places 5 placed.first;
        others = laid (5 + length (group placed.first)) placed.others;
        split = records_are ∙ ap (λ n. at_places 5 placed.first ++ laid n placed.others) (let same : 0 + (5 + length (group placed.first)) ≡ 5 + length (group placed.first) = omega arith in same);
        before = All-from_recursion (λ s. s.place < image.header.redo) (at_places 5 placed.first) (before_end image.header.redo 5 placed.first (omega (arith, redo)));
        behind = All-from_recursion (λ s. image.header.redo ≤ s.place) (laid (5 + length (group placed.first)) placed.others)
            (behind_laid image.header.redo (5 + length (group placed.first)) placed.others (omega (arith, redo)));
        carried = subst (λ n. AreCarriedAt n i.pages.db.schema i.carried (reverse (at_places 5 placed.first))) at placed.carried;
        after = subst (λ n. AreFurtherAt n i.pages.db.schema i.after (reverse (laid (5 + length (group placed.first)) placed.others))) at
            (subst (λ n. AreFurtherAt (area_at here.area_size here.area) i.pages.db.schema i.after (reverse (laid n placed.others))) begin placed.after);
        carried_on = filled_on c small (area_at im.room here.area + 5) (area_at im.room here.area + here.redo) i.pages.db.schema i.carried lie.0;
        after_on = lying_on c small (area_at im.room here.area + here.redo) (area_at im.room here.area + im.room) i.pages.db.schema i.after lie.1;
      }

  pub is_image : (replay : Replay (List Listed)) → HasReplayed map_at no_limit replay (carrying i.pages [] []) → (at : ℕ) → (image.header.area ≤ 1 → at ≡ area_at image.header.area_bytes image.header.area)
      → (records : List Scanned) → records ≡ image.records → IsImageOf map_at no_limit at image.header.redo records replay i
  is_image replay begins at place records same = record {
    begins = begins;
    scanned = subst (λ (ss : List Scanned). AreScanned at image.header.redo ss i) (sym same) (subst (λ n. AreScanned n image.header.redo image.records i) (sym (place low_area)) are_scanned);
  }
