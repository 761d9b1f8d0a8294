-- The records that are placed lie at their places on the device.
use Rattle.std.proofs.Common.{◌≡◌, ℕ, ◌+◌, ◌<◌, ◌≤◌, List, [], ◌∷◌, ◌++◌, length, take, drop, get_or, Some, refl, sym, ap, subst, ◌∙◌, arith, append_assoc, length-append, length-take, length-drop}
use Rattle.std.specs.Prelude.{reverse}
use Rattle.std.specs.List.{AllByRecursion}
use Rattle.std.proofs.lemmas.List.{append-nil, reverse-append, take_at, drop_at, drop-drop}
use Rattle.iv_types.proofs.ByteNumbers.{IsBytes-drop, IsBytes-take}
use Rattle.disk_io.specs.Disk.{part, AreBytes}
use Rattle.disk_io.specs.Bytes.{length-part, byte-part, same_bytes}
use Rattle.page_store.specs.Image as page
use Rattle.page_store.specs.Image.{area_at, area_of, image, image_at}
use Rattle.log_records.specs.declared.record.Scanned.{Scanned}
use Rattle.log_records.specs.Spelling.{spelling}
use Rattle.log_records.specs.Area.{Entry, group, block, blocks, at_place, at_places, laid, unplaced}
use Rattle.iv_meaning.specs.Schema.{Schema}
use Rattle.txn_log.specs.Refused.{Placed}
use Rattle.wal_log.proofs.KeptLaws.{block_is}
use Rattle.log_disk.specs.Placed.{AreCarriedAt, AreFurtherAt, size_of, BeginsAt, Fill, LieBetween, RecordsLieLaw}
use Rattle.log_disk.proofs.Areas.{image_live, block_long}
use Rattle.log_disk.proofs.Scanning.{scanned_are}

-- ---- in the area

-- a record that was scanned has its bytes at its place
abbrev StandsIn : List ℕ → Scanned → Type 0
StandsIn log s = BeginsAt log s.place (unplaced s)

all_both : {X : Type 0} (P : X → Type 0) (xs ys : List X) → AllByRecursion P xs → AllByRecursion P ys → AllByRecursion P (xs ++ ys)
all_both P [] ys h k = k
all_both P (x ∷ xs) ys h k = (h.0, all_both P xs ys h.1 k)

all_of_both : {X : Type 0} (P : X → Type 0) (xs ys : List X) → AllByRecursion P (xs ++ ys) → AllByRecursion P xs × AllByRecursion P ys
all_of_both P [] ys h = (tt, h)
all_of_both P (x ∷ xs) ys h = let rest = all_of_both P xs ys h.1 in ((h.0, rest.0), rest.1)

module _ (log : List ℕ) where
  placed_stand : (place : ℕ) (es : List Entry) (rest : List ℕ) → drop place log ≡ group es ++ rest → AllByRecursion (StandsIn log) (at_places place es)
  placed_stand place [] rest e = tt
  placed_stand place (x ∷ es) rest e =
      let text : List ℕ = spelling x.number x.entry in
      let apart : drop place log ≡ text ++ (group es ++ rest) = e ∙ append_assoc text (group es) rest in (
        ap (take (size_of x)) apart ∙ take_at text (group es ++ rest) (size_of x) refl,
        placed_stand (place + size_of x) es rest (sym (drop-drop (size_of x) place log) ∙ ap (drop (size_of x)) apart ∙ drop_at text (group es ++ rest) (size_of x) refl),
      )

  laid_stand : (place : ℕ) (groups : List (List Entry)) (tail : List ℕ) → drop place log ≡ blocks groups ++ tail → AllByRecursion (StandsIn log) (laid place groups)
  laid_stand place [] tail e = tt
  laid_stand place (g ∷ groups) tail e =
      let more : List ℕ = blocks groups ++ tail in
      let apart : drop place log ≡ block (group g) ++ more = e ∙ append_assoc (block (group g)) (blocks groups) tail in
      let long : length (block (group g)) ≡ 5 + length (group g) = block_long (group g) in
      let inside : drop 5 (block (group g) ++ more) ≡ group g ++ more = ap (λ (l : List ℕ). drop 5 (l ++ more)) (block_is (group g)) in
      all_both (StandsIn log) (at_places (place + 5) g) (laid (place + (5 + length (group g))) groups)
      (placed_stand (place + 5) g more (sym (drop-drop 5 place log) ∙ ap (drop 5) apart ∙ inside))
      (laid_stand (place + (5 + length (group g))) groups tail
      (sym (drop-drop (5 + length (group g)) place log) ∙ ap (drop (5 + length (group g))) apart ∙ drop_at (block (group g)) more (5 + length (group g)) long))

  -- one behind another, the latest first; the places before and behind a record are so related
  module _ (To : ℕ → ℕ → Type 0) where
    abbrev Row : ℕ → ℕ → List Scanned → Type 0
    Row from to [] = To from to
    Row from to (s ∷ ss) = StandsIn log s × To (s.place + size_of (unplaced s)) to × Row from s.place ss

    module _ (same : (n : ℕ) → To n n) (along : (l m n : ℕ) → To l m → To m n → To l n) where
      row_from : (from mid to : ℕ) (ss : List Scanned) → To from mid → Row mid to ss → Row from to ss
      row_from from mid to [] h k = along from mid to h k
      row_from from mid to (s ∷ ss) h k = (k.0, k.1, row_from from mid s.place ss h k.2)

      row_push : (from to : ℕ) (ss : List Scanned) (s : Scanned) → To from s.place → StandsIn log s → Row (s.place + size_of (unplaced s)) to ss → Row from to (ss ++ s ∷ [])
      row_push from to [] s h stands k = (stands, k, h)
      row_push from to (t ∷ ss) s h stands k = (k.0, k.1, row_push from t.place ss s h stands k.2)

      row_placed : (from to place end : ℕ) (xs : List Scanned) (es : List Entry) → To from place → end ≡ place + length (group es) → AllByRecursion (StandsIn log) (at_places place es) → Row end to xs
          → Row from to (xs ++ reverse (at_places place es))
      row_placed from to place end xs [] h e stand k =
          let there : end ≡ place = omega (arith, e) in
          subst (Row from to) (sym (append-nil xs)) (row_from from place to xs h (subst (λ n. Row n to xs) there k))
      row_placed from to place end xs (x ∷ es) h e stand k =
          let next : ℕ = place + size_of x in
          let rest = row_placed next to next end xs es (same next) (omega (arith, e, length-append (spelling x.number x.entry) (group es))) stand.1 k in
          subst (Row from to) (append_assoc xs (reverse (at_places next es)) (at_place place x ∷ []) ∙ ap (λ (ss : List Scanned). xs ++ ss) (sym (reverse-append (at_place place x ∷ []) (at_places next es))))
          (row_push from to (xs ++ reverse (at_places next es)) (at_place place x) h stand.0 rest)

      -- with a gate and a length before each block
      row_laid : ((n : ℕ) → To n (n + 5)) → (place to : ℕ) (groups : List (List Entry)) → To (place + length (blocks groups)) to → AllByRecursion (StandsIn log) (laid place groups) → Row place to (reverse (laid place groups))
      row_laid head place to [] h stand = subst (λ n. To n to) (let e : place + 0 ≡ place = omega arith in e) h
      row_laid head place to (g ∷ groups) h stand =
          let next : ℕ = place + (5 + length (group g)) in
          let first : List Scanned = at_places (place + 5) g in
          let apart = all_of_both (StandsIn log) first (laid next groups) stand in
          let end : place + length (blocks (g ∷ groups)) ≡ next + length (blocks groups) = omega (arith, length-append (block (group g)) (blocks groups), block_long (group g)) in
          let rest = row_laid head next to groups (subst (λ n. To n to) end h) apart.1 in
          subst (Row place to) (sym (reverse-append first (laid next groups)))
          (row_placed place to (place + 5) next (reverse (laid next groups)) g (head place) (let e : next ≡ place + 5 + length (group g) = omega arith in e) apart.0 rest)

-- ---- on the device

module _ (c log : List ℕ) (at room : ℕ) (log_is : log ≡ part at room c) where
  -- what stands in the area stands on the device
  on_device : (place : ℕ) (e : Entry) → BeginsAt log place e → BeginsAt c (at + place) e
  on_device place e h =
      let n : ℕ = size_of e in
      let inside : place + n ≤ length log = omega (arith, ap length h, length-take n (drop place log), length-drop place log) in
      let of_area = ap length log_is in
      let whole : at + place + n ≤ length c = omega (arith, inside, of_area, length-take room (drop at c), length-drop at c) in
      let most : place + n ≤ room = omega (arith, inside, of_area, length-take room (drop at c)) in
      same_bytes (part (at + place) n c) (part place n log)
      (length-part (at + place) n c whole ∙ sym (length-part place n log inside))
      (λ i lt.
      let short : i < n = omega (arith, lt, length-part (at + place) n c whole) in
      byte-part (at + place) n c i short ∙ ap (λ k. get_or c k 0) (let z : at + place + i ≡ at + (place + i) = omega arith in z)
      ∙ sym (byte-part at room c (place + i) (omega (arith, short, most))) ∙ ap (λ (l : List ℕ). get_or l (place + i) 0) (sym log_is) ∙ sym (byte-part place n log i short))
      ∙ h

  there : (r : Placed) (s : Scanned) → r.place ≡ at + s.place → StandsIn log s → BeginsAt c r.place (unplaced s)
  there r s is stands = subst (λ n. BeginsAt c n (unplaced s)) (sym is) (on_device s.place (unplaced s) stands)

  filled : (from to : ℕ) (objects : Schema) (rs : List Placed) (ss : List Scanned) → AreCarriedAt at objects rs ss → Row log (λ m n. m ≡ n) from to ss → Fill c (at + from) (at + to) objects rs
  filled from to objects [] [] h k = ap (λ n. at + n) k
  filled from to objects [] (s ∷ ss) h k = absurd h
  filled from to objects (r ∷ rs) [] h k = absurd h
  filled from to objects (r ∷ rs) (s ∷ ss) h k = (
    unplaced s,
    h.1,
    there r s h.0 k.0,
    (let place = h.0 in let end = k.1 in omega (arith, place, end)),
    subst (λ n. Fill c (at + from) n objects rs) (sym h.0) (filled from s.place objects rs ss h.2 k.2),
  )

  -- the first of them begins behind the place where they begin
  low : (from to : ℕ) (ss : List Scanned) → Row log (λ m n. m ≤ n) from to ss → from ≤ to
  low from to [] h = h
  low from to (s ∷ ss) h = let below = low from s.place ss h.2 in let end = h.1 in omega (arith, below, end)

  between : (from to : ℕ) (objects : Schema) (rs : List Placed) (ss : List Scanned) → AreFurtherAt at objects rs ss → Row log (λ m n. m ≤ n) from to ss → LieBetween c (at + from) (at + to) objects rs
  between from to objects [] [] h k = tt
  between from to objects [] (s ∷ ss) h k = absurd h
  between from to objects (r ∷ rs) [] h k = absurd h
  between from to objects (r ∷ rs) (s ∷ ss) h k = (
    unplaced s,
    h.1,
    there r s h.0 k.0,
    (let place = h.0 in let below = low from s.place ss k.2 in omega (arith, place, below)),
    (let place = h.0 in let end = k.1 in omega (arith, place, end)),
    subst (λ n. LieBetween c (at + from) n objects rs) (sym h.0) (between from s.place objects rs ss h.2 k.2),
  )

  -- and the last of them ends in the area
  between_all : (from to : ℕ) (objects : Schema) (rs : List Placed) (ss : List Scanned) → AreFurtherAt at objects rs ss → Row log (λ m n. m ≤ n) from to ss → LieBetween c (at + from) (at + room) objects rs
  between_all from to objects [] [] h k = tt
  between_all from to objects [] (s ∷ ss) h k = absurd h
  between_all from to objects (r ∷ rs) [] h k = absurd h
  between_all from to objects (r ∷ rs) (s ∷ ss) h k =
      between from room objects (r ∷ rs) (s ∷ ss) h (k.0, (omega (arith, ap length k.0, length-take (size_of (unplaced s)) (drop s.place log), length-drop s.place log, ap length log_is, length-take room (drop at c))), k.2)

-- the log of an image is its area's bytes
pub log_is_part : (room count : ℕ) (c : List ℕ) (here : page.Image) → image room count c ≡ Some here → here.log ≡ part (area_at room here.area) room c
unfolding image_at
log_is_part room count c here means =
    let l = image_live room count c here means in
    sym (ap (λ (x : page.Image). x.log) l.3) ∙ ap (λ n. part (area_at room n) room c) (ap (λ (x : page.Image). x.area) l.3)

pub log_bytes : (room count : ℕ) (c : List ℕ) (here : page.Image) → AreBytes c → image room count c ≡ Some here → AreBytes here.log
log_bytes room count c here bytes means =
    subst AreBytes (sym (log_is_part room count c here means)) (IsBytes-take room (drop (area_at room here.area) c) (IsBytes-drop (area_at room here.area) c bytes))

pub records_lie : RecordsLieLaw
records_lie room count c here bytes means size i is =
    let at : ℕ = area_at room here.area in
    let same : area_at here.area_size here.area ≡ at = ap (λ n. area_at n here.area) size in
    let log_is = log_is_part room count c here means in
    let all = scanned_are here.log (laid 0 (is.first ∷ is.others)) (log_bytes room count c here bytes means) is.scan in
    let stand = subst (AllByRecursion (StandsIn here.log)) (sym all.read) (laid_stand here.log 0 all.groups all.tail all.split) in
    let apart = all_of_both (StandsIn here.log) (at_places 5 is.first) (laid (0 + (5 + length (group is.first))) is.others) stand in
    let redo : here.redo ≡ 5 + length (group is.first) = is.redo ∙ block_long (group is.first) in
    let again : here.redo ≡ 0 + (5 + length (group is.first)) = omega (arith, redo) in
    let first : Row here.log (λ m n. m ≡ n) 5 here.redo (reverse (at_places 5 is.first)) =
    row_placed here.log (λ m n. m ≡ n) (λ n. refl) (λ l m n e f. e ∙ f) 5 here.redo 5 here.redo [] is.first refl redo apart.0 refl in
    let others : Row here.log (λ m n. m ≤ n) here.redo (here.redo + length (blocks is.others)) (reverse (laid here.redo is.others)) =
    row_laid here.log (λ m n. m ≤ n) (λ n. omega arith) (λ l m n e f. omega (arith, e, f)) (λ n. omega arith) here.redo (here.redo + length (blocks is.others)) is.others (omega arith)
    (subst (λ n. AllByRecursion (StandsIn here.log) (laid n is.others)) (sym again) apart.1) in (
      filled c here.log at room log_is 5 here.redo i.pages.db.schema i.carried (reverse (at_places 5 is.first)) (subst (λ n. AreCarriedAt n i.pages.db.schema i.carried (reverse (at_places 5 is.first))) same is.carried) first,
      between_all c here.log at room log_is here.redo (here.redo + length (blocks is.others)) i.pages.db.schema i.after (reverse (laid here.redo is.others))
          (subst (λ n. AreFurtherAt n i.pages.db.schema i.after (reverse (laid here.redo is.others))) same is.after) others,
    )
