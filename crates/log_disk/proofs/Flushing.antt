-- What a flush and an append leave.
use Rattle.std.proofs.Common.{◌≡◌, inl, inr, ℕ, zero, suc, ◌+◌, ◌*◌, ◌^◌, ◌<◌, ◌≤◌, List, [], ◌∷◌, ◌++◌, length, drop, Some, refl, sym, ap, subst, ◌∙◌, arith, append_assoc}
use Rattle.std.specs.List.{AllByRecursion}
use Rattle.std.proofs.lemmas.List.{append-nil}
use Rattle.disk_io.specs.Disk.{part}
use Rattle.page_store.specs.Image as page
use Rattle.page_store.specs.Image.{Image, image, image_at}
use Rattle.log_records.specs.Spelling.{spelling}
use Rattle.log_records.specs.Area.{Entry, group, Begins, FitsBlock, IsSmall}
use Rattle.log_records.proofs.ScanLaws.{scanned_begins}
use Rattle.wal_log.specs.Log.{LogState, after_flush, Holds, FlushLeaves, IsOutside}
use Rattle.wal_log.proofs.BlockLaws.{begins_of}
use Rattle.iv_meaning.specs.Schema.{Schema}
use Rattle.txn_log.specs.Appended.{Numbered}
use Rattle.txn_log.specs.Groups.{after_of}
use Rattle.txn_log.specs.Moments.{Disk, image_of, flushed_all}
use Rattle.txn_log.proofs.Groups.{one_group_more, none_left}
use Rattle.log_disk.specs.Spelled.{IsSpellable, AreSpelled, LeadTo, spelled}
use Rattle.log_disk.specs.Bears.{IsSavedAs, HasRecords, Bears}
use Rattle.log_disk.specs.Calls.{IsOn, with_waiting, with_reserved}
use Rattle.log_disk.proofs.Areas.{log_alone, ends_first}
use Rattle.log_disk.proofs.Spelling.{one_spelled}

all_push : {X : Type 0} (P : X → Type 0) (xs : List X) (y : X) → AllByRecursion P xs → P y → AllByRecursion P (xs ++ y ∷ [])
all_push P [] y h k = (k, tt)
all_push P (x ∷ xs) y h k = (h.0, all_push P xs y h.1 k)

group_push : (es : List Entry) (e : Entry) → group (es ++ e ∷ []) ≡ group es ++ spelling e.number e.entry
group_push [] e = append-nil (spelling e.number e.entry)
group_push (x ∷ es) e = ap (λ (bs : List ℕ). spelling x.number x.entry ++ bs) (group_push es e) ∙ sym (append_assoc (spelling x.number x.entry) (group es) (spelling e.number e.entry))

area_low : (room a : ℕ) → 278528 ≤ page.area_at room a
area_low room zero = omega arith
area_low room (suc a) = omega arith

area_high : (room a : ℕ) → page.area_at room a ≤ 278528 + room
area_high room zero = omega arith
area_high room (suc a) = omega arith

module _ (room count : ℕ) (d : Disk) (log : LogState) (s : List ℕ) (on : IsOn room count d log s) where
  -- what changes in the area in use alone
  in_areas : (c : List ℕ) → IsOutside log.start log.size s c → IsOutside 278528 (2 * room) s c
  in_areas c out = record {
    size = out.size;
    before = λ i lt. out.before i (omega (arith, lt, on.start, area_low room on.here.area));
    after = λ i le. out.after i (omega (arith, le, on.start, on.area_size, area_high room on.here.area));
  }

  abbrev area_of_now : List ℕ → List ℕ
  area_of_now c = part (page.area_at room on.here.area) room c

  abbrev here_with : List ℕ → Image
  here_with c = record on.here { log = area_of_now c }

  means_with : (c : List ℕ) → IsOutside log.start log.size s c → image room count c ≡ Some (here_with c)
  means_with c out = log_alone room count s c on.size on.few (in_areas c out) on.here on.means

  pages_with : (c : List ℕ) → IsSavedAs room count (here_with c) d.pages
  pages_with c = record { format = on.pages.format; pages = on.pages.pages; areas = on.pages.areas; area = on.pages.area; low = on.pages.low; commits = on.pages.commits; stored = on.pages.stored }

  records_with : (c : List ℕ) → HasRecords (here_with c) (image_of d []) on.first on.others
  records_with c = record { carried = on.records.carried; fit = on.records.fit; redo = on.records.redo; after = on.records.after }

  begins_at : (c : List ℕ) (groups : List (List Entry)) → Begins groups (part log.start log.size c) → Begins groups (area_of_now c)
  begins_at c groups b = subst (λ n. Begins groups (part n room c)) on.start (subst (λ n. Begins groups (part log.start n c)) on.area_size b)

  -- without what waits
  bears_flushed : (c : List ℕ) → IsOutside log.start log.size s c → Begins (on.first ∷ on.others) (part log.start log.size c) → Bears room count c (image_of d [])
  bears_flushed c out begins = record {
    here = here_with c;
    means = means_with c out;
    pages = pages_with c;
    first = on.first;
    others = on.others;
    first_end = ends_first on.first on.others (area_of_now c) (begins_at c (on.first ∷ on.others) begins) on.fits.0 ∙ ap (λ n. Some n) (sym on.records.redo);
    scan = scanned_begins (on.first ∷ on.others) (area_of_now c) (begins_at c (on.first ∷ on.others) begins) on.fits;
    records = records_with c;
  }

  unchanged : IsOutside log.start log.size s s
  unchanged = record { size = refl; before = λ i lt. refl; after = λ i le. refl }

  pub bears_now : Bears room count s (image_of d [])
  bears_now = bears_flushed s unchanged (begins_of log.start log.gate log.size s (on.first ∷ on.others) on.holds)

  pub bears_none : Bears room count s (image_of d (drop (length d.waiting) d.waiting))
  bears_none = subst (λ (rs : List Numbered). Bears room count s (image_of d rs)) (sym (none_left d.waiting)) bears_now

  module _ (short : length log.waiting < 2 ^ 28) where
    fits_more : AllByRecursion FitsBlock (on.first ∷ (on.others ++ on.waits ∷ []))
    fits_more = (on.fits.0, all_push FitsBlock on.others on.waits on.fits.1 (record { small = on.small; short = subst (λ (bs : List ℕ). length bs < 2 ^ 32) on.waiting (omega (arith, short)) }))

    spelled_more : AreSpelled d.pages.db.schema (d.waiting ++ d.flushed) (after_of (on.others ++ on.waits ∷ []))
    spelled_more = subst (AreSpelled d.pages.db.schema (d.waiting ++ d.flushed)) (sym (one_group_more on.others on.waits)) on.spelled_all

    bears_all : (c : List ℕ) → IsOutside log.start log.size s c → Begins (on.first ∷ (on.others ++ on.waits ∷ [])) (part log.start log.size c) → Bears room count c (image_of d d.waiting)
    bears_all c out begins = record {
      here = here_with c;
      means = means_with c out;
      pages = pages_with c;
      first = on.first;
      others = on.others ++ on.waits ∷ [];
      first_end = ends_first on.first (on.others ++ on.waits ∷ []) (area_of_now c) (begins_at c (on.first ∷ (on.others ++ on.waits ∷ [])) begins) on.fits.0 ∙ ap (λ n. Some n) (sym on.records.redo);
      scan = scanned_begins (on.first ∷ (on.others ++ on.waits ∷ [])) (area_of_now c) (begins_at c (on.first ∷ (on.others ++ on.waits ∷ [])) begins) fits_more;
      records = record { carried = on.records.carried; fit = on.records.fit; redo = on.records.redo; after = spelled_more };
    }

    -- what a crash in a flush leaves: all that waits, or nothing of it
    pub flush_bears : (c : List ℕ) → FlushLeaves log s (on.first ∷ on.others) on.waits c → (k : ℕ) × Bears room count c (image_of d (drop k d.waiting))
    flush_bears c leaves = elim leaves.area [
      | inl begins ↦ (length d.waiting, subst (λ (rs : List Numbered). Bears room count c (image_of d rs)) (sym (none_left d.waiting)) (bears_flushed c leaves.others begins))
      | inr begins ↦ (0, bears_all c leaves.others begins)
    ]

    pub flushed_on : (after : LogState) (c : List ℕ) → after ≡ after_flush log → IsOutside log.start log.size s c
        → Holds log.start (log.gate + (5 + length log.waiting)) log.size c (on.first ∷ (on.others ++ on.waits ∷ [])) → IsOn room count (flushed_all d) after c
    flushed_on after c is out holds = subst (λ (l : LogState). IsOn room count (flushed_all d) l c) (sym is) (record {
      size = out.size ∙ on.size;
      few = on.few;
      here = here_with c;
      means = means_with c out;
      pages = pages_with c;
      first = on.first;
      others = on.others ++ on.waits ∷ [];
      records = record { carried = on.records.carried; fit = on.records.fit; redo = on.records.redo; after = spelled_more };
      fits = fits_more;
      area_size = on.area_size;
      start = on.start;
      holds = holds;
      waits = [];
      small = tt;
      waiting = refl;
      spelled_all = spelled_more;
    })

  -- one record more waits
  pub appended_on : (e : Disk) (after : LogState) (before : Schema) (r : Numbered) (bytes : ℕ) → e ≡ record d { waiting = r ∷ d.waiting } → LeadTo d.pages.db.schema (d.waiting ++ d.flushed) before
      → IsSpellable before r.of → IsSmall (spelled before r) → after ≡ with_reserved (with_waiting log (spelled before r)) bytes → IsOn room count e after s
  appended_on e after before r bytes disk leads fit small is =
      subst (λ (l : LogState). IsOn room count e l s) (sym is) (subst (λ (x : Disk). IsOn room count x (with_reserved (with_waiting log (spelled before r)) bytes) s) (sym disk) (record {
        size = on.size;
        few = on.few;
        here = on.here;
        means = on.means;
        pages = on.pages;
        first = on.first;
        others = on.others;
        records = on.records;
        fits = on.fits;
        area_size = on.area_size;
        start = on.start;
        holds = on.holds;
        waits = on.waits ++ spelled before r ∷ [];
        small = all_push IsSmall on.waits (spelled before r) on.small small;
        waiting = ap (λ (bs : List ℕ). bs ++ spelling (spelled before r).number (spelled before r).entry) on.waiting ∙ sym (group_push on.waits (spelled before r));
        spelled_all = one_spelled d.pages.db.schema before r (d.waiting ++ d.flushed) on.waits (after_of on.others) leads fit on.spelled_all;
      }))

-- whatever is reserved
pub reserved_on : (room count : ℕ) (d : Disk) (log : LogState) (s : List ℕ) (bytes : ℕ) → IsOn room count d log s → IsOn room count d (with_reserved log bytes) s
reserved_on room count d log s bytes on = record {
  size = on.size;
  few = on.few;
  here = on.here;
  means = on.means;
  pages = on.pages;
  first = on.first;
  others = on.others;
  records = on.records;
  fits = on.fits;
  area_size = on.area_size;
  start = on.start;
  holds = on.holds;
  waits = on.waits;
  small = on.small;
  waiting = on.waiting;
  spelled_all = on.spelled_all;
}
