-- How a journal stands after a call.
use Rattle.std.specs.Prelude.{reverse}
use Rattle.std.proofs.Common.{◌≡◌, ◌≢◌, Bool, ℕ, zero, suc, ◌+◌, ◌-◌, ◌*◌, ◌^◌, ◌<◌, ◌≤◌, List, [], ◌∷◌, ◌++◌, length, Some, refl, sym, ◌∙◌, subst, arith}
use Rattle.iv_types.specs.Definitions.{Definitions}
use Rattle.disk_io.specs.Disk.{part, Only, LeavesOnly}
use Rattle.disk_io.proofs.Moments.{weaker_on}
use Rattle.page_store.specs.declared.facts.HeaderFacts.{HeaderFacts}
use Rattle.page_store.specs.Image as page
use Rattle.page_store.specs.Image.{live, image}
use Rattle.page_store.specs.Publish.{next_number, OtherArea, LiveFits, IsNew, new_image}
use Rattle.ordered_index.specs.Drawn.{IsDrawn}
use Rattle.ordered_index.specs.Tree.{Tree, map_of}
use Rattle.log_records.specs.Area.{Entry, group}
use Rattle.log_records.specs.Area.{block as block_of}
use Rattle.wal_log.specs.Log.{LogState, area_at, after_flush, restarted as log_restarted, Holds, BegunHolds, IsOutside, FlushLeaves}
use Rattle.log_disk.proofs.Areas.{log_alone}
use Rattle.core_journal.specs.Records.{Records, Saved, flushed_all, restarted}
use Rattle.log_journal.specs.declared.journal.LogJournal.{LogJournal}
use Rattle.log_journal.specs.Standing.{maps_limit, HasParts, HasHeader, IsKept, Has, Carries}
use Rattle.log_journal.specs.Saved.{MarksSaved, HasSaved, next_header, first_block}
use Rattle.log_journal.proofs.Headers.{same_number, same_other, same_fits}
use Rattle.log_journal.proofs.Blocks.{block_end, flushed_blocks, begun_blocks}

-- the areas lie behind the headers
pub area_low : (size a : ℕ) → 278528 ≤ area_at size a
area_low size zero = omega arith
area_low size (suc a) = omega arith

pub area_high : (size a : ℕ) → area_at size a ≤ 278528 + size
area_high size zero = omega arith
area_high size (suc a) = omega arith

-- what changes an area alone leaves the header
header_stays : (bytes pages number area start size : ℕ) (s c : List ℕ) (may might : List ℕ → Type 0) → 278528 ≤ start → 278528 ≤ length s → pages ≤ 131072 → IsOutside start size s c
    → HasHeader bytes pages number area s may → Only c might → HasHeader bytes pages number area c might
header_stays bytes pages number area start size s c may might low long few out has durable =
    let same = λ (i : ℕ) (lt : i < 278528). out.before i (omega (arith, lt, low)) in
    record {
      numbered = same_number s c out.size long same ∙ has.numbered;
      names = same_other s c out.size long same (1 - area) has.names;
      fits = same_fits s c out.size long same bytes pages few has.fits;
      durable = durable;
    }

-- what a crash in a flush leaves is no matter of what is reserved
pub flush_left : {D : Type 0} (moment : D → ℕ) (left_since : D → ℕ → List ℕ → Type 0) (old new : D) (log mid : LogState) (bytes : List ℕ) (groups : List (List Entry)) (rs : List Entry)
    → mid ≡ record log { reserved = log.reserved + 5 }
    → (Holds mid.start mid.gate mid.size bytes groups → mid.waiting ≡ group rs → LeavesOnly moment left_since old new (FlushLeaves mid bytes groups rs))
    → Holds log.start log.gate log.size bytes groups → log.waiting ≡ group rs → LeavesOnly moment left_since old new (FlushLeaves log bytes groups rs)
flush_left moment left_since old new log mid bytes groups rs is =
    subst (λ (m : LogState). (Holds m.start m.gate m.size bytes groups → m.waiting ≡ group rs → LeavesOnly moment left_since old new (FlushLeaves m bytes groups rs))
    → Holds log.start log.gate log.size bytes groups → log.waiting ≡ group rs → LeavesOnly moment left_since old new (FlushLeaves log bytes groups rs))
    (sym is)
    (λ left holds waits. weaker_on moment left_since old new (FlushLeaves log bytes groups rs) (FlushLeaves (record log { reserved = log.reserved + 5 }) bytes groups rs) (left holds waits)
    (λ c f. record { others = f.others; area = f.area }))

-- and it leaves what was saved
abbrev pub image_stays : (room count start : ℕ) (s c : List ℕ) (saved : Saved) → length s ≡ 278528 + 2 * room + 16384 * count → count ≤ 131072 → 278528 ≤ start → start + room ≤ 278528 + 2 * room → IsOutside start room s c
    → HasSaved room count s saved → HasSaved room count c saved
image_stays room count start s c saved size few low high out has = record {
  here = record has.here { log = part (page.area_at room has.here.area) room c };
  means = log_alone room count s c size few (record { size = out.size; before = λ i lt. out.before i (omega (arith, lt, low)); after = λ i le. out.after i (omega (arith, le, high)) }) has.here has.means;
  format = has.format;
  pages = has.pages;
  areas = has.areas;
  low_area = has.low_area;
  low_map = has.low_map;
  commit_number = has.commit_number;
  next_number = has.next_number;
  redo = has.redo;
  kept = has.kept;
  marks = has.marks;
  entries = has.entries;
}

-- a new image has what is saved with it
abbrev pub saved_image : (room count : ℕ) (facts : HeaderFacts) (block : List ℕ) (flags : List Bool) (bytes c : List ℕ) (t : Tree) → t.pages ≡ count → IsDrawn t flags bytes → (definitions : Definitions) → MarksSaved definitions t.kept
    → (commits next : ℕ) (es : List Entry) → facts.format ≡ 1 → facts.commits ≡ commits → facts.next_entry ≡ next → facts.area ≤ 1 → length block - 1 ≡ length (block_of (group (reverse es))) → IsNew room facts block flags bytes c
    → HasSaved room count c (record { maps = map_of t; definitions = definitions; commits = commits; next = next; carried = es })
saved_image room count facts block flags bytes c t pages drawn definitions marks commits next es format commits_are next_is low redo new =
    let many : length flags ≡ count = drawn.count ∙ pages in
    record {
      here = new_image room facts block flags bytes new.map new.log;
      means = subst (λ (n : ℕ). image room n c ≡ Some (new_image room facts block flags bytes new.map new.log)) many new.means;
      format = format;
      pages = many;
      areas = refl;
      low_area = low;
      low_map = λ p lt. new.low p (omega (arith, lt, many));
      commit_number = commits_are;
      next_number = next_is;
      redo = redo;
      kept = t.kept;
      marks = marks;
      entries = drawn.holds;
    }

module _ {D : Type 0} (is_told : Type 0) (size_of : D → ℕ) (seen : D → List ℕ) (may_leave : D → List ℕ → Type 0) where
  abbrev with_log : LogJournal D → LogState → LogJournal D
  with_log old log = record old { log = log }

  -- a flush of such a log leads to this one on this disk, which has the records that waited
  abbrev Flushes : LogJournal D → Records → LogState → D → LogState → Type 0
  Flushes old records log disk mid =
      log ≡ after_flush mid → length mid.waiting < 2 ^ 28
      → (is_told → (groups : List (List Entry)) (rs : List Entry) → Holds mid.start mid.gate mid.size (seen old.disk) groups → mid.waiting ≡ group rs
      → Holds mid.start (mid.gate + (5 + length mid.waiting)) mid.size (seen disk) (groups ++ rs ∷ []))
      → (is_told → IsOutside mid.start mid.size (seen old.disk) (seen disk))
      → Has is_told size_of seen may_leave (record old { log = log; disk = disk }) (flushed_all records)

  -- what waited is a block
  pub flushed : (old : LogJournal D) (records : Records) (log mid : LogState) (disk : D) → Has is_told size_of seen may_leave old records
      → mid ≡ record old.log { reserved = old.log.reserved + 5 } → size_of disk ≡ size_of old.disk → (is_told → length (seen old.disk) ≡ size_of old.disk)
      → (is_told → Only (seen disk) (may_leave disk)) → Flushes old records log disk mid
  flushed old records log mid disk has reserved size sized durable = subst (Flushes old records log disk) (sym reserved) (λ is short holds outside.
      subst (λ (l : LogState). Has is_told size_of seen may_leave (record old { log = l; disk = disk }) (flushed_all records)) (sym is) (record {
        kept = record {
          parts = subst (HasParts old.log.size old.pages) (sym size) has.kept.parts;
          low_area = has.kept.low_area;
          header = λ told.
              header_stays (size_of disk) old.pages old.saved old.area old.log.start old.log.size (seen old.disk) (seen disk) (may_leave old.disk) (may_leave disk)
              (subst (λ (n : ℕ). 278528 ≤ n) (sym has.in_area) (area_low old.log.size old.area)) (omega (arith, (has.flushed told).holds.on_disk, has.in_area, area_low old.log.size old.area)) has.kept.parts.most_pages (outside told)
              (subst (λ (n : ℕ). HasHeader n old.pages old.saved old.area (seen old.disk) (may_leave old.disk)) (sym size) (has.kept.header told)) (durable told);
          free = omega (arith, has.kept.free);
        };
        in_area = has.in_area;
        waiting = refl;
        small = tt;
        used = omega (arith, has.used);
        saves = has.saves;
        maps = has.maps;
        flushed = λ told.
            let h = has.flushed told in
            flushed_blocks (record old.log { reserved = old.log.reserved + 5 }) (seen old.disk) (seen disk) records.saved.carried records.waiting records.flushed
            (record { first = h.first; first_is = h.first_is; others = h.others; holds = h.holds; fit = h.fit; are = h.are }) has.waiting has.small short (holds told);
        image = λ told.
            image_stays old.log.size old.pages old.log.start (seen old.disk) (seen disk) records.saved (sized told ∙ has.kept.parts.whole) has.kept.parts.most_pages (subst (λ (n : ℕ). 278528 ≤ n) (sym has.in_area) (area_low old.log.size old.area))
            (omega (arith, has.in_area, area_high old.log.size old.area)) (outside told) (has.image told);
      }))

  -- a checkpoint begins, whatever records there are
  pub begun_over : (old : LogJournal D) (records : Records) (next : ℕ) (log : LogState) → IsKept is_told size_of seen may_leave old → records.image_limit ≡ maps_limit old → old.saved ≤ 2 ^ 62 + records.saves → old.saved ≤ 2 ^ 63
      → 6 ≤ old.log.size → log ≡ log_restarted (1 - old.area) next old.log → Carries is_told size_of seen may_leave (with_log old log) records next [] 6
  begun_over old records next log kept maps saves few least is =
      subst (λ (l : LogState). Carries is_told size_of seen may_leave (with_log old l) records next [] 6) (sym is) (record {
        kept = record { parts = kept.parts; low_area = kept.low_area; header = kept.header; free = kept.free };
        in_area = refl;
        next_is = refl;
        first = refl;
        small = tt;
        gate = refl;
        none_waits = refl;
        used_is = refl;
        room = least;
        saves = saves;
        few = few;
        maps = maps;
      })

  -- behind those that it has
  pub restarts : (old : LogJournal D) (records : Records) (next : ℕ) (log : LogState) → Has is_told size_of seen may_leave old records → old.saved ≤ 2 ^ 63 → 6 ≤ old.log.size
      → log ≡ log_restarted (1 - old.area) next old.log → Carries is_told size_of seen may_leave (with_log old log) records next [] 6
  restarts old records next log has few least is = begun_over old records next log has.kept has.maps has.saves few least is

  -- the checkpoint is saved
  pub saved : (old : LogJournal D) (records : Records) (next : ℕ) (es : List Entry) (used commits : ℕ) (flags : List Bool) (bytes : List ℕ) (disk : D) → Carries is_told size_of seen may_leave old records next es used
      → (t : Tree) → t.pages ≡ old.pages → IsDrawn t flags bytes → (definitions : Definitions) → MarksSaved definitions t.kept
      → size_of disk ≡ size_of old.disk → length old.log.first < 2 ^ 28 → BegunHolds old.log
      → (is_told → length (seen disk) ≡ size_of disk)
      → (is_told → IsNew old.log.size (next_header old commits) (first_block old.log) flags bytes (seen disk))
      → (is_told → Only (seen disk) (may_leave disk))
      → (is_told → next_number (live (seen disk)) (seen disk) ≡ old.saved + 1 + 1)
      → (is_told → (area : ℕ) → area ≢ 1 - old.area → OtherArea area (seen disk))
      → (is_told → LiveFits (size_of disk) old.pages (seen disk))
      → Has is_told size_of seen may_leave (record old { disk = disk; saved = old.saved + 1; area = 1 - old.area })
      (restarted records (record { maps = map_of t; definitions = definitions; commits = commits; next = next; carried = es }) used)
  saved old records next es used commits flags bytes disk has t pages drawn definitions marks size short begins sized new durable number other fits = record {
    kept = record {
      parts = subst (HasParts old.log.size old.pages) (sym size) has.kept.parts;
      low_area = omega (arith, has.kept.low_area);
      header = λ told. record {
        numbered = number told;
        names = other told (1 - (1 - old.area)) (λ (is : 1 - (1 - old.area) ≡ 1 - old.area). absurd (omega (arith, is, has.kept.low_area)));
        fits = fits told;
        durable = durable told;
      };
      free = has.kept.free;
    };
    in_area = has.in_area;
    waiting = has.none_waits;
    small = tt;
    used = has.used_is;
    saves = omega (arith, has.saves);
    maps = has.maps;
    flushed = λ told.
        begun_blocks old.log (next_header old commits) flags bytes (seen disk) es has.in_area has.first has.small has.gate short (omega (arith, has.room, has.used_is))
        (omega (arith, sized told, size, has.kept.parts.whole, has.in_area, area_high old.log.size (1 - old.area))) begins (new told);
    image = λ told.
        saved_image old.log.size old.pages (next_header old commits) (first_block old.log) flags bytes (seen disk) t pages drawn definitions marks commits next es refl refl has.next_is (omega arith) (block_end old.log (reverse es) has.first) (new told);
  }
