-- What a publish writes bears the image of its checkpoint.
use Rattle.std.proofs.Common.{◌≡◌, Bool, ℕ, zero, suc, ◌+◌, ◌-◌, ◌*◌, ◌^◌, ◌<◌, ◌≤◌, List, [], ◌∷◌, ◌++◌, map, length, take, drop, get_or, Some, refl, sym, ap, subst, ◌∙◌, arith, append_assoc, length-append, length-take, length-drop}
use Rattle.std.specs.List.{AllByRecursion}
use Rattle.std.proofs.lemmas.List.{take-take, take_at, take-append-drop, append-nil, get_or-take, get_or-drop, get_or-append_right, reverse-reverse}
use Rattle.byteorder.specs.Endian.{big_bytes}
use Rattle.disk_io.specs.Disk.{part}
use Rattle.page_store.specs.declared.facts.HeaderFacts.{HeaderFacts}
use Rattle.page_store.specs.Image as page
use Rattle.page_store.specs.Image.{Image, image, image_at, area_of}
use Rattle.page_store.specs.Publish.{IsNew, new_image}
use Rattle.log_records.specs.Spelling.{spelling}
use Rattle.log_records.specs.Area.{Entry, group, block, Begins, FitsBlock}
use Rattle.log_records.proofs.ScanLaws.{scanned_begins}
use Rattle.wal_log.specs.Log as log
use Rattle.wal_log.specs.Log.{LogState, used_by, restarted, Holds}
use Rattle.txn_machine.specs.Log.{block_bytes}
use Rattle.wal_log.proofs.BlockLaws.{begun_holds}
use Rattle.wal_log.proofs.KeptLaws.{block_is}
use Rattle.iv_meaning.specs.Schema.{Schema}
use Rattle.txn_log.specs.Replay.{Deed, Pages}
use Rattle.txn_log.specs.Appended.{written}
use Rattle.txn_log.specs.Moments.{Disk, published}
use Rattle.log_disk.specs.Spelled.{spelled, AreSpellable}
use Rattle.log_disk.specs.Bears.{IsSavedAs, HasRecords, Bears}
use Rattle.log_disk.specs.Calls.{with_carried, first_entries, first_block, IsOn, Saves}
use Rattle.log_disk.proofs.Areas.{image_live, ends_first}

-- ---- the log with its carried records

carried_is : (l : LogState) (es : List Entry) → with_carried l es ≡ record l { first = l.first ++ group es; gate = l.gate + length (group es) }
carried_is l [] = λ t. record l { first = sym (append-nil l.first) t; gate = same t }
  where
    same : l.gate ≡ l.gate + 0
    same = omega arith
carried_is l (e ∷ es) =
    carried_is (record l { first = l.first ++ spelling e.number e.entry; gate = l.gate + length (spelling e.number e.entry) }) es
    ∙ (λ t. record l { first = append_assoc l.first (spelling e.number e.entry) (group es) t; gate = same t })
  where
    same : l.gate + length (spelling e.number e.entry) + length (group es) ≡ l.gate + length (spelling e.number e.entry ++ group es)
    same = omega (arith, length-append (spelling e.number e.entry) (group es))

same_area : (size a : ℕ) → log.area_at size a ≡ page.area_at size a
same_area size zero = refl
same_area size (suc a) = refl

one_map : (objects : Schema) (ds : List Deed) → map (λ d. spelled objects (written d)) ds ≡ map (spelled objects) (map written ds)
one_map objects [] = refl
one_map objects (d ∷ ds) = ap (λ (es : List Entry). spelled objects (written d) ∷ es) (one_map objects ds)

module _ (room count : ℕ) (p : Pages) (carried : List Deed) (next : ℕ) (old l : LogState) (facts : HeaderFacts) (stored : List Bool) (bytes : List ℕ) (saves : Saves room count p carried next old l facts stored bytes)
    (fit : AreSpellable p.db.schema (map written carried)) where
  abbrev first : List Entry
  first = first_entries p carried

  pub log_is : l ≡ record (restarted facts.area facts.next_entry old) { first = group first; gate = 5 + length (group first) }
  log_is = saves.log_is ∙ carried_is (restarted facts.area facts.next_entry old) first

  first_is : l.first ≡ group first
  first_is = ap (λ (x : LogState). x.first) log_is

  gate_is : l.gate ≡ 5 + length l.first
  gate_is = ap (λ (x : LogState). x.gate) log_is ∙ ap (λ (bs : List ℕ). 5 + length bs) (sym first_is)

  long : length (block l.first) ≡ l.gate
  long = omega (arith, gate_is, ap length (block_is l.first), length-block)
    where
      length-block : length (165 ∷ (big_bytes 4 (length l.first) ++ l.first)) ≡ 5 + length l.first
      length-block = omega (arith, length-append (big_bytes 4 (length l.first)) l.first)

  -- it has the next number, and the bytes of an empty block, the next gate and the carried records are used
  pub next_is : l.next ≡ next
  next_is = ap (λ (x : LogState). x.next) log_is ∙ saves.next_entry

  pub used_is : used_by l ≡ block_bytes + 1 + length (group first)
  used_is = let e = ap used_by log_is in omega (arith, e)

  pub reserved_is : l.reserved ≡ old.reserved
  reserved_is = ap (λ (x : LogState). x.reserved) log_is

  longer : length (first_block l) ≡ l.gate + 1
  longer = omega (arith, long, length-append (block l.first) (0 ∷ []))

  fits : AllByRecursion FitsBlock (first ∷ [])
  fits = (record { small = saves.small; short = subst (λ (bs : List ℕ). length bs < 2 ^ 32) first_is (omega (arith, saves.short)) }, tt)

  records : (here : Image) → here.redo ≡ length (first_block l) - 1 → HasRecords here (record { pages = p; carried = map written carried; after = [] }) first []
  records here redo = record {
    carried = reverse-reverse (map (λ d. spelled p.db.schema (written d)) carried) ∙ one_map p.db.schema carried;
    fit = fit;
    redo = redo ∙ (let e : length (first_block l) - 1 ≡ length (block l.first) = omega (arith, longer, long) in e) ∙ ap (λ (bs : List ℕ). length (block bs)) first_is;
    after = tt;
  }

  module _ (c : List ℕ) (new : IsNew room facts (first_block l) stored bytes c) where
    abbrev pub here : Image
    here = new_image room facts (first_block l) stored bytes new.map new.log

    pub means : image room count c ≡ Some here
    means = subst (λ n. image room n c ≡ Some here) saves.many new.means

    pub pages : IsSavedAs room count here p
    pages = record {
      format = saves.format;
      pages = saves.many;
      areas = refl;
      area = saves.area;
      low = λ n lt. new.low n (omega (arith, lt, saves.many));
      commits = saves.commits;
      stored = saves.pages;
    }

    long_log : l.gate + 1 ≤ length new.log
    long_log = omega (arith, longer, ap length new.begins, length-take (length (first_block l)) new.log)

    front : take l.gate new.log ≡ block l.first
    front =
        sym (take-take l.gate (length (first_block l)) new.log (omega (arith, longer)))
        ∙ ap (take l.gate) new.begins
        ∙ take_at (block l.first) (0 ∷ []) l.gate long

    shut : get_or new.log l.gate 0 ≡ 0
    shut =
        sym (get_or-take (length (first_block l)) new.log l.gate 0 (omega (arith, longer)))
        ∙ ap (λ (bs : List ℕ). get_or bs l.gate 0) new.begins
        ∙ get_or-append_right (block l.first) (0 ∷ []) l.gate l.gate 0 long (omega arith)
        ∙ ap (λ n. get_or (0 ∷ []) n 0) (let e : l.gate - l.gate ≡ 0 = omega arith in e)

    begins : Begins (first ∷ []) new.log
    begins = record {
      tail = drop l.gate new.log;
      split = sym (take-append-drop l.gate new.log) ∙ ap (λ (bs : List ℕ). bs ++ drop l.gate new.log) (front ∙ ap block first_is ∙ sym (append-nil (block (group first))));
      more = omega (arith, long_log, length-drop l.gate new.log);
      shut = λ is. absurd (let e : 0 ≡ 165 = sym shut ∙ ap (λ n. get_or new.log n 0) (let f : l.gate ≡ l.gate + 0 = omega arith in f) ∙ sym (get_or-drop l.gate new.log 0 0) ∙ is in omega (arith, e));
    }

    pub new_bears : Bears room count c (record { pages = p; carried = map written carried; after = [] })
    new_bears = record {
      here = here;
      means = means;
      pages = pages;
      first = first;
      others = [];
      first_end = ends_first first [] new.log begins fits.0 ∙ ap (λ n. Some n) (sym (records here refl).redo);
      scan = scanned_begins (first ∷ []) new.log begins fits;
      records = records here refl;
    }

    module _ (size : length c ≡ 278528 + 2 * room + 16384 * count) (few : count ≤ 131072) (same : old.size ≡ room) where
      area_size : l.size ≡ room
      area_size = ap (λ (x : LogState). x.size) log_is ∙ same

      start : l.start ≡ page.area_at room facts.area
      start = ap (λ (x : LogState). x.start) log_is ∙ same_area old.size facts.area ∙ ap (λ n. page.area_at n facts.area) same

      area_end : page.area_at room facts.area ≤ 278528 + room
      area_end = by_area facts.area
        where
          by_area : (a : ℕ) → page.area_at room a ≤ 278528 + room
          by_area zero = omega arith
          by_area (suc a) = omega arith

      log_part : (k : ℕ) → image_at room count k c ≡ here → new.log ≡ part (page.area_at room facts.area) room c
      unfolding image_at
      log_part k is = sym (ap (λ (x : Image). x.log) is) ∙ ap (λ a. part (page.area_at room a) room c) (ap (λ (x : Image). x.area) is)

      begun : part l.start (l.gate + 1) c ≡ block l.first ++ 0 ∷ []
      begun =
          let k = image_live room count c here means in
          ap (λ n. part n (l.gate + 1) c) start
          ∙ sym (take-take (l.gate + 1) room (drop (page.area_at room facts.area) c) (omega (arith, longer, saves.block_fits)))
          ∙ ap (take (l.gate + 1)) (sym (log_part k.0 k.3))
          ∙ ap (λ n. take n new.log) (sym longer)
          ∙ new.begins

      holds : Holds l.start l.gate l.size c (first ∷ [])
      holds = begun_holds l.start l.gate l.size c l.first first first_is gate_is (omega (arith, longer, saves.block_fits, area_size)) (omega (arith, start, area_size, area_end, size)) begun

      pub new_on : (d : Disk) → IsOn room count (published p carried d) l c
      new_on d = record {
        size = size;
        few = few;
        here = here;
        means = means;
        pages = pages;
        first = first;
        others = [];
        records = records here refl;
        fits = fits;
        area_size = area_size;
        start = start;
        holds = holds;
        waits = [];
        small = tt;
        waiting = ap (λ (x : LogState). x.waiting) log_is;
        spelled_all = tt;
      }
