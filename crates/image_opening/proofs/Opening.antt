-- What was replayed is what the image recovers to, or the image is refused.
use Rattle.std.proofs.Common.{◌≡◌, ◌⊎◌, inl, inr, ℕ, ◌+◌, ◌-◌, ◌≤◌, ◌<◌, ◌^◌, List, map, Some, refl, sym, ap, subst, ◌∙◌, arith}
use Rattle.std.specs.Prelude.{min}
use Rattle.std.specs.List.{sum}
use Rattle.disk_io.specs.Disk.{AreBytes}
use Rattle.iv_types.specs.Definitions.{Definitions}
use Rattle.iv_types.specs.Maps.{Map, map_size, used}
use Rattle.query_laws.specs.Limited.{IsLimited}
use Rattle.page_store.specs.Image.{area_at}
use Rattle.table_store.specs.Lists.{Listed, map_at}
use Rattle.txn_machine.specs.Laws.{AreInRange}
use Rattle.txn_machine.specs.Log.{Within, Above, definition_entries, view_entries}
use Rattle.txn_log.specs.Room.{rows_bytes}
use Rattle.txn_log.specs.Replay.{Pages, recovered}
use Rattle.txn_log.specs.Stored.{parts_entries}
use Rattle.txn_log.specs.Refused.{most_number, PlacedImage, data_left, texts_in, IsFine, BadImage, IsRefused, sums, entries, view}
use Rattle.data_room.proofs.Used.{used_is}
use Rattle.log_disk.specs.Placed.{data_limit}
use Rattle.image_catalog.proofs.Making.{made_so}
use Rattle.image_finding.specs.declared.image.FoundImage.{FoundImage}
use Rattle.image_finding.specs.declared.fault.FindFault.{FindFault}
use Rattle.image_finding.specs.declared.fault.FindFault.TheVariants as find
use Rattle.image_finding.specs.Faults as found
use Rattle.image_finding.specs.Faults.{told_by}
use Rattle.image_finding.specs.Images.{HasImage}
use Rattle.image_finding.specs.Rules as rules
use Rattle.image_views.specs.Compared.{CanCompare}
use Rattle.record_replay.specs.Standing.{Has, contents_of}
use Rattle.record_replay.specs.Texts.{texts_entries}
use Rattle.record_replay.specs.declared.replay.Replay.{Replay}
use Rattle.log_replay.specs.Told.{IsRecovered}
use Rattle.image_pages.specs.Pages.{no_limit, TreeStore, CountsTextsOf}
use Rattle.image_opening.specs.Faults.{open_fault, views_fault, counted_by}
use Rattle.image_opening.specs.Images.{IsImageIn}
use Rattle.image_opening.specs.Telling.{HasSound, IsFineSo, IsWrongIn, Tells, Refuses}
use Rattle.image_opening.specs.declared.fault.OpenFault.{OpenFault}
use Rattle.image_opening.specs.declared.read.Recovered.{Recovered}
use Rattle.image_opening.specs.declared.fault.OpenFault.TheVariants as why
use Rattle.image_opening.specs.declared.views.ViewsFault.{ViewsFault}
use Rattle.image_opening.specs.declared.views.ViewsFault.TheVariants as views
use Rattle.image_opening.proofs.Scanned.{are_scanned, pages_are}
use Rattle.image_opening.proofs.Texts.{same_turned, both_texts, carried_none, further_texts}

-- ---- a store that can be compared

pub can_compare : (store : TreeStore) (p : Pages) → Has map_at no_limit store p → CanCompare store.catalog (map_at store.tables) store.views (contents_of p)
can_compare store p h = record { readable = record { held = h.closed.held; stored = h.stored }; sound = h.sound }

-- where a sum stands still, the limit is passed
pub is_within : (image : FoundImage) (maps : ℕ → Map) (text_bytes size limit : ℕ) → min (map_size (maps 0)) (2 ^ 64 - 1) ≤ text_bytes + texts_entries image.records
    → size ≡ min (used maps - map_size (maps 0) + text_bytes + texts_entries image.records) (2 ^ 64 - 1) → limit ≡ data_limit image.header.pages → size ≤ limit → used maps ≤ data_limit image.header.pages
is_within image maps text_bytes size limit texts size_is limit_is le = let pages = image.few_pages in omega (arith, texts, size_is, limit_is, le, pages)

-- what is read has them
pub has_sound : (size limit : ℕ) (r : Recovered) (p : Pages) → Has map_at no_limit r.replay.store p → r.replay.commits ≡ p.db.number → r.replay.next ≤ most_number + 1 → ((q : Pages) → Has map_at no_limit r.replay.store q → IsFineSo size limit (contents_of q))
    → r.replay.commits < 2 ^ 63 → used (map_at r.replay.store.tables) ≤ data_limit r.header.pages → HasSound r
has_sound size limit r p has commits next f few within =
    record { pages = p; has = has; commits = commits; few = few; next = next; in_range = λ q h. (f q h).in_range; fresh_at = λ q h place. (f q h).fresh_at q.db.number place; within = within }

-- an image is refused for this
abbrev pub RefusesIt : PlacedImage → OpenFault → Type 0
RefusesIt i (why.BadImage bad) = IsRefused i (BadImage bad.rule bad.place)
RefusesIt i (why.BadView wrong) = IsWrongIn i wrong
RefusesIt i why.DiskFault = Unit {0}
RefusesIt i why.NoMemory = Unit {0}

-- ---- the image

module _ (c : List ℕ) (bytes : AreBytes c) (image : FoundImage) (has : HasImage c image) (i : PlacedImage) (im : IsImageIn c i) (text_bytes : ℕ) (counts : CountsTextsOf c text_bytes) (replay : Replay (List Listed)) (r : IsRecovered map_at no_limit replay i) where
  abbrev p : Pages
  p = recovered r.reading

  abbrev maps : ℕ → Map
  maps = map_at replay.store.tables

  limited : IsLimited p.db.schema
  limited = subst IsLimited r.has.closed.held.objects (made_so _ r.has.made).limited

  rows_are : used maps - map_size (maps 0) ≡ rows_bytes p.db.schema p.db.rows + view_entries p.view
  rows_are = let all = used_is replay.store.catalog maps replay.store.views (contents_of p) r.has.closed.held r.has.sound r.has.stored limited in omega (arith, all)

  pub texts_are : texts_entries image.records ≡ sum (map definition_entries (texts_in i.after))
  texts_are =
      let s = are_scanned c bytes image has i im in
      let at : ℕ = area_at image.header.area_bytes image.header.area in
      let passes = r.reverses.passes in
      let first = carried_none at i.pages.db.schema i.carried r.reading.carried _ passes.carried s.carried in
      let others = further_texts at i.pages i.carried r.reading.carried i.after r.reading.after _ passes.after s.after in
      let turned_first = same_turned s.first in
      let turned_others = same_turned s.others in
      let both = both_texts s.first s.others in
      let all = ap texts_entries s.split in
      omega (arith, first, others, turned_first, turned_others, both, all)

  abbrev all_bytes : ℕ
  all_bytes = min (used maps - map_size (maps 0) + text_bytes + texts_entries image.records) (2 ^ 64 - 1)

  bytes_are : all_bytes ≡ min (data_left i p) (2 ^ 64 - 1)
  bytes_are =
      let text : text_bytes ≡ min (sum (map parts_entries im.placed.stored.texts)) (2 ^ 64 - 1) = counts im.room im.count im.here im.whole i.pages im.placed.stored in
      let same : sum (map parts_entries i.texts) ≡ sum (map parts_entries im.placed.stored.texts) = ap (λ ts. sum (map parts_entries ts)) im.placed.texts in
      let rows = rows_are in
      let records = texts_are in
      omega (arith, text, same, rows, records)

  abbrev most : ℕ
  most = data_limit image.header.pages

  limit_is : i.data_limit ≡ Some most
  limit_is = im.placed.limit ∙ ap (λ n. Some (data_limit n)) (sym (pages_are c bytes image has i im))

  low : most < 2 ^ 64 - 1
  low = let few = image.few_pages in omega (arith, few)

  fits : all_bytes ≤ most → Within i.data_limit (data_left i p)
  fits le = subst (λ l. Within l (data_left i p)) (sym limit_is) (let same = bytes_are in let small = low in omega (arith, le, same, small))

  beyond : most < all_bytes → Above i.data_limit (data_left i p)
  beyond more = subst (λ l. Above l (data_left i p)) (sym limit_is) (let same = bytes_are in omega (arith, more, same))

  module _ (size limit : ℕ) (size_is : size ≡ all_bytes) (limit_is_most : limit ≡ most) where
    pub is_fine : IsFineSo size limit (contents_of p) → IsFine i
    is_fine f = record {
      reading = r.reading;
      sound = record { reverses = r.reverses; in_range = f.in_range; within = fits (let le = f.within in omega (arith, le, size_is, limit_is_most)) };
      fresh_at = λ place. f.fresh_at p.db.number place;
    }

    pub refuses : (fault : ViewsFault) → Tells size limit (contents_of p) fault → RefusesIt i (views_fault replay.store.catalog fault)
    refuses (views.Rule bad) t = by t.1
      where
        told : (rule : ℕ) → bad.rule ≡ rule → IsRefused i (BadImage rule 0) → IsRefused i (BadImage bad.rule bad.place)
        told rule e h = subst (λ n. IsRefused i (BadImage n bad.place)) (sym e) (subst (λ n. IsRefused i (BadImage rule n)) (sym t.0) h)

        by : ((bad.rule ≡ 14) × (AreInRange p.db.schema p.db.rows → ⊥)) ⊎ ((bad.rule ≡ 15) × AreInRange p.db.schema p.db.rows × (limit < size)) → IsRefused i (BadImage bad.rule bad.place)
        by (inl s) = told 14 s.0 (sums r.reading r.reverses s.1)
        by (inr s) = told 15 s.0 (entries r.reading r.reverses s.1 (beyond (let more = s.2 in omega (arith, more, size_is, limit_is_most))))
    refuses (views.Row wrong) t = record {
      refused = view r.reading r.reverses t.0 (fits (let le = t.1 in omega (arith, le, size_is, limit_is_most))) (wrong.view, wrong.group) (t.2.first p.db.number);
      reading = r.reading;
      reverses = r.reverses;
      objects = r.has.closed.held.objects;
      stored_is = t.2.stored_is;
      fresh_is = t.2.fresh_is;
    }
    refuses views.NoMemory t = tt

-- the same of the bytes
pub refuses_all : (c : List ℕ) (fault : OpenFault) → rules.PassesUpTo 12 c → ((i : PlacedImage) → IsImageIn c i → RefusesIt i fault) → Refuses c fault
refuses_all c (why.BadImage bad) passes h = inr (passes, h)
refuses_all c (why.BadView wrong) passes h = (passes, h)
refuses_all c why.DiskFault passes h = tt
refuses_all c why.NoMemory passes h = tt

-- ---- faults

-- by a rule up to 12, or for its records
pub found_refused : (c : List ℕ) (fault : FindFault) → told_by fault (rules.IsRefused c) → Refuses c (open_fault fault)
found_refused c (find.BadImage bad) h = inl h
found_refused c find.DiskFault h = tt
found_refused c find.NoMemory h = tt

pub records_refused : (c : List ℕ) (fault : FindFault) → rules.PassesUpTo 12 c → ((i : PlacedImage) → IsImageIn c i → told_by fault (λ bad. IsRefused i (BadImage bad.rule bad.place))) → Refuses c (open_fault fault)
records_refused c (find.BadImage bad) passes h = inr (passes, h)
records_refused c find.DiskFault passes h = tt
records_refused c find.NoMemory passes h = tt

-- the count is the same, or rose
pub same_count : (fault : FindFault) (before now : ℕ) → found.counted_by fault before now → counted_by (open_fault fault) before now
same_count (find.BadImage bad) before now h = h
same_count find.DiskFault before now h = h
same_count find.NoMemory before now h = h

pub no_fault : (catalog : Definitions) (fault : ViewsFault) (count : ℕ) → counted_by (views_fault catalog fault) count count
no_fault catalog (views.Rule bad) count = refl
no_fault catalog (views.Row wrong) count = refl
no_fault catalog views.NoMemory count = refl

-- records that are replayed on maps in memory
abbrev pub TreeReplay : Type 0
TreeReplay = Replay (List Listed)
