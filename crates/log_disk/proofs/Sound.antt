-- Bytes that bear an image keep the rules on header, blocks, page map and entries.
use Rattle.std.proofs.Common.{◌≡◌, inl, inr, true, false, ℕ, zero, suc, ◌+◌, ◌<◌, ◌≤◌, pos, List, [], ◌∷◌, ◌++◌, map, length, drop, get_or, Option, Some, None, refl, sym, ap, subst, ◌∙◌, arith, length-take}
use Rattle.std.specs.List.{Contains, AllByRecursion, range_with_len, concat}
use Rattle.std.proofs.lemmas.Option.{none-some}
use Rattle.std.proofs.lemmas.Bool.{false≢true}
use Rattle.std.proofs.lemmas.List.{map-append}
use Rattle.std.proofs.lemmas.List.Elements.{Contains-append_right, recursion_from_All, All-from_get_or}
use Rattle.disk_io.specs.Disk.{part}
use Rattle.iv_types.specs.Encoding.{IsHuge, row_bytes}
use Rattle.iv_meaning.specs.Schema.{Schema, Object, kinds_of_table}
use Rattle.iv_meaning.specs.Sound.{IsRow}
use Rattle.log_records.specs.Scan.{scanned}
use Rattle.page_store.specs.Image as page
use Rattle.page_store.specs.Image.{header_at, area_at, slot_at, format_of, pages_of, area_size_of, number_of, commits_of, next_entry_of, area_of, redo_of, map_byte, named, live, image_at}
use Rattle.txn_machine.specs.Stored.{IsStoredRow}
use Rattle.txn_machine.proofs.Basics.{contains_none}
use Rattle.txn_machine.proofs.Holding.{contains_here, contains_map}
use Rattle.txn_log.specs.Replay.{Pages}
use Rattle.txn_log.specs.Fitting.{IsGroup}
use Rattle.txn_log.specs.Appended.{Image}
use Rattle.txn_log.specs.Stored.{PageEntry, AreParts, IsPartEntry, IsRowEntry, IsTotalEntry, AllCreate}
use Rattle.txn_log.specs.Damaged.{Header, Page, Found, Device, FirstBad, FitsDevice, placed_from, found_in, all_found, texts_found, in_texts, EntryStands, DefinitionFails, Rule, header_lives, format_known, sizes_fit, area_named, first_block_ends, blocks_lie, records_read, map_read, pages_formed, keys_apart, definitions_read, entries_read, FailsAt}
use Rattle.txn_log.proofs.Placing.{in_rest}
use Rattle.txn_log.proofs.Printed.{one_statement}
use Rattle.txn_log.proofs.Standing.{creates_once, row_numbered, total_numbered, in_row}
use Rattle.log_disk.specs.Bears.{all_entries, AreLeaves, StandOnce, AreStoredAs, end_of_first, Bears}
use Rattle.log_disk.specs.Found.{header_of, scan_fault, StandsFirst, ArePagesOf, AreDefinitions, IsFoundBy, IsFoundIn, AreLimited, NotDamagedLaw}
use Rattle.log_disk.proofs.Areas.{image_live}
use Rattle.log_disk.proofs.Living.{live_same}
use Rattle.log_disk.proofs.Ordered.{texts_from, order_once, is_part, part_there, texts_order}
use Rattle.log_disk.proofs.Defining.{never_first, texts_are, definitions_good}

pub in_map : {X Y : Type 0} (f : X → Y) (xs : List X) (y : Y) → Contains (map f xs) y → (x : X) × Contains xs x × (f x ≡ y)
in_map f [] y c = absurd (contains_none y c)
in_map f (x ∷ xs) y c = in_rest (f x) y (map f xs) c
    (λ same. (x, contains_here x xs, same))
    (λ rest. let i = in_map f xs y rest in (i.0, Contains-append_right (x ∷ []) xs i.0 i.1, i.2))

-- ---- stored pages

in_page : (place : ℕ) (es : List PageEntry) → map (λ f. f.entry) (found_in place es) ≡ es
in_page place [] = refl
in_page place (e ∷ es) = ap (λ (xs : List PageEntry). e ∷ xs) (in_page place es)

one_page : (room p m : ℕ) (c : List ℕ) (Others : List Page → Type 0) (rest : List (Option (List ℕ))) → ((fs : List Page) → Others fs → map (λ f. f.entry) (all_found fs) ≡ all_entries rest)
    → (found : List Page) → StandsFirst room p m c Others found → map (λ f. f.entry) (all_found found) ≡ all_entries (named room p m c ∷ rest)
one_page room p zero c Others rest next found h = next found h
one_page room p (suc j) c Others rest next [] h = absurd h
one_page room p (suc j) c Others rest next (f ∷ found) h =
    map-append (λ (x : Found). x.entry) (found_in f.place f.entries) (all_found found)
    ∙ (λ t. (in_page f.place f.entries ∙ h.0.entries) t ++ next found h.1 t)

pub all_pages : (room k : ℕ) (c : List ℕ) (ps : List ℕ) (found : List Page) → ArePagesOf room k c ps found → map (λ f. f.entry) (all_found found) ≡ all_entries (map (λ p. named room p (map_byte k p c) c) ps)
all_pages room k c [] found h = ap (λ (fs : List Page). map (λ f. f.entry) (all_found fs)) h
all_pages room k c (p ∷ ps) found h =
    one_page room p (map_byte k p c) c (ArePagesOf room k c ps) (map (λ p. named room p (map_byte k p c) c) ps) (all_pages room k c ps) found h

abbrev FormedGood : List Page → List Page → Type 0
FormedGood earlier [] = Unit {0}
FormedGood earlier (p ∷ ps) = (p.formed ≡ true) × FormedGood (p ∷ earlier) ps

one_formed : (room p m : ℕ) (c : List ℕ) (Others : List Page → Type 0) (rest : List (Option (List ℕ))) → ((earlier fs : List Page) → Others fs → AreLeaves rest → FormedGood earlier fs)
    → (earlier found : List Page) → StandsFirst room p m c Others found → AreLeaves (named room p m c ∷ rest) → FormedGood earlier found
one_formed room p zero c Others rest next earlier found h leaves = next earlier found h leaves
one_formed room p (suc j) c Others rest next earlier [] h leaves = absurd h
one_formed room p (suc j) c Others rest next earlier (f ∷ found) h leaves = (h.0.leaf.1 leaves.0, next (f ∷ earlier) found h.1 leaves.1)

all_formed : (room k : ℕ) (c : List ℕ) (ps : List ℕ) (earlier found : List Page) → ArePagesOf room k c ps found → AreLeaves (map (λ p. named room p (map_byte k p c) c) ps) → FormedGood earlier found
all_formed room k c [] earlier found h leaves = subst (FormedGood earlier) (sym h) tt
all_formed room k c (p ∷ ps) earlier found h leaves =
    one_formed room p (map_byte k p c) c (ArePagesOf room k c ps) (map (λ p. named room p (map_byte k p c) c) ps) (all_formed room k c ps) earlier found h leaves

-- ---- the page map

abbrev LowGood : List (ℕ × ℕ) → List (ℕ × ℕ) → Type 0
LowGood earlier [] = Unit {0}
LowGood earlier (b ∷ bs) = (b.1 ≤ 2) × LowGood (b ∷ earlier) bs

low_bytes : (place : ℕ) (earlier : List (ℕ × ℕ)) (bs : List ℕ) → ((n : ℕ) → n < length bs → get_or bs n 0 ≤ 2) → LowGood earlier (placed_from place bs)
low_bytes place earlier [] h = tt
low_bytes place earlier (b ∷ bs) h = (h 0 (omega arith), low_bytes (place + 1) ((place, b) ∷ earlier) bs (λ n lt. h (suc n) (omega arith)))

-- ---- keys

abbrev ApartGood : List Found → List Found → Type 0
ApartGood earlier fs = ((g : Found) → Contains fs g → Contains (map (λ e. e.entry.0) earlier) g.entry.0 → ⊥) × StandOnce (map (λ f. f.entry) fs)

apart_step : (earlier : List Found) (y : Found) (ys : List Found) → ApartGood earlier (y ∷ ys) → (Contains (map (λ e. e.entry.0) earlier) y.entry.0 → ⊥) × ApartGood (y ∷ earlier) ys
apart_step earlier y ys h = (
  h.0 y (contains_here y ys),
  (
    (λ g c d. in_rest y.entry.0 g.entry.0 (map (λ e. e.entry.0) earlier) d
        (λ same. h.1.0 (subst (Contains (map (λ (f : PageEntry). f.0) (map (λ f. f.entry) ys))) (sym same)
        (contains_map (λ (f : PageEntry). f.0) (map (λ f. f.entry) ys) g.entry (contains_map (λ (f : Found). f.entry) ys g c))))
        (λ before. h.0 g (Contains-append_right (y ∷ []) ys g c) before)),
    h.1.1,
  ),
)

-- ---- entries

module _ (stored : List (Option (List ℕ))) (p : Pages) (a : AreStoredAs stored p) where
  row_stands : (e : PageEntry) → IsRowEntry p e → EntryStands p.db.schema e
  row_stands e row =
      let r : IsRow p.db.schema e.0 row.0 = a.proper.sound.rows e.0 row.0 row.1 in
      inr (inl (r.of, row.0, r.table_is, r.fits, row.2 ∙ ap (λ (o : Option Object). row_bytes (kinds_of_table o) row.0) r.table_is, r.key))

  total_stands : (e : PageEntry) → IsTotalEntry p e → EntryStands p.db.schema e
  total_stands e total =
      let t : IsStoredRow p.db.schema e.0 total.0 = a.proper.stored e.0 total.0 total.1 in
      let g : IsGroup p.db.schema e.0 = record { of = t.of; view_is = t.view_is; group = t.group; fits = t.fits; key = t.key } in
      inr (inr (g, total.0, t.width, All-from_get_or IsHuge total.0 (pos 0) (λ i lt. in_row p a.proper e.0 total.0 total.1 i), total.2))

  entry_stands : (e : PageEntry) → Contains (all_entries stored) e → EntryStands p.db.schema e
  entry_stands e c = elim ((a.stand e).0 c) [
    | inl (inl row) ↦ row_stands e row
    | inl (inr total) ↦ total_stands e total
    | inr part ↦ inl part.index
  ]

  -- the entries of index 0 are the parts of texts
  part_only : (e : PageEntry) → Contains (all_entries stored) e → e.0.0 ≡ 0 → IsPartEntry a.texts e
  part_only e c index = elim ((a.stand e).0 c) [
    | inl (inl row) ↦ absurd (row_numbered p.db.schema e.0 row.0 (a.proper.sound.rows e.0 row.0 row.1) index)
    | inl (inr total) ↦ absurd (total_numbered p.db.schema e.0 total.0 (a.proper.stored e.0 total.0 total.1) index)
    | inr part ↦ part
  ]

  module _ (all ds : List Found) (are : map (λ f. f.entry) all ≡ all_entries stored) (defs : AreDefinitions all ds) where
    definitions_are : map (λ f. f.entry) ds ≡ texts_from 1 a.texts
    definitions_are = order_once (map (λ f. f.entry) ds) (texts_from 1 a.texts) defs.in_order (texts_order 1 a.texts (let few = a.few in omega arith) a.short)
        (λ e c.
        let f = in_map (λ (x : Found). x.entry) ds e c in
        let there = (defs.among f.0).0 f.1 in
        let among : Contains (all_entries stored) e = subst (λ (xs : List PageEntry). Contains xs e) are (subst (Contains (map (λ x. x.entry) all)) f.2 (contains_map (λ (x : Found). x.entry) all f.0 there.0)) in
        part_there a.texts e (part_only e among (ap (λ (x : PageEntry). x.0.0) (sym f.2) ∙ there.1)))
        (λ e c.
        let part = is_part a.texts e c in
        let f = in_map (λ (x : Found). x.entry) all e (subst (λ (xs : List PageEntry). Contains xs e) (sym are) ((a.stand e).1 (inr part))) in
        subst (Contains (map (λ x. x.entry) ds)) f.2 (contains_map (λ (x : Found). x.entry) ds f.0 ((defs.among f.0).1 (f.1, ap (λ (x : PageEntry). x.0.0) f.2 ∙ part.index))))

    all_parts : AllByRecursion AreParts a.texts
    all_parts = recursion_from_All AreParts a.texts a.define.0

    no_definition : (place : ℕ) → DefinitionFails ds place → ⊥
    no_definition = definitions_good a.texts a.few a.short all_parts ds definitions_are p.db.schema a.define.1

    same_schema : (objects : Schema) → AllCreate [] (texts_found (in_texts ds).1) objects → objects ≡ p.db.schema
    same_schema objects h = creates_once one_statement [] (map concat a.texts) objects p.db.schema
        (subst (λ (xs : List (List ℕ)). AllCreate [] xs objects) (texts_are a.texts a.few a.short all_parts ds definitions_are) h) a.define.1

    abbrev EntriesGood : List Found → List Found → Type 0
    EntriesGood earlier fs = (g : Found) → Contains fs g → EntryStands p.db.schema g.entry

    no_entry : (objects : Schema) → AllCreate [] (texts_found (in_texts ds).1) objects → (f : Found) → FirstBad (λ earlier g. EntryStands objects g.entry → ⊥) [] all f → ⊥
    no_entry objects h f bad =
        never_first (λ earlier g. EntryStands p.db.schema g.entry → ⊥) EntriesGood (λ earlier y ys good. ((λ never. never (good y (contains_here y ys))), (λ g c. good g (Contains-append_right (y ∷ []) ys g c))))
        [] all f (λ g c. entry_stands g.entry (subst (λ (xs : List PageEntry). Contains xs g.entry) are (contains_map (λ (x : Found). x.entry) all g c)))
        (subst (λ o. FirstBad (λ earlier g. EntryStands o g.entry → ⊥) [] all f) (same_schema objects h) bad)

    -- no key stands twice
    no_key : StandOnce (map (λ f. f.entry) all) → (f : Found) → FirstBad (λ earlier g. Contains (map (λ e. e.entry.0) earlier) g.entry.0) [] all f → ⊥
    no_key apart f bad = never_first (λ earlier g. Contains (map (λ e. e.entry.0) earlier) g.entry.0) ApartGood apart_step [] all f ((λ g c d. contains_none g.entry.0 d), apart) bad

-- ---- all rules

module _ (room count : ℕ) (c : List ℕ) (i : Image) (b : Bears room count c i) (lim : AreLimited room count c b.here) (d : Device) (bytes : d.bytes ≡ length c)
    (k : ℕ) (is : image_at room count k c ≡ b.here) (by : IsFoundBy k c d) where
  format_is : format_of k c ≡ b.here.format
  unfolding image_at
  format_is = ap (λ (x : page.Image). x.format) is

  pages_is : pages_of k c ≡ count
  unfolding image_at
  pages_is = ap (λ (x : page.Image). x.pages) is ∙ b.pages.pages

  size_is : area_size_of k c ≡ room
  unfolding image_at
  size_is = ap (λ (x : page.Image). x.area_size) is ∙ b.pages.areas

  number_is : number_of k c ≡ b.here.number
  unfolding image_at
  number_is = ap (λ (x : page.Image). x.number) is

  commits_is : commits_of k c ≡ b.here.commits
  unfolding image_at
  commits_is = ap (λ (x : page.Image). x.commits) is

  next_is : next_entry_of k c ≡ b.here.next_entry
  unfolding image_at
  next_is = ap (λ (x : page.Image). x.next_entry) is

  area_is : area_of k c ≡ b.here.area
  unfolding image_at
  area_is = ap (λ (x : page.Image). x.area) is

  redo_is : redo_of k c ≡ b.here.redo
  unfolding image_at
  redo_is = ap (λ (x : page.Image). x.redo) is

  map_is : part (header_at k + 64) count c ≡ b.here.map
  unfolding image_at
  map_is = ap (λ (x : page.Image). x.map) is

  log_is : part (area_at (area_size_of k c) (area_of k c)) (area_size_of k c) c ≡ b.here.log
  unfolding image_at
  log_is = ap (λ n. part (area_at n (area_of k c)) n c) size_is ∙ ap (λ (x : page.Image). x.log) is

  stored_is : map (λ p. named room p (map_byte k p c) c) (range_with_len 0 count) ≡ b.here.stored
  unfolding image_at
  stored_is = ap (λ (x : page.Image). x.stored) is

  found : ArePagesOf room k c (range_with_len 0 count) d.stored
  found = subst (λ n. ArePagesOf n k c (range_with_len 0 count) d.stored) size_is (subst (λ n. ArePagesOf (area_size_of k c) k c (range_with_len 0 n) d.stored) pages_is by.stored)

  entries_are : map (λ f. f.entry) (all_found d.stored) ≡ all_entries b.here.stored
  entries_are = all_pages room k c (range_with_len 0 count) d.stored found ∙ ap all_entries stored_is

  apart : StandOnce (map (λ f. f.entry) (all_found d.stored))
  apart = subst StandOnce (sym entries_are) b.pages.stored.apart

  defs : AreDefinitions (all_found d.stored) d.definitions
  defs = by.definitions apart

  the_header : (h : Header) → d.header ≡ Some h → header_of k c ≡ h
  the_header h e = some_same (header_of k c) h (sym by.header ∙ e)
    where
      some_same : (g h : Header) → Some g ≡ Some h → g ≡ h
      some_same g h e = cc

  fits : FitsDevice (header_of k c) d.bytes
  fits =
      let numbers = lim.numbers in
      record {
        pages = (omega (arith, pages_is, lim.pages.0), omega (arith, pages_is, lim.pages.1));
        areas = (omega (arith, size_is, lim.areas.0), omega (arith, size_is, lim.areas.1));
        size = omega (arith, bytes, lim.size, pages_is, size_is);
        numbers = (omega (arith, number_is, lim.numbers.0), omega (arith, commits_is, lim.numbers.1), omega (arith, next_is, lim.numbers.2));
      }

  scan_is : d.scan ≡ None
  scan_is = by.scan ∙ (λ t. scan_fault (area_at (area_size_of k c) (area_of k c)) (scanned (log_is t))) ∙ ap (scan_fault (area_at (area_size_of k c) (area_of k c))) b.scan

  first_is : d.first_end ≡ Some (redo_of k c)
  first_is = by.first_end ∙ ap end_of_first log_is ∙ b.first_end ∙ ap (λ n. Some n) (sym redo_is)

  low_map : (place : ℕ) → LowGood [] (placed_from place d.map)
  low_map place =
      let there : d.map ≡ b.here.map = by.map ∙ ap (λ n. part (header_at k + 64) n c) pages_is ∙ map_is in
      let most : length d.map ≤ count = omega (arith, ap length by.map, length-take (pages_of k c) (drop (header_at k + 64) c), pages_is) in
      low_bytes place [] d.map (λ n lt. subst (λ (bs : List ℕ). get_or bs n 0 ≤ 2) (sym there) (b.pages.low n (omega (arith, lt, most))))

  pub no_rule : (rule : Rule) (place : ℕ) → FailsAt d rule place → ⊥
  no_rule header_lives place h = none-some (header_of k c) (sym h.0 ∙ by.header)
  no_rule format_known place h = h.3 (ap (λ (x : Header). x.format) (sym (the_header h.0 h.1)) ∙ (format_is ∙ b.pages.format))
  no_rule sizes_fit place h = h.3 (subst (λ (x : Header). FitsDevice x d.bytes) (the_header h.0 h.1) fits)
  no_rule area_named place h =
      let low = b.pages.area in
      let same = ap (λ (x : Header). x.area) (the_header h.0 h.1) in
      let more = h.3 in
      absurd (omega (arith, low, same, area_is, more))
  no_rule first_block_ends place h = h.3 (first_is ∙ ap (λ (x : Header). Some x.redo) (the_header h.0 h.1))
  no_rule blocks_lie place h = none-some (6, place) (sym scan_is ∙ h)
  no_rule records_read place h = none-some (7, place) (sym scan_is ∙ h)
  no_rule map_read place h =
      never_first (λ earlier x. 2 < x.1) LowGood (λ earlier y ys g. ((λ bad. absurd (let most = g.0 in omega (arith, most, bad))), g.1)) [] (placed_from (h.0.place + 64) d.map) h.2 (low_map (h.0.place + 64)) h.4
  no_rule pages_formed place h =
      never_first (λ earlier q. q.formed ≡ false) FormedGood (λ earlier y ys g. ((λ bad. false≢true (sym bad ∙ g.0)), g.1)) [] d.stored h.0
      (all_formed room k c (range_with_len 0 count) [] d.stored found (subst AreLeaves (sym stored_is) b.pages.stored.leaves)) h.2
  no_rule keys_apart place h = no_key b.here.stored i.pages b.pages.stored (all_found d.stored) d.definitions entries_are defs apart h.0 h.2
  no_rule definitions_read place h = no_definition b.here.stored i.pages b.pages.stored (all_found d.stored) d.definitions entries_are defs place h
  no_rule entries_read place h = no_entry b.here.stored i.pages b.pages.stored (all_found d.stored) d.definitions entries_are defs h.0 h.1 h.2 h.4

pub not_damaged : NotDamagedLaw
not_damaged room count c i b lim d found rule place damaged =
    let l = image_live room count c b.here b.means in
    no_rule room count c i b lim d found.bytes l.0 l.3 (subst (λ o. IsFoundIn o c d) (live_same c (omega (arith, lim.size)) ∙ l.1) found.by) rule place damaged.0
