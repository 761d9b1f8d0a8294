-- Where no rule fails the header, the blocks, the page map and the stored pages are whole.
use Rattle.std.proofs.Common.{◌≡◌, ◌≢◌, inl, inr, ◌⊎◌, ⊎_elim, Bool, true, false, ℕ, zero, suc, ◌+◌, ◌*◌, ◌^◌, ◌<◌, ◌≤◌, List, [], ◌∷◌, length, get_or, map, Option, Some, None, Ok, Err, refl, sym, ◌∙◌, ap, subst, arith}
use Rattle.std.specs.Prelude.{Result}
use Rattle.std.specs.List.{Contains, AllByRecursion, range_with_len}
use Rattle.std.proofs.lemmas.Bool.{false≢true, cases_lt}
use Rattle.std.proofs.lemmas.Option.{none-some}
use Rattle.disk_io.specs.Disk.{part}
use Rattle.page_store.specs.Image as page
use Rattle.page_store.specs.Image.{header_at, area_at, slot_at, named, pages_of, area_size_of, area_of, commits_of, redo_of, map_byte, live, image, image_at, image_by}
use Rattle.log_records.specs.declared.record.Scanned.{Scanned}
use Rattle.log_records.specs.Scan.{Fault, scanned}
use Rattle.table_laws.specs.Place.{Place}
use Rattle.txn_machine.proofs.Agreeing.{by_place}
use Rattle.txn_machine.proofs.Basics.{contains_none}
use Rattle.txn_machine.proofs.Holding.{contains_here, contains_next, contains_map}
use Rattle.iv_meaning.specs.Schema.{Schema}
use Rattle.txn_log.specs.Replay.{Pages}
use Rattle.txn_log.specs.Stored.{PageEntry, AllCreate}
use Rattle.txn_log.specs.Damaged.{Header, Page, Found, Device, FirstBad, FitsDevice, placed_from, all_found, Rule, header_lives, format_known, sizes_fit, area_named, first_block_ends, blocks_lie, records_read, map_read, pages_formed, keys_apart, definitions_read, entries_read, IsNextKey, HasSize, with_next, in_texts, MakesNext, EntryStands, rule_number, FailsAt, IsDamaged}
use Rattle.txn_log.proofs.Finding.{by_number}
use Rattle.txn_log.proofs.Placing.{in_rest}
use Rattle.log_disk.specs.Bears.{all_entries, AreLeaves, StandOnce, AreStoredAs}
use Rattle.log_disk.specs.Found.{live_on, header_of, scan_fault, StandsFirst, ArePagesOf, AreDefinitions, IsFoundBy, IsFoundIn, IsWhole, WholeLaw}
use Rattle.log_disk.proofs.Living.{live_same}
use Rattle.log_disk.proofs.Defining.{texts_are}
use Rattle.log_disk.proofs.Parting.{AllHold, all_hold, pairs_sizes, OfDefinitions, texts_of}
use Rattle.log_disk.proofs.Building.{all_make, built}
use Rattle.log_disk.proofs.Placing.{six_or_seven}
use Rattle.log_disk.proofs.Sound.{all_pages}

-- ---- what is not otherwise is so

is_most : (a b : ℕ) → (b < a → ⊥) → a ≤ b
is_most a b h = ⊎_elim (λ less. absurd (h less)) (λ le. le) (cases_lt b a)

must_be_most : (a b : ℕ) → ((a ≤ b → ⊥) → ⊥) → a ≤ b
must_be_most a b h = is_most a b (λ less. h (λ le. omega (arith, less, le)))

must_be_same : (a b : ℕ) → ((a ≢ b) → ⊥) → a ≡ b
must_be_same a b h = by_number a b (λ e. e) (λ n. absurd (h n))

some_end : (o : Option ℕ) (n : ℕ) → ((o ≢ Some n) → ⊥) → o ≡ Some n
some_end None n h = absurd (h (λ e. none-some n e))
some_end (Some m) n h = ap (λ k. Some k) (must_be_same m n (λ other. h (λ e. other (let same : m ≡ n = cc in same))))

-- ---- the first of a list that fails, if one does

module _ {X : Type 0} (bad : List X → X → Type 0) where
  abbrev AllGood : List X → List X → Type 0
  AllGood earlier [] = Unit {0}
  AllGood earlier (y ∷ ys) = (bad earlier y → ⊥) × AllGood (y ∷ earlier) ys

  all_good : ((earlier : List X) (x : X) → bad earlier x ⊎ (bad earlier x → ⊥)) → (earlier xs : List X) → ((x : X) → FirstBad bad earlier xs x → ⊥) → AllGood earlier xs
  all_good or earlier [] none = tt
  all_good or earlier (y ∷ ys) none = elim (or earlier y) [
    | inl is ↦ absurd (none y (inl (refl, is)))
    | inr good ↦ (good, all_good or (y ∷ earlier) ys (λ x first. none x (inr (good, first))))
  ]

-- ---- the page map

low_or : (earlier : List (ℕ × ℕ)) (b : ℕ × ℕ) → (2 < b.1) ⊎ (2 < b.1 → ⊥)
low_or earlier b = ⊎_elim (λ less. inl less) (λ le. inr (λ less. omega (arith, le, less))) (cases_lt 2 b.1)

all_low : (place : ℕ) (earlier : List (ℕ × ℕ)) (bs : List ℕ) → AllGood (λ former b. 2 < b.1) earlier (placed_from place bs) → (n : ℕ) → get_or bs n 0 ≤ 2
all_low place earlier [] h n = omega arith
all_low place earlier (b ∷ bs) h zero = is_most b 2 h.0
all_low place earlier (b ∷ bs) h (suc n) = all_low (place + 1) ((place, b) ∷ earlier) bs h.1 n

-- ---- pages

formed_or : (earlier : List Page) (p : Page) → (p.formed ≡ false) ⊎ ((p.formed ≡ false) → ⊥)
formed_or earlier p = by p.formed
  where
    by : (b : Bool) → (b ≡ false) ⊎ ((b ≡ false) → ⊥)
    by true = inr (λ e. false≢true (sym e))
    by false = inl refl

is_formed : (b : Bool) → ((b ≡ false) → ⊥) → b ≡ true
is_formed true h = refl
is_formed false h = absurd (h refl)

abbrev AllFormed : List Page → List Page → Type 0
AllFormed earlier found = AllGood (λ former p. p.formed ≡ false) earlier found

one_leaf : (room p m : ℕ) (c : List ℕ) (Others : List Page → Type 0) (rest : List (Option (List ℕ))) → ((earlier found : List Page) → Others found → AllFormed earlier found → AreLeaves rest)
    → (earlier found : List Page) → StandsFirst room p m c Others found → AllFormed earlier found → AreLeaves (named room p m c ∷ rest)
one_leaf room p zero c Others rest next earlier found h formed = next earlier found h formed
one_leaf room p (suc j) c Others rest next earlier [] h formed = absurd h
one_leaf room p (suc j) c Others rest next earlier (f ∷ found) h formed = (h.0.leaf.0 (is_formed f.formed formed.0), next (f ∷ earlier) found h.1 formed.1)

all_leaves : (room k : ℕ) (c : List ℕ) (ps : List ℕ) (earlier found : List Page) → ArePagesOf room k c ps found → AllFormed earlier found → AreLeaves (map (λ p. named room p (map_byte k p c) c) ps)
all_leaves room k c [] earlier found h formed = tt
all_leaves room k c (p ∷ ps) earlier found h formed =
    one_leaf room p (map_byte k p c) c (ArePagesOf room k c ps) (map (λ p. named room p (map_byte k p c) c) ps) (all_leaves room k c ps) earlier found h formed

-- ---- keys

key_or : (keys : List Place) (k : Place) → Contains keys k ⊎ (Contains keys k → ⊥)
key_or [] k = inr (λ c. contains_none k c)
key_or (x ∷ keys) k = by_place k x
    (λ same. inl (subst (Contains (x ∷ keys)) (sym same) (contains_here x keys)))
    (λ other. ⊎_elim (λ c. inl (contains_next x keys k c)) (λ never. inr (λ c. in_rest x k keys c (λ e. other (sym e)) never)) (key_or keys k))

abbrev AllApart : List Found → List Found → Type 0
AllApart earlier fs = AllGood (λ former g. Contains (map (λ (e : Found). e.entry.0) former) g.entry.0) earlier fs

-- none has the key of an earlier one
apart_from : (earlier fs : List Found) → AllApart earlier fs → (y : Found) → Contains earlier y → (k : Place) → Contains (map (λ (e : PageEntry). e.0) (map (λ (f : Found). f.entry) fs)) k → y.entry.0 ≡ k → ⊥
apart_from earlier [] h y c k d same = contains_none k d
apart_from earlier (f ∷ fs) h y c k d same = in_rest f.entry.0 k (map (λ (e : PageEntry). e.0) (map (λ (g : Found). g.entry) fs)) d
    (λ e. h.0 (subst (Contains (map (λ (g : Found). g.entry.0) earlier)) (same ∙ sym e) (contains_map (λ (g : Found). g.entry.0) earlier y c)))
    (λ more. apart_from (f ∷ earlier) fs h.1 y (contains_next f earlier y c) k more same)

stand_once : (earlier fs : List Found) → AllApart earlier fs → StandOnce (map (λ (f : Found). f.entry) fs)
stand_once earlier [] h = tt
stand_once earlier (f ∷ fs) h = ((λ c. apart_from (f ∷ earlier) fs h.1 f (contains_here f earlier) f.entry.0 c refl), stand_once (f ∷ earlier) fs h.1)

-- ---- all rules

module _ (c : List ℕ) (d : Device) (none : (rule : Rule) (place : ℕ) → IsDamaged d rule place → ⊥) where
  none_below : (n : ℕ) (rule : Rule) → rule_number rule < n → (place : ℕ) → FailsAt d rule place → ⊥
  none_below zero rule lt place fails = omega (arith, lt)
  none_below (suc n) rule lt place fails = none rule place (fails, (λ less low other f. none_below n less (omega (arith, lt, low)) other f))

  never : (rule : Rule) (place : ℕ) → FailsAt d rule place → ⊥
  never rule place fails = none_below (suc (rule_number rule)) rule (omega arith) place fails

  module _ (bytes : d.bytes ≡ length c) (k : ℕ) (lives : live_on c ≡ Some k) (by : IsFoundBy k c d) where
    abbrev h : Header
    h = header_of k c

    abbrev room : ℕ
    room = area_size_of k c

    abbrev count : ℕ
    count = pages_of k c

    format : h.format ≡ 1
    format = must_be_same h.format 1 (λ other. never format_known (h.place + 8) (h, by.header, refl, other))

    misfit : (FitsDevice h d.bytes → ⊥) → ⊥
    misfit bad = never sizes_fit (h.place + 12) (h, by.header, refl, bad)

    fits : FitsDevice h d.bytes
    fits = record {
      pages = (must_be_most 512 h.pages (λ bad. misfit (λ f. bad f.pages.0)), must_be_most h.pages 131072 (λ bad. misfit (λ f. bad f.pages.1)));
      areas = (must_be_most (64 * 1024) h.area_bytes (λ bad. misfit (λ f. bad f.areas.0)), must_be_most h.area_bytes (256 * 1024 * 1024) (λ bad. misfit (λ f. bad f.areas.1)));
      size = must_be_same d.bytes (278528 + 2 * h.area_bytes + 16384 * h.pages) (λ bad. misfit (λ f. bad f.size));
      numbers = (
        must_be_most h.number (2 ^ 62) (λ bad. misfit (λ f. bad f.numbers.0)),
        must_be_most h.commits (2 ^ 62) (λ bad. misfit (λ f. bad f.numbers.1)),
        must_be_most h.next (2 ^ 62) (λ bad. misfit (λ f. bad f.numbers.2)),
      );
    }

    area : h.area ≤ 1
    area = is_most h.area 1 (λ more. never area_named (h.place + 48) (h, by.header, refl, more))

    ends : d.first_end ≡ Some h.redo
    ends = some_end d.first_end h.redo (λ other. never first_block_ends (h.place + 56) (h, by.header, refl, other))

    abbrev log : List ℕ
    log = part (area_at room (area_of k c)) room c

    scans : (records : List Scanned) × (scanned log ≡ Ok records)
    scans = by_scan (scanned log) refl
      where
        by_scan : (r : Result (List Scanned) Fault) → scanned log ≡ r → (records : List Scanned) × (scanned log ≡ Ok records)
        by_scan (Ok records) is = (records, is)
        by_scan (Err e) is =
            let told : d.scan ≡ Some (e.rule, area_at room (area_of k c) + e.place) = by.scan ∙ ap (scan_fault (area_at room (area_of k c))) is in
            elim (six_or_seven log e is) [
              | inl six ↦ absurd (never blocks_lie (area_at room (area_of k c) + e.place) (told ∙ ap (λ n. Some (n, area_at room (area_of k c) + e.place)) six))
              | inr seven ↦ absurd (never records_read (area_at room (area_of k c) + e.place) (told ∙ ap (λ n. Some (n, area_at room (area_of k c) + e.place)) seven))
            ]

    low : (n : ℕ) → get_or d.map n 0 ≤ 2
    low = all_low (h.place + 64) [] d.map (all_good (λ former b. 2 < b.1) low_or [] (placed_from (h.place + 64) d.map) (λ b first. never map_read b.0 (h, by.header, b, refl, first)))

    leaves : AreLeaves (map (λ p. named room p (map_byte k p c) c) (range_with_len 0 count))
    leaves = all_leaves room k c (range_with_len 0 count) [] d.stored by.stored
        (all_good (λ former p. p.formed ≡ false) formed_or [] d.stored (λ p first. never pages_formed p.place (p, refl, first)))

    apart : StandOnce (all_entries (map (λ p. named room p (map_byte k p c) c) (range_with_len 0 count)))
    apart = subst StandOnce (all_pages room k c (range_with_len 0 count) d.stored by.stored)
        (stand_once [] (all_found d.stored) (all_good (λ former g. Contains (map (λ (e : Found). e.entry.0) former) g.entry.0)
        (λ former g. key_or (map (λ (e : Found). e.entry.0) former) g.entry.0) [] (all_found d.stored) (λ f first. never keys_apart f.page (f, refl, first))))

    long : 278528 ≤ length c
    long = let size = fits.size in omega (arith, size, bytes)

    is_whole : IsWhole room count c (image_at room count k c)
    unfolding image_at
    is_whole = record {
      means = ap (λ o. image_by room count o c) (sym (live_same c long) ∙ lives);
      limited = record { pages = fits.pages; areas = fits.areas; size = sym bytes ∙ fits.size; numbers = fits.numbers };
      format = format;
      pages = refl;
      areas = refl;
      area = area;
      low = λ n lt. subst (λ (bs : List ℕ). get_or bs n 0 ≤ 2) by.map (low n);
      first_end = sym by.first_end ∙ ends;
      records = scans.0;
      scan = scans.1;
      leaves = leaves;
      apart = apart;
    }

    -- ---- the definitions and the entries

    defs : AreDefinitions (all_found d.stored) d.definitions
    defs = by.definitions (stand_once [] (all_found d.stored) (all_good (λ former g. Contains (map (λ (e : Found). e.entry.0) former) g.entry.0)
        (λ former g. key_or (map (λ (e : Found). e.entry.0) former) g.entry.0) [] (all_found d.stored) (λ f first. never keys_apart f.page (f, refl, first))))

    of_index : (fs : List Found) → ((f : Found) → Contains fs f → f.entry.0.0 ≡ 0) → OfDefinitions fs
    of_index [] h = tt
    of_index (f ∷ fs) h = (h f (contains_here f fs), of_index fs (λ g c. h g (contains_next f fs g c)))

    indexed : OfDefinitions d.definitions
    indexed = of_index d.definitions (λ f c. ((defs.among f).0 c).1)

    no_key : (f : Found) → FirstBad (λ earlier g. IsNextKey earlier g → ⊥) [] d.definitions f → ⊥
    no_key f first = never definitions_read f.page (inl (f, refl, first))

    no_size : (f : Found × Option Found) → FirstBad (λ earlier (g : Found × Option Found). HasSize g.0 g.1 → ⊥) [] (with_next d.definitions) f → ⊥
    no_size f first = never definitions_read f.0.page (inr (inl (no_key, f, refl, first)))

    no_text : (t : ℕ × List ℕ) → FirstBad (λ earlier u. MakesNext earlier u → ⊥) [] (in_texts d.definitions).1 t → ⊥
    no_text t first = never definitions_read t.0 (inr (inr (no_key, no_size, t, refl, first)))

    entries_are : map (λ f. f.entry) (all_found d.stored) ≡ all_entries (map (λ p. named room p (map_byte k p c) c) (range_with_len 0 count))
    entries_are = all_pages room k c (range_with_len 0 count) d.stored by.stored

    each_stands : (objects : Schema) (earlier fs : List Found) → AllHold (λ former (g : Found). EntryStands objects g.entry) earlier fs → AllByRecursion (EntryStands objects) (map (λ f. f.entry) fs)
    each_stands objects earlier [] h = tt
    each_stands objects earlier (f ∷ fs) h = (h.0, each_stands objects (f ∷ earlier) fs h.1)

    stored_there : ((p : Pages) → AreStoredAs (map (λ p. named room p (map_byte k p c) c) (range_with_len 0 count)) p → p.db.number ≡ commits_of k c → ⊥) → ⊥
    stored_there none_stored =
        all_hold IsNextKey [] d.definitions no_key (λ keys.
        all_hold (λ former (p : Found × Option Found). HasSize p.0 p.1) [] (with_next d.definitions) no_size (λ sizes.
        all_hold MakesNext [] (in_texts d.definitions).1 no_text (λ make.
        let parts = texts_of d.definitions indexed defs.in_order keys (pairs_sizes [] d.definitions sizes) in
        let objects = all_make [] (in_texts d.definitions).1 [] refl make in
        all_hold (λ former (g : Found). EntryStands objects.0 g.entry) [] (all_found d.stored) (λ f first. never entries_read f.page (objects.0, objects.1, f, refl, first)) (λ stand.
        let there = built (map (λ p. named room p (map_byte k p c) c) (range_with_len 0 count)) (commits_of k c) leaves apart (all_found d.stored) d.definitions entries_are defs parts objects.0
        (subst (λ (xs : List (List ℕ)). AllCreate [] xs objects.0) (texts_are parts.texts parts.few parts.short parts.parts d.definitions parts.are) objects.1)
        (subst (AllByRecursion (EntryStands objects.0)) entries_are (each_stands objects.0 [] (all_found d.stored) stand)) in
        none_stored there.0 there.1 there.2))))

    stored_here : ((p : Pages) → AreStoredAs (image_at room count k c).stored p → p.db.number ≡ (image_at room count k c).commits → ⊥) → ⊥
    unfolding image_at
    stored_here none_stored = stored_there none_stored

pub whole : WholeLaw
whole c d found none = by_live (live_on c) refl found.by
  where
    by_live : (o : Option ℕ) → live_on c ≡ o → IsFoundIn o c d → (room : ℕ) × (count : ℕ) × (here : page.Image) × IsWhole room count c here × (((p : Pages) → AreStoredAs here.stored p → p.db.number ≡ here.commits → ⊥) → ⊥)
    by_live None lives is = absurd (never c d none header_lives 0 (is, refl))
    by_live (Some k) lives is = (area_size_of k c, pages_of k c, image_at (area_size_of k c) (pages_of k c) k c, is_whole c d none found.bytes k lives is, stored_here c d none found.bytes k lives is)
