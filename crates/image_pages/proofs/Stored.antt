-- A store that has the entries of an image's stored pages has the pages that they hold.
use Rattle.std.proofs.Common.{◌≡◌, ◌≢◌, inl, inr, ℕ, ◌+◌, List, [], ◌∷◌, ◌++◌, map, length, Option, Some, refl, sym, ap, subst, ◌∙◌, arith}
use Rattle.std.specs.Prelude.{min, ◌-◌, ◌^◌}
use Rattle.std.specs.List.{Contains, concat, sum, range_with_len}
use Rattle.std.proofs.lemmas.List.Elements.{recursion_from_All}
use Rattle.std.specs.FinMap.{get}
use Rattle.iv_types.specs.Definitions.{Definitions}
use Rattle.iv_types.specs.Maps.{Map}
use Rattle.iv_meaning.specs.Schema.{Schema}
use Rattle.iv_meaning.specs.Objects.{schema_of}
use Rattle.page_store.specs.Image as page
use Rattle.page_store.specs.Image.{named, pages_of, area_size_of, map_byte, image_at}
use Rattle.table_store.specs.Lists.{map_at}
use Rattle.ghost_rows.specs.State.{State}
use Rattle.txn_machine.specs.Log.{entry_bytes}
use Rattle.txn_machine.proofs.Holding.{contains_map}
use Rattle.txn_machine.proofs.LogSums.{sum_first}
use Rattle.txn_log.specs.Replay.{Pages}
use Rattle.txn_log.specs.Stored.{PageEntry, IsPartEntry, StandFor, AreParts, AllCreate, parts_entries}
use Rattle.txn_log.specs.Damaged.{Found, Device, all_found, in_texts, texts_found}
use Rattle.txn_log.proofs.Finding.{by_number}
use Rattle.txn_log.proofs.Printed.{one_statement}
use Rattle.txn_log.proofs.Standing.{row_numbered, total_numbered, one_stored}
use Rattle.log_disk.specs.Bears.{all_entries, StandOnce, AreStoredAs}
use Rattle.log_disk.specs.Found.{ArePagesOf, AreDefinitions, IsFound, IsFoundBy, IsFoundIn, IsWhole}
use Rattle.log_disk.proofs.Areas.{image_live}
use Rattle.log_disk.proofs.Defining.{texts_are}
use Rattle.log_disk.proofs.Finding.{all_are_found}
use Rattle.log_disk.proofs.Living.{live_same}
use Rattle.log_disk.proofs.Ordered.{parts_from, texts_from, order_once, texts_order, is_part, part_there}
use Rattle.log_disk.proofs.Sound.{in_map, all_pages}
use Rattle.image_finding.specs.declared.image.FoundImage.{FoundImage}
use Rattle.image_entries.specs.declared.parts.Part.{Part}
use Rattle.image_entries.specs.Entries.{held_of, found_at, found_entries}
use Rattle.image_entries.specs.Parts.{parts_found}
use Rattle.image_entries.proofs.Pages.{all_are}
use Rattle.image_entries.proofs.Linked.{definitions_are}
use Rattle.image_store.specs.Filled.{Entries, HasEntry, IsDataEntry}
use Rattle.record_replay.specs.Standing.{Has}
use Rattle.image_pages.specs.Pages.{IsReadFrom, IsFilledWith, found_bytes, TreeStore, no_limit, HasSomePages, HasPagesOf, CountsTextsOf}

-- with this commit number
abbrev pub numbered_so : ℕ → Pages → Pages
numbered_so number p = record { db = record { number = number; schema = p.db.schema; rows = p.db.rows }; view = p.view }

-- ---- the pages of a store

module _ (store : TreeStore) (texts : List (List ℕ)) (m : Entries) (f : IsFilledWith texts m store.catalog (map_at store.tables) store.views) (creates : AllCreate [] texts (schema_of store.catalog)) where
  pub has_pages : (number : ℕ) → Has map_at no_limit store (numbered_so number f.pages)
  has_pages number = record {
    made = record { texts = texts; all_create = creates };
    closed = record { held = f.held; closed = f.closed; unkept = λ session. refl };
    stored = f.proper.stored;
    sound = f.proper.sound;
    unlimited = refl;
    texts = record { texts = texts; has = f.has_texts; create = subst (AllCreate [] texts) f.held.objects creates };
  }

  pub has_some : HasSomePages store
  has_some number = (numbered_so number f.pages, has_pages number, refl)

-- ---- what texts count

abbrev entries_bytes : List PageEntry → ℕ
entries_bytes [] = 0
entries_bytes (e ∷ es) = entry_bytes 6 (length e.1) + entries_bytes es

bytes_found : (fs : List Found) → found_bytes fs ≡ entries_bytes (map (λ f. f.entry) fs)
bytes_found [] = refl
bytes_found (f ∷ fs) = ap (λ n. entry_bytes 6 (length f.entry.1) + n) (bytes_found fs)

both_bytes : (es fs : List PageEntry) → entries_bytes (es ++ fs) ≡ entries_bytes es + entries_bytes fs
both_bytes [] fs = omega arith
both_bytes (e ∷ es) fs = let rest = both_bytes es fs in omega (arith, rest)

parts_bytes : (n j : ℕ) (parts : List (List ℕ)) → entries_bytes (parts_from n j parts) ≡ parts_entries parts
parts_bytes n j [] = refl
parts_bytes n j (part ∷ parts) =
    let rest = parts_bytes n (j + 1) parts in
    let first = sum_first (entry_bytes 6 (length part)) (map (λ (q : List ℕ). entry_bytes 6 (length q)) parts) in
    omega (arith, rest, first)

texts_bytes : (n : ℕ) (texts : List (List (List ℕ))) → entries_bytes (texts_from n texts) ≡ sum (map parts_entries texts)
texts_bytes n [] = refl
texts_bytes n (parts ∷ texts) =
    let both = both_bytes (parts_from n 0 parts) (texts_from (n + 1) texts) in
    let one = parts_bytes n 0 parts in
    let rest = texts_bytes (n + 1) texts in
    let first = sum_first (parts_entries parts) (map parts_entries texts) in
    omega (arith, both, one, rest, first)

-- ---- those that stand in bytes

module _ (c : List ℕ) (image : FoundImage) (m : Entries) (parts : List Part) (from : IsReadFrom c image m parts) (d : Device) (found : IsFound c d) (room count : ℕ) (here : page.Image) (whole : IsWhole room count c here) (q : Pages) (a : AreStoredAs here.stored q) where
  abbrev k : ℕ
  k = (image_live room count c here whole.means).0

  is : image_at room count k c ≡ here
  is = (image_live room count c here whole.means).3

  by : IsFoundBy k c d
  by = let size = whole.limited.size in subst (λ (o : Option ℕ). IsFoundIn o c d) (live_same c (omega (arith, size)) ∙ (image_live room count c here whole.means).1) found.by

  pages_is : pages_of k c ≡ count
  unfolding image_at
  pages_is = ap (λ (x : page.Image). x.pages) is ∙ whole.pages

  size_is : area_size_of k c ≡ room
  unfolding image_at
  size_is = ap (λ (x : page.Image). x.area_size) is ∙ whole.areas

  stored_is : map (λ p. named room p (map_byte k p c) c) (range_with_len 0 count) ≡ here.stored
  unfolding image_at
  stored_is = ap (λ (x : page.Image). x.stored) is

  pages_there : ArePagesOf room k c (range_with_len 0 count) d.stored
  pages_there = subst (λ n. ArePagesOf n k c (range_with_len 0 count) d.stored) size_is (subst (λ n. ArePagesOf (area_size_of k c) k c (range_with_len 0 n) d.stored) pages_is by.stored)

  entries_are : map (λ f. f.entry) (all_found d.stored) ≡ all_entries here.stored
  entries_are = all_pages room k c (range_with_len 0 count) d.stored pages_there ∙ ap all_entries stored_is

  found_are : map (λ f. f.entry) (found_entries image c) ≡ all_entries here.stored
  found_are = ap (λ (fs : List Found). map (λ f. f.entry) fs) (sym (all_are c image from.found d found)) ∙ entries_are

  defs : AreDefinitions (all_found d.stored) d.definitions
  defs = by.definitions (subst StandOnce (sym entries_are) whole.apart)

  -- the entries of index 0 are the parts of the texts
  part_only : (e : PageEntry) → Contains (all_entries here.stored) e → e.0.0 ≡ 0 → IsPartEntry a.texts e
  part_only e there index = elim ((a.stand e).0 there) [
    | inl (inl row) ↦ absurd (row_numbered q.db.schema e.0 row.0 (a.proper.sound.rows e.0 row.0 row.1) index)
    | inl (inr total) ↦ absurd (total_numbered q.db.schema e.0 total.0 (a.proper.stored e.0 total.0 total.1) index)
    | inr part ↦ part
  ]

  parts_are : map (λ f. f.entry) d.definitions ≡ texts_from 1 a.texts
  parts_are = order_once (map (λ f. f.entry) d.definitions) (texts_from 1 a.texts) defs.in_order (texts_order 1 a.texts (let few = a.few in omega arith) a.short)
      (λ e there.
      let f = in_map (λ (x : Found). x.entry) d.definitions e there in
      let one = (defs.among f.0).0 f.1 in
      let among : Contains (all_entries here.stored) e = subst (λ (xs : List PageEntry). Contains xs e) entries_are (subst (Contains (map (λ x. x.entry) (all_found d.stored))) f.2 (contains_map (λ (x : Found). x.entry) (all_found d.stored) f.0 one.0)) in
      part_there a.texts e (part_only e among (ap (λ (x : PageEntry). x.0.0) (sym f.2) ∙ one.1)))
      (λ e there.
      let part = is_part a.texts e there in
      let f = in_map (λ (x : Found). x.entry) (all_found d.stored) e (subst (λ (xs : List PageEntry). Contains xs e) (sym entries_are) ((a.stand e).1 (inr part))) in
      subst (Contains (map (λ x. x.entry) d.definitions)) f.2 (contains_map (λ (x : Found). x.entry) d.definitions f.0 ((defs.among f.0).1 (f.1, ap (λ (x : PageEntry). x.0.0) f.2 ∙ part.index))))

  texts_same : texts_found (in_texts (parts_found parts)).1 ≡ map concat a.texts
  texts_same =
      ap (λ (fs : List Found). texts_found (in_texts fs).1) (from.parts_are ∙ definitions_are c image from.found m from.gathers d found)
      ∙ texts_are a.texts a.few a.short (recursion_from_All AreParts a.texts a.define.0) d.definitions parts_are

  pub counts_those : found_bytes (parts_found parts) ≡ sum (map parts_entries a.texts)
  counts_those = ap found_bytes (from.parts_are ∙ definitions_are c image from.found m from.gathers d found) ∙ bytes_found d.definitions ∙ ap entries_bytes parts_are ∙ texts_bytes 1 a.texts

  module _ (texts : List (List ℕ)) (ds : Definitions) (maps : ℕ → Map) (state : State) (f : IsFilledWith texts m ds maps state) where
    abbrev p : Pages
    p = numbered_so here.commits f.pages

    there : (e : PageEntry) → e.0.0 ≢ 0 → Contains (all_entries here.stored) e → IsDataEntry p e
    there e other in_it =
        let one = in_map (λ (x : Found). x.entry) (found_entries image c) e (subst (λ (xs : List PageEntry). Contains xs e) (sym found_are) in_it) in
        let held = from.gathers.has.held one.0 one.1 in
        (f.entries e other).0 (held_of one.0, subst (λ (x : PageEntry). get m x.0 ≡ Some (held_of one.0)) one.2 held, ap (λ (x : PageEntry). x.1) one.2)

    of_object : (e : PageEntry) → IsDataEntry p e → e.0.0 ≢ 0
    of_object e (inl row) zero = row_numbered f.pages.db.schema e.0 row.0 (f.proper.sound.rows e.0 row.0 row.1) zero
    of_object e (inr total) zero = total_numbered f.pages.db.schema e.0 total.0 (f.proper.stored e.0 total.0 total.1) zero

    back : (e : PageEntry) → IsDataEntry p e → Contains (all_entries here.stored) e
    back e data_is =
        let has : HasEntry m e = (f.entries e (of_object e data_is)).1 data_is in
        let one = contains_map (λ (x : Found). x.entry) (found_entries image c) (found_at e.0 has.0) (from.gathers.has.only e.0 has.0 has.1) in
        subst (λ (xs : List PageEntry). Contains xs e) found_are (subst (Contains (map (λ x. x.entry) (found_entries image c))) (λ t. (e.0, has.2 t)) one)

    stand : StandFor (all_entries here.stored) a.texts p
    stand e = (
      (λ in_it. by_number e.0.0 0 (λ zero. inr (part_only e in_it zero)) (λ other. inl (there e other in_it))),
      (λ is_it. elim is_it [
        | inl data_is ↦ back e data_is
        | inr part ↦ (a.stand e).1 (inr part)
      ]),
    )

    pub same_pages : AllCreate [] (texts_found (in_texts (parts_found parts)).1) f.pages.db.schema → q.db.number ≡ here.commits → p ≡ q
    same_pages creates number =
        one_stored one_statement (all_entries here.stored) a.texts p q (a.define.0, subst (λ (xs : List (List ℕ)). AllCreate [] xs f.pages.db.schema) texts_same creates) a.define
        (record { sound = f.proper.sound; stored = f.proper.stored; in_range = f.proper.in_range }) a.proper (sym number) stand a.stand

-- so a store that is filled with what was read has them
pub has_those : (c : List ℕ) (image : FoundImage) (m : Entries) (parts : List Part) → IsReadFrom c image m parts → (store : TreeStore)
    → (f : IsFilledWith (texts_found (in_texts (parts_found parts)).1) m store.catalog (map_at store.tables) store.views)
    → AllCreate [] (texts_found (in_texts (parts_found parts)).1) (schema_of store.catalog) → HasPagesOf c store
has_those c image m parts from store f creates = λ room count here whole q a number.
    let found = all_are_found c in
    subst (Has map_at no_limit store)
    (same_pages c image m parts from found.0 found.1 room count here whole q a (texts_found (in_texts (parts_found parts)).1) store.catalog (map_at store.tables) store.views f
    (subst (λ (objects : Schema). AllCreate [] (texts_found (in_texts (parts_found parts)).1) objects) f.held.objects creates) number)
    (has_pages store (texts_found (in_texts (parts_found parts)).1) m f creates here.commits)

-- and these are the bytes of its texts
pub counts_all : (c : List ℕ) (image : FoundImage) (m : Entries) (parts : List Part) → IsReadFrom c image m parts → (bytes : ℕ) → bytes ≡ min (found_bytes (parts_found parts)) (2 ^ 64 - 1) → CountsTextsOf c bytes
counts_all c image m parts from bytes is = λ room count here whole q a.
    let found = all_are_found c in
    is ∙ ap (λ n. min n (2 ^ 64 - 1)) (counts_those c image m parts from found.0 found.1 room count here whole q a)
