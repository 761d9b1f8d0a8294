-- No clause of `run` rests on this module: it serves contracts between crates.
--
-- Which images are refused before their records are replayed: by the rules on the header, the log's blocks, the page map and the entries
-- of stored pages, in their order, each at its first place.
use Rattle.std.specs.Prelude.{◌≡◌, ◌≢◌, ◌⊎◌, ℕ, suc, ◌+◌, ◌*◌, ◌<◌, ◌≤◌, ◌^◌, ℤ, Bool, false, List, [], ◌∷◌, ◌++◌, map, length, reverse, drop, Option, Some, None, if◌then◌else◌}
use Rattle.std.specs.List.{Contains, All}
use Rattle.std.specs.Str.{bytes_eq}
use Rattle.byteorder.specs.Endian.{big_bytes}
use Rattle.iv_types.specs.declared.catalog.TableDef.{TableDef}
use Rattle.iv_types.specs.Encoding.{kinds_of, IsHuge, FitAll, row_bytes}
use Rattle.iv_meaning.specs.Schema.{Schema, Object, table, numbered}
use Rattle.iv_meaning.specs.Database.{Row, key_of}
use Rattle.txn_machine.specs.Log.{part_bytes}
use Rattle.txn_log.specs.Fitting.{IsGroup}
use Rattle.txn_log.specs.Appended.{Creates}
use Rattle.txn_log.specs.Stored.{PageEntry, total_bytes, AllCreate}

-- ---- an image as it is found

-- the live header, by the place where it begins
pub record Header : Type 0 where
  pub place : ℕ
  pub format : ℕ
  pub pages : ℕ
  pub area_bytes : ℕ
  pub number : ℕ
  pub commits : ℕ
  pub next : ℕ
  pub area : ℕ
  pub redo : ℕ

-- a stored page by its place; whether it is a leaf whose entries lie between its head and their places
pub record Page : Type 0 where
  pub place : ℕ
  pub formed : Bool
  pub entries : List PageEntry

-- an entry and the place of its page
pub record Found : Type 0 where
  pub page : ℕ
  pub entry : PageEntry

pub record Device : Type 0 where
  pub bytes : ℕ
  pub header : Option Header
  -- the end of the first block of the area in use, if its gate is open
  pub first_end : Option ℕ
  -- the rule, 6 or 7, and the place at which the area's blocks fail, if they do
  pub scan : Option (ℕ × ℕ)
  -- the bytes of the page map
  pub map : List ℕ
  -- in order
  pub stored : List Page
  -- the entries of index 0 in the order of their keys
  pub definitions : List Found

-- ---- the first of a list that fails

-- with those before it, of which the latest stands first
abbrev pub FirstBad : {X : Type 0} → (List X → X → Type 0) → List X → List X → X → Type 0
FirstBad bad earlier [] x = ⊥
FirstBad bad earlier (y ∷ ys) x = ((x ≡ y) × bad earlier y) ⊎ ((bad earlier y → ⊥) × FirstBad bad (y ∷ earlier) ys x)

-- ---- the header and the log

-- 512 to 131,072 pages, areas of 64 KiB to 256 MiB, a device of just their size, and no number above 2^62
pub record FitsDevice (h : Header) (bytes : ℕ) : Type 0 where
  pub pages : (512 ≤ h.pages) × (h.pages ≤ 131072)
  pub areas : (64 * 1024 ≤ h.area_bytes) × (h.area_bytes ≤ 256 * 1024 * 1024)
  pub size : bytes ≡ 278528 + 2 * h.area_bytes + 16384 * h.pages
  pub numbers : (h.number ≤ 2 ^ 62) × (h.commits ≤ 2 ^ 62) × (h.next ≤ 2 ^ 62)

-- bytes with their places
abbrev pub placed_from : ℕ → List ℕ → List (ℕ × ℕ)
placed_from place [] = []
placed_from place (b ∷ bs) = (place, b) ∷ placed_from (place + 1) bs

-- ---- entries

abbrev pub found_in : ℕ → List PageEntry → List Found
found_in place [] = []
found_in place (e ∷ es) = record { page = place; entry = e } ∷ found_in place es

abbrev pub all_found : List Page → List Found
all_found [] = []
all_found (p ∷ ps) = found_in p.place p.entries ++ all_found ps

abbrev pub part_key : ℕ → ℕ → List ℕ
part_key object part = big_bytes 4 object ++ big_bytes 2 part

abbrev pub key_in : Found → List ℕ
key_in f = f.entry.0.1

-- the next part of the same definition
abbrev pub IsFurther : Found → Found → Type 0
IsFurther one next = (object : ℕ) × (part : ℕ) × (key_in one ≡ part_key object part) × (key_in next ≡ part_key object (part + 1))

-- the first part of the definition that comes next
abbrev pub BeginsNext : Found → Found → Type 0
BeginsNext one next = (object : ℕ) × (part : ℕ) × (key_in one ≡ part_key object part) × (key_in next ≡ part_key (object + 1) 0)

-- the key that comes next
abbrev pub IsNextKey : List Found → Found → Type 0
IsNextKey [] f = key_in f ≡ part_key 1 0
IsNextKey (d ∷ ds) f = IsFurther d f ⊎ BeginsNext d f

-- each with the one behind it
abbrev pub with_next : List Found → List (Found × Option Found)
with_next [] = []
with_next (f ∷ []) = (f, None) ∷ []
with_next (f ∷ g ∷ fs) = (f, Some g) ∷ with_next (g ∷ fs)

-- a part that is not the last is full, and the last is at most full
abbrev pub HasSize : Found → Option Found → Type 0
HasSize f None = length f.entry.1 ≤ part_bytes
HasSize f (Some g) = (IsFurther f g → length f.entry.1 ≡ part_bytes) × (length f.entry.1 ≤ part_bytes)

-- the texts of definitions, each with the place of its first part's page, and what comes before the first such part
abbrev pub in_texts : List Found → List ℕ × List (ℕ × List ℕ)
in_texts [] = ([], [])
in_texts (f ∷ fs) =
    if bytes_eq (drop 4 (key_in f)) (big_bytes 2 0) then ([], (f.page, f.entry.1 ++ (in_texts fs).0) ∷ (in_texts fs).1)
    else (f.entry.1 ++ (in_texts fs).0, (in_texts fs).1)

abbrev pub texts_found : List (ℕ × List ℕ) → List (List ℕ)
texts_found ts = map (λ t. t.1) ts

-- it makes an object beside those before it
abbrev pub MakesNext : List (ℕ × List ℕ) → ℕ × List ℕ → Type 0
MakesNext earlier t = (objects : Schema) × AllCreate [] (reverse (texts_found earlier)) objects × (o : Object) × Creates objects t.1 o

-- a definition's part, a row under its key, or the numbers of a group
abbrev pub EntryStands : Schema → PageEntry → Type 0
EntryStands objects e =
    (e.0.0 ≡ 0)
    ⊎ ((t : TableDef) × (row : Row) × (numbered objects e.0.0 ≡ Some (table t)) × FitAll (kinds_of t) row × (e.1 ≡ row_bytes (kinds_of t) row) × (e.0.1 ≡ key_of t row))
    ⊎ ((g : IsGroup objects e.0) × (numbers : List ℤ) × (length numbers ≡ suc (length g.of.sums)) × All IsHuge numbers × (e.1 ≡ total_bytes numbers))

-- ---- the rules

-- the keys of definitions are not those that should stand there; or, where they are, a part has not its size; or, where each has,
-- a text does not make what comes next
abbrev pub DefinitionFails : List Found → ℕ → Type 0
DefinitionFails fs place =
    ((f : Found) × (place ≡ f.page) × FirstBad (λ earlier g. IsNextKey earlier g → ⊥) [] fs f)
    ⊎ (((f : Found) → FirstBad (λ earlier g. IsNextKey earlier g → ⊥) [] fs f → ⊥)
    × (f : Found × Option Found) × (place ≡ f.0.page) × FirstBad (λ earlier g. HasSize g.0 g.1 → ⊥) [] (with_next fs) f)
    ⊎ (((f : Found) → FirstBad (λ earlier g. IsNextKey earlier g → ⊥) [] fs f → ⊥)
    × ((f : Found × Option Found) → FirstBad (λ earlier g. HasSize g.0 g.1 → ⊥) [] (with_next fs) f → ⊥)
    × (t : ℕ × List ℕ) × (place ≡ t.0) × FirstBad (λ earlier u. MakesNext earlier u → ⊥) [] (in_texts fs).1 t)

pub data Rule : Type 0 where
  header_lives : Rule
  format_known : Rule
  sizes_fit : Rule
  area_named : Rule
  first_block_ends : Rule
  blocks_lie : Rule
  records_read : Rule
  map_read : Rule
  pages_formed : Rule
  keys_apart : Rule
  definitions_read : Rule
  entries_read : Rule

abbrev pub rule_number : Rule → ℕ
rule_number header_lives = 1
rule_number format_known = 2
rule_number sizes_fit = 3
rule_number area_named = 4
rule_number first_block_ends = 5
rule_number blocks_lie = 6
rule_number records_read = 7
rule_number map_read = 8
rule_number pages_formed = 9
rule_number keys_apart = 10
rule_number definitions_read = 11
rule_number entries_read = 12

-- this rule fails, first at this place, where those before it hold
abbrev pub FailsAt : Device → Rule → ℕ → Type 0
FailsAt d header_lives place = (d.header ≡ None) × (place ≡ 0)
FailsAt d format_known place = (h : Header) × (d.header ≡ Some h) × (place ≡ h.place + 8) × (h.format ≢ 1)
FailsAt d sizes_fit place = (h : Header) × (d.header ≡ Some h) × (place ≡ h.place + 12) × (FitsDevice h d.bytes → ⊥)
FailsAt d area_named place = (h : Header) × (d.header ≡ Some h) × (place ≡ h.place + 48) × (1 < h.area)
FailsAt d first_block_ends place = (h : Header) × (d.header ≡ Some h) × (place ≡ h.place + 56) × (d.first_end ≢ Some h.redo)
FailsAt d blocks_lie place = d.scan ≡ Some (6, place)
FailsAt d records_read place = d.scan ≡ Some (7, place)
FailsAt d map_read place = (h : Header) × (d.header ≡ Some h) × (b : ℕ × ℕ) × (place ≡ b.0) × FirstBad (λ earlier c. 2 < c.1) [] (placed_from (h.place + 64) d.map) b
FailsAt d pages_formed place = (p : Page) × (place ≡ p.place) × FirstBad (λ earlier q. q.formed ≡ false) [] d.stored p
FailsAt d keys_apart place = (f : Found) × (place ≡ f.page) × FirstBad (λ earlier g. Contains (map (λ e. e.entry.0) earlier) g.entry.0) [] (all_found d.stored) f
FailsAt d definitions_read place = DefinitionFails d.definitions place
FailsAt d entries_read place =
    (objects : Schema) × AllCreate [] (texts_found (in_texts d.definitions).1) objects
    × (f : Found) × (place ≡ f.page) × FirstBad (λ earlier g. EntryStands objects g.entry → ⊥) [] (all_found d.stored) f

-- this rule is the least that fails
abbrev pub IsDamaged : Device → Rule → ℕ → Type 0
IsDamaged d rule place = FailsAt d rule place × ((less : Rule) → rule_number less < rule_number rule → (other : ℕ) → FailsAt d less other → ⊥)

-- an image is refused by one of these rules at most, at one place
abbrev pub OneDamageLaw : Type 0
OneDamageLaw = (d : Device) (rule other : Rule) (place there : ℕ) → IsDamaged d rule place → IsDamaged d other there → (rule ≡ other) × (place ≡ there)
