-- No clause of `run` rests on this module: it serves contracts between crates.
--
-- The parts of definitions, in the order of their keys.
use Rattle.std.specs.Prelude.{◌≡◌, ◌⊎◌, ℕ, zero, suc, ◌+◌, ◌<◌, List, [], ◌∷◌, map, take, length, get_or, Option, Some, None}
use Rattle.table_laws.specs.Place.{Place}
use Rattle.txn_log.specs.Damaged.{Found, part_key, key_in, IsNextKey, HasSize, with_next, FirstBad, DefinitionFails}
use Rattle.image_finding.specs.declared.fault.BadImage.{BadImage}
use Rattle.image_entries.specs.declared.stored.StoredEntry.{StoredEntry}
use Rattle.image_entries.specs.declared.parts.Part.{Part}
use Rattle.image_entries.specs.Entries.{found_at, NoneBad}

-- a part, as an entry of index 0
abbrev pub part_found : Part → Found
part_found p = record { page = p.page; entry = ((0, p.key), p.value) }

-- what is kept under a key
pub record IsPartOf (s : StoredEntry) (key : List ℕ) (p : Part) : Type 0 where
  pub page : p.page ≡ s.page
  pub value : p.value ≡ s.value
  pub key_is : p.key ≡ key

abbrev pub IsPartAt : Option StoredEntry → List ℕ → Part → Type 0
IsPartAt None key p = ⊥
IsPartAt (Some s) key p = IsPartOf s key p

abbrev pub parts_found : List Part → List Found
parts_found ps = map part_found ps

abbrev pub no_found : Found
no_found = record { page = 0; entry = ((0, []), []) }

-- the entries of index 0 among those of a map, which stand first
abbrev pub with_definition : ℕ → Place → StoredEntry → List Found → List Found
with_definition zero p s ds = found_at p s ∷ ds
with_definition (suc n) p s ds = []

abbrev pub definitions_in : List (Place × StoredEntry) → List Found
definitions_in [] = []
definitions_in (e ∷ es) = with_definition e.0.0 e.0 e.1 (definitions_in es)

-- a key is that of this part of this object's definition
pub record HasKey (key : List ℕ) (object part : ℕ) : Type 0 where
  pub is : key ≡ part_key object part

-- a key is that of the next part of one definition
pub record AreFurther (one next : List ℕ) : Type 0 where
  pub object : ℕ
  pub part : ℕ
  pub first : HasKey one object part
  pub second : HasKey next object (part + 1)

-- a key is that of the first part of the next definition
pub record BeginNext (one next : List ℕ) : Type 0 where
  pub object : ℕ
  pub part : ℕ
  pub first : HasKey one object part
  pub second : HasKey next (object + 1) 0

abbrev pub ComeNext : List ℕ → List ℕ → Type 0
ComeNext one next = AreFurther one next ⊎ BeginNext one next

-- those of a list that stand before a place, the latest first
abbrev pub onto : {X : Type 0} → List X → List X → List X
onto [] earlier = earlier
onto (x ∷ xs) earlier = onto xs (x ∷ earlier)

abbrev pub before : {X : Type 0} → ℕ → List X → List X
before i xs = onto (take i xs) []

-- the entry at a place, and the one behind it
abbrev pub pair_at : ℕ → List Found → Found × Option Found
pair_at i fs = get_or (with_next fs) i (no_found, None)

-- the key that part i should have stands there
pub record HasNextKey (i : ℕ) (fs : List Found) : Type 0 where
  pub is : IsNextKey (before i fs) (get_or fs i no_found)

-- a further part of the same definition stands behind part i
pub record IsFollowed (i : ℕ) (fs : List Found) : Type 0 where
  pub inside : i + 1 < length fs
  pub further : AreFurther (key_in (get_or fs i no_found)) (key_in (get_or fs (i + 1) no_found))

-- and the size
pub record HasItsSize (i : ℕ) (fs : List Found) : Type 0 where
  pub is : HasSize (pair_at i fs).0 (pair_at i fs).1

abbrev pub KeyFails : List Found → Found → Type 0
KeyFails earlier f = IsNextKey earlier f → ⊥

abbrev pub SizeFails : List (Found × Option Found) → Found × Option Found → Type 0
SizeFails earlier f = HasSize f.0 f.1 → ⊥

-- the page of the first part whose key is not the one that comes next is told by rule 11
pub record TellsKey (fs : List Found) (bad : BadImage) : Type 0 where
  pub part : Found
  pub first : FirstBad KeyFails [] fs part
  pub rule : bad.rule ≡ 11
  pub place : bad.place ≡ part.page

-- the page of the first part that has not its size is
pub record TellsSize (fs : List Found) (bad : BadImage) : Type 0 where
  pub part : Found × Option Found
  pub first : FirstBad SizeFails [] (with_next fs) part
  pub rule : bad.rule ≡ 11
  pub place : bad.place ≡ part.0.page

-- the keys are those of objects 1, 2 and so on, each with parts 0, 1 and so on
abbrev pub KeysStand : List Found → Type 0
KeysStand fs = NoneBad KeyFails [] fs

-- parts before a definition's last are full, and none has more
abbrev pub SizesStand : List Found → Type 0
SizesStand fs = NoneBad SizeFails [] (with_next fs)

-- a part's place is told by rule 11
pub record TellsDefinition (fs : List Found) (bad : BadImage) : Type 0 where
  pub rule : bad.rule ≡ 11
  pub fails : DefinitionFails fs bad.place
