-- No clause of `run` rests on this module: it serves contracts between crates.
--
-- What the entries of an image's stored pages stand for: rows of tables, rows of views, and definitions by the parts of their texts.
use Rattle.std.specs.Prelude.{◌≡◌, ◌⊎◌, ◌↔◌, ℕ, zero, suc, ◌+◌, ◌-◌, ◌/◌, ◌≤◌, ℤ, List, [], ◌∷◌, ◌++◌, map, length, take, drop, slice_get, Some}
use Rattle.std.specs.List.{Contains, All, concat, sum}
use Rattle.std.specs.FinMap.{get}
use Rattle.byteorder.specs.Endian.{big_bytes}
use Rattle.iv_types.specs.declared.value.Kind.TheVariants.{Huge}
use Rattle.iv_types.specs.declared.value.Value.TheVariants.{Number}
use Rattle.iv_types.specs.Encoding.{IsHuge, row_bytes}
use Rattle.table_laws.specs.Place.{Place}
use Rattle.iv_meaning.specs.Schema.{Schema, Object, numbered, kinds_of_table}
use Rattle.iv_meaning.specs.Database.{Row}
use Rattle.txn_machine.specs.Stored.{AreStored, stored_number}
use Rattle.txn_machine.specs.ViewLaws.{AreSound}
use Rattle.txn_machine.specs.Log.{Opening, part_bytes, entry_bytes}
use Rattle.txn_machine.specs.Laws.{IsOpened}
use Rattle.txn_log.specs.Replay.{Pages}
use Rattle.txn_log.specs.Appended.{Creates}
use Rattle.txn_log.specs.Moments.{World, Run, opened_world, store_of, pages_now}

-- an entry is its index and its key, and its value
abbrev pub PageEntry : Type 0
PageEntry = Place × List ℕ

-- a row under its key
abbrev pub IsRowEntry : Pages → PageEntry → Type 0
IsRowEntry p e = (row : Row) × (get p.db.rows e.0 ≡ Some row) × (e.1 ≡ row_bytes (kinds_of_table (numbered p.db.schema e.0.0)) row)

-- the count and the sums of a group, sixteen bytes each
abbrev pub total_bytes : List ℤ → List ℕ
total_bytes numbers = row_bytes (map (λ n. Huge) numbers) (map Number numbers)

abbrev pub IsTotalEntry : Pages → PageEntry → Type 0
IsTotalEntry p e = (numbers : List ℤ) × (get p.view e.0 ≡ Some numbers) × (e.1 ≡ total_bytes numbers)

-- the parts of a definition's text: those before the last are full
abbrev pub AreParts : List (List ℕ) → Type 0
AreParts [] = ⊥
AreParts (part ∷ []) = length part ≤ part_bytes
AreParts (part ∷ parts) = (length part ≡ part_bytes) × AreParts parts

-- a part of a definition, under the object's number and its own
pub record IsPartEntry (texts : List (List (List ℕ))) (e : PageEntry) : Type 0 where
  pub index : e.0.0 ≡ 0
  pub before : ℕ
  pub parts : List (List ℕ)
  pub parts_are : slice_get texts before ≡ Some parts
  pub part : ℕ
  pub value : slice_get parts part ≡ Some e.1
  pub key : e.0.1 ≡ big_bytes 4 (before + 1) ++ big_bytes 2 part

-- the bytes of its entries
abbrev pub parts_entries : List (List ℕ) → ℕ
parts_entries parts = sum (map (λ part. entry_bytes 6 (length part)) parts)

-- so many parts
abbrev pub first_parts : ℕ → List ℕ → List (List ℕ)
first_parts zero text = []
first_parts (suc n) text = take part_bytes text ∷ first_parts n (drop part_bytes text)

-- a text as a checkpoint stores it
abbrev pub in_parts : List ℕ → List (List ℕ)
in_parts text = first_parts ((length text + (part_bytes - 1)) / part_bytes) text

-- the entries are those of these pages, with the texts of their definitions in these parts, and no others
abbrev pub StandFor : List PageEntry → List (List (List ℕ)) → Pages → Type 0
StandFor es texts p = (e : PageEntry) → Contains es e ↔ ((IsRowEntry p e ⊎ IsTotalEntry p e) ⊎ IsPartEntry texts e)

-- each text makes the object that comes next
abbrev pub AllCreate : Schema → List (List ℕ) → Schema → Type 0
AllCreate objects [] all = all ≡ objects
AllCreate objects (text ∷ texts) all = (o : Object) × Creates objects text o × AllCreate (objects ++ o ∷ []) texts all

-- these are parts of texts, which make these objects
abbrev pub Define : List (List (List ℕ)) → Schema → Type 0
Define texts objects = All AreParts texts × AllCreate [] (map concat texts) objects

-- rows fit their tables and stand under their keys, totals are of groups of views, and their numbers are in range
pub record AreProper (p : Pages) : Type 0 where
  pub sound : AreSound p.db.schema p.db.rows
  pub stored : AreStored p.db.schema p.view
  pub in_range : (place : Place) (column : ℕ) → IsHuge (stored_number p.view place column)

-- ---- laws

-- entries with texts stand for one database and its view rows
abbrev pub OneStoredLaw : Type 0
OneStoredLaw = (es : List PageEntry) (texts : List (List (List ℕ))) (p q : Pages) → Define texts p.db.schema → Define texts q.db.schema → AreProper p → AreProper q
    → p.db.number ≡ q.db.number → StandFor es texts p → StandFor es texts q → p ≡ q

-- what a checkpoint publishes is proper, at every moment
abbrev pub ProperLaw : Type 0
ProperLaw = (p : Pages) → IsOpened p.db p.view → (opening : Opening) (w : World) → Run (opened_world opening p) w → AreProper (pages_now (store_of w))
