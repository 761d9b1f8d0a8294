-- No clause of `run` rests on this module: it serves contracts between crates.
--
-- What a definition makes of the contents of a store, and the entries that it begins with.
use Rattle.std.specs.Prelude.{◌≡◌, ℕ, List, [], ◌∷◌, ◌++◌, map, Some}
use Rattle.iv_types.specs.Maps.{Map}
use Rattle.iv_types.specs.Definitions.{Definitions, number_of}
use Rattle.iv_types.specs.declared.catalog.Definition.{Definition}
use Rattle.iv_types.specs.declared.catalog.Definition.TheVariants.{Table, Index, View}
use Rattle.iv_types.specs.declared.catalog.ViewDef.{ViewDef}
use Rattle.iv_types.specs.Encoding.{IsHuge}
use Rattle.iv_types.specs.declared.lock.IndexEntry.{IndexEntry}
use Rattle.iv_types.specs.declared.lock.ViewRow.{ViewRow}
use Rattle.iv_meaning.specs.Schema.{Object, view, ViewTree}
use Rattle.iv_meaning.specs.Objects.{object_of, view_tree}
use Rattle.iv_meaning.specs.Database.{Row}
use Rattle.iv_meaning.specs.Sound.{IsView}
use Rattle.iv_meaning.specs.View.{whole_view}
use Rattle.query_laws.specs.Limited.{IsLimited}
use Rattle.row_eval.specs.Fresh.{view_row}
use Rattle.table_store.specs.Stored.{IsTableAnd}
use Rattle.table_store.specs.Filling.{AreIndexEntries}
use Rattle.txn_machine.specs.Fresh.{made_of, fresh}
use Rattle.txn_machine.specs.Stored.{add_all}
use Rattle.txn_machine.specs.ViewLaws.{AreSound, IsJoined}
use Rattle.ghost_rows.specs.Numbers.{numbers_bytes}
use Rattle.ghost_rows.specs.State.{State}
use Rattle.data_store.specs.Contents.{Contents}
use Rattle.data_store.specs.Reading.{CanBeRead}

-- one object more is defined, and a view has its rows
abbrev pub with_object : Contents → Object → Contents
with_object c o = record c { objects = c.objects ++ o ∷ []; view = add_all c.view (made_of (c.objects ++ o ∷ []) c.rows o) }

-- ---- the rows of a view

-- the store has these contents, which are sound, and the view, whether it is one of theirs or not, reads tables of theirs
pub record CanReadView (definitions : Definitions) (maps : ℕ → Map) (state : State) (v : ViewTree) (c : Contents) : Type 0 where
  pub readable : CanBeRead definitions maps state c
  pub sound : AreSound c.objects c.rows
  pub is_view : IsView (c.objects ++ view v ∷ []) v
  pub is_joined : IsJoined (c.objects ++ view v ∷ []) v

-- ---- the entries that it begins with

-- a row of a view as an entry of the view's index
abbrev pub view_entry : ℕ → ViewRow → IndexEntry
view_entry number row = record { index = number; key = row.group; value = numbers_bytes (row.count ∷ row.sums) }

-- those of the rows of a view, evaluated whole
pub record AreViewEntries (c : Contents) (v : ViewDef) (es : List IndexEntry) : Type 0 where
  pub rows : List Row
  pub whole : whole_view c.objects c.rows (view_tree v) ≡ Some rows
  pub entries : es ≡ map (view_entry v.number) (map (view_row c.objects (view_tree v)) rows)

-- a table begins with none, an index with those of its table's rows, a view with those of its rows
abbrev pub AreFirst : Definitions → (ℕ → Map) → Contents → Definition → List IndexEntry → Type 0
AreFirst definitions maps c (Table t) es = es ≡ []
AreFirst definitions maps c (Index i) es = IsTableAnd definitions i.table (λ t. AreIndexEntries t i (maps t.number) es)
AreFirst definitions maps c (View v) es = AreViewEntries c v es

-- ---- when it can be defined

-- the store has these contents, which are sound without the object and with it, and within the limits
pub record CanEvaluate (definitions : Definitions) (maps : ℕ → Map) (state : State) (o : Object) (c : Contents) : Type 0 where
  pub readable : CanBeRead definitions maps state c
  pub sound : AreSound c.objects c.rows
  pub after : AreSound (c.objects ++ o ∷ []) c.rows
  pub limited : IsLimited (c.objects ++ o ∷ [])

-- no session keeps a step, the numbers of a new view are in range, and these are the entries that it begins with
pub record CanDefine (definitions : Definitions) (maps : ℕ → Map) (state : State) (d : Definition) (es : List IndexEntry) (c : Contents) : Type 0 where
  pub evaluated : CanEvaluate definitions maps state (object_of d) c
  pub unkept : (session : ℕ) → c.kept session ≡ []
  pub in_range : (v : ViewDef) → d ≡ View v → (group : List ℕ) (column : ℕ) → IsHuge (fresh (c.objects ++ object_of d ∷ []) c.rows (v.number, group) column)
  pub first : AreFirst definitions maps c d es

-- it stands last among the definitions, behind these, under this number
pub record IsLast (definitions before : Definitions) (d : Definition) (number : ℕ) : Type 0 where
  pub are : definitions ≡ before ++ d ∷ []
  pub number_is : number ≡ number_of d
