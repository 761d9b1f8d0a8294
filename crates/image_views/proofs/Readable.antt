-- A view of the contents may be read, and what is answered of it.
use Rattle.std.specs.Prelude.{◌≡◌, ℕ, List, Option, None, Some, Err, IsSome}
use Rattle.std.specs.Option.{option_map}
use mathlib.Core.Logic.{inl, inr}
use Rattle.std.proofs.lemmas.Bool.{false≢true}
use Rattle.iv_types.specs.Maps.{Map}
use Rattle.iv_types.specs.Definitions.{Definitions}
use Rattle.iv_types.specs.declared.refusal.Refusal.{Refusal}
use Rattle.iv_types.specs.declared.refusal.Refusal.TheVariants.{NumberRange, NoMemory}
use Rattle.iv_meaning.specs.Database.{Rows, Row}
use Rattle.iv_meaning.specs.Schema.{Schema, view, ViewTree, numbered}
use Rattle.iv_meaning.specs.View.{whole_view}
use Rattle.query_laws.proofs.SoundLemmas.{object_more}
use Rattle.row_eval.specs.Grouped.{Gives}
use Rattle.txn_machine.specs.Laws.{AreInRange}
use Rattle.txn_machine.specs.ViewLaws.{AreSound}
use Rattle.txn_machine.proofs.Creating.{joined_more}
use Rattle.txn_machine.proofs.Refusing.{readable_law}
use Rattle.data_store.specs.Contents.{Contents}
use Rattle.ghost_rows.specs.State.{State}
use Rattle.data_defining.specs.Defining.{CanReadView}
use Rattle.image_views.specs.Compared.{CanEvaluate}

-- a view of the contents may be read
pub may_read : (ds : Definitions) (maps : ℕ → Map) (state : State) (v : ViewTree) (c : Contents) → CanEvaluate ds maps state v c → CanReadView ds maps state v c
may_read ds maps state v c can = record {
  readable = can.comparable.readable;
  sound = can.comparable.sound;
  is_view = (object_more c.objects (view v) v.number (view v) (can.comparable.sound.objects v.number (view v) can.is_there)).1;
  is_joined = joined_more c.objects (view v) v v.second (can.comparable.sound.joins v.number v can.is_there);
}

-- its query is refused only where a number is out of range
pub refused_range : (objects : Schema) (rows : Rows) (v : ViewTree) → AreSound objects rows → numbered objects v.number ≡ Some (view v)
    → {Y : Type 0} (f : List Row → Y) → Gives (option_map f (whole_view objects rows v)) (Err NumberRange) → AreInRange objects rows → ⊥
refused_range objects rows v sound of {Y} f gives in_range = go (whole_view objects rows v) (readable_law (record { number = 0; schema = objects; rows = rows }) sound in_range v.number v of) gives
  where
    go : (o : Option (List Row)) → IsSome o → Gives (option_map f o) (Err NumberRange) → ⊥
    go None some h = false≢true some
    go (Some found) some h = let bad : NumberRange ≡ NoMemory = h in cc

-- a refusal that is neither of two is none
pub never_other : {Y : Type 0} (o : Option Y) (why : Refusal) → Gives o (Err why) → (why ≡ NumberRange → ⊥) → (why ≡ NoMemory → ⊥) → ⊥
never_other None why h n m = elim h [ inl e ↦ n e | inr e ↦ m e ]
never_other (Some y) why h n m = m h
