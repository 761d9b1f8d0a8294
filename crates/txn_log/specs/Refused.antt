-- No clause of `run` rests on this module: it serves contracts between crates.
--
-- Which images are refused for their records and what they leave, and at which place. The rules are tried in order: each carried record
-- by rule 13; each further record, and then each last reversal, by rules 13 and 14; the sums of views evaluated afresh by rule 14;
-- the bytes of all entries by rule 15; and then each view against what it is, evaluated afresh.
use Rattle.std.specs.Prelude.{◌≡◌, ◌≢◌, ◌⊎◌, ℕ, ◌+◌, ◌==◌, ◌≤◌, ◌^◌, Bool, false, List, [], ◌∷◌, ◌++◌, map, Option, Some, None, if◌then◌else◌}
use Rattle.std.specs.List.{sum}
use Rattle.std.specs.FinMap as maps
use Rattle.std.specs.declared.cmp.Ordering.TheVariants.{Less}
use Rattle.table_laws.specs.Place.{Place, place_cmp}
use Rattle.iv_meaning.specs.Schema.{Schema}
use Rattle.iv_meaning.specs.Database.{Rows}
use Rattle.txn_machine.specs.Stored.{ViewRows, stored_number}
use Rattle.txn_machine.specs.Fresh.{fresh}
use Rattle.txn_machine.specs.Records.{Record, Definition}
use Rattle.txn_machine.specs.Log.{Within, Above, row_entries, view_entries, definition_entries}
use Rattle.txn_machine.specs.Laws.{AreInRange, IsOpened}
use Rattle.txn_machine.specs.Log.{Opening}
use Rattle.txn_log.specs.Replay.{What, Deed, Event, Undo, Pages, Reading, replay, on_pages, replayed, recovered, rows_without, view_without}
use Rattle.txn_log.specs.Fitting.{InRange, BackStands, BackFits, Stands, IsKnown, CarriedBelow, AreBelow, number_of, AllBack}
use Rattle.txn_log.specs.Meaning.{definitions}
use Rattle.txn_log.specs.Appended.{Numbered, written, Image, Says}
use Rattle.txn_log.specs.Stored.{parts_entries}
use Rattle.txn_log.specs.Moments.{World, Run, opened_world, left_by}

-- a record and the place of its first byte on the device; none where its key, group or rows do not decode by the definitions there
pub record Placed : Type 0 where
  pub place : ℕ
  pub entry : Option Numbered

-- Lists of records have the latest first.
pub record PlacedImage : Type 0 where
  pub pages : Pages
  pub carried : List Placed
  pub after : List Placed
  -- the texts of the pages' definitions, in order, each in its parts
  pub texts : List (List (List ℕ))
  -- the most bytes that entries may take
  pub data_limit : Option ℕ

-- the pages and records of an image, at their places
pub record IsPlaced (i : PlacedImage) (image : Image) : Type 0 where
  pub pages : i.pages ≡ image.pages
  pub carried : map (λ r. r.entry) i.carried ≡ map Some image.carried
  pub after : map (λ r. r.entry) i.after ≡ map Some image.after

-- the greatest number of a record
abbrev pub most_number : ℕ
most_number = 2 ^ 62

-- of any numbers
abbrev pub Anyhow : ViewRows → Place → Type 0
Anyhow stored place = Unit {0}

-- the texts of the definitions among records, in order
abbrev pub text_in : Record → List (List ℕ)
text_in (Definition number session text) = text ∷ []
text_in _ = []

abbrev pub text_at : Option Numbered → List (List ℕ)
text_at None = []
text_at (Some n) = text_in n.of

abbrev pub texts_in : List Placed → List (List ℕ)
texts_in [] = []
texts_in (r ∷ rs) = texts_in rs ++ text_at r.entry

-- the bytes of all entries that the image leaves: of rows with their indexes, of view rows, ghosts too, and of definitions
abbrev pub data_left : PlacedImage → Pages → ℕ
data_left i p =
    sum (map (λ e. row_entries p.db.schema e.0 e.1) (maps.entries p.db.rows)) + view_entries p.view
    + sum (map parts_entries i.texts) + sum (map definition_entries (texts_in i.after))

abbrev pub has_number : ℕ → Option Numbered → Bool
has_number number None = false
has_number number (Some n) = n.number == number

-- where the record of this number stands
abbrev pub place_by : ℕ → List Placed → ℕ
place_by number [] = 0
place_by number (r ∷ rs) = if has_number number r.entry then r.place else place_by number rs

-- ---- carried records

-- a Write or a Delta of a table or view that is there, behind these
abbrev pub CarriedStands : Schema → List Deed → Placed → Deed → Type 0
CarriedStands objects ds r d = (r.entry ≡ Some (written d)) × IsKnown objects d.what × CarriedBelow d.number ds × (d.number ≤ most_number)

abbrev pub CarriedAs : Schema → List Placed → List Deed → Type 0
CarriedAs objects [] [] = Unit {0}
CarriedAs objects (r ∷ rs) (d ∷ ds) = CarriedStands objects ds r d × CarriedAs objects rs ds
CarriedAs objects _ _ = ⊥

-- the first that does not fit
abbrev pub CarriedBreaks : Schema → List Placed → ℕ → Type 0
CarriedBreaks objects [] place = ⊥
CarriedBreaks objects (r ∷ rs) place =
    CarriedBreaks objects rs place
    ⊎ ((place ≡ r.place) × (ds : List Deed) × CarriedAs objects rs ds × ((d : Deed) → CarriedStands objects ds r d → ⊥))

-- ---- the records after the redo place

-- a record can be reversed with any numbers
abbrev pub BackAnyhow : Rows → ViewRows → What → Type 0
BackAnyhow = BackStands Anyhow

-- or that is not tried
abbrev pub Untried : Rows → ViewRows → What → Type 0
Untried rows stored w = Unit {0}

-- an Undo that cannot reverse fails at the record that it names, which is one of these; any other record at its own place
abbrev pub fails_at : List Placed → Placed → Event → ℕ
fails_at rs r (Undo n t m) = place_by m rs
fails_at rs r _ = r.place

-- behind these carried records
module _ (p : Pages) (first : List Placed) (carried : List Deed) where
  -- this record, where those before it said this, with these conditions on numbers and on what an Undo reverses
  abbrev pub Passes : (ViewRows → Place → Type 0) → (Rows → ViewRows → What → Type 0) → List Event → Placed → Event → Type 0
  Passes Range Back es r e =
      (n : Numbered) × (r.entry ≡ Some n) × Says (definitions p.db.schema es) n e × Stands Range Back (replay (on_pages p carried) es) es e × AreBelow (number_of e) carried es × (number_of e ≤ most_number)

  abbrev pub SaidAs : List Placed → List Event → Type 0
  SaidAs [] [] = Unit {0}
  SaidAs (r ∷ rs) (e ∷ es) = Passes InRange BackFits es r e × SaidAs rs es
  SaidAs _ _ = ⊥

  -- by itself it fails rule 13; or it is an Undo and what it reverses fails it; or rule 14 alone fails
  abbrev pub BreaksBy : ℕ → ℕ → List Placed → List Event → Placed → Type 0
  BreaksBy rule place rs es r =
      ((rule ≡ 13) × (place ≡ r.place) × ((e : Event) → Passes Anyhow Untried es r e → ⊥))
      ⊎ ((rule ≡ 13) × (e : Event) × (place ≡ fails_at (rs ++ first) r e) × Passes Anyhow Untried es r e × (Passes Anyhow BackAnyhow es r e → ⊥))
      ⊎ ((rule ≡ 14) × (e : Event) × (place ≡ fails_at (rs ++ first) r e) × Passes Anyhow BackAnyhow es r e × (Passes InRange BackFits es r e → ⊥))

  -- the first that fails one
  abbrev pub RecordBreaks : List Placed → ℕ → ℕ → Type 0
  RecordBreaks [] rule place = ⊥
  RecordBreaks (r ∷ rs) rule place = RecordBreaks rs rule place ⊎ ((es : List Event) × SaidAs rs es × BreaksBy rule place rs es r)

-- ---- the last reversals

module _ (at : ℕ → ℕ) where
  abbrev pub BackBreaks : List Deed → Rows → ViewRows → ℕ → ℕ → Type 0
  BackBreaks [] rows stored rule place = ⊥
  BackBreaks (x ∷ xs) rows stored rule place =
      ((place ≡ at x.number)
      × (((rule ≡ 13) × (BackAnyhow rows stored x.what → ⊥)) ⊎ ((rule ≡ 14) × BackAnyhow rows stored x.what × (BackFits rows stored x.what → ⊥))))
      ⊎ (BackFits rows stored x.what × BackBreaks xs (rows_without x.what rows) (view_without x.what stored) rule place)

-- ---- all of it

-- the records of the image pass, and say this
pub record PassesAs (i : PlacedImage) (r : Reading) : Type 0 where
  pub pages : r.pages ≡ i.pages
  pub carried : CarriedAs i.pages.db.schema i.carried r.carried
  pub after : SaidAs i.pages i.carried r.carried i.after r.after

-- and what is left can be taken back
pub record ReversesAs (i : PlacedImage) (r : Reading) : Type 0 where
  pub passes : PassesAs i r
  pub back : AllBack (replayed r).live (replayed r).db.rows (replayed r).view

-- a group's row is what it is, evaluated afresh
abbrev pub IsFreshAt : Pages → Place → Type 0
IsFreshAt p place = (column : ℕ) → stored_number p.view place column ≡ fresh p.db.schema p.db.rows place column

-- the first group, by the number of its view and then by its bytes, whose row is not
pub record IsFirstWrong (p : Pages) (place : Place) : Type 0 where
  -- by a column
  pub column : ℕ
  pub wrong : stored_number p.view place column ≢ fresh p.db.schema p.db.rows place column
  pub first : (earlier : Place) → place_cmp earlier place ≡ Less → IsFreshAt p earlier

pub data ImageFault : Type 0 where
  BadImage : (rule place : ℕ) → ImageFault
  BadView : Place → ImageFault

pub data IsRefused (i : PlacedImage) : ImageFault → Type 0 where
  carried : (place : ℕ) → CarriedBreaks i.pages.db.schema i.carried place → IsRefused i (BadImage 13 place)
  further : (ds : List Deed) → CarriedAs i.pages.db.schema i.carried ds → (rule place : ℕ) → RecordBreaks i.pages i.carried ds i.after rule place → IsRefused i (BadImage rule place)
  reversal : (r : Reading) → PassesAs i r → (rule place : ℕ)
      → BackBreaks (λ n. place_by n (i.after ++ i.carried)) (replayed r).live (replayed r).db.rows (replayed r).view rule place → IsRefused i (BadImage rule place)
  sums : (r : Reading) → ReversesAs i r → (AreInRange (recovered r).db.schema (recovered r).db.rows → ⊥) → IsRefused i (BadImage 14 0)
  entries : (r : Reading) → ReversesAs i r → AreInRange (recovered r).db.schema (recovered r).db.rows → Above i.data_limit (data_left i (recovered r)) → IsRefused i (BadImage 15 0)
  view : (r : Reading) → ReversesAs i r → AreInRange (recovered r).db.schema (recovered r).db.rows → Within i.data_limit (data_left i (recovered r))
      → (place : Place) → IsFirstWrong (recovered r) place → IsRefused i (BadView place)

-- no rule fails for what it says
pub record IsSoundAs (i : PlacedImage) (r : Reading) : Type 0 where
  pub reverses : ReversesAs i r
  pub in_range : AreInRange (recovered r).db.schema (recovered r).db.rows
  pub within : Within i.data_limit (data_left i (recovered r))

-- and each view is what it is, evaluated afresh
pub record IsFine (i : PlacedImage) : Type 0 where
  pub reading : Reading
  pub sound : IsSoundAs i reading
  pub fresh_at : (place : Place) → IsFreshAt (recovered reading) place

-- ---- laws

-- an image that is fine is not refused
abbrev pub NeverBothLaw : Type 0
NeverBothLaw = (i : PlacedImage) (why : ImageFault) → IsFine i → IsRefused i why → ⊥

-- an image is refused for one cause, at one place
abbrev pub OneRefusalLaw : Type 0
OneRefusalLaw = (i : PlacedImage) (one other : ImageFault) → IsRefused i one → IsRefused i other → one ≡ other

-- where no rule fails first, none fails
abbrev pub EitherLaw : Type 0
EitherLaw = (i : PlacedImage) → ((rule place : ℕ) → IsRefused i (BadImage rule place) → ⊥) → ((r : Reading) → IsSoundAs i r → ⊥) → ⊥

-- where no rule fails and a view's row differs, one is the first
abbrev pub WrongViewLaw : Type 0
WrongViewLaw = (i : PlacedImage) (r : Reading) → IsSoundAs i r → (place : Place) → (IsFreshAt (recovered r) place → ⊥)
    → ((first : Place) → IsRefused i (BadView first) → ⊥) → ⊥

-- the numbers of these records are small
abbrev pub AreSmall : List Numbered → Type 0
AreSmall [] = Unit {0}
AreSmall (r ∷ rs) = (r.number ≤ most_number) × AreSmall rs

-- so an image that a crash may leave is refused for nothing, wherever its records stand, where their numbers are small. Rule 15 is left
-- out: no limit is set on the bytes of data.
abbrev pub NotRefusedLaw : Type 0
NotRefusedLaw = (p : Pages) → IsOpened p.db p.view → (opening : Opening) (w : World) → Run (opened_world opening p) w → (k : ℕ)
    → (i : PlacedImage) → IsPlaced i (left_by w k) → i.data_limit ≡ None → AreSmall (left_by w k).carried → AreSmall (left_by w k).after → IsFine i
