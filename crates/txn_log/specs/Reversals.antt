-- No clause of `run` rests on this module: it serves contracts between crates.
--
-- At which record a reversal that fails is told.
use Rattle.std.specs.Prelude.{◌≡◌, ◌⊎◌, ◌↔◌, ℕ, List, ◌∷◌, ◌++◌, Some}
use Rattle.std.specs.List.{Contains}
use Rattle.iv_meaning.specs.Database.{Rows}
use Rattle.txn_machine.specs.Stored.{ViewRows}
use Rattle.txn_log.specs.Replay.{What, Deed, Event, Undo, Pages, Reading, own, replay, on_pages, replayed, all_rows_back, all_view_back}
use Rattle.txn_log.specs.Fitting.{BackFits, AllBack}
use Rattle.txn_log.specs.Appended.{written}
use Rattle.txn_log.specs.Refused.{Placed, PlacedImage, Anyhow, BackAnyhow, Untried, place_by, fails_at, CarriedAs, SaidAs, Passes, PassesAs, BackBreaks}

-- this record is among these, at this place
pub record IsRecordAt (rs : List Placed) (x : Deed) (place : ℕ) : Type 0 where
  pub at : Placed
  pub among : Contains rs at
  pub says : at.entry ≡ Some (written x)
  pub place_is : place ≡ at.place

-- by rule 13 it can't be reversed, with any numbers; by rule 14 it can, but not with numbers in range
abbrev pub BreaksBack : ℕ → Rows → ViewRows → What → Type 0
BreaksBack rule rows stored w = ((rule ≡ 13) × (BackAnyhow rows stored w → ⊥)) ⊎ ((rule ≡ 14) × BackAnyhow rows stored w × (BackFits rows stored w → ⊥))

-- the first of what is left, the latest first, whose reversal fails, where all before it are reversed
pub record FirstBreaks (live : List Deed) (rows : Rows) (stored : ViewRows) (rule : ℕ) (x : Deed) : Type 0 where
  pub reversed : List Deed
  pub others : List Deed
  pub split : live ≡ reversed ++ x ∷ others
  pub back : AllBack reversed rows stored
  pub breaks : BreaksBack rule (all_rows_back reversed rows) (all_view_back reversed stored) x.what

-- ---- laws

-- a last reversal is told just where that record stands
abbrev pub ReversalLaw : Type 0
ReversalLaw = (i : PlacedImage) (r : Reading) → PassesAs i r → (rule place : ℕ)
    → BackBreaks (λ n. place_by n (i.after ++ i.carried)) (replayed r).live (replayed r).db.rows (replayed r).view rule place
    ↔ ((x : Deed) × FirstBreaks (replayed r).live (replayed r).db.rows (replayed r).view rule x × IsRecordAt (i.after ++ i.carried) x place)

-- and an Undo that can't reverse is told where the record stands that it names, which is the latest that its transaction keeps
abbrev pub UndoLaw : Type 0
UndoLaw = (p : Pages) (first : List Placed) (ds : List Deed) (rs : List Placed) (es : List Event) → CarriedAs p.db.schema first ds → SaidAs p first ds rs es
    → (r : Placed) (n t m : ℕ) → Passes p first ds Anyhow Untried es r (Undo n t m)
    → (x : Deed) × (earlier : List Deed) × (own t (replay (on_pages p ds) es).live ≡ x ∷ earlier) × (x.number ≡ m) × IsRecordAt (rs ++ first) x (fails_at (rs ++ first) r (Undo n t m))
