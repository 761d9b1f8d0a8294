-- Records that are scanned in order stand before those that were placed so far.
use Rattle.std.proofs.Common.{◌≡◌, ℕ, List, [], ◌∷◌, Option, refl, sym, subst, inl}
use mathlib.Core.List.{reverse, reverse_aux}
use Rattle.log_records.specs.declared.record.Scanned.{Scanned}
use Rattle.iv_meaning.specs.Schema.{Schema}
use Rattle.txn_log.specs.Replay.{Deed, Event, Pages}
use Rattle.txn_log.specs.Appended.{Numbered, AllSay}
use Rattle.txn_log.specs.Refused.{Placed, CarriedBreaks, RecordBreaks, SaidAs}
use Rattle.log_disk.specs.Placed.{AreCarriedAt, AreFurtherAt, known, with_known}
use Rattle.log_replay.specs.Through.{AreOnDevice, IsCarriedAt, IsFurtherAt, PlacedOn, CarryTo, GoTo}

-- ---- as they were scanned

-- of lists of placed and of scanned records that both have the latest first
module _ (Is : List Placed → Scanned → Placed → Type 0) (Are : List Placed → List Scanned → Type 0)
    (latest : (rs : List Placed) (s : Scanned) (ss : List Scanned) → Are rs (s ∷ ss) → (r : Placed) × (qs : List Placed) × (rs ≡ r ∷ qs) × Is qs s r × Are qs ss)
    (none : (rs : List Placed) → Are rs [] → rs ≡ []) where
  go : (ss before : List Scanned) (all : List Placed) → Are all (reverse_aux ss before) → (rs : List Placed) × Are rs before × PlacedOn Is rs ss all
  go [] before all h = (all, h, refl)
  go (s ∷ ss) before all h =
      let rest = go ss (s ∷ before) all h in
      let last = latest rest.0 s before rest.1 in
      (last.1, last.4, (last.0, last.3, subst (λ (rs : List Placed). PlacedOn Is rs ss all) last.2 rest.2))

  placed_on : (ss : List Scanned) (all : List Placed) → Are all (reverse ss) → PlacedOn Is [] ss all
  placed_on ss all h = let those = go ss [] all h in subst (λ (rs : List Placed). PlacedOn Is rs ss all) (none those.0 those.1) those.2

-- carried records at their places, which are on a device, and further ones
abbrev CarriedThere : ℕ → Schema → List Placed → List Scanned → Type 0
CarriedThere at objects rs ss = AreCarriedAt at objects rs ss × AreOnDevice rs

abbrev FurtherThere : ℕ → Schema → List Placed → List Scanned → Type 0
FurtherThere at objects rs ss = AreFurtherAt at objects rs ss × AreOnDevice rs

pub carried_to : (at : ℕ) (objects : Schema) (ss : List Scanned) (all : List Placed) → AreCarriedAt at objects all (reverse ss) → AreOnDevice all → CarryTo at objects [] ss all
carried_to at objects ss all h on = placed_on (λ (rs : List Placed). IsCarriedAt at objects) (CarriedThere at objects) latest none ss all (h, on)
  where
    latest : (rs : List Placed) (s : Scanned) (ss : List Scanned) → CarriedThere at objects rs (s ∷ ss) → (r : Placed) × (qs : List Placed) × (rs ≡ r ∷ qs) × IsCarriedAt at objects s r × CarriedThere at objects qs ss
    latest [] s ss a = absurd a.0
    latest (r ∷ rs) s ss a = (r, rs, refl, record { place = a.0.0; low = a.1.0; stands_for = a.0.1 }, (a.0.2, a.1.1))

    none : (rs : List Placed) → CarriedThere at objects rs [] → rs ≡ []
    none [] a = refl
    none (r ∷ rs) a = absurd a.0

pub further_to : (at : ℕ) (objects : Schema) (ss : List Scanned) (all : List Placed) → AreFurtherAt at objects all (reverse ss) → AreOnDevice all → GoTo at objects [] ss all
further_to at objects ss all h on = placed_on (IsFurtherAt at objects) (FurtherThere at objects) latest none ss all (h, on)
  where
    latest : (rs : List Placed) (s : Scanned) (ss : List Scanned) → FurtherThere at objects rs (s ∷ ss) → (r : Placed) × (qs : List Placed) × (rs ≡ r ∷ qs) × IsFurtherAt at objects qs s r × FurtherThere at objects qs ss
    latest [] s ss a = absurd a.0
    latest (r ∷ rs) s ss a = (r, rs, refl, record { place = a.0.0; low = a.1.0; stands_for = a.0.1 }, (a.0.2, a.1.1))

    none : (rs : List Placed) → FurtherThere at objects rs [] → rs ≡ []
    none [] a = refl
    none (r ∷ rs) a = absurd a.0

-- ---- the first that fails is the first of all

pub breaks_on : (Is : List Placed → Scanned → Placed → Type 0) (Breaks : List Placed → Type 0) → ((r : Placed) (rs : List Placed) → Breaks rs → Breaks (r ∷ rs))
    → (ss : List Scanned) (rs all : List Placed) → PlacedOn Is rs ss all → Breaks rs → Breaks all
breaks_on Is Breaks more [] rs all on b = subst Breaks (sym on) b
breaks_on Is Breaks more (s ∷ ss) rs all on b = breaks_on Is Breaks more ss (on.0 ∷ rs) all on.2 (more on.0 rs b)

pub carried_breaks : (at : ℕ) (objects : Schema) (ss : List Scanned) (rs all : List Placed) (place : ℕ) → CarryTo at objects rs ss all → CarriedBreaks objects rs place → CarriedBreaks objects all place
carried_breaks at objects ss rs all place on b = breaks_on (λ (qs : List Placed). IsCarriedAt at objects) (λ (qs : List Placed). CarriedBreaks objects qs place) (λ r qs b. inl b) ss rs all on b

pub further_breaks : (at : ℕ) (p : Pages) (first : List Placed) (ds : List Deed) (ss : List Scanned) (rs all : List Placed) (rule place : ℕ) → GoTo at p.db.schema rs ss all
    → RecordBreaks p first ds rs rule place → RecordBreaks p first ds all rule place
further_breaks at p first ds ss rs all rule place on b =
    breaks_on (IsFurtherAt at p.db.schema) (λ (qs : List Placed). RecordBreaks p first ds qs rule place) (λ r qs b. inl b) ss rs all on b

-- ---- what passed is known

pub said_known : (p : Pages) (first : List Placed) (ds : List Deed) (rs : List Placed) (es : List Event) → SaidAs p first ds rs es → AllSay p.db.schema (known rs) es
said_known p first ds [] [] h = tt
said_known p first ds [] (e ∷ es) h = absurd h
said_known p first ds (r ∷ rs) [] h = absurd h
said_known p first ds (r ∷ rs) (e ∷ es) h =
    subst (λ (o : Option Numbered). AllSay p.db.schema (with_known o (known rs)) (e ∷ es)) (sym h.0.1) (h.0.2, said_known p first ds rs es h.1)
