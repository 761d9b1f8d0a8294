-- What a transaction keeps of the data, through each of its steps.
use Rattle.std.specs.Prelude.{◌≡◌, ℕ, zero, suc, ◌+◌, ◌≤◌, Bool, true, false, List, [], ◌∷◌, map, drop, Option, Some, None, refl}
use Rattle.std.specs.List.{sum}
use Rattle.std.specs.Option.{option_map_or, unwrap_or}
use Rattle.std.specs.FinMap.{get}
use mathlib.Core.Path.{ap, ◌∙◌}
use Rattle.std.proofs.Common.{arith}
use Rattle.iv_types.specs.declared.lock.GroupDelta.{GroupDelta}
use Rattle.iv_meaning.specs.Database.{Row, Rows}
use Rattle.iv_meaning.specs.Schema.{Schema}
use Rattle.table_laws.specs.Place.{Place}
use Rattle.txn_machine.specs.Deltas.{RowChange}
use Rattle.txn_machine.specs.Keeping.{KeptStep, Put, Pay, Note, Open, idle}
use Rattle.txn_machine.specs.Log.{row_entries, perhaps_entries, growth_back, delta_entry, unghosted, still_owed, room_kept}
use Rattle.txn_machine.proofs.LogSums.{sum_first}
use Rattle.txn_log.specs.Room.{rows_bytes}
use Rattle.txn_log.proofs.Rooming.{wrote_total}
use Rattle.data_room.specs.Reserved.{first_bytes}

-- what deltas keep of which the first had its Ghost, or had none
abbrev owed_bytes : Bool → List GroupDelta → ℕ
owed_bytes ghosted ds = sum (map delta_entry (unghosted ghosted ds))

first_of : (ghosted : Bool) (d : GroupDelta) (ds : List GroupDelta) → owed_bytes false ds + first_bytes ghosted d ≡ owed_bytes ghosted (d ∷ ds)
first_of true d ds = omega arith
first_of false d ds = let one : sum (map delta_entry (d ∷ ds)) ≡ delta_entry d + sum (map delta_entry ds) = sum_first (delta_entry d) (map delta_entry ds) in omega (arith, one)

ghost_of : (ghosted : Bool) (d : GroupDelta) (ds : List GroupDelta) → owed_bytes true (d ∷ ds) + first_bytes ghosted d ≡ owed_bytes ghosted (d ∷ ds)
ghost_of true d ds = omega arith
ghost_of false d ds = let one : sum (map delta_entry (d ∷ ds)) ≡ delta_entry d + sum (map delta_entry ds) = sum_first (delta_entry d) (map delta_entry ds) in omega (arith, one)

none_owed : (ghosted : Bool) (back : ℕ) → owed_bytes ghosted (drop back []) ≡ 0
none_owed true zero = refl
none_owed true (suc back) = refl
none_owed false zero = refl
none_owed false (suc back) = refl

module _ (objects : Schema) (t : Open) (ghosted : Bool) where
  -- it owes this delta before these, and none is coming back
  module _ (d : GroupDelta) (ds : List GroupDelta) (owed : t.owed ≡ d ∷ ds) (back : t.back ≡ 0) where
    now_owed : owed_bytes ghosted (still_owed t) ≡ owed_bytes ghosted (d ∷ ds)
    now_owed = ap (owed_bytes ghosted) (λ x. drop (back x) (owed x))

    -- the delta is paid
    pub paid_room : room_kept objects (Some (record t { kept = Pay d ∷ t.kept; owed = ds })) false + first_bytes ghosted d ≡ room_kept objects (Some t) ghosted
    paid_room =
        let was = now_owed in
        let now : owed_bytes false (drop t.back ds) ≡ owed_bytes false ds = ap (λ n. owed_bytes false (drop n ds)) back in
        let first = first_of ghosted d ds in
        omega (arith, was, now, first)

    -- it has its Ghost
    pub ghosted_room : room_kept objects (Some t) true + first_bytes ghosted d ≡ room_kept objects (Some t) ghosted
    ghosted_room =
        let was = now_owed in
        let now : owed_bytes true (still_owed t) ≡ owed_bytes true (d ∷ ds) = ap (owed_bytes true) (λ x. drop (back x) (owed x)) in
        let first = ghost_of ghosted d ds in
        omega (arith, was, now, first)

    -- its row is part of what is kept
    pub first_least : first_bytes ghosted d ≤ room_kept objects (Some t) ghosted
    first_least = let all = ghosted_room in omega (arith, all)

  -- a change is made that owes these, where nothing was owed
  pub written_room : (c : RowChange) (ds : List GroupDelta) → t.owed ≡ []
      → room_kept objects (Some (record t { kept = Put c ds ∷ t.kept; owed = ds; back = 0 })) false ≡ room_kept objects (Some t) ghosted + (growth_back objects c + sum (map delta_entry ds))
  written_room c ds none =
      let was : owed_bytes ghosted (still_owed t) ≡ 0 = ap (λ l. owed_bytes ghosted (drop t.back l)) none ∙ none_owed ghosted t.back in
      omega (arith, was)

  -- it is taken back
  pub unput_room : (c : RowChange) (ds : List GroupDelta) (ks : List KeptStep) (notes : List Note) → t.kept ≡ Put c ds ∷ ks
      → room_kept objects (Some (record t { kept = ks; owed = []; back = 0; notes = notes })) false + (growth_back objects c + sum (map delta_entry (unghosted ghosted (still_owed t)))) ≡ room_kept objects (Some t) ghosted
  unput_room c ds ks notes is =
      let was : room_kept objects (Some t) ghosted ≡ room_kept objects (Some (record t { kept = Put c ds ∷ ks })) ghosted = ap (λ (kept : List KeptStep). room_kept objects (Some (record t { kept = kept })) ghosted) is in
      omega (arith, was)

  -- a pay is taken back, and its delta is coming back
  pub unpaid_room : (d : GroupDelta) (ks : List KeptStep) → t.kept ≡ Pay d ∷ ks → room_kept objects (Some (record t { kept = ks; owed = d ∷ t.owed; back = t.back + 1 })) ghosted ≡ room_kept objects (Some t) ghosted
  unpaid_room d ks is =
      let was : room_kept objects (Some t) ghosted ≡ room_kept objects (Some (record t { kept = Pay d ∷ ks })) ghosted = ap (λ (kept : List KeptStep). room_kept objects (Some (record t { kept = kept })) ghosted) is in
      let same : owed_bytes ghosted (drop (t.back + 1) (d ∷ t.owed)) ≡ owed_bytes ghosted (drop t.back t.owed) = ap (λ n. owed_bytes ghosted (drop n (d ∷ t.owed))) (one_more t.back) in
      omega (arith, was, same)
    where
      one_more : (n : ℕ) → n + 1 ≡ suc n
      one_more n = omega arith

-- of a session's transaction, or of one that keeps nothing where there is none
pub now_room : (objects : Schema) (o : Option Open) (ghosted : Bool) → room_kept objects (Some (unwrap_or o idle)) ghosted ≡ room_kept objects o ghosted
now_room objects None true = refl
now_room objects None false = refl
now_room objects (Some t) ghosted = refl

-- the entries of the row under a key are part of those of all rows
pub row_least : (objects : Schema) (rows : Rows) (p : Place) (row : Option Row) → get rows p ≡ row → perhaps_entries objects p row ≤ rows_bytes objects rows
row_least objects rows p row is =
    let moved = wrote_total (row_entries objects) rows p None in
    let there = ap (λ (o : Option Row). option_map_or (row_entries objects p) o 0) is in
    omega (arith, moved, there)
