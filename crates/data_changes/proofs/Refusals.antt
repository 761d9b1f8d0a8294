-- How a pay is answered, by the numbers that are committed.
use Rattle.std.specs.Prelude.{◌≡◌, ◌↔◌, ℕ, ◌<◌, ℤ, pos, false, List, ◌∷◌, length, get_or, slice_get, Some, None, Result, Ok, Err, IfOk, IfErr, OnOk, OnErr}
use Rattle.std.specs.Option.{option_map_or}
use Rattle.std.specs.FinMap.{get}
use mathlib.Core.Path.{sym, ap, subst, ◌∙◌}
use Rattle.std.proofs.Common.{arith}
use Rattle.iv_types.specs.Maps.{Map}
use Rattle.iv_types.specs.Definitions.{Definitions}
use Rattle.iv_types.specs.declared.lock.GroupDelta.{GroupDelta}
use Rattle.iv_types.specs.declared.lock.Prefix.{Prefix}
use Rattle.table_laws.specs.Place.{Place}
use Rattle.iv_meaning.specs.Escrow.{IsAllowed, value, inf, sup}
use Rattle.txn_machine.specs.Deltas.{place_of, worth}
use Rattle.txn_machine.specs.Stored.{stored_number}
use Rattle.escrow_bounds.specs.Column.{Column}
use Rattle.ghost_rows.specs.Numbers.{moved}
use Rattle.ghost_rows.specs.Rows.{OpenRow, row_at}
use Rattle.ghost_rows.specs.Kept.{Pays, account, width, with_pays, ArePrefixes, IsAllowedIn, IsRefusedAt, committed_at, RowStands}
use Rattle.ghost_rows.specs.State.{State, stored_at, AreKept, IsRefusal, Stores, OnlyAt, StoresOnlyAt}
use Rattle.ghost_rows.specs.Ghosts.{StayListed}
use Rattle.ghost_rows.specs.declared.view_rows.PayRefusal.{PayRefusal}
use Rattle.ghost_rows.specs.declared.view_rows.PayRefusal.TheVariants.{Absent, Escrow}
use Rattle.ghost_rows.proofs.StateLemmas.{row_of}
use Rattle.ghost_rows.proofs.GhostLemmas.{column_at, same_value}
use Rattle.data_store.specs.Contents.{Contents, pays_on}
use Rattle.data_store.specs.Held.{IsHeld}
use Rattle.data_changes.specs.Effects.{with_pay}
use Rattle.data_changes.specs.Paying.{HasFor, AreCommittedAt, IsRefusedWith}
use Rattle.data_changes.proofs.Frames.{unchanged}
use Rattle.data_changes.proofs.Pays.{kept_here, numbers_here, row_here, absent_here, paid_held}

-- ---- what is committed

committed_column : (row : OpenRow) (at : ℕ) (col : Column) → slice_get row.columns at ≡ Some col → committed_at row at ≡ col.committed
committed_column row at col got = ap (λ o. option_map_or (λ (x : Column). x.committed) o (pos 0)) got

module _ (ds : Definitions) (maps : ℕ → Map) (state : State) (c : Contents) (d : GroupDelta) (h : HasFor ds maps state d c) (row : OpenRow) (there : row_at state.rows (place_of d) ≡ Some row) (some : stored_at maps (place_of d) ≡ None → ⊥)
    (committed : ℕ → ℤ) (are : AreCommittedAt c d committed) where
  abbrev the_pays : Pays
  the_pays = λ s. pays_on (place_of d) (c.kept s)

  -- the row in memory has the numbers that are committed
  committed_same : (at : ℕ) → at < width d → committed_at row at ≡ committed at
  committed_same at lt =
      let k = kept_here ds maps state c d h in
      let stands : RowStands row k.numbers the_pays = row_of (row_at state.rows (place_of d)) row k.numbers the_pays there k.row in
      let many : length k.numbers ≡ width d = k.has.many in
      let columns : length row.columns ≡ length k.numbers = stands.many in
      let col = column_at row.columns at (omega (arith, lt, many, columns)) in
      let here = row_here ds maps state c d h some in
      let stored : stored_number c.view (place_of d) at ≡ get_or k.numbers at (pos 0) =
      ap (λ o. option_map_or (λ numbers. get_or numbers at (pos 0)) o (pos 0)) here.1 ∙ ap (λ ns. get_or ns at (pos 0)) (sym (numbers_here ds maps state c d h k here.0 here.1)) in
      same_value at (committed_at row at) (committed at) the_pays (get_or k.numbers at (pos 0))
      (ap (λ z. value (account z at the_pays)) (committed_column row at col.0 col.1) ∙ (stands.columns at col.0 col.1).value_is)
      (are at lt ∙ stored)

  pub allowed_as : (session : ℕ) → IsAllowedIn (committed_at row) the_pays session d (width d) → IsAllowedIn committed the_pays session d (width d)
  allowed_as session allowed = λ at lt. subst (λ z. IsAllowed (account z at the_pays) session (worth at d)) (committed_same at lt) (allowed at lt)

  pub refused_as : (session at : ℕ) (low high : ℤ) → IsRefusedAt (committed_at row) the_pays session d at low high → IsRefusedAt committed the_pays session d at low high
  refused_as session at low high r = record {
    within = r.within;
    refused = λ a. r.refused (subst (λ z. IsAllowed (account z at the_pays) session (worth at d)) (sym (committed_same at r.within)) a);
    earlier = λ i lt. subst (λ z. IsAllowed (account z i the_pays) session (worth i d)) (committed_same i (let w : at < width d = r.within in omega (arith, lt, w))) (r.earlier i lt);
    inf_is = r.inf_is ∙ ap (λ z. inf (account z at the_pays)) (committed_same at r.within);
    sup_is = r.sup_is ∙ ap (λ z. sup (account z at the_pays)) (committed_same at r.within);
  }

-- ---- the answer

module _ (ds : Definitions) (maps : ℕ → Map) (state : State) (c : Contents) (d : GroupDelta) (h : HasFor ds maps state d c) (session : ℕ) where
  abbrev the_kept : Pays
  the_kept = λ s. pays_on (place_of d) (c.kept s)

  not_absent : (r : Result (List Prefix) PayRefusal) (x : Result (List Prefix) PayRefusal) → r ≡ x → (x ≡ Err Absent → ⊥) → ((r ≡ Err Absent) ↔ (stored_at maps (place_of d) ≡ None)) → stored_at maps (place_of d) ≡ None → ⊥
  not_absent r x is other absent none = other (sym is ∙ absent.1 none)

  pub absent_as : (r : Result (List Prefix) PayRefusal) → ((r ≡ Err Absent) ↔ (stored_at maps (place_of d) ≡ None)) → (r ≡ Err Absent) ↔ (get c.view (place_of d) ≡ None)
  absent_as r absent = let both = absent_here ds maps state c d h in (λ e. both.0 (absent.0 e), λ e. absent.1 (both.1 e))

  pub paid_as : (r : Result (List Prefix) PayRefusal) (new : ℕ → Map) (after : State) → ((r ≡ Err Absent) ↔ (stored_at maps (place_of d) ≡ None))
      → OnOk r ((pays : Pays) → AreKept state maps (place_of d) (width d) pays → AreKept after new (place_of d) (width d) (with_pays pays session (d ∷ pays session)))
      → OnOk r ((pays : Pays) (k : AreKept state maps (place_of d) (width d) pays) → Stores new (place_of d) (moved false 0 k.numbers d))
      → OnlyAt (place_of d) state after → StoresOnlyAt (place_of d) maps new → StayListed state maps after new
      → OnOk r (IsHeld ds new after (with_pay c session d))
  paid_as (Err why) new after absent keeps value others only listed = tt
  paid_as (Ok before) new after absent keeps value others only listed =
      paid_held ds maps state c d h new after session (λ none. let e : Ok before ≡ Err Absent = absent.1 none in absurd (cc)) others only listed (value the_kept) (keeps the_kept (kept_here ds maps state c d h))

  pub before_as : (r : Result (List Prefix) PayRefusal) → IfOk r (λ before. (pays : Pays) → AreKept state maps (place_of d) (width d) pays → ArePrefixes before (width d) (pays session))
      → IfOk r (λ before. ArePrefixes before (width d) (pays_on (place_of d) (c.kept session)))
  before_as (Err why) told = tt
  before_as (Ok before) told = told the_kept (kept_here ds maps state c d h)

  module _ (row : OpenRow) (there : row_at state.rows (place_of d) ≡ Some row) (committed : ℕ → ℤ) (are : AreCommittedAt c d committed) where
    pub allowed_told : (r : Result (List Prefix) PayRefusal) → ((r ≡ Err Absent) ↔ (stored_at maps (place_of d) ≡ None))
        → OnOk r ((pays : Pays) (one : OpenRow) → AreKept state maps (place_of d) (width d) pays → row_at state.rows (place_of d) ≡ Some one → IsAllowedIn (committed_at one) pays session d (width d))
        → OnOk r (IsAllowedIn committed the_kept session d (width d))
    allowed_told (Err why) absent told = tt
    allowed_told (Ok before) absent told = allowed_as ds maps state c d h row there (λ none. let e : Ok before ≡ Err Absent = absent.1 none in absurd (cc)) committed are session (told the_kept row (kept_here ds maps state c d h) there)

    pub refused_told : (r : Result (List Prefix) PayRefusal) → ((r ≡ Err Absent) ↔ (stored_at maps (place_of d) ≡ None)) → IfErr r (IsRefusal state maps session d) → IfErr r (IsRefusedWith c session d committed)
    refused_told (Ok before) absent told = tt
    refused_told (Err Absent) absent told = tt
    refused_told (Err (Escrow at low high)) absent told =
        refused_as ds maps state c d h row there (λ none. let e : Err (Escrow at low high) ≡ Err Absent = absent.1 none in absurd (cc)) committed are session at low high (told the_kept row (kept_here ds maps state c d h) there)

  -- where it is refused nothing is changed
  pub kept_as : (r : Result (List Prefix) PayRefusal) (new : ℕ → Map) (after : State) → OnErr r ((q : Place) → (row_at after.rows q ≡ row_at state.rows q) × (stored_at new q ≡ stored_at maps q))
      → StayListed state maps after new → OnErr r (IsHeld ds new after c)
  kept_as (Ok before) new after same listed = tt
  kept_as (Err why) new after same listed = unchanged ds maps new state after c same listed h.held
