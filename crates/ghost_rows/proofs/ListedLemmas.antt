-- Ghosts stay among the candidates.
use Rattle.std.specs.Prelude.{◌≡◌, ◌≢◌, ℕ, suc, ◌<◌, pos, List, [], length, Option, Some, None, IsSome}
use mathlib.Core.Path.{refl, sym, ap, subst, ◌∙◌}
use mathlib.Core.Logic.{inl, inr}
use Rattle.std.proofs.Common.{arith}
use Rattle.std.proofs.lemmas.Bool.{true≢false}
use Rattle.std.specs.FinMap.{get, insert, remove}
use Rattle.iv_types.specs.Maps.{Map}
use Rattle.iv_meaning.specs.Escrow.{IsSession}
use Rattle.table_laws.specs.Place.{Place}
use Rattle.ghost_rows.specs.Candidates.{Places, IsAmong}
use Rattle.ghost_rows.specs.Rows.{OpenRow, OpenRows, row_at, ChangesRow, AreSettled, settled_row, settled_at}
use Rattle.ghost_rows.specs.Kept.{Pays, with_pays, StandsFor, RowStands}
use Rattle.ghost_rows.specs.State.{stored_at, StoresOnlyAt}
use Rattle.ghost_rows.specs.Ghosts.{IsGhostRow}
use Rattle.ghost_rows.proofs.TableLemmas.{by_place}
use Rattle.ghost_rows.proofs.CandidateLemmas.{added_here, added_other, forgotten_other}
use Rattle.ghost_rows.proofs.RowLemmas.{settled_stands, committed_fits}
use Rattle.ghost_rows.proofs.StateLemmas.{settled_state}
use Rattle.ghost_rows.proofs.GhostLemmas.{counted, heads, ghost_all, same_ghost, moved_ghost}

-- a place is listed, by what stands at it
abbrev pub Listed : Option OpenRow → Option (List ℕ) → Option (Unit {0}) → Type 0
Listed o stored candidate = IsGhostRow o stored → IsSome candidate

pub same_listed : (o p : Option OpenRow) (stored next : Option (List ℕ)) (before after : Option (Unit {0})) → p ≡ o → next ≡ stored → after ≡ before → Listed o stored before → Listed p next after
same_listed o p stored next before after a b c listed g = subst IsSome (sym c) (listed (subst (λ x. IsGhostRow x stored) a (subst (λ x. IsGhostRow p x) b g)))

pub listed_as : {old new : OpenRows} {was are : Places} → old ≡ new → was ≡ are → (maps : ℕ → Map) (q : Place) → Listed (row_at old q) (stored_at maps q) (get was q) → Listed (row_at new q) (stored_at maps q) (get are q)
listed_as rows candidates maps q listed g = subst (λ (m : Places). IsAmong m q) candidates (listed (subst (λ (l : OpenRows). IsGhostRow (row_at l q) (stored_at maps q)) (sym rows) g))

-- behind a pay, and one that is taken back
pub moved_listed : (place : Place) (old new : OpenRows) (before after : ℕ → Map) (was are : Places) (row next : OpenRow) (many : ℕ) (pays : Pays) → are ≡ was → row_at old place ≡ Some row → ChangesRow place next old new
    → next.committed ≡ row.committed → IsSome (stored_at before place) → StandsFor (row_at old place) (stored_at before place) (suc many) pays → StoresOnlyAt place before after
    → (q : Place) → Listed (row_at old q) (stored_at before q) (get was q) → Listed (row_at new q) (stored_at after q) (get are q)
moved_listed place old new before after was are row next many pays candidates there changes same some kept stores q listed g = by_place q place
    (λ k.
    let here : IsGhostRow (row_at new place) (stored_at after place) = subst (λ x. IsGhostRow (row_at new x) (stored_at after x)) k g in
    let ghost = moved_ghost (row_at old place) (row_at new place) (stored_at before place) (stored_at after place) row next many pays there changes.here same some kept here in
    subst IsSome (ap (λ (m : Places). get m q) (sym candidates)) (listed (subst (λ x. IsGhostRow (row_at old x) (stored_at before x)) (sym k) ghost)))
    (λ n. same_listed (row_at old q) (row_at new q) (stored_at before q) (stored_at after q) (get was q) (get are q) (changes.others q n) (stores q n) (ap (λ (m : Places). get m q) candidates) listed g)

-- where a row stands for what it stood for
pub given_listed : (place : Place) (old new : OpenRows) (maps : ℕ → Map) (was are : Places) (many : ℕ) (pays : Pays) → are ≡ was → ((q : Place) → q ≢ place → row_at new q ≡ row_at old q)
    → StandsFor (row_at old place) (stored_at maps place) (suc many) pays → StandsFor (row_at new place) (stored_at maps place) (suc many) pays
    → (q : Place) → Listed (row_at old q) (stored_at maps q) (get was q) → Listed (row_at new q) (stored_at maps q) (get are q)
given_listed place old new maps was are many pays candidates others kept after q listed g = by_place q place
    (λ k.
    let here : IsGhostRow (row_at new place) (stored_at maps place) = subst (λ x. IsGhostRow (row_at new x) (stored_at maps x)) k g in
    let ghost = same_ghost (row_at old place) (row_at new place) (stored_at maps place) many pays kept after here in
    subst IsSome (ap (λ (m : Places). get m q) (sym candidates)) (listed (subst (λ x. IsGhostRow (row_at old x) (stored_at maps x)) (sym k) ghost)))
    (λ n. same_listed (row_at old q) (row_at new q) (stored_at maps q) (stored_at maps q) (get was q) (get are q) (others q n) refl (ap (λ (m : Places). get m q) candidates) listed g)

-- ---- one place

module _ (place : Place) (rows : OpenRows) (before after : ℕ → Map) (was are : Places) (stores : StoresOnlyAt place before after) where
  -- it is a candidate now
  pub made_listed : are ≡ insert was place tt → (q : Place) → Listed (row_at rows q) (stored_at before q) (get was q) → Listed (row_at rows q) (stored_at after q) (get are q)
  made_listed is q listed g = by_place q place
      (λ k. subst (λ (m : Places). IsAmong m q) (sym is) (subst (λ x. IsAmong (insert was place tt) x) (sym k) (added_here was place)))
      (λ n. same_listed (row_at rows q) (row_at rows q) (stored_at before q) (stored_at after q) (get was q) (get are q) refl (stores q n) (ap (λ (m : Places). get m q) is ∙ added_other was place q n) listed g)

  -- no ghost is there
  pub gone_listed : are ≡ remove was place → (IsGhostRow (row_at rows place) (stored_at after place) → ⊥)
      → (q : Place) → Listed (row_at rows q) (stored_at before q) (get was q) → Listed (row_at rows q) (stored_at after q) (get are q)
  gone_listed is none q listed g = by_place q place
      (λ k. absurd (none (subst (λ x. IsGhostRow (row_at rows x) (stored_at after x)) k g)))
      (λ n. same_listed (row_at rows q) (row_at rows q) (stored_at before q) (stored_at after q) (get was q) (get are q) refl (stores q n) (ap (λ (m : Places). get m q) is ∙ forgotten_other was place q n) listed g)

pub not_stored : (o : Option OpenRow) (stored : Option (List ℕ)) → stored ≡ None → IsGhostRow o stored → ⊥
not_stored o stored none g = nothing (subst IsSome none g.there)
  where
    nothing : IsSome {T = List ℕ} None → ⊥
    nothing e = true≢false (sym e)

-- ---- a session ends

-- a ghost that a session leaves has a committed count of 0 in memory
left_count : (s : ℕ) (row : OpenRow) (new : Option OpenRow) (stored : Option (List ℕ)) (many : ℕ) (pays : Pays) → IsSession s → new ≡ settled_at s (Some row) → StandsFor (Some row) stored (suc many) pays → IsGhostRow new stored
    → (settled_row s row).committed ≡ pos 0
left_count s row new stored many pays session is kept g =
    let long : 0 < length kept.numbers = let l : length kept.numbers ≡ suc many = kept.has.many in omega (arith, l) in
    let after : RowStands (settled_row s row) kept.numbers (with_pays pays s []) = settled_stands s row kept.numbers pays session (committed_fits row kept.numbers pays kept.row long) kept.row in
    let state = settled_state s (Some row) new stored many pays session is kept in
    counted (settled_row s row) kept.numbers (with_pays pays s []) (pos 0) (omega (arith, long)) after
    (ghost_all new stored g many (with_pays pays s []) state ∙ heads stored many many state.numbers kept.numbers state.has kept.has g.there)

pub settled_listed : (s : ℕ) (places : List Place) (old new : OpenRows) (was are : Places) (maps : ℕ → Map) (place : Place) (many : ℕ) (pays : Pays) → IsSession s → AreSettled s places old new was are
    → StandsFor (row_at old place) (stored_at maps place) (suc many) pays → Listed (row_at old place) (stored_at maps place) (get was place) → Listed (row_at new place) (stored_at maps place) (get are place)
settled_listed s places old new was are maps place many pays session settled kept listed g = elim (settled place) [
  | inl done ↦ by_row (row_at old place) refl done.row done.ghost done.other
  | inr same ↦ same_listed (row_at old place) (row_at new place) (stored_at maps place) (stored_at maps place) (get was place) (get are place) same.0.row refl same.0.candidate listed g
]
  where
    by_row : (o : Option OpenRow) → row_at old place ≡ o → row_at new place ≡ settled_at s (row_at old place) → ((row : OpenRow) → row_at old place ≡ Some row → (settled_row s row).committed ≡ pos 0 → IsAmong are place)
        → (row_at old place ≡ None → get are place ≡ get was place) → IsAmong are place
    by_row None e row ghost other =
        same_listed (row_at old place) (row_at new place) (stored_at maps place) (stored_at maps place) (get was place) (get are place) (row ∙ (ap (settled_at s) e ∙ sym e)) refl (other e) listed g
    by_row (Some r) e row ghost other =
        ghost r e (left_count s r (row_at new place) (stored_at maps place) many pays session (row ∙ ap (settled_at s) e) (subst (λ o. StandsFor o (stored_at maps place) (suc many) pays) e kept) g)
