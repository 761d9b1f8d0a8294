-- A store with other numbers in a row of a view.
use Rattle.std.specs.Prelude.{◌≡◌, ℕ, suc, ℤ, pos, List, [], ◌∷◌, length, get_or, Option, Some, None, FitsSigned}
use Rattle.std.specs.List.{AllByRecursion}
use Rattle.std.specs.Int.{w128}
use Rattle.std.specs.FinMap.{get-empty}
use mathlib.Core.Path.{refl, sym, ap, subst, ◌∙◌}
use Rattle.std.proofs.Common.{arith}
use Rattle.iv_types.specs.Maps.{Map}
use Rattle.iv_types.specs.Definitions.{Definitions}
use Rattle.iv_types.specs.Encoding.{IsHuge}
use Rattle.table_laws.specs.Place.{Place, place_cmp}
use Rattle.table_laws.specs.Table.{write}
use Rattle.iv_meaning.specs.Schema as schema
use Rattle.iv_meaning.specs.Schema.{ViewTree}
use Rattle.ghost_rows.specs.Numbers.{numbers_bytes, Fits128}
use Rattle.ghost_rows.specs.Rows.{OpenRow, OpenRows, row_at}
use Rattle.ghost_rows.specs.Kept.{StandsFor}
use Rattle.ghost_rows.specs.State.{State, stored_at, AreKept, StoresOnlyAt}
use Rattle.ghost_rows.specs.Ghosts.{IsGhostRow, IsCandidate, StayListed}
use Rattle.ghost_rows.proofs.TableLemmas.{by_place}
use Rattle.ghost_rows.proofs.StateLemmas.{has_bytes}
use Rattle.ghost_rows.proofs.RowLemmas.{huge_fit}
use Rattle.ghost_rows.proofs.NumberSteps.{numbers_same}
use Rattle.ghost_rows.proofs.GhostLemmas.{counted_closed}
use Rattle.data_store.specs.Contents.{Contents, pays_on}
use Rattle.data_store.specs.Held.{IsHeld}
use Rattle.data_changes.proofs.Frames.{row_changed}
use Rattle.group_replay.specs.Closed.{IsClosed, with_view}
use Rattle.group_replay.specs.Adding.{CanReplace}

-- a ghost on which nothing is kept counts no row
ghost_count : (o : Option OpenRow) (stored : Option (List ℕ)) (count : ℤ) (sums : List ℤ) → o ≡ None → stored ≡ Some (numbers_bytes (count ∷ sums)) → Fits128 (count ∷ sums) → IsGhostRow o stored → count ≡ pos 0
ghost_count o stored count sums closed is fits g =
    let bytes = has_bytes stored (numbers_bytes (count ∷ sums)) (suc g.many) g.kept.numbers (sym is) g.kept.has in
    let same : count ∷ sums ≡ g.kept.numbers = numbers_same (count ∷ sums) g.kept.numbers fits (huge_fit g.kept.numbers g.kept.has.huge) bytes in
    ap (λ ns. get_or ns 0 (pos 0)) same ∙ counted_closed g.pays (pos 0) (get_or g.kept.numbers 0 (pos 0)) (g.kept.closed closed) g.count

-- numbers were put at the place of a view's row, which is not open in memory, and on which nothing is kept; the place is listed
-- where they count no row
module _ (ds : Definitions) (maps new : ℕ → Map) (state after : State) (place : Place) (numbers : List ℤ) (c : Contents) where
  pub numbers_held : IsHeld ds maps state c → (v : ViewTree) → schema.numbered c.objects place.0 ≡ Some (schema.view v) → length numbers ≡ suc (length v.sums) → AllByRecursion IsHuge numbers
      → ((session : ℕ) → c.kept session ≡ []) → row_at state.rows place ≡ None
      → stored_at new place ≡ Some (numbers_bytes numbers) → StoresOnlyAt place maps new → after.rows ≡ state.rows → StayListed state maps after maps
      → ((count : ℤ) (sums : List ℤ) → FitsSigned w128 count → numbers_bytes numbers ≡ numbers_bytes (count ∷ sums) → count ≡ pos 0 → IsCandidate after place)
      → IsHeld ds new after (with_view c (write c.view place (Some numbers)))
  numbers_held held v view_is width in_range unkept closed there only rows stay ghost =
      row_changed ds maps new state after c place v (Some numbers) c.kept held view_is only (λ q other. ap (λ (os : OpenRows). row_at os q) rows) listed
      (record { bytes = there; fit = λ ns e. subst Fits128 (let same : numbers ≡ ns = cc in same) (huge_fit numbers in_range) })
      kept (λ q other s. refl)
    where
      open_now : row_at after.rows place ≡ None
      open_now = ap (λ (os : OpenRows). row_at os place) rows ∙ closed

      is_candidate : (ns : List ℤ) → numbers ≡ ns → length ns ≡ suc (length v.sums) → IsGhostRow (row_at after.rows place) (stored_at new place) → IsCandidate after place
      is_candidate [] same long g = absurd (omega (arith, long))
      is_candidate (count ∷ sums) same long g =
          let fits : Fits128 (count ∷ sums) = subst Fits128 same (huge_fit numbers in_range) in
          ghost count sums fits.0 (ap numbers_bytes same)
          (ghost_count (row_at after.rows place) (stored_at new place) count sums open_now (there ∙ ap (λ ns. Some (numbers_bytes ns)) same) fits g)

      listed : StayListed state maps after new
      listed q was g = by_place q place
          (λ same. subst (λ (k : Place). IsCandidate after k) (sym same) (is_candidate numbers refl width (subst (λ (k : Place). IsGhostRow (row_at after.rows k) (stored_at new k)) same g)))
          (λ other. stay q was (subst (λ o. IsGhostRow (row_at after.rows q) o) (only q other) g))

      none : (s : ℕ) → pays_on place (c.kept s) ≡ []
      none s = ap (pays_on place) (unkept s)

      kept : AreKept after new place (suc (length v.sums)) (λ s. pays_on place (c.kept s))
      kept =
          subst (λ o. StandsFor o (stored_at new place) (suc (length v.sums)) (λ s. pays_on place (c.kept s))) (sym open_now)
          (subst (λ o. StandsFor None o (suc (length v.sums)) (λ s. pays_on place (c.kept s))) (sym there) (record {
            numbers = numbers;
            has = record { many = width; huge = in_range; bytes = refl; zeros = λ e. absurd (let no : Some (numbers_bytes numbers) ≡ None = e in cc) };
            row = tt;
            closed = λ e s. none s;
            absent = λ e s. none s;
          }))

  -- in place of a row, while none is open
  pub replaced_closed : CanReplace ds maps state place numbers c → stored_at new place ≡ Some (numbers_bytes numbers) → StoresOnlyAt place maps new → after.rows ≡ state.rows → StayListed state maps after maps
      → ((count : ℤ) (sums : List ℤ) → FitsSigned w128 count → numbers_bytes numbers ≡ numbers_bytes (count ∷ sums) → count ≡ pos 0 → IsCandidate after place)
      → IsClosed ds new after (with_view c (write c.view place (Some numbers)))
  replaced_closed n there only rows stay ghost = record {
    held = numbers_held n.closed.held n.group.of (subst (λ os. schema.numbered os place.0 ≡ Some (schema.view n.group.of)) n.closed.held.objects n.group.view_is) n.width n.in_range n.closed.unkept
        (ap (λ (os : OpenRows). row_at os place) n.closed.closed ∙ get-empty place_cmp place) there only rows stay ghost;
    closed = rows ∙ n.closed.closed;
    unkept = n.closed.unkept;
  }
