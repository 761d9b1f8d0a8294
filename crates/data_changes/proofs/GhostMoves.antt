-- A store where a ghost is made or removed, and where a session is settled.
use Rattle.std.specs.Prelude.{◌≡◌, ℕ, suc, pos, [], length, Some, None, FitsSigned, Result, Ok, Err, OnOk, OnErr}
use Rattle.std.specs.Option.{option_map}
use Rattle.std.specs.FinMap.{get}
use Rattle.std.specs.Int.{w128}
use mathlib.Core.Path.{refl, sym, ap, subst, ◌∙◌}
use Rattle.std.proofs.Common.{arith}
use Rattle.iv_types.specs.Maps.{Map}
use Rattle.iv_types.specs.Definitions.{Definitions}
use Rattle.table_laws.specs.Place.{Place}
use Rattle.txn_machine.specs.Stored.{zeros}
use Rattle.ghost_rows.specs.Numbers.{numbers_bytes, Fits128}
use Rattle.ghost_rows.specs.Rows.{row_at}
use Rattle.ghost_rows.specs.Kept.{Pays, no_pays, with_pays}
use Rattle.ghost_rows.specs.State.{State, stored_at, AreKept, StoresOnlyAt}
use Rattle.ghost_rows.specs.Ghosts.{StayListed, IsListed}
use Rattle.data_store.specs.Contents.{Contents, pays_on}
use Rattle.data_store.specs.Held.{IsHeld}
use Rattle.data_changes.specs.Effects.{keeping, with_ghost, without_ghost}
use Rattle.data_changes.specs.Ghosts.{HasAbsent, HasGhost}
use Rattle.data_changes.proofs.Frames.{row_changed, unchanged}
use Rattle.data_changes.proofs.Pays.{pays_kept}

zero_fits : FitsSigned w128 (pos 0)
zero_fits = omega arith

zeros_fit : (n : ℕ) → Fits128 (zeros n)
zeros_fit ℕ.zero = tt
zeros_fit (suc n) = (zero_fits, zeros_fit n)

pub made_held : (ds : Definitions) (maps new : ℕ → Map) (state after : State) (place : Place) (sums : ℕ) (c : Contents) → HasAbsent ds maps state place sums c → after.rows ≡ state.rows → StoresOnlyAt place maps new → StayListed state maps after new
    → stored_at new place ≡ Some (numbers_bytes (zeros (suc sums))) → ((pays : Pays) → AreKept state maps place (suc sums) pays → AreKept after new place (suc sums) pays) → IsHeld ds new after (with_ghost c place (suc sums))
made_held ds maps new state after place sums c h rows only listed made keeps =
    row_changed ds maps new state after c place h.of (Some (zeros (suc sums))) c.kept h.held h.is only (λ q _. ap (λ os. row_at os q) rows) listed
    (record { bytes = made; fit = λ numbers e. subst Fits128 (let f : zeros (suc sums) ≡ numbers = cc in f) (zeros_fit (suc sums)) })
    (subst (λ n. AreKept after new place (suc n) (λ s. pays_on place (c.kept s))) (sym h.many)
    (keeps (λ s. pays_on place (c.kept s)) (subst (λ n. AreKept state maps place (suc n) (λ s. pays_on place (c.kept s))) h.many (h.held.pays place.0 h.of h.is place.1))))
    (λ q _ s. refl)

-- no pay is kept on the row
no_pay : (ds : Definitions) (maps : ℕ → Map) (state : State) (place : Place) (c : Contents) → (h : HasGhost ds maps state place c) → (λ s. pays_on place (c.kept s)) ≡ no_pays
no_pay ds maps state place c h = λ i. λ s. h.unpaid s i

pub can_remove : (ds : Definitions) (maps : ℕ → Map) (state : State) (place : Place) (c : Contents) → HasGhost ds maps state place c
    → (many : ℕ) × AreKept state maps place (suc many) no_pays × (stored_at maps place ≡ Some (numbers_bytes (zeros (suc many))))
can_remove ds maps state place c h = (
  length h.of.sums,
  subst (λ ps. AreKept state maps place (suc (length h.of.sums)) ps) (no_pay ds maps state place c h) (h.held.pays place.0 h.of h.is place.1),
  h.held.views place.0 h.of h.is place.1 ∙ ap (option_map numbers_bytes) h.zero,
)

pub removed_held : (ds : Definitions) (maps new : ℕ → Map) (state after : State) (place : Place) (c : Contents) → HasGhost ds maps state place c → after.rows ≡ state.rows → StoresOnlyAt place maps new → StayListed state maps after new
    → stored_at new place ≡ None → ((many : ℕ) → AreKept state maps place (suc many) no_pays → AreKept after new place (suc many) no_pays) → IsHeld ds new after (without_ghost c place)
unfolding can_remove
removed_held ds maps new state after place c h rows only listed gone keeps =
    row_changed ds maps new state after c place h.of None c.kept h.held h.is only (λ q _. ap (λ os. row_at os q) rows) listed
    (record { bytes = gone; fit = λ numbers e. absurd (cc) })
    (subst (λ ps. AreKept after new place (suc (length h.of.sums)) ps) (sym (no_pay ds maps state place c h)) (keeps (length h.of.sums) (can_remove ds maps state place c h).1))
    (λ q _ s. refl)

-- where no ghost is made nothing is changed
pub same_held : (ds : Definitions) (maps new : ℕ → Map) (state after : State) (c : Contents) → (after ≡ state) × ((i : ℕ) → new i ≡ maps i) → StayListed state maps after new → IsHeld ds maps state c → IsHeld ds new after c
same_held ds maps new state after c same listed h = unchanged ds maps new state after c (λ q. (ap (λ (s : State). row_at s.rows q) same.0, ap (λ (m : Map). get m q.1) (same.1 q.0))) listed h

pub settled_held : (ds : Definitions) (maps : ℕ → Map) (state after : State) (session : ℕ) (c : Contents)
    → ((ms : ℕ → Map) (place : Place) (many : ℕ) (pays : Pays) → AreKept state ms place (suc many) pays → AreKept after ms place (suc many) (with_pays pays session []))
    → ((ms : ℕ → Map) (place : Place) (many : ℕ) (pays : Pays) → AreKept state ms place (suc many) pays → IsListed state ms place → IsListed after ms place)
    → IsHeld ds maps state c → IsHeld ds maps after (keeping c session [])
settled_held ds maps state after session c keeps listed h = record {
  objects = h.objects;
  tables = h.tables;
  views = h.views;
  in_range = h.in_range;
  pays = λ n u at group. subst (λ ps. AreKept after maps (n, group) (suc (length u.sums)) ps) (sym (pays_kept (n, group) c.kept session []))
      (keeps maps (n, group) (length u.sums) (λ s. pays_on (n, group) (c.kept s)) (h.pays n u at group));
  ghosts = λ n u at group. listed maps (n, group) (length u.sums) (λ s. pays_on (n, group) (c.kept s)) (h.pays n u at group) (h.ghosts n u at group);
  texts = h.texts;
  unused = h.unused;
}

-- as the call tells it

pub made_as : (ds : Definitions) (maps new : ℕ → Map) (state after : State) (place : Place) (sums : ℕ) (c : Contents) → HasAbsent ds maps state place sums c → {T E : Type 0} (r : Result T E) → after.rows ≡ state.rows → StoresOnlyAt place maps new
    → StayListed state maps after new → OnOk r (stored_at new place ≡ Some (numbers_bytes (zeros (suc sums)))) → OnOk r ((pays : Pays) → AreKept state maps place (suc sums) pays → AreKept after new place (suc sums) pays)
    → OnOk r (IsHeld ds new after (with_ghost c place (suc sums)))
made_as ds maps new state after place sums c h (Ok x) rows only listed made keeps = made_held ds maps new state after place sums c h rows only listed made keeps
made_as ds maps new state after place sums c h (Err y) rows only listed made keeps = tt

pub same_as : (ds : Definitions) (maps new : ℕ → Map) (state after : State) (c : Contents) → {T E : Type 0} (r : Result T E) → OnErr r ((after ≡ state) × ((i : ℕ) → new i ≡ maps i)) → StayListed state maps after new → IsHeld ds maps state c → OnErr r (IsHeld ds new after c)
same_as ds maps new state after c (Ok x) same listed h = tt
same_as ds maps new state after c (Err y) same listed h = same_held ds maps new state after c same listed h
