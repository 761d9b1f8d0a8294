use Rattle.std.proofs.Common.{◌≡◌, ℕ, [], ◌∷◌, List, Some, None, sym, ap, subst, ◌∙◌}
use Rattle.std.specs.Prelude.{◌⊎◌, ◌↔◌, IsTrue}
use Rattle.std.specs.FinMap.{get, insert, entries}
use Rattle.table_laws.specs.Place.{Place}
use Rattle.iv_types.specs.declared.lock.Want.{Want}
use Rattle.lock_manager.specs.declared.modes.Modes.{Modes}
use Rattle.lock_manager.specs.Points.{HasAt, has_mode, with_mode, no_modes, points_of}
use Rattle.lock_manager.specs.Table.{HasGained}
use Rattle.lock_manager.proofs.HeldKeys.{by_place, gained_point, more_held, first_held}
use Rattle.lock_manager.proofs.points.add_point.Goals as goal

pub returns-in-Some-clause-gained : goal.returns-in-Some-clause-gained
returns-in-Some-clause-gained c =
    let m = c.args.points.now.entries in
    let n = c.replace.new.self.entries in
    let lock = c.args.lock in
    let interval = lock.interval in
    let k : Place = (lock.index, interval.low) in
    let got : get m k ≡ Some c.in-Some.modes = ap (λ (low : List ℕ). get m (lock.index, low)) (sym c.as_slice.ensures) ∙ (sym c.get.ensures ∙ (sym c.copied-held.ensures ∙ c.in-Some.is)) in
    let is : n ≡ insert m k c.with.result = c.replace.ensures.entries ∙ ap (λ (low : List ℕ). insert m (lock.index, low) c.with.result) c.as_slice-in-Some.ensures in
    subst (λ (l : Want). HasGained (points_of (entries m)) (l ∷ []) (points_of (entries n))) (by_place lock c.requires.point)
    (gained_point m n k lock.mode c.with.result is (λ x. subst (λ (v : Modes). IsTrue (has_mode v x) ↔ (HasAt (get m k) x ⊎ (x ≡ lock.mode))) (sym c.with.ensures) (more_held (get m k) c.in-Some.modes lock.mode x got)))

pub returns-clause-gained : goal.returns-clause-gained
returns-clause-gained c =
    let m = c.args.points.now.entries in
    let n = c.insert.new.self.entries in
    let lock = c.args.lock in
    let interval = lock.interval in
    let k : Place = (lock.index, interval.low) in
    let got : get m k ≡ None = ap (λ (low : List ℕ). get m (lock.index, low)) (sym c.as_slice.ensures) ∙ (sym c.get.ensures ∙ (sym c.copied-held.ensures ∙ c.in-None.is)) in
    let with : c.with-in-None.result ≡ with_mode no_modes lock.mode = c.with-in-None.ensures ∙ ap (λ (v : Modes). with_mode v lock.mode) c.none.ensures in
    subst (λ (l : Want). HasGained (points_of (entries m)) (l ∷ []) (points_of (entries n))) (by_place lock c.requires.point)
    (gained_point m n k lock.mode c.with-in-None.result c.insert.ensures.entries (λ x. subst (λ (v : Modes). IsTrue (has_mode v x) ↔ (HasAt (get m k) x ⊎ (x ≡ lock.mode))) (sym with) (first_held (get m k) lock.mode x got)))
