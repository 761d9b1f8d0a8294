use Rattle.std.proofs.Common.{◌≡◌, ◌≤◌, ◌+◌, ◌≢◌, ℕ, suc, length, sym, ap, subst, ◌∙◌, arith}
use Rattle.std.specs.Option.{option_copied}
use Rattle.iv_types.specs.declared.lock.GroupDelta.{GroupDelta}
use Rattle.ghost_rows.specs.State.{CanStore}
use Rattle.txn_machine.specs.Deltas.{place_of}
use Rattle.data_changes.specs.Ghosts.{HasAbsent}
use Rattle.data_changes.specs.Effects.{with_ghost}
use Rattle.data_store.specs.Held.{IsHeld}
use Rattle.data_store.specs.declared.store.DataStore.{DataStore}
use Rattle.table_laws.specs.Place.{Place}
use Rattle.txn_machine.specs.Deltas.{columns_of}
use Rattle.txn_machine.specs.Ghosts.{the_views}
use Rattle.txn_machine.specs.Log.{logs}
use Rattle.txn_machine.specs.Store.{does, Ghosts}
use Rattle.core_effects.proofs.Results.{on_err_of}
use Rattle.core_state.specs.Stands.{Holds, told}
use Rattle.core_state.proofs.Texts.{told_stored}
use Rattle.core_effects.proofs.Deltas.{first_is, few_sums, limited_here}
use Rattle.core_effects.proofs.Ghosted.{has_absent, made_holds, unmade_holds}
use Rattle.core_effects.proofs.ghosting.make_row.Goals as goal

pub overflow_cast-sums : goal.overflow_cast-sums
overflow_cast-sums g c =
    let s = c.requires.absent.0 in
    let l = c.requires.absent.1 in
    let texts = c.requires.absent.2 in
    let h = c.requires.absent.3 in
    let o = c.requires.absent.4 in
    let core = c.args.core.now in
    let is = first_is g.M.SortedMaps.maps g.M.SortedMaps.spare g.M.SortedMaps.limit core s l texts c.args.session h o c.in-Some.txn.now (sym c.get.ensures ∙ ap option_copied c.in-Some.is) c.first_owed-delta.result.now c.first_owed-delta.ensures in
    let few : length o.first.sums ≤ 8 = few_sums _ (limited_here g.M.SortedMaps.maps g.M.SortedMaps.spare g.M.SortedMaps.limit core s l texts c.args.session h o) o.first o.delta in
    let same : length c.as_slice.result.now ≡ length o.first.sums = ap length c.as_slice.ensures ∙ ap (λ (d : GroupDelta). length d.sums) is in
    omega (arith, few, same)

pub make_ghost-requires-clause-sums : goal.make_ghost-requires-clause-sums
make_ghost-requires-clause-sums g c κs within =
    let s = c.requires.absent.0 in
    let l = c.requires.absent.1 in
    let texts = c.requires.absent.2 in
    let h = c.requires.absent.3 in
    let o = c.requires.absent.4 in
    let core = c.args.core.now in
    let is = first_is g.M.SortedMaps.maps g.M.SortedMaps.spare g.M.SortedMaps.limit core s l texts c.args.session h o c.in-Some.txn.now (sym c.get.ensures ∙ ap option_copied c.in-Some.is) c.first_owed-delta.result.now c.first_owed-delta.ensures in
    let few : length o.first.sums ≤ 8 = few_sums _ (limited_here g.M.SortedMaps.maps g.M.SortedMaps.spare g.M.SortedMaps.limit core s l texts c.args.session h o) o.first o.delta in
    let same : length c.as_slice.result.now ≡ length o.first.sums = ap length c.as_slice.ensures ∙ ap (λ (d : GroupDelta). length d.sums) is in
    omega (arith, few, same)

pub make_ghost-requires-clause-held : goal.make_ghost-requires-clause-held
make_ghost-requires-clause-held g c κs within =
    let s = c.requires.absent.0 in
    let l = c.requires.absent.1 in
    let texts = c.requires.absent.2 in
    let h = c.requires.absent.3 in
    let o = c.requires.absent.4 in
    let core = c.args.core.now in
    let is = first_is g.M.SortedMaps.maps g.M.SortedMaps.spare g.M.SortedMaps.limit core s l texts c.args.session h o c.in-Some.txn.now (sym c.get.ensures ∙ ap option_copied c.in-Some.is) c.first_owed-delta.result.now c.first_owed-delta.ensures in
    let at : ◌≡◌ {A = Place} (c.first_owed-delta.result.now.view, c.as_slice-2.result.now) (place_of o.first) = λ x. ((is x).view, (c.as_slice-2.ensures ∙ ap (λ (d : GroupDelta). d.group) is) x) in
    let many : length c.as_slice.result.now ≡ length o.first.sums = ap length c.as_slice.ensures ∙ ap (λ (d : GroupDelta). length d.sums) is in (
      told s texts,
      subst (λ (p : Place). HasAbsent core.store.catalog (g.M.SortedMaps.maps core.store.tables) core.store.views p (length c.as_slice.result.now) (told s texts)) (sym at)
          (has_absent g.M.SortedMaps.maps g.M.SortedMaps.spare g.M.SortedMaps.limit core s l texts c.args.session h o (length c.as_slice.result.now) many c.requires.absent.5),
    )

pub make_ghost-requires-clause-can : goal.make_ghost-requires-clause-can
make_ghost-requires-clause-can g c κs within =
    let s = c.requires.absent.0 in
    let l = c.requires.absent.1 in
    let texts = c.requires.absent.2 in
    let h = c.requires.absent.3 in
    let o = c.requires.absent.4 in
    let core = c.args.core.now in
    let is = first_is g.M.SortedMaps.maps g.M.SortedMaps.spare g.M.SortedMaps.limit core s l texts c.args.session h o c.in-Some.txn.now (sym c.get.ensures ∙ ap option_copied c.in-Some.is) c.first_owed-delta.result.now c.first_owed-delta.ensures in
    let at : ◌≡◌ {A = Place} (c.first_owed-delta.result.now.view, c.as_slice-2.result.now) (place_of o.first) = λ x. ((is x).view, (c.as_slice-2.ensures ∙ ap (λ (d : GroupDelta). d.group) is) x) in
    let many : length c.as_slice.result.now ≡ length o.first.sums = ap length c.as_slice.ensures ∙ ap (λ (d : GroupDelta). length d.sums) is in
    subst (λ (p : Place). CanStore (g.M.SortedMaps.maps core.store.tables) (g.M.SortedMaps.limit core.store.tables) p (suc (length c.as_slice.result.now))) (sym at)
    (subst (λ n. CanStore (g.M.SortedMaps.maps core.store.tables) (g.M.SortedMaps.limit core.store.tables) (place_of o.first) (suc n)) (sym many)
    c.requires.absent.6)

pub returns-in_err-make_ghost-clause-err : goal.returns-in_err-make_ghost-clause-err
returns-in_err-make_ghost-clause-err g c = on_err_of c.from_residual.result
    (λ s l texts o h.
    let core = c.args.core.now in
    let new = c.make_ghost.new.store in
    let rest = c.make_ghost.ensures.rest in
    let is = first_is g.M.SortedMaps.maps g.M.SortedMaps.spare g.M.SortedMaps.limit core s l texts c.args.session h o c.in-Some.txn.now (sym c.get.ensures ∙ ap option_copied c.in-Some.is) c.first_owed-delta.result.now c.first_owed-delta.ensures in
    let at : c.first_owed-delta.result.now.view ≡ o.first.view = ap (λ (d : GroupDelta). d.view) is in
    subst (λ st. Holds g.M.SortedMaps.maps g.M.SortedMaps.spare g.M.SortedMaps.limit (record core { store = st }) s l texts) (sym rest)
    (unmade_holds g.M.SortedMaps.maps g.M.SortedMaps.spare g.M.SortedMaps.limit core s l texts c.args.session h o new.tables new.views c.make_ghost.ensures.limit c.make_ghost.ensures.rows c.make_ghost.ensures.rooms
    (subst (λ n. g.M.SortedMaps.spare core.store.tables n ≤ g.M.SortedMaps.spare new.tables n + 1) at c.make_ghost.ensures.spare)
    (subst (λ n. (k : ℕ) → k ≢ n → g.M.SortedMaps.spare core.store.tables k ≤ g.M.SortedMaps.spare new.tables k) at c.make_ghost.ensures.other_spares) c.number_law.ensures c.book_law.ensures
    (subst (λ x. IsHeld x (g.M.SortedMaps.maps new.tables) new.views (told s texts)) (ap (λ (st : DataStore g.row.M.Denot). st.catalog) rest) (c.in_err-make_ghost.ensures.err (told s texts) (told_stored g.M.SortedMaps.maps g.M.SortedMaps.spare g.M.SortedMaps.limit core s l texts h)))))

pub returns-clause-made : goal.returns-clause-made
returns-clause-made g c = λ s l texts o a h none.
    let core = c.args.core.now in
    let new = c.make_ghost.new.store in
    let rest = c.make_ghost.ensures.rest in
    let is = first_is g.M.SortedMaps.maps g.M.SortedMaps.spare g.M.SortedMaps.limit core s l texts c.args.session h o c.in-Some.txn.now (sym c.get.ensures ∙ ap option_copied c.in-Some.is) c.first_owed-delta.result.now c.first_owed-delta.ensures in
    let at : ◌≡◌ {A = Place} (c.first_owed-delta.result.now.view, c.as_slice-2.result.now) (place_of o.first) = λ x. ((is x).view, (c.as_slice-2.ensures ∙ ap (λ (d : GroupDelta). d.group) is) x) in
    let many : length c.as_slice.result.now ≡ length o.first.sums = ap length c.as_slice.ensures ∙ ap (λ (d : GroupDelta). length d.sums) is in
    let view_at : c.first_owed-delta.result.now.view ≡ o.first.view = ap (λ (d : GroupDelta). d.view) is in
    subst (λ st. Holds g.M.SortedMaps.maps g.M.SortedMaps.spare g.M.SortedMaps.limit (record core { store = st; next = core.next + 1 }) (does the_views s c.args.session (Ghosts (place_of o.first) (length (columns_of o.first)))) (logs s c.args.session a (Ghosts (place_of o.first) (length (columns_of o.first))) l) texts) (sym rest)
    (made_holds g.M.SortedMaps.maps g.M.SortedMaps.spare g.M.SortedMaps.limit core s l texts c.args.session h o new.tables new.views c.make_ghost.ensures.limit c.make_ghost.ensures.rows c.make_ghost.ensures.rooms
    (subst (λ n. g.M.SortedMaps.spare core.store.tables n ≤ g.M.SortedMaps.spare new.tables n + 1) view_at c.make_ghost.ensures.spare)
    (subst (λ n. (k : ℕ) → k ≢ n → g.M.SortedMaps.spare core.store.tables k ≤ g.M.SortedMaps.spare new.tables k) view_at c.make_ghost.ensures.other_spares) c.number_law.ensures c.book_law.ensures a
    (subst (λ x. IsHeld x (g.M.SortedMaps.maps new.tables) new.views (with_ghost (told s texts) (place_of o.first) (suc (length o.first.sums)))) (ap (λ (st : DataStore g.row.M.Denot). st.catalog) rest)
    (subst (λ n. IsHeld new.catalog (g.M.SortedMaps.maps new.tables) new.views (with_ghost (told s texts) (place_of o.first) (suc n))) many
    (subst (λ (p : Place). IsHeld new.catalog (g.M.SortedMaps.maps new.tables) new.views (with_ghost (told s texts) p (suc (length c.as_slice.result.now)))) at
    (c.in_ok-make_ghost.ensures.made (told s texts)
    (subst (λ (p : Place). HasAbsent core.store.catalog (g.M.SortedMaps.maps core.store.tables) core.store.views p (length c.as_slice.result.now) (told s texts)) (sym at)
    (has_absent g.M.SortedMaps.maps g.M.SortedMaps.spare g.M.SortedMaps.limit core s l texts c.args.session h o (length c.as_slice.result.now) many none)))))))
