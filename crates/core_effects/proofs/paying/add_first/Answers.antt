use Rattle.std.proofs.Common.{◌≡◌, ℕ, ℤ, None, Result, Ok, Err, refl, sym, ap, subst, ◌∙◌}
use Rattle.std.specs.Option.{option_copied}
use Rattle.std.specs.FinMap.{get}
use Rattle.iv_types.specs.declared.lock.GroupDelta.{GroupDelta}
use Rattle.ghost_rows.specs.Kept.{IsDelta, width, ArePrefixes, IsAllowedIn}
use Rattle.ghost_rows.specs.State.{IsReady, CanStore}
use Rattle.ghost_rows.specs.declared.view_rows.PayRefusal.{PayRefusal}
use Rattle.ghost_rows.specs.declared.view_rows.PayRefusal.TheVariants.{Absent, Escrow}
use Rattle.txn_machine.specs.Deltas.{place_of}
use Rattle.txn_machine.specs.Store.{Store}
use Rattle.data_store.specs.Contents.{contents_of, pays_on}
use Rattle.data_store.specs.Held.{IsHeld}
use Rattle.data_store.specs.declared.store.DataStore.{DataStore}
use Rattle.data_changes.specs.Effects.{with_pay}
use Rattle.data_changes.specs.Paying.{HasFor, IsRefusedWith, AreCommittedAt}
use Rattle.core_state.specs.Stands.{Holds, told}
use Rattle.core_effects.specs.Owing.{OwesFirst, IsUnpaid}
use Rattle.core_effects.proofs.Deltas.{first_is, has_for, is_ready, ghost_delta, limited_here}
use Rattle.core_effects.proofs.Results.{on_ok_as, on_ok_where, on_err_three, if_err_where}
use Rattle.core_effects.proofs.Paid.{unpaid_holds}
use Rattle.data_changes.proofs.Answered.{if_ok_as}
use Rattle.core_effects.proofs.paying.add_first.Goals as goal

not_absent : {A : Type 0} (r : Result A PayRefusal) (x : A) → r ≡ Ok x → r ≡ Err Absent → ⊥
not_absent r x ok err = let bad : Ok x ≡ Err Absent = sym ok ∙ err in absurd cc

is_absent : {A : Type 0} (r : Result A PayRefusal) (why : PayRefusal) → r ≡ Err why → r ≡ Err Absent → why ≡ Absent
is_absent r why err absent = let same : Err why ≡ Err Absent = sym err ∙ absent in cc

not_escrow : (column : ℕ) (low high : ℤ) → Escrow column low high ≡ Absent → ⊥
not_escrow column low high e = absurd cc

pub pay-requires-clause-delta : goal.pay-requires-clause-delta
pay-requires-clause-delta g c κs within =
    let h = c.requires.owes.3 in
    let o = c.requires.owes.4 in
    let core = c.args.core.now in
    subst IsDelta (sym (first_is g.M.SortedMaps.maps g.M.SortedMaps.spare g.M.SortedMaps.limit core c.requires.owes.0 c.requires.owes.1 c.requires.owes.2 c.args.session h o c.in-Some.txn.now (sym c.get.ensures ∙ ap option_copied c.in-Some.is) c.first_owed-delta.result.now c.first_owed-delta.ensures))
    (ghost_delta _ (limited_here g.M.SortedMaps.maps g.M.SortedMaps.spare g.M.SortedMaps.limit core c.requires.owes.0 c.requires.owes.1 c.requires.owes.2 c.args.session h o) o.first o.delta)

pub pay-requires-clause-held : goal.pay-requires-clause-held
pay-requires-clause-held g c κs within =
    let h = c.requires.owes.3 in
    let o = c.requires.owes.4 in
    let core = c.args.core.now in (
      told c.requires.owes.0 c.requires.owes.2,
      subst (λ d. HasFor core.store.catalog (g.M.SortedMaps.maps core.store.tables) core.store.views d (told c.requires.owes.0 c.requires.owes.2)) (sym (first_is g.M.SortedMaps.maps g.M.SortedMaps.spare g.M.SortedMaps.limit core c.requires.owes.0 c.requires.owes.1 c.requires.owes.2 c.args.session h o c.in-Some.txn.now (sym c.get.ensures ∙ ap option_copied c.in-Some.is) c.first_owed-delta.result.now c.first_owed-delta.ensures))
          (has_for g.M.SortedMaps.maps g.M.SortedMaps.spare g.M.SortedMaps.limit core c.requires.owes.0 c.requires.owes.1 c.requires.owes.2 c.args.session h o),
    )

pub pay-requires-clause-ready : goal.pay-requires-clause-ready
pay-requires-clause-ready g c κs within =
    let h = c.requires.owes.3 in
    let o = c.requires.owes.4 in
    let core = c.args.core.now in
    subst (λ (d : GroupDelta). IsReady core.store.views (place_of d) c.args.session) (sym (first_is g.M.SortedMaps.maps g.M.SortedMaps.spare g.M.SortedMaps.limit core c.requires.owes.0 c.requires.owes.1 c.requires.owes.2 c.args.session h o c.in-Some.txn.now (sym c.get.ensures ∙ ap option_copied c.in-Some.is) c.first_owed-delta.result.now c.first_owed-delta.ensures))
    (is_ready g.M.SortedMaps.maps g.M.SortedMaps.spare g.M.SortedMaps.limit core c.requires.owes.0 c.requires.owes.1 c.requires.owes.2 c.args.session h o)

pub pay-requires-clause-can : goal.pay-requires-clause-can
pay-requires-clause-can g c κs within =
    let h = c.requires.owes.3 in
    let o = c.requires.owes.4 in
    let core = c.args.core.now in
    subst (λ (d : GroupDelta). CanStore (g.M.SortedMaps.maps core.store.tables) (g.M.SortedMaps.limit core.store.tables) (place_of d) (width d)) (sym (first_is g.M.SortedMaps.maps g.M.SortedMaps.spare g.M.SortedMaps.limit core c.requires.owes.0 c.requires.owes.1 c.requires.owes.2 c.args.session h o c.in-Some.txn.now (sym c.get.ensures ∙ ap option_copied c.in-Some.is) c.first_owed-delta.result.now c.first_owed-delta.ensures))
    c.requires.owes.5

pub returns-clause-paid : goal.returns-clause-paid
returns-clause-paid g c = on_ok_as c.pay.result
    (λ paid s l texts o h.
    let core = c.args.core.now in
    let is = first_is g.M.SortedMaps.maps g.M.SortedMaps.spare g.M.SortedMaps.limit core s l texts c.args.session h o c.in-Some.txn.now (sym c.get.ensures ∙ ap option_copied c.in-Some.is) c.first_owed-delta.result.now c.first_owed-delta.ensures in
    let for_it = subst (λ d. HasFor core.store.catalog (g.M.SortedMaps.maps core.store.tables) core.store.views d (told s texts)) (sym is) (has_for g.M.SortedMaps.maps g.M.SortedMaps.spare g.M.SortedMaps.limit core s l texts c.args.session h o) in
    subst (λ d. IsHeld c.pay.new.store.catalog (g.M.SortedMaps.maps c.pay.new.store.tables) c.pay.new.store.views (with_pay (told s texts) c.args.session d)) is (paid (told s texts) for_it)) c.pay.ensures.paid

pub returns-clause-before : goal.returns-clause-before
returns-clause-before g c = if_ok_as c.pay.result _ _
    (λ before gives s l texts o h.
    let core = c.args.core.now in
    let is = first_is g.M.SortedMaps.maps g.M.SortedMaps.spare g.M.SortedMaps.limit core s l texts c.args.session h o c.in-Some.txn.now (sym c.get.ensures ∙ ap option_copied c.in-Some.is) c.first_owed-delta.result.now c.first_owed-delta.ensures in
    let for_it = subst (λ d. HasFor core.store.catalog (g.M.SortedMaps.maps core.store.tables) core.store.views d (told s texts)) (sym is) (has_for g.M.SortedMaps.maps g.M.SortedMaps.spare g.M.SortedMaps.limit core s l texts c.args.session h o) in
    subst (λ (d : GroupDelta). ArePrefixes before (width d) (pays_on (place_of d) ((told s texts).kept c.args.session))) is (gives (told s texts) for_it)) c.pay.ensures.before

pub returns-clause-allowed : goal.returns-clause-allowed
returns-clause-allowed g c = on_ok_where c.pay.result
    (λ before ok allowed s l texts o h.
    let core = c.args.core.now in
    let is = first_is g.M.SortedMaps.maps g.M.SortedMaps.spare g.M.SortedMaps.limit core s l texts c.args.session h o c.in-Some.txn.now (sym c.get.ensures ∙ ap option_copied c.in-Some.is) c.first_owed-delta.result.now c.first_owed-delta.ensures in
    let for_it = subst (λ d. HasFor core.store.catalog (g.M.SortedMaps.maps core.store.tables) core.store.views d (told s texts)) (sym is) (has_for g.M.SortedMaps.maps g.M.SortedMaps.spare g.M.SortedMaps.limit core s l texts c.args.session h o) in (
      λ committed are. subst (λ (d : GroupDelta). IsAllowedIn committed (λ j. pays_on (place_of d) ((told s texts).kept j)) c.args.session d (width d)) is
          (allowed (told s texts) committed for_it (subst (λ d. AreCommittedAt (told s texts) d committed) (sym is) are)),
      λ none. not_absent c.pay.result before ok ((c.pay.ensures.absent (told s texts) for_it).1 (subst (λ (d : GroupDelta). get s.view (place_of d) ≡ None) (sym is) none)),
    )) c.pay.ensures.allowed

pub returns-clause-unpaid : goal.returns-clause-unpaid
returns-clause-unpaid g c = if_err_where c.pay.result
    (λ why failed escrow s l texts o h.
    let core = c.args.core.now in
    let is = first_is g.M.SortedMaps.maps g.M.SortedMaps.spare g.M.SortedMaps.limit core s l texts c.args.session h o c.in-Some.txn.now (sym c.get.ensures ∙ ap option_copied c.in-Some.is) c.first_owed-delta.result.now c.first_owed-delta.ensures in
    let for_it = subst (λ d. HasFor core.store.catalog (g.M.SortedMaps.maps core.store.tables) core.store.views d (told s texts)) (sym is) (has_for g.M.SortedMaps.maps g.M.SortedMaps.spare g.M.SortedMaps.limit core s l texts c.args.session h o) in
    by s c.args.session o why
    (λ absent. subst (λ (d : GroupDelta). get s.view (place_of d) ≡ None) is ((c.pay.ensures.absent (told s texts) for_it).0 (failed ∙ ap Err absent)))
    (λ none. is_absent c.pay.result why failed ((c.pay.ensures.absent (told s texts) for_it).1 (subst (λ (d : GroupDelta). get s.view (place_of d) ≡ None) (sym is) none)))
    (λ committed are. subst (λ d. IsRefusedWith (told s texts) c.args.session d committed why) is (escrow (told s texts) committed for_it (subst (λ d. AreCommittedAt (told s texts) d committed) (sym is) are)))) c.pay.ensures.escrow
  where
    by : (s : Store) (i : ℕ) (o : OwesFirst s i) (why : PayRefusal) → (why ≡ Absent → get s.view (place_of o.first) ≡ None) → (get s.view (place_of o.first) ≡ None → why ≡ Absent)
        → ((committed : ℕ → ℤ) → AreCommittedAt (contents_of s) o.first committed → IsRefusedWith (contents_of s) i o.first committed why) → IsUnpaid s i o why
    by s i o Absent absent present refused = absent refl
    by s i o (Escrow column low high) absent present refused = (λ none. not_escrow column low high (present none), refused)

pub returns-clause-kept : goal.returns-clause-kept
returns-clause-kept g c = on_err_three c.pay.result
    (λ stays same rooms s l texts o h.
    let core = c.args.core.now in
    let is = first_is g.M.SortedMaps.maps g.M.SortedMaps.spare g.M.SortedMaps.limit core s l texts c.args.session h o c.in-Some.txn.now (sym c.get.ensures ∙ ap option_copied c.in-Some.is) c.first_owed-delta.result.now c.first_owed-delta.ensures in
    let for_it = subst (λ d. HasFor core.store.catalog (g.M.SortedMaps.maps core.store.tables) core.store.views d (told s texts)) (sym is) (has_for g.M.SortedMaps.maps g.M.SortedMaps.spare g.M.SortedMaps.limit core s l texts c.args.session h o) in
    let rest = c.pay.ensures.rest in
    subst (λ st. Holds g.M.SortedMaps.maps g.M.SortedMaps.spare g.M.SortedMaps.limit (record core { store = st }) s l texts) (sym rest)
    (unpaid_holds g.M.SortedMaps.maps g.M.SortedMaps.spare g.M.SortedMaps.limit core s l texts c.args.session h c.pay.new.store.tables c.pay.new.store.views c.pay.ensures.limit c.pay.ensures.seats same rooms
    (subst (λ x. IsHeld x (g.M.SortedMaps.maps c.pay.new.store.tables) c.pay.new.store.views (told s texts)) (ap (λ (st : DataStore g.row.M.Denot). st.catalog) rest) (stays (told s texts) for_it)) c.requires.session))
    c.pay.ensures.kept c.pay.ensures.tables c.pay.ensures.rooms
