use Rattle.std.proofs.Common.{◌≡◌, ◌+◌, ◌∷◌, [], ℕ, List, sym, ap, subst, ◌∙◌}
use Rattle.std.specs.Prelude.{reverse}
use Rattle.std.specs.Option.{option_copied}
use Rattle.iv_types.specs.declared.lock.KeptStep.{KeptStep as Step}
use Rattle.iv_types.specs.declared.lock.KeptStep.TheVariants as step
use Rattle.txn_machine.specs.Keeping.{Pay}
use Rattle.iv_types.specs.declared.lock.GroupDelta.{GroupDelta}
use Rattle.iv_types.specs.declared.lock.Prefix.{Prefix}
use Rattle.ghost_rows.specs.Kept.{IsDelta, width, IsPaidLast, ArePrefixes}
use Rattle.ghost_rows.specs.State.{CanStore}
use Rattle.txn_machine.specs.Deltas.{place_of}
use Rattle.data_store.specs.Contents.{pays_on}
use Rattle.data_store.specs.Held.{IsHeld}
use Rattle.data_store.specs.declared.store.DataStore.{DataStore}
use Rattle.data_changes.specs.Effects.{without_pay}
use Rattle.data_changes.specs.Paying.{HasFor}
use Rattle.txn_machine.specs.Ghosts.{the_views}
use Rattle.txn_machine.specs.Log.{logs}
use Rattle.txn_machine.specs.Store.{does, Undoes}
use Rattle.core_state.specs.Stands.{Holds, told}
use Rattle.core_effects.proofs.Deltas.{ghost_delta}
use Rattle.core_effects.proofs.Unpaid.{mine, last, there_latest, prefixes, paid_last, for_it, limited_here, has_room, undone_holds}
use Rattle.core_effects.proofs.undoing.undo_pay.Goals as goal

pub latest_pay-requires : goal.latest_pay-requires
latest_pay-requires g c =
    let it = last g.M.SortedMaps.maps g.M.SortedMaps.spare g.M.SortedMaps.limit c.args.core.now c.requires.keeps.0 c.requires.keeps.1 c.requires.keeps.2 c.args.session c.requires.keeps.3 c.requires.keeps.4 in
    (c.requires.keeps.4.latest, it.before, it.number, it.steps, there_latest g.M.SortedMaps.maps g.M.SortedMaps.spare g.M.SortedMaps.limit c.args.core.now c.requires.keeps.0 c.requires.keeps.1 c.requires.keeps.2 c.args.session c.requires.keeps.3 c.requires.keeps.4 c.in-Some.txn.now (sym c.get.ensures ∙ ap option_copied c.in-Some.is))

pub take_back_pay-requires-clause-delta : goal.take_back_pay-requires-clause-delta
take_back_pay-requires-clause-delta g c κs within =
    let core = c.args.core.now in
    let o = c.requires.keeps.4 in
    let it = last g.M.SortedMaps.maps g.M.SortedMaps.spare g.M.SortedMaps.limit core c.requires.keeps.0 c.requires.keeps.1 c.requires.keeps.2 c.args.session c.requires.keeps.3 c.requires.keeps.4 in
    let are = c.latest_pay.ensures o.latest it.before it.number it.steps (there_latest g.M.SortedMaps.maps g.M.SortedMaps.spare g.M.SortedMaps.limit core c.requires.keeps.0 c.requires.keeps.1 c.requires.keeps.2 c.args.session c.requires.keeps.3 c.requires.keeps.4 c.in-Some.txn.now (sym c.get.ensures ∙ ap option_copied c.in-Some.is)) in
    subst IsDelta (sym are.0) (ghost_delta _ (limited_here g.M.SortedMaps.maps g.M.SortedMaps.spare g.M.SortedMaps.limit core c.requires.keeps.0 c.requires.keeps.1 c.requires.keeps.2 c.args.session c.requires.keeps.3 c.requires.keeps.4) o.latest o.delta)

pub take_back_pay-requires-clause-held : goal.take_back_pay-requires-clause-held
take_back_pay-requires-clause-held g c κs within =
    let core = c.args.core.now in
    let o = c.requires.keeps.4 in
    let it = last g.M.SortedMaps.maps g.M.SortedMaps.spare g.M.SortedMaps.limit core c.requires.keeps.0 c.requires.keeps.1 c.requires.keeps.2 c.args.session c.requires.keeps.3 c.requires.keeps.4 in
    let are = c.latest_pay.ensures o.latest it.before it.number it.steps (there_latest g.M.SortedMaps.maps g.M.SortedMaps.spare g.M.SortedMaps.limit core c.requires.keeps.0 c.requires.keeps.1 c.requires.keeps.2 c.args.session c.requires.keeps.3 c.requires.keeps.4 c.in-Some.txn.now (sym c.get.ensures ∙ ap option_copied c.in-Some.is)) in (
      told c.requires.keeps.0 c.requires.keeps.2,
      subst (λ x. HasFor core.store.catalog (g.M.SortedMaps.maps core.store.tables) core.store.views x (told c.requires.keeps.0 c.requires.keeps.2)) (sym are.0) (for_it g.M.SortedMaps.maps g.M.SortedMaps.spare g.M.SortedMaps.limit core c.requires.keeps.0 c.requires.keeps.1 c.requires.keeps.2 c.args.session c.requires.keeps.3 c.requires.keeps.4),
      subst (λ b. IsPaidLast (λ j. pays_on (place_of c.latest_pay.result.0.now) ((told c.requires.keeps.0 c.requires.keeps.2).kept j)) c.args.session c.latest_pay.result.0.now b) (sym are.1)
          (subst (λ (x : GroupDelta). IsPaidLast (λ j. pays_on (place_of x) ((told c.requires.keeps.0 c.requires.keeps.2).kept j)) c.args.session x it.before) (sym are.0) (paid_last g.M.SortedMaps.maps g.M.SortedMaps.spare g.M.SortedMaps.limit core c.requires.keeps.0 c.requires.keeps.1 c.requires.keeps.2 c.args.session c.requires.keeps.3 c.requires.keeps.4)),
    )

pub take_back_pay-requires-clause-room : goal.take_back_pay-requires-clause-room
take_back_pay-requires-clause-room g c κs within = has_room g.M.SortedMaps.maps g.M.SortedMaps.spare g.M.SortedMaps.limit c.args.core.now c.requires.keeps.0 c.requires.keeps.1 c.requires.keeps.2 c.args.session c.requires.keeps.3 c.requires.keeps.4

pub take_back_pay-requires-clause-can : goal.take_back_pay-requires-clause-can
take_back_pay-requires-clause-can g c κs within =
    let core = c.args.core.now in
    let o = c.requires.keeps.4 in
    let it = last g.M.SortedMaps.maps g.M.SortedMaps.spare g.M.SortedMaps.limit core c.requires.keeps.0 c.requires.keeps.1 c.requires.keeps.2 c.args.session c.requires.keeps.3 c.requires.keeps.4 in
    let are = c.latest_pay.ensures o.latest it.before it.number it.steps (there_latest g.M.SortedMaps.maps g.M.SortedMaps.spare g.M.SortedMaps.limit core c.requires.keeps.0 c.requires.keeps.1 c.requires.keeps.2 c.args.session c.requires.keeps.3 c.requires.keeps.4 c.in-Some.txn.now (sym c.get.ensures ∙ ap option_copied c.in-Some.is)) in
    subst (λ (x : GroupDelta). CanStore (g.M.SortedMaps.maps core.store.tables) (g.M.SortedMaps.limit core.store.tables) (place_of x) (width x)) (sym are.0)
    c.requires.keeps.5

pub undo-requires : goal.undo-requires
undo-requires g c =
    let own = mine g.M.SortedMaps.maps g.M.SortedMaps.spare g.M.SortedMaps.limit c.args.core.now c.requires.keeps.0 c.requires.keeps.1 c.requires.keeps.2 c.args.session c.requires.keeps.3 c.requires.keeps.4 in
    let it = last g.M.SortedMaps.maps g.M.SortedMaps.spare g.M.SortedMaps.limit c.args.core.now c.requires.keeps.0 c.requires.keeps.1 c.requires.keeps.2 c.args.session c.requires.keeps.3 c.requires.keeps.4 in
    (own.txn, own.there, λ none. none_latest own.txn.kept.items it.before it.number it.steps c.requires.keeps.4.latest none it.is)
  where
    none_latest : (ks : List Step) (before : List Prefix) (n : ℕ) (more : List Step) (d : GroupDelta) → ks ≡ [] → reverse ks ≡ step.Pay d before n ∷ more → ⊥
    none_latest ks before n more d none is = let bad : [] ≡ step.Pay d before n ∷ more = sym (ap reverse none) ∙ is in absurd cc

pub returns-clause-holds : goal.returns-clause-holds
returns-clause-holds g c = λ s l texts a h o.
    let core = c.args.core.now in
    let i = c.args.session in
    let it = last g.M.SortedMaps.maps g.M.SortedMaps.spare g.M.SortedMaps.limit core s l texts i h o in
    let own = mine g.M.SortedMaps.maps g.M.SortedMaps.spare g.M.SortedMaps.limit core s l texts i h o in
    let are = c.latest_pay.ensures o.latest it.before it.number it.steps (there_latest g.M.SortedMaps.maps g.M.SortedMaps.spare g.M.SortedMaps.limit core s l texts i h o c.in-Some.txn.now (sym c.get.ensures ∙ ap option_copied c.in-Some.is)) in
    let new = c.take_back_pay.new.store in
    let rest = c.take_back_pay.ensures.rest in
    subst (λ st. Holds g.M.SortedMaps.maps g.M.SortedMaps.spare g.M.SortedMaps.limit (record core { store = st; book = c.undo.new.self; next = core.next + 1 }) (does the_views s i Undoes) (logs s i a Undoes l) texts) (sym rest)
    (undone_holds g.M.SortedMaps.maps g.M.SortedMaps.spare g.M.SortedMaps.limit core s l texts i h o new.tables new.views c.undo.new.self c.take_back_pay.ensures.limit c.take_back_pay.ensures.seats c.book_law.ensures a c.take_back_pay.ensures.room c.take_back_pay.ensures.spare
    (subst (λ x. IsHeld x (g.M.SortedMaps.maps new.tables) new.views (without_pay (told s texts) i o.latest o.earlier)) (ap (λ (st : DataStore g.row.M.Denot). st.catalog) rest)
    (subst (λ (x : GroupDelta). IsHeld new.catalog (g.M.SortedMaps.maps new.tables) new.views (without_pay (told s texts) i x o.earlier)) are.0
    (c.take_back_pay.ensures.taken (told s texts) o.earlier
    (subst (λ x. HasFor core.store.catalog (g.M.SortedMaps.maps core.store.tables) core.store.views x (told s texts)) (sym are.0) (for_it g.M.SortedMaps.maps g.M.SortedMaps.spare g.M.SortedMaps.limit core s l texts i h o))
    (o.kept_is ∙ ap (λ x. Pay x ∷ o.earlier) (sym are.0))
    (subst (λ b. ArePrefixes b (width c.latest_pay.result.0.now) (pays_on (place_of c.latest_pay.result.0.now) o.earlier)) (sym are.1)
    (subst (λ (x : GroupDelta). ArePrefixes it.before (width x) (pays_on (place_of x) o.earlier)) (sym are.0) (prefixes g.M.SortedMaps.maps g.M.SortedMaps.spare g.M.SortedMaps.limit core s l texts i h o))))))
    (c.undo.ensures own.txn own.there (step.Pay o.latest it.before it.number) it.steps it.is).1)
