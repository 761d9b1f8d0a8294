use Rattle.std.proofs.Common.{◌≡◌, ◌≤◌, ◌+◌, length, refl, ◌∷◌, [], ℕ, List, Some, None, sym, ap, subst, ◌∙◌}
use Rattle.std.specs.Prelude.{reverse, IsSome}
use Rattle.txn_book.specs.Opens.{open_at}
use Rattle.txn_book.specs.declared.open_table.Open.{Open}
use Rattle.data_past.specs.Ahead.{deltas_at}
use Rattle.iv_types.specs.declared.lock.Kept.{Kept}
use Rattle.iv_types.specs.declared.lock.KeptStep.{KeptStep as Step}
use Rattle.iv_types.specs.declared.lock.KeptStep.TheVariants as step
use Rattle.table_store.specs.Stored.{IsTableAnd}
use Rattle.table_store.specs.Changes.{CanTakeBack, TakesRoom}
use Rattle.txn_machine.specs.Ghosts.{the_views}
use Rattle.txn_machine.specs.Keeping.{Put}
use Rattle.txn_machine.specs.Log.{logs}
use Rattle.txn_machine.specs.RowChanges.{row_change}
use Rattle.txn_machine.specs.Store.{does, Undoes}
use Rattle.data_store.specs.Held.{IsHeld}
use Rattle.data_store.specs.declared.store.DataStore.{DataStore}
use Rattle.data_changes.specs.Effects.{without_put}
use Rattle.data_past.specs.Moves.{one_less, ChangesAt, HasChange}
use Rattle.core_state.specs.Stands.{Holds, told}
use Rattle.core_state.proofs.Texts.{told_stored}
use Rattle.core_effects.proofs.Unput.{mine, last, can_take_back, is_counted, version_there, owed_there, undone_holds}
use Rattle.core_effects.proofs.undoing.undo_put.Goals as goal

pub open_of-requires-after_bounds : goal.open_of-requires-after_bounds
open_of-requires-after_bounds g c κs within =
    subst IsSome (sym (mine g.M.SortedMaps.maps g.M.SortedMaps.spare g.M.SortedMaps.limit c.args.core.now c.requires.keeps.0 c.requires.keeps.1 c.requires.keeps.2 c.args.session c.requires.keeps.3 c.requires.keeps.4).there) refl

pub remove_last-requires-clause-rows : goal.remove_last-requires-clause-rows
remove_last-requires-clause-rows g c = version_there g.M.SortedMaps.maps g.M.SortedMaps.spare g.M.SortedMaps.limit c.args.core.now c.requires.keeps.0 c.requires.keeps.1 c.requires.keeps.2 c.args.session c.requires.keeps.3 c.requires.keeps.4

pub remove_last-requires-clause-deltas : goal.remove_last-requires-clause-deltas
remove_last-requires-clause-deltas g c =
    let own = mine g.M.SortedMaps.maps g.M.SortedMaps.spare g.M.SortedMaps.limit c.args.core.now c.requires.keeps.0 c.requires.keeps.1 c.requires.keeps.2 c.args.session c.requires.keeps.3 c.requires.keeps.4 in
    let both : Some c.open_of.result.now ≡ Some own.txn = sym c.open_of.ensures ∙ own.there in
    let same : c.open_of.result.now ≡ own.txn = cc in
    subst (λ n. n ≤ length (deltas_at c.args.core.now.ahead c.args.session)) (sym (c.len-owed.ensures ∙ (c.open_of.result.now.owed.ok.0 ∙ ap (λ (x : Open). length x.owed.items) same)))
    (owed_there g.M.SortedMaps.maps g.M.SortedMaps.spare g.M.SortedMaps.limit c.args.core.now c.requires.keeps.0 c.requires.keeps.1 c.requires.keeps.2 c.args.session c.requires.keeps.3 c.requires.keeps.4)

pub undo-requires : goal.undo-requires
undo-requires g c =
    let own = mine g.M.SortedMaps.maps g.M.SortedMaps.spare g.M.SortedMaps.limit c.args.core.now c.requires.keeps.0 c.requires.keeps.1 c.requires.keeps.2 c.args.session c.requires.keeps.3 c.requires.keeps.4 in
    let it = last g.M.SortedMaps.maps g.M.SortedMaps.spare g.M.SortedMaps.limit c.args.core.now c.requires.keeps.0 c.requires.keeps.1 c.requires.keeps.2 c.args.session c.requires.keeps.3 c.requires.keeps.4 in
    (own.txn, own.there, λ none. none_latest own.txn.kept.items it.kept it.txn_bytes it.history_bytes it.number it.steps none it.is)
  where
    none_latest : (ks : List Step) (k : Kept) (a b n : ℕ) (more : List Step) → ks ≡ [] → reverse ks ≡ step.Put k a b n ∷ more → ⊥
    none_latest ks k a b n more none is = let bad : [] ≡ step.Put k a b n ∷ more = sym (ap reverse none) ∙ is in absurd cc

pub forget_change-requires-after_bounds : goal.forget_change-requires-after_bounds
forget_change-requires-after_bounds g c κs within =
    let core = c.args.core.now in
    let own = mine g.M.SortedMaps.maps g.M.SortedMaps.spare g.M.SortedMaps.limit core c.requires.keeps.0 c.requires.keeps.1 c.requires.keeps.2 c.args.session c.requires.keeps.3 c.requires.keeps.4 in
    let it = last g.M.SortedMaps.maps g.M.SortedMaps.spare g.M.SortedMaps.limit core c.requires.keeps.0 c.requires.keeps.1 c.requires.keeps.2 c.args.session c.requires.keeps.3 c.requires.keeps.4 in
    let gives : c.undo.result ≡ Some it.kept = (c.undo.ensures own.txn own.there (step.Put it.kept it.txn_bytes it.history_bytes it.number) it.steps it.is).0 in
    let one : Some c.in-Some.kept ≡ Some it.kept = sym c.in-Some.is ∙ gives in
    let same : c.in-Some.kept ≡ it.kept = cc in
    subst (λ (key : List ℕ). HasChange core.store.pending.entries (c.in-Some.kept.change.table, key)) (sym c.as_slice.ensures)
    (subst (λ (k : Kept). HasChange core.store.pending.entries (k.change.table, k.change.key)) (sym same)
    (is_counted g.M.SortedMaps.maps g.M.SortedMaps.spare g.M.SortedMaps.limit core c.requires.keeps.0 c.requires.keeps.1 c.requires.keeps.2 c.args.session c.requires.keeps.3 c.requires.keeps.4))

pub take_back_put-requires-after_bounds : goal.take_back_put-requires-after_bounds
take_back_put-requires-after_bounds g c κs within =
    let core = c.args.core.now in
    let own = mine g.M.SortedMaps.maps g.M.SortedMaps.spare g.M.SortedMaps.limit core c.requires.keeps.0 c.requires.keeps.1 c.requires.keeps.2 c.args.session c.requires.keeps.3 c.requires.keeps.4 in
    let it = last g.M.SortedMaps.maps g.M.SortedMaps.spare g.M.SortedMaps.limit core c.requires.keeps.0 c.requires.keeps.1 c.requires.keeps.2 c.args.session c.requires.keeps.3 c.requires.keeps.4 in
    let gives : c.undo.result ≡ Some it.kept = (c.undo.ensures own.txn own.there (step.Put it.kept it.txn_bytes it.history_bytes it.number) it.steps it.is).0 in
    let one : Some c.in-Some.kept ≡ Some it.kept = sym c.in-Some.is ∙ gives in
    let same : c.in-Some.kept ≡ it.kept = cc in
    subst (λ (st : DataStore g.row.M.Denot). IsTableAnd st.catalog c.in-Some.kept.change.table (CanTakeBack st.catalog c.in-Some.kept (g.M.SortedMaps.maps st.tables) (g.M.SortedMaps.spare st.tables) (g.M.SortedMaps.limit st.tables))) (sym c.forget_change.ensures.rest)
    (subst (λ k. IsTableAnd core.store.catalog k.change.table (CanTakeBack core.store.catalog k (g.M.SortedMaps.maps core.store.tables) (g.M.SortedMaps.spare core.store.tables) (g.M.SortedMaps.limit core.store.tables))) (sym same)
    (can_take_back g.M.SortedMaps.maps g.M.SortedMaps.spare g.M.SortedMaps.limit core c.requires.keeps.0 c.requires.keeps.1 c.requires.keeps.2 c.args.session c.requires.keeps.3 c.requires.keeps.4 c.number_law.ensures c.requires.keeps.5))

pub unreachable-requires : goal.unreachable-requires
unreachable-requires g c =
    let core = c.args.core.now in
    let own = mine g.M.SortedMaps.maps g.M.SortedMaps.spare g.M.SortedMaps.limit core c.requires.keeps.0 c.requires.keeps.1 c.requires.keeps.2 c.args.session c.requires.keeps.3 c.requires.keeps.4 in
    let it = last g.M.SortedMaps.maps g.M.SortedMaps.spare g.M.SortedMaps.limit core c.requires.keeps.0 c.requires.keeps.1 c.requires.keeps.2 c.args.session c.requires.keeps.3 c.requires.keeps.4 in
    let gives : c.undo.result ≡ Some it.kept = (c.undo.ensures own.txn own.there (step.Put it.kept it.txn_bytes it.history_bytes it.number) it.steps it.is).0 in
    let bad : None ≡ Some it.kept = sym c.in-None.is ∙ gives in
    absurd cc

pub returns-clause-holds : goal.returns-clause-holds
returns-clause-holds g c = λ s l texts a h o.
    let core = c.args.core.now in
    let i = c.args.session in
    let it = last g.M.SortedMaps.maps g.M.SortedMaps.spare g.M.SortedMaps.limit core s l texts i h o in
    let own = mine g.M.SortedMaps.maps g.M.SortedMaps.spare g.M.SortedMaps.limit core s l texts i h o in
    let owed_same : (t : Open) → open_at core.book.opens i ≡ Some t → c.len-owed.result ≡ length t.owed.items = λ t there.
    let both : Some c.open_of.result.now ≡ Some t = sym c.open_of.ensures ∙ there in
    let same_txn : c.open_of.result.now ≡ t = cc in
    c.len-owed.ensures ∙ (c.open_of.result.now.owed.ok.0 ∙ ap (λ (x : Open). length x.owed.items) same_txn) in
    let done = c.undo.ensures own.txn own.there (step.Put it.kept it.txn_bytes it.history_bytes it.number) it.steps it.is in
    let one : Some c.in-Some.kept ≡ Some it.kept = sym c.in-Some.is ∙ done.0 in
    let same : c.in-Some.kept ≡ it.kept = cc in
    let forgot = c.forget_change.new.store in
    let before = c.forget_change.ensures.rest in
    let new = c.take_back_put.new.store in
    let rest = c.take_back_put.ensures.rest in
    let both : new ≡ record core.store { tables = new.tables; pending = forgot.pending } = rest ∙ ap (λ (st : DataStore g.row.M.Denot). record st { tables = new.tables }) before in
    subst (λ st. Holds g.M.SortedMaps.maps g.M.SortedMaps.spare g.M.SortedMaps.limit (record core { store = st; book = c.undo.new.self; ahead = c.remove_last.new.self; next = core.next + 1 }) (does the_views s i Undoes) (logs s i a Undoes l) texts) (sym both)
    (undone_holds g.M.SortedMaps.maps g.M.SortedMaps.spare g.M.SortedMaps.limit core s l texts i h o new.tables c.undo.new.self (c.take_back_put.ensures.limit ∙ ap (λ (st : DataStore g.row.M.Denot). g.M.SortedMaps.limit st.tables) before) c.book_law.ensures a forgot.pending
    (subst (λ (k : Kept). ChangesAt (k.change.table, k.change.key) one_less core.store.pending.entries forgot.pending.entries) same
    (subst (λ (key : List ℕ). ChangesAt (c.in-Some.kept.change.table, key) one_less core.store.pending.entries forgot.pending.entries) c.as_slice.ensures c.forget_change.ensures.pending))
    c.remove_last.new.self c.len-owed.result (owed_same own.txn own.there) c.remove_last.ensures
    (subst (λ (st : DataStore g.row.M.Denot). TakesRoom (g.M.SortedMaps.spare st.tables) (g.M.SortedMaps.spare new.tables) it.kept.made it.kept.gone) before
    (subst (λ (k : Kept). TakesRoom (g.M.SortedMaps.spare forgot.tables) (g.M.SortedMaps.spare new.tables) k.made k.gone) same c.take_back_put.ensures.spare))
    (subst (λ (st : DataStore g.row.M.Denot). IsHeld st.catalog (g.M.SortedMaps.maps new.tables) st.views (without_put (told s texts) i (row_change it.kept.change) o.earlier)) both
    (subst (λ (k : Kept). IsHeld new.catalog (g.M.SortedMaps.maps new.tables) new.views (without_put (told s texts) i (row_change k.change) o.earlier)) same
    (c.take_back_put.ensures.held (told s texts) i o.owed o.earlier
    (subst (λ (st : DataStore g.row.M.Denot). IsHeld st.catalog (g.M.SortedMaps.maps st.tables) st.views (told s texts)) (sym before) (told_stored g.M.SortedMaps.maps g.M.SortedMaps.spare g.M.SortedMaps.limit core s l texts h))
    (o.kept_is ∙ ap (λ x. Put x o.owed ∷ o.earlier) (sym it.change ∙ ap (λ (k : Kept). row_change k.change) (sym same))))))
    done.1)
