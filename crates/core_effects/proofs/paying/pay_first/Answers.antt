use Rattle.std.proofs.Common.{◌≡◌, ◌≢◌, ◌+◌, ◌∷◌, ℕ, List, Some, sym, ap, subst, ◌∙◌}
use Rattle.iv_types.specs.declared.lock.Want.{Want}
use Rattle.lock_desk.specs.PayWants.{wants_at}
use Rattle.txn_machine.specs.Ghosts.{the_views}
use Rattle.txn_machine.specs.Log.{logs}
use Rattle.txn_machine.specs.Store.{does, Pays}
use Rattle.txn_book.specs.Books.{Changes}
use Rattle.txn_book.specs.Opens.{open_at}
use Rattle.txn_book.specs.Txns.{txn_of, with_pay}
use Rattle.core_state.specs.Stands.{Holds, told}
use Rattle.core_state.specs.declared.state.CoreState.{CoreState}
use Rattle.core_effects.proofs.Deltas.{mine, owed_there, back_there, owes_some}
use Rattle.core_effects.proofs.Paid.{paid_holds}
use Rattle.core_effects.proofs.paying.pay_first.Goals as goal

pub paid-requires : goal.paid-requires
paid-requires g c =
    let h = c.requires.owes.3 in
    let o = c.requires.owes.4 in
    let core = c.args.core.now in
    let own = mine g.M.SortedMaps.maps g.M.SortedMaps.spare g.M.SortedMaps.limit core c.requires.owes.0 c.requires.owes.1 c.requires.owes.2 c.args.session h o in (
      own.txn,
      ap (λ (x : CoreState g.row.M.Denot). open_at x.book.opens c.args.session) c.add_first.ensures.rest ∙ own.there,
      (
        owes_some g.M.SortedMaps.maps g.M.SortedMaps.spare g.M.SortedMaps.limit core c.requires.owes.0 c.requires.owes.1 c.requires.owes.2 c.args.session h o own.txn own.there,
        back_there g.M.SortedMaps.maps g.M.SortedMaps.spare g.M.SortedMaps.limit core c.requires.owes.0 c.requires.owes.1 c.requires.owes.2 c.args.session h o,
      ),
    )

pub returns-clause-paid : goal.returns-clause-paid
returns-clause-paid g c = λ s l texts a h o.
    let core = c.args.core.now in
    let i = c.args.session in
    let x = c.add_first.new.core in
    let rest = c.add_first.ensures.rest in
    let own = mine g.M.SortedMaps.maps g.M.SortedMaps.spare g.M.SortedMaps.limit core s l texts i h o in
    let there : open_at x.book.opens i ≡ Some own.txn = ap (λ (y : CoreState g.row.M.Denot). open_at y.book.opens i) rest ∙ own.there in
    subst (λ (y : CoreState g.row.M.Denot). Holds g.M.SortedMaps.maps g.M.SortedMaps.spare g.M.SortedMaps.limit (record y { book = c.paid.new.self; wants = c.pay.new.self; next = y.next + 1 }) (does the_views s i Pays) (logs s i a Pays l) texts) (sym rest)
    (paid_holds g.M.SortedMaps.maps g.M.SortedMaps.spare g.M.SortedMaps.limit core s l texts i h x.store.tables x.store.views c.add_first.ensures.limit c.add_first.ensures.seats o a c.paid.new.self c.pay.new.self c.in_ok-before.before c.book_law.ensures
    c.in_ok-before.ensures.room (c.in_ok-before.ensures.before s l texts o h)
    (subst (λ (y : CoreState g.row.M.Denot). (w : List Want) (ws : List (List Want)) → wants_at y.wants i ≡ w ∷ ws → wants_at c.pay.new.self i ≡ ws) rest c.pay.ensures.own)
    (subst (λ (y : CoreState g.row.M.Denot). (j : ℕ) → j ≢ i → wants_at c.pay.new.self j ≡ wants_at y.wants j) rest c.pay.ensures.others)
    c.add_first.ensures.spare
    (subst (λ (y : CoreState g.row.M.Denot). Rattle.data_store.specs.Held.IsHeld y.store.catalog (g.M.SortedMaps.maps x.store.tables) x.store.views (Rattle.data_changes.specs.Effects.with_pay (told s texts) i o.first)) rest (c.in_ok-before.ensures.paid s l texts o h))
    (subst (λ (y : CoreState g.row.M.Denot). Changes y.book c.paid.new.self i (with_pay (txn_of own.txn) o.first o.others c.in_ok-before.before y.next)) rest
    (c.paid.ensures own.txn there o.first o.others (owed_there g.M.SortedMaps.maps g.M.SortedMaps.spare g.M.SortedMaps.limit core s l texts i h o))))
