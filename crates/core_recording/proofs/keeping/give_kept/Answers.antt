use Rattle.std.proofs.Common.{◌≡◌, true, false, refl, sym, subst, ◌∙◌}
use Rattle.txn_machine.specs.Ghosts.{the_views}
use Rattle.txn_machine.specs.Steps.{log_after}
use Rattle.txn_machine.specs.Store.{run}
use Rattle.txn_book.specs.Acts.{answer_of}
use Rattle.core_recording.specs.Kept.{is_kept}
use Rattle.core_recording.proofs.Told.{quiet_records, kept_told, can_give, gives_it}
use Rattle.core_recording.proofs.keeping.give_kept.Goals as goal
use Rattle.core_state.specs.Stands.{texts_after}

pub give_latest-requires-after_bounds : goal.give_latest-requires-after_bounds
give_latest-requires-after_bounds g c κs within =
    let a = c.requires.0 in
    let u = c.requires.2 in
    let s = u.state in
    let i = c.args.session in
    let said = answer_of c.args.said.now in
    let core = c.args.core.now in
    let is : is_kept said ≡ true = sym c.has_kept-kept.ensures ∙ c.if-not-kept.false in
    let it = kept_told c.short_law.ensures s i a said u.told.effects u.told.reached u.may c.requires.1 is u.told.says in (
      run the_views s.store i u.told.effects,
      log_after s i a said u.told.effects,
      texts_after s a said,
      u.records,
      it.k,
      u.told.holds,
      it.latest,
      u.behind.has_them,
      can_give g.M.SortedMaps.maps g.M.SortedMaps.spare g.M.SortedMaps.limit c.short_law.ensures s i a said core u.told u.may c.requires.1 is (g.J.Journal.limit c.args.journal.now) u.behind.same_limit u.records u.behind.used,
    )

pub returns-then-not-kept-clause-gave : goal.returns-then-not-kept-clause-gave
returns-then-not-kept-clause-gave g c = λ s a keeps may told rs has.
    let said = answer_of c.args.said.now in
    let is : is_kept said ≡ false = sym c.has_kept-kept.ensures ∙ c.if-not-kept.true in
    subst (g.J.Journal.has c.args.journal.now) (sym (quiet_records s c.args.session rs a said told.effects keeps is told.says)) has

pub returns-clause-gave : goal.returns-clause-gave
returns-clause-gave g c = λ s a keeps may told rs has.
    let i = c.args.session in
    let said = answer_of c.args.said.now in
    let core = c.args.core.now in
    let is : is_kept said ≡ true = sym c.has_kept-kept.ensures ∙ c.if-not-kept.false in
    let it = kept_told c.short_law.ensures s i a said told.effects told.reached may keeps is told.says in
    subst (g.J.Journal.has c.give_latest.new.journal) (gives_it g.M.SortedMaps.maps g.M.SortedMaps.spare g.M.SortedMaps.limit c.short_law.ensures s i a said core told may keeps is rs)
    (c.give_latest.ensures.has (run the_views s.store i told.effects) (log_after s i a said told.effects) (texts_after s a said) rs it.k it.latest told.holds has)

pub returns-clause-limit : goal.returns-clause-limit
returns-clause-limit g c = c.give_latest.ensures.limit

pub returns-clause-medium : goal.returns-clause-medium
returns-clause-medium g c = c.give_latest.ensures.medium

pub returns-then-not-kept-clause-limit : goal.returns-then-not-kept-clause-limit
returns-then-not-kept-clause-limit g c = refl

pub returns-then-not-kept-clause-medium : goal.returns-then-not-kept-clause-medium
returns-then-not-kept-clause-medium g c = refl
