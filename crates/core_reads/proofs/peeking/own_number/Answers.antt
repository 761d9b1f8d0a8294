use Rattle.std.proofs.Common.{◌≡◌, Some, sym, ap, ◌∙◌}
use Rattle.std.specs.Option.{option_copied}
use Rattle.txn_machine.specs.Keeping.{Open}
use Rattle.txn_book.specs.declared.open_table.Open.{Open as BookOpen}
use Rattle.core_state.proofs.Sessions.{own_txn, now_is}
use Rattle.core_reads.proofs.peeking.own_number.Goals as goal

pub returns : goal.returns
returns g c = λ s h o.
    let core = c.args.core.now in
    let own = own_txn g.M.SortedMaps.maps g.M.SortedMaps.spare g.M.SortedMaps.limit core s c.args.session h o in
    let there : Some c.in-Some.txn.now ≡ Some own.txn = sym (ap option_copied c.in-Some.is) ∙ (c.get.ensures ∙ own.there) in
    let same : c.in-Some.txn.now ≡ own.txn = cc in
    ap (λ (t : BookOpen). t.number) same ∙ (own.is.number ∙ ap (λ (t : Open). t.number) (sym (now_is g.M.SortedMaps.maps g.M.SortedMaps.spare g.M.SortedMaps.limit core s c.args.session h o)))
