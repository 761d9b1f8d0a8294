use Rattle.std.proofs.Common.{sym, ap, subst, ◌∙◌}
use Rattle.txn_machine.specs.Acts as act
use Rattle.txn_machine.specs.May.{MayAct}
use Rattle.txn_machine.specs.Steps.{asked}
use Rattle.txn_book.specs.Acts.{answer_of}
use Rattle.data_store.specs.Contents.{contents_of}
use Rattle.data_changes.proofs.Answered.{if_ok_as}
use Rattle.core_state.specs.Stands.{Told, its_texts}
use Rattle.core_effects.proofs.Results.{on_err_as}
use Rattle.core_changes.proofs.Rightly.{can_be_made, same_act, is_change, asks_same, free_put}
use Rattle.core_changes.proofs.putting.put.Goals as goal

pub put_wants-requires-after_bounds : goal.put_wants-requires-after_bounds
put_wants-requires-after_bounds g c κs within =
    let s = c.requires.0 in
    let h = c.requires.1 in
    let change = c.in_ok-change.change in
    let place = c.in_ok-change.ensures.place in
    let before = c.in_ok-change.ensures.before s.store s.log (its_texts s) h.holds in
    let may = subst (MayAct s.store c.args.session) (same_act s c.args.session c.args.table c.args.key.now c.args.new.now change place) c.requires.2 in
    can_be_made g.M.SortedMaps.maps g.M.SortedMaps.spare g.M.SortedMaps.limit c.args.core.now s c.args.session h change may.1 (is_change s c.args.session c.args.table c.args.key.now c.args.new.now change place before)

pub put_free-requires-after_bounds : goal.put_free-requires-after_bounds
put_free-requires-after_bounds g c κs within =
    let s = c.requires.0 in
    let h = c.requires.1 in
    let may = c.requires.2 in
    (s, free_put s c.args.session c.args.table c.args.key.now c.args.new.now c.in_ok-change.change c.in_ok-change.ensures.place (c.in_ok-change.ensures.before s.store s.log (its_texts s) h.holds) g.M.SortedMaps.maps g.M.SortedMaps.spare g.M.SortedMaps.limit c.args.core.now c.ask_for.new.core h c.in-Ok.ensures.same may c.in_ok-wants.wants c.in-Ok.wants (c.in_ok-wants.ensures (contents_of s.store) h.holds.stored) c.in-Ok.ensures.wants (c.in-Ok.ensures.free s h))

pub returns-in-Ok-clause-told : goal.returns-in-Ok-clause-told
returns-in-Ok-clause-told g c = if_ok_as c.put_free.result _ _
    (λ said told s h may.
    subst (λ a. Told g.M.SortedMaps.maps g.M.SortedMaps.spare g.M.SortedMaps.limit s c.args.session a (answer_of said) c.put_free.new.core) (sym (same_act s c.args.session c.args.table c.args.key.now c.args.new.now c.in_ok-change.change c.in_ok-change.ensures.place))
    (told s (free_put s c.args.session c.args.table c.args.key.now c.args.new.now c.in_ok-change.change c.in_ok-change.ensures.place (c.in_ok-change.ensures.before s.store s.log (its_texts s) h.holds) g.M.SortedMaps.maps g.M.SortedMaps.spare g.M.SortedMaps.limit c.args.core.now c.ask_for.new.core h c.in-Ok.ensures.same may c.in_ok-wants.wants c.in-Ok.wants (c.in_ok-wants.ensures (contents_of s.store) h.holds.stored) c.in-Ok.ensures.wants (c.in-Ok.ensures.free s h)))) c.put_free.ensures.told

pub returns-in-Ok-clause-err : goal.returns-in-Ok-clause-err
returns-in-Ok-clause-err g c = on_err_as c.put_free.result
    (λ err s h may. err s (free_put s c.args.session c.args.table c.args.key.now c.args.new.now c.in_ok-change.change c.in_ok-change.ensures.place (c.in_ok-change.ensures.before s.store s.log (its_texts s) h.holds) g.M.SortedMaps.maps g.M.SortedMaps.spare g.M.SortedMaps.limit c.args.core.now c.ask_for.new.core h c.in-Ok.ensures.same may c.in_ok-wants.wants c.in-Ok.wants (c.in_ok-wants.ensures (contents_of s.store) h.holds.stored) c.in-Ok.ensures.wants (c.in-Ok.ensures.free s h))) c.put_free.ensures.err

pub returns-in-Err-clause-told : goal.returns-in-Err-clause-told
returns-in-Err-clause-told g c = λ s h may.
    let i = c.args.session in
    let change = c.in_ok-change.change in
    let place = c.in_ok-change.ensures.place in
    let before = c.in_ok-change.ensures.before s.store s.log (its_texts s) h.holds in
    let same = same_act s i c.args.table c.args.key.now c.args.new.now change place in
    let asks = asks_same s i c.args.table c.args.key.now c.args.new.now change place before c.in_ok-wants.wants (c.in_ok-wants.ensures (contents_of s.store) h.holds.stored) in
    c.in-Err.ensures.told s (act.Put c.args.table c.args.key.now c.args.new.now) h may.0 (tt, ap (asked s.store i) same ∙ sym asks)
