use Rattle.std.proofs.Common.{IsTrue, refl, sym, subst}
use Rattle.std.proofs.lemmas.Result.{IfOk-weaker}
use Rattle.core_schema.proofs.Fitting.{may_enter, too_full}
use Rattle.iv_types.specs.declared.refusal.EngineRefusal.TheVariants.{HistoryFull}
use Rattle.txn_machine.specs.Answers as answer
use Rattle.core_schema.proofs.Recorded.{left_alone}
use Rattle.core_schema.proofs.defining.enter_kept.Goals as goal

pub enter-requires-after_bounds : goal.enter-requires-after_bounds
enter-requires-after_bounds g c κs within =
    let s = c.requires.0 in (
      s,
      c.requires.1,
      c.requires.2,
      may_enter g.M.SortedMaps.maps g.M.SortedMaps.spare g.M.SortedMaps.limit s c.args.core.now c.args.session c.requires.1 c.args.definition c.args.first c.args.text c.requires.3 c.book_law.ensures c.history_bytes-kept.result c.entry_need-need.result c.as_slice.result.now c.history_bytes-kept.ensures c.as_slice.ensures c.entry_need-need.ensures
          (c.fits.ensures.0 (subst IsTrue (sym c.if-fits.true) refl)),
      c.requires.4,
    )

pub returns-then-fits-clause-did : goal.returns-then-fits-clause-did
returns-then-fits-clause-did g c = IfOk-weaker c.enter.result _ _
    (λ said did s statement f. did s statement (may_enter g.M.SortedMaps.maps g.M.SortedMaps.spare g.M.SortedMaps.limit s c.args.core.now c.args.session statement c.args.definition c.args.first c.args.text f c.book_law.ensures c.history_bytes-kept.result c.entry_need-need.result c.as_slice.result.now c.history_bytes-kept.ensures c.as_slice.ensures c.entry_need-need.ensures
    (c.fits.ensures.0 (subst IsTrue (sym c.if-fits.true) refl)))) c.enter.ensures.did

pub returns-clause-did : goal.returns-clause-did
returns-clause-did g c = λ s statement f.
    left_alone g.M.SortedMaps.maps g.M.SortedMaps.spare g.M.SortedMaps.limit g.J.Journal.has g.J.Journal.limit g.J.Journal.medium g.J.Journal.leaves c.args.core.now c.args.journal.now s c.args.session statement (answer.Refused (HistoryFull c.history_bytes-kept.result c.entry_need-need.result)) tt
    (too_full g.M.SortedMaps.maps g.M.SortedMaps.spare g.M.SortedMaps.limit s c.args.core.now c.args.session statement c.args.definition c.args.first c.args.text f c.book_law.ensures c.history_bytes-kept.result c.entry_need-need.result c.as_slice.result.now c.history_bytes-kept.ensures c.as_slice.ensures c.entry_need-need.ensures
    (λ room. let t = subst IsTrue c.if-fits.false (c.fits.ensures.1 room) in absurd (cc)))
