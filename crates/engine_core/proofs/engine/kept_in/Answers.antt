use Rattle.std.proofs.Common.{Some, ap, ◌∙◌, length}
use Rattle.std.specs.Option.{option_map}
use Rattle.txn_machine.specs.Store.{schema_of}
use Rattle.txn_book.specs.Opens.{open_at}
use Rattle.txn_book.specs.declared.open_table.Open.{Open}
use Rattle.engine_core.proofs.Steps.{kept_as}
use Rattle.engine_core.proofs.engine.kept_in.Goals as goal

pub returns-in-Some : goal.returns-in-Some
returns-in-Some g c = λ s h.
    let core = c.args.state.now in
    let i = c.args.session in
    ap Some (c.len.ensures ∙ c.in-Some.txn.now.kept.ok.0)
    ∙ (ap (option_map (λ (t : Open). length t.kept.items)) c.in-Some.ensures ∙ kept_as (schema_of s.store) (open_at core.book.opens i) (s.store.open_of i) (s.log.logged i) (h.holds.book.txns i c.requires))

pub returns-in-None : goal.returns-in-None
returns-in-None g c = λ s h.
    let core = c.args.state.now in
    let i = c.args.session in
    ap (option_map (λ (t : Open). length t.kept.items)) c.in-None.ensures ∙ kept_as (schema_of s.store) (open_at core.book.opens i) (s.store.open_of i) (s.log.logged i) (h.holds.book.txns i c.requires)
