use Rattle.std.proofs.Common.{sym, refl, subst}
use Rattle.iv_meaning.specs.Objects.{schema_of}
use Rattle.image_refusals.specs.Lines.{rule_line, row_line}
use Rattle.image_opening.specs.declared.fault.OpenFault.{OpenFault}
use Rattle.image_opening.specs.declared.fault.OpenFault.TheVariants as why
use Rattle.view_server.specs.OnDisk.{IsToldOf}
use Rattle.view_server.proofs.OnDisk.{told_line}
use Rattle.view_server.proofs.on_disk.tell_refusal.Goals as goal

pub returns-in-BadImage-clause-told : goal.returns-in-BadImage-clause-told
returns-in-BadImage-clause-told g c = λ before w.
    subst (λ (fault : OpenFault). IsToldOf fault c.tell.result before (g.K.Sink.written c.tell.new.sink)) (sym c.in-BadImage.is)
    (told_line (λ text. text.items) g.K.Sink.written c.args.sink.now c.tell.new.sink (why.BadImage c.in-BadImage.bad) (rule_line c.in-BadImage.bad) refl c.rule_line.result c.rule_line.ensures
    c.tell.result c.tell.ensures.told c.tell.ensures.none before w)

pub returns-in-BadView-clause-told : goal.returns-in-BadView-clause-told
returns-in-BadView-clause-told g c = λ before w.
    subst (λ (fault : OpenFault). IsToldOf fault c.tell-in-BadView.result before (g.K.Sink.written c.tell-in-BadView.new.sink)) (sym c.in-BadView.is)
    (told_line (λ text. text.items) g.K.Sink.written c.args.sink.now c.tell-in-BadView.new.sink (why.BadView c.in-BadView.wrong) (row_line (schema_of c.in-BadView.wrong.catalog) c.in-BadView.wrong.row) refl c.row_line.result c.row_line.ensures
    c.tell-in-BadView.result c.tell-in-BadView.ensures.told c.tell-in-BadView.ensures.none before w)
