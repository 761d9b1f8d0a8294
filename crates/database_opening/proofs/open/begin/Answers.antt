use Rattle.std.proofs.Common.{refl, sym, ap, subst, ◌∙◌, arith}
use Rattle.txn_machine.specs.State.{opened_state}
use Rattle.txn_machine.specs.Store.{opened}
use Rattle.core_recording.specs.Giving.{IsSaved}
use Rattle.log_journal.specs.Standing.{Has, disk_of}
use Rattle.log_journal.specs.declared.journal.LogJournal.{LogJournal}
use Rattle.database_opening.specs.Opened.{opening_of}
use Rattle.core_journal.specs.Records.{Saved}
use Rattle.ordered_index.specs.Tree.{Tree}
use Rattle.engine_core.specs.Standing.{IsOnDisk}
use Rattle.engine_core.specs.declared.engine.Core.{Core}
use Rattle.database_opening.proofs.Saving.{saved_by, lasts_from}
use Rattle.database_opening.proofs.open.begin.Goals as goal

pub open-requires-clause-stands : goal.open-requires-clause-stands
open-requires-clause-stands g c κs =
    let can = c.requires.can in
    (opening_of c.args.header.now can.1.texts c.args.next 0 0, can.0.db, can.0.view, can.1.opens 0 0)

pub returns-in-Ok-clause-opened : goal.returns-in-Ok-clause-opened
returns-in-Ok-clause-opened g c = λ p can.
    let faults = g.D.Disk.faults (disk_of c.args.journal) in
    let moment = g.D.Disk.moment (disk_of c.args.journal) in
    let opening = opening_of c.args.header.now can.texts c.args.next faults moment in
    let s = opened_state opening (opened p.db p.view) in
    let stands = c.in-Ok.ensures.stands opening p.db p.view (can.opens faults moment) in
    let has = c.requires.has in
    let few = has.saves in
    let saved = subst (IsSaved s) (sym has.saved) (saved_by c.args.store c.args.header.now c.args.commits c.args.next p can faults moment) in
    record {
      opening = opening;
      was_opened = (can.opens faults moment).was_opened;
      stands = subst (λ (core : Core Tree (LogJournal g.row.D.Denot)). IsOnDisk g.D.Disk.is_told g.D.Disk.size_of g.D.Disk.seen g.D.Disk.may_leave g.D.Disk.moment g.D.Disk.left_since g.D.Disk.faults core s) (sym c.on.ensures)
          (record {
            is_in = record {
              stands = stands;
              records = has.records;
              behind = λ runs. record { has_them = has.has; used = has.used; same_limit = has.limit ∙ stands.opening.log_is; same_image = has.image_limit ∙ stands.opening.data_is };
              few = omega (arith, few);
              well = λ runs. refl;
            };
            pages = p;
            lasts = lasts_from opening p (can.opens faults moment).was_opened can.create has.records saved (ap (λ (x : Saved). x.carried) has.saved) has.flushed has.waiting
                g.D.Disk.is_told g.D.Disk.size_of g.D.Disk.seen g.D.Disk.may_leave g.D.Disk.moment g.D.Disk.left_since g.D.Disk.faults g.met.D.Disk.only_now c.args.journal refl has.has;
          });
      records = has.records;
      has = subst (λ (core : Core Tree (LogJournal g.row.D.Denot)). Has g.D.Disk.is_told g.D.Disk.size_of g.D.Disk.seen g.D.Disk.may_leave core.journal has.records) (sym c.on.ensures) has.has;
      saved = saved;
      flushed = has.flushed;
      waiting = has.waiting;
    }

pub returns-in-Ok-clause-disk : goal.returns-in-Ok-clause-disk
returns-in-Ok-clause-disk g c = ap (λ (core : Core Tree (LogJournal g.row.D.Denot)). disk_of core.journal) c.on.ensures
