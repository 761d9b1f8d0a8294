use Rattle.std.proofs.Common.{sym, ap, subst, ◌∙◌}
use Rattle.std.specs.FinMap.{insert}
use Rattle.table_laws.specs.Place.{Place}
use Rattle.ghost_rows.specs.Rows.{OpenRows, ChangesRow}
use Rattle.ghost_rows.proofs.TableLemmas.{put_changes}
use Rattle.ghost_rows.proofs.table.Table.insert.Goals as goal

pub returns-clause-ok : goal.returns-clause-ok
returns-clause-ok c =
    let place : Place = (c.args.view, c.args.group) in
    subst (ChangesRow place c.args.row c.args.self.now) (sym (c.insert_into.ensures.entries ∙ ap (λ (l : OpenRows). insert l place c.args.row) c.self.view_is)) (put_changes c.args.self.now place c.args.row)
