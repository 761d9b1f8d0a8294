use Rattle.std.proofs.Common.{◌≡◌, ap, ◌∙◌}
use Rattle.std.specs.FinMap.{insert}
use Rattle.ghost_rows.specs.Rows.{OpenRows, row_at}
use Rattle.ghost_rows.proofs.TableLemmas.{put_changes, is_some_of}
use Rattle.ghost_rows.proofs.table.Table.lift.Goals as goal

module _ (c : goal.After-replace) where
  is : c.replace.new.self.entries ≡ insert c.args.self.now (c.args.view, c.args.group.now) c.blank-blank.result
  is = c.replace.ensures.entries ∙ ap (λ (l : OpenRows). insert l (c.args.view, c.args.group.now) c.blank-blank.result) c.self.view_is

pub returns-clause-there : goal.returns-clause-there
returns-clause-there c =
    is_some_of _ c.blank-blank.result
    (ap (λ (l : OpenRows). row_at l (c.args.view, c.args.group.now)) (is c) ∙ (put_changes c.args.self.now (c.args.view, c.args.group.now) c.blank-blank.result).here)

pub returns-clause-others : goal.returns-clause-others
returns-clause-others c = λ q n. ap (λ (l : OpenRows). row_at l q) (is c) ∙ (put_changes c.args.self.now (c.args.view, c.args.group.now) c.blank-blank.result).others q n
