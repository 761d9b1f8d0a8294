use Rattle.std.proofs.Common.{◌≤◌, ◌++◌, length, append-nil}
use mathlib.Core.Path.{sym, ap, subst, ◌∙◌}
use Rattle.std.specs.Option.{option_to_list}
use Rattle.std.proofs.lemmas.Option.{slice_get_past}
use Rattle.std.proofs.lemmas.List.{length-map}
use Rattle.iv_types.specs.declared.statement.ColumnDef.{ColumnDef}
use Rattle.iv_types.specs.Encoding.{kinds_of}
use Rattle.store_cases.proofs.table_facts.push_kind.Goals as goal

pub returns-in-None : goal.returns-in-None
returns-in-None c =
    let t = c.args.table.now in
    let past : length t.columns ≤ c.args.place = subst (λ xs. length xs ≤ c.args.place) c.as_slice.ensures c.in-None.ensures.lookup.3 in
    let over : length (kinds_of t) ≤ c.args.place = subst (λ n. n ≤ c.args.place) (sym (length-map t.columns (λ (column : ColumnDef). column.kind))) past in
    sym (append-nil c.args.kinds.now) ∙ ap (λ o. c.args.kinds.now ++ option_to_list o) (sym (slice_get_past (kinds_of t) c.args.place over))
