use Rattle.std.proofs.Common.{sym, ◌∙◌}
use Rattle.table_store.proofs.IndexKeys.{front_there, front_none}
use Rattle.table_store.proofs.keys.after_place.Goals as goal

pub returns-in-Some : goal.returns-in-Some
returns-in-Some c = λ row places f is.
    let front = front_there c.args.table.now c.args.place places row c.in-Some.kind f (sym c.in-Some.ensures) in
    c.after_column.ensures front.value _ front.fits (is ∙ front.key_is)

pub returns-in-None : goal.returns-in-None
returns-in-None c = λ row places f is. is ∙ front_none c.args.table.now c.args.place places row f (sym c.in-None.ensures)
