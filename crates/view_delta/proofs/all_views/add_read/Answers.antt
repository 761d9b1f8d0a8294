use Rattle.std.proofs.Common.{◌∙◌, ◌++◌, sym, ap, refl}
use Rattle.std.proofs.lemmas.Result.{on_ok_weaker}
use Rattle.iv_meaning.specs.Objects.{schema_of}
use Rattle.view_delta.proofs.all_views.add_read.Goals as goal

pub returns : goal.returns
returns g c = on_ok_weaker c.append.result (λ e rows holds.
    e ∙ ap (λ l. c.args.found.now ++ l) (sym (c.in_ok-rows.ensures.rows (record { number = 0; schema = schema_of c.args.catalog.now; rows = rows }) refl (holds c.args.want.now.index)))) c.append.ensures
