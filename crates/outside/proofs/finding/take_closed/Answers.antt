use Rattle.std.proofs.Common.{◌≡◌, ◌∙◌, ◌≤◌, ap, subst, sym, rules, true, false, List}
use Rattle.std.specs.Prelude.{string_bytes}
use Rattle.std.specs.Cmp.Lexicographic.{bytes_decides}
use Rattle.outside.specs.declared.closed.ClosedDisk.{ClosedDisk}
use Rattle.outside.specs.Closed.{is_named, lies_in, times_in}
use Rattle.outside.proofs.Closings.{test_fails, without_other, none_times, without_fewer, without_only}
use Rattle.outside.proofs.finding.take_closed.Goals as goal

pub returns-clause-others : goal.returns-clause-others
returns-clause-others c = λ other ne.
    let name : string_bytes c.remove.result.name ≡ c.args.name.now = search rules in
    let apart : is_named other c.remove.result ≡ false = test_fails _ _ (bytes_decides (string_bytes c.remove.result.name) other) (λ e. ne (sym e ∙ name)) in
    ap (λ (ps : List ClosedDisk). lies_in ps other) c.remove.ensures.items
    ∙ without_other _ other _ c.remove.result (search rules) (subst (λ (p : ClosedDisk). is_named other p ≡ false) c.remove.ensures.value apart)

pub returns-in_err-at-clause-gone : goal.returns-in_err-at-clause-gone
returns-in_err-at-clause-gone c = none_times c.args.closed.now.items c.args.name.now (search rules)

pub returns-clause-gone : goal.returns-clause-gone
returns-clause-gone c =
    let name : string_bytes c.remove.result.name ≡ c.args.name.now = search rules in
    let named : is_named c.args.name.now c.remove.result ≡ true = (bytes_decides (string_bytes c.remove.result.name) c.args.name.now).1 name in
    ap (λ (ps : List ClosedDisk). times_in ps c.args.name.now) c.remove.ensures.items
    ∙ without_only _ c.args.name.now _ c.remove.result (search rules) (c.requires c.args.name.now) (subst (λ (p : ClosedDisk). is_named c.args.name.now p ≡ true) c.remove.ensures.value named)

pub returns-clause-fewer : goal.returns-clause-fewer
returns-clause-fewer c = λ n.
    subst (λ (ps : List ClosedDisk). times_in ps n ≤ times_in c.args.closed.now.items n) (sym c.remove.ensures.items) (without_fewer _ n _ c.remove.result (search rules))
