use Rattle.std.proofs.Common.{◌≡◌, ◌⊎◌, Err, sym, subst}
use Rattle.iv_types.specs.declared.refusal.Refusal.TheVariants.{NoMemory}
use Rattle.iv_types.specs.Printing.{statement_size}
use Rattle.iv_types.specs.Trees.{statement_tree}
use Rattle.iv_meaning.specs.Objects.{schema_of}
use Rattle.iv_meaning.specs.Resolving.{and_then}
use Rattle.iv_meaning.specs.Binding.{checked}
use Rattle.bind_resolve.specs.Seen.{resolved_seen}
use Rattle.sql_bind.proofs.Checked.{refuses}
use Rattle.sql_bind.proofs.binding.bind.Goals as goal

pub returns-in-Err : goal.returns-in-Err
returns-in-Err c =
    subst (λ m. (c.in-Err.refusal ≡ NoMemory) ⊎ (and_then m (checked (schema_of c.args.catalog.now) (statement_size (statement_tree c.args.statement.now))) ≡ Err c.in-Err.refusal)) (sym c.in_ok-resolved.ensures)
    (refuses (schema_of c.args.catalog.now) (statement_size (statement_tree c.args.statement.now)) (resolved_seen c.in_ok-resolved.resolved) c.in-Err.refusal c.in-Err.ensures)
