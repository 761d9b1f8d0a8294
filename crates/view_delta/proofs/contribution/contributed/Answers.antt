use Rattle.std.proofs.Common.{refl, sym, subst, List}
use Rattle.iv_types.specs.declared.value.Kind.{Kind}
use Rattle.iv_types.specs.Encoding.{FitAll}
use Rattle.iv_meaning.specs.Objects.{schema_of, view_tree}
use Rattle.iv_meaning.specs.Query.{values_at}
use Rattle.row_eval.specs.Seen.{rows_of}
use Rattle.view_delta.specs.Owing.{AddsOne}
use Rattle.view_delta.proofs.Combined.{group_fits, sums_huge}
use Rattle.view_delta.proofs.contribution.contributed.Goals as goal

pub contribution-requires : goal.contribution-requires
contribution-requires c = subst (λ (ks : List Kind). FitAll ks (values_at c.args.view.now.group (rows_of c.args.rows))) (sym c.requires.kinds)
    (group_fits (schema_of c.args.catalog.now) (view_tree c.args.view.now) (rows_of c.args.rows) c.requires.fits)

pub returns-clause-one : goal.returns-clause-one
returns-clause-one c = subst AddsOne (sym c.in_ok-contribution.ensures)
    (record { count = refl; sums = sums_huge (schema_of c.args.catalog.now) (view_tree c.args.view.now) (rows_of c.args.rows) c.requires.fits c.args.view.now.sums })
