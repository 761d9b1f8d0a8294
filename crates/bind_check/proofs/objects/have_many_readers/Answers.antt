use Rattle.std.proofs.Common.{◌≡◌, nat_lt, ◌+◌, ◌||◌, ap, ◌∙◌, rules, tests}
use Rattle.std.proofs.lemmas.Iterator.{YieldsList-from_slice}
use Rattle.std.proofs.lemmas.Iterator.Search.{any_from_yields_List}
use Rattle.std.specs.List.{list_any}
use Rattle.iv_meaning.specs.Schema.{Object}
use Rattle.iv_meaning.specs.Objects.{object_of, schema_of}
use Rattle.iv_meaning.specs.Shape.{object_number, readers}
use Rattle.bind_resolve.specs.declared.resolved.Joined.{Joined}
use Rattle.bind_check.proofs.SeenLemmas.{any_source}
use Rattle.bind_check.proofs.objects.have_many_readers.Goals as goal

pub returns-else-has_many_readers : goal.returns-else-has_many_readers
returns-else-has_many_readers c =
    let joined : c.any-joined.result ≡ list_any (λ (j : Joined). nat_lt 8 (readers (schema_of c.args.catalog.now) (object_number (object_of j.object.now)) + 1)) c.args.query.now.joins = any_from_yields_List (λ (j : Joined). nat_lt 8 (readers (schema_of c.args.catalog.now) (object_number (object_of j.object.now)) + 1)) _ _ c.any-joined.result c.any-joined.ensures.ran (YieldsList-from_slice c.args.query.now.joins cc) (λ x b q k. search (rules, tests)) in
    any_source (λ (o : Object). nat_lt 8 (readers (schema_of c.args.catalog.now) (object_number o) + 1)) c.args.query.now _
    (joined ∙ ap (λ t. t || list_any (λ (j : Joined). nat_lt 8 (readers (schema_of c.args.catalog.now) (object_number (object_of j.object.now)) + 1)) c.args.query.now.joins) c.if-has_many_readers.ensures)
