use Rattle.std.proofs.Common.{◌≡◌, ◌||◌, ap, ◌∙◌, rules, tests}
use Rattle.std.proofs.lemmas.Iterator.{YieldsList-from_slice}
use Rattle.std.proofs.lemmas.Iterator.Search.{any_from_yields_List}
use Rattle.std.specs.List.{list_any}
use Rattle.iv_meaning.specs.Objects.{object_of}
use Rattle.bind_resolve.specs.declared.resolved.Joined.{Joined}
use Rattle.bind_check.specs.Counting.{is_a}
use Rattle.bind_check.proofs.SeenLemmas.{any_source}
use Rattle.bind_check.proofs.objects.names_a.Goals as goal

pub returns-else-is_a : goal.returns-else-is_a
returns-else-is_a c =
    let joined : c.any-joined.result ≡ list_any (λ (j : Joined). is_a c.args.kind (object_of j.object.now)) c.args.query.now.joins = any_from_yields_List (λ (j : Joined). is_a c.args.kind (object_of j.object.now)) _ _ c.any-joined.result c.any-joined.ensures.ran (YieldsList-from_slice c.args.query.now.joins cc) (λ x b q k. search (rules, tests)) in
    any_source (is_a c.args.kind) c.args.query.now _
    (joined ∙ ap (λ t. t || list_any (λ (j : Joined). is_a c.args.kind (object_of j.object.now)) c.args.query.now.joins) c.if-is_a.ensures)
