use Rattle.std.proofs.Common.{codes, drop, ◌++◌}
use Rattle.std.proofs.lemmas.Bool.Decides.{Decides-eqb}
use Rattle.std.proofs.lemmas.Slice.Eq.{starts_is, strip_prefix_is, strip_suffix_is}
use Rattle.script_run.proofs.Texts.{at_some, at_none, behind, session_first}
use Rattle.script_run.proofs.told.is_rolled_back.Goals as goal

pub returns-in-Some-strip_prefix : goal.returns-in-Some-strip_prefix
returns-in-Some-strip_prefix c =
    let line = c.args.line.now in
    let answer = c.args.answer.now in
    let asks = at_some c.strip_suffix.result c.in-Some.session _ _ (strip_suffix_is Decides-eqb line (codes ": ROLLBACK") c.strip_suffix.result c.strip_suffix.ensures.cases) c.in-Some.is in
    let told = at_some c.strip_prefix.result c.in-Some-strip_prefix.rest _ _ (strip_prefix_is Decides-eqb answer c.in-Some.session.now c.strip_prefix.result c.strip_prefix.ensures.cases) c.in-Some-strip_prefix.is in
    let starts = starts_is Decides-eqb c.in-Some-strip_prefix.rest.now (codes " OK 0\n") c.starts_with.result c.starts_with.ensures.value in (
      λ is. record { session = c.in-Some.session.now; more = drop 6 c.in-Some-strip_prefix.rest.now; asks = asks; told = rw (← starts.0 is) told },
      λ r. starts.1 r.more (behind line answer c.in-Some.session.now c.in-Some-strip_prefix.rest.now asks told r),
    )

pub returns-in-None-strip_prefix : goal.returns-in-None-strip_prefix
returns-in-None-strip_prefix c =
    let line = c.args.line.now in
    let answer = c.args.answer.now in
    let asks = at_some c.strip_suffix.result c.in-Some.session _ _ (strip_suffix_is Decides-eqb line (codes ": ROLLBACK") c.strip_suffix.result c.strip_suffix.ensures.cases) c.in-Some.is in
    let other = at_none c.strip_prefix.result _ _ (strip_prefix_is Decides-eqb answer c.in-Some.session.now c.strip_prefix.result c.strip_prefix.ensures.cases) c.in-None-strip_prefix.is in (
      λ is. absurd (cc),
      λ r. absurd (other (codes " OK 0\n" ++ r.more) (session_first line answer c.in-Some.session.now asks r)),
    )
