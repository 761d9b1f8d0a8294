use Rattle.std.proofs.Common.{◌≡◌, ◌∙◌, [], ℕ, List, ap, sym, map, subst, arith, rules}
use Rattle.std.specs.Prelude.{string_bytes}
use Rattle.command_words.proofs.PartLaws.{Walked, stuck, again, goes, ends, drop_texts, some_texts, no_texts, part_within, as_many}
use Rattle.command_words.proofs.init.is_init.Goals as goal

pub returns-in_default : goal.returns-in_default
returns-in_default c = (
  λ t. absurd (cc),
  λ h. absurd (stuck _ (map string_bytes c.loop-rest.rest.now) c.loop-rest.met c.loop-rest.invariant (some_texts string_bytes c.loop-rest.rest.now (search rules)) c.in_default.ensures h),
)

pub returns-in_default-with : goal.returns-in_default-with
returns-in_default-with c = (
  λ t. absurd (cc),
  λ h. absurd (again _ (map string_bytes c.loop-rest.rest.now) c.loop-rest.met _ _ c.loop-rest.invariant c.in-Some.ensures c.in_default-with.ensures h),
)

pub loop-rest-preserved : goal.loop-rest-preserved
loop-rest-preserved c =
    let next = goes _ (map string_bytes c.loop-rest.rest.now) c.loop-rest.met c.in-Some-with.more c.in-Some.part.words _ c.loop-rest.invariant c.in-Some.ensures c.in-Some-with.ensures.0 c.in-Some-with.ensures.1 in
    subst (λ (xs : List (List ℕ)). Walked (map string_bytes c.args.words.now) xs c.in-Some-with.more) (sym (drop_texts string_bytes c.in-Some.part.words c.loop-rest.rest.now) ∙ ap (map string_bytes) (sym c.split_at.ensures.back)) next

pub returns : goal.returns
returns c =
    let none : map string_bytes c.loop-rest.rest.now ≡ [] = no_texts string_bytes c.loop-rest.rest.now (search rules) in
    let e = ends _ (map string_bytes c.loop-rest.rest.now) c.loop-rest.met c.loop-rest.invariant none in
    (e.0, e.1)

pub split_at-requires : goal.split_at-requires
split_at-requires c = omega (arith, part_within (map string_bytes c.loop-rest.rest.now) _ c.in-Some.part.words c.in-Some.ensures, as_many string_bytes c.loop-rest.rest.now)
