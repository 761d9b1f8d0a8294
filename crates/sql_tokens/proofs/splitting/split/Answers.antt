use Rattle.std.proofs.Common.{◌≡◌, ◌∙◌, ◌+◌, List, ℕ, sym, ap, subst, arith, rules, length-drop}
use Rattle.std.proofs.lemmas.List.{take_rest}
use Rattle.std.specs.List.{AllByRecursion}
use Rattle.iv_types.specs.Tokens.{Symbol, begins_comment, first_token}
use Rattle.sql_tokens.specs.View.{Spans}
use Rattle.sql_tokens.specs.Scan.{spelled}
use Rattle.sql_tokens.proofs.Splits.{over_blank, at_comment, at_unread, over_token, at_end, spans_more}
use Rattle.sql_tokens.proofs.splitting.split.Goals as goal

pub loop-at-preserved-then-is_blank : goal.loop-at-preserved-then-is_blank
loop-at-preserved-then-is_blank c = record {
  within = omega arith;
  spans = c.loop-at.invariant.spans;
  same = over_blank c.args.text.now c.loop-at.tokens.items c.loop-at.at c.loop-at-test.true (sym c.is_blank.ensures ∙ c.if-is_blank.true) c.loop-at.invariant.same;
}

pub returns-then-begins_comment : goal.returns-then-begins_comment
returns-then-begins_comment c =
    let text = c.args.text.now in
    record {
      read = at_comment text c.loop-at.tokens.items c.loop-at.at c.loop-at-test.true (sym c.is_blank.ensures ∙ c.if-is_blank.false)
          (ap begins_comment (sym (take_rest text c.loop-at.at)) ∙ sym c.begins_comment.ensures ∙ c.if-begins_comment.true) c.loop-at.invariant.same;
      spans = c.loop-at.invariant.spans;
    }

pub returns-then-eq : goal.returns-then-eq
returns-then-eq c =
    let text = c.args.text.now in
    let first = subst (λ (l : List ℕ). spelled l c.first-kind.result ≡ first_token l) (take_rest text c.loop-at.at) c.first-kind.ensures.read in
    record {
      spans = subst (AllByRecursion (Spans text)) (sym c.in_ok-push.ensures.items) (spans_more text c.loop-at.tokens.items _ c.loop-at.invariant.spans (ap (λ (x : Symbol × ℕ). c.loop-at.at + x.1) first));
      read = at_unread text c.loop-at.tokens.items _ c.loop-at.at _ c.loop-at-test.true (sym c.is_blank.ensures ∙ c.if-is_blank.false)
          (ap begins_comment (sym (take_rest text c.loop-at.at)) ∙ sym c.begins_comment.ensures ∙ c.if-begins_comment.false)
          first
          (search rules) c.in_ok-push.ensures.items c.loop-at.invariant.same;
    }

pub loop-at-preserved : goal.loop-at-preserved
loop-at-preserved c =
    let text = c.args.text.now in
    let first = subst (λ (l : List ℕ). spelled l c.first-kind.result ≡ first_token l) (take_rest text c.loop-at.at) c.first-kind.ensures.read in
    record {
      spans = subst (AllByRecursion (Spans text)) (sym c.in_ok-push.ensures.items) (spans_more text c.loop-at.tokens.items _ c.loop-at.invariant.spans (ap (λ (x : Symbol × ℕ). c.loop-at.at + x.1) first));
      within = omega (arith, c.first-kind.ensures.within, length-drop c.loop-at.at text);
      same = over_token text c.loop-at.tokens.items _ c.loop-at.at c.first-kind.result c.loop-at-test.true (sym c.is_blank.ensures ∙ c.if-is_blank.false)
          (ap begins_comment (sym (take_rest text c.loop-at.at)) ∙ sym c.begins_comment.ensures ∙ c.if-begins_comment.false)
          first
          (search rules) c.in_ok-push.ensures.items c.loop-at.invariant.same;
    }

pub returns : goal.returns
returns c = record {
  read = at_end c.args.text.now c.loop-at.tokens.items c.loop-at.at c.loop-at-test.false c.loop-at.invariant.same;
  spans = c.loop-at.invariant.spans;
}
