use Rattle.std.proofs.Common.{◌≡◌, ◌∙◌, ℕ, List, eqb, ap, subst, sym, rules, true, arith, length, slice_index_or}
use Rattle.std.specs.Prelude.{string_bytes}
use Rattle.std.specs.Cmp.Lexicographic.{pointwise}
use Rattle.outside.specs.declared.closed.ClosedDisk.{ClosedDisk}
use Rattle.outside.specs.Closed.{is_named}
use Rattle.outside.proofs.Closings.{found, none_found, same_item}
use Rattle.outside.proofs.finding.place_of.Goals as goal

pub returns-then-eq-clause-first : goal.returns-then-eq-clause-first
returns-then-eq-clause-first c = λ d.
    let at : ClosedDisk = slice_index_or c.args.closed.now c.loop-i.i c.index-closed-i.result in
    let text : c.as_str.result.now ≡ string_bytes at.name = c.as_str.ensures.value in
    let named : is_named c.args.name.now at ≡ true = ap (λ (t : List ℕ). pointwise eqb t c.args.name.now) (sym text) ∙ sym c.eq.ensures ∙ c.if-eq.true in
    let same : at ≡ slice_index_or c.args.closed.now c.loop-i.i d = same_item c.args.closed.now c.loop-i.i c.index-closed-i.result d (search rules) in
    let here : is_named c.args.name.now (slice_index_or c.args.closed.now c.loop-i.i d) ≡ true = subst (λ (p : ClosedDisk). is_named c.args.name.now p ≡ true) same named in
    found c.args.closed.now c.args.name.now c.loop-i.i d (search rules) (c.loop-i.invariant d) here

pub returns-clause-place : goal.returns-clause-place
returns-clause-place c =
    let end : c.loop-i.i ≡ length c.args.closed.now = search rules in
    none_found c.args.closed.now c.args.name.now (λ d j less. c.loop-i.invariant d j (omega (arith, end, less)))
