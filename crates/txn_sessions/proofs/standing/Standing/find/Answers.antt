use Rattle.txn_sessions.proofs.Kept.{kept_at}
use Rattle.std.proofs.Common.{◌+◌, ◌<◌, length, drop, arith}
use mathlib.Core.Path.{refl, sym, ap, ◌∙◌}
use Rattle.script_law.specs.Sessions.{from_marked}
use Rattle.txn_sessions.specs.Standings.{mark_of, marks_of}
use Rattle.txn_sessions.proofs.Saved.{marked_at, is_first, is_later}
use Rattle.txn_sessions.proofs.standing.Standing.find.Goals as goal

pub returns-then-is_named-clause-found : goal.returns-then-is_named-clause-found
returns-then-is_named-clause-found c =
    let saved = c.args.self.now.saved.items in
    let name = c.args.name.now in
    let s = c.index-savepoint.result.now in
    let lt : c.loop-place.place < length saved = omega (arith, c.loop-place-test.true, c.len-place-end.ensures) in
    let here = marked_at saved c.loop-place.place s lt c.index-savepoint.ensures in (
      mark_of s,
      drop (c.loop-place.place + 1) (marks_of saved),
      c.loop-place.invariant ∙ (ap (from_marked name) here ∙ is_first name (mark_of s) (drop (c.loop-place.place + 1) (marks_of saved)) (sym c.if-is_named.ensures)),
      here,
      refl,
    )

pub loop-place-preserved : goal.loop-place-preserved
loop-place-preserved c =
    let saved = c.args.self.now.saved.items in
    let name = c.args.name.now in
    let s = c.index-savepoint.result.now in
    let lt : c.loop-place.place < length saved = omega (arith, c.loop-place-test.true, c.len-place-end.ensures) in
    c.loop-place.invariant
    ∙ (ap (from_marked name) (marked_at saved c.loop-place.place s lt c.index-savepoint.ensures)
    ∙ is_later name (mark_of s) (drop (c.loop-place.place + 1) (marks_of saved)) (sym c.if-is_named.ensures))

pub returns-then-is_named-clause-within : goal.returns-then-is_named-clause-within
returns-then-is_named-clause-within c = λ n h.
    let saved = c.args.self.now.saved.items in
    let lt : c.loop-place.place < length saved = omega (arith, c.loop-place-test.true, c.len-place-end.ensures) in
    kept_at n saved c.loop-place.place c.index-savepoint.result.now lt c.index-savepoint.ensures h.saved
