use Rattle.std.proofs.Common.{◌≡◌, ◌+◌, ◌++◌, None, MatchOption, deque_len, length, map, filter, drop, arith}
use Rattle.std.specs.Option.{option_to_list}
use Rattle.std.proofs.lemmas.List.{nil_from_length}
use mathlib.Core.Path.{sym, ap, subst, ◌∙◌}
use Rattle.iv_meaning.specs.Statement.{pairs, is_changed}
use Rattle.dml_exec.specs.Tasks.{set_in}
use Rattle.dml_exec.proofs.Pairs.{one_set, none_set}
use Rattle.dml_exec.proofs.pending.set_in.Goals as goal
use Rattle.dml_exec.proofs.pending.set_in.Goals.{in-Some+in_ok-push_set, in_default}

pub loop-row-preserved : goal.loop-row-preserved
loop-row-preserved c = elim c.match-pop_front.branch [
  | in-Some+in_ok-push_set w ↦
      one_set c.args.table.now c.loop-row.found.items c.match-pop_front.found.items c.args.rows.now c.loop-row.row-index c.row-item.result c.loop-row.after.items c.pop_front.new.self.items w.in-Some.after _
      c.loop-row-test.true c.row-item.is (c.pop_front.ensures.items ∙ ap (λ o. option_to_list o ++ c.pop_front.new.self.items) w.in-Some.is)
      (ap (λ q. q.items) w.found-is ∙ w.in_ok-push_set.ensures) c.loop-row.invariant
  | in_default w ↦
      let none : c.pop_front.result ≡ None = w.in_default.is in
      let counts = subst (λ o. MatchOption o ((deque_len c.loop-row.after ≡ 0) × (deque_len c.pop_front.new.self ≡ 0)) (λ _. deque_len c.pop_front.new.self + 1 ≡ deque_len c.loop-row.after)) none c.pop_front.ensures.cases in
      let old : length c.loop-row.after.items ≡ 0 = omega (arith, c.loop-row.after.ok, counts.0) in
      let new : length c.pop_front.new.self.items ≡ 0 = omega (arith, c.pop_front.new.self.ok, counts.1) in
      subst (λ f. f.items ++ map (set_in c.args.table.now) (filter is_changed (pairs (drop (c.loop-row.row-index + 1) c.args.rows.now) c.pop_front.new.self.items)) ≡ map (set_in c.args.table.now) (filter is_changed (pairs c.args.rows.now c.args.after))) (sym w.found-is)
      (none_set c.args.table.now c.loop-row.found.items (drop c.loop-row.row-index c.args.rows.now) (drop (c.loop-row.row-index + 1) c.args.rows.now) c.loop-row.after.items c.pop_front.new.self.items _ (nil_from_length _ old) (nil_from_length _ new) c.loop-row.invariant)
]
