use Rattle.std.proofs.Common.{rules, ◌≡◌, ◌<◌, ◌≤◌, ◌^◌, ℕ, Some, sym, subst, arith, false}
use Rattle.std.specs.Ordering.{is_lt}
use Rattle.std.specs.BTreeMap as tree
use Rattle.live_records.specs.Keyed.{key_cmp}
use Rattle.live_records.proofs.Keys.{entry_of, in_bounds, second_at_most, small_number, none_under}
use Rattle.live_records.proofs.kept.LiveRecords.latest.Goals as goal

pub returns-in-Some-clause-latest : goal.returns-in-Some-clause-latest
returns-in-Some-clause-latest c =
    let range = c.range-own.ensures.in_range (search rules) in
    let live = c.args.self.now in
    let t = c.args.transaction in
    let key = c.in-Some.field-0-0.now in
    let r = c.in-Some.record.now in
    let last = range.3 (key, r) c.next_back.new.self c.in-Some.ensures.steps in
    let own : key.0 ≡ t = entry_of t _ _ key c.new.ensures.start c.new.ensures.end last.0.0 last.0.1 in
    let keyed = live.keyed key.0 key.1 r last.1 in
    let there : tree.get key_cmp live.records (t, key.1) ≡ Some r = subst (λ (u : ℕ). tree.get key_cmp live.records (u, key.1) ≡ Some r) own last.1 in
    record {
      of_it = subst (λ (u : ℕ). r.transaction ≡ u) own keyed.0;
      kept = subst (λ (n : ℕ). tree.get key_cmp live.records (t, n) ≡ Some r) (sym keyed.1) there;
      latest = λ n some.
          let lt : n < 2 ^ 64 = small_number live.records live.keyed t n some in
          let behind = range.4 (key, r) c.next_back.new.self c.in-Some.ensures.steps (t, n) (in_bounds t n _ _ c.new.ensures.start c.new.ensures.end lt) some in
          let most : n ≤ key.1 = second_at_most t key.1 n (subst (λ (u : ℕ). is_lt (key_cmp (u, key.1) (t, n)) ≡ false) own behind) in
          omega (arith, most, keyed.1);
    }

pub returns-in-None-clause-nothing : goal.returns-in-None-clause-nothing
returns-in-None-clause-nothing c n =
    let range = c.range-own.ensures.in_range (search rules) in
    let live = c.args.self.now in
    none_under live.records live.keyed c.args.transaction n (λ lt.
    range.5 c.in-None.ensures.steps.0 (c.args.transaction, n) (in_bounds c.args.transaction n _ _ c.new.ensures.start c.new.ensures.end lt))
