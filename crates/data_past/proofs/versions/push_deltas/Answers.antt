use Rattle.std.proofs.Common.{rules, ◌≡◌, ◌+◌, ℕ, List, [], ◌∷◌, ◌++◌, length, reverse, arith, refl, sym, ap, ◌∙◌, length-append}
use Rattle.iv_types.specs.declared.lock.GroupDelta.{GroupDelta}
use Rattle.data_past.specs.Moves.{pushed_all, delta_at}
use Rattle.version_chain.specs.Chains.{pushed}
use Rattle.data_past.proofs.Pushing.{pushed_long, push_next, room_next}
use Rattle.data_past.proofs.versions.push_deltas.Goals as goal

pub loop-delta-init : goal.loop-delta-init
loop-delta-init c = record { told = refl; pruned = refl; room = c.requires.room; left = omega arith }

pub push-requires : goal.push-requires
push-requires c =
    let fits = c.loop-delta.invariant.room in
    let more : length c.loop-delta.deltas.items ≡ length (c.pop.new.self.items ++ c.in-Some.delta ∷ []) = ap (λ (l : List GroupDelta). length l) c.in-Some.ensures.items in
    let count : length (c.pop.new.self.items ++ c.in-Some.delta ∷ []) ≡ length c.pop.new.self.items + 1 = length-append c.pop.new.self.items (c.in-Some.delta ∷ []) in
    record { room = omega (arith, fits, more, count) }

pub loop-delta-preserved : goal.loop-delta-preserved
loop-delta-preserved c =
    let fits = c.loop-delta.invariant.room in
    let more : length c.loop-delta.deltas.items ≡ length (c.pop.new.self.items ++ c.in-Some.delta ∷ []) = ap (λ (l : List GroupDelta). length l) c.in-Some.ensures.items in
    let count : length (c.pop.new.self.items ++ c.in-Some.delta ∷ []) ≡ length c.pop.new.self.items + 1 = length-append c.pop.new.self.items (c.in-Some.delta ∷ []) in
    record {
      told =
          ap (λ (n : ℕ). pushed_all (delta_at c.args.number) (reverse c.pop.new.self.items) n c.push.new.self.versions) c.push.ensures.pruned
          ∙ push_next (delta_at c.args.number) c.loop-delta.deltas.items c.pop.new.self.items c.in-Some.delta c.loop-delta.chains.pruned c.loop-delta.chains.versions c.push.new.self.versions _ c.in-Some.ensures.items c.push.ensures.versions c.loop-delta.invariant.told;
      pruned = c.push.ensures.pruned ∙ c.loop-delta.invariant.pruned;
      room = room_next (delta_at c.args.number) c.loop-delta.deltas.items c.pop.new.self.items c.in-Some.delta c.loop-delta.chains.pruned c.loop-delta.chains.room c.push.new.self.room c.loop-delta.chains.versions c.push.new.self.versions
          c.in-Some.ensures.items c.push.ensures.versions fits (omega (arith, more, count)) c.push.ensures.room;
      left =
          let had = c.loop-delta.invariant.left in
          let long = pushed_long ((delta_at c.args.number) c.in-Some.delta) c.loop-delta.chains.pruned c.loop-delta.chains.versions in
          let all : length c.push.new.self.versions ≡ length (pushed ((delta_at c.args.number) c.in-Some.delta) c.loop-delta.chains.pruned c.loop-delta.chains.versions) = ap length c.push.ensures.versions in
          let same = c.push.ensures.room in
          omega (arith, had, long, all, same, more, count);
    }

pub returns-clause-versions : goal.returns-clause-versions
returns-clause-versions c =
    let none : c.loop-delta.deltas.items ≡ [] = search rules in
    sym (ap (λ (l : List GroupDelta). pushed_all (delta_at c.args.number) (reverse l) c.loop-delta.chains.pruned c.loop-delta.chains.versions) none) ∙ c.loop-delta.invariant.told

pub returns-clause-pruned : goal.returns-clause-pruned
returns-clause-pruned c = c.loop-delta.invariant.pruned

pub returns-clause-left : goal.returns-clause-left
returns-clause-left c = let had = c.loop-delta.invariant.left in omega (arith, had)
