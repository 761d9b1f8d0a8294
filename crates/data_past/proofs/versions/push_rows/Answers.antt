use Rattle.std.proofs.Common.{rules, ◌≡◌, ◌+◌, ℕ, List, [], ◌∷◌, ◌++◌, length, reverse, arith, refl, sym, ap, ◌∙◌, length-append}
use Rattle.version_chain.specs.declared.rows.Version as row
use Rattle.data_past.specs.Moves.{pushed_all, version_at}
use Rattle.version_chain.specs.Chains.{pushed}
use Rattle.data_past.proofs.Pushing.{pushed_long, push_next, room_next}
use Rattle.data_past.proofs.versions.push_rows.Goals as goal

pub loop-version-init : goal.loop-version-init
loop-version-init c = record { told = refl; pruned = refl; room = c.requires.room; left = omega arith }

pub push-requires : goal.push-requires
push-requires c =
    let fits = c.loop-version.invariant.room in
    let more : length c.loop-version.versions.items ≡ length (c.pop.new.self.items ++ c.in-Some.version ∷ []) = ap (λ (l : List row.Version). length l) c.in-Some.ensures.items in
    let count : length (c.pop.new.self.items ++ c.in-Some.version ∷ []) ≡ length c.pop.new.self.items + 1 = length-append c.pop.new.self.items (c.in-Some.version ∷ []) in
    record { room = omega (arith, fits, more, count) }

pub loop-version-preserved : goal.loop-version-preserved
loop-version-preserved c =
    let fits = c.loop-version.invariant.room in
    let more : length c.loop-version.versions.items ≡ length (c.pop.new.self.items ++ c.in-Some.version ∷ []) = ap (λ (l : List row.Version). length l) c.in-Some.ensures.items in
    let count : length (c.pop.new.self.items ++ c.in-Some.version ∷ []) ≡ length c.pop.new.self.items + 1 = length-append c.pop.new.self.items (c.in-Some.version ∷ []) in
    record {
      told =
          ap (λ (n : ℕ). pushed_all (version_at c.args.number) (reverse c.pop.new.self.items) n c.push.new.self.versions) c.push.ensures.pruned
          ∙ push_next (version_at c.args.number) c.loop-version.versions.items c.pop.new.self.items c.in-Some.version c.loop-version.chains.pruned c.loop-version.chains.versions c.push.new.self.versions _ c.in-Some.ensures.items c.push.ensures.versions c.loop-version.invariant.told;
      pruned = c.push.ensures.pruned ∙ c.loop-version.invariant.pruned;
      room = room_next (version_at c.args.number) c.loop-version.versions.items c.pop.new.self.items c.in-Some.version c.loop-version.chains.pruned c.loop-version.chains.room c.push.new.self.room c.loop-version.chains.versions c.push.new.self.versions
          c.in-Some.ensures.items c.push.ensures.versions fits (omega (arith, more, count)) c.push.ensures.room;
      left =
          let had = c.loop-version.invariant.left in
          let long = pushed_long ((version_at c.args.number) c.in-Some.version) c.loop-version.chains.pruned c.loop-version.chains.versions in
          let all : length c.push.new.self.versions ≡ length (pushed ((version_at c.args.number) c.in-Some.version) c.loop-version.chains.pruned c.loop-version.chains.versions) = ap length c.push.ensures.versions in
          let same = c.push.ensures.room in
          omega (arith, had, long, all, same, more, count);
    }

pub returns-clause-versions : goal.returns-clause-versions
returns-clause-versions c =
    let none : c.loop-version.versions.items ≡ [] = search rules in
    sym (ap (λ (l : List row.Version). pushed_all (version_at c.args.number) (reverse l) c.loop-version.chains.pruned c.loop-version.chains.versions) none) ∙ c.loop-version.invariant.told

pub returns-clause-pruned : goal.returns-clause-pruned
returns-clause-pruned c = c.loop-version.invariant.pruned

pub returns-clause-left : goal.returns-clause-left
returns-clause-left c = let had = c.loop-version.invariant.left in omega (arith, had)
