use Rattle.std.proofs.Common.{rules, arith, suc, ◌≡◌, length, sym, ap, subst, ◌∙◌}
use Rattle.version_chain.specs.Versions.{AreInOrder}
use Rattle.version_chain.specs.Trees.{items, own}
use Rattle.version_chain.proofs.Around.{in_order_with, one_more}
use Rattle.version_chain.proofs.chains.Chains.add.Goals as goal
use Rattle.version_chain.proofs.chains.Chains.add.Goals.{in-Fork-1, in-Leaf-1}

pub invariant_of-self-then-number-self-2 : goal.invariant_of-self-then-number-self-2
invariant_of-self-then-number-self-2 g c =
    let root : items c.replace-root.result ≡ items c.self.inside.root = search rules in
    let sorted : AreInOrder (items c.replace-root.result) = subst AreInOrder (sym root) c.self.invariant.0 in (
      subst AreInOrder (sym c.put_in.ensures.items) (in_order_with (own c.filled-node.result.value) (items c.replace-root.result) sorted),
      c.put_in.ensures.marked,
    )

pub returns-then-number-self-clause-room : goal.returns-then-number-self-clause-room
returns-then-number-self-clause-room g c =
    let root : items c.replace-root.result ≡ items c.self.inside.root = search rules in
    let one : length (items c.put_in.result) ≡ suc (length (items c.self.inside.root)) =
    ap length c.put_in.ensures.items ∙ (one_more (own c.filled-node.result.value) (items c.replace-root.result) ∙ ap (λ l. suc (length l)) root) in
    let versions : c.match-self-put_in.self.versions ≡ items c.put_in.result =
    elim c.match-self-put_in.branch [ in-Fork-1 w ↦ ap (λ s. s.versions) w.self-is | in-Leaf-1 w ↦ ap (λ s. s.versions) w.self-is ] in
    let room : c.match-self-put_in.self.room ≡ c.take.new.self =
    elim c.match-self-put_in.branch [ in-Fork-1 w ↦ ap (λ s. s.room) w.self-is | in-Leaf-1 w ↦ ap (λ s. s.room) w.self-is ] in
    let before : length (items c.self.inside.root) ≡ length c.args.self.now.versions = ap (λ s. length s.versions) c.self.view_is in
    let had : c.self.inside.pool ≡ c.args.self.now.room = ap (λ s. s.room) c.self.view_is in
    let now = ap length versions in
    let taken = c.take.ensures in
    omega (arith, one, now, room, before, had, taken)
