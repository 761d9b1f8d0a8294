use Rattle.std.proofs.Common.{rules, ◌≡◌, ◌+◌, List, [], ◌∷◌, ◌++◌, length, reverse, arith, sym, ap, ◌∙◌, append_assoc, append-nil, length-append}
use Rattle.std.proofs.lemmas.List.{reverse-reverse, reverse-append, length-reverse}
use Rattle.iv_types.specs.declared.lock.GroupDelta.{GroupDelta}
use Rattle.data_past.proofs.ahead.append.Goals as goal

pub loop-delta-init : goal.loop-delta-init
loop-delta-init c = record {
  told = ap (λ (l : List GroupDelta). c.args.deltas.now.items ++ l) (ap reverse c.reverse.ensures.items ∙ reverse-reverse c.args.more.items);
  room = let turned : length c.reverse.new.self.items ≡ length c.args.more.items = ap length c.reverse.ensures.items ∙ length-reverse c.args.more.items in let had = c.requires in omega (arith, turned, had);
}

pub loop-delta-preserved : goal.loop-delta-preserved
loop-delta-preserved c =
    let left : List GroupDelta = c.pop.new.self.items in
    let is : c.loop-delta.more.items ≡ left ++ c.in-Some.delta ∷ [] = c.in-Some.ensures.items in
    record {
      told =
          ap (λ (l : List GroupDelta). l ++ reverse left) c.push_reserved.ensures.items
          ∙ (append_assoc c.loop-delta.deltas.items (c.in-Some.delta ∷ []) (reverse left)
          ∙ (ap (λ (l : List GroupDelta). c.loop-delta.deltas.items ++ l) (sym (ap reverse is ∙ reverse-append left (c.in-Some.delta ∷ []))) ∙ c.loop-delta.invariant.told));
      room =
          let had = c.loop-delta.invariant.room in
          let more : length c.loop-delta.more.items ≡ length left + 1 = ap length is ∙ length-append left (c.in-Some.delta ∷ []) in
          let added : length c.push_reserved.new.self.items ≡ length c.loop-delta.deltas.items + 1 = ap length c.push_reserved.ensures.items ∙ length-append c.loop-delta.deltas.items (c.in-Some.delta ∷ []) in
          omega (arith, had, more, added, c.push_reserved.ensures.capacity);
    }

pub returns : goal.returns
returns c =
    let none : c.loop-delta.more.items ≡ [] = search rules in
    sym (append-nil c.loop-delta.deltas.items) ∙ (sym (ap (λ (l : List GroupDelta). c.loop-delta.deltas.items ++ reverse l) none) ∙ c.loop-delta.invariant.told)
