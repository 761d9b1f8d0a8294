use Rattle.std.proofs.Common.{◌≡◌, ◌%◌, length, ◌+◌, ◌*◌, ◌∷◌, ◌++◌, [], Some, arith, sym, ap, subst, ◌∙◌}
use Rattle.atomic_table.specs.Table.{rest}
use Rattle.turn_latch.specs.Exchanges.{exchange}
use Rattle.turn_latch.specs.Turns.{Turned}
use Rattle.turn_latch.proofs.Histories.{adds_length}
use Rattle.turn_latch.proofs.Keeps.{takes_turn, between, ends, one_turn}
use Rattle.turn_latch.proofs.seat.Latch.try_turn.Goals.{then-after-found, else-after-found}
use Rattle.turn_latch.proofs.seat.Latch.try_turn.Goals as goal

pub fetch_or-found-requires : goal.fetch_or-found-requires
fetch_or-found-requires g c = (c.requires.latch, let one = c.args.self.now.one.0 in omega arith, takes_turn g.T.Parted.history g.T.Parted.by g.T.Parted.part _ _ _ c.args.seat.now.free.0 c.args.seat.now.free.1)

pub exchange-requires : goal.exchange-requires
exchange-requires g c = let t = c.fetch_or-found.ensures in let x = t.2.1 in let k = t.2.3 c.if-found-ne0.false in let has = ap (λ m. m.1) k.0 in
    (t.0 ∙ c.requires.latch, (Some x, has ∙ (λ i. (0, Some x) ∷ sym (ap rest has) i)))

pub fetch_sub-requires : goal.fetch_sub-requires
fetch_sub-requires g c = let t = c.fetch_or-found.ensures in let x = t.2.1 in let k = t.2.3 c.if-found-ne0.false in let log = t.2.0 ++ exchange c.args.seat.now.pass.me.0.number c.fetch_or-found.result (Some x) ∷ [] in
    let b = between g.T.Parted.history g.T.Parted.by g.T.Parted.part c.args.seat.now.pass.me c.fetch_or-found.new.seat.me c.exchange.new.seat.me c.exchange-2.new.seat.me log x c.in-Some.value c.turn-out.new.value c.exchange.result
    c.args.seat.now.free.3 k.0 c.exchange.ensures.2 c.in-Some.is c.exchange.ensures.3 c.exchange-2.ensures.3 in
    let found : c.fetch_or-found.result ≡ 2 * length (g.T.Parted.history c.in-Some.value) = k.2 ∙ ap (λ x. 2 * length (g.T.Parted.history x)) b.0 in
    let after = c.length-after.ensures in let test = c.if-after-found.true in (
      c.exchange-2.ensures.0 ∙ (c.exchange.ensures.0 ∙ (t.0 ∙ c.requires.latch)),
      (let one = c.args.self.now.one.0 in omega arith),
      ends g.T.Parted.history g.T.Parted.by g.T.Parted.part _ _ _ log c.args.seat.now.pass.me _ c.in-Some.value c.turn-out.new.value (λ n. (n + 18446744073709551615) % 18446744073709551616) c.args.seat.now.free.0 (c.requires.number) b.1 c.turn-out.ensures.adds c.turn-out.ensures.short c.turn-out.ensures.others
          (λ le. omega (arith, le, found, after, test)),
    )

pub fetch_add-requires : goal.fetch_add-requires
fetch_add-requires g c = let t = c.fetch_or-found.ensures in let x = t.2.1 in let k = t.2.3 c.if-found-ne0.false in let log = t.2.0 ++ exchange c.args.seat.now.pass.me.0.number c.fetch_or-found.result (Some x) ∷ [] in
    let b = between g.T.Parted.history g.T.Parted.by g.T.Parted.part c.args.seat.now.pass.me c.fetch_or-found.new.seat.me c.exchange.new.seat.me c.exchange-2.new.seat.me log x c.in-Some.value c.turn-out.new.value c.exchange.result
    c.args.seat.now.free.3 k.0 c.exchange.ensures.2 c.in-Some.is c.exchange.ensures.3 c.exchange-2.ensures.3 in
    let found : c.fetch_or-found.result ≡ 2 * length (g.T.Parted.history c.in-Some.value) = k.2 ∙ ap (λ x. 2 * length (g.T.Parted.history x)) b.0 in
    let after = c.length-after.ensures in let test = c.if-after-found.false in
    let more = adds_length g.T.Parted.by _ (g.T.Parted.history c.in-Some.value) (g.T.Parted.history c.turn-out.new.value) c.turn-out.ensures.adds in (
      c.exchange-2.ensures.0 ∙ (c.exchange.ensures.0 ∙ (t.0 ∙ c.requires.latch)),
      (let one = c.args.self.now.one.0 in omega arith),
      ends g.T.Parted.history g.T.Parted.by g.T.Parted.part _ _ _ log c.args.seat.now.pass.me _ c.in-Some.value c.turn-out.new.value (λ n. (n + 1) % 18446744073709551616) c.args.seat.now.free.0 (c.requires.number) b.1 c.turn-out.ensures.adds c.turn-out.ensures.short c.turn-out.ensures.others
          (λ le. omega (arith, le, found, after, test, more)),
    )

pub returns-clause-turn : goal.returns-clause-turn
returns-clause-turn g c = let t = c.fetch_or-found.ensures in let x = t.2.1 in let k = t.2.3 c.if-found-ne0.false in
    let log = t.2.0 ++ exchange c.args.seat.now.pass.me.0.number c.fetch_or-found.result (Some x) ∷ [] in
    let b = between g.T.Parted.history g.T.Parted.by g.T.Parted.part c.args.seat.now.pass.me c.fetch_or-found.new.seat.me c.exchange.new.seat.me c.exchange-2.new.seat.me log x c.in-Some.value c.turn-out.new.value c.exchange.result
    c.args.seat.now.free.3 k.0 c.exchange.ensures.2 c.in-Some.is c.exchange.ensures.3 c.exchange-2.ensures.3 in
    let done = one_turn g.T.Parted.history g.T.Parted.by g.T.Parted.part c.args.seat.now.pass.me c.exchange-2.new.seat.me c.fetch_or-found.result _ t.2.0 x c.in-Some.value c.turn-out.new.value (λ x y. g.W.Turn.does c.args.work x c.turn-out.result y)
    c.requires.number t.2.2 k.1 k.2 k.4 b.0 b.1 c.turn-out.ensures.does c.turn-out.ensures.adds c.turn-out.ensures.short in
    elim c.if-after-found.branch [
      | then-after-found w ↦ subst (λ v. Turned g.T.Parted.history g.T.Parted.by g.T.Parted.part (λ x y. g.W.Turn.does c.args.work x c.turn-out.result y) c.args.seat.now.pass.me.0 v) (ap (λ s. s.pass.me.0) (sym w.seat-is)) (done 0 w.fetch_sub.result w.fetch_sub.new.seat.me w.fetch_sub.ensures.2)
      | else-after-found w ↦ subst (λ v. Turned g.T.Parted.history g.T.Parted.by g.T.Parted.part (λ x y. g.W.Turn.does c.args.work x c.turn-out.result y) c.args.seat.now.pass.me.0 v) (ap (λ s. s.pass.me.0) (sym w.seat-is)) (done 0 w.fetch_add.result w.fetch_add.new.seat.me w.fetch_add.ensures.2)
    ]
