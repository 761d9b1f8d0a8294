use Rattle.std.proofs.Common.{◌+◌, ◌∷◌, [], map, All, arith, ◌∙◌, ap, subst}
use Rattle.turn_latch.specs.Histories.{of}
use Rattle.turn_latch.specs.Views.{seen_of}
use Rattle.turn_latch.specs.Latched.{Ends}
use Rattle.latch_runs.specs.Books.{by, history, entries_of}
use Rattle.latch_runs.proofs.Added.{row_of, each_of_two, all_added}
use Rattle.latch_runs.proofs.pair.both.Goals as goal

pub close-requires-clause-each : goal.close-requires-clause-each
close-requires-clause-each g c =
    let items = c.from_vec.ensures ∙ row_of _ _ _ _ _ c.push_reserved-2.ensures.items c.push_reserved.ensures.items c.in_ok-seats.ensures.items in
    let j = c.join-one.ensures in
    let numbers = ap (map (λ s. s.pass.me.0.number)) items ∙ (λ i. j.first.1 i ∷ j.second.1 i ∷ []) in
    let made = ap (λ v. v.made) c.split-two.ensures.first ∙ ap (λ v. v.made + 1) c.split-one.ensures.first ∙ ap (λ v. (v.made + 1) + 1) c.in-Ok.ensures.ok.1 in
    λ n pos le. each_of_two _ _ n numbers made pos le

pub returns : goal.returns
returns g c =
    let items = c.from_vec.ensures ∙ row_of _ _ _ _ _ c.push_reserved-2.ensures.items c.push_reserved.ensures.items c.in_ok-seats.ensures.items in
    let j = c.join-one.ensures in
    let one = c.join-one.result.0.0 in let two = c.join-one.result.1.0 in
    let fits = subst (λ l. All (λ s. Ends history by (λ b n. of by n b.entries.items) c.close.result s.pass.me.0) l) items c.close.ensures.seats in
    let a = (fits 0 one (omega arith)).mine in let b = (fits 1 one (omega arith)).mine in (
      all_added 1 one.pass.me.0.number c.close.result.entries.items (seen_of history one.pass.me.0.seen) (entries_of 1 c.args.a.now) c.join-one.result.0.1 _ j.first.1 a j.first.2 c.in_ok-x.was,
      all_added 2 two.pass.me.0.number c.close.result.entries.items (seen_of history two.pass.me.0.seen) (entries_of 2 c.args.b.now) c.join-one.result.1.1 _ j.second.1 b j.second.2 c.in_ok-y.was,
    )
