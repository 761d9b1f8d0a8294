use Rattle.std.proofs.Common.{◌≡◌, ◌⊎◌, [], ◌∷◌, ◌++◌, map, All, Contains, Some, arith, sym, ap, subst, ◌∙◌, refl, inl}
use mathlib.Core.List.{map-append}
use Rattle.std.proofs.lemmas.Option.{none-some}
use Rattle.std.proofs.lemmas.List.Elements.{All-pop, All-push, All-cons, All-map}
use Rattle.turn_latch.specs.Views.{retired_of}
use Rattle.turn_latch.specs.Exchanges.{Saw}
use Rattle.turn_latch.proofs.Seats.{retires}
use Rattle.turn_latch.proofs.Histories.{no_items}
use Rattle.turn_latch.proofs.Closing.{InRetired, AllFit, moves_over, fit_before, fit_last, closes, none_left, all_none, found_first, EndsIn}
use Rattle.turn_latch.proofs.seat.Latch.close.Goals as goal

pub loop-seat-init : goal.loop-seat-init
loop-seat-init g c = record {
  same = refl;
  view = λ i. (c.args.first.pass.me.0, c.args.first.free.3 i);
  tables = c.requires.latch.1;
  each = λ n pos le. inl (c.requires.each n pos le);
  ends = λ x log all fits. all;
}

pub join_seat-requires : goal.join_seat-requires
join_seat-requires g c = let inv = c.loop-seat.invariant in let seat = c.in-Some.seat in let items = c.in-Some.ensures.items in
    let tables = All-pop (λ s. s.pass.table_id ≡ c.args.self.table.shared.table_id) _ _ (Some seat) items inv.tables in (
      inv.same ∙ c.requires.latch.0,
      tables.1,
      seat.free.3,
      (let one = c.args.self.one.0 in omega arith),
      retires g.T.Parted.history g.T.Parted.by g.T.Parted.part _ _ _ _ seat.free.0 seat.free.1,
    )

pub loop-seat-preserved : goal.loop-seat-preserved
loop-seat-preserved g c = let inv = c.loop-seat.invariant in let seat = c.in-Some.seat in let items = c.in-Some.ensures.items in let e = c.join_seat.ensures.2 in
    let w = seat.pass.me.0 in let d = c.loop-seat.pass.me.0.retired in
    let dd : c.join_seat.new.seat.me.0.retired ≡ d ++ retired_of w ∷ [] = ap (λ m. m.0.retired) e in record {
      same = c.join_seat.ensures.0 ∙ inv.same;
      view = e ∙ (λ i. (record ((inv.view i).0) { retired = sym dd i }, (inv.view i).1));
      tables = (All-pop (λ s. s.pass.table_id ≡ c.args.self.table.shared.table_id) _ _ (Some seat) items inv.tables).0;
      each = λ n pos le. subst (λ z. Contains (map (λ s. s.pass.me.0.number) c.pop.new.self.items) n ⊎ InRetired n z) (sym dd)
          (moves_over n (map (λ s. s.pass.me.0.number) c.pop.new.self.items) w d
          (subst (λ z. Contains z n ⊎ InRetired n d) (ap (map (λ s. s.pass.me.0.number)) items ∙ map-append (λ s. s.pass.me.0.number) c.pop.new.self.items (seat ∷ [])) (inv.each n pos le)));
      ends = λ x log all fits. let fits' = subst (AllFit g.T.Parted.history g.T.Parted.by g.T.Parted.part x log) dd fits in
          inv.ends x log
          (subst (All (λ s. EndsIn g.T.Parted.history g.T.Parted.by g.T.Parted.part x log s.pass.me.0)) (sym items) (All-push (λ s. EndsIn g.T.Parted.history g.T.Parted.by g.T.Parted.part x log s.pass.me.0) c.pop.new.self.items seat all (fit_last g.T.Parted.history g.T.Parted.by g.T.Parted.part x log w d fits')))
          (fit_before g.T.Parted.history g.T.Parted.by g.T.Parted.part x log w d fits');
    }

pub unreachable-requires : goal.unreachable-requires
unreachable-requires g c = let inv = c.loop-seat.invariant in let req = c.requires in
    let empty = no_items c.loop-seat.seats.items (let ok = c.loop-seat.seats.ok.0 in let zero = c.in_default.ensures.cases.0 in omega arith) in
    let made = ap (λ m. m.0.made) inv.view in
    let f = closes g.T.Parted.history g.T.Parted.by g.T.Parted.part c.loop-seat.pass.id c.loop-seat.pass.me.0 _ _ c.take.result (ap (λ m. m.0.numbered) inv.view ∙ c.args.first.free.0) (ap (λ m. m.0.number) inv.view ∙ req.first) (ap (λ m. m.0.held) inv.view ∙ c.args.first.free.1)
    (λ n pos le. none_left (λ s. s.pass.me.0.number) c.loop-seat.seats.items n c.loop-seat.pass.me.0.retired empty (inv.each n pos (omega (arith, le, made)))) c.take.ensures.value c.close_with-closed.ensures.values.2 in
    none-some f.0 (sym c.in_default-take.is ∙ f.2)

pub returns : goal.returns
returns g c = let inv = c.loop-seat.invariant in let req = c.requires in
    let empty = no_items c.loop-seat.seats.items (let ok = c.loop-seat.seats.ok.0 in let zero = c.in_default.ensures.cases.0 in omega arith) in
    let made = ap (λ m. m.0.made) inv.view in
    let f = closes g.T.Parted.history g.T.Parted.by g.T.Parted.part c.loop-seat.pass.id c.loop-seat.pass.me.0 _ _ c.take.result (ap (λ m. m.0.numbered) inv.view ∙ c.args.first.free.0) (ap (λ m. m.0.number) inv.view ∙ req.first) (ap (λ m. m.0.held) inv.view ∙ c.args.first.free.1)
    (λ n pos le. none_left (λ s. s.pass.me.0.number) c.loop-seat.seats.items n c.loop-seat.pass.me.0.retired empty (inv.each n pos (omega (arith, le, made)))) c.take.ensures.value c.close_with-closed.ensures.values.2 in
    let all = found_first g.T.Parted.history g.T.Parted.by g.T.Parted.part c.loop-seat.pass.me c.args.first.pass.me c.take.result c.in-Some-take.value inv.view c.in-Some-take.is f in
    let x = c.in-Some-take.value in let log = all.0 in
    let each = inv.ends x log (all_none (λ s. EndsIn g.T.Parted.history g.T.Parted.by g.T.Parted.part x log s.pass.me.0) c.loop-seat.seats.items empty) all.1.1 in record {
      first = all.1.0.0;
      seats = λ k d lt. (each k d lt).0;
      rest = all.1.2;
      exchanges = (log, all.1.4, All-cons (λ v. Saw log v.number v.log) c.args.first.pass.me.0 (map (λ s. s.pass.me.0) c.args.seats.seats.items) all.1.0.1 (All-map (λ v. Saw log v.number v.log) (λ s. s.pass.me.0) c.args.seats.seats.items (λ k d lt. (each k d lt).1)), all.1.5);
      short = all.1.3;
    }
