use Rattle.std.proofs.Common.{◌≡◌, ◌∙◌, ap, arith, refl, length}
use Rattle.line_wire.proofs.Gathering.{gathering_begun, gathering_ends, gathering_more, gathering_stops, gathering_last}
use Rattle.line_wire.proofs.line.read_line.Goals as goal

pub loop-kept-init : goal.loop-kept-init
loop-kept-init g c = record {
  gathering = λ bytes e. gathering_begun c.args.kept.now c.begin.new.self bytes _ e c.begin.ensures.held c.begin.ensures.taken c.begin.ensures.text;
  short = omega (arith, ap length c.begin.ensures.text);
  taken = c.begin.ensures.most;
  nearer = omega (arith, ap length c.begin.ensures.text, ap length c.begin.ensures.held, c.begin.ensures.taken);
  further = λ e. cc;
  quiet = refl;
}

pub returns-then-gather-clause-found : goal.returns-then-gather-clause-found
returns-then-gather-clause-found g c = λ bytes e.
    gathering_ends c.loop-kept.long c.gather.new.long _ _ _ c.loop-kept.kept c.gather.new.self c.finish.new.self _ (c.loop-kept.invariant.gathering bytes e) c.if-gather.ensures.end (record { text = c.gather.ensures.text; longer = c.gather.ensures.long }) c.gather.ensures.taken c.finish.ensures.text c.finish.ensures.held c.finish.ensures.taken _ c.finish.ensures.line

pub returns-then-taken-eq-MOST_BYTES-clause-found : goal.returns-then-taken-eq-MOST_BYTES-clause-found
returns-then-taken-eq-MOST_BYTES-clause-found g c = λ bytes e.
    gathering_stops c.loop-kept.long _ _ _ c.loop-kept.kept c.gather.new.self _ _ (c.loop-kept.invariant.gathering bytes e) c.if-gather.ensures.end.0 c.gather.ensures.taken (λ left same. same)

pub returns-in_default-clause-found : goal.returns-in_default-clause-found
returns-in_default-clause-found g c = λ bytes e.
    gathering_stops c.loop-kept.long _ _ _ c.loop-kept.kept c.fill.new.self _ _ (c.loop-kept.invariant.gathering bytes e) c.if-gather.ensures.end.0 (c.in_default.ensures.err.1 ∙ c.gather.ensures.taken) c.in_default.ensures.nothing

pub returns-then-count-eq0-clause-found : goal.returns-then-count-eq0-clause-found
returns-then-count-eq0-clause-found g c = λ bytes e.
    gathering_last c.loop-kept.long c.gather.new.long _ _ _ c.in-Ok.count c.loop-kept.kept c.gather.new.self c.fill.new.self _ _ (c.loop-kept.invariant.gathering bytes e) c.if-gather.ensures.end.0 (record { text = c.gather.ensures.text; longer = c.gather.ensures.long }) c.gather.ensures.taken c.in-Ok.ensures.filled c.if-count-eq0.true c.fill.ensures.text _ (rw c.text.ensures at c.last.ensures)

pub loop-kept-preserved : goal.loop-kept-preserved
loop-kept-preserved g c =
    let held : length c.gather.new.self.held ≡ 0 = ap length c.if-gather.ensures.end.1 in
    let text : length c.fill.new.self.text ≡ length c.gather.new.self.text = ap length c.fill.ensures.text in
    record {
      gathering = λ bytes e. gathering_more c.loop-kept.long c.gather.new.long _ _ _ c.in-Ok.count c.loop-kept.kept c.gather.new.self c.fill.new.self _ _ (c.loop-kept.invariant.gathering bytes e) c.if-gather.ensures.end.0 (record { text = c.gather.ensures.text; longer = c.gather.ensures.long }) c.gather.ensures.taken c.in-Ok.ensures.filled c.fill.ensures.text;
      short = omega (arith, c.gather.ensures.short);
      taken = c.fill.ensures.most;
      nearer = omega (arith, c.loop-kept.invariant.nearer, c.gather.ensures.grows, c.gather.ensures.taken, c.in-Ok.ensures.taken, c.in-Ok.ensures.held, c.fill.ensures.most, ap length c.if-gather.ensures.end.0);
      further = λ e. omega (arith, c.loop-kept.invariant.nearer, c.gather.ensures.taken, c.in-Ok.ensures.taken, c.in-Ok.ensures.held, c.fill.ensures.most, c.if-count-eq0.false);
      quiet = c.in-Ok.ensures.fault ∙ c.loop-kept.invariant.quiet;
    }
