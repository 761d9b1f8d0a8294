use Rattle.std.proofs.Common.{◌≡◌, ◌+◌, ◌-◌, ◌<◌, ◌≤◌, ◌==◌, ℕ, List, length, drop, get_or, map, length-drop, false, true, sym, ◌∙◌, ap, subst, arith}
use Rattle.std.proofs.lemmas.List.{take_rest}
use Rattle.std.specs.List.{AllByRecursion}
use Rattle.log_records.specs.Scan.{with_before, frames, framed, holds_block, frame_size}
use Rattle.log_records.proofs.FrameSteps.{found_shut, found_last, found_bad, found_more, all_push}
use Rattle.log_records.proofs.scanning.find_blocks.Goals as goal

pub returns-clause-all : goal.returns-clause-all
returns-clause-all c = found_last c.loop.place c.args.area.now c.loop.found.items (length c.args.area.now) c.loop.counter _ c.loop.invariant.steps (omega arith)

pub returns-then-not-is_open-clause-all : goal.returns-then-not-is_open-clause-all
returns-then-not-is_open-clause-all c =
    let area = c.args.area.now in
    found_shut c.loop.place area c.loop.found.items (length area) c.loop.counter _ c.loop.invariant.steps
    (subst (λ (l : List ℕ). (get_or l 0 0 == 165) ≡ false) (take_rest area c.loop.place) (sym c.is_open.ensures ∙ c.if-not-is_open.true))

pub returns-in_default-clause-all : goal.returns-in_default-clause-all
returns-in_default-clause-all c =
    let area = c.args.area.now in
    let same = take_rest area c.loop.place in
    found_bad c.loop.place area c.loop.found.items (length area) c.loop.counter _ c.loop.invariant.steps c.loop-test.true
    (subst (λ (l : List ℕ). (get_or l 0 0 == 165) ≡ true) same (sym c.is_open.ensures ∙ c.if-not-is_open.false))
    (subst (λ (l : List ℕ). holds_block l ≡ false) same c.in_default.ensures.none)

pub loop-preserved : goal.loop-preserved
loop-preserved c =
    let area = c.args.area.now in
    let same = take_rest area c.loop.place in
    let is = subst (λ (l : List ℕ). (holds_block l ≡ true) × (c.in-Some.size ≡ frame_size l) × (c.in-Some.size < length l)) same c.in-Some.ensures.some in
    record {
      inside = subst (AllByRecursion (λ (p : ℕ × ℕ). p.0 + p.1 ≤ length area)) (sym c.in_ok-push.ensures.items) (all_push (λ (p : ℕ × ℕ). p.0 + p.1 ≤ length area) c.loop.found.items (c.loop.place + 5, c.in-Some.size - 5) c.loop.invariant.inside (omega (arith, is.1, is.2, length-drop c.loop.place area)));
      within = omega (arith, is.2, length-drop c.loop.place area);
      steps = ap (λ l. with_before (map (framed area) l) (frames (length area - (c.loop.counter + 1)) (c.loop.place + c.in-Some.size) (drop (c.loop.place + c.in-Some.size) area))) c.in_ok-push.ensures.items
          ∙ found_more c.loop.place area c.loop.found.items (length area) c.loop.counter _ c.loop.invariant.steps c.in-Some.size c.loop-test.true
          (subst (λ (l : List ℕ). (get_or l 0 0 == 165) ≡ true) same (sym c.is_open.ensures ∙ c.if-not-is_open.false)) is.0 is.1;
    }
