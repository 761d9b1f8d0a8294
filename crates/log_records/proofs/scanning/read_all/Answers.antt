use Rattle.std.proofs.Common.{◌≡◌, ◌+◌, ◌-◌, ℕ, List, take, drop, length, get_or, Ok, Err, refl, subst, arith}
use Rattle.log_records.specs.Scan.{Fails}
use Rattle.log_records.specs.Scan.{with_before, records}
use Rattle.log_records.proofs.AllSteps.{block_ok, block_err, at_all, piece_is}
use Rattle.log_records.proofs.RecordSteps.{fails_along}
use Rattle.log_records.proofs.scanning.read_all.Goals as goal

pub loop-block-preserved : goal.loop-block-preserved
loop-block-preserved c =
    let area = c.args.area.now in
    let found = c.args.found.now in
    let i = c.loop-block.block-index in
    let b = get_or found i (0, 0) in
    let whole = take (b.0 + b.1 - b.0) (drop b.0 area) in
    let ok : with_before c.loop-block.out.items (records (length whole) b.0 whole) ≡ Ok c.read_block.new.out.items = c.in_default.ensures.ok in
    block_ok area found i c.loop-block.out.items b c.loop-block-test.true refl c.loop-block.invariant c.read_block.new.out.items
    (subst (λ (l : List ℕ). with_before c.loop-block.out.items (records (length l) b.0 l) ≡ Ok c.read_block.new.out.items) (piece_is b area) ok)

pub returns : goal.returns
returns c = at_all c.args.area.now c.args.found.now c.loop-block.block-index c.loop-block.out.items c.loop-block.invariant (omega arith)

pub returns-in-Err : goal.returns-in-Err
returns-in-Err c =
    let area = c.args.area.now in
    let found = c.args.found.now in
    let i = c.loop-block.block-index in
    let b = get_or found i (0, 0) in
    let whole = take (b.0 + b.1 - b.0) (drop b.0 area) in
    let err : Fails c.in-Err.fault (records (length whole) b.0 whole) = c.in-Err.ensures.err in
    fails_along c.in-Err.fault (records (length whole) b.0 whole) _ (λ f bad. block_err area found i c.loop-block.out.items b c.loop-block-test.true refl c.loop-block.invariant f
    (subst (λ (l : List ℕ). records (length l) b.0 l ≡ Err f) (piece_is b area) bad)) err
