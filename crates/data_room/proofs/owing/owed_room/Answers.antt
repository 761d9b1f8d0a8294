use Rattle.std.proofs.Common.{◌≡◌, ◌+◌, ◌-◌, ◌^◌, ◌<◌, ℕ, List, length, map, take, cond, sym, ap, ◌∙◌, arith}
use Rattle.std.specs.Prelude.{min}
use Rattle.std.specs.List.{sum}
use Rattle.iv_types.specs.declared.lock.GroupDelta.{GroupDelta}
use Rattle.txn_machine.specs.Log.{delta_entry}
use Rattle.data_room.proofs.Owed.{still_counts}
use Rattle.data_room.proofs.owing.owed_room.Goals as goal

pub returns : goal.returns
returns c =
    let items : List GroupDelta = c.args.txn.now.owed.items in
    let long : c.len.result ≡ length items = c.len.ensures ∙ c.args.txn.now.owed.ok.0 in
    let most : c.len.result < 2 ^ 64 = omega arith in
    let back : c.saturating_add.result ≡ min (c.args.txn.now.back + cond c.args.txn.now.is_ghosted 1 0) (2 ^ 64 - 1) = c.saturating_add.ensures ∙ ap (λ (n : ℕ). min (c.args.txn.now.back + n) (2 ^ 64 - 1)) c.ghosts.ensures in
    let left : c.saturating_sub-left.result ≡ c.len.result - c.saturating_add.result = c.saturating_sub-left.ensures in
    let many : c.saturating_sub-left.result ≡ length items - (c.args.txn.now.back + cond c.args.txn.now.is_ghosted 1 0) = omega (arith, long, most, back, left) in
    let those : List GroupDelta = take c.saturating_sub-left.result c.deref.result.now in
    let same : those ≡ take (length items - (c.args.txn.now.back + cond c.args.txn.now.is_ghosted 1 0)) items = λ x. take (many x) (c.deref.ensures.value x) in
    c.rows_room.ensures ∙ ap (λ (n : ℕ). min n (2 ^ 64 - 1)) (ap (λ l. sum (map delta_entry l)) same ∙ sym (still_counts c.args.txn.now.is_ghosted c.args.txn.now.back items))
