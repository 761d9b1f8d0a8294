use Rattle.std.proofs.Common.{◌≡◌, ℕ, Option, None, sym, subst, ◌∙◌}
use Rattle.std.specs.Prelude.{IfSome, if◌then◌else◌}
use Rattle.std.specs.Ordering.{is_eq}
use Rattle.std.specs.BTreeMap as tree
use Rattle.live_records.specs.declared.record.LiveRecord.{LiveRecord}
use Rattle.live_records.specs.Keyed.{key_cmp}
use Rattle.live_records.specs.Live.{IsLatest}
use Rattle.live_records.proofs.Keys.{keyed_without}
use Rattle.live_records.proofs.kept.LiveRecords.take_latest.Goals as goal

pub invariant_of-self : goal.invariant_of-self
invariant_of-self c =
    let live = c.args.self.now in
    let r = c.in-Some.record.now in
    record { keyed = keyed_without live.records c.remove.new.self (c.args.transaction, r.number) live.keyed c.remove.ensures.updates.0 }

pub returns-clause-taken : goal.returns-clause-taken
returns-clause-taken c =
    let r = c.in-Some.record.now in
    let latest : IsLatest c.args.self.now c.args.transaction r = c.in-Some.ensures.latest in
    subst (λ (o : Option LiveRecord). IfSome o (λ x. IsLatest c.args.self.now c.args.transaction x × ((t n : ℕ) → tree.get key_cmp c.remove.new.self (t, n) ≡ (if is_eq (key_cmp (c.args.transaction, x.number) (t, n)) then None else tree.get key_cmp c.args.self.now.records (t, n))))) (sym (c.remove.ensures.value ∙ latest.kept))
    (latest, λ t n. c.remove.ensures.updates.0 (t, n))
