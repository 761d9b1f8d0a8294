use Rattle.std.proofs.Common.{◌≡◌, ◌+◌, ℕ, suc, List, Some, arith, sym, ap, ◌∙◌}
use Rattle.std.specs.Prelude.{Option}
use Rattle.std.specs.FinMap.{get, remove}
use Rattle.table_laws.specs.Place.{Place}
use Rattle.data_store.specs.Past.{Pendings}
use Rattle.data_store.specs.declared.store.Pending.{Pending}
use Rattle.data_past.specs.Moves.{one_more}
use Rattle.data_past.proofs.Pendings.{noted, is_taken}
use Rattle.data_past.proofs.noting.note_change.Goals as goal
use Rattle.data_past.proofs.noting.note_change.Goals.{in-Some, in-None}

pub insert_into-requires : goal.insert_into-requires
insert_into-requires g c =
    let old : Pendings = c.args.store.now.pending.entries in
    let key : Place = (c.args.noting.index, c.args.noting.key) in
    let taken : c.take.new.self.entries ≡ remove old key = c.take.ensures.entries ∙ ap (λ (k : List ℕ). remove old (c.args.noting.index, k)) c.as_slice.ensures in
    record { new = is_taken old c.take.new.self.entries key taken }

pub returns-clause-pending : goal.returns-clause-pending
returns-clause-pending g c =
    let old : Pendings = c.args.store.now.pending.entries in
    let key : Place = (c.args.noting.index, c.args.noting.key) in
    let bytes : Option (List ℕ) = c.args.noting.committed in
    let taken : c.take.new.self.entries ≡ remove old key = c.take.ensures.entries ∙ ap (λ (k : List ℕ). remove old (c.args.noting.index, k)) c.as_slice.ensures in
    let was : c.take.result ≡ get old key = c.take.ensures.taken ∙ ap (λ (k : List ℕ). get old (c.args.noting.index, k)) c.as_slice.ensures in
    let more : one_more bytes (get old key) ≡ Some c.match-take.pending = elim c.match-take.branch [
      | in-Some w ↦ ap (one_more bytes) (sym was ∙ w.in-Some.is) ∙ (ap (λ (n : ℕ). Some (record w.in-Some.pending { changes = n })) (let e : suc w.in-Some.pending.changes ≡ w.in-Some.pending.changes + 1 = omega arith in e) ∙ ap (λ (p : Pending). Some p) (sym w.pending-is))
      | in-None w ↦ ap (one_more bytes) (sym was ∙ w.in-None.is) ∙ ap (λ (p : Pending). Some p) (sym w.pending-is)
    ] in
    noted old c.take.new.self.entries c.insert_into.new.self.entries key c.match-take.pending bytes taken c.insert_into.ensures.entries more
