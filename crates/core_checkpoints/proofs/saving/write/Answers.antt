use Rattle.std.proofs.Common.{◌+◌, [], refl, sym, ap, subst, ◌∙◌}
use Rattle.iv_types.specs.Faults.{Rose}
use Rattle.txn_machine.specs.Counts.{told_need}
use Rattle.txn_machine.specs.Log.{Within, block_bytes}
use Rattle.core_journal.specs.Records.{Saved, restarted}
use Rattle.core_journal.specs.Cuts.{cut_of}
use Rattle.core_checkpoints.proofs.Carried.{can_carry, carried_here}
use Rattle.core_checkpoints.proofs.Saved.{is_saved, within_empty, within_carried, same_tables}
use Rattle.core_checkpoints.proofs.saving.write.Goals as goal

pub begin_checkpoint-requires : goal.begin_checkpoint-requires
begin_checkpoint-requires g c =
    let q = c.requires in
    record { few = (q.records, q.behind.has_them, q.few, within_empty g.M.SortedMaps.maps g.M.SortedMaps.spare g.M.SortedMaps.limit c.args.core.now q.state q.began (g.J.Journal.limit c.args.journal.now) q.behind.same_limit) }

pub carry_kept-bytes-requires : goal.carry_kept-bytes-requires
carry_kept-bytes-requires g c =
    let q = c.requires in
    let core = c.args.core.now in
    let here = carried_here g.M.SortedMaps.maps g.M.SortedMaps.spare g.M.SortedMaps.limit core q.state q.began in (
      core.store.catalog,
      q.records,
      core.next,
      block_bytes + 1,
      can_carry g.M.SortedMaps.maps g.M.SortedMaps.spare g.M.SortedMaps.limit core q.state q.began,
      q.began.holds.rooms.limited,
      c.begin_checkpoint.ensures.carries q.records q.behind.has_them,
      subst (λ n. Within (g.J.Journal.limit c.begin_checkpoint.new.self) (block_bytes + 1 + n)) (sym here)
          (within_carried g.M.SortedMaps.maps g.M.SortedMaps.spare g.M.SortedMaps.limit core q.state q.began (g.J.Journal.limit c.begin_checkpoint.new.self) (c.begin_checkpoint.ensures.limit ∙ q.behind.same_limit)),
    )

pub save-requires : goal.save-requires
save-requires g c =
    let q = c.requires in
    let core = c.args.core.now in
    let t = c.carry_kept-bytes.ensures.carries core.store.catalog q.records core.next (block_bytes + 1) (can_carry g.M.SortedMaps.maps g.M.SortedMaps.spare g.M.SortedMaps.limit core q.state q.began) (c.begin_checkpoint.ensures.carries q.records q.behind.has_them) in
    (q.records, core.next, t.0, _, t.2, ap g.M.SortedMaps.limit c.maps_mut.ensures.value ∙ (q.began.holds.most ∙ sym q.behind.same_image))

pub returns-in-Ok-clause-ok : goal.returns-in-Ok-clause-ok
returns-in-Ok-clause-ok g c = (
  λ s rs h behind number_is.
      let core = c.args.core.now in
      let here = carried_here g.M.SortedMaps.maps g.M.SortedMaps.spare g.M.SortedMaps.limit core s h in
      let t = c.carry_kept-bytes.ensures.carries core.store.catalog rs core.next (block_bytes + 1) (can_carry g.M.SortedMaps.maps g.M.SortedMaps.spare g.M.SortedMaps.limit core s h) (c.begin_checkpoint.ensures.carries rs behind.has_them) in
      let saved : Saved = record { maps = g.M.SortedMaps.maps c.maps_mut.result.now; definitions = core.store.catalog; commits = c.args.number; next = core.next; carried = t.0 } in (
        saved,
        is_saved g.M.SortedMaps.maps g.M.SortedMaps.spare g.M.SortedMaps.limit core s h (g.M.SortedMaps.maps c.maps_mut.result.now) (ap g.M.SortedMaps.maps c.maps_mut.ensures.value) c.args.number number_is t.0 t.1,
        subst (λ n. g.J.Journal.has c.save.new.self (restarted rs saved (block_bytes + 1 + n))) here (c.in-Ok.ensures.ok.0 rs core.next t.0 _ t.2),
        subst (λ m. g.J.Journal.leaves m (g.J.Journal.medium c.save.new.self) (cut_of rs) (record { saved = saved; records = [] })) (c.carry_kept-bytes.ensures.medium ∙ c.begin_checkpoint.ensures.medium)
            (c.in-Ok.ensures.any_moment rs core.next t.0 _ (cut_of rs) t.2 (c.carry_kept-bytes.ensures.stands (cut_of rs) (c.begin_checkpoint.ensures.stands rs behind.has_them))),
      ),
  c.in-Ok.ensures.ok.1 ∙ ap g.J.Journal.faults (c.carry_kept-bytes.ensures.medium ∙ c.begin_checkpoint.ensures.medium),
)

pub returns-in-Ok-clause-bytes : goal.returns-in-Ok-clause-bytes
returns-in-Ok-clause-bytes g c = λ s h.
    let core = c.args.core.now in
    c.carry_kept-bytes.ensures.bytes core.store.catalog (can_carry g.M.SortedMaps.maps g.M.SortedMaps.spare g.M.SortedMaps.limit core s h) ∙ ap told_need (carried_here g.M.SortedMaps.maps g.M.SortedMaps.spare g.M.SortedMaps.limit core s h)

pub returns-in-Ok-clause-limit : goal.returns-in-Ok-clause-limit
returns-in-Ok-clause-limit g c = c.in-Ok.ensures.limit ∙ (c.carry_kept-bytes.ensures.limit ∙ c.begin_checkpoint.ensures.limit)

pub returns-in-Ok-clause-began : goal.returns-in-Ok-clause-began
returns-in-Ok-clause-began g c = λ s h.
    same_tables g.M.SortedMaps.maps g.M.SortedMaps.spare g.M.SortedMaps.limit c.args.core.now s h c.save.new.maps
    (c.in-Ok.ensures.maps ∙ ap g.M.SortedMaps.maps c.maps_mut.ensures.value) (c.in-Ok.ensures.spare ∙ ap g.M.SortedMaps.spare c.maps_mut.ensures.value) (c.in-Ok.ensures.data_limit ∙ ap g.M.SortedMaps.limit c.maps_mut.ensures.value)

pub returns-in-Ok-clause-rest : goal.returns-in-Ok-clause-rest
returns-in-Ok-clause-rest g c = refl

pub returns-in-Err-clause-rest : goal.returns-in-Err-clause-rest
returns-in-Err-clause-rest g c = refl

pub returns-in-Err-clause-err : goal.returns-in-Err-clause-err
returns-in-Err-clause-err g c = subst (λ m. Rose (g.J.Journal.faults m) (g.J.Journal.faults (g.J.Journal.medium c.save.new.self))) (c.carry_kept-bytes.ensures.medium ∙ c.begin_checkpoint.ensures.medium) c.in-Err.ensures.err

pub returns-in-Err-clause-left : goal.returns-in-Err-clause-left
returns-in-Err-clause-left g c = λ s rs h behind number_is.
    let core = c.args.core.now in
    let t = c.carry_kept-bytes.ensures.carries core.store.catalog rs core.next (block_bytes + 1) (can_carry g.M.SortedMaps.maps g.M.SortedMaps.spare g.M.SortedMaps.limit core s h) (c.begin_checkpoint.ensures.carries rs behind.has_them) in
    let saved : Saved = record { maps = g.M.SortedMaps.maps c.maps_mut.result.now; definitions = core.store.catalog; commits = c.args.number; next = core.next; carried = t.0 } in (
      saved,
      is_saved g.M.SortedMaps.maps g.M.SortedMaps.spare g.M.SortedMaps.limit core s h (g.M.SortedMaps.maps c.maps_mut.result.now) (ap g.M.SortedMaps.maps c.maps_mut.ensures.value) c.args.number number_is t.0 t.1,
      subst (λ m. g.J.Journal.leaves m (g.J.Journal.medium c.save.new.self) (cut_of rs) (record { saved = saved; records = [] })) (c.carry_kept-bytes.ensures.medium ∙ c.begin_checkpoint.ensures.medium)
          (c.in-Err.ensures.any_moment rs core.next t.0 _ (cut_of rs) t.2 (c.carry_kept-bytes.ensures.stands (cut_of rs) (c.begin_checkpoint.ensures.stands rs behind.has_them))),
    )

pub returns-in-Err-clause-limit : goal.returns-in-Err-clause-limit
returns-in-Err-clause-limit g c = c.in-Err.ensures.limit ∙ (c.carry_kept-bytes.ensures.limit ∙ c.begin_checkpoint.ensures.limit)

pub returns-in-Err-clause-began : goal.returns-in-Err-clause-began
returns-in-Err-clause-began g c = λ s h.
    same_tables g.M.SortedMaps.maps g.M.SortedMaps.spare g.M.SortedMaps.limit c.args.core.now s h c.save.new.maps
    (c.in-Err.ensures.maps ∙ ap g.M.SortedMaps.maps c.maps_mut.ensures.value) (c.in-Err.ensures.spare ∙ ap g.M.SortedMaps.spare c.maps_mut.ensures.value) (c.in-Err.ensures.data_limit ∙ ap g.M.SortedMaps.limit c.maps_mut.ensures.value)
