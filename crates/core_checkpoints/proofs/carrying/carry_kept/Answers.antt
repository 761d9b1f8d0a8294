use Rattle.std.proofs.Common.{◌≡◌, ◌+◌, ◌<◌, ◌≤◌, [], ◌∷◌, length, replicate, refl, arith, sym, subst, ◌∙◌}
use Rattle.std.proofs.lemmas.List.{length-set}
use Rattle.iv_meaning.specs.Objects.{schema_of}
use Rattle.txn_machine.specs.Log.{Within}
use Rattle.txn_machine.specs.Records.{record_bytes}
use Rattle.txn_machine.proofs.LogRoom.{within_less}
use Rattle.txn_book.specs.Opens.{open_at}
use Rattle.record_lending.specs.Steps.{record_of}
use Rattle.core_recording.specs.Carrying.{done_at, entry_of, id_of, steps_at, all_bytes, CanCarry}
use Rattle.core_recording.specs.Carried.{none, more}
use Rattle.core_checkpoints.proofs.Parts.{part, part_none, part_more, part_less, part_all, left_less, told_sum, none_done, one_more, more_here, others_still, all_there}
use Rattle.core_checkpoints.proofs.carrying.carry_kept.Goals as goal

pub loop-session-init : goal.loop-session-init
loop-session-init g c = record {
  sized = refl;
  told = λ definitions rs next used can carries.
      let nothing : part (schema_of definitions) c.args.book.now.opens (done_at (replicate 65 0)) ≡ 0 = part_none (schema_of definitions) c.args.book.now.opens (done_at (replicate 65 0)) (none_done 65) in
      let same : used ≡ used + part (schema_of definitions) c.args.book.now.opens (done_at (replicate 65 0)) = omega (arith, nothing) in
      ([], none (done_at (replicate 65 0)) (none_done 65), subst (g.J.Journal.carries c.args.journal.now rs next []) same carries);
  bytes = λ definitions can.
      let nothing : part (schema_of definitions) c.args.book.now.opens (done_at (replicate 65 0)) ≡ 0 = part_none (schema_of definitions) c.args.book.now.opens (done_at (replicate 65 0)) (none_done 65) in
      omega (arith, nothing);
  stands = λ x stands. stands;
  limit = refl;
  medium = refl;
}

pub carry_next-more-requires : goal.carry_next-more-requires
carry_next-more-requires g c =
    let q = c.requires in
    let objects = schema_of q.0 in
    let opens = c.args.book.now.opens in
    let done = c.loop-session.done in
    let e = c.in-Some.ensures.some.least in
    let id = id_of (open_at opens c.in-Some.session) in
    let told = c.loop-session.invariant.told q.0 q.1 q.2 q.3 q.4 q.6 in
    let inside : c.in-Some.session < length done = (let high = e.of_session.1 in let sized = c.loop-session.invariant.sized in omega (arith, high, sized)) in
    let after = done_at (one_more done c.in-Some.session inside) in
    let moved : part objects opens after ≡ part objects opens (done_at done) + record_bytes objects (record_of id e.step) = part_more objects opens (done_at done) after c.in-Some.session id e.step e.of_session e.there (more_here done c.in-Some.session inside) (others_still done c.in-Some.session inside) in
    let least : part objects opens after ≤ all_bytes objects opens = part_less objects opens after in
    let fits : q.3 + part objects opens (done_at done) + record_bytes objects (record_of id e.step) ≤ q.3 + all_bytes objects opens = omega (arith, moved, least) in (
      q.0,
      q.1,
      q.2,
      told.0,
      q.3 + part objects opens (done_at done),
      e.step,
      e.there,
      all_there (CanCarry q.0 id) (steps_at opens c.in-Some.session) (done_at done c.in-Some.session) e.step e.there (q.4 c.in-Some.session e.of_session),
      q.5,
      told.2,
      subst (λ m. Within m (q.3 + part objects opens (done_at done) + record_bytes objects (record_of id e.step))) (sym c.loop-session.invariant.limit)
          (within_less (g.J.Journal.limit c.args.journal.now) (q.3 + all_bytes objects opens) (q.3 + part objects opens (done_at done) + record_bytes objects (record_of id e.step)) q.7 fits),
    )

pub loop-session-smaller : goal.loop-session-smaller
loop-session-smaller g c =
    let opens = c.args.book.now.opens in
    let done = c.loop-session.done in
    let e = c.in-Some.ensures.some.least in
    let inside : c.in-Some.session < length done = (let high = e.of_session.1 in let sized = c.loop-session.invariant.sized in omega (arith, high, sized)) in
    left_less opens (done_at done) (done_at (one_more done c.in-Some.session inside)) c.in-Some.session e.step e.of_session e.there (more_here done c.in-Some.session inside) (others_still done c.in-Some.session inside)

pub loop-session-preserved : goal.loop-session-preserved
loop-session-preserved g c =
    let opens = c.args.book.now.opens in
    let done = c.loop-session.done in
    let session = c.in-Some.session in
    let e = c.in-Some.ensures.some.least in
    let id = id_of (open_at opens session) in
    let inside : session < length done = (let high = e.of_session.1 in let sized = c.loop-session.invariant.sized in omega (arith, high, sized)) in
    let after = done_at (one_more done session inside) in
    record {
      sized = length-set done session (done_at done session + 1) ∙ c.loop-session.invariant.sized;
      told = λ definitions rs next used can carries.
          let objects = schema_of definitions in
          let t = c.loop-session.invariant.told definitions rs next used can carries in
          let moved : part objects opens after ≡ part objects opens (done_at done) + record_bytes objects (record_of id e.step) = part_more objects opens (done_at done) after session id e.step e.of_session e.there (more_here done session inside) (others_still done session inside) in
          let adds : used + part objects opens (done_at done) + record_bytes objects (record_of id e.step) ≡ used + part objects opens after = omega (arith, moved) in
          let can_one : CanCarry definitions id e.step = all_there (CanCarry definitions id) (steps_at opens session) (done_at done session) e.step e.there (can session e.of_session) in (
            entry_of objects id e.step ∷ t.0,
            more (done_at done) after t.0 session e.step t.1 c.in-Some.ensures.some e.there (more_here done session inside) (others_still done session inside),
            subst (g.J.Journal.carries c.carry_next-more.new.journal rs next (entry_of objects id e.step ∷ t.0)) adds (c.carry_next-more.ensures.carries definitions rs next t.0 (used + part objects opens (done_at done)) e.step e.there can_one.0 t.2),
          );
      bytes = λ definitions can.
          let objects = schema_of definitions in
          let can_one : CanCarry definitions id e.step = all_there (CanCarry definitions id) (steps_at opens session) (done_at done session) e.step e.there (can session e.of_session) in
          told_sum c.loop-session.bytes c.carry_next-more.result c.saturating_add-bytes.result (part objects opens (done_at done)) (record_bytes objects (record_of id e.step)) (part objects opens after) (c.loop-session.invariant.bytes definitions can)
          (c.carry_next-more.ensures.bytes definitions e.step e.there can_one.0) c.saturating_add-bytes.ensures
          (part_more objects opens (done_at done) after session id e.step e.of_session e.there (more_here done session inside) (others_still done session inside));
      stands = λ x stands. c.carry_next-more.ensures.stands x (c.loop-session.invariant.stands x stands);
      limit = c.carry_next-more.ensures.limit ∙ c.loop-session.invariant.limit;
      medium = c.carry_next-more.ensures.medium ∙ c.loop-session.invariant.medium;
    }

pub returns-clause-carries : goal.returns-clause-carries
returns-clause-carries g c = λ definitions rs next used can carries.
    let objects = schema_of definitions in
    let opens = c.args.book.now.opens in
    let t = c.loop-session.invariant.told definitions rs next used can carries in
    let all : part objects opens (done_at c.loop-session.done) ≡ all_bytes objects opens = part_all objects opens (done_at c.loop-session.done) c.in_default.ensures.none in
    (t.0, record { done = done_at c.loop-session.done; carried = t.1; all = c.in_default.ensures.none }, subst (λ n. g.J.Journal.carries c.loop-session.journal rs next t.0 (used + n)) all t.2)

pub returns-clause-bytes : goal.returns-clause-bytes
returns-clause-bytes g c = λ definitions can.
    let objects = schema_of definitions in
    let opens = c.args.book.now.opens in
    let all : part objects opens (done_at c.loop-session.done) ≡ all_bytes objects opens = part_all objects opens (done_at c.loop-session.done) c.in_default.ensures.none in
    let told = c.loop-session.invariant.bytes definitions can in
    omega (arith, all, told)
