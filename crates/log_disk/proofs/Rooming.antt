-- The log in memory has used and reserved as many bytes as the machine, and they lie in its area.
use Rattle.std.proofs.Common.{◌≡◌, inl, ℕ, ◌+◌, ◌≤◌, List, [], ◌∷◌, ◌++◌, Some, None, refl, sym, ap, subst, ◌∙◌, arith}
use Rattle.std.proofs.lemmas.Option.{none-some}
use Rattle.txn_machine.specs.Acts.{Act}
use Rattle.txn_machine.specs.Answers.{Answer}
use Rattle.txn_machine.specs.Log.{Opening, Within, block_bytes, reserved}
use Rattle.txn_machine.specs.Store.{opened}
use Rattle.txn_machine.specs.State.{State, opened_state}
use Rattle.txn_machine.specs.Steps as machine
use Rattle.txn_machine.specs.May.{May}
use Rattle.txn_machine.specs.Steps.{Did, Does, IsTold, Step}
use Rattle.txn_machine.specs.Laws.{IsOpened, IsReached}
use Rattle.txn_machine.proofs.LogSteps.{log_room_law}
use Rattle.txn_log.specs.Replay.{Pages}
use Rattle.txn_log.specs.Moments.{Disk, World, At, Amid, Halted, Happens, begins, acts, ends, flushes, acknowledges, publishes, fails_commit, fails_define, fails_before, fails_after, told, told_halted, Run, here, then_move, Writes, with_disk, opened_world}
use Rattle.txn_log.specs.Room.{state_of}
use Rattle.log_disk.specs.Calls.{DiskTells, IsCounted, Reserves}
use Rattle.log_disk.specs.Laws.{StandingLaw, RoomLaw}

-- ---- the steps of the machine in a run of worlds

one_more : (first : State) (ds : List Did) (s : State) (d : Did) (after : State) → machine.Run first ds s → Step s d.session d.act d.said after → machine.Run first (ds ++ d ∷ []) after
one_more first [] s d after r step = (after, subst (λ x. Step x d.session d.act d.said after) r step, refl)
one_more first (e ∷ ds) s d after r step = (r.0, r.1, one_more r.0 ds s d after r.2 step)

module _ (opening : Opening) (first : State) where
  -- a state of this opening; where it goes on, steps lead to it
  abbrev Leads : State → Type 0
  Leads s = (s.opening ≡ opening) × (s.stop ≡ None → (ds : List Did) × machine.Run first ds s)

  step_leads : (s : State) (i : ℕ) (a : Act) (said : Answer) (after : State) → May s i a → Does s i a said after → Leads s → Leads after
  step_leads s i a said after may d h = (
    ap (λ (x : State). x.opening) d.left ∙ h.0,
    (λ runs.
        let r = h.1 d.runs in
        let this : Did = record { session = i; act = a; said = said } in
        (r.0 ++ this ∷ [], one_more first r.0 s this after r.1 (record { may = may; does = inl d }))),
  )

  told_leads : (s : State) (i : ℕ) (said : Answer) (after : State) → IsTold s i said after → Leads s → Leads after
  told_leads s i said after t h = (ap (λ (x : State). x.opening) t.left ∙ h.0, (λ runs. absurd (none-some t.stop (sym runs ∙ (ap (λ (x : State). x.stop) t.left ∙ t.stopped)))))

  same_state : (w : World) (d : Disk) → Leads (state_of w) → Leads (state_of (with_disk w d))
  same_state (At s e) d h = h
  same_state (Amid after i a s l es e) d h = h
  same_state (Halted s next e) d h = h

  move_leads : (v w : World) → Happens v w → Leads (state_of v) → Leads (state_of w)
  move_leads v w (begins s disk i a said after may d f) h = step_leads s i a said after may d h
  move_leads v w (acts after i a s l e es disk) h = h
  move_leads v w (ends after i a s l disk done) h = h
  move_leads v w (flushes u writes) h = same_state u _ h
  move_leads v w (acknowledges u none writes) h = same_state u _ h
  move_leads v w (publishes u xs keeps fall) h = same_state u _ h
  move_leads v w (fails_commit s disk i stopped may d) h = step_leads s i _ _ stopped may d h
  move_leads v w (fails_define s disk i statement stopped may d e same) h = step_leads s i _ _ stopped may d h
  move_leads v w (fails_before s disk i stopped may d) h = step_leads s i _ _ stopped may d h
  move_leads v w (fails_after s disk i stopped may d xs are fall) h = step_leads s i _ _ stopped may d h
  move_leads v w (told s disk i said after t) h = told_leads s i said after t h
  move_leads v w (told_halted s next disk i said after t) h = told_leads s i said after t h

  run_leads : (u w : World) → Run u w → Leads (state_of u) → Leads (state_of w)
  run_leads u w (here x) h = h
  run_leads u w (then_move a v b r move) h = move_leads v w move (run_leads u v r h)

pub room_left : (p : Pages) → IsOpened p.db p.view → (opening : Opening) (room : ℕ) → opening.log_limit ≡ Some room → block_bytes + 1 ≤ room → (s : State) (d : Disk) → Run (opened_world opening p) (At s d)
    → s.stop ≡ None → s.log.used + reserved s.store s.log ≤ room
room_left p was opening room limit most s d run runs =
    let first : State = opened_state opening (opened p.db p.view) in
    let leads = run_leads opening first (opened_world opening p) (At s d) run (refl, λ r. ([], refl)) in
    let steps = leads.1 runs in
    let is : s.opening.log_limit ≡ Some room = ap (λ (x : Opening). x.log_limit) leads.0 ∙ limit in
    let reached : IsReached s = record { db = p.db; view = p.view; opening = opening; was_opened = was; steps = steps.0; run = steps.1 } in
    subst (λ o. Within o (s.log.used + reserved s.store s.log)) is (log_room_law s reached (subst (λ o. Within o (block_bytes + 1)) (sym is) most) runs).0

-- ---- the log in memory

pub room_is : {D : Type 0} (t : DiskTells D) → StandingLaw t → RoomLaw t
room_is t standing room count p was opening limit most first is begun a calls =
    let there = standing room count p was opening first is begun a calls in (
      (λ after session x s l es d at.
          let step = there.1 (subst Writes (sym at) tt) in
          let used = (subst (λ w. IsCounted w a.log) at step.counted).1 in
          let kept = subst (λ w. Reserves w a.log) at step.reserves in
          omega (arith, used, kept)),
      (λ s d at.
          let step = there.1 (subst Writes (sym at) tt) in
          let used = (subst (λ w. IsCounted w a.log) at step.counted).1 in
          let kept = subst (λ w. Reserves w a.log) at step.reserves in
          let size = step.is_on.area_size in (
            omega (arith, used, kept),
            (λ runs. let left = room_left p was opening room limit most s d (subst (Run (opened_world opening p)) at there.0) runs in omega (arith, used, kept, left, size)),
          )),
    )
