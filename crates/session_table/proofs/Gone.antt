-- Steps of a session one after another.
use Rattle.std.specs.Prelude.{◌≡◌, ◌⊎◌, ◌≤◌, ◌+◌, ℕ, Bool, true, false, [], Option, Some, None}
use mathlib.Core.Path.{refl, sym, ap, subst, ◌∙◌}
use mathlib.Core.Logic.{inl, inr}
use Rattle.std.proofs.Common.{arith}
use Rattle.iv_types.specs.declared.session.Sessions.{Sessions}
use Rattle.txn_machine.specs.Acts.{Act}
use Rattle.txn_machine.specs.State.{most_steps}
use Rattle.txn_machine.specs.Alone.{Story}
use Rattle.script_law.specs.Programs.{Todo, says}
use Rattle.script_law.specs.RunLines.{Outcome, ended, stuck, act_of, RunsOn, has_ended, is_blocked, goes_on}
use Rattle.script_law.specs.Machine.{DoesOf}
use Rattle.script_law.proofs.OverMachine.{machine_laws}
use Rattle.txn_sessions.specs.declared.line.Replies.{Replies}
use Rattle.txn_sessions.specs.declared.session.Session.{Session}
use Rattle.txn_sessions.specs.Standings.{replies_of}
use Rattle.txn_sessions.specs.Sessions.{stands, todo_of, left_of, IsIdle}
use Rattle.txn_sessions.specs.Within.{IsWithin}
use Rattle.session_table.specs.declared.going.Came.TheVariants as came
use Rattle.session_asks.specs.Askable.{the_programs, IsAskable}
use Rattle.session_table.specs.Going.{the_tell, MayGo, DidStep, standing_in, IsMoved, WentOn}
use Rattle.session_table.proofs.Counting.{steps_most}
use Rattle.session_asks.proofs.Coming.{askable_next, askable_blocked, askable_told}

abbrev pub Runs : ℕ → Todo → Story → ℕ → Outcome → Story → Type 0
Runs = RunsOn DoesOf the_programs the_tell

-- the session may go on after a step
pub next_goes : (s : Story) (x x' : Session) (after : Story) → MayGo x s → x'.number ≡ x.number → DidStep s x None x' after → MayGo x' after
next_goes s x x' after go n d = record {
  reached = machine_laws.stands s after x.number d.act d.said go.reached d.does;
  askable = subst (λ i. IsAskable i (todo_of x') after) (sym n) (subst (λ t. IsAskable x.number t after) (sym d.goes.1)
      (askable_next x.number (todo_of x) s go.askable d.act d.said d.memory after d.asks d.does d.goes.0));
  within = d.within;
}

-- one more step, unless the statement has ended
abbrev pub last_of : Option Act → ℕ
last_of None = 1
last_of (Some a) = 0

-- So many steps were done, none of them blocked: a run that goes on from here is one from there.
pub record Gone (s : Story) (x : Session) (moved : Bool) (many : ℕ) (x' : Session) (after : Story) : Type 0 where
  pub moved_is : IsMoved moved many
  pub joins : (more all : ℕ) (o : Outcome) (end : Story) → Runs x.number (todo_of x') after more o end → all ≡ more + many → Runs x.number (todo_of x) s all o end
  pub counts : many + s.state.steps ≤ after.state.steps + last_of (act_of (todo_of x'))
  pub go : MayGo x' after

pub gone_none : (s : Story) (x : Session) → MayGo x s → Gone s x false 0 x s
gone_none s x go = record {
  moved_is = refl;
  joins = λ more all o end r is. subst (λ n. Runs x.number (todo_of x) s n o end) (let e : more ≡ all = omega (arith, is) in e) r;
  counts = omega arith;
  go = go;
}

pub gone_more : (s : Story) (x y y' : Session) (moved : Bool) (many : ℕ) (mid after : Story) → Gone s x moved many y mid → y.number ≡ x.number → y'.number ≡ x.number → DidStep mid y None y' after
    → Gone s x true (many + 1) y' after
gone_more s x y y' moved many mid after h n n' d = record {
  moved_is = (many, refl);
  joins = λ more all o end r is. h.joins (more + 1) all o end
      (subst (λ i. Runs i (todo_of y) mid (more + 1) o end) n
      (goes_on (todo_of y) d.act mid after end d.said d.memory more o d.asks d.does d.goes.0
      (subst (λ t. Runs y.number t after more o end) d.goes.1 (subst (λ i. Runs i (todo_of y') after more o end) (sym n) r))))
      (omega (arith, is));
  counts = by d.counts;
  go = next_goes mid y y' after h.go (n' ∙ sym n) d;
}
  where
    was : many + s.state.steps ≤ mid.state.steps
    was = let at : many + s.state.steps ≤ mid.state.steps + 0 = subst (λ o. many + s.state.steps ≤ mid.state.steps + last_of o) d.asks h.counts in omega (arith, at)

    by : (after.state.steps ≡ mid.state.steps + 1) ⊎ ((after.state.steps ≡ mid.state.steps) × (act_of (todo_of y') ≡ None)) → (many + 1) + s.state.steps ≤ after.state.steps + last_of (act_of (todo_of y'))
    by (inl e) = omega (arith, e, was)
    by (inr e) = let one : last_of (act_of (todo_of y')) ≡ 1 = ap last_of e.1 in omega (arith, e.0, was, one)

-- ---- how it comes to rest

pub idle_todo : (x : Session) → IsIdle x → todo_of x ≡ says [] (stands x)
idle_todo x idle = ap (left_of (stands x)) idle

-- a session that is blocked may go on
pub blocked_goes : (s : Story) (x x' : Session) (sessions : Sessions) (after : Story) → MayGo x s → DidStep s x (Some sessions) x' after → MayGo x' after
blocked_goes s x x' sessions after go d = record {
  reached = machine_laws.stands s after x.number d.act d.said go.reached d.does;
  askable = subst (λ (z : Session). IsAskable z.number (todo_of z) after) (sym d.goes.1) (askable_blocked x.number (todo_of x) s go.askable d.act d.said d.memory after sessions d.asks d.does d.goes.0);
  within = d.within;
}

-- and so may one whose replies were taken
pub taken_goes : (s : Story) (x x' : Session) (replies : Replies) → MayGo x s → todo_of x ≡ says (replies_of replies) (stands x') → x'.number ≡ x.number → IsIdle x' → IsWithin s.state.steps x' → MayGo x' s
taken_goes s x x' replies go is n idle within = record {
  reached = go.reached;
  askable = subst (λ i. IsAskable i (todo_of x') s) (sym n) (subst (λ t. IsAskable x.number t s) (sym (idle_todo x' idle))
      (askable_told x.number [] (replies_of replies) (stands x') s (subst (λ t. IsAskable x.number t s) is go.askable)));
  within = within;
}

-- it is blocked
pub gone_stuck : (s : Story) (x y y' : Session) (moved : Bool) (many : ℕ) (mid after : Story) (sessions : Sessions) → Gone s x moved many y mid → y.number ≡ x.number
    → y'.number ≡ x.number → DidStep mid y (Some sessions) y' after → WentOn s x (record { moved = moved; came = came.Stuck sessions }) y' after
gone_stuck s x y y' moved many mid after sessions h n n' d =
    let same : y' ≡ y = d.goes.1 in
    record {
      moved = many;
      moved_is = h.moved_is;
      run = h.joins 0 many (stuck sessions (todo_of y')) after
          (subst (λ i. Runs i (todo_of y) mid 0 (stuck sessions (todo_of y')) after) n
          (subst (λ (z : Session). Runs y.number (todo_of y) mid 0 (stuck sessions (todo_of z)) after) (sym same)
          (is_blocked (todo_of y) d.act mid after d.said sessions d.asks d.does d.goes.0)))
          (omega arith);
      counts = counted d.counts;
      go = blocked_goes mid y y' sessions after h.go d;
    }
  where
    was : many + s.state.steps ≤ mid.state.steps
    was = let at : many + s.state.steps ≤ mid.state.steps + 0 = subst (λ o. many + s.state.steps ≤ mid.state.steps + last_of o) d.asks h.counts in omega (arith, at)

    counted : (after.state.steps ≡ mid.state.steps + 1) ⊎ ((after.state.steps ≡ mid.state.steps) × (act_of (todo_of y') ≡ None)) → many + s.state.steps ≤ after.state.steps + 0
    counted (inl e) = omega (arith, e, was)
    counted (inr e) = omega (arith, e.0, was)

last_most : (o : Option Act) → last_of o ≤ 1
last_most None = omega arith
last_most (Some a) = omega arith

-- it has ended, and its replies are taken
pub gone_ended : (s : Story) (x y y' : Session) (moved : Bool) (many : ℕ) (after : Story) (replies : Replies) → Gone s x moved many y after → todo_of y ≡ says (replies_of replies) (stands y') → y'.number ≡ y.number
    → IsIdle y' → IsWithin after.state.steps y' → WentOn s x (record { moved = moved; came = came.Ended replies }) y' after
gone_ended s x y y' moved many after replies h is n idle within = record {
  moved = many;
  moved_is = h.moved_is;
  run = h.joins 0 many (ended (replies_of replies) (standing_in (todo_of y'))) after
      (subst (λ t. Runs x.number t after 0 (ended (replies_of replies) (standing_in (todo_of y'))) after) (sym is)
      (subst (λ st. Runs x.number (says (replies_of replies) (stands y')) after 0 (ended (replies_of replies) st) after) (sym (ap standing_in (idle_todo y' idle)))
      (has_ended (replies_of replies) (stands y') after)))
      (omega arith);
  counts = let most : last_of (act_of (todo_of y)) ≤ 1 = last_most (act_of (todo_of y)) in omega (arith, h.counts, most);
  go = taken_goes after y y' replies h.go is n idle within;
}

-- no more steps are done than an engine counts
pub gone_few : (s : Story) (x y : Session) (moved : Bool) (many : ℕ) (after : Story) → Gone s x moved many y after → many ≤ most_steps + 1
gone_few s x y moved many after h =
    let most : after.state.steps ≤ most_steps = steps_most after h.go.reached in
    let one : last_of (act_of (todo_of y)) ≤ 1 = last_most (act_of (todo_of y)) in
    omega (arith, h.counts, most, one)
