-- What is left of a work behind each of its steps.
use Rattle.std.specs.Prelude.{◌≡◌, ◌⊎◌, ◌<◌, ◌+◌, ◌==◌, ℕ, zero, suc, Bool, true, false, List, [], ◌∷◌, drop, length, Option, None, if◌then◌else◌}
use Rattle.std.proofs.Common.{arith, inl, inr}
use Rattle.std.proofs.lemmas.Bool.Decides.{nat_tests}
use mathlib.Core.Path.{refl, sym, ap, subst, ◌∙◌}
use Rattle.iv_types.specs.declared.statement.Mode.{Mode}
use Rattle.iv_types.specs.declared.statement.Mode.TheVariants.{Serial, Snapshot}
use Rattle.iv_types.specs.declared.lock.GroupDelta.{GroupDelta}
use Rattle.iv_types.specs.declared.refusal.Refusal.TheVariants as refusal
use Rattle.iv_types.specs.declared.refusal.EngineRefusal.{EngineRefusal}
use Rattle.iv_types.specs.declared.refusal.EngineRefusal.TheVariants as engine
use Rattle.iv_meaning.specs.Database.{Row}
use Rattle.txn_machine.specs.Acts as act
use Rattle.txn_machine.specs.Answers as answer
use Rattle.script_law.specs.Programs.{Standing, Todo, asks}
use Rattle.script_law.specs.Works.{Work, done, refuses, fetches, puts}
use Rattle.script_law.specs.Sessions.{with_memory, changed_next, failed, pay_failed, pays, runs}
use Rattle.statement_law.specs.Statements.{the_works}
use Rattle.task_parts.specs.declared.turn.Told.{Told}
use Rattle.task_parts.specs.declared.turn.Told.TheVariants.{Before}
use Rattle.task_parts.specs.declared.turn.Turn.{Turn}
use Rattle.task_parts.specs.declared.turn.Turn.TheVariants.{Fetch, Peek, Change, Done, Refused, NoMemory}
use Rattle.dml_exec.specs.Tasks.{GoesOn}
use Rattle.engine_refusals.specs.Named.{IsEscrow}
use Rattle.statement_tasks.specs.declared.task.Task.{Task}
use Rattle.statement_tasks.specs.Tasks.{mode_of, left_when, IsTurnIn, Moves}
use Rattle.txn_sessions.specs.declared.line.Opening.{Opening}
use Rattle.txn_sessions.specs.declared.line.Owing.{Owing}
use Rattle.txn_sessions.specs.declared.line.Stage.TheVariants as stage
use Rattle.txn_sessions.specs.declared.session.Session.{Session}
use Rattle.txn_sessions.specs.Fits.{is_owing}
use Rattle.txn_sessions.specs.Left.{opens, lacking, learn_follows, open_follows, frame_in, runs_as, pay_follows, follows}
use Rattle.txn_sessions.specs.Sessions.{Comes}

decided : (turn : Turn) → (turn ≡ NoMemory) ⊎ (turn ≡ NoMemory → ⊥)
decided NoMemory = inl refl
decided (Fetch i r m) = inr (λ e. cc)
decided (Peek i r) = inr (λ e. cc)
decided (Change t k n) = inr (λ e. cc)
decided (Done replies) = inr (λ e. cc)
decided (Refused why) = inr (λ e. cc)

module _ (m : Option Mode) (st : Standing) where
  -- ---- turns

  -- a change that was asked for
  put_as : Mode → ℕ → List ℕ → Option Row → (Option Row → Work) → ℕ → Todo
  put_as mode t k n more made =
      asks (act.Put t k n) (changed_next (λ before owed. pays the_works st.copy mode (frame_in m st) owed (λ j. runs the_works st.copy mode (frame_in m st) (more before) j) (made + 1))
      ((frame_in m st).back (made + 1) refusal.NoMemory) (failed the_works st.copy mode (frame_in m st) made None))

  put_is : (by mode : Mode) (w : Work) (t : ℕ) (k : List ℕ) (n : Option Row) (more : Told → Work) (made : ℕ) → IsTurnIn by w (Change t k n) → GoesOn w (Change t k n) more
      → put_as mode t k n (λ before. more (Before before)) made ≡ runs_as m st mode w made
  unfolding put_as
  put_is Serial mode (puts number key new f) t k n more made is goes =
      λ i. asks (act.Put (is.0 i) (is.1 i) (is.2 i))
      (changed_next (λ before owed. pays the_works st.copy mode (frame_in m st) owed (λ j. runs the_works st.copy mode (frame_in m st) (goes before i) j) (made + 1))
      ((frame_in m st).back (made + 1) refusal.NoMemory) (failed the_works st.copy mode (frame_in m st) made None))
  put_is Snapshot mode (puts number key new f) t k n more made is goes =
      λ i. asks (act.Put (is.0 i) (is.1 i) (is.2 i))
      (changed_next (λ before owed. pays the_works st.copy mode (frame_in m st) owed (λ j. runs the_works st.copy mode (frame_in m st) (goes before i) j) (made + 1))
      ((frame_in m st).back (made + 1) refusal.NoMemory) (failed the_works st.copy mode (frame_in m st) made None))
  put_is Serial mode (done listed count) t k n more made is goes = absurd is
  put_is Serial mode (refuses why) t k n more made is goes = absurd is
  put_is Serial mode (fetches index interval lock f) t k n more made is goes = absurd is
  put_is Snapshot mode (done listed count) t k n more made is goes = absurd is
  put_is Snapshot mode (refuses why) t k n more made is goes = absurd is
  put_is Snapshot mode (fetches index interval lock f) t k n more made is goes = absurd is

  pub put_runs : (w : Work) (t : ℕ) (k : List ℕ) (n : Option Row) (task : Task) (made : ℕ) → Moves (mode_of task) w (Change t k n) task
      → asks (act.Put t k n) (follows m st (stage.Changing task made)) ≡ runs_as m st (mode_of task) w made
  unfolding put_as
  put_runs w t k n task made h = put_is (mode_of task) (mode_of task) w t k n (λ told. left_when told task) made h.is_turn h.goes_on

  -- ---- what is taken of a turn

  same_mode : (mode : Mode) (w : Work) (turn : Turn) (task : Task) → Moves mode w turn task → Moves (mode_of task) w turn task
  same_mode mode w turn task h = subst (λ x. Moves x w turn task) (sym h.mode_is) h

  pub first_taken : (new : Session) (mode : Mode) (w : Work) (turn : Turn) (task : Task) (made : ℕ) → Moves mode w turn task → (turn ≡ NoMemory → ⊥)
      → ((v : Work) → Moves (mode_of task) v turn task → (turn ≡ NoMemory → ⊥) → Comes new (runs_as m st (mode_of task) v made)) → Comes new (runs_as m st mode w made)
  first_taken new mode w turn task made h memory went =
      subst (λ x. Comes new (runs_as m st x w made)) h.mode_is (went w (same_mode mode w turn task h) memory)

  pub taken : (new : Session) (mode : Mode) (w : Work) (turn : Turn) (task : Task) (made : ℕ) → Moves mode w turn task
      → ((v : Work) → Moves (mode_of task) v turn task → (turn ≡ NoMemory → ⊥) → Comes new (runs_as m st (mode_of task) v made))
      → (turn ≡ NoMemory → Comes new ((frame_in m st).back made refusal.NoMemory))
      → (memory : Bool) × Comes new (with_memory memory (runs_as m st mode w made) ((frame_in m st).back made refusal.NoMemory))
  taken new mode w turn task made h went lacks =
      elim (decided turn) [ inl e ↦ (false, lacks e) | inr e ↦ (true, first_taken new mode w turn task made h e went) ]

  -- it is refused before its first step, or there was no memory
  pub refused_first : (new : Session) (mode : Mode) (w : Work) (why : _) → (why ≡ refusal.NoMemory) ⊎ (w ≡ refuses why) → Comes new ((frame_in m st).back 0 why)
      → (memory : Bool) × Comes new (with_memory memory (runs_as m st mode w 0) ((frame_in m st).back 0 refusal.NoMemory))
  refused_first new mode w why (inl e) h = (false, subst (λ r. Comes new ((frame_in m st).back 0 r)) e h)
  refused_first new mode w why (inr e) h = (true, subst (λ v. Comes new (runs_as m st mode v 0)) (sym e) h)

  -- ---- pays

  module _ (mode : Mode) (next : ℕ → Todo) where
    pub pays_first : (ds : List GroupDelta) (n : ℕ) → 0 < length ds → asks act.Pay (pay_follows m st mode ds next n) ≡ pays the_works st.copy mode (frame_in m st) ds next n
    pays_first [] n h = absurd (omega (arith, h))
    pays_first (d ∷ ds) n h = refl

    pub paid_one : (ds : List GroupDelta) (p n left : ℕ) (memory : Bool) → p < length ds
        → with_memory memory (pays the_works st.copy mode (frame_in m st) (drop (p + 1) ds) next (n + 1)) ((frame_in m st).back (n + 1) refusal.NoMemory)
        ≡ pay_follows m st mode (drop p ds) next n (answer.Paid left) memory
    paid_one [] p n left memory h = absurd (omega (arith, h))
    paid_one (d ∷ ds) zero n left memory h = refl
    paid_one (d ∷ ds) (suc p) n left memory h =
        ap (λ q. with_memory memory (pays the_works st.copy mode (frame_in m st) (drop q (d ∷ ds)) next (n + 1)) ((frame_in m st).back (n + 1) refusal.NoMemory)) (one_behind p)
        ∙ paid_one ds p n left memory (omega (arith, h))
      where
        one_behind : (k : ℕ) → suc k + 1 ≡ suc (k + 1)
        one_behind k = omega arith

  pub no_names : (mode : Mode) (n : ℕ) (d : GroupDelta) (why : EngineRefusal) → IsEscrow why → (frame_in m st).back n refusal.NoMemory ≡ pay_failed the_works st.copy mode (frame_in m st) n d false why
  no_names mode n d (engine.Escrow column inf sup) h = refl
  no_names mode n d _ h = absurd h

-- ---- owed deltas

first_of : (ds : List GroupDelta) (p : ℕ) → p < length ds → (d : GroupDelta) × (more : List GroupDelta) × (drop p ds ≡ d ∷ more)
first_of [] p h = absurd (omega (arith, h))
first_of (d ∷ ds) zero h = (d, ds, refl)
first_of (d ∷ ds) (suc p) h = first_of ds p (omega (arith, h))

pub owing_some : (o : Owing) → is_owing o ≡ true → o.paid < length o.owed
owing_some o h = grind (arith, nat_tests, h)

pub owing_first : (o : Owing) → is_owing o ≡ true → (d : GroupDelta) × (more : List GroupDelta) × (drop o.paid o.owed ≡ d ∷ more)
owing_first o h = first_of o.owed o.paid (owing_some o h)

-- ---- where a transaction has begun

-- the session's copy has all definitions
pub opened_as : (m : Option Mode) (st : Standing) (o : Opening) (number defs : ℕ) (memory : Bool) → defs ≡ length st.copy
    → with_memory memory (opens m st o number) (lacking m st) ≡ open_follows m st o (answer.Begun number defs) memory
opened_as m st o number defs memory e =
    let same : (defs == length st.copy) ≡ true = grind (arith, nat_tests, e) in
    sym (ap (λ b. with_memory memory (if b then opens m st o number else asks act.Defs (learn_follows m st o number)) (lacking m st)) same)
