-- The end of the input that is played is run.
use Rattle.std.specs.Prelude.{◌≡◌, ℕ, zero, suc, ◌+◌, T, List, [], ◌∷◌, length, Option, Some, None}
use mathlib.Core.Path.{refl, sym, subst}
use Rattle.std.proofs.Common.{arith}
use Rattle.std.specs.Option.{option_map}
use Rattle.iv_types.specs.declared.statement.Mode.{Mode}
use Rattle.txn_machine.specs.Acts as act
use Rattle.txn_machine.specs.Answers as answer
use Rattle.txn_machine.specs.Answers.{Answer}
use Rattle.txn_machine.specs.Keeping.{Open}
use Rattle.txn_machine.specs.Store.{schema_of}
use Rattle.txn_machine.proofs.PlainStates.{Plain, state_of}
use Rattle.txn_machine.proofs.Testing.{left_one, right_one}
use Rattle.script_law.specs.Seen.{Txn}
use Rattle.script_law.specs.Programs.{Standing}
use Rattle.script_law.specs.RunLines.{Line, idle, waiting, stepping, held, AtTable, Table, open_at, RollsBack, ends_it, takes_back, Leaves, cancels, cancels_held, steps_no_more, has_none, rolls_back, LeaveAll}
use Rattle.script_law.specs.Machine.{kept_seen, txn_seen, seen_of, DoesOf}
use Rattle.statement_law.specs.Telling.{tell}
use Rattle.script_runs.proofs.Choosing.{choose}
use Rattle.script_runs.proofs.Plays.{programs, Gone, not_gone, ended_by, undone_by, rolls, open_in, leaves_idle, cancels_first, leaves_by, leave_all}
use Rattle.script_runs.proofs.Steps.{Told, story, told_then, IsStep, doing_so}

-- ---- a transaction is taken back

abbrev RollsTo : ℕ → ℕ → Plain → Gone → Type 0
RollsTo i n p g = T g.passes → (told : Told) → (later : Told) × RollsBack DoesOf programs (tell [] None) i n (story p told) (story g.left later)

ended_so : (i : ℕ) (p : Plain) (said : Answer) (q : Plain) → IsStep p i act.End said q → RollsTo i 0 p (ended_by said q)
ended_so i p answer.Ended q does h told = (told_then p told i act.End answer.Ended, ends_it (story p told) (story q (told_then p told i act.End answer.Ended)) (does told))
ended_so i p said q does h told = absurd h

undone_so : (i n : ℕ) (p : Plain) (More : Plain → Gone) → ((q : Plain) → RollsTo i n q (More q)) → (said : Answer) (q : Plain) → IsStep p i act.UndoOne said q
    → RollsTo i (suc n) p (undone_by said q More)
undone_so i n p More all (answer.Undone left) q does h told =
    let mid : Told = told_then p told i act.UndoOne (answer.Undone left) in
    let g : Gone = More q in
    let r = all q h mid in
    let e : n + 1 ≡ suc n = omega arith in
    (r.0, subst (λ m. RollsBack DoesOf programs (tell [] None) i m (story p told) (story g.left r.0)) e (takes_back n left (story p told) (story q mid) (story g.left r.0) (does told) r.1))
undone_so i n p More all said q does h told = absurd h

rolls_so : (i n : ℕ) (p : Plain) → RollsTo i n p (rolls i n p)
rolls_so i zero p h = doing_so (RollsTo i 0 p) p i act.End (choose p i act.End) ended_by (not_gone p) (ended_so i p) (λ k. absurd k) h
rolls_so i (suc n) p h = doing_so (RollsTo i (suc n) p) p i act.UndoOne (choose p i act.UndoOne) (λ said q. undone_by said q (rolls i n)) (not_gone p)
    (undone_so i n p (rolls i n) (rolls_so i n)) (λ k. absurd k) h

-- ---- a session leaves

-- with this of its transaction seen
abbrev LeavesTo : ℕ → Line → Option Open → Plain → Gone → Type 0
LeavesTo i line o p g = T g.passes → (seen : Open → Txn) → ((t : Open) → length (seen t).kept ≡ length (kept_seen t.kept)) → (told : Told)
    → (later : Told) × Leaves DoesOf programs (tell [] None) i line (option_map seen o) (story p told) (story g.left later)

idle_so : (i : ℕ) (o : Option Open) (p : Plain) → LeavesTo i idle o p (leaves_idle i o p)
idle_so i None p h seen same told = (told, has_none (story p told))
idle_so i (Some t) p h seen same told =
    let n : ℕ = length (kept_seen t.kept) in
    let r = rolls_so i n p h told in
    (r.0, rolls_back (seen t) (story p told) (story (rolls i n p).left r.0) (subst (λ m. RollsBack DoesOf programs (tell [] None) i m (story p told) (story (rolls i n p).left r.0)) (sym (same t)) r.1))

-- its request is cancelled first
cancels_so : (i : ℕ) (line : Line) (o : Option Open) (p : Plain)
    → ((told : Told) (said : Answer) (q : Plain) (seen : Open → Txn) (later : Told) → IsStep p i act.Cancel said q
    → Leaves DoesOf programs (tell [] None) i idle (option_map seen o) (story q (told_then p told i act.Cancel said)) (story (leaves_idle i o q).left later)
    → Leaves DoesOf programs (tell [] None) i line (option_map seen o) (story p told) (story (leaves_idle i o q).left later))
    → LeavesTo i line o p (cancels_first i o p)
cancels_so i line o p make = doing_so (LeavesTo i line o p) p i act.Cancel (choose p i act.Cancel) (λ said q. leaves_idle i o q) (not_gone p)
    (λ said q does h seen same told.
    let r = idle_so i o q h seen same (told_then p told i act.Cancel said) in
    (r.0, make told said q seen r.0 does r.1))
    (λ k. absurd k)

leaves_so : (i : ℕ) (line : Line) (o : Option Open) (p : Plain) → LeavesTo i line o p (leaves_by i line o p)
leaves_so i idle o p h seen same told = idle_so i o p h seen same told
leaves_so i (waiting todo) o p h seen same told = cancels_so i (waiting todo) o p (λ told said q seen later does l.
    cancels todo (option_map seen o) (story p told) (story q (told_then p told i act.Cancel said)) (story (leaves_idle i o q).left later) said (does told) l) h seen same told
leaves_so i (stepping todo) o p h seen same told =
    let r = idle_so i o p h seen same told in
    (r.0, steps_no_more todo (option_map seen o) (story p told) (story (leaves_idle i o p).left r.0) r.1)
leaves_so i (held todo) o p h seen same told = cancels_so i (held todo) o p (λ told said q seen later does l.
    cancels_held todo (option_map seen o) (story p told) (story q (told_then p told i act.Cancel said)) (story (leaves_idle i o q).left later) said (does told) l) h seen same told

-- ---- all sessions leave

mode_open : (f : Open → Txn) (o : Option Open) (mode : Option Mode)
    → option_map f (elim mode [ None ↦ None | Some m ↦ o ]) ≡ elim mode [ None ↦ None | Some m ↦ option_map f o ]
mode_open f o None = refl
mode_open f o (Some m) = refl

line_open : (f : Open → Txn) (o : Option Open) (standing : Standing) (line : Line)
    → option_map f (open_in (record { standing = standing; line = line }) o) ≡ open_at (record { standing = standing; line = line }) (option_map f o)
line_open f o standing idle = mode_open f o standing.mode
line_open f o standing (waiting todo) = refl
line_open f o standing (stepping todo) = refl
line_open f o standing (held todo) = refl

pub leave_so : (ns : List ℕ) (table : Table) (p : Plain) → T (leave_all ns table p).passes → (told : Told)
    → (later : Told) × LeaveAll DoesOf programs (tell [] None) seen_of ns table (story p told) (story (leave_all ns table p).left later)
leave_so [] table p h told = (told, refl)
leave_so (n ∷ ns) table p h told =
    let o : Option Open = p.of.store.open_of n in
    let seat : AtTable = table n in
    let seen : Open → Txn = txn_seen (schema_of (state_of p).store) (told n) in
    let g : Gone = leaves_by n seat.line (open_in seat o) p in
    let next : Gone = leave_all ns table g.left in
    let r = leaves_so n seat.line (open_in seat o) p (left_one g.passes next.passes h) seen (λ t. refl) told in
    let later = leave_so ns table g.left (right_one g.passes next.passes h) r.0 in (
      later.0,
      (
        story g.left r.0,
        subst (λ (t : Option Txn). Leaves DoesOf programs (tell [] None) n seat.line t (story p told) (story g.left r.0)) (line_open seen o seat.standing seat.line) r.1,
        later.1,
      ),
    )
