-- One session of many is set; and what single events change.
use Rattle.std.specs.Prelude.{◌≡◌, ◌≢◌, ◌⊎◌, ℕ, ◌==◌, Bool, true, false, IsTrue, ◌||◌, cond, List, [], ◌∷◌, ◌++◌, Option, Some, None, if◌then◌else◌}
use mathlib.Core.Path.{refl, sym, ap}
use mathlib.Core.Logic.{inl, inr}
use Rattle.std.proofs.Common.{eq-eqb, append-nil}
use Rattle.std.proofs.lemmas.Bool.{ne_eqb}
use Rattle.iv_types.specs.declared.session.Sessions.{Sessions}
use Rattle.iv_types.specs.declared.reply.Reply.{Reply}
use Rattle.iv_types.specs.declared.statement.Mode.TheVariants.{Serial, Snapshot}
use Rattle.iv_types.specs.Syntax.{StatementTree, begin, commit, rollback}
use Rattle.iv_meaning.specs.Statement.{Kept}
use Rattle.iv_meaning.specs.Transaction.{outside}
use Rattle.iv_meaning.specs.History.{fold, state_at}
use Rattle.iv_meaning.specs.Serial.{World, Unended, latest, base_of, commits, set_open, EndsInside, EndsOutside}
use Rattle.script_law.specs.Seen.{Event, Waits, LacksRow, Fails, Begins, Learns, Finds, FindsThen, Changes, Pays, TakesBack, Ends, Commits, Creates, Denies, Idles, Never, Txn, txn_after, Visible, committed, base, entries, open_after, history_after}
use Rattle.script_law.specs.Programs.{Todo, Job, stays_inside, is_begin, with_told, Closes, Proceeds, next_txn}
use Rattle.script_law.specs.RunLines.{outcome_of, outcome_at, IsNotBlocked}

-- ---- one session is set

pub if_same : {X : Type 0} (i : ℕ) (x y : X) → (if i == i then x else y) ≡ x
if_same i x y = ap (λ b. cond b x y) (eq-eqb i i refl)

pub if_other : {X : Type 0} (j i : ℕ) (x y : X) → j ≢ i → (if j == i then x else y) ≡ y
if_other j i x y n = ap (λ b. cond b x y) (ne_eqb j i n)

-- ---- events

-- the transaction is as before or goes on, and nothing is committed
abbrev pub IsQuiet : Event → Type 0
IsQuiet (Begins mode number defs) = ⊥
IsQuiet Ends = ⊥
IsQuiet (Commits number) = ⊥
IsQuiet (Creates statement number) = ⊥
IsQuiet (Denies statement why) = ⊥
IsQuiet e = Unit {0}

pub quiet_history : (v : Visible) (i : ℕ) (e : Event) → IsQuiet e → history_after v i e ≡ v.history
quiet_history v i (Begins mode number defs) q = absurd q
quiet_history v i (Commits number) q = absurd q
quiet_history v i (Creates statement number) q = absurd q
quiet_history v i _ q = refl

pub quiet_open : (v : Visible) (t : Option Txn) (e : Event) → IsQuiet e → open_after v t e ≡ next_txn t e
quiet_open v None (Begins mode number defs) q = absurd q
quiet_open v None _ q = refl
quiet_open v (Some t) e q = refl

pub same_open : (t : Option Txn) (e : Event) → (e ≡ LacksRow) ⊎ ((sessions : Sessions) × (e ≡ Waits sessions)) → (v : Visible) → open_after v t e ≡ t
same_open None e (inl is) v = ap (open_after v None) is
same_open None e (inr (sessions, is)) v = ap (open_after v None) is
same_open (Some t) e (inl is) v = ap (txn_after t) is
same_open (Some t) e (inr (sessions, is)) v = ap (txn_after t) is

-- what a step that came so does to a program
pub data Came (j : Job) (t : Option Txn) (e : Event) (next : Todo) (more : Type 0) : Type 0 where
  blocked : (sessions : Sessions) → e ≡ Waits sessions → Came j t e next more
  lacks : e ≡ LacksRow → Came j t e next more
  closed : IsNotBlocked e → e ≢ LacksRow → Closes j t e next → Came j t e next more
  on : IsNotBlocked e → e ≢ LacksRow → IsQuiet e → more → Came j t e next more

pub came : (j : Job) (t : Option Txn) (e : Event) (next : Todo) (more : Type 0) → Proceeds j t e next more → Came j t e next more
came j t (Waits sessions) next more h = blocked sessions refl
came j t LacksRow next more h = lacks refl
came j t (Begins mode number defs) next more h = absurd h
came j t (Commits number) next more h = closed tt (λ x. cc) h
came j t Ends next more h = closed tt (λ x. cc) h
came j t (Creates statement number) next more h = closed tt (λ x. cc) h
came j t (Denies statement why) next more h = closed tt (λ x. cc) h
came j t (Fails why) next more h = on tt (λ x. cc) tt h
came j t (Learns objects) next more h = on tt (λ x. cc) tt h
came j t (Finds index interval rows) next more h = on tt (λ x. cc) tt h
came j t (FindsThen index interval rows) next more h = on tt (λ x. cc) tt h
came j t (Changes place new before owed) next more h = on tt (λ x. cc) tt h
came j t Pays next more h = on tt (λ x. cc) tt h
came j t TakesBack next more h = on tt (λ x. cc) tt h
came j t Idles next more h = on tt (λ x. cc) tt h
came j t Never next more h = on tt (λ x. cc) tt h

pub either_true : (a b : Bool) → IsTrue (a || b) → IsTrue a ⊎ IsTrue b
either_true true b e = inl refl
either_true false b e = inr e

-- ---- runs of steps

pub outcome_free : (e : Event) (stay next : Todo) → IsNotBlocked e → outcome_of e stay next ≡ outcome_at next
outcome_free (Waits sessions) stay next free = absurd free
outcome_free _ stay next free = refl

-- ---- databases

pub base_same : (w : World) (v : Visible) (o : Unended) (t : Txn) → w.origin ≡ v.origin → w.history ≡ v.history → t.mode ≡ o.mode → t.number ≡ o.number → base v t ≡ base_of w o
base_same w v o t origin history mode number = λ x. elim (mode x) [
  | Serial ↦ fold (sym history x) (sym origin x)
  | Snapshot ↦ state_at (sym origin x) (sym history x) (number x)
]

pub latest_same : (w : World) (v : Visible) → w.origin ≡ v.origin → w.history ≡ v.history → committed v ≡ latest w
latest_same w v origin history = λ x. fold (sym history x) (sym origin x)

pub base_serial : (v : Visible) (t : Txn) → t.mode ≡ Serial → base v t ≡ committed v
base_serial v t mode = λ x. elim (mode x) [ Serial ↦ committed v | Snapshot ↦ state_at v.origin v.history t.number ]

-- ---- commits

pub commits_origin : (w : World) (i : ℕ) (kept : List Kept) → (commits w i kept).origin ≡ w.origin
commits_origin w i [] = refl
commits_origin w i (k ∷ ks) = refl

pub commits_running : (w : World) (i : ℕ) (kept : List Kept) (j : ℕ) → (commits w i kept).running j ≡ w.running j
commits_running w i [] j = refl
commits_running w i (k ∷ ks) j = refl

pub commits_unfinished : (w : World) (i : ℕ) (kept : List Kept) (j : ℕ) → (commits w i kept).unfinished j ≡ w.unfinished j
commits_unfinished w i [] j = refl
commits_unfinished w i (k ∷ ks) j = refl

pub commits_history : (w : World) (i : ℕ) (kept : List Kept) → (commits w i kept).history ≡ w.history ++ entries (latest w).number i kept
commits_history w i [] = sym (append-nil w.history)
commits_history w i (k ∷ ks) = refl

-- ---- statements

pub inside_goes : (w : World) (i : ℕ) (o : Unended) (statement : StatementTree) (replies : List Reply) (after : World) → stays_inside statement ≡ true
    → after ≡ set_open w i (Some (with_told o statement replies)) → EndsInside w i o statement replies after
inside_goes w i o commit replies after e h = absurd (cc)
inside_goes w i o (rollback None) replies after e h = absurd (cc)
inside_goes w i o (rollback (Some name)) replies after e h = h
inside_goes w i o _ replies after e h = h

pub outside_ends : (w : World) (i : ℕ) (statement : StatementTree) (number : ℕ) (replies : List Reply) (after : World) → is_begin statement ≡ false
    → replies ≡ (outside statement (latest w)).replies → after ≡ commits w i (outside statement (latest w)).kept → EndsOutside w i statement number replies after
outside_ends w i (begin mode) number replies after e r h = absurd (cc)
outside_ends w i _ number replies after e r h = (r, h)
