-- Which answers a stage's step has.
use Rattle.std.specs.Prelude.{◌≡◌, Bool, true, List, Option, Result, Ok, Err, IfErr}
use mathlib.Core.Path.{refl, sym, subst}
use Rattle.iv_types.specs.declared.statement.Mode.{Mode}
use Rattle.txn_machine.specs.Acts as act
use Rattle.txn_machine.specs.Acts.{Act}
use Rattle.txn_machine.specs.Answers as answer
use Rattle.txn_machine.specs.Answers.{Answer}
use Rattle.script_law.specs.Seen.{event}
use Rattle.script_law.specs.Programs.{Standing, Todo, asks}
use Rattle.script_law.specs.RunLines as lines
use Rattle.txn_sessions.specs.declared.line.Stage.{Stage}
use Rattle.txn_sessions.specs.declared.line.Stage.TheVariants as stage
use Rattle.txn_sessions.specs.declared.session.Session.{Session}
use Rattle.txn_sessions.specs.Sessions.{Comes}
use Rattle.iv_types.specs.declared.lock.GroupDelta.{GroupDelta}
use Rattle.iv_types.specs.declared.refusal.EngineRefusal.{EngineRefusal}
use Rattle.iv_meaning.specs.Database.{Row}
use Rattle.txn_sessions.specs.Answers.{WasChanged}
use Rattle.txn_sessions.specs.Fits.{fits, IsRefused, IsOwn, IsOf, IsAnswered, IsBegun, IsDefs, IsRows, IsChanged, IsPaid, IsGhosted, IsUndone, IsEnded, IsCommitted, IsCreated}
use Rattle.txn_sessions.specs.Left.{follows, asked_as}

begun_own : (mode : Mode) (said : Answer) → IsOwn (event (act.Begin mode) said) → IsBegun said
begun_own mode (answer.Begun number defs) h = tt
begun_own mode (answer.Refused why) h = tt
begun_own mode _ h = absurd h

defs_own : (said : Answer) → IsOwn (event act.Defs said) → IsDefs said
defs_own (answer.Defs objects) h = tt
defs_own (answer.Refused why) h = tt
defs_own _ h = absurd h

fetch_own : (i : _) (r : _) (mode : _) (said : Answer) → IsOwn (event (act.Fetch i r mode) said) → IsRows said
fetch_own i r mode (answer.Rows rows) h = tt
fetch_own i r mode (answer.Refused why) h = tt
fetch_own i r mode _ h = absurd h

peek_own : (i : _) (r : _) (said : Answer) → IsOwn (event (act.Peek i r) said) → IsRows said
peek_own i r (answer.Rows rows) h = tt
peek_own i r (answer.Refused why) h = tt
peek_own i r _ h = absurd h

put_own : (t : _) (k : _) (n : _) (said : Answer) → IsOwn (event (act.Put t k n) said) → IsChanged said
put_own t k n (answer.Changed before owed) h = tt
put_own t k n (answer.Refused why) h = tt
put_own t k n _ h = absurd h

pay_own : (said : Answer) → IsOwn (event act.Pay said) → IsPaid said
pay_own (answer.Paid left) h = tt
pay_own answer.NeedsGhost h = tt
pay_own (answer.Refused why) h = tt
pay_own _ h = absurd h

ghost_own : (said : Answer) → IsOwn (event act.Ghost said) → IsGhosted said
ghost_own answer.Ghosted h = tt
ghost_own (answer.Refused why) h = tt
ghost_own _ h = absurd h

undo_own : (said : Answer) → IsOwn (event act.UndoOne said) → IsUndone said
undo_own (answer.Undone left) h = tt
undo_own (answer.Refused why) h = tt
undo_own _ h = absurd h

end_own : (said : Answer) → IsOwn (event act.End said) → IsEnded said
end_own answer.Ended h = tt
end_own (answer.Refused why) h = tt
end_own _ h = absurd h

commit_own : (said : Answer) → IsOwn (event act.Commit said) → IsCommitted said
commit_own (answer.Committed number) h = tt
commit_own (answer.Refused why) h = tt
commit_own _ h = absurd h

schema_own : (s : _) (said : Answer) → IsOwn (event (act.Schema s) said) → IsCreated said
schema_own s (answer.Committed number) h = tt
schema_own s (answer.Denied why) h = tt
schema_own s (answer.Refused why) h = tt
schema_own s _ h = absurd h

-- each stage's step has its own
pub own_of : (m : Option Mode) (st : Standing) (a : Act) (s : Stage) (said : Answer) → fits a s ≡ true → IsAnswered (lines.act_of (asked_as m st a s)) said → IsOf s said
own_of m st (act.Begin mode) (stage.Opening o) said f h = begun_own mode said h
own_of m st act.Defs (stage.Learning o n) said f h = defs_own said h
own_of m st (act.Fetch i r mode) (stage.Fetching task made) said f h = fetch_own i r mode said h
own_of m st (act.Peek i r) (stage.Fetching task made) said f h = peek_own i r said h
own_of m st (act.Put t k n) (stage.Changing task made) said f h = put_own t k n said h
own_of m st act.Pay (stage.Paying o) said f h = pay_own said h
own_of m st act.Ghost (stage.Lacking o) said f h = ghost_own said h
own_of m st act.UndoOne (stage.Undoing n last) said f h = undo_own said h
own_of m st act.End (stage.Ending reply) said f h = end_own said h
own_of m st act.Commit (stage.Committing replies) said f h = commit_own said h
own_of m st (act.Schema s) (stage.Creating replies) said f h = schema_own s said h
own_of m st _ _ said f h = absurd (cc)

-- ---- what follows an answer that asks for no row

begun_plain : (f : Answer → Bool → Todo) (mode : Mode) (said : Answer) (memory : Bool) → IsBegun said → f said memory ≡ lines.next_of (asks (act.Begin mode) f) said memory
begun_plain f mode (answer.Begun number defs) memory h = refl
begun_plain f mode (answer.Refused why) memory h = refl
begun_plain f mode _ memory h = absurd h

defs_plain : (f : Answer → Bool → Todo) (said : Answer) (memory : Bool) → IsDefs said → f said memory ≡ lines.next_of (asks act.Defs f) said memory
defs_plain f (answer.Defs objects) memory h = refl
defs_plain f (answer.Refused why) memory h = refl
defs_plain f _ memory h = absurd h

fetch_plain : (f : Answer → Bool → Todo) (i : _) (r : _) (mode : _) (said : Answer) (memory : Bool) → IsRows said → f said memory ≡ lines.next_of (asks (act.Fetch i r mode) f) said memory
fetch_plain f i r mode (answer.Rows rows) memory h = refl
fetch_plain f i r mode (answer.Refused why) memory h = refl
fetch_plain f i r mode _ memory h = absurd h

peek_plain : (f : Answer → Bool → Todo) (i : _) (r : _) (said : Answer) (memory : Bool) → IsRows said → f said memory ≡ lines.next_of (asks (act.Peek i r) f) said memory
peek_plain f i r (answer.Rows rows) memory h = refl
peek_plain f i r (answer.Refused why) memory h = refl
peek_plain f i r _ memory h = absurd h

put_plain : (f : Answer → Bool → Todo) (t : _) (k : _) (n : _) (said : Answer) (memory : Bool) → IsChanged said → f said memory ≡ lines.next_of (asks (act.Put t k n) f) said memory
put_plain f t k n (answer.Changed before owed) memory h = refl
put_plain f t k n (answer.Refused why) memory h = refl
put_plain f t k n _ memory h = absurd h

undo_plain : (f : Answer → Bool → Todo) (said : Answer) (memory : Bool) → IsUndone said → f said memory ≡ lines.next_of (asks act.UndoOne f) said memory
undo_plain f (answer.Undone left) memory h = refl
undo_plain f (answer.Refused why) memory h = refl
undo_plain f _ memory h = absurd h

end_plain : (f : Answer → Bool → Todo) (said : Answer) (memory : Bool) → IsEnded said → f said memory ≡ lines.next_of (asks act.End f) said memory
end_plain f answer.Ended memory h = refl
end_plain f (answer.Refused why) memory h = refl
end_plain f _ memory h = absurd h

commit_plain : (f : Answer → Bool → Todo) (said : Answer) (memory : Bool) → IsCommitted said → f said memory ≡ lines.next_of (asks act.Commit f) said memory
commit_plain f (answer.Committed number) memory h = refl
commit_plain f (answer.Refused why) memory h = refl
commit_plain f _ memory h = absurd h

schema_plain : (f : Answer → Bool → Todo) (s : _) (said : Answer) (memory : Bool) → IsCreated said → f said memory ≡ lines.next_of (asks (act.Schema s) f) said memory
schema_plain f s (answer.Committed number) memory h = refl
schema_plain f s (answer.Denied why) memory h = refl
schema_plain f s (answer.Refused why) memory h = refl
schema_plain f s _ memory h = absurd h

-- any stage but those of pays
abbrev pub IsPlain : Stage → Type 0
IsPlain (stage.Paying o) = ⊥
IsPlain (stage.Lacking o) = ⊥
IsPlain s = Unit {0}

pub plainly : (m : Option Mode) (st : Standing) (a : Act) (s : Stage) (said : Answer) (memory : Bool) → IsPlain s → fits a s ≡ true → IsOf s said
    → follows m st s said memory ≡ lines.next_of (asked_as m st a s) said memory
plainly m st (act.Begin mode) (stage.Opening o) said memory p f h = begun_plain (follows m st (stage.Opening o)) mode said memory h
plainly m st act.Defs (stage.Learning o n) said memory p f h = defs_plain (follows m st (stage.Learning o n)) said memory h
plainly m st (act.Fetch i r mode) (stage.Fetching task made) said memory p f h = fetch_plain (follows m st (stage.Fetching task made)) i r mode said memory h
plainly m st (act.Peek i r) (stage.Fetching task made) said memory p f h = peek_plain (follows m st (stage.Fetching task made)) i r said memory h
plainly m st (act.Put t k n) (stage.Changing task made) said memory p f h = put_plain (follows m st (stage.Changing task made)) t k n said memory h
plainly m st act.UndoOne (stage.Undoing n last) said memory p f h = undo_plain (follows m st (stage.Undoing n last)) said memory h
plainly m st act.End (stage.Ending reply) said memory p f h = end_plain (follows m st (stage.Ending reply)) said memory h
plainly m st act.Commit (stage.Committing replies) said memory p f h = commit_plain (follows m st (stage.Committing replies)) said memory h
plainly m st (act.Schema s) (stage.Creating replies) said memory p f h = schema_plain (follows m st (stage.Creating replies)) s said memory h
plainly m st a (stage.Paying o) said memory p f h = absurd p
plainly m st a (stage.Lacking o) said memory p f h = absurd p
plainly m st _ _ said memory p f h = absurd (cc)

-- what came of a stage's answer is what its program goes on with
pub answered_as : (m : Option Mode) (st : Standing) (new : Session) (a : Act) (s x : Stage) (said : Answer) → s ≡ x → IsPlain x → fits a s ≡ true → IsOf s said
    → (memory : Bool) × Comes new (follows m st x said memory) → (memory : Bool) × Comes new (lines.next_of (asked_as m st a s) said memory)
answered_as m st new a s x said e p f own came =
    let fit : fits a x ≡ true = subst (λ y. fits a y ≡ true) e f in
    let its : IsOf x said = subst (λ y. IsOf y said) e own in
    (came.0, subst (λ y. Comes new (lines.next_of (asked_as m st a y) said came.0)) (sym e) (subst (λ t. Comes new t) (plainly m st a x said came.0 p fit its) came.1))

-- a change that was refused is no change
pub changed_refused : {P : Type 0} (r : Result (Option Row × List GroupDelta) EngineRefusal) (said : Answer) → WasChanged r said → IsRefused said → IfErr r (λ why. P) → P
changed_refused (Ok x) said is refused h = absurd (subst IsRefused is refused)
changed_refused (Err why) said is refused h = h
