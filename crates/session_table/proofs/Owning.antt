-- What a line of a session does, wherever its seat stands.
use Rattle.std.specs.Prelude.{◌≡◌, ◌≢◌, ◌⊎◌, ℕ, ◌==◌, List, [], ◌∷◌, ◌++◌, Some, None, Result, Ok, Err, if◌then◌else◌}
use mathlib.Core.Path.{refl, sym, ap, subst, fun_ext, ◌∙◌}
use mathlib.Core.Logic.{inl, inr}
use Rattle.table_laws.proofs.Stored.{by_session}
use Rattle.iv_types.specs.declared.statement.Statement.{Statement}
use Rattle.iv_types.specs.declared.refusal.Refusal.{Refusal}
use Rattle.iv_types.specs.declared.refusal.Refusal.TheVariants as refusal
use Rattle.iv_types.specs.declared.reply.Reply.TheVariants as reply
use Rattle.iv_types.specs.Syntax.{StatementTree}
use Rattle.iv_types.specs.Trees.{statement_tree}
use Rattle.iv_meaning.specs.Reply.{reply_lines}
use Rattle.iv_meaning.specs.Said.{Said, runs, loads, unread, steps}
use Rattle.txn_machine.specs.Alone.{Story}
use Rattle.txn_machine.specs.May.{IsWritten}
use Rattle.script_law.specs.Programs.{Standing}
use Rattle.script_law.specs.RunLines.{Table, AtTable, stepping, under, set_seat, seat_run, seat_stepped, stepped, printed, RunsOn, StepsOnce, Own, Tells, Comes, Given, RefusedOr, RunsIt, LoadsIt, Stepped}
use Rattle.script_law.specs.Machine.{DoesOf}
use Rattle.script_law.proofs.Basics.{if_same, if_other}
use Rattle.session_asks.specs.Askable.{the_programs, IsAskable}
use Rattle.session_asks.proofs.Coming.{askable_start}
use Rattle.txn_sessions.specs.declared.session.Session.{Session}
use Rattle.txn_sessions.specs.Sessions.{todo_of, stands, left_of, IsIdle}
use Rattle.txn_sessions.specs.Within.{IsWithin}
use Rattle.session_table.specs.declared.going.Came.{Came}
use Rattle.session_table.specs.declared.going.Came.TheVariants as came
use Rattle.session_table.specs.declared.going.Went.{Went}
use Rattle.line_requests.specs.declared.asked.Ask.{Ask}
use Rattle.line_requests.specs.declared.asked.Ask.TheVariants as ask
use Rattle.line_requests.specs.Requests.{read_of, WasRead, SaysOf}
use Rattle.session_table.specs.declared.slot.LineKind.{LineKind}
use Rattle.session_table.specs.declared.slot.LineKind.TheVariants.{Idle, Waiting, Stepping, Held}
use Rattle.session_table.specs.declared.slot.Slot.{Slot}
use Rattle.session_table.specs.Going.{the_tell, MayGo, WentOn, outcome_in, standing_in}
use Rattle.session_table.specs.Slots.{FitsLine, seat_in, seat_by}
use Rattle.session_table.specs.Requests.{MayLack, MayBeUnread, LacksOnly, refusal_of, Gave, kept_line, WentOnce, SlotDid}
use Rattle.session_table.proofs.Others.{other_run, other_once}

-- a seat that is set as it is
pub set_self : (table : Table) (n : ℕ) (seat : AtTable) → table n ≡ seat → set_seat table n seat ≡ table
set_self table n seat e = fun_ext (λ m. by_session m n
    (λ same. subst (λ k. (if k == n then seat else table k) ≡ table k) (sym same) (if_same n seat (table n) ∙ sym e))
    (λ other. if_other m n seat (table m) other))

module _ (n : ℕ) where
  abbrev Rel : Type 1
  Rel = Table → Story → List ℕ → Table → Story → Type 0

  idle_stands : (x : Session) → IsIdle x → standing_in (todo_of x) ≡ stands x
  idle_stands x e = ap (λ l. standing_in (left_of (stands x) l)) e

  given_refused : (It : StatementTree → Standing → Rel) (line : LineKind) (x : Session) → FitsLine line x → (read : Result StatementTree Refusal) (why : Refusal) → refusal_of line (stands x) read ≡ Some why
      → (table : Table) (s : Story) (piece : List ℕ) (table' : Table) (s' : Story) → Tells DoesOf the_programs the_tell n (reply.Error why) table s piece table' s'
      → Given DoesOf the_programs the_tell n (seat_in line (todo_of x)).standing (seat_in line (todo_of x)).line read It table s piece table' s'
  given_refused It Idle x fits (Err w) why e table s piece table' s' h = let same : w ≡ why = cc (e) in subst (λ r. Tells DoesOf the_programs the_tell n (reply.Error r) table s piece table' s') (sym same) h
  given_refused It Idle x fits (Ok statement) why e table s piece table' s' h =
      let refused : the_programs.refuses (standing_in (todo_of x)) statement ≡ Some why = ap (λ st. the_programs.refuses st statement) (idle_stands x fits) ∙ e in
      subst (λ r. RefusedOr DoesOf the_programs the_tell n r (It statement (standing_in (todo_of x))) table s piece table' s') (sym refused) h
  given_refused It Waiting x fits read why e table s piece table' s' h = let same : refusal.SessionWaiting ≡ why = cc (e) in subst (λ r. Tells DoesOf the_programs the_tell n (reply.Error r) table s piece table' s') (sym same) h
  given_refused It Stepping x fits read why e table s piece table' s' h = let same : refusal.SessionWaiting ≡ why = cc (e) in subst (λ r. Tells DoesOf the_programs the_tell n (reply.Error r) table s piece table' s') (sym same) h
  given_refused It Held x fits read why e table s piece table' s' h = let same : refusal.SessionWaiting ≡ why = cc (e) in subst (λ r. Tells DoesOf the_programs the_tell n (reply.Error r) table s piece table' s') (sym same) h

  given_goes : (It : StatementTree → Standing → Rel) (x : Session) → IsIdle x → (statement : StatementTree) → the_programs.refuses (stands x) statement ≡ None
      → (table : Table) (s : Story) (piece : List ℕ) (table' : Table) (s' : Story) → It statement (stands x) table s piece table' s'
      → Given DoesOf the_programs the_tell n (seat_in Idle (todo_of x)).standing (seat_in Idle (todo_of x)).line (Ok statement) It table s piece table' s'
  given_goes It x fits statement e table s piece table' s' h =
      let goes : the_programs.refuses (standing_in (todo_of x)) statement ≡ None = ap (λ st. the_programs.refuses st statement) (idle_stands x fits) ∙ e in
      subst (λ r. RefusedOr DoesOf the_programs the_tell n r (It statement (standing_in (todo_of x))) table s piece table' s') (sym goes) (subst (λ st. It statement st table s piece table' s') (sym (idle_stands x fits)) h)

-- a session as it was, but for what does not matter
pub same_goes : (s : Story) (x x' : Session) → x'.number ≡ x.number → todo_of x' ≡ todo_of x → ((k : ℕ) → IsWithin k x → IsWithin k x') → MayGo x s → MayGo x' s
same_goes s x x' n t w go = record {
  reached = go.reached;
  askable = subst (λ i. IsAskable i (todo_of x') s) (sym n) (subst (λ u. IsAskable x.number u s) (sym t) go.askable);
  within = w s.state.steps go.within;
}

-- a statement has begun
pub start_goes : (s : Story) (x x' : Session) (statement : StatementTree) → IsIdle x → x'.number ≡ x.number → todo_of x' ≡ the_programs.start (stands x) statement → IsWritten statement
    → the_programs.refuses (stands x) statement ≡ None → ((k : ℕ) → IsWithin k x → IsWithin k x') → MayGo x s → MayGo x' s
start_goes s x x' statement was_idle n t written goes w go = record {
  reached = go.reached;
  askable = subst (λ i. IsAskable i (todo_of x') s) (sym n) (subst (λ u. IsAskable x.number u s) (sym t)
      (askable_start x.number [] (stands x) statement s (subst (λ u. IsAskable x.number u s) (ap (left_of (stands x)) was_idle) go.askable) written goes));
  within = w s.state.steps go.within;
}

-- where a text is given to a session
pub given_goes_on : (s : Story) (slot given : Slot) (read : Result Statement Refusal) → FitsLine slot.line slot.session → WasRead read → Gave slot (read_of read) None given → given.session.number ≡ slot.session.number
    → ((k : ℕ) → IsWithin k slot.session → IsWithin k given.session) → MayGo slot.session s → MayGo given.session s
given_goes_on s slot given (Ok statement) fits written (none, was_idle, begins, busy) n w go =
    start_goes s slot.session given.session (statement_tree statement) (subst (λ l. FitsLine l slot.session) was_idle fits) n begins written
    (subst (λ l. refusal_of l (stands slot.session) (Ok (statement_tree statement)) ≡ None) was_idle none) w go
given_goes_on s slot given (Err why) fits written (none, was_idle, never, busy) n w go = absurd never

seat_ran : (x : Session) (c : Came) → seat_in (kept_line Waiting Waiting c) (todo_of x) ≡ seat_run (outcome_in c (todo_of x))
seat_ran x (came.Ended replies) = refl
seat_ran x (came.Stuck sessions) = refl
seat_ran x came.Stepped = refl

seat_kept : (x : Session) (c : Came) → seat_in (kept_line Held Stepping c) (todo_of x) ≡ seat_stepped (outcome_in c (todo_of x))
seat_kept x (came.Ended replies) = refl
seat_kept x (came.Stuck sessions) = refl
seat_kept x came.Stepped = refl

module _ (s : Story) (slot : Slot) (out : List ℕ) (n : ℕ) (number : slot.session.number ≡ n) (fits : FitsLine slot.line slot.session) (go : MayGo slot.session s) where
  same_others : (x : Session) → n ≢ x.number → MayGo x s → MayGo x s
  same_others x d h = h

  tells_self : (slot' : Slot) (r : _) (piece : List ℕ) (table : Table) → table n ≡ seat_by slot → seat_by slot' ≡ seat_by slot → piece ≡ reply_lines n (r ∷ [])
      → Tells DoesOf the_programs the_tell n r table s piece (set_seat table n (seat_by slot')) s
  tells_self slot' r piece table at same told = record { told = told; table_left = ap (set_seat table n) same ∙ set_self table n (seat_by slot) at; left = refl }

  -- a text is refused
  refused : (a : Ask) (read : Result Statement Refusal) (loads_or_runs : Result StatementTree Refusal → Said) (It : StatementTree → Standing → Rel n)
      → ((said : Said) → (said ≡ loads_or_runs (read_of read)) ⊎ (said ≡ unread n) → SaysOf n a said)
      → (MayLack (seat_by slot).line (read_of read) → MayBeUnread (seat_by slot).line a) → LacksOnly (seat_by slot).line a (loads_or_runs (read_of read))
      → ((table : Table) (piece : List ℕ) (table' : Table) (s' : Story) → Given DoesOf the_programs the_tell n (table n).standing (table n).line (read_of read) It table s piece table' s' → Own DoesOf the_programs the_tell (loads_or_runs (read_of read)) table s piece table' s')
      → (why : Refusal) (slot' : Slot) (out' : List ℕ) → Gave slot (read_of read) (Some why) slot' → slot'.session.number ≡ slot.session.number → ((k : ℕ) → IsWithin k slot.session → IsWithin k slot'.session)
      → out' ≡ out ++ reply_lines n (reply.Error why ∷ []) → SlotDid n a s slot out slot' out' s
  refused a read said_of It says_it may read_it own why slot' out' (because, line_is, todo_is) n' w told = elim because [
    | inl lacks ↦ record {
      said = unread n;
      says = says_it (unread n) (inr refl);
      lacks = may lacks.1;
      piece = reply_lines n (reply.Error why ∷ []);
      told = told;
      own = λ table at. tells_self slot' (reply.Error refusal.NoMemory) (reply_lines n (reply.Error why ∷ [])) table at seat_same (ap (λ r. reply_lines n (reply.Error r ∷ [])) lacks.0);
      others = same_others;
      go = same_goes s slot.session slot'.session n' todo_is w go;
    }
    | inr e ↦ record {
      said = said_of (read_of read);
      says = says_it (said_of (read_of read)) (inl refl);
      lacks = read_it;
      piece = reply_lines n (reply.Error why ∷ []);
      told = told;
      own = λ table at. own table (reply_lines n (reply.Error why ∷ [])) (set_seat table n (seat_by slot')) s
          (subst (λ (seat : AtTable). Given DoesOf the_programs the_tell n seat.standing seat.line (read_of read) It table s (reply_lines n (reply.Error why ∷ [])) (set_seat table n (seat_by slot')) s) (sym at)
          (given_refused n It slot.line slot.session fits (read_of read) why e table s (reply_lines n (reply.Error why ∷ [])) (set_seat table n (seat_by slot')) s
          (tells_self slot' (reply.Error why) (reply_lines n (reply.Error why ∷ [])) table at seat_same refl)));
      others = same_others;
      go = same_goes s slot.session slot'.session n' todo_is w go;
    }
  ]
    where
      seat_same : seat_by slot' ≡ seat_by slot
      seat_same = λ k. seat_in (line_is k) (todo_is k)

  pub runs_refused : (read : Result Statement Refusal) (why : Refusal) (slot' : Slot) (out' : List ℕ) → Gave slot (read_of read) (Some why) slot' → slot'.session.number ≡ slot.session.number
      → ((k : ℕ) → IsWithin k slot.session → IsWithin k slot'.session) → out' ≡ out ++ reply_lines n (reply.Error why ∷ []) → SlotDid n (ask.Runs read) s slot out slot' out' s
  runs_refused read why slot' out' gave n' w told = refused (ask.Runs read) read (runs n) (RunsIt DoesOf the_programs the_tell n) (λ said h. h) (λ h. h) tt (λ table piece table' s' h. h) why slot' out' gave n' w told

  pub loads_refused : (read : Result Statement Refusal) (why : Refusal) (slot' : Slot) (out' : List ℕ) → Gave slot (read_of read) (Some why) slot' → slot'.session.number ≡ slot.session.number
      → ((k : ℕ) → IsWithin k slot.session → IsWithin k slot'.session) → out' ≡ out ++ reply_lines n (reply.Error why ∷ []) → SlotDid n (ask.Loads read) s slot out slot' out' s
  loads_refused read why slot' out' gave n' w told = refused (ask.Loads read) read (loads n) (LoadsIt DoesOf the_programs the_tell n) (λ said h. h) (λ h. h) tt (λ table piece table' s' h. h) why slot' out' gave n' w told

  -- its statement goes as far as it can
  pub ran : (read : Result Statement Refusal) (given : Slot) (went : Went) (x' : Session) (line' : LineKind) (out' : List ℕ) (after : Story) → Gave slot (read_of read) None given → given.session.number ≡ slot.session.number
      → WentOn s given.session went x' after → line' ≡ kept_line Waiting Waiting went.came → out' ≡ out ++ printed n (outcome_in went.came (todo_of x')) → SlotDid n (ask.Runs read) s slot out (record { session = x'; line = line' }) out' after
  ran (Err why) given went x' line' out' after (none, was_idle, never, busy) n' h line told = absurd never
  ran (Ok statement) given went x' line' out' after (none, was_idle, begins, busy) n' h line told = record {
    said = runs n (Ok (statement_tree statement));
    says = inl refl;
    lacks = tt;
    piece = printed n (outcome_in went.came (todo_of x'));
    told = told;
    own = λ table at.
        let table' : Table = set_seat table n (seat_in line' (todo_of x')) in
        let piece : List ℕ = printed n (outcome_in went.came (todo_of x')) in
        subst (λ (seat : AtTable). Given DoesOf the_programs the_tell n seat.standing seat.line (Ok (statement_tree statement)) (RunsIt DoesOf the_programs the_tell n) table s piece table' after) (sym (at ∙ ap (λ l. seat_in l (todo_of slot.session)) was_idle))
        (given_goes n (RunsIt DoesOf the_programs the_tell n) slot.session (subst (λ l. FitsLine l slot.session) was_idle fits) (statement_tree statement)
        (subst (λ l. refusal_of l (stands slot.session) (Ok (statement_tree statement)) ≡ None) was_idle none) table s piece table' after (
          h.moved,
          outcome_in went.came (todo_of x'),
          subst (λ i. RunsOn DoesOf the_programs the_tell i (the_programs.start (stands slot.session) (statement_tree statement)) s h.moved (outcome_in went.came (todo_of x')) after) (n' ∙ number)
              (subst (λ t. RunsOn DoesOf the_programs the_tell given.session.number t s h.moved (outcome_in went.came (todo_of x')) after) begins h.run),
          record { told = refl; seat = ap (set_seat table n) (ap (λ l. seat_in l (todo_of x')) line ∙ seat_ran x' went.came) },
        ));
    others = λ x d k. other_run given.session.number x (λ e. d (sym number ∙ sym n' ∙ e)) (todo_of given.session) s h.moved (outcome_in went.came (todo_of x')) after h.run k;
    go = h.go;
  }

  -- its statement is loaded
  pub loaded : (read : Result Statement Refusal) (given : Slot) (line' : LineKind) (out' : List ℕ) → Gave slot (read_of read) None given → MayGo given.session s → line' ≡ Stepping
      → out' ≡ out ++ printed n (stepped (todo_of given.session)) → SlotDid n (ask.Loads read) s slot out (record { session = given.session; line = line' }) out' s
  loaded (Err why) given line' out' (none, was_idle, never, busy) go' line told = absurd never
  loaded (Ok statement) given line' out' (none, was_idle, begins, busy) go' line told = record {
    said = loads n (Ok (statement_tree statement));
    says = inl refl;
    lacks = tt;
    piece = printed n (stepped (todo_of given.session));
    told = told;
    own = λ table at.
        let table' : Table = set_seat table n (seat_in line' (todo_of given.session)) in
        let piece : List ℕ = printed n (stepped (todo_of given.session)) in
        subst (λ (seat : AtTable). Given DoesOf the_programs the_tell n seat.standing seat.line (Ok (statement_tree statement)) (LoadsIt DoesOf the_programs the_tell n) table s piece table' s) (sym (at ∙ ap (λ l. seat_in l (todo_of slot.session)) was_idle))
        (given_goes n (LoadsIt DoesOf the_programs the_tell n) slot.session (subst (λ l. FitsLine l slot.session) was_idle fits) (statement_tree statement)
        (subst (λ l. refusal_of l (stands slot.session) (Ok (statement_tree statement)) ≡ None) was_idle none) table s piece table' s (
          refl,
          record {
            told = ap (λ t. printed n (stepped t)) begins;
            seat = ap (set_seat table n) (ap (λ l. seat_in l (todo_of given.session)) line ∙ ap (λ t. under (stepping t)) begins);
          },
        ));
    others = same_others;
    go = go';
  }

  -- it does a step
  pub did_step : (c : Came) (x' : Session) (line' : LineKind) (out' : List ℕ) (after : Story) → (slot.line ≡ Stepping) ⊎ (slot.line ≡ Held) → WentOnce s slot.session c x' after → line' ≡ kept_line Held Stepping c
      → out' ≡ out ++ printed n (outcome_in c (todo_of x')) → SlotDid n ask.Steps s slot out (record { session = x'; line = line' }) out' after
  did_step c x' line' out' after line_was h line told = record {
    said = steps n;
    says = refl;
    lacks = tt;
    piece = printed n (outcome_in c (todo_of x'));
    told = told;
    own = λ table at.
        let table' : Table = set_seat table n (seat_in line' (todo_of x')) in
        let piece : List ℕ = printed n (outcome_in c (todo_of x')) in
        let once : StepsOnce DoesOf the_programs the_tell n (todo_of slot.session) s (outcome_in c (todo_of x')) after = subst (λ i. StepsOnce DoesOf the_programs the_tell i (todo_of slot.session) s (outcome_in c (todo_of x')) after) number h.once in
        let comes : Comes DoesOf the_programs the_tell n seat_stepped (outcome_in c (todo_of x')) table piece table' = record { told = refl; seat = ap (set_seat table n) (ap (λ l. seat_in l (todo_of x')) line ∙ seat_kept x' c) } in
        subst (λ (seat : AtTable). Stepped DoesOf the_programs the_tell n seat.line table s piece table' after) (sym at)
        (elim line_was [
          | inl e ↦ subst (λ l. Stepped DoesOf the_programs the_tell n (seat_in l (todo_of slot.session)).line table s piece table' after) (sym e) (outcome_in c (todo_of x'), once, comes)
          | inr e ↦ subst (λ l. Stepped DoesOf the_programs the_tell n (seat_in l (todo_of slot.session)).line table s piece table' after) (sym e) (outcome_in c (todo_of x'), once, comes)
        ]);
    others = λ x d k. other_once slot.session.number x (λ e. d (sym number ∙ e)) (todo_of slot.session) s (outcome_in c (todo_of x')) after h.once k;
    go = h.go;
  }

  -- there is no statement of which a step could be done
  pub no_step : (out' : List ℕ) → (slot.line ≡ Idle) ⊎ (slot.line ≡ Waiting) → out' ≡ out ++ reply_lines 0 (reply.Error refusal.BadLine ∷ []) → SlotDid n ask.Steps s slot out slot out' s
  no_step out' line_is told = record {
    said = steps n;
    says = refl;
    lacks = tt;
    piece = reply_lines 0 (reply.Error refusal.BadLine ∷ []);
    told = told;
    own = λ table at.
        let piece : List ℕ = reply_lines 0 (reply.Error refusal.BadLine ∷ []) in
        let tells : Tells DoesOf the_programs the_tell 0 (reply.Error refusal.BadLine) table s piece (set_seat table n (seat_by slot)) s = record { told = refl; table_left = set_self table n (seat_by slot) at; left = refl } in
        subst (λ (seat : AtTable). Stepped DoesOf the_programs the_tell n seat.line table s piece (set_seat table n (seat_by slot)) s) (sym at)
        (elim line_is [
          | inl e ↦ subst (λ l. Stepped DoesOf the_programs the_tell n (seat_in l (todo_of slot.session)).line table s piece (set_seat table n (seat_by slot)) s) (sym e) tells
          | inr e ↦ subst (λ l. Stepped DoesOf the_programs the_tell n (seat_in l (todo_of slot.session)).line table s piece (set_seat table n (seat_by slot)) s) (sym e) tells
        ]);
    others = same_others;
    go = go;
  }

  -- there was no memory for its text
  pub not_read : (out' : List ℕ) → out' ≡ out ++ reply_lines n (reply.Error refusal.NoMemory ∷ []) → SlotDid n ask.Unread s slot out slot out' s
  not_read out' told = record {
    said = unread n;
    says = refl;
    lacks = tt;
    piece = reply_lines n (reply.Error refusal.NoMemory ∷ []);
    told = told;
    own = λ table at. tells_self slot (reply.Error refusal.NoMemory) (reply_lines n (reply.Error refusal.NoMemory ∷ [])) table at refl refl;
    others = same_others;
    go = go;
  }
