-- A core after a step.
use Rattle.std.specs.Prelude.{◌≡◌, ◌≢◌, ℕ, zero, suc, ◌+◌, ◌<◌, ◌≤◌, ◌==◌, cond, Bool, true, false, List, [], ◌∷◌, length, Option, None, Some, refl}
use Rattle.std.specs.Option.{option_map}
use Rattle.std.specs.List.{AllZip}
use mathlib.Core.Path.{sym, ap, subst, ◌∙◌}
use mathlib.Core.Logic.{inl, inr}
use Rattle.std.proofs.Common.{arith, eq-eqb}
use Rattle.table_laws.proofs.Stored.{by_session}
use Rattle.table_laws.proofs.Tables.{by_bool}
use Rattle.iv_types.specs.Maps.{Map}
use Rattle.iv_types.specs.declared.session.Sessions.{Sessions}
use Rattle.iv_types.specs.declared.lock.Want.{Want}
use Rattle.iv_types.specs.declared.refusal.EngineRefusal.{EngineRefusal}
use Rattle.iv_types.specs.declared.refusal.EngineRefusal.TheVariants as refused
use Rattle.iv_meaning.specs.Escrow.{IsSession}
use Rattle.lock_manager.specs.Table as table
use Rattle.txn_machine.specs.Acts as act
use Rattle.txn_machine.specs.Acts.{Act}
use Rattle.txn_machine.specs.Answers as answer
use Rattle.txn_machine.specs.Answers.{Answer}
use Rattle.txn_machine.specs.Laws.{IsReached}
use Rattle.txn_machine.specs.Locks.{with_one}
use Rattle.txn_machine.specs.Log.{Log}
use Rattle.txn_machine.specs.Store.{Store, Effect, run}
use Rattle.txn_machine.specs.Ghosts.{the_views}
use Rattle.txn_machine.specs.State as machine
use Rattle.txn_machine.specs.State.{State, Stop, counted, seat_after, cleaner_after, stop_after, is_fault, most_steps}
use Rattle.txn_machine.specs.May.{May}
use Rattle.txn_machine.specs.Steps.{Says, Step, asked, waits_after, definitions_after, log_after}
use Rattle.txn_machine.proofs.Basics.{one_same, one_other}
use Rattle.txn_book.proofs.Leading.{leads_on}
use Rattle.txn_book.specs.Acts.{answer_of}
use Rattle.txn_book.specs.declared.step.Answer.{Answer as Said}
use Rattle.txn_book.specs.declared.step.Answer.TheVariants as said
use Rattle.core_state.specs.Seats.{machine_seat, machine_cleaner, seat_at, refusal_in, tells, told, cleaned}
use Rattle.core_state.specs.Stands.{Stands, Began, Told, Failed, Moved, waiting_after, is_blocked, Holds, Reserves, Counts, IsOpening, its_texts, texts_after}
use Rattle.core_state.proofs.Data.{steps_on}
use Rattle.core_state.specs.declared.seat.Seat.{Seat}
use Rattle.core_state.specs.declared.seat.Cleaner.{Cleaner}
use Rattle.core_state.specs.declared.state.CoreState.{CoreState}

-- ---- what a session waits for

waits_are : (s : Store) (i : ℕ) (a : Act) (m : Answer) (ws : List Want) → ((sessions : Sessions) → m ≡ answer.Blocked sessions → ws ≡ asked s i a) → (is_blocked m ≡ false → ws ≡ []) → ws ≡ waits_after s i a m
waits_are s i a (answer.Blocked sessions) ws own none = own sessions refl
waits_are s i a (answer.Begun n d) ws own none = none refl
waits_are s i a (answer.Defs c) ws own none = none refl
waits_are s i a (answer.Rows r) ws own none = none refl
waits_are s i a (answer.Changed b o) ws own none = none refl
waits_are s i a (answer.Paid l) ws own none = none refl
waits_are s i a answer.NeedsGhost ws own none = none refl
waits_are s i a answer.Ghosted ws own none = none refl
waits_are s i a (answer.Undone l) ws own none = none refl
waits_are s i a answer.Ended ws own none = none refl
waits_are s i a (answer.Committed n) ws own none = none refl
waits_are s i a (answer.Cleaned n) ws own none = none refl
waits_are s i a answer.Pruned ws own none = none refl
waits_are s i a (answer.Saved n) ws own none = none refl
waits_are s i a answer.Cancelled ws own none = none refl
waits_are s i a (answer.Refused why) ws own none = none refl
waits_are s i a (answer.Denied why) ws own none = none refl

-- ---- what a session was told

refused_is : (seat : Seat) (number : ℕ) (why : EngineRefusal) (b : Bool) → tells (Some why) ≡ b → is_fault (answer.Refused why) ≡ b
refused_is seat number refused.DiskFault b e = e
refused_is seat number (refused.Deadlock cycle) b e = e
refused_is seat number (refused.Escrow column low high) b e = e
refused_is seat number (refused.LogFull used reserved need) b e = e
refused_is seat number (refused.DataFull used need) b e = e
refused_is seat number (refused.TxnFull kept need) b e = e
refused_is seat number (refused.HistoryFull kept need) b e = e
refused_is seat number (refused.SchemaBusy busy) b e = e
refused_is seat number (refused.Stopped step) b e = e
refused_is seat number refused.NoMemory b e = e

told_as : (seat : Seat) (number : ℕ) (x : Said) → machine_seat (told seat number (refusal_in x)) ≡ seat_after (machine_seat seat) number (answer_of x)
told_as seat number (said.Begun n d) = refl
told_as seat number (said.Defs c) = refl
told_as seat number (said.Rows r) = refl
told_as seat number (said.Changed b o) = refl
told_as seat number (said.Paid l) = refl
told_as seat number said.NeedsGhost = refl
told_as seat number said.Ghosted = refl
told_as seat number (said.Undone l) = refl
told_as seat number said.Ended = refl
told_as seat number (said.Committed n) = refl
told_as seat number (said.Cleaned n) = refl
told_as seat number said.Pruned = refl
told_as seat number (said.Saved n) = refl
told_as seat number said.Cancelled = refl
told_as seat number (said.Blocked sessions) = refl
told_as seat number (said.Denied why) = refl
told_as seat number (said.Refused why) =
    ap (λ b. record { steps = seat.steps + 1; last = number; refused = Some (record { step = number; refusal = why }); told_of_stop = cond b true seat.told_of_stop }) (sym (refused_is seat number why (tells (Some why)) refl))

-- ---- what the cleaner did

-- a Clean removes one ghost at most
cleaned_few : (s : State) (i : ℕ) (a : Act) (n : ℕ) (es : List Effect) → Says s i a (answer.Cleaned n) es → n ≤ 1
cleaned_few s i act.Clean zero es h = omega arith
cleaned_few s i act.Clean (suc zero) es h = omega arith
cleaned_few s i act.Clean (suc (suc n)) es h = absurd h
cleaned_few s i (act.Begin mode) n es h = absurd h
cleaned_few s i act.Defs n es h = absurd h
cleaned_few s i (act.Fetch number interval mode) n es h = absurd h
cleaned_few s i (act.Peek number interval) n es h = absurd h
cleaned_few s i (act.Put number key new) n es h = absurd h
cleaned_few s i act.Pay n es h = absurd h
cleaned_few s i act.Ghost n es h = absurd h
cleaned_few s i act.UndoOne n es h = absurd h
cleaned_few s i act.End n es h = absurd h
cleaned_few s i act.Commit n es h = absurd h
cleaned_few s i (act.Schema statement) n es h = absurd h
cleaned_few s i act.Prune n es h = absurd h
cleaned_few s i act.Checkpoint n es h = absurd h
cleaned_few s i act.Cancel n es h = absurd h

-- a checkpoint has no effects
saved_none : (s : State) (i : ℕ) (a : Act) (n : ℕ) (es : List Effect) → Says s i a (answer.Saved n) es → es ≡ []
saved_none s i act.Checkpoint n es h = h.0
saved_none s i act.Clean n es h = absurd h
saved_none s i (act.Begin mode) n es h = absurd h
saved_none s i act.Defs n es h = absurd h
saved_none s i (act.Fetch number interval mode) n es h = absurd h
saved_none s i (act.Peek number interval) n es h = absurd h
saved_none s i (act.Put number key new) n es h = absurd h
saved_none s i act.Pay n es h = absurd h
saved_none s i act.Ghost n es h = absurd h
saved_none s i act.UndoOne n es h = absurd h
saved_none s i act.End n es h = absurd h
saved_none s i act.Commit n es h = absurd h
saved_none s i (act.Schema statement) n es h = absurd h
saved_none s i act.Prune n es h = absurd h
saved_none s i act.Cancel n es h = absurd h

cleaned_as : (cleaner : Cleaner) (number entries before : ℕ) (x : Said) → ((n : ℕ) → answer_of x ≡ answer.Saved n → entries ≡ before) → machine_cleaner (cleaned cleaner number entries x) ≡ cleaner_after (machine_cleaner cleaner) number before (answer_of x)
cleaned_as cleaner number entries before (said.Saved n) same = ap (λ e. record { pruned = cleaner.pruned; found_none = cleaner.found_none; removed = cleaner.removed; saved = e }) (same n refl)
cleaned_as cleaner number entries before said.Pruned same = refl
cleaned_as cleaner number entries before (said.Cleaned zero) same = refl
cleaned_as cleaner number entries before (said.Cleaned (suc n)) same = refl
cleaned_as cleaner number entries before (said.Begun n d) same = refl
cleaned_as cleaner number entries before (said.Defs c) same = refl
cleaned_as cleaner number entries before (said.Rows r) same = refl
cleaned_as cleaner number entries before (said.Changed b o) same = refl
cleaned_as cleaner number entries before (said.Paid l) same = refl
cleaned_as cleaner number entries before said.NeedsGhost same = refl
cleaned_as cleaner number entries before said.Ghosted same = refl
cleaned_as cleaner number entries before (said.Undone l) same = refl
cleaned_as cleaner number entries before said.Ended same = refl
cleaned_as cleaner number entries before (said.Committed n) same = refl
cleaned_as cleaner number entries before said.Cancelled same = refl
cleaned_as cleaner number entries before (said.Blocked sessions) same = refl
cleaned_as cleaner number entries before (said.Refused why) same = refl
cleaned_as cleaner number entries before (said.Denied why) same = refl

removed_few : (former : machine.Cleaner) (number entries steps : ℕ) (m : Answer) → ((n : ℕ) → m ≡ answer.Cleaned n → n ≤ 1) → former.removed ≤ steps → (cleaner_after former number entries m).removed ≤ steps + 1
removed_few former number entries steps (answer.Cleaned zero) few le = omega (arith, le)
removed_few former number entries steps (answer.Cleaned (suc n)) few le = omega (arith, le, few (suc n) refl)
removed_few former number entries steps answer.Pruned few le = omega (arith, le)
removed_few former number entries steps (answer.Saved n) few le = omega (arith, le)
removed_few former number entries steps (answer.Begun n d) few le = omega (arith, le)
removed_few former number entries steps (answer.Defs c) few le = omega (arith, le)
removed_few former number entries steps (answer.Rows r) few le = omega (arith, le)
removed_few former number entries steps (answer.Changed b o) few le = omega (arith, le)
removed_few former number entries steps (answer.Paid l) few le = omega (arith, le)
removed_few former number entries steps answer.NeedsGhost few le = omega (arith, le)
removed_few former number entries steps answer.Ghosted few le = omega (arith, le)
removed_few former number entries steps (answer.Undone l) few le = omega (arith, le)
removed_few former number entries steps answer.Ended few le = omega (arith, le)
removed_few former number entries steps (answer.Committed n) few le = omega (arith, le)
removed_few former number entries steps answer.Cancelled few le = omega (arith, le)
removed_few former number entries steps (answer.Blocked sessions) few le = omega (arith, le)
removed_few former number entries steps (answer.Refused why) few le = omega (arith, le)
removed_few former number entries steps (answer.Denied why) few le = omega (arith, le)

-- ---- the stop

abbrev pub stop_if : Bool → Stop → Option Stop
stop_if last stop = cond last (Some stop) None

stop_is : (former : Option Stop) (number : ℕ) (a : Act) (m : Answer) → is_fault m ≡ false → former ≡ None → stop_after former number a m ≡ stop_if (number == most_steps) (record { step = number; act = a })
stop_is former number a m fine none =
    ap (λ b. cond b (Some (record { step = number; act = a })) (cond (number == most_steps) (Some (record { step = number; act = a })) former)) fine
    ∙ ap (λ o. cond (number == most_steps) (Some (record { step = number; act = a })) o) none

-- one that goes on was not the last
goes_on : (former : Option Stop) (number : ℕ) (a : Act) (m : Answer) → stop_after former number a m ≡ None → (number == most_steps) ≡ false
goes_on former number a m none =
    by_bool (is_fault m)
    (λ e. absurd (let bad : Some (record { step = number; act = a }) ≡ None = sym (ap (λ b. cond b (Some (record { step = number; act = a })) (cond (number == most_steps) (Some (record { step = number; act = a })) former)) e) ∙ none in cc))
    (λ e. by_bool (number == most_steps)
    (λ last. absurd (let bad : Some (record { step = number; act = a }) ≡ None = sym (ap (λ b. cond b (Some (record { step = number; act = a })) (cond (number == most_steps) (Some (record { step = number; act = a })) former)) e
    ∙ ap (λ b. cond b (Some (record { step = number; act = a })) former) last) ∙ none in cc))
    (λ differs. differs))

zip_length : {A B : Type 0} (R : A → B → Type 0) (xs : List A) (ys : List B) → AllZip R xs ys → length xs ≡ length ys
zip_length R [] [] h = refl
zip_length R [] (y ∷ ys) h = absurd h
zip_length R (x ∷ xs) [] h = absurd h
zip_length R (x ∷ xs) (y ∷ ys) h = ap suc (zip_length R xs ys h.1)

-- ---- the step

-- an act was answered so, whatever the answer is, and the core holds what its effects leave
record Acted {M : Type 0} (maps : M → ℕ → Map) (spare : M → ℕ → ℕ) (limit : M → Option ℕ) (s : State) (i : ℕ) (a : Act) (m : Answer) (core : CoreState M) : Type 0 where
  pub reached : IsReached s
  pub opening : IsOpening core.log_room.limit core.data_room.limit s
  pub runs : s.stop ≡ None
  pub effects : List Effect
  pub says : Says s i a m effects
  pub holds : Holds maps spare limit core (run the_views s.store i effects) (log_after s i a m effects) (texts_after s a m)
  pub own : (sessions : Sessions) → m ≡ answer.Blocked sessions → table.waiting_of core.locks i ≡ asked s.store i a
  pub none : is_blocked m ≡ false → IsSession i → table.waiting_of core.locks i ≡ []
  pub waiting : (other : ℕ) → IsSession other → other ≢ i → table.waiting_of core.locks other ≡ s.waiting other
  pub counts : Counts maps spare limit core s
  pub begins_one : (log_after s i a m effects).begun ≤ s.log.begun + 1
  pub appends_one : (log_after s i a m effects).next ≤ s.log.next + 1

module _ {M : Type 0} (maps : M → ℕ → Map) (spare : M → ℕ → ℕ) (limit : M → Option ℕ) (core : CoreState M) (s : State) (i : ℕ) (a : Act) (x : Said) (may : May s i a) (within : i ≤ 64) (t : Acted maps spare limit s i a (answer_of x) core) where
  abbrev after_store : Store
  after_store = run the_views s.store i t.effects

  abbrev the_waits : List Want
  the_waits = waits_after s.store i a (answer_of x)

  abbrev the_after : State
  the_after = counted s i a (answer_of x) after_store the_waits (definitions_after s.definitions a (answer_of x)) (log_after s i a (answer_of x) t.effects)

  closed : (the_after.stop ≡ None → Reserves maps spare limit core after_store (log_after s i a (answer_of x) t.effects))
      → (steps : ℕ) (seats : List Seat) (cleaner : Cleaner) (stop : Option ℕ) → steps ≡ core.steps + 1 → seat_at seats i ≡ told (seat_at core.seats i) steps (refusal_in x) → ((j : ℕ) → j ≢ i → seat_at seats j ≡ seat_at core.seats j)
      → cleaner ≡ cleaned core.cleaner steps (length core.book.history) x → stop ≡ option_map (λ (y : Stop). y.step) (stop_after s.stop steps a (answer_of x)) → s.steps < most_steps
      → Moved maps spare limit s i a (answer_of x) t.effects (record core { steps = steps; seats = seats; cleaner = cleaner; stop = stop })
  closed reserves steps seats cleaner stop more own others clean stops lt =
      let number : steps ≡ s.steps + 1 = more ∙ ap (λ n. n + 1) t.counts.steps in
      let does : Step s i a (answer_of x) the_after = record { may = may; does = inl (record { runs = t.runs; effects = t.effects; says = t.says; left = refl }) } in
      let h : Holds maps spare limit core after_store (log_after s i a (answer_of x) t.effects) (texts_after s a (answer_of x)) = t.holds in
      record {
        after = the_after;
        does = does;
        logged = refl;
        stands = record {
          reached = leads_on s i a (answer_of x) the_after t.reached does;
          opening = steps_on core.log_room.limit core.data_room.limit s i a (answer_of x) the_after t.opening does refl;
          reserves = reserves;
          holds = record { stored = h.stored; texts = h.texts; book = h.book; locks = h.locks; begun = h.begun; next = h.next; row_mark = h.row_mark; delta_mark = h.delta_mark; past = h.past; ahead = h.ahead; rooms = h.rooms; most = h.most };
          waiting = λ j js. by_session j i
              (λ e. subst (λ k. table.waiting_of core.locks k ≡ with_one s.waiting i the_waits k) (sym e)
              (waits_are s.store i a (answer_of x) (table.waiting_of core.locks i) t.own (λ not. t.none not (subst IsSession e js)) ∙ sym (one_same s.waiting i the_waits i refl)))
              (λ n. t.waiting j js n ∙ sym (one_other s.waiting i the_waits j n));
          counts = record {
            steps = number;
            seats = λ j le. by_session j i
                (λ e. subst (λ k. machine_seat (seat_at seats k) ≡ with_one s.seat_of i (seat_after (s.seat_of i) (s.steps + 1) (answer_of x)) k) (sym e)
                (ap machine_seat own ∙ (told_as (seat_at core.seats i) steps x ∙ (ap (λ n. seat_after (machine_seat (seat_at core.seats i)) n (answer_of x)) number
                ∙ (ap (λ p. seat_after p (s.steps + 1) (answer_of x)) (t.counts.seats i within) ∙ sym (one_same s.seat_of i (seat_after (s.seat_of i) (s.steps + 1) (answer_of x)) i refl))))))
                (λ n. ap machine_seat (others j n) ∙ (t.counts.seats j le ∙ sym (one_other s.seat_of i (seat_after (s.seat_of i) (s.steps + 1) (answer_of x)) j n)));
            few = λ j. by_session j i
                (λ e. let same = one_same s.seat_of i (seat_after (s.seat_of i) (s.steps + 1) (answer_of x)) j e in
                let le : (s.seat_of i).steps ≤ s.steps = t.counts.few i in
                subst (λ (p : machine.Seat). p.steps ≤ s.steps + 1) (sym same) (omega (arith, le)))
                (λ n. let same = one_other s.seat_of i (seat_after (s.seat_of i) (s.steps + 1) (answer_of x)) j n in
                let le : (s.seat_of j).steps ≤ s.steps = t.counts.few j in
                subst (λ (p : machine.Seat). p.steps ≤ s.steps + 1) (sym same) (omega (arith, le)));
            cleaner = ap machine_cleaner clean ∙ (cleaned_as core.cleaner steps (length core.book.history) (length s.store.history) x (λ n e. entries n e)
                ∙ (ap (λ k. cleaner_after (machine_cleaner core.cleaner) k (length s.store.history) (answer_of x)) number ∙ ap (λ p. cleaner_after p (s.steps + 1) (length s.store.history) (answer_of x)) t.counts.cleaner));
            removed = removed_few s.cleaner (s.steps + 1) (length s.store.history) s.steps (answer_of x) (λ n e. cleaned_few s i a n t.effects (subst (λ m. Says s i a m t.effects) e t.says)) t.counts.removed;
            running = λ none. not_last (goes_on s.stop (s.steps + 1) a (answer_of x) none);
            begun = let one = t.begins_one in let few = t.counts.begun in omega (arith, one, few);
            next = let one = t.appends_one in let few = t.counts.next in omega (arith, one, few);
            stop = stops ∙ ap (λ n. option_map (λ (y : Stop). y.step) (stop_after s.stop n a (answer_of x))) number;
          };
        };
      }
    where
      entries : (n : ℕ) → answer_of x ≡ answer.Saved n → length core.book.history ≡ length s.store.history
      entries n e =
          let none : t.effects ≡ [] = saved_none s i a n t.effects (subst (λ m. Says s i a m t.effects) e t.says) in
          zip_length _ core.book.history after_store.history t.holds.book.entries ∙ ap (λ es. length (run the_views s.store i es).history) none

      not_last : (s.steps + 1 == most_steps) ≡ false → s.steps + 1 < most_steps
      not_last e = let differ : s.steps + 1 ≢ most_steps = λ same. absurd (let bad : true ≡ false = sym (eq-eqb (s.steps + 1) most_steps same) ∙ e in cc) in omega (arith, lt, differ)

-- one that the disk did not fail
module _ {M : Type 0} (maps : M → ℕ → Map) (spare : M → ℕ → ℕ) (limit : M → Option ℕ) (core : CoreState M) (s : State) (i : ℕ) (a : Act) (x : Said) (may : May s i a) (within : i ≤ 64) (t : Told maps spare limit s i a (answer_of x) core) where
  pub told_closed : (steps : ℕ) (seats : List Seat) (cleaner : Cleaner) (stop : Option ℕ) → steps ≡ core.steps + 1 → seat_at seats i ≡ told (seat_at core.seats i) steps (refusal_in x) → ((j : ℕ) → j ≢ i → seat_at seats j ≡ seat_at core.seats j)
      → cleaner ≡ cleaned core.cleaner steps (length core.book.history) x → stop ≡ option_map (λ (y : Stop). y.step) (stop_if (steps == most_steps) (record { step = steps; act = a })) → s.steps < most_steps
      → Moved maps spare limit s i a (answer_of x) t.effects (record core { steps = steps; seats = seats; cleaner = cleaner; stop = stop })
  told_closed steps seats cleaner stop more own others clean stops lt =
      closed maps spare limit core s i a x may within
      (record {
        reached = t.reached;
        opening = t.opening;
        runs = t.runs;
        effects = t.effects;
        says = t.says;
        holds = t.holds;
        own = t.own;
        none = t.none;
        waiting = t.waiting;
        counts = t.counts;
        begins_one = t.begins_one;
        appends_one = t.appends_one;
      })
      (λ _. t.reserves) steps seats cleaner stop more own others clean
      (stops ∙ ap (option_map (λ (y : Stop). y.step)) (sym (stop_is s.stop steps a (answer_of x) t.no_fault t.runs))) lt

-- ---- a step that the disk failed

-- its record waits, if it has one
failed_log : (s : State) (i : ℕ) (a : Act) → Says s i a (answer.Refused refused.DiskFault) [] → (log_after s i a (answer.Refused refused.DiskFault) []).next ≡ s.log.next + waiting_after a
    → (used : ℕ) × (log_after s i a (answer.Refused refused.DiskFault) [] ≡ record s.log { next = s.log.next + waiting_after a; used = used }) × (definitions_after s.definitions a (answer.Refused refused.DiskFault) ≡ s.definitions)
failed_log s i act.Commit h n = (_, refl, refl)
failed_log s i (act.Schema statement) h n = (_, refl, refl)
failed_log s i act.Checkpoint h n = (s.log.used, ap (λ k. record s.log { next = k; used = s.log.used }) n, refl)
failed_log s i (act.Begin mode) h n = absurd h
failed_log s i act.Defs h n = absurd h
failed_log s i (act.Fetch number interval mode) h n = absurd h
failed_log s i (act.Peek number interval) h n = absurd h
failed_log s i (act.Put number key new) h n = absurd h
failed_log s i act.Pay h n = absurd h
failed_log s i act.Ghost h n = absurd h
failed_log s i act.UndoOne h n = absurd h
failed_log s i act.End h n = absurd h
failed_log s i act.Clean h n = absurd h
failed_log s i act.Prune h n = absurd h
failed_log s i act.Cancel h n = absurd h

-- one record at most waits
one_waits : (a : Act) → waiting_after a ≤ 1
one_waits act.Checkpoint = omega arith
one_waits act.Commit = omega arith
one_waits (act.Schema statement) = omega arith
one_waits (act.Begin mode) = omega arith
one_waits act.Defs = omega arith
one_waits (act.Fetch number interval mode) = omega arith
one_waits (act.Peek number interval) = omega arith
one_waits (act.Put number key new) = omega arith
one_waits act.Pay = omega arith
one_waits act.Ghost = omega arith
one_waits act.UndoOne = omega arith
one_waits act.End = omega arith
one_waits act.Clean = omega arith
one_waits act.Prune = omega arith
one_waits act.Cancel = omega arith

pub fault_closed : {M : Type 0} (maps : M → ℕ → Map) (spare : M → ℕ → ℕ) (limit : M → Option ℕ) (core : CoreState M) (s : State) (i : ℕ) (a : Act) → May s i a → i ≤ 64 → Failed maps spare limit s i a core
    → (steps next : ℕ) (seats : List Seat) (stop : Option ℕ) → steps ≡ core.steps + 1 → next ≡ core.next + waiting_after a → seat_at seats i ≡ told (seat_at core.seats i) steps (Some refused.DiskFault) → ((j : ℕ) → j ≢ i → seat_at seats j ≡ seat_at core.seats j)
    → stop ≡ Some steps → Moved maps spare limit s i a (answer.Refused refused.DiskFault) [] (record core { steps = steps; next = next; seats = seats; stop = stop })
fault_closed maps spare limit core s i a may within f steps next seats stop more appends own others stops =
    let h : Began maps spare limit core s i = f.began in
    let log = failed_log s i a f.says f.appends in
    closed maps spare limit (record core { next = next }) s i a (said.Refused refused.DiskFault) may within
    (record {
      reached = h.reached;
      opening = h.opening;
      runs = h.runs;
      effects = [];
      says = f.says;
      holds = subst (λ ds. Holds maps spare limit (record core { next = next }) s.store (log_after s i a (answer.Refused refused.DiskFault) []) (record { before = s.opening.definitions; since = ds })) (sym log.2)
          (subst (λ l. Holds maps spare limit (record core { next = next }) s.store l (its_texts s)) (sym log.1) (record {
            stored = h.holds.stored;
            book = h.holds.book;
            locks = h.holds.locks;
            begun = h.holds.begun;
            next = appends ∙ ap (λ n. n + waiting_after a) h.holds.next;
            texts = h.holds.texts;
            row_mark = h.holds.row_mark;
            delta_mark = h.holds.delta_mark;
            past = h.holds.past;
            ahead = h.holds.ahead;
            rooms = h.holds.rooms;
            most = h.holds.most;
          }));
      own = λ sessions b. absurd (cc);
      none = λ _ is. h.own is;
      waiting = h.waiting;
      counts = record { steps = h.counts.steps; seats = h.counts.seats; few = h.counts.few; cleaner = h.counts.cleaner; removed = h.counts.removed; running = h.counts.running; begun = h.counts.begun; next = h.counts.next; stop = h.counts.stop };
      begins_one = subst (λ (l : Log). l.begun ≤ s.log.begun + 1) (sym log.1) (omega arith);
      appends_one = subst (λ (l : Log). l.next ≤ s.log.next + 1) (sym log.1) (let few = one_waits a in omega (arith, few));
    })
    (λ none. absurd (let bad : Some (record { step = s.steps + 1; act = a }) ≡ None = none in cc)) steps seats core.cleaner stop more own others refl stops (h.counts.running h.runs)

-- ---- a stopped core

-- the log is what it was where a session is told of a stop
stopped_log : (s : State) (i : ℕ) (a : Act) (number : ℕ) → log_after s i a (answer.Refused (refused.Stopped number)) [] ≡ s.log
stopped_log s i (act.Begin mode) number = refl
stopped_log s i act.Defs number = refl
stopped_log s i (act.Fetch index interval mode) number = refl
stopped_log s i (act.Peek index interval) number = refl
stopped_log s i (act.Put index key new) number = refl
stopped_log s i act.Pay number = refl
stopped_log s i act.Ghost number = refl
stopped_log s i act.UndoOne number = refl
stopped_log s i act.End number = refl
stopped_log s i act.Commit number = refl
stopped_log s i (act.Schema statement) number = refl
stopped_log s i act.Clean number = refl
stopped_log s i act.Prune number = refl
stopped_log s i act.Checkpoint number = refl
stopped_log s i act.Cancel number = refl

-- what it stores and waits for is as before, and so are its counts
pub stop_told : {M : Type 0} (maps : M → ℕ → Map) (spare : M → ℕ → ℕ) (limit : M → Option ℕ) (core : CoreState M) (s : State) (i : ℕ) (a : Act) (stop : Stop) (seats : List Seat) → May s i a → i ≤ 64 → Stands maps spare limit core s → s.stop ≡ Some stop
    → seat_at seats i ≡ record (seat_at core.seats i) { told_of_stop = true } → ((j : ℕ) → j ≢ i → seat_at seats j ≡ seat_at core.seats j)
    → Moved maps spare limit s i a (answer.Refused (refused.Stopped stop.step)) [] (record core { seats = seats })
stop_told maps spare limit core s i a stop seats may within h stopped own others =
    let does : Step s i a (answer.Refused (refused.Stopped stop.step)) (machine.told_of_stop s i) = record { may = may; does = inr (record { stop = stop; stopped = stopped; says = refl; left = refl }) } in
    record {
      after = machine.told_of_stop s i;
      does = does;
      logged = sym (stopped_log s i a stop.step);
      stands = record {
        reached = leads_on s i a (answer.Refused (refused.Stopped stop.step)) (machine.told_of_stop s i) h.reached does;
        opening = steps_on core.log_room.limit core.data_room.limit s i a (answer.Refused (refused.Stopped stop.step)) (machine.told_of_stop s i) h.opening does refl;
        reserves = λ none. absurd (let bad : Some stop ≡ None = sym stopped ∙ none in cc);
        holds = record { stored = h.holds.stored; texts = h.holds.texts; book = h.holds.book; locks = h.holds.locks; begun = h.holds.begun; next = h.holds.next; row_mark = h.holds.row_mark; delta_mark = h.holds.delta_mark; past = h.holds.past; ahead = h.holds.ahead; rooms = h.holds.rooms; most = h.holds.most };
        waiting = h.waiting;
        counts = record {
          steps = h.counts.steps;
          seats = λ j le. by_session j i
              (λ e. subst (λ k. machine_seat (seat_at seats k) ≡ with_one s.seat_of i (record (s.seat_of i) { told_of_stop = true }) k) (sym e)
              (ap machine_seat own ∙ (ap (λ (p : machine.Seat). record p { told_of_stop = true }) (h.counts.seats i within) ∙ sym (one_same s.seat_of i (record (s.seat_of i) { told_of_stop = true }) i refl))))
              (λ n. ap machine_seat (others j n) ∙ (h.counts.seats j le ∙ sym (one_other s.seat_of i (record (s.seat_of i) { told_of_stop = true }) j n)));
          few = λ j. by_session j i
              (λ e. subst (λ (p : machine.Seat). p.steps ≤ s.steps) (sym (one_same s.seat_of i (record (s.seat_of i) { told_of_stop = true }) j e)) (h.counts.few i))
              (λ n. subst (λ (p : machine.Seat). p.steps ≤ s.steps) (sym (one_other s.seat_of i (record (s.seat_of i) { told_of_stop = true }) j n)) (h.counts.few j));
          cleaner = h.counts.cleaner;
          removed = h.counts.removed;
          running = λ none. absurd (let bad : Some stop ≡ None = sym stopped ∙ none in cc);
          begun = h.counts.begun;
          next = h.counts.next;
          stop = h.counts.stop;
        };
      };
    }
