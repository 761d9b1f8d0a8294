-- Sessions that are tried again, one after another, and passes over them.
use Rattle.std.specs.Prelude.{◌≡◌, ◌≢◌, ℕ, suc, ◌+◌, ◌-◌, ◌≤◌, ◌<◌, Bool, true, false, ◌||◌, List, [], ◌∷◌, ◌++◌, length, set, Some, slice_get}
use mathlib.Core.Path.{refl, sym, ap, subst, ◌∙◌}
use Rattle.std.proofs.Common.{arith, append-nil}
use Rattle.std.proofs.lemmas.List.{append_assoc}
use Rattle.txn_machine.specs.State.{most_steps}
use Rattle.txn_machine.specs.Alone.{Story}
use Rattle.script_law.specs.RunLines.{Table, set_seat, seat_run, printed_later, RunsOn, Pass, Passes, Tries}
use Rattle.script_law.specs.Machine.{DoesOf}
use Rattle.txn_sessions.specs.declared.session.Session.{Session}
use Rattle.txn_sessions.specs.Sessions.{todo_of}
use Rattle.session_table.specs.declared.going.Came.{Came}
use Rattle.session_table.specs.declared.going.Came.TheVariants as came
use Rattle.session_table.specs.declared.going.Went.{Went}
use Rattle.session_table.specs.declared.slot.LineKind.{LineKind}
use Rattle.session_table.specs.declared.slot.LineKind.TheVariants.{Idle, Waiting, Stepping, Held}
use Rattle.session_table.specs.declared.slot.Slot.{Slot}
use Rattle.session_asks.specs.Askable.{the_programs}
use Rattle.session_table.specs.Going.{the_tell, Leads, no_step, MayGo, IsMoved, WentOn, outcome_in, ends_in}
use Rattle.session_table.specs.Slots.{seat_in, seat_or_none, table_of, numbers, AreSlots, AllGo, IsSlot, weight, waits_in}
use Rattle.session_table.specs.Requests.{kept_line}
use Rattle.session_table.specs.Trying.{TriedBy, Tried, Passed, Retried}
use Rattle.session_table.proofs.Others.{other_run}
use Rattle.session_table.proofs.Leading.{leads_on, passed_led}
use Rattle.session_table.proofs.Tables.{table_set, waits_set, set_same, length_set, each_after}

abbrev pub Passing : List ℕ → ℕ → Table → Story → List ℕ → Table → Story → Type 0
Passing = Pass DoesOf the_programs the_tell

abbrev pub AllPasses : List ℕ → ℕ → Table → Story → List ℕ → Table → Story → Type 0
AllPasses = Passes DoesOf the_programs the_tell

pub numbers_split : (n len : ℕ) → n < len → numbers (suc n) (len - n) ≡ suc n ∷ numbers (suc (suc n)) (len - suc n)
numbers_split n len h = ap (numbers (suc n)) (let e : len - n ≡ suc (len - suc n) = omega (arith, h) in e)

plus_one : (n : ℕ) → n + 1 ≡ suc n
plus_one n = omega arith

pub minus_none : (n : ℕ) → n - 0 ≡ n
minus_none n = omega arith

moved_or : (a b : Bool) (i j : ℕ) → IsMoved a i → IsMoved b j → IsMoved (a || b) (i + j)
moved_or true b i j x y = (x.0 + j, omega (arith, x.1))
moved_or false true i j x y = (y.0, omega (arith, x, y.1))
moved_or false false i j x y = omega (arith, x, y)

pub passed_all : (place : ℕ) (slots : List Slot) (s : Story) (out : List ℕ) → length slots ≤ place → AllGo slots s → Passed place s slots out false slots out s
passed_all place slots s out h go = record {
  count = 0;
  piece = [];
  moved_is = refl;
  told = sym (append-nil out);
  pass = subst (λ n. Passing (numbers (suc place) n) 0 (table_of slots) s [] (table_of slots) s) (let e : 0 ≡ length slots - place = omega (arith, h) in e) (refl, refl, refl, refl);
  counts = omega arith;
  go = go;
}

-- others go on where one was tried
tried_others : (line : LineKind) (n : ℕ) (s : Story) (slot : Slot) (out : List ℕ) (moved : Bool) (slot' : Slot) (out' : List ℕ) (after : Story) → TriedBy line s slot out moved slot' out' after
    → (x : Session) → slot.session.number ≢ x.number → MayGo x s → MayGo x after
tried_others Waiting n s slot out moved slot' out' after (count, o, is, run, seat, told, counts) x differs go = other_run slot.session.number x differs (todo_of slot.session) s count o after run go
tried_others Idle n s slot out moved slot' out' after (is, same, stays, told) x differs go = subst (MayGo x) (sym stays) go
tried_others Stepping n s slot out moved slot' out' after (is, same, stays, told) x differs go = subst (MayGo x) (sym stays) go
tried_others Held n s slot out moved slot' out' after (is, same, stays, told) x differs go = subst (MayGo x) (sym stays) go

pub numbers_differ : (place m : ℕ) (a b : ℕ) → a ≡ place + 1 → b ≡ m + 1 → m ≢ place → a ≢ b
numbers_differ place m a b e f d same = d (let x : m ≡ place = omega (arith, e, f, same) in x)

pub all_after : (s : Story) (slots : List Slot) (place : ℕ) (slot slot' : Slot) (out : List ℕ) (moved : Bool) (out' : List ℕ) (after : Story) → slice_get slots place ≡ Some slot → AreSlots slots → AllGo slots s
    → Tried s slot out moved slot' out' after → AllGo (set slots place slot') after
all_after s slots place slot slot' out moved out' after at are go t =
    each_after (λ p x. IsSlot (p + 1) x × MayGo x.session s) (λ p x. MayGo x.session after) slots place slot' slot at (λ p x e. (are p x e, go p x e))
    (λ m x other e h. tried_others slot.line (place + 1) s slot out moved slot' out' after t.tried x.session
    (numbers_differ place m slot.session.number x.session.number (are place slot at).number_is h.0.number_is other) h.1)
    t.go

module _ (place : ℕ) (slots : List Slot) (slot slot' : Slot) (slots'' : List Slot) (s mid s'' : Story) (out mid_out out'' : List ℕ) (first more : Bool)
    (below : place < length slots) (at : slice_get slots place ≡ Some slot) (number : slot.session.number ≡ place + 1)
    (p : Passed (suc place) mid (set slots place slot') mid_out more slots'' out'' s'') where
  abbrev rest_of : ℕ → Table → Story → List ℕ → Table → Story → Type 0
  rest_of = Passing (numbers (suc (suc place)) (length slots - suc place))

  line_is : (line : LineKind) → slot.line ≡ line → (table_of slots (suc place)).line ≡ (seat_in line (todo_of slot.session)).line
  line_is line e = ap (λ o. (seat_or_none o).line) at ∙ ap (λ k. (seat_in k (todo_of slot.session)).line) e

  whole : (line : LineKind) → slot.line ≡ line → (total : ℕ) (piece : List ℕ) → Tries DoesOf the_programs the_tell (suc place) (seat_in line (todo_of slot.session)).line total rest_of (table_of slots) s piece (table_of slots'') s''
      → Passing (numbers (suc place) (length slots - place)) total (table_of slots) s piece (table_of slots'') s''
  whole line e total piece h = subst (λ ns. Passing ns total (table_of slots) s piece (table_of slots'') s'') (sym (numbers_split place (length slots) below))
      (subst (λ l. Tries DoesOf the_programs the_tell (suc place) l total rest_of (table_of slots) s piece (table_of slots'') s'') (sym (line_is line e)) h)

  waited : slot.line ≡ Waiting → TriedBy Waiting s slot out first slot' mid_out mid → Passed place s slots out (first || more) slots'' out'' s''
  waited e (count, o, moved, run, seat, told, counts) = record {
    count = count + p.count;
    piece = printed_later (suc place) o ++ p.piece;
    moved_is = moved_or first more count p.count moved p.moved_is;
    told = p.told ∙ ap (λ l. l ++ p.piece) (told ∙ ap (λ n. out ++ printed_later n o) (number ∙ plus_one place)) ∙ append_assoc out (printed_later (suc place) o) p.piece;
    pass = whole Waiting e (count + p.count) (printed_later (suc place) o ++ p.piece) (
      count,
      o,
      mid,
      p.count,
      p.piece,
      subst (λ n. RunsOn DoesOf the_programs the_tell n (todo_of slot.session) s count o mid) (number ∙ plus_one place) run,
      subst (λ x. x) (λ k. Passing (numbers (suc (suc place)) (length_set slots place slot' k - suc place)) p.count ((table_set slots place slot' slot at ∙ ap (set_seat (table_of slots) (suc place)) seat) k) mid p.piece (table_of slots'') s'') p.pass,
      refl,
      refl,
    );
    counts =
        let w = waits_set slots place slot' slot at in
        let one : weight slot.line ≡ 1 = ap weight e in
        omega (arith, p.counts, counts, w, one);
    go = p.go;
  }

  stayed : (line : LineKind) → slot.line ≡ line → (first ≡ false) × (slot' ≡ slot) × (mid ≡ s) × (mid_out ≡ out)
      → (rest_of p.count (table_of slots) s p.piece (table_of slots'') s'' → Tries DoesOf the_programs the_tell (suc place) (seat_in line (todo_of slot.session)).line p.count rest_of (table_of slots) s p.piece (table_of slots'') s'')
      → Passed place s slots out (first || more) slots'' out'' s''
  stayed line e (still, same, same_s, same_out) go = record {
    count = p.count;
    piece = p.piece;
    moved_is = subst (λ b. IsMoved (b || more) p.count) (sym still) p.moved_is;
    told = p.told ∙ ap (λ l. l ++ p.piece) same_out;
    pass = whole line e p.count p.piece (go
        (subst (λ x. x) (λ k. Passing (numbers (suc (suc place)) (length (same_slots k) - suc place)) p.count (table_of (same_slots k)) (same_s k) p.piece (table_of slots'') s'') p.pass));
    counts = subst (λ x. x) (λ k. p.count + waits_in slots'' + (same_s k).state.steps ≤ s''.state.steps + waits_in (same_slots k)) p.counts;
    go = p.go;
  }
    where
      same_slots : set slots place slot' ≡ slots
      same_slots = ap (set slots place) same ∙ set_same slots place slot at

  by_line : (line : LineKind) → slot.line ≡ line → TriedBy line s slot out first slot' mid_out mid → Passed place s slots out (first || more) slots'' out'' s''
  by_line Waiting e h = waited e h
  by_line Idle e h = stayed Idle e h (λ x. x)
  by_line Stepping e h = stayed Stepping e h (λ x. x)
  by_line Held e h = stayed Held e h (λ x. x)

  pass_so : Tried s slot out first slot' mid_out mid → Passed place s slots out (first || more) slots'' out'' s''
  pass_so h = by_line slot.line refl h.tried

pub pass_step : (place : ℕ) (slots : List Slot) (slot slot' : Slot) (slots'' : List Slot) (s mid s'' : Story) (out mid_out out'' : List ℕ) (first more : Bool) → place < length slots → slice_get slots place ≡ Some slot
    → slot.session.number ≡ place + 1 → Passed (place + 1) mid (set slots place slot') mid_out more slots'' out'' s'' → Tried s slot out first slot' mid_out mid → Passed place s slots out (first || more) slots'' out'' s''
pass_step place slots slot slot' slots'' s mid s'' out mid_out out'' first more below at number p t =
    pass_so place slots slot slot' slots'' s mid s'' out mid_out out'' first more below at number (subst (λ k. Passed k mid (set slots place slot') mid_out more slots'' out'' s'') (plus_one place) p) t

-- ---- passes one after another

-- So many passes moved: passes from here on are passes from there.
pub record PassesFrom (s : Story) (slots : List Slot) (out : List ℕ) (many : ℕ) (slots' : List Slot) (out' : List ℕ) (after : Story) : Type 0 where
  pub length_is : length slots' ≡ length slots
  pub piece : List ℕ
  pub told : out' ≡ out ++ piece
  pub joins : (count : ℕ) (more : List ℕ) (end_table : Table) (end : Story) → AllPasses (numbers 1 (length slots)) count (table_of slots') after more end_table end
      → (total : ℕ) × AllPasses (numbers 1 (length slots)) total (table_of slots) s (piece ++ more) end_table end
  pub leads : Leads s after
  pub counts : many + waits_in slots' + s.state.steps ≤ after.state.steps + waits_in slots
  pub go : AllGo slots' after

pub passes_none : (s : Story) (slots : List Slot) (out : List ℕ) → AllGo slots s → PassesFrom s slots out 0 slots out s
passes_none s slots out go = record {
  length_is = refl;
  piece = [];
  told = sym (append-nil out);
  joins = λ count more end_table end r. (count, r);
  leads = no_step s;
  counts = omega arith;
  go = go;
}

module _ (s t u : Story) (first now next : List Slot) (out told told' : List ℕ) (many : ℕ) (moved : Bool)
    (h : PassesFrom s first out many now told t) (p : Passed 0 t now told moved next told' u) where
  the_pass : Passing (numbers 1 (length first)) p.count (table_of now) t p.piece (table_of next) u
  the_pass = subst (λ n. Passing (numbers 1 n) p.count (table_of now) t p.piece (table_of next) u) (minus_none (length now) ∙ h.length_is) p.pass

  told_so : told' ≡ out ++ (h.piece ++ p.piece)
  told_so = p.told ∙ ap (λ l. l ++ p.piece) h.told ∙ append_assoc out h.piece p.piece

  pub passes_more : length next ≡ length now → moved ≡ true → PassesFrom s first out (many + 1) next told' u
  passes_more same e = record {
    length_is = same ∙ h.length_is;
    piece = h.piece ++ p.piece;
    told = told_so;
    joins = λ n more end_table end r.
        let x = h.joins (suc n) (p.piece ++ more) end_table end (m.0, p.piece, table_of next, u, more, subst (λ k. Passing (numbers 1 (length first)) k (table_of now) t p.piece (table_of next) u) m.1 the_pass, r, refl) in
        (x.0, subst (λ l. AllPasses (numbers 1 (length first)) x.0 (table_of first) s l end_table end) (sym (append_assoc h.piece p.piece more)) x.1);
    leads = leads_on s t u h.leads (passed_led 0 t now told moved next told' u p);
    counts = omega (arith, h.counts, p.counts, m.1);
    go = p.go;
  }
    where
      m : (fewer : ℕ) × (p.count ≡ fewer + 1)
      m = subst (λ b. IsMoved b p.count) e p.moved_is

  pub passes_end : moved ≡ false → Retried s first out next told' u
  passes_end e =
      let none : p.count ≡ 0 = subst (λ b. IsMoved b p.count) e p.moved_is in
      let x = h.joins 0 p.piece (table_of next) u (subst (λ k. Passing (numbers 1 (length first)) k (table_of now) t p.piece (table_of next) u) none the_pass) in
      record { count = x.0; piece = h.piece ++ p.piece; told = told_so; passes = x.1; go = p.go }

weight_most : (line : LineKind) → weight line ≤ 1
weight_most Waiting = omega arith
weight_most Idle = omega arith
weight_most Stepping = omega arith
weight_most Held = omega arith

waits_most : (slots : List Slot) → waits_in slots ≤ length slots
waits_most [] = omega arith
waits_most (slot ∷ slots) = omega (arith, weight_most slot.line, waits_most slots)

-- no more of them move than an engine counts steps and there are sessions
pub passes_few : (s : Story) (first : List Slot) (out : List ℕ) (many : ℕ) (now : List Slot) (told : List ℕ) (t : Story) → t.state.steps ≤ most_steps → PassesFrom s first out many now told t
    → many ≤ most_steps + length first
passes_few s first out many now told t most h = omega (arith, h.counts, most, waits_most first)

-- ---- a session that waits

seat_later : (x : Session) (c : Came) → seat_in (kept_line Waiting Waiting c) (todo_of x) ≡ seat_run (outcome_in c (todo_of x))
seat_later x (came.Ended replies) = refl
seat_later x (came.Stuck sessions) = refl
seat_later x came.Stepped = refl

-- it waits on, or has ended
weight_later : (c : Came) → weight (kept_line Waiting Waiting c) + ends_in c ≡ 1
weight_later (came.Ended replies) = omega arith
weight_later (came.Stuck sessions) = omega arith
weight_later came.Stepped = omega arith

pub tried_went : (s : Story) (slot slot' : Slot) (out out' : List ℕ) (went : Went) (x' : Session) (after : Story) → slot.line ≡ Waiting → slot'.session ≡ x' → slot'.line ≡ kept_line Waiting Waiting went.came
    → out' ≡ out ++ printed_later slot.session.number (outcome_in went.came (todo_of x')) → WentOn s slot.session went x' after → Tried s slot out went.moved slot' out' after
tried_went s slot slot' out out' went x' after waits session_is line_is told h = record {
  tried = subst (λ l. TriedBy l s slot out went.moved slot' out' after) (sym waits) (
    h.moved,
    outcome_in went.came (todo_of x'),
    h.moved_is,
    h.run,
    (λ k. seat_in (line_is k) (todo_of (session_is k))) ∙ seat_later x' went.came,
    told,
    (let one = weight_later went.came in let w : weight slot'.line ≡ weight (kept_line Waiting Waiting went.came) = ap weight line_is in omega (arith, h.counts, one, w)),
  );
  go = subst (λ (y : Session). MayGo y after) (sym session_is) h.go;
}

pub tried_not : (s : Story) (slot : Slot) (out : List ℕ) → (slot.line ≡ Waiting → ⊥) → MayGo slot.session s → Tried s slot out false slot out s
tried_not s slot out not go = record { tried = by slot.line refl; go = go }
  where
    by : (l : LineKind) → slot.line ≡ l → TriedBy l s slot out false slot out s
    by Waiting e = absurd (not e)
    by Idle e = (refl, refl, refl, refl)
    by Stepping e = (refl, refl, refl, refl)
    by Held e = (refl, refl, refl, refl)
