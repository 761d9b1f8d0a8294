-- The table of sessions before the first line.
use Rattle.std.specs.Prelude.{◌≡◌, ◌<◌, ◌+◌, ℕ, zero, suc, List, [], ◌∷◌, ◌++◌, length, Option, Some, None, slice_get}
use mathlib.Core.Path.{refl, sym, ap, subst, fun_ext, ◌∙◌}
use Rattle.std.proofs.Common.{arith, length-append}
use Rattle.std.proofs.lemmas.Option.{slice_get_within}
use Rattle.iv_meaning.specs.Escrow.{IsSession}
use Rattle.txn_machine.specs.Alone.{Story, begun_story}
use Rattle.txn_machine.specs.State.{opened_state}
use Rattle.txn_machine.specs.Store.{opened}
use Rattle.script_law.specs.Programs.{outside_with, says}
use Rattle.script_law.specs.RunLines.{idle, new_table}
use Rattle.txn_sessions.specs.Sessions.{todo_of, stands, left_of}
use Rattle.session_asks.specs.Askable.{IsAskable}
use Rattle.session_asks.proofs.Law.{askable_law}
use Rattle.session_table.specs.declared.slot.LineKind.TheVariants.{Idle}
use Rattle.session_table.specs.declared.slot.Slot.{Slot}
use Rattle.session_table.specs.Slots.{seat_in, seat_by, seat_or_none, seat_at, table_of, FitsLine, AreSlots, IsTable, IsNew, AreNew, GoFirst}
use Rattle.session_table.proofs.Tables.{some_is}

-- one more at the end
more_new : (slots : List Slot) (slot : Slot) (first : ℕ) → ((place : ℕ) (x : Slot) → slice_get slots place ≡ Some x → IsNew (place + first) x) → IsNew (length slots + first) slot
    → (place : ℕ) (x : Slot) → slice_get (slots ++ slot ∷ []) place ≡ Some x → IsNew (place + first) x
more_new [] slot first are new zero x e = subst (IsNew (0 + first)) (some_is slot x e) new
more_new [] slot first are new (suc place) x e = absurd (cc)
more_new (y ∷ slots) slot first are new zero x e = are zero x e
more_new (y ∷ slots) slot first are new (suc place) x e = subst (λ n. IsNew n x) (let m : place + suc first ≡ suc place + first = omega arith in m)
    (more_new slots slot (suc first) (λ p z at. subst (λ n. IsNew n z) (let m : suc p + first ≡ p + suc first = omega arith in m) (are (suc p) z at))
    (subst (λ n. IsNew n slot) (let m : suc (length slots) + first ≡ length slots + suc first = omega arith in m) new) place x e)

pub new_more : (slots : List Slot) (slot : Slot) → AreNew slots → IsNew (length slots + 1) slot → AreNew (slots ++ slot ∷ [])
new_more slots slot are new = more_new slots slot 1 are new

pub new_pushed : (slots slots' : List Slot) (place : ℕ) (slot : Slot) → slots' ≡ slots ++ slot ∷ [] → length slots ≡ place → AreNew slots → IsNew (place + 1) slot → (length slots' ≡ place + 1) × AreNew slots'
new_pushed slots slots' place slot is count are new = (
  ap length is ∙ length-append slots (slot ∷ []) ∙ ap (λ n. n + 1) count,
  subst AreNew (sym is) (new_more slots slot are (subst (λ n. IsNew (n + 1) slot) (sym count) new)),
)

pub none_new : AreNew []
none_new place x e = absurd (cc)

pub are_slots : (slots : List Slot) → AreNew slots → AreSlots slots
are_slots slots are place slot e =
    let new = are place slot e in
    record { number_is = new.number_is; fits = new_fits slot (place + 1) new }
  where
    new_fits : (x : Slot) (n : ℕ) → IsNew n x → FitsLine x.line x.session
    new_fits x n new = subst (λ l. FitsLine l x.session) (sym new.line_is) new.is_idle

pub is_table : (slots : List Slot) → length slots ≡ 64 → AreNew slots → IsTable slots
is_table slots count are = record { count = count; are = are_slots slots are }

new_todo : (slot : Slot) (n : ℕ) → IsNew n slot → todo_of slot.session ≡ says [] (outside_with [])
new_todo slot n new = ap (left_of (stands slot.session)) new.is_idle ∙ ap (says []) new.stands_is

new_seat : (slot : Slot) (n : ℕ) → IsNew n slot → seat_by slot ≡ record { standing = outside_with []; line = idle }
new_seat slot n new = ap (λ l. seat_in l (todo_of slot.session)) new.line_is ∙ ap (seat_in Idle) (new_todo slot n new)

pub table_new : (slots : List Slot) → AreNew slots → table_of slots ≡ new_table
table_new slots are = fun_ext at_each
  where
    by : (place : ℕ) (o : Option Slot) → slice_get slots place ≡ o → seat_or_none o ≡ record { standing = outside_with []; line = idle }
    by place None e = refl
    by place (Some slot) e = new_seat slot (place + 1) (are place slot e)

    at_each : (n : ℕ) → seat_at slots n ≡ record { standing = outside_with []; line = idle }
    at_each zero = refl
    at_each (suc place) = by place (slice_get slots place) refl

pub go_first : (slots : List Slot) → length slots ≡ 64 → AreNew slots → GoFirst slots
go_first slots count are db stored opening was_opened place slot e =
    let new = are place slot e in
    record {
      reached = record { db = db; view = stored; opening = opening; was_opened = was_opened; steps = []; tells = refl };
      askable = subst (λ n. IsAskable n (todo_of slot.session) first) (sym new.number_is) (subst (λ t. IsAskable (place + 1) t first) (sym (new_todo slot (place + 1) new))
          (askable_law db stored opening was_opened (place + 1) (is_session (slice_get_within slots place slot e))));
      within = new.within;
    }
  where
    first : Story
    first = begun_story (opened_state opening (opened db stored))

    is_session : place < length slots → IsSession (place + 1)
    is_session h = (omega arith, omega (arith, count, h))
