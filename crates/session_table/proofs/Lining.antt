-- A line's own part, and what follows it.
use Rattle.std.specs.Prelude.{◌≡◌, ℕ, suc, ◌+◌, List, [], ◌∷◌, ◌++◌, length, set, Some, slice_get}
use mathlib.Core.Path.{refl, sym, ap, subst, ◌∙◌}
use Rattle.std.proofs.Common.{arith, append-nil}
use Rattle.std.proofs.lemmas.List.{append_assoc}
use Rattle.iv_types.specs.declared.refusal.Refusal.TheVariants as refusal
use Rattle.iv_types.specs.declared.reply.Reply.TheVariants as reply
use Rattle.iv_meaning.specs.Reply.{reply_lines}
use Rattle.iv_meaning.specs.Said.{Said, nothing, too_long, bad}
use Rattle.txn_machine.specs.Alone.{Story}
use Rattle.script_law.specs.RunLines.{Own, Passes, all_sessions}
use Rattle.script_law.specs.Machine.{DoesOf}
use Rattle.session_asks.specs.Askable.{the_programs}
use Rattle.line_requests.specs.declared.asked.Ask.{Ask}
use Rattle.line_requests.specs.declared.asked.Request.{Request}
use Rattle.line_requests.specs.declared.asked.Request.TheVariants as request
use Rattle.line_requests.specs.Requests.{SaysSo}
use Rattle.session_table.specs.declared.slot.Slot.{Slot}
use Rattle.session_table.specs.Going.{the_tell, MayGo}
use Rattle.session_table.specs.Slots.{seat_or_none, table_of, numbers, IsSlot, AreSlots, AllGo}
use Rattle.session_table.specs.Trying.{Retried}
use Rattle.session_table.specs.Requests.{LacksOnly, LacksAt, SlotDid, EngineDid, DidOwn, RanLine}
use Rattle.session_table.proofs.Passing.{numbers_differ}
use Rattle.session_table.proofs.Tables.{table_set, each_after}

pub nothing_done : (s : Story) (slots : List Slot) (out : List ℕ) → AllGo slots s → DidOwn request.Nothing s slots out slots out s
nothing_done s slots out go = record { said = nothing; says = refl; lacks = tt; piece = []; told = sym (append-nil out); own = record { told = refl; table_left = refl; left = refl }; go = go }

pub too_long_told : (s : Story) (slots : List Slot) (out out' : List ℕ) → AllGo slots s → out' ≡ out ++ reply_lines 0 (reply.Error refusal.LineTooLong ∷ []) → DidOwn request.TooLong s slots out slots out' s
too_long_told s slots out out' go told = record {
  said = too_long;
  says = refl;
  lacks = tt;
  piece = reply_lines 0 (reply.Error refusal.LineTooLong ∷ []);
  told = told;
  own = record { told = refl; table_left = refl; left = refl };
  go = go;
}

pub bad_told : (s : Story) (slots : List Slot) (out out' : List ℕ) → AllGo slots s → out' ≡ out ++ reply_lines 0 (reply.Error refusal.BadLine ∷ []) → DidOwn request.Bad s slots out slots out' s
bad_told s slots out out' go told = record {
  said = bad;
  says = refl;
  lacks = tt;
  piece = reply_lines 0 (reply.Error refusal.BadLine ∷ []);
  told = told;
  own = record { told = refl; table_left = refl; left = refl };
  go = go;
}

-- the line of a session that stands at this place
pub session_did : (place : ℕ) (a : Ask) (s : Story) (slots : List Slot) (slot slot' : Slot) (out out' : List ℕ) (after : Story) → slice_get slots place ≡ Some slot → AreSlots slots → AllGo slots s
    → SlotDid (suc place) a s slot out slot' out' after → DidOwn (request.OfSession (suc place) a) s slots out (set slots place slot') out' after
session_did place a s slots slot slot' out out' after at are go d = record {
  said = d.said;
  says = d.says;
  lacks = subst (λ o. LacksOnly (seat_or_none o).line a d.said) (sym at) d.lacks;
  piece = d.piece;
  told = d.told;
  own = subst (λ table. Own DoesOf the_programs the_tell d.said (table_of slots) s d.piece table after) (sym (table_set slots place slot' slot at)) (d.own (table_of slots) (ap seat_or_none at));
  go = each_after (λ p x. IsSlot (p + 1) x × MayGo x.session s) (λ p x. MayGo x.session after) slots place slot' slot at (λ p x e. (are p x e, go p x e))
      (λ m x other e h. d.others x.session (numbers_differ place m (suc place) x.session.number (omega arith) h.0.number_is other) h.1)
      d.go;
}

-- a line of the engine's own
pub engine_did : (asked : Request) (said : Said) (s after : Story) (slots : List Slot) (out out' : List ℕ) → SaysSo asked said → LacksAt (table_of slots) asked said → AreSlots slots → AllGo slots s → EngineDid said s out out' after
    → DidOwn asked s slots out slots out' after
engine_did asked said s after slots out out' says of_engine are go d = record {
  said = said;
  says = says;
  lacks = of_engine;
  piece = d.piece;
  told = d.told;
  own = d.own (table_of slots);
  go = λ place slot at. d.others slot.session (λ e. let n : slot.session.number ≡ place + 1 = (are place slot at).number_is in omega (arith, e, n)) (go place slot at);
}

-- all of them
pub all_numbers : numbers 1 64 ≡ all_sessions
all_numbers = refl

-- and then those that wait
pub line_ran : (asked : Request) (s mid after : Story) (slots now next : List Slot) (out told told' : List ℕ) → length now ≡ 64 → DidOwn asked s slots out now told mid → Retried mid now told next told' after
    → RanLine asked s slots out next told' after
line_ran asked s mid after slots now next out told told' many d r = record {
  said = d.said;
  says = d.says;
  lacks = d.lacks;
  piece = d.piece ++ r.piece;
  told = r.told ∙ ap (λ l. l ++ r.piece) d.told ∙ append_assoc out d.piece r.piece;
  run = record {
    own = d.piece;
    mid_table = table_of now;
    mid = mid;
    first = d.own;
    passes = r.count;
    more = r.piece;
    later = subst (λ ns. Passes DoesOf the_programs the_tell ns r.count (table_of now) mid r.piece (table_of next) after) (ap (numbers 1) many ∙ all_numbers) r.passes;
    whole = refl;
  };
  go = r.go;
}
