-- No clause of `run` rests on this module: it serves contracts between crates.
--
-- What a record of calls shows.
use Rattle.std.specs.Prelude.{◌≡◌, ℕ, ◌-◌, List, length, refl}
use Rattle.std.proofs.Common.{sym, ◌∙◌, ap, subst}
use Rattle.disk_io.specs.declared.record.CallRecord.{CallRecord}
use Rattle.disk_io.specs.Disk.{AreBytes}
use Rattle.disk_io.specs.Events.{Event, after, AllFit, MayLeave, after_size, after_bytes, reads_last}
use Rattle.disk_io.specs.Record.{events, room_taken}

-- its calls
abbrev pub recorded : CallRecord → List Event
recorded r = events r.bytes.items r.calls.items

abbrev pub room_left : CallRecord → ℕ
room_left r = r.room - room_taken r.bytes.items r.calls.items

-- over a disk that held first when it was made, and holds now after these calls
pub size_kept : (r : CallRecord) (first now : List ℕ) → now ≡ after (recorded r) first → AllFit (length first) (recorded r) → length now ≡ length first
size_kept r first now same fits = ap length same ∙ after_size (recorded r) first fits

pub bytes_kept : (r : CallRecord) (first now : List ℕ) → now ≡ after (recorded r) first → AllFit (length first) (recorded r) → AreBytes first → AreBytes now
bytes_kept r first now same fits bytes = subst AreBytes (sym same) (after_bytes (recorded r) first fits bytes)

pub reads_kept : (r : CallRecord) (first now : List ℕ) → now ≡ after (recorded r) first → AllFit (length first) (recorded r) → AreBytes first → MayLeave (recorded r) first (λ b. b ≡ first) now
reads_kept r first now same fits bytes = subst (λ b. MayLeave (recorded r) first (λ d. d ≡ first) b) (sym same) (reads_last (recorded r) first (λ d. d ≡ first) fits bytes refl)
