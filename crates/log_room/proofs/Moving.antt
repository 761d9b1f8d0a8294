-- What is used and reserved of the log, through each effect.
use Rattle.std.specs.Prelude.{◌≡◌, ℕ, zero, suc, ◌+◌, ◌*◌, ◌-◌, ◌^◌, ◌<◌, ◌≤◌, min, Bool, true, false, not, cond, List, [], ◌∷◌, map, length, drop, Option, Some, None}
use Rattle.std.specs.List.{sum}
use mathlib.Core.Path.{refl, sym, ap, subst, ◌∙◌}
use Rattle.std.proofs.Common.{arith}
use Rattle.iv_types.specs.declared.lock.GroupDelta.{GroupDelta}
use Rattle.iv_types.specs.declared.statement.Mode.{Mode}
use Rattle.iv_types.specs.declared.statement.Mode.TheVariants.{Serial, Snapshot}
use Rattle.iv_types.specs.Syntax.{StatementTree}
use Rattle.table_laws.specs.Place.{Place}
use Rattle.table_laws.proofs.Stored.{by_session}
use Rattle.iv_meaning.specs.Database.{Database, Row}
use Rattle.iv_meaning.specs.Escrow.{IsSession}
use Rattle.iv_meaning.specs.Schema.{Object}
use Rattle.txn_machine.specs.Acts as act
use Rattle.txn_machine.specs.Acts.{Act}
use Rattle.txn_machine.specs.Deltas.{RowChange, place_of, columns_of}
use Rattle.txn_machine.specs.Ghosts.{the_views}
use Rattle.txn_machine.specs.Keeping.{KeptStep, Put, Pay, Open, begun}
use Rattle.txn_machine.specs.Log.{Log, Logged, Within, logs, logged_after, opened_log, reserved, reserved_by, still_owed, owed_bytes, pay_bytes, ghost_bytes, end_bytes, block_bytes, definition_need, appended, with_logged, pay_record, undo_record, keeps, undoes, not_logged}
use Rattle.txn_machine.specs.Records.{Abort, write_bytes, delta_bytes, group_bytes, undo_bytes, abort_bytes}
use Rattle.txn_machine.specs.Steps.{put_owed, log_need, with_ghost}
use Rattle.txn_machine.specs.Store.{Store, opened, Effect, Opens, Writes, Pays, Ghosts, Undoes, Ends, Commits, Defines, Cleans, Prunes, does, now, change_at, schema_of, committed, paid_first, undone, notes_before}
use Rattle.txn_machine.specs.Stored.{ViewRows}
use Rattle.txn_machine.proofs.Basics.{one_same, one_other}
use Rattle.txn_machine.proofs.Rings.{other_opens}
use Rattle.txn_machine.proofs.LogRoom.{logs_logged}
use Rattle.txn_machine.proofs.LogSums.{sum_same, sum_none, sum_one, sum_first}
use Rattle.log_room.specs.Rooms.{AreCountedIn, IsRoomOf, IsSerial, OwesFirst, KeepsLatest, OwesNothing, ghost_left}
use Rattle.log_room.specs.declared.room.LogRoom.{LogRoom}

-- ---- numbers

-- so many bytes were appended and so many reserved, and then so many given back
pub record Moves (old new : LogRoom) (a b c : ℕ) : Type 0 where
  pub limit : new.limit ≡ old.limit
  pub used : new.used ≡ min (old.used + a) (2 ^ 64 - 1)
  pub reserved_are : new.reserved ≡ min (old.reserved + b) (2 ^ 64 - 1) - c

moved_in : (limit : Option ℕ) (u r v w : ℕ) (s t : Store) (l m : Log) (a b c appends reserves releases need : ℕ)
    → a ≡ min appends (2 ^ 64 - 1) → b ≡ min reserves (2 ^ 64 - 1) → c ≡ min releases (2 ^ 64 - 1)
    → v ≡ min (u + a) (2 ^ 64 - 1) → w ≡ min (r + b) (2 ^ 64 - 1) - c
    → m.used ≡ l.used + appends → reserved t m + releases ≡ reserved s l + reserves
    → appends + reserves ≤ releases + need → reserves ≤ need → Within limit (l.used + reserved s l + need)
    → AreCountedIn limit u r s l → AreCountedIn limit v w t m
moved_in None u r v w s t l m a b c appends reserves releases need ha hb hc hv hw hu hr le few room k = tt
moved_in (Some most) u r v w s t l m a b c appends reserves releases need ha hb hc hv hw hu hr le few room k =
    let most_few = k.few in
    let was_used = k.used_are in
    let was_reserved = k.reserved_are in
    record {
      few = most_few;
      used_are = omega (arith, ha, hb, hc, hv, hw, hu, hr, le, few, room, most_few, was_used, was_reserved);
      reserved_are = omega (arith, ha, hb, hc, hv, hw, hu, hr, le, few, room, most_few, was_used, was_reserved);
      within = omega (arith, ha, hb, hc, hv, hw, hu, hr, le, few, room, most_few, was_used, was_reserved);
    }

by_moves : (old new : LogRoom) (s t : Store) (l m : Log) (a b c appends reserves releases need : ℕ)
    → Moves old new a b c → a ≡ min appends (2 ^ 64 - 1) → b ≡ min reserves (2 ^ 64 - 1) → c ≡ min releases (2 ^ 64 - 1)
    → m.used ≡ l.used + appends → reserved t m + releases ≡ reserved s l + reserves
    → appends + reserves ≤ releases + need → reserves ≤ need → Within old.limit (l.used + reserved s l + need)
    → IsRoomOf old s l → IsRoomOf new t m
by_moves old new s t l m a b c appends reserves releases need moves ha hb hc hu hr le few room k =
    subst (λ x. AreCountedIn x new.used new.reserved t m) (sym moves.limit)
    (moved_in old.limit old.used old.reserved new.used new.reserved s t l m a b c appends reserves releases need ha hb hc moves.used moves.reserved_are hu hr le few room k)

fits_in : (limit : Option ℕ) (u r : ℕ) (s : Store) (l : Log) → AreCountedIn limit u r s l → Within limit (l.used + reserved s l + 0)
fits_in None u r s l k = tt
fits_in (Some most) u r s l k = let used = k.used_are in let kept = k.reserved_are in let within = k.within in omega (arith, used, kept, within)

-- where nothing more is needed
eased : (old new : LogRoom) (s t : Store) (l m : Log) (a c appends releases : ℕ)
    → Moves old new a 0 c → a ≡ min appends (2 ^ 64 - 1) → c ≡ min releases (2 ^ 64 - 1)
    → m.used ≡ l.used + appends → reserved t m + releases ≡ reserved s l → appends ≤ releases → IsRoomOf old s l → IsRoomOf new t m
eased old new s t l m a c appends releases moves ha hc hu hr le k =
    by_moves old new s t l m a 0 c appends 0 releases 0 moves ha (omega arith) hc hu (omega (arith, hr)) (omega (arith, le)) (omega arith) (fits_in old.limit old.used old.reserved s l k) k

-- ---- what one session's transaction reserves

-- an effect by which a session's transaction becomes this
reserved_moves : (s : Store) (l : Log) (i : ℕ) (a : Act) (e : Effect) (o : Option Open) → IsSession i → (does the_views s i e).open_of i ≡ o
    → reserved (does the_views s i e) (logs s i a e l) + reserved_by (s.open_of i) (l.logged i).ghosted ≡ reserved s l + reserved_by o (logged_after s i l e).ghosted
reserved_moves s l i a e o is open_is =
    let t : Store = does the_views s i e in
    let m : Log = logs s i a e l in
    let one = sum_one 64 (λ j. reserved_by (s.open_of j) (l.logged j).ghosted) (λ j. reserved_by (t.open_of j) (m.logged j).ghosted) i is.0 is.1
    (λ j n. λ x. reserved_by (other_opens s i (e ∷ []) j n x) ((ap (λ (f : ℕ → Logged). f j) (logs_logged s i a e l) ∙ one_other l.logged i (logged_after s i l e) j n) x).ghosted) in
    let own : reserved_by (t.open_of i) (m.logged i).ghosted ≡ reserved_by o (logged_after s i l e).ghosted =
    λ x. reserved_by (open_is x) ((ap (λ (f : ℕ → Logged). f i) (logs_logged s i a e l) ∙ one_same l.logged i (logged_after s i l e) i refl) x).ghosted in
    omega (arith, one, own)

-- where no transaction changes
reserved_stays : (s t : Store) (l m : Log) → ((j : ℕ) → IsSession j → t.open_of j ≡ s.open_of j) → ((j : ℕ) → m.logged j ≡ l.logged j) → reserved t m ≡ reserved s l
reserved_stays s t l m opens logged =
    sum_same 64 (λ j. reserved_by (s.open_of j) (l.logged j).ghosted) (λ j. reserved_by (t.open_of j) (m.logged j).ghosted) (λ j lo hi. λ x. reserved_by (opens j (lo, hi) x) (logged j x).ghosted)

serial_reserved : (u : Open) (ghosted : Bool) → u.mode ≡ Serial → reserved_by (Some u) ghosted ≡ end_bytes + undo_bytes * length u.kept + owed_bytes ghosted (still_owed u)
serial_reserved u ghosted e = ap (λ (m : Mode). elim m [ Serial ↦ end_bytes + undo_bytes * length u.kept + owed_bytes ghosted (still_owed u) | Snapshot ↦ 0 ]) e

pub snapshot_reserved : (u : Open) (ghosted : Bool) → u.mode ≡ Snapshot → reserved_by (Some u) ghosted ≡ 0
snapshot_reserved u ghosted e = ap (λ (m : Mode). elim m [ Serial ↦ end_bytes + undo_bytes * length u.kept + owed_bytes ghosted (still_owed u) | Snapshot ↦ 0 ]) e

was_serial : (s : Store) (l : Log) (i : ℕ) → IsSerial s i → reserved_by (s.open_of i) (l.logged i).ghosted ≡ end_bytes + undo_bytes * length (now s i).kept + owed_bytes (l.logged i).ghosted (still_owed (now s i))
was_serial s l i h = ap (λ (o : Option Open). reserved_by o (l.logged i).ghosted) h.is_open ∙ serial_reserved (now s i) (l.logged i).ghosted h.mode_is

owes_none : (g : Bool) (back : ℕ) → owed_bytes g (drop back []) ≡ 0
owes_none true zero = refl
owes_none true (suc back) = refl
owes_none false zero = refl
owes_none false (suc back) = refl

nothing_owed : (s : Store) (l : Log) (i : ℕ) → (now s i).owed ≡ [] → owed_bytes (l.logged i).ghosted (still_owed (now s i)) ≡ 0
nothing_owed s l i e = ap (λ (ds : List GroupDelta). owed_bytes (l.logged i).ghosted (drop (now s i).back ds)) e ∙ owes_none (l.logged i).ghosted (now s i).back

pub aborts : (wrote : Bool) (n : ℕ) → n ≡ cond (not wrote) 0 17 → n ≡ cond wrote abort_bytes 0
aborts true n h = h
aborts false n h = h

first_owed : (g : Bool) (d : GroupDelta) (ds : List GroupDelta) → owed_bytes g (d ∷ ds) ≡ owed_bytes false ds + pay_bytes d + ghost_left g d
first_owed true d ds = let one : sum (map pay_bytes (d ∷ ds)) ≡ pay_bytes d + sum (map pay_bytes ds) = sum_first (pay_bytes d) (map pay_bytes ds) in omega (arith, one)
first_owed false d ds =
    let one : sum (map pay_bytes (d ∷ ds)) ≡ pay_bytes d + sum (map pay_bytes ds) = sum_first (pay_bytes d) (map pay_bytes ds) in
    let other : sum (map ghost_bytes (d ∷ ds)) ≡ ghost_bytes d + sum (map ghost_bytes ds) = sum_first (ghost_bytes d) (map ghost_bytes ds) in
    omega (arith, one, other)

-- ---- each effect

pub opened_room : (room : LogRoom) (db : Database) (view : ViewRows) (next : ℕ) → Within room.limit (block_bytes + 1) → ((most : ℕ) → room.limit ≡ Some most → most < 2 ^ 32) → room.used ≡ 6 → room.reserved ≡ 0
    → IsRoomOf room (opened db view) (opened_log next)
opened_room room db view next least few used kept = by room.limit refl least
  where
    by : (limit : Option ℕ) → room.limit ≡ limit → Within limit (block_bytes + 1) → AreCountedIn limit room.used room.reserved (opened db view) (opened_log next)
    by None e h = tt
    by (Some most) e h =
        let none : reserved (opened db view) (opened_log next) ≡ 0 = sum_none 64 (λ j. 0) (λ j lo hi. refl) in
        record { few = few most e; used_are = omega (arith, used); reserved_are = omega (arith, kept, none); within = omega (arith, used, kept, h) }

module _ (old new : LogRoom) (s : Store) (l : Log) (i : ℕ) (a : Act) where
  pub begins_room : Moves old new 0 40 0 → IsSession i → s.open_of i ≡ None → IsRoomOf old s l → Within old.limit (l.used + reserved s l + end_bytes)
      → IsRoomOf new (does the_views s i (Opens Serial)) (logs s i a (Opens Serial) l)
  begins_room moves is none k room =
      let u : Open = begun Serial (committed s).number in
      let all = reserved_moves s l i a (Opens Serial) (Some u) is (one_same s.open_of i (Some u) i refl) in
      let before : reserved_by (s.open_of i) (l.logged i).ghosted ≡ 0 = ap (λ (o : Option Open). reserved_by o (l.logged i).ghosted) none in
      let after : reserved_by (Some u) (logged_after s i l (Opens Serial)).ghosted ≡ 40 = refl in
      by_moves old new s (does the_views s i (Opens Serial)) l (logs s i a (Opens Serial) l) 0 40 0 0 40 0 end_bytes moves (omega arith) (omega arith) (omega arith) (omega arith)
      (omega (arith, all, before, after)) (omega arith) (omega arith) room k

  pub puts_room : (place : Place) (row : Option Row) (record_bytes owed : ℕ) → Moves old new record_bytes (min (owed + 25) (2 ^ 64 - 1)) 0 → OwesNothing s i → IsRoomOf old s l
      → record_bytes ≡ min (write_bytes (schema_of s) (change_at s place row)) (2 ^ 64 - 1) → owed ≡ min (owed_bytes false (put_owed s (change_at s place row))) (2 ^ 64 - 1)
      → Within old.limit (l.used + reserved s l + log_need s (change_at s place row)) → IsRoomOf new (does the_views s i (Writes place row)) (logs s i a (Writes place row) l)
  puts_room place row record_bytes owed moves h k record_is owed_is room =
      let c : RowChange = change_at s place row in
      let ds : List GroupDelta = put_owed s c in
      let u : Open = record (now s i) { kept = Put c ds ∷ (now s i).kept; owed = ds; back = 0 } in
      let all = reserved_moves s l i a (Writes place row) (Some u) h.serial.of_session (one_same s.open_of i (Some u) i refl) in
      let before = was_serial s l i h.serial in
      let none = nothing_owed s l i h.owed_is in
      let after : reserved_by (Some u) false ≡ end_bytes + undo_bytes * length u.kept + owed_bytes false (still_owed u) = serial_reserved u false h.serial.mode_is in
      by_moves old new s (does the_views s i (Writes place row)) l (logs s i a (Writes place row) l) record_bytes (min (owed + 25) (2 ^ 64 - 1)) 0
      (write_bytes (schema_of s) c) (owed_bytes false ds + 25) 0 (log_need s c) moves record_is (omega (arith, owed_is)) (omega arith) refl
      (omega (arith, all, before, none, after)) (omega arith) (omega arith) room k

  pub pays_room : (d : GroupDelta) (g : Bool) (record_bytes ghost : ℕ) → Moves old new record_bytes 0 (min (record_bytes + ghost) (2 ^ 64 - 1)) → OwesFirst s l i d g → IsRoomOf old s l
      → record_bytes ≡ min (delta_bytes d) (2 ^ 64 - 1) → ghost ≡ min (ghost_left g d) (2 ^ 64 - 1) → IsRoomOf new (does the_views s i Pays) (logs s i a Pays l)
  pays_room d g record_bytes ghost moves h k record_is ghost_is =
      let ds : List GroupDelta = h.others in
      let u : Open = record (now s i) { kept = Pay d ∷ (now s i).kept; owed = ds } in
      let open_is : (does the_views s i Pays).open_of i ≡ Some u = ap (λ (x : List GroupDelta). (paid_first s i (now s i) x).open_of i) h.owed_is ∙ one_same s.open_of i (Some u) i refl in
      let used : (logs s i a Pays l).used ≡ l.used + delta_bytes d = ap (λ (x : List GroupDelta). (appended (schema_of s) (pay_record (l.logged i) x) (with_logged l i (keeps (l.logged i) l.next))).used) h.owed_is in
      let all = reserved_moves s l i a Pays (Some u) h.serial.of_session open_is in
      let before = was_serial s l i h.serial in
      let owed : owed_bytes (l.logged i).ghosted (still_owed (now s i)) ≡ owed_bytes g (d ∷ ds) = λ x. owed_bytes (h.ghosted_is x) (drop (h.none_back x) (h.owed_is x)) in
      let first = first_owed g d ds in
      let left : owed_bytes false (still_owed u) ≡ owed_bytes false ds = ap (λ n. owed_bytes false (drop n ds)) h.none_back in
      let after : reserved_by (Some u) false ≡ end_bytes + undo_bytes * length u.kept + owed_bytes false (still_owed u) = serial_reserved u false h.serial.mode_is in
      eased old new s (does the_views s i Pays) l (logs s i a Pays l) record_bytes (min (record_bytes + ghost) (2 ^ 64 - 1)) (delta_bytes d) (delta_bytes d + ghost_left g d)
      moves record_is (omega (arith, record_is, ghost_is)) used (omega (arith, all, before, owed, first, left, after)) (omega arith) k

  -- the row is made, or found, so that a Ghost is no more due
  ghosts_as : (d : GroupDelta) (g : Bool) (t : Store) (m : Log) → OwesFirst s l i d g → t.open_of ≡ s.open_of → ((j : ℕ) → m.logged j ≡ l.logged j) → reserved t (with_ghost m i) + ghost_left g d ≡ reserved s l
  ghosts_as d g t m h opens logged =
      let one = sum_one 64 (λ j. reserved_by (s.open_of j) (l.logged j).ghosted) (λ j. reserved_by (t.open_of j) ((with_ghost m i).logged j).ghosted) i h.serial.of_session.0 h.serial.of_session.1
      (λ j n. λ x. reserved_by (opens x j) ((one_other m.logged i (record (m.logged i) { ghosted = true }) j n ∙ logged j) x).ghosted) in
      let own : reserved_by (t.open_of i) ((with_ghost m i).logged i).ghosted ≡ reserved_by (s.open_of i) true =
      λ x. reserved_by (opens x i) (one_same m.logged i (record (m.logged i) { ghosted = true }) i refl x).ghosted in
      let then : reserved_by (s.open_of i) true ≡ end_bytes + undo_bytes * length (now s i).kept + owed_bytes true (still_owed (now s i)) =
      ap (λ (o : Option Open). reserved_by o true) h.serial.is_open ∙ serial_reserved (now s i) true h.serial.mode_is in
      let before = was_serial s l i h.serial in
      let owed : owed_bytes (l.logged i).ghosted (still_owed (now s i)) ≡ owed_bytes g (d ∷ h.others) = λ x. owed_bytes (h.ghosted_is x) (drop (h.none_back x) (h.owed_is x)) in
      let left : owed_bytes true (still_owed (now s i)) ≡ owed_bytes true (d ∷ h.others) = λ x. owed_bytes true (drop (h.none_back x) (h.owed_is x)) in
      let first = first_owed g d h.others in
      let second = first_owed true d h.others in
      omega (arith, one, own, then, before, owed, left, first, second)

  pub makes_room : (d : GroupDelta) (ghost : ℕ) → Moves old new ghost 0 ghost → OwesFirst s l i d false → IsRoomOf old s l → ghost ≡ min (ghost_bytes d) (2 ^ 64 - 1)
      → IsRoomOf new (does the_views s i (Ghosts (place_of d) (length (columns_of d)))) (with_ghost (logs s i a (Ghosts (place_of d) (length (columns_of d))) l) i)
  makes_room d ghost moves h k ghost_is =
      let e : Effect = Ghosts (place_of d) (length (columns_of d)) in
      let kept = ghosts_as d false (does the_views s i e) (logs s i a e l) h refl
      (λ j. ap (λ (f : ℕ → Logged). f j) (logs_logged s i a e l) ∙ by_session j i (λ x. one_same l.logged i (l.logged i) j x ∙ ap l.logged (sym x)) (λ n. one_other l.logged i (l.logged i) j n)) in
      eased old new s (does the_views s i e) l (with_ghost (logs s i a e l) i) ghost ghost (ghost_bytes d) (ghost_bytes d) moves ghost_is ghost_is refl kept (omega arith) k

  pub finds_room : (d : GroupDelta) (g : Bool) (ghost : ℕ) → Moves old new 0 0 ghost → OwesFirst s l i d g → IsRoomOf old s l → ghost ≡ min (ghost_left g d) (2 ^ 64 - 1) → IsRoomOf new s (with_ghost l i)
  finds_room d g ghost moves h k ghost_is =
      let kept = ghosts_as d g s l h refl (λ j. refl) in
      eased old new s s l (with_ghost l i) 0 ghost 0 (ghost_left g d) moves (omega arith) ghost_is (omega arith) kept (omega arith) k

  undo_used : (k : KeptStep) → KeepsLatest s l i k → (logs s i a Undoes l).used ≡ l.used + undo_bytes
  undo_used k h = ap (λ (x : List ℕ). (appended (schema_of s) (undo_record (l.logged i) x) (with_logged l i (logged_after s i l Undoes))).used) h.logged_is

  pub undoes_put_room : (c : RowChange) (deltas : List GroupDelta) (owed : ℕ) → Moves old new 25 0 (min (owed + 25) (2 ^ 64 - 1)) → KeepsLatest s l i (Put c deltas) → IsRoomOf old s l
      → owed ≡ min (owed_bytes (l.logged i).ghosted (still_owed (now s i))) (2 ^ 64 - 1) → IsRoomOf new (does the_views s i Undoes) (logs s i a Undoes l)
  undoes_put_room c deltas owed moves h k owed_is =
      let u : Open = record (now s i) { kept = h.earlier; owed = []; back = 0; notes = notes_before (length h.earlier) (now s i).notes } in
      let open_is : (does the_views s i Undoes).open_of i ≡ Some u = ap (λ (x : List KeptStep). (undone s i (now s i) x).open_of i) h.kept_is ∙ one_same s.open_of i (Some u) i refl in
      let all = reserved_moves s l i a Undoes (Some u) h.serial.of_session open_is in
      let ghosted : (logged_after s i l Undoes).ghosted ≡ false = ap (λ (x : List KeptStep). (undoes (l.logged i) x).ghosted) h.kept_is in
      let flag : reserved_by (Some u) (logged_after s i l Undoes).ghosted ≡ reserved_by (Some u) false = ap (reserved_by (Some u)) ghosted in
      let after : reserved_by (Some u) false ≡ end_bytes + undo_bytes * length u.kept + owed_bytes false (still_owed u) = serial_reserved u false h.serial.mode_is in
      let before = was_serial s l i h.serial in
      let long : length (now s i).kept ≡ length h.earlier + 1 = ap length h.kept_is ∙ omega arith in
      eased old new s (does the_views s i Undoes) l (logs s i a Undoes l) 25 (min (owed + 25) (2 ^ 64 - 1)) undo_bytes (owed_bytes (l.logged i).ghosted (still_owed (now s i)) + 25)
      moves (omega arith) (omega (arith, owed_is)) (undo_used (Put c deltas) h) (omega (arith, all, flag, after, before, long)) (omega arith) k

  pub undoes_pay_room : (d : GroupDelta) → Moves old new 25 0 25 → KeepsLatest s l i (Pay d) → IsRoomOf old s l → IsRoomOf new (does the_views s i Undoes) (logs s i a Undoes l)
  undoes_pay_room d moves h k =
      let u : Open = record (now s i) { kept = h.earlier; owed = d ∷ (now s i).owed; back = (now s i).back + 1 } in
      let open_is : (does the_views s i Undoes).open_of i ≡ Some u = ap (λ (x : List KeptStep). (undone s i (now s i) x).open_of i) h.kept_is ∙ one_same s.open_of i (Some u) i refl in
      let all = reserved_moves s l i a Undoes (Some u) h.serial.of_session open_is in
      let ghosted : (logged_after s i l Undoes).ghosted ≡ (l.logged i).ghosted = ap (λ (x : List KeptStep). (undoes (l.logged i) x).ghosted) h.kept_is in
      let flag : reserved_by (Some u) (logged_after s i l Undoes).ghosted ≡ reserved_by (Some u) (l.logged i).ghosted = ap (reserved_by (Some u)) ghosted in
      let after : reserved_by (Some u) (l.logged i).ghosted ≡ end_bytes + undo_bytes * length u.kept + owed_bytes (l.logged i).ghosted (still_owed u) = serial_reserved u (l.logged i).ghosted h.serial.mode_is in
      let owes : owed_bytes (l.logged i).ghosted (still_owed u) ≡ owed_bytes (l.logged i).ghosted (still_owed (now s i)) = ap (owed_bytes (l.logged i).ghosted) (drop_more (now s i).back d (now s i).owed) in
      let before = was_serial s l i h.serial in
      let long : length (now s i).kept ≡ length h.earlier + 1 = ap length h.kept_is ∙ omega arith in
      eased old new s (does the_views s i Undoes) l (logs s i a Undoes l) 25 25 undo_bytes undo_bytes moves (omega arith) (omega arith) (undo_used (Pay d) h)
      (omega (arith, all, flag, after, owes, before, long)) (omega arith) k
    where
      drop_more : (n : ℕ) (d : GroupDelta) (ds : List GroupDelta) → drop (n + 1) (d ∷ ds) ≡ drop n ds
      drop_more n d ds = ap (λ m. drop m (d ∷ ds)) (plus_one n)
        where
          plus_one : (n : ℕ) → n + 1 ≡ suc n
          plus_one n = omega arith

  pub ends_room : (wrote : Bool) (record_bytes : ℕ) → Moves old new record_bytes 0 40 → OwesNothing s i → (now s i).kept ≡ [] → (l.logged i).wrote ≡ wrote → IsRoomOf old s l → record_bytes ≡ cond wrote abort_bytes 0
      → IsRoomOf new (does the_views s i Ends) (logs s i a Ends l)
  ends_room wrote record_bytes moves h none written k record_is =
      let all = reserved_moves s l i a Ends None h.serial.of_session (one_same s.open_of i None i refl) in
      let before = was_serial s l i h.serial in
      let owed = nothing_owed s l i h.owed_is in
      let long : length (now s i).kept ≡ 0 = ap length none in
      let used : (logs s i a Ends l).used ≡ l.used + cond wrote abort_bytes 0 = ap (λ (b : Bool). (appended (schema_of s) (cond b (Some (Abort (l.logged i).transaction)) None) (with_logged l i not_logged)).used) written ∙ go wrote in
      let few = at_most wrote in
      eased old new s (does the_views s i Ends) l (logs s i a Ends l) record_bytes 40 (cond wrote abort_bytes 0) end_bytes moves (omega (arith, record_is, few)) (omega arith) used
      (omega (arith, all, before, owed, long)) (omega (arith, few)) k
    where
      go : (b : Bool) → (appended (schema_of s) (cond b (Some (Abort (l.logged i).transaction)) None) (with_logged l i not_logged)).used ≡ l.used + cond b abort_bytes 0
      go true = refl
      go false = omega arith

      at_most : (b : Bool) → cond b abort_bytes 0 ≤ 17
      at_most true = omega arith
      at_most false = omega arith

  pub commits_room : (undos : ℕ) → Moves old new 34 0 (min (undos + 40) (2 ^ 64 - 1)) → OwesNothing s i → undos ≡ min (length (now s i).kept * 25) (2 ^ 64 - 1) → IsRoomOf old s l → IsRoomOf new (does the_views s i Commits) (logs s i a Commits l)
  commits_room undos moves h undos_are k =
      let all = reserved_moves s l i a Commits None h.serial.of_session (one_same s.open_of i None i refl) in
      let before = was_serial s l i h.serial in
      let owed = nothing_owed s l i h.owed_is in
      eased old new s (does the_views s i Commits) l (logs s i a Commits l) 34 (min (undos + 40) (2 ^ 64 - 1)) 34 (undo_bytes * length (now s i).kept + end_bytes) moves (omega arith) (omega (arith, undos_are)) (omega arith)
      (omega (arith, all, before, owed)) (omega arith) k

  pub cleans_room : (place : Place) (record_bytes : ℕ) → Moves old new record_bytes 0 0 → record_bytes ≡ min (group_bytes place) (2 ^ 64 - 1) → IsRoomOf old s l → Within old.limit (l.used + reserved s l + group_bytes place)
      → IsRoomOf new (does the_views s i (Cleans place)) (logs s i a (Cleans place) l)
  cleans_room place record_bytes moves record_is k room =
      let same : reserved (does the_views s i (Cleans place)) (logs s i a (Cleans place) l) ≡ reserved s l = reserved_stays s (does the_views s i (Cleans place)) l (logs s i a (Cleans place) l) (λ j js. refl) (same_logged (Cleans place) refl) in
      by_moves old new s (does the_views s i (Cleans place)) l (logs s i a (Cleans place) l) record_bytes 0 0 (group_bytes place) 0 0 (group_bytes place) moves (omega (arith, record_is)) (omega arith) (omega arith) refl
      (omega (arith, same)) (omega arith) (omega arith) room k
    where
      same_logged : (e : Effect) → logged_after s i l e ≡ l.logged i → (j : ℕ) → (logs s i a e l).logged j ≡ l.logged j
      same_logged e own j = ap (λ (f : ℕ → Logged). f j) (logs_logged s i a e l) ∙ by_session j i (λ x. one_same l.logged i (logged_after s i l e) j x ∙ (own ∙ ap l.logged (sym x))) (λ n. one_other l.logged i (logged_after s i l e) j n)

pub defines_room : (old new : LogRoom) (s : Store) (l : Log) (i : ℕ) (statement : StatementTree) (object : Object) (need : ℕ) → Moves old new need 0 0 → need ≡ min (definition_need statement) (2 ^ 64 - 1)
    → IsRoomOf old s l → Within old.limit (l.used + reserved s l + definition_need statement) → IsRoomOf new (does the_views s i (Defines object)) (logs s i (act.Schema statement) (Defines object) l)
defines_room old new s l i statement object need moves need_is k room =
    let t : Store = does the_views s i (Defines object) in
    let m : Log = logs s i (act.Schema statement) (Defines object) l in
    let same : reserved t m ≡ reserved s l = reserved_stays s t l m (λ j js. refl)
    (λ j. ap (λ (f : ℕ → Logged). f j) (logs_logged s i (act.Schema statement) (Defines object) l) ∙ by_session j i (λ x. one_same l.logged i (l.logged i) j x ∙ ap l.logged (sym x)) (λ n. one_other l.logged i (l.logged i) j n)) in
    by_moves old new s t l m need 0 0 (definition_need statement) 0 0 (definition_need statement) moves need_is (omega arith) (omega arith) (omega arith)
    (omega (arith, same)) (omega arith) (omega arith) room k

pub saves_room : (old new : LogRoom) (s : Store) (l : Log) (bytes kept : ℕ) → new.limit ≡ old.limit → new.reserved ≡ old.reserved → new.used ≡ min (bytes + 6) (2 ^ 64 - 1) → bytes ≡ min kept (2 ^ 64 - 1) → block_bytes + 1 + kept ≤ l.used
    → IsRoomOf old s l → IsRoomOf new s (record l { used = block_bytes + 1 + kept })
saves_room old new s l bytes kept limit reserved_same used is least k = subst (λ x. AreCountedIn x new.used new.reserved s (record l { used = block_bytes + 1 + kept })) (sym limit) (by old.limit k)
  where
    by : (limit : Option ℕ) → AreCountedIn limit old.used old.reserved s l → AreCountedIn limit new.used new.reserved s (record l { used = block_bytes + 1 + kept })
    by None h = tt
    by (Some most) h =
        let few = h.few in
        let was = h.used_are in
        let fits = h.within in
        let held = h.reserved_are in
        record { few = few; used_are = omega (arith, used, is, least, few, was, fits); reserved_are = reserved_same ∙ held; within = omega (arith, used, is, least, few, was, fits, reserved_same) }

-- ---- effects that use and reserve nothing

alike : (room : LogRoom) (s t : Store) (l m : Log) → m.used ≡ l.used → reserved t m ≡ reserved s l → IsRoomOf room s l → IsRoomOf room t m
alike room s t l m used kept k = by room.limit k
  where
    by : (limit : Option ℕ) → AreCountedIn limit room.used room.reserved s l → AreCountedIn limit room.used room.reserved t m
    by None h = tt
    by (Some most) h = record { few = h.few; used_are = h.used_are ∙ sym used; reserved_are = h.reserved_are ∙ sym kept; within = h.within }

module _ (room : LogRoom) (s : Store) (l : Log) (i : ℕ) (a : Act) where
  -- the session's transaction reserves what it reserved
  pub stays_room : (e : Effect) (o : Option Open) → IsSession i → (does the_views s i e).open_of i ≡ o → (logs s i a e l).used ≡ l.used → reserved_by o (logged_after s i l e).ghosted ≡ reserved_by (s.open_of i) (l.logged i).ghosted
      → IsRoomOf room s l → IsRoomOf room (does the_views s i e) (logs s i a e l)
  stays_room e o is open_is used same k =
      let all = reserved_moves s l i a e o is open_is in
      alike room s (does the_views s i e) l (logs s i a e l) used (omega (arith, all, same)) k

  pub prunes_room : IsRoomOf room s l → IsRoomOf room (does the_views s i Prunes) (logs s i a Prunes l)
  prunes_room k = alike room s (does the_views s i Prunes) l (logs s i a Prunes l) refl
      (reserved_stays s (does the_views s i Prunes) l (logs s i a Prunes l) (λ j js. refl)
      (λ j. ap (λ (f : ℕ → Logged). f j) (logs_logged s i a Prunes l) ∙ by_session j i (λ x. one_same l.logged i (l.logged i) j x ∙ ap l.logged (sym x)) (λ n. one_other l.logged i (l.logged i) j n))) k
