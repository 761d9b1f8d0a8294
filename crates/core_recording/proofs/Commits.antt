-- A commit, of changes and of none.
use Rattle.std.specs.Prelude.{◌≡◌, ◌≢◌, ◌<◌, ◌≤◌, ◌^◌, ℕ, ◌+◌, ◌*◌, Bool, true, false, List, [], ◌∷◌, length, Option, Some, None}
use mathlib.Core.Logic.{inr}
use mathlib.Core.Path.{refl, sym, ap, subst, ◌∙◌}
use Rattle.std.proofs.Common.{arith}
use Rattle.std.proofs.lemmas.Slice.Zip.{AllZip-long}
use Rattle.iv_types.specs.Maps.{Map}
use Rattle.iv_types.specs.declared.refusal.EngineRefusal.TheVariants as refusal
use Rattle.iv_types.specs.declared.statement.Mode.{Mode}
use Rattle.iv_types.specs.declared.statement.Mode.TheVariants.{Serial, Snapshot}
use Rattle.iv_meaning.specs.Escrow.{IsSession}
use Rattle.txn_machine.specs.Acts as act
use Rattle.txn_machine.specs.Answers as answer
use Rattle.txn_machine.specs.Answers.{Answer}
use Rattle.txn_machine.specs.Counts.{sum_over}
use Rattle.txn_machine.specs.Deltas.{RowChange}
use Rattle.txn_machine.specs.Keeping.{Open}
use Rattle.txn_machine.specs.Locks.{with_one as with_at}
use Rattle.txn_machine.specs.Log.{Log, Within, reserved, reserved_by, end_bytes, still_owed, owed_bytes, block_bytes}
use Rattle.txn_machine.specs.May.{MayAct, IsReady}
use Rattle.txn_machine.specs.Records.{Record, Commit, record_bytes, undo_bytes}
use Rattle.txn_machine.specs.State.{State, is_fault, most_steps}
use Rattle.txn_machine.specs.Steps.{Says, CommitsAs}
use Rattle.txn_machine.specs.Store.{Store, Effect, Ends, Commits, committed, schema_of, changes_by}
use Rattle.txn_machine.proofs.Basics.{one_same, one_other}
use Rattle.txn_machine.proofs.Lengths.{length_law}
use Rattle.txn_machine.proofs.LogSums.{sum_one}
use Rattle.txn_book.specs.Books.{IsBook, number_of}
use Rattle.txn_book.specs.Holding.{IsEntry}
use Rattle.log_room.specs.Rooms.{AreCountedIn}
use Rattle.core_journal.specs.Records.{Records, with_one, flushed_all, records_after}
use Rattle.core_journal.specs.Cuts.{Cut, cut_of}
use Rattle.core_state.specs.Stands.{Began, Told}
use Rattle.core_state.specs.declared.state.CoreState.{CoreState}
use Rattle.core_state.proofs.Sessions.{serial_to_commit}
use Rattle.core_recording.specs.Appending.{CanAppend}
use Rattle.core_recording.specs.Giving.{IsBehind, LeavesOne, Gave, GaveUp}
use Rattle.core_recording.proofs.Given.{one, ended, commit_gives, leave_gives}
use Rattle.core_recording.proofs.Used.{small_next}

-- ---- what is given

entered : (s : State) (i : ℕ) (cs : List RowChange) (number : ℕ) (es : List Effect) → cs ≢ [] → CommitsAs s.store i cs number es → es ≡ Commits ∷ []
entered s i [] number es some h = absurd (some refl)
entered s i (c ∷ cs) number es some h = h.1

left : (s : State) (i : ℕ) (cs : List RowChange) (number : ℕ) (es : List Effect) → cs ≡ [] → CommitsAs s.store i cs number es → es ≡ Ends ∷ []
left s i [] number es none h = h.1
left s i (c ∷ cs) number es none h = absurd (cc)

pub commit_told : (s : State) (i : ℕ) (rs : Records) (said : Answer) (es : List Effect) → is_fault said ≡ false → changes_by s.store i ≢ [] → Says s i act.Commit said es
    → records_after s i act.Commit said es rs ≡ flushed_all (one s i rs (Commit (s.log.logged i).transaction ((committed s.store).number + 1) i))
commit_told s i rs (answer.Committed number) es fine some says = commit_gives s i rs number es (entered s i (changes_by s.store i) number es some says)
commit_told s i rs (answer.Refused refusal.DiskFault) es fine some says = absurd (let bad : true ≡ false = fine in cc)
commit_told s i rs (answer.Blocked sessions) es fine some says = absurd says.0
commit_told s i rs (answer.Refused (refusal.Deadlock cycle)) es fine some says = absurd says.0
commit_told s i rs (answer.Refused refusal.NoMemory) es fine some says = absurd says.0
commit_told s i rs said es fine some says = absurd says

pub leave_told : (s : State) (i : ℕ) (rs : Records) (said : Answer) (es : List Effect) → is_fault said ≡ false → changes_by s.store i ≡ [] → Says s i act.Commit said es → records_after s i act.Commit said es rs ≡ ended s i rs (s.log.logged i).wrote
leave_told s i rs (answer.Committed number) es fine none says = leave_gives s i rs number es (left s i (changes_by s.store i) number es none says)
leave_told s i rs (answer.Refused refusal.DiskFault) es fine none says = absurd (let bad : true ≡ false = fine in cc)
leave_told s i rs (answer.Blocked sessions) es fine none says = absurd says.0
leave_told s i rs (answer.Refused (refusal.Deadlock cycle)) es fine none says = absurd says.0
leave_told s i rs (answer.Refused refusal.NoMemory) es fine none says = absurd says.0
leave_told s i rs said es fine none says = absurd says

-- ---- what is reserved for the end of a transaction

part_of : (f : ℕ → ℕ) (i : ℕ) → IsSession i → f i ≤ sum_over 64 f
part_of f i is =
    let g : ℕ → ℕ = with_at f i 0 in
    let whole : sum_over 64 g + f i ≡ sum_over 64 f + g i = sum_one 64 f g i is.0 is.1 (λ j n. one_other f i 0 j n) in
    let none : g i ≡ 0 = one_same f i 0 i refl in
    omega (arith, whole, none)

own_end : (t : Open) (ghosted : Bool) → t.mode ≡ Serial → end_bytes ≤ reserved_by (Some t) ghosted
own_end t ghosted e =
    let all : ℕ = end_bytes + undo_bytes * length t.kept + owed_bytes ghosted (still_owed t) in
    let is : reserved_by (Some t) ghosted ≡ all = ap (λ (m : Mode). elim m [ Serial ↦ all | Snapshot ↦ 0 ]) e in
    omega (arith, is)

end_reserved : (s : Store) (l : Log) (i : ℕ) → IsSession i → (t : Open) → s.open_of i ≡ Some t → t.mode ≡ Serial → end_bytes ≤ reserved s l
end_reserved s l i is t there mode =
    let f : ℕ → ℕ = λ j. reserved_by (s.open_of j) (l.logged j).ghosted in
    let part : f i ≤ reserved s l = part_of f i is in
    let mine : f i ≡ reserved_by (Some t) (l.logged i).ghosted = ap (λ (o : Option Open). reserved_by o (l.logged i).ghosted) there in
    let least : end_bytes ≤ reserved_by (Some t) (l.logged i).ghosted = own_end t (l.logged i).ghosted mode in
    omega (arith, part, mine, least)

within_end : (most : Option ℕ) (used reserved_bytes : ℕ) (s : Store) (l : Log) → AreCountedIn most used reserved_bytes s l → end_bytes ≤ reserved s l → (n : ℕ) → n ≤ end_bytes → Within most (l.used + n)
within_end None used reserved_bytes s l h least n few = tt
within_end (Some most) used reserved_bytes s l h least n few = let used_is = h.used_are in let reserved_is = h.reserved_are in let within = h.within in omega (arith, used_is, reserved_is, within, least, few)

-- ---- a commit of changes

module _ {M : Type 0} (maps : M → ℕ → Map) (spare : M → ℕ → ℕ) (limit : M → Option ℕ) (core : CoreState M) (s : State) (i : ℕ) (began : Began maps spare limit core s i) where
  -- the next number is one of 64 bits
  pub number_few : IsBook core.book → number_of core.book + 1 < 2 ^ 64
  number_few good =
      let same : length s.store.history ≡ length core.book.history = AllZip-long IsEntry core.book.history s.store.history began.holds.book.entries in
      let few = (length_law s began.reached).0 in
      let steps : s.steps < most_steps = began.counts.running began.runs in
      let opened = good.opened in
      omega (arith, same, few, steps, opened)

  pub number_is : number_of core.book ≡ (committed s.store).number
  number_is = began.holds.book.number

module _ {M J : Type 0} (maps : M → ℕ → Map) (spare : M → ℕ → ℕ) (limit : M → Option ℕ) (has : J → Records → Type 0) (area : J → Option ℕ) (core : CoreState M) (journal : J) (s : State) (i : ℕ) (began : Began maps spare limit core s i)
    (may : MayAct s.store i act.Commit) (some : changes_by s.store i ≢ []) where
  abbrev pub its_record : Record
  its_record = Commit (s.log.logged i).transaction ((committed s.store).number + 1) i

  -- its record and the end of its block take no more than was reserved for it
  room_left : (n : ℕ) → n ≤ end_bytes → (rs : Records) → IsBehind maps spare limit has area core journal s.log rs → Within (area journal) (rs.used + n)
  room_left n few rs behind =
      let r : IsReady s.store i Serial = serial_to_commit maps spare limit core s i began may some in
      let least = end_reserved s.store s.log i r.goes_on.of_session r.goes_on.transaction r.goes_on.is_open r.goes_on.mode_is in
      let within = within_end core.log_room.limit core.log_room.used core.log_room.reserved s.store s.log began.reserves.log_room least n few in
      subst (λ m. Within m (rs.used + n)) (sym behind.same_limit) (subst (λ u. Within core.log_room.limit (u + n)) (sym behind.used) within)

  pub can_commit : (rs : Records) → IsBehind maps spare limit has area core journal s.log rs → CanAppend (area journal) (schema_of s.store) core.next its_record rs
  can_commit rs behind = record {
    short = tt;
    numbered = subst (λ n. n ≤ 2 ^ 63) (sym began.holds.next) (small_next maps spare limit core s i began);
    room = room_left (record_bytes (schema_of s.store) its_record) (omega arith) rs behind;
  }

  pub can_flush : (rs : Records) → IsBehind maps spare limit has area core journal s.log rs → Within (area journal) (rs.used + record_bytes (schema_of s.store) its_record + block_bytes)
  can_flush rs behind =
      let one : rs.used + (record_bytes (schema_of s.store) its_record + block_bytes) ≡ rs.used + record_bytes (schema_of s.store) its_record + block_bytes = omega arith in
      subst (Within (area journal)) one (room_left (record_bytes (schema_of s.store) its_record + block_bytes) (omega arith) rs behind)

module _ {M J X : Type 0} (maps : M → ℕ → Map) (spare : M → ℕ → ℕ) (limit : M → Option ℕ) (has : J → Records → Type 0) (area : J → Option ℕ) (medium : J → X) (leaves : X → X → Cut → Cut → Type 0) (core : CoreState M) (journal : J) (s : State) (i : ℕ)
    (began : Began maps spare limit core s i) (may : MayAct s.store i act.Commit) (some : changes_by s.store i ≢ []) where
  -- its record under this number, on the disk with those that wait
  abbrev with_it : ℕ → Records → Records
  with_it number rs = flushed_all (with_one (schema_of s.store) (record { number = number; of = Commit (s.log.logged i).transaction ((committed s.store).number + 1) i }) rs)

  -- a crash leaves what the medium had, or that
  abbrev pub Left : J → Type 0
  Left after = (rs : Records) → has journal rs → leaves (medium journal) (medium after) (cut_of rs) (cut_of (with_it core.next rs))

  -- it is flushed, and then done
  pub gave_commit : (said : Answer) (then : CoreState M) (after : J) → (told : Told maps spare limit s i act.Commit said then) → ((rs : Records) → has journal rs → has after (with_it core.next rs)) → Left after → area after ≡ area journal
      → Gave maps spare limit has area medium leaves s i act.Commit said core journal then after
  gave_commit said then after told given left_one same = record {
    told = told;
    gave = λ rs behind.
        subst (λ xs. has after xs × LeavesOne medium leaves journal after (cut_of rs) (cut_of xs)) ((λ x. with_it (began.holds.next x) rs) ∙ sym (commit_told s i rs said told.effects told.no_fault some told.says))
        (given rs behind.has_them, inr (left_one rs behind.has_them));
    same_limit = same;
  }

  -- or the disk failed, and nothing is done
  pub gave_up : (after : J) → Left after → area after ≡ area journal → GaveUp maps spare limit has area medium leaves s i act.Commit (answer.Refused refusal.DiskFault) core journal core after
  gave_up after left_one same = record {
    said_is = refl;
    failed = record { began = began; says = (refl, some); appends = refl };
    left = λ rs behind. inr (subst (λ n. leaves (medium journal) (medium after) (cut_of rs) (cut_of (with_it n rs))) began.holds.next (left_one rs behind.has_them));
    same_limit = same;
  }
