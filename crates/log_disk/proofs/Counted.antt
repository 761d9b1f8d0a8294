-- The log in memory counts as the machine does, from call to call.
use Rattle.std.proofs.Common.{◌≡◌, ◌≢◌, inl, inr, ◌⊎◌, ℕ, suc, ◌+◌, ◌<◌, ◌≤◌, List, [], ◌∷◌, length, Option, Some, None, false, refl, sym, ap, subst, ◌∙◌, arith, length-append}
use Rattle.std.proofs.lemmas.Bool.{false≢true}
use Rattle.iv_types.specs.declared.refusal.EngineRefusal.TheVariants as refusal
use Rattle.log_records.specs.Spelling.{spelling}
use Rattle.wal_log.specs.Log.{LogState, used_by, after_flush}
use Rattle.txn_machine.specs.Acts as act
use Rattle.txn_machine.specs.Acts.{Act}
use Rattle.txn_machine.specs.Answers as answer
use Rattle.txn_machine.specs.Answers.{Answer}
use Rattle.txn_machine.specs.Ghosts.{the_views}
use Rattle.txn_machine.specs.Log.{Log, Opening, block_bytes, carried, log_all, record_of}
use Rattle.txn_machine.specs.Records.{Record}
use Rattle.txn_machine.specs.State.{State, is_fault}
use Rattle.txn_machine.specs.Store.{Store, committed, schema_of, Effect, does}
use Rattle.txn_machine.specs.Steps.{Says, log_after}
use Rattle.txn_machine.specs.Laws.{IsOpened}
use Rattle.txn_log.specs.Replay.{Pages}
use Rattle.txn_log.specs.Appended.{Numbered}
use Rattle.txn_log.specs.Moments.{Disk, World, At, Amid, Halted, store_of, disk_of, with_disk, with_record, flushed_all, pages_now, published, Happens, begins, acts, ends, flushes, acknowledges, publishes, fails_commit, fails_define, fails_before, fails_after, told, told_halted, Run, here, then_move, opened_world}
use Rattle.txn_log.proofs.Printed.{prints_again}
use Rattle.txn_log.proofs.Happening.{IsFollowed, IsGoodWorld, good_run, good_opened}
use Rattle.txn_log.proofs.Passing.{disk_with}
use Rattle.txn_log.proofs.Running.{grows}
use Rattle.log_disk.specs.Spelled.{in_bytes}
use Rattle.log_disk.specs.Calls.{with_reserved, ends_of, IsCounted, Reserves, SameRecords, Appends, IsQuiet}
use Rattle.log_disk.proofs.Counting.{record_long, count, bytes_in, ends_in, ends_are, logs_next, logs_used, ends_or_commits, ends_more, same_acknowledged}

-- ---- what the log of the machine is after a step

used_after : (s : State) (i : ℕ) (a : Act) (said : Answer) (es : List Effect) → Says s i a said es → is_fault said ≡ false → a ≢ act.Checkpoint
    → (log_after s i a said es).used ≡ (log_all s.store i a es s.log).used
used_after s i act.Ghost answer.Ghosted es h f n = refl
used_after s i act.Checkpoint (answer.Saved m) es h f n = absurd (n refl)
used_after s i act.Commit (answer.Refused refusal.DiskFault) es h f n = absurd (false≢true (sym f))
used_after s i (act.Schema statement) (answer.Refused refusal.DiskFault) es h f n = absurd (false≢true (sym f))
used_after s i a said es h f n = refl

-- a Checkpoint that no fault answers is saved
pub saves : (s : State) (i : ℕ) (said : Answer) (es : List Effect) → Says s i act.Checkpoint said es → is_fault said ≡ false → (n : ℕ) × (said ≡ answer.Saved n) × (es ≡ [])
saves s i (answer.Saved n) es h f = (n, refl, h.0)
saves s i (answer.Blocked sessions) es h f = absurd h.0
saves s i (answer.Refused refusal.DiskFault) es h f = absurd (false≢true (sym f))
saves s i (answer.Refused (refusal.Deadlock cycle)) es h f = absurd h.0
saves s i (answer.Refused refusal.NoMemory) es h f = absurd h.0
saves s i said es h f = absurd h

saved_after : (s : State) (i : ℕ) (a : Act) (said : Answer) (es : List Effect) → Says s i a said es → is_fault said ≡ false → a ≡ act.Checkpoint
    → (es ≡ []) × ((log_after s i a said es).used ≡ block_bytes + 1 + carried s.store)
saved_after s i a said es h f same =
    let is = saves s i said es (subst (λ (x : Act). Says s i x said es) same h) f in
    (is.2, λ t. (log_after s i (same t) (is.1 t) es).used)

-- ---- worlds

-- A block that is not ended is of a commit that is not acknowledged. What is still to come leads to the used bytes that the step leaves,
-- and a Checkpoint has no effects.
abbrev pub Ends : World → Type 0
Ends (At s d) = ends_of d.waiting ≡ 0
Ends (Amid after i a s l es d) =
    ((ends_of d.waiting ≡ 0) ⊎ (d.acknowledged < (committed s).number)) × (a ≢ act.Checkpoint → after.log.used ≡ (log_all s i a es l).used)
    × (a ≡ act.Checkpoint → (es ≡ []) × (after.log.used ≡ block_bytes + 1 + carried s))
Ends (Halted s next d) = Unit {0}

ended_disk : (w : World) (d : Disk) → ends_of d.waiting ≡ 0 → Ends w → Ends (with_disk w d)
ended_disk (At s e) d none is = none
ended_disk (Amid after i a s l es e) d none is = (inl none, is.1, is.2)
ended_disk (Halted s next e) d none is = tt

-- what is acknowledged is committed
at_most : (s : Store) (l : Log) (d : Disk) → IsFollowed s l d → d.acknowledged ≤ (committed s).number
at_most s l d is = let had = is.sound.has_all in let same = is.follows.acknowledged in omega (arith, had, same)

ended_effect : (s : Store) (i : ℕ) (a : Act) (l : Log) (e : Effect) (d : Disk) → IsFollowed s l d → (ends_of d.waiting ≡ 0) ⊎ (d.acknowledged < (committed s).number)
    → (ends_of (with_record (record_of s i a l e) l.next d).waiting ≡ 0)
    ⊎ ((with_record (record_of s i a l e) l.next d).acknowledged < (committed (does the_views s i e)).number)
ended_effect s i a l e d is had =
    let low = at_most s l d is in
    let same = same_acknowledged (record_of s i a l e) l.next d in
    let more = (grows s i e).more in
    let ends = ends_more (record_of s i a l e) l.next d in
    let by = ends_are s i a l e in
    elim (ends_or_commits s i a l e) [
      | inr commits ↦ inr (omega (arith, low, same, commits))
      | inl none ↦ elim had [
        | inl nothing ↦ inl (omega (arith, ends, by, none, nothing))
        | inr less ↦ inr (omega (arith, less, same, more))
      ]
    ]

none_left : (e : Effect) (es : List Effect) → e ∷ es ≡ [] → ⊥
none_left e es h = let n : suc (length es) ≡ 0 = ap length h in omega (arith, n)

ends_move : (v w : World) → Happens v w → IsGoodWorld v → Ends v → Ends w
ends_move v w (begins s disk i a said after may d f) good is = (
  inl is,
  λ n. ap (λ (x : State). x.log.used) d.left ∙ used_after s i a said d.effects d.says f n,
  λ same. let saved = saved_after s i a said d.effects d.says f same in (saved.0, ap (λ (x : State). x.log.used) d.left ∙ saved.1),
)
ends_move v w (acts after i a s l e es disk) good is = (ended_effect s i a l e disk good.0 is.0, is.1, λ same. absurd (none_left e es (is.2 same).0))
ends_move v w (ends after i a s l disk done) good is = elim is.0 [
  | inl none ↦ none
  | inr less ↦ absurd (let all = done.acknowledged in omega (arith, less, all))
]
ends_move v w (flushes u writes) good is = ended_disk u (flushed_all (disk_of u)) refl is
ends_move v w (acknowledges u none writes) good is = ended_disk u _ (ap ends_of none) is
ends_move v w (publishes u xs keeps fall) good is = ended_disk u _ refl is
ends_move v w (fails_commit s disk i stopped may d) good is = tt
ends_move v w (fails_define s disk i statement stopped may d e same) good is = tt
ends_move v w (fails_before s disk i stopped may d) good is = tt
ends_move v w (fails_after s disk i stopped may d xs are fall) good is = tt
ends_move v w (told s disk i said after t) good is = is
ends_move v w (told_halted s next disk i said after t) good is = tt

pub good_world : (p : Pages) → IsOpened p.db p.view → (opening : Opening) (w : World) → Run (opened_world opening p) w → IsGoodWorld w
good_world p was opening w r = good_run prints_again (opened_world opening p) w r (good_opened prints_again opening p was)

ends_from : (u w : World) → Run u w → IsGoodWorld u → Ends u → Ends w
ends_from u w (here x) good is = is
ends_from u w (then_move a v b r move) good is = ends_move v w move (good_run prints_again u v r good) (ends_from u v r good is)

pub ends_run : (p : Pages) → IsOpened p.db p.view → (opening : Opening) (w : World) → Run (opened_world opening p) w → Ends w
ends_run p was opening w r = ends_from (opened_world opening p) w r (good_opened prints_again opening p was) refl

-- ---- calls

longer : (r : Numbered) (rs : List Numbered) → rs ≡ r ∷ rs → ⊥
longer r rs h = let n : length rs ≡ suc (length rs) = ap length h in omega (arith, n)

none_appended : (o : Option Record) (n : ℕ) (d : Disk) → (with_record o n d).waiting ≡ d.waiting → o ≡ None
none_appended None n d h = refl
none_appended (Some r) n d h = absurd (longer (record { number = n; of = r }) d.waiting (sym h))

abbrev first_of : (x : Numbered) (rs : List Numbered) → Numbered
first_of x [] = x
first_of x (r ∷ rs) = r

appended_is : (o : Option Record) (m n : ℕ) (r : Record) (d : Disk) → with_record o m d ≡ with_record (Some r) n d → o ≡ Some r
appended_is None m n r d h = absurd (longer (record { number = n; of = r }) d.waiting (ap (λ (x : Disk). x.waiting) h))
appended_is (Some q) m n r d h = ap (λ (x : Disk). Some (first_of (record { number = n; of = r }) x.waiting).of) h

counted_disk : (w : World) (d : Disk) (log : LogState) → d.waiting ≡ (disk_of w).waiting → IsCounted w log → IsCounted (with_disk w d) log
counted_disk (At s e) d log same is = is
counted_disk (Amid after i a s l es e) d log same is = (is.0, (let same_ends = ap ends_of same in let used = is.1 in omega (arith, same_ends, used)))
counted_disk (Halted s next e) d log same is = tt

same_counted : (w : World) (log : LogState) (bytes : ℕ) → IsCounted w log → IsCounted w (with_reserved log bytes)
same_counted (At s d) log bytes is = is
same_counted (Amid after i a s l es d) log bytes is = is
same_counted (Halted s next d) log bytes is = tt

with_counted : (w : World) (d : Disk) (log : LogState) (bytes : ℕ) → SameRecords (disk_of w) (disk_of (with_disk w d)) → IsCounted w log → IsCounted (with_disk w d) (with_reserved log bytes)
with_counted w d log bytes same is = same_counted (with_disk w d) log bytes (counted_disk w d log (ap (λ (x : Disk). x.waiting) (sym (disk_with w d)) ∙ same.waiting) is)

-- where nothing is appended
pub counted_on : (v w : World) (log : LogState) (bytes : ℕ) → Happens v w → SameRecords (disk_of v) (disk_of w) → IsQuiet v w → IsGoodWorld v → Ends v → IsCounted v log → IsCounted w (with_reserved log bytes)
counted_on v w log bytes (begins s disk i a said after may d f) same quiet good is counts = (counts.0, (let used = counts.1 in omega (arith, used, is)))
counted_on v w log bytes (acts after i a s l e es disk) same quiet good is counts =
    let none : record_of s i a l e ≡ None = none_appended (record_of s i a l e) l.next disk same.waiting in
    let next = logs_next s i a l e in
    let used = logs_used s i a l e in
    let no_count = ap count none in
    let no_bytes = ap (bytes_in (schema_of s)) none in
    let no_ends = ap ends_in none in
    let ends = ap ends_of same.waiting in
    let had = counts.0 in
    let took = counts.1 in
    (omega (arith, had, next, no_count), omega (arith, took, used, no_bytes, no_ends, ends))
counted_on v w log bytes (ends after i a s l disk done) same quiet good is counts =
    let none = ends_move v w (ends after i a s l disk done) good is in
    let used = is.1 quiet in
    let took = counts.1 in
    (counts.0 ∙ sym good.4.next, omega (arith, took, used, none))
counted_on v w log bytes (flushes u writes) same quiet good is counts = with_counted u _ log bytes same counts
counted_on v w log bytes (acknowledges u none writes) same quiet good is counts = with_counted u _ log bytes same counts
counted_on v w log bytes (publishes u xs keeps fall) same quiet good is counts = with_counted u _ log bytes same counts
counted_on v w log bytes (fails_commit s disk i stopped may d) same quiet good is counts = tt
counted_on v w log bytes (fails_define s disk i statement stopped may d e named) same quiet good is counts = tt
counted_on v w log bytes (fails_before s disk i stopped may d) same quiet good is counts = tt
counted_on v w log bytes (fails_after s disk i stopped may d xs are fall) same quiet good is counts = tt
counted_on v w log bytes (told s disk i said after t) same quiet good is counts =
    (counts.0 ∙ sym (ap (λ (x : State). x.log.next) t.left), counts.1 ∙ sym (ap (λ (x : State). x.log.used) t.left))
counted_on v w log bytes (told_halted s next disk i said after t) same quiet good is counts = tt

no_more : (r : Record) (n : ℕ) (d e : Disk) → e ≡ with_record (Some r) n d → e.waiting ≡ d.waiting → ⊥
no_more r n d e is same = longer (record { number = n; of = r }) d.waiting (sym same ∙ ap (λ (x : Disk). x.waiting) is)

not_empty : (r : Record) (n : ℕ) (d e : Disk) → e ≡ with_record (Some r) n d → e.waiting ≡ [] → ⊥
not_empty r n d e is none = let long : length e.waiting ≡ suc (length d.waiting) = ap (λ (x : Disk). length x.waiting) is in let short = ap length none in omega (arith, long, short)

-- where a record is
pub counted_more : (v w : World) (log after : LogState) → Happens v w → Appends v w log after → IsCounted v log → IsCounted w after
counted_more v w log after (acts end i a s l e es disk) app counts =
    let o : Option Record = record_of s i a l e in
    let one : o ≡ Some app.of = appended_is o l.next app.number app.of disk app.disk in
    let next = logs_next s i a l e in
    let used = logs_used s i a l e in
    let counted = ap count one in
    let bytes = ap (bytes_in (schema_of s)) one in
    let ends = ends_more o l.next disk in
    let long = record_long (schema_of s) app.number app.of in
    let new_next = ap (λ (x : LogState). x.next) app.log_is in
    let new_used = ap used_by app.log_is in
    let both = length-append log.waiting (spelling app.number (in_bytes (schema_of s) app.of)) in
    let had = counts.0 in
    let took = counts.1 in
    (omega (arith, new_next, had, next, counted), omega (arith, new_used, both, took, used, bytes, ends, long))
counted_more v w log after (begins s disk i a said end may d f) app counts = absurd (no_more app.of app.number disk disk app.disk refl)
counted_more v w log after (ends end i a s l disk done) app counts = absurd (no_more app.of app.number disk disk app.disk refl)
counted_more v w log after (flushes u writes) app counts =
    absurd (not_empty app.of app.number (disk_of u) (flushed_all (disk_of u)) (sym (disk_with u (flushed_all (disk_of u))) ∙ app.disk) refl)
counted_more v w log after (acknowledges u none writes) app counts =
    let d : Disk = record (disk_of u) { acknowledged = (committed (store_of u)).number } in
    absurd (no_more app.of app.number (disk_of u) d (sym (disk_with u d) ∙ app.disk) refl)
counted_more v w log after (publishes u xs keeps fall) app counts =
    let d : Disk = published (pages_now (store_of u)) xs (disk_of u) in
    absurd (not_empty app.of app.number (disk_of u) d (sym (disk_with u d) ∙ app.disk) refl)
counted_more v w log after (fails_commit s disk i stopped may d) app counts = tt
counted_more v w log after (fails_define s disk i statement stopped may d e named) app counts = tt
counted_more v w log after (fails_before s disk i stopped may d) app counts = tt
counted_more v w log after (fails_after s disk i stopped may d xs are fall) app counts = tt
counted_more v w log after (told s disk i said end t) app counts = absurd (no_more app.of app.number disk disk app.disk refl)
counted_more v w log after (told_halted s next disk i said end t) app counts = tt

-- a block is ended
pub counted_flush : (w : World) (log : LogState) → Ends w → ends_of (disk_of w).waiting ≡ block_bytes → IsCounted w log → IsCounted (with_disk w (flushed_all (disk_of w))) (after_flush log)
counted_flush (At s d) log is one counts = absurd (omega (arith, is, one))
counted_flush (Amid after i a s l es d) log is one counts = (counts.0, (let used = counts.1 in omega (arith, used, one)))
counted_flush (Halted s next d) log is one counts = tt

pub reserves_flush : (w : World) (log : LogState) → Ends w → ends_of (disk_of w).waiting ≡ block_bytes → Reserves w log → Reserves (with_disk w (flushed_all (disk_of w))) (after_flush log)
reserves_flush (At s d) log is one had = absurd (omega (arith, is, one))
reserves_flush (Amid after i a s l es d) log is one had = omega (arith, had, one)
reserves_flush (Halted s next d) log is one had = tt
