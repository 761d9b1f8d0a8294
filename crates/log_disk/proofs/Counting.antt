-- What a record, the records that a checkpoint carries and an effect count, in bytes of the log.
use Rattle.std.proofs.Common.{◌≡◌, inl, inr, ◌⊎◌, ℕ, ◌+◌, ◌*◌, ℤ, List, [], ◌∷◌, ◌++◌, map, length, Option, Some, None, Bool, true, false, refl, sym, ap, subst, ◌∙◌, arith, length-append}
use Rattle.std.specs.Prelude.{reverse}
use Rattle.std.specs.List.{flat_map, sum}
use Rattle.std.specs.Option.{option_map, option_map_or}
use Rattle.std.specs.Int.{w8, w128}
use Rattle.std.specs.Prelude.{if◌then◌else◌}
use Rattle.std.proofs.lemmas.List.{reverse-append}
use Rattle.std.proofs.lemmas.List.Concat.{flat_map-append}
use Rattle.iv_types.specs.declared.value.Kind.{Kind}
use Rattle.iv_types.specs.declared.lock.GroupDelta.{GroupDelta}
use Rattle.iv_types.specs.Encoding.{row_bytes}
use Rattle.iv_meaning.specs.Schema.{Schema, numbered, kinds_of_table}
use Rattle.iv_meaning.specs.Database.{Row, Database}
use Rattle.log_records.specs.Spelling.{spelling, optional, signed, numbers}
use Rattle.log_records.specs.Area.{Entry, group}
use Rattle.txn_machine.specs.Acts.{Act}
use Rattle.txn_machine.specs.Counts.{row_size, sum_over}
use Rattle.txn_machine.specs.Fresh.{fresh}
use Rattle.txn_machine.specs.Ghosts.{the_views}
use Rattle.txn_machine.specs.Keeping.{KeptStep, Put, Pay}
use Rattle.txn_machine.specs.Log.{Log, block_bytes, carried, appended, logged_after, begun_after, flushed_after, with_logged, logs, record_of, pay_record, undo_record}
use Rattle.txn_machine.specs.Records as machine
use Rattle.txn_machine.specs.Records.{Record, record_bytes, write_bytes, delta_bytes, step_bytes}
use Rattle.txn_machine.specs.Store.{Store, committed, schema_of, now, Effect, Opens, Takes, Notes, Writes, Pays, Ghosts, Undoes, Loses, Ends, Commits, Defines, Cleans, Prunes, does}
use Rattle.txn_machine.proofs.LogSums.{sum_same, sum_first}
use Rattle.txn_machine.proofs.Looking.{view_laws}
use Rattle.txn_machine.proofs.Runs.{committed_after, defined}
use Rattle.txn_log.specs.Replay.{What, Wrote, Added, Deed, own}
use Rattle.txn_log.specs.Appended.{written, what_record}
use Rattle.txn_log.specs.Moments.{AreCarried, Txn, txn_at, Disk, with_record, pages_now}
use Rattle.txn_log.proofs.Finding.{by_number}
use Rattle.txn_log.proofs.Happening.{IsFollowed}
use Rattle.txn_log.proofs.Memory.{Memory}
use Rattle.txn_log.proofs.Rooming.{whats_total, total_all}
use Rattle.txn_log.proofs.Tying.{whats_of, whats_in}
use Rattle.log_disk.specs.Spelled.{in_bytes, row_in, spelled}
use Rattle.log_disk.specs.Calls.{first_entries, end_of_block, ends_of}

-- ---- the bytes of a record

optional_row : (kinds : List Kind) (row : Option Row) → length (optional (option_map (row_bytes kinds) row)) ≡ 1 + option_map_or (λ r. 2 + row_size kinds r) row 0
optional_row kinds None = omega arith
optional_row kinds (Some r) = omega arith

sums_long : (zs : List ℤ) → length (flat_map (signed w128) zs) ≡ 16 * length zs
sums_long [] = refl
sums_long (z ∷ zs) =
    let rest = sums_long zs in
    let one = length-append (signed w128 z) (flat_map (signed w128) zs) in
    omega (arith, rest, one)

-- they are those that the machine counts
pub record_long : (objects : Schema) (number : ℕ) (r : Record) → length (spelling number (in_bytes objects r)) ≡ record_bytes objects r
record_long objects number (machine.Write transaction c) =
    let kinds : List Kind = kinds_of_table (numbered objects c.key.0) in
    let before = optional_row kinds c.before in
    let after = optional_row kinds c.after in
    let rows = length-append (optional (row_in objects c.key c.before)) (optional (row_in objects c.key c.after)) in
    let key = length-append c.key.1 (optional (row_in objects c.key c.before) ++ optional (row_in objects c.key c.after)) in
    omega (arith, before, after, rows, key)
record_long objects number (machine.Delta transaction d) =
    let sums = sums_long d.sums in
    let group = length-append d.group (signed w8 d.count ++ numbers d.sums) in
    omega (arith, sums, group)
record_long objects number (machine.Ghost place) = omega arith
record_long objects number (machine.Clean place) = omega arith
record_long objects number (machine.Undo transaction n) = omega arith
record_long objects number (machine.Commit transaction n session) = omega arith
record_long objects number (machine.Abort transaction) = omega arith
record_long objects number (machine.Definition n session text) = omega arith

-- ---- what a checkpoint carries

abbrev what_bytes : Schema → What → ℕ
what_bytes objects (Wrote c) = write_bytes objects c
what_bytes objects (Added d) = delta_bytes d

what_long : (objects : Schema) (number transaction : ℕ) (w : What) → length (spelling number (in_bytes objects (what_record transaction w))) ≡ what_bytes objects w
what_long objects number transaction (Wrote c) = record_long objects number (machine.Write transaction c)
what_long objects number transaction (Added d) = record_long objects number (machine.Delta transaction d)

group_turned : (es : List Entry) → length (group (reverse es)) ≡ length (group es)
group_turned [] = refl
group_turned (e ∷ es) =
    let turned = ap (λ (xs : List Entry). length (group xs)) (reverse-append (e ∷ []) es) in
    let parts = ap length (flat_map-append (λ (x : Entry). spelling x.number x.entry) (reverse es) (e ∷ [])) in
    let one = length-append (group (reverse es)) (group (e ∷ [])) in
    let last = length-append (spelling e.number e.entry) [] in
    let all = length-append (spelling e.number e.entry) (group es) in
    let rest = group_turned es in
    omega (arith, turned, parts, one, last, all, rest)

deeds_long : (objects : Schema) (xs : List Deed) → length (group (map (λ x. spelled objects (written x)) xs)) ≡ whats_total (what_bytes objects) (whats_of xs)
deeds_long objects [] = refl
deeds_long objects (x ∷ xs) =
    let one = what_long objects x.number x.transaction x.what in
    let both = length-append (spelling x.number (in_bytes objects (what_record x.transaction x.what))) (group (map (λ y. spelled objects (written y)) xs)) in
    let rest = deeds_long objects xs in
    omega (arith, one, both, rest)

steps_long : (objects : Schema) (ks : List KeptStep) → whats_total (what_bytes objects) (whats_in ks) ≡ sum (map (step_bytes objects) ks)
steps_long objects [] = refl
steps_long objects (Put c ds ∷ ks) =
    let rest = steps_long objects ks in
    let one = sum_first (write_bytes objects c) (map (step_bytes objects) ks) in
    omega (arith, rest, one)
steps_long objects (Pay d ∷ ks) =
    let rest = steps_long objects ks in
    let one = sum_first (delta_bytes d) (map (step_bytes objects) ks) in
    omega (arith, rest, one)

-- it takes the bytes that the machine counts
pub carried_long : (s : Store) (l : Log) (d : Disk) (xs : List Deed) → IsFollowed s l d → AreCarried (txn_at s l) xs → length (group (first_entries (pages_now s) xs)) ≡ carried s
carried_long s l d xs is are =
    let m : Memory = is.memory in
    let f : What → ℕ = what_bytes (schema_of s) in
    let same : ◌≡◌ {A = ℕ → Txn} (txn_at s l) m.txn_of = λ t j. sym (is.follows.txns j) t in
    let by : AreCarried m.txn_of xs = subst (λ (g : ℕ → Txn). AreCarried g xs) same are in
    let all = total_all f (λ j. (m.txn_of j).id) xs
    (λ i j k n differ e. by_number (m.txn_of i).id 0
    (λ z. ap (λ a. own a xs) z ∙ by.of_none)
    (λ z. absurd (is.sound.tied.apart.apart i j k n differ (omega arith) e)))
    by.others in
    let each : sum_over 64 (λ j. whats_total f (whats_of (own (m.txn_of j).id xs))) ≡ carried s = sum_same 64 (λ j. sum (map (step_bytes (schema_of s)) (now s j).kept)) (λ j. whats_total f (whats_of (own (m.txn_of j).id xs)))
    (λ j low high. ap (whats_total f) (ap whats_of (by.each j (low, high)) ∙ is.sound.tied.whats j (low, high)) ∙ steps_long (schema_of s) (now s j).kept) in
    let turned = group_turned (map (λ x. spelled (schema_of s) (written x)) xs) in
    let deeds = deeds_long (schema_of s) xs in
    omega (arith, all, each, turned, deeds)

-- ---- what an effect counts

abbrev pub count : Option Record → ℕ
count None = 0
count (Some r) = 1

abbrev pub bytes_in : Schema → Option Record → ℕ
bytes_in objects None = 0
bytes_in objects (Some r) = record_bytes objects r

abbrev pub ends_in : Option Record → ℕ
ends_in None = 0
ends_in (Some r) = end_of_block r

appended_counts : (objects : Schema) (o : Option Record) (l : Log) → ((appended objects o l).next ≡ l.next + count o) × ((appended objects o l).used ≡ l.used + bytes_in objects o)
appended_counts objects None l = (omega arith, omega arith)
appended_counts objects (Some r) l = (refl, refl)

abbrev pub ends_by : Effect → ℕ
ends_by Commits = block_bytes
ends_by (Defines o) = block_bytes
ends_by _ = 0

flushed_counts : (e : Effect) (l : Log) → ((flushed_after e l).next ≡ l.next) × ((flushed_after e l).used ≡ l.used + ends_by e)
flushed_counts Commits l = (refl, refl)
flushed_counts (Defines o) l = (refl, refl)
flushed_counts (Opens mode) l = (refl, omega arith)
flushed_counts (Takes wants) l = (refl, omega arith)
flushed_counts (Notes n) l = (refl, omega arith)
flushed_counts (Writes p new) l = (refl, omega arith)
flushed_counts Pays l = (refl, omega arith)
flushed_counts (Ghosts p n) l = (refl, omega arith)
flushed_counts Undoes l = (refl, omega arith)
flushed_counts Loses l = (refl, omega arith)
flushed_counts Ends l = (refl, omega arith)
flushed_counts (Cleans p) l = (refl, omega arith)
flushed_counts Prunes l = (refl, omega arith)

module _ (s : Store) (i : ℕ) (a : Act) (l : Log) where
  pays_end : (ds : List GroupDelta) → ends_in (pay_record (l.logged i) ds) ≡ 0
  pays_end [] = refl
  pays_end (d ∷ ds) = refl

  undoes_end : (ns : List ℕ) → ends_in (undo_record (l.logged i) ns) ≡ 0
  undoes_end [] = refl
  undoes_end (n ∷ ns) = refl

  aborts_end : (wrote : Bool) → ends_in (if wrote then Some (machine.Abort (l.logged i).transaction) else None) ≡ 0
  aborts_end true = refl
  aborts_end false = refl

  pub ends_are : (e : Effect) → ends_in (record_of s i a l e) ≡ ends_by e
  ends_are Commits = refl
  ends_are (Defines o) = refl
  ends_are (Opens mode) = refl
  ends_are (Takes wants) = refl
  ends_are (Notes n) = refl
  ends_are (Writes p new) = refl
  ends_are Pays = pays_end (now s i).owed
  ends_are (Ghosts p n) = refl
  ends_are Undoes = undoes_end (l.logged i).kept
  ends_are Loses = refl
  ends_are Ends = aborts_end (l.logged i).wrote
  ends_are (Cleans p) = refl
  ends_are Prunes = refl

  pub logs_next : (e : Effect) → (logs s i a e l).next ≡ l.next + count (record_of s i a l e)
  logs_next e =
      (flushed_counts e (record (appended (schema_of s) (record_of s i a l e) (with_logged l i (logged_after s i l e))) { begun = begun_after e l.begun })).0
      ∙ (appended_counts (schema_of s) (record_of s i a l e) (with_logged l i (logged_after s i l e))).0

  pub logs_used : (e : Effect) → (logs s i a e l).used ≡ l.used + bytes_in (schema_of s) (record_of s i a l e) + ends_in (record_of s i a l e)
  logs_used e =
      let one = (flushed_counts e (record (appended (schema_of s) (record_of s i a l e) (with_logged l i (logged_after s i l e))) { begun = begun_after e l.begun })).1 in
      let two = (appended_counts (schema_of s) (record_of s i a l e) (with_logged l i (logged_after s i l e))).1 in
      let three = ends_are e in
      omega (arith, one, two, three)

  -- an effect that ends a block commits
  pub ends_or_commits : (e : Effect) → (ends_by e ≡ 0) ⊎ ((committed (does the_views s i e)).number ≡ (committed s).number + 1)
  ends_or_commits Commits = inr (ap (λ (d : Database). d.number) (committed_after the_views fresh view_laws s i))
  ends_or_commits (Defines o) = inr (ap (λ (d : Database). d.number) (defined the_views fresh view_laws s i o))
  ends_or_commits (Opens mode) = inl refl
  ends_or_commits (Takes wants) = inl refl
  ends_or_commits (Notes n) = inl refl
  ends_or_commits (Writes p new) = inl refl
  ends_or_commits Pays = inl refl
  ends_or_commits (Ghosts p n) = inl refl
  ends_or_commits Undoes = inl refl
  ends_or_commits Loses = inl refl
  ends_or_commits Ends = inl refl
  ends_or_commits (Cleans p) = inl refl
  ends_or_commits Prunes = inl refl

pub ends_more : (o : Option Record) (n : ℕ) (d : Disk) → ends_of (with_record o n d).waiting ≡ ends_of d.waiting + ends_in o
ends_more None n d = omega arith
ends_more (Some r) n d = refl

pub same_acknowledged : (o : Option Record) (n : ℕ) (d : Disk) → (with_record o n d).acknowledged ≡ d.acknowledged
same_acknowledged None n d = refl
same_acknowledged (Some r) n d = refl
