-- Over every list of calls, whatever a crash may leave at any moment bears what a crash of the machine leaves.
use Rattle.std.proofs.Common.{◌≡◌, inl, inr, ◌⊎◌, ⊎_elim, Bool, ℕ, ◌+◌, ◌*◌, ◌≤◌, List, [], ◌∷◌, ◌++◌, map, length, drop, Some, refl, sym, ap, subst, ◌∙◌, arith}
use Rattle.disk_io.specs.Disk.{Only, LeavesOnly}
use Rattle.page_store.specs.declared.facts.HeaderFacts.{HeaderFacts}
use Rattle.page_store.specs.Image.{image}
use Rattle.page_store.specs.Publish.{OldOrNew}
use Rattle.wal_log.specs.Log.{LogState}
use Rattle.txn_machine.specs.Acts as act
use Rattle.txn_machine.specs.Store.{Store, committed, schema_of}
use Rattle.txn_machine.specs.Log.{Opening}
use Rattle.txn_machine.specs.Laws.{IsOpened}
use Rattle.txn_log.specs.Replay.{Deed, Pages, recovered}
use Rattle.txn_log.specs.Appended.{Numbered, written, Image}
use Rattle.txn_log.specs.Moments as moments
use Rattle.txn_log.specs.Moments.{Disk, World, At, Amid, Writes, store_of, disk_of, with_disk, image_of, with_record, flushed_all, pages_now, published, Happens, Run, here, then_move, opened_world, left_by, IsRight}
use Rattle.txn_log.proofs.Lifting.{run_both}
use Rattle.txn_log.proofs.Printed.{prints_again}
use Rattle.txn_log.proofs.Passing.{disk_with, acknowledged_grows, same_grows, grows_run, one_of_two, holds_at}
use Rattle.txn_log.proofs.Running.{Grows}
use Rattle.txn_log.proofs.Settling.{settled_run}
use Rattle.txn_log.proofs.Happening.{AllSaid, all_said, crash}
use Rattle.log_disk.specs.Spelled.{IsSpellable, AreSpellable, LeadTo}
use Rattle.log_disk.specs.Bears.{Bears}
use Rattle.log_disk.specs.Calls.{with_reserved, IsCounted, Reserves, DiskTells, IsOn, FlushCalled, PublishCalled, Stage, SameRecords, Saves, Appends, AreTwins, Call, goes_on, reads, appends, flushes, publishes, fails_flush, fails_publish, Calls, none, then_call, IsInStep, first_block}
use Rattle.log_disk.specs.Laws.{OnTheWay, OpeningLaw, OpenedLaw, StandingLaw, CallsLaw, PrefixLaw, OneStepLaw}
use Rattle.log_disk.proofs.Spelling.{said_leads, right_carried, right_last}
use Rattle.log_disk.proofs.Fresh.{new_bears, new_on, next_is, used_is, reserved_is}
use Rattle.log_disk.proofs.Flushing.{bears_none, flush_bears, flushed_on, appended_on, reserved_on}
use Rattle.log_disk.proofs.Counting.{carried_long}
use Rattle.log_disk.proofs.Counted.{good_world, ends_run, counted_on, counted_more, counted_flush, reserves_flush}
use Rattle.log_disk.proofs.Worlds.{by_writes, twin_itself, twin_stopped, twin_run, twin_acknowledged, twin_store}

-- the same records, on the same disk
same_on : (room count : ℕ) (d e : Disk) (log : LogState) (s : List ℕ) → SameRecords d e → IsOn room count d log s → IsOn room count e log s
same_on room count d e log s same on = moved
  where
    all : record d { acknowledged = e.acknowledged } ≡ e
    all = λ t. record { pages = sym same.pages t; carried = sym same.carried t; flushed = sym same.flushed t; waiting = sym same.waiting t; acknowledged = e.acknowledged }

    moved : IsOn room count e log s
    moved = subst (λ (x : Disk). IsOn room count x log s) all (record {
      size = on.size;
      few = on.few;
      here = on.here;
      means = on.means;
      pages = on.pages;
      first = on.first;
      others = on.others;
      records = on.records;
      fits = on.fits;
      area_size = on.area_size;
      start = on.start;
      holds = on.holds;
      waits = on.waits;
      small = on.small;
      waiting = on.waiting;
      spelled_all = on.spelled_all;
    })

-- another disk that means the same
bears_same : (room count : ℕ) (c s : List ℕ) (i : Image) → image room count c ≡ image room count s → Bears room count s i → Bears room count c i
bears_same room count c s i same b = record { here = b.here; means = same ∙ b.means; pages = b.pages; first = b.first; others = b.others; scan = b.scan; first_end = b.first_end; records = b.records }

bears_before : (room count : ℕ) (c : List ℕ) (d e : Disk) → SameRecords d e → Bears room count c (image_of d (drop (length d.waiting) d.waiting)) → Bears room count c (image_of e (drop (length e.waiting) e.waiting))
bears_before room count c d e same b = subst (Bears room count c)
    (λ t. record { pages = sym same.pages t; carried = map written (sym same.carried t); after = drop (length (sym same.waiting t)) (sym same.waiting t) ++ sym same.flushed t }) b

module _ {D : Type 0} (t : DiskTells D) (sizes : (disk : D) → length (t.seen disk) ≡ t.size_of disk)
    (only_now : (disk : D) (c : List ℕ) → t.left_since disk (t.moment disk) c → t.may_leave disk c)
    (counts_now : (disk : D) (n : ℕ) (c : List ℕ) → n ≤ t.moment disk → t.may_leave disk c → t.left_since disk n c) where
  pub opened_on : OpenedLaw t
  opened_on room count p opening former log facts stored bytes old new size few same clear saves published = record {
    is_on = new_on room count p [] opening.next former log facts stored bytes saves tt (t.seen new) published.published (sizes new ∙ size) few same (moments.opened_disk p);
    settled = published.durable;
    counted = (next_is room count p [] opening.next former log facts stored bytes saves tt, used_is room count p [] opening.next former log facts stored bytes saves tt);
    reserves = reserved_is room count p [] opening.next former log facts stored bytes saves tt ∙ clear;
  }

  pub opening_left : OpeningLaw t
  opening_left room count i p former log facts stored bytes old new bears settled saves called c left = elim ((called.any_moment settled).each c left) [
    | inl same ↦ inl (bears_same room count c (t.seen old) i (subst (λ n. image room n c ≡ image room n (t.seen old)) saves.many same) bears)
    | inr fresh ↦ inr (new_bears room count p [] facts.next_entry former log facts stored bytes saves tt c fresh)
  ]

  module _ (room count : ℕ) (p : Pages) (was : IsOpened p.db p.view) (opening : Opening) where
    abbrev begin : World
    begin = opened_world opening p

    -- some image of the machine between two worlds
    abbrev LeftIn : World → World → List ℕ → Type 0
    LeftIn u v c = (w : World) × (k : ℕ) × Run begin w × OnTheWay u v w × Bears room count c (left_by w k)

    record Stands (a : Stage D) : Type 0 where
      run : Run begin a.world
      begun : Writes a.world → IsInStep t room count a
      images : (Writes a.world → ⊥) → (c : List ℕ) → t.may_leave a.disk c → (w : World) × (k : ℕ) × Run begin w × AreTwins a.world w × Bears room count c (left_by w k)

    record Goes (a b : Stage D) : Type 0 where
      moved : Run a.world b.world
      later : t.moment a.disk ≤ t.moment b.disk
      before : (n : ℕ) (c : List ℕ) → n ≤ t.moment a.disk → t.left_since b.disk n c → t.left_since a.disk n c ⊎ LeftIn a.world b.world c

    bears_begun : (a : Stage D) → IsInStep t room count a → (c : List ℕ) → t.may_leave a.disk c → Bears room count c (left_by a.world (length (disk_of a.world).waiting))
    bears_begun a b c may = subst (λ (s : List ℕ). Bears room count s (left_by a.world (length (disk_of a.world).waiting))) (sym (b.settled c may)) (bears_none room count (disk_of a.world) a.log (t.seen a.disk) b.is_on)

    -- where the disk is in step with the machine, what may be left is known
    stands_begun : (a : Stage D) → Run begin a.world → IsInStep t room count a → Stands a
    stands_begun a r b = record {
      run = r;
      begun = λ writes. b;
      images = λ stopped c may. (a.world, length (disk_of a.world).waiting, r, twin_itself a.world stopped, bears_begun a b c may);
    }

    now_left : (a : Stage D) → Stands a → (c : List ℕ) → t.may_leave a.disk c → LeftIn a.world a.world c
    now_left a is c may = by_writes a.world
        (λ writes. (a.world, length (disk_of a.world).waiting, is.run, inl (here a.world, here a.world), bears_begun a (is.begun writes) c may))
        (λ stopped. let i = is.images stopped c may in (i.0, i.1, i.2, inr i.3, i.4))

    -- the world goes on, and the disk stays
    stays : (a b : Stage D) → b.disk ≡ a.disk → Run a.world b.world → Goes a b
    stays a b same r = record {
      moved = r;
      later = omega (arith, ap t.moment same);
      before = λ n c le left. inl (subst (λ (x : D). t.left_since x n c) same left);
    }

    one_move : (u v : World) → Happens u v → Run u v
    one_move u v m = then_move u u v (here u) m

    extended : (u v : World) → Run begin u → Happens u v → Run begin v
    extended u v r m = then_move begin u v r m

    -- a machine that is stopped goes on
    stopped_stands : (a : Stage D) (w : World) (log : LogState) → Happens a.world w → Stands a → (Writes a.world → ⊥) → Stands (record { world = w; log = log; disk = a.disk })
    stopped_stands a w log move is stopped = record {
      run = extended a.world w is.run move;
      begun = λ writes. absurd (twin_stopped w a.world (twin_run a.world a.world w (one_move a.world w move) (twin_itself a.world stopped)) writes);
      images = λ still c may. let i = is.images stopped c may in (i.0, i.1, i.2, twin_run i.0 a.world w (one_move a.world w move) i.3, i.4);
    }

    leads : (a : Stage D) → Stands a → LeadTo (disk_of a.world).pages.db.schema ((disk_of a.world).waiting ++ (disk_of a.world).flushed) (schema_of (store_of a.world))
    leads a is =
        let said : AllSaid (store_of a.world) (disk_of a.world) = all_said prints_again p was opening a.world is.run in
        subst (LeadTo (disk_of a.world).pages.db.schema ((disk_of a.world).waiting ++ (disk_of a.world).flushed)) (sym said.schema)
        (said_leads (disk_of a.world).pages.db.schema ((disk_of a.world).waiting ++ (disk_of a.world).flushed) said.events said.say)

    -- what a checkpoint carries fits
    carried_fit : (w : World) (q : Pages) (carried : List Deed) (d : Disk) → Run begin w → disk_of w ≡ published q carried d → AreSpellable q.db.schema (map written carried)
    carried_fit w q carried d r is =
        let right : IsRight (store_of w) (left_by w 0) (disk_of w).acknowledged = crash prints_again p was opening w r 0 in
        subst (λ (e : Disk). AreSpellable e.pages.db.schema (map written e.carried)) is (right_carried (store_of w) (left_by w 0) (disk_of w).acknowledged right)

    -- and so does what is appended
    appended_is : (a : Stage D) (w : World) (log : LogState) → Happens a.world w → Appends a.world w a.log log → Stands a → IsInStep t room count a → IsOn room count (disk_of w) log (t.seen a.disk)
    appended_is a w log move app is b =
        let d : Disk = disk_of a.world in
        let r : Numbered = record { number = app.number; of = app.of } in
        let right : IsRight (store_of w) (image_of (with_record (Some app.of) app.number d) (r ∷ d.waiting)) (disk_of w).acknowledged =
        subst (λ (e : Disk). IsRight (store_of w) (image_of e e.waiting) (disk_of w).acknowledged) app.disk (crash prints_again p was opening w (extended a.world w is.run move) 0) in
        let fit : IsSpellable (schema_of (store_of a.world)) app.of = right_last (store_of w) d.pages (map written d.carried) r (d.waiting ++ d.flushed) (disk_of w).acknowledged right (schema_of (store_of a.world)) (leads a is) in
        appended_on room count d a.log (t.seen a.disk) b.is_on (disk_of w) log (schema_of (store_of a.world)) r app.bytes app.disk (leads a is) fit app.small app.log_is

    -- ---- a flush

    flush_left : (a : Stage D) (w : World) (log : LogState) (new : D) → IsOn room count (disk_of w) log (t.seen a.disk) → Only (t.seen a.disk) (t.may_leave a.disk) → FlushCalled t log a.disk new
        → LeavesOnly t.moment t.left_since a.disk new (λ c. (k : ℕ) × Bears room count c (left_by w k))
    flush_left a w log new on settled called =
        let run = called.any_moment (on.first ∷ on.others) on.waits on.holds on.waiting settled in record {
          later = run.later;
          each = λ c left. flush_bears room count (disk_of w) log (t.seen a.disk) on called.short c (run.each c left);
          before = λ n c le left. ⊎_elim (λ l. inl l) (λ f. inr (flush_bears room count (disk_of w) log (t.seen a.disk) on called.short c f)) (run.before n c le left);
        }

    -- ---- a publish

    publish_left : (a : Stage D) (carried : List Deed) (log : LogState) (facts : HeaderFacts) (stored : List Bool) (bytes : List ℕ) (new : D) → IsInStep t room count a
        → Saves room count (pages_now (store_of a.world)) carried a.log.next a.log log facts stored bytes → AreSpellable (pages_now (store_of a.world)).db.schema (map written carried)
        → PublishCalled t room facts (first_block log) stored bytes a.disk new
        → LeavesOnly t.moment t.left_since a.disk new (λ c. Bears room count c (left_by a.world (length (disk_of a.world).waiting)) ⊎ Bears room count c (record { pages = pages_now (store_of a.world); carried = map written carried; after = [] }))
    publish_left a carried log facts stored bytes new b saves fit called =
        let run = called.any_moment b.settled in record {
          later = run.later;
          each = λ c left. one c (run.each c left);
          before = λ n c le left. ⊎_elim (λ l. inl l) (λ f. inr (one c f)) (run.before n c le left);
        }
      where
        one : (c : List ℕ) → OldOrNew room facts (first_block log) stored bytes (t.seen a.disk) c
            → Bears room count c (left_by a.world (length (disk_of a.world).waiting)) ⊎ Bears room count c (record { pages = pages_now (store_of a.world); carried = map written carried; after = [] })
        one c (inl old) = inl (bears_same room count c (t.seen a.disk) (left_by a.world (length (disk_of a.world).waiting)) (subst (λ n. image room n c ≡ image room n (t.seen a.disk)) saves.many old)
            (bears_none room count (disk_of a.world) a.log (t.seen a.disk) b.is_on))
        one c (inr new) = inr (new_bears room count (pages_now (store_of a.world)) carried a.log.next a.log log facts stored bytes saves fit c new)

    -- ---- each call

    call_goes : (a b : Stage D) → Call t room count a b → Stands a → Stands b × Goes a b
    call_goes a b (goes_on x w bytes move same quiet reserves) is =
        let log : LogState = with_reserved x.log bytes in
        let y : Stage D = record x { world = w; log = log } in (
          by_writes x.world
              (λ writes. stands_begun y (extended x.world w is.run move) (record {
                is_on = same_on room count (disk_of x.world) (disk_of w) log (t.seen x.disk) same (reserved_on room count (disk_of x.world) x.log (t.seen x.disk) bytes (is.begun writes).is_on);
                settled = (is.begun writes).settled;
                counted = counted_on x.world w x.log bytes move same quiet (good_world p was opening x.world is.run) (ends_run p was opening x.world is.run) (is.begun writes).counted;
                reserves = reserves;
              }))
              (λ stopped. stopped_stands x w log move is stopped),
          stays x y refl (one_move x.world w move),
        )
    call_goes a b (reads x new read) is =
        let y : Stage D = record x { disk = new } in
        let stands : Stands y = record {
          run = is.run;
          begun = λ writes. record {
            is_on = subst (IsOn room count (disk_of x.world) x.log) (sym read.seen) (is.begun writes).is_on;
            settled = λ c may. (is.begun writes).settled c (read.crash c may) ∙ sym read.seen;
            counted = (is.begun writes).counted;
            reserves = (is.begun writes).reserves;
          };
          images = λ stopped c may. is.images stopped c (read.crash c may);
        } in (
          stands,
          record {
            moved = here x.world;
            later = read.time.later;
            before = λ n c le left. ⊎_elim (λ l. inl l) (λ may. inr (now_left y stands c may)) (read.time.nothing_else n c le left);
          },
        )
    call_goes a b (appends x w log move app) is = (
      by_writes x.world
          (λ writes. stands_begun (record { world = w; log = log; disk = x.disk }) (extended x.world w is.run move)
          (record {
            is_on = appended_is x w log move app is (is.begun writes);
            settled = (is.begun writes).settled;
            counted = counted_more x.world w x.log log move app (is.begun writes).counted;
            reserves = app.reserves;
          }))
          (λ stopped. stopped_stands x w log move is stopped),
      stays x (record { world = w; log = log; disk = x.disk }) refl (one_move x.world w move),
    )
    call_goes a b (flushes x log new writes due flushed) is =
        let begun : IsInStep t room count x = is.begun writes in
        let on : IsOn room count (disk_of x.world) x.log (t.seen x.disk) = begun.is_on in
        let w : World = with_disk x.world (flushed_all (disk_of x.world)) in
        let move : Happens x.world w = moments.flushes x.world writes in
        let left = flush_left x x.world x.log new on begun.settled flushed.called in (
          stands_begun (record { world = w; log = log; disk = new }) (extended x.world w is.run move) (record {
            is_on = subst (λ (d : Disk). IsOn room count d log (t.seen new)) (sym (disk_with x.world (flushed_all (disk_of x.world))))
                (flushed_on room count (disk_of x.world) x.log (t.seen x.disk) on flushed.called.short log (t.seen new) flushed.ok flushed.outside
                (flushed.holds (on.first ∷ on.others) on.waits on.holds on.waiting));
            settled = flushed.durable;
            counted = subst (IsCounted w) (sym flushed.ok) (counted_flush x.world x.log (ends_run p was opening x.world is.run) due begun.counted);
            reserves = subst (Reserves w) (sym flushed.ok) (reserves_flush x.world x.log (ends_run p was opening x.world is.run) due begun.reserves);
          }),
          record {
            moved = one_move x.world w move;
            later = left.later;
            before = λ n c le l. ⊎_elim (λ m. inl m) (λ f. inr (x.world, f.0, is.run, inl (here x.world, one_move x.world w move), f.1)) (left.before n c le l);
          },
        )
    call_goes a b (publishes after session s l d old log disk new carried kept facts stored bytes carries fall acknowledged saves done reserves) is =
        let u : World = Amid after session act.Checkpoint s l [] d in
        let x : Stage D = record { world = u; log = old; disk = disk } in
        let begun : IsInStep t room count x = is.begun tt in
        let q : Pages = pages_now s in
        let e : Disk = published q carried d in
        let v : World = Amid after session act.Checkpoint s l [] e in
        let w : World = At after e in
        let out : Happens u v = moments.publishes u carried carries fall in
        let done_so : Happens v w = moments.ends after session act.Checkpoint s l e (record { acknowledged = acknowledged; published = λ is. (refl, refl, refl) }) in
        let r : Run begin v = extended u v is.run out in
        let fit : AreSpellable q.db.schema (map written carried) = carried_fit v q carried d r refl in
        let left = publish_left x carried log facts stored bytes new begun saves fit done.called in
        let size : length (t.seen new) ≡ 278528 + 2 * room + 16384 * count = sizes new ∙ done.called.size ∙ sym (sizes disk) ∙ begun.is_on.size in
        let good = good_world p was opening u is.run in
        let next = next_is room count q carried old.next old log facts stored bytes saves fit in
        let used = used_is room count q carried old.next old log facts stored bytes saves fit in
        let long = carried_long s l d carried good.0 carries in
        let last = ((ends_run p was opening u is.run).2 refl).1 in
        let both : Run u w = then_move u v w (one_move u v out) done_so in (
          stands_begun (record { world = w; log = with_reserved log kept; disk = new }) (extended v w r done_so) (record {
            is_on = reserved_on room count e log (t.seen new) kept
                (new_on room count q carried old.next old log facts stored bytes saves fit (t.seen new) done.published size begun.is_on.few begun.is_on.area_size d);
            settled = done.durable;
            counted = (next ∙ begun.counted.0 ∙ sym good.4.next, omega (arith, used, long, last));
            reserves = reserves;
          }),
          record {
            moved = both;
            later = left.later;
            before = λ n c le f. ⊎_elim (λ m. inl m) (λ g. inr (elim g [
              | inl former ↦ (u, length d.waiting, is.run, inl (here u, both), former)
              | inr fresh ↦ (v, 0, r, inl (one_move u v out, one_move v w done_so), fresh)
            ])) (left.before n c le f);
          },
        )
    call_goes a b (fails_flush x w log after new move writes stops app called) is =
        let begun : IsInStep t room count x = is.begun writes in
        let left = flush_left x w log new (appended_is x w log move app is begun) begun.settled called in
        let r : Run begin w = extended x.world w is.run move in (
          record {
            run = r;
            begun = λ goes. absurd (stops goes);
            images = λ stopped c may. let f = left.each c (counts_now new (t.moment x.disk) c left.later may) in (w, f.0, r, twin_itself w stops, f.1);
          },
          record {
            moved = one_move x.world w move;
            later = left.later;
            before = λ n c le l. ⊎_elim (λ m. inl m) (λ f. inr (w, f.0, r, inl (one_move x.world w move, here w), f.1)) (left.before n c le l);
          },
        )
    call_goes a b (fails_publish x w v carried log last facts stored bytes new move other writes twins same there saves called) is =
        let begun : IsInStep t room count x = is.begun writes in
        let fit : AreSpellable (pages_now (store_of x.world)).db.schema (map written carried) = carried_fit v (pages_now (store_of x.world)) carried (disk_of x.world) (extended x.world v is.run other) there in
        let left = publish_left x carried log facts stored bytes new begun saves fit called in
        let stops : Writes w → ⊥ = twin_stopped w v twins in
        let r : Run begin w = extended x.world w is.run move in
        let q : Run begin v = extended x.world v is.run other in
        let one : (c : List ℕ) → Bears room count c (left_by x.world (length (disk_of x.world).waiting)) ⊎ Bears room count c (record { pages = pages_now (store_of x.world); carried = map written carried; after = [] })
        → (u : World) × (k : ℕ) × Run begin u × AreTwins w u × Bears room count c (left_by u k) = λ c f. elim f [
          | inl old ↦ (w, length (disk_of w).waiting, r, twin_itself w stops, bears_before room count c (disk_of x.world) (disk_of w) same old)
          | inr fresh ↦ (v, 0, q, twins, subst (λ (d : Disk). Bears room count c (image_of d d.waiting)) (sym there) fresh)
        ] in (
          record {
            run = r;
            begun = λ goes. absurd (stops goes);
            images = λ stopped c may. one c (left.each c (counts_now new (t.moment x.disk) c left.later may));
          },
          record {
            moved = one_move x.world w move;
            later = left.later;
            before = λ n c le l. ⊎_elim (λ m. inl m) (λ f. inr (let i = one c f in (i.0, i.1, i.2, inr i.3, i.4))) (left.before n c le l);
          },
        )

    -- ---- calls one after another

    record Went (a b : Stage D) : Type 0 where
      stands : Stands b
      moved : Run a.world b.world
      later : t.moment a.disk ≤ t.moment b.disk
      since : (c : List ℕ) → t.left_since b.disk (t.moment a.disk) c → LeftIn a.world b.world c

    calls_go : (a b : Stage D) → Calls t room count a b → Stands a → Went a b
    calls_go a b none is = record { stands = is; moved = here a.world; later = omega arith; since = λ c left. now_left a is c (only_now a.disk c left) }
    calls_go a b (then_call v w calls call) is =
        let so_far : Went a v = calls_go a v calls is in
        let next = call_goes v w call so_far.stands in record {
          stands = next.0;
          moved = run_both a.world v.world w.world so_far.moved next.1.moved;
          later = omega (arith, so_far.later, next.1.later);
          since = λ c left. elim (next.1.before (t.moment a.disk) c so_far.later left) [
            | inl earlier ↦
                let i = so_far.since c earlier in
                (i.0, i.1, i.2, ⊎_elim (λ (x : Run a.world i.0 × Run i.0 v.world). inl (x.0, run_both i.0 v.world w.world x.1 next.1.moved)) (λ y. inr (twin_run i.0 v.world w.world next.1.moved y)) i.3, i.4)
            | inr i ↦ (i.0, i.1, i.2, ⊎_elim (λ (x : Run v.world i.0 × Run i.0 w.world). inl (run_both a.world v.world i.0 so_far.moved x.0, x.1)) (λ y. inr y) i.3, i.4)
          ];
        }

    first_stands : (first : Stage D) → first.world ≡ begin → IsInStep t room count first → Stands first
    first_stands first is begun = stands_begun first (subst (Run begin) (sym is) (here begin)) begun

  pub standing : StandingLaw t
  standing room count p was opening first is begun a calls =
      let went = calls_go room count p was opening first a calls (first_stands room count p was opening first is begun) in (went.stands.run, went.stands.begun)

  pub all_calls : CallsLaw t
  all_calls room count p was opening first is begun a b before since c left =
      let reached = calls_go room count p was opening first a before (first_stands room count p was opening first is begun) in
      (calls_go room count p was opening a b since reached.stands).since c left

  pub prefixes : PrefixLaw t
  prefixes room count p was opening first is begun a b before since c left =
      let reached = calls_go room count p was opening first a before (first_stands room count p was opening first is begun) in
      let went = calls_go room count p was opening a b since reached.stands in
      let i = went.since c left in
      let right : IsRight (store_of i.0) (left_by i.0 i.1) (disk_of i.0).acknowledged = crash prints_again p was opening i.0 i.2 i.1 in
      let all_of_it : (disk_of a.world).acknowledged ≤ (disk_of i.0).acknowledged = elim i.3 [
        | inl x ↦ acknowledged_grows prints_again p was opening a.world i.0 reached.stands.run x.0
        | inr y ↦ (
            let e = twin_acknowledged b.world i.0 y in
            let grown = acknowledged_grows prints_again p was opening a.world b.world reached.stands.run went.moved in
            omega (arith, e, grown))
      ] in (
        i.0,
        i.1,
        i.3,
        i.4,
        record {
          reading = right.reading;
          is_read = right.is_read;
          fits = right.fits;
          db = right.db;
          has_all = (let h = right.has_all in omega (arith, h, all_of_it));
          not_more = right.not_more;
          opens = right.opens;
        },
      )

  pub one_step : OneStepLaw t
  one_step room count p was opening first is begun a b before since s d at near c left =
      let reached = calls_go room count p was opening first a before (first_stands room count p was opening first is begun) in
      let went = calls_go room count p was opening a b since reached.stands in
      let i = went.since c left in
      let w : World = i.0 in
      let right : IsRight (store_of w) (left_by w i.1) (disk_of w).acknowledged = crash prints_again p was opening w i.2 i.1 in
      let n : ℕ = (recovered right.reading).db.number in
      let settled : (disk_of a.world).acknowledged ≡ (committed (store_of a.world)).number =
      subst (λ (x : World). (disk_of x).acknowledged ≡ (committed (store_of x)).number) (sym at) (settled_run (opened_world opening p) (At s d) (subst (Run (opened_world opening p)) at reached.stands.run) refl) in
      let had : (disk_of a.world).acknowledged ≤ (disk_of w).acknowledged = (
      elim i.3 [
        | inl x ↦ acknowledged_grows prints_again p was opening a.world w reached.stands.run x.0
        | inr y ↦ (
            let e = twin_acknowledged b.world w y in
            let grown = acknowledged_grows prints_again p was opening a.world b.world reached.stands.run went.moved in
            omega (arith, e, grown))
      ]) in
      let more : Grows (store_of w) (store_of b.world) = (
      elim i.3 [
        | inl x ↦ grows_run prints_again p was opening w b.world i.2 x.1
        | inr y ↦ subst (λ (x : Store). Grows x (store_of b.world)) (sym (twin_store b.world w y)) (same_grows (store_of b.world))
      ]) in
      let grown : Grows (store_of a.world) (store_of b.world) = grows_run prints_again p was opening a.world b.world reached.stands.run went.moved in
      let store_is : store_of a.world ≡ s.store = ap store_of at in
      let low = right.has_all in
      let high = right.not_more in
      let grew = more.more in
      let number = ap (λ (x : Store). (committed x).number) store_is in
      let both : ((recovered right.reading).db ≡ committed (store_of a.world)) ⊎ ((recovered right.reading).db ≡ committed (store_of b.world)) =
      one_of_two (store_of a.world) (store_of b.world) (recovered right.reading).db n (holds_at prints_again p was opening a.world reached.stands.run) (holds_at prints_again p was opening b.world went.stands.run)
      grown (omega (arith, near, number)) (omega (arith, settled, had, low)) (omega (arith, high, grew)) (right.db ∙ sym (more.states n high)) in
      (left_by w i.1, i.4, right.reading, right.is_read, right.fits, subst (λ (x : Store). ((recovered right.reading).db ≡ committed x) ⊎ ((recovered right.reading).db ≡ committed (store_of b.world))) store_is both)
