-- Over every run, what any cut of the log leaves takes no more bytes of data than the limit.
use Rattle.std.specs.Prelude.{◌≡◌, ℕ, zero, suc, ◌+◌, List, [], ◌∷◌, ◌++◌, map, length, take, drop, Option, Some, None}
use Rattle.std.specs.List.{sum}
use mathlib.Core.Path.{refl, sym, ap, subst, ◌∙◌}
use mathlib.Core.Logic.{inl, inr}
use Rattle.std.proofs.Common.{arith, append_assoc, append-nil}
use Rattle.iv_types.specs.Printing.{statement_text}
use Rattle.iv_meaning.specs.Schema.{Object}
use Rattle.iv_meaning.specs.Database.{Database}
use Rattle.iv_meaning.specs.Escrow.{IsSession}
use Rattle.txn_machine.specs.Acts as act
use Rattle.txn_machine.specs.Acts.{Act}
use Rattle.txn_machine.specs.Fresh.{fresh}
use Rattle.txn_machine.specs.Ghosts.{the_views}
use Rattle.txn_machine.specs.Records.{Record}
use Rattle.txn_machine.specs.Log.{Opening, Within, Log, opened_log, logs, record_of, view_entries, definition_entries, data_bytes}
use Rattle.txn_machine.specs.Store.{Store, opened, schema_of, Effect, Commits, Defines, does}
use Rattle.txn_machine.specs.State.{State}
use Rattle.txn_machine.specs.May.{MayAct}
use Rattle.txn_machine.specs.Steps.{texts_of}
use Rattle.txn_machine.specs.Laws.{IsOpened}
use Rattle.txn_machine.proofs.Looking.{view_laws}
use Rattle.txn_machine.proofs.LogRoom.{within_less}
use Rattle.txn_machine.proofs.Moving.{may_of}
use Rattle.txn_machine.proofs.Reached.{may_define}
use Rattle.txn_machine.proofs.Runs.{committed_after}
use Rattle.txn_log.specs.Replay.{Deed, Pages, Reading, recovered}
use Rattle.txn_log.specs.Appended.{Numbered, IsRead}
use Rattle.txn_log.specs.Laws.{ReadingLaw}
use Rattle.txn_log.specs.Stored.{parts_entries}
use Rattle.txn_log.specs.Refused.{Placed, text_in, text_at, texts_in, data_left}
use Rattle.txn_log.specs.Moments.{Disk, image_of, with_record, flushed_all, pages_now, published, opened_disk, World, At, Amid, Halted, store_of, disk_of, with_disk, Keeps, Writes, Happens, begins, acts, ends, flushes, acknowledges, publishes, fails_commit, fails_define, fails_before, fails_after, told, told_halted, Run, here, then_move, opened_world, left_by, IsRight}
use Rattle.txn_log.specs.Room.{rows_bytes, OpensWithin, state_of, texts_on, WithinAlwaysLaw}
use Rattle.txn_log.proofs.Defining.{sum_append}
use Rattle.txn_log.proofs.Enlarging.{Ample, commits_it}
use Rattle.txn_log.proofs.Following.{PrintsAgain}
use Rattle.txn_log.proofs.Happening.{IsFollowed, IsGoodWorld, good_run, good_opened, crash}
use Rattle.txn_log.proofs.Limiting.{defines_it}
use Rattle.txn_log.proofs.Refusing.{right_fine}
use Rattle.txn_log.proofs.Rooming.{room_left}
use Rattle.txn_log.proofs.Staging.{texts_with, text_said, texts_said, texts_long, AreStaged, staged_more, staged_now, are_staged}
use Rattle.txn_log.proofs.Staying.{IsAmpleWorld, ample_move, opened_world_ample}

-- the texts of the definitions among records, in order
abbrev said_texts : List Numbered → List (List ℕ)
said_texts [] = []
said_texts (r ∷ rs) = said_texts rs ++ text_in r.of

abbrev left_bytes : Reading → ℕ
left_bytes r = rows_bytes (recovered r).db.schema (recovered r).db.rows + view_entries (recovered r).view

abbrev texts_bytes : List (List ℕ) → ℕ
texts_bytes texts = sum (map definition_entries texts)

-- ---- what cuts leave

module _ (limit : Option ℕ) where
  -- without the latest of the waiting records, with these texts on the pages
  abbrev AreWithin : List (List ℕ) → Disk → Type 0
  AreWithin on_pages d = (k : ℕ) (r : Reading) → IsRead (image_of d (drop k d.waiting)) r → Within limit (left_bytes r + texts_bytes (on_pages ++ said_texts (drop k d.waiting ++ d.flushed)))

  -- of a store with these texts, of all texts that its state has
  record Bounded (s : Store) (d : Disk) (texts all : List (List ℕ)) : Type 0 where
    on_pages : List (List ℕ)
    as_many : length on_pages ≡ length d.pages.db.schema
    first : (more : List (List ℕ)) × (all ≡ on_pages ++ more)
    said : texts ≡ on_pages ++ said_texts (d.waiting ++ d.flushed)
    long : length texts ≡ length (schema_of s)
    cuts : AreWithin on_pages d

  all_left : ReadingLaw → (s : Store) (l : Log) (d : Disk) → IsFollowed s l d → (any : Log) (texts : List (List ℕ)) → Within limit (data_bytes s any texts)
      → (r : Reading) → IsRead (image_of d d.waiting) r → Within limit (left_bytes r + texts_bytes texts)
  all_left once s l d is any texts within r read = within_less limit (data_bytes s any texts) (left_bytes r + texts_bytes texts) within (room_left once s l d is any r read texts)

  more_bounded : (s : Store) (d : Disk) (texts all later more : List (List ℕ)) → later ≡ all ++ more → Bounded s d texts all → Bounded s d texts later
  more_bounded s d texts all later more e b = record {
    on_pages = b.on_pages;
    as_many = b.as_many;
    first = (b.first.0 ++ more, e ∙ (ap (λ (x : List (List ℕ)). x ++ more) b.first.1 ∙ append_assoc b.on_pages b.first.0 more));
    said = b.said;
    long = b.long;
    cuts = b.cuts;
  }

  with_bounded : (s t : Store) (d : Disk) (texts later all : List (List ℕ)) (o : Option Record) (n : ℕ) → Bounded s d texts all → texts ++ text_said o ≡ later → length later ≡ length (schema_of t)
      → ((r : Reading) → IsRead (image_of (with_record o n d) (with_record o n d).waiting) r → Within limit (left_bytes r + texts_bytes later)) → Bounded t (with_record o n d) later all
  with_bounded s t d texts later all None n b same long full = record {
    on_pages = b.on_pages;
    as_many = b.as_many;
    first = b.first;
    said = sym same ∙ (append-nil texts ∙ b.said);
    long = long;
    cuts = b.cuts;
  }
  with_bounded s t d texts later all (Some x) n b same long full = record {
    on_pages = b.on_pages;
    as_many = b.as_many;
    first = b.first;
    said = said_now;
    long = long;
    cuts = cuts_now;
  }
    where
      said_now : later ≡ b.on_pages ++ (said_texts (d.waiting ++ d.flushed) ++ text_in x)
      said_now = sym same ∙ (ap (λ (y : List (List ℕ)). y ++ text_in x) b.said ∙ append_assoc b.on_pages (said_texts (d.waiting ++ d.flushed)) (text_in x))

      cuts_now : AreWithin b.on_pages (with_record (Some x) n d)
      cuts_now zero r read = subst (λ (y : List (List ℕ)). Within limit (left_bytes r + texts_bytes y)) said_now (full r read)
      cuts_now (suc k) r read = b.cuts k r read

  flushed_bounded : (s : Store) (d : Disk) (texts all : List (List ℕ)) → Bounded s d texts all → Bounded s (flushed_all d) texts all
  flushed_bounded s d texts all b = record {
    on_pages = b.on_pages;
    as_many = b.as_many;
    first = b.first;
    said = b.said;
    long = b.long;
    cuts = cuts_now;
  }
    where
      cuts_now : AreWithin b.on_pages (flushed_all d)
      cuts_now zero r read = b.cuts zero r read
      cuts_now (suc k) r read = b.cuts zero r read

  acknowledged_bounded : (s : Store) (d : Disk) (n : ℕ) (texts all : List (List ℕ)) → Bounded s d texts all → Bounded s (record d { acknowledged = n }) texts all
  acknowledged_bounded s d n texts all b = record { on_pages = b.on_pages; as_many = b.as_many; first = b.first; said = b.said; long = b.long; cuts = b.cuts }

  -- a checkpoint has all texts of now on its pages
  published_bounded : ReadingLaw → (s : Store) (l : Log) (d : Disk) (xs : List Deed) → IsFollowed s l (published (pages_now s) xs d) → (any : Log) (texts all more : List (List ℕ)) → all ≡ texts ++ more
      → Within limit (data_bytes s any texts) → length texts ≡ length (schema_of s) → Bounded s (published (pages_now s) xs d) texts all
  published_bounded once s l d xs is any texts all more e within long = record {
    on_pages = texts;
    as_many = long;
    first = (more, e);
    said = sym (append-nil texts);
    long = long;
    cuts = cuts_now;
  }
    where
      cuts_now : AreWithin texts (published (pages_now s) xs d)
      cuts_now zero r read = subst (λ (y : List (List ℕ)). Within limit (left_bytes r + texts_bytes y)) (sym (append-nil texts)) (all_left once s l (published (pages_now s) xs d) is any texts within r read)
      cuts_now (suc k) r read = subst (λ (y : List (List ℕ)). Within limit (left_bytes r + texts_bytes y)) (sym (append-nil texts)) (all_left once s l (published (pages_now s) xs d) is any texts within r read)

-- ---- worlds

module _ (printed : PrintsAgain) (once : ReadingLaw) (opening : Opening) where
  abbrev most : Option ℕ
  most = opening.data_limit

  abbrev IsBounded : World → Type 0
  IsBounded (At s d) = Bounded most s.store d (texts_of s) (texts_of s)
  IsBounded (Amid after i a s l es d) = (texts : List (List ℕ)) × Bounded most s d texts (texts_of after) × AreStaged most i a after s l texts es
  IsBounded (Halted s next d) = (texts : List (List ℕ)) × Bounded most next d texts (texts_of s)

  flush_bounded : (u : World) → Writes u → IsBounded u → IsBounded (with_disk u (flushed_all (disk_of u)))
  flush_bounded (At s d) w h = flushed_bounded most s.store d (texts_of s) (texts_of s) h
  flush_bounded (Amid after i a s l es d) w h = (h.0, flushed_bounded most s d h.0 (texts_of after) h.1, h.2)
  flush_bounded (Halted s next d) w h = absurd w

  acknowledge_bounded : (u : World) (n : ℕ) → IsBounded u → IsBounded (with_disk u (record (disk_of u) { acknowledged = n }))
  acknowledge_bounded (At s d) n h = acknowledged_bounded most s.store d n (texts_of s) (texts_of s) h
  acknowledge_bounded (Amid after i a s l es d) n h = (h.0, acknowledged_bounded most s d n h.0 (texts_of after) h.1, h.2)
  acknowledge_bounded (Halted s next d) n h = (h.0, acknowledged_bounded most next d n h.0 (texts_of s) h.1)

  publish_bounded : (u : World) (xs : List Deed) → Keeps u xs → IsGoodWorld (with_disk u (published (pages_now (store_of u)) xs (disk_of u))) → IsAmpleWorld opening u → IsBounded u
      → IsBounded (with_disk u (published (pages_now (store_of u)) xs (disk_of u)))
  publish_bounded (At s d) xs keeps is r h =
      published_bounded most once s.store s.log d xs is s.log (texts_of s) (texts_of s) [] (sym (append-nil (texts_of s))) (subst (λ (x : Opening). Within x.data_limit (data_bytes s.store s.log (texts_of s))) r.1 r.0.fits) h.long
  publish_bounded (Amid after i a s l es d) xs keeps is r h =
      let later = staged_more most i a after s l h.0 es h.2 in
      let here_now = staged_now most i a after s l h.0 es h.2 in
      (h.0, published_bounded most once s l d xs is.0 here_now.0 h.0 (texts_of after) later.0 later.1 here_now.1 h.1.long, h.2)
  publish_bounded (Halted s next d) xs keeps is r h = absurd keeps

  -- a state that has the same texts
  same_texts : (s stopped : State) (next : Store) (d : Disk) (texts : List (List ℕ)) → texts_of stopped ≡ texts_of s → Bounded most next d texts (texts_of s) → Bounded most next d texts (texts_of stopped)
  same_texts s stopped next d texts e b = subst (Bounded most next d texts) (sym e) b

  of_session : (s : Store) (i : ℕ) → MayAct s i act.Commit → IsSession i
  of_session s i (inl x) = x.goes_on.of_session
  of_session s i (inr x) = x.goes_on.of_session

  bounded_move : (v w : World) → Happens v w → IsGoodWorld v → IsGoodWorld w → IsAmpleWorld opening v → IsAmpleWorld opening w → IsBounded v → IsBounded w
  bounded_move v w (begins s disk i a said after may d f) was is r q h =
      let staged : AreStaged most i a after s.store s.log (texts_of s) d.effects = subst (λ (x : Opening). AreStaged x.data_limit i a after s.store s.log (texts_of s) d.effects) r.1 (are_staged s i a said after (may_of s i a d.runs may.1) d r.0 q.0) in
      let more = staged_more most i a after s.store s.log (texts_of s) d.effects staged in
      (texts_of s, more_bounded most s.store disk (texts_of s) (texts_of s) (texts_of after) more.0 more.1 h, staged)
  bounded_move v w (acts after i a s l e es disk) was is r q h =
      let t : Store = does the_views s i e in
      let later : List (List ℕ) = texts_with a e h.0 in
      let fits = staged_now most i a after t (logs s i a e l) later es h.2.1 in (
        later,
        with_bounded most s t disk h.0 later (texts_of after) (record_of s i a l e) l.next h.1 (texts_said s i a l e h.0) (texts_long s i a e h.0 h.1.long)
            (all_left most once t (logs s i a e l) (with_record (record_of s i a l e) l.next disk) is.0 fits.0 later fits.1),
        h.2.1,
      )
  bounded_move v w (ends after i a s l disk done) was is r q h =
      subst (λ (x : Store × List (List ℕ)). Bounded most x.0 disk x.1 (texts_of after)) (λ y. (sym was.3 y, sym h.2.1 y)) h.1
  bounded_move v w (flushes u writes) was is r q h = flush_bounded u writes h
  bounded_move v w (acknowledges u none writes) was is r q h = acknowledge_bounded u _ h
  bounded_move v w (publishes u xs keeps fall) was is r q h = publish_bounded u xs keeps is r h
  bounded_move v w (fails_commit s disk i stopped may d) was is r q h =
      let t : Store = does the_views s.store i Commits in
      let o : Option Record = record_of s.store i act.Commit s.log Commits in
      let m : Log = logs s.store i act.Commit Commits s.log in
      let ample : Ample s.opening.data_limit (texts_of s) t m = commits_it s.opening.data_limit (texts_of s) s.store s.log i act.Commit (of_session s.store i (may_of s i act.Commit d.runs may.1)) r.0
      (ap (λ (db : Database). db.schema) (committed_after the_views fresh view_laws s.store i)) in (
        texts_of s,
        same_texts s stopped t (with_record o s.log.next disk) (texts_of s) (ap texts_of d.left)
            (with_bounded most s.store t disk (texts_of s) (texts_of s) (texts_of s) o s.log.next h (texts_said s.store i act.Commit s.log Commits (texts_of s)) (texts_long s.store i act.Commit Commits (texts_of s) h.long)
            (all_left most once t is.0 (with_record o s.log.next disk) is.1 m (texts_of s) (subst (λ (x : Opening). Within x.data_limit (data_bytes t m (texts_of s))) r.1 ample.fits))),
      )
  bounded_move v w (fails_define s disk i statement stopped may d e same) was is r q h =
      let a : Act = act.Schema statement in
      let o : Object = d.says.3.object in
      let text : List ℕ = statement_text statement in
      let later : List (List ℕ) = texts_of s ++ text ∷ [] in
      let t : Store = does the_views s.store i (Defines o) in
      let m : Log = logs s.store i a (Defines o) s.log in
      let x : Option Record = record_of s.store i a s.log (Defines o) in
      let good : IsGoodWorld (Halted stopped t (with_record x s.log.next disk)) =
      subst (λ (f : Effect). IsGoodWorld (Halted stopped (does the_views s.store i f) (with_record (record_of s.store i a s.log f) s.log.next disk))) same is in
      let ample : Ample s.opening.data_limit later t m = defines_it s.opening.data_limit (texts_of s) s.store s.log i a r.0 was.sound.good was.sound.shape o
      (may_define s.store statement o was.sound.good d.says.3.makes d.says.3.none_open d.says.3.accepted.0 d.says.3.accepted.1 d.says.3.accepted.2)
      later (definition_entries text) (let more = sum_append definition_entries (texts_of s) (text ∷ []) in omega (arith, more)) d.says.3.data_room in
      subst (λ (f : Effect). IsBounded (Halted stopped (does the_views s.store i f) (with_record (record_of s.store i a s.log f) s.log.next disk))) (sym same) (
        later,
        same_texts s stopped t (with_record x s.log.next disk) later (ap texts_of d.left)
            (with_bounded most s.store t disk (texts_of s) later (texts_of s) x s.log.next h (texts_said s.store i a s.log (Defines o) (texts_of s)) (texts_long s.store i a (Defines o) (texts_of s) h.long)
            (all_left most once t good.0 (with_record x s.log.next disk) good.1 m later (subst (λ (y : Opening). Within y.data_limit (data_bytes t m later)) r.1 ample.fits))),
      )
  bounded_move v w (fails_before s disk i stopped may d) was is r q h = (texts_of s, same_texts s stopped s.store disk (texts_of s) (ap texts_of d.left) h)
  bounded_move v w (fails_after s disk i stopped may d xs are fall) was is r q h = (
    texts_of s,
    same_texts s stopped s.store (published (pages_now s.store) xs disk) (texts_of s) (ap texts_of d.left)
        (published_bounded most once s.store is.0 disk xs is.1 s.log (texts_of s) (texts_of s) [] (sym (append-nil (texts_of s))) (subst (λ (x : Opening). Within x.data_limit (data_bytes s.store s.log (texts_of s))) r.1 r.0.fits) h.long),
  )
  bounded_move v w (told s disk i said after t) was is r q h = subst (λ (x : State). Bounded most x.store disk (texts_of x) (texts_of x)) (sym t.left) h
  bounded_move v w (told_halted s next disk i said after t) was is r q h = (h.0, same_texts s after next disk h.0 (ap texts_of t.left) h.1)

  -- in an opening of this kind
  record Follows (w : World) : Type 0 where
    good : IsGoodWorld w
    ample : IsAmpleWorld opening w
    bounded : IsBounded w

  follows_run : (u w : World) → Run u w → Follows u → Follows w
  follows_run u w (here x) f = f
  follows_run u w (then_move a v b r move) f =
      let before : Follows v = follows_run u v r f in
      let good : IsGoodWorld w = good_run printed u w (then_move a v b r move) f.good in
      let ample : IsAmpleWorld opening w = ample_move opening v w move before.good before.ample in
      record { good = good; ample = ample; bounded = bounded_move v w move before.good good before.ample ample before.bounded }

  follows_opened : (p : Pages) → IsOpened p.db p.view → OpensWithin opening p → length opening.definitions ≡ length p.db.schema → Follows (opened_world opening p)
  follows_opened p was within long =
      let good : IsGoodWorld (opened_world opening p) = good_opened printed opening p was in
      let w : World = opened_world opening p in
      let texts : List (List ℕ) = opening.definitions ++ [] in
      let long_now : length texts ≡ length p.db.schema = ap length (append-nil opening.definitions) ∙ long in
      record {
        good = good;
        ample = opened_world_ample p opening within;
        bounded = record {
          on_pages = opening.definitions;
          as_many = long;
          first = ([], refl);
          said = refl;
          long = long_now;
          cuts = cuts_now good;
        };
      }
    where
      cuts_now : IsGoodWorld (opened_world opening p) → AreWithin most opening.definitions (opened_disk p)
      cuts_now good zero r read = all_left most once (opened p.db p.view) (opened_log opening.next) (opened_disk p) good (opened_log opening.next) (opening.definitions ++ []) within r read
      cuts_now good (suc k) r read = all_left most once (opened p.db p.view) (opened_log opening.next) (opened_disk p) good (opened_log opening.next) (opening.definitions ++ []) within r read

  bounded_at : (w : World) → IsBounded w → (texts : List (List ℕ)) × Bounded most (store_of w) (disk_of w) texts (texts_of (state_of w))
  bounded_at (At s d) h = (texts_of s, h)
  bounded_at (Amid after i a s l es d) h = (h.0, h.1)
  bounded_at (Halted s next d) h = h

-- ---- images

take_front : {X : Type 0} (xs ys : List X) → take (length xs) (xs ++ ys) ≡ xs
take_front [] ys = refl
take_front (x ∷ xs) ys = ap (λ l. x ∷ l) (take_front xs ys)

abbrev first_of : Option Numbered → List (Option Numbered) → Option Numbered
first_of o [] = o
first_of o (x ∷ xs) = x

abbrev others_of : List (Option Numbered) → List (Option Numbered)
others_of [] = []
others_of (x ∷ xs) = xs

placed_texts : (rs : List Placed) (ns : List Numbered) → map (λ (r : Placed). r.entry) rs ≡ map Some ns → texts_in rs ≡ said_texts ns
placed_texts [] [] e = refl
placed_texts [] (n ∷ ns) e = absurd (cc)
placed_texts (r ∷ rs) [] e = absurd (cc)
placed_texts (r ∷ rs) (n ∷ ns) e =
    let rest : texts_in rs ≡ said_texts ns = placed_texts rs ns (ap others_of e) in
    let one : r.entry ≡ Some n = ap (first_of None) e in
    λ i. rest i ++ text_at (one i)

pub within_always : PrintsAgain → ReadingLaw → WithinAlwaysLaw
within_always printed once p was opening opens long w run k i placed few many limits pages =
    let f : Follows printed once opening w = follows_run printed once opening (opened_world opening p) w run (follows_opened printed once opening p was opens long) in
    let b = (bounded_at printed once opening w f.bounded).1 in
    let right : IsRight (store_of w) (left_by w k) (disk_of w).acknowledged = crash printed p was opening w run k in
    let r : Reading = right.reading in
    let rest : List Numbered = drop k (disk_of w).waiting ++ (disk_of w).flushed in
    let cut : Within opening.data_limit (left_bytes r + texts_bytes (b.on_pages ++ said_texts rest)) = b.cuts k r right.is_read in
    let on : texts_on i.pages (state_of w) ≡ b.on_pages =
    ap (λ (x : Pages). take (length x.db.schema) (texts_of (state_of w))) placed.pages
    ∙ (ap (λ n. take n (texts_of (state_of w))) (sym b.as_many) ∙ (ap (take (length b.on_pages)) b.first.1 ∙ take_front b.on_pages b.first.0)) in
    let first : sum (map parts_entries i.texts) ≡ texts_bytes b.on_pages = pages ∙ ap texts_bytes on in
    let last : sum (map definition_entries (texts_in i.after)) ≡ texts_bytes (said_texts rest) = ap texts_bytes (placed_texts i.after rest placed.after) in
    let both = sum_append definition_entries b.on_pages (said_texts rest) in
    let within : Within i.data_limit (left_bytes r + texts_bytes (b.on_pages ++ said_texts rest)) = subst (λ (x : Option ℕ). Within x (left_bytes r + texts_bytes (b.on_pages ++ said_texts rest))) (sym limits) cut in
    right_fine (store_of w) (left_by w k) (disk_of w).acknowledged right i placed
    (within_less i.data_limit (left_bytes r + texts_bytes (b.on_pages ++ said_texts rest)) (data_left i (recovered r)) within (omega (arith, first, last, both))) few many
