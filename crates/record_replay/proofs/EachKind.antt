-- The further records but Writes and Deltas: when each passes, and what stands then.
use Rattle.std.proofs.Common.{◌≡◌, ℕ, suc, ◌+◌, ◌<◌, ◌≤◌, Bool, true, false, cond, List, ◌∷◌, ◌++◌, length, Option, Some, None, refl, sym, ap, subst, ◌∙◌, arith, eq-eqb, inl, inr}
use Rattle.std.specs.Prelude.{◌&&◌, ◌==◌, not, ℤ, IfSome, is_none}
use Rattle.std.specs.FinMap.{get}
use Rattle.std.proofs.lemmas.Bool.{false≢true, ne_eqb, and_right}
use Rattle.table_laws.specs.Place.{Place}
use Rattle.table_laws.specs.Table.{write}
use Rattle.iv_types.specs.Maps.{Map}
use Rattle.iv_meaning.specs.Schema.{Schema, Object}
use Rattle.txn_machine.specs.Records as log
use Rattle.iv_meaning.specs.Database.{Rows}
use Rattle.txn_machine.specs.Stored.{ViewRows, zeros}
use Rattle.txn_log.specs.Replay.{What, Deed, Ghost, Clean, Undo, Commit, Abort, Defined, Stored, survives, spares, find, undo_found, keep_where, own}
use Rattle.txn_log.specs.Fitting.{InRange, BackFits, Stands, IsKnown, IsGroup, CarriedBelow}
use Rattle.txn_log.specs.Appended.{Numbered}
use Rattle.txn_log.specs.Refused.{Placed, Anyhow, BackAnyhow, Untried, most_number, place_by, fails_at, Passes, BreaksBy}
use Rattle.txn_log.specs.Reversals.{BreaksBack}
use Rattle.txn_log.proofs.Finding.{by_number}
use Rattle.log_records.specs.declared.record.Record.TheVariants as bytes
use Rattle.data_store.specs.declared.store.DataStore.{DataStore}
use Rattle.group_replay.specs.Closed.{IsClosed, with_view, HasZeros}
use Rattle.record_reading.specs.Groups.{IsGroupOf}
use Rattle.image_finding.specs.declared.fault.BadImage.{BadImage}
use Rattle.live_records.specs.declared.kept.LiveRecords.{LiveRecords}
use Rattle.live_records.specs.declared.record.LiveRecord.{LiveRecord}
use Rattle.live_records.specs.Live.{what_of, deed_of, has_ended, SetsOne, IsLatest, KeepsNothing, HasEndedNow}
use Rattle.record_replay.specs.declared.answer.Head.{Head}
use Rattle.record_replay.specs.declared.answer.Replayed.{Replayed}
use Rattle.record_replay.specs.declared.answer.Replayed.TheVariants.{Passed, Broken}
use Rattle.record_replay.specs.declared.replay.Replay.{Replay}
use Rattle.record_replay.specs.Past.{Past, left_by, pages_in, with_defined, Comes}
use Rattle.record_replay.specs.Standing.{Has, Keeps, AreLive, HasReplayed}
use Rattle.record_replay.specs.Telling.{TellsBack, DefinesOne, Defines, Tells}
use Rattle.record_replay.proofs.Lists.{found_below, below_weaker, same_latest, keep_below, keep_fall, keep_each, each_found}
use Rattle.record_replay.proofs.Live.{is_found, keeps_still, keeps_without, keeps_ended, latest_is, none_own}
use Rattle.record_replay.proofs.Passing.{refused, accepted, is_this}
use Rattle.record_replay.proofs.Saying.{says_ghost, says_clean, says_undo, says_commit, says_abort, says_defined}
use Rattle.record_replay.proofs.Sound.{stored_with, zeros_length, all_known}
use Rattle.record_replay.proofs.Standing.{live_later, same_ended, has_view, has_number, one_more, below_it, lives, has_gone}
use Rattle.record_replay.proofs.Texts.{told_in}

-- a group that was read
pub a_group : (objects : Schema) (place : Place) (found : Option ℕ) → is_none found ≡ false → IfSome found (IsGroupOf objects place) → IsGroup objects place
a_group objects place None e some = absurd (false≢true (sym e))
a_group objects place (Some sums) e some = some.0

live_where : (f : ℕ → ℕ → Bool) (objects : Schema) (next k : ℕ) (xs : List Deed) → next ≤ k → AreLive objects next xs → AreLive objects (k + 1) (keep_where f xs)
live_where f objects next k xs up h = record {
  known = keep_each (IsKnown objects) f xs h.known;
  fall = keep_fall f xs h.fall;
  below = keep_below f (k + 1) xs (below_weaker next (k + 1) xs (omega (arith, up)) h.below);
}

undo_schema : (s : Stored) (o : Option Deed) → (undo_found s o).db.schema ≡ s.db.schema
undo_schema s None = refl
undo_schema s (Some d) = refl

undo_number : (s : Stored) (o : Option Deed) → (undo_found s o).db.number ≡ s.db.number
undo_number s None = refl
undo_number s (Some d) = refl

module _ {M : Type 0} (maps : M → ℕ → Map) (limit : M → Option ℕ) (old : Replay M) (x : Past) (is : HasReplayed maps limit old x) where
  abbrev s : Stored
  s = left_by x

  abbrev Breaks : ℕ → ℕ → Placed → Type 0
  Breaks rule place r = BreaksBy x.pages x.first x.carried rule place x.after x.events r

  -- the latest record that a transaction keeps is of a table or a view that is there
  pub latest_known : (t : ℕ) (q : LiveRecord) → IsLatest old.live t q → IsKnown s.db.schema (what_of q.change)
  latest_known t q latest =
      each_found (IsKnown s.db.schema) t q.number s.live (deed_of q) is.live.known (is_found old.live (x.after ++ x.first) s.live is.kept t q.number q latest.kept)

  module _ (head : Head) (up : old.next ≤ head.number) (small : head.number ≤ most_number) (r : Placed) where
    below_head : CarriedBelow head.number s.live
    below_head = below_weaker old.next head.number s.live up is.live.below

    live_still : AreLive s.db.schema (head.number + 1) s.live
    live_still = live_later s.db.schema old.next (head.number + 1) s.live (omega (arith, up)) is.live

    -- the records of transactions change what survives alone
    still_ended : (new : Replay M) → new.live ≡ old.live → (t n : ℕ) → head.number + 1 ≤ n → survives x.events t n ≡ not (has_ended new.live t)
    still_ended new same t n l = is.ended t n (omega (arith, l, up)) ∙ ap (λ (live : LiveRecords). not (has_ended live t)) (sym same)

    module _ (number : Numbered) (entry : r.entry ≡ Some number) (at : number.number ≡ head.number) where
      still_kept : (new : Replay M) → new.live ≡ old.live → Keeps new.live (r ∷ (x.after ++ x.first)) s.live
      still_kept new same = subst (λ (live : LiveRecords). Keeps live (r ∷ (x.after ++ x.first)) s.live) (sym same)
          (keeps_still (x.after ++ x.first) r number entry old.live s.live is.kept (subst (λ n. CarriedBelow n s.live) (sym at) below_head))

    -- ---- Ghosts

    module _ (v : ℕ) (group : List ℕ) where
      module _ (comes : Comes s.db.schema head (bytes.Ghost v group) r) where
        pub ghost_unread : (IsGroup s.db.schema (v, group) → ⊥) → Breaks 13 head.place r
        ghost_unread none = refused x head (bytes.Ghost v group) r comes (λ m e number fields says stands below few.
            let ghost = says_ghost s.db.schema m v group e says fields in
            none (subst (λ f. Stands Anyhow Untried s x.events f) ghost.1 stands).0)

        pub ghost_there : (get s.view (v, group) ≡ None → ⊥) → Breaks 13 head.place r
        ghost_there none = refused x head (bytes.Ghost v group) r comes (λ m e number fields says stands below few.
            let ghost = says_ghost s.db.schema m v group e says fields in
            none (subst (λ f. Stands Anyhow Untried s x.events f) ghost.1 stands).1)

        pub ghost_passes : (sums : ℕ) → IsGroupOf s.db.schema (v, group) sums → get s.view (v, group) ≡ None → Passes x.pages x.first x.carried InRange BackFits x.events r (Ghost head.number (v, group) (suc sums))
        ghost_passes sums g none = accepted x head (bytes.Ghost v group) r comes (log.Ghost (v, group)) (Ghost head.number (v, group) (suc sums)) tt refl
            (refl, g.0.of, g.0.view_is, ap suc g.1) (g.0, none) (below_it maps limit old x is head.number up) small

        pub ghost_more : (new : Replay M) (sums : ℕ) → IsGroupOf s.db.schema (v, group) sums → get s.view (v, group) ≡ None
            → IsClosed new.store.catalog (maps new.store.tables) new.store.views (with_view (told_in maps old.store (pages_in s)) (write s.view (v, group) (Some (zeros (suc sums)))))
            → new.store.catalog ≡ old.store.catalog → limit new.store.tables ≡ limit old.store.tables → new.live ≡ old.live → new.next ≡ head.number + 1 → new.commits ≡ old.commits → Tells maps limit new x r Passed
        ghost_more new sums g none closed same unlimited live next commits =
            one_more maps limit old x is new r (Ghost head.number (v, group) (suc sums)) head.number (ghost_passes sums g none) refl up small
            (has_view maps limit old.store new.store (pages_in s) (write s.view (v, group) (Some (zeros (suc sums)))) is.store same unlimited closed
            (stored_with s.db.schema s.view (v, group) (Some (zeros (suc sums))) is.store.stored g.0 (λ ns e. ap length (sym (some_numbers (zeros (suc sums)) ns e)) ∙ (zeros_length (suc sums) ∙ ap suc g.1))))
            (still_kept (record { number = head.number; of = log.Ghost (v, group) }) (is_this s.db.schema head (bytes.Ghost v group) r comes (log.Ghost (v, group)) tt refl) refl new live)
            live_still (commits ∙ is.commits) next (still_ended new live)
          where
            some_numbers : (a b : List ℤ) → Some a ≡ Some b → a ≡ b
            some_numbers a b e = cc

      -- ---- Cleans

      module _ (comes : Comes s.db.schema head (bytes.Clean v group) r) where
        pub clean_unread : (IsGroup s.db.schema (v, group) → ⊥) → Breaks 13 head.place r
        clean_unread none = refused x head (bytes.Clean v group) r comes (λ m e number fields says stands below few.
            none (subst (λ f. Stands Anyhow Untried s x.events f) (says_clean s.db.schema m v group e says fields) stands).0)

        pub clean_not_zeros : (HasZeros s.view (v, group) → ⊥) → Breaks 13 head.place r
        clean_not_zeros none = refused x head (bytes.Clean v group) r comes (λ m e number fields says stands below few.
            let clean = subst (λ f. Stands Anyhow Untried s x.events f) (says_clean s.db.schema m v group e says fields) stands in
            none (clean.1, clean.2))

        pub clean_passes : IsGroup s.db.schema (v, group) → HasZeros s.view (v, group) → Passes x.pages x.first x.carried InRange BackFits x.events r (Clean head.number (v, group))
        clean_passes g zeros_there = accepted x head (bytes.Clean v group) r comes (log.Clean (v, group)) (Clean head.number (v, group)) tt refl
            refl (g, zeros_there.0, zeros_there.1) (below_it maps limit old x is head.number up) small

        pub clean_more : (new : Replay M) → IsGroup s.db.schema (v, group) → HasZeros s.view (v, group)
            → IsClosed new.store.catalog (maps new.store.tables) new.store.views (with_view (told_in maps old.store (pages_in s)) (write s.view (v, group) None))
            → new.store.catalog ≡ old.store.catalog → limit new.store.tables ≡ limit old.store.tables → new.live ≡ old.live → new.next ≡ head.number + 1 → new.commits ≡ old.commits → Tells maps limit new x r Passed
        clean_more new g zeros_there closed same unlimited live next commits =
            one_more maps limit old x is new r (Clean head.number (v, group)) head.number (clean_passes g zeros_there) refl up small
            (has_view maps limit old.store new.store (pages_in s) (write s.view (v, group) None) is.store same unlimited closed
            (stored_with s.db.schema s.view (v, group) None is.store.stored g (λ ns e. absurd (cc e))))
            (still_kept (record { number = head.number; of = log.Clean (v, group) }) (is_this s.db.schema head (bytes.Clean v group) r comes (log.Clean (v, group)) tt refl) refl new live)
            live_still (commits ∙ is.commits) next (still_ended new live)

    -- ---- Undos

    module _ (t l : ℕ) (comes : Comes s.db.schema head (bytes.Undo t l) r) where
      pub undo_none : KeepsNothing old.live t → Breaks 13 head.place r
      undo_none none = refused x head (bytes.Undo t l) r comes (λ m e number fields says stands below few.
          let u = subst (λ f. Stands Anyhow Untried s x.events f) (says_undo s.db.schema m t l e says fields) stands in
          none_own old.live (x.after ++ x.first) s.live is.kept is.live.fall t none u.latest u.earlier u.is_latest)

      module _ (q : LiveRecord) (latest : IsLatest old.live t q) where
        its_own : (earlier : List Deed) × (own t s.live ≡ deed_of q ∷ earlier)
        its_own = latest_is old.live (x.after ++ x.first) s.live is.kept is.live.fall t q latest

        found : find t q.number s.live ≡ Some (deed_of q)
        found = is_found old.live (x.after ++ x.first) s.live is.kept t q.number q latest.kept

        pub undo_other : (q.number ≡ l → ⊥) → Breaks 13 head.place r
        undo_other differs = refused x head (bytes.Undo t l) r comes (λ m e number fields says stands below few.
            let u = subst (λ f. Stands Anyhow Untried s x.events f) (says_undo s.db.schema m t l e says fields) stands in
            differs (ap (λ (d : Deed). d.number) (same_latest t s.live (deed_of q) u.latest its_own.0 u.earlier its_own.1 u.is_latest) ∙ u.number))

        module _ (named : q.number ≡ l) where
          undo_passes : (Range : ViewRows → Place → Type 0) (Back : Rows → ViewRows → What → Type 0) → Back s.db.rows s.view (what_of q.change) → Passes x.pages x.first x.carried Range Back x.events r (Undo head.number t l)
          undo_passes Range Back back = (
            record { number = head.number; of = log.Undo t l },
            is_this s.db.schema head (bytes.Undo t l) r comes (log.Undo t l) tt refl,
            refl,
            record { latest = deed_of q; earlier = its_own.0; is_latest = its_own.1; number = named; back = back },
            below_it maps limit old x is head.number up,
            small,
          )

          its_place : (place : ℕ) → place ≡ q.place → place ≡ fails_at (x.after ++ x.first) r (Undo head.number t l)
          its_place place e = e ∙ (is.kept.places t q.number q latest.kept ∙ ap (λ n. place_by n (x.after ++ x.first)) named)

          -- it names the latest one, which can't be taken back
          pub undo_breaks : (new : DataStore M) (bad : BadImage) → TellsBack maps limit new q s (Broken bad) → Breaks bad.rule bad.place r
          undo_breaks new bad told = by told.1
            where
              by : BreaksBack bad.rule s.db.rows s.view (what_of q.change) → Breaks bad.rule bad.place r
              by (inl b) = inr (inl (
                b.0,
                Undo head.number t l,
                its_place bad.place told.0,
                undo_passes Anyhow Untried tt,
                λ p. b.1 (subst (λ (d : Deed). BackAnyhow s.db.rows s.view d.what) (same_latest t s.live p.3.latest (deed_of q) p.3.earlier its_own.0 p.3.is_latest its_own.1) p.3.back),
              ))
              by (inr b) = inr (inr (
                b.0,
                Undo head.number t l,
                its_place bad.place told.0,
                undo_passes Anyhow BackAnyhow b.1,
                λ p. b.2 (subst (λ (d : Deed). BackFits s.db.rows s.view d.what) (same_latest t s.live p.3.latest (deed_of q) p.3.earlier its_own.0 p.3.is_latest its_own.1) p.3.back),
              ))

          -- it is told at the place of the latest one
          pub undo_told : (new : Replay M) (answer : Replayed) → (answer ≡ Passed → ⊥) → TellsBack maps limit new.store q s answer → Tells maps limit new x r answer
          undo_told new Passed none told = absurd (none refl)
          undo_told new (Broken bad) none told = undo_breaks new.store bad told

          pub undo_more : (new : Replay M) → TellsBack maps limit new.store q s Passed → SetsOne old.live t q.number None new.live → new.live.ended ≡ old.live.ended
              → new.next ≡ head.number + 1 → new.commits ≡ old.commits → Tells maps limit new x r Passed
          undo_more new told sets ended next commits =
              let here : find t l s.live ≡ Some (deed_of q) = subst (λ n. find t n s.live ≡ Some (deed_of q)) named found in
              one_more maps limit old x is new r (Undo head.number t l) head.number (undo_passes InRange BackFits told.0) refl up small
              (subst (λ (o : Option Deed). Has maps limit new.store (pages_in (undo_found s o))) (sym here) told.1)
              (keeps_without (x.after ++ x.first) r (record { number = head.number; of = log.Undo t l }) (is_this s.db.schema head (bytes.Undo t l) r comes (log.Undo t l) tt refl) old.live new.live s.live head.number t l is.kept below_head
              (subst (λ n. SetsOne old.live t n None new.live) named sets))
              (subst (λ objects. AreLive objects (head.number + 1) (keep_where (spares (Undo head.number t l)) s.live)) (sym (undo_schema s (find t l s.live))) (live_where (spares (Undo head.number t l)) s.db.schema old.next head.number s.live up is.live))
              (commits ∙ (is.commits ∙ sym (undo_number s (find t l s.live)))) next
              (λ u n least.
              let less : l < old.next = found_below old.next t l s.live (deed_of q) is.live.below here in
              let apart : ((t == u) && (l == n)) ≡ false = and_right (t == u) (l == n) (ne_eqb l n (λ e. absurd (omega (arith, less, least, up, e)))) in
              ap (λ b. not b && survives x.events u n) apart ∙ (is.ended u n (omega (arith, least, up)) ∙ ap not (sym (same_ended old.live new.live ended u))))

    -- ---- Commits and Aborts

    module _ (t : ℕ) where
      -- its transaction has ended
      ended_now : (new : LiveRecords) → HasEndedNow old.live t new → (u n : ℕ) → head.number + 1 ≤ n → (not (t == u) && survives x.events u n) ≡ not (has_ended new u)
      ended_now new ends u n least = by_number t u
          (λ e. ap (λ b. not b && survives x.events u n) (eq-eqb t u e) ∙ sym (ap not (ends.ended u ∙ ap (λ b. cond b true (has_ended old.live u)) (eq-eqb u t (sym e)))))
          (λ d. ap (λ b. not b && survives x.events u n) (ne_eqb t u d)
          ∙ (is.ended u n (omega (arith, least, up)) ∙ sym (ap not (ends.ended u ∙ ap (λ b. cond b true (has_ended old.live u)) (ne_eqb u t (λ e. d (sym e)))))))

      module _ (k session : ℕ) (comes : Comes s.db.schema head (bytes.Commit t k session) r) where
        pub commit_gone : has_ended old.live t ≡ true → Breaks 13 head.place r
        commit_gone gone = refused x head (bytes.Commit t k session) r comes (λ m e number fields says stands below few.
            let commit = subst (λ f. Stands Anyhow Untried s x.events f) (says_commit s.db.schema m t k session e says fields) stands in
            has_gone maps limit old x is t m.number (subst (λ n. old.next ≤ n) (sym number) up) gone commit.0)

        pub commit_other : (k ≡ old.commits + 1 → ⊥) → Breaks 13 head.place r
        commit_other differs = refused x head (bytes.Commit t k session) r comes (λ m e number fields says stands below few.
            let commit = subst (λ f. Stands Anyhow Untried s x.events f) (says_commit s.db.schema m t k session e says fields) stands in
            differs (commit.1 ∙ ap (λ n. n + 1) (sym is.commits)))

        pub commit_more : (new : Replay M) → has_ended old.live t ≡ false → k ≡ old.commits + 1 → new.store ≡ old.store → HasEndedNow old.live t new.live
            → new.next ≡ head.number + 1 → new.commits ≡ k → Tells maps limit new x r Passed
        commit_more new open_still next_commit same ends next commits =
            one_more maps limit old x is new r (Commit head.number t k) head.number
            (accepted x head (bytes.Commit t k session) r comes (log.Commit t k session) (Commit head.number t k) tt refl (session, refl)
            (lives maps limit old x is t head.number up open_still, next_commit ∙ ap (λ n. n + 1) is.commits) (below_it maps limit old x is head.number up) small)
            refl up small
            (subst (λ (store : DataStore M). Has maps limit store (record { db = record s.db { number = k }; view = s.view })) (sym same) (has_number maps limit old.store (pages_in s) k is.store))
            (keeps_ended (x.after ++ x.first) r (record { number = head.number; of = log.Commit t k session }) (is_this s.db.schema head (bytes.Commit t k session) r comes (log.Commit t k session) tt refl)
            (spares (Commit head.number t k)) old.live new.live s.live t (λ u n. refl) is.kept below_head ends)
            (live_where (spares (Commit head.number t k)) s.db.schema old.next head.number s.live up is.live)
            commits next (ended_now new.live ends)

      module _ (comes : Comes s.db.schema head (bytes.Abort t) r) where
        pub abort_gone : has_ended old.live t ≡ true → Breaks 13 head.place r
        abort_gone gone = refused x head (bytes.Abort t) r comes (λ m e number fields says stands below few.
            let abort = subst (λ f. Stands Anyhow Untried s x.events f) (says_abort s.db.schema m t e says fields) stands in
            has_gone maps limit old x is t m.number (subst (λ n. old.next ≤ n) (sym number) up) gone abort)

        pub abort_more : (new : Replay M) → has_ended old.live t ≡ false → new.store ≡ old.store → HasEndedNow old.live t new.live
            → new.next ≡ head.number + 1 → new.commits ≡ old.commits → Tells maps limit new x r Passed
        abort_more new open_still same ends next commits =
            one_more maps limit old x is new r (Abort head.number t) head.number
            (accepted x head (bytes.Abort t) r comes (log.Abort t) (Abort head.number t) tt refl refl
            (lives maps limit old x is t head.number up open_still) (below_it maps limit old x is head.number up) small)
            refl up small
            (subst (λ (store : DataStore M). Has maps limit store (pages_in s)) (sym same) is.store)
            (keeps_ended (x.after ++ x.first) r (record { number = head.number; of = log.Abort t }) (is_this s.db.schema head (bytes.Abort t) r comes (log.Abort t) tt refl)
            (spares (Abort head.number t)) old.live new.live s.live t (λ u n. refl) is.kept below_head ends)
            (live_where (spares (Abort head.number t)) s.db.schema old.next head.number s.live up is.live)
            (commits ∙ is.commits) next (ended_now new.live ends)

    -- ---- definitions

    module _ (k session : ℕ) (text : List ℕ) (comes : Comes s.db.schema head (bytes.Schema k session text) r) where
      pub define_other : (k ≡ old.commits + 1 → ⊥) → Breaks 13 head.place r
      define_other differs = refused x head (bytes.Schema k session text) r comes (λ m e number fields says stands below few.
          let defined = says_defined s.db.schema m k session text e says fields in
          differs ((subst (λ f. Stands Anyhow Untried s x.events f) defined.1 stands).0 ∙ ap (λ n. n + 1) (sym is.commits)))

      pub define_none : (new : DataStore M) → Defines maps limit new (pages_in s) text false → Breaks 13 head.place r
      define_none new none = refused x head (bytes.Schema k session text) r comes (λ m e number fields says stands below few.
          let defined = says_defined s.db.schema m k session text e says fields in
          none defined.0 defined.2 (subst (λ f. Stands Anyhow Untried s x.events f) defined.1 stands).1)

      pub define_more : (new : Replay M) → k ≡ old.commits + 1 → DefinesOne maps limit new.store (pages_in s) text → new.live ≡ old.live → new.next ≡ head.number + 1 → new.commits ≡ k → Tells maps limit new x r Passed
      define_more new next_commit one live next commits =
          let o : Object = one.object in
          one_more maps limit old x is new r (Defined head.number k o) head.number
          (accepted x head (bytes.Schema k session text) r comes (log.Definition k session text) (Defined head.number k o) tt refl (session, text, refl, one.creates)
          (next_commit ∙ ap (λ n. n + 1) is.commits, one.accepted) (below_it maps limit old x is head.number up) small)
          refl up small
          (has_number maps limit new.store (with_defined o (pages_in s)) k one.has)
          (still_kept (record { number = head.number; of = log.Definition k session text }) (is_this s.db.schema head (bytes.Schema k session text) r comes (log.Definition k session text) tt refl) refl new live)
          (record {
            known = all_known s.db.schema s.db.rows o is.store.sound s.live is.live.known;
            fall = is.live.fall;
            below = below_weaker old.next (head.number + 1) s.live (omega (arith, up)) is.live.below;
          })
          commits next (still_ended new live)
