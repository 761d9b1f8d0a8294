-- Sessions that are tried again, lines, and whole scripts.
use Rattle.std.specs.Prelude.{◌≡◌, ℕ, zero, suc, ◌+◌, Bool, false, IsTrue, List, [], ◌∷◌, ◌++◌, Option, Some, None}
use mathlib.Core.Path.{refl, sym, ap, subst, ◌∙◌}
use mathlib.Core.Logic.{inl}
use Rattle.std.proofs.lemmas.List.{append_assoc}
use Rattle.iv_meaning.specs.Database.{Database}
use Rattle.iv_meaning.specs.Said.{Said}
use Rattle.iv_meaning.specs.Serial.{World, Unfinished, none, waits, loaded, opened_with, LaterPieces, Answers, IsEnd, WasAlone, IsSerialFrom}
use Rattle.iv_types.specs.declared.refusal.Refusal.{Refusal}
use Rattle.iv_types.specs.declared.refusal.EngineRefusal.{EngineRefusal}
use Rattle.txn_machine.specs.Acts.{Act}
use Rattle.txn_machine.specs.Answers.{Answer}
use Rattle.script_law.specs.Seen.{Txn, Visible, StepLaws}
use Rattle.script_law.specs.Programs.{Todo, outside_with, Programs, ProgramLaws}
use Rattle.script_law.specs.RunLines.{Line, idle, waiting, stepping, held, Table, set_seat, new_table, Outcome, ended, stuck, stepped, printed_later, seat_run, Tries, Pass, Passes, RunsLine, RunsLines, all_sessions}
use Rattle.script_law.specs.Laws.{IsNew, AreEngines, TranscriptLaw}
use Rattle.script_law.proofs.Growing.{same_grows}
use Rattle.script_law.proofs.Agreeing.{SeatAgrees, Within, seat_within, was_alone, others_of, Agrees, objects_in, close}
use Rattle.script_law.proofs.Going.{OnOutcome, runs_on}
use Rattle.script_law.proofs.Owning.{own, never_stepped}

later_append : (ps qs : List (ℕ × List ℕ)) (w mid after : World) (piece more : List ℕ) → LaterPieces ps w piece mid → LaterPieces qs mid more after → LaterPieces (ps ++ qs) w (piece ++ more) after
later_append [] qs w mid after piece more h k = subst (λ x. x) (λ j. LaterPieces qs (h.1 j) (sym h.0 j ++ more) after) k
later_append (p ∷ ps) qs w mid after piece more h k = (
  h.0,
  h.1 ++ more,
  h.2,
  ap (λ l. l ++ more) h.3 ∙ append_assoc p.1 h.1 more,
  later_append ps qs h.0 mid after h.1 more h.4 k,
)

module _ {S : Type 0} (view : S → Visible) (Does : S → ℕ → Act → Answer → S → Type 0) (Stands Halts : S → Type 0) (laws : StepLaws view Does Stands Halts)
    (programs : Programs) (program_laws : ProgramLaws programs) (tell : EngineRefusal → Refusal) (engines : AreEngines tell) where
  abbrev Retried : World → List ℕ → Table → S → Type 0
  Retried w piece table' s' = Stands s' × ((ps : List (ℕ × List ℕ)) × (after : World) × LaterPieces ps w piece after × Agrees after table' (view s') (Halts s'))

  -- a session is tried, and the others
  tries : (n : ℕ) (u : Unfinished) (line : Line) (w : World) (table : Table) (s : S) (moved : ℕ) (piece : List ℕ) (table' : Table) (s' : S) → Stands s → Agrees w table (view s) (Halts s)
      → w.unfinished n ≡ u → (stopped : Bool) → (IsTrue stopped → Halts s) → SeatAgrees (objects_in (view s)) stopped (w.running n) u (table n).standing line ((view s).open_of n)
      → (More : ℕ → Table → S → List ℕ → Table → S → Type 0)
      → ((w : World) (table : Table) (s : S) (moved : ℕ) (piece : List ℕ) → Stands s → Agrees w table (view s) (Halts s) → More moved table s piece table' s' → Retried w piece table' s')
      → Tries Does programs tell n line moved More table s piece table' s' → Retried w piece table' s'
  tries n (waits statement number) (waiting todo) w table s moved piece table' s' stands h eu stopped known a More rest (some, o, mid, others, more, r, later, is, sum) =
      by o later is (λ left e. never_stepped view Does Stands Halts laws programs program_laws tell engines n todo left s mid some o r e)
      (runs_on view Does Stands Halts laws programs tell n w table statement number a.0 todo s some o mid
      (record { stage = record { stands = stands; stopped = stopped; known = known; others = others_of n w table (view s) (Halts s) h; within = a.3; held_grows = a.1 }; serves = a.2 }) r)
    where
      by : (o : Outcome) → More others (set_seat table n (seat_run o)) mid more table' s' → piece ≡ printed_later n o ++ more → ((left : Todo) → o ≡ stepped left → ⊥)
          → OnOutcome view Does Stands Halts laws programs tell n w table statement number a.0 o mid → Retried w piece table' s'
      by (ended replies standing) later is never x =
          let t = rest x.1.0 (set_seat table n (record { standing = standing; line = idle })) mid others more x.0 x.1.2 later in (
            t.0,
            (
              (n, printed_later n (ended replies standing)) ∷ t.1.0,
              t.1.1,
              (x.1.0, more, record { statement = statement; number = number; waited = eu; ends = record { replies = replies; told = refl; ends = x.1.1 } }, is, t.1.2),
              t.1.3,
            ),
          )
      by (stuck blockers left) later is never x =
          let t = rest w (set_seat table n (record { standing = (outside_with []); line = waiting left })) mid others more x.stage.stands
          (close n w table (view mid) (Halts mid) (record { standing = (outside_with []); line = waiting left }) w (view mid) (Halts mid) x.stage.others (record {
            lasts = λ z. z;
            grows = same_grows (objects_in (view mid));
            origin = x.stage.others.origin;
            history = x.stage.others.history;
            running = λ j d. refl;
            unfinished = λ j d. refl;
            opened = λ j d. refl;
            run = w.running n;
            left = waits statement number;
            txn = (view mid).open_of n;
            run_is = refl;
            left_is = eu;
            txn_is = refl;
            agrees = (x.stage.stopped, x.stage.known, (a.0, x.stage.held_grows, x.serves, x.stage.within));
          })) later in
          (t.0, (t.1.0, t.1.1, subst (λ l. LaterPieces t.1.0 w l t.1.1) (sym is) t.1.2, t.1.3))
      by (stepped left) later is never x = absurd (never left refl)
  tries n none idle w table s moved piece table' s' stands h eu stopped known a More rest r = rest w table s moved piece stands h r
  tries n (loaded statement None) (stepping todo) w table s moved piece table' s' stands h eu stopped known a More rest r = rest w table s moved piece stands h r
  tries n (loaded statement (Some number)) (stepping todo) w table s moved piece table' s' stands h eu stopped known a More rest r = rest w table s moved piece stands h r
  tries n (loaded statement (Some number)) (held todo) w table s moved piece table' s' stands h eu stopped known a More rest r = rest w table s moved piece stands h r
  tries n _ _ w table s moved piece table' s' stands h eu stopped known a More rest r = absurd a

  pass : (ns : List ℕ) (w : World) (table : Table) (s : S) (moved : ℕ) (piece : List ℕ) (table' : Table) (s' : S) → Stands s → Agrees w table (view s) (Halts s)
      → Pass Does programs tell ns moved table s piece table' s' → Retried w piece table' s'
  pass [] w table s moved piece table' s' stands h r = subst (λ x. x) (λ k. Retried w (sym r.0 k) (sym r.1 k) (sym r.2 k)) (stands, ([], w, (refl, refl), h))
  pass (n ∷ ns) w table s moved piece table' s' stands h r =
      tries n (w.unfinished n) (table n).line w table s moved piece table' s' stands h refl (h.seats n).0 (h.seats n).1 (h.seats n).2 (Pass Does programs tell ns)
      (λ w table s moved piece stands h r. pass ns w table s moved piece table' s' stands h r) r

  passes : (all : List ℕ) (count : ℕ) (w : World) (table : Table) (s : S) (piece : List ℕ) (table' : Table) (s' : S) → Stands s → Agrees w table (view s) (Halts s)
      → Passes Does programs tell all count table s piece table' s' → Retried w piece table' s'
  passes all zero w table s piece table' s' stands h r = pass all w table s 0 piece table' s' stands h r
  passes all (suc n) w table s piece table' s' stands h (moved, first, mid_table, mid, more, one, others, is) =
      let x = pass all w table s (moved + 1) first mid_table mid stands h one in
      let y = passes all n x.1.1 mid_table mid more table' s' x.0 x.1.3 others in
      (y.0, (x.1.0 ++ y.1.0, y.1.1, subst (λ l. LaterPieces (x.1.0 ++ y.1.0) w l y.1.1) (sym is) (later_append x.1.0 y.1.0 w x.1.1 y.1.1 first more x.1.2 y.1.2), y.1.3))

  -- ---- lines

  pub one_line : (all : List ℕ) (said : Said) (w : World) (table : Table) (s : S) (piece : List ℕ) (table' : Table) (s' : S) → Stands s → Agrees w table (view s) (Halts s)
      → RunsLine Does programs tell all said table s piece table' s' → Stands s' × ((after : World) × Answers said w piece after × Agrees after table' (view s') (Halts s'))
  one_line all said w table s piece table' s' stands h r =
      let x = own view Does Stands Halts laws programs program_laws tell engines said w table s stands h r.own r.mid_table r.mid r.first in
      let y = passes all r.passes x.1.0 r.mid_table r.mid r.more table' s' x.0 x.1.2 r.later in
      (y.0, (y.1.1, record { own = r.own; between = x.1.0; first = x.1.1; retried = y.1.0; more = r.more; later = y.1.2; whole = r.whole }, y.1.3))

  ends : (w : World) (table : Table) (s : S) → Stands s → Agrees w table (view s) (Halts s) → IsEnd w
  ends w table s stands h i o is = by ((view s).open_of i) refl (subst (λ r. Within r ((view s).open_of i)) is (seat_within (objects_in (view s)) (h.seats i).0 (w.running i) (w.unfinished i) (table i).standing (table i).line ((view s).open_of i) (h.seats i).2))
    where
      by : (t : Option Txn) → (view s).open_of i ≡ t → Within (Some o) t → WasAlone w o
      by None e of = absurd of
      by (Some t) e of = was_alone w (view s) o t h.origin h.history of (laws.truth s i t stands e)

  pub lines : (all : List ℕ) (script : List Said) (w : World) (table : Table) (s : S) (out : List ℕ) (table' : Table) (s' : S) → Stands s → Agrees w table (view s) (Halts s)
      → RunsLines Does programs tell all script table s out table' s' → IsSerialFrom w script out
  lines all [] w table s out table' s' stands h r = (r.0, ends w table s stands h)
  lines all (said ∷ more) w table s out table' s' stands h (piece, mid_table, mid, rest, one, is, others) =
      let x = one_line all said w table s piece mid_table mid stands h one in
      (piece, x.1.0, rest, x.1.1, is, lines all more x.1.0 mid_table mid rest table' s' x.0 x.1.2 others)

pub begun_agrees : {S : Type 0} (view : S → Visible) (Halts : S → Type 0) (db : Database) (s : S) → IsNew db (view s) → Agrees (opened_with db) new_table (view s) (Halts s)
begun_agrees view Halts db s new = record {
  origin = sym new.origin_is;
  history = sym new.none_committed;
  seats = λ j. (false, λ x. absurd (cc), (inl (new.none_open j), refl, (objects_in (view s), refl)));
}

pub transcript_law : {S : Type 0} (view : S → Visible) (Does : S → ℕ → Act → Answer → S → Type 0) (Stands Halts : S → Type 0) (programs : Programs) (tell : EngineRefusal → Refusal)
    → TranscriptLaw view Does Stands Halts programs tell
transcript_law view Does Stands Halts programs tell laws program_laws engines db script s after out stands new r =
    lines view Does Stands Halts laws programs program_laws tell engines all_sessions script (opened_with db) new_table s out r.table r.last stands (begun_agrees view Halts db s new) r.of_lines
