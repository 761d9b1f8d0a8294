-- The end of the input: no transaction stays open, unless the engine is stopped.
use Rattle.std.specs.Prelude.{◌≡◌, ◌≢◌, ◌⊎◌, ℕ, Bool, IsTrue, List, [], ◌∷◌, length, Option, Some, None}
use Rattle.std.specs.List.{Contains}
use mathlib.Core.Path.{refl, sym, ap, subst, ◌∙◌}
use mathlib.Core.Logic.{inl, inr}
use Rattle.std.proofs.lemmas.Option.{none-some}
use Rattle.iv_types.specs.declared.refusal.Refusal.{Refusal}
use Rattle.iv_types.specs.declared.refusal.EngineRefusal.{EngineRefusal}
use Rattle.table_laws.proofs.Stored.{by_session}
use Rattle.iv_meaning.specs.Schema.{Schema}
use Rattle.iv_meaning.specs.Said.{Said}
use Rattle.iv_meaning.specs.Serial.{World, Unended, Unfinished, none, waits, loaded, opened_with}
use Rattle.txn_machine.specs.Acts as act
use Rattle.txn_machine.specs.Acts.{Act}
use Rattle.txn_machine.specs.Answers as answer
use Rattle.txn_machine.specs.Answers.{Answer}
use Rattle.txn_machine.proofs.Basics.{contains_none}
use Rattle.txn_machine.proofs.Holding.{by_contains}
use Rattle.script_law.specs.Seen.{event, CanCome, Txn, Visible, open_after, StepLaws}
use Rattle.script_law.specs.Programs.{Standing, Programs, ProgramLaws}
use Rattle.script_law.specs.RunLines.{Line, idle, waiting, stepping, held, Table, open_at, RollsBack, ends_it, takes_back, stops_ending, stops_taking, Leaves, cancels, cancels_held, steps_no_more, has_none, rolls_back, LeaveAll, RunsLines, new_table, all_sessions}
use Rattle.script_law.specs.Laws.{AreEngines, EndLaw}
use Rattle.script_law.proofs.Basics.{if_same, if_other}
use Rattle.script_law.proofs.Agreeing.{SeatAgrees, Agrees, objects_in}
use Rattle.script_law.proofs.Showing.{ended_open}
use Rattle.script_law.proofs.Owning.{IsIdle, idles, fails, idle_open}
use Rattle.script_law.proofs.Running.{one_line, begun_agrees}

cancel_idle : (said : Answer) → CanCome act.Cancel (event act.Cancel said) → IsIdle (event act.Cancel said)
cancel_idle (answer.Refused why) c = fails why refl
cancel_idle answer.Cancelled c = idles refl
cancel_idle _ c = absurd c

module _ {S : Type 0} (view : S → Visible) (Does : S → ℕ → Act → Answer → S → Type 0) (Stands Halts : S → Type 0) (laws : StepLaws view Does Stands Halts)
    (programs : Programs) (tell : EngineRefusal → Refusal) where
  -- no transaction of the session is open, unless the engine is stopped
  abbrev Gone : S → ℕ → Type 0
  Gone s n = ((view s).open_of n ≡ None) ⊎ Halts s

  -- what a session's last steps leave
  record Left (n : ℕ) (s after : S) : Type 0 where
    pub stands : Stands after
    pub lasts : Halts s → Halts after
    pub others : (m : ℕ) → m ≢ n → (view after).open_of m ≡ (view s).open_of m

  left_none : (n : ℕ) (s : S) → Stands s → Left n s s
  left_none n s stands = record { stands = stands; lasts = λ h. h; others = λ m d. refl }

  left_step : (n : ℕ) (a : Act) (said : Answer) (s mid after : S) → Stands s → Does s n a said mid → Left n mid after → Left n s after
  left_step n a said s mid after stands does l = record {
    stands = l.stands;
    lasts = λ h. l.lasts (laws.stays s mid n a said does h).0;
    others = λ m d. l.others m d ∙ ap (λ (v : Visible). v.open_of m) (laws.moves s mid n a said stands does) ∙ if_other m n (open_after (view s) ((view s).open_of n) (event a said)) ((view s).open_of m) d;
  }

  own_open : (n : ℕ) (a : Act) (said : Answer) (s mid : S) → Stands s → Does s n a said mid → (view mid).open_of n ≡ open_after (view s) ((view s).open_of n) (event a said)
  own_open n a said s mid stands does = ap (λ (v : Visible). v.open_of n) (laws.moves s mid n a said stands does) ∙ if_same n (open_after (view s) ((view s).open_of n) (event a said)) ((view s).open_of n)

  next_stands : (n : ℕ) (a : Act) (said : Answer) (s mid : S) → Stands s → Does s n a said mid → Stands mid
  next_stands n a said s mid stands does = laws.stands s mid n a said stands does

  rolls : (n kept : ℕ) (s after : S) → Stands s → RollsBack Does programs tell n kept s after → Gone after n × Left n s after
  rolls n _ _ _ stands (ends_it s after does) = (
    inl (own_open n act.End answer.Ended s after stands does ∙ ended_open (view s) ((view s).open_of n)),
    left_step n act.End answer.Ended s after after stands does (left_none n after (next_stands n act.End answer.Ended s after stands does)),
  )
  rolls n _ _ _ stands (takes_back kept left s mid after does more) =
      let x = rolls n kept mid after (next_stands n act.UndoOne (answer.Undone left) s mid stands does) more in
      (x.0, left_step n act.UndoOne (answer.Undone left) s mid after stands does x.1)
  rolls n _ _ _ stands (stops_ending s after why stop does) = (
    inr (laws.halts s after n act.End (answer.Refused why) does stop),
    left_step n act.End (answer.Refused why) s after after stands does (left_none n after (next_stands n act.End (answer.Refused why) s after stands does)),
  )
  rolls n _ _ _ stands (stops_taking kept s after why stop does) = (
    inr (laws.halts s after n act.UndoOne (answer.Refused why) does stop),
    left_step n act.UndoOne (answer.Refused why) s after after stands does (left_none n after (next_stands n act.UndoOne (answer.Refused why) s after stands does)),
  )

  after_cancel : (n : ℕ) (said : Answer) (s mid : S) → Stands s → Does s n act.Cancel said mid → Gone s n → Gone mid n
  after_cancel n said s mid stands does (inl e) =
      inl (own_open n act.Cancel said s mid stands does ∙ idle_open (view s) ((view s).open_of n) (event act.Cancel said) (cancel_idle said (laws.answers s mid n act.Cancel said stands does)) ∙ e)
  after_cancel n said s mid stands does (inr h) = inr (laws.stays s mid n act.Cancel said does h).0

  leave : (n : ℕ) (line : Line) (t : Option Txn) (s after : S) → Stands s → (t ≡ None → Gone s n) → Leaves Does programs tell n line t s after → Gone after n × Left n s after
  leave n _ _ _ _ stands out (cancels todo t s mid after said does more) =
      let x = leave n idle t mid after (next_stands n act.Cancel said s mid stands does) (λ e. after_cancel n said s mid stands does (out e)) more in
      (x.0, left_step n act.Cancel said s mid after stands does x.1)
  leave n _ _ _ _ stands out (cancels_held todo t s mid after said does more) =
      let x = leave n idle t mid after (next_stands n act.Cancel said s mid stands does) (λ e. after_cancel n said s mid stands does (out e)) more in
      (x.0, left_step n act.Cancel said s mid after stands does x.1)
  leave n _ _ _ _ stands out (steps_no_more todo t s after more) = leave n idle t s after stands out more
  leave n _ _ _ _ stands out (has_none s) = (out refl, left_none n s stands)
  leave n _ _ _ _ stands out (rolls_back t s after more) = rolls n (length t.kept) s after stands more

  -- a session whose transaction is not taken back has none
  abbrev Closed : Table → S → Type 0
  Closed table s = (n : ℕ) → open_at (table n) ((view s).open_of n) ≡ None → Gone s n

  closed_after : (table : Table) (n : ℕ) (s after : S) → Closed table s → Gone after n → Left n s after → Closed table after
  closed_after table n s after h gone l m e = by_session m n
      (λ is. subst (Gone after) (sym is) gone)
      (λ d. later (h m (ap (open_at (table m)) (sym (l.others m d)) ∙ e)) d)
    where
      later : Gone s m → m ≢ n → Gone after m
      later (inl x) d = inl (l.others m d ∙ x)
      later (inr x) d = inr (l.lasts x)

  leave_all : (ns : List ℕ) (table : Table) (s after : S) → Stands s → Closed table s → LeaveAll Does programs tell view ns table s after
      → Closed table after × ((m : ℕ) → Gone s m → Gone after m) × ((m : ℕ) → Contains ns m → Gone after m)
  leave_all [] table s after stands h e = (subst (Closed table) (sym e) h, λ m g. subst (λ x. Gone x m) (sym e) g, λ m c. absurd (contains_none m c))
  leave_all (n ∷ ns) table s after stands h (mid, one, more) =
      let x = leave n (table n).line (open_at (table n) ((view s).open_of n)) s mid stands (h n) one in
      let y = leave_all ns table mid after x.1.stands (closed_after table n s mid h x.0 x.1) more in
      (y.0, λ m g. y.1 m (keep x.0 x.1 m g), λ m c. by_contains n ns m c (λ is. y.1 m (subst (Gone mid) is x.0)) (λ d. y.2 m d))
    where
      keep : Gone mid n → Left n s mid → (m : ℕ) → Gone s m → Gone mid m
      keep gone l m g = by_session m n (λ is. subst (Gone mid) (sym is) gone) (λ d. by g d)
        where
          by : Gone s m → m ≢ n → Gone mid m
          by (inl e) d = inl (l.others m d ∙ e)
          by (inr e) d = inr (l.lasts e)

  -- ---- what the table knows

  module _ (program_laws : ProgramLaws programs) (engines : AreEngines tell) where
    closed_seat : (s : S) (n : ℕ) (objects : Schema) (stopped : Bool) → (IsTrue stopped → Halts s) → (run : Option Unended) (u : Unfinished) (standing : Standing) (line : Line) (t : Option Txn) → (view s).open_of n ≡ t
        → SeatAgrees objects stopped run u standing line t → open_at (record { standing = standing; line = line }) t ≡ None → Gone s n
    closed_seat s n objects stopped known run u standing (waiting todo) t is a e = inl (is ∙ e)
    closed_seat s n objects stopped known run u standing (stepping todo) t is a e = inl (is ∙ e)
    closed_seat s n objects stopped known run u standing (held todo) t is a e = inl (is ∙ e)
    closed_seat s n objects stopped known None none standing idle t is a e = by a.0
      where
        by : (t ≡ None) ⊎ IsTrue stopped → Gone s n
        by (inl x) = inl (is ∙ x)
        by (inr x) = inr (known x)
    closed_seat s n objects stopped known (Some o) none standing idle None is a e = absurd a
    closed_seat s n objects stopped known (Some o) none standing idle (Some t) is a e =
        absurd (none-some t (sym e ∙ (λ k. elim (a.mode_is k) [ None ↦ None | Some mode ↦ Some t ])))
    closed_seat s n objects stopped known run (waits statement number) standing idle t is a e = absurd a
    closed_seat s n objects stopped known run (loaded statement None) standing idle t is a e = absurd a
    closed_seat s n objects stopped known run (loaded statement (Some number)) standing idle t is a e = absurd a

    closed_agrees : (w : World) (table : Table) (s : S) → Agrees w table (view s) (Halts s) → Closed table s
    closed_agrees w table s h n e = closed_seat s n (objects_in (view s)) (h.seats n).0 (h.seats n).1 (w.running n) (w.unfinished n) (table n).standing (table n).line ((view s).open_of n) refl (h.seats n).2 e

    lines_agree : (all : List ℕ) (script : List Said) (w : World) (table : Table) (s : S) (out : List ℕ) (table' : Table) (s' : S) → Stands s → Agrees w table (view s) (Halts s)
        → RunsLines Does programs tell all script table s out table' s' → Stands s' × ((after : World) × Agrees after table' (view s') (Halts s'))
    lines_agree all [] w table s out table' s' stands h r = subst (λ x. x) (λ k. Stands (sym r.2 k) × ((after : World) × Agrees after (sym r.1 k) (view (sym r.2 k)) (Halts (sym r.2 k)))) (stands, (w, h))
    lines_agree all (said ∷ more) w table s out table' s' stands h (piece, mid_table, mid, rest, one, is, others) =
        let x = one_line view Does Stands Halts laws programs program_laws tell engines all said w table s piece mid_table mid stands h one in
        lines_agree all more x.1.0 mid_table mid rest table' s' x.0 x.1.2 others

pub end_law : {S : Type 0} (view : S → Visible) (Does : S → ℕ → Act → Answer → S → Type 0) (Stands Halts : S → Type 0) (programs : Programs) (tell : EngineRefusal → Refusal) → EndLaw view Does Stands Halts programs tell
end_law view Does Stands Halts programs tell laws program_laws engines db script s after out stands new r session c =
    let x = lines_agree view Does Stands Halts laws programs tell program_laws engines all_sessions script (opened_with db) new_table s out r.table r.last stands (begun_agrees view Halts db s new) r.of_lines in
    (leave_all view Does Stands Halts laws programs tell all_sessions r.table r.last after x.0 (closed_agrees view Does Stands Halts laws programs tell program_laws engines x.1.0 r.table r.last x.1.1) r.leaves).2 session c
