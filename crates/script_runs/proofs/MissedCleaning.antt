-- Counts that no `clean` prints.
use Rattle.std.specs.Prelude.{◌≡◌, ◌≢◌, ℕ, ◌+◌, Bool, true, false, cond, not, T, List, [], ◌∷◌, ◌++◌, codes, ℤ, Some, None, is_some, IsSome}
use Rattle.std.specs.Fmt.{digits}
use mathlib.Core.Path.{refl, sym, ap, subst, ◌∙◌}
use Rattle.std.proofs.Common.{arith}
use Rattle.std.specs.FinMap.{empty, get, find}
use Rattle.std.specs.Ordering.{eq_by_cmp}
use Rattle.table_laws.specs.Place.{Place, place_cmp}
use Rattle.table_laws.specs.Table.{write}
use Rattle.iv_meaning.specs.Said.{cleans}
use Rattle.txn_machine.specs.Acts as act
use Rattle.txn_machine.specs.Acts.{Act}
use Rattle.txn_machine.specs.Answers as answer
use Rattle.txn_machine.specs.Answers.{Answer}
use Rattle.txn_machine.specs.Stored.{ViewRows}
use Rattle.txn_machine.specs.Store.{run}
use Rattle.txn_machine.specs.Ghosts.{the_views}
use Rattle.txn_machine.specs.State.{stop_after}
use Rattle.txn_machine.specs.Alone.{Story}
use Rattle.txn_machine.proofs.PlainStates.{start, table_of, set_in}
use Rattle.txn_machine.proofs.Tabled.{get_is, write_is, none_is}
use Rattle.script_law.specs.RunLines.{new_table, all_sessions, Cleaned, cleaned_text, counted_line, Cleans, cleaned_all, cleaned_one, clean_fails, CleansLine, pruned, prune_fails}
use Rattle.script_law.specs.Machine.{DoesOf}
use Rattle.statement_law.specs.Telling.{tell}
use Rattle.script_runs.specs.Scripts.{opened_shop}
use Rattle.script_runs.specs.Misses.{taken_back, CleanedOfNone, CleanedTwice}
use Rattle.script_runs.proofs.Plays.{programs, Went, whole_lines}
use Rattle.script_runs.proofs.Steps.{story}
use Rattle.script_runs.proofs.Scripts.{behind}
use Rattle.script_runs.proofs.Inverting.{Doing, doing_of, byte, line_begins, lines_begin}
use Rattle.script_runs.proofs.Missed.{stop_none, steps_are}

-- this is printed, and not another count
record Printed (removed : ℕ) (out : List ℕ) : Type 0 where
  pub counted : byte 0 out ≡ 67
  pub another : (rest : List ℕ) → byte 6 out ≢ byte 6 (counted_line (codes "CLEAN") removed ++ rest)

-- some text is that of an end
abbrev Tells : List ℕ → Cleaned → List ℕ → Type 0
Tells out end rest = out ≡ cleaned_text DoesOf programs (tell [] None) end ++ rest

not_stored : (v : ViewRows) (place : Place) → v ≡ table_of [] → IsSome (get v place) → ⊥
not_stored v place e there = absurd (cc (sym there ∙ (ap (λ (x : ViewRows). is_some (get x place)) e ∙ ap is_some (get_is [] place tt))))

-- nothing is stored, and so many ghosts were removed
sweeps_none : (out rest : List ℕ) (removed : ℕ) (s : Story) (end : Cleaned) (after : Story) → Cleans DoesOf programs (tell [] None) removed s end after
    → s.state.stop ≡ None → s.state.store.view ≡ table_of [] → (k : ℕ) → removed ≡ k → Printed k out → Tells out end rest → ⊥
unfolding digits
sweeps_none out rest _ _ _ _ (cleaned_all removed s after does) none v k is p e =
    p.another rest (ap (byte 6) (e ∙ ap (λ n. counted_line (codes "CLEAN") n ++ rest) is))
sweeps_none out rest _ _ _ _ (cleaned_one removed s mid after end does more) none v k is p e =
    let d = doing_of s 0 act.Clean (answer.Cleaned 1) mid none does in
    not_stored s.state.store.view d.says.0 v d.says.1.is.ghost.stored
sweeps_none out rest _ _ _ _ (clean_fails removed s after why does) none v k is p e =
    let b : 67 ≡ 48 = sym p.counted ∙ ap (byte 0) e in omega (arith, b)

-- of one stored row a place is found where it is that row's
left_none : (place : Place) (e : Place × List ℤ) (b : Bool) → eq_by_cmp place_cmp place e.0 ≡ b → T (is_some (find place_cmp place (e ∷ []))) → set_in place None (e ∷ []) ≡ []
left_none place e true is h = ap (λ x. cond (not x) (e ∷ []) []) is
left_none place e false is h = absurd (subst (λ x. T (is_some (cond x (Some e.1) None))) is h)

-- one row is stored
sweeps_one : (out rest : List ℕ) (row : Place × List ℤ) (s : Story) (removed : ℕ) (end : Cleaned) (after : Story) → Cleans DoesOf programs (tell [] None) removed s end after
    → s.state.stop ≡ None → (k : ℕ) → s.state.steps ≡ k → stop_after None (k + 1) act.Clean (answer.Cleaned 1) ≡ None → s.state.store.view ≡ table_of (row ∷ []) → removed ≡ 0
    → Printed 0 out → Printed 1 out → Tells out end rest → ⊥
unfolding digits
sweeps_one out rest row _ _ _ _ (cleaned_all removed s after does) none k steps go v is p q e =
    p.another rest (ap (byte 6) (e ∙ ap (λ n. counted_line (codes "CLEAN") n ++ rest) is))
sweeps_one out rest row _ _ _ _ (cleaned_one removed s mid after end does more) none k steps go v is p q e =
    let d = doing_of s 0 act.Clean (answer.Cleaned 1) mid none does in
    let place : Place = d.says.0 in
    let found : IsSome (find place_cmp place (row ∷ [])) = sym (ap is_some (get_is (row ∷ []) place tt)) ∙ (sym (ap (λ (x : ViewRows). is_some (get x place)) v) ∙ d.says.1.is.ghost.stored) in
    let left : mid.state.store.view ≡ table_of [] =
    ap (λ (z : Story). z.state.store.view) d.left ∙ (ap (λ es. (run the_views s.state.store 0 es).view) d.says.2 ∙ (ap (λ (x : ViewRows). write x place None) v
    ∙ (write_is place None (row ∷ []) tt ∙ ap table_of (left_none place row (eq_by_cmp place_cmp place row.0) refl (subst T (sym found) tt))))) in
    sweeps_none out rest (removed + 1) mid end after more (stop_none s mid 0 act.Clean (answer.Cleaned 1) d none k steps go) left 1 (ap (λ n. n + 1) is) q e
sweeps_one out rest row _ _ _ _ (clean_fails removed s after why does) none k steps go v is p q e =
    let b : 67 ≡ 48 = sym p.counted ∙ ap (byte 0) e in omega (arith, b)

-- ---- the misses

-- a prune leaves what is stored
pruned_view : (s mid : Story) → Doing s 0 act.Prune answer.Pruned mid → mid.state.store.view ≡ s.state.store.view
pruned_view s mid d = ap (λ (z : Story). z.state.store.view) d.left ∙ ap (λ es. (run the_views s.state.store 0 es).view) d.says

abbrev many : List ℕ
many = codes "CLEAN 99\n"

cleans_none : (rest : List ℕ) (s : Story) (end : Cleaned) (after : Story) → CleansLine DoesOf programs (tell [] None) s end after
    → s.state.stop ≡ None → s.state.steps ≡ 0 → s.state.store.view ≡ empty → Tells many end rest → ⊥
unfolding digits
cleans_none rest _ _ _ (pruned s mid after end does more) none steps v e =
    let d = doing_of s 0 act.Prune answer.Pruned mid none does in
    sweeps_none many rest 0 mid end after more (stop_none s mid 0 act.Prune answer.Pruned d none 0 steps refl) (pruned_view s mid d ∙ (v ∙ none_is)) 0 refl
    (record { counted = refl; another = λ r b. let x : 57 ≡ 48 = b in omega (arith, x) }) e
cleans_none rest _ _ _ (prune_fails s after why does) none steps v e = let b : 67 ≡ 48 = ap (byte 0) e in omega (arith, b)

pub cleaned_of_none : CleanedOfNone
cleaned_of_none after r =
    let b = lines_begin all_sessions cleans [] new_table opened_shop many r.table r.last r.of_lines in
    cleans_none b.rest opened_shop b.first.1.0 b.mid b.first.1.2 refl refl refl (b.whole ∙ ap (λ o. o ++ b.rest) b.first.1.1)

abbrev two : List ℕ
two = codes "CLEAN 2\n"

cleans_one : (rest : List ℕ) (row : Place × List ℤ) (s : Story) (end : Cleaned) (after : Story) → CleansLine DoesOf programs (tell [] None) s end after
    → s.state.stop ≡ None → (k : ℕ) → s.state.steps ≡ k → stop_after None (k + 1) act.Prune answer.Pruned ≡ None → stop_after None (k + 1 + 1) act.Clean (answer.Cleaned 1) ≡ None
    → s.state.store.view ≡ table_of (row ∷ []) → Tells two end rest → ⊥
unfolding digits
cleans_one rest row _ _ _ (pruned s mid after end does more) none k steps go further v e =
    let d = doing_of s 0 act.Prune answer.Pruned mid none does in
    sweeps_one two rest row mid 0 end after more (stop_none s mid 0 act.Prune answer.Pruned d none k steps go) (k + 1) (steps_are s mid 0 act.Prune answer.Pruned d k steps) further (pruned_view s mid d ∙ v) refl
    (record { counted = refl; another = λ r b. let x : 50 ≡ 48 = b in omega (arith, x) }) (record { counted = refl; another = λ r b. let x : 50 ≡ 49 = b in omega (arith, x) }) e
cleans_one rest row _ _ _ (prune_fails s after why does) none k steps go further v e = let b : 67 ≡ 48 = ap (byte 0) e in omega (arith, b)

abbrev first_row : List (Place × List ℤ) → Place × List ℤ
first_row [] = ((0, []), [])
first_row (e ∷ es) = e

-- it has one row
abbrev is_one : List (Place × List ℤ) → Bool
is_one (e ∷ []) = true
is_one _ = false

one_row : (l : List (Place × List ℤ)) → T (is_one l) → l ≡ first_row l ∷ []
one_row [] h = absurd h
one_row (e ∷ []) h = refl
one_row (e ∷ f ∷ es) h = absurd h

pub cleaned_twice : CleanedTwice
unfolding digits
cleaned_twice =
    let w : Went = whole_lines taken_back.lines new_table start in
    let r = behind taken_back tt in
    record {
      table = w.table;
      s = story w.left r.0;
      comes = r.1;
      never = λ later_table after l.
          let b = line_begins all_sessions cleans w.table (story w.left r.0) two later_table after l in
          cleans_one b.rest (first_row w.left.view) (story w.left r.0) b.first.1.0 b.mid b.first.1.2 refl w.left.of.steps refl refl refl (ap table_of (one_row w.left.view tt)) (b.whole ∙ ap (λ o. o ++ b.rest) b.first.1.1);
    }
