-- A SELECT that is read by its plan does the steps of its work.
use Rattle.std.specs.Prelude.{◌≡◌, ℕ, List, [], ◌∷◌, ◌++◌, map, length, drop, Option, Some, None}
use mathlib.Core.Path.{refl, sym, ap, subst, ◌∙◌}
use Rattle.iv_types.specs.declared.statement.Mode.{Mode}
use Rattle.iv_types.specs.declared.statement.Mode.TheVariants.{Serial, Snapshot}
use Rattle.iv_types.specs.declared.reply.Reply.{Reply}
use Rattle.iv_types.specs.declared.reply.Reply.TheVariants as reply
use Rattle.iv_types.specs.declared.value.Interval.{Interval}
use Rattle.iv_types.specs.Syntax.{Tree}
use Rattle.iv_meaning.specs.Database.{Row}
use Rattle.iv_meaning.specs.Query.{Combination, BoundQuery}
use Rattle.iv_meaning.specs.Statement.{select_meaning}
use Rattle.iv_meaning.specs.Bound.{select_tree}
use Rattle.iv_meaning.specs.Reading.{Program, Source, done as replies_with, fetch, replies_of}
use Rattle.script_law.specs.Works.{Work, done, refuses, fetches, puts}
use Rattle.statement_law.specs.Selecting.{with_row, replied, reads}
use Rattle.task_parts.specs.declared.turn.Told.{Told}
use Rattle.task_parts.specs.declared.turn.Told.TheVariants.{Nothing, Rows, Before}
use Rattle.task_parts.specs.declared.turn.Turn.{Turn}
use Rattle.task_parts.specs.declared.turn.Turn.TheVariants.{Fetch, Peek, Change, Done, Refused, NoMemory}
use Rattle.task_parts.specs.Sources.{source_of}
use Rattle.query_exec.specs.declared.task.Task.{Task as ReadTask}
use Rattle.query_exec.specs.Ends.{refusal_in, IsEnd}
use Rattle.query_exec.specs.Tasks as reading
use Rattle.query_exec.specs.Tasks.{each_kept, reading_kept, left_by, Turns}
use Rattle.dml_exec.specs.Tasks.{after, GoesOn}
use Rattle.statement_tasks.specs.declared.task.Task.TheVariants as task
use Rattle.statement_tasks.specs.Tasks.{left_when, IsTurnIn, Moves}

-- ---- works that ask for nothing more

abbrev IsLast : Work → Type 0
IsLast (done listed count) = Unit {0}
IsLast (refuses why) = Unit {0}
IsLast _ = ⊥

with_last : (row : Row) (w : Work) → IsLast w → IsLast (with_row row w)
with_last row (done listed count) h = tt
with_last row (refuses why) h = tt
with_last row (fetches index interval lock f) h = absurd h
with_last row (puts table key new f) h = absurd h

replied_last : (replies : List Reply) → IsLast (replied replies)
replied_last [] = tt
replied_last (reply.Row row ∷ more) = with_last row (replied more) (replied_last more)
replied_last (reply.Done count ∷ more) = tt
replied_last (reply.Error why ∷ more) = tt
replied_last (r ∷ more) = replied_last more

last_stays : (told : Told) (w : Work) → IsLast w → after told w ≡ w
last_stays Nothing w h = refl
last_stays (Before before) w h = refl
last_stays (Rows rows) (done listed count) h = refl
last_stays (Rows rows) (refuses why) h = refl
last_stays (Rows rows) (fetches index interval lock f) h = absurd h
last_stays (Rows rows) (puts table key new f) h = absurd h

last_goes : (w : Work) (turn : Turn) (more : Told → Work) → IsLast w → more Nothing ≡ w → GoesOn w turn more
last_goes w NoMemory more h e = tt
last_goes (done listed count) (Fetch i r m) more h e = e
last_goes (done listed count) (Peek i r) more h e = e
last_goes (done listed count) (Change t k n) more h e = e
last_goes (done listed count) (Done replies) more h e = e
last_goes (done listed count) (Refused why) more h e = e
last_goes (refuses why) (Fetch i r m) more h e = e
last_goes (refuses why) (Peek i r) more h e = e
last_goes (refuses why) (Change t k n) more h e = e
last_goes (refuses why) (Done replies) more h e = e
last_goes (refuses why) (Refused told) more h e = e
last_goes (fetches index interval lock f) turn more h e = absurd h
last_goes (puts table key new f) turn more h e = absurd h

-- ---- what is told

pub told_reads : (told : Told) (p : Program) → after told (reads p) ≡ reads (reading.after told p)
told_reads Nothing p = refl
told_reads (Before before) p = refl
told_reads (Rows rows) (fetch i interval more) = refl
told_reads (Rows rows) (replies_with replies) = last_stays (Rows rows) (replied replies) (replied_last replies)

-- ---- how it ends

-- with the replies of some rows or of a refusal
abbrev EndsSo : Program → Type 0
EndsSo (replies_with replies) = (rows : Option (List Row)) × (replies ≡ replies_of (select_meaning rows))
EndsSo (fetch i interval more) = (rows : List Row) → EndsSo (more rows)

each_ends : (conditions : List Tree) (s : Source) (more : List Combination → Program) (waiting found : List Combination)
    → ((found : List Combination) → EndsSo (more found)) → EndsSo (each_kept conditions s more waiting found)
each_ends conditions s more [] found h = h found
each_ends conditions s more (c ∷ cs) found h = λ rows. each_ends conditions s more cs _ h

reading_ends : (query : BoundQuery) (sources : List Source) (found : List Combination) → EndsSo (reading_kept query sources found)
reading_ends query [] found = (_, refl)
reading_ends query (s ∷ ss) found = each_ends query.conditions s (reading_kept query ss) found [] (λ more. reading_ends query ss more)

left_ends : (query : BoundQuery) (sources : List Source) (waiting found : List Combination) → EndsSo (left_by query sources waiting found)
left_ends query [] waiting found = (_, refl)
left_ends query (s ∷ ss) waiting found = each_ends query.conditions s (reading_kept query ss) waiting found (λ more. reading_ends query ss more)

task_ends : (t : ReadTask) → EndsSo (reading.left t)
task_ends t = left_ends (select_tree t.select) (drop t.level (map source_of t.sources.items)) (drop t.next t.waiting.items) t.found.items

told_ends : (told : Told) (p : Program) → EndsSo p → EndsSo (reading.after told p)
told_ends Nothing p h = h
told_ends (Before before) p h = h
told_ends (Rows rows) (replies_with replies) h = h
told_ends (Rows rows) (fetch i interval more) h = h rows

-- ---- turns

lists : (rows : List Row) (count : ℕ) → replied (map reply.Row rows ++ reply.Done count ∷ []) ≡ done rows count
lists [] count = refl
lists (row ∷ rows) count = ap (with_row row) (lists rows count)

-- where nothing more is asked for, the mode does not matter
any_mode : (mode : Mode) (w : Work) (turn : Turn) → IsLast w → IsTurnIn Serial w turn → IsTurnIn mode w turn
any_mode Serial w turn h is = is
any_mode Snapshot (done listed count) turn h is = is
any_mode Snapshot (refuses why) turn h is = is
any_mode Snapshot (fetches index interval lock f) turn h is = absurd h
any_mode Snapshot (puts table key new f) turn h is = absurd h

no_memory : (w : Work) → IsTurnIn Serial w NoMemory
no_memory w = tt

done_turn : (rows : Option (List Row)) (told replies : List Reply) → replies ≡ replies_of (select_meaning rows) → told ≡ replies → refusal_in replies ≡ None
    → IsTurnIn Serial (replied replies) (Done told)
done_turn None told replies e same none = absurd (cc)
done_turn (Some rows) told replies e same none =
    subst (λ w. IsTurnIn Serial w (Done told)) (sym (ap replied e ∙ lists rows (length rows))) (same ∙ e)

end_turn : (rows : Option (List Row)) (replies : List Reply) (turn : Turn) → replies ≡ replies_of (select_meaning rows) → IsEnd replies turn
    → IsTurnIn Serial (replied replies) turn
end_turn rows replies NoMemory e is = no_memory (replied replies)
end_turn rows replies (Refused told) e is = subst (λ rs. IsTurnIn Serial (replied rs) (Refused told)) (sym is) refl
end_turn rows replies (Done told) e is = done_turn rows told replies e is.0 is.1
end_turn rows replies (Fetch i r m) e is = absurd is
end_turn rows replies (Peek i r) e is = absurd is
end_turn rows replies (Change t k n) e is = absurd is

ends_turn : (mode : Mode) (replies : List Reply) (turn : Turn) → reading.IsTurn mode (replies_with replies) turn → IsEnd replies turn
ends_turn Serial replies NoMemory is = tt
ends_turn Snapshot replies NoMemory is = tt
ends_turn Serial replies (Done told) is = is
ends_turn Snapshot replies (Done told) is = is
ends_turn Serial replies (Refused told) is = is
ends_turn Snapshot replies (Refused told) is = is
ends_turn Serial replies (Fetch i r m) is = is
ends_turn Snapshot replies (Fetch i r m) is = is
ends_turn Serial replies (Peek i r) is = is
ends_turn Snapshot replies (Peek i r) is = is
ends_turn Serial replies (Change t k n) is = is
ends_turn Snapshot replies (Change t k n) is = is

fetch_turn : (mode : Mode) (i : ℕ) (interval : Interval) (more : List Row → Program) (turn : Turn) → reading.IsTurn mode (fetch i interval more) turn
    → IsTurnIn mode (reads (fetch i interval more)) turn
fetch_turn Serial i interval more NoMemory is = tt
fetch_turn Snapshot i interval more NoMemory is = tt
fetch_turn Serial i interval more (Fetch index r m) is = is
fetch_turn Snapshot i interval more (Fetch index r m) is = absurd is
fetch_turn Serial i interval more (Peek index r) is = absurd is
fetch_turn Snapshot i interval more (Peek index r) is = is
fetch_turn Serial i interval more (Change t k n) is = absurd is
fetch_turn Snapshot i interval more (Change t k n) is = absurd is
fetch_turn Serial i interval more (Done replies) is = absurd is
fetch_turn Snapshot i interval more (Done replies) is = absurd is
fetch_turn Serial i interval more (Refused why) is = absurd is
fetch_turn Snapshot i interval more (Refused why) is = absurd is

fetch_goes : (i : ℕ) (interval : Interval) (more : List Row → Program) (turn : Turn) (new : ReadTask) → reading.left new ≡ fetch i interval more
    → GoesOn (reads (fetch i interval more)) turn (λ told. left_when told (task.Read new))
fetch_goes i interval more NoMemory new e = tt
fetch_goes i interval more (Fetch index r m) new e = (ap reads e, λ rows. ap (λ p. after (Rows rows) (reads p)) e)
fetch_goes i interval more (Peek index r) new e = (ap reads e, λ rows. ap (λ p. after (Rows rows) (reads p)) e)
fetch_goes i interval more (Change t k n) new e = (ap reads e, λ rows. ap (λ p. after (Rows rows) (reads p)) e)
fetch_goes i interval more (Done replies) new e = (ap reads e, λ rows. ap (λ p. after (Rows rows) (reads p)) e)
fetch_goes i interval more (Refused why) new e = (ap reads e, λ rows. ap (λ p. after (Rows rows) (reads p)) e)

program_moves : (mode : Mode) (p : Program) (turn : Turn) (new : ReadTask) → EndsSo p → reading.IsTurn mode p turn → ((turn ≡ NoMemory → ⊥) → reading.left new ≡ p)
    → reading.mode_of new ≡ mode → Moves mode (reads p) turn (task.Read new)
program_moves mode (replies_with replies) turn new ends is stays same =
    record {
      is_turn = any_mode mode (replied replies) turn (replied_last replies) (end_turn ends.0 replies turn ends.1 (ends_turn mode replies turn is));
      goes_on = goes turn stays;
      mode_is = same;
    }
  where
    by : (turn : Turn) → (reading.left new ≡ replies_with replies) → GoesOn (replied replies) turn (λ told. left_when told (task.Read new))
    by turn e = last_goes (replied replies) turn (λ told. left_when told (task.Read new)) (replied_last replies) (ap reads e)

    goes : (turn : Turn) → ((turn ≡ NoMemory → ⊥) → reading.left new ≡ replies_with replies) → GoesOn (replied replies) turn (λ told. left_when told (task.Read new))
    goes NoMemory stays = tt
    goes (Fetch i r m) stays = by (Fetch i r m) (stays (λ e. cc))
    goes (Peek i r) stays = by (Peek i r) (stays (λ e. cc))
    goes (Change t k n) stays = by (Change t k n) (stays (λ e. cc))
    goes (Done told) stays = by (Done told) (stays (λ e. cc))
    goes (Refused why) stays = by (Refused why) (stays (λ e. cc))
program_moves mode (fetch i interval more) turn new ends is stays same =
    record { is_turn = fetch_turn mode i interval more turn is; goes_on = goes turn stays; mode_is = same }
  where
    goes : (turn : Turn) → ((turn ≡ NoMemory → ⊥) → reading.left new ≡ fetch i interval more) → GoesOn (reads (fetch i interval more)) turn (λ told. left_when told (task.Read new))
    goes NoMemory stays = tt
    goes (Fetch index r m) stays = fetch_goes i interval more (Fetch index r m) new (stays (λ e. cc))
    goes (Peek index r) stays = fetch_goes i interval more (Peek index r) new (stays (λ e. cc))
    goes (Change t k n) stays = fetch_goes i interval more (Change t k n) new (stays (λ e. cc))
    goes (Done told) stays = fetch_goes i interval more (Done told) new (stays (λ e. cc))
    goes (Refused why) stays = fetch_goes i interval more (Refused why) new (stays (λ e. cc))

-- a SELECT's turn is the head of its work
pub read_moves : (told : Told) (old : ReadTask) (turn : Turn) (new : ReadTask) → Turns old told turn new
    → Moves (reading.mode_of old) (left_when told (task.Read old)) turn (task.Read new)
read_moves told old turn new h =
    subst (λ w. Moves (reading.mode_of old) w turn (task.Read new)) (sym (told_reads told (reading.left old)))
    (program_moves (reading.mode_of old) (reading.after told (reading.left old)) turn new (told_ends told (reading.left old) (task_ends old)) h.is_turn h.goes_on h.mode)
