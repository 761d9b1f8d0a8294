-- What a run of a statement, of a line or of a step rests on.
use Rattle.std.specs.Prelude.{◌≡◌, ◌⊎◌, ℕ, Bool, List, [], ◌∷◌, ◌++◌, Some, None}
use mathlib.Core.Path.{refl, sym, ap, subst, ◌∙◌}
use mathlib.Core.Logic.{inl, inr}
use Rattle.std.proofs.Common.{append_assoc}
use Rattle.std.proofs.lemmas.Option.{none-some}
use Rattle.iv_types.specs.declared.session.Sessions.{Sessions}
use Rattle.iv_types.specs.declared.reply.Reply.{Reply}
use Rattle.iv_meaning.specs.Said.{Said}
use Rattle.txn_machine.specs.Acts as act
use Rattle.txn_machine.specs.Acts.{Act}
use Rattle.txn_machine.specs.Answers as answer
use Rattle.txn_machine.specs.Answers.{Answer}
use Rattle.txn_machine.specs.Store.{Effect, run}
use Rattle.txn_machine.specs.Ghosts.{the_views}
use Rattle.txn_machine.specs.State.{counted}
use Rattle.txn_machine.specs.Steps.{Says, waits_after, definitions_after, log_after}
use Rattle.txn_machine.specs.Alone.{Story, story_after}
use Rattle.script_law.specs.Seen.{Waits, event}
use Rattle.script_law.specs.Programs.{Standing, Todo, says}
use Rattle.script_law.specs.RunLines.{Table, Outcome, ended, stuck, act_of, next_of, outcome_of, RunsOn, has_ended, is_blocked, goes_on, StepsOnce, had_ended, steps_once, Own, RunsLine, RunsLines}
use Rattle.script_law.specs.Machine.{DoesOf}
use Rattle.statement_law.specs.Telling.{tell}
use Rattle.script_runs.proofs.Plays.{programs}

-- ---- a step of an engine that is not stopped

-- what a step with these effects leaves
abbrev pub left_with : Story → ℕ → Act → Answer → List Effect → Story
left_with s i a said es = story_after s (record { session = i; act = a; said = said })
    (counted s.state i a said (run the_views s.state.store i es) (waits_after s.state.store i a said) (definitions_after s.state.definitions a said) (log_after s.state i a said es))

pub record Doing (s : Story) (i : ℕ) (a : Act) (said : Answer) (after : Story) : Type 0 where
  pub effects : List Effect
  pub says : Says s.state i a said effects
  pub left : after ≡ left_with s i a said effects

pub doing_of : (s : Story) (i : ℕ) (a : Act) (said : Answer) (after : Story) → s.state.stop ≡ None → DoesOf s i a said after → Doing s i a said after
doing_of s i a said after runs h = elim h.1.does [
  | inl x ↦ record { effects = x.effects; says = x.says; left = h.2 ∙ ap (story_after s (record { session = i; act = a; said = said })) x.left }
  | inr t ↦ absurd (none-some t.stop (sym runs ∙ t.stopped))
]

-- ---- a statement

same_act : (a b : Act) → Some a ≡ Some b → a ≡ b
same_act a b e = cc

waits_said : (a : Act) (said : Answer) (sessions : Sessions) → event a said ≡ Waits sessions → said ≡ answer.Blocked sessions
waits_said (act.Fetch index interval mode) (answer.Blocked x) sessions e = cc
waits_said (act.Put table key new) (answer.Blocked x) sessions e = cc
waits_said act.Pay (answer.Blocked x) sessions e = cc
waits_said _ (answer.Refused why) sessions e = absurd (cc)
waits_said _ _ sessions e = absurd (cc)

-- it was blocked at once
pub record Blocks (i : ℕ) (todo : Todo) (a : Act) (s : Story) (o : Outcome) (after : Story) : Type 0 where
  pub sessions : Sessions
  pub does : DoesOf s i a (answer.Blocked sessions) after
  pub comes : o ≡ stuck sessions todo

-- or it went on
pub record Moves (i : ℕ) (todo : Todo) (a : Act) (s : Story) (o : Outcome) (after : Story) : Type 0 where
  pub said : Answer
  pub memory : Bool
  pub mid : Story
  pub fewer : ℕ
  pub does : DoesOf s i a said mid
  pub more : RunsOn DoesOf programs (tell [] None) i (next_of todo said memory) mid fewer o after

pub run_by : (i : ℕ) (todo : Todo) (s : Story) (n : ℕ) (o : Outcome) (after : Story) → RunsOn DoesOf programs (tell [] None) i todo s n o after
    → (a : Act) → act_of todo ≡ Some a → Blocks i todo a s o after ⊎ Moves i todo a s o after
run_by i _ _ _ _ _ (has_ended replies standing s) a is = absurd (none-some a is)
run_by i _ _ _ _ _ (is_blocked todo b s mid said sessions has does waits) a is =
    inl (record { sessions = sessions; does = subst (λ x. DoesOf s i a x mid) (waits_said b said sessions waits) (subst (λ x. DoesOf s i x said mid) (same_act b a (sym has ∙ is)) does); comes = refl })
run_by i _ _ _ _ _ (goes_on todo b s mid after said memory fewer o has does free more) a is =
    inr (record { said = said; memory = memory; mid = mid; fewer = fewer; does = subst (λ x. DoesOf s i x said mid) (same_act b a (sym has ∙ is)) does; more = more })

-- it ends with these replies
pub record EndsBy (replies : List Reply) (o : Outcome) : Type 0 where
  pub standing : Standing
  pub is : o ≡ ended replies standing

says_of : (replies other : List Reply) (standing another : Standing) → says replies standing ≡ says other another → replies ≡ other
says_of replies other standing another e = cc

acts_not : (a : Act) (replies : List Reply) (standing : Standing) (todo : Todo) → todo ≡ says replies standing → act_of todo ≡ Some a → ⊥
acts_not a replies standing todo e has = none-some a (sym (ap act_of e) ∙ has)

run_says : (i : ℕ) (todo : Todo) (s : Story) (n : ℕ) (o : Outcome) (after : Story) → RunsOn DoesOf programs (tell [] None) i todo s n o after
    → (replies : List Reply) (standing : Standing) → todo ≡ says replies standing → EndsBy replies o
run_says i _ _ _ _ _ (has_ended others standing' s) replies standing is = record { standing = standing'; is = ap (λ r. ended r standing') (says_of others replies standing' standing is) }
run_says i _ _ _ _ _ (is_blocked todo b s mid said sessions has does waits) replies standing is = absurd (acts_not b replies standing todo is has)
run_says i _ _ _ _ _ (goes_on todo b s mid after said memory fewer o has does free more) replies standing is = absurd (acts_not b replies standing todo is has)

pub ends_said : (i : ℕ) (replies : List Reply) (standing : Standing) (s : Story) (n : ℕ) (o : Outcome) (after : Story)
    → RunsOn DoesOf programs (tell [] None) i (says replies standing) s n o after → EndsBy replies o
ends_said i replies standing s n o after r = run_says i (says replies standing) s n o after r replies standing refl

stays_said : (i : ℕ) (todo : Todo) (s : Story) (n : ℕ) (o : Outcome) (after : Story) → RunsOn DoesOf programs (tell [] None) i todo s n o after
    → (replies : List Reply) (standing : Standing) → todo ≡ says replies standing → after ≡ s
stays_said i _ _ _ _ _ (has_ended others standing' s) replies standing is = refl
stays_said i _ _ _ _ _ (is_blocked todo b s mid said sessions has does waits) replies standing is = absurd (acts_not b replies standing todo is has)
stays_said i _ _ _ _ _ (goes_on todo b s mid after said memory fewer o has does free more) replies standing is = absurd (acts_not b replies standing todo is has)

pub stays_there : (i : ℕ) (replies : List Reply) (standing : Standing) (s : Story) (n : ℕ) (o : Outcome) (after : Story)
    → RunsOn DoesOf programs (tell [] None) i (says replies standing) s n o after → after ≡ s
stays_there i replies standing s n o after r = stays_said i (says replies standing) s n o after r replies standing refl

-- one step of it
pub record Once (i : ℕ) (todo : Todo) (a : Act) (s : Story) (o : Outcome) (after : Story) : Type 0 where
  pub said : Answer
  pub memory : Bool
  pub does : DoesOf s i a said after
  pub comes : o ≡ outcome_of (event a said) todo (next_of todo said memory)

pub step_by : (i : ℕ) (todo : Todo) (s : Story) (o : Outcome) (after : Story) → StepsOnce DoesOf programs (tell [] None) i todo s o after
    → (a : Act) → act_of todo ≡ Some a → Once i todo a s o after
step_by i _ _ _ _ (had_ended replies standing s) a is = absurd (none-some a is)
step_by i _ _ _ _ (steps_once todo b s after said memory has does) a is = record {
  said = said;
  memory = memory;
  does = subst (λ x. DoesOf s i x said after) (same_act b a (sym has ∙ is)) does;
  comes = ap (λ x. outcome_of (event x said) todo (next_of todo said memory)) (same_act b a (sym has ∙ is));
}

-- ---- lines

-- a byte of a text
abbrev pub byte : ℕ → List ℕ → ℕ
byte n [] = 0
byte ℕ.zero (b ∷ bytes) = b
byte (ℕ.suc n) (b ∷ bytes) = byte n bytes

-- the first line does something itself, and what that prints begins the output
pub record Begins (said : Said) (table : Table) (s : Story) (out : List ℕ) : Type 0 where
  pub own : List ℕ
  pub rest : List ℕ
  pub mid_table : Table
  pub mid : Story
  pub first : Own DoesOf programs (tell [] None) said table s own mid_table mid
  pub whole : out ≡ own ++ rest

pub line_begins : (all : List ℕ) (said : Said) (table : Table) (s : Story) (piece : List ℕ) (later_table : Table) (after : Story)
    → RunsLine DoesOf programs (tell [] None) all said table s piece later_table after → Begins said table s piece
line_begins all said table s piece later_table after r = record { own = r.own; rest = r.more; mid_table = r.mid_table; mid = r.mid; first = r.first; whole = r.whole }

pub lines_begin : (all : List ℕ) (said : Said) (more : List Said) (table : Table) (s : Story) (out : List ℕ) (later_table : Table) (after : Story)
    → RunsLines DoesOf programs (tell [] None) all (said ∷ more) table s out later_table after → Begins said table s out
lines_begin all said more table s out later_table after (piece, mid_table, mid, rest, line, is, others) = record {
  own = line.own;
  rest = line.more ++ rest;
  mid_table = line.mid_table;
  mid = line.mid;
  first = line.first;
  whole = is ∙ (ap (λ p. p ++ rest) line.whole ∙ append_assoc line.own line.more rest);
}
