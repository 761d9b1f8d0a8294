-- After each line, what waiting sessions ask for is locked by others.
use Rattle.std.specs.Prelude.{◌≡◌, ◌≢◌, ℕ, zero, suc, List, [], ◌∷◌}
use Rattle.std.specs.List.{Contains}
use mathlib.Core.Path.{refl, sym, ap, subst, ◌∙◌}
use mathlib.Core.Logic.{inl, inr}
use Rattle.std.proofs.Common.{arith}
use Rattle.iv_types.specs.declared.session.Sessions.{Sessions}
use Rattle.iv_types.specs.declared.refusal.Refusal.{Refusal}
use Rattle.iv_types.specs.declared.refusal.EngineRefusal.{EngineRefusal}
use Rattle.iv_types.specs.declared.reply.Reply.{Reply}
use Rattle.iv_types.specs.Replies.{members}
use Rattle.table_laws.proofs.Stored.{by_session}
use Rattle.txn_machine.specs.Acts as act
use Rattle.txn_machine.specs.Acts.{Act}
use Rattle.txn_machine.specs.Answers as answer
use Rattle.txn_machine.specs.Answers.{Answer}
use Rattle.txn_machine.specs.Locks.{with_one, IsInTheWay}
use Rattle.txn_machine.specs.Ghosts.{the_views}
use Rattle.txn_machine.specs.Store.{locks_of, run}
use Rattle.txn_machine.specs.State.{State}
use Rattle.txn_machine.specs.Steps.{asked, IsBlocked}
use Rattle.txn_machine.specs.Alone.{Story}
use Rattle.txn_machine.proofs.Basics.{contains_none, one_same, one_other}
use Rattle.txn_machine.proofs.Holding.{by_contains, contains_here}
use Rattle.script_law.specs.Seen.{Waits, event}
use Rattle.script_law.specs.Programs.{Standing, Todo, Programs}
use Rattle.script_law.specs.RunLines.{Line, idle, waiting, stepping, held, AtTable, Table, set_seat, seat_run, Outcome, ended, stuck, RunsOn, has_ended, is_blocked, goes_on, Tries, Pass, Passes, all_sessions}
use Rattle.script_law.specs.Machine.{DoesOf, IsHindered, HinderedLaw}
use Rattle.script_law.proofs.Basics.{if_same, if_other}

waits_said : (a : Act) (said : Answer) (sessions : Sessions) → event a said ≡ Waits sessions → said ≡ answer.Blocked sessions
waits_said (act.Fetch index interval mode) (answer.Blocked x) sessions e = cc
waits_said (act.Put table key new) (answer.Blocked x) sessions e = cc
waits_said act.Pay (answer.Blocked x) sessions e = cc
waits_said _ (answer.Refused why) sessions e = absurd (cc)
waits_said _ _ sessions e = absurd (cc)

-- ---- a step that was blocked

pub record WasBlocked (s : Story) (n : ℕ) (mid : Story) : Type 0 where
  pub store : mid.state.store ≡ s.state.store
  pub others : (m : ℕ) → m ≢ n → mid.state.waiting m ≡ s.state.waiting m
  pub hindered : IsHindered mid n

first_of : (sessions : List ℕ) → sessions ≢ [] → (other : ℕ) × Contains sessions other
first_of [] n = absurd (n refl)
first_of (x ∷ xs) n = (x, contains_here x xs)

pub blocked_so : (s mid : Story) (n : ℕ) (a : Act) (sessions : Sessions) → DoesOf s n a (answer.Blocked sessions) mid → WasBlocked s n mid
blocked_so s mid n a sessions h = elim h.1.does [
  | inl x ↦
      let blocked : IsBlocked s.state n (asked s.state.store n a) sessions = x.says.1 in
      let other = first_of (members sessions) blocked.not_empty in
      let way : IsInTheWay (locks_of s.state.store) n (asked s.state.store n a) other.0 = (blocked.in_the_way other.0).0 other.1 in
      let store_is : mid.state.store ≡ s.state.store = ap (λ (z : Story). z.state.store) h.2 ∙ ap (λ (z : State). z.store) x.left ∙ ap (run the_views s.state.store n) x.says.2 in
      let waits_is : mid.state.waiting ≡ with_one s.state.waiting n (asked s.state.store n a) = ap (λ (z : Story). z.state.waiting) h.2 ∙ ap (λ (z : State). z.waiting) x.left in
      record {
        store = store_is;
        others = λ m d. ap (λ f. f m) waits_is ∙ one_other s.state.waiting n (asked s.state.store n a) m d;
        hindered = (other.0, subst (λ x. x) (λ k. IsInTheWay (locks_of (sym store_is k)) n (sym (ap (λ f. f n) waits_is ∙ one_same s.state.waiting n (asked s.state.store n a) n refl) k) other.0) way);
      }
  | inr x ↦ absurd (let e = x.says in cc)
]

-- ---- a pass in which no session moves

module _ (programs : Programs) (tell : EngineRefusal → Refusal) where
  abbrev WaitsWell : Table → Story → ℕ → Type 0
  WaitsWell table s n = (todo : Todo) → (table n).line ≡ waiting todo → IsHindered s n

  -- what a try that does not move leaves
  data Tried (n : ℕ) (s : Story) : Outcome → Story → Type 0 where
    tried_ended : (replies : List Reply) (standing : Standing) → Tried n s (ended replies standing) s
    tried_stuck : (sessions : Sessions) (todo : Todo) (mid : Story) → WasBlocked s n mid → Tried n s (stuck sessions todo) mid

  tried : (n : ℕ) (todo : Todo) (s : Story) (some : ℕ) (o : Outcome) (mid : Story) → RunsOn DoesOf programs tell n todo s some o mid → some ≡ 0 → Tried n s o mid
  tried n _ _ _ _ _ (has_ended replies standing s) e = tried_ended replies standing
  tried n _ _ _ _ _ (is_blocked todo a s mid said sessions has does is) e =
      tried_stuck sessions todo mid (blocked_so s mid n a sessions (subst (λ x. DoesOf s n a x mid) (waits_said a said sessions is) does))
  tried n _ _ _ _ _ (goes_on todo a s mid after said memory fewer o has does free more) e = absurd (omega (arith, e))

  -- what a pass that does not move leaves
  record Passed (ns : List ℕ) (table : Table) (s : Story) (table' : Table) (s' : Story) : Type 0 where
    pub keeps : (n : ℕ) → WaitsWell table s n → WaitsWell table' s' n
    pub makes : (n : ℕ) → Contains ns n → WaitsWell table' s' n

  -- a session that was tried waits well, and one that did stays so
  after_try : (n : ℕ) (s : Story) (o : Outcome) (mid : Story) (table : Table) → Tried n s o mid → ((m : ℕ) → WaitsWell table s m → WaitsWell (set_seat table n (seat_run o)) mid m) × WaitsWell (set_seat table n (seat_run o)) mid n
  after_try n s _ _ table (tried_ended replies standing) =
      let own : WaitsWell (set_seat table n (seat_run (ended replies standing))) s n = λ todo e. absurd (let x = sym (ap (λ (y : AtTable). y.line) (if_same n (seat_run (ended replies standing)) (table n))) ∙ e in cc) in (
        λ m h. by_session m n (λ is. subst (WaitsWell (set_seat table n (seat_run (ended replies standing))) s) (sym is) own)
            (λ d todo e. h todo (sym (ap (λ (y : AtTable). y.line) (if_other m n (seat_run (ended replies standing)) (table m) d)) ∙ e)),
        own,
      )
  after_try n s _ _ table (tried_stuck sessions todo mid b) =
      let own : WaitsWell (set_seat table n (seat_run (stuck sessions todo))) mid n = λ x e. b.hindered in (
        λ m h. by_session m n (λ is. subst (WaitsWell (set_seat table n (seat_run (stuck sessions todo))) mid) (sym is) own)
            (λ d x e.
            let before = h x (sym (ap (λ (y : AtTable). y.line) (if_other m n (seat_run (stuck sessions todo)) (table m) d)) ∙ e) in
            (before.0, subst (λ z. z) (λ k. IsInTheWay (locks_of (sym b.store k)) m (sym (b.others m d) k) before.0) before.1)),
        own,
      )

  pass_none : (ns : List ℕ) (moved : ℕ) (table : Table) (s : Story) (piece : List ℕ) (table' : Table) (s' : Story) → moved ≡ 0 → Pass DoesOf programs tell ns moved table s piece table' s' → Passed ns table s table' s'
  pass_none [] moved table s piece table' s' none r = subst (λ z. z) (λ k. Passed [] table s (sym r.1 k) (sym r.2 k)) (record { keeps = λ n h. h; makes = λ n c. absurd (contains_none n c) })
  pass_none (n ∷ ns) moved table s piece table' s' none r = by (λ moved table s piece none r. pass_none ns moved table s piece table' s' none r) (table n).line refl r
    where
      -- its line does not wait
      skip : ((moved : ℕ) (table : Table) (s : Story) (piece : List ℕ) → moved ≡ 0 → Pass DoesOf programs tell ns moved table s piece table' s' → Passed ns table s table' s') → WaitsWell table s n
          → Pass DoesOf programs tell ns moved table s piece table' s' → Passed (n ∷ ns) table s table' s'
      skip rest own r =
          let p = rest moved table s piece none r in
          record { keeps = p.keeps; makes = λ m c. by_contains n ns m c (λ is. subst (WaitsWell table' s') is (p.keeps n own)) (λ d. p.makes m d) }

      by : ((moved : ℕ) (table : Table) (s : Story) (piece : List ℕ) → moved ≡ 0 → Pass DoesOf programs tell ns moved table s piece table' s' → Passed ns table s table' s') → (line : Line) → (table n).line ≡ line
          → Tries DoesOf programs tell n line moved (Pass DoesOf programs tell ns) table s piece table' s' → Passed (n ∷ ns) table s table' s'
      by rest (waiting todo) is (some, o, mid, others, more, run, later, told, sum) =
          let a = after_try n s o mid table (tried n todo s some o mid run (omega (arith, none, sum))) in
          let p = rest others (set_seat table n (seat_run o)) mid more (omega (arith, none, sum)) later in
          record {
            keeps = λ m h. p.keeps m (a.0 m h);
            makes = λ m c. by_contains n ns m c (λ same. subst (WaitsWell table' s') same (p.keeps n a.1)) (λ d. p.makes m d);
          }
      by rest idle is r = skip rest (λ todo e. absurd (let x = sym is ∙ e in cc)) r
      by rest (stepping todo) is r = skip rest (λ todo e. absurd (let x = sym is ∙ e in cc)) r
      by rest (held todo) is r = skip rest (λ todo e. absurd (let x = sym is ∙ e in cc)) r

  passes : (all : List ℕ) (count : ℕ) (table : Table) (s : Story) (piece : List ℕ) (table' : Table) (s' : Story) → Passes DoesOf programs tell all count table s piece table' s'
      → (n : ℕ) → Contains all n → WaitsWell table' s' n
  passes all zero table s piece table' s' r n c = (pass_none all 0 table s piece table' s' refl r).makes n c
  passes all (suc count) table s piece table' s' (moved, first, mid_table, mid, more, one, others, is) n c = passes all count mid_table mid more table' s' others n c

pub hindered_law : HinderedLaw
hindered_law programs tell said table after_table s after piece r session c todo e = passes programs tell all_sessions r.passes r.mid_table r.mid r.more after_table after r.later session c todo e
