use Rattle.std.proofs.Common.{◌≡◌, ◌+◌, true, sym, ◌∙◌, subst, arith, inl, inr}
use Rattle.iv_types.specs.declared.session.Sessions.{Sessions}
use Rattle.lock_manager.specs.Table.{locks_of}
use Rattle.lock_manager.specs.Suspects.{IsFound}
use Rattle.lock_manager.proofs.Keys.{true_false}
use Rattle.lock_manager.proofs.Ways.{AreBefore, none_before, more_before, not_before, all_before}
use Rattle.lock_manager.proofs.table.with_those.Goals as goal
use Rattle.lock_manager.proofs.table.with_those.Goals.{then-is_found, else-is_found}

pub returns-then-not-is_somebody : goal.returns-then-not-is_somebody
returns-then-not-is_somebody c other = (
  λ h. inl h,
  λ h. elim h [ inl there ↦ there | inr (suspect, met) ↦ let t : c.is_somebody.result ≡ true = c.is_somebody.ensures.1 (other, suspect) in true_false (sym t ∙ c.if-not-is_somebody.true) ],
)

pub loop-other-init : goal.loop-other-init
loop-other-init c = none_before c.args.found (IsFound c.args.suspects (locks_of c.args.parts.now) c.args.session c.args.want.now) (λ other f. let (suspect, met) = f in met.of_session)

pub loop-other-preserved : goal.loop-other-preserved
loop-other-preserved c =
    let P = IsFound c.args.suspects (locks_of c.args.parts.now) c.args.session c.args.want.now in
    elim c.if-is_found.branch [
      | then-is_found w ↦
          subst (λ (s : Sessions). AreBefore c.args.found P (c.loop-other.other + 1) s) (sym w.sessions-is)
          (more_before c.args.found P (λ other f. let (suspect, met) = f in met.of_session) c.loop-other.other c.loop-other.sessions w.with-sessions.result c.loop-other.invariant (c.is_found.ensures.0 w.if-is_found.true) w.with-sessions.ensures)
      | else-is_found w ↦
          subst (λ (s : Sessions). AreBefore c.args.found P (c.loop-other.other + 1) s) (sym w.sessions-is)
          (not_before c.args.found P (λ other f. let (suspect, met) = f in met.of_session) c.loop-other.other c.loop-other.sessions c.loop-other.invariant (λ found. let t : c.is_found.result ≡ true = c.is_found.ensures.1 found in true_false (sym t ∙ w.if-is_found.false)))
    ]

pub returns : goal.returns
returns c = all_before c.args.found (IsFound c.args.suspects (locks_of c.args.parts.now) c.args.session c.args.want.now) (λ other f. let (suspect, met) = f in met.of_session) c.loop-other.other c.loop-other.sessions (omega arith) c.loop-other.invariant
