use Rattle.std.proofs.Common.{◌+◌, refl, sym, subst, ◌∙◌, arith}
use Rattle.std.proofs.lemmas.Bool.{true≢false}
use Rattle.table_laws.proofs.Stored.{by_session}
use Rattle.iv_types.specs.declared.lock.LockMode.TheVariants.{Increment}
use Rattle.lock_manager.specs.Table.{Covers, HasSome, locks_of}
use Rattle.core_upkeep.proofs.cleaning.is_unlocked.Goals as goal

pub returns-then-holds : goal.returns-then-holds
returns-then-holds c = (
  λ t. absurd (true≢false (sym t)),
  λ free. absurd (free (c.loop-done.done + 1) (omega arith, (let l = c.loop-done-test.true in omega (arith, l))) (c.holds.ensures.0 c.if-holds.true)),
)

pub loop-done-preserved : goal.loop-done-preserved
loop-done-preserved c = λ k low high some. by_session k (c.loop-done.done + 1)
    (λ e. true≢false (sym (c.holds.ensures.1 (subst (λ j. HasSome (Covers c.args.view c.args.group.now Increment) (locks_of c.args.locks.now j)) e some)) ∙ c.if-holds.false))
    (λ ne. c.loop-done.invariant k low (omega (arith, high, ne)) some)

pub returns : goal.returns
returns c = (λ t k is some. c.loop-done.invariant k is.0 (let h = is.1 in let l = c.loop-done-test.false in omega (arith, h, l)) some, λ free. refl)
