use Rattle.std.proofs.Common.{◌∙◌, inl, inr, refl, subst, sym}
use Rattle.std.proofs.lemmas.Bool.{false≢true}
use Rattle.script_run.specs.Summary.{IsRolledBack, LacksMemory}
use Rattle.script_run.proofs.Pieces.{made_more}
use Rattle.script_run.proofs.Ran.{runs_on}
use Rattle.script_run.proofs.made.answer.Goals as goal

pub returns-then-is_rolled_back-clause-ran : goal.returns-then-is_rolled_back-clause-ran
returns-then-is_rolled_back-clause-ran g c = λ s db lines pieces st h.
    made_more _ db lines pieces _ _ _ _ _ s _ _ c.clear.ensures.items h
    (λ l. false≢true (sym c.if-lacks_memory.false ∙ c.lacks_memory.ensures.1 (subst LacksMemory (sym c.deref.ensures.value) l)))
    (inl (subst (IsRolledBack c.args.line.now) c.deref-2.ensures.value (c.is_rolled_back.ensures.0 c.if-is_rolled_back.true), refl))
    (c.in_ok-one_line.ensures.ran s db h.said h.out st h.ran)

pub returns-else-is_rolled_back-clause-ran : goal.returns-else-is_rolled_back-clause-ran
returns-else-is_rolled_back-clause-ran g c = λ s db lines pieces st h.
    made_more _ db lines pieces _ _ _ _ _ s _ _ c.clear.ensures.items h
    (λ l. false≢true (sym c.if-lacks_memory.false ∙ c.lacks_memory.ensures.1 (subst LacksMemory (sym c.deref.ensures.value) l)))
    (inr (λ r. false≢true (sym c.if-is_rolled_back.false ∙ c.is_rolled_back.ensures.1 (subst (IsRolledBack c.args.line.now) (sym c.deref-2.ensures.value) r)), refl))
    (c.in_ok-one_line.ensures.ran s db h.said h.out st h.ran)

pub returns-then-is_rolled_back-clause-running : goal.returns-then-is_rolled_back-clause-running
returns-then-is_rolled_back-clause-running g c =
    let r = c.requires.running in
    runs_on r.db r.lines r.out _ _ r.so_far.story _ _ _ (c.in_ok-one_line.ensures.ran r.so_far.story r.db r.lines r.out r.so_far.stands r.so_far.holds)

pub returns-else-is_rolled_back-clause-running : goal.returns-else-is_rolled_back-clause-running
returns-else-is_rolled_back-clause-running g c =
    let r = c.requires.running in
    runs_on r.db r.lines r.out _ _ r.so_far.story _ _ _ (c.in_ok-one_line.ensures.ran r.so_far.story r.db r.lines r.out r.so_far.stands r.so_far.holds)
