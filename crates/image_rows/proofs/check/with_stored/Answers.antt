use Rattle.std.proofs.Common.{List, ℕ, Some, inl, inr, refl, sym, ap, subst, ◌∙◌}
use Rattle.std.proofs.lemmas.Bool.{false≢true}
use Rattle.iv_meaning.specs.Objects.{schema_of}
use Rattle.txn_log.specs.Damaged.{EntryStands}
use Rattle.image_rows.proofs.check.with_stored.Goals as goal

pub returns-then-branch : goal.returns-then-branch
returns-then-branch c =
    inl (subst (λ (v : List ℕ). EntryStands (schema_of c.args.catalog.now) ((c.args.index, c.args.key.now), v)) c.as_slice.ensures (c.in_ok-entry_stands.ensures.0 c.if-branch.true), refl)

pub returns : goal.returns
returns c = inr (
  (λ s. false≢true (sym c.if-branch.false ∙ c.in_ok-entry_stands.ensures.1 (subst (λ (v : List ℕ). EntryStands (schema_of c.args.catalog.now) ((c.args.index, c.args.key.now), v)) (sym c.as_slice.ensures) s))),
  ap Some c.lesser.ensures,
)
