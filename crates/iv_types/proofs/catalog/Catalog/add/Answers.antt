use Rattle.std.proofs.Common.{◌≡◌, ◌+◌, ◌<◌, ◌++◌, [], ◌∷◌, length, sym, ap, subst, ◌∙◌, arith}
use Rattle.std.proofs.lemmas.List.{length-map}
use Rattle.std.specs.Map.{values_of}
use Rattle.iv_types.specs.Definitions.{name_of, named, AreKept, AreFew, AreNamed, how_many_alike}
use Rattle.iv_types.specs.declared.limit.TheConstants.{MOST_OBJECTS}
use Rattle.iv_types.proofs.Catalogs.{kept_more, added, values_added, few_more, named_more}
use Rattle.iv_types.proofs.catalog.Catalog.add.Goals as goal

-- the entries after the insertion
entries_are : (c : goal.After-let_go_replaced) → c.insert.new.self.entries ≡ c.self.inside.named.entries ++ (c.in-Ok.name, c.args.definition) ∷ []
entries_are c = c.in_ok-replaced-in-Ok.ensures.entries ∙ added c.self.inside.named c.in-Ok.name c.args.definition c.self.invariant.0 c.in-Ok.ensures (ap (λ v. named v (name_of c.args.definition)) c.self.view_is ∙ c.requires.name)

-- src/catalog.rt:169:17
pub invariant_of-self-in-Ok : goal.invariant_of-self-in-Ok
invariant_of-self-in-Ok c = (
  subst (AreKept 0) (sym (entries_are c)) (kept_more 0 c.self.inside.named.entries c.in-Ok.name c.args.definition c.self.invariant.0 c.in-Ok.ensures (c.requires.number ∙ ap (λ v. length v + 1) (sym c.self.view_is) ∙ ap (λ n. n + 1) (length-map c.self.inside.named.entries (λ e. e.1)) ∙ omega arith)),
  subst AreFew (sym (ap values_of (entries_are c) ∙ values_added c.self.inside.named.entries c.in-Ok.name c.args.definition))
      (few_more (values_of c.self.inside.named.entries) c.args.definition c.self.invariant.1 (subst (λ ds. how_many_alike c.args.definition ds < MOST_OBJECTS) (sym c.self.view_is) c.requires.room)),
  subst AreNamed (sym (ap values_of (entries_are c) ∙ values_added c.self.inside.named.entries c.in-Ok.name c.args.definition))
      (named_more (values_of c.self.inside.named.entries) c.args.definition c.self.invariant.2 (ap (λ v. named v (name_of c.args.definition)) c.self.view_is ∙ c.requires.name)),
)

-- src/catalog.rt:159:5
pub returns-in_ok-replaced-in-Ok-clause-ok : goal.returns-in_ok-replaced-in-Ok-clause-ok
returns-in_ok-replaced-in-Ok-clause-ok c =
    ap values_of (entries_are c) ∙ values_added c.self.inside.named.entries c.in-Ok.name c.args.definition ∙ ap (λ v. v ++ c.args.definition ∷ []) c.self.view_is

-- src/catalog.rt:231:32
pub invariant_of-self : goal.invariant_of-self
invariant_of-self c = subst (λ es. AreKept 0 es × AreFew (values_of es) × AreNamed (values_of es)) (sym c.in_err-replaced-in-Ok.ensures.err) c.self.invariant
