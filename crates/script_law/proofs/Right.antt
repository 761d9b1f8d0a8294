-- The programs of all statements are right.
use Rattle.std.specs.Prelude.{◌≡◌, ℕ, Bool, Some, None}
use mathlib.Core.Path.{refl, sym, subst, ◌∙◌}
use mathlib.Core.Logic.{inl}
use Rattle.iv_types.specs.declared.statement.Mode.{Mode}
use Rattle.iv_types.specs.Syntax.{StatementTree}
use Rattle.iv_meaning.specs.Serial.{Unended}
use Rattle.iv_meaning.specs.Transaction.{refused_outside}
use Rattle.script_law.specs.Seen.{Txn}
use Rattle.script_law.specs.Programs.{Standing, IsAt, Starts, ProgramLaws}
use Rattle.script_law.specs.Works.{Works, WorkLaws}
use Rattle.script_law.specs.Sessions.{start_inside, start_outside, refused_marked, programs_of}
use Rattle.script_law.specs.Laws.{ProgramsLaw}
use Rattle.script_law.proofs.Lone.{refused_same}
use Rattle.script_law.proofs.Inside.{inside_serves}
use Rattle.script_law.proofs.Outside.{outside_starts}

module _ (works : Works) (laws : WorkLaws works) where
  refuses_by : (standing : Standing) (mode : Mode) (statement : StatementTree) → standing.mode ≡ Some mode → (programs_of works).refuses standing statement ≡ refused_marked mode standing.saved statement
  refuses_by standing mode statement e = λ k. elim (e k) [ None ↦ refused_outside statement | Some m ↦ refused_marked m standing.saved statement ]

  starts_by : (standing : Standing) (mode : Mode) (statement : StatementTree) → standing.mode ≡ Some mode → (programs_of works).start standing statement ≡ start_inside works mode standing statement
  starts_by standing mode statement e = λ k. elim (e k) [ None ↦ start_outside works standing.copy statement | Some m ↦ start_inside works m standing statement ]

  inside : (b : Bool) (o : Unended) (t : Txn) (standing : Standing) (statement : StatementTree) (number : ℕ) → IsAt b o t standing → (programs_of works).refuses standing statement ≡ None
      → Starts b (record { statement = statement; before = Some o; number = number; copy = standing.copy }) (Some t) ((programs_of works).start standing statement)
  inside b o t standing statement number at e =
      subst (Starts b (record { statement = statement; before = Some o; number = number; copy = standing.copy }) (Some t)) (sym (starts_by standing o.mode statement at.mode_is))
      (inl (inside_serves works laws o t standing number b statement at (sym (refuses_by standing o.mode statement at.mode_is) ∙ e)))

  pub program_laws : ProgramLaws (programs_of works)
  program_laws = record {
    refuses_outside = λ copy statement. refl;
    refuses_inside = λ standing mode saved statement is names. refuses_by standing mode statement is ∙ refused_same mode saved standing.saved statement names;
    starts_outside = λ b t copy statement number out g e. outside_starts works laws b t copy statement number out g e;
    starts_inside = inside;
  }

pub programs_law : ProgramsLaw
programs_law works laws = program_laws works laws
