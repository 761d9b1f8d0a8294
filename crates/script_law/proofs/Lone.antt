-- Transactions that run alone: they leave sound databases of the same definitions, and their savepoints.
use Rattle.std.specs.Prelude.{◌≡◌, ℕ, ◌-◌, Bool, true, false, cond, nat_le, List, [], ◌∷◌, ◌++◌, reverse, length, drop, Option, Some, None}
use Rattle.std.specs.Str.{bytes_eq}
use mathlib.Core.Path.{refl, sym, ap, subst, ◌∙◌}
use mathlib.Core.Logic.{inl, inr}
use Rattle.std.proofs.Common.{arith, append-nil}
use Rattle.std.proofs.lemmas.List.{length-append, append_assoc}
use Rattle.iv_types.specs.declared.refusal.Refusal.{Refusal}
use Rattle.iv_types.specs.declared.refusal.Refusal.TheVariants.{UnknownSavepoint, Limit}
use Rattle.iv_types.specs.declared.limit.Limit.TheVariants.{Savepoints}
use Rattle.iv_types.specs.declared.statement.Mode.{Mode}
use Rattle.iv_types.specs.declared.statement.Mode.TheVariants.{Serial}
use Rattle.iv_types.specs.Syntax.{StatementTree, insert, update, delete, select, commit, rollback, savepoint}
use Rattle.iv_meaning.specs.Schema.{Schema}
use Rattle.iv_meaning.specs.Database.{Row, Database}
use Rattle.iv_meaning.specs.Statement.{Kept, keep_all, Meaning, Refused, Accepted}
use Rattle.iv_meaning.specs.Transaction.{Saved, Running, Response, told, means, inside, accepted, alone_from, from_named, back_to, refused_inside, refused_return, most_savepoints}
use Rattle.txn_machine.specs.Deltas.{RowChange}
use Rattle.txn_machine.specs.ViewLaws.{AreSound}
use Rattle.script_law.specs.Seen.{changes, in_order}
use Rattle.script_law.specs.Programs.{names_of, marked_names, oldest, EndsInChange, AreWhole, AreMarks, AreSaved}
use Rattle.script_law.specs.Works.{Work, refuses, fetches, puts, alone_on, is_work, Works, WorkLaws}
use Rattle.script_law.specs.Works as work
use Rattle.script_law.specs.Sessions.{from_marked, refused_marked}
use Rattle.script_law.proofs.Showing.{in_order_is, sets_keep}
use Rattle.script_law.proofs.Refusing.{inside_refused, inside_accepted}

-- ---- marks

drop_append : (xs ys : List (Option RowChange)) → drop (length xs) (xs ++ ys) ≡ ys
drop_append [] ys = refl
drop_append (x ∷ xs) ys = drop_append xs ys

pub oldest_of : (later earlier : List (Option RowChange)) → oldest (length earlier) (later ++ earlier) ≡ earlier
oldest_of later earlier =
    let many : length (later ++ earlier) - length earlier ≡ length later = ap (λ n. n - length earlier) (length-append later earlier) ∙ omega (arith) in
    ap (λ n. drop n (later ++ earlier)) many ∙ drop_append later earlier

-- so it is where more is kept
pub oldest_more : (more kept later earlier : List (Option RowChange)) (n : ℕ) → kept ≡ later ++ earlier → length earlier ≡ n → oldest n (more ++ kept) ≡ earlier
oldest_more more kept later earlier n is many =
    (λ k. oldest (sym many k) (more ++ is k)) ∙ ap (oldest (length earlier)) (sym (append_assoc more later earlier)) ∙ oldest_of (more ++ later) earlier

ends_append : (xs ys : List (Option RowChange)) → EndsInChange ys → EndsInChange (xs ++ ys)
ends_append [] ys h = h
ends_append (x ∷ []) [] h = absurd h
ends_append (x ∷ []) (y ∷ ys) h = h
ends_append (x ∷ z ∷ xs) ys h = ends_append (z ∷ xs) ys h

whole_append : (xs ys : List (Option RowChange)) → AreWhole xs → AreWhole ys → AreWhole (xs ++ ys)
whole_append xs ys h (inl e) = subst (λ l. AreWhole (xs ++ l)) (sym e) (subst AreWhole (sym (append-nil xs)) h)
whole_append xs ys h (inr e) = inr (ends_append xs ys e)

pub marks_more : (more kept : List (Option RowChange)) (marks : List (List ℕ × ℕ)) → AreWhole more → AreMarks kept marks → AreMarks (more ++ kept) marks
marks_more more kept [] whole h = tt
marks_more more kept (p ∷ ps) whole h = (more ++ h.0, h.1, ap (λ l. more ++ l) h.2 ∙ sym (append_assoc more h.0 h.1), h.3, whole_append more h.0 whole h.4, h.5)

pub saved_more : (db : Database) (more kept : List (Option RowChange)) (saved : List Saved) (marks : List (List ℕ × ℕ)) → AreMarks kept marks → AreSaved db kept saved marks → AreSaved db (more ++ kept) saved marks
saved_more db more kept [] [] m h = tt
saved_more db more kept [] (p ∷ ps) m h = h
saved_more db more kept (s ∷ ss) [] m h = h
saved_more db more kept (s ∷ ss) (p ∷ ps) m h =
    let same : oldest p.1 kept ≡ oldest p.1 (more ++ kept) = oldest_more [] kept m.0 m.1 p.1 m.2 m.3 ∙ sym (oldest_more more kept m.0 m.1 p.1 m.2 m.3) in
    (h.0 ∙ ap (λ l. in_order (changes l)) same, h.1, subst (λ l. AreSaved db l ss ps) same h.2)

-- ---- refusals by what a session knows

same_length : (saved : List Saved) (marks : List (List ℕ × ℕ)) → names_of saved ≡ marked_names marks → length saved ≡ length marks
same_length [] [] e = refl
same_length [] (p ∷ ps) e = absurd (cc)
same_length (s ∷ ss) [] e = absurd (cc)
same_length (s ∷ ss) (p ∷ ps) e = λ k. ℕ.suc (same_length ss ps (cc) k)

pub marked_from : (name : List ℕ) (marks : List (List ℕ × ℕ)) (kept : List (Option RowChange)) → AreMarks kept marks → AreMarks kept (from_marked name marks)
marked_from name [] kept h = h
marked_from name (p ∷ ps) kept h = by (marked_from name ps h.1 h.5) (bytes_eq name p.0)
  where
    by : AreMarks h.1 (from_marked name ps) → (b : Bool) → AreMarks kept (cond b (p ∷ ps) (from_marked name ps))
    by rest true = h
    by rest false = subst (λ l. AreMarks l (from_marked name ps)) (sym h.2) (marks_more h.0 h.1 (from_marked name ps) h.4 rest)

-- the savepoints from a name on, in both
pub record From (name : List ℕ) (saved : List Saved) (marks : List (List ℕ × ℕ)) : Type 0 where
  pub names : names_of (from_named name saved) ≡ marked_names (from_marked name marks)
  pub stand : (db : Database) (kept : List (Option RowChange)) → AreMarks kept marks → AreSaved db kept saved marks → AreSaved db kept (from_named name saved) (from_marked name marks)

pub from_both : (name : List ℕ) (saved : List Saved) (marks : List (List ℕ × ℕ)) → names_of saved ≡ marked_names marks → From name saved marks
from_both name [] [] e = record { names = refl; stand = λ db kept m h. h }
from_both name [] (p ∷ ps) e = absurd (cc)
from_both name (s ∷ ss) [] e = absurd (cc)
from_both name (s ∷ ss) (p ∷ ps) e = by (from_both name ss ps (cc)) (bytes_eq name s.name) refl
  where
    same_name : s.name ≡ p.0
    same_name = cc

    here : bytes_eq name p.0 ≡ bytes_eq name s.name
    here = ap (bytes_eq name) (sym same_name)

    by : From name ss ps → (b : Bool) → bytes_eq name s.name ≡ b → From name (s ∷ ss) (p ∷ ps)
    by rest true is = record {
      names = (λ k. names_of (cond (is k) (s ∷ ss) (from_named name ss))) ∙ e ∙ sym (λ k. marked_names (cond ((here ∙ is) k) (p ∷ ps) (from_marked name ps)));
      stand = λ db kept m h. subst (λ x. x) (λ k. AreSaved db kept (cond (sym is k) (s ∷ ss) (from_named name ss)) (cond (sym (here ∙ is) k) (p ∷ ps) (from_marked name ps))) h;
    }
    by rest false is = record {
      names = (λ k. names_of (cond (is k) (s ∷ ss) (from_named name ss))) ∙ rest.names ∙ sym (λ k. marked_names (cond ((here ∙ is) k) (p ∷ ps) (from_marked name ps)));
      stand = λ db kept m h. subst (λ x. x) (λ k. AreSaved db kept (cond (sym is k) (s ∷ ss) (from_named name ss)) (cond (sym (here ∙ is) k) (p ∷ ps) (from_marked name ps)))
          (lower db kept m h);
    }
      where
        lower : (db : Database) (kept : List (Option RowChange)) (m : AreMarks kept (p ∷ ps)) → AreSaved db kept (s ∷ ss) (p ∷ ps) → AreSaved db kept (from_named name ss) (from_marked name ps)
        lower db kept m h =
            let older : oldest p.1 kept ≡ m.1 = oldest_more [] kept m.0 m.1 p.1 m.2 m.3 in
            subst (λ l. AreSaved db l (from_named name ss) (from_marked name ps)) (sym m.2)
            (saved_more db m.0 m.1 (from_named name ss) (from_marked name ps) (marked_from name ps m.1 m.5) (rest.stand db m.1 m.5 (subst (λ l. AreSaved db l ss ps) older h.2)))

-- a session refuses by its marks what a lone transaction refuses by its savepoints
pub refused_same : (mode : Mode) (saved : List Saved) (marks : List (List ℕ × ℕ)) (statement : StatementTree) → names_of saved ≡ marked_names marks
    → refused_marked mode marks statement ≡ refused_inside mode saved statement
refused_same mode saved marks (savepoint name) e = ap (λ n. cond (nat_le most_savepoints n) (Some (Limit Savepoints)) None) (sym (same_length saved marks e))
refused_same mode saved marks (rollback (Some name)) e = by (from_named name saved) (from_marked name marks) (from_both name saved marks e).names
  where
    by : (ss : List Saved) (ps : List (List ℕ × ℕ)) → names_of ss ≡ marked_names ps → ◌≡◌ {A = Option Refusal} (elim ps [ [] ↦ Some (UnknownSavepoint name) | p ∷ more ↦ None ]) (refused_return name ss)
    by [] [] e = refl
    by [] (p ∷ ps) e = absurd (cc)
    by (s ∷ ss) [] e = absurd (cc)
    by (s ∷ ss) (p ∷ ps) e = refl
refused_same mode saved marks (rollback None) e = refl
refused_same mode saved marks commit e = refl
refused_same mode saved marks (select query order) e = refl
refused_same mode saved marks (insert table tuples) e = refl
refused_same mode saved marks (update table ss condition) e = refl
refused_same mode saved marks (delete table condition) e = refl
refused_same mode saved marks _ e = refl

-- ---- soundness

-- a work changes rows alone
pub only_sets : (w : Work) (db : Database) (cs : List RowChange) (listed : List Row) (count : ℕ) (kept : List Kept) → alone_on w db cs ≡ Accepted listed count kept → (ds : List RowChange) × (kept ≡ in_order ds)
only_sets (work.done rows n) db cs listed count kept e = (cs, cc)
only_sets (refuses why) db cs listed count kept e = absurd (cc)
only_sets (fetches index interval lock f) db cs listed count kept e = only_sets (f _) db cs listed count kept e
only_sets (puts table key new f) db cs listed count kept e = only_sets (f _) db (_ ∷ cs) listed count kept e

module _ (works : Works) (laws : WorkLaws works) (objects : Schema) where
  -- a database that a lone transaction may come to
  abbrev IsFine : Database → Type 0
  IsFine db = AreSound db.schema db.rows × (db.schema ≡ objects)

  abbrev AllFine : List Saved → Type 0
  AllFine [] = Unit {0}
  AllFine (s ∷ ss) = IsFine s.db × AllFine ss

  abbrev pub StandsFine : Running → Type 0
  StandsFine r = IsFine r.db × AllFine r.saved

  fine_from : (name : List ℕ) (saved : List Saved) → AllFine saved → AllFine (from_named name saved)
  fine_from name [] h = h
  fine_from name (s ∷ ss) h = by (fine_from name ss h.1) (bytes_eq name s.name)
    where
      by : AllFine (from_named name ss) → (b : Bool) → AllFine (cond b (s ∷ ss) (from_named name ss))
      by rest true = h
      by rest false = rest

  fine_back : (saved : List Saved) (r : Running) → AllFine saved → StandsFine r → StandsFine (back_to saved r)
  fine_back [] r s h = h
  fine_back (x ∷ xs) r s h = (s.0, s)

  fine_works : (statement : StatementTree) → is_work statement ≡ true → (r : Running) → StandsFine r → StandsFine (told (means statement r.db) r).after
  fine_works statement w r h = by (means statement r.db) refl
    where
      by : (m : Meaning) → means statement r.db ≡ m → StandsFine (told m r).after
      by (Refused why) e = h
      by (Accepted listed count kept) e =
          let ds = only_sets (works.work Serial r.db.schema statement) r.db [] listed count kept (laws.right Serial statement w r.db h.0.0 ∙ e) in
          let same : (keep_all kept r.db).schema ≡ r.db.schema = ap (λ ks. (keep_all ks r.db).schema) (ds.1 ∙ in_order_is ds.0) ∙ sets_keep (reverse ds.0) r.db in
          ((laws.sound statement w r.db h.0.0 listed count kept e, same ∙ h.0.1), h.1)

  fine_accepted : (mode : Mode) (statement : StatementTree) (r : Running) → refused_inside mode r.saved statement ≡ None → StandsFine r → StandsFine (accepted statement r).after
  fine_accepted mode (savepoint name) r e h = (h.0, (h.0, h.1))
  fine_accepted mode (rollback (Some name)) r e h = fine_back (from_named name r.saved) r (fine_from name r.saved h.1) h
  fine_accepted mode (rollback None) r e h = h
  fine_accepted mode commit r e h = h
  fine_accepted mode (select query order) r e h = fine_works (select query order) refl r h
  fine_accepted mode (insert table tuples) r e h = fine_works (insert table tuples) refl r h
  fine_accepted mode (update table ss condition) r e h = fine_works (update table ss condition) refl r h
  fine_accepted mode (delete table condition) r e h = fine_works (delete table condition) refl r h
  fine_accepted mode _ r e h = absurd (cc)

  fine_inside : (mode : Mode) (statement : StatementTree) (r : Running) → StandsFine r → StandsFine (inside mode statement r).after
  fine_inside mode statement r h = by (refused_inside mode r.saved statement) refl
    where
      by : (x : Option Refusal) → refused_inside mode r.saved statement ≡ x → StandsFine (inside mode statement r).after
      by (Some why) e = subst (λ (y : Response). StandsFine y.after) (sym (inside_refused mode statement r why e)) h
      by None e = subst (λ (y : Response). StandsFine y.after) (sym (inside_accepted mode statement r e)) (fine_accepted mode statement r e h)

  pub fine_alone : (mode : Mode) (statements : List StatementTree) (r : Running) → StandsFine r → StandsFine (alone_from mode statements r).1
  fine_alone mode [] r h = h
  fine_alone mode (x ∷ xs) r h = fine_alone mode xs (inside mode x r).after (fine_inside mode x r h)
