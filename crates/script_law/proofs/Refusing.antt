-- One statement more of a lone transaction; and a statement that is refused by its session's mode and savepoints.
use Rattle.std.specs.Prelude.{◌≡◌, ◌⊎◌, Bool, true, false, IsTrue, List, [], ◌∷◌, ◌++◌, map, length, Some, None}
use mathlib.Core.Path.{refl, sym, ap, subst, ◌∙◌}
use mathlib.Core.Logic.{inl, inr}
use Rattle.iv_types.specs.declared.refusal.Refusal.{Refusal}
use Rattle.iv_types.specs.declared.reply.Reply.{Reply}
use Rattle.iv_types.specs.declared.reply.Reply.TheVariants as reply
use Rattle.iv_types.specs.declared.statement.Mode.{Mode}
use Rattle.iv_types.specs.declared.statement.Mode.TheVariants.{Snapshot}
use Rattle.iv_types.specs.Syntax.{StatementTree, begin, commit, rollback}
use Rattle.iv_meaning.specs.Database.{Database}
use Rattle.iv_meaning.specs.Statement.{Refused}
use Rattle.iv_meaning.specs.Transaction.{Saved, Running, Response, outside, inside, alone_from, ended_by, refused_with, refused_outside, refused_inside, accepted, means}
use Rattle.iv_meaning.specs.Serial.{Unended}
use Rattle.script_law.specs.Seen.{Txn, IsTruthful, IsReadyIn}
use Rattle.script_law.specs.Programs.{Standing, AreMarks, Fits, IsOf, IsAt, lone, names_of, marked_names, with_told, stays_inside, is_begin}

-- ---- one statement more, alone

pub alone_more : (mode : Mode) (xs : List StatementTree) (x : StatementTree) (r : Running)
    → ((alone_from mode (xs ++ x ∷ []) r).0 ≡ (alone_from mode xs r).0 ++ (inside mode x (alone_from mode xs r).1).replies ∷ [])
    × ((alone_from mode (xs ++ x ∷ []) r).1 ≡ (inside mode x (alone_from mode xs r).1).after)
alone_more mode [] x r = (refl, refl)
alone_more mode (y ∷ ys) x r =
    let h = alone_more mode ys x (inside mode y r).after in
    (ap (λ l. (inside mode y r).replies ∷ l) h.0, h.1)

pub map_more : {A B : Type 0} (f : A → B) (xs : List A) (x : A) → map f (xs ++ x ∷ []) ≡ map f xs ++ f x ∷ []
map_more f [] x = refl
map_more f (y ∷ ys) x = ap (λ l. f y ∷ l) (map_more f ys x)

pub inside_refused : (mode : Mode) (statement : StatementTree) (r : Running) (why : Refusal) → refused_inside mode r.saved statement ≡ Some why → inside mode statement r ≡ refused_with why r
inside_refused mode statement r why e = λ k. elim (e k) [ Some refusal ↦ refused_with refusal r | None ↦ accepted statement r ]

pub inside_accepted : (mode : Mode) (statement : StatementTree) (r : Running) → refused_inside mode r.saved statement ≡ None → inside mode statement r ≡ accepted statement r
inside_accepted mode statement r e = λ k. elim (e k) [ Some refusal ↦ refused_with refusal r | None ↦ accepted statement r ]

-- a statement that is told so alone, and leaves this
pub told_as : (stopped : Bool) (o : Unended) (t : Txn) (standing : Standing) (statement : StatementTree) (replies : List Reply) (left : Database → Running) → IsOf o t
    → standing.mode ≡ Some o.mode → standing.copy ≡ t.objects
    → ((db : Database) → IsTruthful db t → inside o.mode statement (lone o db).1 ≡ record { replies = replies; after = left db })
    → ((db : Database) → IsTruthful db t → names_of (left db).saved ≡ marked_names standing.saved)
    → (IsTrue stopped ⊎ ((db : Database) → IsTruthful db t → Fits t standing db (left db)))
    → (IsTrue stopped ⊎ (length t.kept ≡ standing.kept)) → (IsTrue stopped ⊎ AreMarks t.kept standing.saved) → (IsTrue stopped ⊎ IsReadyIn o.mode t) → (IsTrue stopped ⊎ (o.mode ≡ Snapshot → t.kept ≡ []))
    → IsAt stopped (with_told o statement replies) t standing
told_as stopped o t standing statement replies left is in_mode copy now names fits counts marks ready snapshot = record {
  is = record {
    mode_is = is.mode_is;
    number_is = is.number_is;
    told = λ db truth. ap (λ l. (alone_from o.mode l (start db)).0) (map_more (λ (p : StatementTree × List Reply). p.0) o.told (statement, replies))
        ∙ (alone_more o.mode before statement (start db)).0 ∙ (λ k. is.told db truth k ++ (now db truth k).replies ∷ [])
        ∙ sym (map_more (λ (p : StatementTree × List Reply). p.1) o.told (statement, replies));
  };
  mode_is = in_mode;
  copy_is = copy;
  names = λ db truth. subst (λ (r : Running). names_of r.saved ≡ marked_names standing.saved) (sym (same db truth)) (names db truth);
  fits = elim fits [ inl e ↦ inl e | inr f ↦ inr (λ db truth. subst (Fits t standing db) (sym (same db truth)) (f db truth)) ];
  counts = counts;
  marks = marks;
  ready = ready;
  snapshot = snapshot;
}
  where
    start : Database → Running
    start db = record { db = db; kept = []; saved = [] }

    before : List StatementTree
    before = map (λ (p : StatementTree × List Reply). p.0) o.told

    same : (db : Database) → IsTruthful db t → (lone (with_told o statement replies) db).1 ≡ left db
    same db truth = ap (λ l. (alone_from o.mode l (start db)).1) (map_more (λ (p : StatementTree × List Reply). p.0) o.told (statement, replies))
        ∙ (alone_more o.mode before statement (start db)).1 ∙ ap (λ (x : Response). x.after) (now db truth)

-- a statement that leaves the transaction as it was
pub told_at : (stopped : Bool) (o : Unended) (t : Txn) (standing : Standing) (statement : StatementTree) (replies : List Reply) → IsAt stopped o t standing
    → ((db : Database) → IsTruthful db t → inside o.mode statement (lone o db).1 ≡ record { replies = replies; after = (lone o db).1 })
    → IsAt stopped (with_told o statement replies) t standing
told_at stopped o t standing statement replies at now = told_as stopped o t standing statement replies (λ db. (lone o db).1) at.is at.mode_is at.copy_is now at.names at.fits at.counts at.marks at.ready at.snapshot

-- a statement that the mode refuses is told so, and leaves the transaction
pub refused_at : (stopped : Bool) (o : Unended) (t : Txn) (standing : Standing) (statement : StatementTree) (why : Refusal) → IsAt stopped o t standing
    → ((saved : List Saved) → names_of saved ≡ marked_names standing.saved → refused_inside o.mode saved statement ≡ Some why)
    → IsAt stopped (with_told o statement (reply.Error why ∷ [])) t standing
refused_at stopped o t standing statement why at refused = told_at stopped o t standing statement (reply.Error why ∷ []) at
    (λ db truth. inside_refused o.mode statement (lone o db).1 why (refused (lone o db).1.saved (at.names db truth)))

pub refused_goes : (mode : Mode) (saved : List Saved) (statement : StatementTree) (why : Refusal) → refused_inside mode saved statement ≡ Some why → stays_inside statement ≡ true
refused_goes mode saved commit why e = absurd (cc)
refused_goes mode saved (rollback None) why e = absurd (cc)
refused_goes mode saved (rollback (Some name)) why e = refl
refused_goes mode saved _ why e = refl

pub not_begin : (statement : StatementTree) (why : Refusal) → refused_outside statement ≡ Some why → is_begin statement ≡ false
not_begin (begin mode) why e = absurd (cc)
not_begin _ why e = refl

pub outside_refused : (statement : StatementTree) (why : Refusal) (db : Database) → refused_outside statement ≡ Some why → outside statement db ≡ ended_by (Refused why) db
outside_refused statement why db e = λ k. elim (e k) [ Some refusal ↦ ended_by (Refused refusal) db | None ↦ ended_by (means statement db) db ]
