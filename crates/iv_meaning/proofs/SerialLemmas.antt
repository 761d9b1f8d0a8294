-- What a transaction leaves, and the history after it.
use Rattle.std.specs.Prelude.{◌≡◌, ◌≤◌, ◌<◌, ℕ, ◌+◌, nat_le, Bool, true, false, List, [], ◌∷◌, ◌++◌, filter, Option, Some, None, Ok, if◌then◌else◌}
use Rattle.std.specs.Str.{bytes_eq}
use mathlib.Core.Path.{refl, sym, ap, subst, ◌∙◌}
use Rattle.std.proofs.Common.{arith, append-nil, leb-true}
use Rattle.std.proofs.lemmas.List.Elements.{filter-append}
use Rattle.iv_types.specs.declared.refusal.Refusal.{Refusal}
use Rattle.iv_types.specs.declared.statement.Mode.{Mode}
use Rattle.iv_types.specs.declared.statement.Mode.TheVariants.{Serial}
use Rattle.iv_types.specs.Syntax.{StatementTree, commit, rollback, savepoint}
use Rattle.iv_meaning.specs.Database.{Database}
use Rattle.iv_meaning.specs.Statement.{Kept, sets, defines, Meaning, Refused, Accepted, keep, keep_all}
use Rattle.iv_meaning.specs.Transaction.{Saved, Running, Response, means, told, refused_with, from_named, back_to, refused_inside, refused_outside, accepted, inside, alone_from, alone, begun, next_number, Transaction, ended_by}
use Rattle.iv_meaning.specs.History.{Entry, fold}
use Rattle.iv_meaning.specs.Said.{Said}
use Rattle.iv_meaning.specs.Serial.{World, none, latest, commits, refused_by_mode, IsRefused, Takes, OwnPiece, Answers}
use Rattle.iv_meaning.specs.SerialLaws.{CommitLaw, OutsideLaw, StateLaw}

-- ---- kept changes

pub keep_number : (k : Kept) (db : Database) → (keep k db).number ≡ db.number
keep_number (sets change) db = refl
keep_number (defines object) db = refl

pub same_number : (ks : List Kept) (db : Database) → (keep_all ks db).number ≡ db.number
same_number [] db = refl
same_number (k ∷ ks) db = same_number ks (keep k db) ∙ keep_number k db

pub keep_append : (xs ys : List Kept) (db : Database) → keep_all (xs ++ ys) db ≡ keep_all ys (keep_all xs db)
keep_append [] ys db = refl
keep_append (x ∷ xs) ys db = keep_append xs ys (keep x db)

-- ---- a transaction's database is what its kept changes make of the one that it began on

module _ (base : Database) where
  abbrev AreSaved : List Saved → Type 0
  AreSaved [] = Unit {0}
  AreSaved (s ∷ ss) = (s.db ≡ keep_all s.kept base) × AreSaved ss

  abbrev IsMade : Running → Type 0
  IsMade t = (t.db ≡ keep_all t.kept base) × AreSaved t.saved

  named_saved : (name : List ℕ) (ss : List Saved) → AreSaved ss → AreSaved (from_named name ss)
  named_saved name [] h = tt
  named_saved name (s ∷ ss) h = by (bytes_eq name s.name) (named_saved name ss h.1)
    where
      by : (b : Bool) → AreSaved (from_named name ss) → AreSaved (if b then s ∷ ss else from_named name ss)
      by true more = h
      by false more = more

  made_back : (ss : List Saved) (t : Running) → AreSaved ss → IsMade t → IsMade (back_to ss t)
  made_back [] t h made = made
  made_back (s ∷ ss) t h made = (h.0, h)

  made_told : (m : Meaning) (t : Running) → IsMade t → IsMade (told m t).after
  made_told (Refused refusal) t made = made
  made_told (Accepted listed count kept) t made = (ap (keep_all kept) made.0 ∙ sym (keep_append t.kept kept base), made.1)

  made_accepted : (statement : StatementTree) (t : Running) → IsMade t → IsMade (accepted statement t).after
  made_accepted (savepoint name) t made = (made.0, made)
  made_accepted (rollback (Some name)) t made = made_back (from_named name t.saved) t (named_saved name t.saved made.1) made
  made_accepted (rollback None) t made = made
  made_accepted commit t made = made
  made_accepted statement t made = made_told (means statement t.db) t made

  made_inside : (mode : Mode) (statement : StatementTree) (t : Running) → IsMade t → IsMade (inside mode statement t).after
  made_inside mode statement t made = by (refused_inside mode t.saved statement)
    where
      by : (o : Option Refusal) → IsMade (elim o as (λ o. Response) [ Some refusal ↦ refused_with refusal t | None ↦ accepted statement t ]).after
      by (Some refusal) = made
      by None = made_accepted statement t made

  made_from : (mode : Mode) (statements : List StatementTree) (t : Running) → IsMade t → IsMade (alone_from mode statements t).1
  made_from mode [] t made = made
  made_from mode (statement ∷ statements) t made = made_from mode statements (inside mode statement t).after (made_inside mode statement t made)

-- ---- histories

pub fold_push : (es : List Entry) (e : Entry) (db : Database) → fold (es ++ e ∷ []) db ≡ fold (e ∷ []) (fold es db)
fold_push [] e db = refl
fold_push (x ∷ es) e db = fold_push es e (fold (x ∷ []) db)

-- the changes are kept, and the next number is taken where there are some
left_by : (w : World) (session : ℕ) (kept : List Kept) (db : Database) → db ≡ keep_all kept (latest w)
    → record db { number = next_number kept db.number } ≡ latest (commits w session kept)
left_by w session [] db e = e
left_by w session (k ∷ ks) db e =
    ap (λ (d : Database). record d { number = d.number + 1 }) e
    ∙ (ap (λ n. record (keep_all (k ∷ ks) (latest w)) { number = n + 1 }) (same_number (k ∷ ks) (latest w))
    ∙ sym (fold_push w.history (record { number = (latest w).number + 1; session = session; kept = k ∷ ks }) w.origin))

pub commit_law : CommitLaw
commit_law w session statements =
    let made = made_from (latest w) Serial statements (begun (latest w)) (refl, tt) in
    left_by w session (alone Serial statements (latest w)).1.kept (alone Serial statements (latest w)).1.db made.0

abbrev IsLeft : World → ℕ → Transaction → Type 0
IsLeft w session t = t.leaves ≡ latest (commits w session t.kept)

ended : (w : World) (session : ℕ) (m : Meaning) → IsLeft w session (ended_by m (latest w))
ended w session (Refused refusal) = refl
ended w session (Accepted listed count kept) = left_by w session kept (keep_all kept (latest w)) refl

pub outside_law : OutsideLaw
outside_law w session statement = by (refused_outside statement)
  where
    by : (o : Option Refusal) → IsLeft w session (elim o as (λ o. Transaction) [ Some refusal ↦ ended_by (Refused refusal) (latest w) | None ↦ ended_by (means statement (latest w)) (latest w) ])
    by (Some refusal) = refl
    by None = ended w session (means statement (latest w))

-- an entry of a later number is left out
later_out : (e : Entry) (number : ℕ) → number < e.number → filter (λ (x : Entry). nat_le x.number number) (e ∷ []) ≡ []
later_out e number lt = ap (λ b. if b then e ∷ [] else []) (by (nat_le e.number number) refl)
  where
    by : (b : Bool) → nat_le e.number number ≡ b → b ≡ false
    by false is = refl
    by true is = let at_most : e.number ≤ number = leb-true e.number number is in let no : ⊥ = omega (arith, lt) in absurd no

pub state_law : StateLaw
state_law w session number [] le = refl
state_law w session number (k ∷ ks) le =
    let e : Entry = record { number = (latest w).number + 1; session = session; kept = k ∷ ks } in
    ap (λ es. fold es w.origin) (filter-append (λ x. nat_le x.number number) w.history (e ∷ []) ∙ (ap (λ es. filter (λ x. nat_le x.number number) w.history ++ es) (later_out e number (omega arith)) ∙ append-nil (filter (λ x. nat_le x.number number) w.history)))

-- ---- lines

-- a line that prints its own piece alone
pub alone_piece : (said : Said) (w after : World) (piece : List ℕ) → OwnPiece said w piece after → Answers said w piece after
alone_piece said w after piece own = record { own = piece; between = after; first = own; retried = []; more = []; later = (refl, refl); whole = sym (append-nil piece) }

-- a statement that the mode does not refuse, given to a session that has no unfinished one
pub taken : (w after : World) (session : ℕ) (statement : StatementTree) (Goes : StatementTree → List ℕ → World → Type 0) (piece : List ℕ) → w.unfinished session ≡ none
    → refused_by_mode w (w.running session) statement ≡ None → Goes statement piece after → Takes w session (w.unfinished session) (Ok statement) Goes piece after
taken w after session statement Goes piece idle free h =
    subst (λ u. Takes w session u (Ok statement) Goes piece after) (sym idle)
    (subst (λ (o : Option Refusal). (elim o as (λ o. List ℕ → World → Type 0) [ Some why ↦ IsRefused w session statement why | None ↦ Goes statement ]) piece after) (sym free) h)
