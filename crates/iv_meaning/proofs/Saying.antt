-- What the example's lines say.
use Rattle.std.specs.Prelude.{◌≡◌, ◌≢◌, ◌≤◌, ℕ, List, [], ◌∷◌, ◌++◌, length, drop, ◌==◌, false, codes, IsUtf8, Ok, Some}
use Rattle.std.specs.Fmt.{digits}
use lib.Utf8.{encode}
use mathlib.Core.Path.{refl, ap}
use mathlib.Core.Logic.{inl, inr}
use Rattle.std.proofs.Common.{arith}
use Rattle.std.proofs.lemmas.Bool.{eqb-false}
use Rattle.std.specs.List.{All, AllZip}
use Rattle.std.proofs.lemmas.List.Elements.{All-from_recursion}
use Rattle.iv_types.specs.declared.statement.Mode.TheVariants.{Serial}
use Rattle.iv_types.specs.Syntax.{StatementTree, begin, commit, rollback, savepoint}
use Rattle.iv_types.specs.Grammar.{Spells}
use Rattle.iv_meaning.specs.Lines.{longest_line, lines_of}
use Rattle.iv_meaning.specs.Said.{Said, nothing, too_long, bad, runs, loads, unread, steps, cleans, checkpoints, IsOfSession, IsLoading, HasForm, Says}
use Rattle.iv_meaning.specs.SerialExample.{sold, shows, savepoint_script, LinesSay}
use Rattle.iv_meaning.proofs.NumberLemmas.{one_decimal}
use Rattle.iv_meaning.proofs.SaidLemmas.{first_byte}
use Rattle.iv_meaning.proofs.Spelling.{begin_spelled, snapshot_spelled, commit_spelled, savepoint_spelled, rollback_spelled, first_sale_spelled, second_sale_spelled, shows_spelled}

one_space : All (λ (b : ℕ). b ≡ 32) (32 ∷ [])
one_space = All-from_recursion (λ (b : ℕ). b ≡ 32) (32 ∷ []) (refl, tt)

-- the first session's line, with one space
of_one : (text : List ℕ) → IsUtf8 text → ((rest : List ℕ) → text ≢ codes " " ++ rest) → IsOfSession 1 text (codes "1: " ++ text)
unfolding digits
of_one text readable unspaced = record {
  first = omega arith;
  last = omega arith;
  spaces = 32 ∷ [];
  only_spaces = one_space;
  written = refl;
  unspaced = unspaced;
  readable = readable;
}

one_runs : (text : List ℕ) (statement : StatementTree) → length (codes "1: " ++ text) ≤ longest_line → IsUtf8 text → ((rest : List ℕ) → text ≢ codes " " ++ rest) → Spells text statement
    → Says (codes "1: " ++ text) (runs 1 (Ok statement))
one_runs text statement read readable unspaced spelled = inr (read, (text, of_one text readable unspaced, spelled))

abbrev pub savepoint_said : List Said
savepoint_said =
    runs 1 (Ok (begin Serial)) ∷ runs 1 (Ok (sold 1 10)) ∷ runs 1 (Ok (savepoint (codes "s"))) ∷ runs 1 (Ok (sold 2 5)) ∷ runs 1 (Ok (rollback (Some (codes "s")))) ∷ runs 1 (Ok shows) ∷ runs 1 (Ok commit) ∷ []

pub savepoint_says : AllZip (Says) (lines_of savepoint_script) savepoint_said
unfolding encode
savepoint_says = (
  one_runs (codes "BEGIN") (begin Serial) (omega arith) (codes "BEGIN", (refl, refl)) (λ rest e. absurd (cc)) begin_spelled,
  (
    one_runs (codes "INSERT INTO sale VALUES (1, 7, 10)") (sold 1 10) (omega arith) (codes "INSERT INTO sale VALUES (1, 7, 10)", (refl, refl)) (λ rest e. absurd (cc)) first_sale_spelled,
    (
      one_runs (codes "SAVEPOINT s") (savepoint (codes "s")) (omega arith) (codes "SAVEPOINT s", (refl, refl)) (λ rest e. absurd (cc)) savepoint_spelled,
      (
        one_runs (codes "INSERT INTO sale VALUES (2, 7, 5)") (sold 2 5) (omega arith) (codes "INSERT INTO sale VALUES (2, 7, 5)", (refl, refl)) (λ rest e. absurd (cc)) second_sale_spelled,
        (
          one_runs (codes "ROLLBACK TO s") (rollback (Some (codes "s"))) (omega arith) (codes "ROLLBACK TO s", (refl, refl)) (λ rest e. absurd (cc)) rollback_spelled,
          (
            one_runs (codes "SELECT * FROM by_shop") shows (omega arith) (codes "SELECT * FROM by_shop", (refl, refl)) (λ rest e. absurd (cc)) shows_spelled,
            (one_runs (codes "COMMIT") commit (omega arith) (codes "COMMIT", (refl, refl)) (λ rest e. absurd (cc)) commit_spelled, tt),
          ),
        ),
      ),
    ),
  ),
)

-- ---- single lines

-- texts that begin with different bytes
apart : (xs ys : List ℕ) → (first_byte xs == first_byte ys) ≡ false → xs ≡ ys → ⊥
apart xs ys test e = eqb-false (first_byte xs) (first_byte ys) test (ap first_byte e)

abbrev no_form : List ℕ
no_form = codes "65: COMMIT"

-- there is no session 65
no_session : (form : Said) → HasForm no_form form → ⊥
unfolding digits
no_session nothing (inl e) = apart no_form [] refl e
no_session nothing (inr h) = apart no_form (codes "#" ++ h.0) refl h.1
no_session too_long h = h
no_session bad h = h
no_session (unread session) h = h
no_session (runs session read) h =
    let same : 65 ≡ session = (one_decimal 65 session (codes ": COMMIT") (codes ":" ++ (h.1.spaces ++ h.0)) (omega arith) (omega (arith, h.1.last)) refl refl h.1.written).0 in
    omega (arith, same, h.1.last)
no_session (loads session read) h =
    let same : 65 ≡ session = (one_decimal 65 session (codes ": COMMIT") (codes "/" ++ (h.1.spaces ++ h.0)) (omega arith) (omega (arith, h.1.last)) refl refl h.1.written).0 in
    omega (arith, same, h.1.last)
no_session (steps session) h =
    let same : 65 ≡ session = (one_decimal 65 session (codes ": COMMIT") (codes "+") (omega arith) (omega (arith, h.last)) refl refl h.written).0 in
    omega (arith, same, h.last)
no_session cleans h = apart no_form (codes "clean") refl h
no_session checkpoints h = apart no_form (codes "checkpoint") refl h

-- nothing stands behind a plus
spaced : (form : Said) → HasForm (codes "2+ ") form → ⊥
unfolding digits
spaced nothing (inl e) = apart (codes "2+ ") [] refl e
spaced nothing (inr h) = apart (codes "2+ ") (codes "#" ++ h.0) refl h.1
spaced too_long h = h
spaced bad h = h
spaced (unread session) h = h
spaced (runs session read) h =
    apart (codes "+ ") (codes ":" ++ (h.1.spaces ++ h.0)) refl (one_decimal 2 session (codes "+ ") (codes ":" ++ (h.1.spaces ++ h.0)) (omega arith) (omega (arith, h.1.last)) refl refl h.1.written).1
spaced (loads session read) h =
    apart (codes "+ ") (codes "/" ++ (h.1.spaces ++ h.0)) refl (one_decimal 2 session (codes "+ ") (codes "/" ++ (h.1.spaces ++ h.0)) (omega arith) (omega (arith, h.1.last)) refl refl h.1.written).1
spaced (steps session) h =
    apart (codes " ") [] refl (ap (drop 1) (one_decimal 2 session (codes "+ ") (codes "+") (omega arith) (omega (arith, h.last)) refl refl h.written).1)
spaced cleans h = apart (codes "2+ ") (codes "clean") refl h
spaced checkpoints h = apart (codes "2+ ") (codes "checkpoint") refl h

commit_of_last : IsOfSession 64 (codes "COMMIT") (codes "64:COMMIT")
unfolding digits encode
commit_of_last = record {
  first = omega arith;
  last = omega arith;
  spaces = [];
  only_spaces = All-from_recursion (λ (b : ℕ). b ≡ 32) [] tt;
  written = refl;
  unspaced = λ rest e. absurd (cc);
  readable = (codes "COMMIT", (refl, refl));
}

snapshot_of_two : IsLoading 2 (codes "BEGIN SNAPSHOT") (codes "2/ BEGIN SNAPSHOT")
unfolding digits encode
snapshot_of_two = record {
  first = omega arith;
  last = omega arith;
  spaces = 32 ∷ [];
  only_spaces = one_space;
  written = refl;
  unspaced = λ rest e. absurd (cc);
  readable = (codes "BEGIN SNAPSHOT", (refl, refl));
}

pub lines_say : LinesSay
unfolding digits
lines_say = record {
  empty_line = inr (omega arith, inl refl);
  remark = inr (omega arith, inr (codes " COMMIT", refl));
  run = inr (omega arith, (codes "COMMIT", commit_of_last, commit_spelled));
  lacks_memory = inr (omega arith, (codes "COMMIT", inl commit_of_last));
  load = inr (omega arith, (codes "BEGIN SNAPSHOT", snapshot_of_two, snapshot_spelled));
  step = inr (omega arith, record { first = omega arith; last = omega arith; written = refl });
  clean = inr (omega arith, refl);
  checkpoint = inr (omega arith, refl);
  no_session = inr (omega arith, no_session);
  spaced = inr (omega arith, spaced);
}
