-- Words ask for one thing alone.
use Rattle.std.proofs.Common.{◌≡◌, ℕ, List, [], ap, arith, subst}
use Rattle.std.specs.Prelude.{String}
use Rattle.command_words.specs.Words.{Wanted, a_script, a_script_on, rounds, database, wanted_of, AsksFor, HasBounds, IsScript, IsScriptOn, IsMake, IsInit}
use Rattle.command_words.specs.declared.asked.Asked.{Asked}
use Rattle.command_words.specs.declared.asked.Asked.TheVariants as asked
use Rattle.command_words.specs.declared.asked.NewDatabase.{NewDatabase}
use Rattle.recovery.specs.Formatted.{IsGeometry}

number_in : Wanted → ℕ
number_in a_script = 0
number_in (a_script_on name) = 0
number_in (rounds n) = n
number_in (database name p l) = 0

name_in : Wanted → List ℕ
name_in a_script = []
name_in (a_script_on name) = name
name_in (rounds n) = []
name_in (database name p l) = name

pages_of : Wanted → ℕ
pages_of a_script = 0
pages_of (a_script_on name) = 0
pages_of (rounds n) = 0
pages_of (database name p l) = p

log_of : Wanted → ℕ
log_of a_script = 0
log_of (a_script_on name) = 0
log_of (rounds n) = 0
log_of (database name p l) = l

kind_of_wanted : Wanted → ℕ
kind_of_wanted a_script = 0
kind_of_wanted (a_script_on name) = 3
kind_of_wanted (rounds n) = 1
kind_of_wanted (database name p l) = 2

-- the words ask for this and for nothing else
abbrev pub Only : {A : Type 0} → Wanted → List (String A) → Type 0
Only wanted words = (other : Wanted) → AsksFor other words → wanted ≡ other

-- the name and the sizes are the ones that were asked for
pub record SameSizes (m n : List ℕ) (q p k l : ℕ) : Type 0 where
  pub name : m ≡ n
  pub pages : q ≡ p
  pub log : k ≡ l

module _ {A : Type 0} {words : List (String A)} where
  pub one_number : (a b : ℕ) → Only (rounds a) words → IsMake b words → a ≡ b
  unfolding number_in
  one_number a b only make = ap number_in (only (rounds b) make)

  pub script_not_make : (b : ℕ) → Only a_script words → IsMake b words → ⊥
  unfolding kind_of_wanted
  script_not_make b only make = let e : 0 ≡ 1 = ap kind_of_wanted (only (rounds b) make) in absurd (omega (arith, e))

  pub script_not_init : (n : List ℕ) (p l : ℕ) → Only a_script words → IsInit n p l words → ⊥
  unfolding kind_of_wanted
  script_not_init n p l only init = let e : 0 ≡ 2 = ap kind_of_wanted (only (database n p l) init) in absurd (omega (arith, e))

  pub script_not_on : (n : List ℕ) → Only a_script words → IsScriptOn n words → ⊥
  unfolding kind_of_wanted
  script_not_on n only on = let e : 0 ≡ 3 = ap kind_of_wanted (only (a_script_on n) on) in absurd (omega (arith, e))

  pub one_file : (m n : List ℕ) → Only (a_script_on m) words → IsScriptOn n words → m ≡ n
  unfolding name_in
  one_file m n only on = ap name_in (only (a_script_on n) on)

  pub on_not_script : (m : List ℕ) → Only (a_script_on m) words → IsScript words → ⊥
  unfolding kind_of_wanted
  on_not_script m only script = let e : 3 ≡ 0 = ap kind_of_wanted (only a_script script) in absurd (omega (arith, e))

  pub on_not_make : (m : List ℕ) (b : ℕ) → Only (a_script_on m) words → IsMake b words → ⊥
  unfolding kind_of_wanted
  on_not_make m b only make = let e : 3 ≡ 1 = ap kind_of_wanted (only (rounds b) make) in absurd (omega (arith, e))

  pub on_not_init : (m n : List ℕ) (p l : ℕ) → Only (a_script_on m) words → IsInit n p l words → ⊥
  unfolding kind_of_wanted
  on_not_init m n p l only init = let e : 3 ≡ 2 = ap kind_of_wanted (only (database n p l) init) in absurd (omega (arith, e))

  pub make_not_on : (a : ℕ) (n : List ℕ) → Only (rounds a) words → IsScriptOn n words → ⊥
  unfolding kind_of_wanted
  make_not_on a n only on = let e : 1 ≡ 3 = ap kind_of_wanted (only (a_script_on n) on) in absurd (omega (arith, e))

  pub init_not_on : (m n : List ℕ) (q k : ℕ) → Only (database m q k) words → IsScriptOn n words → ⊥
  unfolding kind_of_wanted
  init_not_on m n q k only on = let e : 2 ≡ 3 = ap kind_of_wanted (only (a_script_on n) on) in absurd (omega (arith, e))

  pub make_not_script : (a : ℕ) → Only (rounds a) words → IsScript words → ⊥
  unfolding kind_of_wanted
  make_not_script a only script = let e : 1 ≡ 0 = ap kind_of_wanted (only a_script script) in absurd (omega (arith, e))

  pub make_not_init : (a : ℕ) (n : List ℕ) (p l : ℕ) → Only (rounds a) words → IsInit n p l words → ⊥
  unfolding kind_of_wanted
  make_not_init a n p l only init = let e : 1 ≡ 2 = ap kind_of_wanted (only (database n p l) init) in absurd (omega (arith, e))

  pub init_not_script : (m : List ℕ) (q k : ℕ) → Only (database m q k) words → IsScript words → ⊥
  unfolding kind_of_wanted
  init_not_script m q k only script = let e : 2 ≡ 0 = ap kind_of_wanted (only a_script script) in absurd (omega (arith, e))

  pub init_not_make : (m : List ℕ) (q k b : ℕ) → Only (database m q k) words → IsMake b words → ⊥
  unfolding kind_of_wanted
  init_not_make m q k b only make = let e : 2 ≡ 1 = ap kind_of_wanted (only (rounds b) make) in absurd (omega (arith, e))

  pub one_database : (m n : List ℕ) (q p k l : ℕ) → Only (database m q k) words → IsInit n p l words → SameSizes m n q p k l
  unfolding name_in pages_of log_of
  one_database m n q p k l only init = record {
    name = ap name_in (only (database n p l) init);
    pages = ap pages_of (only (database n p l) init);
    log = ap log_of (only (database n p l) init);
  }

  -- and so of what was read
  pub sizes_asked : (read : Asked) (new : NewDatabase) (n : List ℕ) (p l : ℕ) → read ≡ asked.Init new → Only (wanted_of read) words → IsInit n p l words → SameSizes new.file.now n new.pages p new.log_kib l
  sizes_asked read new n p l e only init = one_database new.file.now n new.pages p new.log_kib l (subst (λ (a : Asked). Only (wanted_of a) words) e only) init

  pub file_asked : (read : Asked) (file : _) (n : List ℕ) → read ≡ asked.ScriptOn file → Only (wanted_of read) words → IsScriptOn n words → file.now ≡ n
  file_asked read file n e only on = one_file file.now n (subst (λ (a : Asked). Only (wanted_of a) words) e only) on

-- the bounds of a new database that was read are those of a disk
pub geometry_of : (read : Asked) (new : NewDatabase) → read ≡ asked.Init new → HasBounds (wanted_of read) → IsGeometry new.pages new.log_kib
geometry_of read new e bounds =
    let b = subst (λ (a : Asked). HasBounds (wanted_of a)) e bounds in
    record { least_pages = b.0; most_pages = b.1; least_log = b.2; most_log = b.3 }
