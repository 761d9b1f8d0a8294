-- The words of the command line, without the program's name.
use Rattle.std.specs.Prelude.{◌≡◌, ◌≢◌, ◌≤◌, ℕ, Bool, true, false, List, [], ◌∷◌, ◌++◌, map, codes, decimal, String, string_bytes}
use Rattle.std.specs.List.{AllByRecursion}
use Rattle.made_script.specs.declared.lines.TheConstants.{MOST_ROUNDS}
use Rattle.command_words.specs.declared.limits.TheConstants.{LEAST_PAGES, MOST_PAGES, DEFAULT_PAGES, LEAST_LOG_KIB, MOST_LOG_KIB, DEFAULT_LOG_KIB}
use Rattle.command_words.specs.declared.asked.Asked.{Asked}
use Rattle.command_words.specs.declared.asked.Asked.TheVariants as asked

-- `script -`
abbrev pub IsScript : {A : Type 0} → List (String A) → Type 0
IsScript words = map string_bytes words ≡ codes "script" ∷ codes "-" ∷ []

-- a word that may be FILE: it is not empty and does not begin with `-`
abbrev pub IsFile : List ℕ → Type 0
IsFile [] = ⊥
IsFile (b ∷ bs) = b ≢ 45

-- `script` and FILE
pub record IsScriptOn {A : Type 0} (name : List ℕ) (words : List (String A)) : Type 0 where
  pub file : IsFile name
  pub are : map string_bytes words ≡ codes "script" ∷ name ∷ []

-- `make` and a number of rounds, in decimal digits without sign or leading zero
pub record IsMake {A : Type 0} (number : ℕ) (words : List (String A)) : Type 0 where
  pub least : 1 ≤ number
  pub most : number ≤ MOST_ROUNDS
  pub are : map string_bytes words ≡ codes "make" ∷ decimal number ∷ []

-- a part of the words behind `init`: FILE, or an option with its number, in one word with `=` or in two
pub data Part : Type 0 where
  file : List ℕ → Part
  pages : Bool → ℕ → Part
  log_kib : Bool → ℕ → Part

abbrev pub option_words : Bool → List ℕ → ℕ → List (List ℕ)
option_words true name number = (name ++ codes "=" ++ decimal number) ∷ []
option_words false name number = name ∷ decimal number ∷ []

abbrev pub words_of : Part → List (List ℕ)
words_of (file name) = name ∷ []
words_of (pages joined number) = option_words joined (codes "--pages") number
words_of (log_kib joined number) = option_words joined (codes "--log-kib") number

abbrev pub all_words : List Part → List (List ℕ)
all_words [] = []
all_words (p ∷ ps) = words_of p ++ all_words ps

-- numbers are in decimal digits without sign or leading zero, and within their bounds
abbrev pub Fits : Part → Type 0
Fits (file name) = IsFile name
Fits (pages joined number) = (LEAST_PAGES ≤ number) × (number ≤ MOST_PAGES)
Fits (log_kib joined number) = (LEAST_LOG_KIB ≤ number) × (number ≤ MOST_LOG_KIB)

abbrev pub files_in : List Part → List (List ℕ)
files_in [] = []
files_in (file name ∷ ps) = name ∷ files_in ps
files_in (pages joined number ∷ ps) = files_in ps
files_in (log_kib joined number ∷ ps) = files_in ps

abbrev pub pages_in : List Part → List ℕ
pages_in [] = []
pages_in (file name ∷ ps) = pages_in ps
pages_in (pages joined number ∷ ps) = number ∷ pages_in ps
pages_in (log_kib joined number ∷ ps) = pages_in ps

abbrev pub logs_in : List Part → List ℕ
logs_in [] = []
logs_in (file name ∷ ps) = logs_in ps
logs_in (pages joined number ∷ ps) = logs_in ps
logs_in (log_kib joined number ∷ ps) = number ∷ logs_in ps

-- the number of an option that stands once, or its default where it does not stand
abbrev pub Gives : ℕ → List ℕ → ℕ → Type 0
Gives default [] number = number ≡ default
Gives default (given ∷ []) number = number ≡ given
Gives default (given ∷ again ∷ more) number = ⊥

-- `init` and its parts in any order: FILE once, and each option at most once
pub record IsInit {A : Type 0} (name : List ℕ) (pages log_kib : ℕ) (words : List (String A)) : Type 0 where
  pub parts : List Part
  pub are : map string_bytes words ≡ codes "init" ∷ all_words parts
  pub fit : AllByRecursion Fits parts
  pub one_file : files_in parts ≡ name ∷ []
  pub of_pages : Gives DEFAULT_PAGES (pages_in parts) pages
  pub of_log : Gives DEFAULT_LOG_KIB (logs_in parts) log_kib

-- what words can ask for: a script on a new database, a script on the database of a name, a made script of so many rounds, a new
-- database under a name with so many pages and KiB of a log area
pub data Wanted : Type 0 where
  a_script : Wanted
  a_script_on : List ℕ → Wanted
  rounds : ℕ → Wanted
  database : List ℕ → ℕ → ℕ → Wanted

-- the words are the form that asks for this
abbrev pub AsksFor : {A : Type 0} → Wanted → List (String A) → Type 0
AsksFor a_script words = IsScript words
AsksFor (a_script_on name) words = IsScriptOn name words
AsksFor (rounds number) words = IsMake number words
AsksFor (database name of_pages of_log) words = IsInit name of_pages of_log words

-- the words are one of the forms
abbrev pub IsCommand : {A : Type 0} → List (String A) → Type 0
IsCommand words = (wanted : Wanted) × AsksFor wanted words

abbrev pub wanted_of : Asked → Wanted
wanted_of asked.Script = a_script
wanted_of (asked.ScriptOn name) = a_script_on name.now
wanted_of (asked.Make number) = rounds number
wanted_of (asked.Init new) = database new.file.now new.pages new.log_kib

-- a new database has as many pages and KiB of a log area as one may have
abbrev pub HasBounds : Wanted → Type 0
HasBounds a_script = Unit {0}
HasBounds (a_script_on name) = Unit {0}
HasBounds (rounds number) = Unit {0}
HasBounds (database name of_pages of_log) = (LEAST_PAGES ≤ of_pages) × (of_pages ≤ MOST_PAGES) × (LEAST_LOG_KIB ≤ of_log) × (of_log ≤ MOST_LOG_KIB)
