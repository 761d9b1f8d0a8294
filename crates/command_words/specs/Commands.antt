-- No clause of `run` rests on this module: it serves contracts between crates.
--
-- The commands as clap is told of them.
use Rattle.std.specs.Prelude.{◌≡◌, ◌≤◌, ℕ, List, true, codes, decimal, Option, Some, option_map, unwrap_or}
use Rattle.clap.specs.Words.{App, Row, Rule, Text, first_of, new_app, new_rule, subcommand_rows_of, with_rule, with_subcommand}
use Rattle.clap.specs.Simple.{on_top}
use Rattle.clap.specs.declared.parser.matches.ArgMatches.{ArgMatches}
use Rattle.made_script.specs.declared.lines.TheConstants.{MOST_ROUNDS}
use Rattle.command_words.specs.declared.limits.TheConstants.{LEAST_PAGES, MOST_PAGES, DEFAULT_PAGES, LEAST_LOG_KIB, MOST_LOG_KIB, DEFAULT_LOG_KIB}
use Rattle.command_words.specs.Words.{Wanted, a_script, a_script_on, rounds, database, IsFile}

abbrev pub file_rule : Rule
file_rule = record (new_rule (codes "FILE")) { required = true }

abbrev pub number_rule : Rule
number_rule = record (new_rule (codes "NUMBER")) { required = true }

abbrev pub script_command : App
script_command = with_rule (new_app (codes "script")) file_rule

abbrev pub make_command : App
make_command = with_rule (new_app (codes "make")) number_rule

abbrev pub option_rule : Text → Rule
option_rule name = record (new_rule name) { long = Some name }

abbrev pub init_command : App
init_command = with_rule (with_rule (with_rule (new_app (codes "init")) file_rule) (option_rule (codes "pages"))) (option_rule (codes "log-kib"))

-- the words come without the program's name
abbrev pub commands : App
commands = with_subcommand (with_subcommand (with_subcommand (on_top (λ s. record s { no_binary_name = true }) (new_app (codes "iv"))) script_command.top) make_command.top) init_command.top

-- the command that was met, and the number behind it
abbrev pub met_in : ArgMatches → Option (Text × Option Text)
met_in matches = option_map (λ p. (p.0, first_of (codes "NUMBER") p.1)) (subcommand_rows_of matches)

-- the command that was met, and FILE behind it
abbrev pub file_in : Option (Text × List Row) → Option (Text × Option Text)
file_in = option_map (λ p. (p.0, first_of (codes "FILE") p.1))

-- the command that was met, with FILE and the numbers of its options
abbrev pub init_in : Option (Text × List Row) → Option (Text × (Option Text × (Option Text × Option Text)))
init_in = option_map (λ p. (p.0, (first_of (codes "FILE") p.1, (first_of (codes "pages") p.1, first_of (codes "log-kib") p.1))))

-- the number that was given within its bounds, or its default
pub record IsNumber (least most default : ℕ) (given : Option ℕ) (number : ℕ) : Type 0 where
  pub above : least ≤ number
  pub below : number ≤ most
  pub is : number ≡ unwrap_or given default

-- FILE and the numbers that were given stand in these matches
pub record HasDatabase (rows : List Row) (name : List ℕ) (pages log_kib : ℕ) : Type 0 where
  pub pages_given : Option ℕ
  pub log_given : Option ℕ
  pub of_pages : IsNumber LEAST_PAGES MOST_PAGES DEFAULT_PAGES pages_given pages
  pub of_log : IsNumber LEAST_LOG_KIB MOST_LOG_KIB DEFAULT_LOG_KIB log_given log_kib
  pub file_is : first_of (codes "FILE") rows ≡ Some name
  pub pages_is : first_of (codes "pages") rows ≡ option_map decimal pages_given
  pub log_is : first_of (codes "log-kib") rows ≡ option_map decimal log_given

-- `init` was met, with these matches
pub record MetInit (met : Option (Text × List Row)) (name : List ℕ) (pages log_kib : ℕ) : Type 0 where
  pub rows : List Row
  pub met_is : met ≡ Some (codes "init", rows)
  pub has : HasDatabase rows name pages log_kib

-- the word behind `script` stands in these matches: `-`, or FILE
abbrev pub HasScript : List Row → Wanted → Type 0
HasScript rows a_script = first_of (codes "FILE") rows ≡ Some (codes "-")
HasScript rows (a_script_on name) = IsFile name × (first_of (codes "FILE") rows ≡ Some name)
HasScript rows (rounds number) = ⊥
HasScript rows (database name pages log_kib) = ⊥

-- `script` was met, with these matches
pub record MetScript (met : Option (Text × List Row)) (wanted : Wanted) : Type 0 where
  pub rows : List Row
  pub met_is : met ≡ Some (codes "script", rows)
  pub has : HasScript rows wanted

-- this was found
abbrev pub IsFound : ArgMatches → Wanted → Type 0
IsFound matches a_script = MetScript (subcommand_rows_of matches) a_script
IsFound matches (a_script_on name) = MetScript (subcommand_rows_of matches) (a_script_on name)
IsFound matches (rounds number) = (1 ≤ number) × (number ≤ MOST_ROUNDS) × (met_in matches ≡ Some (codes "make", Some (decimal number)))
IsFound matches (database name pages log_kib) = MetInit (subcommand_rows_of matches) name pages log_kib
