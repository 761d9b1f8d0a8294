-- What is found in words that ask for something.
use Rattle.std.proofs.Common.{◌≡◌, ◌≤◌, ◌∙◌, ℕ, List, [], ◌∷◌, Option, Some, None, true, false, refl, sym, ap, subst, codes, decimal, option_map, eqb, get_or, arith}
use Rattle.std.specs.Prelude.{String, string_bytes, map}
use Rattle.std.specs.List.{AllByRecursion}
use Rattle.std.specs.Cmp.Lexicographic.{pointwise, bytes_decides}
use Rattle.std.proofs.lemmas.Bool.{false≢true}
use Rattle.clap.specs.Words.{Row, Text, first_of, subcommand_of, subcommand_rows_of, takes}
use Rattle.clap.specs.Matches.{subcommand_name_of}
use Rattle.clap.specs.declared.parser.matches.ArgMatches.{ArgMatches}
use Rattle.made_script.specs.declared.lines.TheConstants.{MOST_ROUNDS}
use Rattle.command_words.specs.declared.limits.TheConstants.{LEAST_PAGES, MOST_PAGES, DEFAULT_PAGES, LEAST_LOG_KIB, MOST_LOG_KIB, DEFAULT_LOG_KIB}
use Rattle.command_words.specs.Words.{Part, file, pages, log_kib, Fits, IsFile, pages_in, logs_in, Gives, Wanted, a_script, a_script_on, rounds, database, AsksFor, HasBounds}
use Rattle.command_words.specs.Commands.{commands, file_in, init_in, IsFound, IsNumber, HasScript, HasDatabase, MetScript, MetInit}
use Rattle.command_words.proofs.Parsing.{number_in, same_value, same_bytes, plain_file, reads_dash, reads_file, reads_number, value_met, name_met, names_agree}
use Rattle.command_words.proofs.Shapes.{given, reads_parts}

-- ---- numbers of options

in_pages : ℕ → Type 0
in_pages n = (LEAST_PAGES ≤ n) × (n ≤ MOST_PAGES)

in_log : ℕ → Type 0
in_log n = (LEAST_LOG_KIB ≤ n) × (n ≤ MOST_LOG_KIB)

pages_fit : (ps : List Part) → AllByRecursion Fits ps → AllByRecursion (λ n. (LEAST_PAGES ≤ n) × (n ≤ MOST_PAGES)) (pages_in ps)
pages_fit [] fit = tt
pages_fit (file a ∷ ps) fit = pages_fit ps fit.1
pages_fit (pages j n ∷ ps) fit = (fit.0, pages_fit ps fit.1)
pages_fit (log_kib j n ∷ ps) fit = pages_fit ps fit.1

log_fits : (ps : List Part) → AllByRecursion Fits ps → AllByRecursion (λ n. (LEAST_LOG_KIB ≤ n) × (n ≤ MOST_LOG_KIB)) (logs_in ps)
log_fits [] fit = tt
log_fits (file a ∷ ps) fit = log_fits ps fit.1
log_fits (pages j n ∷ ps) fit = log_fits ps fit.1
log_fits (log_kib j n ∷ ps) fit = (fit.0, log_fits ps fit.1)

is_number : (least most default : ℕ) (ns : List ℕ) (n : ℕ) → least ≤ default → default ≤ most → AllByRecursion (λ m. (least ≤ m) × (m ≤ most)) ns → Gives default ns n → IsNumber least most default (given ns) n
is_number least most default [] n low high all g = record { above = omega (arith, low, g); below = omega (arith, high, g); is = g }
is_number least most default (m ∷ []) n low high all g = record { above = omega (arith, all.0.0, g); below = omega (arith, all.0.1, g); is = g }
is_number least most default (m ∷ k ∷ ns) n low high all g = absurd g

pub given_word : (least most default : ℕ) (o : Option ℕ) (w : Text) (number : ℕ) → IsNumber least most default o number → Some w ≡ option_map decimal o → w ≡ decimal number
given_word least most default None w number isn e = absurd (cc)
given_word least most default (Some n) w number isn e = same_value w (decimal n) e ∙ ap decimal (sym isn.is)

pub given_none : (least most default : ℕ) (o : Option ℕ) (number : ℕ) → IsNumber least most default o number → ◌≡◌ {A = Option Text} None (option_map decimal o) → default ≡ number
given_none least most default None number isn e = sym isn.is
given_none least most default (Some n) number isn e = absurd (cc)

-- ---- what is found

met_script : (met : Option (Text × List Row)) (wanted : Wanted) (name : List ℕ) → file_in met ≡ Some (codes "script", Some name) → ((rows : List Row) → first_of (codes "FILE") rows ≡ Some name → HasScript rows wanted) → MetScript met wanted
met_script None wanted name e has = absurd (cc)
met_script (Some q) wanted name e has =
    let same = same_value _ _ e in
    record { rows = q.1; met_is = ap (λ (t : Text). Some (t, q.1)) (ap (λ (x : Text × Option Text). x.0) same); has = has q.1 (ap (λ (x : Text × Option Text). x.1) same) }

met_init : (met : Option (Text × List Row)) (name : List ℕ) (p l : ℕ) (gp gl : Option ℕ) → init_in met ≡ Some (codes "init", (Some name, (option_map decimal gp, option_map decimal gl)))
    → IsNumber LEAST_PAGES MOST_PAGES DEFAULT_PAGES gp p → IsNumber LEAST_LOG_KIB MOST_LOG_KIB DEFAULT_LOG_KIB gl l → MetInit met name p l
met_init None name p l gp gl e hp hl = absurd (cc)
met_init (Some q) name p l gp gl e hp hl =
    let same = same_value _ _ e in
    record {
      rows = q.1;
      met_is = ap (λ (t : Text). Some (t, q.1)) (ap (λ (x : Text × (Option Text × (Option Text × Option Text))). x.0) same);
      has = record {
        pages_given = gp;
        log_given = gl;
        of_pages = hp;
        of_log = hl;
        file_is = ap (λ (x : Text × (Option Text × (Option Text × Option Text))). x.1.0) same;
        pages_is = ap (λ (x : Text × (Option Text × (Option Text × Option Text))). x.1.1.0) same;
        log_is = ap (λ (x : Text × (Option Text × (Option Text × Option Text))). x.1.1.1) same;
      };
    }

-- the words are taken, and a parse of them finds this
pub record Parses (texts : List Text) (wanted : Wanted) : Type 0 where
  pub taken : takes commands texts ≡ true
  pub found : (m : ArgMatches) → subcommand_rows_of m ≡ subcommand_of commands texts → IsFound m wanted

pub parses : {A : Type 0} (wanted : Wanted) (words : List (String A)) → AsksFor wanted words → Parses (map string_bytes words) wanted
parses a_script words s = record {
  taken = ap (takes commands) s ∙ reads_dash.taken;
  found = λ m e. met_script (subcommand_rows_of m) a_script (codes "-") (ap file_in (e ∙ ap (subcommand_of commands) s) ∙ reads_dash.read) (λ rows h. h);
}
parses (a_script_on name) words s =
    let r = reads_file name (plain_file name s.file) in
    record {
      taken = ap (takes commands) s.are ∙ r.taken;
      found = λ m e. met_script (subcommand_rows_of m) (a_script_on name) name (ap file_in (e ∙ ap (subcommand_of commands) s.are) ∙ r.read) (λ rows h. (s.file, h));
    }
parses (rounds n) words m =
    let r = reads_number n m.least (omega (arith, m.most)) in
    record {
      taken = ap (takes commands) m.are ∙ r.taken;
      found = λ x e. (m.least, m.most, ap number_in (e ∙ ap (subcommand_of commands) m.are) ∙ r.read);
    }
parses (database name p l) words i =
    let r = reads_parts DEFAULT_PAGES DEFAULT_LOG_KIB i.parts name p l i.fit i.one_file i.of_pages i.of_log in
    record {
      taken = ap (takes commands) i.are ∙ r.taken;
      found = λ x e. met_init (subcommand_rows_of x) name p l (given (pages_in i.parts)) (given (logs_in i.parts)) (ap init_in (e ∙ ap (subcommand_of commands) i.are) ∙ r.read)
          (is_number LEAST_PAGES MOST_PAGES DEFAULT_PAGES (pages_in i.parts) p (omega arith) (omega arith) (pages_fit i.parts i.fit) i.of_pages)
          (is_number LEAST_LOG_KIB MOST_LOG_KIB DEFAULT_LOG_KIB (logs_in i.parts) l (omega arith) (omega arith) (log_fits i.parts i.fit) i.of_log);
    }

-- ---- which command was met

abbrev pub name_for : Wanted → Text
name_for a_script = codes "script"
name_for (a_script_on a) = codes "script"
name_for (rounds n) = codes "make"
name_for (database name p l) = codes "init"

pub named_for : (m : ArgMatches) (wanted : Wanted) (name : Text) → IsFound m wanted → Some name ≡ subcommand_name_of m → name ≡ name_for wanted
named_for m a_script name f named = same_value name (codes "script") (named ∙ names_agree m ∙ ap (option_map (λ (q : Text × List Row). q.0)) f.met_is)
named_for m (a_script_on a) name f named = same_value name (codes "script") (named ∙ names_agree m ∙ ap (option_map (λ (q : Text × List Row). q.0)) f.met_is)
named_for m (rounds n) name f named = same_value name (codes "make") (named ∙ names_agree m ∙ name_met (subcommand_rows_of m) (codes "make") _ f.2)
named_for m (database a p l) name f named = same_value name (codes "init") (named ∙ names_agree m ∙ ap (option_map (λ (q : Text × List Row). q.0)) f.met_is)

pub met_something : (m : ArgMatches) (wanted : Wanted) → IsFound m wanted → subcommand_name_of m ≡ Some (name_for wanted)
met_something m a_script f = names_agree m ∙ ap (option_map (λ (q : Text × List Row). q.0)) f.met_is
met_something m (a_script_on a) f = names_agree m ∙ ap (option_map (λ (q : Text × List Row). q.0)) f.met_is
met_something m (rounds n) f = names_agree m ∙ name_met (subcommand_rows_of m) (codes "make") _ f.2
met_something m (database a p l) f = names_agree m ∙ ap (option_map (λ (q : Text × List Row). q.0)) f.met_is

script_rows : (met : Option (Text × List Row)) (rows : List Row) (wanted : Wanted) → MetScript met wanted → Some rows ≡ option_map (λ p. p.1) met → HasScript rows wanted
script_rows met rows wanted f r =
    let same : f.rows ≡ rows = sym (same_value rows f.rows (r ∙ ap (option_map (λ (q : Text × List Row). q.1)) f.met_is)) in
    subst (λ (rs : List Row). HasScript rs wanted) same f.has

pub is_script : (m : ArgMatches) (wanted : Wanted) (name : Text) (rows : List Row) → IsFound m wanted → name ≡ name_for wanted → Some rows ≡ option_map (λ p. p.1) (subcommand_rows_of m)
    → pointwise eqb name (codes "script") ≡ true → HasScript rows wanted
is_script m a_script name rows f e r test = script_rows (subcommand_rows_of m) rows a_script f r
is_script m (a_script_on a) name rows f e r test = script_rows (subcommand_rows_of m) rows (a_script_on a) f r
is_script m (rounds n) name rows f e r test = let same : codes "make" ≡ codes "script" = sym e ∙ (bytes_decides name (codes "script")).0 test in let byte : 109 ≡ 115 = ap (λ (w : Text). get_or w 0 0) same in absurd (omega (arith, byte))
is_script m (database a p l) name rows f e r test = let same : codes "init" ≡ codes "script" = sym e ∙ (bytes_decides name (codes "script")).0 test in let byte : 105 ≡ 115 = ap (λ (w : Text). get_or w 0 0) same in absurd (omega (arith, byte))

-- the word behind `script`
abbrev pub word_for : Wanted → Text
word_for a_script = codes "-"
word_for (a_script_on name) = name
word_for (rounds n) = []
word_for (database name p l) = []

pub script_word : (rows : List Row) (wanted : Wanted) → HasScript rows wanted → first_of (codes "FILE") rows ≡ Some (word_for wanted)
script_word rows a_script h = h
script_word rows (a_script_on name) h = h.1
script_word rows (rounds n) h = absurd h
script_word rows (database name p l) h = absurd h

-- it is `-` exactly for a script on a new database
pub on_new : (rows : List Row) (wanted : Wanted) (word : Text) → HasScript rows wanted → word ≡ word_for wanted → pointwise eqb word (codes "-") ≡ true → a_script ≡ wanted
on_new rows a_script word h e test = refl
on_new rows (a_script_on name) word h e test = let bad : IsFile (codes "-") = subst IsFile (sym e ∙ (bytes_decides word (codes "-")).0 test) h.0 in absurd (bad refl)
on_new rows (rounds n) word h e test = absurd h
on_new rows (database name p l) word h e test = absurd h

pub on_file : (rows : List Row) (wanted : Wanted) (word : Text) → HasScript rows wanted → word ≡ word_for wanted → pointwise eqb word (codes "-") ≡ false → a_script_on word ≡ wanted
on_file rows a_script word h e test = absurd (false≢true (sym test ∙ same_bytes word (codes "-") e))
on_file rows (a_script_on name) word h e test = ap a_script_on e
on_file rows (rounds n) word h e test = absurd h
on_file rows (database name p l) word h e test = absurd h

-- a database was found
pub record IsDatabase (wanted : Wanted) (rows : List Row) : Type 0 where
  pub name : List ℕ
  pub of_pages : ℕ
  pub of_log : ℕ
  pub wanted_is : wanted ≡ database name of_pages of_log
  pub has : HasDatabase rows name of_pages of_log

pub is_database : (m : ArgMatches) (wanted : Wanted) (name : Text) (rows : List Row) → IsFound m wanted → name ≡ name_for wanted → Some rows ≡ option_map (λ p. p.1) (subcommand_rows_of m)
    → pointwise eqb name (codes "init") ≡ true → IsDatabase wanted rows
is_database m a_script name rows f e r test = let same : codes "script" ≡ codes "init" = sym e ∙ (bytes_decides name (codes "init")).0 test in let byte : 115 ≡ 105 = ap (λ (w : Text). get_or w 0 0) same in absurd (omega (arith, byte))
is_database m (a_script_on a) name rows f e r test = let same : codes "script" ≡ codes "init" = sym e ∙ (bytes_decides name (codes "init")).0 test in let byte : 115 ≡ 105 = ap (λ (w : Text). get_or w 0 0) same in absurd (omega (arith, byte))
is_database m (rounds n) name rows f e r test = let same : codes "make" ≡ codes "init" = sym e ∙ (bytes_decides name (codes "init")).0 test in let byte : 109 ≡ 105 = ap (λ (w : Text). get_or w 0 0) same in absurd (omega (arith, byte))
is_database m (database a p l) name rows f e r test =
    let same : f.rows ≡ rows = sym (same_value rows f.rows (r ∙ ap (option_map (λ (q : Text × List Row). q.1)) f.met_is)) in
    record { name = a; of_pages = p; of_log = l; wanted_is = refl; has = subst (λ (rs : List Row). HasDatabase rs a p l) same f.has }

-- a number was found
pub record IsRounds (wanted : Wanted) (value : Option Text) : Type 0 where
  pub number : ℕ
  pub least : 1 ≤ number
  pub most : number ≤ MOST_ROUNDS
  pub wanted_is : wanted ≡ rounds number
  pub value_is : value ≡ Some (decimal number)

pub is_rounds : (m : ArgMatches) (wanted : Wanted) (name : Text) (rows : List Row) → IsFound m wanted → name ≡ name_for wanted → Some rows ≡ option_map (λ p. p.1) (subcommand_rows_of m)
    → pointwise eqb name (codes "script") ≡ false → pointwise eqb name (codes "init") ≡ false → IsRounds wanted (first_of (codes "NUMBER") rows)
is_rounds m a_script name rows f e r other last = absurd (false≢true (sym other ∙ same_bytes name (codes "script") e))
is_rounds m (a_script_on a) name rows f e r other last = absurd (false≢true (sym other ∙ same_bytes name (codes "script") e))
is_rounds m (rounds n) name rows f e r other last =
    record { number = n; least = f.0; most = f.1; wanted_is = refl; value_is = value_met (subcommand_rows_of m) rows (codes "make") (decimal n) f.2 r }
is_rounds m (database a p l) name rows f e r other last = absurd (false≢true (sym last ∙ same_bytes name (codes "init") e))

-- ---- bounds

pub bounds : {A : Type 0} (wanted : Wanted) (words : List (String A)) → AsksFor wanted words → HasBounds wanted
bounds a_script words s = tt
bounds (a_script_on name) words s = tt
bounds (rounds n) words m = tt
bounds (database name p l) words i =
    let of_pages = is_number LEAST_PAGES MOST_PAGES DEFAULT_PAGES (pages_in i.parts) p (omega arith) (omega arith) (pages_fit i.parts i.fit) i.of_pages in
    let of_log = is_number LEAST_LOG_KIB MOST_LOG_KIB DEFAULT_LOG_KIB (logs_in i.parts) l (omega arith) (omega arith) (log_fits i.parts i.fit) i.of_log in
    (of_pages.above, of_pages.below, of_log.above, of_log.below)
