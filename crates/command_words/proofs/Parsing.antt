-- What clap makes of the words that are commands.
use Rattle.std.proofs.Common.{◌≡◌, ◌≢◌, ◌==◌, Bool, ◌≤◌, ◌<◌, ◌+◌, ◌-◌, ◌^◌, ◌%◌, ◌++◌, ◌∙◌, ℕ, zero, suc, List, [], ◌∷◌, Option, Some, None, true, false, refl, sym, ap, subst, codes, decimal, option_map, eqb, arith, rules, get_or}
use Rattle.std.specs.Cmp.Lexicographic.{pointwise}
use Rattle.std.proofs.lemmas.Bool.{eq-eqb, eqb-true}
use Rattle.std.specs.Prelude.{IsSome, MatchOption}
use Rattle.std.proofs.lemmas.Fmt.{decimal_by_steps, first_decimal}
use Rattle.clap.specs.Words.{Row, Text, first_of, is_simple, subcommand_of, subcommand_rows_of, takes}
use Rattle.clap.specs.Matches.{subcommand_name_of}
use Rattle.clap.specs.declared.parser.matches.ArgMatches.{ArgMatches}
use Rattle.clap.specs.declared.parser.matches.ArgMatches.TheViews.{out-ArgMatches}
use Rattle.clap.proofs.OnLiterals.{clap_on_literals}
use Rattle.command_words.specs.Commands.{commands, file_in}
use Rattle.command_words.specs.Init.{IsPlain}
use Rattle.command_words.specs.Words.{IsFile}

pub simple : is_simple commands ≡ true
unfolding clap_on_literals
simple = refl

-- ---- texts

equal_bytes : (xs : List ℕ) → pointwise eqb xs xs ≡ true
equal_bytes [] = refl
equal_bytes (x ∷ xs) = rw (eq-eqb x x refl) (equal_bytes xs)

pub same_bytes : (xs ys : List ℕ) → xs ≡ ys → pointwise eqb xs ys ≡ true
same_bytes xs ys e = subst (λ (zs : List ℕ). pointwise eqb xs zs ≡ true) e (equal_bytes xs)

-- a number above 0 begins with one of these digits
record BeginsWithDigit (text : List ℕ) : Type 0 where
  digit : ℕ
  rest : List ℕ
  most : digit ≤ 57
  is : text ≡ digit ∷ rest

begins : (n : ℕ) → n < 2 ^ 64 → BeginsWithDigit (decimal n)
begins = decimal_by_steps (λ n text. BeginsWithDigit text)
    (λ n less. record { digit = 48 + n; rest = []; most = omega (arith, less); is = refl })
    (λ n ds ten b. record { digit = b.digit; rest = b.rest ++ (48 + n % 10) ∷ []; most = b.most; is = ap (λ (xs : List ℕ). xs ++ (48 + n % 10) ∷ []) b.is })

-- a number above 0 and FILE do not begin with `-`
not_minus : (b : ℕ) → b ≢ 45 → (b == 45) ≡ false
not_minus b ne = by (b == 45) refl
  where
    by : (t : Bool) → (b == 45) ≡ t → (b == 45) ≡ false
    by true e = absurd (ne (eqb-true b 45 e))
    by false e = e

pub plain_number : (n : ℕ) → 1 ≤ n → n < 2 ^ 64 → IsPlain (decimal n)
plain_number n least less =
    let b = begins n less in
    let above : 48 < b.digit = subst (λ (xs : List ℕ). 48 < get_or xs 0 0) b.is (first_decimal n (omega (arith, least)) less) in
    subst IsPlain (sym b.is) (not_minus b.digit (λ e. omega (arith, e, above)))

pub plain_file : (name : List ℕ) → IsFile name → IsPlain name
plain_file [] here = absurd here
plain_file (b ∷ bs) ne = not_minus b ne

first_text : List (List ℕ) → List ℕ
first_text [] = []
first_text (x ∷ xs) = x

pub same_head : (x y : List ℕ) → x ∷ [] ≡ y ∷ [] → x ≡ y
unfolding first_text
same_head x y e = ap first_text e

one_of_nine : (P : ℕ → Type 0) → P 49 → P 50 → P 51 → P 52 → P 53 → P 54 → P 55 → P 56 → P 57 → (d : ℕ) → d < 9 → P (49 + d)
one_of_nine P p1 p2 p3 p4 p5 p6 p7 p8 p9 zero less = p1
one_of_nine P p1 p2 p3 p4 p5 p6 p7 p8 p9 (suc zero) less = p2
one_of_nine P p1 p2 p3 p4 p5 p6 p7 p8 p9 (suc (suc zero)) less = p3
one_of_nine P p1 p2 p3 p4 p5 p6 p7 p8 p9 (suc (suc (suc zero))) less = p4
one_of_nine P p1 p2 p3 p4 p5 p6 p7 p8 p9 (suc (suc (suc (suc zero)))) less = p5
one_of_nine P p1 p2 p3 p4 p5 p6 p7 p8 p9 (suc (suc (suc (suc (suc zero))))) less = p6
one_of_nine P p1 p2 p3 p4 p5 p6 p7 p8 p9 (suc (suc (suc (suc (suc (suc zero)))))) less = p7
one_of_nine P p1 p2 p3 p4 p5 p6 p7 p8 p9 (suc (suc (suc (suc (suc (suc (suc zero))))))) less = p8
one_of_nine P p1 p2 p3 p4 p5 p6 p7 p8 p9 (suc (suc (suc (suc (suc (suc (suc (suc zero)))))))) less = p9
one_of_nine P p1 p2 p3 p4 p5 p6 p7 p8 p9 (suc (suc (suc (suc (suc (suc (suc (suc (suc d))))))))) less = absurd (omega (arith, less))

-- ---- `script` and `-` or FILE

pub record ReadsFile (text : List ℕ) : Type 0 where
  pub taken : takes commands (codes "script" ∷ text ∷ []) ≡ true
  pub read : file_in (subcommand_of commands (codes "script" ∷ text ∷ [])) ≡ Some (codes "script", Some text)

pub reads_dash : ReadsFile (codes "-")
unfolding clap_on_literals
reads_dash = record { taken = refl; read = refl }

pub reads_file : (name : List ℕ) → IsPlain name → ReadsFile name
unfolding clap_on_literals
reads_file [] plain = absurd plain
reads_file (b ∷ bs) plain = record { taken = rw (plain, plain) refl; read = rw (plain, plain) refl }

-- ---- `make` and a number

abbrev pub number_in : Option (Text × List Row) → Option (Text × Option Text)
number_in = option_map (λ p. (p.0, first_of (codes "NUMBER") p.1))

-- a word that begins with this byte is taken as the number
record Reads (byte : ℕ) : Type 0 where
  taken : (rest : List ℕ) → takes commands (codes "make" ∷ (byte ∷ rest) ∷ []) ≡ true
  read : (rest : List ℕ) → number_in (subcommand_of commands (codes "make" ∷ (byte ∷ rest) ∷ [])) ≡ Some (codes "make", Some (byte ∷ rest))

reads_digit : (d : ℕ) → d < 9 → Reads (49 + d)
unfolding clap_on_literals
reads_digit = one_of_nine Reads
    (record { taken = λ rest. refl; read = λ rest. refl })
    (record { taken = λ rest. refl; read = λ rest. refl })
    (record { taken = λ rest. refl; read = λ rest. refl })
    (record { taken = λ rest. refl; read = λ rest. refl })
    (record { taken = λ rest. refl; read = λ rest. refl })
    (record { taken = λ rest. refl; read = λ rest. refl })
    (record { taken = λ rest. refl; read = λ rest. refl })
    (record { taken = λ rest. refl; read = λ rest. refl })
    (record { taken = λ rest. refl; read = λ rest. refl })

-- a number is so
pub record ReadsNumber (text : List ℕ) : Type 0 where
  pub taken : takes commands (codes "make" ∷ text ∷ []) ≡ true
  pub read : number_in (subcommand_of commands (codes "make" ∷ text ∷ [])) ≡ Some (codes "make", Some text)

pub reads_number : (n : ℕ) → 1 ≤ n → n < 2 ^ 64 → ReadsNumber (decimal n)
reads_number n least less =
    let b = begins n less in
    let above : 48 < b.digit = subst (λ (xs : List ℕ). 48 < get_or xs 0 0) b.is (first_decimal n (omega (arith, least)) less) in
    let same : 49 + (b.digit - 49) ≡ b.digit = omega (arith, above) in
    let r : Reads b.digit = subst Reads same (reads_digit (b.digit - 49) (omega (arith, above, b.most))) in
    subst ReadsNumber (sym b.is) (record { taken = r.taken b.rest; read = r.read b.rest })

-- ---- what was found

some_value : {A : Type 0} (a : A) → Option A → A
some_value a (Some x) = x
some_value a None = a

pub same_value : {A : Type 0} (x y : A) → Some x ≡ Some y → x ≡ y
unfolding some_value
same_value x y e = ap (some_value x) e

-- the value that stands behind the command that was met
pub value_met : (met : Option (Text × List Row)) (rows : List Row) (name word : Text) → number_in met ≡ Some (name, Some word) → Some rows ≡ option_map (λ p. p.1) met → first_of (codes "NUMBER") rows ≡ Some word
value_met None rows name word e r = absurd (cc)
value_met (Some p) rows name word e r = ap (first_of (codes "NUMBER")) (same_value rows p.1 r) ∙ ap (λ (q : Text × Option Text). q.1) (same_value _ _ e)

pub name_met : (met : Option (Text × List Row)) (name : Text) (word : Option Text) → number_in met ≡ Some (name, word) → option_map (λ p. p.0) met ≡ Some name
name_met None name word e = absurd (cc)
name_met (Some p) name word e = ap Some (ap (λ (q : Text × Option Text). q.0) (same_value _ _ e))

maps_twice : {A B C : Type 0} (f : A → B) (g : B → C) (o : Option A) → option_map (λ x. g (f x)) o ≡ option_map g (option_map f o)
maps_twice f g None = refl
maps_twice f g (Some x) = refl

pub names_agree : (m : ArgMatches) → subcommand_name_of m ≡ option_map (λ p. p.0) (subcommand_rows_of m)
names_agree m = maps_twice _ (λ (p : Text × List Row). p.0) (out-ArgMatches m).subcommand

pub is_value : {A B : Type 0} (f : A → B) (r : Option A) (y : B) → option_map f r ≡ Some y → IsSome r
is_value f None y e = absurd (cc)
is_value f (Some x) y e = search rules

pub not_none : {A : Type 0} (r : Option A) (N : Type 0) (S : A → Type 0) → MatchOption r N S → (N → ⊥) → IsSome r
not_none None N S h never = absurd (never h)
not_none (Some x) N S h never = search rules

pub value_holds : {A : Type 0} (r : Option A) (x : A) (N : Type 0) (S : A → Type 0) → MatchOption r N S → r ≡ Some x → S x
value_holds {A = A} r x N S h e = subst (λ (o : Option A). MatchOption o N S) e h
