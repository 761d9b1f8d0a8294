-- Lists, what stands in parentheses, and what may stand behind a value.
use Rattle.std.proofs.Common.{◌≡◌, ℕ, Bool, true, false, cond, List, [], ◌∷◌, ◌++◌, length, Option, refl, ap, ◌∙◌, append_assoc, nat_lt}
use Rattle.std.specs.Prelude.{◌||◌}
use Rattle.text_grammar.specs.declared.fault.Cause.TheVariants.{Limit}
use Rattle.text_grammar.specs.Readers.{Reader, is, starts, one, both, mapped, behind, before, perhaps, blocked}
use Rattle.text_grammar.specs.Languages.{Lang, One, Then, Behind, Mapped, Before, Nothing, Perhaps}
use Rattle.text_grammar.specs.Places.{Begins}
use Rattle.text_grammar.proofs.Exactness.{Exact, never, StartsWith, StartsWithout, Stops, widened}
use Rattle.text_grammar.proofs.Tokens.{one-exact}
use Rattle.text_grammar.proofs.Combining.{FitsBehind, mapped-exact, then-exact, fits_perhaps, either-exact, perhaps-exact}
use Rattle.text_grammar.proofs.Repeating.{row-exact}
use Rattle.text_grammar.proofs.Blocking.{blocked-exact}
use Rattle.text_grammar.proofs.Starts.{one_starts, behind_starts, without, mapped_starts, mapped_without, one_begins, both_begins, mapped_begins, row_begins, left_begins, or_false}
use Rattle.iv_types.specs.declared.terminal.Terminal.{Terminal}
use Rattle.iv_types.specs.declared.terminal.Terminal.TheVariants as t
use Rattle.iv_types.specs.Tokens.{Symbol, hole}
use Rattle.iv_types.specs.Expressions.{the}
use Rattle.iv_types.specs.Grammar.{Only, singleton, snoc, Listed, the_hole, no_item, an_item, add, Counted, ListedTo, Enclosed}
use Rattle.sql_readers.specs.Statements.{comma_list, counted, listed_to, enclosed, comma_item}
use Rattle.sql_readers.proofs.Ladder.{behind_the, behind_some, the_begins, only-exact}

-- ---- what follows

-- where what follows stops big, what q spells and then follows stops on
abbrev pub Follows : {A : Type 0} → Lang Symbol A → (on big : Symbol → Bool) → Type 0
Follows {A = A} q on big = (back rest : List Symbol) (a : A) → q back a → Stops big rest → Stops on (back ++ rest)

-- one test covers another
abbrev pub Covers : (big on : Symbol → Bool) → Type 0
Covers big on = (x : Symbol) → big x ≡ false → on x ≡ false

-- what passes the test stops on
abbrev pub Ends : (test on : Symbol → Bool) → Type 0
Ends test on = (x : Symbol) → test x ≡ true → on x ≡ false

covers_stop : (on big : Symbol → Bool) → Covers big on → (rest : List Symbol) → Stops big rest → Stops on rest
covers_stop on big c [] h = refl
covers_stop on big c (x ∷ xs) h = c x h

pub follows_perhaps : {A : Type 0} (test : Symbol → Bool) (p : Lang Symbol A) (on big : Symbol → Bool) → StartsWith p test → Ends test on → Covers big on → Follows (Perhaps p) on big
follows_perhaps test p on big with ends covers back rest a h stop = (fits_perhaps test p on big with ends covers back rest a h stop).0

pub follows_starts : {A : Type 0} (test : Symbol → Bool) (p : Lang Symbol A) (on big : Symbol → Bool) → StartsWith p test → Ends test on → Follows p on big
follows_starts test p on big with ends back rest a h stop = without p test on with ends back rest a h

pub follows_then : {A B : Type 0} (q : Lang Symbol A) (r : Lang Symbol B) (on mid big : Symbol → Bool) → Follows q on mid → Follows r mid big → Follows (Then q r) on big
follows_then q r on mid big f g back rest x h stop =
    ap (λ (z : List Symbol). starts on (z ++ rest)) h.text
    ∙ ap (starts on) (append_assoc h.front h.back rest)
    ∙ f h.front (h.back ++ rest) x.0 h.first (g h.back rest x.1 h.second stop)

pub follows_mapped : {A B : Type 0} (f : A → B) (q : Lang Symbol A) (on big : Symbol → Bool) → Follows q on big → Follows (Mapped f q) on big
follows_mapped f q on big g back rest b h stop = g back rest h.value h.spelled stop

never_stopped : (rest : List Symbol) → Stops never rest
never_stopped [] = refl
never_stopped (x ∷ xs) = refl

pub follows_never : {A : Type 0} (q : Lang Symbol A) (big : Symbol → Bool) → Follows q never big
follows_never q big back rest a h stop = never_stopped (back ++ rest)

pub fits_of : {A : Type 0} (q : Lang Symbol A) (on on' big : Symbol → Bool) → Follows q on big → Covers big on' → FitsBehind q on on' big
fits_of q on on' big f c back rest a h stop = (f back rest a h stop, covers_stop on' big c rest stop)

-- one after the other
pub then_by : {A B : Type 0} (p : Lang Symbol A) (q : Lang Symbol B) (on on' big : Symbol → Bool) (r : Reader Symbol A) (s : Reader Symbol B) → Exact p on r → Exact q on' s → Begins q [] → Follows q on big → Covers big on' → Exact (Then p q) big (both r (λ _. s))
then_by p q on on' big r s e f some follows covers = then-exact p q on on' big r s e f some (fits_of q on on' big follows covers)

-- behind a keyword, perhaps
pub optional-exact : {A : Type 0} (k : Terminal) (p : Lang Symbol A) (on : Symbol → Bool) (r : Reader Symbol A) → Exact p on r → Begins p [] → Exact (Perhaps (Behind (the k) p)) (λ x. on x || is (the k) x) (perhaps (is (the k)) (behind (the k) r))
optional-exact k p on r e some = perhaps-exact (is (the k)) (Behind (the k) p) on (λ x. on x || is (the k) x) (behind (the k) r) (behind_the k p on r e some) (behind_starts (the k) p) (λ x h. or_false (on x) (is (the k) x) h)

-- ---- parentheses

pub enclosed-exact : {A : Type 0} (p : Lang Symbol A) (on : Symbol → Bool) (r : Reader Symbol A) → Exact p on r → Begins p [] → Ends (is (the t.Close)) on → Exact (Enclosed p) never (enclosed r)
enclosed-exact p on r e some ends =
    behind_the t.Open (Before (the t.Close) p) never (before (the t.Close) r)
    (mapped-exact (λ x. x.0) (Then p (One (the t.Close))) never (both r (λ _. one (the t.Close)))
    (then_by p (One (the t.Close)) on never never r (one (the t.Close)) e (one-exact (the t.Close)) (the_begins t.Close)
    (follows_starts (is (the t.Close)) (One (the t.Close)) on never (one_starts (the t.Close)) ends) (λ x h. refl)))
    (mapped_begins (λ x. x.0) (Then p (One (the t.Close))) (both_begins p (λ _. One (the t.Close)) some (λ _. the_begins t.Close)))

pub enclosed_begins : {A : Type 0} (p : Lang Symbol A) → Begins p [] → Begins (Enclosed p) []
enclosed_begins p some = behind_some t.Open (Before (the t.Close) p) (mapped_begins (λ x. x.0) (Then p (One (the t.Close))) (both_begins p (λ _. One (the t.Close)) some (λ _. the_begins t.Close)))

-- ---- lists

abbrev pub comma : Symbol → Bool
comma = is (the t.Comma)

pub listed-exact : {A : Type 0} (p : Lang Symbol A) (on : Symbol → Bool) (r : Reader Symbol A) → Exact p on r → Begins p [] → Ends comma on → Exact (Listed p) (λ x. on x || comma x) (comma_list r)
listed-exact p on r e some ends =
    row-exact comma singleton snoc p (λ _. Behind (the t.Comma) p) on (λ x. on x || comma x) r (λ _. comma_item r) e
    (λ c. behind_the t.Comma p on r e some)
    (λ c. behind_starts (the t.Comma) p)
    (ends, λ x h. or_false (on x) (comma x) h)

pub listed_begins : {A : Type 0} (p : Lang Symbol A) → Begins p [] → Begins (Listed p) []
listed_begins p some = row_begins singleton snoc p (λ _. Behind (the t.Comma) p) some

only_without : {A : Type 0} (b : Bool) (p : Lang Symbol A) (other : Symbol → Bool) → StartsWithout p other → StartsWithout (Only b p) other
only_without b p other w ts rest a h = w ts rest a h.1

pub holed-exact : {A : Type 0} (on : Symbol → Bool) → Exact {A = Option A} (Mapped no_item (One the_hole)) on (mapped no_item (one the_hole))
holed-exact on = widened (Mapped no_item (One the_hole)) never on (mapped no_item (one the_hole)) (mapped-exact no_item (One the_hole) never (one the_hole) (one-exact the_hole)) (λ x h. refl)

pub counted-exact : {A : Type 0} (limit have most : ℕ) (p : Lang Symbol A) (on : Symbol → Bool) (r : Reader Symbol A) → Exact p on r → StartsWithout p (is the_hole) → Exact (Counted have most p) on (counted limit have most r)
counted-exact limit have most p on r e w =
    let m = mapped-exact an_item p on r e in
    either-exact (is the_hole) (Mapped no_item (One the_hole)) (Only (nat_lt have most) (Mapped an_item p)) on (mapped no_item (one the_hole)) (λ ts. cond (nat_lt have most) (mapped an_item r ts) (blocked (Limit limit) (mapped an_item r) ts))
    (holed-exact on)
    (only-exact (nat_lt have most) (Mapped an_item p) on (mapped an_item r) (blocked (Limit limit) (mapped an_item r)) m (widened Nothing never on (blocked (Limit limit) (mapped an_item r)) (blocked-exact (Limit limit) (Mapped an_item p) on (mapped an_item r) m) (λ x h. refl)))
    (mapped_starts no_item (One the_hole) (is the_hole) (one_starts the_hole))
    (only_without (nat_lt have most) (Mapped an_item p) (is the_hole) (mapped_without an_item p (is the_hole) w))

pub counted_begins : {A : Type 0} (have most : ℕ) (p : Lang Symbol A) → Begins (Counted have most p) []
counted_begins have most p = left_begins (Mapped no_item (One the_hole)) (Only (nat_lt have most) (Mapped an_item p)) (mapped_begins no_item (One the_hole) (one_begins the_hole hole tt refl))

pub listed_to-exact : {A : Type 0} (limit most : ℕ) (p : Lang Symbol A) (on : Symbol → Bool) (r : Reader Symbol A) → Exact p on r → StartsWithout p (is the_hole) → Ends comma on → Exact (ListedTo most p) (λ x. on x || comma x) (listed_to limit most r)
listed_to-exact limit most p on r e w ends =
    row-exact comma singleton add p (λ have. Behind (the t.Comma) (Counted (length have) most p)) on (λ x. on x || comma x) r (λ have. comma_item (counted limit (length have) most r)) e
    (λ have. behind_the t.Comma (Counted (length have) most p) on (counted limit (length have) most r) (counted-exact limit (length have) most p on r e w) (counted_begins (length have) most p))
    (λ have. behind_starts (the t.Comma) (Counted (length have) most p))
    (ends, λ x h. or_false (on x) (comma x) h)

pub listed_to_begins : {A : Type 0} (most : ℕ) (p : Lang Symbol A) → Begins p [] → Begins (ListedTo most p) []
listed_to_begins most p some = row_begins singleton add p (λ have. Behind (the t.Comma) (Counted (length have) most p)) some
