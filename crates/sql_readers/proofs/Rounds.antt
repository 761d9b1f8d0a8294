-- Steps of the readers of lists, as the code takes them.
use Rattle.std.proofs.Common.{◌≡◌, ℕ, suc, ◌<◌, ◌≤◌, true, false, List, [], ◌∷◌, length, Some, Result, Ok, Err, refl, sym, ap, ◌∙◌, arith, nat_lt, subst}
use Rattle.text_grammar.specs.declared.fault.Cause.{Cause}
use Rattle.text_grammar.specs.declared.fault.Cause.TheVariants.{Limit}
use Rattle.text_grammar.specs.declared.fault.Fault.{Fault}
use Rattle.text_grammar.specs.Readers.{◌>>=◌, Reader, is, starts, behind, both, mapped, blocked, fault_of_first, folded}
use Rattle.text_grammar.proofs.Exactness.{never, err_is}
use Rattle.text_grammar.proofs.Repeating.{Consumes, consumes}
use Rattle.text_grammar.proofs.Loops.{row_on, row_fails, row_ends}
use Rattle.text_grammar.proofs.Extends.{Stays, Within}
use Rattle.iv_types.specs.declared.terminal.Terminal.{Terminal}
use Rattle.iv_types.specs.declared.terminal.Terminal.TheVariants as t
use Rattle.iv_types.specs.Tokens.{Symbol}
use Rattle.iv_types.specs.Expressions.{the}
use Rattle.iv_types.specs.Grammar.{snoc, add, the_hole, an_item, AColumn, AJoin, Sources, with_join, join_of}
use Rattle.iv_types.specs.declared.statement.ColumnDef.{ColumnDef}
use Rattle.iv_types.specs.declared.statement.Relation.{Relation}
use Rattle.iv_types.specs.Limits.{Limits}
use Rattle.iv_types.specs.Syntax.{Tree, JoinTree}
use Rattle.sql_readers.specs.Ladder.{is_name, expression}
use Rattle.sql_readers.specs.Statements.{comma_item, counted, column, source, join_one, joined_source, join}
use Rattle.sql_readers.proofs.Apart.{on_expression}
use Rattle.sql_readers.proofs.Creations.{column-exact, column_starts}
use Rattle.sql_readers.proofs.Queries.{join-exact, join_starts}
use Rattle.sql_readers.proofs.Lists.{comma}
use Rattle.sql_readers.proofs.GrownLists.{counted_stays}

within_ok : {A : Type 0} (n : ℕ) (z : Result (A × List Symbol) Fault) (x : A × List Symbol) → Within n z → z ≡ Ok x → length x.1 ≤ n
within_ok n z x w e = subst (λ (y : Result (_ × List Symbol) Fault). Within n y) e w

-- what stands behind a keyword or mark takes that at least
pub behind_consumes : {A : Type 0} (k : Terminal) (r : Reader Symbol A) → Stays r → Consumes (is (the k)) (behind (the k) r)
behind_consumes k r w [] x h e = absurd cc
behind_consumes k r w (s ∷ ts) x h e =
    let le : length x.1 ≤ length ts = within_ok (length ts) (r ts) x (w ts) (sym (rw h refl) ∙ e) in
    omega (arith, le)

pub behind_passed : {A : Type 0} (k : Terminal) (r : Reader Symbol A) (x : Symbol) (ts after : List Symbol) → ts ≡ x ∷ after → is (the k) x ≡ true → behind (the k) r ts ≡ r after
behind_passed k r x ts after text found = ap (behind (the k) r) text ∙ (rw found refl)

pub comes_first : (k : Terminal) (x : Symbol) (ts after : List Symbol) → ts ≡ x ∷ after → is (the k) x ≡ true → starts (is (the k)) ts ≡ true
comes_first k x ts after text found = ap (starts (is (the k))) text ∙ found

-- ---- lists

abbrev pub more_of : {A : Type 0} → Reader Symbol A → List A → Reader Symbol (List A)
more_of r = folded comma snoc (λ _. comma_item r)

pub next_on : {A : Type 0} (r : Reader Symbol A) (acc : List A) (x : Symbol) (ts after mid : List Symbol) (b : A) → Stays r → ts ≡ x ∷ after → is (the t.Comma) x ≡ true → r after ≡ Ok (b, mid) → more_of r (snoc acc b) mid ≡ more_of r acc ts
next_on r acc x ts after mid b w text found e = row_on comma snoc (λ _. comma_item r) acc ts mid b (λ c. behind_consumes t.Comma r w) (comes_first t.Comma x ts after text found) (behind_passed t.Comma r x ts after text found ∙ e)

pub next_fails : {A : Type 0} (r : Reader Symbol A) (acc : List A) (x : Symbol) (ts after : List Symbol) (f : Fault) → ts ≡ x ∷ after → is (the t.Comma) x ≡ true → r after ≡ Err f → more_of r acc ts ≡ Err f
next_fails r acc x ts after f text found e = row_fails comma snoc (λ _. comma_item r) acc ts f (comes_first t.Comma x ts after text found) (behind_passed t.Comma r x ts after text found ∙ e)

pub list_ends : {A : Type 0} (r : Reader Symbol A) (acc : List A) (ts : List Symbol) → starts comma ts ≡ false → more_of r acc ts ≡ Ok (acc, ts)
list_ends r acc ts h = row_ends comma snoc (λ _. comma_item r) acc ts h

-- ---- lists of so many at most

abbrev pub more_to : {A : Type 0} → ℕ → ℕ → Reader Symbol A → List A → Reader Symbol (List A)
more_to v most r = folded comma add (λ have. comma_item (counted v (length have) most r))

room : (m n : ℕ) → m < n → nat_lt m n ≡ true
room m n h = grind arith

no_room : (m n : ℕ) → n ≤ m → nat_lt m n ≡ false
no_room m n h = grind arith

counted_room : {A : Type 0} (v have most : ℕ) (r : Reader Symbol A) (ts : List Symbol) → starts (is the_hole) ts ≡ false → have < most → counted v have most r ts ≡ mapped an_item r ts
counted_room v have most r ts h lt = let k = room have most lt in rw (h, k) refl

counted_full : {A : Type 0} (v have most : ℕ) (r : Reader Symbol A) (ts : List Symbol) → starts (is the_hole) ts ≡ false → most ≤ have → counted v have most r ts ≡ blocked (Limit v) (mapped an_item r) ts
counted_full v have most r ts h le = let k = no_room have most le in rw (h, k) refl

counted_consumes : {A : Type 0} (v most : ℕ) (r : Reader Symbol A) → Stays r → (c : List A) → Consumes comma (comma_item (counted v (length c) most r))
counted_consumes v most r w c = behind_consumes t.Comma (counted v (length c) most r) (counted_stays v (length c) most r w)

pub counted_ok : {A : Type 0} (v have most : ℕ) (r : Reader Symbol A) (ts mid : List Symbol) (b : A) → starts (is the_hole) ts ≡ false → have < most → r ts ≡ Ok (b, mid) → counted v have most r ts ≡ Ok (Some b, mid)
counted_ok v have most r ts mid b h lt e = counted_room v have most r ts h lt ∙ rw e refl

pub counted_err : {A : Type 0} (v have most : ℕ) (r : Reader Symbol A) (ts : List Symbol) (f : Fault) → starts (is the_hole) ts ≡ false → have < most → r ts ≡ Err f → counted v have most r ts ≡ Err f
counted_err v have most r ts f h lt e = counted_room v have most r ts h lt ∙ rw e refl

same_first : {A B : Type 0} (g : A → B) (cause : Cause) (ts : List Symbol) (z : Result (A × List Symbol) Fault) → fault_of_first cause ts (z >>= (λ x. Ok (g x.0, x.1))) ≡ fault_of_first cause ts z
same_first g cause ts (Ok x) = refl
same_first g cause ts (Err f) = refl

pub counted_over : {A : Type 0} (v have most : ℕ) (r : Reader Symbol A) (ts : List Symbol) (f : Fault) → starts (is the_hole) ts ≡ false → most ≤ have → blocked (Limit v) r ts ≡ Err f → counted v have most r ts ≡ Err f
counted_over {A = A} v have most r ts f h le e =
    let same : fault_of_first (Limit v) ts (r ts) ≡ f = err_is {A = A × List Symbol} (fault_of_first (Limit v) ts (r ts)) f e in
    counted_full v have most r ts h le ∙ ap (λ (g : Fault). Result.Err g) (same_first an_item (Limit v) ts (r ts) ∙ same)

pub more_on : {A : Type 0} (v most : ℕ) (r : Reader Symbol A) (acc : List A) (x : Symbol) (ts after mid : List Symbol) (b : A) → Stays r → ts ≡ x ∷ after → is (the t.Comma) x ≡ true → starts (is the_hole) after ≡ false → length acc < most → r after ≡ Ok (b, mid) → more_to v most r (snoc acc b) mid ≡ more_to v most r acc ts
more_on v most r acc x ts after mid b w text found h lt e = row_on comma add (λ have. comma_item (counted v (length have) most r)) acc ts mid (Some b) (counted_consumes v most r w) (comes_first t.Comma x ts after text found) (behind_passed t.Comma (counted v (length acc) most r) x ts after text found ∙ counted_ok v (length acc) most r after mid b h lt e)

pub more_fails : {A : Type 0} (v most : ℕ) (r : Reader Symbol A) (acc : List A) (x : Symbol) (ts after : List Symbol) (f : Fault) → ts ≡ x ∷ after → is (the t.Comma) x ≡ true → starts (is the_hole) after ≡ false → length acc < most → r after ≡ Err f → more_to v most r acc ts ≡ Err f
more_fails v most r acc x ts after f text found h lt e = row_fails comma add (λ have. comma_item (counted v (length have) most r)) acc ts f (comes_first t.Comma x ts after text found) (behind_passed t.Comma (counted v (length acc) most r) x ts after text found ∙ counted_err v (length acc) most r after f h lt e)

pub more_over : {A : Type 0} (v most : ℕ) (r : Reader Symbol A) (acc : List A) (x : Symbol) (ts after : List Symbol) (f : Fault) → ts ≡ x ∷ after → is (the t.Comma) x ≡ true → starts (is the_hole) after ≡ false → most ≤ length acc → blocked (Limit v) r after ≡ Err f → more_to v most r acc ts ≡ Err f
more_over v most r acc x ts after f text found h le e = row_fails comma add (λ have. comma_item (counted v (length have) most r)) acc ts f (comes_first t.Comma x ts after text found) (behind_passed t.Comma (counted v (length acc) most r) x ts after text found ∙ counted_over v (length acc) most r after f h le e)

pub more_ends : {A : Type 0} (v most : ℕ) (r : Reader Symbol A) (acc : List A) (ts : List Symbol) → starts comma ts ≡ false → more_to v most r acc ts ≡ Ok (acc, ts)
more_ends v most r acc ts h = row_ends comma add (λ have. comma_item (counted v (length have) most r)) acc ts h

-- ---- columns

abbrev pub more_columns : Limits → List ColumnDef → Reader Symbol (List ColumnDef)
more_columns l = folded is_name snoc (λ _. column l)

column_consumes : (l : Limits) → Consumes is_name (column l)
column_consumes l = consumes is_name (AColumn l) never (column l) (column-exact l) (column_starts l)

pub column_on : (l : Limits) (acc : List ColumnDef) (ts mid : List Symbol) (c : ColumnDef) → starts is_name ts ≡ true → column l ts ≡ Ok (c, mid) → more_columns l (snoc acc c) mid ≡ more_columns l acc ts
column_on l acc ts mid c h e = row_on is_name snoc (λ _. column l) acc ts mid c (λ a. column_consumes l) h e

pub column_fails : (l : Limits) (acc : List ColumnDef) (ts : List Symbol) (f : Fault) → starts is_name ts ≡ true → column l ts ≡ Err f → more_columns l acc ts ≡ Err f
column_fails l acc ts f h e = row_fails is_name snoc (λ _. column l) acc ts f h e

pub columns_end : (l : Limits) (acc : List ColumnDef) (ts : List Symbol) → starts is_name ts ≡ false → more_columns l acc ts ≡ Ok (acc, ts)
columns_end l acc ts h = row_ends is_name snoc (λ _. column l) acc ts h

-- ---- relations

abbrev pub more_sources : Limits → Sources → Reader Symbol Sources
more_sources l = folded (is (the t.Join)) with_join (λ f. join l (suc (length f.1)))

-- a reader that gives this, whatever it is given
abbrev gives : {A : Type 0} → Result (A × List Symbol) Fault → Reader Symbol A
gives z us = z

same_rest : (r : Relation) (us : List Symbol) (w : Result (Tree × List Symbol) Fault) → mapped join_of (both (gives (Ok (Some r, us))) (λ _. gives w)) [] ≡ mapped an_item (mapped join_one (both (gives (Ok (r, us))) (λ _. gives w))) []
same_rest r us (Ok y) = refl
same_rest r us (Err f) = refl

-- the same pair, once with a relation that may be a hole
same_pair : (z : Result (Relation × List Symbol) Fault) (s : Reader Symbol Tree) → mapped join_of (both (mapped an_item (gives z)) (λ _. s)) [] ≡ mapped an_item (mapped join_one (both (gives z) (λ _. s))) []
same_pair (Err f) s = refl
same_pair (Ok x) s = same_rest x.0 x.1 (s x.1)

join_room : (l : Limits) (have : ℕ) (x : Symbol) (ts after : List Symbol) → ts ≡ x ∷ after → is (the t.Join) x ≡ true → starts (is the_hole) after ≡ false → have < l.relations → join l have ts ≡ mapped an_item (joined_source l) after
unfolding join
join_room l have x ts after text found h lt =
    behind_passed t.Join (mapped join_of (both (counted 7 have l.relations (source l)) (λ _. behind (the t.On) (expression l)))) x ts after text found
    ∙ rw (counted_room 7 have l.relations (source l) after h lt) (same_pair (source l after) (behind (the t.On) (expression l)))

join_consumes : (l : Limits) (c : Sources) → Consumes (is (the t.Join)) (join l (suc (length c.1)))
join_consumes l c = consumes (is (the t.Join)) (AJoin l (suc (length c.1))) on_expression (join l (suc (length c.1))) (join-exact l (suc (length c.1))) (join_starts l (suc (length c.1)))

pub source_on : (l : Limits) (acc : Sources) (x : Symbol) (ts after mid : List Symbol) (j : JoinTree) → ts ≡ x ∷ after → is (the t.Join) x ≡ true → starts (is the_hole) after ≡ false → suc (length acc.1) < l.relations → joined_source l after ≡ Ok (j, mid) → more_sources l (acc.0, snoc acc.1 j) mid ≡ more_sources l acc ts
source_on l acc x ts after mid j text found h lt e = row_on (is (the t.Join)) with_join (λ f. join l (suc (length f.1))) acc ts mid (Some j) (join_consumes l) (comes_first t.Join x ts after text found) (join_room l (suc (length acc.1)) x ts after text found h lt ∙ rw e refl)

pub source_fails : (l : Limits) (acc : Sources) (x : Symbol) (ts after : List Symbol) (f : Fault) → ts ≡ x ∷ after → is (the t.Join) x ≡ true → starts (is the_hole) after ≡ false → suc (length acc.1) < l.relations → joined_source l after ≡ Err f → more_sources l acc ts ≡ Err f
source_fails l acc x ts after f text found h lt e = row_fails (is (the t.Join)) with_join (λ f. join l (suc (length f.1))) acc ts f (comes_first t.Join x ts after text found) (join_room l (suc (length acc.1)) x ts after text found h lt ∙ rw e refl)

pub source_over : (l : Limits) (acc : Sources) (x : Symbol) (ts after : List Symbol) (f : Fault) → ts ≡ x ∷ after → is (the t.Join) x ≡ true → starts (is the_hole) after ≡ false → l.relations ≤ suc (length acc.1) → blocked (Limit 7) (source l) after ≡ Err f → more_sources l acc ts ≡ Err f
unfolding join
source_over l acc x ts after f text found h le e = row_fails (is (the t.Join)) with_join (λ f. join l (suc (length f.1))) acc ts f (comes_first t.Join x ts after text found)
    (behind_passed t.Join (mapped join_of (both (counted 7 (suc (length acc.1)) l.relations (source l)) (λ _. behind (the t.On) (expression l)))) x ts after text found
    ∙ rw (counted_over 7 (suc (length acc.1)) l.relations (source l) after f h le e) refl)

pub sources_end : (l : Limits) (acc : Sources) (ts : List Symbol) → starts (is (the t.Join)) ts ≡ false → more_sources l acc ts ≡ Ok (acc, ts)
sources_end l acc ts h = row_ends (is (the t.Join)) with_join (λ f. join l (suc (length f.1))) acc ts h
