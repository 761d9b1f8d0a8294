-- Languages whose values are printed so that they are read again.
use Rattle.std.proofs.Common.{◌≡◌, ℕ, ◌<◌, List, [], ◌∷◌, ◌++◌, length, Option, Some, None, inl, inr, ◌⊎◌, refl, sym, ap, subst, ◌∙◌, append_assoc, arith}
use Rattle.std.proofs.lemmas.List.{append-nil}
use Rattle.text_grammar.specs.Languages.{Lang, Then, Behind, Before, Mapped, Either, Perhaps, Many, Row, fold_left}
use Rattle.text_grammar.proofs.Rows.{row_one, row_snoc}
use Rattle.iv_types.specs.declared.terminal.Terminal.{Terminal}
use Rattle.iv_types.specs.declared.terminal.Terminal.TheVariants as t
use Rattle.iv_types.specs.Tokens.{Symbol, fixed, hole}
use Rattle.iv_types.specs.Limits.{Limits}
use Rattle.iv_types.specs.Expressions.{the, AName, AnExpression, AReference}
use Rattle.iv_types.specs.Grammar.{singleton, snoc, Listed, Enclosed, the_hole, an_item, add, Counted, ListedTo}
use Rattle.iv_types.proofs.Spellings.{the_value, the_some}
use Rattle.iv_types.specs.Printing as p
use Rattle.iv_types.specs.Printing.{Piece, with_commas, enclosed, name_pieces, ref_pieces, tree_pieces}
use Rattle.sql_print.proofs.Printed.{symbols_of_pieces}
use Rattle.sql_print.proofs.Facts.{AllReal, Real, all_front, all_back, name_facts, reference_facts, expression_facts}
use Rattle.sql_print.proofs.Fine.{AllFine, fine_append, ref_fine, tree_fine}
use Rattle.sql_print.proofs.Spelled.{symbols-append, name_spelled, reference_spelled, expression_again as expression_spelled}

-- every value that symbols of a text spell is spelled by its own pieces, which can all be read again
abbrev pub Again : (List ℕ → Type 0) → Limits → {A : Type 0} → Lang Symbol A → (A → List Piece) → Type 0
Again N l p pieces = (ts : List Symbol) (x : _) → p ts x → AllReal N ts → p (symbols_of_pieces (pieces x)) x × AllFine N l (pieces x)

pub as_left : {P Q R : Type 0} → P × R → (P ⊎ Q) × R
as_left h = (inl h.0, h.1)

pub as_right : {P Q R : Type 0} → Q × R → (P ⊎ Q) × R
as_right h = (inr h.0, h.1)

-- a keyword or a mark, and what stands behind it
pub again_behind : (N : List ℕ → Type 0) (l : Limits) {A : Type 0} (k : Terminal) (q : Lang Symbol A) (pieces : A → List Piece) → Again N l q pieces → Again N l (Behind (the k) q) (λ x. p.fixed k ∷ pieces x)
again_behind N l k q pieces again ts x h all =
    let real = subst (AllReal N) h.text all in
    let found = again h.back x h.value real.1 in
    (record { token = fixed k; back = symbols_of_pieces (pieces x); text = refl; is = the_some k; value = found.0 }, (tt, found.1))

pub again_then : (N : List ℕ → Type 0) (l : Limits) {A B : Type 0} (p : Lang Symbol A) (q : Lang Symbol B) (f : A → List Piece) (g : B → List Piece) → Again N l p f → Again N l q g → Again N l (Then p q) (λ x. f x.0 ++ g x.1)
again_then N l p q f g first second ts x h all =
    let real = subst (AllReal N) h.text all in
    let one = first h.front x.0 h.first (all_front (Real N) h.front h.back real) in
    let other = second h.back x.1 h.second (all_back (Real N) h.front h.back real) in
    let made : Then p q (symbols_of_pieces (f x.0 ++ g x.1)) x = record {
      front = symbols_of_pieces (f x.0);
      back = symbols_of_pieces (g x.1);
      text = symbols-append (f x.0) (g x.1);
      first = one.0;
      second = other.0;
    } in
    (made, fine_append N l (f x.0) (g x.1) one.1 other.1)

-- a value and then a keyword or a mark
pub again_before : (N : List ℕ → Type 0) (l : Limits) {A : Type 0} (k : Terminal) (q : Lang Symbol A) (f : A → List Piece) → Again N l q f → Again N l (Before (the k) q) (λ x. f x ++ p.fixed k ∷ [])
again_before N l k q f again ts x h all =
    let b = h.spelled in
    let real = subst (AllReal N) b.text all in
    let found = subst (λ (y : _). q (symbols_of_pieces (f y)) y × AllFine N l (f y)) (sym h.made) (again b.front h.value.0 b.first (all_front (Real N) b.front b.back real)) in
    let made : Before (the k) q (symbols_of_pieces (f x ++ p.fixed k ∷ [])) x = record {
      value = (x, tt);
      spelled = record {
        front = symbols_of_pieces (f x);
        back = fixed k ∷ [];
        text = symbols-append (f x) (p.fixed k ∷ []);
        first = found.0;
        second = record { token = fixed k; text = refl; value = the_value k };
      };
      made = refl;
    } in
    (made, fine_append N l (f x) (p.fixed k ∷ []) found.1 (tt, tt))

pub again_enclosed : (N : List ℕ → Type 0) (l : Limits) {A : Type 0} (q : Lang Symbol A) (f : A → List Piece) → Again N l q f → Again N l (Enclosed q) (λ x. enclosed (f x))
again_enclosed N l q f again = again_behind N l t.Open (Before (the t.Close) q) (λ x. f x ++ p.fixed t.Close ∷ []) (again_before N l t.Close q f again)

-- a value that is made of another, and printed as that one
pub again_mapped : (N : List ℕ → Type 0) (l : Limits) {A B : Type 0} (m : A → B) (p : Lang Symbol A) (f : A → List Piece) (g : B → List Piece) → ((x : A) → g (m x) ≡ f x) → Again N l p f → Again N l (Mapped m p) g
again_mapped N l m p f g same again ts x h all =
    let pieces : g x ≡ f h.value = ap g h.made ∙ same h.value in
    let found = subst (λ (ps : List Piece). p (symbols_of_pieces ps) h.value × AllFine N l ps) (sym pieces) (again ts h.value h.spelled all) in
    (record { value = h.value; spelled = found.0; made = h.made }, found.1)

pub again_either : (N : List ℕ → Type 0) (l : Limits) {A : Type 0} (p q : Lang Symbol A) (f : A → List Piece) → Again N l p f → Again N l q f → Again N l (Either p q) f
again_either N l p q f one other ts x (inl h) all = as_left (one ts x h all)
again_either N l p q f one other ts x (inr h) all = as_right (other ts x h all)

abbrev pub or_nothing : {A : Type 0} → (A → List Piece) → Option A → List Piece
or_nothing f None = []
or_nothing f (Some x) = f x

pub again_perhaps : (N : List ℕ → Type 0) (l : Limits) {A : Type 0} (p : Lang Symbol A) (f : A → List Piece) → Again N l p f → Again N l (Perhaps p) (or_nothing f)
again_perhaps N l p f again ts None h all = (refl, tt)
again_perhaps N l p f again ts (Some x) h all = again ts x h all

pub again_name : (N : List ℕ → Type 0) (l : Limits) → Again N l (AName l) name_pieces
again_name N l ts w h all = let fits = name_facts N l ts w h all in (name_spelled N l w fits, (fits.1, tt))

pub again_reference : (N : List ℕ → Type 0) (l : Limits) → Again N l (AReference l) ref_pieces
again_reference N l ts ref h all = let fits = reference_facts N l ts ref h all in (reference_spelled N l ref fits, ref_fine N l ref fits)

pub again_expression : (N : List ℕ → Type 0) (l : Limits) → Again N l (AnExpression l) (tree_pieces 0)
again_expression N l ts e h all = (expression_spelled N l ts e h all, tree_fine N l 0 e (expression_facts N l ts e h all).fits)

-- ---- lists

listed_push : {A : Type 0} (f : A → List Piece) (xs : List A) (x : A) → 0 < length xs → with_commas f (xs ++ x ∷ []) ≡ with_commas f xs ++ p.fixed t.Comma ∷ f x
listed_push f [] x h = absurd (omega arith)
listed_push f (y ∷ []) x h = refl
listed_push f (y ∷ z ∷ zs) x h = ap (λ (u : List Piece). f y ++ p.fixed t.Comma ∷ u) (listed_push f (z ∷ zs) x (omega arith)) ∙ sym (append_assoc (f y) (p.fixed t.Comma ∷ with_commas f (z ∷ zs)) (p.fixed t.Comma ∷ f x))

some_more : {A : Type 0} (xs : List A) (x : A) → 0 < length (xs ++ x ∷ [])
some_more [] x = omega arith
some_more (y ∷ xs) x = omega arith

-- what is made so far is spelled by its own pieces, which can all be read again
abbrev Done : (List ℕ → Type 0) → Limits → {A B C : Type 0} → (A → C) → (C → B → C) → Lang Symbol A → (C → Lang Symbol B) → (C → List Piece) → C → Type 0
Done N l init step r q g acc = Row init step r q (symbols_of_pieces (g acc)) acc × AllFine N l (g acc)

-- the rest of a row, behind what was made so far
many_again : (N : List ℕ → Type 0) (l : Limits) {A B C : Type 0} (init : A → C) (step : C → B → C) (r : Lang Symbol A) (q : C → Lang Symbol B) (f : B → List Piece) (g : C → List Piece) (Begun : C → Type 0) (more : (c : C) (b : B) → Begun c → (g (step c b) ≡ g c ++ f b) × Begun (step c b)) (again : (c : C) → Again N l (q c) f) (acc : C) (xs : List B) (ts : List Symbol) → Begun acc → Done N l init step r q g acc → Many step q acc ts xs → AllReal N ts → Done N l init step r q g (fold_left step acc xs)
many_again N l init step r q f g Begun more again acc [] ts begun made h all = made
many_again N l init step r q f g Begun more again acc (x ∷ xs) ts begun made h all =
    let real = subst (AllReal N) h.text all in
    let one = again acc h.front x h.first (all_front (Real N) h.front h.back real) in
    let next = more acc x begun in
    let pieces : symbols_of_pieces (g (step acc x)) ≡ symbols_of_pieces (g acc) ++ symbols_of_pieces (f x) = ap symbols_of_pieces next.0 ∙ symbols-append (g acc) (f x) in
    let spelled = subst (λ (z : List Symbol). Row init step r q z (step acc x)) (sym pieces) (row_snoc init step r q (symbols_of_pieces (g acc)) (symbols_of_pieces (f x)) acc x made.0 one.0) in
    let fine = subst (AllFine N l) (sym next.0) (fine_append N l (g acc) (f x) made.1 one.1) in
    many_again N l init step r q f g Begun more again (step acc x) xs h.back next.1 (spelled, fine) h.second (all_back (Real N) h.front h.back real)

-- a first one and then others, whose pieces stand behind those before
pub again_row : (N : List ℕ → Type 0) (l : Limits) {A B C : Type 0} (init : A → C) (step : C → B → C) (r : Lang Symbol A) (q : C → Lang Symbol B) (f : B → List Piece) (g : C → List Piece) (Begun : C → Type 0) (more : (c : C) (b : B) → Begun c → (g (step c b) ≡ g c ++ f b) × Begun (step c b)) (begun : (a : A) → Begun (init a)) → Again N l r (λ a. g (init a)) → ((c : C) → Again N l (q c) f) → Again N l (Row init step r q) g
again_row N l init step r q f g Begun more begun first again ts x h all =
    let k = h.spelled in
    let real = subst (AllReal N) k.text all in
    let one = first k.front h.value.0 k.first (all_front (Real N) k.front k.back real) in
    let begins : Done N l init step r q g (init h.value.0) = (row_one init step r q (symbols_of_pieces (g (init h.value.0))) h.value.0 one.0, one.1) in
    subst (Done N l init step r q g) (sym h.made)
    (many_again N l init step r q f g Begun more again (init h.value.0) h.value.1 k.back (begun h.value.0) begins k.second (all_back (Real N) k.front k.back real))

abbrev Some_of : {A : Type 0} → List A → Type 0
Some_of xs = 0 < length xs

-- one or more with commas between them
pub again_listed : (N : List ℕ → Type 0) (l : Limits) {A : Type 0} (q : Lang Symbol A) (f : A → List Piece) → Again N l q f → Again N l (Listed q) (with_commas f)
again_listed N l q f again =
    again_row N l singleton snoc q (λ _. Behind (the t.Comma) q) (λ x. p.fixed t.Comma ∷ f x) (with_commas f) Some_of
    (λ c b begun. (listed_push f c b begun, some_more c b)) (λ a. omega arith) again (λ c. again_behind N l t.Comma q f again)

-- no symbol of a text is a hole
pub no_counted : (N : List ℕ → Type 0) (l : Limits) {A : Type 0} (have most : ℕ) (q : Lang Symbol A) (ts : List Symbol) → Counted have most q ts None → AllReal N ts → ⊥
no_counted N l have most q ts (inl h) all = no_hole h.spelled.token h.spelled.value (subst (AllReal N) h.spelled.text all).0
  where
    no_hole : (symbol : Symbol) → the_hole symbol ≡ Some h.value → Real N symbol → ⊥
    no_hole hole is real = real
    no_hole _ is real = cc
no_counted N l have most q ts (inr h) all = let made = h.1.made in cc

pub again_counted : (N : List ℕ → Type 0) (l : Limits) {A : Type 0} (have most : ℕ) (q : Lang Symbol A) (f : A → List Piece) → Again N l q f → Again N l (Counted have most q) (or_nothing f)
again_counted N l have most q f again ts None h all = absurd (no_counted N l have most q ts h all)
again_counted N l have most q f again ts (Some x) (inl h) all = let made = h.made in absurd cc
again_counted N l have most q f again ts (Some x) (inr h) all = let found = again_mapped N l an_item q f (or_nothing f) (λ y. refl) again ts (Some x) h.1 all in (inr (h.0, found.0), found.1)

-- a comma, and one more
abbrev after_comma : {A : Type 0} → (A → List Piece) → Option A → List Piece
after_comma f None = []
after_comma f (Some x) = p.fixed t.Comma ∷ f x

again_after_comma : (N : List ℕ → Type 0) (l : Limits) {A : Type 0} (have most : ℕ) (q : Lang Symbol A) (f : A → List Piece) → Again N l q f → Again N l (Behind (the t.Comma) (Counted have most q)) (after_comma f)
again_after_comma N l have most q f again ts None h all = absurd (no_counted N l have most q h.back h.value (subst (AllReal N) h.text all).1)
again_after_comma N l have most q f again ts (Some x) h all = again_behind N l t.Comma (Counted have most q) (or_nothing f) (again_counted N l have most q f again) ts (Some x) h all

added_more : {A : Type 0} (f : A → List Piece) (xs : List A) (o : Option A) → Some_of xs → (with_commas f (add xs o) ≡ with_commas f xs ++ after_comma f o) × Some_of (add xs o)
added_more f xs None some = (sym (append-nil (with_commas f xs)), some)
added_more f xs (Some x) some = (listed_push f xs x some, some_more xs x)

-- no more than so many
pub again_listed_to : (N : List ℕ → Type 0) (l : Limits) {A : Type 0} (most : ℕ) (q : Lang Symbol A) (f : A → List Piece) → Again N l q f → Again N l (ListedTo most q) (with_commas f)
again_listed_to N l most q f again =
    again_row N l singleton add q (λ have. Behind (the t.Comma) (Counted (length have) most q)) (after_comma f) (with_commas f) Some_of
    (added_more f) (λ x. omega arith) again (λ c. again_after_comma N l (length c) most q f again)
