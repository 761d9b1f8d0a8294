-- The readers of lists under larger limits: they read the same, and go beyond where a limit was met.
use Rattle.std.proofs.Common.{◌≡◌, ℕ, suc, ◌<◌, ◌≤◌, Bool, true, false, cond, List, [], ◌∷◌, length, Option, Some, None, Result, Ok, Err, refl, sym, ap, subst, arith, nat_lt, inl, inr, ◌⊎◌}
use Rattle.std.specs.Prelude.{nat_le}
use Rattle.std.proofs.lemmas.List.{length-append}
use Rattle.text_grammar.specs.declared.fault.Cause.TheVariants.{Limit}
use Rattle.text_grammar.specs.declared.fault.Fault.{Fault}
use Rattle.text_grammar.specs.Readers.{◌>>=◌, Reader, is, starts, one, both, mapped, behind, before, blocked}
use Rattle.text_grammar.specs.Languages.{Lang}
use Rattle.text_grammar.proofs.Exactness.{Exact, never, StartsWith, the_test, ok_is, bind_ok, choose}
use Rattle.text_grammar.proofs.Repeating.{takes}
use Rattle.text_grammar.proofs.Extends.{Extends, Stays, exact_stays, one_extends, one_stays, mapped_extends, both_extends, behind_extends, either_extends, row_extends, row_extends_in, blocked_same, blocked_raised, mapped_stays, both_stays, behind_stays, either_stays, blocked_stays}
use Rattle.iv_types.specs.declared.terminal.Terminal.{Terminal}
use Rattle.iv_types.specs.declared.terminal.Terminal.TheVariants as t
use Rattle.iv_types.specs.Tokens.{Symbol}
use Rattle.iv_types.specs.Limits.{Limits}
use Rattle.iv_types.specs.Expressions.{the, AName}
use Rattle.iv_types.specs.Grammar.{singleton, snoc, the_hole, no_item, an_item, add}
use Rattle.sql_readers.specs.Ladder.{name_reader}
use Rattle.sql_readers.specs.Statements.{comma_item, comma_list, counted, listed_to, enclosed}
use Rattle.sql_readers.proofs.Ladder.{name-exact}
use Rattle.sql_readers.proofs.Lists.{comma}
use Rattle.sql_readers.proofs.Larger.{Raised, name_extends}

-- ---- lists

abbrev pub Grows : {A : Type 0} → ℕ → (r s : Limits → Reader Symbol A) → Type 0
Grows w r s = (l m : Limits) → Raised w l m → Extends w (r l) (s m)

pub listed_extends : {A : Type 0} (w : ℕ) (r s : Reader Symbol A) → Extends w r s → Stays s → Extends w (comma_list r) (comma_list s)
listed_extends w r s e stays = row_extends w comma singleton snoc r s (λ _. comma_item r) (λ _. comma_item s) e (λ c ts h. behind_extends w (the t.Comma) r s e ts) (λ c. behind_stays (the t.Comma) s stays)

listed_stays : {A : Type 0} (p : Lang Symbol A) (on : Symbol → Bool) (r : Reader Symbol A) → Exact p on r → Stays r
listed_stays p on r e = exact_stays p on r e

pub enclosed_extends : {A : Type 0} (w : ℕ) (r s : Reader Symbol A) → Extends w r s → Extends w (enclosed r) (enclosed s)
enclosed_extends w r s e =
    behind_extends w (the t.Open) (before (the t.Close) r) (before (the t.Close) s)
    (mapped_extends w (λ x. x.0) (both r (λ _. one (the t.Close))) (both s (λ _. one (the t.Close)))
    (both_extends w r s (λ _. one (the t.Close)) (λ _. one (the t.Close)) e (λ _. one_extends w (the t.Close)) (λ _. one_stays (the t.Close))))

enclosed_stays : {A : Type 0} (r : Reader Symbol A) → Stays r → Stays (enclosed r)
enclosed_stays r w = behind_stays (the t.Open) (before (the t.Close) r) (mapped_stays (λ x. x.0) (both r (λ _. one (the t.Close))) (both_stays r (λ _. one (the t.Close)) w (λ _. one_stays (the t.Close))))

-- a name and what follows it
pub named_extends : {A : Type 0} (w : ℕ) (l m : Limits) (r s : Reader Symbol A) → Raised w l m → Extends w r s → Stays s → Extends w (both (name_reader l) (λ _. r)) (both (name_reader m) (λ _. s))
named_extends w l m r s up e stays = both_extends w (name_reader l) (name_reader m) (λ _. r) (λ _. s) (name_extends w l m up) (λ _. e) (λ _. stays)

pub name_stays : (m : Limits) → Stays (name_reader m)
name_stays m = exact_stays (AName m) never (name_reader m) (name-exact m)

-- how limits compare where one may be raised
abbrev More : ℕ → ℕ → ℕ → ℕ → Type 0
More w v most big = (nat_le w v ≡ false → most ≡ big) × (nat_le w v ≡ true → suc most < big)

under : (m n : ℕ) → nat_lt m n ≡ true → m < n
under m n h = grind arith

under_all : (m n : ℕ) → m < n → nat_lt m n ≡ true
under_all m n h = grind arith

not_under : (m n : ℕ) → nat_lt m n ≡ false → n ≤ m
not_under m n h = grind arith

over_all : (m n : ℕ) → n ≤ m → nat_lt m n ≡ false
over_all m n h = grind arith

bound : {A B : Type 0} (f : A → B) (z : Result (A × List Symbol) Fault) (x : B × List Symbol) (n : ℕ) → ((y : A × List Symbol) → z ≡ Ok y → length y.1 < n) → (z >>= (λ y. Ok (f y.0, y.1))) ≡ Ok x → length x.1 < n
bound f (Ok y) x n moves e = let same : (f y.0, y.1) ≡ x = ok_is (f y.0, y.1) x e in subst (λ (u : _ × List Symbol). length u.1 < n) same (moves y refl)
bound f (Err d) x n moves e = absurd cc

mapped_moves : {A : Type 0} (r : Reader Symbol A) → ((ts : List Symbol) (x : A × List Symbol) → r ts ≡ Ok x → length x.1 < length ts) → (ts : List Symbol) (x : Option A × List Symbol) → mapped an_item r ts ≡ Ok x → length x.1 < length ts
mapped_moves r moves ts x e = bound an_item (r ts) x (length ts) (moves ts) e

-- one more of a list, or the first token of one too many
limited_extends : {A : Type 0} (w v have most big : ℕ) (r s : Reader Symbol A) → Extends w r s → Stays r → ((ts : List Symbol) (x : A × List Symbol) → r ts ≡ Ok x → length x.1 < length ts) → More w v most big → have ≤ suc most → Extends w (λ us. cond (nat_lt have most) (r us) (blocked (Limit v) r us)) (λ us. cond (nat_lt have big) (s us) (blocked (Limit v) s us))
limited_extends w v have most big r s e stays moves g le ts =
    elim (the_test (nat_lt have most)) [
      | inl room ↦
          let lt = under have most room in
          let again : nat_lt have big ≡ true = under_all have big (elim (the_test (nat_le w v)) [ inl up ↦ (let b = g.1 up in omega (arith, b, lt)) | inr same ↦ (let b = g.0 same in omega (arith, b, lt)) ]) in
          rw (room, again) (e ts)
      | inr full ↦
          let at_end = not_under have most full in
          elim (the_test (nat_le w v)) [
            | inl up ↦
                let b = g.1 up in
                let again : nat_lt have big ≡ true = under_all have big (omega (arith, b, le)) in
                rw (full, again) (blocked_raised w v r s up e stays moves ts)
            | inr same ↦
                let b = g.0 same in
                let again : nat_lt have big ≡ false = over_all have big (omega (arith, b, at_end)) in
                rw (full, again) (blocked_same w v r s same e stays ts)
          ]
    ]

pub counted_extends : {A : Type 0} (w v have most big : ℕ) (r s : Reader Symbol A) → Extends w r s → Stays r → ((ts : List Symbol) (x : A × List Symbol) → r ts ≡ Ok x → length x.1 < length ts) → More w v most big → have ≤ suc most → Extends w (counted v have most r) (counted v have big s)
counted_extends w v have most big r s e stays moves g le =
    either_extends w (is the_hole) (mapped no_item (one the_hole)) (mapped no_item (one the_hole)) (λ us. cond (nat_lt have most) (mapped an_item r us) (blocked (Limit v) (mapped an_item r) us)) (λ us. cond (nat_lt have big) (mapped an_item s us) (blocked (Limit v) (mapped an_item s) us))
    (λ ts h. mapped_extends w no_item (one the_hole) (one the_hole) (one_extends w the_hole) ts)
    (limited_extends w v have most big (mapped an_item r) (mapped an_item s) (mapped_extends w an_item r s e) (mapped_stays an_item r stays) (mapped_moves r moves) g le)

pub add_long : {A : Type 0} (xs : List A) (x : Option A) → length (add xs x) ≤ suc (length xs)
add_long xs None = omega arith
add_long xs (Some x) = omega (arith, length-append xs (x ∷ []))

-- a list keeps its size where one more may not be
pub kept : {A : Type 0} (v have most : ℕ) (r : Reader Symbol A) (ts : List Symbol) (x : Option A × List Symbol) → counted v have most r ts ≡ Ok x → have ≤ suc most → (x.0 ≡ None) ⊎ (have < most)
kept v have most r ts x e le =
    elim (choose (starts (is the_hole) ts) (mapped no_item (one the_hole) ts) (cond (nat_lt have most) (mapped an_item r ts) (blocked (Limit v) (mapped an_item r) ts)) (Ok x) e) [
      | inl h ↦ (let b = bind_ok (one the_hole ts) (λ y. Ok (no_item y.0, y.1)) x h.1 in let same : (None, b.0.1) ≡ x = ok_is (None, b.0.1) x b.2 in inl (sym (ap (λ (u : Option _ × List Symbol). u.0) same)))
      | inr h ↦
          elim (choose (nat_lt have most) (mapped an_item r ts) (blocked (Limit v) (mapped an_item r) ts) (Ok x) h.1) [
            | inl room ↦ inr (under have most room.0)
            | inr full ↦ absurd (let bad = full.1 in cc)
          ]
    ]

add_within : {A : Type 0} (most : ℕ) (xs : List A) (x : Option A) → length xs ≤ suc most → (x ≡ None) ⊎ (length xs < most) → length (add xs x) ≤ suc most
add_within most xs x le h = elim h [
  | inl none ↦ subst (λ (o : Option _). length (add xs o) ≤ suc most) (sym none) le
  | inr lt ↦ (let k = add_long xs x in omega (arith, k, lt))
]

pub behind_reads : {A : Type 0} (k : Terminal) (r : Reader Symbol A) (ts : List Symbol) (x : A × List Symbol) → behind (the k) r ts ≡ Ok x → (us : List Symbol) × (r us ≡ Ok x)
behind_reads k r [] x e = absurd cc
behind_reads k r (t ∷ ts) x e = elim (choose (is (the k) t) (r ts) (Err _) (Ok x) e) [ inl h ↦ (ts, h.1) | inr h ↦ absurd (let bad = h.1 in cc) ]

counted_add : {A : Type 0} (v most : ℕ) (r : Reader Symbol A) (have : List A) (ts : List Symbol) (x : Option A × List Symbol) → length have ≤ suc most → comma_item (counted v (length have) most r) ts ≡ Ok x → length (add have x.0) ≤ suc most
counted_add v most r have ts x le e =
    let b = behind_reads t.Comma (counted v (length have) most r) ts x e in
    add_within most have x.0 le (kept v (length have) most r b.0 x b.1 le)

cond_stays : {A : Type 0} (b : Bool) (r s : Reader Symbol A) → Stays r → Stays s → Stays (λ us. cond b (r us) (s us))
cond_stays true r s h k ts = h ts
cond_stays false r s h k ts = k ts

pub counted_stays : {A : Type 0} (v have most : ℕ) (s : Reader Symbol A) → Stays s → Stays (counted v have most s)
counted_stays v have most s stays =
    either_stays (is the_hole) (mapped no_item (one the_hole)) (λ us. cond (nat_lt have most) (mapped an_item s us) (blocked (Limit v) (mapped an_item s) us)) (mapped_stays no_item (one the_hole) (one_stays the_hole))
    (cond_stays (nat_lt have most) (mapped an_item s) (blocked (Limit v) (mapped an_item s)) (mapped_stays an_item s stays) (blocked_stays (Limit v) (mapped an_item s)))

pub listed_to_extends : {A : Type 0} (w v most big : ℕ) (p : Lang Symbol A) (on test : Symbol → Bool) (r s : Reader Symbol A) → Exact p on r → StartsWith p test → Extends w r s → Stays s → More w v most big → Extends w (listed_to v most r) (listed_to v big s)
listed_to_extends w v most big p on test r s exact with e stays g =
    row_extends_in w comma singleton add r s (λ have. comma_item (counted v (length have) most r)) (λ have. comma_item (counted v (length have) big s)) (λ have. length have ≤ suc most) e
    (λ ts x h. omega arith)
    (λ have le ts h. behind_extends w (the t.Comma) (counted v (length have) most r) (counted v (length have) big s) (counted_extends w v (length have) most big r s e (exact_stays p on r exact) (takes test p on r exact with) g le) ts)
    (λ have ts x le h. counted_add v most r have ts x le h)
    (λ have. behind_stays (the t.Comma) (counted v (length have) big s) (counted_stays v (length have) big s stays))
