-- Lists of Writes and Deltas of which some are left out, and what is found in them.
use Rattle.std.specs.Prelude.{◌≡◌, ◌≢◌, ℕ, ◌==◌, Bool, cond, true, false, ◌&&◌, List, [], ◌∷◌, Some, None, IsSome}
use mathlib.Core.Path.{refl, sym, ap, subst, ◌∙◌}
use Rattle.std.proofs.Common.{eq-eqb}
use Rattle.std.proofs.lemmas.Bool.{ne_eqb, and_left, and_right, and_from, false≢true}
use Rattle.table_laws.proofs.Tables.{by_bool}
use Rattle.txn_log.specs.Replay.{Deed, keep_where, find}
use Rattle.table_laws.proofs.Stored.{by_session}

pub by_number : {P : Type 0} (a b : ℕ) → (a ≡ b → P) → (a ≢ b → P) → P
by_number a b f g = by_session a b f g

pub keep_all : (xs : List Deed) → keep_where (λ t n. true) xs ≡ xs
keep_all [] = refl
keep_all (x ∷ xs) = ap (λ (ys : List Deed). x ∷ ys) (keep_all xs)

one_of_both : (a b : Bool) (x : Deed) (xs ys : List Deed) → xs ≡ ys → cond (a && b) (x ∷ xs) xs ≡ cond b (cond a (x ∷ ys) ys) ys
one_of_both true true x xs ys e = ap (λ (zs : List Deed). x ∷ zs) e
one_of_both true false x xs ys e = e
one_of_both false true x xs ys e = e
one_of_both false false x xs ys e = e

keep_cond : (f : ℕ → ℕ → Bool) (b : Bool) (x : Deed) (ys : List Deed)
    → keep_where f (cond b (x ∷ ys) ys) ≡ cond b (cond (f x.transaction x.number) (x ∷ keep_where f ys) (keep_where f ys)) (keep_where f ys)
keep_cond f true x ys = refl
keep_cond f false x ys = refl

-- to keep by two tests is to keep by one after the other
pub keep_both : (f g : ℕ → ℕ → Bool) (xs : List Deed) → keep_where (λ t n. f t n && g t n) xs ≡ keep_where f (keep_where g xs)
keep_both f g [] = refl
keep_both f g (x ∷ xs) =
    one_of_both (f x.transaction x.number) (g x.transaction x.number) x (keep_where (λ t n. f t n && g t n) xs) (keep_where f (keep_where g xs)) (keep_both f g xs)
    ∙ sym (keep_cond f (g x.transaction x.number) x (keep_where g xs))

pub keep_true : (f : ℕ → ℕ → Bool) (x : Deed) (xs : List Deed) → f x.transaction x.number ≡ true → keep_where f (x ∷ xs) ≡ x ∷ keep_where f xs
keep_true f x xs e = ap (λ b. cond b (x ∷ keep_where f xs) (keep_where f xs)) e

pub keep_false : (f : ℕ → ℕ → Bool) (x : Deed) (xs : List Deed) → f x.transaction x.number ≡ false → keep_where f (x ∷ xs) ≡ keep_where f xs
keep_false f x xs e = ap (λ b. cond b (x ∷ keep_where f xs) (keep_where f xs)) e

-- ---- found

-- the record is the one that is looked for, or it is not
pub by_sought : {P : Type 0} (t m : ℕ) (x : Deed) → (t ≡ x.transaction → m ≡ x.number → P) → (((t == x.transaction) && (m == x.number)) ≡ false → P) → P
by_sought t m x f g = by_number t x.transaction
    (λ e. by_number m x.number
    (λ d. f e d)
    (λ n. g (and_right (t == x.transaction) (m == x.number) (ne_eqb m x.number n))))
    (λ n. g (and_left (t == x.transaction) (m == x.number) (ne_eqb t x.transaction n)))

pub find_this : (t m : ℕ) (x : Deed) (xs : List Deed) → t ≡ x.transaction → m ≡ x.number → find t m (x ∷ xs) ≡ Some x
find_this t m x xs e d = ap (λ b. cond b (Some x) (find t m xs)) (and_from (t == x.transaction) (m == x.number) (eq-eqb t x.transaction e) (eq-eqb m x.number d))

pub find_later : (t m : ℕ) (x : Deed) (xs : List Deed) → ((t == x.transaction) && (m == x.number)) ≡ false → find t m (x ∷ xs) ≡ find t m xs
find_later t m x xs e = ap (λ b. cond b (Some x) (find t m xs)) e

pub find_kept : (f : ℕ → ℕ → Bool) (t m : ℕ) → f t m ≡ true → (xs : List Deed) → find t m (keep_where f xs) ≡ find t m xs
find_kept f t m h [] = refl
find_kept f t m h (x ∷ xs) = by_sought t m x
    (λ e d.
    let kept : f x.transaction x.number ≡ true = subst (λ a. f a x.number ≡ true) e (subst (λ b. f t b ≡ true) d h) in
    ap (find t m) (keep_true f x xs kept) ∙ (find_this t m x (keep_where f xs) e d ∙ sym (find_this t m x xs e d)))
    (λ n.
    let rest : find t m (keep_where f xs) ≡ find t m xs = find_kept f t m h xs in
    by_bool (f x.transaction x.number)
    (λ b. ap (find t m) (keep_true f x xs b) ∙ (find_later t m x (keep_where f xs) n ∙ (rest ∙ sym (find_later t m x xs n))))
    (λ b. ap (find t m) (keep_false f x xs b) ∙ (rest ∙ sym (find_later t m x xs n))))

find_gone : (f : ℕ → ℕ → Bool) (t m : ℕ) → f t m ≡ false → (xs : List Deed) → find t m (keep_where f xs) ≡ None
find_gone f t m h [] = refl
find_gone f t m h (x ∷ xs) =
    let rest : find t m (keep_where f xs) ≡ None = find_gone f t m h xs in
    by_sought t m x
    (λ e d.
    let gone : f x.transaction x.number ≡ false = subst (λ a. f a x.number ≡ false) e (subst (λ b. f t b ≡ false) d h) in
    ap (find t m) (keep_false f x xs gone) ∙ rest)
    (λ n. by_bool (f x.transaction x.number)
    (λ b. ap (find t m) (keep_true f x xs b) ∙ (find_later t m x (keep_where f xs) n ∙ rest))
    (λ b. ap (find t m) (keep_false f x xs b) ∙ rest))

-- what is found among those that are kept is what is found among all
pub find_same : (f : ℕ → ℕ → Bool) (t m : ℕ) (xs : List Deed) → IsSome (find t m (keep_where f xs)) → find t m (keep_where f xs) ≡ find t m xs
find_same f t m xs some = by_bool (f t m)
    (λ b. find_kept f t m b xs)
    (λ b. absurd (false≢true (subst IsSome (find_gone f t m b xs) some)))
