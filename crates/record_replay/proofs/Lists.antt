-- Lists of Writes and Deltas whose numbers fall: what is found in them, which is the latest of a transaction, and what is left of them.
use Rattle.std.proofs.Common.{◌≡◌, ℕ, ◌<◌, ◌≤◌, Bool, false, cond, List, [], ◌∷◌, Some, None, refl, sym, ap, subst, ◌∙◌, arith}
use Rattle.std.specs.Prelude.{◌≢◌, ◌==◌, IsSome}
use Rattle.std.proofs.lemmas.Bool.{ne_eqb, and_left, and_right}
use Rattle.table_laws.proofs.Tables.{by_bool}
use Rattle.txn_log.specs.Replay.{What, Deed, keep_where, find, own}
use Rattle.txn_log.specs.Fitting.{AllDeeds, CarriedBelow, DoNumbersFall}
use Rattle.txn_log.proofs.Finding.{by_number, by_sought, find_this, find_later, find_kept, keep_true, keep_false}
use Rattle.txn_log.proofs.Owning.{own_this, own_other}
use Rattle.txn_log.proofs.Reversing.{not_nothing}

pub same_deed : (x y : Deed) → Some x ≡ Some y → x ≡ y
same_deed x y e = cc

pub nothing : {A : Type 0} (x : Deed) → None ≡ Some x → A
nothing x e = absurd (cc e)

first_is : (x y : Deed) (xs ys : List Deed) → x ∷ xs ≡ y ∷ ys → x ≡ y
first_is x y xs ys e = cc

-- ---- what is found

pub found_is : (t m : ℕ) (xs : List Deed) (d : Deed) → find t m xs ≡ Some d → (d.transaction ≡ t) × (d.number ≡ m)
found_is t m [] d e = nothing d e
found_is t m (x ∷ xs) d e = by_sought t m x
    (λ a b.
    let same : x ≡ d = same_deed x d (sym (find_this t m x xs a b) ∙ e) in
    (ap (λ (y : Deed). y.transaction) (sym same) ∙ sym a, ap (λ (y : Deed). y.number) (sym same) ∙ sym b))
    (λ n. found_is t m xs d (sym (find_later t m x xs n) ∙ e))

pub found_below : (b t m : ℕ) (xs : List Deed) (d : Deed) → CarriedBelow b xs → find t m xs ≡ Some d → m < b
found_below b t m [] d h e = nothing d e
found_below b t m (x ∷ xs) d h e = by_sought t m x
    (λ a c. subst (λ n. n < b) (sym c) h.0)
    (λ n. found_below b t m xs d h.1 (sym (find_later t m x xs n) ∙ e))

pub none_from : (b t m : ℕ) (xs : List Deed) → CarriedBelow b xs → b ≤ m → find t m xs ≡ None
none_from b t m [] h l = refl
none_from b t m (x ∷ xs) h l = by_sought t m x
    (λ a c. let less : x.number < b = h.0 in absurd (omega (arith, less, c, l)))
    (λ n. find_later t m x xs n ∙ none_from b t m xs h.1 l)

pub below_weaker : (a b : ℕ) (xs : List Deed) → a ≤ b → CarriedBelow a xs → CarriedBelow b xs
below_weaker a b [] l h = tt
below_weaker a b (x ∷ xs) l h = ((let less : x.number < a = h.0 in omega (arith, less, l)), below_weaker a b xs l h.1)

-- of another transaction
later_other : (t n : ℕ) (x : Deed) (xs : List Deed) → x.transaction ≢ t → find t n (x ∷ xs) ≡ find t n xs
later_other t n x xs other = find_later t n x xs (and_left (t == x.transaction) (n == x.number) (ne_eqb t x.transaction (λ i. other (sym i))))

-- no two have the same number
pub one_number : (t u m : ℕ) (xs : List Deed) (d e : Deed) → DoNumbersFall xs → find t m xs ≡ Some d → find u m xs ≡ Some e → d ≡ e
one_number t u m [] d e fall f g = nothing d f
one_number t u m (x ∷ xs) d e fall f g = by_sought t m x
    (λ a b. by_sought u m x
    (λ i j. same_deed d e (sym f ∙ (find_this t m x xs a b ∙ (sym (find_this u m x xs i j) ∙ g))))
    (λ n. let less : m < x.number = found_below x.number u m xs e fall.0 (sym (find_later u m x xs n) ∙ g) in absurd (omega (arith, less, b))))
    (λ n. by_sought u m x
    (λ i j. let less : m < x.number = found_below x.number t m xs d fall.0 (sym (find_later t m x xs n) ∙ f) in absurd (omega (arith, less, j)))
    (λ k. one_number t u m xs d e fall.1 (sym (find_later t m x xs n) ∙ f) (sym (find_later u m x xs k) ∙ g)))

-- ---- the latest of a transaction

-- that of the greatest number
pub latest_own : (t m : ℕ) (xs : List Deed) (d : Deed) → DoNumbersFall xs → find t m xs ≡ Some d → ((n : ℕ) → IsSome (find t n xs) → n ≤ m) → (earlier : List Deed) × (own t xs ≡ d ∷ earlier)
latest_own t m [] d fall e most = nothing d e
latest_own t m (x ∷ xs) d fall e most = by_number x.transaction t
    (λ same.
    let this : find t x.number (x ∷ xs) ≡ Some x = find_this t x.number x xs (sym same) refl in
    let at_most : x.number ≤ m = most x.number (subst IsSome (sym this) refl) in
    by_number m x.number
    (λ is.
    let one : x ≡ d = same_deed x d (sym (find_this t m x xs (sym same) is) ∙ e) in
    (own t xs, own_this t x xs same ∙ ap (λ (y : Deed). y ∷ own t xs) one))
    (λ differs.
    let later : find t m xs ≡ Some d = sym (find_later t m x xs (and_right (t == x.transaction) (m == x.number) (ne_eqb m x.number differs))) ∙ e in
    let less : m < x.number = found_below x.number t m xs d fall.0 later in
    absurd (omega (arith, less, at_most))))
    (λ other.
    let rest = latest_own t m xs d fall.1 (sym (later_other t m x xs other) ∙ e) (λ n some. most n (subst IsSome (sym (later_other t n x xs other)) some)) in
    (rest.0, own_other t x xs other ∙ rest.1))

pub own_found : (t : ℕ) (xs : List Deed) (d : Deed) (earlier : List Deed) → own t xs ≡ d ∷ earlier → find t d.number xs ≡ Some d
own_found t [] d earlier e = absurd (not_nothing d earlier (sym e))
own_found t (x ∷ xs) d earlier e = by_number x.transaction t
    (λ same.
    let one : x ≡ d = first_is x d (own t xs) earlier (sym (own_this t x xs same) ∙ e) in
    find_this t d.number x xs (sym same) (ap (λ (y : Deed). y.number) (sym one)) ∙ ap Some one)
    (λ other. later_other t d.number x xs other ∙ own_found t xs d earlier (sym (own_other t x xs other) ∙ e))

pub same_latest : (t : ℕ) (xs : List Deed) (d e : Deed) (ds es : List Deed) → own t xs ≡ d ∷ ds → own t xs ≡ e ∷ es → d ≡ e
same_latest t xs d e ds es f g = first_is d e ds es (sym f ∙ g)

-- ---- some are left out

find_gone : (f : ℕ → ℕ → Bool) (t m : ℕ) → f t m ≡ false → (xs : List Deed) → find t m (keep_where f xs) ≡ None
find_gone f t m h [] = refl
find_gone f t m h (x ∷ xs) = by_sought t m x
    (λ e d.
    let gone : f x.transaction x.number ≡ false = subst (λ a. f a x.number ≡ false) e (subst (λ b. f t b ≡ false) d h) in
    ap (find t m) (keep_false f x xs gone) ∙ find_gone f t m h xs)
    (λ n. by_bool (f x.transaction x.number)
    (λ b. ap (find t m) (keep_true f x xs b) ∙ (find_later t m x (keep_where f xs) n ∙ find_gone f t m h xs))
    (λ b. ap (find t m) (keep_false f x xs b) ∙ find_gone f t m h xs))

pub find_where : (f : ℕ → ℕ → Bool) (t m : ℕ) (xs : List Deed) → find t m (keep_where f xs) ≡ cond (f t m) (find t m xs) None
find_where f t m xs = by_bool (f t m)
    (λ b. find_kept f t m b xs ∙ sym (ap (λ c. cond c (find t m xs) None) b))
    (λ b. find_gone f t m b xs ∙ sym (ap (λ c. cond c (find t m xs) None) b))

pub keep_below : (f : ℕ → ℕ → Bool) (b : ℕ) (xs : List Deed) → CarriedBelow b xs → CarriedBelow b (keep_where f xs)
keep_below f b [] h = tt
keep_below f b (x ∷ xs) h = by_bool (f x.transaction x.number)
    (λ e. subst (CarriedBelow b) (sym (keep_true f x xs e)) (h.0, keep_below f b xs h.1))
    (λ e. subst (CarriedBelow b) (sym (keep_false f x xs e)) (keep_below f b xs h.1))

pub keep_fall : (f : ℕ → ℕ → Bool) (xs : List Deed) → DoNumbersFall xs → DoNumbersFall (keep_where f xs)
keep_fall f [] h = tt
keep_fall f (x ∷ xs) h = by_bool (f x.transaction x.number)
    (λ e. subst DoNumbersFall (sym (keep_true f x xs e)) (keep_below f x.number xs h.0, keep_fall f xs h.1))
    (λ e. subst DoNumbersFall (sym (keep_false f x xs e)) (keep_fall f xs h.1))

pub keep_each : (P : What → Type 0) (f : ℕ → ℕ → Bool) (xs : List Deed) → AllDeeds P xs → AllDeeds P (keep_where f xs)
keep_each P f [] h = tt
keep_each P f (x ∷ xs) h = by_bool (f x.transaction x.number)
    (λ e. subst (AllDeeds P) (sym (keep_true f x xs e)) (h.0, keep_each P f xs h.1))
    (λ e. subst (AllDeeds P) (sym (keep_false f x xs e)) (keep_each P f xs h.1))

pub each_weaker : (P Q : What → Type 0) → ((w : What) → P w → Q w) → (xs : List Deed) → AllDeeds P xs → AllDeeds Q xs
each_weaker P Q f [] h = tt
each_weaker P Q f (x ∷ xs) h = (f x.what h.0, each_weaker P Q f xs h.1)

-- what is found is so
pub each_found : (P : What → Type 0) (t m : ℕ) (xs : List Deed) (d : Deed) → AllDeeds P xs → find t m xs ≡ Some d → P d.what
each_found P t m [] d h e = nothing d e
each_found P t m (x ∷ xs) d h e = by_sought t m x
    (λ a b. subst (λ (y : Deed). P y.what) (same_deed x d (sym (find_this t m x xs a b) ∙ e)) h.0)
    (λ n. each_found P t m xs d h.1 (sym (find_later t m x xs n) ∙ e))
