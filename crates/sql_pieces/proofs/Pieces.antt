-- Pieces that are written one behind the other.
use Rattle.std.proofs.Common.{◌≡◌, ℕ, ◌+◌, ◌<◌, Bool, List, [], ◌∷◌, ◌++◌, length, take, get_or, map, Result, Ok, refl, sym, ap, subst, ◌∙◌, append_assoc, length-take, arith}
use Rattle.std.specs.Prelude.{ℤ, OnOk, pos, negsuc}
use Rattle.std.specs.List.{flat_map}
use Rattle.std.proofs.lemmas.List.{append-nil, take_more}
use Rattle.std.proofs.lemmas.List.Concat.{flat_map-cons}
use Rattle.std.proofs.lemmas.Grind.{flat_map-append}
use Rattle.iv_types.specs.declared.fault.NoMemory.{NoMemory}
use Rattle.iv_types.specs.declared.terminal.Terminal.TheVariants as t
use Rattle.iv_types.specs.Syntax as s
use Rattle.iv_types.specs.Printing.{Piece, fixed, Written, put, write, with_commas, bare_pieces}
use Rattle.sql_pieces.specs.Sinks.{Wrote, number_piece}

write-append : (w : Written) (ps qs : List Piece) → write w (ps ++ qs) ≡ write (write w ps) qs
write-append w [] qs = refl
write-append w (p ∷ ps) qs = write-append (put w p) ps qs

pub behind : {S : Type 0} {holds : S → Written → Type 0} {m : Bool} {a b c : S} {u : Unit {0}} {r : Result (Unit {0}) NoMemory} {ps qs : List Piece} → Wrote holds m a (Ok u) b ps → Wrote holds m b r c qs → Wrote holds m a r c (ps ++ qs)
behind {holds = holds} {c = c} {r = r} {ps = ps} {qs = qs} p q = record {
  adds = λ w h. subst (λ (v : Written). OnOk r (holds c v)) (sym (write-append w ps qs)) (q.adds (write w ps) (p.adds w h));
  wants = q.wants;
}

pub nothing : {S : Type 0} (holds : S → Written → Type 0) (m : Bool) (a : S) (u : Unit {0}) → Wrote holds m a (Ok u) a []
nothing holds m a u = record { adds = λ w h. h; wants = tt }

-- the same pieces, written otherwise
pub same_pieces : {S : Type 0} {holds : S → Written → Type 0} {m : Bool} {a b : S} {r : Result (Unit {0}) NoMemory} {ps qs : List Piece} → qs ≡ ps → Wrote holds m a r b ps → Wrote holds m a r b qs
same_pieces {holds = holds} {m = m} {a = a} {b = b} {r = r} e h = subst (Wrote holds m a r b) (sym e) h

-- ---- lists

pub each_more : {S A : Type 0} {holds : S → Written → Type 0} {m : Bool} {a b c : S} {r : Result (Unit {0}) NoMemory} (pieces : A → List Piece) (xs : List A) (i : ℕ) (x : A) → i < length xs → x ≡ get_or xs i x → Wrote holds m a (Ok tt) b (flat_map pieces (take i xs)) → Wrote holds m b r c (pieces x) → Wrote holds m a r c (flat_map pieces (take (i + 1) xs))
each_more pieces xs i x lt is h k =
    let more : take (i + 1) xs ≡ take i xs ++ x ∷ [] = take_more xs i x lt ∙ ap (λ (y : _). take i xs ++ y ∷ []) (sym is) in
    let last : flat_map pieces (x ∷ []) ≡ pieces x = flat_map-cons pieces x [] ∙ append-nil (pieces x) in
    same_pieces (ap (flat_map pieces) more ∙ flat_map-append pieces (take i xs) (x ∷ []) ∙ ap (λ (t : List Piece). flat_map pieces (take i xs) ++ t) last) (behind h k)

listed_push : {A : Type 0} (pieces : A → List Piece) (xs : List A) (x : A) → 0 < length xs → with_commas pieces (xs ++ x ∷ []) ≡ with_commas pieces xs ++ fixed t.Comma ∷ pieces x
listed_push pieces [] x h = absurd (omega arith)
listed_push pieces (y ∷ []) x h = refl
listed_push pieces (y ∷ z ∷ zs) x h = ap (λ (u : List Piece). pieces y ++ fixed t.Comma ∷ u) (listed_push pieces (z ∷ zs) x (omega arith)) ∙ sym (append_assoc (pieces y) (fixed t.Comma ∷ with_commas pieces (z ∷ zs)) (fixed t.Comma ∷ pieces x))

pub listed_more : {S A : Type 0} {holds : S → Written → Type 0} {m : Bool} {a b c : S} {r : Result (Unit {0}) NoMemory} (pieces : A → List Piece) (xs : List A) (i : ℕ) (x : A) → 0 < i → i < length xs → x ≡ get_or xs i x → Wrote holds m a (Ok tt) b (with_commas pieces (take i xs)) → Wrote holds m b r c (fixed t.Comma ∷ pieces x) → Wrote holds m a r c (with_commas pieces (take (i + 1) xs))
listed_more pieces xs i x some lt is h k =
    let more : take (i + 1) xs ≡ take i xs ++ x ∷ [] = take_more xs i x lt ∙ ap (λ (y : _). take i xs ++ y ∷ []) (sym is) in
    same_pieces (ap (with_commas pieces) more ∙ listed_push pieces (take i xs) x (omega (arith, length-take i xs))) (behind h k)

pub listed_first : {S A : Type 0} {holds : S → Written → Type 0} {m : Bool} {a b : S} {r : Result (Unit {0}) NoMemory} (pieces : A → List Piece) (xs : List A) (i : ℕ) (x : A) → i ≡ 0 → i < length xs → x ≡ get_or xs i x → Wrote holds m a r b (pieces x) → Wrote holds m a r b (with_commas pieces (take (i + 1) xs))
listed_first pieces [] i x none lt is k = absurd (omega arith)
listed_first pieces (y ∷ xs) i x none lt is k =
    let first : take (i + 1) (y ∷ xs) ≡ y ∷ [] = rw none refl in
    let same : x ≡ y = is ∙ ap (λ (j : ℕ). get_or (y ∷ xs) j x) none in
    same_pieces (ap (with_commas pieces) first ∙ ap pieces (sym same)) k

-- the pieces of a list are those of its parts, each made another way
pub listed_map : {A B : Type 0} (pieces : B → List Piece) (f : A → B) (xs : List A) → with_commas pieces (map f xs) ≡ with_commas (λ x. pieces (f x)) xs
listed_map pieces f [] = refl
listed_map pieces f (x ∷ []) = refl
listed_map pieces f (x ∷ y ∷ ys) = ap (λ (z : List Piece). pieces (f x) ++ fixed t.Comma ∷ z) (listed_map pieces f (y ∷ ys))

pub flat_map_map : {A B : Type 0} (pieces : B → List Piece) (f : A → B) (xs : List A) → flat_map pieces (map f xs) ≡ flat_map (λ x. pieces (f x)) xs
flat_map_map pieces f [] = refl
flat_map_map pieces f (x ∷ xs) = flat_map-cons pieces (f x) (map f xs) ∙ (ap (λ (t : List Piece). pieces (f x) ++ t) (flat_map_map pieces f xs) ∙ sym (flat_map-cons (λ y. pieces (f y)) x xs))

-- ---- expressions

pub bare_number : (n : ℤ) → bare_pieces (s.number n) ≡ number_piece n ∷ []
unfolding bare_pieces
bare_number (pos n) = refl
bare_number (negsuc n) = refl

-- ---- as the code writes them

pub same_start : {S : Type 0} {holds : S → Written → Type 0} {m : Bool} {a c b : S} {r : Result (Unit {0}) NoMemory} {ps : List Piece} → a ≡ c → Wrote holds m a r b ps → Wrote holds m c r b ps
same_start {holds = holds} {m = m} {b = b} {r = r} {ps = ps} e h = subst (λ (x : _). Wrote holds m x r b ps) e h

pub listed_as : {S A B : Type 0} {holds : S → Written → Type 0} {m : Bool} {a b : S} {r : Result (Unit {0}) NoMemory} (pieces : B → List Piece) (f : A → B) (xs ys : List A) → ys ≡ xs → Wrote holds m a r b (with_commas (λ x. pieces (f x)) ys) → Wrote holds m a r b (with_commas pieces (map f xs))
listed_as pieces f xs ys e h = same_pieces (listed_map pieces f xs ∙ ap (with_commas (λ x. pieces (f x))) (sym e)) h

pub each_as : {S A B : Type 0} {holds : S → Written → Type 0} {m : Bool} {a b : S} {r : Result (Unit {0}) NoMemory} (pieces : B → List Piece) (f : A → B) (xs ys : List A) → ys ≡ xs → Wrote holds m a r b (flat_map (λ x. pieces (f x)) ys) → Wrote holds m a r b (flat_map pieces (map f xs))
each_as pieces f xs ys e h = same_pieces (flat_map_map pieces f xs ∙ ap (flat_map (λ x. pieces (f x))) (sym e)) h
