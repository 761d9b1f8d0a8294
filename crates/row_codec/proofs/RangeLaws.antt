-- Ranges of keys.
use Rattle.std.proofs.Common.{◌≡◌, ◌≢◌, ℕ, ◌+◌, ◌<◌, ◌==◌, Bool, true, false, List, [], ◌∷◌, ◌++◌, length, get_or, set, take, drop, Option, Some, None, refl, sym, ap, subst, ◌∙◌, arith, inl, inr, Ordering, Less, Equal, Greater}
use Rattle.std.specs.Prelude.{◌⊎◌, IfSome, if◌then◌else◌, ◌↔◌}
use Rattle.std.proofs.lemmas.Bool.{cases_lt}
use Rattle.std.proofs.lemmas.Cmp.{nat_list_cmp_total, tied_itself}
use Rattle.std.proofs.lemmas.List.{drop_more, take_more, take-append-drop, length-take-le, get_or_at, set_at}
use Rattle.std.specs.Ordering.{nat_cmp, ordering_then, ordering_reverse}
use Rattle.std.specs.Cmp.Lexicographic.{slice_cmp}
use Rattle.iv_types.specs.declared.value.Interval.{Interval}
use Rattle.iv_types.specs.Intervals.{IsBelow, IsAtMost, LiesIn, next, point, prefix_interval, HaveCommonKey}
use Rattle.iv_types.proofs.Fitting.{lies_is, lies_so}
use Rattle.row_codec.specs.Ranges.{AreBytes, BeginsWith, IsGreater}
use Rattle.row_codec.proofs.Orders.{cmp_less, cmp_equal, cmp_greater}

-- ---- the first bytes of two keys

abbrev FirstDecides : (ℕ → ℕ → Type 0) → ℕ → ℕ → Type 0 → Type 0
FirstDecides Before a b rest = Before a b ⊎ ((a ≡ b) × rest)

at_most_cons : (a x : ℕ) (as_ xs : List ℕ) → IsAtMost (a ∷ as_) (x ∷ xs) → (a < x) ⊎ ((a ≡ x) × IsAtMost as_ xs)
at_most_cons a x as_ xs h = elim (cases_lt a x) [
  | inl lt ↦ inl lt
  | inr le ↦ elim (cases_lt x a) [
    | inl gt ↦ absurd (h (ap (λ (o : Ordering). ordering_then o (slice_cmp nat_cmp as_ xs)) (cmp_greater a x gt)))
    | inr ge ↦ let e : a ≡ x = omega arith in inr (e, subst (λ (o : Ordering). ordering_then o (slice_cmp nat_cmp as_ xs) ≢ Greater) (cmp_equal a x e) h)
  ]
]

below_cons : (x a : ℕ) (xs as_ : List ℕ) → IsBelow (x ∷ xs) (a ∷ as_) → (x < a) ⊎ ((x ≡ a) × IsBelow xs as_)
below_cons x a xs as_ h = elim (cases_lt x a) [
  | inl lt ↦ inl lt
  | inr le ↦ elim (cases_lt a x) [
    | inl gt ↦ let wrong : Greater ≡ Less = sym (ap (λ (o : Ordering). ordering_then o (slice_cmp nat_cmp xs as_)) (cmp_greater x a gt)) ∙ h in absurd cc
    | inr ge ↦ let e : x ≡ a = omega arith in inr (e, subst (λ (o : Ordering). ordering_then o (slice_cmp nat_cmp xs as_) ≡ Less) (cmp_equal x a e) h)
  ]
]

below_first : (x a : ℕ) (xs as_ : List ℕ) → x < a → IsBelow (x ∷ xs) (a ∷ as_)
below_first x a xs as_ lt = ap (λ (o : Ordering). ordering_then o (slice_cmp nat_cmp xs as_)) (cmp_less x a lt)

below_same : (x : ℕ) (xs as_ : List ℕ) → IsBelow xs as_ → IsBelow (x ∷ xs) (x ∷ as_)
below_same x xs as_ h = ap (λ (o : Ordering). ordering_then o (slice_cmp nat_cmp xs as_)) (cmp_equal x x refl) ∙ h

at_most_same : (x : ℕ) (xs as_ : List ℕ) → IsAtMost xs as_ → IsAtMost (x ∷ xs) (x ∷ as_)
at_most_same x xs as_ h = subst (λ (o : Ordering). ordering_then o (slice_cmp nat_cmp xs as_) ≢ Greater) (sym (cmp_equal x x refl)) h

not_below_nil : (xs : List ℕ) → IsBelow xs [] → ⊥
not_below_nil [] h = absurd cc
not_below_nil (x ∷ xs) h = absurd cc

pub at_most_itself : (xs : List ℕ) → IsAtMost xs xs
at_most_itself xs e = let f : slice_cmp nat_cmp xs xs ≡ Equal = tied_itself nat_list_cmp_total xs in absurd (cc (sym e ∙ f))

-- ---- the interval of one key

between : (key k : List ℕ) → IsAtMost key k → IsBelow k (key ++ 0 ∷ []) → k ≡ key
between [] [] h l = refl
between [] (x ∷ xs) h l = elim (below_cons x 0 xs [] l) [ inl lt ↦ absurd (omega (arith, lt)) | inr e ↦ absurd (not_below_nil xs e.1) ]
between (a ∷ key) [] h l = absurd (h refl)
between (a ∷ key) (x ∷ xs) h l = elim (at_most_cons a x key xs h) [
  | inl lt ↦ elim (below_cons x a xs (key ++ 0 ∷ []) l) [ inl gt ↦ absurd (omega (arith, lt, gt)) | inr e ↦ absurd (omega (arith, lt, e.0)) ]
  | inr e ↦ elim (below_cons x a xs (key ++ 0 ∷ []) l) [
    | inl gt ↦ absurd (omega (arith, gt, e.0))
    | inr f ↦ ap (λ (b : ℕ). b ∷ xs) f.0 ∙ ap (λ (t : List ℕ). a ∷ t) (between key xs e.1 f.1)
  ]
]

below_longer : (key : List ℕ) → IsBelow key (key ++ 0 ∷ [])
below_longer [] = refl
below_longer (a ∷ key) = below_same a key (key ++ 0 ∷ []) (below_longer key)

pub alone : (key k : List ℕ) → LiesIn k (point key) ↔ (k ≡ key)
alone key k = (
  λ h. let in_it = lies_is k (point key) h in between key k in_it.0 in_it.1,
  λ e. subst (λ (l : List ℕ). LiesIn l (point key)) (sym e) (lies_so key (point key) (at_most_itself key) (below_longer key)),
)

-- ---- the interval of a prefix

-- what the bytes behind a byte make of it
abbrev step : ℕ → Option (List ℕ) → Option (List ℕ)
step b (Some more) = Some (b ∷ more)
step b None = if b == 255 then None else Some ((b + 1) ∷ [])

next-cons : (b : ℕ) (bytes : List ℕ) (o : Option (List ℕ)) → next bytes ≡ o → next (b ∷ bytes) ≡ step b o
next-cons b bytes (Some more) e = rw e refl
next-cons b bytes None e = rw e refl

not_above : (b x : ℕ) (xs : List ℕ) (test : Bool) → test ≡ (b == 255) → x < 256 → b < x → IfSome (if test then None else Some ((b + 1) ∷ [])) (λ high. IsBelow (x ∷ xs) high) → ⊥
not_above b x xs true is lt above l = let e : b ≡ 255 = grind (arith, sym is) in omega (arith, e, lt, above)
not_above b x xs false is lt above l = elim (below_cons x (b + 1) xs [] l) [ inl small ↦ omega (arith, small, above) | inr e ↦ not_below_nil xs e.1 ]

heads_same : (b x : ℕ) (bytes xs : List ℕ) (o : Option (List ℕ)) → x < 256 → IsAtMost (b ∷ bytes) (x ∷ xs) → IfSome (step b o) (λ high. IsBelow (x ∷ xs) high) → (b ≡ x) × (IsAtMost bytes xs × IfSome o (λ high. IsBelow xs high))
heads_same b x bytes xs (Some more) lt h l = elim (at_most_cons b x bytes xs h) [
  | inl above ↦ elim (below_cons x b xs more l) [ inl small ↦ absurd (omega (arith, small, above)) | inr e ↦ absurd (omega (arith, above, e.0)) ]
  | inr e ↦ elim (below_cons x b xs more l) [ inl small ↦ absurd (omega (arith, small, e.0)) | inr f ↦ (e.0, (e.1, f.1)) ]
]
heads_same b x bytes xs None lt h l = elim (at_most_cons b x bytes xs h) [
  | inl above ↦ absurd (not_above b x xs (b == 255) refl lt above l)
  | inr e ↦ (e.0, (e.1, tt))
]

begins : (prefix k : List ℕ) → AreBytes k → IsAtMost prefix k → IfSome (next prefix) (λ high. IsBelow k high) → BeginsWith prefix k
begins [] k bytes h l = (k, refl)
begins (b ∷ prefix) [] bytes h l = absurd (h refl)
begins (b ∷ prefix) (x ∷ xs) bytes h l =
    let parts = heads_same b x prefix xs (next prefix) bytes.0 h (subst (λ (o : Option (List ℕ)). IfSome o (λ high. IsBelow (x ∷ xs) high)) (next-cons b prefix (next prefix) refl) l) in
    let rest = begins prefix xs bytes.1 parts.1.0 parts.1.1 in
    (rest.0, ap (λ (c : ℕ). c ∷ xs) (sym parts.0) ∙ ap (λ (t : List ℕ). b ∷ t) rest.1)

at_most_longer : (prefix rest : List ℕ) → IsAtMost prefix (prefix ++ rest)
at_most_longer [] [] = λ e. absurd cc
at_most_longer [] (x ∷ rest) = λ e. absurd cc
at_most_longer (b ∷ prefix) rest = at_most_same b prefix (prefix ++ rest) (at_most_longer prefix rest)

below_step : (b : ℕ) (tail : List ℕ) (o : Option (List ℕ)) → IfSome o (λ high. IsBelow tail high) → IfSome (step b o) (λ high. IsBelow (b ∷ tail) high)
below_step b tail (Some more) h = below_same b tail more h
below_step b tail None h = elim (b == 255) as (λ (t : Bool). IfSome (if t then None else Some ((b + 1) ∷ [])) (λ high. IsBelow (b ∷ tail) high)) [
  | true ↦ tt
  | false ↦ below_first b (b + 1) tail [] (omega arith)
]

below_next : (prefix rest : List ℕ) → IfSome (next prefix) (λ high. IsBelow (prefix ++ rest) high)
below_next [] rest = tt
below_next (b ∷ prefix) rest =
    subst (λ (o : Option (List ℕ)). IfSome o (λ high. IsBelow (b ∷ (prefix ++ rest)) high)) (sym (next-cons b prefix (next prefix) refl)) (below_step b (prefix ++ rest) (next prefix) (below_next prefix rest))

pub begun : (prefix k : List ℕ) → AreBytes k → LiesIn k (prefix_interval prefix) ↔ BeginsWith prefix k
begun prefix k bytes = (
  λ h. let in_it = lies_is k (prefix_interval prefix) h in begins prefix k bytes in_it.0 in_it.1,
  λ b. subst (λ (l : List ℕ). LiesIn l (prefix_interval prefix)) (sym b.1) (lies_so (prefix ++ b.0) (prefix_interval prefix) (at_most_longer prefix b.0) (below_next prefix b.0)),
)

-- ---- the end of such an interval

pub next_255 : (bytes rest : List ℕ) (n m : ℕ) → m < length bytes → n ≡ m + 1 → get_or bytes m 0 ≡ 255 → next (drop n bytes) ≡ None → next (drop m bytes) ≡ None
next_255 bytes rest n m lt is last none =
    let e : drop m bytes ≡ 255 ∷ drop n bytes = drop_more bytes m 0 lt ∙ ap (λ (b : ℕ). b ∷ drop (m + 1) bytes) last ∙ ap (λ (k : ℕ). 255 ∷ drop k bytes) (sym is) in
    ap next e ∙ next-cons 255 (drop n bytes) None none

next_split : (front : List ℕ) (b : ℕ) (rest : List ℕ) → next rest ≡ None → b ≢ 255 → next (front ++ b ∷ rest) ≡ Some (front ++ (b + 1) ∷ [])
next_split [] b rest none ne = next-cons b rest None none ∙ (let f : (b == 255) ≡ false = grind arith in rw f refl)
next_split (a ∷ front) b rest none ne = next-cons a (front ++ b ∷ rest) (Some (front ++ (b + 1) ∷ [])) (next_split front b rest none ne)

pub next_is : (bytes : List ℕ) (n m : ℕ) → m < length bytes → n ≡ m + 1 → get_or bytes m 0 ≢ 255 → next (drop n bytes) ≡ None → next bytes ≡ Some (take m bytes ++ (get_or bytes m 0 + 1) ∷ [])
next_is bytes n m lt is last none =
    let parts : bytes ≡ take m bytes ++ get_or bytes m 0 ∷ drop n bytes =
    sym (take-append-drop m bytes) ∙ ap (λ (t : List ℕ). take m bytes ++ t) (drop_more bytes m 0 lt) ∙ ap (λ (k : ℕ). take m bytes ++ get_or bytes m 0 ∷ drop k bytes) (sym is) in
    ap next parts ∙ next_split (take m bytes) (get_or bytes m 0) (drop n bytes) none last

pub raised : (bytes high out : List ℕ) (last n m : ℕ) → m < length bytes → n ≡ m + 1 → high ≡ take n bytes → get_or bytes m 0 ≢ 255 → next (drop n bytes) ≡ None → last ≡ get_or high m last → out ≡ set high m (last + 1)
    → Some out ≡ next bytes
raised bytes high out last n m lt is cut ne none read made =
    let b = get_or bytes m 0 in
    let parts : high ≡ take m bytes ++ b ∷ [] = cut ∙ ap (λ (k : ℕ). take k bytes) is ∙ take_more bytes m 0 lt in
    let long : length (take m bytes) ≡ m = length-take-le m bytes (omega (arith, lt)) in
    let last_is : last ≡ b = read ∙ ap (λ (l : List ℕ). get_or l m last) parts ∙ get_or_at (take m bytes) b [] last m long in
    let whole : out ≡ take m bytes ++ (b + 1) ∷ [] =
    made ∙ ap (λ (l : List ℕ). set l m (last + 1)) parts ∙ set_at (take m bytes) b [] (last + 1) m long ∙ ap (λ (k : ℕ). take m bytes ++ (k + 1) ∷ []) last_is in
    ap Some whole ∙ sym (next_is bytes n m lt is ne none)

-- ---- common keys

not_less_back : (a b : List ℕ) → (IsBelow a b → ⊥) → IsAtMost b a
not_less_back a b h e =
    let back : slice_cmp nat_cmp a b ≡ ordering_reverse (slice_cmp nat_cmp b a) = nat_list_cmp_total.antisymm a b in
    h (back ∙ ap ordering_reverse e)

pub greater_is_b : (a b : List ℕ) → IsBelow a b → IsGreater a b b
greater_is_b a b h = record { one = inr refl; from_a = λ e. absurd (cc (sym h ∙ e)); from_b = at_most_itself b }

pub greater_is_a : (a b : List ℕ) → (IsBelow a b → ⊥) → IsGreater a b a
greater_is_a a b h = record { one = inl refl; from_a = at_most_itself a; from_b = not_less_back a b h }

by_order : (a b c : List ℕ) (o : Ordering) → slice_cmp nat_cmp a b ≡ o → (o ≢ Greater) → IsBelow b c → IsBelow a c
by_order a b c Less e ne l = nat_list_cmp_total.trans a b c e l
by_order a b c Equal e ne l = nat_list_cmp_total.congr a b c e ∙ l
by_order a b c Greater e ne l = absurd (ne refl)

at_most_below : (a b c : List ℕ) → IsAtMost a b → IsBelow b c → IsBelow a c
at_most_below a b c h l = by_order a b c (slice_cmp nat_cmp a b) refl h l

greater_at_most : (a b low k : List ℕ) → IsGreater a b low → IsAtMost a k → IsAtMost b k → IsAtMost low k
greater_at_most a b low k g ha hb = elim g.one [ inl e ↦ subst (λ (l : List ℕ). IsAtMost l k) (sym e) ha | inr e ↦ subst (λ (l : List ℕ). IsAtMost l k) (sym e) hb ]

before_end : (low k : List ℕ) (high : Option (List ℕ)) → IsAtMost low k → IfSome high (λ end. IsBelow k end) → IfSome high (λ end. IsBelow low end)
before_end low k None h l = tt
before_end low k (Some end) h l = at_most_below low k end h l

pub common_key : (a b : Interval) (low : List ℕ) → IsGreater a.low b.low low → IfSome a.high (λ end. IsBelow low end) → IfSome b.high (λ end. IsBelow low end) → HaveCommonKey a b
common_key a b low g la lb = (low, lies_so low a g.from_a la, lies_so low b g.from_b lb)

pub common_before_a : (a b : Interval) (low : List ℕ) → IsGreater a.low b.low low → HaveCommonKey a b → IfSome a.high (λ end. IsBelow low end)
common_before_a a b low g k = let in_a = lies_is k.0 a k.1 in before_end low k.0 a.high (greater_at_most a.low b.low low k.0 g in_a.0 (lies_is k.0 b k.2).0) in_a.1

pub common_before_b : (a b : Interval) (low : List ℕ) → IsGreater a.low b.low low → HaveCommonKey a b → IfSome b.high (λ end. IsBelow low end)
common_before_b a b low g k = let in_b = lies_is k.0 b k.2 in before_end low k.0 b.high (greater_at_most a.low b.low low k.0 g (lies_is k.0 a k.1).0 in_b.0) in_b.1
