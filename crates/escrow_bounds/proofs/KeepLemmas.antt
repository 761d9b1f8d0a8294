-- What the calls keep.
use Rattle.std.proofs.Common.{◌≡◌, ℕ, Bool, true, false, cond, List, [], ◌∷◌, refl, ap, sym, subst, ◌∙◌, inl, inr, arith}
use Rattle.std.specs.Prelude.{◌==◌, ℤ, pos, ◌+ℤ◌, ◌-ℤ◌, ◌≤ℤ◌, Option, Some, None, unwrap_or, IsSome, is_some, slice_index_or}
use Rattle.std.specs.List.{position}
use Rattle.std.specs.Ordering.{nat_cmp}
use Rattle.std.specs.FinMap.{FinMap, get, insert, remove, get-empty}
use Rattle.escrow_bounds.proofs.PartLemmas.{stands_at, stands_nowhere, same, get-inserted, get-removed, self_tie, untied}
use Rattle.std.specs.Int.{int_min, int_max}
use Rattle.std.specs.Prelude.{int_lt}
use Rattle.std.proofs.lemmas.Bool.Decides.{eqb_tells}
use Rattle.std.proofs.lemmas.Int.{ints, clamps}
use Rattle.iv_types.specs.declared.lock.Prefix.{Prefix}
use Rattle.iv_types.specs.Encoding.{IsHuge}
use Rattle.iv_meaning.specs.Escrow as meaning
use Rattle.iv_meaning.specs.Escrow.{Account, over_sessions, IsSession, paid, lo, hi, prefix_of, with_kept, with_increment}
use Rattle.escrow_bounds.specs.declared.part.Part.{Part}
use Rattle.escrow_bounds.specs.Column.{Column, none, part, least, greatest, untouched, with_part, without, after, added, settled, IsAllowed, IsBeforeLatest, Stands, Follows, Narrows, IsReserved, KeepsRoom, KeepsOtherRoom}
use Rattle.escrow_bounds.specs.Parts.{IsPrefix, Keeps, IsWithin, StandsAt, parts_of, moved_by, AreHuge}
use Rattle.escrow_bounds.specs.declared.escrow.Range.{Range}
use Rattle.escrow_bounds.proofs.SumLemmas.{sessions-same, sessions-zero}
use Rattle.escrow_bounds.proofs.ColumnLemmas.{Differs, Differs-with_part, Differs-without, part-with_same, part-with_other, lo-change, hi-change, sessions-below, sessions-above}

-- ---- numbers

pub false_true : false ≡ true → ⊥
false_true h = cc

pub never_true : {A : Type 0} {o : Option A} → o ≡ None → IsSome o → ⊥
never_true e s = false_true (subst IsSome e s)

pub huge_inside : (a n b : ℤ) → IsHuge a → a ≤ℤ n → n ≤ℤ b → IsHuge b → IsHuge n
huge_inside a n b low l h high = (omega (arith, ints, low.0, high.0), λ e. low.1 (omega (arith, ints, low.0)))

pub huge_zero : IsHuge (pos 0)
huge_zero = (omega (arith, ints), λ e. cc)

-- ---- prefixes

pub prefix_signs : (ds : List ℤ) → (lo ds ≤ℤ pos 0) × (lo ds ≤ℤ paid ds) × (pos 0 ≤ℤ hi ds) × (paid ds ≤ℤ hi ds)
prefix_signs [] = (omega (arith, ints), omega (arith, ints), omega (arith, ints), omega (arith, ints))
prefix_signs (d ∷ ds) =
    let h = prefix_signs ds in
    (omega (arith, ints, clamps, h.0), omega (arith, ints, clamps), omega (arith, ints, clamps, h.2), omega (arith, ints, clamps))

pub IsPrefix-none : IsPrefix none
IsPrefix-none = record { lo_zero = omega (arith, ints); lo_sum = omega (arith, ints); hi_zero = omega (arith, ints); hi_sum = omega (arith, ints); lo_huge = huge_zero; hi_huge = huge_zero }

huge_either : (b : Bool) (x y : ℤ) → IsHuge x → IsHuge y → IsHuge (cond b x y)
huge_either true x y h k = h
huge_either false x y h k = k

huge_min : (a b : ℤ) → IsHuge a → IsHuge b → IsHuge (int_min a b)
huge_min a b h k = huge_either (int_lt b a) b a k h

huge_max : (a b : ℤ) → IsHuge a → IsHuge b → IsHuge (int_max a b)
huge_max a b h k = huge_either (int_lt b a) a b h k

pub IsPrefix-after : (p : Prefix) (d : ℤ) → IsPrefix p → IsHuge (p.sum +ℤ d) → IsPrefix (after p d)
IsPrefix-after p d h k = record {
  lo_zero = omega (arith, ints, clamps, h.lo_zero);
  lo_sum = omega (arith, ints, clamps);
  hi_zero = omega (arith, ints, clamps, h.hi_zero);
  hi_sum = omega (arith, ints, clamps);
  lo_huge = huge_min _ _ h.lo_huge k;
  hi_huge = huge_max _ _ h.hi_huge k;
}

-- the prefix before the latest increment lies within the one after it
pub record IsInside (p now : Prefix) : Type 0 where
  pub lo : now.lo ≤ℤ p.lo
  pub between : p.lo ≤ℤ p.hi
  pub hi : p.hi ≤ℤ now.hi

pub before_inside : (p now : Prefix) → IsBeforeLatest p now → IsInside p now
before_inside p now h =
    let signs = prefix_signs h.earlier in
    let e0 : p.lo ≡ lo h.earlier = ap (λ (q : Prefix). q.lo) h.before in
    let e1 : p.hi ≡ hi h.earlier = ap (λ (q : Prefix). q.hi) h.before in
    let e2 : now.lo ≡ int_min (lo h.earlier) (paid h.earlier +ℤ h.latest) = ap (λ (q : Prefix). q.lo) h.after in
    let e3 : now.hi ≡ int_max (hi h.earlier) (paid h.earlier +ℤ h.latest) = ap (λ (q : Prefix). q.hi) h.after in
    record { lo = omega (arith, ints, clamps, e0, e2); between = omega (arith, ints, e0, e1, signs.0, signs.2); hi = omega (arith, ints, clamps, e1, e3) }

pub before_prefix : (p now : Prefix) → IsBeforeLatest p now → IsPrefix now → IsPrefix p
before_prefix p now h k =
    let inside = before_inside p now h in
    let signs = prefix_signs h.earlier in
    let e0 : p.lo ≡ lo h.earlier = ap (λ (q : Prefix). q.lo) h.before in
    let e1 : p.hi ≡ hi h.earlier = ap (λ (q : Prefix). q.hi) h.before in
    let e2 : p.sum ≡ paid h.earlier = ap (λ (q : Prefix). q.sum) h.before in
    let low : p.lo ≤ℤ pos 0 = omega (arith, ints, e0, signs.0) in
    let high : pos 0 ≤ℤ p.hi = omega (arith, ints, e1, signs.2) in
    record {
      lo_zero = low;
      lo_sum = omega (arith, ints, e0, e2, signs.1);
      hi_zero = high;
      hi_sum = omega (arith, ints, e1, e2, signs.3);
      lo_huge = huge_inside now.lo p.lo (pos 0) k.lo_huge inside.lo low huge_zero;
      hi_huge = huge_inside (pos 0) p.hi now.hi huge_zero high inside.hi k.hi_huge;
    }

-- ---- the bounds

pub record Rests (c : Column) (inf sup : ℤ) (s : ℕ) : Type 0 where
  pub inf_up : inf ≤ℤ (inf -ℤ (part c s).lo)
  pub low : (inf -ℤ (part c s).lo) ≤ℤ c.committed
  pub high : c.committed ≤ℤ (sup -ℤ (part c s).hi)
  pub sup_down : (sup -ℤ (part c s).hi) ≤ℤ sup

pub rests : (c : Column) (inf sup : ℤ) (s : ℕ) → Keeps c inf sup → IsSession s → Rests c inf sup s
rests c inf sup s k is =
    let a : over_sessions (λ n. (part c n).lo) ≤ℤ (part c s).lo = sessions-below (λ n. (part c n).lo) s is (λ n. (k.prefixes n).lo_zero) in
    let b : (part c s).hi ≤ℤ over_sessions (λ n. (part c n).hi) = sessions-above (λ n. (part c n).hi) s is (λ n. (k.prefixes n).hi_zero) in
    let z0 = (k.prefixes s).lo_zero in
    let z1 = (k.prefixes s).hi_zero in
    record {
      inf_up = omega (arith, ints, z0);
      low = omega (arith, ints, a, k.inf_is);
      high = omega (arith, ints, b, k.sup_is);
      sup_down = omega (arith, ints, z1);
    }

pub rests_fit : (c : Column) (inf sup : ℤ) (s : ℕ) → Keeps c inf sup → IsSession s → IsWithin (inf -ℤ (part c s).lo) (sup -ℤ (part c s).hi)
rests_fit c inf sup s k is =
    let r = rests c inf sup s k is in
    record {
      first = (huge_inside inf (inf -ℤ (part c s).lo) sup k.inf_huge r.inf_up (omega (arith, ints, r.low, r.high, r.sup_down)) k.sup_huge).0;
      second = (huge_inside inf (sup -ℤ (part c s).hi) sup k.inf_huge (omega (arith, ints, r.inf_up, r.low, r.high)) r.sup_down k.sup_huge).0;
    }

-- the bounds where a session's prefix becomes one inside it
pub record NoWider (least most i u : ℤ) : Type 0 where
  pub inf : least ≤ℤ i
  pub between : i ≤ℤ u
  pub sup : u ≤ℤ most

pub narrowed : (c : Column) (inf sup : ℤ) (s : ℕ) (p : Prefix) → Keeps c inf sup → IsSession s → IsInside p (part c s) → NoWider inf sup (inf -ℤ (part c s).lo +ℤ p.lo) (sup -ℤ (part c s).hi +ℤ p.hi)
narrowed c inf sup s p k is h =
    let r = rests c inf sup s k is in
    record {
      inf = omega (arith, ints, h.lo);
      between = omega (arith, ints, h.between, r.low, r.high);
      sup = omega (arith, ints, h.hi);
    }

pub narrowed_fit : (inf sup i u : ℤ) → IsHuge inf → IsHuge sup → NoWider inf sup i u → IsHuge i × IsHuge u
narrowed_fit inf sup i u low high w = (huge_inside inf i sup low w.inf (omega (arith, ints, w.between, w.sup)) high, huge_inside inf u sup low (omega (arith, ints, w.inf, w.between)) w.sup high)

pub changed : (c d : Column) (inf sup : ℤ) (s : ℕ) (p : Prefix) (i u : ℤ) → Keeps c inf sup → IsSession s → Differs c d s p
    → i ≡ (inf -ℤ (part c s).lo +ℤ p.lo +ℤ (d.committed -ℤ c.committed)) → u ≡ (sup -ℤ (part c s).hi +ℤ p.hi +ℤ (d.committed -ℤ c.committed))
    → IsHuge i → IsHuge u → IsPrefix p → Keeps d i u
changed c d inf sup s p i u k is h ei eu hi hu hp =
    let l = lo-change c d s p is h in
    let r = hi-change c d s p is h in
    record {
      inf_is = omega (arith, ints, l, k.inf_is, ei);
      sup_is = omega (arith, ints, r, k.sup_is, eu);
      inf_huge = hi;
      sup_huge = hu;
      prefixes = λ n. elim (eqb_tells n s) [
        | inl e ↦ subst IsPrefix (sym (ap (part d) e.1 ∙ h.here)) hp
        | inr e ↦ subst IsPrefix (sym (h.others n e.1)) (k.prefixes n)
      ];
    }

pub narrows : (c d : Column) (inf sup i u : ℤ) → Keeps c inf sup → Keeps d i u → NoWider inf sup i u → Narrows c d
narrows c d inf sup i u k l w = (omega (arith, ints, k.inf_is, l.inf_is, w.inf), omega (arith, ints, k.sup_is, l.sup_is, w.sup))

-- ---- the calls that narrow the bounds

module _ (c : Column) (b : Range) (s : ℕ) (q : Prefix) (k : Keeps c b.inf b.sup) (is : IsSession s) (here : part c s ≡ q) where
  pub rest_fits : IsWithin (b.inf -ℤ q.lo) (b.sup -ℤ q.hi)
  rest_fits = subst (λ (x : Prefix). IsWithin (b.inf -ℤ x.lo) (b.sup -ℤ x.hi)) here (rests_fit c b.inf b.sup s k is)

  pub no_wider : (p : Prefix) → IsInside p q → NoWider b.inf b.sup (moved_by b q p).inf (moved_by b q p).sup
  no_wider p h =
      subst (λ (x : Prefix). NoWider b.inf b.sup (moved_by b x p).inf (moved_by b x p).sup) here (narrowed c b.inf b.sup s p k is (subst (IsInside p) (sym here) h))

  pub inside_fits : (p : Prefix) → IsInside p q → IsWithin (moved_by b q p).inf (moved_by b q p).sup
  inside_fits p h = let f = narrowed_fit _ _ _ _ k.inf_huge k.sup_huge (no_wider p h) in record { first = f.0.0; second = f.1.0 }

  -- the session's prefix becomes own, and the committed value changes with it so that the bounds move by p
  pub moved_keeps : (d : Column) (p own : Prefix) (r : Range) → Differs c d s own → IsInside p q → IsPrefix own
      → p.lo ≡ (own.lo +ℤ (d.committed -ℤ c.committed)) → p.hi ≡ (own.hi +ℤ (d.committed -ℤ c.committed)) → r ≡ moved_by b q p
      → Keeps d r.inf r.sup × Narrows c d
  moved_keeps d p own r differs h prefix el eh er =
      let w = no_wider p h in
      let f = narrowed_fit _ _ _ _ k.inf_huge k.sup_huge w in
      let m = changed c d b.inf b.sup s own (moved_by b q p).inf (moved_by b q p).sup k is differs
      (omega (arith, ints, el, ap (λ (x : Prefix). x.lo) here)) (omega (arith, ints, eh, ap (λ (x : Prefix). x.hi) here)) f.0 f.1 prefix in
      (subst (λ (x : Range). Keeps d x.inf x.sup) (sym er) m, narrows c d b.inf b.sup _ _ k m w)

  pub settled_fits : IsHuge (c.committed +ℤ q.sum)
  settled_fits =
      let r = rests c b.inf b.sup s k is in
      let e = ap (λ (x : Prefix). x.sum) here in
      let l = (k.prefixes s).lo_sum in
      let h = (k.prefixes s).hi_sum in
      huge_inside b.inf (c.committed +ℤ q.sum) b.sup k.inf_huge (omega (arith, ints, r.low, e, l)) (omega (arith, ints, r.high, e, h)) k.sup_huge

  -- ---- an increment

  pub added_keeps : (d : ℤ) (p : Prefix) (r : Range) → p ≡ after q d → r ≡ moved_by b q p → IsHuge (q.sum +ℤ d) → AreHuge r → Keeps (added c s d) r.inf r.sup
  added_keeps d p r ep er sum huge =
      let e : after (part c s) d ≡ p = ap (λ x. after x d) here ∙ sym ep in
      let lo_is : p.lo ≡ (after (part c s) d).lo = ap (λ (x : Prefix). x.lo) (sym e) in
      let hi_is : p.hi ≡ (after (part c s) d).hi = ap (λ (x : Prefix). x.hi) (sym e) in
      changed c (added c s d) b.inf b.sup s (after (part c s) d) r.inf r.sup k is (Differs-with_part c s (after (part c s) d))
      (ap (λ (x : Range). x.inf) er ∙ omega (arith, ints, lo_is, ap (λ (x : Prefix). x.lo) here))
      (ap (λ (x : Range). x.sup) er ∙ omega (arith, ints, hi_is, ap (λ (x : Prefix). x.hi) here))
      huge.inf huge.sup (IsPrefix-after (part c s) d (k.prefixes s) (subst (λ (x : Prefix). IsHuge (x.sum +ℤ d)) (sym here) sum))

  least_added : (d : ℤ) → least (added c s d) ≡ (moved_by b q (after q d)).inf
  least_added d =
      let l = lo-change c (added c s d) s (after (part c s) d) is (Differs-with_part c s (after (part c s) d)) in
      let e : least (added c s d) ≡ (moved_by b (part c s) (after (part c s) d)).inf = omega (arith, ints, l, k.inf_is) in
      e ∙ ap (λ x. (moved_by b x (after x d)).inf) here

  greatest_added : (d : ℤ) → greatest (added c s d) ≡ (moved_by b q (after q d)).sup
  greatest_added d =
      let l = hi-change c (added c s d) s (after (part c s) d) is (Differs-with_part c s (after (part c s) d)) in
      let e : greatest (added c s d) ≡ (moved_by b (part c s) (after (part c s) d)).sup = omega (arith, ints, l, k.sup_is) in
      e ∙ ap (λ x. (moved_by b x (after x d)).sup) here

  pub allows : (d : ℤ) → IsHuge (after q d).sum → AreHuge (moved_by b q (after q d)) → IsAllowed c s d
  allows d sum huge = record {
    inf = subst IsHuge (sym (least_added d)) huge.inf;
    sup = subst IsHuge (sym (greatest_added d)) huge.sup;
    sum = subst (λ (x : Prefix). IsHuge (x.sum +ℤ d)) (sym here) sum;
  }

  pub allowed_sum : (d : ℤ) → IsAllowed c s d → IsHuge (after q d).sum
  allowed_sum d h = subst (λ (x : Prefix). IsHuge (x.sum +ℤ d)) here h.sum

  pub allowed_bounds : (d : ℤ) → IsAllowed c s d → AreHuge (moved_by b q (after q d))
  allowed_bounds d h = record { inf = subst IsHuge (least_added d) h.inf; sup = subst IsHuge (greatest_added d) h.sup }

-- ---- the part that stands at a place

pub part_at : (n : ℤ) (ps : List Part) (s i : ℕ) (x : Part) → StandsAt ps s i → x ≡ slice_index_or ps i x → part (record { committed = n; parts = parts_of ps }) s ≡ x.prefix
part_at n ps s i x h e = ap (λ o. unwrap_or o none) (h.found x) ∙ ap (λ (p : Part). p.prefix) (sym e)

-- what `place` finds, behind a `deref`
pub place_some : (ps qs : List Part) (s : ℕ) (o : Option ℕ) → qs ≡ ps → o ≡ position (λ p. p.session == s) qs → IsSome (get (parts_of ps) s) → IsSome o
place_some ps qs s o e is has =
    elim o as (λ x. o ≡ x → IsSome x) [
      | None ↦ λ t. subst IsSome (stands_nowhere ps s (subst (λ xs. position (λ p. p.session == s) xs ≡ None) e (sym is ∙ t))) has
      | Some i ↦ λ t. refl
    ] refl

pub place_at : (ps qs : List Part) (s : ℕ) (o : Option ℕ) (i : ℕ) → qs ≡ ps → o ≡ position (λ p. p.session == s) qs → o ≡ Some i → StandsAt ps s i
place_at ps qs s o i e is t = stands_at ps s i (subst (λ xs. position (λ p. p.session == s) xs ≡ Some i) e (sym is ∙ t))

pub place_none : (ps qs : List Part) (s : ℕ) (o : Option ℕ) → qs ≡ ps → o ≡ position (λ p. p.session == s) qs → o ≡ None → get (parts_of ps) s ≡ None
place_none ps qs s o e is t = stands_nowhere ps s (subst (λ xs. position (λ p. p.session == s) xs ≡ None) e (sym is ∙ t))

pub place_reserved : (ps qs : List Part) (s : ℕ) (o : Option ℕ) → qs ≡ ps → o ≡ position (λ p. p.session == s) qs → IsSome o → IsSome (get (parts_of ps) s)
place_reserved ps qs s o e is some =
    elim o as (λ x. o ≡ x → IsSome x → IsSome (get (parts_of ps) s)) [
      | None ↦ λ t h. absurd (false_true h)
      | Some i ↦ λ t h. subst IsSome (sym ((place_at ps qs s o i e is t).found (record { session = s; prefix = none }))) refl
    ] refl some

pub not_some : {A : Type 0} (o : Option A) → is_some o ≡ false → o ≡ None
not_some None h = refl
not_some (Some x) h = absurd (false_true (sym h))

-- ---- accounts

pub stands_changed : (c d : Column) (s : ℕ) (p : Prefix) (ds : List ℤ) (n : ℤ) (a : Account) → Differs c d s p → d.committed ≡ n → p ≡ prefix_of ds → Stands c a
    → Stands d (record { committed = n; kept = (with_kept a s ds).kept })
stands_changed c d s p ds n a h e is k = record {
  committed = e;
  parts = λ m. elim (eqb_tells m s) [
    | inl t ↦ ap (part d) t.1 ∙ h.here ∙ is ∙ ap (λ b. prefix_of (cond b ds (a.kept m))) (sym t.0)
    | inr t ↦ h.others m t.1 ∙ k.parts m ∙ ap (λ b. prefix_of (cond b ds (a.kept m))) (sym t.0)
  ];
}

pub follows-with_part : (c : Column) (s : ℕ) (p : Prefix) (ds : List ℤ) → p ≡ prefix_of ds → Follows c (with_part c s p) (λ a. with_kept a s ds)
follows-with_part c s p ds is a k = stands_changed c (with_part c s p) s p ds a.committed a (Differs-with_part c s p) k.committed is k

pub follows-added : (c : Column) (s : ℕ) (d : ℤ) → Follows c (added c s d) (λ a. with_increment a s d)
follows-added c s d a k = follows-with_part c s (after (part c s) d) (d ∷ a.kept s) (ap (λ p. after p d) (k.parts s)) a k

pub follows-without : (c : Column) (s : ℕ) → Follows c (without c s) (λ a. with_kept a s [])
follows-without c s a k = stands_changed c (without c s) s none [] a.committed a (Differs-without c s c.committed) k.committed refl k

pub follows-settled : (c : Column) (s : ℕ) → Follows c (settled c s) (λ a. meaning.settled a s)
follows-settled c s a k =
    stands_changed c (settled c s) s none [] (a.committed +ℤ paid (a.kept s)) a (Differs-without c s (c.committed +ℤ (part c s).sum))
    (ap (λ n. n +ℤ (part c s).sum) k.committed ∙ ap (λ (p : Prefix). a.committed +ℤ p.sum) (k.parts s)) refl k

pub least-account : (c : Column) (a : Account) → Stands c a → least c ≡ meaning.inf a
least-account c a k = ap (λ n. n +ℤ over_sessions (λ s. (part c s).lo)) k.committed ∙ ap (λ n. a.committed +ℤ n) (sessions-same _ _ (λ s. ap (λ (p : Prefix). p.lo) (k.parts s)))

pub greatest-account : (c : Column) (a : Account) → Stands c a → greatest c ≡ meaning.sup a
greatest-account c a k = ap (λ n. n +ℤ over_sessions (λ s. (part c s).hi)) k.committed ∙ ap (λ n. a.committed +ℤ n) (sessions-same _ _ (λ s. ap (λ (p : Prefix). p.hi) (k.parts s)))

-- what the column allows is what the account allows
pub allowed_account : (c : Column) (s : ℕ) (d : ℤ) (a : Account) → Stands c a → (IsAllowed c s d → meaning.IsAllowed a s d) × (meaning.IsAllowed a s d → IsAllowed c s d)
allowed_account c s d a k =
    let new = follows-added c s d a k in
    let e0 : least (added c s d) ≡ meaning.inf (with_increment a s d) = least-account _ _ new in
    let e1 : greatest (added c s d) ≡ meaning.sup (with_increment a s d) = greatest-account _ _ new in
    let e2 : ((part c s).sum +ℤ d) ≡ paid (d ∷ a.kept s) = ap (λ (p : Prefix). p.sum +ℤ d) (k.parts s) in (
      λ h. record { inf = subst IsHuge e0 h.inf; sup = subst IsHuge e1 h.sup; sum = subst IsHuge e2 h.sum },
      λ h. record { inf = subst IsHuge (sym e0) h.inf; sup = subst IsHuge (sym e1) h.sup; sum = subst IsHuge (sym e2) h.sum },
    )

-- ---- sessions without room

pub inside_none : (now : Prefix) → IsPrefix now → IsInside none now
inside_none now h = record { lo = h.lo_zero; between = omega (arith, ints); hi = h.hi_zero }

-- the prefix of a sum alone
abbrev pub sum_alone : ℤ → Prefix
sum_alone n = record { sum = n; lo = n; hi = n }

pub inside_sum : (now : Prefix) → IsPrefix now → IsInside (sum_alone now.sum) now
inside_sum now h = record { lo = h.lo_sum; between = omega (arith, ints); hi = h.hi_sum }

none_there : {X : Type 0} (m : FinMap nat_cmp X) (s q : ℕ) → get m s ≡ None → cond (q == s) None (get m q) ≡ get m q
none_there m s q h = elim (eqb_tells q s) [
  | inl e ↦ ap (λ b. cond b None (get m q)) e.0 ∙ sym (ap (get m) e.1 ∙ h)
  | inr e ↦ ap (λ b. cond b None (get m q)) e.0
]

some_there : {X : Type 0} (m : FinMap nat_cmp X) (s q : ℕ) (v : X) → get m s ≡ Some v → cond (q == s) (Some v) (get m q) ≡ get m q
some_there m s q v h = elim (eqb_tells q s) [
  | inl e ↦ ap (λ b. cond b (Some v) (get m q)) e.0 ∙ sym (ap (get m) e.1 ∙ h)
  | inr e ↦ ap (λ b. cond b (Some v) (get m q)) e.0
]

pub remove-none : {X : Type 0} (m : FinMap nat_cmp X) (s : ℕ) → get m s ≡ None → remove m s ≡ m
remove-none m s h = same _ _ (λ q. get-removed m s q ∙ none_there m s q h)

pub insert-same : {X : Type 0} (m : FinMap nat_cmp X) (s : ℕ) (v : X) → get m s ≡ Some v → insert m s v ≡ m
insert-same m s v h = same _ _ (λ q. get-inserted m s v q ∙ some_there m s q v h)

pub without-none : (c : Column) (s : ℕ) → get c.parts s ≡ None → c ≡ without c s
without-none c s h = ap (λ (m : FinMap nat_cmp Prefix). record { committed = c.committed; parts = m }) (sym (remove-none c.parts s h))

pub settled-none : (c : Column) (s : ℕ) → get c.parts s ≡ None → c ≡ settled c s
settled-none c s h =
    let e : (part c s).sum ≡ pos 0 = ap (λ (o : Option Prefix). (unwrap_or o none).sum) h in
    let f : c.committed ≡ (c.committed +ℤ (part c s).sum) = omega (arith, ints, e) in
    without-none c s h ∙ ap (λ n. record { committed = n; parts = remove c.parts s }) f

-- ---- room that is made

some_of : {X : Type 0} (o : Option X) (d : X) → IsSome o → o ≡ Some (unwrap_or o d)
some_of None d h = absurd (false_true h)
some_of (Some x) d h = refl

pub with_part-same : (c : Column) (s : ℕ) → IsSome (get c.parts s) → c ≡ with_part c s (part c s)
with_part-same c s h = ap (λ (m : FinMap nat_cmp Prefix). record { committed = c.committed; parts = m }) (sym (insert-same c.parts s (part c s) (some_of _ none h)))

pub part-reserved : (c : Column) (s k : ℕ) → part (with_part c s (part c s)) k ≡ part c k
part-reserved c s k = elim (eqb_tells k s) [
  | inl e ↦ ap (part (with_part c s (part c s))) e.1 ∙ part-with_same c s (part c s) ∙ sym (ap (part c) e.1)
  | inr e ↦ part-with_other c s (part c s) k e.1
]

pub reserved_keeps : (c : Column) (inf sup : ℤ) (s : ℕ) → Keeps c inf sup → Keeps (with_part c s (part c s)) inf sup
reserved_keeps c inf sup s k = record {
  inf_is = k.inf_is ∙ ap (λ n. c.committed +ℤ n) (sessions-same _ _ (λ n. ap (λ (p : Prefix). p.lo) (sym (part-reserved c s n))));
  sup_is = k.sup_is ∙ ap (λ n. c.committed +ℤ n) (sessions-same _ _ (λ n. ap (λ (p : Prefix). p.hi) (sym (part-reserved c s n))));
  inf_huge = k.inf_huge;
  sup_huge = k.sup_huge;
  prefixes = λ n. subst IsPrefix (sym (part-reserved c s n)) (k.prefixes n);
}

pub reserved_follows : (c : Column) (s : ℕ) → Follows c (with_part c s (part c s)) (λ a. a)
reserved_follows c s a k = record { committed = k.committed; parts = λ n. part-reserved c s n ∙ k.parts n }

-- ---- a column as it begins

pub part-untouched : (n : ℤ) (s : ℕ) → part (untouched n) s ≡ none
part-untouched n s = ap (λ (o : Option Prefix). unwrap_or o none) (get-empty nat_cmp s)

pub keeps_untouched : (n : ℤ) → IsHuge n → Keeps (untouched n) n n
keeps_untouched n h =
    let e0 = sessions-same (λ s. (part (untouched n) s).lo) (λ s. pos 0) (λ s. ap (λ (p : Prefix). p.lo) (part-untouched n s)) in
    let e1 = sessions-same (λ s. (part (untouched n) s).hi) (λ s. pos 0) (λ s. ap (λ (p : Prefix). p.hi) (part-untouched n s)) in
    record {
      inf_is = omega (arith, ints, e0, sessions-zero);
      sup_is = omega (arith, ints, e1, sessions-zero);
      inf_huge = h;
      sup_huge = h;
      prefixes = λ s. subst IsPrefix (sym (part-untouched n s)) IsPrefix-none;
    }

pub stands_untouched : (n : ℤ) → Stands (untouched n) (meaning.untouched n)
stands_untouched n = record { committed = refl; parts = part-untouched n }

-- ---- room

pub reserved_here : (c : Column) (s : ℕ) (p : Prefix) → IsReserved (with_part c s p) s
reserved_here c s p = subst IsSome (sym (get-inserted c.parts s p s ∙ ap (λ b. cond b (Some p) (get c.parts s)) (self_tie s))) refl

pub room_with_part : (c : Column) (s : ℕ) (p : Prefix) → KeepsRoom c (with_part c s p)
room_with_part c s p k h = elim (eqb_tells k s) [
  | inl e ↦ subst (λ n. IsReserved (with_part c s p) n) (sym e.1) (reserved_here c s p)
  | inr e ↦ subst IsSome (sym (get-inserted c.parts s p k ∙ ap (λ b. cond b (Some p) (get c.parts k)) e.0)) h
]

pub room_without : (c : Column) (s : ℕ) (n : ℤ) → KeepsOtherRoom s c (record { committed = n; parts = remove c.parts s })
room_without c s n k ne h = subst IsSome (sym (get-removed c.parts s k ∙ ap (λ b. cond b None (get c.parts k)) (untied k s ne))) h

-- ---- increments that have a prefix

listed : Prefix → List ℤ
listed p = (p.sum -ℤ p.hi) ∷ (p.hi -ℤ p.lo) ∷ p.lo ∷ []

listed_sum : (p : Prefix) → p.sum ≡ paid (listed p)
unfolding listed
listed_sum p = omega (arith, ints)

listed_lo : (p : Prefix) → IsPrefix p → p.lo ≡ lo (listed p)
unfolding listed
listed_lo p h = omega (arith, ints, clamps, h.lo_zero, h.lo_sum, h.hi_zero, h.hi_sum)

listed_hi : (p : Prefix) → IsPrefix p → p.hi ≡ hi (listed p)
unfolding listed
listed_hi p h = omega (arith, ints, clamps, h.lo_zero, h.lo_sum, h.hi_zero, h.hi_sum)

listed_is : (p : Prefix) → IsPrefix p → p ≡ prefix_of (listed p)
listed_is p h = λ i. record { sum = listed_sum p i; lo = listed_lo p h i; hi = listed_hi p h i }

pub latest_of : (p : Prefix) (d : ℤ) → IsPrefix p → IsBeforeLatest p (after p d)
latest_of p d h = record { latest = d; earlier = listed p; before = listed_is p h; after = ap (λ x. after x d) (listed_is p h) }

pub latest_added : (c : Column) (s : ℕ) (d : ℤ) (p : Prefix) → IsPrefix p → part c s ≡ p → IsBeforeLatest p (part (added c s d) s)
latest_added c s d p h e = subst (IsBeforeLatest p) (sym (part-with_same c s (after (part c s) d) ∙ ap (λ x. after x d) e)) (latest_of p d h)
