-- Locks of one key, by what is held under their places.
use Rattle.std.proofs.Common.{◌≡◌, ℕ, Bool, true, false, cond, List, [], ◌∷◌, ◌++◌, length, Option, Some, None, refl, sym, ap, subst, ◌∙◌, inl, inr}
use Rattle.std.specs.Prelude.{◌⊎◌, ◌↔◌, ◌&&◌, ◌||◌, T, IsTrue}
use Rattle.std.specs.List.{Contains}
use Rattle.std.proofs.lemmas.List.{nil_from_length}
use Rattle.std.specs.declared.cmp.Ordering.{Ordering}
use Rattle.std.specs.declared.cmp.Ordering.TheVariants.{Less, Equal, Greater}
use Rattle.std.specs.Ordering.{is_eq, is_lt, eq_by_cmp, ordering_reverse}
use Rattle.std.specs.Cmp.{tied_itself}
use Rattle.std.specs.FinMap.{FinMap, find, get, insert, empty, entries, len, is_sorted, get-entries, get-insert, entries_sorted, len-entries, len-empty}
use Rattle.std.specs.FinMap.Entries.{below_all}
use Rattle.table_laws.specs.Place.{Place, place_cmp}
use Rattle.table_laws.proofs.Place.{place_cmp_total, place_cmp-IsAntisymmetric}
use Rattle.iv_types.specs.declared.lock.LockMode.{LockMode}
use Rattle.iv_types.specs.declared.lock.LockMode.TheVariants.{Share, Exclusive, Increment}
use Rattle.iv_types.specs.declared.lock.Want.{Want}
use Rattle.iv_types.specs.Intervals.{LiesIn}
use Rattle.txn_machine.specs.Locks.{Agree}
use Rattle.row_codec.proofs.RangeLaws.{alone}
use Rattle.lock_manager.specs.declared.modes.Modes.{Modes}
use Rattle.lock_manager.specs.Order.{IsPoint}
use Rattle.lock_manager.specs.Points.{no_modes, has_mode, with_mode, is_apart, HasAt, lock_at, with_lock, points_of, MeetsAt}
use Rattle.lock_manager.specs.Table.{Covers, HasSome, HasGained}
use Rattle.lock_manager.proofs.Keys.{true_false}
use Rattle.lock_manager.proofs.Gains.{contains_none, contains_cases, contains_head, contains_tail}

-- ---- modes

has_more : (modes : Modes) (mode x : LockMode) → IsTrue (has_mode (with_mode modes mode) x) ↔ (IsTrue (has_mode modes x) ⊎ (x ≡ mode))
has_more modes Share Share = (λ h. inr refl, λ h. refl)
has_more modes Share Exclusive = (λ h. inl h, λ h. elim h [ inl t ↦ t | inr e ↦ absurd (cc e) ])
has_more modes Share Increment = (λ h. inl h, λ h. elim h [ inl t ↦ t | inr e ↦ absurd (cc e) ])
has_more modes Exclusive Share = (λ h. inl h, λ h. elim h [ inl t ↦ t | inr e ↦ absurd (cc e) ])
has_more modes Exclusive Exclusive = (λ h. inr refl, λ h. refl)
has_more modes Exclusive Increment = (λ h. inl h, λ h. elim h [ inl t ↦ t | inr e ↦ absurd (cc e) ])
has_more modes Increment Share = (λ h. inl h, λ h. elim h [ inl t ↦ t | inr e ↦ absurd (cc e) ])
has_more modes Increment Exclusive = (λ h. inl h, λ h. elim h [ inl t ↦ t | inr e ↦ absurd (cc e) ])
has_more modes Increment Increment = (λ h. inr refl, λ h. refl)

has_none : (mode : LockMode) → IsTrue (has_mode no_modes mode) → ⊥
has_none Share t = true_false (sym t)
has_none Exclusive t = true_false (sym t)
has_none Increment t = true_false (sym t)

either : (a b : Bool) → IsTrue (a || b) → IsTrue a ⊎ IsTrue b
either true b t = inl refl
either false b t = inr t

left : (a b : Bool) → IsTrue a → IsTrue (a || b)
left true b t = refl
left false b t = true_false (sym t)

right : (a b : Bool) → IsTrue b → IsTrue (a || b)
right true b t = refl
right false b t = t

abbrev IsApart : Modes → LockMode → Type 0
IsApart modes mode = (x : LockMode) × IsTrue (has_mode modes x) × (Agree x mode → ⊥)

apart_to : (modes : Modes) (mode : LockMode) → IsTrue (is_apart modes mode) → IsApart modes mode
apart_to modes Share t = elim (either modes.exclusive modes.increment t) [ inl h ↦ (Exclusive, h, λ x. x) | inr h ↦ (Increment, h, λ x. x) ]
apart_to modes Exclusive t = elim (either modes.share (modes.exclusive || modes.increment) t) [
  | inl h ↦ (Share, h, λ x. x)
  | inr more ↦ elim (either modes.exclusive modes.increment more) [ inl h ↦ (Exclusive, h, λ x. x) | inr h ↦ (Increment, h, λ x. x) ]
]
apart_to modes Increment t = elim (either modes.share modes.exclusive t) [ inl h ↦ (Share, h, λ x. x) | inr h ↦ (Exclusive, h, λ x. x) ]

apart_back : (modes : Modes) (mode x : LockMode) → IsTrue (has_mode modes x) → (Agree x mode → ⊥) → IsTrue (is_apart modes mode)
apart_back modes Share Share h not = absurd (not tt)
apart_back modes Share Exclusive h not = left modes.exclusive modes.increment h
apart_back modes Share Increment h not = right modes.exclusive modes.increment h
apart_back modes Exclusive Share h not = left modes.share (modes.exclusive || modes.increment) h
apart_back modes Exclusive Exclusive h not = right modes.share (modes.exclusive || modes.increment) (left modes.exclusive modes.increment h)
apart_back modes Exclusive Increment h not = right modes.share (modes.exclusive || modes.increment) (right modes.exclusive modes.increment h)
apart_back modes Increment Share h not = left modes.share modes.exclusive h
apart_back modes Increment Exclusive h not = right modes.share modes.exclusive h
apart_back modes Increment Increment h not = absurd (not tt)

-- ---- the locks of one place

with_cases : (b : Bool) (lock : Want) (locks : List Want) (w : Want) → Contains (with_lock b lock locks) w → (IsTrue b × (lock ≡ w)) ⊎ Contains locks w
with_cases true lock locks w h = elim (contains_cases lock locks w h) [ inl e ↦ inl (refl, e) | inr later ↦ inr later ]
with_cases false lock locks w h = inr h

with_here : (b : Bool) (lock : Want) (locks : List Want) → IsTrue b → Contains (with_lock b lock locks) lock
with_here true lock locks t = contains_head lock locks
with_here false lock locks t = true_false (sym t)

with_later : (b : Bool) (lock : Want) (locks : List Want) (w : Want) → Contains locks w → Contains (with_lock b lock locks) w
with_later true lock locks w h = contains_tail lock locks w h
with_later false lock locks w h = h

module _ (place : Place) (modes : Modes) (es : List (Place × Modes)) where
  -- a lock of the first place or of a later one
  pub place_cases : (w : Want) → Contains (points_of ((place, modes) ∷ es)) w → (IsTrue (has_mode modes w.mode) × (lock_at place w.mode ≡ w)) ⊎ Contains (points_of es) w
  place_cases w h =
      let is : (mode : LockMode) → IsTrue (has_mode modes mode) → lock_at place mode ≡ w → IsTrue (has_mode modes w.mode) × (lock_at place w.mode ≡ w) =
      λ mode t e. let P : Want → Type 0 = λ v. IsTrue (has_mode modes v.mode) × (lock_at place v.mode ≡ v) in subst P e (t, refl) in
      let third = with_lock modes.increment (lock_at place Increment) (points_of es) in
      let second = with_lock modes.exclusive (lock_at place Exclusive) third in
      elim (with_cases modes.share (lock_at place Share) second w h) [
        | inl here ↦ inl (is Share here.0 here.1)
        | inr more ↦ elim (with_cases modes.exclusive (lock_at place Exclusive) third w more) [
          | inl here ↦ inl (is Exclusive here.0 here.1)
          | inr rest ↦ elim (with_cases modes.increment (lock_at place Increment) (points_of es) w rest) [
            | inl here ↦ inl (is Increment here.0 here.1)
            | inr later ↦ inr later
          ]
        ]
      ]

  pub place_later : (w : Want) → Contains (points_of es) w → Contains (points_of ((place, modes) ∷ es)) w
  place_later w h =
      let third = with_lock modes.increment (lock_at place Increment) (points_of es) in
      let second = with_lock modes.exclusive (lock_at place Exclusive) third in
      with_later modes.share (lock_at place Share) second w (with_later modes.exclusive (lock_at place Exclusive) third w (with_later modes.increment (lock_at place Increment) (points_of es) w h))

  pub place_here : (mode : LockMode) → IsTrue (has_mode modes mode) → Contains (points_of ((place, modes) ∷ es)) (lock_at place mode)
  place_here mode t = by mode t
    where
      by : (mode : LockMode) → IsTrue (has_mode modes mode) → Contains (points_of ((place, modes) ∷ es)) (lock_at place mode)
      by Share t = with_here modes.share (lock_at place Share) (with_lock modes.exclusive (lock_at place Exclusive) (with_lock modes.increment (lock_at place Increment) (points_of es))) t
      by Exclusive t = with_later modes.share (lock_at place Share) (with_lock modes.exclusive (lock_at place Exclusive) (with_lock modes.increment (lock_at place Increment) (points_of es))) (lock_at place Exclusive)
          (with_here modes.exclusive (lock_at place Exclusive) (with_lock modes.increment (lock_at place Increment) (points_of es)) t)
      by Increment t = with_later modes.share (lock_at place Share) (with_lock modes.exclusive (lock_at place Exclusive) (with_lock modes.increment (lock_at place Increment) (points_of es))) (lock_at place Increment)
          (with_later modes.exclusive (lock_at place Exclusive) (with_lock modes.increment (lock_at place Increment) (points_of es)) (lock_at place Increment)
          (with_here modes.increment (lock_at place Increment) (points_of es) t))

-- ---- the locks of all places

abbrev pub place_of : Want → Place
place_of w = let interval = w.interval in (w.index, interval.low)

pub and_first : (a b : Bool) → T (a && b) → T a
and_first true b p = tt
and_first false b p = p

pub and_second : (a b : Bool) → T (a && b) → T b
and_second true b p = p
and_second false b p = absurd p

pub lt_less : (o : Ordering) → T (is_lt o) → o ≡ Less
lt_less Less p = refl
lt_less Equal p = absurd p
lt_less Greater p = absurd p

-- the first place is before each later one at which something is held
held_behind : (p k : Place) (es : List (Place × Modes)) (mode : LockMode) → T (below_all place_cmp p es) → HasAt (find place_cmp k es) mode → place_cmp p k ≡ Less
held_behind p k [] mode h held = absurd held
held_behind p k (e ∷ es) mode h held = by (place_cmp k e.0) refl held (held_behind p k es mode (and_second (is_lt (place_cmp p e.0)) (below_all place_cmp p es) h))
  where
    by : (w : Ordering) → place_cmp k e.0 ≡ w → HasAt (cond (is_eq w) (Some e.1) (find place_cmp k es)) mode → (HasAt (find place_cmp k es) mode → place_cmp p k ≡ Less) → place_cmp p k ≡ Less
    by Less is held rest = rest held
    by Equal is held rest = subst (λ q. place_cmp p q ≡ Less) (sym (place_cmp-IsAntisymmetric k e.0 is)) (lt_less (place_cmp p e.0) (and_first (is_lt (place_cmp p e.0)) (below_all place_cmp p es) h))
    by Greater is held rest = rest held

abbrev pub IsHeld : List (Place × Modes) → Want → Type 0
IsHeld es w = IsPoint w.interval × HasAt (find place_cmp (place_of w) es) w.mode

pub contained : (es : List (Place × Modes)) → T (is_sorted place_cmp es) → (w : Want) → Contains (points_of es) w → IsHeld es w
contained [] sorted w h = absurd (contains_none w h)
contained (e ∷ es) sorted w h = elim (place_cases e.0 e.1 es w h) [
  | inl (t, is) ↦ subst (IsHeld (e ∷ es)) is (refl, subst (λ r. HasAt (cond (is_eq r) (Some e.1) (find place_cmp e.0 es)) w.mode) (sym (tied_itself place_cmp_total e.0)) t)
  | inr later ↦
      let rest = contained es (and_second (below_all place_cmp e.0 es) (is_sorted place_cmp es) sorted) w later in
      let before : place_cmp e.0 (place_of w) ≡ Less = held_behind e.0 (place_of w) es w.mode (and_first (below_all place_cmp e.0 es) (is_sorted place_cmp es) sorted) rest.1 in
      let back : place_cmp (place_of w) e.0 ≡ Greater = place_cmp_total.antisymm (place_of w) e.0 ∙ ap ordering_reverse before in
      (rest.0, subst (λ r. HasAt (cond (is_eq r) (Some e.1) (find place_cmp (place_of w) es)) w.mode) (sym back) rest.1)
]

-- a lock of one key by its place
pub by_place : (w : Want) → IsPoint w.interval → lock_at (place_of w) w.mode ≡ w
by_place w p = λ i. let interval = w.interval in record { index = w.index; interval = record { low = interval.low; high = sym p i }; mode = w.mode }

containing_at : (es : List (Place × Modes)) (k : Place) (mode : LockMode) → HasAt (find place_cmp k es) mode → Contains (points_of es) (lock_at k mode)
containing_at [] k mode held = absurd held
containing_at (e ∷ es) k mode held = by (place_cmp k e.0) refl held (λ h. place_later e.0 e.1 es (lock_at k mode) (containing_at es k mode h))
  where
    by : (w : Ordering) → place_cmp k e.0 ≡ w → HasAt (cond (is_eq w) (Some e.1) (find place_cmp k es)) mode → (HasAt (find place_cmp k es) mode → Contains (points_of (e ∷ es)) (lock_at k mode))
        → Contains (points_of (e ∷ es)) (lock_at k mode)
    by Less is held rest = rest held
    by Equal is held rest = subst (λ q. Contains (points_of (e ∷ es)) (lock_at q mode)) (sym (place_cmp-IsAntisymmetric k e.0 is)) (place_here e.0 e.1 es mode held)
    by Greater is held rest = rest held

-- ---- in a map

module _ (m : FinMap place_cmp Modes) where
  pub held_to : (w : Want) → Contains (points_of (entries m)) w → IsPoint w.interval × HasAt (get m (place_of w)) w.mode
  held_to w h =
      let there = contained (entries m) (entries_sorted m) w h in
      (there.0, subst (λ o. HasAt o w.mode) (sym (get-entries m (place_of w))) there.1)

  pub held_at : (k : Place) (mode : LockMode) → HasAt (get m k) mode → Contains (points_of (entries m)) (lock_at k mode)
  held_at k mode h = containing_at (entries m) k mode (subst (λ o. HasAt o mode) (get-entries m k) h)

  pub held_back : (w : Want) → IsPoint w.interval → HasAt (get m (place_of w)) w.mode → Contains (points_of (entries m)) w
  held_back w p h = subst (Contains (points_of (entries m))) (by_place w p) (held_at (place_of w) w.mode h)

  -- the lock of a key that has it
  pub covers_is : (index : ℕ) (key : List ℕ) (mode : LockMode) → (HasAt (get m (index, key)) mode) ↔ HasSome (Covers index key mode) (points_of (entries m))
  covers_is index key mode = (
    λ h. (lock_at (index, key) mode, held_at (index, key) mode h, record { on_index = refl; has_key = (alone key key).1 refl; has_mode = refl }),
    λ (w, among, c).
        let there = held_to w among in
        let interval = w.interval in
        let only : key ≡ interval.low = (alone interval.low key).0 (subst (λ v. LiesIn key v) (sym (ap (λ (x : Want). x.interval) (by_place w there.0))) c.has_key) in
        let place : place_of w ≡ (index, key) = λ i. (c.on_index i, sym only i) in
        subst (λ x. HasAt (get m (index, key)) x) c.has_mode (subst (λ p. HasAt (get m p) w.mode) place there.1),
  )

pub none_of : (m : FinMap place_cmp Modes) (ranges : List Want) → m ≡ empty → ranges ≡ [] → points_of (entries m) ++ ranges ≡ []
none_of m ranges is none =
    let nothing : length (entries m) ≡ 0 = sym (len-entries m) ∙ (ap len is ∙ len-empty place_cmp Modes) in
    (λ i. points_of (nil_from_length (entries m) nothing i) ++ none i)

-- ---- one lock more

-- of the places with this one's modes, each has what it had, and this one the mode too
pub gained_point : (m n : FinMap place_cmp Modes) (k : Place) (mode : LockMode) (modes : Modes) → n ≡ insert m k modes
    → ((x : LockMode) → IsTrue (has_mode modes x) ↔ (HasAt (get m k) x ⊎ (x ≡ mode)))
    → HasGained (points_of (entries m)) (lock_at k mode ∷ []) (points_of (entries n))
gained_point m n k mode modes is has w = (to, back)
  where
    got : (q : Place) → get n q ≡ cond (eq_by_cmp place_cmp q k) (Some modes) (get m q)
    got q = ap (λ x. get x q) is ∙ get-insert place_cmp_total m k modes q

    not_less : (q : Place) → place_cmp q k ≡ Less → q ≡ k → ⊥
    not_less q e same = let tied : Equal ≡ Less = sym (tied_itself place_cmp_total k) ∙ subst (λ p. place_cmp p k ≡ Less) same e in absurd (cc tied)

    not_greater : (q : Place) → place_cmp q k ≡ Greater → q ≡ k → ⊥
    not_greater q e same = let tied : Equal ≡ Greater = sym (tied_itself place_cmp_total k) ∙ subst (λ p. place_cmp p k ≡ Greater) same e in absurd (cc tied)

    at : (q : Place) (x : LockMode) (r : Ordering) → place_cmp q k ≡ r → HasAt (get n q) x ↔ (HasAt (get m q) x ⊎ ((q ≡ k) × (x ≡ mode)))
    at q x Less e = (
      λ h. inl (subst (λ o. HasAt o x) (got q ∙ ap (λ r. cond (is_eq r) (Some modes) (get m q)) e) h),
      λ h. subst (λ o. HasAt o x) (sym (got q ∙ ap (λ r. cond (is_eq r) (Some modes) (get m q)) e)) (elim h [ inl there ↦ there | inr new ↦ absurd (not_less q e new.0) ]),
    )
    at q x Equal e =
        let same : q ≡ k = place_cmp-IsAntisymmetric q k e in
        let here : get n q ≡ Some modes = got q ∙ ap (λ r. cond (is_eq r) (Some modes) (get m q)) e in (
          λ h. elim ((has x).0 (subst (λ o. HasAt o x) here h)) [
            | inl old ↦ inl (subst (λ p. HasAt (get m p) x) (sym same) old)
            | inr new ↦ inr (same, new)
          ],
          λ h. subst (λ o. HasAt o x) (sym here) ((has x).1 (elim h [ inl old ↦ inl (subst (λ p. HasAt (get m p) x) same old) | inr new ↦ inr new.1 ])),
        )
    at q x Greater e = (
      λ h. inl (subst (λ o. HasAt o x) (got q ∙ ap (λ r. cond (is_eq r) (Some modes) (get m q)) e) h),
      λ h. subst (λ o. HasAt o x) (sym (got q ∙ ap (λ r. cond (is_eq r) (Some modes) (get m q)) e)) (elim h [ inl there ↦ there | inr new ↦ absurd (not_greater q e new.0) ]),
    )

    to : Contains (points_of (entries n)) w → Contains (points_of (entries m)) w ⊎ Contains (lock_at k mode ∷ []) w
    to h =
        let there = held_to n w h in
        elim ((at (place_of w) w.mode (place_cmp (place_of w) k) refl).0 there.1) [
          | inl old ↦ inl (held_back m w there.0 old)
          | inr (place, same) ↦ inr (subst (Contains (lock_at k mode ∷ [])) (ap (λ p. lock_at p mode) (sym place) ∙ (ap (lock_at (place_of w)) (sym same) ∙ by_place w there.0)) (contains_head (lock_at k mode) []))
        ]

    back : Contains (points_of (entries m)) w ⊎ Contains (lock_at k mode ∷ []) w → Contains (points_of (entries n)) w
    back h = elim h [
      | inl old ↦
          let there = held_to m w old in
          held_back n w there.0 ((at (place_of w) w.mode (place_cmp (place_of w) k) refl).1 (inl there.1))
      | inr new ↦ elim (contains_cases (lock_at k mode) [] w new) [
        | inl e ↦ subst (Contains (points_of (entries n))) e (held_at n k mode ((at k mode (place_cmp k k) refl).1 (inr (refl, refl))))
        | inr none ↦ absurd (contains_none w none)
      ]
    ]

pub more_held : (o : Option Modes) (modes : Modes) (mode x : LockMode) → o ≡ Some modes → IsTrue (has_mode (with_mode modes mode) x) ↔ (HasAt o x ⊎ (x ≡ mode))
more_held o modes mode x is = subst (λ p. IsTrue (has_mode (with_mode modes mode) x) ↔ (HasAt p x ⊎ (x ≡ mode))) (sym is) (has_more modes mode x)

pub first_held : (o : Option Modes) (mode x : LockMode) → o ≡ None → IsTrue (has_mode (with_mode no_modes mode) x) ↔ (HasAt o x ⊎ (x ≡ mode))
first_held o mode x is = subst (λ p. IsTrue (has_mode (with_mode no_modes mode) x) ↔ (HasAt p x ⊎ (x ≡ mode))) (sym is) (
  λ t. elim ((has_more no_modes mode x).0 t) [ inl none ↦ absurd (has_none x none) | inr e ↦ inr e ],
  λ h. (has_more no_modes mode x).1 (elim h [ inl none ↦ absurd none | inr e ↦ inr e ]),
)

-- ---- conflicts

-- a lock of a key conflicts by its modes where the key lies in the interval
pub meets_to : (modes : Modes) (place : Place) (want : Want) → place.0 ≡ want.index → LiesIn place.1 want.interval → IsTrue (is_apart modes want.mode) → MeetsAt (Some modes) place want
meets_to modes place want on lies apart =
    let (mode, held, not) = apart_to modes want.mode apart in
    (mode, held, record { one_index = on; common_key = (place.1, (alone place.1 place.1).1 refl, lies); modes = not })

pub meets_lies : (o : Option Modes) (place : Place) (want : Want) → MeetsAt o place want → (place.0 ≡ want.index) × LiesIn place.1 want.interval
meets_lies o place want (mode, held, c) =
    let key = c.common_key in
    (c.one_index, subst (λ k. LiesIn k want.interval) ((alone place.1 key.0).0 key.1) key.2)

pub meets_apart : (modes : Modes) (place : Place) (want : Want) → MeetsAt (Some modes) place want → IsTrue (is_apart modes want.mode)
meets_apart modes place want (mode, held, c) = apart_back modes want.mode mode held c.modes
