-- Entries of several indexes, taken out of maps and put into them one after the other.
use Rattle.std.specs.Prelude.{◌≡◌, ◌≢◌, ℕ, ◌+◌, ◌≤◌, List, [], ◌∷◌, ◌++◌, Option, Some, None}
use Rattle.std.specs.List.{AllByRecursion}
use Rattle.std.proofs.Common.{arith}
use Rattle.std.proofs.lemmas.Bool.{cases_eq}
use Rattle.std.specs.FinMap.{get, insert, remove}
use mathlib.Core.Path.{refl, sym, ap, subst, ◌∙◌}
use mathlib.Core.Logic.{inl, inr}
use Rattle.iv_types.specs.declared.lock.IndexEntry.{IndexEntry}
use Rattle.iv_types.specs.Maps.{Map, CanHold, IsWithin, map_size, used, with_map, last_index}
use Rattle.iv_types.proofs.MapSizes.{used_moved, used_insert, size_remove, size_insert}
use Rattle.table_store.specs.Entries.{Off, AreApart, AreThere, AreAbsent, HavePlaces, TakesOut, PutsIn}
use Rattle.table_store.specs.Changes.{sizes, how_many, CanHoldEach}
use Rattle.table_store.proofs.Rooms.{size, sizes_cons, sizes_last, many_cons, many_last, many_at, many_other, within_less}
use Rattle.table_store.proofs.TableIndexes.{each_append, each_first, each_last}

-- what holds of entries of other indexes holds after one index changed
each_kept : (P : Map → IndexEntry → Type 0) (old mid : ℕ → Map) (n : ℕ) (es : List IndexEntry) → ((i : ℕ) → i ≢ n → mid i ≡ old i) → Off n es
    → AllByRecursion (λ e. P (old e.index) e) es → AllByRecursion (λ e. P (mid e.index) e) es
each_kept P old mid n [] others off h = tt
each_kept P old mid n (e ∷ es) others off h = (subst (λ (m : Map). P m e) (sym (others e.index off.0)) h.0, each_kept P old mid n es others off.1 h.1)

-- and held before it
each_was : (P : Map → IndexEntry → Type 0) (old mid : ℕ → Map) (n : ℕ) (es : List IndexEntry) → ((i : ℕ) → i ≢ n → mid i ≡ old i) → Off n es
    → AllByRecursion (λ e. P (mid e.index) e) es → AllByRecursion (λ e. P (old e.index) e) es
each_was P old mid n es others off h = each_kept P mid old n es (λ i ne. sym (others i ne)) off h

pub there_still : (old mid : ℕ → Map) (n : ℕ) (es : List IndexEntry) → ((i : ℕ) → i ≢ n → mid i ≡ old i) → Off n es → AreThere old es → AreThere mid es
there_still old mid n es others off h = each_kept (λ m e. get m e.key ≡ Some e.value) old mid n es others off h

pub absent_still : (old mid : ℕ → Map) (n : ℕ) (es : List IndexEntry) → ((i : ℕ) → i ≢ n → mid i ≡ old i) → Off n es → AreAbsent old es → AreAbsent mid es
absent_still old mid n es others off h = each_kept (λ m e. get m e.key ≡ None) old mid n es others off h

-- ---- one taken out, and then the others

pub take_none : (maps : ℕ → Map) → TakesOut [] maps maps
take_none maps = record { each = tt; rest = λ n off. refl }

each_new : (P : Map → Map → IndexEntry → Type 0) (old mid new : ℕ → Map) (n : ℕ) (es : List IndexEntry) → ((i : ℕ) → i ≢ n → mid i ≡ old i) → Off n es
    → AllByRecursion (λ e. P (new e.index) (mid e.index) e) es → AllByRecursion (λ e. P (new e.index) (old e.index) e) es
each_new P old mid new n [] others off h = tt
each_new P old mid new n (e ∷ es) others off h = (subst (λ (m : Map). P (new e.index) m e) (others e.index off.0) h.0, each_new P old mid new n es others off.1 h.1)

pub take_step : (e : IndexEntry) (es : List IndexEntry) (old mid new : ℕ → Map) → AreApart (e ∷ es) → mid e.index ≡ remove (old e.index) e.key → ((i : ℕ) → i ≢ e.index → mid i ≡ old i)
    → TakesOut es mid new → TakesOut (e ∷ es) old new
take_step e es old mid new apart here others takes = record {
  each = (takes.rest e.index apart.0 ∙ here, each_new (λ a b x. a ≡ remove b x.key) old mid new e.index es others apart.0 takes.each);
  rest = λ n off. takes.rest n off.1 ∙ others n (λ i. off.0 (sym i));
}

-- ---- one put in, and then the others

pub put_none : (maps : ℕ → Map) → PutsIn [] maps maps
put_none maps = record { each = tt; rest = λ n off. refl }

pub apart_last : (es : List IndexEntry) (e : IndexEntry) → AreApart (es ++ e ∷ []) → Off e.index es × AreApart es
apart_last [] e apart = (tt, tt)
apart_last (x ∷ es) e apart =
    let rest = apart_last es e apart.1 in
    let last : e.index ≢ x.index = (each_last (λ y. y.index ≢ x.index) es (e ∷ []) apart.0).0 in
    ((λ i. last (sym i), rest.0), (each_first (λ y. y.index ≢ x.index) es (e ∷ []) apart.0, rest.1))

pub put_step : (e : IndexEntry) (es : List IndexEntry) (old mid new : ℕ → Map) → AreApart (es ++ e ∷ []) → mid e.index ≡ insert (old e.index) e.key e.value → ((i : ℕ) → i ≢ e.index → mid i ≡ old i)
    → PutsIn es mid new → PutsIn (es ++ e ∷ []) old new
put_step e es old mid new apart here others puts =
    let parts = apart_last es e apart in
    record {
      each = each_append (λ x. new x.index ≡ insert (old x.index) x.key x.value) es (e ∷ [])
          (each_new (λ a b x. a ≡ insert b x.key x.value) old mid new e.index es others parts.0 puts.each)
          (puts.rest e.index parts.0 ∙ here, tt);
      rest = λ n off. puts.rest n (each_first (λ x. x.index ≢ n) es (e ∷ []) off) ∙ others n (λ i. (each_last (λ x. x.index ≢ n) es (e ∷ []) off).0 (sym i));
    }

-- ---- while entries are taken out

-- an index can be each one's
abbrev pub AreHeld : List IndexEntry → Type 0
AreHeld es = AllByRecursion (λ e. e.index ≤ last_index) es

-- some of the entries are left to be taken out
pub record Taking (es : List IndexEntry) (old now : ℕ → Map) (spare_old spare_now : ℕ → ℕ) (left : List IndexEntry) : Type 0 where
  pub apart : AreApart left
  pub there : AreThere now left
  pub out : (new : ℕ → Map) → TakesOut left now new → TakesOut es old new
  pub room : (n : ℕ) → spare_old n + how_many n es ≤ spare_now n + how_many n left
  pub count : AreHeld es → AreHeld left × (used now + sizes es ≡ used old + sizes left)

pub taking_start : (es : List IndexEntry) (old : ℕ → Map) (spare : ℕ → ℕ) → AreApart es → AreThere old es → Taking es old old spare spare es
taking_start es old spare apart there = record { apart = apart; there = there; out = λ new h. h; room = λ n. omega arith; count = λ h. (h, refl) }

pub taking_step : (es : List IndexEntry) (old now mid : ℕ → Map) (s0 s1 s2 : ℕ → ℕ) (e : IndexEntry) (left : List IndexEntry) → Taking es old now s0 s1 (e ∷ left)
    → mid e.index ≡ remove (now e.index) e.key → ((i : ℕ) → i ≢ e.index → mid i ≡ now i) → s1 e.index + 1 ≤ s2 e.index → ((i : ℕ) → i ≢ e.index → s1 i ≤ s2 i)
    → Taking es old mid s0 s2 left
taking_step es old now mid s0 s1 s2 e left t here others spare other_spares = record {
  apart = t.apart.1;
  there = there_still now mid e.index left others t.apart.0 t.there.1;
  out = λ new h. t.out new (take_step e left now mid new t.apart here others h);
  room = λ n. elim (cases_eq n e.index) [
    | inl p ↦ omega (arith, t.room n, many_cons n e left, many_at n e p, spare, ap s1 p, ap s2 p)
    | inr ne ↦ omega (arith, t.room n, many_cons n e left, many_other n e ne, other_spares n ne)
  ];
  count = λ h.
      let was = t.count h in
      let moved : used mid + map_size (now e.index) ≡ used now + map_size (mid e.index) = used_moved now mid e.index was.0.0 others in
      let less : map_size (remove (now e.index) e.key) + size e ≡ map_size (now e.index) = size_remove (now e.index) e.key e.value t.there.0 in
      let after : map_size (mid e.index) ≡ map_size (remove (now e.index) e.key) = ap map_size here in
      let sum : sizes (e ∷ left) ≡ size e + sizes left = sizes_cons e left in
      let same : used now + sizes es ≡ used old + sizes (e ∷ left) = was.1 in
      (was.0.1, omega (arith, moved, less, after, sum, same));
}

-- ---- while entries are put in

-- some of the entries are left to be put in, the last one first
pub record Putting (es : List IndexEntry) (old now : ℕ → Map) (spare_old spare_now : ℕ → ℕ) (limit : Option ℕ) (left : List IndexEntry) : Type 0 where
  pub apart : AreApart left
  pub absent : AreAbsent now left
  pub places : HavePlaces spare_now left
  pub held : CanHoldEach left
  pub within : left ≢ [] → IsWithin limit (used now + sizes left)
  pub put : (new : ℕ → Map) → PutsIn left now new → PutsIn es old new
  pub room : (n : ℕ) → spare_old n + how_many n left ≤ spare_now n + how_many n es

pub putting_start : (es : List IndexEntry) (old : ℕ → Map) (spare : ℕ → ℕ) (limit : Option ℕ) → AreApart es → AreAbsent old es → HavePlaces spare es → CanHoldEach es
    → (es ≢ [] → IsWithin limit (used old + sizes es)) → Putting es old old spare spare limit es
putting_start es old spare limit apart absent places held within =
    record { apart = apart; absent = absent; places = places; held = held; within = within; put = λ new h. h; room = λ n. omega arith }

not_none : (es : List IndexEntry) (e : IndexEntry) → es ++ e ∷ [] ≢ []
not_none [] e p = absurd (cc)
not_none (x ∷ es) e p = absurd (cc)

places_still : (s1 s2 : ℕ → ℕ) (n : ℕ) (es : List IndexEntry) → ((i : ℕ) → i ≢ n → s1 i ≤ s2 i) → Off n es → HavePlaces s1 es → HavePlaces s2 es
places_still s1 s2 n [] others off h = tt
places_still s1 s2 n (e ∷ es) others off h = (omega (arith, h.0, others e.index off.0), places_still s1 s2 n es others off.1 h.1)

-- the last one that is left can be put in
pub record CanPutLast (now : ℕ → Map) (spare : ℕ → ℕ) (limit : Option ℕ) (e : IndexEntry) : Type 0 where
  pub room : 1 ≤ spare e.index
  pub absent : get (now e.index) e.key ≡ None
  pub held : CanHold e.index e.key e.value
  pub within : IsWithin limit (used (with_map now e.index (insert (now e.index) e.key e.value)))

pub putting_last : (es : List IndexEntry) (old now : ℕ → Map) (s0 s1 : ℕ → ℕ) (limit : Option ℕ) (left : List IndexEntry) (e : IndexEntry) → Putting es old now s0 s1 limit (left ++ e ∷ [])
    → CanPutLast now s1 limit e
putting_last es old now s0 s1 limit left e p =
    let held : CanHold e.index e.key e.value = (each_last (λ (x : IndexEntry). CanHold x.index x.key x.value) left (e ∷ []) p.held).0 in
    let absent : get (now e.index) e.key ≡ None = (each_last (λ (x : IndexEntry). get (now x.index) x.key ≡ None) left (e ∷ []) p.absent).0 in
    let more : used (with_map now e.index (insert (now e.index) e.key e.value)) ≡ used now + size e = used_insert now e.index e.key e.value held.of_index absent in
    record {
      room = (each_last (λ (x : IndexEntry). 1 ≤ s1 x.index) left (e ∷ []) p.places).0;
      absent = absent;
      held = held;
      within = within_less limit (used now + sizes (left ++ e ∷ [])) (used (with_map now e.index (insert (now e.index) e.key e.value)))
          (omega (arith, more, sizes_last left e)) (p.within (not_none left e));
    }

pub putting_step : (es : List IndexEntry) (old now mid : ℕ → Map) (s0 s1 s2 : ℕ → ℕ) (limit : Option ℕ) (left : List IndexEntry) (e : IndexEntry) → Putting es old now s0 s1 limit (left ++ e ∷ [])
    → mid e.index ≡ insert (now e.index) e.key e.value → ((i : ℕ) → i ≢ e.index → mid i ≡ now i) → s1 e.index ≤ s2 e.index + 1 → ((i : ℕ) → i ≢ e.index → s1 i ≤ s2 i)
    → Putting es old mid s0 s2 limit left
putting_step es old now mid s0 s1 s2 limit left e p here others spare other_spares =
    let parts = apart_last left e p.apart in
    let can = putting_last es old now s0 s1 limit left e p in
    let moved : used mid + map_size (now e.index) ≡ used now + map_size (mid e.index) = used_moved now mid e.index can.held.of_index others in
    let more : map_size (insert (now e.index) e.key e.value) ≡ map_size (now e.index) + size e = size_insert (now e.index) e.key e.value can.absent in
    let after : map_size (mid e.index) ≡ map_size (insert (now e.index) e.key e.value) = ap map_size here in
    record {
      apart = parts.1;
      absent = absent_still now mid e.index left others parts.0 (each_first (λ (x : IndexEntry). get (now x.index) x.key ≡ None) left (e ∷ []) p.absent);
      places = places_still s1 s2 e.index left other_spares parts.0 (each_first (λ (x : IndexEntry). 1 ≤ s1 x.index) left (e ∷ []) p.places);
      held = each_first (λ (x : IndexEntry). CanHold x.index x.key x.value) left (e ∷ []) p.held;
      within = λ some. within_less limit (used now + sizes (left ++ e ∷ [])) (used mid + sizes left)
          (omega (arith, moved, more, after, sizes_last left e)) (p.within (not_none left e));
      put = λ new h. p.put new (put_step e left now mid new p.apart here others h);
      room = λ n. elim (cases_eq n e.index) [
        | inl q ↦ omega (arith, p.room n, many_last n left e, many_at n e q, spare, ap s1 q, ap s2 q)
        | inr ne ↦ omega (arith, p.room n, many_last n left e, many_other n e ne, other_spares n ne)
      ];
    }
