-- The entries of stored pages, and where each stands.
use Rattle.std.proofs.Common.{◌≡◌, inl, inr, ℕ, zero, suc, ◌<◌, List, [], ◌∷◌, map, length, get_or, Option, Some, None, refl, sym, ap, subst, ◌∙◌, arith}
use Rattle.std.specs.List.{Contains}
use Rattle.std.proofs.lemmas.Option.{none-some, same_Some}
use Rattle.std.proofs.lemmas.List.Elements.{Contains-append_left, Contains-append_right, Contains-append_cases}
use Rattle.slot_page.specs.Page.{Entry, no_entry, entries, index_of, IsPage, IsLeaf}
use Rattle.slot_page.proofs.Pages.{held, length-entries, packed_lies}
use Rattle.table_laws.specs.Place.{Place}
use Rattle.txn_log.specs.Stored.{PageEntry}
use Rattle.log_disk.specs.Bears.{page_entries, all_entries, AreLeaves, StandOnce}
use Rattle.ordered_index.specs.Drawn.{StandsIn}
use Rattle.txn_machine.proofs.Basics.{contains_none}
use Rattle.txn_machine.proofs.Holding.{contains_here, contains_next}
use Rattle.txn_log.proofs.Placing.{in_rest}
use Rattle.log_disk.proofs.Storing.{keyed, once_both}

abbrev pub Stored : Type 0
Stored = List (Option (List ℕ))

-- ---- what a list is mapped to, by places

at_place : {X Y : Type 0} (f : X → Y) (xs : List X) (d : X) (y : Y) → Contains (map f xs) y → (i : ℕ) × (i < length xs) × (f (get_or xs i d) ≡ y)
at_place f [] d y c = absurd (contains_none y c)
at_place f (x ∷ xs) d y c = in_rest (f x) y (map f xs) c
    (λ same. (0, omega arith, same))
    (λ rest. let one = at_place f xs d y rest in (suc one.0, omega (arith, one.1), one.2))

place_in : {X Y : Type 0} (f : X → Y) (xs : List X) (d : X) (i : ℕ) → i < length xs → Contains (map f xs) (f (get_or xs i d))
place_in f [] d i lt = absurd (omega (arith, lt))
place_in f (x ∷ xs) d zero lt = contains_here (f x) (map f xs)
place_in f (x ∷ xs) d (suc i) lt = contains_next (f x) (map f xs) (f (get_or xs i d)) (place_in f xs d i (omega (arith, lt)))

-- ---- where an entry stands

abbrev as_entry : ℕ → Entry → PageEntry
as_entry of e = ((of, e.0), e.1)

stands_next : (first : Option (List ℕ)) (rest : Stored) (index : ℕ) (key value : List ℕ) (p i : ℕ) → StandsIn rest index key value p i → StandsIn (first ∷ rest) index key value (suc p) i
stands_next first rest index key value p i s = record { page = s.page; there = s.there; of = s.of; inside = s.inside; entry = s.entry }

stands_here : (page : List ℕ) (rest : Stored) (i : ℕ) → i < length (entries page) → StandsIn (Some page ∷ rest) (index_of page) (get_or (entries page) i no_entry).0 (get_or (entries page) i no_entry).1 0 i
stands_here page rest i lt = record { page = page; there = refl; of = refl; inside = lt; entry = refl }

in_page : (page : List ℕ) (rest : Stored) (e : PageEntry) → Contains (page_entries page) e → (i : ℕ) × StandsIn (Some page ∷ rest) e.0.0 e.0.1 e.1 0 i
in_page page rest e c =
    let one = at_place (as_entry (index_of page)) (entries page) no_entry e c in
    (one.0, subst (λ (f : PageEntry). StandsIn (Some page ∷ rest) f.0.0 f.0.1 f.1 0 one.0) one.2 (stands_here page rest one.0 one.1))

pub stands_there : (stored : Stored) (e : PageEntry) → Contains (all_entries stored) e → (p : ℕ) × (i : ℕ) × StandsIn stored e.0.0 e.0.1 e.1 p i
stands_there [] e c = absurd (contains_none e c)
stands_there (None ∷ rest) e c = let one = stands_there rest e c in (suc one.0, one.1, stands_next None rest e.0.0 e.0.1 e.1 one.0 one.1 one.2)
stands_there (Some page ∷ rest) e c = elim (Contains-append_cases (page_entries page) (all_entries rest) e c) [
  | inl here ↦ let one = in_page page rest e here in (0, one.0, one.1)
  | inr later ↦ let one = stands_there rest e later in (suc one.0, one.1, stands_next (Some page) rest e.0.0 e.0.1 e.1 one.0 one.1 one.2)
]

of_page : (page other : List ℕ) (index : ℕ) (key value : List ℕ) (i : ℕ) → page ≡ other → index_of other ≡ index → i < length (entries other) → get_or (entries other) i no_entry ≡ (key, value) → Contains (page_entries page) ((index, key), value)
of_page page other index key value i same of inside entry =
    subst (λ (x : List ℕ). Contains (page_entries x) ((index, key), value)) (sym same)
    (subst (Contains (page_entries other)) (λ t. as_entry (of t) (entry t)) (place_in (as_entry (index_of other)) (entries other) no_entry i inside))

pub among_all : (stored : Stored) (index : ℕ) (key value : List ℕ) (p i : ℕ) → StandsIn stored index key value p i → Contains (all_entries stored) ((index, key), value)
among_all [] index key value p i s = absurd (none-some s.page s.there)
among_all (None ∷ rest) index key value zero i s = absurd (none-some s.page s.there)
among_all (None ∷ rest) index key value (suc p) i s = among_all rest index key value p i (record { page = s.page; there = s.there; of = s.of; inside = s.inside; entry = s.entry })
among_all (Some page ∷ rest) index key value zero i s =
    Contains-append_left (page_entries page) (all_entries rest) ((index, key), value) (of_page page s.page index key value i (same_Some page s.page s.there) s.of s.inside s.entry)
among_all (Some page ∷ rest) index key value (suc p) i s =
    Contains-append_right (page_entries page) (all_entries rest) ((index, key), value)
    (among_all rest index key value p i (record { page = s.page; there = s.there; of = s.of; inside = s.inside; entry = s.entry }))

-- ---- leaves

page_leaf : (page : List ℕ) → IsPage page → IsLeaf page
page_leaf page h = record { kind = (held page h).kind; each = λ i lt. packed_lies page i h (let n = length-entries page in omega (arith, lt, n)) }

pub all_leaves : (stored : Stored) → ((p : ℕ) (page : List ℕ) → get_or stored p None ≡ Some page → IsPage page) → AreLeaves stored
all_leaves [] packed = tt
all_leaves (None ∷ rest) packed = all_leaves rest (λ p page there. packed (suc p) page there)
all_leaves (Some page ∷ rest) packed = (page_leaf page (packed 0 page refl), all_leaves rest (λ p page there. packed (suc p) page there))

-- ---- no two of one index and key

-- entries of one page whose keys differ
keys_once : (of : ℕ) (es : List Entry) → ((i j : ℕ) → i < length es → j < length es → (get_or es i no_entry).0 ≡ (get_or es j no_entry).0 → i ≡ j) → StandOnce (map (as_entry of) es)
keys_once of [] differ = tt
keys_once of (e ∷ es) differ = (
  (λ c.
      let one = keyed (map (as_entry of) es) (of, e.0) c in
      let at = at_place (as_entry of) es no_entry one.0 one.1 in
      let same : suc at.0 ≡ 0 = differ (suc at.0) 0 (omega (arith, at.1)) (omega arith) (ap (λ (f : PageEntry). f.0.1) at.2 ∙ ap (λ (k : Place). k.1) one.2) in
      omega (arith, same)),
  keys_once of es (λ i j li lj same. let next : suc i ≡ suc j = differ (suc i) (suc j) (omega (arith, li)) (omega (arith, lj)) same in omega (arith, next)),
)

-- each index and key stands in one place
abbrev pub AreOnce : Stored → Type 0
AreOnce stored = (index : ℕ) (key value other : List ℕ) (p i q j : ℕ) → StandsIn stored index key value p i → StandsIn stored index key other q j → (p ≡ q) × (i ≡ j)

once_next : (first : Option (List ℕ)) (rest : Stored) → AreOnce (first ∷ rest) → AreOnce rest
once_next first rest once index key value other p i q j s t =
    let both = once index key value other (suc p) i (suc q) j (stands_next first rest index key value p i s) (stands_next first rest index key other q j t) in
    (omega (arith, both.0), both.1)

page_once : (page : List ℕ) (rest : Stored) → AreOnce (Some page ∷ rest) → StandOnce (page_entries page)
page_once page rest once = keys_once (index_of page) (entries page) (λ i j li lj same.
    (once (index_of page) (get_or (entries page) i no_entry).0 (get_or (entries page) i no_entry).1 (get_or (entries page) j no_entry).1 0 i 0 j (stands_here page rest i li)
    (subst (λ k. StandsIn (Some page ∷ rest) (index_of page) k (get_or (entries page) j no_entry).1 0 j) (sym same) (stands_here page rest j lj))).1)

pub all_once : (stored : Stored) → AreOnce stored → StandOnce (all_entries stored)
all_once [] once = tt
all_once (None ∷ rest) once = all_once rest (once_next None rest once)
all_once (Some page ∷ rest) once = once_both (page_entries page) (all_entries rest) (page_once page rest once) (all_once rest (once_next (Some page) rest once)) (λ e f c d same.
    let one = in_page page rest e c in
    let two = stands_there rest f d in
    let both = once e.0.0 e.0.1 e.1 f.1 0 one.0 (suc two.0) two.1 one.1
    (subst (λ (k : Place). StandsIn (Some page ∷ rest) k.0 k.1 f.1 (suc two.0) two.1) (sym same) (stands_next (Some page) rest f.0.0 f.0.1 f.1 two.0 two.1 two.2)) in
    omega (arith, both.0))
