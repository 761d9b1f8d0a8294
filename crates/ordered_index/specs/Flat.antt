-- No clause of `run` rests on this module: it serves contracts between crates.
--
-- All entries of all indexes in one order: by index, and then by key.
use Rattle.std.specs.Prelude.{ℕ, ◌≡◌, ◌+◌, ◌-◌, ◌<◌, ◌≤◌, ◌⊎◌, ◌==◌, Bool, true, false, cond, Option, Some, None, List, [], ◌∷◌, ◌++◌, get_or, length}
use Rattle.std.specs.declared.cmp.Ordering.{Ordering}
use Rattle.std.specs.declared.cmp.Ordering.TheVariants.{Less, Equal, Greater}
use Rattle.std.specs.Ordering.{nat_cmp, is_eq, is_ge, is_gt, then_cmp, on}
use Rattle.std.specs.Cmp.Lexicographic.{slice_cmp}
use Rattle.iv_types.specs.Maps.{last_index}
use Rattle.slot_page.specs.Page.{Entry, no_entry, space, page_body}
use Rattle.ordered_index.specs.Row.{Leaf, no_leaf}

-- an index and a key
abbrev pub Place : Type 0
Place = ℕ × List ℕ

abbrev pub Item : Type 0
Item = Place × List ℕ

-- by index, and then by key
abbrev pub place_cmp : Place → Place → Ordering
place_cmp = then_cmp (on (λ p. p.0) nat_cmp) (on (λ p. p.1) (slice_cmp nat_cmp))

-- q is below each item
abbrev pub AllAbove : Place → List Item → Type 0
AllAbove q [] = Unit {0}
AllAbove q (x ∷ xs) = (place_cmp q x.0 ≡ Less) × AllAbove q xs

-- each item is below q
abbrev pub AllBelow : Place → List Item → Type 0
AllBelow q [] = Unit {0}
AllBelow q (x ∷ xs) = (place_cmp x.0 q ≡ Less) × AllBelow q xs

-- each item is below those after it
abbrev pub Rising : List Item → Type 0
Rising [] = Unit {0}
Rising (x ∷ xs) = AllAbove x.0 xs × Rising xs

-- the value at a place
abbrev pub value_at : Place → List Item → Option (List ℕ)
value_at q [] = None
value_at q (x ∷ xs) = cond (is_eq (place_cmp x.0 q)) (Some x.1) (value_at q xs)

-- big is small with one item more, in its place
pub record IsPut (q : Place) (v : List ℕ) (small big : List Item) : Type 0 where
  pub front : List Item
  pub back : List Item
  pub small_is : small ≡ front ++ back
  pub big_is : big ≡ front ++ (q, v) ∷ back
  pub below : AllBelow q front
  pub above : AllAbove q back

-- new is old with another value of as many bytes at a place
pub record IsSwapped (q : Place) (v : List ℕ) (old new : List Item) : Type 0 where
  pub before : List ℕ
  pub rest : List Item
  pub was : IsPut q before rest old
  pub is : IsPut q v rest new
  pub size : length before ≡ length v

-- the entries of one index
abbrev pub of_index : ℕ → List Item → List Entry
of_index i [] = []
of_index i (x ∷ xs) = cond (i == x.0.0) ((x.0.1, x.1) ∷ of_index i xs) (of_index i xs)

-- the entries of a leaf, with its index
abbrev pub tagged : ℕ → List Entry → List Item
tagged i [] = []
tagged i (e ∷ es) = ((i, e.0), e.1) ∷ tagged i es

-- all entries of leaves
abbrev pub items : List Leaf → List Item
items [] = []
items (l ∷ ls) = tagged l.0 l.1 ++ items ls

-- where a leaf begins
abbrev pub start : Leaf → Place
start l = (l.0, (get_or l.1 0 no_entry).0)

-- the bytes that leaves use
abbrev pub used_by : List Leaf → ℕ
used_by [] = 0
used_by (l ∷ ls) = space l.1 + used_by ls

-- indexes rise up to the last one, and neighbours of one index do not fit into one page
abbrev pub IsTight : List Leaf → Type 0
IsTight [] = Unit {0}
IsTight (l ∷ []) = l.0 ≤ last_index
IsTight (l ∷ m ∷ ls) = (l.0 ≤ m.0) × (l.0 ≡ m.0 → page_body < space l.1 + space m.1) × IsTight (m ∷ ls)

-- k is the number of leaves that begin at or below q
pub record Sought (q : Place) (ls : List Leaf) (k : ℕ) : Type 0 where
  pub inside : k ≤ length ls
  pub before : 0 < k → (place_cmp (start (get_or ls (k - 1) no_leaf)) q ≡ Less) ⊎ (place_cmp (start (get_or ls (k - 1) no_leaf)) q ≡ Equal)
  pub after : k < length ls → place_cmp (start (get_or ls k no_leaf)) q ≡ Greater

-- leaves in order, none of them empty
pub record IsForest (ls : List Leaf) : Type 0 where
  pub some : (j : ℕ) → j < length ls → 0 < length (get_or ls j no_leaf).1
  pub fits : (j : ℕ) → j < length ls → space (get_or ls j no_leaf).1 ≤ page_body
  pub rising : Rising (items ls)

-- neighbours of one index do not fit into one page, but for those that begin from a to before b
pub record TightOutside (a : ℕ) (b : ℕ) (ls : List Leaf) : Type 0 where
  pub each : (j : ℕ) → (j < a) ⊎ (b ≤ j) → j + 1 < length ls → (get_or ls j no_leaf).0 ≡ (get_or ls (j + 1) no_leaf).0 → page_body < space (get_or ls j no_leaf).1 + space (get_or ls (j + 1) no_leaf).1

-- neighbours of one index do not fit into one page, but for some about this leaf, if there is one
abbrev pub AreTightBut : Option ℕ → List Leaf → Type 0
AreTightBut None ls = TightOutside 0 0 ls
AreTightBut (Some k) ls = TightOutside (k - 2) (k + 2) ls

-- no index is above the last one
abbrev pub AllTop : List Item → Type 0
AllTop [] = Unit {0}
AllTop (x ∷ xs) = (x.0.0 ≤ last_index) × AllTop xs

-- the bytes that entries count for the limit
abbrev pub counted : List Item → ℕ
counted [] = 0
counted (x ∷ xs) = length x.0.1 + length x.1 + 8 + counted xs

-- ---- walks

-- the key is at another one or after it, or after it alone
abbrev pub passes : Bool → List ℕ → List ℕ → Bool
passes after key k = cond after (is_gt (slice_cmp nat_cmp k key)) (is_ge (slice_cmp nat_cmp k key))

-- the entries before a place fail a test, and the one there passes it
pub record Starts (test : List ℕ → Bool) (es : List Entry) (i : ℕ) : Type 0 where
  pub inside : i ≤ length es
  pub before : (j : ℕ) → j < i → test (get_or es j no_entry).0 ≡ false
  pub here : i < length es → test (get_or es i no_entry).0 ≡ true
