-- No clause of `run` rests on this module: it serves contracts between crates.
--
-- A page of 8,192 bytes as a list of entries.
use Rattle.std.specs.Prelude.{ℕ, ◌≡◌, ◌+◌, ◌*◌, ◌-◌, ◌<◌, ◌≤◌, List, [], ◌∷◌, ◌++◌, length, take, drop, get_or, map}
use Rattle.std.specs.List.{range_with_len}
use Rattle.slot_page.specs.Bytes.{number, number_at, Shows}

-- the bytes of a page
abbrev pub whole_page : ℕ
whole_page = 8192

-- those before its first entry
abbrev pub page_head : ℕ
page_head = 16

-- those for entries and their places
abbrev pub page_body : ℕ
page_body = 8176

-- what an entry takes besides its key and its value: their two lengths, and its place
abbrev pub entry_head : ℕ
entry_head = 6

-- the first byte of a leaf page
abbrev pub leaf_kind : ℕ
leaf_kind = 1

-- a key and a value
abbrev pub Entry : Type 0
Entry = List ℕ × List ℕ

abbrev pub no_entry : Entry
no_entry = ([], [])

-- an entry as it stands in a page
abbrev pub cell : Entry → List ℕ
cell e = number (length e.0) ++ (number (length e.1) ++ (e.0 ++ e.1))

-- entries one after another
abbrev pub heap : List Entry → List ℕ
heap [] = []
heap (e ∷ es) = cell e ++ heap es

-- the bytes that entries take in a page, their places included
abbrev pub space : List Entry → ℕ
space es = length (heap es) + 2 * length es

-- how many entries a page says that it has
abbrev pub count_of : List ℕ → ℕ
count_of page = number_at page 2

-- the index of a page
abbrev pub index_of : List ℕ → ℕ
index_of page = 65536 * number_at page 4 + number_at page 6

-- where entry i of a page begins
abbrev pub place_of : List ℕ → ℕ → ℕ
place_of page i = number_at page (8190 - 2 * i)

-- entry i of a page
unfoldable pub entry_at : List ℕ → ℕ → Entry
entry_at page i =
    let at = place_of page i in
    let k = number_at page at in
    (take k (drop (at + 4) page), take (number_at page (at + 2)) (drop (at + 4 + k) page))

-- the entries of a page
unfoldable pub entries : List ℕ → List Entry
entries page = map (entry_at page) (range_with_len 0 (count_of page))

-- a page of an index that holds these entries, one after another from byte 16
pub record Holds (page : List ℕ) (of : ℕ) (es : List Entry) : Type 0 where
  pub size : length page ≡ whole_page
  pub kind : get_or page 0 0 ≡ leaf_kind
  pub count : Shows page 2 (number (length es))
  pub of_index : index_of page ≡ of
  pub bytes : Shows page page_head (heap es)
  pub places : (i : ℕ) → i < length es → Shows page (8190 - 2 * i) (number (page_head + length (heap (take i es))))
  pub fits : space es ≤ page_body

-- entry i lies between the head and the entry places
pub record Lies (page : List ℕ) (i : ℕ) : Type 0 where
  pub inside : i < count_of page
  pub low : page_head ≤ place_of page i
  pub high : place_of page i + 4 + number_at page (place_of page i) + number_at page (place_of page i + 2) + 2 * count_of page ≤ whole_page

-- a leaf page whose entries can be read: each lies where entries are
pub record IsLeaf (page : List ℕ) : Type 0 where
  pub kind : get_or page 0 0 ≡ leaf_kind
  pub each : (i : ℕ) → i < count_of page → Lies page i

-- a page that holds its entries one after another
unfoldable pub IsPage : List ℕ → Type 0
IsPage page = Holds page (index_of page) (entries page)
