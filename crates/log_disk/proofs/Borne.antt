-- Bytes bear one image.
use Rattle.std.proofs.Common.{◌≡◌, inl, inr, ℕ, zero, suc, ◌+◌, ◌^◌, ◌<◌, ◌≤◌, List, [], ◌∷◌, ◌++◌, map, length, drop, Option, Some, None, Ok, refl, sym, ap, subst, ◌∙◌, arith, length-append}
use Rattle.std.specs.Prelude.{reverse, slice_get, Result}
use Rattle.std.specs.Option.{option_map, IfSome}
use Rattle.std.specs.List.{Contains, AllByRecursion, flat_map}
use Rattle.std.proofs.lemmas.Option.{none-some, slice_get_within}
use Rattle.std.proofs.lemmas.List.{reverse-append}
use Rattle.std.proofs.lemmas.List.Elements.{recursion_from_All}
use Rattle.byteorder.specs.Endian.{big_bytes, big_number}
use Rattle.byteorder.specs.Numbers.{big_number-reads_back}
use Rattle.iv_types.specs.declared.value.Kind.{Kind}
use Rattle.iv_types.specs.Encoding.{FitAll, row_bytes}
use Rattle.row_codec.proofs.Formats.{one_spelling}
use Rattle.row_codec.proofs.RowFormat.{row_format}
use Rattle.table_laws.specs.Place.{Place}
use Rattle.iv_meaning.specs.Schema.{Schema, numbered, kinds_of_table}
use Rattle.iv_meaning.specs.Database.{Row}
use Rattle.page_store.specs.Image as page
use Rattle.txn_machine.specs.Deltas.{RowChange}
use Rattle.txn_machine.specs.Records as machine
use Rattle.txn_machine.specs.Records.{Record}
use Rattle.log_records.specs.declared.record.Scanned.{Scanned}
use Rattle.log_records.specs.Spelling.{spelling}
use Rattle.log_records.specs.Area.{Entry, group, block, at_places, laid, unplaced}
use Rattle.log_records.specs.Scan.{Fault, scanned}
use Rattle.txn_log.specs.Replay.{Pages}
use Rattle.txn_log.specs.Appended.{Numbered}
use Rattle.txn_log.specs.Groups.{after_of}
use Rattle.txn_log.specs.Stored.{PageEntry, StandFor, Define, AreParts}
use Rattle.txn_log.proofs.Printed.{one_statement}
use Rattle.txn_log.proofs.Standing.{one_stored, row_numbered, total_numbered}
use Rattle.log_disk.specs.Spelled.{row_in, in_bytes, spelled, IsSpellable, AreSpellable, LeadTo, AreSpelled}
use Rattle.log_disk.specs.Bears.{all_entries, AreStoredAs, OneImageLaw}
use Rattle.log_disk.proofs.Areas.{some_image, block_long}
use Rattle.log_disk.proofs.Spelling.{leads_once}

-- ---- lists by what stands in them

some_same : {X : Type 0} (x y : X) → Some x ≡ Some y → x ≡ y
some_same x y e = cc

same_by_get : {X : Type 0} (xs ys : List X) → ((i : ℕ) (x : X) → slice_get xs i ≡ Some x → slice_get ys i ≡ Some x) → ((i : ℕ) (y : X) → slice_get ys i ≡ Some y → slice_get xs i ≡ Some y) → xs ≡ ys
same_by_get [] [] f g = refl
same_by_get [] (y ∷ ys) f g = absurd (none-some y (g 0 y refl))
same_by_get (x ∷ xs) [] f g = absurd (none-some x (f 0 x refl))
same_by_get {X = X} (x ∷ xs) (y ∷ ys) f g =
    let first : y ≡ x = some_same y x (f 0 x refl) in
    let rest : xs ≡ ys = same_by_get xs ys (λ i. f (suc i)) (λ i. g (suc i)) in
    λ t. sym first t ∷ rest t

pub all_get : {X : Type 0} (P : X → Type 0) (xs : List X) (i : ℕ) (x : X) → AllByRecursion P xs → slice_get xs i ≡ Some x → P x
all_get P [] i x h e = absurd (none-some x e)
all_get P (y ∷ ys) zero x h e = subst P (some_same y x e) h.0
all_get P (y ∷ ys) (suc i) x h e = all_get P ys i x h.1 e

-- ---- definitions

same_part_key : (a b i j : ℕ) → a < 2 ^ 32 → b < 2 ^ 32 → i < 2 ^ 16 → j < 2 ^ 16 → big_bytes 4 a ++ big_bytes 2 i ≡ big_bytes 4 b ++ big_bytes 2 j → (a ≡ b) × (i ≡ j)
same_part_key a b i j fa fb fi fj e = (
  sym (big_number-reads_back 4 a (big_bytes 2 i) fa) ∙ ap (big_number 4) e ∙ big_number-reads_back 4 b (big_bytes 2 j) fb,
  sym (big_number-reads_back 2 i [] fi) ∙ ap (λ (bs : List ℕ). big_number 2 (drop 4 bs)) e ∙ big_number-reads_back 2 j [] fj,
)

has_part : (parts : List (List ℕ)) → AreParts parts → (part : List ℕ) × (slice_get parts 0 ≡ Some part)
has_part [] h = absurd h
has_part (part ∷ []) h = (part, refl)
has_part (part ∷ other ∷ parts) h = (part, refl)

module _ (stored : List (Option (List ℕ))) (p q : Pages) (a : AreStoredAs stored p) (b : AreStoredAs stored q) where
  -- a part of one is a part of the other, at the same place
  part_found : (i : ℕ) (parts : List (List ℕ)) (j : ℕ) (part : List ℕ) → slice_get a.texts i ≡ Some parts → slice_get parts j ≡ Some part
      → (others : List (List ℕ)) × (slice_get b.texts i ≡ Some others) × (slice_get others j ≡ Some part)
  part_found i parts j part at_i at_j =
      let e : PageEntry = ((0, big_bytes 4 (i + 1) ++ big_bytes 2 j), part) in
      let among : Contains (all_entries stored) e = (a.stand e).1 (inr (record { index = refl; before = i; parts = parts; parts_are = at_i; part = j; value = at_j; key = refl })) in
      elim ((b.stand e).0 among) [
        | inl (inl row) ↦ absurd (row_numbered q.db.schema e.0 row.0 (b.proper.sound.rows e.0 row.0 row.1) refl)
        | inl (inr total) ↦ absurd (total_numbered q.db.schema e.0 total.0 (b.proper.stored e.0 total.0 total.1) refl)
        | inr found ↦ (
            let low = slice_get_within a.texts i parts at_i in
            let high = slice_get_within b.texts found.before found.parts found.parts_are in
            let below : length parts ≤ 2 ^ 16 = all_get (λ ps. length ps ≤ 2 ^ 16) a.texts i parts a.short at_i in
            let above : length found.parts ≤ 2 ^ 16 = all_get (λ ps. length ps ≤ 2 ^ 16) b.texts found.before found.parts b.short found.parts_are in
            let here = slice_get_within parts j part at_j in
            let there = slice_get_within found.parts found.part part found.value in
            let same = same_part_key (i + 1) (found.before + 1) j found.part (omega (arith, low, a.few)) (omega (arith, high, b.few)) (omega (arith, here, below)) (omega (arith, there, above)) found.key in
            let first : found.before ≡ i = omega (arith, same.0) in
            (found.parts, subst (λ n. slice_get b.texts n ≡ Some found.parts) first found.parts_are, subst (λ n. slice_get found.parts n ≡ Some part) (sym same.1) found.value))
      ]

pub texts_found : (stored : List (Option (List ℕ))) (p q : Pages) (a : AreStoredAs stored p) (b : AreStoredAs stored q) (i : ℕ) (parts : List (List ℕ)) → slice_get a.texts i ≡ Some parts → slice_get b.texts i ≡ Some parts
texts_found stored p q a b i parts at_i =
    let one = has_part parts (all_get AreParts a.texts i parts (recursion_from_All AreParts a.texts a.define.0) at_i) in
    let other = part_found stored p q a b i parts 0 one.0 at_i one.1 in
    let same : parts ≡ other.0 = same_by_get parts other.0
    (λ j part at_j. let f = part_found stored p q a b i parts j part at_i at_j in subst (λ (ps : List (List ℕ)). slice_get ps j ≡ Some part) (some_same f.0 other.0 (sym f.1 ∙ other.1)) f.2)
    (λ j part at_j. let f = part_found stored q p b a i other.0 j part other.1 at_j in subst (λ (ps : List (List ℕ)). slice_get ps j ≡ Some part) (some_same f.0 parts (sym f.1 ∙ at_i)) f.2) in
    subst (λ (ps : List (List ℕ)). slice_get b.texts i ≡ Some ps) (sym same) other.1

pub one_texts : (stored : List (Option (List ℕ))) (p q : Pages) (a : AreStoredAs stored p) (b : AreStoredAs stored q) → a.texts ≡ b.texts
one_texts stored p q a b = same_by_get a.texts b.texts (texts_found stored p q a b) (texts_found stored q p b a)

pub one_pages : (stored : List (Option (List ℕ))) (p q : Pages) → AreStoredAs stored p → AreStoredAs stored q → p.db.number ≡ q.db.number → p ≡ q
one_pages stored p q a b number =
    let texts : a.texts ≡ b.texts = one_texts stored p q a b in
    one_stored one_statement (all_entries stored) b.texts p q (subst (λ ts. Define ts p.db.schema) texts a.define) b.define a.proper b.proper number
    (subst (λ ts. StandFor (all_entries stored) ts p) texts a.stand) b.stand

-- ---- records

row_once : (kinds : List Kind) (a b : Option Row) → IfSome a (FitAll kinds) → IfSome b (FitAll kinds) → option_map (row_bytes kinds) a ≡ option_map (row_bytes kinds) b → a ≡ b
row_once kinds None None f g e = refl
row_once kinds None (Some row) f g e = absurd (none-some (row_bytes kinds row) e)
row_once kinds (Some row) None f g e = absurd (none-some (row_bytes kinds row) (sym e))
row_once kinds (Some row) (Some other) f g e = ap (λ (r : Row). Some r) (one_spelling row_format kinds row other f g (some_same (row_bytes kinds row) (row_bytes kinds other) e))

change_once : (objects : Schema) (c d : RowChange) → IsSpellable objects (machine.Write 0 c) → IsSpellable objects (machine.Write 0 d) → c.key ≡ d.key
    → row_in objects c.key c.before ≡ row_in objects d.key d.before → row_in objects c.key c.after ≡ row_in objects d.key d.after → c ≡ d
change_once objects c d f g key before after =
    let kinds : List Kind = kinds_of_table (numbered objects d.key.0) in
    let fit : IfSome c.before (FitAll kinds) × IfSome c.after (FitAll kinds) =
    subst (λ (k : Place). IfSome c.before (FitAll (kinds_of_table (numbered objects k.0))) × IfSome c.after (FitAll (kinds_of_table (numbered objects k.0)))) key f in
    let b : c.before ≡ d.before = row_once kinds c.before d.before fit.0 g.0 (ap (λ (k : Place). row_in objects k c.before) (sym key) ∙ before) in
    let a : c.after ≡ d.after = row_once kinds c.after d.after fit.1 g.1 (ap (λ (k : Place). row_in objects k c.after) (sym key) ∙ after) in
    λ t. record { key = key t; before = b t; after = a t }

record_once : (objects : Schema) (a b : Record) → IsSpellable objects a → IsSpellable objects b → in_bytes objects a ≡ in_bytes objects b → a ≡ b
record_once objects (machine.Write t c) (machine.Write u d) f g e =
    let n : c.key.0 ≡ d.key.0 = cc in
    let k : c.key.1 ≡ d.key.1 = cc in
    let txn : t ≡ u = cc in
    let same : c ≡ d = change_once objects c d f g (λ x. (n x, k x)) (cc) (cc) in
    λ x. machine.Write (txn x) (same x)
record_once objects (machine.Delta t c) (machine.Delta u d) f g e =
    let txn : t ≡ u = cc in
    let v : c.view ≡ d.view = cc in
    let k : c.group ≡ d.group = cc in
    let n : c.count ≡ d.count = cc in
    let s : c.sums ≡ d.sums = cc in
    λ x. machine.Delta (txn x) (record { view = v x; group = k x; count = n x; sums = s x })
record_once objects (machine.Ghost p) (machine.Ghost q) f g e =
    let n : p.0 ≡ q.0 = cc in
    let k : p.1 ≡ q.1 = cc in
    λ x. machine.Ghost (n x, k x)
record_once objects (machine.Clean p) (machine.Clean q) f g e =
    let n : p.0 ≡ q.0 = cc in
    let k : p.1 ≡ q.1 = cc in
    λ x. machine.Clean (n x, k x)
record_once objects (machine.Undo t n) (machine.Undo u m) f g e = cc
record_once objects (machine.Commit t n s) (machine.Commit u m r) f g e = cc
record_once objects (machine.Abort t) (machine.Abort u) f g e = cc
record_once objects (machine.Definition n s x) (machine.Definition m r y) f g e = cc
record_once objects a b f g e = absurd (cc)

pub entry_once : (objects : Schema) (r q : Numbered) → IsSpellable objects r.of → IsSpellable objects q.of → spelled objects r ≡ spelled objects q → r ≡ q
entry_once objects r q f g e =
    let number : r.number ≡ q.number = ap (λ (x : Entry). x.number) e in
    let of : r.of ≡ q.of = record_once objects r.of q.of f g (ap (λ (x : Entry). x.entry) e) in
    λ t. record { number = number t; of = of t }

cons_head : {X : Type 0} (x y : X) (xs ys : List X) → x ∷ xs ≡ y ∷ ys → x ≡ y
cons_head x y xs ys e = cc

cons_tail : {X : Type 0} (x y : X) (xs ys : List X) → x ∷ xs ≡ y ∷ ys → xs ≡ ys
cons_tail x y xs ys e = cc

carried_once : (objects : Schema) (rs qs : List Numbered) → AreSpellable objects rs → AreSpellable objects qs → map (spelled objects) rs ≡ map (spelled objects) qs → rs ≡ qs
carried_once objects [] [] f g e = refl
carried_once objects [] (q ∷ qs) f g e = absurd (cc)
carried_once objects (r ∷ rs) [] f g e = absurd (cc)
carried_once objects (r ∷ rs) (q ∷ qs) f g e =
    let first : r ≡ q = entry_once objects r q f.0 g.0 (cons_head (spelled objects r) (spelled objects q) (map (spelled objects) rs) (map (spelled objects) qs) e) in
    let rest : rs ≡ qs = carried_once objects rs qs f.1 g.1 (cons_tail (spelled objects r) (spelled objects q) (map (spelled objects) rs) (map (spelled objects) qs) e) in
    λ t. first t ∷ rest t

spelled_once : (objects : Schema) (rs qs : List Numbered) (es : List Entry) → AreSpelled objects rs es → AreSpelled objects qs es → rs ≡ qs
spelled_once objects [] [] [] h k = refl
spelled_once objects [] (q ∷ qs) [] h k = absurd k
spelled_once objects (r ∷ rs) qs [] h k = absurd h
spelled_once objects [] qs (e ∷ es) h k = absurd h
spelled_once objects (r ∷ rs) [] (e ∷ es) h k = absurd k
spelled_once objects (r ∷ rs) (q ∷ qs) (e ∷ es) h k =
    let rest : rs ≡ qs = spelled_once objects rs qs es h.0 k.0 in
    let before : h.1.0 ≡ k.1.0 = leads_once objects qs h.1.0 k.1.0 (subst (λ xs. LeadTo objects xs h.1.0) rest h.1.1) k.1.1 in
    let first : r ≡ q = entry_once k.1.0 r q (subst (λ o. IsSpellable o r.of) before h.1.2) k.1.2 (ap (λ o. spelled o r) (sym before) ∙ (sym h.1.3 ∙ k.1.3)) in
    λ t. first t ∷ rest t

-- ---- blocks

abbrev pub flat : List (List Entry) → List Entry
flat groups = flat_map (λ es. es) groups

pub placed_again : (place : ℕ) (es : List Entry) → map unplaced (at_places place es) ≡ es
placed_again place [] = refl
placed_again place (e ∷ es) = ap (λ (xs : List Entry). e ∷ xs) (placed_again (place + length (spelling e.number e.entry)) es)

pub map_both : (xs ys : List Scanned) → map unplaced (xs ++ ys) ≡ map unplaced xs ++ map unplaced ys
map_both [] ys = refl
map_both (x ∷ xs) ys = ap (λ (zs : List Entry). unplaced x ∷ zs) (map_both xs ys)

pub laid_again : (place : ℕ) (groups : List (List Entry)) → map unplaced (laid place groups) ≡ flat groups
laid_again place [] = refl
laid_again place (g ∷ gs) =
    map_both (at_places (place + 5) g) (laid (place + (5 + length (group g))) gs)
    ∙ (λ t. placed_again (place + 5) g t ++ laid_again (place + (5 + length (group g))) gs t)

pub same_after : (gs : List (List Entry)) → after_of gs ≡ reverse (flat gs)
same_after [] = refl
same_after (g ∷ gs) = ap (λ (es : List Entry). es ++ reverse g) (same_after gs) ∙ sym (reverse-append g (flat gs))

longer : (e : Entry) (es : List Entry) → length (group (e ∷ es)) ≡ length (spelling e.number e.entry) + length (group es)
longer e es = length-append (spelling e.number e.entry) (group es)

some_bytes : (e : Entry) → 0 < length (spelling e.number e.entry)
some_bytes e = omega arith

-- a first block of so many bytes is one
pub first_once : (es fs xs ys : List Entry) → es ++ xs ≡ fs ++ ys → length (group es) ≡ length (group fs) → (es ≡ fs) × (xs ≡ ys)
first_once [] [] xs ys e long = (refl, e)
first_once [] (f ∷ fs) xs ys e long = absurd (omega (arith, long, longer f fs, some_bytes f))
first_once (e ∷ es) [] xs ys same long = absurd (omega (arith, long, longer e es, some_bytes e))
first_once (e ∷ es) (f ∷ fs) xs ys same long =
    let head : e ≡ f = cons_head e f (es ++ xs) (fs ++ ys) same in
    let rest = first_once es fs xs ys (cons_tail e f (es ++ xs) (fs ++ ys) same) (omega (arith, long, longer e es, longer f fs, ap (λ (x : Entry). length (spelling x.number x.entry)) head)) in
    ((λ t. head t ∷ rest.0 t), rest.1)

pub ok_same : (xs ys : List Scanned) → ◌≡◌ {A = Result (List Scanned) Fault} (Ok xs) (Ok ys) → xs ≡ ys
ok_same xs ys e = cc

pub one_image : OneImageLaw
one_image room count c i j a b =
    let here : a.here ≡ b.here = some_image (sym a.means ∙ b.means) in
    let number : i.pages.db.number ≡ j.pages.db.number = sym a.pages.commits ∙ ap (λ (x : page.Image). x.commits) here ∙ b.pages.commits in
    let pages : i.pages ≡ j.pages = one_pages b.here.stored i.pages j.pages (subst (λ (x : page.Image). AreStoredAs x.stored i.pages) here a.pages.stored) b.pages.stored number in
    let all : flat (a.first ∷ a.others) ≡ flat (b.first ∷ b.others) =
    sym (laid_again 0 (a.first ∷ a.others)) ∙ ap (map unplaced) (ok_same (laid 0 (a.first ∷ a.others)) (laid 0 (b.first ∷ b.others)) (sym a.scan ∙ (ap (λ (x : page.Image). scanned x.log) here ∙ b.scan)))
    ∙ laid_again 0 (b.first ∷ b.others) in
    let ends : length (block (group a.first)) ≡ length (block (group b.first)) = sym a.records.redo ∙ ap (λ (x : page.Image). x.redo) here ∙ b.records.redo in
    let split = first_once a.first b.first (flat a.others) (flat b.others) all (omega (arith, ends, block_long (group a.first), block_long (group b.first))) in
    let objects : i.pages.db.schema ≡ j.pages.db.schema = ap (λ (x : Pages). x.db.schema) pages in
    let carried : i.carried ≡ j.carried = carried_once j.pages.db.schema i.carried j.carried (subst (λ o. AreSpellable o i.carried) objects a.records.fit) b.records.fit
    (ap (λ o. map (spelled o) i.carried) (sym objects) ∙ (sym a.records.carried ∙ (ap reverse split.0 ∙ b.records.carried))) in
    let others : after_of a.others ≡ after_of b.others = same_after a.others ∙ (ap reverse split.1 ∙ sym (same_after b.others)) in
    let after : i.after ≡ j.after = spelled_once j.pages.db.schema i.after j.after (after_of b.others)
    (subst (λ o. AreSpelled o i.after (after_of b.others)) objects (subst (AreSpelled i.pages.db.schema i.after) others a.records.after)) b.records.after in
    λ t. record { pages = pages t; carried = carried t; after = after t }
