-- The stored pages: rule 9.
use Rattle.std.proofs.Common.{◌≡◌, inl, inr, Bool, true, false, ℕ, zero, suc, ◌+◌, ◌<◌, ◌≤◌, List, [], ◌∷◌, get_or, refl, sym, ◌∙◌, ap, subst, arith}
use Rattle.std.specs.List.{range_with_len}
use Rattle.std.proofs.lemmas.Bool.{false≢true}
use Rattle.disk_io.specs.Disk.{part}
use Rattle.disk_io.specs.Bytes.{byte-part}
use Rattle.page_store.specs.Image.{header_at, slot_at, map_byte, named}
use Rattle.slot_page.specs.Page.{IsLeaf}
use Rattle.txn_log.specs.Damaged.{Header, Page, Device, FirstBad, pages_formed}
use Rattle.txn_log.proofs.Finding.{by_number}
use Rattle.log_disk.specs.Found.{IsFound, IsFoundIn, IsFoundBy, IsPageOf, StandsFirst, ArePagesOf}
use Rattle.image_finding.specs.declared.fault.BadImage.{BadImage}
use Rattle.image_finding.specs.Rules.{IsRefused}
use Rattle.image_finding.specs.Headers.{IsLiveHeader, StandsUpTo, map_in}
use Rattle.image_finding.specs.Maps.{IsLeafIf, AreLeaves, IsNoLeaf}
use Rattle.image_finding.proofs.Passing.{passes_next, refused_next}

abbrev IsUnformed : List Page → Page → Type 0
IsUnformed earlier p = p.formed ≡ false

not_true : (b : Bool) → (b ≡ true → ⊥) → b ≡ false
not_true true h = absurd (h refl)
not_true false h = refl

formed_leaf : (place : ℕ) (bytes : List ℕ) (p : Page) → IsPageOf place bytes p → IsLeaf bytes → p.formed ≡ false → ⊥
formed_leaf place bytes p is leaf e = false≢true (sym e ∙ is.leaf.1 leaf)

module _ (room k : ℕ) (c : List ℕ) where
  -- the leaves below a page that is none
  abbrev LeavesFrom : ℕ → ℕ → Type 0
  LeavesFrom from to = (m : ℕ) → from ≤ m → m < to → IsLeafIf (named room m (map_byte k m c) c)

  -- the first page that is no leaf
  abbrev FirstOf : ℕ → ℕ → List Page → List Page → Type 0
  FirstOf n slot earlier found = (p : Page) × (p.place ≡ slot_at room n slot) × FirstBad IsUnformed earlier found p

  here_first : (n slot m : ℕ) → m ≡ suc slot → (IsLeaf (part (slot_at room n slot) 8192 c) → ⊥) → (Others : List Page → Type 0) (earlier found : List Page) → StandsFirst room n m c Others found → FirstOf n slot earlier found
  here_first n slot zero is bad Others earlier found h = absurd (omega (arith, is))
  here_first n slot (suc j) is bad Others earlier [] h = absurd h
  here_first n slot (suc j) is bad Others earlier (f ∷ found) h =
      let same : j ≡ slot = omega (arith, is) in
      (f, h.0.at ∙ ap (slot_at room n) same, inl (refl, not_true f.formed (λ e. bad (subst (λ i. IsLeaf (part (slot_at room n i) 8192 c)) same (h.0.leaf.0 e)))))

  later_first : (n slot p m : ℕ) (Others : List Page → Type 0) → IsLeafIf (named room p m c) → ((earlier found : List Page) → Others found → FirstOf n slot earlier found)
      → (earlier found : List Page) → StandsFirst room p m c Others found → FirstOf n slot earlier found
  later_first n slot p zero Others leaf next earlier found h = next earlier found h
  later_first n slot p (suc j) Others leaf next earlier [] h = absurd h
  later_first n slot p (suc j) Others leaf next earlier (f ∷ found) h =
      let rest = next (f ∷ earlier) found h.1 in
      (rest.0, rest.1, inr (formed_leaf (slot_at room p j) (part (slot_at room p j) 8192 c) f h.0 leaf, rest.2))

  first_no_leaf : (len from n slot : ℕ) → from ≤ n → n < from + len → map_byte k n c ≡ suc slot → (IsLeaf (part (slot_at room n slot) 8192 c) → ⊥) → LeavesFrom from n
      → (earlier found : List Page) → ArePagesOf room k c (range_with_len from len) found → FirstOf n slot earlier found
  first_no_leaf zero from n slot low high byte bad leaves earlier found h = absurd (omega (arith, low, high))
  first_no_leaf (suc len) from n slot low high byte bad leaves earlier found h =
      by_number from n
      (λ same. here_first n slot (map_byte k n c) byte bad (ArePagesOf room k c (range_with_len (from + 1) len)) earlier found
      (subst (λ p. StandsFirst room p (map_byte k p c) c (ArePagesOf room k c (range_with_len (from + 1) len)) found) same h))
      (λ other. later_first n slot from (map_byte k from c) (ArePagesOf room k c (range_with_len (from + 1) len)) (leaves from (omega arith) (omega (arith, low, other)))
      (λ former rest g. first_no_leaf len (from + 1) n slot (omega (arith, low, other)) (omega (arith, high)) byte bad (λ m le lt. leaves m (omega (arith, le)) lt) former rest g) earlier found h)

  none_first : (p m : ℕ) (Others : List Page → Type 0) → IsLeafIf (named room p m c) → (x : Page) → ((earlier found : List Page) → Others found → FirstBad IsUnformed earlier found x → ⊥)
      → (earlier found : List Page) → StandsFirst room p m c Others found → FirstBad IsUnformed earlier found x → ⊥
  none_first p zero Others leaf x next earlier found h first = next earlier found h first
  none_first p (suc j) Others leaf x next earlier [] h first = h
  none_first p (suc j) Others leaf x next earlier (f ∷ found) h first = elim first [
    | inl here ↦ formed_leaf (slot_at room p j) (part (slot_at room p j) 8192 c) f h.0 leaf here.1
    | inr later ↦ next (f ∷ earlier) found h.1 later.1
  ]

  all_leaves : (len from : ℕ) → LeavesFrom from (from + len) → (x : Page) (earlier found : List Page) → ArePagesOf room k c (range_with_len from len) found → FirstBad IsUnformed earlier found x → ⊥
  all_leaves zero from leaves x earlier found h first = subst (λ (ps : List Page). FirstBad IsUnformed earlier ps x) h first
  all_leaves (suc len) from leaves x earlier found h first =
      none_first from (map_byte k from c) (ArePagesOf room k c (range_with_len (from + 1) len)) (leaves from (omega arith) (omega arith)) x
      (λ former rest g f. all_leaves len (from + 1) (λ m le lt. leaves m (omega (arith, le)) (omega (arith, lt))) x former rest g f) earlier found h first

-- the pages that are found, by the live header's own fields
pages_are : (c : List ℕ) (h : Header) (live : IsLiveHeader c h) (d : Device) → IsFound c d → ArePagesOf h.area_bytes live.side c (range_with_len 0 h.pages) d.stored
pages_are c h live d found =
    let by : IsFoundBy live.side c d = subst (λ o. IsFoundIn o c d) live.lives found.by in
    subst (λ (x : Header). ArePagesOf x.area_bytes live.side c (range_with_len 0 x.pages) d.stored) (sym live.fields) by.stored

byte_is : (c : List ℕ) (h : Header) (live : IsLiveHeader c h) (map : List ℕ) → map ≡ map_in h c → (n : ℕ) → n < h.pages → get_or map n 0 ≡ map_byte live.side n c
byte_is c h live map is n inside =
    let place : h.place ≡ header_at live.side = ap (λ (x : Header). x.place) live.fields in
    ap (λ (bs : List ℕ). get_or bs n 0) is ∙ byte-part (h.place + 64) h.pages c n inside
    ∙ ap (λ i. get_or c i 0) (let e : h.place + 64 + n ≡ header_at live.side + (64 + n) = omega (arith, place) in e)

module _ (c : List ℕ) (h : Header) (stands : StandsUpTo 8 c h) (map : List ℕ) (is : map ≡ map_in h c) where
  abbrev side : ℕ
  side = stands.live.side

  leaf_there : (n : ℕ) → n < h.pages → IsLeafIf (named h.area_bytes n (get_or map n 0) c) → IsLeafIf (named h.area_bytes n (map_byte side n c) c)
  leaf_there n inside leaf = subst (λ b. IsLeafIf (named h.area_bytes n b c)) (byte_is c h stands.live map is n inside) leaf

  pub page_fails : (bad : BadImage) (n : ℕ) → n < h.pages → IsNoLeaf h.area_bytes n (get_or map n 0) c bad → AreLeaves h.area_bytes n map c → IsRefused c bad
  page_fails bad n inside none leaves = refused_next 8 c bad pages_formed refl none.rule stands.passes (λ d found.
      let first = first_no_leaf h.area_bytes side c h.pages 0 n none.slot (omega arith) (omega (arith, inside)) (sym (byte_is c h stands.live map is n inside) ∙ none.stored) none.leaf
      (λ m le lt. leaf_there m (omega (arith, lt, inside)) (leaves m lt)) [] d.stored (pages_are c h stands.live d found) in
      (first.0, none.place ∙ sym first.1, first.2))

  pub pages_pass : AreLeaves h.area_bytes h.pages map c → StandsUpTo 9 c h
  pages_pass leaves = record {
    live = stands.live;
    passes = passes_next 8 c pages_formed refl stands.passes (λ d found place fails.
        all_leaves h.area_bytes side c h.pages 0 (λ m le lt. leaf_there m (omega (arith, lt)) (leaves m (omega (arith, lt)))) fails.0 [] d.stored (pages_are c h stands.live d found) fails.2);
  }
