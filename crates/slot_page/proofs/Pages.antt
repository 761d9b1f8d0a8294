-- Pages and their entries.
use Rattle.std.proofs.Common.{ℕ, zero, suc, add-one, set, ◌≡◌, ◌+◌, ◌-◌, ◌*◌, ◌/◌, ◌%◌, ◌^◌, ◌<◌, ◌≤◌, ◌⊎◌, inl, inr, List, [], ◌∷◌, ◌++◌, length, get_or, take, drop, refl, sym, ap, ◌∙◌, subst, arith, length-append, append_assoc}
use Rattle.std.specs.List.{between}
use Rattle.std.proofs.lemmas.List.Edits.{between_more}
use Rattle.std.proofs.lemmas.List.{take-append-drop, drop_more, take-append-le, take_at, length-take-le, same_lists, get_or-map, get_or_append_left, get_or_push, length-map, length-set, set_split}
use Rattle.std.proofs.lemmas.List.FromFn.{fill_by_all}
use Rattle.std.proofs.lemmas.Bool.{cases_lt}
use Rattle.slot_page.specs.Bytes.{number, number_at, Shows, Wrote}
use Rattle.slot_page.specs.Page.{Entry, no_entry, cell, heap, space, count_of, index_of, entry_at, entries, Holds, IsPage, Lies}
use Rattle.slot_page.proofs.Bytes.{shows_before, shows_after, shows_written, shows_left, shows_right, shows_append, take_shown, number_shown}

pub heap-append : (es fs : List Entry) → heap (es ++ fs) ≡ heap es ++ heap fs
heap-append [] fs = refl
heap-append (e ∷ es) fs = ap (λ h. cell e ++ h) (heap-append es fs) ∙ sym (append_assoc (cell e) (heap es) (heap fs))

pub length-cell : (e : Entry) → length (cell e) ≡ 4 + length e.0 + length e.1
length-cell e = omega (arith, length-append e.0 e.1)

-- the heap, around entry i
pub heap_around : (es : List Entry) (i : ℕ) → i < length es → heap es ≡ heap (take i es) ++ (cell (get_or es i no_entry) ++ heap (drop (i + 1) es))
heap_around es i h =
    ap heap (sym (take-append-drop i es))
    ∙ heap-append (take i es) (drop i es)
    ∙ ap (λ r. heap (take i es) ++ heap r) (drop_more es i no_entry h)

-- entry i, where it stands
pub cell_shown : (page : List ℕ) (of : ℕ) (es : List Entry) (i : ℕ) → Holds page of es → i < length es → Shows page (16 + length (heap (take i es))) (cell (get_or es i no_entry))
cell_shown page of es i h lt =
    shows_left page _ (cell (get_or es i no_entry)) (heap (drop (i + 1) es))
    (shows_right page 16 (heap (take i es)) _ (subst (λ x. Shows page 16 x) (heap_around es i lt) h.bytes))

pub cell_inside : (page : List ℕ) (of : ℕ) (es : List Entry) (i : ℕ) → Holds page of es → i < length es → 16 + length (heap (take i es)) + length (cell (get_or es i no_entry)) + 2 * length es ≤ 8192
cell_inside page of es i h lt =
    let fits : length (heap es) + 2 * length es ≤ 8176 = h.fits in
    omega (arith, ap length (heap_around es i lt), length-append (heap (take i es)) (cell (get_or es i no_entry) ++ heap (drop (i + 1) es)), length-append (cell (get_or es i no_entry)) (heap (drop (i + 1) es)))

-- where entry i stands
pub place_shown : (page : List ℕ) (of : ℕ) (es : List Entry) (i : ℕ) → Holds page of es → i < length es → number_at page (8190 - 2 * i) ≡ 16 + length (heap (take i es))
place_shown page of es i h lt = number_shown page _ _ (h.places i lt)

pub count_shown : (page : List ℕ) (of : ℕ) (es : List Entry) → Holds page of es → count_of page ≡ length es
count_shown page of es h = number_shown page _ _ h.count

-- the four parts of a cell
pub cell_parts : (page : List ℕ) (at : ℕ) (e : Entry) → Shows page at (cell e) → (number_at page at ≡ length e.0) × (number_at page (at + 2) ≡ length e.1) × Shows page (at + 4) e.0 × Shows page (at + 4 + length e.0) e.1
cell_parts page at e s =
    let k = shows_left page at (number (length e.0)) (number (length e.1) ++ (e.0 ++ e.1)) s in
    let r = shows_right page at (number (length e.0)) (number (length e.1) ++ (e.0 ++ e.1)) s in
    let v = shows_left page (at + 2) (number (length e.1)) (e.0 ++ e.1) r in
    let b : Shows page (at + 2 + 2) (e.0 ++ e.1) = shows_right page (at + 2) (number (length e.1)) (e.0 ++ e.1) r in
    let four : at + 2 + 2 ≡ at + 4 = omega arith in
    let b4 : Shows page (at + 4) (e.0 ++ e.1) = subst (λ p. Shows page p (e.0 ++ e.1)) four b in
    (number_shown page at _ k, number_shown page (at + 2) _ v, shows_left page (at + 4) e.0 e.1 b4, shows_right page (at + 4) e.0 e.1 b4)

-- what is read at entry i
pub entry_shown : (page : List ℕ) (of : ℕ) (es : List Entry) (i : ℕ) → Holds page of es → i < length es → entry_at page i ≡ get_or es i no_entry
unfolding entry_at
entry_shown page of es i h lt =
    let e = get_or es i no_entry in
    let at = 16 + length (heap (take i es)) in
    let p = cell_parts page at e (cell_shown page of es i h lt) in
    let inside = cell_inside page of es i h lt in
    let size : length page ≡ 8192 = h.size in
    let key : take (length e.0) (drop (at + 4) page) ≡ e.0 = take_shown page (at + 4) _ e.0 p.2 refl (omega (arith, length-cell e)) in
    let value : take (length e.1) (drop (at + 4 + length e.0) page) ≡ e.1 = take_shown page (at + 4 + length e.0) _ e.1 p.3 refl (omega (arith, length-cell e)) in
    rw (place_shown page of es i h lt, p.0, p.1) (rw (key, value) refl)

-- what an appended entry leaves
pub heap_push : (es : List Entry) (e : Entry) → heap (es ++ e ∷ []) ≡ heap es ++ cell e
heap_push es e = heap-append es (e ∷ []) ∙ ap (λ h. heap es ++ h) (Rattle.std.proofs.lemmas.List.append-nil (cell e))

pub space_push : (es : List Entry) (e : Entry) → space (es ++ e ∷ []) ≡ space es + 6 + length e.0 + length e.1
space_push es e =
    omega (arith, ap length (heap_push es e), length-append (heap es) (cell e), length-cell e, length-append es (e ∷ []))

-- the heap ends where the last entry ends
pub heap_take_le : (es : List Entry) (i : ℕ) → length (heap (take i es)) ≤ length (heap es)
heap_take_le es i = omega (arith, ap length (ap heap (sym (take-append-drop i es)) ∙ heap-append (take i es) (drop i es)), length-append (heap (take i es)) (heap (drop i es)))

-- the header's other bytes stay
index_kept : (p q : List ℕ) → get_or q 4 0 ≡ get_or p 4 0 → get_or q 5 0 ≡ get_or p 5 0 → get_or q 6 0 ≡ get_or p 6 0 → get_or q 7 0 ≡ get_or p 7 0 → index_of q ≡ index_of p
index_kept p q a b c d = rw (a, b, c, d) refl

-- an entry's place after one more
place_pushed : (p3 : List ℕ) (es : List Entry) (e : Entry) (i : ℕ) → (i < length es → Shows p3 (8190 - 2 * i) (number (16 + length (heap (take i es))))) → Shows p3 (8190 - 2 * length es) (number (16 + length (heap es))) → i < length (es ++ e ∷ [])
    → (i < length es) ⊎ (length es ≤ i) → Shows p3 (8190 - 2 * i) (number (16 + length (heap (take i (es ++ e ∷ [])))))
place_pushed p3 es e i old new lt (inl h) = rw (take-append-le i es (e ∷ []) (omega arith)) (old h)
place_pushed p3 es e i old new lt (inr h) =
    let same : length es ≡ i = omega (arith, Rattle.std.proofs.lemmas.List.length_push es e) in
    rw (take_at es (e ∷ []) i same) (subst (λ k. Shows p3 (8190 - 2 * k) (number (16 + length (heap es)))) same new)

-- an entry, its place and the count are written
pub appended : (p0 p1 p2 p3 : List ℕ) (of : ℕ) (es : List Entry) (e : Entry) → Holds p0 of es → space es + 6 + length e.0 + length e.1 ≤ 8176
    → Wrote (16 + length (heap es)) (cell e) p0 p1 → Wrote (8190 - 2 * length es) (number (16 + length (heap es))) p1 p2 → Wrote 2 (number (length es + 1)) p2 p3
    → Holds p3 of (es ++ e ∷ [])
appended p0 p1 p2 p3 of es e h room w1 w2 w3 =
    let at = 16 + length (heap es) in
    let n = length es in
    let sp : length (heap es) + 2 * n + 6 + length e.0 + length e.1 ≤ 8176 = room in
    let lc : length (cell e) ≡ 4 + length e.0 + length e.1 = length-cell e in
    let grown : length (es ++ e ∷ []) ≡ n + 1 = Rattle.std.proofs.lemmas.List.length_push es e in
    let old_bytes = shows_after p2 p3 16 2 (heap es) (number (n + 1)) w3 (shows_before p1 p2 16 (8190 - 2 * n) (heap es) (number at) w2 (shows_before p0 p1 16 at (heap es) (cell e) w1 h.bytes (omega arith)) (omega arith)) (omega arith) in
    let new_bytes = shows_after p2 p3 at 2 (cell e) (number (n + 1)) w3 (shows_before p1 p2 at (8190 - 2 * n) (cell e) (number at) w2 (shows_written p0 p1 at (cell e) w1) (omega arith)) (omega arith) in
    let new_place = shows_after p2 p3 (8190 - 2 * n) 2 (number at) (number (n + 1)) w3 (shows_written p1 p2 (8190 - 2 * n) (number at) w2) (omega arith) in
    let far = λ (j : ℕ) (l : 4 ≤ j) (u : j < 16). w3.above j l ∙ w2.below j (omega arith) ∙ w1.below j (omega arith) in
    record {
      size = w3.size ∙ w2.size ∙ w1.size ∙ h.size;
      kind = w3.below 0 (omega arith) ∙ w2.below 0 (omega arith) ∙ w1.below 0 (omega arith) ∙ h.kind;
      count = subst (λ k. Shows p3 2 (number k)) (sym grown) (shows_written p2 p3 2 (number (n + 1)) w3);
      of_index = index_kept p0 p3 (far 4 (omega arith) (omega arith)) (far 5 (omega arith) (omega arith)) (far 6 (omega arith) (omega arith)) (far 7 (omega arith) (omega arith)) ∙ h.of_index;
      bytes = subst (λ x. Shows p3 16 x) (sym (heap_push es e)) (shows_append p3 16 (heap es) (cell e) old_bytes new_bytes);
      places = λ i lt. place_pushed p3 es e i
          (λ small. let below = heap_take_le es i in
          shows_after p2 p3 (8190 - 2 * i) 2 _ (number (n + 1)) w3
          (shows_after p1 p2 (8190 - 2 * i) (8190 - 2 * n) _ (number at) w2
          (shows_after p0 p1 (8190 - 2 * i) at _ (cell e) w1 (h.places i small) (omega arith)) (omega arith)) (omega arith))
          new_place lt (cases_lt i n);
      fits = omega (arith, space_push es e);
    }

-- the first entries alone
pub truncated : (p0 p1 : List ℕ) (of : ℕ) (es : List Entry) (k : ℕ) → Holds p0 of es → k ≤ length es → Wrote 2 (number k) p0 p1 → Holds p1 of (take k es)
truncated p0 p1 of es k h le w =
    let around : heap es ≡ heap (take k es) ++ heap (drop k es) = ap heap (sym (take-append-drop k es)) ∙ heap-append (take k es) (drop k es) in
    let short : length (take k es) ≡ k = length-take-le k es le in
    let sp : length (heap es) + 2 * length es ≤ 8176 = h.fits in
    record {
      size = w.size ∙ h.size;
      kind = w.below 0 (omega arith) ∙ h.kind;
      count = subst (λ n. Shows p1 2 (number n)) (sym short) (shows_written p0 p1 2 (number k) w);
      of_index = index_kept p0 p1 (w.above 4 (omega arith)) (w.above 5 (omega arith)) (w.above 6 (omega arith)) (w.above 7 (omega arith)) ∙ h.of_index;
      bytes = shows_after p0 p1 16 2 _ (number k) w (shows_left p0 16 (heap (take k es)) (heap (drop k es)) (subst (λ x. Shows p0 16 x) around h.bytes)) (omega arith);
      places = λ i lt.
          let same = Rattle.std.proofs.lemmas.List.take-take i k es (omega arith) in
          rw same (shows_after p0 p1 (8190 - 2 * i) 2 _ (number k) w (h.places i (omega arith)) (omega arith));
      fits = omega (arith, ap length around, length-append (heap (take k es)) (heap (drop k es)));
    }

-- the entries that a page holds are those that are read
pub entries_held : (page : List ℕ) (of : ℕ) (es : List Entry) → Holds page of es → entries page ≡ es
unfolding entries
entries_held page of es h =
    let n : count_of page ≡ length es = count_shown page of es h in
    sym (fill_by_all (entry_at page) es (count_of page) no_entry (sym n) (λ k lt. sym (entry_shown page of es k h (omega arith))))

pub page_held : (page : List ℕ) (of : ℕ) (es : List Entry) → Holds page of es → IsPage page
unfolding IsPage
page_held page of es h = rw (entries_held page of es h, h.of_index) h

pub held : (page : List ℕ) → IsPage page → Holds page (index_of page) (entries page)
unfolding IsPage
held page h = h

pub page_size : (page : List ℕ) → IsPage page → length page ≡ 8192
page_size page h = (held page h).size

pub page_fits : (page : List ℕ) → IsPage page → length (heap (entries page)) + 2 * length (entries page) ≤ 8176
page_fits page h = (held page h).fits

pub length-entries : (page : List ℕ) → length (entries page) ≡ count_of page
unfolding entries
length-entries page = Rattle.std.proofs.lemmas.List.FromFn.length-map-range_with_len (entry_at page) 0 (count_of page)

-- how entry i is read
pub record Read (page : List ℕ) (i at k v : ℕ) : Type 0 where
  pub inside : at + 4 + k + v + 2 * length (entries page) ≤ 8192
  pub low : 16 ≤ at
  pub key : take k (drop (at + 4) page) ≡ (get_or (entries page) i no_entry).0
  pub value : take v (drop (at + 4 + k) page) ≡ (get_or (entries page) i no_entry).1
  pub ends : at + 4 + k + v ≡ 16 + length (heap (take i (entries page))) + length (cell (get_or (entries page) i no_entry))

pub read_entry : (page : List ℕ) (i at k v : ℕ) → IsPage page → i < length (entries page) → at ≡ number_at page (8190 - 2 * i) → k ≡ number_at page at → v ≡ number_at page (at + 2) → Read page i at k v
read_entry page i at k v h lt at_is k_is v_is =
    let es = entries page in
    let hs = held page h in
    let e = get_or es i no_entry in
    let start : at ≡ 16 + length (heap (take i es)) = at_is ∙ place_shown page (index_of page) es i hs lt in
    let p = cell_parts page at e (subst (λ a. Shows page a (cell e)) (sym start) (cell_shown page (index_of page) es i hs lt)) in
    let inside = cell_inside page (index_of page) es i hs lt in
    let size : length page ≡ 8192 = hs.size in
    let ks : k ≡ length e.0 = k_is ∙ p.0 in
    let vs : v ≡ length e.1 = v_is ∙ p.1 in
    let lc : length (cell e) ≡ 4 + length e.0 + length e.1 = length-cell e in
    record {
      inside = omega arith;
      low = omega arith;
      key = take_shown page (at + 4) k e.0 p.2 ks (omega arith);
      value = take_shown page (at + 4 + k) v e.1 (subst (λ x. Shows page (at + 4 + x) e.1) (sym ks) p.3) vs (omega arith);
      ends = omega arith;
    }

-- the last entry ends where the heap ends
pub last_ends : (es : List Entry) (i : ℕ) → i + 1 ≡ length es → length (heap es) ≡ length (heap (take i es)) + length (cell (get_or es i no_entry))
last_ends es i e =
    let rest : drop (i + 1) es ≡ [] = Rattle.std.proofs.lemmas.List.drop_all (i + 1) es (omega arith) in
    let around : heap es ≡ heap (take i es) ++ (cell (get_or es i no_entry) ++ []) = heap_around es i (omega arith) ∙ ap (λ r. heap (take i es) ++ (cell (get_or es i no_entry) ++ heap r)) rest in
    omega (arith, ap length around, length-append (heap (take i es)) (cell (get_or es i no_entry) ++ []), length-append (cell (get_or es i no_entry)) [])

-- a page without entries
pub emptied : (p0 p1 p2 p3 p4 : List ℕ) (of : ℕ) → length p0 ≡ 8192 → of < 2 ^ 32 → p1 ≡ Rattle.std.proofs.Math.ListN.set p0 0 1 → Wrote 2 (number 0) p1 p2 → Wrote 4 (number (of / 65536)) p2 p3 → Wrote 6 (number (of % 65536)) p3 p4 → Holds p4 of []
emptied p0 p1 p2 p3 p4 of size small e w2 w3 w4 =
    let high : Shows p4 4 (number (of / 65536)) = shows_before p3 p4 4 6 (number (of / 65536)) (number (of % 65536)) w4 (shows_written p2 p3 4 _ w3) (omega arith) in
    let high_is : number_at p4 4 ≡ of / 65536 = number_shown p4 4 (of / 65536) high in
    let low_is : number_at p4 6 ≡ of % 65536 = number_shown p4 6 (of % 65536) (shows_written p3 p4 6 _ w4) in
    record {
      size = w4.size ∙ w3.size ∙ w2.size ∙ ap length e ∙ Rattle.std.proofs.lemmas.List.length-set p0 0 1 ∙ size;
      kind = w4.below 0 (omega arith) ∙ w3.below 0 (omega arith) ∙ w2.below 0 (omega arith) ∙ rw e (Rattle.std.proofs.lemmas.List.get_or-set_same p0 0 1 0 (omega arith));
      count = shows_before p3 p4 2 6 (number 0) _ w4 (shows_before p2 p3 2 4 (number 0) _ w3 (shows_written p1 p2 2 (number 0) w2) (omega arith)) (omega arith);
      of_index = rw (high_is, low_is) (omega arith);
      bytes = record { each = λ j lt. absurd (omega arith) };
      places = λ i lt. absurd (omega arith);
      fits = omega arith;
    }

-- a part of the entries takes no more than all of it
pub space_take : (es : List Entry) (n : ℕ) → space (take n es) ≤ space es
space_take es n =
    omega (arith, heap_take_le es n, Rattle.std.proofs.lemmas.List.length-take n es)

pub space-append : (es fs : List Entry) → space (es ++ fs) ≡ space es + space fs
space-append es fs = omega (arith, ap length (heap-append es fs), length-append (heap es) (heap fs), length-append es fs)

pub space_between : (es : List Entry) (from i to : ℕ) → i ≤ to → space (between from i es) ≤ space (between from to es)
space_between es from i to h =
    let e : take (i - from) (take (to - from) (drop from es)) ≡ take (i - from) (drop from es) = Rattle.std.proofs.lemmas.List.take-take (i - from) (to - from) (drop from es) (omega arith) in
    subst (λ (x : List Entry). space x ≤ space (between from to es)) e (space_take (between from to es) (i - from))

-- one more entry of a part fits
pub next_fits : (es fs now : List Entry) (from i to : ℕ) → space es + space (between from to fs) ≤ 8176 → now ≡ es ++ between from i fs → from ≤ i → i < to → to ≤ length fs
    → space now + 6 + length (get_or fs i no_entry).0 + length (get_or fs i no_entry).1 ≤ 8176
next_fits es fs now from i to room is le lt top =
    let e = get_or fs i no_entry in
    let more : space (between from (i + 1) fs) ≡ space (between from i fs) + 6 + length e.0 + length e.1 =
    ap space (between_more fs from i no_entry le (omega arith)) ∙ space_push (between from i fs) e in
    let part = space_between fs from (i + 1) to (omega arith) in
    let whole : space now ≡ space es + space (between from i fs) = ap space is ∙ space-append es (between from i fs) in
    omega arith

-- the entries of a packed page lie where entries are
pub packed_lies : (page : List ℕ) (i : ℕ) → IsPage page → i < length (entries page) → Lies page i
packed_lies page i h lt =
    let r = read_entry page i _ _ _ h lt refl refl refl in
    let n = length-entries page in
    record { inside = omega arith; low = r.low; high = omega (arith, r.inside) }

-- a page read at entry i
pub entry_read : (page : List ℕ) (i : ℕ) → i < count_of page → get_or (entries page) i no_entry ≡ entry_at page i
unfolding entries
entry_read page i lt = Rattle.std.proofs.lemmas.List.FromFn.get_or-map-range_with_len (entry_at page) 0 (count_of page) i i no_entry lt (omega arith)

-- bytes written behind the last entry leave the entries as they are
pub holds_kept : (p0 p1 : List ℕ) (of : ℕ) (es : List Entry) (xs : List ℕ) → Holds p0 of es → space es + length xs ≤ 8176 → Wrote (16 + length (heap es)) xs p0 p1 → Holds p1 of es
holds_kept p0 p1 of es xs h room w =
    let sp : length (heap es) + 2 * length es + length xs ≤ 8176 = room in
    record {
      size = w.size ∙ h.size;
      kind = w.below 0 (omega arith) ∙ h.kind;
      count = shows_before p0 p1 2 (16 + length (heap es)) (number (length es)) xs w h.count (omega arith);
      of_index = index_kept p0 p1 (w.below 4 (omega arith)) (w.below 5 (omega arith)) (w.below 6 (omega arith)) (w.below 7 (omega arith)) ∙ h.of_index;
      bytes = shows_before p0 p1 16 (16 + length (heap es)) (heap es) xs w h.bytes (omega arith);
      places = λ i lt. shows_after p0 p1 (8190 - 2 * i) (16 + length (heap es)) _ xs w (h.places i lt) (omega arith);
      fits = h.fits;
    }

-- an entry whose bytes stand there, its place and the count are written
pub placed : (p1 p2 p3 : List ℕ) (of : ℕ) (es : List Entry) (e : Entry) → Holds p1 of es → space es + 6 + length e.0 + length e.1 ≤ 8176
    → Shows p1 (16 + length (heap es)) (cell e) → Wrote (8190 - 2 * length es) (number (16 + length (heap es))) p1 p2 → Wrote 2 (number (length es + 1)) p2 p3
    → Holds p3 of (es ++ e ∷ [])
placed p1 p2 p3 of es e h room shown w2 w3 =
    let at = 16 + length (heap es) in
    let n = length es in
    let sp : length (heap es) + 2 * n + 6 + length e.0 + length e.1 ≤ 8176 = room in
    let lc : length (cell e) ≡ 4 + length e.0 + length e.1 = length-cell e in
    let grown : length (es ++ e ∷ []) ≡ n + 1 = Rattle.std.proofs.lemmas.List.length_push es e in
    let old_bytes = shows_after p2 p3 16 2 (heap es) (number (n + 1)) w3 (shows_before p1 p2 16 (8190 - 2 * n) (heap es) (number at) w2 h.bytes (omega arith)) (omega arith) in
    let new_bytes = shows_after p2 p3 at 2 (cell e) (number (n + 1)) w3 (shows_before p1 p2 at (8190 - 2 * n) (cell e) (number at) w2 shown (omega arith)) (omega arith) in
    let new_place = shows_after p2 p3 (8190 - 2 * n) 2 (number at) (number (n + 1)) w3 (shows_written p1 p2 (8190 - 2 * n) (number at) w2) (omega arith) in
    let far = λ (j : ℕ) (l : 4 ≤ j) (u : j < 16). w3.above j l ∙ w2.below j (omega arith) in
    record {
      size = w3.size ∙ w2.size ∙ h.size;
      kind = w3.below 0 (omega arith) ∙ w2.below 0 (omega arith) ∙ h.kind;
      count = subst (λ k. Shows p3 2 (number k)) (sym grown) (shows_written p2 p3 2 (number (n + 1)) w3);
      of_index = index_kept p1 p3 (far 4 (omega arith) (omega arith)) (far 5 (omega arith) (omega arith)) (far 6 (omega arith) (omega arith)) (far 7 (omega arith) (omega arith)) ∙ h.of_index;
      bytes = subst (λ x. Shows p3 16 x) (sym (heap_push es e)) (shows_append p3 16 (heap es) (cell e) old_bytes new_bytes);
      places = λ i lt. place_pushed p3 es e i
          (λ small.
          shows_after p2 p3 (8190 - 2 * i) 2 _ (number (n + 1)) w3
          (shows_after p1 p2 (8190 - 2 * i) (8190 - 2 * n) _ (number at) w2 (h.places i small) (omega arith)) (omega arith))
          new_place lt (cases_lt i n);
      fits = omega (arith, space_push es e);
    }

-- the bytes of some entries, between those of the others
pub heap_parts : (es : List Entry) (from to : ℕ) → from ≤ to → heap es ≡ heap (take from es) ++ (heap (between from to es) ++ heap (drop to es))
heap_parts es from to le =
    ap heap (Rattle.std.proofs.lemmas.List.Edits.split_between es from to le) ∙ heap-append (take from es) (between from to es ++ drop to es)
    ∙ ap (λ h. heap (take from es) ++ h) (heap-append (between from to es) (drop to es))

pub heap_to : (es : List Entry) (from to : ℕ) → from ≤ to → heap (take to es) ≡ heap (take from es) ++ heap (between from to es)
heap_to es from to le =
    let e : take to es ≡ take from es ++ between from to es =
    sym (take-append-drop from (take to es)) ∙ ap (λ (x : List Entry). x ++ drop from (take to es)) (Rattle.std.proofs.lemmas.List.take-take from to es le) ∙ ap (λ (x : List Entry). take from es ++ x) (sym (Rattle.std.proofs.lemmas.Slice.between_is es from to)) in
    ap heap e ∙ heap-append (take from es) (between from to es)

-- the bytes of a part of the entries stand where the first of them begins
pub part_shown : (page : List ℕ) (from to : ℕ) → IsPage page → from ≤ to → Shows page (16 + length (heap (take from (entries page)))) (heap (between from to (entries page)))
part_shown page from to h le =
    let es = entries page in
    shows_left page _ (heap (between from to es)) (heap (drop to es)) (shows_right page 16 (heap (take from es)) _ (subst (λ x. Shows page 16 x) (heap_parts es from to le) (held page h).bytes))

pub heap_slice : (page : List ℕ) (from to a b : ℕ) → IsPage page → from ≤ to → a ≡ 16 + length (heap (take from (entries page))) → b ≡ 16 + length (heap (take to (entries page))) → take (b - a) (drop a page) ≡ heap (between from to (entries page))
heap_slice page from to a b h le ai bi =
    let es = entries page in
    let t = ap length (heap_to es from to le) in
    let l = length-append (heap (take from es)) (heap (between from to es)) in
    let top = heap_take_le es to in
    let fits = page_fits page h in
    let size : length page ≡ 8192 = page_size page h in
    take_shown page a (b - a) (heap (between from to es)) (subst (λ n. Shows page n (heap (between from to es))) (sym ai) (part_shown page from to h le)) (omega arith) (omega arith)

-- ---- entries whose bytes stand ahead

-- the next entry of a part, whose bytes stand behind those that were added
pub next_ahead : (page : List ℕ) (at : ℕ) (fs : List Entry) (from i to : ℕ) → from ≤ i → i < to → to ≤ length fs → Shows page at (heap (between from to fs)) → Shows page (at + length (heap (between from i fs))) (cell (get_or fs i no_entry))
next_ahead page at fs from i to le lt top s =
    let n = i - from in
    let part = between from to fs in
    let long : length part ≡ to - from = Rattle.std.proofs.lemmas.List.Edits.length-between fs from to top in
    let e : get_or part n no_entry ≡ get_or fs i no_entry =
    Rattle.std.proofs.lemmas.List.Edits.get_or-between fs from to n no_entry (omega arith) ∙ ap (λ k. get_or fs k no_entry) (let x : from + n ≡ i = omega arith in x) in
    let front : take n part ≡ between from i fs = Rattle.std.proofs.lemmas.List.take-take (i - from) (to - from) (drop from fs) (omega arith) in
    let whole : heap part ≡ heap (take n part) ++ (cell (get_or part n no_entry) ++ heap (drop (n + 1) part)) = heap_around part n (omega arith) in
    let here = shows_left page _ (cell (get_or part n no_entry)) (heap (drop (n + 1) part)) (shows_right page at (heap (take n part)) _ (subst (λ x. Shows page at x) whole s)) in
    subst (λ (x : Entry). Shows page (at + length (heap (between from i fs))) (cell x)) e (subst (λ (x : List Entry). Shows page (at + length (heap x)) (cell (get_or part n no_entry))) front here)

-- bytes that no write meets stand as they did
pub stands_on : (page new : List ℕ) (at : ℕ) (xs : List ℕ) (n : ℕ) → 16 ≤ at → at + length xs ≤ 8190 - 2 * n → ((j : ℕ) → 16 ≤ j → j < 8190 - 2 * n → get_or new j 0 ≡ get_or page j 0) → Shows page at xs → Shows new at xs
stands_on page new at xs n low high f s = record { each = λ j lt. f (at + j) (omega arith) (omega arith) ∙ s.each j lt }

-- ---- another value of as many bytes

-- the bytes of an entry before its value
abbrev cell_head : Entry → List ℕ
cell_head e = number (length e.0) ++ (number (length e.1) ++ e.0)

cell_split : (e : Entry) → cell e ≡ cell_head e ++ e.1
cell_split e = refl

head_of : (e : Entry) (value : List ℕ) → length value ≡ length e.1 → cell_head e ≡ cell_head (e.0, value)
head_of e value same = ap (λ n. number (length e.0) ++ (number n ++ e.0)) (sym same)

-- entries of other bytes, but as many, begin where they did
pub heap_take_set : (es : List Entry) (i j : ℕ) (f : Entry) → length (cell f) ≡ length (cell (get_or es i no_entry)) → length (heap (take j (set es i f))) ≡ length (heap (take j es))
heap_take_set [] i j f same = refl
heap_take_set (e ∷ es) i zero f same = refl
heap_take_set (e ∷ es) zero (suc j) f same = omega (arith, length-append (cell f) (heap (take j es)), length-append (cell e) (heap (take j es)))
heap_take_set (e ∷ es) (suc i) (suc j) f same = omega (arith, length-append (cell e) (heap (take j (set es i f))), length-append (cell e) (heap (take j es)), heap_take_set es i j f same)

-- the heap, around an entry that was set
pub heap_around_set : (es : List Entry) (i : ℕ) (f : Entry) → i < length es → heap (set es i f) ≡ heap (take i es) ++ (cell f ++ heap (drop (i + 1) es))
heap_around_set es i f lt =
    ap heap (set_split es i f lt) ∙ heap-append (take i es) (f ∷ drop (suc i) es) ∙ ap (λ n. heap (take i es) ++ (cell f ++ heap (drop n es))) (sym (add-one i))

-- the bytes of all entries after it
set_bytes : (p0 p1 : List ℕ) (of : ℕ) (es : List Entry) (i at : ℕ) (value : List ℕ) → Holds p0 of es → i < length es → length value ≡ length (get_or es i no_entry).1
    → at ≡ 16 + length (heap (take i es)) + 4 + length (get_or es i no_entry).0 → Wrote at value p0 p1 → Shows p1 16 (heap (set es i ((get_or es i no_entry).0, value)))
set_bytes p0 p1 of es i at value h lt same at_is w =
    let e = get_or es i no_entry in
    let f : Entry = (e.0, value) in
    let a = heap (take i es) in
    let b = heap (drop (i + 1) es) in
    let le : length (cell e) ≡ 4 + length e.0 + length e.1 = length-cell e in
    let lf : length (cell f) ≡ 4 + length e.0 + length value = length-cell f in
    let lh : length (cell_head f) ≡ 4 + length e.0 = omega arith in
    let all : Shows p0 16 (a ++ (cell e ++ b)) = subst (λ x. Shows p0 16 x) (heap_around es i lt) h.bytes in
    let front : Shows p1 16 a = shows_before p0 p1 16 at a value w (shows_left p0 16 a (cell e ++ b) all) (omega arith) in
    let rest : Shows p0 (16 + length a) (cell e ++ b) = shows_right p0 16 a (cell e ++ b) all in
    let old_head : Shows p0 (16 + length a) (cell_head e) = shows_left p0 (16 + length a) (cell_head e) e.1 (shows_left p0 (16 + length a) (cell e) b rest) in
    let head : Shows p1 (16 + length a) (cell_head f) = shows_before p0 p1 (16 + length a) at (cell_head f) value w (subst (λ x. Shows p0 (16 + length a) x) (head_of e value same) old_head) (omega arith) in
    let there : at ≡ 16 + length a + length (cell_head f) = omega arith in
    let new : Shows p1 (16 + length a) (cell f) = shows_append p1 (16 + length a) (cell_head f) value head (subst (λ n. Shows p1 n value) there (shows_written p0 p1 at value w)) in
    let behind : 16 + length a + length (cell e) ≡ 16 + length a + length (cell f) = omega arith in
    let back : Shows p1 (16 + length a + length (cell e)) b = shows_after p0 p1 (16 + length a + length (cell e)) at b value w (shows_right p0 (16 + length a) (cell e) b rest) (omega arith) in
    let tail : Shows p1 (16 + length a) (cell f ++ b) = shows_append p1 (16 + length a) (cell f) b new (subst (λ n. Shows p1 n b) behind back) in
    subst (λ x. Shows p1 16 x) (sym (heap_around_set es i f lt)) (shows_append p1 16 a (cell f ++ b) front tail)

-- the value of entry i is written over by one of as many bytes
pub replaced : (p0 p1 : List ℕ) (of : ℕ) (es : List Entry) (i at : ℕ) (value : List ℕ) → Holds p0 of es → i < length es → length value ≡ length (get_or es i no_entry).1
    → at ≡ 16 + length (heap (take i es)) + 4 + length (get_or es i no_entry).0 → Wrote at value p0 p1 → Holds p1 of (set es i ((get_or es i no_entry).0, value))
replaced p0 p1 of es i at value h lt same at_is w =
    let e = get_or es i no_entry in
    let f : Entry = (e.0, value) in
    let le : length (cell e) ≡ 4 + length e.0 + length e.1 = length-cell e in
    let lf : length (cell f) ≡ 4 + length e.0 + length value = length-cell f in
    let cells : length (cell f) ≡ length (cell e) = omega arith in
    let inside = cell_inside p0 of es i h lt in
    let many : length (set es i f) ≡ length es = length-set es i f in
    let whole : length (heap (set es i f)) ≡ length (heap es) =
    omega (arith, ap length (heap_around_set es i f lt), ap length (heap_around es i lt), length-append (heap (take i es)) (cell f ++ heap (drop (i + 1) es)), length-append (heap (take i es)) (cell e ++ heap (drop (i + 1) es)), length-append (cell f) (heap (drop (i + 1) es)), length-append (cell e) (heap (drop (i + 1) es))) in
    let sp : length (heap es) + 2 * length es ≤ 8176 = h.fits in
    record {
      size = w.size ∙ h.size;
      kind = w.below 0 (omega arith) ∙ h.kind;
      count = subst (λ n. Shows p1 2 (number n)) (sym many) (shows_before p0 p1 2 at (number (length es)) value w h.count (omega arith));
      of_index = index_kept p0 p1 (w.below 4 (omega arith)) (w.below 5 (omega arith)) (w.below 6 (omega arith)) (w.below 7 (omega arith)) ∙ h.of_index;
      bytes = set_bytes p0 p1 of es i at value h lt same at_is w;
      places = λ j less.
          let small : j < length es = omega arith in
          subst (λ n. Shows p1 (8190 - 2 * j) (number (16 + n))) (sym (heap_take_set es i j f cells)) (shows_after p0 p1 (8190 - 2 * j) at _ value w (h.places j small) (omega arith));
      fits = omega arith;
    }
