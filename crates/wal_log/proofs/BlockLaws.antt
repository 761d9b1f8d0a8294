-- What a crash leaves in each of the two writes of a flush.
use Rattle.std.proofs.Common.{◌≡◌, ◌≢◌, ◌⊎◌, inl, inr, ℕ, ◌+◌, ◌-◌, ◌<◌, ◌≤◌, List, [], ◌∷◌, ◌++◌, length, take, drop, get_or, refl, sym, ◌∙◌, ap, subst, arith, append_assoc, length-append}
use Rattle.std.proofs.lemmas.Bool.{cases_eq}
use Rattle.std.proofs.lemmas.List.{take_at, append-nil, get_or-append_right, take-take}
use Rattle.byteorder.specs.Endian.{big_bytes}
use Rattle.disk_io.specs.Disk.{part, splice, Torn}
use Rattle.disk_io.specs.Bytes.{length-splice, part_same, torn_part, part_join, part-splice_in, part-splice_out, byte-splice_in, byte-splice_before, byte-splice_after, length-part, byte-part, part_one}
use Rattle.log_records.specs.Area.{Entry, group, block, blocks, Begins}
use Rattle.wal_log.specs.Log.{LogState, Holds, InPart, FlushLeaves, IsOutside, body}
use Rattle.wal_log.proofs.KeptLaws.{block_is, length-behind}

-- what stands in the buffer once it is closed
pub body_is : (fill : ℕ) (old new : List ℕ) → fill ≤ length old → take (fill + 1) new ≡ big_bytes 4 (fill - 4) ++ (drop 4 (take fill old) ++ 0 ∷ []) → take (fill + 1) new ≡ body (drop 4 (take fill old))
body_is fill old new fits closed =
    closed ∙ ap (λ (n : ℕ). big_bytes 4 n ++ (drop 4 (take fill old) ++ 0 ∷ [])) (sym (length-behind 4 fill old fits))

-- the records are still there then
pub records_stay : (fill : ℕ) (old new : List ℕ) → 4 ≤ fill → fill ≤ length old → take (fill + 1) new ≡ big_bytes 4 (fill - 4) ++ (drop 4 (take fill old) ++ 0 ∷ []) → drop 4 (take fill new) ≡ drop 4 (take fill old)
records_stay fill old new low fits closed =
    let records = drop 4 (take fill old) in
    let long = length-behind 4 fill old fits in
    ap (drop 4) (sym (take-take fill (fill + 1) new (omega arith)) ∙ ap (take fill) (closed ∙ sym (append_assoc (big_bytes 4 (fill - 4)) records (0 ∷ [])))
    ∙ take_at (big_bytes 4 (fill - 4) ++ records) (0 ∷ []) fill (omega (arith, long)))

-- blocks that are on the disk, with the next gate not open, begin the area
begins_from : (start gate size : ℕ) (c : List ℕ) (groups : List (List Entry)) → start + size ≤ length c → gate < size → part start gate c ≡ blocks groups → get_or c (start + gate) 0 ≢ 165 → Begins groups (part start size c)
begins_from start gate size c groups fits inside before shut =
    let rest = part (start + gate) (size - gate) c in
    let whole : gate + (size - gate) ≡ size = omega arith in
    record {
      tail = rest;
      split = ap (λ n. part start n c) (sym whole) ∙ part_join start gate (size - gate) c (omega arith) ∙ ap (λ (l : List ℕ). l ++ rest) before;
      more = omega (arith, length-part (start + gate) (size - gate) c (omega arith));
      shut = λ is. shut (sym (byte-part (start + gate) (size - gate) c 0 (omega arith) ∙ ap (λ k. get_or c k 0) (let e : start + gate + 0 ≡ start + gate = omega arith in e)) ∙ is);
    }

pub begins_of : (start gate size : ℕ) (c : List ℕ) (groups : List (List Entry)) → Holds start gate size c groups → Begins groups (part start size c)
begins_of start gate size c groups h = begins_from start gate size c groups h.on_disk h.inside h.before h.shut

length-block : (w : List ℕ) → length (block w) ≡ length w + 5
length-block w = omega (arith, ap length (block_is w), length-append (big_bytes 4 (length w)) w)

blocks_last : (groups : List (List Entry)) (es : List Entry) → blocks (groups ++ es ∷ []) ≡ blocks groups ++ block (group es)
blocks_last [] es = append-nil (block (group es))
blocks_last (g ∷ groups) es = ap (λ (l : List ℕ). block (group g) ++ l) (blocks_last groups es) ∙ sym (append_assoc (block (group g)) (blocks groups) (block (group es)))

outside_part : (at n : ℕ) (s c : List ℕ) (p m : ℕ) → IsOutside at n s c → p + m ≤ length s → (p + m ≤ at) ⊎ (at + n ≤ p) → part p m c ≡ part p m s
outside_part at n s c p m out fits apart = part_same p m c s out.size fits (λ i lo hi. elim apart [
  | inl below ↦ out.before i (omega arith)
  | inr above ↦ out.after i (omega arith)
])

torn_outside : (at n : ℕ) (s c : List ℕ) → Torn at n s c → IsOutside at n s c
torn_outside at n s c torn = record { size = torn.size; before = torn.before; after = torn.after }

splice_outside : (at : ℕ) (w s : List ℕ) → at + length w ≤ length s → IsOutside at (length w) s (splice at w s)
splice_outside at w s fits = record {
  size = length-splice at w s fits;
  before = λ i lt. byte-splice_before at w s i (omega arith) lt;
  after = λ i le. byte-splice_after at w s i (omega arith) le;
}

outside_wider : (lo m at n : ℕ) (a b : List ℕ) → lo ≤ at → at + n ≤ lo + m → IsOutside at n a b → IsOutside lo m a b
outside_wider lo m at n a b low high out = record {
  size = out.size;
  before = λ i lt. out.before i (omega arith);
  after = λ i le. out.after i (omega arith);
}

outside_then : (at n : ℕ) (a b c : List ℕ) → IsOutside at n a b → IsOutside at n b c → IsOutside at n a c
outside_then at n a b c one two = record {
  size = two.size ∙ one.size;
  before = λ i lt. two.before i lt ∙ one.before i lt;
  after = λ i le. two.after i le ∙ one.after i le;
}

module _ (start gate size : ℕ) (s : List ℕ) (groups : List (List Entry)) (es : List Entry) (h : Holds start gate size s groups) (fits : gate + length (group es) + 6 ≤ size) where
  abbrev n : ℕ
  n = length (group es)

  abbrev whole_body : List ℕ
  whole_body = body (group es)

  length-body : length whole_body ≡ n + 5
  length-body = omega (arith, length-append (big_bytes 4 n) (group es ++ 0 ∷ []), length-append (group es) (0 ∷ []))

  abbrev staged : List ℕ
  staged = splice (start + gate + 1) whole_body s

  room : start + gate + 1 + length whole_body ≤ length s
  room = omega (arith, length-body, h.on_disk)

  length-staged : length staged ≡ length s
  length-staged = length-splice (start + gate + 1) whole_body s room

  -- the first write leaves the gate, and all before it
  first_torn : (c : List ℕ) → Torn (start + gate + 1) (length whole_body) s c → Begins groups (part start size c)
  first_torn c torn = begins_from start gate size c groups (omega (arith, torn.size, h.on_disk)) h.inside
      (torn_part (start + gate + 1) (length whole_body) s c start gate torn (omega (arith, h.on_disk, h.inside)) (inl (omega arith)) ∙ h.before)
      (λ is. h.shut (sym (torn.before (start + gate) (omega arith)) ∙ is))

  long : (c : List ℕ) → IsOutside (start + gate) 1 staged c → start + size ≤ length c
  long c out = omega (arith, out.size, length-staged, h.on_disk)

  front : (c : List ℕ) → IsOutside (start + gate) 1 staged c → part start gate c ≡ blocks groups
  front c out =
      outside_part (start + gate) 1 staged c start gate out (omega (arith, length-staged, h.on_disk, h.inside)) (inl (omega arith))
      ∙ part-splice_out (start + gate + 1) whole_body s start gate room (omega (arith, h.on_disk, h.inside)) (inl (omega arith)) ∙ h.before

  records : (c : List ℕ) → IsOutside (start + gate) 1 staged c → part (start + gate + 1) (n + 4) c ≡ big_bytes 4 n ++ group es
  records c out =
      outside_part (start + gate) 1 staged c (start + gate + 1) (n + 4) out (omega (arith, length-staged, room, length-body)) (inr (omega arith))
      ∙ ap (λ k. part k (n + 4) staged) (let e : start + gate + 1 ≡ start + gate + 1 + 0 = omega arith in e)
      ∙ part-splice_in (start + gate + 1) whole_body s 0 (n + 4) room (omega (arith, length-body))
      ∙ ap (take (n + 4)) (sym (append_assoc (big_bytes 4 n) (group es) (0 ∷ [])))
      ∙ take_at (big_bytes 4 n ++ group es) (0 ∷ []) (n + 4) (omega (arith, length-append (big_bytes 4 n) (group es)))

  closed : (c : List ℕ) → IsOutside (start + gate) 1 staged c → get_or c (start + (gate + (5 + n))) 0 ≡ 0
  closed c out =
      out.after (start + (gate + (5 + n))) (omega arith)
      ∙ ap (λ k. get_or staged k 0) (let e : start + (gate + (5 + n)) ≡ start + gate + 1 + (n + 4) = omega arith in e)
      ∙ byte-splice_in (start + gate + 1) whole_body s (n + 4) (omega (arith, room)) (omega (arith, length-body))
      ∙ ap (λ (l : List ℕ). get_or l (n + 4) 0) (sym (append_assoc (big_bytes 4 n) (group es) (0 ∷ [])))
      ∙ get_or-append_right (big_bytes 4 n ++ group es) (0 ∷ []) (n + 4) (n + 4) 0 (omega (arith, length-append (big_bytes 4 n) (group es))) (omega arith)
      ∙ ap (λ k. get_or (0 ∷ []) k 0) (let e : n + 4 - (n + 4) ≡ 0 = omega arith in e)

  whole : (c : List ℕ) → IsOutside (start + gate) 1 staged c → get_or c (start + gate) 0 ≡ 165 → part start (gate + (5 + n)) c ≡ blocks (groups ++ es ∷ [])
  whole c out is_open =
      part_join start gate (5 + n) c (omega (arith, long c out))
      ∙ ap (λ (l : List ℕ). l ++ part (start + gate) (5 + n) c) (front c out)
      ∙ ap (λ (l : List ℕ). blocks groups ++ l) (
      ap (λ k. part (start + gate) k c) (let e : 5 + n ≡ 1 + (n + 4) = omega arith in e)
      ∙ part_join (start + gate) 1 (n + 4) c (omega (arith, long c out))
      ∙ ap (λ (l : List ℕ). l ++ part (start + gate + 1) (n + 4) c) (part_one (start + gate) c (omega (arith, long c out)) ∙ ap (λ b. b ∷ []) is_open)
      ∙ ap (λ (l : List ℕ). 165 ∷ l) (records c out)
      ∙ sym (block_is (group es)))
      ∙ sym (blocks_last groups es)

  -- behind an open gate the block counts
  opened : (c : List ℕ) → IsOutside (start + gate) 1 staged c → get_or c (start + gate) 0 ≡ 165 → Holds start (gate + (5 + n)) size c (groups ++ es ∷ [])
  opened c out is_open = record {
    on_disk = long c out;
    inside = omega arith;
    length = omega (arith, h.length, ap length (blocks_last groups es), length-append (blocks groups) (block (group es)), length-block (group es));
    before = whole c out is_open;
    shut = λ is. absurd (omega (arith, is, closed c out));
  }

  -- the second leaves the block whole, behind some gate
  second_torn : (c : List ℕ) → IsOutside (start + gate) 1 staged c → Begins groups (part start size c) ⊎ Begins (groups ++ es ∷ []) (part start size c)
  second_torn c out = elim (cases_eq (get_or c (start + gate) 0) 165) [
    | inl is_open ↦ inr (begins_of start (gate + (5 + n)) size c (groups ++ es ∷ []) (opened c out is_open))
    | inr shut ↦ inl (begins_from start gate size c groups (long c out) h.inside (front c out) shut)
  ]

  staged_outside : IsOutside start size s staged
  staged_outside = outside_wider start size (start + gate + 1) (length whole_body) s staged (omega arith) (omega (arith, length-body)) (splice_outside (start + gate + 1) whole_body s room)

  pub flush_leaves : (log : LogState) → log.start ≡ start → log.size ≡ size → (c : List ℕ) → InPart (start + gate) whole_body s c → FlushLeaves log s groups es c
  flush_leaves log at_start of_size c (inl torn) = record {
    others = subst (λ k. IsOutside k log.size s c) (sym at_start) (subst (λ k. IsOutside start k s c) (sym of_size)
        (outside_wider start size (start + gate + 1) (length whole_body) s c (omega arith) (omega (arith, length-body)) (torn_outside (start + gate + 1) (length whole_body) s c torn)));
    area = inl (subst (λ k. Begins groups (part k log.size c)) (sym at_start) (subst (λ k. Begins groups (part start k c)) (sym of_size) (first_torn c torn)));
  }
  flush_leaves log at_start of_size c (inr torn) = record {
    others = subst (λ k. IsOutside k log.size s c) (sym at_start) (subst (λ k. IsOutside start k s c) (sym of_size)
        (outside_then start size s staged c staged_outside (outside_wider start size (start + gate) 1 staged c (omega arith) (omega arith) (torn_outside (start + gate) 1 staged c torn))));
    area = subst (λ k. Begins groups (part k log.size c) ⊎ Begins (groups ++ es ∷ []) (part k log.size c)) (sym at_start)
        (subst (λ k. Begins groups (part start k c) ⊎ Begins (groups ++ es ∷ []) (part start k c)) (sym of_size) (second_torn c (torn_outside (start + gate) 1 staged c torn)));
  }

  last_outside : IsOutside (start + gate) 1 staged (splice (start + gate) (165 ∷ []) staged)
  last_outside = splice_outside (start + gate) (165 ∷ []) staged (omega (arith, length-staged, room))

  pub flushed : Holds start (gate + (5 + n)) size (splice (start + gate) (165 ∷ []) staged) (groups ++ es ∷ [])
  flushed =
      let last = splice (start + gate) (165 ∷ []) staged in
      opened last last_outside
      (ap (λ k. get_or last k 0) (let e : start + gate ≡ start + gate + 0 = omega arith in e) ∙ byte-splice_in (start + gate) (165 ∷ []) staged 0 (omega (arith, length-staged, room)) (omega arith))

-- a flush leaves what is outside the area
pub flush_outside : (start gate size : ℕ) (s w : List ℕ) → start + size ≤ length s → gate + length w + 6 ≤ size → IsOutside start size s (splice (start + gate) (165 ∷ []) (splice (start + gate + 1) (body w) s))
flush_outside start gate size s w on_disk fits =
    let long : length (body w) ≡ length w + 5 = omega (arith, length-append (big_bytes 4 (length w)) (w ++ 0 ∷ []), length-append w (0 ∷ [])) in
    let staged = splice (start + gate + 1) (body w) s in
    let one = splice_outside (start + gate + 1) (body w) s (omega (arith, long)) in
    let two = splice_outside (start + gate) (165 ∷ []) staged (omega (arith, one.size)) in
    outside_then start size s staged (splice (start + gate) (165 ∷ []) staged)
    (outside_wider start size (start + gate + 1) (length (body w)) s staged (omega arith) (omega (arith, long)) one)
    (outside_wider start size (start + gate) 1 staged (splice (start + gate) (165 ∷ []) staged) (omega arith) (omega arith) two)

-- the same of a log, by its fields
-- what the fields of a log say of it, and the bytes that wait in its buffer
pub record IsFlushed (log : LogState) (start gate size reserved fill : ℕ) (bytes : List ℕ) : Type 0 where
  pub at_start : start ≡ log.start
  pub at_gate : gate ≡ log.gate
  pub of_size : size ≡ log.size
  pub left : reserved ≡ log.reserved
  pub waits : drop 4 (take fill bytes) ≡ log.waiting
  pub long : length log.waiting ≡ fill - 4
  -- the block fits, with a gate behind it
  pub room : log.gate + length log.waiting + 6 ≤ log.size

pub is_flushed : {l log : LogState} (fill : ℕ) (bytes items : List ℕ) → l ≡ log → l.waiting ≡ drop 4 (take fill items) → bytes ≡ items → 4 ≤ fill → fill ≤ length items
    → l.gate + fill + l.reserved ≤ l.size + 3 → 5 ≤ log.reserved → IsFlushed log l.start l.gate l.size l.reserved fill bytes
is_flushed {l = l} {log = log} fill bytes items e wait same begun fits whole least =
    let waits : drop 4 (take fill bytes) ≡ log.waiting = ap (λ (b : List ℕ). drop 4 (take fill b)) same ∙ (sym wait ∙ ap (λ (s : LogState). s.waiting) e) in
    let long : length log.waiting ≡ fill - 4 = sym (ap length waits) ∙ length-behind 4 fill bytes (omega (arith, fits, ap length same)) in
    record {
      at_start = ap (λ (s : LogState). s.start) e;
      at_gate = ap (λ (s : LogState). s.gate) e;
      of_size = ap (λ (s : LogState). s.size) e;
      left = ap (λ (s : LogState). s.reserved) e;
      waits = waits;
      long = long;
      room = omega (arith, whole, least, begun, long, ap (λ (s : LogState). s.gate) e, ap (λ (s : LogState). s.size) e, ap (λ (s : LogState). s.reserved) e);
    }

module _ {log : LogState} {start gate size reserved fill : ℕ} {bytes : List ℕ} (is : IsFlushed log start gate size reserved fill bytes) where
  place_is : start + gate ≡ log.start + log.gate
  place_is = omega (arith, is.at_start, is.at_gate)

  pub flush_any : (s : List ℕ) (groups : List (List Entry)) (es : List Entry) → Holds log.start log.gate log.size s groups → log.waiting ≡ group es
      → (c : List ℕ) → InPart (start + gate) (body (drop 4 (take fill bytes))) s c → FlushLeaves log s groups es c
  flush_any s groups es holds wait c part =
      flush_leaves log.start log.gate log.size s groups es holds (subst (λ (l : List ℕ). log.gate + length l + 6 ≤ log.size) wait is.room) log refl refl c
      (subst (λ (p : ℕ). InPart p (body (group es)) s c) place_is (subst (λ (l : List ℕ). InPart (start + gate) (body l) s c) (is.waits ∙ wait) part))

  pub flush_holds : (s d : List ℕ) (groups : List (List Entry)) (es : List Entry) → Holds log.start log.gate log.size s groups → log.waiting ≡ group es
      → d ≡ splice (start + gate) (165 ∷ []) (splice (start + gate + 1) (body (drop 4 (take fill bytes))) s)
      → Holds log.start (log.gate + (5 + length log.waiting)) log.size d (groups ++ es ∷ [])
  flush_holds s d groups es holds wait written =
      let same : splice (log.start + log.gate) (165 ∷ []) (splice (log.start + log.gate + 1) (body (group es)) s) ≡ d =
      sym (written ∙ ap (λ (p : ℕ). splice p (165 ∷ []) (splice (p + 1) (body (drop 4 (take fill bytes))) s)) place_is
      ∙ ap (λ (l : List ℕ). splice (log.start + log.gate) (165 ∷ []) (splice (log.start + log.gate + 1) (body l) s)) (is.waits ∙ wait)) in
      subst (λ (l : List ℕ). Holds log.start (log.gate + (5 + length l)) log.size d (groups ++ es ∷ [])) (sym wait)
      (subst (λ (l : List ℕ). Holds log.start (log.gate + (5 + length (group es))) log.size l (groups ++ es ∷ [])) same
      (flushed log.start log.gate log.size s groups es holds (subst (λ (l : List ℕ). log.gate + length l + 6 ≤ log.size) wait is.room)))

  pub flush_beside : (s d : List ℕ) → log.start + log.size ≤ length s
      → d ≡ splice (start + gate) (165 ∷ []) (splice (start + gate + 1) (body (drop 4 (take fill bytes))) s) → IsOutside log.start log.size s d
  flush_beside s d on_disk written =
      subst (IsOutside log.start log.size s) (sym (written ∙ ap (λ (p : ℕ). splice p (165 ∷ []) (splice (p + 1) (body (drop 4 (take fill bytes))) s)) place_is))
      (flush_outside log.start log.gate log.size s (drop 4 (take fill bytes)) on_disk (subst (λ (l : List ℕ). log.gate + length l + 6 ≤ log.size) (sym is.waits) is.room))

-- what changes nothing in the area leaves its blocks
pub held_stays : (start gate size : ℕ) (old new : List ℕ) (groups : List (List Entry)) → Holds start gate size old groups → length new ≡ length old → ((i : ℕ) → start ≤ i → i < start + size → get_or new i 0 ≡ get_or old i 0) → Holds start gate size new groups
held_stays start gate size old new groups h same each = record {
  on_disk = omega (arith, h.on_disk, same);
  inside = h.inside;
  length = h.length;
  before = part_same start gate new old same (omega (arith, h.on_disk, h.inside)) (λ i lo hi. each i lo (omega (arith, h.inside))) ∙ h.before;
  shut = λ is. h.shut (sym (each (start + gate) (omega arith) (omega (arith, h.inside))) ∙ is);
}

-- an area that was begun with a first block holds it
pub begun_holds : (start gate size : ℕ) (disk first : List ℕ) (es : List Entry) → first ≡ group es → gate ≡ 5 + length first → gate < size → start + size ≤ length disk → part start (gate + 1) disk ≡ block first ++ 0 ∷ [] → Holds start gate size disk (es ∷ [])
begun_holds start gate size disk first es records place inside on_disk is =
    let long : length (block first) ≡ gate = omega (arith, length-block first) in
    let last : get_or (block first ++ 0 ∷ []) gate 0 ≡ 0 = get_or-append_right (block first) (0 ∷ []) gate gate 0 long (omega arith) ∙ ap (λ k. get_or (0 ∷ []) k 0) (let e : gate - gate ≡ 0 = omega arith in e) in
    let there : get_or disk (start + gate) 0 ≡ 0 = sym (byte-part start (gate + 1) disk gate (omega arith)) ∙ ap (λ (l : List ℕ). get_or l gate 0) is ∙ last in
    record {
      on_disk = on_disk;
      inside = inside;
      length = omega (arith, ap (λ (l : List ℕ). length (block l)) records, long, length-append (block (group es)) []);
      before = sym (take-take gate (gate + 1) (drop start disk) (omega arith)) ∙ ap (take gate) is ∙ take_at (block first) (0 ∷ []) gate long
          ∙ ap block records ∙ sym (append-nil (block (group es)));
      shut = λ is_open. absurd (omega (arith, is_open, there));
    }
