-- What the log keeps of its buffers.
use Rattle.std.proofs.Common.{◌≡◌, ℕ, ◌+◌, ◌-◌, ◌≤◌, List, [], ◌∷◌, ◌++◌, length, take, drop, refl, sym, ap, ◌∙◌, arith, length-take, length-drop}
use Rattle.std.proofs.lemmas.List.{drop-append-le, take_at, take-take}
use Rattle.byteorder.specs.Endian.{big_bytes}
use Rattle.log_records.specs.Area.{block}
use Rattle.log_records.specs.Buffer.{Filled}
use Rattle.wal_log.specs.Log.{LogState, after_flush}

pub length-behind : (n fill : ℕ) (buffer : List ℕ) → fill ≤ length buffer → length (drop n (take fill buffer)) ≡ fill - n
length-behind n fill buffer fits = omega (arith, length-take fill buffer, length-drop n (take fill buffer))

-- what was put is behind what was there
pub put_behind : (n fill now : ℕ) (old new text : List ℕ) → n ≤ fill → fill ≤ length old → Filled fill old now new text → drop n (take now new) ≡ drop n (take fill old) ++ text
put_behind n fill now old new text low fits filled = ap (drop n) filled.bytes ∙ drop-append-le n (take fill old) text (omega (arith, length-take fill old))

pub block_is : (w : List ℕ) → block w ≡ 165 ∷ (big_bytes 4 (length w) ++ w)
unfolding block
block_is w = refl

-- the records of a block that was enclosed are those that stood there
pub enclosed : (fill : ℕ) (old new : List ℕ) → 5 ≤ fill → fill ≤ length old → take (fill + 1) new ≡ block (drop 5 (take fill old)) ++ 0 ∷ [] → drop 5 (take fill new) ≡ drop 5 (take fill old)
enclosed fill old new low fits whole =
    let records = drop 5 (take fill old) in
    let long : length (block records) ≡ fill = omega (arith, length-behind 5 fill old fits, ap length (block_is records)) in
    ap (drop 5) (sym (take-take fill (fill + 1) new (omega arith)) ∙ ap (take fill) whole ∙ take_at (block records) (0 ∷ []) fill long)
    ∙ ap (drop 5) (block_is records)

-- a log with one more waiting record
pub one_waits : {s t : LogState} (waiting : List ℕ) (reserved : ℕ) → s ≡ t → (number size : ℕ) (text : List ℕ) → number ≡ s.next + 1 → waiting ≡ s.waiting ++ text → reserved ≡ s.reserved - size
    → record t { waiting = waiting; next = number; reserved = reserved } ≡ record s { waiting = s.waiting ++ text; next = s.next + 1; reserved = s.reserved - size }
one_waits {s = s} {t = t} waiting reserved same number size text n w r = λ i.
    record { size = (sym same i).size; start = (sym same i).start; gate = (sym same i).gate; first = (sym same i).first; waiting = w i; next = n i; reserved = r i }

-- a log with one more carried record
pub one_carried : {s t : LogState} (first : List ℕ) (gate : ℕ) → s ≡ t → (size : ℕ) (text : List ℕ) → first ≡ s.first ++ text → gate ≡ s.gate + size
    → record t { first = first; gate = gate } ≡ record s { first = s.first ++ text; gate = s.gate + size }
one_carried {s = s} {t = t} first gate same size text f g = λ i.
    record { size = (sym same i).size; start = (sym same i).start; gate = g i; first = f i; waiting = (sym same i).waiting; next = (sym same i).next; reserved = (sym same i).reserved }

-- a log whose waiting records became a block
pub one_flushed : {s t : LogState} (gate reserved : ℕ) (waiting : List ℕ) → s ≡ t → waiting ≡ [] → gate ≡ s.gate + (5 + length s.waiting) → reserved ≡ s.reserved - 5
    → record t { gate = gate; waiting = waiting; reserved = reserved } ≡ after_flush s
one_flushed {s = s} {t = t} gate reserved waiting same w g r = λ i.
    record { size = (sym same i).size; start = (sym same i).start; gate = g i; first = (sym same i).first; waiting = w i; next = (sym same i).next; reserved = r i }
