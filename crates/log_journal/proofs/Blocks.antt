-- The first block of an area, and blocks behind it.
use Rattle.std.specs.Prelude.{reverse}
use Rattle.std.proofs.Common.{◌≡◌, Bool, ℕ, zero, suc, ◌+◌, ◌-◌, ◌^◌, ◌<◌, ◌≤◌, List, [], ◌∷◌, ◌++◌, length, get_or, take, drop, Option, Some, None, refl, sym, ◌∙◌, ap, subst, arith, length-append, length-take, length-drop, append-nil}
use Rattle.std.specs.List.{AllByRecursion}
use Rattle.std.proofs.lemmas.List.{take-take, take_at, take-append-drop, reverse-reverse, get_or-append_right, get_or-take, get_or-drop}
use Rattle.byteorder.specs.Endian.{big_bytes}
use Rattle.byteorder.specs.Numbers.{big_number-reads_back}
use Rattle.disk_io.specs.Disk.{part}
use Rattle.page_store.specs.declared.facts.HeaderFacts.{HeaderFacts}
use Rattle.page_store.specs.Image as page
use Rattle.page_store.specs.Image.{Image, image, image_at, image_by, live}
use Rattle.page_store.specs.Publish.{IsFirstBlock, IsNew}
use Rattle.log_records.specs.Area.{Entry, group, block, Begins, IsSmall, FitsBlock}
use Rattle.wal_log.specs.Log.{LogState, area_at, after_flush, Holds, BegunHolds}
use Rattle.wal_log.proofs.KeptLaws.{block_is}
use Rattle.txn_log.proofs.Groups.{one_group_more}
use Rattle.log_journal.specs.Standing.{HasBlocks}
use Rattle.log_journal.specs.Saved.{first_block}

pub all_push : {X : Type 0} (P : X → Type 0) (xs : List X) (y : X) → AllByRecursion P xs → P y → AllByRecursion P (xs ++ y ∷ [])
all_push P [] y h k = (k, tt)
all_push P (x ∷ xs) y h k = (h.0, all_push P xs y h.1 k)

pub flushed_blocks : (log : LogState) (s c : List ℕ) (carried waiting flushed : List Entry) → HasBlocks log s carried flushed → log.waiting ≡ group (reverse waiting) → AllByRecursion IsSmall (reverse waiting)
    → length log.waiting < 2 ^ 28
    → ((groups : List (List Entry)) (rs : List Entry) → Holds log.start log.gate log.size s groups → log.waiting ≡ group rs → Holds log.start (log.gate + (5 + length log.waiting)) log.size c (groups ++ rs ∷ []))
    → HasBlocks (after_flush log) c carried (waiting ++ flushed)
flushed_blocks log s c carried waiting flushed has is small short holds = record {
  first = has.first;
  first_is = has.first_is;
  others = has.others ++ reverse waiting ∷ [];
  holds = holds (has.first ∷ has.others) (reverse waiting) has.holds is;
  fit = (has.fit.0, all_push FitsBlock has.others (reverse waiting) has.fit.1 (record { small = small; short = subst (λ (bs : List ℕ). length bs < 2 ^ 32) is (omega (arith, short)) }));
  are = one_group_more has.others (reverse waiting) ∙ (λ t. reverse-reverse waiting t ++ has.are t);
}

-- ---- the first block

-- a gate, a length, the records and the gate behind them
pub first_long : (log : LogState) → length (first_block log) ≡ 6 + length log.first
first_long log = omega (arith, ap length (block_is log.first), length-append (big_bytes 4 (length log.first)) log.first, length-append (block log.first) (0 ∷ []))

-- where the closed gate stands
pub gate_behind : (bs : List ℕ) (n : ℕ) → n ≡ length bs → get_or (bs ++ 0 ∷ []) n 0 ≡ 0
gate_behind bs n is = get_or-append_right bs (0 ∷ []) n n 0 (sym is) (omega arith) ∙ ap (λ k. get_or (0 ∷ []) k 0) (let e : n - n ≡ 0 = omega arith in e)

opened_block : (bytes : List ℕ) → get_or (block bytes ++ 0 ∷ []) 0 0 ≡ 165
unfolding block
opened_block bytes = refl

long_block : (bytes : List ℕ) → length bytes < 2 ^ 32 → page.number_at 4 1 (block bytes ++ 0 ∷ []) ≡ length bytes
unfolding block
long_block bytes short = big_number-reads_back 4 (length bytes) (bytes ++ 0 ∷ []) short

pub first_is : (log : LogState) → length log.first < 2 ^ 28 → IsFirstBlock (first_block log)
first_is log short = record {
  some = omega (arith, first_long log);
  opens = opened_block log.first;
  long = omega (arith, first_long log, long_block log.first (omega (arith, short)));
  shut = λ is. absurd (let e = gate_behind (block log.first) (length (first_block log) - 1) (omega (arith, length-append (block log.first) (0 ∷ []))) in omega (arith, e, is));
}

-- behind the records stands a closed gate
pub block_end : (log : LogState) (es : List Entry) → log.first ≡ group es → length (first_block log) - 1 ≡ length (block (group es))
block_end log es is = (let more = length-append (block log.first) (0 ∷ []) in let e : length (first_block log) - 1 ≡ length (block log.first) = omega (arith, more) in e) ∙ ap (λ (bs : List ℕ). length (block bs)) is

-- an area that begins with the first block begins with its records
pub first_begins : (log : LogState) (es : List Entry) (area : List ℕ) → log.first ≡ group es → take (length (first_block log)) area ≡ first_block log → Begins (es ∷ []) area
first_begins log es area is begins = record {
  tail = drop n area;
  split = sym (take-append-drop n area) ∙ ap (λ (bs : List ℕ). bs ++ drop n area) (front ∙ ap block is ∙ sym (append-nil (block (group es))));
  more = omega (arith, longer, ap length begins, length-take (length (first_block log)) area, length-drop n area);
  shut = λ open_gate. absurd (
      let e : 0 ≡ 165 = sym shut ∙ ap (λ k. get_or area k 0) (let f : n ≡ n + 0 = omega arith in f) ∙ sym (get_or-drop n area 0 0) ∙ open_gate in
      omega (arith, e));
}
  where
    n : ℕ
    n = length (block log.first)

    longer : length (first_block log) ≡ n + 1
    longer = length-append (block log.first) (0 ∷ [])

    front : take n area ≡ block log.first
    front = sym (take-take n (length (first_block log)) area (omega (arith, longer))) ∙ ap (take n) begins ∙ take_at (block log.first) (0 ∷ []) n refl

    shut : get_or area n 0 ≡ 0
    shut = sym (get_or-take (length (first_block log)) area n 0 (omega (arith, longer))) ∙ ap (λ (bs : List ℕ). get_or bs n 0) begins ∙ gate_behind (block log.first) n refl

-- ---- a log area behind a new header

some_image : {x y : Image} → Some x ≡ Some y → x ≡ y
some_image h = cc

log_at : (room count k : ℕ) (c : List ℕ) → (image_at room count k c).log ≡ part (page.area_at room (image_at room count k c).area) room c
unfolding image_at
log_at room count k c = refl

-- the log of an image stands in the area that it names
pub log_of : (room count : ℕ) (c : List ℕ) (here : Image) → image room count c ≡ Some here → here.log ≡ part (page.area_at room here.area) room c
log_of room count c here means = by_live (live c) means
  where
    by_live : (o : Option ℕ) → image_by room count o c ≡ Some here → here.log ≡ part (page.area_at room here.area) room c
    by_live None is = absurd (let e : None ≡ Some here = is in cc)
    by_live (Some k) is = subst (λ (x : Image). x.log ≡ part (page.area_at room x.area) room c) (some_image is) (log_at room count k c)

pub same_area : (size a : ℕ) → area_at size a ≡ page.area_at size a
same_area size zero = refl
same_area size (suc a) = refl

-- a new image has the first block, with its records, in the log's area
pub begun_blocks : (log : LogState) (facts : HeaderFacts) (flags : List Bool) (bytes c : List ℕ) (carried : List Entry) → log.start ≡ area_at log.size facts.area → log.first ≡ group (reverse carried)
    → AllByRecursion IsSmall (reverse carried) → log.gate ≡ 5 + length log.first → length log.first < 2 ^ 28 → log.gate + 1 ≤ log.size → log.start + log.size ≤ length c → BegunHolds log
    → IsNew log.size facts (first_block log) flags bytes c → HasBlocks log c carried []
begun_blocks log facts flags bytes c carried start first small gate short room on_disk begins new = record {
  first = reverse carried;
  first_is = refl;
  others = [];
  holds = begins c (reverse carried) first gate on_disk there;
  fit = (record { small = small; short = subst (λ (bs : List ℕ). length bs < 2 ^ 32) first (omega (arith, short)) }, tt);
  are = refl;
}
  where
    long : length (first_block log) ≡ log.gate + 1
    long = omega (arith, first_long log, gate)

    there : part log.start (log.gate + 1) c ≡ first_block log
    there =
        sym (take-take (log.gate + 1) log.size (drop log.start c) room)
        ∙ ap (λ (n : ℕ). take (log.gate + 1) (part n log.size c)) (start ∙ same_area log.size facts.area)
        ∙ ap (take (log.gate + 1)) (sym (log_of log.size (length flags) c _ new.means))
        ∙ ap (λ (n : ℕ). take n new.log) (sym long)
        ∙ new.begins

-- what holds of a header and a block, by other names
pub renewed : (P : ℕ → HeaderFacts → List ℕ → Type 0) (room size : ℕ) (block bytes : List ℕ) (number commits next entry area : ℕ) → room ≡ size → block ≡ bytes → next ≡ entry
    → P room (record { format = 1; number = number; commits = commits; next_entry = next; area = area }) block
    → P size (record { format = 1; number = number; commits = commits; next_entry = entry; area = area }) bytes
renewed P room size block bytes number commits next entry area a b d is =
    subst (λ (n : ℕ). P size (record { format = 1; number = number; commits = commits; next_entry = n; area = area }) bytes) d
    (subst (λ (l : List ℕ). P size (record { format = 1; number = number; commits = commits; next_entry = next; area = area }) l) b
    (subst (λ (n : ℕ). P n (record { format = 1; number = number; commits = commits; next_entry = next; area = area }) block) a is))
