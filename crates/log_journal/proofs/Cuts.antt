-- What a crash leaves of a journal, at any moment of its calls.
use Rattle.std.specs.Prelude.{reverse}
use Rattle.std.proofs.Common.{◌≡◌, ◌≢◌, ◌⊎◌, inl, inr, ⊎_elim, Bool, ℕ, ◌-◌, ◌^◌, ◌<◌, ◌≤◌, List, [], ◌∷◌, ◌++◌, length, Some, refl, sym, ◌∙◌, ap, subst, arith}
use Rattle.std.specs.List.{AllByRecursion}
use Rattle.std.proofs.lemmas.List.{reverse-reverse}
use Rattle.disk_io.specs.Disk.{part, LeavesOnly}
use Rattle.disk_io.proofs.Moments.{weaker_on}
use Rattle.iv_types.specs.Definitions.{Definitions}
use Rattle.page_store.specs.Image as page
use Rattle.page_store.specs.Image.{Image, image, image_at, live, area_of}
use Rattle.page_store.specs.Publish.{OtherArea, IsNew, OldOrNew}
use Rattle.ordered_index.specs.Drawn.{IsDrawn}
use Rattle.ordered_index.specs.Tree.{Tree, map_of}
use Rattle.log_records.specs.Area.{Entry, Begins, FitsBlock}
use Rattle.wal_log.specs.Log.{FlushLeaves}
use Rattle.wal_log.proofs.BlockLaws.{begins_of}
use Rattle.txn_log.specs.Groups.{after_of}
use Rattle.txn_log.proofs.Groups.{one_group_more}
use Rattle.log_disk.proofs.Areas.{image_live}
use Rattle.core_journal.specs.Records.{Records, flushed_all}
use Rattle.core_journal.specs.Cuts.{Cut, cut_of}
use Rattle.log_journal.specs.declared.journal.LogJournal.{LogJournal}
use Rattle.log_journal.specs.Saved.{MarksSaved, HasSaved, next_header, first_block}
use Rattle.log_journal.specs.Standing.{HasBlocks, Has, Carries}
use Rattle.log_journal.specs.Cuts.{BearsCut, ImageOrCut, IsBorne, Medium, medium_of, Leaves}
use Rattle.log_journal.proofs.Blocks.{all_push, block_end, first_begins, log_of, same_area}
use Rattle.log_journal.proofs.Stands.{area_low, area_high, image_stays, saved_image}

-- ---- the area in use

area_is : (room count k : ℕ) (c : List ℕ) (here : Image) → image_at room count k c ≡ here → area_of k c ≡ here.area
unfolding image_at
area_is room count k c here is = ap (λ (x : Image). x.area) is

-- it is that which the header names
the_area : (room count area : ℕ) (c : List ℕ) (here : Image) → image room count c ≡ Some here → here.area ≤ 1 → area ≤ 1 → OtherArea (1 - area) c → here.area ≡ area
the_area room count area c here means low less other =
    let l = image_live room count c here means in
    let at = area_is room count l.0 c here l.3 in
    not_other here.area low (λ (is : 1 - area ≡ here.area). other l.0 l.1 (is ∙ sym at))
  where
    not_other : (a : ℕ) → a ≤ 1 → 1 - area ≢ a → a ≡ area
    not_other ℕ.zero le apart = by area less apart
      where
        by : (b : ℕ) → b ≤ 1 → 1 - b ≢ 0 → 0 ≡ b
        by ℕ.zero le apart = refl
        by (ℕ.suc b) le apart = absurd (apart (omega (arith, le)))
    not_other (ℕ.suc a) le apart = by area less apart
      where
        by : (b : ℕ) → b ≤ 1 → 1 - b ≢ ℕ.suc a → ℕ.suc a ≡ b
        by ℕ.zero less apart = absurd (apart (omega (arith, le)))
        by (ℕ.suc b) less apart = omega (arith, le, less)

-- ---- what stands there

module _ {D : Type 0} (is_told : Type 0) (size_of : D → ℕ) (seen : D → List ℕ) (may_leave : D → List ℕ → Type 0) (journal : LogJournal D) (rs : Records) (has : Has is_told size_of seen may_leave journal rs) (told : is_told) where
  abbrev pub own_room : ℕ
  own_room = journal.log.size

  abbrev pub own_count : ℕ
  own_count = journal.pages

  abbrev pub own_bytes : List ℕ
  own_bytes = seen journal.disk

  abbrev pub blocks_here : HasBlocks journal.log own_bytes rs.saved.carried rs.flushed
  blocks_here = has.flushed told

  abbrev pub saved_here : HasSaved own_room own_count own_bytes rs.saved
  saved_here = has.image told

  start_is : page.area_at own_room saved_here.here.area ≡ journal.log.start
  start_is =
      ap (page.area_at own_room) (the_area own_room own_count journal.area own_bytes saved_here.here saved_here.means saved_here.low_area has.kept.low_area (has.kept.header told).names)
      ∙ sym (has.in_area ∙ same_area own_room journal.area)

  -- blocks of the area in use stand in the log of the image
  in_log : (c : List ℕ) (groups : List (List Entry)) → Begins groups (part journal.log.start own_room c) → Begins groups (part (page.area_at own_room saved_here.here.area) own_room c)
  in_log c groups = subst (λ (n : ℕ). Begins groups (part n own_room c)) (sym start_is)

  abbrev pub now : Cut
  now = cut_of rs

  fit_here : AllByRecursion FitsBlock (reverse rs.saved.carried ∷ blocks_here.others)
  fit_here = subst (λ (es : List Entry). AllByRecursion FitsBlock (es ∷ blocks_here.others)) blocks_here.first_is blocks_here.fit

  pub stands_now : BearsCut own_room own_count own_bytes now
  stands_now = record {
    saved = saved_here;
    others = blocks_here.others;
    fit = fit_here;
    begins = subst (Begins (reverse rs.saved.carried ∷ blocks_here.others)) (sym (log_of own_room own_count own_bytes saved_here.here saved_here.means))
        (in_log own_bytes (reverse rs.saved.carried ∷ blocks_here.others)
        (subst (λ (es : List Entry). Begins (es ∷ blocks_here.others) (part journal.log.start own_room own_bytes)) blocks_here.first_is
        (begins_of journal.log.start journal.log.gate own_room own_bytes (blocks_here.first ∷ blocks_here.others) blocks_here.holds)));
    are = blocks_here.are;
  }

  -- what a crash in a flush leaves
  module _ (long : length own_bytes ≡ size_of journal.disk) (short : length journal.log.waiting < 2 ^ 28) (c : List ℕ) (leaves : FlushLeaves journal.log own_bytes (blocks_here.first ∷ blocks_here.others) (reverse rs.waiting) c) where
    abbrev pub saved_there : HasSaved own_room own_count c rs.saved
    saved_there = image_stays own_room own_count journal.log.start own_bytes c rs.saved (long ∙ has.kept.parts.whole) has.kept.parts.most_pages (subst (λ (n : ℕ). 278528 ≤ n) (sym has.in_area) (area_low own_room journal.area))
        (omega (arith, has.in_area, area_high own_room journal.area)) leaves.others saved_here

    borne : (others : List (List Entry)) (records : List Entry) → AllByRecursion FitsBlock (reverse rs.saved.carried ∷ others) → Begins (blocks_here.first ∷ others) (part journal.log.start own_room c) → after_of others ≡ records
        → BearsCut own_room own_count c (record { saved = rs.saved; records = records })
    borne others records fit begins are = record {
      saved = saved_there;
      others = others;
      fit = fit;
      begins = in_log c (reverse rs.saved.carried ∷ others) (subst (λ (es : List Entry). Begins (es ∷ others) (part journal.log.start own_room c)) blocks_here.first_is begins);
      are = are;
    }

    pub flush_leaves : BearsCut own_room own_count c now ⊎ BearsCut own_room own_count c (cut_of (flushed_all rs))
    flush_leaves = ⊎_elim
        (λ begins. inl (borne blocks_here.others rs.flushed fit_here begins blocks_here.are))
        (λ begins. inr (borne (blocks_here.others ++ reverse rs.waiting ∷ []) (rs.waiting ++ rs.flushed)
        (fit_here.0, all_push FitsBlock blocks_here.others (reverse rs.waiting) fit_here.1 (record { small = has.small; short = subst (λ (bs : List ℕ). length bs < 2 ^ 32) has.waiting (omega (arith, short)) }))
        begins
        (one_group_more blocks_here.others (reverse rs.waiting) ∙ (λ t. reverse-reverse rs.waiting t ++ blocks_here.are t))))
        leaves.area

-- ---- what a checkpoint leaves

-- other bytes with the same image
cut_same : (room count : ℕ) (s c : List ℕ) (x : Cut) → image room count c ≡ image room count s → BearsCut room count s x → BearsCut room count c x
cut_same room count s c x same b = record {
  saved = record {
    here = b.saved.here;
    means = same ∙ b.saved.means;
    format = b.saved.format;
    pages = b.saved.pages;
    areas = b.saved.areas;
    low_area = b.saved.low_area;
    low_map = b.saved.low_map;
    commit_number = b.saved.commit_number;
    next_number = b.saved.next_number;
    redo = b.saved.redo;
    kept = b.saved.kept;
    marks = b.saved.marks;
    entries = b.saved.entries;
  };
  others = b.others;
  fit = b.fit;
  begins = b.begins;
  are = b.are;
}

module _ {D : Type 0} (is_told : Type 0) (size_of : D → ℕ) (seen : D → List ℕ) (may_leave : D → List ℕ → Type 0) (old : LogJournal D) (records : Records) (next : ℕ) (es : List Entry) (used : ℕ) (has : Carries is_told size_of seen may_leave old records next es used)
    (commits : ℕ) (flags : List Bool) (bytes : List ℕ) (t : Tree) (pages : t.pages ≡ old.pages) (drawn : IsDrawn t flags bytes) (definitions : Definitions) (marks : MarksSaved definitions t.kept) (short : length old.log.first < 2 ^ 28) where
  abbrev pub new_cut : Cut
  new_cut = record { saved = record { maps = map_of t; definitions = definitions; commits = commits; next = next; carried = es }; records = [] }

  new_borne : (c : List ℕ) → IsNew old.log.size (next_header old commits) (first_block old.log) flags bytes c → BearsCut old.log.size old.pages c new_cut
  new_borne c new = record {
    saved = saved_image old.log.size old.pages (next_header old commits) (first_block old.log) flags bytes c t pages drawn definitions marks commits next es refl refl has.next_is (omega arith) (block_end old.log (reverse es) has.first) new;
    others = [];
    fit = (record { small = has.small; short = subst (λ (bs : List ℕ). length bs < 2 ^ 32) has.first (omega (arith, short)) }, tt);
    begins = first_begins old.log (reverse es) new.log has.first new.begins;
    are = refl;
  }

  pub save_leaves : (s c : List ℕ) → OldOrNew old.log.size (next_header old commits) (first_block old.log) flags bytes s c → ImageOrCut old.log.size old.pages s new_cut c
  save_leaves s c = ⊎_elim
      (λ same. inl (subst (λ (n : ℕ). image old.log.size n c ≡ image old.log.size n s) (drawn.count ∙ pages) same))
      (λ new. inr (new_borne c new))

-- ---- at any moment

module _ {D : Type 0} (is_told : Type 0) (moment : D → ℕ) (left_since : D → ℕ → List ℕ → Type 0) where
  -- of a flush
  pub flush_any : (size_of : D → ℕ) (seen : D → List ℕ) (may_leave : D → List ℕ → Type 0) (old new : LogJournal D) (rs : Records) → Has is_told size_of seen may_leave old rs → length (seen old.disk) ≡ size_of old.disk → length old.log.waiting < 2 ^ 28
      → ((told : is_told) (blocks : HasBlocks old.log (seen old.disk) rs.saved.carried rs.flushed) → LeavesOnly moment left_since old.disk new.disk (FlushLeaves old.log (seen old.disk) (blocks.first ∷ blocks.others) (reverse rs.waiting)))
      → Leaves is_told moment left_since (medium_of old) (medium_of new) (cut_of rs) (cut_of (flushed_all rs))
  flush_any size_of seen may_leave old new rs has long short run told =
      let blocks = has.flushed told in
      weaker_on moment left_since old.disk new.disk (λ c. IsBorne c (cut_of rs) ⊎ IsBorne c (cut_of (flushed_all rs))) (FlushLeaves old.log (seen old.disk) (blocks.first ∷ blocks.others) (reverse rs.waiting)) (run told blocks)
      (λ c f. ⊎_elim (λ b. inl (old.log.size, old.pages, b)) (λ b. inr (old.log.size, old.pages, b)) (flush_leaves is_told size_of seen may_leave old rs has told long short c f))

  -- of a checkpoint
  pub image_leaves : (room count : ℕ) (s : List ℕ) (old new : Medium D) (x y : Cut) → (is_told → LeavesOnly moment left_since old.disk new.disk (ImageOrCut room count s y))
      → (is_told → BearsCut room count s x) → Leaves is_told moment left_since old new x y
  image_leaves room count s old new x y run stands told =
      weaker_on moment left_since old.disk new.disk (λ c. IsBorne c x ⊎ IsBorne c y) (ImageOrCut room count s y) (run told)
      (λ c. ⊎_elim (λ same. inl (room, count, cut_same room count s c x same (stands told))) (λ b. inr (room, count, b)))
