-- Pages and their slots.
use Rattle.std.proofs.Common.{◌≡◌, ◌≢◌, inl, inr, ⊎_elim, Bool, ℕ, zero, suc, ◌+◌, ◌≤◌, List, length, get_or, Some, refl, sym, ◌∙◌, ap, subst, arith}
use Rattle.std.specs.Bool.{Decides}
use Rattle.disk_io.specs.Disk.{part, splice}
use Rattle.disk_io.specs.Bytes.{part-splice}
use Rattle.page_store.specs.Image.{slot_at, named}
use Rattle.page_store.specs.Kept.{Outside, new_slot}
use Rattle.page_store.proofs.Old.{outside_splice}

some_same : {x y : List ℕ} → Some x ≡ Some y → x ≡ y
some_same h = cc

pub page_decides : (room p m slot : ℕ) (s into page : List ℕ) (same : Bool) → ((j : ℕ) → m ≡ suc j → slot ≡ j) → m ≢ 0 → into ≡ part (slot_at room p slot) 8192 s → Decides same (into ≡ page) → Decides same (named room p m s ≡ Some page)
page_decides room p zero slot s into page same is some from decides = absurd (some refl)
page_decides room p (suc j) slot s into page same is some from decides =
    let here : into ≡ part (slot_at room p j) 8192 s = from ∙ ap (λ n. part (slot_at room p n) 8192 s) (is j refl) in
    (λ t. ap Some (sym here ∙ decides.0 t), λ e. decides.1 (here ∙ some_same e))

pub outside_none : (at n : ℕ) (d c : List ℕ) → c ≡ d → Outside at n d c
outside_none at n d c same = record { size = ap length same; same = λ i out. ap (λ (l : List ℕ). get_or l i 0) same }

pub outside_wider : (room p j : ℕ) (d c : List ℕ) → j ≤ 1 → Outside (slot_at room p j) 8192 d c → Outside (slot_at room p 0) 16384 d c
outside_wider room p j d c le out = record { size = out.size; same = λ i o. out.same i (⊎_elim (λ a. inl (omega (arith, a))) (λ b. inr (omega (arith, b))) o) }

-- a page that was written to a slot
module _ (room p slot m : ℕ) (d d' page : List ℕ) (long : length page ≡ 8192) (is : slot ≡ new_slot m) (fits : slot_at room p slot + 8192 ≤ length d) (wrote : d' ≡ splice (slot_at room p slot) page d) where
  pub slot_written : part (slot_at room p (new_slot m)) 8192 d' ≡ page
  slot_written =
      ap (part (slot_at room p (new_slot m)) 8192) (wrote ∙ ap (λ n. splice (slot_at room p n) page d) is)
      ∙ ap (λ n. part (slot_at room p (new_slot m)) n (splice (slot_at room p (new_slot m)) page d)) (sym long)
      ∙ part-splice (slot_at room p (new_slot m)) page d (omega (arith, fits, is, long))

  pub slot_outside : Outside (slot_at room p (new_slot m)) 8192 d d'
  slot_outside =
      subst (λ n. Outside (slot_at room p n) 8192 d d') is
      (subst (λ n. Outside (slot_at room p slot) n d d') long
      (subst (Outside (slot_at room p slot) (length page) d) (sym wrote) (outside_splice (slot_at room p slot) page d (omega (arith, fits, long)))))
