use Rattle.std.proofs.Common.{ℕ, ◌≡◌, ◌+◌, ◌-◌, ◌*◌, ◌≤◌, List, take, drop, get_or, refl, sym, ap, ◌∙◌, arith}
use Rattle.slot_page.specs.Bytes.{number_at}
use Rattle.slot_page.specs.Page.{Entry, no_entry, count_of, entries, entry_at, place_of, Lies}
use Rattle.slot_page.proofs.Pages.{entry_read}
use Rattle.slot_page.proofs.entry.Goals as goal

-- where entry i is read
record Cut (page : List ℕ) (i at k v : ℕ) : Type 0 where
  fits : at + 4 + k + v ≤ 8192
  key : take k (drop (at + 4) page) ≡ (get_or (entries page) i no_entry).0
  value : take v (drop (at + 4 + k) page) ≡ (get_or (entries page) i no_entry).1

read : (page : List ℕ) (i : ℕ) → entry_at page i ≡ (take (number_at page (place_of page i)) (drop (place_of page i + 4) page), take (number_at page (place_of page i + 2)) (drop (place_of page i + 4 + number_at page (place_of page i)) page))
unfolding entry_at
read page i = refl

cut : (page : List ℕ) (i at k v : ℕ) → Lies page i → at ≡ place_of page i → k ≡ number_at page at → v ≡ number_at page (at + 2) → Cut page i at k v
cut page i at k v l at_is k_is v_is =
    let e : get_or (entries page) i no_entry ≡ (take (number_at page at) (drop (at + 4) page), take (number_at page (at + 2)) (drop (at + 4 + number_at page at) page)) =
    entry_read page i l.inside ∙ read page i ∙ ap (λ (a : ℕ). let y : Entry = (take (number_at page a) (drop (a + 4) page), take (number_at page (a + 2)) (drop (a + 4 + number_at page a) page)) in y) (sym at_is) in
    let e2 : get_or (entries page) i no_entry ≡ (take k (drop (at + 4) page), take v (drop (at + 4 + k) page)) =
    e ∙ ap (λ (a : ℕ). let y : Entry = (take a (drop (at + 4) page), take (number_at page (at + 2)) (drop (at + 4 + a) page)) in y) (sym k_is) ∙ ap (λ (a : ℕ). let y : Entry = (take k (drop (at + 4) page), take a (drop (at + 4 + k) page)) in y) (sym v_is) in
    let h : at + 4 + k + v + 2 * count_of page ≤ 8192 = rw (v_is, k_is, at_is) l.high in
    record { fits = omega arith; key = sym (ap (λ (x : Entry). x.0) e2); value = sym (ap (λ (x : Entry). x.1) e2) }

pub returns-clause-key : goal.returns-clause-key
returns-clause-key c =
    let r = cut c.args.page.now c.args.i c.number_at-at.result _ _ c.requires.lies (c.number_at-at.ensures ∙ ap (number_at c.args.page.now) (let e : 8192 - 2 - 2 * c.args.i ≡ 8190 - 2 * c.args.i = omega arith in e)) c.number_at-key_len.ensures c.number_at-value_len.ensures in
    let e : c.number_at-at.result + 4 + c.number_at-key_len.result - (c.number_at-at.result + 4) ≡ c.number_at-key_len.result = omega arith in
    rw e r.key

pub returns-clause-value : goal.returns-clause-value
returns-clause-value c =
    let r = cut c.args.page.now c.args.i c.number_at-at.result _ _ c.requires.lies (c.number_at-at.ensures ∙ ap (number_at c.args.page.now) (let e : 8192 - 2 - 2 * c.args.i ≡ 8190 - 2 * c.args.i = omega arith in e)) c.number_at-key_len.ensures c.number_at-value_len.ensures in
    let e : c.number_at-at.result + 4 + c.number_at-key_len.result + c.number_at-value_len.result - (c.number_at-at.result + 4 + c.number_at-key_len.result) ≡ c.number_at-value_len.result = omega arith in
    rw e r.value
