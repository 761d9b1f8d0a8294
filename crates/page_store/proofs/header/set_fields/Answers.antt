use Rattle.std.proofs.Common.{◌≡◌, ℕ, List, [], ◌∷◌, drop, ◌∙◌, ap}
use Rattle.std.proofs.lemmas.List.{drop-drop}
use Rattle.byteorder.specs.Endian.{big_bytes}
use Rattle.disk_io.specs.Disk.{splice}
use Rattle.page_store.specs.Publish.{header_bytes}
use Rattle.page_store.proofs.header.set_fields.Goals as goal

drops : (x : List ℕ) → drop 8 (drop 8 (drop 8 (drop 8 (drop 8 (drop 8 (drop 4 (drop 4 (drop 8 x)))))))) ≡ drop 64 x
drops x = simp drop-drop

pub returns-clause-bytes : goal.returns-clause-bytes
returns-clause-bytes c =
    let a = c.args in
    let f = c.args.facts.now in
    let h1 = c.put_bytes.ensures in
    let h2 = c.put_u32.ensures.bytes ∙ ap (splice 8 (big_bytes 4 f.format)) h1 in
    let h3 = c.put_u32-2.ensures.bytes ∙ ap (splice 12 (big_bytes 4 a.pages)) h2 in
    let h4 = c.put_u64.ensures.bytes ∙ ap (splice 16 (big_bytes 8 a.room)) h3 in
    let h5 = c.put_u64-2.ensures.bytes ∙ ap (splice 24 (big_bytes 8 f.number)) h4 in
    let h6 = c.put_u64-3.ensures.bytes ∙ ap (splice 32 (big_bytes 8 f.commits)) h5 in
    let h7 = c.put_u64-4.ensures.bytes ∙ ap (splice 40 (big_bytes 8 f.next_entry)) h6 in
    let h8 = c.put_bytes-2.ensures ∙ ap (splice 48 (f.area ∷ 0 ∷ 0 ∷ 0 ∷ 0 ∷ 0 ∷ 0 ∷ 0 ∷ [])) h7 in
    let h9 = c.put_u64-5.ensures.bytes ∙ ap (splice 56 (big_bytes 8 a.redo)) h8 in
    h9 ∙ ap (header_bytes f a.pages a.room a.redo) (drops a.header.now)

pub returns-clause-in_range : goal.returns-clause-in_range
returns-clause-in_range c = record { format = c.put_u32.ensures.in_range; number = c.put_u64-2.ensures.in_range; commits = c.put_u64-3.ensures.in_range; next_entry = c.put_u64-4.ensures.in_range }
