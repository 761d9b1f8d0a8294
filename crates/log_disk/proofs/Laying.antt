-- For whole blocks and stored pages there is what is placed.
use Rattle.std.proofs.Common.{◌≡◌, ℕ, ◌+◌, ◌^◌, ◌<◌, List, [], ◌∷◌, ◌++◌, length, drop, get_or, Option, Some, None, Ok, refl, sym, ap, subst, ◌∙◌, arith, append_assoc, length-append, length-take}
use Rattle.std.specs.Prelude.{reverse}
use Rattle.std.proofs.lemmas.Option.{none-some}
use Rattle.disk_io.specs.Disk.{AreBytes}
use Rattle.page_store.specs.Image as page
use Rattle.page_store.specs.Image.{area_at}
use Rattle.log_records.specs.declared.record.Scanned.{Scanned}
use Rattle.log_records.specs.Area.{Entry, group, block, blocks, at_places, laid, unplaced}
use Rattle.log_records.specs.Scan.{scanned}
use Rattle.iv_meaning.specs.Schema.{Schema}
use Rattle.txn_log.specs.Appended.{Numbered}
use Rattle.txn_log.specs.Refused.{Placed}
use Rattle.log_disk.specs.Spelled.{LeadTo}
use Rattle.log_disk.specs.Found.{IsWhole}
use Rattle.log_disk.specs.Placed.{StandsFor, known, AreCarriedAt, AreFurtherAt, data_limit, PlacedThereLaw}
use Rattle.log_disk.proofs.Areas.{block_long}
use Rattle.log_disk.proofs.Living.{first_ends}
use Rattle.log_disk.proofs.Spelling.{leads_once}
use Rattle.log_disk.proofs.Lying.{log_is_part, log_bytes}
use Rattle.log_disk.proofs.Scanning.{AreBlocks, scanned_are}

-- ---- blocks

some_number : (m n : ℕ) → Some m ≡ Some n → m ≡ n
some_number m n e = cc

-- the first block of a whole log ends at the redo place, and the others are behind it
record AreSplit (here : page.Image) : Type 0 where
  first : List Entry
  others : List (List Entry)
  scan : scanned here.log ≡ Ok (laid 0 (first ∷ others))
  redo : here.redo ≡ length (block (group first))

split_whole : (room count : ℕ) (c : List ℕ) (here : page.Image) → AreBytes c → IsWhole room count c here → AreSplit here
split_whole room count c here bytes whole = by all.groups all.split all.read
  where
    all : AreBlocks 0 here.log whole.records
    all = scanned_are here.log whole.records (log_bytes room count c here bytes whole.means) whole.scan

    by : (groups : List (List Entry)) → here.log ≡ blocks groups ++ all.tail → whole.records ≡ laid 0 groups → AreSplit here
    by [] split read = absurd (none-some here.redo (sym ((first_ends here.log).0 (λ gate. all.shut (ap (λ (l : List ℕ). get_or l 0 0) (sym split) ∙ gate))) ∙ whole.first_end))
    by (g ∷ groups) split read =
        let rest : List ℕ = blocks groups ++ all.tail in
        let apart : here.log ≡ block (group g) ++ rest = split ∙ append_assoc (block (group g)) (blocks groups) all.tail in
        let most = whole.limited.areas.1 in
        let short : length (group g) < 2 ^ 32 =
        omega (arith, ap length apart, length-append (block (group g)) rest, block_long (group g), ap length (log_is_part room count c here whole.means), length-take room (drop (area_at room here.area) c), most) in
        record {
          first = g;
          others = groups;
          scan = whole.scan ∙ ap Ok read;
          redo = some_number here.redo (length (block (group g))) (sym whole.first_end ∙ (first_ends here.log).1 (group g) rest apart short);
        }

-- ---- what records stand for

stands_or : (objects : Schema) (e : Entry) → ((o : Option Numbered) → StandsFor objects e o → ⊥) → ⊥
stands_or objects e never = never None (λ n fits is. never (Some n) (fits, is))

carried_there : (at : ℕ) (objects : Schema) (ss : List Scanned) → ((rs : List Placed) → AreCarriedAt at objects rs ss → ⊥) → ⊥
carried_there at objects [] never = never [] tt
carried_there at objects (s ∷ ss) never = carried_there at objects ss (λ rs are. stands_or objects (unplaced s) (λ o stands.
    never (record { place = at + s.place; entry = o } ∷ rs) (refl, stands, are)))

further_or : (objects : Schema) (rs : List Placed) (e : Entry) → ((o : Option Numbered) → ((before : Schema) → LeadTo objects (known rs) before → StandsFor before e o) → ⊥) → ⊥
further_or objects rs e never = never None (λ before leads n fits is.
    never (Some n) (λ other also. subst (λ x. StandsFor x e (Some n)) (leads_once objects (known rs) before other leads also) (fits, is)))

further_there : (at : ℕ) (objects : Schema) (ss : List Scanned) → ((rs : List Placed) → AreFurtherAt at objects rs ss → ⊥) → ⊥
further_there at objects [] never = never [] tt
further_there at objects (s ∷ ss) never = further_there at objects ss (λ rs are. further_or objects rs (unplaced s) (λ o stands.
    never (record { place = at + s.place; entry = o } ∷ rs) (refl, stands, are)))

pub placed_there : PlacedThereLaw
placed_there room count c here bytes whole p stored commits never =
    let split = split_whole room count c here bytes whole in
    let at : ℕ = area_at here.area_size here.area in
    carried_there at p.db.schema (reverse (at_places 5 split.first)) (λ cs carried. further_there at p.db.schema (reverse (laid here.redo split.others)) (λ rs after.
    never (record { pages = p; carried = cs; after = rs; texts = stored.texts; data_limit = Some (data_limit here.pages) }) refl
    (record {
      stored = stored;
      commits = commits;
      texts = refl;
      limit = refl;
      first = split.first;
      others = split.others;
      scan = split.scan;
      redo = split.redo;
      carried = carried;
      after = after;
    })))
