-- What is placed of bytes that bear an image is that image at the places of its records.
use Rattle.std.proofs.Common.{◌≡◌, ℕ, List, [], ◌∷◌, ◌++◌, map, length, Option, Some, None, refl, sym, ap, subst, ◌∙◌, arith}
use Rattle.std.specs.Prelude.{reverse}
use Rattle.std.proofs.lemmas.List.{reverse-append}
use Rattle.page_store.specs.Image.{area_at}
use Rattle.log_records.specs.declared.record.Scanned.{Scanned}
use Rattle.log_records.specs.Area.{Entry, group, block, at_places, laid, unplaced}
use Rattle.iv_meaning.specs.Schema.{Schema}
use Rattle.txn_log.specs.Replay.{Pages}
use Rattle.txn_log.specs.Appended.{Numbered}
use Rattle.txn_log.specs.Groups.{after_of}
use Rattle.txn_log.specs.Refused.{Placed}
use Rattle.log_disk.specs.Spelled.{spelled, IsSpellable, AreSpellable, LeadTo, AreSpelled}
use Rattle.log_disk.specs.Placed.{StandsFor, with_known, known, data_limit, AreCarriedAt, AreFurtherAt, PlacedLaw}
use Rattle.log_disk.proofs.Areas.{block_long}
use Rattle.log_disk.proofs.Borne.{flat, placed_again, map_both, laid_again, same_after, first_once, ok_same, entry_once, one_texts, one_pages}

-- bytes that stand for a record stand for no other, and not for none
the_record : (objects : Schema) (e : Entry) (n : Numbered) (o : Option Numbered) → IsSpellable objects n.of → e ≡ spelled objects n → StandsFor objects e o → o ≡ Some n
the_record objects e n None fit is h = absurd (h n fit is)
the_record objects e n (Some m) fit is h = ap (λ (x : Numbered). Some x) (entry_once objects m n h.0 fit (sym h.1 ∙ is))

unplaced_turned : (xs : List Scanned) → map unplaced (reverse xs) ≡ reverse (map unplaced xs)
unplaced_turned [] = refl
unplaced_turned (x ∷ xs) =
    ap (map unplaced) (reverse-append (x ∷ []) xs) ∙ map_both (reverse xs) (x ∷ []) ∙ ap (λ (es : List Entry). es ++ unplaced x ∷ []) (unplaced_turned xs)
    ∙ sym (reverse-append (unplaced x ∷ []) (map unplaced xs))

cons_both : {X : Type 0} (x y : X) (xs ys : List X) → x ∷ xs ≡ y ∷ ys → (x ≡ y) × (xs ≡ ys)
cons_both x y xs ys e = (cc, cc)

carried_tied : (at : ℕ) (objects : Schema) (rs : List Placed) (ss : List Scanned) (ns : List Numbered) → AreCarriedAt at objects rs ss → AreSpellable objects ns → map unplaced ss ≡ map (spelled objects) ns
    → map (λ r. r.entry) rs ≡ map Some ns
carried_tied at objects [] [] [] h fit e = refl
carried_tied at objects [] [] (n ∷ ns) h fit e = absurd (cc)
carried_tied at objects [] (s ∷ ss) ns h fit e = absurd h
carried_tied at objects (r ∷ rs) [] ns h fit e = absurd h
carried_tied at objects (r ∷ rs) (s ∷ ss) [] h fit e = absurd (cc)
carried_tied at objects (r ∷ rs) (s ∷ ss) (n ∷ ns) h fit e =
    let both = cons_both (unplaced s) (spelled objects n) (map unplaced ss) (map (spelled objects) ns) e in
    let one : r.entry ≡ Some n = the_record objects (unplaced s) n r.entry fit.0 both.0 h.1 in
    let rest = carried_tied at objects rs ss ns h.2 fit.1 both.1 in
    λ t. one t ∷ rest t

further_tied : (at : ℕ) (objects : Schema) (rs : List Placed) (ss : List Scanned) (ns : List Numbered) (es : List Entry) → AreFurtherAt at objects rs ss → AreSpelled objects ns es → map unplaced ss ≡ es
    → (map (λ r. r.entry) rs ≡ map Some ns) × (known rs ≡ ns)
further_tied at objects [] [] [] [] h k e = (refl, refl)
further_tied at objects [] [] (n ∷ ns) [] h k e = absurd k
further_tied at objects [] [] ns (x ∷ es) h k e = absurd (cc)
further_tied at objects [] (s ∷ ss) ns es h k e = absurd h
further_tied at objects (r ∷ rs) [] ns es h k e = absurd h
further_tied at objects (r ∷ rs) (s ∷ ss) ns [] h k e = absurd (cc)
further_tied at objects (r ∷ rs) (s ∷ ss) [] (x ∷ es) h k e = absurd k
further_tied at objects (r ∷ rs) (s ∷ ss) (n ∷ ns) (x ∷ es) h k e =
    let both = cons_both (unplaced s) x (map unplaced ss) es e in
    let rest = further_tied at objects rs ss ns es h.2 k.0 both.1 in
    let before : Schema = k.1.0 in
    let leads : LeadTo objects (known rs) before = subst (λ xs. LeadTo objects xs before) (sym rest.1) k.1.1 in
    let one : r.entry ≡ Some n = the_record before (unplaced s) n r.entry k.1.2 (both.0 ∙ k.1.3) (h.1 before leads) in
    ((λ t. one t ∷ rest.0 t), ap (λ o. with_known o (known rs)) one ∙ ap (λ (xs : List Numbered). n ∷ xs) rest.1)

pub placed_image : PlacedLaw
placed_image room count c i b p is =
    let pages : p.pages ≡ i.pages = one_pages b.here.stored p.pages i.pages is.stored b.pages.stored (is.commits ∙ b.pages.commits) in
    let objects : p.pages.db.schema ≡ i.pages.db.schema = ap (λ (x : Pages). x.db.schema) pages in
    let at : ℕ = area_at b.here.area_size b.here.area in
    let all : flat (is.first ∷ is.others) ≡ flat (b.first ∷ b.others) =
    sym (laid_again 0 (is.first ∷ is.others)) ∙ ap (map unplaced) (ok_same (laid 0 (is.first ∷ is.others)) (laid 0 (b.first ∷ b.others)) (sym is.scan ∙ b.scan)) ∙ laid_again 0 (b.first ∷ b.others) in
    let ends : length (block (group is.first)) ≡ length (block (group b.first)) = sym is.redo ∙ b.records.redo in
    let split = first_once is.first b.first (flat is.others) (flat b.others) all (omega (arith, ends, block_long (group is.first), block_long (group b.first))) in
    let carried : map unplaced (reverse (at_places 5 is.first)) ≡ map (spelled i.pages.db.schema) i.carried =
    unplaced_turned (at_places 5 is.first) ∙ ap reverse (placed_again 5 is.first ∙ split.0) ∙ b.records.carried in
    let after : map unplaced (reverse (laid b.here.redo is.others)) ≡ after_of b.others =
    unplaced_turned (laid b.here.redo is.others) ∙ ap reverse (laid_again b.here.redo is.others ∙ split.1) ∙ sym (same_after b.others) in
    record {
      image = record {
        pages = pages;
        carried = carried_tied at i.pages.db.schema p.carried (reverse (at_places 5 is.first)) i.carried
            (subst (λ o. AreCarriedAt at o p.carried (reverse (at_places 5 is.first))) objects is.carried) b.records.fit carried;
        after = (further_tied at i.pages.db.schema p.after (reverse (laid b.here.redo is.others)) i.after (after_of b.others)
            (subst (λ o. AreFurtherAt at o p.after (reverse (laid b.here.redo is.others))) objects is.after) b.records.after after).0;
      };
      texts_are = is.texts ∙ one_texts b.here.stored p.pages i.pages is.stored b.pages.stored;
      limit = λ most. (data_limit b.here.pages, is.limit, let same = b.pages.pages in omega (arith, same, most));
    }
