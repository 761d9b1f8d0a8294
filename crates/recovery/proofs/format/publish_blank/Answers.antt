use Rattle.std.proofs.Common.{◌≡◌, ◌++◌, ◌∷◌, [], ℕ, Bool, false, List, length, replicate, sym, ◌∙◌, ap, subst, arith}
use Rattle.std.proofs.lemmas.List.{length-replicate}
use Rattle.std.proofs.lemmas.Result.{on_ok_weaker}
use Rattle.page_store.specs.Publish.{IsFirstBlock, IsNew, area_room}
use Rattle.page_store.specs.Store.{pages_in, page_bytes}
use Rattle.log_records.specs.Area.{block}
use Rattle.wal_log.specs.Log.{LogState, new_log}
use Rattle.log_disk.specs.Calls.{first_block}
use Rattle.recovery.specs.Formatted.{area_bytes}
use Rattle.recovery.proofs.Blanks.{six_bytes, first_is, first_facts, blank_bears, first_header}
use Rattle.recovery.proofs.format.publish_blank.Goals as goal

pub publish-requires-clause-block : goal.publish-requires-clause-block
publish-requires-clause-block g c = subst IsFirstBlock (sym (c.first_block.ensures.bytes ∙ ap (λ (l : LogState). block l.first ++ 0 ∷ []) c.requires.log)) first_is

pub publish-requires-clause-block_fits : goal.publish-requires-clause-block_fits
publish-requires-clause-block_fits g c =
    let six : length c.first_block.result.now ≡ 6 = ap length (c.first_block.ensures.bytes ∙ ap (λ (l : LogState). block l.first ++ 0 ∷ []) c.requires.log ∙ six_bytes) in
    omega (arith, six, ap length c.requires.stored, length-replicate c.args.pages false, c.requires.size, c.requires.geometry.least_log)

pub returns-clause-blank : goal.returns-clause-blank
returns-clause-blank g c told =
    let room : area_room (g.D.Disk.size_of c.args.disk.now) (pages_in c.args.store.now) ≡ area_bytes c.args.log_kib =
    omega (arith, ap length c.requires.stored, length-replicate c.args.pages false, c.requires.size) in
    let bytes : c.first_block.result.now ≡ first_block (new_log (area_bytes c.args.log_kib)) = c.first_block.ensures.bytes ∙ ap (λ (l : LogState). block l.first ++ 0 ∷ []) c.requires.log in
    let after = g.D.Disk.seen c.publish.new.disk in
    on_ok_weaker c.publish.result
    (λ new. blank_bears (area_bytes c.args.log_kib) c.args.pages (page_bytes c.args.store.now) after (omega (arith, c.requires.geometry.least_log))
    (subst (λ (n : ℕ). IsNew n first_facts (first_block (new_log (area_bytes c.args.log_kib))) (replicate c.args.pages false) (page_bytes c.args.store.now) after) room
    (subst (λ (b : List ℕ). IsNew (area_room (g.D.Disk.size_of c.args.disk.now) (pages_in c.args.store.now)) first_facts b (replicate c.args.pages false) (page_bytes c.args.store.now) after) bytes
    (subst (λ (flags : List Bool). IsNew (area_room (g.D.Disk.size_of c.args.disk.now) (pages_in c.args.store.now)) first_facts c.first_block.result.now flags (page_bytes c.args.store.now) after) c.requires.stored new))))
    (c.publish.ensures.published told)

pub returns-clause-header : goal.returns-clause-header
returns-clause-header g c told =
    let room : area_room (g.D.Disk.size_of c.args.disk.now) (pages_in c.args.store.now) ≡ area_bytes c.args.log_kib =
    omega (arith, ap length c.requires.stored, length-replicate c.args.pages false, c.requires.size) in
    let after = g.D.Disk.seen c.publish.new.disk in
    on_ok_weaker c.publish.result
    (λ new. first_header (area_bytes c.args.log_kib) c.args.pages c.first_block.result.now (page_bytes c.args.store.now) after
    (subst (λ (n : ℕ). IsNew n first_facts c.first_block.result.now (replicate c.args.pages false) (page_bytes c.args.store.now) after) room
    (subst (λ (flags : List Bool). IsNew (area_room (g.D.Disk.size_of c.args.disk.now) (pages_in c.args.store.now)) first_facts c.first_block.result.now flags (page_bytes c.args.store.now) after) c.requires.stored new)))
    (c.publish.ensures.published told)
