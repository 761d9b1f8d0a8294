use Rattle.std.proofs.Common.{◌≡◌, ◌+◌, ℕ, List, [], length, sym, ◌∙◌, ap, subst, arith}
use Rattle.disk_io.proofs.Moments.{weaker_on}
use Rattle.ordered_index.specs.Tree.{map_of}
use Rattle.disk_io.specs.Disk.{LeavesOnly}
use Rattle.page_store.specs.declared.facts.HeaderFacts.{HeaderFacts}
use Rattle.page_store.specs.Publish.{area_room, LiveFits, IsFirstBlock, IsNew, OldOrNew}
use Rattle.log_journal.specs.Saved.{next_header, first_block}
use Rattle.log_journal.specs.Cuts.{ImageOrCut}
use Rattle.log_journal.proofs.Cuts.{save_leaves}
use Rattle.log_journal.proofs.Blocks.{first_long, first_is, renewed}
use Rattle.log_journal.proofs.Stands.{saved}
use Rattle.log_journal.proofs.journal.LogJournal.publish.Goals as goal

pub publish-requires-clause-block : goal.publish-requires-clause-block
publish-requires-clause-block g c = subst IsFirstBlock (sym c.first_block.ensures.bytes) (first_is c.args.self.now.log c.first_block.ensures.short)

pub publish-requires-clause-block_fits : goal.publish-requires-clause-block_fits
publish-requires-clause-block_fits g c =
    let has = c.requires.begun.4 in
    let long : length c.first_block.result.now ≡ 6 + length c.args.self.now.log.first = ap length c.first_block.ensures.bytes ∙ first_long c.args.self.now.log in
    let room : area_room (g.D.Disk.size_of c.args.self.now.disk) c.args.maps.now.pages ≡ c.args.self.now.log.size = omega (arith, has.kept.parts.whole, c.requires.pages) in
    omega (arith, long, room, has.room, has.used_is, has.gate)

pub publish-requires-clause-live_fits : goal.publish-requires-clause-live_fits
publish-requires-clause-live_fits g c told =
    subst (λ (n : ℕ). LiveFits (g.D.Disk.size_of c.args.self.now.disk) n (g.D.Disk.seen c.args.self.now.disk)) (sym c.requires.pages) (c.requires.begun.4.kept.header told).fits

pub returns-in-Ok-clause-has : goal.returns-in-Ok-clause-has
returns-in-Ok-clause-has g c definitions records next carried used marks has =
    let room : area_room (g.D.Disk.size_of c.args.self.now.disk) c.args.maps.now.pages ≡ c.args.self.now.log.size = omega (arith, has.kept.parts.whole, c.requires.pages) in
    saved g.D.Disk.is_told g.D.Disk.size_of g.D.Disk.seen g.D.Disk.may_leave c.args.self.now records next carried used c.args.commits c.in-Ok.ensures.image.0 c.in-Ok.ensures.image.1 c.publish.new.disk has
    c.args.maps.now c.requires.pages c.in-Ok.ensures.image.2 definitions marks
    c.in-Ok.ensures.size c.first_block.ensures.short c.first_block.ensures.begins (λ told. g.met.D.Disk.has_size told c.publish.new.disk)
    (λ told. renewed (λ (n : ℕ) (facts : HeaderFacts) (block : List ℕ). IsNew n facts block c.in-Ok.ensures.image.0 c.in-Ok.ensures.image.1 (g.D.Disk.seen c.publish.new.disk))
    _ _ _ (first_block c.args.self.now.log) _ _ _ _ _ room c.first_block.ensures.bytes c.next_number.ensures (c.in-Ok.ensures.image.3 told))
    c.in-Ok.ensures.durable c.in-Ok.ensures.number_after c.in-Ok.ensures.area_after
    (λ told. subst (λ (n : ℕ). LiveFits (g.D.Disk.size_of c.publish.new.disk) n (g.D.Disk.seen c.publish.new.disk)) (ap (λ m. m.pages) c.in-Ok.ensures.maps ∙ c.requires.pages) (c.in-Ok.ensures.fits_after told))

pub returns-in-Ok-clause-image : goal.returns-in-Ok-clause-image
returns-in-Ok-clause-image g c told definitions records next carried used marks has =
    let room : area_room (g.D.Disk.size_of c.args.self.now.disk) c.args.maps.now.pages ≡ c.args.self.now.log.size = omega (arith, has.kept.parts.whole, c.requires.pages) in
    let flags = c.in-Ok.ensures.image.0 in
    let bytes = c.in-Ok.ensures.image.1 in
    let s = g.D.Disk.seen c.args.self.now.disk in
    weaker_on g.D.Disk.moment g.D.Disk.left_since c.args.self.now.disk c.publish.new.disk
    (ImageOrCut c.args.self.now.log.size c.args.self.now.pages s (record { saved = record { maps = map_of c.args.maps.now; definitions = definitions; commits = c.args.commits; next = next; carried = carried }; records = [] }))
    (OldOrNew c.args.self.now.log.size (next_header c.args.self.now c.args.commits) (first_block c.args.self.now.log) flags bytes s)
    (renewed (λ (n : ℕ) (facts : HeaderFacts) (block : List ℕ). LeavesOnly g.D.Disk.moment g.D.Disk.left_since c.args.self.now.disk c.publish.new.disk (OldOrNew n facts block flags bytes s))
    _ _ _ (first_block c.args.self.now.log) _ _ _ _ _ room c.first_block.ensures.bytes c.next_number.ensures (c.in-Ok.ensures.image.4 told (has.kept.header told).durable))
    (save_leaves g.D.Disk.is_told g.D.Disk.size_of g.D.Disk.seen g.D.Disk.may_leave c.args.self.now records next carried used has c.args.commits flags bytes c.args.maps.now c.requires.pages c.in-Ok.ensures.image.2 definitions marks c.first_block.ensures.short s)

pub returns-in-Err-clause-image : goal.returns-in-Err-clause-image
returns-in-Err-clause-image g c told definitions records next carried used marks has =
    let room : area_room (g.D.Disk.size_of c.args.self.now.disk) c.args.maps.now.pages ≡ c.args.self.now.log.size = omega (arith, has.kept.parts.whole, c.requires.pages) in
    let flags = c.in-Err.ensures.image.0 in
    let bytes = c.in-Err.ensures.image.1 in
    let s = g.D.Disk.seen c.args.self.now.disk in
    weaker_on g.D.Disk.moment g.D.Disk.left_since c.args.self.now.disk c.publish.new.disk
    (ImageOrCut c.args.self.now.log.size c.args.self.now.pages s (record { saved = record { maps = map_of c.args.maps.now; definitions = definitions; commits = c.args.commits; next = next; carried = carried }; records = [] }))
    (OldOrNew c.args.self.now.log.size (next_header c.args.self.now c.args.commits) (first_block c.args.self.now.log) flags bytes s)
    (renewed (λ (n : ℕ) (facts : HeaderFacts) (block : List ℕ). LeavesOnly g.D.Disk.moment g.D.Disk.left_since c.args.self.now.disk c.publish.new.disk (OldOrNew n facts block flags bytes s))
    _ _ _ (first_block c.args.self.now.log) _ _ _ _ _ room c.first_block.ensures.bytes c.next_number.ensures (c.in-Err.ensures.image.4 told (has.kept.header told).durable))
    (save_leaves g.D.Disk.is_told g.D.Disk.size_of g.D.Disk.seen g.D.Disk.may_leave c.args.self.now records next carried used has c.args.commits flags bytes c.args.maps.now c.requires.pages c.in-Err.ensures.image.2 definitions marks c.first_block.ensures.short s)
