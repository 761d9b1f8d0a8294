use Rattle.std.proofs.Common.{◌≡◌, ℕ, List, length, sym, subst, ◌∙◌}
use Rattle.std.proofs.lemmas.Result.{IfOk-weaker, MatchResult-weaker}
use Rattle.txn_log.specs.Damaged.{FitsDevice}
use Rattle.txn_log.specs.Replay.{recovered}
use Rattle.log_journal.specs.Standing.{HasHeader}
use Rattle.image_finding.specs.Headers.{as_header, StandsUpTo}
use Rattle.database_opening.proofs.Headers.{live_header}
use Rattle.database_opening.specs.Crashes.{disk_in}
use Rattle.database_opening.proofs.Leaving.{opened_leaves, read_leaves}
use Rattle.database_opening.proofs.Refusing.{no_refusal}
use Rattle.database_opening.proofs.open.open_settled.Goals as goal

pub open_recovered-requires-clause-header : goal.open_recovered-requires-clause-header
open_recovered-requires-clause-header g c = λ told.
    let new = c.read_image.new.disk in
    let same : g.D.Disk.seen new ≡ g.D.Disk.seen c.args.disk = c.in-Ok.ensures.only_read.same_bytes told in
    let long : length (g.D.Disk.seen new) ≡ g.D.Disk.size_of new = g.met.D.Disk.has_size told new in
    let h = as_header c.in-Ok.recovered.header in
    let stands : StandsUpTo 12 (g.D.Disk.seen new) h = subst (λ (bytes : List ℕ). StandsUpTo 12 bytes h) (sym same) (c.in-Ok.ensures.opened told).0 in
    subst (λ (n : ℕ). HasHeader n h.pages h.number h.area (g.D.Disk.seen new) (g.D.Disk.may_leave new)) long
    (live_header (g.D.Disk.seen new) h stands (subst (FitsDevice h) (sym long) c.in-Ok.ensures.fits) c.in-Ok.ensures.area (g.D.Disk.may_leave new) (λ left may. c.requires.settled told left (c.in-Ok.ensures.only_read.crash left may) ∙ sym same))

pub returns-in-Ok-clause-opened : goal.returns-in-Ok-clause-opened
returns-in-Ok-clause-opened g c =
    let sound = c.in-Ok.ensures.sound in
    IfOk-weaker c.open_recovered.result _ _ (λ core f. (sound.pages, f sound.pages (record { has = sound.has; commits = sound.commits }))) c.open_recovered.ensures.opened

pub returns-in-Ok-clause-recovered : goal.returns-in-Ok-clause-recovered
returns-in-Ok-clause-recovered g c = λ told.
    IfOk-weaker c.open_recovered.result _ _ (λ core f. (
      (c.in-Ok.ensures.opened told).0.passes,
      (λ i im.
          let o = (c.in-Ok.ensures.opened told).1 i im in
          (o.0, (o.1.reading, o.1.reverses, f (recovered o.1.reading) (record { has = o.1.has; commits = o.1.commits })))),
    )) c.open_recovered.ensures.opened

pub returns-in-Ok-clause-refused : goal.returns-in-Ok-clause-refused
returns-in-Ok-clause-refused g c = λ told. MatchResult-weaker c.open_recovered.result c.open_recovered.ensures.refused (λ core u. u) (λ refused other. no_refusal refused.fault other (g.D.Disk.seen c.args.disk))

pub returns-in-Ok-clause-untouched : goal.returns-in-Ok-clause-untouched
returns-in-Ok-clause-untouched g c = λ told. MatchResult-weaker c.open_recovered.result c.open_recovered.ensures.refused (λ core u. u) (λ refused other is. absurd (other is))

pub returns-in-Err-clause-untouched : goal.returns-in-Err-clause-untouched
returns-in-Err-clause-untouched g c = λ told is. c.in-Err.ensures.only_read.same_bytes told

pub returns-in-Ok-clause-crash : goal.returns-in-Ok-clause-crash
returns-in-Ok-clause-crash g c = λ told i im.
    let opens = c.in-Ok.ensures.opened told in
    let o = opens.1 i im in
    let read = c.in-Ok.ensures.only_read in
    opened_leaves g.D.Disk.is_told g.D.Disk.size_of g.D.Disk.seen g.D.Disk.may_leave g.D.Disk.moment g.D.Disk.left_since g.met.D.Disk.only_now (g.D.Disk.seen c.args.disk) i o.1.reading o.1.reverses (as_header c.in-Ok.recovered.header) opens.0
    c.args.disk c.read_image.new.disk (disk_in c.open_recovered.result) (read.same_bytes told)
    (read_leaves g.D.Disk.is_told g.D.Disk.size_of g.D.Disk.seen g.D.Disk.may_leave g.D.Disk.moment g.D.Disk.left_since g.met.D.Disk.only_now (g.D.Disk.seen c.args.disk) i c.args.disk c.read_image.new.disk (c.requires.settled told) read)
    (c.open_recovered.ensures.crash told (recovered o.1.reading) (record { has = o.1.has; commits = o.1.commits }))

pub returns-in-Err-clause-crash : goal.returns-in-Err-clause-crash
returns-in-Err-clause-crash g c = λ told i im.
    read_leaves g.D.Disk.is_told g.D.Disk.size_of g.D.Disk.seen g.D.Disk.may_leave g.D.Disk.moment g.D.Disk.left_since g.met.D.Disk.only_now (g.D.Disk.seen c.args.disk) i c.args.disk c.read_image.new.disk (c.requires.settled told) c.in-Err.ensures.only_read
