use Rattle.std.proofs.Common.{◌≤◌, ◌+◌, ◌^◌, arith}
use Rattle.std.proofs.lemmas.Result.{IfOk-weaker}
use Rattle.database_opening.proofs.Beginning.{can_begin}
use Rattle.database_opening.proofs.open.open_recovered.Goals as goal

pub save-requires-clause-can : goal.save-requires-clause-can
save-requires-clause-can g c =
    let sound = c.requires.sound in
    let records = sound.next in
    let header = c.requires.fits.numbers.2 in
    let greater = c.greater.ensures in
    let early : c.greater.result ≤ 2 ^ 62 + 1 = omega (arith, records, header, greater) in
    (sound.pages, can_begin c.args.recovered sound c.requires.no_past (g.D.Disk.size_of c.args.disk) c.requires.fits c.in-Ok.store c.in-Ok.ensures.same c.in-Ok.ensures.limit c.greater.result early sound.pages (record { has = sound.has; commits = sound.commits }))

pub returns-in-Ok-clause-opened : goal.returns-in-Ok-clause-opened
returns-in-Ok-clause-opened g c =
    let sound = c.requires.sound in
    let records = sound.next in
    let header = c.requires.fits.numbers.2 in
    let greater = c.greater.ensures in
    let early : c.greater.result ≤ 2 ^ 62 + 1 = omega (arith, records, header, greater) in
    IfOk-weaker c.save.result _ _ (λ core f p is. f p (can_begin c.args.recovered sound c.requires.no_past (g.D.Disk.size_of c.args.disk) c.requires.fits c.in-Ok.store c.in-Ok.ensures.same c.in-Ok.ensures.limit c.greater.result early p is)) c.save.ensures.opened

pub returns-in-Ok-clause-crash : goal.returns-in-Ok-clause-crash
returns-in-Ok-clause-crash g c = λ told p is.
    let sound = c.requires.sound in
    let records = sound.next in
    let header = c.requires.fits.numbers.2 in
    let greater = c.greater.ensures in
    let early : c.greater.result ≤ 2 ^ 62 + 1 = omega (arith, records, header, greater) in
    c.save.ensures.crash told p (can_begin c.args.recovered sound c.requires.no_past (g.D.Disk.size_of c.args.disk) c.requires.fits c.in-Ok.store c.in-Ok.ensures.same c.in-Ok.ensures.limit c.greater.result early p is)
