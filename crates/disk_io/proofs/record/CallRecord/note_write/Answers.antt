use Rattle.std.proofs.Common.{rules, ◌≡◌, ◌++◌, ◌∙◌, ap, refl, is_ok, if◌then◌else◌}
use Rattle.disk_io.specs.Record.{events}
use Rattle.disk_io.proofs.Recording.{events_write}
use Rattle.disk_io.proofs.record.CallRecord.note_write.Goals as goal

pub returns-clause-ok : goal.returns-clause-ok
returns-clause-ok c =
    let r = c.args.self.now in
    let w = c.args.from.now in
    let more : c.extend_from_slice.new.self.items ≡ r.bytes.items ++ w =
    c.extend_from_slice.ensures.items ∙ ap (λ q. if is_ok q then r.bytes.items ++ w else r.bytes.items) c.unwrap.ensures in
    ap (λ b. events b c.push_reserved.new.self.items) more
    ∙ ap (events (r.bytes.items ++ w)) c.push_reserved.ensures.items
    ∙ events_write r.bytes.items w r.calls.items c.args.at _ _ r.within (search rules) refl
