use Rattle.std.proofs.Common.{◌≡◌, ℕ, ◌+◌, ◌-◌, List, length, ◌∙◌, ap, arith}
use Rattle.disk_io.specs.Disk.{splice}
use Rattle.disk_io.specs.Bytes.{put_is}
use Rattle.page_store.proofs.header.put_bytes.Goals as goal

pub returns : goal.returns
returns c =
    let is = c.copy_from_slice.ensures.after in
    let n = c.args.at + length c.args.bytes.now - c.args.at in
    let long : length c.copy_from_slice.new.self ≡ n = ap length is ∙ (let e : length c.args.bytes.now ≡ n = omega arith in e) in
    put_is c.args.at n c.args.header.now c.copy_from_slice.new.self long ∙ ap (λ (w : List ℕ). splice c.args.at w c.args.header.now) is
