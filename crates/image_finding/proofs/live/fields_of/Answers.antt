use Rattle.std.proofs.Common.{slice_index_or, ◌∙◌}
use Rattle.image_finding.proofs.Heading.{tail_number}
use Rattle.image_finding.proofs.live.fields_of.Goals as goal

pub returns : goal.returns
returns c =
    let start = c.args.start.now in
    let format = c.read_u32.ensures ∙ tail_number 4 8 start in
    let pages = c.read_u32-2.ensures ∙ tail_number 4 12 start in
    let area_bytes = c.read_u64.ensures ∙ tail_number 8 16 start in
    let number = c.read_u64-2.ensures ∙ tail_number 8 24 start in
    let commits = c.read_u64-3.ensures ∙ tail_number 8 32 start in
    let next = c.read_u64-4.ensures ∙ tail_number 8 40 start in
    let redo = c.read_u64-5.ensures ∙ tail_number 8 56 start in
    λ t. record {
      place = c.args.place;
      format = format t;
      pages = pages t;
      area_bytes = area_bytes t;
      number = number t;
      commits = commits t;
      next = next t;
      area = slice_index_or start 48 0;
      redo = redo t;
    }
