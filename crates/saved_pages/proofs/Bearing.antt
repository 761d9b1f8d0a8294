-- Bytes that have what a checkpoint saved bear its image.
use Rattle.std.proofs.Common.{◌∷◌, reverse, Some, sym, ap, subst, ◌∙◌}
use Rattle.std.proofs.lemmas.List.{reverse-reverse}
use Rattle.log_records.proofs.ScanLaws.{scanned_begins}
use Rattle.log_disk.specs.Spelled.{AreSpelled}
use Rattle.log_disk.proofs.Areas.{ends_first}
use Rattle.saved_pages.specs.Laws.{BearsLaw}
use Rattle.saved_pages.proofs.Standing.{are_stored}

pub bears : BearsLaw
bears room count c x has i is = record {
  here = has.saved.here;
  means = has.saved.means;
  pages = record {
    format = has.saved.format;
    pages = has.saved.pages;
    areas = has.saved.areas;
    area = has.saved.low_area;
    low = has.saved.low_map;
    commits = has.saved.commit_number ∙ is.pages.number;
    stored = are_stored x.saved i.pages is.pages has.saved.kept has.saved.marks.many has.saved.marks.each has.saved.here.stored has.saved.entries;
  };
  first = reverse x.saved.carried;
  others = has.others;
  first_end = ends_first (reverse x.saved.carried) has.others has.saved.here.log has.begins has.fit.0 ∙ ap (λ n. Some n) (sym has.saved.redo);
  scan = scanned_begins (reverse x.saved.carried ∷ has.others) has.saved.here.log has.begins has.fit;
  records = record {
    carried = reverse-reverse x.saved.carried ∙ is.carried;
    fit = is.fit;
    redo = has.saved.redo;
    after = subst (AreSpelled i.pages.db.schema i.after) (sym has.are) is.after;
  };
}
