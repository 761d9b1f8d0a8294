-- Two stores with the same pages, flags and buffers are one.
use Rattle.std.proofs.Common.{◌≡◌, ◌≤◌, ◌*◌, length}
use Rattle.std.proofs.Props.{props}
use mathlib.Core.HLevel.{is_prop→PathP}
use Rattle.page_store.specs.declared.store.PageStore.{PageStore}

pub same_store : (a b : PageStore) → a.bytes ≡ b.bytes → a.stored ≡ b.stored → a.changed ≡ b.changed → a.header ≡ b.header → a.slot ≡ b.slot → a ≡ b
same_store a b bytes stored changed header slot = λ i. record {
  bytes = bytes i;
  stored = stored i;
  changed = changed i;
  header = header i;
  slot = slot i;
  all_pages = is_prop→PathP (λ j. length (bytes j).items ≡ 8192 * length (stored j).items) (λ j. hlevel props) a.all_pages b.all_pages i;
  all_marks = is_prop→PathP (λ j. length (changed j).items ≡ length (stored j).items) (λ j. hlevel props) a.all_marks b.all_marks i;
  few = is_prop→PathP (λ j. length (stored j).items ≤ 131072) (λ j. hlevel props) a.few b.few i;
  some = is_prop→PathP (λ j. 512 ≤ length (stored j).items) (λ j. hlevel props) a.some b.some i;
  header_size = is_prop→PathP (λ j. length (header j).items ≡ 139264) (λ j. hlevel props) a.header_size b.header_size i;
  slot_size = is_prop→PathP (λ j. length (slot j).items ≡ 8192) (λ j. hlevel props) a.slot_size b.slot_size i;
}
