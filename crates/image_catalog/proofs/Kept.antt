-- What is kept of a text of any length.
use Rattle.std.proofs.Common.{◌≡◌, ◌*◌, ◌+◌, ◌/◌, ◌≤◌, ℕ, List, length, sym, subst, arith}
use Rattle.std.specs.Prelude.{◌↔◌}
use Rattle.iv_types.specs.Grammar.{Spells}
use Rattle.iv_types.specs.Printing.{statement_text}
use Rattle.iv_types.specs.Syntax.{StatementTree}
use Rattle.iv_meaning.specs.Schema.{Schema, Object}
use Rattle.txn_machine.specs.Log.{part_bytes}
use Rattle.txn_log.specs.Appended.{Creates}
use Rattle.txn_log.specs.Stored.{in_parts}
use Rattle.txn_log.proofs.Printed.{prints_again}
use Rattle.data_defining.proofs.Short.{text_short}
use Rattle.definition_parts.specs.Parts.{IsShort}
use Rattle.definition_parts.proofs.Entries.{parts_many}
use Rattle.image_catalog.specs.Storing.{IsKept}
use Rattle.image_catalog.proofs.Short.{is_short}

-- ---- by its length

pub short_by_length : (text : List ℕ) → (length text ≤ 65536 * part_bytes) ↔ IsShort text
short_by_length text = (
  is_short text,
  λ short.
      let many : length (in_parts text) ≡ (length text + 1023) / 1024 = parts_many ((length text + 1023) / 1024) text in
      let few : length (in_parts text) ≤ 65536 = short in
      omega (arith, many, few),
)

-- ---- what its statement is printed as

module _ (text kept : List ℕ) (is : (statement : StatementTree) → Spells text statement → kept ≡ statement_text statement) where
  pub printed_short : (objects : Schema) (o : Object) → Creates objects text o → IsShort kept
  printed_short objects o creates =
      let few = text_short objects creates.0 o creates.2 in
      subst IsShort (sym (is creates.0 creates.1)) (is_short (statement_text creates.0) (omega (arith, few)))

  pub kept_printed : (IsShort text → ⊥) → IsShort kept → IsKept text kept
  kept_printed long short = record {
    itself = λ still. absurd (long still);
    printed = λ still. is;
    short = short;
    same = λ objects o creates. subst (λ (t : List ℕ). Creates objects t o) (sym (is creates.0 creates.1)) (creates.0, prints_again text creates.0 creates.1, creates.2);
  }
