-- The text of a definition that is accepted is short.
use Rattle.std.specs.Prelude.{◌≡◌, ℕ, ◌+◌, ◌/◌, ◌≤◌, List, length}
use Rattle.std.proofs.Common.{arith}
use Rattle.iv_types.specs.declared.limit.TheConstants.{LONGEST_DEFINITION}
use Rattle.txn_log.specs.Stored.{in_parts}
use Rattle.definition_parts.specs.Parts.{IsShort}
use Rattle.definition_parts.proofs.Entries.{parts_many}

-- two bytes tell its parts apart
pub few_parts : (text : List ℕ) → length text ≤ LONGEST_DEFINITION → IsShort text
few_parts text few = let many : length (in_parts text) ≡ (length text + 1023) / 1024 = parts_many ((length text + 1023) / 1024) text in omega (arith, few, many)
