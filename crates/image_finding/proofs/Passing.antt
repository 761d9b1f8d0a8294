-- One rule after another.
use Rattle.std.proofs.Common.{◌≡◌, ℕ, ◌+◌, ◌≤◌, List, sym, ◌∙◌, subst, arith}
use Rattle.txn_log.specs.Damaged.{Device, Rule, rule_number, header_lives, format_known, sizes_fit, area_named, first_block_ends, blocks_lie, records_read, map_read, pages_formed, keys_apart, definitions_read, entries_read, FailsAt}
use Rattle.txn_log.proofs.Damaging.{same_rule}
use Rattle.txn_log.proofs.Finding.{by_number}
use Rattle.log_disk.specs.Found.{IsFound}
use Rattle.image_finding.specs.declared.fault.BadImage.{BadImage}
use Rattle.image_finding.specs.Rules.{IsRefused, PassesUpTo}

none_is_zero : (r : Rule) → rule_number r ≤ 0 → ⊥
none_is_zero header_lives le = omega arith
none_is_zero format_known le = omega arith
none_is_zero sizes_fit le = omega arith
none_is_zero area_named le = omega arith
none_is_zero first_block_ends le = omega arith
none_is_zero blocks_lie le = omega arith
none_is_zero records_read le = omega arith
none_is_zero map_read le = omega arith
none_is_zero pages_formed le = omega arith
none_is_zero keys_apart le = omega arith
none_is_zero definitions_read le = omega arith
none_is_zero entries_read le = omega arith

-- before the first
pub passes_none : (c : List ℕ) → PassesUpTo 0 c
passes_none c = record { none = λ d found r le place fails. none_is_zero r le }

-- a rule that does not fail
pub passes_next : (n : ℕ) (c : List ℕ) (rule : Rule) → rule_number rule ≡ n + 1 → PassesUpTo n c → ((d : Device) → IsFound c d → (place : ℕ) → FailsAt d rule place → ⊥) → PassesUpTo (n + 1) c
passes_next n c rule is passes never = record {
  none = λ d found r le place fails.
      by_number (rule_number r) (n + 1)
      (λ same. never d found place (subst (λ (x : Rule). FailsAt d x place) (same_rule r rule (same ∙ sym is)) fails))
      (λ other. passes.none d found r (omega (arith, le, other)) place fails);
}

-- a rule that fails
pub refused_next : (n : ℕ) (c : List ℕ) (bad : BadImage) (rule : Rule) → rule_number rule ≡ n + 1 → bad.rule ≡ n + 1 → PassesUpTo n c → ((d : Device) → IsFound c d → FailsAt d rule bad.place) → IsRefused c bad
refused_next n c bad rule is bad_is passes fails = record {
  each = λ d found. (rule, is ∙ sym bad_is, (fails d found, λ less lt other f. passes.none d found less (omega (arith, lt, is)) other f));
}
