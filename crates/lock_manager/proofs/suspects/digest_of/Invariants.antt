-- What is left of the key takes the sum to the digest.
use Rattle.std.proofs.Common.{◌≡◌, drop}
use Rattle.lock_manager.specs.Suspects.{digest_from, digest}
use Rattle.lock_manager.proofs.suspects.digest_of.Given as goal

abbrev pub invariant-loop-byte : goal.invariant-loop-byte
invariant-loop-byte l = digest_from l.sum (drop l.byte-index l.key) ≡ digest l.index l.key
