-- What is printed where the words are no command.
use Rattle.std.specs.Prelude.{◌≡◌, ◌⊎◌, ℕ, List, ◌++◌, codes, Option, Some}
use Rattle.iv_types.specs.Faults.{Rose}
use Rattle.line_wire.specs.Wire.{WroteFront}

abbrev pub usage_text : List ℕ
usage_text = codes "usage: iv init FILE, script FILE, serve FILE, make NUMBER\n"

-- the usage line was written, or the sink failed with some front of it written
abbrev pub ToldUsage : List ℕ → Option (List ℕ) → ℕ → ℕ → Type 0
ToldUsage before written faults_before faults_now =
    (written ≡ Some (before ++ usage_text)) ⊎ (Rose faults_before faults_now × WroteFront before usage_text written)
