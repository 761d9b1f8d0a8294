-- Only what the escrow refuses is told with names.
use Rattle.std.specs.Prelude.{◌≡◌, ℕ, ℤ, Some, None}
use mathlib.Core.Path.{refl}
use Rattle.iv_types.specs.declared.lock.GroupDelta.{GroupDelta}
use Rattle.iv_types.specs.declared.refusal.EngineRefusal.{EngineRefusal}
use Rattle.iv_types.specs.declared.refusal.EngineRefusal.TheVariants as engine
use Rattle.iv_meaning.specs.Schema.{Schema}
use Rattle.statement_law.specs.Telling.{tell}

pub told_alike : (objects : Schema) (d : GroupDelta) (why : EngineRefusal) → ((column : ℕ) (inf sup : ℤ) → why ≡ engine.Escrow column inf sup → ⊥)
    → tell objects None why ≡ tell objects (Some d) why
told_alike objects d (engine.Escrow column inf sup) other = absurd (other column inf sup refl)
told_alike objects d (engine.Deadlock cycle) other = refl
told_alike objects d (engine.LogFull used reserved need) other = refl
told_alike objects d (engine.DataFull used need) other = refl
told_alike objects d (engine.TxnFull kept need) other = refl
told_alike objects d (engine.HistoryFull kept need) other = refl
told_alike objects d (engine.SchemaBusy session) other = refl
told_alike objects d engine.DiskFault other = refl
told_alike objects d (engine.Stopped step) other = refl
told_alike objects d engine.NoMemory other = refl
