-- No clause of `run` rests on this module: it serves contracts between crates.
--
-- Which refusals of the engine's are told with names.
use Rattle.iv_types.specs.declared.refusal.EngineRefusal.{EngineRefusal}
use Rattle.iv_types.specs.declared.refusal.EngineRefusal.TheVariants as engine

-- those of the escrow
abbrev pub IsEscrow : EngineRefusal → Type 0
IsEscrow (engine.Escrow column inf sup) = Unit {0}
IsEscrow why = ⊥
