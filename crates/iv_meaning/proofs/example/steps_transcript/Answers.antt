use Rattle.iv_meaning.proofs.SerialTurns.{steps_transcript}
use Rattle.iv_meaning.proofs.example.steps_transcript.Goals as goal

pub returns : goal.returns
returns c = steps_transcript
