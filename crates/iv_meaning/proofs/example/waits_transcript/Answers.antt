use Rattle.iv_meaning.proofs.SerialTurns.{waits_transcript}
use Rattle.iv_meaning.proofs.example.waits_transcript.Goals as goal

pub returns : goal.returns
returns c = waits_transcript
