use Rattle.iv_meaning.proofs.SerialRuns.{savepoint_transcript}
use Rattle.iv_meaning.proofs.example.savepoint_transcript.Goals as goal

pub returns : goal.returns
returns c = savepoint_transcript
