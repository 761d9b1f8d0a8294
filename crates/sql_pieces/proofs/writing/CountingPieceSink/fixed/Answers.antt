use Rattle.std.proofs.Common.{length, ap, ◌∙◌}
use Rattle.sql_pieces.proofs.Counting.{counts_more}
use Rattle.sql_pieces.proofs.writing.CountingPieceSink.fixed.Goals as goal

pub returns : goal.returns
returns c = record {
  adds = λ w h. counts_more _ _ _ _ _ _ c.args.terminal w c.stands_close.ensures (c.piece.ensures.tight ∙ c.leaves_tight.ensures) (ap length c.spelling.ensures) c.piece.ensures.bytes h;
  wants = tt;
}
