use Rattle.std.proofs.Common.{inr}
use Rattle.turn_latch.proofs.Histories.{adds_other}
use Rattle.latch_runs.specs.Books.{by, entry}
use Rattle.latch_runs.proofs.book.AddTurnBook.turn.Goals as goal

pub returns-clause-others : goal.returns-clause-others
returns-clause-others c = λ k other. adds_other by c.args.self.seat k _ _ other (inr (entry c.from.result c.args.self.amount, c.from.ensures, c.in_ok-push.ensures.items))
