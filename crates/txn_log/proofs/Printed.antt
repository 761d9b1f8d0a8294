-- What a statement is printed as is read again as that statement, and a text is read as one statement.
use Rattle.std.proofs.Common.{List, sym, subst}
use Rattle.iv_types.specs.Limits.{the_limits}
use Rattle.iv_types.specs.Tokens.{Symbol, symbols, tokens}
use Rattle.iv_types.specs.Grammar.{ALine, OneStatement}
use Rattle.iv_types.specs.Printing.{statement_pieces}
use Rattle.sql_tokens.specs.Printing.{IsName}
use Rattle.sql_parse.proofs.Lines.{unique}
use Rattle.sql_print.proofs.Holes.{text_real}
use Rattle.sql_print.proofs.Statements.{line_again}
use Rattle.sql_print.proofs.Lexed.{written_lexed}
use Rattle.txn_log.proofs.Following.{PrintsAgain}

pub prints_again : PrintsAgain
prints_again text s h =
    let again = line_again IsName the_limits (symbols (tokens text)) s h (text_real text) in
    subst (λ (ts : List Symbol). ALine the_limits ts s) (sym (written_lexed (statement_pieces s) again.1)) again.0

pub one_statement : OneStatement
one_statement text a b h k = unique text a b h k
