-- The symbols of printed pieces.
use Rattle.std.specs.Prelude.{List, [], ◌∷◌, ◌++◌}
use Rattle.iv_types.specs.declared.terminal.Terminal.TheVariants as t
use Rattle.iv_types.specs.Tokens.{Symbol, fixed, name, number, text}
use Rattle.iv_types.specs.Printing as p
use Rattle.iv_types.specs.Printing.{Piece}

-- a negative literal is a minus and a number
abbrev pub piece_symbols : Piece → List Symbol
piece_symbols (p.fixed k) = fixed k ∷ []
piece_symbols (p.name w) = name w ∷ []
piece_symbols (p.number n) = number n ∷ []
piece_symbols (p.negative n) = fixed t.Minus ∷ number n ∷ []
piece_symbols (p.text w) = text w ∷ []

abbrev pub symbols_of_pieces : List Piece → List Symbol
symbols_of_pieces [] = []
symbols_of_pieces (q ∷ qs) = piece_symbols q ++ symbols_of_pieces qs
