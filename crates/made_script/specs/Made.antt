-- The lines of the script that `make` runs. Eight sessions take part in each round; each begins a transaction, inserts a
-- sale, and commits, but for every fourth sale, which is rolled back.
use Rattle.std.specs.Prelude.{ℕ, zero, suc, ◌+◌, ◌-◌, ◌*◌, ◌%◌, ◌==◌, ℤ, pos, ◌-ℤ◌, List, [], ◌∷◌, ◌++◌, map, reverse, codes, decimal, if◌then◌else◌}
use Rattle.std.specs.Fmt.{signed_decimal}

-- the lines before the rounds: they make the table and its view
abbrev pub defining_lines : List (List ℕ)
defining_lines =
    codes "1: CREATE TABLE sale (id INT, shop INT, amount HUGE, PRIMARY KEY (id))"
    ∷ codes "1: CREATE INDEXED VIEW by_shop AS SELECT shop, COUNT(*) AS n, SUM(amount) AS total FROM sale GROUP BY shop"
    ∷ []

-- the sessions that take part, in number order
abbrev pub sessions : List ℕ
sessions = 1 ∷ 2 ∷ 3 ∷ 4 ∷ 5 ∷ 6 ∷ 7 ∷ 8 ∷ []

-- the sale of a session in a round; rounds are counted from 1
abbrev pub sale_of : ℕ → ℕ → ℕ
sale_of round session = 8 * (round - 1) + session

abbrev pub shop_of : ℕ → ℕ
shop_of sale = 5 * sale % 16

abbrev pub amount_of : ℕ → ℤ
amount_of sale = pos (37 * sale % 1000) -ℤ pos 500

abbrev pub begin_line : ℕ → List ℕ
begin_line session = decimal session ++ codes ": BEGIN"

-- the session inserts this sale
abbrev pub sale_line : ℕ → ℕ → List ℕ
sale_line session sale =
    decimal session
    ++ (codes ": INSERT INTO sale VALUES (" ++ (decimal sale ++ (codes ", " ++ (decimal (shop_of sale) ++ (codes ", " ++ (signed_decimal (amount_of sale) ++ codes ")"))))))

abbrev pub insert_line : ℕ → ℕ → List ℕ
insert_line round session = sale_line session (sale_of round session)

-- every fourth sale is rolled back
abbrev pub end_line : ℕ → ℕ → List ℕ
end_line round session = decimal session ++ (if sale_of round session % 4 == 3 then codes ": ROLLBACK" else codes ": COMMIT")

-- after each 500 rounds
abbrev pub upkeep_lines : ℕ → List (List ℕ)
upkeep_lines round = if round % 500 == 0 then codes "clean" ∷ codes "checkpoint" ∷ [] else []

-- the sessions end their transactions from the last session to the first
abbrev pub round_lines : ℕ → List (List ℕ)
round_lines round = map begin_line sessions ++ (map (insert_line round) sessions ++ (map (end_line round) (reverse sessions) ++ upkeep_lines round))

abbrev pub last_line : List ℕ
last_line = codes "1: SELECT * FROM by_shop"

-- the lines before the last one, with so many rounds
abbrev pub lines_before_last : ℕ → List (List ℕ)
lines_before_last zero = defining_lines
lines_before_last (suc rounds) = lines_before_last rounds ++ round_lines (suc rounds)

abbrev pub made_lines : ℕ → List (List ℕ)
made_lines number = lines_before_last number ++ last_line ∷ []
