-- The game of Chomp on three rows.
use Rattle.std.specs.Prelude.{◌≡◌, ℕ, zero, suc, ◌+◌, ◌-◌, min, Bool, false, not, nat_lt, if◌then◌else◌, List, map, Result, IfOk}
use Rattle.std.specs.List.{filter, list_any}
use Rattle.spindle.specs.Pieces.{counted}
use Rattle.spindle.specs.Fault.{Fault}
use Rattle.spindle_examples.specs.declared.chomp.Board.{Board}

-- how many squares are left
abbrev pub squares_of : Board → ℕ
squares_of board = board.top + board.middle + board.bottom

-- the bite at a square takes the row from there on, and of the rows below all that isn't left of it; squares are counted row by row
abbrev pub after : Board → ℕ → Board
after board at =
    if nat_lt at board.top then record { top = at; middle = min board.middle at; bottom = min board.bottom at }
    else (let column = at - board.top in
    if nat_lt at (board.top + board.middle) then record board { middle = column; bottom = min board.bottom column }
    else record board { bottom = column - board.middle })

-- where one may bite: not at the poisoned square, which is the first
abbrev pub bites_of : Board → List ℕ
bites_of board = counted 1 (squares_of board - 1)

-- what the bites leave
abbrev pub replies_to : Board → List Board
replies_to board = map (after board) (bites_of board)

-- whether who is to move wins within so many bites: by some bite, after which the other one doesn't
abbrev pub wins_within : ℕ → Board → Bool
wins_within zero board = false
wins_within (suc n) board = list_any (λ at. not (wins_within n (after board at))) (bites_of board)

-- whether who is to move wins: no game has more bites than squares
abbrev pub wins : Board → Bool
wins board = wins_within (squares_of board) board

-- the bites after which the other one has lost
abbrev pub winning_bites : Board → List ℕ
winning_bites board = filter (λ at. not (wins (after board at))) (bites_of board)

-- what a job answers to a board: whether who is to move wins, where it has memory
abbrev pub IsEvaluation : Board → Result Bool Fault → Type 0
IsEvaluation board answer = IfOk answer (λ won. won ≡ wins board)
