-- The product of a matrix that is given by its rows and one whose columns stand one behind the other.
use Rattle.std.specs.Prelude.{ℕ, zero, suc, ◌+◌, ◌*◌, ◌/◌, List, [], ◌∷◌, length, map, drop}
use Rattle.spindle.specs.Pieces.{joined, counted}
use Rattle.spindle_examples.specs.Wrapping.{wrapped}

-- the products of what stands at the same place, summed, as far as both lists go
abbrev pub dot : (row column : List ℕ) → ℕ
dot [] column = 0
dot (x ∷ row) [] = 0
dot (x ∷ row) (y ∷ column) = x * y + dot row column

-- how many columns of a length stand in so many numbers; of no length, none
abbrev pub columns_in : (inner count : ℕ) → ℕ
columns_in zero count = 0
columns_in (suc inner) count = count / suc inner

-- a row of the product
abbrev pub row_of : (columns row : List ℕ) → List ℕ
row_of columns row =
    map (λ at. wrapped (dot row (drop (length row * at) columns))) (counted 0 (columns_in (length row) (length columns)))

-- the product, row by row
abbrev pub product : (rows : List (List ℕ)) → (columns : List ℕ) → List ℕ
product rows columns = joined (map (row_of columns) rows)
