-- A product place by place, and row by row.
use Rattle.std.proofs.Common.{◌≡◌, ℕ, zero, suc, ◌+◌, ◌*◌, ◌<◌, ◌≤◌, List, [], ◌∷◌, ◌++◌, length, min, take, get_or, refl, ap, sym, ◌∙◌, arith, append_assoc, append-nil}
use Rattle.spindle_examples.specs.Product.{dot, row_of, product}

-- one place more
pub dot_more : (xs ys : List ℕ) (k : ℕ) → k < length xs → k < length ys
    → dot (take (k + 1) xs) (take (k + 1) ys) ≡ dot (take k xs) (take k ys) + get_or xs k 0 * get_or ys k 0
dot_more [] ys k h j = absurd (omega (arith, h))
dot_more (x ∷ xs) [] k h j = absurd (omega (arith, j))
dot_more (x ∷ xs) (y ∷ ys) zero h j = omega arith
dot_more (x ∷ xs) (y ∷ ys) (suc k) h j =
    let more = dot_more xs ys k (omega (arith, h)) (omega (arith, j)) in
    let next : suc k + 1 ≡ suc (k + 1) = omega arith in
    ap (λ n. dot (take n (x ∷ xs)) (take n (y ∷ ys))) next ∙ omega (arith, more)

-- as many places as the shorter one has are all
pub dot_whole : (xs ys : List ℕ) (k : ℕ) → min (length xs) (length ys) ≤ k → dot (take k xs) (take k ys) ≡ dot xs ys
dot_whole [] ys zero h = refl
dot_whole [] ys (suc k) h = refl
dot_whole (x ∷ xs) [] zero h = refl
dot_whole (x ∷ xs) [] (suc k) h = refl
dot_whole (x ∷ xs) (y ∷ ys) zero h = absurd (omega (arith, h))
dot_whole (x ∷ xs) (y ∷ ys) (suc k) h = ap (λ n. x * y + n) (dot_whole xs ys k (omega (arith, h)))

-- rows in two lists
pub product_append : (xs ys : List (List ℕ)) (columns : List ℕ) → product (xs ++ ys) columns ≡ product xs columns ++ product ys columns
product_append [] ys columns = refl
product_append (row ∷ xs) ys columns =
    let first : List ℕ = row_of columns row in
    ap (λ l. first ++ l) (product_append xs ys columns) ∙ sym (append_assoc first (product xs columns) (product ys columns))

-- one row more
pub product_snoc : (rows : List (List ℕ)) (row columns : List ℕ) → product (rows ++ row ∷ []) columns ≡ product rows columns ++ row_of columns row
product_snoc rows row columns =
    product_append rows (row ∷ []) columns ∙ ap (λ l. product rows columns ++ l) (append-nil (row_of columns row))
