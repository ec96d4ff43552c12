-- A list folded chunk by chunk has the total of the list.
use Rattle.std.proofs.Common.{◌≡◌, List, [], ◌∷◌, refl, ap, sym, ◌∙◌}
use Rattle.std.specs.Prelude.{fold}
use Rattle.std.specs.List.{AllZip}
use Rattle.std.proofs.lemmas.List.Sums.{fold-append}
use Rattle.spindle_parts.specs.Pieces.{joined}
use Rattle.spindle.specs.Folds.{IsAssociative, IsNeutral, total_of}

module _ {A T : Type 0} (combine : T → T → T) (neutral : T) (value : A → T) (associative : IsAssociative combine) (is_neutral : IsNeutral combine neutral) where
  abbrev step : T → A → T
  step total item = combine total (value item)

  -- a fold behind a value
  fold_behind : (a b : T) (xs : List A) → combine a (fold step b xs) ≡ fold step (combine a b) xs
  fold_behind a b [] = refl
  fold_behind a b (x ∷ xs) = fold_behind a (combine b (value x)) xs ∙ ap (λ t. fold step t xs) (sym (associative a b (value x)))

  -- the neutral value changes nothing behind a fold
  settled : (a : T) (xs : List A) → combine a neutral ≡ a → combine (fold step a xs) neutral ≡ fold step a xs
  settled a [] e = e
  settled a (x ∷ xs) e = settled (combine a (value x)) xs (is_neutral.1 a (value x))

  -- the totals of chunks, combined behind a value, are the fold of all from there
  folded_chunks : (a : T) (chunks : List (List A)) (totals : List T) → combine a neutral ≡ a
      → AllZip (λ chunk total. total ≡ total_of combine neutral value chunk) chunks totals → fold combine a totals ≡ fold step a (joined chunks)
  folded_chunks a [] [] e z = refl
  folded_chunks a [] (t ∷ ts) e z = absurd z
  folded_chunks a (c ∷ cs) [] e z = absurd z
  folded_chunks a (c ∷ cs) (t ∷ ts) e z =
      let first : combine a t ≡ fold step a c = ap (combine a) z.0 ∙ fold_behind a neutral c ∙ ap (λ s. fold step s c) e in
      ap (λ s. fold combine s ts) first
      ∙ folded_chunks (fold step a c) cs ts (settled a c e) z.1
      ∙ sym (fold-append step a c (joined cs))

  -- so the totals of chunks have the total of the whole list
  pub total_of_chunks : (chunks : List (List A)) (totals : List T) → AllZip (λ chunk total. total ≡ total_of combine neutral value chunk) chunks totals
      → fold combine neutral totals ≡ total_of combine neutral value (joined chunks)
  total_of_chunks chunks totals z = folded_chunks neutral chunks totals is_neutral.0 z
