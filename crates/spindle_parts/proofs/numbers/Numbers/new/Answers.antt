-- A fresh table has one number in use.
use Rattle.std.proofs.Common.{ap, arith, ◌≡◌, ◌∙◌, ◌*◌, sym, subst, ℕ, List, [], replicate, set}
use Rattle.atomic_table.specs.Table.{opening}
use Rattle.spindle_parts.specs.ThreadNumbers.{IsNumbering, leader_view, word_count}
use Rattle.spindle_parts.proofs.NumbersKept.{opens}
use Rattle.spindle_parts.proofs.numbers.Numbers.new.Goals as goal

pub of_words-requires : goal.of_words-requires
of_words-requires c =
    let threads : ℕ = c.args.n_threads in let zeros = c.in_ok-words.ensures.items_if_clones_equal (λ y z. z) in
    let count : 8 * c.div_ceil.result ≡ 8 * word_count threads = let e = c.div_ceil.ensures in omega arith in
    let fresh : List ℕ = replicate (8 * word_count threads) 0 in
    let all : c.in_ok-words.words.items ≡ fresh = zeros ∙ ap (λ n. replicate n 0) count in
    let words : set fresh 0 1 ≡ c.as_slice.result.now = sym (c.as_slice.ensures.value ∙ ap (λ l. set l 0 1) all) in
    subst (λ (l : List ℕ). IsNumbering threads (opening l [] leader_view)) words (opens threads c.requires.0)
