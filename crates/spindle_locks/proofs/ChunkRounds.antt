-- What follows of a round over the chunks of a list.
use Rattle.std.proofs.Common.{◌≡◌, ◌↔◌, ℕ, ◌<◌, Bool, false, IsTrue, List, [], ◌∷◌, IfOk, Result, Ok, Vec, Global, vec_len, length, map, min, refl}
use Rattle.std.proofs.Common.{ap, sym, ◌∙◌, arith}
use Rattle.std.proofs.lemmas.List.{length-map}
use Rattle.spindle_parts.specs.Pieces.{lengths_of, cut_lengths}
use Rattle.spindle_parts.proofs.Deals.{length-lengths_of}
use Rattle.spindle_locks.specs.ChunkRounds.{IsMapped}
use Rattle.spindle_locks.specs.Rounds.{job_count}
use Rattle.spindle_parts.proofs.GatheredLists.{gathered_map, gathered_none}

-- how many chunks there are
pub count_of_chunks : {T : Type 0} (chunks : List (List T)) (len n_jobs : ℕ) → 0 < len → 0 < n_jobs
    → map (λ chunk. length chunk) chunks ≡ cut_lengths len n_jobs → length chunks ≡ min len n_jobs
count_of_chunks chunks len n_jobs some jobs e =
    sym (length-map chunks (λ chunk. length chunk)) ∙ ap length e ∙ length-lengths_of len (min len n_jobs) (omega (arith, some, jobs))

-- where each answer has a function's values at its chunk's items, the list has those at the whole list's
pub mapped_each : {A T : Type 0} (E : Type 0) (f : A → T) (n_jobs : ℕ) (list : List A) (all : Vec T Global)
    → IsMapped {E = E} (λ chunk answer. IfOk answer (λ (part : Vec T Global). part.items ≡ map f chunk)) n_jobs list (Ok all)
    → all.items ≡ map f list
mapped_each E f n_jobs list all is = gathered_map E f is.0 is.1 all is.4 is.5 ∙ ap (map f) is.2

-- a list that isn't empty has an item
pub some_items : {T : Type 0} (list : List T) (empty : Bool) → (IsTrue empty ↔ (list ≡ [])) → empty ≡ false → 0 < length list
some_items [] empty both isnt = let is = both.1 refl in absurd cc
some_items (x ∷ xs) empty both isnt = omega arith

-- an empty list is no chunk, and nothing comes of it
pub mapped_nothing : {T U E : Type 0} (Meets : List T → Result (Vec U Global) E → Type 0) (n_jobs : ℕ) (list : List T) (all : Vec U Global)
    → list ≡ [] → all.items ≡ [] → IsMapped {E = E} Meets n_jobs list (Ok all)
mapped_nothing Meets n_jobs [] all none empty = let least : min 0 n_jobs ≡ 0 = omega arith in
    ([], [], refl, ap (lengths_of 0) (sym least), tt, gathered_none all empty)
mapped_nothing Meets n_jobs (x ∷ xs) all none empty = absurd cc

-- a round over the chunks has the jobs of a round over as many items as the list has
pub jobs_of_chunks : {T : Type 0} (chunks : Vec (List T) Global) (len n_jobs : ℕ) → 0 < len → 0 < n_jobs
    → map (λ chunk. length chunk) chunks.items ≡ cut_lengths len n_jobs → job_count (vec_len chunks) n_jobs ≡ job_count len n_jobs
jobs_of_chunks chunks len n_jobs some jobs e = omega (arith, count_of_chunks chunks.items len n_jobs some jobs e)
