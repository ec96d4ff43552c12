-- An empty list is no chunk, and a round over chunks has the jobs of one over the list.
use Rattle.std.proofs.Common.{ℕ, ◌<◌, IfErr, arith, length, subst, refl, rules}
use Rattle.std.proofs.lemmas.Result.{IfOk-from_err, IfOk-weaker}
use Rattle.spindle_parts.specs.Gathered.{IsGathered}
use Rattle.spindle_locks.specs.ChunkRounds.{IsMapped}
use Rattle.spindle_locks.specs.Rounds.{job_count}
use Rattle.spindle_locks.proofs.ChunkRounds.{some_items, mapped_nothing, jobs_of_chunks}
use Rattle.spindle_locks.proofs.LeaderRounds.{passed_on}
use Rattle.spindle_locks.proofs.lock.rounds.ChunkRounds.map_chunks.Goals as goal

pub returns-then-is_empty-clause-answer : goal.returns-then-is_empty-clause-answer
returns-then-is_empty-clause-answer g c =
    mapped_nothing _ c.args.n_jobs c.args.list.now c.new.result (c.is_empty.ensures.0 c.if-is_empty.true) c.new.ensures.items

pub returns-in_err-for_each_into-clause-refused : goal.returns-in_err-for_each_into-clause-refused
returns-in_err-for_each_into-clause-refused g c =
    let some = some_items c.args.list.now c.is_empty.result c.is_empty.ensures c.if-is_empty.false in
    let same = jobs_of_chunks c.in_ok-chunks.chunks _ c.args.n_jobs some (c.requires.jobs some) c.in_ok-chunks.ensures.lengths in
    subst (λ (jobs : ℕ). IfErr c.from_residual-in_err-for_each_into.result (g.Self.RunsRounds.refuses c.args.self.now jobs)) same (search rules)

pub returns-in_err-chunks : goal.returns-in_err-chunks
returns-in_err-chunks g c = let some = some_items c.args.list.now c.is_empty.result c.is_empty.ensures c.if-is_empty.false in
    let more : 0 < job_count (length c.args.list.now) c.args.n_jobs = omega (arith, some, c.requires.jobs some) in
    rw (passed_on c.from_residual.result c.from_residual.ensures.1 c.in_err-chunks.ensures.memory) (record {
      answer = tt;
      refused = search (rules, more);
      goes_on = (refl, c.max_num_threads-threads.ensures.rests, λ jobs fault refused. refused);
    })

pub returns-in_err-for_each_into-clause-answer : goal.returns-in_err-for_each_into-clause-answer
returns-in_err-for_each_into-clause-answer g c = IfOk-from_err _ _ c.from_residual-in_err-for_each_into.ensures.0

pub returns-clause-answer : goal.returns-clause-answer
returns-clause-answer g c = let cut = c.in_ok-chunks.ensures in let answers = c.for_each_into.new.outputs.items in
    IfOk-weaker c.gathered.result (IsGathered answers) (IsMapped g.J.Job.meets c.args.n_jobs c.args.list.now)
    (λ all is. (c.in_ok-chunks.chunks.items, answers, cut.joined, cut.lengths, c.in_ok-for_each_into.ensures.answer, is)) c.gathered.ensures.answers
