-- As many spans as jobs.
use Rattle.std.proofs.Common.{arith}
use Rattle.std.proofs.lemmas.Slice.Zip.{AllZip-long}
use Rattle.spindle_examples.proofs.trace.round.Goals as goal

pub returns : goal.returns
returns g c =
    let jobs = c.in_ok-jobs.jobs in
    let spans = c.in_ok-spans.spans in
    omega (arith, jobs.ok.0, spans.ok.0, c.in_ok-jobs.ensures, AllZip-long (λ _ _. Unit {0}) jobs.items spans.items c.in_ok-spans.ensures.answer)
