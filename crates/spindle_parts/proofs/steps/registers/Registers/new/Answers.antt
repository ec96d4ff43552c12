-- Fresh registers are tidy.
use Rattle.std.proofs.Common.{rules, ◌≡◌, ℕ, replicate, sum, ap, arith}
use Rattle.std.proofs.lemmas.List.Folds.{sum_by-replicate}
use Rattle.spindle_parts.proofs.Turning.{no_marks}
use Rattle.spindle_parts.proofs.steps.registers.Registers.new.Goals as goal

pub returns-clause-tidy : goal.returns-clause-tidy
returns-clause-tidy c = let zeros : c.in_ok-counters.counters.items ≡ replicate c.args.threads 0 = search rules in
    let none = ap sum zeros in let s = sum_by-replicate (λ (k : ℕ). k) c.args.threads 0 in let few = c.new.ensures.len in record {
      marks = no_marks c.new.result c.new-2.result.items _ c.new-2.ensures.items (omega arith);
      left = omega arith;
      inside = omega arith;
      members = omega arith;
    }
