-- One pass more.
use Rattle.std.proofs.Common.{rules}
use Rattle.spindle_examples.proofs.Passes.{pass_of}
use Rattle.spindle_examples.proofs.stencil.passes.Goals as goal

pub loop-pass-preserved : goal.loop-pass-preserved
loop-pass-preserved g c =
    let step = pass_of c.loop-pass.strips.items c.pass.new.strips.items c.in_ok-pass.ensures.updated in
    search rules
