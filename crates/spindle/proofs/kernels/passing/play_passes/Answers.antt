-- One pass more, after which the passes go on, or end.
use Rattle.std.proofs.Common.{◌≡◌, suc, ◌<◌, List, true, false, rules, subst}
use Rattle.spindle_parts.specs.Strips.{items_of}
use Rattle.spindle_parts.specs.declared.lists.strips.Strip.{Strip}
use Rattle.spindle.specs.Passes.{all_settled, passed_times, NoneSettled}
use Rattle.spindle.specs.declared.kernels.passing.Note.{Note}
use Rattle.spindle.proofs.PassLists.{goes_on, ends_here, ends_at_most}
use Rattle.spindle.proofs.kernels.passing.play_passes.Goals as goal

pub loop-count-preserved : goal.loop-count-preserved
loop-count-preserved g c =
    let f = g.K.Stencil.becomes in let s = g.K.Stencil.settles in
    let new : List (Strip g.row.K-Value.Denot (Note g.row.K.Denot)) = c.pass.new.strips.items in
    let not : all_settled new ≡ false = search rules in (
      search rules,
      search rules,
      λ kernel noted.
          let i = c.loop-count.invariant.2 kernel noted in
          goes_on f s kernel (items_of c.args.strips.now.items) c.args.edge c.loop-count.count c.loop-count.strips.items new i.0 i.1 i.2 c.in_ok-pass.ensures.updated not,
    )

pub returns-then-have_settled-clause-passed : goal.returns-then-have_settled-clause-passed
returns-then-have_settled-clause-passed g c = λ kernel noted.
    let f = g.K.Stencil.becomes in let s = g.K.Stencil.settles in
    let new : List (Strip g.row.K-Value.Denot (Note g.row.K.Denot)) = c.pass.new.strips.items in
    let all : all_settled new ≡ true = search rules in
    let few : c.loop-count.count < c.args.most = search rules in
    let i = c.loop-count.invariant.2 kernel noted in
    ends_here f s kernel (items_of c.args.strips.now.items) c.args.edge c.loop-count.count c.loop-count.strips.items new i.0 i.1 i.2 c.in_ok-pass.ensures.updated
    c.args.most few all

pub returns-clause-passed : goal.returns-clause-passed
returns-clause-passed g c = λ kernel noted.
    let f = g.K.Stencil.becomes kernel in let s = g.K.Stencil.settles kernel in
    let i = c.loop-count.invariant.2 kernel noted in
    let start : List g.row.K-Value.Denot = items_of c.args.strips.now.items in
    let end : c.loop-count.count ≡ c.args.most = search rules in
    ends_at_most f s c.args.edge c.args.most start (items_of c.loop-count.strips.items)
    (subst (λ n. items_of c.loop-count.strips.items ≡ passed_times f c.args.edge n start) end i.1)
    (subst (λ n. NoneSettled f s c.args.edge (suc n) start) end i.2)
