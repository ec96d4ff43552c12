-- Making the empty lists: one more, of the next length.
use Rattle.std.proofs.Common.{◌≡◌, ℕ, ◌<◌, [], get_or, List, Vec, Global, vec_capacity, arith, rules, sym, ap, replicate, ◌∙◌, length}
use Rattle.std.proofs.lemmas.List.{map_push, take_more, take_all, replicate_more}
use Rattle.spindle_parts.specs.declared.cut.Piece.{Piece}
use Rattle.spindle_parts.specs.Pieces.{lengths_of}
use Rattle.spindle_parts.proofs.Deals.{length-lengths_of, longer_at, shorter_at}
use Rattle.spindle_parts.proofs.cut.empty_lists.Goals as goal
use Rattle.spindle_parts.proofs.cut.empty_lists.Goals.{then-thread-over, else-thread-over}

pub loop-thread-preserved : goal.loop-thread-preserved
loop-thread-preserved g c =
    let P : Type 0 = Piece g.row.T.Denot in let i = c.loop-thread.thread in let list = c.in_ok-with_capacity.field-0 in let old = c.loop-thread.lists.items in
    let ls : List ℕ = lengths_of c.args.count c.args.threads in
    let here : get_or ls i 0 ≡ c.if-thread-over.room =
    elim c.if-thread-over.branch [
      | then-thread-over w ↦ longer_at c.args.count c.args.threads i (search rules) ∙ sym (search rules)
      | else-thread-over w ↦ shorter_at c.args.count c.args.threads i (search rules) (search rules) ∙ sym (search rules)
    ] in
    let cap : vec_capacity list ≡ get_or ls i 0 = c.in_ok-with_capacity.ensures.exact ∙ sym here in
    let h : i < length ls = omega (arith, length-lengths_of c.args.count c.args.threads c.requires) in
    record {
      empty =
          let more = map_push (λ (h : Vec P Global). h.items) old list in
          rw (c.push_reserved.ensures.items, more, c.loop-thread.invariant.empty, c.in_ok-with_capacity.ensures.items) (replicate_more i []);
      rooms = rw (c.push_reserved.ensures.items, map_push (λ (h : Vec P Global). vec_capacity h) old list, c.loop-thread.invariant.rooms, cap)
          (sym (take_more ls i 0 h));
      len = omega arith;
      room = omega arith;
    }

pub returns : goal.returns
returns g c =
    let ls : List ℕ = lengths_of c.args.count c.args.threads in
    let n : c.loop-thread.thread ≡ c.args.threads = omega (arith, c.loop-thread.auto.thread-end, c.loop-thread-test.false) in
    record {
      empty = c.loop-thread.invariant.empty ∙ ap (λ k. replicate k []) n;
      rooms = c.loop-thread.invariant.rooms ∙ take_all c.loop-thread.thread ls (omega (arith, n, length-lengths_of c.args.count c.args.threads c.requires));
      memory = tt;
    }
