-- Moving pieces to a list: the last of the list is the next of it read backwards.
use Rattle.std.proofs.Common.{◌≡◌, ◌∷◌, ◌++◌, [], reverse, take, drop, length, min, List, arith, sym, ap, ◌∙◌, append_assoc}
use Rattle.std.proofs.lemmas.List.{take_min, drop_min, length-reverse}
use Rattle.spindle_parts.specs.declared.cut.Piece.{Piece}
use Rattle.spindle_parts.proofs.ListLaws.{reverse_snoc, taken_next, dropped_next}
use Rattle.spindle_parts.proofs.cut.move_last.Goals as goal

pub loop-preserved : goal.loop-preserved
loop-preserved g c =
    let P : Type 0 = Piece g.row.T.Denot in let R : List P = reverse c.args.pieces.now.items in let n = c.loop.counter in
    let left : List P = c.take_last.new.self.items in
    let e : drop n R ≡ c.take_last.result ∷ reverse left =
    sym c.loop.invariant.pieces ∙ ap reverse c.take_last.ensures.items ∙ reverse_snoc left c.take_last.result in
    record {
      list = rw (c.push_reserved.ensures.items, c.loop.invariant.list, taken_next R n c.take_last.result (reverse left) e)
          (append_assoc c.args.list.now.items (take n R) (c.take_last.result ∷ []));
      pieces = sym (dropped_next R n c.take_last.result (reverse left) e);
      len = omega arith;
      list_len = omega arith;
      room = omega arith;
    }

pub returns : goal.returns
returns g c =
    let R : List (Piece g.row.T.Denot) = reverse c.args.pieces.now.items in
    let n : c.loop.counter ≡ min c.args.count (length R) =
    let l = length-reverse c.args.pieces.now.items in
    omega (arith, c.loop.auto.counter-end, c.loop-test.false, c.min-end.ensures, c.len.ensures, c.args.pieces.now.ok.0, l) in
    record {
      list = c.loop.invariant.list ∙ ap (λ k. c.args.list.now.items ++ take k R) n ∙ ap (λ t. c.args.list.now.items ++ t) (take_min c.args.count R);
      pieces = c.loop.invariant.pieces ∙ ap (λ k. drop k R) n ∙ drop_min c.args.count R;
      room = c.loop.invariant.room;
    }
