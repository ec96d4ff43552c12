-- Putting pieces back: there is room for the last one, and then for the rest.
use Rattle.std.proofs.Common.{◌≡◌, ◌+◌, ◌++◌, ◌∷◌, [], length, arith, sym, map, List, ◌∙◌, ap, length-append, reverse, append_assoc}
use Rattle.std.proofs.lemmas.List.{append-nil, nil_from_length}
use Rattle.spindle_parts.specs.declared.cut.Piece.{Piece}
use Rattle.spindle_parts.specs.Pieces.{joined}
use Rattle.spindle_parts.proofs.ListLaws.{back_snoc}
use Rattle.spindle_parts.proofs.cut.put_back.Goals as goal

-- the last piece's items, and behind them those of the pieces before it
together : {P A : Type 0} (f : P → List A) (ps qs : List P) (p : P) (xs whole : List A) → ps ≡ qs ++ p ∷ [] → xs ++ joined (reverse (map f ps)) ≡ whole
    → xs ++ (f p ++ joined (reverse (map f qs))) ≡ whole
together f ps qs p xs whole e is = rw (← back_snoc f qs p, ← e) is

pub unwrap-requires : goal.unwrap-requires
unwrap-requires g c =
    let f : Piece g.row.T.Denot → List g.row.T.Denot = λ p. p.items.items in
    let t = together f _ c.take_last-run.new.self.items c.take_last-run.result _ _ c.take_last-run.ensures.items c.loop.invariant.together in
    let n = simp length-append at (ap length t) in c.append.ensures.succeeds
    (omega (arith, n, c.requires.room, c.loop.invariant.room, c.loop.items.ok.0, c.take_last-run.result.items.ok.0, c.args.items.now.ok.0))

pub loop-preserved : goal.loop-preserved
loop-preserved g c =
    let f : Piece g.row.T.Denot → List g.row.T.Denot = λ p. p.items.items in
    let t = together f _ c.take_last-run.new.self.items c.take_last-run.result _ _ c.take_last-run.ensures.items c.loop.invariant.together in
    let a : c.append.new.self.items ≡ c.loop.items.items ++ c.take_last-run.result.items.items = rw c.unwrap.ensures at c.append.ensures.items in
    record {
      together = rw (a, append_assoc) t;
      len = omega (arith, c.take_last-run.ensures.len, c.loop.invariant.len);
      room = omega (arith, c.append.ensures.capacity, c.loop.invariant.room);
    }

pub returns-clause-together : goal.returns-clause-together
returns-clause-together g c =
    let none : c.loop.pieces.items ≡ [] =
    nil_from_length c.loop.pieces.items (omega (arith, c.loop.invariant.len, c.loop-test.false, c.len-end.ensures, c.loop.pieces.ok.0)) in
    sym (append-nil c.loop.items.items) ∙ rw none at c.loop.invariant.together
