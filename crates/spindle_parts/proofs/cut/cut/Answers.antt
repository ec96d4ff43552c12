-- Cutting from the back: what is cut joined with what is left is the list, and the pieces count down.
use Rattle.std.proofs.Common.{◌≡◌, ℕ, ◌+◌, ◌≤◌, ◌<◌, ◌-◌, ◌++◌, ◌∷◌, [], length, take, drop, arith, rules, vec_len, sym, map, get_or, List, ◌∙◌, ap, min, refl}
use Rattle.std.proofs.Common.{append_assoc, length-append, reverse, add-one}
use Rattle.std.proofs.lemmas.List.{take-append-drop, take_all, drop_all, drop_more, get_or_default, append-nil, nil_from_length}
use Rattle.spindle_parts.specs.declared.cut.Piece.{Piece}
use Rattle.spindle_parts.specs.Pieces.{joined, counted, total, cut_lengths}
use Rattle.spindle_parts.proofs.ListLaws.{total-lengths, total_last, map_snoc, reverse_snoc, back_snoc, map-reverse}
use Rattle.spindle_parts.proofs.cut.cut.Goals as goal

pub loop-done-init : goal.loop-done-init
loop-done-init g c =
    let ls : List ℕ = c.in_ok-lengths.lengths.items in
    let n : length ls ≤ c.len-count.result - 0 = omega (arith, c.len-count.ensures, c.in_ok-lengths.lengths.ok.0) in
    record {
      joined = rw (c.in_ok-pieces.ensures.items) (append-nil c.args.items.now.items);
      lengths = rw (c.in_ok-pieces.ensures.items, drop_all (c.len-count.result - 0) ls n) refl;
      numbers = rw (c.in_ok-pieces.ensures.items) refl;
      left =
          let some : 0 < vec_len c.args.items.now = search rules in
          let jobs : 0 < c.args.n_jobs = c.requires some in
          let t : total (cut_lengths (vec_len c.args.items.now) c.args.n_jobs) ≡ vec_len c.args.items.now =
          total-lengths (vec_len c.args.items.now) (min (vec_len c.args.items.now) c.args.n_jobs) (omega arith) in
          let b : ls ≡ cut_lengths (vec_len c.args.items.now) c.args.n_jobs = search rules in
          let a : length c.args.items.now.items ≡ vec_len c.args.items.now = sym c.args.items.now.ok.0 in
          rw (take_all (c.len-count.result - 0) ls n) (a ∙ sym t ∙ ap total (sym b));
      len = search rules;
      room = search rules;
      block = refl;
    }

pub overflow_sub-at : goal.overflow_sub-at
overflow_sub-at g c =
    let ls : List ℕ = c.in_ok-lengths.lengths.items in let n : ℕ = c.len-count.result in let d : ℕ = c.loop-done.done in let i : ℕ = n - 1 - d in
    let k : n - d ≡ i + 1 = omega arith in
    let h : i < length ls = omega (arith, c.len-count.ensures, c.in_ok-lengths.lengths.ok.0) in
    let r : c.index.result.now ≡ get_or ls i 0 = c.index.ensures ∙ get_or_default ls i c.index.result.now 0 h in
    let t : length c.loop-done.items.items ≡ total (take i ls) + get_or ls i 0 =
    c.loop-done.invariant.left ∙ ap (λ m. total (take m ls)) k ∙ total_last ls i h in
    omega (arith, r, t, c.len-in-loop-done.ensures, c.loop-done.items.ok.0)

pub loop-done-preserved : goal.loop-done-preserved
loop-done-preserved g c =
    let P : Type 0 = Piece g.row.T.Denot in let f : P → List g.row.T.Denot = λ p. p.items.items in let ls : List ℕ = c.in_ok-lengths.lengths.items in
    let n : ℕ = c.len-count.result in let d : ℕ = c.loop-done.done in let i : ℕ = n - 1 - d in
    let k : n - d ≡ i + 1 = omega arith in
    let k' : n - (d + 1) ≡ i = omega arith in
    let h : i < length ls = omega (arith, c.len-count.ensures, c.in_ok-lengths.lengths.ok.0) in
    let r : c.index.result.now ≡ get_or ls i 0 = c.index.ensures ∙ get_or_default ls i c.index.result.now 0 h in
    let t : length c.loop-done.items.items ≡ total (take i ls) + get_or ls i 0 =
    c.loop-done.invariant.left ∙ ap (λ m. total (take m ls)) k ∙ total_last ls i h in
    let at : ℕ = c.len-in-loop-done.result - c.index.result.now in let p : P = record { number = i; items = c.in-Ok.run' } in
    let ps : List P = c.loop-done.pieces.items in
    let e : c.push_reserved.new.self.items ≡ ps ++ p ∷ [] = c.push_reserved.ensures.items in
    let m : vec_len c.in-Ok.run' ≡ get_or ls i 0 = omega (arith, c.in-Ok.ensures.tail_len, r, t, c.len-in-loop-done.ensures, c.loop-done.items.ok.0) in
    record {
      joined =
          let back = sym (append_assoc (take at c.loop-done.items.items) (drop at c.loop-done.items.items) (joined (reverse (map f ps)))) in
          let both = take-append-drop at c.loop-done.items.items in
          rw (e, back_snoc f ps p, c.in-Ok.ensures.items, c.in-Ok.ensures.tail, back, both) c.loop-done.invariant.joined;
      lengths =
          let more = map_snoc (λ (q : P). vec_len q.items) ps p in
          let back = reverse_snoc (map (λ (q : P). vec_len q.items) ps) (vec_len c.in-Ok.run') in
          rw (e, more, back, k', drop_more ls i 0 h, m) (ap (λ z. get_or ls i 0 ∷ z) (c.loop-done.invariant.lengths ∙ ap (λ z. drop z ls) k));
      numbers = rw (e, map_snoc (λ (q : P). q.number) ps p, reverse_snoc (map (λ (q : P). q.number) ps) i, k', add-one d)
          (ap (λ z. i ∷ z) (c.loop-done.invariant.numbers ∙ ap (λ z. counted z d) k));
      left =
          let l : length c.split_off.new.self.items ≡ total (take i ls) =
          omega (arith, c.in-Ok.ensures.len, c.split_off.new.self.ok.0, r, t, c.len-in-loop-done.ensures, c.loop-done.items.ok.0) in
          l ∙ ap (λ z. total (take z ls)) (sym k');
      len = search rules;
      room = search rules;
      block = search rules;
    }

pub put_back-requires : goal.put_back-requires
put_back-requires g c =
    let rest : List g.row.T.Denot = joined (reverse (map (λ (p : Piece g.row.T.Denot). p.items.items) c.loop-done.pieces.items)) in
    let n : length c.loop-done.items.items + length rest ≡ length c.args.items.now.items =
    sym (length-append c.loop-done.items.items rest) ∙ ap length c.loop-done.invariant.joined in
    let now = c.args.items.now.ok in
    record { room = rw c.in-Err.ensures.err (omega (arith, n, c.loop-done.items.ok.0, now.0, now.1, c.loop-done.invariant.block)) }

pub returns : goal.returns
returns g c =
    let P : Type 0 = Piece g.row.T.Denot in let ls : List ℕ = c.in_ok-lengths.lengths.items in let ps : List P = c.loop-done.pieces.items in
    let left = c.loop-done.invariant in
    let z : c.len-count.result - c.loop-done.done ≡ 0 = omega (arith, c.loop-done-test.false) in
    let none : c.loop-done.items.items ≡ [] = nil_from_length c.loop-done.items.items (left.left ∙ ap (λ m. total (take m ls)) z) in
    let n : c.loop-done.done ≡ vec_len c.reverse.new.self = sym (c.reverse.ensures.len ∙ left.len) in
    record {
      joined = rw (c.reverse.ensures.items, map-reverse (λ (p : P). p.items.items) ps) (rw none at left.joined);
      lengths = rw (c.reverse.ensures.items, map-reverse (λ (p : P). vec_len p.items) ps)
          (left.lengths ∙ ap (λ m. drop m ls) z ∙ c.in_ok-lengths.ensures.lengths ∙ ap (λ m. cut_lengths m c.args.n_jobs) c.len.ensures);
      numbers = rw (c.reverse.ensures.items, map-reverse (λ (p : P). p.number) ps)
          (left.numbers ∙ ap (λ m. counted m c.loop-done.done) z ∙ ap (λ m. counted 0 m) n);
      taken = none;
      memory = tt;
      kept = tt;
      block = omega (arith, left.block);
      nothing = search rules;
    }
