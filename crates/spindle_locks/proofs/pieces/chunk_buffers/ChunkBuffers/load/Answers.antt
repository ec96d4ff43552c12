-- One piece more is a chunk.
use Rattle.std.proofs.Common.{◌≡◌, ◌≤◌, ◌/◌, ◌+◌, ◌-◌, ◌++◌, ◌∷◌, [], ℕ, suc, length, take, drop, refl, ap, sym, subst, ◌∙◌, arith, vec_len}
use Rattle.std.proofs.lemmas.List.{take-take}
use Rattle.spindle_locks.specs.InPlace.{HaveCapacity, last_pieces}
use Rattle.std.proofs.Math.Nat.{le_antisymm}
use Rattle.spindle_locks.specs.PieceRuns.{piece_start, items_before, piece_at}
use Rattle.spindle_locks.proofs.PieceRuns.{before_first}
use Rattle.spindle_locks.proofs.InPlace.{all_before, piece_last, piece_short, room_less, start_all, start_before, none_left, one_fits, some_ready}
use Rattle.spindle_locks.proofs.pieces.chunk_buffers.ChunkBuffers.load.Goals as goal

pub loop-done-init : goal.loop-done-init
unfolding last_pieces
loop-done-init g c = let few = c.requires.jobs in let old = c.args.items.now in let n : ℕ = c.args.jobs in let zero : n - 0 ≡ n = omega arith in
    let ready = c.requires.ready in record {
      items = sym (ap (λ (k : ℕ). items_before old.items n k) zero ∙ all_before old.items n (omega arith));
      len = sym (ap (λ (k : ℕ). piece_start (vec_len old) n k) zero ∙ start_all (vec_len old) n (omega arith));
      block = refl;
      chunks = ready.none;
      room = ready.places;
      chunked = omega (arith, ap length ready.none, c.args.self.now.chunks.ok.0);
      buffers = ready.buffers;
      ready = omega (arith, ready.many, c.args.self.now.ready.ok.0);
    }

pub load-requires-clause-room : goal.load-requires-clause-room
load-requires-clause-room g c = let i = c.loop-done.invariant in let n : ℕ = c.args.jobs in let k : ℕ = c.loop-done.done in
    let len : ℕ = vec_len c.args.items.now in let m : ℕ = n - 1 - k in let next : n - k ≡ m + 1 = omega arith in
    let long : c.len-len.result ≡ len = omega arith in
    let less = room_less (len / n + 1) c.take_last-buffer.new.self.items c.take_last-buffer.result
    (subst (HaveCapacity (len / n + 1)) c.take_last-buffer.ensures.items i.buffers) in
    let from = c.start-from.ensures.start ∙ ap (λ (l : ℕ). piece_start l n m) long in
    omega (arith, less.1, i.len ∙ ap (λ (j : ℕ). piece_start len n j) next, from, piece_short len n m)

pub loop-done-preserved : goal.loop-done-preserved
unfolding last_pieces
loop-done-preserved g c = let i = c.loop-done.invariant in let old = c.args.items.now in let n : ℕ = c.args.jobs in let k : ℕ = c.loop-done.done in
    let len : ℕ = vec_len old in let m : ℕ = n - 1 - k in let next : n - k ≡ m + 1 = omega arith in let here : n - (k + 1) ≡ m = omega arith in
    let long : c.len-len.result ≡ len = omega arith in
    let f : ℕ = c.start-from.result in let from : f ≡ piece_start len n m = c.start-from.ensures.start ∙ ap (λ (l : ℕ). piece_start l n m) long in
    let same : len ≡ length old.items = old.ok.0 in let at : f ≡ piece_start (length old.items) n m = from ∙ ap (λ (l : ℕ). piece_start l n m) same in
    let was : c.loop-done.items.items ≡ items_before old.items n (m + 1) = i.items ∙ ap (λ (j : ℕ). items_before old.items n j) next in
    let less = room_less (len / n + 1) c.take_last-buffer.new.self.items c.take_last-buffer.result
    (subst (HaveCapacity (len / n + 1)) c.take_last-buffer.ensures.items i.buffers) in
    let up : piece_start (length old.items) n m ≤ piece_start (length old.items) n (m + 1) = omega arith in
    let one : suc k ≡ k + 1 = omega arith in let last : n - suc k ≡ m = omega arith in record {
      items = c.load.ensures.left ∙ (ap (take f) was ∙ (ap (λ (j : ℕ). take j (items_before old.items n (m + 1))) at
          ∙ (take-take (piece_start (length old.items) n m) (piece_start (length old.items) n (m + 1)) old.items up
          ∙ ap (λ (j : ℕ). items_before old.items n j) (sym here))));
      len = c.load.ensures.len ∙ (from ∙ ap (λ (j : ℕ). piece_start len n j) (sym here));
      block = c.load.ensures.block ∙ i.block;
      chunks = c.push_reserved.ensures.items ∙ (ap (λ l. l ++ c.load.result ∷ []) i.chunks ∙ (ap (λ x. last_pieces old.items n k ++ x ∷ [])
          (c.load.ensures.taken ∙ (ap (drop f) was ∙ (ap (λ (j : ℕ). drop j (items_before old.items n (m + 1))) at ∙ (piece_last old.items n m
          ∙ ap (piece_at old.items n) (sym last))))) ∙ ap (last_pieces old.items n) one));
      room = omega (arith, c.push_reserved.ensures.capacity, i.room);
      chunked = omega (arith, c.push_reserved.ensures.len, i.chunked);
      buffers = less.0;
      ready = omega (arith, c.take_last-buffer.ensures.len, i.ready);
    }

pub take_last-buffer-requires : goal.take_last-buffer-requires
take_last-buffer-requires g c = some_ready _ _ _ c.loop-done.invariant.ready c.loop-done-test.true

pub load-requires-clause-from : goal.load-requires-clause-from
load-requires-clause-from g c = start_before _ _ _ _ _ _ c.len-len.ensures c.loop-done-test.true c.start-from.ensures.start c.loop-done.invariant.len

pub push_reserved-requires : goal.push_reserved-requires
push_reserved-requires g c = let i = c.loop-done.invariant in one_fits _ _ _ _ i.chunked c.loop-done-test.true i.room

pub returns-clause-chunks : goal.returns-clause-chunks
returns-clause-chunks g c = let i = c.loop-done.invariant in
    i.chunks ∙ ap (last_pieces c.args.items.now.items c.args.jobs) (le_antisymm c.loop-done.auto.done-end c.loop-done-test.false)

pub returns-clause-items : goal.returns-clause-items
returns-clause-items g c = let i = c.loop-done.invariant in let old = c.args.items.now.items in let n : ℕ = c.args.jobs in
    (i.items ∙ (ap (λ (k : ℕ). items_before old n k) (none_left _ _ c.loop-done-test.false) ∙ before_first old n), i.block)
