-- One chunk more, which begins within the list.
use Rattle.std.proofs.Common.{rules, ◌≡◌, ◌*◌, ◌++◌, ◌∷◌, [], ℕ, map, ap, ◌∙◌, arith, ◌+◌}
use Rattle.spindle_parts.specs.Pieces.{joined, counted}
use Rattle.spindle_parts.proofs.ListLaws.{counted_snoc, map_snoc}
use Rattle.spindle_parts.specs.Chunks.{ChunkView, own_items, chunk_from, chunks_around}
use Rattle.spindle_parts.proofs.ListChunks.{joined_chunks}
use Rattle.spindle_parts.proofs.lists.shared.SharedList.share_out_overlapping.Goals as goal

pub loop-number-preserved : goal.loop-number-preserved
loop-number-preserved g c =
    let i : ℕ = c.loop-number.number in
    let chunk : ℕ → ChunkView g.row.T.Denot = λ number. chunk_from c.args.self.now c.args.size c.args.halo (c.args.size * number) in
    let here : 0 + i ≡ i = omega arith in
    record {
      chunks = rw (c.push_reserved.ensures.items, counted_snoc 0 i, here, map_snoc chunk (counted 0 i) i, c.in_ok-chunk.ensures)
          (ap (λ t. t ++ chunk i ∷ []) c.loop-number.invariant.chunks);
      count = search rules;
      room = search rules;
    }

pub returns-clause-joined : goal.returns-clause-joined
returns-clause-joined g c =
    let all : c.loop-number.chunks.items ≡ chunks_around c.args.self.now c.args.size c.args.halo = search rules in
    ap (λ l. joined (map own_items l)) all ∙ joined_chunks c.args.self.now c.args.size c.args.halo c.requires
