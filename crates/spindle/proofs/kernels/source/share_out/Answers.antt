-- One more part: the items behind those shared out, of the next length.
use Rattle.std.proofs.Common.{◌≡◌, ℕ, ◌+◌, ◌-◌, ◌<◌, ◌++◌, ◌∷◌, [], List, length, map, take, drop, get_or, ap, ◌∙◌, arith, rules}
use Rattle.spindle_parts.proofs.ListLaws.{joined_snoc, map_snoc, total_last}
use Rattle.spindle_parts.proofs.ListRuns.{total_part}
use Rattle.std.proofs.Math.Seq.{take-add}
use Rattle.spindle.proofs.kernels.source.share_out.Goals as goal

pub overflow_sub-len : goal.overflow_sub-len
overflow_sub-len g c =
    omega (arith, c.loop-length.invariant.from, c.loop-length.invariant.len, c.requires.whole, total_part c.loop-length.length-index c.args.lengths.now)

pub part-requires-clause-in_list : goal.part-requires-clause-in_list
part-requires-clause-in_list g c =
    omega (
      arith,
      c.min.ensures,
      c.loop-length.invariant.from,
      c.loop-length.invariant.len,
      c.requires.whole,
      total_part c.loop-length.length-index c.args.lengths.now,
    )

pub loop-length-preserved : goal.loop-length-preserved
loop-length-preserved g c =
    let items = g.S.Source.items in
    let ls : List ℕ = c.args.lengths.now in
    let xs : List g.row.S-Item.Denot = items c.args.source.now in
    let i : ℕ = c.loop-length.length-index in
    let from : ℕ = c.loop-length.from in
    let n : ℕ = c.min.result in
    let part = c.in_ok-part.field-0 in
    let h : i < length ls = search rules in
    let t = total_last ls i h in
    let u = total_part (i + 1) ls in
    let m : n ≡ get_or ls i 0 = omega (arith, c.min.ensures, t, u, c.loop-length.invariant.from, c.loop-length.invariant.len, c.requires.whole) in
    let e : c.push_reserved.new.self.items ≡ c.loop-length.parts.items ++ part ∷ [] = search rules in
    let k : from + n - from ≡ n = omega arith in
    let s : items part ≡ take n (drop from xs) = c.in_ok-part.ensures ∙ ap (λ z. take z (drop from xs)) k in
    record {
      from = omega (arith, t, m, c.loop-length.invariant.from);
      joined = rw (e, map_snoc items c.loop-length.parts.items part, joined_snoc (map items c.loop-length.parts.items) (items part), s, take-add from n xs)
          (ap (λ z. z ++ take n (drop from xs)) c.loop-length.invariant.joined);
      count = search rules;
      room = search rules;
      len = c.loop-length.invariant.len;
    }
