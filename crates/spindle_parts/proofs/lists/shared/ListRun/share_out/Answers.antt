-- One more run: the items behind those shared out, of the next length.
use Rattle.std.proofs.Common.{◌≡◌, ℕ, ◌+◌, ◌-◌, ◌<◌, ◌++◌, ◌∷◌, [], List, length, take, drop, get_or, ap, arith, rules, slice_range}
use Rattle.std.proofs.lemmas.List.{take_more, length-take-le, length-drop}
use Rattle.spindle_parts.proofs.ListLaws.{joined_snoc, map_snoc, total_last}
use Rattle.spindle_parts.proofs.ListRuns.{total_part}
use Rattle.std.proofs.Math.Seq.{take-add}
use Rattle.spindle_parts.proofs.lists.shared.ListRun.share_out.Goals as goal

pub overflow_sub-len : goal.overflow_sub-len
overflow_sub-len g c =
    omega (arith, c.loop-length.invariant.from, c.loop-length.invariant.len, c.requires.whole, total_part c.loop-length.length-index c.args.lengths.now)

pub run-requires-clause-in_run : goal.run-requires-clause-in_run
run-requires-clause-in_run g c = let i = c.loop-length.invariant in
    omega (arith, c.min.ensures, i.from, i.len, c.requires.whole, total_part c.loop-length.length-index c.args.lengths.now)

pub loop-length-preserved : goal.loop-length-preserved
loop-length-preserved g c =
    let ls : List ℕ = c.args.lengths.now in let xs : List g.row.T.Denot = c.args.self.now in let i : ℕ = c.loop-length.length-index in
    let from : ℕ = c.loop-length.from in let n : ℕ = c.min.result in
    let h : i < length ls = search rules in
    let t = total_last ls i h in let u = total_part (i + 1) ls in
    let m : n ≡ get_or ls i 0 = omega (arith, c.min.ensures, t, u, c.loop-length.invariant.from, c.loop-length.invariant.len, c.requires.whole) in
    let e : c.push_reserved.new.self.items ≡ c.loop-length.runs.items ++ slice_range xs from (from + n) ∷ [] = search rules in
    let k : from + n - from ≡ n = omega arith in
    let s : slice_range xs from (from + n) ≡ take n (drop from xs) = ap (λ z. take z (drop from xs)) k in
    let l : length (take n (drop from xs)) ≡ n = length-take-le n (drop from xs)
    (omega (arith, length-drop from xs, t, u, m, c.loop-length.invariant.from, c.requires.whole)) in
    record {
      from = omega (arith, t, m, c.loop-length.invariant.from);
      joined = rw (e, joined_snoc, s, take-add from n xs) (ap (λ z. z ++ take n (drop from xs)) c.loop-length.invariant.joined);
      lengths = rw (e, map_snoc, take_more ls i 0 h, s, l, m) (ap (λ z. z ++ get_or ls i 0 ∷ []) c.loop-length.invariant.lengths);
      count = search rules;
      room = search rules;
      len = c.loop-length.invariant.len;
    }
