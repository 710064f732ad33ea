use Rattle.std.proofs.Common.{◌≡◌, map, replicate, vec_len, vec_capacity}
use Rattle.test_parts.proofs.threads.start.Given as goal

abbrev pub invariant-loop-k : goal.invariant-loop-k
invariant-loop-k l = record {
  values : map (λ x. x.0) l.values.items ≡ replicate l._k l.opening.each;
  count : vec_len l.values ≡ l._k;
  room : vec_capacity l.values ≡ 8;
}
