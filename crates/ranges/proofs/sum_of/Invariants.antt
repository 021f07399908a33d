use Rattle.std.proofs.Common.{◌≡◌, ◌<◌, ◌+◌, ◌^◌, take, drop}
use Rattle.rules.proofs.Paired.{sum}
use Rattle.ranges.proofs.sum_of.Given as goal

abbrev pub invariant-loop-more : goal.invariant-loop-more
invariant-loop-more l = (l.sum < 2 ^ 64) × (l.sum + sum (drop l.more-index (take l.n l.lengths)) ≡ sum (take l.n l.lengths))
