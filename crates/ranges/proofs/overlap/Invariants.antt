use Rattle.std.proofs.Common.{◌≡◌, take, drop}
use Rattle.rules.specs.Ranges.{overlapping}
use Rattle.rules.specs.Writer.{paired}
use Rattle.ranges.proofs.overlap.Given as goal

abbrev pub invariant-loop-i : goal.invariant-loop-i
invariant-loop-i l =
    overlapping (drop l.i (paired (take l.n l.offsets) (take l.n l.lengths))) ≡ overlapping (paired (take l.n l.offsets) (take l.n l.lengths))
