use Rattle.std.proofs.Common.{◌≡◌, ◌+◌, ◌/◌, ◌<◌, ◌^◌}
use Rattle.rules.specs.Ranges.{total}
use Rattle.rules.specs.Segment.{entries_from}
use Rattle.segment.specs.Left.{entries_left}
use Rattle.ranges.proofs.sum_in.Given as goal

abbrev pub invariant-loop-g : goal.invariant-loop-g
invariant-loop-g l = (l.sum < 2 ^ 64) × (l.sum + total (entries_left l.g-iterator) ≡ total (entries_from (l.fn.part.size / 16) l.s l.fn.part.at))
