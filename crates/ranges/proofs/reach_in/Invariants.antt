use Rattle.std.proofs.Common.{◌≡◌, ◌≤◌, ◌/◌}
use Rattle.rules.specs.Ranges.{reach}
use Rattle.rules.specs.Segment.{entries_from}
use Rattle.segment.specs.Left.{entries_left}
use Rattle.ranges.proofs.reach_in.Given as goal

abbrev pub invariant-loop-g : goal.invariant-loop-g
invariant-loop-g l =
    (l.top ≤ l.limit) × (reach l.top (entries_left l.g-iterator) ≡ reach l.reached (entries_from (l.fn.part.size / 16) l.s l.fn.part.at))
