-- `segment::walk_over` meets its contract: what is left of the walk from here on is the whole walk, and each step comes further.
use Rattle.std.proofs.Common.{◌≡◌, ◌-◌, length}
use Rattle.rules.specs.Segment.{walk}
use Rattle.segment.proofs.Walking.{walk_at}
use Rattle.segment.proofs.walk_over.Given as goal

abbrev pub invariant-loop-next : goal.invariant-loop-next
invariant-loop-next l = walk l.s ≡ walk_at (length l.s) l.s l.position

abbrev pub decreases-loop-next : goal.decreases-loop-next
decreases-loop-next l = length l.s - l.position.at
