-- `bench::fill` meets its contract: no more is read than there is space.
use Rattle.std.proofs.Common.{◌-◌, ◌≤◌, length}
use Rattle.bench.proofs.fill.Given as goal

abbrev pub invariant-loop-done : goal.invariant-loop-done
invariant-loop-done l = l.done ≤ length l.space

abbrev pub decreases-loop-done : goal.decreases-loop-done
decreases-loop-done l = length l.space - l.done
