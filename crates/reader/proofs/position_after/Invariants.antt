-- `reader::position_after` meets its contract: the steps that are left, taken from where the loop is, come to where all of them come to.
use Rattle.std.proofs.Common.{◌≡◌, ◌-◌}
use Rattle.reader.specs.Position.{after}
use Rattle.reader.proofs.position_after.Given as goal

abbrev pub invariant-loop : goal.invariant-loop
invariant-loop l = after l.fn.steps l.s l.fn.position ≡ after (l.fn.steps - l.counter) l.s l.reached
