-- `movers::move_down` meets its contract: after each turn, a block more of the part is laid.
use Prim.Native.Nat.{min}
use mathlib.Core.Path.{◌≡◌}
use Rattle.rules.specs.Bytes.{part, laid}
use Rattle.movers.proofs.move_down.Given as goal

abbrev pub invariant-loop-done : goal.invariant-loop-done
invariant-loop-done l = l.s ≡ laid l.to (part l.from (min l.n l.done) l.initial.s) l.initial.s
