use native.Mathlib.Omega.{arith}
use Rattle.segment.proofs.Walking.{onwards}
use Rattle.segment.proofs.walk_over.Goals as goal

pub loop-next-smaller : goal.loop-next-smaller
loop-next-smaller c = let o = onwards _ _ _ c.step_from.ensures _ c.in-Continue.is in omega (arith, o)
