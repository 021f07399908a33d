use Rattle.std.proofs.Common.{sym, ◌∙◌}
use native.Mathlib.Omega.{arith}
use Rattle.reader.proofs.Stepping.{no_more, stays, goes}
use Rattle.reader.proofs.position_after.Goals as goal

pub returns-in-Break : goal.returns-in-Break
returns-in-Break c = sym (c.loop.invariant ∙ stays _ _ _ c.step_from.ensures _ c.in-Break.is _)

pub loop-preserved : goal.loop-preserved
loop-preserved c = c.loop.invariant ∙ goes _ _ _ c.step_from.ensures _ c.in-Continue.is _ _ (omega arith)

pub returns : goal.returns
returns c = sym (c.loop.invariant ∙ no_more _ _ _ (omega arith))
