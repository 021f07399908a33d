use mathlib.Core.Path.{refl}
use native.Mathlib.Omega.{arith}
use Rattle.rules.specs.Segment.{pad_at}
use Rattle.segment.proofs.Faults.{over, padding, misfit, past, sound}
use Rattle.segment.proofs.judge.Goals as goal

pub returns-then-supported-size : goal.returns-then-supported-size
returns-then-supported-size c = over _ _ _ _ _ c.requires.1 refl _ c.if-supported-size.true

pub returns-then-size-pad-ne0 : goal.returns-then-size-pad-ne0
unfolding pad_at
returns-then-size-pad-ne0 c = padding _ _ _ _ _ c.requires.1 refl _ c.if-supported-size.false c.if-size-pad-ne0.true

pub returns-then-not-fits : goal.returns-then-not-fits
unfolding pad_at
returns-then-not-fits c =
    misfit _ _ _ _ _ c.requires.1 refl _ c.if-not-fits.true c.if-supported-size.false c.if-size-pad-ne0.false

pub returns-then-s-at : goal.returns-then-s-at
unfolding pad_at
returns-then-s-at c =
    past _ _ _ _ _ c.requires.1 refl _ c.if-not-fits.false c.if-supported-size.false
    c.if-size-pad-ne0.false (omega arith) c.if-s-at.true

pub returns : goal.returns
unfolding pad_at
returns c =
    sound _ _ _ _ _ c.requires.1 refl _ c.if-not-fits.false c.if-supported-size.false
    c.if-size-pad-ne0.false (omega arith) c.if-s-at.false
