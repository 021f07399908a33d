use mathlib.Core.Logic.{inl}
use native.Mathlib.Omega.{arith}
use Rattle.rules.proofs.Entries.{entries_count}
use Rattle.ranges.proofs.Loading.{loaded_more}
use Rattle.ranges.proofs.overlap_in.Goals as goal

pub loop-i-init-derived : goal.loop-i-init-derived
loop-i-init-derived c =
    let i = c.into_iter-i-iterator.ensures.into_iter_gives in
    let e = c.enumerate-i-items.ensures in
    ((tt, tt, inl (rw (i, e.source, e.count, c.entries_in.ensures.entries, entries_count) (omega (arith, c.requires.few)))), tt)

pub loop-i-preserved : goal.loop-i-preserved
loop-i-preserved c =
    let e = c.in-Some.ensures.steps in
    loaded_more _ _ _ _ _ _ _ _ _ c.loop-i.invariant e.0 (rw entries_count (omega (arith, c.requires.few))) e.1 e.2
