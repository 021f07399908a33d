-- What is done is `done` bytes of `input`: with the bytes of the entries that are left laid behind them, all is as asked.
use Rattle.std.proofs.Common.{◌≡◌, ◌/◌, ◌≤◌, ◌+◌, length}
use mathlib.Core.Bool.{false}
use lib.Dec.{ltb}
use Rattle.rules.specs.declared.Range.{Range}
use Rattle.rules.specs.Bytes.{any, laid}
use Rattle.rules.specs.Ranges.{total}
use Rattle.rules.specs.Segment.{entries_from}
use Rattle.rules.specs.Object.{gathered}
use Rattle.segment.specs.Left.{entries_left}
use Rattle.object.proofs.gather_list.Given as goal

abbrev pub invariant-loop-g : goal.invariant-loop-g
invariant-loop-g l =
    (l.done + total (entries_left l.g-iterator) ≤ length l.input)
    × (any (λ (g : Range). ltb (length l.object) g.start) (entries_left l.g-iterator) ≡ false)
    × (l.done + length (gathered l.object (entries_left l.g-iterator))
    ≡ length (gathered l.object (entries_from (l.fn.part.size / 16) l.s l.fn.part.at)))
    × (laid l.done (gathered l.object (entries_left l.g-iterator)) l.input
    ≡ laid 0 (gathered l.object (entries_from (l.fn.part.size / 16) l.s l.fn.part.at)) l.initial.input)
