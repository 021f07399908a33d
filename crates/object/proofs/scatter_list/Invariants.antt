-- The entries that are left, filled from the rest of the command data, make of the slice what is asked.
use Rattle.std.proofs.Common.{◌≡◌, ◌/◌, ◌≤◌, length}
use Rattle.rules.specs.Ranges.{total, reach}
use Rattle.rules.specs.Segment.{entries_from}
use Rattle.rules.specs.Object.{scattered}
use Rattle.segment.specs.Left.{entries_left}
use Rattle.object.proofs.scatter_list.Given as goal

abbrev pub invariant-loop-g : goal.invariant-loop-g
invariant-loop-g l =
    (total (entries_left l.g-iterator) ≤ length l.rest)
    × (reach 0 (entries_left l.g-iterator) ≤ length l.slice)
    × (scattered l.slice (entries_left l.g-iterator) l.rest ≡ scattered l.initial.slice (entries_from (l.fn.part.size / 16) l.s l.fn.part.at) l.payload)
