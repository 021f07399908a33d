use Rattle.std.proofs.Common.{◌/◌}
use Rattle.std.specs.Iterator.Adapters.{enumerate_source, enumerate_count}
use Rattle.rules.specs.Segment.{entries_from}
use Rattle.segment.specs.Left.{entries_left}
use Rattle.ranges.proofs.Loading.{Loaded}
use Rattle.ranges.proofs.overlap_in.Given as goal

abbrev pub invariant-loop-i : goal.invariant-loop-i
invariant-loop-i l =
    Loaded (entries_from (l.fn.part.size / 16) l.s l.fn.part.at) l.offsets l.lengths (enumerate_count l.i-iterator)
    (entries_left (enumerate_source l.i-iterator))
