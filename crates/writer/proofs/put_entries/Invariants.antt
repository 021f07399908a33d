-- `writer::put_entries` meets its contract: what is left of the list, laid at the next place, gives all of it.
use Prim.Native.Nat.{◌≤◌, ◌+◌, ◌*◌}
use mathlib.Core.Path.{◌≡◌}
use lib.ListN.{length}
use Rattle.std.specs.Iterator.Adapters.{zip_first, zip_second}
use Rattle.std.specs.Slice.Iter.{iter_rest}
use Rattle.rules.specs.Bytes.{laid}
use Rattle.rules.specs.Writer.{paired, spelled}
use Rattle.writer.proofs.put_entries.Given as goal

abbrev pub invariant-loop-offset : goal.invariant-loop-offset
invariant-loop-offset l =
    let offsets = iter_rest (zip_first l.offset-iterator) in
    let lengths = iter_rest (zip_second l.offset-iterator) in
    record {
      can_next : (goal.iterator-loop-offset).can_next l.offset-iterator;
      finite : (goal.iterator-loop-offset).is_finite l.offset-iterator;
      equal : length offsets ≡ length lengths;
      room : l.at + 16 * length offsets ≤ length l.segment;
      rest : laid l.at (spelled (paired offsets lengths)) l.segment
          ≡ laid 48 (spelled (paired l.list.offsets.now l.list.lengths.now)) l.initial.segment;
    }
