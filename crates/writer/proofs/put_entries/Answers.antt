-- `writer::put_entries` meets its contract.
use mathlib.Core.Path.{◌≡◌, sym, ◌∙◌}
use native.Mathlib.Omega.{arith}
use borrow.Author.Rules.{rules}
use lib.ListN.{length}
use Rattle.std.specs.Iterator.Adapters.{zip_first}
use Rattle.std.specs.Slice.Iter.{iter_rest}
use Rattle.writer.proofs.Beside.{pair_laid}
use Rattle.writer.proofs.SegmentPieces.{entry_more, entries_end}
use Rattle.writer.proofs.put_entries.Goals as goal

pub loop-offset-preserved : goal.loop-offset-preserved
loop-offset-preserved c =
    let here = c.in-Some.ensures.steps in
    record {
      can_next = search rules;
      finite = search rules;
      equal = search rules;
      room = search rules;
      rest = entry_more _ _ _ _ here.0 here.1 (omega arith) (pair_laid _ _ _ _ (omega arith) c.put64.ensures c.put64-in-loop-offset.ensures)
          c.loop-offset.invariant.rest;
    }

pub returns : goal.returns
returns c =
    let left = iter_rest (zip_first c.loop-offset.offset-iterator) in
    let none : length left ≡ 0 = grind (arith, c.in-None.ensures.steps, c.loop-offset.invariant.equal) in
    sym (entries_end _ left _ _ none) ∙ c.loop-offset.invariant.rest
