-- `writer::put_list` meets its contract.
use native.Mathlib.Omega.{arith}
use Rattle.writer.proofs.SegmentPieces.{list_bytes}
use Rattle.writer.proofs.put_list.Goals as goal

pub returns-clause-bytes : goal.returns-clause-bytes
returns-clause-bytes c =
    list_bytes c.args.request _ c.requires.fit c.in-Some.is _ (omega (arith, c.requires.room)) c.put64.ensures c.put_entries.ensures
