-- `writer::length_of` meets its contract.
use borrow.Author.Rules.{rules}
use Rattle.writer.proofs.Planned.{apart, no_write, passes}
use Rattle.writer.proofs.length_of.Goals as goal
use Rattle.writer.proofs.length_of.Goals.{
  else-request-eq-WRITE-via-then-request-eq-WRITE+else-overlap,
  else-request-eq-WRITE-via-else-request-eq-WRITE,
}

-- none of the five tests holds
pub returns : goal.returns
returns c =
    let r = c.args.request in
    let l = c.in-Some.list in
    passes r l c.in-Some.is (search rules) (search rules) (search rules) (search rules) (search rules) c.in_ok-total.ensures
    (elim c.else-request-eq-WRITE.branch [
      | else-request-eq-WRITE-via-then-request-eq-WRITE+else-overlap w ↦
          apart r l c.in-Some.is (search rules) w.overlap.ensures w.if-overlap.false
      | else-request-eq-WRITE-via-else-request-eq-WRITE w ↦ no_write r l c.in-Some.is w.if-request-eq-WRITE.false
    ])
