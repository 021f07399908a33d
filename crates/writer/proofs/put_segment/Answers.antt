-- `writer::put_segment` meets its contract: the pieces stand one behind the other.
use borrow.Author.Rules.{rules}
use Rattle.writer.specs.Asked.{request_of}
use Rattle.writer.proofs.SegmentPieces.{HasSegment, segments, segment_laid}
use Rattle.writer.proofs.put_segment.Goals as goal

pub returns : goal.returns
returns c =
    let some : HasSegment (request_of c.args.request) = search (rules, segments) in
    segment_laid _ _ some c.put_head.ensures c.put_list-end.ensures.end c.put_list-end.ensures.bytes c.put_extension.ensures
