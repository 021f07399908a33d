-- `writer::put_cdb` meets its contract: the pieces stand one behind the other.
use Rattle.writer.specs.Asked.{request_of}
use Rattle.writer.proofs.CdbPieces.{cdb_laid}
use Rattle.writer.proofs.put_cdb.Goals as goal

pub returns : goal.returns
returns c =
    let w = c.args in
    cdb_laid (request_of w.request) w.size w.continuation w.cdb.now c.requires.fit c.put_pair.ensures c.put_pair-2.ensures c.put_pair-3.ensures
    c.put32.ensures c.wipe.ensures c.copy.ensures c.wipe-2.ensures
