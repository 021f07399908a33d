use Rattle.bench.proofs.Replies.{answered_whole}
use Rattle.bench.proofs.carry_out.Goals as goal

pub returns : goal.returns
returns c = answered_whole _ _ _ _ _ _ _ c.execute.ensures c.copy_from_slice.ensures.after
