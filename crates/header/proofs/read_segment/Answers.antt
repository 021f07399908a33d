use Rattle.header.proofs.Rows.{length_refused}
use Rattle.header.proofs.read_segment.Goals as goal

pub returns-then-is_wrong_length : goal.returns-then-is_wrong_length
returns-then-is_wrong_length c = λ on. length_refused _ _ c.requires _ c.is_wrong_length.ensures c.if-is_wrong_length.true
