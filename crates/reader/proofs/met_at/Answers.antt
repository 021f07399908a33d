use Rattle.reader.proofs.Stepping.{going}
use Rattle.reader.proofs.met_at.Goals as goal

pub returns-in-Continue : goal.returns-in-Continue
returns-in-Continue c = going _ _ _ c.step_from.ensures _ c.in-Continue.is _ c.standing_at.ensures
