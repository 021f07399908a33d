use Rattle.std.proofs.Common.{rules}
use borrow.Author.Tests.{tests}
use Rattle.segment.proofs.Runs.{any_left}
use Rattle.ranges.specs.Asked.{beyond_in}
use Rattle.ranges.proofs.starts_beyond_in.Goals as goal

pub returns : goal.returns
unfolding beyond_in
returns c = any_left _ c.entries_in.ensures.entries _ _ _ (λ x b q k. search (rules, tests)) c.any.ensures.ran
