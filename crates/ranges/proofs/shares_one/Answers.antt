use Rattle.std.proofs.Common.{rules}
use borrow.Author.Tests.{tests}
use mathlib.Core.Path.{◌∙◌}
use Rattle.std.proofs.lemmas.Iterator.{YieldsList-from_slice, YieldsList-from_zip}
use Rattle.std.proofs.lemmas.Iterator.Search.{any_from_yields_List}
use Rattle.rules.specs.Ranges.{meet}
use Rattle.ranges.proofs.Meetings.{met_pairs}
use Rattle.ranges.proofs.shares_one.Goals as goal

pub returns : goal.returns
returns c =
    any_from_yields_List {s = c.zip.result} (λ p. meet c.args.g (record { start = p.0; size = p.1 })) c.any.new.self _ _ c.any.ensures.ran
    (YieldsList-from_zip (YieldsList-from_slice c.args.offsets.now (cc)) (YieldsList-from_slice c.args.lengths.now (cc)))
    (λ x b q k. search (rules, tests))
    ∙ met_pairs (meet c.args.g) _ _
