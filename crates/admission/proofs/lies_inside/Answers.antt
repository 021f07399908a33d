use Rattle.std.proofs.Common.{rules}
use borrow.Author.Tests.{tests}
use mathlib.Core.Path.{◌∙◌}
use Rattle.std.proofs.lemmas.Iterator.{YieldsList-from_slice}
use Rattle.std.proofs.lemmas.Iterator.Search.{any_from_yields_List}
use Rattle.segment.proofs.Runs.{any_is}
use Rattle.capability.specs.Allowance.{inside_of}
use Rattle.admission.proofs.lies_inside.Goals as goal

pub returns : goal.returns
returns c =
    any_from_yields_List (inside_of c.args.g) _ _ _ c.any.ensures.ran (YieldsList-from_slice c.args.allowances.now (cc))
    (λ x b q k. search (rules, tests))
    ∙ any_is (inside_of c.args.g) c.args.allowances.now
