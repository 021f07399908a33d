-- `question::first_extension` meets its contract: the number that `position` gives is the place's.
use Rattle.std.proofs.Common.{rules, ◌≡◌, ◌/◌}
use borrow.Author.Tests.{tests}
use native.Mathlib.Omega.{arith}
use mathlib.Core.Path.{◌∙◌}
use Rattle.std.specs.List.{position}
use Rattle.std.proofs.lemmas.Iterator.{YieldsList-from_slice}
use Rattle.std.proofs.lemmas.Iterator.Search.{position_from_yields_List}
use Rattle.capability.specs.Sought.{admits_in}
use Rattle.capability.specs.Pieces.{pieces_from}
use Rattle.capability.proofs.Pieces.{chunks_are}
use Rattle.question.proofs.Search.{tested, place_found, place_found_at}
use Rattle.question.proofs.first_extension.Goals as goal
use Rattle.question.proofs.first_extension.Goals.{After-position}

-- the number of the first of the extension's capabilities that admits the range
found : (c : After-position)
    → c.position.result ≡ position (admits_in c.args.by c.args.g) (pieces_from c.args.segment.now (c.args.part.size / 104) c.args.part.at)
found c =
    let pieces : c.as_chunks.result.0.now ≡ pieces_from c.args.segment.now (c.args.part.size / 104) c.args.part.at = search (rules, chunks_are) in
    position_from_yields_List (admits_in c.args.by c.args.g) _ _ _ c.position.ensures.ran
    (YieldsList-from_slice _ (c.iter.ensures.rest ∙ pieces)) (λ x b q k. search (rules, tests, tested))

pub returns-in_err-index : goal.returns-in_err-index
returns-in_err-index c =
    c.from_residual.ensures ∙ place_found _ _ _ _ _ (found (goal.at.returns-in_err-index c).After-position) c.in_err-index.was

pub returns : goal.returns
returns c = place_found_at _ _ _ _ _ (found (goal.at.returns c).After-position) c.in_ok-index.was _ (omega arith)
