use Rattle.std.proofs.Common.{rules, ℕ, ap, ◌∙◌}
use native.Mathlib.Omega.{arith}
use Rattle.rules.specs.Bytes.{all}
use Rattle.rules.specs.Segment.{entries_from}
use borrow.Author.Tests.{tests}
use Rattle.segment.proofs.Runs.{all_left}
use Rattle.admission.specs.Allowed.{inside_one}
use Rattle.admission.proofs.all_inside.Goals as goal

-- that as many entries were asked as the list has is shown by itself: a wrong count fails there
pub returns-in-Some : goal.returns-in-Some
returns-in-Some c =
    let e = all_left (inside_one c.args.allowances.now) c.entries_in.ensures.entries _ _ _ (λ x b q k. search (rules, tests)) c.all.ensures.ran in
    rw c.in-Some.is (e ∙ ap (λ (n : ℕ). all (inside_one c.args.allowances.now) (entries_from n c.args.segment.now c.in-Some.part.at)) (omega arith))
