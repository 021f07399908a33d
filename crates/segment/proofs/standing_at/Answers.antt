use Rattle.std.proofs.Common.{rules, ◌∙◌}
use native.Mathlib.Omega.{arith}
use Rattle.segment.proofs.Blank.{left_blank}
use Rattle.segment.proofs.Faults.{list_faulty, extension_faulty}
use Rattle.segment.proofs.Standing.{blank_end, remainder, a_list, an_extension}
use Rattle.segment.proofs.standing_at.Goals as goal

pub returns-in_err-judge-in-1 : goal.returns-in_err-judge-in-1
returns-in_err-judge-in-1 c =
    a_list _ _ (omega arith) _ c.get16.ensures _ c.in-1.is
    (list_faulty _ _ _ _ c.get32-size.ensures c.judge.ensures _ _ c.in_err-judge-in-1.was (search rules))

pub returns-in_err-judge-in-65518 : goal.returns-in_err-judge-in-65518
returns-in_err-judge-in-65518 c =
    an_extension _ _ (omega arith) _ c.get16.ensures _ c.in-65518.is
    (extension_faulty _ _ _ _ c.get32-size.ensures _ c.holds_capabilities.ensures c.judge-in-65518.ensures
    _ _ c.in_err-judge-in-65518.was (search rules))

pub returns-then-is_blank : goal.returns-then-is_blank
returns-then-is_blank c = blank_end _ _ (omega arith) (c.if-is_blank.ensures ∙ left_blank c.args.s.now c.args.at _ (omega arith))

pub returns-then-s-at-lt8 : goal.returns-then-s-at-lt8
returns-then-s-at-lt8 c = remainder _ _ (omega arith) (c.if-is_blank.ensures ∙ left_blank c.args.s.now c.args.at _ (omega arith))
