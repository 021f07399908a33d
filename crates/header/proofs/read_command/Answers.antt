use Rattle.std.proofs.Common.{rules, sym, ◌∙◌}
use Rattle.header.proofs.Rows.{front_refused, other, then_segment}
use Rattle.header.proofs.read_command.Goals as goal

pub returns-in_err-said : goal.returns-in_err-said
returns-in_err-said c = front_refused _ _ (sym c.read_front.ensures ∙ c.in_err-said.was) _ (search rules)

pub returns-then-is_other : goal.returns-then-is_other
returns-then-is_other c =
    other _ _ (sym c.read_front.ensures ∙ c.in_ok-said.was) _ c.is_other.ensures c.if-is_other.true

pub returns : goal.returns
returns c =
    c.read_segment.ensures _
    ∙ then_segment _ _ (sym c.read_front.ensures ∙ c.in_ok-said.was) _ c.is_other.ensures c.if-is_other.false
