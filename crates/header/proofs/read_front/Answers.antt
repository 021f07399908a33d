use Rattle.std.proofs.Common.{rules, ap, sym, ◌∙◌}
use native.Mathlib.Omega.{arith}
use Rattle.rules.specs.Command.{action, read_verb}
use Rattle.header.proofs.Rows.{sized, malformed, unknown, known}
use Rattle.header.proofs.read_front.Goals as goal

pub returns-then-is_malformed : goal.returns-then-is_malformed
returns-then-is_malformed c = malformed _ (sym c.is_malformed.ensures ∙ c.if-is_malformed.true)

pub get16-requires : goal.get16-requires
get16-requires c =
    let z = sized c.args.cdb.now (sym c.is_malformed.ensures ∙ c.if-is_malformed.false) in
    omega arith

pub said_by-requires : goal.said_by-requires
said_by-requires c =
    sized c.args.cdb.now (sym c.is_malformed.ensures ∙ c.if-is_malformed.false)

pub returns-in_err-verb : goal.returns-in_err-verb
unfolding action
returns-in_err-verb c =
    unknown _ (sym c.is_malformed.ensures ∙ c.if-is_malformed.false) _
    (c.try_from.ensures ∙ ap read_verb c.get16.ensures) _ c.in_err-verb.was _ (search rules)

pub returns : goal.returns
unfolding action
returns c =
    known _ (sym c.is_malformed.ensures ∙ c.if-is_malformed.false) _
    (c.try_from.ensures ∙ ap read_verb c.get16.ensures) _ c.in_ok-verb.was _ c.said_by.ensures
