use Rattle.std.proofs.Common.{◌≡◌, true, rules, sym, ◌∙◌}
use Rattle.header.specs.Reading.{command}
use Rattle.segment.proofs.Lying.{lies}
use Rattle.decision.specs.Decisions.{room, Open, LetIn}
use Rattle.decision.proofs.Table.{object_fits, not_readable, part_ends, part_lists, held, start_refused, starts_right, list_refused}
use Rattle.decision.proofs.Table.{let_in, part_reads, part_writes, part_clears, part_punches}
use Rattle.decision.proofs.decide.Goals as goal
use Rattle.decision.proofs.decide.Goals.{In_ok-said, After-is_admitted}

-- the object fits, and the command was read
opened : (c : In_ok-said) → Open (command c.args.cdb.now c.args.out.now c.args.on) (room c.args.slice c.args.input) c.in_ok-said.said
opened c =
    record {
      object = object_fits _ _ (search rules) c.if-slice-on.false;
      reading = sym c.read_command.ensures ∙ c.in_ok-said.was;
    }

-- and it is let in
admitted : (c : After-is_admitted) → c.is_admitted.result ≡ true
    → Open (command c.args.cdb.now c.args.out.now c.args.on) (room c.args.slice c.args.input) c.in_ok-said.said
    → LetIn (command c.args.cdb.now c.args.out.now c.args.on) (room c.args.slice c.args.input) c.in_ok-said.said
admitted c a o =
    let_in _ _ _ o (starts_right _ _ _ o _ c.has_wrong_start.ensures c.if-has_wrong_start.false) _ c.has_fault.ensures c.if-has_fault.false
    _ c.is_admitted.ensures a

pub returns-in_err-said : goal.returns-in_err-said
returns-in_err-said c =
    not_readable _ _ _ (object_fits _ _ (search rules) c.if-slice-on.false) (sym c.read_command.ensures ∙ c.in_err-said.was)
    _ (search rules)

pub returns-then-has_wrong_start : goal.returns-then-has_wrong_start
returns-then-has_wrong_start c =
    start_refused _ _ _ (opened (goal.at.returns-then-has_wrong_start c).In_ok-said) _ c.has_wrong_start.ensures c.if-has_wrong_start.true

pub slice_bounds-command-end : goal.slice_bounds-command-end
slice_bounds-command-end c = let l = part_ends _ _ _ (opened (goal.at.slice_bounds-command-end c).In_ok-said) in search rules

pub invariant_of-command : goal.invariant_of-command
invariant_of-command c = record { listed = λ d e. lies _ _ d (part_lists _ _ _ (opened (goal.at.invariant_of-command c).In_ok-said)) e }

pub returns-then-has_fault : goal.returns-then-has_fault
returns-then-has_fault c =
    let o = opened (goal.at.returns-then-has_fault c).In_ok-said in
    list_refused _ _ _ o (starts_right _ _ _ o _ c.has_wrong_start.ensures c.if-has_wrong_start.false) _ c.has_fault.ensures c.if-has_fault.true

pub write-requires : goal.write-requires
write-requires c = held _ _ _ (opened (goal.at.write-requires c).In_ok-said)

pub clear-requires : goal.clear-requires
clear-requires c = held _ _ _ (opened (goal.at.clear-requires c).In_ok-said)

pub returns-in-Read : goal.returns-in-Read
returns-in-Read c =
    let at = goal.at.returns-in-Read c in
    part_reads _ _ _ (admitted at.After-is_admitted (search rules) (opened at.In_ok-said)) c.in-Read.is _ c.read.ensures

pub returns-in-Write : goal.returns-in-Write
returns-in-Write c =
    let at = goal.at.returns-in-Write c in
    part_writes _ _ _ (admitted at.After-is_admitted (search rules) (opened at.In_ok-said)) c.in-Write.is _ c.write.ensures

pub returns-in-Clear : goal.returns-in-Clear
returns-in-Clear c =
    let at = goal.at.returns-in-Clear c in
    part_clears _ _ _ (admitted at.After-is_admitted (search rules) (opened at.In_ok-said)) c.in-Clear.is _ c.clear.ensures

pub returns-in-Punch : goal.returns-in-Punch
returns-in-Punch c =
    let at = goal.at.returns-in-Punch c in
    part_punches _ _ _ (admitted at.After-is_admitted (search rules) (opened at.In_ok-said)) c.in-Punch.is _ c.punch.ensures
