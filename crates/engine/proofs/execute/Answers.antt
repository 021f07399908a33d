-- `engine::execute` meets its contract: each action leaves the answer that the decision asks for.
use Rattle.std.proofs.Common.{rules, ap, ◌∙◌}
use Rattle.std.specs.Prelude.{Ok}
use Rattle.engine.proofs.Deciding.{refused_told, read_ends, for_read, was_read, write_ends, for_write, was_written, for_clear, was_cleared}
use Rattle.engine.proofs.Deciding.{for_punch, was_punched}
use Rattle.engine.proofs.execute.Goals as goal

pub slice_bounds-read-end : goal.slice_bounds-read-end
slice_bounds-read-end c =
    let a = c.args in
    let l = read_ends _ a.slice.now a.input.now _ c.decide.ensures _ (c.in-Ok-Read.is ∙ ap Ok c.in-Ok-Read.field-0-is) in
    search rules

pub read-requires : goal.read-requires
read-requires c =
    let a = c.args in
    for_read _ a.slice.now a.input.now _ c.decide.ensures _
    (c.in-Ok-Read.is ∙ ap Ok c.in-Ok-Read.field-0-is)

pub slice_bounds-write-end : goal.slice_bounds-write-end
slice_bounds-write-end c =
    let a = c.args in
    let l = write_ends _ a.slice.now a.input.now _ c.decide.ensures _ _ (c.in-Ok-Write.is ∙ ap Ok c.in-Ok-Write.field-0-is) in
    search rules

pub write-requires : goal.write-requires
write-requires c =
    let a = c.args in
    for_write _ a.slice.now a.input.now _ c.decide.ensures _ _
    (c.in-Ok-Write.is ∙ ap Ok c.in-Ok-Write.field-0-is)

pub clear-requires : goal.clear-requires
clear-requires c =
    let a = c.args in
    for_clear _ a.slice.now a.input.now _ c.decide.ensures _ _ (c.in-Ok-Clear.is ∙ ap Ok c.in-Ok-Clear.field-0-is)

pub punch-requires : goal.punch-requires
punch-requires c =
    let a = c.args in
    for_punch _ a.slice.now a.input.now _ c.decide.ensures _ (c.in-Ok-Punch.is ∙ ap Ok c.in-Ok-Punch.field-0-is)

pub returns-in-Err : goal.returns-in-Err
returns-in-Err c =
    let a = c.args in
    refused_told _ a.slice.now a.input.now _ c.decide.ensures _ c.in-Err.is

pub returns-in-Ok-Read : goal.returns-in-Ok-Read
returns-in-Ok-Read c =
    let a = c.args in
    was_read _ a.slice.now a.input.now _
    c.decide.ensures _
    (c.in-Ok-Read.is ∙ ap Ok c.in-Ok-Read.field-0-is) _ _ c.read.ensures

pub returns-in-Ok-Write : goal.returns-in-Ok-Write
returns-in-Ok-Write c =
    let a = c.args in
    was_written _ a.slice.now a.input.now _ c.decide.ensures _
    _ (c.in-Ok-Write.is ∙ ap Ok c.in-Ok-Write.field-0-is) _ _ c.write.ensures

pub returns-in-Ok-Clear : goal.returns-in-Ok-Clear
returns-in-Ok-Clear c =
    let a = c.args in
    was_cleared _ a.slice.now a.input.now _ c.decide.ensures _ _
    (c.in-Ok-Clear.is ∙ ap Ok c.in-Ok-Clear.field-0-is) _ _ c.clear.ensures

pub returns-in-Ok-Punch : goal.returns-in-Ok-Punch
returns-in-Ok-Punch c =
    let a = c.args in
    was_punched _ a.slice.now a.input.now _ c.decide.ensures _
    (c.in-Ok-Punch.is ∙ ap Ok c.in-Ok-Punch.field-0-is) _ _ c.punch.ensures
