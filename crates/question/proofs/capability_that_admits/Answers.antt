-- `question::capability_that_admits` meets its contract: there are 104 bytes at the place.
use Rattle.std.proofs.Common.{rules}
use native.Mathlib.Omega.{arith}
use Rattle.question.proofs.Meaning.{cdb_holds, out_holds}
use Rattle.question.proofs.capability_that_admits.Goals as goal

pub slice_bounds-result-end-in-Some-InCdb : goal.slice_bounds-result-end-in-Some-InCdb
slice_bounds-result-end-in-Some-InCdb c =
    let l = cdb_holds _ _ _ c.place_that_admits.ensures _ c.in-Some-InCdb.is c.in-Some-InCdb.field-0-is in
    search rules

pub overflow_add-result : goal.overflow_add-result
overflow_add-result c =
    let l = out_holds _ _ _ c.place_that_admits.ensures _ c.in-Some-InOut.is _ c.in-Some-InOut.field-0-is in
    omega arith

pub slice_bounds-result-end-in-Some-InOut : goal.slice_bounds-result-end-in-Some-InOut
slice_bounds-result-end-in-Some-InOut c =
    let l = out_holds _ _ _ c.place_that_admits.ensures _ c.in-Some-InOut.is _ c.in-Some-InOut.field-0-is in
    search rules
