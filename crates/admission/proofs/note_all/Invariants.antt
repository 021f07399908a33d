-- What is noted by then, and what is left to note.
use Rattle.std.specs.Prelude.{◌≡◌, ◌≤◌, ◌+◌, ◌++◌, length, drop}
use Rattle.admission.specs.Allowed.{pieces_in, noted}
use Rattle.admission.proofs.note_all.Given as goal

abbrev pub invariant-loop-k : goal.invariant-loop-k
invariant-loop-k l =
    (length l.allowances.items ≤ l.k-index + 1)
    × (l.allowances.items ++ noted l.fn.by (drop l.k-index l.k-items) ≡ noted l.fn.by (pieces_in l.cdb l.segment l.fn.said))
