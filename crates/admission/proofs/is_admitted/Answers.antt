-- `admission::is_admitted` meets its contract: the segment is the first part of Data-Out.
use borrow.Author.Rules.{rules}
use Rattle.capability.proofs.Meaning.{part_ends, part_reads}
use Rattle.admission.proofs.Meaning.{part_admitted}
use Rattle.admission.proofs.is_admitted.Goals as goal

pub slice_bounds-is_let_in-end : goal.slice_bounds-is_let_in-end
slice_bounds-is_let_in-end c = let l = part_ends _ _ c.requires in search rules

pub is_let_in-requires : goal.is_let_in-requires
is_let_in-requires c = part_reads _ _ c.requires

pub returns : goal.returns
returns c = part_admitted _ _ c.requires _ c.is_let_in.ensures
