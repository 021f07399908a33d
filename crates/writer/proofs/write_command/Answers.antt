-- `writer::write_command` meets its contract.
use mathlib.Core.Logic.{inl, inr, ⊎_elim}
use native.Mathlib.Omega.{arith}
use lib.ListN.{length}
use borrow.Author.Rules.{rules}
use Rattle.rules.proofs.Booleans.{lt_or_le}
use Rattle.writer.proofs.Whole.{too_short, carried_out}
use Rattle.writer.proofs.write_command.Goals as goal

pub returns-then-cdb-lt-CDB : goal.returns-then-cdb-lt-CDB
returns-then-cdb-lt-CDB c =
    too_short _ c.in_ok-length.length (search rules) (search rules) (search rules) _ _ c.segment_size-size.ensures.value
    (⊎_elim (λ h. inl (omega (arith, h)))
    (λ h. ⊎_elim inl (λ k. inr (k, omega (arith, h.1))) (lt_or_le (length c.args.cdb.now) 236))
    c.then-cdb-lt-CDB.either)

pub returns : goal.returns
returns c =
    carried_out _ c.in_ok-length.length (search rules) (search rules) (search rules) _ _ c.segment_size-size.ensures.value
    (search rules) (search rules) c.put_cdb.ensures c.put_segment.ensures
