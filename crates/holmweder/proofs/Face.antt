-- From what the crates below answer to what C is told.
use Prim.Native.Nat.{ℕ}
use mathlib.Core.Path.{◌≡◌, ap, sym, ◌∙◌}
use Rattle.rules.specs.declared.Answer.{Answer}
use Rattle.rules.specs.Bytes.{Bytes}
use Rattle.rules.specs.Numbers.{number}
use Rattle.rules.specs.Answer.{Answered}
use Rattle.rules.specs.Writer.{written}
use Rattle.question.specs.declared.Place.{Place}
use Rattle.std.specs.Prelude.{Bool, Option, Result}
use Rattle.std.specs.Bool.{then_some}
use Rattle.writer.specs.declared.List.{List as Listing}
use Rattle.writer.specs.declared.Request.{Request as Asked}
use Rattle.writer.specs.declared.Unwritten.{Unwritten}
use Rattle.writer.specs.Planning.{request}
use Rattle.writer.specs.Asked.{request_of}
use Rattle.writer.proofs.Unlisted.{under_flag}
use Rattle.writer.specs.Post.{Wrote, number_of, size_of}
use Rattle.engine.specs.Promise.{whole}
use Rattle.holmweder.specs.Face.{seen, seen_of, lent_by, offset_in, Told, wrote}

pub seen_as : (a : Answer) (s i : Bytes) (k : ℕ) (due : Answered) → whole a s i ≡ due → k ≡ number a.outcome
    → seen k a.count a.next.length s i ≡ seen_of due
seen_as a s i k due e f = rw f (ap seen_of e)

-- v is the place w that was told, taken apart
pub told_as : (p w v : Option Place) → w ≡ p → w ≡ v → Told p (lent_by v) (offset_in v)
told_as p w v e f = record { lent = ap lent_by (sym f ∙ e); offset = ap offset_in (sym f ∙ e) }

-- the list l is there under a flag
pub wrote_as : (r : Asked) (l : Listing) (flag : Bool) (c s : Bytes) {a : Result ℕ Unwritten} {k n : ℕ} {c' s' : Bytes} → r.list ≡ then_some flag l
    → Wrote (written (request_of r) c s) a c' s' → k ≡ number_of a → n ≡ size_of a
    → wrote k n c' s' ≡ written (request r.action r.partition r.object r.start r.size flag l.offsets.now l.lengths.now r.capabilities.now) c s
wrote_as r l flag c s {a} {k} {n} {c'} {s'} is w ek en =
    rw (ek, en, w.number, w.size, w.cdb, w.segment) (under_flag r l flag c s is)
