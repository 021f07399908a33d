-- Without a list, nothing that is written looks at the two slices of numbers.
use Rattle.std.specs.Prelude.{Option, None, Some}
use Prim.Native.Nat.{ℕ}
use mathlib.Core.Path.{◌≡◌, refl}
use mathlib.Core.Bool.{Bool, true, false}
use mathlib.Core.List.{List, []}
use lib.ListN.{length}
use Rattle.std.specs.Bool.{then_some}
use Rattle.rules.specs.Bytes.{Bytes}
use Rattle.rules.specs.Tests.{first_of}
use Rattle.rules.specs.Writer.{length_for, entries, extended, segment_for, cdb_for, refusals, writes, written}
use Rattle.writer.specs.declared.List.{List as Listing}
use Rattle.writer.specs.declared.Request.{Request as Asked}
use Rattle.writer.specs.Planning.{request}
use Rattle.writer.specs.Asked.{request_of}

module _ (a p o n z : ℕ) (os ns os' ns' : List ℕ) (k c s : Bytes) where
  unread : (number : Option ℕ) → writes number (request a p o n z false os ns k) c s ≡ writes number (request a p o n z false os' ns' k) c s
  unfolding writes segment_for cdb_for length_for entries extended
  unread None = refl
  unread (Some number) = refl

  untested : (x y : ℕ) → refusals (request a p o n z false os ns k) x y ≡ refusals (request a p o n z false os' ns' k) x y
  unfolding refusals segment_for extended
  untested x y = refl

  unlisted : written (request a p o n z false os ns k) c s ≡ written (request a p o n z false os' ns' k) c s
  unfolding written
  unlisted = rw (untested (length c) (length s)) (unread (first_of (refusals (request a p o n z false os' ns' k) (length c) (length s))))

-- a list that is there under a flag
pub under_flag : (r : Asked) (l : Listing) (flag : Bool) (c s : Bytes) → r.list ≡ then_some flag l
    → written (request_of r) c s
    ≡ written (request r.action r.partition r.object r.start r.size flag l.offsets.now l.lengths.now r.capabilities.now) c s
under_flag r l true c s is = rw is
under_flag r l false c s is =
    rw is (unlisted r.action r.partition r.object r.start r.size [] [] l.offsets.now l.lengths.now r.capabilities.now c s)
