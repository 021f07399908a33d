-- The capabilities of a command that was read, as the book says of them.
use Rattle.std.specs.Prelude.{Ok, Option}
use Prim.Native.Nat.{◌≤◌}
use mathlib.Core.Path.{◌≡◌, refl, ap, sym, subst}
use mathlib.Core.Bool.{Bool, ◌&&◌}
use mathlib.Core.List.{List, map}
use lib.ListN.{length, take}
use native.Mathlib.Nat.{sub-zero}
use Rattle.rules.specs.declared.Range.{Range}
use Rattle.rules.specs.declared.Verb.{Verb}
use Rattle.rules.specs.Bytes.{Bytes}
use Rattle.rules.specs.Tests.{test, first_of}
use Rattle.rules.specs.Command.{Command, segment}
use Rattle.rules.specs.Reading.{Held, found}
use Rattle.rules.specs.Capability.{tagged, current, matches, inside}
use Rattle.rules.specs.Admission.{fits, admits}
use Rattle.rules.proofs.Passed.{header_passed}
use Rattle.segment.proofs.Lying.{list_found, extension_found}
use Rattle.capability.specs.declared.Sought.{Sought}
use Rattle.capability.specs.Terms.{meets}
use Rattle.header.specs.declared.Parsed.{Parsed}
use Rattle.header.specs.Reading.{said_by, reading_of}
use Rattle.header.proofs.Rows.{Says, says, says_segment, sized}
use Rattle.capability.specs.Sought.{sought_by, admits_in, Reads}

module _ (v : Verb) (c : Command) where
  -- what is said by a command of this verb, once it is read
  abbrev pub said_in : Parsed
  said_in = said_by v c.cdb (found c)

  abbrev pub sought_in : Sought
  sought_in = sought_by said_in c.on

  pub fits_is : (k : Held) → fits v c k ≡ meets sought_in k.bytes
  unfolding fits meets said_by matches tagged current
  fits_is k = refl

  pub admits_is : (g : Range) (k : Held) → admits v c g k ≡ admits_in sought_in g k.bytes
  unfolding admits admits_in
  admits_is g k = ap (λ (b : Bool). b && inside g k.bytes) (fits_is k)

  -- the first that admits a range, of some capabilities in their order
  abbrev pub first_by : Range → List Held → Option Held
  first_by g ks = first_of (map (λ (k : Held). test k (admits v c g k)) ks)

-- ---- over a reading
module _ (c : Command) (p : Parsed) (s : Says c p) where
  found_is : p.found ≡ found c
  unfolding said_by
  found_is = ap (λ (q : Parsed). q.found) s.said

  pub says_reads : Reads c.cdb (segment c) p
  says_reads =
      record {
        sized = sized c.cdb (header_passed c s.passes).cdb;
        list = rw found_is (list_found c);
        extension = rw found_is (extension_found c);
      }

-- ---- over the answer of the reading, and the part of Data-Out that the code takes for the segment
module _ (c : Command) (p : Parsed) (e : reading_of c ≡ Ok p) where
  said_so : Says c p
  said_so = says c p e

  pub part_is : take p.segment c.out ≡ segment c
  part_is = rw sub-zero at (says_segment c p said_so).0

  pub part_ends : p.segment ≤ length c.out
  part_ends = (says_segment c p said_so).1

  pub part_reads : Reads c.cdb (take p.segment c.out) p
  part_reads = subst (λ (s : Bytes). Reads c.cdb s p) (sym part_is) (says_reads c p said_so)
