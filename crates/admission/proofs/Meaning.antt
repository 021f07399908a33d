-- What is found of all ranges is what the book says of the command that was read.
use Rattle.std.specs.Prelude.{Ok, is_some, Option, None, Some}
use Rattle.rules.specs.declared.Part.{Part}
use Prim.Native.Nat.{ℕ, ◌/◌}
use mathlib.Core.Path.{◌≡◌, refl, ap, sym, ◌∙◌}
use mathlib.Core.Bool.{Bool, true, false, cond, ◌||◌, and-true}
use mathlib.Core.List.{List, [], ◌∷◌, map}
use lib.ListN.{take}
use Rattle.rules.specs.declared.Range.{Range}
use Rattle.rules.specs.declared.Verb.{Verb}
use Rattle.rules.specs.Bytes.{Bytes, part, any, all}
use Rattle.rules.specs.Tests.{first_of}
use Rattle.rules.specs.Command.{Command, sole_range, segment}
use Rattle.rules.specs.Segment.{places_from}
use Rattle.rules.specs.Reading.{Held, found, ranges, ranges_of, solo, extension, extensions_of, capabilities}
use Rattle.rules.specs.Capability.{inside}
use Rattle.rules.specs.Admission.{fits, admits, admitting, admitted}
use Rattle.capability.specs.Terms.{meets}
use Rattle.capability.specs.Allowance.{allowance}
use Rattle.capability.proofs.Allowance.{inside_is}
use Rattle.header.specs.declared.Parsed.{Parsed}
use Rattle.header.specs.Reading.{said_by, reading_of}
use Rattle.header.proofs.Rows.{Says, says}
use Rattle.capability.specs.Sought.{admits_in}
use Rattle.capability.proofs.Meaning.{said_in, sought_in, fits_is, admits_is, first_by, part_is}
use Rattle.admission.specs.Allowed.{pieces_at, pieces_in, noted, inside_one, each_inside, some_of, admitted_in}

-- the bytes of capabilities
abbrev bytes_of : List Held → List Bytes
bytes_of ks = map (λ (k : Held). k.bytes) ks

module _ (v : Verb) (c : Command) where
  -- ---- what is noted of them
  any_noted : (ks : List Held) → any (fits v c) ks ≡ some_of (noted (sought_in v c) (bytes_of ks))
  unfolding any noted
  any_noted [] = refl
  any_noted (k ∷ ks) = go (fits v c k) (fits_is v c k) (any_noted ks)
    where
      go : (b : Bool) → b ≡ meets (sought_in v c) k.bytes → any (fits v c) ks ≡ some_of (noted (sought_in v c) (bytes_of ks))
          → (b || any (fits v c) ks) ≡ some_of
          (cond (meets (sought_in v c) k.bytes) (allowance k.bytes ∷ noted (sought_in v c) (bytes_of ks))
          (noted (sought_in v c) (bytes_of ks)))
      go true e r = rw (← e)
      go false e r = rw (← e) r

  one_noted : (g : Range) (ks : List Held) → is_some (first_by v c g ks) ≡ inside_one (noted (sought_in v c) (bytes_of ks)) g
  unfolding any noted first_of admits_in
  one_noted g [] = refl
  one_noted g (k ∷ ks) = go (meets (sought_in v c) k.bytes) refl (inside g k.bytes) refl (one_noted g ks)
    where
      go : (m : Bool) → meets (sought_in v c) k.bytes ≡ m → (i : Bool) → inside g k.bytes ≡ i
          → is_some (first_by v c g ks) ≡ inside_one (noted (sought_in v c) (bytes_of ks)) g
          → is_some (cond (admits v c g k) (Some k) (first_by v c g ks))
          ≡ inside_one (cond (meets (sought_in v c) k.bytes) (allowance k.bytes ∷ noted (sought_in v c) (bytes_of ks)) (noted (sought_in v c) (bytes_of ks))) g
      go true e true f r = rw (admits_is v c g k, e, inside_is k.bytes g, f)
      go true e false f r = rw (admits_is v c g k, e, inside_is k.bytes g, f) r
      go false e i f r = rw (admits_is v c g k, e) r

  bytes_places : (ps : List ℕ) → bytes_of (map (extension c) ps) ≡ map (λ (a : ℕ). part a 104 (segment c)) ps
  unfolding extension
  bytes_places [] = refl
  bytes_places (a ∷ ps) = ap (λ (ks : List Bytes). part a 104 (segment c) ∷ ks) (bytes_places ps)

  bytes_spot : (x : Option Part) → bytes_of (extensions_of x c) ≡ pieces_at (segment c) x
  bytes_spot None = refl
  bytes_spot (Some d) = bytes_places (places_from (d.size / 104) d.at)

  bytes_is : bytes_of (capabilities c) ≡ pieces_in c.cdb (segment c) (said_in v c)
  unfolding capabilities solo said_by
  bytes_is = ap (λ (ks : List Bytes). part 80 104 c.cdb ∷ ks) (bytes_spot (found c).extension)

  -- ---- the command as a whole
  abbrev allowances : List Range
  allowances = noted (sought_in v c) (pieces_in c.cdb (segment c) (said_in v c))

  any_is : any (fits v c) (capabilities c) ≡ some_of allowances
  any_is = any_noted (capabilities c) ∙ ap (λ (ks : List Bytes). some_of (noted (sought_in v c) ks)) bytes_is

  one_is : (g : Range) → is_some (admitting v c g) ≡ inside_one allowances g
  unfolding admitting
  one_is g = one_noted g (capabilities c) ∙ ap (λ (ks : List Bytes). inside_one (noted (sought_in v c) ks) g) bytes_is

  each_is : (gs : List Range) → all (λ (g : Range). is_some (admitting v c g)) gs ≡ all (inside_one allowances) gs
  unfolding all
  each_is [] = refl
  each_is (g ∷ gs) = rw (one_is g, each_is gs)

  ranges_is : (x : Option Part) → all (inside_one allowances) (ranges_of x c) ≡ each_inside allowances (segment c) (said_in v c) x
  unfolding all sole_range said_by
  ranges_is None = and-true _
  ranges_is (Some d) = refl

  pub admitted_is : admitted v c ≡ admitted_in c.cdb (segment c) (said_in v c) c.on
  unfolding admitted admitted_in ranges said_by
  admitted_is = rw (any_is, each_is (ranges_of (found c).list c), ranges_is (found c).list)

-- ---- over a reading
module _ (c : Command) (p : Parsed) (s : Says c p) where
  pub says_admitted : admitted p.verb c ≡ admitted_in c.cdb (segment c) p c.on
  says_admitted = admitted_is p.verb c ∙ ap (λ (q : Parsed). admitted_in c.cdb (segment c) q c.on) (sym s.said)

-- ---- over the answer of the reading, and the part of Data-Out that the code takes for the segment
module _ (c : Command) (p : Parsed) (e : reading_of c ≡ Ok p) where
  pub part_admitted : (t : Bool) → t ≡ admitted_in c.cdb (take p.segment c.out) p c.on → t ≡ admitted p.verb c
  part_admitted t q = q ∙ ap (λ (s : Bytes). admitted_in c.cdb s p c.on) (part_is c p e) ∙ sym (says_admitted c p (says c p e))
