-- What holds of a sound layout.
use Prim.Native.Nat.{ℕ, ◌+◌, ◌≤◌}
use mathlib.Core.Path.{◌≡◌, refl}
use mathlib.Core.Bool.{Bool, true, false, ◌&&◌}
use Rattle.std.specs.Prelude.{Option, Some, None}
use Rattle.std.specs.Bool.{then_some}
use lib.Dec.{eqb, leb}
use lib.ListN.{length}
use borrow.Author.Tests.{leb-true, eqb-true}
use Rattle.rules.specs.declared.Part.{Part}
use Rattle.rules.specs.Bytes.{Bytes, field}
use Rattle.rules.proofs.Booleans.{and_true_parts}
use Rattle.callfile.specs.declared.Sections.{Sections}
use Rattle.callfile.specs.File.{section_at, end, followed, layout_of, Inside}

-- what is there has passed its test
there : {T : Type 0} (b : Bool) (x y : T) → then_some b x ≡ Some y → (b ≡ true) × (x ≡ y)
there true x y e = (refl, (cc))
there false x y e = cc

-- a section ends inside the file, and keeps its limit
module _ (f : Bytes) (at most : ℕ) (p : Part) (e : section_at f at most ≡ Some p) where
  tested : (leb (at + 4) (length f) && leb (field at 4 f) most && leb (at + 4 + field at 4 f) (length f) ≡ true)
      × (record { at = at + 4; size = field at 4 f } ≡ p)
  unfolding section_at
  tested = there _ _ p e

  pub inside : end p ≤ length f
  inside = rw (← tested.1) (leb-true _ _ (and_true_parts (leb (at + 4) (length f) && leb (field at 4 f) most) _ tested.0).1)

  limited : p.size ≤ most
  limited =
      let h = (and_true_parts (leb (at + 4) (length f) && leb (field at 4 f) most) _ tested.0).0 in
      rw (← tested.1) (leb-true _ _ (and_true_parts (leb (at + 4) (length f)) _ h).1)

-- a sound layout has met each of its sections
record Met (s : Option Part) (next : Part → Option Sections) (l : Sections) : Type 0 where
  found : Part
  is : s ≡ Some found
  rest : next found ≡ Some l

met : (s : Option Part) (next : Part → Option Sections) (l : Sections) → followed s next ≡ Some l → Met s next l
met None next l e = cc
met (Some p) next l e = record { found = p; is = refl; rest = e }

pub sound_inside : (f : Bytes) (l : Sections) → layout_of f ≡ Some l → Inside f l
unfolding layout_of
sound_inside f l e =
    let cdb = met _ _ l e in
    let out = met _ _ l cdb.rest in
    let on = met _ _ l out.rest in
    let slice = met _ _ l on.rest in
    let s = there _ _ l slice.rest in
    rw (← s.1)
    (record {
      cdb = inside f _ _ _ cdb.is;
      out = inside f _ _ _ out.is;
      on = inside f _ _ _ on.is;
      record_size = eqb-true _ _ (and_true_parts (eqb on.found.size 38) _ s.0).0;
      slice = inside f _ _ _ slice.is;
      slice_size = limited f _ _ _ slice.is;
    })
