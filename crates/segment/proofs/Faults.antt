-- What a descriptor of a known type is refused for, fault by fault.
use Rattle.std.specs.Prelude.{Result, Ok, Err, Option, None, Some}
use Prim.Native.Nat.{ℕ, ◌+◌, ◌-◌, ◌%◌, ◌≤◌, ◌<◌}
use mathlib.Core.Path.{◌≡◌, sym, ◌∙◌}
use mathlib.Core.Bool.{Bool, true, false, ◌&&◌, not}
use lib.Dec.{eqb}
use lib.ListN.{length}
use native.Mathlib.Omega.{arith}
use borrow.Author.Tests.{lt-ltb, le-ltb, eq-eqb, ne_eqb}
use Rattle.rules.specs.declared.Cause.{Cause}
use Rattle.rules.specs.declared.Cause.TheVariants.{Over, Padding, Misfit, Past}
use Rattle.rules.specs.Bytes.{Bytes, field}
use Rattle.rules.specs.Tests.{first_of}
use Rattle.rules.specs.Segment.{size_at, pad_at, next, faults, unless, data_at, entries_here, extensions_here}
use Rattle.rules.specs.declared.Here.{Here}
use Rattle.rules.specs.declared.Here.TheVariants.{Entries, Extensions}
use Rattle.rules.specs.declared.Part.{Part}
use Rattle.segment.specs.Verdict.{judged}

module _ (s : Bytes) (at size pad supported : ℕ) (es : size ≡ size_at s at) (ep : pad ≡ pad_at s at) where
  abbrev pub verdict : (fits : Bool) → Result Part Cause
  verdict fits = judged (first_of (faults supported fits s at)) (data_at s at)

  pub over : (fits : Bool) → supported < size → Err Over ≡ verdict fits
  unfolding first_of faults
  over fits h = rw (← es, lt-ltb _ _ h)

  pub padding : (fits : Bool) → size ≤ supported → ((size + pad) % 8 ≡ 0 → ⊥) → Err Padding ≡ verdict fits
  unfolding first_of faults
  padding fits h n = rw (← es, ← ep, le-ltb _ _ h, ne_eqb _ _ n)

  pub misfit : (fits : Bool) → fits ≡ false → size ≤ supported → (size + pad) % 8 ≡ 0 → Err Misfit ≡ verdict fits
  unfolding first_of faults
  misfit fits f h n = rw (f, ← es, ← ep, le-ltb _ _ h, eq-eqb _ _ n)

  pub past : (fits : Bool) → fits ≡ true → size ≤ supported → (size + pad) % 8 ≡ 0 → at ≤ length s → length s - at < 8 + size + pad
      → Err Past ≡ verdict fits
  unfolding first_of faults next
  past fits f h n l p = let q : length s < at + 8 + size + pad = omega arith in rw (f, ← es, ← ep, le-ltb _ _ h, eq-eqb _ _ n, lt-ltb _ _ q)

  pub sound : (fits : Bool) → fits ≡ true → size ≤ supported → (size + pad) % 8 ≡ 0 → at ≤ length s → 8 + size + pad ≤ length s - at
      → Ok (record { at = at + 8; size = size }) ≡ verdict fits
  unfolding first_of faults next data_at
  sound fits f h n l p = let q : at + 8 + size + pad ≤ length s = omega arith in rw (f, ← es, ← ep, le-ltb _ _ h, eq-eqb _ _ n, le-ltb _ _ q)

-- what stands at a position, by the verdict on it
module _ (s : Bytes) (at : ℕ) (r : Result Part Cause) where
  module _ (o : Option Cause) (e : r ≡ judged o (data_at s at)) (kind : Part → Here) where
    of_sound : (d : Part) → r ≡ Ok d → Ok (kind d) ≡ unless o (Ok (kind (data_at s at)))
    unfolding unless
    of_sound d q = go o (sym e ∙ q)
      where
        go : (o : Option Cause) → judged o (data_at s at) ≡ Ok d → Ok (kind d) ≡ unless o (Ok (kind (data_at s at)))
        go None f = let k : data_at s at ≡ d = cc in rw k
        go (Some c) f = let z : ◌≡◌ {A = ℕ} 0 1 = cc in absurd (omega arith)

    of_fault : (c : Cause) → r ≡ Err c → Err c ≡ unless o (Ok (kind (data_at s at)))
    unfolding unless
    of_fault c q = go o (sym e ∙ q)
      where
        go : (o : Option Cause) → judged o (data_at s at) ≡ Err c → Err c ≡ unless o (Ok (kind (data_at s at)))
        go None f = let z : ◌≡◌ {A = ℕ} 0 1 = cc in absurd (omega arith)
        go (Some k) f = let e : k ≡ c = cc in rw e

  module _ (size : ℕ) (z : size ≡ field (at + 4) 4 s) where
    module _ (e : r ≡ judged (first_of (faults 1024 (eqb (size % 16) 0) s at)) (data_at s at)) where
      pub list_sound : (d : Part) → r ≡ Ok d → Ok (Entries d) ≡ entries_here s at
      unfolding entries_here size_at
      list_sound = of_sound _ (rw z at e) Entries

      pub list_faulty : (h : Result Here Cause) (c : Cause) → r ≡ Err c → h ≡ Err c → h ≡ entries_here s at
      unfolding entries_here size_at
      list_faulty h c q f = f ∙ of_fault _ (rw z at e) Entries c q

    module _ (fits : Bool) (w : fits ≡ (eqb (size % 104) 0 && not (eqb size 0))) (e : r ≡ judged (first_of (faults 832 fits s at)) (data_at s at)) where
      pub extension_sound : (d : Part) → r ≡ Ok d → Ok (Extensions d) ≡ extensions_here s at
      unfolding extensions_here size_at
      extension_sound = of_sound _ (rw (w, z) at e) Extensions

      pub extension_faulty : (h : Result Here Cause) (c : Cause) → r ≡ Err c → h ≡ Err c → h ≡ extensions_here s at
      unfolding extensions_here size_at
      extension_faulty h c q f = f ∙ of_fault _ (rw (w, z) at e) Extensions c q

-- the data length from its four bytes
pub size_read : (s : Bytes) (at size : ℕ) → size ≡ field (at + 4) 4 s → size ≡ size_at s at
unfolding size_at
size_read s at size e = e

-- what `segment::standing_at` meets its contract by, at a descriptor
pub ruleset descriptors = (size_read, list_sound, list_faulty, extension_sound, extension_faulty)
