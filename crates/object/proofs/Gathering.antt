-- Bytes that are put one range after another at the start of Data-In.
use Prim.Native.Nat.{◌≤◌, ◌<◌}
use mathlib.Core.Path.{◌≡◌, refl}
use mathlib.Core.Bool.{Bool, true, false, cond}
use lib.Dec.{leb}
use mathlib.Core.List.{List, [], ◌∷◌, ◌++◌, append-nil}
use native.Mathlib.Omega.{arith}
use borrow.Author.Tests.{le-leb, lt-leb}
use lib.ListN.{length, length-append, length-take, length-drop}
use Rattle.rules.specs.declared.Range.{Range}
use Rattle.rules.specs.Bytes.{Bytes, part}
use Rattle.rules.specs.Ranges.{end}
use Rattle.rules.specs.Object.{gathered}
use Rattle.rules.proofs.Lists.{laid_nothing, laid_length}
use Rattle.rules.proofs.Laying.{laid_next, laid_first}

pub gathered_none : (o : Bytes) → gathered o [] ≡ []
unfolding gathered
gathered_none o = refl

-- a range more, which the object's end cuts short or doesn't
module _ (o : Bytes) (g : Range) (gs : List Range) (begins : g.start ≤ length o) where
  pub gathered_whole : g.size ≤ length (part g.start g.size o) → gathered o (g ∷ gs) ≡ part g.start g.size o ++ gathered o gs
  unfolding gathered
  gathered_whole h = rw (le-leb (end g) (length o) (omega (arith, simp (length-take, length-drop) at h)))

  pub gathered_short : length (part g.start g.size o) < g.size → gathered o (g ∷ gs) ≡ part g.start g.size o
  unfolding gathered
  gathered_short h = rw (lt-leb (end g) (length o) (omega (arith, simp (length-take, length-drop) at h))) (append-nil _)

-- a command without a list has one range
pub gathered_sole : (o : Bytes) (g : Range) → gathered o (g ∷ []) ≡ part g.start g.size o
unfolding gathered
gathered_sole o g = go (leb (end g) (length o))
  where
    go : (b : Bool) → part g.start g.size o ++ cond b [] [] ≡ part g.start g.size o
    go true = append-nil _
    go false = append-nil _

-- what `object::gather_list` meets its contract by
pub ruleset putting = (laid_next, laid_nothing, laid_first, laid_length, length-append, length-take, length-drop)

pub ruleset gathering = (gathered_none, gathered_whole, gathered_short, putting)
