-- Positions of the walk over a segment's descriptors: the first, what the walk meets at one, where some steps come to, and the bytes left from there on.
use Rattle.std.specs.Prelude.{Result, Ok, Err, Option, None, Some, ℕ, zero, suc, ◌-◌, length}
use Rattle.rules.specs.declared.Cause.{Cause}
use Rattle.rules.specs.declared.Part.{Part}
use Rattle.rules.specs.declared.Cause.TheVariants.{Repeated}
use Rattle.rules.specs.declared.Here.{Here}
use Rattle.rules.specs.declared.Here.TheVariants.{End, Entries, Extensions}
use Rattle.rules.specs.declared.Found.{Found}
use Rattle.rules.specs.Bytes.{Bytes}
use Rattle.rules.specs.Segment.{here, next, nothing}
use Rattle.segment.specs.Step.{Step, stepped}
use Rattle.std.specs.declared.ops.ControlFlow.TheVariants.{Continue, Break}
use Rattle.segment.specs.declared.Position.{Position}

-- a descriptor whose type was met before is a fault
abbrev pub newly : Option Part → Result Here Cause → Result Here Cause
newly None h = h
newly (Some d) h = Err Repeated

abbrev pub met_by : Found → Result Here Cause → Result Here Cause
met_by f (Ok End) = Ok End
met_by f (Err c) = Err c
met_by f (Ok (Entries d)) = newly f.list (Ok (Entries d))
met_by f (Ok (Extensions d)) = newly f.extension (Ok (Extensions d))

-- what the walk meets at a position
unfoldable pub met : Bytes → Position → Result Here Cause
met s p = met_by p.found (here s p.at)

-- the position behind what stands at p, or p itself where the walk stops
abbrev pub passed : Position → Step → Position
passed p (Break w) = p
passed p (Continue q) = q

unfoldable pub after : (steps : ℕ) → Bytes → Position → Position
after zero s p = p
after (suc n) s p = after n s (passed p (stepped s p))

-- where the n-th descriptor behind the one at `at` stands, by the lengths in the headers between
unfoldable pub behind : (n : ℕ) → Bytes → (at : ℕ) → ℕ
behind zero s at = at
behind (suc n) s at = behind n s (next s at)

-- the bytes from a position on, of which there are none past the end
abbrev pub left : Bytes → Position → ℕ
left s p = length s - p.at
