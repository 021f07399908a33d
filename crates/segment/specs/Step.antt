-- Names for what a step of the walk answers, by the book's definitions.
use Rattle.std.specs.Prelude.{ℕ, Result, Ok, Err, Option, None, Some}
use Rattle.std.specs.declared.ops.ControlFlow.{ControlFlow}
use Rattle.std.specs.declared.ops.ControlFlow.TheVariants.{Continue, Break}
use Rattle.rules.specs.declared.Cause.{Cause}
use Rattle.rules.specs.declared.Cause.TheVariants.{Repeated}
use Rattle.rules.specs.declared.Part.{Part}
use Rattle.rules.specs.declared.Here.{Here}
use Rattle.rules.specs.declared.Here.TheVariants.{End, Entries, Extensions}
use Rattle.rules.specs.declared.Found.{Found}
use Rattle.rules.specs.Bytes.{Bytes}
use Rattle.rules.specs.Segment.{Walk, fault, here, next, nothing}
use Rattle.segment.specs.declared.Position.{Position}

-- a step breaks off with what the walk comes to, or goes on at the next position
abbrev pub Step : Type 0
Step = ControlFlow Walk Position

abbrev pub to : (at : ℕ) → Found → Position
to at f = record { at = at; found = f }

-- descriptors stand from byte 40 on, and nothing is found before the first
abbrev pub start : Position
start = to 40 nothing

-- a type that was met before ends the walk
abbrev pub unless_met : Option Part → (at : ℕ) → Step → Step
unless_met None at t = t
unless_met (Some d) at t = Break (Err (fault Repeated at))

abbrev pub step_of : Result Here Cause → Bytes → (at : ℕ) → Found → Step
step_of (Ok End) s at f = Break (Ok f)
step_of (Err c) s at f = Break (Err (fault c at))
step_of (Ok (Entries d)) s at f = unless_met f.list at (Continue (to (next s at) (record { list = Some d; extension = f.extension })))
step_of (Ok (Extensions d)) s at f = unless_met f.extension at (Continue (to (next s at) (record { list = f.list; extension = Some d })))

-- where the walk goes from a position, with what it has found by then
unfoldable pub stepped : Bytes → Position → Step
stepped s p = step_of (here s p.at) s p.at p.found
