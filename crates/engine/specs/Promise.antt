-- What the engine promises.
use Rattle.std.specs.Prelude.{◌≡◌}
use Rattle.rules.specs.declared.Answer.{Answer}
use Rattle.rules.specs.declared.Record.{Record}
use Rattle.rules.specs.Bytes.{Bytes}
use Rattle.rules.specs.Answer.{Answered, answered}
use Rattle.header.specs.Reading.{command}

-- what a call tells, and what it leaves in the slice and in Data-In
abbrev pub whole : Answer → (slice input : Bytes) → Answered
whole a s i = record { answer = a; slice = s; input = i }

-- The engine's promise: what it tells, and what it leaves in the slice and in Data-In, is the book's whole answer.
abbrev pub Executes : (cdb out : Bytes) → Record → (slice input : Bytes) → Answer → (slice' input' : Bytes) → Type 0
Executes cdb out on s i a s' i' = whole a s' i' ≡ answered (command cdb out on) s i
