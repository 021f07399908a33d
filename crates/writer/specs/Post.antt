-- What the writer promises: all that it answers, and all that it leaves in both buffers, is what the book says.
use Rattle.std.specs.Prelude.{ℕ, ◌≡◌, Result, Ok, Err}
use Rattle.rules.specs.Bytes.{Bytes}
use Rattle.rules.specs.Writer.{Written}
use Rattle.writer.specs.declared.Unwritten.{Unwritten}
use Rattle.writer.specs.declared.Unwritten.TheVariants.{NotACommand, BuffersShort}

-- the number of an answer, and the segment's length that it tells
abbrev pub number_of : Result ℕ Unwritten → ℕ
number_of (Ok size) = 0
number_of (Err NotACommand) = 16
number_of (Err BuffersShort) = 17

abbrev pub size_of : Result ℕ Unwritten → ℕ
size_of (Ok size) = size
size_of (Err reason) = 0

pub record Wrote (due : Written) (answer : Result ℕ Unwritten) (cdb' segment' : Bytes) : Type 0 where
  pub number : number_of answer ≡ due.number
  pub size : size_of answer ≡ due.size
  pub cdb : cdb' ≡ due.cdb
  pub segment : segment' ≡ due.segment
