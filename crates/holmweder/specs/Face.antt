-- What C is told and what is left in its memory, by the book's answers.
use Rattle.std.specs.Prelude.{ℕ, ◌≡◌, Option, None, Some}
use Rattle.rules.specs.declared.Record.{Record}
use Rattle.rules.specs.declared.Range.{Range}
use Rattle.rules.specs.Bytes.{Bytes}
use Rattle.rules.specs.Numbers.{number}
use Rattle.rules.specs.Answer.{Answered}
use Rattle.rules.specs.Writer.{Written}
use Rattle.question.specs.declared.Place.{Place}
use Rattle.question.specs.declared.Place.TheVariants.{InCdb, InOut}

-- the record and a range, as they come in
abbrev pub record_of : (partition object logical maximum tag epoch : ℕ) → Record
record_of p o n m t e = record { partition = p; object = o; length = n; maximum = m; tag = t; epoch = e }

abbrev pub range_of : (start size : ℕ) → Range
range_of at n = record { start = at; size = n }

-- ---- the engine: its number, the count, the next logical length, the slice and Data-In
pub record Seen : Type 0 where
  pub number : ℕ
  pub count : ℕ
  pub logical : ℕ
  pub slice : Bytes
  pub input : Bytes

abbrev pub seen : (number count logical : ℕ) → (slice input : Bytes) → Seen
seen k n l s i = record { number = k; count = n; logical = l; slice = s; input = i }

abbrev pub seen_of : Answered → Seen
seen_of a = seen (number a.answer.outcome) a.answer.count a.answer.next.length a.slice a.input

-- ---- the admission question: 0 for none, 1 for the CDB's capability, which stands there at 80, 2 for one in Data-Out
abbrev pub lent_by : Option Place → ℕ
lent_by None = 0
lent_by (Some InCdb) = 1
lent_by (Some (InOut at)) = 2

abbrev pub offset_in : Option Place → ℕ
offset_in None = 0
offset_in (Some InCdb) = 80
offset_in (Some (InOut at)) = at

pub record Told (p : Option Place) (answer at : ℕ) : Type 0 where
  pub lent : answer ≡ lent_by p
  pub offset : at ≡ offset_in p

-- ---- the writer: its number, the segment's length, and both buffers
abbrev pub wrote : (number size : ℕ) → (cdb segment : Bytes) → Written
wrote k n c s = record { number = k; size = n; cdb = c; segment = s }
