-- The capabilities that stand one after another in a segment.
use Rattle.std.specs.Prelude.{ℕ, List, map}
use Rattle.rules.specs.Bytes.{Bytes, part}
use Rattle.rules.specs.Segment.{places_from}

abbrev pub pieces_from : Bytes → (number from : ℕ) → List Bytes
pieces_from s n from = map (λ (a : ℕ). part a 104 s) (places_from n from)
