-- Document 01's numbers, and for each its sense key, sense code and status.
use Rattle.std.specs.Prelude.{ℕ, cond, List, [], ◌∷◌, map, eqb}
use Rattle.std.specs.Option.{unwrap_or}
use Rattle.rules.specs.declared.Refusal.{Refusal}
use Rattle.rules.specs.declared.Refusal.TheVariants.{ObjectUnfit, CdbMalformed, ActionUnknown, OtherObject, ContinuationLength}
use Rattle.rules.specs.declared.Refusal.TheVariants.{SegmentHeader, Descriptor, ListForbidden, ListWithStart, ListFault, NotAdmitted}
use Rattle.rules.specs.declared.Refusal.TheVariants.{StartsBeyond, BufferShort, NoRoom}
use Rattle.rules.specs.declared.Outcome.{Outcome}
use Rattle.rules.specs.declared.Outcome.TheVariants.{Done, Ended, Refused}
use Rattle.rules.specs.Tests.{test, first_of}

abbrev pub row : Refusal → ℕ
row ObjectUnfit = 1
row CdbMalformed = 2
row ActionUnknown = 3
row OtherObject = 4
row ContinuationLength = 5
row SegmentHeader = 6
row Descriptor = 7
row ListForbidden = 8
row ListWithStart = 9
row ListFault = 10
row NotAdmitted = 11
row StartsBeyond = 12
row BufferShort = 13
row NoRoom = 14

abbrev pub number : Outcome → ℕ
number Done = 0
number Ended = 15
number (Refused r) = row r

pub record Sense : Type 0 where
  pub key : ℕ
  pub code : ℕ

pub record Line : Type 0 where
  pub of : ℕ
  pub sense : Sense

abbrev pub line : (number key code : ℕ) → Line
line n k c = record { of = n; sense = record { key = k; code = c } }

abbrev pub table : List Line
table =
    line 0 0 0x0000
    ∷ line 1 4 0x4400
    ∷ line 2 5 0x2000
    ∷ line 3 5 0x2400
    ∷ line 4 5 0x2400
    ∷ line 5 5 0x2400
    ∷ line 6 5 0x2600
    ∷ line 7 5 0x2600
    ∷ line 8 5 0x2600
    ∷ line 9 5 0x2400
    ∷ line 10 5 0x2600
    ∷ line 11 5 0x2400
    ∷ line 12 5 0x2400
    ∷ line 13 5 0x2400
    ∷ line 14 7 0x5507
    ∷ line 15 1 0x3B17
    ∷ []

-- a number that the table doesn't have has no sense: key 0, code 0000h
unfoldable pub sense : (number : ℕ) → Sense
sense n = unwrap_or (first_of (map (λ (l : Line). test l.sense (eqb n l.of)) table)) (record { key = 0; code = 0 })

-- GOOD, 00h, for 0; all others are CHECK CONDITION, 02h
unfoldable pub status : (number : ℕ) → ℕ
status n = cond (eqb n 0) 0x00 0x02
