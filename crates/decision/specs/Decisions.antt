-- What the decision answers, by the book's rows, and names for its parts over a command that was read.
use Rattle.std.specs.Prelude.{Ok, Option, None, Some, ℕ, ◌/◌, ◌≡◌, Bool, false, cond, ◌&&◌, ◌||◌, ltb, Result, Err}
use Rattle.rules.specs.declared.Part.{Part}
use Rattle.rules.specs.declared.Record.{Record}
use Rattle.rules.specs.declared.Refusal.{Refusal}
use Rattle.rules.specs.declared.Refusal.TheVariants.{ActionUnknown, StartsBeyond, BufferShort, NoRoom}
use Rattle.rules.specs.declared.Verb.{Verb}
use Rattle.rules.specs.Bytes.{Bytes}
use Rattle.rules.specs.Command.{Command, verb, is_write}
use Rattle.rules.specs.Reading.{found}
use Rattle.rules.specs.Rows.{Room, object_unfit, list_with_start, list_fault, not_admitted, raised, refusal}
use Rattle.rules.specs.Ranges.{reach}
use Rattle.rules.specs.Segment.{entries_from}
use Rattle.ranges.specs.Asked.{fault_in, beyond_in}
use Rattle.header.specs.declared.Parsed.{Parsed}
use Rattle.header.specs.Reading.{said_by, reading_of}
use Rattle.header.specs.Ranges.{ranges_in}
use Rattle.decision.specs.declared.Action.{Action}

-- the refusal, or what is to be carried out
abbrev pub Decision : Type 0
Decision = Result Action Refusal

-- row 14: the length that is left, unless it would rise above the maximum or the slice
unfoldable pub room_for : (logical maximum slice raised : ℕ) → Option ℕ
room_for logical maximum slice n = cond (ltb logical n && (ltb maximum n || ltb slice n)) None (Some n)

-- what is decided of a call: the refusal, or what is to be carried out. Row 3 refuses a command without a verb, so the second line is never reached.
abbrev pub decided : Option Refusal → Option Verb → Command → Decision
decided (Some w) v c = Err w
decided None None c = Err ActionUnknown
decided None (Some Verb.Read) c = Ok (Action.Read (said_by Verb.Read c.cdb (found c)))
decided None (Some Verb.Write) c = Ok (Action.Write (said_by Verb.Write c.cdb (found c)) (raised c))
decided None (Some Verb.Clear) c = Ok (Action.Clear (said_by Verb.Clear c.cdb (found c)) (raised c))
decided None (Some Verb.Punch) c = Ok (Action.Punch (said_by Verb.Punch c.cdb (found c)))

unfoldable pub decision_of : Command → Room → Decision
decision_of c m = decided (refusal c m) (verb c) c

abbrev pub room : (slice input : ℕ) → Room
room slice input = record { slice = slice; input = input }

-- rows 1 to 8 don't refuse, and what was read
pub record Open (c : Command) (m : Room) (p : Parsed) : Type 0 where
  pub object : object_unfit c m ≡ false
  pub reading : reading_of c ≡ Ok p

-- nor do rows 9 to 11
pub record LetIn (c : Command) (m : Room) (p : Parsed) : Type 0 where
  pub readable : Open c m p
  pub start : list_with_start c ≡ false
  pub list : list_fault c ≡ false
  pub admitted : not_admitted c ≡ false

-- rows 12 to 14 by the verb, of a command that was read
unfoldable pub reads : (s : Bytes) → Parsed → (logical input : ℕ) → Decision
reads s p n input =
    cond (beyond_in (ranges_in s p) n) (Err StartsBeyond) (cond (ltb input p.size) (Err BufferShort) (Ok (Action.Read p)))

abbrev pub writes_to : Parsed → Option ℕ → Decision
writes_to p None = Err NoRoom
writes_to p (Some n) = Ok (Action.Write p n)

unfoldable pub writes : (s : Bytes) → Parsed → Record → (slice supplied : ℕ) → Decision
writes s p on slice supplied =
    cond (ltb supplied p.size) (Err BufferShort)
    (writes_to p (room_for on.length on.maximum slice (reach on.length (ranges_in s p))))

abbrev pub clears_to : Parsed → Option ℕ → Decision
clears_to p None = Err NoRoom
clears_to p (Some n) = Ok (Action.Clear p n)

unfoldable pub clears : (s : Bytes) → Parsed → Record → (slice : ℕ) → Decision
clears s p on slice = clears_to p (room_for on.length on.maximum slice (reach on.length (ranges_in s p)))

unfoldable pub punches : (s : Bytes) → Parsed → (logical : ℕ) → Decision
punches s p n = cond (beyond_in (ranges_in s p) n) (Err StartsBeyond) (Ok (Action.Punch p))

-- row 10, of a command that was read
abbrev pub fault_at : Option Part → Bytes → Parsed → Bool
fault_at None s p = false
fault_at (Some d) s p = fault_in (entries_from (d.size / 16) s d.at) p.size (is_write p.verb)
