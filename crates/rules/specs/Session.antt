-- Demand 3: what one caller reads does not depend on what another writes. Stated over the whole answer to a call.
use Rattle.std.specs.Prelude.{ℕ, ◌≡◌, Bool, true, false, ◌&&◌, not, List, [], ◌∷◌, ◌++◌, length, T}
use Rattle.rules.specs.declared.Record.{Record}
use Rattle.rules.specs.declared.Verb.{Verb}
use Rattle.rules.specs.declared.Verb.TheVariants.{Read, Write}
use Rattle.rules.specs.declared.Answer.{Answer}
use Rattle.rules.specs.Bytes.{Bytes, byte, any}
use Rattle.rules.specs.Command.{Command, action, verb_of, asks, is_punch}
use Rattle.rules.specs.Capability.{has}
use Rattle.rules.specs.Reading.{Held, capabilities}
use Rattle.rules.specs.Header.{readable}
use Rattle.rules.specs.Admission.{fits}
use Rattle.rules.specs.Answer.{Answered, answered}

pub data Caller : Type 0 where
  first second : Caller

-- a command that a caller sends, with the Data-In that it lends
pub record Sent : Type 0 where
  pub by : Caller
  pub cdb : Bytes
  pub out : Bytes
  pub input : Bytes

-- the object: its record and its slice
pub record State : Type 0 where
  pub on : Record
  pub slice : Bytes

-- what a caller is told: number, sense and count, the record, and all of Data-In
pub record Reply : Type 0 where
  pub answer : Answer
  pub input : Bytes

unfoldable pub meets : Sent → Record → Command
meets x r = record { cdb = x.cdb; out = x.out; on = r }

unfoldable pub told : Sent → State → Answered
told x t = answered (meets x t.on) t.slice x.input

unfoldable pub after : Sent → State → State
after x t = record { on = (told x t).answer.next; slice = (told x t).slice }

unfoldable pub reply : Sent → State → Reply
reply x t = record { answer = (told x t).answer; input = (told x t).input }

-- keeps what is the first caller's
unfoldable pub firsts {ℓ} : {X : Type ℓ} → Caller → X → List X → List X
firsts first x xs = x ∷ xs
firsts second x xs = xs

-- the first caller's commands in a session; what each is told; and the logical length before each
unfoldable pub sends : List Sent → List Sent
sends [] = []
sends (x ∷ xs) = firsts x.by x (sends xs)

unfoldable pub replies : State → List Sent → List Reply
replies t [] = []
replies t (x ∷ xs) = firsts x.by (reply x t) (replies (after x t) xs)

unfoldable pub lengths : State → List Sent → List ℕ
lengths t [] = []
lengths t (x ∷ xs) = firsts x.by t.on.length (lengths (after x t) xs)

abbrev pub is : Caller → Caller → Bool
is first first = true
is first second = false
is second first = false
is second second = true

-- "A caller's capabilities let it read or write a position when one that it sends, in some command of either session that
-- rows 2 to 8 don't refuse, matches for that permission and has the position in its range."
unfoldable pub lets : Verb → Record → ℕ → Sent → Bool
lets v r p x = readable (meets x r) && any (λ (k : Held). fits v (meets x r) k && has k.bytes p) (capabilities (meets x r))

unfoldable pub may : Verb → Caller → Record → List Sent → ℕ → Bool
may v who r xs p = any (λ (x : Sent). is who x.by && lets v r p x) xs

unfoldable pub punches : Sent → Bool
punches x = asks (verb_of (action x.cdb)) is_punch

-- What demand 3 supposes of two sessions, xs and ys. Both start with the record r, and with the slices a and b.
pub data Premise : Type 0 where
  same_commands no_punch apart same_size same_bytes same_lengths : Premise

abbrev pub Holds : Premise → Record → (a b : Bytes) → (xs ys : List Sent) → Type 0
-- the first caller sends the same
Holds same_commands r a b xs ys = sends xs ≡ sends ys
-- nobody sends PUNCH
Holds no_punch r a b xs ys = T (not (any punches (xs ++ ys)))
-- no position that the second may write is one that the first may read
Holds apart r a b xs ys = (p : ℕ) → T (may Write second r (xs ++ ys) p) → T (may Read first r (xs ++ ys) p) → ⊥
-- the slices have one size,
Holds same_size r a b xs ys = length a ≡ length b
-- and agree where the first may read
Holds same_bytes r a b xs ys = (p : ℕ) → T (may Read first r (xs ++ ys) p) → byte p a ≡ byte p b
-- the logical lengths agree before each of the first's commands
Holds same_lengths r a b xs ys = lengths (record { on = r; slice = a }) xs ≡ lengths (record { on = r; slice = b }) ys

-- the first is answered the same, data included
abbrev pub SameReplies : Record → (a b : Bytes) → (xs ys : List Sent) → Type 0
SameReplies r a b xs ys = replies (record { on = r; slice = a }) xs ≡ replies (record { on = r; slice = b }) ys

unfoldable pub Isolation : Type 0
Isolation = (r : Record) (a b : Bytes) (xs ys : List Sent) → ((n : Premise) → Holds n r a b xs ys) → SameReplies r a b xs ys
