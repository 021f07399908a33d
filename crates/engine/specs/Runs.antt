-- Demand 3 for the engine. In a run each step's answer is any that the promise of `engine::execute` allows.
use Rattle.std.specs.Prelude.{◌≡◌, List, [], ◌∷◌}
use Rattle.rules.specs.declared.Answer.{Answer}
use Rattle.rules.specs.declared.Record.{Record}
use Rattle.rules.specs.Bytes.{Bytes}
use Rattle.rules.specs.Session.{Sent, State, Reply, firsts, Premise, Holds}
use Rattle.engine.specs.Promise.{Executes}

abbrev pub state : Record → (slice : Bytes) → State
state r s = record { on = r; slice = s }

abbrev pub reply : Answer → (input : Bytes) → Reply
reply a i = record { answer = a; input = i }

-- the engine, run over a session from a state, and what the first caller is told
pub data Run : State → List Sent → (told : List Reply) → Type 0 where
  over : {t : State} → Run t [] []
  step : {t : State} {x : Sent} {xs : List Sent} {a : Answer} {s' i' : Bytes} {rest : List Reply}
      → Executes x.cdb x.out t.on t.slice x.input a s' i'
      → Run (state a.next s') xs rest
      → Run t (x ∷ xs) (firsts x.by (reply a i') rest)

-- any two runs over sessions that meet demand 3's premises tell the first caller the same
unfoldable pub RunsIsolated : Type 0
RunsIsolated =
    (r : Record) (a b : Bytes) (xs ys : List Sent) → ((n : Premise) → Holds n r a b xs ys)
    → (told told' : List Reply) → Run (state r a) xs told → Run (state r b) ys told' → told ≡ told'
