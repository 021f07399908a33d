-- What two sessions keep in common, and that each command keeps it: of the second in one session, of the first in both.
use Prim.Native.Nat.{ℕ}
use mathlib.Core.Path.{◌≡◌, sym, ap, ◌∙◌}
use mathlib.Core.Bool.{Bool, true, false}
use lib.ListN.{length, take}
use Rattle.rules.specs.declared.Record.{Record}
use Rattle.rules.specs.declared.Verb.{Verb}
use Rattle.rules.specs.declared.Verb.TheVariants.{Read, Write}
use Rattle.rules.specs.Bytes.{Bytes, byte}
use Rattle.rules.specs.Answer.{lengthened}
use Rattle.rules.specs.Command.{verb}
use Rattle.rules.specs.Session.{Sent, State, meets, told, after, reply, lets, punches}
use Rattle.rules.proofs.Kept.{law6}
use Rattle.rules.proofs.Admitted.{length_aside}
use Rattle.rules.proofs.Effect.{spares, Twins, twins}

-- the object's bytes
abbrev pub held : State → Bytes
held t = take t.on.length t.slice

-- a state on the way from the record r: of that, nothing but the logical length has changed
abbrev pub From : Record → State → Type 0
From r t = t.on ≡ lengthened r t.on.length

-- a state of each session, for a first caller who may read the positions that pass `mine`
pub record Alike (r : Record) (mine : ℕ → Bool) (t u : State) : Type 0 where
  pub from : From r t
  pub from' : From r u
  pub size : length t.slice ≡ length u.slice
  -- the objects agree where the first may read; behind its end, an object reads as zeros
  pub same : (p : ℕ) → mine p ≡ true → byte p (held t) ≡ byte p (held u)

pub swapped : {r : Record} {mine : ℕ → Bool} {t u : State} → Alike r mine t u → Alike r mine u t
swapped k = record { from = k.from'; from' = k.from; size = sym k.size; same = λ p h. sym (k.same p h) }

-- what a command may touch never changes in a session
lets_still : (r : Record) (t : State) → From r t → (v : Verb) (p : ℕ) (x : Sent) → lets v t.on p x ≡ lets v r p x
lets_still r t from v p x = ap (λ (q : Record). lets v q p x) from ∙ length_aside v r t.on.length p x

from_after : (r : Record) (t : State) (x : Sent) → From r t → From r (after x t)
unfolding after told meets
from_after r t x from = (law6 (meets x t.on) t.slice x.input).only_length ∙ ap (λ (q : Record). lengthened q (after x t).on.length) from

size_after : (t : State) (x : Sent) → length (after x t).slice ≡ length t.slice
unfolding after told meets
size_after t x = (law6 (meets x t.on) t.slice x.input).size

module _ (r : Record) (mine : ℕ → Bool) (t u : State) (k : Alike r mine t u) (x : Sent) (calm : punches x ≡ false) where
  -- a command of the second writes nothing that the first may read
  pub apart_step : ((p : ℕ) → mine p ≡ true → lets Write r p x ≡ false) → Alike r mine (after x t) u
  unfolding after told meets punches lets verb
  apart_step away =
      record {
        from = from_after r t x k.from;
        from' = k.from';
        size = size_after t x ∙ k.size;
        same = λ p h. spares (meets x t.on) t.slice x.input calm p (lets_still r t k.from Write p x ∙ away p h) ∙ k.same p h;
      }

  -- A command of the first meets one record in both, and reads only what is the same.
  module _ (level : t.on.length ≡ u.on.length) (reads : (p : ℕ) → lets Read r p x ≡ true → mine p ≡ true) where
    pair : Twins (meets x t.on) t.slice u.slice (told x t) (told x u)
    unfolding told meets punches lets verb
    pair =
        let one : t.on ≡ u.on = k.from ∙ ap (lengthened r) level ∙ sym k.from' in
        rw (← one)
        (twins (meets x t.on) t.slice u.slice x.input calm k.size
        (λ p h. rw (← level) at (k.same p (reads p (sym (lets_still r t k.from Read p x) ∙ h)))))

    pub joint_reply : reply x t ≡ reply x u
    unfolding reply
    joint_reply = let a = pair.answer in let i = pair.input in λ j. record { answer = a j; input = i j }

    pub joint_step : Alike r mine (after x t) (after x u)
    unfolding after meets
    joint_step =
        record {
          from = from_after r t x k.from;
          from' = from_after r u x k.from';
          size = size_after t x ∙ k.size ∙ sym (size_after u x);
          same = λ p h. pair.agree p (rw (← level) at (k.same p h));
        }
