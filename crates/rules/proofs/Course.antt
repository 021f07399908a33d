-- A call goes one of two ways: a row refuses it, or a verb is carried out.
use Rattle.std.specs.Prelude.{is_some, Option, None, Some}
use mathlib.Core.Path.{◌≡◌, refl}
use mathlib.Core.Bool.{false, not}
use lib.ListN.{length}
use Prim.Native.Nat.{ℕ}
use native.Mathlib.Omega.{arith}
use Rattle.rules.specs.declared.Verb.{Verb}
use Rattle.rules.specs.declared.Refusal.{Refusal}
use Rattle.rules.specs.Bytes.{Bytes}
use Rattle.rules.specs.Command.{Command, action, verb_of, verb}
use Rattle.rules.specs.Header.{action_unknown}
use Rattle.rules.specs.Rows.{Room, refusal}
use Rattle.rules.specs.Answer.{answered, settled, refused, carried}
use Rattle.rules.proofs.Passed.{passed}

-- what the caller lends, as the rows see it
abbrev pub room_of : (slice input : Bytes) → Room
room_of s i = record { slice = length s; input = length i }

pub data Course (c : Command) (s i : Bytes) : Type 0 where
  refusing : (w : Refusal) → refusal c (room_of s i) ≡ Some w → answered c s i ≡ refused w c s i → Course c s i
  carrying : (v : Verb) → refusal c (room_of s i) ≡ None → verb c ≡ Some v → answered c s i ≡ carried v c s i → Course c s i

-- a command that passes row 3 has a verb
pub has_verb : (cdb : Bytes) → action_unknown cdb ≡ false → (v : Verb) × (verb_of (action cdb) ≡ Some v)
unfolding action_unknown
has_verb cdb e = go (verb_of (action cdb)) refl e
  where
    go : (o : Option Verb) → verb_of (action cdb) ≡ o → not (is_some o) ≡ false → (v : Verb) × (verb_of (action cdb) ≡ Some v)
    go None h f = let z : ◌≡◌ {A = ℕ} 0 1 = cc in absurd (omega arith)
    go (Some v) h f = (v, h)

pub course : (c : Command) (s i : Bytes) → Course c s i
unfolding answered settled verb
course c s i = go (refusal c (room_of s i)) refl
  where
    go : (o : Option Refusal) → refusal c (room_of s i) ≡ o → Course c s i
    go (Some w) e = refusing w e (rw e)
    go None e = let v = has_verb c.cdb (passed c (room_of s i) e).header.action in carrying v.0 e v.1 (rw (e, v.1))
