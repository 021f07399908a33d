-- What the rows that didn't refuse a call say of its numbers, for the laws of the single commands.
use Rattle.std.specs.Prelude.{is_some, Option, None, Some}
use Rattle.rules.specs.declared.Part.{Part}
use mathlib.Core.Path.{◌≡◌, refl}
use mathlib.Core.Bool.{true, false, true≢false, and-true, ◌&&◌, ◌||◌, not}
use mathlib.Core.List.{[], ◌∷◌}
use Prim.Native.Nat.{◌≤◌, ◌<◌}
use mathlib.Core.Logic.{⊎_elim}
use native.Mathlib.Omega.{arith}
use lib.ListN.{length}
use native.Mathlib.Nat.{add-zero}
use lib.Dec.{eqb, ltb}
use borrow.Author.Tests.{ltb-false, lt-ltb, eqb-true, not-false}
use Rattle.rules.specs.declared.Range.{Range}
use Rattle.rules.specs.declared.Verb.{Verb}
use Rattle.rules.specs.declared.Verb.TheVariants.{Read, Write}
use Rattle.rules.specs.Bytes.{any}
use Rattle.rules.specs.Command.{Command, length_of, verb, asks, is_read, is_write, is_clear, is_punch, payload, sole_range}
use Rattle.rules.specs.Ranges.{total, overlapping}
use Rattle.rules.specs.Reading.{found, listed, ranges, ranges_of}
use Rattle.rules.specs.Header.{list_forbidden}
use Rattle.rules.specs.Rows.{Room, object_unfit, list_fault, starts_beyond, buffer_short, raised, no_room}
use Rattle.rules.proofs.Booleans.{or_false_parts, lt_or_le}
use Rattle.rules.proofs.Passed.{Passed}

-- without a list there is one range
pub alone : (c : Command) → listed c ≡ false → ranges c ≡ sole_range c.cdb ∷ []
unfolding listed ranges
alone c e = go (found c).list e
  where
    go : (l : Option Part) → is_some l ≡ false → ranges_of l c ≡ sole_range c.cdb ∷ []
    go None e = refl
    go (Some d) e = absurd (true≢false e)

module _ {c : Command} {m : Room} (p : Passed c m) where
  -- row 1: the slice holds the object
  pub held : c.on.length ≤ m.slice
  unfolding object_unfit
  held = ltb-false _ _ (or_false_parts (ltb 16777216 m.slice) _ p.object).1

  -- row 8: on CLEAR and PUNCH there is no list
  pub unlisted : (v : Verb) → verb c ≡ Some v → is_clear v || is_punch v ≡ true → listed c ≡ false
  unfolding list_forbidden
  unlisted v e h = rw (e, h, and-true) at p.header.list

  -- row 10: a list's lengths sum to LENGTH; without a list there is one range, of LENGTH bytes
  pub sums : total (ranges c) ≡ length_of c.cdb
  unfolding list_fault listed ranges sole_range total
  sums = go (found c).list p.list
    where
      go : (l : Option Part)
          → is_some l && (not (eqb (total (ranges_of l c)) (length_of c.cdb)) || asks (verb c) is_write && overlapping (ranges_of l c)) ≡ false
          → total (ranges_of l c) ≡ length_of c.cdb
      go None e = add-zero _
      go (Some d) e =
          let unequal = not (eqb (total (ranges_of (Some d) c)) (length_of c.cdb)) in
          eqb-true _ _ (not-false _ (or_false_parts unequal _ e).0)

  -- row 10: on WRITE no two of a list's nonempty entries share a position; one range shares none
  pub apart : verb c ≡ Some Write → overlapping (ranges c) ≡ false
  unfolding list_fault listed ranges overlapping any
  apart v = go (found c).list (rw v at p.list)
    where
      go : (l : Option Part)
          → is_some l && (not (eqb (total (ranges_of l c)) (length_of c.cdb)) || overlapping (ranges_of l c)) ≡ false
          → overlapping (ranges_of l c) ≡ false
      go None e = refl
      go (Some d) e = (or_false_parts (not (eqb (total (ranges_of (Some d) c)) (length_of c.cdb))) _ e).1

  -- row 12: on READ and PUNCH no range starts above logical length
  pub begun : (v : Verb) → verb c ≡ Some v → is_read v || is_punch v ≡ true → any (λ (g : Range). ltb c.on.length g.start) (ranges c) ≡ false
  unfolding starts_beyond
  begun v e h = rw (e, h) at p.begins

  -- row 13: on READ, Data-In has LENGTH bytes or more
  pub ample : verb c ≡ Some Read → length_of c.cdb ≤ m.input
  unfolding buffer_short
  ample v = ltb-false _ _ (or_false_parts (ltb m.input (length_of c.cdb)) _ (rw v at p.buffer)).0

  -- row 13: on WRITE, there are LENGTH bytes of command data or more
  pub supplied : verb c ≡ Some Write → length_of c.cdb ≤ length (payload c)
  unfolding buffer_short
  supplied v = ltb-false _ _ (rw v at p.buffer)

  -- row 14: on WRITE and CLEAR, a length that is raised is within the maximum and within the slice
  pub roomy : (v : Verb) → verb c ≡ Some v → is_write v || is_clear v ≡ true → c.on.length < raised c → (raised c ≤ c.on.maximum) × (raised c ≤ m.slice)
  unfolding no_room
  roomy v e h l =
      let over = rw (e, h, lt-ltb c.on.length (raised c) l) at p.room in
      let parts = or_false_parts (ltb c.on.maximum (raised c)) (ltb m.slice (raised c)) over in
      (ltb-false _ _ parts.0, ltb-false _ _ parts.1)

  -- so in any case it is within the slice
  pub raised_held : (v : Verb) → verb c ≡ Some v → is_write v || is_clear v ≡ true → raised c ≤ m.slice
  raised_held v e h =
      ⊎_elim (λ (l : c.on.length < raised c). (roomy v e h l).1) (λ (k : raised c ≤ c.on.length). let o = held in omega arith)
      (lt_or_le c.on.length (raised c))
