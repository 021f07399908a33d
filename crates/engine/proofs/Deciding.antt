-- From the decision to the action: what was decided says which answer is wanted, and that nothing hinders it.
use Rattle.std.specs.Prelude.{Ok, Option, None, Some, Err}
use Prim.Native.Nat.{ℕ, ◌+◌, ◌-◌, ◌≤◌}
use mathlib.Core.Path.{◌≡◌, refl, ap, sym, subst, ◌∙◌}
use mathlib.Core.Bool.{cond}
use mathlib.Core.List.{[], ◌∷◌, ◌++◌}
use native.Mathlib.Omega.{arith}
use lib.Dec.{ltb}
use lib.ListN.{length, take, drop, length-drop}
use Rattle.rules.specs.declared.Answer.{Answer}
use Rattle.rules.specs.declared.Range.{Range}
use Rattle.rules.specs.declared.Refusal.{Refusal}
use Rattle.rules.specs.declared.Outcome.TheVariants.{Done, Ended, Refused}
use Rattle.rules.specs.declared.Verb.{Verb}
use Rattle.rules.specs.declared.Verb.TheVariants.{Read, Write, Clear, Punch}
use Rattle.rules.specs.Bytes.{Bytes, zeros}
use Rattle.rules.specs.Tests.{first_of}
use Rattle.rules.specs.Command.{Command, length_of, verb, payload, sole_range}
use Rattle.rules.specs.Ranges.{total}
use Rattle.rules.specs.Reading.{found, ranges}
use Rattle.rules.specs.Header.{header}
use Rattle.rules.specs.Rows.{Room, raised, rows, refusal}
use Rattle.rules.specs.Object.{gathered, scattered, grown, punched}
use Rattle.rules.specs.Answer.{Answered, answer, lengthened, refused, read, wrote, cut, carried, settled, answered}
use Rattle.rules.proofs.First.{ahead_none}
use Rattle.rules.proofs.Passed.{Passed, passed, skips}
use Rattle.rules.proofs.Given.{alone, unlisted, sums, begun, ample, supplied, raised_held}
use Rattle.rules.proofs.Given as goal
use Rattle.rules.proofs.Punch.{begins_within}
use Rattle.header.specs.declared.Parsed.{Parsed}
use Rattle.header.specs.Reading.{said_by}
use Rattle.header.specs.Ranges.{ranges_in}
use Rattle.header.proofs.Rows.{read_by}
use Rattle.decision.specs.declared.Action.{Action}
use Rattle.decision.specs.Decisions.{Decision, decided, decision_of, room, Open}
use Rattle.decision.proofs.Table.{start_is, size_is, end_is, ranges_are, part_is, part_ends, part_lists}
use Rattle.object.specs.Ready.{sole, ForRead, ForWrite}
use Rattle.actions.specs.Ready.{ForClear, ForPunch}
use Rattle.engine.specs.Promise.{whole}

-- rows 2 to 8 don't refuse what no row refuses
header_none : (c : Command) (m : Room) → refusal c m ≡ None → first_of (header c) ≡ None
unfolding refusal rows
header_none c m e = ahead_none (header c) _ (skips _ _ e).1

-- what is carried out of a call that no row refuses
pub record Taken (c : Command) (m : Room) (v : Verb) (p : Parsed) : Type 0 where
  pub accepted : refusal c m ≡ None
  pub verb : verb c ≡ Some v
  pub said : p ≡ said_by v c.cdb (found c)

-- what a decision says of a call
abbrev Facts : Command → Room → Decision → Type 0
Facts c m (Err w) = Unit {0}
Facts c m (Ok (Action.Read p)) = Taken c m Read p
Facts c m (Ok (Action.Write p n)) = Taken c m Write p × (n ≡ raised c)
Facts c m (Ok (Action.Clear p n)) = Taken c m Clear p × (n ≡ raised c)
Facts c m (Ok (Action.Punch p)) = Taken c m Punch p

-- and which answer it asks for
abbrev Wanted : Decision → Command → (slice input : Bytes) → Answered
Wanted (Err w) c s i = refused w c s i
Wanted (Ok (Action.Read p)) c s i = carried Read c s i
Wanted (Ok (Action.Write p n)) c s i = carried Write c s i
Wanted (Ok (Action.Clear p n)) c s i = carried Clear c s i
Wanted (Ok (Action.Punch p)) c s i = carried Punch c s i

facts : (c : Command) (m : Room) → Facts c m (decision_of c m)
unfolding decision_of
facts c m = go (refusal c m) refl (verb c) refl
  where
    go : (o : Option Refusal) → refusal c m ≡ o → (u : Option Verb) → verb c ≡ u → Facts c m (decided o u c)
    go (Some w) e u f = tt
    go None e None f = tt
    go None e (Some Read) f = record { accepted = e; verb = f; said = refl }
    go None e (Some Write) f = (record { accepted = e; verb = f; said = refl }, refl)
    go None e (Some Clear) f = (record { accepted = e; verb = f; said = refl }, refl)
    go None e (Some Punch) f = record { accepted = e; verb = f; said = refl }

wanted : (c : Command) (s i : Bytes) → Wanted (decision_of c (room (length s) (length i))) c s i ≡ answered c s i
unfolding decision_of answered settled
wanted c s i = go (refusal c (room (length s) (length i))) (verb c)
  where
    go : (o : Option Refusal) (u : Option Verb) → Wanted (decided o u c) c s i ≡ settled o u c s i
    go (Some w) u = refl
    go None None = refl
    go None (Some Read) = refl
    go None (Some Write) = refl
    go None (Some Clear) = refl
    go None (Some Punch) = refl

-- ---- an action that is taken
module _ {c : Command} {m : Room} {v : Verb} {p : Parsed} (t : Taken c m v p) where
  passes : Passed c m
  passes = passed c m t.accepted

  open_to : Open c m p
  open_to =
      record {
        object = passes.object;
        reading = sym (read_by c v (header_none c m t.accepted) t.verb) ∙ ap Ok (sym t.said);
      }

  ends : p.segment ≤ length c.out
  ends = part_ends c m p open_to

  -- the ranges, as the code finds them in the part that it takes for the segment
  ranges_read : ranges_in (take (p.segment - 0) c.out) p ≡ ranges c
  ranges_read = ap (λ (s : Bytes). ranges_in s p) (part_is c m p open_to) ∙ sym (ranges_are c m p open_to)

  sole_read : sole p ≡ sole_range c.cdb
  unfolding sole_range
  sole_read = sym (rw (start_is c m p open_to, size_is c m p open_to))

  sizes : total (ranges c) ≡ p.size
  sizes = sums passes ∙ size_is c m p open_to

module _ (c : Command) (s i : Bytes) (d : Decision) (is : d ≡ decision_of c (room (length s) (length i))) where
  told : Facts c (room (length s) (length i)) d
  told = subst (Facts c (room (length s) (length i))) (sym is) (facts c _)

  asked : Wanted d c s i ≡ answered c s i
  asked = ap (λ (e : Decision). Wanted e c s i) is ∙ wanted c s i

  pub refused_told : (w : Refusal) → d ≡ Err w → whole (answer (Refused w) 0 c.on) s i ≡ answered c s i
  unfolding refused
  refused_told w e = rw e at asked

  -- ---- READ
  module _ (p : Parsed) (e : d ≡ Ok (Action.Read p)) where
    t_read : Taken c (room (length s) (length i)) Read p
    t_read = subst (Facts c _) e told

    pub read_ends : p.segment ≤ length c.out
    read_ends = ends t_read

    pub for_read : ForRead (take (p.segment - 0) c.out) p c.on.length (length s) (length i)
    for_read =
        record {
          held = goal.held (passes t_read);
          lists = part_lists c _ p (open_to t_read);
          begins = rw (ranges_read t_read) (begun (passes t_read) Read t_read.verb refl);
          room = rw (ranges_read t_read, sums (passes t_read)) (ample (passes t_read) t_read.verb);
        }

    pub was_read : (r : Answer) (j : Bytes)
        → (let x = gathered (take c.on.length s) (ranges_in (take (p.segment - 0) c.out) p) in
        (r ≡ answer (cond (ltb (length x) p.size) Ended Done) (length x) c.on) × (j ≡ x ++ drop (length x) i))
        → whole r s j ≡ answered c s i
    unfolding carried read
    was_read r j h = rw (h.0, h.1, ranges_read t_read, ← size_is c _ p (open_to t_read)) (rw e at asked)

  -- ---- WRITE
  module _ (p : Parsed) (n : ℕ) (e : d ≡ Ok (Action.Write p n)) where
    t_write : Taken c (room (length s) (length i)) Write p
    t_write = (subst (Facts c _) e told).0

    w_raised : n ≡ raised c
    w_raised = (subst (Facts c _) e told).1

    pub write_ends : p.segment ≤ length c.out
    write_ends = ends t_write

    data_are : drop p.segment c.out ≡ payload c
    unfolding payload
    data_are = rw (end_is c _ p (open_to t_write))

    pub for_write : ForWrite (take (p.segment - 0) c.out) p c.on.length n (length c.out) (length s)
    unfolding raised
    for_write =
        record {
          lists = part_lists c _ p (open_to t_write);
          reaches = rw (ranges_read t_write) w_raised;
          fits = rw w_raised (raised_held (passes t_write) Write t_write.verb refl);
          supplied = enough;
        }
      where
        enough : p.segment + total (ranges_in (take (p.segment - 0) c.out) p) ≤ length c.out
        enough =
            let have : length_of c.cdb ≤ length c.out - p.segment = rw (← data_are, length-drop) at (supplied (passes t_write) t_write.verb) in
            rw (ranges_read t_write, sums (passes t_write)) (omega (arith, write_ends))

    pub was_written : (r : Answer) (t : Bytes)
        → (r ≡ answer Done p.size (lengthened c.on n))
        × (t ≡ scattered (grown c.on.length n s) (ranges_in (take (p.segment - 0) c.out) p) (drop p.segment c.out))
        → whole r t i ≡ answered c s i
    unfolding carried wrote
    was_written r t h = rw (h.0, h.1, w_raised, ranges_read t_write, data_are, ← size_is c _ p (open_to t_write)) (rw e at asked)

  -- ---- CLEAR
  module _ (p : Parsed) (n : ℕ) (e : d ≡ Ok (Action.Clear p n)) where
    t_clear : Taken c (room (length s) (length i)) Clear p
    t_clear = (subst (Facts c _) e told).0

    c_raised : n ≡ raised c
    c_raised = (subst (Facts c _) e told).1

    sole_cleared : ranges c ≡ sole p ∷ []
    sole_cleared = alone c (unlisted (passes t_clear) Clear t_clear.verb refl) ∙ rw (sole_read t_clear)

    pub for_clear : ForClear p c.on.length n (length s)
    unfolding raised
    for_clear = record { reaches = rw (← sole_cleared) c_raised; fits = rw c_raised (raised_held (passes t_clear) Clear t_clear.verb refl) }

    pub was_cleared : (r : Answer) (t : Bytes)
        → (r ≡ answer Done p.size (lengthened c.on n)) × (t ≡ scattered (grown c.on.length n s) (sole p ∷ []) (zeros p.size))
        → whole r t i ≡ answered c s i
    unfolding carried wrote
    was_cleared r t h = rw (h.0, h.1, c_raised, ← sole_cleared, ← size_is c _ p (open_to t_clear)) (rw e at asked)

  -- ---- PUNCH
  module _ (p : Parsed) (e : d ≡ Ok (Action.Punch p)) where
    t_punch : Taken c (room (length s) (length i)) Punch p
    t_punch = subst (Facts c _) e told

    pub for_punch : ForPunch p c.on.length (length s)
    for_punch =
        record {
          held = goal.held (passes t_punch);
          begins = subst (λ (g : Range). g.start ≤ c.on.length) (sym (sole_read t_punch)) (begins_within (passes t_punch) t_punch.verb);
        }

    pub was_punched : (r : Answer) (t : Bytes)
        → (let o = punched (sole p) (take c.on.length s) in
        (r ≡ answer Done (c.on.length - length o) (lengthened c.on (length o))) × (t ≡ o ++ zeros (c.on.length - length o) ++ drop c.on.length s))
        → whole r t i ≡ answered c s i
    unfolding carried cut
    was_punched r t h = rw (h.0, h.1, sole_read t_punch) (rw e at asked)
