-- The table of rows over a command that was read: each row's test by what was read, and the decision from the first that holds.
use Rattle.std.specs.Prelude.{Result, Err, is_some, Option, None, Some, Ok}
use Rattle.rules.specs.declared.Part.{Part}
use Prim.Native.Nat.{◌-◌, ◌≤◌, ◌<◌}
use mathlib.Core.Path.{◌≡◌, refl, ap, sym, ◌∙◌}
use mathlib.Core.Logic.{◌⊎◌, inl, inr}
use mathlib.Core.Bool.{Bool, true, false, cond, ◌&&◌, ◌||◌, not, or-true, false≢true}
use mathlib.Core.List.{List, ◌∷◌, ◌++◌}
use lib.Dec.{eqb, ltb}
use lib.ListN.{length, take, length-drop}
use borrow.Author.Tests.{lt-ltb, le-ltb, ltb-false}
use Rattle.rules.specs.declared.Found.{Found}
use Rattle.rules.specs.declared.Refusal.{Refusal}
use Rattle.rules.specs.declared.Refusal.TheVariants.{ObjectUnfit, ListWithStart, ListFault, NotAdmitted, StartsBeyond, BufferShort, NoRoom}
use Rattle.rules.specs.declared.Verb.{Verb}
use Rattle.rules.specs.declared.Verb.TheVariants.{Read, Write, Clear, Punch}
use Rattle.rules.specs.Bytes.{Bytes}
use Rattle.rules.specs.Tests.{Test, test, first_of}
use Rattle.rules.specs.Command.{Command, length_of, start_of, continuation, verb, asks, is_read, is_write, is_clear, is_punch, segment, payload, sole_range}
use Rattle.rules.specs.Ranges.{total, overlapping, reach}
use Rattle.rules.specs.Reading.{found, listed, ranges, ranges_of}
use Rattle.rules.specs.Header.{header}
use Rattle.rules.specs.Admission.{admitted}
use Rattle.rules.specs.Rows.{Room, object_unfit, list_with_start, list_fault, not_admitted, starts_beyond, buffer_short, raised, no_room, rows, refusal}
use Rattle.rules.proofs.First.{hit, skip, none_left, ahead, behind}
use Rattle.ranges.specs.Asked.{fault_in, beyond_in}
use Rattle.header.specs.declared.Parsed.{Parsed}
use Rattle.header.specs.Reading.{said_by, reading_of}
use Rattle.segment.specs.Lying.{ListAt}
use Rattle.segment.proofs.Lying.{list_found}
use Rattle.header.specs.Ranges.{ranges_at, ranges_in}
use Rattle.header.proofs.Rows.{Says, says, says_segment, unreadable}
use Rattle.decision.specs.declared.Action.{Action}
use Rattle.decision.specs.Decisions.{Decision, fault_at, room_for, reads, writes, clears, punches, writes_to, clears_to, decided, decision_of, Open, LetIn}

-- a row that refuses
pub refuses : (c : Command) (m : Room) (w : Refusal) → refusal c m ≡ Some w → Err w ≡ decision_of c m
unfolding decision_of
refuses c m w e = rw e

-- ---- row 1, and rows 2 to 8
pub slice_over : (c : Command) (m : Room) → 16777216 < m.slice → Err ObjectUnfit ≡ decision_of c m
unfolding refusal rows object_unfit
slice_over c m h = refuses c m ObjectUnfit (hit _ _ (rw (lt-ltb _ _ h)))

pub length_over : (c : Command) (m : Room) → m.slice < c.on.length → Err ObjectUnfit ≡ decision_of c m
unfolding refusal rows object_unfit
length_over c m h = refuses c m ObjectUnfit (hit _ _ (rw (lt-ltb m.slice c.on.length h, or-true)))

pub object_fits : (c : Command) (m : Room) → m.slice ≤ 16777216 → c.on.length ≤ m.slice → object_unfit c m ≡ false
unfolding object_unfit
object_fits c m h k = rw (le-ltb _ _ h, le-ltb _ _ k)

pub not_readable : (c : Command) (m : Room) (w : Refusal) → object_unfit c m ≡ false → reading_of c ≡ Err w → (d : Decision) → d ≡ Err w → d ≡ decision_of c m
unfolding refusal rows
not_readable c m w o e d t = t ∙ refuses c m w (skip _ _ o ∙ ahead (header c) _ w (unreadable c w e))

-- ---- a command that was read
module _ (c : Command) (m : Room) (p : Parsed) (o : Open c m p) where
  said : Says c p
  said = says c p o.reading

  found_is : found c ≡ p.found
  unfolding said_by
  found_is = sym (ap (λ (q : Parsed). q.found) said.said)

  pub start_is : start_of c.cdb ≡ p.start
  unfolding said_by
  start_is = sym (ap (λ (q : Parsed). q.start) said.said)

  pub size_is : length_of c.cdb ≡ p.size
  unfolding said_by
  size_is = sym (ap (λ (q : Parsed). q.size) said.said)

  pub end_is : continuation c.cdb ≡ p.segment
  unfolding said_by
  end_is = sym (ap (λ (q : Parsed). q.segment) said.said)

  pub ranges_are : ranges c ≡ ranges_in (segment c) p
  unfolding ranges ranges_in sole_range
  ranges_are = go p.found.list (ap (λ (f : Found). f.list) found_is)
    where
      go : (x : Option Part) → (found c).list ≡ x → ranges_of (found c).list c ≡ ranges_at x (segment c) p
      go None e = rw (e, start_is, size_is)
      go (Some d) e = rw e

  -- the part of Data-Out that the code takes for the segment
  pub part_is : take (p.segment - 0) c.out ≡ segment c
  part_is = (says_segment c p said).0

  pub part_ends : p.segment ≤ length c.out
  part_ends = (says_segment c p said).1

  pub part_lists : ListAt (take (p.segment - 0) c.out) p.found.list
  part_lists = rw (part_is, ← found_is) (list_found c)

  pub held : c.on.length ≤ m.slice
  unfolding object_unfit
  held = ltb-false _ _ (go (ltb 16777216 m.slice) _ o.object)
    where
      go : (a b : Bool) → (a || b) ≡ false → b ≡ false
      go true b e = absurd (false≢true (sym e))
      go false b e = e

  -- what is left of the table behind row 8
  left : (ts : List (Test Refusal)) → first_of (test ObjectUnfit (object_unfit c m) ∷ header c ++ ts) ≡ first_of ts
  left ts = skip _ _ o.object ∙ behind (header c) ts said.passes

  -- row 9
  row9 : list_with_start c ≡ (is_some p.found.list && not (eqb p.start 0))
  unfolding list_with_start listed
  row9 = rw (found_is, start_is)

  module _ (b : Bool) (e : b ≡ (is_some p.found.list && not (eqb p.start 0))) where
    pub start_refused : b ≡ true → Err ListWithStart ≡ decision_of c m
    unfolding refusal rows
    start_refused h = refuses c m ListWithStart (left _ ∙ hit _ _ (row9 ∙ sym e ∙ h))

    pub starts_right : b ≡ false → list_with_start c ≡ false
    starts_right h = row9 ∙ sym e ∙ h

  -- row 10
  row10 : list_fault c ≡ fault_at p.found.list (segment c) p
  unfolding list_fault listed fault_in ranges
  row10 = go p.found.list (ap (λ (f : Found). f.list) found_is)
    where
      go : (x : Option Part) → (found c).list ≡ x
          → (is_some (found c).list
          && (not (eqb (total (ranges_of (found c).list c)) (length_of c.cdb)) || asks (verb c) is_write && overlapping
          (ranges_of (found c).list c)))
          ≡ fault_at x (segment c) p
      go None e = rw e
      go (Some d) e = rw (e, said.verb, size_is)

  module _ (starts : list_with_start c ≡ false) (t : Bool) (e : t ≡ fault_at p.found.list (take (p.segment - 0) c.out) p) where
    fault_is : list_fault c ≡ t
    fault_is = row10 ∙ sym (e ∙ ap (λ (s : Bytes). fault_at p.found.list s p) part_is)

    pub list_refused : t ≡ true → Err ListFault ≡ decision_of c m
    unfolding refusal rows
    list_refused h = refuses c m ListFault (left _ ∙ skip _ _ starts ∙ hit _ _ (fault_is ∙ h))

    -- row 11
    module _ (sound : t ≡ false) (a : Bool) (f : a ≡ admitted p.verb c) where
      row11 : not_admitted c ≡ not a
      unfolding not_admitted
      row11 = rw (said.verb, f)

      pub not_let_in : a ≡ false → Err NotAdmitted ≡ decision_of c m
      unfolding refusal rows
      not_let_in h = refuses c m NotAdmitted (left _ ∙ skip _ _ starts ∙ skip _ _ (fault_is ∙ sound) ∙ hit _ _ (row11 ∙ ap not h))

      pub let_in : a ≡ true → LetIn c m p
      let_in h = record { readable = o; start = starts; list = fault_is ∙ sound; admitted = row11 ∙ ap not h }

-- row 11, over the answers that the code has when it tests it
pub not_let_in_of : (c : Command) (m : Room) (r : Result Parsed Refusal) (p : Parsed) (b t a : Bool) → m.slice ≤ 16777216 → c.on.length ≤ m.slice
    → r ≡ reading_of c → r ≡ Ok p → b ≡ (is_some p.found.list && not (eqb p.start 0)) → b ≡ false
    → t ≡ fault_at p.found.list (take (p.segment - 0) c.out) p → t ≡ false → a ≡ admitted p.verb c → a ≡ false → Err NotAdmitted ≡ decision_of c m
not_let_in_of c m r p b t a h k e was f starts g sound i not_in =
    let o : Open c m p = record { object = object_fits c m h k; reading = sym e ∙ was } in
    not_let_in c m p o (starts_right c m p o b f starts) t g sound a i not_in

-- ---- rows 12 to 14
module _ (c : Command) (m : Room) (p : Parsed) (l : LetIn c m p) where
  o : Open c m p
  o = l.readable

  verb_is : verb c ≡ Some p.verb
  verb_is = (said c m p o).verb

  tail : (ts : List (Test Refusal))
      → first_of
      (test ObjectUnfit (object_unfit c m)
      ∷ header c
      ++ (test ListWithStart (list_with_start c) ∷ test ListFault (list_fault c) ∷ test NotAdmitted (not_admitted c) ∷ ts))
      ≡ first_of ts
  tail ts = left c m p o _ ∙ skip _ _ l.start ∙ skip _ _ l.list ∙ skip _ _ l.admitted

  row12 : starts_beyond c ≡ ((is_read p.verb || is_punch p.verb) && beyond_in (ranges_in (segment c) p) c.on.length)
  unfolding starts_beyond beyond_in
  row12 = rw (verb_is, ranges_are c m p o)

  supplied : length (payload c) ≡ length c.out - p.segment
  unfolding payload
  supplied = length-drop (continuation c.cdb) c.out ∙ rw (end_is c m p o)

  row13 : buffer_short c m ≡ (is_read p.verb && ltb m.input p.size || is_write p.verb && ltb (length c.out - p.segment) p.size)
  unfolding buffer_short
  row13 = rw (verb_is, size_is c m p o, supplied)

  raised_is : raised c ≡ reach c.on.length (ranges_in (segment c) p)
  unfolding raised
  raised_is = rw (ranges_are c m p o)

  row14 : no_room c m
      ≡ ((is_write p.verb || is_clear p.verb)
      && ltb c.on.length (raised c)
      && (ltb c.on.maximum (raised c) || ltb m.slice (raised c)))
  unfolding no_room
  row14 = rw verb_is

  -- nothing refuses
  does : refusal c m ≡ None → decided None (Some p.verb) c ≡ decision_of c m
  unfolding decision_of
  does e = rw (e, verb_is)

  said_is : said_by p.verb c.cdb (found c) ≡ p
  said_is = sym (said c m p o).said

  passes : starts_beyond c ≡ false → buffer_short c m ≡ false → no_room c m ≡ false → refusal c m ≡ None
  unfolding refusal rows
  passes a b d = tail _ ∙ skip _ _ a ∙ skip _ _ b ∙ skip _ _ d ∙ none_left

  beyond : starts_beyond c ≡ true → Err StartsBeyond ≡ decision_of c m
  unfolding refusal rows
  beyond a = refuses c m StartsBeyond (tail _ ∙ hit _ _ a)

  short : starts_beyond c ≡ false → buffer_short c m ≡ true → Err BufferShort ≡ decision_of c m
  unfolding refusal rows
  short a b = refuses c m BufferShort (tail _ ∙ skip _ _ a ∙ hit _ _ b)

  full : starts_beyond c ≡ false → buffer_short c m ≡ false → no_room c m ≡ true → Err NoRoom ≡ decision_of c m
  unfolding refusal rows
  full a b d = refuses c m NoRoom (tail _ ∙ skip _ _ a ∙ skip _ _ b ∙ hit _ _ d)

  read_decided : p.verb ≡ Read → reads (segment c) p c.on.length m.input ≡ decision_of c m
  unfolding reads
  read_decided v = go (beyond_in (ranges_in (segment c) p) c.on.length) refl (ltb m.input p.size) refl
    where
      go : (b : Bool) → beyond_in (ranges_in (segment c) p) c.on.length ≡ b → (d : Bool) → ltb m.input p.size ≡ d
          → cond b (Err StartsBeyond) (cond d (Err BufferShort) (Ok (Action.Read p))) ≡ decision_of c m
      go true e d f = beyond (row12 ∙ rw (e, v))
      go false e true f = short (row12 ∙ rw (e, v)) (row13 ∙ rw (f, v))
      go false e false f =
          ap (λ (q : Parsed). Ok (Action.Read q)) (sym said_is ∙ ap (λ (u : Verb). said_by u c.cdb (found c)) v)
          ∙ (rw v at (does (passes (row12 ∙ rw (e, v)) (row13 ∙ rw (f, v)) (row14 ∙ rw v))))

  punch_decided : p.verb ≡ Punch → punches (segment c) p c.on.length ≡ decision_of c m
  unfolding punches
  punch_decided v = go (beyond_in (ranges_in (segment c) p) c.on.length) refl
    where
      go : (b : Bool) → beyond_in (ranges_in (segment c) p) c.on.length ≡ b → cond b (Err StartsBeyond) (Ok (Action.Punch p)) ≡ decision_of c m
      go true e = beyond (row12 ∙ rw (e, v))
      go false e =
          ap (λ (q : Parsed). Ok (Action.Punch q)) (sym said_is ∙ ap (λ (u : Verb). said_by u c.cdb (found c)) v)
          ∙ (rw v at (does (passes (row12 ∙ rw (e, v)) (row13 ∙ rw v) (row14 ∙ rw v))))

  -- where the length is raised, and where there is no room
  abbrev over : Bool
  over = ltb c.on.length (raised c) && (ltb c.on.maximum (raised c) || ltb m.slice (raised c))

  room_is : room_for c.on.length c.on.maximum m.slice (reach c.on.length (ranges_in (segment c) p)) ≡ cond over None (Some (raised c))
  unfolding room_for
  room_is = rw (← raised_is)

  over_is : p.verb ≡ Write ⊎ p.verb ≡ Clear → no_room c m ≡ over
  over_is (inl v) = row14 ∙ rw v
  over_is (inr v) = row14 ∙ rw v

  write_decided : p.verb ≡ Write → writes (segment c) p c.on m.slice (length c.out - p.segment) ≡ decision_of c m
  unfolding writes
  write_decided v = rw room_is (go (ltb (length c.out - p.segment) p.size) refl over refl)
    where
      starts : starts_beyond c ≡ false
      starts = row12 ∙ rw v

      go : (d : Bool) → ltb (length c.out - p.segment) p.size ≡ d → (b : Bool) → over ≡ b
          → cond d (Err BufferShort) (writes_to p (cond b None (Some (raised c)))) ≡ decision_of c m
      go true f b e = short starts (row13 ∙ rw (f, v))
      go false f true e = full starts (row13 ∙ rw (f, v)) (over_is (inl v) ∙ e)
      go false f false e =
          ap (λ (q : Parsed). Ok (Action.Write q (raised c))) (sym said_is ∙ ap (λ (u : Verb). said_by u c.cdb (found c)) v)
          ∙ (rw v at (does (passes starts (row13 ∙ rw (f, v)) (over_is (inl v) ∙ e))))

  clear_decided : p.verb ≡ Clear → clears (segment c) p c.on m.slice ≡ decision_of c m
  unfolding clears
  clear_decided v = rw room_is (go over refl)
    where
      starts : starts_beyond c ≡ false
      starts = row12 ∙ rw v

      go : (b : Bool) → over ≡ b → clears_to p (cond b None (Some (raised c))) ≡ decision_of c m
      go true e = full starts (row13 ∙ rw v) (over_is (inr v) ∙ e)
      go false e =
          ap (λ (q : Parsed). Ok (Action.Clear q (raised c))) (sym said_is ∙ ap (λ (u : Verb). said_by u c.cdb (found c)) v)
          ∙ (rw v at (does (passes starts (row13 ∙ rw v) (over_is (inr v) ∙ e))))

  -- the same over the part that the code takes for the segment
  pub part_reads : p.verb ≡ Read → (r : Decision) → r ≡ reads (take (p.segment - 0) c.out) p c.on.length m.input → r ≡ decision_of c m
  part_reads v r e = e ∙ ap (λ (s : Bytes). reads s p c.on.length m.input) (part_is c m p o) ∙ read_decided v

  pub part_writes : p.verb ≡ Write → (r : Decision)
      → r ≡ writes (take (p.segment - 0) c.out) p c.on m.slice (length c.out - p.segment) → r ≡ decision_of c m
  part_writes v r e = e ∙ ap (λ (s : Bytes). writes s p c.on m.slice (length c.out - p.segment)) (part_is c m p o) ∙ write_decided v

  pub part_clears : p.verb ≡ Clear → (r : Decision) → r ≡ clears (take (p.segment - 0) c.out) p c.on m.slice → r ≡ decision_of c m
  part_clears v r e = e ∙ ap (λ (s : Bytes). clears s p c.on m.slice) (part_is c m p o) ∙ clear_decided v

  pub part_punches : p.verb ≡ Punch → (r : Decision) → r ≡ punches (take (p.segment - 0) c.out) p c.on.length → r ≡ decision_of c m
  part_punches v r e = e ∙ ap (λ (s : Bytes). punches s p c.on.length) (part_is c m p o) ∙ punch_decided v
