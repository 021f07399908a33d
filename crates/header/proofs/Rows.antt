-- The reading of a command, row by row: the tests that were made, as the book's rows have them.
use Rattle.std.specs.Prelude.{Result, Ok, Err, is_some, Option, None, Some}
use Rattle.rules.specs.Segment.{Walk, walk, nothing}
use Prim.Native.Nat.{ℕ, ◌-◌, ◌≤◌}
use mathlib.Core.Path.{◌≡◌, refl, ap, sym, ◌∙◌}
use mathlib.Core.Bool.{Bool, true, false, ◌&&◌, ◌||◌, not}
use mathlib.Core.List.{List, ◌∷◌}
use native.Mathlib.Nat.{sub-zero}
use native.Mathlib.Omega.{arith}
use lib.Dec.{eqb, ltb}
use lib.ListN.{length, take}
use borrow.Author.Tests.{eqb-true, ne_eqb, le-ltb, ltb-false, not-false}
use Rattle.std.specs.Option.{ok_or}
use Rattle.rules.specs.declared.Fault.{Fault}
use Rattle.rules.specs.declared.Found.{Found}
use Rattle.rules.specs.declared.Record.{Record}
use Rattle.rules.specs.declared.Refusal.{Refusal}
use Rattle.rules.specs.declared.Refusal.TheVariants.{CdbMalformed, ActionUnknown, OtherObject, ContinuationLength, SegmentHeader, Descriptor, ListForbidden}
use Rattle.rules.specs.declared.Verb.{Verb}
use Rattle.rules.specs.Bytes.{Bytes, byte, field}
use Rattle.rules.specs.Tests.{Test, test, first_of}
use Rattle.rules.specs.Command.{Command, action, continuation, partition_of, object_of, start_of, length_of, segment, verb_of, read_verb}
use Rattle.rules.specs.Command.{verb, is_clear, is_punch}
use Rattle.rules.specs.Reading.{walked, found, listed}
use Rattle.rules.specs.Header.{cdb_malformed, action_unknown, front_rows, other_object, continued, continuation_wrong, segment_header_wrong}
use Rattle.rules.specs.Header.{descriptor_faulty, list_forbidden, segment_rows, header}
use Rattle.rules.proofs.Passed.{skips, header_passed}
use Rattle.rules.proofs.Course.{has_verb}
use Rattle.rules.proofs.First.{hit, skip, none_left, ahead, behind}
use Rattle.rules.proofs.Booleans.{or_false_parts}
use Rattle.header.specs.declared.Parsed.{Parsed}
use Rattle.header.specs.Reading.{Reading, command, said_by, settled, front_of, other_than, segment_of, reading_of, Opened}

-- ---- an answer, and what it says of the rows that were asked

-- no row held, and the command has this verb and says this
pub record Settled (o : Option Refusal) (u : Option Verb) (cdb : Bytes) (f : Found) (p : Parsed) : Type 0 where
  pub passes : o ≡ None
  pub verb : u ≡ Some p.verb
  pub said : p ≡ said_by p.verb cdb f

module _ (cdb : Bytes) (f : Found) where
  read_so : (o : Option Refusal) (u : Option Verb) (p : Parsed) → settled o u cdb f ≡ Ok p → Settled o u cdb f p
  unfolding said_by
  read_so (Some w) u p q = let z : ◌≡◌ {A = ℕ} 0 1 = cc in absurd (omega arith)
  read_so None None p q = let z : ◌≡◌ {A = ℕ} 0 1 = cc in absurd (omega arith)
  read_so None (Some v) p q =
      let s : said_by v cdb f ≡ p = cc in
      let same : v ≡ p.verb = ap (λ (k : Parsed). k.verb) s in
      record { passes = refl; verb = ap Some same; said = sym s ∙ ap (λ (k : Verb). said_by k cdb f) same }

  refused_so : (o : Option Refusal) (u : Option Verb) (w : Refusal) → (o ≡ None → (v : Verb) × (u ≡ Some v))
      → settled o u cdb f ≡ Err w → o ≡ Some w
  refused_so (Some k) u w known q = let s : k ≡ w = cc in ap Some s
  refused_so None (Some v) w known q = let z : ◌≡◌ {A = ℕ} 0 1 = cc in absurd (omega arith)
  refused_so None None w known q =
      let n : None ≡ Some (known refl).0 = (known refl).1 in
      let z : ◌≡◌ {A = ℕ} 0 1 = cc in
      absurd (omega arith)

-- of a command: rows 2 to 8
abbrev pub Says : Command → Parsed → Type 0
Says c p = Settled (first_of (header c)) (verb c) c.cdb (found c) p

pub says : (c : Command) (p : Parsed) → reading_of c ≡ Ok p → Says c p
unfolding reading_of
says c p e = read_so c.cdb (found c) _ _ p e

pub unreadable : (c : Command) (w : Refusal) → reading_of c ≡ Err w → first_of (header c) ≡ Some w
unfolding reading_of verb
unreadable c w e = refused_so c.cdb (found c) _ _ w (λ h. has_verb c.cdb (header_passed c h).action) e

-- no row refuses
pub read_by : (c : Command) (v : Verb) → first_of (header c) ≡ None → verb c ≡ Some v → Ok (said_by v c.cdb (found c)) ≡ reading_of c
unfolding reading_of
read_by c v e h = rw (e, h)

-- ---- rows 2 and 3, of the CDB alone

front_passed : (cdb : Bytes) → first_of (front_rows cdb) ≡ None → (cdb_malformed cdb ≡ false) × (action_unknown cdb ≡ false)
unfolding front_rows
front_passed cdb e = let r = skips _ _ e in (r.0, (skips _ _ r.1).0)

-- row 2 lets through CDBs of 236 bytes only
pub sized : (cdb : Bytes) → cdb_malformed cdb ≡ false → length cdb ≡ 236
unfolding cdb_malformed
sized cdb e =
    let r = or_false_parts (not (eqb (length cdb) 236) || not (eqb (byte 0 cdb) 0x7F)) _ e in
    eqb-true _ _ (not-false _ (or_false_parts (not (eqb (length cdb) 236)) _ r.0).0)

pub malformed : (cdb : Bytes) → cdb_malformed cdb ≡ true → Err CdbMalformed ≡ front_of cdb
unfolding front_of front_rows first_of
malformed cdb e = rw e

-- by what its service action is read as
module _ (cdb : Bytes) (formed : cdb_malformed cdb ≡ false) (r : Result Verb Refusal) (e : r ≡ read_verb (action cdb)) where
  pub unknown : (w : Refusal) → r ≡ Err w → (h : Reading) → h ≡ Err w → h ≡ front_of cdb
  unfolding front_of front_rows first_of action_unknown read_verb
  unknown w q h t = t ∙ go (verb_of (action cdb)) refl (sym e ∙ q)
    where
      go : (o : Option Verb) → verb_of (action cdb) ≡ o → ok_or o ActionUnknown ≡ Err w → Err w ≡ front_of cdb
      go None h r = let k : ActionUnknown ≡ w = cc in rw (formed, h, ← k)
      go (Some v) h r = let z : ◌≡◌ {A = ℕ} 0 1 = cc in absurd (omega arith)

  pub known : (v : Verb) → r ≡ Ok v → (p : Parsed) → p ≡ said_by v cdb nothing → Ok p ≡ front_of cdb
  unfolding front_of front_rows first_of action_unknown read_verb
  known v q p s = go (verb_of (action cdb)) refl (sym e ∙ q)
    where
      go : (o : Option Verb) → verb_of (action cdb) ≡ o → ok_or o ActionUnknown ≡ Ok v → Ok p ≡ front_of cdb
      go None h r = let z : ◌≡◌ {A = ℕ} 0 1 = cc in absurd (omega arith)
      go (Some u) h r = let k : u ≡ v = cc in rw (formed, h, k, s)

-- what is read of a CDB, from its five numbers
pub said_read : (cdb : Bytes) (v : Verb) (partition object start size segment : ℕ)
    → partition ≡ field 16 8 cdb → object ≡ field 24 8 cdb → start ≡ field 40 8 cdb → size ≡ field 32 8 cdb → segment ≡ field 48 4 cdb
    → record { verb = v; partition = partition; object = object; start = start; size = size; segment = segment; found = nothing }
    ≡ said_by v cdb nothing
unfolding said_by partition_of object_of start_of length_of continuation
said_read cdb v p o s n k e1 e2 e3 e4 e5 = rw (e1, e2, e3, e4, e5)

-- a CDB that was read
module _ (cdb : Bytes) (p : Parsed) (e : front_of cdb ≡ Ok p) where
  fronted : Settled (first_of (front_rows cdb)) (verb_of (action cdb)) cdb nothing p
  unfolding front_of
  fronted = read_so cdb nothing _ _ p e

  pub front_sized : length cdb ≡ 236
  front_sized = sized cdb (front_passed cdb fronted.passes).0

  partition_is : p.partition ≡ partition_of cdb
  unfolding said_by
  partition_is = ap (λ (k : Parsed). k.partition) fronted.said

  object_is : p.object ≡ object_of cdb
  unfolding said_by
  object_is = ap (λ (k : Parsed). k.object) fronted.said

  segment_is : p.segment ≡ continuation cdb
  unfolding said_by
  segment_is = ap (λ (k : Parsed). k.segment) fronted.said

-- ---- the three questions, asked in order, are rows 2 to 8

pub front_refused : (c : Command) (w : Refusal) → front_of c.cdb ≡ Err w → (h : Reading) → h ≡ Err w → h ≡ reading_of c
unfolding front_of reading_of header
front_refused c w e h t =
    let first = refused_so c.cdb nothing _ _ w (λ h. has_verb c.cdb (front_passed c.cdb h).1) e in
    t ∙ rw (ahead (front_rows c.cdb) (test OtherObject (other_object c) ∷ segment_rows c) w first)

module _ (c : Command) (p : Parsed) (e : front_of c.cdb ≡ Ok p) where
  ids_are : other_than p c.on ≡ other_object c
  unfolding other_than other_object
  ids_are = rw (partition_is c.cdb p e, object_is c.cdb p e)

  rows_left : first_of (header c) ≡ first_of (test OtherObject (other_object c) ∷ segment_rows c)
  unfolding header
  rows_left = behind (front_rows c.cdb) _ (fronted c.cdb p e).passes

  module _ (t : Bool) (is : t ≡ other_than p c.on) where
    pub other : t ≡ true → Err OtherObject ≡ reading_of c
    unfolding reading_of
    other h = rw (rows_left ∙ hit _ _ (sym ids_are ∙ sym is ∙ h))

    pub then_segment : t ≡ false → segment_of c ≡ reading_of c
    unfolding reading_of segment_of
    then_segment h = rw (rows_left ∙ skip _ _ (sym ids_are ∙ sym is ∙ h))

-- ---- rows 5 to 8

-- a row that refuses, and no row that does
module _ (c : Command) where
  segment_refused : (w : Refusal) → first_of (segment_rows c) ≡ Some w → Err w ≡ segment_of c
  unfolding segment_of
  segment_refused w e = rw e

  segment_read : (v : Verb) → first_of (segment_rows c) ≡ None → verb c ≡ Some v → Ok (said_by v c.cdb (found c)) ≡ segment_of c
  unfolding segment_of
  segment_read v e h = rw (e, h)

-- without a segment nothing is found, and rows 5 to 8 don't refuse
module _ (c : Command) (z : continuation c.cdb ≡ 0) where
  finds_nothing : walked c ≡ Ok nothing
  unfolding walked
  finds_nothing = rw z

  found_nothing : found c ≡ nothing
  unfolding found
  found_nothing = rw finds_nothing

  no_row : first_of (segment_rows c) ≡ None
  unfolding first_of segment_rows continuation_wrong continued segment_header_wrong descriptor_faulty list_forbidden listed
  no_row = rw (z, finds_nothing, found_nothing)

-- row 5
module _ (c : Command) (p : Parsed) (e : front_of c.cdb ≡ Ok p) where
  pub no_segment : p.segment ≡ 0 → Ok p ≡ segment_of c
  unfolding verb
  no_segment z =
      let none_left = sym (segment_is c.cdb p e) ∙ z in
      ap Ok ((fronted c.cdb p e).said ∙ ap (said_by p.verb c.cdb) (sym (found_nothing c none_left)))
      ∙ segment_read c p.verb (no_row c none_left) (fronted c.cdb p e).verb

  module _ (t : Bool)
      (is : t ≡ (not (eqb p.segment 0) && (ltb p.segment 40 || ltb 2048 p.segment || ltb (length c.out) p.segment))) where
    row5 : continuation_wrong c ≡ t
    unfolding continuation_wrong continued
    row5 = sym (rw (segment_is c.cdb p e) at is)

    pub length_refused : t ≡ true → Err ContinuationLength ≡ segment_of c
    unfolding segment_rows
    length_refused h = segment_refused c ContinuationLength (hit _ _ (row5 ∙ h))

-- `no_segment`, of a command by its parts
pub without_segment : (cdb out : Bytes) (on : Record) (p : Parsed) → front_of cdb ≡ Ok p → p.segment ≡ 0
    → Ok p ≡ segment_of (command cdb out on)
without_segment cdb out on p e z = no_segment (command cdb out on) p e z

-- rows 6 to 8, of a command with a segment
module _ (c : Command) (p : Parsed) (o : Opened c.cdb c.out p) where
  size : p.segment ≡ continuation c.cdb
  size = segment_is c.cdb p o.front

  has_segment : continued c ≡ true
  unfolding continued
  has_segment = rw (ne_eqb _ _ (λ (z : continuation c.cdb ≡ 0). omega (arith, o.begins, size, z)))

  -- the part of Data-Out that the code takes for the segment
  part_is : take (p.segment - 0) c.out ≡ segment c
  unfolding segment
  part_is = rw (sub-zero, size)

  length_right : continuation_wrong c ≡ false
  unfolding continuation_wrong
  length_right = rw (has_segment, ← size, le-ltb _ _ o.begins, le-ltb _ _ o.few, le-ltb _ _ o.lent)

  opened : (ts : List (Test Refusal)) → first_of (test ContinuationLength (continuation_wrong c) ∷ ts) ≡ first_of ts
  opened ts = skip _ _ length_right

  -- what is_wrong_head tests is row 6
  module _ (a : ℕ) (named : a ≡ field 8 2 c.cdb) (t : Bool)
      (e : t ≡ (not (eqb (byte 0 (take (p.segment - 0) c.out)) 0x01) || not (eqb (field 2 2 (take (p.segment - 0) c.out)) a))) where
    row6 : segment_header_wrong c ≡ t
    unfolding segment_header_wrong action
    row6 = rw has_segment (sym (rw (part_is, named) at e))

    pub wrong_head : t ≡ true → Err SegmentHeader ≡ segment_of c
    unfolding segment_rows
    wrong_head q = segment_refused c SegmentHeader (opened _ ∙ hit _ _ (row6 ∙ q))

    module _ (q : t ≡ false) (w : Walk) (h : w ≡ walk (take (p.segment - 0) c.out)) where
      -- what the walk over that part comes to is what the command's walk does
      walk_is : walked c ≡ w
      unfolding walked
      walk_is = rw (ne_eqb _ _ (λ (z : continuation c.cdb ≡ 0). omega (arith, o.begins, size, z))) (sym (rw part_is at h))

      -- row 7
      pub broken : (f : Fault) → w ≡ Err f → (h : Reading) → h ≡ Err Descriptor → h ≡ segment_of c
      unfolding segment_rows descriptor_faulty
      broken f g h t = t ∙ segment_refused c Descriptor (opened _ ∙ skip _ _ (row6 ∙ q) ∙ hit _ _ (rw (walk_is ∙ g)))

      module _ (f : Found) (g : w ≡ Ok f) (u : Bool) (d : u ≡ (is_some f.list && (is_clear p.verb || is_punch p.verb))) where
        found_is : found c ≡ f
        unfolding found
        found_is = rw (walk_is ∙ g)

        verb_is : verb c ≡ Some p.verb
        unfolding verb
        verb_is = (fronted c.cdb p o.front).verb

        row7 : descriptor_faulty c ≡ false
        unfolding descriptor_faulty
        row7 = rw (walk_is ∙ g)

        -- row 8
        row8 : list_forbidden c ≡ u
        unfolding list_forbidden listed
        row8 = rw (found_is, verb_is) (sym d)

        pub forbidden : u ≡ true → Err ListForbidden ≡ segment_of c
        unfolding segment_rows
        forbidden r = segment_refused c ListForbidden (opened _ ∙ skip _ _ (row6 ∙ q) ∙ skip _ _ row7 ∙ hit _ _ (row8 ∙ r))

        -- and no row
        abbrev with : Parsed → Parsed
        with k =
            record {
              verb = k.verb;
              partition = k.partition;
              object = k.object;
              start = k.start;
              size = k.size;
              segment = k.segment;
              found = f;
            }

        pub readable : u ≡ false → Ok (with p) ≡ segment_of c
        unfolding segment_rows said_by
        readable r =
            ap (λ (k : Parsed). Ok (with k)) (fronted c.cdb p o.front).said
            ∙ ap (λ (k : Found). Ok (said_by p.verb c.cdb k)) (sym found_is)
            ∙ segment_read c p.verb (opened _ ∙ skip _ _ (row6 ∙ q) ∙ skip _ _ row7 ∙ skip _ _ (row8 ∙ r) ∙ none_left) verb_is

-- the part of Data-Out that is the segment of a command that was read
pub says_segment : (c : Command) (p : Parsed) → Says c p → (take (p.segment - 0) c.out ≡ segment c) × (p.segment ≤ length c.out)
unfolding said_by segment continuation_wrong continued
says_segment c p s = (rw (sub-zero, size), go (eqb (continuation c.cdb) 0) refl (header_passed c s.passes).continuation)
  where
    size : p.segment ≡ continuation c.cdb
    size = ap (λ (q : Parsed). q.segment) s.said

    go : (b : Bool) → eqb (continuation c.cdb) 0 ≡ b
        → (not b && (ltb (continuation c.cdb) 40 || ltb 2048 (continuation c.cdb) || ltb (length c.out) (continuation c.cdb))) ≡ false
        → p.segment ≤ length c.out
    go true h q = let z : continuation c.cdb ≡ 0 = eqb-true _ _ h in omega (arith, size, z)
    go false h q =
        let l : continuation c.cdb ≤ length c.out =
        ltb-false _ _ (or_false_parts (ltb (continuation c.cdb) 40 || ltb 2048 (continuation c.cdb)) _ q).1
        in
        omega (arith, size, l)
