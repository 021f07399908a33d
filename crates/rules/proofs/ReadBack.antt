-- Every accepted command is read back as it was given, and the rows on form don't refuse it.
use Rattle.std.specs.Prelude.{Option, None, Some}
use Prim.Native.Nat.{ℕ, ◌+◌, ◌<◌}
use mathlib.Core.Path.{◌≡◌, refl, ap, sym, ◌∙◌}
use mathlib.Core.Bool.{Bool, true, false, cond, ◌&&◌, ◌||◌, not, and-false}
use mathlib.Core.List.{List, [], ◌∷◌, ◌++◌}
use native.Mathlib.Omega.{arith}
use lib.Dec.{eqb, ltb}
use lib.ListN.{length, drop, length-append}
use lib.Seq.{take_at}
use borrow.Author.Tests.{le-ltb, eq-eqb}
use Rattle.rules.specs.declared.Record.{Record}
use Rattle.rules.specs.Bytes.{Bytes, byte, field}
use Rattle.rules.specs.Tests.{Test, first_of}
use Rattle.rules.specs.Command.{action, continuation, verb_of, verb, asks, is_write, segment}
use Rattle.rules.specs.Ranges.{total, overlapping}
use Rattle.rules.specs.Header.{continued, cdb_malformed, action_unknown, other_object, continuation_wrong, segment_header_wrong}
use Rattle.rules.specs.Header.{descriptor_faulty, list_forbidden}
use Rattle.rules.specs.Rows.{list_with_start, list_fault}
use Rattle.rules.specs.Writer.{Request, entries, length_for, segment_for, cdb_for, refusals, writes, written}
use Rattle.rules.specs.ReadBack.{Bounded, ranges_for, sent, Same, ReadsBack}
use Rattle.rules.proofs.Accepted.{Accepted, accepted, one_given, fits_field}
use Rattle.rules.proofs.First.{some_none}
use Rattle.rules.proofs.Standing.{field_there}
use Rattle.rules.proofs.ReadBackFields.{action_read, partition_read, object_read, length_read, start_read, first_byte, eighth_byte, cdb_length}
use Rattle.rules.proofs.ReadBackShape.{whole, Shape, there, nowhere, shape, first_of_head, action_there, whole_bounds}
use Rattle.rules.proofs.ReadBackRead.{as_command, continues, splits, follows, walks, lists, length_fits, ranges_same, capabilities_same}

-- a test that is made only under a flag
under : (l b : Bool) → (l ≡ true → b ≡ false) → l && b ≡ false
under true b k = k refl
under false b k = refl

-- with a list, the ranges and LENGTH are the list's
with_list : (q : Request) → q.listed ≡ true → ranges_for q ≡ entries q
unfolding ranges_for
with_list q l = ap (λ (b : Bool). cond b (entries q) (record { start = q.start; size = q.size } ∷ [])) l

sums : (q : Request) → q.listed ≡ true → length_for q ≡ total (entries q)
unfolding length_for
sums q l = ap (λ (b : Bool). cond b (total (entries q)) q.size) l

module _ (q : Request) (a : Accepted q) (d : Bytes) (r : Record) where
  -- ---- the rows on form

  names : verb (as_command q d r) ≡ verb_of q.action
  unfolding verb
  names = ap verb_of (action_read q (fits_field q.action a.known))

  formed : cdb_malformed (cdb_for q) ≡ false
  unfolding cdb_malformed
  formed = rw (cdb_length q (one_given a), first_byte q, eighth_byte q)

  known : action_unknown (cdb_for q) ≡ false
  unfolding action_unknown verb
  known = rw (names, a.known)

  -- rows 5 and 6 ask something only where there is a segment
  only_then : (P : Bool) → (segment_for q ≡ whole q → P ≡ false) → continued (as_command q d r) && P ≡ false
  unfolding continued
  only_then P h = go (shape q)
    where
      go : Shape q → continued (as_command q d r) && P ≡ false
      go (there k) = rw (h k) (and-false (not (eqb (continuation (cdb_for q)) 0)))
      go (nowhere l x k) = rw (continues q a d r, eq-eqb (length (segment_for q)) 0 (ap length k))

  continued_right : continuation_wrong (as_command q d r) ≡ false
  unfolding continuation_wrong
  continued_right =
      let n : ℕ = continuation (cdb_for q) in
      only_then (ltb n 40 || ltb 2048 n || ltb (length (segment_for q ++ d)) n)
      (λ k.
      let l : length (segment_for q) ≡ length (whole q) = ap length k in
      let m : length (segment_for q ++ d) ≡ length (segment_for q) + length d = length-append (segment_for q) d in
      rw (
        continues q a d r,
        le-ltb (length (segment_for q)) 40 (omega (arith, whole_bounds q a)),
        le-ltb 2048 (length (segment_for q)) (omega (arith, whole_bounds q a)),
        le-ltb (length (segment_for q ++ d)) (length (segment_for q)) (omega arith),
      ))

  head_right : segment_header_wrong (as_command q d r) ≡ false
  unfolding segment_header_wrong
  head_right =
      only_then (not (eqb (byte 0 (segment (as_command q d r))) 0x01) || not (eqb (field 2 2 (segment (as_command q d r))) (action (cdb_for q))))
      (λ k.
      let small : q.action < 65536 = fits_field q.action a.known in
      rw (splits q a d r, k, first_of_head q, action_read q small, field_there 2 (action_there q) small, eq-eqb q.action q.action refl))

  walk_right : descriptor_faulty (as_command q d r) ≡ false
  unfolding descriptor_faulty
  walk_right = rw (walks q a d r)

  list_allowed : list_forbidden (as_command q d r) ≡ false
  unfolding list_forbidden
  list_allowed = rw (lists q a d r, names) (under q.listed _ a.may_list)

  list_unstarted : Bounded q → list_with_start (as_command q d r) ≡ false
  unfolding list_with_start
  list_unstarted b = rw (lists q a d r, start_read q b.start) (under q.listed _ (λ l. rw (eq-eqb q.start 0 (a.unstarted l))))

  list_right : Bounded q → list_fault (as_command q d r) ≡ false
  unfolding list_fault
  list_right b = rw (lists q a d r, names, ranges_same q a d r b, length_read q (length_fits q a d r b)) (under q.listed _ fault)
    where
      fault : q.listed ≡ true
          → (not (eqb (total (ranges_for q)) (length_for q)) || asks (verb_of q.action) is_write && overlapping (ranges_for q)) ≡ false
      fault l = rw (with_list q l, sums q l, eq-eqb (total (entries q)) (total (entries q)) refl) (a.apart l)

  pub same : Bounded q → Same q d (as_command q d r)
  unfolding other_object
  same b =
      record {
        action_is = names;
        partition_is = partition_read q b.partition;
        object_is = object_read q b.object;
        start_is = start_read q b.start;
        length_is = length_read q (length_fits q a d r b);
        continuation_is = continues q a d r;
        segment_is = splits q a d r;
        payload_is = follows q a d r;
        walk_is = walks q a d r;
        ranges_are = ranges_same q a d r b;
        capabilities_are = capabilities_same q a d r;
        row2 = formed;
        row3 = known;
        row4 = rw (partition_read q b.partition, object_read q b.object);
        row5 = continued_right;
        row6 = head_right;
        row7 = walk_right;
        row8 = list_allowed;
        row9 = list_unstarted b;
        row10 = list_right b;
      }

-- ---- from the writer's answer

-- no test gives 0
abbrev NotZero : List (Test ℕ) → Type 0
NotZero [] = Unit {0}
NotZero (t ∷ ts) = (t.gives ≡ 0 → ⊥) × NotZero ts

never_zero : (ts : List (Test ℕ)) → NotZero ts → (n : ℕ) → first_of ts ≡ Some n → n ≡ 0 → ⊥
unfolding first_of
never_zero [] h n e z = some_none (sym e)
never_zero (t ∷ ts) h n e z = go t.holds e (never_zero ts h.1 n)
  where
    go : (b : Bool) → cond b (Some t.gives) (first_of ts) ≡ Some n → (first_of ts ≡ Some n → n ≡ 0 → ⊥) → ⊥
    go true f rec = let e : t.gives ≡ n = cc in h.0 (e ∙ z)
    go false f rec = rec f z

module _ (q : Request) (cdb segment' : Bytes) where
  -- 0 means that nothing refuses the request
  zero_accepts : (written q cdb segment').number ≡ 0 → first_of (refusals q (length cdb) (length segment')) ≡ None
  unfolding written writes refusals
  zero_accepts e = go (first_of (refusals q (length cdb) (length segment'))) refl e
    where
      go : (o : Option ℕ) → first_of (refusals q (length cdb) (length segment')) ≡ o → (writes o q cdb segment').number ≡ 0
          → first_of (refusals q (length cdb) (length segment')) ≡ None
      go None f z = f
      go (Some n) f z = absurd (never_zero (refusals q (length cdb) (length segment')) not_zero n f z)
        where
          not_zero : NotZero (refusals q (length cdb) (length segment'))
          not_zero = omega arith

  -- what is sent is the CDB, and the segment with the data behind it
  pub as_written : (d : Bytes) (r : Record) → (written q cdb segment').number ≡ 0
      → Accepted q × (sent (written q cdb segment') d r ≡ as_command q d r)
  unfolding sent written writes
  as_written d r e =
      let free = zero_accepts e in
      let a : Accepted q = (accepted q (length cdb) (length segment') free).0 in
      let n : length (cdb_for q) ≡ 236 = cdb_length q (one_given a) in
      let front = take_at (cdb_for q) (drop (length (cdb_for q)) cdb) 236 n in
      let back = take_at (segment_for q) (drop (length (segment_for q)) segment') (length (segment_for q)) refl in
      (a, rw (free, front, back))

-- every accepted command is read back as it was given
pub reads_back : ReadsBack
unfolding ReadsBack
reads_back q cdb segment' d r b e =
    let k = as_written q cdb segment' d r e in
    rw k.1 (same q k.0 d r b)
