-- Law 3, READ: slice and record as they were; Data-In from the count on as it was; its first bytes are the ranges' bytes in list order
-- up to the first position at or above logical length; 15 exactly when count is below LENGTH.
use Rattle.std.specs.Prelude.{None, Some}
use mathlib.Core.Path.{◌≡◌, refl, ap, ◌∙◌}
use mathlib.Core.Logic.{◌↔◌}
use mathlib.Core.Bool.{Bool, true, false, cond}
use mathlib.Core.List.{List, [], ◌∷◌, ◌++◌, map, map-append}
use Prim.Native.Nat.{ℕ, zero, suc, ◌+◌, ◌≤◌, ◌<◌}
use native.Mathlib.Omega.{arith}
use native.Mathlib.Nat.{add-zero, add-suc, suc-add}
use lib.ListN.{length, take, drop, length-append, length-take, length-drop, drop_of_length-le}
use lib.Seq.{drop-cons, take-append_seam, drop-append_seam, length-take-le, get_or-take}
use lib.Dec.{ltb, leb}
use borrow.Author.Tests.{ltb-true, ltb-false, lt-ltb, le-ltb, le-leb, lt-leb}
use Rattle.rules.specs.declared.Range.{Range}
use Rattle.rules.specs.declared.Verb.TheVariants.{Read}
use Rattle.rules.specs.declared.Outcome.TheVariants.{Done, Ended}
use Rattle.rules.specs.Bytes.{Bytes, byte, part, any}
use Rattle.rules.specs.Command.{Command, length_of, verb}
use Rattle.rules.specs.Ranges.{end, total, span, positions}
use Rattle.rules.specs.Reading.{ranges}
use Rattle.rules.specs.Rows.{refusal}
use Rattle.rules.specs.Object.{gathered}
use Rattle.rules.specs.Answer.{Answered, object, settled, carried, answered, read as reading}
use Rattle.rules.proofs.Passed.{passed}
use Rattle.rules.proofs.Booleans.{or_false_parts}
use Rattle.rules.proofs.Course.{room_of}
use Rattle.rules.proofs.Given.{held, sums, begun, ample}

-- the positions up to the first one at or above n
unfoldable pub below : (n : ℕ) → List ℕ → List ℕ
below n [] = []
below n (p ∷ ps) = cond (ltb p n) (p ∷ below n ps) []

-- READ: everything that the law says of an answer
pub record WasRead (c : Command) (s i : Bytes) (a : Answered) : Type 0 where
  -- slice and record as they were
  pub slice : a.slice ≡ s
  pub next : a.answer.next ≡ c.on
  -- Data-In's first bytes are the ranges' bytes in list order up to the first position at or above logical length
  pub bytes : take a.answer.count a.input ≡ map (λ (p : ℕ). byte p s) (below c.on.length (positions (ranges c)))
  -- Data-In from the count on as it was
  pub rest : drop a.answer.count a.input ≡ drop a.answer.count i
  pub size : length a.input ≡ length i
  -- 15 exactly when count is below LENGTH; without it count is LENGTH
  pub short : (a.answer.outcome ≡ Ended) ↔ (a.answer.count < length_of c.cdb)
  pub full : (a.answer.outcome ≡ Done) ↔ (a.answer.count ≡ length_of c.cdb)

-- ---- the bytes gathered are those at the positions below the object's length

-- a range's bytes stand at its positions below the list's length
one_range : (o : Bytes) (at n : ℕ) → part at n o ≡ map (λ (p : ℕ). byte p o) (below (length o) (span at n))
unfolding below span
one_range o at zero = refl
one_range o at (suc n) = go (ltb at (length o)) refl (one_range o (suc at) n)
  where
    f : ℕ → ℕ
    f p = byte p o

    go : (b : Bool) → ltb at (length o) ≡ b → part (suc at) n o ≡ map f (below (length o) (span (suc at) n))
        → part at (suc n) o ≡ map f (cond b (at ∷ below (length o) (span (suc at) n)) [])
    go true e more = let h : at < length o = ltb-true _ _ e in rw (drop-cons o at 0) (ap (λ (r : Bytes). byte at o ∷ r) more)
    go false e more = rw (drop_of_length-le o (ltb-false _ _ e))

-- a range that begins at n or below it: if it ends above n it cuts off all that follows, and otherwise it is passed whole
through : (n at k : ℕ) (ps : List ℕ) → at ≤ n → below n (span at k ++ ps) ≡ below n (span at k) ++ cond (leb (at + k) n) (below n ps) []
unfolding below span
through n at zero ps h = rw (add-zero, le-leb)
through n at (suc k) ps h = go (ltb at n) refl (through n (suc at) k ps)
  where
    go : (b : Bool) → ltb at n ≡ b
        → (suc at ≤ n → below n (span (suc at) k ++ ps) ≡ below n (span (suc at) k) ++ cond (leb (suc at + k) n) (below n ps) [])
        → cond b (at ∷ below n (span (suc at) k ++ ps)) []
        ≡ cond b (at ∷ below n (span (suc at) k)) [] ++ cond (leb (at + suc k) n) (below n ps) []
    go true e more = rw (add-suc, ← suc-add) (ap (λ (r : List ℕ). at ∷ r) (more (ltb-true _ _ e)))
    go false e more = rw (lt-leb (at + suc k) n (omega (arith, ltb-false at n e)))

map_cond : (f : ℕ → ℕ) (b : Bool) (ps : List ℕ) → map f (cond b ps []) ≡ cond b (map f ps) []
map_cond f true ps = refl
map_cond f false ps = refl

-- The key of the law. A range that starts above the object's length would end the gathering even if it were empty,
-- and then it has no position to say so; row 12 refuses such a range.
pub gathers : (o : Bytes) (gs : List Range) → any (λ (g : Range). ltb (length o) g.start) gs ≡ false
    → gathered o gs ≡ map (λ (p : ℕ). byte p o) (below (length o) (positions gs))
unfolding gathered positions any below
gathers o [] h = refl
gathers o (g ∷ gs) h =
    let d = or_false_parts (ltb (length o) g.start) _ h in
    let w : g.start ≤ length o = ltb-false _ _ d.0 in
    rw (through, one_range o, gathers o gs d.1, map-append, map_cond)

-- what is gathered is at most the ranges' sum
gathered_le : (o : Bytes) (gs : List Range) → length (gathered o gs) ≤ total gs
unfolding gathered total
gathered_le o [] = omega arith
gathered_le o (g ∷ gs) = simp (length-append, length-take) (omega (arith, rest (leb (end g) (length o)) (gathered_le o gs)))
  where
    rest : (b : Bool) → length (gathered o gs) ≤ total gs → length (cond b (gathered o gs) []) ≤ total gs
    rest true h = h
    rest false h = omega arith

-- a byte of the object is the slice's
of_slice : (n : ℕ) (s : Bytes) (ps : List ℕ) → map (λ (p : ℕ). byte p (take n s)) (below n ps) ≡ map (λ (p : ℕ). byte p s) (below n ps)
unfolding below
of_slice n s [] = refl
of_slice n s (p ∷ ps) = go (ltb p n) refl (of_slice n s ps)
  where
    go : (b : Bool) → ltb p n ≡ b → map (λ (p : ℕ). byte p (take n s)) (below n ps) ≡ map (λ (p : ℕ). byte p s) (below n ps)
        → map (λ (p : ℕ). byte p (take n s)) (cond b (p ∷ below n ps) []) ≡ map (λ (p : ℕ). byte p s) (cond b (p ∷ below n ps) [])
    go true e more = rw (get_or-take n s p 0 (ltb-true p n e), more)
    go false e more = refl

-- ---- the outcome

short_is : (n m : ℕ) → (cond (ltb n m) Ended Done ≡ Ended) ↔ (n < m)
short_is n m = (go (ltb n m) refl, λ h. rw (lt-ltb n m h))
  where
    go : (b : Bool) → ltb n m ≡ b → cond b Ended Done ≡ Ended → n < m
    go true e o = ltb-true n m e
    go false e o = let z : ◌≡◌ {A = ℕ} 0 1 = cc in omega arith

full_is : (n m : ℕ) → n ≤ m → (cond (ltb n m) Ended Done ≡ Done) ↔ (n ≡ m)
full_is n m h = (go (ltb n m) refl, λ e. rw (le-ltb n m (omega arith)))
  where
    go : (b : Bool) → ltb n m ≡ b → cond b Ended Done ≡ Done → n ≡ m
    go true e o = let z : ◌≡◌ {A = ℕ} 0 1 = cc in omega arith
    go false e o = omega (arith, ltb-false n m e)

-- ---- the law

-- what READ of the bytes d answers, if there are no more of them than LENGTH says and Data-In has room for so many
was_read : (d : Bytes) (c : Command) (s i : Bytes) → d ≡ map (λ (p : ℕ). byte p s) (below c.on.length (positions (ranges c)))
    → length d ≤ length_of c.cdb → length_of c.cdb ≤ length i → WasRead c s i (reading d c s i)
unfolding reading
was_read d c s i e few room =
    record {
      slice = refl;
      next = refl;
      bytes = take-append_seam d (drop (length d) i) ∙ e;
      rest = drop-append_seam d (drop (length d) i);
      size = simp (length-append, length-drop) (omega arith);
      short = short_is (length d) (length_of c.cdb);
      full = full_is (length d) (length_of c.cdb) few;
    }

pub read : (c : Command) (s i : Bytes) → refusal c (room_of s i) ≡ None → verb c ≡ Some Read
    → WasRead c s i (answered c s i)
unfolding answered settled carried
read c s i e v =
    let p = passed c _ e in
    let whole : length (object c s) ≡ c.on.length = length-take-le c.on.length s (held p) in
    let starts = begun p Read v refl in
    let got = gathers (object c s) (ranges c) (rw whole starts) in
    rw (e, v) (was_read (gathered (object c s) (ranges c)) c s i (rw whole at got ∙ of_slice _ s _) (rw (← sums p) (gathered_le _ _)) (ample p v))
