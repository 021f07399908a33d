-- Law 4, WRITE and CLEAR: what a command that no row refuses leaves in the slice and in the record.
use Rattle.std.specs.Prelude.{None, Some}
use Prim.Native.Nat.{ℕ, suc, ◌+◌, ◌-◌, ◌≤◌, ◌<◌}
use mathlib.Core.Path.{◌≡◌, refl, sym, ◌∙◌}
use mathlib.Core.Logic.{◌⊎◌, inl, inr}
use mathlib.Core.Bool.{true, false}
use native.Mathlib.Nat.{add-sub_of_le}
use native.Mathlib.Omega.{arith}
use lib.ListN.{length, get_or, length-replicate}
use Rattle.rules.specs.declared.Verb.TheVariants.{Write, Clear}
use Rattle.rules.specs.declared.Outcome.TheVariants.{Done}
use Rattle.rules.specs.Bytes.{Bytes, byte, zeros, any}
use Rattle.rules.specs.Command.{Command, length_of, verb, payload}
use Rattle.rules.specs.Ranges.{total, overlapping, reach, positions, covered}
use Rattle.rules.specs.Reading.{listed, ranges}
use Rattle.rules.specs.Rows.{raised, refusal}
use Rattle.rules.specs.Object.{scattered, grown}
use Rattle.rules.specs.Answer.{Answered, lengthened, wrote, carried, settled, answered}
use Rattle.rules.proofs.Passed.{passed}
use Rattle.rules.proofs.Given.{alone, unlisted, sums, apart, supplied, raised_held}
use Rattle.rules.proofs.Course.{room_of}
use Rattle.rules.proofs.Lists.{byte_zeros, laid_length, laid_below, laid_within, laid_above}
use Rattle.rules.proofs.Positions.{reach_old, reach_above, reach_least, covered_placed}
use Rattle.rules.proofs.Scatter.{Ready, scattered_length, scattered_other, scattered_holds, nonempty, nonempty_scattered, nonempty_reach, nonempty_positions}

-- The law. d is the command data, or for CLEAR zeros; s and i are the slice and Data-In as they were lent.
pub record Wrote (c : Command) (d s i : Bytes) (a : Answered) : Type 0 where
  -- each position of a range holds its byte of the command data (zero for CLEAR): the k-th position in list order has the k-th byte,
  pub holds : (k : ℕ) → k < length_of c.cdb → byte (get_or (positions (ranges c)) k 0) a.slice ≡ byte k d
  -- and a position that a range has is the k-th for some k
  pub each : (p : ℕ) → covered (ranges c) p ≡ true → (k : ℕ) × (k < length_of c.cdb) × (get_or (positions (ranges c)) k 0 ≡ p)
  -- each position between old and new length that no range has is zero
  pub gap : (p : ℕ) → covered (ranges c) p ≡ false → c.on.length ≤ p → p < raised c → byte p a.slice ≡ 0
  -- every other byte of the slice is as it was,
  pub rest : (p : ℕ) → covered (ranges c) p ≡ false → (p < c.on.length) ⊎ (raised c ≤ p) → byte p a.slice ≡ byte p s
  -- and there are as many
  pub size : length a.slice ≡ length s
  -- the new length is the larger of the old one and the highest written position plus one: no less than the old one,
  pub raised_old : c.on.length ≤ raised c
  -- above every written position,
  pub raised_all : (p : ℕ) → covered (ranges c) p ≡ true → p < raised c
  -- and no larger than that asks
  pub raised_least : (raised c ≡ c.on.length) ⊎ ((p : ℕ) × (covered (ranges c) p ≡ true) × (raised c ≡ suc p))
  -- it is within the slice, and so are all written positions and the zeros between
  pub raised_inside : raised c ≤ length s
  -- the next record has it, and nothing else of the record changes
  pub length_new : a.answer.next ≡ lengthened c.on (raised c)
  -- empty ranges do nothing: without them the same slice is left,
  pub empty_slice : a.slice ≡ scattered (grown c.on.length (raised c) s) (nonempty (ranges c)) d
  -- the same length,
  pub empty_raised : raised c ≡ reach c.on.length (nonempty (ranges c))
  -- and the positions are the same ones
  pub empty_positions : positions (ranges c) ≡ positions (nonempty (ranges c))
  -- the command is done, its count is LENGTH, and Data-In isn't touched
  pub outcome : a.answer.outcome ≡ Done
  pub count : a.answer.count ≡ length_of c.cdb
  pub input : a.input ≡ i

-- ---- the gap, which is zero before the ranges are written

module _ (old new : ℕ) (s : Bytes) (raises : old ≤ new) (fits : new ≤ length s) where
  pub gap_length : old + length (zeros (new - old)) ≡ new
  gap_length = rw length-replicate (add-sub_of_le raises)

  pub grown_length : length (grown old new s) ≡ length s
  unfolding grown
  grown_length = laid_length old (zeros (new - old)) s (rw gap_length fits)

  pub grown_zero : (p : ℕ) → old ≤ p → p < new → byte p (grown old new s) ≡ 0
  unfolding grown
  grown_zero p from below =
      let zero-at = byte_zeros (new - old) (p - old) (omega arith) in
      let within = laid_within old (zeros (new - old)) s (p - old) (omega arith) (rw length-replicate (omega arith)) in
      rw (add-sub_of_le from) at (within ∙ zero-at)

  pub grown_other : (p : ℕ) → (p < old) ⊎ (new ≤ p) → byte p (grown old new s) ≡ byte p s
  unfolding grown
  grown_other p (inl below) = laid_below old (zeros (new - old)) s p (omega arith) below
  grown_other p (inr above) = laid_above old (zeros (new - old)) s p (omega arith) (rw gap_length above)

-- ---- what the law rests on, and the law from it

-- the ranges have LENGTH positions, each for one range alone
pub record Exact (c : Command) : Type 0 where
  pub sum : total (ranges c) ≡ length_of c.cdb
  pub apart : overlapping (ranges c) ≡ false

-- there is a place in the slice for every position, and a byte of d
pub record Roomy (c : Command) (d s : Bytes) : Type 0 where
  pub new : raised c ≤ length s
  pub enough : length_of c.cdb ≤ length d

module _ (c : Command) (d s i : Bytes) (exact : Exact c) (roomy : Roomy c d s) where
  raises : c.on.length ≤ raised c
  unfolding raised
  raises = reach_old c.on.length (ranges c)

  above : (p : ℕ) → covered (ranges c) p ≡ true → p < raised c
  unfolding raised
  above = reach_above c.on.length (ranges c)

  -- the slice that the ranges are written into
  base : Bytes
  base = grown c.on.length (raised c) s

  base_length : length base ≡ length s
  unfolding base
  base_length = grown_length c.on.length (raised c) s raises roomy.new

  base_gap : (p : ℕ) → c.on.length ≤ p → p < raised c → byte p base ≡ 0
  unfolding base
  base_gap = grown_zero c.on.length (raised c) s raises roomy.new

  base_rest : (p : ℕ) → (p < c.on.length) ⊎ (raised c ≤ p) → byte p base ≡ byte p s
  unfolding base
  base_rest = grown_other c.on.length (raised c) s raises roomy.new

  ready : Ready base (ranges c) d
  ready =
      record {
        inside = λ p h. rw base_length (omega (arith, above p h));
        enough = omega arith;
      }

  wrote_law : Wrote c d s i (wrote d c s i)
  unfolding wrote base raised
  wrote_law =
      record {
        holds = λ k h. scattered_holds (ranges c) base d k ready exact.apart (omega arith);
        each = λ p h. let l = covered_placed (ranges c) p h in (l.index, omega arith, l.there);
        gap = λ p n from below. scattered_other (ranges c) base d p ready n ∙ base_gap p from below;
        rest = λ p n other. scattered_other (ranges c) base d p ready n ∙ base_rest p other;
        size = scattered_length (ranges c) base d ready ∙ base_length;
        raised_old = raises;
        raised_all = above;
        raised_least = reach_least c.on.length (ranges c);
        raised_inside = roomy.new;
        length_new = refl;
        empty_slice = sym (nonempty_scattered (ranges c) base d);
        empty_raised = sym (nonempty_reach (ranges c) c.on.length);
        empty_positions = sym (nonempty_positions (ranges c));
        outcome = refl;
        count = refl;
        input = refl;
      }

sole_apart : (c : Command) → listed c ≡ false → overlapping (ranges c) ≡ false
unfolding overlapping any
sole_apart c n = rw (alone c n)

-- ---- law 4

pub write : (c : Command) (s i : Bytes)
    → refusal c (room_of s i) ≡ None → verb c ≡ Some Write → Wrote c (payload c) s i (answered c s i)
unfolding answered settled carried
write c s i accepted v =
    let p = passed c (room_of s i) accepted in
    let exact : Exact c = record { sum = sums p; apart = apart p v } in
    rw (accepted, v) (wrote_law c (payload c) s i exact (record { new = raised_held p Write v refl; enough = supplied p v }))

pub clear : (c : Command) (s i : Bytes)
    → refusal c (room_of s i) ≡ None
    → verb c ≡ Some Clear
    → Wrote c (zeros (length_of c.cdb)) s i (answered c s i)
unfolding answered settled carried
clear c s i accepted v =
    let p = passed c (room_of s i) accepted in
    let d : Bytes = zeros (length_of c.cdb) in
    let exact : Exact c = record { sum = sums p; apart = sole_apart c (unlisted p Clear v refl) } in
    let enough : length_of c.cdb ≤ length d = rw length-replicate (omega arith) in
    rw (accepted, v) (wrote_law c d s i exact (record { new = raised_held p Clear v refl; enough = enough }))

-- for CLEAR `holds` comes to this: each position of a range is zero
pub cleared : (c : Command) (s i : Bytes) (a : Answered)
    → Wrote c (zeros (length_of c.cdb)) s i a → (p : ℕ) → covered (ranges c) p ≡ true → byte p a.slice ≡ 0
cleared c s i a w p h =
    let (k, counted, there) = w.each p h in
    rw there at (w.holds k counted ∙ byte_zeros (length_of c.cdb) k counted)
