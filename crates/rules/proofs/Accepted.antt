-- What is known of a request that the writer doesn't refuse.
use Rattle.std.specs.Prelude.{is_some, None, Some}
use Prim.Native.Nat.{ℕ, ◌%◌, ◌^◌, ◌≤◌, ◌<◌}
use mathlib.Core.Path.{◌≡◌, refl}
use mathlib.Core.Bool.{Bool, true, false, cond, ◌&&◌, ◌||◌, not, false≢true}
use native.Mathlib.Omega.{arith}
use lib.ListN.{length}
use lib.Dec.{eqb, ltb}
use borrow.Author.Tests.{ltb-false, leb-false, eqb-true, eqb-false, not-false}
use Rattle.rules.specs.declared.Verb.{Verb}
use Rattle.rules.specs.declared.Verb.TheVariants.{Read, Write, Clear, Punch}
use Rattle.rules.specs.Tests.{first_of}
use Rattle.rules.specs.Command.{READ, WRITE, CLEAR, PUNCH, verb_of, asks, is_write, is_clear, is_punch}
use Rattle.rules.specs.Ranges.{total, overlapping}
use Rattle.rules.specs.Writer.{Request, entries, segment_for, refusals}
use Rattle.rules.proofs.Booleans.{or_false_parts}
use Rattle.rules.proofs.Passed.{skips}

-- an action that has a verb fits its field
pub fits_field : (a : ℕ) → is_some (verb_of a) ≡ true → a < 65536
unfolding verb_of first_of
fits_field a e = go (eqb a READ) (eqb a WRITE) (eqb a CLEAR) (eqb a PUNCH) refl refl refl refl e
  where
    go : (r w c p : Bool) → eqb a READ ≡ r → eqb a WRITE ≡ w → eqb a CLEAR ≡ c → eqb a PUNCH ≡ p
        → is_some (cond r (Some Read) (cond w (Some Write) (cond c (Some Clear) (cond p (Some Punch) None)))) ≡ true → a < 65536
    go true w c p e f g h k = omega (arith, eqb-true a READ e)
    go false true c p e f g h k = omega (arith, eqb-true a WRITE f)
    go false false true p e f g h k = omega (arith, eqb-true a CLEAR g)
    go false false false true e f g h k = omega (arith, eqb-true a PUNCH h)
    go false false false false e f g h k = absurd (false≢true k)

pub record Accepted (q : Request) : Type 0 where
  pub known : is_some (verb_of q.action) ≡ true
  -- capabilities: one to nine
  pub given : length q.capabilities ≡ 0 → ⊥
  pub limited : length q.capabilities ≤ 936
  pub whole : length q.capabilities % 104 ≡ 0
  -- with a list
  pub equal : q.listed ≡ true → length q.offsets ≡ length q.lengths
  pub few : q.listed ≡ true → length q.offsets ≤ 64
  pub may_list : q.listed ≡ true → asks (verb_of q.action) (λ (v : Verb). is_clear v || is_punch v) ≡ false
  pub unstarted : q.listed ≡ true → q.start ≡ 0
  pub fits : q.listed ≡ true → total (entries q) < 2 ^ 64
  pub apart : q.listed ≡ true → asks (verb_of q.action) is_write && overlapping (entries q) ≡ false

-- a test that is made only under the flag
under : (l b : Bool) → (l && b) ≡ false → l ≡ true → b ≡ false
under true b e h = e
under false b e h = let z : ◌≡◌ {A = ℕ} 0 1 = cc in absurd (omega arith)

under_both : (l a b : Bool) → (l && a && b) ≡ false → l ≡ true → (a && b) ≡ false
under_both true a b e h = e
under_both false a b e h = let z : ◌≡◌ {A = ℕ} 0 1 = cc in absurd (omega arith)

pub accepted : (q : Request) (cdb_room segment_room : ℕ) → first_of (refusals q cdb_room segment_room) ≡ None
    → Accepted q × (236 ≤ cdb_room) × (length (segment_for q) ≤ segment_room)
unfolding refusals
accepted q c s e =
    let action = skips _ _ e in
    let capabilities = skips _ _ action.1 in
    let slices = skips _ _ capabilities.1 in
    let verb = skips _ _ slices.1 in
    let start = skips _ _ verb.1 in
    let sum = skips _ _ start.1 in
    let overlap = skips _ _ sum.1 in
    let room = skips _ _ overlap.1 in
    let n : ℕ = length q.capabilities in
    let sizes = or_false_parts (eqb n 0 || ltb 936 n) (not (eqb (n % 104) 0)) capabilities.0 in
    let ends = or_false_parts (eqb n 0) (ltb 936 n) sizes.0 in
    let shape : q.listed ≡ true → (not (eqb (length q.offsets) (length q.lengths)) ≡ false) × (ltb 64 (length q.offsets) ≡ false) =
    λ l. or_false_parts (not (eqb (length q.offsets) (length q.lengths))) (ltb 64 (length q.offsets)) (under _ _ slices.0 l) in
    let rooms = or_false_parts (ltb c 236) (ltb s (length (segment_for q))) room.0 in (
      record {
        known = not-false _ action.0;
        given = eqb-false _ _ ends.0;
        limited = ltb-false _ _ ends.1;
        whole = eqb-true _ _ (not-false _ sizes.1);
        equal = λ l. eqb-true _ _ (not-false _ (shape l).0);
        few = λ l. ltb-false _ _ (shape l).1;
        may_list = under _ _ verb.0;
        unstarted = λ l. eqb-true _ _ (not-false _ (under _ _ start.0 l));
        fits = λ l. leb-false _ _ (under _ _ sum.0 l);
        apart = under_both _ _ _ overlap.0;
      },
      ltb-false _ _ rooms.0,
      ltb-false _ _ rooms.1,
    )

-- there is one capability, the CDB's, at least
pub one_given : {q : Request} → Accepted q → 104 ≤ length q.capabilities
one_given a = omega (arith, a.given, a.whole)
