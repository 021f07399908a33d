-- Law 5, PUNCH: below the start as it was; what followed stands lower by the count; the freed tail is zero;
-- at or above the old length as it was.
use Rattle.std.specs.Prelude.{None, Some}
use mathlib.Core.Path.{◌≡◌, refl, ap, ◌∙◌}
use mathlib.Core.List.{◌++◌}
use Prim.Native.Nat.{ℕ, ◌+◌, ◌-◌, ◌≤◌, ◌<◌, min}
use native.Mathlib.Omega.{arith}
use lib.ListN.{length, take, drop, length-append, length-take, length-drop, length-replicate, get_or-replicate, get_or-append}
use lib.Seq.{get_or-take, get_or-drop}
use lib.Dec.{ltb}
use borrow.Author.Tests.{ltb-false}
use Rattle.rules.specs.declared.Range.{Range}
use Rattle.rules.specs.declared.Verb.TheVariants.{Punch}
use Rattle.rules.specs.declared.Outcome.TheVariants.{Done}
use Rattle.rules.specs.Bytes.{Bytes, byte, zeros, any}
use Rattle.rules.specs.Command.{Command, verb, sole_range}
use Rattle.rules.specs.Ranges.{end}
use Rattle.rules.specs.Rows.{Room, refusal}
use Rattle.rules.specs.Object.{punched}
use Rattle.rules.specs.Answer.{Answered, lengthened, settled, carried, answered, cut}
use Rattle.rules.proofs.Passed.{Passed, passed}
use Rattle.rules.proofs.Booleans.{or_false_parts}
use Rattle.rules.proofs.Course.{room_of}
use Rattle.rules.proofs.Given.{held, alone, unlisted, begun}
use Rattle.rules.proofs.Lists.{byte_behind}

-- the one range of PUNCH, the count, and the logical length before and after
abbrev pub hole : Command → Range
hole c = sole_range c.cdb

abbrev pub count : Answered → ℕ
count a = a.answer.count

abbrev pub old : Command → ℕ
old c = c.on.length

abbrev pub new : Answered → ℕ
new a = a.answer.next.length

-- PUNCH: everything that the law says of an answer
pub record Punched (c : Command) (s i : Bytes) (a : Answered) : Type 0 where
  pub outcome : a.answer.outcome ≡ Done
  -- Data-In as it was, and the slice as long as it was
  pub input : a.input ≡ i
  pub size : length a.slice ≡ length s
  -- of the record only logical length changes, by the count
  pub next : a.answer.next ≡ lengthened c.on (new a)
  pub sum : new a + count a ≡ old c
  -- the range doesn't start above the old length; the count is LENGTH, or all that stands from the start on if that is less
  pub begins : (hole c).start ≤ old c
  pub counted : count a ≡ min (hole c).size (old c - (hole c).start)
  -- below the start as it was
  pub before : (p : ℕ) → p < (hole c).start → byte p a.slice ≡ byte p s
  -- what followed stands lower by the count
  pub moved : (p : ℕ) → (hole c).start ≤ p → p < new a → byte p a.slice ≡ byte (p + count a) s
  -- the freed tail is zero
  pub freed : (p : ℕ) → new a ≤ p → p < old c → byte p a.slice ≡ 0
  -- at or above the old length as it was
  pub above : (p : ℕ) → old c ≤ p → byte p a.slice ≡ byte p s

-- ---- over plain numbers: a range g is removed from the first n bytes of s

-- its front and its back are left; zeros fill up what they leave of the n, and the slice goes on as before
abbrev front : Range → (n : ℕ) → Bytes → Bytes
front g n s = take g.start (take n s)

abbrev left : Range → (n : ℕ) → Bytes → Bytes
left g n s = punched g (take n s)

abbrev filled : Range → (n : ℕ) → Bytes → Bytes
filled g n s = left g n s ++ zeros (n - length (left g n s))

abbrev after : Range → (n : ℕ) → Bytes → Bytes
after g n s = filled g n s ++ drop n s

module _ (g : Range) (n : ℕ) (s : Bytes) (begins : g.start ≤ n) (fits : n ≤ length s) where
  front_length : length (front g n s) ≡ g.start
  front_length = simp length-take (omega arith)

  left_length : length (left g n s) ≡ g.start + (n - end g)
  unfolding punched
  left_length = simp (length-append, length-take, length-drop) (omega arith)

  filled_length : length (filled g n s) ≡ n
  filled_length = simp (length-append, length-replicate) (omega (arith, left_length))

  after_length : length (after g n s) ≡ length s
  after_length = simp (length-append, length-replicate, length-drop) (omega (arith, left_length))

  -- below the new length stands what is left
  in_left : (p : ℕ) → p < length (left g n s) → byte p (after g n s) ≡ byte p (left g n s)
  in_left p h =
      let k : p < length (filled g n s) = omega (arith, left_length, filled_length) in
      get_or-append (filled g n s) (drop n s) 0 p k ∙ get_or-append (left g n s) _ 0 p h

  was_before : (p : ℕ) → p < g.start → byte p (after g n s) ≡ byte p s
  unfolding punched
  was_before p h =
      let k : p < length (front g n s) = omega (arith, front_length) in
      in_left p (omega (arith, left_length)) ∙ get_or-append (front g n s) _ 0 p k ∙ get_or-take g.start (take n s) p 0 h
      ∙ get_or-take n s p 0 (omega arith)

  was_moved : (p : ℕ) → g.start ≤ p → p < length (left g n s) → byte p (after g n s) ≡ byte (p + (n - length (left g n s))) s
  unfolding punched
  was_moved p h k =
      let b : length (front g n s) ≤ p = omega (arith, front_length) in
      in_left p k ∙ byte_behind p (front g n s) _ b ∙ get_or-drop (end g) (take n s) (p - length (front g n s)) 0
      ∙ get_or-take n s (end g + (p - length (front g n s))) 0 (omega (arith, front_length, left_length))
      ∙ ap (λ (q : ℕ). byte q s) (omega (arith, front_length, left_length))

  was_freed : (p : ℕ) → length (left g n s) ≤ p → p < n → byte p (after g n s) ≡ 0
  was_freed p h k =
      let b : p < length (filled g n s) = omega (arith, filled_length) in
      get_or-append (filled g n s) _ 0 p b ∙ byte_behind p (left g n s) _ h
      ∙ get_or-replicate (n - length (left g n s)) (p - length (left g n s)) 0 0 (omega arith)

  was_above : (p : ℕ) → n ≤ p → byte p (after g n s) ≡ byte p s
  was_above p h =
      let b : length (filled g n s) ≤ p = omega (arith, filled_length) in
      byte_behind p (filled g n s) (drop n s) b ∙ get_or-drop n s (p - length (filled g n s)) 0
      ∙ ap (λ (q : ℕ). byte q s) (omega (arith, filled_length))

-- ---- the law

-- rows 8 and 12: PUNCH has one range, and it doesn't start above logical length
pub begins_within : {c : Command} {m : Room} → Passed c m → verb c ≡ Some Punch → (hole c).start ≤ old c
unfolding any
begins_within {c} p v = ltb-false _ _ (or_false_parts (ltb (old c) (hole c).start) _ (rw (alone c (unlisted p Punch v refl)) at (begun p Punch v refl))).0

was_punched : (c : Command) (s i : Bytes) → (hole c).start ≤ old c → old c ≤ length s → Punched c s i (cut (left (hole c) (old c) s) c s i)
unfolding cut
was_punched c s i b f =
    let l = left_length (hole c) (old c) s b f in
    record {
      outcome = refl;
      input = refl;
      size = after_length (hole c) (old c) s b f;
      next = refl;
      sum = omega arith;
      begins = b;
      counted = omega arith;
      before = was_before (hole c) (old c) s b f;
      moved = was_moved (hole c) (old c) s b f;
      freed = was_freed (hole c) (old c) s b f;
      above = was_above (hole c) (old c) s b f;
    }

pub punch : (c : Command) (s i : Bytes) → refusal c (room_of s i) ≡ None → verb c ≡ Some Punch
    → Punched c s i (answered c s i)
unfolding answered settled carried
punch c s i e v = let p = passed c _ e in rw (e, v) (was_punched c s i (begins_within p v) (held p))
