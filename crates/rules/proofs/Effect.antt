-- Demand 3's laws of a single command that isn't PUNCH: what it does to the object at a position, and what its answer depends on.
-- The object's bytes are read as all bytes are: behind its end each is zero, which is what a gap becomes.
use Rattle.std.specs.Prelude.{None, Some}
use Prim.Native.Nat.{ℕ, ◌+◌, ◌≤◌, ◌<◌}
use mathlib.Core.Path.{◌≡◌, refl, sym, ◌∙◌}
use mathlib.Core.Logic.{◌⊎◌, inl, inr}
use mathlib.Core.Bool.{Bool, true, false, false≢true}
use mathlib.Core.List.{List, [], ◌∷◌}
use native.Mathlib.Omega.{arith}
use lib.ListN.{length, take, drop, length-take, length-drop, get_or-eq_default}
use lib.Seq.{get_or-take, get_or-drop, ext_get_or}
use Rattle.rules.specs.declared.Range.{Range}
use Rattle.rules.specs.declared.Verb.{Verb}
use Rattle.rules.specs.declared.Verb.TheVariants.{Read, Write, Clear, Punch}
use Rattle.rules.specs.Bytes.{Bytes, byte, part}
use Rattle.rules.specs.Command.{Command, verb, asks, is_punch}
use Rattle.rules.specs.Ranges.{covered}
use Rattle.rules.specs.Reading.{ranges}
use Rattle.rules.specs.Rows.{raised, refusal}
use Rattle.rules.specs.Object.{gathered}
use Rattle.rules.specs.Answer.{Answered, object, answered, settled, refused, carried, read as reading}
use Rattle.rules.proofs.Booleans.{fails, lt_or_le}
use Rattle.rules.proofs.Passed.{passed}
use Rattle.rules.proofs.Course.{room_of, Course, refusing, carrying, course}
use Rattle.rules.proofs.Positions.{covered_here, covered_later}
use Rattle.rules.proofs.Numbers.{refused_unchanged}
use Rattle.rules.proofs.Read.{read}
use Rattle.rules.proofs.Write.{Wrote, write, clear}
use Rattle.rules.proofs.Admitted.{allows, touches_allowed, clears_writes}

-- the object that an answer leaves
abbrev pub left : Answered → Bytes
left a = take a.answer.next.length a.slice

pub behind : (n : ℕ) (s : Bytes) (p : ℕ) → n ≤ p → byte p (take n s) ≡ 0
behind n s p h = get_or-eq_default (take n s) 0 (rw length-take (omega arith))

-- a command that doesn't ask for PUNCH isn't PUNCH
unpunched : (c : Command) → asks (verb c) is_punch ≡ false → verb c ≡ Some Punch → ⊥
unpunched c n e = false≢true (sym (rw e at n))

-- ---- WRITE and CLEAR

module _ (c : Command) (d s i : Bytes) (a : Answered) (w : Wrote c d s i a) where
  -- Outside the ranges the object reads the same: below the old length it is as it was, and the gap is zero.
  outside : (p : ℕ) → covered (ranges c) p ≡ false → byte p (left a) ≡ byte p (object c s)
  outside p n = rw w.length_new (go (lt_or_le p c.on.length) (lt_or_le p (raised c)))
    where
      go : (p < c.on.length) ⊎ (c.on.length ≤ p) → (p < raised c) ⊎ (raised c ≤ p) → byte p (take (raised c) a.slice) ≡ byte p (object c s)
      go (inl below) new =
          get_or-take (raised c) a.slice p 0 (omega (arith, w.raised_old)) ∙ w.rest p n (inl below) ∙ sym (get_or-take c.on.length s p 0 below)
      go (inr from) (inl below) = get_or-take (raised c) a.slice p 0 below ∙ w.gap p n from below ∙ sym (behind c.on.length s p from)
      go (inr from) (inr above) = behind (raised c) a.slice p above ∙ sym (behind c.on.length s p from)

  -- all of the ranges is below the new length
  inside : (p : ℕ) → covered (ranges c) p ≡ true → byte p (left a) ≡ byte p a.slice
  inside p h = rw w.length_new (get_or-take (raised c) a.slice p 0 (w.raised_all p h))

-- ---- one run

-- at a position that the command may not write, the object reads the same before and after
pub spares : (c : Command) (s i : Bytes) → asks (verb c) is_punch ≡ false
    → (p : ℕ) → allows Write c p ≡ false → byte p (left (answered c s i)) ≡ byte p (object c s)
unfolding verb
spares c s i other p f = go (course c s i)
  where
    idle : (a : Answered) → a.answer.next ≡ c.on → a.slice ≡ s → byte p (left a) ≡ byte p (object c s)
    idle a n e = rw (n, e)

    untouched : (covered (ranges c) p ≡ true → allows Write c p ≡ true) → covered (ranges c) p ≡ false
    untouched only = fails _ (λ h. false≢true (sym f ∙ only h))

    carry : (v : Verb) → refusal c (room_of s i) ≡ None → verb c ≡ Some v → byte p (left (answered c s i)) ≡ byte p (object c s)
    carry Read e h = let law = read c s i e h in idle (answered c s i) law.next law.slice
    carry Write e h = outside c _ s i _ (write c s i e h) p (untouched (touches_allowed Write c _ p (passed c _ e) h))
    carry Clear e h =
        outside c _ s i _ (clear c s i e h) p (untouched (λ k. rw clears_writes at (touches_allowed Clear c _ p (passed c _ e) h k)))
    carry Punch e h = absurd (unpunched c other h)

    go : Course c s i → byte p (left (answered c s i)) ≡ byte p (object c s)
    go (refusing w e a) = let u = refused_unchanged w c s i in rw a (idle (refused w c s i) u.next u.slice)
    go (carrying v e h a) = carry v e h

-- ---- two runs, on slices of one size

pub record Twins (c : Command) (s s' : Bytes) (a a' : Answered) : Type 0 where
  -- the caller is told the same
  pub answer : a.answer ≡ a'.answer
  pub input : a.input ≡ a'.input
  -- the objects agree afterwards wherever they did before
  pub agree : (p : ℕ) → byte p (object c s) ≡ byte p (object c s') → byte p (left a) ≡ byte p (left a')

part_alike : (at n : ℕ) (o o' : Bytes) → length o ≡ length o' → ((p : ℕ) → at ≤ p → p < at + n → byte p o ≡ byte p o') → part at n o ≡ part at n o'
part_alike at n o o' e same =
    ext_get_or 0 (part at n o) (part at n o') (simp (length-take, length-drop, e))
    (λ i h.
    let below : i < n = omega (arith, length-take n (drop at o)) in
    get_or-take n (drop at o) i 0 below ∙ get_or-drop at o i 0 ∙ same (at + i) (omega arith) (omega arith)
    ∙ sym (get_or-take n (drop at o') i 0 below ∙ get_or-drop at o' i 0))

-- what is gathered depends on the object's length and on its bytes in the ranges
gathered_alike : (gs : List Range) (o o' : Bytes)
    → length o ≡ length o' → ((p : ℕ) → covered gs p ≡ true → byte p o ≡ byte p o') → gathered o gs ≡ gathered o' gs
unfolding gathered
gathered_alike [] o o' e same = refl
gathered_alike (g ∷ gs) o o' e same =
    rw (
      part_alike g.start g.size o o' e (λ p from below. same p (covered_here g gs p (omega arith))),
      e,
      gathered_alike gs o o' e (λ p h. same p (covered_later g gs p h)),
    )

reading_twins : (c : Command) (s s' i d d' : Bytes) → d ≡ d' → Twins c s s' (reading d c s i) (reading d' c s' i)
unfolding reading
reading_twins c s s' i d d' e = record { answer = rw e; input = rw e; agree = λ p same. same }

writing_twins : (c : Command) (d s s' i : Bytes) (a a' : Answered) → Wrote c d s i a → Wrote c d s' i a' → Twins c s s' a a'
writing_twins c d s s' i a a' w w' =
    record {
      answer =
          let o = w.outcome ∙ sym w'.outcome in
          let k = w.count ∙ sym w'.count in
          let n = w.length_new ∙ sym w'.length_new in
          λ j. record { outcome = o j; count = k j; next = n j };
      input = w.input ∙ sym w'.input;
      agree = λ p same. at p same (covered (ranges c) p) refl;
    }
  where
    at : (p : ℕ) → byte p (object c s) ≡ byte p (object c s') → (b : Bool) → covered (ranges c) p ≡ b → byte p (left a) ≡ byte p (left a')
    at p same false h = outside c d s i a w p h ∙ same ∙ sym (outside c d s' i a' w' p h)
    at p same true h =
        let (k, counted, there) = w.each p h in
        inside c d s i a w p h ∙ rw there at (w.holds k counted ∙ sym (w'.holds k counted)) ∙ sym (inside c d s' i a' w' p h)

pub twins : (c : Command) (s s' i : Bytes) → asks (verb c) is_punch ≡ false → length s ≡ length s'
    -- READ depends on no byte of the object but those that the command may read
    → ((p : ℕ) → allows Read c p ≡ true → byte p (object c s) ≡ byte p (object c s'))
    → Twins c s s' (answered c s i) (answered c s' i)
unfolding answered settled carried refused verb
twins c s s' i other size same = go (course c s i)
  where
    Both : Type 0
    Both = Twins c s s' (answered c s i) (answered c s' i)

    carry : (v : Verb) → refusal c (room_of s i) ≡ None → refusal c (room_of s' i) ≡ None → verb c ≡ Some v → Both
    carry Read e e' h =
        let whole : length (object c s) ≡ length (object c s') = simp (length-take, size) in
        let q = passed c (room_of s i) e in
        rw (e, e', h)
        (reading_twins c s s' i _ _ (gathered_alike (ranges c) _ _ whole (λ p k. same p (touches_allowed Read c _ p q h k))))
    carry Write e e' h = writing_twins c _ s s' i _ _ (write c s i e h) (write c s' i e' h)
    carry Clear e e' h = writing_twins c _ s s' i _ _ (clear c s i e h) (clear c s' i e' h)
    carry Punch e e' h = absurd (unpunched c other h)

    -- the rows see the slice's size alone
    go : Course c s i → Both
    go (refusing w e a) =
        let e' : refusal c (room_of s' i) ≡ Some w = rw (← size) e in
        rw (e, e') (record { answer = refl; input = refl; agree = λ p same. same })
    go (carrying v e h a) = carry v e (rw (← size) e) h
