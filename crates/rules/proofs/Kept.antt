-- Law 6: what every call, whatever it ends with, leaves of the record and of the slice's size.
use Rattle.std.specs.Prelude.{None, Some}
use Prim.Native.Nat.{◌≤◌, ◌<◌}
use mathlib.Core.Path.{◌≡◌, refl, sym, ap, ◌∙◌}
use mathlib.Core.Logic.{⊎_elim}
use mathlib.Core.Bool.{true, ◌||◌}
use lib.ListN.{length}
use native.Mathlib.Omega.{arith}
use Rattle.rules.specs.declared.Record.{Record}
use Rattle.rules.specs.declared.Verb.{Verb}
use Rattle.rules.specs.declared.Verb.TheVariants.{Read, Write, Clear, Punch}
use Rattle.rules.specs.Bytes.{Bytes}
use Rattle.rules.specs.Command.{Command, verb, is_write, is_clear}
use Rattle.rules.specs.Rows.{raised, refusal}
use Rattle.rules.specs.Answer.{Answered, answered, lengthened, refused}
use Rattle.rules.proofs.Booleans.{lt_or_le}
use Rattle.rules.proofs.Passed.{passed}
use Rattle.rules.proofs.Given.{roomy}
use Rattle.rules.proofs.Course.{room_of, Course, refusing, carrying, course}
use Rattle.rules.proofs.Numbers.{refused_unchanged}
use Rattle.rules.proofs.Read.{read}
use Rattle.rules.proofs.Write.{Wrote, write, clear}
use Rattle.rules.proofs.Punch.{punch}

pub record Kept (c : Command) (s : Bytes) (a : Answered) : Type 0 where
  -- of the record only logical length changes
  pub only_length : a.answer.next ≡ lengthened c.on a.answer.next.length
  -- the slice keeps its size
  pub size : length a.slice ≡ length s
  -- logical length is at most slice length if it was before
  pub inside : c.on.length ≤ length s → a.answer.next.length ≤ length s
  -- it passes maximum length only if it was above already
  pub bounded : c.on.maximum < a.answer.next.length → c.on.maximum < c.on.length

-- the record and the slice as they were
same : (c : Command) (s : Bytes) (a : Answered) → a.answer.next ≡ c.on → a.slice ≡ s → Kept c s a
same c s a n e =
    let l : a.answer.next.length ≡ c.on.length = ap (λ (r : Record). r.length) n in
    record { only_length = n ∙ ap (lengthened c.on) (sym l); size = ap length e; inside = λ h. omega arith; bounded = λ h. omega arith }

-- a length that a row has let through
longer : (c : Command) (s i : Bytes) (v : Verb) (d : Bytes) → refusal c (room_of s i) ≡ None → verb c ≡ Some v → is_write v || is_clear v ≡ true
    → Wrote c d s i (answered c s i) → Kept c s (answered c s i)
longer c s i v d e h w law =
    let l : (answered c s i).answer.next.length ≡ raised c = ap (λ (r : Record). r.length) law.length_new in
    record {
      only_length = law.length_new ∙ ap (lengthened c.on) (sym l);
      size = law.size;
      inside = λ k. omega (arith, law.raised_inside);
      bounded =
          λ k.
          ⊎_elim (λ (g : c.on.length < raised c). absurd (omega (arith, (roomy (passed c (room_of s i) e) v h w g).0)))
          (λ (g : raised c ≤ c.on.length). omega arith)
          (lt_or_le c.on.length (raised c));
    }

pub law6 : (c : Command) (s i : Bytes) → Kept c s (answered c s i)
law6 c s i = go (course c s i)
  where
    carry : (v : Verb) → refusal c (room_of s i) ≡ None → verb c ≡ Some v → Kept c s (answered c s i)
    carry Read e h = let law = read c s i e h in same c s (answered c s i) law.next law.slice
    carry Write e h = longer c s i Write _ e h refl (write c s i e h)
    carry Clear e h = longer c s i Clear _ e h refl (clear c s i e h)
    carry Punch e h =
        let law = punch c s i e h in
        record { only_length = law.next; size = law.size; inside = λ k. omega (arith, law.sum); bounded = λ k. omega (arith, law.sum) }

    go : Course c s i → Kept c s (answered c s i)
    go (refusing w e a) = let u = refused_unchanged w c s i in rw a (same c s (refused w c s i) u.next u.slice)
    go (carrying v e h a) = carry v e h
