-- Law 1: each of 1 to 14 is given exactly when its row holds and none before it does; 15 exactly when a READ passes all and is short; else 0.
-- Law 2: a refusal has count 0 and the record given, and leaves slice and Data-In byte for byte as they were.
use Rattle.std.specs.Prelude.{slice_get, None, Some}
use Prim.Native.Nat.{ℕ, zero, suc, ◌+◌, ◌≤◌, ◌<◌}
use native.Mathlib.Omega.{arith}
use mathlib.Core.Logic.{◌↔◌, ◌⊎◌, inl, inr, ⊎_elim}
use mathlib.Core.Path.{◌≡◌, refl, ap, sym, ◌∙◌, subst}
use mathlib.Core.Bool.{Bool, true, false, true≢false, false≢true}
use mathlib.Core.List.{List, [], ◌∷◌, map}
use lib.ListN.{length}
use lib.Dec.{ltb}
use borrow.Author.Tests.{ltb-true, ltb-false}
use Rattle.rules.specs.declared.Verb.{Verb}
use Rattle.rules.specs.declared.Verb.TheVariants.{Read, Write, Clear, Punch}
use Rattle.rules.specs.declared.Refusal.{Refusal}
use Rattle.rules.specs.Bytes.{Bytes}
use Rattle.rules.specs.Tests.{Test}
use Rattle.rules.specs.Command.{Command, length_of, verb, is_read}
use Rattle.rules.specs.Ranges.{span}
use Rattle.rules.specs.Header.{front_rows, segment_rows, header}
use Rattle.rules.specs.Rows.{Room, rows, refusal}
use Rattle.rules.specs.Reading.{ranges}
use Rattle.rules.specs.Object.{gathered}
use Rattle.rules.specs.Numbers.{row, number}
use Rattle.rules.specs.Answer.{Answered, answered, object, refused, read, wrote, cut, carried}
use Rattle.rules.proofs.Course.{room_of, Course, refusing, carrying, course}
use Rattle.rules.proofs.First.{gives_at, FirstHolds, NoneHolds, some_none, found, finds, nothing_holds, gives_nothing}

-- the rows are numbered from 1 to 14, in the order tested
pub numbered : (c : Command) (m : Room) → map (λ (w : Test Refusal). row w.gives) (rows c m) ≡ span 1 14
unfolding rows header front_rows segment_rows span
numbered c m = refl

span_value : (b n k v : ℕ) → slice_get (span b n) k ≡ Some v → (v ≡ b + k) × (k < n)
unfolding span
span_value b zero k v e = absurd (some_none (sym e))
span_value b (suc n) zero v e = let h : v ≡ b = cc in (omega arith, omega arith)
span_value b (suc n) (suc k) v e = let h = span_value (suc b) n k v e in (omega arith, omega arith)

row_value : (ts : List (Test Refusal)) (k : ℕ) (w : Refusal) → gives_at ts k ≡ Some w
    → slice_get (map (λ (t : Test Refusal). row t.gives) ts) k ≡ Some (row w)
row_value [] k w e = absurd (some_none (sym e))
row_value (t ∷ ts) zero w e = let h : t.gives ≡ w = cc in ap (λ (r : Refusal). Some (row r)) h
row_value (t ∷ ts) (suc k) w e = row_value ts k w e

-- the row at k refuses with the number k + 1, and there are 14 of them
pub number_at : (c : Command) (m : Room) (k : ℕ) (w : Refusal) → gives_at (rows c m) k ≡ Some w → (row w ≡ suc k) × (k < 14)
number_at c m k w e =
    let h = rw (numbered c m) at (row_value (rows c m) k w e) in
    let v = span_value 1 14 k (row w) h in
    (omega arith, v.1)

-- a verb that is carried out ends with 15, a READ that is short, or with 0
abbrev Short : Verb → (size : ℕ) → Answered → Type 0
Short v n a = (v ≡ Read) × (number a.answer.outcome ≡ 15) × (a.answer.count < n)

abbrev Full : Verb → (size : ℕ) → Answered → Type 0
Full v n a = (number a.answer.outcome ≡ 0) × (v ≡ Read → n ≤ a.answer.count)

ending : (v : Verb) (c : Command) (s i : Bytes) → Short v (length_of c.cdb) (carried v c s i) ⊎ Full v (length_of c.cdb) (carried v c s i)
unfolding carried read wrote cut
ending Read c s i = go (ltb (length d) (length_of c.cdb)) refl
  where
    d : Bytes
    d = gathered (object c s) (ranges c)

    go : (b : Bool) → ltb (length d) (length_of c.cdb) ≡ b
        → Short Read (length_of c.cdb) (carried Read c s i) ⊎ Full Read (length_of c.cdb) (carried Read c s i)
    go true h = inl (refl, rw h, ltb-true _ _ h)
    go false h = inr (rw h, λ q. ltb-false _ _ h)
ending Write c s i = inr (refl, λ q. absurd (false≢true (ap is_read q)))
ending Clear c s i = inr (refl, λ q. absurd (false≢true (ap is_read q)))
ending Punch c s i = inr (refl, λ q. absurd (false≢true (ap is_read q)))

abbrev pub number_of : Command → (slice input : Bytes) → ℕ
number_of c s i = number (answered c s i).answer.outcome

abbrev pub count_of : Command → (slice input : Bytes) → ℕ
count_of c s i = (answered c s i).answer.count

pub record Numbered (c : Command) (s i : Bytes) : Type 0 where
  -- each of 1 to 14 is given exactly when its row holds and none before it does
  pub refusals : (k : ℕ) → k < 14 → (number_of c s i ≡ suc k) ↔ FirstHolds (rows c (room_of s i)) k
  -- 15 exactly when a READ passes all and is short
  pub short : (number_of c s i ≡ 15) ↔ (NoneHolds (rows c (room_of s i)) × (verb c ≡ Some Read) × (count_of c s i < length_of c.cdb))
  -- else 0
  pub others : (number_of c s i ≡ 0) ↔ (NoneHolds (rows c (room_of s i)) × (verb c ≡ Some Read → length_of c.cdb ≤ count_of c s i))

refusing_numbered : (c : Command) (s i : Bytes) (w : Refusal) → refusal c (room_of s i) ≡ Some w → answered c s i ≡ refused w c s i → Numbered c s i
unfolding refused refusal
refusing_numbered c s i w e a =
    let ts = rows c (room_of s i) in
    let n : number_of c s i ≡ row w = ap (λ (x : Answered). number x.answer.outcome) a in
    let g = found ts w e in
    let v = number_at c (room_of s i) g.0 w g.2 in
    let held : NoneHolds ts → ⊥ = λ f. some_none (sym e ∙ gives_nothing ts f) in
    record {
      refusals =
          λ k l. (
            λ q. let same : g.0 ≡ k = omega arith in subst (λ (j : ℕ). FirstHolds ts j) same g.1,
            λ f. let r = number_at c (room_of s i) k w (sym (finds ts k f) ∙ e) in n ∙ r.0,
          );
      short = (λ q. absurd (omega arith), λ f. absurd (held f.0));
      others = (λ q. absurd (omega arith), λ f. absurd (held f.0));
    }

carrying_numbered : (c : Command) (s i : Bytes) (v : Verb) → refusal c (room_of s i) ≡ None → verb c ≡ Some v
    → answered c s i ≡ carried v c s i → Numbered c s i
unfolding refusal
carrying_numbered c s i v e h a = go (ending v c s i)
  where
    ts : List (Test Refusal)
    ts = rows c (room_of s i)

    n : number_of c s i ≡ number (carried v c s i).answer.outcome
    n = ap (λ (x : Answered). number x.answer.outcome) a

    k : count_of c s i ≡ (carried v c s i).answer.count
    k = ap (λ (x : Answered). x.answer.count) a

    none_holds : NoneHolds ts
    none_holds = nothing_holds ts e

    never : (j : ℕ) → FirstHolds ts j → ⊥
    never j f = true≢false (sym f.holds ∙ none_holds j)

    same : verb c ≡ Some Read → v ≡ Read
    same q = let e : Some v ≡ Some Read = sym h ∙ q in cc

    go : Short v (length_of c.cdb) (carried v c s i) ⊎ Full v (length_of c.cdb) (carried v c s i) → Numbered c s i
    go (inl f) =
        record {
          refusals = λ j l. (λ q. absurd (omega (arith, n, f.1)), λ g. absurd (never j g));
          short = (λ q. (none_holds, h ∙ ap Some f.0, omega (arith, k, f.2)), λ g. n ∙ f.1);
          others = (λ q. absurd (omega (arith, n, f.1)), λ g. absurd (omega (arith, k, f.2, g.1 (h ∙ ap Some f.0))));
        }
    go (inr f) =
        record {
          refusals = λ j l. (λ q. absurd (omega (arith, n, f.0)), λ g. absurd (never j g));
          short = (λ q. absurd (omega (arith, n, f.0)), λ g. absurd (omega (arith, k, g.2, f.1 (same g.1))));
          others = (λ q. (none_holds, λ r. omega (arith, k, f.1 (same r))), λ g. n ∙ f.0);
        }

pub law1 : (c : Command) (s i : Bytes) → Numbered c s i
law1 c s i = go (course c s i)
  where
    go : Course c s i → Numbered c s i
    go (refusing w e a) = refusing_numbered c s i w e a
    go (carrying v e h a) = carrying_numbered c s i v e h a

-- law 2
pub record Unchanged (c : Command) (s i : Bytes) (a : Answered) : Type 0 where
  pub count : a.answer.count ≡ 0
  pub next : a.answer.next ≡ c.on
  pub slice : a.slice ≡ s
  pub input : a.input ≡ i

pub refused_unchanged : (w : Refusal) (c : Command) (s i : Bytes) → Unchanged c s i (refused w c s i)
unfolding refused
refused_unchanged w c s i = record { count = refl; next = refl; slice = refl; input = refl }

pub law2 : (c : Command) (s i : Bytes) → 1 ≤ number_of c s i → number_of c s i ≤ 14 → Unchanged c s i (answered c s i)
law2 c s i low high = go (course c s i)
  where
    go : Course c s i → Unchanged c s i (answered c s i)
    go (refusing w e a) = rw a (refused_unchanged w c s i)
    go (carrying v e h a) =
        let n : number_of c s i ≡ number (carried v c s i).answer.outcome = ap (λ (x : Answered). number x.answer.outcome) a in
        ⊎_elim (λ f. absurd (omega (arith, n, f.1))) (λ f. absurd (omega (arith, n, f.0))) (ending v c s i)
