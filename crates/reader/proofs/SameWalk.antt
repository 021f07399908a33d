-- The law of the reader: n steps of it are n steps of the book's walk.
-- `n_steps` says so of the walk over a stated number of descriptors. `the_rest` says that what is left from where n steps come to is the whole walk.
-- `in_two_goes` and `goes_by_met` say what steps one at a time come to.
-- From these: the same end and the same first fault, met by the reader (`same_end`, `same_fault`) and by the walk (`reaches_end`,
-- `reaches_fault`), and the same descriptors in order (`list_stands`, `extension_stands`).
use Rattle.std.specs.Prelude.{Result, Ok, Err, Option, None, Some}
use Rattle.rules.specs.Segment.{fault, Walk, here, next, walk_from, walk}
use Prim.Native.Nat.{ℕ, zero, suc, ◌+◌, ◌≤◌}
use mathlib.Core.Path.{◌≡◌, refl, sym, ap, subst, ◌∙◌}
use native.Mathlib.Omega.{arith}
use lib.ListN.{length}
use Rattle.rules.specs.declared.Cause.{Cause}
use Rattle.rules.specs.declared.Part.{Part}
use Rattle.rules.specs.declared.Here.{Here}
use Rattle.rules.specs.declared.Here.TheVariants.{End, Entries, Extensions}
use Rattle.rules.specs.declared.Found.{Found}
use Rattle.rules.specs.declared.Fault.{Fault}
use Rattle.rules.specs.Bytes.{Bytes}
use Rattle.segment.specs.Step.{Step, start, to, unless_met, step_of, stepped}
use Rattle.std.specs.declared.ops.ControlFlow.TheVariants.{Continue, Break}
use Rattle.segment.proofs.Walking.{walk_at, run, follow_run, stops, goes_on, onwards}
use Rattle.segment.specs.declared.Position.{Position}
use Rattle.reader.specs.Position.{newly, met_by, met, passed, after, behind}
use Rattle.reader.proofs.Stepping.{stays, moves}

-- the walk's step at a position, and the walk over at most so many descriptors from there
abbrev step_at : Bytes → Position → Step
step_at s p = stepped s p

-- What holds of no step, of a position where the walk stops, and of one more step where it goes on, holds of every number of steps n,
-- the position p where they begin and the one where they come to.
by_steps : (s : Bytes) (Q : ℕ → Position → Position → Type 0)
    → ((p : Position) → Q zero p p)
    → ((n : ℕ) (p : Position) (w : Walk) → step_at s p ≡ Break w → Q (suc n) p p)
    → ((n : ℕ) (p q m : Position) → step_at s p ≡ Continue m → Q n m q → Q (suc n) p q)
    → (n : ℕ) (p : Position) → Q n p (after n s p)
unfolding after
by_steps s Q none stop on zero p = none p
by_steps s Q none stop on (suc n) p = cases (step_at s p) refl (λ m. by_steps s Q none stop on n m)
  where
    cases : (r : Step) → r ≡ step_at s p → ((m : Position) → Q n m (after n s m)) → Q (suc n) p (after (suc n) s p)
    cases (Break w) e more = subst (Q (suc n) p) (sym (stays s p (Break w) e w refl (suc n))) (stop n p w (sym e))
    cases (Continue m) e more = subst (Q (suc n) p) (sym (moves s p (Continue m) e m refl n)) (on n p _ m (sym e) (more m))

-- ---- n steps are n steps

one_step : (m : ℕ) (s : Bytes) (p : Position) (r : Step) → step_at s p ≡ r → walk_at (suc m) s p ≡ run r (walk_from m s)
unfolding walk_from stepped
one_step m s p r e = follow_run (here s p.at) s p.at p.found (walk_from m s) ∙ ap (λ (t : Step). run t (walk_from m s)) e

-- the walk over n descriptors and then over one or more is n steps of the reader, and then the walk over those
pub n_steps : (n m : ℕ) (s : Bytes) (p : Position) → walk_at (n + suc m) s p ≡ walk_at (suc m) s (after n s p)
unfolding run
n_steps n m s p =
    by_steps s (λ n p q. walk_at (n + suc m) s p ≡ walk_at (suc m) s q)
    (λ p. ap (λ (k : ℕ). walk_at k s p) (omega arith))
    (λ n p w e. ap (λ (k : ℕ). walk_at k s p) (omega arith) ∙ one_step (n + suc m) s p (Break w) e ∙ sym (one_step m s p (Break w) e))
    (λ n p q k e h. ap (λ (k : ℕ). walk_at k s p) (omega arith) ∙ one_step (n + suc m) s p (Continue k) e ∙ h)
    n p

-- steps that are taken in two goes come to where they come to at once
pub in_two_goes : (m n : ℕ) (s : Bytes) (p : Position) → after (m + n) s p ≡ after n s (after m s p)
in_two_goes m n s p =
    by_steps s (λ m p q. after (m + n) s p ≡ after n s q)
    (λ p. ap (λ (k : ℕ). after k s p) (omega arith))
    (λ m p w e. stays s p (Break w) (sym e) w refl (suc m + n) ∙ sym (stays s p (Break w) (sym e) w refl n))
    (λ m p q k e h. ap (λ (k : ℕ). after k s p) (omega arith) ∙ moves s p (Continue k) (sym e) k refl (m + n) ∙ h)
    m p

-- what is left of the walk from there on is the whole walk
rest_from : (n : ℕ) (s : Bytes) (p : Position) → walk_at (length s) s (after n s p) ≡ walk_at (length s) s p
rest_from n s p =
    by_steps s (λ n p q. walk_at (length s) s q ≡ walk_at (length s) s p)
    (λ p. refl)
    (λ n p w e. refl)
    (λ n p q m e h. h ∙ sym (goes_on s p (Continue m) (sym e) m refl))
    n p

pub the_rest : (n : ℕ) (s : Bytes) → walk_at (length s) s (after n s start) ≡ walk s
unfolding walk
the_rest n s = rest_from n s start

-- ---- what the reader meets is the walk's step

abbrev pub step_by : Result Here Cause → Bytes → Position → Step
step_by (Ok End) s p = Break (Ok p.found)
step_by (Err c) s p = Break (Err (fault c p.at))
step_by (Ok (Entries d)) s p = Continue (to (next s p.at) (record { list = Some d; extension = p.found.extension }))
step_by (Ok (Extensions d)) s p = Continue (to (next s p.at) (record { list = p.found.list; extension = Some d }))

pub step_met : (s : Bytes) (p : Position) → step_at s p ≡ step_by (met s p) s p
unfolding met stepped
step_met s p = cases (here s p.at)
  where
    list : (m : Option Part) (d : Part) → unless_met m p.at (step_by (Ok (Entries d)) s p) ≡ step_by (newly m (Ok (Entries d))) s p
    list None d = refl
    list (Some x) d = refl

    extension : (m : Option Part) (d : Part) → unless_met m p.at (step_by (Ok (Extensions d)) s p) ≡ step_by (newly m (Ok (Extensions d))) s p
    extension None d = refl
    extension (Some x) d = refl

    cases : (h : Result Here Cause) → step_of h s p.at p.found ≡ step_by (met_by p.found h) s p
    cases (Ok End) = refl
    cases (Err c) = refl
    cases (Ok (Entries d)) = list p.found.list d
    cases (Ok (Extensions d)) = extension p.found.extension d

-- so one step goes where what is met says: behind a descriptor, with its data among what is found; it stays before the end and before a fault
pub goes_by_met : (s : Bytes) (p : Position) → after 1 s p ≡ passed p (step_by (met s p) s p)
unfolding after
goes_by_met s p = ap (passed p) (step_met s p)

-- and what a step says of what was met
says_whole : (h : Result Here Cause) (s : Bytes) (p : Position) (f : Found) → step_by h s p ≡ Break (Ok f) → (h ≡ Ok End) × (p.found ≡ f)
says_whole (Ok End) s p f q = (refl, cc)
says_whole (Err c) s p f q = let z : ◌≡◌ {A = ℕ} 0 1 = cc in absurd (omega arith)
says_whole (Ok (Entries d)) s p f q = let z : ◌≡◌ {A = ℕ} 0 1 = cc in absurd (omega arith)
says_whole (Ok (Extensions d)) s p f q = let z : ◌≡◌ {A = ℕ} 0 1 = cc in absurd (omega arith)

says_broken : (h : Result Here Cause) (s : Bytes) (p : Position) (c : Cause) (at : ℕ) → step_by h s p ≡ Break (Err (fault c at)) → (h ≡ Err c) × (p.at ≡ at)
says_broken (Ok End) s p c at q = let z : ◌≡◌ {A = ℕ} 0 1 = cc in absurd (omega arith)
says_broken (Err k) s p c at q =
    let e : fault c at ≡ fault k p.at = cc in
    let told : c ≡ k = ap (λ (f : Fault). f.cause) e in
    (ap Err (sym told), ap (λ (f : Fault). f.at) (sym e))
says_broken (Ok (Entries d)) s p c at q = let z : ◌≡◌ {A = ℕ} 0 1 = cc in absurd (omega arith)
says_broken (Ok (Extensions d)) s p c at q = let z : ◌≡◌ {A = ℕ} 0 1 = cc in absurd (omega arith)

says_on : (h : Result Here Cause) (s : Bytes) (p : Position) (m : Position) → step_by h s p ≡ Continue m → m.at ≡ next s p.at
says_on (Ok End) s p m q = let z : ◌≡◌ {A = ℕ} 0 1 = cc in absurd (omega arith)
says_on (Err c) s p m q = let z : ◌≡◌ {A = ℕ} 0 1 = cc in absurd (omega arith)
says_on (Ok (Entries d)) s p m q =
    let e : to (next s p.at) (record { list = Some d; extension = p.found.extension }) ≡ m = cc in
    ap (λ (k : Position). k.at) (sym e)
says_on (Ok (Extensions d)) s p m q =
    let e : to (next s p.at) (record { list = p.found.list; extension = Some d }) ≡ m = cc in
    ap (λ (k : Position). k.at) (sym e)

met_so : (s : Bytes) (p : Position) (h : Result Here Cause) → met s p ≡ h → step_at s p ≡ step_by h s p
met_so s p h q = step_met s p ∙ ap (λ (k : Result Here Cause). step_by k s p) q

-- ---- the same end, and the same first fault with where it stands

stops_so : (n : ℕ) (s : Bytes) (w : Walk) → step_at s (after n s start) ≡ Break w → walk s ≡ w
stops_so n s w q = let p : Position = after n s start in sym (the_rest n s) ∙ stops s p (step_at s p) refl w q

pub same_end : (n : ℕ) (s : Bytes) → met s (after n s start) ≡ Ok End → walk s ≡ Ok (after n s start).found
same_end n s q = stops_so n s _ (met_so s (after n s start) (Ok End) q)

pub same_fault : (n : ℕ) (s : Bytes) (c : Cause) → met s (after n s start) ≡ Err c → walk s ≡ Err (fault c (after n s start).at)
same_fault n s c q = stops_so n s _ (met_so s (after n s start) (Err c) q)

-- A step that goes on comes further and stays inside the segment. So as many steps as there are bytes left come to where the walk stops.
record Stops (s : Bytes) (p : Position) : Type 0 where
  outcome : Walk
  stands : step_at s p ≡ Break outcome

at_the_end : (s : Bytes) (p : Position) → length s ≤ p.at → Stops s p
at_the_end s p h = cases (step_at s p) refl
  where
    cases : (r : Step) → r ≡ step_at s p → Stops s p
    cases (Break w) e = record { outcome = w; stands = sym e }
    cases (Continue m) e = let o = onwards s p (Continue m) e m refl in absurd (omega arith)

comes_to_stop : (n : ℕ) (s : Bytes) (p : Position) → length s ≤ p.at + n → Stops s (after n s p)
comes_to_stop n s p =
    by_steps s (λ n p q. length s ≤ p.at + n → Stops s q)
    (λ p h. at_the_end s p (omega arith))
    (λ n p w e h. record { outcome = w; stands = e })
    (λ n p q m e more h. more (omega (arith, (onwards s p (Continue m) (sym e) m refl).0)))
    n p

-- where the reader comes to in as many steps as the segment has bytes
abbrev pub last : Bytes → Position
last s = after (length s) s start

last_stops : (s : Bytes) → step_at s (last s) ≡ Break (walk s)
last_stops s =
    let t = comes_to_stop (length s) s start (omega arith) in
    t.stands ∙ ap Break (sym (stops_so (length s) s t.outcome t.stands))

pub reaches_end : (s : Bytes) (f : Found) → walk s ≡ Ok f → (met s (last s) ≡ Ok End) × ((last s).found ≡ f)
reaches_end s f q = says_whole (met s (last s)) s (last s) f (sym (step_met s (last s)) ∙ last_stops s ∙ ap Break q)

pub reaches_fault : (s : Bytes) (c : Cause) (at : ℕ) → walk s ≡ Err (fault c at) → (met s (last s) ≡ Err c) × ((last s).at ≡ at)
reaches_fault s c at q = says_broken (met s (last s)) s (last s) c at (sym (step_met s (last s)) ∙ last_stops s ∙ ap Break q)

-- ---- the same descriptors in order

-- a reader that still goes on after n steps has passed n descriptors
passes : (n : ℕ) (s : Bytes) (p m : Position) → step_at s (after n s p) ≡ Continue m → (after n s p).at ≡ behind n s p.at
unfolding behind
passes n s p =
    by_steps s (λ n p q. (m : Position) → step_at s q ≡ Continue m → q.at ≡ behind n s p.at)
    (λ p m q. refl)
    (λ n p w e m q. (let z : ◌≡◌ {A = ℕ} 0 1 = cc in absurd (omega arith)))
    (λ n p q m e h k f. h k f ∙ ap (behind n s) (says_on (met s p) s p m (sym (step_met s p) ∙ e)))
    n p

-- what is met is what stands there, where it is no fault
pub record Stands (n : ℕ) (s : Bytes) (h : Result Here Cause) : Type 0 where
  pub at : (after n s start).at ≡ behind n s 40
  pub is : here s (behind n s 40) ≡ h

unfaulted : (f : Found) (k h : Result Here Cause) → met_by f k ≡ h → ((c : Cause) → h ≡ Err c → ⊥) → k ≡ h
unfaulted f (Ok End) h q sound = q
unfaulted f (Err c) h q sound = q
unfaulted f (Ok (Entries d)) h q sound = cases f.list q
  where
    cases : (m : Option Part) → newly m (Ok (Entries d)) ≡ h → Ok (Entries d) ≡ h
    cases None e = e
    cases (Some x) e = absurd (sound _ (sym e))
unfaulted f (Ok (Extensions d)) h q sound = cases f.extension q
  where
    cases : (m : Option Part) → newly m (Ok (Extensions d)) ≡ h → Ok (Extensions d) ≡ h
    cases None e = e
    cases (Some x) e = absurd (sound _ (sym e))

stands : (n : ℕ) (s : Bytes) (h : Result Here Cause) (k : Position) → met s (after n s start) ≡ h → step_at s (after n s start) ≡ Continue k
    → ((c : Cause) → h ≡ Err c → ⊥) → Stands n s h
unfolding met
stands n s h g m q sound =
    let p : Position = after n s start in
    let k : p.at ≡ behind n s 40 = passes n s start g q in
    record { at = k; is = ap (here s) (sym k) ∙ unfaulted p.found (here s p.at) h m sound }

pub list_stands : (n : ℕ) (s : Bytes) (d : Part) → met s (after n s start) ≡ Ok (Entries d) → Stands n s (Ok (Entries d))
list_stands n s d m = stands n s (Ok (Entries d)) _ m (met_so s (after n s start) (Ok (Entries d)) m) (λ c e. (let z : ◌≡◌ {A = ℕ} 0 1 = cc in omega arith))

pub extension_stands : (n : ℕ) (s : Bytes) (d : Part) → met s (after n s start) ≡ Ok (Extensions d) → Stands n s (Ok (Extensions d))
extension_stands n s d m =
    stands n s (Ok (Extensions d)) _ m (met_so s (after n s start) (Ok (Extensions d)) m)
    (λ c e. (let z : ◌≡◌ {A = ℕ} 0 1 = cc in omega arith))
