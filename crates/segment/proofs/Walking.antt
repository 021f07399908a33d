-- One step of the walk, case by case, and how steps make up the walk.
use Rattle.std.specs.Prelude.{Result, Ok, Err, Option, None, Some}
use Rattle.rules.specs.Segment.{fault, Walk, here, once, follow, walk_from}
use Prim.Native.Nat.{ℕ, ◌+◌, ◌≤◌, ◌<◌}
use mathlib.Core.Path.{◌≡◌, refl, ap, sym, ◌∙◌}
use native.Mathlib.Omega.{arith}
use lib.ListN.{length}
use Rattle.rules.specs.declared.Cause.{Cause}
use Rattle.rules.specs.declared.Cause.TheVariants.{Repeated}
use Rattle.rules.specs.declared.Part.{Part}
use Rattle.rules.specs.declared.Here.{Here}
use Rattle.rules.specs.declared.Here.TheVariants.{End, Entries, Extensions}
use Rattle.rules.specs.declared.Found.{Found}
use Rattle.rules.specs.Bytes.{Bytes}
use Rattle.rules.proofs.Segment.{list_here, extension_here, next_is, beyond, onward}
use Rattle.segment.specs.Step.{Step, to, unless_met, step_of, stepped}
use Rattle.std.specs.declared.ops.ControlFlow.TheVariants.{Continue, Break}
use Rattle.segment.specs.declared.Position.{Position}

module _ (s : Bytes) (p : Position) (h : Result Here Cause) (e : h ≡ here s p.at) where
  is : (k : Result Here Cause) → h ≡ k → here s p.at ≡ k
  is k q = sym e ∙ q

  pub ends : h ≡ Ok End → Break (Ok p.found) ≡ stepped s p
  unfolding stepped
  ends q = rw (is (Ok End) q)

  pub faults : (k : Cause) → h ≡ Err k → Break (Err (fault k p.at)) ≡ stepped s p
  unfolding stepped
  faults k q = rw (is (Err k) q)

  pub list_again : (d m : Part) → h ≡ Ok (Entries d) → p.found.list ≡ Some m → Break (Err (fault Repeated p.at)) ≡ stepped s p
  unfolding stepped
  list_again d m q l = rw (is (Ok (Entries d)) q, l)

  pub extension_again : (d m : Part) → h ≡ Ok (Extensions d) → p.found.extension ≡ Some m → Break (Err (fault Repeated p.at)) ≡ stepped s p
  unfolding stepped
  extension_again d m q l = rw (is (Ok (Extensions d)) q, l)

  pub list_on : (d : Part) → h ≡ Ok (Entries d) → p.found.list ≡ None
      → Continue (to (d.at + d.size) (record { list = Some d; extension = p.found.extension })) ≡ stepped s p
  unfolding stepped
  list_on d q l = rw (is (Ok (Entries d)) q, l, next_is (list_here s p.at d (is (Ok (Entries d)) q)))

  pub extension_on : (d : Part) → h ≡ Ok (Extensions d) → p.found.extension ≡ None
      → Continue (to (d.at + d.size) (record { list = p.found.list; extension = Some d })) ≡ stepped s p
  unfolding stepped
  extension_on d q l = rw (is (Ok (Extensions d)) q, l, next_is (extension_here s p.at d (is (Ok (Extensions d)) q)).0)

  pub list_ends : (d : Part) → h ≡ Ok (Entries d) → d.at + d.size ≤ length s
  list_ends d q = (list_here s p.at d (is (Ok (Entries d)) q)).inside

  pub extension_ends : (d : Part) → h ≡ Ok (Extensions d) → d.at + d.size ≤ length s
  extension_ends d q = (extension_here s p.at d (is (Ok (Extensions d)) q)).0.inside

-- a step, and then the walk
unfoldable pub run : Step → (ℕ → Found → Walk) → Walk
run (Break w) go = w
run (Continue p) go = go p.at p.found

once_met : (m : Option Part) (at : ℕ) (p : Position) (go : ℕ → Found → Walk) → once m at (go p.at p.found) ≡ run (unless_met m at (Continue p)) go
unfolding once run
once_met None at p go = refl
once_met (Some d) at p go = refl

pub follow_run : (h : Result Here Cause) (s : Bytes) (at : ℕ) (f : Found) (go : ℕ → Found → Walk) → follow h s at f go ≡ run (step_of h s at f) go
unfolding follow run
follow_run (Ok End) s at f go = refl
follow_run (Err k) s at f go = refl
follow_run (Ok (Entries d)) s at f go = once_met f.list at (to _ _) go
follow_run (Ok (Extensions d)) s at f go = once_met f.extension at (to _ _) go

-- the walk from a position on
abbrev pub walk_at : (most : ℕ) → Bytes → Position → Walk
walk_at most s p = walk_from most s p.at p.found

module _ (s : Bytes) (p : Position) (r : Step) (e : r ≡ stepped s p) where
  walk_run : walk_at (length s) s p ≡ run r (walk_from (length s) s)
  unfolding stepped
  walk_run =
      onward (length s) s p.at p.found (omega arith)
      ∙ follow_run (here s p.at) s p.at p.found (walk_from (length s) s)
      ∙ ap (λ (t : Step). run t (walk_from (length s) s)) (sym e)

  pub stops : (w : Walk) → r ≡ Break w → walk_at (length s) s p ≡ w
  unfolding run
  stops w q = walk_run ∙ ap (λ (t : Step). run t (walk_from (length s) s)) q

  pub goes_on : (n : Position) → r ≡ Continue n → walk_at (length s) s p ≡ walk_at (length s) s n
  unfolding run
  goes_on n q = walk_run ∙ ap (λ (t : Step). run t (walk_from (length s) s)) q

-- a walk that goes on has come further, and is still inside the segment
further : (m : Option Part) (at : ℕ) (p n : Position) → unless_met m at (Continue p) ≡ Continue n → p ≡ n
further None at p n q = cc
further (Some d) at p n q = cc

pub onwards : (s : Bytes) (p : Position) (r : Step) → r ≡ stepped s p → (n : Position) → r ≡ Continue n → (p.at < n.at) × (n.at ≤ length s)
unfolding stepped
onwards s p r e n q = cases (here s p.at) refl (sym e ∙ q)
  where
    at : Position → ℕ
    at m = m.at

    cases : (h : Result Here Cause) → here s p.at ≡ h → step_of h s p.at p.found ≡ Continue n → (p.at < n.at) × (n.at ≤ length s)
    cases (Ok End) w g = let z : ◌≡◌ {A = ℕ} 0 1 = cc in absurd (omega arith)
    cases (Err k) w g = let z : ◌≡◌ {A = ℕ} 0 1 = cc in absurd (omega arith)
    cases (Ok (Entries d)) w g =
        let l = list_here s p.at d w in
        let o = ap at (further p.found.list p.at (to _ _) n g) in
        (omega (arith, o, beyond s p.at), omega (arith, o, next_is l, l.inside))
    cases (Ok (Extensions d)) w g =
        let l = (extension_here s p.at d w).0 in
        let o = ap at (further p.found.extension p.at (to _ _) n g) in
        (omega (arith, o, beyond s p.at), omega (arith, o, next_is l, l.inside))

-- what `segment::step_from` meets its contract by, and `segment::walk_over`
pub ruleset stepping = (ends, faults, list_again, extension_again, list_on, extension_on, list_ends, extension_ends)

pub ruleset walking = (stops, goes_on, onwards)
