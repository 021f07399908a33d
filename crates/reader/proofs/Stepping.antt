-- What the walk meets at a position, and where some steps come to, by one step of the walk.
use Rattle.std.specs.Prelude.{Result, Ok, Err, Option, None, Some}
use Rattle.rules.specs.Segment.{fault, Walk, here}
use Rattle.rules.specs.declared.Part.{Part}
use Prim.Native.Nat.{ℕ, zero, suc, ◌-◌, ◌≤◌, ◌<◌}
use mathlib.Core.Path.{◌≡◌, refl, sym, ap, ◌∙◌}
use native.Mathlib.Omega.{arith}
use Rattle.rules.specs.declared.Cause.{Cause}
use Rattle.rules.specs.declared.Here.{Here}
use Rattle.rules.specs.declared.Here.TheVariants.{End, Entries, Extensions}
use Rattle.rules.specs.declared.Found.{Found}
use Rattle.rules.specs.declared.Fault.{Fault}
use Rattle.rules.specs.Bytes.{Bytes}
use Rattle.segment.specs.Step.{Step, to, unless_met, step_of, stepped}
use Rattle.std.specs.declared.ops.ControlFlow.TheVariants.{Continue, Break}
use Rattle.segment.specs.declared.Position.{Position}
use Rattle.reader.specs.Position.{newly, met_by, met, passed, after}

-- what a step says of what stands where it was taken
abbrev pub told : Step → Result Here Cause → Result Here Cause
told (Break (Ok f)) h = Ok End
told (Break (Err e)) h = Err e.cause
told (Continue q) h = h

told_newly : (m : Option Part) (at : ℕ) (q : Position) (h : Result Here Cause) → told (unless_met m at (Continue q)) h ≡ newly m h
told_newly None at q h = refl
told_newly (Some d) at q h = refl

told_met : (h : Result Here Cause) (s : Bytes) (at : ℕ) (f : Found) → told (step_of h s at f) h ≡ met_by f h
told_met (Ok End) s at f = refl
told_met (Err c) s at f = refl
told_met (Ok (Entries d)) s at f = told_newly f.list at (to _ _) (Ok (Entries d))
told_met (Ok (Extensions d)) s at f = told_newly f.extension at (to _ _) (Ok (Extensions d))

pub no_more : (n : ℕ) (s : Bytes) (p : Position) → n ≤ 0 → after n s p ≡ p
unfolding after
no_more zero s p h = refl
no_more (suc n) s p h = absurd (omega arith)

module _ (s : Bytes) (p : Position) (r : Step) (e : r ≡ stepped s p) where
  pub met_told : told r (here s p.at) ≡ met s p
  unfolding met stepped
  met_told = ap (λ (t : Step). told t (here s p.at)) e ∙ told_met (here s p.at) s p.at p.found

  told_by : (t : Step) → r ≡ t → told t (here s p.at) ≡ met s p
  told_by t q = ap (λ (t : Step). told t (here s p.at)) (sym q) ∙ met_told

  -- what is met where the walk ends, where it is broken off, and where it goes on
  pub ending : (f : Found) → r ≡ Break (Ok f) → Ok End ≡ met s p
  ending f q = told_by (Break (Ok f)) q

  pub failing : (e : Fault) → r ≡ Break (Err e) → Err e.cause ≡ met s p
  failing e q = told_by (Break (Err e)) q

  pub going : (n : Position) → r ≡ Continue n → (h : Result Here Cause) → h ≡ here s p.at → h ≡ met s p
  going n q h g = g ∙ told_by (Continue n) q

  -- where the walk stops the position stays, and where it goes on the steps that are left are taken from there
  pub stays : (w : Walk) → r ≡ Break w → (n : ℕ) → after n s p ≡ p
  unfolding after
  stays w q zero = refl
  stays w q (suc n) = ap (λ (t : Step). after n s (passed p t)) (sym e ∙ q) ∙ stays w q n

  pub moves : (m : Position) → r ≡ Continue m → (n : ℕ) → after (suc n) s p ≡ after n s m
  unfolding after
  moves m q n = ap (λ (t : Step). after n s (passed p t)) (sym e ∙ q)

  pub goes : (m : Position) → r ≡ Continue m → (n k : ℕ) → n ≡ suc k → after n s p ≡ after k s m
  goes m q n k l = ap (λ (i : ℕ). after i s p) l ∙ moves m q k

-- what `reader::met_at` meets its contract by
pub ruleset meeting = (ending, failing, going)
