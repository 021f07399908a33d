-- The search over the extension's capabilities: the place of the first that passes a test, from its number.
use Rattle.std.specs.Prelude.{◌≡◌, ℕ, zero, suc, ◌+◌, ◌*◌, ◌/◌, Bool, true, false, cond, ◌&&◌, Option, Some}
use mathlib.Core.Path.{refl, ap, sym, ◌∙◌}
use native.Mathlib.Omega.{arith}
use Rattle.std.specs.List.{position, position_from}
use Rattle.std.proofs.lemmas.Iterator.Adapters.{position_from-zero}
use Rattle.std.specs.Option.{option_map}
use Rattle.rules.specs.declared.Part.{Part}
use Rattle.rules.specs.declared.Range.{Range}
use Rattle.rules.specs.Bytes.{Bytes, part}
use Rattle.rules.specs.Segment.{places_from}
use Rattle.rules.specs.Capability.{inside}
use Rattle.capability.specs.declared.Sought.{Sought}
use Rattle.capability.specs.Terms.{meets}
use Rattle.capability.specs.Sought.{admits_in}
use Rattle.capability.specs.Pieces.{pieces_from}
use Rattle.question.specs.declared.Place.{Place}
use Rattle.question.specs.declared.Place.TheVariants.{InOut}
use Rattle.question.specs.Places.{first_at, first_from}

-- the two tests in the other order
pub both : (inside matches : Bool) → (inside && matches) ≡ (matches && inside)
both true true = refl
both true false = refl
both false true = refl
both false false = refl

-- b is the answer of both tests together
pub tested : (w : Sought) (g : Range) (k : Bytes) (i m b : Bool) → i ≡ inside g k → m ≡ meets w k → b ≡ (i && m) → b ≡ admits_in w g k
unfolding admits_in
tested w g k i m b e f h = h ∙ rw (e, f) (both (inside g k) (meets w k))

-- the place of the capability that stands as number i from a place on
abbrev pub numbered : (at i : ℕ) → Place
numbered at i = InOut (at + 104 * i)

module _ (t : Bytes → Bool) (s : Bytes) where
  -- of those from number i on, which stand from `at` on
  places : (start n at i : ℕ) → at ≡ start + 104 * i
      → option_map (numbered start) (position_from t i (pieces_from s n at)) ≡ first_at t s (places_from n at)
  unfolding places_from first_at
  places start zero at i e = refl
  places start (suc n) at i e = go (t (part at 104 s)) (places start n (at + 104) (i + 1) (omega arith))
    where
      go : (b : Bool) → option_map (numbered start) (position_from t (i + 1) (pieces_from s n (at + 104))) ≡ first_at t s (places_from n (at + 104))
          → option_map (numbered start) (cond b (Some i) (position_from t (i + 1) (pieces_from s n (at + 104))))
          ≡ cond b (Some (InOut at)) (first_at t s (places_from n (at + 104)))
      go true r = ap (λ (x : ℕ). Some (InOut x)) (sym e)
      go false r = r

  -- r is the number that was found, o how it was taken apart
  pub place_found : (d : Part) (r o : Option ℕ) → r ≡ position t (pieces_from s (d.size / 104) d.at) → r ≡ o
      → option_map (numbered d.at) o ≡ first_from t s d
  unfolding first_from
  place_found d r o e is = rw (← is, e, position_from-zero t (pieces_from s (d.size / 104) d.at)) (places d.at (d.size / 104) d.at 0 (omega arith))

  -- the same, where one was found: the place at is that of number i
  pub place_found_at : (d : Part) (r : Option ℕ) (i : ℕ) → r ≡ position t (pieces_from s (d.size / 104) d.at) → r ≡ Some i → (at : ℕ)
      → at ≡ d.at + 104 * i → Some (InOut at) ≡ first_from t s d
  place_found_at d r i e is at h = ap (λ (x : ℕ). Some (InOut x)) h ∙ place_found d r (Some i) e is
