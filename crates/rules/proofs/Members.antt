-- Tests of a list's elements, read by its members.
use Rattle.std.specs.Prelude.{is_some, Option, Some}
use mathlib.Core.Path.{◌≡◌, refl, sym, ◌∙◌}
use mathlib.Core.Bool.{Bool, true, false, cond, ◌||◌, false≢true, or-true}
use mathlib.Core.List.{List, [], ◌∷◌, map, Memᴰ}
use Rattle.rules.specs.Bytes.{any, all}
use Rattle.rules.specs.Tests.{test, first_of}
use Rattle.rules.proofs.Booleans.{or_right, and_true_parts, fails}

module _ {ℓ} {X : Type ℓ} (f : X → Bool) where
  -- a member that passes
  pub any_of : {x : X} (xs : List X) → Memᴰ x xs → f x ≡ true → any f xs ≡ true
  unfolding any
  any_of [] x3 h = elim x3 [ ]
  any_of (y ∷ xs) (Memᴰ.head e) h = rw (← e, h)
  any_of (y ∷ xs) (Memᴰ.tail m) h = rw (any_of xs m h) (or-true (f y))

  pub none_of : {x : X} (xs : List X) → Memᴰ x xs → any f xs ≡ false → f x ≡ false
  none_of {x} xs m n = fails (f x) (λ h. false≢true (sym n ∙ any_of xs m h))

  pub any_found : (xs : List X) → any f xs ≡ true → (x : X) × Memᴰ x xs × (f x ≡ true)
  unfolding any
  any_found [] h = absurd (false≢true h)
  any_found (y ∷ xs) h = go (f y) refl (any_found xs)
    where
      go : (b : Bool) → f y ≡ b → (any f xs ≡ true → (x : X) × Memᴰ x xs × (f x ≡ true)) → (x : X) × Memᴰ x (y ∷ xs) × (f x ≡ true)
      go true e rec = (y, Memᴰ.head refl, e)
      go false e rec = let r = rec (or_right _ _ h e) in (r.0, Memᴰ.tail r.1, r.2)

  pub all_of : {x : X} (xs : List X) → Memᴰ x xs → all f xs ≡ true → f x ≡ true
  unfolding all
  all_of [] x3 h = elim x3 [ ]
  all_of (y ∷ xs) (Memᴰ.head e) h = rw e (and_true_parts (f y) _ h).0
  all_of (y ∷ xs) (Memᴰ.tail m) h = all_of xs m (and_true_parts (f y) _ h).1

-- a table of one test for each element gives something if an element passes its test
pub some_passes : {X : Type 0} (f : X → Bool) (xs : List X) → is_some (first_of (map (λ (x : X). test x (f x)) xs)) ≡ any f xs
unfolding any first_of
some_passes f [] = refl
some_passes {X} f (x ∷ xs) = go (f x) (some_passes f xs)
  where
    later : Option X
    later = first_of (map (λ (x : X). test x (f x)) xs)

    go : (b : Bool) → is_some later ≡ any f xs → is_some (cond b (Some x) later) ≡ (b || any f xs)
    go true e = refl
    go false e = e
