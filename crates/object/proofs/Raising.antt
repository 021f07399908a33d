-- One range that raises the length: it hides what was zeroed under it, so only the gap in front of it need be.
use Prim.Native.Nat.{ℕ, ◌+◌, ◌-◌, ◌≤◌, ◌<◌, max}
use mathlib.Core.Path.{◌≡◌, sym, ◌∙◌}
use mathlib.Core.Bool.{false}
use lib.Dec.{eqb}
use mathlib.Core.Logic.{◌⊎◌, inl, inr, ⊎_elim}
use mathlib.Core.List.{[], ◌∷◌}
use native.Mathlib.Nat.{add-sub_of_le}
use native.Mathlib.Omega.{arith}
use lib.ListN.{length}
use lib.Seq.{ext_get_or, take_all, length-take-le}
use Rattle.std.proofs.lemmas.List.{take-replicate}
use borrow.Author.Tests.{eq-eqb, ne_eqb}
use Rattle.rules.specs.declared.Range.{Range}
use Rattle.rules.specs.Bytes.{Bytes, byte, laid}
use Rattle.rules.specs.Ranges.{end, reach}
use Rattle.rules.specs.Object.{grown}
use Rattle.object.specs.Gap.{grown_up_to}
use Rattle.rules.proofs.Booleans.{lt_or_le}
use Rattle.rules.proofs.Laying.{length_zeros}
use Rattle.rules.proofs.Lists.{laid_nothing, laid_length, laid_below, laid_within, laid_above}
use Rattle.rules.proofs.Write.{grown_length, grown_zero, grown_other}

-- two slices that agree around the bytes laid
pub laid_hides : (at : ℕ) (d a b : Bytes) → at + length d ≤ length a → length a ≡ length b
    → ((p : ℕ) → p < at ⊎ at + length d ≤ p → byte p a ≡ byte p b) → laid at d a ≡ laid at d b
laid_hides at d a b fits e around =
    ext_get_or 0 (laid at d a) (laid at d b) (laid_length at d a fits ∙ e ∙ sym (laid_length at d b (rw (← e) fits)))
    (λ p h. ⊎_elim (below p) (λ (k : at ≤ p). ⊎_elim (within p k) (above p) (lt_or_le p (at + length d))) (lt_or_le p at))
  where
    fits' : at + length d ≤ length b
    fits' = rw (← e) fits

    below : (p : ℕ) → p < at → byte p (laid at d a) ≡ byte p (laid at d b)
    below p k = laid_below at d a p (omega arith) k ∙ around p (inl k) ∙ sym (laid_below at d b p (omega (arith, fits')) k)

    above : (p : ℕ) → at + length d ≤ p → byte p (laid at d a) ≡ byte p (laid at d b)
    above p k = laid_above at d a p (omega arith) k ∙ around p (inr k) ∙ sym (laid_above at d b p (omega (arith, fits')) k)

    within : (p : ℕ) → at ≤ p → p < at + length d → byte p (laid at d a) ≡ byte p (laid at d b)
    within p k l =
        let back : at + (p - at) ≡ p = add-sub_of_le k in
        rw (← back) (laid_within at d a (p - at) (omega arith) (omega arith) ∙ sym (laid_within at d b (p - at) (omega (arith, fits')) (omega arith)))

module _ (n : ℕ) (g : Range) (s : Bytes) (room : reach n (g ∷ []) ≤ length s) where
  empty : g.size ≡ 0 → (grown_up_to n g s ≡ s) × (grown n (reach n (g ∷ [])) s ≡ s)
  unfolding grown_up_to reach grown
  empty e =
      let none : n - n ≡ 0 = omega arith in
      let is = eq-eqb g.size 0 e in
      (rw is, rw (is, none, laid_nothing n s))

  module _ (full : 0 < g.size) where
    is_full : eqb g.size 0 ≡ false
    is_full = ne_eqb g.size 0 (omega arith)

    reached : reach n (g ∷ []) ≡ max n (end g)
    unfolding reach
    reached = rw is_full

    opened : grown_up_to n g s ≡ grown n (max n g.start) s
    unfolding grown_up_to
    opened = rw is_full

    inside : max n (end g) ≤ length s
    inside = rw (← reached) room

    low : max n g.start ≤ length s
    low = omega (arith, inside)

    around : (p : ℕ) → p < g.start ⊎ g.start + g.size ≤ p → byte p (grown n (max n g.start) s) ≡ byte p (grown n (max n (end g)) s)
    around p out = ⊎_elim old new (lt_or_le p n)
      where
        old : p < n → byte p (grown n (max n g.start) s) ≡ byte p (grown n (max n (end g)) s)
        old h = grown_other n _ s (omega arith) low p (inl h) ∙ sym (grown_other n _ s (omega arith) inside p (inl h))

        new : n ≤ p → byte p (grown n (max n g.start) s) ≡ byte p (grown n (max n (end g)) s)
        new h =
            ⊎_elim
            (λ (k : p < g.start). grown_zero n _ s (omega arith) low p h (omega arith) ∙ sym (grown_zero n _ s (omega arith) inside p h (omega arith)))
            (λ (k : g.start + g.size ≤ p). grown_other n _ s (omega arith) low p (inr (omega arith))
            ∙ sym (grown_other n _ s (omega arith) inside p (inr (omega arith))))
            out

    long : length (grown_up_to n g s) ≡ length s
    long = rw opened (grown_length n (max n g.start) s (omega arith) low)

    pub fill_asks : g.start + g.size ≤ length (grown_up_to n g s)
    fill_asks = rw long (omega (arith, inside))

    hidden : (d : Bytes) → length d ≡ g.size → laid g.start d (grown_up_to n g s) ≡ laid g.start d (grown n (reach n (g ∷ [])) s)
    hidden d l =
        let high = grown_length n (max n (end g)) s (omega arith) inside in
        rw reached
        (laid_hides g.start d _ _ (rw l fill_asks) (long ∙ sym high) (λ p out. rw opened (around p (rw l at out))))

  -- the range itself is filled
  pub filled : (d : Bytes) → length d ≡ g.size → laid g.start d (grown_up_to n g s) ≡ laid g.start d (grown n (reach n (g ∷ [])) s)
  filled d l = ⊎_elim (λ (f : 0 < g.size). hidden f d l) (λ (z : g.size ≤ 0). rw ((empty (omega arith)).0, (empty (omega arith)).1)) (lt_or_le 0 g.size)

-- what `object::write_range` and `object::clear_range` meet their contracts by
pub ruleset raising = (length_zeros, take-replicate, length-take-le, fill_asks, filled)
