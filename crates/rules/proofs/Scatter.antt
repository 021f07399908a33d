-- Ranges filled from d: each position of a range gets its byte of d, and no other byte changes.
use Prim.Native.Nat.{ℕ, ◌+◌, ◌≤◌, ◌<◌, max}
use mathlib.Core.Path.{◌≡◌, refl, sym, ap, ◌∙◌}
use mathlib.Core.Logic.{⊎_elim}
use mathlib.Core.Bool.{Bool, true, false, cond}
use mathlib.Core.List.Memᴰ
use mathlib.Core.List.{List, [], ◌∷◌}
use native.Mathlib.Nat.{eq-zero-or-pos}
use native.Mathlib.Omega.{arith}
use lib.Dec.{eqb}
use lib.ListN.{length, take, drop, get_or, length-drop}
use lib.Seq.{length-take-le, get_or-take, get_or-drop}
use borrow.Author.Tests.{eqb-true}
use Rattle.rules.specs.declared.Range.{Range}
use Rattle.rules.specs.Bytes.{Bytes, byte, laid, any}
use Rattle.rules.specs.Ranges.{end, total, meet, overlapping, reach, span, positions, covered}
use Rattle.rules.specs.Object.{scattered}
use Rattle.rules.proofs.Lists.{laid_nothing, laid_length, laid_below, laid_within, laid_above}
use Rattle.rules.proofs.Positions.{Of, covered_empty, outside_cases, positions_length, Inside, Later, uncovered_here, uncovered_later}
use Rattle.rules.proofs.Positions.{inside_ends, inside_later, position_here, position_later, place_cases, apart, apart_parts}

-- ---- one range

-- the slice with the range g filled from d
abbrev pub filled : Bytes → Range → (d : Bytes) → Bytes
filled s g d = laid g.start (take g.size d) s

pub filled_empty : (s : Bytes) (g : Range) (d : Bytes) → g.size ≡ 0 → filled s g d ≡ s
filled_empty s g d e = rw e (laid_nothing g.start s)

module _ (s : Bytes) (g : Range) (d : Bytes) (fits : 0 < g.size → end g ≤ length s) (enough : g.size ≤ length d) where
  taken : length (take g.size d) ≡ g.size
  taken = length-take-le g.size d enough

  filled_length : length (filled s g d) ≡ length s
  filled_length = ⊎_elim empty full (eq-zero-or-pos g.size)
    where
      empty : g.size ≡ 0 → length (filled s g d) ≡ length s
      empty e = ap length (filled_empty s g d e)

      full : 0 < g.size → length (filled s g d) ≡ length s
      full h = laid_length g.start (take g.size d) s (rw taken (fits h))

  filled_outside : (p : ℕ) → (Of g p → ⊥) → byte p (filled s g d) ≡ byte p s
  filled_outside p out = ⊎_elim empty full (eq-zero-or-pos g.size)
    where
      empty : g.size ≡ 0 → byte p (filled s g d) ≡ byte p s
      empty e = ap (byte p) (filled_empty s g d e)

      full : 0 < g.size → byte p (filled s g d) ≡ byte p s
      full h =
          let ends : end g ≤ length s = fits h in
          ⊎_elim
          (λ (before : p < g.start). laid_below g.start (take g.size d) s p (omega arith) before)
          (λ (after : end g ≤ p). laid_above g.start (take g.size d) s p (omega arith) (rw taken after))
          (outside_cases g p out)

  filled_within : (k : ℕ) → k < g.size → byte (g.start + k) (filled s g d) ≡ byte k d
  filled_within k h =
      let ends : end g ≤ length s = fits (omega arith) in
      laid_within g.start (take g.size d) s k (omega arith) (rw taken h) ∙ get_or-take g.size d k 0 h

-- ---- a list of ranges

-- every position of the ranges is in the slice, and d has a byte for each
pub record Ready (s : Bytes) (gs : List Range) (d : Bytes) : Type 0 where
  pub inside : Inside (length s) gs
  pub enough : total gs ≤ length d

module _ (s : Bytes) (g : Range) (gs : List Range) (d : Bytes) (ready : Ready s (g ∷ gs) d) where
  fits : 0 < g.size → end g ≤ length s
  fits = inside_ends (length s) (g ∷ gs) ready.inside g (Memᴰ.head refl)

  enough_here : g.size ≤ length d
  unfolding total
  enough_here = omega arith

  length_here : length (filled s g d) ≡ length s
  length_here = filled_length s g d fits enough_here

  ready_later : Ready (filled s g d) gs (drop g.size d)
  unfolding total
  ready_later =
      record {
        inside = rw length_here (inside_later (length s) g gs ready.inside);
        enough = rw length-drop (omega arith);
      }

pub scattered_length : (gs : List Range) (s d : Bytes) → Ready s gs d → length (scattered s gs d) ≡ length s
unfolding scattered
scattered_length [] s d r = refl
scattered_length (g ∷ gs) s d r =
    scattered_length gs (filled s g d) (drop g.size d) (ready_later s g gs d r) ∙ length_here s g gs d r

pub scattered_other : (gs : List Range) (s d : Bytes) (p : ℕ)
    → Ready s gs d → covered gs p ≡ false → byte p (scattered s gs d) ≡ byte p s
unfolding scattered
scattered_other [] s d p r n = refl
scattered_other (g ∷ gs) s d p r n =
    scattered_other gs (filled s g d) (drop g.size d) p (ready_later s g gs d r) (uncovered_later g gs p n)
    ∙ filled_outside s g d (fits s g gs d r) (enough_here s g gs d r) p (uncovered_here g gs p n)

pub scattered_holds : (gs : List Range) (s d : Bytes) (k : ℕ)
    → Ready s gs d → overlapping gs ≡ false → k < total gs → byte (get_or (positions gs) k 0) (scattered s gs d) ≡ byte k d
unfolding scattered total
scattered_holds [] s d k r n h = absurd (omega arith)
scattered_holds (g ∷ gs) s d k r n h =
    ⊎_elim here (later (λ j. scattered_holds gs s' d' j r' parts.1)) (place_cases g gs k h)
  where
    s' : Bytes
    s' = filled s g d

    d' : Bytes
    d' = drop g.size d

    r' : Ready s' gs d'
    r' = ready_later s g gs d r

    parts : (any (meet g) gs ≡ false) × (overlapping gs ≡ false)
    parts = apart_parts g gs n

    here : k < g.size → byte (get_or (positions (g ∷ gs)) k 0) (scattered s' gs d') ≡ byte k d
    here b =
        rw (position_here g gs k b)
        (scattered_other gs s' d' (g.start + k) r' (apart g gs (g.start + k) parts.0 (omega arith))
        ∙ filled_within s g d (fits s g gs d r) (enough_here s g gs d r) k b)

    later : ((j : ℕ) → j < total gs → byte (get_or (positions gs) j 0) (scattered s' gs d') ≡ byte j d')
        → Later g gs k → byte (get_or (positions (g ∷ gs)) k 0) (scattered s' gs d') ≡ byte k d
    later each l =
        rw (l.shifted, position_later g gs l.index) (each l.index l.counted ∙ get_or-drop g.size d l.index 0)

-- ---- empty ranges do nothing

-- the ranges that have a position
unfoldable pub nonempty : List Range → List Range
nonempty [] = []
nonempty (g ∷ gs) = cond (eqb g.size 0) (nonempty gs) (g ∷ nonempty gs)

-- Two lists are alike if both begin with the same range and go on alike, or the second has one empty range more in front.
-- So a list without its empty ranges is like the list.
module _
    (Alike : List Range → List Range → Type 0)
    (nil : Alike [] [])
    (same : (g : Range) (fs gs : List Range) → Alike fs gs → Alike (g ∷ fs) (g ∷ gs))
    (skip : (g : Range) (fs gs : List Range) → g.size ≡ 0 → Alike fs gs → Alike fs (g ∷ gs)) where
  alike : (gs : List Range) → Alike (nonempty gs) gs
  unfolding nonempty
  alike [] = nil
  alike (g ∷ gs) = go (eqb g.size 0) refl (alike gs)
    where
      go : (b : Bool) → eqb g.size 0 ≡ b → Alike (nonempty gs) gs → Alike (cond b (nonempty gs) (g ∷ nonempty gs)) (g ∷ gs)
      go true e a = skip g (nonempty gs) gs (eqb-true _ _ e) a
      go false e a = same g (nonempty gs) gs a

pub nonempty_scattered : (gs : List Range) (s d : Bytes) → scattered s (nonempty gs) d ≡ scattered s gs d
unfolding scattered
nonempty_scattered =
    alike
    (λ fs gs. (s d : Bytes) → scattered s fs d ≡ scattered s gs d)
    (λ s d. refl)
    (λ g fs gs a s d. a (filled s g d) (drop g.size d))
    (λ g fs gs e a s d. rw (e, laid_nothing) (a s d))

pub nonempty_reach : (gs : List Range) (n : ℕ) → reach n (nonempty gs) ≡ reach n gs
unfolding reach
nonempty_reach =
    alike
    (λ fs gs. (n : ℕ) → reach n fs ≡ reach n gs)
    (λ n. refl)
    (λ g fs gs a n. a (cond (eqb g.size 0) n (max n (end g))))
    (λ g fs gs e a n. rw e (a n))

pub nonempty_covered : (gs : List Range) (p : ℕ) → covered (nonempty gs) p ≡ covered gs p
unfolding covered any
nonempty_covered =
    alike
    (λ fs gs. (p : ℕ) → covered fs p ≡ covered gs p)
    (λ p. refl)
    (λ g fs gs a p. rw (a p))
    (λ g fs gs e a p. a p ∙ sym (covered_empty g gs p e))

pub nonempty_positions : (gs : List Range) → positions (nonempty gs) ≡ positions gs
unfolding positions span
nonempty_positions =
    alike
    (λ fs gs. positions fs ≡ positions gs)
    refl
    (λ g fs gs a. rw a)
    (λ g fs gs e a. rw e a)

pub nonempty_total : (gs : List Range) → total (nonempty gs) ≡ total gs
nonempty_total gs = sym (positions_length (nonempty gs)) ∙ ap length (nonempty_positions gs) ∙ positions_length gs
