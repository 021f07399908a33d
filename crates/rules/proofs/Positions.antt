-- The positions that ranges have, read three ways that agree: `covered` as a test, `positions` in list order, `reach` as a bound.
use Prim.Native.Nat.{ℕ, zero, suc, ◌+◌, ◌-◌, ◌≤◌, ◌<◌, max}
use mathlib.Core.Path.{◌≡◌, refl, sym, ap, ◌∙◌}
use mathlib.Core.Logic.{◌⊎◌, inl, inr, ⊎_elim}
use mathlib.Core.Bool.{Bool, true, false, cond, ◌&&◌, false≢true, or-true}
use mathlib.Core.List.{List, [], ◌∷◌, Memᴰ}
use native.Mathlib.Nat.{add-sub_of_le}
use native.Mathlib.Omega.{arith}
use lib.Dec.{eqb, leb, ltb}
use lib.ListN.{length, get_or, length-append}
use borrow.Author.Tests.{leb-true, ltb-true, le-leb, lt-ltb, eqb-false, ne_eqb}
use Rattle.rules.specs.declared.Range.{Range}
use Rattle.rules.specs.Bytes.{any}
use Rattle.rules.specs.Ranges.{end, total, meet, overlapping, reach, span, positions, covered}
use Rattle.rules.proofs.Booleans.{or_right, or_false_parts, and_true_parts, fails, lt_or_le}
use Rattle.rules.proofs.Lists.{byte_before, byte_after}

-- p is a position of g
pub record Of (g : Range) (p : ℕ) : Type 0 where
  pub from : g.start ≤ p
  pub below : p < end g

-- every position of the ranges is below n
abbrev pub Inside : (n : ℕ) → List Range → Type 0
Inside n gs = (p : ℕ) → covered gs p ≡ true → p < n

pub outside_cases : (g : Range) (p : ℕ) → (Of g p → ⊥) → (p < g.start) ⊎ (end g ≤ p)
outside_cases g p out = go (lt_or_le p g.start) (lt_or_le p (end g))
  where
    go : (p < g.start) ⊎ (g.start ≤ p) → (p < end g) ⊎ (end g ≤ p) → (p < g.start) ⊎ (end g ≤ p)
    go (inl before) w = inl before
    go (inr from) (inl below) = absurd (out (omega arith))
    go (inr from) (inr after) = inr after

-- ---- one range more

test_of : (g : Range) (p : ℕ) → Of g p → (leb g.start p && ltb p (end g)) ≡ true
test_of g p o = rw (le-leb g.start p o.from) (lt-ltb p (end g) o.below)

of_test : (g : Range) (p : ℕ) → (leb g.start p && ltb p (end g)) ≡ true → Of g p
of_test g p e =
    let parts = and_true_parts _ _ e in
    record { from = leb-true _ _ parts.0; below = ltb-true _ _ parts.1 }

pub covered_here : (g : Range) (gs : List Range) (p : ℕ) → Of g p → covered (g ∷ gs) p ≡ true
unfolding covered any
covered_here g gs p o = rw (test_of g p o)

pub covered_later : (g : Range) (gs : List Range) (p : ℕ) → covered gs p ≡ true → covered (g ∷ gs) p ≡ true
unfolding covered any
covered_later g gs p h = rw h (or-true (leb g.start p && ltb p (end g)))

pub covered_cases : (g : Range) (gs : List Range) (p : ℕ) → covered (g ∷ gs) p ≡ true → Of g p ⊎ (covered gs p ≡ true)
unfolding covered any
covered_cases g gs p h = go (leb g.start p && ltb p (end g)) refl
  where
    go : (b : Bool) → (leb g.start p && ltb p (end g)) ≡ b → Of g p ⊎ (covered gs p ≡ true)
    go true e = inl (of_test g p e)
    go false e = inr (or_right _ _ h e)

pub uncovered_here : (g : Range) (gs : List Range) (p : ℕ) → covered (g ∷ gs) p ≡ false → Of g p → ⊥
uncovered_here g gs p n o = false≢true (sym n ∙ covered_here g gs p o)

pub uncovered_later : (g : Range) (gs : List Range) (p : ℕ) → covered (g ∷ gs) p ≡ false → covered gs p ≡ false
uncovered_later g gs p n = fails (covered gs p) (λ h. false≢true (sym n ∙ covered_later g gs p h))

-- an empty range covers nothing
pub covered_empty : (g : Range) (gs : List Range) (p : ℕ) → g.size ≡ 0 → covered (g ∷ gs) p ≡ covered gs p
unfolding covered any
covered_empty g gs p e = rw (fails (leb g.start p && ltb p (end g)) (λ t. omega (arith, e, of_test g p t)))

pub uncovered_none : (p : ℕ) → covered [] p ≡ true → ⊥
unfolding covered any
uncovered_none p h = false≢true h

pub inside_later : (n : ℕ) (g : Range) (gs : List Range) → Inside n (g ∷ gs) → Inside n gs
inside_later n g gs inside p h = inside p (covered_later g gs p h)

-- a range of the list covers its positions
pub member_covers : (g : Range) (gs : List Range) (p : ℕ) → Memᴰ g gs → Of g p → covered gs p ≡ true
member_covers g [] p x'' o = elim x'' [ ]
member_covers g (h ∷ gs) p (Memᴰ.head e) o = covered_here h gs p (rw e at o)
member_covers g (h ∷ gs) p (Memᴰ.tail m) o = covered_later h gs p (member_covers g gs p m o)

-- `Inside` in the ranges' own terms: every nonempty range ends at n or before
abbrev pub EndsBy : (n : ℕ) → List Range → Type 0
EndsBy n gs = (g : Range) → Memᴰ g gs → 0 < g.size → end g ≤ n

pub inside_ends : (n : ℕ) (gs : List Range) → Inside n gs → EndsBy n gs
inside_ends n gs inside g m full =
    let last : ℕ = g.start + (g.size - 1) in
    let below : last < n = inside last (member_covers g gs last m (omega arith)) in
    omega arith

pub ends_inside : (n : ℕ) (gs : List Range) → EndsBy n gs → Inside n gs
ends_inside n [] ends p h = absurd (uncovered_none p h)
ends_inside n (g ∷ gs) ends p h =
    ⊎_elim
    (λ (o : Of g p). omega (arith, ends g (Memᴰ.head refl) (omega arith)))
    (ends_inside n gs (λ f m. ends f (Memᴰ.tail m)) p)
    (covered_cases g gs p h)

-- ---- positions in list order

pub span_length : (at n : ℕ) → length (span at n) ≡ n
unfolding span
span_length at zero = refl
span_length at (suc n) = ap suc (span_length (suc at) n)

pub span_at : (at n k : ℕ) → k < n → get_or (span at n) k 0 ≡ at + k
unfolding span
span_at at zero k h = absurd (omega arith)
span_at at (suc n) zero h = omega arith
span_at at (suc n) (suc k) h = span_at (suc at) n k (omega arith) ∙ omega arith

pub positions_length : (gs : List Range) → length (positions gs) ≡ total gs
unfolding positions total
positions_length [] = refl
positions_length (g ∷ gs) = simp (length-append, span_length, positions_length gs)

pub position_here : (g : Range) (gs : List Range) (k : ℕ) → k < g.size → get_or (positions (g ∷ gs)) k 0 ≡ g.start + k
unfolding positions
position_here g gs k h =
    byte_before (span g.start g.size) (positions gs) k (rw span_length h) ∙ span_at g.start g.size k h

pub position_later : (g : Range) (gs : List Range) (k : ℕ) → get_or (positions (g ∷ gs)) (g.size + k) 0 ≡ get_or (positions gs) k 0
unfolding positions
position_later g gs k = byte_after (span g.start g.size) (positions gs) g.size k (span_length g.start g.size)

-- the k-th position of g ∷ gs is one of gs, whose own count of it is `index`
pub record Later (g : Range) (gs : List Range) (k : ℕ) : Type 0 where
  pub index : ℕ
  pub counted : index < total gs
  pub shifted : k ≡ g.size + index

-- if it isn't one of g
pub place_cases : (g : Range) (gs : List Range) (k : ℕ) → k < total (g ∷ gs) → (k < g.size) ⊎ Later g gs k
unfolding total
place_cases g gs k h = ⊎_elim inl (λ past. inr (later past)) (lt_or_le k g.size)
  where
    later : g.size ≤ k → Later g gs k
    later past = record { index = k - g.size; counted = omega arith; shifted = omega arith }

-- every position in list order is covered
pub position_covered : (gs : List Range) (k : ℕ) → k < total gs → covered gs (get_or (positions gs) k 0) ≡ true
unfolding total
position_covered [] k h = absurd (omega arith)
position_covered (g ∷ gs) k h = ⊎_elim here (later (position_covered gs)) (place_cases g gs k h)
  where
    here : k < g.size → covered (g ∷ gs) (get_or (positions (g ∷ gs)) k 0) ≡ true
    here b = rw (position_here g gs k b) (covered_here g gs (g.start + k) (omega arith))

    later : ((j : ℕ) → j < total gs → covered gs (get_or (positions gs) j 0) ≡ true)
        → Later g gs k → covered (g ∷ gs) (get_or (positions (g ∷ gs)) k 0) ≡ true
    later each l = rw (l.shifted, position_later g gs l.index) (covered_later g gs _ (each l.index l.counted))

-- p is the position at `index`
pub record Placed (gs : List Range) (p : ℕ) : Type 0 where
  pub index : ℕ
  pub counted : index < total gs
  pub there : get_or (positions gs) index 0 ≡ p

-- and every covered position is in the list
pub covered_placed : (gs : List Range) (p : ℕ) → covered gs p ≡ true → Placed gs p
unfolding total
covered_placed [] p h = absurd (uncovered_none p h)
covered_placed (g ∷ gs) p h = ⊎_elim here (λ c. later (covered_placed gs p c)) (covered_cases g gs p h)
  where
    here : Of g p → Placed (g ∷ gs) p
    here o =
        let from : g.start ≤ p = o.from in
        record {
          index = p - g.start;
          counted = omega arith;
          there = position_here g gs (p - g.start) (omega arith) ∙ add-sub_of_le from;
        }

    later : Placed gs p → Placed (g ∷ gs) p
    later l =
        record {
          index = g.size + l.index;
          counted = omega arith;
          there = position_later g gs l.index ∙ l.there;
        }

-- ---- ranges that share no position

pub meet_at : (g h : Range) (p : ℕ) → Of g p → Of h p → meet g h ≡ true
unfolding meet
meet_at g h p o q =
    rw (
      ne_eqb g.size 0 (omega arith),
      ne_eqb h.size 0 (omega arith),
      lt-ltb g.start (end h) (omega arith),
      lt-ltb h.start (end g) (omega arith),
    )

-- a range that meets none of the others has its positions for itself
pub apart : (g : Range) (gs : List Range) (p : ℕ) → any (meet g) gs ≡ false → Of g p → covered gs p ≡ false
unfolding any
apart g [] p n o = fails (covered [] p) (uncovered_none p)
apart g (h ∷ gs) p n o =
    let parts = or_false_parts (meet g h) (any (meet g) gs) n in
    let later : covered gs p ≡ false = apart g gs p parts.1 o in
    fails (covered (h ∷ gs) p)
    (λ c.
    ⊎_elim
    (λ (q : Of h p). false≢true (sym parts.0 ∙ meet_at g h p o q))
    (λ (t : covered gs p ≡ true). false≢true (sym later ∙ t))
    (covered_cases h gs p c))

pub apart_parts : (g : Range) (gs : List Range) → overlapping (g ∷ gs) ≡ false → (any (meet g) gs ≡ false) × (overlapping gs ≡ false)
unfolding overlapping
apart_parts g gs n = or_false_parts (any (meet g) gs) (overlapping gs) n

-- ---- how far ranges reach

-- a length with one range written
abbrev lifted : (n : ℕ) → Range → ℕ
lifted n g = cond (eqb g.size 0) n (max n (end g))

lifted_old : (n : ℕ) (g : Range) → n ≤ lifted n g
lifted_old n g = go (eqb g.size 0)
  where
    go : (b : Bool) → n ≤ cond b n (max n (end g))
    go true = omega arith
    go false = omega arith

lifted_above : (n : ℕ) (g : Range) (p : ℕ) → Of g p → p < lifted n g
lifted_above n g p o = rw (ne_eqb g.size 0 (omega arith)) (omega arith)

-- m is n, or it is the least above some position
abbrev pub Attained : (position : ℕ → Type 0) (n m : ℕ) → Type 0
Attained position n m = (m ≡ n) ⊎ ((p : ℕ) × position p × (m ≡ suc p))

lifted_least : (n : ℕ) (g : Range) → Attained (Of g) n (lifted n g)
lifted_least n g = go (eqb g.size 0) refl (lt_or_le n (end g))
  where
    go : (b : Bool) → eqb g.size 0 ≡ b → (n < end g) ⊎ (end g ≤ n) → Attained (Of g) n (cond b n (max n (end g)))
    go true e w = inl refl
    go false e (inr within) = inl (omega arith)
    go false e (inl past) =
        let full : g.size ≡ 0 → ⊥ = eqb-false _ _ e in
        inr (end g - 1, omega arith, omega arith)

pub reach_old : (n : ℕ) (gs : List Range) → n ≤ reach n gs
unfolding reach
reach_old n [] = omega arith
reach_old n (g ∷ gs) = omega (arith, lifted_old n g, reach_old (lifted n g) gs)

pub reach_above : (n : ℕ) (gs : List Range) → Inside (reach n gs) gs
unfolding reach
reach_above n [] p h = absurd (uncovered_none p h)
reach_above n (g ∷ gs) p h = ⊎_elim here (reach_above (lifted n g) gs p) (covered_cases g gs p h)
  where
    here : Of g p → p < reach (lifted n g) gs
    here o = omega (arith, lifted_above n g p o, reach_old (lifted n g) gs)

-- nothing less would do: the reach is n, or right above the highest position
pub reach_least : (n : ℕ) (gs : List Range) → Attained (λ p. covered gs p ≡ true) n (reach n gs)
unfolding reach
reach_least n [] = inl refl
reach_least n (g ∷ gs) = go (reach_least (lifted n g) gs) (lifted_least n g)
  where
    go : {m : ℕ} → Attained (λ p. covered gs p ≡ true) (lifted n g) m → Attained (Of g) n (lifted n g)
        → Attained (λ p. covered (g ∷ gs) p ≡ true) n m
    go (inr later) l = inr (later.0, covered_later g gs later.0 later.1, later.2)
    go (inl same) (inl old) = inl (same ∙ old)
    go (inl same) (inr here) = inr (here.0, covered_here g gs here.0 here.1, same ∙ here.2)
