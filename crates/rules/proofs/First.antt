-- The first test of a table that holds. These laws are about any table, however long and in whatever order.
use Rattle.std.specs.Prelude.{Option, None, Some, slice_get}
use Prim.Native.Nat.{ℕ, zero, suc, ◌<◌, zero-le, suc-le-suc}
use native.Mathlib.Omega.{arith}
use native.Mathlib.Nat.{not-suc-le-zero, le_of_suc-le-suc}
use mathlib.Core.Path.{◌≡◌, refl, sym, ◌∙◌}
use mathlib.Core.Bool.{Bool, true, false, cond}
use mathlib.Core.List.{List, [], ◌∷◌, ◌++◌, map}
use lib.ListN.{get_or}
use Rattle.rules.specs.Tests.{Test, first_of}

-- whether the test at k holds; past the end none does
abbrev pub holds_at : {X : Type 0} → List (Test X) → ℕ → Bool
holds_at ts k = get_or (map (λ t. t.holds) ts) k false

abbrev pub gives_at : {X : Type 0} → List (Test X) → ℕ → Option X
gives_at ts k = slice_get (map (λ t. t.gives) ts) k

-- the test at k holds, and none before it does
pub record FirstHolds {X : Type 0} (ts : List (Test X)) (k : ℕ) : Type 0 where
  pub holds : holds_at ts k ≡ true
  pub before : (j : ℕ) → j < k → holds_at ts j ≡ false

-- no test holds
abbrev pub NoneHolds : {X : Type 0} → List (Test X) → Type 0
NoneHolds ts = (j : ℕ) → holds_at ts j ≡ false

pub some_none : {X : Type 0} {x : X} → Some x ≡ None → ⊥
some_none e = let z : ◌≡◌ {A = ℕ} 0 1 = cc in omega arith

-- one more test in front, that fails
later : {X : Type 0} (t : Test X) (ts : List (Test X)) (k : ℕ) → t.holds ≡ false → FirstHolds ts k → FirstHolds (t ∷ ts) (suc k)
later t ts k h f = record { holds = f.holds; before = before }
  where
    before : (j : ℕ) → j < suc k → holds_at (t ∷ ts) j ≡ false
    before zero l = h
    before (suc j) l = f.before j (le_of_suc-le-suc l)

-- and the other way round
tail : {X : Type 0} (t : Test X) (ts : List (Test X)) (k : ℕ) → FirstHolds (t ∷ ts) (suc k) → FirstHolds ts k
tail t ts k f = record { holds = f.holds; before = λ j l. f.before (suc j) (suc-le-suc l) }

abbrev pub Gives : {X : Type 0} → List (Test X) → X → Type 0
Gives ts x = (k : ℕ) × FirstHolds ts k × (gives_at ts k ≡ Some x)

-- what a table gives is what its first test that holds gives
pub found : {X : Type 0} (ts : List (Test X)) (x : X) → first_of ts ≡ Some x → Gives ts x
unfolding first_of
found [] x e = absurd (some_none (sym e))
found (t ∷ ts) x e = go t.holds refl (found ts x) e
  where
    go : (b : Bool) → t.holds ≡ b → (first_of ts ≡ Some x → Gives ts x) → cond b (Some t.gives) (first_of ts) ≡ Some x → Gives (t ∷ ts) x
    go true h rec e' = (0, record { holds = h; before = λ j l. absurd (not-suc-le-zero l) }, e')
    go false h rec e' = let g = rec e' in (suc g.0, later t ts g.0 h g.1, g.2)

-- the first test that holds is the one that gives
pub finds : {X : Type 0} (ts : List (Test X)) (k : ℕ) → FirstHolds ts k → first_of ts ≡ gives_at ts k
unfolding first_of
finds [] zero f = refl
finds [] (suc k) f = refl
finds (t ∷ ts) zero f = rw f.holds
finds (t ∷ ts) (suc k) f = rw (f.before 0 (suc-le-suc zero-le)) (finds ts k (tail t ts k f))

-- a table gives nothing exactly when no test holds
pub nothing_holds : {X : Type 0} (ts : List (Test X)) → first_of ts ≡ None → NoneHolds ts
unfolding first_of
nothing_holds [] e j = refl
nothing_holds (t ∷ ts) e j = go t.holds refl (nothing_holds ts) e j
  where
    go : (b : Bool) → t.holds ≡ b → (first_of ts ≡ None → NoneHolds ts) → cond b (Some t.gives) (first_of ts) ≡ None → NoneHolds (t ∷ ts)
    go true h rec e' j = absurd (some_none e')
    go false h rec e' zero = h
    go false h rec e' (suc j) = rec e' j

pub gives_nothing : {X : Type 0} (ts : List (Test X)) → NoneHolds ts → first_of ts ≡ None
unfolding first_of
gives_nothing [] f = refl
gives_nothing (t ∷ ts) f = rw (f 0) (gives_nothing ts (λ j. f (suc j)))

-- a test in front that holds gives, and one that fails is passed over
pub hit : {X : Type 0} (t : Test X) (ts : List (Test X)) → t.holds ≡ true → first_of (t ∷ ts) ≡ Some t.gives
unfolding first_of
hit t ts e = rw e

pub skip : {X : Type 0} (t : Test X) (ts : List (Test X)) → t.holds ≡ false → first_of (t ∷ ts) ≡ first_of ts
unfolding first_of
skip t ts e = rw e

pub none_left : {X : Type 0} → first_of {X = X} [] ≡ None
unfolding first_of
none_left = refl

-- two tables, one behind the other
pub ahead : {X : Type 0} (ts us : List (Test X)) (x : X) → first_of ts ≡ Some x → first_of (ts ++ us) ≡ Some x
unfolding first_of
ahead [] us x e = absurd (some_none (sym e))
ahead (t ∷ ts) us x e = go t.holds e (ahead ts us x)
  where
    go : (b : Bool) → cond b (Some t.gives) (first_of ts) ≡ Some x → (first_of ts ≡ Some x → first_of (ts ++ us) ≡ Some x)
        → cond b (Some t.gives) (first_of (ts ++ us)) ≡ Some x
    go true q r = q
    go false q r = r q

pub ahead_none : {X : Type 0} (ts us : List (Test X)) → first_of (ts ++ us) ≡ None → first_of ts ≡ None
ahead_none {X} ts us e = go (first_of ts) refl
  where
    go : (o : Option X) → first_of ts ≡ o → o ≡ None
    go None h = refl
    go (Some x) h = absurd (some_none (sym (ahead ts us x h) ∙ e))

pub behind : {X : Type 0} (ts us : List (Test X)) → first_of ts ≡ None → first_of (ts ++ us) ≡ first_of us
unfolding first_of
behind [] us e = refl
behind (t ∷ ts) us e = go t.holds e (behind ts us)
  where
    go : (b : Bool) → cond b (Some t.gives) (first_of ts) ≡ None → (first_of ts ≡ None → first_of (ts ++ us) ≡ first_of us)
        → cond b (Some t.gives) (first_of (ts ++ us)) ≡ first_of us
    go true q r = absurd (some_none q)
    go false q r = r q
