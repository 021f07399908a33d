-- Each premise of demand 3 is needed.
use Prim.Native.Nat.{ℕ, zero, suc, ◌+◌, ◌*◌}
use mathlib.Core.Path.{◌≡◌, refl, sym, ap, ◌∙◌}
use mathlib.Core.Logic.{⊎_elim}
use mathlib.Core.Bool.{Bool, true, false, ◌&&◌, ◌||◌, false≢true}
use mathlib.Core.List.{List, [], ◌∷◌, ◌++◌}
use native.Mathlib.Omega.{arith}
use lib.Dec.{T, leb, ltb}
use Rattle.rules.specs.declared.Range.{Range}
use Rattle.rules.specs.Bytes.{Bytes, byte, any}
use Rattle.rules.specs.Ranges.{end, meet, covered}
use Rattle.rules.specs.Numbers.{number}
use Rattle.rules.specs.Samples.{text, rota}
use Rattle.rules.specs.Session.{Reply, Premise, same_commands, no_punch, apart, same_size, same_bytes, same_lengths, Holds, SameReplies}
use Rattle.rules.specs.Needed.{Needed, sessions}
use Rattle.rules.proofs.Booleans.{or_false_parts}
use Rattle.rules.proofs.Positions.{Of, uncovered_none, covered_cases, apart as apart_from}

abbrev range : (start size : ℕ) → Range
range start size = record { start = start; size = size }

-- `may` asks one command after the other: here each has one capability
abbrev spread : List Range → (position : ℕ) → Bool
spread [] p = false
spread (g ∷ gs) p = (leb g.start p && ltb p (end g) || false) || spread gs p

spread_covered : (gs : List Range) (p : ℕ) → T (spread gs p) → covered gs p ≡ true
unfolding covered any
spread_covered [] p t = absurd t
spread_covered (g ∷ gs) p t = go (leb g.start p && ltb p (end g)) t (spread_covered gs p)
  where
    go : (b : Bool) → T ((b || false) || spread gs p) → (T (spread gs p) → covered gs p ≡ true) → (b || covered gs p) ≡ true
    go true t rest = refl
    go false t rest = rest t

-- ranges of two callers that don't meet
clear_of : (gs hs : List Range) → any (λ (g : Range). any (meet g) hs) gs ≡ false → (p : ℕ) → T (spread gs p) → T (spread hs p) → ⊥
unfolding any
clear_of gs hs e p t u = go gs e (spread_covered gs p t)
  where
    go : (gs : List Range) → any (λ (g : Range). any (meet g) hs) gs ≡ false → covered gs p ≡ true → ⊥
    go [] e c = uncovered_none p c
    go (g ∷ gs) e c =
        let (here, later) = or_false_parts (any (meet g) hs) _ e in
        ⊎_elim (λ (o : Of g p). false≢true (sym (apart_from g hs p here o) ∙ spread_covered hs p u)) (go gs later) (covered_cases g gs p c)

-- a byte that isn't there is zero
absent : (s : Bytes) (p : ℕ) → byte p (s ++ (0 ∷ [])) ≡ byte p s
absent [] zero = refl
absent [] (suc p) = refl
absent (b ∷ s) zero = refl
absent (b ∷ s) (suc p) = absent s p

others : (m n : Premise) → (n ≡ m → ⊥) → Holds n (rota 8) (sessions m).a (sessions m).b (sessions m).xs (sessions m).ys
unfolding sessions
others same_commands same_commands f = absurd (f refl)
others same_commands no_punch f = tt
others same_commands apart f = λ p w r. w
others same_commands same_size f = refl
others same_commands same_bytes f = λ p h. refl
others same_commands same_lengths f = refl
others no_punch same_commands f = refl
others no_punch no_punch f = absurd (f refl)
others no_punch apart f = clear_of (range 0 2 ∷ range 6 2 ∷ []) (range 4 2 ∷ range 4 2 ∷ []) refl
others no_punch same_size f = refl
others no_punch same_bytes f = λ p h. refl
others no_punch same_lengths f = refl
others apart same_commands f = refl
others apart no_punch f = tt
others apart apart f = absurd (f refl)
others apart same_size f = refl
others apart same_bytes f = λ p h. refl
others apart same_lengths f = refl
others same_size same_commands f = refl
others same_size no_punch f = tt
others same_size apart f = λ p w r. w
others same_size same_size f = absurd (f refl)
others same_size same_bytes f = λ p h. absent (text "ABCDEFGH") p
others same_size same_lengths f = refl
others same_bytes same_commands f = refl
others same_bytes no_punch f = tt
others same_bytes apart f = λ p w r. w
others same_bytes same_size f = refl
others same_bytes same_bytes f = absurd (f refl)
others same_bytes same_lengths f = refl
others same_lengths same_commands f = refl
others same_lengths no_punch f = tt
others same_lengths apart f = clear_of (range 10 1 ∷ []) (range 9 1 ∷ range 9 1 ∷ []) refl
others same_lengths same_size f = refl
others same_lengths same_bytes f = λ p h. refl
others same_lengths same_lengths f = absurd (f refl)

-- the first answer's number and its first byte of Data-In
telling : List Reply → ℕ
telling [] = 0
telling (r ∷ rs) = 256 * number r.answer.outcome + byte 0 r.input

differs : (m : Premise) → SameReplies (rota 8) (sessions m).a (sessions m).b (sessions m).xs (sessions m).ys → ⊥
unfolding sessions telling
differs same_commands e = omega (arith, ap telling e)
differs no_punch e = omega (arith, ap telling e)
differs apart e = omega (arith, ap telling e)
differs same_size e = omega (arith, ap telling e)
differs same_bytes e = omega (arith, ap telling e)
differs same_lengths e = omega (arith, ap telling e)

pub needed : (m : Premise) → Needed m
needed m = record { others = others m; differs = differs m }
