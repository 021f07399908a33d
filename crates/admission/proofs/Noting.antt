-- What is noted of capabilities, one after another.
use Rattle.std.specs.Prelude.{◌≡◌, ℕ, Bool, true, false, cond, ◌+◌, ◌≤◌, ◌<◌, List, [], ◌∷◌, ◌++◌, length, drop, get_or}
use mathlib.Core.Path.{refl, ap, sym, ◌∙◌}
use mathlib.Core.List.{append_assoc, append-nil}
use native.Mathlib.Omega.{arith}
use Rattle.std.proofs.lemmas.List.{at_drop_more, at_drop_all}
use Rattle.rules.specs.declared.Range.{Range}
use Rattle.rules.specs.Bytes.{Bytes}
use Rattle.capability.specs.declared.Sought.{Sought}
use Rattle.capability.specs.Terms.{meets}
use Rattle.capability.specs.Allowance.{allowance}
use Rattle.admission.specs.Allowed.{noted}

noted_cons : (w : Sought) (k : Bytes) (ks : List Bytes) → noted w (k ∷ ks) ≡ noted w (k ∷ []) ++ noted w ks
unfolding noted
noted_cons w k ks = go (meets w k)
  where
    go : (b : Bool) → cond b (allowance k ∷ noted w ks) (noted w ks) ≡ cond b (allowance k ∷ []) [] ++ noted w ks
    go true = refl
    go false = refl

-- no more is noted than there are capabilities
pub length_noted : (w : Sought) (ks : List Bytes) → length (noted w ks) ≤ length ks
unfolding noted
length_noted w [] = omega arith
length_noted w (k ∷ ks) = go (meets w k) (length_noted w ks)
  where
    go : (b : Bool) → length (noted w ks) ≤ length ks → length (cond b (allowance k ∷ noted w ks) (noted w ks)) ≤ length (k ∷ ks)
    go true l = omega arith
    go false l = omega arith

-- what is noted by then, a, with what the next allows, and with what is noted of the others
pub noted_next : (w : Sought) (a : List Range) (k : Bytes) (ks : List Bytes) → (a ++ noted w (k ∷ [])) ++ noted w ks ≡ a ++ noted w (k ∷ ks)
noted_next w a k ks = append_assoc a (noted w (k ∷ [])) (noted w ks) ∙ ap (λ (x : List Range). a ++ x) (sym (noted_cons w k ks))

pub noted_on : (w : Sought) (a : List Range) (ks : List Bytes) (i : ℕ) → i < length ks
    → (a ++ noted w (get_or ks i [] ∷ [])) ++ noted w (drop (i + 1) ks) ≡ a ++ noted w (drop i ks)
noted_on w a ks i h = noted_next w a (get_or ks i []) (drop (i + 1) ks) ∙ ap (λ (x : List Range). a ++ x) (sym (at_drop_more (noted w) ks i [] h))

pub noted_all : (w : Sought) (a : List Range) (ks : List Bytes) (i : ℕ) → length ks ≤ i → a ++ noted w (drop i ks) ≡ a
unfolding noted
noted_all w a ks i h = ap (λ (x : List Range). a ++ x) (at_drop_all (noted w) ks i h) ∙ append-nil a

pub ruleset noting = (noted_next, noted_on, noted_all)
