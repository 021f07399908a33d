-- What the writer asks of an action's verb.
use Rattle.std.specs.Prelude.{None, Some}
use Prim.Native.Nat.{ℕ}
use mathlib.Core.Path.{◌≡◌, refl}
use mathlib.Core.Bool.{Bool, true, false, cond, ◌||◌}
use lib.Dec.{eqb}
use borrow.Author.Tests.{ne_eqb}
use Rattle.rules.specs.declared.Verb.{Verb}
use Rattle.rules.specs.declared.Verb.TheVariants.{Read, Write, Clear, Punch}
use Rattle.rules.specs.Tests.{first_of}
use Rattle.rules.specs.Command.{READ, WRITE, CLEAR, PUNCH, verb_of, asks, is_write, is_clear, is_punch}

module _ (a : ℕ) where
  -- only WRITE writes
  pub not_write : (a ≡ WRITE → ⊥) → asks (verb_of a) is_write ≡ false
  unfolding verb_of first_of
  not_write w = rw (ne_eqb a WRITE w) (go (eqb a READ) (eqb a CLEAR) (eqb a PUNCH))
    where
      go : (r c p : Bool) → asks (cond r (Some Read) (cond c (Some Clear) (cond p (Some Punch) None))) is_write ≡ false
      go true c p = refl
      go false true p = refl
      go false false true = refl
      go false false false = refl

  -- only CLEAR and PUNCH have no list
  pub may_list : (a ≡ CLEAR → ⊥) → (a ≡ PUNCH → ⊥) → asks (verb_of a) (λ (v : Verb). is_clear v || is_punch v) ≡ false
  unfolding verb_of first_of
  may_list c p = rw (ne_eqb a CLEAR c, ne_eqb a PUNCH p) (go (eqb a READ) (eqb a WRITE))
    where
      go : (r w : Bool) → asks (cond r (Some Read) (cond w (Some Write) None)) (λ (v : Verb). is_clear v || is_punch v) ≡ false
      go true w = refl
      go false true = refl
      go false false = refl
