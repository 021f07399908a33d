-- A service action that is read as a verb.
use Rattle.std.proofs.Common.{◌≡◌, refl, ap, ◌∙◌, ℕ}
use Rattle.std.specs.Prelude.{Option, None, Some, is_some, Result, is_ok}
use Rattle.std.specs.Option.{ok_or}
use Rattle.rules.specs.declared.Refusal.{Refusal}
use Rattle.rules.specs.declared.Refusal.TheVariants.{ActionUnknown}
use Rattle.rules.specs.declared.Verb.{Verb}
use Rattle.rules.specs.Command.{verb_of, read_verb, IsReadVerb}

-- it is read where it has one
pub read_where_some : (a : ℕ) (r : Result Verb Refusal) → IsReadVerb a r → is_ok r ≡ is_some (verb_of a)
unfolding read_verb
read_where_some a r e = ap is_ok e ∙ go (verb_of a)
  where
    go : (o : Option Verb) → is_ok (ok_or o ActionUnknown) ≡ is_some o
    go None = refl
    go (Some v) = refl
