-- What CLEAR and PUNCH count on once the decision is taken.
use Rattle.std.specs.Prelude.{ℕ, ◌≤◌, ◌≡◌, [], ◌∷◌}
use Rattle.rules.specs.Ranges.{reach}
use Rattle.header.specs.declared.Parsed.{Parsed}
use Rattle.object.specs.Ready.{sole}

-- row 14 doesn't refuse a CLEAR
pub record ForClear (p : Parsed) (logical raised slice : ℕ) : Type 0 where
  pub reaches : raised ≡ reach logical (sole p ∷ [])
  pub fits : raised ≤ slice

-- rows 1 and 12 don't refuse a PUNCH
pub record ForPunch (p : Parsed) (logical slice : ℕ) : Type 0 where
  pub held : logical ≤ slice
  pub begins : p.start ≤ logical
