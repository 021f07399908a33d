-- What std says of a run over a list's entries, in the words of the book.
use mathlib.Core.Path.{◌≡◌, refl, ap, ◌∙◌}
use mathlib.Core.Bool.{Bool, ◌||◌, ◌&&◌}
use mathlib.Core.List.{List, [], ◌∷◌}
use denote.Param.Members.{Mut}
use Rattle.std.specs.Fn.{Called}
use Rattle.std.specs.List.{list_any, list_all}
use Rattle.std.specs.Iterator.{YieldsFirst, ChecksAny, ChecksAll}
use Rattle.std.proofs.lemmas.Iterator.Consumers.{YieldsList-from_first}
use Rattle.std.proofs.lemmas.Iterator.Search.{any_from_yields_List, all_from_yields_List}
use Rattle.rules.specs.declared.Range.{Range}
use Rattle.rules.specs.Bytes.{any, all}
use Rattle.segment.specs.declared.ListEntries.{ListEntries}
use Rattle.segment.specs.Left.{entries_left}

pub any_is : {X : Type 0} (f : X → Bool) (xs : List X) → list_any f xs ≡ any f xs
unfolding any
any_is f [] = refl
any_is f (x ∷ xs) = ap (λ (b : Bool). f x || b) (any_is f xs)

all_is : {X : Type 0} (f : X → Bool) (xs : List X) → list_all f xs ≡ all f xs
unfolding all
all_is f [] = refl
all_is f (x ∷ xs) = ap (λ (b : Bool). f x && b) (all_is f xs)

-- `any` and `all` by a closure that computes a test
module _ {F : Type 0} {g : Mut F (Range × Unit {0}) Bool} (test : Range → Bool) {e : ListEntries} {gs : List Range} (l : entries_left e ≡ gs)
    (u : ListEntries) (f : F) (r : Bool) (computes : (x : Range) (b : Bool) (q : F) → Called g f (x, tt) b q → (q ≡ f) × (b ≡ test x)) where
  pub any_left : ChecksAny (YieldsFirst entries_left) g e f r u → r ≡ any test gs
  any_left ran = any_from_yields_List test _ _ _ ran (YieldsList-from_first (λ x. x) entries_left gs l) computes ∙ any_is test gs

  pub all_left : ChecksAll (YieldsFirst entries_left) g e f r u → r ≡ all test gs
  all_left ran = all_from_yields_List test _ _ _ ran (YieldsList-from_first (λ x. x) entries_left gs l) computes ∙ all_is test gs
