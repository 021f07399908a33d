-- Two sessions side by side. Where the first sends the same in both, the next command is the second's, in one of them, or the first's, in both.
use mathlib.Core.Path.{◌≡◌, refl, sym}
use mathlib.Core.List.{List, [], ◌∷◌, head-eq_of_cons-eq, tail-eq_of_cons-eq, nil≢cons}
use Rattle.rules.specs.Session.{Caller, first, second, Sent, firsts, sends}

pub data Beside : List Sent → List Sent → Type 0 where
  ended : Beside [] []
  left : {x : Sent} {xs ys : List Sent} → x.by ≡ second → Beside xs ys → Beside (x ∷ xs) ys
  right : {y : Sent} {xs ys : List Sent} → y.by ≡ second → Beside xs ys → Beside xs (y ∷ ys)
  joint : {x : Sent} {xs ys : List Sent} → x.by ≡ first → Beside xs ys → Beside (x ∷ xs) (x ∷ ys)

-- nothing of the first's on the left: nothing on the right
only_right : (ys : List Sent) → [] ≡ sends ys → Beside [] ys
unfolding sends firsts
only_right [] e = ended
only_right (y ∷ ys) e = go y.by refl e (only_right ys)
  where
    go : (w : Caller) → y.by ≡ w → [] ≡ firsts w y (sends ys) → ([] ≡ sends ys → Beside [] ys) → Beside [] (y ∷ ys)
    go first h e rest = absurd (nil≢cons e)
    go second h e rest = right h (rest e)

-- the first's next command on the left stands behind some of the second's on the right
joined : (x : Sent) (xs ys : List Sent) → x.by ≡ first → x ∷ sends xs ≡ sends ys → ((ys : List Sent) → sends xs ≡ sends ys → Beside xs ys)
    → Beside (x ∷ xs) ys
unfolding sends firsts
joined x xs [] f e rest = absurd (nil≢cons (sym e))
joined x xs (y ∷ ys) f e rest = go y.by refl e (λ e'. joined x xs ys f e' rest)
  where
    go : (w : Caller) → y.by ≡ w → x ∷ sends xs ≡ firsts w y (sends ys) → (x ∷ sends xs ≡ sends ys → Beside (x ∷ xs) ys) → Beside (x ∷ xs) (y ∷ ys)
    go first h e later = rw (← head-eq_of_cons-eq e) (joint f (rest ys (tail-eq_of_cons-eq e)))
    go second h e later = right h (later e)

pub beside : (xs ys : List Sent) → sends xs ≡ sends ys → Beside xs ys
unfolding sends firsts
beside [] ys e = only_right ys e
beside (x ∷ xs) ys e = go x.by refl e (beside xs)
  where
    go : (w : Caller) → x.by ≡ w → firsts w x (sends xs) ≡ sends ys → ((ys : List Sent) → sends xs ≡ sends ys → Beside xs ys) → Beside (x ∷ xs) ys
    go first h e rest = joined x xs ys h e rest
    go second h e rest = left h (rest ys e)
