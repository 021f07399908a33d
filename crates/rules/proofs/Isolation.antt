-- Demand 3, proved: what one caller reads does not depend on what another writes.
use Prim.Native.Nat.{ℕ, ◌≤◌, ◌<◌}
use mathlib.Core.Path.{◌≡◌, refl, sym, ap, ap₂, subst, ◌∙◌}
use mathlib.Core.Logic.{⊎_elim}
use mathlib.Core.Bool.{Bool, true, false, ◌&&◌}
use mathlib.Core.List.Memᴰ
use mathlib.Core.List.{List, ◌∷◌, ◌++◌, Memᴰ, head-eq_of_cons-eq, tail-eq_of_cons-eq}
use lib.Dec.{T, T_not}
use lib.ListN.{take}
use lib.Seq.{get_or-take}
use Rattle.rules.specs.declared.Record.{Record}
use Rattle.rules.specs.declared.Verb.TheVariants.{Read, Write}
use Rattle.rules.specs.Bytes.{byte, any}
use Rattle.rules.specs.Session.{Caller, first, second, Sent, State, after, firsts, replies, lengths, is, lets, may, punches, same_commands}
use Rattle.rules.specs.Session.{no_punch, apart, same_size, same_bytes, same_lengths, Isolation}
use Rattle.rules.proofs.Booleans.{fails, lt_or_le}
use Rattle.rules.proofs.Members.{any_of, none_of}
use Rattle.rules.proofs.Effect.{behind}
use Rattle.rules.proofs.Alike.{Alike, swapped, apart_step, joint_reply, joint_step}
use Rattle.rules.proofs.Beside.{Beside, ended, left, right, joint, beside}

-- what is kept of a command, by its caller
passes_over : {X : Type 0} (x : X) (xs : List X) {w : Caller} → w ≡ second → firsts w x xs ≡ xs
unfolding firsts
passes_over x xs e = ap (λ (w : Caller). firsts w x xs) e

keeps : {X : Type 0} (x : X) (xs : List X) {w : Caller} → w ≡ first → firsts w x xs ≡ x ∷ xs
unfolding firsts
keeps x xs e = ap (λ (w : Caller). firsts w x xs) e

-- every command of a session is among zs, those of both sessions
abbrev Among : List Sent → List Sent → Type 0
Among zs xs = (x : Sent) → Memᴰ x xs → Memᴰ x zs

module _ (r : Record) (zs : List Sent) (calm : any punches zs ≡ false)
    (split : (p : ℕ) → may Read first r zs p ≡ true → may Write second r zs p ≡ false) where
  away : (x : Sent) → Memᴰ x zs → x.by ≡ second → (p : ℕ) → may Read first r zs p ≡ true → lets Write r p x ≡ false
  unfolding may
  away x m s p h =
      ap (λ (w : Caller). is second w && lets Write r p x) (sym s)
      ∙ none_of (λ (y : Sent). is second y.by && lets Write r p y) zs m (split p h)

  reads : (x : Sent) → Memᴰ x zs → x.by ≡ first → (p : ℕ) → lets Read r p x ≡ true → may Read first r zs p ≡ true
  unfolding may
  reads x m f p h =
      any_of (λ (y : Sent). is first y.by && lets Read r p y) zs m (ap (λ (w : Caller). is first w && lets Read r p x) f ∙ h)

  run : {xs ys : List Sent} → Beside xs ys → (t u : State) → Among zs xs → Among zs ys → Alike r (may Read first r zs) t u
      → lengths t xs ≡ lengths u ys → replies t xs ≡ replies u ys
  unfolding replies lengths
  run ended t u m n k l = refl
  run (left {x} s b) t u m n k l =
      let z = m x (Memᴰ.head refl) in
      let k' = apart_step r _ t u k x (none_of punches zs z calm) (away x z s) in
      passes_over _ _ s ∙ run b (after x t) u (λ y h. m y (Memᴰ.tail h)) n k' (sym (passes_over _ _ s) ∙ l)
  run (right {y} s b) t u m n k l =
      let z = n y (Memᴰ.head refl) in
      let k' = apart_step r _ u t (swapped k) y (none_of punches zs z calm) (away y z s) in
      run b t (after y u) m (λ x h. n x (Memᴰ.tail h)) (swapped k') (l ∙ passes_over _ _ s) ∙ sym (passes_over _ _ s)
  run (joint {x} f b) t u m n k l =
      let z = m x (Memᴰ.head refl) in
      let q = none_of punches zs z calm in
      let l' = sym (keeps _ _ f) ∙ l ∙ keeps _ _ f in
      let level = head-eq_of_cons-eq l' in
      let k' = joint_step r _ t u k x q level (reads x z f) in
      let rest = run b (after x t) (after x u) (λ y h. m y (Memᴰ.tail h)) (λ y h. n y (Memᴰ.tail h)) k' (tail-eq_of_cons-eq l') in
      keeps _ _ f ∙ ap₂ ◌∷◌ (joint_reply r _ t u k x q level (reads x z f)) rest ∙ sym (keeps _ _ f)

holds : {b : Bool} → b ≡ true → T b
holds e = subst T (sym e) tt

pub isolation : Isolation
unfolding Isolation
isolation r a b xs ys h =
    run r (xs ++ ys) calm split (beside xs ys (h same_commands)) (record { on = r; slice = a }) (record { on = r; slice = b })
    (λ x m. Memᴰ.append_left ys m) (λ y m. Memᴰ.append_right xs m) start (h same_lengths)
  where
    calm : any punches (xs ++ ys) ≡ false
    calm = fails _ (λ e. T_not (any punches (xs ++ ys)) (h no_punch) (holds e))

    split : (p : ℕ) → may Read first r (xs ++ ys) p ≡ true → may Write second r (xs ++ ys) p ≡ false
    split p e = fails _ (λ w. h apart p (holds w) (holds e))

    agree : (p : ℕ) → may Read first r (xs ++ ys) p ≡ true → byte p (take r.length a) ≡ byte p (take r.length b)
    agree p e =
        ⊎_elim
        (λ (below : p < r.length). get_or-take r.length a p 0 below ∙ h same_bytes p (holds e) ∙ sym (get_or-take r.length b p 0 below))
        (λ (above : r.length ≤ p). behind r.length a p above ∙ sym (behind r.length b p above))
        (lt_or_le p r.length)

    start : Alike r (may Read first r (xs ++ ys)) (record { on = r; slice = a }) (record { on = r; slice = b })
    start = record { from = refl; from' = refl; size = h same_size; same = agree }
