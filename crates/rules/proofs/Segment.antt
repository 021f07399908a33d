-- Law 7: a list or an extension that row 7 lets through has pad zero; the list's entries and the capabilities lie inside the segment.
-- And a walk that may take as many steps as there are bytes left is never cut short by that limit.
use Rattle.std.specs.Prelude.{Result, Ok, Err, Option, None, Some}
use Rattle.rules.specs.Segment.{fault, Walk, kind_at, pad_at, size_at, data_at, next, faults, unless, entries_here, extensions_here, here}
use Rattle.rules.specs.Segment.{once, follow, walk_from, nothing, walk}
use mathlib.Core.Path.{◌≡◌, refl, ap, subst}
use mathlib.Core.Logic.{◌≢◌}
use mathlib.Core.Bool.{Bool, true, false, and-eq-true_iff, cond, ◌&&◌, not}
use Prim.Native.Nat.{ℕ, zero, suc, ◌+◌, ◌-◌, ◌*◌, ◌/◌, ◌%◌, ◌≤◌, ◌<◌}
use native.Mathlib.Omega.{arith}
use native.Mathlib.Nat.{mul_comm, suc-mul, mul-le-mul_right, div-mul-le_self}
use lib.ListN.{length, drop, drop_of_length-le}
use lib.Dec.{eqb, ltb}
use borrow.Author.Tests.{ltb-false, lt-ltb, eqb-true, eqb-false, not-true, not-false}
use Rattle.rules.specs.declared.Part.{Part}
use Rattle.rules.specs.declared.Cause.{Cause}
use Rattle.rules.specs.declared.Here.{Here}
use Rattle.rules.specs.declared.Here.TheVariants.{End, Entries, Extensions}
use Rattle.rules.specs.declared.Found.{Found}
use Rattle.rules.specs.Bytes.{Bytes, blank}
use Rattle.rules.specs.Tests.{first_of}
use Rattle.rules.specs.Command.{Command, continuation, segment}
use Rattle.rules.specs.Reading.{walked, found_in, found}
use Rattle.rules.proofs.Passed.{skips}

-- ---- a descriptor that is let through

-- What is known of a list's or an extension's data d, whose header stands at `at` and which comes in units of `width` bytes:
-- it has no pad, it is what the header says, it has units whole and not too many, and the last of them ends inside the segment.
pub record LetThrough (width supported : ℕ) (s : Bytes) (at : ℕ) (d : Part) : Type 0 where
  pub unpadded : pad_at s at ≡ 0
  pub is_data : d ≡ data_at s at
  pub whole : d.size % width ≡ 0
  pub small : d.size ≤ supported
  pub inside : d.at + d.size ≤ length s

-- A pad has at most seven bytes. So data that is a multiple of 8, and is one with its pad too, has none.
unpadded_is : (size pad : ℕ) → size % 8 ≡ 0 → (size + pad % 8) % 8 ≡ 0 → pad % 8 ≡ 0
unpadded_is size pad h k = omega arith

-- data of a descriptor without a fault fits its type
fitting : (supported : ℕ) (fits : Bool) (s : Bytes) (at : ℕ) → first_of (faults supported fits s at) ≡ None → fits ≡ true
unfolding faults
fitting supported fits s at e = not-false fits (skips _ _ (skips _ _ (skips _ _ e).1).1).0

-- and is let through: the one lemma for the list and the extension, whose units are multiples of 8
passes : (width supported : ℕ) (fits : Bool) (s : Bytes) (at : ℕ)
    → ((n : ℕ) → n % width ≡ 0 → n % 8 ≡ 0) → (fits ≡ true → size_at s at % width ≡ 0)
    → first_of (faults supported fits s at) ≡ None → LetThrough width supported s at (data_at s at)
unfolding faults data_at pad_at next
passes width supported fits s at eights means e =
    let over = skips _ _ e in
    let padding = skips _ _ over.1 in
    let past = skips _ _ (skips _ _ padding.1).1 in
    let size : ℕ = size_at s at in
    let units : size % width ≡ 0 = means (fitting supported fits s at e) in
    let ends : next s at ≤ length s = ltb-false _ _ past.0 in
    record {
      unpadded = unpadded_is size _ (eights size units) (eqb-true _ _ (not-false (eqb ((size + pad_at s at) % 8) 0) padding.0));
      is_data = refl;
      whole = units;
      small = ltb-false _ _ over.0;
      inside = omega arith;
    }

-- what row 7 vouches for, of what stands at a position
abbrev pub Vouched : Bytes → (at : ℕ) → Result Here Cause → Type 0
Vouched s at (Ok End) = Unit {0}
Vouched s at (Err c) = Unit {0}
Vouched s at (Ok (Entries d)) = LetThrough 16 1024 s at d
Vouched s at (Ok (Extensions d)) = LetThrough 104 832 s at d × (d.size ≢ 0)

either : (P : Result Here Cause → Type 0) (b : Bool) {x y : Result Here Cause} → P x → P y → P (cond b x y)
either P true p q = p
either P false p q = q

unless_none : (s : Bytes) (at : ℕ) (o : Option Cause) (h : Result Here Cause) → (o ≡ None → Vouched s at h) → Vouched s at (unless o h)
unfolding unless
unless_none s at None h p = p refl
unless_none s at (Some c) h p = tt

list_vouched : (s : Bytes) (at : ℕ) → Vouched s at (entries_here s at)
unfolding entries_here
list_vouched s at = unless_none s at _ (Ok (Entries (data_at s at))) (passes 16 1024 _ s at (λ n h. omega arith) (eqb-true _ _))

extension_vouched : (s : Bytes) (at : ℕ) → Vouched s at (extensions_here s at)
unfolding extensions_here data_at
extension_vouched s at = unless_none s at _ (Ok (Extensions (data_at s at))) go
  where
    whole : Bool
    whole = eqb (size_at s at % 104) 0

    some_data : Bool
    some_data = not (eqb (size_at s at) 0)

    go : first_of (faults 832 (whole && some_data) s at) ≡ None → LetThrough 104 832 s at (data_at s at) × (size_at s at ≢ 0)
    go e =
        let both = (and-eq-true_iff whole some_data).0 in
        let fits = both (fitting 832 (whole && some_data) s at e) in
        (passes 104 832 _ s at (λ n h. omega arith) (λ t. eqb-true _ _ (both t).0) e, eqb-false _ _ (not-true _ fits.1))

pub vouched : (s : Bytes) (at : ℕ) → Vouched s at (here s at)
unfolding here
vouched s at =
    either P (ltb (length s - at) 8) (either P (blank (drop at s)) tt tt)
    (either P (eqb (kind_at s at) 0x0000) tt
    (either P (eqb (kind_at s at) 0x0001) (list_vouched s at) (either P (eqb (kind_at s at) 0xFFEE) (extension_vouched s at) tt)))
  where
    P : Result Here Cause → Type 0
    P = Vouched s at

-- so of a list and of an extension that stands there
pub list_here : (s : Bytes) (at : ℕ) (d : Part) → here s at ≡ Ok (Entries d) → LetThrough 16 1024 s at d
list_here s at d e = subst (Vouched s at) e (vouched s at)

pub extension_here : (s : Bytes) (at : ℕ) (d : Part) → here s at ≡ Ok (Extensions d) → LetThrough 104 832 s at d × (d.size ≢ 0)
extension_here s at d e = subst (Vouched s at) e (vouched s at)

-- the walk goes on right behind the data
pub next_is : {width supported : ℕ} {s : Bytes} {at : ℕ} {d : Part} → LetThrough width supported s at d → next s at ≡ d.at + d.size
unfolding next data_at
next_is {at} l = omega (arith, l.unpadded, ap (λ (d : Part). d.at) l.is_data, ap (λ (d : Part). d.size) l.is_data)

-- ---- what a walk finds

-- data that a walk finds: its header stands right before it, behind the segment's own 40 bytes, and was let through
pub record Lies (width supported : ℕ) (s : Bytes) (d : Part) : Type 0 where
  pub starts : 48 ≤ d.at
  pub through : LetThrough width supported s (d.at - 8) d

-- the law of what a walk has found
pub record Sound (s : Bytes) (f : Found) : Type 0 where
  pub list : (d : Part) → f.list ≡ Some d → Lies 16 1024 s d
  pub extension : (d : Part) → f.extension ≡ Some d → Lies 104 832 s d × (d.size ≢ 0)

lies : {width supported : ℕ} {s : Bytes} {at : ℕ} {d : Part} → 40 ≤ at → LetThrough width supported s at d → Lies width supported s d
unfolding data_at
lies {width} {supported} {s} {at} {d} h l =
    let stands : d.at ≡ at + 8 = ap (λ (d : Part). d.at) l.is_data in
    let header : at ≡ d.at - 8 = omega arith in
    record { starts = omega arith; through = subst (λ (n : ℕ). LetThrough width supported s n d) header l }

-- at first nothing is found
sound_nothing : (s : Bytes) → Sound s nothing
sound_nothing s = record { list = λ d e. absurd (absent e); extension = λ d e. absurd (absent e) }
  where
    absent : {d : Part} → None ≡ Some d → ⊥
    absent e = let z : ◌≡◌ {A = ℕ} 0 1 = cc in omega arith

-- one more list, one more extension
module _ {s : Bytes} {f : Found} (k : Sound s f) where
  sound_list : {d : Part} → Lies 16 1024 s d → Sound s (record { list = Some d; extension = f.extension })
  sound_list {d} l = record { list = λ x e. (let same : d ≡ x = cc in rw same at l); extension = k.extension }

  sound_extension : {d : Part} → Lies 104 832 s d × (d.size ≢ 0) → Sound s (record { list = f.list; extension = Some d })
  sound_extension {d} l = record { list = k.list; extension = λ x e. (let same : d ≡ x = cc in rw same at l) }

-- of a walk that is broken off nothing is said
abbrev SoundWalk : Bytes → Walk → Type 0
SoundWalk s (Ok f) = Sound s f
SoundWalk s (Err e) = Unit {0}

sound_once : (s : Bytes) (p : Option Part) (at : ℕ) (w : Walk) → SoundWalk s w → SoundWalk s (once p at w)
unfolding once
sound_once s None at w k = k
sound_once s (Some d) at w k = tt

-- each step passes a header
pub beyond : (s : Bytes) (at : ℕ) → at + 8 ≤ next s at
unfolding next
beyond s at = omega arith

sound_from : (most : ℕ) (s : Bytes) (at : ℕ) (f : Found) → 40 ≤ at → Sound s f → SoundWalk s (walk_from most s at f)
unfolding walk_from follow
sound_from zero s at f b k = k
sound_from (suc most) s at f b k = go (here s at) (vouched s at) (λ g. sound_from most s (next s at) g (omega (arith, beyond s at)))
  where
    go : (h : Result Here Cause) → Vouched s at h → ((g : Found) → Sound s g → SoundWalk s (walk_from most s (next s at) g))
        → SoundWalk s (follow h s at f (walk_from most s))
    go (Ok End) v more = k
    go (Err c) v more = tt
    go (Ok (Entries d)) v more = sound_once s f.list at _ (more _ (sound_list k (lies b v)))
    go (Ok (Extensions d)) v more = sound_once s f.extension at _ (more _ (sound_extension k (lies b v.0, v.1)))

sound_walk : (s : Bytes) → SoundWalk s (walk s)
unfolding walk
sound_walk s = sound_from (length s) s 40 nothing (omega arith) (sound_nothing s)

-- the law, of a segment that is walked whole
pub sound : (s : Bytes) (f : Found) → walk s ≡ Ok f → Sound s f
sound s f e = subst (SoundWalk s) e (sound_walk s)

-- and of a command: a walk that row 7 refuses finds nothing, nor is there anything without a segment
pub sound_found : (c : Command) → Sound (segment c) (found c)
unfolding found walked
sound_found c = go (eqb (continuation c.cdb) 0)
  where
    kept : (w : Walk) → SoundWalk (segment c) w → Sound (segment c) (found_in w)
    kept (Ok f) k = k
    kept (Err e) k = sound_nothing _

    go : (b : Bool) → Sound (segment c) (found_in (cond b (Ok nothing) (walk (segment c))))
    go true = sound_nothing _
    go false = kept (walk (segment c)) (sound_walk _)

-- ---- every entry and every capability lies inside

-- unit k of `size` bytes that are cut into units of `width` and stand at `at`, inside n
pub unit_inside : (width at size n k : ℕ) → at + size ≤ n → k < size / width → at + width * k + width ≤ n
unit_inside width at size n k h l =
    omega (arith, mul-le-mul_right width l, suc-mul k width, mul_comm width k, div-mul-le_self size width)

pub entry_inside : {s : Bytes} {d : Part} → Lies 16 1024 s d → (k : ℕ) → k < d.size / 16 → d.at + 16 * k + 16 ≤ length s
entry_inside {s} {d} l k = unit_inside 16 d.at d.size (length s) k l.through.inside

pub capability_inside : {s : Bytes} {d : Part} → Lies 104 832 s d → (k : ℕ) → k < d.size / 104 → d.at + 104 * k + 104 ≤ length s
capability_inside {s} {d} l k = unit_inside 104 d.at d.size (length s) k l.through.inside

-- ---- the limit of steps

-- at or past the end nothing stands
pub end_here : (s : Bytes) (at : ℕ) → length s ≤ at → here s at ≡ Ok End
unfolding here blank
end_here s at h = rw (lt-ltb (length s - at) 8 (omega arith), drop_of_length-le s h)

-- what follows a descriptor is walked from the next one on, and nowhere else
same_follow : (h : Result Here Cause) (s : Bytes) (at : ℕ) (f : Found) (v w : ℕ → Found → Walk) → ((g : Found) → v (next s at) g ≡ w (next s at) g)
    → follow h s at f v ≡ follow h s at f w
unfolding follow
same_follow (Ok End) s at f v w e = refl
same_follow (Err c) s at f v w e = refl
same_follow (Ok (Entries d)) s at f v w e = ap (once f.list at) (e _)
same_follow (Ok (Extensions d)) s at f v w e = ap (once f.extension at) (e _)

-- Each step passes eight bytes or more, so two limits of no less than the bytes left come to the same.
pub enough : (m n : ℕ) (s : Bytes) (at : ℕ) (f : Found) → length s ≤ at + m → length s ≤ at + n → walk_from m s at f ≡ walk_from n s at f
unfolding walk_from follow
enough zero zero s at f h k = refl
enough zero (suc n) s at f h k = rw (end_here s at (omega arith))
enough (suc m) zero s at f h k = rw (end_here s at (omega arith))
enough (suc m) (suc n) s at f h k =
    same_follow (here s at) s at f _ _ (λ g. enough m n s (next s at) g (omega (arith, beyond s at)) (omega (arith, beyond s at)))

-- so such a limit needn't be counted down
pub onward : (m : ℕ) (s : Bytes) (at : ℕ) (f : Found) → length s ≤ at + m → walk_from m s at f ≡ follow (here s at) s at f (walk_from m s)
unfolding walk_from
onward m s at f h = enough m (suc m) s at f h (omega arith)
