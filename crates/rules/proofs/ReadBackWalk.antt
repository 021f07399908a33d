-- A written segment walked: each descriptor is met where it was put, and let through.
use Rattle.std.specs.Prelude.{Ok, Option, None, Some}
use Rattle.rules.specs.declared.Part.{Part}
use Prim.Native.Nat.{ℕ, ◌+◌, ◌-◌, ◌%◌, ◌^◌, ◌≤◌, ◌<◌}
use mathlib.Core.Path.{◌≡◌, refl, ap, ap₂, sym, subst, ◌∙◌}
use mathlib.Core.Bool.{Bool, true, false, cond, ◌&&◌, not}
use mathlib.Core.List.{[], ◌∷◌, ◌++◌, append_assoc}
use native.Mathlib.Omega.{arith}
use lib.Dec.{eqb, ltb}
use lib.ListN.{length, length-append}
use borrow.Author.Tests.{le-ltb, eq-eqb, ne_eqb}
use Rattle.rules.specs.declared.Here.TheVariants.{Entries, Extensions}
use Rattle.rules.specs.declared.Found.{Found}
use Rattle.rules.specs.Bytes.{Bytes, zeros, to_be}
use Rattle.rules.specs.Tests.{first_of}
use Rattle.rules.specs.Segment.{kind_at, pad_at, size_at, data_at, next, faults, unless, entries_here, extensions_here, here, once, follow}
use Rattle.rules.specs.Segment.{walk_from, walk, nothing}
use Rattle.rules.specs.Writer.{descriptor}
use Rattle.rules.proofs.BigEndian.{length_to_be}
use Rattle.rules.proofs.Spelled.{length_descriptor}
use Rattle.rules.proofs.Segment.{end_here, onward}
use Rattle.rules.proofs.Standing.{Stands, at_front, all_of_it, behind, within, elsewhere, byte_there, field_there, ends_inside}

nested : (a b c d : Bytes) → a ++ b ++ c ++ d ≡ a ++ (b ++ (c ++ d))
nested a b c d = simp append_assoc

-- ---- one descriptor

module _ {at : ℕ} {s : Bytes} (kind : ℕ) (d : Bytes) (k : Stands at (descriptor kind d) s) where
  spread : Stands at (to_be 2 kind ++ (zeros 2 ++ (to_be 4 (length d) ++ d))) s
  unfolding descriptor
  spread = subst (λ (x : Bytes). Stands at x s) (nested (to_be 2 kind) (zeros 2) (to_be 4 (length d)) d) k

  kind_there : kind < 65536 → kind_at s at ≡ kind
  unfolding kind_at
  kind_there h = field_there 2 (elsewhere (omega arith) (within (at_front (to_be 2 kind) (zeros 2 ++ (to_be 4 (length d) ++ d))) spread)) h

  pad_there : pad_at s at ≡ 0
  unfolding pad_at
  pad_there =
      let zero-byte : Stands 3 (0 ∷ (to_be 4 (length d) ++ d)) (to_be 2 kind ++ (zeros 2 ++ (to_be 4 (length d) ++ d))) =
      behind 2 (to_be 2 kind) (length_to_be 2 kind) (behind 1 (0 ∷ []) refl (all_of_it (0 ∷ (to_be 4 (length d) ++ d)))) in
      rw (byte_there (within zero-byte spread))

  size_there : length d < 256 ^ 4 → size_at s at ≡ length d
  unfolding size_at
  size_there h =
      let size : Stands 4 (to_be 4 (length d)) (to_be 2 kind ++ (zeros 2 ++ (to_be 4 (length d) ++ d))) =
      behind 2 (to_be 2 kind) (length_to_be 2 kind) (behind 2 (zeros 2) refl (at_front (to_be 4 (length d)) d)) in
      field_there 4 (within size spread) h

  pub data_there : Stands (at + 8) d s
  data_there =
      let it : Stands 8 d (to_be 2 kind ++ (zeros 2 ++ (to_be 4 (length d) ++ d))) =
      behind 2 (to_be 2 kind) (length_to_be 2 kind) (behind 2 (zeros 2) refl (behind 4 (to_be 4 (length d)) (length_to_be 4 (length d)) (all_of_it d))) in
      within it spread

  pub next_there : length d < 256 ^ 4 → next s at ≡ at + 8 + length d
  unfolding next
  next_there h = rw (size_there h, pad_there) (omega arith)

  -- none of the faults of a known type
  sound : (supported : ℕ) (fits : Bool) → length d ≤ supported → supported < 65536 → length d % 8 ≡ 0 → fits ≡ true
      → first_of (faults supported fits s at) ≡ None
  unfolding faults first_of
  sound supported fits small m eight fit =
      let size : size_at s at ≡ length d = size_there (omega arith) in
      let ends : next s at ≤ length s = omega (arith, next_there (omega arith), ends_inside data_there) in
      rw (size, pad_there, le-ltb supported (length d) small, eq-eqb ((length d + 0) % 8) 0 (omega arith), fit, le-ltb (length s) (next s at) ends)

  header_there : ltb (length s - at) 8 ≡ false
  header_there = le-ltb (length s - at) 8 (omega (arith, ends_inside data_there))

-- what stands where a list, or an extension, was put
pub list_there : {at : ℕ} {s : Bytes} (d : Bytes) → Stands at (descriptor 0x0001 d) s → length d ≤ 1024 → length d % 16 ≡ 0
    → here s at ≡ Ok (Entries (record { at = at + 8; size = length d }))
unfolding here entries_here unless data_at
list_there {at} {s} d k small whole =
    let size : size_at s at ≡ length d = size_there 0x0001 d k (omega arith) in
    let fit : eqb (size_at s at % 16) 0 ≡ true = eq-eqb (size_at s at % 16) 0 (rw size whole) in
    rw (
      header_there 0x0001 d k,
      kind_there 0x0001 d k (omega arith),
      sound 0x0001 d k 1024 (eqb (size_at s at % 16) 0) small (omega arith) (omega arith) fit,
      size,
    )

pub extension_there : {at : ℕ} {s : Bytes} (d : Bytes) → Stands at (descriptor 0xFFEE d) s → length d ≤ 832 → length d % 104 ≡ 0 → (length d ≡ 0 → ⊥)
    → here s at ≡ Ok (Extensions (record { at = at + 8; size = length d }))
unfolding here extensions_here unless data_at
extension_there {at} {s} d k small whole some_data =
    let size : size_at s at ≡ length d = size_there 0xFFEE d k (omega arith) in
    let fit : eqb (size_at s at % 104) 0 && not (eqb (size_at s at) 0) ≡ true =
    rw (size, eq-eqb (length d % 104) 0 whole, ne_eqb (length d) 0 some_data) in
    rw (
      header_there 0xFFEE d k,
      kind_there 0xFFEE d k (omega arith),
      sound 0xFFEE d k 832 (eqb (size_at s at % 104) 0 && not (eqb (size_at s at) 0)) small (omega arith) (omega arith) fit,
      size,
    )

-- ---- the walk, step by step

-- a descriptor and its data, if there is one
abbrev pub optional : Bool → (kind : ℕ) → (d : Bytes) → Bytes
optional b kind d = cond b (descriptor kind d) []

abbrev pub extent : Bool → (d : Bytes) → ℕ
extent b d = cond b (8 + length d) 0

abbrev spot : Bool → (at : ℕ) → (d : Bytes) → Option Part
spot b at d = cond b (Some (record { at = at; size = length d })) None

-- a list's data, and an extension's, that the walk lets through
pub record ListData (d : Bytes) : Type 0 where
  pub small : length d ≤ 1024
  pub whole : length d % 16 ≡ 0

pub record ExtensionData (d : Bytes) : Type 0 where
  pub small : length d ≤ 832
  pub whole : length d % 104 ≡ 0
  pub some_data : length d ≡ 0 → ⊥

module _ (s d : Bytes) (at : ℕ) (f : Found) where
  -- nothing stands there
  stays : {g : Found} → f ≡ g → walk_from (length s) s at f ≡ walk_from (length s) s (at + 0) g
  stays e = let n : at ≡ at + 0 = omega arith in ap₂ (walk_from (length s) s) n e

  past_list : (b : Bool) → (b ≡ true → ListData d) → f.list ≡ None → Stands at (optional b 0x0001 d) s
      → walk_from (length s) s at f ≡ walk_from (length s) s (at + extent b d) (record { list = spot b (at + 8) d; extension = f.extension })
  unfolding follow once
  past_list true ok e k =
      let o : ListData d = ok refl in
      let n : next s at ≡ at + (8 + length d) = next_there 0x0001 d k (omega (arith, o.small)) ∙ omega arith in
      onward (length s) s at f (omega arith) ∙ rw (list_there d k o.small o.whole, e, n)
  past_list false ok e k = stays (λ i. record { list = e i; extension = f.extension })

  past_extension : (b : Bool) → (b ≡ true → ExtensionData d) → f.extension ≡ None → Stands at (optional b 0xFFEE d) s
      → walk_from (length s) s at f ≡ walk_from (length s) s (at + extent b d) (record { list = f.list; extension = spot b (at + 8) d })
  unfolding follow once
  past_extension true ok e k =
      let o : ExtensionData d = ok refl in
      let n : next s at ≡ at + (8 + length d) = next_there 0xFFEE d k (omega (arith, o.small)) ∙ omega arith in
      onward (length s) s at f (omega arith) ∙ rw (extension_there d k o.small o.whole o.some_data, e, n)
  past_extension false ok e k = stays (λ i. record { list = f.list; extension = e i })

at_end : (s : Bytes) (at : ℕ) (f : Found) → length s ≤ at → walk_from (length s) s at f ≡ Ok f
unfolding follow
at_end s at f h = onward (length s) s at f (omega arith) ∙ rw (end_here s at h)

-- ---- a whole segment: 40 bytes, a list with data d or none, an extension with data e or none

optional_length : (b : Bool) (kind : ℕ) (d : Bytes) → length (optional b kind d) ≡ extent b d
optional_length true kind d = length_descriptor kind d
optional_length false kind d = refl

-- the data of a descriptor that is there
inner : {at : ℕ} {s : Bytes} (b : Bool) (kind : ℕ) (d : Bytes) → b ≡ true → Stands at (optional b kind d) s → Stands (at + 8) d s
inner {at} {s} b kind d t k = data_there kind d (subst (λ (x : Bool). Stands at (optional x kind d) s) t k)

module _ (h d e : Bytes) (l x : Bool) (head : length h ≡ 40) where
  list_stands : Stands 40 (optional l 0x0001 d) (h ++ optional l 0x0001 d ++ optional x 0xFFEE e)
  list_stands =
      subst (λ (s : Bytes). Stands 40 (optional l 0x0001 d) s) (sym (append_assoc h (optional l 0x0001 d) (optional x 0xFFEE e)))
      (elsewhere (omega arith) (behind 40 h head (at_front (optional l 0x0001 d) (optional x 0xFFEE e))))

  front_length : length (h ++ optional l 0x0001 d) ≡ 40 + extent l d
  front_length = length-append h (optional l 0x0001 d) ∙ rw (head, optional_length l 0x0001 d)

  extension_stands : Stands (40 + extent l d) (optional x 0xFFEE e) (h ++ optional l 0x0001 d ++ optional x 0xFFEE e)
  extension_stands =
      elsewhere (omega arith) (behind (40 + extent l d) (h ++ optional l 0x0001 d) front_length (all_of_it (optional x 0xFFEE e)))

  -- where the data stands
  pub list_data : l ≡ true → Stands 48 d (h ++ optional l 0x0001 d ++ optional x 0xFFEE e)
  list_data t = inner l 0x0001 d t list_stands

  pub extension_data : x ≡ true → Stands (48 + extent l d) e (h ++ optional l 0x0001 d ++ optional x 0xFFEE e)
  extension_data t = elsewhere (omega arith) (inner x 0xFFEE e t extension_stands)

  pub whole_length : length (h ++ optional l 0x0001 d ++ optional x 0xFFEE e) ≡ 40 + extent l d + extent x e
  whole_length =
      length-append (h ++ optional l 0x0001 d) (optional x 0xFFEE e) ∙ rw (front_length, optional_length x 0xFFEE e)

  pub walk_whole : (l ≡ true → ListData d) → (x ≡ true → ExtensionData e)
      → walk (h ++ optional l 0x0001 d ++ optional x 0xFFEE e) ≡ Ok (record { list = spot l 48 d; extension = spot x (48 + extent l d) e })
  unfolding walk
  walk_whole list extension =
      let s : Bytes = h ++ optional l 0x0001 d ++ optional x 0xFFEE e in
      let at : 40 + extent l d + 8 ≡ 48 + extent l d = omega arith in
      past_list s d 40 nothing l list refl list_stands
      ∙ past_extension s e (40 + extent l d) (record { list = spot l 48 d; extension = None }) x extension refl extension_stands
      ∙ at_end s _ _ (omega (arith, whole_length))
      ∙ ap (λ (m : ℕ). Ok (record { list = spot l 48 d; extension = spot x m e })) at
