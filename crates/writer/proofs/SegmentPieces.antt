-- What the segment's pieces come to that are written one behind the other.
use Prim.Native.Nat.{ℕ, zero-le, ◌+◌, ◌*◌, ◌-◌, ◌≤◌, ◌<◌}
use mathlib.Core.Path.{◌≡◌, refl, ap, sym, ◌∙◌}
use mathlib.Core.List.{List, [], ◌∷◌, ◌++◌}
use mathlib.Core.Bool.{Bool, true, false, cond, ◌||◌, or-true}
use native.Mathlib.Nat.{le_of_eq}
use native.Mathlib.Omega.{arith}
use lib.ListN.{length, drop, length-append, length-drop}
use lib.Seq.{take_all}
use lib.Dec.{ltb}
use borrow.Author.Tests.{lt-ltb, le-ltb}
use Rattle.rules.specs.Bytes.{Bytes, part, zeros, to_be, laid}
use Rattle.rules.specs.Writer.{Request, paired, spelled, descriptor}
use Rattle.rules.proofs.BigEndian.{length_to_be}
use Rattle.rules.proofs.Spelled.{length_spelled, length_paired, length_descriptor}
use Rattle.rules.proofs.Lists.{laid_nothing}
use Rattle.rules.proofs.Laying.{laid_next, first_piece, next_piece}
use Rattle.writer.proofs.Beside.{length_pair}
use Rattle.std.specs.Prelude.{Some, None, is_some}
use Rattle.writer.specs.declared.List.{List as Listing}
use Rattle.writer.specs.declared.Request.{Request as Asked}
use Rattle.writer.specs.Asked.{request_of}
use Rattle.writer.specs.SegmentParts.{IsFit, segment_head, list_part, extension_part, segment_parts, size_for}
use Rattle.writer.proofs.Numbers.{format_number, own_number}

-- ---- the segment's head

length_head : (a : ℕ) → length (segment_head a) ≡ 40
unfolding segment_head
length_head a = simp (length-append, length_to_be)

pub head_laid : (a : ℕ) (s : Bytes) {t u : Bytes} → a < 65536 → t ≡ laid 0 (to_be 4 (0x01000000 + a)) s → u ≡ laid 4 (zeros 36) t
    → u ≡ laid 0 (segment_head a) s
unfolding segment_head
head_laid a s h first second =
    (next_piece (zeros 36) (first_piece s (to_be 4 (0x01000000 + a)) (length_to_be 4 (0x01000000 + a)) first zero-le) refl refl second).is
    ∙ rw (format_number a h)

-- ---- a descriptor: its own eight bytes, then its data

described : (at kind n : ℕ) (d s : Bytes) {t u : Bytes} → at ≤ length s → length d ≡ n → n < 4294967296
    → t ≡ laid at (to_be 8 (kind * 0x1000000000000 + n)) s → u ≡ laid (at + 8) d t → u ≡ laid at (descriptor kind d) s
unfolding descriptor
described at kind n d s room l small own rest =
    (next_piece d (first_piece s (to_be 8 (kind * 0x1000000000000 + n)) (length_to_be 8 (kind * 0x1000000000000 + n)) own room) refl l rest).is
    ∙ rw (own_number kind n small, l)

-- ---- the list

length_entries : (os ns : List ℕ) → length os ≡ length ns → length (spelled (paired os ns)) ≡ 16 * length os
length_entries os ns e = length_spelled (paired os ns) ∙ ap (λ (k : ℕ). 16 * k) (length_paired os ns e)

-- one entry, and the others behind it
entry_first : (at x y : ℕ) (os ns : List ℕ) (s : Bytes) → at ≤ length s
    → laid at (spelled (paired (x ∷ os) (y ∷ ns))) s ≡ laid (at + 16) (spelled (paired os ns)) (laid at (to_be 8 x ++ to_be 8 y) s)
unfolding paired spelled
entry_first at x y os ns s room =
    sym (laid_next at (to_be 8 x ++ to_be 8 y) (spelled (paired os ns)) s room)
    ∙ ap (λ (n : ℕ). laid (at + n) (spelled (paired os ns)) (laid at (to_be 8 x ++ to_be 8 y) s)) (length_pair x y)

-- one turn of the loop: o and n are its entry
pub entry_more : (at o n : ℕ) (s : Bytes) {os ns os' ns' : List ℕ} {t whole : Bytes} → os ≡ o ∷ os' → ns ≡ n ∷ ns' → at ≤ length s
    → t ≡ laid at (to_be 8 o ++ to_be 8 n) s → laid at (spelled (paired os ns)) s ≡ whole
    → laid (at + 16) (spelled (paired os' ns')) t ≡ whole
entry_more at o n s {os} {ns} {os'} {ns'} {t} {whole} eo en room one all =
    ap (laid (at + 16) (spelled (paired os' ns'))) one ∙ sym (entry_first at o n os' ns' s room) ∙ (rw (eo, en) at all)

-- no entry is left
pub entries_end : (at : ℕ) (os ns : List ℕ) (s : Bytes) → length os ≡ 0 → laid at (spelled (paired os ns)) s ≡ s
unfolding paired spelled
entries_end at [] ns s e = laid_nothing at s
entries_end at (o ∷ os) ns s e = absurd (omega arith)

length_list : (q : Request) → (q.listed ≡ true → length q.offsets ≡ length q.lengths)
    → length (list_part q) ≡ cond q.listed (8 + 16 * length q.offsets) 0
unfolding list_part
length_list q equal = go q.listed equal
  where
    go : (l : Bool) → (l ≡ true → length q.offsets ≡ length q.lengths)
        → length (cond l (descriptor 0x0001 (spelled (paired q.offsets q.lengths))) []) ≡ cond l (8 + 16 * length q.offsets) 0
    go true h =
        length_descriptor 0x0001 (spelled (paired q.offsets q.lengths)) ∙ ap (λ (k : ℕ). 8 + k) (length_entries q.offsets q.lengths (h refl))
    go false h = refl

-- what is asked of a list
pub fit_list : (r : Asked) (l : Listing) → IsFit (request_of r) → r.list ≡ Some l
    → (length l.offsets.now ≡ length l.lengths.now) × (length l.offsets.now ≤ 64)
fit_list r l fit is =
    let listed : is_some r.list ≡ true = rw is in (
      rw is at (fit.equal listed),
      rw is at (fit.few listed),
    )

pub list_length : (r : Asked) (l : Listing) → IsFit (request_of r) → r.list ≡ Some l
    → length (list_part (request_of r)) ≡ 8 + 16 * length l.offsets.now
list_length r l fit is = length_list (request_of r) fit.equal ∙ rw is

module _ (r : Asked) (s : Bytes) (is : r.list ≡ None) where
  pub no_list_end : 40 ≡ 40 + length (list_part (request_of r))
  unfolding list_part
  no_list_end = rw is

  pub no_list_bytes : s ≡ laid 40 (list_part (request_of r)) s
  unfolding list_part
  no_list_bytes = rw is (sym (laid_nothing 40 s))

module _ (r : Asked) (l : Listing) (fit : IsFit (request_of r)) (is : r.list ≡ Some l) where
  pub list_end : 48 + 16 * length l.offsets.now ≡ 40 + length (list_part (request_of r))
  list_end = omega (arith, list_length r l fit is)

  pub list_bytes : (s : Bytes) {t u : Bytes} → 40 ≤ length s
      → t ≡ laid 40 (to_be 8 (0x0001000000000000 + 16 * length l.offsets.now)) s
      → u ≡ laid 48 (spelled (paired l.offsets.now l.lengths.now)) t
      → u ≡ laid 40 (list_part (request_of r)) s
  unfolding list_part
  list_bytes s room own rest =
      let f = fit_list r l fit is in
      rw is
      (described 40 0x0001 (16 * length l.offsets.now) (spelled (paired l.offsets.now l.lengths.now)) s room
      (length_entries l.offsets.now l.lengths.now f.0) (omega (arith, f.1)) own rest)

-- what `writer::put_list` meets its contract by
pub ruleset lists = (list_length, no_list_end, no_list_bytes, list_end, list_bytes)

-- ---- the extension

length_extension : (k : Bytes) → length (extension_part k) ≡ cond (ltb 104 (length k)) (8 + (length k - 104)) 0
length_extension k = go (ltb 104 (length k)) refl
  where
    go : (b : Bool) → ltb 104 (length k) ≡ b → length (extension_part k) ≡ cond b (8 + (length k - 104)) 0
    go true e = unfold extension_part in rw e (length_descriptor 0xFFEE (drop 104 k) ∙ rw length-drop)
    go false e = unfold extension_part in rw e

pub extension_length : (k : Bytes) → 104 < length k → length (extension_part k) ≡ 8 + (length k - 104)
extension_length k h = length_extension k ∙ rw (lt-ltb 104 (length k) h)

module _ (at : ℕ) (k s : Bytes) where
  -- no capability past the first
  pub no_extension : length k ≤ 104 → s ≡ laid at (extension_part k) s
  unfolding extension_part
  no_extension h = rw (le-ltb 104 (length k) h) (sym (laid_nothing at s))

  pub extension_laid : {t u : Bytes} → 104 < length k → length k ≤ 936 → at ≤ length s
      → t ≡ laid at (to_be 8 (0xFFEE000000000000 + (length k - 104))) s → u ≡ laid (at + 8) (part 104 (length k - 104) k) t
      → u ≡ laid at (extension_part k) s
  unfolding extension_part
  extension_laid h few room own rest =
      let all : part 104 (length k - 104) k ≡ drop 104 k = take_all (length k - 104) (drop 104 k) (le_of_eq (length-drop 104 k)) in
      rw (lt-ltb 104 (length k) h) (described at 0xFFEE (length k - 104) (drop 104 k) s room (length-drop 104 k) (omega arith) own (rw all at rest))

-- what `writer::put_extension` meets its contract by
pub ruleset extensions = (no_extension, extension_length, extension_laid)

-- ---- the whole segment

pub parts_length : (q : Request) → (q.listed ≡ true → length q.offsets ≡ length q.lengths) → length (segment_parts q) ≡ size_for q
unfolding segment_parts size_for
parts_length q equal = go (q.listed || ltb 104 (length q.capabilities))
  where
    go : (b : Bool)
        → length (cond b (segment_head q.action ++ list_part q ++ extension_part q.capabilities) [])
        ≡ cond b (40 + cond q.listed (8 + 16 * length q.offsets) 0 + cond (ltb 104 (length q.capabilities)) (8 + (length q.capabilities - 104)) 0) 0
    go true =
        length-append (segment_head q.action ++ list_part q) (extension_part q.capabilities)
        ∙ rw (length-append (segment_head q.action) (list_part q), length_head q.action, length_list q equal, length_extension q.capabilities)
    go false = refl

-- a list or an extension
pub record HasSegment (q : Request) : Type 0 where
  pub is : q.listed || ltb 104 (length q.capabilities) ≡ true

pub for_list : (r : Asked) → is_some r.list ≡ true → HasSegment (request_of r)
for_list r e = record { is = rw e }

pub for_extension : (r : Asked) → 104 < length r.capabilities.now → HasSegment (request_of r)
for_extension r h = record { is = rw (lt-ltb 104 (length r.capabilities.now) h) (or-true (is_some r.list)) }

pub no_segment : (r : Asked) (s : Bytes) → is_some r.list ≡ false → length r.capabilities.now ≤ 104
    → s ≡ laid 0 (segment_parts (request_of r)) s
unfolding segment_parts
no_segment r s e h = rw (le-ltb 104 (length r.capabilities.now) h, e) (sym (laid_nothing 0 s))

pub segment_room : (q : Request) → IsFit q → HasSegment q → size_for q ≡ 40 + length (list_part q) + length (extension_part q.capabilities)
unfolding size_for
segment_room q fit some = rw (some.is, length_list q fit.equal, length_extension q.capabilities)

pub segment_laid : (q : Request) (s : Bytes) {at : ℕ} {t u v : Bytes} → HasSegment q → t ≡ laid 0 (segment_head q.action) s
    → at ≡ 40 + length (list_part q) → u ≡ laid 40 (list_part q) t
    → v ≡ laid at (extension_part q.capabilities) u
    → v ≡ laid 0 (segment_parts q) s
unfolding segment_parts
segment_laid q s some head end list extension =
    let p₁ = first_piece s (segment_head q.action) (length_head q.action) head zero-le in
    let p₂ = next_piece (list_part q) p₁ refl refl list in
    (next_piece (extension_part q.capabilities) p₂ (omega (arith, end)) refl extension).is ∙ rw some.is

-- what `writer::put_segment` meets its contract by
pub ruleset segments = (for_list, for_extension, no_segment, segment_room, segment_laid)
