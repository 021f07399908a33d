-- The answer put together: which refusal comes first, and that the pieces are the CDB and the segment of the book.
use Rattle.std.specs.Prelude.{is_some, Option, None, Some, Ok, Err}
use Prim.Native.Nat.{ℕ, ◌%◌, ◌≤◌, ◌<◌}
use mathlib.Core.Path.{◌≡◌, refl, ap, sym, ◌∙◌}
use mathlib.Core.Bool.{Bool, true, false, cond, ◌||◌, not, or-true}
use mathlib.Core.Logic.{◌⊎◌, inl, inr}
use mathlib.Core.List.{List, [], ◌∷◌, ◌++◌}
use native.Mathlib.Nat.{le_refl}
use native.Mathlib.Omega.{arith}
use lib.ListN.{length}
use lib.Dec.{eqb, ltb}
use borrow.Author.Tests.{lt-ltb, le-ltb, not-true, not-false}
use Rattle.rules.specs.Bytes.{Bytes, laid}
use Rattle.rules.specs.Tests.{Test, test, first_of}
use Rattle.rules.specs.Command.{verb_of}
use Rattle.rules.specs.Writer.{Request, entries, extended, length_for, segment_for, cdb_for, refusals, writes, written}
use Rattle.rules.proofs.Laying.{laid_first}
use Rattle.rules.proofs.Accepted.{Accepted, accepted, fits_field, one_given}
use Rattle.writer.specs.declared.Unwritten.{Unwritten}
use Rattle.writer.specs.declared.Unwritten.TheVariants.{NotACommand, BuffersShort}
use Rattle.writer.specs.CdbParts.{cdb_parts}
use Rattle.writer.specs.SegmentParts.{IsFit, segment_head, list_part, extension_part, segment_parts, size_for}
use Rattle.writer.specs.Planning.{list_tests, planned}
use Rattle.writer.specs.Post.{Wrote, number_of}
use Rattle.writer.proofs.SegmentPieces.{parts_length}

-- ---- refusals

-- whether the capability bytes' number is refused
abbrev capabilities_refused : Request → Bool
capabilities_refused q = eqb (length q.capabilities) 0 || ltb 936 (length q.capabilities) || not (eqb (length q.capabilities % 104) 0)

-- a table whose tests in front all give n
abbrev Give : (n : ℕ) → List (Test ℕ) → Type 0
Give n [] = Unit {0}
Give n (t ∷ ts) = (t.gives ≡ n) × Give n ts

grouped : (n : ℕ) (ts us : List (Test ℕ)) → Give n ts → first_of (ts ++ us) ≡ cond (is_some (first_of ts)) (Some n) (first_of us)
unfolding first_of
grouped n [] us g = refl
grouped n (t ∷ ts) us g = go t.holds (grouped n ts us g.1)
  where
    go : (b : Bool) → first_of (ts ++ us) ≡ cond (is_some (first_of ts)) (Some n) (first_of us)
        → cond b (Some t.gives) (first_of (ts ++ us)) ≡ cond (is_some (cond b (Some t.gives) (first_of ts))) (Some n) (first_of us)
    go true e = ap Some g.0
    go false e = e

-- seven tests refuse with 16, and the five of the list may be taken as one
ordered : (q : Request) (c s : ℕ)
    → first_of (refusals q c s)
    ≡ cond (not (is_some (verb_of q.action))) (Some 16)
    (cond (capabilities_refused q) (Some 16)
    (cond (is_some (first_of (list_tests q))) (Some 16) (cond (ltb c 236 || ltb s (length (segment_for q))) (Some 17) None)))
unfolding refusals list_tests first_of
ordered q c s =
    ap (λ (o : Option ℕ). cond (not (is_some (verb_of q.action))) (Some 16) (cond (capabilities_refused q) (Some 16) o))
    (grouped 16 (list_tests q) (test 17 (ltb c 236 || ltb s (length (segment_for q))) ∷ []) (refl, (refl, (refl, (refl, (refl, tt))))))

-- what the plan says
plan_none : (q : Request) → None ≡ planned q → is_some (first_of (list_tests q)) ≡ true
unfolding planned
plan_none q e = go (is_some (first_of (list_tests q))) e
  where
    go : (b : Bool) → None ≡ cond b None (Some (length_for q)) → b ≡ true
    go true h = refl
    go false h = cc

plan_some : (q : Request) (t : ℕ) → Some t ≡ planned q → (is_some (first_of (list_tests q)) ≡ false) × (t ≡ length_for q)
unfolding planned
plan_some q t e = go (is_some (first_of (list_tests q))) e
  where
    go : (b : Bool) → Some t ≡ cond b None (Some (length_for q)) → (b ≡ false) × (t ≡ length_for q)
    go true h = absurd cc
    go false h = (refl, cc)

-- ---- what `put_cdb` and `put_segment` write is what the book says

segment_parts_lem : (q : Request) → segment_for q ≡ segment_parts q
unfolding segment_for segment_parts segment_head list_part extension_part extended entries
segment_parts_lem q = refl

cdb_parts_lem : (q : Request) → cdb_for q ≡ cdb_parts q (length_for q) (length (segment_for q))
unfolding cdb_for cdb_parts
cdb_parts_lem q = refl

-- ---- the answer

-- each answer where both buffers stay as they are
module _ (q : Request) (c s : Bytes) where
  refusing : (e : Unwritten) → first_of (refusals q (length c) (length s)) ≡ Some (number_of (Err e)) → Wrote (written q c s) (Err e) c s
  unfolding written writes
  refusing e is = rw is (record { number = refl; size = refl; cdb = refl; segment = refl })

  -- nothing stands in front but what gives the same
  pub unknown : is_some (verb_of q.action) ≡ false → Wrote (written q c s) (Err NotACommand) c s
  unknown e = refusing NotACommand (ordered q (length c) (length s) ∙ rw e)

  pub unsized : not (capabilities_refused q) ≡ false → Wrote (written q c s) (Err NotACommand) c s
  unsized e = refusing NotACommand (ordered q (length c) (length s) ∙ rw (not-false _ e) (go (is_some (verb_of q.action))))
    where
      go : (b : Bool) → cond {A = Option ℕ} (not b) (Some 16) (Some 16) ≡ Some 16
      go true = refl
      go false = refl

  pub unplanned : None ≡ planned q → Wrote (written q c s) (Err NotACommand) c s
  unplanned e =
      refusing NotACommand (ordered q (length c) (length s) ∙ rw (plan_none q e) (go (is_some (verb_of q.action)) (capabilities_refused q)))
    where
      go : (b d : Bool) → cond {A = Option ℕ} (not b) (Some 16) (cond d (Some 16) (Some 16)) ≡ Some 16
      go true true = refl
      go true false = refl
      go false d = refl

-- what the writer has found when it looks at the buffers: nothing refuses the request itself, and LENGTH is t
module _ (q : Request) (t : ℕ) (known : is_some (verb_of q.action) ≡ true) (sized : not (capabilities_refused q) ≡ true) (plan : Some t ≡ planned q) where
  -- then only the buffers can be too short
  open_ended : (c s : ℕ) → first_of (refusals q c s) ≡ cond (ltb c 236 || ltb s (length (segment_for q))) (Some 17) None
  open_ended c s = ordered q c s ∙ rw (known, not-true _ sized, (plan_some q t plan).0)

  acceptable : Accepted q
  acceptable =
      let n : ℕ = length (segment_for q) in
      (accepted q 236 n (open_ended 236 n ∙ rw (le-ltb n n (le_refl n)))).0

  pub fit : IsFit q
  fit =
      let a = acceptable in
      record { action = fits_field q.action known; given = one_given a; limited = a.limited; equal = a.equal; few = a.few }

  size_is : size_for q ≡ length (segment_for q)
  size_is = sym (ap length (segment_parts_lem q) ∙ parts_length q acceptable.equal)

  module _ (c s : Bytes) {n : ℕ} (size : n ≡ size_for q) where
    pub too_short : (length c < 236) ⊎ ((236 ≤ length c) × (length s < n)) → Wrote (written q c s) (Err BuffersShort) c s
    too_short (inl h) = refusing q c s BuffersShort (open_ended (length c) (length s) ∙ rw (lt-ltb (length c) 236 h))
    too_short (inr h) =
        let l : length s < length (segment_for q) = omega (arith, h.1, size, size_is) in
        refusing q c s BuffersShort (open_ended (length c) (length s) ∙ rw (lt-ltb (length s) (length (segment_for q)) l, or-true))

    -- and where both are written
    pub carried_out : {c' s' : Bytes} → 236 ≤ length c → n ≤ length s → c' ≡ laid 0 (cdb_parts q t n) c → s' ≡ laid 0 (segment_parts q) s
        → Wrote (written q c s) (Ok n) c' s'
    unfolding written writes
    carried_out hc hs ec es =
        let is : n ≡ length (segment_for q) = size ∙ size_is in
        let total : t ≡ length_for q = (plan_some q t plan).1 in
        let none_left : first_of (refusals q (length c) (length s)) ≡ None =
        open_ended (length c) (length s) ∙ rw (le-ltb (length c) 236 hc, le-ltb (length s) (length (segment_for q)) (omega arith)) in
        rw none_left
        (record {
          number = refl;
          size = is;
          cdb = ec ∙ rw (total, is, ← cdb_parts_lem q) (laid_first (cdb_for q) c);
          segment = es ∙ rw (← segment_parts_lem q) (laid_first (segment_for q) s);
        })

-- what `writer::write_command` meets its contract by
pub ruleset answers = (unknown, unsized, unplanned, fit, too_short, carried_out)
