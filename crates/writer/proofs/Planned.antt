-- The five tests of the list, as the writer makes them.
use Rattle.std.specs.Prelude.{is_some, Option, None, Some}
use Prim.Native.Nat.{ℕ, ◌^◌, ◌<◌, ◌≤◌}
use mathlib.Core.Path.{◌≡◌, refl, sym, ap, ◌∙◌}
use mathlib.Core.Bool.{Bool, true, false, cond, ◌&&◌, or-true, and-false, true≢false}
use mathlib.Core.List.{List}
use native.Mathlib.Nat.{le_of_eq}
use native.Mathlib.Omega.{arith}
use lib.ListN.{length, take}
use lib.Seq.{take_all, take-length}
use lib.Dec.{ltb}
use borrow.Author.Tests.{ne_eqb, eq-eqb, lt-ltb, le-ltb, le-leb, lt-leb, ltb-true, ltb-false}
use Rattle.rules.specs.Tests.{Test, first_of}
use Rattle.rules.specs.Command.{WRITE, CLEAR, PUNCH, verb_of, asks, is_write}
use Rattle.rules.specs.Ranges.{total, overlapping}
use Rattle.rules.specs.Writer.{Request, paired, entries, length_for, refusals}
use Rattle.rules.proofs.First.{holds_at, nothing_holds}
use Rattle.ranges.specs.Sums.{summed}
use Rattle.writer.specs.declared.List.{List as Listing}
use Rattle.writer.specs.declared.Request.{Request as Asked}
use Rattle.writer.specs.Asked.{request_of}
use Rattle.writer.specs.Planning.{list_tests, planned}
use Rattle.writer.proofs.Verbs.{not_write, may_list}

-- a test that holds: there is a first one
pub some_holds : (ts : List (Test ℕ)) (k : ℕ) → holds_at ts k ≡ true → is_some (first_of ts) ≡ true
some_holds ts k h = go (first_of ts) refl
  where
    go : (o : Option ℕ) → first_of ts ≡ o → is_some o ≡ true
    go None e = absurd (true≢false (sym h ∙ nothing_holds ts e k))
    go (Some n) e = refl

-- what a sum says of the total
sum_over : (t : ℕ) → None ≡ summed t → 2 ^ 64 ≤ t
unfolding summed
sum_over t e = go (ltb t (2 ^ 64)) refl e
  where
    go : (b : Bool) → ltb t (2 ^ 64) ≡ b → None ≡ cond b (Some t) None → 2 ^ 64 ≤ t
    go true h f = let z : ◌≡◌ {A = ℕ} 0 1 = cc in absurd (omega arith)
    go false h f = ltb-false t (2 ^ 64) h

sum_fits : (t s : ℕ) → Some s ≡ summed t → (s ≡ t) × (t < 2 ^ 64)
unfolding summed
sum_fits t s e = go (ltb t (2 ^ 64)) refl e
  where
    go : (b : Bool) → ltb t (2 ^ 64) ≡ b → Some s ≡ cond b (Some t) None → (s ≡ t) × (t < 2 ^ 64)
    go true h f = (cc, ltb-true t (2 ^ 64) h)
    go false h f = let z : ◌≡◌ {A = ℕ} 0 1 = cc in absurd (omega arith)

module _ (q : Request) where
  by_test : (k : ℕ) → holds_at (list_tests q) k ≡ true → None ≡ planned q
  unfolding planned
  by_test k h = rw (some_holds (list_tests q) k h)

pub unlisted : (r : Asked) → r.list ≡ None → Some r.size ≡ planned (request_of r)
unfolding planned list_tests refusals first_of length_for
unlisted r e = rw e

module _ (r : Asked) (l : Listing) (is : r.list ≡ Some l) where
  pub unequal : (length l.offsets.now ≡ length l.lengths.now → ⊥) → None ≡ planned (request_of r)
  unfolding list_tests refusals
  unequal n = by_test (request_of r) 0 (rw (is, ne_eqb (length l.offsets.now) (length l.lengths.now) n))

  pub too_long : 64 < length l.offsets.now → None ≡ planned (request_of r)
  unfolding list_tests refusals
  too_long n = by_test (request_of r) 0 (rw (is, lt-ltb 64 (length l.offsets.now) n, or-true))

  pub cleared : r.action ≡ CLEAR → None ≡ planned (request_of r)
  unfolding list_tests refusals verb_of first_of
  cleared a = by_test (request_of r) 1 (rw (is, a))

  pub punched : r.action ≡ PUNCH → None ≡ planned (request_of r)
  unfolding list_tests refusals verb_of first_of
  punched a = by_test (request_of r) 1 (rw (is, a))

  pub started : (r.start ≡ 0 → ⊥) → None ≡ planned (request_of r)
  unfolding list_tests refusals
  started s = by_test (request_of r) 2 (rw (is, ne_eqb r.start 0 s))

  -- of slices of one length, the first so many entries are all of them
  all_taken : length l.offsets.now ≡ length l.lengths.now → take (length l.offsets.now) l.lengths.now ≡ l.lengths.now
  all_taken e = take_all (length l.offsets.now) l.lengths.now (le_of_eq (sym e))

  -- what `sum_of` says of the list's lengths, whatever the offsets
  of_entries : {s : Option ℕ} → length l.offsets.now ≡ length l.lengths.now
      → ((os : List ℕ) → length os ≡ length l.offsets.now → s ≡ summed (total (paired os (take (length l.offsets.now) l.lengths.now))))
      → s ≡ summed (total (paired l.offsets.now l.lengths.now))
  of_entries e says = says l.offsets.now refl ∙ rw (all_taken e)

  pub sum_too_large : length l.offsets.now ≡ length l.lengths.now
      → ((os : List ℕ) → length os ≡ length l.offsets.now → None ≡ summed (total (paired os (take (length l.offsets.now) l.lengths.now))))
      → None ≡ planned (request_of r)
  unfolding list_tests refusals entries
  sum_too_large e says =
      let t : ℕ = total (paired l.offsets.now l.lengths.now) in
      by_test (request_of r) 3 (rw is (le-leb (2 ^ 64) t (sum_over t (of_entries e says))))

  -- what `overlap` says of the list
  overlap_of : {b : Bool} → length l.offsets.now ≡ length l.lengths.now
      → b ≡ overlapping (paired (take (length l.offsets.now) l.offsets.now) (take (length l.offsets.now) l.lengths.now))
      → b ≡ overlapping (paired l.offsets.now l.lengths.now)
  overlap_of e b = b ∙ rw (take-length l.offsets.now, all_taken e)

  pub shared : {b : Bool} → length l.offsets.now ≡ length l.lengths.now → r.action ≡ WRITE
      → b ≡ overlapping (paired (take (length l.offsets.now) l.offsets.now) (take (length l.offsets.now) l.lengths.now)) → b ≡ true
      → None ≡ planned (request_of r)
  unfolding list_tests refusals entries verb_of first_of
  shared e a o t = by_test (request_of r) 4 (rw (is, a) (sym (overlap_of e o) ∙ t))

  -- the last of the five doesn't hold
  pub apart : {b : Bool} → length l.offsets.now ≡ length l.lengths.now
      → b ≡ overlapping (paired (take (length l.offsets.now) l.offsets.now) (take (length l.offsets.now) l.lengths.now)) → b ≡ false
      → asks (verb_of r.action) is_write && overlapping (paired l.offsets.now l.lengths.now) ≡ false
  apart e o f = rw (sym (overlap_of e o) ∙ f) (and-false (asks (verb_of r.action) is_write))

  pub no_write : (r.action ≡ WRITE → ⊥) → asks (verb_of r.action) is_write && overlapping (paired l.offsets.now l.lengths.now) ≡ false
  no_write w = rw (not_write r.action w)

  -- nor do the others
  pub passes : {t : ℕ} → length l.offsets.now ≡ length l.lengths.now → length l.offsets.now ≤ 64
      → (r.action ≡ CLEAR → ⊥) → (r.action ≡ PUNCH → ⊥) → r.start ≡ 0
      → ((os : List ℕ) → length os ≡ length l.offsets.now → Some t ≡ summed (total (paired os (take (length l.offsets.now) l.lengths.now))))
      → asks (verb_of r.action) is_write && overlapping (paired l.offsets.now l.lengths.now) ≡ false
      → Some t ≡ planned (request_of r)
  unfolding planned list_tests refusals first_of length_for entries
  passes {t} equal few clear punch start sum o =
      let f = sum_fits (total (paired l.offsets.now l.lengths.now)) t (of_entries equal sum) in
      rw (
        is,
        eq-eqb (length l.offsets.now) (length l.lengths.now) equal,
        le-ltb 64 (length l.offsets.now) few,
        may_list r.action clear punch,
        eq-eqb r.start 0 start,
        lt-leb (2 ^ 64) (total (paired l.offsets.now l.lengths.now)) f.1,
        o,
      )
      (ap Some f.0)

-- what `writer::length_of` meets its contract by
pub ruleset plans = (unlisted, unequal, too_long, cleared, punched, started, sum_too_large, shared)
