-- The loop that adds the lengths up: what is added so far and what is still to come make the whole sum.
use Prim.Native.Nat.{ℕ, ◌+◌, ◌≤◌, ◌<◌}
use mathlib.Core.Path.{◌≡◌}
use mathlib.Core.List.{List}
use native.Mathlib.Numerals.{add-one}
use lib.ListN.{length, take, drop, get_or, drop_of_length-le}
use lib.Seq.{length-take-le, drop-cons}
use Rattle.rules.specs.Ranges.{total}
use Rattle.rules.specs.Writer.{paired}
use Rattle.rules.proofs.Paired.{sum, total_sum}

module _ (ns : List ℕ) (i : ℕ) where
  pub sum_next : i < length ns → sum (drop i ns) ≡ get_or ns i 0 + sum (drop (i + 1) ns)
  unfolding sum
  sum_next l = rw (add-one i, drop-cons ns i 0 l)

  pub sum_end : length ns ≤ i → sum (drop i ns) ≡ 0
  unfolding sum
  sum_end l = rw (drop_of_length-le ns {i = i} l)

pub sum_all : (os ns : List ℕ) (n : ℕ) → n ≤ length ns → length os ≡ n → total (paired os (take n ns)) ≡ sum (take n ns)
sum_all os ns n h e = total_sum os (take n ns) (rw (length-take-le n ns h) e)

pub ruleset summing = (sum_next, sum_end, sum_all)
