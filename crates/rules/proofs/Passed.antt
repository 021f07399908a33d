-- A call that no row refuses passes every row's test.
use Rattle.std.specs.Prelude.{None, Some}
use mathlib.Core.Path.{◌≡◌, refl}
use mathlib.Core.Bool.{Bool, true, false, cond}
use mathlib.Core.List.{List, ◌∷◌}
use Rattle.rules.specs.Tests.{Test, first_of}
use Rattle.rules.specs.Command.{Command}
use Rattle.rules.specs.Header.{cdb_malformed, action_unknown, other_object, continuation_wrong, segment_header_wrong, descriptor_faulty}
use Rattle.rules.specs.Header.{list_forbidden, front_rows, segment_rows, header}
use Rattle.rules.proofs.First.{some_none}
use Rattle.rules.specs.Rows.{Room, object_unfit, list_with_start, list_fault, not_admitted, starts_beyond, buffer_short, no_room, rows, refusal}

-- no first test: the one in front fails, and there is none behind it
pub skips : {X : Type 0} (t : Test X) (ts : List (Test X)) → first_of (t ∷ ts) ≡ None → (t.holds ≡ false) × (first_of ts ≡ None)
unfolding first_of
skips t ts e = go t.holds e
  where
    go : (b : Bool) → cond b (Some t.gives) (first_of ts) ≡ None → (b ≡ false) × (first_of ts ≡ None)
    go true q = absurd (some_none q)
    go false q = (refl, q)

pub record Readable (c : Command) : Type 0 where
  pub cdb : cdb_malformed c.cdb ≡ false
  pub action : action_unknown c.cdb ≡ false
  pub ids : other_object c ≡ false
  pub continuation : continuation_wrong c ≡ false
  pub segment : segment_header_wrong c ≡ false
  pub walk : descriptor_faulty c ≡ false
  pub list : list_forbidden c ≡ false

pub record Passed (c : Command) (m : Room) : Type 0 where
  pub object : object_unfit c m ≡ false
  pub header : Readable c
  pub start : list_with_start c ≡ false
  pub list : list_fault c ≡ false
  pub admitted : not_admitted c ≡ false
  pub begins : starts_beyond c ≡ false
  pub buffer : buffer_short c m ≡ false
  pub room : no_room c m ≡ false

pub passed : (c : Command) (m : Room) → refusal c m ≡ None → Passed c m
unfolding refusal rows header front_rows segment_rows
passed c m e =
    let r1 = skips _ _ e in
    let r2 = skips _ _ r1.1 in
    let r3 = skips _ _ r2.1 in
    let r4 = skips _ _ r3.1 in
    let r5 = skips _ _ r4.1 in
    let r6 = skips _ _ r5.1 in
    let r7 = skips _ _ r6.1 in
    let r8 = skips _ _ r7.1 in
    let r9 = skips _ _ r8.1 in
    let r10 = skips _ _ r9.1 in
    let r11 = skips _ _ r10.1 in
    let r12 = skips _ _ r11.1 in
    let r13 = skips _ _ r12.1 in
    let r14 = skips _ _ r13.1 in
    record {
      object = r1.0;
      header =
          record {
            cdb = r2.0;
            action = r3.0;
            ids = r4.0;
            continuation = r5.0;
            segment = r6.0;
            walk = r7.0;
            list = r8.0;
          };
      start = r9.0;
      list = r10.0;
      admitted = r11.0;
      begins = r12.0;
      buffer = r13.0;
      room = r14.0;
    }

-- the same of rows 2 to 8 alone
pub header_passed : (c : Command) → first_of (header c) ≡ None → Readable c
unfolding header front_rows segment_rows
header_passed c e =
    let r2 = skips _ _ e in
    let r3 = skips _ _ r2.1 in
    let r4 = skips _ _ r3.1 in
    let r5 = skips _ _ r4.1 in
    let r6 = skips _ _ r5.1 in
    let r7 = skips _ _ r6.1 in
    let r8 = skips _ _ r7.1 in
    record { cdb = r2.0; action = r3.0; ids = r4.0; continuation = r5.0; segment = r6.0; walk = r7.0; list = r8.0 }
