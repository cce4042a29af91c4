-- The claims on writers and the round trips, once for all four.
--
--   lays_form     a writer of any kind lays the number's form down
--   writes        it answers the count and leaves the form at the place, exactly where there is room; else it answers 5 and leaves every byte
--   lays_list     a list no longer than the limit is laid down, its forms one after another
--   writes_list   a list of more numbers than the limit is refused by 7; any other is written as one number is, its forms one after another
--   write_read    what was written is read as the same number, with the same count
--   read_write    what was read, written at the same place, takes the same count and changes no byte
--   more_behind   more bytes behind an accepted number change nothing
--   some_byte     at least one byte is taken, if forms have one, and no more than are there
use Prim.Native.Nat.{ℕ, ◌≤◌, ◌<◌}
use mathlib.Core.Path.{◌∙◌}
use mathlib.Core.List.{List, ◌++◌}
use native.Mathlib.Omega.{arith}
use borrow.Author.Tests.{le-ltb, lt-ltb}
use lib.ListN.{length}
use Rattle.std.specs.Prelude.{Err}
use Rattle.words.specs.Lays.{Lays}
use Rattle.words.specs.declared.Count.{Count}
use Rattle.words.specs.declared.Refusal.TheVariants.{TooLong}
use Rattle.words.specs.Answer.{Written}
use Rattle.words.proofs.Cases.{by_order}
use Rattle.words.proofs.LaysExactly.{lays_exactly}
use Rattle.words.proofs.OneMeaning.{same_written}
use Rattle.groups.specs.Begins.{Begins}
use Rattle.groups.specs.Group.{Bytes}
use Rattle.lists.specs.Lists.{forms, list_limit}
use Rattle.lists.specs.Promise.{WritesList}
use Rattle.claims.specs.Kinds.{Kind, loop64, recursive64, unsigned32, signed64, Value, number, ReadsAs, form, OfWidth, WritesAs}
use Rattle.claims.specs.OfNumbers.{Writes, WriteRead, ReadWrite, MoreBehind, SomeByte}
use Rattle.claims.specs.OfLists.{WritesLists}
use Rattle.claims.proofs.Readers.{reading_of, number_says, read_number}
use Rattle.claims.proofs.Begun.{taken, behind, lays_back, laid_begins, refused_by}

-- each writer lays its form down
pub lays_form : (k : Kind) (v : Value k) {s out : List ℕ} {at : ℕ} {r : Written} → WritesAs k v s at r out → Lays (form k v) s at r out
lays_form loop64 v p = p
lays_form recursive64 v p = p
lays_form unsigned32 v p = p
lays_form signed64 v p = p

pub writes : (k : Kind) → Writes k
writes k v before at r after p = lays_exactly (form k v) before at r after (lays_form k v p)

-- a list no longer than the limit is laid down as one number's form is
pub lays_list : (ns s : List ℕ) (at : ℕ) (r : Written) (out : List ℕ) → WritesList ns s at r out → length ns ≤ list_limit → Lays (forms ns) s at r out
lays_list ns s at r out w h =
    let t = le-ltb list_limit (length ns) h in
    record { answer = w.answer ∙ rw t; leaves = w.leaves ∙ rw t }

pub writes_list : WritesLists
writes_list ns before at r after w = (
  (
    λ h. let t = lt-ltb list_limit (length ns) h in
        (same_written r (Err TooLong) (w.answer ∙ rw t), w.leaves ∙ rw t),
    λ e. by_order list_limit (length ns) (λ h. h) (λ h. absurd (omega (arith, refused_by (lays_list ns before at r after w h) TooLong e.0))),
  ),
  λ h. lays_exactly (forms ns) before at r after (lays_list ns before at r after w h),
)

pub write_read : (k : Kind) → WriteRead k
write_read k v before at n after r of_width p q =
    read_number k after at r v n q ((reading_of k).begun after at v n.0 (laid_begins (form k) (OfWidth k) v n of_width (lays_form k v p)))

-- where a number was read the bytes begin with its form
stands : (k : Kind) (s : List ℕ) (at : ℕ) (v : Value k) (n : Count) → Bytes s → ReadsAs k s at (number k v n) → Begins (form k) (OfWidth k) s at v n.0
stands k s at v n bytes p = (reading_of k).begins s at v n.0 bytes ((number_says k s at v n).0 p)

pub read_write : (k : Kind) → ReadWrite k
read_write k s at v n r after bytes p q = lays_back (stands k s at v n bytes p) (lays_form k v q)

pub more_behind : (k : Kind) → MoreBehind k
more_behind k s more at v n r bytes p q =
    read_number k (s ++ more) at r v n q ((reading_of k).begun (s ++ more) at v n.0 (behind (stands k s at v n bytes p) more))

pub some_byte : (k : Kind) → ((v : Value k) → 0 < length (form k v)) → SomeByte k
some_byte k f s at v n bytes p =
    let b = stands k s at v n bytes p in (omega (arith, b.count, f v), omega (arith, b.count, taken b))
