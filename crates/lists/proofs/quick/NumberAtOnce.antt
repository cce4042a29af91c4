-- What eight bytes taken at once say of a reading of 64 bits that gives a number.
--
--   word_bytes   a word has the eight bytes that it is loaded from
--   once_short   a number found in the word is the one that is read,
--   once_long    and so is one of nine or ten bytes
use Prim.Native.Nat.{ℕ, zero, suc, ◌+◌, ◌≤◌, ◌<◌, min}
use mathlib.Core.Path.{◌≡◌, ap, ap₂, sym, ◌∙◌}
use mathlib.Core.List.{List, [], ◌∷◌}
use native.Mathlib.Omega.{arith}
use borrow.Author.Tests.{lt-leb, le-leb, eq-eqb}
use lib.ListN.{length, get_or, take}
use lib.Seq.{take-take, length-take-le}
use Rattle.words.specs.Answer.{gives}
use Rattle.words.proofs.Cases.{by_order}
use Rattle.words.proofs.OneMeaning.{apart}
use Rattle.groups.specs.Group.{Bytes, run, digits}
use Rattle.groups.specs.Width.{reading}
use Rattle.groups.proofs.Run.{run_low, run_high, run_more, run_ends, digits_take}
use Rattle.groups.proofs.Rows.{row_large, row_many}
use Rattle.groups.proofs.Stands.{reading_value, reading_count}
use Rattle.uleb128.specs.Unsigned.{u64}
use Rattle.lists.specs.InnerWord.{little, spread}
use Rattle.lists.specs.InnerWide.{Accepts, Found, Longest}
use Rattle.lists.proofs.quick.Bytewise.{below_bytes, spread_little}

run_take : (k : ℕ) (l : List ℕ) → run (take k l) ≡ min k (run l)
unfolding run
run_take zero l = omega arith
run_take (suc k) [] = omega arith
run_take (suc k) (b ∷ l) =
    by_order b 128 (λ o. rw (run_low b l o, run_low b (take k l) o) (omega arith))
    (λ o. rw (run_high b l o, run_high b (take k l) o, run_take k l) (omega arith))

found_front : (l : List ℕ) {v n : ℕ} → run (take 8 l) < 8 → Found (take 8 l) v n → Found l v n
found_front l h f =
    let e : run l ≡ run (take 8 l) = omega (arith, run_take 8 l) in
    record {
      value = rw e (f.value ∙ ap digits (take-take (run (take 8 l) + 1) 8 l (omega arith)));
      count = rw e f.count;
    }

module _ (l : List ℕ) {a c : ℕ} (e : reading u64 l ≡ gives (a, c)) where
  found_read : {v n : ℕ} → Found l v n → reading u64 l ≡ gives (v, n)
  found_read f =
      e ∙ ap₂ (λ (x y : ℕ). gives (x, y)) (reading_value u64 l e ∙ sym f.value) (reading_count u64 l e ∙ sym f.count)

  module _ (room : 10 ≤ length l) where
    last_allowed : 9 ≤ run l → get_or l 9 0 ≤ 1
    last_allowed h = by_order 1 (get_or l 9 0) (λ o. apart (sym e ∙ row_large u64 l room (omega arith) (lt-leb (get_or l 9 0) 1 o))) (λ o. o)

    ends_at_nine : 9 ≤ run l → run l ≡ 9
    ends_at_nine h = run_ends l 9 h (omega (arith, last_allowed h))

    last_is_one : 9 ≤ run l → get_or l 9 0 ≡ 1
    last_is_one h =
        let i : run l ≡ 9 = ends_at_nine h in
        let m : get_or l 9 0 ≤ 1 = last_allowed h in
        by_order 0 (get_or l 9 0) (λ o. omega arith)
        (λ o.
        let z = eq-eqb (get_or l 9 0) 0 (omega arith) in
        apart (sym e ∙ row_many u64 l (omega arith) (omega arith) (λ q. rw i (le-leb (get_or l 9 0) 1 m)) (omega arith) (rw i z)))

    module _ (high : 8 ≤ run l) {v n : ℕ} (g : Longest (take 8 l) (get_or l 8 0) v n) where
      found_nine : get_or l 8 0 < 128 → Found l v n
      found_nine h =
          let i : run l ≡ 8 = run_ends l 8 high h in
          record { value = rw i ((g.nine h).0 ∙ sym (digits_take l 8 (omega arith))); count = rw i (g.nine h).1 }

      found_ten : 128 ≤ get_or l 8 0 → Found l v n
      found_ten h =
          let j : 9 ≤ run l = run_more l 8 high (omega arith) h in
          let i : run l ≡ 9 = ends_at_nine j in
          record {
            value = rw i ((g.ten h).0 ∙ sym (digits_take l 9 (omega arith) ∙ rw (digits_take l 8 (omega arith), last_is_one j) (omega arith)));
            count = rw i (g.ten h).1;
          }

      found_long : Found l v n
      found_long = by_order (get_or l 8 0) 128 found_nine found_ten

module _ (s : List ℕ) (bytes : Bytes s) {w : ℕ} (is : w ≡ little (take 8 s)) where
  pub word_bytes : 8 ≤ length s → spread 8 w ≡ take 8 s
  word_bytes room =
      let l : length (take 8 s) ≡ 8 = length-take-le 8 s room in
      let q = spread_little (take 8 s) (below_bytes 8 s bytes) in
      rw is (rw l at q)

  module _ (a : Accepts s) where
    word_here : spread 8 w ≡ take 8 s
    word_here = word_bytes (omega (arith, a.room))

    pub once_short : {v n : ℕ} → run (spread 8 w) < 8 → Found (spread 8 w) v n → reading u64 s ≡ gives (v, n)
    once_short h f = found_read s a.is (found_front s (rw word_here at h) (rw word_here at f))

    pub once_long : {v n : ℕ} → run (spread 8 w) ≡ 8 → Longest (spread 8 w) (get_or s 8 0) v n → reading u64 s ≡ gives (v, n)
    once_long r g =
        found_read s a.is (found_long s a.is a.room (omega (arith, run_take 8 s, rw word_here at r)) (rw word_here at g))
