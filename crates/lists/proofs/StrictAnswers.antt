-- The answers of strict reading, from how many numbers the block has, or its first fault.
--
--   block_too_long                     a block above the limit is refused by 7, and the slice kept
--   block_faulty                       one with a fault, by the first, with its place
--   slice_full                         one of more numbers than the slice has room for, by 5
--   slice_fits                         where there is room for as many numbers as the block has, they stand in it one behind another, so many;
--   slice_filled                       stored from the front of the slice on, they are what strict reading answers and leaves
--   told, listed, stored_or_kept       by how many numbers the block has, or its first fault: what is told where there is room for so many; the numbers,
--                                      none at a fault; what the slice holds then
--   strict_by_count, filled_by_count   so it answers and leaves
use Prim.Native.Nat.{ℕ, ◌≤◌, ◌<◌}
use mathlib.Core.Path.{◌≡◌, refl, ap, sym, ◌∙◌}
use mathlib.Core.List.{List, [], ◌++◌}
use native.Mathlib.Nat.{zero-add}
use native.Mathlib.Omega.{arith}
use borrow.Author.Tests.{lt-ltb, le-ltb, le-leb, lt-leb}
use lib.ListN.{length, drop}
use lib.Dec.{leb, ltb}
use lib.Seq.{sets, sets-eq}
use Rattle.std.specs.Prelude.{Result, Ok, Err}
use Rattle.words.specs.Answer.{pick, Answer, gives, refused, by, because_at, Why}
use Rattle.words.specs.declared.Place.{Place}
use Rattle.words.specs.declared.Refusal.{Refusal}
use Rattle.words.specs.declared.Refusal.TheVariants.{TooLong, NoRoom}
use Rattle.words.proofs.OneMeaning.{apart}
use Rattle.groups.specs.Group.{Bytes}
use Rattle.blocks.specs.Block.{block_limit}
use Rattle.lists.specs.InnerHalves.{AllFit, AllStored}
use Rattle.lists.specs.Strict.{numbers, counted, filling, strict, filled}
use Rattle.lists.specs.Inner.{many}
use Rattle.lists.specs.Promise.{means_read_list, ReadsStrict}
use Rattle.lists.specs.declared.Numbers.{Numbers}
use Rattle.lists.specs.declared.NotRead.TheVariants.{Faulty, Refused}
use Rattle.lists.specs.declared.NotRead.{NotRead}
use Rattle.lists.proofs.NumbersLeft.{numbers_left}

-- as many numbers as are counted, or the fault that is found
numbers_many : (a : Answer (List ℕ)) {n : ℕ} → gives n ≡ many a → (ns : List ℕ) × (a ≡ gives ns) × (length ns ≡ n)
numbers_many (gives ns) {n} e = let q : length ns ≡ n = cc in (ns, refl, q)
numbers_many (refused k) e = apart e

fault_many : (a : Answer (List ℕ)) {k : Why} → refused k ≡ many a → a ≡ refused k
fault_many (gives ns) e = apart (sym e)
fault_many (refused j) {k = k} e = let q : j ≡ k = cc in ap refused q

-- numbers for which there is room
counted_room : (ns : List ℕ) (room : ℕ) → length ns ≤ room → counted (gives ns) room ≡ gives (length ns)
counted_room ns room h = rw (le-leb (length ns) room h)

filling_room : (ns old : List ℕ) → length ns ≤ length old → sets old 0 ns ≡ filling (gives ns) old
filling_room ns old h = sets-eq ns old 0 (omega arith) ∙ rw (zero-add (length ns), le-leb (length ns) (length old) h)

pub slice_fits : (s : List ℕ) {n room : ℕ} → Bytes s → gives n ≡ many (numbers 0 s) → n ≤ room → AllFit s n room
slice_fits s bytes e h = let g = numbers_many (numbers 0 s) e in record { vs = g.0; left = numbers_left s bytes g.1; many = g.2; enough = h }

-- strict reading, from how many numbers the block has
abbrev pub told : Answer ℕ → ℕ → Answer ℕ
told (refused k) room = refused k
told (gives n) room = pick (leb n room) (gives n) (refused (by 5))

abbrev pub listed : Answer (List ℕ) → List ℕ
listed (refused k) = []
listed (gives ns) = ns

abbrev pub stored_or_kept : Answer ℕ → List ℕ → List ℕ → List ℕ
stored_or_kept (refused k) ns old = old
stored_or_kept (gives n) ns old = pick (leb n (length old)) (ns ++ drop n old) old

counted_told : (a : Answer (List ℕ)) (room : ℕ) → counted a room ≡ told (many a) room
counted_told (refused k) room = refl
counted_told (gives ns) room = refl

filling_kept : (a : Answer (List ℕ)) (old : List ℕ) → filling a old ≡ stored_or_kept (many a) (listed a) old
filling_kept (refused k) old = refl
filling_kept (gives ns) old = refl

pub strict_by_count : (s : List ℕ) (room : ℕ)
    → strict s room ≡ pick (ltb block_limit (length s)) (refused (by 7)) (told (many (numbers 0 s)) room)
unfolding strict
strict_by_count s room = rw (counted_told (numbers 0 s) room)

pub filled_by_count : (s old : List ℕ)
    → filled s old ≡ pick (ltb block_limit (length s)) old (stored_or_kept (many (numbers 0 s)) (listed (numbers 0 s)) old)
unfolding filled
filled_by_count s old = rw (filling_kept (numbers 0 s) old)

-- strict reading, from what the numbers of the block come to
strict_answer : (s old : List ℕ) → length s ≤ block_limit → {r : Result Numbers NotRead} {out : List ℕ} → means_read_list r ≡ counted (numbers 0 s) (length old)
    → out ≡ filling (numbers 0 s) old → ReadsStrict s old r out
unfolding strict filled
strict_answer s old short e f = let t = le-ltb block_limit (length s) short in record { answer = rw t e; leaves = rw t f }

module _ (s old : List ℕ) where
  pub block_too_long : block_limit < length s → ReadsStrict s old (Err (Refused TooLong)) old
  unfolding strict filled
  block_too_long h = let t = lt-ltb block_limit (length s) h in record { answer = rw t; leaves = rw t }

  pub block_faulty : {k : Refusal} {p : Place} → length s ≤ block_limit → refused (because_at k p.0) ≡ many (numbers 0 s) → ReadsStrict s old (Err (Faulty (record { 0 = k; 1 = p }))) old
  block_faulty short e = let f = fault_many (numbers 0 s) e in strict_answer s old short (rw f) (rw f)

  module _ {n : ℕ} (short : length s ≤ block_limit) (e : gives n ≡ many (numbers 0 s)) where
    pub slice_full : length old < n → ReadsStrict s old (Err (Refused NoRoom)) old
    slice_full h =
        let g = numbers_many (numbers 0 s) e in
        let t = lt-leb (length g.0) (length old) (omega (arith, g.2)) in
        strict_answer s old short (rw (g.1, t)) (rw (g.1, t))

    pub slice_filled : {out : List ℕ} {m : Numbers} → Bytes s → n ≤ length old → m.0 ≡ n → AllStored s old out → ReadsStrict s old (Ok m) out
    slice_filled bytes h f stored =
        let g = numbers_many (numbers 0 s) e in
        let r : length g.0 ≤ length old = omega (arith, g.2) in
        strict_answer s old short
        (ap gives (f ∙ sym g.2) ∙ sym (ap (λ (a : Answer (List ℕ)). counted a (length old)) g.1 ∙ counted_room g.0 (length old) r))
        (stored g.0 (numbers_left s bytes g.1) ∙ filling_room g.0 old r ∙ ap (λ (a : Answer (List ℕ)). filling a old) (sym g.1))
