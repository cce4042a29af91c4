-- Lists written and read strictly.
--
--   form_alone      the form of a number of 64 bits, read alone, gives the number and the form's length
--   numbers_ahead   such a form in front of a block is a number in front of the block's numbers
--   numbers_forms   the numbers of such forms, one after another, are these numbers
--   strict_fills    a block within the limit that is all numbers, with room for them: their count is answered, and they fill the slice's front
--   list_back       strict reading of what list writing wrote gives the list back, if that is within the block limit and the slice holds it
use Prim.Native.Nat.{ℕ, ◌+◌, ◌≤◌, ◌<◌, ◌^◌}
use mathlib.Core.Path.{◌≡◌, refl, ap, sym, ◌∙◌}
use mathlib.Core.List.{List, [], ◌∷◌, ◌++◌, append-nil}
use native.Mathlib.Omega.{arith}
use borrow.Author.Tests.{le-leb, le-ltb}
use lib.ListN.{length, take, drop, length-append}
use lib.Seq.{take-append_seam, drop-append_seam}
use Rattle.std.specs.Prelude.{Ok}
use Rattle.words.specs.Answer.{gives, means_written}
use Rattle.words.specs.declared.Count.{Count}
use Rattle.words.proofs.Cases.{by_order}
use Rattle.words.proofs.LaysExactly.{laid_there}
use Rattle.words.proofs.OneMeaning.{apart}
use Rattle.groups.specs.Group.{run}
use Rattle.groups.specs.Width.{reading}
use Rattle.groups.proofs.Stands.{reading_count}
use Rattle.uleb128.specs.Unsigned.{form, u64}
use Rattle.blocks.specs.Block.{block_limit}
use Rattle.lists.specs.Lists.{forms, list_limit}
use Rattle.lists.specs.Strict.{joined, numbers, strict, filled}
use Rattle.lists.specs.Promise.{WritesList}
use Rattle.lists.proofs.NumbersInFront.{numbers_group, numbers_none}
use Rattle.lists.proofs.OneList.{same_list}
use Rattle.claims.specs.Kinds.{loop64}
use Rattle.claims.specs.OfLists.{ListBack, Of64Bits}
use Rattle.claims.proofs.ReadGroup.{from_front}
use Rattle.claims.proofs.RoundTrips.{lays_list, writes_list}
use Rattle.claims.proofs.Readers.{reading_of}

-- a number's form is read, whatever follows it
read_form : (v : ℕ) (rest : List ℕ) → v < 2 ^ 64 → reading u64 (form v ++ rest) ≡ gives (v, length (form v))
read_form v rest h = sym (from_front u64 (form v ++ rest)) ∙ (reading_of loop64).begun (form v ++ rest) 0 v (length (form v)) (record {
  here = omega arith;
  of_width = h;
  rest = rest;
  begins = refl;
  count = refl;
})

pub form_alone : (v : ℕ) → v < 2 ^ 64 → reading u64 (form v) ≡ gives (v, length (form v))
form_alone v h = ap (reading u64) (sym (append-nil (form v))) ∙ read_form v [] h

-- a form in front is a number in front
pub numbers_ahead : (p v : ℕ) (l : List ℕ) → v < 2 ^ 64 → numbers p (form v ++ l) ≡ joined (gives (v, length (form v))) (numbers (p + length (form v)) l)
numbers_ahead p v rest h =
    let l = form v ++ rest in
    let c : length (form v) ≡ run l + 1 = reading_count u64 l (read_form v rest h) in
    let r : run l < length l = rw length-append (omega (arith, c)) in
    let t : take (run l + 1) l ≡ form v = ap (λ (n : ℕ). take n l) (sym c) ∙ take-append_seam (form v) rest in
    let d : drop (run l + 1) l ≡ rest = ap (λ (n : ℕ). drop n l) (sym c) ∙ drop-append_seam (form v) rest in
    numbers_group p l r ∙ rw (t, d, form_alone v h)

pub numbers_forms : (p : ℕ) (ns : List ℕ) → Of64Bits ns → numbers p (forms ns) ≡ gives ns
unfolding forms
numbers_forms p [] h = numbers_none p [] refl
numbers_forms p (v ∷ ns) h = numbers_ahead p v (forms ns) h.0 ∙ rw (numbers_forms (p + length (form v)) ns h.1)

-- what strict reading leaves of a block without a fault, for which there is room
pub strict_fills : (s ns old : List ℕ) → length s ≤ block_limit → numbers 0 s ≡ gives ns → length ns ≤ length old
    → (strict s (length old) ≡ gives (length ns)) × (filled s old ≡ ns ++ drop (length ns) old)
unfolding strict filled
strict_fills s ns old short e room =
    let t = le-ltb block_limit (length s) short in
    let f = le-leb (length ns) (length old) room in
    (rw (t, e, f), rw (t, e, f))

-- a list that was written stands there
written_there : (ns before : List ℕ) (at : ℕ) (n : Count) (after : List ℕ) → WritesList ns before at (Ok n) after
    → (n.0 ≡ length (forms ns)) × (take n.0 (drop at after) ≡ forms ns)
written_there ns before at n after w =
    by_order list_limit (length ns) (λ h. apart (ap means_written ((writes_list ns before at (Ok n) after w).0.0 h).0))
    (λ short. laid_there (forms ns) before at (Ok n) after (lays_list ns before at (Ok n) after w short) n refl)

pub list_back : ListBack
list_back ns before at n after old r out words w short room p =
    let k = written_there ns before at n after w in
    let b : length (take n.0 (drop at after)) ≤ block_limit = rw k.1 (rw k.0 at short) in
    let q = strict_fills (take n.0 (drop at after)) ns old b (ap (numbers 0) k.1 ∙ numbers_forms 0 ns words) room in
    (same_list r (Ok (record { 0 = length ns })) (p.answer ∙ q.0), p.leaves ∙ q.1)
