-- The numbers of a block, or its first fault.
--
--   Outcome q s a   what the numbers a of the bytes s, from the place q of a block on, say of them: they are their forms, or have a first fault
--   outcome         so it is with the numbers of any bytes
--   first_fault     and back: where a block has a first fault, its numbers are that refusal, with its place
use Prim.Native.Nat.{ℕ, zero, suc, ◌+◌, ◌<◌, ◌^◌}
use mathlib.Core.Path.{◌≡◌, refl, ap, sym, ◌∙◌, subst}
use mathlib.Core.List.{List, [], ◌∷◌, ◌++◌, append_assoc}
use mathlib.Core.Logic.{⊎_elim}
use native.Mathlib.Omega.{arith}
use lib.ListN.{length, take, drop, length-append, length-drop, take-append-drop}
use lib.Seq.{take-append_seam, get_or-drop}
use Rattle.words.specs.Answer.{Answer, gives, refused, because_at, Why, moved_why, moved}
use Rattle.words.specs.declared.Refusal.{Refusal}
use Rattle.words.specs.declared.Refusal.TheVariants.{End}
use Rattle.words.proofs.Cases.{by_order}
use Rattle.words.proofs.Moved.{same_place}
use Rattle.groups.specs.Begins.{Begins}
use Rattle.groups.specs.Group.{Bytes, Group, run}
use Rattle.groups.specs.Width.{reading}
use Rattle.groups.proofs.Exact.{group_length}
use Rattle.groups.proofs.Run.{run_within, high_full, full_high}
use Rattle.groups.proofs.Stands.{front_group, reading_count, run_behind}
use Rattle.uleb128.specs.Unsigned.{form, u64}
use Rattle.lists.specs.Lists.{forms}
use Rattle.lists.specs.Strict.{joined, numbers}
use Rattle.lists.proofs.NumbersInFront.{numbers_group, numbers_tail, numbers_none}
use Rattle.claims.specs.Kinds.{loop64, OfWidth}
use Rattle.claims.specs.Table.{Row, GapRow}
use Rattle.claims.specs.OfLists.{Of64Bits, IsForms, FirstFault}
use Rattle.claims.proofs.ReadGroup.{from_front, group_bytes, empty, read_group}
use Rattle.claims.proofs.Readers.{reading_of, exhausts}
use Rattle.claims.proofs.ListBack.{form_alone, numbers_ahead}
use Rattle.claims.proofs.TableRows.{row_refused}

-- a group is the form of a number, or a gap
data Sorted (g : List ℕ) : Type 0 where
  number : (v : ℕ) → v < 2 ^ 64 → g ≡ form v → Sorted g
  gap : (why : Refusal) (j : ℕ) → reading u64 g ≡ refused (because_at why j) → GapRow u64 g j why → Sorted g

sorted : (g : List ℕ) → Group g → Sorted g
sorted g k =
    ⊎_elim (λ (row : (why : Refusal) × (j : ℕ) × Row u64 g 0 j why).
    let e = sym (from_front u64 g) ∙ row_refused u64 (reading_of loop64).sound row.0 g 0 row.1 row.2 in
    gap row.0 row.1 e (((read_group loop64 g k).gap row.0 row.1).0 e))
    (λ (b : (v : ℕ) × (n : ℕ) × Begins form (OfWidth loop64) g 0 v n).
    let e = sym (from_front u64 g) ∙ (reading_of loop64).begun g 0 b.0 b.1 b.2 in
    let n : b.1 ≡ length g = reading_count u64 g e ∙ omega (arith, group_length k) in
    let f = ((read_group loop64 g k).number b.0).0 (rw n at e) in
    number b.0 f.0 f.1)
    (exhausts loop64 g 0 (group_bytes k))

-- what the numbers of a block say of it
pub data Outcome (q : ℕ) (s : List ℕ) : Answer (List ℕ) → Type 0 where
  all : (ns : List ℕ) → IsForms s ns → Outcome q s (gives ns)
  broken : (why : Refusal) (p : ℕ) → FirstFault s p why → Outcome q s (refused (because_at why (q + p)))

-- a number in front of a fault
fault_ahead : (v : ℕ) (rest : List ℕ) {p : ℕ} {why : Refusal} → v < 2 ^ 64 → FirstFault rest p why → FirstFault (form v ++ rest) (length (form v) + p) why
unfolding forms
fault_ahead v rest h (FirstFault.gap ns g more j w e k row i) =
    FirstFault.gap (v ∷ ns) g more j (h, w) (ap (λ (t : List ℕ). form v ++ t) e ∙ sym (append_assoc (form v) (forms ns) (g ++ more))) k row
    (omega (arith, i, length-append (form v) (forms ns)))
fault_ahead v rest h (FirstFault.tail ns t w e some high i) =
    FirstFault.tail (v ∷ ns) t (h, w) (ap (λ (t : List ℕ). form v ++ t) e ∙ sym (append_assoc (form v) (forms ns) t)) some high
    (omega (arith, i, length-append (form v) rest))

ahead : (q v : ℕ) (rest : List ℕ) (a : Answer (List ℕ)) → v < 2 ^ 64 → Outcome (q + length (form v)) rest a → Outcome q (form v ++ rest) (joined (gives (v, length (form v))) a)
unfolding forms
ahead q v rest _ h (all ns k) = all (v ∷ ns) (ap (λ (t : List ℕ). form v ++ t) k.0, (h, k.1))
ahead q v rest _ h (broken why p k) =
    let i : q + length (form v) + p ≡ q + (length (form v) + p) = omega arith in
    rw i (broken why (length (form v) + p) (fault_ahead v rest h k))

-- what the group in front says, and what is left says
in_front : (q : ℕ) (g rest : List ℕ) → Group g → Outcome (q + length g) rest (numbers (q + length g) rest)
    → Outcome q (g ++ rest) (joined (moved q (reading u64 g)) (numbers (q + length g) rest))
unfolding forms
in_front q g rest k behind = go (sorted g k)
  where
    go : Sorted g → Outcome q (g ++ rest) (joined (moved q (reading u64 g)) (numbers (q + length g) rest))
    go (number v b e) = rw (e, form_alone v b) (ahead q v rest (numbers (q + length (form v)) rest) b (rw e at behind))
    go (gap why j e row) = rw e (broken why j (FirstFault.gap [] g rest j tt refl k row (omega arith)))

pub outcome : (n q : ℕ) (s : List ℕ) → length s < n → Bytes s → Outcome q s (numbers q s)
unfolding forms
outcome zero q s h bytes = absurd (omega arith)
outcome (suc n) q s h bytes =
    by_order (run s) (length s)
    (λ c.
    let g = take (run s + 1) s in
    let rest = drop (run s + 1) s in
    let split : g ++ rest ≡ s = take-append-drop (run s + 1) s in
    rw (numbers_group q s c) (subst (λ (t : List ℕ). Outcome q t (joined (moved q (reading u64 g)) (numbers (q + length g) rest))) split
    (in_front q g rest (front_group s bytes c)
    (outcome n (q + length g) rest (omega (arith, length-drop (run s + 1) s)) (λ i. rw (get_or-drop (run s + 1) s i 0) (bytes (run s + 1 + i)))))))
    (λ c. by_order 0 (length s)
    (λ some. rw (numbers_tail q s (omega (arith, run_within s)) some) (broken End (length s) (FirstFault.tail [] s tt refl some (full_high s c) refl)))
    (λ none. rw (numbers_none q s (omega arith)) (all [] (empty s (omega arith), tt))))

-- and back: a first fault is what the numbers say. Behind the forms of some numbers, what is refused is refused, moved by their length
behind_forms : (q : ℕ) (ns rest : List ℕ) (k : Why) → Of64Bits ns → ((p : ℕ) → numbers p rest ≡ refused (moved_why p k))
    → numbers q (forms ns ++ rest) ≡ refused (moved_why (q + length (forms ns)) k)
unfolding forms
behind_forms q [] rest k w f = let i : q + 0 ≡ q = omega arith in rw i (f q)
behind_forms q (v ∷ ns) rest k w f =
    let i : q + length (form v) + length (forms ns) ≡ q + length (form v ++ forms ns) = omega (arith, length-append (form v) (forms ns)) in
    rw (append_assoc (form v) (forms ns) rest, ← i)
    (numbers_ahead q v (forms ns ++ rest) w.0 ∙ rw (behind_forms (q + length (form v)) ns rest k w.1 f))

gap_refused : (why : Refusal) (j : ℕ) (g rest : List ℕ) → Group g → GapRow u64 g j why → (p : ℕ) → numbers p (g ++ rest) ≡ refused (because_at why (p + j))
gap_refused why j g rest k row p =
    let r : run (g ++ rest) + 1 ≡ length g = omega (arith, run_behind rest k, group_length k) in
    let t : take (run (g ++ rest) + 1) (g ++ rest) ≡ g = rw r (take-append_seam g rest) in
    numbers_group p (g ++ rest) (rw length-append (omega (arith, r))) ∙ rw (t, ((read_group loop64 g k).gap why j).1 row)

pub first_fault : (s : List ℕ) (p : ℕ) (why : Refusal) → FirstFault s p why → numbers 0 s ≡ refused (because_at why p)
first_fault s p why (FirstFault.gap ns g more j w e k row i) =
    ap (numbers 0) e ∙ behind_forms 0 ns (g ++ more) (because_at why j) w (gap_refused why j g more k row) ∙ same_place (omega (arith, i))
first_fault s p _ (FirstFault.tail ns t w e some high i) =
    ap (numbers 0) e ∙ behind_forms 0 ns t (because_at End (length t)) w (λ q. numbers_tail q t (high_full t high) some)
    ∙ same_place (omega (arith, i, ap length e, length-append (forms ns) t))
