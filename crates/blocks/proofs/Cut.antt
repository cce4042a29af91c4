-- Laws of `cut`: how a block is cut at its front, and where a part of it ends.
--
--   cut_low, cut_high   a first byte below 128 is a group of its own; another goes to the front of the first group, or of the tail
--   grouped g c         the group g in front of the cut c
--   cut_group           the bytes through the first below 128 are a group in front of what the bytes behind them are cut into
--   cut_tail            a block without a byte below 128 has no group, and is all tail
--   cut_append          the groups of a block are those of a part in front, and those that the part's tail makes with what follows
--   total gs            how many bytes the groups gs have
--   all_bytes           the groups and the tail of a block have as many bytes as the block
--   Longer n gs         the first of the groups gs, if there is one, has more than n bytes
--   Some gs             each of the groups gs has some byte
--   some_each           each group of a block has some byte
--   longer_than_tail    the first group that a part's tail makes with what follows, if it makes one, is longer than the tail
--   tail_run            the run of a part's tail and what follows it is all of the tail and then the run of what follows
--   drop_all            past a run that goes to the end of the bytes nothing is left
use Prim.Native.Nat.{ℕ, suc, ◌+◌, ◌≤◌, ◌<◌}
use mathlib.Core.Path.{◌≡◌, refl, ap, sym, ◌∙◌}
use mathlib.Core.List.{List, [], ◌∷◌, ◌++◌}
use native.Mathlib.Numerals.{add-one}
use native.Mathlib.Omega.{arith}
use borrow.Author.Tests.{lt-ltb, le-ltb}
use lib.ListN.{length, take, drop}
use lib.Seq.{drop-length, drop-drop}
use Rattle.words.proofs.Cases.{by_order}
use Rattle.groups.specs.Group.{run}
use Rattle.groups.proofs.Run.{run_low, run_high, run_within}
use Rattle.blocks.specs.GroupsAndTail.{Cut, alone, infront, cut}

pub cut_low : (b : ℕ) (l : List ℕ) → b < 128 → cut (b ∷ l) ≡ alone b (cut l)
unfolding cut
cut_low b l h = rw (lt-ltb b 128 h)

pub cut_high : (b : ℕ) (l : List ℕ) → 128 ≤ b → cut (b ∷ l) ≡ infront b (cut l).groups (cut l).tail
unfolding cut
cut_high b l h = rw (le-ltb b 128 h)

-- a group and what is behind it
abbrev pub grouped : List ℕ → Cut → Cut
grouped g c = record { groups = g ∷ c.groups; tail = c.tail }

pub cut_group : (l : List ℕ) → run l < length l → cut l ≡ grouped (take (run l + 1) l) (cut (drop (run l + 1) l))
unfolding run
cut_group [] h = absurd (omega arith)
cut_group (b ∷ l) h =
    by_order b 128 (λ low. cut_low b l low ∙ rw (run_low b l low))
    (λ high.
    let e : run (b ∷ l) ≡ suc (run l) = run_high b l high in
    let ih : cut l ≡ grouped (take (suc (run l)) l) (cut (drop (suc (run l)) l)) = rw add-one at (cut_group l (omega arith)) in
    cut_high b l high ∙ rw (ih, e, add-one))

pub cut_tail : (l : List ℕ) → run l ≡ length l → cut l ≡ record { groups = []; tail = l }
unfolding run cut
cut_tail [] h = refl
cut_tail (b ∷ l) h =
    by_order b 128 (λ low. absurd (omega (arith, run_low b l low)))
    (λ high. cut_high b l high ∙ rw (cut_tail l (omega (arith, run_high b l high))))

-- a byte of 128 or more in front of the first group, if there is one
fronted : ℕ → List (List ℕ) → List (List ℕ)
fronted b [] = []
fronted b (g ∷ gs) = (b ∷ g) ∷ gs

groups_high : (b : ℕ) (s : List ℕ) → 128 ≤ b → (cut (b ∷ s)).groups ≡ fronted b (cut s).groups
unfolding fronted
groups_high b s h = ap (λ (c : Cut). c.groups) (cut_high b s h) ∙ go (cut s).groups
  where
    go : (gs : List (List ℕ)) → (infront b gs (cut s).tail).groups ≡ fronted b gs
    go [] = refl
    go (g ∷ gs) = refl

-- the groups of a part, and those that what follows it makes with its tail
pub cut_append : (a z : List ℕ) → (cut (a ++ z)).groups ≡ (cut a).groups ++ (cut ((cut a).tail ++ z)).groups
unfolding cut fronted
cut_append [] z = refl
cut_append (b ∷ a) z =
    by_order b 128 (λ low. rw (cut_low b (a ++ z) low, cut_low b a low, cut_append a z))
    (λ high. groups_high b (a ++ z) high ∙ ap (fronted b) (cut_append a z) ∙ split high (cut a).groups (cut a).tail ∙ rw (cut_high b a high))
  where
    split : 128 ≤ b → (gs : List (List ℕ)) (t : List ℕ)
        → fronted b (gs ++ (cut (t ++ z)).groups) ≡ (infront b gs t).groups ++ (cut ((infront b gs t).tail ++ z)).groups
    split high [] t = sym (groups_high b (t ++ z) high)
    split high (g ∷ gs) t = refl

-- how many bytes the groups have
abbrev pub total : List (List ℕ) → ℕ
total [] = 0
total (g ∷ gs) = length g + total gs

-- the groups and the tail are all the bytes
pub all_bytes : (s : List ℕ) → total (cut s).groups + length (cut s).tail ≡ length s
unfolding cut
all_bytes [] = refl
all_bytes (b ∷ s) =
    by_order b 128 (λ low. rw (cut_low b s low) (omega (arith, all_bytes s)))
    (λ high. rw (cut_high b s high) (one_more (cut s).groups (cut s).tail ∙ ap suc (all_bytes s)))
  where
    one_more : (gs : List (List ℕ)) (t : List ℕ)
        → total (infront b gs t).groups + length (infront b gs t).tail ≡ suc (total gs + length t)
    one_more [] t = omega arith
    one_more (g ∷ gs) t = omega arith

-- the first group, if there is one, has more than n bytes
abbrev pub Longer : ℕ → List (List ℕ) → Type 0
Longer n [] = Unit {0}
Longer n (g ∷ gs) = n < length g

longer_high : (b n : ℕ) (gs : List (List ℕ)) → Longer n gs → Longer (suc n) (fronted b gs)
unfolding fronted
longer_high b n [] h = tt
longer_high b n (g ∷ gs) h = omega (arith, h)

-- a group has some byte
abbrev pub Some : List (List ℕ) → Type 0
Some [] = Unit {0}
Some (g ∷ gs) = (0 < length g) × Some gs

pub some_each : (s : List ℕ) → Some (cut s).groups
unfolding cut
some_each [] = tt
some_each (b ∷ s) =
    by_order b 128 (λ low. rw (cut_low b s low) (omega arith, some_each s))
    (λ high. rw (cut_high b s high) (go (cut s).groups (cut s).tail (some_each s)))
  where
    go : (gs : List (List ℕ)) (t : List ℕ) → Some gs → Some (infront b gs t).groups
    go [] t k = tt
    go (g ∷ gs) t k = (omega arith, k.1)

first : (gs : List (List ℕ)) → Some gs → Longer 0 gs
first [] k = tt
first (g ∷ gs) k = k.0

-- a group that takes up the tail is longer than it
pub longer_than_tail : (a z : List ℕ) → Longer (length (cut a).tail) (cut ((cut a).tail ++ z)).groups
unfolding cut
longer_than_tail [] z = first (cut z).groups (some_each z)
longer_than_tail (b ∷ a) z =
    by_order b 128 (λ low. rw (cut_low b a low) (longer_than_tail a z))
    (λ high. rw (cut_high b a high) (go high (cut a).groups (cut a).tail (longer_than_tail a z)))
  where
    go : 128 ≤ b → (gs : List (List ℕ)) (t : List ℕ) → Longer (length t) (cut (t ++ z)).groups
        → Longer (length (infront b gs t).tail) (cut ((infront b gs t).tail ++ z)).groups
    go high [] t h = rw (groups_high b (t ++ z) high) (longer_high b (length t) (cut (t ++ z)).groups h)
    go high (g ∷ gs) t h = h

-- the bytes of 128 or more at the front of b go on those of the tail
pub tail_run : (a b : List ℕ) → run ((cut a).tail ++ b) ≡ length (cut a).tail + run b
unfolding cut
tail_run [] b = omega arith
tail_run (x ∷ a) b =
    by_order x 128 (λ low. rw (cut_low x a low) (tail_run a b))
    (λ high. rw (cut_high x a high) (go high (cut a).groups (cut a).tail (tail_run a b)))
  where
    go : 128 ≤ x → (gs : List (List ℕ)) (t : List ℕ) → run (t ++ b) ≡ length t + run b
        → run ((infront x gs t).tail ++ b) ≡ length (infront x gs t).tail + run b
    go high [] t h = run_high x (t ++ b) high ∙ omega (arith, h)
    go high (g ∷ gs) t h = h

pub drop_all : (b : List ℕ) → length b ≤ run b → drop (run b + 1) b ≡ []
drop_all b h =
    let all : run b ≡ length b = omega (arith, run_within b) in
    sym (drop-drop 1 (run b) b) ∙ ap (drop 1) (ap (λ (i : ℕ). drop i b) all ∙ drop-length b)
