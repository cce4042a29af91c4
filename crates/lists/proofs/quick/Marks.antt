-- The marks of the sound scan. A mark says something by its bit of weight 128 only.
--
--   high_and                  two bytes of 128 or more share that bit,
--   nine_high                 and so do nine
--   or_most                   what has the bits of both is no less than either
--   either_mark               two marks joined, each of bytes of 128 or more that share the bit
--   NotSpare s j              the byte at j isn't spare; `Neither s j`: nor is it too large
--   Judged P from marks k     the places from `from` up to k are judged: where marks is below 128, P holds of each
--   none_judged, one_judged   at first, none; and a place more, by a mark of its own that is joined to the others
--   low_mark, low_early       such a mark below 128: the byte is neither spare nor too large; and, among the first nine, it isn't spare
--   all_later, all_early      with all places behind the first nine judged, none is marked; nor with all of the first nine
--   none_marked               so a block is clean whose last byte is below 128
use Prim.Native.Nat.{ℕ, ◌+◌, ◌-◌, ◌/◌, ◌^◌, ◌≤◌, ◌<◌}
use mathlib.Core.Path.{◌≡◌, ap₂, ◌∙◌, subst}
use mathlib.Core.List.{List}
use native.Mathlib.Omega.{arith}
use lib.Bits.{bit_and, bit_or, and_shr, or_add_and, and_le_l, and_le_r}
use lib.ListN.{length, get_or}
use Rattle.words.proofs.Cases.{by_order}
use Rattle.groups.specs.Group.{Bytes}
use Rattle.lists.specs.InnerSound.{High9, Spare, Large, Unmarked, UnmarkedEarly, Clean}

pub high_and : (a b : ℕ) → a < 256 → b < 256 → 128 ≤ a → 128 ≤ b → 128 ≤ bit_and a b
high_and a b i j h k =
    let x : a / 2 ^ 7 ≡ 1 = omega arith in
    let y : b / 2 ^ 7 ≡ 1 = omega arith in
    let z : bit_and a b / 2 ^ 7 ≡ 1 = and_shr a b 7 ∙ ap₂ bit_and x y in
    omega arith

pub or_most : (a b : ℕ) → (a ≤ bit_or a b) × (b ≤ bit_or a b)
or_most a b = (omega (arith, or_add_and a b, and_le_r a b), omega (arith, or_add_and a b, and_le_l a b))

pub either_mark : {a b c d : ℕ} {P Q : Type 0} → a < 256 → b < 256 → c < 256 → d < 256 → (P → 128 ≤ b) → (Q → 128 ≤ d)
    → (128 ≤ a → P → 128 ≤ bit_or (bit_and a b) (bit_and c d)) × (128 ≤ c → Q → 128 ≤ bit_or (bit_and a b) (bit_and c d))
either_mark {a} {b} {c} {d} h i j k p q =
    let m = or_most (bit_and a b) (bit_and c d) in
    (λ l x. omega (arith, m.0, high_and a b h i l (p x)), λ l x. omega (arith, m.1, high_and c d j k l (q x)))

-- three bytes that are 128 or more
three_high : (a b c : ℕ) → a < 256 → b < 256 → c < 256 → 128 ≤ a → 128 ≤ b → 128 ≤ c
    → (128 ≤ bit_and (bit_and a b) c) × (bit_and (bit_and a b) c < 256)
three_high a b c h i j k l m =
    let x = high_and a b h i k l in
    let y : bit_and a b < 256 = omega (arith, and_le_l a b) in
    (high_and (bit_and a b) c y j x m, omega (arith, and_le_l (bit_and a b) c))

pub nine_high : (s : List ℕ) (k : ℕ) → Bytes s → High9 s k
    → 128 ≤ bit_and
    (bit_and (bit_and (bit_and (get_or s k 0) (get_or s (k + 1) 0)) (get_or s (k + 2) 0)) (bit_and (bit_and (get_or s (k + 3) 0) (get_or s (k + 4) 0)) (get_or s (k + 5) 0)))
    (bit_and (bit_and (get_or s (k + 6) 0) (get_or s (k + 7) 0)) (get_or s (k + 8) 0))
nine_high s k l f =
    let z : 128 ≤ get_or s k 0 = let e : k + 0 ≡ k = omega arith in rw e at (f 0 (omega arith)) in
    let a = three_high _ _ _ (l k) (l (k + 1)) (l (k + 2)) z (f 1 (omega arith)) (f 2 (omega arith)) in
    let b = three_high _ _ _ (l (k + 3)) (l (k + 4)) (l (k + 5)) (f 3 (omega arith)) (f 4 (omega arith)) (f 5 (omega arith)) in
    let c = three_high _ _ _ (l (k + 6)) (l (k + 7)) (l (k + 8)) (f 6 (omega arith)) (f 7 (omega arith)) (f 8 (omega arith)) in
    (three_high _ _ _ a.1 b.1 c.1 a.0 b.0 c.0).0

abbrev pub NotSpare : List ℕ → ℕ → Type 0
NotSpare s j = Spare s j → ⊥

abbrev pub Neither : List ℕ → ℕ → Type 0
Neither s j = NotSpare s j × (Large s j → ⊥)

pub record Judged (P : ℕ → Type 0) (from marks k : ℕ) : Type 0 where
  pub further : from ≤ k
  pub unmarked : marks < 128 → (j : ℕ) → from ≤ j → j < k → P j

pub none_judged : (P : ℕ → Type 0) (from : ℕ) → Judged P from 0 from
none_judged P from = record { further = omega arith; unmarked = λ low j h i. absurd (omega arith) }

pub one_judged : {P : ℕ → Type 0} {from marks k m r : ℕ} → Judged P from marks k → (m < 128 → P k) → (marks ≤ r) × (m ≤ r)
    → Judged P from r (k + 1)
one_judged {P} {k = k} g p most = record {
  further = omega (arith, g.further);
  unmarked = λ low j h i. by_order j k (λ l. g.unmarked (omega (arith, most.0)) j h l)
      (λ l. let e : k ≡ j = omega arith in subst P e (p (omega (arith, most.1))));
}

pub low_mark : (s : List ℕ) (k : ℕ) {nine m : ℕ} → (High9 s (k - 9) → 128 ≤ nine)
    → (128 ≤ nine → 1 < get_or s k 0 → 128 ≤ m) × (128 ≤ get_or s (k - 1) 0 → get_or s k 0 ≡ 0 → 128 ≤ m)
    → m < 128 → Neither s k
low_mark s k shared mark low =
    (λ b. omega (arith, mark.1 b.high b.zero), λ b. omega (arith, mark.0 (shared b.high) b.over))

pub low_early : (s : List ℕ) (k : ℕ) {z m : ℕ} → (get_or s k 0 ≡ 0 → 128 ≤ z) → (128 ≤ get_or s (k - 1) 0 → 128 ≤ z → 128 ≤ m)
    → m < 128 → NotSpare s k
low_early s k none both low b = omega (arith, both b.high (none b.zero))

pub all_later : {s : List ℕ} {marks k : ℕ} → Judged (Neither s) 9 marks k → length s ≤ k → marks < 128 → Unmarked s
all_later g h low j from l = g.unmarked low j from (omega arith)

pub all_early : {s : List ℕ} {to marks k : ℕ} → (to ≤ length s) × (to ≤ 9) × (to < 9 → to ≡ length s) → Judged (NotSpare s) 1 marks k
    → to ≤ k → marks < 128 → UnmarkedEarly s
all_early {to = to} t g h low j from nine l =
    g.unmarked low j from (by_order to 9 (λ few. omega (arith, t.2 few)) (λ all. omega arith))

pub none_marked : {s : List ℕ} {later early : ℕ} → (later < 128 → Unmarked s) → (early < 128 → UnmarkedEarly s) → get_or s (length s - 1) 0 < 128
    → bit_or later early < 128 → Clean s
none_marked {later = later} {early = early} f g ended low =
    let most = or_most later early in
    record { ended = λ here. ended; later = f (omega (arith, most.0)); early = g (omega (arith, most.1)) }
