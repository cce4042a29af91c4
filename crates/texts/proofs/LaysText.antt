-- Texts laid down in a buffer, one behind the other.
--
--   joined_laid, joined         a text and one behind it are laid down as one
--   none_laid, part_laid        a text at the end of the buffer or past it, and where as many of its bytes as fit are copied there
--   front_count, front_laid     where there is room for it at the front, as many bytes are filled as a text has, and all of it stands there
use Prim.Native.Nat.{ℕ, zero, suc, ◌+◌, ◌-◌, ◌≤◌, ◌<◌, min}
use mathlib.Core.Path.{◌≡◌, refl, ap, sym, ◌∙◌}
use mathlib.Core.List.{List, [], ◌∷◌, ◌++◌}
use native.Mathlib.Omega.{arith}
use lib.ListN.{length, take, drop, length-take, length-append}
use lib.Seq.{length-sets, take_all, length-take-le, sets-eq, drop-drop}
use borrow.Rule.Slice.PartMut.{put_mid}
use Rattle.std.proofs.Common.{append_assoc}
use Rattle.std.proofs.lemmas.List.{take_min}
use Rattle.words.proofs.Lays.{sets_append}
use Rattle.texts.specs.Texts.{LaysText, Lays}
use Rattle.texts.specs.declared.Text.{Text}

take_append : (n : ℕ) (a b : List ℕ) → take n (a ++ b) ≡ take n a ++ take (n - length a) b
take_append zero [] b = refl
take_append zero (x ∷ a) b = let e : 0 - suc (length a) ≡ 0 = omega arith in rw e
take_append (suc n) [] b = let e : suc n - 0 ≡ suc n = omega arith in rw e
take_append (suc n) (x ∷ a) b =
    let e : suc n - suc (length a) ≡ n - length a = omega arith in
    rw e (ap (λ (l : List ℕ). x ∷ l) (take_append n a b))

module _ {a b s s' s'' : List ℕ} {n r r' : ℕ} (p : LaysText a s n r s') (q : LaysText b s' r r' s'') where
  left : length s' - r ≡ length s - n - length a
  left =
      let l : length s' ≡ length s = rw p.bytes (length-sets s n (take (length s - n) a)) in
      omega (arith, l, p.count, length-take (length s - n) a)

  parts : take (length s - n) (a ++ b) ≡ take (length s - n) a ++ take (length s' - r) b
  parts = rw left (take_append (length s - n) a b)

  pub joined_laid : LaysText (a ++ b) s n r' s''
  joined_laid = record {
    count = rw parts (rw (length-append (take (length s - n) a) (take (length s' - r) b)) (omega (arith, p.count, q.count)));
    bytes = rw (parts, sets_append (take (length s - n) a) (take (length s' - r) b) s n, ← p.count, ← p.bytes) q.bytes;
  }

pub joined : {a b : List ℕ} {x y z : Text} → Lays a x y → Lays b y z → Lays (a ++ b) x z
joined p q = record { lent = q.lent ∙ p.lent; laid = joined_laid p.laid q.laid }

-- nothing is laid down at the end of the buffer or past it
pub none_laid : {t s : List ℕ} {n : ℕ} → length s ≤ n → LaysText t s n n s
none_laid {t} {s} {n} h = let z : length s - n ≡ 0 = omega arith in record { count = rw z (omega arith); bytes = rw z }

-- else as many bytes of the text as fit are, in place of the k that stood there
pub part_laid : (t s : List ℕ) (n m k : ℕ) → n ≤ length s → m ≡ min (length t) (length s - n) → k ≡ m → LaysText t s n (n + m) (put_mid n k s (take m t))
part_laid t s n m k h e f =
    let a : m ≡ min (length s - n) (length t) = omega arith in
    let front : take (length s - n) t ≡ take m t = sym (take_min (length s - n) t) ∙ ap (λ (i : ℕ). take i t) (sym a) in
    let l : length (take m t) ≡ m = length-take-le m t (omega arith) in
    record {
      count = rw (front, l);
      bytes = rw (front, sets-eq (take m t) s n (rw l (omega arith)), l, drop-drop k n s, f, append_assoc);
    }

-- where there is room for it at the front, all of a text stands there
module _ {t s s' : List ℕ} {r : ℕ} (room : length t ≤ length s) (p : LaysText t s 0 r s') where
  all : take (length s - 0) t ≡ t
  all = take_all (length s - 0) t (omega arith)

  pub front_count : r ≡ length t
  front_count = p.count ∙ rw all (omega arith)

  pub front_laid : s' ≡ t ++ drop (length t) s
  front_laid = let k : 0 + length t ≡ length t = omega arith in rw all at p.bytes ∙ rw k at (sets-eq t s 0 (omega arith))
