-- What is left of a block: the number at its front, and what that makes of all of it.
--
--   left_within            each number takes a byte or more
--   Front s to at vs v n   v is the first of the numbers left, vs, and n its count of bytes
--   front                  where bytes are left, a number stands there,
--   front_read             and what is read is the first that is left
--   none_left              at the end none is left
--   one_list, same_list    what is left up to a place is one list, and so is what is left as long as another
use Prim.Native.Nat.{ℕ, ◌+◌, ◌≤◌, ◌<◌}
use mathlib.Core.Path.{◌≡◌, refl, ap, sym, ◌∙◌, subst}
use mathlib.Core.List.{List, [], ◌∷◌}
use native.Mathlib.Omega.{arith}
use lib.ListN.{length, drop}
use Rattle.std.proofs.lemmas.List.{nil_from_length}
use Rattle.words.specs.Answer.{Answer, gives}
use Rattle.groups.specs.Width.{reading}
use Rattle.groups.proofs.Stands.{reading_count}
use Rattle.uleb128.specs.Unsigned.{u64}
use Rattle.lists.specs.InnerLeft.{Left, done, one}

pub left_within : {s : List ℕ} {to at : ℕ} {vs : List ℕ} → Left s to at vs → at + length vs ≤ to
left_within done = omega arith
left_within {s} (one {at} e l) = omega (arith, left_within l, reading_count u64 (drop at s) e)

pub record Front (s : List ℕ) (to at : ℕ) (vs : List ℕ) (v n : ℕ) : Type 0 where
  pub rest : List ℕ
  pub is : vs ≡ v ∷ rest
  pub some : 0 < n
  pub left : Left s to (at + n) rest

pub front : {s : List ℕ} {to at : ℕ} {vs : List ℕ} → Left s to at vs → at < to → (v : ℕ) × (n : ℕ) × (reading u64 (drop at s) ≡ gives (v, n))
front done h = absurd (omega arith)
front (one {at} {v} {n} e l) h = (v, n, e)

pub front_read : {s : List ℕ} {to at : ℕ} {vs : List ℕ} → Left s to at vs → at < to → {w m : ℕ} → reading u64 (drop at s) ≡ gives (w, m)
    → Front s to at vs w m
front_read done h e = absurd (omega arith)
front_read {s} {to} (one {at} {v} {n} {vs} f l) h {w} {m} e =
    let a : ◌≡◌ {A = Answer (ℕ × ℕ)} (gives (v, n)) (gives (w, m)) = sym f ∙ e in
    let q : ◌≡◌ {A = ℕ × ℕ} (v, n) (w, m) = cc in
    record {
      rest = vs;
      is = ap (λ (x : ℕ × ℕ). x.0 ∷ vs) q;
      some = omega (arith, reading_count u64 (drop at s) e);
      left = subst (λ (x : ℕ × ℕ). Left s to (at + x.1) vs) q l;
    }

pub none_left : {s : List ℕ} {to at : ℕ} {vs : List ℕ} → Left s to at vs → to ≤ at → vs ≡ []
none_left done h = refl
none_left {s} (one {at} e l) h = absurd (omega (arith, left_within l, reading_count u64 (drop at s) e))

pub one_list : {s : List ℕ} {to at : ℕ} {vs us : List ℕ} → Left s to at vs → Left s to at us → vs ≡ us
one_list done k = sym (none_left k (omega arith))
one_list {s} (one {at} {v} e l) k =
    let f = front_read k (omega (arith, left_within l, reading_count u64 (drop at s) e)) e in
    ap (λ (x : List ℕ). v ∷ x) (one_list l f.left) ∙ sym f.is

pub same_list : {s : List ℕ} {to to' at : ℕ} {vs us : List ℕ} → Left s to at vs → Left s to' at us → length vs ≡ length us → vs ≡ us
same_list {us = us} done k h = sym (nil_from_length us (sym h))
same_list (one {v = v} e l) k h =
    let f = front_read k (omega (arith, left_within k)) e in
    ap (λ (x : List ℕ). v ∷ x) (same_list l f.left (omega (arith, ap length f.is))) ∙ sym f.is
