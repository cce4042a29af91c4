-- What the claims need of each reader, and the claims on readers from it, once for all four.
--
--   Reading w form OfWidth         the width w is sound, and its readings are the forms of its numbers
--   within_of_mag, mag_of_within   an integer lies from -h to below h exactly where its `mag` is below h
--   reading_of                     each kind has such a width, such forms and such numbers
--   reads_says, says_reading       a reader promises that its answer says the reading,
--   number_says, refusal_says      so it promises a number, or a refusal, exactly where the reading is that
--   reply_cases                    an answer that a reader promises is a number or a refusal, and the reading is the same
--   number_read, refusal_read      from the number or the refusal that was answered to the reading,
--   read_number, read_refusal      and back
--   one_reply                      a reader promises one answer
--   accepts                        a number is answered exactly where the bytes begin with its form, and it is of the width
--   read_row                       where the reading is a refusal its row holds
--   refuses                        a refusal is answered exactly where its row holds
--   excludes                       no two rows hold, and none where the bytes begin with the form of a number of the width
--   exhausts                       one of them holds, or the bytes begin with such a form
use Prim.Native.Nat.{ℕ, zero, suc, ◌^◌, ◌≤◌, ◌<◌}
use mathlib.Core.Path.{◌≡◌, refl, ap, sym, ◌∙◌, subst}
use mathlib.Core.List.{List}
use mathlib.Core.Logic.{◌↔◌, inl, inr, ⊎_elim}
use native.Mathlib.Omega.{arith}
use lib.Dec.{leb→le, le→leb, lt→ltb, ltb→lt}
use lib.IntN.{ℤ, pos, negsuc, neg_ℤ}
use lib.Signed.{mag, ◌≤ℤ◌, ◌<ℤ◌}
use Rattle.std.specs.Prelude.{Ok, Err}
use Rattle.words.specs.Answer.{Answer, gives, refused, because_at, means_read}
use Rattle.words.specs.declared.Count.{Count}
use Rattle.words.specs.declared.Place.{Place}
use Rattle.words.specs.declared.Refusal.{Refusal}
use Rattle.words.proofs.OneMeaning.{apart, decided_same, given_value, given_count, same_both}
use Rattle.groups.specs.Begins.{Begins}
use Rattle.groups.specs.Group.{Bytes}
use Rattle.groups.specs.Width.{Width, read, Reads}
use Rattle.groups.proofs.Rows.{due_kept}
use Rattle.groups.proofs.FromWalk.{Sound}
use Rattle.groups.proofs.Stands.{Stands, stands_read}
use Rattle.uleb128.specs.Unsigned as unsigned
use Rattle.uleb128.proofs.Widths as unsigned-widths
use Rattle.uleb128.proofs.ReadsForms.{Under, read_begins, begins_read}
use Rattle.sleb128.proofs.Widths as signed-widths
use Rattle.sleb128.proofs.ReadsForms as signed-exactly
use Rattle.claims.specs.Kinds.{Kind, loop64, recursive64, unsigned32, signed64, Value, Reply, number, refuse, ReadsAs, width, form, OfWidth}
use Rattle.claims.specs.Table.{Row}
use Rattle.claims.specs.OfNumbers.{Accepts, Refuses, Excludes, Exhausts}
use Rattle.claims.proofs.TableRows.{row_refused, row_or_number}

-- a width's readings are the forms of its numbers
pub record Reading {A : Type 0} (w : Width A) (form : A → List ℕ) (OfWidth : A → Type 0) : Type 0 where
  pub sound : Sound w
  pub begins : (s : List ℕ) (at : ℕ) (v : A) (n : ℕ) → Bytes s → read w s at ≡ gives (v, n) → Begins form OfWidth s at v n
  pub begun : (s : List ℕ) (at : ℕ) (v : A) (n : ℕ) → Begins form OfWidth s at v n → read w s at ≡ gives (v, n)

-- the numbers of the signed width, by their magnitude
pub within_of_mag : (v : ℤ) (h : ℕ) → mag v < h → (neg_ℤ (pos h) ≤ℤ v) × (v <ℤ pos h)
within_of_mag v zero l = absurd (omega arith)
within_of_mag (pos n) (suc h) l = (record { le = tt }, record { lt = lt→ltb n (suc h) l })
within_of_mag (negsuc n) (suc h) l = (record { le = le→leb n h (omega arith) }, record { lt = tt })

pub mag_of_within : (v : ℤ) (h : ℕ) → 0 < h → neg_ℤ (pos h) ≤ℤ v → v <ℤ pos h → mag v < h
mag_of_within v zero p a b = absurd (omega arith)
mag_of_within (pos n) (suc h) p a b = ltb→lt n (suc h) b.lt
mag_of_within (negsuc n) (suc h) p a b = let q : n ≤ h = leb→le n h a.le in omega arith

-- beginning with a form, under another way to say which numbers are of the width
rewidth : {A : Type 0} {f : A → List ℕ} {P Q : A → Type 0} {s : List ℕ} {at n : ℕ} {v : A} → (P v → Q v) → Begins f P s at v n → Begins f Q s at v n
rewidth g b = record { here = b.here; of_width = g b.of_width; rest = b.rest; begins = b.begins; count = b.count }

unsigned_reading : (most top : ℕ) → 0 < most → top < 128 → Reading (unsigned.unsigned most top) unsigned.form (Under most top)
unsigned_reading most top some low = record {
  sound = unsigned-widths.sound most top some low;
  begins = λ s at v n. read_begins most top some low s at;
  begun = λ s at v n. begins_read most top some low s at;
}

signed_reading : Reading (width signed64) (form signed64) (OfWidth signed64)
signed_reading = record {
  sound = signed-widths.sound;
  begins = λ s at v n bytes e. rewidth (λ l. within_of_mag v (2 ^ 63) l) (signed-exactly.read_begins s at bytes e);
  begun = λ s at v n b. signed-exactly.begins_read s at (rewidth (λ l. mag_of_within v (2 ^ 63) (omega arith) l.0 l.1) b);
}

pub reading_of : (k : Kind) → Reading (width k) (form k) (OfWidth k)
reading_of loop64 = unsigned_reading 10 1 (omega arith) (omega arith)
reading_of recursive64 = unsigned_reading 10 1 (omega arith) (omega arith)
reading_of unsigned32 = unsigned_reading 5 15 (omega arith) (omega arith)
reading_of signed64 = signed_reading

-- what a reader promises is that its answer says the reading
reads_says : (k : Kind) (s : List ℕ) (at : ℕ) (r : Reply k) → ReadsAs k s at r ↔ Reads (width k) s at (means_read r)
reads_says loop64 s at r = (λ p. p, λ p. p)
reads_says recursive64 s at r = (λ p. p, λ p. p)
reads_says unsigned32 s at r = (λ p. p, λ p. p)
reads_says signed64 s at r = (λ p. p, λ p. p)

says_reading : (k : Kind) (s : List ℕ) (at : ℕ) (r : Reply k) → ReadsAs k s at r ↔ (read (width k) s at ≡ means_read r)
says_reading k s at r = (λ p. sym ((reads_says k s at r).0 p).is, λ e. (reads_says k s at r).1 (due_kept e))

pub number_says : (k : Kind) (s : List ℕ) (at : ℕ) (v : Value k) (n : Count) → ReadsAs k s at (number k v n) ↔ (read (width k) s at ≡ gives (v, n.0))
number_says k s at v n = says_reading k s at (number k v n)

pub refusal_says : (k : Kind) (s : List ℕ) (at : ℕ) (why : Refusal) (p : Place) → ReadsAs k s at (refuse k why p) ↔ (read (width k) s at ≡ refused (because_at why p.0))
refusal_says k s at why p = says_reading k s at (refuse k why p)

-- an answer that a reader promises is one of its numbers or of its refusals, and what is read says the same
reply_cases : {X : Type 0} (k : Kind) (s : List ℕ) (at : ℕ) (r : Reply k) → ReadsAs k s at r
    → ((v : Value k) (n : Count) → r ≡ number k v n → read (width k) s at ≡ gives (v, n.0) → X)
    → ((why : Refusal) (p : Place) → r ≡ refuse k why p → read (width k) s at ≡ refused (because_at why p.0) → X) → X
reply_cases k s at (Ok (v, n)) p value fault = value v n refl ((number_says k s at v n).0 p)
reply_cases k s at (Err f) p value fault = fault f.0 f.1 refl ((refusal_says k s at f.0 f.1).0 p)

-- an answer and what it says
module _ (k : Kind) (s : List ℕ) (at : ℕ) where
  number_read : (r : Reply k) (v : Value k) (n : Count) → r ≡ number k v n → ReadsAs k s at r → read (width k) s at ≡ gives (v, n.0)
  number_read r v n e p = (number_says k s at v n).0 (subst (ReadsAs k s at) e p)

  refusal_read : (r : Reply k) (why : Refusal) (q : Place) → r ≡ refuse k why q → ReadsAs k s at r → read (width k) s at ≡ refused (because_at why q.0)
  refusal_read r why q e p = (refusal_says k s at why q).0 (subst (ReadsAs k s at) e p)

  pub read_number : (r : Reply k) (v : Value k) (n : Count) → ReadsAs k s at r → read (width k) s at ≡ gives (v, n.0) → r ≡ number k v n
  read_number r v n p e =
      reply_cases k s at r p
      (λ u m d i.
      let q : ◌≡◌ {A = Answer (Value k × ℕ)} (gives (u, m.0)) (gives (v, n.0)) = sym i ∙ e in
      d ∙ ap (λ (x : Value k × ℕ). number k x.0 (record { 0 = x.1 })) (same_both (given_value q) (given_count q)))
      (λ why q d i. apart (sym e ∙ i))

  read_refusal : (r : Reply k) (why : Refusal) (q : Place) → ReadsAs k s at r → read (width k) s at ≡ refused (because_at why q.0) → r ≡ refuse k why q
  read_refusal r why q p e =
      reply_cases k s at r p (λ v n d i. apart (sym i ∙ e))
      (λ a b d i.
      let same = decided_same a why (sym i ∙ e) in
      d ∙ ap (λ (x : Refusal). refuse k x b) same.0 ∙ ap (λ (j : ℕ). refuse k why (record { 0 = j })) same.1)

  pub one_reply : (r r' : Reply k) → ReadsAs k s at r → ReadsAs k s at r' → r ≡ r'
  one_reply r r' p q =
      reply_cases k s at r p (λ v n e i. e ∙ sym (read_number r' v n q i))
      (λ why b e i. e ∙ sym (read_refusal r' why b q i))

pub accepts : (k : Kind) → Accepts k
accepts k s at r bytes p v n = (
  λ e. (reading_of k).begins s at v n.0 bytes (number_read k s at r v n e p),
  λ b. read_number k s at r v n p ((reading_of k).begun s at v n.0 b),
)

pub read_row : (k : Kind) → (s : List ℕ) (at : ℕ) → Bytes s → (why : Refusal) (p : ℕ) → read (width k) s at ≡ refused (because_at why p) → Row (width k) s at p why
read_row k s at bytes why p e =
    ⊎_elim (λ (row : (a : Refusal) × (q : ℕ) × Row (width k) s at q a).
    let same = decided_same row.0 why (sym (row_refused (width k) (reading_of k).sound row.0 s at row.1 row.2) ∙ e) in
    subst (Row (width k) s at p) same.0 (subst (λ (q : ℕ). Row (width k) s at q row.0) same.1 row.2))
    (λ (g : (v : Value k) × (n : ℕ) × Stands (width k) s at v n). apart (sym (stands_read (width k) s at g.2) ∙ e))
    (row_or_number (width k) (reading_of k).sound s at bytes)

pub refuses : (k : Kind) → Refuses k
refuses k s at r bytes p why q = (
  λ e. read_row k s at bytes why q.0 (refusal_read k s at r why q e p),
  λ row. read_refusal k s at r why q p (row_refused (width k) (reading_of k).sound why s at q.0 row),
)

pub excludes : (k : Kind) → Excludes k
excludes k s at = (
  λ a b p q x y. decided_same a b (sym (row_refused (width k) (reading_of k).sound a s at p x) ∙ row_refused (width k) (reading_of k).sound b s at q y),
  λ a p v n x b. apart (sym ((reading_of k).begun s at v n b) ∙ row_refused (width k) (reading_of k).sound a s at p x),
)

pub exhausts : (k : Kind) → Exhausts k
exhausts k s at bytes =
    ⊎_elim (λ row. inl row)
    (λ (g : (v : Value k) × (n : ℕ) × Stands (width k) s at v n).
    inr (g.0, g.1, (reading_of k).begins s at g.0 g.1 bytes (stands_read (width k) s at g.2)))
    (row_or_number (width k) (reading_of k).sound s at bytes)
