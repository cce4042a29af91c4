-- A reading accepts exactly where a group that the width accepts stands at the place, whatever follows it.
--
--   Stands w s at v n              such a group stands there, v is its value and n its length
--   run_behind                     bytes behind a group leave its run as it is
--   front_group                    the bytes through the first below 128 are a group
--   large_behind                   bytes behind a group leave row 2's test as it is
--   reading_behind                 a group with bytes behind it is read by its own bytes: rows 2 and 3, else its value and length
--   stands_read, read_stands       from the group to the reading, and back
--   stands_through                 such a group goes through the first byte below 128, which is there
--   form_read                      where the bytes begin with a form that the width accepts, with its value, the number is read
--   read_form                      and back, from a group that is such a form
--   count_within                   a group that stands so has at most the most bytes
--   reading_value, reading_count   the number that is given is the value of the bytes through the first below 128, and the count is theirs
--   reading_alone                  where some byte is below 128, reading all the bytes is reading those through the first such
use Prim.Native.Nat.{ℕ, suc, ◌+◌, ◌-◌, ◌≤◌, ◌<◌}
use mathlib.Core.Path.{◌≡◌, refl, ap, sym, ◌∙◌}
use mathlib.Core.List.{List, [], ◌∷◌, ◌++◌, append-nil}
use mathlib.Core.Bool.{Bool, true, false}
use native.Mathlib.Numerals.{add-one}
use native.Mathlib.Omega.{arith}
use lib.ListN.{length, get_or, take, drop, take-append-drop, length-drop, length-append, get_or-append}
use lib.Seq.{take-append_seam, get_or-drop}
use Rattle.words.specs.Answer.{pick, Answer, gives, refused, by_at, Why}
use Rattle.words.proofs.Cases.{by_order, clash}
use Rattle.words.proofs.Moved.{moved_gave}
use Rattle.groups.specs.Begins.{Begins}
use Rattle.groups.specs.Group.{Bytes, run, Group, one, more}
use Rattle.groups.specs.Width.{Width, runs_out, is_too_large, is_too_many, reading, read}
use Rattle.groups.proofs.Run.{run_low, run_high, run_within, in_run}
use Rattle.groups.proofs.Rows.{closed_not_out, short_not_large, row_end, read_past, read_from, large_when}
use Rattle.groups.proofs.FromWalk.{Sound, overrun_large}
use Rattle.groups.proofs.Exact.{group_length}

pub record Stands {A : Type 0} (w : Width A) (s : List ℕ) (at : ℕ) (v : A) (n : ℕ) : Type 0 where
  pub here : at ≤ length s
  pub group : List ℕ
  pub rest : List ℕ
  pub begins : drop at s ≡ group ++ rest
  pub is_group : Group group
  pub not_large : is_too_large w group ≡ false
  pub not_many : is_too_many w group ≡ false
  pub value : v ≡ w.value group
  pub count : n ≡ length group

pub run_behind : {g : List ℕ} (rest : List ℕ) → Group g → run (g ++ rest) ≡ run g
run_behind rest (one {b} p) = run_low b rest p ∙ sym (run_low b [] p)
run_behind rest (more {b} {g} h l r) = run_high b (g ++ rest) h ∙ ap suc (run_behind rest r) ∙ sym (run_high b g h)

-- the bytes through the first below 128 are a group
pub front_group : (l : List ℕ) → Bytes l → run l < length l → Group (take (run l + 1) l)
front_group [] b h = absurd (omega arith)
front_group (c ∷ l) b h =
    by_order c 128 (λ low. rw (run_low c l low) (one low))
    (λ high. let e = run_high c l high in rw (e, add-one)
    (more high (b 0) (rw add-one at (front_group l (λ i. b (suc i)) (omega arith)))))

module _ {A : Type 0} (w : Width A) {g : List ℕ} (rest : List ℕ) (r : Group g) where
  same_byte : (i : ℕ) → i ≤ run g → get_or (g ++ rest) i 0 ≡ get_or g i 0
  same_byte i h = get_or-append g rest 0 i (omega (arith, group_length r))

  pub large_behind : is_too_large w (g ++ rest) ≡ is_too_large w g
  unfolding is_too_large
  large_behind =
      by_order (run g + 1) w.most
      (λ l. short_not_large w (g ++ rest) (rw (run_behind rest r) l) ∙ sym (short_not_large w g l))
      (λ l. rw (run_behind rest r, same_byte (w.most - 1) (omega arith)))

  many_behind : is_too_many w (g ++ rest) ≡ is_too_many w g
  unfolding is_too_many
  many_behind = rw (run_behind rest r, same_byte (run g - 1) (omega arith), same_byte (run g) (omega arith))

  pub reading_behind : reading w (g ++ rest)
      ≡ pick (is_too_large w g) (refused (by_at 2 (w.most - 1))) (pick (is_too_many w g) (refused (by_at 3 (run g))) (gives (w.value g, length g)))
  unfolding reading
  reading_behind =
      let n : run g + 1 ≡ length g = omega (arith, group_length r) in
      let out : runs_out w (g ++ rest) ≡ false =
      closed_not_out w (g ++ rest) (rw (run_behind rest r, length-append g rest) (omega (arith, group_length r))) in
      rw (out, large_behind, many_behind, run_behind rest r, n, take-append_seam g rest)

accept : {X : Type 0} {p : X} (t : Bool) (k : Why) (x : Answer X) → pick t (refused k) x ≡ gives p → (t ≡ false) × (x ≡ gives p)
accept true k x e = let z : ◌≡◌ {A = ℕ} 0 1 = cc in absurd (omega arith)
accept false k x e = (refl, e)

paired : {A : Type 0} {a b : A} {m n : ℕ} → ◌≡◌ {A = Answer (A × ℕ)} (gives (a, m)) (gives (b, n)) → (b ≡ a) × (n ≡ m)
paired {A} {a} {b} {m} {n} e =
    let q : ◌≡◌ {A = A × ℕ} (a, m) (b, n) = cc in
    (sym (ap (λ (x : A × ℕ). x.0) q), sym (ap (λ (x : A × ℕ). x.1) q))

module _ {A : Type 0} (w : Width A) (s : List ℕ) (at : ℕ) where
  pub stands_read : {v : A} {n : ℕ} → Stands w s at v n → read w s at ≡ gives (v, n)
  stands_read {v} {n} g =
      read_from w s at g.here {a = gives (v, n)} (rw (g.begins, reading_behind w g.rest g.is_group, g.not_large, g.not_many, g.value, g.count))

  module _ (sound : Sound w) (bytes : Bytes s) {v : A} {n : ℕ} (e : read w s at ≡ gives (v, n)) where
    apart : {X : Type 0} {k : Why} → read w s at ≡ refused k → X
    apart q = let z : ◌≡◌ {A = ℕ} 0 1 = cc in absurd (omega arith)

    stands_here : at ≤ length s
    stands_here = by_order (length s) at (λ l. apart (read_past w s at l)) (λ l. l)

    stands_closed : run (drop at s) < length (drop at s)
    stands_closed =
        by_order (run (drop at s)) (length (drop at s)) (λ l. l)
        (λ l.
        by_order (run (drop at s)) w.most
        (λ m. apart (read_from w s at stands_here (row_end w (drop at s) (omega (arith, run_within (drop at s))) m)))
        (λ m. apart (overrun_large w sound s at stands_here m)))

    bytes_from : Bytes (drop at s)
    bytes_from i = rw (get_or-drop at s i 0) (bytes (at + i))

    pub read_stands : Stands w s at v n
    read_stands =
        let l = drop at s in
        let split : l ≡ take (run l + 1) l ++ drop (run l + 1) l = sym (take-append-drop (run l + 1) l) in
        let r = front_group l bytes_from stands_closed in
        let given : reading w l ≡ gives (v, n) = moved_gave at (reading w l) (sym (read_from w s at stands_here refl) ∙ e) in
        let a = accept (is_too_large w (take (run l + 1) l)) _ _
        (sym (reading_behind w (drop (run l + 1) l) r) ∙ sym (ap (reading w) split) ∙ given) in
        let b = accept (is_too_many w (take (run l + 1) l)) _ _ a.1 in
        let p = paired b.1 in
        record {
          here = stands_here;
          group = take (run l + 1) l;
          rest = drop (run l + 1) l;
          begins = split;
          is_group = r;
          not_large = a.0;
          not_many = b.0;
          value = p.0;
          count = p.1;
        }

pub stands_through : {A : Type 0} {w : Width A} {s : List ℕ} {at : ℕ} {v : A} {n : ℕ} → Stands w s at v n
    → (n ≡ run (drop at s) + 1) × (at + run (drop at s) < length s)
stands_through {s = s} {at = at} g =
    let e : run (drop at s) ≡ run g.group = ap run g.begins ∙ run_behind g.rest g.is_group in
    let l : length (drop at s) ≡ length g.group + length g.rest = ap length g.begins ∙ length-append g.group g.rest in
    (omega (arith, group_length g.is_group, g.count), omega (arith, group_length g.is_group, length-drop at s))

module _ {A : Type 0} (w : Width A) {form : A → List ℕ} {OfWidth : A → Type 0} (s : List ℕ) (at : ℕ) {v : A} {n : ℕ} where
  pub form_read : Begins form OfWidth s at v n → Group (form v) × (is_too_large w (form v) ≡ false) × (is_too_many w (form v) ≡ false) → w.value (form v) ≡ v
      → read w s at ≡ gives (v, n)
  form_read b a e = stands_read w s at (record {
    here = b.here;
    group = form v;
    rest = b.rest;
    begins = b.begins;
    is_group = a.0;
    not_large = a.1;
    not_many = a.2;
    value = sym e;
    count = b.count;
  })

  pub read_form : (g : Stands w s at v n) → g.group ≡ form v → OfWidth v → Begins form OfWidth s at v n
  read_form g f h = record { here = g.here; of_width = h; rest = g.rest; begins = g.begins ∙ rw f; count = g.count ∙ ap length f }

-- what is read takes no more than the most bytes
pub count_within : {A : Type 0} (w : Width A) {s : List ℕ} {at : ℕ} {v : A} {n : ℕ} → Sound w → Stands w s at v n → n ≤ w.most
count_within w {n = n} sound g =
    by_order w.most n
    (λ l.
    let e : length g.group ≡ suc (run g.group) = group_length g.is_group in
    let t : is_too_large w g.group ≡ true =
    large_when w g.group (omega (arith, g.count)) (sound.low (get_or g.group (w.most - 1) 0)
    (in_run g.group (w.most - 1) (omega (arith, g.count, sound.some)))) in
    clash g.not_large t)
    (λ l. l)

-- a number is the value, and the count the length, of the bytes through the first below 128
module _ {A : Type 0} (w : Width A) (l : List ℕ) {v : A} {n : ℕ} (e : reading w l ≡ gives (v, n)) where
  reading_gave : (v ≡ w.value (take (run l + 1) l)) × (n ≡ run l + 1)
  unfolding reading
  reading_gave = paired (accept (is_too_many w l) _ _ (accept (is_too_large w l) _ _ (accept (runs_out w l) _ _ e).1).1).1

  pub reading_value : v ≡ w.value (take (run l + 1) l)
  reading_value = reading_gave.0

  pub reading_count : n ≡ run l + 1
  reading_count = reading_gave.1

-- a group read where it stands is read as it is alone
pub reading_alone : {A : Type 0} (w : Width A) (l : List ℕ) → Bytes l → run l < length l → reading w l ≡ reading w (take (run l + 1) l)
reading_alone w l bytes h =
    let r = front_group l bytes h in
    ap (reading w) (sym (take-append-drop (run l + 1) l)) ∙ reading_behind w (drop (run l + 1) l) r ∙ sym (reading_behind w [] r)
    ∙ ap (reading w) (append-nil (take (run l + 1) l))
