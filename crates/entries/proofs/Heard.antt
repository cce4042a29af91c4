-- What the bytes behind a mark say, heard field by field, over any list of fields.
--
--   Heard all s at left done   of the fields all, those in front of left were read up to the place at of s, and are the numbers done
--   none_heard                 at first, none was read
--   number_heard               where the next field's number is read, it is one of them
--   fault_heard                where its reading is refused, the bytes say nothing
--   all_heard                  behind the last field, they say the numbers read
--   some_read, none_read       a reading of which `ok` makes a value gave it, one of which it makes none was refused;
--   read_some, read_none       and so what it answers
use Prim.Native.Nat.{ℕ, ◌+◌, ◌≤◌}
use mathlib.Core.Path.{◌≡◌, refl, ap, sym, ◌∙◌}
use mathlib.Core.List.{List, [], ◌∷◌, ◌++◌, append-nil, append_assoc}
use mathlib.Core.Bool.{false}
use native.Mathlib.Omega.{arith}
use lib.ListN.{length, drop}
use lib.Seq.{drop-append_seam, drop-drop}
use Rattle.std.specs.Prelude.{Option, Some, None, Ok, Err}
use Rattle.std.specs.Result.{result_ok}
use Rattle.words.specs.Answer.{Answer, gives, refused, Why, because_of, Reading, means_read}
use Rattle.words.specs.declared.Count.{Count}
use Rattle.words.proofs.OneMeaning.{apart}
use Rattle.groups.specs.Group.{Bytes, Group}
use Rattle.groups.specs.Width.{Width, is_too_large, is_too_many, reading, read}
use Rattle.groups.proofs.FromWalk.{Sound}
use Rattle.groups.proofs.Rows.{read_from}
use Rattle.groups.proofs.Stands.{Stands, read_stands, reading_behind, stands_through}
use Rattle.blocks.specs.Block.{Val, valued}
use Rattle.entries.specs.Saying.{Field, Says, nothing, field}
use Rattle.entries.proofs.SaysGroups.{behind_said}

-- a group read in front of others is read as it is alone
reading_front : {A : Type 0} (w : Width A) {g : List ℕ} (rest : List ℕ) → Group g → reading w (g ++ rest) ≡ reading w g
reading_front w {g} rest r = reading_behind w rest r ∙ sym (reading_behind w [] r) ∙ ap (reading w) (append-nil g)

reading_group : {A : Type 0} (w : Width A) {g : List ℕ} {v : A} {n : ℕ} → Group g → is_too_large w g ≡ false → is_too_many w g ≡ false → v ≡ w.value g → n ≡ length g
    → reading w g ≡ gives (v, n)
reading_group w {g} r large many e f = sym (reading_front w [] r) ∙ reading_behind w [] r ∙ rw (large, many, e, f)

valued_given : {A : Type 0} (tell : A → Val) (a : Answer (A × ℕ)) {v : Val} → valued tell a ≡ gives v → (x : A × ℕ) × (a ≡ gives x)
valued_given tell (gives x) e = (x, refl)
valued_given tell (refused k) e = apart (sym e)

pub some_read : {A : Type 0} (r : Reading A) {v : A} {n : Count} → result_ok r ≡ Some (v, n) → means_read r ≡ gives (v, n.0)
some_read {A} (Ok (w, m)) {v} {n} e = let q : ◌≡◌ {A = A × Count} (w, m) (v, n) = cc in ap (λ (x : A × Count). gives (x.0, x.1.0)) q
some_read {A} (Err f) {v} {n} e = let q : ◌≡◌ {A = Option (A × Count)} None (Some (v, n)) = e in cc

pub none_read : {A : Type 0} (r : Reading A) → result_ok r ≡ None → (why : Why) × (means_read r ≡ refused why)
none_read {A} (Ok x) e = let q : ◌≡◌ {A = Option (A × Count)} (Some x) None = e in cc
none_read (Err f) e = (because_of f, refl)

pub record Heard (all : List Field) (s : List ℕ) (at : ℕ) (left : List Field) (done : List Val) : Type 0 where
  pub within : at ≤ length s
  pub onward : (vs : List Val) (rest : List ℕ) → Says left (drop at s) vs rest → Says all s (done ++ vs) rest
  pub back : (us : List Val) (rest : List ℕ) → Says all s us rest → (vs : List Val) × Says left (drop at s) vs rest

pub none_heard : (all : List Field) (s : List ℕ) → Heard all s 0 all []
none_heard all s = record { within = omega arith; onward = λ vs rest x. x; back = λ us rest x. (us, x) }

module _ {all : List Field} {s : List ℕ} (bytes : Bytes s) {at : ℕ} {left : List Field} {done : List Val} {A : Type 0} (w : Width A) (sound : Sound w)
    (tell : A → Val) (k : Heard all s at ((λ g. valued tell (reading w g)) ∷ left) done) where
  module _ {v : A} {n : ℕ} (e : read w s at ≡ gives (v, n)) where
    stands : Stands w s at v n
    stands = read_stands w s at sound bytes e

    split : drop at s ≡ stands.group ++ drop (at + n) s
    split =
        let g = stands in
        let d : g.rest ≡ drop (at + n) s =
        sym (drop-append_seam g.group g.rest) ∙ ap (λ (i : ℕ). drop i (g.group ++ g.rest)) (sym g.count) ∙ ap (drop n) (sym g.begins) ∙ drop-drop n at s in
        g.begins ∙ ap (λ (t : List ℕ). g.group ++ t) d

    reads : valued tell (reading w stands.group) ≡ gives (tell v)
    reads = let g = stands in ap (valued tell) (reading_group w g.is_group g.not_large g.not_many g.value g.count)

    pub number_heard : {to : ℕ} → to ≡ at + n → Heard all s to left (done ++ (tell v ∷ []))
    number_heard i = rw i (record {
      within = omega (arith, stands_through stands);
      onward = λ vs rest x. rw (append_assoc done (tell v ∷ []) vs) (k.onward (tell v ∷ vs) rest (field stands.is_group reads x split));
      back = λ us rest x. let y = k.back us rest x in let z = behind_said stands.is_group split y.1 in (z.others, z.says);
    })

  unread : {why : Why} {vs : List Val} {rest : List ℕ} → read w s at ≡ refused why → Says ((λ g. valued tell (reading w g)) ∷ left) (drop at s) vs rest → ⊥
  unread e (field {g = g} {more = more} r f x i) =
      let y = valued_given tell (reading w g) f in
      let d : read w s at ≡ gives y.0 = read_from w s at k.within {a = gives y.0} (ap (reading w) i ∙ reading_front w more r ∙ y.1) in
      apart (sym d ∙ e)

  pub fault_heard : {why : Why} → read w s at ≡ refused why → (us : List Val) (rest : List ℕ) → Says all s us rest → ⊥
  fault_heard e us rest x = unread e (k.back us rest x).1

pub all_heard : {all : List Field} {s : List ℕ} {at : ℕ} {done : List Val} → Heard all s at [] done → Says all s done (drop at s)
all_heard {s = s} {at = at} {done = done} k = rw (append-nil done) at (k.onward [] (drop at s) nothing)

-- what a reading gave, from what `ok` makes of it
pub read_some : {A : Type 0} {a : Answer (A × ℕ)} (r : Reading A) {o : Option (A × Count)} {v : A} {n : Count} → means_read r ≡ a → o ≡ result_ok r → o ≡ Some (v, n)
    → a ≡ gives (v, n.0)
read_some r meant made e = sym meant ∙ some_read r (sym made ∙ e)

pub read_none : {A : Type 0} {a : Answer (A × ℕ)} (r : Reading A) {o : Option (A × Count)} → means_read r ≡ a → o ≡ result_ok r → o ≡ None
    → (why : Why) × (a ≡ refused why)
read_none r meant made e = let x = none_read r (sym made ∙ e) in (x.0, sym meant ∙ x.1)
