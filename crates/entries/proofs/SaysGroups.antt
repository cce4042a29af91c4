-- What bytes say, group by group.
--
--   one_front      bytes have one group at their front
--   SaidBehind     a field reads the group g as the first number, and the bytes behind it say the others
--   behind_said    so it is where a group stands in front of bytes that say something
--   one_said       bytes say one thing, and one thing stands behind it
--   has_group      bytes that say a number have a group
--   said_alone     what bytes begin with, those alone say that took it,
--   said_within    and back
--   says_or_not    bytes say something or they don't
--   same_numbers   an entry is told by its numbers
--   absurd_said    bytes whose numbers have an absurd turn begin with no entry's
--   one_verdict    there is one verdict on bytes
--   some_verdict   and there is some
use Prim.Native.Nat.{ℕ, ◌+◌, ◌≤◌, ◌<◌}
use mathlib.Core.Path.{◌≡◌, refl, ap, sym, ◌∙◌, subst}
use mathlib.Core.List.{List, [], ◌∷◌, ◌++◌, append_assoc}
use mathlib.Core.Logic.{◌⊎◌, inl, inr, ⊎_elim}
use native.Mathlib.Omega.{arith}
use lib.IntN.{ℤ, pos}
use lib.ListN.{length, get_or, take, drop, length-append, length-drop, take-append-drop}
use lib.Seq.{take-append_seam, drop-append_seam, get_or-drop}
use Rattle.words.specs.Answer.{Answer, gives, refused}
use Rattle.words.proofs.Cases.{by_order}
use Rattle.words.proofs.OneMeaning.{apart, given, by_answer}
use Rattle.groups.specs.Group.{Bytes, Group, run}
use Rattle.groups.proofs.Exact.{group_length}
use Rattle.groups.proofs.Stands.{front_group, run_behind}
use Rattle.groups.specs.Width.{reading}
use Rattle.uleb128.specs.Unsigned.{u64}
use Rattle.sleb128.specs.Signed.{i64}
use Rattle.blocks.specs.Block.{Val, unsigned, signed, valued}
use Rattle.entries.specs.Saying.{Field, fields, Says, nothing, field, numbers_of, Absurd, SaysEntry, Verdict, good, bad, Judged, is_good, is_bad}
use Rattle.entries.specs.declared.Entry.{Entry}
use Rattle.entries.proofs.AbsurdTurns.{absurd_or_not}

pub one_front : {g h rest more : List ℕ} → Group g → Group h → g ++ rest ≡ h ++ more → (g ≡ h) × (rest ≡ more)
one_front {g} {h} {rest} {more} r q e =
    let n : length g ≡ length h = omega (arith, group_length r, group_length q, run_behind rest r, run_behind more q, ap run e) in (
      sym (take-append_seam g rest) ∙ ap (take (length g)) e ∙ ap (λ (i : ℕ). take i (h ++ more)) n ∙ take-append_seam h more,
      sym (drop-append_seam g rest) ∙ ap (drop (length g)) e ∙ ap (λ (i : ℕ). drop i (h ++ more)) n ∙ drop-append_seam h more,
    )

pub record SaidBehind (f : Field) (fs : List Field) (g more : List ℕ) (vs : List Val) (rest : List ℕ) : Type 0 where
  pub first : Val
  pub others : List Val
  pub reads : f g ≡ gives first
  pub says : Says fs more others rest
  pub is : vs ≡ first ∷ others

pub behind_said : {f : Field} {fs : List Field} {g more l rest : List ℕ} {vs : List Val} → Group g → l ≡ g ++ more → Says (f ∷ fs) l vs rest
    → SaidBehind f fs g more vs rest
behind_said {f = f} {fs = fs} {rest = rest} r i (field {v = v} {vs = vs} q e x j) =
    let w = one_front q r (sym j ∙ i) in
    record { first = v; others = vs; reads = ap f (sym w.0) ∙ e; says = subst (λ (l : List ℕ). Says fs l vs rest) w.1 x; is = refl }

pub one_said : {fs : List Field} {l rest rest' : List ℕ} {vs us : List Val} → Says fs l vs rest → Says fs l us rest' → (vs ≡ us) × (rest ≡ rest')
one_said nothing nothing = (refl, refl)
one_said (field {v = v} {vs = vs} r e x i) y =
    let w = behind_said r i y in
    let h = one_said x w.says in
    (ap (λ (u : Val). u ∷ vs) (given (sym e ∙ w.reads)) ∙ ap (λ (us : List Val). w.first ∷ us) h.0 ∙ sym w.is, h.1)

pub has_group : {f : Field} {fs : List Field} {l rest : List ℕ} {vs : List Val} → Says (f ∷ fs) l vs rest → run l < length l
has_group (field {g = g} {more = more} r e x i) = omega (arith, group_length r, run_behind more r, ap run i, ap length i, length-append g more)

-- bytes that say something, without what stands behind it, and with more behind
front_said : {fs : List Field} {l rest : List ℕ} {vs : List Val} → Says fs l vs rest → (front : List ℕ) × (l ≡ front ++ rest) × Says fs front vs []
front_said nothing = ([], refl, nothing)
front_said {rest = rest} (field {g = g} r e x i) =
    let w = front_said x in
    (g ++ w.0, i ∙ ap (λ (t : List ℕ). g ++ t) w.1 ∙ sym (append_assoc g w.0 rest), field r e w.2 refl)

pub said_alone : {fs : List Field} {l : List ℕ} {vs : List Val} (n : ℕ) → n ≤ length l → Says fs l vs (drop n l) → Says fs (take n l) vs []
said_alone {fs} {l} {vs} n h x =
    let w = front_said x in
    let e : length w.0 ≡ n = omega (arith, ap length w.1, length-append w.0 (drop n l), length-drop n l) in
    let i : w.0 ≡ take n l = sym (take-append_seam w.0 (drop n l)) ∙ ap (λ (k : ℕ). take k (w.0 ++ drop n l)) e ∙ ap (take n) (sym w.1) in
    subst (λ (t : List ℕ). Says fs t vs []) i w.2

longer : {fs : List Field} {l rest : List ℕ} {vs : List Val} (more : List ℕ) → Says fs l vs rest → Says fs (l ++ more) vs (rest ++ more)
longer more nothing = nothing
longer more (field {g = g} {more = behind} r e x i) = field r e (longer more x) (ap (λ (t : List ℕ). t ++ more) i ∙ append_assoc g behind more)

pub said_within : {fs : List Field} {l : List ℕ} {vs : List Val} (n : ℕ) → Says fs (take n l) vs [] → Says fs l vs (drop n l)
said_within {fs} {l} {vs} n x = subst (λ (t : List ℕ). Says fs t vs (drop n l)) (take-append-drop n l) (longer (drop n l) x)

pub says_or_not : (fs : List Field) (l : List ℕ) → Bytes l
    → ((vs : List Val) × (rest : List ℕ) × Says fs l vs rest) ⊎ ((vs : List Val) (rest : List ℕ) → Says fs l vs rest → ⊥)
says_or_not [] l bytes = inl ([], l, nothing)
says_or_not (f ∷ fs) l bytes =
    by_order (run l) (length l)
    (λ h.
    let g = take (run l + 1) l in
    let more = drop (run l + 1) l in
    let r : Group g = front_group l bytes h in
    let i : l ≡ g ++ more = sym (take-append-drop (run l + 1) l) in
    by_answer (f g)
    (λ v e. ⊎_elim (λ (x : (vs : List Val) × (rest : List ℕ) × Says fs more vs rest). inl (v ∷ x.0, x.1, field r e x.2 i))
    (λ (none : (vs : List Val) (rest : List ℕ) → Says fs more vs rest → ⊥). inr (λ vs rest x. let w = behind_said r i x in none w.others rest w.says))
    (says_or_not fs more (λ j. rw (get_or-drop (run l + 1) l j 0) (bytes (run l + 1 + j)))))
    (λ k e. inr (λ vs rest x. apart (sym (behind_said r i x).reads ∙ e))))
    (λ h. inr (λ vs rest x. omega (arith, has_group x)))

-- the way back from an entry's numbers
natural : Val → ℕ
natural (unsigned v) = v
natural (signed v) = 0

integer : Val → ℤ
integer (unsigned v) = pos 0
integer (signed v) = v

abbrev entry_of : List Val → Entry
entry_of vs = record {
  segment = natural (get_or vs 0 (unsigned 0));
  sentence = natural (get_or vs 1 (unsigned 0));
  turn = integer (get_or vs 2 (unsigned 0));
}

pub same_numbers : {x y : Entry} → numbers_of x ≡ numbers_of y → x ≡ y
unfolding natural integer
same_numbers e = ap entry_of e

-- what the fields read is the numbers of an entry
is_unsigned : (a : Answer (ℕ × ℕ)) {v : Val} → valued unsigned a ≡ gives v → unsigned (natural v) ≡ v
unfolding natural
is_unsigned (gives x) e = rw (← (given e))
is_unsigned (refused k) e = apart (sym e)

is_signed : (a : Answer (ℤ × ℕ)) {v : Val} → valued signed a ≡ gives v → signed (integer v) ≡ v
unfolding integer
is_signed (gives x) e = rw (← (given e))
is_signed (refused k) e = apart (sym e)

says_entry : {l rest : List ℕ} {vs : List Val} → Says fields l vs rest → Says fields l (numbers_of (entry_of vs)) rest
says_entry (field {g = g} {v = v} r e (field {g = g'} {v = v'} r' e' (field {g = g''} {v = v''} r'' e'' nothing i'') i') i) =
    let a : unsigned (natural v) ≡ v = is_unsigned (reading u64 g) e in
    let b : unsigned (natural v') ≡ v' = is_unsigned (reading u64 g') e' in
    let c : signed (integer v'') ≡ v'' = is_signed (reading i64 g'') e'' in
    rw (a, b, c) (field r e (field r' e' (field r'' e'' nothing i'') i') i)

pub absurd_said : {l rest : List ℕ} {x : Entry} → Says fields l (numbers_of x) rest → Absurd x.turn → (y : Entry) (more : List ℕ) → SaysEntry l y more → ⊥
absurd_said {x = x} said h y more g = let e : y ≡ x = same_numbers (one_said g.says said).0 in g.sensible (rw e h)

pub one_verdict : {l : List ℕ} {v w : Verdict} → Judged l v → Judged l w → v ≡ w
one_verdict (is_good x) (is_good y) = ap good (same_numbers (one_said x.says y.says).0)
one_verdict (is_good {x = x} p) (is_bad none) = absurd (none x p)
one_verdict (is_bad none) (is_good {x = x} p) = absurd (none x p)
one_verdict (is_bad none) (is_bad also) = refl

-- numbers are all that there is, or bytes stand behind them; and their turn is absurd, or it isn't
all_or_more : {l : List ℕ} {x : Entry} (rest : List ℕ) → Says fields l (numbers_of x) rest → (v : Verdict) × Judged l v
all_or_more {x = x} [] y =
    ⊎_elim (λ h. (bad, is_bad (λ z g. absurd_said y h z [] g)))
    (λ h. (good x, is_good (record { says = y; sensible = h }))) (absurd_or_not x.turn)
all_or_more (b ∷ rest) y = (bad, is_bad (λ x g. let e : ◌≡◌ {A = ℕ} 0 (length (b ∷ rest)) = ap length (one_said g.says y).1 in omega arith))

pub some_verdict : (l : List ℕ) → Bytes l → (v : Verdict) × Judged l v
some_verdict l bytes =
    ⊎_elim (λ (x : (vs : List Val) × (rest : List ℕ) × Says fields l vs rest). all_or_more x.1 (says_entry x.2))
    (λ (none : (vs : List Val) (rest : List ℕ) → Says fields l vs rest → ⊥). (bad, is_bad (λ x g. none (numbers_of x) [] g.says)))
    (says_or_not fields l bytes)
