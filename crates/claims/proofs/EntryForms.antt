-- What a good entry's bytes are: exactly the forms of its numbers, one after another behind the mark, and no mark among them.
--
--   number_form, form_number   a group that a kind's field reads as a number is its form, and back
--   said_widths, forms_said    bytes say an entry's numbers exactly where they are the forms of numbers of their widths
--   good_form, one_form        the same of an entry with its mark; a form is of one entry
--   form_stands                an entry's form alone is an entry: no mark stands among the forms
--   form_read                  where it stands, a reader answers it by the verdict on it
--   absurd_read                so an absurd turn is refused by 10, with the place where the entry ends;
--   written_back               an entry written alone reads back,
--   refused_unread             and one refused by 10 would not have
use Prim.Native.Nat.{ℕ, ◌+◌, ◌-◌, ◌^◌, ◌≤◌}
use mathlib.Core.Path.{◌≡◌, refl, ap, sym, ◌∙◌, subst}
use mathlib.Core.List.{List, [], ◌∷◌, ◌++◌}
use mathlib.Core.Logic.{inr}
use native.Mathlib.Omega.{arith}
use lib.ListN.{length, take, drop, take-append-drop}
use lib.Seq.{take-length, take-take}
use Rattle.std.specs.Prelude.{Result, Ok}
use Rattle.words.specs.Answer.{gives, means_written}
use Rattle.words.specs.declared.Refusal.TheVariants as Why
use Rattle.words.specs.declared.Refusal.{Refusal}
use Rattle.words.proofs.LaysExactly.{laid_there}
use Rattle.words.proofs.OneMeaning.{apart, given, by_answer}
use Rattle.groups.specs.Group.{Group}
use Rattle.groups.specs.Width.{reading}
use Rattle.groups.proofs.Exact.{group_length}
use Rattle.groups.proofs.Spelling.{spelled_group}
use Rattle.groups.proofs.Stands.{reading_count}
use Rattle.uleb128.specs.Unsigned as unsigned-code
use Rattle.uleb128.proofs.Forms as unsigned-forms
use Rattle.sleb128.specs.Signed as signed-code
use Rattle.sleb128.proofs.Forms as signed-forms
use Rattle.blocks.specs.Block.{Val, unsigned, signed, valued, block_limit}
use Rattle.blocks.proofs.FromStart.{front_start}
use Rattle.entries.specs.Standing.{mark, EntryAt}
use Rattle.entries.specs.Saying.{fields, Says, nothing, field, numbers_of, Absurd, Verdict, good, bad, Judged, is_good, is_bad, forms_of}
use Rattle.entries.specs.Promise.{ReadsEntry, entry_form, absurd_turn, sensible_turn}
use Rattle.entries.specs.declared.Entry.{Entry}
use Rattle.entries.specs.declared.ReadEntry.{ReadEntry}
use Rattle.entries.specs.declared.ReadEntry.TheVariants as R
use Rattle.entries.proofs.NextMarks.{mark_group, next_here}
use Rattle.entries.proofs.NoMarkInside.{fields_refuse, no_mark_said, part_behind}
use Rattle.entries.proofs.SaysGroups.{one_said, same_numbers, absurd_said}
use Rattle.entries.proofs.OneEntry.{same_entry, one_answered, answer_of, reads_first, first_of}
use Rattle.entries.proofs.PutEntry.{form_ten, signed_ten, entry_takes}
use Rattle.claims.specs.Kinds.{Kind, loop64, signed64, Value, width, form, OfWidth}
use Rattle.claims.specs.OfEntries.{OfWidths, GoodForm, OneForm, AbsurdRead, WrittenBack, RefusedUnread}
use Rattle.claims.proofs.ReadGroup.{read_group}
use Rattle.claims.proofs.Readers.{mag_of_within}
use Rattle.claims.proofs.Begun.{refused_by}

-- a field of a kind, which tells a number of the kind as a value
module _ (k : Kind) (tell : Value k → Val) where
  number_form : {g : List ℕ} {v : Value k} → ((u : Value k) → tell u ≡ tell v → u ≡ v) → Group g → valued tell (reading (width k) g) ≡ gives (tell v)
      → OfWidth k v × (g ≡ form k v)
  number_form {g} {v} same r e =
      by_answer (reading (width k) g)
      (λ x q.
      let i : x.0 ≡ v = same x.0 (given (ap (valued tell) (sym q) ∙ e)) in
      let n : x.1 ≡ length g = omega (arith, reading_count (width k) g q, group_length r) in
      let full : reading (width k) g ≡ gives (v, length g) = q ∙ rw (i, n) in
      ((read_group k g r).number v).0 full)
      (λ why q. apart (sym e ∙ ap (valued tell) q))

  form_number : {v : Value k} → Group (form k v) → OfWidth k v → valued tell (reading (width k) (form k v)) ≡ gives (tell v)
  form_number {v} r h = ap (valued tell) (((read_group k (form k v) r).number v).1 (h, refl))

unsigned_group : (v : ℕ) → Group (unsigned-code.form v)
unsigned_group v = spelled_group (omega arith) (unsigned-forms.form_spelled v)

signed_group : (v : Value signed64) → Group (signed-code.form v)
signed_group v = spelled_group (omega arith) (signed-forms.form_spelled v)

said_forms : {l : List ℕ} {a b : ℕ} {c : Value signed64} → Says fields l (unsigned a ∷ unsigned b ∷ signed c ∷ []) []
    → OfWidth loop64 a × OfWidth loop64 b × OfWidth signed64 c × (l ≡ forms_of (unsigned a ∷ unsigned b ∷ signed c ∷ []))
said_forms (field r e (field r' e' (field r'' e'' nothing i'') i') i) =
    let f = number_form loop64 unsigned (λ u q. cc) r e in
    let f' = number_form loop64 unsigned (λ u q. cc) r' e' in
    let f'' = number_form signed64 signed (λ u q. cc) r'' e'' in
    (f.0, f'.0, f''.0, rw (i, i', i'', f.1, f'.1, f''.1))

said_widths : (l : List ℕ) (x : Entry) → Says fields l (numbers_of x) [] → OfWidths x × (l ≡ forms_of (numbers_of x))
said_widths l x h = let w = said_forms h in (record { segment = w.0; sentence = w.1; turn = w.2 }, w.3)

forms_said : (l : List ℕ) (x : Entry) → OfWidths x → l ≡ forms_of (numbers_of x) → Says fields l (numbers_of x) []
forms_said l x h e =
    field (unsigned_group x.segment) (form_number loop64 unsigned (unsigned_group x.segment) h.segment)
    (field (unsigned_group x.sentence) (form_number loop64 unsigned (unsigned_group x.sentence) h.sentence)
    (field (signed_group x.turn) (form_number signed64 signed (signed_group x.turn) h.turn) nothing refl) refl) e

-- an entry is its mark and what is behind it
opened : {s : List ℕ} {p : ℕ} {e : List ℕ} → EntryAt s p e → e ≡ mark ++ drop 2 e
opened {s} {p} {e} k =
    let l : 2 ≤ length e = omega (arith, k.ends.from) in
    sym (take-append-drop 2 e) ∙ ap (λ (t : List ℕ). t ++ drop 2 e) (ap (take 2) (sym k.there) ∙ take-take 2 (length e) (drop p s) l ∙ k.opens.there)

pub good_form : GoodForm
good_form s p e k x = (
  λ h. let w = said_widths (drop 2 e) x h.says in (w.0, h.sensible, opened k ∙ ap (λ (l : List ℕ). mark ++ l) w.1),
  λ h. record { says = forms_said (drop 2 e) x h.0 (ap (drop 2) h.2); sensible = h.1 },
)

pub one_form : OneForm
one_form x y h j e =
    let l = forms_of (numbers_of x) in
    same_numbers (one_said (forms_said l x h refl) (forms_said l y j (ap (drop 2) e))).0

pub form_stands : (x : Entry) → OfWidths x → EntryAt (entry_form x) 0 (entry_form x)
form_stands x h =
    let l = forms_of (numbers_of x) in
    record {
      opens = record { start = front_start (mark ++ l); is_group = mark_group; there = refl };
      there = take-length (mark ++ l);
      ends = record {
        from = omega arith;
        none_before = λ q i j k. no_mark_said fields_refuse (forms_said l x h refl) (q - 2) (omega arith) (part_behind (mark ++ l) 2 q i (omega arith) k);
        there = inr (omega arith);
      };
    }

few_bytes : (x : Entry) → OfWidths x → length (entry_form x) ≤ block_limit
few_bytes x h =
    omega (
      arith,
      entry_takes x,
      form_ten x.segment h.segment,
      form_ten x.sentence h.sentence,
      signed_ten x.turn (mag_of_within x.turn (2 ^ 63) (omega arith) h.turn.0 h.turn.1),
    )

form_read : {s : List ℕ} {p : ℕ} (x : Entry) (v : Verdict) → length s ≤ block_limit → EntryAt s p (entry_form x) → Judged (forms_of (numbers_of x)) v
    → (r : Result ReadEntry Refusal) → ReadsEntry s p r → r ≡ answer_of v (p + length (entry_form x))
form_read {s} {p} x v short stands j r k =
    let n = length (entry_form x) in
    let first = reads_first v short (record {
      place = p;
      count = n;
      first = next_here stands.opens;
      entry = record { bytes = entry_form x; stands = stands; count = refl; judged = j };
      ends = refl;
    }) in
    same_entry r (answer_of v (p + n)) (one_answered k.answer first.answer)

absurd_bad : (x : Entry) → OfWidths x → Absurd x.turn → Judged (forms_of (numbers_of x)) bad
absurd_bad x h k = is_bad (λ y g. absurd_said (forms_said (forms_of (numbers_of x)) x h refl) k y [] g)

pub absurd_read : AbsurdRead
absurd_read s p x r short h k stands = form_read x bad short stands (absurd_bad x h k) r

pub written_back : WrittenBack
written_back x before at n after r h (absurd_turn k e i) q = apart (ap means_written e)
written_back x before at n after r h (sensible_turn k w) q =
    let l = forms_of (numbers_of x) in
    let there = laid_there (entry_form x) before at (Ok n) after w n refl in
    let e : 0 + length (entry_form x) ≡ n.0 = omega (arith, there.0) in
    form_read x (good x) (few_bytes x h) (form_stands x h) (is_good (record { says = forms_said l x h refl; sensible = k })) r (subst (λ (s : List ℕ). ReadsEntry s 0 r) there.1 q)
    ∙ ap (λ (i : ℕ). Ok (R.Good x (record { 0 = i }))) e

good_sensible : {l : List ℕ} {v : Verdict} {x : Entry} → Judged l v → v ≡ good x → Absurd x.turn → ⊥
good_sensible {x = x} j e = elim (rw e at j) [ is_good g ↦ g.sensible ]

pub refused_unread : RefusedUnread
refused_unread x before at after h (absurd_turn k e i) =
    let z : 0 + length (entry_form x) ≡ length (entry_form x) = omega arith in (
      λ r w. absurd_read (entry_form x) 0 x r (few_bytes x h) h k (form_stands x h) w ∙ ap (λ (n : ℕ). Ok (R.Bad Why.Entry (record { 0 = n }))) z,
      λ s p q w. good_sensible (first_of (good x) w.answer refl).1.entry.judged refl k,
    )
refused_unread x before at after h (sensible_turn k w) = absurd (omega (arith, refused_by w Why.Entry refl))
