-- No mark stands among the numbers of an entry: each field refuses it.
--
--   mark_unread    by either rule a mark is refused by 3, decided by its second byte
--   Refuse fs      none of the fields fs reads a mark; `fields_refuse`: those of an entry
--   part_behind    a mark of a block, in the bytes from some place before it on
--   no_mark_said   where fields that refuse it read numbers, no mark begins in front of what stands behind these
use Prim.Native.Nat.{ℕ, ◌+◌, ◌-◌, ◌≤◌, ◌<◌}
use mathlib.Core.Path.{◌≡◌, refl, ap, sym, ◌∙◌, subst}
use mathlib.Core.List.{List, [], ◌∷◌, ◌++◌}
use native.Mathlib.Omega.{arith}
use lib.ListN.{length, take, drop, length-append, take-append-drop, get_or-append}
use lib.Seq.{drop-append-add, length-take-le}
use Rattle.words.specs.Answer.{gives, refused, because_at}
use Rattle.words.specs.declared.Refusal.TheVariants.{NotShortest}
use Rattle.words.proofs.Cases.{by_order}
use Rattle.words.proofs.OneMeaning.{apart}
use Rattle.groups.specs.Group.{Group, run}
use Rattle.groups.specs.Width.{runs_out, is_too_large, is_too_many, reading}
use Rattle.groups.proofs.Exact.{group_length}
use Rattle.groups.proofs.Run.{in_run}
use Rattle.blocks.specs.Block.{Val, read_by}
use Rattle.blocks.specs.GroupsAndTail.{GroupAt}
use Rattle.blocks.specs.declared.Rule.{Rule}
use Rattle.blocks.specs.declared.Rule.TheVariants.{Unsigned, Signed}
use Rattle.blocks.proofs.FromStart.{front_start}
use Rattle.blocks.proofs.Local.{groups_local}
use Rattle.entries.specs.Standing.{mark}
use Rattle.entries.specs.Saying.{Field, fields, Says, nothing, field}
use Rattle.entries.proofs.NextMarks.{mark_group, mark_start}
use Rattle.entries.proofs.SaysGroups.{one_front}

pub mark_unread : (rule : Rule) → read_by rule mark ≡ refused (because_at NotShortest 1)
unfolding reading runs_out run is_too_large is_too_many
mark_unread Unsigned = refl
mark_unread Signed = refl

abbrev pub Refuse : List Field → Type 0
Refuse [] = Unit {0}
Refuse (f ∷ fs) = ((v : Val) → f mark ≡ gives v → ⊥) × Refuse fs

pub fields_refuse : Refuse fields
fields_refuse =
    let none : (rule : Rule) (v : Val) → read_by rule mark ≡ gives v → ⊥ = λ rule v e. apart (sym e ∙ mark_unread rule) in
    (none Unsigned, (none Unsigned, (none Signed, tt)))

-- a mark behind other bytes
behind_part : (c b : List ℕ) (j : ℕ) → GroupAt (c ++ b) (length c + j) mark → GroupAt b j mark
behind_part c b j k =
    by_order 0 j (λ h. let e : 0 + j ≡ j = omega arith in rw e at (groups_local.after c [] b j mark h k))
    (λ h.
    let e : j ≡ 0 = omega arith in
    rw e (record { start = front_start b; is_group = mark_group; there = ap (take 2) (sym (drop-append-add c b 0)) ∙ (rw e at k.there) }))

-- none begins in a group that isn't one
none_in_group : {g : List ℕ} (more : List ℕ) (q : ℕ) → Group g → (g ≡ mark → ⊥) → q < length g → GroupAt (g ++ more) q mark → ⊥
none_in_group {g} more q r other l k =
    by_order 0 q
    (λ h. omega (arith, mark_start k h, in_run g (q - 1) (omega (arith, group_length r)), get_or-append g more 0 (q - 1) (omega arith)))
    (λ h.
    let z : q ≡ 0 = omega arith in
    let front : take 2 (g ++ more) ≡ mark = rw z at k.there in
    other (one_front {rest = more} {more = drop 2 (g ++ more)} r mark_group (sym (take-append-drop 2 (g ++ more)) ∙ ap (λ (t : List ℕ). t ++ drop 2 (g ++ more)) front)).0)

pub no_mark_said : {fs : List Field} {l rest : List ℕ} {vs : List Val} → Refuse fs → Says fs l vs rest → (q : ℕ) → q + length rest < length l → GroupAt l q mark → ⊥
no_mark_said refuse nothing q h k = omega arith
no_mark_said refuse (field {f = f} {g = g} {more = more} {v = v} r e x i) q h k =
    let k' : GroupAt (g ++ more) q mark = rw i at k in
    by_order q (length g) (λ l. none_in_group more q r (λ z. refuse.0 v (ap f (sym z) ∙ e)) l k')
    (λ l.
    let j : q ≡ length g + (q - length g) = omega arith in
    no_mark_said refuse.1 x (q - length g) (omega (arith, ap length i, length-append g more))
    (behind_part g more (q - length g) (subst (λ (n : ℕ). GroupAt (g ++ more) n mark) j k')))

pub part_behind : (s : List ℕ) (p q : ℕ) → p ≤ q → p ≤ length s → GroupAt s q mark → GroupAt (drop p s) (q - p) mark
part_behind s p q h l k =
    let e : q ≡ length (take p s) + (q - p) = omega (arith, length-take-le p s l) in
    behind_part (take p s) (drop p s) (q - p)
    (subst (λ (n : ℕ). GroupAt (take p s ++ drop p s) n mark) e (subst (λ (t : List ℕ). GroupAt t q mark) (sym (take-append-drop p s)) k))
