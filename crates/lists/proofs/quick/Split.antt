-- The numbers of a block, split at a start.
--
--   Split s to mid at vs   vs are numbers up to the start mid, xs, and numbers behind it, ys
--   start_behind           no start stands inside a number
--   split_at               what is left is split so at each start
--   halves_fit             a block that is numbers is two halves, of which the first has as many as bytes below 128 stand before the start
--   halves_all             both halves stored are all
use Prim.Native.Nat.{ℕ, ◌+◌, ◌-◌, ◌≤◌, ◌<◌}
use mathlib.Core.Path.{◌≡◌, refl, ap, sym, ◌∙◌, subst}
use mathlib.Core.Logic.{⊎_elim}
use mathlib.Core.List.{List, [], ◌∷◌, ◌++◌}
use native.Mathlib.Omega.{arith}
use lib.ListN.{length, get_or, take, drop, length-append}
use lib.Seq.{sets, get_or-drop}
use Rattle.words.specs.Answer.{gives}
use Rattle.words.proofs.Cases.{by_order}
use Rattle.groups.specs.Width.{reading}
use Rattle.groups.proofs.Run.{in_run}
use Rattle.groups.proofs.Stands.{reading_count}
use Rattle.uleb128.specs.Unsigned.{u64}
use Rattle.blocks.specs.GroupsAndTail.{Start}
use Rattle.lists.specs.InnerLeft.{Left, done, one, lows}
use Rattle.lists.specs.InnerHalves.{Begun, HalvesFit, HalvesStored, AllFit, AllStored}
use Rattle.lists.proofs.quick.Front.{one_list}
use Rattle.lists.proofs.quick.LowBytes.{lows_part}

record Split (s : List ℕ) (to mid at : ℕ) (vs : List ℕ) : Type 0 where
  xs : List ℕ
  ys : List ℕ
  is : vs ≡ xs ++ ys
  first : Left s mid at xs
  second : Left s to mid ys

none_between : {s : List ℕ} {at to : ℕ} → at ≡ to → Left s to at []
none_between {s} {at} {to} e = subst (λ (x : ℕ). Left s to x []) (sym e) done

start_behind : (s : List ℕ) (at mid : ℕ) {v n : ℕ} → reading u64 (drop at s) ≡ gives (v, n) → at < mid → Start s mid → at + n ≤ mid
start_behind s at mid {v} {n} e h t =
    by_order mid (at + n)
    (λ o.
    let c = reading_count u64 (drop at s) e in
    let i : at + (mid - 1 - at) ≡ mid - 1 = omega arith in
    let a : 128 ≤ get_or (drop at s) (mid - 1 - at) 0 = in_run (drop at s) (mid - 1 - at) (omega arith) in
    let b : 128 ≤ get_or s (mid - 1) 0 = rw (get_or-drop at s (mid - 1 - at) 0, i) at a in
    ⊎_elim (λ z. absurd (omega arith)) (λ z. absurd (omega (arith, z.1))) t.behind)
    (λ o. o)

split_at : {s : List ℕ} {to at : ℕ} {vs : List ℕ} (mid : ℕ) → Left s to at vs → at ≤ mid → mid ≤ to → Start s mid → Split s to mid at vs
split_at {s} {to} mid done a b t =
    let e : to ≡ mid = omega arith in
    record { xs = []; ys = []; is = refl; first = none_between e; second = none_between (sym e) }
split_at {s} {to} mid (one {at} {v} {n} {vs} e l) a b t =
    by_order at mid
    (λ o.
    let p = split_at mid l (start_behind s at mid e o t) b t in
    record { xs = v ∷ p.xs; ys = p.ys; is = ap (λ (k : List ℕ). v ∷ k) p.is; first = one e p.first; second = p.second })
    (λ o.
    let q : at ≡ mid = omega arith in
    record { xs = []; ys = v ∷ vs; is = refl; first = none_between q; second = subst (λ (x : ℕ). Left s to x (v ∷ vs)) q (one e l) })

module _ {s : List ℕ} {mid half count room : ℕ} (h : AllFit s count room) (t : Start s mid) (e : half ≡ lows (take mid s)) where
  parts : Split s (length s) mid 0 h.vs
  parts = split_at mid h.left (omega arith) t.here t

  begun : Begun s mid half count parts.xs parts.ys
  begun =
      let a : lows (take mid s) ≡ length parts.xs = lows_part parts.first in
      let b : length h.vs ≡ length parts.xs + length parts.ys = ap length parts.is ∙ length-append parts.xs parts.ys in
      record { first = parts.first; second = parts.second; many = omega arith; all = omega (arith, h.many) }

  pub halves_fit : HalvesFit s mid half count room
  halves_fit = record { vs = parts.xs; us = parts.ys; begun = begun; enough = h.enough }

  pub halves_all : {old out : List ℕ} → HalvesStored s mid half count old out → AllStored s old out
  halves_all {old} f vs l = f parts.xs parts.ys begun ∙ ap (sets old 0) (sym parts.is ∙ one_list h.left l)
