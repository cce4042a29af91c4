-- Bytes laid down part by part where there is room for all of them: what a writer holds that stores one part behind another.
--
--   Laying all s at out to rest   of the bytes all, which go to the place at of s, those before the place to stand in out, and rest are left
--   nothing_laid                  at first, all are left
--   part_laid                     with a part of what is left stored, the rest of it is
--   all_laid                      with nothing left, all are stored
--   rest_fits                     there is room for what is left
--   puts_lays                     what is stored where there is room is laid down, with its count of bytes
--   lays_puts                     and what a writer lays down there is stored, up to the place behind it;
--   lays_ok                       it does not refuse there
use Prim.Native.Nat.{ℕ, ◌+◌, ◌≤◌}
use mathlib.Core.Path.{◌≡◌, refl, ap, sym, ◌∙◌}
use mathlib.Core.List.{List, [], ◌++◌}
use native.Mathlib.Omega.{arith}
use lib.ListN.{length, length-append}
use lib.Seq.{sets, sets-eq, length-sets}
use Rattle.std.specs.Prelude.{Ok, IsOk}
use Rattle.words.specs.Inner.{Puts}
use Rattle.words.specs.Lays.{Lays}
use Rattle.words.specs.Answer.{Written}
use Rattle.words.specs.declared.Count.{Count}
use Rattle.words.proofs.Lays.{fits_there, sets_append}
use Rattle.words.proofs.LaysExactly.{laid_fits, count_fits}

pub record Laying (all s : List ℕ) (at : ℕ) (out : List ℕ) (to : ℕ) (rest : List ℕ) : Type 0 where
  pub kept : length out ≡ length s
  pub onward : at ≤ to
  pub ends : to + length rest ≡ at + length all
  pub left : sets out to rest ≡ sets s at all

pub nothing_laid : (all s : List ℕ) (at : ℕ) → Laying all s at s at all
nothing_laid all s at = record { kept = refl; onward = omega arith; ends = refl; left = refl }

module _ {all s : List ℕ} {at : ℕ} {out : List ℕ} {to : ℕ} {rest : List ℕ} (g : Laying all s at out to rest) where
  pub part_laid : (part more : List ℕ) → rest ≡ part ++ more → {after : List ℕ} {p : ℕ} → after ≡ sets out to part → p ≡ to + length part
      → Laying all s at after p more
  part_laid part more e {after} {p} f q =
      record {
        kept = ap length f ∙ length-sets out to part ∙ g.kept;
        onward = omega (arith, g.onward);
        ends = omega (arith, g.ends, ap length e, length-append part more);
        left = rw (f, q) (sym (sets_append part more out to) ∙ ap (sets out to) (sym e) ∙ g.left);
      }

  pub all_laid : rest ≡ [] → Puts all s at to out
  all_laid e = record { behind = omega (arith, g.ends, ap length e); leaves = rw e at g.left }

  pub rest_fits : at + length all ≤ length s → to + length rest ≤ length out
  rest_fits h = omega (arith, g.ends, g.kept)

pub puts_lays : {all s : List ℕ} {at to : ℕ} {out : List ℕ} (n : Count) → at + length all ≤ length s → n.0 ≡ length all → Puts all s at to out
    → Lays all s at (Ok n) out
puts_lays {all} {s} {at} n r e p = fits_there all s at n r e (p.leaves ∙ sets-eq all s at r)

module _ {bytes s : List ℕ} {at : ℕ} {r : Written} {out : List ℕ} (room : at + length bytes ≤ length s) (w : Lays bytes s at r out) where
  pub lays_puts : {n : Count} → r ≡ Ok n → Puts bytes s at (at + n.0) out
  lays_puts {n} e = record {
    behind = ap (◌+◌ at) (count_fits bytes s at r out w n e).1;
    leaves = (laid_fits bytes s at r out w room).1 ∙ sym (sets-eq bytes s at room);
  }

  pub lays_ok : IsOk r
  lays_ok = rw (laid_fits bytes s at r out w room).0
