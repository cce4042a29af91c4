-- A setting is determined by its kind and its words, and an answer of the reader by what it means.
--
--   setting_of v   the setting that means a kind and its words
--   setting_back   it means them where they are good,
--   setting_f32    and its floats are f32s
--   same_read      answers of f32s that mean the same are the same
--   some_setting   an answer that the reader can give
--   some_written   and one that the writer can, with what it leaves
use Prim.Native.Nat.{ℕ, zero, suc, ◌≤◌}
use mathlib.Core.Bool.{true}
use mathlib.Core.List.{List}
use mathlib.Core.Path.{◌≡◌, refl, ap, sym, ◌∙◌}
use native.Mathlib.Omega.{arith}
use borrow.Author.Tests.{ltb-true, lt-ltb}
use lib.Dec.{ltb}
use lib.Ieee.{binary32, of_bits}
use lib.Ieee.Bits.{of_bits-to_bits, of_bits-fits}
use lib.ListN.{get_or}
use Rattle.std.specs.Prelude.{Result, Ok, Err}
use Rattle.words.specs.Answer.{Answer, gives, refused, because, Written}
use Rattle.words.specs.declared.Refusal.{Refusal}
use Rattle.words.specs.declared.Refusal.TheVariants.{End, Place, Slip}
use Rattle.words.specs.declared.Count.{Count}
use Rattle.words.proofs.Cases.{by_test, both_true}
use Rattle.words.proofs.Lays.{some_lays}
use Rattle.words.proofs.OneMeaning.{back}
use Rattle.words.proofs.OneNumber.{refusal_back}
use Rattle.slips.specs.Good.{good}
use Rattle.slips.specs.Slip.{measures, form, good_setting}
use Rattle.slips.specs.Promise.{means_setting, F32, means_read_setting, OfF32, ReadsSetting, WritesSetting}
use Rattle.slips.specs.declared.Setting.{Setting}
use Rattle.slips.specs.declared.Setting.TheVariants as S
use Rattle.slips.proofs.ByTests.{by_tests}
use Rattle.slips.proofs.GoodBits.{good_back}
use Rattle.slips.proofs.GoodWords.{EachGood, none, more, each_good}

abbrev pub setting_of : ℕ × List ℕ → Setting
setting_of (zero, ws) = S.Nothing
setting_of (suc zero, ws) = S.Torque (of_bits binary32 (get_or ws 0 0))
setting_of (suc (suc zero), ws) = S.Angle (of_bits binary32 (get_or ws 0 0))
setting_of (suc (suc (suc k)), ws) = S.Range (record { lowest = of_bits binary32 (get_or ws 0 0); highest = of_bits binary32 (get_or ws 1 0) })

bits_back : (k : ℕ) (ws : List ℕ) → k ≤ 3 → EachGood (measures k) ws → means_setting (setting_of (k, ws)) ≡ (k, ws)
bits_back zero ws h none = refl
bits_back (suc zero) ws h (more {m} {w = w} g none) = rw (good_back m w g)
bits_back (suc (suc zero)) ws h (more {m} {w = w} g none) = rw (good_back m w g)
bits_back (suc (suc (suc zero))) ws h (more {m} {w = w} g (more {m = m'} {w = w'} g' none)) = rw (good_back m w g, good_back m' w' g')
bits_back (suc (suc (suc (suc k)))) ws h g = absurd (omega arith)

pub setting_back : (v : ℕ × List ℕ) → good_setting v ≡ true → means_setting (setting_of v) ≡ v
setting_back (k, ws) e =
    let t = both_true (ltb k 4) (good (measures k) ws) e in
    bits_back k ws (omega (arith, ltb-true k 4 t.0)) (each_good (measures k) ws t.1)

pub setting_f32 : (v : ℕ × List ℕ) → F32 (setting_of v)
setting_f32 (zero, ws) = tt
setting_f32 (suc zero, ws) = of_bits-fits binary32 (get_or ws 0 0)
setting_f32 (suc (suc zero), ws) = of_bits-fits binary32 (get_or ws 0 0)
setting_f32 (suc (suc (suc k)), ws) = (of_bits-fits binary32 (get_or ws 0 0), of_bits-fits binary32 (get_or ws 1 0))

floats_back : (v : Setting) → F32 v → setting_of (means_setting v) ≡ v
floats_back S.Nothing f = refl
floats_back (S.Torque x) f = rw (of_bits-to_bits binary32 x f)
floats_back (S.Angle x) f = rw (of_bits-to_bits binary32 x f)
floats_back (S.Range r) f = rw (of_bits-to_bits binary32 r.lowest f.0, of_bits-to_bits binary32 r.highest f.1)

abbrev read_of : Answer ((ℕ × List ℕ) × ℕ) → Result (Setting × Count) Refusal
read_of = back (λ (x : (ℕ × List ℕ) × ℕ). Ok ((setting_of x.0), (record { 0 = x.1 }))) Err

read_back : (r : Result (Setting × Count) Refusal) → OfF32 r → read_of (means_read_setting r) ≡ r
read_back (Ok (v, n)) f = ap (λ (x : Setting). Ok (x, n)) (floats_back v f)
read_back (Err why) f = ap Err (refusal_back why)

pub same_read : (r r' : Result (Setting × Count) Refusal) → OfF32 r → OfF32 r' → means_read_setting r ≡ means_read_setting r' → r ≡ r'
same_read r r' f f' e = sym (read_back r f) ∙ ap read_of e ∙ read_back r' f'

-- an answer of the reader that means a
abbrev Found : Answer ((ℕ × List ℕ) × ℕ) → Type 0
Found a = (r : Result (Setting × Count) Refusal) × (means_read_setting r ≡ a) × OfF32 r

refusal_found : (why : Refusal) → Found (refused (because why))
refusal_found why = (Err why, refl, tt)

good_found : (v : ℕ × List ℕ) (n : ℕ) → v.0 ≤ 3 → good (measures v.0) v.1 ≡ true → Found (gives (v, n))
good_found v n h e =
    let g : good_setting v ≡ true = rw (lt-ltb v.0 4 (omega arith)) e in
    (Ok ((setting_of v), (record { 0 = n })), ap (λ (x : ℕ × List ℕ). gives (x, n)) (setting_back v g), setting_f32 v)

pub some_setting : (s : List ℕ) (at : ℕ) → (r : Result (Setting × Count) Refusal) × ReadsSetting s at r
some_setting s at =
    let found =
    by_tests Found s at (λ h. refusal_found Place) (λ h. refusal_found End) (λ k l e h. refusal_found Slip) (λ k l e h i. refusal_found End)
    (λ k l b g. refusal_found Slip) (λ k l b g. good_found (k, _) _ b.known g) in
    (found.0, record { answer = found.1; f32 = found.2 })

pub some_written : (v : Setting) (s : List ℕ) (at : ℕ) → (r : Written) × (out : List ℕ) × WritesSetting v s at r out
some_written v s at =
    by_test (good_setting (means_setting v))
    (λ e. let l = some_lays (form (means_setting v)) s at in (l.0, l.1, record { answer = rw e l.2.answer; leaves = rw e l.2.leaves }))
    (λ e. (Err Slip, s, record { answer = rw e; leaves = rw e }))
