-- The promise of `read_entry`, return by return.
--
--   behind_mark                                                                      the bytes of an entry behind its mark
--   heard_numbers, heard_fault                                                       what `hear` says of the bytes from a place on, by its answer
--   block_too_long, place_past, none_ahead, entry_good, entry_faulty, entry_longer   the answers
use Prim.Native.Nat.{ℕ, zero, suc, ◌+◌, ◌-◌, ◌≤◌, ◌<◌}
use mathlib.Core.Path.{◌≡◌, refl, ap, sym, ◌∙◌, subst}
use mathlib.Core.List.{List, [], ◌∷◌}
use native.Mathlib.Omega.{arith}
use lib.ListN.{length, take, drop, length-drop}
use lib.Seq.{drop-drop, take_all}
use Rattle.std.specs.Prelude.{Ok, Err, Option, Some, None}
use Rattle.words.specs.declared.Refusal.TheVariants as Why
use Rattle.blocks.specs.Block.{block_limit}
use Rattle.entries.specs.Standing.{EndsAt, NextMark}
use Rattle.entries.specs.Saying.{SaysEntry, Good, Verdict, good, bad, Judged, is_good, is_bad}
use Rattle.entries.specs.Inner.{FirstMark, Hears}
use Rattle.entries.specs.Promise.{too_long, past, no_mark, ended, Answered, row, found, ReadsEntry}
use Rattle.entries.specs.declared.Entry.{Entry}
use Rattle.entries.specs.declared.ReadEntry.TheVariants as R
use Rattle.entries.proofs.NextMarks.{mark_inside, next_within, first_next, first_none}
use Rattle.entries.proofs.Standing.{entry_there, entry_end}
use Rattle.entries.proofs.SaysGroups.{one_said, said_alone, said_within}
use Rattle.entries.proofs.NoMarkInside.{fields_refuse, no_mark_said, part_behind}

take_none : (k : ℕ) → ◌≡◌ {A = List ℕ} (take k []) []
take_none zero = refl
take_none (suc k) = refl

behind_two : (l : List ℕ) (k : ℕ) → drop 2 (take (suc (suc k)) l) ≡ take k (drop 2 l)
behind_two [] k = sym (take_none k)
behind_two (b ∷ []) k = sym (take_none k)
behind_two (b ∷ c ∷ l) k = refl

pub behind_mark : (s : List ℕ) (m n : ℕ) → m + 2 ≤ n → drop 2 (take (n - m) (drop m s)) ≡ take (n - (m + 2)) (drop (m + 2) s)
behind_mark s m n h =
    let i : n - m ≡ suc (suc (n - (m + 2))) = omega arith in
    rw i (behind_two (drop m s) (n - (m + 2))) ∙ ap (take (n - (m + 2))) (drop-drop 2 m s)

-- what `hear` says of the bytes from a place on, by its answer
module _ (s : List ℕ) (p : ℕ) where
  from_place : take (length s - p) (drop p s) ≡ drop p s
  from_place = take_all (length s - p) (drop p s) (omega (arith, length-drop p s))

  pub heard_numbers : {r : Option (Entry × ℕ)} {x : Entry} {n : ℕ} → r ≡ Some (x, n) → Hears (take (length s - p) (drop p s)) r
      → (n ≤ length (drop p s)) × SaysEntry (drop p s) x (drop n (drop p s))
  heard_numbers {x = x} {n = n} e h = subst (λ (l : List ℕ). (n ≤ length l) × SaysEntry l x (drop n l)) from_place (rw e at h)

  pub heard_fault : {r : Option (Entry × ℕ)} → r ≡ None → Hears (take (length s - p) (drop p s)) r → (x : Entry) (rest : List ℕ) → SaysEntry (drop p s) x rest → ⊥
  heard_fault e h = subst (λ (l : List ℕ). (x : Entry) (rest : List ℕ) → SaysEntry l x rest → ⊥) from_place (rw e at h)

module _ {s : List ℕ} {p : ℕ} where
  pub block_too_long : block_limit < length s → ReadsEntry s p (Err Why.TooLong)
  block_too_long h = record { answer = row (too_long h) }

  module _ (short : length s ≤ block_limit) where
    pub place_past : length s < p → ReadsEntry s p (Err Why.Place)
    place_past h = record { answer = row (past short h) }

    pub none_ahead : p ≤ length s → FirstMark s p None → ReadsEntry s p (Err Why.NoStart)
    none_ahead h f = record { answer = row (no_mark short h (first_none f)) }

    module _ {m : ℕ} (f : FirstMark s p (Some m)) where
      judged : (v : Verdict) {n : ℕ} → NextMark s (m + 2) n → Judged (take (n - (m + 2)) (drop (m + 2) s)) v → Answered s p (ended v n)
      judged v {n} b j =
          let k = f.is.2 in
          found {v = v} short (record {
            place = m;
            count = length (take (n - m) (drop m s));
            first = first_next f;
            entry = record { bytes = take (n - m) (drop m s); stands = entry_there k b; count = refl; judged = rw (behind_mark s m n b.from) j };
            ends = entry_end k b;
          })

      first_inside : m + 2 ≤ length s
      first_inside = mark_inside f.is.2

      -- numbers behind the mark, up to the place where the entry can end
      module _ {x : Entry} {n : ℕ} (within : n ≤ length (drop (m + 2) s)) (said : SaysEntry (drop (m + 2) s) x (drop n (drop (m + 2) s))) where
        ends_next : EndsAt s (m + 2 + n) → NextMark s (m + 2) (m + 2 + n)
        ends_next there = record {
          from = omega arith;
          none_before = λ q h l k.
              no_mark_said fields_refuse said.says (q - (m + 2)) (omega (arith, length-drop n (drop (m + 2) s))) (part_behind s (m + 2) q h first_inside k);
          there = there;
        }

        pub entry_good : EndsAt s (m + 2 + n) → ReadsEntry s p (Ok (R.Good x (record { 0 = m + 2 + n })))
        entry_good there =
            let e : n ≡ m + 2 + n - (m + 2) = omega arith in
            record { answer = judged (good x) (ends_next there) (subst (λ (k : ℕ). Judged (take k (drop (m + 2) s)) (good x)) e (is_good (record { says = said_alone n within said.says; sensible = said.sensible }))) }

      -- the end of an entry whose numbers, if there are any, don't end with it
      module _ {n : ℕ} (b : NextMark s (m + 2) n) where
        whole : {y : Entry} → Good (take (n - (m + 2)) (drop (m + 2) s)) y → SaysEntry (drop (m + 2) s) y (drop (n - (m + 2)) (drop (m + 2) s))
        whole g = record { says = said_within (n - (m + 2)) g.says; sensible = g.sensible }

        pub entry_faulty : ((y : Entry) (rest : List ℕ) → SaysEntry (drop (m + 2) s) y rest → ⊥) → ReadsEntry s p (Ok (R.Bad Why.Entry (record { 0 = n })))
        entry_faulty none = record { answer = judged bad b (is_bad (λ y g. none y (drop (n - (m + 2)) (drop (m + 2) s)) (whole g))) }

        pub entry_longer : {x : Entry} {k : ℕ} → k ≤ length (drop (m + 2) s) → SaysEntry (drop (m + 2) s) x (drop k (drop (m + 2) s))
            → (EndsAt s (m + 2 + k) → ⊥) → ReadsEntry s p (Ok (R.Bad Why.Entry (record { 0 = n })))
        entry_longer {k = k} h said none = record {
          answer = judged bad b (is_bad (λ y g.
              let l = drop (m + 2) s in
              let e : length (drop k l) ≡ length (drop (n - (m + 2)) l) = ap length (one_said said.says (whole g).says).1 in
              let i : n ≡ m + 2 + k = omega (arith, length-drop k l, length-drop (n - (m + 2)) l, length-drop (m + 2) s, b.from, next_within b) in
              none (subst (EndsAt s) i b.there)));
        }
