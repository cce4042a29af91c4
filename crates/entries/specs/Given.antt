-- What a reader gives of a block, entry after entry, and what stands there.
--
--   EntriesGiven s p l   from the place p on, entries read one after another are l, each with the place of its mark, its count of bytes and
--                        the verdict on it, until there is no mark
--   In k l               k is one of the things of l
--   Ordered n l          the places of l grow, from n on
--   EntriesFrom s p l    l is the entries of s whose marks stand at p or later, in order, and no other
use Rattle.std.specs.Prelude.{ℕ, suc, ◌+◌, ◌≤◌, ◌≡◌, List, [], ◌∷◌, ◌⊎◌, ◌↔◌, Result, Err}
use Rattle.words.specs.declared.Refusal.TheVariants.{NoStart}
use Rattle.words.specs.declared.Refusal.{Refusal}
use Rattle.entries.specs.Standing.{NextMark}
use Rattle.entries.specs.Saying.{Verdict}
use Rattle.entries.specs.Promise.{EntryIs, ended, means_read_entry, ReadsEntry}
use Rattle.entries.specs.declared.ReadEntry.{ReadEntry}

pub data EntriesGiven (s : List ℕ) : ℕ → List (ℕ × ℕ × Verdict) → Type 0 where
  no_more : {p : ℕ} → ReadsEntry s p (Err NoStart) → EntriesGiven s p []
  next : {p m n : ℕ} {v : Verdict} {l : List (ℕ × ℕ × Verdict)} (r : Result ReadEntry Refusal) → ReadsEntry s p r → means_read_entry r ≡ ended v (m + n) → NextMark s p m
      → EntriesGiven s (m + n) l → EntriesGiven s p ((m, n, v) ∷ l)

abbrev pub In : {A : Type 0} → A → List A → Type 0
In k [] = ⊥
In k (j ∷ l) = (k ≡ j) ⊎ In k l

abbrev pub Ordered : {A : Type 0} → ℕ → List (ℕ × ℕ × A) → Type 0
Ordered n [] = Unit {0}
Ordered n (k ∷ l) = (n ≤ k.0) × Ordered (suc k.0) l

pub record EntriesFrom (s : List ℕ) (p : ℕ) (l : List (ℕ × ℕ × Verdict)) : Type 0 where
  pub ordered : Ordered p l
  pub each : (m n : ℕ) (v : Verdict) → In (m, n, v) l ↔ ((p ≤ m) × EntryIs s m n v)
