-- Document 01, "Bytes to try": the rows marked *, as one table; a refusal with the place of the byte that decided it.
--
--   Rows w                     each of these bytes, read at the width w from place 0 on, gets this answer
--   rows64, rows32, rows_i64   the rows at each width
--   Starred                    the table
use Rattle.std.specs.Prelude.{ℕ, ◌-◌, ◌^◌, List, [], ◌∷◌, ◌++◌, ◌≡◌, ℤ, pos, neg_ℤ, replicate}
use Rattle.words.specs.Answer.{Answer, gives, refused, by_at}
use Rattle.groups.specs.Width.{Width, read}
use Rattle.uleb128.specs.Unsigned.{u64, u32}
use Rattle.sleb128.specs.Signed.{i64}

abbrev pub Rows : {A : Type 0} → Width A → List (List ℕ × Answer (A × ℕ)) → Type 0
Rows w [] = Unit
Rows w (row ∷ rows) = (read w row.0 0 ≡ row.1) × Rows w rows

abbrev pub rows64 : List (List ℕ × Answer (ℕ × ℕ))
rows64 =
    (0x00 ∷ [], gives (0, 1))
    ∷ (0x7f ∷ [], gives (127, 1))
    ∷ (0x80 ∷ 0x01 ∷ [], gives (128, 2))
    ∷ (0xb9 ∷ 0x64 ∷ [], gives (12857, 2))
    ∷ (0x80 ∷ 0x00 ∷ [], refused (by_at 3 1))
    ∷ (replicate 9 0x80 ++ 0x01 ∷ [], gives (2 ^ 63, 10))
    ∷ (replicate 9 0xff ++ 0x02 ∷ [], refused (by_at 2 9))
    ∷ (replicate 10 0x80, refused (by_at 2 9))
    ∷ []

abbrev pub rows32 : List (List ℕ × Answer (ℕ × ℕ))
rows32 = (0xff ∷ 0xff ∷ 0xff ∷ 0xff ∷ 0x0f ∷ [], gives (2 ^ 32 - 1, 5)) ∷ []

abbrev pub rows_i64 : List (List ℕ × Answer (ℤ × ℕ))
rows_i64 =
    (0x7e ∷ [], gives (neg_ℤ (pos 2), 1))
    ∷ (0xff ∷ 0x00 ∷ [], gives (pos 127, 2))
    ∷ (0x80 ∷ 0x7f ∷ [], gives (neg_ℤ (pos 128), 2))
    ∷ (replicate 9 0x80 ++ 0x7f ∷ [], gives (neg_ℤ (pos (2 ^ 63)), 10))
    ∷ []

abbrev pub Starred : Type 0
Starred = Rows u64 rows64 × Rows u32 rows32 × Rows i64 rows_i64
