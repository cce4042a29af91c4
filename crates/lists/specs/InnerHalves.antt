-- What filling a slice in two streams asks and promises.
--
--   Smalls s old r out             no number is taken, or r small ones are, of sixteen bytes stored
--   RestFits s at n                n numbers are left from the place at on
--   RestStored s at out            out is those of the numbers from at on, whichever they are, that are as many
--   Begun s mid half count vs us   vs stand before the start mid, half of them, and us behind it, up to count
--   HalvesFit ..                   there are such numbers, and room for them
--   HalvesStored ..                they are stored from the front on, whichever they are, and all else is kept
--   AllFit s count room            the block s is numbers, count of them, and there is room for them
--   AllStored s old out            they are stored from the front on, whichever they are, and all else is kept
use Rattle.std.specs.Prelude.{ℕ, ◌+◌, ◌≤◌, List, ◌++◌, ◌≡◌, length}
use Rattle.std.proofs.lemmas.List.Edits.{sets}
use Rattle.lists.specs.InnerLeft.{Left}
use Rattle.lists.specs.InnerWide.{Stores}

pub data Smalls (s old : List ℕ) : ℕ → List ℕ → Type 0 where
  none : Smalls s old 0 old
  some : {r : ℕ} {out : List ℕ} → Stores s old r out → Smalls s old r out

pub record RestFits (s : List ℕ) (at n : ℕ) : Type 0 where
  pub to : ℕ
  pub vs : List ℕ
  pub left : Left s to at vs
  pub within : to ≤ length s
  pub many : length vs ≡ n

abbrev pub RestStored : List ℕ → ℕ → List ℕ → Type 0
RestStored s at out = (to : ℕ) (vs : List ℕ) → Left s to at vs → length vs ≡ length out → out ≡ vs

pub record Begun (s : List ℕ) (mid half count : ℕ) (vs us : List ℕ) : Type 0 where
  pub first : Left s mid 0 vs
  pub second : Left s (length s) mid us
  pub many : length vs ≡ half
  pub all : half + length us ≡ count

pub record HalvesFit (s : List ℕ) (mid half count room : ℕ) : Type 0 where
  pub vs : List ℕ
  pub us : List ℕ
  pub begun : Begun s mid half count vs us
  pub enough : count ≤ room

abbrev pub HalvesStored : List ℕ → ℕ → ℕ → ℕ → List ℕ → List ℕ → Type 0
HalvesStored s mid half count old out = (vs us : List ℕ) → Begun s mid half count vs us → out ≡ sets old 0 (vs ++ us)

pub record AllFit (s : List ℕ) (count room : ℕ) : Type 0 where
  pub vs : List ℕ
  pub left : Left s (length s) 0 vs
  pub many : length vs ≡ count
  pub enough : count ≤ room

abbrev pub AllStored : List ℕ → List ℕ → List ℕ → Type 0
AllStored s old out = (vs : List ℕ) → Left s (length s) 0 vs → out ≡ sets old 0 vs
