-- Strict reading's answers are determined by what they mean.
--
--   same_list   answers that mean the same are the same
use Prim.Native.Nat.{ℕ}
use mathlib.Core.Path.{◌≡◌, refl}
use Rattle.std.specs.Prelude.{Result, Ok, Err}
use Rattle.words.specs.Answer.{Answer, gives, refused, by, by_at}
use Rattle.words.proofs.OneNumber.{refusal_of, refusal_back}
use Rattle.words.proofs.OneMeaning.{same_by}
use Rattle.lists.specs.Promise.{means_read_list}
use Rattle.lists.specs.declared.NotRead.TheVariants as L
use Rattle.lists.specs.declared.Numbers.{Numbers}
use Rattle.lists.specs.declared.NotRead.{NotRead}

pub same_list : (r r' : Result Numbers NotRead) → means_read_list r ≡ means_read_list r' → r ≡ r'
same_list = same_by means_read_list back is
  where
    back : Answer ℕ → Result Numbers NotRead
    back (gives n) = Ok (record { 0 = n })
    back (refused (by k)) = Err (L.Refused (refusal_of k))
    back (refused (by_at k p)) = Err (L.Faulty (record { 0 = (refusal_of k); 1 = (record { 0 = p }) }))

    is : (r : Result Numbers NotRead) → back (means_read_list r) ≡ r
    is (Ok n) = refl
    is (Err (L.Faulty fault)) = rw (refusal_back fault.0)
    is (Err (L.Refused a)) = rw (refusal_back a)
