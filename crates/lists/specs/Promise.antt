-- What the functions of this crate promise.
--
--   WritesList        writing the numbers ns at the place of s answers r and leaves out
--   means_read_list   what strict reading's answer says
--   ReadsStrict       strict reading of the block s into the slice old answers r and leaves out
use Rattle.std.specs.Prelude.{ℕ, List, ◌≡◌, ltb, length, Result, Ok, Err}
use Rattle.words.specs.Answer.{pick, refused, means_written, Answer, gives, by, because, because_of, Written}
use Rattle.words.specs.Lays.{writing, laid}
use Rattle.lists.specs.Lists.{forms, list_limit}
use Rattle.lists.specs.Strict.{strict, filled}
use Rattle.lists.specs.declared.NotRead.TheVariants.{Faulty, Refused}
use Rattle.lists.specs.declared.Numbers.{Numbers}
use Rattle.lists.specs.declared.NotRead.{NotRead}

pub record WritesList (ns s : List ℕ) (at : ℕ) (r : Written) (out : List ℕ) : Type 0 where
  pub answer : means_written r ≡ pick (ltb list_limit (length ns)) (refused (by 7)) (writing s at (length (forms ns)))
  pub leaves : out ≡ pick (ltb list_limit (length ns)) s (laid s at (forms ns))

abbrev pub means_read_list : Result Numbers NotRead → Answer ℕ
means_read_list (Ok n) = gives n.0
means_read_list (Err (Faulty fault)) = refused (because_of fault)
means_read_list (Err (Refused r)) = refused (because r)

pub record ReadsStrict (s old : List ℕ) (r : Result Numbers NotRead) (out : List ℕ) : Type 0 where
  pub answer : means_read_list r ≡ strict s (length old)
  pub leaves : out ≡ filled s old
