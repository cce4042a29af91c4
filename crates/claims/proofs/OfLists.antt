-- What is claimed of lists, proved.
--
--   lists   the chapter
use Prim.Native.Nat.{ℕ}
use mathlib.Core.Path.{sym, ◌∙◌}
use mathlib.Core.List.{List}
use lib.ListN.{length}
use Rattle.std.specs.Prelude.{Err}
use Rattle.words.specs.declared.Refusal.TheVariants.{TooLong}
use Rattle.words.specs.Answer.{Written}
use Rattle.words.proofs.Cases.{by_order}
use Rattle.words.proofs.OneMeaning.{same_written}
use Rattle.words.proofs.Lays.{some_lays}
use Rattle.lists.specs.Lists.{forms, list_limit}
use Rattle.lists.specs.Promise.{WritesList}
use Rattle.lists.proofs.OneList.{same_list}
use Rattle.lists.proofs.LayLoop.{list_too_long, list_laid}
use Rattle.claims.specs.OfLists.{OfLists}
use Rattle.claims.proofs.StrictRows.{strict_rows, strict_row_kept, some_strict_row as strict-found}
use Rattle.claims.proofs.RoundTrips.{writes_list}
use Rattle.claims.proofs.ListBack.{list_back}

some_list : (ns s : List ℕ) (at : ℕ) → (r : Written) × (out : List ℕ) × WritesList ns s at r out
some_list ns s at =
    by_order list_limit (length ns) (λ h. (Err TooLong, s, list_too_long ns s at h))
    (λ h. let f = some_lays (forms ns) s at in (f.0, f.1, list_laid ns s at h f.2))

pub lists : OfLists
lists = record {
  strict_rows = strict_rows;
  writes_list = writes_list;
  list_back = list_back;
  met = record {
    strict = λ s old bytes. let f = strict-found s old bytes in (f.0.0, f.0.1, strict_row_kept s old f.0 f.1);
    list = some_list;
  };
  one = record {
    strict = λ s old r r' out out' a b. (same_list r r' (a.answer ∙ sym b.answer), a.leaves ∙ sym b.leaves);
    list = λ ns s at r r' out out' a b. (same_written r r' (a.answer ∙ sym b.answer), a.leaves ∙ sym b.leaves);
  };
}
