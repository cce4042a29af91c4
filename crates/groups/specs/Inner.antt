-- What private functions of this crate promise.
--
--   groups below n m   n bytes that spell m, as `spell` does (Form.antt)
use Rattle.std.specs.Prelude.{ℕ, zero, suc, ◌+◌, ◌/◌, ◌%◌, List, [], ◌∷◌, Bool}
use Rattle.groups.specs.Form.{say}

unfoldable pub groups : Bool → ℕ → ℕ → List ℕ
groups below zero m = []
groups below (suc zero) m = say below (m % 128) ∷ []
groups below (suc (suc n)) m = (128 + say below (m % 128)) ∷ groups below (suc n) (m / 128)
