-- What a writer holds after an error.
use Rattle.std.specs.Prelude.{◌≡◌, List, ◌++◌, ℕ, Option}
use Rattle.std.specs.Io.KnownBytes.{Appends}

-- known bytes grow by a beginning of `all`: perhaps by none, perhaps by all of it
pub record AppendsBeginning (old new : Option (List ℕ)) (all : List ℕ) : Type 0 where
  pub bytes : List ℕ
  pub rest : List ℕ
  pub appended : Appends old new bytes
  pub begins : bytes ++ rest ≡ all
