-- Bytes by their codes, and a quoted text as the list of its codes.
use Rattle.std.specs.Prelude.{Bool, false, ◌||◌, List, [], ◌∷◌, ℕ, eqb}
use Prim.Native.Char.{code}
use Prim.Native.String as Text

abbrev pub codes : Text.String → List ℕ
codes Text.[] = []
codes (Text.◌∷◌ c s) = code c ∷ codes s

-- is x one of a list
abbrev pub is_in : ℕ → List ℕ → Bool
is_in x [] = false
is_in x (y ∷ ys) = eqb x y || is_in x ys
