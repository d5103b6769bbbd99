-- What a function gives that reads the front of a text.
use Rattle.std.specs.Prelude.{List, ℕ, Option, MatchOption}
use Rattle.std.specs.Borrow.{Bor}

-- nothing, and then `none` holds; or a value and the text after it, of which `some` holds
abbrev pub Reads : {A : Type 0} → Option (A × Bor (List ℕ)) → Type 0 → (A → List ℕ → Type 0) → Type 0
Reads r none some = MatchOption r none (λ x. some x.0 x.1.now)
