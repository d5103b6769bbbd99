-- Lists as collections: what holds of each entry, entries that all differ, membership.
use Rattle.std.specs.Prelude.{◌≡◌, ◌⊎◌, List, [], ◌∷◌}

module _ {A : Type 0} where
  abbrev pub Each : (A → Type 0) → List A → Type 0
  Each P [] = Unit {0}
  Each P (x ∷ xs) = P x × Each P xs

  -- no two entries are equal
  abbrev pub Apart : List A → Type 0
  Apart [] = Unit {0}
  Apart (x ∷ xs) = Each (λ (y : A). x ≡ y → ⊥) xs × Apart xs

  abbrev pub In : A → List A → Type 0
  In a [] = ⊥
  In a (x ∷ xs) = (a ≡ x) ⊎ In a xs

  -- where a list leads that begins after a: its last entry, or a where it is empty
  abbrev pub end_of : A → List A → A
  end_of a [] = a
  end_of a (x ∷ xs) = end_of x xs

  -- from a, step by step, through the entries of a list
  abbrev pub Chain : (A → A → Type 0) → A → List A → Type 0
  Chain E a [] = Unit {0}
  Chain E a (x ∷ c) = E a x × Chain E x c
