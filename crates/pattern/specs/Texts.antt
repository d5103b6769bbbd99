-- [Texts of a pattern] what POSIX makes of alternation, joining and repetition.
use Rattle.std.specs.Prelude.{◌≡◌, true, false, List, [], ◌∷◌, ◌++◌, ℕ, zero, suc, ◌≤◌}
use Rattle.pattern.specs.Parts.{Atom, holds, Repeat, skips, loops, Part, letter, either, joined, again, Bounds}

pub data Text : Part → List ℕ → Type 0 where
  -- one letter of the atom's set
  one : (a : Atom) (b : ℕ) → holds a b ≡ true → Text (letter a) (b ∷ [])
  -- alternation: a text of either
  in_left : (p q : Part) (s : List ℕ) → Text p s → Text (either p q) s
  in_right : (p q : Part) (s : List ℕ) → Text q s → Text (either p q) s
  -- joining: a text of the first, then one of the second
  both : (p q : Part) (s t : List ℕ) → Text p s → Text q t → Text (joined p q) (s ++ t)
  -- repetition: none (`?`, `*`), one, or one and then more (`*`, `+`)
  never : (k : Repeat) (p : Part) → skips k ≡ true → Text (again k p) []
  once : (k : Repeat) (p : Part) (s : List ℕ) → Text p s → Text (again k p) s
  more : (k : Repeat) (p : Part) (s t : List ℕ) → loops k ≡ true → Text p s → Text (again k p) t → Text (again k p) (s ++ t)

-- ---- [Texts of a pattern] what POSIX makes of an interval; a theorem says that it has these texts, written out

-- k texts of a part, one after another
pub data Times (p : Part) : ℕ → List ℕ → Type 0 where
  none : Times p zero []
  next : {k : ℕ} {s t : List ℕ} → Text p s → Times p k t → Times p (suc k) (s ++ t)

-- the numbers k that bounds allow
pub record Allows (b : Bounds) (k : ℕ) : Type 0 where
  pub least : b.lower ≤ k
  pub most : b.endless ≡ false → k ≤ b.upper

-- a text that is k texts of p, for a number k that b allows
pub record Counted (p : Part) (b : Bounds) (s : List ℕ) : Type 0 where
  pub number : ℕ
  pub allowed : Allows b number
  pub times : Times p number s
