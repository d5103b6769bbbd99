-- What a pattern is once read: a tree of parts, whose leaves are the lettered atoms.
use Rattle.std.specs.Prelude.{Bool, true, false, ◌&&◌, ◌||◌, not, List, [], ◌∷◌, ℕ, zero, suc, ◌-◌, eqb, leb, ltb, ℤ, if◌then◌else◌}
use Rattle.alphabet.specs.Alphabet.{is_letter}

-- [Classes] an item: the letters from `lo` to `hi`, both ends included
pub record Item : Type 0 where
  pub lo : ℕ
  pub hi : ℕ

abbrev pub item : ℕ → ℕ → Item
item a b = record { lo = a; hi = b }

-- [Lettered atoms] the letters that the items name or, with `^`, all others; the credit, 0 where none is written, below
-- zero where points are taken off
pub record Atom : Type 0 where
  pub others : Bool
  pub items : List Item
  pub credit : ℤ

abbrev pub atom : Bool → List Item → ℤ → Atom
atom o is c = record { others = o; items = is; credit = c }

abbrev pub in_items : ℕ → List Item → Bool
in_items b [] = false
in_items b (i ∷ is) = (leb i.lo b && leb b i.hi) || in_items b is

-- [Classes] does an atom's set hold the letter b
abbrev pub holds : Atom → ℕ → Bool
holds a b = is_letter b && (if a.others then not (in_items b a.items) else in_items b a.items)

-- [Repeats] `?`, `*` or `+`, or an interval that refusal 11 names, which leaves its atom as it is; may its atom be left out, may it
-- go round
pub data Repeat : Type 0 where
  optional : Repeat
  star : Repeat
  plus : Repeat
  misbounded : Repeat

abbrev pub skips : Repeat → Bool
skips optional = true
skips star = true
skips plus = false
skips misbounded = false

abbrev pub loops : Repeat → Bool
loops optional = false
loops star = true
loops plus = true
loops misbounded = false

abbrev pub is_misbounded : Repeat → Bool
is_misbounded optional = false
is_misbounded star = false
is_misbounded plus = false
is_misbounded misbounded = true

-- [Patterns, branches, pieces] a lettered atom, branches (two at a time), A then B, an atom with its repeat
pub data Part : Type 0 where
  letter : Atom → Part
  either : Part → Part → Part
  joined : Part → Part → Part
  again : Repeat → Part → Part

-- ---- [Intervals] written out in copies

-- [Intervals] the bounds of one: the lower, and the upper where it is not endless
pub record Bounds : Type 0 where
  pub lower : ℕ
  pub upper : ℕ
  pub endless : Bool

abbrev pub between : ℕ → ℕ → Bounds
between m n = record { lower = m; upper = n; endless = false }

abbrev pub at_least : ℕ → Bounds
at_least m = record { lower = m; upper = 0; endless = true }

-- [Refusals of a pattern] 11: an upper bound that is 0 or below the lower one, or a bound above 255
abbrev pub out_of_bounds : Bounds → Bool
out_of_bounds b = ltb 255 b.lower || (not b.endless && (eqb b.upper 0 || (ltb b.upper b.lower || ltb 255 b.upper)))

-- [Intervals] m copies of p, and then q
abbrev pub copies : ℕ → Part → Part → Part
copies zero p q = q
copies (suc m) p q = joined p (copies m p q)

-- [Intervals] k + 1 optional copies of p, each inside the one before
abbrev pub nested : ℕ → Part → Part
nested zero p = again optional p
nested (suc k) p = again optional (joined p (nested k p))

-- [Intervals] `{m}` is m copies; `{m,n}` m copies and then n - m optional ones, nested; `{m,}` m - 1 copies and then `+`, or `*` where m
-- is 0
abbrev pub written_out : Bounds → Part → Part
written_out b p =
    if out_of_bounds b then again misbounded p
    else if b.endless then (if eqb b.lower 0 then again star p else copies (b.lower - 1) p (again plus p))
    else if eqb b.lower b.upper then copies (b.upper - 1) p p
    else copies b.lower p (nested (b.upper - suc b.lower) p)
