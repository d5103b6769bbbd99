-- The grammar, as functions that read a pattern's bytes from the left. A name in brackets is a rule of docs/RULES.md.
use Rattle.std.specs.Prelude.{Bool, true, false, ◌&&◌, ◌||◌, not, List, [], ◌∷◌, ◌++◌, ℕ, zero, suc, ◌+◌, ◌-◌, ◌*◌, eqb, leb, ℤ, pos, neg_ℤ, length, get_or, drop, if◌then◌else◌}
use Prim.Native.Char.{code}
use Rattle.basics.specs.Bytes.{codes, is_in}
use Rattle.pattern.specs.Parts.{Item, item, Atom, atom, optional, star, plus, Part, letter, either, joined, again, Bounds, between, at_least, written_out}

-- what reading a part gives: does the grammar hold, the part, the bytes after it
pub record Read : Type 0 where
  pub good : Bool
  pub part : Part
  pub rest : List ℕ

abbrev pub read : Part → List ℕ → Read
read p s = record { good = true; part = p; rest = s }

abbrev pub no_atom : Atom
no_atom = atom false [] (pos 0)

abbrev pub broken : Read
broken = record { good = false; part = letter no_atom; rest = [] }

-- the first byte, 0 where there is none (0 is no byte of the grammar)
abbrev pub peek : List ℕ → ℕ
peek s = get_or s 0 0

-- [Special bytes] the fifteen that do not stand for themselves outside a class
abbrev pub special : List ℕ
special = codes "|*+?()[]{}^$.\\="

-- ---- [Classes] `[`, perhaps `^`, at least one item, `]`

-- [Class letters] the five that do not stand for themselves in a class
abbrev pub class_special : List ℕ
class_special = codes "[]\\^-"

-- [Class letters] a byte other than the five, or `\` and one of them. Its code plus 1, or 0 where there is none; and how many
-- bytes it takes
abbrev pub class_letter : List ℕ → ℕ
class_letter [] = 0
class_letter (b ∷ s) =
    if eqb b (code "\\") then (if is_in (peek s) class_special then suc (peek s) else 0)
    else if is_in b class_special then 0
    else suc b

abbrev pub class_letter_long : List ℕ → ℕ
class_letter_long s = if eqb (peek s) (code "\\") then 2 else 1

pub record Items : Type 0 where
  pub good : Bool
  pub items : List Item
  pub rest : List ℕ

abbrev pub items_read : Bool → List Item → List ℕ → Items
items_read g is s = record { good = g; items = is; rest = s }

-- [Classes] an item is a class letter, or a range, two with `-` between. The items so far, and those to come up to `]`. (The
-- first number bounds how many there are.)
abbrev pub items_from : ℕ → List Item → List ℕ → Items
items_from zero is s = items_read false [] []
items_from (suc f) is s =
    let a = class_letter s in
    let t = drop (class_letter_long s) s in
    let b = class_letter (drop 1 t) in
    let u = drop (suc (class_letter_long (drop 1 t))) t in
    if eqb a 0 then items_read (eqb (peek s) (code "]") && not (eqb (length is) 0)) is (drop 1 s)
    else if eqb (peek t) (code "-") then (if eqb b 0 then items_read false [] [] else items_from f (is ++ (item (a - 1) (b - 1) ∷ [])) u)
    else items_from f (is ++ (item (a - 1) (a - 1) ∷ [])) t

-- ---- [Lettered atoms] a letter that is not special, `\` and one that is, `.`, or a class

-- what reading a credit gives: does the grammar hold, the credit, the bytes after it
pub record Credit : Type 0 where
  pub good : Bool
  pub credit : ℤ
  pub rest : List ℕ

abbrev pub credit : ℤ → List ℕ → Credit
credit c s = record { good = true; credit = c; rest = s }

abbrev pub no_credit : Credit
no_credit = record { good = false; credit = pos 0; rest = [] }

-- [Credits] one digit from 1 to 9
abbrev pub credit_digit : ℕ → Bool
credit_digit d = leb (code "1") d && leb d (code "9")

-- [Credits] right after the atom `=` and one such digit, or `=`, `-` and one; without `=` the credit is 0
abbrev pub read_credit : List ℕ → Credit
read_credit s =
    let d = get_or s 1 0 in
    let e = get_or s 2 0 in
    if not (eqb (peek s) (code "=")) then credit (pos 0) s
    else if credit_digit d then credit (pos (d - code "0")) (drop 2 s)
    else if eqb d (code "-") && credit_digit e then credit (neg_ℤ (pos (e - code "0"))) (drop 3 s)
    else no_credit

abbrev pub with_credit : Bool → List Item → List ℕ → Read
with_credit o is s =
    let c = read_credit s in
    if c.good then read (letter (atom o is c.credit)) c.rest else broken

-- [Classes] after the `[`
abbrev pub read_class : List ℕ → Read
read_class s =
    let o = eqb (peek s) (code "^") in
    let x = items_from (suc (length s)) [] (if o then drop 1 s else s) in
    if x.good then with_credit o x.items x.rest else broken

-- [Lettered atoms] with the credit; `.` is a class with `^` and no item, so it has all letters
abbrev pub read_letter : List ℕ → Read
read_letter [] = broken
read_letter (b ∷ s) =
    if eqb b (code "[") then read_class s
    else if eqb b (code ".") then with_credit true [] s
    else if eqb b (code "\\") then (if is_in (peek s) special then with_credit false (item (peek s) (peek s) ∷ []) (drop 1 s) else broken)
    else if is_in b special then broken
    else with_credit false (item b b ∷ []) s

-- ---- [Patterns, branches, pieces] three functions that call each other, since a piece may be a pattern in brackets

-- [Intervals] a bound that is being read: its value so far, and the bytes after it
pub record Bound : Type 0 where
  pub value : ℕ
  pub rest : List ℕ

abbrev pub bound : ℕ → List ℕ → Bound
bound v s = record { value = v; rest = s }

abbrev pub is_digit : ℕ → Bool
is_digit b = leb (code "0") b && leb b (code "9")

-- [Intervals] one decimal digit more, where there is one
abbrev pub digit_more : Bound → Bound
digit_more b = if is_digit (peek b.rest) then bound (b.value * 10 + (peek b.rest - code "0")) (drop 1 b.rest) else b

-- [Intervals] up to three of them
abbrev pub read_bound : List ℕ → Bound
read_bound s = digit_more (digit_more (digit_more (bound 0 s)))

-- what reading an interval gives: does the grammar hold, its bounds, the bytes after it
pub record Interval : Type 0 where
  pub good : Bool
  pub bounds : Bounds
  pub rest : List ℕ

abbrev pub interval : Bounds → List ℕ → Interval
interval b s = record { good = true; bounds = b; rest = s }

abbrev pub no_interval : Interval
no_interval = record { good = false; bounds = between 0 0; rest = [] }

-- [Intervals] after the `{`: a bound, and `}`, or `,` and `}`, or `,` and a bound and `}`
abbrev pub read_interval : List ℕ → Interval
read_interval s =
    let m = read_bound s in
    let t = drop 1 m.rest in
    let n = read_bound t in
    if not (is_digit (peek s)) then no_interval
    else if eqb (peek m.rest) (code "}") then interval (between m.value m.value) t
    else if not (eqb (peek m.rest) (code ",")) then no_interval
    else if eqb (peek t) (code "}") then interval (at_least m.value) (drop 1 t)
    else if is_digit (peek t) && eqb (peek n.rest) (code "}") then interval (between m.value n.value) (drop 1 n.rest)
    else no_interval

-- an atom and the interval that was read after it
abbrev pub with_interval : Part → Interval → Read
with_interval p i = if i.good then read (written_out i.bounds p) i.rest else broken

-- [Repeats] at most one of `?`, `*`, `+` and an interval after an atom
abbrev pub repeated : Read → Read
repeated a =
    let b = peek a.rest in
    if a.good && eqb b (code "?") then read (again optional a.part) (drop 1 a.rest)
    else if a.good && eqb b (code "*") then read (again star a.part) (drop 1 a.rest)
    else if a.good && eqb b (code "+") then read (again plus a.part) (drop 1 a.rest)
    else if a.good && eqb b (code "{") then with_interval a.part (read_interval (drop 1 a.rest))
    else a

-- does a branch go on after a piece
abbrev pub goes_on : List ℕ → Bool
goes_on s = not (eqb (length s) 0 || (eqb (peek s) (code "|") || eqb (peek s) (code ")")))

-- (The first number bounds how deep the functions call each other.)
abbrev mutual
  -- [Patterns, branches, pieces] a branch, and others after `|`
  pub pattern_from : ℕ → List ℕ → Read
  pattern_from zero s = broken
  pattern_from (suc f) s =
      let a = branch_from f s in
      let b = pattern_from f (drop 1 a.rest) in
      if a.good && eqb (peek a.rest) (code "|") then (if b.good then read (either a.part b.part) b.rest else broken)
      else a

  -- [Patterns, branches, pieces] a piece, and others up to the end, `|` or `)`
  pub branch_from : ℕ → List ℕ → Read
  branch_from zero s = broken
  branch_from (suc f) s =
      let a = piece_from f s in
      let b = branch_from f a.rest in
      if a.good && goes_on a.rest then (if b.good then read (joined a.part b.part) b.rest else broken)
      else a

  -- [Patterns, branches, pieces] a pattern in `( )` or a lettered atom, and perhaps a repeat
  pub piece_from : ℕ → List ℕ → Read
  piece_from zero s = broken
  piece_from (suc f) s =
      let a = pattern_from f (drop 1 s) in
      if eqb (peek s) (code "(") then (if a.good && eqb (peek a.rest) (code ")") then repeated (read a.part (drop 1 a.rest)) else broken)
      else repeated (read_letter s)

-- a pattern from its first byte on, three calls deep for each byte
abbrev pub read_pattern : List ℕ → Read
read_pattern s = pattern_from (suc (3 * suc (length s))) s

-- does the whole of it follow the grammar, to its last byte, and the part that it is
abbrev pub is_pattern : List ℕ → Bool
is_pattern s = (read_pattern s).good && eqb (length (read_pattern s).rest) 0

abbrev pub pattern_part : List ℕ → Part
pattern_part s = (read_pattern s).part
