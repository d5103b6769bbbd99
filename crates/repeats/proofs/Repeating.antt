-- What a result stands for once it is repeated: by the first byte of the text after it, which is the grammar's byte too. Assumes nothing.
use mathlib.Core.Path.{◌≡◌, refl, sym, ap, ap₂, ◌∙◌}
use mathlib.Core.Bool.{Bool, true, ◌&&◌}
use mathlib.Core.List.{List}
use Prim.Native.Nat.{ℕ, ◌≤◌}
use Prim.Native.Char.{code}
use native.Mathlib.Omega.{arith}
use borrow.Author.Tests.{ne_eqb}
use lib.Dec.{eqb}
use lib.ListN.{length, drop, length-drop}
use Rattle.std.specs.Prelude.{if◌then◌else◌}
use Rattle.places.proofs.Rests.{interval_on}
use Rattle.pattern.specs.Parts.{optional, star, plus, again}
use Rattle.pattern.specs.Grammar.{Read, read, peek, interval, read_interval, with_interval, repeated}
use Rattle.bounds.specs.declared.IntervalRead.{IntervalRead}
use Rattle.bounds.specs.Bounds.{bounds_of}
use Rattle.parsed.specs.declared.Parsed.{Parsed}
use Rattle.set_table.specs.declared.Tables.{Tables}
use Rattle.parsed.specs.declared.Repeat.{Repeat}
use Rattle.parsed.specs.declared.Repeat.TheVariants.{Optional, Star, Plus}
use Rattle.parsed.specs.Parsed.{Memory, memory, Gives, rule_of, Repeats}
use Rattle.parsed.proofs.Joining.{gives_as}
use Rattle.repeats.specs.Repeats.{WritesOut}

-- what the grammar makes of a repeat, by that byte
abbrev repeated_by : Read → Bool → ℕ → Read
repeated_by R g b =
    if g && eqb b (code "?") then read (again optional R.part) (drop 1 R.rest)
    else if g && eqb b (code "*") then read (again star R.part) (drop 1 R.rest)
    else if g && eqb b (code "+") then read (again plus R.part) (drop 1 R.rest)
    else if g && eqb b (code "{") then with_interval R.part (read_interval (drop 1 R.rest))
    else R

-- the byte of a repeat
abbrev pub byte_of : Repeat → ℕ
byte_of Optional = code "?"
byte_of Star = code "*"
byte_of Plus = code "+"

by_repeat : (R : Read) (k : Repeat) → repeated_by R true (byte_of k) ≡ read (again (rule_of k) R.part) (drop 1 R.rest)
by_repeat R Optional = refl
by_repeat R Star = refl
by_repeat R Plus = refl

by_none : (R : Read) (b : ℕ) → (b ≡ code "?" → ⊥) → (b ≡ code "*" → ⊥) → (b ≡ code "+" → ⊥) → (b ≡ code "{" → ⊥) → repeated_by R true b ≡ R
by_none R b one any some times = simp (ne_eqb b (code "?") one, ne_eqb b (code "*") any, ne_eqb b (code "+") some, ne_eqb b (code "{") times)

module _ (text from : List ℕ) (n : ℕ) (m : Memory) (rows more : List ℕ) (tables : Tables) (R : Read) (p : Parsed) (w : Gives from n m (memory rows more tables) R p text) where
  by_byte : (b : ℕ) → peek text ≡ b → repeated R ≡ repeated_by R true b
  by_byte b e = ap₂ (repeated_by R) w.good (ap peek w.goes ∙ e)

  pub repeat_not : (peek text ≡ code "?" → ⊥) → (peek text ≡ code "*" → ⊥) → (peek text ≡ code "+" → ⊥) → (peek text ≡ code "{" → ⊥) → Gives from n m (memory rows more tables) (repeated R) p text
  repeat_not one any some times = gives_as (by_byte (peek text) refl ∙ by_none R (peek text) one any some times) w

  -- after the byte
  module _ (rest : List ℕ) (after : rest ≡ drop 1 text) where
    shorter : length rest ≤ length text
    shorter = omega (arith, ap length after, length-drop 1 text)

    goes : drop 1 R.rest ≡ rest
    goes = ap (drop 1) w.goes ∙ sym after

    pub repeat_on : (k : Repeat) (rows' more' : List ℕ) (r : Parsed) → peek text ≡ byte_of k → Repeats (rule_of k) rows more rows' more' p r → Gives from n m (memory rows' more' tables) (repeated R) r rest
    repeat_on k rows' more' r e repeats =
        gives_as (by_byte (byte_of k) e ∙ by_repeat R k) record { good = refl; goes = goes; on = let o = w.on in omega (arith, shorter); has = repeats n m tables R.part w.has }

    -- an interval
    module _ (e : peek text ≡ code "{") where
      by_interval : repeated R ≡ with_interval R.part (read_interval rest)
      by_interval = by_byte (code "{") e ∙ ap (λ (l : List ℕ). with_interval R.part (read_interval l)) goes

      pub repeat_times : (now' : Memory) (r : Parsed) (i : IntervalRead) (left : List ℕ) → read_interval rest ≡ interval (bounds_of i) left → WritesOut n i (memory rows more tables) now' p r
          → Gives from n m now' (repeated R) r left
      repeat_times now' r i left is writes =
          gives_as (by_interval ∙ ap (with_interval R.part) is)
          record { good = refl; goes = refl; on = let o = w.on in omega (arith, shorter, interval_on rest (bounds_of i) left is); has = writes m R.part w.has }
