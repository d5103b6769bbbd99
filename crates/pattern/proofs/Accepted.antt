-- What no refusal says of a pattern: each test before it did not apply. Assumes nothing.
use mathlib.Core.Path.{◌≡◌, refl}
use mathlib.Core.Bool.{Bool, true, false, not}
use mathlib.Core.List.{List}
use Prim.Native.Nat.{ℕ, suc, ◌≤◌}
use native.Mathlib.Omega.{arith}
use lib.Dec.{ltb}
use lib.ListN.{length}
use borrow.Author.Tests.{ltb-false, not-false}
use Rattle.std.specs.Prelude.{if◌then◌else◌}
use Rattle.alphabet.specs.Alphabet.{all_letters}
use Rattle.pattern.specs.Grammar.{is_pattern, pattern_part}
use Rattle.pattern.specs.Positions.{atoms, positions}
use Rattle.pattern.specs.Refusals.{any_reversed, any_empty, any_misbounded, pattern_refusal}

pub record Accepted (b : List ℕ) : Type 0 where
  pub short : length b ≤ 512
  pub letters : all_letters b ≡ true
  pub follows_grammar : is_pattern b ≡ true
  pub in_order : any_reversed (atoms (pattern_part b)) ≡ false
  pub none_empty : any_empty (atoms (pattern_part b)) ≡ false
  pub bounded : any_misbounded (pattern_part b) ≡ false
  pub few : positions (pattern_part b) ≤ 60

passed : (t : Bool) (k r : ℕ) → (if t then suc k else r) ≡ 0 → (t ≡ false) × (r ≡ 0)
passed true k r e = absurd (omega arith)
passed false k r e = (refl, e)

pub refusal_none : (b : List ℕ) → pattern_refusal b ≡ 0 → Accepted b
refusal_none b e =
    let three = passed (ltb 512 (length b)) _ _ e in
    let four = passed (not (all_letters b)) _ _ three.1 in
    let five = passed (not (is_pattern b)) _ _ four.1 in
    let six = passed (any_reversed (atoms (pattern_part b))) _ _ five.1 in
    let seven = passed (any_empty (atoms (pattern_part b))) _ _ six.1 in
    let eleven = passed (any_misbounded (pattern_part b)) _ _ seven.1 in
    let eight = passed (ltb 60 (positions (pattern_part b))) _ _ eleven.1 in
    record {
      short = ltb-false 512 (length b) three.0;
      letters = not-false (all_letters b) four.0;
      follows_grammar = not-false (is_pattern b) five.0;
      in_order = six.0;
      none_empty = seven.0;
      bounded = eleven.0;
      few = ltb-false 60 (positions (pattern_part b)) eight.0;
    }
