-- The specimens of refusal 10, answers of one byte with those that are no refusal, and of how many letters are taken, by
-- computation. Assumes nothing.
use mathlib.Core.Path.{◌≡◌, refl}
use mathlib.Core.Bool.{Bool, true, ◌&&◌}
use Prim.Native.Nat.{ℕ}
use Prim.Native.String.{String}
use lib.Dec.{eqb}
use Rattle.basics.specs.Bytes.{codes}
use Rattle.basics.specs.Folds.{fold_if}
use Rattle.alphabet.specs.Alphabet.{some_from}
use Rattle.calls.specs.Marking.{mark_refusal, taken_shown}

-- a pattern and an answer, with the refusal
abbrev right : String → String → ℕ → Bool
right p a n = eqb (mark_refusal (codes p) (codes a)) n

pub answers :
    (right "." "\u{1f}" 10 && right "." " " 0 && right "." "~" 0 && right "." "\u{7f}" 10 && right "." "\u{80}" 10 && right "." "\u{9f}" 10
    && right "." "\u{a0}" 0 && right "." "ÿ" 0 && right "." "Ā" 10 && right "[z-é]" "\u{9f}" 10 && right "[z-é]" "ê" 0 && right "\u{9f}" "\u{9f}" 4) ≡ true
unfolding some_from
answers = refl

-- a pattern and an answer, with the letters taken
abbrev takes : String → String → ℕ → Bool
takes p a n = eqb (taken_shown (codes p) (codes a)) n

pub letters_taken_shown :
    -- over at the first letter, in the middle, at the last
    (takes "abc" "xbc" 1 && takes "abc" "axc" 2 && takes "abc" "abx" 3
    -- never: a reading, or none yet
    && takes "abc" "abc" 3 && takes "abc" "ab" 2 && takes "a*" "aaa" 3 && takes "abc" "" 0 && takes "a?" "" 0
    -- past the end of every reading
    && takes "abc" "abca" 4 && takes "abc" "abcaa" 4 && takes "a?" "aaa" 2
    -- one of several ways goes on; none does
    && takes "(a|ab)c" "abc" 3 && takes "(a|ab)c" "acb" 3 && takes "(a*)*b" "aacb" 3 && takes "a{2,3}b" "aaaab" 4 && takes "[^a]é" "bèé" 2
    -- at a refusal
    && takes "a" "a\u{1f}" 0 && takes "a**" "a" 0)
    ≡ true
unfolding some_from fold_if
letters_taken_shown = refl
