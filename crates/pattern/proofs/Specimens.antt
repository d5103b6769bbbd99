-- The specimens: refusal numbers, counts and marks that the rules give, by computation, in one theorem over one table.
-- Assumes nothing.
use mathlib.Core.Path.{◌≡◌, refl}
use mathlib.Core.Bool.{Bool, true, ◌&&◌}
use mathlib.Core.List.{List, [], ◌∷◌, ◌++◌}
use Prim.Native.Nat.{ℕ}
use Prim.Native.Char.{code}
use Prim.Native.String.{String}
use lib.Dec.{eqb}
use lib.IntN.{ℤ, pos, neg_ℤ}
use lib.Signed.{le_z}
use lib.ListN.{replicate}
use Rattle.std.specs.Prelude.{if◌then◌else◌}
use Rattle.basics.specs.Bytes.{codes}
use Rattle.basics.specs.Folds.{fold_if}
use Rattle.alphabet.specs.Alphabet.{some_from}
use Rattle.graph.specs.Readings.{readings, mark}
use Rattle.pattern.specs.Grammar.{pattern_part}
use Rattle.pattern.specs.Refusals.{pattern_refusal}
use Rattle.pattern.specs.Positions.{graph_of}

-- a pattern and an answer, the refusal (0 for none), and where there is none the count and the mark
record Row : Type 0 where
  pattern : List ℕ
  answer : List ℕ
  refusal : ℕ
  count : ℕ
  credit : ℤ

abbrev accepts : String → String → ℕ → ℕ → Row
accepts p a c m = record { pattern = codes p; answer = codes a; refusal = 0; count = c; credit = pos m }

-- the mark is below zero
abbrev loses : String → String → ℕ → ℕ → Row
loses p a c m = record { pattern = codes p; answer = codes a; refusal = 0; count = c; credit = neg_ℤ (pos m) }

abbrev declines : String → ℕ → Row
declines p n = record { pattern = codes p; answer = []; refusal = n; count = 0; credit = pos 0 }

-- k times `.`, then p
abbrev long : ℕ → String → ℕ → Row
long k p n = record { pattern = replicate k (code ".") ++ codes p; answer = []; refusal = n; count = 0; credit = pos 0 }

-- those with a star on the page of rules
abbrev starred : List Row
starred =
    accepts "(a|a)b" "ab" 2 0
    ∷ accepts "(a|a)b" "b" 0 0
    ∷ accepts "a*a*" "aaa" 4 0
    ∷ accepts "(a|a)*" "aaa" 8 0
    ∷ accepts "(a*)*" "aaa" 4 0
    ∷ accepts "(a+)+" "aaa" 4 0
    ∷ accepts "(a*)+" "aaa" 4 0
    ∷ accepts "((a*)*)*" "aaa" 9 0
    ∷ accepts "(ab*)*" "abbab" 1 0
    ∷ accepts "(a*b?)*" "aab" 4 0
    ∷ accepts "(a*|b)*" "aab" 2 0
    ∷ accepts "(a?b?)*" "abab" 4 0
    ∷ accepts "[a-l]*[m-z]*" "am" 1 0
    ∷ accepts "[a-m]*[m-z]*" "m" 2 0
    ∷ accepts "a=2b|ab=3" "ab" 2 3
    ∷ accepts "(a=1|a)*" "aaa" 8 3
    ∷ accepts "a?" "" 1 0
    ∷ loses "a=-2" "a" 1 2
    ∷ loses "a=-2|a=-1" "a" 2 1
    ∷ accepts "(a=-1|a=1)*" "aa" 4 2
    ∷ accepts "(a=-1b=1|ab=-2)*" "abab" 4 0
    ∷ accepts "a=-5*" "" 1 0
    ∷ accepts "a=-5" "b" 0 0
    ∷ accepts "a=1-" "a-" 1 1
    ∷ accepts "a{3}" "aaa" 1 0
    ∷ accepts "a{0,3}" "aa" 1 0
    ∷ accepts "(a|b){2}" "ab" 1 0
    ∷ accepts "a{2,}" "aaaa" 1 0
    ∷ accepts "(a*){2}" "aa" 3 0
    ∷ accepts "(ab=1){2}" "abab" 1 2
    ∷ accepts "a{60}" "a" 0 0
    ∷ accepts "[^ -~]" "é" 1 0
    ∷ accepts "[^ -~]" "a" 0 0
    ∷ accepts "é=1t(é|e=1)" "été" 1 1
    ∷ accepts "é=1t(é|e=1)" "éte" 1 2
    ∷ accepts "é=1t(é|e=1)" "ete" 0 0
    ∷ accepts "[z-é]" "z" 1 0
    ∷ accepts "[z-é]" "~" 1 0
    ∷ accepts "[z-é]" "\u{a0}" 1 0
    ∷ accepts "[z-é]" "é" 1 0
    ∷ accepts "[z-é]" "ê" 0 0
    ∷ accepts "." "\u{a0}" 1 0
    ∷ accepts "." "ÿ" 1 0
    ∷ accepts "\u{a0}" "\u{a0}" 1 0
    ∷ accepts " " "\u{a0}" 0 0
    ∷ accepts "ÿ" "ÿ" 1 0
    ∷ declines "" 5
    ∷ declines "()" 5
    ∷ declines "a**" 5
    ∷ declines "a)" 5
    ∷ declines "a=-0" 5
    ∷ declines "a=-" 5
    ∷ declines "a=--1" 5
    ∷ declines "a=+1" 5
    ∷ declines "(a)=-1" 5
    ∷ declines "a*=-1" 5
    ∷ declines "a{1000}" 5
    ∷ declines "a{2}*" 5
    ∷ declines "a{2}{2}" 5
    ∷ declines "\u{1f}" 4
    ∷ declines "\u{7f}" 4
    ∷ declines "\u{9f}" 4
    ∷ declines "[\u{7f}-é]" 4
    ∷ declines "[z-\u{9f}]" 4
    ∷ declines "[z-a]" 6
    ∷ declines "[é-z]" 6
    ∷ declines "[z-a]{0}" 6
    ∷ declines "[^ -ÿ]" 7
    ∷ declines "a{0}" 11
    ∷ declines "a{3,2}" 11
    ∷ declines "a{256}" 11
    ∷ declines "a{2,256}" 11
    ∷ declines "a{61}" 8
    ∷ []

-- and what pins each rule of the grammar down
abbrev grammar : List Row
grammar =
    -- `.` is all letters
    accepts "." " " 1 0
    ∷ accepts "." "~" 1 0
    ∷ accepts "." "ab" 0 0
    -- a byte that is not special, `\` with one that is
    ∷ accepts " !\"#%&',-/0123456789:;<>@ABCDEFGHIJKLMNOPQRSTUVWXYZ" "" 0 0
    ∷ accepts "_`abcdefghijklmnopqrstuvwxyz~" "" 0 0
    ∷ accepts "\\|\\*\\+\\?\\(\\)\\[\\]\\{\\}\\^\\$\\.\\\\\\=" "|*+?()[]{}^$.\\=" 1 0
    ∷ declines "\\a" 5
    ∷ declines "\\" 5
    -- classes
    ∷ accepts "[^a]" "b" 1 0
    ∷ accepts "[^a]" "a" 0 0
    ∷ accepts "[a\\-\\]]*" "-]a" 1 0
    ∷ accepts "[a\\-\\]]" "\\" 0 0
    ∷ accepts "[\\^\\[\\\\]*" "^[\\" 1 0
    ∷ accepts "[|*+?(){}$.=]*" "|*+?(){}$.=" 1 0
    ∷ accepts "[.]" "a" 0 0
    ∷ accepts "[a-c]" "a" 1 0
    ∷ accepts "[a-c]" "c" 1 0
    ∷ accepts "[a-c]" "d" 0 0
    ∷ accepts "[b-b]" "b" 1 0
    ∷ accepts "[a-cb-d]=4" "b" 1 4
    ∷ declines "[a-]" 5
    ∷ declines "[]" 5
    ∷ declines "[^]" 5
    ∷ declines "[a" 5
    ∷ declines "[-a]" 5
    ∷ declines "[a^]" 5
    ∷ declines "[a-c-e]" 5
    -- `-` is not special outside a class
    ∷ accepts "a-b" "a-b" 1 0
    -- credits
    ∷ accepts "[ab]=3" "b" 1 3
    ∷ accepts "\\==3" "=" 1 3
    ∷ accepts ".=3" "x" 1 3
    ∷ accepts "a=9" "a" 1 9
    ∷ accepts "a=1*" "aa" 1 2
    ∷ declines "a=0" 5
    ∷ declines "a=:" 5
    ∷ declines "=1" 5
    ∷ declines "a=" 5
    ∷ declines "(a)=1" 5
    ∷ declines "a*=1" 5
    ∷ declines "a=1=2" 5
    ∷ loses "[ab]=-3" "b" 1 3
    ∷ loses "\\==-3" "=" 1 3
    ∷ loses ".=-3" "x" 1 3
    ∷ loses "a=-9" "a" 1 9
    ∷ loses "a=-1*" "aa" 1 2
    ∷ loses "a=-1-" "a-" 1 1
    ∷ loses "a=-10" "a0" 1 1
    ∷ accepts "a-=1" "a-" 1 1
    ∷ loses "-=-1" "-" 1 1
    ∷ accepts "a=-1b=1" "ab" 1 0
    ∷ loses "a=-3b=1|a=-1b=-2" "ab" 2 2
    ∷ loses "(a=-1*)*" "aaa" 4 3
    ∷ declines "a=-:" 5
    ∷ declines "a=-/" 5
    ∷ declines "=-1" 5
    ∷ declines "a=-1=1" 5
    ∷ declines "a=1=-1" 5
    ∷ declines "a=-a" 5
    -- repeats
    ∷ accepts "a+" "" 0 0
    ∷ accepts "a+" "aa" 1 0
    ∷ accepts "a?" "aa" 0 0
    ∷ accepts "(a*)+" "" 1 0
    ∷ accepts "ab*" "abab" 0 0
    ∷ accepts "(ab)*" "abab" 1 0
    -- a repeat that goes round on nothing is no link, and how pieces are joined plays no part
    ∷ accepts "(a?)*" "aa" 1 0
    ∷ accepts "((a?)+)?" "aa" 1 0
    ∷ accepts "ab?c?d" "ad" 1 0
    ∷ accepts "(a*b*)*" "ab" 2 0
    ∷ accepts "(a=1*)*" "aaa" 4 3
    -- intervals: bounds of one to three digits
    ∷ accepts "a{007}" "aaaaaaa" 1 0
    ∷ accepts "a{007}" "aaaaaa" 0 0
    ∷ accepts "a{1}" "a" 1 0
    ∷ accepts "a{10}" "aaaaaaaaaa" 1 0
    ∷ declines "a{}" 5
    ∷ declines "a{,3}" 5
    ∷ declines "a{ 1}" 5
    ∷ declines "a{1;2}" 5
    ∷ declines "a{-1}" 5
    ∷ declines "a{1,2,3}" 5
    ∷ declines "a{1" 5
    ∷ declines "a{1," 5
    ∷ declines "a{1,2" 5
    ∷ declines "a{" 5
    ∷ declines "a{0001}" 5
    ∷ declines "a{1,1000}" 5
    ∷ declines "a{:}" 5
    ∷ declines "a{/}" 5
    ∷ declines "{2}" 5
    ∷ declines "(a|{2})" 5
    ∷ declines "a}" 5
    ∷ declines "a*{2}" 5
    ∷ declines "a{2}+" 5
    ∷ declines "a{2}?" 5
    ∷ declines "a{2}=1" 5
    -- at the least, at the most, and any number from there on
    ∷ accepts "a{2,4}" "a" 0 0
    ∷ accepts "a{2,4}" "aa" 1 0
    ∷ accepts "a{2,4}" "aaaa" 1 0
    ∷ accepts "a{2,4}" "aaaaa" 0 0
    ∷ accepts "a{0,1}" "" 1 0
    ∷ accepts "a{0,}" "" 1 0
    ∷ accepts "a{0,}" "aa" 1 0
    ∷ accepts "a{1,}" "" 0 0
    ∷ accepts "a{1,}" "aa" 1 0
    ∷ accepts "a{3,}" "aa" 0 0
    ∷ accepts "a{3,}" "aaaaa" 1 0
    -- each copy has links and credits of its own
    ∷ accepts "(a{1,2}){2}" "aaa" 2 0
    ∷ accepts "(a?){3}" "a" 3 0
    ∷ accepts "(a?){0,3}" "a" 3 0
    ∷ accepts "((a*)*){2}" "aa" 5 0
    ∷ accepts "(a*){2,}" "aa" 4 0
    ∷ accepts "(a+b=2){2}" "aabab" 1 4
    ∷ accepts "a=3{2,5}" "aaaa" 1 12
    ∷ loses "a=-1{3}" "aaa" 1 3
    ∷ accepts "(a=1|b){0,3}" "aba" 1 2
    -- 11 comes after 5, 6 and 7, wherever they are, and before 8
    ∷ declines "a{0,0}" 11
    ∷ declines "a{256,}" 11
    ∷ declines "a{999,1}" 11
    ∷ declines "(a{0}){2}" 11
    ∷ declines "(a{0}|b)*c" 11
    ∷ declines "a(b|c{0})" 11
    ∷ declines "a{0}[^ -ÿ]" 7
    ∷ declines "a{0}[z-a]" 6
    ∷ declines "a{0}(" 5
    ∷ declines "a{61}b{0}" 11
    ∷ accepts "(a{20}){3}" "" 0 0
    ∷ declines "(a{20}){3}b" 8
    ∷ declines "a{255}" 8
    ∷ declines "a{61,}" 8
    ∷ declines "a{0,61}" 8
    -- no branch and no piece is missing, no bracket is open, and no other syntax is read
    ∷ declines "a|" 5
    ∷ declines "|a" 5
    ∷ declines "(a" 5
    ∷ declines "*a" 5
    ∷ declines "(a|)" 5
    ∷ declines "^a" 5
    ∷ declines "a$" 5
    ∷ declines "]" 5
    -- bytes that are no letters
    ∷ declines "[\u{1f}]" 4
    ∷ declines "[\u{7f}]" 4
    ∷ declines "[\u{80}]" 4
    ∷ declines "[\u{9f}]" 4
    ∷ declines "Ā" 4
    -- checking order
    ∷ declines "(\u{1f}" 4
    ∷ declines "[z-a" 5
    ∷ declines "[^ -ÿ][z-a]" 6
    -- at most 60 positions, at most 512 bytes
    ∷ long 60 "" 0
    ∷ long 61 "" 8
    ∷ long 60 "[^ -ÿ]" 7
    ∷ long 511 "\u{1f}" 4
    ∷ long 512 "\u{1f}" 3
    ∷ []

abbrev is_number : ℤ → ℤ → Bool
is_number x y = le_z x y && le_z y x

abbrev right : Row → Bool
right r =
    let p = r.pattern in
    let g = graph_of (pattern_part p) in
    let a = r.answer in
    eqb (pattern_refusal p) r.refusal
    && (if eqb r.refusal 0 then eqb (readings g a) r.count && is_number (mark g a) r.credit else true)

abbrev all_right : List Row → Bool
all_right [] = true
all_right (r ∷ rs) = right r && all_right rs

pub specimens : all_right (starred ++ grammar) ≡ true
unfolding fold_if some_from
specimens = refl
