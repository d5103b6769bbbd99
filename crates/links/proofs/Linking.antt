-- Sets and rows of positions by the tests that they stand for, and the loop that links lasts to firsts. Assumes nothing.
use mathlib.Core.Path.{◌≡◌, refl, sym, ap, ap₂, ◌∙◌, subst}
use mathlib.Core.Bool.{Bool, true, false, ◌&&◌, ◌||◌, and-false, or-false, or_assoc}
use mathlib.Core.List.{List}
use Prim.Native.Nat.{ℕ, ◌<◌, ◌^◌}
use lib.ListN.{length, get_or, set, replicate}
use lib.Seq.{get_or-set_same, get_or-set_other}
use borrow.Author.Tests.{le-ltb}
use Rattle.basics.proofs.Tests.{by_equal}
use Rattle.basics.proofs.Lists.{zeros}
use Rattle.basics.proofs.Folds.{less_here, less_other}
use Rattle.bits.specs.Bits.{has_bit, Taken}
use Rattle.bits.proofs.Laws.{has_none, lt_of_high, member_below}
use Rattle.links.specs.Rows.{kept, Marks, Links, Adds, Linked}

-- ---- sets and rows

spread : (k u e v : Bool) → ((k && u) || (e && (k && v))) ≡ (k && (u || (e && v)))
spread true u e v = refl
spread false u e v = and-false e

-- the members of x and, if e, those of y
pub marks_if : (m x y : ℕ) (f g : ℕ → Bool) (e : Bool) → ((b : ℕ) → has_bit m b ≡ (has_bit x b || (e && has_bit y b))) → Marks x f → Marks y g → Marks m (λ b. f b || (e && g b))
marks_if m x y f g e j p q b = j b ∙ ap₂ (λ (u v : Bool). u || (e && v)) (p b) (q b) ∙ spread (kept b) (f b) e (g b)

pub marks_none : Marks 0 (λ b. false)
marks_none b = has_none b ∙ sym (and-false (kept b))

pub adds_none : (rows : List ℕ) → Adds rows (λ a b. false) rows
adds_none rows a b = sym (ap (λ (u : Bool). has_bit (get_or rows a 0) b || u) (and-false (kept a && kept b)) ∙ or-false (has_bit (get_or rows a 0) b))

regroup : (o k u v : Bool) → ((o || (k && u)) || (k && v)) ≡ (o || (k && (u || v)))
regroup o true u v = or_assoc o u v
regroup o false u v = or-false (o || false)

-- one after the other
pub adds_both : (x y z : List ℕ) (g h : ℕ → ℕ → Bool) → Adds x g y → Adds y h z → Adds x (λ a b. g a b || h a b) z
adds_both x y z g h p q a b =
    q a b ∙ ap (λ (u : Bool). u || ((kept a && kept b) && h a b)) (p a b) ∙ regroup (has_bit (get_or x a 0) b) (kept a && kept b) (g a b) (h a b)

paired : (k j u v : Bool) → ((k && (k && u)) && (j && v)) ≡ ((k && j) && (u && v))
paired true true u v = refl
paired true false u v = and-false u
paired false j u v = refl

pub adds_linked : (rows r : List ℕ) (lasts firsts : ℕ) (f g : ℕ → Bool) → Linked rows lasts firsts r → Marks lasts f → Marks firsts g → Adds rows (λ a b. f a && g b) r
adds_linked rows r lasts firsts f g l p q a b =
    l a b
    ∙ ap (λ (u : Bool). has_bit (get_or rows a 0) b || u)
    (ap₂ (λ (u v : Bool). (kept a && u) && v) (p a) (q b) ∙ paired (kept a) (kept b) (f a) (g b))

-- ---- linking, one of the lasts at a time

-- what the rows have once those left are linked
abbrev pub to_come : List ℕ → ℕ → ℕ → ℕ → ℕ → Bool
to_come rows left firsts a b = has_bit (get_or rows a 0) b || (has_bit left a && has_bit firsts b)

-- the set that a walk begins with: the kept numbers of m
pub marks_kept : (all m n left : ℕ) → ((j : ℕ) → has_bit all j ≡ kept j) → ((j : ℕ) → has_bit n j ≡ (has_bit all j && has_bit m j)) → left ≡ n → Marks left (has_bit m)
marks_kept all m n left e f s j = ap (λ (x : ℕ). has_bit x j) s ∙ f j ∙ ap (λ (t : Bool). t && has_bit m j) (e j)

pub marks_few : (m : ℕ) (f : ℕ → Bool) → m < 2 ^ 64 → Marks m f → m < 2 ^ 61
marks_few m f fits e = lt_of_high 61 m fits (λ j h. e j ∙ ap (λ (t : Bool). t && f j) (le-ltb j 61 h))

with_row : (k r f : Bool) → (r && (k && f)) ≡ (k && (r && f))
with_row true r f = refl
with_row false r f = and-false r

-- of those, the ones that a row has
pub marks_row : (row all m ends n : ℕ) → ((j : ℕ) → has_bit all j ≡ kept j) → ((j : ℕ) → has_bit ends j ≡ (has_bit all j && has_bit m j)) → ((j : ℕ) → has_bit n j ≡ (has_bit row j && has_bit ends j)) → Marks n (λ j. has_bit row j && has_bit m j)
marks_row row all m ends n e f h j = h j ∙ ap (λ (t : Bool). has_bit row j && t) (marks_kept all m ends ends e f refl j) ∙ with_row (kept j) (has_bit row j) (has_bit m j)

-- a member has a row
pub row_of : {left t others : ℕ} → left < 2 ^ 61 → Taken has_bit (λ (m : ℕ). m) left t others → t < 61
row_of {left} {t} h s = member_below 61 left t h s.least.here

-- a turn, at the least of them, changes nothing of it
pub link_turn : (rows : List ℕ) (left firsts t row others : ℕ) → t < length rows → Taken has_bit (λ (m : ℕ). m) left t others
    → ((j : ℕ) → has_bit row j ≡ (has_bit (get_or rows t 0) j || has_bit firsts j)) → (a b : ℕ) → to_come (set rows t row) others firsts a b ≡ to_come rows left firsts a b
link_turn rows left firsts t row others h s j a b =
    by_equal a t (λ z. subst (λ (x : ℕ). to_come (set rows t row) others firsts x b ≡ to_come rows left firsts x b) (sym z) here)
    (λ d. ap₂ (λ (x : ℕ) (u : Bool). has_bit x b || (u && has_bit firsts b)) (get_or-set_other rows t a row 0 d) (less_other (has_bit left) (has_bit others) t s.others a (λ z. d (sym z))))
  where
    here : to_come (set rows t row) others firsts t b ≡ to_come rows left firsts t b
    here =
        ap₂ (λ (x : ℕ) (u : Bool). has_bit x b || (u && has_bit firsts b)) (get_or-set_same rows t row 0 h) (less_here (has_bit left) (has_bit others) t s.others)
        ∙ or-false (has_bit row b) ∙ j b ∙ ap (λ (u : Bool). has_bit (get_or rows t 0) b || (u && has_bit firsts b)) (sym s.least.here)

pub link_end : (rows : List ℕ) (left firsts : ℕ) → ((a : ℕ) → has_bit left a ≡ false) → (a b : ℕ) → has_bit (get_or rows a 0) b ≡ to_come rows left firsts a b
link_end rows left firsts z a b = sym (ap (λ (u : Bool). has_bit (get_or rows a 0) b || (u && has_bit firsts b)) (z a) ∙ or-false (has_bit (get_or rows a 0) b))

-- ---- no rows before

pub links_alone : (k : ℕ) (rows : List ℕ) (g : ℕ → ℕ → Bool) → Adds (replicate k 0) g rows → Links rows g
links_alone k rows g adds a b = adds a b ∙ ap (λ (t : Bool). t || ((kept a && kept b) && g a b)) (ap (λ (x : ℕ). has_bit x b) (zeros k a) ∙ has_none b)
