-- Rows filled one after the other. Assumes nothing.
use mathlib.Core.Path.{◌≡◌, sym, ap, ap₂, ◌∙◌, subst}
use mathlib.Core.Bool.{Bool, ◌&&◌, ◌||◌}
use mathlib.Core.List.{List}
use Prim.Native.Nat.{ℕ, ◌+◌, ◌<◌}
use native.Mathlib.Omega.{arith}
use lib.Dec.{eqb, ltb}
use lib.ListN.{get_or, set, length}
use lib.Seq.{get_or-set_same, get_or-set_other}
use borrow.Author.Tests.{lt-ltb}
use Rattle.basics.proofs.Tests.{by_equal, one_further}
use Rattle.bits.specs.Bits.{has_bit}

-- what holds of the rows below a, and of the word that is stored there, holds of those below a + 1
pub row_filled : (P : ℕ → ℕ → Type 0) (rows : List ℕ) (a word : ℕ) → a < length rows → ((i : ℕ) → i < a → P i (get_or rows i 0)) → P a word
    → (i : ℕ) → i < a + 1 → P i (get_or (set rows a word) i 0)
row_filled P rows a word l f p i k =
    by_equal i a (λ z. subst (λ (j : ℕ). P j (get_or (set rows a word) j 0)) (sym z) (subst (P a) (sym (get_or-set_same rows a word 0 l)) p))
    (λ d. subst (P i) (sym (get_or-set_other rows a i word 0 d)) (f i (omega arith)))

-- the rows below a have the numbers below a that f relates to theirs; with a entered into the rows of its word, and its word stored, so do
-- those below a + 1
pub rows_grown : (f : ℕ → ℕ → Bool) → ((i j : ℕ) → f i j ≡ f j i) → (rows entered : List ℕ) (a word : ℕ) → a < length entered
    → ((i j : ℕ) → i < a → has_bit (get_or rows i 0) j ≡ (ltb j a && f i j)) → ((j : ℕ) → has_bit word j ≡ (ltb j (a + 1) && f a j))
    → ((x i : ℕ) → has_bit (get_or entered x 0) i ≡ (has_bit (get_or rows x 0) i || (has_bit word x && eqb a i)))
    → (i j : ℕ) → i < a + 1 → has_bit (get_or (set entered a word) i 0) j ≡ (ltb j (a + 1) && f i j)
rows_grown f swap rows entered a word l old new has i j k =
    row_filled (λ i word. (j : ℕ) → has_bit word j ≡ (ltb j (a + 1) && f i j)) entered a word l
    (λ i h j.
    has i j
    ∙ ap₂ (λ (x y : Bool). x || (y && eqb a j)) (old i j h) (new i ∙ ap (λ (t : Bool). t && f a i) (lt-ltb i (a + 1) (omega arith)) ∙ swap a i)
    ∙ one_further (f i) a j)
    new i k j
