-- Of the texts that pass a test there is a shortest, if only texts of letters pass it: whether one of k letters does can be found out by
-- trying them all. Assumes nothing.
use mathlib.Core.Path.{◌≡◌, refl, sym, ap, ◌∙◌}
use mathlib.Core.Logic.{⊎_elim}
use mathlib.Core.Bool.{Bool, true, true≢false}
use mathlib.Core.List.{List, [], ◌∷◌}
use Prim.Native.Nat.{ℕ, zero, suc, ◌≤◌}
use native.Mathlib.Omega.{arith}
use lib.ListN.{length}
use Rattle.basics.specs.Folds.{any_if}
use Rattle.basics.proofs.Tests.{and_parts, le_or_lt}
use Rattle.basics.proofs.Folds.{any_found, any_true, least}
use Rattle.alphabet.specs.Alphabet.{is_letter, all_letters}
use Rattle.alphabet.proofs.Alphabet.{letter_below}

-- does some text of k letters
some_text : (List ℕ → Bool) → ℕ → Bool
some_text f zero = f []
some_text f (suc k) = any_if is_letter (λ c. some_text (λ s. f (c ∷ s)) k) 256

text_found : (f : List ℕ → Bool) (k : ℕ) → some_text f k ≡ true → (s : List ℕ) × (length s ≡ k) × (f s ≡ true)
unfolding some_text
text_found f zero h = ([], refl, h)
text_found f (suc k) h =
    let c = any_found is_letter (λ c. some_text (λ s. f (c ∷ s)) k) 256 h in
    let r = text_found (λ s. f (c.i ∷ s)) k c.holds in
    (c.i ∷ r.0, ap suc r.1, r.2)

text_tried : (f : List ℕ → Bool) (s : List ℕ) → all_letters s ≡ true → f s ≡ true → some_text f (length s) ≡ true
unfolding some_text
text_tried f [] l h = h
text_tried f (c ∷ s) l h =
    let p = and_parts (is_letter c) (all_letters s) l in
    any_true is_letter (λ c. some_text (λ s. f (c ∷ s)) (length s)) 256 c (letter_below c p.0) p.0 (text_tried (λ s. f (c ∷ s)) s p.1 h)

pub record Shortest (f : List ℕ → Bool) : Type 0 where
  pub text : List ℕ
  pub passes : f text ≡ true
  pub least : (t : List ℕ) → f t ≡ true → length text ≤ length t

pub shortest : (f : List ℕ → Bool) → ((s : List ℕ) → f s ≡ true → all_letters s ≡ true) → (s : List ℕ) → f s ≡ true → Shortest f
shortest f letters s h =
    let tried : (t : List ℕ) → f t ≡ true → some_text f (length t) ≡ true = λ t k. text_tried f t (letters t k) k in
    ⊎_elim (λ none. absurd (true≢false (sym (tried s h) ∙ none (length s) (omega arith))))
    (λ r.
    let w = text_found f r.0 r.2.here in
    record {
      text = w.0;
      passes = w.2;
      least = λ t k. ⊎_elim (λ l. l) (λ l. absurd (true≢false (sym (tried t k) ∙ r.2.none (length t) (omega (arith, w.1))))) (le_or_lt (length w.0) (length t));
    })
    (least (some_text f) (suc (length s)))
