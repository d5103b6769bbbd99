-- A run passes from state to state of a part along its links, over a list whose entries fit the positions that it comes to. Runs
-- carry over from a part to those built of it; so each text of a part has a run from 0 to 0, by how the text is made. Assumes nothing.
use mathlib.Core.Path.{◌≡◌, refl, ap, ◌∙◌}
use mathlib.Core.Logic.{inl, inr}
use mathlib.Core.Bool.{true}
use mathlib.Core.List.{List, [], ◌∷◌, ◌++◌}
use Prim.Native.Nat.{ℕ, suc, ◌+◌}
use Rattle.pattern.specs.Parts.{Atom, holds, Repeat, loops, Part, joined, again}
use Rattle.pattern.specs.Positions.{positions}
use Rattle.pattern.specs.Texts.{Text, one, in_left, in_right, both, never, once, more}
use Rattle.pattern.proofs.Link.{Link, is_place, again_on, again_over, again_past}
use Rattle.pattern.proofs.Within.{Agree, agree_one, agree_left, agree_right}

-- from state u over s to state v
pub data Run (Fits : ℕ → ℕ → Type 0) (n : ℕ) (p : Part) : ℕ → List ℕ → ℕ → Type 0 where
  end : {u v : ℕ} → Link n p u v → Run Fits n p u [] v
  step : {u b v : ℕ} {s : List ℕ} (x : ℕ) → Link n p u (suc x) → Fits (suc x) b → Run Fits n p (suc x) s v → Run Fits n p u (b ∷ s) v

module _ {Fits : ℕ → ℕ → Type 0} where
  -- a run that keeps to the states S is one of another part that has its links from S
  pub run_keep : {n l : ℕ} {p w : Part} (S : ℕ → Type 0) → ((u v : ℕ) → S u → Link n p u v → Link l w u v) → ((u y : ℕ) → S u → Link n p u (suc y) → S (suc y))
      → {u v : ℕ} {s : List ℕ} → S u → Run Fits n p u s v → Run Fits l w u s v
  run_keep S f g h (end e) = end (f _ _ h e)
  run_keep S f g h (step x e d r) = step x (f _ (suc x) h e) d (run_keep S f g (g _ x h e) r)

  pub run_on : {n l : ℕ} {p w : Part} → ((u v : ℕ) → Link n p u v → Link l w u v) → {u v : ℕ} {s : List ℕ} → Run Fits n p u s v → Run Fits l w u s v
  run_on f r = run_keep (λ u. Unit {0}) (λ u v h e. f u v e) (λ u y h e. tt) tt r

  -- ---- a part then another: from a position of the right one; over from the left one
  pub run_right : {n : ℕ} {p q : Part} {x v : ℕ} {s : List ℕ} → Run Fits (n + positions p) q (suc x) s v → Run Fits n (joined p q) (suc x) s v
  run_right r = run_keep (λ u. is_place u ≡ true) (λ u v h e. inr (inl (h, e))) (λ u y h e. refl) refl r

  pub run_join : {n : ℕ} {p q : Part} {u v : ℕ} {s t : List ℕ} → Run Fits n p u s 0 → Run Fits (n + positions p) q 0 t v → Run Fits n (joined p q) u (s ++ t) v
  run_join (end e) (end f) = end (inr (inr (e, f)))
  run_join (end e) (step x f d r) = step x (inr (inr (e, f))) d (run_right r)
  run_join (step x e d r) t = step x (inl (refl, e)) d (run_join r t)

  -- ---- a part again and again
  pub run_more : {k : Repeat} {n : ℕ} {p : Part} {u v : ℕ} {s t : List ℕ} → loops k ≡ true → Run Fits n p u s 0 → Run Fits n (again k p) 0 t v → Run Fits n (again k p) u (s ++ t) v
  run_more {k} {n} {p} {u} {v} l (end e) (end f) = end (again_past k n p u v l e f)
  run_more {k} {n} {p} {u} l (end e) (step x f d r) = step x (again_over k n p u x l e f) d r
  run_more {k} {n} {p} {u} l (step x e d r) t = step x (again_on k n p u (suc x) e) d (run_more l r t)

-- the letter b is of the set of position x, if the positions' atoms are `at`
abbrev pub Holds : (ℕ → Atom) → ℕ → ℕ → Type 0
Holds at x b = holds (at x) b ≡ true

pub text_run : (at : ℕ → Atom) {p : Part} {s : List ℕ} → Text p s → (n : ℕ) → Agree at n p → Run (Holds at) n p 0 s 0
text_run at (one a b h) n g = step n refl (ap (λ (c : Atom). holds c b) (agree_one at n a g) ∙ h) (end refl)
text_run at (in_left p q s x) n g = run_on (λ u v e. inl e) (text_run at x n (agree_left at n p q g))
text_run at (in_right p q s x) n g = run_on (λ u v e. inr e) (text_run at x (n + positions p) (agree_right at n p q g))
text_run at (both p q s t x y) n g = run_join (text_run at x n (agree_left at n p q g)) (text_run at y (n + positions p) (agree_right at n p q g))
text_run at (never k p l) n g = end (inl l)
text_run at (once k p s x) n g = run_on (again_on k n p) (text_run at x n g)
text_run at (more k p s t l x y) n g = run_more l (text_run at x n g) (text_run at y n g)
