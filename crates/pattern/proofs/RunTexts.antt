-- Each run of a part from 0 to 0 is over a text of the part, by cases of the part. A run of branches stays in the branch where it
-- begins; a run of one part then another splits where it passes over; a run of a repeat splits where it first goes round, and what
-- is left is shorter. Assumes nothing.
use mathlib.Core.Path.{◌≡◌, sym, ap, ◌∙◌}
use mathlib.Core.Logic.{inl, inr}
use mathlib.Core.Bool.{true, false≢true}
use mathlib.Core.List.{List, ◌∷◌, ◌++◌}
use Prim.Native.Nat.{ℕ, zero, suc, ◌+◌}
use Rattle.pattern.specs.Parts.{Atom, holds, Repeat, loops, Part, letter, either, joined, again}
use Rattle.pattern.specs.Positions.{positions}
use Rattle.pattern.specs.Texts.{Text, one, in_left, in_right, both, never, once, more}
use Rattle.pattern.proofs.Link.{Link, is_place}
use Rattle.pattern.proofs.Own.{Own}
use Rattle.pattern.proofs.Within.{Within, within, not_left, not_right, Agree, agree_one, agree_left, agree_right}
use Rattle.pattern.proofs.Runs.{Run, end, step, run_keep, Holds}

module _ (at : ℕ → Atom) where
  -- of one part, from u to the end
  abbrev Runs : ℕ → Part → ℕ → List ℕ → Type 0
  Runs n p u s = Run (Holds at) n p u s 0

  -- a run of a whole that is at a position of a part, from where the whole's links are the part's, is one of the part
  stays : (l : ℕ) (w : Part) (n : ℕ) (p : Part) → ((u v : ℕ) → Own n p u → Link l w u v → Link n p u v)
      → {x : ℕ} {s : List ℕ} → Own n p (suc x) → Runs l w (suc x) s → Runs n p (suc x) s
  stays l w n p f h r = run_keep (Own n p) f (λ u y i e. (within p n u (suc y) (f u (suc y) i e)).1) h r

  -- ---- branches

  stay_left : (n : ℕ) (p q : Part) (u v : ℕ) → Own n p u → Link n (either p q) u v → Link n p u v
  stay_left n p q u v h (inl e) = e
  stay_left n p q u v h (inr e) = absurd (not_right n p q u v h e)

  stay_right : (n : ℕ) (p q : Part) (u v : ℕ) → Own (n + positions p) q u → Link n (either p q) u v → Link (n + positions p) q u v
  stay_right n p q u v h (inl e) = absurd (not_left n p q u v h e)
  stay_right n p q u v h (inr e) = e

  -- ---- one part then another

  keep_right : (n : ℕ) (p q : Part) (u v : ℕ) → Own (n + positions p) q u → Link n (joined p q) u v → Link (n + positions p) q u v
  keep_right n p q u v h (inl e) = absurd (not_left n p q u v h e.1)
  keep_right n p q u v h (inr (inl e)) = e.1
  keep_right n p q u v h (inr (inr e)) = absurd (not_left n p q u 0 h e.0)

  data Two (n : ℕ) (p q : Part) (u : ℕ) : List ℕ → Type 0 where
    two : {s t : List ℕ} → Runs n p u s → Runs (n + positions p) q 0 t → Two n p q u (s ++ t)

  two_step : {n : ℕ} {p q : Part} {u b x : ℕ} {s : List ℕ} → Link n p u (suc x) → Holds at (suc x) b → Two n p q (suc x) s → Two n p q u (b ∷ s)
  two_step {x = x} e d (two r t) = two (step x e d r) t

  not_yet : (n : ℕ) (p q : Part) (u v : ℕ) → Within n p u → (is_place u ≡ true) × Link (n + positions p) q u v → ⊥
  not_yet n p q zero v h e = false≢true e.0
  not_yet n p q (suc x) v h e = not_right n p q (suc x) v h e.1

  split : (n : ℕ) (p q : Part) (u : ℕ) {s : List ℕ} → Within n p u → Runs n (joined p q) u s → Two n p q u s
  split n p q u h (end (inl e)) = absurd (false≢true e.0)
  split n p q u h (end (inr (inl e))) = absurd (not_yet n p q u 0 h e)
  split n p q u h (end (inr (inr e))) = two (end e.0) (end e.1)
  split n p q u h (step x (inl e) d r) = two_step e.1 d (split n p q (suc x) (within p n u (suc x) e.1).1 r)
  split n p q u h (step x (inr (inl e)) d r) = absurd (not_yet n p q u (suc x) h e)
  split n p q u h (step x (inr (inr e)) d r) =
      two (end e.0) (step x e.1 d (stays n (joined p q) (n + positions p) q (keep_right n p q) (within q (n + positions p) 0 (suc x) e.1).1 r))

  both_of : (n : ℕ) (p q : Part) → ((s : List ℕ) → Runs n p 0 s → Text p s) → ((s : List ℕ) → Runs (n + positions p) q 0 s → Text q s)
      → {s : List ℕ} → Two n p q 0 s → Text (joined p q) s
  both_of n p q f g (two r t) = both p q _ _ (f _ r) (g _ t)

  -- ---- a repeat

  -- a run of its part, and perhaps more texts
  data Cut (k : Repeat) (n : ℕ) (p : Part) (u : ℕ) : List ℕ → Type 0 where
    whole : {s : List ℕ} → Runs n p u s → Cut k n p u s
    cut : {s t : List ℕ} → Runs n p u s → loops k ≡ true → Text (again k p) t → Cut k n p u (s ++ t)

  cut_step : {k : Repeat} {n : ℕ} {p : Part} {u b x : ℕ} {s : List ℕ} → Link n p u (suc x) → Holds at (suc x) b → Cut k n p (suc x) s → Cut k n p u (b ∷ s)
  cut_step {x = x} e d (whole r) = whole (step x e d r)
  cut_step {x = x} e d (cut r l t) = cut (step x e d r) l t

  module _ (k : Repeat) (n : ℕ) (p : Part) (text : (s : List ℕ) → Runs n p 0 s → Text p s) where
    again_of : {s : List ℕ} → Cut k n p 0 s → Text (again k p) s
    again_of (whole r) = once k p _ (text _ r)
    again_of (cut r l t) = more k p _ _ l (text _ r) t

    go_round : (x : ℕ) {s : List ℕ} → Runs n (again k p) (suc x) s → Cut k n p (suc x) s
    go_round x (end e) = whole (end e)
    go_round x (step y (inl e) d r) = cut_step e d (go_round y r)
    go_round x (step y (inr e) d r) = cut (end e.1.0) e.0 (again_of (cut_step e.1.1 d (go_round y r)))

  pub run_text : (p : Part) (n : ℕ) → Agree at n p → {s : List ℕ} → Run (Holds at) n p 0 s 0 → Text p s
  run_text (letter a) n g (end e) = absurd e
  run_text (letter a) n g (step {b = b} x e d (end f)) = one a b (ap (λ (c : Atom). holds c b) (sym (agree_one at n a g)) ∙ (rw e at d))
  run_text (letter a) n g (step x e d (step y f l r)) = absurd f
  run_text (either p q) n g (end (inl e)) = in_left p q _ (run_text p n (agree_left at n p q g) (end e))
  run_text (either p q) n g (end (inr e)) = in_right p q _ (run_text q (n + positions p) (agree_right at n p q g) (end e))
  run_text (either p q) n g (step x (inl e) d r) =
      in_left p q _ (run_text p n (agree_left at n p q g) (step x e d (stays n (either p q) n p (stay_left n p q) (within p n 0 (suc x) e).1 r)))
  run_text (either p q) n g (step x (inr e) d r) =
      in_right p q _
      (run_text q (n + positions p) (agree_right at n p q g) (step x e d (stays n (either p q) (n + positions p) q (stay_right n p q) (within q (n + positions p) 0 (suc x) e).1 r)))
  run_text (joined p q) n g r = both_of n p q (λ s r. run_text p n (agree_left at n p q g) r) (λ s r. run_text q (n + positions p) (agree_right at n p q g) r) (split n p q 0 tt r)
  run_text (again k p) n g (end (inl e)) = never k p e
  run_text (again k p) n g (end (inr e)) = once k p _ (run_text p n g (end e))
  run_text (again k p) n g (step x e d r) =
      let text : (s : List ℕ) → Runs n p 0 s → Text p s = λ s r. run_text p n g r in
      again_of k n p text (cut_step e d (go_round k n p text x r))
