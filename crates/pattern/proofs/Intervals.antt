-- An interval has the texts that POSIX gives it: those that are k texts of its atom, one after another, for each k that its bounds
-- allow. Each part that it is written out in allows certain k: a copy before a part moves both bounds up by one, and `?` lets the
-- lower one down to 0. Assumes nothing.
use mathlib.Core.Path.{◌≡◌, refl, sym, ◌∙◌, subst}
use mathlib.Core.Logic.{◌↔◌}
use mathlib.Core.Bool.{true, false, false≢true, true≢false}
use mathlib.Core.List.{List, append-nil}
use Prim.Native.Nat.{ℕ, zero, suc, ◌+◌, ◌-◌, ◌≤◌}
use native.Mathlib.Omega.{arith}
use Rattle.pattern.specs.Parts.{Repeat, optional, star, plus, skips, loops, Part, joined, again, Bounds, between, at_least, out_of_bounds, copies, nested, written_out}
use Rattle.pattern.specs.Texts.{Text, both, never, once, more, Times, none, next, Allows, Counted}
use Rattle.pattern.proofs.Written.{in_bounds, written_by}

abbrev counted : {p : Part} {b : Bounds} {s : List ℕ} (k : ℕ) → b.lower ≤ k → (b.endless ≡ false → k ≤ b.upper) → Times p k s → Counted p b s
counted k l m t = record { number = k; allowed = record { least = l; most = m }; times = t }

-- the texts of q are those that are k texts of p, for the k that b allows
record Counts (p : Part) (b : Bounds) (q : Part) : Type 0 where
  only : {s : List ℕ} → Text q s → Counted p b s
  all : {k : ℕ} {s : List ℕ} → Allows b k → Times p k s → Text q s

-- bounds that say the same allow the same
alike : (b c : Bounds) → b.lower ≡ c.lower → b.endless ≡ c.endless → (c.endless ≡ false → b.upper ≡ c.upper) → {k : ℕ} → Allows b k → Allows c k
alike b c l o u a = let h = a.least in record { least = omega arith; most = λ e. let m = a.most (o ∙ e) in let v = u e in omega arith }

same : {p q : Part} (b c : Bounds) → b.lower ≡ c.lower → b.endless ≡ c.endless → (c.endless ≡ false → b.upper ≡ c.upper) → Counts p b q → Counts p c q
same b c l o u h = record {
  only = λ x. let r = h.only x in record { number = r.number; allowed = alike b c l o u r.allowed; times = r.times };
  all = λ a t. h.all (alike c b (sym l) (sym o) (λ e. sym (u (sym o ∙ e))) a) t;
}

-- both bounds up by m
abbrev raised : ℕ → Bounds → Bounds
raised m b = record { lower = m + b.lower; upper = m + b.upper; endless = b.endless }

module _ {p : Part} where
  single : {s : List ℕ} → Text p s → Times p 1 s
  single {s} x = subst (λ (u : List ℕ). Times p 1 u) (append-nil s) (next x none)

  the_single : {s : List ℕ} → Times p 1 s → Text p s
  the_single (next {s = s} x none) = subst (λ (u : List ℕ). Text p u) (sym (append-nil s)) x

  itself : Counts p (between 1 1) p
  itself = record {
    only = λ x. counted 1 (omega arith) (λ e. omega arith) (single x);
    all = λ {k} {s} a t. let l = a.least in let m = a.most refl in let e : k ≡ 1 = omega arith in the_single (subst (λ (j : ℕ). Times p j s) e t);
  }

  -- a copy before q
  one_more : {b : Bounds} {q : Part} → Counts p b q → Counts p (raised 1 b) (joined p q)
  one_more {b} {q} h = record { only = parts; all = whole }
    where
      parts : {s : List ℕ} → Text (joined p q) s → Counted p (raised 1 b) s
      parts (both _ _ s t x y) =
          let r = h.only y in
          let l = r.allowed.least in
          counted (suc r.number) (omega arith) (λ e. let m = r.allowed.most e in omega arith) (next x r.times)

      whole : {k : ℕ} {s : List ℕ} → Allows (raised 1 b) k → Times p k s → Text (joined p q) s
      whole a none = absurd (let l = a.least in omega arith)
      whole a (next x y) = let l = a.least in both p q _ _ x (h.all (record { least = omega arith; most = λ e. let m = a.most e in omega arith }) y)

  copied : (m : ℕ) {q : Part} (b c : Bounds) → m + b.lower ≡ c.lower → b.endless ≡ c.endless → (c.endless ≡ false → m + b.upper ≡ c.upper)
      → Counts p b q → Counts p c (copies m p q)
  copied zero b c l o u h = same b c (omega arith) o (λ e. let v = u e in omega arith) h
  copied (suc m) b c l o u h =
      same (raised 1 (raised m b)) c (omega arith) o (λ e. let v = u e in omega arith) (one_more (copied m b (raised m b) refl refl (λ e. refl) h))

  -- `?`
  left_out : {n : ℕ} {q : Part} → Counts p (between 1 n) q → Counts p (between 0 n) (again optional q)
  left_out {n} {q} h = record { only = parts; all = whole }
    where
      parts : {s : List ℕ} → Text (again optional q) s → Counted p (between 0 n) s
      parts (never _ _ e) = counted 0 (omega arith) (λ e. omega arith) none
      parts (once _ _ s x) = let r = h.only x in counted r.number (omega arith) r.allowed.most r.times
      parts (more _ _ s t e x y) = absurd (false≢true e)

      whole : {k : ℕ} {s : List ℕ} → Allows (between 0 n) k → Times p k s → Text (again optional q) s
      whole a none = never optional q refl
      whole a (next x y) = once optional q _ (h.all (record { least = omega arith; most = a.most }) (next x y))

  optionals : (k : ℕ) → Counts p (between 0 (suc k)) (nested k p)
  optionals zero = left_out itself
  optionals (suc k) = left_out (same (raised 1 (between 0 (suc k))) (between 1 (suc (suc k))) refl refl (λ e. omega arith) (one_more (optionals k)))

  -- `*` from 0 on, `+` from 1 on
  rounds : (r : Repeat) (m : ℕ) → m ≤ 1 → (skips r ≡ true → m ≡ 0) → (m ≡ 0 → skips r ≡ true) → loops r ≡ true → Counts p (at_least m) (again r p)
  rounds r m l none_left none-taken goes_on = record { only = parts; all = λ a t. whole a.least t }
    where
      parts : {s : List ℕ} → Text (again r p) s → Counted p (at_least m) s
      parts (never _ _ e) = let z = none_left e in counted 0 (omega arith) (λ f. absurd (true≢false f)) none
      parts (once _ _ s x) = counted 1 l (λ f. absurd (true≢false f)) (single x)
      parts (more _ _ s t e x y) = let w = parts y in counted (suc w.number) (omega arith) (λ f. absurd (true≢false f)) (next x w.times)

      whole : {k : ℕ} {s : List ℕ} → m ≤ k → Times p k s → Text (again r p) s
      whole h none = never r p (none-taken (omega arith))
      whole h (next x none) = once r p _ (the_single (next x none))
      whole h (next x (next y z)) = more r p _ _ goes_on x (whole (omega arith) (next y z))

interval_counts : (b : Bounds) (p : Part) → out_of_bounds b ≡ false → Counts p b (written_out b p)
interval_counts b p e =
    let m = b.lower in
    let n = b.upper in
    let k = n - suc m in
    written_by (Counts p b) b p e
    (λ o z. same (at_least 0) b (sym z) (sym o) (λ f. absurd (true≢false (sym o ∙ f))) (rounds star 0 (omega arith) (λ f. refl) (λ f. refl) refl))
    (λ o z. copied (m - 1) (at_least 1) b (omega arith) (sym o) (λ f. absurd (true≢false (sym o ∙ f))) (rounds plus 1 (omega arith) (λ f. absurd (false≢true f)) (λ f. absurd (omega arith)) refl))
    (λ o z. let l = (in_bounds b e).some o in copied (n - 1) (between 1 1) b (omega arith) (sym o) (λ f. omega arith) itself)
    (λ o z. copied m (between 0 (suc k)) b (omega arith) (sym o) (λ f. omega arith) (optionals k))

pub interval_texts : (b : Bounds) (p : Part) (s : List ℕ) → out_of_bounds b ≡ false → Text (written_out b p) s ↔ Counted p b s
interval_texts b p s e = let h = interval_counts b p e in (λ x. h.only x, λ x. h.all x.allowed x.times)
