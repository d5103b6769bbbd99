-- The input cut into its patterns: a pattern ends at the next byte 10 or at the input's end. Assumes nothing.
use mathlib.Core.Path.{◌≡◌, sym, ap, ap₂, ◌∙◌, subst}
use mathlib.Core.Bool.{Bool, not}
use mathlib.Core.List.{List, [], ◌∷◌, ◌++◌, append_assoc, append-nil}
use Prim.Native.Nat.{ℕ, suc, ◌+◌, ◌-◌, ◌≤◌, ◌<◌}
use native.Mathlib.Omega.{arith}
use lib.Dec.{eqb, ltb}
use lib.ListN.{length, take, drop, length-drop, length-append}
use lib.Seq.{take_all}
use borrow.Author.Tests.{ltb-false}
use Rattle.std.specs.Prelude.{if◌then◌else◌, Option, Some, None, unwrap_or}
use Rattle.std.specs.List.{position_or_len}
use Rattle.std.proofs.lemmas.List.{drop-drop}
use Rattle.basics.proofs.Tests.{by_test, if_yes, if_no, if_either}
use Rattle.lines.specs.Lines.{patterns_from, patterns_of, EndsAt}

abbrev pub is_newline : ℕ → Bool
is_newline b = eqb b 10

-- where the first pattern of an input ends
abbrev pub first_end : List ℕ → ℕ
first_end s = position_or_len is_newline s

first_within : (s : List ℕ) → first_end s ≤ length s
first_within [] = omega arith
first_within (b ∷ s) = let h = first_within s in if_either (λ (k : ℕ). k ≤ suc (length s)) (1 + first_end s) 0 (not (eqb b 10)) (λ e. omega arith) (λ e. omega arith)

-- p are the bytes of the pattern so far
cut_first : (p s : List ℕ) → 0 < length p + length s → patterns_from p s ≡ (p ++ take (first_end s) s) ∷ patterns_of (drop (first_end s + 1) s)
unfolding patterns_from
cut_first [] [] h = absurd (omega arith)
cut_first (b ∷ p) [] h = ap (λ (q : List ℕ). q ∷ []) (sym (append-nil (b ∷ p)))
cut_first p (b ∷ s) h =
    let more : patterns_from (p ++ (b ∷ [])) s ≡ (p ++ (b ∷ []) ++ take (first_end s) s) ∷ patterns_of (drop (first_end s + 1) s) = cut_first (p ++ (b ∷ [])) s (simp length-append (omega arith)) in
    by_test (eqb b 10)
    (λ e.
    let k : first_end (b ∷ s) ≡ 0 = if_no (1 + first_end s) 0 (not (eqb b 10)) (ap not e) in
    if_yes (p ∷ patterns_from [] s) (patterns_from (p ++ (b ∷ [])) s) (eqb b 10) e
    ∙ ap (λ (q : List ℕ). q ∷ patterns_from [] s) (sym (append-nil p))
    ∙ ap (λ (k : ℕ). (p ++ take k (b ∷ s)) ∷ patterns_of (drop (k + 1) (b ∷ s))) (sym k))
    (λ e.
    let k : first_end (b ∷ s) ≡ 1 + first_end s = if_yes (1 + first_end s) 0 (not (eqb b 10)) (ap not e) in
    let m : suc (first_end s) ≡ first_end (b ∷ s) = omega arith in
    let n : suc (first_end s + 1) ≡ first_end (b ∷ s) + 1 = omega arith in
    if_no (p ∷ patterns_from [] s) (patterns_from (p ++ (b ∷ [])) s) (eqb b 10) e
    ∙ more
    ∙ ap (λ (q : List ℕ). q ∷ patterns_of (drop (first_end s + 1) s)) (append_assoc p (b ∷ []) (take (first_end s) s))
    ∙ ap₂ (λ (i j : ℕ). (p ++ take i (b ∷ s)) ∷ patterns_of (drop j (b ∷ s))) m n)

-- in the input s, the pattern that begins at byte a
ends_first : (s : List ℕ) (a : ℕ) → a < length s → EndsAt s a (a + first_end (drop a s))
ends_first s a h =
    let k = first_end (drop a s) in
    let l : length (drop a s) ≡ length s - a = length-drop a s in
    let w : k ≤ length (drop a s) = first_within (drop a s) in
    let e : k ≡ a + k - a = omega arith in
    let f : a + (k + 1) ≡ a + k + 1 = omega arith in
    record {
      after = omega arith;
      inside = omega arith;
      cuts = cut_first [] (drop a s) (omega arith)
          ∙ ap₂ (λ (i : ℕ) (t : List ℕ). take i (drop a s) ∷ patterns_of t) e (drop-drop (k + 1) a s ∙ ap (λ (i : ℕ). drop i s) f);
    }

-- as the code looks for it, in the rest of the input
module _ (s : List ℕ) (a : ℕ) where
  abbrev pub rest : List ℕ
  rest = take (length s - a) (drop a s)

  rest_is : rest ≡ drop a s
  rest_is = let l : length (drop a s) ≡ length s - a = length-drop a s in take_all (length s - a) (drop a s) (omega arith)

  found : (o : Option ℕ) (len : ℕ) → o ≡ (if ltb (first_end rest) (length rest) then Some (first_end rest) else None) → len ≡ unwrap_or o (length rest) → len ≡ first_end rest
  found o len p q =
      let within = first_within rest in
      by_test (ltb (first_end rest) (length rest))
      (λ e. q ∙ ap (λ (x : Option ℕ). unwrap_or x (length rest)) (p ∙ if_yes {A = Option ℕ} (Some (first_end rest)) None (ltb (first_end rest) (length rest)) e))
      (λ e.
      let all = ltb-false (first_end rest) (length rest) e in
      let f : len ≡ length rest = q ∙ ap (λ (x : Option ℕ). unwrap_or x (length rest)) (p ∙ if_no {A = Option ℕ} (Some (first_end rest)) None (ltb (first_end rest) (length rest)) e) in
      omega arith)

  pub ends_found : (o : Option ℕ) (len : ℕ) → a < length s → o ≡ (if ltb (first_end rest) (length rest) then Some (first_end rest) else None) → len ≡ unwrap_or o (length rest) → EndsAt s a (a + len)
  ends_found o len h p q = subst (λ (k : ℕ). EndsAt s a (a + k)) (sym (found o len p q ∙ ap first_end rest_is)) (ends_first s a h)
