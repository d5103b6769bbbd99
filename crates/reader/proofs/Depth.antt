-- No two positions of an accepted pattern have more than 256 links. They have at most one more than repeats that go round lie within each
-- other, and of those each takes three bytes, but for the innermost, which may take two; there are 512 bytes at most. Copies of a part
-- lie beside each other, so that an interval is one more of them at most, and it takes three bytes by itself. Assumes nothing.
use mathlib.Core.Path.{◌≡◌, refl, sym, subst}
use mathlib.Core.Bool.{Bool, true, false, ◌&&◌, not, false≢true}
use mathlib.Core.List.{List, [], ◌∷◌, ◌++◌}
use Prim.Native.Nat.{ℕ, zero, suc, ◌+◌, ◌-◌, ◌*◌, ◌≤◌, ◌<◌, max, zero-le}
use Prim.Native.Char.{code}
use native.Mathlib.Nat.{zero-add}
use native.Mathlib.Omega.{arith}
use lib.Dec.{eqb}
use lib.IntN.{pos, neg_ℤ}
use lib.ListN.{length, get_or, drop, length-drop}
use borrow.Author.Tests.{eqb-true}
use Rattle.std.specs.Prelude.{if◌then◌else◌}
use Rattle.basics.specs.Bytes.{is_in}
use Rattle.basics.proofs.Tests.{and_parts, by_test, if_no, if_either}
use Rattle.graph.proofs.Links.{if_low}
use Rattle.pattern.specs.Parts.{Item, item, atom, Repeat, optional, star, plus, loops, Part, letter, either, joined, again, Bounds, between, at_least, out_of_bounds, copies, nested, written_out}
use Rattle.pattern.specs.Grammar.{Read, read, broken, peek, special, class_letter, class_letter_long, Items, items_read, items_from, Credit, credit, no_credit, credit_digit, read_credit, with_credit, read_class, read_letter, Bound, bound, is_digit, digit_more, read_bound, Interval, interval, no_interval, read_interval, with_interval, repeated, goes_on, pattern_from, branch_from, piece_from, read_pattern, pattern_part}
use Rattle.pattern.specs.Positions.{positions, is_first, is_last, links, links_of}
use Rattle.pattern.specs.Refusals.{pattern_refusal}
use Rattle.pattern.proofs.Accepted.{refusal_none}
use Rattle.pattern.proofs.Written.{written_refused, written_by}
use Rattle.pattern.proofs.Doubled.{not_both, over_alone}

-- how many repeats that go round lie within each other
abbrev pub depth : Part → ℕ
depth (letter a) = 0
depth (either p q) = max (depth p) (depth q)
depth (joined p q) = max (depth p) (depth q)
depth (again k p) = (if loops k then 1 else 0) + depth p

-- ---- links by depth

-- some of one or of the other
one_of : (a b k : ℕ) → (1 ≤ a → 1 ≤ b → ⊥) → a ≤ k → b ≤ k → a + b ≤ k
one_of zero b k h l m = omega arith
one_of (suc a) zero k h l m = omega arith
one_of (suc a) (suc b) k h l m = absurd (h (omega arith) (omega arith))

-- a turn is one link at most, and none where the repeat does not go round
one_turn : (a b : Bool) → (if a && b then 1 else 0) ≤ (if a then 1 else 0)
one_turn true b = if_low b
one_turn false b = zero-le

links_deep : (p : Part) (n x y : ℕ) → links n p x y ≤ suc (depth p)
links_deep (letter a) n x y = zero-le
links_deep (either p q) n x y =
    let l = links_deep p n x y in
    let r = links_deep q (n + positions p) x y in
    one_of (links n p x y) (links (n + positions p) q x y) (suc (max (depth p) (depth q))) (not_both n p q x y) (omega arith) (omega arith)
links_deep (joined p q) n x y =
    let over = is_last n p x && is_first (n + positions p) q y in
    let l = links_deep p n x y in
    let r = links_deep q (n + positions p) x y in
    by_test over
    (λ t. let z = over_alone n p q x y t in let a = z.0 in let b = z.1 in let c = if_low over in omega arith)
    (λ t.
    let c = if_no {A = ℕ} 1 0 over t in
    let m = one_of (links n p x y) (links (n + positions p) q x y) (suc (max (depth p) (depth q))) (not_both n p q x y) (omega arith) (omega arith) in
    omega arith)
links_deep (again k p) n x y = let l = links_deep p n x y in let c = one_turn (loops k) (is_last n p x && is_first n p y) in omega arith

-- ---- copies of a part are no deeper than it is

copies_deep : (m : ℕ) (p q : Part) → depth p ≤ depth q → depth (copies m p q) ≡ depth q
copies_deep zero p q l = refl
copies_deep (suc m) p q l = let h = copies_deep m p q l in omega arith

nested_deep : (k : ℕ) (p : Part) → depth (nested k p) ≡ depth p
nested_deep zero p = zero-add (depth p)
nested_deep (suc k) p = let h = nested_deep k p in omega arith

written_deep : (b : Bounds) (p : Part) → depth (written_out b p) ≤ suc (depth p)
written_deep b p =
    by_test (out_of_bounds b) (λ e. subst (λ (x : Part). depth x ≤ suc (depth p)) (sym (written_refused b p e)) (omega arith))
    (λ e.
    written_by (λ x. depth x ≤ suc (depth p)) b p e (λ o z. omega arith) (λ o z. omega (arith, copies_deep (b.lower - 1) p (again plus p) (omega arith)))
    (λ o z. omega (arith, copies_deep (b.upper - 1) p p (omega arith)))
    (λ o z. let k = b.upper - suc b.lower in let n = nested_deep k p in omega (arith, copies_deep b.lower p (nested k p) (omega arith))))

-- ---- depth by bytes: what is read of a text

pub drop_low : (k : ℕ) (s : List ℕ) → length (drop k s) ≤ length s
drop_low k s = let e = length-drop k s in omega arith

-- a byte that is not 0 is there
pub peek_some : (s : List ℕ) (b : ℕ) → 1 ≤ b → eqb (peek s) b ≡ true → 1 ≤ length s
peek_some [] b l e = absurd (let z = eqb-true 0 b e in omega arith)
peek_some (c ∷ s) b l e = omega arith

-- no more bytes are left than n, and no repeat was read
abbrev Left : ℕ → Read → Type 0
Left n r = (length r.rest ≤ n) × (depth r.part ≡ 0)

items_left : (f : ℕ) (is : List Item) (s : List ℕ) → length (items_from f is s).rest ≤ length s
items_left zero is s = zero-le
items_left (suc f) is s =
    let a = class_letter s in
    let t = drop (class_letter_long s) s in
    let b = class_letter (drop 1 t) in
    let u = drop (suc (class_letter_long (drop 1 t))) t in
    let P : Items → Type 0 = λ x. length x.rest ≤ length s in
    let lt = drop_low (class_letter_long s) s in
    let lu = drop_low (suc (class_letter_long (drop 1 t))) t in
    let more = items_left f in
    if_either P (items_read (eqb (peek s) (code "]") && not (eqb (length is) 0)) is (drop 1 s))
    (if eqb (peek t) (code "-") then (if eqb b 0 then items_read false [] [] else items_from f (is ++ (item (a - 1) (b - 1) ∷ [])) u)
    else items_from f (is ++ (item (a - 1) (a - 1) ∷ [])) t) (eqb a 0) (λ e. drop_low 1 s)
    (λ e.
    if_either P (if eqb b 0 then items_read false [] [] else items_from f (is ++ (item (a - 1) (b - 1) ∷ [])) u) (items_from f (is ++ (item (a - 1) (a - 1) ∷ [])) t) (eqb (peek t) (code "-"))
    (λ d. if_either P (items_read false [] []) (items_from f (is ++ (item (a - 1) (b - 1) ∷ [])) u) (eqb b 0) (λ c. zero-le) (λ c. let l = more (is ++ (item (a - 1) (b - 1) ∷ [])) u in omega arith))
    (λ d. let l = more (is ++ (item (a - 1) (a - 1) ∷ [])) t in omega arith))

credit_rest : (s : List ℕ) → length (read_credit s).rest ≤ length s
credit_rest s =
    let d = get_or s 1 0 in
    let e = get_or s 2 0 in
    let P : Credit → Type 0 = λ c. length c.rest ≤ length s in
    let on = credit (pos (d - code "0")) (drop 2 s) in
    let off = credit (neg_ℤ (pos (e - code "0"))) (drop 3 s) in
    let third = if eqb d (code "-") && credit_digit e then off else no_credit in
    if_either P (credit (pos 0) s) (if credit_digit d then on else third) (not (eqb (peek s) (code "="))) (λ f. omega arith)
    (λ f. if_either P on third (credit_digit d) (λ h. drop_low 2 s) (λ h. if_either P off no_credit (eqb d (code "-") && credit_digit e) (λ k. drop_low 3 s) (λ k. zero-le)))

credit_left : (o : Bool) (is : List Item) (s : List ℕ) → Left (length s) (with_credit o is s)
credit_left o is s =
    let c = read_credit s in
    if_either (Left (length s)) (read (letter (atom o is c.credit)) c.rest) broken c.good (λ e. (credit_rest s, refl)) (λ e. (zero-le, refl))

class_left : (s : List ℕ) → Left (length s) (read_class s)
class_left s =
    let o = eqb (peek s) (code "^") in
    let t = if o then drop 1 s else s in
    let x = items_from (suc (length s)) [] t in
    let lt : length t ≤ length s = if_either (λ (z : List ℕ). length z ≤ length s) (drop 1 s) s o (λ e. drop_low 1 s) (λ e. omega arith) in
    let li = items_left (suc (length s)) [] t in
    if_either (Left (length s)) (with_credit o x.items x.rest) broken x.good (λ e. let l = credit_left o x.items x.rest in (omega arith, l.1)) (λ e. (zero-le, refl))

letter_left : (b : ℕ) (s : List ℕ) → Left (length s) (read_letter (b ∷ s))
letter_left b s =
    let P : Read → Type 0 = Left (length s) in
    let own = with_credit false (item b b ∷ []) s in
    let escaped = with_credit false (item (peek s) (peek s) ∷ []) (drop 1 s) in
    let last = if is_in b special then broken else own in
    let third = if eqb b (code "\\") then (if is_in (peek s) special then escaped else broken) else last in
    let second = if eqb b (code ".") then with_credit true [] s else third in
    if_either P (read_class s) second (eqb b (code "[")) (λ e. class_left s)
    (λ e. if_either P (with_credit true [] s) third (eqb b (code ".")) (λ f. credit_left true [] s)
    (λ f. if_either P (if is_in (peek s) special then escaped else broken) last (eqb b (code "\\"))
    (λ d. if_either P escaped broken (is_in (peek s) special) (λ c. let l = credit_left false (item (peek s) (peek s) ∷ []) (drop 1 s) in let m = drop_low 1 s in (omega arith, l.1)) (λ c. (zero-le, refl)))
    (λ d. if_either P broken own (is_in b special) (λ c. (zero-le, refl)) (λ c. credit_left false (item b b ∷ []) s))))

-- ---- patterns, branches, pieces

-- an atom, to which a repeat can still be added; and any part
abbrev Atomic : List ℕ → Read → Type 0
Atomic s a = a.good ≡ true → 3 * depth a.part + suc (length a.rest) ≤ length s

abbrev pub Deep : List ℕ → Read → Type 0
Deep s a = a.good ≡ true → (length a.rest < length s) × (3 * depth a.part + length a.rest ≤ suc (length s))

letter_atomic : (s : List ℕ) → Atomic s (read_letter s)
letter_atomic [] g = absurd (false≢true g)
letter_atomic (b ∷ s) g = let l = letter_left b s in let d = l.1 in omega arith

low_turn : (k : Repeat) → (if loops k then 1 else 0) ≤ 1
low_turn k = if_low (loops k)

turned : (s : List ℕ) (a : Read) (k : Repeat) (c : ℕ) → 1 ≤ c → Atomic s a → (a.good && eqb (peek a.rest) c) ≡ true → Deep s (read (again k a.part) (drop 1 a.rest))
turned s a k c l h e g =
    let w = and_parts a.good (eqb (peek a.rest) c) e in
    let m = h w.0 in
    let n = peek_some a.rest c l w.1 in
    let d = length-drop 1 a.rest in
    let o = low_turn k in
    (omega arith, omega arith)

-- a bound takes no byte back, and an interval takes one at least
bound_left : (b : Bound) → length (digit_more b).rest ≤ length b.rest
bound_left b = if_either (λ (x : Bound). length x.rest ≤ length b.rest) (bound (b.value * 10 + (peek b.rest - code "0")) (drop 1 b.rest)) b (is_digit (peek b.rest)) (λ e. drop_low 1 b.rest) (λ e. omega arith)

bounds_left : (s : List ℕ) → length (read_bound s).rest ≤ length s
bounds_left s =
    let one = digit_more (bound 0 s) in
    let two = digit_more one in
    let x = bound_left (bound 0 s) in
    let y = bound_left one in
    let z = bound_left two in
    omega arith

interval_left : (s : List ℕ) → length (read_interval s).rest ≤ length s
interval_left s =
    let m = read_bound s in
    let t = drop 1 m.rest in
    let n = read_bound t in
    let P : Interval → Type 0 = λ x. length x.rest ≤ length s in
    let lm = bounds_left s in
    let lt = drop_low 1 m.rest in
    let ln = bounds_left t in
    let fifth = if is_digit (peek t) && eqb (peek n.rest) (code "}") then interval (between m.value n.value) (drop 1 n.rest) else no_interval in
    let fourth = if eqb (peek t) (code "}") then interval (at_least m.value) (drop 1 t) else fifth in
    let third = if not (eqb (peek m.rest) (code ",")) then no_interval else fourth in
    let second = if eqb (peek m.rest) (code "}") then interval (between m.value m.value) t else third in
    if_either P no_interval second (not (is_digit (peek s))) (λ e. zero-le)
    (λ e. if_either P (interval (between m.value m.value) t) third (eqb (peek m.rest) (code "}")) (λ f. omega arith)
    (λ f. if_either P no_interval fourth (not (eqb (peek m.rest) (code ","))) (λ g. zero-le)
    (λ g. if_either P (interval (at_least m.value) (drop 1 t)) fifth (eqb (peek t) (code "}")) (λ h. let l = drop_low 1 t in omega arith)
    (λ h. if_either P (interval (between m.value n.value) (drop 1 n.rest)) no_interval (is_digit (peek t) && eqb (peek n.rest) (code "}")) (λ k. let l = drop_low 1 n.rest in omega arith) (λ k. zero-le)))))

times : (s : List ℕ) (a : Read) → Atomic s a → (a.good && eqb (peek a.rest) (code "{")) ≡ true → Deep s (with_interval a.part (read_interval (drop 1 a.rest)))
times s a h e =
    let w = and_parts a.good (eqb (peek a.rest) (code "{")) e in
    let m = h w.0 in
    let n = peek_some a.rest (code "{") (omega arith) w.1 in
    let d = length-drop 1 a.rest in
    let i = read_interval (drop 1 a.rest) in
    let l = interval_left (drop 1 a.rest) in
    if_either (Deep s) (read (written_out i.bounds a.part) i.rest) broken i.good (λ f g. let o = written_deep i.bounds a.part in (omega arith, omega arith)) (λ f g. absurd (false≢true g))

repeated_deep : (s : List ℕ) (a : Read) → Atomic s a → Deep s (repeated a)
repeated_deep s a h =
    let b = peek a.rest in
    let r = drop 1 a.rest in
    let fourth = if a.good && eqb b (code "{") then with_interval a.part (read_interval r) else a in
    let third = if a.good && eqb b (code "+") then read (again plus a.part) r else fourth in
    let second = if a.good && eqb b (code "*") then read (again star a.part) r else third in
    if_either (Deep s) (read (again optional a.part) r) second (a.good && eqb b (code "?")) (turned s a optional (code "?") (omega arith) h)
    (λ d. if_either (Deep s) (read (again star a.part) r) third (a.good && eqb b (code "*")) (turned s a star (code "*") (omega arith) h)
    (λ e. if_either (Deep s) (read (again plus a.part) r) fourth (a.good && eqb b (code "+")) (turned s a plus (code "+") (omega arith) h)
    (λ f. if_either (Deep s) (with_interval a.part (read_interval r)) a (a.good && eqb b (code "{")) (times s a h)
    (λ g k. let m = h k in (omega arith, omega arith)))))

-- one part, and another after it, however they are put together
after : (s t : List ℕ) (a b : Read) (part : Part) → Deep s a → a.good ≡ true → length t ≤ length a.rest → Deep t b → b.good ≡ true → depth part ≡ max (depth a.part) (depth b.part)
    → Deep s (read part b.rest)
after s t a b part h e l k f d g = let m = h e in let n = k f in (omega arith, omega arith)

pub record Parts (f : ℕ) (s : List ℕ) : Type 0 where
  pub pattern : Deep s (pattern_from f s)
  pub branch : Deep s (branch_from f s)
  pub piece : Deep s (piece_from f s)

-- one level up, from what holds of every text
module _ (f : ℕ) (less : (s : List ℕ) → Parts f s) (s : List ℕ) where
  pattern_deep : Deep s (pattern_from (suc f) s)
  pattern_deep =
      let a = branch_from f s in
      let t = drop 1 a.rest in
      let b = pattern_from f t in
      let h = (less s).branch in
      if_either (Deep s) (if b.good then read (either a.part b.part) b.rest else broken) a (a.good && eqb (peek a.rest) (code "|"))
      (λ e. if_either (Deep s) (read (either a.part b.part) b.rest) broken b.good
      (λ g. after s t a b (either a.part b.part) h (and_parts a.good (eqb (peek a.rest) (code "|")) e).0 (drop_low 1 a.rest) (less t).pattern g refl)
      (λ g e. absurd (false≢true e))) (λ e. h)

  branch_deep : Deep s (branch_from (suc f) s)
  branch_deep =
      let a = piece_from f s in
      let b = branch_from f a.rest in
      let h = (less s).piece in
      if_either (Deep s) (if b.good then read (joined a.part b.part) b.rest else broken) a (a.good && goes_on a.rest)
      (λ e. if_either (Deep s) (read (joined a.part b.part) b.rest) broken b.good
      (λ g. after s a.rest a b (joined a.part b.part) h (and_parts a.good (goes_on a.rest) e).0 (omega arith) (less a.rest).branch g refl)
      (λ g e. absurd (false≢true e))) (λ e. h)

  piece_deep : Deep s (piece_from (suc f) s)
  piece_deep =
      let a = pattern_from f (drop 1 s) in
      let closed = a.good && eqb (peek a.rest) (code ")") in
      if_either (Deep s) (if closed then repeated (read a.part (drop 1 a.rest)) else broken) (repeated (read_letter s)) (eqb (peek s) (code "("))
      (λ e. if_either (Deep s) (repeated (read a.part (drop 1 a.rest))) broken closed
      (λ c. repeated_deep s (read a.part (drop 1 a.rest))
      (λ g.
      let w = and_parts a.good (eqb (peek a.rest) (code ")")) c in
      let m = (less (drop 1 s)).pattern w.0 in
      let l = peek_some s (code "(") (omega arith) e in
      let k = peek_some a.rest (code ")") (omega arith) w.1 in
      let d = length-drop 1 s in
      let r = length-drop 1 a.rest in
      omega arith))
      (λ c e. absurd (false≢true e))) (λ e. repeated_deep s (read_letter s) (letter_atomic s))

pub parts : (f : ℕ) (s : List ℕ) → Parts f s
parts zero s = record { pattern = λ e. absurd (false≢true e); branch = λ e. absurd (false≢true e); piece = λ e. absurd (false≢true e) }
parts (suc f) s = let less = parts f in record { pattern = pattern_deep f less s; branch = branch_deep f less s; piece = piece_deep f less s }

-- ---- an accepted pattern

pub links_few : (s : List ℕ) → pattern_refusal s ≡ 0 → (u i : ℕ) → links_of (pattern_part s) u i ≤ 256
links_few s e zero i = let l = if_low (is_first 0 (pattern_part s) i) in omega arith
links_few s e (suc x) i =
    let a = refusal_none s e in
    let short = a.short in
    let g = (and_parts (read_pattern s).good (eqb (length (read_pattern s).rest) 0) a.follows_grammar).0 in
    let d = (parts (suc (3 * suc (length s))) s).pattern g in
    let l = links_deep (pattern_part s) 0 (suc x) i in
    omega arith
