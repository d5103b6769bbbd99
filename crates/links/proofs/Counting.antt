-- Numbers of links: what one more and k more are, and the two loops that count. A turn of either takes one member off what is left
-- and changes nothing of what the numbers will be in the end. Assumes nothing.
use mathlib.Core.Path.{◌≡◌, refl, sym, ap, ap₂, ◌∙◌, subst}
use mathlib.Core.Logic.{⊎_elim}
use mathlib.Core.Bool.{Bool, true, false, ◌&&◌, ◌||◌}
use mathlib.Core.List.{List}
use Prim.Native.Nat.{ℕ, zero, suc, ◌+◌, ◌<◌, ◌≤◌}
use native.Mathlib.Nat.{add-zero, add-suc}
use native.Mathlib.Omega.{arith}
use lib.Dec.{eqb, ltb}
use lib.ListN.{length, get_or, set, replicate}
use lib.Seq.{get_or-set_same, get_or-set_other}
use borrow.Author.Tests.{ltb-true, lt-ltb, le-ltb, eq-eqb, ne_eqb}
use Rattle.std.specs.Prelude.{if◌then◌else◌}
use Rattle.basics.proofs.Tests.{by_equal, le_or_lt, if_yes, if_no, if_either}
use Rattle.basics.proofs.Lists.{zeros}
use Rattle.basics.proofs.Folds.{less_here, less_other}
use Rattle.bits.specs.Bits.{has_bit, Taken}
use Rattle.bits.proofs.Laws.{has_none}
use Rattle.links.specs.Rows.{kept, Marks, Adds, Linked, entry, number, one_more, after, further, Counts, NoneCounted, Further}
use Rattle.links.proofs.Linking.{adds_both, adds_linked}

-- ---- one more, and k more

pub after_plus : (j k n : ℕ) → after (j + k) n ≡ after k (after j n)
after_plus j zero n = ap (λ (i : ℕ). after i n) (add-zero j)
after_plus j (suc k) n = ap (λ (i : ℕ). after i n) (add-suc j k) ∙ ap one_more (after_plus j k n)

-- from none on, up to 256
pub after_few : (k : ℕ) → k ≤ 256 → after k 0 ≡ k
after_few zero h = refl
after_few (suc k) h = ap one_more (after_few k (omega arith)) ∙ if_yes (suc k) k (ltb k 256) (lt-ltb k 256 (omega arith))

more_yes : (n : ℕ) → n < 256 → one_more n ≡ suc n
more_yes n h = if_yes (suc n) n (ltb n 256) (lt-ltb n 256 h)

more_no : (n : ℕ) → 256 ≤ n → one_more n ≡ n
more_no n h = if_no (suc n) n (ltb n 256) (le-ltb n 256 h)

-- ---- links more, one set of them after the other

pub counts_both : (r₀ m₀ r₁ m₁ r₂ m₂ : List ℕ) (g h : ℕ → ℕ → ℕ) → Counts r₀ m₀ g r₁ m₁ → Counts r₁ m₁ h r₂ m₂ → Counts r₀ m₀ (λ a b. g a b + h a b) r₂ m₂
counts_both r₀ m₀ r₁ m₁ r₂ m₂ g h p q a b k l = q a b k l ∙ ap (after (h a b)) (p a b k l) ∙ sym (after_plus (g a b) (h a b) (number r₀ m₀ a b))

-- is there one of the sum, and one on a condition
some_both : (j k : ℕ) → ltb 0 (j + k) ≡ (ltb 0 j || ltb 0 k)
some_both j k =
    ⊎_elim
    (λ h. ap (λ (n : ℕ). ltb 0 n) (none j k (omega arith)) ∙ sym (ap (λ (t : Bool). t || ltb 0 k) (le-ltb 0 j h)))
    (λ h. lt-ltb 0 (j + k) (omega arith) ∙ sym (ap (λ (t : Bool). t || ltb 0 k) (lt-ltb 0 j h))) (le_or_lt j 0)
  where
    none : (j k : ℕ) → j ≡ 0 → j + k ≡ k
    none j k z = omega arith

some_if : (t : Bool) → ltb 0 (if t then 1 else 0) ≡ t
some_if true = refl
some_if false = refl

-- in the rows, the pairs that have one
pub adds_more : (r₀ r₁ r₂ : List ℕ) (g h : ℕ → ℕ → ℕ) → Adds r₀ (λ a b. ltb 0 (g a b)) r₁ → Adds r₁ (λ a b. ltb 0 (h a b)) r₂ → Adds r₀ (λ a b. ltb 0 (g a b + h a b)) r₂
adds_more r₀ r₁ r₂ g h p q a b =
    adds_both r₀ r₁ r₂ (λ x y. ltb 0 (g x y)) (λ x y. ltb 0 (h x y)) p q a b
    ∙ ap (λ (u : Bool). has_bit (get_or r₀ a 0) b || ((kept a && kept b) && u)) (sym (some_both (g a b) (h a b)))

-- one from each that passes f to each that passes g
module _ (rows rows' : List ℕ) (lasts firsts : ℕ) (f g : ℕ → Bool) (w : Linked rows lasts firsts rows') (p : Marks lasts f) (q : Marks firsts g) where
  pub adds_one : Adds rows (λ a b. ltb 0 (if f a && g b then 1 else 0)) rows'
  adds_one a b = adds_linked rows rows' lasts firsts f g w p q a b ∙ ap (λ (u : Bool). has_bit (get_or rows a 0) b || ((kept a && kept b) && u)) (sym (some_if (f a && g b)))

  -- where none of them is linked yet, no number changes
  pub counts_new : (more : List ℕ) → ((a b : ℕ) → kept a ≡ true → kept b ≡ true → (f a && g b) ≡ true → number rows more a b ≡ 0) → Counts rows more (λ a b. if f a && g b then 1 else 0) rows' more
  counts_new more new a b k l =
      ap (λ (u : Bool). (if u then 1 else 0) + get_or more (entry a b) 0) (adds_linked rows rows' lasts firsts f g w p q a b ∙ ap₂ (λ (u v : Bool). has_bit (get_or rows a 0) b || ((u && v) && (f a && g b))) k l)
      ∙ first_link (has_bit (get_or rows a 0) b) (f a && g b) (get_or more (entry a b) 0) (new a b k l)
    where
      first_link : (r t : Bool) (n : ℕ) → (t ≡ true → (if r then 1 else 0) + n ≡ 0) → (if r || t then 1 else 0) + n ≡ after (if t then 1 else 0) ((if r then 1 else 0) + n)
      first_link true true n h = absurd (let z = h refl in omega arith)
      first_link false true n h = let z : 0 + n ≡ 0 = h refl in omega (arith, more_yes (0 + n) (omega arith))
      first_link true false n h = refl
      first_link false false n h = refl

pub counts_one : (rows more rows' more' : List ℕ) (lasts firsts : ℕ) (f g : ℕ → Bool) → Counts rows more (λ a b. if has_bit lasts a && has_bit firsts b then 1 else 0) rows' more' → Marks lasts f → Marks firsts g
    → Counts rows more (λ a b. if f a && g b then 1 else 0) rows' more'
counts_one rows more rows' more' lasts firsts f g w p q a b k l =
    w a b k l
    ∙ ap₂ (λ (u v : Bool). after (if u && v then 1 else 0) (number rows more a b)) (p a ∙ ap (λ (t : Bool). t && f a) k) (q b ∙ ap (λ (t : Bool). t && g b) l)

-- ---- no links before

pub none_linked : (j : ℕ) (more : List ℕ) → NoneCounted more → (a b : ℕ) → number (replicate j 0) more a b ≡ 0
none_linked j more e a b = ap₂ (λ (t : Bool) (n : ℕ). (if t then 1 else 0) + n) (ap (λ (n : ℕ). has_bit n b) (zeros j a) ∙ has_none b) (e (entry a b))

pub counts_alone : (j : ℕ) (rows more more' : List ℕ) (g : ℕ → ℕ → ℕ) → NoneCounted more → Counts (replicate j 0) more g rows more' → (a b : ℕ) → kept a ≡ true → kept b ≡ true → number rows more' a b ≡ after (g a b) 0
counts_alone j rows more more' g e c a b x y = c a b x y ∙ ap (after (g a b)) (none_linked j more e a b)

-- ---- one link more beyond the first, to one member of a set at a time

-- what an entry is once those left have one more
abbrev pub to_further : List ℕ → ℕ → ℕ → ℕ → ℕ → ℕ
to_further more a left x y = if eqb a x && has_bit left y then further (get_or more (entry x y) 0) else get_or more (entry x y) 0

pub further_turn : (more : List ℕ) (a left t others v : ℕ) → length more ≡ 3721 → a < 61 → t < 61 → Taken has_bit (λ (m : ℕ). m) left t others → v ≡ further (get_or more (entry a t) 0)
    → (x y : ℕ) → kept y ≡ true → to_further (set more (entry a t) v) a others x y ≡ to_further more a left x y
further_turn more a left t others v size small low s is x y k =
    let within : y < 61 = ltb-true y 61 k in
    by_equal a x
    (λ z.
    by_equal y t
    (λ w. subst (λ (i : ℕ). to_further (set more (entry a t) v) a others i y ≡ to_further more a left i y) z
    (subst (λ (j : ℕ). to_further (set more (entry a t) v) a others a j ≡ to_further more a left a j) (sym w) here))
    (λ d. other x y (λ q. d (omega arith)) (ap (λ (u : Bool). eqb a x && u) (less_other (has_bit left) (has_bit others) t s.others y (λ q. d (sym q))))))
    (λ d. other x y (λ q. d (omega arith)) (ap (λ (u : Bool). u && has_bit others y) (ne_eqb a x d) ∙ sym (ap (λ (u : Bool). u && has_bit left y) (ne_eqb a x d))))
  where
    here : to_further (set more (entry a t) v) a others a t ≡ to_further more a left a t
    here =
        ap₂ (λ (u : Bool) (n : ℕ). if eqb a a && u then further n else n) (less_here (has_bit left) (has_bit others) t s.others) (get_or-set_same more (entry a t) v 0 (omega arith) ∙ is)
        ∙ ap (λ (u : Bool). if u && false then further (further (get_or more (entry a t) 0)) else further (get_or more (entry a t) 0)) (eq-eqb a a refl)
        ∙ sym (ap₂ (λ (u w : Bool). if u && w then further (get_or more (entry a t) 0) else get_or more (entry a t) 0) (eq-eqb a a refl) s.least.here)

    other : (x y : ℕ) → (entry x y ≡ entry a t → ⊥) → (eqb a x && has_bit others y) ≡ (eqb a x && has_bit left y) → to_further (set more (entry a t) v) a others x y ≡ to_further more a left x y
    other x y d e = ap₂ (λ (u : Bool) (n : ℕ). if u then further n else n) e (get_or-set_other more (entry a t) (entry x y) v 0 d)

pub further_end : (more : List ℕ) (a left : ℕ) → ((y : ℕ) → has_bit left y ≡ false) → (x y : ℕ) → get_or more (entry x y) 0 ≡ to_further more a left x y
further_end more a left z x y =
    sym (if_no (further (get_or more (entry x y) 0)) (get_or more (entry x y) 0) (eqb a x && has_bit left y) (none (eqb a x) (has_bit left y) (z y)))
  where
    none : (u w : Bool) → w ≡ false → (u && w) ≡ false
    none true w e = e
    none false w e = refl

-- entries that are bytes stay so
pub further_small : (more more' : List ℕ) (a set : ℕ) → Further more a set more' → ((x y : ℕ) → kept y ≡ true → get_or more (entry x y) 0 < 256) → (x y : ℕ) → kept y ≡ true → get_or more' (entry x y) 0 < 256
further_small more more' a set w small x y k =
    subst (λ (n : ℕ). n < 256) (sym (w.counts x y k))
    (if_either (λ (n : ℕ). n < 256) (further (get_or more (entry x y) 0)) (get_or more (entry x y) 0) (eqb a x && has_bit set y) (λ e. omega arith) (λ e. small x y k))

-- ---- one link more from one of the lasts at a time

-- the number of links once those left are linked
abbrev pub to_count : List ℕ → List ℕ → ℕ → ℕ → ℕ → ℕ → ℕ
to_count rows more left firsts a b = after (if has_bit left a && has_bit firsts b then 1 else 0) (number rows more a b)

-- a first link is in the rows, and another one is counted
one_link : (r f : Bool) (n : ℕ) → n < 256 → (if r || f then 1 else 0) + (if r && f then further n else n) ≡ after (if f then 1 else 0) ((if r then 1 else 0) + n)
one_link true true n h = ⊎_elim (λ k. omega (arith, more_no (1 + n) (omega arith))) (λ k. omega (arith, more_yes (1 + n) (omega arith))) (le_or_lt 255 n)
one_link true false n h = refl
one_link false true n h = omega (arith, more_yes (0 + n) (omega arith))
one_link false false n h = refl

pub count_turn : (rows more more' : List ℕ) (left firsts t row old others : ℕ) → t < length rows → Taken has_bit (λ (m : ℕ). m) left t others
    → ((j : ℕ) → has_bit row j ≡ (has_bit (get_or rows t 0) j || has_bit firsts j)) → Marks old (λ j. has_bit (get_or rows t 0) j && has_bit firsts j)
    → Further more t old more' → ((x y : ℕ) → kept y ≡ true → get_or more (entry x y) 0 < 256)
    → (a b : ℕ) → kept b ≡ true → to_count (set rows t row) more' others firsts a b ≡ to_count rows more left firsts a b
count_turn rows more more' left firsts t row old others h s j o w small a b k =
    by_equal a t (λ z. subst (λ (x : ℕ). to_count (set rows t row) more' others firsts x b ≡ to_count rows more left firsts x b) (sym z) here)
    (λ d.
    ap₂ (λ (u : Bool) (n : ℕ). after (if u && has_bit firsts b then 1 else 0) n) (less_other (has_bit left) (has_bit others) t s.others a (λ z. d (sym z)))
    (ap₂ (λ (x : ℕ) (n : ℕ). (if has_bit x b then 1 else 0) + n) (get_or-set_other rows t a row 0 d)
    (w.counts a b k ∙ ap (λ (u : Bool). if u && has_bit old b then further (get_or more (entry a b) 0) else get_or more (entry a b) 0) (ne_eqb t a (λ z. d (sym z))))))
  where
    r : Bool
    r = has_bit (get_or rows t 0) b

    f : Bool
    f = has_bit firsts b

    here : to_count (set rows t row) more' others firsts t b ≡ to_count rows more left firsts t b
    here =
        ap₂ (λ (u : Bool) (n : ℕ). after (if u && f then 1 else 0) n) (less_here (has_bit left) (has_bit others) t s.others)
        (ap₂ (λ (u : Bool) (n : ℕ). (if u then 1 else 0) + n) (ap (λ (x : ℕ). has_bit x b) (get_or-set_same rows t row 0 h) ∙ j b)
        (w.counts t b k ∙ ap₂ (λ (u v : Bool). if u && v then further (get_or more (entry t b) 0) else get_or more (entry t b) 0) (eq-eqb t t refl) (o b ∙ ap (λ (u : Bool). u && (r && f)) k)))
        ∙ one_link r f (get_or more (entry t b) 0) (small t b k)
        ∙ sym (ap (λ (u : Bool). after (if u && f then 1 else 0) (number rows more t b)) s.least.here)

pub count_end : (rows more : List ℕ) (left firsts : ℕ) → ((a : ℕ) → has_bit left a ≡ false) → (a b : ℕ) → number rows more a b ≡ to_count rows more left firsts a b
count_end rows more left firsts z a b = sym (ap (λ (u : Bool). after (if u && has_bit firsts b then 1 else 0) (number rows more a b)) (z a))
