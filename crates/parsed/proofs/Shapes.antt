-- Shapes of parts: A then B, and branches, each associate, and nothing before the first part adds nothing. So a fold from the left
-- gives the shape that the grammar, which nests to the right, has. For the numbers of links A then B associates where each shape has
-- positions of its own, so that no position is a first or a last of two of them. Assumes nothing.
use mathlib.Core.Path.{◌≡◌, refl, sym, ap, ◌∙◌}
use mathlib.Core.Bool.{Bool, true, false, ◌&&◌, ◌||◌, and-false, and_assoc, or-false, or_assoc, false≢true}
use mathlib.Core.List.{[], append_assoc, ◌++◌}
use mathlib.Core.Logic.{⊎_elim}
use Prim.Native.Nat.{ℕ, ◌+◌, ◌<◌, ◌≤◌}
use native.Mathlib.Nat.{zero-add, add-zero, add_assoc}
use native.Mathlib.Omega.{arith}
use lib.ListN.{length, length-append}
use Rattle.std.specs.Prelude.{if◌then◌else◌}
use Rattle.basics.proofs.Tests.{and_parts, or_cases, by_test, if_no, le_or_lt}
use Rattle.pattern.specs.Parts.{Part}
use Rattle.pattern.proofs.Own.{first_own, last_own}
use Rattle.pattern.proofs.Doubled.{linked_own}
use Rattle.parsed.specs.Parsed.{Shape, shape_of}

abbrev pub joined_shape : Shape → Shape → Shape
joined_shape p q = record {
  atoms = p.atoms ++ q.atoms;
  empty = p.empty && q.empty;
  first = λ n x. p.first n x || (p.empty && q.first (n + length p.atoms) x);
  last = λ n x. q.last (n + length p.atoms) x || (q.empty && p.last n x);
  links = λ n x y. p.links n x y + (q.links (n + length p.atoms) x y + (if p.last n x && q.first (n + length p.atoms) y then 1 else 0));
  misbounded = p.misbounded || q.misbounded;
}

abbrev pub either_shape : Shape → Shape → Shape
either_shape p q = record {
  atoms = p.atoms ++ q.atoms;
  empty = p.empty || q.empty;
  first = λ n x. p.first n x || q.first (n + length p.atoms) x;
  last = λ n x. p.last n x || q.last (n + length p.atoms) x;
  links = λ n x y. p.links n x y + q.links (n + length p.atoms) x y;
  misbounded = p.misbounded || q.misbounded;
}

-- nothing, which for a joining can be empty and for branches cannot
abbrev pub no_shape : Bool → Shape
no_shape e = record { atoms = []; empty = e; first = λ n x. false; last = λ n x. false; links = λ n x y. 0; misbounded = false }

pub joined_none : (q : Shape) → joined_shape (no_shape true) q ≡ q
joined_none q t = record {
  atoms = q.atoms;
  empty = q.empty;
  first = λ n x. ap (λ (k : ℕ). q.first k x) (add-zero n) t;
  last = λ n x. (ap (λ (k : ℕ). q.last k x || (q.empty && false)) (add-zero n) ∙ ap (λ (b : Bool). q.last n x || b) (and-false q.empty) ∙ or-false (q.last n x)) t;
  links = λ n x y. (ap (λ (k : ℕ). 0 + (q.links k x y + 0)) (add-zero n) ∙ zero-add (q.links n x y + 0) ∙ add-zero (q.links n x y)) t;
  misbounded = q.misbounded;
}

pub either_none : (q : Shape) → either_shape (no_shape false) q ≡ q
either_none q t = record {
  atoms = q.atoms;
  empty = q.empty;
  first = λ n x. ap (λ (k : ℕ). q.first k x) (add-zero n) t;
  last = λ n x. ap (λ (k : ℕ). q.last k x) (add-zero n) t;
  links = λ n x y. (ap (λ (k : ℕ). 0 + q.links k x y) (add-zero n) ∙ zero-add (q.links n x y)) t;
  misbounded = q.misbounded;
}

first_law : (a e b f c : Bool) → ((a || (e && b)) || ((e && f) && c)) ≡ (a || (e && (b || (f && c))))
first_law true e b f c = refl
first_law false true b f c = refl
first_law false false b f c = refl

last_law : (c g b f a : Bool) → (c || (g && (b || (f && a)))) ≡ ((c || (g && b)) || ((f && g) && a))
last_law true g b f a = refl
last_law false true b true a = refl
last_law false true b false a = refl
last_law false false b true a = refl
last_law false false b false a = refl

-- ---- a shape's own positions

-- with n positions to its left, its firsts and lasts are among the next, and its links lead from those to those
pub record Owns (x : Shape) : Type 0 where
  pub firsts : (n i : ℕ) → x.first n i ≡ true → (n < i) × (i ≤ n + length x.atoms)
  pub lasts : (n i : ℕ) → x.last n i ≡ true → (n < i) × (i ≤ n + length x.atoms)
  pub links : (n i j : ℕ) → 1 ≤ x.links n i j → ((n < i) × (i ≤ n + length x.atoms)) × ((n < j) × (j ≤ n + length x.atoms))

pub owns_part : (p : Part) → Owns (shape_of p)
owns_part p = record { firsts = λ n i e. first_own p n i e; lasts = λ n i e. last_own p n i e; links = λ n i j l. linked_own p n i j l }

pub owns_none : (e : Bool) → Owns (no_shape e)
owns_none e = record { firsts = λ n i h. absurd (false≢true h); lasts = λ n i h. absurd (false≢true h); links = λ n i j l. absurd (omega arith) }

module _ (p q : Shape) (op : Owns p) (oq : Owns q) where
  -- those of the one, or of the other
  in_first : (n i : ℕ) → (n < i) × (i ≤ n + length p.atoms) → (n < i) × (i ≤ n + length (p.atoms ++ q.atoms))
  in_first n i h = let l = length-append p.atoms q.atoms in omega arith

  in_second : (n i : ℕ) → (n + length p.atoms < i) × (i ≤ (n + length p.atoms) + length q.atoms) → (n < i) × (i ≤ n + length (p.atoms ++ q.atoms))
  in_second n i h = let l = length-append p.atoms q.atoms in omega arith

  in_links : (n i j : ℕ) → 1 ≤ p.links n i j + q.links (n + length p.atoms) i j → ((n < i) × (i ≤ n + length (p.atoms ++ q.atoms))) × ((n < j) × (j ≤ n + length (p.atoms ++ q.atoms)))
  in_links n i j l =
      ⊎_elim (λ h. let w = oq.links (n + length p.atoms) i j (omega arith) in (in_second n i w.0, in_second n j w.1)) (λ h. let w = op.links n i j h in (in_first n i w.0, in_first n j w.1))
      (le_or_lt (p.links n i j) 0)

  pub owns_joined : Owns (joined_shape p q)
  owns_joined = record {
    firsts = λ n i e.
        ⊎_elim (λ h. in_first n i (op.firsts n i h)) (λ h. in_second n i (oq.firsts (n + length p.atoms) i (and_parts p.empty (q.first (n + length p.atoms) i) h).1))
        (or_cases (p.first n i) (p.empty && q.first (n + length p.atoms) i) e);
    lasts = λ n i e.
        ⊎_elim (λ h. in_second n i (oq.lasts (n + length p.atoms) i h)) (λ h. in_first n i (op.lasts n i (and_parts q.empty (p.last n i) h).1))
        (or_cases (q.last (n + length p.atoms) i) (q.empty && p.last n i) e);
    links = λ n i j l.
        let over = p.last n i && q.first (n + length p.atoms) j in
        by_test over
        (λ t. let w = and_parts (p.last n i) (q.first (n + length p.atoms) j) t in (in_first n i (op.lasts n i w.0), in_second n j (oq.firsts (n + length p.atoms) j w.1)))
        (λ t. let z = if_no {A = ℕ} 1 0 over t in in_links n i j (omega arith));
  }

  pub owns_either : Owns (either_shape p q)
  owns_either = record {
    firsts = λ n i e.
        ⊎_elim (λ h. in_first n i (op.firsts n i h)) (λ h. in_second n i (oq.firsts (n + length p.atoms) i h)) (or_cases (p.first n i) (q.first (n + length p.atoms) i) e);
    lasts = λ n i e.
        ⊎_elim (λ h. in_first n i (op.lasts n i h)) (λ h. in_second n i (oq.lasts (n + length p.atoms) i h)) (or_cases (p.last n i) (q.last (n + length p.atoms) i) e);
    links = in_links;
  }

-- links from the first to the second (l and x), and to the third from the second (k and y) or, where that can be empty (f), from the
-- first
over_law : (l x k f y : Bool) → (l ≡ true → k ≡ true → ⊥) → (x ≡ true → y ≡ true → ⊥)
    → ◌≡◌ {A = ℕ} ((if l && x then 1 else 0) + (if (k || (f && l)) && y then 1 else 0)) ((if k && y then 1 else 0) + (if l && (x || (f && y)) then 1 else 0))
over_law true x true f y d e = absurd (d refl refl)
over_law true true false f true d e = absurd (e refl refl)
over_law true true false true false d e = refl
over_law true true false false false d e = refl
over_law true false false true true d e = refl
over_law true false false true false d e = refl
over_law true false false false y d e = refl
over_law false x true true true d e = refl
over_law false x true true false d e = refl
over_law false x true false true d e = refl
over_law false x true false false d e = refl
over_law false x false true y d e = refl
over_law false x false false y d e = refl

-- and those within each of the three (p, q, r)
links_law : (p q r : ℕ) (l x k f y : Bool) → (l ≡ true → k ≡ true → ⊥) → (x ≡ true → y ≡ true → ⊥)
    → (p + (q + (if l && x then 1 else 0))) + (r + (if (k || (f && l)) && y then 1 else 0)) ≡ p + ((q + (r + (if k && y then 1 else 0))) + (if l && (x || (f && y)) then 1 else 0))
links_law p q r l x k f y d e = let o = over_law l x k f y d e in omega arith

module _ (p q r : Shape) where
  -- where the third begins
  third : (n : ℕ) → n + length (p.atoms ++ q.atoms) ≡ (n + length p.atoms) + length q.atoms
  third n = ap (λ (k : ℕ). n + k) (length-append p.atoms q.atoms) ∙ sym (add_assoc n (length p.atoms) (length q.atoms))

  pub joined_assoc : Owns p → Owns q → Owns r → joined_shape (joined_shape p q) r ≡ joined_shape p (joined_shape q r)
  joined_assoc op oq or t = record {
    atoms = append_assoc p.atoms q.atoms r.atoms t;
    empty = and_assoc p.empty q.empty r.empty t;
    first = λ n x.
        (ap (λ (m : ℕ). (joined_shape p q).first n x || ((p.empty && q.empty) && r.first m x)) (third n)
        ∙ first_law (p.first n x) p.empty (q.first (n + length p.atoms) x) q.empty (r.first ((n + length p.atoms) + length q.atoms) x)) t;
    last = λ n x.
        (ap (λ (m : ℕ). r.last m x || (r.empty && (joined_shape p q).last n x)) (third n)
        ∙ last_law (r.last ((n + length p.atoms) + length q.atoms) x) r.empty (q.last (n + length p.atoms) x) q.empty (p.last n x)) t;
    links = λ n x y.
        (ap (λ (m : ℕ). (joined_shape p q).links n x y + (r.links m x y + (if (joined_shape p q).last n x && r.first m y then 1 else 0))) (third n)
        ∙ links_law (p.links n x y) (q.links (n + length p.atoms) x y) (r.links ((n + length p.atoms) + length q.atoms) x y) (p.last n x) (q.first (n + length p.atoms) y) (q.last (n + length p.atoms) x) q.empty (r.first ((n + length p.atoms) + length q.atoms) y)
        (λ e f. let a = op.lasts n x e in let b = oq.lasts (n + length p.atoms) x f in omega arith)
        (λ e f. let a = oq.firsts (n + length p.atoms) y e in let b = or.firsts ((n + length p.atoms) + length q.atoms) y f in omega arith)) t;
    misbounded = or_assoc p.misbounded q.misbounded r.misbounded t;
  }

  pub either_assoc : either_shape (either_shape p q) r ≡ either_shape p (either_shape q r)
  either_assoc t = record {
    atoms = append_assoc p.atoms q.atoms r.atoms t;
    empty = or_assoc p.empty q.empty r.empty t;
    first = λ n x. (ap (λ (m : ℕ). (either_shape p q).first n x || r.first m x) (third n) ∙ or_assoc (p.first n x) (q.first (n + length p.atoms) x) (r.first ((n + length p.atoms) + length q.atoms) x)) t;
    last = λ n x. (ap (λ (m : ℕ). (either_shape p q).last n x || r.last m x) (third n) ∙ or_assoc (p.last n x) (q.last (n + length p.atoms) x) (r.last ((n + length p.atoms) + length q.atoms) x)) t;
    links = λ n x y. (ap (λ (m : ℕ). (either_shape p q).links n x y + r.links m x y) (third n) ∙ add_assoc (p.links n x y) (q.links (n + length p.atoms) x y) (r.links ((n + length p.atoms) + length q.atoms) x y)) t;
    misbounded = or_assoc p.misbounded q.misbounded r.misbounded t;
  }
