-- An interval written out, by cases: what holds in each way to write it out holds of it written out. Assumes nothing.
use mathlib.Core.Path.{◌≡◌, sym, ap, ◌∙◌, subst}
use mathlib.Core.Bool.{Bool, true, false, ◌&&◌, ◌||◌, not}
use Prim.Native.Nat.{suc, ◌-◌, ◌≤◌, ◌<◌}
use native.Mathlib.Omega.{arith}
use borrow.Author.Tests.{ltb-false, eqb-true, eqb-false}
use lib.Dec.{eqb, ltb}
use Rattle.basics.proofs.Tests.{or_parts, if_yes, if_no, if_either}
use Rattle.pattern.specs.Parts.{star, plus, misbounded, Part, again, Bounds, out_of_bounds, copies, nested, written_out}

-- bounds that refusal 11 does not name
pub record InBounds (b : Bounds) : Type 0 where
  pub low : b.lower ≤ 255
  pub some : b.endless ≡ false → 1 ≤ b.upper
  pub order : b.endless ≡ false → b.lower ≤ b.upper
  pub high : b.endless ≡ false → b.upper ≤ 255

pub in_bounds : (b : Bounds) → out_of_bounds b ≡ false → InBounds b
in_bounds b e = record {
  low = ltb-false 255 b.lower parts.0;
  some = λ o. let z = eqb-false b.upper 0 (upper o).0 in omega arith;
  order = λ o. ltb-false b.upper b.lower (or_parts (ltb b.upper b.lower) (ltb 255 b.upper) (upper o).1).0;
  high = λ o. ltb-false 255 b.upper (or_parts (ltb b.upper b.lower) (ltb 255 b.upper) (upper o).1).1;
}
  where
    parts : (ltb 255 b.lower ≡ false) × ((not b.endless && (eqb b.upper 0 || (ltb b.upper b.lower || ltb 255 b.upper))) ≡ false)
    parts = or_parts (ltb 255 b.lower) (not b.endless && (eqb b.upper 0 || (ltb b.upper b.lower || ltb 255 b.upper))) e

    upper : b.endless ≡ false → (eqb b.upper 0 ≡ false) × ((ltb b.upper b.lower || ltb 255 b.upper) ≡ false)
    upper o = or_parts (eqb b.upper 0) (ltb b.upper b.lower || ltb 255 b.upper) (ap (λ (t : Bool). not t && (eqb b.upper 0 || (ltb b.upper b.lower || ltb 255 b.upper))) (sym o) ∙ parts.1)

pub written_refused : (b : Bounds) (p : Part) → out_of_bounds b ≡ true → written_out b p ≡ again misbounded p
written_refused b p e = if_yes (again misbounded p) _ (out_of_bounds b) e

pub written_by : (P : Part → Type 0) (b : Bounds) (p : Part) → out_of_bounds b ≡ false → (b.endless ≡ true → b.lower ≡ 0 → P (again star p)) → (b.endless ≡ true → 1 ≤ b.lower → P (copies (b.lower - 1) p (again plus p)))
    → (b.endless ≡ false → b.lower ≡ b.upper → P (copies (b.upper - 1) p p)) → (b.endless ≡ false → b.lower < b.upper → P (copies b.lower p (nested (b.upper - suc b.lower) p))) → P (written_out b p)
written_by P b p e any some exact less =
    subst P (sym (if_no (again misbounded p) _ (out_of_bounds b) e))
    (if_either P _ _ b.endless
    (λ o. if_either P (again star p) (copies (b.lower - 1) p (again plus p)) (eqb b.lower 0) (λ z. any o (eqb-true b.lower 0 z)) (λ z. some o (omega (arith, eqb-false b.lower 0 z))))
    (λ o. if_either P (copies (b.upper - 1) p p) (copies b.lower p (nested (b.upper - suc b.lower) p)) (eqb b.lower b.upper) (λ z. exact o (eqb-true b.lower b.upper z))
    (λ z. less o (let l = (in_bounds b e).order o in omega (arith, eqb-false b.lower b.upper z)))))
