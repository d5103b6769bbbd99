-- A stretch that is copied on, entry by entry: a store past all that was looked at so far changes none of it. One law for every
-- kind of copy. Assumes nothing.
use mathlib.Core.Path.{◌≡◌, refl, sym, ◌∙◌, subst}
use mathlib.Core.List.{List}
use Prim.Native.Nat.{ℕ, ◌+◌, ◌≤◌, ◌<◌}
use native.Mathlib.Omega.{arith}
use lib.ListN.{length, get_or, set, length-set}
use lib.Seq.{get_or-set_same, get_or-set_other}
use Rattle.basics.proofs.Tests.{by_equal}
use Rattle.copies.specs.Copies.{Repeats}

module _ {T : Type 0} (Copy : T → T → Type 0) (from by : ℕ) (before : List T) where
  pub repeats_none : Repeats Copy from from by before before
  repeats_none = record { copied = λ n i a b. absurd (omega arith); below = λ n i h. refl; above = λ n i h. refl; size = refl }

  pub repeats_more : (to : ℕ) (now : List T) (v : T) → 0 < by → from ≤ to → to + by < length now → ((n : T) → Copy (get_or now to n) v) → Repeats Copy from to by before now
      → Repeats Copy from (to + 1) by before (set now (to + by) v)
  repeats_more to now v p h l e w = record {
    copied = λ n i a b.
        subst (λ (x : T). Copy x (get_or (set now (to + by) v) (i + by) n)) (sym (others n i (λ z. omega arith)))
        (by_equal i to
        (λ z. subst (λ (x : ℕ). Copy (get_or now x n) (get_or (set now (to + by) v) (x + by) n)) (sym z) (subst (Copy (get_or now to n)) (sym (get_or-set_same now (to + by) v n l)) (e n)))
        (λ d. subst (Copy (get_or now i n)) (sym (others n (i + by) (λ z. d (omega arith)))) (w.copied n i a (omega arith))));
    below = λ n i a. others n i (λ z. omega arith) ∙ w.below n i a;
    above = λ n i a. others n i (λ z. omega arith) ∙ w.above n i (omega arith);
    size = length-set now (to + by) v ∙ w.size;
  }
    where
      others : (n : T) (i : ℕ) → (i ≡ to + by → ⊥) → get_or (set now (to + by) v) i n ≡ get_or now i n
      others n i d = get_or-set_other now (to + by) i v n d

-- what a copy is may be said in other words
pub repeats_as : {T : Type 0} (P Q : T → T → Type 0) → ((x y : T) → P x y → Q x y) → (from to by : ℕ) (before after : List T)
    → Repeats P from to by before after → Repeats Q from to by before after
repeats_as P Q so from to by before after w = record {
  copied = λ n i a b. so (get_or after i n) (get_or after (i + by) n) (w.copied n i a b);
  below = w.below;
  above = w.above;
  size = w.size;
}
