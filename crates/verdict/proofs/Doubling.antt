-- Two different loops at a position that is reached and leads to an end: with each turn there are twice as many readings,
-- since a turn may go either way and lists that begin with different loops of one length differ. Assumes nothing.
use mathlib.Core.Path.{◌≡◌, sym, ap, ap₂, ◌∙◌}
use mathlib.Core.List.{List, [], ◌∷◌, ◌++◌, map, append_assoc, append_cancel_left}
use Prim.Native.Nat.{ℕ, zero, suc, ◌+◌, ◌^◌}
use native.Mathlib.Nat.{pow-zero, two-pow-succ}
use lib.ListN.{length, take, length-append, length-map}
use lib.Seq.{take_at}
use Rattle.basics.specs.Lists.{Each, Apart, end_of}
use Rattle.basics.proofs.Lists.{each_map, each_all, each_append, apart_append, map_each, map_apart}
use Rattle.graph.specs.Graph.{Graph}
use Rattle.graph.specs.Readings.{Transition, path}
use Rattle.graph.proofs.Walks.{Goes, Reads, goes_length, reads_append}
use Rattle.verdict.specs.Evidence.{times}

-- n different lists that pass P
pub record Many (P : List Transition → Type 0) (n : ℕ) : Type 0 where
  pub all : List (List Transition)
  pub apart : Apart all
  pub each : Each P all
  pub size : length all ≡ n

-- a way in over x, two different loops over y, and a way out over z
pub record Rounds (g : Graph) (x y z : List ℕ) : Type 0 where
  pub pivot : ℕ
  pub way_in : List Transition
  pub loop : List Transition
  pub other : List Transition
  pub way_out : List Transition
  pub comes : Goes g 0 x way_in
  pub first : end_of 0 (path way_in) ≡ pivot
  pub turns : Goes g pivot y loop
  pub back : end_of pivot (path loop) ≡ pivot
  pub other_turns : Goes g pivot y other
  pub other_back : end_of pivot (path other) ≡ pivot
  pub differ : loop ≡ other → ⊥
  pub ends : Reads g pivot z way_out

-- each of them after a walk c
abbrev before : (g : Graph) (u q : ℕ) (s t : List ℕ) (c : List Transition) (n : ℕ) → Goes g u s c → end_of u (path c) ≡ q → Many (Reads g q t) n → Many (Reads g u (s ++ t)) n
before g u q s t c n w e m = record {
  all = map (λ r. c ++ r) m.all;
  apart = map_apart (λ r. c ++ r) (Reads g q t) (λ r v a b. append_cancel_left c r v) m.all m.apart m.each;
  each = map_each (λ r. c ++ r) (Reads g u (s ++ t)) m.all (each_map (Reads g q t) (λ r. Reads g u (s ++ t) (c ++ r)) then m.all m.each);
  size = length-map m.all (λ r. c ++ r) ∙ m.size;
}
  where
    then : (r : List Transition) → Reads g q t r → Reads g u (s ++ t) (c ++ r)
    then r h = reads_append g u s t c r w (rw e h)

module _ (g : Graph) (x y z : List ℕ) (l : Rounds g x y z) where
  -- each of them after one loop and after the other
  twice : (t : List ℕ) (n : ℕ) → Many (Reads g l.pivot t) n → Many (Reads g l.pivot (y ++ t)) (n + n)
  twice t n m =
      let q : ℕ = l.pivot in
      let c : List Transition = l.loop in
      let d : List Transition = l.other in
      let a = before g q q y t c n l.turns l.back m in
      let b = before g q q y t d n l.other_turns l.other_back m in
      record {
        all = a.all ++ b.all;
        apart = apart_append a.all b.all a.apart b.apart
            (map_each (λ r. c ++ r) (λ r. Each (λ v. r ≡ v → ⊥) b.all) m.all (each_all (λ r. Each (λ v. c ++ r ≡ v → ⊥) b.all)
            (λ r. map_each (λ v. d ++ v) (λ v. c ++ r ≡ v → ⊥) m.all (each_all (λ v. c ++ r ≡ d ++ v → ⊥) (never r) m.all)) m.all));
        each = each_append (Reads g q (y ++ t)) a.all b.all a.each b.each;
        size = length-append a.all b.all ∙ ap₂ ◌+◌ a.size b.size;
      }
    where
      begins : (c r : List Transition) → Goes g l.pivot y c → take (length y) (c ++ r) ≡ c
      begins c r w = take_at c r (length y) (goes_length g l.pivot y c w)

      never : (r v : List Transition) → l.loop ++ r ≡ l.other ++ v → ⊥
      never r v e = l.differ (sym (begins l.loop r l.turns) ∙ ap (take (length y)) e ∙ begins l.other v l.other_turns)

  turned : (k : ℕ) → Many (Reads g l.pivot (times k y ++ z)) (2 ^ k)
  turned zero = record { all = l.way_out ∷ []; apart = (tt, tt); each = (l.ends, tt); size = sym (pow-zero 2) }
  turned (suc k) = rw (append_assoc y (times k y) z, two-pow-succ k) (twice (times k y ++ z) (2 ^ k) (turned k))

  pub doubling : (k : ℕ) → Many (Reads g 0 (x ++ (times k y ++ z))) (2 ^ k)
  doubling k = before g 0 l.pivot x (times k y ++ z) l.way_in (2 ^ k) l.comes l.first (turned k)
