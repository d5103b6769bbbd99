-- Walks: from a state over a text by a list of positions. A reading is a walk from state 0, with a link taken at each step, that
-- comes to an end. Types by recursion in place of tests, so that proofs are tuples. Assumes nothing.
use mathlib.Core.Path.{◌≡◌, refl, sym, ap, ap₂, ◌∙◌, subst}
use mathlib.Core.Bool.{true, ◌&&◌, false≢true}
use mathlib.Core.List.{List, [], ◌∷◌, ◌++◌, map}
use Prim.Native.Nat.{ℕ, zero, suc, ◌≤◌, ◌<◌}
use native.Mathlib.Nat.{not-suc-le-zero, le_of_suc-le-suc}
use native.Mathlib.Omega.{arith}
use lib.Dec.{leb, ltb}
use lib.ListN.{length, get_or, take, drop, length-map}
use borrow.Author.Tests.{leb-true, le-leb, ltb-true, lt-ltb}
use Rattle.basics.specs.Lists.{end_of}
use Rattle.basics.proofs.Tests.{and_parts, and_of}
use Rattle.basics.proofs.Lists.{end_append}
use Rattle.graph.specs.Graph.{Graph, is_position, next, SingleLinks, step}
use Rattle.graph.specs.Readings.{Transition, transition, path, reads_from}
use Rattle.graph.proofs.Links.{some_of, not_several}

pub position_of : (g : Graph) (i : ℕ) → is_position g i ≡ true → (1 ≤ i) × (i ≤ g.positions)
position_of g i h = let p = and_parts (leb 1 i) (leb i g.positions) h in (leb-true 1 i p.0, leb-true i g.positions p.1)

pub position_is : (g : Graph) (i : ℕ) → 1 ≤ i → i ≤ g.positions → is_position g i ≡ true
position_is g i l h = and_of (leb 1 i) (leb i g.positions) (le-leb 1 i l) (le-leb i g.positions h)

-- what a step is: a position, one that may come next, one whose set holds the letter
pub step_parts : (g : Graph) (u b i : ℕ) → step g u b i ≡ true → (is_position g i ≡ true) × (next g u i ≡ true) × (g.holds i b ≡ true)
step_parts g u b i h = let p = and_parts (is_position g i) (next g u i && g.holds i b) h in let q = and_parts (next g u i) (g.holds i b) p.1 in (p.0, q.0, q.1)

pub step_of : (g : Graph) (u b i : ℕ) → is_position g i ≡ true → next g u i ≡ true → g.holds i b ≡ true → step g u b i ≡ true
step_of g u b i p n h = and_of (is_position g i) (next g u i && g.holds i b) p (and_of (next g u i) (g.holds i b) n h)

module _ (g : Graph) where
  abbrev pub Walk : ℕ → List ℕ → List ℕ → Type 0
  Walk u [] [] = Unit {0}
  Walk u [] (i ∷ r) = ⊥
  Walk u (b ∷ s) [] = ⊥
  Walk u (b ∷ s) (i ∷ r) = (step g u b i ≡ true) × Walk i s r

  pub walk_length : (u : ℕ) (s r : List ℕ) → Walk u s r → length r ≡ length s
  walk_length u [] [] h = refl
  walk_length u [] (i ∷ r) h = absurd h
  walk_length u (b ∷ s) [] h = absurd h
  walk_length u (b ∷ s) (i ∷ r) h = ap suc (walk_length i s r h.1)

  pub walk_append : (u : ℕ) (s t r q : List ℕ) → Walk u s r → Walk (end_of u r) t q → Walk u (s ++ t) (r ++ q)
  walk_append u [] t [] q h k = k
  walk_append u [] t (i ∷ r) q h k = absurd h
  walk_append u (b ∷ s) t [] q h k = absurd h
  walk_append u (b ∷ s) t (i ∷ r) q h k = (h.0, walk_append i s t r q h.1 k)

  -- a walk over two texts, by two lists of positions as long
  pub walk_split : (u : ℕ) (s t r q : List ℕ) → length r ≡ length s → Walk u (s ++ t) (r ++ q) → Walk u s r × Walk (end_of u r) t q
  walk_split u [] t [] q e h = (tt, h)
  walk_split u [] t (i ∷ r) q e h = absurd (omega arith)
  walk_split u (b ∷ s) t [] q e h = absurd (omega arith)
  walk_split u (b ∷ s) t (i ∷ r) q e h = let w = walk_split i s t r q (omega arith) h.1 in ((h.0, w.0), w.1)

  pub walk_take : (u k : ℕ) (s r : List ℕ) → Walk u s r → Walk u (take k s) (take k r)
  walk_take u zero s r h = tt
  walk_take u (suc k) [] [] h = tt
  walk_take u (suc k) [] (i ∷ r) h = absurd h
  walk_take u (suc k) (b ∷ s) [] h = absurd h
  walk_take u (suc k) (b ∷ s) (i ∷ r) h = (h.0, walk_take i k s r h.1)

  -- the rest of a walk from the k-th position on
  pub walk_drop : (u k : ℕ) (s r : List ℕ) → k < length r → Walk u s r → Walk (get_or r k 0) (drop (suc k) s) (drop (suc k) r)
  walk_drop u k s [] l h = absurd (not-suc-le-zero l)
  walk_drop u k [] (i ∷ r) l h = absurd h
  walk_drop u zero (b ∷ s) (i ∷ r) l h = h.1
  walk_drop u (suc k) (b ∷ s) (i ∷ r) l h = walk_drop i k s r (le_of_suc-le-suc l) h.1

  pub walk_position : (u k : ℕ) (s r : List ℕ) → k < length r → Walk u s r → is_position g (get_or r k 0) ≡ true
  walk_position u k s [] l h = absurd (not-suc-le-zero l)
  walk_position u k [] (i ∷ r) l h = absurd h
  walk_position u zero (b ∷ s) (i ∷ r) l h = (step_parts g u b i h.0).0
  walk_position u (suc k) (b ∷ s) (i ∷ r) l h = walk_position i k s r (le_of_suc-le-suc l) h.1

-- ---- with links

-- a list of positions, each by its first link
abbrev pub plain : List ℕ → List Transition
plain c = map (λ i. transition i 0) c

pub path_plain : (c : List ℕ) → path (plain c) ≡ c
path_plain [] = refl
path_plain (i ∷ c) = ap (λ (l : List ℕ). i ∷ l) (path_plain c)

pub path_append : (r q : List Transition) → path (r ++ q) ≡ path r ++ path q
path_append [] q = refl
path_append (t ∷ r) q = ap (λ (l : List ℕ). t.position ∷ l) (path_append r q)

-- where a list of transitions leads
pub path_end : (u : ℕ) (r q : List Transition) → end_of u (path (r ++ q)) ≡ end_of (end_of u (path r)) (path q)
path_end u r q = ap (end_of u) (path_append r q) ∙ end_append u (path r) (path q)

module _ (g : Graph) where
  -- at each step one of the links that lead there
  abbrev pub Takes : ℕ → List Transition → Type 0
  Takes u [] = Unit {0}
  Takes u (t ∷ r) = (t.link < g.links u t.position) × Takes t.position r

  -- a walk with its links
  abbrev pub Goes : ℕ → List ℕ → List Transition → Type 0
  Goes u s r = Walk g u s (path r) × Takes u r

  -- one that comes to an end
  abbrev pub Reads : ℕ → List ℕ → List Transition → Type 0
  Reads u s r = Goes u s r × (g.last (end_of u (path r)) ≡ true)

  pub reads_goes : (u : ℕ) (s : List ℕ) (r : List Transition) → reads_from g u s r ≡ true → Reads u s r
  reads_goes u [] [] h = ((tt, tt), h)
  reads_goes u [] (t ∷ r) h = absurd (false≢true h)
  reads_goes u (b ∷ s) [] h = absurd (false≢true h)
  reads_goes u (b ∷ s) (t ∷ r) h =
      let i = t.position in
      let p = and_parts (step g u b i && ltb t.link (g.links u i)) (reads_from g i s r) h in
      let q = and_parts (step g u b i) (ltb t.link (g.links u i)) p.0 in
      let w = reads_goes i s r p.1 in
      (((q.0, w.0.0), (ltb-true t.link (g.links u i) q.1, w.0.1)), w.1)

  pub goes_reads : (u : ℕ) (s : List ℕ) (r : List Transition) → Reads u s r → reads_from g u s r ≡ true
  goes_reads u [] [] h = h.1
  goes_reads u [] (t ∷ r) h = absurd h.0.0
  goes_reads u (b ∷ s) [] h = absurd h.0.0
  goes_reads u (b ∷ s) (t ∷ r) h =
      let i = t.position in
      and_of (step g u b i && ltb t.link (g.links u i)) (reads_from g i s r)
      (and_of (step g u b i) (ltb t.link (g.links u i)) h.0.0.0 (lt-ltb t.link (g.links u i) h.0.1.0))
      (goes_reads i s r ((h.0.0.1, h.0.1.1), h.1))

  pub goes_length : (u : ℕ) (s : List ℕ) (r : List Transition) → Goes u s r → length r ≡ length s
  goes_length u s r h = sym (length-map r (λ (t : Transition). t.position)) ∙ walk_length g u s (path r) h.0

  takes_append : (u : ℕ) (r q : List Transition) → Takes u r → Takes (end_of u (path r)) q → Takes u (r ++ q)
  takes_append u [] q h k = k
  takes_append u (t ∷ r) q h k = (h.0, takes_append t.position r q h.1 k)

  takes_split : (u : ℕ) (r q : List Transition) → Takes u (r ++ q) → Takes u r × Takes (end_of u (path r)) q
  takes_split u [] q h = (tt, h)
  takes_split u (t ∷ r) q h = let w = takes_split t.position r q h.1 in ((h.0, w.0), w.1)

  pub goes_append : (u : ℕ) (s t : List ℕ) (r q : List Transition) → Goes u s r → Goes (end_of u (path r)) t q → Goes u (s ++ t) (r ++ q)
  goes_append u s t r q h k =
      (subst (λ (l : List ℕ). Walk g u (s ++ t) l) (sym (path_append r q)) (walk_append g u s t (path r) (path q) h.0 k.0), takes_append u r q h.1 k.1)

  pub goes_split : (u : ℕ) (s t : List ℕ) (r q : List Transition) → length r ≡ length s → Goes u (s ++ t) (r ++ q) → Goes u s r × Goes (end_of u (path r)) t q
  goes_split u s t r q e h =
      let w = walk_split g u s t (path r) (path q) (length-map r (λ (x : Transition). x.position) ∙ e) (subst (λ (l : List ℕ). Walk g u (s ++ t) l) (path_append r q) h.0) in
      let k = takes_split u r q h.1 in
      ((w.0, k.0), (w.1, k.1))

  pub reads_append : (u : ℕ) (s t : List ℕ) (r q : List Transition) → Goes u s r → Reads (end_of u (path r)) t q → Reads u (s ++ t) (r ++ q)
  reads_append u s t r q w h = (goes_append u s t r q w h.0, ap g.last (path_end u r q) ∙ h.1)

  pub reads_split : (u : ℕ) (s t : List ℕ) (r q : List Transition) → length r ≡ length s → Reads u (s ++ t) (r ++ q) → Goes u s r × Reads (end_of u (path r)) t q
  reads_split u s t r q e h = let w = goes_split u s t r q e h.0 in (w.0, (w.1, ap g.last (sym (path_end u r q)) ∙ h.1))

  -- a walk by first links
  pub takes_plain : (u : ℕ) (s c : List ℕ) → Walk g u s c → Takes u (plain c)
  takes_plain u [] [] h = tt
  takes_plain u [] (i ∷ c) h = absurd h
  takes_plain u (b ∷ s) [] h = absurd h
  takes_plain u (b ∷ s) (i ∷ c) h = (some_of (g.links u i) (step_parts g u b i h.0).1, takes_plain i s c h.1)

  pub walk_plain : (u : ℕ) (s c : List ℕ) → Walk g u s c → Goes u s (plain c)
  walk_plain u s c h = (subst (λ (l : List ℕ). Walk g u s l) (sym (path_plain c)) h, takes_plain u s c h)

  -- with single links a walk's positions are all there is to it
  pub takes_single : SingleLinks g → (u : ℕ) (r : List Transition) → Takes u r → r ≡ plain (path r)
  takes_single h u [] k = refl
  takes_single h u (t ∷ r) k =
      let i = t.position in
      let few = not_several (g.links u i) (h u i) in
      let e : t.link ≡ 0 = omega arith in
      ap₂ ◌∷◌ (λ j. transition i (e j)) (takes_single h i r k.1)
