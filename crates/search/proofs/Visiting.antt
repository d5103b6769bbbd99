-- A search goes on: a node is taken up, the head of the queue is passed, a search is begun; and once it is over, each node that a
-- chain of steps leads to is taken up. Of the queue's nodes no two are one, so there are at most 1891. Assumes nothing.
use mathlib.Core.Path.{◌≡◌, refl, sym, ap, ◌∙◌, subst}
use mathlib.Core.Logic.{◌⊎◌, ⊎_elim}
use mathlib.Core.Bool.{Bool, true, false, ◌&&◌, ◌||◌, true≢false}
use mathlib.Core.List.{List, [], ◌∷◌}
use Prim.Native.Nat.{ℕ, zero, suc, ◌+◌, ◌-◌, ◌/◌, ◌%◌, ◌^◌, ◌≤◌, ◌<◌}
use native.Mathlib.Omega.{arith}
use borrow.Author.Tests.{lt-ltb, le-ltb, eq-eqb, eqb-true}
use lib.Dec.{eqb, ltb}
use Rattle.std.specs.Prelude.{None}
use lib.ListN.{get_or, set, length, take, length-set}
use lib.Seq.{get_or-set_same, get_or-set_other, get_or-take, length-take-le}
use Rattle.basics.specs.Lists.{end_of, Chain}
use Rattle.basics.proofs.Tests.{if_yes, if_no, or_left, or_right, or_cases, by_equal}
use Rattle.basics.proofs.Lists.{each_at, apart_at, pigeon}
use Rattle.bits.specs.Bits.{has_bit}
use Rattle.verdict.proofs.Chains.{Way}
use Rattle.search.specs.declared.Goal.{Goal}
use Rattle.search.specs.declared.Goal.TheVariants.{OnePath, Parted}
use Rattle.search.specs.declared.Search.{Search}
use Rattle.nodes.specs.declared.Next.{Next}
use Rattle.nodes.specs.declared.Node.{Node}
use Rattle.nodes.specs.declared.Node.TheVariants.{Together, Parted as Two}
use Rattle.nodes.specs.declared.Seen.{Seen}
use Rattle.nodes.specs.declared.Steps.{Steps}
use Rattle.nodes.specs.Nodes.{IsNode, one, pack, number_of, Fits, Numbered, Step}
use Rattle.nodes.specs.Taken.{taken, Even, OneTaken, TakenUp, Fresh, Gone, Found, Finds}
use Rattle.search.specs.Search.{queue, back_of, Queued, SoundQueue, SoundSearch, enqueue, mask_of, is_goal_state, is_goal, Begun, TookUp, Ended, Searching, Reached}
use Rattle.search.proofs.Levels.{behind_none, no_nearer}
use Rattle.nodes.proofs.Nodes.{number, node_low, node_told, numbered_fits, step_node, parts_positions, pack_node, taken_pair, fresh, spent, all_pending}
use Rattle.std.proofs.lemmas.Grind.{common_steps}

-- ---- the queue after a node is taken up

-- the numbers stay as many
pub up_long : (s : List ℕ) (y h t : ℕ) → length (enqueue s y h t) ≡ length s
unfolding enqueue
up_long s y h t = length-set (set s t y) (2048 + t) h ∙ length-set s t y

module _ (s : List ℕ) (y h t : ℕ) (long : 4096 ≤ length s) (room : t < 2048) where
  pub up_last : queue (enqueue s y h t) t ≡ y
  unfolding enqueue
  up_last = get_or-set_other (set s t y) (2048 + t) t h 0 (λ e. omega arith) ∙ get_or-set_same s t y 0 (omega arith)

  up_back : back_of (enqueue s y h t) t ≡ h
  unfolding enqueue
  up_back = get_or-set_same (set s t y) (2048 + t) h 0 (omega (arith, length-set s t y))

  up_other : (k : ℕ) → (k ≡ t → ⊥) → (k ≡ 2048 + t → ⊥) → get_or (enqueue s y h t) k 0 ≡ get_or s k 0
  unfolding enqueue
  up_other k e f = get_or-set_other (set s t y) (2048 + t) k h 0 f ∙ get_or-set_other s t k y 0 e

  pub up_before : (i : ℕ) → i < t → queue (enqueue s y h t) i ≡ queue s i
  up_before i l = up_other i (λ e. omega arith) (λ e. omega arith)

  up_back_before : (i : ℕ) → i < t → back_of (enqueue s y h t) i ≡ back_of s i
  up_back_before i l = up_other (2048 + i) (λ e. omega arith) (λ e. omega arith)

-- what holds below t, and at t, holds below t + 1
one_more : (t : ℕ) (P : ℕ → Type 0) → ((i : ℕ) → i < t → P i) → P t → (i : ℕ) → i < t + 1 → P i
one_more t P f p i l = by_equal i t (λ e. subst P (sym e) p) (λ d. f i (omega arith))

module _ {E : ℕ → ℕ → Type 0} {T : ℕ → Bool} {s : List ℕ} {h t : ℕ} (long : 4096 ≤ length s) (w : SoundQueue E T s h t) where
  -- ---- how many there can be

  pub few_nodes : t ≤ 1891
  few_nodes =
      let size : length (take t s) ≡ t = length-take-le t s (omega arith) in
      let n = pigeon number IsNode 1891 node_low node_told (take t s)
      (apart_at 0 (take t s) (λ i j l m e. w.differ i j l (omega arith) (sym (get_or-take t s i 0 (omega arith)) ∙ e ∙ get_or-take t s j 0 (omega arith))))
      (each_at IsNode 0 (take t s) (λ i l. subst IsNode (sym (get_or-take t s i 0 (omega arith))) (w.nodes i (omega arith)))) in
      omega arith

  -- ---- a node is taken up

  module _ (T' : ℕ → Bool) (y : ℕ) (l : h < t) (st : E (queue s h) y) (node : IsNode y) (new : T y ≡ false) (takes : (z : ℕ) → IsNode z → T' z ≡ (T z || eqb y z)) where
    pub room : t < 2048
    room = omega (arith, few_nodes)

    abbrev s' : List ℕ
    s' = enqueue s y h t

    last : queue s' t ≡ y
    last = up_last s y h t long room

    old : (i : ℕ) → i < t → queue s' i ≡ queue s i
    old = up_before s y h t long room

    abbrev still : (x : ℕ) → Queued s t x → Queued s' (t + 1) x
    still x q = let k = q.low in record { at = q.at; low = omega arith; is = old q.at k ∙ q.is }

    queued' : (x : ℕ) → IsNode x → T' x ≡ true → Queued s' (t + 1) x
    queued' x n e =
        ⊎_elim (λ k. still x (w.queued x n k)) (λ k. record { at = t; low = omega arith; is = last ∙ eqb-true y x k })
        (or_cases (T x) (eqb y x) (sym (takes x n) ∙ e))

    from : back_of s' t ≡ h
    from = up_back s y h t long room

    old_from : (i : ℕ) → i < t → back_of s' i ≡ back_of s i
    old_from = up_back_before s y h t long room

    behind' : (i : ℕ) → i < t + 1 → back_of s' i ≤ h
    behind' = one_more t (λ i. back_of s' i ≤ h) (λ i k. omega (arith, old_from i k, w.behind i k)) (omega (arith, from))

    pub enqueued : SoundQueue E T' s' h (t + 1)
    enqueued = record {
      begun = omega arith;
      within = omega arith;
      few = omega (arith, room);
      nodes = one_more t (λ i. IsNode (queue s' i)) (λ i k. subst IsNode (sym (old i k)) (w.nodes i k)) (subst IsNode (sym last) node);
      taken_up = one_more t (λ i. T' (queue s' i) ≡ true)
          (λ i k. ap T' (old i k) ∙ takes (queue s i) (w.nodes i k) ∙ or_left (T (queue s i)) (eqb y (queue s i)) (w.taken_up i k))
          (ap T' last ∙ takes y node ∙ or_right (T y) (eqb y y) (eq-eqb y y refl));
      queued = queued';
      differ = λ i j k m. one_more t (λ j. i < j → queue s' i ≡ queue s' j → ⊥)
          (λ j m k e. w.differ i j k m (sym (old i (omega arith)) ∙ e ∙ old j m))
          (λ k e. true≢false (sym (w.taken_up i k) ∙ ap T (sym (old i k) ∙ e ∙ last) ∙ new)) j m k;
      back = λ i z k. one_more t (λ i. 0 < i → (back_of s' i < i) × E (queue s' (back_of s' i)) (queue s' i))
          (λ i k z.
          let b = w.back i z k in
          let e = old_from i k in
          (omega arith, subst (λ (j : ℕ). E (queue s' j) (queue s' i)) (sym e) (subst (λ (x : ℕ). E x (queue s' i)) (sym (old (back_of s i) (omega arith))) (subst (E (queue s (back_of s i))) (sym (old i k)) b.1))))
          (λ z.
          (omega (arith, from), subst (λ (j : ℕ). E (queue s' j) (queue s' t)) (sym from) (subst (λ (x : ℕ). E x (queue s' t)) (sym (old h l)) (subst (E (queue s h)) (sym last) st)))) i k z;
      ordered = λ i j k m. one_more t (λ j. i ≤ j → back_of s' i ≤ back_of s' j)
          (λ j m k. omega (arith, old_from i (omega arith), old_from j m, w.ordered i j k m))
          (λ k. omega (arith, from, behind' i (omega arith))) j m k;
      behind = behind';
      closed = λ i k x q. let c = w.closed i k x (subst (λ (u : ℕ). E u x) (old i (omega arith)) q) in (still x c.0, omega (arith, old_from c.0.at c.0.low, c.1));
    }

-- ---- the head is passed

pub passed : {E : ℕ → ℕ → Type 0} {T : ℕ → Bool} {s : List ℕ} {h t : ℕ} → SoundQueue E T s h t → h < t → ((y : ℕ) → E (queue s h) y → IsNode y × (T y ≡ true)) → SoundQueue E T s (h + 1) t
passed {E} {s = s} {h} {t} w l spent = record {
  begun = w.begun;
  within = omega arith;
  few = w.few;
  nodes = w.nodes;
  taken_up = w.taken_up;
  queued = w.queued;
  differ = w.differ;
  back = w.back;
  ordered = w.ordered;
  behind = λ i k. omega (arith, w.behind i k);
  closed = λ i k y q.
      by_equal i h
      (λ e.
      let n = spent y (subst (λ (j : ℕ). E (queue s j) y) e q) in
      let c = w.queued y n.0 n.1 in
      (c, omega (arith, e, w.behind c.at c.low)))
      (λ d. w.closed i (omega arith) y q);
}

-- ---- once it is over

pub complete : {E : ℕ → ℕ → Type 0} {T : ℕ → Bool} {s : List ℕ} {t : ℕ} → SoundQueue E T s t t → (c : List ℕ) (i : ℕ) → i < t → Chain E (queue s i) c → Queued s t (end_of (queue s i) c)
complete w [] i l h = record { at = i; low = l; is = refl }
complete {E} {s = s} {t = t} w (x ∷ c) i l h =
    let q = (w.closed i l x h.0).0 in
    let e = sym q.is in
    subst (λ (y : ℕ). Queued s t (end_of y c)) q.is (complete w c q.at q.low (subst (λ (y : ℕ). Chain E y c) e h.1))

-- and each node taken up has a chain of steps that leads to it
pub way_back : {E : ℕ → ℕ → Type 0} {T : ℕ → Bool} {s : List ℕ} {h t : ℕ} → SoundQueue E T s h t → (n i : ℕ) → i ≤ n → i < t → (z : ℕ) → Way E (queue s i) z → Way E (queue s 0) z
way_back w zero zero k l z v = v
way_back w zero (suc i) k l z v = absurd (omega arith)
way_back w (suc n) zero k l z v = v
way_back {s = s} w (suc n) (suc i) k l z v =
    let b = w.back (suc i) (omega arith) l in
    way_back w n (back_of s (suc i)) (omega arith) (omega arith) z (record { nodes = queue s (suc i) ∷ v.nodes; goes = (b.1, v.goes); ends = v.ends })

-- ---- a queue is begun

begun : (E : ℕ → ℕ → Type 0) (T : ℕ → Bool) (s : List ℕ) (x : ℕ) → 4096 ≤ length s → IsNode x → ((z : ℕ) → IsNode z → T z ≡ eqb x z) → SoundQueue E T (enqueue s x 0 0) 0 1
begun E T s x long node takes =
    let first = up_last s x 0 0 long (omega arith) in
    let at : (i : ℕ) → i < 1 → queue (enqueue s x 0 0) i ≡ x = λ i l. (let e : i ≡ 0 = omega arith in ap (queue (enqueue s x 0 0)) e ∙ first) in
    let from : (i : ℕ) → i < 1 → back_of (enqueue s x 0 0) i ≡ 0 = λ i l. (let e : i ≡ 0 = omega arith in ap (back_of (enqueue s x 0 0)) e ∙ up_back s x 0 0 long (omega arith)) in
    record {
      begun = omega arith;
      within = omega arith;
      few = omega arith;
      nodes = λ i l. subst IsNode (sym (at i l)) node;
      taken_up = λ i l. ap T (at i l) ∙ takes x node ∙ eq-eqb x x refl;
      queued = λ z n e. record { at = 0; low = omega arith; is = first ∙ eqb-true x z (sym (takes z n) ∙ e) };
      differ = λ i j l m. absurd (omega arith);
      back = λ i z l. absurd (omega arith);
      ordered = λ i j l m. omega (arith, from i (omega arith));
      behind = λ i l. omega (arith, from i l);
      closed = λ i l. absurd (omega arith);
    }

-- ---- goals

pub goal_low : (goal : Goal) (x : ℕ) → x < 64 → is_goal goal x ≡ is_goal_state goal x
unfolding is_goal
goal_low goal x h = if_yes (is_goal_state goal x) (has_bit (mask_of goal) (x / 64) && has_bit (mask_of goal) (x % 64)) (ltb x 64) (lt-ltb x 64 h)

pub goal_high : (goal : Goal) (x : ℕ) → 64 ≤ x → is_goal goal x ≡ (has_bit (mask_of goal) (x / 64) && has_bit (mask_of goal) (x % 64))
unfolding is_goal
goal_high goal x h = if_no (is_goal_state goal x) (has_bit (mask_of goal) (x / 64) && has_bit (mask_of goal) (x % 64)) (ltb x 64) (le-ltb x 64 h)

-- a set that is read from either kind of goal
pub mask_either : {goal : Goal} {m k : ℕ} → m ≡ k → (goal ≡ OnePath k) ⊎ (goal ≡ Parted k) → m ≡ mask_of goal
mask_either e is = e ∙ ⊎_elim (λ i. ap mask_of (sym i)) (λ i. ap mask_of (sym i)) is

-- of a node as the program holds it
pub goal_together : (goal : Goal) {to : Goal} {n : Node} {a : ℕ} {r : Bool} → Fits n → n ≡ Together a → goal ≡ to → r ≡ is_goal_state to a → r ≡ is_goal goal (number_of n)
goal_together goal {a = a} fits is same e = grind (arith, common_steps, goal_low)

pub goal_parted : (goal : Goal) {m : ℕ} {n : Node} {a b : ℕ} {r q : Bool} → Fits n → n ≡ Two a b → m ≡ mask_of goal → r ≡ has_bit m a → q ≡ has_bit m b → (r && q) ≡ is_goal goal (number_of n)
goal_parted goal {a = a} {b} fits is same e f = grind (arith, common_steps, goal_high)

-- ---- a search

-- what is taken up besides leaves gone what was
gone_on : (steps : Steps) {seen seen' : Seen} {y : ℕ} (pending x : ℕ) → Even seen.pairs → TakenUp seen seen' y → Gone steps seen pending x → Gone steps seen' pending x
gone_on steps {seen} {seen'} {y} pending x even up g a b p n =
    let h = parts_positions steps x a b p in
    let z = pack a b in
    sym (taken_pair seen' (up.even even) a b h) ∙ up.takes z (pack_node a b h) ∙ or_left (taken seen z) (eqb y z) (taken_pair seen even a b h ∙ g a b p n)

pub few_taken : {steps : Steps} {s : List ℕ} {w : Search} → 4096 ≤ length s → SoundSearch steps s w → w.tail ≤ 1891
few_taken long sound = few_nodes long sound.queue

-- the head is passed
pub passed_on : {steps : Steps} {s : List ℕ} {w w' : Search} (x : Node) → SoundSearch steps s w → w.head < w.tail → Numbered (queue s w.head) x → Finds steps w.seen w.pending x None
    → w'.head ≡ w.head + 1 → w'.tail ≡ w.tail → w'.pending ≡ 2 ^ 64 - 1 → w'.seen ≡ w.seen → SoundSearch steps s w'
passed_on {steps} {s} {w} {w'} x sound l at none h t p same =
    let node = numbered_fits (queue s w.head) x (sound.queue.nodes w.head l) at in
    let gone = subst (Gone steps w.seen w.pending) (sym node.1) sound.gone in
    record {
      queue = subst (λ (n : Seen). SoundQueue (Step steps) (taken n) s w'.head w'.tail) (sym same)
          (subst (λ (n : ℕ). SoundQueue (Step steps) (taken w.seen) s n w'.tail) (sym h)
          (subst (λ (n : ℕ). SoundQueue (Step steps) (taken w.seen) s (w.head + 1) n) (sym t)
          (passed sound.queue l
          (λ y q. (
            step_node steps (queue s w.head) y q,
            spent w.seen sound.even steps (queue s w.head) y (subst (λ (n : ℕ). (y : ℕ) → Fresh steps w.seen n y → ⊥) node.1 (none node.0 gone)) q,
          )))));
      even = subst (λ (n : Seen). Even n.pairs) (sym same) sound.even;
      gone = subst (λ (n : ℕ). Gone steps w'.seen n (queue s w'.head)) (sym p) (all_pending steps w'.seen (queue s w'.head));
    }

-- a node is taken up
pub took : {steps : Steps} {s s' : List ℕ} {w w' : Search} (x : Node) {r : Next} → 4096 ≤ length s → SoundSearch steps s w → w.head < w.tail → Numbered (queue s w.head) x → Found steps w.seen w.pending (number_of x) r
    → s' ≡ enqueue s (number_of r.node) w.head w.tail → TakenUp w.seen w'.seen (number_of r.node) → w'.head ≡ w.head → w'.tail ≡ w.tail + 1 → w'.pending ≡ r.pending → TookUp steps s s' w w' w.tail r.node
took {steps} {s} {s'} {w} {w'} x {r} long sound l at f e up h t p =
    let y = number_of r.node in
    let is = (numbered_fits (queue s w.head) x (sound.queue.nodes w.head l) at).1 in
    let q = fresh w.seen sound.even steps (queue s w.head) y (subst (λ (n : ℕ). Fresh steps w.seen n y) is f.fresh) in
    let node = step_node steps (queue s w.head) y q.0 in
    let T' = taken w'.seen in
    let low = few_taken long sound in
    let old : (i : ℕ) → i < w.tail → queue s' i ≡ queue s i = λ i k. ap (λ (x : List ℕ). queue x i) e ∙ up_before s y w.head w.tail long (omega arith) i k in
    let last = up_last s y w.head w.tail long (omega arith) in
    let gone = subst (λ (n : ℕ). Gone steps w.seen w.pending n → Gone steps w.seen r.pending n) is f.gone sound.gone in
    record {
      sound = record {
        queue = subst (λ (n : ℕ). SoundQueue (Step steps) T' s' n w'.tail) (sym h)
            (subst (λ (n : ℕ). SoundQueue (Step steps) T' s' w.head n) (sym t)
            (subst (λ (x : List ℕ). SoundQueue (Step steps) T' x w.head (w.tail + 1)) (sym e) (enqueued long sound.queue T' y l q.0 node q.1 up.takes)));
        even = up.even sound.even;
        gone = subst (λ (n : ℕ). Gone steps w'.seen n (queue s' w'.head)) (sym p)
            (subst (λ (n : ℕ). Gone steps w'.seen r.pending (queue s' n)) (sym h)
            (subst (λ (x : ℕ). Gone steps w'.seen r.pending x) (sym (old w.head l)) (gone_on steps r.pending (queue s w.head) sound.even up gone)));
      };
      kept = old;
      last = refl;
      more = t;
      is = ap (λ (x : List ℕ). queue x w.tail) e ∙ last;
      fits = f.fits;
    }

-- after heads that were passed
pub went_on : {steps : Steps} {s₀ s s' : List ℕ} {w₀ w w' : Search} {i : ℕ} {y : Node} → s ≡ s₀ → w.tail ≡ w₀.tail → TookUp steps s s' w w' i y → TookUp steps s₀ s' w₀ w' i y
went_on {w = w} {w'} e t v = grind (arith, common_steps)

-- the first node is all that is taken up
pub search_begin : (s s' : List ℕ) (start : ℕ) (w : Search) → 4096 ≤ length s → start ≤ 60 → s' ≡ enqueue s start 0 0 → OneTaken start w.seen → w.head ≡ 0 → w.tail ≡ 1 → w.pending ≡ 2 ^ 64 - 1 → (steps : Steps) → Begun steps s' start w
search_begin s s' start w long low e first h t p steps = record {
  sound = record {
    queue = subst (λ (n : ℕ). SoundQueue (Step steps) (taken w.seen) s' n w.tail) (sym h)
        (subst (λ (n : ℕ). SoundQueue (Step steps) (taken w.seen) s' 0 n) (sym t)
        (subst (λ (x : List ℕ). SoundQueue (Step steps) (taken w.seen) x 0 1) (sym e) (begun (Step steps) (taken w.seen) s start long (one {a = start} low) first.takes)));
    even = first.even;
    gone = subst (λ (n : ℕ). Gone steps w.seen n (queue s' w.head)) (sym p) (all_pending steps w.seen (queue s' w.head));
  };
  first = ap (λ (x : List ℕ). queue x 0) e ∙ up_last s start 0 0 long (omega arith);
  one = t;
}

-- a search that has begun, and has no goal yet
pub search_first : {steps : Steps} {s : List ℕ} {goal : Goal} {start : ℕ} {w : Search} → Begun steps s start w → is_goal goal start ≡ false → Searching steps s goal start w
search_first {s = s} {goal} b none = grind (arith, common_steps)

pub begun_found : {steps : Steps} {s : List ℕ} {goal : Goal} {start : ℕ} {w : Search} → Begun steps s start w → is_goal goal start ≡ true → Reached steps s goal start 0
begun_found {s = s} {goal = goal} {w = w} b e = record {
  head = w.head;
  tail = w.tail;
  is_taken = taken w.seen;
  sound = b.sound.queue;
  first = b.first;
  last = b.one;
  meets = ap (is_goal goal) b.first ∙ e;
  nearest = λ n k c g f. omega (arith, behind_none s 0 n refl k);
}

module _ {steps : Steps} {s s' : List ℕ} {goal : Goal} {start : ℕ} {w w' : Search} (a : Searching steps s goal start w) where
  -- one more node is taken up
  module _ {i : ℕ} {y : Node} (v : TookUp steps s s' w w' i y) where
    first : queue s' 0 ≡ start
    first = v.kept 0 a.sound.queue.begun ∙ a.first

    ends : w'.tail ≡ i + 1
    ends = omega (arith, v.more, v.last)

    -- and is one
    pub search_found : is_goal goal (number_of y) ≡ true → Reached steps s' goal start i
    search_found e = record {
      head = w'.head;
      tail = w'.tail;
      is_taken = taken w'.seen;
      sound = v.sound.queue;
      first = first;
      last = ends;
      meets = ap (is_goal goal) v.is ∙ e;
      nearest = λ n b. no_nearer v.sound.queue (is_goal goal) i n ends (λ j l. ap (is_goal goal) (v.kept j (omega (arith, v.last))) ∙ a.none j (omega (arith, v.last))) b start first;
    }

  -- the search is over
  pub search_over : Ended steps s s' w w' → Searching steps s' goal start w'
  search_over v = grind (arith, common_steps)
