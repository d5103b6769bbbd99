-- The way back from a node of the queue: how many steps it takes, what is written along it, and that the nodes on it, read
-- forwards, are a chain of steps with none twice. Assumes nothing.
use mathlib.Core.Path.{◌≡◌, refl, sym, ap, ◌∙◌, subst}
use mathlib.Core.Bool.{Bool}
use mathlib.Core.List.{List, [], ◌∷◌, ◌++◌, map, append_assoc}
use Prim.Native.Nat.{ℕ, suc, ◌+◌, ◌-◌, ◌≤◌, ◌<◌}
use native.Mathlib.Nat.{le_refl}
use native.Mathlib.Omega.{arith}
use lib.ListN.{get_or, set, length, take, drop, length-set, take-append-drop}
use lib.Seq.{take-suc, set_at, length-take-le}
use Rattle.basics.specs.Lists.{Each, Apart, end_of, Chain}
use Rattle.basics.proofs.Lists.{each_map}
use Rattle.letters.specs.declared.LetterSet.{LetterSet}
use Rattle.search.specs.declared.Goal.{Goal}
use Rattle.nodes.specs.declared.Steps.{Steps}
use Rattle.nodes.specs.Nodes.{Step}
use Rattle.search.specs.Search.{queue, back_of, Behind, first, later, is_goal, SoundQueue, Reached}
use Rattle.texts.specs.Texts.{letter_at, LeadsBack, WayTo, there, before, Traced, ShownText}
use Rattle.search.proofs.Levels.{behind_further, behind_none}
use Rattle.search.proofs.Visiting.{few_nodes}

-- ---- how many steps

-- counting: n steps from the i-th, and then what is behind j
pub record Counted (s : List ℕ) (i j n : ℕ) : Type 0 where
  pub low : j + n ≤ i
  pub whole : (m : ℕ) → Behind s j m → Behind s i (n + m)

pub count_next : {s : List ℕ} {i j n : ℕ} → 0 < j → back_of s j < j → Counted s i j n → Counted s i (back_of s j) (n + 1)
count_next {s} {i} {j} {n} l k c =
    record { low = omega arith; whole = λ m b. let e : n + suc m ≡ n + 1 + m = omega arith in subst (Behind s i) e (c.whole (suc m) (later {i = j} {n = m} l b)) }

pub count_end : {s : List ℕ} {i j n : ℕ} → j ≡ 0 → Counted s i j n → Behind s i n × (n ≤ i)
count_end {s} {i} {j} {n} e c =
    let z : n + 0 ≡ n = omega arith in
    (subst (Behind s i) z (c.whole 0 (subst (λ (k : ℕ). Behind s k 0) (sym e) first)), omega arith)

-- ---- writing, from the last letter to the first

put : (e r : List ℕ) (j v : ℕ) → j < length e → set (take (suc j) e ++ r) j v ≡ take j e ++ (v ∷ r)
put e r j v l = rw (take-suc e j 0 l, append_assoc) (set_at (take j e) (get_or e j 0) r v j (length-take-le j e (omega arith)))

pub record Writing (sets : List LetterSet) (s e o : List ℕ) (i base n j k : ℕ) : Type 0 where
  pub nodes : List ℕ
  pub way : WayTo s i j nodes
  pub low : j ≤ i
  pub steps : ℕ
  pub left : Behind s j steps
  pub place : k ≡ base + steps
  pub size : steps + length nodes ≡ n
  pub room : base + n ≤ length e
  pub same : length o ≡ length e
  pub text : o ≡ take k e ++ (map (letter_at sets) nodes ++ drop (base + n) e)

pub write_start : (sets : List LetterSet) {s : List ℕ} (e : List ℕ) {i : ℕ} (base : ℕ) {n : ℕ} → Behind s i n → base + n ≤ length e → Writing sets s e e i base n i (base + n)
write_start sets e {i} base {n} b r = record {
  nodes = [];
  way = there;
  low = le_refl i;
  steps = n;
  left = b;
  place = refl;
  size = omega arith;
  room = r;
  same = refl;
  text = sym (take-append-drop (base + n) e);
}

module _ {sets : List LetterSet} {s e o : List ℕ} {i base n j k : ℕ} (w : Writing sets s e o i base n j k) where
  -- there is a place for the next letter
  pub write_room : 0 < j → (1 ≤ k) × (k ≤ length o)
  write_room l =
      let f = behind_further s j w.steps l w.left in
      let is = f.is in
      let place = w.place in
      (omega arith, omega arith)

  pub write_next : 0 < j → back_of s j < j → {v : ℕ} → v ≡ letter_at sets (queue s j) → Writing sets s e (set o (k - 1) v) i base n (back_of s j) (k - 1)
  write_next l b {v} q =
      let f = behind_further s j w.steps l w.left in
      let room = write_room l in
      let tail = map (letter_at sets) w.nodes ++ drop (base + n) e in
      let more : k ≡ suc (k - 1) = omega arith in
      record {
        nodes = queue s j ∷ w.nodes;
        way = before {j = j} l w.way;
        low = omega arith;
        steps = f.less;
        left = f.rest;
        place = omega arith;
        size = omega arith;
        room = w.room;
        same = length-set o (k - 1) v ∙ w.same;
        text =
            ap (λ (x : List ℕ). set x (k - 1) v) (w.text ∙ ap (λ (x : ℕ). take x e ++ tail) more) ∙ put e tail (k - 1) v (omega arith)
            ∙ ap (λ (x : ℕ). take (k - 1) e ++ (x ∷ tail)) q;
      }

  pub write_end : j ≡ 0 → Traced sets s e o i base n
  write_end z =
      let none = behind_none s j w.steps z w.left in
      let here : k ≡ base = omega arith in
      record {
        nodes = w.nodes;
        way = subst (λ (x : ℕ). WayTo s i x w.nodes) z w.way;
        size = omega arith;
        text = w.text ∙ ap (λ (x : ℕ). take x e ++ (map (letter_at sets) w.nodes ++ drop (base + n) e)) here;
      }

-- the place is that which the program goes to
pub write_back : {sets : List LetterSet} {s e o : List ℕ} {i base n j j' k : ℕ} → j ≡ j' → Writing sets s e o i base n j k → Writing sets s e o i base n j' k
write_back {sets} {s} {e} {o} {i} {base} {n} {k = k} is w = subst (λ (j : ℕ). Writing sets s e o i base n j k) is w

-- ---- the nodes on the way

-- y is in the queue after the j-th and up to the i-th
pub record Among (s : List ℕ) (j i y : ℕ) : Type 0 where
  pub at : ℕ
  pub more : j < at
  pub most : at ≤ i
  pub is : queue s at ≡ y

pub record Along (E : ℕ → ℕ → Type 0) (s : List ℕ) (i j : ℕ) (nodes : List ℕ) : Type 0 where
  pub low : j ≤ i
  pub goes : Chain E (queue s j) nodes
  pub ends : end_of (queue s j) nodes ≡ queue s i
  pub among : Each (Among s j i) nodes
  pub apart : Apart nodes

pub along : {E : ℕ → ℕ → Type 0} {T : ℕ → Bool} {s : List ℕ} {h t : ℕ} → SoundQueue E T s h t → (i j : ℕ) (nodes : List ℕ) → i < t → WayTo s i j nodes → Along E s i j nodes
along w i j nodes l there = record { low = le_refl i; goes = tt; ends = refl; among = tt; apart = tt }
along {s = s} w i j nodes l (before {j = k} {nodes = c} p o) =
    let r = along w i k c l o in
    let b = w.back k p (omega arith) in
    let less = b.0 in
    record {
      low = omega arith;
      goes = (b.1, r.goes);
      ends = r.ends;
      among = (record { at = k; more = b.0; most = r.low; is = refl }, each_map (Among s k i) (Among s (back_of s k) i) (wider less) c r.among);
      apart = (each_map (Among s k i) (λ y. queue s k ≡ y → ⊥) (λ y a e. w.differ k a.at a.more (let most = a.most in omega arith) (e ∙ sym a.is)) c r.among, r.apart);
    }
  where
    wider : back_of s k < k → (y : ℕ) → Among s k i y → Among s (back_of s k) i y
    wider less y a = let more = a.more in record { at = a.at; more = omega arith; most = a.most; is = a.is }

pub leads_back : {E : ℕ → ℕ → Type 0} {T : ℕ → Bool} {s : List ℕ} {h t : ℕ} (i : ℕ) → SoundQueue E T s h t → i < t → LeadsBack s (i + 1)
leads_back i w l = let few = w.few in record { few = omega arith; lower = λ j p k. (w.back j p (omega arith)).0 }

-- ---- a search that found its goal, with the text of the way to it

module _ {t : Steps} {s : List ℕ} {goal : Goal} {u i : ℕ} (r : Reached t s goal u i) where
  pub found_leads_back : LeadsBack s (i + 1)
  found_leads_back = leads_back i r.sound (omega (arith, r.last))

  pub found_few : 4096 ≤ length s → i ≤ 1890
  found_few long = omega (arith, few_nodes long r.sound, r.last)

  pub found_steps : (P : ℕ → Type 0) → ((x y : ℕ) → Step t x y → P y) → (j : ℕ) → 0 < j → j ≤ i → P (queue s j)
  found_steps P f j l k = f (queue s (back_of s j)) (queue s j) (r.sound.back j l (omega (arith, r.last))).1

  pub shown_text : {sets : List LetterSet} {e e' : List ℕ} {base n : ℕ} → 4096 ≤ length s → Behind s i n → n ≤ i → Traced sets s e e' i base n → ShownText sets t e e' goal u base n
  shown_text {n = n} long b l tr =
      let a = along r.sound i 0 tr.nodes (omega (arith, r.last)) tr.way in
      record {
        nodes = tr.nodes;
        goes = subst (λ (x : ℕ). Chain (Step t) x tr.nodes) r.first a.goes;
        apart = a.apart;
        meets = ap (λ (x : ℕ). is_goal goal (end_of x tr.nodes)) (sym r.first) ∙ ap (is_goal goal) a.ends ∙ r.meets;
        size = tr.size;
        nearest = r.nearest n b;
        few = omega (arith, found_few long);
        text = tr.text;
      }
