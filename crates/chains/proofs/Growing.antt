-- A chain that grows. First all copies are made, side by side: the rows have the links of each copy, and no other. Then copy after copy is
-- joined to the chain so far, and in the end its last copy may go round. Assumes nothing.
use mathlib.Core.Path.{◌≡◌, refl, sym, ap, ap₂, ◌∙◌, subst}
use mathlib.Core.Bool.{Bool, true, false, ◌&&◌, ◌||◌, or_self}
use mathlib.Core.List.{List}
use mathlib.Core.Logic.{⊎_elim}
use Prim.Native.Nat.{ℕ, zero, suc, ◌+◌, ◌-◌, ◌*◌, ◌≤◌, ◌<◌}
use native.Mathlib.Nat.{add-zero, add_assoc, suc-mul, zero-mul, mul-le-mul_right}
use native.Mathlib.Omega.{arith}
use lib.Dec.{eqb, leb, ltb}
use lib.ListN.{length, length-append}
use Rattle.std.specs.Prelude.{if◌then◌else◌}
use Rattle.basics.proofs.Tests.{and_parts, or_parts, by_test, if_no, le_or_lt}
use Rattle.bits.specs.Bits.{has_bit}
use Rattle.pattern.specs.Parts.{Part, Bounds}
use Rattle.pattern.specs.Positions.{positions, can_be_empty, is_first, is_last, links}
use Rattle.pattern.proofs.Moved.{first_moved, last_moved}
use Rattle.links.specs.Rows.{kept, Marks, Adds, number, after, Counts, Clear, LinksMore}
use Rattle.links.proofs.Linking.{marks_if, marks_none}
use Rattle.links.proofs.Counting.{adds_more, adds_one, counts_both, counts_new}
use Rattle.parsed.specs.declared.Parsed.{Parsed}
use Rattle.set_table.specs.declared.Tables.{Tables}
use Rattle.parsed.specs.Parsed.{Shape, shape_of, Memory, memory, Keeps, Follows, Joins}
use Rattle.parsed.proofs.Shapes.{either_shape, Owns, owns_part, owns_either}
use Rattle.parsed.proofs.Joining.{none, clear_on, keeps_linked}
use Rattle.chains.specs.Chains.{Copied, none as no_copy, after as one-copy, NextPart, Chains}
use Rattle.chains.proofs.Chains.{chain, owns_chain, chain_length, ends, interval, written}
use Rattle.chains.proofs.Copying.{Fresh, fresh, marks_moved, copy_adds, copy_counts}

-- where another copy is to come there is room for it
pub room_for : (k copies w n : ℕ) → suc k < copies → n + (copies - 1) * w ≤ 60 → n + k * w + w ≤ 60
room_for k copies w n l few = let o = suc-mul k w in let m = mul-le-mul_right {m = suc k} {n = copies - 1} w (omega arith) in omega arith

-- ---- what no copy changes

pub record Like (p r : Parsed) : Type 0 where
  pub reversed : r.reversed ≡ p.reversed
  pub hollow : r.hollow ≡ p.hollow
  pub misbounded : r.misbounded ≡ p.misbounded

pub like_self : (p : Parsed) → Like p p
like_self p = record { reversed = refl; hollow = refl; misbounded = refl }

pub like_next : (w : ℕ) (p one r : Parsed) → NextPart w one r → Like p one → Like p r
like_next w p one r c l = record {
  reversed = ap (λ (x : Parsed). x.reversed) c.same ∙ l.reversed;
  hollow = ap (λ (x : Parsed). x.hollow) c.same ∙ l.hollow;
  misbounded = ap (λ (x : Parsed). x.misbounded) c.same ∙ l.misbounded;
}

pub like_joined : (p a b r : Parsed) → Follows a b r → Like p a → Like p b → Like p r
like_joined p a b r f k l = record {
  reversed = f.reversed ∙ ap₂ ◌||◌ k.reversed l.reversed ∙ or_self p.reversed;
  hollow = f.hollow ∙ ap₂ ◌||◌ k.hollow l.hollow ∙ or_self p.hollow;
  misbounded = f.misbounded ∙ ap₂ ◌||◌ k.misbounded l.misbounded ∙ or_self p.misbounded;
}

-- ---- copies side by side

module _ (n : ℕ) (m : Memory) (q : Part) where
  abbrev x : Shape
  x = shape_of q

  abbrev w : ℕ
  w = positions q

  abbrev chained : ℕ → Shape
  chained = chain x (owns_part q)

  -- the part, and k copies beside it
  abbrev side : ℕ → Shape
  side zero = x
  side (suc k) = either_shape (side k) x

  owns_side : (k : ℕ) → Owns (side k)
  owns_side zero = owns_part q
  owns_side (suc k) = owns_either (side k) x (owns_side k) (owns_part q)

  side_length : (k : ℕ) → length (side k).atoms ≡ suc k * w
  side_length zero = let o = suc-mul 0 w in let z = zero-mul w in omega arith
  side_length (suc k) = let l = length-append (side k).atoms x.atoms in let o = suc-mul (suc k) w in let i = side_length k in omega arith

  -- the rows have them
  pub record Side (k : ℕ) (doubled : Bool) (rows more : List ℕ) : Type 0 where
    pub adds : Adds m.rows (λ a b. ltb 0 ((side k).links n a b)) rows
    pub counts : Counts m.rows m.more ((side k).links n) rows more
    pub last : Fresh (n + k * w) doubled rows more q
    pub single : doubled ≡ false → more ≡ m.more

  -- p is the part, and K copies are beside it
  pub record Begun (K : ℕ) (p : Parsed) (rows more : List ℕ) : Type 0 where
    pub empty : p.empty ≡ can_be_empty q
    pub firsts : Marks p.firsts (λ i. is_first n q i)
    pub lasts : Marks p.lasts (λ i. is_last n q i)
    pub beside : Side K p.doubled rows more

  -- where the next copy begins
  next_from : (k : ℕ) → n + length (side k).atoms ≡ n + suc k * w
  next_from k = ap (λ (i : ℕ). n + i) (side_length k)

  one_further : (k : ℕ) → n + k * w + w ≡ n + suc k * w
  one_further k = let o = suc-mul k w in omega arith

  pub sides : {doubled : Bool} {j : ℕ} {rows more made made_more : List ℕ} → Copied w doubled (n + w) j rows more made made_more → n + suc j * w ≤ 60 → Clear n m.rows m.more
      → Adds m.rows (λ a b. ltb 0 (links n q a b)) rows → Counts m.rows m.more (links n q) rows more → (doubled ≡ false → more ≡ m.more) → Side j doubled made made_more
  sides {doubled = doubled} {rows = rows} {more = more} no_copy few c adds counts single = record {
    adds = adds;
    counts = counts;
    last = subst (λ (i : ℕ). Fresh i doubled rows more q) (let z = zero-mul w in omega arith) (fresh n doubled m.rows m.more rows more q c adds counts single);
    single = single;
  }
  sides {doubled = doubled} {made = rows''} {made_more = more''} (one-copy {k = k} {rows' = rows'} {more' = more'} before next) few c adds counts single =
      let o = suc-mul (suc k) w in
      let s : Side k doubled rows' more' = sides before (omega arith) c adds counts single in
      let from = n + k * w in
      let cl : Clear (from + w) rows' more' = subst (λ (i : ℕ). Clear i rows' more') (next_from k ∙ sym (one_further k)) (clear_on n (side k) m.rows m.more rows' more' (owns_side k) c s.adds s.counts) in
      let last : n + w + k * w ≡ from + w = omega arith in
      let more_adds : Adds rows' (λ a b. ltb 0 (links (from + w) q a b)) rows'' = copy_adds q from (n + w + k * w) doubled rows' more' rows'' more'' (omega (arith, one_further k)) last s.last cl next in
      let more_counts : Counts rows' more' (links (from + w) q) rows'' more'' = copy_counts q from (n + w + k * w) doubled rows' more' rows'' more'' (omega (arith, one_further k)) last s.last cl next in
      let same : from + w ≡ n + length (side k).atoms = one_further k ∙ sym (next_from k) in
      record {
        adds = adds_more m.rows rows' rows'' ((side k).links n) (λ a b. links (n + length (side k).atoms) q a b) s.adds (subst (λ (i : ℕ). Adds rows' (λ a b. ltb 0 (links i q a b)) rows'') same more_adds);
        counts = counts_both m.rows m.more rows' more' rows'' more'' ((side k).links n) (λ a b. links (n + length (side k).atoms) q a b) s.counts (subst (λ (i : ℕ). Counts rows' more' (links i q) rows'' more'') same more_counts);
        last = subst (λ (i : ℕ). Fresh i doubled rows'' more'' q) (one_further k) (fresh (from + w) doubled rows' more' rows'' more'' q cl more_adds more_counts next.none);
        single = λ d. next.none d ∙ s.single d;
      }

  -- no link leads from a copy to a later one
  side_none : (j k a b : ℕ) → a ≤ n + suc k * w → n + suc k * w < b → (side j).links n a b ≡ 0
  side_none zero k a b h l = none (x.links n a b) (λ e. let i = ((owns_part q).links n a b e).1 in let o = suc-mul k w in omega arith)
  side_none (suc j) k a b h l =
      let i = side_none j k a b h l in
      let z : links (n + length (side j).atoms) q a b ≡ 0 = none (links (n + length (side j).atoms) q a b) (λ e. let u = (owns_part q).links (n + length (side j).atoms) a b e in later u.0.0 u.1.1) in
      omega arith
    where
      later : n + length (side j).atoms < a → b ≤ n + length (side j).atoms + w → ⊥
      later e f =
          ⊎_elim (λ g. let m = mul-le-mul_right {m = suc k} {n = suc j} w g in omega (arith, side_length j))
          (λ g. let m = mul-le-mul_right {m = suc (suc j)} {n = suc k} w g in let o = suc-mul (suc j) w in omega (arith, side_length j)) (le_or_lt (suc k) (suc j))

  -- ---- copies joined, of K beside the part

  -- the links of the first k joinings
  abbrev over : ℕ → ℕ → ℕ → ℕ
  over k a b = if (chained k).last n a && is_first (n + suc k * w) q b then 1 else 0

  abbrev overs : ℕ → ℕ → ℕ → ℕ
  overs zero a b = 0
  overs (suc k) a b = overs k a b + over k a b

  overs_none : (j k a b : ℕ) → j ≤ k → n + suc k * w < b → overs j a b ≡ 0
  overs_none zero k a b h l = refl
  overs_none (suc j) k a b h l =
      let i = overs_none j k a b (omega arith) l in
      let z : over j a b ≡ 0 = if_no 1 0 ((chained j).last n a && is_first (n + suc j * w) q b) (by_test ((chained j).last n a && is_first (n + suc j * w) q b) (λ e. absurd (later ((owns_part q).firsts (n + suc j * w) b (and_parts ((chained j).last n a) (is_first (n + suc j * w) q b) e).1).1)) (λ e. e)) in
      omega arith
    where
      later : b ≤ n + suc j * w + w → ⊥
      later f = let m = mul-le-mul_right {m = suc (suc j)} {n = suc k} w (omega arith) in let o = suc-mul (suc j) w in omega arith

  -- all together they are the chain's
  joined_all : (k a b : ℕ) → (side k).links n a b + overs k a b ≡ (chained k).links n a b
  joined_all zero a b = add-zero (x.links n a b)
  joined_all (suc k) a b =
      let i = joined_all k a b in
      let s : links (n + length (side k).atoms) q a b ≡ links (n + length (chained k).atoms) q a b = ap (λ (j : ℕ). links (n + j) q a b) (side_length k ∙ sym (chain_length x (owns_part q) k)) in
      let o : over k a b ≡ (if (chained k).last n a && is_first (n + length (chained k).atoms) q b then 1 else 0) = ap (λ (j : ℕ). if (chained k).last n a && is_first (n + j) q b then 1 else 0) (sym (chain_length x (owns_part q) k)) in
      omega arith

  module _ (lower K : ℕ) (tables : Tables) where
    -- the chain of k copies more, where all are made
    abbrev mixed : ℕ → Shape
    mixed k = record { atoms = (chained k).atoms; empty = (chained k).empty; first = (chained k).first; last = (chained k).last; links = λ i a b. (side K).links n a b + overs k a b; misbounded = (chained k).misbounded }

    -- `all` is that chain, `one` its last copy, and it may end at `end`
    pub record Grown (k : ℕ) (rows more : List ℕ) (all one : Parsed) (end : ℕ) : Type 0 where
      pub whole : Keeps n m (memory rows more tables) (mixed k) all
      pub empty : one.empty ≡ can_be_empty q
      pub firsts : Marks one.firsts (λ i. is_first (n + k * w) q i)
      pub lasts : Marks one.lasts (λ i. is_last (n + k * w) q i)
      pub stops : Marks end (ends x (owns_part q) lower k n)

    pub grown_none : (rows' more' : List ℕ) (p : Parsed) → Begun K p rows' more' → Grown 0 rows' more' p p p.lasts
    grown_none rows' more' p k = record {
      whole = record {
        empty = k.empty;
        firsts = k.firsts;
        lasts = k.lasts;
        adds = subst (λ (g : ℕ → ℕ → ℕ). Adds m.rows (λ a b. ltb 0 (g a b)) rows') (λ t a b. sym (add-zero ((side K).links n a b)) t) k.beside.adds;
        counts = subst (λ (g : ℕ → ℕ → ℕ). Counts m.rows m.more g rows' more') (λ t a b. sym (add-zero ((side K).links n a b)) t) k.beside.counts;
        none = k.beside.single;
      };
      empty = k.empty;
      firsts = subst (λ (i : ℕ). Marks p.firsts (λ j. is_first i q j)) from k.firsts;
      lasts = subst (λ (i : ℕ). Marks p.lasts (λ j. is_last i q j)) from k.lasts;
      stops = k.lasts;
    }
      where
        from : n ≡ n + 0 * w
        from = let z = zero-mul w in omega arith

    module _ (c : Clear n m.rows m.more) (k : ℕ) (rows more : List ℕ) (all one : Parsed) (end : ℕ) (g : Grown k rows more all one end) where
      pub grown_more : (rows' : List ℕ) (one' all' : Parsed) (end' : ℕ) → n + suc k * w + w ≤ 60 → NextPart w one one' → Joins rows rows' all one' all'
          → (one'.doubled ≡ false → more ≡ m.more) → ((b : ℕ) → has_bit end' b ≡ (has_bit all'.lasts b || (leb lower (suc k) && has_bit end b))) → Grown (suc k) rows' more all' one' end'
      grown_more rows' one' all' end' few next joins single stop =
          let kept-all = g.whole in
          let empty : one'.empty ≡ can_be_empty q = ap (λ (y : Parsed). y.empty) next.same ∙ g.empty in
          let room : n + k * w + w + w ≤ 60 = omega (arith, few, one_further k) in
          let firsts : Marks one'.firsts (λ i. is_first (n + suc k * w) q i) = subst (λ (i : ℕ). Marks one'.firsts (λ j. is_first i q j)) (one_further k) (marks_moved (λ i j. is_first i q j) w (owns_part q).firsts (first_moved q) (n + k * w) one.firsts one'.firsts room next.firsts g.firsts) in
          let lasts : Marks one'.lasts (λ i. is_last (n + suc k * w) q i) = subst (λ (i : ℕ). Marks one'.lasts (λ j. is_last i q j)) (one_further k) (marks_moved (λ i j. is_last i q j) w (owns_part q).lasts (last_moved q) (n + k * w) one.lasts one'.lasts room next.lasts g.lasts) in
          let at_end : n + suc k * w ≡ n + length (chained k).atoms = ap (λ (i : ℕ). n + i) (sym (chain_length x (owns_part q) k)) in
          let all_lasts : Marks all'.lasts ((chained (suc k)).last n) =
          subst (λ (u : Bool × ℕ). Marks all'.lasts (λ j. is_last u.1 q j || (u.0 && (chained k).last n j))) (λ t. (empty t, at_end t))
          (marks_if all'.lasts one'.lasts all.lasts (λ j. is_last (n + suc k * w) q j) ((chained k).last n) one'.empty joins.lasts lasts kept-all.lasts) in
          record {
            whole = record {
              empty = joins.empty ∙ ap₂ ◌&&◌ kept-all.empty empty;
              firsts = subst (λ (u : Bool × ℕ). Marks all'.firsts (λ j. (chained k).first n j || (u.0 && is_first u.1 q j))) (λ t. (kept-all.empty t, at_end t))
                  (marks_if all'.firsts all.firsts one'.firsts ((chained k).first n) (λ j. is_first (n + suc k * w) q j) all.empty joins.firsts kept-all.firsts firsts);
              lasts = all_lasts;
              adds = subst (λ (h : ℕ → ℕ → ℕ). Adds m.rows (λ a b. ltb 0 (h a b)) rows') (λ t a b. add_assoc ((side K).links n a b) (overs k a b) (over k a b) t)
                  (adds_more m.rows rows rows' (λ a b. (side K).links n a b + overs k a b) (over k) kept-all.adds (adds_one rows rows' all.lasts one'.firsts ((chained k).last n) (λ j. is_first (n + suc k * w) q j) joins.links kept-all.lasts firsts));
              counts = subst (λ (h : ℕ → ℕ → ℕ). Counts m.rows m.more h rows' more) (λ t a b. add_assoc ((side K).links n a b) (overs k a b) (over k a b) t)
                  (counts_both m.rows m.more rows more rows' more (λ a b. (side K).links n a b + overs k a b) (over k) kept-all.counts
                  (counts_new rows rows' all.lasts one'.firsts ((chained k).last n) (λ j. is_first (n + suc k * w) q j) joins.links kept-all.lasts firsts more not_yet));
              none = λ d. single (or_parts all.doubled one'.doubled (sym joins.doubled ∙ d)).1;
            };
            empty = empty;
            firsts = firsts;
            lasts = lasts;
            stops = marks_if end' all'.lasts end ((chained (suc k)).last n) (ends x (owns_part q) lower k n) (leb lower (suc k)) stop all_lasts g.stops;
          }
        where
          -- from a last of the chain to a first of the next copy no link leads yet
          not_yet : (a b : ℕ) → kept a ≡ true → kept b ≡ true → ((chained k).last n a && is_first (n + suc k * w) q b) ≡ true → number rows more a b ≡ 0
          not_yet a b i j e =
              let u = and_parts ((chained k).last n a) (is_first (n + suc k * w) q b) e in
              let o = (owns_chain x (owns_part q) k).lasts n a u.0 in
              let l = (owns_part q).firsts (n + suc k * w) b u.1 in
              let z : (side K).links n a b + overs k a b ≡ 0 = omega (arith, side_none K k a b (omega (arith, o.1, chain_length x (owns_part q) k)) l.0, overs_none k k a b (omega arith) l.0) in
              g.whole.counts a b i j ∙ ap₂ after z (c.none a b i j o.0)

      -- the last copy may go round
      pub grown_turned : k ≡ K → (endless : Bool) (back : ℕ) (rows' more' : List ℕ) (second : Bool) (r : Parsed) → ((b : ℕ) → has_bit back b ≡ (has_bit 0 b || (endless && has_bit one.lasts b))) → LinksMore rows more back one.firsts rows' more' second
          → r.empty ≡ (eqb lower 0 || all.empty) → r.firsts ≡ all.firsts → r.lasts ≡ end → r.doubled ≡ (all.doubled || second) → Keeps n m (memory rows' more' tables) (interval q lower k endless) r
      grown_turned full endless back rows' more' second r j l e f d s =
          keeps_linked n m (memory rows more tables) (mixed k) (interval q lower k endless) all r g.whole back one.firsts (λ a. endless && is_last (n + k * w) q a) (λ b. is_first (n + k * w) q b)
          (marks_if back 0 one.lasts (λ a. false) (λ a. is_last (n + k * w) q a) endless j marks_none g.lasts) g.firsts rows' more' second l
          (e ∙ ap (λ (t : Bool). eqb lower 0 || t) g.whole.empty) (subst (λ (t : ℕ). Marks t ((chained k).first n)) (sym f) g.whole.firsts) (subst (λ (t : ℕ). Marks t (ends x (owns_part q) lower k n)) (sym d) g.stops) s
          (λ a b. ap (λ (i : ℕ). i + (if (endless && is_last (n + k * w) q a) && is_first (n + k * w) q b then 1 else 0)) (sym (joined_all k a b) ∙ ap (λ (i : ℕ). (side i).links n a b + overs k a b) full))

-- ---- the copies are joined

-- i copies are joined of `copies`, the first among them, of the part p with w positions, where the rows were rows₀ with all of them
-- side by side
pub record Sofar (w copies lower : ℕ) (rows₀ more : List ℕ) (p : Parsed) (rows : List ℕ) (all one : Parsed) (end i : ℕ) : Type 0 where
  pub more_made : ℕ
  pub made : i ≡ suc more_made
  pub few : i ≤ copies
  pub all_like : Like p all
  pub one_like : Like p one
  pub doubled : one.doubled ≡ p.doubled
  pub count : all.n ≡ p.n + more_made * w
  pub last_count : one.n ≡ all.n
  pub grown : (n : ℕ) (m : Memory) (tables : Tables) (q : Part) → positions q ≡ w → p.n ≡ n + w → Clear n m.rows m.more → Begun n m q (copies - 1) p rows₀ more
      → Grown n m q lower (copies - 1) tables more_made rows more all one end

module _ (w copies lower : ℕ) (rows₀ more : List ℕ) (p : Parsed) (some : 0 < copies) (room : p.n + (copies - 1) * w ≤ 60) where
  pub begins : Sofar w copies lower rows₀ more p rows₀ p p p.lasts 1
  begins = record {
    more_made = 0;
    made = refl;
    few = omega arith;
    all_like = like_self p;
    one_like = like_self p;
    doubled = refl;
    count = let z = zero-mul w in omega arith;
    last_count = refl;
    grown = λ n m tables q e f c k. grown_none n m q lower (copies - 1) tables rows₀ more p k;
  }

  module _ (rows : List ℕ) (all one : Parsed) (end i : ℕ) (s : Sofar w copies lower rows₀ more p rows all one end i) where
    pub has_room : i < copies → one.n + w ≤ 60
    has_room l = omega (arith, s.count, s.last_count, room_for s.more_made copies w p.n (omega (arith, s.made)) room)

    pub goes_on : (rows' : List ℕ) (one' all' : Parsed) (end' : ℕ) → i < copies → NextPart w one one' → Joins rows rows' all one' all'
        → ((b : ℕ) → has_bit end' b ≡ (has_bit all'.lasts b || (leb lower i && has_bit end b))) → Sofar w copies lower rows₀ more p rows' all' one' end' (i + 1)
    goes_on rows' one' all' end' l next joins stop =
        let count : one'.n ≡ one.n + w = ap (λ (y : Parsed). y.n) next.same in
        let double : one'.doubled ≡ p.doubled = ap (λ (y : Parsed). y.doubled) next.same ∙ s.doubled in
        record {
          more_made = suc s.more_made;
          made = omega (arith, s.made);
          few = omega arith;
          all_like = like_joined p all one' all' joins.follows s.all_like (like_next w p one one' next s.one_like);
          one_like = like_next w p one one' next s.one_like;
          doubled = double;
          count = let o = suc-mul s.more_made w in omega (arith, joins.follows.count, count, s.count, s.last_count);
          last_count = sym joins.follows.count;
          grown = λ n m tables q e f c k.
              let o = suc-mul s.more_made (positions q) in
              let g = s.grown n m tables q e f c k in
              let few : n + suc s.more_made * positions q + positions q ≤ 60 = omega (arith, has_room l, s.count, s.last_count, f, ap (λ (v : ℕ). s.more_made * v) e, e) in
              grown_more n m q lower (copies - 1) tables c s.more_made rows more all one end g rows' one' all' end' few (subst (λ (v : ℕ). NextPart v one one') (sym e) next) joins (λ d. k.beside.single (sym double ∙ d))
              (subst (λ (v : ℕ). (b : ℕ) → has_bit end' b ≡ (has_bit all'.lasts b || (leb lower v && has_bit end b))) s.made stop);
        }

    abbrev pub chained_to : Bool → Parsed
    chained_to second = record { n = all.n; empty = eqb lower 0 || all.empty; firsts = all.firsts; lasts = end; reversed = all.reversed; hollow = all.hollow; misbounded = all.misbounded; doubled = all.doubled || second }

    pub stops : (start start-more : List ℕ) (b : Bounds) → b.lower ≡ lower → (endless : Bool) → endless ≡ b.endless → (back : ℕ) (rows' more' : List ℕ) (second : Bool) → Copied w p.doubled p.n (copies - 1) start start-more rows₀ more → copies ≤ i → ((b : ℕ) → has_bit back b ≡ (has_bit 0 b || (endless && has_bit one.lasts b))) → LinksMore rows more back one.firsts rows' more' second
        → Chains w copies b start start-more rows' more' p (chained_to second)
    stops start start-more b low endless f back rows' more' second copied l j linked =
        let k : copies ≡ suc s.more_made = omega (arith, s.made, s.few) in
        let less : s.more_made ≡ copies - 1 = omega arith in
        record {
          count = s.count ∙ ap (λ (v : ℕ). p.n + v * w) less;
          reversed = s.all_like.reversed;
          hollow = s.all_like.hollow;
          misbounded = s.all_like.misbounded;
          keeps = λ n m tables q e many wide at c kept.
              let o = suc-mul (copies - 1) (positions q) in
              let begun : Begun n m q (copies - 1) p rows₀ more =
              record {
                empty = kept.empty;
                firsts = kept.firsts;
                lasts = kept.lasts;
                beside = sides n m q (subst (λ (u : ℕ × ℕ). Copied u.0 p.doubled u.1 (copies - 1) start start-more rows₀ more) (λ t. (sym wide t, (at ∙ ap (λ (v : ℕ). n + v) (sym wide)) t)) copied)
                    (omega (arith, room, at, wide, ap (λ (v : ℕ). (copies - 1) * v) wide)) c kept.adds kept.counts kept.none;
              } in
              subst (λ (x : Shape). Keeps n m (memory rows' more' tables) x (chained_to second)) ((λ t. interval q (sym low t) s.more_made (f t)) ∙ sym (written q b s.more_made e (sym many ∙ k)))
              (grown_turned n m q lower (copies - 1) tables c s.more_made rows more all one end (s.grown n m tables q wide at c begun) less endless back rows' more' second (chained_to second) j linked refl refl refl refl);
        }
