-- The three demands of the calls themselves, clause by clause and for every input: records of what holds of a result, and that each
-- call, from Rattle and from C, gives a result of which it holds. In all of them b is the pattern's bytes and r the result in numbers
-- (`mark_fields_of`, `vet_fields_of`); for C it is the fields that the header reads from the returned number. Assumes nothing.
use mathlib.Core.Path.{◌≡◌, refl, sym, ap, ◌∙◌, subst}
use mathlib.Core.Logic.{◌↔◌}
use mathlib.Core.Bool.{true}
use mathlib.Core.List.{List, ◌++◌}
use Prim.Native.Nat.{ℕ, ◌+◌, ◌*◌, ◌^◌, ◌≤◌, ◌<◌, min}
use native.Mathlib.Omega.{arith}
use lib.Dec.{eqb}
use lib.IntN.{ℤ, pos, nat_abs}
use lib.ListN.{length, take, get_or}
use lib.Signed.{◌≤ℤ◌}
use borrow.Author.Tests.{eq-eqb}
use Rattle.std.specs.Prelude.{Result, Ok, Err}
use Rattle.basics.specs.Lists.{Apart, In}
use Rattle.basics.proofs.Tests.{if_yes}
use Rattle.alphabet.specs.Alphabet.{all_letters}
use Rattle.graph.specs.Readings.{Transition, is_reading, readings, credit_of, mark}
use Rattle.graph.specs.Taken.{possible, letters_taken}
use Rattle.graph.proofs.Counting.{reading_counts, count_reading}
use Rattle.graph.proofs.Taken.{taken_first}
use Rattle.pattern.specs.Grammar.{pattern_part}
use Rattle.pattern.specs.Refusals.{pattern_refusal}
use Rattle.pattern.specs.declared.Refusal.{Refusal}
use Rattle.pattern.specs.Positions.{positions, pattern_graph}
use Rattle.pattern.specs.Texts.{Text}
use Rattle.verdict.specs.Verdict.{first_pivot, verdict}
use Rattle.verdict.specs.Evidence.{times, ShowsSteady, ShowsRunaway}
use Rattle.verdict.specs.Answers.{Begins, ShowsBy}
use Rattle.marks.specs.declared.Marked.{Marked}
use Rattle.vetting.specs.Answers.{number_of, first_of, second_of, third_of, Judged}
use Rattle.vetting.specs.declared.Vetted.{Vetted}
use Rattle.calls.specs.Marking.{mark_refusal, RightMark, MarkSays}
use Rattle.calls.specs.Vetting.{vet_refusal, VetSays}
use Rattle.calls.proofs.Marking as Marking
use Rattle.calls.proofs.Vetting as Vetting
use Rattle.marking.specs.Packing.{field, VetFields, refused, vet_fields_of, vet_unpacked, int32, MarkFields, mark_fields_of, mark_unpacked}
use Rattle.marking.specs.ForC.{MarkForC, VetForC, VetAlone}
use Rattle.marking.proofs.Demands as Demands
use Rattle.marking.proofs.Packing.{vet_fields, mark_fields, mark_read}
use Rattle.marking.proofs.Stored as Stored
use Rattle.std.proofs.lemmas.Grind.{common_steps}

-- ==== What is said of marking the answer s

-- Demand 2, where nothing is refused.
pub record TrueMark (b s : List ℕ) (r : MarkFields) : Type 0 where
  -- An answer has a reading exactly when it belongs to the pattern's texts.
  pub counts_exactly_texts : Text (pattern_part b) s ↔ (1 ≤ r.count)
  -- The count is the true one or 2^63: some list has all readings, each of them once, and the count is its length up to 2^63.
  pub count_is_true : (rs : List (List Transition)) × Apart rs × ((q : List Transition) → In q rs ↔ (is_reading (pattern_graph b) s q ≡ true)) × (r.count ≡ min (length rs) (2 ^ 63))
  -- The mark is the most credit one reading earns, an integer, 0 if there is none.
  pub mark_is_earned : 1 ≤ r.count → (q : List Transition) × (is_reading (pattern_graph b) s q ≡ true) × (credit_of (pattern_graph b) q ≡ r.mark)
  pub mark_is_most : (q : List Transition) → is_reading (pattern_graph b) s q ≡ true → credit_of (pattern_graph b) q ≤ℤ r.mark
  pub mark_is_none : r.count ≡ 0 → r.mark ≡ pos 0
  -- It is from -36,864 to 36,864.
  pub mark_is_small : nat_abs r.mark ≤ 36864
  -- The letters taken are up to and with the first after which no state is possible, or all.
  pub taken_is : r.taken ≡ letters_taken (pattern_graph b) s
  pub taken_within : r.taken ≤ length s
  -- If they are fewer than the answer has, no answer that begins with them has a reading;
  pub taken_is_over : r.taken < length s → (t : List ℕ) → readings (pattern_graph b) (take r.taken s ++ t) ≡ 0
  -- with fewer letters it is not over: some answer that begins with those has a reading.
  pub taken_no_sooner : (n : ℕ) → n < r.taken → (t : List ℕ) × (all_letters t ≡ true) × (1 ≤ readings (pattern_graph b) (take n s ++ t))
  -- An answer that has a reading is taken whole.
  pub taken_whole : 1 ≤ r.count → r.taken ≡ length s

pub record MarkKeeps (b s : List ℕ) (r : MarkFields) : Type 0 where
  -- Demand 1: each refusal under its own condition and no other; and it is a number and nothing else.
  pub refusal_is : r.refusal ≡ mark_refusal b s
  pub refusal_alone : (r.refusal ≡ 0 → ⊥) → (r.count ≡ 0) × (r.mark ≡ pos 0) × (r.taken ≡ 0)
  -- An accepted pattern always gets a mark, of any answer of up to 4,096 letters.
  pub accepted_gets_mark : pattern_refusal b ≡ 0 → length s ≤ 4096 → all_letters s ≡ true → r.refusal ≡ 0
  pub true_mark : r.refusal ≡ 0 → TrueMark b s r

-- ==== What is said of vetting; e and e' are the evidence before and after, w and w' the scratch

-- Called steady, a text stands at the beginning of the evidence: letters, at most p² + p of them, p being what the call gave. It has
-- two readings, no shorter text has two, and its letters are those to be shown for them (`ShowsSteady`).
pub record SteadyText (b e e' : List ℕ) (r : VetFields) : Type 0 where
  pub text : List ℕ
  pub letters : all_letters text ≡ true
  pub short : length text ≤ r.positions * r.positions + r.positions
  pub first : r.first ≡ length text
  pub second : r.second ≡ 0
  pub third : r.third ≡ 0
  pub written : Begins text e e'
  pub shows : ShowsSteady (pattern_graph b) text
  pub two_readings : 2 ≤ readings (pattern_graph b) text
  pub shortest : (t : List ℕ) → 2 ≤ readings (pattern_graph b) t → length text ≤ length t

-- Called runaway, x, y and z stand there one after the other: letters, 1 to p of x, 1 to p² + p of y, at most p of z. x leads to the first
-- pivot and no shorter text does, y is two different loops there, z leads to an end, and the letters are those to be shown
-- (`ShowsRunaway`). x yᵏ z has at least 2ᵏ readings for every k.
pub record RunawayTexts (b e e' : List ℕ) (r : VetFields) : Type 0 where
  pub x : List ℕ
  pub y : List ℕ
  pub z : List ℕ
  pub letters : all_letters (x ++ (y ++ z)) ≡ true
  pub some_x : 1 ≤ length x
  pub short_x : length x ≤ r.positions
  pub some_y : 1 ≤ length y
  pub short_y : length y ≤ r.positions * r.positions + r.positions
  pub short_z : length z ≤ r.positions
  pub first : r.first ≡ length x
  pub second : r.second ≡ length y
  pub third : r.third ≡ length z
  pub written : Begins (x ++ (y ++ z)) e e'
  pub shows : ShowsRunaway (pattern_graph b) x y z
  pub leads : possible (pattern_graph b) x (first_pivot (pattern_graph b)) ≡ true
  pub shortest_x : (t : List ℕ) → possible (pattern_graph b) t (first_pivot (pattern_graph b)) ≡ true → length x ≤ length t
  pub readings_double : (k : ℕ) → 2 ^ k ≤ readings (pattern_graph b) (x ++ (times k y ++ z))

-- Demand 3, where nothing is refused.
pub record TrueVerdict (b e e' : List ℕ) (r : VetFields) : Type 0 where
  -- The verdict and p are those of the pattern alone, whatever the lent memory held.
  pub verdict_is : r.verdict ≡ verdict (pattern_graph b)
  pub positions_is : r.positions ≡ positions (pattern_part b)
  -- Single exactly when no answer that anyone could write has two readings; then nothing is shown, and the evidence is as before.
  pub single_exactly : (r.verdict ≡ 0) ↔ ((s : List ℕ) → all_letters s ≡ true → readings (pattern_graph b) s ≤ 1)
  pub single_shows : r.verdict ≡ 0 → (r.first ≡ 0) × (r.second ≡ 0) × (r.third ≡ 0) × (e' ≡ e)
  -- Steady: an answer of m letters has at most (m + 2)^(2p), p being what the call gave.
  pub steady_allows : r.verdict ≡ 1 → (s : List ℕ) → readings (pattern_graph b) s ≤ (length s + 2) ^ (2 * r.positions)
  pub steady_shows : r.verdict ≡ 1 → SteadyText b e e' r
  pub runaway_shows : r.verdict ≡ 2 → RunawayTexts b e e' r
  -- There is no fourth.
  pub verdict_low : r.verdict ≤ 2

pub record VetKeeps (b e e' w w' : List ℕ) (r : VetFields) : Type 0 where
  -- Demand 1: each refusal under its own condition and no other; it is a number and nothing else, and leaves all lent memory as it was.
  pub refusal_is : r.refusal ≡ vet_refusal b (length e) (length w)
  pub refusal_alone : (r.refusal ≡ 0 → ⊥) → r ≡ refused r.refusal
  pub refusal_keeps : (r.refusal ≡ 0 → ⊥) → (e' ≡ e) × (w' ≡ w)
  -- An accepted pattern with enough memory always gets a verdict.
  pub accepted_gets_verdict : pattern_refusal b ≡ 0 → 4096 ≤ length e → 4096 ≤ length w → r.refusal ≡ 0
  pub true_verdict : r.refusal ≡ 0 → TrueVerdict b e e' r
  -- Of scratch no call writes more than the first 4,096 numbers.
  pub scratch_beyond : (i : ℕ) → 4096 ≤ i → get_or w' i 0 ≡ get_or w i 0

-- Two vettings of one pattern, by any of the calls and in any two memories, give the same verdict and p.
pub same_verdict : {b e e' f f' : List ℕ} {r q : VetFields} → TrueVerdict b e e' r → TrueVerdict b f f' q → (r.verdict ≡ q.verdict) × (r.positions ≡ q.positions)
same_verdict t u = (t.verdict_is ∙ sym u.verdict_is, t.positions_is ∙ sym u.positions_is)

-- ==== Each call keeps it

-- ---- marking

module _ (b s : List ℕ) where
  true_mark : (m : Marked) → mark_refusal b s ≡ 0 → RightMark b s m → TrueMark b s (mark_fields_of (Ok m))
  true_mark m none says =
      let a = Marking.pattern_accepted b s none in
      let yes = eq-eqb (mark_refusal b s) 0 none in
      let count : m.count ≡ min (readings (pattern_graph b) s) (2 ^ 63) = says.count ∙ if_yes (min (readings (pattern_graph b) s) (2 ^ 63)) 0 (eqb (mark_refusal b s) 0) yes in
      let best : m.mark ≡ mark (pattern_graph b) s = says.mark ∙ if_yes (mark (pattern_graph b) s) (pos 0) (eqb (mark_refusal b s) 0) yes in
      let taken : m.taken ≡ letters_taken (pattern_graph b) s = says.taken ∙ if_yes (letters_taken (pattern_graph b) s) 0 (eqb (mark_refusal b s) 0) yes in
      let some : 1 ≤ m.count → 1 ≤ readings (pattern_graph b) s = λ l. omega arith in
      record {
        counts_exactly_texts = (
          λ t. let p = (Demands.texts_are_readings b s a).0 t in omega (arith, reading_counts (pattern_graph b) s p.0 p.1),
          λ l. (Demands.texts_are_readings b s a).1 (count_reading (pattern_graph b) s (some l)),
        );
        count_is_true = let l = Demands.count_is_true b s a in (l.0, l.1, l.2, count ∙ ap (λ (n : ℕ). min n (2 ^ 63)) (sym l.3));
        mark_is_earned = λ l. let q = Demands.mark_is_earned b s a (some l) in (q.0, q.1, q.2 ∙ sym best);
        mark_is_most = λ q h. subst (λ (n : ℤ). credit_of (pattern_graph b) q ≤ℤ n) (sym best) (Demands.mark_is_most b s q a h);
        mark_is_none = λ e. best ∙ Demands.mark_is_none b s a (omega arith);
        mark_is_small = says.small;
        taken_is = taken;
        taken_within = omega (arith, taken, (taken_first (pattern_graph b) s).within);
        taken_is_over = subst (λ (n : ℕ). n < length s → (t : List ℕ) → readings (pattern_graph b) (take n s ++ t) ≡ 0) (sym taken) (λ l t. Demands.taken_is_over b s t a l);
        taken_no_sooner = λ n l. Demands.taken_no_sooner b s n a (omega arith);
        taken_whole = λ l. taken ∙ Demands.taken_is_whole b s a (some l);
      }

  -- `mark_answer` gave r.
  pub mark_answer_keeps : (r : Result Marked Refusal) → MarkSays b s r → MarkKeeps b s (mark_fields_of r)
  mark_answer_keeps (Ok m) says = record {
    refusal_is = says.refusal;
    refusal_alone = λ d. absurd (d refl);
    accepted_gets_mark = λ a l t. refl;
    true_mark = λ z. true_mark m (sym says.refusal) says.marked;
  }
  mark_answer_keeps (Err e) says = grind (arith, common_steps)

-- For C: the header's shifts and masks, and the number that it makes of the 32 bits, give back what was packed.
pub mark_fields_again : (b s : List ℕ) (old new n : ℕ) (h : MarkForC b s old new n)
    → let f = mark_fields_of h.marked in (field n 32 8 ≡ f.refusal) × (int32 (field n 0 32) ≡ f.mark) × (field n 40 16 ≡ f.taken)
mark_fields_again b s old new n h = mark_fields b s old new n h

-- `marking_mark` gave n, and behind the pointer stood `old` before and stands `new` after: the header's fields of n, with `new` for
-- the count, keep all of it,
pub marking_mark_keeps : (b s : List ℕ) (old new n : ℕ) → MarkForC b s old new n → MarkKeeps b s (mark_unpacked n new)
marking_mark_keeps b s old new n h = subst (MarkKeeps b s) (sym (mark_read b s old new n h)) (mark_answer_keeps b s h.marked h.says)

-- and at a refusal the number behind the pointer is as before.
pub marking_mark_stores : (b s : List ℕ) (old new n : ℕ) → MarkForC b s old new n → ((mark_unpacked n new).refusal ≡ 0 → ⊥) → new ≡ old
marking_mark_stores b s old new n h d = h.stored ∙ Stored.count_kept b s old (λ z. d ((marking_mark_keeps b s old new n h).refusal_is ∙ z))

-- ---- vetting

module _ (b e e' w w' : List ℕ) where
  true_verdict : (v : Vetted) → pattern_refusal b ≡ 0 → Judged (pattern_graph b) e e' v → TrueVerdict b e e' (vet_fields_of (Ok v))
  true_verdict v a judged =
      let said = judged.reports.verdict_is in
      let p = sym judged.positions in
      let shown : (k : ℕ) → number_of v.verdict ≡ k → ShowsBy k (pattern_graph b) e e' (first_of v.verdict) (second_of v.verdict) (third_of v.verdict) =
      λ k is. subst (λ (k : ℕ). ShowsBy k (pattern_graph b) e e' (first_of v.verdict) (second_of v.verdict) (third_of v.verdict)) is judged.reports.shows in
      record {
        verdict_is = said;
        positions_is = judged.positions;
        single_exactly = (λ k. (Demands.single_allows_one b a).0 (sym said ∙ k), λ h. said ∙ (Demands.single_allows_one b a).1 h);
        single_shows = λ k. let t = shown 0 k in (t.first, t.second, t.third, t.kept);
        steady_allows = λ k s.
            subst (λ (n : ℕ). readings (pattern_graph b) s ≤ (length s + 2) ^ (2 * n)) p (Demands.steady_allows b s a (λ t. let f = sym k ∙ said ∙ t in absurd (omega arith)));
        steady_shows = λ k.
            let t = shown 1 k in
            record {
              text = t.text;
              letters = t.shows.letters;
              short = subst (λ (n : ℕ). length t.text ≤ n * n + n) p t.shows.short;
              first = t.first;
              second = t.second;
              third = t.third;
              written = t.written;
              shows = t.shows;
              two_readings = Demands.steady_text_has_two b t.text a t.shows;
              shortest = λ u. Demands.steady_text_is_shortest b t.text u a t.shows;
            };
        runaway_shows = λ k.
            let t = shown 2 k in
            record {
              x = t.x;
              y = t.y;
              z = t.z;
              letters = t.shows.letters;
              some_x = t.shows.some_x;
              short_x = subst (λ (n : ℕ). length t.x ≤ n) p t.shows.short_x;
              some_y = t.shows.some_y;
              short_y = subst (λ (n : ℕ). length t.y ≤ n * n + n) p t.shows.short_y;
              short_z = subst (λ (n : ℕ). length t.z ≤ n) p t.shows.short_z;
              first = t.first;
              second = t.second;
              third = t.third;
              written = t.written;
              shows = t.shows;
              leads = Demands.runaway_x_leads b t.x t.y t.z a t.shows;
              shortest_x = λ u. Demands.runaway_x_is_shortest b t.x t.y t.z u a t.shows;
              readings_double = Demands.runaway_texts_double b t.x t.y t.z a t.shows;
            };
        verdict_low = omega (arith, said, Demands.verdict_is_low b a);
      }

  -- `vet_pattern` gave r.
  pub vet_pattern_keeps : (r : Result Vetted Refusal) → VetSays b e e' w w' r → VetKeeps b e e' w w' (vet_fields_of r)
  vet_pattern_keeps (Ok v) says = record {
    refusal_is = says.refusal;
    refusal_alone = λ d. absurd (d refl);
    refusal_keeps = λ d. absurd (d refl);
    accepted_gets_verdict = λ a l k. refl;
    true_verdict = λ z. true_verdict v (Vetting.accepts b (length e) (length w) (sym says.refusal)) says.outcome.judged;
    scratch_beyond = says.outcome.beyond;
  }
  vet_pattern_keeps (Err x) says = grind (arith, common_steps)

-- For C: the header's shifts and masks give back what was packed.
pub vet_fields_again : (b e e' w w' : List ℕ) (n : ℕ) (h : VetForC b e e' w w' n) → vet_unpacked n ≡ vet_fields_of h.vetted
vet_fields_again b e e' w w' n h = vet_fields b e e' w w' n h

-- `marking_vet_in` gave n: the header's fields of n keep all of it.
pub marking_vet_in_keeps : (b e e' w w' : List ℕ) (n : ℕ) → VetForC b e e' w w' n → VetKeeps b e e' w w' (vet_unpacked n)
marking_vet_in_keeps b e e' w w' n h = subst (VetKeeps b e e' w w') (sym (vet_fields b e e' w w' n h)) (vet_pattern_keeps b e e' w w' h.vetted h.says)

-- `marking_vet` gave n: the same, and there is always enough scratch.
pub marking_vet_keeps : (b e e' : List ℕ) (n : ℕ) → VetAlone b e e' n → (w : List ℕ) × (w' : List ℕ) × (length w ≡ 4096) × VetKeeps b e e' w w' (vet_unpacked n)
marking_vet_keeps b e e' n h = (h.scratch, h.left, h.enough, marking_vet_in_keeps b e e' h.scratch h.left n h.vets)
