-- Demands 2 and 3 for every accepted pattern, and that vetting can show its texts. Each statement is one sentence of a demand; its
-- proof cites the crate that has it. In all of them b is a pattern's bytes, `pattern_refusal b ≡ 0` says that the pattern is accepted,
-- `pattern_graph b` is its graph, and s is an answer: any list of letters, of any length. A reading r is a list of transitions, each a
-- position and the link taken to it. First stands that the grammar's two bounds, which let its functions end, shut out no text. Assumes
-- nothing.
use mathlib.Core.Path.{◌≡◌}
use mathlib.Core.Logic.{◌↔◌}
use mathlib.Core.Bool.{true, false}
use mathlib.Core.List.{List, ◌++◌}
use Prim.Native.Nat.{ℕ, suc, ◌+◌, ◌*◌, ◌^◌, ◌≤◌, ◌<◌}
use lib.IntN.{pos}
use lib.ListN.{length, take}
use lib.Signed.{◌≤ℤ◌}
use Rattle.basics.specs.Lists.{Apart, In}
use Rattle.alphabet.specs.Alphabet.{is_letter, all_letters}
use Rattle.letters.specs.Order.{place}
use Rattle.letters.proofs.Order as Order
use Rattle.graph.specs.Readings.{Transition, is_reading, readings, credit_of, mark}
use Rattle.graph.specs.Taken.{possible, letters_taken}
use Rattle.graph.proofs.Counting as Counting
use Rattle.graph.proofs.Marks as Marks
use Rattle.graph.proofs.Taken as Taken
use Rattle.pattern.specs.Parts.{Item, Part, Bounds, out_of_bounds, written_out}
use Rattle.pattern.specs.Grammar.{items_from, pattern_from, read_pattern, pattern_part}
use Rattle.pattern.specs.Refusals.{pattern_refusal}
use Rattle.pattern.specs.Positions.{positions, pattern_graph}
use Rattle.pattern.specs.Texts.{Text, Counted}
use Rattle.pattern.proofs.Texts as Texts
use Rattle.pattern.proofs.Intervals as Intervals
use Rattle.pattern.proofs.Own.{some_position}
use Rattle.pattern.proofs.Doubled.{trim}
use Rattle.reader.proofs.Enough as Enough
use Rattle.verdict.specs.Pairs.{both_hold, shares, letter_shown}
use Rattle.verdict.specs.Verdict.{first_pivot, verdict}
use Rattle.verdict.specs.Evidence.{times, ShowsSteady, ShowsRunaway}
use Rattle.verdict.proofs.Onward as Onward
use Rattle.verdict.proofs.Shows as Shows
use Rattle.verdict.proofs.Bounds as Bounds

-- ---- The grammar's bounds

-- How deep its functions may call each other: with any greater bound every text is read the same, accepted or not;
pub depth_is_enough : (s : List ℕ) (n : ℕ) → suc (3 * suc (length s)) ≤ n → pattern_from n s ≡ read_pattern s
depth_is_enough s n h = Enough.deeper_reads_same n s h

-- and so are the items of a class with any greater bound on how many they may be.
pub items_are_enough : (s : List ℕ) (is : List Item) (n : ℕ) → suc (length s) ≤ n → items_from n is s ≡ items_from (suc (length s)) is s
items_are_enough s is n h = Enough.longer_reads_same n is s h

-- ---- Demand 2

-- "An answer has a reading exactly when it belongs to the pattern's texts as POSIX defines alternation, joining and repetition."
pub texts_are_readings : (b s : List ℕ) → pattern_refusal b ≡ 0 → Text (pattern_part b) s ↔ ((r : List Transition) × (is_reading (pattern_graph b) s r ≡ true))
texts_are_readings b s a = Texts.texts_read (pattern_part b) s

-- Of an interval those are the texts of its atom, one after another, as many as its bounds allow.
pub interval_texts : (b : Bounds) (p : Part) (s : List ℕ) → out_of_bounds b ≡ false → Text (written_out b p) s ↔ Counted p b s
interval_texts b p s e = Intervals.interval_texts b p s e

-- "The count is the true one": some list has all readings, each of them once, and is as long as the count says.
pub count_is_true : (b s : List ℕ) → pattern_refusal b ≡ 0
    → (rs : List (List Transition)) × Apart rs × ((r : List Transition) → In r rs ↔ (is_reading (pattern_graph b) s r ≡ true)) × (length rs ≡ readings (pattern_graph b) s)
count_is_true b s a = Counting.readings_listed (pattern_graph b) s

-- "The mark is the most credit one reading earns", an integer, as all credits are: where there is a reading, one earns it;
pub mark_is_earned : (b s : List ℕ) → pattern_refusal b ≡ 0 → 1 ≤ readings (pattern_graph b) s
    → (r : List Transition) × (is_reading (pattern_graph b) s r ≡ true) × (credit_of (pattern_graph b) r ≡ mark (pattern_graph b) s)
mark_is_earned b s a = Marks.mark_earned (pattern_graph b) s

-- no reading earns more;
pub mark_is_most : (b s : List ℕ) (r : List Transition) → pattern_refusal b ≡ 0 → is_reading (pattern_graph b) s r ≡ true → credit_of (pattern_graph b) r ≤ℤ mark (pattern_graph b) s
mark_is_most b s r a = Marks.mark_most (pattern_graph b) s r

-- "0 if there is none."
pub mark_is_none : (b s : List ℕ) → pattern_refusal b ≡ 0 → readings (pattern_graph b) s ≡ 0 → mark (pattern_graph b) s ≡ pos 0
mark_is_none b s a = Marks.mark_none (pattern_graph b) s

-- The letters taken: up to and with the first after which no state is possible. If they are fewer than the answer has, no answer
-- that begins with them has a reading;
pub taken_is_over : (b s t : List ℕ) → pattern_refusal b ≡ 0 → letters_taken (pattern_graph b) s < length s → readings (pattern_graph b) (take (letters_taken (pattern_graph b) s) s ++ t) ≡ 0
taken_is_over b s t a = Taken.taken_over (pattern_graph b) s t

-- with fewer letters it is not over: some answer that begins with those has a reading;
pub taken_no_sooner : (b s : List ℕ) (n : ℕ) → pattern_refusal b ≡ 0 → n < letters_taken (pattern_graph b) s → (t : List ℕ) × (all_letters t ≡ true) × (1 ≤ readings (pattern_graph b) (take n s ++ t))
taken_no_sooner b s n a l = Onward.live_goes_on (pattern_graph b) (trim b a) (some_position (pattern_part b)) (take n s) ((Taken.taken_first (pattern_graph b) s).none n l)

-- and an answer that has a reading is taken whole.
pub taken_is_whole : (b s : List ℕ) → pattern_refusal b ≡ 0 → 1 ≤ readings (pattern_graph b) s → letters_taken (pattern_graph b) s ≡ length s
taken_is_whole b s a = Taken.taken_whole (pattern_graph b) s

-- ---- Demand 3: "Nobody who writes an answer can give it more readings than the verdict allows."

-- Single, steady and runaway are 0, 1 and 2; there is no fourth.
pub verdict_is_low : (b : List ℕ) → pattern_refusal b ≡ 0 → verdict (pattern_graph b) ≤ 2
verdict_is_low b a = Bounds.verdict_low (pattern_graph b)

-- Single: no answer has two readings, and of no other pattern is that so.
pub single_allows_one : (b : List ℕ) → pattern_refusal b ≡ 0 → (verdict (pattern_graph b) ≡ 0) ↔ ((s : List ℕ) → all_letters s ≡ true → readings (pattern_graph b) s ≤ 1)
single_allows_one b a = Bounds.single (pattern_graph b) (trim b a)

-- Steady: an answer of m letters has at most (m + 2)^(2p). (So it is for single patterns too.)
pub steady_allows : (b s : List ℕ) → pattern_refusal b ≡ 0 → (verdict (pattern_graph b) ≡ 2 → ⊥) → readings (pattern_graph b) s ≤ (length s + 2) ^ (2 * positions (pattern_part b))
steady_allows b s a v = Bounds.bounded (pattern_graph b) (trim b a) v s

-- Steady: some answer has two readings, and vetting can show one of at most p² + p letters.
pub steady_can_show : (b : List ℕ) → pattern_refusal b ≡ 0 → verdict (pattern_graph b) ≡ 1 → (s : List ℕ) × ShowsSteady (pattern_graph b) s
steady_can_show b a = Bounds.steady_can (pattern_graph b) (trim b a)

pub steady_text_has_two : (b s : List ℕ) → pattern_refusal b ≡ 0 → ShowsSteady (pattern_graph b) s → 2 ≤ readings (pattern_graph b) s
steady_text_has_two b s a = Bounds.steady_shown (pattern_graph b) s

-- and no text with two readings is shorter than one that is shown.
pub steady_text_is_shortest : (b s t : List ℕ) → pattern_refusal b ≡ 0 → ShowsSteady (pattern_graph b) s → 2 ≤ readings (pattern_graph b) t → length s ≤ length t
steady_text_is_shortest b s t a h = h.shortest t

-- Runaway: vetting can show texts x, y, z,
pub runaway_can_show : (b : List ℕ) → pattern_refusal b ≡ 0 → verdict (pattern_graph b) ≡ 2 → (x : List ℕ) × (y : List ℕ) × (z : List ℕ) × ShowsRunaway (pattern_graph b) x y z
runaway_can_show b a = Bounds.runaway_can (pattern_graph b) (trim b a)

-- and x yᵏ z has at least 2ᵏ readings for every k.
pub runaway_texts_double : (b x y z : List ℕ) → pattern_refusal b ≡ 0 → ShowsRunaway (pattern_graph b) x y z → (k : ℕ) → 2 ^ k ≤ readings (pattern_graph b) (x ++ (times k y ++ z))
runaway_texts_double b x y z a = Bounds.runaway_shown (pattern_graph b) x y z

-- x leads to the first pivot, where y begins and ends: after its letters that state is possible,
pub runaway_x_leads : (b x y z : List ℕ) → pattern_refusal b ≡ 0 → ShowsRunaway (pattern_graph b) x y z → possible (pattern_graph b) x (first_pivot (pattern_graph b)) ≡ true
runaway_x_leads b x y z a = Shows.runaway_leads (pattern_graph b) x y z

-- and after no text that is shorter.
pub runaway_x_is_shortest : (b x y z t : List ℕ) → pattern_refusal b ≡ 0 → ShowsRunaway (pattern_graph b) x y z → possible (pattern_graph b) t (first_pivot (pattern_graph b)) ≡ true → length x ≤ length t
runaway_x_is_shortest b x y z t a h = h.shortest_x t

-- The letter shown where two paths come to the positions i and j, or one path to i, and j is i: both sets hold it,
pub letter_shown_serves : (b : List ℕ) (i j : ℕ) → pattern_refusal b ≡ 0 → shares (pattern_graph b) i j ≡ true → both_hold (pattern_graph b) i j (letter_shown (pattern_graph b) i j) ≡ true
letter_shown_serves b i j a h = (Order.first_letter_serves (both_hold (pattern_graph b) i j) h).1

-- and no letter that both hold comes before it in the order.
pub letter_shown_is_first : (b : List ℕ) (i j c : ℕ) → pattern_refusal b ≡ 0 → is_letter c ≡ true → both_hold (pattern_graph b) i j c ≡ true → place (letter_shown (pattern_graph b) i j) ≤ place c
letter_shown_is_first b i j c a l h = Order.first_least (both_hold (pattern_graph b) i j) c l h
