-- Readings are exact against POSIX's texts: a text of a part is one that has a reading, and no other text has one. A reading is a
-- run from 0 to 0 over the letters. Assumes nothing.
use mathlib.Core.Path.{◌≡◌, sym, ap, ◌∙◌}
use mathlib.Core.Logic.{◌↔◌}
use mathlib.Core.Bool.{true, false≢true}
use mathlib.Core.List.{List, [], ◌∷◌}
use Prim.Native.Nat.{ℕ, zero, suc}
use native.Mathlib.Omega.{arith}
use Rattle.basics.specs.Lists.{end_of}
use Rattle.graph.specs.Graph.{next, is_position}
use Rattle.graph.specs.Readings.{Transition, path, is_reading}
use Rattle.graph.proofs.Links.{some_if}
use Rattle.graph.proofs.Walks.{position_is, step_parts, step_of, Walk, plain, path_plain, walk_plain, reads_goes, goes_reads}
use Rattle.pattern.specs.Parts.{Part}
use Rattle.pattern.specs.Positions.{atom_at, is_first, last_of, graph_of}
use Rattle.pattern.specs.Texts.{Text}
use Rattle.pattern.proofs.Link.{Link, link_says}
use Rattle.pattern.proofs.Within.{within, agree_whole}
use Rattle.pattern.proofs.Runs.{Run, end, step, Holds, text_run}
use Rattle.pattern.proofs.RunTexts.{run_text}

-- ---- the graph's tests are links of the whole part

pub next_link : (p : Part) (u y : ℕ) → Link 0 p u (suc y) ↔ (next (graph_of p) u (suc y) ≡ true)
next_link p zero y = let e = some_if (is_first 0 p (suc y)) in (λ l. e ∙ (link_says p 0 0 (suc y)).0 l, λ h. (link_says p 0 0 (suc y)).1 (sym e ∙ h))
next_link p (suc x) y = link_says p 0 (suc x) (suc y)

pub last_link : (p : Part) (u : ℕ) → Link 0 p u 0 ↔ (last_of p u ≡ true)
last_link p zero = link_says p 0 0 0
last_link p (suc x) = link_says p 0 (suc x) 0

pub link_position : (p : Part) (u y : ℕ) → Link 0 p u (suc y) → is_position (graph_of p) (suc y) ≡ true
link_position p u y e = let w = (within p 0 u (suc y) e).1 in position_is (graph_of p) (suc y) (omega arith) (omega arith)

-- ---- a reading is a run, by whichever links

run_reading : (p : Part) {u : ℕ} {s : List ℕ} → Run (Holds (atom_at p)) 0 p u s 0 → (r : List ℕ) × Walk (graph_of p) u s r × (last_of p (end_of u r) ≡ true)
run_reading p {u} (end e) = ([], tt, (last_link p u).0 e)
run_reading p {u} (step {b = b} x e d k) =
    let r = run_reading p k in
    (suc x ∷ r.0, (step_of (graph_of p) u b (suc x) (link_position p u x e) ((next_link p u x).0 e) d, r.1), r.2)

reading_run : (p : Part) (u : ℕ) (s r : List ℕ) → Walk (graph_of p) u s r → last_of p (end_of u r) ≡ true → Run (Holds (atom_at p)) 0 p u s 0
reading_run p u [] [] h l = end ((last_link p u).1 l)
reading_run p u [] (i ∷ r) h l = absurd h
reading_run p u (b ∷ s) [] h l = absurd h
reading_run p u (b ∷ s) (zero ∷ r) h l = absurd (false≢true h.0)
reading_run p u (b ∷ s) (suc x ∷ r) h l = let c = step_parts (graph_of p) u b (suc x) h.0 in step x ((next_link p u x).1 c.1) c.2 (reading_run p (suc x) s r h.1 l)

pub texts_read : (p : Part) (s : List ℕ) → Text p s ↔ ((r : List Transition) × (is_reading (graph_of p) s r ≡ true))
texts_read p s = (
  λ t.
      let r = run_reading p (text_run (atom_at p) t 0 (agree_whole p)) in
      (plain r.0, goes_reads (graph_of p) 0 s (plain r.0) (walk_plain (graph_of p) 0 s r.0 r.1, ap (λ (c : List ℕ). last_of p (end_of 0 c)) (path_plain r.0) ∙ r.2)),
  λ r.
      let w = reads_goes (graph_of p) 0 s r.0 r.1 in
      run_text (atom_at p) p 0 (agree_whole p) (reading_run p 0 s (path r.0) w.0.0 w.1),
)
