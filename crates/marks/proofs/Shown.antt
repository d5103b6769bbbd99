-- The tables show the built pattern's graph, since it has nothing past its positions. Assumes nothing.
use mathlib.Core.Path.{◌≡◌, refl, sym, ap, ap₂, ◌∙◌, subst}
use mathlib.Core.Bool.{Bool, true, false, ◌&&◌, and-false}
use mathlib.Core.List.{List}
use Prim.Native.Nat.{ℕ, suc, ◌+◌, ◌*◌, ◌^◌, ◌≤◌, ◌<◌}
use native.Mathlib.Omega.{arith}
use lib.Dec.{ltb}
use lib.ListN.{get_or}
use borrow.Author.Tests.{ltb-true, lt-ltb}
use Rattle.std.specs.Prelude.{if◌then◌else◌, Option, None, Some}
use Rattle.std.specs.Borrow.{Bor}
use Rattle.basics.proofs.Tests.{and_parts}
use Rattle.bits.specs.Bits.{has_bit}
use Rattle.letters.specs.LetterSet.{has_letter}
use Rattle.letters.specs.LetterSet.{set_at}
use Rattle.graph.specs.Taken.{letters_taken}
use Rattle.graph.specs.Graph.{Graph, several, Bounded, SingleLinks}
use Rattle.graph.specs.Built.{credit_in, graph_of_built}
use Rattle.graph.specs.declared.Built.{Built}
use Rattle.graph.proofs.Bounds.{below}
use Rattle.graph.proofs.Links.{not_several, built_next}
use Rattle.graph.proofs.Walks.{position_of}
use Rattle.columns.specs.Tables.{Columns}
use Rattle.frontier.specs.Rows.{weight}
use Rattle.frontier.specs.declared.Links.{Links}
use Rattle.marks.specs.Answers.{graph_of_tables, Summed, TablesSummed}

-- the table of the links beyond the first, where one is doubled
abbrev pub looked_up : Bool → Bor (List ℕ) → Option (Bor (List ℕ))
looked_up linked more = if linked then Some more else None

-- of links beyond the first there is none where none is doubled
same_number : (t linked : Bool) (more : Bor (List ℕ)) (u i : ℕ) → (linked ≡ false → several (if t then suc (get_or more.now (61 * u + i) 0) else 0) ≡ false)
    → (if t then weight (looked_up linked more) u i else 0) ≡ (if t then suc (get_or more.now (61 * u + i) 0) else 0)
same_number true true more u i h = refl
same_number true false more u i h = let l = not_several (suc (get_or more.now (61 * u + i) 0)) (h refl) in omega arith
same_number false linked more u i h = refl

module _ (b : Built) (more : Bor (List ℕ)) (bounded : Bounded (graph_of_built b more.now)) (holders : List ℕ) (held : Columns (λ i c. has_letter (set_at b.letters i) c) (b.positions + 1) holders) where
  pub holders_low : (c : ℕ) → get_or holders c 0 < 2 ^ 64 → get_or holders c 0 < 2 ^ 61
  holders_low c fits =
      below (get_or holders c 0) fits
      (λ i e.
      let l = ltb-true i (b.positions + 1) (and_parts (ltb i (b.positions + 1)) (has_letter (set_at b.letters i) c) (sym (held c i) ∙ e)).0 in
      let few = bounded.few in
      omega arith)

  pub tables_show : (b.doubled ≡ false → SingleLinks (graph_of_built b more.now)) → (tables : Links) → Columns (λ u i. has_bit (get_or b.follow u 0) i) (b.positions + 1) tables.before.now
      → tables.credits.now ≡ b.credits → tables.more ≡ looked_up b.doubled more → graph_of_tables b.positions holders tables b.lasts ≡ graph_of_built b more.now
  tables_show single tables turned credits same = λ k. record {
    positions = b.positions;
    links = λ u i.
        (ap₂ (λ (t : Bool) (m : Option (Bor (List ℕ))). if t then weight m u i else 0)
        (turned i u ∙ under u (has_bit (get_or b.follow u 0) i) (λ e. bounded.next_from u i (built_next b more.now u i ∙ e))) same
        ∙ same_number (has_bit (get_or b.follow u 0) i) b.doubled more u i (λ e. single e u i)) k;
    last = λ u. has_bit b.lasts u;
    holds = λ i c. (held c i ∙ under i (has_letter (set_at b.letters i) c) (λ e. (position_of (graph_of_built b more.now) i (bounded.holds_at i c e)).1)) k;
    credit = credit_in (credits k);
  }
    where
      under : (u : ℕ) (t : Bool) → (t ≡ true → u ≤ b.positions) → (ltb u (b.positions + 1) && t) ≡ t
      under u true h = let l = h refl in ap (λ (x : Bool). x && true) (lt-ltb u (b.positions + 1) (omega arith))
      under u false h = and-false (ltb u (b.positions + 1))

  -- so what holds of the tables' graph holds of the pattern's
  pub built_summed : (b.doubled ≡ false → SingleLinks (graph_of_built b more.now)) → {tables : Links} → Columns (λ u i. has_bit (get_or b.follow u 0) i) (b.positions + 1) tables.before.now
      → tables.credits.now ≡ b.credits → tables.more ≡ looked_up b.doubled more → {s : List ℕ} {count most taken : ℕ} → TablesSummed holders tables b.lasts s count most taken
      → Summed (graph_of_built b more.now) s count most × (taken ≡ letters_taken (graph_of_built b more.now) s)
  built_summed single {tables} turned credits same {s} {count} {most} {taken} h =
      let shown = tables_show single tables turned credits same in
      subst (λ (g : Graph). Summed g s count most × (taken ≡ letters_taken g s)) shown (h.summed b.positions (subst Bounded (sym shown) bounded))
