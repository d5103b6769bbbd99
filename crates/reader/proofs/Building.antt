-- The graph that the built pattern shows. Two graphs are equal where they agree at every state, position and code; the rows and
-- sets agree with the rules' tests because no position past 60 passes one, and the numbers of links with the rules' because none is
-- above 256. Assumes nothing.
use mathlib.Core.Path.{◌≡◌, refl, ap, ap₂, ◌∙◌, subst}
use mathlib.Core.Bool.{Bool, true, false, ◌&&◌, ◌||◌, and-true, and-false, or-false}
use mathlib.Core.List.{List}
use mathlib.Core.Logic.{⊎_elim}
use Prim.Native.Nat.{ℕ, zero, suc, ◌+◌, ◌*◌, ◌≤◌, ◌<◌}
use native.Mathlib.Omega.{arith}
use lib.Dec.{eqb, ltb}
use lib.IntN.{ℤ, nat_abs}
use lib.ListN.{length, get_or, set}
use lib.Seq.{take_all, get_or-set_same, get_or-set_other}
use borrow.Author.Tests.{lt-ltb, le-ltb, ne_eqb, ltb-true}
use Rattle.std.specs.Prelude.{if◌then◌else◌}
use Rattle.basics.proofs.Tests.{and_of, by_test, le_or_lt}
use Rattle.bits.specs.Bits.{has_bit}
use Rattle.letters.specs.declared.LetterSet.{LetterSet}
use Rattle.graph.specs.Graph.{some, Bounded, SingleLinks}
use Rattle.graph.specs.Built.{graph_of_built}
use Rattle.graph.proofs.Best.{lowered_low}
use Rattle.graph.proofs.Links.{of_some, none_of, built_doubled}
use Rattle.graph.specs.declared.Built.{Built}
use Rattle.pattern.specs.Parts.{Atom, holds, Part}
use Rattle.pattern.specs.Grammar.{no_atom}
use Rattle.pattern.specs.Positions.{atoms, positions, atom_at, is_first, is_last, links, links_of, last_of, graph_of}
use Rattle.pattern.proofs.Own.{first_own, last_own, follow_own}
use Rattle.pattern.proofs.Bounds.{graph_bounded}
use Rattle.links.specs.Rows.{kept, entry, number, after, NoneCounted}
use Rattle.links.proofs.Counting.{after_few}
use Rattle.parsed.specs.Tables.{atom_of, Stored}
use Rattle.parsed.specs.Parsed.{shape_of}
use Rattle.parts.specs.Parsing.{Kept}
use Rattle.parsed.specs.declared.Parsed.{Parsed}

-- an atom of up to 60 is stored
atom_kept_at : (x : Part) → positions x ≤ 60 → (i : ℕ) → atom_of (atoms x) i ≡ atom_at x i
atom_kept_at x few zero = refl
atom_kept_at x few (suc i) = ap (λ (l : List Atom). get_or l i no_atom) (take_all 60 (atoms x) few)

-- so the tables bound the credits
pub stored_bounded : (x : Part) (sets : List LetterSet) (credits : List ℕ) → Stored (atoms x) sets credits → positions x ≤ 60 → Bounded (graph_of x)
stored_bounded x sets credits d few = graph_bounded x few (λ i. subst (λ (c : ℤ). nat_abs c ≤ 9) (d.credit i ∙ ap (λ (a : Atom). a.credit) (atom_kept_at x few i)) (lowered_low 1 (get_or credits i 9) (d.small i)))

-- a guard that a test implies
guard : (a b : Bool) → (b ≡ true → a ≡ true) → (a && b) ≡ b
guard a true h = and-true a ∙ h refl
guard a false h = and-false a

-- where there are none beyond the first, no two states have more than one link
pub single_shown : (b : Built) (more : List ℕ) → NoneCounted more → SingleLinks (graph_of_built b more)
single_shown b more e u i =
    built_doubled b more u i
    ∙ ap (λ (n : ℕ). has_bit (get_or b.follow u 0) i && some n) (e (61 * u + i))
    ∙ and-false (has_bit (get_or b.follow u 0) i)

module _ (p : Parsed) (rows : List ℕ) (sets : List LetterSet) (credits : List ℕ) (lasts : ℕ) (long : 0 < length rows) (low : p.n ≤ 60) (ends : (j : ℕ) → has_bit lasts j ≡ (has_bit p.lasts j || (p.empty && eqb 0 j))) where
  abbrev made : Built
  made = record { positions = p.n; follow = set rows 0 p.firsts; doubled = p.doubled; lasts = lasts; letters = sets; credits = credits; few = low }

  module _ (x : Part) (more : List ℕ) (w : Kept (shape_of x) rows more sets credits p) (few : positions x ≤ 60) (some_links : (u i : ℕ) → links_of x u i ≤ 256) where
    -- no link leads from 0, which is no position
    none_from_0 : (i : ℕ) → links 0 x 0 i ≡ 0
    none_from_0 i = by_test (some (links 0 x 0 i)) (λ e. let o = (follow_own x 0 0 i e).0 in absurd (omega arith)) (none_of (links 0 x 0 i))

    first_alone : (i : ℕ) → kept i ≡ true → get_or more (entry 0 i) 0 ≡ 0
    first_alone i k = let e : number rows more 0 i ≡ 0 = w.numbers 0 i refl k ∙ ap (λ (n : ℕ). after n 0) (none_from_0 i) in omega arith

    first_kept : (i : ℕ) → is_first 0 x i ≡ true → kept i ≡ true
    first_kept i e = let o = first_own x 0 i e in lt-ltb i 61 (omega arith)

    -- two that have a link are kept
    link_kept : (u i : ℕ) → 1 ≤ links 0 x u i → (kept u ≡ true) × (kept i ≡ true)
    link_kept u i l =
        let o = follow_own x 0 u i (of_some (links 0 x u i) l) in
        let q = o.0 in
        let r = o.1 in
        (lt-ltb u 61 (omega arith), lt-ltb i 61 (omega arith))

    row_at : (u i : ℕ) → has_bit (get_or rows u 0) i ≡ ltb 0 (links 0 x u i)
    row_at u i =
        w.links u i
        ∙ guard (kept u && kept i) (ltb 0 (links 0 x u i)) (λ e. let k = link_kept u i (ltb-true 0 (links 0 x u i) e) in and_of (kept u) (kept i) k.0 k.1)

    links_at : (u i : ℕ) → (graph_of_built made more).links u i ≡ links_of x u i
    links_at zero i =
        ap (λ (b : Bool). if b then suc (get_or more (entry 0 i) 0) else 0)
        (ap (λ (m : ℕ). has_bit m i) (get_or-set_same rows 0 p.firsts 0 long) ∙ w.firsts i ∙ guard (kept i) (is_first 0 x i) (first_kept i))
        ∙ one (is_first 0 x i) (λ e. first_alone i (first_kept i e))
      where
        one : (b : Bool) → (b ≡ true → get_or more (entry 0 i) 0 ≡ 0) → ◌≡◌ {A = ℕ} (if b then suc (get_or more (entry 0 i) 0) else 0) (if b then 1 else 0)
        one true h = ap suc (h refl)
        one false h = refl
    links_at (suc u) i =
        ap (λ (b : Bool). if b then suc (get_or more (entry (suc u) i) 0) else 0)
        (ap (λ (m : ℕ). has_bit m i) (get_or-set_other rows 0 (suc u) p.firsts 0 (λ z. omega arith)) ∙ row_at (suc u) i)
        ∙ ⊎_elim
        (λ h. ap (λ (b : Bool). if b then suc (get_or more (entry (suc u) i) 0) else 0) (le-ltb 0 (links 0 x (suc u) i) h) ∙ none h)
        (λ h. ap (λ (b : Bool). if b then suc (get_or more (entry (suc u) i) 0) else 0) (lt-ltb 0 (links 0 x (suc u) i) h) ∙ all h) (le_or_lt (links 0 x (suc u) i) 0)
      where
        none : links 0 x (suc u) i ≤ 0 → 0 ≡ links 0 x (suc u) i
        none h = omega arith

        all : 0 < links 0 x (suc u) i → suc (get_or more (entry (suc u) i) 0) ≡ links 0 x (suc u) i
        all h =
            let k = link_kept (suc u) i h in
            let e : number rows more (suc u) i ≡ links 0 x (suc u) i = w.numbers (suc u) i k.0 k.1 ∙ after_few (links 0 x (suc u) i) (some_links (suc u) i) in
            let f : number rows more (suc u) i ≡ 1 + get_or more (entry (suc u) i) 0 = ap (λ (b : Bool). (if b then 1 else 0) + get_or more (entry (suc u) i) 0) (row_at (suc u) i ∙ lt-ltb 0 (links 0 x (suc u) i) h) in
            omega arith

    last_at : (u : ℕ) → (graph_of_built made more).last u ≡ last_of x u
    last_at zero = ends 0 ∙ ap₂ ◌||◌ (w.lasts 0 ∙ no_zero (is_last 0 x 0) (λ e. omega (arith, last_own x 0 0 e))) (and-true p.empty) ∙ w.empty
      where
        no_zero : (b : Bool) → (b ≡ true → ⊥) → b ≡ false
        no_zero true h = absurd (h refl)
        no_zero false h = refl
    last_at (suc u) =
        ends (suc u) ∙ ap₂ ◌||◌ (w.lasts (suc u) ∙ guard (kept (suc u)) (is_last 0 x (suc u)) (λ e. let o = last_own x 0 (suc u) e in lt-ltb (suc u) 61 (omega arith)))
        (ap (λ (b : Bool). p.empty && b) (ne_eqb 0 (suc u) (λ z. omega arith)) ∙ and-false p.empty) ∙ or-false (is_last 0 x (suc u))

    pub built_shown : graph_of_built made more ≡ graph_of x
    built_shown = λ t. record {
      positions = w.count t;
      links = λ u i. links_at u i t;
      last = λ u. last_at u t;
      holds = λ i c. (w.stored.has i c ∙ ap (λ (a : Atom). holds a c) (atom_kept_at x few i)) t;
      credit = λ i. (w.stored.credit i ∙ ap (λ (a : Atom). a.credit) (atom_kept_at x few i)) t;
    }
